-- The last switch is the one at the last index.
use Rattle.std.proofs.Common.{◌≡◌, ◌+◌, ◌-◌, length, ap, ◌∙◌, arith}
use Rattle.grain_listing.specs.declared.switch_words.AimedSwitch.{AimedSwitch}
use Rattle.grain_listing.proofs.LastSwitch.{last_has}
use Rattle.grain_listing.proofs.switch_lines.case_count.Goals as goal

pub returns : goal.returns
returns c =
    let long : length c.args.switches.now ≡ (c.len-count.result - 1) + 1 =
    omega (arith, c.len-count.ensures, c.if-count-eq0.false) in
    c.len.ensures ∙ ap length (last_has (λ (s : AimedSwitch). s.cases) c.args.switches.now
    (c.len-count.result - 1) c.at.result.now long c.at.ensures)
