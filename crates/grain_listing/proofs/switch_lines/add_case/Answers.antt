-- The last switch is the one at the last index.
use Rattle.std.proofs.Common.{◌≡◌, ◌+◌, ◌-◌, length, sym, ap, ◌∙◌, arith}
use Rattle.std.specs.Option.{option_copied_mut}
use Rattle.grain_listing.proofs.LastSwitch.{case_added, some_last}
use Rattle.grain_listing.proofs.switch_lines.add_case.Goals as goal

pub returns-in-Some : goal.returns-in-Some
returns-in-Some c =
    let long : length c.args.switches.now ≡ (c.len-count.result - 1) + 1 =
    omega (arith, c.len-count.ensures, c.if-count-eq0.false) in
    case_added c.push.result c.args.case c.args.switches.now (c.len-count.result - 1)
    c.in-Some.switch.now c.push.new.self long (sym c.in-Some.ensures.value) c.push.ensures

pub returns-in-None : goal.returns-in-None
returns-in-None c =
    let long : length c.args.switches.now ≡ (c.len-count.result - 1) + 1 =
    omega (arith, c.len-count.ensures, c.if-count-eq0.false) in
    absurd (some_last c.args.switches.now (c.len-count.result - 1) long
    (sym c.get_mut.ensures.value ∙ ap option_copied_mut c.in-None.is))
