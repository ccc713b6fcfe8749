-- The last chain is the one at the last index.
use Rattle.std.proofs.Common.{◌≡◌, ◌+◌, ◌-◌, length, ap, ◌∙◌, arith}
use Rattle.grain_listing.proofs.LastChain.{steps_there}
use Rattle.grain_listing.proofs.chain_lines.last_count.Goals as goal

pub returns : goal.returns
returns c =
    let long : length c.args.chains.now ≡ (c.len-count.result - 1) + 1 =
    omega (arith, c.len-count.ensures, c.if-count-eq0.false) in
    c.len.ensures ∙ ap length (steps_there c.args.chains.now (c.len-count.result - 1)
    c.at.result.now long c.at.ensures)
