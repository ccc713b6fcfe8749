use Rattle.std.proofs.Common.{rules, arith, ◌≡◌, ◌∷◌, ◌+◌, length}
use Rattle.grain_words.proofs.FirstColons.{colon_later}
use Rattle.grain_words.proofs.position_words.at_colon.Goals as goal

pub scan-preserved : goal.scan-preserved
scan-preserved c =
    let r : c.scan.rest.now ≡ c.in-Some.c.now ∷ c.in-Some.after.now = search rules in
    let n : length c.scan.rest.now ≡ length c.in-Some.after.now + 1 = search (rules, r) in
    let more = colon_later c.scan.count c.in-Some.c.now c.args.word.now c.scan.rest.now
    c.in-Some.after.now r c.if-c-eq58.false c.scan.invariant.1 c.scan.invariant.0 in
    (more.0, more.1, omega (arith, n, c.scan.invariant.2))
