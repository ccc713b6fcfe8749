use Rattle.std.proofs.Common.{rules, arith, sym, ◌≡◌, ◌∷◌, ◌<◌, ◌*◌, ◌+◌, ◌-◌}
use Rattle.grain_words.proofs.Digits.{too_big}
use Rattle.grain_words.proofs.numerals.number.Goals as goal

pub returns-in_default-grown : goal.returns-in_default-grown
returns-in_default-grown c =
    let r : c.digits.rest.now ≡ c.in-Some.c.now ∷ c.in-Some.after.now = search rules in
    let b : c.args.most < c.digits.number * 10 + (c.in-Some.c.now - 48) =
    omega (arith, c.in_default-grown.ensures) in
    sym (too_big c.args.most c.digits.number c.in-Some.c.now c.digits.rest.now c.in-Some.after.now
    c.args.word.now r c.digits.invariant.0 b)
