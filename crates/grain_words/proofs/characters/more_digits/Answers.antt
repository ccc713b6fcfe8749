use Rattle.std.proofs.Common.{rules, arith, ◌≡◌, ◌∷◌, ◌<◌, ◌*◌, ◌+◌}
use Rattle.std.specs.Char.{digit_value}
use Rattle.grain_words.proofs.Digits.{digits_over}
use Rattle.grain_words.proofs.characters.more_digits.Goals as goal

pub returns-in_err-number-clause-found : goal.returns-in_err-number-clause-found
returns-in_err-number-clause-found c =
    let r : c.scan.rest.now ≡ c.in-Some.c.now ∷ c.in-Some.after.now = search rules in
    let d : c.in_ok-digit.digit ≡ digit_value c.in-Some.c.now = search rules in
    let hex : digit_value c.in-Some.c.now < 16 = omega (arith, d, c.in_ok-digit.ensures.value) in
    let over : 0x10ffff < c.scan.number * 16 + digit_value c.in-Some.c.now =
    omega (arith, d, c.in_err-number.ensures) in
    rw c.from_residual-in_err-number.ensures
    (digits_over c.scan.number c.in-Some.c.now c.args.first c.scan.rest.now c.in-Some.after.now
    c.args.chars.now r c.if-c-eq125.false hex over c.scan.invariant.0)
