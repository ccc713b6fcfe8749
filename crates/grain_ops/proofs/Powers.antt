-- Powers of an exponent so large that only 0, 1 and -1 have one that fits 64 bits.
use Rattle.std.proofs.Common.{◌≡◌, ◌<◌, ◌≤◌, ◌^◌, ◌-◌, ◌%◌, ◌==◌, ℕ, zero, suc, Bool, true, false, cond, refl, ap, arith, ℤ, pos, negsuc}
use Rattle.std.specs.Prelude.{unsigned_abs, neg_ℤ, FitsSigned}
use Rattle.std.specs.Int.{int_pow, w64, cast_unsigned}
use Rattle.std.proofs.Math.Nat.{pow-le-pow_left, pow-le-pow_right}
use Rattle.grain_ops.specs.Calculations.{fits64}

pub one_power : (e : ℕ) → 1 ^ e ≡ 1
one_power zero = refl
one_power (suc e) = let h = one_power e in omega (arith, h)

pub zero_power : (e : ℕ) → 64 ≤ e → 0 ^ e ≡ 0
zero_power zero h = omega (arith, h)
zero_power (suc e) h = omega arith

-- a number above 1 to such a power is past 64 bits
pub large_power : (a e : ℕ) → 2 ≤ a → 64 ≤ e → 2 ^ 64 ≤ a ^ e
large_power a e two many =
    let by_base : 2 ^ e ≤ a ^ e = pow-le-pow_left two e in
    let by_exponent : 2 ^ 64 ≤ 2 ^ e = pow-le-pow_right {n = 2} (omega arith) many in
    omega (arith, by_base, by_exponent)

large_fits : (m : ℕ) → 2 ^ 64 ≤ m → fits64 (pos m) ≡ false
large_fits m h = grind arith

large_negative_fits : (m : ℕ) → 2 ^ 64 ≤ m → fits64 (neg_ℤ (pos m)) ≡ false
large_negative_fits zero h = let none : ⊥ = omega (arith, h) in absurd none
large_negative_fits (suc m) h = grind arith

by_sign : (even : Bool) (m : ℕ) → 2 ^ 64 ≤ m → fits64 (cond even (pos m) (neg_ℤ (pos m))) ≡ false
by_sign true m h = large_fits m h
by_sign false m h = large_negative_fits m h

pub does_not_fit : (x : ℤ) (e : ℕ) → 2 ≤ unsigned_abs x → 64 ≤ e → fits64 (int_pow x e) ≡ false
does_not_fit (pos a) e two many = large_fits (a ^ e) (large_power a e two many)
does_not_fit (negsuc a) e two many =
    by_sign (e % 2 == 0) (suc a ^ e) (large_power (suc a) e two many)

-- 0, 1 and -1 to such a power
abbrev pub IsPower : ℤ → ℕ → ℤ → Type 0
IsPower x e z = (z ≡ int_pow x e) × (fits64 (int_pow x e) ≡ true)

pub of_zero : (x : ℤ) (e : ℕ) → x ≡ pos 0 → 64 ≤ e → IsPower x e (pos 0)
of_zero x e is many = rw (is, zero_power e many) (refl, refl)

pub of_one : (x : ℤ) (e : ℕ) → x ≡ pos 1 → IsPower x e (pos 1)
of_one x e is = rw (is, one_power e) (refl, refl)

pub of_minus_one : (x : ℤ) (e : ℕ) → x ≡ negsuc 0 → (e % 2 == 0) ≡ true → IsPower x e (pos 1)
of_minus_one x e is even = rw (is, even, one_power e) (refl, refl)

pub of_minus_one_odd : (x : ℤ) (e : ℕ) → x ≡ negsuc 0 → (e % 2 == 0) ≡ false →
    IsPower x e (negsuc 0)
of_minus_one_odd x e is odd = rw (is, odd, one_power e) (refl, refl)

-- what a comparison of the bits says
pub is_number : (x : ℤ) (n : ℕ) → FitsSigned w64 x → n < 2 ^ 63 → cast_unsigned w64 x ≡ n →
    x ≡ pos n
is_number (pos a) n fits small is = ap pos is
is_number (negsuc a) n fits small is =
    let none : ⊥ = omega (arith, fits.sfits, small, is) in absurd none

pub is_minus_one : (x : ℤ) → FitsSigned w64 x → cast_unsigned w64 x ≡ 2 ^ 64 - 1 → x ≡ negsuc 0
is_minus_one (pos a) fits is = let none : ⊥ = omega (arith, fits.sfits, is) in absurd none
is_minus_one (negsuc a) fits is =
    let zero_is : a ≡ 0 = omega (arith, fits.sfits, is) in ap negsuc zero_is

pub is_large : (x : ℤ) → FitsSigned w64 x → (cast_unsigned w64 x ≡ 0 → ⊥) →
    (cast_unsigned w64 x ≡ 1 → ⊥) → (cast_unsigned w64 x ≡ 2 ^ 64 - 1 → ⊥) → 2 ≤ unsigned_abs x
is_large (pos a) fits not_0 not_1 not_minus_1 = omega (arith, not_0, not_1)
is_large (negsuc a) fits not_0 not_1 not_minus_1 = omega (arith, fits.sfits, not_minus_1)
