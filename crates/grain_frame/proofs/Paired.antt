-- Two loads of integers and the operator after them: neither integer is pushed.
use Rattle.std.proofs.Common.{◌≡◌, ◌+◌, ◌∙◌, ℤ, List, [], ◌∷◌, ◌++◌, length, refl, arith, length-append}
use Rattle.grain_value.specs.declared.values.Held.{Held}
use Rattle.grain_value.specs.declared.values.Dynamic.TheVariants as dynamic
use Rattle.grain_value.specs.Operands.{under, read_write}
use Rattle.grain_frame.specs.declared.runs.Run.{Run}
use Rattle.grain_frame.specs.Following.{loaded, without_two}
use Rattle.grain_frame.proofs.Branching.{below_pushed}
use Rattle.grain_frame.proofs.Loading.{under_pushed}

-- two operands are pushed, and go
pub under_both : (xs : List Held) (a b : Held) → under 2 ((xs ++ a ∷ []) ++ b ∷ []) ≡ xs
under_both xs a b = under_pushed (xs ++ a ∷ []) b ∙ below_pushed xs a

module _ {H : Type 0} (s : Run H) (x y : ℤ) where
  -- how many operands there are once both integers are loaded
  pub length_both : length (loaded (loaded s x) y).stacks.operands ≡ length s.stacks.operands + 2
  length_both =
      omega (
        arith,
        length-append s.stacks.operands (read_write (dynamic.Int x) ∷ []),
        length-append (s.stacks.operands ++ read_write (dynamic.Int x) ∷ [])
            (read_write (dynamic.Int y) ∷ []),
      )

  -- both are taken away
  pub without_both : without_two (loaded (loaded s x) y) ≡ s
  without_both =
      rw (under_both s.stacks.operands (read_write (dynamic.Int x)) (read_write (dynamic.Int y))) refl

  -- an operator gives an integer for both
  pub answered_int : (z : ℤ) → record (loaded (loaded s x) y) {
    stacks = record (loaded (loaded s x) y).stacks {
      operands = under 2 (loaded (loaded s x) y).stacks.operands ++ read_write (dynamic.Int z) ∷ [];
    };
  } ≡ loaded s z
  answered_int z =
      rw (under_both s.stacks.operands (read_write (dynamic.Int x)) (read_write (dynamic.Int y))) refl
