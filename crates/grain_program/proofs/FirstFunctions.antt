-- The table of the first function of each name.
use Rattle.std.proofs.Common.{◌≡◌, ℕ, ◌+◌, ◌<◌, ◌≤◌, ◌==◌, ◌&&◌, ◌⊎◌, Bool, true, false, cond, List, [], ◌∷◌, length, drop, get_or, Option, Some, None, refl, sym, ap, ◌∙◌, inl, inr}
use Rattle.std.specs.List.{position_from}
use Rattle.std.proofs.lemmas.Bool.{cases_lt, eq-eqb}
use Rattle.std.proofs.lemmas.List.{get_or_past}
use Rattle.grain_program.specs.declared.code.functions.Function.{Function}
use Rattle.grain_program.specs.declared.lookups.First.{First}
use Rattle.grain_program.specs.Lookups.{is_named_so, is_called, first_named, AreFirst}

abbrev this : Function → ℕ → First
this f number = record { number = number; count = length f.params }

-- the first function of a name is the first of that name with its number of parameters
first_called : (name from : ℕ) (fs : List Function) (g : First) → first_named name from fs ≡ Some g
    → position_from (is_called name g.count) from fs ≡ Some g.number
first_called name from [] g e = absurd cc
first_called name from (f ∷ fs) g e =
    at (is_named_so name f) refl e (λ k. first_called name (from + 1) fs g k) where
      at : (b : Bool) → is_named_so name f ≡ b
          → cond b (Some (this f from)) (first_named name (from + 1) fs) ≡ Some g
          → (first_named name (from + 1) fs ≡ Some g
          → position_from (is_called name g.count) (from + 1) fs ≡ Some g.number)
          → position_from (is_called name g.count) from (f ∷ fs) ≡ Some g.number
      at true t k more =
          let it : this f from ≡ g = cc in
          ap (λ (b : Bool). cond (b && (length f.params == g.count)) (Some from) (position_from
          (is_called name g.count) (from + 1) fs)) t
          ∙ ap (λ (b : Bool). cond b (Some from) (position_from (is_called name g.count) (from + 1)
          fs)) (eq-eqb (length f.params) g.count (ap (λ (x : First). x.count) it))
          ∙ ap (λ (x : First). Some x.number) it
      at false t k more =
          ap (λ (b : Bool). cond (b && (length f.params == g.count)) (Some from) (position_from
          (is_called name g.count) (from + 1) fs)) t
          ∙ more k

-- what the table says of a name is right
pub first_right : (fs : List Function) (firsts : List (Option First)) → AreFirst fs firsts
    → (name : ℕ) (g : First) → get_or firsts name None ≡ Some g
    → position_from (is_called name g.count) 0 fs ≡ Some g.number
first_right fs firsts all name g e = at (cases_lt name (length firsts)) where
  at : (name < length firsts) ⊎ (length firsts ≤ name)
      → position_from (is_called name g.count) 0 fs ≡ Some g.number
  at (inl lt) = first_called name 0 fs g (sym (all name lt) ∙ e)
  at (inr le) = let none : None ≡ Some g = sym (get_or_past firsts name None le) ∙ e in absurd cc

-- the table has the first ones of the functions from the number on
abbrev pub FirstFrom : List Function → ℕ → List (Option First) → Type 0
FirstFrom fs i firsts =
    (name : ℕ) → name < length firsts → get_or firsts name None ≡ first_named name i (drop i fs)
