use Rattle.std.proofs.Common.{◌≡◌, ℕ, zero, suc, List, [], ◌∷◌, None, slice_index_or, refl, subst}
use Rattle.std.specs.Prelude.{slice_get}
use Rattle.grain_chain.proofs.contexts.name_at.Goals as goal

-- past the end of a list
missing : {A : Type 0} (xs : List A) (i : ℕ) (d : A) → None ≡ slice_get xs i →
    d ≡ slice_index_or xs i d
missing [] i d h = refl
missing (x ∷ xs) zero d h = cc
missing (x ∷ xs) (suc i) d h = missing xs i d h

pub returns-in-None : goal.returns-in-None
returns-in-None c =
    subst (λ (names : List (List ℕ)). [] ≡ slice_index_or names c.args.index []) c.names.ensures
    (missing c.names.result.now c.args.index [] c.in-None.ensures)
