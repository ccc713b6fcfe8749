-- Operands to which entries of a scope give values back.
use Rattle.std.specs.Prelude.{ℕ, zero, suc, List, [], ◌∷◌}
use Rattle.grain_value.specs.declared.scopes.Entry.{Entry}
use Rattle.grain_value.specs.declared.values.Held.{Held}

-- the operands from an index on have the values of these entries, as many as there are of both
abbrev pub regained : ℕ → List Entry → List Held → List Held
regained n es [] = []
regained zero [] (h ∷ hs) = h ∷ hs
regained zero (e ∷ es) (h ∷ hs) = record h { value = e.held.value } ∷ regained zero es hs
regained (suc n) es (h ∷ hs) = h ∷ regained n es hs
