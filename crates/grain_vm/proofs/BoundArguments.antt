-- Arguments of a function that a walk calls become entries of its scope one by one.
use Rattle.std.proofs.Common.{◌≡◌, ◌∙◌, ◌<◌, ◌+◌, ℕ, zero, suc, List, [], ◌∷◌, ◌++◌, Some, false, length, drop, get_or, refl, arith, append_assoc, append-nil, ap, map, subst, sym}
use Rattle.std.specs.Prelude.{slice_get, slice_index_or}
use Rattle.grain_value.specs.Tree.{Tree}
use Rattle.grain_value.specs.View.{trees}
use Rattle.grain_value.specs.Operands.{bound_entries, read_write}
use Rattle.grain_value.specs.Scopes.{new_entry}
use Rattle.grain_value.specs.declared.scopes.Entry.{Entry}
use Rattle.grain_value.specs.declared.values.Dynamic.{Dynamic}
use Rattle.grain_value.specs.declared.values.Held.{Held}
use Rattle.grain_value.specs.laws.Same.{value_of-tree}
use Rattle.grain_vm.specs.Methods.{given_to}
use Rattle.grain_vm.proofs.CatchSteps.{bound_entry}

-- a number and those after it
drop_number : (i : ℕ) (ns : List ℕ) → i < length ns → drop i ns ≡ get_or ns i 0 ∷ drop (suc i) ns
drop_number i [] lt = absurd (omega (arith, lt))
drop_number zero (n ∷ ns) lt = refl
drop_number (suc i) (n ∷ ns) lt = drop_number i ns (omega (arith, lt))

-- one argument more is bound
pub bound_next : (scope scope' : List Entry) (names : List (List ℕ)) (ps : List ℕ)
    (vs : List Dynamic) (i : ℕ) (name : List ℕ) (v : Dynamic) (h : Held) → i < length ps →
    slice_get names (get_or ps i 0) ≡ Some name → h.value ≡ v → h.read_only ≡ false →
    scope' ≡ scope ++ new_entry name h ∷ [] →
    scope' ++ bound_entries names (drop (i + 1) ps) (map read_write vs)
    ≡ scope ++ bound_entries names (drop i ps) (map read_write (v ∷ vs))
bound_next scope scope' names ps vs i name v h inside named value only is =
    ap (λ (es : List Entry). es ++ rest)
    (is ∙ bound_entry names (get_or ps i 0) name h v scope named value only)
    ∙ append_assoc scope
    (new_entry (slice_index_or names (get_or ps i 0) []) (read_write v) ∷ []) rest
    ∙ ap (λ (ns : List ℕ). scope ++ bound_entries names ns (map read_write (v ∷ vs))) (sym first) where
      rest : List Entry
      rest = bound_entries names (drop (i + 1) ps) (map read_write vs)

      first : drop i ps ≡ get_or ps i 0 ∷ drop (i + 1) ps
      first =
          subst (λ (k : ℕ). drop i ps ≡ get_or ps i 0 ∷ drop k ps)
          (let one : suc i ≡ i + 1 = omega arith in one) (drop_number i ps inside)

none_bound : (names : List (List ℕ)) (ns : List ℕ) → bound_entries names ns [] ≡ []
none_bound names [] = refl
none_bound names (n ∷ ns) = refl

-- values that are bound are those that the arguments give
given_values : (vs : List Dynamic) (ts : List Tree) → trees vs ≡ ts →
    map read_write vs ≡ given_to ts
given_values vs ts is = values_are vs ∙ ap given_to is where
  values_are : (vs : List Dynamic) → map read_write vs ≡ given_to (trees vs)
  values_are [] = refl
  values_are (v ∷ vs) = rw (value_of-tree v, values_are vs) refl

-- all are bound
pub all_bound : (scope : List Entry) (names : List (List ℕ)) (ps ns : List ℕ)
    (left vs : List Dynamic) (ts : List Tree) → left ≡ [] →
    scope ++ bound_entries names ns (map read_write left)
    ≡ bound_entries names ps (map read_write vs) → trees vs ≡ ts →
    scope ≡ bound_entries names ps (given_to ts)
all_bound scope names ps ns left vs ts none so is =
    sym (append-nil scope)
    ∙ ap (λ (es : List Entry). scope ++ es) (sym (none_bound names ns))
    ∙ ap (λ (ws : List Dynamic). scope ++ bound_entries names ns (map read_write ws)) (sym none)
    ∙ so ∙ ap (λ (hs : List Held). bound_entries names ps hs) (given_values vs ts is)

pub none_left : (vs : List Dynamic) → length vs ≡ 0 → vs ≡ []
none_left [] e = refl
none_left (v ∷ vs) e = absurd (omega (arith, e))
