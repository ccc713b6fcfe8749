-- What a write does to an entry of a scope: it keeps its name.
use Rattle.std.proofs.Common.{◌≡◌, ◌∙◌, ◌⊎◌, inl, ◌<◌, ◌≤◌, ℕ, zero, suc, List, [], ◌∷◌, length, get_or, Some, None, option_map, slice_get, refl, sym, ap, arith}
use Rattle.std.proofs.Math.Path.{fun_ext}
use Rattle.std.proofs.lemmas.Option.{slice_get_read, slice_get_past}
use Rattle.std.specs.Prelude.{slice_set}
use Rattle.grain_value.specs.Scopes.{held_of, set_held}
use Rattle.grain_value.specs.declared.scopes.Entry.{Entry}
use Rattle.grain_value.specs.declared.values.Held.{Held}

pub keeps_name : (es : List Entry) (i : ℕ) (e : Entry) (h : Held) → i < length es →
    e ≡ get_or es i e → slice_set es i (record e { held = h }) ≡ set_held es i h
keeps_name [] i e h lt is = absurd (omega arith)
keeps_name (x ∷ es) zero e h lt is = ap (λ (y : Entry). record y { held = h } ∷ es) is
keeps_name (x ∷ es) (suc i) e h lt is =
    ap (λ (l : List Entry). x ∷ l) (keeps_name es i e h (omega arith) is)

-- the scope that a borrowed entry is given back to
pub gives_back : (es now : List Entry) (i : ℕ) (e : Entry) → es ≡ now → i < length es →
    e ≡ get_or es i e → (λ (h : Held). slice_set es i (record e { held = h }))
    ≡ set_held now i
gives_back es now i e same lt is =
    fun_ext (λ (h : Held). keeps_name es i e h lt is ∙ ap (λ (l : List Entry). set_held l i h) same)

-- what the entry at the index holds
pub holds : (es now : List Entry) (i : ℕ) (e : Entry) → es ≡ now → i < length es →
    e ≡ get_or es i e → Some e.held ≡ option_map held_of (slice_get now i)
holds es now i e same lt is =
    rw (← same) (sym (ap (option_map held_of) (slice_get_read es (length es) i e refl lt is)))

-- past the end there is no entry
pub holds_none : (es now : List Entry) (i : ℕ) → es ≡ now → length es ≤ i →
    None ≡ option_map held_of (slice_get now i)
holds_none es now i same le = rw (← same) (sym (ap (option_map held_of) (slice_get_past es i le)))

-- two lenders are one where they are given back alike
pub same_loan : {N : Type 0} (name : N) (f g : Held → List Entry) → f ≡ g →
    (let l : (N × (Held → List Entry)) ⊎ List Entry = inl (name, f) in l) ≡ inl (name, g)
same_loan name f g same = ap (λ (h : Held → List Entry). inl (name, h)) same
