-- Values that were moved to a scope go back to their operands.
use Rattle.std.proofs.Common.{◌≡◌, ◌∙◌, ◌<◌, ◌≤◌, ℕ, zero, suc, ◌+◌, ◌-◌, List, [], ◌∷◌, ◌++◌, Some, None, option_map, slice_get, length, take, drop, refl, ap, arith, length-drop}
use Rattle.std.specs.Prelude.{slice_set}
use Rattle.std.proofs.Math.Seq.{drop-length}
use Rattle.std.proofs.lemmas.List.{drop-append-le}
use Rattle.grain_value.specs.declared.values.Dynamic.{Dynamic}
use Rattle.grain_value.specs.declared.values.Held.{Held}
use Rattle.grain_value.specs.declared.scopes.Entry.{Entry}
use Rattle.grain_value.specs.Scopes.{held_of, set_held}
use Rattle.grain_stack.specs.Filled.{operand_at}
use Rattle.grain_stack.specs.Regained.{regained}

pub regained_none : (n : ℕ) (hs : List Held) → regained n [] hs ≡ hs
regained_none zero [] = refl
regained_none (suc n) [] = refl
regained_none zero (h ∷ hs) = refl
regained_none (suc n) (h ∷ hs) = ap (λ (l : List Held). h ∷ l) (regained_none n hs)

-- the first of the entries has given its value back
pub regained_next : (n k : ℕ) (e : Entry) (es : List Entry) (hs : List Held) (v : Dynamic) →
    k ≡ n + 1 → v ≡ e.held.value →
    regained k es (slice_set hs n (record (operand_at n hs) { value = v })) ≡ regained n (e ∷ es) hs
regained_next zero zero e es hs v ek ev = absurd (omega (arith, ek))
regained_next (suc n) zero e es hs v ek ev = absurd (omega (arith, ek))
regained_next zero (suc k) e es [] v ek ev = refl
regained_next (suc n) (suc k) e es [] v ek ev = refl
regained_next zero (suc zero) e es (h ∷ hs) v ek ev =
    ap (λ (x : Dynamic). record h { value = x } ∷ regained zero es hs) ev
regained_next zero (suc (suc k)) e es (h ∷ hs) v ek ev = absurd (omega (arith, ek))
regained_next (suc n) (suc k) e es (h ∷ hs) v ek ev =
    ap (λ (l : List Held). h ∷ l) (regained_next n k e es hs v (omega (arith, ek)) ev)

-- one entry more has the value of the operand after those that would regain theirs
pub regained_more : (n k : ℕ) (e : Entry) (es : List Entry) (hs : List Held) (v : Dynamic) →
    k ≡ n + length es → e.held.value ≡ (operand_at k hs).value → k < length hs →
    regained n (es ++ e ∷ []) (slice_set hs k (record (operand_at k hs) { value = v }))
    ≡ regained n es hs
regained_more n k e es [] v ek is lt = absurd (omega (arith, lt))
regained_more zero zero e [] (h ∷ hs) v ek is lt =
    rw (is, regained_none zero hs) refl
regained_more zero zero e (x ∷ es) (h ∷ hs) v ek is lt = absurd (omega (arith, ek))
regained_more zero (suc k) e [] (h ∷ hs) v ek is lt = absurd (omega (arith, ek))
regained_more zero (suc k) e (x ∷ es) (h ∷ hs) v ek is lt =
    ap (λ (l : List Held). record h { value = x.held.value } ∷ l)
    (regained_more zero k e es hs v (omega (arith, ek)) is (omega (arith, lt)))
regained_more (suc n) zero e es (h ∷ hs) v ek is lt = absurd (omega (arith, ek))
regained_more (suc n) (suc k) e es (h ∷ hs) v ek is lt =
    ap (λ (l : List Held). h ∷ l)
    (regained_more n k e es hs v (omega (arith, ek)) is (omega (arith, lt)))

-- ---- a scope whose entry is written

pub held_length : (es : List Entry) (n : ℕ) (h : Held) → length (set_held es n h) ≡ length es
held_length [] n h = refl
held_length (e ∷ es) zero h = refl
held_length (e ∷ es) (suc n) h = ap (λ (m : ℕ). suc m) (held_length es n h)

pub held_front : (b n : ℕ) (es : List Entry) (h : Held) → b ≤ n →
    take b (set_held es n h) ≡ take b es
held_front zero n es h le = refl
held_front (suc b) n [] h le = refl
held_front (suc b) zero (e ∷ es) h le = absurd (omega (arith, le))
held_front (suc b) (suc n) (e ∷ es) h le =
    ap (λ (l : List Entry). e ∷ l) (held_front b n es h (omega (arith, le)))

held_behind : (n k : ℕ) (es : List Entry) (h : Held) → k ≡ n + 1 →
    drop k (set_held es n h) ≡ drop k es
held_behind n k [] h ek = refl
held_behind zero zero (e ∷ es) h ek = absurd (omega (arith, ek))
held_behind (suc n) zero (e ∷ es) h ek = absurd (omega (arith, ek))
held_behind zero (suc k) (e ∷ es) h ek = refl
held_behind (suc n) (suc k) (e ∷ es) h ek = held_behind n k es h (omega (arith, ek))

pub no_entry : (n : ℕ) (es : List Entry) → None ≡ option_map held_of (slice_get es n) →
    length es ≤ n
no_entry n [] is = omega arith
no_entry zero (e ∷ es) is = absurd cc
no_entry (suc n) (e ∷ es) is = omega (arith, no_entry n es is)

-- the entry at an index stands before those after it
entry_first : (n k : ℕ) (es : List Entry) (h : Held) → k ≡ n + 1 →
    Some h ≡ option_map held_of (slice_get es n) →
    (e : Entry) × (drop n es ≡ e ∷ drop k es) × (h ≡ e.held)
entry_first n k [] h ek is = absurd cc
entry_first zero zero (e ∷ es) h ek is = absurd (omega (arith, ek))
entry_first (suc n) zero (e ∷ es) h ek is = absurd (omega (arith, ek))
entry_first zero (suc zero) (e ∷ es) h ek is = (e, refl, cc)
entry_first zero (suc (suc k)) (e ∷ es) h ek is = absurd (omega (arith, ek))
entry_first (suc n) (suc k) (e ∷ es) h ek is = entry_first n k es h (omega (arith, ek)) is

-- one entry less has a value to give back
pub one_regained : (n k b c : ℕ) (es : List Entry) (hs : List Held) (h left : Held)
    (v : Dynamic) → k ≡ n + 1 → c ≡ b + 1 → Some h ≡ option_map held_of (slice_get es b) →
    v ≡ h.value → regained k (drop c (set_held es b left))
    (slice_set hs n (record (operand_at n hs) { value = v })) ≡ regained n (drop b es) hs
one_regained n k b c es hs h left v ek ec is ev =
    let first = entry_first b c es h ec is in
    rw (held_behind b c es left ec, first.1)
    (regained_next n k first.0 (drop c es) hs v ek (ev ∙ ap (λ (x : Held). x.value) first.2))

-- all entries have given back their values
pub all_regained : (n b : ℕ) (es : List Entry) (hs : List Held) → b ≡ length es →
    regained n (drop b es) hs ≡ hs
all_regained n b es hs eb = rw (eb, drop-length es) (regained_none n hs)

-- one value more was moved to the scope, and would go back
pub one_moved : (n k b : ℕ) (scope scope' : List Entry) (e : Entry) (xs ys : List Held)
    (v : Dynamic) → b ≤ length scope → k ≡ n + (length scope - b) → k < length xs →
    e.held.value ≡ (operand_at k xs).value → scope' ≡ scope ++ e ∷ [] →
    ys ≡ slice_set xs k (record (operand_at k xs) { value = v }) →
    regained n (drop b scope') ys ≡ regained n (drop b scope) xs
one_moved n k b scope scope' e xs ys v le ek lt is es ey =
    let behind : drop b scope' ≡ drop b scope ++ e ∷ [] =
    ap (drop b) es ∙ drop-append-le b scope (e ∷ []) le in
    rw (behind, ey)
    (regained_more n k e (drop b scope) xs v (omega (arith, ek, length-drop b scope)) is lt)
