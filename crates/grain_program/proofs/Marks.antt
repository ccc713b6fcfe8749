-- What marking the starts of one chunk does, and what the table has after some chunks.
use Rattle.std.proofs.Common.{◌≡◌, ℕ, ◌+◌, ◌<◌, ◌≤◌, ◌≢◌, ◌⊎◌, List, length, Some, None, refl, sym, ap, subst, ◌∙◌, inl, inr, arith}
use Rattle.std.specs.Prelude.{slice_get}
use Rattle.std.proofs.Math.ListN.{set}
use Rattle.std.proofs.lemmas.Bool.{cases_lt}
use Rattle.std.proofs.lemmas.List.{get_or-set_same, get_or-set_other, length-set}
use Rattle.grain_program.specs.declared.code.instruction_set.Op.{Op}
use Rattle.grain_program.specs.declared.code.parts.Chunk.{Chunk}
use Rattle.grain_program.specs.declared.verifier.owners.Owner.{Owner}
use Rattle.grain_program.specs.Decoding.{op_at}
use Rattle.grain_program.specs.Layout.{Tiled}
use Rattle.grain_program.specs.Starts.{Start}
use Rattle.grain_program.specs.laws.Starts.{start_first, start_next, start_within, start_apart}
use Rattle.grain_program.specs.Owners.{no_owner, owner_of, owner_at, IsOwned, Owned, IsMarked}

-- the starts below the address have got the owner, and every other address has kept its own
abbrev pub MarkedBelow : List ℕ → Chunk → ℕ → List Owner → List Owner → ℕ → Type 0
MarkedBelow code c at before now a =
    (Start code c a × (a < at) × (owner_at now a ≡ owner_of c)) ⊎ ((Start code c a
    → at ≤ a) × (owner_at now a ≡ owner_at before a))

pub record Marking (code : List ℕ) (c : Chunk) (at : ℕ) (before now : List Owner) : Type 0 where
  pub long : length now ≡ length before
  pub here : at < c.end → Start code c at
  pub each : (a : ℕ) → MarkedBelow code c at before now a

pub marking_none : (code : List ℕ) (c : Chunk) (before : List Owner)
    → Marking code c c.entry before before
marking_none code c before = record {
  long = refl;
  here = start_first code c;
  each = λ a. inr (λ s. (start_within code c a s).0, refl);
}

-- a start that lies neither below the address nor at it lies after its instruction
past_one : (code : List ℕ) (c : Chunk) (at a : ℕ) → Start code c at → Start code c a → at < a
    → (r : Op × ℕ) → op_at code at ≡ Some r → at + r.1 ≤ a
past_one code c at a s t lt r e =
    let o = start_apart code c at a s t lt in
    let both : Some o.0 ≡ Some r = sym o.1 ∙ e in
    let same : o.0 ≡ r = cc in
    subst (λ (x : Op × ℕ). at + x.1 ≤ a) same o.2

module _ (code : List ℕ) (c : Chunk) (at : ℕ) (before now : List Owner) (m : Marking code c at
    before now) (lt : at < c.end) (room : c.end ≤ length now) where
  abbrev next : List Owner
  next = set now at (owner_of c)

  kept : (a : ℕ) → a ≢ at → owner_at (set now at (owner_of c)) a ≡ owner_at now a
  kept a ne = get_or-set_other now at a (owner_of c) no_owner ne

  written : (a : ℕ) → at ≡ a → owner_at (set now at (owner_of c)) a ≡ owner_of c
  written a e = subst (λ x. owner_at (set now at (owner_of c)) x ≡ owner_of c) e (get_or-set_same
      now at (owner_of c) no_owner (omega arith))

  -- each address below, at, or above the one that is marked
  place : (a : ℕ) → (a < at) ⊎ ((at ≡ a) ⊎ (at < a))
  place a = elim (cases_lt a at) [
    | inl l ↦ inl l
    | inr g ↦ elim (cases_lt at a)
        [ inl h ↦ inr (inr h) | inr h ↦ inr (inl (omega arith)) ]
  ]

  pub marking_more : (r : Op × ℕ) → op_at code at ≡ Some r → 1 ≤ r.1
      → Marking code c (at + r.1) before (set now at (owner_of c))
  marking_more r e wide = record {
    long = length-set now at (owner_of c) ∙ m.long;
    here = λ more. start_next code c at r (m.here lt) e more;
    each = λ a. one a (place a) (m.each a);
  } where
    one : (a : ℕ) → (a < at) ⊎ ((at ≡ a) ⊎ (at < a)) → MarkedBelow code c at before now a
        → MarkedBelow code c (at + r.1) before (set now at (owner_of c)) a
    one a (inl p) (inl q) = inl (q.0, omega (arith, p), kept a (omega (arith, p)) ∙ q.2)
    one a (inl p) (inr q) =
        inr (λ s. let f = q.0 s in absurd (omega arith), kept a (omega (arith, p)) ∙ q.1)
    one a (inr (inl p)) q = inl (subst (Start code c) p (m.here lt), omega (arith, p), written a p)
    one a (inr (inr p)) (inl q) = absurd (omega (arith, p, q.1))
    one a (inr (inr p)) (inr q) =
        inr (λ s. past_one code c at a (m.here lt) s p r e, kept a (omega (arith, p)) ∙ q.1)

  pub marking_ends : op_at code at ≡ None → IsMarked code c before (set now at (owner_of c))
  marking_ends e a = one (place a) (m.each a) where
    one : (a < at) ⊎ ((at ≡ a) ⊎ (at < a)) → MarkedBelow code c at before now a
        → (Start code c a × (owner_at (set now at (owner_of c)) a ≡ owner_of c)) ⊎ ((Start code c a
        → ⊥) × (owner_at (set now at (owner_of c)) a ≡ owner_at before a))
    one (inl p) (inl q) = inl (q.0, kept a (omega (arith, p)) ∙ q.2)
    one (inl p) (inr q) =
        inr (λ s. let f = q.0 s in absurd (omega arith), kept a (omega (arith, p)) ∙ q.1)
    one (inr (inl p)) q = inl (subst (Start code c) p (m.here lt), written a p)
    one (inr (inr p)) (inl q) = absurd (omega (arith, p, q.1))
    one (inr (inr p)) (inr q) = inr (
      λ s. let o = start_apart code c at a (m.here lt) s
          p in let bad : None ≡ Some o.0 = sym e ∙ o.1 in absurd cc,
      kept a (omega (arith, p)) ∙ q.1,
    )

pub marking_all : (code : List ℕ) (c : Chunk) (at : ℕ) (before now : List Owner)
    → Marking code c at before now → c.end ≤ at → IsMarked code c before now
marking_all code c at before now m le a = one (m.each a) where
  one : MarkedBelow code c at before now a → (Start code c a × (owner_at now a ≡ owner_of c))
      ⊎ ((Start code c a → ⊥) × (owner_at now a ≡ owner_at before a))
  one (inl q) = inl (q.0, q.2)
  one (inr q) =
      inr (λ s. let w = start_within code c a s in let l = q.0 s in omega (arith, w.1), q.1)

pub owned_more : (code : List ℕ) (chunks : List Chunk) (n : ℕ) (c : Chunk) (before now : List Owner)
    → Tiled (length code) chunks → slice_get chunks n ≡ Some c
    → Owned code chunks n before → length now ≡ length before → IsMarked code c before now
    → Owned code chunks (n + 1) now
owned_more code chunks n c before now t g o long m = record {
  long = long ∙ o.long;
  owned = λ i d a lt h s. one i d a h s (cases_lt i n) (omega arith) (m a);
  only = λ a. two a (m a) (o.only a);
} where
  one : (i : ℕ) (d : Chunk) (a : ℕ) → slice_get chunks i ≡ Some d → Start code d a
      → (i < n) ⊎ (n ≤ i) → i ≤ n
      → (Start code c a × (owner_at now a ≡ owner_of c)) ⊎ ((Start code c a
      → ⊥) × (owner_at now a ≡ owner_at before a)) → owner_at now a ≡ owner_of d
  one i d a h s (inl lt) le (inl p) =
      let x = start_within code d a s in
      let y = start_within code c a p.0 in
      let z = t.apart i n d c lt h g in
      absurd (omega (arith, x.1, y.0))
  one i d a h s (inl lt) le (inr p) = p.1 ∙ o.owned i d a lt h s
  one i d a h s (inr ge) le p =
      let e : i ≡ n = omega arith in
      let both : Some d ≡ Some c = sym h ∙ ap (slice_get chunks) e ∙ g in
      let is : d ≡ c = cc in
      same is p where
        same : d ≡ c → (Start code c a × (owner_at now a ≡ owner_of c)) ⊎ ((Start code c a
            → ⊥) × (owner_at now a ≡ owner_at before a)) → owner_at now a ≡ owner_of d
        same is (inl q) = q.1 ∙ ap owner_of (sym is)
        same is (inr q) = absurd (q.0 (subst (λ (x : Chunk). Start code x a) is s))

  two : (a : ℕ) → (Start code c a × (owner_at now a ≡ owner_of c)) ⊎ ((Start code c a
      → ⊥) × (owner_at now a ≡ owner_at before a))
      → (owner_at before a ≡ no_owner) ⊎ IsOwned code chunks before a → (owner_at now a ≡ no_owner)
      ⊎ IsOwned code chunks now a
  two a (inl p) q = inr (n, (c, g, p.0, p.1))
  two a (inr p) (inl q) = inl (p.1 ∙ q)
  two a (inr p) (inr q) = inr (q.0, (q.1.0, q.1.1, q.1.2, p.1 ∙ q.1.3))
