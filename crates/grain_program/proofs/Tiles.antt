-- A layout without a fault tiles the code; so the first empty chunk in it is the lowest, and the
-- first function without its names.
use Rattle.std.proofs.Common.{◌≡◌, ℕ, zero, suc, ◌<◌, ◌≤◌, ◌⊎◌, ◌&&◌, ◌==◌, Bool, true, false, cond, List, [], ◌∷◌, length, Option, Some, None, refl, sym, ap, ◌∙◌, subst, inl, inr, arith}
use Rattle.std.specs.Prelude.{nat_le, nat_lt, slice_get}
use Rattle.std.proofs.lemmas.Bool.{cases_lt, ltb-false, leb-true, eqb-true, eqb-false}
use Rattle.grain_program.specs.declared.code.parts.Chunk.{Chunk}
use Rattle.grain_program.specs.declared.code.functions.Function.{Function}
use Rattle.grain_program.specs.declared.verifier.refusals.Refusal.{Refusal}
use Rattle.grain_program.specs.declared.verifier.refusals.Refusal.TheVariants as refusal
use Rattle.grain_program.specs.View.{View}
use Rattle.grain_program.specs.Indices.{IsNamed, is_named}
use Rattle.grain_program.specs.Layout.{chunks_in, gap_from, layout_fault, Tiled}
use Rattle.grain_program.specs.laws.Layout.{function_chunk}
use Rattle.grain_program.specs.Rules.{IsEmptyChunk, Precedes}
use Rattle.grain_program.specs.Owners.{first_empty, first_misnamed}
use Rattle.grain_program.proofs.Decisions.{Decides, eq_decides, named_decide}
use Rattle.grain_program.proofs.Breaches.{ByName, ByEmptyChunk, FirstOf}

both_true : (a b : Bool) → (a && b) ≡ true → (a ≡ true) × (b ≡ true)
both_true true b e = (refl, e)
both_true false b e = absurd cc

-- the first chunk is in its place, and the others tile the rest
record Tile (len at : ℕ) (c : Chunk) (cs : List Chunk) : Type 0 where
  begins : c.entry ≡ at
  ends : at ≤ c.end
  inside : c.end ≤ len
  rest : gap_from len c.end cs ≡ None

tile_of : (len at : ℕ) (c : Chunk) (cs : List Chunk) → gap_from len at (c ∷ cs) ≡ None
    → Tile len at c cs
tile_of len at c cs e = case ((c.entry == at) && nat_le at c.end && nat_le c.end len) refl e where
  case : (t : Bool) → ((c.entry == at) && nat_le at c.end && nat_le c.end len) ≡ t
      → cond t (gap_from len c.end cs) (Some c.entry) ≡ None → Tile len at c cs
  case true h e =
      let p = both_true ((c.entry == at) && nat_le at c.end) (nat_le c.end len) h in
      let q = both_true (c.entry == at) (nat_le at c.end) p.0 in
      record {
        begins = eqb-true c.entry at q.0;
        ends = leb-true at c.end q.1;
        inside =
            leb-true c.end len p.1;
        rest = e;
      }
  case false h e = absurd cc

-- a chunk after the address, in the code
abbrev IsBehind : ℕ → ℕ → Chunk → Type 0
IsBehind len at c = (at ≤ c.entry) × (c.entry ≤ c.end) × (c.end ≤ len)

behind : (len at : ℕ) (cs : List Chunk) → gap_from len at cs ≡ None → (i : ℕ) (c : Chunk)
    → slice_get cs i ≡ Some c → IsBehind len at c
behind len at [] e i c g = absurd cc
behind len at (d ∷ cs) e zero c g =
    let t = tile_of len at d cs e in
    let same : d ≡ c = cc in
    subst (IsBehind len at) same (
      omega (arith, t.begins),
      omega (arith, t.begins, t.ends),
      t.inside,
    )
behind len at (d ∷ cs) e (suc i) c g =
    let t = tile_of len at d cs e in
    let r = behind len d.end cs t.rest i c g in
    (omega (arith, t.ends, r.0), r.1, r.2)

apart : (len at : ℕ) (cs : List Chunk) → gap_from len at cs ≡ None → (i j : ℕ) (c d : Chunk) →
    i < j
    → slice_get cs i ≡ Some c → slice_get cs j ≡ Some d → c.end ≤ d.entry
apart len at [] e i j c d lt g h = absurd cc
apart len at (b ∷ cs) e i zero c d lt g h = absurd (omega arith)
apart len at (b ∷ cs) e zero (suc j) c d lt g h =
    let t = tile_of len at b cs e in
    let same : b ≡ c = cc in
    subst (λ (x : Chunk). x.end ≤ d.entry) same (behind len b.end cs t.rest j d h).0
apart len at (b ∷ cs) e (suc i) (suc j) c d lt g h =
    let t = tile_of len at b cs e in
    apart len b.end cs t.rest i j c d (omega arith) g h

-- a layout without a fault, as the two tests have it
record Laid (len : ℕ) (chunks : List Chunk) : Type 0 where
  small : len ≤ 16777216
  gapless : gap_from len 0 chunks ≡ None

laid : (len : ℕ) (chunks : List Chunk) → layout_fault len chunks ≡ None → Laid len chunks
unfolding layout_fault
laid len chunks e = case (nat_lt 16777216 len) refl e where
  case : (t : Bool) → nat_lt 16777216 len ≡ t
      → cond t (Some 16777216) (gap_from len 0 chunks) ≡ None → Laid len chunks
  case true h e = absurd cc
  case false h e = record { small = ltb-false 16777216 len h; gapless = e }

pub is_tiled : (len : ℕ) (chunks : List Chunk) → layout_fault len chunks ≡ None → Tiled len chunks
is_tiled len chunks e =
    let l = laid len chunks e in
    record {
      small = l.small;
      inside = λ i c g. let b = behind len 0 chunks l.gapless i c g in (b.1, b.2);
      apart = apart len 0 chunks l.gapless;
    }

-- no chunk is empty
abbrev pub NoneEmpty : List Chunk → Type 0
NoneEmpty chunks = (i : ℕ) (c : Chunk) → slice_get chunks i ≡ Some c → c.entry ≡ c.end → ⊥

pub none_empty : (chunks : List Chunk) → first_empty chunks ≡ None → NoneEmpty chunks
none_empty [] e i c g f = absurd cc
none_empty (d ∷ cs) e i c g f =
    case (d.entry == d.end) refl e (λ h k x. none_empty cs h k c x f) where
      case : (t : Bool) → (d.entry == d.end) ≡ t → cond t (Some (refusal.FallsOff d.entry))
          (first_empty cs) ≡ None →
          (first_empty cs ≡ None → (k : ℕ) → slice_get cs k ≡ Some c → ⊥)
          → ⊥
      case true h e more = absurd cc
      case false h e more = at i g where
        at : (k : ℕ) → slice_get (d ∷ cs) k ≡ Some c → ⊥
        at zero x = let same : d ≡ c = cc in eqb-false d.entry d.end h
            (subst (λ (y : Chunk). y.entry ≡ y.end) (sym same) f)
        at (suc k) x = more e k x

-- ---- the first empty chunk

-- kinds of breaches that are one have one first breach
same_first : (C D : Refusal → Type 0) (x : Option Refusal) → ((s : Refusal) → C s → D s)
    → ((s : Refusal) → D s → C s) → FirstOf C x → FirstOf D x
same_first C D None there back f = λ s h. f s (back s h)
same_first C D (Some r) there back f = (there r f.0, λ s h. f.1 s (back s h))

no_lower : (a b : ℕ) → a ≤ b → (a < b) ⊎ ((a ≡ b) × (4 ≤ 4))
no_lower a b le = elim (cases_lt a b) [ inl lt ↦ inl lt | inr ge ↦ inr (omega arith, omega arith) ]

empty_first : (len at : ℕ) (cs : List Chunk) → gap_from len at cs ≡ None
    → FirstOf (ByEmptyChunk cs) (first_empty cs)
empty_first len at [] l = λ s h. none s h where
  none : (s : Refusal) → ByEmptyChunk [] s → ⊥
  none (refusal.FallsOff a) h = cc (h.1.1)
  none _ h = h
empty_first len at (d ∷ cs) l =
    case (d.entry == d.end) (eq_decides d.entry d.end) (empty_first len d.end cs (tile_of len at d
    cs l).rest) where
      above : (s : Refusal) → ByEmptyChunk (d ∷ cs) s → Precedes (refusal.FallsOff d.entry) s
      above (refusal.FallsOff a) h =
          let b = behind len at (d ∷ cs) l h.0 h.1.0 h.1.1 in
          let t = tile_of len at d cs l in
          no_lower d.entry a (omega (arith, b.0, t.begins, h.1.2))
      above _ h = absurd h

      on : (s : Refusal) → ByEmptyChunk cs s → ByEmptyChunk (d ∷ cs) s
      on (refusal.FallsOff a) h = (suc h.0, h.1)
      on _ h = absurd h

      back : (d.entry ≡ d.end → ⊥) → (s : Refusal) → ByEmptyChunk (d ∷ cs) s → ByEmptyChunk cs s
      back ne (refusal.FallsOff a) h = one h.0 h.1.0 h.1.1 h.1.2 h.1.3 where
        one : (i : ℕ) (c : Chunk) → slice_get (d ∷ cs) i ≡ Some c → c.entry ≡ a → c.end ≡ a
            → IsEmptyChunk cs a
        one zero c g x y =
            let same : d ≡ c = cc in
            absurd (ne (ap (λ (z : Chunk). z.entry) same ∙ x ∙ sym y
            ∙ sym (ap (λ (z : Chunk). z.end) same)))
        one (suc i) c g x y = (i, (c, g, x, y))
      back ne _ h = absurd h

      case : (t : Bool) → Decides t (d.entry ≡ d.end) → FirstOf (ByEmptyChunk cs) (first_empty cs)
          → FirstOf (ByEmptyChunk (d ∷ cs)) (cond t (Some (refusal.FallsOff d.entry))
          (first_empty cs))
      case true h f = ((0, (d, refl, refl, sym h)), above)
      case false h f =
          same_first (ByEmptyChunk cs) (ByEmptyChunk (d ∷ cs)) (first_empty cs) on (back h) f

pub first_of_empty : (len : ℕ) (chunks : List Chunk) → layout_fault len chunks ≡ None
    → FirstOf (ByEmptyChunk chunks) (first_empty chunks)
first_of_empty len chunks l = empty_first len 0 chunks (laid len chunks l).gapless

-- ---- the first function without its names

-- a function of the list that is entered at the address has a name that is no entry of the pool
abbrev MisnamedIn : View → List Function → ℕ → Type 0
MisnamedIn p fs a =
    (i : ℕ) ×
    ((f : Function) × (slice_get fs i ≡ Some f) × (f.chunk.entry ≡ a) × (IsNamed p f → ⊥))

abbrev ByNameIn : View → List Function → Refusal → Type 0
ByNameIn p fs (refusal.PoolIndex a) = MisnamedIn p fs a
ByNameIn p fs _ = ⊥

-- later functions are entered at no lower addresses
abbrev Rises : List Function → Type 0
Rises fs = (i j : ℕ) (f g : Function) → i < j → slice_get fs i ≡ Some f → slice_get fs j ≡ Some g
    → f.chunk.entry ≤ g.chunk.entry

no_higher : (a b : ℕ) → a ≤ b → (a < b) ⊎ ((a ≡ b) × (2 ≤ 2))
no_higher a b le = elim (cases_lt a b) [ inl lt ↦ inl lt | inr ge ↦ inr (omega arith, omega arith) ]

misnamed_first : (p : View) (fs : List Function) → Rises fs
    → FirstOf (ByNameIn p fs) (first_misnamed p fs)
misnamed_first p [] rises = λ s h. none s h where
  none : (s : Refusal) → ByNameIn p [] s → ⊥
  none (refusal.PoolIndex a) h = cc (h.1.1)
  none _ h = h
misnamed_first p (d ∷ fs) rises =
    case (is_named p d) (named_decide p d) (misnamed_first p fs (λ i j f g lt x y. rises (suc i)
    (suc j) f g (omega arith) x y)) where
      above : (s : Refusal) → ByNameIn p (d ∷ fs) s → Precedes (refusal.PoolIndex d.chunk.entry) s
      above (refusal.PoolIndex a) h = no_higher d.chunk.entry a (at h.0 h.1.0 h.1.1 h.1.2) where
        at : (i : ℕ) (f : Function) → slice_get (d ∷ fs) i ≡ Some f → f.chunk.entry ≡ a
            → d.chunk.entry ≤ a
        at zero f g e =
            let same : d ≡ f = cc in omega (arith, ap (λ (x : Function). x.chunk.entry) same)
        at (suc i) f g e = let le = rises 0 (suc i) d f (omega arith) refl g in omega arith
      above _ h = absurd h

      on : (s : Refusal) → ByNameIn p fs s → ByNameIn p (d ∷ fs) s
      on (refusal.PoolIndex a) h = (suc h.0, h.1)
      on _ h = absurd h

      back : IsNamed p d → (s : Refusal) → ByNameIn p (d ∷ fs) s → ByNameIn p fs s
      back named (refusal.PoolIndex a) h = one h.0 h.1.0 h.1.1 h.1.2 h.1.3 where
        one : (i : ℕ) (f : Function) → slice_get (d ∷ fs) i ≡ Some f → f.chunk.entry ≡ a
            → (IsNamed p f
            → ⊥) → MisnamedIn p fs a
        one zero f g x lacks =
            let same : d ≡ f = cc in absurd (lacks (subst (IsNamed p) same named))
        one (suc i) f g x lacks = (i, (f, g, x, lacks))
      back named _ h = absurd h

      case : (t : Bool) → Decides t (IsNamed p d) → FirstOf (ByNameIn p fs) (first_misnamed p fs)
          → FirstOf (ByNameIn p (d ∷ fs)) (cond t (first_misnamed p fs)
          (Some (refusal.PoolIndex d.chunk.entry)))
      case true h f =
          same_first (ByNameIn p fs) (ByNameIn p (d ∷ fs)) (first_misnamed p fs) on (back h) f
      case false h f = ((0, (d, refl, refl, h)), above)

-- where the chunks tile the code, later functions are entered at no lower addresses
rising : (p : View) (len : ℕ) → Tiled len (chunks_in p) → Rises p.functions
rising p len t i j f g lt x y =
    let inside = t.inside (suc i) f.chunk (function_chunk p i f x) in
    let behind =
    t.apart (suc i) (suc j) f.chunk g.chunk (omega arith) (function_chunk p i f x)
    (function_chunk p j g y) in
    omega (arith, inside.0)

name_in : (p : View) (s : Refusal) → ByNameIn p p.functions s → ByName p s
name_in p (refusal.PoolIndex a) h = h
name_in p _ h = absurd h

in_name : (p : View) (s : Refusal) → ByName p s → ByNameIn p p.functions s
in_name p (refusal.PoolIndex a) h = h
in_name p _ h = absurd h

pub first_name : (p : View) (chunks : List Chunk) → chunks ≡ chunks_in p
    → layout_fault (length p.code) chunks ≡ None → FirstOf (ByName p) (first_misnamed p p.functions)
first_name p chunks whole l =
    let t = subst (Tiled (length p.code)) whole (is_tiled (length p.code) chunks l) in
    same_first (ByNameIn p p.functions) (ByName p) (first_misnamed p p.functions) (name_in p)
    (in_name p) (misnamed_first p p.functions (rising p (length p.code) t))

-- where none is first, each has its names
pub all_named : (p : View) (fs : List Function) → first_misnamed p fs ≡ None
    → (i : ℕ) (f : Function) → slice_get fs i ≡ Some f → IsNamed p f
all_named p [] e i f g = absurd cc
all_named p (d ∷ fs) e i f g =
    case (is_named p d) (named_decide p d) e (λ h k x. all_named p fs h k f x) where
      case : (t : Bool) → Decides t (IsNamed p d)
          → cond t (first_misnamed p fs) (Some (refusal.PoolIndex d.chunk.entry)) ≡ None
          → (first_misnamed p fs ≡ None → (k : ℕ) → slice_get fs k ≡ Some f → IsNamed p f)
          → IsNamed p f
      case true h e more = at i g where
        at : (k : ℕ) → slice_get (d ∷ fs) k ≡ Some f → IsNamed p f
        at zero x = let same : d ≡ f = cc in subst (IsNamed p) same h
        at (suc k) x = more e k x
      case false h e more = absurd cc
