-- Roots as a stretch of a run leaves them: they name cells of the store only, and none is a cell where
-- none was, or is added as one.
use Rattle.std.proofs.Common.{◌≡◌, ◌≤◌, ℕ, zero, suc, List, [], ◌∷◌, ◌++◌, Option, Some, None, Bool, length, take, refl, arith}
use Rattle.std.specs.List.{AllByRecursion}
use Rattle.std.specs.Prelude.{slice_get, slice_set}
use Rattle.grain_value.specs.Looking.{cell_of}
use Rattle.grain_value.specs.declared.values.Dynamic.{Dynamic}
use Rattle.grain_value.specs.declared.values.Held.{Held}
use Rattle.grain_value.specs.declared.values.paths.PathStep.{PathStep}
use Rattle.grain_means.specs.Contained.{HeldNames, Names}
use Rattle.grain_means.specs.Places.{along, look, or_unit, put, put_held}
use Rattle.grain_means.specs.Worlds.{Place}
use Rattle.grain_means.proofs.Inside.{Firm, MayPut, firm, found_back, found_names, found_stands, plain_whole, root_firm, root_names, root_plain, whole_plain}
use Rattle.grain_means.proofs.Naming.{PlainNames, Stands, held_wider}

-- a place in a root that is no cell, or inside a root: no cell stands there where values are clean
abbrev pub FirmAt : List Held → Place → Type 0
FirmAt roots p = Firm p.path (or_unit (slice_get roots p.root))

-- a place at which no cell stands
pub firm_look : (roots : List Held) (q : Place) → cell_of (look roots q).value ≡ None →
    FirmAt roots q
firm_look roots q = by_path q.path (slice_get roots q.root) where
  by_path : (path : List PathStep) (o : Option Held) →
      cell_of (or_unit (along path o)).value ≡ None → Firm path (or_unit o)
  by_path [] None e = refl
  by_path [] (Some r) e = plain_whole r e
  by_path (s ∷ p) o e = tt

-- so is one at which a root is set that is firm
set_firm : (path : List PathStep) (roots : List Held) (i : ℕ) (g : Held) → Firm path g →
    Firm path (or_unit (slice_get (slice_set roots i g) i))
set_firm path [] i g sure = firm path (or_unit None) refl
set_firm path (r ∷ rs) zero g sure = sure
set_firm path (r ∷ rs) (suc i) g sure = set_firm path rs i g sure

module _ (clean : Bool) (n : ℕ) where
  -- a root, and what it was before
  abbrev pub RootStands : Held → Held → Type 0
  RootStands r b = HeldNames clean n r × (cell_of b.value ≡ None → cell_of r.value ≡ None)

  -- roots, and what they were before
  abbrev pub Roots : List Held → List Held → Type 0
  Roots [] before = Unit {0}
  Roots (r ∷ rs) [] = PlainNames clean n r × Roots rs []
  Roots (r ∷ rs) (b ∷ bs) = RootStands r b × Roots rs bs

  pub roots_same : (roots : List Held) → AllByRecursion (HeldNames clean n) roots → Roots roots roots
  roots_same [] h = tt
  roots_same (r ∷ rs) h = ((h.0, λ e. e), roots_same rs h.1)

  pub roots_named : (now before : List Held) → Roots now before →
      AllByRecursion (HeldNames clean n) now
  roots_named [] before h = tt
  roots_named (r ∷ rs) [] h = (h.0.0, roots_named rs [] h.1)
  roots_named (r ∷ rs) (b ∷ bs) h = (h.0.0, roots_named rs bs h.1)

  -- the root of a number
  root_at : (now before : List Held) (i : ℕ) → Roots now before →
      RootStands (or_unit (slice_get now i)) (or_unit (slice_get before i))
  root_at [] before i h = ((omega arith, λ s. refl), λ e. refl)
  root_at (r ∷ rs) [] zero h = (h.0.0, λ e. h.0.1)
  root_at (r ∷ rs) [] (suc i) h = root_at rs [] i h.1
  root_at (r ∷ rs) (b ∷ bs) zero h = h.0
  root_at (r ∷ rs) (b ∷ bs) (suc i) h = root_at rs bs i h.1

  root_set : (now before : List Held) (i : ℕ) (g : Held) → Roots now before → HeldNames clean n g →
      (cell_of (or_unit (slice_get now i)).value ≡ None → cell_of g.value ≡ None) →
      Roots (slice_set now i g) before
  root_set [] before i g h names keeps = tt
  root_set (r ∷ rs) [] zero g h names keeps = ((names, keeps h.0.1), h.1)
  root_set (r ∷ rs) [] (suc i) g h names keeps = (h.0, root_set rs [] i g h.1 names keeps)
  root_set (r ∷ rs) (b ∷ bs) zero g h names keeps = ((names, λ e. keeps (h.0.1 e)), h.1)
  root_set (r ∷ rs) (b ∷ bs) (suc i) g h names keeps = (h.0, root_set rs bs i g h.1 names keeps)

  pub roots_added : (now before : List Held) (g : Held) → Roots now before → PlainNames clean n g →
      Roots (now ++ g ∷ []) before
  roots_added [] [] g h p = (p, tt)
  roots_added [] (b ∷ bs) g h p = ((p.0, λ e. p.1), tt)
  roots_added (r ∷ rs) [] g h p = (h.0, roots_added rs [] g h.1 p)
  roots_added (r ∷ rs) (b ∷ bs) g h p = (h.0, roots_added rs bs g h.1 p)

  pub roots_taken : (k : ℕ) (now before : List Held) → Roots now before → Roots (take k now) before
  roots_taken zero now before h = tt
  roots_taken (suc k) [] before h = tt
  roots_taken (suc k) (r ∷ rs) [] h = (h.0, roots_taken k rs [] h.1)
  roots_taken (suc k) (r ∷ rs) (b ∷ bs) h = (h.0, roots_taken k rs bs h.1)

  -- a root that was added is gone
  pub roots_back : (amid : List Held) (g : Held) (now : List Held) → Roots now (amid ++ g ∷ []) →
      Roots (take (length amid) now) amid
  roots_back [] g now h = tt
  roots_back (t ∷ ts) g [] h = tt
  roots_back (t ∷ ts) g (r ∷ rs) h = (h.0, roots_back ts g rs h.1)

  -- what is found at a place
  pub look_names : (now before : List Held) (q : Place) → Roots now before →
      HeldNames clean n (look now q)
  look_names now before q h =
      by_root (slice_get now q.root) (root_at now before q.root h).0 where
        by_root : (o : Option Held) → HeldNames clean n (or_unit o) →
            HeldNames clean n (or_unit (along q.path o))
        by_root None named = named
        by_root (Some r) named = found_names clean n q.path r named

  pub look_back : (now before : List Held) (q : Place) → Roots now before → FirmAt now q →
      MayPut clean n q.path (look now q).value
  look_back now before q h sure =
      by_root (slice_get now q.root) (root_at now before q.root h).0 sure where
        by_root : (o : Option Held) → HeldNames clean n (or_unit o) → Firm q.path (or_unit o) →
            MayPut clean n q.path (or_unit (along q.path o)).value
        by_root None named firmly = unit_back q.path where
          unit_back : (path : List PathStep) → MayPut clean n path (or_unit None).value
          unit_back [] = refl
          unit_back (s ∷ p) = λ s. refl
        by_root (Some r) named firmly = found_back clean n q.path r named firmly

  pub look_stands : (now before : List Held) (q : Place) → Roots now before → FirmAt now q →
      Stands clean n (look now q)
  look_stands now before q h sure =
      by_root (slice_get now q.root) (root_at now before q.root h).0 sure where
        by_root : (o : Option Held) → HeldNames clean n (or_unit o) → Firm q.path (or_unit o) →
            Stands clean n (or_unit (along q.path o))
        by_root None named firmly = (named, λ s. refl)
        by_root (Some r) named firmly = found_stands clean n q.path r named firmly

  -- a place that was firm is
  pub firm_still : (now before : List Held) (q : Place) → Roots now before →
      FirmAt before q → FirmAt now q
  firm_still now before q h sure =
      by_path (or_unit (slice_get now q.root)) (or_unit (slice_get before q.root)) q.path
      (root_at now before q.root h).1 sure where
        by_path : (r b : Held) (path : List PathStep) →
            (cell_of b.value ≡ None → cell_of r.value ≡ None) → Firm path b →
            Firm path r
        by_path r b [] keeps was = keeps was
        by_path r b (s ∷ p) keeps was = tt

  -- a value is put at a place
  pub put_roots : (now before : List Held) (q : Place) (v : Dynamic) → Roots now before →
      Names clean n v → MayPut clean n q.path v → Roots (put now q v) before
  put_roots now before q v h names may =
      let r : Held = or_unit (slice_get now q.root) in
      root_set now before q.root (put_held q.path v r) h
      (root_names clean n q.path v r names may (root_at now before q.root h).0)
      (root_plain clean n q.path v r may)

  pub put_firm : (roots : List Held) (q : Place) (v : Dynamic) → MayPut clean n q.path v →
      FirmAt (put roots q v) q
  put_firm roots q v may =
      let r : Held = or_unit (slice_get roots q.root) in
      set_firm q.path roots q.root (put_held q.path v r) (root_firm clean n q.path v r may)

  -- the whole of a root is no cell if it was none
  pub look_whole : (now before : List Held) (i : ℕ) → Roots now before →
      cell_of (or_unit (slice_get before i)).value ≡ None →
      cell_of (look now (record { root = i; path = [] })).value ≡ None
  look_whole now before i h plain = by_root (slice_get now i) ((root_at now before i h).1 plain) where
    by_root : (o : Option Held) → cell_of (or_unit o).value ≡ None →
        cell_of (or_unit (along [] o)).value ≡ None
    by_root None e = refl
    by_root (Some r) e = whole_plain r e

-- of a longer store, and over two stretches
pub roots_wider : (clean : Bool) (n k : ℕ) → n ≤ k → (now before : List Held) →
    Roots clean n now before → Roots clean k now before
roots_wider clean n k le [] before h = tt
roots_wider clean n k le (r ∷ rs) [] h =
    ((held_wider clean n k le r h.0.0, h.0.1), roots_wider clean n k le rs [] h.1)
roots_wider clean n k le (r ∷ rs) (b ∷ bs) h =
    ((held_wider clean n k le r h.0.0, h.0.1), roots_wider clean n k le rs bs h.1)

pub roots_on : (clean : Bool) (n k : ℕ) (now amid before : List Held) → Roots clean k now amid →
    Roots clean n amid before → Roots clean k now before
roots_on clean n k [] amid before h i = tt
roots_on clean n k (r ∷ rs) [] [] h i = (h.0, roots_on clean n k rs [] [] h.1 tt)
roots_on clean n k (r ∷ rs) [] (b ∷ bs) h i =
    ((h.0.0, λ e. h.0.1), roots_on clean n k rs [] bs h.1 tt)
roots_on clean n k (r ∷ rs) (t ∷ ts) [] h i =
    ((h.0.0, h.0.1 i.0.1), roots_on clean n k rs ts [] h.1 i.1)
roots_on clean n k (r ∷ rs) (t ∷ ts) (b ∷ bs) h i =
    ((h.0.0, λ e. h.0.1 (i.0.1 e)), roots_on clean n k rs ts bs h.1 i.1)

-- roots past the last one
pub past_roots : (roots : List Held) (i : ℕ) → length roots ≤ i →
    cell_of (or_unit (slice_get roots i)).value ≡ None
past_roots [] i le = refl
past_roots (r ∷ rs) zero le = absurd (omega (arith, le))
past_roots (r ∷ rs) (suc i) le = past_roots rs i (omega (arith, le))

-- a root that is added
pub new_root_plain : (roots : List Held) (h : Held) → cell_of h.value ≡ None →
    cell_of (or_unit (slice_get (roots ++ h ∷ []) (length roots))).value ≡ None
new_root_plain [] h plain = plain
new_root_plain (r ∷ rs) h plain = new_root_plain rs h plain
