-- Every value that a chain's walk writes, lends, gives and holds as a root names cells of the store
-- only.
use Rattle.std.proofs.Common.{◌≡◌, ◌≤◌, ℕ, List, Bool, true, false, Option, Some, None, refl, arith}
use Rattle.std.specs.List.{AllByRecursion}
use Rattle.std.specs.Prelude.{if◌then◌else◌, slice_get}
use Rattle.std.specs.Str.{chars}
use Rattle.grain_value.specs.Looking.{cell_of}
use Rattle.grain_value.specs.Parts.{byte_value, character_value, part, with_part}
use Rattle.grain_value.specs.declared.values.Dynamic.{Dynamic}
use Rattle.grain_value.specs.declared.values.Dynamic.TheVariants as dynamic
use Rattle.grain_value.specs.declared.values.Held.{Held}
use Rattle.grain_value.specs.declared.values.locating.Spot.{Spot}
use Rattle.grain_value.specs.declared.values.locating.Spot.TheVariants as spot
use Rattle.grain_fault.specs.Absences.{is_indexing_type}
use Rattle.grain_fault.specs.Problems.{Problem, NoMemory}
use Rattle.grain_fault.specs.declared.places.Position.{Position}
use Rattle.grain_means.specs.Contained.{AnswerNames, HeldNames, Names, ProblemNames}
use Rattle.grain_means.specs.Tasks.{Walked, WalkEnded, WalkFailed, Task, Done, Mark, Look, Flatten, Write, Root, Drop, Need, Invoke, Method, Numbered, Pointed}
use Rattle.grain_means.specs.Walks as walks
use Rattle.grain_means.specs.Walks.{Rest, Next, Origin, OfPart, OfIndex, OfProperty, OfMethod, OfNothing, at_mark, failing, flattening}
use Rattle.grain_means.specs.Worlds.{Place, Answer, Came, Failed}
use Rattle.grain_means.proofs.Naming.{PlainNames}

-- what a value that stands in no place of its own is: it names no cell
pub part_none : (d : Dynamic) (s : Spot) (clean : Bool) (n : ℕ) →
    Names clean n (part d s) × (cell_of (part d s) ≡ None)
part_none (dynamic.Blob bs) (spot.Byte k) clean n = at (slice_get bs k) where
  at : (o : Option ℕ) → Names clean n (byte_value o) × (cell_of (byte_value o) ≡ None)
  at None = ((omega arith, λ s. refl), refl)
  at (Some b) = ((omega arith, λ s. refl), refl)
part_none (dynamic.Text t) (spot.Character k) clean n = at (slice_get (chars t) k) where
  at : (o : Option ℕ) → Names clean n (character_value o) × (cell_of (character_value o) ≡ None)
  at None = ((omega arith, λ s. refl), refl)
  at (Some b) = ((omega arith, λ s. refl), refl)
part_none (dynamic.Int i) (spot.Bit k) clean n = ((omega arith, λ s. refl), refl)
part_none d s clean n = ((omega arith, λ s. refl), refl)

-- so is a value with such a part put in
abbrev pub NoneInside : Bool → ℕ → Option Dynamic → Type 0
NoneInside clean n None = Unit {0}
NoneInside clean n (Some d) = Names clean n d × (cell_of d ≡ None)

pub with_part_none : (d : Dynamic) (s : Spot) (v : Dynamic) (clean : Bool) (n : ℕ) →
    NoneInside clean n (with_part d s v)
with_part_none (dynamic.Blob bs) (spot.Byte k) (dynamic.Int i) clean n =
    ((omega arith, λ s. refl), refl)
with_part_none (dynamic.Text t) (spot.Character k) (dynamic.Char x) clean n =
    ((omega arith, λ s. refl), refl)
with_part_none (dynamic.Int i) (spot.Bit k) (dynamic.Bool b) clean n =
    ((omega arith, λ s. refl), refl)
with_part_none d s v clean n = tt

-- A walk is bare if its first root may be a cell. Then only places in its other roots are solid.
abbrev pub Solid : Bool → Place → Type 0
Solid bare p = bare ≡ true → 1 ≤ p.root

abbrev pub LendsSolid : Bool → Option Place → Type 0
LendsSolid bare None = Unit {0}
LendsSolid bare (Some p) = Solid bare p

module _ (clean : Bool) (n : ℕ) where
  abbrev pub WalkedNames : Walked → Type 0
  WalkedNames (WalkEnded v changed) = Names clean n v
  WalkedNames (WalkFailed k x) = ProblemNames clean n x

  abbrev pub ValuesName : List Dynamic → Type 0
  ValuesName vs = AllByRecursion (Names clean n) vs

  -- a value that is no cell
  abbrev pub PlainValue : Dynamic → Type 0
  PlainValue v = Names clean n v × (cell_of v ≡ None)

  -- what a function is called by
  abbrev pub MethodNames : Method → Type 0
  MethodNames (Numbered i) = Unit {0}
  MethodNames (Pointed r) = Names clean n (dynamic.Pointer r)

-- What a task writes, lends, gives and holds, whatever it finds and is answered, if that names cells
-- of the store only. Where it calls a function or a native, the store may grow.
abbrev pub TaskNames : Bool → Bool → ℕ → Task → Type 0
TaskNames clean bare n (Done o) = WalkedNames clean n o
TaskNames clean bare n (Mark out go) = TaskNames clean bare n out × TaskNames clean bare n go
TaskNames clean bare n (Look q go) =
    (h : Held) → HeldNames clean n h → TaskNames clean bare n (go h)
TaskNames clean bare n (Flatten v go) =
    Names clean n v × TaskNames clean bare n (go None)
    × ((u : Dynamic) → PlainValue clean n u → TaskNames clean bare n (go (Some u)))
TaskNames clean bare n (Write q v t) = PlainValue clean n v × TaskNames clean bare n t
TaskNames clean bare n (Root h t) = PlainNames clean n h × TaskNames clean bare n t
TaskNames clean bare n (Drop i go) =
    (h : Held) → HeldNames clean n h → TaskNames clean bare n (go h)
TaskNames clean bare n (Need c go) =
    ValuesName clean n c.values × LendsSolid bare c.receiver
    × ((j : ℕ) → n ≤ j → (a : Answer) → AnswerNames clean j a → TaskNames clean bare j (go a))
TaskNames clean bare n (Invoke i go) =
    MethodNames clean n i.method × ValuesName clean n i.values × LendsSolid bare i.this
    × ((j : ℕ) → n ≤ j → (a : Answer) → AnswerNames clean j a → TaskNames clean bare j (go a))

-- what follows a walk, also where the store has grown
abbrev pub Follows : Bool → Bool → ℕ → Rest → Type 0
Follows clean bare n done =
    (j : ℕ) → n ≤ j → (o : Walked) → WalkedNames clean j o → TaskNames clean bare j (done o)

pub follows_wider : (clean bare : Bool) (n j : ℕ) → n ≤ j → (done : Rest) →
    Follows clean bare n done → Follows clean bare j done
follows_wider clean bare n j le done f = λ i more. f i (omega (arith, le, more))

pub names_wider : (clean : Bool) (n j : ℕ) → n ≤ j → (v : Dynamic) → Names clean n v →
    Names clean j v
names_wider clean n j le v h = (omega (arith, h.0, le), h.1)

-- what a new root is
abbrev pub OriginNames : Bool → Bool → ℕ → Origin → Place → Type 0
OriginNames clean bare n (OfPart s) p = Unit {0}
OriginNames clean bare n (OfIndex i q) p = Names clean n i × Solid bare p
OriginNames clean bare n (OfProperty name setter q assigned) p = Solid bare p
OriginNames clean bare n OfMethod p = Unit {0}
OriginNames clean bare n OfNothing p = Unit {0}

module _ (clean bare : Bool) (n : ℕ) where
  -- the walk further on, from the store as it is
  abbrev pub Goes : Next → Type 0
  Goes next =
      (p : Place) → Solid bare p → (done : Rest) → Follows clean bare n done →
      TaskNames clean bare n (next p done)

  abbrev Tasked : Task → Type 0
  Tasked t = TaskNames clean bare n t

  pub now : (done : Rest) → Follows clean bare n done → (o : Walked) → WalkedNames clean n o →
      Tasked (done o)
  now done f o h = f n (omega arith) o h

  -- what follows from a value that is read
  abbrev pub Reading : (Dynamic → Task) → Type 0
  Reading go = (v : Dynamic) → Names clean n v → Tasked (go v)

  pub by : (b : Bool) (x y : Task) → Tasked x → Tasked y → Tasked (if b then x else y)
  by true x y h i = h
  by false x y h i = i

  pub out : (done : Rest) (k : ℕ) → Follows clean bare n done → Tasked (done (WalkFailed k NoMemory))
  out done k f = now done f (WalkFailed k NoMemory) (omega arith, λ s. refl)

  -- unit, and a text
  pub unit_names : Names clean n dynamic.Unit
  unit_names = (omega arith, λ s. refl)

  pub assigned : (done : Rest) → Follows clean bare n done → Tasked (done (WalkEnded dynamic.Unit true))
  assigned done f = now done f (WalkEnded dynamic.Unit true) unit_names

  -- a step of the chain
  module _ (k : ℕ) where
    pub fails : (x : Problem) (done : Rest) → Follows clean bare n done → ProblemNames clean n x →
        Tasked (failing k x done)
    fails x done f bound = (out done k f, now done f (WalkFailed k x) bound)

    pub reads : (q : Position) (v : Dynamic) (done : Rest) (go : Dynamic → Task) →
        Follows clean bare n done → Names clean n v →
        ((u : Dynamic) → PlainValue clean n u → Tasked (go u)) → Tasked (flattening k q v done go)
    reads q v done go f names h = (names, fails _ done f (omega arith, λ s. refl), h)

    pub index_set : (u : Dynamic) (done : Rest) → Follows clean bare n done → Names clean n u →
        (a : Answer) → AnswerNames clean n a → Tasked (walks.index_was_set k u done a)
    index_set u done f names (Came r) bound = now done f (WalkEnded u true) names
    index_set u done f names (Failed x) bound =
        by (is_indexing_type x) _ _ (now done f (WalkEnded u true) names) (now done f (WalkFailed k x) bound)

    pub set_instead : (x : Problem) (assigned : Bool) (u : Dynamic) (done : Rest) →
        Follows clean bare n done → ProblemNames clean n x → Names clean n u → (a : Answer) →
        AnswerNames clean n a → Tasked (walks.set_instead k x assigned u done a)
    set_instead x assigned u done f first names (Came r) bound = now done f (WalkEnded u true) names
    set_instead x assigned u done f first names (Failed y) bound =
        by (is_indexing_type y) _ _
        (by assigned _ _ (now done f (WalkFailed k x) first) (now done f (WalkEnded u true) names))
        (now done f (WalkFailed k y) bound)

    pub got_instead : (x : Problem) (done : Rest) (go : Dynamic → Task) →
        Follows clean bare n done → ProblemNames clean n x → Reading go → (a : Answer) →
        AnswerNames clean n a → Tasked (walks.got_instead k x done go a)
    got_instead x done go f first h (Came v) bound = h v bound
    got_instead x done go f first h (Failed y) bound =
        by (is_indexing_type y) _ _ (now done f (WalkFailed k x) first) (now done f (WalkFailed k y) bound)

    pub given : (done : Rest) (go : Dynamic → Task) → Follows clean bare n done → Reading go →
        (a : Answer) → AnswerNames clean n a → Tasked (walks.was_given k done go a)
    given done go f h (Came v) bound = h v bound
    given done go f h (Failed x) bound = now done f (WalkFailed k x) bound

    pub operator : (q : Position) (p : Place) (done : Rest) → Follows clean bare n done →
        (a : Answer) → AnswerNames clean n a → Tasked (walks.operator_answered k q p done a)
    operator q p done f (Came r) bound =
        reads q r done (λ u. at_mark k done (Write p u (done (WalkEnded dynamic.Unit true)))) f bound
        (λ u plain. (out done k f, (plain, assigned done f)))
    operator q p done f (Failed x) bound = now done f (WalkFailed k x) bound

-- a fault, and what follows from a value, once the store has grown
pub problem_wider : (clean : Bool) (n j : ℕ) → n ≤ j → (x : Problem) → ProblemNames clean n x →
    ProblemNames clean j x
problem_wider clean n j le x h = (omega (arith, h.0, le), h.1)

abbrev pub ReadsOn : Bool → Bool → ℕ → (Dynamic → Task) → Type 0
ReadsOn clean bare n go = (j : ℕ) → n ≤ j → Reading clean bare j go
