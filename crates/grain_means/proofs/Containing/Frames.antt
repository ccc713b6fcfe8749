-- The walk at a store: marks, faults, charges, and what a frame reads and writes.
use Rattle.std.proofs.Common.{◌≡◌, ◌≤◌, ◌+◌, ℕ, List, [], ◌∷◌, ◌++◌, Option, Some, None, Bool, true, false, if◌then◌else◌, nat_le, length, take, refl, sym, subst, arith}
use Rattle.std.specs.List.{AllByRecursion}
use Rattle.std.specs.Prelude.{slice_get, slice_set}
use Rattle.grain_value.specs.Cells.{flat, idle}
use Rattle.grain_value.specs.Looking.{cell_of}
use Rattle.grain_value.specs.Operands.{read_write}
use Rattle.grain_value.specs.Scopes.{set_held}
use Rattle.grain_value.specs.declared.scopes.Entry.{Entry}
use Rattle.grain_value.specs.declared.stores.Cell.{Cell}
use Rattle.grain_value.specs.declared.values.Dynamic.{Dynamic}
use Rattle.grain_value.specs.declared.values.Held.{Held}
use Rattle.grain_fault.specs.Classes.{catchable}
use Rattle.grain_fault.specs.Positions.{at_position, position_of_problem}
use Rattle.grain_fault.specs.Problems.{Problem, Plain, NoMemory, Malformed, DataRace}
use Rattle.grain_fault.specs.declared.faults.MalformedKind.TheVariants as kind
use Rattle.grain_fault.specs.declared.places.Position.{Position}
use Rattle.grain_host.specs.Law.{IsLawful}
use Rattle.grain_means.specs.Contained.{AnswerNames, ConstantsName, EntryNames, HeldNames, Names, ProblemNames}
use Rattle.grain_means.specs.Places.{put}
use Rattle.grain_means.specs.Rules as rules
use Rattle.grain_means.specs.Rules.{Home, InScope, InCell, AtPlace, bound, flat_all, held_at, is_stop, race_text, stepped, thrown_anew, throws_unit}
use Rattle.grain_means.specs.Worlds.{Act, Go, End, Answer, Frame, Handler, InCatch, InFrame, Setup, World}
use Rattle.grain_means.proofs.Caught.{placed_names}
use Rattle.grain_means.proofs.Footing.{by_arming, by_test}
use Rattle.grain_means.proofs.Inside.{may_put}
use Rattle.grain_means.proofs.Naming.{all_take, flat_all_names, flat_names, held_at_names, pushed_names, set_names}
use Rattle.grain_means.proofs.Containing.Parts.{CaughtNames, Operands, Arguments, FrameNames, MayStand, RestNames}
use Rattle.grain_means.proofs.Containing.Keeping.{HoldsNone, Kept, Since}
use Rattle.grain_means.proofs.Containing.Leaving.{Bases, Holds, Leaves, cell_set, lowers, root_put, takes_operation}

-- the same where an instruction of a frame is done: no entry has to stay plain
pub record Grounds {S : Type 0} (m : Setup S) : Type 0 where
  pub lawful : IsLawful m.law
  pub clean : Bool
  pub least : ℕ
  pub constants : ConstantsName clean least m.program
  pub since : Since
  pub free : since.plain ≡ []

abbrev pub bases : {S : Type 0} {m : Setup S} → Grounds m → Bases m
bases on = record {
  lawful = on.lawful;
  clean = on.clean;
  least = on.least;
  constants = on.constants;
  since = on.since;
}

module _ {S : Type 0} {m : Setup S} (on : Grounds m) where
  open on use {clean, least, since}

  abbrev pub At : ℕ → World S → Type 0
  At n w = Holds m clean since n w

  abbrev pub Within : ℕ → Act S → Type 0
  Within k act = Leaves m clean since k act

  pub lower : (k j : ℕ) (act : Act S) → k ≤ j → Within j act → Within k act
  lower k j act le h = lowers m clean since k j act le h

  pub none_plain : (scope : List Entry) → AllByRecursion (HoldsNone scope) since.plain
  none_plain scope = subst (AllByRecursion (HoldsNone scope)) (sym on.free) tt

  -- the rules at a store of n cells
  module _ (n : ℕ) (low : least ≤ n) where
    abbrev pub Keeps : Act S → Type 0
    Keeps act = Within n act

    -- the scope is cut
    pub cut : (k : ℕ) (w : World S) → At n w → (scope : List Entry) → scope ≡ take k w.scope →
        Kept m.law clean n since scope w.cells w.host w.roots
    cut k w at scope is = record {
      size = at.size;
      entries = subst (AllByRecursion (EntryNames clean n)) (sym is)
          (all_take (EntryNames clean n) k w.scope at.entries);
      contents = at.contents;
      reaches = at.reaches;
      hands = at.hands;
      waits = at.waits;
      lends = at.lends;
      stand = at.stand;
      plain = none_plain scope;
    }

    -- an entry is set
    pub entry_set : (w : World S) (i : ℕ) (h : Held) → At n w → HeldNames clean n h →
        Kept m.law clean n since (set_held w.scope i h) w.cells w.host w.roots
    entry_set w i h at held = record {
      size = at.size;
      entries = set_names clean n w.scope i h at.entries held;
      contents = at.contents;
      reaches = at.reaches;
      hands = at.hands;
      waits = at.waits;
      lends = at.lends;
      stand = at.stand;
      plain = none_plain (set_held w.scope i h);
    }

    pub ends : (a : Answer) (w : World S) → At n w → AnswerNames clean n a → Keeps (End a w)
    ends a w at names = (n, omega arith, at, names)

    pub goes : (f : Frame) (w : World S) → At n w → FrameNames clean n f → Keeps (Go (InFrame f) w)
    goes f w at names = (n, omega arith, at, names, on.free)

    pub leaves : (f : Frame) (x : Problem) (w : World S) → At n w →
        ProblemNames clean n x → Keeps (rules.leave_by_fault m f x w)
    leaves f x w at names =
        (n, omega arith, cut f.floor w at (take f.floor w.scope) refl, names)

    pub marks : (f : Frame) (w : World S) (go : World S → Act S) → At n w →
        Keeps (go (record w { passed = w.passed + 1 })) → Keeps (rules.marked m f w go)
    marks f w go at h =
        by_test Keeps (is_stop m.stop w.passed) (rules.leave_by_fault m f NoMemory w)
        (go (record w { passed = w.passed + 1 }))
        (λ stop. leaves f NoMemory w at (omega arith, λ s. refl)) (λ clear. h)

    anew : (y x : Problem) → ProblemNames clean n y → ProblemNames clean n x →
        ProblemNames clean n (thrown_anew y x)
    anew y x p q = at (throws_unit x) where
      at : (b : Bool) →
          ProblemNames clean n (if b then at_position (position_of_problem x) y else x)
      at true = placed_names clean n (position_of_problem x) y p
      at false = q

    offers : (hs : List Handler) (f : Frame) (x : Problem) (w : World S) → At n w →
        Operands clean n f.operands → RestNames clean n hs f.cursors → ProblemNames clean n x →
        Keeps (rules.offered_to m hs f x w)
    offers [] f x w at ops names bound = leaves f x w at bound
    offers (h ∷ hs) f x w at ops names bound =
        let outer : RestNames clean n hs f.cursors = record {
          handlers = names.handlers.1;
          cursors = names.cursors;
        } in
        by_arming m Keeps h.caught
        (if catchable x then Go (InCatch (record f { handlers = hs }) h x) w
        else rules.leave_by_fault m f x w)
        (λ y. rules.offered_to m hs f (thrown_anew y x) w)
        (λ none. by_test Keeps (catchable x) (Go (InCatch (record f { handlers = hs }) h x) w)
        (rules.leave_by_fault m f x w)
        (λ may. (n, omega arith, at, ((ops, outer), bound, may), on.free))
        (λ may. leaves f x w at bound))
        (λ y is. offers hs f (thrown_anew y x) w at ops outer
        (anew y x (subst (CaughtNames clean n) is names.handlers.0) bound))

    module _ (f : Frame) (names : FrameNames clean n f) where
      pub offered : (x : Problem) (w : World S) → At n w → ProblemNames clean n x →
          Keeps (rules.offered m f x w)
      offered x w at bound = offers f.handlers f x w at names.0 names.1 bound

      pub raises : (x : Problem) (w : World S) → At n w → ProblemNames clean n x →
          Keeps (rules.raised m f x w)
      raises x w at bound =
          marks f w (rules.offered m f x) at
          (offered x (record w { passed = w.passed + 1 }) at bound)

      races : (name : List ℕ) (w : World S) → At n w → Keeps (rules.data_race m name f w)
      races name w at =
          raises (Plain (DataRace (race_text name)) (rules.position m f)) w at (
            omega arith,
            λ s. refl,
          )

      pub onward : (g : Frame) (w : World S) → At n w → FrameNames clean n g →
          Keeps (rules.onward m f g w)
      onward g w at new =
          marks (record g { address = f.address }) w (Go (InFrame g)) at
          (goes g (record w { passed = w.passed + 1 }) at new)

      -- an operation is taken
      pub charges : (p : Position) (fails : Problem → World S → Act S) (go : World S → Act S) →
          ((x : Problem) (w : World S) → At n w → ProblemNames clean n x → Keeps (fails x w)) →
          ((w : World S) → At n w → Keeps (go w)) → (w : World S) → At n w →
          Keeps (rules.charged_or m p f fails w go)
      charges p fails go failing going w at =
          takes_operation (bases on) since n (rules.leave_by_fault m f NoMemory)
          (λ v there. leaves f NoMemory v there (omega arith, λ s. refl)) fails failing p go going w at

      pub charged : (go : World S → Act S) → ((w : World S) → At n w → Keeps (go w)) →
          (w : World S) → At n w → Keeps (rules.charged m f w go)
      charged go going w at =
          charges (rules.position m f) (rules.offered m f) go offered going w at

      -- what is held is read
      pub reads : (h : Held) (name : List ℕ) (w : World S) → At n w → HeldNames clean n h →
          (go : Dynamic → Act S) →
          ((v : Dynamic) → Names clean n v → cell_of v ≡ None → Keeps (go v)) →
          Keeps (rules.flattened m h name f w go)
      reads h name w at held go going = by_content (flat w.cells h.value) refl where
        by_content : (o : Option Dynamic) → flat w.cells h.value ≡ o →
            Keeps (rules.flat_or_race m o name f w go)
        by_content None is = races name w at
        by_content (Some v) is =
            let read = flat_names clean n w.cells h.value v at.contents held is in
            going v read.0 read.1

      pub reads_all : (hs : List Held) (w : World S) → At n w → Operands clean n hs →
          (go : List Held → Act S) → ((args : List Held) → Arguments clean n args → Keeps (go args))
          → Keeps (rules.flattened_all m hs f w go)
      reads_all hs w at held go going = by_content (flat_all w.cells hs) refl where
        by_content : (o : Option (List Held)) → flat_all w.cells hs ≡ o →
            Keeps (rules.all_or_race m o f w go)
        by_content None is = races [] w at
        by_content (Some args) is =
            going args (flat_all_names clean n w.cells hs args at.contents held is)

      -- an entry is looked up
      pub looks : (slot : ℕ) (w : World S) → At n w → (go : Held → Act S) →
          ((h : Held) → held_at w.scope (f.base + slot) ≡ Some h → HeldNames clean n h →
          Keeps (go h)) → Keeps (rules.at_slot m f slot w go)
      looks slot w at go going = by_entry (held_at w.scope (f.base + slot)) refl where
        by_entry : (o : Option Held) → held_at w.scope (f.base + slot) ≡ o →
            Keeps (rules.at_entry m o f (f.base + slot) w go)
        by_entry None is =
            raises (Plain (Malformed (kind.SlotPastScope (f.base + slot) (length w.scope)))
            (rules.position m f)) w at (omega arith, λ s. refl)
        by_entry (Some h) is =
            going h is (held_at_names clean n w.scope (f.base + slot) h at.entries is)

      -- a cell, an entry or a root is written
      writes_cell : (o : Option Cell) (i : ℕ) (h : Held) (name : List ℕ) (w : World S) → At n w →
          HeldNames clean n h → cell_of h.value ≡ None → (go : World S → Act S) →
          ((w : World S) → At n w → Keeps (go w)) →
          Keeps (rules.cell_written m o i h name f w go)
      writes_cell None i h name w at held plain go going = races name w at
      writes_cell (Some c) i h name w at held plain go going =
          by_test Keeps c.busy (rules.data_race m name f w)
          (rules.marked m f w (λ w1. go (record w1 { cells = slice_set w1.cells i (idle h) })))
          (λ busy. races name w at)
          (λ free. marks f w (λ w1. go (record w1 { cells = slice_set w1.cells i (idle h) })) at
          (going (record w { passed = w.passed + 1; cells = slice_set w.cells i (idle h) })
          (cell_set (bases on) n low w i h at held plain)))

      pub writes : (a : Home) (h : Held) (name : List ℕ) (w : World S) → At n w →
          HeldNames clean n h → MayStand a h.value → (go : World S → Act S) →
          ((w : World S) → At n w → Keeps (go w)) → Keeps (rules.written_at m a h name f w go)
      writes (InScope i) h name w at held plain go going =
          marks f w (λ w1. go (record w1 { scope = set_held w1.scope i h })) at
          (going (record w { passed = w.passed + 1; scope = set_held w.scope i h })
          (entry_set w i h at held))
      writes (InCell i) h name w at held plain go going =
          writes_cell (slice_get w.cells i) i h name w at held plain go going
      writes (AtPlace p) h name w at held plain go going =
          marks f w (λ w1. go (record w1 { roots = put w1.roots p h.value })) at
          (going (record w { passed = w.passed + 1; roots = put w.roots p h.value })
          (root_put (bases on) n low w p h.value at held (may_put clean n p.path h.value plain)))

      pub pushes : (next : ℕ) (ops : List Held) (v : Dynamic) (w : World S) → At n w →
          Operands clean n ops → Names clean n v → Keeps (rules.pushed m f next ops v w)
      pushes next ops v w at held value =
          onward (stepped f next (ops ++ read_write v ∷ [])) w at
          (pushed_names clean n ops (read_write v) held value, names.1)

    -- a jump
    pub jumps : (f g : Frame) → FrameNames clean n f → FrameNames clean n g → (w : World S) →
        At n w → Keeps (rules.jumped m f g w)
    jumps f g names new w at =
        by_test Keeps (nat_le g.address f.address)
        (rules.charged m (record g { address = f.address }) w (rules.onward m f g))
        (rules.onward m f g w)
        (λ back. charged (record g { address = f.address }) new (rules.onward m f g)
        (λ v there. onward f names g v there new) w at)
        (λ ahead. onward f names g w at new)
