-- Roots at a frame: faults, what is read and written, natives, and jumps.
use Rattle.std.proofs.Common.{◌≡◌, ◌+◌, ◌∙◌, ℕ, List, [], ◌∷◌, ◌++◌, Option, Some, None, false, if◌then◌else◌, nat_le, length}
use Rattle.std.specs.Prelude.{slice_get, slice_set}
use Rattle.grain_value.specs.Cells.{flat, idle}
use Rattle.grain_value.specs.Operands.{below, read_write}
use Rattle.grain_value.specs.Scopes.{set_held}
use Rattle.grain_value.specs.declared.stores.Cell.{Cell}
use Rattle.grain_value.specs.declared.values.Dynamic.{Dynamic}
use Rattle.grain_value.specs.declared.values.Held.{Held}
use Rattle.grain_fault.specs.Classes.{catchable}
use Rattle.grain_fault.specs.Problems.{Problem, Plain, DataRace, Malformed, NoMemory}
use Rattle.grain_fault.specs.declared.faults.MalformedKind.TheVariants as kind
use Rattle.grain_fault.specs.declared.places.Position.{Position}
use Rattle.grain_means.specs.Places.{put}
use Rattle.grain_means.specs.Rules as rules
use Rattle.grain_means.specs.Rules.{Home, InScope, InCell, AtPlace, Receiver, flat_all, held_at, race_text, stepped, thrown_anew}
use Rattle.grain_means.specs.Worlds.{Act, Go, Frame, Handler, InCatch, InFrame, Place, Setup, World}
use Rattle.grain_means.proofs.Footing.{by_arming, by_test}
use Rattle.grain_means.proofs.Touching.Passing.{Leaves, lent_place, marks_or, natives, place_of, takes_operation}
use Rattle.grain_means.proofs.Touching.Writes.{May, MayThis, Stands, set, stands_on}
use Rattle.grain_means.specs.lemmas.PlaceLaws.{length-put}

module _ {S : Type 0} (m : Setup S) (t : Option Place) (old : List Held) where
  abbrev pub At : World S → Type 0
  At w = Stands t old w.roots

  abbrev pub Stays : Act S → Type 0
  Stays act = Leaves false t old act

  -- where a frame may write
  abbrev pub MayAt : Home → Type 0
  MayAt (InScope i) = Unit {0}
  MayAt (InCell i) = Unit {0}
  MayAt (AtPlace p) = May t (length old) p

  puts : (p : Place) → May t (length old) p → (roots : List Held) (v : Dynamic) →
      Stands t old roots → Stands t old (put roots p v)
  puts p may roots v at = (set p v may at.0, length-put roots p v ∙ at.1)

  pub backs : (a : Home) → MayAt a → MayThis t (length old) (place_of a)
  backs (InScope i) may = tt
  backs (InCell i) may = tt
  backs (AtPlace p) may = may

  offers : (hs : List Handler) (f : Frame) → f.this ≡ t → (x : Problem) (w : World S) → At w →
      Stays (rules.offered_to m hs f x w)
  offers [] f is x w at = at
  offers (h ∷ hs) f is x w at =
      by_arming m Stays h.caught
      (if catchable x then Go (InCatch (record f { handlers = hs }) h x) w
      else rules.leave_by_fault m f x w)
      (λ y. rules.offered_to m hs f (thrown_anew y x) w)
      (λ none. by_test Stays (catchable x) (Go (InCatch (record f { handlers = hs }) h x) w)
      (rules.leave_by_fault m f x w) (λ may. (at, is)) (λ not. at))
      (λ y caught. offers hs f is (thrown_anew y x) w at)

  -- a mark in a frame
  pub marks : (f : Frame) (w : World S) (go : World S → Act S) → At w →
      Stays (go (record w { passed = w.passed + 1 })) → Stays (rules.marked m f w go)
  marks f w go at h =
      marks_or m false t old (Stands t old) (rules.leave_by_fault m f NoMemory) (λ v there. there) w go at h

  module _ (f : Frame) (is : f.this ≡ t) where
    pub offered : (x : Problem) (w : World S) → At w → Stays (rules.offered m f x w)
    offered x w at = offers f.handlers f is x w at

    pub raises : (x : Problem) (w : World S) → At w → Stays (rules.raised m f x w)
    raises x w at =
        marks f w (rules.offered m f x) at (offered x (record w { passed = w.passed + 1 }) at)

    races : (name : List ℕ) (w : World S) → At w → Stays (rules.data_race m name f w)
    races name w at = raises (Plain (DataRace (race_text name)) (rules.position m f)) w at

    pub onward : (g : Frame) → g.this ≡ t → (w : World S) → At w → Stays (rules.onward m f g w)
    onward g too w at =
        marks (record g { address = f.address }) w (Go (InFrame g)) at (at, too)

    pub charges : (p : Position) (fails : Problem → World S → Act S) (go : World S → Act S) →
        ((x : Problem) (w : World S) → At w → Stays (fails x w)) →
        ((w : World S) → At w → Stays (go w)) → (w : World S) → At w →
        Stays (rules.charged_or m p f fails w go)
    charges p fails go failing going w at =
        takes_operation m false t old (Stands t old) (rules.leave_by_fault m f NoMemory) (λ v there. there)
        fails failing p go going w at

    pub charged : (go : World S → Act S) → ((w : World S) → At w → Stays (go w)) → (w : World S) →
        At w → Stays (rules.charged m f w go)
    charged go going w at = charges (rules.position m f) (rules.offered m f) go offered going w at

    -- what is held is read
    pub reads : (h : Held) (name : List ℕ) (w : World S) → At w → (go : Dynamic → Act S) →
        ((v : Dynamic) → Stays (go v)) → Stays (rules.flattened m h name f w go)
    reads h name w at go going = by_content (flat w.cells h.value) where
      by_content : (o : Option Dynamic) → Stays (rules.flat_or_race m o name f w go)
      by_content None = races name w at
      by_content (Some v) = going v

    pub reads_all : (hs : List Held) (w : World S) → At w → (go : List Held → Act S) →
        ((args : List Held) → Stays (go args)) → Stays (rules.flattened_all m hs f w go)
    reads_all hs w at go going = by_content (flat_all w.cells hs) where
      by_content : (o : Option (List Held)) → Stays (rules.all_or_race m o f w go)
      by_content None = races [] w at
      by_content (Some args) = going args

    pub looks : (slot : ℕ) (w : World S) → At w → (go : Held → Act S) → ((h : Held) → Stays (go h)) →
        Stays (rules.at_slot m f slot w go)
    looks slot w at go going = by_entry (held_at w.scope (f.base + slot)) where
      by_entry : (o : Option Held) → Stays (rules.at_entry m o f (f.base + slot) w go)
      by_entry None =
          raises (Plain (Malformed (kind.SlotPastScope (f.base + slot) (length w.scope)))
          (rules.position m f)) w at
      by_entry (Some h) = going h

    -- a cell, an entry or a place is written
    writes_cell : (o : Option Cell) (i : ℕ) (h : Held) (name : List ℕ) (w : World S) → At w →
        (go : World S → Act S) → ((w : World S) → At w → Stays (go w)) →
        Stays (rules.cell_written m o i h name f w go)
    writes_cell None i h name w at go going = races name w at
    writes_cell (Some c) i h name w at go going =
        by_test Stays c.busy (rules.data_race m name f w)
        (rules.marked m f w (λ w1. go (record w1 { cells = slice_set w1.cells i (idle h) })))
        (λ busy. races name w at)
        (λ free. marks f w (λ w1. go (record w1 { cells = slice_set w1.cells i (idle h) })) at
        (going (record w { passed = w.passed + 1; cells = slice_set w.cells i (idle h) }) at))

    pub writes : (a : Home) → MayAt a → (h : Held) (name : List ℕ) (w : World S) → At w →
        (go : World S → Act S) → ((w : World S) → At w → Stays (go w)) →
        Stays (rules.written_at m a h name f w go)
    writes (InScope i) may h name w at go going =
        marks f w (λ w1. go (record w1 { scope = set_held w1.scope i h })) at
        (going (record w { passed = w.passed + 1; scope = set_held w.scope i h }) at)
    writes (InCell i) may h name w at go going = writes_cell (slice_get w.cells i) i h name w at go going
    writes (AtPlace p) may h name w at go going =
        marks f w (λ w1. go (record w1 { roots = put w1.roots p h.value })) at
        (going (record w { passed = w.passed + 1; roots = put w.roots p h.value })
        (puts p may w.roots h.value at))

    pub assigns_at : (a : Home) → MayAt a → (h : Held) (name : List ℕ) (next : ℕ) (w : World S) →
        At w → Stays (rules.assigned_at m a h name next f w)
    assigns_at a may h name next w at =
        writes a may h name w at (rules.onward m f (stepped f next (below f.operands)))
        (λ v there. onward (stepped f next (below f.operands)) is v there)

    pub pushes : (next : ℕ) (ops : List Held) (v : Dynamic) (w : World S) → At w →
        Stays (rules.pushed m f next ops v w)
    pushes next ops v w at = onward (stepped f next (ops ++ read_write v ∷ [])) is w at

    -- a native that is asked for
    pub asks : (r : Option Receiver) → MayThis t (length old) (lent_place r) →
        (go : Dynamic → World S → Act S) (fails : Problem → World S → Act S) →
        ((v : Dynamic) (w : World S) → At w → Stays (go v w)) →
        ((x : Problem) (w : World S) → At w → Stays (fails x w)) → (name : List ℕ)
        (args : List Held) (w : World S) → At w → Stays (rules.native m name r args f w go fails)
    asks r lends go fails going failing name args w at =
        natives m false t old (Stands t old) (rules.leave_by_fault m f NoMemory) (λ v there. there) f
        go fails going failing r
        (λ from now was there. stands_on t (lent_place r) old from now lends was there) name args w at

    pub jumps : (g : Frame) → g.this ≡ t → (w : World S) → At w → Stays (rules.jumped m f g w)
    jumps g too w at = by_test Stays (nat_le g.address f.address)
        (rules.charged m (record g { address = f.address }) w (rules.onward m f g))
        (rules.onward m f g w)
        (λ back. charged_back w at)
        (λ ahead. onward g too w at) where
          charged_back : (w : World S) → At w →
              Stays (rules.charged m (record g { address = f.address }) w (rules.onward m f g))
          charged_back w at =
              takes_operation m false t old (Stands t old)
              (rules.leave_by_fault m (record g { address = f.address }) NoMemory) (λ v there. there)
              (rules.offered m (record g { address = f.address }))
              (λ x v there. offers g.handlers (record g { address = f.address }) too x v there)
              (rules.position m (record g { address = f.address })) (rules.onward m f g)
              (λ v there. onward g too v there) w at
