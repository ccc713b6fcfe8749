-- Where a walk's first root stands while the code has it, and what is left of the walk there.
use Rattle.std.specs.Prelude.{◌≡◌, ◌+◌, ℕ, List, [], ◌∷◌, ◌++◌, Option, Some, None, Bool, true, false, length, option_map}
use Rattle.grain_value.specs.declared.values.Held.{Held}
use Rattle.grain_fault.specs.declared.places.Position.{Position}
use Rattle.grain_program.specs.declared.code.functions.Function.{Function}
use Rattle.grain_fault.specs.Problems.{NoMemory}
use Rattle.grain_fault.specs.declared.traces.Fault.{Fault}
use Rattle.grain_means.specs.Worlds.{Act, Answer, AtPlace, Came, Failed, Frame, Go, InHost, Place, Receiver, Setup, Then, World}
use Rattle.grain_means.specs.Tasks.{Call, Task, Walked}
use Rattle.grain_means.specs.Rules.{native_over, with_token}
use Rattle.grain_means.specs.Rules.InWorld.{failed_so, function_called, missed_by, performed, placed, trace_of, walks}
use Rattle.grain_frame.specs.declared.native_calls.Asked.{Asked}
use Rattle.grain_means.specs.Rules.Chains.{new_root}
use Rattle.grain_means.specs.Simulation.{Computation}
use Rattle.grain_means.specs.lemmas.Spreading.{spread}

-- A walk's first root is added to those of the world, or it is what stands at the place of the frame's
-- `this`. It held this when the walk began.
pub data Seat : Type 0 where
  Added : Held → Seat
  AtThis : Held → Seat

abbrev pub first_held : Seat → Held
first_held (Added h) = h
first_held (AtThis h) = h

-- the roots of the world when the walk began, with its first root
abbrev pub base_roots : Seat → List Held → List Held
base_roots (Added h) roots = roots ++ h ∷ []
base_roots (AtThis h) roots = roots

-- how many they are, by how many there were before
abbrev pub base_count : Seat → ℕ → ℕ
base_count (Added h) n = n + 1
base_count (AtThis h) n = n

abbrev pub place_or : Place → Option Place → Place
place_or p None = p
place_or p (Some q) = q

-- where the first root stands, if the frame's `this` stands at this place
abbrev pub base_place : Seat → Option Place → List Held → Place
base_place (Added h) place roots = new_root roots
base_place (AtThis h) place roots = place_or (new_root roots) place

-- what the frame's `this` held when the walk began, if the walk began there
abbrev pub Seated : Seat → Option Held → Type 0
Seated (Added h) this = Unit {0}
Seated (AtThis h) this = this ≡ Some h

-- what a native is lent of a walk: this, which stands at the place
abbrev pub lent_place : Option Held → Option Place → Option Receiver
lent_place None p = None
lent_place (Some h) None = None
lent_place (Some h) (Some p) = Some (record { home = AtPlace p; held = h })

-- what follows how a walk ends, by the number of the world's roots when it began
abbrev pub Rests : Type 0 → Type 0
Rests S = Setup S → Option Place → ℕ → Walked → World S → Act S

-- The trace of a property that was missed is kept only for a call by name, which may be of the indexer that
-- is asked in its place. A native that a pointer names is never that.
abbrev pub kept_by : Bool → Option (List Fault) → Option (List Fault)
kept_by true missed = missed
kept_by false missed = None

module _ {S : Type 0} (k : ℕ) (f : Option Place → Frame) (seat : Seat) (done : Rests S) where
  -- The walk of the chain of index k in a frame: these are its own roots now, and this is left to do;
  -- and then what follows from how it ends. If a property was missed just now, `missed` is the trace of that
  -- fault.
  abbrev pub walk_seated : Option (List Fault) → Task → List Held → Computation S
  walk_seated missed t rs m place w =
      walks m k (f place) (base_place seat place w.roots) (base_count seat (length w.roots)) missed t
      (done m place (length w.roots))
      (record w { roots = spread (base_roots seat w.roots) (base_place seat place w.roots) rs })

  -- the walk goes on with the answer of a function, by the roots of the world when the walk began
  abbrev pub goes_on : (Answer → Task) → List Held → Setup S → Option Place → Answer → World S → Act S
  goes_on go roots m place a w1 =
      walks m k (f place) (base_place seat place roots) (base_count seat (length roots)) None (go a)
      (done m place (length roots)) w1

  -- and with that of a native, which is called by its name or which a pointer names
  abbrev pub goes_on_from : Bool → Option (List Fault) → (Answer → Task) → List Held → Setup S →
      Option Place → Answer → World S → Act S
  goes_on_from named missed go roots m place a w1 =
      walks m k (f place) (base_place seat place roots) (base_count seat (length roots))
      (kept_by named (missed_by a w1.trace)) (go a) (done m place (length roots))
      (record w1 { trace = trace_of (kept_by named missed) a w1.trace })

  -- The walk calls a function at this position, on these arguments, under what stands at a place of its
  -- own, if one is given; and goes on with the answer.
  abbrev pub walk_calling : Function → Position → List Held → Option Place → (Answer → Task) →
      List Held → Computation S
  walk_calling g q args this go rs m place w =
      function_called m q g args (goes_on go w.roots m place)
      (option_map (placed (base_place seat place w.roots) (base_count seat (length w.roots))) this)
      (record w {
        roots = spread (base_roots seat w.roots) (base_place seat place w.roots) rs;
        trace = [];
      })

  -- the walk calls a native so, which is lent what stands at a place of the walk's own, if one is given
  abbrev pub walk_needing : Bool → Option (List Fault) → Call → (Answer → Task) → List Held →
      Computation S
  walk_needing named missed c go rs m place w =
      let p = base_place seat place w.roots in
      performed m k (f place) c (option_map (placed p (base_count seat (length w.roots))) c.receiver)
      (goes_on_from named missed go w.roots m place) (record w {
        roots = spread (base_roots seat w.roots) p rs;
        trace = [];
      })

  -- The walk calls a native, which is lent what stands at a place of the walk's own, if one is given, and
  -- asks for this call first, in a frame at this position; and the walk goes on with its answer.
  abbrev pub walk_asking : Asked → (Option Place → Frame) → Option Place → Option Held → Bool →
      Option (List Fault) → (Answer → Task) → List Held → Computation S
  walk_asking asked g lent held named missed go rs m place w =
      let p = base_place seat place w.roots in
      let heard = goes_on_from named missed go w.roots m place in
      Then (Go (InHost (record {
        receiver = lent_place held (option_map (placed p (base_count seat (length w.roots))) lent);
        frame = g place;
        token = asked.token;
        pointer = asked.pointer;
        values = asked.values;
      })) (record w {
        roots = spread (base_roots seat w.roots) p rs;
        trace = [];
        tokens = with_token asked.token w.tokens;
      })) (native_over (heard (Failed NoMemory)) (λ v w1. heard (Came v) w1) (failed_so m heard))
