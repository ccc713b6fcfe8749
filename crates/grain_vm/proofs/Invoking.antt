-- What a request of a walk calls: a native, a function, or, if memory is out, nothing.
use Rattle.std.proofs.Common.{◌≡◌, ◌∙◌, ℕ, ◌+◌, List, [], ◌∷◌, ◌++◌, Option, Some, None, Bool, true, false, length, map, refl, sym, ap, subst, arith}
use Rattle.std.specs.Prelude.{Err, nat_lt, option_map, slice_get}
use Rattle.std.proofs.lemmas.List.{length-map, map-append}
use Rattle.grain_value.specs.Tree.{Tree}
use Rattle.grain_value.specs.View.{value_of}
use Rattle.grain_value.specs.Operands.{read_write}
use Rattle.grain_value.specs.declared.values.FnPtr.{FnPtr}
use Rattle.grain_value.specs.declared.values.Held.{Held}
use Rattle.grain_fault.specs.Problems.{NoMemory}
use Rattle.grain_fault.specs.declared.places.Position.{Position}
use Rattle.grain_fault.specs.declared.traces.Fault.{Fault}
use Rattle.grain_program.specs.declared.code.functions.Function.{Function}
use Rattle.grain_means.specs.Worlds.{is_stop, Act, Answer, Failed, Frame, Place, Setup, World}
use Rattle.grain_means.specs.Places.{look}
use Rattle.grain_means.specs.Tasks.{Task, Invocation, Pointed}
use Rattle.grain_means.specs.Rules.{flat_all, function_by_name, function_numbered}
use Rattle.grain_means.specs.Rules.Pointers.{curried_in}
use Rattle.grain_means.specs.Rules.Chains.{new_root}
use Rattle.grain_means.specs.Rules.InWorld.{copy_dropped, function_called, function_under, lent_at, placed, pointed_called, pointed_native, walks}
use Rattle.grain_means.specs.Simulation.{Binds, Computation, LocalState, Simulates, stopped, world}
use Rattle.grain_means.specs.lemmas.Roots.{puts-bound}
use Rattle.grain_means.specs.lemmas.Spreading.{spread}
use Rattle.grain_means.specs.lemmas.Stretches.{compose, same}
use Rattle.grain_global.specs.StepsView.{StepsView}
use Rattle.grain_fault.specs.declared.faults.EvalAltResult.TheVariants as fault
use Rattle.grain_frame.specs.declared.runs.Run.{Run}
use Rattle.grain_vm.specs.Driving.{AnsweredTo, Answers, IsApartIn, SameFlag, beside, having, is_named, left_by, name_in, needing}
use Rattle.grain_vm.specs.declared.driving.Answered.{Answered}
use Rattle.grain_vm.specs.declared.driving.Answered.TheVariants as answered
use Rattle.grain_chain.specs.Walking.{call_for, invocation_for, task_for}
use Rattle.grain_chain.specs.declared.requests.Request.{Request}
use Rattle.grain_chain.specs.declared.requests.What.{What}
use Rattle.grain_chain.specs.declared.requests.What.TheVariants as what
use Rattle.grain_vm.specs.Methods.{AsksFunction, AsksNative, IsPointer, given_to}
use Rattle.grain_vm.specs.Seats.{Rests, Seat, base_count, base_place, base_roots, walk_calling, walk_needing, walk_seated}
use Rattle.grain_vm.proofs.Lending.{needed_out}
use Rattle.grain_vm.proofs.MethodCalls.{copy_gone}
use Rattle.grain_vm.proofs.Needing.{receiver_asked}
use Rattle.grain_vm.proofs.Performing.{same_flag}

-- ---- the arguments of a pointer's call

values_joined : (xs ys : List Tree) →
    map value_of (xs ++ ys) ≡ map value_of xs ++ map value_of ys
values_joined xs ys = map-append value_of xs ys

pub given_curried : (f : FnPtr) (ts : List Tree) →
    curried_in f ++ given_to ts ≡ given_to (f.curry ++ ts)
given_curried f ts = go f.curry where
  go : (cs : List Tree) →
      map (λ t. read_write (value_of t)) cs ++ given_to ts ≡ given_to (cs ++ ts)
  go [] = refl
  go (c ∷ cs) = ap (λ (l : List Held). read_write (value_of c) ∷ l) (go cs)

-- ---- which function is meant

module _ {H : Type 0} (m : Setup H) (k : ℕ) (f : Option Place → Frame) (seat : Seat) (done : Rests H)
    (missed : Option (List Fault)) (r : Request) (q : Option Place) (go : Answer → Task)
    (rs : List Held) where
  -- the task of a request for this
  abbrev pub asked : What → Task
  asked x = task_for x r q go

  -- a request for a function is its call, in any world and at any stop
  pub asks_function : (x : What) (g : Function) (number : ℕ) (ts : List Tree) →
      AsksFunction m.program r x number ts → slice_get m.program.functions number ≡ Some g →
      (stop : Option ℕ) (place : Option Place) (w : World H) →
      walk_seated k f seat done missed (asked x) rs (stopped m stop) place w
      ≡ walk_calling k f seat done g r.pos (given_to ts) q go rs (stopped m stop) place w
  asks_function (what.Native name) g number ts asks there stop place w = absurd asks
  asks_function (what.Compiled n) g number ts asks there stop place w =
      rw (sym (asks.0), there, asks.1) refl
  asks_function (what.Pointer fn) g number ts asks there stop place w =
      rw (
        length-map r.arguments value_of,
        ap (function_numbered m.program) asks.0 ∙ there,
        asks.1,
        ← given_curried fn r.arguments,
      ) refl

  -- a request for a native by its name is that native's
  pub asks_native : (x : What) (other : Request) → r.what ≡ x → AsksNative m.program r x other →
      (stop : Option ℕ) (place : Option Place) (w : World H) →
      walk_seated k f seat done missed (asked x) rs (stopped m stop) place w
      ≡ walk_needing k f seat done (is_named x) missed (call_for (name_in other.what) other q) go rs
      (stopped m stop) place w
  asks_native (what.Native name) other is asks stop place w =
      ap (λ (y : What). walk_needing k f seat done true missed (call_for (name_in y) r q) go rs
      (stopped m stop) place w) (sym is)
      ∙ ap (λ (o : Request). walk_needing k f seat done true missed (call_for (name_in o.what) o q) go rs
      (stopped m stop) place w) (sym asks)
  asks_native (what.Compiled n) other is asks stop place w = absurd asks
  -- and for a pointer that names no function, the native of that name
  asks_native (what.Pointer fn) other is asks stop place w = rw (
    asks.1,
    length-map r.arguments value_of,
    ap (function_numbered m.program) asks.0,
    values_joined fn.curry r.arguments,
  ) refl

-- ---- memory is out before the call has begun

module _ {H : Type 0} (m : Setup H) (q : Position) (g : Function) (args : List Held) where
  pub under_out : (heard : Answer → World H → Act H) (spot : Option Place) (w : World H) →
      is_stop m.stop w.passed ≡ true →
      function_under m q g args heard spot w ≡ heard (Failed NoMemory) w
  under_out heard spot w halts = by (nat_lt w.count m.engine.limits.operations) refl where
    by : (b : Bool) → nat_lt w.count m.engine.limits.operations ≡ b →
        function_under m q g args heard spot w ≡ heard (Failed NoMemory) w
    by true is = rw (is, halts) refl
    by false is = rw (is, halts) refl

  pub called_out : (heard : Answer → World H → Act H) (spot : Option Place) (w : World H) →
      is_stop m.stop w.passed ≡ true →
      function_called m q g args heard spot w ≡ heard (Failed NoMemory) w
  called_out heard None w halts = under_out heard None w halts
  called_out heard (Some p) w halts = by (look w.roots p).read_only refl where
    by : (b : Bool) → (look w.roots p).read_only ≡ b →
        function_called m q g args heard (Some p) w ≡ heard (Failed NoMemory) w
    by false is = rw is (under_out heard (Some p) w halts)
    by true is =
        rw is (under_out (copy_dropped m (length w.roots) heard) (Some (new_root w.roots))
        (record w { roots = w.roots ++ look w.roots p ∷ [] }) halts
        ∙ ap (λ (rs : List Held). heard (Failed NoMemory) (record w { roots = rs }))
        (copy_gone w.roots (look w.roots p) None))

-- what a pointer names is not called
pub pointed_out : {H : Type 0} (m : Setup H) (k : ℕ) (f : Frame) (i : Invocation) (p : Option Place)
    (heard : Answer → World H → Act H) (fn : FnPtr) (o : Option Function) (w : World H) →
    is_stop m.stop w.passed ≡ true →
    pointed_called m k f i p heard fn o w ≡ heard (Failed NoMemory) w
pointed_out m k f i p heard fn None w halts =
    needed_out m k f (pointed_native i fn) (lent_at w.roots p) heard w halts
    (flat_all w.cells (map read_write (pointed_native i fn).values))
pointed_out m k f i p heard fn (Some g) w halts =
    called_out m i.position g (curried_in fn ++ map read_write i.values) heard p w halts

-- ---- what came of a request

-- what a walk came to from one task it comes to from another that is the same
answered_from : {H : Type 0} (m : Setup H) (old new : LocalState H) (first start : Computation H)
    (k : ℕ) (f : Option Place → Frame) (seat : Seat) (done : Rests H) (named : Bool)
    (missed : Option (List Fault)) (q : Option Place) (go : Answer → Task) (rs : List Held)
    (a : Answered) → Simulates m old first false old start →
    AnsweredTo m old start k f seat done named missed q go rs a new →
    AnsweredTo m old first k f seat done named missed q go rs a new
answered_from m old new first start k f seat done named missed q go rs (answered.Over o) alike did =
    compose alike did tt
answered_from m old new first start k f seat done named missed q go rs (answered.Asks native) alike did =
    (did.0, did.1, compose alike did.2 tt)

module _ {H : Type 0} (m : Setup H) (r : Request) (s s' : Run H) (n n' : StepsView)
    (host host' : H) (a : Answered) where
  -- it calls a native
  answers_native : (other : Request) → AsksNative m.program r r.what other →
      Answers m (is_named r.what) (needing (is_named r.what) (name_in other.what) other) other.receiver
      s n host a s' n' host' →
      Answers m (is_named r.what) (having r.what r) r.receiver s n host a s' n' host'
  answers_native other asks does k f seat done missed q go rs scope this seated rooted bound =
      answered_from m (beside scope this s n host) (beside scope this s' n' host')
      (walk_seated k f seat done missed (task_for r.what r q go) rs)
      (walk_needing k f seat done (is_named r.what) missed (call_for (name_in other.what) other q) go rs)
      k f seat done (is_named r.what) missed q go rs a
      (same (record {
        this = refl;
        order = omega arith;
        equal = λ stop clear halts u place.
            asks_native m k f seat done missed r q go rs r.what other refl asks stop place
            (world (beside scope this s n host) u);
      }))
      (does k f seat done missed q go rs scope this seated rooted
      (subst (λ (x : Option Held). Binds rs q x) (sym (receiver_asked m.program r other r.what asks))
      bound))

  pub serves_native : (other : Request) → AsksNative m.program r r.what other →
      Answers m (is_named r.what) (needing (is_named r.what) (name_in other.what) other) other.receiver
      s n host a s' n' host' → SameFlag other.receiver (left_by a) → IsApartIn a →
      SameFlag r.receiver (left_by a) × IsApartIn a
      × Answers m (is_named r.what) (having r.what r) r.receiver s n host a s' n' host'
  serves_native other asks does flag apart = (
    subst (λ (x : Option Held). SameFlag x (left_by a))
        (receiver_asked m.program r other r.what asks) flag,
    apart,
    answers_native other asks does,
  )

module _ {H : Type 0} (m : Setup H) (r : Request) (s : Run H) (n : StepsView) (host : H) where
  abbrev out : Answered
  out = answered.Over (Err fault.Memory, r.receiver)

  -- memory is out before what a pointer names is called
  answers_out : (x : What) → IsPointer x →
      Answers m (is_named x) (having x r) r.receiver s n host out s n host
  answers_out (what.Native name) is = absurd is
  answers_out (what.Compiled i) is = absurd is
  answers_out (what.Pointer fn) is = λ k f seat done missed q go rs scope this seated rooted bound.
      subst (λ us. Simulates m (beside scope this s n host)
      (walk_seated k f seat done missed (task_for (what.Pointer fn) r q go) rs) true
      (record (beside scope this s n host) { trace = [] })
      (walk_seated k f seat done None (go (Failed NoMemory)) us))
      (sym (puts-bound rs q r.receiver bound))
      (same (record {
        this = refl;
        order = omega arith;
        equal = λ stop clear halts u place.
            pointed_out (stopped m stop) k (f place) (invocation_for (Pointed fn) r q)
            (option_map (placed (base_place seat place u.roots) (base_count seat (length u.roots))) q)
            (λ a w1. walks (stopped m stop) k (f place) (base_place seat place u.roots)
            (base_count seat (length u.roots)) None (go a) (done (stopped m stop) place (length u.roots))
            w1) fn (function_by_name m.program fn.name
            (length fn.curry + length (map value_of r.arguments)))
            (record (world (beside scope this s n host) u) {
              roots = spread (base_roots seat u.roots) (base_place seat place u.roots) rs;
              trace = [];
            }) halts;
      }))

  pub serves_out : (back : Request) → (back ≡ r) × IsPointer r.what →
      SameFlag r.receiver back.receiver × Unit {0}
      × Answers m (is_named r.what) (having r.what r) r.receiver s n host
      (answered.Over (Err fault.Memory, back.receiver)) s n host
  serves_out back given =
      subst (λ (x : Option Held). SameFlag r.receiver x × Unit {0}
      × Answers m (is_named r.what) (having r.what r) r.receiver s n host
      (answered.Over (Err fault.Memory, x)) s n host)
      (ap (λ (y : Request). y.receiver) (sym given.0))
      (same_flag r.receiver, tt, answers_out r.what given.1)
