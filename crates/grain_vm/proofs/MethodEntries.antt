-- How the call of a function that a walk calls begins: its operation, the limits, and its frame.
use Rattle.std.proofs.Common.{◌≡◌, ◌∙◌, ◌≤◌, ◌<◌, ◌+◌, ℕ, List, [], ◌∷◌, ◌++◌, Option, Bool, true, false, if◌then◌else◌, Result, Ok, Err, length, nat_le, nat_lt, refl, ap, arith}
use Rattle.grain_value.specs.Tree.{Tree}
use Rattle.grain_value.specs.declared.memory.OutOfMemory.{OutOfMemory}
use Rattle.grain_value.specs.declared.scopes.Entry.{Entry}
use Rattle.grain_value.specs.declared.values.Dynamic.{Dynamic}
use Rattle.grain_value.specs.declared.values.Held.{Held}
use Rattle.grain_fault.specs.Problems.{InFunctionCall, InModule, NoMemory, Plain, Problem, StackOverflow, SystemError, TooManyOperations, TooManyVariables, problem_of}
use Rattle.grain_fault.specs.declared.faults.EvalAltResult.{EvalAltResult}
use Rattle.grain_fault.specs.declared.faults.EvalAltResult.TheVariants as fault
use Rattle.grain_fault.specs.declared.places.Position.{Position}
use Rattle.grain_program.specs.View.{View}
use Rattle.grain_program.specs.declared.code.functions.Function.{Function}
use Rattle.grain_host.specs.Law.{GoOn, Law, Stop, Verdict}
use Rattle.grain_global.specs.StepsView.{StepsView}
use Rattle.grain_global.specs.declared.engines.Engine.{Engine}
use Rattle.grain_stack.specs.Views.{with_frame}
use Rattle.grain_means.specs.Worlds.{is_stop, Act, Failed, Go, InFrame, Place, Setup, Then, World}
use Rattle.grain_means.specs.Means.{setup}
use Rattle.grain_means.specs.Rules.{body_entered, bound, frame_at, on_verdict_or, operation_taken}
use Rattle.grain_means.specs.Rules.InWorld.{body_over, function_under}
use Rattle.grain_means.specs.Simulation.{Computation, Environment, SimulatesExactly, stopped, world}
use Rattle.grain_means.specs.lemmas.Stretches.{then_exactly}
use Rattle.grain_chain.specs.Walking.{is_want, no_memory}
use Rattle.grain_frame.specs.Abstraction.{abstraction, is_out, taken_continuation, ChargeResult}
use Rattle.grain_frame.specs.declared.receivers.Bound.{Bound}
use Rattle.grain_frame.specs.declared.runs.Run.{Run}
use Rattle.grain_vm.specs.Driving.{beside}
use Rattle.grain_vm.specs.Methods.{EndsBefore, Enters, EntersBound, Hears, MarksEntry, MethodOver, bound_with, given_to}
use Rattle.grain_vm.proofs.MethodCalls.{may_stop}

-- ---- the run

pub is_no_memory : (y : Problem) → no_memory y ≡ true → y ≡ NoMemory
is_no_memory NoMemory want = refl
is_no_memory (Plain k p) want = absurd cc
is_no_memory (InFunctionCall f s x p) want = absurd cc
is_no_memory (InModule n x p) want = absurd cc
is_no_memory (SystemError s e) want = absurd cc

-- only the count and the fault have changed
pub over_faulted : {H : Type 0} (s t : Run H) (count : ℕ) (y : EvalAltResult) →
    t ≡ record s { count = count; fault = y } → s.count ≤ count → MethodOver s t
over_faulted s t count y is le = rw is (record {
  scope = refl;
  saved = refl;
  level = refl;
  receivers = refl;
  room = refl;
  noted = refl;
  outer = refl;
  operands = refl;
  cursors = refl;
  totals = refl;
  handlers = refl;
  later = le;
})

pub over_counted : {H : Type 0} (s t : Run H) → t ≡ record s { count = s.count + 1 } →
    MethodOver s t
over_counted s t is =
    over_faulted s t (s.count + 1) s.fault is (omega arith)

-- ---- an operation on another scope

verdict_beside : {S : Type 0} (m : Setup S) (out go : World S → Act S)
    (fails : Problem → World S → Act S) (v : Verdict) (q : Position) (scope : List Entry)
    (w : World S) → on_verdict_or m out v q fails (record w { scope = scope }) go
    ≡ on_verdict_or m (λ x. out (record x { scope = scope })) v q
    (λ y x. fails y (record x { scope = scope })) w (λ x. go (record x { scope = scope }))
verdict_beside m out go fails GoOn q scope w = refl
verdict_beside m out go fails (Stop t) q scope w = refl

taken_beside : {S : Type 0} (m : Setup S) (out go : World S → Act S)
    (fails : Problem → World S → Act S) (q : Position) (scope : List Entry)
    (w : World S) → operation_taken m out q fails (record w { scope = scope }) go
    ≡ operation_taken m (λ x. out (record x { scope = scope })) q
    (λ y x. fails y (record x { scope = scope })) w (λ x. go (record x { scope = scope }))
taken_beside {S} m out go fails q scope w =
    ap (λ (y : Act S).
    if nat_lt w.count m.engine.limits.operations then
    (if is_stop m.stop w.passed then out (record w { scope = scope }) else
    (if is_stop m.stop (w.passed + 1)
    then out (record w { scope = scope; passed = w.passed + 1; count = w.count + 1 }) else
    (if is_stop m.stop (w.passed + 1 + 1) then out (record w {
      scope = scope;
      passed = w.passed + 1 + 1;
      count = w.count + 1;
      host = m.law.progress_after w.host (w.count + 1);
    }) else y))) else
    (if is_stop m.stop w.passed then out (record w { scope = scope })
    else fails (Plain TooManyOperations q) (record w { scope = scope; passed = w.passed + 1 })))
    (verdict_beside m out go fails (m.law.progress_reply w.host (w.count + 1)) q scope (record w {
      passed = w.passed + 1 + 1 + 1;
      count = w.count + 1;
      host = m.law.progress_after w.host (w.count + 1);
    }))

module _ {H : Type 0} (law : Law H) (p : View) (engine : Engine) (q : Position) (s : Run H)
    (n : StepsView) (host : H) where
  -- what the code says of an operation that a call takes
  abbrev pub SimulatesTaking : Result Bool OutOfMemory → Run H → StepsView → H → Type 0
  SimulatesTaking r t k mid =
      (out go : Computation H) (fails : Setup H → Option Place → Problem → World H → Act H) →
      SimulatesExactly (setup law p engine) (abstraction s n host)
      (λ m place w. operation_taken m (out m place) q (fails m place) w (go m place)) (is_out r)
      (abstraction t k mid) (taken_continuation r t.fault out go fails)

  module _ (t : Run H) (k : StepsView) (mid : H) where
    -- what follows it does so on any scope
    continued_beside : (r : Result Bool OutOfMemory) (out go : Computation H)
        (fails : Setup H → Option Place → Problem → World H → Act H) (scope : List Entry)
        (x : Option Held) (m : Setup H) (place : Option Place) (u : Environment) →
        taken_continuation r t.fault (λ m place w. out m place (record w { scope = scope }))
        (λ m place w. go m place (record w { scope = scope }))
        (λ m place y w. fails m place y (record w { scope = scope })) m place
        (world (abstraction t k mid) u)
        ≡ taken_continuation r t.fault out go fails m place (world (beside scope x t k mid) u)
    continued_beside (Ok true) out go fails scope x m place u = refl
    continued_beside (Ok false) out go fails scope x m place u = refl
    continued_beside (Err e) out go fails scope x m place u = refl

    -- the operation is taken so under any scope and `this`
    pub taking_beside : (r : Result Bool OutOfMemory) → SimulatesTaking r t k mid →
        (out go : Computation H) (fails : Setup H → Option Place → Problem → World H → Act H)
        (scope : List Entry) (x : Option Held) →
        SimulatesExactly (setup law p engine) (beside scope x s n host)
        (λ m place w. operation_taken m (out m place) q (fails m place) w (go m place)) (is_out r)
        (beside scope x t k mid) (taken_continuation r t.fault out go fails)
    taking_beside r does out go fails scope x =
        let did = does (λ m place w. out m place (record w { scope = scope }))
        (λ m place w. go m place (record w { scope = scope }))
        (λ m place y w. fails m place y (record w { scope = scope })) in
        record {
          this = refl;
          order = did.order;
          equal = λ stop clear halts u place.
              taken_beside (stopped (setup law p engine) stop)
              (out (stopped (setup law p engine) stop) place)
              (go (stopped (setup law p engine) stop) place)
              (fails (stopped (setup law p engine) stop) place) q scope
              (world (abstraction s n host) u)
              ∙ did.equal stop clear halts u place
              ∙ continued_beside r out go fails scope x (stopped (setup law p engine) stop) place u;
        }

    module _ (g : Function) (ts : List Tree) where
      abbrev args : List Held
      args = given_to ts

      -- what is left of the call once its operation is taken
      abbrev pub entering : Option Place → Hears H → Computation H
      entering spot heard m place w =
          body_entered m (heard m place (Failed NoMemory)) (λ y. heard m place (Failed y)) q g args spot
          (body_over m q g (heard m place)) w

      module _ (scope : List Entry) (x : Option Held) (spot : Option Place) (heard : Hears H) where
        takes : (r : Result Bool OutOfMemory) → SimulatesTaking r t k mid →
            SimulatesExactly (setup law p engine) (beside scope x s n host)
            (λ m place w. function_under m q g args (heard m place) spot w) (is_out r)
            (beside scope x t k mid) (taken_continuation r t.fault
            (λ m place. heard m place (Failed NoMemory)) (entering spot heard)
            (λ m place y. heard m place (Failed y)))
        takes r does =
            taking_beside r does (λ m place. heard m place (Failed NoMemory)) (entering spot heard)
            (λ m place y. heard m place (Failed y)) scope x

        -- the operation is taken
        taken_on : (b : Bool) → b ≡ true → SimulatesTaking (Ok b) t k mid →
            SimulatesExactly (setup law p engine) (beside scope x s n host)
            (λ m place w. function_under m q g args (heard m place) spot w) false
            (beside scope x t k mid) (entering spot heard)
        taken_on false eb does = absurd cc
        taken_on true eb does =
            let did = takes (Ok true) does in
            record {
              this = refl;
              order = did.order;
              equal = λ stop clear halts u place. did.equal stop clear halts u place;
            }

        -- the level is the highest that is allowed
        too_deep : nat_le engine.limits.levels t.level ≡ true →
            SimulatesExactly (setup law p engine) (beside scope x t k mid) (entering spot heard) false
            (beside scope x t (record k { passed = k.passed + 1 }) mid)
            (λ m place w. heard m place (Failed (Plain StackOverflow q)) w)
        too_deep high = record {
          this = refl;
          order = omega arith;
          equal = λ stop clear halts u place.
              rw (high, clear k.passed (omega arith) (omega arith)) refl;
        }

        -- the function has more parameters than variables are allowed
        too_many : nat_le engine.limits.levels t.level ≡ false →
            nat_lt engine.limits.variables (length g.params) ≡ true →
            SimulatesExactly (setup law p engine) (beside scope x t k mid) (entering spot heard) false
            (beside scope x t (record k { passed = k.passed + 1 }) mid)
            (λ m place w. heard m place (Failed (Plain TooManyVariables q)) w)
        too_many low many = record {
          this = refl;
          order = omega arith;
          equal = λ stop clear halts u place.
              rw (low, many, clear k.passed (omega arith) (omega arith)) refl;
        }

        -- memory is out where the frame would be entered
        wants_there : nat_le engine.limits.levels t.level ≡ false →
            nat_lt engine.limits.variables (length g.params) ≡ false →
            SimulatesExactly (setup law p engine) (beside scope x t k mid) (entering spot heard) true
            (beside scope x t k mid) (λ m place w. heard m place (Failed NoMemory) w)
        wants_there low few = record {
          this = refl;
          order = omega arith;
          equal = λ stop clear halts u place. rw (low, few, halts) refl;
        }

        -- the frame is entered
        enters_there : (r : ℕ) (saved : List (List Entry)) (bounds : List Bound) →
            nat_le engine.limits.levels t.level ≡ false →
            nat_lt engine.limits.variables (length g.params) ≡ false → t.level ≡ s.level →
            SimulatesExactly (setup law p engine) (beside scope x t k mid) (entering spot heard) false
            (beside (bound p g.params args) x (record t {
              stacks = with_frame r t.stacks;
              scope = bound p g.params args;
              saved = saved;
              level = t.level + 1;
              receivers = bounds;
            }) (record k { passed = k.passed + 1 }) mid)
            (λ m place w. Then (Go (InFrame (frame_at g.chunk 0 spot)) w)
            (λ a w2. body_over m q g (heard m place) a (record w2 { scope = scope; level = s.level })))
        enters_there r saved bounds low few same = record {
          this = refl;
          order = omega arith;
          equal = λ stop clear halts u place.
              rw (low, few, clear k.passed (omega arith) (omega arith), same) refl;
        }

      -- ---- what came of the beginning of the call

      -- memory is out where the operation is taken
      pub taking_wants : (e : OutOfMemory) → SimulatesTaking (Err e) t k mid →
          EndsBefore (setup law p engine) q g args s n host (Err fault.Memory) t k mid
      taking_wants e does scope x spot heard =
          let did = takes scope x spot heard (Err e) does in
          record {
            this = refl;
            order = did.order;
            equal = λ stop clear halts u place. did.equal stop clear halts u place;
          }

      -- a fault in place of the operation
      pub taking_failed : (b : Bool) → b ≡ false → SimulatesTaking (Ok b) t k mid →
          (y z : EvalAltResult) → y ≡ t.fault →
          EndsBefore (setup law p engine) q g args s n host (Err y) (record t { fault = z }) k mid
      taking_failed true eb does y z is = absurd cc
      taking_failed false eb does y z is = λ scope x spot heard.
          let did = takes scope x spot heard (Ok false) does in
          may_stop (is_want (Err y)) (record {
            this = refl;
            order = did.order;
            equal = λ stop clear halts u place.
                rw is (did.equal stop clear halts u place);
          })

      ends_deep : (b : Bool) → b ≡ true → SimulatesTaking (Ok b) t k mid →
          nat_le engine.limits.levels t.level ≡ true →
          EndsBefore (setup law p engine) q g args s n host (Err (fault.ErrorStackOverflow q)) t
          (record k { passed = k.passed + 1 }) mid
      ends_deep b eb does high scope x spot heard =
          then_exactly (taken_on scope x spot heard b eb does) (too_deep scope x spot heard high)

      ends_full : (b : Bool) → b ≡ true → SimulatesTaking (Ok b) t k mid →
          nat_le engine.limits.levels t.level ≡ false →
          nat_lt engine.limits.variables (length g.params) ≡ true →
          EndsBefore (setup law p engine) q g args s n host (Err (fault.ErrorTooManyVariables q)) t
          (record k { passed = k.passed + 1 }) mid
      ends_full b eb does low many scope x spot heard =
          then_exactly (taken_on scope x spot heard b eb does) (too_many scope x spot heard low many)

      ends_wanting : (b : Bool) → b ≡ true → SimulatesTaking (Ok b) t k mid →
          nat_le engine.limits.levels t.level ≡ false →
          nat_lt engine.limits.variables (length g.params) ≡ false →
          (o : Result Dynamic EvalAltResult) → is_want o ≡ true →
          EndsBefore (setup law p engine) q g args s n host o t k mid
      ends_wanting b eb does low few (Ok v) want = absurd cc
      ends_wanting b eb does low few (Err y) want = λ scope x spot heard.
          let here : SimulatesExactly (setup law p engine) (beside scope x s n host)
          (λ m place w. function_under m q g args (heard m place) spot w) true
          (beside scope x t k mid) (λ m place w. heard m place (Failed NoMemory) w) =
          then_exactly (taken_on scope x spot heard b eb does)
          (wants_there scope x spot heard low few) in
          rw (want, is_no_memory (problem_of y) want) here

      module _ (x : Option Held) where
        abbrev Begun : Result (Option Held) (Result Dynamic EvalAltResult × Option Held) → Run H →
            StepsView → Type 0
        Begun r s' n' = Enters (setup law p engine) q g args engine x s n host r s' n' mid

        pub begun_wants : (e : OutOfMemory) → SimulatesTaking (Err e) t k mid →
            ChargeResult engine s t (Err e) → Begun (Err (Err fault.Memory, x)) t k
        begun_wants e does run =
            (refl, over_faulted s t t.count t.fault run.0 run.1, taking_wants e does)

        pub begun_failed : (b : Bool) → b ≡ false → SimulatesTaking (Ok b) t k mid →
            ChargeResult engine s t (Ok b) → (y : EvalAltResult) (s' : Run H) → y ≡ t.fault →
            s' ≡ record t { fault = fault.Memory } → Begun (Err (Err y, x)) s' k
        begun_failed b eb does run y s' value after =
            let count : (t ≡ record s { count = t.count; fault = t.fault }) × (s.count ≤ t.count) =
            faulted b eb run in (
              refl,
              over_faulted s s' t.count fault.Memory
                  (after ∙ ap (λ (r : Run H). record r { fault = fault.Memory }) count.0) count.1,
              rw after (taking_failed b eb does y fault.Memory value),
            ) where
              faulted : (b : Bool) → b ≡ false → ChargeResult engine s t (Ok b) →
                  (t ≡ record s { count = t.count; fault = t.fault }) × (s.count ≤ t.count)
              faulted true eb run = absurd cc
              faulted false eb run = run

        -- the operation is taken
        module _ (b : Bool) (eb : b ≡ true) (does : SimulatesTaking (Ok b) t k mid)
            (run : ChargeResult engine s t (Ok b)) where
          counted : (t ≡ record s { count = s.count + 1 }) × (s.count < engine.limits.operations)
          counted = by b eb run where
            by : (b : Bool) → b ≡ true → ChargeResult engine s t (Ok b) →
                (t ≡ record s { count = s.count + 1 }) × (s.count < engine.limits.operations)
            by false eb run = absurd cc
            by true eb run = run

          pub begun_deep : (n' : StepsView) → n' ≡ record k { passed = k.passed + 1 } →
              nat_le engine.limits.levels t.level ≡ true →
              Begun (Err (Err (fault.ErrorStackOverflow q), x)) t n'
          begun_deep n' marked high =
              (refl, over_counted s t counted.0, rw marked (ends_deep b eb does high))

          pub begun_full : (n' : StepsView) → n' ≡ record k { passed = k.passed + 1 } →
              nat_le engine.limits.levels t.level ≡ false →
              nat_lt engine.limits.variables (length g.params) ≡ true →
              Begun (Err (Err (fault.ErrorTooManyVariables q), x)) t n'
          begun_full n' marked low many =
              (refl, over_counted s t counted.0, rw marked (ends_full b eb does low many))

          pub begun_with : nat_le engine.limits.levels t.level ≡ false →
              nat_lt engine.limits.variables (length g.params) ≡ false →
              (r : Result (Option Held) (Result Dynamic EvalAltResult × Option Held)) (s' : Run H)
              (n' : StepsView) → EntersBound g p x ts t r s' → MarksEntry r k n' → Begun r s' n'
          begun_with low few (Ok back) s' n' entered marked = (
            entered.0,
            rw (entered.1, counted.0) (record {
              saved = refl;
              level = refl;
              receivers = refl;
              caller = refl;
              operands = refl;
              cursors = refl;
              totals = refl;
              handlers = refl;
              room = refl;
              unnoted = refl;
              count = refl;
              allowed = counted.1;
            }),
            λ scope y spot heard.
                rw (entered.1, marked)
                (then_exactly (taken_on scope y spot heard b eb does)
                (enters_there scope y spot heard g.chunk.max_stack (t.saved ++ t.scope ∷ [])
                (bound_with (t.level + 1) x t.receivers) low few
                (ap (λ (v : Run H). v.level) counted.0))),
          )
          begun_with low few (Err o) s' n' entered marked = (
            entered.1,
            rw entered.0 (over_counted s t counted.0),
            rw (entered.0, marked) (ends_wanting b eb does low few o.0 entered.2),
          )
