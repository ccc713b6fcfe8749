-- A handler catches: the cuts, the variable, and the charge at its target.
use Rattle.std.proofs.Common.{◌≡◌, ◌∙◌, ◌+◌, ◌-◌, ℕ, List, [], ◌∷◌, ◌++◌, Option, Some, Bool, true, false, Result, Ok, Err, length, map, take, nat_lt, nat_le, if◌then◌else◌, zero, suc, refl, sym, ap, subst, arith}
use Rattle.std.proofs.lemmas.List.{drop-map, length-map}
use Rattle.std.specs.Prelude.{slice_get, slice_index_or}
use Rattle.grain_value.specs.declared.values.Dynamic.{Dynamic}
use Rattle.grain_value.specs.declared.scopes.Entry.{Entry}
use Rattle.grain_value.specs.declared.values.Held.{Held}
use Rattle.grain_value.specs.declared.memory.OutOfMemory.{OutOfMemory}
use Rattle.grain_value.specs.Scopes.{new_entry}
use Rattle.grain_value.specs.Operands.{read_write}
use Rattle.grain_fault.specs.Problems.{Problem, Plain, TooManyOperations, NoMemory, problem_of}
use Rattle.grain_fault.specs.declared.faults.EvalAltResult.{EvalAltResult}
use Rattle.grain_program.specs.View.{View, name_of, position_of}
use Rattle.grain_stack.specs.declared.handlers.Handler.{Handler}
use Rattle.grain_host.specs.Law.{Law}
use Rattle.grain_global.specs.declared.engines.Engine.{Engine}
use Rattle.grain_means.specs.Worlds.{Act, Frame, Place, Setup, World, Go, InFrame}
use Rattle.grain_means.specs.Rules.{bind_caught, catching, resumed, caught, charged_or, is_stop, leave_by_fault, marked, outermost, progressed}
use Rattle.grain_fault.specs.CatchValues.{caught_value}
use Rattle.grain_means.specs.Simulation.{Computation, SimulatesExactly, stopped, world}
use Rattle.grain_means.specs.Means.{setup}
use Rattle.grain_means.specs.lemmas.Stretches.{then_exactly}
use Rattle.grain_global.specs.StepsView.{StepsView}
use Rattle.grain_frame.specs.Abstraction.{abstraction, cursor_in, cursors_in, frame_in, handler_in, handlers_in, is_out, charge_continuation, total_in, totals_in}
use Rattle.grain_vm.specs.Catching.{catch_continuation}
use Rattle.grain_frame.specs.declared.activations.Activation.{Activation}
use Rattle.grain_frame.specs.declared.runs.Run.{Run}
use Rattle.grain_frame.specs.lemmas.Charging.{SimulatesCharge}

-- what is outermost of a list, one by one
map_outermost : {A B : Type 0} (f : A → B) (n : ℕ) (xs : List A) →
    map f (outermost n xs) ≡ outermost n (map f xs)
map_outermost f n xs =
    rw (length-map xs f) (sym (drop-map f (length xs - n) xs))

-- a name of the pool
named : (names : List (List ℕ)) (n : ℕ) (x : List ℕ) → slice_get names n ≡ Some x →
    slice_index_or names n [] ≡ x
named [] n x e = absurd cc
named (y ∷ ys) zero x e = cc
named (y ∷ ys) (suc n) x e = named ys n x e

-- the entry of a catch's variable
pub bound_entry : (names : List (List ℕ)) (n : ℕ) (x : List ℕ) (h : Held) (v : Dynamic)
    (scope : List Entry) → slice_get names n ≡ Some x → h.value ≡ v → h.read_only ≡ false →
    scope ++ new_entry x h ∷ [] ≡ scope ++ new_entry (slice_index_or names n []) (read_write v) ∷ []
bound_entry names n x h v scope at value only =
    let held : h ≡ read_write v = whole h v value only in
    rw (named names n x at, held) refl where
      whole : (h : Held) (v : Dynamic) → h.value ≡ v → h.read_only ≡ false → h ≡ read_write v
      whole h v e o =
          let is : ◌≡◌ {A = Held} (record { value = h.value; read_only = h.read_only })
          (read_write v) = rw (e, o) refl in is

-- the variable is bound
pub binds : {H : Type 0} (law : Law H) (p : View) (engine : Engine) (s s' : Run H) (n n' :
    StepsView)
    (host : H) (f : Option Place → Frame) (go : Setup H → Option Place → World H → Act H)
    (fails : Setup H → Option Place → Problem → World H → Act H) (variable : Option ℕ)
    (name target : ℕ) (v : Dynamic) → variable ≡ Some name →
    nat_le engine.limits.variables (length s.scope) ≡ false →
    v ≡ caught_value p.source (problem_of s.fault) →
    s'.scope ≡ s.scope ++ new_entry (name_of p name) (read_write v) ∷ [] →
    s' ≡ record s { scope = s'.scope; fault = s'.fault } →
    n' ≡ record n { passed = n.passed + 1 } →
    SimulatesExactly (setup law p engine) (abstraction s n host)
    (λ m place w. bind_caught m variable (position_of m.program target) (f place)
    (problem_of s.fault) w (go m place)) false (abstraction s' n' host)
    (charge_continuation (Ok true) s'.fault f go fails)
binds {H = H} law p engine s s' n n' host f go fails variable name target v some room is longer
    others
    en = rw (here, some) (record {
      this = refl;
      order = omega arith;
      equal = λ stop clear halts u place. rw (
        room,
        clear n.passed (omega arith) (omega arith),
        ← is,
      ) refl;
    }) where
      here : abstraction s' n' host ≡ record (abstraction s n host) {
        scope = s.scope ++ new_entry (name_of p name) (read_write v) ∷ [];
        passed = n.passed + 1;
      }
      here = rw (en, others, longer) refl

module _ {H : Type 0} (law : Law H) (p : View) (engine : Engine) (a : Activation) (s s1 : Run H)
    (n : StepsView) (host : H) (h : Handler) (long : nat_lt (length s.scope) h.scope ≡ false)
    (cut : s1 ≡ record s {
      stacks = record s.stacks {
        operands = take h.operands s.stacks.operands;
        cursors = outermost h.cursors s.stacks.cursors;
        totals = outermost h.totals s.stacks.totals;
        trace = [];
      };
      scope = take h.scope s.scope;
    }) where
  abbrev pub what : Problem
  what = problem_of s.fault

  -- the frame once the handler has caught
  abbrev pub caught_frame : Option Place → Frame
  caught_frame place = catching (frame_in a s place) (handler_in h) what

  -- what is raised then leaves it
  abbrev pub fails : Setup H → Option Place → Problem → World H → Act H
  fails m place x w = leave_by_fault m (caught_frame place) x w

  -- where it goes on
  abbrev at_target : Setup H → Option Place → World H → Act H
  at_target m place w = Go (InFrame (resumed (caught_frame place) h.target)) w

  -- the charge at the target
  abbrev charge : Setup H → Option Place → World H → Act H
  charge m place w =
      charged_or m (position_of m.program h.target) (caught_frame place) (fails m place) w
      (at_target m place)

  abbrev pub Catches : Bool → Run H → StepsView → H → Computation H → Type 0
  Catches out s' n' host' now =
      SimulatesExactly (setup law p engine) (abstraction s n host)
      (λ m place w. caught m (frame_in a s place) (handler_in h) what w) out
      (abstraction s' n' host') now

  cuts : Catches false s1 n host
      (λ m place w. bind_caught m h.variable (position_of m.program h.target) (caught_frame place)
      what w (charge m place))
  cuts = at s1 cut where
    at : (q : Run H) → q ≡ record s {
      stacks = record s.stacks {
        operands = take h.operands s.stacks.operands;
        cursors = outermost h.cursors s.stacks.cursors;
        totals = outermost h.totals s.stacks.totals;
        trace = [];
      };
      scope = take h.scope s.scope;
    } → Catches false q n host
        (λ m place w. bind_caught m h.variable (position_of m.program h.target)
        (caught_frame place) what w (charge m place))
    at q e = rw e (record {
      this = refl;
      order = omega arith;
      equal = λ stop clear halts u place. rw long refl;
    })

  -- what the code says of the variable
  abbrev pub Binds : Result Bool OutOfMemory → Run H → StepsView → Type 0
  Binds r s2 n2 =
      (host : H) (f : Option Place → Frame) (go : Setup H → Option Place → World H → Act H) →
      SimulatesExactly (setup law p engine) (abstraction s1 n host)
      (λ m place w. bind_caught m h.variable (position_of m.program h.target) (f place)
      (problem_of s1.fault) w (go m place)) (is_out r) (abstraction s2 n2 host)
      (charge_continuation r s2.fault f go (λ m place x w. leave_by_fault m (f place) x w))

  same_fault : problem_of s1.fault ≡ what
  same_fault = ap (λ (q : Run H). problem_of q.fault) cut

  bound_by : (r : Result Bool OutOfMemory) (s2 : Run H) (n2 : StepsView) → Binds r s2 n2 →
      Catches (is_out r) s2 n2 host
      (charge_continuation r s2.fault caught_frame charge (λ m place x w.
      leave_by_fault m (caught_frame place) x w))
  bound_by r s2 n2 does =
      then_exactly cuts
      (subst (λ (x : Problem). SimulatesExactly (setup law p engine) (abstraction s1 n host)
      (λ m place w. bind_caught m h.variable (position_of m.program h.target) (caught_frame place)
      x w (charge m place)) (is_out r) (abstraction s2 n2 host)
      (charge_continuation r s2.fault caught_frame charge (λ m place x w.
      leave_by_fault m (caught_frame place) x w))) same_fault (does host caught_frame charge))

  -- it is not bound
  pub not_bound : (b : Bool) (s2 : Run H) (n2 : StepsView) → b ≡ false → Binds (Ok b) s2 n2 →
      Catches false s2 n2 host (catch_continuation (Ok false) s2.fault h.target (frame_in a s2))
  not_bound true s2 n2 e does = absurd cc
  not_bound false s2 n2 e does = leaves (bound_by (Ok false) s2 n2 does) where
    leaves : Catches false s2 n2 host (λ m place w.
        leave_by_fault m (caught_frame place) (problem_of s2.fault) w) →
        Catches false s2 n2 host (catch_continuation (Ok false) s2.fault h.target (frame_in a s2))
    leaves h = record {
      this = h.this;
      order = h.order;
      equal = λ stop clear halts u place. h.equal stop clear halts u place;
    }

  -- memory is out
  pub bind_wants : (e : OutOfMemory) (r : Result Bool OutOfMemory) (s2 : Run H) (n2 : StepsView) →
      is_out r ≡ true → Binds (Err e) s2 n2 →
      Catches (is_out r) s2 n2 host (catch_continuation r s2.fault h.target (frame_in a s2))
  bind_wants e (Ok b) s2 n2 out does = absurd cc
  bind_wants e (Err y) s2 n2 out does =
      let h = bound_by (Err e) s2 n2 does in
      record {
        this = h.this;
        order = h.order;
        equal = λ stop clear halts u place. h.equal stop clear halts u place;
      }

  -- it is bound, and the handler has caught
  module _ (b : Bool) (s2 s3 : Run H) (n2 : StepsView) (bound : b ≡ true)
      (does : Binds (Ok b) s2 n2) (alike : abstraction s3 n2 host ≡ abstraction s2 n2 host) where
    charges : Catches false s3 n2 host charge
    charges = rw alike (at b bound does) where
      at : (b : Bool) → b ≡ true → Binds (Ok b) s2 n2 → Catches false s2 n2 host charge
      at true e d = bound_by (Ok true) s2 n2 d
      at false e d = absurd cc

    -- memory is out before the charge
    pub charge_stops : (r : Result Bool OutOfMemory) → is_out r ≡ true →
        Catches (is_out r) s3 n2 host (catch_continuation r s3.fault h.target (frame_in a s3))
    charge_stops (Ok b) out = absurd cc
    charge_stops (Err y) out = then_exactly charges (record {
      this = refl;
      order = omega arith;
      equal = λ stop clear halts u place. stops (stopped (setup law p engine) stop) place
          (world (abstraction s3 n2 host) u) halts;
    }) where
      stops : (m : Setup H) (place : Option Place) (w : World H) → is_stop m.stop w.passed ≡ true →
          charge m place w ≡ leave_by_fault m (frame_in a s3 place) NoMemory w
      stops m place w halts = at (nat_lt w.count m.engine.limits.operations) where
        at : (q : Bool) → (if q then marked m (caught_frame place) w (λ w1. progressed m
            (position_of m.program h.target) (caught_frame place) (fails m place)
            (record w1 { count = w1.count + 1 }) (at_target m place))
            else marked m (caught_frame place) w
            (fails m place (Plain TooManyOperations (position_of m.program h.target))))
            ≡ leave_by_fault m (frame_in a s3 place) NoMemory w
        at true = rw halts refl
        at false = rw halts refl

    -- the charge
    pub charged_at : (r : Result Bool OutOfMemory) (s' : Run H) (n' : StepsView) (host' : H)
        (y : EvalAltResult) → SimulatesCharge law p engine h.target s3 n2 host r s' n' host' →
        s'.stacks.operands ≡ take h.operands s.stacks.operands →
        s'.stacks.cursors ≡ outermost h.cursors s.stacks.cursors →
        s'.stacks.totals ≡ outermost h.totals s.stacks.totals →
        s'.stacks.handlers ≡ record h { caught = Some y } ∷ s.stacks.handlers →
        problem_of y ≡ what →
        Catches (is_out r) s' n' host'
        (catch_continuation r s'.fault h.target (frame_in a s'))
    charged_at r s' n' host' y did operands cursors totals handlers is =
        at r (then_exactly charges (did caught_frame at_target fails)) where
          cursors_are : outermost h.cursors (cursors_in s.stacks.cursors)
              ≡ cursors_in s'.stacks.cursors
          cursors_are =
              sym (ap cursors_in cursors ∙ map_outermost cursor_in h.cursors s.stacks.cursors)

          totals_are : outermost h.totals (totals_in s.stacks.totals) ≡ totals_in s'.stacks.totals
          totals_are = sym (ap totals_in totals ∙ map_outermost total_in h.totals s.stacks.totals)

          handlers_are : record (handler_in h) { caught = Some what } ∷ handlers_in s.stacks.handlers
              ≡ handlers_in s'.stacks.handlers
          handlers_are = rw (handlers, is) refl

          frames : (place : Option Place) → caught_frame place ≡ frame_in a s' place
          frames place = λ i. record (frame_in a s place) {
            operands = sym operands i;
            cursors = cursors_are i;
            totals = totals_are i;
            handlers = handlers_are i;
          }

          at : (r : Result Bool OutOfMemory) → Catches (is_out r) s' n' host'
              (charge_continuation r s'.fault caught_frame at_target fails) →
              Catches (is_out r) s' n' host'
              (catch_continuation r s'.fault h.target (frame_in a s'))
          at (Ok true) c = record {
            this = c.this;
            order = c.order;
            equal = λ stop clear halts u place. c.equal stop clear halts u place
                ∙ ap (λ (f : Frame). Go (InFrame (resumed f h.target))
                (world (abstraction s' n' host') u)) (frames place);
          }
          at (Ok false) c = record {
            this = c.this;
            order = c.order;
            equal = λ stop clear halts u place. c.equal stop clear halts u place;
          }
          at (Err e) c = record {
            this = c.this;
            order = c.order;
            equal = λ stop clear halts u place. c.equal stop clear halts u place;
          }
