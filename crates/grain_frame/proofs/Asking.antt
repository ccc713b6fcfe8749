-- Instructions that wait for a native, after a stretch at which the frame stays.
use Rattle.std.proofs.Common.{◌≡◌, ◌∙◌, ◌≤◌, ◌+◌, ℕ, List, [], ◌∷◌, Option, Some, None, true, false, Result, Ok, Err, length, refl, sym, ap, subst, arith}
use Rattle.grain_value.specs.declared.scopes.Entry.{Entry}
use Rattle.grain_value.specs.declared.stores.Cell.{Cell}
use Rattle.grain_value.specs.declared.values.Dynamic.{Dynamic}
use Rattle.grain_value.specs.declared.values.Held.{Held}
use Rattle.grain_value.specs.declared.memory.OutOfMemory.{OutOfMemory}
use Rattle.grain_value.specs.Operands.{read_write}
use Rattle.grain_fault.specs.Problems.{NoMemory, Problem}
use Rattle.grain_program.specs.View.{View, name_of}
use Rattle.grain_host.specs.Signatures.{says_missing}
use Rattle.grain_stack.specs.Views.{StacksView}
use Rattle.grain_stack.specs.declared.handlers.Handler.{Handler}
use Rattle.grain_host.specs.Law.{Law}
use Rattle.grain_global.specs.declared.engines.Engine.{Engine}
use Rattle.grain_global.specs.StepsView.{StepsView}
use Rattle.grain_means.specs.Worlds.{Act, Frame, Place, Setup, World}
use Rattle.grain_means.specs.Rules.{leave_by_fault, native_over, op_assign_failed_at, operator_at}
use Rattle.grain_means.specs.Means.{setup}
use Rattle.grain_means.specs.Simulation.{Computation, Environment, Simulates, SimulatesExactly, stopped, world}
use Rattle.grain_means.specs.lemmas.Stretches.{compose, same}
use Rattle.grain_frame.specs.Abstraction.{KeepsFrame, abstraction, frame_in, moment, native_continuation}
use Rattle.grain_frame.specs.Receivers.{KeepsBound}
use Rattle.grain_frame.specs.Targets.{CanAssign, CanBeLent, HoldsWritable, assigned_name, content_at, home_of, kept_operand, receiver_at}
use Rattle.grain_frame.specs.Waiting.{CanHold, GoesOn, ImplementsOrWaits, IsKept, KeepsLent, LandsOrWaits, Lends, asking, fault_rest, performed_continuation, rest_of, value_rest}
use Rattle.grain_frame.specs.declared.activations.Activation.{Activation}
use Rattle.grain_frame.specs.declared.assignments.Assignment.{Assignment}
use Rattle.grain_frame.specs.declared.native_calls.Asked.{Asked}
use Rattle.grain_frame.specs.declared.native_calls.NativeEnd.TheVariants as native_end
use Rattle.grain_frame.specs.declared.receivers.Bound.{Bound}
use Rattle.grain_frame.specs.declared.runs.Run.{Run}
use Rattle.grain_frame.specs.declared.targets.Target.{Target}
use Rattle.grain_frame.specs.declared.targets.Target.TheVariants as to
use Rattle.grain_frame.specs.declared.waiting.Loan.{Loan}
use Rattle.grain_frame.specs.declared.waiting.Loan.TheVariants as have
use Rattle.grain_frame.specs.declared.waiting.Performed.{Performed}
use Rattle.grain_frame.specs.declared.waiting.Performed.TheVariants as performed
use Rattle.grain_frame.specs.declared.waiting.Rest.TheVariants as rest
use Rattle.grain_frame.specs.declared.waiting.Waiting.{Waiting}
use Rattle.grain_frame.specs.lemmas.Awaited.{asks_awaited, awaits, kept_awaited}
use Rattle.grain_frame.specs.lemmas.Bound.{reading}
use Rattle.grain_frame.proofs.Holding.{content_beside, goes_after}
use Rattle.grain_frame.proofs.Homes.{failed_is}
use Rattle.grain_frame.proofs.Lent.{lent_kept}
use Rattle.grain_frame.proofs.Serving.{kept_on, later_lands, same_but_trace}
use Rattle.grain_frame.proofs.Targeting.{one_at}

module _ {H : Type 0} (law : Law H) (p : View) (engine : Engine) (f : Activation) (s t : Run H)
    (n k : StepsView) (host mid : H) where
  -- where it leads, or how it goes on, from before the stretch
  lands_before : (f' : Activation) (s' : Run H) (n' : StepsView) (host' : H) (ts : List ℕ)
      (takes gives : ℕ) (hs : List Handler) (r : Result Performed OutOfMemory) →
      s.count ≤ t.count → t.stacks ≡ record s.stacks { trace = t.stacks.trace } →
      LandsOrWaits (setup law p engine) (moment f t k mid) (moment f' s' n' host') ts takes gives hs r →
      LandsOrWaits (setup law p engine) (moment f s n host) (moment f' s' n' host') ts takes gives hs r
  lands_before f' s' n' host' ts takes gives hs (Ok (performed.Leads q)) le es l =
      later_lands engine f f' s t s' ts takes gives hs (Ok q) le es l
  lands_before f' s' n' host' ts takes gives hs (Ok performed.Waits) le es l = (
    l.0,
    l.1,
    l.2,
    l.3,
    l.4,
    l.5 ∙ ap (λ (q : StacksView). q.operands) es,
    l.6,
    l.7 ∙ ap (λ (q : StacksView). q.handlers) es,
    l.8,
    l.9 ∙ ap (λ (q : StacksView). q.cursors) es,
  )
  lands_before f' s' n' host' ts takes gives hs (Err e) le es l = tt

  -- what follows a stretch at which the frame stays
  pub waits_then : (f' : Activation) (s' : Run H) (n' : StepsView) (host' : H)
      {rule via : Computation H} {ts : List ℕ} {takes gives : ℕ} {hs : List Handler}
      {r : Result Performed OutOfMemory} →
      Simulates (setup law p engine) (abstraction s n host) rule false
      (abstraction t k mid) via → KeepsFrame f s f t →
      t.stacks ≡ record s.stacks { trace = t.stacks.trace } → k.before ≡ n.before →
      ImplementsOrWaits (setup law p engine) (moment f t k mid) via ts takes gives hs r
      (moment f' s' n' host') →
      ImplementsOrWaits (setup law p engine) (moment f s n host) rule ts takes gives hs r
      (moment f' s' n' host')
  waits_then f' s' n' host' {rule} {via} {ts} {takes} {gives} {hs} {r} first kept stacks before
      does = record {
        held = does.held;
        plain = does.plain;
        same = compose first does.same tt;
        kept = kept_on f f f' s t s' kept does.kept;
        lands = lands_before f' s' n' host' ts takes gives hs r kept.later stacks does.lands;
        before = does.before ∙ before;
      }

-- what a native had that asks for a call is kept: a cell is lent from then on
module _ {H : Type 0} (m : Setup H) (t : Run H) (k : StepsView) (mid : H) (c : Asked)
    (f : Option Place → Frame) (go : Setup H → Option Place → Dynamic → World H → Act H)
    (fails : Setup H → Option Place → Problem → World H → Act H) where
  pub keeps : (target : Target) (l : Loan) (end : Run H) → HoldsWritable t target →
      KeepsLent t target l end → SimulatesExactly m (abstraction t k mid)
      (native_continuation (Ok (native_end.Asks c))
      (λ place. Some (receiver_at target place (read_write (content_at t target)))) f go fails)
      false (abstraction end k mid)
      (λ n place w. asking (home_of to.This) end c l f (λ n1 place1 a w1.
      native_over (leave_by_fault n1 (f place1) NoMemory) (go n1 place1) (fails n1 place1) a w1)
      n place w)
  keeps (to.Entry i) l end writable kept = rw (kept.0, kept.1) (record {
    this = refl;
    order = omega arith;
    equal = λ stop clear halts u place. refl;
  })
  keeps (to.Cell n) l end writable kept =
      let h = kept.0 in
      let same : h ≡ read_write (content_at t (to.Cell n)) =
      one_at t (to.Cell n) h (read_write (content_at t (to.Cell n))) kept.1 writable in
      rw (kept.2, kept.3, same) (record {
        this = refl;
        order = omega arith;
        equal = λ stop clear halts u place. refl;
      })
  keeps to.This l end writable kept = rw (kept.0, kept.1) (record {
    this = refl;
    order = omega arith;
    equal = λ stop clear halts u place. at stop u place;
  }) where
    at : (stop : Option ℕ) (u : Environment) (place : Option Place) →
        native_continuation (Ok (native_end.Asks c))
        (λ place. Some (receiver_at to.This place (read_write (content_at t to.This)))) f go fails
        (stopped m stop) place (world (abstraction t k mid) u)
        ≡ asking (home_of to.This) t c (have.Target to.This) f (λ n1 place1 a w1.
        native_over (leave_by_fault n1 (f place1) NoMemory) (go n1 place1) (fails n1 place1) a w1)
        (stopped m stop) place (world (abstraction t k mid) u)
    at stop u None = refl
    at stop u (Some q) = refl

-- only the cells differ once it is kept, and it is what the op-assignment writes
pub kept_cells : {H : Type 0} (t : Run H) (target : Target) (l : Loan) (end : Run H) →
    KeepsLent t target l end → end ≡ record t { cells = end.cells }
kept_cells t (to.Entry i) l end kept = rw kept.1 refl
kept_cells t (to.Cell n) l end kept = rw kept.3 refl
kept_cells t to.This l end kept = rw kept.1 refl

pub kept_lends : {H : Type 0} (t : Run H) (a : Assignment) (l : Loan) (end : Run H) →
    HoldsWritable t a.target → KeepsLent t a.target l end → Lends (rest.Assign a) l
kept_lends t a l end writable kept = at a.target refl writable kept where
  at : (x : Target) → a.target ≡ x → HoldsWritable t x → KeepsLent t x l end →
      Lends (rest.Assign a) l
  at (to.Entry i) is writable kept = rw kept.0 (sym is)
  at (to.Cell n) is writable kept =
      rw kept.2 (
        is,
        ap (λ (h : Held). h.read_only)
            (one_at t (to.Cell n) kept.0 (read_write (content_at t (to.Cell n))) kept.1 writable),
      )
  at to.This is writable kept = rw kept.0 (sym is)

pub kept_there : {H : Type 0} (t : Run H) (target : Target) (l : Loan) (end : Run H) →
    HoldsWritable t target → KeepsLent t target l end → IsKept end l
kept_there t (to.Entry i) l end can kept = rw (kept.0, kept.1) can
kept_there t (to.Cell n) l end can kept = rw kept.2 tt
kept_there t to.This l end can kept = rw (kept.0, kept.1) can

pub kept_holds : {H : Type 0} (t : Run H) (target : Target) (l : Loan) (end : Run H) →
    CanHold t target → KeepsLent t target l end → CanHold end target
kept_holds t (to.Entry i) l end can kept = rw kept.1 can
kept_holds t (to.Cell n) l end can kept = tt
kept_holds t to.This l end can kept = rw kept.1 can

module _ {H : Type 0} (law : Law H) (p : View) (engine : Engine) (f : Activation) (s t : Run H)
    (n k : StepsView) (host mid : H) (scope : List Entry) (cells : List Cell) (bs : List Bound)
    (run : t ≡ record s { scope = scope; cells = cells; receivers = bs })
    (long : length scope ≡ length s.scope) (this : KeepsBound s.level s.receivers bs)
    (before : k.before ≡ n.before) where
  -- what follows from a native is done where the run then stands
  pub lent_goes : f.base ≤ length s.scope → (via : StacksView → Computation H) (f' : Activation)
      (s' : Run H) (n' : StepsView) (host' : H) {rule : Computation H} {ts : List ℕ}
      {takes gives : ℕ} {r : Result Performed OutOfMemory} →
      Simulates (setup law p engine) (abstraction s n host) rule false
      (abstraction t k mid) (via s.stacks) →
      ImplementsOrWaits (setup law p engine) (moment f t k mid) (via t.stacks) ts takes gives
      t.stacks.handlers r (moment f' s' n' host') →
      ImplementsOrWaits (setup law p engine) (moment f s n host) rule ts takes gives
      s.stacks.handlers r (moment f' s' n' host')
  lent_goes inside via f' s' n' host' {rule} {ts} {takes} {gives} {r} does second =
      let same_stacks : t.stacks ≡ s.stacks = ap (λ (q : Run H). q.stacks) run in
      waits_then law p engine f s t n k host mid f' s' n' host' does
      (lent_kept law p engine f s t n k host mid scope cells bs run long this before inside)
      (same_but_trace s.stacks t.stacks same_stacks) before
      (subst (λ (v : StacksView). ImplementsOrWaits (setup law p engine) (moment f t k mid) (via v)
      ts takes gives v.handlers r (moment f' s' n' host')) same_stacks second)

  -- an op-assignment waits for its native, to which its target is lent
  pub lent_waits : {rule : Computation H} (a : Assignment) (g : Held) (c : Asked) (l : Loan)
      (end : Run H) → g.read_only ≡ false → CanAssign p f s a → CanBeLent t a.target →
      HoldsWritable t a.target → KeepsLent t a.target l end →
      Simulates (setup law p engine) (abstraction s n host) rule false (abstraction t k mid)
      (native_continuation (Ok (native_end.Asks c))
      (λ place. Some (receiver_at a.target place (read_write (content_at t a.target))))
      (frame_in f s) (λ m place v w. value_rest (rest.Assign a) (frame_in f s) m place v w)
      (λ m place x w. fault_rest g (rest.Assign a) (frame_in f s) m place x w)) →
      (b : Run H) (q : Performed) →
      b ≡ record end { waiting = Some (record { asked = c; lent = l; rest = rest.Assign a }) } →
      q ≡ performed.Waits →
      ImplementsOrWaits (setup law p engine) (moment f s n host) rule (a.next ∷ []) 1 0
      s.stacks.handlers (Ok q) (moment f b k mid)
  lent_waits {rule} a g c l end plain can again writable kept does b q is waits =
      rw (is, waits) (record {
        held = g;
        plain = plain;
        same = compose does (same awaited) tt;
        kept = kept_end;
        lands = (
          w,
          refl,
          awaits end (Some w) p f (rest.Assign a) 1 0 (a.next ∷ []) (goes_end, refl, refl, refl),
          kept_lends t a l end writable kept,
          kept_awaited end (Some w) l (kept_there t a.target l end writable kept),
          ap (λ (v : StacksView). v.operands) same_stacks,
          ap (λ (v : StacksView). v.handlers) same_stacks,
          ap (λ (v : StacksView). v.handlers) same_stacks,
          refl,
          ap (λ (v : StacksView). v.cursors) same_stacks,
        );
        before = before;
      }) where
        w : Waiting
        w = record { asked = c; lent = l; rest = rest.Assign a }

        by_cells : end ≡ record t { cells = end.cells }
        by_cells = kept_cells t a.target l end kept

        end_is : end ≡ record s { scope = scope; cells = end.cells; receivers = bs }
        end_is = by_cells ∙ ap (λ (q : Run H). record q { cells = end.cells }) run

        same_stacks : end.stacks ≡ s.stacks
        same_stacks = ap (λ (q : Run H). q.stacks) end_is

        goes_t : GoesOn p f t a
        goes_t = goes_after p f s t a scope cells bs run long again can

        goes_end : GoesOn p f end a
        goes_end = record {
          inside = omega (arith, goes_t.inside, ap (λ (q : Run H). length q.scope) by_cells);
          target = kept_holds t a.target l end goes_t.target kept;
          operand = omega (
            arith,
            can.operand,
            ap (λ (v : StacksView). length v.operands) same_stacks,
          );
          ahead = can.ahead;
          first = can.first;
          second = can.second;
          variable = can.variable;
        }

        stays : KeepsFrame f s f end
        stays = lent_kept law p engine f s end n k host mid scope end.cells bs end_is long this before
            can.inside

        kept_end : KeepsFrame f s f (record end { waiting = Some w })
        kept_end = record {
          chunk = refl;
          base = refl;
          scope = stays.scope;
          room = stays.room;
          noted = stays.noted;
          outer = stays.outer;
          saved = stays.saved;
          level = stays.level;
          this = stays.this;
          later = stays.later;
        }

        second : SimulatesExactly (setup law p engine) (abstraction t k mid)
            (native_continuation (Ok (native_end.Asks c))
            (λ place. Some (receiver_at a.target place (read_write (content_at t a.target))))
            (frame_in f s) (λ m place v w. value_rest (rest.Assign a) (frame_in f s) m place v w)
            (λ m place x w. fault_rest g (rest.Assign a) (frame_in f s) m place x w)) false
            (abstraction end k mid)
            (λ m place v. asking (home_of to.This) end c l (frame_in f end)
            (rest_of g (rest.Assign a) (frame_in f end)) m place v)
        second =
            subst (λ (v : StacksView). SimulatesExactly (setup law p engine) (abstraction t k mid)
            (native_continuation (Ok (native_end.Asks c))
            (λ place. Some (receiver_at a.target place (read_write (content_at t a.target))))
            (frame_in f s) (λ m place v w. value_rest (rest.Assign a) (frame_in f s) m place v w)
            (λ m place x w. fault_rest g (rest.Assign a) (frame_in f s) m place x w)) false
            (abstraction end k mid)
            (λ m place u. asking (home_of to.This) end c l (frame_in f (record end { stacks = v }))
            (rest_of g (rest.Assign a) (frame_in f (record end { stacks = v }))) m place u))
            (sym same_stacks)
            (keeps (setup law p engine) t k mid c (frame_in f s)
            (λ m place v w. value_rest (rest.Assign a) (frame_in f s) m place v w)
            (λ m place x w. fault_rest g (rest.Assign a) (frame_in f s) m place x w) a.target l end
            writable kept)

        awaited : SimulatesExactly (setup law p engine) (abstraction t k mid)
            (native_continuation (Ok (native_end.Asks c))
            (λ place. Some (receiver_at a.target place (read_write (content_at t a.target))))
            (frame_in f s) (λ m place v w. value_rest (rest.Assign a) (frame_in f s) m place v w)
            (λ m place x w. fault_rest g (rest.Assign a) (frame_in f s) m place x w)) false
            (abstraction (record end { waiting = Some w }) k mid)
            (performed_continuation g (Ok performed.Waits) (record end { waiting = Some w })
            (frame_in f (record end { waiting = Some w })))
        awaited = record {
          this = second.this;
          order = second.order;
          equal = λ stop clear halts u place. second.equal stop clear halts u place
              ∙ asks_awaited end (Some w) (home_of to.This) c l (frame_in f end)
              (rest_of g (rest.Assign a) (frame_in f end)) (stopped (setup law p engine) stop) place
              (world (abstraction end k mid) u);
        }

-- the fault of an op-assignment is raised, at a mark, and passed over: its trace is gone
pub passed_over : {H : Type 0} (law : Law H) (p : View) (engine : Engine) (f : Activation)
    (s : Run H) (n : StepsView) (host : H) (a : Assignment) (h : Held) (x : Problem)
    (cut : StacksView) (k : StepsView) (f' : Activation) (s' : Run H) (n' : StepsView) (host' : H)
    {r : Result Performed OutOfMemory} → cut ≡ record s.stacks { trace = [] } →
    k ≡ record n { passed = n.passed + 1 } → h.read_only ≡ false → GoesOn p f s a →
    says_missing (name_of p a.operator.op_assign_name) x ≡ true →
    ImplementsOrWaits (setup law p engine) (moment f (record s { stacks = cut }) k host)
    (λ m place w. operator_at m (home_of a.target place) (assigned_name m.program a.variable)
    (name_of m.program a.operator.op_name) h
    (read_write (content_at (record s { stacks = cut }) a.target))
    (kept_operand a.kept cut.operands) a.next (frame_in f (record s { stacks = cut }) place) w)
    (a.next ∷ []) 1 0 cut.handlers r (moment f' s' n' host') →
    ImplementsOrWaits (setup law p engine) (moment f s n host)
    (λ m place w. op_assign_failed_at m (home_of a.target place)
    (assigned_name m.program a.variable) a.operator h (kept_operand a.kept s.stacks.operands)
    a.next (frame_in f s place) x w)
    (a.next ∷ []) 1 0 s.stacks.handlers r (moment f' s' n' host')
passed_over {H = H} law p engine f s n host a h x cut k f' s' n' host' {r} is counted plain can
    missing does =
    waits_then law p engine f s untraced n passed host host f' s' n' host'
    (reading refl (omega arith) (λ stop clear halts u place bound.
    failed_is s u place bound n host (stopped (setup law p engine) stop) a.operator a.target
    (assigned_name p a.variable) h (kept_operand a.kept s.stacks.operands) a.next
    (frame_in f s place) x plain can.target missing (clear n.passed (omega arith) (omega arith))))
    (record {
      chunk = refl;
      base = refl;
      scope = can.inside;
      room = refl;
      noted = refl;
      outer = refl;
      saved = refl;
      level = refl;
      this = (refl, refl);
      later = omega arith;
    }) refl refl
    (subst (λ (d : Dynamic). Asks d) (content_beside s (record s.stacks { trace = [] }) a.target)
    (rw (is, counted) at does)) where
      untraced : Run H
      untraced = record s { stacks = record s.stacks { trace = [] } }

      passed : StepsView
      passed = record n { passed = n.passed + 1 }

      Asks : Dynamic → Type 0
      Asks d = ImplementsOrWaits (setup law p engine) (moment f untraced passed host)
          (λ m place w. operator_at m (home_of a.target place) (assigned_name m.program a.variable)
          (name_of m.program a.operator.op_name) h (read_write d)
          (kept_operand a.kept s.stacks.operands) a.next (frame_in f s place) w)
          (a.next ∷ []) 1 0 s.stacks.handlers r (moment f' s' n' host')
