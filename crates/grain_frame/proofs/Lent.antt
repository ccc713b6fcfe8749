-- What follows where a target was lent to a native.
use Rattle.std.proofs.Common.{◌≡◌, ◌∙◌, ◌≤◌, ◌<◌, ◌+◌, ◌-◌, ℕ, List, [], ◌∷◌, Option, Some, None, false, true, inl, inr, Result, Ok, Err, length, refl, sym, ap, subst, arith}
use Rattle.std.proofs.lemmas.List.{length-take-le}
use Rattle.grain_value.specs.Tree.{Tree}
use Rattle.grain_value.specs.declared.values.Dynamic.{Dynamic}
use Rattle.grain_value.specs.declared.values.Held.{Held}
use Rattle.grain_value.specs.declared.scopes.Entry.{Entry}
use Rattle.grain_value.specs.declared.stores.Cell.{Cell}
use Rattle.grain_value.specs.declared.memory.OutOfMemory.{OutOfMemory}
use Rattle.grain_value.specs.Operands.{below, read_write}
use Rattle.grain_fault.specs.declared.places.Position.{Position}
use Rattle.grain_fault.specs.declared.faults.EvalAltResult.{EvalAltResult}
use Rattle.grain_fault.specs.Positions.{at_position_if_none}
use Rattle.grain_fault.specs.Problems.{NoMemory, Problem, problem_of}
use Rattle.grain_program.specs.View.{View}
use Rattle.grain_stack.specs.Views.{StacksView}
use Rattle.grain_stack.specs.declared.handlers.Handler.{Handler}
use Rattle.grain_host.specs.Law.{Law, Reply, written}
use Rattle.grain_host.specs.Law as reply
use Rattle.grain_global.specs.declared.engines.Engine.{Engine}
use Rattle.grain_global.specs.StepsView.{StepsView}
use Rattle.grain_means.specs.Worlds.{Act, Frame, Place, Setup, World}
use Rattle.grain_means.specs.Rules.{answered, back_in_cells, back_in_roots, back_in_scope, leave_by_fault, native, onward, stepped}
use Rattle.grain_means.specs.Simulation.{Computation, Environment, NoStopWithin, Simulates, SimulatesExactly, stopped, world}
use Rattle.grain_means.specs.Means.{setup}
use Rattle.grain_means.specs.lemmas.Stretches.{compose, same}
use Rattle.grain_frame.specs.Abstraction.{ImplementsBound, KeepsFrame, abstraction, continuation, frame_in, is_out, marked_once, moment, moved, native_continuation}
use Rattle.grain_frame.specs.Natives.{IsAt, Seeks, ServesAt}
use Rattle.grain_frame.specs.Receivers.{KeepsBound}
use Rattle.grain_frame.specs.Targets.{CanBeLent, content_at, home_of, put_in, receiver_at}
use Rattle.grain_frame.specs.declared.activations.Activation.{Activation}
use Rattle.grain_frame.specs.declared.native_calls.Asked.{Asked}
use Rattle.grain_frame.specs.declared.native_calls.NativeEnd.{NativeEnd}
use Rattle.grain_frame.specs.declared.native_calls.NativeEnd.TheVariants as native_end
use Rattle.grain_frame.specs.declared.native_calls.Sought.TheVariants as sought
use Rattle.grain_frame.specs.declared.receivers.Bound.{Bound}
use Rattle.grain_frame.specs.declared.runs.Progress.{Progress}
use Rattle.grain_frame.specs.declared.runs.Progress.TheVariants as progress
use Rattle.grain_frame.specs.declared.runs.Run.{Run}
use Rattle.grain_frame.specs.declared.targets.Target.{Target}
use Rattle.grain_frame.specs.lemmas.Bound.{while_bound}
use Rattle.grain_frame.proofs.Holding.{put_content}
use Rattle.grain_frame.proofs.Homes.{put_binds, put_world}
use Rattle.grain_frame.proofs.Lending.{written_flag}
use Rattle.grain_frame.proofs.Serving.{kept_on, later_lands, same_but_trace}

module _ {H : Type 0} (law : Law H) (s : Run H) (n : StepsView) (host : H) (q : Position)
    (m : Setup H) (name : List ℕ) (t : Target) (h : Held) (args : List Held)
    (f : Option Place → Frame) (go : Setup H → Option Place → Dynamic → World H → Act H)
    (fails : Setup H → Option Place → Problem → World H → Act H) (own : m.law ≡ law)
    (at : IsAt m f q) where
  -- what the code says of a native that it was to call, to which the target is lent
  abbrev pub CallsLent : Result NativeEnd OutOfMemory → Run H → StepsView → H → Type 0
  CallsLent r s' n' host' = Simulates m (abstraction s n host)
      (λ m place w. native m name (Some (receiver_at t place h)) args (f place) w (go m place)
      (fails m place))
      (is_out r) (abstraction s' n' host') (native_continuation r
      (λ place. Some (receiver_at t place (read_write (content_at s' t)))) f go fails)

  -- there is none
  pub lent_refuses : (x : EvalAltResult) →
      ((place : Option Place) →
      Seeks law host name (Some (receiver_at t place h)) args q (sought.Fault x)) →
      CallsLent (Ok (native_end.Fault x)) s n host
  lent_refuses x seeks = same (record {
    this = refl;
    order = omega arith;
    equal = λ stop clear halts u place. by_cases stop u place (seeks place);
  }) where
    by_cases : (stop : Option ℕ) (u : Environment) (place : Option Place) →
        Seeks law host name (Some (receiver_at t place h)) args q (sought.Fault x) →
        native (stopped m stop) name (Some (receiver_at t place h)) args (f place)
        (world (abstraction s n host) u) (go (stopped m stop) place) (fails (stopped m stop) place)
        ≡ fails (stopped m stop) place (problem_of x) (world (abstraction s n host) u)
    by_cases stop u place (inl none) = rw (own, none.0, none.1, at place) refl
    by_cases stop u place (inr one) = rw (own, one.1, one.2, one.3, at place) refl

  -- it is called
  module _ (key : ℕ) (values : List Tree)
      (seeks : (place : Option Place) →
      Seeks law host name (Some (receiver_at t place h)) args q (sought.Native key values))
      (can : CanBeLent s t) (plain : h.read_only ≡ false) where
    abbrev left : Held
    left = written law host key values h

    abbrev twice : StepsView
    twice = record n { passed = n.passed + 1 + 1 }

    abbrev mid : H
    mid = law.call_after host key (Some h) values

    abbrev served : Environment → Option Place → World H
    served u place = record (world (abstraction s twice mid) u) {
      scope = back_in_scope (home_of t place) left s.scope;
      cells = back_in_cells (home_of t place) left s.cells;
      roots = back_in_roots (home_of t place) left u.roots;
    }

    left_plain : left.read_only ≡ false
    left_plain = written_flag law host key values h ∙ plain

    replies : (stop : Option ℕ) → NoStopWithin stop n.passed (n.passed + 1 + 1) →
        (u : Environment) (place : Option Place) → (said : Reply) →
        said ≡ law.call_reply host key (Some h) values →
        native (stopped m stop) name (Some (receiver_at t place h)) args (f place)
        (world (abstraction s n host) u) (go (stopped m stop) place) (fails (stopped m stop) place)
        ≡ answered (stopped m stop) (leave_by_fault (stopped m stop) (f place) NoMemory)
        (Some (receiver_at t place left)) said (f place) (served u place)
        (go (stopped m stop) place) (fails (stopped m stop) place)
    replies stop clear u place said is =
        let found = seeks place in
        rw (
          own,
          found.1,
          found.2,
          is,
          found.3,
          found.4,
          clear n.passed (omega arith) (omega arith),
          clear (n.passed + 1) (omega arith) (omega arith),
        ) refl

    pub lent_serves : (r : Result NativeEnd OutOfMemory) (s' : Run H) (n' : StepsView)
        (host' : H) → ServesAt law s n host key t h values q r s' n' host' →
        CallsLent r s' n' host'
    lent_serves (Ok (native_end.Value v)) s' n' host' did =
        rw (did.2, did.3, did.1) (while_bound (omega arith) (λ stop clear halts u place bound. (
          put_binds s u place bound t left can left_plain,
          replies stop clear u place (reply.Done v) did.0
              ∙ ap (λ (w : World H). go (stopped m stop) place v w)
              (sym (put_world s u place bound twice mid t left can left_plain)),
        )))
    lent_serves (Ok (native_end.Fault x)) s' n' host' did =
        rw (did.4, did.5, did.2) (while_bound (omega arith) (λ stop clear halts u place bound. (
          put_binds s u place bound t left can left_plain,
          replies stop clear u place (reply.Failed did.0) did.1
              ∙ (ap (λ (y : Problem). fails (stopped m stop) place y (served u place))
              (ap (λ (r : Position). at_position_if_none r did.0) (at place) ∙ sym did.3)
              ∙ ap (λ (w : World H). fails (stopped m stop) place (problem_of x) w)
              (sym (put_world s u place bound twice mid t left can left_plain))),
        )))
    lent_serves (Ok (native_end.Asks a)) s' n' host' did =
        rw (did.2, did.3, did.1) (while_bound (omega arith) (λ stop clear halts u place bound. (
          put_binds s u place bound t left can left_plain,
          replies stop clear u place (reply.Ask a.token a.pointer a.values) did.0
              ∙ (ap (λ (g : Held). asks stop place a g (served u place))
              (sym (put_content s t left can left_plain))
              ∙ ap (λ (w : World H). asks stop place a
              (read_write (content_at (put_in s t left) t)) w)
              (sym (put_world s u place bound twice mid t left can left_plain))),
        ))) where
          asks : Option ℕ → Option Place → Asked → Held → World H → Act H
          asks stop place a g w =
              answered (stopped m stop) (leave_by_fault (stopped m stop) (f place) NoMemory)
              (Some (receiver_at t place g)) (reply.Ask a.token a.pointer a.values) (f place) w
              (go (stopped m stop) place) (fails (stopped m stop) place)
    lent_serves (Err e) s' n' host' did = rw (did.0, did.1, did.2) (same (record {
      this = refl;
      order = omega arith;
      equal = λ stop clear halts u place.
          rw (own, (seeks place).1, (seeks place).2, halts) refl;
    }))

module _ {H : Type 0} (law : Law H) (p : View) (engine : Engine) (f : Activation) (s t : Run H)
    (n k : StepsView) (host mid : H) where
  -- a rule that begins with a stretch at which the frame stays
  pub bound_then : (f' : Activation) (s' : Run H) (n' : StepsView) (host' : H)
      {rule via : Computation H} {ts : List ℕ} {takes gives : ℕ} {hs : List Handler}
      {r : Result Progress OutOfMemory} →
      Simulates (setup law p engine) (abstraction s n host) rule false
      (abstraction t k mid) via → KeepsFrame f s f t → t.stacks ≡ s.stacks →
      k.before ≡ n.before →
      ImplementsBound (setup law p engine) (moment f t k mid) via ts takes gives hs r
      (moment f' s' n' host') →
      ImplementsBound (setup law p engine) (moment f s n host) rule ts takes gives hs r
      (moment f' s' n' host')
  bound_then f' s' n' host' {rule} {via} {ts} {takes} {gives} {hs} {r} first kept stacks before
      does = record {
        same = compose first does.same tt;
        kept = kept_on f f f' s t s' kept does.kept;
        lands = later_lands engine f f' s t s' ts takes gives hs r kept.later
            (same_but_trace s.stacks t.stacks stacks) does.lands;
        before = does.before ∙ before;
      }

  module _ (scope : List Entry) (cells : List Cell) (bs : List Bound)
      (run : t ≡ record s { scope = scope; cells = cells; receivers = bs })
      (long : length scope ≡ length s.scope) (this : KeepsBound s.level s.receivers bs)
      (before : k.before ≡ n.before) (inside : f.base ≤ length s.scope) where
    pub lent_kept : KeepsFrame f s f t
    lent_kept = rw run (record {
      chunk = refl;
      base = refl;
      scope = omega (arith, long, inside);
      room = refl;
      noted = refl;
      outer = refl;
      saved = refl;
      level = refl;
      this = this;
      later = omega arith;
    })

    same_stacks : t.stacks ≡ s.stacks
    same_stacks = ap (λ (q : Run H). q.stacks) run

    -- memory is out
    pub lent_wants : (go : Setup H → Option Place → Dynamic → World H → Act H)
        (fails : Setup H → Option Place → Problem → World H → Act H) {rule : Computation H}
        {ts : List ℕ} {takes gives : ℕ} {hs : List Handler} (e : OutOfMemory)
        (r : Result Progress OutOfMemory) → is_out r ≡ true →
        Simulates (setup law p engine) (abstraction s n host) rule true
        (abstraction t k mid)
        (native_continuation (Err e) (λ place. None) (frame_in f s) go fails) →
        ImplementsBound (setup law p engine) (moment f s n host) rule ts takes gives hs r
        (moment f t k mid)
    lent_wants go fails e (Ok y) er does = absurd cc
    lent_wants go fails {rule} e (Err y) er does = record {
      same = subst (λ (v : StacksView). Simulates (setup law p engine) (abstraction s n host) rule
          true (abstraction t k mid)
          (λ m place w. leave_by_fault m (frame_in f (record t { stacks = v }) place) NoMemory w))
          (sym same_stacks) does;
      kept = lent_kept;
      lands = tt;
      before = before;
    }

    -- the operand is used up, and the frame goes on
    pub lent_used : {rule : Computation H} (next : ℕ) (stacks : StacksView) →
        Simulates (setup law p engine) (abstraction s n host) rule false (abstraction t k mid)
        (λ m place w. onward m (frame_in f s place)
        (stepped (frame_in f s place) next (below s.stacks.operands)) w) →
        stacks ≡ record t.stacks { operands = below t.stacks.operands } → f.address < next →
        ImplementsBound (setup law p engine) (moment f s n host) rule (next ∷ []) 1 0
        s.stacks.handlers (Ok progress.Continues)
        (moment (moved f next) (record t { stacks = stacks }) (marked_once k) mid)
    lent_used next stacks does es ahead = record {
      same = compose does (same second) tt;
      kept = keeps;
      lands = (
        inl refl,
        rw (es, run) height,
        rw (es, run) refl,
        inr (rw run (omega arith), ahead),
        rw (es, run) refl,
      );
      before = before;
    } where
      height : length (below s.stacks.operands) ≡ length s.stacks.operands - 1 + 0
      height = omega
          (arith, length-take-le (length s.stacks.operands - 1) s.stacks.operands (omega arith))

      second : SimulatesExactly (setup law p engine) (abstraction t k mid)
          (λ m place w. onward m (frame_in f s place)
          (stepped (frame_in f s place) next (below s.stacks.operands)) w) false
          (abstraction (record t { stacks = stacks }) (marked_once k) mid)
          (continuation (Ok progress.Continues) t.fault
          (frame_in (moved f next) (record t { stacks = stacks })))
      second = rw (es, run) (record {
        this = refl;
        order = omega arith;
        equal = λ stop clear halts u place. rw (clear k.passed (omega arith) (omega arith)) refl;
      })

      keeps : KeepsFrame f s (moved f next) (record t { stacks = stacks })
      keeps = rw (es, run) (record {
        chunk = refl;
        base = refl;
        scope = omega (arith, long, inside);
        room = refl;
        noted = refl;
        outer = refl;
        saved = refl;
        level = refl;
        this = this;
        later = omega arith;
      })

    -- what follows from it is done where the run then stands
    pub lent_then : (via : StacksView → Computation H) (f' : Activation) (s' : Run H)
        (n' : StepsView) (host' : H) {rule : Computation H} {ts : List ℕ} {takes gives : ℕ}
        {r : Result Progress OutOfMemory} →
        Simulates (setup law p engine) (abstraction s n host) rule false
        (abstraction t k mid) (via s.stacks) →
        ImplementsBound (setup law p engine) (moment f t k mid) (via t.stacks) ts takes gives
        t.stacks.handlers r (moment f' s' n' host') →
        ImplementsBound (setup law p engine) (moment f s n host) rule ts takes gives
        s.stacks.handlers r (moment f' s' n' host')
    lent_then via f' s' n' host' {rule} {ts} {takes} {gives} {r} does second =
        bound_then f' s' n' host' does lent_kept same_stacks before
        (subst (λ (v : StacksView). ImplementsBound (setup law p engine) (moment f t k mid) (via v)
        ts takes gives v.handlers r (moment f' s' n' host')) same_stacks second)
