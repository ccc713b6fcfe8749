-- A fault is offered to the handlers of a frame, and the frame goes on where one has caught it.
use Rattle.std.proofs.Common.{◌≡◌, ◌∙◌, ◌≤◌, ℕ, List, [], ◌∷◌, ◌++◌, Option, Some, None, Bool, true, false, Result, Ok, Err, length, take, refl, sym, ap, subst, arith}
use Rattle.grain_value.specs.declared.values.Held.{Held}
use Rattle.grain_value.specs.declared.memory.OutOfMemory.{OutOfMemory}
use Rattle.grain_fault.specs.Problems.{Problem, NoMemory, problem_of}
use Rattle.grain_fault.specs.declared.faults.EvalAltResult.{EvalAltResult}
use Rattle.grain_program.specs.declared.code.parts.Chunk.{Chunk}
use Rattle.grain_program.specs.View.{View}
use Rattle.grain_program.specs.laws.TypedAt.{IsTypedAt, catches, covers_cursors, covers_height}
use Rattle.grain_program.specs.Shapes.{TryHandler}
use Rattle.grain_program.specs.TypedAt.{HasName}
use Rattle.grain_stack.specs.declared.cursors.Cursor.{Cursor}
use Rattle.grain_stack.specs.declared.handlers.Handler.{Handler}
use Rattle.grain_stack.specs.Views.{StackFrame}
use Rattle.grain_global.specs.declared.engines.Engine.{Engine}
use Rattle.grain_means.specs.Worlds.{Frame, Place, Setup, World, Go, End, Failed, InCatch}
use Rattle.grain_means.specs.Ends.{went}
use Rattle.grain_means.specs.Rules.{offered, caught, leave_by_fault, offered_to}
use Rattle.grain_means.specs.Simulation.{LocalState, Computation, Simulates, SimulatesExactly, stopped, world}
use Rattle.grain_means.specs.lemmas.Stretches.{same, compose, before}
use Rattle.grain_global.specs.StepsView.{StepsView}
use Rattle.grain_frame.specs.Abstraction.{abstraction, frame_in, handler_in, handlers_in, this_of, try_in, tries_in, is_out, Above, CanCatch, Runs}
use Rattle.grain_vm.specs.Catching.{found, catch_continuation, activation_at, caught_at, caught_or_left, stop_continuation, Caught, CaughtAt, CaughtBy, StandsFor}
use Rattle.grain_vm.specs.declared.loops.Stop.{Stop}
use Rattle.grain_vm.specs.declared.loops.Stop.TheVariants as stop
use Rattle.grain_frame.specs.declared.activations.Activation.{Activation}
use Rattle.grain_frame.specs.declared.runs.Run.{Run}
use Rattle.grain_vm.proofs.Turns.{left_out}

-- a fault is offered to the frame's handlers, and one catches
module _ {H : Type 0} (m : Setup H) (f : Activation) (s s1 : Run H) (n : StepsView) (host : H)
    (h : Handler)
    (offers : (k : Setup H) (g : Frame) (w : World H) →
    offered_to k (handlers_in s.stacks.handlers) g (problem_of s.fault) w
    ≡ found k (Some h) s1.stacks.handlers g s1.fault w)
    (others : s1 ≡ record s {
      stacks = record s.stacks { handlers = s1.stacks.handlers };
      fault = s1.fault;
    }) where
  pub begins_catch : Simulates m (abstraction s n host)
      (λ k place w. offered_to k (handlers_in s.stacks.handlers) (frame_in f s place)
      (problem_of s.fault) w) false
      (abstraction s1 n host)
      (λ k place w. caught k (frame_in f s1 place) (handler_in h) (problem_of s1.fault) w)
  begins_catch =
      compose (same first)
      (before {start = λ k place w.
      caught k (frame_in f s1 place) (handler_in h) (problem_of s1.fault) w}
      {first = λ k place w.
      Go (InCatch (frame_in f s1 place) (handler_in h) (problem_of s1.fault)) w}
      (λ k place w v a run. went run)
      (same (record {
        this = refl;
        order = omega arith;
        equal = λ stop clear halts u place. refl;
      }))) tt where
        first : SimulatesExactly m (abstraction s n host)
            (λ k place w. offered_to k (handlers_in s.stacks.handlers) (frame_in f s place)
            (problem_of s.fault) w) false
            (abstraction s1 n host)
            (λ k place w.
            Go (InCatch (frame_in f s1 place) (handler_in h) (problem_of s1.fault)) w)
        first = record {
          this = ap (λ (q : Run H). this_of q) others;
          order = omega arith;
          equal = λ stop clear halts u place.
              offers (stopped m stop) (frame_in f s place) (world (abstraction s n host) u)
              ∙ rw others refl;
        }

  -- and what comes of it
  module _ (s2 : Run H) (n2 : StepsView) (host2 : H) where
    abbrev pub DoneBy : Result Bool OutOfMemory → Type 0
    DoneBy r = SimulatesExactly m (abstraction s1 n host)
        (λ k place w. caught k (frame_in f s1 place) (handler_in h) (problem_of s1.fault) w)
        (is_out r) (abstraction s2 n2 host2)
        (catch_continuation r s2.fault h.target (frame_in f s2))

    abbrev pub Leads : Bool → Run H → Computation H → Type 0
    Leads out t now = Simulates m (abstraction s n host)
        (λ k place w. offered_to k (handlers_in s.stacks.handlers) (frame_in f s place)
        (problem_of s.fault) w) out (abstraction t n2 host2) now

    caught_on : (r : Result Bool OutOfMemory) → DoneBy r →
        Leads (is_out r) s2 (catch_continuation r s2.fault h.target (frame_in f s2))
    caught_on r did = compose begins_catch (same did) tt

    -- the frame goes on
    pub goes_on_at : (b : Bool) → b ≡ true → DoneBy (Ok b) →
        Leads false s2 (caught_or_left (Ok (Some h.target)) s2.fault (frame_in f s2))
    goes_on_at true e did = caught_on (Ok true) did
    goes_on_at false e did = absurd cc

    module _ (t : Run H) (is : t ≡ record s2 {
      scope = take f.floor s2.scope;
      stacks = record s2.stacks {
        noted = true;
        trace = s2.stacks.trace ++ record { address = f.address; slot = f.slot } ∷ [];
      };
    }) where
      left_at : (out : Bool) (x : Problem) →
          Leads out s2 (λ k place w. leave_by_fault k (frame_in f s2 place) x w) →
          Leads out t (λ k place w. End (Failed x) w)
      left_at out x h =
          left_out (abstraction s2 n2 host2) (abstraction t n2 host2) (frame_in f s2) f.floor
          f.address f.slot (λ place. refl) (λ place. refl) (λ place. refl) (rw is refl) h

      -- a fault leaves it
      pub leaves_at : (b : Bool) → b ≡ false → DoneBy (Ok b) →
          Leads false t (caught_or_left (Ok None) t.fault (frame_in f t))
      leaves_at true e did = absurd cc
      leaves_at false e did =
          let fault : t.fault ≡ s2.fault = ap (λ (q : Run H). q.fault) is in
          subst (λ (y : EvalAltResult). Leads false t (caught_or_left (Ok None) y (frame_in f t)))
          (sym fault) (left_at false (problem_of s2.fault) (caught_on (Ok false) did))

      -- memory is out
      pub leaves_out : (e : OutOfMemory) → DoneBy (Err e) →
          Leads true t (caught_or_left (Err e) t.fault (frame_in f t))
      leaves_out e did = left_at true NoMemory (caught_on (Err e) did)

-- a fault is offered to the frame's handlers, and none catches
pub none_catches : {H : Type 0} (m : Setup H) (f : Activation) (s s1 t : Run H) (n : StepsView)
    (host : H) →
    ((k : Setup H) (g : Frame) (w : World H) →
    offered_to k (handlers_in s.stacks.handlers) g (problem_of s.fault) w
    ≡ found k None s1.stacks.handlers g s1.fault w) →
    s1 ≡ record s {
      stacks = record s.stacks { handlers = s1.stacks.handlers };
      fault = s1.fault;
    } → t ≡ record s1 {
      scope = take f.floor s1.scope;
      stacks = record s1.stacks {
        noted = true;
        trace = s1.stacks.trace ++ record { address = f.address; slot = f.slot } ∷ [];
      };
    } → Simulates m (abstraction s n host)
    (λ k place w. offered k (frame_in f s place) (problem_of s.fault) w) false
    (abstraction t n host) (caught_or_left (Ok None) t.fault (frame_in f t))
none_catches {H} m f s s1 t n host offers others is =
    let fault : t.fault ≡ s1.fault = ap (λ (q : Run H). q.fault) is in
    subst (λ (y : EvalAltResult). Simulates m (abstraction s n host)
    (λ k place w. offered k (frame_in f s place) (problem_of s.fault) w) false
    (abstraction t n host) (caught_or_left (Ok None) y (frame_in f t))) (sym fault)
    (left_out (abstraction s1 n host) (abstraction t n host) (frame_in f s1) f.floor f.address f.slot
    (λ place. refl) (λ place. refl) (λ place. refl) (rw is refl) (same leaves)) where
      leaves : SimulatesExactly m (abstraction s n host)
          (λ k place w. offered k (frame_in f s place) (problem_of s.fault) w) false
          (abstraction s1 n host)
          (λ k place w. leave_by_fault k (frame_in f s1 place) (problem_of s1.fault) w)
      leaves = record {
        this = ap (λ (q : Run H). this_of q) others;
        order = omega arith;
        equal = λ stop clear halts u place.
            offers (stopped m stop) (frame_in f s place) (world (abstraction s n host) u)
            ∙ rw others refl;
      }

-- the handler that catches has its operands, its cursors and its name, and stands in a typing
pub can_catch : {H : Type 0} (p : View) (f : Activation) (s s1 : Run H) (h : Handler) →
    CanCatch p f s → StandsFor s.stacks.handlers (h ∷ s1.stacks.handlers) →
    s1 ≡ record s {
      stacks = record s.stacks { handlers = s1.stacks.handlers };
      fault = s1.fault;
    } → (h.operands ≤ length s1.stacks.operands) × (h.cursors ≤ length s1.stacks.cursors) ×
    HasName p h.variable × IsTypedAt p f.chunk h.target h.operands h.cursors
    (try_in h ∷ tries_in s1.stacks.handlers) × Above f.base (h ∷ s1.stacks.handlers)
can_catch p f s s1 h can stands others =
    let covered = stands.covered p f.chunk can.0 can.1 can.4 in
    let hs = tries_in s1.stacks.handlers in
    let same : s1.stacks.operands ≡ s.stacks.operands =
    ap (λ (q : Run _). q.stacks.operands) others in
    let alike : s1.stacks.cursors ≡ s.stacks.cursors =
    ap (λ (q : Run _). q.stacks.cursors) others in (
      omega (
        arith,
        covers_height p f.chunk can.0 can.1 (try_in h) hs covered,
        can.2,
        ap (λ (xs : List Held). length xs) same,
      ),
      omega (
        arith,
        covers_cursors p f.chunk can.0 can.1 (try_in h) hs covered,
        can.3,
        ap (λ (cs : List Cursor). length cs) alike,
      ),
      covered.covers.2,
      catches p f.chunk can.0 can.1 (try_in h) hs covered,
      stands.above f.base can.5,
    )

module _ {H : Type 0} (s s1 s2 : Run H) (h : Handler)
    (others : s1 ≡ record s {
      stacks = record s.stacks { handlers = s1.stacks.handlers };
      fault = s1.fault;
    }) (engine : Engine) where
  -- the frames around the one that goes on are as they were
  pub kept_at : (b : Bool) → b ≡ true → CaughtBy engine h s1 s2 (Ok b) →
      Caught engine s s2 (Ok (Some h.target))
  kept_at false e by = absurd cc
  kept_at true e by =
      let k = by.0 in (
        record {
          room = k.room ∙ ap (λ (q : Run H). q.stacks.room) others;
          outer = k.outer ∙ ap (λ (q : Run H). q.stacks.outer) others;
          saved = k.saved ∙ ap (λ (q : Run H). q.saved) others;
          level = k.level ∙ ap (λ (q : Run H). q.level) others;
          receivers = k.receivers ∙ ap (λ (q : Run H). q.receivers) others;
          later = omega (arith, k.later, ap (λ (q : Run H). q.count) others);
        },
        by.1 ∙ ap (λ (q : Run H). q.stacks.noted) others,
        omega (arith, by.6, ap (λ (q : Run H). q.count) others),
        omega (arith, by.7, ap (λ (q : Run H). q.count) others),
      )

  -- it is typed at the target
  pub typed_at : (p : View) (f : Activation) → CanCatch p f s →
      StandsFor s.stacks.handlers (h ∷ s1.stacks.handlers) → (b : Bool) → b ≡ true →
      CaughtBy engine h s1 s2 (Ok b) → CaughtAt p f s2 (Ok (Some h.target))
  typed_at p f can stands false e by = absurd cc
  typed_at p f can stands true e by =
      let at = can_catch p f s s1 h can stands others in
      let handlers = by.5.1 in
      let hs = try_in h ∷ tries_in s1.stacks.handlers in (
        omega (arith, at.4.0, by.4),
        subst (λ (ts : List TryHandler). IsTypedAt p f.chunk h.target (length s2.stacks.operands)
            (length s2.stacks.cursors) ts) (sym (ap tries_in handlers))
            (subst (λ (k : ℕ). IsTypedAt p f.chunk h.target (length s2.stacks.operands) k hs)
            (sym by.3)
            (subst (λ (n : ℕ). IsTypedAt p f.chunk h.target n h.cursors hs) (sym by.2) at.3)),
        subst (λ (hs : List Handler). Above f.base hs) (sym handlers) (at.4.0, at.4.1),
      )

-- the frame that goes on runs
pub caught_runs : {H : Type 0} (p : View) (engine : Engine) (c : Chunk)
    (base address floor at low target : ℕ) (slot : Option ℕ) (s t u : Run H) →
    Runs p (activation_at c base address floor None) s → t.stacks.room ≡ s.stacks.room →
    t.stacks.outer ≡ s.stacks.outer → t.stacks.noted ≡ false →
    Caught engine t u (Ok (Some target)) →
    CaughtAt p (activation_at c base at low slot) u (Ok (Some target)) →
    Runs p (activation_at c base target low None) u
caught_runs p engine c base address floor at low target slot s t u runs room outer noted caught typed =
    record {
      inside = typed.0;
      typed = typed.1;
      above = typed.2;
      room = runs.room ∙ sym (caught.0.room ∙ room);
      unnoted = caught.1 ∙ noted;
      entered = omega (
        arith,
        runs.entered,
        ap (λ (fs : List StackFrame). length fs) (caught.0.outer ∙ outer),
      );
    }

-- where a fault that was offered led
pub caught_so : {H : Type 0} {m : Setup H} {old : LocalState H} {start : Computation H}
    {new : LocalState H} (f : Option Place → Frame) (x : EvalAltResult) {one other : Option ℕ} →
    one ≡ other → Simulates m old start false new (caught_or_left (Ok one) x f) →
    Simulates m old start false new (caught_or_left (Ok other) x f)
caught_so {m = m} {old} {start} {new} f x e h =
    subst (λ (o : Option ℕ). Simulates m old start false new (caught_or_left (Ok o) x f)) e h

-- the same where it is told whether the frame goes on
pub offered_so : {H : Type 0} {m : Setup H} {old : LocalState H} {start : Computation H}
    {new : LocalState H} (f : Option Place → Frame) (x : EvalAltResult) (address : ℕ)
    {one other : Bool} → one ≡ other →
    Simulates m old start false new (caught_or_left (caught_at (Ok one) address) x f) →
    Simulates m old start false new (caught_or_left (caught_at (Ok other) address) x f)
offered_so {m = m} {old} {start} {new} f x address e h =
    subst (λ (b : Bool). Simulates m old start false new
    (caught_or_left (caught_at (Ok b) address) x f)) e h

-- a fault was raised in a frame
pub stopped_at : {H : Type 0} {m : Setup H} {old : LocalState H} {start : Computation H}
    {new : LocalState H} (c : Chunk) (base : ℕ) (f : Activation) (s : Run H) → f.chunk ≡ c →
    f.base ≡ base → Simulates m old start false new (λ k place w.
    offered k (frame_in f s place) (problem_of s.fault) w) →
    Simulates m old start false new
    (stop_continuation (Ok stop.Fault) c base (record s {
      stopped = record { address = f.address; floor = f.floor; slot = f.slot };
    }))
stopped_at c base f s ec eb h = rw (← ec, ← eb) h

-- how a frame stopped
pub stopped_so : {H : Type 0} {m : Setup H} {old : LocalState H} {start : Computation H}
    {new : LocalState H} (c : Chunk) (base : ℕ) (s : Run H) {one other : Stop} → one ≡ other →
    Simulates m old start false new (stop_continuation (Ok one) c base s) →
    Simulates m old start false new (stop_continuation (Ok other) c base s)
stopped_so {m = m} {old} {start} {new} c base s e h =
    subst (λ (q : Stop). Simulates m old start false new (stop_continuation (Ok q) c base s)) e h
