-- How far a frame has run since `run_from` began with it, one turn after another.
use Rattle.std.proofs.Common.{◌≡◌, ◌∙◌, ◌<◌, ◌≤◌, ◌+◌, false, Result, Ok, Err, [], ◌∷◌, ◌++◌, take, true, refl, sym, subst, arith, ℕ, Bool, None}
use Rattle.grain_value.specs.declared.memory.OutOfMemory.{OutOfMemory}
use Rattle.grain_fault.specs.Problems.{NoMemory, problem_of}
use Rattle.grain_global.specs.StepsView.{StepsView}
use Rattle.grain_means.specs.Worlds.{Go, End, Failed, InFrame, Setup}
use Rattle.grain_means.specs.Simulation.{Simulates}
use Rattle.grain_means.specs.lemmas.Stretches.{stays, compose}
use Rattle.grain_frame.specs.Abstraction.{Moment, Runs, Stepped, abstraction, begun_one, continuation, frame_in, is_out, moment, CanCatch}
use Rattle.grain_frame.specs.Receivers.{KeepsBound}
use Rattle.grain_frame.specs.declared.activations.Activation.{Activation}
use Rattle.grain_frame.specs.declared.runs.Progress.{Progress}
use Rattle.grain_frame.specs.declared.runs.Progress.TheVariants as progress
use Rattle.grain_frame.specs.declared.runs.Run.{Run}
use Rattle.grain_frame.specs.Attempts.{Unchanged}
use Rattle.grain_vm.specs.Calls.{LeavesAround}
use Rattle.grain_vm.specs.Catching.{stopped_frame, KeepsRun, StopsSo, stop_continuation, Caught, CaughtAt, GoesOnWith, activation_at, caught_at, caught_or_left}
use Rattle.grain_vm.specs.Methods.{NoneAbove}
use Rattle.grain_vm.specs.declared.loops.Stop.TheVariants as stop
use Rattle.grain_vm.proofs.CaughtFrames.{stopped_at, caught_runs, offered_so, stopped_so}
use Rattle.grain_vm.proofs.Measure.{falls, left, taken}
use Rattle.grain_frame.specs.lemmas.Turns.{kept_bound, turn}
use Rattle.grain_vm.proofs.Turns.{left_out, moved_back, next_runs, none_on}
use Rattle.grain_program.specs.declared.code.parts.Chunk.{Chunk}
use Rattle.grain_means.specs.Rules.{offered}
use Rattle.grain_vm.specs.declared.loops.Stop.{Stop}

-- the frame runs on from the first moment to the second
pub record RunsTo {H : Type 0} (m : Setup H) (a b : Moment H) : Type 0 where
  pub goes : Simulates m (abstraction a.run a.counts a.host)
      (λ m place w. Go (InFrame (frame_in a.frame a.run place)) w) false
      (abstraction b.run b.counts b.host)
      (λ m place w. Go (InFrame (frame_in b.frame b.run place)) w)
  pub runs : Runs m.program b.frame b.run
  pub outer : b.run.stacks.outer ≡ a.run.stacks.outer
  pub saved : b.run.saved ≡ a.run.saved
  pub level : b.run.level ≡ a.run.level
  pub this : KeepsBound a.run.level a.run.receivers b.run.receivers
  pub none : NoneAbove b.run.level b.run.receivers
  pub later : a.run.count ≤ b.run.count
  pub fewer : left m.engine b.run.count b.frame.address ≤ left m.engine a.run.count a.frame.address
  pub chunk : b.frame.chunk ≡ a.frame.chunk
  pub base : b.frame.base ≡ a.frame.base
  pub room : b.run.stacks.room ≡ a.run.stacks.room
  pub before : b.counts.before ≡ a.counts.before

-- the moment at which the frame's instruction has begun
abbrev pub begun : {H : Type 0} → Moment H → Moment H
begun a = record a { counts = begun_one a.counts }

pub done_from : {H : Type 0} {m : Setup H} {f : Activation} {s : Run H} (n : StepsView)
    {i k : StepsView} {host : H} {c : Moment H} {r : Result Progress OutOfMemory} →
    i ≡ record n { begun = n.begun + 1 } → k ≡ record i { passed = i.passed + 1 } →
    Stepped m (moment f s k host) r c → Stepped m (begun (moment f s n host)) r c
done_from {m = m} {f} {s} n {i} {k} {host} {c} {r} is then did =
    let here : k ≡ begun_one n = rw (then, is) refl in
    subst (λ (j : StepsView). Stepped m (moment f s j host) r c) here did

-- the same where what was tried first changed nothing
pub done_after : {H : Type 0} {m : Setup H} {f g : Activation} {s t : Run H} (n : StepsView)
    {i k j : StepsView} {host : H} {c : Moment H} {r : Result Progress OutOfMemory} →
    i ≡ record n { begun = n.begun + 1 } → k ≡ record i { passed = i.passed + 1 } →
    Unchanged f s k g t j → Stepped m (moment g t j host) r c →
    Stepped m (begun (moment f s n host)) r c
done_after {m = m} n {host = host} {c} {r} is then same did =
    done_from n is then (moved_back (λ s f n. Stepped m (moment f s n host) r c) same did)

-- it led so
pub done_so : {H : Type 0} {m : Setup H} {b c : Moment H} {one other : Progress} → one ≡ other →
    Stepped m b (Ok one) c → Stepped m b (Ok other) c
done_so {m = m} {b} {c} is did = subst (λ (q : Progress). Stepped m b (Ok q) c) is did

-- nothing was done
pub runs_here : {H : Type 0} {m : Setup H} {a : Moment H} → Runs m.program a.frame a.run →
    NoneAbove a.run.level a.run.receivers → RunsTo m a a
runs_here runs none = record {
  goes = stays;
  runs = runs;
  outer = refl;
  saved = refl;
  level = refl;
  this = (refl, refl);
  none = none;
  later = omega arith;
  fewer = omega arith;
  chunk = refl;
  base = refl;
  room = refl;
  before = refl;
}

module _ {H : Type 0} {m : Setup H} {a b : Moment H} (so_far : RunsTo m a b) where
  -- the rest of the frame ran
  pub around_on : {s : Run H} {n : StepsView} → LeavesAround b.run b.counts s n →
      LeavesAround a.run a.counts s n
  around_on {s} {n} ran = record {
    outer = ran.outer ∙ so_far.outer;
    room = ran.room ∙ so_far.room;
    saved = ran.saved ∙ so_far.saved;
    level = ran.level ∙ so_far.level;
    this = kept_bound a.run.receivers b.run.receivers s.receivers so_far.level so_far.this ran.this;
    later = omega (arith, ran.later, so_far.later);
    before = ran.before ∙ so_far.before;
  }

  -- the same where a fault of it was offered to a handler
  pub around_caught : {s t : Run H} {n k : StepsView} → LeavesAround b.run b.counts s n →
      KeepsRun s t → k.before ≡ n.before → LeavesAround a.run a.counts t k
  around_caught {s} {t} {n} {k} ran kept before =
      let around = around_on ran in
      record {
        outer = kept.outer ∙ around.outer;
        room = kept.room ∙ around.room;
        saved = kept.saved ∙ around.saved;
        level = kept.level ∙ around.level;
        this = rw kept.receivers around.this;
        later = omega (arith, kept.later, around.later);
        before = before ∙ around.before;
      }

module _ {H : Type 0} {m : Setup H} {a b c : Moment H} (so_far : RunsTo m a b) where
  -- where the instruction led
  pub led : {r : Result Progress OutOfMemory} → Stepped m (begun b) r c →
      Simulates m (abstraction a.run a.counts a.host)
      (λ m place w. Go (InFrame (frame_in a.frame a.run place)) w) (is_out r)
      (abstraction c.run c.counts c.host) (continuation r c.run.fault (frame_in c.frame c.run))
  led did =
      turn (abstraction b.run b.counts b.host) refl so_far.goes did.goes

  pub left_around : {r : Result Progress OutOfMemory} → Stepped m (begun b) r c →
      LeavesAround a.run a.counts c.run c.counts
  left_around did = record {
    outer = did.kept.outer ∙ so_far.outer;
    room = did.kept.room ∙ so_far.room;
    saved = did.kept.saved ∙ so_far.saved;
    level = did.kept.level ∙ so_far.level;
    this = kept_bound a.run.receivers b.run.receivers c.run.receivers so_far.level so_far.this
        did.kept.this;
    later = omega (arith, did.kept.later, so_far.later);
    before = did.before ∙ so_far.before;
  }

  module _ (did : Stepped m (begun b) (Ok progress.Continues) c) where
    pub turn_falls : left m.engine c.run.count c.frame.address
        < left m.engine b.run.count b.frame.address
    turn_falls =
        falls m.engine b.run.count c.run.count b.frame.address c.frame.address did.stays.1 did.stays.2

    -- the frame runs on
    pub runs_on : RunsTo m a c
    runs_on = record {
      goes = led did;
      runs = next_runs m.program b.frame c.frame b.run c.run so_far.runs did.kept did.stays.0
          did.stays.3;
      outer = did.kept.outer ∙ so_far.outer;
      saved = did.kept.saved ∙ so_far.saved;
      level = did.kept.level ∙ so_far.level;
      this = kept_bound a.run.receivers b.run.receivers c.run.receivers so_far.level so_far.this
          did.kept.this;
      none = none_on b.run.receivers c.run.receivers did.kept.level did.kept.this so_far.none;
      later = omega (arith, did.kept.later, so_far.later);
      fewer = omega (arith, turn_falls, so_far.fewer);
      chunk = did.kept.chunk ∙ so_far.chunk;
      base = did.kept.base ∙ so_far.base;
      room = did.kept.room ∙ so_far.room;
      before = did.before ∙ so_far.before;
    }

  -- a fault was raised, and the run has where
  module _ (did : Stepped m (begun b) (Ok progress.Failed) c) (t : Run H)
      (is : t ≡ record c.run {
        stopped = record {
          address = c.frame.address;
          floor = c.frame.floor;
          slot = c.frame.slot;
        };
      }) where
    pub stops_by_fault : Simulates m (abstraction a.run a.counts a.host)
        (λ m place w. Go (InFrame (frame_in a.frame a.run place)) w) false
        (abstraction t c.counts c.host)
        (stop_continuation (Ok stop.Fault) a.frame.chunk a.frame.base t)
    stops_by_fault = rw is
        (stopped_at a.frame.chunk a.frame.base c.frame c.run (did.kept.chunk ∙ so_far.chunk)
        (did.kept.base ∙ so_far.base) (led did))

    pub stops_so : StopsSo m.program a.frame.chunk a.frame.base t (Ok stop.Fault)
    stops_so = rw is (
      did.kept.noted ∙ so_far.runs.unnoted,
      (
        did.stays.0,
        did.stays.1,
        did.stays.2,
        did.stays.3,
        rw (sym (did.kept.chunk ∙ so_far.chunk)) did.stays.4,
        rw (sym (did.kept.base ∙ so_far.base)) did.stays.5,
      ),
    )

    pub left_around_by_fault : LeavesAround a.run a.counts t c.counts
    left_around_by_fault =
        let around = left_around did in
        record {
          outer = rw is around.outer;
          room = rw is around.room;
          saved = rw is around.saved;
          level = rw is around.level;
          this = rw is around.this;
          later = rw is around.later;
          before = around.before;
        }

  -- memory is out
  module _ (e : OutOfMemory) (did : Stepped m (begun b) (Err e) c) (t : Run H)
      (is : t ≡ record c.run {
        scope = take c.frame.floor c.run.scope;
        stacks = record c.run.stacks {
          noted = true;
          trace = c.run.stacks.trace
              ++ record { address = c.frame.address; slot = c.frame.slot } ∷ [];
        };
      }) where
    pub stops_by_memory : Simulates m (abstraction a.run a.counts a.host)
        (λ m place w. Go (InFrame (frame_in a.frame a.run place)) w) true
        (abstraction t c.counts c.host) (λ m place w. End (Failed NoMemory) w)
    stops_by_memory =
        left_out (abstraction c.run c.counts c.host) (abstraction t c.counts c.host)
        (frame_in c.frame c.run) c.frame.floor c.frame.address c.frame.slot (λ place. refl)
        (λ place. refl) (λ place. refl) (rw is refl) (led did)

    pub left_around_by_memory : LeavesAround a.run a.counts t c.counts
    left_around_by_memory =
        let around = left_around did in
        record {
          outer = rw is around.outer;
          room = rw is around.room;
          saved = rw is around.saved;
          level = rw is around.level;
          this = rw is around.this;
          later = rw is around.later;
          before = around.before;
        }

-- a fault of the frame was caught, and the frame runs on at the handler's address
pub caught_on : {H : Type 0} {m : Setup H} {a : Moment H} (c : Chunk)
    (base address floor target low : ℕ) (s t u : Run H) (n k j : StepsView)
    (host host1 host2 : H) {one : Stop} {said : Bool} →
    RunsTo m a (moment (activation_at c base address floor None) s n host) →
    one ≡ stop.Fault →
    Simulates m (abstraction s n host)
    (λ m place w. Go (InFrame (frame_in (activation_at c base address floor None) s place)) w) false
    (abstraction t k host1) (stop_continuation (Ok one) c base t) →
    StopsSo m.program c base t (Ok one) → LeavesAround s n t k → said ≡ true →
    Simulates m (abstraction t k host1)
    (λ m place w. offered m (frame_in (stopped_frame c base t) t place)
    (problem_of t.fault) w) false (abstraction u j host2)
    (caught_or_left (caught_at (Ok said) target) u.fault (frame_in (stopped_frame c base t) u)) →
    Caught m.engine t u (caught_at (Ok said) target) →
    (CanCatch m.program (stopped_frame c base t) t →
    CaughtAt m.program (stopped_frame c base t) u (caught_at (Ok said) target)) →
    GoesOnWith (Ok said) low t.stopped.floor → j.before ≡ k.before →
    RunsTo m a (moment (activation_at c base target low None) u j host2)
caught_on {m = m} {a} c base address floor target low s t u n k j host host1 host2 {one} {said}
    now is ran stops left found offers kept typed with before =
    let stops = subst (λ (q : Stop). StopsSo m.program c base t (Ok q)) is stops in
    let kept = subst (λ (b : Bool). Caught m.engine t u (caught_at (Ok b) target)) found kept in
    let same = subst (λ (b : Bool). GoesOnWith (Ok b) low t.stopped.floor) found with in
    let typed =
    subst (λ (b : Bool). CaughtAt m.program (stopped_frame c base t) u (caught_at (Ok b) target)) found
    (typed stops.1) in
    let around = around_on now left in
    let fewer = taken m.engine s.count u.count address target (omega (arith, left.later, kept.2))
    (omega (arith, left.later, kept.3)) in
    rw same (record {
      goes = compose (compose now.goes (stopped_so c base t is ran) tt)
          (offered_so (frame_in (stopped_frame c base t) u) u.fault target found offers) tt;
      runs = caught_runs m.program m.engine c base address floor t.stopped.address t.stopped.floor target
          t.stopped.slot s t u now.runs
          left.room left.outer stops.0 kept typed;
      outer = kept.0.outer ∙ around.outer;
      saved = kept.0.saved ∙ around.saved;
      level = kept.0.level ∙ around.level;
      this = rw kept.0.receivers around.this;
      none = rw (kept.0.level, kept.0.receivers)
          (none_on s.receivers t.receivers left.level left.this now.none);
      later = omega (arith, around.later, kept.2);
      fewer = omega (arith, fewer, now.fewer);
      chunk = now.chunk;
      base = now.base;
      room = kept.0.room ∙ around.room;
      before = before ∙ around.before;
    })
