-- What a whole call answers is what the program means.
use Rattle.std.proofs.Common.{◌≡◌, ◌≤◌, ◌+◌, inl, inr, ℕ, Bool, List, [], Option, Some, None, true, Result, Ok, Err, length, refl, subst, arith}
use Rattle.grain_value.specs.declared.memory.OutOfMemory.{OutOfMemory}
use Rattle.grain_value.specs.declared.values.Dynamic.{Dynamic}
use Rattle.grain_value.specs.declared.scopes.Entry.{Entry}
use Rattle.grain_value.specs.declared.stores.Cell.{Cell}
use Rattle.grain_fault.specs.Problems.{problem_of}
use Rattle.grain_fault.specs.declared.traces.Fault.{Fault}
use Rattle.grain_fault.specs.declared.faults.EvalAltResult.{EvalAltResult}
use Rattle.grain_fault.specs.declared.faults.EvalAltResult.TheVariants as fault
use Rattle.grain_program.specs.View.{View}
use Rattle.grain_host.specs.Law.{IsLawful, Law}
use Rattle.grain_means.specs.Contained.{AnswerNames, ConstantsName, Contained, KeepsToStore, ResultNames, RootsName, WithinStore}
use Rattle.grain_global.specs.declared.engines.Engine.{Engine}
use Rattle.grain_means.specs.Worlds.{Answer, Failed, Place, Setup, World}
use Rattle.grain_means.specs.Rules.{called}
use Rattle.grain_means.specs.Ends.{Ends}
use Rattle.grain_means.specs.Length.{run_length}
use Rattle.grain_means.specs.Simulation.{LocalState, Simulates, NoStopWithin, StopsHere, world, no_environment}
use Rattle.grain_means.specs.Leavings.{names, Keeps, Cuts, Leaves, IsCut}
use Rattle.grain_means.specs.Causes.{Caused, HasCause}
use Rattle.grain_means.specs.Means.{Begin, Finish, setup, MainEnds, Evaluates}
use Rattle.grain_means.specs.lemmas.Stretches.{whole, clear_before, halts_there, never_clear}
use Rattle.grain_frame.specs.Abstraction.{is_out}
use Rattle.grain_vm.specs.Calls.{finished_with, answer_of}
use Rattle.grain_vm.specs.Machines.{with_memory_fault}

-- what the law of counts says of a host's states
abbrev Counted : (H : Type 0) → Type 0
Counted H =
    (m : Setup H) (this : Option Place) (w v : World H) (a : Answer)
    (run : Ends m (called m this w) a v) → w.trace ≡ [] →
    (v.ran ≡ w.ran + run_length run) × (v.tokens ≡ w.tokens) × (v.level ≡ w.level) ×
    Keeps (length w.scope) (names w.scope) v.scope ×
    Cuts m (called m this w) w.level (length w.scope) a v ×
    Caused m (called m this w) w.level a v

-- what the law of the store says of them
abbrev Kept : (H : Type 0) → Type 0
Kept H =
    (m : Setup H) (this : Option Place) (w v : World H) (a : Answer) (clean : Bool) (n : ℕ) →
    IsLawful m.law → ConstantsName clean n m.program →
    Contained m.law clean n w.scope w.cells w.host → RootsName clean n w.roots →
    Ends m (called m this w) a v →
    (k : ℕ) × (n ≤ k) × Contained m.law clean k v.scope v.cells v.host × AnswerNames clean k a
    × RootsName clean k v.roots

module _ {H : Type 0} (counted : Counted H) (law : Law H) (p : View) (e : Engine) (b : Begin H)
    (trace : List Fault) (scope : List Entry) (cells : List Cell) (host : H)
    (count level ran passed : ℕ) where
  abbrev m : Setup H
  m = setup law p e

  -- what the code has at a call's beginning, and at its end
  abbrev pub at_first : LocalState H
  at_first =
      record {
        scope = b.scope;
        cells = b.cells;
        host = b.host;
        this = None;
        count =
            b.global.num_operations;
        level = b.global.level;
        trace = [];
        ran = 0;
        passed = 0;
      }

  abbrev pub at_last : LocalState H
  at_last =
      record {
        scope = scope;
        cells = cells;
        host = host;
        this = None;
        count = count;
        level = level;
        trace = trace;
        ran = ran;
        passed = passed;
      }

  abbrev pub ending : Answer → Finish H
  ending a =
      record {
        answer = a;
        trace = trace;
        scope = scope;
        cells = cells;
        host = host;
        global =
            record { num_operations = count; level = level };
      }

  -- the whole call, as the code did it
  abbrev pub Whole : Result (Result Dynamic EvalAltResult) OutOfMemory → Type 0
  Whole back = Simulates m at_first (λ n place w. called n place w) (is_out back) at_last
      (finished_with back)

  abbrev stopped_at : Option ℕ → Setup H
  stopped_at stop = record { law = law; program = p; engine = e; stop = stop }

  -- the run as it is stopped at a mark, or not
  at_stop : (back : Result (Result Dynamic EvalAltResult) OutOfMemory) → Whole back →
      (stop : Option ℕ) → NoStopWithin stop 0 passed → StopsHere (is_out back) stop passed →
      Ends (stopped_at stop) (called (stopped_at stop) None (world at_first no_environment))
      (answer_of back) (world at_last no_environment)
  at_stop back h stop clear halts = whole h refl stop clear halts no_environment

  counts : (stop : Option ℕ) (a : Answer)
      (run : Ends (stopped_at stop) (called (stopped_at stop) None (world at_first no_environment))
      a (world at_last no_environment)) →
      (ran ≡ 0 + run_length run) ×
      ((world at_last no_environment).tokens ≡ (world at_first no_environment).tokens) ×
      (level ≡ b.global.level) × Keeps (length b.scope) (names b.scope) scope ×
      Cuts (stopped_at stop) (called (stopped_at stop) None (world at_first no_environment))
      b.global.level (length b.scope) a (world at_last no_environment) ×
      Caused (stopped_at stop) (called (stopped_at stop) None (world at_first no_environment))
      b.global.level a (world at_last no_environment)
  counts stop a run = counted (stopped_at stop) None (world at_first no_environment)
      (world at_last no_environment) a run refl

  runs : (back : Result (Result Dynamic EvalAltResult) OutOfMemory) → Whole back →
      (stop : Option ℕ) → NoStopWithin stop 0 passed → StopsHere (is_out back) stop passed →
      MainEnds (stopped_at stop) b (ending (answer_of back)) ran
  runs back h stop clear halts =
      let run = at_stop back h stop clear halts in
      (passed, (run, omega (arith, (counts stop (answer_of back) run).0)))

  pub evaluated : (back : Result (Result Dynamic EvalAltResult) OutOfMemory) → Whole back →
      Evaluates law p e b (with_memory_fault back) ending ran
  evaluated (Ok (Ok v)) h = runs (Ok (Ok v)) h None (never_clear 0 passed) tt
  evaluated (Ok (Err fault.Memory)) h =
      (passed, runs (Ok (Err fault.Memory)) h (Some passed) (clear_before 0 passed) tt)
  evaluated (Ok (Err x)) h = runs (Ok (Err x)) h None (never_clear 0 passed) tt
  evaluated (Err o) h =
      (passed, runs (Err o) h (Some passed) (clear_before 0 passed) (halts_there true passed))

  -- the level is what it was, also where memory was out
  pub same_level : (back : Result (Result Dynamic EvalAltResult) OutOfMemory) → Whole back →
      level ≡ b.global.level
  same_level back h =
      (counts (Some passed) (answer_of back)
      (at_stop back h (Some passed) (clear_before 0 passed)
      (halts_there (is_out back) passed))).2

  -- after a fault the scope is cut
  cut : (back : Result (Result Dynamic EvalAltResult) OutOfMemory) → Whole back →
      (x : EvalAltResult) → with_memory_fault back ≡ Err x →
      IsCut law p e b (problem_of x) (ending (Failed (problem_of x)))
  cut (Ok (Ok v)) h x is = absurd cc
  cut (Ok (Err y)) h x is =
      let same : y ≡ x = cc in
      let run = at_stop (Ok (Err y)) h None (never_clear 0 passed) tt in
      subst (λ (z : EvalAltResult).
      IsCut law p e b (problem_of z) (ending (Failed (problem_of z)))) same (
        None,
        inl refl,
        (
          (ran, runs (Ok (Err y)) h None (never_clear 0 passed) tt),
          (counts None (answer_of (Ok (Err y))) run).4,
        ),
      )
  cut (Err o) h x is =
      let same : fault.Memory ≡ x = cc in
      let run = at_stop (Err o) h (Some passed) (clear_before 0 passed) (halts_there true passed) in
      subst (λ (z : EvalAltResult).
      IsCut law p e b (problem_of z) (ending (Failed (problem_of z)))) same (
        Some passed,
        inr refl,
        (
          (ran, runs (Err o) h (Some passed) (clear_before 0 passed) (halts_there true passed)),
          (counts (Some passed) (answer_of (Err o)) run).4,
        ),
      )

  -- what is left of the scope
  pub leaves : (back : Result (Result Dynamic EvalAltResult) OutOfMemory) → Whole back →
      Leaves law p e b (with_memory_fault back) ending
  leaves back h =
      let run =
      at_stop back h (Some passed) (clear_before 0 passed) (halts_there (is_out back) passed) in
      record { keeps = (counts (Some passed) (answer_of back) run).3; cuts = cut back h }

  -- each fault has its cause: the run that is not stopped never wants memory
  pub has_cause : (back : Result (Result Dynamic EvalAltResult) OutOfMemory) → Whole back →
      HasCause law p e b (with_memory_fault back)
  has_cause (Ok (Ok v)) h = tt
  has_cause (Ok (Err x)) h =
      let run = at_stop (Ok (Err x)) h None (never_clear 0 passed) tt in
      at (counts None (answer_of (Ok (Err x))) run).5 where
        at : Caused m (called m None (world at_first no_environment)) b.global.level
            (Failed (problem_of x)) (world at_last no_environment) → HasCause law p e b (Err x)
        at (inl s) = absurd cc
        at (inr c) = inr c
  has_cause (Err o) h = inl refl

  -- what is left names cells of the store only, if what is given does
  pub keeps_to_store : Kept H → IsLawful law → law.holds_clean b.host ≡ true →
      (back : Result (Result Dynamic EvalAltResult) OutOfMemory) → Whole back →
      KeepsToStore law p b (with_memory_fault back) scope cells host
  keeps_to_store kept lawful vouched back h clean n constants start =
      let run =
      at_stop back h (Some passed) (clear_before 0 passed) (halts_there (is_out back) passed) in
      let done = kept (stopped_at (Some passed)) None (world at_first no_environment)
      (world at_last no_environment) (answer_of back) clean n lawful constants (begun start) tt run in
      (done.0, done.1, done.2, by_result done.0 back done.3) where
        -- the host vouches for what it hands over
        begun : {clean : Bool} {n : ℕ} → WithinStore law clean n b.scope b.cells b.host →
            Contained law clean n b.scope b.cells b.host
        begun start = record {
          size = start.size;
          entries = start.entries;
          contents = start.contents;
          reaches = start.reaches;
          waits = start.waits;
          hands = λ s. vouched;
        }

        by_result : (k : ℕ) (back : Result (Result Dynamic EvalAltResult) OutOfMemory) →
            AnswerNames clean k (answer_of back) → ResultNames clean k (with_memory_fault back)
        by_result k (Ok (Ok v)) named = named
        by_result k (Ok (Err x)) named = named
        by_result k (Err e) named = named
