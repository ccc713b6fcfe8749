-- A native that asked for calls is over, and its fault is raised at a mark: where a walk called it, and where
-- another native called it back.
use Rattle.std.proofs.Common.{◌≡◌, ◌∙◌, ◌+◌, ◌≤◌, ◌&&◌, ℕ, List, Option, None, Bool, true, false, if◌then◌else◌, Result, Ok, Err, inl, inr, refl, sym, ap, subst, arith}
use Rattle.grain_value.specs.declared.values.Dynamic.{Dynamic}
use Rattle.grain_value.specs.declared.values.Held.{Held}
use Rattle.grain_fault.specs.Absences.{is_indexing_type}
use Rattle.grain_fault.specs.Problems.{InFunctionCall, InModule, NoMemory, Plain, Problem, SystemError, problem_of}
use Rattle.grain_fault.specs.declared.faults.EvalAltResult.{EvalAltResult}
use Rattle.grain_fault.specs.declared.faults.EvalAltResult.TheVariants as fault
use Rattle.grain_fault.specs.declared.traces.Fault.{Fault}
use Rattle.grain_global.specs.StepsView.{StepsView}
use Rattle.grain_means.specs.Worlds.{Act, Answer, Came, Failed, Setup, World}
use Rattle.grain_means.specs.Rules.{native_over}
use Rattle.grain_means.specs.Rules.InWorld.{failed_so, missed_by, trace_of}
use Rattle.grain_means.specs.Simulation.{NoStopWithin, StopPersists, StopsHere, puts, stopped, world}
use Rattle.grain_means.specs.lemmas.Spreading.{spread}
use Rattle.grain_means.specs.lemmas.Stretches.{compose, same}
use Rattle.grain_chain.specs.Walking.{is_want, no_memory, outcome_of}
use Rattle.grain_frame.specs.Waiting.{IsKept, apart_of, state_after}
use Rattle.grain_frame.specs.declared.runs.Run.{Run}
use Rattle.grain_frame.specs.declared.waiting.Loan.{Loan}
use Rattle.grain_frame.specs.declared.waiting.Loan.TheVariants as have
use Rattle.grain_vm.specs.Asks.{EndsNative, FinishesNative, IsMissed, NativeOver, RaisesInWalk, RaisesTraced, RaisesUnlessOut, has_missed, raised_to}
use Rattle.grain_vm.specs.Driving.{IsApart, SameFlag, beside}
use Rattle.grain_vm.specs.Methods.{MethodOver}
use Rattle.grain_vm.specs.Seats.{base_place, base_roots, goes_on_from, kept_by}
use Rattle.grain_vm.specs.WalkNatives.{NativeWalked}
use Rattle.grain_vm.specs.declared.driving.Answered.TheVariants as answered
use Rattle.grain_vm.specs.declared.driving.AskingNative.{AskingNative}
use Rattle.grain_vm.proofs.GivenUp.{gave_up}
use Rattle.grain_vm.proofs.Lifted.{untraced, walk_asked}
use Rattle.grain_vm.proofs.Missing.{missed_now, missed_same, trace_came}

is_memory : (x : Problem) → no_memory x ≡ true → x ≡ NoMemory
is_memory (Plain k p) is = absurd cc
is_memory (InFunctionCall f s x p) is = absurd cc
is_memory (InModule m x p) is = absurd cc
is_memory (SystemError s e) is = absurd cc
is_memory NoMemory is = refl

-- ---- the fault is raised

module _ {H : Type 0} (own : Option (List Fault)) (s : Run H) (n : StepsView) where
  -- what follows from the outcome, at any stop
  module _ (stop : Option ℕ) (r : Setup H) (at : r.stop ≡ stop) (h : Answer → World H → Act H)
      (w : World H) where
    abbrev here : World H
    here = record w { passed = n.passed }

    abbrev over : Answer → Act H
    over a = native_over (h (Failed NoMemory)) (λ v w1. h (Came v) w1) (failed_so r h) a here

    abbrev Follows : Answer → Result Dynamic EvalAltResult → StepsView → Type 0
    Follows a o' n' =
        NoStopWithin stop n.passed n'.passed → StopsHere (is_want o') stop n'.passed →
        over a ≡ h (outcome_of o') (record w { passed = n'.passed })

    raises_traced : (x : EvalAltResult) (o' : Result Dynamic EvalAltResult) (s' : Run H)
        (n' : StepsView) → no_memory (problem_of x) ≡ false → RaisesTraced x own s n o' s' n' →
        Follows (Failed (problem_of x)) o' n'
    raises_traced x o' s' n' wants (inl did) =
        rw (did.0, did.2) (λ clear halts.
        rw (wants, at, clear n.passed (omega arith) (omega arith)) refl)
    raises_traced x o' s' n' wants (inr did) =
        rw (did.0, did.2) (λ clear halts. rw (wants, at, halts) refl)

    raises_unless : (b : Bool) (x : EvalAltResult) (o' : Result Dynamic EvalAltResult) (s' : Run H)
        (n' : StepsView) → no_memory (problem_of x) ≡ b → RaisesUnlessOut b x own s n o' s' n' →
        Follows (Failed (problem_of x)) o' n'
    raises_unless true x o' s' n' wants did =
        rw (did.0, did.2) (λ clear halts.
        ap (λ (b : Bool). if b then h (Failed NoMemory) here else failed_so r h (problem_of x) here) wants
        ∙ ap (λ (y : Problem). h (Failed y) here) (sym (is_memory (problem_of x) wants)))
    raises_unless false x o' s' n' wants did = raises_traced x o' s' n' wants did

    pub raises_on : (o o' : Result Dynamic EvalAltResult) (s' : Run H) (n' : StepsView) →
        RaisesInWalk o own s n o' s' n' → Follows (outcome_of o) o' n'
    raises_on (Ok v) o' s' n' did = rw (did.0, did.2) (λ clear halts. refl)
    raises_on (Err x) o' s' n' did =
        raises_unless (no_memory (problem_of x)) x o' s' n' refl did

  -- the trace is then this
  abbrev traced : Answer → Run H
  traced a = record s { stacks = record s.stacks { trace = trace_of own a s.stacks.trace } }

  traced_unless : (b : Bool) (x : EvalAltResult) (o' : Result Dynamic EvalAltResult) (s' : Run H)
      (n' : StepsView) → no_memory (problem_of x) ≡ b → RaisesUnlessOut b x own s n o' s' n' →
      s' ≡ traced (outcome_of o')
  traced_unless true x o' s' n' wants did = rw (
    did.0,
    did.1,
    trace_came own (Failed (problem_of x)) s.stacks.trace
        (ap is_indexing_type (is_memory (problem_of x) wants)),
  ) refl
  traced_unless false x o' s' n' wants (inl did) = rw did.0 did.1
  traced_unless false x o' s' n' wants (inr did) =
      rw (did.0, did.1, trace_came own (Failed NoMemory) s.stacks.trace refl) refl

  pub traced_so : (o o' : Result Dynamic EvalAltResult) (s' : Run H) (n' : StepsView) →
      RaisesInWalk o own s n o' s' n' → s' ≡ traced (outcome_of o')
  traced_so (Ok v) o' s' n' did =
      rw (did.0, did.1, trace_came own (Came v) s.stacks.trace refl) refl
  traced_so (Err x) o' s' n' did = traced_unless (no_memory (problem_of x)) x o' s' n' refl did

  -- once memory is out, no mark is passed
  persists_unless : (b : Bool) (x : EvalAltResult) (o' : Result Dynamic EvalAltResult) (s' : Run H)
      (n' : StepsView) → no_memory (problem_of x) ≡ b → RaisesUnlessOut b x own s n o' s' n' →
      StopPersists b n.passed (is_want o') n'.passed
  persists_unless true x o' s' n' wants did = rw (did.0, did.2) (wants, refl)
  persists_unless false x o' s' n' wants did = tt

  pub persists_so : (o o' : Result Dynamic EvalAltResult) (s' : Run H) (n' : StepsView) →
      RaisesInWalk o own s n o' s' n' → StopPersists (is_want o) n.passed (is_want o') n'.passed
  persists_so (Ok v) o' s' n' did = tt
  persists_so (Err x) o' s' n' did = persists_unless (no_memory (problem_of x)) x o' s' n' refl did

  later_by : (j : ℕ) (n' : StepsView) → n' ≡ record n { passed = n.passed + j } →
      (n.passed ≤ n'.passed) × (n'.before ≡ n.before) × (n'.begun ≡ n.begun)
  later_by j n' is = rw is (omega arith, refl, refl)

  still_then : (n' : StepsView) → n' ≡ n →
      (n.passed ≤ n'.passed) × (n'.before ≡ n.before) × (n'.begun ≡ n.begun)
  still_then n' is = rw is (omega arith, refl, refl)

  later_unless : (b : Bool) (x : EvalAltResult) (o' : Result Dynamic EvalAltResult) (s' : Run H)
      (n' : StepsView) → RaisesUnlessOut b x own s n o' s' n' →
      (n.passed ≤ n'.passed) × (n'.before ≡ n.before) × (n'.begun ≡ n.begun)
  later_unless true x o' s' n' did = still_then n' did.2
  later_unless false x o' s' n' (inl did) = later_by 1 n' did.2
  later_unless false x o' s' n' (inr did) = still_then n' did.2

  pub later_so : (o o' : Result Dynamic EvalAltResult) (s' : Run H) (n' : StepsView) →
      RaisesInWalk o own s n o' s' n' → (n.passed ≤ n'.passed) × (n'.before ≡ n.before) × (n'.begun ≡ n.begun)
  later_so (Ok v) o' s' n' did = still_then n' did.2
  later_so (Err x) o' s' n' did = later_unless (no_memory (problem_of x)) x o' s' n' did

-- ---- in a walk

module _ {H : Type 0} (m : Setup H) (named flag : Bool) (native : AskingNative) (s s2 s3 : Run H)
    (n n2 n3 : StepsView) (host host2 : H) (own : Option (List Fault))
    (o o' : Result Dynamic EvalAltResult) (left : Option Held) (apart : IsApart native.lent) where
  pub native_walked : IsMissed (named && flag) s.stacks.trace own →
      EndsNative m native (untraced s) n host o left s2 n2 host2 →
      SameFlag (apart_of native.lent) left → RaisesInWalk o own s2 n2 o' s3 n3 →
      NativeWalked m named native s n host flag o' left s3 n3 host2 (named && has_missed (outcome_of o'))
  native_walked kept ends same_flag raised =
      λ k f g seat done before q go rs scope this at seated rooted lent missed.
      let now = kept_by named (missed_by (outcome_of o') s2.stacks.trace) in
      let its = missed_same named flag s.stacks.trace before own missed kept in
      let becomes = traced_so own s2 n2 o o' s3 n3 raised in (
        now,
        subst (λ (x : Run H). IsMissed (named && has_missed (outcome_of o')) x.stacks.trace now)
            (sym becomes) (missed_now named own (outcome_of o') s2.stacks.trace),
        compose
            (walk_asked k f seat done named before go m native s s2 n n2 host host2 o left ends apart
            same_flag g at q rs scope this seated rooted lent)
            (same (record {
              this = refl;
              order = (later_so own s2 n2 o o' s3 n3 raised).0;
              equal = λ stop clear halts u place.
                  raises_on own s2 n2 stop (stopped m stop) refl
                  (λ a w. goes_on_from k f seat done named before go u.roots (stopped m stop) place a
                  w)
                  (record (world (beside scope this s2 n2 host2) u) {
                    roots = spread (base_roots seat u.roots) (base_place seat place u.roots)
                        (puts rs q left);
                  }) o o' s3 n3 raised clear halts
                  ∙ rw (becomes, its, (later_so own s2 n2 o o' s3 n3 raised).2) refl;
            })) (persists_so own s2 n2 o o' s3 n3 raised),
      )

-- memory is out before its call could begin
pub native_gave_up : {H : Type 0} (m : Setup H) (named flag : Bool) (native : AskingNative)
    (s s' : Run H) (n : StepsView) (host host' : H) → s' ≡ untraced s →
    host' ≡ m.law.forget_after host native.asked.token →
    NativeWalked m named native s n host flag (Err fault.Memory) (apart_of native.lent) s' n host' false
native_gave_up m named flag native s s' n host host' is forgets =
    λ k f g seat done before q go rs scope this at seated rooted lent missed. (
      None,
      refl,
      rw (is, forgets)
          (gave_up m k f seat done named before go native s n host g q rs scope this lent),
    )

-- ---- wherever it was called

pub native_finished : {H : Type 0} (m : Setup H) (native : AskingNative) (s s2 s3 : Run H)
    (n n2 n3 : StepsView) (host host2 : H) (o o' : Result Dynamic EvalAltResult)
    (left : Option Held) → EndsNative m native s n host o left s2 n2 host2 →
    RaisesInWalk o None s2 n2 o' s3 n3 →
    FinishesNative m (answered.Asks native) s n host o' left s3 n3 host2
native_finished {H = H} m native s s2 s3 n n2 n3 host host2 o o' left ends raised =
    λ f heard scope x at.
    let becomes : s3 ≡ s2 = traced_so None s2 n2 o o' s3 n3 raised in
    compose (ends f (raised_to heard) scope x at)
    (same (record {
      this = rw becomes refl;
      order = (later_so None s2 n2 o o' s3 n3 raised).0;
      equal = λ stop clear halts u place.
          raises_on None s2 n2 stop (stopped m stop) refl
          (λ a w. heard (stopped m stop) place a w)
          (world (state_after native.lent left scope x s2 n2 host2) u) o o' s3 n3 raised clear halts
          ∙ rw (becomes, (later_so None s2 n2 o o' s3 n3 raised).2) refl;
    })) (persists_so None s2 n2 o o' s3 n3 raised)

-- ---- what is kept

pub kept_apart : {H : Type 0} (s : Run H) (l : Loan) → IsApart l → IsKept s l
kept_apart s have.Nothing apart = tt
kept_apart s (have.Target t) apart = absurd apart
kept_apart s (have.Cell c h) apart = absurd apart
kept_apart s (have.Apart h) apart = tt

-- a native that was lent nothing of the run leaves as much as a call
over_apart : {H : Type 0} (l : Loan) (s s' : Run H) → IsApart l → NativeOver l s s' → MethodOver s s'
over_apart have.Nothing s s' apart over = record {
  scope = over.scope;
  saved = over.saved;
  level = over.level;
  receivers = over.receivers;
  room = over.room;
  noted = over.noted;
  outer = over.outer;
  operands = over.operands;
  cursors = over.cursors;
  totals = over.totals;
  handlers = over.handlers;
  later = over.later;
}
over_apart (have.Target t) s s' apart over = absurd apart
over_apart (have.Cell c h) s s' apart over = absurd apart
over_apart (have.Apart h) s s' apart over = record {
  scope = over.scope;
  saved = over.saved;
  level = over.level;
  receivers = over.receivers;
  room = over.room;
  noted = over.noted;
  outer = over.outer;
  operands = over.operands;
  cursors = over.cursors;
  totals = over.totals;
  handlers = over.handlers;
  later = over.later;
}

retraced_over : {H : Type 0} (s s' : Run H) (t : List Fault) → MethodOver s s' →
    MethodOver s (record s' { stacks = record s'.stacks { trace = t } })
retraced_over s s' t over = record {
  scope = over.scope;
  saved = over.saved;
  level = over.level;
  receivers = over.receivers;
  room = over.room;
  noted = over.noted;
  outer = over.outer;
  operands = over.operands;
  cursors = over.cursors;
  totals = over.totals;
  handlers = over.handlers;
  later = over.later;
}

-- and so once its fault is raised
pub raised_over : {H : Type 0} (l : Loan) (s s2 s3 : Run H) (n2 n3 : StepsView)
    (own : Option (List Fault)) (o o' : Result Dynamic EvalAltResult) → IsApart l → NativeOver l s s2 →
    RaisesInWalk o own s2 n2 o' s3 n3 → MethodOver s s3
raised_over l s s2 s3 n2 n3 own o o' apart over raised =
    subst (MethodOver s) (sym (traced_so own s2 n2 o o' s3 n3 raised))
    (retraced_over s s2 (trace_of own (outcome_of o') s2.stacks.trace) (over_apart l s s2 apart over))

-- the same from a run that had a trace
pub walked_native_over : {H : Type 0} (l : Loan) (s s2 s3 : Run H) (n2 n3 : StepsView)
    (own : Option (List Fault)) (o o' : Result Dynamic EvalAltResult) → IsApart l →
    NativeOver l (untraced s) s2 → RaisesInWalk o own s2 n2 o' s3 n3 → MethodOver s s3
walked_native_over l s s2 s3 n2 n3 own o o' apart over raised =
    let did = raised_over l (untraced s) s2 s3 n2 n3 own o o' apart over raised in
    record {
      scope = did.scope;
      saved = did.saved;
      level = did.level;
      receivers = did.receivers;
      room = did.room;
      noted = did.noted;
      outer = did.outer;
      operands = did.operands;
      cursors = did.cursors;
      totals = did.totals;
      handlers = did.handlers;
      later = did.later;
    }
