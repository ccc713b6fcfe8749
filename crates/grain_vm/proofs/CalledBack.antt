-- A native that another one asks for, from its operation to its end.
use Rattle.std.proofs.Common.{◌≡◌, ◌∙◌, ◌<◌, ◌+◌, ◌-◌, ℕ, List, Option, Some, None, Result, Err, inr, refl, sym, ap, subst, arith}
use Rattle.grain_value.specs.declared.scopes.Entry.{Entry}
use Rattle.grain_value.specs.declared.values.Dynamic.{Dynamic}
use Rattle.grain_value.specs.declared.values.Held.{Held}
use Rattle.grain_fault.specs.declared.faults.EvalAltResult.{EvalAltResult}
use Rattle.grain_global.specs.StepsView.{StepsView}
use Rattle.grain_means.specs.Worlds.{Callback, Frame, Place, Setup}
use Rattle.grain_means.specs.Rules.{native_back_over}
use Rattle.grain_means.specs.Rules.Homes.{Home, InScope}
use Rattle.grain_means.specs.Simulation.{Simulates, stopped, world}
use Rattle.grain_means.specs.lemmas.Stretches.{compose, same}
use Rattle.grain_chain.specs.Walking.{is_want, outcome_of}
use Rattle.grain_chain.specs.declared.requests.Request.{Request}
use Rattle.grain_frame.specs.Targets.{home_of}
use Rattle.grain_frame.specs.Waiting.{asking, beside, state_after, state_with}
use Rattle.grain_frame.specs.declared.runs.Run.{Run}
use Rattle.grain_frame.specs.declared.targets.Target.TheVariants as to
use Rattle.grain_frame.specs.declared.waiting.Loan.{Loan}
use Rattle.grain_vm.specs.Asks.{FinishesNative, TookOne, raised_to}
use Rattle.grain_vm.specs.Backs.{BeginsBack, IsRequestBack, NativeCallsBack}
use Rattle.grain_vm.specs.Driving.{DoesRequest}
use Rattle.grain_vm.specs.Methods.{Hears, MethodOver}
use Rattle.grain_vm.specs.declared.driving.Answered.{Answered}
use Rattle.grain_vm.specs.declared.driving.Answered.TheVariants as answered
use Rattle.grain_vm.proofs.NativesBack.{back_asks, back_over, calls_native}
use Rattle.grain_vm.proofs.Taken.{took_both}
use Rattle.grain_vm.proofs.ToldSo.{out_still}

-- it was not called
pub back_refused : {H : Type 0} (m : Setup H) (r : Request) (s : Run H) (n : StepsView) (host : H)
    (e : EvalAltResult) (s' : Run H) (n' : StepsView) (host' : H) →
    BeginsBack m r.pos s n host (Some e) s' n' host' →
    NativeCallsBack m r s n host (Err e) s' n' host' × MethodOver s s' × TookOne m.engine s (Err e) s'
back_refused m r s n host e s' n' host' begins =
    ((λ c scope x heard is. same (begins.2 c scope x heard is.at)), begins.0, inr begins.1)

module _ {H : Type 0} (m : Setup H) (r : Request) (s : Run H) (n : StepsView) (host : H)
    (s1 : Run H) (n1 : StepsView) (host1 : H)
    (begins : BeginsBack m r.pos s n host None s1 n1 host1) where
  up : s1.level ≡ s.level + 1
  up = ap (λ (q : Run H). q.level) begins.0

  module _ (none : r.receiver ≡ None) (a : Answered) (n2 : StepsView) (host2 : H)
      (does : (home : Home) → DoesRequest m.law r home s1.cells n1 host1 a n2 host2)
      (o : Result Dynamic EvalAltResult) (left : Option Held) (s2 : Run H) (n3 : StepsView)
      (host3 : H) (finishes : FinishesNative m a s1 n2 host2 o left s2 n3 host3)
      (over : MethodOver s1 s2) (s3 : Run H) (is : s3 ≡ record s2 { level = s2.level - 1 }) where
    level_back : s2.level - 1 ≡ s.level
    level_back = omega (arith, over.level, up)

    -- what follows it one level down
    abbrev below_it : Hears H → Hears H
    below_it heard = λ m1 place. native_back_over m1 (heard m1 place) s.level

    module _ (c : Option Place → Callback) (asked : IsRequestBack m r c) (scope : List Entry)
        (x : Option Held) (heard : Hears H) where
      finished : (a : Answered) →
          ((home : Home) → DoesRequest m.law r home s1.cells n1 host1 a n2 host2) →
          FinishesNative m a s1 n2 host2 o left s2 n3 host3 →
          Simulates m (beside scope x s1 n1 host1)
          (calls_native m r c asked (below_it heard) scope x s1) (is_want o)
          (beside scope x s2 n3 host3)
          (λ m1 place w. native_back_over m1 (heard m1 place) s.level (outcome_of o) w)
      finished (answered.Over z) does fin =
          let home : Home = InScope 0 in
          rw (fin.0, fin.2, fin.3, fin.4) (same (back_over m r c asked (below_it heard) scope x s1 n1
          host1 home z.0 z.1 n2 host2 none (does home)))
      finished (answered.Asks native) does fin =
          let home : Home = InScope 0 in
          let did = back_asks m r c asked (below_it heard) scope x s1 n1 host1 home native n2 host2 none
          (does home) in
          let frame : Option Place → Frame = λ place. (c place).frame in
          compose (same did.2)
          (subst (λ (l : Loan). Simulates m (state_with l scope x s1 n2 host2)
          (asking (home_of to.This) s1 native.asked l frame (raised_to (below_it heard))) (is_want o)
          (state_after l left scope x s2 n3 host3)
          (λ m1 place w. native_back_over m1 (heard m1 place) s.level (outcome_of o) w)) did.0
          (fin frame (below_it heard) scope x (λ place. asked.at place ∙ sym did.1))) tt

      lands : Simulates m (beside scope x s2 n3 host3)
          (λ m1 place w. native_back_over m1 (heard m1 place) s.level (outcome_of o) w) (is_want o)
          (beside scope x s3 n3 host3) (λ m1 place w. heard m1 place (outcome_of o) w)
      lands = rw is (same (record {
        this = refl;
        order = omega arith;
        equal = λ stop clear halts u place.
            ap (λ (l : ℕ). heard (stopped m stop) place (outcome_of o)
            (record (world (beside scope x s2 n3 host3) u) { level = l })) (sym level_back);
      }))

    pub back_finished : NativeCallsBack m r s n host o s3 n3 host3 × MethodOver s s3
        × TookOne m.engine s o s3
    back_finished = (
      (λ c scope x heard asked.
          compose (same (begins.2 c scope x heard asked.at))
          (compose (finished c asked scope x heard a does finishes) (lands c asked scope x heard)
          (out_still (is_want o) n3.passed)) tt),
      record {
        scope = of (λ q. q.scope) ∙ (over.scope ∙ first (λ q. q.scope));
        saved = of (λ q. q.saved) ∙ (over.saved ∙ first (λ q. q.saved));
        level = of (λ q. q.level) ∙ level_back;
        receivers = of (λ q. q.receivers) ∙ (over.receivers ∙ first (λ q. q.receivers));
        room = of (λ q. q.stacks.room) ∙ (over.room ∙ first (λ q. q.stacks.room));
        noted = of (λ q. q.stacks.noted) ∙ (over.noted ∙ first (λ q. q.stacks.noted));
        outer = of (λ q. q.stacks.outer) ∙ (over.outer ∙ first (λ q. q.stacks.outer));
        operands = of (λ q. q.stacks.operands) ∙ (over.operands ∙ first (λ q. q.stacks.operands));
        cursors = of (λ q. q.stacks.cursors) ∙ (over.cursors ∙ first (λ q. q.stacks.cursors));
        totals = of (λ q. q.stacks.totals) ∙ (over.totals ∙ first (λ q. q.stacks.totals));
        handlers = of (λ q. q.stacks.handlers) ∙ (over.handlers ∙ first (λ q. q.stacks.handlers));
        later = omega (arith, more);
      },
      took_both m.engine s s3 o more begins.1,
    ) where
      of : {A : Type 0} (f : Run H → A) → f s3 ≡ f (record s2 { level = s2.level - 1 })
      of f = ap f is

      first : {A : Type 0} (f : Run H → A) →
          f s1 ≡ f (record s { count = s.count + 1; level = s.level + 1 })
      first f = ap f begins.0

      more : s.count < s3.count
      more = omega (arith, over.later, first (λ q. q.count), of (λ q. q.count))
