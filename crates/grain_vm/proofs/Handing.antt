-- A walk that was driven hands on what it calls: a function, or a native that asks for a call first.
use Rattle.std.proofs.Common.{◌≡◌, ℕ, ◌<◌, List, [], Option, Some, None, Bool, false, refl, sym, subst, arith}
use Rattle.std.specs.Prelude.{slice_get}
use Rattle.grain_value.specs.declared.values.Held.{Held}
use Rattle.grain_value.specs.declared.scopes.Entry.{Entry}
use Rattle.grain_fault.specs.declared.traces.Fault.{Fault}
use Rattle.grain_program.specs.declared.code.functions.Function.{Function}
use Rattle.grain_global.specs.StepsView.{StepsView}
use Rattle.grain_means.specs.Worlds.{Frame, Place, Setup}
use Rattle.grain_means.specs.Simulation.{Simulates, puts, world}
use Rattle.grain_means.specs.lemmas.Spreading.{Rooted}
use Rattle.grain_means.specs.lemmas.Stretches.{compose, same}
use Rattle.grain_chain.specs.Walking.{Waits, lent, resumed, roots_at, still, with_receiver}
use Rattle.grain_chain.specs.declared.requests.Request.{Request}
use Rattle.grain_chain.specs.declared.requests.WalkAnswer.{WalkAnswer}
use Rattle.grain_chain.specs.declared.requests.WalkAnswer.TheVariants as answer
use Rattle.grain_chain.specs.declared.walks.Walk.{Walk}
use Rattle.grain_frame.specs.Natives.{IsAt}
use Rattle.grain_frame.specs.Waiting.{apart_of}
use Rattle.grain_frame.specs.declared.runs.Run.{Run}
use Rattle.grain_vm.specs.Asks.{IsMissed}
use Rattle.grain_vm.specs.Driving.{Answers, IsApart, SameFlag, beside, having, left_of}
use Rattle.grain_vm.specs.Methods.{CallsFunction, HasFunction, given_to}
use Rattle.grain_vm.specs.Seats.{Rests, Seat, Seated, first_held, walk_asking, walk_calling}
use Rattle.grain_vm.specs.declared.driving.Answered.TheVariants as answered
use Rattle.grain_vm.specs.declared.driving.AskingNative.{AskingNative}
use Rattle.grain_vm.specs.declared.methods.MethodCall.{MethodCall}
use Rattle.grain_vm.proofs.Driven.{Driving, kept_root, lent_left, lent_stands, stands, waits_still}
use Rattle.grain_vm.proofs.Invoking.{asks_function}

-- what is lent again stands at the walk's place too
lent_still : (w : Walk) (x z : Option Held) → SameFlag x z → lent w x ≡ lent w z
lent_still w None None flag = refl
lent_still w None (Some z) flag = absurd flag
lent_still w (Some x) None flag = absurd flag
lent_still w (Some x) (Some z) flag = refl

module _ {H : Type 0} (m : Setup H) (s : Run H) (n : StepsView) (host : H) (w : Walk) (flag : Bool)
    (a : WalkAnswer) (s' : Run H) (n' : StepsView) (host' : H) (v : Walk) (flag' : Bool) (r : Request)
    (was : Driving m s s' n n' host host' w v flag flag' a (answer.Need r)) where
  -- ---- the walk calls a function

  module _ (c : MethodCall) (calls : CallsFunction m.program r c) where
    -- to say which function it is changes nothing
    pub calls_so : (s2 : Run H) (n2 : StepsView) (host2 : H) → s2 ≡ s' → n2 ≡ n' → host2 ≡ host' →
        (k : ℕ) (f : Option Place → Frame) (seat : Seat) (done : Rests H)
        (missed : Option (List Fault)) (scope : List Entry) (this : Option Held)
        (seated : Seated seat this) → Rooted (first_held seat).read_only (roots_at w a) →
        IsMissed flag s.stacks.trace missed →
        (now : Option (List Fault)) × IsMissed flag' s2.stacks.trace now
        × ((g : Function) → slice_get m.program.functions c.number ≡ Some g →
        Simulates m (beside scope this s n host)
        (stands m k f seat done scope this seated s missed w a) false (beside scope this s2 n2 host2)
        (walk_calling k f seat done g c.pos (given_to c.arguments) (lent v c.receiver)
        (resumed m.engine m.program v v.awaits) (with_receiver v c.receiver)))
    calls_so s2 n2 host2 es en eh k f seat done missed scope this seated root is =
        let so = was.same k f seat done missed scope this seated root is in
        rw (es, en, eh, calls.position, calls.receiver) (
          so.0,
          so.1,
          λ g there.
              compose so.2
              (same (record {
                this = refl;
                order = omega arith;
                equal = λ stop clear halts u place.
                    asks_function m k f seat done so.0 r (lent v r.receiver)
                    (resumed m.engine m.program v v.awaits) (with_receiver v r.receiver) r.what g c.number
                    c.arguments calls.asks there stop place (world (beside scope this s' n' host') u);
              })) tt,
        )

    pub calls_rooted : (b : Bool) → Rooted b (roots_at w a) → Rooted b (with_receiver v c.receiver)
    calls_rooted b root = rw calls.receiver (was.rooted b root)

    pub calls_waits : HasFunction m.program c × Waits m.program v c.receiver
        × (still m.program v v.awaits < left_of m.program w a)
    calls_waits = (calls.there, rw calls.receiver was.falls.0, omega (arith, was.fewer))

  -- ---- the walk calls a native, which asks for a call first

  module _ (native : AskingNative) (named : Bool)
      (same_flag : SameFlag r.receiver (apart_of native.lent)) where
    pub asks_so : (s2 : Run H) (n2 : StepsView) (host2 : H) → s2 ≡ s' →
        Answers m named (having r.what r) r.receiver s' n' host' (answered.Asks native) s2 n2 host2 →
        (k : ℕ) (f : Option Place → Frame) (seat : Seat) (done : Rests H)
        (missed : Option (List Fault)) (scope : List Entry) (this : Option Held)
        (seated : Seated seat this) → Rooted (first_held seat).read_only (roots_at w a) →
        IsMissed flag s.stacks.trace missed →
        (now : Option (List Fault)) × IsMissed flag' s2.stacks.trace now
        × ((g : Option Place → Frame) × IsAt m g native.pos
        × Simulates m (beside scope this s n host)
        (stands m k f seat done scope this seated s missed w a) false (beside scope this s2 n2 host2)
        (walk_asking k f seat done native.asked g (lent v (apart_of native.lent))
        (apart_of native.lent) named now (resumed m.engine m.program v v.awaits)
        (with_receiver v (apart_of native.lent))))
    asks_so s2 n2 host2 es performs k f seat done missed scope this seated root is =
        let so = was.same k f seat done missed scope this seated root is in
        let left = apart_of native.lent in
        let asks = performs k f seat done so.0 (lent v r.receiver) (resumed m.engine m.program v v.awaits)
        (with_receiver v r.receiver) scope this seated (was.rooted (first_held seat).read_only root)
        (lent_stands m.program v r.receiver was.falls.0) in (
          so.0,
          subst (λ (x : Run H). IsMissed flag' x.stacks.trace so.0) (sym es) so.1,
          (
            asks.0,
            asks.1,
            compose so.2
                (compose
                (subst (λ (us : List Held). Simulates m (beside scope this s' n' host')
                (stands m k f seat done scope this seated s' so.0 v (answer.Need r)) false
                (record (beside scope this s2 n2 host2) { trace = [] })
                (walk_asking k f seat done native.asked asks.0 (lent v left) left named so.0
                (resumed m.engine m.program v v.awaits) us))
                (lent_left m.program v r.receiver left was.falls.0 same_flag)
                (subst (λ (q : Option Place). Simulates m (beside scope this s' n' host')
                (stands m k f seat done scope this seated s' so.0 v (answer.Need r)) false
                (record (beside scope this s2 n2 host2) { trace = [] })
                (walk_asking k f seat done native.asked asks.0 q left named so.0
                (resumed m.engine m.program v v.awaits)
                (puts (with_receiver v r.receiver) (lent v r.receiver) left)))
                (lent_still v r.receiver left same_flag) asks.2))
                (same (record {
                  this = refl;
                  order = omega arith;
                  equal = λ stop clear halts u place. refl;
                })) tt) tt,
          ),
        )

    pub asks_rooted : (b : Bool) → Rooted b (roots_at w a) →
        Rooted b (with_receiver v (apart_of native.lent))
    asks_rooted b root = kept_root v r.receiver (apart_of native.lent) b (was.rooted b root)

    pub asks_waits : IsApart native.lent → IsApart native.lent
        × Waits m.program v (apart_of native.lent)
        × (still m.program v v.awaits < left_of m.program w a)
    asks_waits apart = (
      apart,
      waits_still m.program v r.receiver (apart_of native.lent) was.falls.0 same_flag,
      omega (arith, was.fewer, was.falls.1),
    )
