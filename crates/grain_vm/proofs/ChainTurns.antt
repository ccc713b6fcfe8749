-- One turn of the loop over what the walk of a chain calls: a function, or a native that asks for a call
-- first.
use Rattle.std.proofs.Common.{◌≡◌, ◌∙◌, ◌+◌, ℕ, List, [], Option, None, Bool, true, false, Result, refl, sym, ap, subst, arith}
use Rattle.std.specs.Prelude.{Some, slice_get}
use Rattle.grain_value.specs.declared.values.Dynamic.{Dynamic}
use Rattle.grain_value.specs.declared.values.Held.{Held}
use Rattle.grain_fault.specs.declared.faults.EvalAltResult.{EvalAltResult}
use Rattle.grain_fault.specs.declared.traces.Fault.{Fault}
use Rattle.grain_program.specs.View.{chain_of}
use Rattle.grain_program.specs.declared.code.functions.Function.{Function}
use Rattle.grain_program.specs.declared.code.instruction_set.Op.TheVariants as op
use Rattle.grain_global.specs.StepsView.{StepsView}
use Rattle.grain_means.specs.Worlds.{Frame, Place, Setup}
use Rattle.grain_means.specs.Rules.{instr}
use Rattle.grain_means.specs.Simulation.{Binds, Computation, Simulates, StopPersists, puts}
use Rattle.grain_means.specs.lemmas.Spreading.{Rooted}
use Rattle.grain_means.specs.lemmas.Stretches.{compose}
use Rattle.grain_chain.specs.Walking as walking
use Rattle.grain_chain.specs.Walking.{Did, Falls, Waits, is_want, lent, outcome_of, resumed, roots_at, roots_of, still, with_receiver}
use Rattle.grain_chain.specs.declared.requests.WalkAnswer.{WalkAnswer}
use Rattle.grain_chain.specs.declared.walks.Walk.{Walk}
use Rattle.grain_frame.specs.Abstraction.{Moment, abstraction, frame_in}
use Rattle.grain_frame.specs.Waiting.{apart_of}
use Rattle.grain_frame.specs.declared.activations.Activation.{Activation}
use Rattle.grain_frame.specs.declared.runs.Run.{Run}
use Rattle.grain_vm.specs.Asks.{IsMissed}
use Rattle.grain_vm.specs.Chains.{walked_frame}
use Rattle.grain_vm.specs.Driving.{SameFlag, beside}
use Rattle.grain_vm.specs.Methods.{CallsMethod, MethodOver, given_to}
use Rattle.grain_vm.specs.Seats.{Rests, Seat, first_held, walk_asking, walk_calling, walk_seated}
use Rattle.grain_vm.specs.Underway.{DrivesTo, after_chain, chain_left}
use Rattle.grain_vm.specs.WalkNatives.{NativeWalked}
use Rattle.grain_vm.specs.declared.chains.Walking.{Walking}
use Rattle.grain_vm.specs.declared.driving.AskingNative.{AskingNative}
use Rattle.grain_vm.specs.declared.driving.Driven.TheVariants as driven
use Rattle.grain_vm.specs.declared.methods.MethodCall.{MethodCall}
use Rattle.grain_vm.proofs.ChainLoops.{WalkedTo, only_retraced, still_under_way}
use Rattle.grain_vm.proofs.Driven.{kept_root, lent_stands, own_root, turned}
use Rattle.grain_vm.proofs.Lifted.{untraced, walk_called}

-- a walk that calls something has not ended for want of memory
still_going : (b : Bool) (p q : ℕ) → StopPersists b p false q → b ≡ false
still_going false p q h = refl
still_going true p q h = let no : false ≡ true = h.0 in absurd cc

-- what is over after two calls
pub over_then : {H : Type 0} (s t u : Run H) → MethodOver s t → MethodOver t u → MethodOver s u
over_then s t u one two = record {
  scope = two.scope ∙ one.scope;
  saved = two.saved ∙ one.saved;
  level = two.level ∙ one.level;
  receivers = two.receivers ∙ one.receivers;
  room = two.room ∙ one.room;
  noted = two.noted ∙ one.noted;
  outer = two.outer ∙ one.outer;
  operands = two.operands ∙ one.operands;
  cursors = two.cursors ∙ one.cursors;
  totals = two.totals ∙ one.totals;
  handlers = two.handlers ∙ one.handlers;
  later = omega (arith, one.later, two.later);
}

-- a call is over that was made where the trace was another, or none
pub over_driven : {H : Type 0} (s t u : Run H) (l : List Fault) →
    t ≡ record s { stacks = record s.stacks { trace = l } } → MethodOver t u → MethodOver s u
over_driven s t u l is over = over_then s t u (only_retraced s t l is) over

pub over_cut : {H : Type 0} (s t cut u : Run H) (l : List Fault) →
    t ≡ record s { stacks = record s.stacks { trace = l } } → cut ≡ untraced t → MethodOver cut u →
    MethodOver s u
over_cut s t cut u l is emptied over =
    over_driven s t u l is (over_driven t cut u [] emptied over)

-- One turn: the walk is driven to a call, that is done, and the walk goes on with its answer. What was left
-- of the walk where the call began is `calling`, in the run t1.
module _ {H : Type 0} (m : Setup H) (a : Moment H) (k next : ℕ) (w : Walking) (answer : WalkAnswer)
    (flag : Bool) (f' : Activation) (s1 t1 s2 : Run H) (n1 n2 n3 n4 : StepsView) (host1 host2 host3 : H)
    (v v2 : Walk) (x left : Option Held) (o : Result Dynamic EvalAltResult) (answer2 : WalkAnswer)
    (was : WalkedTo m a k next w answer flag f' s1 n1 host1) where
  abbrev pub frame : Option Place → Frame
  frame = walked_frame a.frame a.run (chain_of m.program k) a.frame.slot

  abbrev pub done : Rests H
  done = after_chain k next w.home w.was_read_only frame

  abbrev pub seat : Seat
  seat = was.way.seat

  abbrev pub from_here : Computation H
  from_here = chain_left m frame k next w.home w.was_read_only seat was.missed w.walk answer

  -- the walk was driven so far, and the call was done so
  abbrev pub Turns : Option (List Fault) → Computation H → Type 0
  Turns now calling =
      Simulates m (beside was.way.scope was.way.this s1 n1 host1) from_here false
      (beside was.way.scope was.way.this t1 n2 host2) calling
      × Simulates m (beside was.way.scope was.way.this t1 n2 host2) calling (is_want o)
      (beside was.way.scope was.way.this s2 n3 host3)
      (walk_seated k frame seat done now (resumed m.engine m.program v v.awaits (outcome_of o))
      (puts (with_receiver v x) (lent v x) left))

  turned_on : (now : Option (List Fault)) (calling : Computation H) → Turns now calling →
      Rooted (first_held seat).read_only (with_receiver v x) → Waits m.program v x → SameFlag x left →
      Did m.engine m.program s2.cells (with_receiver v left) 0
      (resumed m.engine m.program v v.awaits (outcome_of o)) v2 answer2 →
      StopPersists (is_want o) 0 (walking.is_out answer2) v2.marks →
      ((b : Bool) → Rooted b (roots_of v) → Rooted b (roots_at v2 answer2)) →
      n4 ≡ record n3 { passed = n3.passed + v2.marks } → walking.is_out answer ≡ false →
      Simulates m (abstraction a.run a.counts a.host)
      (λ m place x. instr m (op.Chain k) next (frame_in a.frame a.run place) x) (walking.is_out answer2)
      (beside was.way.scope was.way.this s2 n4 host3)
      (chain_left m frame k next w.home w.was_read_only seat now v2 answer2)
  turned_on now calling turns rooted waits same_flag did carries root marks going =
      compose
      (subst (λ (b : Bool). Simulates m (abstraction a.run a.counts a.host)
      (λ m place x. instr m (op.Chain k) next (frame_in a.frame a.run place) x) b
      (beside was.way.scope was.way.this s1 n1 host1) from_here) going was.same)
      (compose turns.0
      (subst (λ (l : StepsView). Simulates m (beside was.way.scope was.way.this t1 n2 host2) calling
      (walking.is_out answer2) (beside was.way.scope was.way.this s2 l host3)
      (chain_left m frame k next w.home w.was_read_only seat now v2 answer2)) (sym marks)
      (turned m k frame seat done was.way.scope was.way.this was.way.seated s2 now v o x
      left n2 n3 host2 host3 calling t1 v2 answer2 waits same_flag turns.1 did carries
      (kept_root v x left (first_held seat).read_only rooted)
      (root (first_held seat).read_only (own_root v x (first_held seat).read_only rooted)))) tt) tt

  -- the loop goes on; the walk was driven in the run t1, of which only the trace is another
  pub walked_on : (now : Option (List Fault)) (flag2 : Bool) (calling : Computation H) →
      Turns now calling → IsMissed flag2 s2.stacks.trace now → MethodOver s1 s2 →
      Rooted (first_held seat).read_only (with_receiver v x) → Waits m.program v x → SameFlag x left →
      Did m.engine m.program s2.cells (with_receiver v left) 0
      (resumed m.engine m.program v v.awaits (outcome_of o)) v2 answer2 →
      StopPersists (is_want o) 0 (walking.is_out answer2) v2.marks →
      ((b : Bool) → Rooted b (roots_of v) → Rooted b (roots_at v2 answer2)) →
      n4 ≡ record n3 { passed = n3.passed + v2.marks } →
      StopPersists (walking.is_out answer) n1.passed false n2.passed →
      Falls m.program v2 answer2 (still m.program v v.awaits) → n2.before ≡ n1.before →
      n3.before ≡ n2.before →
      WalkedTo m a k next (record w { walk = v2 }) answer2 flag2 f' s2 n4 host3
  unfolding still_under_way
  walked_on now flag2 calling turns missed over rooted waits same_flag did carries root marks carried
      falls before2 before3 = record {
        missed = now;
        is_missed = missed;
        way = still_under_way m.program a.run k next a.frame.slot w v2 s1 s2 over was.way;
        same = turned_on now calling turns rooted waits same_flag did carries root marks
            (still_going (walking.is_out answer) n1.passed n2.passed carried);
        rooted = root (first_held seat).read_only
            (own_root v x (first_held seat).read_only rooted);
        waits = (still m.program v v.awaits, falls);
        frame = was.frame;
        none = rw (over.level, over.receivers) was.none;
        before = ap (λ (l : StepsView). l.before) marks ∙ before3 ∙ before2 ∙ was.before;
      }

  -- what is known of the walk after the call
  abbrev pub WentOn : Type 0
  WentOn =
      Did m.engine m.program s2.cells (with_receiver v left) 0
      (resumed m.engine m.program v v.awaits (outcome_of o)) v2 answer2
      × StopPersists (is_want o) 0 (walking.is_out answer2) v2.marks
      × ((b : Bool) → Rooted b (roots_of v) → Rooted b (roots_at v2 answer2))
      × (n4 ≡ record n3 { passed = n3.passed + v2.marks })
      × Falls m.program v2 answer2 (still m.program v v.awaits)

  abbrev pub TurnedTo : Bool → Type 0
  TurnedTo flag2 = WalkedTo m a k next (record w { walk = v2 }) answer2 flag2 f' s2 n4 host3

  -- it was a function
  pub called_on : (c : MethodCall) (g : Function) (cut : Run H) (now : Option (List Fault)) →
      x ≡ c.receiver → cut ≡ untraced t1 →
      DrivesTo m (beside was.way.scope was.way.this s1 n1 host1) from_here k frame seat done now v
      (driven.Calls c) (beside was.way.scope was.way.this t1 n2 host2) →
      slice_get m.program.functions c.number ≡ Some g →
      Rooted (first_held seat).read_only (with_receiver v x) → Waits m.program v x →
      CallsMethod m c g cut n2 host2 o left s2 n3 host3 → SameFlag x left → MethodOver s1 s2 → WentOn →
      StopPersists (walking.is_out answer) n1.passed false n2.passed → n2.before ≡ n1.before →
      n3.before ≡ n2.before → TurnedTo false
  called_on c g cut now is emptied drives there rooted waits calls same_flag over went carried before2
      before3 =
      let go = resumed m.engine m.program v v.awaits in
      let calling : Computation H =
      walk_calling k frame seat done g c.pos (given_to c.arguments) (lent v x) go (with_receiver v x) in
      walked_on None false calling (
        subst (λ (y : Option Held). Simulates m (beside was.way.scope was.way.this s1 n1 host1)
            from_here false (beside was.way.scope was.way.this t1 n2 host2)
            (walk_calling k frame seat done g c.pos (given_to c.arguments) (lent v y) go
            (with_receiver v y))) (sym is) (drives g there),
        walk_called m c g t1 s2 n2 n3 host2 host3 o left
            (subst (λ (y : Run H). CallsMethod m c g y n2 host2 o left s2 n3 host3) emptied calls) k
            frame seat done (lent v x) go (with_receiver v x) was.way.scope was.way.this was.way.seated
            rooted (subst (λ (y : Option Held). Binds (with_receiver v x) (lent v x) y) is
            (lent_stands m.program v x waits)),
      ) refl over rooted waits same_flag went.0 went.1 went.2 went.3 carried went.4 before2 before3

  -- it was a native, which asked for a call first
  pub asked_on : (native : AskingNative) (named flag1 flag2 : Bool) (now : Option (List Fault)) →
      x ≡ apart_of native.lent → IsMissed flag1 t1.stacks.trace now →
      DrivesTo m (beside was.way.scope was.way.this s1 n1 host1) from_here k frame seat done now v
      (driven.Asks named native) (beside was.way.scope was.way.this t1 n2 host2) →
      Rooted (first_held seat).read_only (with_receiver v x) → Waits m.program v x →
      NativeWalked m named native t1 n2 host2 flag1 o left s2 n3 host3 flag2 → SameFlag x left →
      MethodOver s1 s2 → WentOn → StopPersists (walking.is_out answer) n1.passed false n2.passed →
      n2.before ≡ n1.before → n3.before ≡ n2.before → TurnedTo flag2
  asked_on native named flag1 flag2 now is missed drives rooted waits walked same_flag over went carried
      before2 before3 =
      let go = resumed m.engine m.program v v.awaits in
      let held = apart_of native.lent in
      let so = walked k frame drives.0 seat done now (lent v held) go (with_receiver v held)
      was.way.scope was.way.this drives.1 was.way.seated
      (subst (λ (y : Option Held). Rooted (first_held seat).read_only (with_receiver v y)) is rooted)
      (lent_stands m.program v held (subst (Waits m.program v) is waits)) missed in
      walked_on so.0 flag2
      (walk_asking k frame seat done native.asked drives.0 (lent v held) held named now go
      (with_receiver v held)) (
        drives.2,
        subst (λ (y : Option Held). Simulates m (beside was.way.scope was.way.this t1 n2 host2)
            (walk_asking k frame seat done native.asked drives.0 (lent v held) held named now go
            (with_receiver v held)) (is_want o) (beside was.way.scope was.way.this s2 n3 host3)
            (walk_seated k frame seat done so.0 (go (outcome_of o))
            (puts (with_receiver v y) (lent v y) left))) (sym is) so.2,
      ) so.1 over rooted waits same_flag went.0 went.1 went.2 went.3 carried went.4 before2 before3
