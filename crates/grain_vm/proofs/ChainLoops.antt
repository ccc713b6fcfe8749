-- The loop over what the walk of a chain calls: what holds at each turn, how it begins, and how the chain
-- ends.
use Rattle.std.proofs.Common.{◌≡◌, ◌∙◌, ◌-◌, ◌≤◌, ℕ, List, [], ◌∷◌, Option, None, Bool, false, Result, length, refl, sym, ap, subst, arith}
use Rattle.std.proofs.Math.Path.{fun_ext}
use Rattle.std.proofs.lemmas.List.{length-take-le}
use Rattle.grain_value.specs.Operands.{under}
use Rattle.grain_value.specs.declared.memory.OutOfMemory.{OutOfMemory}
use Rattle.grain_value.specs.declared.scopes.Entry.{Entry}
use Rattle.grain_value.specs.declared.values.Held.{Held}
use Rattle.grain_fault.specs.declared.traces.Fault.{Fault}
use Rattle.grain_program.specs.Chains.{chain_takes}
use Rattle.grain_program.specs.Effects.{takes_of}
use Rattle.grain_program.specs.View.{View, chain_of}
use Rattle.grain_program.specs.declared.code.chains.Chain.{Chain}
use Rattle.grain_program.specs.declared.code.instruction_set.Op.TheVariants as op
use Rattle.grain_global.specs.StepsView.{StepsView}
use Rattle.grain_means.specs.Worlds.{Frame, Place, Setup}
use Rattle.grain_means.specs.Rules.{instr}
use Rattle.grain_means.specs.Tasks.{Done}
use Rattle.grain_means.specs.Simulation.{Computation, Simulates, StopPersists}
use Rattle.grain_means.specs.lemmas.Spreading.{Rooted}
use Rattle.grain_means.specs.lemmas.Stretches.{compose}
use Rattle.grain_chain.specs.Walking as walking
use Rattle.grain_chain.specs.Walking.{Falls, roots_at}
use Rattle.grain_chain.specs.declared.requests.WalkAnswer.{WalkAnswer}
use Rattle.grain_chain.specs.declared.walks.Walk.{Walk}
use Rattle.grain_frame.specs.Abstraction.{ContinuesAt, Moment, PerformsBound, ReadyIn, abstraction, continuation, frame_in, is_out, moment}
use Rattle.grain_frame.specs.Receivers.{KeepsBound}
use Rattle.grain_frame.specs.declared.activations.Activation.{Activation}
use Rattle.grain_frame.specs.declared.runs.Progress.{Progress}
use Rattle.grain_frame.specs.declared.runs.Run.{Run}
use Rattle.grain_vm.specs.Chains.{CanPutBack, walked_frame}
use Rattle.grain_vm.specs.Asks.{IsMissed}
use Rattle.grain_vm.specs.Driving.{IgnoresChange, beside, end_is_out, end_of}
use Rattle.grain_vm.specs.Methods.{MethodOver, NoneAbove}
use Rattle.grain_vm.specs.Seats.{Seat, first_held, walk_seated}
use Rattle.grain_vm.specs.Underway.{BoundAway, Finishes, IsAway, UnderWay, Walks, after_chain, chain_left, over_frame}
use Rattle.grain_vm.specs.declared.chains.Walking.{Walking}
use Rattle.grain_vm.specs.declared.driving.WalkEnd.{WalkEnd}
use Rattle.grain_vm.specs.declared.roots.Home.{Home}
use Rattle.grain_vm.specs.declared.roots.Home.TheVariants as home
use Rattle.grain_vm.proofs.ChainEnds.{lands_whole, newest_kept, newest_there, none_newest}
use Rattle.grain_frame.specs.lemmas.Turns.{kept_bound}

-- what holds of the chain at each turn of the loop, against where it began
pub record WalkedTo {H : Type 0} (m : Setup H) (a : Moment H) (k next : ℕ) (w : Walking)
    (answer : WalkAnswer) (flag : Bool) (f' : Activation) (s' : Run H) (n' : StepsView) (host' : H) :
    Type 0 where
  pub missed : Option (List Fault)
  pub is_missed : IsMissed flag s'.stacks.trace missed
  pub way : UnderWay m.program a.run k next a.frame.slot w s'
  pub same : Simulates m (abstraction a.run a.counts a.host)
      (λ m place v. instr m (op.Chain k) next (frame_in a.frame a.run place) v) (walking.is_out answer)
      (beside way.scope way.this s' n' host')
      (chain_left m (walked_frame a.frame a.run (chain_of m.program k) a.frame.slot) k next w.home
      w.was_read_only way.seat missed w.walk answer)
  pub rooted : Rooted (first_held way.seat).read_only (roots_at w.walk answer)
  pub waits : (j : ℕ) × Falls m.program w.walk answer j
  pub frame : f' ≡ record a.frame { slot = f'.slot }
  pub none : NoneAbove s'.level s'.receivers
  pub before : n'.before ≡ a.counts.before

-- the root is still away after a call
pub still_away : {H : Type 0} (a : Home) (b : Bool) (seat : Seat) (scope : List Entry)
    (this : Option Held) (s s' : Run H) → s'.scope ≡ s.scope → s'.level ≡ s.level →
    s'.receivers ≡ s.receivers → IsAway a b seat scope this s → IsAway a b seat scope this s'
still_away (home.Entry i) b seat scope this s s' es el er is = rw (es, el, er) is
still_away (home.Cell j) b seat scope this s s' es el er is = rw (es, el, er) is
still_away home.Operand b seat scope this s s' es el er is = rw (es, el, er) is
still_away home.This b seat scope this s s' es el er is = rw es is

pub still_back : {H : Type 0} (a : Home) (s s' : Run H) → s'.scope ≡ s.scope →
    s'.level ≡ s.level → s'.receivers ≡ s.receivers → CanPutBack s a → CanPutBack s' a
still_back (home.Entry i) s s' es el er is = rw es is
still_back (home.Cell j) s s' es el er is = tt
still_back home.Operand s s' es el er is = tt
still_back home.This s s' es el er is = rw (el, er) is

pub still_bound : {H : Type 0} (a : Home) (s t t' : Run H) → t'.receivers ≡ t.receivers →
    BoundAway a s t → BoundAway a s t'
still_bound (home.Entry i) s t t' er is = er ∙ is
still_bound (home.Cell j) s t t' er is = er ∙ is
still_bound home.Operand s t t' er is = er ∙ is
still_bound home.This s t t' er is = (is.0, er ∙ is.1)

-- the walk is under way still after a call, whatever the walk itself has become
unfoldable pub still_under_way : {H : Type 0} (p : View) (s : Run H) (k next : ℕ) (blamed : Option ℕ)
    (w : Walking) (v : Walk) (t t' : Run H) → MethodOver t t' → UnderWay p s k next blamed w t →
    UnderWay p s k next blamed (record w { walk = v }) t'
still_under_way p s k next blamed w v t t' over way = record {
  seat = way.seat;
  scope = way.scope;
  this = way.this;
  index = way.index;
  goes_on = way.goes_on;
  blames = way.blames;
  away = still_away w.home w.was_read_only way.seat way.scope way.this t t' over.scope over.level
      over.receivers way.away;
  seated = way.seated;
  back = still_back w.home t t' over.scope over.level over.receivers way.back;
  bound = still_bound w.home s t t' over.receivers way.bound;
  long = ap (λ (l : List Entry). length l) over.scope ∙ way.long;
  operands = over.operands ∙ way.operands;
  cursors = over.cursors ∙ way.cursors;
  totals = over.totals ∙ way.totals;
  handlers = over.handlers ∙ way.handlers;
  room = over.room ∙ way.room;
  noted = over.noted ∙ way.noted;
  outer = over.outer ∙ way.outer;
  saved = over.saved ∙ way.saved;
  level = over.level ∙ way.level;
  later = omega (arith, over.later, way.later);
}

-- ---- how the loop begins

-- each `this` of the frames around is as it was
none_away : {H : Type 0} (a : Home) (s s' : Run H) → BoundAway a s s' → s'.level ≡ s.level →
    NoneAbove s.level s.receivers → NoneAbove s'.level s'.receivers
none_away (home.Entry i) s s' bound level none = rw (level, bound) none
none_away (home.Cell j) s s' bound level none = rw (level, bound) none
none_away home.Operand s s' bound level none = rw (level, bound) none
none_away home.This s s' bound level none =
    rw (level, bound.1) (none_newest s.level s.receivers bound.0 none)

kept_away : {H : Type 0} (a : Home) (s s' : Run H) → BoundAway a s s' → s'.level ≡ s.level →
    CanPutBack s' a → KeepsBound s.level s.receivers s'.receivers
kept_away (home.Entry i) s s' bound level back = rw bound (refl, refl)
kept_away (home.Cell j) s s' bound level back = rw bound (refl, refl)
kept_away home.Operand s s' bound level back = rw bound (refl, refl)
kept_away home.This s s' bound level back =
    rw bound.1 (newest_kept s.level s.receivers bound.0
    (sym (newest_there s.level s.receivers bound.0) ∙ (rw (level, bound.1) at back)))

module _ {H : Type 0} (m : Setup H) (a : Moment H) (k next : ℕ) where
  abbrev instruction : Computation H
  instruction q place v = instr q (op.Chain k) next (frame_in a.frame a.run place) v

  pub walked_first : (w : Walking) (answer : WalkAnswer) (f' : Activation) (s' : Run H)
      (n' : StepsView) → Walks m a instruction k next a.frame.slot w answer s' n' →
      (j : ℕ) × Falls m.program w.walk answer j → f' ≡ record a.frame { slot = f'.slot } →
      NoneAbove a.run.level a.run.receivers → WalkedTo m a k next w answer false f' s' n' a.host
  walked_first w answer f' s' n' walks waits frame none = record {
    missed = None;
    is_missed = refl;
    way = walks.under_way;
    same = walks.same;
    rooted = walks.rooted;
    waits = waits;
    frame = frame;
    none = none_away w.home a.run s' walks.under_way.bound walks.under_way.level none;
    before = walks.before;
  }

-- ---- how it ends

-- the frame in which the walk ends is the one in which it began, without the chain's operands
over_same : {H : Type 0} (f f1 : Activation) (s s1 : Run H) (c : Chain) (blamed before x : Option ℕ) →
    f1 ≡ record f { slot = x } → s1.stacks.operands ≡ under (chain_takes c) s.stacks.operands →
    s1.stacks.cursors ≡ s.stacks.cursors → s1.stacks.totals ≡ s.stacks.totals →
    s1.stacks.handlers ≡ s.stacks.handlers → before ≡ blamed →
    over_frame f1 s1 before ≡ walked_frame f s c blamed
over_same f f1 s s1 c blamed before x frame operands cursors totals handlers blames =
    fun_ext (λ place. rw (frame, operands, cursors, totals, handlers, blames) refl)

-- what follows a walk does not depend on whether something changed
pub after_blind : {H : Type 0} (k next : ℕ) (a : Home) (b : Bool) (g : Option Place → Frame) →
    IgnoresChange (after_chain {H = H} k next a b g)
after_blind k next (home.Entry i) b g = λ m place n v changed w. refl
after_blind k next (home.Cell j) b g = λ m place n v changed w. refl
after_blind k next home.Operand b g = λ m place n v changed w. refl
after_blind k next home.This b g = λ m place n v changed w. refl

-- only the trace is another
pub only_retraced : {H : Type 0} (s t : Run H) (l : List Fault) →
    t ≡ record s { stacks = record s.stacks { trace = l } } → MethodOver s t
only_retraced s t l is = rw is (record {
  scope = refl;
  saved = refl;
  level = refl;
  receivers = refl;
  room = refl;
  noted = refl;
  outer = refl;
  operands = refl;
  cursors = refl;
  totals = refl;
  handlers = refl;
  later = omega arith;
})

module _ {H : Type 0} (m : Setup H) (a : Moment H) (k next : ℕ) (w : Walking) (f1 f' : Activation)
    (s1 s' : Run H) (n2 n' : StepsView) (host2 : H) (v : Walk) (end : WalkEnd)
    (r : Result Progress OutOfMemory) (missed : Option (List Fault)) (frame : f1 ≡ record a.frame {
      slot = f1.slot;
    })
    (way : UnderWay m.program a.run k next a.frame.slot w s1) where
  abbrev chain_here : Chain
  chain_here = chain_of m.program k

  abbrev began : Option Place → Frame
  began = walked_frame a.frame a.run chain_here a.frame.slot

  abbrev follows : ℕ → ℕ → (Option Place → Frame) → Computation H
  follows j to g =
      walk_seated j g way.seat (after_chain j to w.home w.was_read_only g) missed (Done (end_of end))
      (v.trail.here ∷ [])

  same_rest : follows w.index w.next (over_frame f1 s1 w.blamed) ≡ follows k next began
  same_rest =
      ap (λ (g : Option Place → Frame). follows w.index w.next g)
      (over_same a.frame f1 a.run s1 chain_here a.frame.slot w.blamed f1.slot frame
      way.operands way.cursors way.totals way.handlers way.blames)
      ∙ ap (λ (j : ℕ). follows j w.next began) way.index
      ∙ ap (λ (to : ℕ). follows k to began) way.goes_on

  long_after : chain_takes chain_here ≤ length a.run.stacks.operands →
      length s1.stacks.operands ≡ length a.run.stacks.operands - chain_takes chain_here
  long_after enough =
      ap (λ (l : List Held). length l) way.operands
      ∙ length-take-le (length a.run.stacks.operands - chain_takes chain_here) a.run.stacks.operands
      (omega arith)

  over_here : Simulates m (abstraction a.run a.counts a.host)
      (λ m place x. instr m (op.Chain k) next (frame_in a.frame a.run place) x) (end_is_out end)
      (beside way.scope way.this s1 n2 host2) (follows k next began) →
      v.trail.here.read_only ≡ (first_held way.seat).read_only →
      Finishes m f1 s1 n2 host2 (record w { walk = v }) end r f' s' n' →
      StopPersists (end_is_out end) n2.passed (is_out r) n'.passed → n2.before ≡ a.counts.before →
      ReadyIn m.program a.frame a.run (op.Chain k) next →
      PerformsBound m a (op.Chain k) next r (moment f' s' n' host2)
  over_here reached rooted ends carries before ready = record {
    same = compose reached
        (subst (λ (x : Computation H). Simulates m (beside way.scope way.this s1 n2 host2) x
        (is_out r) (abstraction s' n' host2) (continuation r s'.fault (frame_in f' s'))) same_rest
        (ends.same way.seat way.scope way.this missed way.away way.seated rooted))
        carries;
    kept = record {
      chunk = ends.kept.chunk ∙ ap (λ (f : Activation). f.chunk) frame;
      base = ends.kept.base ∙ base_first;
      scope = rw (← base_first) ends.kept.scope;
      room = ends.kept.room ∙ way.room;
      noted = ends.kept.noted ∙ way.noted;
      outer = ends.kept.outer ∙ way.outer;
      saved = ends.kept.saved ∙ way.saved;
      level = ends.kept.level ∙ way.level;
      this = kept_bound a.run.receivers s1.receivers s'.receivers way.level
          (kept_away w.home a.run s1 way.bound way.level way.back) ends.kept.this;
      later = omega (arith, ends.kept.later, way.later);
    };
    lands = lands_whole m.engine a.run s1 s' a.frame f1 f' (next ∷ []) (takes_of m.program (op.Chain k))
        r way.later (ap (λ (f : Activation). f.address) frame)
        (omega (arith, long_after (omega (arith, ready.operands))))
        way.handlers way.cursors
        (subst (λ (to : ℕ). ContinuesAt m.engine s1 f1 s' f' (to ∷ []) 0 1 s1.stacks.handlers r)
        way.goes_on ends.lands);
    before = ends.before ∙ before;
  } where
    base_first : f1.base ≡ a.frame.base
    base_first = ap (λ (f : Activation). f.base) frame

-- the walk was driven to its end, in the run t1, of which only the trace is another
pub walked_over : {H : Type 0} (m : Setup H) (a : Moment H) (k next : ℕ) (w : Walking)
    (answer : WalkAnswer) (flag : Bool) (f1 f' : Activation) (s1 t1 s' : Run H)
    (n1 n2 n' : StepsView) (host1 host2 : H) (v : Walk) (end : WalkEnd)
    (r : Result Progress OutOfMemory) (missed : Option (List Fault))
    (was : WalkedTo m a k next w answer flag f1 s1 n1 host1) → MethodOver s1 t1 →
    Simulates m (beside was.way.scope was.way.this s1 n1 host1)
    (chain_left m (walked_frame a.frame a.run (chain_of m.program k) a.frame.slot) k next w.home
    w.was_read_only was.way.seat was.missed w.walk answer) (end_is_out end)
    (beside was.way.scope was.way.this t1 n2 host2)
    (walk_seated k (walked_frame a.frame a.run (chain_of m.program k) a.frame.slot) was.way.seat
    (after_chain k next w.home w.was_read_only
    (walked_frame a.frame a.run (chain_of m.program k) a.frame.slot)) missed (Done (end_of end))
    (v.trail.here ∷ [])) →
    StopPersists (walking.is_out answer) n1.passed (end_is_out end) n2.passed →
    v.trail.here.read_only ≡ (first_held was.way.seat).read_only →
    Finishes m f1 t1 n2 host2 (record w { walk = v }) end r f' s' n' →
    StopPersists (end_is_out end) n2.passed (is_out r) n'.passed → n2.before ≡ n1.before →
    ReadyIn m.program a.frame a.run (op.Chain k) next →
    PerformsBound m a (op.Chain k) next r (moment f' s' n' host2)
unfolding still_under_way
walked_over m a k next w answer flag f1 f' s1 t1 s' n1 n2 n' host1 host2 v end r missed was over drives
    carries rooted ends carries_on before ready =
    over_here m a k next w f1 f' t1 s' n2 n' host2 v end r missed was.frame
    (still_under_way m.program a.run k next a.frame.slot w w.walk s1 t1 over was.way)
    (compose was.same drives carries) rooted ends carries_on (before ∙ was.before) ready
