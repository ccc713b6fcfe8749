-- A chain whose walk is over: its root is back, and the end of its instruction is left.
use Rattle.std.proofs.Common.{◌≡◌, ◌∙◌, ◌-◌, ◌≤◌, ℕ, List, [], ◌∷◌, Option, Some, None, Bool, true, false, if◌then◌else◌, Result, Ok, Err, inl, inr, length, refl, ap, subst, arith}
use Rattle.std.specs.Prelude.{◌==◌, is_some}
use Rattle.grain_value.specs.declared.memory.OutOfMemory.{OutOfMemory}
use Rattle.grain_value.specs.declared.values.Held.{Held}
use Rattle.grain_global.specs.StepsView.{StepsView}
use Rattle.grain_global.specs.declared.engines.Engine.{Engine}
use Rattle.grain_stack.specs.Views.{StacksView}
use Rattle.grain_means.specs.Worlds.{Setup}
use Rattle.grain_means.specs.Tasks.{Walked}
use Rattle.grain_means.specs.Rules.Chains.{chain_over}
use Rattle.grain_means.specs.Simulation.{Simulates}
use Rattle.grain_means.specs.lemmas.Scopes.{length_set_held}
use Rattle.grain_means.specs.lemmas.Stretches.{compose, same}
use Rattle.grain_frame.specs.Abstraction.{ContinuesAt, Implements, KeepsFrame, Progresses, abstraction, continuation, frame_in, is_out, moment}
use Rattle.grain_frame.specs.Receivers.{KeepsBound, bound_at, with_newest}
use Rattle.grain_frame.specs.declared.activations.Activation.{Activation}
use Rattle.grain_frame.specs.declared.receivers.Bound.{Bound}
use Rattle.grain_frame.specs.declared.runs.Progress.{Progress}
use Rattle.grain_frame.specs.declared.runs.Progress.TheVariants as progress
use Rattle.grain_frame.specs.declared.runs.Run.{Run}
use Rattle.grain_vm.specs.Chains.{CanPutBack, with_root}
use Rattle.grain_vm.specs.Driving.{end_of}
use Rattle.grain_vm.specs.Methods.{NoneAbove}
use Rattle.grain_vm.specs.Underway.{Finishes, over_frame}
use Rattle.grain_vm.specs.declared.chains.Walking.{Walking}
use Rattle.grain_vm.specs.declared.driving.WalkEnd.{WalkEnd}
use Rattle.grain_vm.specs.declared.roots.Home.{Home}
use Rattle.grain_vm.specs.declared.roots.Home.TheVariants as home
use Rattle.grain_vm.proofs.Finishing.{finished}
use Rattle.grain_frame.specs.lemmas.Turns.{kept_bound}

-- ---- the newest `this` was written

pub newest_there : (level : ℕ) (bs : List Bound) (h : Held) →
    is_some (bound_at level (with_newest h bs)) ≡ is_some (bound_at level bs)
newest_there level [] h = refl
newest_there level (b ∷ bs) h = by (b.level == level) where
  by : (q : Bool) → is_some (if q then Some h else None) ≡ is_some (if q then Some b.held else None)
  by true = refl
  by false = refl

pub newest_kept : (level : ℕ) (bs : List Bound) (h : Held) → is_some (bound_at level bs) ≡ true →
    KeepsBound level bs (with_newest h bs)
newest_kept level [] h there = absurd cc
newest_kept level (b ∷ bs) h there = by (b.level == level) there where
  by : (q : Bool) → is_some (if q then Some b.held else None) ≡ true →
      ((if q then bs else record b { held = h } ∷ bs) ≡ (if q then bs else b ∷ bs))
      × (is_some (if q then Some h else None) ≡ is_some (if q then Some b.held else None))
  by true there = (refl, refl)
  by false there = absurd cc

pub none_newest : (level : ℕ) (bs : List Bound) (h : Held) → NoneAbove level bs →
    NoneAbove level (with_newest h bs)
none_newest level [] h none = none
none_newest level (b ∷ bs) h none = none

-- ---- a run that differs in a part

-- what is kept from a run on that has the same stacks
pub kept_over : {H : Type 0} (f f' : Activation) (s s1 s' : Run H) → s1.stacks ≡ s.stacks →
    s1.saved ≡ s.saved → s1.level ≡ s.level → s1.count ≡ s.count →
    KeepsBound s.level s.receivers s1.receivers → KeepsFrame f s1 f' s' → KeepsFrame f s f' s'
kept_over f f' s s1 s' stacks saved level count bound kept = record {
  chunk = kept.chunk;
  base = kept.base;
  scope = kept.scope;
  room = kept.room ∙ ap (λ (q : StacksView). q.room) stacks;
  noted = kept.noted ∙ ap (λ (q : StacksView). q.noted) stacks;
  outer = kept.outer ∙ ap (λ (q : StacksView). q.outer) stacks;
  saved = kept.saved ∙ saved;
  level = kept.level ∙ level;
  this = kept_bound s.receivers s1.receivers s'.receivers level bound kept.this;
  later = omega (arith, kept.later, count);
}

progresses_from : {H : Type 0} (engine : Engine) (s s1 s' : Run H) (f f1 f' : Activation) →
    s.count ≤ s1.count → f1.address ≡ f.address → Progresses engine s1 f1 s' f' →
    Progresses engine s f s' f'
progresses_from engine s s1 s' f f1 f' later address (inl taken) =
    inl (omega (arith, taken.0, later), omega (arith, taken.1, later))
progresses_from engine s s1 s' f f1 f' later address (inr further) =
    inr (omega (arith, further.0, later), omega (arith, further.1, address))

-- where a run led, from a run on that has these operands more
pub lands_whole : {H : Type 0} (engine : Engine) (s s1 s' : Run H) (f f1 f' : Activation)
    (ts : List ℕ) (takes : ℕ) (r : Result Progress OutOfMemory) → s.count ≤ s1.count →
    f1.address ≡ f.address → length s1.stacks.operands ≡ length s.stacks.operands - takes →
    s1.stacks.handlers ≡ s.stacks.handlers → s1.stacks.cursors ≡ s.stacks.cursors →
    ContinuesAt engine s1 f1 s' f' ts 0 1 s1.stacks.handlers r →
    ContinuesAt engine s f s' f' ts takes 1 s.stacks.handlers r
lands_whole engine s s1 s' f f1 f' ts takes (Ok progress.Continues) later address long handlers cursors
    l = (
      l.0,
      omega (arith, l.1, long),
      l.2 ∙ handlers,
      progresses_from engine s s1 s' f f1 f' later address l.3,
      l.4 ∙ cursors,
    )
lands_whole engine s s1 s' f f1 f' ts takes (Ok progress.Returned) later address long handlers cursors
    l = tt
lands_whole engine s s1 s' f f1 f' ts takes (Ok progress.Failed) later address long handlers cursors l =
    (omega (arith, l.0, long), l.1 ∙ handlers, l.2 ∙ cursors)
lands_whole engine s s1 s' f f1 f' ts takes (Err e) later address long handlers cursors l = tt

-- ---- the root is back

module _ {H : Type 0} (m : Setup H) (f f' : Activation) (s s' : Run H) (n n' : StepsView) (host : H)
    (k next : ℕ) (blamed : Option ℕ) (o : Walked) (r : Result Progress OutOfMemory) where
  -- what ends the chain did, from this run on
  abbrev Ended : Run H → Type 0
  Ended t =
      Implements m (moment f t n host)
      (λ q place v. chain_over q k next (record (frame_in f t place) { slot = blamed }) o v) (next ∷ [])
      0 1 t.stacks.handlers r (moment f' s' n' host)

  ended : (a : Home) (h : Held) → Ended (with_root s a h) →
      Simulates m (abstraction (with_root s a h) n host)
      (λ q place v. chain_over q k next (over_frame f s blamed place) o v) (is_out r)
      (abstraction s' n' host) (continuation r s'.fault (frame_in f' s'))
  ended (home.Entry i) h does = same does.same
  ended (home.Cell j) h does = same does.same
  ended home.Operand h does = same does.same
  ended home.This h does = same does.same

  ended_kept : (a : Home) (h : Held) → CanPutBack s a → Ended (with_root s a h) →
      KeepsFrame f s f' s'
  ended_kept (home.Entry i) h back does =
      kept_over f f' s (with_root s (home.Entry i) h) s' refl refl refl refl (refl, refl) does.kept
  ended_kept (home.Cell j) h back does =
      kept_over f f' s (with_root s (home.Cell j) h) s' refl refl refl refl (refl, refl) does.kept
  ended_kept home.Operand h back does = does.kept
  ended_kept home.This h back does =
      kept_over f f' s (with_root s home.This h) s' refl refl refl refl
      (newest_kept s.level s.receivers h back) does.kept

  ended_lands : (a : Home) (h : Held) → Ended (with_root s a h) →
      ContinuesAt m.engine s f s' f' (next ∷ []) 0 1 s.stacks.handlers r
  ended_lands (home.Entry i) h does =
      lands_whole m.engine s (with_root s (home.Entry i) h) s' f f f' (next ∷ []) 0 r (omega arith) refl
      (omega arith) refl refl does.lands
  ended_lands (home.Cell j) h does =
      lands_whole m.engine s (with_root s (home.Cell j) h) s' f f f' (next ∷ []) 0 r (omega arith) refl
      (omega arith) refl refl does.lands
  ended_lands home.Operand h does = does.lands
  ended_lands home.This h does =
      lands_whole m.engine s (with_root s home.This h) s' f f f' (next ∷ []) 0 r (omega arith) refl
      (omega arith) refl refl does.lands

-- a scope is as long as before
pub root_long : {H : Type 0} (s : Run H) (a : Home) (h : Held) →
    length (with_root s a h).scope ≡ length s.scope
root_long s (home.Entry i) h = length_set_held s.scope i h
root_long s (home.Cell j) h = refl
root_long s home.Operand h = refl
root_long s home.This h = refl

pub root_stacks : {H : Type 0} (s : Run H) (a : Home) (h : Held) → (with_root s a h).stacks ≡ s.stacks
root_stacks s (home.Entry i) h = refl
root_stacks s (home.Cell j) h = refl
root_stacks s home.Operand h = refl
root_stacks s home.This h = refl

pub finishes : {H : Type 0} (m : Setup H) (f f' : Activation) (s s1 s' : Run H) (n n' : StepsView)
    (host : H) (w : Walking) (end : WalkEnd) (r : Result Progress OutOfMemory) →
    CanPutBack s w.home →
    s1 ≡ with_root s w.home (record { value = w.walk.trail.here.value; read_only = w.was_read_only }) →
    Ended m f f' s s' n n' host w.index w.next w.blamed (end_of end) r s1 →
    Finishes m f s n host w end r f' s' n'
finishes m f f' s s1 s' n n' host w end r back is does =
    let x = w.walk.trail.here in
    let h : Held = record { value = x.value; read_only = w.was_read_only } in
    let here = subst (Ended m f f' s s' n n' host w.index w.next w.blamed (end_of end) r) is does in
    record {
      same = λ seat scope this missed away seated rooted.
          compose (finished m w.index w.next (over_frame f s w.blamed) (end_of end) s n host scope this x
          missed w.home w.was_read_only seat away back rooted)
          (ended m f f' s s' n n' host w.index w.next w.blamed (end_of end) r w.home h here) tt;
      kept = ended_kept m f f' s s' n n' host w.index w.next w.blamed (end_of end) r w.home h back here;
      lands = ended_lands m f f' s s' n n' host w.index w.next w.blamed (end_of end) r w.home h here;
      before = here.before;
    }
