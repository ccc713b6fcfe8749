-- How a walk begins, goes on and is over.
use Rattle.std.proofs.Common.{◌≡◌, ◌+◌, ℕ, List, true, Option, Some, None, Result, Ok, Err, refl, sym, subst}
use Rattle.grain_value.specs.declared.memory.OutOfMemory.{OutOfMemory}
use Rattle.grain_value.specs.declared.values.Held.{Held}
use Rattle.grain_fault.specs.Problems.{NoMemory}
use Rattle.grain_fault.specs.declared.faults.EvalAltResult.TheVariants as fault
use Rattle.grain_program.specs.View.{View}
use Rattle.grain_global.specs.declared.engines.Engine.{Engine}
use Rattle.grain_means.specs.Worlds.{Answer}
use Rattle.grain_means.specs.Tasks.{Task, WalkFailed}
use Rattle.grain_chain.specs.OwnWalks.{WalksOn, own}
use Rattle.grain_chain.specs.Walking.{roots_of, roots_at, setting_of, left_to_do, resumed, with_receiver, is_out, IsAtStep, still, Falls}
use Rattle.grain_chain.specs.Going.{Reaches, Goes, Needs, Settles, fallen, received, rest}
use Rattle.grain_chain.specs.laws.Joining.{go_on, any}
use Rattle.grain_chain.specs.laws.Ways.{put-here, fell}
use Rattle.grain_chain.specs.declared.contexts.Context.{Context}
use Rattle.grain_chain.specs.declared.origins.Awaited.{Awaited}
use Rattle.grain_chain.specs.declared.origins.Awaited.TheVariants as awaited
use Rattle.grain_chain.specs.declared.requests.WalkAnswer.{WalkAnswer}
use Rattle.grain_chain.specs.declared.requests.WalkAnswer.TheVariants as answer
use Rattle.grain_chain.specs.declared.walks.Walk.{Walk}

module _ (x : Context) where
  abbrev Ended : Walk → Task → Walk → WalkAnswer → Type 0
  Ended w t v a =
      (k : ℕ) → WalksOn x.cells.now (own (roots_of w) (k + w.marks)) t (is_out a)
      (own (roots_at v a) (k + v.marks)) (left_to_do x.engine.now x.program.now v a)

  over : (w u : Walk) (t : Task) → Reaches x w t true (roots_of u) u.marks
      (rest x u (WalkFailed u.step NoMemory)) →
      Ended w t (fallen u) (answer.Faulted fault.Memory u.step)
  over w u t h = λ k.
      go_on (h k)
      (any true (fell (setting_of x.engine.now x.program.now u.pos) x.cells.now u.step NoMemory
      u.trail.outer u.trail.here (fallen u).trail.here (k + u.marks) refl)) (refl, refl)

  -- the answer of a walk that went somewhere
  pub settled : (w u v : Walk) (t : Task) (r : Result WalkAnswer OutOfMemory) (a : WalkAnswer) →
      Goes x w t r u → Settles r u a v → Ended w t v a
  settled w u v t (Ok b) a g h =
      subst (λ (c : WalkAnswer). Ended w t v c) (sym h.0)
      (subst (λ (z : Walk). Ended w t z b) (sym h.1) (λ k. any (is_out b) (g k)))
  settled w u v t (Err o) a g h =
      subst (λ (c : WalkAnswer). Ended w t v c) (sym h.0)
      (subst (λ (z : Walk). Ended w t z (answer.Faulted fault.Memory u.step)) (sym h.1) (over w u t g))

pub settled_needs : (p : View) (u v : Walk) (r : Result WalkAnswer OutOfMemory) (a : WalkAnswer) (n : ℕ) →
    Needs p u r n → Settles r u a v → Falls p v a n
settled_needs p u v (Ok b) a n need h =
    subst (λ (c : WalkAnswer). Falls p v c n) (sym h.0)
    (subst (λ (z : Walk). Falls p z b n) (sym h.1) need)
settled_needs p u v (Err o) a n need h =
    subst (λ (c : WalkAnswer). Falls p v c n) (sym h.0) tt

-- the receiver is back, and the awaited is taken
abbrev pub taken_up : Walk → Option Held → Awaited → Walk
taken_up w r q = record (received w r) { awaits = q }

same_roots : (w : Walk) (r : Option Held) (q : Awaited) → roots_of (taken_up w r q) ≡ with_receiver w r
same_roots w None q = refl
same_roots w (Some h) q = sym (put-here w.trail.outer w.trail.here h.value w.trail.path)

module _ (e : Engine) (p : View) (w : Walk) (q : Awaited) where
  -- what is left to do does not see it
  pub same_resumed : (r : Option Held) (s : Awaited) (a : Answer) →
      resumed e p (taken_up w r q) s a ≡ resumed e p w s a
  same_resumed None awaited.IndexSet a = refl
  same_resumed None (awaited.PropertySet name pos assigned v) a = refl
  same_resumed None (awaited.SetInstead x assigned) a = refl
  same_resumed None (awaited.PropertyGot name pos i) a = refl
  same_resumed None (awaited.GotInstead x i) a = refl
  same_resumed None (awaited.IndexGot i) a = refl
  same_resumed None (awaited.IndexRead pos i n) a = refl
  same_resumed None (awaited.OpAssigned pos o) a = refl
  same_resumed None (awaited.Operator pos) a = refl
  same_resumed None (awaited.Called b i) a = refl
  same_resumed (Some h) awaited.IndexSet a = refl
  same_resumed (Some h) (awaited.PropertySet name pos assigned v) a = refl
  same_resumed (Some h) (awaited.SetInstead x assigned) a = refl
  same_resumed (Some h) (awaited.PropertyGot name pos i) a = refl
  same_resumed (Some h) (awaited.GotInstead x i) a = refl
  same_resumed (Some h) (awaited.IndexGot i) a = refl
  same_resumed (Some h) (awaited.IndexRead pos i n) a = refl
  same_resumed (Some h) (awaited.OpAssigned pos o) a = refl
  same_resumed (Some h) (awaited.Operator pos) a = refl
  same_resumed (Some h) (awaited.Called b i) a = refl

  pub same_step : (r : Option Held) (s : Awaited) → IsAtStep p w s → IsAtStep p (taken_up w r q) s
  same_step None awaited.IndexSet h = tt
  same_step None (awaited.PropertySet name pos assigned v) h = tt
  same_step None (awaited.SetInstead x assigned) h = tt
  same_step None (awaited.PropertyGot name pos i) h = h
  same_step None (awaited.GotInstead x i) h = h
  same_step None (awaited.IndexGot i) h = h
  same_step None (awaited.IndexRead pos i n) h = h
  same_step None (awaited.OpAssigned pos o) h = tt
  same_step None (awaited.Operator pos) h = tt
  same_step None (awaited.Called b i) h = h
  same_step (Some r) awaited.IndexSet h = tt
  same_step (Some r) (awaited.PropertySet name pos assigned v) h = tt
  same_step (Some r) (awaited.SetInstead x assigned) h = tt
  same_step (Some r) (awaited.PropertyGot name pos i) h = h
  same_step (Some r) (awaited.GotInstead x i) h = h
  same_step (Some r) (awaited.IndexGot i) h = h
  same_step (Some r) (awaited.IndexRead pos i n) h = h
  same_step (Some r) (awaited.OpAssigned pos o) h = tt
  same_step (Some r) (awaited.Operator pos) h = tt
  same_step (Some r) (awaited.Called b i) h = h

  pub same_still : (r : Option Held) (s : Awaited) → still p (taken_up w r q) s ≡ still p w s
  same_still None awaited.IndexSet = refl
  same_still None (awaited.PropertySet name pos assigned v) = refl
  same_still None (awaited.SetInstead x assigned) = refl
  same_still None (awaited.PropertyGot name pos i) = refl
  same_still None (awaited.GotInstead x i) = refl
  same_still None (awaited.IndexGot i) = refl
  same_still None (awaited.IndexRead pos i n) = refl
  same_still None (awaited.OpAssigned pos o) = refl
  same_still None (awaited.Operator pos) = refl
  same_still None (awaited.Called b i) = refl
  same_still (Some h) awaited.IndexSet = refl
  same_still (Some h) (awaited.PropertySet name pos assigned v) = refl
  same_still (Some h) (awaited.SetInstead x assigned) = refl
  same_still (Some h) (awaited.PropertyGot name pos i) = refl
  same_still (Some h) (awaited.GotInstead x i) = refl
  same_still (Some h) (awaited.IndexGot i) = refl
  same_still (Some h) (awaited.IndexRead pos i n) = refl
  same_still (Some h) (awaited.OpAssigned pos o) = refl
  same_still (Some h) (awaited.Operator pos) = refl
  same_still (Some h) (awaited.Called b i) = refl

same_marks : (w : Walk) (r : Option Held) (q : Awaited) → (taken_up w r q).marks ≡ 0
same_marks w None q = refl
same_marks w (Some h) q = refl

-- the answer of a walk that was resumed
pub resumes : (x : Context) (w u v : Walk) (r : Option Held) (q s : Awaited) (b : Answer)
    (went : Result WalkAnswer OutOfMemory) (a : WalkAnswer) →
    Goes x (taken_up w r q) (resumed x.engine.now x.program.now (taken_up w r q) s b) went u →
    Settles went u a v →
    (k : ℕ) → WalksOn x.cells.now (own (with_receiver w r) (k + 0))
    (resumed x.engine.now x.program.now w s b) (is_out a) (own (roots_at v a) (k + v.marks))
    (left_to_do x.engine.now x.program.now v a)
resumes x w u v r q s b went a g h = λ k.
    let e = x.engine.now in
    let p = x.program.now in
    let w1 = taken_up w r q in
    subst (λ (rs : List Held). WalksOn x.cells.now (own rs (k + 0)) (resumed e p w s b) (is_out a)
    (own (roots_at v a) (k + v.marks)) (left_to_do e p v a)) (same_roots w r q)
    (subst (λ (t : Task). WalksOn x.cells.now (own (roots_of w1) (k + 0)) t (is_out a)
    (own (roots_at v a) (k + v.marks)) (left_to_do e p v a)) (same_resumed e p w q r s b)
    (subst (λ (m : ℕ). WalksOn x.cells.now (own (roots_of w1) (k + m)) (resumed e p w1 s b) (is_out a)
    (own (roots_at v a) (k + v.marks)) (left_to_do e p v a)) (same_marks w r q)
    (settled x w1 u v (resumed e p w1 s b) went a g h k)))

pub same_awaits : (w : Walk) (r : Option Held) → (received w r).awaits ≡ w.awaits
same_awaits w None = refl
same_awaits w (Some h) = refl
