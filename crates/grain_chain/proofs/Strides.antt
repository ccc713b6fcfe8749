-- Stretches of a walk, one after the other.
use Rattle.std.proofs.Common.{◌≡◌, ℕ, ◌+◌, List, [], ◌∷◌, Bool, true, false, Option, Some, None, Result, Ok, Err, is_ok, refl, sym, ap, subst, arith}
use Rattle.grain_value.specs.Cells.{flat}
use Rattle.grain_value.specs.declared.memory.OutOfMemory.{OutOfMemory}
use Rattle.grain_value.specs.declared.values.Dynamic.{Dynamic}
use Rattle.grain_value.specs.declared.values.Held.{Held}
use Rattle.grain_fault.specs.Problems.{Problem, problem_of}
use Rattle.grain_fault.specs.declared.faults.EvalAltResult.{EvalAltResult}
use Rattle.grain_means.specs.Worlds.{Place}
use Rattle.grain_means.specs.Places.{look}
use Rattle.grain_means.specs.Tasks.{Task, Own, Done, Look, Flatten, Write, WalkFailed, play}
use Rattle.grain_means.specs.Walks.{at_mark}
use Rattle.grain_chain.specs.OwnWalks.{WalksOn, own}
use Rattle.grain_chain.specs.Standings.{Stands, put_there}
use Rattle.grain_chain.specs.Walking.{roots_of, place_of, setting_of}
use Rattle.grain_chain.specs.Going.{Reaches, Goes, GoesBack, Takes, stopped, fallen, given_up, rest, with_value}
use Rattle.grain_chain.specs.laws.Joining.{go_on, as_is, by_play, passed_by, halted}
use Rattle.grain_chain.specs.laws.Ways.{look-here, put-here, fell}
use Rattle.grain_chain.specs.declared.contexts.Context.{Context}
use Rattle.grain_chain.specs.declared.requests.WalkAnswer.{WalkAnswer}
use Rattle.grain_chain.specs.declared.requests.WalkAnswer.TheVariants as answer
use Rattle.grain_chain.specs.declared.walks.Walk.{Walk}

-- with one more mark after it
abbrev pub marked : Walk → Walk
marked w = record w { marks = w.marks + 1 }

module _ (x : Context) where
  -- memory is out at the next mark
  pub halts : (w : Walk) (go : Task) →
      Reaches x w (at_mark w.step (rest x w) go) true (roots_of w) w.marks (given_up x w)
  halts w go = λ k. halted w.step (roots_of w) (k + w.marks) (rest x w) go

  -- one stretch, and then the others
  pub then_goes : (w w1 v : Walk) (t t1 : Task) (r : Result WalkAnswer OutOfMemory) →
      Reaches x w t false (roots_of w1) w1.marks t1 → Goes x w1 t1 r v → Goes x w t r v
  then_goes w w1 v t t1 (Ok a) h g = λ k. go_on (h k) (g k) tt
  then_goes w w1 v t t1 (Err o) h g = λ k. go_on (h k) (g k) tt

  -- from a walk that has the same roots and marks
  pub from_same : (w w1 v : Walk) (t : Task) (r : Result WalkAnswer OutOfMemory) →
      ((k : ℕ) → own (roots_of w1) (k + w1.marks) ≡ own (roots_of w) (k + w.marks)) →
      Goes x w1 t r v → Goes x w t r v
  from_same w w1 v t r same g =
      then_goes w w1 v t t r (λ k.
      subst (λ (o : Own). WalksOn x.cells.now (own (roots_of w) (k + w.marks)) t false o t)
      (sym (same k)) (as_is refl)) g

  -- the same from where the walk stands
  pub then_takes : (w v : Walk) (t t1 : Task) (r : Result (Option WalkAnswer) OutOfMemory) →
      Reaches x w t false (roots_of w) w.marks t1 → Takes x w t1 r v → Takes x w t r v
  then_takes w v t t1 (Ok (Some a)) h g = λ k. go_on (h k) (g k) tt
  then_takes w v t t1 (Ok None) h g = (λ k. go_on (h k) (g.0 k) tt, g.1)
  then_takes w v t t1 (Err o) h g = λ k. go_on (h k) (g k) tt

  pub then_back : (w v : Walk) (t t1 : Task) (changed : Bool)
      (r : Result (Option WalkAnswer) OutOfMemory) →
      Reaches x w t false (roots_of w) w.marks t1 → GoesBack x w t1 changed r v →
      GoesBack x w t changed r v
  then_back w v t t1 changed (Ok (Some a)) h g = λ k. go_on (h k) (g k) tt
  then_back w v t t1 changed (Ok None) h g = (λ k. go_on (h k) (g.0 k) tt, g.1)
  then_back w v t t1 changed (Err o) h g = λ k. go_on (h k) (g k) tt

  -- a mark is passed
  pub passes : (w : Walk) (go : Task) →
      Reaches x w (at_mark w.step (rest x w) go) false (roots_of w) (w.marks + 1) go
  passes w go = λ k. passed_by w.step (roots_of w) (k + w.marks) (k + (w.marks + 1)) (rest x w) go
      (omega arith)

  pub passes_goes : (w w1 v : Walk) (f : Walk → Task) (r : Result WalkAnswer OutOfMemory) →
      f (marked w) ≡ f w → w1 ≡ marked w → Goes x w1 (f w1) r v →
      Goes x w (at_mark w.step (rest x w) (f w)) r v
  passes_goes w w1 v f r same is g =
      then_goes w (marked w) v (at_mark w.step (rest x w) (f w)) (f w) r (passes w (f w))
      (subst (λ (t : Task). Goes x (marked w) t r v) same
      (subst (λ (u : Walk). Goes x u (f u) r v) is g))

  pub marked_takes : (w v : Walk) (t : Task) (r : Result (Option WalkAnswer) OutOfMemory) →
      Takes x (marked w) t r v → Takes x w (at_mark w.step (rest x w) t) r v
  marked_takes w v t (Ok (Some a)) g = λ k. go_on (passes w t k) (g k) tt
  marked_takes w v t (Ok None) g =
      (λ k. go_on (passes w t k) (g.0 k) tt, record { same = g.1.same; grown = g.1.grown })
  marked_takes w v t (Err o) g = λ k. go_on (passes w t k) (g k) tt

  pub passes_takes : (w w1 v : Walk) (f : Walk → Task) (r : Result (Option WalkAnswer) OutOfMemory) →
      f (marked w) ≡ f w → w1 ≡ marked w → Takes x w1 (f w1) r v →
      Takes x w (at_mark w.step (rest x w) (f w)) r v
  passes_takes w w1 v f r same is g =
      marked_takes w v (f w) r
      (subst (λ (t : Task). Takes x (marked w) t r v) same
      (subst (λ (u : Walk). Takes x u (f u) r v) is g))

  pub marked_back : (w v : Walk) (t : Task) (changed : Bool)
      (r : Result (Option WalkAnswer) OutOfMemory) → GoesBack x (marked w) t changed r v →
      GoesBack x w (at_mark w.step (rest x w) t) changed r v
  marked_back w v t changed (Ok (Some a)) g = λ k. go_on (passes w t k) (g k) tt
  marked_back w v t changed (Ok None) g =
      (λ k. go_on (passes w t k) (g.0 k) tt, record { same = g.1.same; outer = g.1.outer })
  marked_back w v t changed (Err o) g = λ k. go_on (passes w t k) (g k) tt

  pub passes_back : (w w1 v : Walk) (f : Walk → Task) (changed : Bool)
      (r : Result (Option WalkAnswer) OutOfMemory) → f (marked w) ≡ f w → w1 ≡ marked w →
      GoesBack x w1 (f w1) changed r v →
      GoesBack x w (at_mark w.step (rest x w) (f w)) changed r v
  passes_back w w1 v f changed r same is g =
      marked_back w v (f w) changed r
      (subst (λ (t : Task). GoesBack x (marked w) t changed r v) same
      (subst (λ (u : Walk). GoesBack x u (f u) changed r v) is g))

  -- what stands where the walk stands is looked at
  pub looks : (w : Walk) (d : Dynamic) (f : Held → Task) → Stands w.trail d →
      Reaches x w (Look (place_of w) f) false (roots_of w) w.marks (f (with_value w d))
  looks w d f e = λ k. by_play (λ stop.
      ap (λ (h : Held). play stop x.cells.now (f h) (own (roots_of w) (k + w.marks)))
      (look-here w.trail.outer w.trail.here d w.trail.path e)) refl

  pub looked : (w : Walk) (p : Place) (f : Held → Task) →
      Reaches x w (Look p f) false (roots_of w) w.marks (f (look (roots_of w) p))
  looked w p f = λ k. by_play (λ stop. refl) refl

  -- a value is read
  pub flattens : (w : Walk) (v : Dynamic) (f : Option Dynamic → Task) →
      Reaches x w (Flatten v f) false (roots_of w) w.marks (f (flat x.cells.now v))
  flattens w v f = λ k. by_play (λ stop. refl) refl

  -- a value is written where the walk stands
  pub writes : (w : Walk) (v : Dynamic) (t : Task) →
      Reaches x w (Write (place_of w) v t) false (roots_of (record w { trail = put_there w.trail v }))
      w.marks t
  writes w v t = λ k. by_play (λ stop.
      ap (λ (rs : List Held). play stop x.cells.now t (own rs (k + w.marks)))
      (put-here w.trail.outer w.trail.here v w.trail.path)) refl

  -- an answer stops a step
  pub stops_takes : (w v : Walk) (t : Task) (r : Result WalkAnswer OutOfMemory)
      (q : Result (Option WalkAnswer) OutOfMemory) → q ≡ stopped r → Goes x w t r v → Takes x w t q v
  stops_takes w v t (Ok a) q e g =
      subst (λ (s : Result (Option WalkAnswer) OutOfMemory). Takes x w t s v) (sym e) g
  stops_takes w v t (Err o) q e g =
      subst (λ (s : Result (Option WalkAnswer) OutOfMemory). Takes x w t s v) (sym e) g

  pub stops_back : (w v : Walk) (t : Task) (changed : Bool) (r : Result WalkAnswer OutOfMemory)
      (q : Result (Option WalkAnswer) OutOfMemory) → q ≡ stopped r → Goes x w t r v →
      GoesBack x w t changed q v
  stops_back w v t changed (Ok a) q e g =
      subst (λ (s : Result (Option WalkAnswer) OutOfMemory). GoesBack x w t changed s v) (sym e) g
  stops_back w v t changed (Err o) q e g =
      subst (λ (s : Result (Option WalkAnswer) OutOfMemory). GoesBack x w t changed s v) (sym e) g

  -- a step failed, and the newer roots are gone
  fell_down : (w : Walk) (n : ℕ) (y : Problem) →
      Reaches x w (rest x w (WalkFailed n y)) false ((fallen w).trail.here ∷ []) w.marks
      (Done (WalkFailed n y))
  fell_down w n y = λ k.
      fell (setting_of x.engine.now x.program.now w.pos) x.cells.now n y w.trail.outer w.trail.here
      (fallen w).trail.here (k + w.marks) refl

  pub fails : (w v : Walk) (y : EvalAltResult) (a : WalkAnswer) → a ≡ answer.Faulted y w.step →
      v ≡ fallen w → Goes x w (rest x w (WalkFailed w.step (problem_of y))) (Ok a) v
  fails w v y a is left =
      subst (λ (b : WalkAnswer). Goes x w (rest x w (WalkFailed w.step (problem_of y))) (Ok b) v) (sym is)
      (subst (λ (u : Walk). Goes x w (rest x w (WalkFailed w.step (problem_of y)))
      (Ok (answer.Faulted y w.step)) u)
      (sym left) (fell_down w w.step (problem_of y)))

  -- want of memory, wherever it was found
  pub gives_up : (w v : Walk) (t : Task) (r : Result WalkAnswer OutOfMemory) → is_ok r ≡ false →
      Reaches x w t true (roots_of v) v.marks (given_up x v) → Goes x w t r v
  gives_up w v t (Ok a) e h = cc
  gives_up w v t (Err o) e h = h

  pub gives_up_step : (w v : Walk) (t : Task) (r : Result (Option WalkAnswer) OutOfMemory) →
      is_ok r ≡ false → Reaches x w t true (roots_of v) v.marks (given_up x v) → Takes x w t r v
  gives_up_step w v t (Ok a) e h = cc
  gives_up_step w v t (Err o) e h = h
