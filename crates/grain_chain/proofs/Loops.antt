-- The loops of a walk: over its steps, and over its newer roots.
use Rattle.std.proofs.Common.{◌≡◌, ◌≤◌, ℕ, suc, List, [], ◌∷◌, ◌++◌, Bool, false, Option, Some, None, Result, Ok, Err, is_ok, length, refl, sym, ap, ◌∙◌, subst}
use Rattle.std.specs.Prelude.{◌||◌}
use Rattle.grain_value.specs.declared.memory.OutOfMemory.{OutOfMemory}
use Rattle.grain_value.specs.declared.values.Dynamic.{Dynamic}
use Rattle.grain_program.specs.View.{View}
use Rattle.grain_means.specs.Tasks.{Task, WalkEnded}
use Rattle.grain_means.specs.Worlds.{Place}
use Rattle.grain_means.specs.Walks.{Origin, OfPart, OfIndex, OfProperty, OfMethod, OfNothing, Rest, is_change, set_back}
use Rattle.grain_chain.specs.Standings.{Standing, WentBack}
use Rattle.grain_chain.specs.Walking.{roots_of, place_of, origin_of, Falls}
use Rattle.grain_chain.specs.Going.{Reaches, Goes, GoesBack, Takes, CameBack, Went, NeedsOr, setting, rest}
use Rattle.grain_chain.specs.laws.Joining.{go_on}
use Rattle.grain_chain.specs.declared.contexts.Context.{Context}
use Rattle.grain_chain.specs.declared.origins.OuterRoot.{OuterRoot}
use Rattle.grain_chain.specs.declared.trails.LeftRoot.{LeftRoot}
use Rattle.grain_chain.specs.declared.requests.WalkAnswer.{WalkAnswer}
use Rattle.grain_chain.specs.declared.requests.WalkAnswer.TheVariants as answer
use Rattle.grain_chain.specs.declared.walks.Walk.{Walk}
use Rattle.grain_chain.proofs.Roots.{left_root, leaves, comes_home}
use Rattle.grain_chain.proofs.Stepping.{then_reaches, turns, ahead, stepped, falls_more}

module _ (x : Context) (w0 : Walk) (t0 : Task) where
  -- up to a walk with a task left
  abbrev pub Led : Walk → Task → Type 0
  Led w t = Reaches x w0 t0 false (roots_of w) w.marks t

  answers : (w v : Walk) (t : Task) (a : WalkAnswer) (r : Result (Option WalkAnswer) OutOfMemory) →
      Led w t → r ≡ Ok (Some a) → Takes x w t r v → Goes x w0 t0 (Ok a) v
  answers w v t a r h e g =
      let here = subst (λ (q : Result (Option WalkAnswer) OutOfMemory). Takes x w t q v) e g in
      λ k. go_on (h k) (here k) tt

  -- a step answered
  pub step_answers : (w v : Walk) (t : Task) (a : WalkAnswer)
      (r : Result (Option WalkAnswer) OutOfMemory) → Led w t → r ≡ Ok (Some a) → Takes x w t r v →
      Goes x w0 t0 (Ok a) v
  step_answers w v t a r h e g = answers w v t a r h e g

  -- memory was out in a step
  pub step_gives_up : (w v : Walk) (t : Task) (r : Result (Option WalkAnswer) OutOfMemory)
      (q : Result WalkAnswer OutOfMemory) → Led w t → is_ok r ≡ false → is_ok q ≡ false →
      Takes x w t r v → Goes x w0 t0 q v
  step_gives_up w v t (Err o) (Err u) h e f g = λ k. go_on (h k) (g k) tt
  step_gives_up w v t (Ok a) (Err u) h e f g = cc
  step_gives_up w v t (Err o) (Ok a) h e f g = cc
  step_gives_up w v t (Ok b) (Ok a) h e f g = cc

  -- the next turn over the steps
  pub step_turns : (w v : Walk) (t : Task) (r : Result (Option WalkAnswer) OutOfMemory) → Led w t →
      r ≡ Ok None → Takes x w t r v → Led (stepped v) (ahead x (stepped v)) × Went w v
  step_turns w v t r h e g =
      let here = subst (λ (q : Result (Option WalkAnswer) OutOfMemory). Takes x w t q v) e g in
      (turns x w0 w v t0 t h here.0 here.1, here.1)

  -- the way back over one root
  abbrev returning : Walk → LeftRoot → Standing → Bool → Task
  returning w g t changed =
      set_back (setting x (left_root w g t)) g.step (origin_of g.origin) (place_of (left_root w g t))
      g.root.value w.gives changed (rest x (left_root w g t))

  -- what counts as a change is one on the way back too
  counts : (w : Walk) (o : Origin) (p : Place) (v u : Dynamic) (changed : Bool) (done : Rest) →
      set_back (setting x w) w.step o p v u changed done
      ≡ set_back (setting x w) w.step o p v u (is_change o || changed) done
  counts w (OfPart s) p v u changed done = refl
  counts w (OfIndex i q) p v u changed done = refl
  counts w (OfProperty name setter q assigned) p v u changed done = refl
  counts w OfMethod p v u changed done = refl
  counts w OfNothing p v u changed done = refl

  back_led : (w : Walk) (g : LeftRoot) (t : Standing) (changed : Bool) →
      Led w (rest x w (WalkEnded w.gives changed)) → WentBack w.trail (Some g) t →
      Led (left_root w g t) (returning w g t (is_change (origin_of g.origin) || changed))
  back_led w g t changed h went =
      subst (λ (u : Task). Led (left_root w g t) u)
      (counts (left_root w g t) (origin_of g.origin) (place_of (left_root w g t)) g.root.value w.gives
      changed (rest x (left_root w g t)))
      (then_reaches x w0 w (left_root w g t) t0 (rest x w (WalkEnded w.gives changed))
      (returning w g t changed) h (leaves x w g t w.gives changed went))

  -- the same for the flag of the code
  flag_led : (w : Walk) (g : LeftRoot) (t : Standing) (changed now : Bool) →
      Led w (rest x w (WalkEnded w.gives changed)) → WentBack w.trail (Some g) t →
      now ≡ (is_change (origin_of g.origin) || changed) → Led (left_root w g t) (returning w g t now)
  flag_led w g t changed now h went same =
      subst (λ (b : Bool). Led (left_root w g t) (returning w g t b)) (sym same)
      (back_led w g t changed h went)

  pub back_answers : (w v : Walk) (g : LeftRoot) (t : Standing) (changed now : Bool) (a : WalkAnswer)
      (r : Result (Option WalkAnswer) OutOfMemory) → Led w (rest x w (WalkEnded w.gives changed)) →
      WentBack w.trail (Some g) t → now ≡ (is_change (origin_of g.origin) || changed) → r ≡ Ok (Some a) →
      GoesBack x (left_root w g t) (returning w g t now) now r v → Goes x w0 t0 (Ok a) v
  back_answers w v g t changed now a r h went same e back =
      let led = flag_led w g t changed now h went same in
      let here = subst (λ (q : Result (Option WalkAnswer) OutOfMemory).
      GoesBack x (left_root w g t) (returning w g t now) now q v) e back in
      λ k. go_on (led k) (here k) tt

  pub back_gives_up : (w v : Walk) (g : LeftRoot) (t : Standing) (changed now : Bool)
      (r : Result (Option WalkAnswer) OutOfMemory) (q : Result WalkAnswer OutOfMemory) →
      Led w (rest x w (WalkEnded w.gives changed)) → WentBack w.trail (Some g) t →
      now ≡ (is_change (origin_of g.origin) || changed) → is_ok r ≡ false →
      is_ok q ≡ false → GoesBack x (left_root w g t) (returning w g t now) now r v →
      Goes x w0 t0 q v
  back_gives_up w v g t changed now (Err o) (Err u) h went same e f back =
      let led = flag_led w g t changed now h went same in λ k. go_on (led k) (back k) tt
  back_gives_up w v g t changed now (Ok a) (Err u) h went same e f back = cc
  back_gives_up w v g t changed now (Err o) (Ok a) h went same e f back = cc
  back_gives_up w v g t changed now (Ok b) (Ok a) h went same e f back = cc

  pub back_turns : (w v : Walk) (g : LeftRoot) (t : Standing) (changed now : Bool)
      (r : Result (Option WalkAnswer) OutOfMemory) → Led w (rest x w (WalkEnded w.gives changed)) →
      WentBack w.trail (Some g) t → now ≡ (is_change (origin_of g.origin) || changed) → r ≡ Ok None →
      GoesBack x (left_root w g t) (returning w g t now) now r v →
      Led v (rest x v (WalkEnded v.gives now)) × CameBack (left_root w g t) v
  back_turns w v g t changed now r h went same e back =
      let led = flag_led w g t changed now h went same in
      let here = subst (λ (q : Result (Option WalkAnswer) OutOfMemory).
      GoesBack x (left_root w g t) (returning w g t now) now q v) e back in
      let all : Led v (rest x v (WalkEnded w.gives now)) = λ k. go_on (led k) (here.0 k) tt in (
        subst (λ (d : Dynamic). Led v (rest x v (WalkEnded d now)))
            (sym (ap (λ (u : Walk). u.gives) here.1.same)) all,
        here.1,
      )

  -- the first root alone is left
  pub back_home : (w : Walk) (t : Standing) (changed : Bool) (d e : Dynamic) →
      Led w (rest x w (WalkEnded w.gives changed)) → WentBack w.trail None t → d ≡ w.gives →
      Goes x w0 t0 (Ok (answer.Ended d changed)) (let v : Walk = record w { trail = t; gives = e } in v)
  back_home w t changed d e h went same =
      subst (λ (f : Dynamic). Goes x w0 t0 (Ok (answer.Ended f changed))
      (let v : Walk = record w { trail = t; gives = e } in v)) (sym same)
      (subst (λ (s : Standing). Goes x w0 t0 (Ok (answer.Ended w.gives changed))
      (let v : Walk = record w { trail = s; gives = e } in v)) (sym went.1)
      (λ k. go_on (h k) (comes_home x w w.gives changed went.0 k) tt))

-- one root fewer
pub fewer : (w : Walk) (g : LeftRoot) (t : Standing) → WentBack w.trail (Some g) t →
    length w.trail.outer ≡ suc (length t.outer)
fewer w g t went =
    let o : OuterRoot = record { root = t.here; path = t.path; step = g.step; origin = g.origin } in
    ap (λ (l : List OuterRoot). length l) went.0 ∙ snoc t.outer o
  where
    snoc : (os : List OuterRoot) (o : OuterRoot) → length (os ++ o ∷ []) ≡ suc (length os)
    snoc [] o = refl
    snoc (p ∷ os) o = ap suc (snoc os o)

pub answers_less : (p : View) (v : Walk) (a : WalkAnswer) (r : Result (Option WalkAnswer) OutOfMemory)
    (n m : ℕ) → r ≡ Ok (Some a) → NeedsOr p v r n → n ≤ m → Falls p v a m
answers_less p v a r n m e h le =
    falls_more p v a n m (subst (λ (q : Result (Option WalkAnswer) OutOfMemory). NeedsOr p v q n) e h) le
