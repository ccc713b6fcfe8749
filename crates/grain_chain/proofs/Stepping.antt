-- Steps that are taken one after the other.
use Rattle.std.proofs.Common.{◌≡◌, ◌<◌, ◌≤◌, ℕ, zero, suc, ◌+◌, ◌-◌, List, [], ◌∷◌, Bool, true, false, Option, Some, None, Result, Ok, Err, length, drop, refl, sym, ap, ◌∙◌, subst, arith, add-one}
use Rattle.std.specs.Prelude.{codes, slice_get, if◌then◌else◌}
use Rattle.grain_value.specs.Cells.{flat}
use Rattle.grain_value.specs.Looking.{is_unit}
use Rattle.grain_value.specs.declared.memory.OutOfMemory.{OutOfMemory}
use Rattle.grain_value.specs.declared.values.Dynamic.{Dynamic}
use Rattle.grain_value.specs.declared.values.Dynamic.TheVariants as dynamic
use Rattle.grain_value.specs.declared.values.Held.{Held}
use Rattle.grain_fault.specs.Problems.{NoMemory, Plain, DataRace}
use Rattle.grain_fault.specs.declared.places.Position.{Position}
use Rattle.grain_program.specs.View.{View}
use Rattle.grain_program.specs.declared.code.chains.Step.{Step}
use Rattle.grain_means.specs.Worlds.{is_stop}
use Rattle.grain_means.specs.Tasks.{Task, Play, WalkEnded, WalkFailed, play}
use Rattle.grain_means.specs.Walks.{at_mark, failing, flat_or_busy, flattening, if_not_unit, unless_unit, skips, step_position, taken, walked, role_before, ended, last_role}
use Rattle.grain_chain.specs.OwnWalks.{own}
use Rattle.grain_chain.specs.Standings.{Stands}
use Rattle.grain_chain.specs.Walking.{roots_of, place_of, steps_left, count, Falls}
use Rattle.grain_chain.specs.Going.{Reaches, Went, Needs, NeedsOr, ends_before, course, steps, setting, rest, next_step}
use Rattle.grain_chain.specs.laws.Joining.{go_on, by_play}
use Rattle.grain_chain.specs.laws.Ways.{look-here}
use Rattle.grain_chain.specs.declared.contexts.Context.{Context}
use Rattle.grain_chain.specs.declared.requests.WalkAnswer.{WalkAnswer}
use Rattle.grain_chain.specs.declared.requests.WalkAnswer.TheVariants as answer
use Rattle.grain_chain.specs.declared.walks.Walk.{Walk}

cut : (xs : List Step) (n : ℕ) (s : Step) → slice_get xs n ≡ Some s → drop n xs ≡ s ∷ drop (suc n) xs
cut [] n s h = cc
cut (x ∷ xs) zero s h = let e : x ≡ s = cc in ap (λ (y : Step). y ∷ xs) e
cut (x ∷ xs) (suc n) s h = cut xs n s h

-- at the next step
abbrev pub stepped : Walk → Walk
stepped w = record w { step = w.step + 1 }

all_gone : (xs : List Step) (n : ℕ) → length xs ≤ n → drop n xs ≡ []
all_gone [] zero h = refl
all_gone [] (suc n) h = refl
all_gone (s ∷ xs) zero h = absurd (omega (arith, h))
all_gone (s ∷ xs) (suc n) h = all_gone xs n (omega (arith, h))

module _ (x : Context) where
  -- the steps that are left from where the walk stands
  abbrev pub ahead : Walk → Task
  ahead w = walked (course x w) (drop w.step (steps x w)) w.step (place_of w) (rest x w)

  abbrev pub take_on : Walk → Step → Task
  take_on w s =
      taken (course x w) s w.step (role_before (course x w) (drop (w.step + 1) (steps x w)))
      (next_step x w) (place_of w) (rest x w)

  -- the step, if the chain does not end before it
  abbrev unless : Walk → Step → Task
  unless w s =
      unless_unit w.step (step_position s) (skips s) (place_of w) (rest x w) (take_on w s)

  begins : (w : Walk) (s : Step) → slice_get (steps x w) w.step ≡ Some s →
      ahead w ≡ at_mark w.step (rest x w) (unless w s)
  begins w s h =
      ap (λ (ss : List Step). walked (course x w) ss w.step (place_of w) (rest x w))
      (cut (steps x w) w.step s h ∙ ap (λ (n : ℕ). s ∷ drop n (steps x w)) (sym (add-one w.step)))

  -- no step is left
  pub no_steps : (w : Walk) → length (steps x w) ≤ w.step →
      ahead w ≡ ended (setting x w) (last_role (course x w)) (w.step - 1) (place_of w) (rest x w)
  no_steps w h =
      ap (λ (ss : List Step). walked (course x w) ss w.step (place_of w) (rest x w))
      (all_gone (steps x w) w.step h)

  -- after the same mark
  pub under : (w : Walk) (t u : Task) →
      ((stop : Option ℕ) (k : ℕ) →
      play stop x.cells.now t (own (roots_of w) k) ≡ play stop x.cells.now u (own (roots_of w) k)) →
      Reaches x w (at_mark w.step (rest x w) t) false (roots_of w) w.marks (at_mark w.step (rest x w) u)
  under w t u same = λ k. by_play (λ stop.
      ap (λ (q : Play). if is_stop stop (k + w.marks)
      then play stop x.cells.now (rest x w (WalkFailed w.step NoMemory)) (own (roots_of w) (k + w.marks))
      else q) (same stop (k + w.marks + 1))) refl

  -- what follows by whether the chain ends there
  abbrev ending : Walk → Position → Task → Option Bool → Task
  ending w q t (Some true) = rest x w (WalkEnded dynamic.Unit false)
  ending w q t (Some false) = t
  ending w q t None =
      failing w.step (Plain (DataRace (codes "variable ''")) q) (rest x w)

  by_flat : (w : Walk) (q : Position) (t : Task) (o : Option Dynamic) →
      flat_or_busy w.step q (rest x w) (if_not_unit (rest x w) t) o
      ≡ ending w q t (ends_before true o)
  by_flat w q t None = refl
  by_flat w q t (Some v) = by_unit (is_unit v) where
    by_unit : (b : Bool) → (if b then rest x w (WalkEnded dynamic.Unit false) else t) ≡ ending w q t (Some b)
    by_unit true = refl
    by_unit false = refl

  past : (w : Walk) (d : Dynamic) (q : Position) (t : Task) (s : Bool) (o : Option Bool) →
      Stands w.trail d → o ≡ ends_before s (flat x.cells.now d) →
      Reaches x w (at_mark w.step (rest x w) (unless_unit w.step q s (place_of w) (rest x w) t)) false
      (roots_of w) w.marks (at_mark w.step (rest x w) (ending w q t o))
  past w d q t false o h e =
      under w _ _ (λ stop k.
      ap (λ (b : Option Bool). play stop x.cells.now (ending w q t b) (own (roots_of w) k)) (sym e))
  past w d q t true o h e =
      under w _ _ (λ stop k.
      ap (λ (g : Held). play stop x.cells.now
      (flattening w.step q g.value (rest x w) (if_not_unit (rest x w) t)) (own (roots_of w) k))
      (look-here w.trail.outer w.trail.here d w.trail.path h)
      ∙ ap (λ (u : Task). play stop x.cells.now u (own (roots_of w) k))
      (by_flat w q t (flat x.cells.now d) ∙ ap (ending w q t) (sym e)))

  next : (w : Walk) (s : Step) (d : Dynamic) (o : Option Bool) →
      slice_get (steps x w) w.step ≡ Some s → Stands w.trail d →
      o ≡ ends_before (skips s) (flat x.cells.now d) →
      Reaches x w (ahead w) false (roots_of w) w.marks
      (at_mark w.step (rest x w) (ending w (step_position s) (take_on w s) o))
  next w s d o h l e =
      subst (λ (t : Task). Reaches x w t false (roots_of w) w.marks
      (at_mark w.step (rest x w) (ending w (step_position s) (take_on w s) o))) (sym (begins w s h))
      (past w d (step_position s) (take_on w s) (skips s) o l e)

  -- the next step is taken
  pub takes_next : (w : Walk) (s : Step) (d : Dynamic) → slice_get (steps x w) w.step ≡ Some s →
      Stands w.trail d → Some false ≡ ends_before (skips s) (flat x.cells.now d) →
      Reaches x w (ahead w) false (roots_of w) w.marks (at_mark w.step (rest x w) (take_on w s))
  takes_next w s d h l e = next w s d (Some false) h l e

  -- or the chain ends before it
  pub skips_next : (w : Walk) (s : Step) (d : Dynamic) → slice_get (steps x w) w.step ≡ Some s →
      Stands w.trail d → Some true ≡ ends_before (skips s) (flat x.cells.now d) →
      Reaches x w (ahead w) false (roots_of w) w.marks
      (at_mark w.step (rest x w) (rest x w (WalkEnded dynamic.Unit false)))
  skips_next w s d h l e = next w s d (Some true) h l e

  -- or a lent cell stands there
  pub races_next : (w : Walk) (s : Step) (d : Dynamic) → slice_get (steps x w) w.step ≡ Some s →
      Stands w.trail d → None ≡ ends_before (skips s) (flat x.cells.now d) →
      Reaches x w (ahead w) false (roots_of w) w.marks
      (at_mark w.step (rest x w)
      (failing w.step (Plain (DataRace (codes "variable ''")) (step_position s)) (rest x w)))
  races_next w s d h l e = next w s d None h l e

  -- two stretches, where the second is where the first led
  pub then_reaches : (w0 w w1 : Walk) (t0 t t1 : Task) →
      Reaches x w0 t0 false (roots_of w) w.marks t → Reaches x w t false (roots_of w1) w1.marks t1 →
      Reaches x w0 t0 false (roots_of w1) w1.marks t1
  then_reaches w0 w w1 t0 t t1 h g = λ k. go_on (h k) (g k) tt

  -- a turn of the loop over the steps
  pub turns : (w0 w v : Walk) (t0 t : Task) → Reaches x w0 t0 false (roots_of w) w.marks t →
      Reaches x w t false (roots_of v) v.marks (next_step x w (place_of v) (rest x v)) → Went w v →
      Reaches x w0 t0 false (roots_of (stepped v)) v.marks (ahead (stepped v))
  turns w0 w v t0 t h g went =
      let v1 : Walk = record w { trail = v.trail; marks = v.marks } in
      let here = subst (λ (u : Walk). Reaches x w t false (roots_of u) u.marks
      (next_step x w (place_of u) (rest x u))) went.same g in
      let all = then_reaches w0 w v1 t0 t (next_step x w (place_of v1) (rest x v1)) h here in
      subst (λ (u : Walk). Reaches x w0 t0 false (roots_of (stepped u)) u.marks (ahead (stepped u)))
      (sym went.same) all

-- a turn leaves fewer requests
pub turns_less : (p : View) (w v : Walk) → Went w v → w.step < count p w →
    steps_left p (stepped v) ≤ steps_left p w
turns_less p w v went less =
    subst (λ (u : Walk). steps_left p (stepped u) ≤ steps_left p w) (sym went.same)
    (omega (arith, went.grown, less))

pub falls_more : (p : View) (w : Walk) (a : WalkAnswer) (n m : ℕ) → Falls p w a n → n ≤ m →
    Falls p w a m
falls_more p w (answer.Need r) n m h le = (h.0, omega (arith, h.1, le), h.2)
falls_more p w (answer.Ended v changed) n m h le = tt
falls_more p w (answer.Faulted y k) n m h le = tt

pub needs_more : (p : View) (w : Walk) (r : Result WalkAnswer OutOfMemory) (n m : ℕ) →
    Needs p w r n → n ≤ m → Needs p w r m
needs_more p w (Ok a) n m h le = falls_more p w a n m h le
needs_more p w (Err o) n m h le = tt

pub needs_or_more : (p : View) (w : Walk) (r : Result (Option WalkAnswer) OutOfMemory) (n m : ℕ) →
    NeedsOr p w r n → n ≤ m → NeedsOr p w r m
needs_or_more p w (Ok (Some a)) n m h le = falls_more p w a n m h le
needs_or_more p w (Ok None) n m h le = tt
needs_or_more p w (Err o) n m h le = tt
