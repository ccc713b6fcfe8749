-- What is done where the steps end, and with answers.
use Rattle.std.proofs.Common.{◌≡◌, ◌<◌, ◌≤◌, ℕ, zero, suc, List, [], ◌∷◌, Bool, true, false, Option, Result, Ok, length, drop, refl, sym, subst, arith}
use Rattle.std.specs.Prelude.{if◌then◌else◌}
use Rattle.grain_value.specs.Cells.{flat}
use Rattle.grain_value.specs.declared.memory.OutOfMemory.{OutOfMemory}
use Rattle.grain_value.specs.declared.values.Dynamic.{Dynamic}
use Rattle.grain_value.specs.declared.values.Dynamic.TheVariants as dynamic
use Rattle.grain_value.specs.declared.values.Held.{Held}
use Rattle.grain_fault.specs.Problems.{Problem, problem_of}
use Rattle.grain_fault.specs.declared.places.Position.{Position}
use Rattle.grain_fault.specs.declared.faults.EvalAltResult.{EvalAltResult}
use Rattle.grain_program.specs.declared.code.parts.AssignOp.{AssignOp}
use Rattle.grain_program.specs.declared.code.chains.Step.{Step}
use Rattle.grain_ops.specs.Outcomes.{Outcome, NotBuiltIn, Gave, ArithmeticFault, TooLarge}
use Rattle.grain_ops.specs.Operators.{assignment}
use Rattle.grain_means.specs.Places.{look}
use Rattle.grain_means.specs.Tasks.{Task, Look, Write, WalkEnded}
use Rattle.grain_means.specs.Walks.{at_mark, failing, flattening, flat_or_busy, stored, native_stored, operating, Course, Passes, role_before, last_role}
use Rattle.grain_chain.specs.Standings.{Standing, Stands, put_there}
use Rattle.grain_chain.specs.Walking.{roots_of, place_of}
use Rattle.grain_chain.specs.Going.{Goes, FailsAt, setting, rest}
use Rattle.grain_chain.specs.laws.Joining.{go_on}
use Rattle.grain_chain.specs.declared.contexts.Context.{Context}
use Rattle.grain_chain.specs.declared.requests.WalkAnswer.{WalkAnswer}
use Rattle.grain_chain.specs.declared.walks.Walk.{Walk}
use Rattle.grain_chain.proofs.Strides.{marked, passes, then_goes, looks, looked, writes, flattens, from_same}
use Rattle.grain_chain.proofs.Halting.{Halts, then_halts, stored_halts}

-- a value was written, and the walk gives unit
abbrev pub written : Walk → Standing → Walk
written w t = record (marked w) { trail = t; gives = dynamic.Unit }

-- the walk gives a value
abbrev pub giving : Walk → Dynamic → Walk
giving w d = record (marked w) { gives = d }

module _ (x : Context) where
  pub pick_true : (w v : Walk) (b : Bool) (t u : Task) (r : Result WalkAnswer OutOfMemory) → b ≡ true →
      Goes x w t r v → Goes x w (if b then t else u) r v
  pick_true w v true t u r e h = h
  pick_true w v false t u r e h = cc

  pub pick_false : (w v : Walk) (b : Bool) (t u : Task) (r : Result WalkAnswer OutOfMemory) → b ≡ false →
      Goes x w u r v → Goes x w (if b then t else u) r v
  pick_false w v false t u r e h = h
  pick_false w v true t u r e h = cc

  pub goes_written : (w v : Walk) (d : Dynamic) (r : Result WalkAnswer OutOfMemory) →
      Goes x (written w (put_there w.trail d)) (rest x w (WalkEnded dynamic.Unit true)) r v →
      Goes x w (at_mark w.step (rest x w) (Write (place_of w) d (rest x w (WalkEnded dynamic.Unit true)))) r v
  goes_written w v d r g =
      let after : Task = rest x w (WalkEnded dynamic.Unit true) in
      let go : Task = Write (place_of w) d after in
      then_goes x w (written w (put_there w.trail d)) v (at_mark w.step (rest x w) go) after r
      (λ k. go_on (passes x w go k) (writes x (marked w) d after k) tt) g

  pub goes_read : (w v : Walk) (t d : Dynamic) (r : Result WalkAnswer OutOfMemory) → Stands w.trail t →
      d ≡ t → Goes x (giving w d) (rest x w (WalkEnded d false)) r v →
      Goes x w (at_mark w.step (rest x w) (Look (place_of w) (λ h. rest x w (WalkEnded h.value false)))) r v
  goes_read w v t d r stands same g =
      let m = marked w in
      let f : Held → Task = λ h. rest x w (WalkEnded h.value false) in
      let here : Goes x m (rest x w (WalkEnded t false)) r v =
      subst (λ (e : Dynamic). Goes x m (rest x w (WalkEnded e false)) r v) same
      (from_same x m (giving w d) v (rest x w (WalkEnded d false)) r (λ k. refl) g) in
      then_goes x w m v (at_mark w.step (rest x w) (Look (place_of w) f)) (Look (place_of w) f) r
      (passes x w (Look (place_of w) f))
      (then_goes x m m v (Look (place_of w) f) (rest x w (WalkEnded t false)) r (looks x m t f stands) here)

  -- an op-assignment
  module _ (w v : Walk) (q : Position) (a : AssignOp) (r : Result WalkAnswer OutOfMemory) where
    abbrev storing : Outcome → Task
    storing o = stored (setting x w) w.step q a w.value (place_of w) (rest x w) o

    abbrev pub operated : Task
    operated = operating (setting x w) w.step q a w.value (place_of w) (rest x w)

    abbrev outcome : Bool → Dynamic → Outcome
    outcome b d =
        if b then assignment x.engine.now.limits a.op_assign d w.value else NotBuiltIn

    pub operates_slow : x.engine.now.fast_operators ≡ false →
        Goes x w (native_stored (setting x w) w.step q a w.value (place_of w) (rest x w)) r v →
        Goes x w operated r v
    operates_slow slow g =
        then_goes x w w v operated
        (storing (outcome x.engine.now.fast_operators (look (roots_of w) (place_of w)).value)) r
        (looked x w (place_of w) (λ h. storing (outcome x.engine.now.fast_operators h.value)))
        (subst (λ (b : Bool). Goes x w
        (storing (outcome b (look (roots_of w) (place_of w)).value)) r v) (sym slow) g)

    pub operates_fast : (d : Dynamic) → Stands w.trail d → x.engine.now.fast_operators ≡ true →
        Goes x w (storing (assignment x.engine.now.limits a.op_assign d w.value)) r v →
        Goes x w operated r v
    operates_fast d stands fast g =
        then_goes x w w v operated (storing (outcome x.engine.now.fast_operators d)) r
        (looks x w d (λ h. storing (outcome x.engine.now.fast_operators h.value)) stands)
        (subst (λ (b : Bool). Goes x w (storing (outcome b d)) r v) (sym fast) g)

    pub operating_halts : Halts x w operated
    operating_halts =
        then_halts x w operated
        (storing (outcome x.engine.now.fast_operators (look (roots_of w) (place_of w)).value))
        (looked x w (place_of w) (λ h. storing (outcome x.engine.now.fast_operators h.value)))
        (stored_halts x w q a w.value _)

    pub stored_fault : (o : Outcome) (y : EvalAltResult) → FailsAt q (Ok y) o →
        Goes x w (failing w.step (problem_of y) (rest x w)) r v → Goes x w (storing o) r v
    stored_fault NotBuiltIn y f g = absurd f
    stored_fault (Gave d) y f g = absurd f
    stored_fault (ArithmeticFault text) y f g =
        subst (λ (p : Problem). Goes x w (failing w.step p (rest x w)) r v) f g
    stored_fault (TooLarge what) y f g =
        subst (λ (p : Problem). Goes x w (failing w.step p (rest x w)) r v) f g

  -- a value as it is read
  pub goes_flat : (w v : Walk) (q : Position) (d : Dynamic) (go : Dynamic → Task) (o : Option Dynamic)
      (r : Result WalkAnswer OutOfMemory) → o ≡ flat x.cells.now d →
      Goes x w (flat_or_busy w.step q (rest x w) go o) r v →
      Goes x w (flattening w.step q d (rest x w) go) r v
  goes_flat w v q d go o r same g =
      then_goes x w w v (flattening w.step q d (rest x w) go)
      (flat_or_busy w.step q (rest x w) go (flat x.cells.now d)) r
      (flattens x w d (flat_or_busy w.step q (rest x w) go))
      (subst (λ (e : Option Dynamic). Goes x w (flat_or_busy w.step q (rest x w) go e) r v) same g)

-- the last step, and one that is not
pub one_more : (c : Course) (xs : List Step) (n : ℕ) → n < length xs → Passes ≡ role_before c (drop n xs)
one_more c [] n h = absurd (omega (arith, h))
one_more c (s ∷ xs) zero h = refl
one_more c (s ∷ xs) (suc n) h = one_more c xs n (omega (arith, h))

pub no_more : (c : Course) (xs : List Step) (n : ℕ) → length xs ≤ n → last_role c ≡ role_before c (drop n xs)
no_more c [] zero h = refl
no_more c [] (suc n) h = refl
no_more c (s ∷ xs) zero h = absurd (omega (arith, h))
no_more c (s ∷ xs) (suc n) h = no_more c xs n (omega (arith, h))
