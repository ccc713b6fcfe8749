-- Rules that begin with a mark, whatever they come to: memory may be out there.
use Rattle.std.proofs.Common.{ℕ, List, Bool, true, false, Option, Some, None}
use Rattle.std.specs.Prelude.{if◌then◌else◌}
use Rattle.grain_value.specs.declared.values.Dynamic.{Dynamic}
use Rattle.grain_value.specs.declared.values.Held.{Held}
use Rattle.grain_value.specs.declared.values.locating.Spot.{Spot}
use Rattle.grain_fault.specs.declared.places.Position.{Position}
use Rattle.grain_program.specs.declared.code.parts.AssignOp.{AssignOp}
use Rattle.grain_ops.specs.Outcomes.{Outcome, NotBuiltIn, Gave, ArithmeticFault, TooLarge}
use Rattle.grain_means.specs.Tasks.{Task}
use Rattle.grain_means.specs.Walks.{Role, Origin, Next, flat_or_busy, flattening, missing_key, assigning, stored, put_part}
use Rattle.grain_chain.specs.Walking.{roots_of, place_of}
use Rattle.grain_chain.specs.Going.{Reaches, given_up, rest, setting}
use Rattle.grain_chain.specs.declared.contexts.Context.{Context}
use Rattle.grain_chain.specs.declared.walks.Walk.{Walk}
use Rattle.grain_chain.specs.laws.Joining.{go_on}
use Rattle.grain_chain.proofs.Strides.{halts, flattens}

module _ (x : Context) (w : Walk) where
  -- the walk gives up at the next mark
  abbrev pub Halts : Task → Type 0
  Halts t = Reaches x w t true (roots_of w) w.marks (given_up x w)

  pub then_halts : (t t1 : Task) → Reaches x w t false (roots_of w) w.marks t1 → Halts t1 → Halts t
  then_halts t t1 h g = λ k. go_on (h k) (g k) tt

  either : (b : Bool) (t u : Task) → Halts t → Halts u → Halts (if b then t else u)
  either true t u h i = h
  either false t u h i = i

  pub missing_halts : (q : Position) (o : Origin) (role : Role) (k : List ℕ) (h : Held)
      (next : Next) →
      Halts (missing_key (setting x w) w.step q o role k h next (place_of w) (rest x w))
  missing_halts q o role k h next =
      either (assigning role) _ _ (halts x w _)
      (either x.engine.now.strict_properties _ _ (halts x w _) (halts x w _))

  pub flat_halts : (q : Position) (go : Dynamic → Task) (o : Option Dynamic) →
      ((v : Dynamic) → Halts (go v)) → Halts (flat_or_busy w.step q (rest x w) go o)
  flat_halts q go None h = halts x w _
  flat_halts q go (Some v) h = h v

  pub flattening_halts : (q : Position) (v : Dynamic) (go : Dynamic → Task) →
      ((u : Dynamic) → Halts (go u)) → Halts (flattening w.step q v (rest x w) go)
  flattening_halts q v go h =
      then_halts _ _ (flattens x w v (flat_or_busy w.step q (rest x w) go)) (flat_halts q go _ h)

  pub stored_halts : (q : Position) (a : AssignOp) (v : Dynamic) (o : Outcome) →
      Halts (stored (setting x w) w.step q a v (place_of w) (rest x w) o)
  stored_halts q a v NotBuiltIn = halts x w _
  stored_halts q a v (Gave r) = halts x w _
  stored_halts q a v (ArithmeticFault text) = halts x w _
  stored_halts q a v (TooLarge what) = halts x w _

  pub part_halts : (s : Spot) (v u : Dynamic) (changed : Bool) (o : Option Dynamic) →
      Halts (put_part (setting x w) w.step s (place_of w) v u changed (rest x w) o)
  part_halts s v u changed None = halts x w _
  part_halts s v u changed (Some d) = halts x w _
