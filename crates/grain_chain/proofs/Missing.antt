-- A key that a map does not have.
use Rattle.std.proofs.Common.{◌≡◌, ◌+◌, ℕ, List, Bool, true, false, Option, None, Result, Ok, sym, subst}
use Rattle.std.specs.Prelude.{if◌then◌else◌}
use Rattle.grain_value.specs.declared.memory.OutOfMemory.{OutOfMemory}
use Rattle.grain_value.specs.declared.values.Dynamic.{Dynamic}
use Rattle.grain_value.specs.declared.values.Dynamic.TheVariants as dynamic
use Rattle.grain_value.specs.declared.values.paths.PathStep.TheVariants as path_step
use Rattle.grain_fault.specs.Problems.{Plain, PropertyNotFound}
use Rattle.grain_fault.specs.declared.places.Position.{Position}
use Rattle.grain_means.specs.Places.{deeper}
use Rattle.grain_means.specs.Tasks.{Task, Write}
use Rattle.grain_means.specs.Walks.{Role, at_mark, failing, rooted, missing_key, assigning, with_key}
use Rattle.grain_chain.specs.Standings.{key_added}
use Rattle.grain_chain.specs.Walking.{place_of, origin_of}
use Rattle.grain_chain.specs.Going.{Takes, WentIn, setting, rest, next_step, with_value}
use Rattle.grain_chain.specs.declared.contexts.Context.{Context}
use Rattle.grain_chain.specs.declared.origins.Origin.{Origin as CodeOrigin}
use Rattle.grain_chain.specs.declared.requests.WalkAnswer.{WalkAnswer}
use Rattle.grain_chain.specs.declared.walks.Walk.{Walk}
use Rattle.grain_chain.proofs.Roots.{adds, roots_in}

module _ (x : Context) (w v : Walk) (q : Position) (o : CodeOrigin) (role : Role) (key : List ℕ)
    (d : Dynamic) where
  abbrev adding : Task
  adding =
      at_mark w.step (rest x w) (Write (place_of w) (with_key key d)
      (next_step x w (deeper (place_of w) (path_step.Key key)) (rest x w)))

  abbrev refusing : Task
  refusing = failing w.step (Plain (PropertyNotFound key) q) (rest x w)

  abbrev rooting : Task
  rooting =
      rooted (setting x w) w.step (origin_of o) (record (with_value w d) { value = dynamic.Unit })
      (next_step x w) (place_of w) (rest x w)

  abbrev pub rule : Task
  rule =
      missing_key (setting x w) w.step q (origin_of o) role key (with_value w d) (next_step x w)
      (place_of w) (rest x w)

  pub missing_adds : assigning role ≡ true →
      v ≡ record w { trail = key_added w.trail key d; marks = w.marks + 1 } → Takes x w rule (Ok None) v
  missing_adds e h =
      subst (λ (b : Bool). Takes x w (if b then adding
      else (if x.engine.now.strict_properties then refusing else rooting)) (Ok None) v) (sym e)
      (adds x w v key d h)

  pub missing_fails : (r : Result (Option WalkAnswer) OutOfMemory) → assigning role ≡ false →
      x.engine.now.strict_properties ≡ true → Takes x w refusing r v → Takes x w rule r v
  missing_fails r e strict h =
      subst (λ (b : Bool). Takes x w (if b then adding
      else (if x.engine.now.strict_properties then refusing else rooting)) r v) (sym e)
      (subst (λ (b : Bool). Takes x w (if b then refusing else rooting) r v) (sym strict) h)

  pub missing_roots : assigning role ≡ false → x.engine.now.strict_properties ≡ false →
      WentIn w o (record (with_value w d) { value = dynamic.Unit }) v → Takes x w rule (Ok None) v
  missing_roots e lax h =
      subst (λ (b : Bool). Takes x w (if b then adding
      else (if x.engine.now.strict_properties then refusing else rooting)) (Ok None) v) (sym e)
      (subst (λ (b : Bool). Takes x w (if b then refusing else rooting) (Ok None) v) (sym lax)
      (roots_in x w v o (record (with_value w d) { value = dynamic.Unit }) h))
