-- Steps that lead on, and the way back over newer roots.
use Rattle.std.proofs.Common.{◌≡◌, ℕ, ◌+◌, List, [], ◌∷◌, Bool, false, Option, Some, None, Result, Ok, Err, length-append, refl, sym, subst, arith}
use Rattle.grain_value.specs.declared.memory.OutOfMemory.{OutOfMemory}
use Rattle.grain_value.specs.declared.values.Dynamic.{Dynamic}
use Rattle.grain_value.specs.declared.values.Held.{Held}
use Rattle.grain_value.specs.declared.values.paths.PathStep.{PathStep}
use Rattle.grain_value.specs.declared.values.paths.PathStep.TheVariants as path_step
use Rattle.grain_program.specs.View.{View}
use Rattle.grain_means.specs.Places.{deeper}
use Rattle.grain_means.specs.Tasks.{Task, Done, Write, WalkEnded}
use Rattle.grain_means.specs.Walks.{Next, Setting, at_mark, rooted, set_back, with_key}
use Rattle.grain_chain.specs.OwnWalks.{WalksOn, own}
use Rattle.grain_chain.specs.Standings.{Standing, WentBack, key_added}
use Rattle.grain_chain.specs.Walking.{roots, roots_of, place_of, origin_of, way_back}
use Rattle.grain_chain.specs.Going.{Reaches, Takes, WentIn, Needs, NeedsOr, stopped, setting, rest, next_step, in_root, deep, aside}
use Rattle.grain_chain.specs.laws.Joining.{go_on, as_is}
use Rattle.grain_chain.specs.laws.Ways.{popped, goes_in}
use Rattle.grain_chain.specs.declared.contexts.Context.{Context}
use Rattle.grain_chain.specs.declared.origins.Origin.{Origin as CodeOrigin}
use Rattle.grain_chain.specs.declared.origins.OuterRoot.{OuterRoot}
use Rattle.grain_chain.specs.declared.trails.LeftRoot.{LeftRoot}
use Rattle.grain_chain.specs.declared.requests.WalkAnswer.{WalkAnswer}
use Rattle.grain_chain.specs.declared.walks.Walk.{Walk}
use Rattle.grain_chain.proofs.Strides.{passes, writes, marked}

-- where the newest root went
abbrev pub left_root : Walk → LeftRoot → Standing → Walk
left_root w g t = record w { trail = t; step = g.step }

module _ (x : Context) where
  -- one step further down in the same root
  pub dives : (w v : Walk) (s : PathStep) → v ≡ deep w s →
      Takes x w (at_mark w.step (rest x w) (next_step x w (deeper (place_of w) s) (rest x w))) (Ok None) v
  dives w v s e =
      subst (λ (u : Walk). Takes x w (at_mark w.step (rest x w)
      (next_step x w (deeper (place_of w) s) (rest x w))) (Ok None) u) (sym e) (
        passes x w (next_step x w (deeper (place_of w) s) (rest x w)),
        record { same = refl; grown = omega arith },
      )

  -- a key is added, and the walk goes there
  pub adds : (w v : Walk) (key : List ℕ) (d : Dynamic) →
      v ≡ record w { trail = key_added w.trail key d; marks = w.marks + 1 } →
      Takes x w (at_mark w.step (rest x w) (Write (place_of w) (with_key key d)
      (next_step x w (deeper (place_of w) (path_step.Key key)) (rest x w)))) (Ok None) v
  adds w v key d e =
      let on : Task = next_step x w (deeper (place_of w) (path_step.Key key)) (rest x w) in
      let go : Task = Write (place_of w) (with_key key d) on in
      subst (λ (u : Walk). Takes x w (at_mark w.step (rest x w) go) (Ok None) u) (sym e) (
        λ k. go_on (passes x w go k) (writes x (marked w) (with_key key d) on k) tt,
        record { same = refl; grown = omega arith },
      )

  -- a newer root
  pub enters : (w : Walk) (o : CodeOrigin) (h : Held) (next : Next) →
      Reaches x w (rooted (setting x w) w.step (origin_of o) h next (place_of w) (rest x w)) false
      (roots_of (in_root w o h)) (w.marks + 1) (next (place_of (in_root w o h)) (rest x (in_root w o h)))
  enters w o h next = λ k.
      goes_in (setting x w) x.cells.now w.trail.outer w.trail.here h w.trail.path w.step o next
      (k + w.marks) (k + (w.marks + 1)) (in_root w o h).trail.outer refl (omega arith)

  pub roots_in : (w v : Walk) (o : CodeOrigin) (h : Held) → WentIn w o h v →
      Takes x w (rooted (setting x w) w.step (origin_of o) h (next_step x w) (place_of w) (rest x w))
      (Ok None) v
  roots_in w v o h e =
      subst (λ (u : Walk). Takes x w (rooted (setting x w) w.step (origin_of o) h (next_step x w)
      (place_of w) (rest x w)) (Ok None) u) (sym e) (
        enters w o h (next_step x w),
        record {
          same = refl;
          grown = omega (arith, length-append w.trail.outer (aside w o ∷ []));
        },
      )

  -- the newest root goes
  pub leaves : (w : Walk) (g : LeftRoot) (t : Standing) (u : Dynamic) (changed : Bool) →
      WentBack w.trail (Some g) t →
      Reaches x w (rest x w (WalkEnded u changed)) false (roots_of (left_root w g t)) w.marks
      (set_back (setting x w) g.step (origin_of g.origin) (place_of (left_root w g t)) g.root.value u
      changed (rest x (left_root w g t)))
  leaves w g t u changed h = λ k.
      let o : OuterRoot = record { root = t.here; path = t.path; step = g.step; origin = g.origin } in
      subst (λ (r : Held). WalksOn x.cells.now (own (roots_of w) (k + w.marks))
      (rest x w (WalkEnded u changed)) false (own (roots_of (left_root w g t)) (k + w.marks))
      (set_back (setting x w) g.step (origin_of g.origin) (place_of (left_root w g t)) r.value u
      changed (rest x (left_root w g t)))) (sym h.1)
      (popped (setting x w) x.cells.now w.trail.outer t.outer o w.trail.here u changed (k + w.marks) h.0)

  one_root : (g : Setting) (os : List OuterRoot) (h : Held) (u : Dynamic) (changed : Bool) (k : ℕ) →
      os ≡ [] → WalksOn x.cells.now (own (roots os h) k) (way_back g 0 os Done (WalkEnded u changed)) false
      (own (h ∷ []) k) (Done (WalkEnded u changed))
  one_root g os h u changed k e =
      subst (λ (l : List OuterRoot). WalksOn x.cells.now (own (roots l h) k)
      (way_back g 0 l Done (WalkEnded u changed)) false (own (h ∷ []) k) (Done (WalkEnded u changed))) (sym e)
      (as_is refl)

  -- no newer root is left
  pub comes_home : (w : Walk) (u : Dynamic) (changed : Bool) → w.trail.outer ≡ [] →
      Reaches x w (rest x w (WalkEnded u changed)) false (w.trail.here ∷ []) w.marks
      (Done (WalkEnded u changed))
  comes_home w u changed e = λ k.
      one_root (setting x w) w.trail.outer w.trail.here u changed (k + w.marks) e

pub stops_need : (p : View) (v : Walk) (r : Result WalkAnswer OutOfMemory)
    (q : Result (Option WalkAnswer) OutOfMemory) (n : ℕ) → q ≡ stopped r → Needs p v r n →
    NeedsOr p v q n
stops_need p v (Ok a) q n e h =
    subst (λ (s : Result (Option WalkAnswer) OutOfMemory). NeedsOr p v s n) (sym e) h
stops_need p v (Err o) q n e h =
    subst (λ (s : Result (Option WalkAnswer) OutOfMemory). NeedsOr p v s n) (sym e) tt
