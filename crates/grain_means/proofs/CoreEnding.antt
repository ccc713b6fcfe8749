-- A core program's run ends by the rules of the core alone just as it ends by all rules.
use Rattle.std.proofs.Common.{◌≡◌, ◌+◌, inl, inr, ℕ, zero, suc, List, [], ◌∷◌, Option, Some, None, true, slice_get, refl, sym, subst, arith}
use Rattle.grain_program.specs.Decoding.{op_at}
use Rattle.grain_program.specs.Layout.{chunks_in}
use Rattle.grain_program.specs.Typing.{In, IsProgram}
use Rattle.grain_program.specs.View.{View}
use Rattle.grain_program.specs.declared.code.instruction_set.Op.{Op}
use Rattle.grain_host.specs.Law.{Law}
use Rattle.grain_global.specs.declared.engines.Engine.{Engine}
use Rattle.grain_global.specs.Engines.{with_callbacks}
use Rattle.grain_means.specs.Comes.{Comes, Stands, here, further, within, behind}
use Rattle.grain_means.specs.Core.{CoreEnds, CoreMeans, core_ended, core_went, core_joined, IsCore, is_core, is_core_todo}
use Rattle.grain_means.specs.Ends.{Ends, ended, went, joined}
use Rattle.grain_means.specs.Length.{run_length}
use Rattle.grain_means.specs.Means.{Begin, Finish, Means, first_world, last_world, setup}
use Rattle.grain_means.specs.Rules.{main, or_return}
use Rattle.grain_means.specs.Worlds.{Act, Answer, Frame, InCatch, InFrame, InHost, Setup, Todo, World}
use Rattle.grain_means.proofs.Called.{called_counts, called_stands}

-- the core's rules are among all rules
pub core_ends : {S : Type 0} {m : Setup S} {act : Act S} {a : Answer} {w : World S} →
    CoreEnds m act a w → Ends m act a w
core_ends core_ended = ended
core_ends (core_went core run) = went (core_ends run)
core_ends (core_joined one two) = joined (core_ends one) (core_ends two)

-- what stands at an index of a list is in it
in_by_index : {A : Type 0} (xs : List A) (n : ℕ) (x : A) → slice_get xs n ≡ Some x → In x xs
in_by_index [] n x e = absurd cc
in_by_index (y ∷ ys) zero x e = inl cc
in_by_index (y ∷ ys) (suc n) x e = inr (in_by_index ys n x e)

-- an instruction at which a frame stands is of the core
core_stands : (p : View) → IsCore p → (f : Frame) → Stands p f →
    is_core p (or_return (op_at p.code f.address)).0 ≡ true
core_stands p core f s =
    subst (λ (r : Option (Op × ℕ)). is_core p (or_return r).0 ≡ true) (sym s.stands)
    (core s.chunk f.address s.width s.instruction (in_by_index (chunks_in p) s.number s.chunk s.is)
    s.start s.stands)

module _ {S : Type 0} (m : Setup S) (core : IsCore m.program) (root : Act S)
    (provided : (f : Frame) (w : World S) → Comes m (InFrame f) w root → Stands m.program f) where
  -- what the run of an act comes to, the run of the root comes to
  abbrev From : Act S → Type 0
  From act = (t : Todo) (w : World S) → Comes m t w act → Comes m t w root

  of_core : (t : Todo) (w : World S) → Comes m t w root → is_core_todo m.program t ≡ true
  of_core (InFrame f) w comes = core_stands m.program core f (provided f w comes)
  of_core (InCatch f h x) w comes = refl
  of_core (InHost c) w comes = refl

  pub ends_in_core : {act : Act S} {a : Answer} {w : World S} → From act → Ends m act a w →
      CoreEnds m act a w
  ends_in_core from ended = core_ended
  ends_in_core from (went {t = t} {w = w} run) =
      core_went (of_core t w (from t w here)) (ends_in_core (λ u v comes. from u v (further comes)) run)
  ends_in_core from (joined one two) = core_joined
      (ends_in_core (λ u v comes. from u v (within comes)) one)
      (ends_in_core (λ u v comes. from u v (behind one comes)) two)

-- So a whole program: its instructions are as many as any run of it counts, and all that its run comes to
-- is of the core.
module _ {S : Type 0} (law : Law S) (program : View) (engine : Engine) (b : Begin S) (e : Finish S) where
  abbrev machine : Setup S
  machine = setup law program (with_callbacks true engine)

  pub core_to_whole : CoreMeans law program engine b e →
      (n : ℕ) × Means law program (with_callbacks true engine) b e n
  core_to_whole end =
      let run : Ends machine (main machine (first_world b)) e.answer (last_world e end.0 end.1) =
      core_ends end.2 in
      let counted : end.0 ≡ 0 + run_length run =
      (called_counts machine None (first_world b) (last_world e end.0 end.1) e.answer run refl).0 in
      (end.0, (end.1, (run, omega (arith, counted))))

  pub whole_to_core : IsProgram program → IsCore program → (n : ℕ) →
      Means law program (with_callbacks true engine) b e n → CoreMeans law program engine b e
  whole_to_core valid core n end = (
    n,
    end.0,
    ends_in_core machine core (main machine (first_world b))
        (λ f w comes. called_stands machine valid None (first_world b) w f refl comes)
        (λ t w comes. comes) end.1.0,
  )
