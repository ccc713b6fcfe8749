-- From what an instruction that was tried did to what came of it.
use Rattle.std.proofs.Common.{◌≡◌, ◌+◌, ◌-◌, ℕ, List, [], ◌∷◌, Option, Some, Bool, true, false, inl, inr, Result, Ok, length, cond, nat_lt, refl, sym, subst, ap, arith, ◌∙◌}
use Rattle.std.proofs.lemmas.List.{length-take}
use Rattle.grain_value.specs.Operands.{below}
use Rattle.grain_value.specs.declared.memory.OutOfMemory.{OutOfMemory}
use Rattle.grain_program.specs.declared.code.instruction_set.Op.{Op}
use Rattle.grain_frame.specs.declared.attempts.Attempt.{Attempt}
use Rattle.grain_frame.specs.declared.attempts.Branched.{Branched}
use Rattle.grain_frame.specs.declared.attempts.Branched.TheVariants as branched
use Rattle.grain_program.specs.declared.code.effects.Handling.TheVariants as handling
use Rattle.grain_program.specs.declared.code.effects.Looping.TheVariants as looping
use Rattle.grain_program.specs.Effects.{handling_of, looping_of}
use Rattle.grain_program.specs.Shapes.{TryHandler}
use Rattle.grain_program.specs.laws.TypedAt.{IsTypedAt, Verified}
use Rattle.grain_program.specs.Decoding.{op_at}
use Rattle.grain_program.specs.View.{View}
use Rattle.grain_host.specs.Law.{Law}
use Rattle.grain_global.specs.declared.engines.Engine.{Engine}
use Rattle.grain_means.specs.Rules.{jump_if, or_return}
use Rattle.grain_means.specs.Means.{setup}
use Rattle.grain_means.specs.Simulation.{stopped, world}
use Rattle.grain_global.specs.StepsView.{StepsView}
use Rattle.grain_frame.specs.Abstraction.{Implements, IsNoCall, Moment, Performs, Runs, Stepped, abstraction, frame_in, moment}
use Rattle.grain_frame.specs.Attempts.{BranchTried, CallsNothing, IsButJump, IsWanted, JumpsFrom, OnTrue, OnFalse, Unchanged, Attempted, attempt_branched, attempt_of, without_top}
use Rattle.grain_frame.specs.declared.activations.Activation.{Activation}
use Rattle.grain_frame.specs.declared.runs.Progress.{Progress}
use Rattle.grain_frame.specs.declared.runs.Progress.TheVariants as progress
use Rattle.grain_frame.specs.declared.runs.Run.{Run}
use Rattle.grain_frame.specs.Following.{PerformsOn}
use Rattle.grain_frame.specs.Looping.{PerformsLoop}
use Rattle.grain_frame.specs.lemmas.Arms.{implements_after, stands, stepped, to_target}
use Rattle.grain_frame.specs.lemmas.Jumping.{if_jumps}
use Rattle.grain_frame.specs.lemmas.Looping.{arm_loop}
use Rattle.grain_frame.specs.lemmas.Turns.{both}

-- what follows from what a try did
pub tried : {X Y : Type 0} (b : Bool) → OnTrue b X → (X → Y) → OnTrue b Y
tried true x g = g x
tried false x g = tt

-- what came of an instruction that is tried
pub attempted : {H : Type 0} (law : Law H) (p : View) (engine : Engine) (f f' : Activation)
    (s s' : Run H) (n n' : StepsView) (b : Bool) →
    OnTrue b ((host : H) → Stepped (setup law p engine) (moment f s n host) (Ok progress.Continues)
    (moment f' s' n' host)) →
    OnFalse b (Unchanged f s n f' s' n') → CallsNothing p f →
    Attempted (setup law p engine) f s n f' s' n' (attempt_of b)
attempted law p engine f f' s s' n n' true does undone calls = does
attempted law p engine f f' s s' n n' false does undone calls = (undone, calls)

-- an instruction that was read in the code
module _ {H : Type 0} (law : Law H) (p : View) (engine : Engine) (f : Activation) (s : Run H)
    (said o : Op) (width : ℕ) (is : said ≡ o) (runs : Runs p f s)
    (seen : (depth cursors : ℕ) (hs : List TryHandler) →
    IsTypedAt p f.chunk f.address depth cursors hs →
    Verified p f.chunk f.address depth cursors hs said width) where
  -- it calls no function
  no_call : op_at p.code f.address ≡ Some (said, width) → IsNoCall o → CallsNothing p f
  no_call read other q w at =
      let same : Some (said, width) ≡ Some (q, w) = sym read ∙ at in
      subst IsNoCall (sym is ∙ ap (λ (r : Option (Op × ℕ)). (or_return r).0) same) other

  module _ (read : op_at p.code f.address ≡ Some (said, width))
      (holds : looping_of o ≡ looping.Keep) (keeps : handling_of o ≡ handling.Keep)
      (n : StepsView) (f' : Activation) (s' : Run H) (n' : StepsView) where
    does_step : (host host' : H) {r : Result Progress OutOfMemory} →
        Performs (setup law p engine) (moment f s n host) o (f.address + width) r
        (moment f' s' n' host') →
        Stepped (setup law p engine) (moment f s n host) r (moment f' s' n' host')
    does_step host host' does =
        stepped law p engine f s said o width is runs seen read holds keeps n f' s' n'
        host host' does

    -- the instruction was tried, and it is no call
    pub tried_out : (b : Bool) (a : Attempt) → a ≡ attempt_of b →
        OnTrue b ((host : H) → Performs (setup law p engine) (moment f s n host) o
        (f.address + width)
        (Ok progress.Continues) (moment f' s' n' host)) → OnFalse b (Unchanged f s n f' s'
        n') →
        IsNoCall o → Attempted (setup law p engine) f s n f' s' n' a
    tried_out b a e does undone other =
        let calls : CallsNothing p f = no_call read other in
        rw e (attempted law p engine f f' s s' n n' b
        (tried b does (λ d host. does_step host host (d host))) undone calls)

    -- the instruction is done by what its rule says
    by_rule : (host : H) (r : Result Progress OutOfMemory) (b : Moment H) →
        Performs (setup law p engine) (moment f s n host) o (f.address + width) r b →
        Stepped (setup law p engine) (moment f s n host) r b
    by_rule host r b does =
        stepped law p engine f s said o width is runs seen read holds keeps n b.frame b.run b.counts
        host b.host does

    -- a jump is left to do
    pub left_to_jump : (target : ℕ) →
        ((host : H) (r : Result Progress OutOfMemory) (b : Moment H) →
        JumpsFrom (setup law p engine) f s n target r host b →
        Performs (setup law p engine) (moment f s n host) o (f.address + width) r b) →
        IsButJump (setup law p engine) f s n f s n target
    left_to_jump target jumps = record {
      inside = runs.inside;
      leads = λ host r b did. by_rule host r b (jumps host r b did);
    }

    -- what a branch does
    abbrev Branches : Bool → ℕ → Result Progress OutOfMemory → H → Moment H → Type 0
    Branches wanted target r host b = Implements (setup law p engine) (moment f s n host)
        (λ m place w. jump_if m wanted target (f.address + width) (frame_in f s place) w)
        (cond (nat_lt target (f.address + width)) (target ∷ (f.address + width) ∷ [])
        ((f.address + width) ∷ target ∷ [])) 1 0 s.stacks.handlers r b

    -- its truth value is taken, and it is the wanted one: the jump is left to do
    branch_jumps : (wanted : Bool) (target : ℕ) → IsWanted s wanted →
        (host : H) (r : Result Progress OutOfMemory) (b : Moment H) →
        JumpsFrom (setup law p engine) f (without_top s) n target r host b →
        Branches wanted target r host b
    branch_jumps wanted target is_so host r b did =
        let long = length-take (length s.stacks.operands - 1) s.stacks.operands in
        let rest = record s.stacks { operands = below s.stacks.operands } in
        implements_after law p engine f b.frame s b.run n b.counts rest (below s.stacks.operands) host
        b.host refl did
        (λ stop u place.
        if_jumps (stopped (setup law p engine) stop) f s rest wanted target (f.address + width) is_so.0
        is_so.1 place (world (abstraction s n host) u) is_so.2 is_so.3 is_so.4 refl)
        (to_target target (f.address + width)) (omega (arith, long)) (omega (arith, long))

    -- a branch was tried
    pub tried_branch : (wanted : Bool) (target : ℕ) →
        ((host : H) (r : Result Progress OutOfMemory) (b : Moment H) →
        Branches wanted target r host b →
        Performs (setup law p engine) (moment f s n host) o (f.address + width) r b) →
        (t : Branched) (a : Attempt) → a ≡ attempt_branched t target →
        BranchTried (setup law p engine) f s n wanted target (f.address + width) f' s' n' t →
        IsNoCall o → Attempted (setup law p engine) f s n f' s' n' a
    tried_branch wanted target does branched.Done a e did other =
        rw e (λ host. by_rule host (Ok progress.Continues) (moment f' s' n' host)
        (does host (Ok progress.Continues) (moment f' s' n' host) (did host)))
    tried_branch wanted target does branched.Jumps a e did other =
        rw (e, did.0, did.1, did.2) (record {
          inside = runs.inside;
          leads = λ host r b jumps.
              by_rule host r b (does host r b (branch_jumps wanted target did.3 host r b jumps));
        })
    tried_branch wanted target does branched.Undone a e did other = rw e (did, no_call read other)

  -- an instruction that changes the cursors was tried, and it is no call
  pub tried_loop : (read : op_at p.code f.address ≡ Some (said, width)) (n : StepsView)
      (f' : Activation) (s' : Run H) (n' : StepsView) (b : Bool) (a : Attempt) → a ≡ attempt_of b →
      OnTrue b ((host : H) → PerformsLoop (setup law p engine) (moment f s n host) o
      (f.address + width) (Ok progress.Continues) (moment f' s' n' host)) →
      OnFalse b (Unchanged f s n f' s' n') → IsNoCall o →
      Attempted (setup law p engine) f s n f' s' n' a
  tried_loop read n f' s' n' b a e does undone other =
      let calls : CallsNothing p f = no_call read other in
      rw e (attempted law p engine f f' s s' n n' b (tried b does (λ d host. on host (d host)))
      undone calls) where
        on : (host : H) →
            PerformsLoop (setup law p engine) (moment f s n host) o (f.address + width)
            (Ok progress.Continues) (moment f' s' n' host) →
            Stepped (setup law p engine) (moment f s n host) (Ok progress.Continues)
            (moment f' s' n' host)
        on host did =
            arm_loop {law = law} {p = p} {engine = engine} {f = f} {f' = f'} {s = s} {s' = s'}
            {n = n} {n' = n'} {host = host} {host' = host} {said = o} {o = o} refl
            (stands law p engine f s said o width is runs seen read) runs did

  -- an instruction was tried, perhaps with the one after it, and it is no call
  pub tried_on : (read : op_at p.code f.address ≡ Some (said, width))
      (holds : looping_of o ≡ looping.Keep) (keeps : handling_of o ≡ handling.Keep)
      (n : StepsView) (f' : Activation) (s' : Run H) (n' : StepsView) (b : Bool) (a : Attempt) →
      a ≡ attempt_of b →
      OnTrue b ((host : H) → PerformsOn (setup law p engine) (moment f s n host) o
      (f.address + width) (moment f' s' n' host)) →
      OnFalse b (Unchanged f s n f' s' n') → IsNoCall o →
      Attempted (setup law p engine) f s n f' s' n' a
  tried_on read holds keeps n f' s' n' b a e does undone other =
      let calls : CallsNothing p f = no_call read other in
      rw e (attempted law p engine f f' s s' n n' b (tried b does (λ d host. on host (d host)))
      undone calls) where
        on : (host : H) →
            PerformsOn (setup law p engine) (moment f s n host) o (f.address + width)
            (moment f' s' n' host) →
            Stepped (setup law p engine) (moment f s n host) (Ok progress.Continues)
            (moment f' s' n' host)
        on host (inl does) = does_step read holds keeps n f' s' n' host host does
        on host (inr two) =
            both law p engine f two.frame f' s two.run s' n two.counts n' host
            (does_step read holds keeps n two.frame two.run two.counts host host two.first) two.second
