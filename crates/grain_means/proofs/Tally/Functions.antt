-- The walk over the rules through an operation that is taken for a call, and through a function that is
-- called: for any run, whatever follows.
use Rattle.std.proofs.Common.{◌≡◌, ◌<◌, ◌⊎◌, ◌+◌, ℕ, List, [], Option, true, false, refl, sym, subst, inl, inr, arith, length, nat_le, nat_lt}
use Rattle.std.proofs.lemmas.Bool.{ltb-true, ltb-false, leb-true, leb-false}
use Rattle.grain_value.specs.declared.values.Dynamic.{Dynamic}
use Rattle.grain_value.specs.declared.values.Held.{Held}
use Rattle.grain_fault.specs.Classes.{catchable}
use Rattle.grain_fault.specs.Positions.{at_position}
use Rattle.grain_fault.specs.Problems.{Problem, Plain, InFunctionCall, NoMemory, StackOverflow, Terminated, TooManyOperations, TooManyVariables}
use Rattle.grain_fault.specs.declared.places.Position.{Position}
use Rattle.grain_host.specs.Law.{Verdict, GoOn, Stop}
use Rattle.grain_program.specs.Typing.{IsProgram}
use Rattle.grain_program.specs.View.{name_of, source_text}
use Rattle.grain_program.specs.declared.code.functions.Function.{Function}
use Rattle.grain_means.specs.Comes.{Comes, here}
use Rattle.grain_means.specs.Ends.{Ends, joined}
use Rattle.grain_means.specs.Leavings.{Cuts}
use Rattle.grain_means.specs.Rules.{body_entered, body_over, bound, frame_at, function_under, is_stop, marked_or, on_verdict_or, operation_taken, progressed_or}
use Rattle.grain_means.specs.Worlds.{Act, Go, Then, Answer, Came, Failed, Frame, InFrame, Place, Setup, World}
use Rattle.grain_means.specs.Causes.{Cause, Caused, IsEntered, IsKeptOut, IsTaken, Raised, ThreePassed, Why, body_begins}
use Rattle.grain_means.specs.Causes.Spots.{past}
use Rattle.grain_means.proofs.Choices.{if_false, if_true}
use Rattle.grain_means.proofs.Footing.{Onto, Tally, by_test, cause_in}
use Rattle.grain_means.proofs.Ground.{Footing}
use Rattle.grain_means.proofs.Kept.{keeps_nothing}
use Rattle.grain_means.proofs.Roles.{Role, Framed}
use Rattle.grain_means.proofs.Standing.{Fitting}
use Rattle.grain_means.proofs.Unlent.{Unlent, unlent_same}

-- a world after n instructions with the tokens, the level and the scope of the first, and no cell is lent
-- that was not
abbrev pub Beside : {S : Type 0} → World S → ℕ → World S → Type 0
Beside w n u = (u.ran ≡ n) × (u.tokens ≡ w.tokens) × (u.level ≡ w.level) × (u.scope ≡ w.scope) ×
    Unlent w.cells u.cells

-- what the second act comes to, the first comes to
abbrev pub EndsAs : {S : Type 0} → Setup S → Act S → Act S → Type 0
EndsAs {S = S} m whole act = (a : Answer) (v : World S) → Ends m act a v → Ends m whole a v

-- A function is called at this position, on these arguments and under this `this`, in a world.
module _ {S : Type 0} (m : Setup S) (root turn : Act S) (q : Position) (g : Function)
    (args : List Held) (this : Option Place) (w : World S) where
  -- a fault that says which function it left
  abbrev pub wrapped : Problem → Problem
  wrapped x = InFunctionCall (name_of m.program g.name) (source_text m.program) x q

  -- the run of the body
  abbrev pub body_run : Act S
  body_run = Go (InFrame (frame_at g.chunk 0 this)) (body_begins m g args w)

  -- the body ended with the first fault, and so the call ends with the second
  pub record FromBody (x y : Problem) : Type 0 where
    pub onto : Onto m body_run root
    pub begins : Comes m (InFrame (frame_at g.chunk 0 this)) (body_begins m g args w) turn
    pub entered : IsEntered m g w
    pub after : World S
    pub ends : Ends m body_run (Failed x) after
    pub how : ((catchable x ≡ true) × Raised m body_run (w.level + 1) x (Why m x) × (y ≡ wrapped x))
        ⊎ ((catchable x ≡ false) × Cause m body_run (w.level + 1) x × (y ≡ at_position q x))

module _ {S : Type 0} (m : Setup S) (role : Role) (root turn : Act S) (k : Footing) where
  abbrev pub Goes : ℕ → Act S → Type 0
  Goes r act = Tally m role root turn r k act

  -- A call at this position in a world, what follows from its answer, and what else may follow from it: the
  -- end of a run.
  module _ (q : Position) (w : World S) (whole_run : Act S) (heard said : Answer → World S → Act S)
      (over_out : (u : World S) (n : ℕ) → is_stop m.stop u.passed ≡ true → Beside w n u →
      Goes n (heard (Failed NoMemory) u)) where
    abbrev out : World S → Act S
    out = heard (Failed NoMemory)

    abbrev fails : Problem → World S → Act S
    fails x = heard (Failed x)

    abbrev out_said : World S → Act S
    out_said = said (Failed NoMemory)

    abbrev fails_said : Problem → World S → Act S
    fails_said x = said (Failed x)

    -- what this comes to, the run comes to
    abbrev pub Whole : Act S → Type 0
    Whole act = EndsAs m whole_run act

    -- a mark
    pub passes : (n : ℕ) (u : World S) (go go_said : World S → Act S) → Beside w n u →
        Whole (marked_or m out_said u go_said) →
        (is_stop m.stop u.passed ≡ false → Whole (go_said (past u)) → Goes n (go (past u))) →
        Goes n (marked_or m out u go)
    passes n u go go_said at whole rest =
        by_test (Goes n) (is_stop m.stop u.passed) (out u) (go (past u))
        (λ stop. over_out u n stop at)
        (λ clear. rest clear (λ a v ends. whole a v (if_false (λ (act : Act S). Ends m act a v)
        (is_stop m.stop u.passed) (out_said u) (go_said (past u)) clear ends)))

    -- the world once the operation is counted, and once the host has heard of it
    abbrev counted : World S
    counted = record (past w) { count = w.count + 1 }

    abbrev pub told : World S
    told = record counted {
      passed = counted.passed + 1 + 1;
      host = m.law.progress_after w.host (w.count + 1);
    }

    module _ (r : ℕ) (ran : w.ran ≡ r) (params : ℕ)
        (kept_out : (x : Problem) → IsKeptOut m q params w x → (u : World S) → Beside w r u →
        Goes r (heard (Failed x) u)) where
      same : Beside w r told
      same = (ran, refl, refl, refl, unlent_same w.cells)

      -- a fault after a mark
      pub raises : (x : Problem) (u : World S) →
          (is_stop m.stop u.passed ≡ false → IsKeptOut m q params w x) → Beside w r u →
          Goes r (marked_or m out u (fails x))
      raises x u reason at =
          by_test (Goes r) (is_stop m.stop u.passed) (out u) (fails x (past u))
          (λ stop. over_out u r stop at) (λ clear. kept_out x (reason clear) (past u) at)

      -- an operation is taken
      module _ (go go_said : World S → Act S) where
        -- what the host says of the operation
        even_verdict : (IsTaken m w → Whole (go_said told) → Goes r (go told)) →
            (says : Verdict) → m.law.progress_reply w.host (w.count + 1) ≡ says →
            w.count < m.engine.limits.operations → ThreePassed m w.passed →
            Whole (on_verdict_or m out_said says q fails_said told go_said) →
            Goes r (on_verdict_or m out says q fails told go)
        even_verdict rest GoOn e fits_in clear whole = rest ((fits_in, e), clear) whole
        even_verdict rest (Stop v) e fits_in clear whole =
            raises (Plain (Terminated v) q) told
            (λ last. inr (inl (v, fits_in, clear, e, last, refl))) same

        pub even_taken : (IsTaken m w → Whole (go_said told) → Goes r (go told)) →
            Whole (operation_taken m out_said q fails_said w go_said) →
            Goes r (operation_taken m out q fails w go)
        even_taken rest whole =
            let few = nat_lt w.count m.engine.limits.operations in
            let after : World S → World S =
            λ w1. record w1 { host = m.law.progress_after w1.host w1.count } in
            let hears : World S → World S → Act S = λ w1 w2. on_verdict_or m out
            (m.law.progress_reply w1.host w1.count) q fails w2 go in
            let hears_said : World S → World S → Act S = λ w1 w2. on_verdict_or m out_said
            (m.law.progress_reply w1.host w1.count) q fails_said w2 go_said in
            by_test (Goes r) few
            (marked_or m out w (λ w1. progressed_or m out q fails (record w1 { count = w1.count + 1 })
            go))
            (marked_or m out w (fails (Plain TooManyOperations q)))
            (λ yes. passes r w (λ w1. progressed_or m out q fails (record w1 { count = w1.count + 1 })
            go) (λ w1. progressed_or m out_said q fails_said
            (record w1 { count = w1.count + 1 }) go_said) same
            (λ a v ends. whole a v (if_true (λ (act : Act S). Ends m act a v) few _
            (marked_or m out_said w (fails_said (Plain TooManyOperations q))) yes ends))
            (λ one whole0. passes r counted (λ w1. marked_or m out (after w1) (hears w1))
            (λ w1. marked_or m out_said (after w1) (hears_said w1)) same whole0
            (λ two whole1. passes r (after (past counted)) (hears (past counted))
            (hears_said (past counted)) same whole1
            (λ three. even_verdict rest (m.law.progress_reply w.host (w.count + 1)) refl
            (ltb-true w.count m.engine.limits.operations yes) (one, two, three)))))
            (λ full. raises (Plain TooManyOperations q) w
            (λ clear. inl (ltb-false w.count m.engine.limits.operations full, clear, refl)) same)

    -- a function is called on these arguments, under this `this`, after r instructions
    module _ (g : Function) (args : List Held) (this : Option Place)
        (fits : IsProgram m.program → Fitting m.program (frame_at g.chunk 0 this))
        (r : ℕ) (ran : w.ran ≡ r) (t : w.trace ≡ [])
        (kept_out : (x : Problem) → IsKeptOut m q (length g.params) w x → (u : World S) →
        Beside w r u → Goes r (heard (Failed x) u)) where
      abbrev body_frame : Frame
      body_frame = frame_at g.chunk 0 this

      abbrev up : ℕ
      up = w.level + 1

      -- a fault that says which function it left
      abbrev named : Problem → Problem
      named x = wrapped m root turn q g args this w x

      module _ (over_body : (x y : Problem) → FromBody m root turn q g args this w x y →
          (u : World S) (n : ℕ) → Whole (said (Failed y) u) → Beside w n u → Goes n (heard (Failed y) u))
          (over_value : (d : Dynamic) (u : World S) (n : ℕ) → Whole (said (Came d) u) →
          Beside w n u → u.trace ≡ [] → Goes n (heard (Came d) u)) where
        abbrev inside : World S
        inside = record told {
          passed = told.passed + 1;
          scope = bound m.program g.params args;
          level = told.level + 1;
        }

        abbrev body : Act S
        body = Go (InFrame body_frame) inside

        -- the body is over
        abbrev back : World S → World S
        back u = record u { scope = w.scope; level = w.level }

        even_over : IsEntered m g w → Onto m body root → Onto m body turn → (x : Answer) (u : World S) →
            Ends m body x u → u.tokens ≡ w.tokens → Unlent w.cells u.cells → Cuts m body up 0 x u →
            Caused m body up x u → Whole (Then body (λ a v. body_over m q g said a (back v))) →
            Goes u.ran (body_over m q g heard x (back u))
        even_over entered onto mine (Came d) u ends tokens cells cut cause whole =
            over_value d (back u) u.ran (λ a v rest. whole a v (joined ends rest))
            (refl, tokens, refl, refl, cells) cut
        even_over entered onto mine (Failed x) u ends tokens cells cut cause whole =
            by_test (Goes u.ran) (catchable x)
            (marked_or m out (back u) (fails (named x)))
            (fails (at_position q x) (back u))
            (λ may. passes u.ran (back u) (fails (named x)) (fails_said (named x)) at
            (λ a v rest. over a v (if_true (λ (act : Act S). Ends m act a v) (catchable x)
            (marked_or m out_said (back u) (fails_said (named x)))
            (fails_said (at_position q x) (back u)) may rest))
            (λ clear on. over_body x (named x) (record {
              onto = onto;
              begins = mine (InFrame body_frame) inside here;
              entered = entered;
              after = u;
              ends = ends;
              how = inl (may, cause_in m body up x u may cause, refl);
            }) (past (back u)) u.ran on at))
            (λ passing. by_cause passing cause) where
              at : Beside w u.ran (back u)
              at = (refl, tokens, refl, refl, cells)

              over : Whole (body_over m q g said (Failed x) (back u))
              over = λ a v rest. whole a v (joined ends rest)

              by_cause : catchable x ≡ false → Caused m body up (Failed x) u →
                  Goes u.ran (fails (at_position q x) (back u))
              by_cause passing (inl c) =
                  subst (λ (y : Problem). Goes u.ran (fails (at_position q y) (back u))) (sym c.0)
                  (over_out (back u) u.ran c.1 at)
              by_cause passing (inr c) =
                  over_body x (at_position q x) (record {
                    onto = onto;
                    begins = mine (InFrame body_frame) inside here;
                    entered = entered;
                    after = u;
                    ends = ends;
                    how = inr (passing, c, refl);
                  }) (back u) u.ran (λ a v rest. over a v
                  (if_false (λ (act : Act S). Ends m act a v) (catchable x)
                  (marked_or m out_said (back u) (fails_said (named x)))
                  (fails_said (at_position q x) (back u)) passing rest)) at

        abbrev running : (Answer → World S → Act S) → Act S
        running go = Then body (λ a v. body_over m q g go a (back v))

        even_running : IsEntered m g w → Whole (running said) → Goes r (running heard)
        even_running entered whole =
            let j : Footing =
            record { tokens = w.tokens; level = up; base = 0; names = []; cells = w.cells } in (
              j,
              Framed,
              (
                ran,
                refl,
                refl,
                record {
                  keeps = keeps_nothing (bound m.program g.params args);
                  unlent = unlent_same w.cells;
                },
                (t, (refl, omega arith, fits, tt, (refl, refl))),
              ),
              λ onto mine x u ends tokens high there end.
                  even_over entered onto mine x u ends tokens there.unlent end.0 end.1 whole,
            )

        -- once the operation is taken
        abbrev entering : (Answer → World S → Act S) → World S → Act S
        entering go = body_entered m (go (Failed NoMemory)) (λ x. go (Failed x)) q g args this
            (body_over m q g go)

        even_entering : IsTaken m w → Whole (entering said told) → Goes r (entering heard told)
        even_entering taken whole =
            let high = nat_le m.engine.limits.levels w.level in
            let many = nat_lt m.engine.limits.variables (length g.params) in
            let deep : World S → Act S = fails (Plain StackOverflow q) in
            let deep_said : World S → Act S = fails_said (Plain StackOverflow q) in
            let full : World S → Act S = fails (Plain TooManyVariables q) in
            let full_said : World S → Act S = fails_said (Plain TooManyVariables q) in
            let at : Beside w r told = (ran, refl, refl, refl, unlent_same w.cells) in
            by_test (Goes r) high (marked_or m out told deep) _
            (λ yes. raises r ran (length g.params) kept_out (Plain StackOverflow q) told
            (λ clear. inr (inr (inl (taken, leb-true m.engine.limits.levels w.level yes, clear, refl))))
            at)
            (λ low. by_test (Goes r) many (marked_or m out told full)
            (marked_or m out told (λ w1. Then (Go (InFrame body_frame) (record w1 {
              scope = bound m.program g.params args;
              level = w1.level + 1;
            })) (λ a v. body_over m q g heard a (back v))))
            (λ yes. raises r ran (length g.params) kept_out (Plain TooManyVariables q) told
            (λ clear. inr (inr (inr (
              taken,
              leb-false m.engine.limits.levels w.level low,
              ltb-true m.engine.limits.variables (length g.params) yes,
              clear,
              refl,
            )))) at)
            (λ few. passes r told (λ w1. Then (Go (InFrame body_frame) (record w1 {
              scope = bound m.program g.params args;
              level = w1.level + 1;
            })) (λ a v. body_over m q g heard a (back v)))
            (λ w1. Then (Go (InFrame body_frame) (record w1 {
              scope = bound m.program g.params args;
              level = w1.level + 1;
            })) (λ a v. body_over m q g said a (back v))) at
            (λ a v ends. whole a v (if_false (λ (act : Act S). Ends m act a v) high
            (marked_or m out_said told deep_said) _ low (if_false (λ (act : Act S). Ends m act a v) many
            (marked_or m out_said told full_said) _ few ends)))
            (λ clear. even_running (
              taken,
              leb-false m.engine.limits.levels w.level low,
              ltb-false m.engine.limits.variables (length g.params) few,
              clear,
            ))))

        pub even_function : Whole (function_under m q g args said this w) →
            Goes r (function_under m q g args heard this w)
        even_function =
            even_taken r ran (length g.params) kept_out (entering heard) (entering said) even_entering
