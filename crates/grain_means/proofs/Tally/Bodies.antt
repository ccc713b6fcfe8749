-- The walk over the rules through a function that is called under a `this`, or by the walk of a chain.
use Rattle.std.proofs.Common.{◌≡◌, ◌⊎◌, ◌+◌, ℕ, List, [], Option, Some, true, false, refl, sym, subst, ap, ◌∙◌, inl, inr, length}
use Rattle.grain_value.specs.declared.values.Dynamic.{Dynamic}
use Rattle.grain_value.specs.declared.values.Held.{Held}
use Rattle.grain_value.specs.declared.scopes.Entry.{Entry}
use Rattle.grain_fault.specs.Classes.{catchable}
use Rattle.grain_fault.specs.Positions.{at_position}
use Rattle.grain_fault.specs.Problems.{Problem, InFunctionCall, NoMemory}
use Rattle.grain_fault.specs.declared.places.Position.{Position}
use Rattle.grain_program.specs.Decoding.{op_at}
use Rattle.grain_program.specs.Typing.{IsProgram}
use Rattle.grain_program.specs.View.{name_of, source_text}
use Rattle.grain_program.specs.declared.code.functions.Function.{Function}
use Rattle.grain_program.specs.declared.code.instruction_set.Op.{Op}
use Rattle.grain_means.specs.Comes.{Comes}
use Rattle.grain_means.specs.Ends.{Ends}
use Rattle.grain_means.specs.Rules.{frame_at, function_under, is_stop}
use Rattle.grain_means.specs.Worlds.{Act, Go, Answer, Came, Failed, Frame, InFrame, Place, Setup, World}
use Rattle.grain_means.specs.Causes.{Cause, CallsWith, Enters, IsKeptOut, LeftCall, Raised, TellsHere, Why, body_begins, out_of_body, raised}
use Rattle.grain_means.proofs.Carrying.{cause_at}
use Rattle.grain_means.proofs.Choices.{if_false, if_true}
use Rattle.grain_means.proofs.Ground.{Stays, stays_on}
use Rattle.grain_means.proofs.Footing.{Onto, is_false, true-false}
use Rattle.grain_means.proofs.Moving.{unit_anywhere, unit_caught}
use Rattle.grain_means.proofs.Roles.{Framed}
use Rattle.grain_means.proofs.Standing.{Fitting}
use Rattle.grain_means.proofs.Tally.Faults.{met}
use Rattle.grain_means.proofs.Tally.Frames.{Blame, Even, ReasonAt, SteadyBut, Walk, point}
use Rattle.grain_means.proofs.Tally.Functions.{Beside, EndsAs, FromBody, even_function}

module _ {S : Type 0} {m : Setup S} (walk : Walk m) where
  open walk use {root, footing as k, frame as f, now, level}

  -- An instruction that stands where the frame does calls the function g on these arguments, at this
  -- position and under this `this`, in a world, after r instructions.
  module _ (o : Op) (width : ℕ) (stands : op_at m.program.code f.address ≡ Some (o, width))
      (q : Position) (g : Function) (args : List Held) (this : Option Place)
      (w : World S) (calls : CallsWith m g args this q w (point walk o))
      (fits : IsProgram m.program → Fitting m.program (frame_at g.chunk 0 this))
      (away : Option ℕ) (r : ℕ) (s : SteadyBut walk away r w) (t : w.trace ≡ [])
    where
      abbrev body_frame : Frame
      body_frame = frame_at g.chunk 0 this

      abbrev up : ℕ
      up = w.level + 1

      -- a fault that says which function it left
      abbrev pub wrapped : Problem → Problem
      wrapped x = InFunctionCall (name_of m.program g.name) (source_text m.program) x q

      -- what came out of the body
      abbrev pub run : Act S
      run = Go (InFrame body_frame) (body_begins m g args w)

      abbrev pub EndsIn : Problem → Act S → Type 0
      EndsIn x act = (u : World S) × Ends m act (Failed x) u

      -- the run of the instruction comes to where the body begins
      abbrev pub Begun : Type 0
      Begun = Comes m (InFrame body_frame) (body_begins m g args w) (Go (InFrame f) now)

      abbrev pub enters : Begun → (Runs : Act S → Type 0) → Runs run → Enters m g Runs (point walk o)
      enters begun Runs runs = record {
        arguments = args;
        this = this;
        position = q;
        start = w;
        calls = calls;
        level = s.2 ∙ sym level;
        comes = begun;
        runs = runs;
      }

      -- a world after n instructions, with the scope of that in which the function is called
      abbrev pub At : ℕ → World S → Type 0
      At n u = SteadyBut walk away n u × (u.scope ≡ w.scope)

      -- This is the slot of what is blamed, and this holds of a fault with which the call ends. Of one with
      -- which the call ends after the body did, it is known what it blames and which position it has.
      module _ (slot : Option ℕ) (IsEnd : Problem → Type 0)
          (blamed : Begun → (x y : Problem) → EndsIn x run → IsEnd y →
          y ≡ out_of_body m.program q g x → Blame walk slot y)
          (tells : Begun → (x : Problem) → EndsIn x run → IsEnd (wrapped x) →
          wrapped x ≡ out_of_body m.program q g x → TellsHere m k.level (point walk o) (wrapped x))
        where
          module _ (onto : Onto m run root) (begun : Begun) where
            left : (Runs : Act S → Type 0) → Runs run → LeftCall m root k.level Runs q
            left Runs runs = record {
              call = point walk o;
              met = met walk o width stands;
              own = level;
              function = g;
              enters = enters begun Runs runs;
              position = refl;
            }

            -- a fault that no script may catch goes on at the call
            goes_on : (x : Problem) → catchable x ≡ false → Cause m run up x → EndsIn x run →
                IsEnd (at_position q x) → ReasonAt walk slot (at_position q x)
            goes_on x passes c ends fails = (
              cause_at m run root onto q up k.level x passes left c,
              λ unit. true-false (unit_caught x (sym (unit_anywhere q x) ∙ unit)) passes,
              blamed begun x (at_position q x) ends fails
                  (if_false (λ (y : Problem). at_position q x ≡ y) (catchable x) (wrapped x)
                  (at_position q x) passes refl),
            )

            -- any other fault is wrapped
            wraps : (x : Problem) → catchable x ≡ true → Raised m run up x (Why m x) →
                EndsIn x run → IsEnd (wrapped x) → ReasonAt walk slot (wrapped x)
            wraps x may c ends fails =
                let levels : up ≡ now.level + 1 = ap (λ (n : ℕ). n + 1) (s.2 ∙ sym level) in
                let is : wrapped x ≡ out_of_body m.program q g x =
                if_true (λ (y : Problem). wrapped x ≡ y) (catchable x) (wrapped x) (at_position q x) may
                refl in (
                  raised (record {
                    point = point walk o;
                    met = met walk o width stands;
                    why = inl (
                      refl,
                      may,
                      (
                        g,
                        refl,
                        enters begun (λ act. Raised m act (now.level + 1) x (Why m x))
                            (subst (λ (n : ℕ). Raised m run n x (Why m x)) levels c),
                      ),
                    );
                    tells = inl (tells begun x ends fails is);
                  }),
                  λ unit. is_false unit,
                  blamed begun x (wrapped x) ends fails is,
                )

          -- What follows from the answer, beside what else may follow from it. Memory is out; or the
          -- function ends with a fault, which has its reason; or it ends with a value.
          module _ (heard said : Answer → World S → Act S)
              (over_out : (u : World S) (n : ℕ) → is_stop m.stop u.passed ≡ true → At n u →
              Even walk n (heard (Failed NoMemory) u))
              (over_fault : (x : Problem) (u : World S) (n : ℕ) → ReasonAt walk slot x →
              At n u → Even walk n (heard (Failed x) u))
              (over_value : (d : Dynamic) (u : World S) (n : ℕ) → EndsAs m
              (function_under m q g args said this w) (said (Came d) u) →
              At n u → u.trace ≡ [] → Even walk n (heard (Came d) u))
              (kept_out : (x : Problem) → IsKeptOut m q (length g.params) w x → ReasonAt walk slot x)
              (fails_so : (x : Problem) (u : World S) → EndsAs m
              (function_under m q g args said this w) (said (Failed x) u) → IsEnd x) where
            at_of : (n : ℕ) (u : World S) → Beside w n u → At n u
            at_of n u at = (
              (
                at.0,
                at.1 ∙ s.1,
                at.2 ∙ s.2,
                subst (λ (l : List Entry). Stays k away l u.cells) (sym at.3)
                    (stays_on w.scope w.cells u.cells s.3 at.4),
              ),
              at.3,
            )

            -- the body ended with a fault
            by_body : (x y : Problem) → FromBody m root (Go (InFrame f) now) q g args this w x y →
                (u : World S) (n : ℕ) →
                EndsAs m (function_under m q g args said this w) (said (Failed y) u) → Beside w n u →
                Even walk n (heard (Failed y) u)
            by_body x y b u n whole at = by_fault b.how where
              by_fault : ((catchable x ≡ true) × Raised m run up x (Why m x) × (y ≡ wrapped x))
                  ⊎ ((catchable x ≡ false) × Cause m run up x × (y ≡ at_position q x)) →
                  Even walk n (heard (Failed y) u)
              by_fault (inl (may, c, is)) =
                  over_fault y u n (subst (ReasonAt walk slot) (sym is)
                  (wraps b.onto b.begins x may c (b.after, b.ends)
                  (subst IsEnd is (fails_so y u whole)))) (at_of n u at)
              by_fault (inr (passes, c, is)) =
                  over_fault y u n (subst (ReasonAt walk slot) (sym is)
                  (goes_on b.onto b.begins x passes c (b.after, b.ends)
                  (subst IsEnd is (fails_so y u whole)))) (at_of n u at)

            pub even_under : Even walk r (function_under m q g args heard this w)
            even_under =
                even_function m Framed root (Go (InFrame f) now) k q w
                (function_under m q g args said this w) heard said
                (λ u n stop at. over_out u n stop (at_of n u at)) g args this fits r s.0 t
                (λ x why u at. over_fault x u r (kept_out x why) (at_of r u at)) by_body
                (λ d u n whole at empty. over_value d u n whole (at_of n u at) empty)
                (λ a v ends. ends)
