-- The walk through calls of functions and of pointers.
use Rattle.std.proofs.Common.{◌≡◌, ◌<◌, ℕ, ◌+◌, List, [], ◌∷◌, ◌++◌, Option, Some, None, false, refl, sym, subst, ap, ◌∙◌, inl, inr, arith, length, nat_lt, nat_le}
use Rattle.std.specs.Prelude.{codes}
use Rattle.std.proofs.lemmas.Bool.{ltb-true, leb-true, leb-false}
use Rattle.grain_value.specs.declared.values.Dynamic.{Dynamic}
use Rattle.grain_value.specs.declared.values.Held.{Held}
use Rattle.grain_value.specs.Looking.{pointer_of}
use Rattle.grain_value.specs.Operands.{under, arguments, read_write}
use Rattle.grain_value.specs.Writing.{type_name_of}
use Rattle.grain_fault.specs.Classes.{catchable}
use Rattle.grain_fault.specs.Positions.{at_position}
use Rattle.grain_fault.specs.Problems.{Problem, Plain, InFunctionCall, TooManyVariables, StackOverflow}
use Rattle.grain_fault.specs.Problems as problem
use Rattle.grain_program.specs.declared.code.functions.Function.{Function}
use Rattle.grain_program.specs.declared.code.instruction_set.Op.{Op}
use Rattle.grain_program.specs.declared.code.instruction_set.Op.TheVariants as op
use Rattle.grain_program.specs.Typing.{IsProgram}
use Rattle.grain_program.specs.Decoding.{op_at}
use Rattle.grain_program.specs.View.{View, name_of, source_text}
use Rattle.grain_value.specs.Cells.{flat}
use Rattle.grain_value.specs.declared.values.FnPtr.{FnPtr}
use Rattle.grain_means.specs.Worlds.{Act, Go, Then, Answer, Came, Failed, Frame, World, Setup, InFrame}
use Rattle.grain_means.proofs.Moving.{unit_anywhere, unit_caught}
use Rattle.grain_means.specs.Rules.{offered, pushed, without, bound, frame_at, stepped, marked, raised, propagate, resume_caller, enter_function, function_entered, call_function, position, flattened, flat_all, operand_under, not_a_pointer}
use Rattle.grain_means.specs.Comes.{here}
use Rattle.grain_means.specs.Leavings.{Cuts}
use Rattle.grain_means.specs.Causes.{AsksNative, Why, Calls, Charges, IsCharged, IsNoChain, Overfills, CallsOn, Enters, LeftCall, Raised, Caused, ReadsLent, IsLent, Points, AsksPointer, Misses}
use Rattle.grain_means.proofs.Ground.{Footing, stays_on}
use Rattle.grain_means.proofs.Kept.{keeps_nothing}
use Rattle.grain_means.proofs.Roles.{Framed}
use Rattle.grain_means.proofs.Unlent.{Unlent, unlent_same}
use Rattle.grain_means.proofs.Standing.{Fitting}
use Rattle.grain_means.proofs.Footing.{Onto, Sits, by_test, true-false, cause_in, Offers}
use Rattle.grain_means.proofs.Carrying.{cause_at}
use Rattle.grain_means.proofs.Tally.Frames.{Walk, Even, Steady, start, steady, even_marked, holding, even_onward, point, Enough}
use Rattle.grain_means.proofs.Tally.Faults.{blames_none, met, why, even_offered_in, even_raised_in, even_raised, even_flat, even_flat_all, heard, even_charged}
use Rattle.grain_means.proofs.Tally.NativeCalls.{even_native_in}

-- an instruction that calls a function itself is no chain
calls_itself : {S : Type 0} (program : View) (g : Function) (args : List Held) (o : Op) (f : Frame)
    (w : World S) → CallsOn program g args o f w → IsNoChain o
calls_itself program g args (op.Chain k) f w on = absurd on
calls_itself program g args o f w on = tt

module _ {S : Type 0} {m : Setup S} (walk : Walk m) where
  open walk use {root, footing as k, frame as f, now, comes, tokens, level, trace, keeps}

  -- the rules of an instruction that stands where the frame does
  module _ (o : Op) (width : ℕ) (stands : op_at m.program.code f.address ≡ Some (o, width)) where
    -- a call of a function on the last operands, whose body is run on a scope of its own
    module _ (g : Function) (count : ℕ) (operands : List Held) (full : Enough walk o operands)
        (enough : Enough walk o (under count operands)) where
      -- what came out of the body
      module _ (body : Act S) (onto : Onto m body root) (inside : ℕ) (up : inside ≡ now.level + 1)
          (own : IsNoChain o)
          (enters : (Runs : Act S → Type 0) → Runs body → Enters m g Runs (point walk o))
          (at_call : (Runs : Act S → Type 0) (runs : Runs body) →
          position m f ≡ (enters Runs runs).position) where
        left : (Runs : Act S → Type 0) → Runs body →
            LeftCall m root k.level Runs (position m f)
        left Runs runs = record {
          call = point walk o;
          met = met walk o width stands;
          own = level;
          function = g;
          enters = enters Runs runs;
          position = at_call Runs runs;
        }

        -- a fault that no script may catch goes on at the call
        offers_on : (x : Problem) (w : World S) → catchable x ≡ false →
            Caused m body inside (Failed x) w →
            Offers m root k.level f.handlers (at_position (position m f) x) w
        offers_on x w passes cause = (
          goes_on cause,
          λ unit. true-false
              (unit_caught x (sym (unit_anywhere (position m f) x) ∙ unit)) passes,
        ) where
          goes_on : Caused m body inside (Failed x) w →
              Caused m root k.level (Failed (at_position (position m f) x)) w
          goes_on (inl s) = inl (ap (at_position (position m f)) s.0, s.1)
          goes_on (inr c) =
              inr (cause_at m body root onto (position m f) inside k.level x passes left c)

        -- any other fault is wrapped
        even_propagated : (r : ℕ) (x : Problem) (w : World S) → Steady walk r w →
            Caused m body inside (Failed x) w → Even walk r
            (propagate m g (without count (holding walk operands)) x w)
        even_propagated r x w s cause =
            let p = position m f in
            let wrapped =
            InFunctionCall (name_of m.program g.name) (source_text m.program) x p in
            by_test (Even walk r) (catchable x) (raised m (without count (holding walk operands))
            wrapped w) (offered m (without count (holding walk operands)) (at_position p x) w)
            (λ may. even_raised_in walk o width stands (under count operands) enough r wrapped w s
            (why walk o width stands wrapped (refl, own) (
              refl,
              may,
              (
                g,
                refl,
                enters (λ act. Raised m act (now.level + 1) x (Why m x))
                    (subst (λ (n : ℕ). Raised m body n x (Why m x)) up
                    (cause_in m body inside x w may cause)),
              ),
            )))
            (λ passes. even_offered_in walk o width stands (under count operands) enough r
            (at_position p x) w (blames_none walk o width stands (at_position p x) own) s
            (offers_on x w passes cause))

        even_resumed :
            ((v : Dynamic) →
            Sits m root k
            (stepped f (f.address + width) (under count operands ++ read_write v ∷ []))) →
            (x : Answer) (u : World S) → u.tokens ≡ k.tokens → Unlent now.cells u.cells →
            (j : Footing) → Cuts m body j.level j.base x u → Caused m body inside x u →
            Even walk u.ran
            (resume_caller m g (without count (holding walk operands)) (f.address + width) x
            (record u { scope = now.scope; level = now.level }))
        even_resumed on (Came v) u t cells j cut cause =
            even_onward walk u.ran _ (record u { scope = now.scope; level = now.level })
            (refl, t, level, stays_on now.scope now.cells u.cells keeps cells) cut (inl refl) (on v)
        even_resumed on (Failed x) u t cells j cut cause =
            even_propagated u.ran x (record u { scope = now.scope; level = now.level })
            (refl, t, level, stays_on now.scope now.cells u.cells keeps cells) cause

      even_entered :
          ((v : Dynamic) →
          Sits m root k (stepped f (f.address + width) (under count operands ++ read_write v ∷ [])))
          → Calls m.program o f now → Charges m.program o f now →
          (IsCharged m now → now.level < m.engine.limits.levels →
          m.engine.limits.variables < length g.params → Overfills m o f now) →
          (IsProgram m.program → Fitting m.program (frame_at g.chunk 0 None)) →
          CallsOn m.program g (arguments count operands) o f now →
          Even walk (now.ran + 1) (enter_function m g count (holding walk operands)
          (f.address + width) (start walk))
      even_entered u is_call charges fills fits calls_on =
          let r : ℕ = now.ran + 1 in
          let args = arguments count operands in
          let rest : Answer → World S → Act S =
          λ a w3. resume_caller m g (without count (holding walk operands)) (f.address + width) a
          (record w3 { scope = now.scope; level = now.level }) in
          let body : World S → Act S =
          λ w2. Then
          (Go (InFrame (frame_at g.chunk 0 None))
          (record w2 { scope = bound m.program g.params args; level = w2.level + 1 })) rest in
          let w1 : World S = heard walk o width stands in
          let inside : World S = record w1 {
            passed = w1.passed + 1;
            scope = bound m.program g.params args;
            level = w1.level + 1;
          } in
          let j : Footing = record {
            tokens = now.tokens;
            level = now.level + 1;
            base = 0;
            names = [];
            cells = now.cells;
          } in
          even_charged walk o width stands operands full (function_entered m g count
          (holding walk operands) (f.address + width)) charges
          (λ allowed. by_test (Even walk r) (nat_le m.engine.limits.levels now.level)
          (raised m (holding walk operands) (Plain StackOverflow (position m f)) w1) _
          (λ high. even_raised_in walk o width stands operands full r (Plain StackOverflow
          (position m f)) w1 (steady walk)
          (why walk o width stands (Plain StackOverflow (position m f)) refl
          (allowed, leb-true m.engine.limits.levels now.level high, is_call)))
          (λ low. by_test (Even walk r) (nat_lt m.engine.limits.variables (length g.params))
          (raised m (holding walk operands) (Plain TooManyVariables (position m f)) w1)
          (marked m f w1 body)
          (λ many. even_raised_in walk o width stands operands full r (Plain TooManyVariables
          (position m f)) w1 (steady walk)
          (why walk o width stands (Plain TooManyVariables (position m f)) refl
          (fills allowed (leb-false m.engine.limits.levels now.level low)
          (ltb-true m.engine.limits.variables (length g.params) many))))
          (λ _. even_marked walk r w1 (steady walk) body (
            j,
            Framed,
            (
              refl,
              refl,
              refl,
              record {
                keeps = keeps_nothing (bound m.program g.params args);
                unlent = unlent_same now.cells;
              },
              (trace, (refl, omega arith, fits, tt, (refl, refl))),
            ),
            λ onto mine x w ends t l there end.
                even_resumed (Go (InFrame (frame_at g.chunk 0 None)) inside) onto (now.level + 1)
                refl (calls_itself m.program g args o f now calls_on)
                (λ Runs runs. record {
                  arguments = args;
                  this = None;
                  position = position m f;
                  start = start walk;
                  calls = inl (calls_on, refl, refl, refl);
                  level = refl;
                  comes = mine (InFrame (frame_at g.chunk 0 None)) inside here;
                  runs = runs;
                }) (λ Runs runs. refl) u x w (t ∙ tokens)
                there.unlent j end.0 end.1,
          ))))

    -- a call of a function that may be there, and else of a native
    pub even_called : (name : List ℕ) (count : ℕ) (operands : List Held) (full : Enough walk o
        operands) (enough : Enough walk o (under count operands)) →
        ((v : Dynamic) →
        Sits m root k (stepped f (f.address + width) (under count operands ++ read_write v ∷ []))) →
        (Calls m.program o f now → Charges m.program o f now) →
        ((g : Function) (args : List Held) → CallsOn m.program g args o f now →
        IsCharged m now → now.level < m.engine.limits.levels →
        m.engine.limits.variables < length g.params → Overfills m o f now) →
        (found : Option Function) →
        (found ≡ None → flat_all now.cells (arguments count operands) ≡ None →
        ReadsLent m [] o f now) →
        (found ≡ None → (args : List Held) →
        flat_all now.cells (arguments count operands) ≡ Some args →
        Misses m.program name args o f now) →
        ((g : Function) → found ≡ Some g →
        CallsOn m.program g (arguments count operands) o f now) →
        ((g : Function) → found ≡ Some g → IsProgram m.program →
        Fitting m.program (frame_at g.chunk 0 None)) →
        Even walk (now.ran + 1) (call_function m found name count (holding walk operands)
        (f.address + width) (start walk))
    even_called name count operands full enough u charges fills None lent misses calls fits =
        even_flat_all walk o width stands operands full (arguments count operands) (lent refl) _
        (λ args e. let q : AsksNative m
        (record { world = start walk; name = name; lent = None; args = args }) (point walk o) =
        inl (inl (refl, refl, inl (misses refl args e))) in
        even_native_in walk o width stands (start walk) (now.ran + 1) (steady walk) trace name None args q
        (λ x. inl (inl (refl, refl, inl (misses refl args e)))) operands full
        (λ v w1. pushed m (holding walk operands) (f.address + width) (under count operands) v w1)
        (λ n there called v l w1 how after empty. even_onward walk l
        (stepped f (f.address + width) (under count operands ++ read_write v ∷ [])) w1 after.0 empty
        (inl refl) (u v)))
        (flat_all now.cells (arguments count operands)) refl
    even_called name count operands full enough u charges fills (Some g) lent misses calls fits =
        let on : CallsOn m.program g (arguments count operands) o f now = calls g refl in
        let is : Calls m.program o f now = (g, arguments count operands, inl on) in
        even_entered g count operands full enough u is (charges is)
        (λ charged low many. fills g (arguments count operands) on charged low many) (fits g refl)
        on

    -- the pointer under the last n operands, or the fault that there is none
    pub even_pointer : (n : ℕ) → AsksPointer n o f now →
        (IsLent now (operand_under n f.operands) → ReadsLent m [] o f now) →
        (go : Option FnPtr → Dynamic → Act S) →
        ((v : Dynamic) → go None v ≡ not_a_pointer m v f (start walk)) →
        ((p : FnPtr) (v : Dynamic) → Points p n f now → Even walk (now.ran + 1) (go (Some p) v)) →
        Even walk (now.ran + 1)
        (flattened m (operand_under n f.operands) [] f (start walk) (λ v. go (pointer_of v) v))
    even_pointer n asks lent go none some =
        even_flat walk o width stands (operand_under n f.operands) [] lent (λ v. go (pointer_of v)
        v) (λ v read. found v read (pointer_of v) refl)
        (flat now.cells (operand_under n f.operands).value) refl where
          found : (v : Dynamic) → flat now.cells (operand_under n f.operands).value ≡ Some v →
              (p : Option FnPtr) → pointer_of v ≡ p → Even walk (now.ran + 1) (go p v)
          found v read None e =
              subst (Even walk (now.ran + 1)) (sym (none v))
              (even_raised walk o width stands (now.ran + 1) _ (start walk) (steady walk)
              (why walk o width stands (Plain (problem.MismatchDataType (codes "Fn")
              (type_name_of v)) (position m f))
              refl (inr (inl (n, v, read, refl, refl, e, asks)))))
          found v read (Some p) e = some p v (v, read, e)
