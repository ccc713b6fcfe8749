-- The walk through transfers, the cut of a scope, and the push of a handler.
use Rattle.std.proofs.Common.{◌≡◌, ◌≤◌, ℕ, ◌+◌, ◌-◌, List, [], ◌∷◌, Option, Some, None, Bool, true, false, refl, subst, ap, ◌∙◌, inl, arith, length, take, nat_lt}
use Rattle.std.specs.Prelude.{codes}
use Rattle.std.proofs.lemmas.Bool.{ltb-true}
use Rattle.grain_value.specs.declared.values.Dynamic.{Dynamic}
use Rattle.grain_value.specs.Looking.{truth_of}
use Rattle.grain_value.specs.Operands.{top, below}
use Rattle.grain_value.specs.Writing.{type_name_of}
use Rattle.grain_fault.specs.declared.faults.MalformedKind.TheVariants as kind
use Rattle.grain_fault.specs.Problems.{Plain}
use Rattle.grain_fault.specs.Problems as problem
use Rattle.grain_program.specs.declared.code.instruction_set.Op.{Op}
use Rattle.grain_program.specs.Shapes.{TryHandler}
use Rattle.grain_program.specs.Typing.{IsProgram}
use Rattle.grain_program.specs.Decoding.{op_at}
use Rattle.grain_value.specs.Cells.{flat}
use Rattle.grain_means.specs.Worlds.{Setup}
use Rattle.grain_means.specs.Rules.{push_handler, stepped, agrees, branched, tested, skip, unwind, position, jump_if}
use Rattle.grain_means.specs.Comes.{tries}
use Rattle.grain_means.specs.Causes.{Charges, Unwinds, Tests, ReadsLent, IsLent, truth_on_top, truth_read}
use Rattle.grain_means.proofs.Ground.{stays_cut}
use Rattle.grain_means.proofs.Standing.{Fitting}
use Rattle.grain_means.proofs.Footing.{Sits, by_test, is_false}
use Rattle.grain_means.proofs.Tally.Frames.{Walk, Even, start, steady, guarding, even_onward, Enough, all_there}
use Rattle.grain_means.proofs.Tally.Faults.{why, even_raised, even_flat, even_on, even_jumped}

-- a truth value that agrees is the one that is wanted
agreed : (wanted t : Bool) → agrees wanted t ≡ true → t ≡ wanted
agreed true true e = refl
agreed true false e = is_false e
agreed false true e = is_false e
agreed false false e = refl

module _ {S : Type 0} {m : Setup S} (walk : Walk m) where
  open walk use {root, footing as k, frame as f, now, tokens, level, trace, keeps, sits}

  -- a handler that was pushed, as a typing has it
  abbrev with_try : ℕ → Option ℕ → ℕ → ℕ → List TryHandler
  with_try target variable height cursors =
      record { target = target; variable = variable; height = height; cursors = cursors }
      ∷ tries f.handlers

  pub pushed_tries : (target : ℕ) (variable : Option ℕ) →
      with_try target variable (length f.operands) (length f.cursors) ≡
      with_try target variable (length f.operands - 0 + 0) (length f.cursors - 0 + 0)
  pushed_tries target variable =
      ap (λ n. with_try target variable n (length f.cursors)) (omega arith)
      ∙ ap (λ n. with_try target variable (length f.operands - 0 + 0) n) (omega arith)

  -- the rules of an instruction that stands where the frame does
  module _ (o : Op) (width : ℕ) (stands : op_at m.program.code f.address ≡ Some (o, width)) where
    even_branched : (taken : Bool) (target : ℕ) → Enough walk o (below f.operands) →
        Sits m root k (stepped f target (below f.operands)) →
        Sits m root k (stepped f (f.address + width) (below f.operands)) →
        (taken ≡ true → target ≤ f.address → Charges m.program o f now) →
        Even walk (now.ran + 1) (branched m taken target (f.address + width) f (start walk))
    even_branched true target enough there u back =
        even_jumped walk o width stands target (below f.operands) enough there (back refl)
    even_branched false target enough there u back = even_on walk o width stands _ refl u

    even_tested : (wanted : Bool) (target : ℕ) → Enough walk o (below f.operands) →
        Sits m root k (stepped f target (below f.operands)) →
        Sits m root k (stepped f (f.address + width) (below f.operands)) → Tests o →
        (target ≤ f.address → truth_on_top f now ≡ Some wanted →
        Charges m.program o f now) → (v : Dynamic) →
        flat now.cells (top f.operands).value ≡ Some v →
        (truth : Option Bool) → truth_of v ≡ truth →
        Even walk (now.ran + 1) (tested m wanted truth v target (f.address + width) f (start walk))
    even_tested wanted target enough there u tests back v read (Some t) e =
        even_branched (agrees wanted t) target enough there u
        (λ yes le.
        back le (subst (λ (b : Bool). truth_on_top f now ≡ Some b) (agreed wanted t yes)
        (ap truth_read read ∙ e)))
    even_tested wanted target enough there u tests back v read None e =
        even_raised walk o width stands (now.ran + 1) _ (start walk) (steady walk)
        (why walk o width stands (Plain (problem.MismatchDataType (codes "bool") (type_name_of v))
        (position m f)) refl (inl (v, read, refl, refl, e, tests)))

    pub even_jump_if : (wanted : Bool) (target : ℕ) → Enough walk o (below f.operands) →
        Sits m root k (stepped f target (below f.operands)) →
        Sits m root k (stepped f (f.address + width) (below f.operands)) → Tests o →
        (target ≤ f.address → truth_on_top f now ≡ Some wanted →
        Charges m.program o f now) →
        (IsLent now (top f.operands) → ReadsLent m [] o f now) →
        Even walk (now.ran + 1) (jump_if m wanted target (f.address + width) f (start walk))
    even_jump_if wanted target enough there u tests back lent =
        even_flat walk o width stands (top f.operands) [] lent _
        (λ v read. even_tested wanted target enough there u tests back v read (truth_of v) refl)
        (flat now.cells (top f.operands).value) refl

    pub even_skipped : (target : ℕ) → Sits m root k (stepped f target f.operands) →
        Sits m root k (stepped f (f.address + width) f.operands) → (unit : Bool) →
        (unit ≡ false → target ≤ f.address → Charges m.program o f now) →
        Even walk (now.ran + 1) (skip m unit target (f.address + width) f (start walk))
    even_skipped target there u true back = even_on walk o width stands _ refl u
    even_skipped target there u false back =
        even_jumped walk o width stands target f.operands (all_there walk o) there (back refl)

    pub even_unwound : (target : ℕ) → Sits m root k (stepped f (f.address + width) f.operands) →
        k.base ≤ target → Unwinds target o f → Even walk (now.ran + 1)
        (unwind m target (f.address + width) f (start walk))
    even_unwound target u le unwinds =
        let unwinding = problem.Malformed (kind.UnwindPastScope target (length now.scope)) in
        let x = Plain unwinding (position m f) in
        by_test (Even walk (now.ran + 1)) (nat_lt (length now.scope) target) _ _
        (λ past. even_raised walk o width stands (now.ran + 1) x (start walk) (steady walk)
        (why walk o width stands x refl (refl, ltb-true (length now.scope) target past, unwinds)))
        (λ _. even_onward walk (now.ran + 1) (stepped f (f.address + width) f.operands)
        (record (start walk) { scope = take target (start walk).scope })
        (refl, tokens, level, stays_cut target now.scope now.cells le keeps) trace
        (inl refl) u)

    -- a handler is pushed, above as many operands and entries of the scope as there are
    pub even_handled : (target : ℕ) (variable : Option ℕ) →
        (IsProgram m.program → Fitting m.program (guarding walk target variable
        (f.address + width))) → Even walk (now.ran + 1) (push_handler m target variable
        (f.address + width) f (start walk))
    even_handled target variable fits =
        even_on walk o width stands (guarding walk target variable (f.address + width)) refl
        (sits.0, sits.1, fits, (keeps.keeps.there, tt, sits.3), sits.4)
