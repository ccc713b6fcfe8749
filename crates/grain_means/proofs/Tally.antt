-- One walk over the rules for all that holds of every run: `ran` counts the instructions that are
-- begun, the tokens that are out are those that were, the level is what it was, the entries below
-- the base keep their names, no cell is lent that was not, a fault that leaves a frame cuts the scope,
-- each fault has its cause, and in a valid program an instruction with its operands stands at each
-- frame, and each handler that catches finds its operands. Here is each instruction, of which the parts
-- stand in the files of `Tally`; `Catching` has the rule of a catch, `Tally/Callbacks` that of a call that
-- a native asked for, and `Called` whole runs.
pub mod Frames
pub mod Faults
pub mod Functions
pub mod Asking
pub mod Natives
pub mod NativeCalls
pub mod Telling
pub mod NativesBack
pub mod Callbacks
pub mod Entries
pub mod Operators
pub mod This
pub mod Transfers
pub mod Loops
pub mod Looping
pub mod Literals
pub mod Interpolation
pub mod Calls
pub mod Bodies
pub mod Calling
pub mod Needs
pub mod Walks
pub mod Roots
pub mod ChainWalks
pub mod Chains
pub mod Methods
pub mod Returns
pub mod Receivers
use Rattle.std.proofs.Common.{◌≡◌, ℕ, ◌+◌, [], ◌∷◌, ◌++◌, Option, Some, None, true, false, refl, inl, inr, arith, length}
use Rattle.std.specs.Prelude.{is_some}
use Rattle.grain_value.specs.declared.values.Dynamic.TheVariants as dynamic
use Rattle.grain_value.specs.Looking.{is_unit, cell_of}
use Rattle.grain_value.specs.Operands.{top, below, under, arguments, read_write}
use Rattle.grain_fault.specs.Problems.{Plain}
use Rattle.grain_fault.specs.Problems as problem
use Rattle.grain_program.specs.declared.code.instruction_set.Op.{Op}
use Rattle.grain_program.specs.declared.code.instruction_set.Op.TheVariants as op
use Rattle.grain_program.specs.Decoding.{op_at}
use Rattle.grain_program.specs.Chains.{chain_takes}
use Rattle.grain_program.specs.View.{chain_of, name_of, const_of, assign_op_of}
use Rattle.grain_value.specs.Cells.{flat, content}
use Rattle.grain_program.specs.Lookups.{function_of, function_by_text}
use Rattle.grain_means.specs.Worlds.{End, Came, Setup, Frame, InFrame}
use Rattle.grain_means.specs.Rules.{Nowhere, ToSlot, ToThis, trees_in, native, function_found, held_at, or_return, operated, charged, instr, start_instruction, next, position, flat_all, spread, name_at, curried, pointer_called, function_by_name}
use Rattle.grain_means.specs.lemmas.Branches.{of_two}
use Rattle.grain_means.proofs.Lengths.{length_under, length_pushed, length_rotated, spread_length, spread_under}
use Rattle.grain_means.proofs.Standing.{tries_outer, fits_found}
use Rattle.grain_means.proofs.Footing.{guarded_outside}
use Rattle.grain_means.proofs.Tally.Frames.{Walk, Even, start, steady, even_marked, guarding, unguarded, even_onward, one_less, one_more}
use Rattle.grain_means.proofs.Tally.Faults.{why, why_chain, why_left, even_raised_in, even_flat, even_flat_all, fits_on, sits_at, even_on, even_charged_on, even_jumped}
use Rattle.grain_means.proofs.Tally.Entries.{even_at, even_declared, even_stored_in, even_assigned, even_shared}
use Rattle.grain_means.proofs.Tally.Operators.{even_pushed, even_assigned_op}
use Rattle.grain_means.proofs.Tally.This.{even_assigned_op_this, even_assigned_this, even_load_this, even_load_this_shared, even_require_this}
use Rattle.grain_means.proofs.Tally.Looping.{even_iter_drop, even_iter_init, even_iter_next, even_iter_next_indexed, even_switch}
use Rattle.grain_means.proofs.Tally.Literals.{even_check_array_size, even_check_map_size, even_make_array, even_make_fn_ptr, even_make_map}
use Rattle.grain_means.proofs.Tally.Interpolation.{even_interpolate_append, even_interpolate_end, even_interpolate_start}
use Rattle.grain_means.proofs.Tally.Transfers.{even_jump_if, even_skipped, even_unwound, even_handled, pushed_tries}
use Rattle.grain_means.proofs.Tally.Calls.{even_called, even_pointer}
use Rattle.grain_means.proofs.Tally.Chains.{even_chain}
use Rattle.grain_means.proofs.Tally.Receivers.{even_method}

module _ {S : Type 0} {m : Setup S} (walk : Walk m) where
  open walk use {root, footing as k, frame as f, now, tokens, level, trace, keeps, sits}

  even_instr : (o : Op) (width : ℕ) → op_at m.program.code f.address ≡ Some (o, width) →
      Even walk (now.ran + 1) (instr m o (f.address + width) f (start walk))
  even_instr (op.LoadConst c) width at =
      even_on walk (op.LoadConst c) width at _ refl
      (sits_at walk (op.LoadConst c) width at (refl, refl) _ _ (inl refl) (λ _. one_more walk
      (const_of m.program c)))
  even_instr op.Unit width at =
      even_on walk op.Unit width at _ refl
      (sits_at walk op.Unit width at (refl, refl) _ _ (inl refl) (λ _. one_more walk dynamic.Unit))
  even_instr op.False width at =
      even_on walk op.False width at _ refl
      (sits_at walk op.False width at (refl, refl) _ _ (inl refl) (λ _. one_more walk (dynamic.Bool false)))
  even_instr op.True width at =
      even_on walk op.True width at _ refl
      (sits_at walk op.True width at (refl, refl) _ _ (inl refl) (λ _. one_more walk (dynamic.Bool true)))
  even_instr (op.LoadLocal slot) width at =
      even_at walk (op.LoadLocal slot) width at slot refl _ (held_at now.scope (f.base + slot)) refl
      (λ h e. even_flat walk (op.LoadLocal slot) width at h (name_at now.scope (f.base + slot))
      (λ none. (refl, (h, e, none))) _
      (λ v _. even_on walk (op.LoadLocal slot) width at _ refl
      (sits_at walk (op.LoadLocal slot) width at (refl, refl) _ _ (inl refl) (λ _. one_more walk v)))
      (flat now.cells h.value) refl)
  even_instr (op.StoreLocal slot) width at =
      even_at walk (op.StoreLocal slot) width at slot refl _ (held_at now.scope (f.base + slot))
      refl (λ h e. even_stored_in walk (op.StoreLocal slot) width at false slot h
      (sits_at walk (op.StoreLocal slot) width at (refl, refl) _ _ (inl refl) (λ _. one_less walk))
      (λ lent. (refl, lent)) e (cell_of h.value) refl)
  even_instr (op.StoreConst slot) width at =
      even_at walk (op.StoreConst slot) width at slot refl _ (held_at now.scope (f.base + slot))
      refl (λ h e. even_stored_in walk (op.StoreConst slot) width at true slot h
      (sits_at walk (op.StoreConst slot) width at (refl, refl) _ _ (inl refl) (λ _. one_less walk))
      (λ lent. (refl, lent)) e (cell_of h.value) refl)
  even_instr (op.StoreShared slot) width at =
      even_at walk (op.StoreShared slot) width at slot refl _ (held_at now.scope (f.base + slot))
      refl (λ h e. even_stored_in walk (op.StoreShared slot) width at (top f.operands).read_only
      slot h (sits_at walk (op.StoreShared slot) width at (refl, refl) _ _ (inl refl) (λ _. one_less walk))
      (λ lent. (refl, lent)) e (cell_of h.value) refl)
  even_instr (op.DeclareLocal n) width at = even_declared walk (op.DeclareLocal n) width at false
      (name_of m.program n) (λ lent. (refl, lent))
      (sits_at walk (op.DeclareLocal n) width at (refl, refl) _ _ (inl refl) (λ _. one_less walk))
      (λ reads full. (reads, full))
  even_instr (op.DeclareConst n) width at = even_declared walk (op.DeclareConst n) width at true
      (name_of m.program n) (λ lent. (refl, lent))
      (sits_at walk (op.DeclareConst n) width at (refl, refl) _ _ (inl refl) (λ _. one_less walk))
      (λ reads full. (reads, full))
  even_instr (op.AssignLocal slot n) width at =
      even_at walk (op.AssignLocal slot n) width at slot refl _ (held_at now.scope (f.base + slot))
      refl (even_assigned walk (op.AssignLocal slot n) width at n slot
      (sits_at walk (op.AssignLocal slot n) width at (refl, refl) _ _ (inl refl) (λ _. one_less walk))
      (λ reads h held. (refl, reads, (h, held))) (λ lent. (refl, lent)))
  even_instr (op.AssignLocalOp slot n a) width at =
      even_at walk (op.AssignLocalOp slot n a) width at slot refl _ (held_at now.scope
      (f.base + slot)) refl
      (even_assigned_op walk (op.AssignLocalOp slot n a) width at n (assign_op_of m.program a) slot
      (sits_at walk (op.AssignLocalOp slot n a) width at (refl, refl) _ _ (inl refl) (λ _. one_less walk))
      (λ reads h held. (refl, reads, (h, held))) (λ lent. (refl, lent))
      (λ question asks native found called answer answers. record {
        named = refl;
        question = question;
        asks = asks;
        native = native;
        found = found;
        called = called;
        answer = answer;
        answers = answers;
      })
      (λ h u v held content read. (refl, (h, u, v, held, content, read, refl, refl)))
      (λ h u v held content read none. record {
        to = (refl, refl, held);
        content = content;
        value = read;
        flag = refl;
        none = none;
      }))
  even_instr op.LoadThis width at = even_load_this walk width at
  even_instr op.LoadThisShared width at = even_load_this_shared walk width at
  even_instr op.RequireThis width at = even_require_this walk width at
  even_instr op.AssignThis width at =
      even_assigned_this walk op.AssignThis width at
      (sits_at walk op.AssignThis width at (refl, refl) _ _ (inl refl) (λ _. one_less walk))
      (λ reads. reads) (λ lent. (refl, lent)) (λ reads h held only. (refl, reads, (h, held, only)))
  even_instr (op.AssignThisOp a) width at =
      even_assigned_op_this walk (op.AssignThisOp a) width at
      (sits_at walk (op.AssignThisOp a) width at (refl, refl) _ _ (inl refl) (λ _. one_less walk))
      (λ reads. reads) (λ lent. (refl, lent)) (λ reads h held only. (refl, reads, (h, held, only)))
      (assign_op_of m.program a)
      (λ question asks native found called answer answers. record {
        named = refl;
        question = question;
        asks = asks;
        native = native;
        found = found;
        called = called;
        answer = answer;
        answers = answers;
      })
      (λ h u v held no content read. (refl, (h, u, v, held, no, content, read, refl, refl)))
      (λ p u v is no content read none. record {
        to = (refl, (p, is, refl, refl, no));
        content = content;
        value = read;
        flag = refl;
        none = none;
      })
  even_instr (op.LoadShared slot) width at =
      even_at walk (op.LoadShared slot) width at slot refl _ (held_at now.scope (f.base + slot))
      refl (λ h e. even_on walk (op.LoadShared slot) width at _ refl
      (sits_at walk (op.LoadShared slot) width at (refl, refl) _ _ (inl refl) (λ _. one_more walk h.value)))
  even_instr (op.Share slot) width at =
      even_at walk (op.Share slot) width at slot refl _ (held_at now.scope (f.base + slot)) refl
      (λ h e. even_shared walk (op.Share slot) width at slot h
      (sits_at walk (op.Share slot) width at (refl, refl) _ _ (inl refl) (λ _. omega arith))
      (cell_of h.value))
  even_instr op.IsShared width at =
      even_on walk op.IsShared width at _ refl
      (sits_at walk op.IsShared width at (refl, refl) _ _ (inl refl)
      (λ enough. omega (
        arith,
        length_under 1 f.operands,
        length_pushed (below f.operands)
            (dynamic.Bool (is_some (cell_of (top f.operands).value))),
        enough,
      )))
  even_instr op.Pop width at =
      even_on walk op.Pop width at _ refl (sits_at walk op.Pop width at (refl, refl) _ _ (inl refl)
      (λ _. one_less walk))
  even_instr (op.Rotate n) width at =
      even_on walk (op.Rotate n) width at _ refl
      (sits_at walk (op.Rotate n) width at (refl, refl) _ _ (inl refl)
      (λ enough. omega (arith, length_rotated n f.operands, enough)))
  even_instr (op.Jump target) width at =
      even_jumped walk (op.Jump target) width at target f.operands (omega arith)
      (sits_at walk (op.Jump target) width at (refl, refl) target f.operands (inl refl) (λ _. omega arith))
      (λ le. le)
  even_instr (op.JumpIfFalse target) width at =
      even_jump_if walk (op.JumpIfFalse target) width at false target
      (omega (arith, length_under 1 f.operands))
      (sits_at walk (op.JumpIfFalse target) width at (refl, refl) target _
      (of_two target (f.address + width) target (inl refl)) (λ _. one_less walk))
      (sits_at walk (op.JumpIfFalse target) width at (refl, refl) _ _
      (of_two target (f.address + width) (f.address + width) (inr refl)) (λ _. one_less walk)) tt
      (λ le is. (le, is)) (λ lent. (refl, lent))
  even_instr (op.JumpIfTrue target) width at =
      even_jump_if walk (op.JumpIfTrue target) width at true target
      (omega (arith, length_under 1 f.operands))
      (sits_at walk (op.JumpIfTrue target) width at (refl, refl) target _
      (of_two target (f.address + width) target (inl refl)) (λ _. one_less walk))
      (sits_at walk (op.JumpIfTrue target) width at (refl, refl) _ _
      (of_two target (f.address + width) (f.address + width) (inr refl)) (λ _. one_less walk)) tt
      (λ le is. (le, is)) (λ lent. (refl, lent))
  even_instr (op.SkipIfNotUnit target) width at =
      even_skipped walk (op.SkipIfNotUnit target) width at target
      (sits_at walk (op.SkipIfNotUnit target) width at (refl, refl) target f.operands
      (of_two target (f.address + width) target (inl refl)) (λ enough. omega (arith, enough)))
      (sits_at walk (op.SkipIfNotUnit target) width at (refl, refl) _ f.operands
      (of_two target (f.address + width) (f.address + width) (inr refl))
      (λ enough. omega (arith, enough)))
      (is_unit (top f.operands).value) (λ is le. (le, is))
  even_instr (op.Switch index) width at = even_switch walk index width at
  even_instr op.IterInit width at = even_iter_init walk width at
  even_instr op.IterDrop width at = even_iter_drop walk width at
  even_instr (op.IterNext target) width at = even_iter_next walk target width at
  even_instr (op.IterNextIndexed target slot) width at =
      even_iter_next_indexed walk target slot width at
  even_instr (op.Call n count) width at =
      even_called walk (op.Call n count) width at (name_of m.program n) count f.operands
      (omega arith) (omega (arith, length_under count f.operands))
      (λ v. sits_at walk (op.Call n count) width at (refl, refl) _ _ (inl refl)
      (λ _. omega
      (arith, length_pushed (under count f.operands) v, length_under count f.operands)))
      (λ is. is) (λ g args on charged low many. (g, args, inl on, charged, low, many))
      (function_found m.program n count) (λ none lent. (refl, none, lent))
      (λ none args read. (refl, read, none))
      (λ g e. (e, refl)) (λ g e valid. fits_found m.program valid (function_of m.program n count) g
      0 None e)
  even_instr (op.CallOp n count o) width at =
      even_flat_all walk (op.CallOp n count o) width at f.operands (omega arith)
      (arguments count f.operands) (λ lent. (refl, lent)) _
      (λ args read. even_pushed walk (op.CallOp n count o) width at (name_of m.program n) args
      (under count f.operands)
      (λ v. sits_at walk (op.CallOp n count o) width at (refl, refl) _ _ (inl refl)
      (λ _. omega
      (arith, length_pushed (under count f.operands) v, length_under count f.operands)))
      (operated m.program m.engine o args) (refl, read, refl) (λ none. (refl, read, none)))
      (flat_all now.cells (arguments count f.operands)) refl
  even_instr (op.MakeClosure n) width at =
      let p = dynamic.Pointer (record { name = name_of m.program n; curry = [] }) in
      even_on walk (op.MakeClosure n) width at _ refl
      (sits_at walk (op.MakeClosure n) width at (refl, refl) _ _ (inl refl) (λ _. one_more walk p))
  even_instr op.MakeFnPtr width at = even_make_fn_ptr walk width at
  even_instr (op.MakeArray n) width at = even_make_array walk n width at
  even_instr (op.MakeMap n) width at = even_make_map walk n width at
  even_instr (op.CheckArraySize index) width at = even_check_array_size walk index width at
  even_instr (op.CheckMapSize index) width at = even_check_map_size walk index width at
  even_instr op.InterpolateStart width at = even_interpolate_start walk width at
  even_instr op.InterpolateAppend width at = even_interpolate_append walk width at
  even_instr op.InterpolateEnd width at = even_interpolate_end walk width at
  even_instr (op.Curry n) width at =
      even_pointer walk (op.Curry n) width at n refl (λ lent. (refl, lent))
      (λ p v. curried m p v n (f.address + width) f (start walk)) (λ v. refl)
      (λ p v points. even_on walk (op.Curry n) width at _ refl
      (sits_at walk (op.Curry n) width at (refl, refl) _ _ (inl refl)
      (λ enough. omega (
        arith,
        length_pushed (under (n + 1) f.operands) (dynamic.Pointer (record p {
          curry = p.curry ++ trees_in (arguments n f.operands);
        })),
        length_under (n + 1) f.operands,
        enough,
      ))))
  even_instr (op.CallFnPtr n) width at =
      even_pointer walk (op.CallFnPtr n) width at n refl (λ lent. (refl, inl lent))
      (λ p v. pointer_called m p v n (f.address + width) f (start walk)) (λ v. refl)
      (λ p v points.
      let count = length p.curry + n in
      let ops = (spread p n f).operands in
      even_called walk (op.CallFnPtr n) width at p.name count ops
      (omega (arith, spread_length p n f.operands)) (omega (arith, spread_under p n f.operands))
      (λ v. sits_at walk (op.CallFnPtr n) width at (refl, refl) _ _ (inl refl)
      (λ enough. omega (
        arith,
        length_pushed (under count ops) v,
        spread_under p n f.operands,
        enough,
      )))
      (λ is. is) (λ g args on charged low many. (g, args, inl on, charged, low, many))
      (function_by_name m.program p.name count)
      (λ none lent. (refl, inr (p, points, none, lent)))
      (λ none args read. (p, points, refl, read, none))
      (λ g e. (p, points, e, refl))
      (λ g e valid. fits_found m.program valid (function_by_text m.program p.name count) g 0 None
      e))
  even_instr (op.CallFnPtrMethod n) width at =
      even_method walk (op.CallFnPtrMethod n) width at Nowhere n refl
      (λ operands many v. sits_at walk (op.CallFnPtrMethod n) width at (refl, refl) _ _ (inl refl)
      (λ _. omega (arith, many, length_pushed operands v))) (λ operands many. many) (λ _. tt)
  even_instr (op.CallFnPtrOnLocal n slot) width at =
      even_method walk (op.CallFnPtrOnLocal n slot) width at (ToSlot slot) n refl
      (λ operands many v. sits_at walk (op.CallFnPtrOnLocal n slot) width at (refl, refl) _ _ (inl refl)
      (λ _. omega (arith, many, length_pushed operands v))) (λ operands many. many)
      (λ has. (refl, has))
  even_instr (op.CallFnPtrOnThis n) width at =
      even_method walk (op.CallFnPtrOnThis n) width at ToThis n refl
      (λ operands many v. sits_at walk (op.CallFnPtrOnThis n) width at (refl, refl) _ _ (inl refl)
      (λ _. omega (arith, many, length_pushed operands v))) (λ operands many. many) (λ _. tt)
  even_instr (op.UnwindTo depth) width at = even_unwound walk (op.UnwindTo depth) width at
      (f.base + depth)
      (sits_at walk (op.UnwindTo depth) width at (refl, refl) _ f.operands (inl refl) (λ _. omega arith))
      (omega (arith, sits.0)) refl
  even_instr op.Tick width at =
      even_charged_on walk op.Tick width at (f.address + width) f.operands (omega arith)
      (sits_at walk op.Tick width at (refl, refl) _ f.operands (inl refl) (λ _. omega arith)) tt
  even_instr op.Checkpoint width at =
      let on = sits_at walk op.Checkpoint width at (refl, refl) (f.address + width) f.operands (inl refl)
      (λ _. omega arith) in
      even_onward walk (now.ran + 1)
      (record f { address = f.address + width; floor = length now.scope }) (start walk)
      (steady walk) trace (inr ((width, at), refl)) (sits.0, keeps.keeps.there, on.2, on.3, on.4)
  even_instr (op.Statement depth) width at = even_on walk (op.Statement depth) width at _ refl
      (sits_at walk (op.Statement depth) width at (refl, refl) _ f.operands (inl refl) (λ _. omega arith))
  even_instr (op.PushHandler target) width at =
      even_handled walk (op.PushHandler target) width at target None
      (fits_on walk (op.PushHandler target) width at refl
      (guarding walk target None (f.address + width))
      (of_two target (f.address + width) (f.address + width) (inr refl)) (λ _. omega arith)
      (λ _. omega arith)
      (pushed_tries walk target None))
  even_instr (op.PushHandlerVar target n) width at =
      even_handled walk (op.PushHandlerVar target n) width at target (Some n)
      (fits_on walk (op.PushHandlerVar target n) width at refl
      (guarding walk target (Some n) (f.address + width))
      (of_two target (f.address + width) (f.address + width) (inr refl)) (λ _. omega arith)
      (λ _. omega arith)
      (pushed_tries walk target (Some n)))
  even_instr op.PopHandler width at =
      let after : Frame = unguarded walk (f.address + width) in
      even_on walk op.PopHandler width at after refl (
        sits.0,
        sits.1,
        fits_on walk op.PopHandler width at refl after (inl refl) (λ _. omega arith)
            (λ _. omega arith) (tries_outer f.handlers),
        guarded_outside m root k f.handlers sits.3,
        sits.4,
      )
  even_instr (op.Chain k) width at =
      let n = chain_takes (chain_of m.program k) in
      even_chain walk (op.Chain k) width at k refl (omega (arith, length_under n f.operands))
      (λ v. sits_at walk (op.Chain k) width at (refl, refl) (f.address + width)
      (under n f.operands ++ read_write v ∷ []) (inl refl)
      (λ enough. omega (
        arith,
        length_pushed (under n f.operands) v,
        length_under n f.operands,
        enough,
      )))
      (λ j x row. why_chain walk (op.Chain k) width at k j x refl row)
      (λ j x how cause passes. why_left walk (op.Chain k) width at k j x refl how cause passes)
  even_instr op.Throw width at =
      even_flat walk op.Throw width at (top f.operands) [] (λ lent. (refl, lent)) _
      (λ v read. even_raised_in walk op.Throw width at (under 1 f.operands)
      (omega (arith, length_under 1 f.operands)) (now.ran + 1)
      (Plain (problem.Runtime v) (position m f)) (start walk) (steady walk)
      (why walk op.Throw width at (Plain (problem.Runtime v) (position m f)) refl (read, tt)))
      (flat now.cells (top f.operands).value) refl
  even_instr op.Return width at =
      even_marked walk (now.ran + 1) (start walk) (steady walk) (End (Came (top f.operands).value))
      (refl, tokens, level, keeps, (trace, tt))

  even_begun : (x : Option (Op × ℕ)) → op_at m.program.code f.address ≡ x →
      Even walk (now.ran + 1) (start_instruction m (or_return x) f
      (record now { ran = now.ran + 1 }))
  even_begun None e =
      even_marked walk (now.ran + 1) (record now { ran = now.ran + 1 }) (steady walk)
      (instr m op.Return (f.address + 1) f)
      (even_marked walk (now.ran + 1) (start walk) (steady walk) (End (Came (top f.operands).value))
      (refl, tokens, level, keeps, (trace, tt)))
  even_begun (Some r) e = even_marked walk (now.ran + 1) (record now { ran = now.ran + 1 })
      (steady walk) (instr m r.0 (f.address + r.1) f) (even_instr r.0 r.1 e)

  pub even_next : Even walk (now.ran + 1) (next m (InFrame f) now)
  even_next = even_begun (op_at m.program.code f.address) refl
