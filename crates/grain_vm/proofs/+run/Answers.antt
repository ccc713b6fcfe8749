use Rattle.std.proofs.Common.{◌≡◌, ◌∙◌, ◌<◌, ◌-◌, arith, rules, ℕ, List, Bool, Ok, length, refl, subst, None, ap, ◌+◌, ◌++◌, ◌∷◌, [], Some, map, sym, true, false, Err, inr}
use Rattle.grain_means.specs.Means.{setup}
use Rattle.grain_frame.specs.Abstraction.{frame_in, this_of, is_out, moment, abstraction, ImplementsBound}
use Rattle.grain_vm.specs.Driving.{IsApart}
use Rattle.grain_vm.specs.Methods.{NoneAbove, given_to}
use Rattle.grain_frame.specs.declared.waiting.Performed.TheVariants as performed
use Rattle.grain_frame.specs.lemmas.Bound.{arm_bound, as_bound}
use Rattle.grain_vm.proofs.Found.{found_stepped, function_found_so, is_done, is_function, pointer_found, stepped_on_copy, finds_of, call_refused, none_numbered, pointed_done, pointed_found}
use Rattle.grain_frame.specs.Attempts.{IsPending}
use Rattle.grain_vm.specs.Apart.{StandsAtCall}
use Rattle.grain_vm.specs.declared.apart.CallOnCopy.{CallOnCopy}
use Rattle.grain_frame.specs.declared.attempts.Pending.{Pending}
use Rattle.grain_vm.proofs.Plain.{stepped_from}
use Rattle.grain_vm.proofs.Calling.{call_ran, has_begun, not_begun, entered_with, kept_with, refused_here, refused_this, there_is, outer_is}
use Rattle.grain_vm.proofs.ChainAhead.{chain_stepped}
use Rattle.grain_vm.proofs.ReceiverAhead.{receiver_stepped}
use Rattle.grain_vm.proofs.Waited.{leads_over}
use Rattle.grain_vm.proofs.WaitsAhead.{waits_stepped}
use Rattle.grain_vm.proofs.Awaiting.{ends_from, for_some, over_from}
use Rattle.grain_vm.proofs.WaitsOn.{led_to, less_awaits, next_awaits, out_back, over_on, over_out, waits_first, waits_for}
use Rattle.grain_vm.proofs.Running.{around_caught, around_on, caught_on, done_after, done_from, done_so, led, left_around, left_around_by_fault, left_around_by_memory, runs_here, runs_on, stops_by_fault, stops_by_memory, stops_so, turn_falls}
use Rattle.grain_vm.proofs.BoundFrames.{all_still, unbound_above}
use Rattle.grain_vm.proofs.MethodOvers.{called_one, method_ran, method_refused}
use Rattle.grain_vm.specs.Catching.{stopped_frame, StopsSo, Caught, caught_at}
use Rattle.grain_vm.specs.declared.loops.Stop.{Stop}
use Rattle.grain_vm.proofs.CaughtFrames.{offered_so, stopped_so}
use Rattle.grain_means.specs.lemmas.Stretches.{compose, same}
use Rattle.grain_program.specs.View.{chain_of, name_of, position_of}
use Rattle.grain_vm.specs.Chains.{walked_frame}
use Rattle.grain_vm.specs.Seats.{first_held}
use Rattle.grain_vm.specs.Underway.{after_chain}
use Rattle.grain_vm.proofs.ChainLoops.{after_blind, only_retraced, walked_first, walked_over}
use Rattle.grain_vm.proofs.ChainTurns.{asked_on, called_on, over_cut, over_driven}
use Rattle.grain_vm.proofs.GivenUp.{given_up_run}
use Rattle.grain_vm.proofs.InWalks.{later_so, native_finished, native_gave_up, native_walked, raised_over, walked_native_over}
use Rattle.grain_vm.proofs.Lifted.{untraced}
use Rattle.grain_vm.proofs.Performing.{same_flag}
use Rattle.grain_frame.specs.Waiting.{apart_of}
use Rattle.std.specs.Prelude.{option_map, codes}
use Rattle.std.specs.Vec.{vec_items}
use Rattle.grain_vm.specs.Finding.{op_on}
use Rattle.grain_vm.specs.Receivers.{called}
use Rattle.grain_vm.proofs.OnFrames.{callee_out, callee_refused, finds_on_of, first_found, first_on, one_less, function_performed, on_function, pointed_on, target_found, two_there}
use Rattle.grain_vm.proofs.OnCalls.{call_out, function_done, native_done}
use Rattle.grain_vm.specs.declared.natives.OnReceiver.TheVariants as on
use Rattle.grain_vm.proofs.EndedOn.{apart_so, cells_over, ended_cell, ended_plain, left_there}
use Rattle.grain_vm.proofs.NamedNatives.{it_ended, it_led, it_waits, named_done, pointed_out, waited}
use Rattle.grain_program.specs.declared.code.instruction_set.Op.TheVariants as op
use Rattle.grain_means.specs.Rules.{function_found, call_function, function_by_name, operand_under, race_text}
use Rattle.grain_value.specs.Cells.{flat}
use Rattle.grain_value.specs.Operands.{arguments, read_write, under}
use Rattle.grain_value.specs.Writing.{type_name_of}
use Rattle.grain_fault.specs.Problems.{Plain, DataRace, MismatchDataType}
use Rattle.grain_program.specs.Lookups.{CalledByText, function_by_text, function_of}
use Rattle.grain_stack.specs.Views.{StackFrame, StacksView}
use Rattle.grain_means.specs.Simulation.{stopped, world}
use Rattle.grain_frame.specs.declared.runs.Run.{Run}
use Rattle.grain_frame.specs.lemmas.Failing.{raises_here}
use Rattle.grain_vm.proofs.Taken.{took_falls, took_ran, took_refused}
use Rattle.grain_vm.proofs.AskEnds.{asked_again, asked_first, native_ended, past_native}
use Rattle.grain_vm.proofs.BackCalls.{back_called, back_native_called, back_out}
use Rattle.grain_vm.proofs.CalledBack.{back_finished, back_refused}
use Rattle.grain_vm.proofs.MethodEntries.{over_faulted}
use Rattle.grain_vm.specs.Backs.{FindsBack}
use Rattle.grain_vm.specs.declared.methods.Needed.{Needed}
use Rattle.grain_vm.proofs.+run.Goals as goal

pub loops::call-returns-in-Err-clause-goes : goal.loops::call-returns-in-Err-clause-goes
loops::call-returns-in-Err-clause-goes g t c =
    rw (refused_this c.args.run.now c.enter_function.new.run c.enter_function.new.steps
    c.enter_function.new.host c.in-Err.ensures.enters) at (same (c.in-Err.ensures.same c.args.next))

pub loops::call-returns-else-begun-clause-goes : goal.loops::call-returns-else-begun-clause-goes
loops::call-returns-else-begun-clause-goes g t c =
    let function = c.args.function.now in
    let f = frame_in c.args.frame.now c.args.run.now in
    let kept = kept_with c.args.context.engine.now function c.args.run.now c.enter_function.new.run
    c.in-Ok.begun c.if-begun.false c.in-Ok.ensures.enters in
    rw (refused_this c.args.run.now c.enter_function.new.run c.enter_function.new.steps
    c.enter_function.new.host kept) at (same (refused_here c.args.frame.now c.args.run.now
    c.enter_function.new.run kept (not_begun c.in-Ok.begun c.args.run.now
    c.enter_function.new.run function f c.args.next c.if-begun.false (c.in-Ok.ensures.same c.args.next))))

pub loops::call-returns-then-begun-clause-goes : goal.loops::call-returns-then-begun-clause-goes
loops::call-returns-then-begun-clause-goes g t c =
    let function = c.args.function.now in
    let f = frame_in c.args.frame.now c.args.run.now in
    let entered = entered_with c.args.context.engine.now function c.args.run.now
    c.enter_function.new.run
    c.in-Ok.begun c.if-begun.true c.in-Ok.ensures.enters in
    let ran = c.run_frame-end in
    let left = ran.ensures.around in
    let s = c.args.run.now in
    let still = all_still s.level s.receivers ran.new.run.receivers c.requires.none
    (rw (entered.level, entered.receivers) at left.this) in
    call_ran f c.args.next function c.args.run.now.scope c.args.run.now.level (this_of s)
    (has_begun c.in-Ok.begun c.args.run.now c.enter_function.new.run function f c.args.next
    c.if-begun.true (c.in-Ok.ensures.same c.args.next))
    (λ place. rw (entered.operands, entered.cursors, entered.totals, entered.handlers) refl)
    (rw (entered.level, entered.receivers) (unbound_above s.level s.receivers c.requires.none))
    ran.ensures.goes
    (there_is c.args.context.engine.now c.args.frame.now c.resume_caller.new.frame c.args.run.now
    c.enter_function.new.run ran.new.run c.resume_caller.new.run function (length function.params)
    c.args.next entered left.outer left.saved left.level still ran.new.steps
    ran.new.host)
    (outer_is c.args.context.engine.now c.args.frame.now c.resume_caller.new.frame c.args.run.now
    c.enter_function.new.run ran.new.run c.resume_caller.new.run function (length function.params)
    c.args.next entered left.outer left.saved left.level refl)
    (c.resume_caller.ensures.same ran.new.host) c.resume_caller.ensures.persists

pub loops::proceed-returns-in-Some : goal.loops::proceed-returns-in-Some
loops::proceed-returns-in-Some g t c =
    let p = c.args.context.program.now in
    let engine = c.args.context.engine.now in
    let f = c.args.frame.now in
    let s = c.args.run.now in
    let n = c.args.steps.now in
    let host = c.args.host.now in
    let at = subst (λ (q : Pending). IsPending p f s q) c.in-Call.is c.requires.pending in
    let name : c.from.result ≡ c.in-Call.name = search rules in
    let count : c.from-in-Call.result ≡ c.in-Call.count = search rules in
    record {
      stepped = found_stepped g.H.Host.law p engine f f c.call.new.frame s s c.call.new.run n n
          c.call.new.steps c.in-Some.number c.in-Call.next host host c.call.new.host
          c.function_at-function.result.now c.requires.runs
          (function_found_so g.H.Host.law p engine f s n c.in-Call.name c.in-Call.count
          c.in-Some.number c.in-Call.next host at
          (rw (name, count) at (sym c.in-Some.is ∙ c.function.ensures.exact))
          (rw (name, count) at c.in-Some.ensures.called))
          c.function_at-function.ensures.value c.call.ensures.goes c.call.ensures.kept
          c.call.ensures.lands c.call.ensures.before;
    }

pub loops::call_on_copy-returns : goal.loops::call_on_copy-returns
loops::call_on_copy-returns g t c =
    let did = c.pointer_or_native-progress in
    record {
      stepped = stepped_on_copy g.H.Host.law c.args.context.program.now c.args.context.engine.now
          c.args.frame.now did.new.frame c.args.run.now did.new.run c.args.steps.now did.new.steps
          c.args.host.now did.new.host did.result did.ensures.stepped;
    }

pub loops::step_on_copy-returns : goal.loops::step_on_copy-returns
loops::step_on_copy-returns g t c =
    let did = c.step_or_walk-progress in
    record {
      stepped = stepped_on_copy g.H.Host.law c.args.context.program.now c.args.context.engine.now
          c.args.frame.now did.new.frame c.args.run.now did.new.run c.args.steps.now did.new.steps
          c.args.host.now did.new.host did.result did.ensures.stepped;
    }

pub apart::pointer_or_native-returns-in-Native : goal.apart::pointer_or_native-returns-in-Native
apart::pointer_or_native-returns-in-Native g t c =
    let at = subst (λ (q : CallOnCopy). StandsAtCall c.args.context.program.now c.args.frame.now
    c.args.run.now q) c.in-Native.is c.requires.stands in
    record { stepped = arm_bound refl refl refl at.0 c.requires.runs c.call_native.ensures.performs }

pub apart::call_pointer-returns-in-Function : goal.apart::call_pointer-returns-in-Function
apart::call_pointer-returns-in-Function g t c =
    let law = g.H.Host.law in
    let p = c.args.context.program.now in
    let engine = c.args.context.engine.now in
    let found = c.find_pointed.new in
    let called = c.call_apart in
    let here = is_function law p engine c.args.frame.now found.frame c.args.run.now found.run
    c.args.steps.now found.steps c.in-Ok.found c.in-Function.number c.in-Function.next
    c.args.host.now found.host c.in-Function.is
    (pointer_found law p engine c.args.frame.now found.frame c.args.run.now found.run
    c.args.steps.now found.steps c.args.count c.args.next c.args.host.now found.host
    (Ok c.in-Ok.found) c.requires.runs c.requires.stands c.in-Ok.ensures.finds) in
    record {
      stepped = found_stepped law p engine c.args.frame.now found.frame called.new.frame
          c.args.run.now found.run called.new.run c.args.steps.now found.steps called.new.steps
          c.in-Function.number c.in-Function.next c.args.host.now found.host called.new.host
          c.function_at-function.result.now c.requires.runs here
          c.function_at-function.ensures.value called.ensures.goes called.ensures.kept
          called.ensures.lands called.ensures.before;
    }

pub apart::call_pointer-returns-in-Done : goal.apart::call_pointer-returns-in-Done
apart::call_pointer-returns-in-Done g t c =
    let law = g.H.Host.law in
    let p = c.args.context.program.now in
    let engine = c.args.context.engine.now in
    let found = c.find_pointed.new in
    record {
      stepped = is_done (setup law p engine)
          (moment c.args.frame.now c.args.run.now c.args.steps.now c.args.host.now)
          (moment found.frame found.run found.steps found.host) c.in-Ok.found c.in-Done.progress
          c.in-Done.is
          (pointer_found law p engine c.args.frame.now found.frame c.args.run.now found.run
          c.args.steps.now found.steps c.args.count c.args.next c.args.host.now found.host
          (Ok c.in-Ok.found) c.requires.runs c.requires.stands c.in-Ok.ensures.finds);
    }

pub apart::call_pointer-returns-in-Err : goal.apart::call_pointer-returns-in-Err
apart::call_pointer-returns-in-Err g t c =
    let found = c.find_pointed.new in
    record {
      stepped = pointer_found g.H.Host.law c.args.context.program.now c.args.context.engine.now
          c.args.frame.now found.frame c.args.run.now found.run c.args.steps.now found.steps
          c.args.count c.args.next c.args.host.now found.host (Err c.in-Err.e) c.requires.runs
          c.requires.stands c.in-Err.ensures.finds;
    }

pub loops::run_from-turn-smaller-in-Done : goal.loops::run_from-turn-smaller-in-Done
loops::run_from-turn-smaller-in-Done g t c =
    turn_falls c.turn.invariant (done_from c.turn.steps c.begin_instruction.ensures c.mark.ensures
    (c.in-Done.ensures c.turn.host))

pub loops::run_from-turn-preserved-in-Done : goal.loops::run_from-turn-preserved-in-Done
loops::run_from-turn-preserved-in-Done g t c =
    runs_on c.turn.invariant (done_from c.turn.steps c.begin_instruction.ensures c.mark.ensures
    (c.in-Done.ensures c.turn.host))

pub loops::run_from-returns-in-Returned : goal.loops::run_from-returns-in-Returned
loops::run_from-returns-in-Returned g t c =
    let did = done_from c.turn.steps c.begin_instruction.ensures c.mark.ensures
    (c.in-Returned.ensures c.turn.host) in
    record {
      goes = led c.turn.invariant did;
      catches = tt;
      around = left_around c.turn.invariant did;
    }

pub loops::run_from-returns-in-Err : goal.loops::run_from-returns-in-Err
loops::run_from-returns-in-Err g t c =
    let went = c.jump_to in
    let did = done_from c.turn.steps c.begin_instruction.ensures c.mark.ensures
    (c.in-Jump.ensures.leads c.turn.host (Err c.in-Err.e)
    (moment went.new.frame went.new.self went.new.steps went.new.host)
    c.in-Err.ensures.implements) in
    let left = c.leave_by_fault in
    record {
      goes = stops_by_memory c.turn.invariant c.in-Err.e did left.new.run left.ensures;
      catches = tt;
      around = left_around_by_memory c.turn.invariant c.in-Err.e did left.new.run left.ensures;
    }

pub loops::run_from-leave_by_fault-requires-clause-entered :
    goal.loops::run_from-leave_by_fault-requires-clause-entered
loops::run_from-leave_by_fault-requires-clause-entered g t c =
    let went = c.jump_to in
    let did = c.in-Jump.ensures.leads c.turn.host (Err c.in-Err.e)
    (moment went.new.frame went.new.self went.new.steps went.new.host) c.in-Err.ensures.implements in
    omega (
      arith,
      c.turn.invariant.runs.entered,
      ap (λ (fs : List StackFrame). length fs) did.kept.outer,
    )

pub loops::run_from-leave_by_fault-requires-clause-unnoted :
    goal.loops::run_from-leave_by_fault-requires-clause-unnoted
loops::run_from-leave_by_fault-requires-clause-unnoted g t c =
    let went = c.jump_to in
    let did = c.in-Jump.ensures.leads c.turn.host (Err c.in-Err.e)
    (moment went.new.frame went.new.self went.new.steps went.new.host) c.in-Err.ensures.implements in
    did.kept.noted ∙ c.turn.invariant.runs.unnoted

pub loops::run_from-turn-smaller-in-Continues : goal.loops::run_from-turn-smaller-in-Continues
loops::run_from-turn-smaller-in-Continues g t c =
    let went = c.jump_to in
    turn_falls c.turn.invariant (done_so c.in-Continues.is
    (done_from c.turn.steps c.begin_instruction.ensures c.mark.ensures
    (c.in-Jump.ensures.leads c.turn.host (Ok c.in-Ok.progress)
    (moment went.new.frame went.new.self went.new.steps went.new.host)
    c.in-Ok.ensures.implements)))

pub loops::run_from-turn-preserved-in-Continues : goal.loops::run_from-turn-preserved-in-Continues
loops::run_from-turn-preserved-in-Continues g t c =
    let went = c.jump_to in
    runs_on c.turn.invariant (done_so c.in-Continues.is
    (done_from c.turn.steps c.begin_instruction.ensures c.mark.ensures
    (c.in-Jump.ensures.leads c.turn.host (Ok c.in-Ok.progress)
    (moment went.new.frame went.new.self went.new.steps went.new.host)
    c.in-Ok.ensures.implements)))

pub loops::run_from-returns-in-Returned-progress : goal.loops::run_from-returns-in-Returned-progress
loops::run_from-returns-in-Returned-progress g t c =
    let went = c.jump_to in
    let did = done_so c.in-Returned-progress.is
    (done_from c.turn.steps c.begin_instruction.ensures c.mark.ensures
    (c.in-Jump.ensures.leads c.turn.host (Ok c.in-Ok.progress)
    (moment went.new.frame went.new.self went.new.steps went.new.host)
    c.in-Ok.ensures.implements)) in
    record {
      goes = led c.turn.invariant did;
      catches = tt;
      around = left_around c.turn.invariant did;
    }

pub loops::run_from-returns-in-Failed : goal.loops::run_from-returns-in-Failed
loops::run_from-returns-in-Failed g t c =
    let went = c.jump_to in
    let did = done_so c.in-Failed.is
    (done_from c.turn.steps c.begin_instruction.ensures c.mark.ensures
    (c.in-Jump.ensures.leads c.turn.host (Ok c.in-Ok.progress)
    (moment went.new.frame went.new.self went.new.steps went.new.host)
    c.in-Ok.ensures.implements)) in
    let noted = c.note_stop in
    record {
      goes = stops_by_fault c.turn.invariant did noted.new.self noted.ensures;
      catches = stops_so c.turn.invariant did noted.new.self noted.ensures;
      around = left_around_by_fault c.turn.invariant did noted.new.self noted.ensures;
    }

pub loops::run_from-returns-in-Err-proceed : goal.loops::run_from-returns-in-Err-proceed
loops::run_from-returns-in-Err-proceed g t c =
    let did = done_after c.turn.steps c.begin_instruction.ensures c.mark.ensures c.in-Pending.ensures.0
    c.in-Err-proceed.ensures.stepped in
    let left = c.leave_by_fault-in-Err-proceed in
    record {
      goes = stops_by_memory c.turn.invariant c.in-Err-proceed.e did left.new.run left.ensures;
      catches = tt;
      around = left_around_by_memory c.turn.invariant c.in-Err-proceed.e did left.new.run
          left.ensures;
    }

pub loops::run_from-turn-preserved : goal.loops::run_from-turn-preserved
loops::run_from-turn-preserved g t c =
    runs_on c.turn.invariant (done_so c.in-Continues-progress.is
    (done_after c.turn.steps c.begin_instruction.ensures c.mark.ensures c.in-Pending.ensures.0
    c.in-Ok-proceed.ensures.stepped))

pub loops::run_from-returns-in-Returned-progress-2 : goal.loops::run_from-returns-in-Returned-progress-2
loops::run_from-returns-in-Returned-progress-2 g t c =
    let did = done_so c.in-Returned-progress-2.is
    (done_after c.turn.steps c.begin_instruction.ensures c.mark.ensures c.in-Pending.ensures.0
    c.in-Ok-proceed.ensures.stepped) in
    record {
      goes = led c.turn.invariant did;
      catches = tt;
      around = left_around c.turn.invariant did;
    }

pub loops::run_from-returns-in-Failed-progress : goal.loops::run_from-returns-in-Failed-progress
loops::run_from-returns-in-Failed-progress g t c =
    let did = done_so c.in-Failed-progress.is
    (done_after c.turn.steps c.begin_instruction.ensures c.mark.ensures c.in-Pending.ensures.0
    c.in-Ok-proceed.ensures.stepped) in
    let noted = c.note_stop-in-Failed-progress in
    record {
      goes = stops_by_fault c.turn.invariant did noted.new.self noted.ensures;
      catches = stops_so c.turn.invariant did noted.new.self noted.ensures;
      around = left_around_by_fault c.turn.invariant did noted.new.self noted.ensures;
    }

pub loops::run_frame-returns-in-Err : goal.loops::run_frame-returns-in-Err
loops::run_frame-returns-in-Err g t c = record {
  goes = compose c.frame.invariant.goes c.in-Err.ensures.goes tt;
  around = around_on c.frame.invariant c.in-Err.ensures.around;
}

pub loops::run_frame-returns-in-Value : goal.loops::run_frame-returns-in-Value
loops::run_frame-returns-in-Value g t c = record {
  goes = compose c.frame.invariant.goes
      (stopped_so c.args.chunk.now c.args.base c.run_from.new.run c.in-Value.is c.in-Ok.ensures.goes)
      tt;
  around = around_on c.frame.invariant c.in-Ok.ensures.around;
}

pub loops::run_frame-offer-requires-clause-catches : goal.loops::run_frame-offer-requires-clause-catches
loops::run_frame-offer-requires-clause-catches g t c = (
  stopped_frame c.args.chunk.now c.args.base c.run_from.new.run,
  (subst (λ (q : Stop). StopsSo c.args.context.program.now c.args.chunk.now c.args.base
      c.run_from.new.run (Ok q)) c.in-Fault.is c.in-Ok.ensures.catches).1,
)

pub loops::run_frame-returns-in-Err-offer : goal.loops::run_frame-returns-in-Err-offer
loops::run_frame-returns-in-Err-offer g t c =
    let at = stopped_frame c.args.chunk.now c.args.base c.run_from.new.run in
    record {
      goes = compose (compose c.frame.invariant.goes
          (stopped_so c.args.chunk.now c.args.base c.run_from.new.run c.in-Fault.is
          c.in-Ok.ensures.goes) tt) (c.in-Err-offer.ensures.goes at refl refl refl) tt;
      around = around_caught c.frame.invariant c.in-Ok.ensures.around c.in-Err-offer.ensures.kept
          c.offer.ensures.before;
    }

pub loops::run_frame-returns-then-not-caught : goal.loops::run_frame-returns-then-not-caught
loops::run_frame-returns-then-not-caught g t c =
    let at = stopped_frame c.args.chunk.now c.args.base c.run_from.new.run in
    let went = c.offer.new in
    let none : c.in-Ok-offer.caught ≡ false = search rules in
    let kept = subst (λ (b : Bool). Caught c.args.context.engine.now c.run_from.new.run went.run
    (caught_at (Ok b) went.address)) none c.in-Ok-offer.ensures.kept in
    record {
      goes = compose (compose c.frame.invariant.goes
          (stopped_so c.args.chunk.now c.args.base c.run_from.new.run c.in-Fault.is
          c.in-Ok.ensures.goes) tt)
          (offered_so (frame_in at went.run) went.run.fault went.address none
          (c.in-Ok-offer.ensures.goes at refl refl refl)) tt;
      around = around_caught c.frame.invariant c.in-Ok.ensures.around kept c.offer.ensures.before;
    }

pub loops::run_frame-frame-preserved : goal.loops::run_frame-frame-preserved
loops::run_frame-frame-preserved g t c =
    let ran = c.run_from.new in
    let caught = c.offer.new in
    let offers = c.in-Ok-offer.ensures in
    let at = stopped_frame c.args.chunk.now c.args.base c.run_from.new.run in
    let has : c.in-Ok-offer.caught ≡ true = search rules in
    caught_on c.args.chunk.now c.args.base c.frame.address c.frame.floor
    caught.address caught.floor c.frame.run ran.run caught.run c.frame.steps ran.steps caught.steps
    c.frame.host ran.host caught.host c.frame.invariant c.in-Fault.is c.in-Ok.ensures.goes
    c.in-Ok.ensures.catches c.in-Ok.ensures.around has (offers.goes at refl refl refl)
    offers.kept (offers.typed at) offers.floor c.offer.ensures.before

pub apart::step_or_walk-returns-in-None : goal.apart::step_or_walk-returns-in-None
apart::step_or_walk-returns-in-None g t c =
    let did = c.step_plain.new in
    let walked = c.walk_or_wait in
    record {
      stepped = stepped_from g.H.Host.law c.args.context.program.now c.args.context.engine.now
          c.args.frame.now did.frame c.args.run.now did.run c.args.steps.now did.steps
          c.args.host.now did.host
          (moment walked.new.frame walked.new.run walked.new.steps walked.new.host) walked.result
          c.in-Ok.done c.in-None.is c.in-Ok.ensures.steps walked.ensures.stepped;
    }

pub apart::walk_or_wait-returns-in-Waits : goal.apart::walk_or_wait-returns-in-Waits
apart::walk_or_wait-returns-in-Waits g t c =
    let did = c.step.new in
    let waited = c.wait_for_native in
    record {
      stepped = waits_stepped g.H.Host.law c.args.context.program.now c.args.context.engine.now
          (moment c.args.frame.now c.args.run.now c.args.steps.now c.args.host.now)
          (moment did.frame did.run did.steps did.host) c.in-Ok.turn c.in-Waits.is
          c.in-Ok.ensures.steps c.requires.runs waited.ensures.goes;
    }

pub apart::walk_or_wait-returns-in-Chain : goal.apart::walk_or_wait-returns-in-Chain
apart::walk_or_wait-returns-in-Chain g t c =
    let did = c.step.new in
    let walked = c.walk_chain in
    record {
      stepped = chain_stepped g.H.Host.law c.args.context.program.now c.args.context.engine.now
          (moment c.args.frame.now c.args.run.now c.args.steps.now c.args.host.now)
          (moment did.frame did.run did.steps did.host)
          (moment walked.new.frame walked.new.run walked.new.steps walked.new.host) c.in-Ok.turn
          c.in-Chain.index c.in-Chain.next c.requires.runs c.in-Chain.is c.in-Ok.ensures.steps
          walked.ensures.performs;
    }

pub apart::walk_or_wait-returns-in-Receiver : goal.apart::walk_or_wait-returns-in-Receiver
apart::walk_or_wait-returns-in-Receiver g t c =
    let did = c.step.new in
    let called = c.call_with in
    record {
      stepped = receiver_stepped g.H.Host.law c.args.context.program.now c.args.context.engine.now
          (moment c.args.frame.now c.args.run.now c.args.steps.now c.args.host.now)
          (moment did.frame did.run did.steps did.host)
          (moment called.new.frame called.new.run called.new.steps called.new.host) c.in-Ok.turn
          c.in-Receiver.destination c.in-Receiver.count c.in-Receiver.next called.result
          c.requires.runs c.in-Receiver.is c.in-Ok.ensures.steps called.ensures.performs;
    }

pub method_runs::call_with-returns-in-Function : goal.method_runs::call_with-returns-in-Function
method_runs::call_with-returns-in-Function g t c =
    let p = c.args.context.program.now in
    let found = c.find_on in
    let called = c.call_apart in
    let finds = on_function (setup g.H.Host.law p c.args.context.engine.now)
    (moment c.args.frame.now c.args.run.now c.args.steps.now c.args.host.now)
    (moment found.new.frame found.new.run found.new.steps found.new.host)
    (op_on c.args.destination c.args.count) c.args.next c.in-Ok.found c.in-Function.number
    c.in-Function.next c.in-Function.is c.in-Ok.ensures.finds in
    record {
      performs = function_performed g.H.Host.law p c.args.context.engine.now c.args.frame.now
          found.new.frame called.new.frame c.args.run.now found.new.run called.new.run
          c.args.steps.now found.new.steps called.new.steps c.args.host.now found.new.host
          called.new.host c.args.destination c.args.count c.args.next c.in-Function.number
          c.function_at-function.result.now finds.1 c.function_at-function.ensures.value
          (rw finds.0 at called.ensures.goes) called.ensures.kept (rw finds.0 at called.ensures.lands)
          called.ensures.before;
    }

pub loops::run_frame-frame-init : goal.loops::run_frame-frame-init
loops::run_frame-frame-init g t c = runs_here c.requires.runs c.requires.none

pub loops::run_from-turn-init : goal.loops::run_from-turn-init
loops::run_from-turn-init g t c = runs_here c.requires.runs c.requires.none

-- ---- functions that a walk calls

pub method_runs::run_method-returns-in-Err : goal.method_runs::run_method-returns-in-Err
method_runs::run_method-returns-in-Err g t c =
    let m = setup g.H.Host.law c.args.context.program.now c.args.context.engine.now in
    let found = c.function_at-function in
    let o = c.in-Err.refused in
    let entered = c.enter_method.new in
    let called = method_refused m c.args.call found.result.now c.args.run.now c.args.steps.now
    c.args.host.now o entered.run entered.steps entered.host c.in-Err.ensures.enters in
    record {
      called = λ h there. (called_one m c.args.call found.result.now c.args.run.now c.args.steps.now
          c.args.host.now h o.0 o.1 entered.run entered.steps entered.host found.ensures.value there
          called).0;
      over = called.1;
      lent = called.2;
      took = took_refused m c.args.call.pos found.result.now (given_to c.args.call.arguments)
          c.args.run.now c.args.steps.now c.args.host.now o.0 entered.run entered.steps entered.host
          c.in-Err.ensures.enters.2;
      before = c.enter_method.ensures.before;
    }

pub method_runs::run_method-returns-in-Ok : goal.method_runs::run_method-returns-in-Ok
method_runs::run_method-returns-in-Ok g t c =
    let m = setup g.H.Host.law c.args.context.program.now c.args.context.engine.now in
    let found = c.function_at-function in
    let entered = c.enter_method.new in
    let ran = c.run_frame-end in
    let left = c.leave_method in
    let called = method_ran m c.args.call found.result.now c.args.run.now c.args.steps.now
    c.args.host.now entered.run ran.new.run left.new.run entered.steps ran.new.steps left.new.steps
    entered.host ran.new.host c.in-Ok.back left.result.1 ran.result left.result.0
    c.in-Ok.ensures.enters c.requires.none ran.ensures.goes ran.ensures.around left.ensures.same
    left.ensures.persists left.ensures.left left.ensures.receiver in
    record {
      called = λ h there. (called_one m c.args.call found.result.now c.args.run.now c.args.steps.now
          c.args.host.now h left.result.0 left.result.1 left.new.run left.new.steps ran.new.host
          found.ensures.value there called).0;
      over = called.1;
      lent = called.2;
      took = took_ran m.engine found.result.now c.args.call.receiver c.args.run.now entered.run
          ran.new.run left.new.run left.result.0 c.in-Ok.ensures.enters.1 ran.ensures.around.later
          left.ensures.left;
      before = left.ensures.before ∙ (ran.ensures.around.before ∙ c.enter_method.ensures.before);
    }

-- ---- the walk of a chain

pub method_runs::walk_chain-returns-in-Err : goal.method_runs::walk_chain-returns-in-Err
method_runs::walk_chain-returns-in-Err g t c =
    record { performs = c.in-Err.ensures.begins c.args.host.now }

pub method_runs::walk_chain-returns-in-Ok-Refused : goal.method_runs::walk_chain-returns-in-Ok-Refused
method_runs::walk_chain-returns-in-Ok-Refused g t c = record {
  performs = rw c.in-Ok-Refused.field-0-is at (c.in-Ok-Refused.ensures.begins c.args.host.now);
}

pub method_runs::walk_chain-calls-init : goal.method_runs::walk_chain-calls-init
method_runs::walk_chain-calls-init g t c =
    walked_first (setup g.H.Host.law c.args.context.program.now c.args.context.engine.now)
    (moment c.args.frame.now c.args.run.now c.args.steps.now c.args.host.now) c.args.index c.args.next
    c.in-Ok-Walks.walking c.in-Ok-Walks.answer c.begin_chain.new.frame c.begin_chain.new.run
    c.begin_chain.new.steps
    (rw c.in-Ok-Walks.field-0-is at (c.in-Ok-Walks.ensures.begins c.args.host.now))
    (rw c.in-Ok-Walks.field-0-is at c.in-Ok-Walks.ensures.waits) c.begin_chain.ensures.blames
    c.requires.none

pub method_runs::walk_chain-calls-preserved-in-Calls : goal.method_runs::walk_chain-calls-preserved-in-Calls
method_runs::walk_chain-calls-preserved-in-Calls g t c =
    let p = c.args.context.program.now in
    let f = c.args.frame.now in
    let k = c.args.index in
    let w = c.calls.walking in
    let was = c.calls.invariant in
    let frame = walked_frame f c.args.run.now (chain_of p k) f.slot in
    let drove = c.in-Calls.ensures in
    let drove_to = c.drive.new in
    let called = c.call_method-outcome in
    let went = c.go_on-answer in
    let cut : Run g.row.H.Denot = record drove_to.run { stacks = c.cut_trace.new.self } in
    let emptied : cut ≡ untraced drove_to.run = rw c.cut_trace.ensures refl in
    let so = drove.same k frame was.way.seat (after_chain k c.args.next w.home w.was_read_only frame)
    was.missed was.way.scope was.way.this was.way.seated was.rooted
    (after_blind k c.args.next w.home w.was_read_only frame) was.is_missed in
    called_on (setup g.H.Host.law p c.args.context.engine.now)
    (moment f c.args.run.now c.args.steps.now c.args.host.now) k c.args.next w c.calls.answer
    c.calls.missed c.calls.frame c.calls.run drove_to.run called.new.run c.calls.steps drove_to.steps
    called.new.steps went.new.steps c.calls.host drove_to.host called.new.host drove_to.walk
    went.new.walk c.in-Calls.call.receiver called.result.1 called.result.0 went.result was c.in-Calls.call
    drove.waits.0.function cut so.0 refl emptied so.2 drove.waits.0.is
    (drove.rooted (first_held was.way.seat).read_only was.rooted) drove.waits.1
    (called.ensures.called drove.waits.0.function drove.waits.0.is) called.ensures.lent
    (over_cut c.calls.run drove_to.run cut called.new.run drove_to.run.stacks.trace drove.run emptied
    called.ensures.over)
    (went.ensures.did, went.ensures.carries, went.ensures.rooted, went.ensures.marked, went.ensures.falls)
    drove.carries drove.before called.ensures.before

pub method_runs::walk_chain-calls-preserved : goal.method_runs::walk_chain-calls-preserved
method_runs::walk_chain-calls-preserved g t c =
    let p = c.args.context.program.now in
    let f = c.args.frame.now in
    let k = c.args.index in
    let w = c.calls.walking in
    let was = c.calls.invariant in
    let frame = walked_frame f c.args.run.now (chain_of p k) f.slot in
    let drove = c.in-Asks.ensures in
    let drove_to = c.drive.new in
    let called = c.native_in_walk-outcome in
    let went = c.go_on-answer-in-Asks in
    let native = c.in-Asks.native in
    let so = drove.same k frame was.way.seat (after_chain k c.args.next w.home w.was_read_only frame)
    was.missed was.way.scope was.way.this was.way.seated was.rooted
    (after_blind k c.args.next w.home w.was_read_only frame) was.is_missed in
    asked_on (setup g.H.Host.law p c.args.context.engine.now)
    (moment f c.args.run.now c.args.steps.now c.args.host.now) k c.args.next w c.calls.answer
    c.calls.missed c.calls.frame c.calls.run drove_to.run called.new.run c.calls.steps drove_to.steps
    called.new.steps went.new.steps c.calls.host drove_to.host called.new.host drove_to.walk
    went.new.walk (apart_of native.lent) called.result.1 called.result.0 went.result was native
    c.in-Asks.named drove_to.missed called.new.missed so.0 refl so.1 so.2
    (drove.rooted (first_held was.way.seat).read_only was.rooted) drove.waits.1 called.ensures.walked
    called.ensures.lent
    (over_driven c.calls.run drove_to.run called.new.run drove_to.run.stacks.trace drove.run
    called.ensures.over)
    (went.ensures.did, went.ensures.carries, went.ensures.rooted, went.ensures.marked, went.ensures.falls)
    drove.carries drove.before called.ensures.before

pub method_runs::walk_chain-returns-in-Over : goal.method_runs::walk_chain-returns-in-Over
method_runs::walk_chain-returns-in-Over g t c =
    let p = c.args.context.program.now in
    let f = c.args.frame.now in
    let k = c.args.index in
    let w = c.calls.walking in
    let was = c.calls.invariant in
    let frame = walked_frame f c.args.run.now (chain_of p k) f.slot in
    let drove = c.in-Over.ensures in
    let drove_to = c.drive.new in
    let ended = c.finish_chain in
    let so = drove.same k frame was.way.seat (after_chain k c.args.next w.home w.was_read_only frame)
    was.missed was.way.scope was.way.this was.way.seated was.rooted
    (after_blind k c.args.next w.home w.was_read_only frame) was.is_missed in
    record {
      performs = walked_over (setup g.H.Host.law p c.args.context.engine.now)
          (moment f c.args.run.now c.args.steps.now c.args.host.now) k c.args.next w c.calls.answer
          c.calls.missed c.calls.frame ended.new.frame c.calls.run drove_to.run ended.new.run
          c.calls.steps drove_to.steps ended.new.steps c.calls.host drove_to.host drove_to.walk
          c.in-Over.end ended.result so.0 was
          (only_retraced c.calls.run drove_to.run drove_to.run.stacks.trace drove.run) so.2 drove.carries
          (drove.rooted (first_held was.way.seat).read_only was.rooted)
          (ended.ensures.finishes drove_to.host) ended.ensures.carries drove.before c.requires.ready;
    }

-- ---- natives that a walk calls

pub walk_natives::native_in_walk-returns-in-Err : goal.walk_natives::native_in_walk-returns-in-Err
walk_natives::native_in_walk-returns-in-Err g t c =
    let m = setup g.H.Host.law c.args.context.program.now c.args.context.engine.now in
    let s = c.args.run.now in
    let gave = c.give_up in
    let left : gave.new.run ≡ untraced s =
    given_up_run c.args.native.lent s c.take_trace.new.run gave.new.run c.requires.apart gave.ensures.run
    c.in-Err.ensures.refused in
    record {
      walked = rw gave.ensures.outcome
          (native_gave_up m c.args.named c.args.missed.now c.args.native s gave.new.run
          c.args.steps.now c.args.host.now gave.new.host left gave.ensures.host);
      over = only_retraced s gave.new.run [] left;
      lent = rw gave.ensures.outcome (same_flag (apart_of c.args.native.lent));
      before = refl;
    }

pub walk_natives::native_in_walk-returns : goal.walk_natives::native_in_walk-returns
walk_natives::native_in_walk-returns g t c =
    let m = setup g.H.Host.law c.args.context.program.now c.args.context.engine.now in
    let s = c.args.run.now in
    let ended = c.end_of_native-outcome in
    let raised = c.raised_in_walk-outcome in
    let own = option_map vec_items c.in-Ok.before in
    let n = c.args.steps.now in
    let native = c.args.native in
    let apart = c.requires.apart in
    record {
      walked = rw c.misses_named.ensures
          (native_walked m c.args.named c.args.missed.now native s ended.new.run raised.new.run n
          ended.new.steps raised.new.steps c.args.host.now ended.new.host own ended.result.0 raised.result
          ended.result.1 apart (rw c.is_kept.ensures at c.in-Ok.ensures.taken)
          (rw c.in-Ok.ensures.empty at ended.ensures.ends)
          ended.ensures.left raised.ensures);
      over = walked_native_over native.lent s ended.new.run raised.new.run ended.new.steps raised.new.steps
          own ended.result.0 raised.result apart (rw c.in-Ok.ensures.empty at ended.ensures.over)
          raised.ensures;
      lent = ended.ensures.left;
      before = (later_so own ended.new.run ended.new.steps ended.result.0 raised.result raised.new.run
          raised.new.steps raised.ensures).1 ∙ ended.ensures.before;
    }

pub asks::finish_native-returns-in-Over : goal.asks::finish_native-returns-in-Over
asks::finish_native-returns-in-Over g t c = record {
  finishes = rw c.in-Over.is (refl, refl, refl, refl, refl);
  over = only_retraced c.args.run.now c.args.run.now c.args.run.now.stacks.trace refl;
  lent = rw c.in-Over.is (same_flag c.in-Over.outcome.1);
  before = refl;
}

pub asks::finish_native-returns-in-Asks : goal.asks::finish_native-returns-in-Asks
asks::finish_native-returns-in-Asks g t c =
    let m = setup g.H.Host.law c.args.context.program.now c.args.context.engine.now in
    let s = c.args.run.now in
    let native = c.in-Asks.native in
    let ended = c.end_of_native-outcome in
    let raised = c.raised_in_walk in
    let apart = rw c.in-Asks.is at c.requires.apart in
    record {
      finishes = rw c.in-Asks.is (native_finished m native s ended.new.run raised.new.run
          c.args.steps.now ended.new.steps raised.new.steps c.args.host.now ended.new.host ended.result.0
          raised.result ended.result.1 ended.ensures.ends raised.ensures);
      over = raised_over native.lent s ended.new.run raised.new.run ended.new.steps raised.new.steps None
          ended.result.0 raised.result apart ended.ensures.over raised.ensures;
      lent = rw c.in-Asks.is ended.ensures.left;
      before = (later_so None ended.new.run ended.new.steps ended.result.0 raised.result raised.new.run
          raised.new.steps raised.ensures).1 ∙ ended.ensures.before;
    }

-- ---- calls with a receiver

pub method_runs::find_on-returns-in-Err : goal.method_runs::find_on-returns-in-Err
method_runs::find_on-returns-in-Err g t c =
    let p = c.args.context.program.now in
    let f = c.args.frame.now in
    let s = c.args.run.now in
    let found = c.find_callee in
    record {
      finds = callee_out g.H.Host.law p c.args.context.engine.now f s c.args.steps.now c.args.host.now
          c.args.destination c.args.count c.args.next
          (called p s.cells s.stacks.operands f.address c.args.count) refl c.in-Err.e found.new.run
          found.new.steps c.requires.ready.inside (rw c.from-total.ensures at c.in-Err.ensures);
    }

pub method_runs::find_on-returns-in-Refused : goal.method_runs::find_on-returns-in-Refused
method_runs::find_on-returns-in-Refused g t c =
    let p = c.args.context.program.now in
    let f = c.args.frame.now in
    let s = c.args.run.now in
    let found = c.find_callee in
    record {
      finds = callee_refused g.H.Host.law p c.args.context.engine.now f s c.args.steps.now
          c.args.host.now c.args.destination c.args.count c.args.next
          (called p s.cells s.stacks.operands f.address c.args.count) refl c.in-Ok.callee
          c.in-Refused.is found.new.run found.new.steps c.requires.ready.inside
          (rw c.from-total.ensures at c.in-Ok.ensures);
    }

pub method_runs::find_on-returns-in-Target : goal.method_runs::find_on-returns-in-Target
method_runs::find_on-returns-in-Target g t c =
    let p = c.args.context.program.now in
    let f = c.args.frame.now in
    let s = c.args.run.now in
    let found = c.find_callee in
    let pointed = c.find_pointed in
    let there = target_found g.H.Host.law p c.args.context.engine.now f s c.args.steps.now
    c.args.host.now c.args.destination c.args.count c.args.next
    (called p s.cells s.stacks.operands f.address c.args.count) refl c.in-Ok.callee c.in-Target.is
    found.new.run found.new.steps (rw c.from-total.ensures at c.in-Ok.ensures) in
    record {
      finds = pointed_on g.H.Host.law p c.args.context.engine.now f pointed.new.frame s
          pointed.new.run c.args.steps.now pointed.new.steps c.args.host.now pointed.new.host
          c.args.destination c.args.count c.args.next there.0 pointed.result
          (rw (there.1, there.2) at pointed.ensures.finds);
    }

pub method_runs::find_on-returns-in-First : goal.method_runs::find_on-returns-in-First
method_runs::find_on-returns-in-First g t c =
    let p = c.args.context.program.now in
    let f = c.args.frame.now in
    let s = c.args.run.now in
    let found = c.find_callee in
    let called_on = c.call_on in
    let m = setup g.H.Host.law p c.args.context.engine.now in
    let there = first_found g.H.Host.law p c.args.context.engine.now f s c.args.steps.now
    c.args.host.now c.args.destination c.args.count c.args.next
    (called p s.cells s.stacks.operands f.address c.args.count) refl c.in-Ok.callee c.in-First.pointer
    c.in-First.is found.new.run found.new.steps (rw c.from-total.ensures at c.in-Ok.ensures) in
    rw c.of.ensures (record {
      finds = finds_on_of (op_on c.args.destination c.args.count) c.args.next called_on.result
          (first_on g.H.Host.law p c.args.context.engine.now f s c.args.steps.now c.args.host.now
          c.args.destination c.args.count c.args.next c.in-First.pointer there.0 called_on.new.frame
          called_on.new.run called_on.new.steps called_on.new.host called_on.result there.1 there.2
          (rw (there.3, there.4, one_less there.2) at called_on.ensures.called));
    })

pub method_runs::find_on-find_pointed-requires : goal.method_runs::find_on-find_pointed-requires
method_runs::find_on-find_pointed-requires g t c κs within =
    let p = c.args.context.program.now in
    let f = c.args.frame.now in
    let s = c.args.run.now in
    let found = c.find_callee in
    let there = target_found g.H.Host.law p c.args.context.engine.now f s c.args.steps.now
    c.args.host.now c.args.destination c.args.count c.args.next
    (called p s.cells s.stacks.operands f.address c.args.count) refl c.in-Ok.callee c.in-Target.is
    found.new.run found.new.steps (rw c.from-total.ensures at c.in-Ok.ensures) in
    let unchanged : found.new.run ≡ s = there.1 in search rules

pub method_runs::find_on-call_on-requires : goal.method_runs::find_on-call_on-requires
method_runs::find_on-call_on-requires g t c =
    let p = c.args.context.program.now in
    let s = c.args.run.now in
    let found = c.find_callee in
    let there = first_found g.H.Host.law p c.args.context.engine.now c.args.frame.now s
    c.args.steps.now c.args.host.now c.args.destination c.args.count c.args.next
    (called p s.cells s.stacks.operands c.args.frame.now.address c.args.count) refl c.in-Ok.callee
    c.in-First.pointer c.in-First.is found.new.run found.new.steps
    (rw c.from-total.ensures at c.in-Ok.ensures) in
    let unchanged : found.new.run ≡ s = there.3 in
    let some : 0 < c.args.count = omega (arith, there.2) in search rules

pub method_runs::call_on-returns-in-Err : goal.method_runs::call_on-returns-in-Err
method_runs::call_on-returns-in-Err g t c =
    let taken = c.take_call in
    record {
      called = call_out g.H.Host.law c.args.context.program.now c.args.context.engine.now
          c.args.frame.now c.args.run.now c.args.steps.now c.args.host.now c.args.destination
          c.args.pointer (c.args.count - 1) c.args.next c.in-Err.e taken.new.run taken.new.steps
          c.requires.ready.inside c.in-Err.ensures;
    }

pub method_runs::call_on-returns-in-Function : goal.method_runs::call_on-returns-in-Function
method_runs::call_on-returns-in-Function g t c =
    let taken = c.take_call in
    let called = c.call_method-outcome in
    let ended = c.end_on in
    record {
      called = function_done g.H.Host.law c.args.context.program.now c.args.context.engine.now
          c.args.frame.now c.args.run.now taken.new.run called.new.run c.args.steps.now
          taken.new.steps called.new.steps c.args.host.now called.new.host c.args.destination
          c.args.pointer (c.args.count - 1) c.args.next called.result.0 called.result.1
          ended.new.frame ended.new.run ended.new.steps ended.result c.in-Ok.needed c.in-Function.call
          (two_there c.args.count (length c.args.run.now.stacks.operands) c.requires.some
          c.requires.ready.operands) (rw c.from-total.ensures at c.in-Ok.ensures) c.in-Function.is
          called.ensures.called called.ensures.over called.ensures.lent called.ensures.before
          ended.ensures.implements ended.ensures.carries;
    }

pub method_runs::call_on-returns-in-Native : goal.method_runs::call_on-returns-in-Native
method_runs::call_on-returns-in-Native g t c =
    let taken = c.take_call in
    let called = c.native_on-outcome in
    let ended = c.end_on-in-Native in
    record {
      called = native_done g.H.Host.law c.args.context.program.now c.args.context.engine.now
          c.args.frame.now c.args.run.now taken.new.run called.new.run c.args.steps.now
          taken.new.steps called.new.steps c.args.host.now called.new.host c.args.destination
          c.args.pointer (c.args.count - 1) c.args.next called.result.0 called.result.1
          ended.new.frame ended.new.run ended.new.steps ended.result c.in-Ok.needed c.in-Native.request
          (two_there c.args.count (length c.args.run.now.stacks.operands) c.requires.some
          c.requires.ready.operands) (rw c.from-total.ensures at c.in-Ok.ensures) c.in-Native.is
          called.ensures.called called.ensures.over called.ensures.lent called.ensures.before
          ended.ensures.implements ended.ensures.carries;
    }

pub asks::call_native-returns : goal.asks::call_native-returns
asks::call_native-returns g t c =
    let p = c.args.context.program.now in
    let none : function_found p c.args.name c.args.count ≡ None =
    none_numbered p (function_of p c.args.name c.args.count) (sym c.requires.missing) in
    let named : c.name-name.result.now ≡ name_of p c.args.name =
    c.name-name.ensures ∙ ap (name_of p) c.from.ensures in
    let did = c.native_by_name in
    record {
      performs = named_done g.H.Host.law p c.args.context.engine.now c.args.frame.now did.new.frame
          c.args.run.now did.new.run c.args.steps.now did.new.steps c.args.name c.args.count
          c.args.next c.args.host.now did.new.host did.result c.name-name.result.now
          c.from-count.result none named c.from-count.ensures did.ensures.implements;
    }

pub finding::find_pointed-returns-in-Lent : goal.finding::find_pointed-returns-in-Lent
finding::find_pointed-returns-in-Lent g t c =
    let p = c.args.context.program.now in
    let engine = c.args.context.engine.now in
    let s = c.args.run.now in
    let f = c.args.frame.now in
    let n = c.args.count in
    let none : flat s.cells (operand_under n s.stacks.operands).value ≡ None =
    rw c.from-count.ensures at c.in-Lent.ensures in
    rw c.of.ensures (record {
      finds = finds_of g.H.Host.law p engine f f s c.data_race.new.self c.args.steps.now
          c.data_race.new.steps (op.CallFnPtr n) c.args.next c.args.host.now c.args.host.now
          c.data_race.result
          (as_bound (raises_here g.H.Host.law p engine f s c.data_race.new.self c.args.steps.now
          c.data_race.new.steps c.args.host.now
          (Plain (DataRace (race_text [])) (position_of p f.address)) c.data_race.result
          c.data_race.ensures c.requires.ready.inside (λ stop u place. rw none refl)));
    })

pub finding::find_pointed-returns-in-Other : goal.finding::find_pointed-returns-in-Other
finding::find_pointed-returns-in-Other g t c =
    let p = c.args.context.program.now in
    let engine = c.args.context.engine.now in
    let s = c.args.run.now in
    let f = c.args.frame.now in
    let n = c.args.count in
    let ops = s.stacks.operands in
    let stands = c.in-Other.ensures in
    let v = stands.0 in
    let read : flat s.cells (operand_under n ops).value ≡ Some v =
    rw c.from-count.ensures at stands.1 in
    let x = Plain (MismatchDataType (codes "Fn") (type_name_of v)) (position_of p f.address) in
    rw c.of-in-Other.ensures (record {
      finds = finds_of g.H.Host.law p engine f f s c.not_a_pointer.new.self c.args.steps.now
          c.not_a_pointer.new.steps (op.CallFnPtr n) c.args.next c.args.host.now c.args.host.now
          c.not_a_pointer.result
          (as_bound (raises_here g.H.Host.law p engine f s c.not_a_pointer.new.self c.args.steps.now
          c.not_a_pointer.new.steps c.args.host.now x c.not_a_pointer.result
          (c.not_a_pointer.ensures v stands.1) c.requires.ready.inside
          (λ stop u place. call_refused (stopped (setup g.H.Host.law p engine) stop) n c.args.next
          (frame_in f s place) (world (abstraction s c.args.steps.now c.args.host.now) u) v read
          stands.2)));
    })

pub finding::find_pointed-returns-in_err-name-in-Pointer :
    goal.finding::find_pointed-returns-in_err-name-in-Pointer
finding::find_pointed-returns-in_err-name-in-Pointer g t c =
    let out : is_out c.from_residual.result ≡ true = search rules in
    record {
      finds = pointed_out g.H.Host.law c.args.context.program.now c.args.context.engine.now
          c.args.frame.now c.args.run.now c.args.steps.now c.args.host.now c.args.count c.args.next
          c.from_residual.result out c.requires.ready.inside;
    }

pub finding::find_pointed-returns-in_err-spread-in-Pointer :
    goal.finding::find_pointed-returns-in_err-spread-in-Pointer
finding::find_pointed-returns-in_err-spread-in-Pointer g t c =
    let out : is_out c.from_residual-in_err-spread-in-Pointer.result ≡ true = search rules in
    let stays : c.spread.new.self ≡ c.args.run.now.stacks = search rules in
    rw stays (record {
      finds = pointed_out g.H.Host.law c.args.context.program.now c.args.context.engine.now
          c.args.frame.now c.args.run.now c.args.steps.now c.args.host.now c.args.count c.args.next
          c.from_residual-in_err-spread-in-Pointer.result out c.requires.ready.inside;
    })

pub finding::find_pointed-returns-in-Some : goal.finding::find_pointed-returns-in-Some
finding::find_pointed-returns-in-Some g t c =
    let p = c.args.context.program.now in
    let engine = c.args.context.engine.now in
    let s = c.args.run.now in
    let f = c.args.frame.now in
    let n = c.args.count in
    let ops = s.stacks.operands in
    let there = c.in_ok-name-in-Pointer.ensures in
    let q = c.in_ok-name-in-Pointer.field-0 in
    let v = there.0 in
    let read : flat s.cells (operand_under n ops).value ≡ Some v =
    rw c.from-count.ensures at there.1 in
    let values = c.into_vec.result.items in
    let s1 : Run g.row.H.Denot = record s { stacks = c.spread.new.self } in
    let enough : n < length ops = omega (arith, c.requires.ready.operands) in
    let spreads : s1.stacks.operands ≡ under (n + 1) ops ++ map read_write values
    ++ arguments n ops = rw c.from-count.ensures at c.in_ok-spread-in-Pointer.ensures.operands in
    let others : s1 ≡ record s { stacks = record s.stacks { operands = s1.stacks.operands } } =
    ap (λ (k : StacksView). record s { stacks = k }) c.in_ok-spread-in-Pointer.ensures.others in
    let total : c.len.result + c.from-count.result ≡ length q.curry + n =
    rw (c.len.ensures.value, c.from-count.ensures) refl in
    let word : c.as_str.result.now ≡ q.name = search rules in
    let exact : Some c.in-Some.number ≡ function_by_text p q.name (length q.curry + n) =
    subst (λ (k : ℕ). Some c.in-Some.number ≡ function_by_text p q.name k) total
    (rw word at c.in-Some.ensures.exact) in
    let called : CalledByText p q.name (length q.curry + n) c.in-Some.number =
    subst (λ (k : ℕ). CalledByText p q.name k c.in-Some.number) total
    (rw word at c.in-Some.ensures.called) in
    record {
      finds = (
        refl,
        pointed_found g.H.Host.law p engine f s s1 c.args.steps.now n c.args.next c.args.host.now v
            q values read there.2 c.into_vec.ensures enough spreads others c.in-Some.number exact
            called,
      );
    }

pub finding::find_pointed-returns : goal.finding::find_pointed-returns
finding::find_pointed-returns g t c =
    let p = c.args.context.program.now in
    let engine = c.args.context.engine.now in
    let s = c.args.run.now in
    let f = c.args.frame.now in
    let n = c.args.count in
    let ops = s.stacks.operands in
    let there = c.in_ok-name-in-Pointer.ensures in
    let q = c.in_ok-name-in-Pointer.field-0 in
    let v = there.0 in
    let read : flat s.cells (operand_under n ops).value ≡ Some v =
    rw c.from-count.ensures at there.1 in
    let values = c.into_vec.result.items in
    let s1 : Run g.row.H.Denot = record s { stacks = c.spread.new.self } in
    let enough : n < length ops = omega (arith, c.requires.ready.operands) in
    let spreads : s1.stacks.operands ≡ under (n + 1) ops ++ map read_write values
    ++ arguments n ops = rw c.from-count.ensures at c.in_ok-spread-in-Pointer.ensures.operands in
    let others : s1 ≡ record s { stacks = record s.stacks { operands = s1.stacks.operands } } =
    ap (λ (k : StacksView). record s { stacks = k }) c.in_ok-spread-in-Pointer.ensures.others in
    let total : c.len.result + c.from-count.result ≡ length q.curry + n =
    rw (c.len.ensures.value, c.from-count.ensures) refl in
    let word : c.as_str.result.now ≡ q.name = search rules in
    let missing : None ≡ function_by_text p q.name (length q.curry + n) =
    subst (λ (k : ℕ). None ≡ function_by_text p q.name k) total
    (rw word at (sym c.in-None.is ∙ c.function_named.ensures.exact)) in
    let none : function_by_name p q.name (length q.curry + n) ≡ None =
    none_numbered p (function_by_text p q.name (length q.curry + n)) missing in
    let called = c.native_by_name in
    let did = subst (λ (k : ℕ). ImplementsBound (setup g.H.Host.law p engine) (moment f s1
    c.args.steps.now c.args.host.now) (λ m place w. call_function m None q.name k (frame_in f s1
    place) c.args.next w) (c.args.next ∷ []) k 1 s1.stacks.handlers called.result (moment
    called.new.frame called.new.run called.new.steps called.new.host)) total
    called.ensures.implements in
    rw c.of-in-None.ensures (record {
      finds = finds_of g.H.Host.law p engine f called.new.frame s called.new.run c.args.steps.now
          called.new.steps (op.CallFnPtr n) c.args.next c.args.host.now called.new.host called.result
          (pointed_done g.H.Host.law p engine f s s1 c.args.steps.now n c.args.next
          c.args.host.now v q values read there.2 c.into_vec.ensures enough spreads others
          called.new.frame called.new.run called.new.steps called.new.host none did);
    })

-- ---- instructions that wait for a native

pub asks::wait_for_native-natives-init : goal.asks::wait_for_native-natives-init
asks::wait_for_native-natives-init g t c =
    let w = c.requires.runs in
    record {
      first = w.0;
      begins = w.1;
      now = w.0;
      has = w.1;
      waits = waits_first (setup g.H.Host.law c.args.context.program.now c.args.context.engine.now)
          (moment c.args.frame.now c.args.run.now c.args.steps.now c.args.host.now) w.0 w.2
          c.requires.none;
    }

pub asks::wait_for_native-native_over-requires-clause-leads :
    goal.asks::wait_for_native-native_over-requires-clause-leads
asks::wait_for_native-native_over-requires-clause-leads g t c =
    let ended = c.end_of_native-outcome in
    let w = c.in-Some.waiting in
    let was = waits_for c.natives.invariant w (sym c.take_waiting.ensures.value ∙ c.in-Some.is) in
    let waits = was.waits in
    let over = over_from c.natives.run None w.lent ended.new.run
    (rw c.take_waiting.ensures.after at ended.ensures.over) in (
      waits.takes,
      waits.gives,
      waits.targets,
      leads_over c.args.context.program.now c.natives.frame c.natives.run ended.new.run w.lent over
          w.rest waits.takes waits.gives waits.targets waits.lends waits.leads,
    )

pub asks::wait_for_native-returns-then-is_out : goal.asks::wait_for_native-returns-then-is_out
asks::wait_for_native-returns-then-is_out g t c =
    let m = setup g.H.Host.law c.args.context.program.now c.args.context.engine.now in
    let b = moment c.natives.frame c.natives.run c.natives.steps c.natives.host in
    let ended = c.end_of_native-outcome in
    let w = c.in-Some.waiting in
    let was = waits_for c.natives.invariant w (sym c.take_waiting.ensures.value ∙ c.in-Some.is) in
    let over = over_from c.natives.run None w.lent ended.new.run
    (rw c.take_waiting.ensures.after at ended.ensures.over) in
    let ends = ends_from c.natives.run None m w.asked w.lent c.position-pos.result c.natives.steps
    c.natives.host ended.result.0 ended.result.1 ended.new.run ended.new.steps ended.new.host
    (rw c.take_waiting.ensures.after at ended.ensures.ends) in
    record {
      goes = for_some _ c.natives.invariant.begins (λ h takes gives targets plain leads.
          over_out {m = m} b w c.position-pos.result ended.new.run ended.new.steps
          ended.new.host ended.result.0 ended.result.1 was.waits.lends over
          ends (λ place. sym c.position-pos.ensures) ended.ensures.before
          (was.so h takes gives targets plain leads) (sym c.is_out.ensures ∙ c.if-is_out.true));
    }

pub asks::wait_for_native-returns-in_err-progress : goal.asks::wait_for_native-returns-in_err-progress
asks::wait_for_native-returns-in_err-progress g t c =
    let m = setup g.H.Host.law c.args.context.program.now c.args.context.engine.now in
    let b = moment c.natives.frame c.natives.run c.natives.steps c.natives.host in
    let ended = c.end_of_native-outcome in
    let w = c.in-Some.waiting in
    let was = waits_for c.natives.invariant w (sym c.take_waiting.ensures.value ∙ c.in-Some.is) in
    let over = over_from c.natives.run None w.lent ended.new.run
    (rw c.take_waiting.ensures.after at ended.ensures.over) in
    let ends = ends_from c.natives.run None m w.asked w.lent c.position-pos.result c.natives.steps
    c.natives.host ended.result.0 ended.result.1 ended.new.run ended.new.steps ended.new.host
    (rw c.take_waiting.ensures.after at ended.ensures.ends) in
    let out : is_out c.from_residual.result ≡ true = search rules in
    record {
      goes = for_some _ c.natives.invariant.begins (λ h takes gives targets plain leads.
          out_back c.in_err-progress.field-0.0 c.from_residual.result out
          (over_on {m = m} b w c.position-pos.result ended.new.run ended.new.steps
          ended.new.host ended.result.0 ended.result.1 was.waits.lends over
          ends (λ place. sym c.position-pos.ensures) ended.ensures.before
          (was.so h takes gives targets plain leads) (sym c.is_out.ensures ∙ c.if-is_out.false)
          c.in_err-progress.ensures.implements));
    }

pub asks::wait_for_native-returns-in-Leads : goal.asks::wait_for_native-returns-in-Leads
asks::wait_for_native-returns-in-Leads g t c =
    let m = setup g.H.Host.law c.args.context.program.now c.args.context.engine.now in
    let b = moment c.natives.frame c.natives.run c.natives.steps c.natives.host in
    let ended = c.end_of_native-outcome in
    let w = c.in-Some.waiting in
    let was = waits_for c.natives.invariant w (sym c.take_waiting.ensures.value ∙ c.in-Some.is) in
    let over = over_from c.natives.run None w.lent ended.new.run
    (rw c.take_waiting.ensures.after at ended.ensures.over) in
    let ends = ends_from c.natives.run None m w.asked w.lent c.position-pos.result c.natives.steps
    c.natives.host ended.result.0 ended.result.1 ended.new.run ended.new.steps ended.new.host
    (rw c.take_waiting.ensures.after at ended.ensures.ends) in
    record {
      goes = for_some _ c.natives.invariant.begins (λ h takes gives targets plain leads.
          led_to c.in-Leads.is
          (over_on {m = m} b w c.position-pos.result ended.new.run ended.new.steps
          ended.new.host ended.result.0 ended.result.1 was.waits.lends over
          ends (λ place. sym c.position-pos.ensures) ended.ensures.before
          (was.so h takes gives targets plain leads) (sym c.is_out.ensures ∙ c.if-is_out.false)
          c.in_ok-progress.ensures.implements));
    }

pub asks::wait_for_native-natives-preserved : goal.asks::wait_for_native-natives-preserved
asks::wait_for_native-natives-preserved g t c =
    let m = setup g.H.Host.law c.args.context.program.now c.args.context.engine.now in
    let ended = c.end_of_native-outcome in
    let went = c.native_over.new in
    let w = c.in-Some.waiting in
    let now = c.natives.invariant in
    let was = waits_for now w (sym c.take_waiting.ensures.value ∙ c.in-Some.is) in
    let over = over_from c.natives.run None w.lent ended.new.run
    (rw c.take_waiting.ensures.after at ended.ensures.over) in
    let ends = ends_from c.natives.run None m w.asked w.lent c.position-pos.result c.natives.steps
    c.natives.host ended.result.0 ended.result.1 ended.new.run ended.new.steps ended.new.host
    (rw c.take_waiting.ensures.after at ended.ensures.ends) in
    next_awaits {m = m}
    {a = moment c.args.frame.now c.args.run.now c.args.steps.now c.args.host.now}
    {b = moment c.natives.frame c.natives.run c.natives.steps c.natives.host}
    {c = moment went.frame went.self went.steps went.host} {w = w} {q = c.position-pos.result}
    {s' = ended.new.run} {n' = ended.new.steps} {host' = ended.new.host} ended.result.0
    ended.result.1 now.begins was over ends
    (λ place. sym c.position-pos.ensures) ended.ensures.before
    (sym c.is_out.ensures ∙ c.if-is_out.false) c.in-Waits.is c.in_ok-progress.ensures.implements

pub asks::wait_for_native-natives-smaller : goal.asks::wait_for_native-natives-smaller
asks::wait_for_native-natives-smaller g t c =
    let m = setup g.H.Host.law c.args.context.program.now c.args.context.engine.now in
    let ended = c.end_of_native-outcome in
    let went = c.native_over.new in
    let w = c.in-Some.waiting in
    let has = sym c.take_waiting.ensures.value ∙ c.in-Some.is in
    let over = over_from c.natives.run None w.lent ended.new.run
    (rw c.take_waiting.ensures.after at ended.ensures.over) in
    less_awaits {m = m}
    {a = moment c.args.frame.now c.args.run.now c.args.steps.now c.args.host.now}
    {b = moment c.natives.frame c.natives.run c.natives.steps c.natives.host}
    {c = moment went.frame went.self went.steps went.host} {w = w} {s' = ended.new.run}
    {n' = ended.new.steps} {host' = ended.new.host} ended.result.0 has
    (waits_for c.natives.invariant w has) over c.in-Waits.is
    c.in_ok-progress.ensures.implements c.in_ok-progress.ensures.less

-- ---- natives that are called on a receiver

pub asks::native_on-returns-in-Over : goal.asks::native_on-returns-in-Over
asks::native_on-returns-in-Over g t c =
    let m = setup g.H.Host.law c.args.context.program.now c.args.context.engine.now in
    let called = c.call_native_on in
    let did = c.in-Over.ensures.called m refl in
    record {
      called = did.1;
      over = cells_over c.args.run.now called.new.run called.ensures.run;
      lent = did.0;
      before = called.ensures.before;
    }

pub asks::native_on-returns-in-None : goal.asks::native_on-returns-in-None
asks::native_on-returns-in-None g t c =
    let m = setup g.H.Host.law c.args.context.program.now c.args.context.engine.now in
    let called = c.call_native_on in
    let over = c.finish_native-outcome in
    let native = c.in-Asks.native in
    let cell = c.in-Asks.cell in
    let did = ended_plain m c.args.request c.args.run.now called.new.run over.new.run c.args.steps.now
    called.new.steps over.new.steps c.args.host.now called.new.host over.new.host over.result.0
    (on.Asks native cell) native cell over.result.1 refl (c.in-Asks.ensures.called m refl)
    called.ensures.run called.ensures.before over.ensures.finishes over.ensures.over over.ensures.lent
    over.ensures.before c.in-None.is in
    record { called = did.called; over = did.over; lent = did.lent; before = did.before }

pub asks::native_on-returns-in-Some : goal.asks::native_on-returns-in-Some
asks::native_on-returns-in-Some g t c =
    let m = setup g.H.Host.law c.args.context.program.now c.args.context.engine.now in
    let called = c.call_native_on in
    let over = c.finish_native-outcome in
    let native = c.in-Asks.native in
    let cell = c.in-Asks.cell in
    let back = c.give_back_to_cell-receiver in
    let did = ended_cell m c.args.request c.args.run.now called.new.run over.new.run c.args.steps.now
    called.new.steps over.new.steps c.args.host.now called.new.host over.new.host over.result.0
    (on.Asks native cell) native cell over.result.1 refl (c.in-Asks.ensures.called m refl)
    called.ensures.run called.ensures.before over.ensures.finishes over.ensures.over over.ensures.lent
    over.ensures.before c.in-Some.cell back.result back.new.run c.in-Some.is back.ensures.receiver
    back.ensures.run in
    record { called = did.called; over = did.over; lent = did.lent; before = did.before }

pub asks::native_on-finish_native-outcome-requires :
    goal.asks::native_on-finish_native-outcome-requires
asks::native_on-finish_native-outcome-requires g t c κs within =
    let m = setup g.H.Host.law c.args.context.program.now c.args.context.engine.now in
    let called = c.call_native_on in
    let native = c.in-Asks.native in
    let apart : IsApart native.lent = apart_so m c.args.request c.args.run.now called.new.run
    c.args.steps.now called.new.steps c.args.host.now called.new.host native c.in-Asks.cell
    (c.in-Asks.ensures.called m refl) in
    let none : NoneAbove called.new.run.level called.new.run.receivers =
    subst (λ (q : Run g.row.H.Denot). NoneAbove q.level q.receivers) (sym called.ensures.run)
    c.requires.none in
    let same : called.new.run.count ≡ c.args.run.now.count =
    ap (λ (q : Run g.row.H.Denot). q.count) called.ensures.run in search rules

pub asks::native_on-give_back_to_cell-receiver-requires :
    goal.asks::native_on-give_back_to_cell-receiver-requires
asks::native_on-give_back_to_cell-receiver-requires g t c =
    let m = setup g.H.Host.law c.args.context.program.now c.args.context.engine.now in
    let called = c.call_native_on in
    left_there m c.args.request c.args.run.now called.new.run c.args.steps.now called.new.steps
    c.args.host.now called.new.host c.in-Asks.native c.in-Asks.cell (c.in-Asks.ensures.called m refl)
    c.finish_native-outcome.result.1 c.finish_native-outcome.ensures.lent

-- ---- natives of a name that no function has

pub asks::native_by_name-returns-in_err-progress : goal.asks::native_by_name-returns-in_err-progress
asks::native_by_name-returns-in_err-progress g t c =
    let out : is_out c.from_residual.result ≡ true = search rules in
    record {
      implements = it_ended c.in_err-progress.field-0.0 c.from_residual.result out
          c.in_err-progress.ensures.implements;
    }

pub asks::native_by_name-returns-in-Leads : goal.asks::native_by_name-returns-in-Leads
asks::native_by_name-returns-in-Leads g t c = record {
  implements = it_led c.in-Leads.progress
      (it_waits c.in_ok-progress.field-0 (performed.Leads c.in-Leads.progress) c.in-Leads.is
      c.in_ok-progress.ensures.implements);
}

pub asks::native_by_name-returns-in-Waits : goal.asks::native_by_name-returns-in-Waits
asks::native_by_name-returns-in-Waits g t c = record {
  implements = waited
      (it_waits c.in_ok-progress.field-0 performed.Waits c.in-Waits.is
      c.in_ok-progress.ensures.implements) c.wait_for_native.result c.wait_for_native.ensures.goes;
}

-- ---- calls that natives ask for

pub calls_back::call_back-returns-in-Err : goal.calls_back::call_back-returns-in-Err
calls_back::call_back-returns-in-Err g t c =
    let s = c.args.run.now in
    record {
      called = back_out (setup g.H.Host.law c.args.context.program.now c.args.context.engine.now)
          c.args.pos c.args.pointer c.args.values s c.args.steps.now c.args.host.now;
      over = over_faulted s s s.count s.fault refl (omega arith);
      took = inr refl;
      before = refl;
    }

pub calls_back::call_back-returns-in-Function : goal.calls_back::call_back-returns-in-Function
calls_back::call_back-returns-in-Function g t c =
    let m = setup g.H.Host.law c.args.context.program.now c.args.context.engine.now in
    let found = subst (λ (n : Needed). FindsBack m.program m.engine c.args.pos c.args.pointer
    c.args.values (Ok n)) c.in-Function.is c.in-Ok.ensures in
    let called = c.run_method-outcome in
    record {
      called = back_called m c.args.pos c.args.pointer c.args.values c.args.run.now called.new.run
          c.args.steps.now called.new.steps c.args.host.now called.new.host called.result.0
          c.in-Function.call found.0.function called.result.1 found found.0.is
          (called.ensures.called found.0.function found.0.is);
      over = called.ensures.over;
      took = called.ensures.took;
      before = called.ensures.before;
    }

pub calls_back::call_back-returns-in-Native : goal.calls_back::call_back-returns-in-Native
calls_back::call_back-returns-in-Native g t c =
    let m = setup g.H.Host.law c.args.context.program.now c.args.context.engine.now in
    let found = subst (λ (n : Needed). FindsBack m.program m.engine c.args.pos c.args.pointer
    c.args.values (Ok n)) c.in-Native.is c.in-Ok.ensures in
    let called = c.native_back in
    record {
      called = back_native_called m c.args.pos c.args.pointer c.args.values c.args.run.now
          called.new.run c.args.steps.now called.new.steps c.args.host.now called.new.host
          called.result c.in-Native.request found called.ensures.called;
      over = called.ensures.over;
      took = called.ensures.took;
      before = called.ensures.before;
    }

pub calls_back::native_back-returns-in-Some : goal.calls_back::native_back-returns-in-Some
calls_back::native_back-returns-in-Some g t c =
    let m = setup g.H.Host.law c.args.context.program.now c.args.context.engine.now in
    let begun = c.begin_native_back in
    let did = back_refused m c.args.request c.args.run.now c.args.steps.now c.args.host.now
    c.in-Some.fault begun.new.run begun.new.steps begun.new.host c.in-Some.ensures.begins in
    record {
      called = did.0;
      over = did.1;
      took = did.2;
      before = begun.ensures.before;
    }

pub calls_back::native_back-returns-in-None : goal.calls_back::native_back-returns-in-None
calls_back::native_back-returns-in-None g t c =
    let m = setup g.H.Host.law c.args.context.program.now c.args.context.engine.now in
    let begun = c.begin_native_back in
    let asked = c.perform_request-answered in
    let over = c.finish_native-outcome in
    let did = back_finished m c.args.request c.args.run.now c.args.steps.now c.args.host.now
    begun.new.run begun.new.steps begun.new.host c.in-None.ensures.begins c.requires.apart
    asked.result asked.new.steps asked.new.host asked.ensures.does over.result.0 over.result.1
    over.new.run over.new.steps over.new.host
    (rw asked.ensures.run at over.ensures.finishes) (rw asked.ensures.run at over.ensures.over)
    (record over.new.run { level = over.new.run.level - 1 }) refl in
    record {
      called = did.0;
      over = did.1;
      took = did.2;
      before = over.ensures.before ∙ (asked.ensures.before ∙ begun.ensures.before);
    }

pub asks::end_of_native-asks-init : goal.asks::end_of_native-asks-init
asks::end_of_native-asks-init g t c =
    asked_first (setup g.H.Host.law c.args.context.program.now c.args.context.engine.now)
    c.args.native c.args.run.now c.args.steps.now c.args.host.now c.requires.kept c.requires.none

pub asks::end_of_native-asks-preserved : goal.asks::end_of_native-asks-preserved
asks::end_of_native-asks-preserved g t c =
    let m = setup g.H.Host.law c.args.context.program.now c.args.context.engine.now in
    let called = c.call_back-came in
    let heard = c.in-Ok.ensures in
    let went = c.resume_native in
    asked_again m c.args.native c.args.run.now c.args.steps.now c.args.host.now c.asks.asked
    c.asks.lent c.asks.run c.asks.steps c.asks.host c.asks.invariant called.result called.new.run
    called.new.steps called.new.host called.ensures.called called.ensures.over (Ok c.in-Ok.told)
    c.told.new.steps (heard.tells m) heard.carries c.in-Ok.told refl c.in-Asks.next c.in-Asks.left
    went.new.self went.new.steps went.new.host c.in-Asks.ensures.tells
    (went.ensures.before ∙ (c.told.ensures.before ∙ called.ensures.before))

pub asks::end_of_native-asks-smaller : goal.asks::end_of_native-asks-smaller
asks::end_of_native-asks-smaller g t c =
    let called = c.call_back-came in
    took_falls c.args.context.engine.now c.asks.run called.new.run called.result
    c.resume_native.new.self.count called.ensures.took c.in-Ok.ensures.heard
    (ap (λ (q : Run g.row.H.Denot). q.count) c.in-Asks.ensures.tells.run.others)

pub asks::end_of_native-returns-in-Err : goal.asks::end_of_native-returns-in-Err
asks::end_of_native-returns-in-Err g t c =
    let m = setup g.H.Host.law c.args.context.program.now c.args.context.engine.now in
    let called = c.call_back-came in
    let heard = c.in-Err.ensures in
    let gone = c.forget_native in
    let did = past_native m c.args.native c.args.run.now c.args.steps.now c.args.host.now c.asks.asked
    c.asks.lent c.asks.run c.asks.steps c.asks.host c.asks.invariant called.result called.new.run
    called.new.steps called.new.host called.ensures.called called.ensures.over (Err c.in-Err.fault)
    c.told.new.steps (heard.tells m) heard.carries c.in-Err.fault refl gone.new.self gone.new.host
    gone.result gone.ensures.run gone.ensures.host gone.ensures.apart in
    record {
      ends = did.0;
      over = did.1;
      left = did.2;
      before = c.told.ensures.before ∙ (called.ensures.before ∙ c.asks.invariant.before);
    }

pub asks::end_of_native-returns-in-Over : goal.asks::end_of_native-returns-in-Over
asks::end_of_native-returns-in-Over g t c =
    let m = setup g.H.Host.law c.args.context.program.now c.args.context.engine.now in
    let called = c.call_back-came in
    let heard = c.in-Ok.ensures in
    let went = c.resume_native in
    let did = native_ended m c.args.native c.args.run.now c.args.steps.now c.args.host.now
    c.asks.asked c.asks.lent c.asks.run c.asks.steps c.asks.host c.asks.invariant called.result
    called.new.run called.new.steps called.new.host called.ensures.called called.ensures.over
    (Ok c.in-Ok.told) c.told.new.steps (heard.tells m) heard.carries c.in-Ok.told refl
    c.in-Over.outcome c.in-Over.left went.new.self went.new.steps went.new.host
    c.in-Over.ensures.tells in
    record {
      ends = did.0;
      over = did.1;
      left = did.2;
      before = went.ensures.before ∙ (c.told.ensures.before
          ∙ (called.ensures.before ∙ c.asks.invariant.before));
    }
