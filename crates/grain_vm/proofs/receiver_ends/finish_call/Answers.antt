-- The receiver goes nowhere, or is where it goes, and the call is over.
use Rattle.std.proofs.Common.{◌≡◌, ◌<◌, ◌≤◌, ◌+◌, List, true, false, length, ap, arith, rules}
use Rattle.grain_value.specs.Scopes.{set_held}
use Rattle.grain_value.specs.declared.scopes.Entry.{Entry}
use Rattle.grain_chain.specs.Walking.{outcome_of}
use Rattle.grain_means.specs.Means.{setup}
use Rattle.grain_means.specs.lemmas.Scopes.{length_set_held}
use Rattle.grain_frame.specs.declared.runs.Run.{Run}
use Rattle.grain_vm.specs.Receivers.{destination_in, goes_nowhere}
use Rattle.grain_vm.proofs.CallEnds.{over_dropped, over_entry, over_nowhere, over_past, over_this}
use Rattle.grain_vm.proofs.receiver_ends.finish_call.Goals as goal

pub returns-then-goes_nowhere-clause-implements : goal.returns-then-goes_nowhere-clause-implements
returns-then-goes_nowhere-clause-implements g c = λ host.
    let p = c.args.context.program.now in
    let e = c.args.context.engine.now in
    let nowhere : goes_nowhere c.args.receiver ≡ true = search rules in
    over_dropped (setup g.H.Host.law p e) c.args.frame.now c.end_call.new.frame c.args.run.now
    c.end_call.new.run c.args.steps.now c.end_call.new.steps host c.args.next c.args.receiver
    (outcome_of c.args.outcome) c.end_call.result (destination_in c.args.destination) nowhere
    (c.end_call.ensures.implements p e host)

pub returns-in-Nowhere-clause-implements : goal.returns-in-Nowhere-clause-implements
returns-in-Nowhere-clause-implements g c = λ host.
    let p = c.args.context.program.now in
    let e = c.args.context.engine.now in
    let goes : goes_nowhere c.args.receiver ≡ false = search rules in
    rw c.in-Nowhere.is (over_nowhere (setup g.H.Host.law p e) c.args.frame.now
    c.end_call-in-Nowhere.new.frame c.args.run.now c.end_call-in-Nowhere.new.run c.args.steps.now
    c.end_call-in-Nowhere.new.steps host c.args.next c.args.receiver (outcome_of c.args.outcome)
    c.end_call-in-Nowhere.result goes (c.end_call-in-Nowhere.ensures.implements p e host))

pub returns-then-index-len-clause-implements : goal.returns-then-index-len-clause-implements
returns-then-index-len-clause-implements g c = λ host.
    let p = c.args.context.program.now in
    let e = c.args.context.engine.now in
    let f = c.args.frame.now in
    let s = c.args.run.now in
    let goes : goes_nowhere c.args.receiver ≡ false = search rules in
    let past : length s.scope ≤ f.base + c.in-Slot.slot =
    omega (arith, c.if-index-len.true, c.len.ensures.value, c.slot_index-index.ensures) in
    rw c.in-Slot.is (over_past (setup g.H.Host.law p e) f f s c.end_without_entry.new.run
    c.args.steps.now c.end_without_entry.new.steps host c.args.next c.args.receiver
    (outcome_of c.args.outcome) c.end_without_entry.result goes c.in-Slot.slot past
    (rw c.slot_index-index.ensures at (c.end_without_entry.ensures.implements c.args.next host)))

pub end_call-requires-in-Slot-clause-inside : goal.end_call-requires-in-Slot-clause-inside
end_call-requires-in-Slot-clause-inside g c =
    rw c.set.ensures (omega (
      arith,
      c.requires.inside,
      length_set_held c.args.run.now.scope c.slot_index-index.result c.args.receiver,
    ))

pub returns-else-index-len-clause-implements : goal.returns-else-index-len-clause-implements
returns-else-index-len-clause-implements g c = λ host.
    let p = c.args.context.program.now in
    let e = c.args.context.engine.now in
    let f = c.args.frame.now in
    let s = c.args.run.now in
    let h = c.args.receiver in
    let goes : goes_nowhere h ≡ false = search rules in
    let there : f.base + c.in-Slot.slot < length s.scope =
    omega (arith, c.if-index-len.false, c.len.ensures.value, c.slot_index-index.ensures) in
    let s1 : Run g.row.H.Denot = record s { scope = c.set.new.self } in
    let written : c.set.new.self ≡ set_held s.scope (f.base + c.in-Slot.slot) h =
    rw c.slot_index-index.ensures at c.set.ensures in
    rw c.in-Slot.is (over_entry (setup g.H.Host.law p e) f c.end_call-in-Slot.new.frame s
    c.end_call-in-Slot.new.run c.args.steps.now c.end_call-in-Slot.new.steps host c.args.next h
    (outcome_of c.args.outcome) c.end_call-in-Slot.result goes c.in-Slot.slot s1 there
    (ap (λ (es : List Entry). record s { scope = es }) written)
    (c.end_call-in-Slot.ensures.implements p e host))

pub returns-in-This-clause-implements : goal.returns-in-This-clause-implements
returns-in-This-clause-implements g c = λ host.
    let p = c.args.context.program.now in
    let e = c.args.context.engine.now in
    let goes : goes_nowhere c.args.receiver ≡ false = search rules in
    rw c.in-This.is (over_this (setup g.H.Host.law p e) c.args.frame.now c.end_call-in-This.new.frame
    c.args.run.now c.end_call-in-This.new.run c.args.steps.now c.end_call-in-This.new.steps host
    c.args.next c.args.receiver (outcome_of c.args.outcome) c.end_call-in-This.result goes
    c.put_in_this.new.run c.put_in_this.ensures (c.end_call-in-This.ensures.implements p e host))
