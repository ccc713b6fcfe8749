-- A native was lent what a cell holds, or that could not be read.
use Rattle.std.proofs.Common.{refl}
use Rattle.std.specs.Prelude.{slice_set}
use Rattle.grain_value.specs.Cells.{idle}
use Rattle.grain_fault.specs.declared.faults.EvalAltResult.TheVariants as fault
use Rattle.grain_vm.specs.Driving.{name_in}
use Rattle.grain_vm.proofs.ForCells.{get_below}
use Rattle.grain_vm.proofs.LentCells.{cells_alone, lends_first, lends_out, lends_over, lends_refused}
use Rattle.grain_vm.proofs.OnReceivers.{receiver_back}
use Rattle.grain_vm.proofs.natives.call_on_cell.Goals as goal

pub returns-in-Err-clause-called : goal.returns-in-Err-clause-called
returns-in-Err-clause-called g c = λ m own.
    lends_out g.H.Host.law m own (name_in c.args.what) c.args.pos c.args.arguments c.args.cell c.args.held
    c.requires.cell c.args.run.now c.args.steps.now c.args.host.now fault.Memory refl

pub returns-in-None-clause-called : goal.returns-in-None-clause-called
returns-in-None-clause-called g c = λ m own.
    lends_refused g.H.Host.law m own (name_in c.args.what) c.args.pos c.args.arguments c.args.cell
    c.args.held c.requires.cell c.args.run.now c.args.steps.now c.args.host.now
    c.raise_race-fault.result c.raise_race-fault.new.steps c.raise_race-fault.ensures.raised
    (rw c.in-None.is at c.in-Ok.ensures)

pub lend-requires : goal.lend-requires
lend-requires g c =
    let read = rw c.in-Some.is at c.in-Ok.ensures in
    get_below c.args.run.now.cells c.args.cell (idle read.0) read.1

pub returns-in-Over-clause-called : goal.returns-in-Over-clause-called
returns-in-Over-clause-called g c = λ m own.
    let content = c.in-Ok-lend.ensures.content in
    let asked = c.ask_host in
    let back = c.give_back_to_cell in
    lends_over g.H.Host.law m own (name_in c.args.what) c.args.pos c.args.arguments c.args.cell c.args.held
    c.requires.cell c.args.run.now c.args.steps.now c.args.host.now c.in-Some.arguments
    c.in-Ok-lend.content c.lend.new.self asked.new.run (rw c.in-Some.is at c.in-Ok.ensures) content.0
    content.1 asked.ensures.run c.in-Over.outcome c.in-Over.left back.result asked.new.steps
    asked.new.host back.new.run c.in-Over.ensures.lent back.ensures.run back.ensures.receiver
    (λ args home described.
    rw c.name_asked-name.ensures at (c.in-Over.ensures.asked args home described))

pub returns-in-Over-clause-run : goal.returns-in-Over-clause-run
returns-in-Over-clause-run g c =
    let content = c.in-Ok-lend.content in
    let left = receiver_back (record content { read_only = c.args.held.read_only }) c.in-Over.left
    c.in-Over.ensures.lent in
    let away = c.ask_host.new.run in
    cells_alone c.args.run.now away c.give_back_to_cell.new.run c.lend.new.self
    (slice_set away.cells c.args.cell
    (idle (record { value = left.0.value; read_only = content.read_only }))) c.ask_host.ensures.run
    (c.give_back_to_cell.ensures.run left.0 left.1)

pub returns-clause-called : goal.returns-clause-called
returns-clause-called g c = λ m own.
    let content = c.in-Ok-lend.ensures.content in
    let asked = c.ask_host in
    lends_first g.H.Host.law m own (name_in c.args.what) c.args.pos c.args.arguments c.args.cell c.args.held
    c.requires.cell c.args.run.now c.args.steps.now c.args.host.now c.in-Some.arguments
    c.in-Ok-lend.content c.lend.new.self asked.new.run (rw c.in-Some.is at c.in-Ok.ensures) content.0
    content.1 asked.ensures.run c.in-Asks.native asked.new.steps asked.new.host
    (λ args home described.
    rw c.name_asked-name.ensures at (c.in-Asks.ensures.asked args home described))
