-- A native was called on a receiver, which is a cell or is none.
use Rattle.std.proofs.Common.{sym}
use Rattle.grain_vm.proofs.LentCells.{called_cell, called_first, called_over}
use Rattle.grain_vm.proofs.natives.call_native_on.Goals as goal

pub returns-in-Over-clause-called : goal.returns-in-Over-clause-called
returns-in-Over-clause-called g c = λ m own.
    let did = c.perform_request in
    called_over m c.args.request c.in-Some.held c.in-Some.is c.args.run.now c.args.steps.now
    c.args.host.now did.new.run did.new.steps did.new.host g.H.Host.law own c.in-Over.outcome
    (sym (rw c.in-None.is at c.as_cell.ensures)) c.in-Over.ensures.does did.ensures.run
    c.in-Over.ensures.lent

pub returns-in-Asks-clause-called : goal.returns-in-Asks-clause-called
returns-in-Asks-clause-called g c = λ m own.
    let did = c.perform_request in
    called_first m c.args.request c.in-Some.held c.in-Some.is c.args.run.now c.args.steps.now
    c.args.host.now did.new.run did.new.steps did.new.host g.H.Host.law own c.in-Asks.native
    (sym (rw c.in-None.is at c.as_cell.ensures)) c.in-Asks.ensures.does did.ensures.run

pub returns-in-Some-as_cell-clause-called : goal.returns-in-Some-as_cell-clause-called
returns-in-Some-as_cell-clause-called g c = λ m own.
    let did = c.call_on_cell in
    called_cell m c.args.request c.in-Some.held c.in-Some.is c.args.run.now c.args.steps.now
    c.args.host.now did.new.run did.new.steps did.new.host did.result (did.ensures.called m own)
