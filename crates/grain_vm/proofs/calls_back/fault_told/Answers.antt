use Rattle.std.proofs.Common.{◌∙◌, sym}
use Rattle.grain_vm.proofs.ToldSo.{handed_on, passed_on}
use Rattle.grain_vm.proofs.calls_back.fault_told.Goals as goal

pub returns-in-Ok : goal.returns-in-Ok
returns-in-Ok c = passed_on c.args.fault (sym c.is_catchable.ensures ∙ c.if-not-is_catchable.false)
    c.in-Ok.fault c.in-Ok.ensures

pub returns-in-Err : goal.returns-in-Err
returns-in-Err c = handed_on c.args.fault c.in-Err.fault c.in-Err.ensures
