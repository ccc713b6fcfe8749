use Rattle.grain_vm.proofs.ToldSo.{carries_so, tells_so}
use Rattle.grain_vm.proofs.calls_back.told.Goals as goal

pub returns-in-Err-clause-tells : goal.returns-in-Err-clause-tells
returns-in-Err-clause-tells g c = λ m. tells_so m c.args.pos c.args.run.now c.args.steps.now
    c.in-Err.fault c.args.came c.fault_told.result c.in-Err.is c.fault_told.ensures

pub returns-in-Err-clause-carries : goal.returns-in-Err-clause-carries
returns-in-Err-clause-carries g c = carries_so c.in-Err.fault c.args.came c.fault_told.result
    c.args.steps.now.passed c.in-Err.is c.fault_told.ensures
