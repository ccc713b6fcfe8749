-- The frame blames the chain's first step meanwhile.
use Rattle.std.proofs.Common.{refl}
use Rattle.grain_vm.proofs.Begins.{begins_whole}
use Rattle.grain_vm.proofs.chains.begin_chain.Goals as goal

pub returns : goal.returns
returns g c = record {
  begins = λ host. begins_whole g.H.Host.law c.args.context.program.now c.args.context.engine.now
      c.args.frame.now c.args.run.now c.begin_blamed.new.run c.args.steps.now c.begin_blamed.new.steps host
      c.args.next c.args.index c.from-index.result c.step_slot.result c.begin_blamed.result
      c.from-index.ensures c.step_slot.ensures (c.begin_blamed.ensures.begins host);
  blames = refl;
  waits = c.begin_blamed.ensures.waits;
}
