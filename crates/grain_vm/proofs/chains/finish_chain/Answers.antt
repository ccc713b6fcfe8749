-- The root is back, and the chain's value is pushed or its fault is raised.
use Rattle.std.proofs.Common.{arith}
use Rattle.grain_means.specs.Means.{setup}
use Rattle.grain_value.specs.declared.values.Held.{Held}
use Rattle.grain_vm.proofs.ChainEnds.{finishes, root_long, root_stacks}
use Rattle.grain_vm.proofs.chains.finish_chain.Goals as goal

pub end_chain-requires-clause-inside : goal.end_chain-requires-clause-inside
end_chain-requires-clause-inside g c =
    let back : Held = record {
      value = c.finish-left.result.value;
      read_only = c.args.walking.was_read_only;
    } in
    rw c.put_root_back.ensures (omega (
      arith,
      c.requires.inside,
      root_long c.args.run.now c.args.walking.home back,
    ))

pub end_chain-requires-clause-room : goal.end_chain-requires-clause-room
end_chain-requires-clause-room g c =
    let back : Held = record {
      value = c.finish-left.result.value;
      read_only = c.args.walking.was_read_only;
    } in
    rw (c.put_root_back.ensures, root_stacks c.args.run.now c.args.walking.home back) c.requires.room

pub returns : goal.returns
returns g c = record {
  finishes = λ host. finishes
      (setup g.H.Host.law c.args.context.program.now c.args.context.engine.now) c.args.frame.now
      c.end_chain.new.frame c.args.run.now c.put_root_back.new.run c.end_chain.new.run c.args.steps.now
      c.end_chain.new.steps host c.args.walking c.args.end c.end_chain.result c.requires.back
      (rw c.finish-left.ensures at c.put_root_back.ensures) (c.end_chain.ensures.implements host);
  carries = c.end_chain.ensures.carries;
}
