use Rattle.std.proofs.Common.{refl}
use Rattle.grain_chain.specs.declared.walks.Walk.{Walk}
use Rattle.grain_chain.proofs.Strides.{from_same}
use Rattle.grain_chain.proofs.walks.Walk.give_own.Goals as goal

pub returns-clause-goes : goal.returns-clause-goes
returns-clause-goes c =
    let w = c.args.self.now in
    let x = c.args.context in
    let w1 : Walk = record w { gives = c.args.value } in
    from_same x w w1 c.walk_back.new.self _ c.walk_back.result (λ k. refl) c.walk_back.ensures.goes
