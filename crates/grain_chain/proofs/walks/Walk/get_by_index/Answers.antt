use Rattle.std.proofs.Common.{List, codes, subst}
use Rattle.grain_value.specs.Tree.{Tree}
use Rattle.grain_chain.specs.Going.{Asked}
use Rattle.grain_chain.proofs.walks.Walk.get_by_index.Goals as goal

pub returns : goal.returns
returns c =
    subst (λ (l : List Tree). Asked c.args.self.now c.args.bracket (codes "index$get$") l c.args.awaits
    c.ask.result c.ask.new.self) c.in_ok-values.ensures c.ask.ensures
