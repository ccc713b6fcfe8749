-- The node of a number that is not 0.
use Rattle.std.proofs.Common.{ap, length, arith}
use Rattle.grain_program.proofs.ListNumbers.{table_long, number_node}
use Rattle.grain_program.proofs.verifier.handlers.HandlerLists.innermost.Goals as goal

pub index-requires : goal.index-requires
index-requires c =
    omega (
      arith,
      c.requires,
      c.if-list-eq0.false,
      table_long c.self.inside.nodes.items,
      ap length
          c.self.view_is,
    )

pub returns-else-list-eq0 : goal.returns-else-list-eq0
returns-else-list-eq0 c =
    number_node c.self.inside.nodes.items c.self.inside.numbers c.self.invariant c.args.self.now
    c.self.view_is c.args.list c.index.result.now c.if-list-eq0.false c.requires c.index.ensures
