use Rattle.std.proofs.Common.{Ok, Err, sym, ◌∙◌}
use Rattle.grain_chain.specs.Walking.{role_in}
use Rattle.grain_chain.specs.Walking.{operand_of}
use Rattle.grain_chain.proofs.Named.{same_target, indexed_at}
use Rattle.grain_chain.proofs.walks.Walk.at_index.Goals as goal

pub at_spot-requires : goal.at_spot-requires
at_spot-requires c =
    (c.target.result.now, (c.target.ensures, sym c.locate.ensures ∙ c.in-Ok.is))

pub not_there-requires : goal.not_there-requires
not_there-requires c =
    let same = same_target c.args.self.now.trail c.requires.0 c.target.result.now c.requires.1.0
    c.target.ensures in (
      c.target.result.now,
      (
        c.target.ensures,
        rw (← same) c.requires.1.1,
        sym c.locate.ensures ∙ c.in-Err.is,
      ),
    )

pub returns-in-Ok-clause-takes : goal.returns-in-Ok-clause-takes
returns-in-Ok-clause-takes c = λ v stands.
    indexed_at c.args.context c.args.self.now c.at_spot.new.self c.args.pos c.args.bracket
    (role_in c.args.role c.args.self.now.value) (operand_of c.args.self.now c.args.operand) c.args.index
    c.target.result.now v (Ok c.in-Ok.spot) c.at_spot.result c.target.ensures stands
    (sym c.locate.ensures ∙ c.in-Ok.is)
    (c.at_spot.ensures.takes c.args.context c.target.result.now
    (operand_of c.args.self.now c.args.operand) c.args.pos c.args.bracket c.target.ensures)

pub returns-in-Err-clause-takes : goal.returns-in-Err-clause-takes
returns-in-Err-clause-takes c = λ v stands.
    indexed_at c.args.context c.args.self.now c.not_there.new.self c.args.pos c.args.bracket
    (role_in c.args.role c.args.self.now.value) (operand_of c.args.self.now c.args.operand) c.args.index
    c.target.result.now v (Err c.in-Err.fault) c.not_there.result c.target.ensures stands
    (sym c.locate.ensures ∙ c.in-Err.is)
    (c.not_there.ensures.takes c.target.result.now c.target.ensures)
