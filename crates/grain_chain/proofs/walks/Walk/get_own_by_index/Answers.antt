use Rattle.std.proofs.Common.{◌∷◌, [], codes, refl, ap, arith}
use Rattle.grain_value.specs.View.{tree}
use Rattle.grain_value.specs.declared.values.Dynamic.{Dynamic}
use Rattle.grain_chain.specs.declared.origins.Awaited.TheVariants as awaited
use Rattle.grain_chain.specs.declared.origins.Onward.TheVariants as onward
use Rattle.grain_chain.specs.declared.origins.Origin.TheVariants as origin
use Rattle.grain_chain.specs.declared.origins.AnswerUse.{AnswerUse}
use Rattle.grain_chain.proofs.Asks.{asks_with, asks_less, one_of}
use Rattle.grain_chain.proofs.walks.Walk.get_own_by_index.Goals as goal

pub returns-clause-goes : goal.returns-clause-goes
returns-clause-goes c = λ x.
    let made : AnswerUse = record {
      pos = c.args.pos;
      own = c.args.own;
      origin = origin.Index c.args.index c.args.bracket;
      go = onward.Further;
    } in
    asks_with x c.args.self.now c.get_by_index.new.self c.args.bracket (codes "index$get$")
    (codes "index$get$") (tree c.in_ok-argument.argument ∷ []) (c.args.index ∷ []) (awaited.IndexGot made)
    c.get_by_index.result refl
    (one_of (tree c.in_ok-argument.argument ∷ []) c.args.index
    (ap (λ (d : Dynamic). tree d ∷ []) c.in_ok-argument.ensures)) c.get_by_index.ensures

pub returns-clause-needs : goal.returns-clause-needs
returns-clause-needs c = λ p at.
    asks_less p c.args.self.now c.get_by_index.new.self c.args.bracket (codes "index$get$")
    (tree c.in_ok-argument.argument ∷ []) (awaited.IndexGot (record {
      pos = c.args.pos;
      own = c.args.own;
      origin = origin.Index c.args.index c.args.bracket;
      go = onward.Further;
    })) c.get_by_index.result _ c.get_by_index.ensures at
    (omega arith)
