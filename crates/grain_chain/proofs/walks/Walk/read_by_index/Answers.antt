use Rattle.std.proofs.Common.{◌∷◌, [], false, Some, codes, refl, ap, subst, arith}
use Rattle.grain_value.specs.View.{tree}
use Rattle.grain_value.specs.declared.values.Dynamic.{Dynamic}
use Rattle.grain_means.specs.Walks
use Rattle.grain_chain.specs.Walking.{place_of, gone_into}
use Rattle.grain_chain.specs.Going.{Goes, rest}
use Rattle.grain_chain.specs.declared.origins.Awaited.TheVariants as awaited
use Rattle.grain_chain.specs.declared.origins.Onward.TheVariants as onward
use Rattle.grain_chain.specs.declared.origins.Origin.TheVariants as origin
use Rattle.grain_chain.specs.declared.origins.AnswerUse.{AnswerUse}
use Rattle.grain_chain.proofs.Asks.{asks_with, asks_less, one_of}
use Rattle.grain_chain.proofs.walks.Walk.read_by_index.Goals as goal

pub returns-clause-goes : goal.returns-clause-goes
returns-clause-goes c = λ x.
    let w = c.args.self.now in
    let made : AnswerUse = record {
      pos = c.args.bracket;
      own = false;
      origin = origin.Index c.args.index c.args.bracket;
      go = onward.Operate c.args.bracket c.args.op;
    } in
    let asked = asks_with x w c.get_by_index.new.self c.args.bracket (codes "index$get$")
    (codes "index$get$") (tree c.in_ok-argument.argument ∷ []) (c.args.index ∷ [])
    (awaited.IndexRead c.args.bracket c.in_ok-kept.kept made) c.get_by_index.result refl
    (one_of (tree c.in_ok-argument.argument ∷ []) c.args.index
    (ap (λ (d : Dynamic). tree d ∷ []) c.in_ok-argument.ensures)) c.get_by_index.ensures in
    subst (λ (d : Dynamic). Goes x w (Walks.asking w.step c.args.bracket Walks.index_get
    (Some (place_of w)) (c.args.index ∷ []) (rest x w) (Walks.index_was_read w.step c.args.bracket
    (place_of w) d w.value (rest x w) (gone_into x.engine.now x.program.now w made)))
    c.get_by_index.result c.get_by_index.new.self) c.in_ok-kept.ensures asked

pub returns-clause-needs : goal.returns-clause-needs
returns-clause-needs c = λ p at.
    asks_less p c.args.self.now c.get_by_index.new.self c.args.bracket (codes "index$get$")
    (tree c.in_ok-argument.argument ∷ []) (awaited.IndexRead c.args.bracket c.in_ok-kept.kept (record {
      pos = c.args.bracket;
      own = false;
      origin = origin.Index c.args.index c.args.bracket;
      go = onward.Operate c.args.bracket c.args.op;
    })) c.get_by_index.result _ c.get_by_index.ensures at (omega arith)
