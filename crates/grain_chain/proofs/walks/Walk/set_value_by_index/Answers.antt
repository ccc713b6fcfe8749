use Rattle.std.proofs.Common.{refl, subst}
use Rattle.grain_value.specs.declared.values.Dynamic.{Dynamic}
use Rattle.grain_value.specs.declared.values.Dynamic.TheVariants as dynamic
use Rattle.grain_means.specs.Walks
use Rattle.grain_chain.specs.Walking.{place_of}
use Rattle.grain_chain.specs.Going.{Goes, rest}
use Rattle.grain_chain.specs.declared.walks.Walk.{Walk}
use Rattle.grain_chain.proofs.Strides.{from_same}
use Rattle.grain_chain.proofs.walks.Walk.set_value_by_index.Goals as goal

pub returns-clause-goes : goal.returns-clause-goes
returns-clause-goes c = λ x.
    let w = c.args.self.now in
    let w1 : Walk = record w { value = c.replace-value.new.dest; gives = dynamic.Unit } in
    subst (λ (d : Dynamic). Goes x w (Walks.set_by_index w.step c.args.bracket (place_of w) c.args.index d
    dynamic.Unit (rest x w)) c.set_by_index.result c.set_by_index.new.self) c.replace-value.ensures.value
    (from_same x w w1 c.set_by_index.new.self _ c.set_by_index.result (λ k. refl)
    (c.set_by_index.ensures.goes x))
