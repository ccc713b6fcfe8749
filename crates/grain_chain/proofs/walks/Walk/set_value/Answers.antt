use Rattle.std.proofs.Common.{true, refl, subst}
use Rattle.grain_value.specs.declared.values.Dynamic.{Dynamic}
use Rattle.grain_value.specs.declared.values.Dynamic.TheVariants as dynamic
use Rattle.grain_means.specs.Walks
use Rattle.grain_chain.specs.Walking.{place_of}
use Rattle.grain_chain.specs.Going.{Goes, rest, setting}
use Rattle.grain_chain.specs.declared.walks.Walk.{Walk}
use Rattle.grain_chain.proofs.Strides.{from_same}
use Rattle.grain_chain.proofs.walks.Walk.set_value.Goals as goal

pub returns-clause-goes : goal.returns-clause-goes
returns-clause-goes c =
    let w = c.args.self.now in
    let x = c.args.context in
    let w1 : Walk = record w { value = c.replace-value.new.dest; gives = dynamic.Unit } in
    subst (λ (d : Dynamic). Goes x w (Walks.set_property (setting x w) w.step c.args.name c.args.setter
    c.args.pos true (place_of w) d dynamic.Unit (rest x w)) c.set_property.result
    c.set_property.new.self) c.replace-value.ensures.value
    (from_same x w w1 c.set_property.new.self _ c.set_property.result (λ k. refl)
    c.set_property.ensures.goes)
