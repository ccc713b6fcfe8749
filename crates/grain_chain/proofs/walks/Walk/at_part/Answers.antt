use Rattle.std.proofs.Common.{◌≡◌, Bool, ap, ◌∙◌}
use Rattle.grain_value.specs.declared.values.Dynamic.{Dynamic}
use Rattle.grain_chain.specs.Going.{with_value}
use Rattle.grain_chain.proofs.Roots.{roots_in}
use Rattle.grain_chain.proofs.Named.{same_target}
use Rattle.grain_value.specs.Parts.{part}
use Rattle.grain_chain.specs.Going.{in_root}
use Rattle.grain_chain.proofs.walks.Walk.at_part.Goals as goal

pub returns-clause-takes : goal.returns-clause-takes
returns-clause-takes c = λ x v stands.
    let w = c.args.self.now in
    let same = same_target w.trail c.target.result.now v c.target.ensures stands in
    let there : c.part-value.result ≡ part v c.args.spot =
    c.part-value.ensures ∙ ap (λ (d : Dynamic). part d c.args.spot) same in
    rw (← c.origin_of_part-origin.ensures w.value)
    (roots_in x w c.enter_root.new.self c.origin_of_part-origin.result
    (record (with_value w v) { value = part v c.args.spot })
    (c.in_ok-enter_root.ensures.entered
    ∙ ap (λ (b : Bool). in_root w c.origin_of_part-origin.result
    (record { value = c.part-value.result; read_only = b })) c.is_read_only-read_only.ensures
    ∙ ap (λ (d : Dynamic). in_root w c.origin_of_part-origin.result
    (record { value = d; read_only = w.trail.here.read_only })) there))
