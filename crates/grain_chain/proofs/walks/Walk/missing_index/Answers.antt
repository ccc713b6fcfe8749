use Rattle.std.proofs.Common.{subst}
use Rattle.grain_value.specs.declared.values.Dynamic.{Dynamic}
use Rattle.grain_means.specs.Walks
use Rattle.grain_chain.specs.Walking.{place_of, role_in}
use Rattle.grain_chain.specs.Going.{Takes, rest, setting, next_step, with_value}
use Rattle.grain_chain.proofs.walks.Walk.missing_index.Goals as goal

pub returns-clause-takes : goal.returns-clause-takes
returns-clause-takes c = λ v stands.
    let w = c.args.self.now in
    let x = c.args.context in
    subst (λ (i : Dynamic). Takes x w (Walks.missing_key (setting x w) w.step c.args.pos
    (Walks.OfIndex i c.args.bracket) (role_in c.args.role w.value) c.args.key (with_value w v)
    (next_step x w) (place_of w) (rest x w)) c.missing_key.result c.missing_key.new.self)
    c.in_ok-index.ensures (c.missing_key.ensures.takes v stands)
