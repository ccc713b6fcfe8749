use Rattle.std.proofs.Common.{subst}
use Rattle.grain_value.specs.declared.values.Dynamic.TheVariants as dynamic
use Rattle.grain_ops.specs.Operators.{assignment}
use Rattle.grain_chain.specs.Standings.{Standing, Stands, AssignedThere}
use Rattle.grain_chain.proofs.Paths.{leads_put, leading_twice, put_back, assigned_there}
use Rattle.grain_chain.proofs.trails.Trail.assign.Goals as goal

pub put_at-requires : goal.put_at-requires
put_at-requires c =
    leads_put c.self.inside.path c.self.inside.here.value dynamic.Unit c.take_at-target.new.self
    c.take_at-target.ensures.left c.self.invariant.leads

pub invariant_of-self : goal.invariant_of-self
invariant_of-self c =
    leading_twice c.self.inside.outer.items c.self.inside.here c.self.inside.path dynamic.Unit
    c.assign-answer.new.target c.take_at-target.new.self c.put_at.new.self
    c.take_at-target.ensures.left c.put_at.ensures.left c.self.invariant

pub returns : goal.returns
returns c =
    let s : Standing = record {
      outer = c.self.inside.outer.items;
      here = c.self.inside.here;
      path = c.self.inside.path;
    } in
    let t : Standing = record s { here = record s.here { value = c.put_at.new.self } } in
    let back = put_back s dynamic.Unit c.assign-answer.new.target c.take_at-target.new.self
    c.put_at.new.self c.self.invariant c.take_at-target.ensures.left c.put_at.ensures.left in
    let o = assignment c.args.limits.now c.args.token c.take_at-target.result c.args.value.now in (
      c.take_at-target.result,
      subst (λ (u : Standing). Stands u c.take_at-target.result × AssignedThere u c.assign-answer.result o t)
          c.self.view_is (
            c.take_at-target.ensures.taken,
            assigned_there s t c.take_at-target.result c.assign-answer.new.target c.assign-answer.result o
                c.take_at-target.ensures.taken back c.assign-answer.ensures,
          ),
    )
