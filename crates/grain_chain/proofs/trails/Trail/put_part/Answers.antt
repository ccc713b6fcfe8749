use Rattle.std.proofs.Common.{subst}
use Rattle.grain_value.specs.Parts.{with_part}
use Rattle.grain_value.specs.declared.values.Dynamic.TheVariants as dynamic
use Rattle.grain_chain.specs.Standings.{Standing, Stands, PartPut}
use Rattle.grain_chain.proofs.Paths.{leads_put, leading_twice, put_back, part_put}
use Rattle.grain_chain.proofs.trails.Trail.put_part.Goals as goal

pub put_at-requires : goal.put_at-requires
put_at-requires c =
    leads_put c.self.inside.path c.self.inside.here.value dynamic.Unit c.take_at-target.new.self
    c.take_at-target.ensures.left c.self.invariant.leads

pub invariant_of-self : goal.invariant_of-self
invariant_of-self c =
    leading_twice c.self.inside.outer.items c.self.inside.here c.self.inside.path dynamic.Unit
    c.put_part-is_put.new.self c.take_at-target.new.self c.put_at.new.self
    c.take_at-target.ensures.left c.put_at.ensures.left c.self.invariant

pub returns : goal.returns
returns c =
    let s : Standing = record {
      outer = c.self.inside.outer.items;
      here = c.self.inside.here;
      path = c.self.inside.path;
    } in
    let t : Standing = record s { here = record s.here { value = c.put_at.new.self } } in
    let back = put_back s dynamic.Unit c.put_part-is_put.new.self c.take_at-target.new.self
    c.put_at.new.self c.self.invariant c.take_at-target.ensures.left c.put_at.ensures.left in
    let o = with_part c.take_at-target.result c.args.spot c.args.part.now in (
      c.take_at-target.result,
      subst (λ (u : Standing). Stands u c.take_at-target.result × PartPut u o c.put_part-is_put.result t)
          c.self.view_is (
            c.take_at-target.ensures.taken,
            part_put s t c.take_at-target.result c.put_part-is_put.new.self o c.put_part-is_put.result
                c.take_at-target.ensures.taken back c.put_part-is_put.ensures.done
                c.put_part-is_put.ensures.left
                c.put_part-is_put.ensures.unchanged,
          ),
    )
