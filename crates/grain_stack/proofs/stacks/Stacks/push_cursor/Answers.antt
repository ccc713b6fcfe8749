-- One cursor more.
use Rattle.grain_stack.proofs.Belonging.{depth_is, cursors_view, cursors_sound}
use Rattle.grain_stack.proofs.Depths.{pushed_at}
use Rattle.grain_stack.proofs.stacks.Stacks.push_cursor.Goals as goal

pub invariant_of-self-2 : goal.invariant_of-self-2
invariant_of-self-2 c =
    cursors_sound c.self.inside c.push.new.self _ c.self.invariant
    (pushed_at _ c.len-depth.result c.self.inside.cursors c.push.new.self c.args.cursor
    c.self.invariant.ordered.cursors
    (depth_is c.self.inside c.len-depth.result c.len-depth.ensures.value) c.in_ok-push.ensures)

pub returns : goal.returns
returns c =
    rw (← c.self.view_is)
    (cursors_view c.self.inside c.push.new.self _ c.self.invariant
    (pushed_at _ c.len-depth.result c.self.inside.cursors c.push.new.self c.args.cursor
    c.self.invariant.ordered.cursors
    (depth_is c.self.inside c.len-depth.result c.len-depth.ensures.value) c.in_ok-push.ensures))
