-- The fault is passed over, and the name is appended.
use Rattle.grain_frame.proofs.Appending.{type_then}
use Rattle.grain_frame.proofs.runs.Run.append_type.Goals as goal

pub returns : goal.returns
returns g c =
    let p = c.args.context.program.now in
    let engine = c.args.context.engine.now in
    let s = c.args.self.now in
    record {
      implements = λ host. type_then g.H.Host.law p engine c.args.frame.now s c.args.steps.now host
          c.args.type_name.now c.args.next c.cut_trace.new.self c.mark.new.self c.append.new.frame
          c.append.new.self c.append.new.steps c.cut_trace.ensures c.mark.ensures
          c.requires.begins.inside (c.append.ensures.implements host);
    }
