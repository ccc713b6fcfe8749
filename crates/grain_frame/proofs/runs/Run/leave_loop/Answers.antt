use Rattle.std.proofs.Common.{rules, ◌≡◌, ◌≤◌, ◌<◌, true, false}
use Rattle.grain_frame.specs.Abstraction.{is_out}
use Rattle.grain_frame.proofs.Leaving.{left_ahead, left_behind, left_failed, left_not}
use Rattle.grain_frame.proofs.runs.Run.leave_loop.Goals as goal

pub returns-then-target-frame : goal.returns-then-target-frame
returns-then-target-frame g c =
    let f = c.args.frame.now in
    let s = c.args.self.now in
    let ahead : f.address < c.args.target = search rules in
    record {
      implements = rw c.mark.ensures (left_ahead g.H.Host.law c.args.context.program.now
          c.args.context.engine.now f s c.args.steps.now c.args.host.now c.args.target
          c.pop_cursor-cursor.new.self c.pop_cursor-cursor.result c.pop_cursor-cursor.ensures
          c.requires.inside ahead);
    }

pub returns-in_err-charge : goal.returns-in_err-charge
returns-in_err-charge g c =
    let f = c.args.frame.now in
    let s = c.args.self.now in
    let behind : c.args.target ≤ f.address = search rules in
    let out : is_out c.from_residual.result ≡ true = search rules in
    record {
      implements = left_not g.H.Host.law c.args.context.program.now c.args.context.engine.now f s
          c.args.steps.now c.args.host.now c.args.target behind c.charge.new.self
          c.charge.new.steps c.charge.new.host c.charge.ensures.before c.requires.inside
          c.in_err-charge.field-0.0 c.from_residual.result out c.in_err-charge.ensures.same
          c.in_err-charge.ensures.run;
    }

pub returns-then-not-branch : goal.returns-then-not-branch
returns-then-not-branch g c =
    let f = c.args.frame.now in
    let s = c.args.self.now in
    let behind : c.args.target ≤ f.address = search rules in
    let no : c.in_ok-charge.field-0 ≡ false = search rules in
    record {
      implements = left_failed g.H.Host.law c.args.context.program.now c.args.context.engine.now f
          s c.args.steps.now c.args.host.now c.args.target behind c.charge.new.self
          c.charge.new.steps c.charge.new.host c.charge.ensures.before c.requires.inside
          c.in_ok-charge.field-0 no c.in_ok-charge.ensures.same c.in_ok-charge.ensures.run;
    }

pub returns : goal.returns
returns g c =
    let f = c.args.frame.now in
    let s = c.args.self.now in
    let behind : c.args.target ≤ f.address = search rules in
    let taken : c.in_ok-charge.field-0 ≡ true = search rules in
    rw c.mark-2.ensures
    record {
      implements = left_behind g.H.Host.law c.args.context.program.now c.args.context.engine.now f
          s c.args.steps.now c.args.host.now c.args.target behind c.charge.new.self
          c.charge.new.steps c.charge.new.host c.charge.ensures.before c.requires.inside
          c.pop_cursor-cursor-2.new.self c.pop_cursor-cursor-2.result c.in_ok-charge.field-0 taken
          c.pop_cursor-cursor-2.ensures c.in_ok-charge.ensures.same c.in_ok-charge.ensures.run;
    }
