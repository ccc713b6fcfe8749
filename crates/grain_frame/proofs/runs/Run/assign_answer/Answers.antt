-- The value is written into the target, or the value is a lent cell.
use Rattle.std.proofs.Common.{◌≡◌, None, Some, true, refl, rules}
use Rattle.grain_value.specs.Cells.{flat}
use Rattle.grain_value.specs.Operands.{below, read_write}
use Rattle.grain_fault.specs.Problems.{DataRace, Plain}
use Rattle.grain_program.specs.View.{position_of}
use Rattle.grain_means.specs.Means.{setup}
use Rattle.grain_means.specs.Rules.{onward, race_text, stepped}
use Rattle.grain_means.specs.Simulation.{stopped, world}
use Rattle.grain_frame.specs.Abstraction.{abstraction, frame_in, is_out}
use Rattle.grain_frame.specs.Targets.{CanBeLent, assigned_name, home_of, put_in}
use Rattle.grain_frame.specs.Waiting.{IsLentCell}
use Rattle.grain_frame.specs.lemmas.Bound.{as_bound}
use Rattle.grain_frame.specs.lemmas.Failing.{raises_here, taken_stops, wants_memory}
use Rattle.grain_frame.proofs.Holding.{lent_races}
use Rattle.grain_frame.proofs.Lending.{writes}
use Rattle.grain_frame.proofs.Targeting.{lends_beside}
use Rattle.grain_frame.proofs.runs.Run.assign_answer.Goals as goal

pub returns : goal.returns
returns g c =
    let p = c.args.context.program.now in
    let engine = c.args.context.engine.now in
    let s = c.args.self.now in
    let f = c.args.frame.now in
    let t = c.args.assignment.now.target in
    let read : flat s.cells c.args.value ≡ Some c.in-Some.value = search rules in
    let free : CanBeLent s t = search rules in
    let written : c.write.new.self ≡ put_in (record s { stacks = c.pop-operand.new.self }) t
    (read_write c.in-Some.value) = search rules in
    rw (c.mark-2.ensures, c.mark.ensures) (record {
      implements = λ host.
          writes g.H.Host.law p engine f s c.args.steps.now host t c.args.assignment.now.next
          free c.requires.can.inside c.requires.can.operand c.requires.can.ahead
          (read_write c.in-Some.value)
          (λ n. assigned_name n.program c.args.assignment.now.variable)
          c.pop-operand.new.self c.write.new.self refl c.pop-operand.ensures.rest written
          (λ stop u place bound. rw read refl);
    })

pub returns-in_err-value : goal.returns-in_err-value
returns-in_err-value g c =
    let p = c.args.context.program.now in
    let engine = c.args.context.engine.now in
    let s = c.args.self.now in
    let f = c.args.frame.now in
    let out : is_out c.from_residual.result ≡ true = search rules in
    record {
      implements = λ host. as_bound (wants_memory g.H.Host.law p engine f s c.args.steps.now host
          c.from_residual.result out c.requires.can.inside
          (λ stop u place halts. taken_stops (stopped (setup g.H.Host.law p engine) stop)
          (home_of c.args.assignment.now.target place) (flat s.cells c.args.value)
          (assigned_name p c.args.assignment.now.variable) c.args.assignment.now.next
          (frame_in f s place) (world (abstraction s c.args.steps.now host) u) halts));
    }

pub returns-in_default : goal.returns-in_default
returns-in_default g c =
    let p = c.args.context.program.now in
    let engine = c.args.context.engine.now in
    let s = c.args.self.now in
    let f = c.args.frame.now in
    let none : flat s.cells c.args.value ≡ None = search rules in
    let x = Plain (DataRace (race_text (assigned_name p c.args.assignment.now.variable)))
    (position_of p f.address) in
    record {
      implements = λ host. as_bound (raises_here g.H.Host.law p engine f s
          c.data_race_in.new.self c.args.steps.now c.data_race_in.new.steps host x
          c.data_race_in.result c.data_race_in.ensures c.requires.can.inside
          (λ stop u place. rw none refl));
    }

pub write-requires : goal.write-requires
write-requires g c =
    let free : CanBeLent c.args.self.now c.args.assignment.now.target = search rules in
    lends_beside c.args.self.now c.pop-operand.new.self c.args.assignment.now.target free

pub returns-then-not-is_free : goal.returns-then-not-is_free
returns-then-not-is_free g c =
    let p = c.args.context.program.now in
    let engine = c.args.context.engine.now in
    let s = c.args.self.now in
    let f = c.args.frame.now in
    let t = c.args.assignment.now.target in
    let read : flat s.cells c.args.value ≡ Some c.in-Some.value = search rules in
    let lent : IsLentCell s t = search rules in
    let name = assigned_name p c.args.assignment.now.variable in
    let x = Plain (DataRace (race_text name)) (position_of p f.address) in
    record {
      implements = λ host. as_bound (raises_here g.H.Host.law p engine f s
          c.data_race_in-then-not-is_free.new.self c.args.steps.now
          c.data_race_in-then-not-is_free.new.steps host x c.data_race_in-then-not-is_free.result
          c.data_race_in-then-not-is_free.ensures c.requires.can.inside
          (λ stop u place.
          let m = stopped (setup g.H.Host.law p engine) stop in
          let w = world (abstraction s c.args.steps.now host) u in
          rw read (lent_races m s t place (read_write c.in-Some.value) name (frame_in f s place) w
          (onward m (frame_in f s place) (stepped (frame_in f s place)
          c.args.assignment.now.next (below s.stacks.operands))) lent refl)));
    }
