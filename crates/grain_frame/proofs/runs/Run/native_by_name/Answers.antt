-- The native is called on the operands, as they are read.
use Rattle.std.proofs.Common.{◌≡◌, [], None, refl, rules, true}
use Rattle.std.specs.Prelude.{is_some}
use Rattle.grain_value.specs.Operands.{arguments}
use Rattle.grain_means.specs.Rules.{flat_all, race_text}
use Rattle.grain_fault.specs.Problems.{Plain, DataRace}
use Rattle.grain_program.specs.View.{position_of}
use Rattle.grain_frame.specs.lemmas.Failing.{raises_here}
use Rattle.grain_frame.specs.lemmas.Performing.{led_exactly, waits_as}
use Rattle.grain_means.specs.Means.{setup}
use Rattle.grain_means.specs.Simulation.{stopped, world}
use Rattle.grain_frame.specs.Abstraction.{abstraction, frame_in}
use Rattle.grain_frame.proofs.Flattening.{all_there}
use Rattle.grain_frame.proofs.Handing.{native_is}
use Rattle.grain_frame.proofs.runs.Run.native_by_name.Goals as goal

pub returns : goal.returns
returns g c =
    let s = c.args.self.now in
    let f = c.args.frame.now in
    let readable : is_some (flat_all s.cells (arguments c.args.count s.stacks.operands)) ≡ true =
    search rules in
    let read = all_there (flat_all s.cells (arguments c.args.count s.stacks.operands)) readable in
    record {
      implements = waits_as (c.native_on.ensures.implements read.0 read.1)
          (λ stop u place bound.
          native_is (stopped (setup g.H.Host.law c.args.context.program.now
          c.args.context.engine.now) stop) c.args.name.now c.args.count c.args.next
          (frame_in f s place) (world (abstraction s c.args.steps.now c.args.host.now) u) read.0
          read.1);
    }

pub returns-then-not-are_readable : goal.returns-then-not-are_readable
returns-then-not-are_readable g c =
    let p = c.args.context.program.now in
    let s = c.args.self.now in
    let f = c.args.frame.now in
    let none : flat_all s.cells (arguments c.args.count s.stacks.operands) ≡ None =
    search rules in
    record {
      implements = led_exactly c.data_race.result c.of.result c.of.ensures
          (raises_here g.H.Host.law p c.args.context.engine.now f s
          c.data_race.new.self c.args.steps.now c.data_race.new.steps c.args.host.now
          (Plain (DataRace (race_text [])) (position_of p f.address)) c.data_race.result
          c.data_race.ensures c.requires.inside (λ stop u place. rw none refl));
    }
