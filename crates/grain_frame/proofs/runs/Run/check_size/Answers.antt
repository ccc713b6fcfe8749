-- Nothing is counted, or the total grows, or a fault is raised.
use Rattle.std.proofs.Common.{◌≡◌, ◌∙◌, ◌∷◌, [], Some, None, Ok, true, false, refl, arith, rules}
use Rattle.grain_value.specs.Cells.{flat}
use Rattle.grain_value.specs.Operands.{top}
use Rattle.grain_value.specs.Sizes.{counted, limits_sizes, plain_sizes, plus}
use Rattle.grain_fault.specs.Problems.{Plain, DataRace, DataTooLarge, Malformed}
use Rattle.grain_fault.specs.declared.faults.MalformedKind.TheVariants as kind
use Rattle.grain_program.specs.View.{position_of}
use Rattle.grain_stack.specs.Entries.{first_of}
use Rattle.grain_stack.specs.Totals.{grown}
use Rattle.grain_means.specs.Means.{setup}
use Rattle.grain_means.specs.Rules.{race_text}
use Rattle.grain_means.specs.Simulation.{stopped, world}
use Rattle.grain_frame.specs.Abstraction.{abstraction, is_out}
use Rattle.grain_frame.specs.Literals.{around, opened}
use Rattle.grain_frame.specs.lemmas.Failing.{raises_here, wants_memory}
use Rattle.grain_frame.proofs.Flattening.{value_there}
use Rattle.grain_frame.proofs.Totalled.{checks_lent, checks_missing, checks_none, checks_one, checks_over, implements_totalled, measured_is, too_much_is}
use Rattle.grain_frame.proofs.runs.Run.check_size.Goals as goal

-- no size is limited
pub returns-then-not-limit_sizes : goal.returns-then-not-limit_sizes
returns-then-not-limit_sizes g c =
    let p = c.args.context.program.now in
    let engine = c.args.context.engine.now in
    let s = c.args.self.now in
    let f = c.args.frame.now in
    let own = opened c.args.index s.stacks.totals in
    let unlimited : limits_sizes engine.limits ≡ false = search rules in
    let begun : c.open_literal.new.self ≡ record s { stacks = record s.stacks { totals = own } } =
    search rules in
    record {
      implements = λ host. implements_totalled g.H.Host.law p engine f c.go_on.new.frame s
          c.go_on.new.self c.args.steps.now c.go_on.new.steps
          (record s.stacks { totals = own }) s.stacks.operands own host host refl
          (rw begun at (c.go_on.ensures.implements p engine host))
          (λ stop u place. checks_none (stopped (setup g.H.Host.law p engine) stop) f s place
          (world (abstraction s c.args.steps.now host) u) c.args.one c.args.index c.args.next
          unlimited) (λ b i. i) (omega arith) (omega arith);
    }

-- there is no total
pub returns-in_default : goal.returns-in_default
returns-in_default g c =
    let p = c.args.context.program.now in
    let engine = c.args.context.engine.now in
    let s = c.args.self.now in
    let f = c.args.frame.now in
    let limited : limits_sizes engine.limits ≡ true = search rules in
    let none : first_of (opened c.args.index s.stacks.totals) ≡ None = search rules in
    record {
      implements = λ host. raises_here g.H.Host.law p engine f s c.malformed.new.self
          c.args.steps.now c.malformed.new.steps host
          (Plain (Malformed (kind.MissingTotal c.args.index)) (position_of p f.address))
          (Ok c.malformed.result) c.malformed.ensures c.requires.ready.inside
          (λ stop u place. checks_missing (stopped (setup g.H.Host.law p engine) stop) f s place
          (world (abstraction s c.args.steps.now host) u) c.args.one c.args.index c.args.next
          limited none);
    }

-- the element is a cell that is lent
pub returns-then-is_none : goal.returns-then-is_none
returns-then-is_none g c =
    let p = c.args.context.program.now in
    let engine = c.args.context.engine.now in
    let s = c.args.self.now in
    let f = c.args.frame.now in
    let limited : limits_sizes engine.limits ≡ true = search rules in
    let there : first_of (opened c.args.index s.stacks.totals) ≡ Some c.in-Some.total =
    search rules in
    let none : flat s.cells (top s.stacks.operands).value ≡ None = search rules in
    record {
      implements = λ host. raises_here g.H.Host.law p engine f s c.data_race.new.self
          c.args.steps.now c.data_race.new.steps host
          (Plain (DataRace (race_text [])) (position_of p f.address)) c.data_race.result
          c.data_race.ensures c.requires.ready.inside
          (λ stop u place. checks_lent (stopped (setup g.H.Host.law p engine) stop) f s place
          (world (abstraction s c.args.steps.now host) u) c.args.one c.args.index c.args.next
          limited c.in-Some.total there none);
    }

-- the literal becomes too large
pub returns-in-Some-too_large : goal.returns-in-Some-too_large
returns-in-Some-too_large g c =
    let p = c.args.context.program.now in
    let engine = c.args.context.engine.now in
    let s = c.args.self.now in
    let f = c.args.frame.now in
    let one = c.args.one in
    let ops = s.stacks.operands in
    let limited : limits_sizes engine.limits ≡ true = search rules in
    let t = c.in-Some.total in
    let there : first_of (opened c.args.index s.stacks.totals) ≡ Some t = search rules in
    let v = value_there (flat s.cells (top ops).value) (search rules) in
    let held : c.calc_data_sizes.result ≡ counted (plain_sizes v.0) =
    measured_is s.cells (top ops) c.top.result.now v.0 c.calc_data_sizes.result c.top.ensures v.1
    c.calc_data_sizes.ensures in
    let more : c.grown-total.result ≡ grown (plus one (plain_sizes v.0)) t =
    c.grown-total.ensures (plain_sizes v.0) held in
    let w = c.in-Some-too_large.what.now in
    let over = too_much_is engine.limits (Some w) c.sizes.result c.grown-total.result
    (grown (plus one (plain_sizes v.0)) t) c.sizes.ensures more (search rules) in
    record {
      implements = λ host. raises_here g.H.Host.law p engine f s c.data_too_large.new.self
          c.args.steps.now c.data_too_large.new.steps host
          (Plain (DataTooLarge w) (position_of p f.address)) c.data_too_large.result
          c.data_too_large.ensures c.requires.ready.inside
          (λ stop u place. checks_over (stopped (setup g.H.Host.law p engine) stop) f s place
          (world (abstraction s c.args.steps.now host) u) one c.args.index c.args.next limited t
          there v.0 v.1 w over);
    }

-- the literal has so much more
pub returns : goal.returns
returns g c =
    let p = c.args.context.program.now in
    let engine = c.args.context.engine.now in
    let s = c.args.self.now in
    let f = c.args.frame.now in
    let one = c.args.one in
    let ops = s.stacks.operands in
    let limited : limits_sizes engine.limits ≡ true = search rules in
    let t = c.in-Some.total in
    let there : first_of (opened c.args.index s.stacks.totals) ≡ Some t = search rules in
    let v = value_there (flat s.cells (top ops).value) (search rules) in
    let held : c.calc_data_sizes.result ≡ counted (plain_sizes v.0) =
    measured_is s.cells (top ops) c.top.result.now v.0 c.calc_data_sizes.result c.top.ensures v.1
    c.calc_data_sizes.ensures in
    let more : c.grown-total.result ≡ grown (plus one (plain_sizes v.0)) t =
    c.grown-total.ensures (plain_sizes v.0) held in
    let within = too_much_is engine.limits None c.sizes.result c.grown-total.result
    (grown (plus one (plain_sizes v.0)) t) c.sizes.ensures more (search rules) in
    let own = grown (plus one (plain_sizes v.0)) t ∷ around (opened c.args.index s.stacks.totals) in
    let keeps : c.keep_total.new.self ≡ record s {
      stacks = record s.stacks {
        totals = c.grown-total.result ∷ around (opened c.args.index s.stacks.totals);
      };
    } = search rules in
    let kept : c.keep_total.new.self ≡ record s { stacks = record s.stacks { totals = own } } =
    rw more at keeps in
    record {
      implements = λ host. implements_totalled g.H.Host.law p engine f c.go_on-2.new.frame s
          c.go_on-2.new.self c.args.steps.now c.go_on-2.new.steps
          (record s.stacks { totals = own }) ops own host host refl
          (rw kept at (c.go_on-2.ensures.implements p engine host))
          (λ stop u place. checks_one (stopped (setup g.H.Host.law p engine) stop) f s place
          (world (abstraction s c.args.steps.now host) u) one c.args.index c.args.next limited t
          there v.0 v.1 within) (λ b i. i) (omega arith) (omega arith);
    }

-- memory is out
pub returns-in_err-open_literal : goal.returns-in_err-open_literal
returns-in_err-open_literal g c =
    let p = c.args.context.program.now in
    let engine = c.args.context.engine.now in
    let s = c.args.self.now in
    let f = c.args.frame.now in
    let unlimited : limits_sizes engine.limits ≡ false = search rules in
    let out : is_out c.from_residual.result ≡ true = search rules in
    let same : c.open_literal.new.self ≡ s = search rules in
    record {
      implements = λ host. rw same (wants_memory g.H.Host.law p engine f s c.args.steps.now host
          c.from_residual.result out c.requires.ready.inside (λ stop u place halts.
          checks_none (stopped (setup g.H.Host.law p engine) stop) f s place
          (world (abstraction s c.args.steps.now host) u) c.args.one c.args.index c.args.next
          unlimited ∙ rw halts refl));
    }

pub returns-in_err-keep_total : goal.returns-in_err-keep_total
returns-in_err-keep_total g c =
    let p = c.args.context.program.now in
    let engine = c.args.context.engine.now in
    let s = c.args.self.now in
    let f = c.args.frame.now in
    let one = c.args.one in
    let ops = s.stacks.operands in
    let limited : limits_sizes engine.limits ≡ true = search rules in
    let t = c.in-Some.total in
    let there : first_of (opened c.args.index s.stacks.totals) ≡ Some t = search rules in
    let v = value_there (flat s.cells (top ops).value) (search rules) in
    let held : c.calc_data_sizes.result ≡ counted (plain_sizes v.0) =
    measured_is s.cells (top ops) c.top.result.now v.0 c.calc_data_sizes.result c.top.ensures v.1
    c.calc_data_sizes.ensures in
    let more : c.grown-total.result ≡ grown (plus one (plain_sizes v.0)) t =
    c.grown-total.ensures (plain_sizes v.0) held in
    let within = too_much_is engine.limits None c.sizes.result c.grown-total.result
    (grown (plus one (plain_sizes v.0)) t) c.sizes.ensures more (search rules) in
    let out : is_out c.from_residual-in_err-keep_total.result ≡ true = search rules in
    let same : c.keep_total.new.self ≡ s = search rules in
    record {
      implements = λ host. rw same (wants_memory g.H.Host.law p engine f s c.args.steps.now host
          c.from_residual-in_err-keep_total.result out c.requires.ready.inside
          (λ stop u place halts. checks_one (stopped (setup g.H.Host.law p engine) stop) f s place
          (world (abstraction s c.args.steps.now host) u) one c.args.index c.args.next limited t
          there v.0 v.1 within ∙ rw halts refl));
    }
