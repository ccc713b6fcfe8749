-- The table has a place wherever the instruction leads.
use Rattle.std.proofs.Common.{◌≡◌, ◌+◌, ◌<◌, Some, sym, subst, ap, ◌∙◌, length}
use Rattle.std.specs.List.{AllByRecursion}
use Rattle.grain_program.specs.declared.code.effects.Effect.{Effect}
use Rattle.grain_program.specs.View.{view_of}
use Rattle.grain_program.specs.Decoding.{op_at}
use Rattle.grain_program.specs.Effects.{leads}
use Rattle.grain_program.specs.Reached.{AreReached}
use Rattle.grain_program.specs.Numbered.{shape_of, Search, state_of}
use Rattle.grain_program.proofs.Searched.{places, numbered, numbered_still, still_so, taken_on}
use Rattle.grain_program.proofs.verifier.analysis.HeightAnalysis.take.Goals as goal

pub arrive_by-requires-clause-within : goal.arrive_by-requires-clause-within
arrive_by-requires-clause-within c =
    let next = c.args.address + c.in-Some.width in
    let read : op_at c.args.parts.now.code c.args.address ≡ Some (c.in-Some.op, c.in-Some.width) =
    sym c.decode.ensures.exact ∙ c.in-Some.is in
    let here =
    subst (λ (x : Effect). AllByRecursion (λ b. b < length c.args.parts.now.code)
    (leads (view_of c.args.parts.now) x.flow next))
    (sym c.of-effect.ensures) (c.requires.ready.targets (c.in-Some.op, c.in-Some.width) read) in
    let long : length c.args.parts.now.code ≡ length c.self.inside.shapes =
    sym c.requires.ready.room ∙ places c.args.self.now
    ∙ ap (λ (f : Search). length f.shapes) (sym c.self.view_is) in
    subst (λ n. AllByRecursion (λ b. b < n)
    (leads (view_of c.args.parts.now) c.of-effect.result.flow next)) long here

pub arrive_by-requires-clause-reached : goal.arrive_by-requires-clause-reached
arrive_by-requires-clause-reached c =
    still_so (AreReached (view_of c.args.parts.now) c.args.reached.now) c.args.self.now
    c.self.inside.shapes c.self.inside.waiting c.self.inside.handlers c.shape_after.new.self
    c.self.view_is c.shape_after.ensures.grown c.self.invariant c.requires.reached

pub unreachable-requires : goal.unreachable-requires
unreachable-requires c = c.requires.ready.read (sym c.decode.ensures.exact ∙ c.in_default.is)

pub shape_after-requires : goal.shape_after-requires
shape_after-requires c =
    numbered c.self.inside.handlers c.self.inside.shapes c.args.address c.in-Some-get.shape
    c.self.invariant (sym c.in-Some-get.ensures)

pub invariant_of-self : goal.invariant_of-self
invariant_of-self c =
    numbered_still c.self.inside.handlers c.shape_after.new.self c.shape_after.ensures.grown
    c.self.inside.shapes c.self.invariant

pub invariant_of-self-in-Err : goal.invariant_of-self-in-Err
invariant_of-self-in-Err c =
    numbered_still c.self.inside.handlers c.shape_after.new.self c.shape_after.ensures.grown
    c.self.inside.shapes c.self.invariant

pub returns-in-Ok-clause-exact : goal.returns-in-Ok-clause-exact
returns-in-Ok-clause-exact c =
    taken_on (view_of c.args.parts.now) c.args.max c.args.address c.args.self.now c.self.inside.shapes
    c.self.inside.waiting c.self.inside.handlers c.shape_after.new.self c.self.view_is c.self.invariant
    c.shape_after.ensures.grown (c.in-Some.op, c.in-Some.width)
    (sym c.decode.ensures.exact ∙ c.in-Some.is) c.in-Some-get.shape (sym c.in-Some-get.ensures)
    c.of-effect.result c.of-effect.ensures (state_of c.arrive_by.new.self)
    (shape_of c.shape_after.new.self c.in-Ok.after) c.arrive_by.result c.in-Ok.ensures.exact
    c.arrive_by.ensures.exact
