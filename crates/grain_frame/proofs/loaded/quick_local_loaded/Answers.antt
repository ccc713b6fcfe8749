-- What stands after the load is done from where the load would have left the frame.
use Rattle.std.proofs.Common.{rules, ◌≡◌, ◌+◌, ◌-◌, ℕ, inl, length, refl, subst, arith, w64, FitsSigned}
use Rattle.std.proofs.lemmas.Int.{to_z-of_z}
use Rattle.grain_program.specs.declared.code.instruction_set.Op.TheVariants as op
use Rattle.grain_program.specs.TypedAt.{IsTypedAt}
use Rattle.grain_frame.specs.Abstraction.{moved, tries_in}
use Rattle.grain_frame.specs.Following.{loaded, begun_behind}
use Rattle.grain_frame.specs.lemmas.Arms.{is_typed, leads_typed, ready, stepped}
use Rattle.grain_frame.proofs.Tried.{tried}
use Rattle.grain_frame.proofs.Loading.{stepped_on}
use Rattle.grain_frame.proofs.loaded.quick_local_loaded.Goals as goal

pub fetch_at-requires : goal.fetch_at-requires
fetch_at-requires g c =
    is_typed c.args.context.program.now (moved c.args.frame.now c.args.next)
    (loaded c.args.run.now c.args.integer) c.requires.runs

pub assign_loaded-requires-clause-ready : goal.assign_loaded-requires-clause-ready
assign_loaded-requires-clause-ready g c =
    let p = c.args.context.program.now in
    let e = c.args.context.engine.now in
    let f = moved c.args.frame.now c.args.next in
    let z = c.args.integer in
    let z_fits : FitsSigned w64 z = search rules in
    let s = loaded c.args.run.now z in
    let o = op.AssignLocalOp c.in-AssignLocalOp-default.slot c.in-AssignLocalOp-default.name
    c.in-AssignLocalOp-default.op in
    rw (to_z-of_z w64 z z_fits)
    (ready g.H.Host.law p e f s c.fetch_at.result.0 o c.fetch_at.result.1 c.in-AssignLocalOp-default.is-0
    c.requires.runs c.fetch_at.ensures.verified)

pub op_loaded-requires-clause-ready : goal.op_loaded-requires-clause-ready
op_loaded-requires-clause-ready g c =
    let p = c.args.context.program.now in
    let e = c.args.context.engine.now in
    let f = moved c.args.frame.now c.args.next in
    let z = c.args.integer in
    let z_fits : FitsSigned w64 z = search rules in
    let s = loaded c.args.run.now z in
    let o = op.CallOp c.in-CallOp-default.name c.in-CallOp-default.count c.in-CallOp-default.token in
    rw (to_z-of_z w64 z z_fits)
    (ready g.H.Host.law p e f s c.fetch_at.result.0 o c.fetch_at.result.1 c.in-CallOp-default.is-0
    c.requires.runs c.fetch_at.ensures.verified)

pub const_loaded-requires-clause-ready : goal.const_loaded-requires-clause-ready
const_loaded-requires-clause-ready g c =
    let p = c.args.context.program.now in
    let e = c.args.context.engine.now in
    let f = moved c.args.frame.now c.args.next in
    let z = c.args.integer in
    let z_fits : FitsSigned w64 z = search rules in
    let s = loaded c.args.run.now z in
    let o = op.LoadConst c.in-LoadConst-default.constant in
    rw (to_z-of_z w64 z z_fits)
    (ready g.H.Host.law p e f s c.fetch_at.result.0 o c.fetch_at.result.1 c.in-LoadConst-default.is-0
    c.requires.runs c.fetch_at.ensures.verified)

pub returns-in-AssignLocalOp-default-clause-stepped :
    goal.returns-in-AssignLocalOp-default-clause-stepped
returns-in-AssignLocalOp-default-clause-stepped g c =
    let p = c.args.context.program.now in
    let e = c.args.context.engine.now in
    let f = moved c.args.frame.now c.args.next in
    let z = c.args.integer in
    let z_fits : FitsSigned w64 z = search rules in
    let s = loaded c.args.run.now z in
    let o = op.AssignLocalOp c.in-AssignLocalOp-default.slot c.in-AssignLocalOp-default.name
    c.in-AssignLocalOp-default.op in
    let did = c.assign_loaded in
    tried did.result (rw (to_z-of_z w64 z z_fits) at did.ensures.performs)
    (λ does host. stepped g.H.Host.law p e f s c.fetch_at.result.0 o c.fetch_at.result.1 c.in-AssignLocalOp-default.is-0 c.requires.runs c.fetch_at.ensures.verified
    c.fetch_at.ensures.read refl refl (begun_behind c.args.steps.now) did.new.frame did.new.run
    did.new.steps host host (does host))

pub op_loaded-requires-clause-typed : goal.op_loaded-requires-clause-typed
op_loaded-requires-clause-typed g c =
    let p = c.args.context.program.now in
    let e = c.args.context.engine.now in
    let f = moved c.args.frame.now c.args.next in
    let z = c.args.integer in
    let z_fits : FitsSigned w64 z = search rules in
    let s = loaded c.args.run.now z in
    let o = op.CallOp c.in-CallOp-default.name c.in-CallOp-default.count c.in-CallOp-default.token
    in
    rw (to_z-of_z w64 z z_fits)
    (leads_typed g.H.Host.law p e f s c.fetch_at.result.0 o c.fetch_at.result.1 c.in-CallOp-default.is-0 c.requires.runs c.fetch_at.ensures.verified refl refl _ (inl refl))

pub returns-in-CallOp-default-clause-stepped : goal.returns-in-CallOp-default-clause-stepped
returns-in-CallOp-default-clause-stepped g c =
    let p = c.args.context.program.now in
    let e = c.args.context.engine.now in
    let f = moved c.args.frame.now c.args.next in
    let z = c.args.integer in
    let z_fits : FitsSigned w64 z = search rules in
    let s = loaded c.args.run.now z in
    let o = op.CallOp c.in-CallOp-default.name c.in-CallOp-default.count c.in-CallOp-default.token
    in
    let did = c.op_loaded in
    tried did.result (rw (to_z-of_z w64 z z_fits) at did.ensures.performs)
    (λ does host. stepped_on g.H.Host.law p e f s c.fetch_at.result.0 o c.fetch_at.result.1 c.in-CallOp-default.is-0 c.requires.runs c.fetch_at.ensures.verified
    c.fetch_at.ensures.read refl refl (begun_behind c.args.steps.now) did.new.frame did.new.run
    did.new.steps host (does host))

pub const_loaded-requires-clause-typed : goal.const_loaded-requires-clause-typed
const_loaded-requires-clause-typed g c =
    let p = c.args.context.program.now in
    let e = c.args.context.engine.now in
    let f = moved c.args.frame.now c.args.next in
    let z = c.args.integer in
    let z_fits : FitsSigned w64 z = search rules in
    let s = loaded c.args.run.now z in
    let o = op.LoadConst c.in-LoadConst-default.constant in
    let same : length s.stacks.operands - 0 + 1 ≡ length s.stacks.operands + 1 = omega arith in
    rw (to_z-of_z w64 z z_fits)
    (subst (λ (k : ℕ). IsTypedAt p f.chunk (f.address + c.fetch_at.result.1) k
    (length s.stacks.cursors) (tries_in s.stacks.handlers)) same
    (leads_typed g.H.Host.law p e f s c.fetch_at.result.0 o c.fetch_at.result.1 c.in-LoadConst-default.is-0 c.requires.runs c.fetch_at.ensures.verified refl refl _ (inl refl)))

pub returns-in-LoadConst-default-clause-stepped : goal.returns-in-LoadConst-default-clause-stepped
returns-in-LoadConst-default-clause-stepped g c =
    let p = c.args.context.program.now in
    let e = c.args.context.engine.now in
    let f = moved c.args.frame.now c.args.next in
    let z = c.args.integer in
    let z_fits : FitsSigned w64 z = search rules in
    let s = loaded c.args.run.now z in
    let o = op.LoadConst c.in-LoadConst-default.constant in
    let did = c.const_loaded in
    tried did.result (rw (to_z-of_z w64 z z_fits) at did.ensures.performs)
    (λ does host. stepped_on g.H.Host.law p e f s c.fetch_at.result.0 o c.fetch_at.result.1 c.in-LoadConst-default.is-0 c.requires.runs c.fetch_at.ensures.verified
    c.fetch_at.ensures.read refl refl (begun_behind c.args.steps.now) did.new.frame did.new.run
    did.new.steps host (does host))
