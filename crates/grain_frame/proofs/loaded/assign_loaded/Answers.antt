-- The integer that is loaded is assigned to an entry that is an integer.
use Rattle.std.proofs.Common.{rules, ◌≡◌, ◌+◌, ◌∙◌, Some, false, sym, ap, w64, FitsSigned}
use Rattle.std.proofs.lemmas.Int.{to_z-of_z}
use Rattle.grain_value.specs.declared.values.Dynamic.TheVariants as dynamic
use Rattle.grain_value.specs.declared.values.Held.{Held}
use Rattle.grain_program.specs.View.{assign_op_of}
use Rattle.grain_program.specs.declared.code.parts.AssignOp.{AssignOp}
use Rattle.grain_ops.specs.Outcomes.{Gave}
use Rattle.grain_ops.specs.Agreement.{AreIntegers}
use Rattle.grain_means.specs.Rules.{held_at, op_assigned}
use Rattle.grain_frame.specs.Abstraction.{moved}
use Rattle.grain_frame.specs.Following.{begun_behind}
use Rattle.grain_frame.proofs.Loading.{held_is, assigns}
use Rattle.grain_frame.proofs.loaded.assign_loaded.Goals as goal

pub returns-in-Some-quick_assigned_with-clause-performs :
    goal.returns-in-Some-quick_assigned_with-clause-performs
returns-in-Some-quick_assigned_with-clause-performs g c =
    let p = c.args.context.program.now in
    let e = c.args.context.engine.now in
    let f = moved c.args.frame.now c.args.at in
    let s = c.args.run.now in
    let z = c.args.integer in
    let r = c.in-Some-quick_assigned_with.z in
    let i = c.slot_index-index.result in
    let held = c.in-Some.held.now in
    let r_fits : FitsSigned w64 r = search rules in
    let z_fits : FitsSigned w64 z = search rules in
    let ints : AreIntegers held.value (dynamic.Int z) =
    rw (to_z-of_z w64 z z_fits) at c.in-Some-quick_assigned_with.ensures.integers in
    let writable : held.read_only ≡ false = search rules in
    let is : held ≡ record { value = dynamic.Int ints.0; read_only = false } =
    held_is held ints.0 ints.2 writable in
    let found : held_at s.scope i ≡ Some held = search rules in
    let there : held_at s.scope (f.base + c.args.slot)
    ≡ Some (record { value = dynamic.Int ints.0; read_only = false }) =
    rw (← c.slot_index-index.ensures) (found ∙ ap (λ (h : Held). Some h) is) in
    let entry : c.assign_op.result.now ≡ assign_op_of p c.args.assign_op =
    c.assign_op.ensures ∙ ap (assign_op_of p) c.from.ensures in
    let gave : op_assigned e c.assign_op.result.now (dynamic.Int ints.0) (dynamic.Int z)
    ≡ Gave (dynamic.Int r) =
    rw (to_z-of_z w64 z z_fits, ints.2) at
    c.in-Some-quick_assigned_with.ensures.assigned in
    let gives : op_assigned e (assign_op_of p c.args.assign_op) (dynamic.Int ints.0)
    (dynamic.Int z) ≡ Gave (dynamic.Int r) =
    ap (λ (a : AssignOp). op_assigned e a (dynamic.Int ints.0) (dynamic.Int z)) (sym entry) ∙
    gave in
    λ host. rw (
      c.mark-in-Some-quick_assigned_with.ensures,
      c.mark.ensures,
      c.begin_behind.ensures,
      rw (to_z-of_z w64 r r_fits, c.slot_index-index.ensures) at c.set_int.ensures,
    )
    (assigns g.H.Host.law p e f s z c.args.slot c.args.name c.args.assign_op c.args.after
    (begun_behind c.args.steps.now) host ints.0 r c.requires.ready there gives)
