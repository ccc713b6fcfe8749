-- The load is done with what stands after it.
use Rattle.std.proofs.Common.{rules, ◌≡◌, ◌+◌, inl, inr, Some, w64, FitsSigned}
use Rattle.std.proofs.lemmas.Int.{to_z-of_z}
use Rattle.grain_means.specs.Rules.{held_at}
use Rattle.grain_frame.specs.Abstraction.{moved, marked_once}
use Rattle.grain_frame.specs.Following.{loaded}
use Rattle.grain_frame.proofs.Loading.{loads_local}
use Rattle.grain_frame.proofs.quick_forms.quick_local.Goals as goal

pub returns-then-quick_local_loaded-clause-performs : goal.returns-then-quick_local_loaded-clause-performs
returns-then-quick_local_loaded-clause-performs g c =
    let p = c.args.context.program.now in
    let e = c.args.context.engine.now in
    let f = c.args.frame.now in
    let s = c.args.run.now in
    let z = c.in-Int.integer in
    let z_fits : FitsSigned w64 z = search rules in
    let held = c.in-Some.held.now in
    let found : held_at s.scope c.slot_index-index.result ≡ Some held = search rules in
    let there : held_at s.scope (f.base + c.args.slot) ≡ Some held =
    rw (← c.slot_index-index.ensures) found in
    λ host. inr (record {
      frame = moved f c.args.next;
      run = loaded s z;
      counts = marked_once c.args.steps.now;
      first = loads_local g.H.Host.law p e f s z c.args.slot c.args.next c.args.steps.now host held
          c.requires.ready there c.in-Int.is;
      second = rw (to_z-of_z w64 z z_fits) at (c.if-quick_local_loaded.ensures.stepped host);
    })

pub returns-else-not-push_int-clause-performs : goal.returns-else-not-push_int-clause-performs
returns-else-not-push_int-clause-performs g c =
    let p = c.args.context.program.now in
    let e = c.args.context.engine.now in
    let f = c.args.frame.now in
    let s = c.args.run.now in
    let z = c.in-Int.integer in
    let z_fits : FitsSigned w64 z = search rules in
    let held = c.in-Some.held.now in
    let found : held_at s.scope c.slot_index-index.result ≡ Some held = search rules in
    let there : held_at s.scope (f.base + c.args.slot) ≡ Some held =
    rw (← c.slot_index-index.ensures) found in
    let undone = c.if-quick_local_loaded.ensures.undone in
    let put = rw (undone.0, to_z-of_z w64 z z_fits) at c.if-not-push_int.ensures in
    λ host. inl (rw (put, c.mark.ensures, undone.0, undone.1, undone.2)
    (loads_local g.H.Host.law p e f s z c.args.slot c.args.next c.args.steps.now host held
    c.requires.ready there c.in-Int.is))
