-- The load is done with what stands after it.
use Rattle.std.proofs.Common.{rules, ◌≡◌, ◌∙◌, inl, inr, sym, ap, w64, FitsSigned}
use Rattle.std.proofs.lemmas.Int.{to_z-of_z}
use Rattle.grain_value.specs.declared.values.Dynamic.TheVariants as dynamic
use Rattle.grain_program.specs.View.{const_of}
use Rattle.grain_frame.specs.Abstraction.{moved, marked_once}
use Rattle.grain_frame.specs.Following.{loaded}
use Rattle.grain_frame.proofs.Loading.{loads_const}
use Rattle.grain_frame.proofs.quick_forms.quick_const.Goals as goal

pub returns-then-quick_loaded-clause-performs : goal.returns-then-quick_loaded-clause-performs
returns-then-quick_loaded-clause-performs g c =
    let p = c.args.context.program.now in
    let e = c.args.context.engine.now in
    let f = c.args.frame.now in
    let s = c.args.run.now in
    let z = c.in-Int.integer in
    let z_fits : FitsSigned w64 z = search rules in
    let is : const_of p c.args.constant ≡ dynamic.Int z =
    sym (c.constant.ensures ∙ ap (const_of p) c.from.ensures) ∙ c.in-Int.is in
    λ host. inr (record {
      frame = moved f c.args.next;
      run = loaded s z;
      counts = marked_once c.args.steps.now;
      first = loads_const g.H.Host.law p e f s z c.args.constant c.args.next c.args.steps.now host
          c.requires.ready is;
      second = rw (to_z-of_z w64 z z_fits) at (c.if-quick_loaded.ensures.stepped host);
    })

pub returns-else-not-push_int-clause-performs : goal.returns-else-not-push_int-clause-performs
returns-else-not-push_int-clause-performs g c =
    let p = c.args.context.program.now in
    let e = c.args.context.engine.now in
    let f = c.args.frame.now in
    let s = c.args.run.now in
    let z = c.in-Int.integer in
    let z_fits : FitsSigned w64 z = search rules in
    let is : const_of p c.args.constant ≡ dynamic.Int z =
    sym (c.constant.ensures ∙ ap (const_of p) c.from.ensures) ∙ c.in-Int.is in
    let undone = c.if-quick_loaded.ensures.undone in
    let put = rw (undone.0, to_z-of_z w64 z z_fits) at c.if-not-push_int.ensures in
    λ host. inl (rw (put, c.mark.ensures, undone.0, undone.1, undone.2)
    (loads_const g.H.Host.law p e f s z c.args.constant c.args.next c.args.steps.now host
    c.requires.ready is))
