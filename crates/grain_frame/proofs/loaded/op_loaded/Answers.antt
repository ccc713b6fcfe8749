-- An operator is done on the integer that is loaded, and a comparison with the branch after it.
use Rattle.std.proofs.Common.{rules, ◌≡◌, ◌≤◌, ◌+◌, ◌++◌, ◌∷◌, [], inl, inr, length, arith, w64, FitsSigned}
use Rattle.std.proofs.lemmas.Int.{to_z-of_z}
use Rattle.grain_value.specs.declared.values.Dynamic.TheVariants as dynamic
use Rattle.grain_value.specs.Operands.{under, read_write}
use Rattle.grain_frame.specs.Abstraction.{moved, marked_once}
use Rattle.grain_frame.specs.Following.{loaded, judged, begun_behind}
use Rattle.grain_frame.proofs.Branching.{answers}
use Rattle.grain_frame.proofs.Loading.{gives_int, under_pushed}
use Rattle.grain_frame.proofs.loaded.op_loaded.Goals as goal

pub returns-then-branch_loaded-clause-performs : goal.returns-then-branch_loaded-clause-performs
returns-then-branch_loaded-clause-performs g c =
    let p = c.args.context.program.now in
    let e = c.args.context.engine.now in
    let f = moved c.args.frame.now c.args.at in
    let z = c.args.integer in
    let z_fits : FitsSigned w64 z = search rules in
    let s = loaded c.args.run.now z in
    let truth = c.in-Bool.truth in
    let next = c.args.at + c.args.width in
    let is : c.args.count ≡ 2 = c.in-Bool.ensures.two tt in
    let two : 2 ≤ length s.stacks.operands = omega (arith, c.requires.ready.operands, is) in
    λ host. inr (record {
      frame = moved f next;
      run = judged s truth;
      counts = marked_once (begun_behind c.args.steps.now);
      first = answers g.H.Host.law p e f s truth c.args.name c.args.count c.args.token next
          (begun_behind c.args.steps.now) host c.requires.ready is two
          (rw (to_z-of_z w64 z z_fits) at (c.in-Bool.ensures.readable tt))
          (rw (to_z-of_z w64 z z_fits) at c.in-Bool.ensures.agrees);
      second = rw (
        c.mark-in-Bool.ensures,
        c.begin_behind-in-Bool.ensures,
        to_z-of_z w64 z z_fits,
      ) at (c.if-branch_loaded.ensures.stepped host);
    })

pub returns-in-Int-clause-performs : goal.returns-in-Int-clause-performs
returns-in-Int-clause-performs g c =
    let p = c.args.context.program.now in
    let e = c.args.context.engine.now in
    let f = moved c.args.frame.now c.args.at in
    let z = c.args.integer in
    let z_fits : FitsSigned w64 z = search rules in
    let r = c.in-Int.z in
    let r_fits : FitsSigned w64 r = search rules in
    let s = loaded c.args.run.now z in
    let next = c.args.at + c.args.width in
    let is : c.args.count ≡ 2 = c.in-Int.ensures.two tt in
    let two : 2 ≤ length s.stacks.operands = omega (arith, c.requires.ready.operands, is) in
    let put : c.put_int.new.self ≡ record s.stacks {
      operands = under 2 s.stacks.operands ++ read_write (dynamic.Int r) ∷ [];
    } =
    rw (under_pushed c.args.run.now.stacks.operands (read_write (dynamic.Int z)))
    (rw (to_z-of_z w64 r r_fits) at c.put_int.ensures) in
    λ host. inl (rw (c.mark.ensures, c.begin_behind.ensures, put)
    (gives_int g.H.Host.law p e f s z c.args.name c.args.count c.args.token next
    (begun_behind c.args.steps.now) host r c.requires.ready is two
    (rw (to_z-of_z w64 z z_fits) at (c.in-Int.ensures.readable tt))
    (rw (to_z-of_z w64 z z_fits) at c.in-Int.ensures.agrees)))

pub returns-else-branch_loaded-clause-performs : goal.returns-else-branch_loaded-clause-performs
returns-else-branch_loaded-clause-performs g c =
    let p = c.args.context.program.now in
    let e = c.args.context.engine.now in
    let f = moved c.args.frame.now c.args.at in
    let z = c.args.integer in
    let z_fits : FitsSigned w64 z = search rules in
    let s = loaded c.args.run.now z in
    let truth = c.in-Bool.truth in
    let next = c.args.at + c.args.width in
    let is : c.args.count ≡ 2 = c.in-Bool.ensures.two tt in
    let two : 2 ≤ length s.stacks.operands = omega (arith, c.requires.ready.operands, is) in
    let undone = c.if-branch_loaded.ensures.undone in
    let put : c.put_bool.new.self ≡ record s.stacks {
      operands = under 2 s.stacks.operands ++ read_write (dynamic.Bool truth) ∷ [];
    } =
    rw (under_pushed c.args.run.now.stacks.operands (read_write (dynamic.Int z)))
    (rw undone.0 at c.put_bool.ensures) in
    λ host. inl (rw (
      put,
      undone.0,
      undone.1,
      undone.2,
      c.mark-in-Bool.ensures,
      c.begin_behind-in-Bool.ensures,
    )
    (answers g.H.Host.law p e f s truth c.args.name c.args.count c.args.token next
    (begun_behind c.args.steps.now) host c.requires.ready is two
    (rw (to_z-of_z w64 z z_fits) at (c.in-Bool.ensures.readable tt))
    (rw (to_z-of_z w64 z z_fits) at c.in-Bool.ensures.agrees)))
