-- A comparison is done with the branch after it.
use Rattle.std.proofs.Common.{◌≡◌, ◌≤◌, ◌+◌, inl, inr, length, arith, rules, w64, FitsSigned}
use Rattle.std.proofs.lemmas.Int.{to_z-of_z}
use Rattle.grain_frame.specs.Abstraction.{moved, marked_once}
use Rattle.grain_frame.specs.Following.{judged}
use Rattle.grain_frame.proofs.Branching.{answers}
use Rattle.grain_frame.proofs.Loading.{gives_int}
use Rattle.grain_frame.proofs.quick_forms.quick_op.Goals as goal

pub returns-then-quick_branch-clause-performs : goal.returns-then-quick_branch-clause-performs
returns-then-quick_branch-clause-performs g c =
    let p = c.args.context.program.now in
    let e = c.args.context.engine.now in
    let f = c.args.frame.now in
    let s = c.args.run.now in
    let truth = c.in-Bool.truth in
    let next = f.address + c.args.width in
    let is : c.args.count ≡ 2 = c.in-Bool.ensures.two tt in
    let two : 2 ≤ length s.stacks.operands = omega (arith, c.requires.ready.operands, is) in
    λ host. inr (record {
      frame = moved f next;
      run = judged s truth;
      counts = marked_once c.args.steps.now;
      first = answers g.H.Host.law p e f s truth c.args.name c.args.count c.args.token next
          c.args.steps.now host c.requires.ready is two
          (c.in-Bool.ensures.readable tt) c.in-Bool.ensures.agrees;
      second = rw c.mark-in-Bool.ensures at (c.if-quick_branch.ensures.stepped host);
    })

pub returns-in-Int-clause-performs : goal.returns-in-Int-clause-performs
returns-in-Int-clause-performs g c =
    let p = c.args.context.program.now in
    let e = c.args.context.engine.now in
    let f = c.args.frame.now in
    let s = c.args.run.now in
    let r = c.in-Int.z in
    let r_fits : FitsSigned w64 r = search rules in
    let is : c.args.count ≡ 2 = c.in-Int.ensures.two tt in
    let two : 2 ≤ length s.stacks.operands = omega (arith, c.requires.ready.operands, is) in
    let put = rw (to_z-of_z w64 r r_fits) at c.answer_int.ensures in
    λ host. inl (rw (c.mark.ensures, put)
    (gives_int g.H.Host.law p e f s r c.args.name c.args.count c.args.token
    (f.address + c.args.width) c.args.steps.now host r c.requires.ready is two
    (c.in-Int.ensures.readable tt) c.in-Int.ensures.agrees))

pub returns-else-quick_branch-clause-performs : goal.returns-else-quick_branch-clause-performs
returns-else-quick_branch-clause-performs g c =
    let p = c.args.context.program.now in
    let e = c.args.context.engine.now in
    let f = c.args.frame.now in
    let s = c.args.run.now in
    let truth = c.in-Bool.truth in
    let is : c.args.count ≡ 2 = c.in-Bool.ensures.two tt in
    let two : 2 ≤ length s.stacks.operands = omega (arith, c.requires.ready.operands, is) in
    let undone = c.if-quick_branch.ensures.undone in
    let put = rw undone.0 at c.answer_bool.ensures in
    λ host. inl (rw (put, undone.0, undone.1, undone.2, c.mark-in-Bool.ensures)
    (answers g.H.Host.law p e f s truth c.args.name c.args.count c.args.token
    (f.address + c.args.width) c.args.steps.now host c.requires.ready is two
    (c.in-Bool.ensures.readable tt) c.in-Bool.ensures.agrees))
