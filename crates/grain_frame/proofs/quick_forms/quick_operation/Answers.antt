use Rattle.std.proofs.Common.{◌≡◌, ◌≤◌, ◌∙◌, true, ap, length, arith, rules}
use Rattle.grain_program.specs.View.{token_of}
use Rattle.grain_frame.proofs.Pairs.{arguments_two, two_read}
use Rattle.grain_frame.proofs.quick_forms.quick_operation.Goals as goal

pub returns-clause-agrees : goal.returns-clause-agrees
returns-clause-agrees g c =
    let p = c.args.context.program.now in
    let two : c.args.count ≡ 2 = search rules in
    let fast : c.args.context.engine.now.fast_operators ≡ true = search rules in
    let token : c.token-token.result ≡ token_of p c.args.token =
    c.token-token.ensures ∙ ap (token_of p) c.from.ensures in
    let some : 2 ≤ length c.args.run.now.stacks.operands =
    omega (arith, c.requires.operands, two) in
    rw (
      two,
      arguments_two c.args.run.now.stacks.operands some,
      fast,
      ← token,
      ← c.peek.ensures,
      ← c.top.ensures,
    )
    (c.quick_operated.ensures.agrees c.args.context.engine.now.limits)

pub returns-clause-readable : goal.returns-clause-readable
returns-clause-readable g c = λ given.
    let two : c.args.count ≡ 2 = search rules in
    let some : 2 ≤ length c.args.run.now.stacks.operands =
    omega (arith, c.requires.operands, two) in
    rw (two, arguments_two c.args.run.now.stacks.operands some, ← c.peek.ensures, ← c.top.ensures)
    (two_read c.args.run.now.cells c.peek.result.now c.top.result.now
    (c.quick_operated.ensures.integers given))
