use Rattle.std.proofs.Common.{◌≡◌, ◌≤◌, ◌++◌, ◌∷◌, [], List, ◌∙◌, true, ap, length, length-append, arith, rules, w64, FitsSigned}
use Rattle.std.proofs.lemmas.Int.{to_z-of_z}
use Rattle.grain_value.specs.declared.values.Dynamic.TheVariants as dynamic
use Rattle.grain_value.specs.declared.values.Held.{Held}
use Rattle.grain_value.specs.Operands.{read_write}
use Rattle.grain_program.specs.View.{token_of}
use Rattle.grain_frame.proofs.Branching.{top_pushed, below_pushed}
use Rattle.grain_frame.proofs.Pairs.{arguments_two, two_read}
use Rattle.grain_frame.proofs.loaded.operation_loaded.Goals as goal

pub returns-clause-agrees : goal.returns-clause-agrees
returns-clause-agrees g c =
    let p = c.args.context.program.now in
    let two : c.args.count ≡ 2 = search rules in
    let fast : c.args.context.engine.now.fast_operators ≡ true = search rules in
    let token : c.token-token.result ≡ token_of p c.args.token =
    c.token-token.ensures ∙ ap (token_of p) c.from.ensures in
    let z = c.args.integer in
    let fits : FitsSigned w64 z = search rules in
    let h : Held = read_write (dynamic.Int c.args.integer) in
    let ops : List Held = c.args.run.now.stacks.operands in
    let some : 2 ≤ length (ops ++ h ∷ []) =
    omega (arith, c.requires.operands, two, length-append ops (h ∷ [])) in
    rw (
      two,
      arguments_two (ops ++ h ∷ []) some,
      below_pushed ops h,
      top_pushed ops h,
      fast,
      ← token,
      ← c.top.ensures,
    )
    (rw (to_z-of_z w64 z fits) at
    (c.quick_operated_with.ensures.agrees c.args.context.engine.now.limits))

pub returns-clause-readable : goal.returns-clause-readable
returns-clause-readable g c = λ given.
    let two : c.args.count ≡ 2 = search rules in
    let z = c.args.integer in
    let fits : FitsSigned w64 z = search rules in
    let h : Held = read_write (dynamic.Int c.args.integer) in
    let ops : List Held = c.args.run.now.stacks.operands in
    let some : 2 ≤ length (ops ++ h ∷ []) =
    omega (arith, c.requires.operands, two, length-append ops (h ∷ [])) in
    rw (
      two,
      arguments_two (ops ++ h ∷ []) some,
      below_pushed ops h,
      top_pushed ops h,
      ← c.top.ensures,
    )
    (two_read c.args.run.now.cells c.top.result.now h
    (rw (to_z-of_z w64 z fits) at (c.quick_operated_with.ensures.integers given)))
