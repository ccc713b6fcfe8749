-- The operator is done on the two integers that are loaded.
use Rattle.std.proofs.Common.{◌≡◌, ◌≤◌, ◌++◌, ◌∷◌, [], List, ◌∙◌, true, ap, length, refl, arith, rules, w64, FitsSigned}
use Rattle.std.proofs.lemmas.Int.{to_z-of_z}
use Rattle.grain_value.specs.declared.values.Dynamic.TheVariants as dynamic
use Rattle.grain_value.specs.declared.values.Held.{Held}
use Rattle.grain_value.specs.Operands.{read_write}
use Rattle.grain_program.specs.View.{token_of}
use Rattle.grain_frame.proofs.Branching.{top_pushed, below_pushed}
use Rattle.grain_frame.proofs.Paired.{length_both}
use Rattle.grain_frame.proofs.Pairs.{arguments_two, two_read}
use Rattle.grain_frame.proofs.two_loads.pair_operation.Goals as goal

pub returns-clause-agrees : goal.returns-clause-agrees
returns-clause-agrees g c =
    let p = c.args.context.program.now in
    let two : c.args.count ≡ 2 = search rules in
    let fast : c.args.context.engine.now.fast_operators ≡ true = search rules in
    let token : c.token-token.result ≡ token_of p c.args.token =
    c.token-token.ensures ∙ ap (token_of p) c.from.ensures in
    let x = c.args.first in
    let y = c.args.second in
    let x_fits : FitsSigned w64 x = search rules in
    let y_fits : FitsSigned w64 y = search rules in
    let a : Held = read_write (dynamic.Int x) in
    let b : Held = read_write (dynamic.Int y) in
    let ops : List Held = c.args.run.now.stacks.operands in
    let some : 2 ≤ length ((ops ++ a ∷ []) ++ b ∷ []) =
    omega (arith, length_both c.args.run.now x y) in
    rw (
      two,
      arguments_two ((ops ++ a ∷ []) ++ b ∷ []) some,
      below_pushed (ops ++ a ∷ []) b,
      top_pushed (ops ++ a ∷ []) b,
      top_pushed ops a,
      fast,
      ← token,
    )
    (rw (to_z-of_z w64 x x_fits, to_z-of_z w64 y y_fits) at
    (c.quick_operated_with.ensures.agrees c.args.context.engine.now.limits))

pub returns-clause-readable : goal.returns-clause-readable
returns-clause-readable g c = λ given.
    let two : c.args.count ≡ 2 = search rules in
    let x = c.args.first in
    let y = c.args.second in
    let a : Held = read_write (dynamic.Int x) in
    let b : Held = read_write (dynamic.Int y) in
    let ops : List Held = c.args.run.now.stacks.operands in
    let some : 2 ≤ length ((ops ++ a ∷ []) ++ b ∷ []) =
    omega (arith, length_both c.args.run.now x y) in
    rw (
      two,
      arguments_two ((ops ++ a ∷ []) ++ b ∷ []) some,
      below_pushed (ops ++ a ∷ []) b,
      top_pushed (ops ++ a ∷ []) b,
      top_pushed ops a,
    )
    (two_read c.args.run.now.cells a b (x, y, refl, refl))
