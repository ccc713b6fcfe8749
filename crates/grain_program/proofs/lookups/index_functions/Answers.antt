use Rattle.std.proofs.Common.{◌≡◌, ◌-◌, suc, not, Some, sym, ap, subst, ◌∙◌, arith}
use Rattle.std.specs.Prelude.{slice_get}
use Rattle.std.proofs.lemmas.Option.{slice_get-get_or}
use Rattle.grain_program.specs.declared.code.functions.Function.{Function}
use Rattle.grain_program.proofs.FunctionIndices.{IndexFrom, index_same, index_more}
use Rattle.grain_program.proofs.lookups.index_functions.Goals as goal

pub loop-number-preserved-in_ok-insert : goal.loop-number-preserved-in_ok-insert
loop-number-preserved-in_ok-insert c =
    let next : c.loop-number.number ≡ suc (c.loop-number.number - 1) = omega arith in
    let so =
    subst (λ k. IndexFrom c.args.functions.now k c.loop-number.function_index) next
    c.loop-number.invariant in
    let is : slice_get c.args.functions.now (c.loop-number.number - 1) ≡ Some
    c.index-functions-number.result =
    slice_get-get_or c.args.functions.now (c.loop-number.number - 1) _
    (omega (arith, c.loop-number.auto.number)) ∙ ap (λ (f : Function). Some f)
    (sym c.index-functions-number.is)
    in
    index_more c.args.functions.now (c.loop-number.number - 1) c.index-functions-number.result
    c.len.result c.loop-number.function_index c.insert.new.self is c.len.ensures
    (ap not (c.is_none.ensures ∙ ap not c.if-is_none.true)) so
    c.in_ok-insert.ensures.updates

pub loop-number-preserved : goal.loop-number-preserved
loop-number-preserved c =
    let next : c.loop-number.number ≡ suc (c.loop-number.number - 1) = omega arith in
    let so =
    subst (λ k. IndexFrom c.args.functions.now k c.loop-number.function_index) next
    c.loop-number.invariant in
    let is : slice_get c.args.functions.now (c.loop-number.number - 1) ≡ Some
    c.index-functions-number.result =
    slice_get-get_or c.args.functions.now (c.loop-number.number - 1) _
    (omega (arith, c.loop-number.auto.number)) ∙ ap (λ (f : Function). Some f)
    (sym c.index-functions-number.is)
    in
    index_same c.args.functions.now (c.loop-number.number - 1) c.index-functions-number.result
    c.loop-number.function_index is (ap not (c.is_none.ensures ∙ ap not c.if-is_none.false)) so
