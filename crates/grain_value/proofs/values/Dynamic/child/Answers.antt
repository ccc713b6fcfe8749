use Rattle.std.proofs.Common.{length, Err, sym, ap, ◌∙◌}
use Rattle.grain_value.specs.Maps.{entry_at}
use Rattle.grain_value.specs.Paths.{element, keyed, reported}
use Rattle.grain_value.specs.declared.values.value_faults.ValueFault.TheVariants.{Bounds}
use Rattle.grain_value.specs.laws.PathSteps.{child-array, child-dict}
use Rattle.grain_value.proofs.values.Dynamic.child.Goals as goal

pub returns-in-Some-clause-value : goal.returns-in-Some-clause-value
returns-in-Some-clause-value c =
    let ts = c.in-Array.array in let i = c.in-Index.index in
    rw (c.in-Index.is, c.in-Array.is) (child-array ts i ∙ ap (λ o. element o (length ts) i) (sym
    c.in-Some.ensures))

pub returns-in-None-clause-missing : goal.returns-in-None-clause-missing
returns-in-None-clause-missing c =
    let ts = c.in-Array.array in let i = c.in-Index.index in
    rw (c.in-Index.is, c.in-Array.is) (child-array ts i ∙ ap (λ o. element o (length ts) i) (sym
    c.in-None.ensures) ∙ ap (λ n. Err (Bounds n (reported i))) (sym c.len.ensures.value)
    ∙ ap Err (sym c.no_element.ensures))

pub returns-in-Some-get-clause-value : goal.returns-in-Some-get-clause-value
returns-in-Some-get-clause-value c =
    let es = c.in-Map.map in
    rw (c.in-Key.is, c.in-Map.is) (child-dict es c.in-Key.key
    ∙ ap keyed (ap (λ k. entry_at k es) (sym c.as_str.ensures) ∙ sym c.in-Some-get.ensures))

pub returns-in-None-get-clause-missing : goal.returns-in-None-get-clause-missing
returns-in-None-get-clause-missing c =
    let es = c.in-Map.map in
    rw (c.in-Key.is, c.in-Map.is) (child-dict es c.in-Key.key
    ∙ ap keyed (ap (λ k. entry_at k es) (sym c.as_str.ensures) ∙ sym c.in-None-get.ensures))
