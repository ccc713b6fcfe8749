-- One value more is counted, and at the end all were.
use Rattle.std.proofs.Common.{◌≡◌, ◌∙◌, ℕ, List, [], ◌∷◌, ◌++◌, refl, sym, ap, String, Global, string_bytes, append_assoc, append-nil}
use Rattle.grain_value.specs.Tree.{Tree}
use Rattle.grain_value.specs.View.{tree, entries_view}
use Rattle.grain_value.specs.Maps.{Entries}
use Rattle.grain_value.specs.Sizes.{counted, map_sizes, one_element, one_value}
use Rattle.grain_value.proofs.Totals.{trees-take, array_sizes-append, map_sizes-append, more}
use Rattle.grain_value.specs.declared.values.Dynamic.{Dynamic}
use Rattle.grain_value.proofs.values.sizes.+sizes.Goals as goal

-- the pairs of a map as memory holds them
abbrev Pairs : Type 0
Pairs = List (String Global × Dynamic)

pub calc_array_sizes-loop-value-preserved : goal.calc_array_sizes-loop-value-preserved
calc_array_sizes-loop-value-preserved t c =
    let taken = trees-take c.deref-value-items.result.now c.loop-value.value-index
    c.value-item.result c.loop-value-test.true c.value-item.is in
    rw (
      c.added-total.ensures,
      c.added-one.ensures,
      c.inner_sizes.ensures,
      c.loop-value.invariant,
      taken,
      array_sizes-append,
    ) (more _ _ one_element refl)

pub calc_map_sizes-loop-value-init : goal.calc_map_sizes-loop-value-init
calc_map_sizes-loop-value-init t c = (
  [],
  sym c.map.view_is ∙ sym (ap entries_view
      (c.into_iter-value-iterator.ensures.into_iter_gives ∙ c.iter-value-items.ensures.rest)),
  refl,
)

pub calc_map_sizes-loop-value-preserved : goal.calc_map_sizes-loop-value-preserved
calc_map_sizes-loop-value-preserved t c =
    let done = c.loop-value.invariant.0 in
    let e : List ℕ × Tree = (string_bytes c.in-Some.field-0-0.now, tree c.in-Some.value.now) in
    let left : Entries = entries_view c.next.new.self in (
      done ++ e ∷ [],
      c.loop-value.invariant.1
          ∙ ap (λ (es : Pairs). done ++ entries_view es) c.in-Some.ensures.steps
          ∙ sym (append_assoc done (e ∷ []) left),
      rw (
        c.added-total.ensures,
        c.added-one.ensures,
        c.inner_sizes.ensures,
        c.loop-value.invariant.2,
        map_sizes-append,
      ) (more _ _ one_value refl),
    )

pub calc_map_sizes-returns : goal.calc_map_sizes-returns
calc_map_sizes-returns t c =
    let done = c.loop-value.invariant.0 in
    let all : c.args.map.now ≡ done =
    c.loop-value.invariant.1 ∙ ap (λ (es : Pairs). done ++ entries_view es)
    c.in-None.ensures.steps.0 ∙ append-nil done in
    c.loop-value.invariant.2 ∙ ap (λ (es : Entries). counted (map_sizes es)) (sym all)
