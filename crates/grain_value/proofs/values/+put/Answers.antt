use Rattle.std.proofs.Common.{◌≡◌, ◌∷◌, Some, sym, ap, ◌∙◌, arith, rules}
use Rattle.std.specs.Map.{lookup}
use Rattle.grain_value.specs.View.{tree, trees, entries_view}
use Rattle.grain_value.specs.Tree.{array, dict, pack, pack_fields}
use Rattle.grain_value.specs.Paths.{Leads}
use Rattle.grain_value.specs.declared.values.paths.PathStep.TheVariants.{Index, Key}
use Rattle.grain_value.specs.laws.PathSteps.{at-step, leads-step}
use Rattle.grain_value.proofs.PathEntries.{leads-within, child-element, put-element, child-member, leads-member, put-member, at_key}
use Rattle.grain_value.proofs.values.+put.Goals as goal

pub Array::put_below-index_mut-requires : goal.Array::put_below-index_mut-requires
Array::put_below-index_mut-requires t c =
    let h = leads-within c.self.inside.values.items c.args.index c.args.rest.now (rw c.self.view_is
    c.requires) in
    let n = c.self.inside.values.ok.0 in omega arith

pub Array::put_below-put_steps-requires : goal.Array::put_below-put_steps-requires
Array::put_below-put_steps-requires t c =
    let items = c.self.inside.values.items in
    let leads : Leads (Index c.args.index ∷ c.args.rest.now) (array (pack (trees items))) = rw
    c.self.view_is c.requires in
    let there = child-element items c.args.index c.index_mut.result.now (leads-within items
    c.args.index c.args.rest.now leads) c.index_mut.ensures.value in (
      search rules,
      leads-step (Index c.args.index) c.args.rest.now (array (pack (trees items)))
          (tree c.index_mut.result.now) there leads,
    )

pub Array::put_below-returns-clause-taken : goal.Array::put_below-returns-clause-taken
Array::put_below-returns-clause-taken t c =
    let items = c.self.inside.values.items in
    let leads : Leads (Index c.args.index ∷ c.args.rest.now) (array (pack (trees items))) = rw
    c.self.view_is c.requires in
    let there = child-element items c.args.index c.index_mut.result.now (leads-within items
    c.args.index c.args.rest.now leads) c.index_mut.ensures.value in
    rw (← c.self.view_is) (at-step (Index c.args.index) c.args.rest.now (array (pack (trees items)))
    (tree c.index_mut.result.now) there ∙ c.put_steps.ensures.taken)

pub Array::put_below-returns-clause-left : goal.Array::put_below-returns-clause-left
Array::put_below-returns-clause-left t c =
    let items = c.self.inside.values.items in
    let leads : Leads (Index c.args.index ∷ c.args.rest.now) (array (pack (trees items))) = rw
    c.self.view_is c.requires in
    let within = leads-within items c.args.index c.args.rest.now leads in
    rw (← c.self.view_is) (put-element items c.args.index c.index_mut.result.now
    c.put_steps.new.self c.args.rest.now (tree c.args.value) within c.index_mut.ensures.value
    c.put_steps.ensures.left)

pub Map::put_below-put_steps-requires : goal.Map::put_below-put_steps-requires
Map::put_below-put_steps-requires t c =
    let es = c.self.inside.pairs.entries in
    let leads : Leads (Key c.args.key.now ∷ c.args.rest.now) (dict (pack_fields (entries_view es)))
    = rw c.self.view_is c.requires.1.1 in
    let there : lookup (at_key c.args.key.now) es ≡ Some c.in-Some.inner.now = sym
    c.in-Some.ensures.value in (
      search rules,
      leads-step (Key c.args.key.now) c.args.rest.now (dict (pack_fields (entries_view
          es))) (tree c.in-Some.inner.now) (child-member es c.args.key.now _ there) leads,
    )

pub Map::put_below-unreachable-requires : goal.Map::put_below-unreachable-requires
Map::put_below-unreachable-requires t c =
    let es = c.self.inside.pairs.entries in
    leads-member es c.args.key.now c.args.rest.now (rw c.self.view_is c.requires.1.1) (sym
    c.in-None.ensures.value)

pub Map::put_below-returns-clause-taken : goal.Map::put_below-returns-clause-taken
Map::put_below-returns-clause-taken t c =
    let es = c.self.inside.pairs.entries in
    let there : lookup (at_key c.args.key.now) es ≡ Some c.in-Some.inner.now = sym
    c.in-Some.ensures.value in
    rw (← c.self.view_is) (at-step (Key c.args.key.now) c.args.rest.now (dict (pack_fields
    (entries_view es))) (tree c.in-Some.inner.now) (child-member es c.args.key.now _ there)
    ∙ c.put_steps.ensures.taken)

pub Map::put_below-returns-clause-left : goal.Map::put_below-returns-clause-left
Map::put_below-returns-clause-left t c =
    let es = c.self.inside.pairs.entries in
    let there : lookup (at_key c.args.key.now) es ≡ Some c.in-Some.inner.now = sym
    c.in-Some.ensures.value in
    rw (← c.self.view_is) (ap (λ l. dict (pack_fields (entries_view l))) (c.get_mut.follows.holds
    c.put_steps.new.self).0 ∙ put-member es c.args.key.now c.in-Some.inner.now c.put_steps.new.self
    c.args.rest.now (tree c.args.value) there c.put_steps.ensures.left)
