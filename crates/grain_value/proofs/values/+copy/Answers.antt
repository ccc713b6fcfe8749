use Rattle.std.proofs.Common.{◌≡◌, ℕ, List, [], ◌∷◌, ◌++◌, string_bytes, sym, ap, ◌∙◌, subst, append_assoc, append-nil}
use Rattle.grain_value.specs.Tree.{Tree}
use Rattle.grain_value.specs.View.{tree, entries_view}
use Rattle.grain_value.specs.Maps.{Entries, put_entry, IsAscending}
use Rattle.grain_value.proofs.Pairs.{view-insert_entry, ascending, put_last}
use Rattle.grain_value.proofs.values.+copy.Goals as goal

pub Map::copy-loop-key-init : goal.Map::copy-loop-key-init
Map::copy-loop-key-init t c =
    let gives : c.into_iter-key-iterator.result ≡ c.self.inside.pairs.entries =
    c.into_iter-key-iterator.ensures.into_iter_gives ∙ c.iter-key-items.ensures.rest in (
      rw (c.new-pairs.ensures.empty, gives) (sym c.self.view_is),
      rw (← c.self.view_is) (ascending _ c.iter-key-items.ensures.ordered),
    )

pub Map::copy-loop-key-preserved : goal.Map::copy-loop-key-preserved
Map::copy-loop-key-preserved t c =
    let l = c.loop-key in
    let old : Entries = entries_view l.pairs.entries in
    let left : Entries = entries_view c.next.new.self in
    let e : List ℕ × Tree = (string_bytes c.in-Some.key.now, tree c.in-Some.value.now) in
    let all : c.args.self.now ≡ old ++ e ∷ left =
    l.invariant.0 ∙ ap (λ es. old ++ entries_view es) c.in-Some.ensures.steps in
    let last : put_entry e.0 e.1 old ≡ old ++ e ∷ [] =
    put_last old e left (subst IsAscending all l.invariant.1) in
    let named : string_bytes c.in_ok-name.name ≡ string_bytes c.in-Some.key.now =
    c.in_ok-name.ensures.cases in
    let put : entries_view c.insert.new.self.entries ≡ old ++ e ∷ [] =
    ap entries_view c.in_ok-insert.ensures.entries ∙ view-insert_entry l.pairs.entries
    c.in_ok-name.name c.in_ok-value.value ∙ rw (named, c.in_ok-value.ensures) last in
    (all ∙ sym (append_assoc old (e ∷ []) left) ∙ ap (λ es. es ++ left) (sym put), l.invariant.1)

pub Map::copy-returns : goal.Map::copy-returns
Map::copy-returns t c =
    sym (c.loop-key.invariant.0 ∙
    ap (λ es. entries_view c.loop-key.pairs.entries ++ entries_view es)
    c.in-None.ensures.steps.0 ∙ append-nil (entries_view c.loop-key.pairs.entries))
