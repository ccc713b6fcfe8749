use Rattle.std.proofs.Common.{◌≡◌, ◌∷◌, [], ◌∙◌, length, reverse, refl, ap, rules}
use Rattle.std.proofs.lemmas.List.{reverse-append}
use Rattle.grain_stack.specs.Entries.{entries_at}
use Rattle.grain_stack.specs.Floors.{floors, belongings, AreOrdered}
use Rattle.grain_stack.specs.Views.{StacksView}
use Rattle.grain_stack.proofs.Depths.{ordered_down}
use Rattle.grain_stack.proofs.Lists.{joined_operands, take_shorter}
use Rattle.grain_stack.proofs.stacks.Stacks.join_frame.Goals as goal

pub invariant_of-self : goal.invariant_of-self
invariant_of-self c =
    let s = c.self.inside in
    let rest = reverse c.pop-floor.new.self in
    let on : floors s ≡ c.pop-floor.result ∷ rest =
    ap reverse c.pop-floor.ensures.last ∙ reverse-append c.pop-floor.new.self
    (c.pop-floor.result ∷ []) in
    let no_handlers : entries_at (length (floors s)) s.handlers ≡ [] =
    ap (λ (v : StacksView). v.handlers) c.self.view_is ∙ c.requires.bare.handlers in
    let no_cursors : entries_at (length (floors s)) s.cursors ≡ [] =
    ap (λ (v : StacksView). v.cursors) c.self.view_is ∙ c.requires.bare.cursors in
    let no_totals : entries_at (length (floors s)) s.totals ≡ [] =
    ap (λ (v : StacksView). v.totals) c.self.view_is ∙ c.requires.bare.totals in
    let ordered : AreOrdered (length rest) (belongings s) = record {
      handlers =
          ordered_down (length rest) s.handlers (rw on at c.self.invariant.ordered.handlers)
          (rw on at no_handlers);
      cursors =
          ordered_down (length rest) s.cursors (rw on at c.self.invariant.ordered.cursors)
          (rw on at no_cursors);
      totals =
          ordered_down (length rest) s.totals (rw on at c.self.invariant.ordered.totals)
          (rw on at no_totals);
    } in
    record {
      bottom = search rules;
      room = search rules;
      nested = search rules;
      notes = search rules;
      ordered = ordered;
    }

pub returns : goal.returns
returns c =
    let on : floors c.self.inside ≡ c.pop-floor.result ∷ reverse c.pop-floor.new.self =
    ap reverse c.pop-floor.ensures.last ∙ reverse-append c.pop-floor.new.self
    (c.pop-floor.result ∷ []) in
    let nested = rw on at c.self.invariant.nested in
    rw (
      ← c.self.view_is,
      on,
      joined_operands c.pop-floor.result.bottom c.self.inside.bottom
          c.self.inside.slots.operands nested.0,
      take_shorter c.pop-floor.result.bottom c.self.inside.bottom c.self.inside.slots.operands
          nested.0,
    ) refl
