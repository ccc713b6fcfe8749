-- What is written so far and what is left are the whole text.
use Rattle.std.proofs.Common.{[], drop}
use Rattle.std.specs.Fmt.{IsPlainFormatter}
use denote.Text.{Utf8}
use denote.Shadow.{shadow}
use Rattle.grain_value.specs.Tree.{pack, pack_fields}
use Rattle.grain_value.specs.View.{trees, entries_view}
use Rattle.grain_value.specs.Writing.{items_text, fields_text}
use Rattle.grain_value.proofs.PartWritten.{PartWritten}
use Rattle.grain_value.proofs.values.writing.+write.Given as goal

abbrev pub decreases-write_items : goal.decreases-write_items
decreases-write_items g l = goal.size-write_items g l

abbrev pub decreases-write_pairs : goal.decreases-write_pairs
decreases-write_pairs g l = goal.size-write_pairs g l

abbrev pub decreases-write_value : goal.decreases-write_value
decreases-write_value g l = goal.size-write_value g l

abbrev pub invariant-write_items-loop-value : goal.invariant-write_items-loop-value
invariant-write_items-loop-value g l = shadow (Utf8 l.lead) × (IsPlainFormatter l.initial.f →
    PartWritten g.W.Write.write_str_gives l.initial.f
    (items_text l.initial.lead (pack (trees l.value-items)))
    (items_text l.lead (pack (trees (drop l.value-index l.value-items)))) l.f)

abbrev pub invariant-write_pairs-loop-key : goal.invariant-write_pairs-loop-key
invariant-write_pairs-loop-key g l =
    (goal.iterator-write_pairs-loop-key g).can_next l.key-iterator ×
    (goal.iterator-write_pairs-loop-key g).is_finite l.key-iterator ×
    shadow (Utf8 l.lead) × (IsPlainFormatter l.initial.f →
    PartWritten g.W.Write.write_str_gives l.initial.f (fields_text [] (pack_fields l.map))
    (fields_text l.lead (pack_fields (entries_view l.key-iterator))) l.f)
