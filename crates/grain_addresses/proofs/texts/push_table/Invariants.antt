use Rattle.std.proofs.Common.{◌≡◌, ◌++◌, drop}
use Rattle.grain_program.specs.View.{view_of}
use Rattle.grain_addresses.specs.Replies.{named_in}
use Rattle.grain_addresses.specs.Texts.{table_text}
use Rattle.grain_addresses.proofs.texts.push_table.Given as goal

abbrev pub invariant-loop-place : goal.invariant-loop-place
invariant-loop-place l =
    l.out ++ table_text (named_in (view_of l.parts)) (drop l.place-index l.places) ≡
    l.initial.out ++ table_text (named_in (view_of l.parts)) l.places
