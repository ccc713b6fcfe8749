-- The entry or its cell is the target, or nothing is assigned.
use Rattle.std.proofs.Common.{◌≡◌, ◌+◌, Some, None, true, false, inl, inr, rules}
use Rattle.std.specs.Prelude.{◌||◌, is_some}
use Rattle.grain_value.specs.Cells.{flat}
use Rattle.grain_value.specs.Looking.{cell_of}
use Rattle.grain_value.specs.Operands.{top}
use Rattle.grain_means.specs.Rules.{flag_of_cell, held_at}
use Rattle.grain_frame.proofs.runs.Run.target_at.Goals as goal

pub returns : goal.returns
returns g c =
    let s = c.args.self.now in
    let held = c.in-Some.held.now in
    let there : held_at s.scope (c.args.frame.now.base + c.args.slot) ≡ Some held = search rules in
    let is_cell : cell_of held.value ≡ c.as_cell-cell.result = search rules in
    let readable : is_some (flat s.cells (top s.stacks.operands).value) ≡ true = search rules in
    let writable : (held.read_only || flag_of_cell (cell_of held.value) s.cells) ≡ false =
    search rules in
    let free : is_some (flat s.cells held.value) ≡ true = search rules in (
      held,
      record {
        there = there;
        found = rw (is_cell, ← c.slot_index-index.ensures) c.of_entry.ensures;
        readable = readable;
        writable = writable;
        free = free;
      },
    )

pub returns-then-not-is_readable : goal.returns-then-not-is_readable
returns-then-not-is_readable g c =
    let s = c.args.self.now in
    let held = c.in-Some.held.now in
    let there : held_at s.scope (c.args.frame.now.base + c.args.slot) ≡ Some held = search rules in
    let none : flat s.cells (top s.stacks.operands).value ≡ None = search rules in
    (held, there, inl none)

pub returns-then-read_only : goal.returns-then-read_only
returns-then-read_only g c =
    let s = c.args.self.now in
    let held = c.in-Some.held.now in
    let there : held_at s.scope (c.args.frame.now.base + c.args.slot) ≡ Some held = search rules in
    let readable : is_some (flat s.cells (top s.stacks.operands).value) ≡ true = search rules in
    let constant : (held.read_only || flag_of_cell (cell_of held.value) s.cells) ≡ true =
    search rules in
    (held, there, (readable, constant))

pub returns-then-not-free : goal.returns-then-not-free
returns-then-not-free g c =
    let s = c.args.self.now in
    let held = c.in-Some.held.now in
    let there : held_at s.scope (c.args.frame.now.base + c.args.slot) ≡ Some held = search rules in
    let readable : is_some (flat s.cells (top s.stacks.operands).value) ≡ true = search rules in
    let writable : (held.read_only || flag_of_cell (cell_of held.value) s.cells) ≡ false =
    search rules in
    let none : flat s.cells held.value ≡ None = search rules in
    (held, there, inr (readable, writable, none))
