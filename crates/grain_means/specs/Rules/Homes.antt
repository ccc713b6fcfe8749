-- Where a value is held that is lent or written.
pub use Rattle.grain_means.specs.Worlds.{Home, InScope, InCell, AtPlace}
use Rattle.std.specs.Prelude.{ℕ, slice_get, slice_set, List, Option, Some, None}
use Rattle.grain_value.specs.Cells.{idle, lent, standing}
use Rattle.grain_value.specs.Scopes.{set_held}
use Rattle.grain_value.specs.declared.scopes.Entry.{Entry}
use Rattle.grain_value.specs.declared.stores.Cell.{Cell}
use Rattle.grain_value.specs.declared.values.Dynamic.{Dynamic}
use Rattle.grain_value.specs.declared.values.Held.{Held}
use Rattle.grain_means.specs.Worlds.{Place, Home, InScope, InCell, AtPlace, World}
use Rattle.grain_means.specs.Places.{look, put}
use Rattle.grain_means.specs.Rules.Frames.{held_at, held_or}

-- in the entry at an index, or, if the entry is a cell, in that cell
abbrev pub in_entry : ℕ → Option ℕ → Home
in_entry i None = InScope i
in_entry i (Some n) = InCell n

-- at a place, or, if a cell stands there, in that cell
abbrev pub at_place_of : Place → Option ℕ → Home
at_place_of p None = AtPlace p
at_place_of p (Some n) = InCell n

-- the scope, the cells and the roots after this was put back where it was held
abbrev pub back_in_scope : Home → Held → List Entry → List Entry
back_in_scope (InScope i) h scope = set_held scope i h
back_in_scope (InCell n) h scope = scope
back_in_scope (AtPlace p) h scope = scope

abbrev pub back_in_cells : Home → Held → List Cell → List Cell
back_in_cells (InScope i) h cells = cells
back_in_cells (InCell n) h cells = slice_set cells n (idle h)
back_in_cells (AtPlace p) h cells = cells

abbrev pub back_in_roots : Home → Held → List Held → List Held
back_in_roots (InScope i) h roots = roots
back_in_roots (InCell n) h roots = roots
back_in_roots (AtPlace p) h roots = put roots p h.value

-- the cells while a native has what is held in one of them
abbrev pub lent_in_cells : Home → Held → List Cell → List Cell
lent_in_cells (InScope i) h cells = cells
lent_in_cells (InCell n) h cells = slice_set cells n (lent h)
lent_in_cells (AtPlace p) h cells = cells

-- the value that is now where this was held
abbrev pub content_at : Home → Held → List Entry → List Cell → List Held → Dynamic
content_at (InScope i) h scope cells roots = (held_or h (held_at scope i)).value
content_at (InCell n) h scope cells roots = standing (slice_get cells n)
content_at (AtPlace p) h scope cells roots = (look roots p).value

abbrev pub content_now : {S : Type 0} → Home → Held → World S → Dynamic
content_now a h w = content_at a h w.scope w.cells w.roots
