-- Literals and their totals, as the code has them.
use Rattle.std.specs.Prelude.{◌≡◌, ◌==◌, ℕ, List, [], ◌∷◌, Option, Some, None, if◌then◌else◌, slice_get}
use Rattle.grain_value.specs.Cells.{flat}
use Rattle.grain_value.specs.Maps.{Entries}
use Rattle.grain_value.specs.declared.stores.Cell.{Cell}
use Rattle.grain_value.specs.declared.values.Dynamic.{Dynamic}
use Rattle.grain_value.specs.declared.values.Held.{Held}
use Rattle.grain_stack.specs.Totals.{empty_total}
use Rattle.grain_stack.specs.declared.totals.Total.{Total}
use Rattle.grain_means.specs.Rules.{KeyIs, PairsAre, PairsLent, pairs_of}
use Rattle.grain_frame.specs.declared.literals.Misfit.{Misfit}
use Rattle.grain_frame.specs.declared.literals.Misfit.TheVariants as misfit

-- the totals around the innermost one
abbrev pub around : List Total → List Total
around [] = []
around (t ∷ ts) = ts

-- the totals where the element of this number is checked
abbrev pub opened : ℕ → List Total → List Total
opened index ts = if index == 0 then empty_total ∷ ts else ts

-- the totals once a literal of that many elements is made
abbrev pub ended : ℕ → List Total → List Total
ended count ts = if count == 0 then ts else around ts

-- what keys and values are as pairs of a map, beside these: pairs, or a lent cell, or a key comes first
-- that is no text
abbrev pub PairsRead : List Cell → List Held → Entries → Option Misfit → Type 0
PairsRead cells hs es None = (ds : Entries) × (pairs_of cells hs es ≡ PairsAre ds)
PairsRead cells hs es (Some misfit.Lent) = pairs_of cells hs es ≡ PairsLent
PairsRead cells hs es (Some (misfit.Key i)) = (h : Held) × (k : Dynamic)
    × (slice_get hs i ≡ Some h) × (flat cells h.value ≡ Some k)
    × (pairs_of cells hs es ≡ KeyIs k)
