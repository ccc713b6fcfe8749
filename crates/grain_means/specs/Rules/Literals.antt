-- Literals of arrays and maps, and the totals by which their sizes are limited while they are made.
use Rattle.std.specs.Prelude.{ℕ, ◌+◌, ◌==◌, List, [], ◌∷◌, ◌++◌, Option, Some, None, if◌then◌else◌}
use Rattle.grain_value.specs.Cells.{flat}
use Rattle.grain_value.specs.Looking.{map_of, text_of}
use Rattle.grain_value.specs.Maps.{Entries, put_entry}
use Rattle.grain_value.specs.Operands.{top, under, arguments, read_write}
use Rattle.grain_value.specs.Sizes.{Sizes, limits_sizes, one_element, one_value, plain_sizes, plus, stopped, too_large}
use Rattle.grain_value.specs.View.{tree}
use Rattle.grain_value.specs.Writing.{type_name_of}
use Rattle.grain_value.specs.declared.stores.Cell.{Cell}
use Rattle.grain_value.specs.declared.values.Dynamic.{Dynamic}
use Rattle.grain_value.specs.declared.values.Dynamic.TheVariants as dynamic
use Rattle.grain_value.specs.declared.values.Held.{Held}
use Rattle.grain_fault.specs.Problems.{Plain, DataTooLarge, Malformed}
use Rattle.grain_fault.specs.declared.faults.MalformedKind.TheVariants as kind
use Rattle.grain_means.specs.Worlds.{Frame, Total, World, Act, Setup}
use Rattle.grain_means.specs.Rules.Frames.{stepped}
use Rattle.grain_means.specs.Rules.Faults.{data_race, position, raised}
use Rattle.grain_means.specs.Rules.Going.{onward}
use Rattle.grain_means.specs.Rules.Reads.{flattened, flattened_all}
use Rattle.grain_means.specs.Rules.Natives.{trees_in}
use Rattle.grain_means.specs.Rules.Pointers.{operand_under}

-- the innermost total, if there is one
abbrev pub innermost_total : List Total → Option Total
innermost_total [] = None
innermost_total (t ∷ ts) = Some t

-- the totals around the innermost one
abbrev pub outer_totals : List Total → List Total
outer_totals [] = []
outer_totals (t ∷ ts) = ts

-- a literal that has nothing so far
abbrev pub empty_total : Total
empty_total = record { arrays = 0; maps = 0; text = 0 }

-- the sizes that a literal has so far
abbrev pub sizes_so_far : Total → Sizes
sizes_so_far t = (t.arrays, t.maps, t.text)

-- a literal that has this much more: each number stops at the greatest that a `usize` counts
abbrev pub grown : Sizes → Total → Total
grown s t = record {
  arrays = stopped (t.arrays + s.0);
  maps = stopped (t.maps + s.1);
  text = stopped (t.text + s.2);
}

-- the totals where the element of this number is checked: the first one begins a literal
abbrev pub totals_opened : ℕ → List Total → List Total
totals_opened index ts = if index == 0 then empty_total ∷ ts else ts

-- the totals once a literal of that many elements is made: one with elements is over, if it has a total
abbrev pub totals_ended : ℕ → List Total → List Total
totals_ended count ts = if count == 0 then ts else outer_totals ts

-- a frame with other totals
abbrev pub with_totals : List Total → Frame → Frame
with_totals ts f = record f { totals = ts }

-- what keys and values are as pairs of a map
pub data Pairs : Type 0 where
  -- these are the pairs, together with those that the map had so far
  PairsAre : Entries → Pairs
  -- this key, which comes first, is no text
  KeyIs : Dynamic → Pairs
  -- a cell comes first whose content is lent
  PairsLent : Pairs

-- a pair as it is read, the key first, and then what follows from it
abbrev pub value_read : Option Dynamic → List ℕ → (List ℕ → Dynamic → Pairs) → Pairs
value_read None k go = PairsLent
value_read (Some v) k go = go k v

abbrev pub key_read : Option (List ℕ) → Dynamic → Option Dynamic → (List ℕ → Dynamic → Pairs) → Pairs
key_read None k v go = KeyIs k
key_read (Some s) k v go = value_read v s go

abbrev pub pair_read : Option Dynamic → Option Dynamic → (List ℕ → Dynamic → Pairs) → Pairs
pair_read None v go = PairsLent
pair_read (Some k) v go = key_read (text_of k) k v go

-- keys, each before its value, with those of a map: of a key that stands there twice the last value stays
abbrev pub pairs_of : List Cell → List Held → Entries → Pairs
pairs_of cells [] es = PairsAre es
pairs_of cells (k ∷ []) es = PairsAre es
pairs_of cells (k ∷ v ∷ hs) es =
    pair_read (flat cells k.value) (flat cells v.value)
    (λ s u. pairs_of cells hs (put_entry s (tree u) es))

module _ {S : Type 0} (m : Setup S) where
  -- a literal of that many elements is made, and stands in their place
  abbrev pub literal_made : ℕ → Dynamic → List Held → ℕ → Frame → World S → Act S
  literal_made count v operands next f w =
      onward m f (with_totals (totals_ended count f.totals)
      (stepped f next (operands ++ read_write v ∷ []))) w

  -- the last n operands, each as it is read, as an array
  abbrev pub make_array : ℕ → ℕ → Frame → World S → Act S
  make_array n next f w =
      flattened_all m (arguments n f.operands) f w
      (λ hs. literal_made n (dynamic.Array (trees_in hs)) (under n f.operands) next f w)

  -- a map of these pairs
  abbrev pub map_made : Pairs → ℕ → ℕ → Frame → World S → Act S
  map_made (PairsAre es) n next f w =
      literal_made n (dynamic.Map es) (under (n + n + 1) f.operands) next f w
  map_made (KeyIs k) n next f w =
      raised m f (Plain (Malformed (kind.KeyNotText (type_name_of k))) (position m f)) w
  map_made PairsLent n next f w = data_race m [] f w

  -- the template has these pairs, if it is a map
  abbrev pub template_read : Option Entries → Dynamic → ℕ → ℕ → Frame → World S → Act S
  template_read None v n next f w =
      raised m f (Plain (Malformed (kind.TemplateNotMap (type_name_of v))) (position m f)) w
  template_read (Some es) v n next f w =
      map_made (pairs_of w.cells (arguments (n + n) f.operands) es) n next f w

  -- the map under the last n pairs of a key and a value, with these pairs
  abbrev pub make_map : ℕ → ℕ → Frame → World S → Act S
  make_map n next f w =
      flattened m (operand_under (n + n) f.operands) [] f w
      (λ v. template_read (map_of v) v n next f w)

  -- a literal has so much now, and those around it are these: if that is not too much
  abbrev pub limited : Option (List ℕ) → Total → List Total → ℕ → Frame → World S → Act S
  limited None t ts next f w =
      onward m f (with_totals (t ∷ ts) (stepped f next f.operands)) w
  limited (Some what) t ts next f w = raised m f (Plain (DataTooLarge what) (position m f)) w

  abbrev pub measured : Total → List Total → ℕ → Frame → World S → Act S
  measured t ts next f w =
      limited (too_large m.engine.limits (sizes_so_far t)) t ts next f w

  -- The last operand, as it is read, is an element of the literal of this total, if there is one. The
  -- element itself counts as `one`, and the totals around are these.
  abbrev pub counted_in : Sizes → Option Total → List Total → ℕ → ℕ → Frame → World S → Act S
  counted_in one None ts index next f w =
      raised m f (Plain (Malformed (kind.MissingTotal index)) (position m f)) w
  counted_in one (Some t) ts index next f w =
      flattened m (top f.operands) [] f w
      (λ v. measured (grown (plus one (plain_sizes v)) t) ts next f w)

  -- The last operand is the element of this number of a literal. Without a limit of sizes nothing is
  -- counted.
  abbrev pub check_size : Sizes → ℕ → ℕ → Frame → World S → Act S
  check_size one index next f w =
      let ts = totals_opened index f.totals in
      if limits_sizes m.engine.limits
      then counted_in one (innermost_total ts) (outer_totals ts) index next f w
      else onward m f (with_totals ts (stepped f next f.operands)) w

  abbrev pub check_array_size : ℕ → ℕ → Frame → World S → Act S
  check_array_size index next f w = check_size one_element index next f w

  abbrev pub check_map_size : ℕ → ℕ → Frame → World S → Act S
  check_map_size index next f w = check_size one_value index next f w
