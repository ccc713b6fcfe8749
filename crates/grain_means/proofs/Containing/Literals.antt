-- Literals, and pointers that are made of names, keep to the store.
use Rattle.std.proofs.Common.{◌≡◌, ◌≤◌, ◌+◌, ◌++◌, ℕ, List, [], ◌∷◌, Option, Some, None, Bool, refl, subst, arith}
use Rattle.std.specs.List.{AllByRecursion}
use Rattle.std.specs.Prelude.{codes}
use Rattle.grain_value.specs.Cells.{flat}
use Rattle.grain_value.specs.Looking.{map_of, text_of}
use Rattle.grain_value.specs.Maps.{Entries, put_entry}
use Rattle.grain_value.specs.Operands.{arguments, below, read_write, top, under}
use Rattle.grain_value.specs.Pointers.{is_pointer_name}
use Rattle.grain_value.specs.Sizes.{Sizes, limits_sizes, plain_sizes, plus, too_large}
use Rattle.grain_value.specs.Tree.{dict, pack, pack_fields}
use Rattle.grain_value.specs.View.{tree}
use Rattle.grain_value.specs.Writing.{type_name_of}
use Rattle.grain_value.specs.declared.stores.Cell.{Cell}
use Rattle.grain_value.specs.declared.values.Dynamic.{Dynamic}
use Rattle.grain_value.specs.declared.values.Dynamic.TheVariants as dynamic
use Rattle.grain_value.specs.declared.values.Held.{Held}
use Rattle.grain_fault.specs.Problems.{Plain}
use Rattle.grain_fault.specs.Problems as problem
use Rattle.grain_fault.specs.declared.faults.MalformedKind.TheVariants as kind
use Rattle.grain_means.specs.Contained.{HeldNames, Names}
use Rattle.grain_means.specs.Rules as rules
use Rattle.grain_means.specs.Rules.{KeyIs, Pairs, PairsAre, PairsLent, grown, innermost_total, operand_under, outer_totals, pair_read, key_read, pairs_of, race_text, sizes_so_far, stepped, totals_ended, totals_opened, trees_in, with_totals}
use Rattle.grain_means.specs.Worlds.{Frame, Setup, Total, World}
use Rattle.grain_means.proofs.Footing.{by_test}
use Rattle.grain_means.proofs.Inside.{TreeNames, entry_put, item_of, more_items}
use Rattle.grain_means.proofs.Naming.{CellHolds, Stands, arguments_name, flat_names, pushed_names, top_names, under_names}
use Rattle.grain_means.proofs.Containing.Parts.{FrameNames, Operands}
use Rattle.grain_means.proofs.Containing.Frames.{Grounds, reads_all}
use Rattle.grain_means.proofs.Containing.Steps.{Stays, Here, going_on, last, less, pushing, raising, reading}

module _ (clean : Bool) (n : ℕ) where
  -- an array names what its elements name, which are no cells
  array_names : (hs : List Held) → AllByRecursion (Stands clean n) hs →
      Names clean n (dynamic.Array (trees_in hs))
  array_names [] h = (omega arith, λ s. refl)
  array_names (x ∷ hs) h =
      more_items clean n (tree x.value) (pack (trees_in hs)) (item_of clean n x h.0)
      (array_names hs h.1)

  -- pairs name what their map names
  map_names : (v : Dynamic) (es : Entries) → Names clean n v → map_of v ≡ Some es →
      TreeNames clean n (dict (pack_fields es))
  map_names (dynamic.Map fs) es named is =
      let same : fs ≡ es = cc in
      subst (λ (x : Entries). TreeNames clean n (dict (pack_fields x))) same named
  map_names dynamic.Unit es named is = absurd cc
  map_names (dynamic.Bool b) es named is = absurd cc
  map_names (dynamic.Int i) es named is = absurd cc
  map_names (dynamic.Char c) es named is = absurd cc
  map_names (dynamic.Text t) es named is = absurd cc
  map_names (dynamic.Array ts) es named is = absurd cc
  map_names (dynamic.Blob b) es named is = absurd cc
  map_names (dynamic.Pointer p) es named is = absurd cc
  map_names (dynamic.Range from to inclusive) es named is = absurd cc
  map_names (dynamic.Foreign kind number) es named is = absurd cc
  map_names (dynamic.Cell number) es named is = absurd cc

  -- what pairs come to
  abbrev PairsName : Pairs → Type 0
  PairsName (PairsAre es) = TreeNames clean n (dict (pack_fields es))
  PairsName (KeyIs k) = Unit {0}
  PairsName PairsLent = Unit {0}

  pair_names : (go : List ℕ → Dynamic → Pairs) (k v : Option Dynamic) →
      ((s : List ℕ) (u : Dynamic) → v ≡ Some u → PairsName (go s u)) → PairsName (pair_read k v go)
  pair_names go None v later = tt
  pair_names go (Some a) v later = by_key (text_of a) v later where
    by_key : (t : Option (List ℕ)) (v : Option Dynamic) →
        ((s : List ℕ) (u : Dynamic) → v ≡ Some u → PairsName (go s u)) →
        PairsName (key_read t a v go)
    by_key None v later = tt
    by_key (Some s) None later = tt
    by_key (Some s) (Some u) later = later s u refl

  pairs_name : (cells : List Cell) (hs : List Held) (es : Entries) →
      AllByRecursion (CellHolds clean n) cells → AllByRecursion (HeldNames clean n) hs →
      TreeNames clean n (dict (pack_fields es)) → PairsName (pairs_of cells hs es)
  pairs_name cells [] es all names h = h
  pairs_name cells (k ∷ []) es all names h = h
  pairs_name cells (k ∷ v ∷ hs) es all names h =
      pair_names (λ s u. pairs_of cells hs (put_entry s (tree u) es)) (flat cells k.value)
      (flat cells v.value)
      (λ s u read. let read_so = flat_names clean n cells v.value u all names.1.0 read in
      pairs_name cells hs (put_entry s (tree u) es) all names.1.1
      (entry_put clean n s (tree u) es h
      (item_of clean n (record v { value = u }) (read_so.0, λ s. read_so.1))))

module _ {S : Type 0} {m : Setup S} (on : Grounds m) where
  open on use {clean, least}

  module _ (n : ℕ) (low : least ≤ n) (f : Frame) (names : FrameNames clean n f) where
    -- what stands under the last operands
    pub beneath : (k : ℕ) → HeldNames clean n (operand_under k f.operands)
    beneath k = top_names clean n (under k f.operands) (under_names clean n k f.operands names.0)

    -- a literal is made
    makes : (count : ℕ) (v : Dynamic) (ops : List Held) (next : ℕ) (w : World S) →
        Here on n low f names w → Operands clean n ops → Names clean n v →
        Stays on n low f names (rules.literal_made m count v ops next f w)
    makes count v ops next w at held value =
        going_on on n low f names
        (with_totals (totals_ended count f.totals) (stepped f next (ops ++ read_write v ∷ []))) w at
        (pushed_names clean n ops (read_write v) held value, names.1)

    pub makes_array : (k next : ℕ) (w : World S) → Here on n low f names w →
        Stays on n low f names (rules.make_array m k next f w)
    makes_array k next w at =
        reads_all on n low f names (arguments k f.operands) w at
        (arguments_name clean n k f.operands names.0)
        (λ hs. rules.literal_made m k (dynamic.Array (trees_in hs)) (under k f.operands) next f w)
        (λ hs given. makes k (dynamic.Array (trees_in hs)) (under k f.operands) next w at
        (under_names clean n k f.operands names.0) (array_names clean n hs given))

    by_pairs : (ps : Pairs) → PairsName clean n ps → (k next : ℕ) (w : World S) →
        Here on n low f names w → Stays on n low f names (rules.map_made m ps k next f w)
    by_pairs (PairsAre es) given k next w at =
        makes k (dynamic.Map es) (under (k + k + 1) f.operands) next w at
        (under_names clean n (k + k + 1) f.operands names.0) given
    by_pairs (KeyIs v) given k next w at =
        raising on n low f names
        (Plain (problem.Malformed (kind.KeyNotText (type_name_of v))) (rules.position m f)) w at
        (omega arith, λ s. refl)
    by_pairs PairsLent given k next w at =
        raising on n low f names (Plain (problem.DataRace (race_text [])) (rules.position m f)) w at
        (omega arith, λ s. refl)

    by_template : (o : Option Entries) (v : Dynamic) →
        ((es : Entries) → o ≡ Some es → TreeNames clean n (dict (pack_fields es))) →
        (k next : ℕ) (w : World S) → Here on n low f names w →
        Stays on n low f names (rules.template_read m o v k next f w)
    by_template None v given k next w at =
        raising on n low f names
        (Plain (problem.Malformed (kind.TemplateNotMap (type_name_of v))) (rules.position m f)) w at
        (omega arith, λ s. refl)
    by_template (Some es) v given k next w at =
        by_pairs (pairs_of w.cells (arguments (k + k) f.operands) es)
        (pairs_name clean n w.cells (arguments (k + k) f.operands) es at.contents
        (arguments_name clean n (k + k) f.operands names.0) (given es refl)) k next w at

    pub makes_map : (k next : ℕ) (w : World S) → Here on n low f names w →
        Stays on n low f names (rules.make_map m k next f w)
    makes_map k next w at =
        reading on n low f names (operand_under (k + k) f.operands) [] w at (beneath (k + k))
        (λ v. rules.template_read m (map_of v) v k next f w)
        (λ v read plain. by_template (map_of v) v (λ es is. map_names clean n v es read is) k next w at)

    -- a size is checked
    totals : (ts : List Total) (next : ℕ) (w : World S) → Here on n low f names w →
        Stays on n low f names (rules.onward m f (with_totals ts (stepped f next f.operands)) w)
    totals ts next w at =
        going_on on n low f names (with_totals ts (stepped f next f.operands)) w at (names.0, names.1)

    by_limit : (o : Option (List ℕ)) (t : Total) (ts : List Total) (next : ℕ) (w : World S) →
        Here on n low f names w → Stays on n low f names (rules.limited m o t ts next f w)
    by_limit None t ts next w at = totals (t ∷ ts) next w at
    by_limit (Some what) t ts next w at =
        raising on n low f names (Plain (problem.DataTooLarge what) (rules.position m f)) w at
        (omega arith, λ s. refl)

    by_total : (one : Sizes) (o : Option Total) (ts : List Total) (index next : ℕ) (w : World S) →
        Here on n low f names w → Stays on n low f names (rules.counted_in m one o ts index next f w)
    by_total one None ts index next w at =
        raising on n low f names
        (Plain (problem.Malformed (kind.MissingTotal index)) (rules.position m f)) w at
        (omega arith, λ s. refl)
    by_total one (Some t) ts index next w at =
        reading on n low f names (top f.operands) [] w at (last on n low f names)
        (λ v. rules.measured m (grown (plus one (plain_sizes v)) t) ts next f w)
        (λ v read plain. let g = grown (plus one (plain_sizes v)) t in
        by_limit (too_large m.engine.limits (sizes_so_far g)) g ts next w at)

    pub checks_size : (one : Sizes) (index next : ℕ) (w : World S) → Here on n low f names w →
        Stays on n low f names (rules.check_size m one index next f w)
    checks_size one index next w at =
        let ts = totals_opened index f.totals in
        by_test (Stays on n low f names) (limits_sizes m.engine.limits)
        (rules.counted_in m one (innermost_total ts) (outer_totals ts) index next f w)
        (rules.onward m f (with_totals ts (stepped f next f.operands)) w)
        (λ some. by_total one (innermost_total ts) (outer_totals ts) index next w at)
        (λ none. totals ts next w at)

    -- a pointer is made
    by_name : (o : Option (List ℕ)) (v : Dynamic) (next : ℕ) (w : World S) →
        Here on n low f names w → Stays on n low f names (rules.pointer_named m o v next f w)
    by_name None v next w at =
        raising on n low f names
        (Plain (problem.MismatchDataType (codes "string") (type_name_of v)) (rules.position m f)) w at
        (omega arith, λ s. refl)
    by_name (Some s) v next w at =
        by_test (Stays on n low f names) (is_pointer_name s)
        (rules.pushed m f next (below f.operands) (dynamic.Pointer (record { name = s; curry = [] })) w)
        (rules.raised m f (Plain (problem.FunctionNotFound s) (rules.position m f)) w)
        (λ good. pushing on n low f names next (below f.operands)
        (dynamic.Pointer (record { name = s; curry = [] })) w at (less on n low f names)
        (omega arith, λ s. refl))
        (λ bad. raising on n low f names (Plain (problem.FunctionNotFound s) (rules.position m f)) w at
        (omega arith, λ s. refl))

    pub makes_pointer : (next : ℕ) (w : World S) → Here on n low f names w →
        Stays on n low f names (rules.make_fn_ptr m next f w)
    makes_pointer next w at =
        reading on n low f names (top f.operands) [] w at (last on n low f names)
        (λ v. rules.pointer_named m (text_of v) v next f w)
        (λ v read plain. by_name (text_of v) v next w at)
