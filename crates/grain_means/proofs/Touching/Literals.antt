-- Roots through literals, pointers that are made of names, and texts that are made of segments.
use Rattle.std.proofs.Common.{◌≡◌, ◌+◌, ◌++◌, ℕ, List, [], ◌∷◌, Option, Some, None, length}
use Rattle.std.specs.Prelude.{codes}
use Rattle.grain_value.specs.Cells.{flat}
use Rattle.grain_value.specs.Looking.{map_of, text_of}
use Rattle.grain_value.specs.Maps.{Entries}
use Rattle.grain_value.specs.Operands.{arguments, below, read_write, top, under}
use Rattle.grain_value.specs.Pointers.{is_pointer_name}
use Rattle.grain_value.specs.Sizes.{Sizes, is_over, limits_sizes, plain_sizes, plus, too_large}
use Rattle.grain_value.specs.Writing.{kind_of, plain, type_name_of}
use Rattle.grain_value.specs.declared.natives.Native.{Native}
use Rattle.grain_value.specs.declared.values.Dynamic.TheVariants as dynamic
use Rattle.grain_value.specs.declared.values.Dynamic.{Dynamic}
use Rattle.grain_value.specs.declared.values.Held.{Held}
use Rattle.grain_fault.specs.Classes.{catchable}
use Rattle.grain_fault.specs.Problems.{Problem, Plain}
use Rattle.grain_fault.specs.Problems as problem
use Rattle.grain_fault.specs.declared.faults.MalformedKind.TheVariants as kind
use Rattle.grain_host.specs.Law.{native_of}
use Rattle.grain_means.specs.Rules as rules
use Rattle.grain_means.specs.Rules.{KeyIs, Pairs, PairsAre, PairsLent, grown, innermost_total, operand_under, outer_totals, pairs_of, race_text, shown, sizes_so_far, stepped, to_string, totals_ended, totals_opened, trees_in, with_totals}
use Rattle.grain_means.specs.Worlds.{Act, Frame, Place, Setup, Total, World}
use Rattle.grain_means.proofs.Footing.{by_test}
use Rattle.grain_means.proofs.Touching.Frames.{At, Stays, asks, marks, onward, pushes, raises, reads, reads_all}

module _ {S : Type 0} (m : Setup S) (t : Option Place) (old : List Held) (f : Frame)
    (is : f.this ≡ t) where
  abbrev Here : World S → Type 0
  Here w = At m t old w

  abbrev Keeps : Act S → Type 0
  Keeps act = Stays m t old act

  refuses : (x : Problem) (w : World S) → Here w → Keeps (rules.raised m f x w)
  refuses x w at = raises m t old f is x w at

  -- a literal is made
  makes : (count : ℕ) (v : Dynamic) (ops : List Held) (next : ℕ) (w : World S) → Here w →
      Keeps (rules.literal_made m count v ops next f w)
  makes count v ops next w at =
      onward m t old f is
      (with_totals (totals_ended count f.totals) (stepped f next (ops ++ read_write v ∷ []))) is w at

  pub makes_array : (k next : ℕ) (w : World S) → Here w → Keeps (rules.make_array m k next f w)
  makes_array k next w at =
      reads_all m t old f is (arguments k f.operands) w at
      (λ hs. rules.literal_made m k (dynamic.Array (trees_in hs)) (under k f.operands) next f w)
      (λ hs. makes k (dynamic.Array (trees_in hs)) (under k f.operands) next w at)

  by_pairs : (ps : Pairs) (k next : ℕ) (w : World S) → Here w →
      Keeps (rules.map_made m ps k next f w)
  by_pairs (PairsAre es) k next w at =
      makes k (dynamic.Map es) (under (k + k + 1) f.operands) next w at
  by_pairs (KeyIs v) k next w at =
      refuses (Plain (problem.Malformed (kind.KeyNotText (type_name_of v))) (rules.position m f)) w at
  by_pairs PairsLent k next w at =
      refuses (Plain (problem.DataRace (race_text [])) (rules.position m f)) w at

  by_template : (o : Option Entries) (v : Dynamic) (k next : ℕ) (w : World S) → Here w →
      Keeps (rules.template_read m o v k next f w)
  by_template None v k next w at =
      refuses (Plain (problem.Malformed (kind.TemplateNotMap (type_name_of v))) (rules.position m f)) w
      at
  by_template (Some es) v k next w at =
      by_pairs (pairs_of w.cells (arguments (k + k) f.operands) es) k next w at

  pub makes_map : (k next : ℕ) (w : World S) → Here w → Keeps (rules.make_map m k next f w)
  makes_map k next w at =
      reads m t old f is (operand_under (k + k) f.operands) [] w at
      (λ v. rules.template_read m (map_of v) v k next f w)
      (λ v. by_template (map_of v) v k next w at)

  -- a size is checked
  totals : (ts : List Total) (next : ℕ) (w : World S) → Here w →
      Keeps (rules.onward m f (with_totals ts (stepped f next f.operands)) w)
  totals ts next w at = onward m t old f is (with_totals ts (stepped f next f.operands)) is w at

  by_limit : (o : Option (List ℕ)) (g : Total) (ts : List Total) (next : ℕ) (w : World S) → Here w →
      Keeps (rules.limited m o g ts next f w)
  by_limit None g ts next w at = totals (g ∷ ts) next w at
  by_limit (Some what) g ts next w at =
      refuses (Plain (problem.DataTooLarge what) (rules.position m f)) w at

  by_total : (one : Sizes) (o : Option Total) (ts : List Total) (index next : ℕ) (w : World S) →
      Here w → Keeps (rules.counted_in m one o ts index next f w)
  by_total one None ts index next w at =
      refuses (Plain (problem.Malformed (kind.MissingTotal index)) (rules.position m f)) w at
  by_total one (Some g) ts index next w at =
      reads m t old f is (top f.operands) [] w at
      (λ v. rules.measured m (grown (plus one (plain_sizes v)) g) ts next f w)
      (λ v. let more = grown (plus one (plain_sizes v)) g in
      by_limit (too_large m.engine.limits (sizes_so_far more)) more ts next w at)

  pub checks_size : (one : Sizes) (index next : ℕ) (w : World S) → Here w →
      Keeps (rules.check_size m one index next f w)
  checks_size one index next w at =
      let ts = totals_opened index f.totals in
      by_test Keeps (limits_sizes m.engine.limits)
      (rules.counted_in m one (innermost_total ts) (outer_totals ts) index next f w)
      (rules.onward m f (with_totals ts (stepped f next f.operands)) w)
      (λ some. by_total one (innermost_total ts) (outer_totals ts) index next w at)
      (λ none. totals ts next w at)

  -- a pointer is made
  by_name : (o : Option (List ℕ)) (v : Dynamic) (next : ℕ) (w : World S) → Here w →
      Keeps (rules.pointer_named m o v next f w)
  by_name None v next w at =
      refuses (Plain (problem.MismatchDataType (codes "string") (type_name_of v)) (rules.position m f))
      w at
  by_name (Some s) v next w at =
      by_test Keeps (is_pointer_name s)
      (rules.pushed m f next (below f.operands) (dynamic.Pointer (record { name = s; curry = [] })) w)
      (rules.raised m f (Plain (problem.FunctionNotFound s) (rules.position m f)) w)
      (λ good. pushes m t old f is next (below f.operands)
      (dynamic.Pointer (record { name = s; curry = [] })) w at)
      (λ bad. refuses (Plain (problem.FunctionNotFound s) (rules.position m f)) w at)

  pub makes_pointer : (next : ℕ) (w : World S) → Here w → Keeps (rules.make_fn_ptr m next f w)
  makes_pointer next w at =
      reads m t old f is (top f.operands) [] w at
      (λ v. rules.pointer_named m (text_of v) v next f w)
      (λ v. by_name (text_of v) v next w at)

  -- a segment is appended
  no_buffer : (v : Dynamic) (w : World S) → Here w → Keeps (rules.not_a_buffer m v f w)
  no_buffer v w at =
      refuses (Plain (problem.Malformed (kind.BufferNotText (type_name_of v))) (rules.position m f)) w at

  puts_behind : (o : Option (List ℕ)) (v : Dynamic) (s : List ℕ) (next : ℕ) (w : World S) → Here w →
      Keeps (rules.put_behind m o v s next f w)
  puts_behind None v s next w at = no_buffer v w at
  puts_behind (Some b) v s next w at =
      let x = Plain (problem.DataTooLarge (codes "Length of string")) (rules.position m f) in
      by_test Keeps (is_over m.engine.limits.text (length b + length s)) (rules.raised m f x w)
      (rules.pushed m f next (under 2 f.operands) (dynamic.Text (b ++ s)) w)
      (λ over. refuses x w at)
      (λ fits. pushes m t old f is next (under 2 f.operands) (dynamic.Text (b ++ s)) w at)

  appends : (s : List ℕ) (next : ℕ) (w : World S) → Here w → Keeps (rules.appended m s next f w)
  appends s next w at =
      reads m t old f is (operand_under 1 f.operands) [] w at
      (λ v. rules.put_behind m (text_of v) v s next f w)
      (λ v. puts_behind (text_of v) v s next w at)

  appends_type : (s : List ℕ) (next : ℕ) (w : World S) → Here w →
      Keeps (rules.type_appended m s next f w)
  appends_type s next w at =
      marks m t old f w (λ w1. rules.appended m s next f (record w1 { trace = [] })) at
      (appends s next (record w { passed = w.passed + 1; trace = [] }) at)

  appends_answer : (o : Option Dynamic) (s : List ℕ) (next : ℕ) (w : World S) → Here w →
      Keeps (rules.answer_appended m o s next f w)
  appends_answer None s next w at = appends_type s next w at
  appends_answer (Some r) s next w at = appends (shown r) next w at

  by_native : (o : Option Native) (v : Dynamic) (h : Held) (next : ℕ) (w : World S) → Here w →
      Keeps (rules.showing m o v h next f w)
  by_native None v h next w at = appends (plain v) next w at
  by_native (Some q) v h next w at =
      asks m t old f is None tt
      (λ r w1. rules.answer_appended m (flat w1.cells r) (type_name_of v) next f w1)
      (rules.showing_failed m (type_name_of v) next f)
      (λ r w1 there. appends_answer (flat w1.cells r) (type_name_of v) next w1 there)
      (λ x w1 there. by_test Keeps (catchable x) (rules.type_appended m (type_name_of v) next f w1)
      (rules.raised m f x w1) (λ may. appends_type (type_name_of v) next w1 there)
      (λ not. refuses x w1 there))
      to_string (h ∷ []) w at

  by_segment : (o : Option (List ℕ)) (v : Dynamic) (h : Held) (next : ℕ) (w : World S) → Here w →
      Keeps (rules.segment_read m o v h next f w)
  by_segment (Some s) v h next w at = appends s next w at
  by_segment None v h next w at =
      by_native (native_of m.law w.host to_string (kind_of h.value ∷ [])) v h next w at

  pub appends_segment : (next : ℕ) (w : World S) → Here w →
      Keeps (rules.interpolate_append m next f w)
  appends_segment next w at =
      reads m t old f is (top f.operands) [] w at
      (λ v. rules.segment_read m (text_of v) v (record (top f.operands) { value = v }) next f w)
      (λ v. by_segment (text_of v) v (record (top f.operands) { value = v }) next w at)

  by_buffer : (o : Option (List ℕ)) (v : Dynamic) (next : ℕ) (w : World S) → Here w →
      Keeps (rules.buffer_ended m o v next f w)
  by_buffer None v next w at = no_buffer v w at
  by_buffer (Some s) v next w at = pushes m t old f is next (below f.operands) (dynamic.Text s) w at

  pub ends_buffer : (next : ℕ) (w : World S) → Here w → Keeps (rules.interpolate_end m next f w)
  ends_buffer next w at =
      reads m t old f is (top f.operands) [] w at
      (λ v. rules.buffer_ended m (text_of v) v next f w)
      (λ v. by_buffer (text_of v) v next w at)
