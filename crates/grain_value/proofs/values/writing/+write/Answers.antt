-- One value more, or one key with its value, is written.
use Rattle.std.proofs.Common.{◌≡◌, ◌∙◌, ◌<◌, ◌+◌, ◌++◌, ℕ, List, [], ◌∷◌, suc, length, get_or, codes, drop, refl, sym, ap, subst, arith, rules}
use Rattle.std.specs.Fmt.{HasWritten}
use Rattle.std.specs.declared.fmt.Formatter.{Formatter}
use Rattle.std.proofs.Math.Seq.{drop-cons}
use Rattle.std.proofs.Output.{has_written_append, has_written_of_eq}
use Rattle.grain_value.specs.Tree.{Tree, pack, pack_fields}
use Rattle.grain_value.specs.View.{tree, trees, entries_view}
use Rattle.grain_value.specs.Quoting.{quoted_text}
use Rattle.grain_value.specs.Writing.{quoted, items_text, fields_text}
use Rattle.grain_value.specs.declared.values.Dynamic.{Dynamic}
use Rattle.grain_value.proofs.PartWritten.{PartWritten, none_written, more_written}
use Rattle.grain_value.proofs.values.writing.+write.Goals as goal

pub write_items-loop-value-init : goal.write_items-loop-value-init
write_items-loop-value-init g t c = (c.requires.0.1.0, λ plain. none_written _ _ _ plain)

-- one value more
value_written : {W : Type 0} (took : W → List ℕ → W → Type 0) (f g h : Formatter W)
    (whole lead : List ℕ) (items : List Dynamic) (i : ℕ) (value : Dynamic) → i < length items →
    get_or items i value ≡ value →
    PartWritten took f whole (items_text lead (pack (trees (drop i items)))) g →
    HasWritten took g (lead ++ quoted value) h →
    PartWritten took f whole (items_text (codes ", ") (pack (trees (drop (i + 1) items)))) h
value_written took f g h whole lead items i value there is p w =
    let P : List ℕ → Type 0 = λ rest. PartWritten took f whole rest g in
    let tail = items_text (codes ", ") (pack (trees (drop (i + 1) items))) in
    let next : i + 1 ≡ suc i = omega arith in
    let at : drop i items ≡ value ∷ drop (i + 1) items =
    drop-cons items i value there ∙ rw (is, next) refl in
    let split : items_text lead (pack (trees (drop i items))) ≡ (lead ++ quoted value) ++ tail =
    ap (λ (l : List Dynamic). items_text lead (pack (trees l))) at in
    more_written took f whole (lead ++ quoted value) tail g h (subst P split p) w

pub write_items-loop-value-preserved : goal.write_items-loop-value-preserved
unfolding lib.Utf8.encode
write_items-loop-value-preserved g t c = (
  (44 ∷ 32 ∷ [], (refl, refl)),
  λ plain.
      let l = c.loop-value in
      let before = l.invariant.1 plain in
      let lead = c.in_ok-write_str.ensures.writes before.wrote.plain cc in
      let value = c.in_ok-write_value.ensures lead.plain cc in
      value_written g.W.Write.write_str_gives c.args.f.now l.f c.write_value.new.f
      (items_text c.args.lead.now (pack (trees c.deref-value-items.result.now))) l.lead.now
      c.deref-value-items.result.now l.value-index c.value-item.result
      (omega (arith, c.loop-value-test.true)) (search rules) before
      (has_written_append g.W.Write.write_str_gives l.f l.lead.now c.write_str.new.self
      (quoted c.value-item.result) c.write_value.new.f lead value),
)

-- one key with its value more
pair_written : {W : Type 0} (took : W → List ℕ → W → Type 0) (f g h : Formatter W)
    (whole lead : List ℕ) (key : List ℕ) (value : Dynamic)
    (left : List (List ℕ × Tree)) →
    PartWritten took f whole (fields_text lead (pack_fields ((key, tree value) ∷ left))) g →
    HasWritten took g (lead ++ quoted_text key ++ codes ": " ++ quoted value) h →
    PartWritten took f whole (fields_text (codes ", ") (pack_fields left)) h
pair_written took f g h whole lead key value left p w =
    let piece = lead ++ quoted_text key ++ codes ": " ++ quoted value in
    more_written took f whole piece (fields_text (codes ", ") (pack_fields left)) g h p w

pub write_pairs-loop-key-init : goal.write_pairs-loop-key-init
write_pairs-loop-key-init g t c = (
  tt,
  tt,
  ([], (refl, refl)),
  λ plain.
      let took = g.W.Write.write_str_gives in
      let gives =
      c.into_iter-key-iterator.ensures.into_iter_gives ∙ c.iter-key-items.ensures.rest in
      let whole = fields_text [] (pack_fields c.args.map.now) in
      let P : List (List ℕ × Tree) → Type 0 =
      λ rest. PartWritten took c.args.f.now whole (fields_text [] (pack_fields rest)) c.args.f.now
      in
      subst P (sym c.map.view_is ∙ ap entries_view (sym gives)) (none_written _ _ _ plain),
)

pub write_pairs-loop-key-preserved : goal.write_pairs-loop-key-preserved
unfolding lib.Utf8.encode
write_pairs-loop-key-preserved g t c = (
  tt,
  tt,
  (44 ∷ 32 ∷ [], (refl, refl)),
  λ plain.
      let took = g.W.Write.write_str_gives in
      let l = c.loop-key in
      let key : List ℕ = c.as_str.result.now in
      let value = c.in-Some.value.now in
      let left : List (List ℕ × Tree) = entries_view c.next.new.self in
      let whole = fields_text [] (pack_fields c.args.map.now) in
      let P : List (List ℕ × Tree) → Type 0 =
      λ rest. PartWritten took c.args.f.now whole (fields_text l.lead.now (pack_fields rest)) l.f in
      let before = l.invariant.3 plain in
      let named = c.in_ok-write_key.ensures before.wrote.plain cc in
      let written = c.in_ok-write_value.ensures named.plain cc in
      pair_written took c.args.f.now l.f c.write_value.new.f whole l.lead.now key value left
      (subst P (ap entries_view c.in-Some.ensures.steps
      ∙ ap (λ (k : List ℕ). (k, tree value) ∷ left) (sym c.as_str.ensures.value)) before)
      (has_written_append took l.f (l.lead.now ++ quoted_text key ++ codes ": ")
      c.write_key.new.f (quoted value) c.write_value.new.f named written),
)

pub write_value-returns-in_ok-write_items-in-Array :
    goal.write_value-returns-in_ok-write_items-in-Array
write_value-returns-in_ok-write_items-in-Array g t c = λ plain ok.
    let begun = c.in_ok-write_str-in-Array.ensures.writes plain cc in
    let items = c.in_ok-write_items-in-Array.ensures begun.plain cc in
    let ended = c.write_str-in-Array-2.ensures.writes items.plain ok in
    has_written_of_eq _ _ _ _ _ (ap quoted (sym c.in-Array.is)) (has_written_append _ _ _ _ _ _
    (has_written_append _ _ _ _ _ _ begun items) ended)

pub write_value-returns-in_ok-write_pairs-in-Map :
    goal.write_value-returns-in_ok-write_pairs-in-Map
write_value-returns-in_ok-write_pairs-in-Map g t c = λ plain ok.
    let begun = c.in_ok-write_str-in-Map.ensures.writes plain cc in
    let pairs = c.in_ok-write_pairs-in-Map.ensures begun.plain cc in
    let ended = c.write_str-in-Map-2.ensures.writes pairs.plain ok in
    has_written_of_eq _ _ _ _ _ (ap quoted (sym c.in-Map.is)) (has_written_append _ _ _ _ _ _
    (has_written_append _ _ _ _ _ _ begun pairs) ended)

pub write_value-returns-in_ok-write_items-in-Pointer :
    goal.write_value-returns-in_ok-write_items-in-Pointer
write_value-returns-in_ok-write_items-in-Pointer g t c = λ plain ok.
    let begun = c.in_ok-write_str-in-Pointer.ensures.writes plain cc in
    let name = c.in_ok-write_quoted-in-Pointer.ensures begun.plain cc in
    let items = c.in_ok-write_items-in-Pointer.ensures name.plain cc in
    let ended = c.write_str-in-Pointer-2.ensures.writes items.plain ok in
    let curry = items_text (codes ", ") (pack c.in-Pointer.pointer.curry) in
    let all : codes "fn(" ++ quoted_text c.as_str-in-Pointer.result.now ++ curry ++ codes ")" ≡
    quoted c.args.value.now =
    ap (λ (n : List ℕ). codes "fn(" ++ quoted_text n ++ curry ++ codes ")")
    c.as_str-in-Pointer.ensures ∙ ap quoted (sym c.in-Pointer.is) in
    has_written_of_eq _ _ _ _ _ all (has_written_append _ _ _ _ _ _ (has_written_append _ _ _ _ _ _
    (has_written_append _ _ _ _ _ _ begun name) items) ended)
