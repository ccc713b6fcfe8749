-- The map of labels beside the list that it is seen as.
use Rattle.std.proofs.Common.{◌≡◌, ℕ, List, [], ◌∷◌, Some, String, Global, Ordering, Less, Equal, Greater, string_bytes, string_cmp, nat_cmp, is_eq, cond, refl, ap, ◌∙◌}
use Rattle.std.specs.Cmp.Lexicographic.{slice_cmp}
use Rattle.std.specs.Map.{lookup}
use Rattle.std.specs.Ordering.{match_ordering}
use Rattle.std.specs.BTreeMap.{insert_entry, is_at}
use Rattle.grain_words.specs.LabelView.{label_view, labels_view}
use Rattle.grain_words.specs.Labels.{address_of, with_label}

abbrev Entry : Type 0
Entry = String Global × ℕ

-- the view of a choice is the choice of the views
chosen : (o : Ordering) (a b c : List Entry) →
    labels_view (match_ordering o a b c) ≡
    match_ordering o (labels_view a) (labels_view b) (labels_view c)
chosen Less a b c = refl
chosen Equal a b c = refl
chosen Greater a b c = refl

pub inserted : (es : List Entry) (label : String Global) (address : ℕ) →
    labels_view (insert_entry string_cmp es label address) ≡
    with_label (string_bytes label) address (labels_view es)
inserted [] label address = refl
inserted (e ∷ es) label address =
    let o = string_cmp label e.0 in
    let new : List ℕ × ℕ = (string_bytes label, address) in
    let old : List ℕ × ℕ = (string_bytes e.0, address) in
    chosen o _ _ _ ∙ ap (λ behind. match_ordering o (new ∷ labels_view (e ∷ es))
    (old ∷ labels_view es) (label_view e ∷ behind)) (inserted es label address)

pub found : (label : List ℕ) (es : List Entry) →
    lookup (is_at (λ k. slice_cmp nat_cmp label (string_bytes k))) es ≡
    address_of label (labels_view es)
found label [] = refl
found label (e ∷ es) = ap (λ others. cond (is_eq (slice_cmp nat_cmp label (string_bytes e.0)))
    (Some e.1) others) (found label es)
