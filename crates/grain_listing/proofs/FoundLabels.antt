-- The map of the labels has the address of each.
use Rattle.std.proofs.Common.{◌≡◌, ℕ, Bool, true, false, cond, List, [], ◌∷◌, Option, Some, None, Ordering, Less, Equal, Greater, nat_cmp, is_eq, refl, sym, ap, ◌∙◌}
use Rattle.std.specs.Str.{bytes_eq}
use Rattle.std.specs.Cmp.Lexicographic.{slice_cmp}
use Rattle.std.specs.Ordering.{match_ordering}
use Rattle.std.proofs.lemmas.Map.Text.{is_eq-slice_cmp}
use Rattle.std.proofs.lemmas.Slice.Eq.{bytes_eq-Decides}
use Rattle.grain_words.specs.Labels.{Addresses, address_of, with_label}
use Rattle.grain_listing.specs.Statements.{Statement, label_line, labels, label_address, address}
use Rattle.grain_listing.proofs.Assembled.{label_map}

-- a label's address among more labels, by where the new one goes, and by whether the one that is
-- sought is the new one or the first
chosen : (o : Ordering) (new first : Bool) (a x : ℕ) (rest more : Option ℕ) →
    (new ≡ true → first ≡ is_eq o) → (is_eq o ≡ true → new ≡ first) →
    more ≡ cond new (Some a) rest →
    match_ordering o (cond new (Some a) (cond first (Some x) rest)) (cond first (Some a) rest)
    (cond first (Some x) more) ≡ cond new (Some a) (cond first (Some x) rest)
chosen Less new first a x rest more one two h = refl
chosen Equal true true a x rest more one two h = refl
chosen Equal true false a x rest more one two h = absurd (let e = one refl in cc)
chosen Equal false true a x rest more one two h = absurd (let e = two refl in cc)
chosen Equal false false a x rest more one two h = refl
chosen Greater true true a x rest more one two h = absurd (let e = one refl in cc)
chosen Greater true false a x rest more one two h = h
chosen Greater false true a x rest more one two h = refl
chosen Greater false false a x rest more one two h = h

looked_up : (t : List ℕ) (o : Ordering) (a b c : Addresses) →
    address_of t (match_ordering o a b c) ≡
    match_ordering o (address_of t a) (address_of t b) (address_of t c)
looked_up t Less a b c = refl
looked_up t Equal a b c = refl
looked_up t Greater a b c = refl

agrees : (t u v : List ℕ) → bytes_eq t u ≡ true → bytes_eq t v ≡ bytes_eq u v
agrees t u v h = let e : t ≡ u = (bytes_eq-Decides t u).0 h in ap (λ x. bytes_eq x v) e

agrees_too : (t u v : List ℕ) → bytes_eq u v ≡ true → bytes_eq t u ≡ bytes_eq t v
agrees_too t u v h = let e : u ≡ v = (bytes_eq-Decides u v).0 h in ap (bytes_eq t) e

one_more : (t u : List ℕ) (a : ℕ) (known : Addresses) →
    address_of t (with_label u a known) ≡ cond (bytes_eq t u) (Some a) (address_of t known)
one_more t u a [] = ap (λ b. cond b (Some a) None) (is_eq-slice_cmp t u)
one_more t u a (e ∷ es) =
    let o : Ordering = slice_cmp nat_cmp u e.0 in
    let new : Bool = is_eq (slice_cmp nat_cmp t u) in
    let first : Bool = is_eq (slice_cmp nat_cmp t e.0) in
    let rest : Option ℕ = address_of t es in
    let more : Option ℕ = address_of t (with_label u a es) in
    let later : more ≡ cond new (Some a) rest = one_more t u a es ∙
    ap (λ b. cond b (Some a) rest) (sym (is_eq-slice_cmp t u)) in
    let one : new ≡ true → first ≡ is_eq o =
    λ h. is_eq-slice_cmp t e.0 ∙ agrees t u e.0 (sym (is_eq-slice_cmp t u) ∙ h) ∙
    sym (is_eq-slice_cmp u e.0) in
    let two : is_eq o ≡ true → new ≡ first =
    λ h. is_eq-slice_cmp t u ∙ agrees_too t u e.0 (sym (is_eq-slice_cmp u e.0) ∙ h) ∙
    sym (is_eq-slice_cmp t e.0) in
    looked_up t o _ _ _ ∙ chosen o new first a e.1 rest more one two later ∙
    ap (λ b. cond b (Some a) (cond first (Some e.1) rest)) (is_eq-slice_cmp t u)

pub found : (t : List ℕ) (said : List Statement) →
    address_of t (label_map said) ≡ label_address t (labels said)
found t [] = refl
found t (label_line u ∷ before) =
    one_more t u (address before) (label_map before) ∙
    ap (λ o. cond (bytes_eq t u) (Some (address before)) o) (found t before)
found t (s ∷ before) = found t before
