-- An instruction that is read is at least a byte wide, and lies within the code.
use Rattle.std.specs.Prelude.{ℕ, suc, ◌+◌, ◌≡◌, ◌≤◌, Bool, true, false, cond, List, [], ◌∷◌, length, drop, slice_index_or, Option, Some, None, ◌==◌, ◌&&◌, nat_le, IfSome}
use Rattle.std.proofs.Common.{arith, length-drop, refl, ap, ◌∙◌, ◌<◌, sym}
use Rattle.std.proofs.Math.Seq.{drop-cons}
use Rattle.std.proofs.lemmas.Bool.{leb-true}
use Rattle.grain_program.specs.declared.code.instruction_set.Op.{Op}
use Rattle.grain_program.specs.Fields.{Size, one, two, four, bytes_of, span}
use Rattle.grain_program.specs.Decoding.{number_at, joined, numbers_at, Format, formats, made, by_formats, by_tag, width_in, width_of, op_in, op_at}

number_within : (o : Size) (bytes : List ℕ) (n : ℕ) → number_at o bytes ≡ Some n
    → bytes_of o ≤ length bytes
number_within one [] n e = absurd cc
number_within one (a ∷ rest) n e = omega arith
number_within two [] n e = absurd cc
number_within two (a ∷ []) n e = absurd cc
number_within two (a ∷ b ∷ rest) n e = omega arith
number_within four [] n e = absurd cc
number_within four (a ∷ []) n e = absurd cc
number_within four (a ∷ b ∷ []) n e = absurd cc
number_within four (a ∷ b ∷ c ∷ []) n e = absurd cc
number_within four (a ∷ b ∷ c ∷ d ∷ rest) n e = omega arith

both_joined : (x : Option ℕ) (y : Option (List ℕ)) (ns : List ℕ) → joined x y ≡ Some ns
    → (n : ℕ) × (ms : List ℕ) × (x ≡ Some n) × (y ≡ Some ms)
both_joined None y ns e = absurd cc
both_joined (Some n) None ns e = absurd cc
both_joined (Some n) (Some ms) ns e = (n, ms, refl, refl)

numbers_within : (os : List Size) (bytes ns : List ℕ) → numbers_at os bytes ≡ Some ns
    → span os ≤ length bytes
numbers_within [] bytes ns e = omega arith
numbers_within (o ∷ os) bytes ns e =
    let j = both_joined (number_at o bytes) (numbers_at os (drop (bytes_of o) bytes)) ns e in
    let first = number_within o bytes j.0 j.2 in
    let rest = numbers_within os (drop (bytes_of o) bytes) j.1 j.3 in
    omega (arith, first, rest, length-drop (bytes_of o) bytes)

made_within : (r : Format) (bytes : List ℕ) (o : Option (List ℕ)) (x : Op × ℕ)
    → numbers_at r.sizes bytes ≡ o → made r o ≡ Some x → (1 ≤ x.1) × (x.1 ≤ suc (length bytes))
made_within r bytes None x p e = absurd cc
made_within r bytes (Some ns) x p e =
    let w : 1 + span r.sizes ≡ x.1 = cc in
    let l = numbers_within r.sizes bytes ns p in
    (omega arith, omega arith)

by_formats_within : (rs : List Format) (tag : ℕ) (rest : List ℕ) (x : Op × ℕ)
    → by_formats rs tag rest ≡ Some x → (1 ≤ x.1) × (x.1 ≤ suc (length rest))
by_formats_within [] tag rest x e = absurd cc
by_formats_within (r ∷ rs) tag rest x e =
    at (tag == r.tag) (λ f. by_formats_within rs tag rest x f) e where
      at : (b : Bool) → (by_formats rs tag rest ≡ Some x → (1 ≤ x.1) × (x.1 ≤ suc (length rest)))
          → cond b (made r (numbers_at r.sizes rest)) (by_formats rs tag rest) ≡ Some x
          → (1 ≤ x.1) × (x.1 ≤ suc (length rest))
      at true more e = made_within r rest (numbers_at r.sizes rest) x refl e
      at false more e = more e

op_in_within : (bytes : List ℕ) (x : Op × ℕ) → op_in bytes ≡ Some x
    → (1 ≤ x.1) × (x.1 ≤ length bytes)
unfolding op_in by_tag
op_in_within [] x e = absurd cc
op_in_within (tag ∷ rest) x e = by_formats_within formats tag rest x e

pub op_at_within : (code : List ℕ) (address : ℕ) (x : Op × ℕ) → op_at code address ≡ Some x
    → (1 ≤ x.1) × (address + x.1 ≤ length code)
unfolding op_at
op_at_within code address x e =
    let w = op_in_within (drop address code) x e in
    (w.0, omega (arith, w.0, w.1, length-drop address code))

pub op_at_inside : (code : List ℕ) (address : ℕ) (o : Option (Op × ℕ)) → op_at code address ≡ o
    → IfSome o (λ x. (1 ≤ x.1) × (address + x.1 ≤ length code))
op_at_inside code address None e = tt
op_at_inside code address (Some x) e = op_at_within code address x e

made_width : (r : Format) (o : Option (List ℕ)) (x : Op × ℕ) → made r o ≡ Some x
    → 1 + span r.sizes ≡ x.1
made_width r None x e = absurd cc
made_width r (Some ns) x e = cc

by_formats_width : (rs : List Format) (tag : ℕ) (rest : List ℕ) (x : Op × ℕ)
    → by_formats rs tag rest ≡ Some x → width_in rs tag ≡ x.1
by_formats_width [] tag rest x e = absurd cc
by_formats_width (r ∷ rs) tag rest x e =
    at (tag == r.tag) (λ f. by_formats_width rs tag rest x f) e where
      at : (b : Bool) → (by_formats rs tag rest ≡ Some x → width_in rs tag ≡ x.1)
          → cond b (made r (numbers_at r.sizes rest)) (by_formats rs tag rest) ≡ Some x
          → cond b (1 + span r.sizes) (width_in rs tag) ≡ x.1
      at true more e = made_width r (numbers_at r.sizes rest) x e
      at false more e = more e

-- an instruction is read from its tag and what comes after it
pub op_at_tag : (code : List ℕ) (address : ℕ) → address < length code
    → op_at code address ≡ by_tag (slice_index_or code address 0) (drop (address + 1) code)
unfolding op_at op_in
op_at_tag code address lt =
    let next : suc address ≡ address + 1 = omega arith in
    ap op_in (drop-cons code address 0 lt) ∙ ap (λ (n : ℕ). by_tag (slice_index_or code address 0)
    (drop n code)) next

by_tag_width : (tag : ℕ) (rest : List ℕ) (x : Op × ℕ) → by_tag tag rest ≡ Some x
    → width_of tag ≡ x.1
unfolding by_tag width_of
by_tag_width tag rest x e = by_formats_width formats tag rest x e

-- a tag that has no width is the tag of no instruction
pub by_tag_none : (tag : ℕ) (rest : List ℕ) → width_of tag ≡ 0 → by_tag tag rest ≡ None
unfolding by_tag
by_tag_none tag rest none = at (by_tag tag rest) refl where
  at : (o : Option (Op × ℕ)) → by_tag tag rest ≡ o → by_tag tag rest ≡ None
  at None e = e
  at (Some x) e =
      let w = by_formats_within formats tag rest x e in
      absurd (omega (arith, none, w.0, by_tag_width tag rest x e))

-- where an instruction stands, its tag and its operands are there
pub op_at_there : (code : List ℕ) (address : ℕ) (x : Op × ℕ) → op_at code address ≡ Some x →
    (address < length code) × (0 < width_of (slice_index_or code address 0))
    × (address + width_of (slice_index_or code address 0) ≤ length code)
op_at_there code address x e =
    let w = op_at_within code address x e in
    let lt : address < length code = omega (arith, w.0, w.1) in
    let is =
    by_tag_width (slice_index_or code address 0) (drop (address + 1) code) x
    (sym (op_at_tag code address lt) ∙ e) in
    (lt, omega (arith, w.0, is), omega (arith, w.1, is))

-- where the address lies past the code, or the tag is none, or its operands pass the code's end, no
-- instruction stands
pub op_at_none : (code : List ℕ) (address : ℕ) → ((address < length code)
    → (0 < width_of (slice_index_or code address 0))
    → (address + width_of (slice_index_or code address 0) ≤ length code) → ⊥)
    → None ≡ op_at code address
op_at_none code address not = at (op_at code address) refl where
  at : (o : Option (Op × ℕ)) → op_at code address ≡ o → None ≡ op_at code address
  at None e = sym e
  at (Some x) e = let t = op_at_there code address x e in absurd (not t.0 t.1 t.2)

-- no instruction has more than eight bytes after its tag
abbrev short : List Format → Bool
short [] = true
short (r ∷ rs) = nat_le (span r.sizes) 8 && short rs

width_in_short : (rs : List Format) (tag : ℕ) → short rs ≡ true → width_in rs tag ≤ 9
width_in_short [] tag e = omega arith
width_in_short (r ∷ rs) tag e =
    at (nat_le (span r.sizes) 8) (short rs) refl refl e (λ o. width_in_short rs tag o)
    (tag == r.tag) where
      at : (x y : Bool) → nat_le (span r.sizes) 8 ≡ x → short rs ≡ y → (x && y) ≡ true
          → (short rs ≡ true → width_in rs tag ≤ 9) → (b : Bool)
          → cond b (1 + span r.sizes) (width_in rs tag) ≤ 9
      at true true here others e more true = let le = leb-true (span r.sizes) 8 here in omega arith
      at true true here others e more false = more others
      at true false here others e more b = absurd cc
      at false y here others e more b = absurd cc

pub width_of_short : (tag : ℕ) → width_of tag ≤ 9
unfolding width_of
width_of_short tag = width_in_short formats tag refl
