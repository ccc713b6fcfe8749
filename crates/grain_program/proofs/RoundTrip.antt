-- What is spelled is read again.
use Rattle.std.proofs.Common.{◌≡◌, ℕ, ◌+◌, List, [], ◌∷◌, ◌++◌, length, map, drop, Some, refl, ap, sym, subst, ◌∙◌, append_assoc, length-append, arith}
use Rattle.std.specs.Prelude.{◌==◌, if◌then◌else◌}
use Rattle.std.specs.List.{flat_map, AllByRecursion}
use Rattle.std.proofs.lemmas.List.{drop_at}
use Rattle.std.proofs.lemmas.List.Concat.{flat_map-append, flat_map-cons}
use Rattle.std.proofs.lemmas.Nat.{from_le_bytes-to_le_bytes_2, from_le_bytes-to_le_bytes_4}
use Rattle.grain_program.specs.declared.code.instruction_set.Op.{Op}
use Rattle.grain_program.specs.declared.code.instruction_set.Op.TheVariants as op
use Rattle.grain_program.specs.declared.code.fields.Field.{Field}
use Rattle.grain_program.specs.Fields.{Size, one, two, four, bytes_of, size_of, number_of, span, NumberFits, FieldFits}
use Rattle.grain_program.specs.InstructionSet.{tag_of, fields_of}
use Rattle.grain_program.specs.Decoding.{number_at, joined, numbers_at, Format, formats, made, by_formats, by_tag, op_in, op_at}
use Rattle.grain_program.specs.Spelling.{spelled, fields_spelled, spelling, OpFits}

number_again : (o : Size) (n : ℕ) (rest : List ℕ) → NumberFits o n
    → number_at o (spelled o n ++ rest) ≡ Some n
number_again one n rest h = refl
number_again two n rest h = ap (λ (k : ℕ). Some k) (from_le_bytes-to_le_bytes_2 n h)
number_again four n rest h = ap (λ (k : ℕ). Some k) (from_le_bytes-to_le_bytes_4 n h)

drop_again : (o : Size) (n : ℕ) (rest : List ℕ) → drop (bytes_of o) (spelled o n ++ rest) ≡ rest
drop_again one n rest = refl
drop_again two n rest = refl
drop_again four n rest = refl

length_again : (o : Size) (n : ℕ) → length (spelled o n) ≡ bytes_of o
length_again one n = refl
length_again two n = refl
length_again four n = refl

abbrev sizes_of : List Field → List Size
sizes_of fs = map size_of fs

abbrev numbers_of : List Field → List ℕ
numbers_of fs = map number_of fs

numbers_again : (fs : List Field) (rest : List ℕ) → AllByRecursion FieldFits fs
    → numbers_at (sizes_of fs) (fields_spelled fs ++ rest) ≡ Some (numbers_of fs)
numbers_again [] rest h = refl
numbers_again (f ∷ fs) rest h =
    let size : Size = size_of f in
    let number : ℕ = number_of f in
    let shift : (spelled size number ++ fields_spelled fs) ++ rest ≡ spelled size number
    ++ (fields_spelled fs ++ rest) = append_assoc (spelled size number) (fields_spelled fs)
    rest in
    let tail : List ℕ = fields_spelled fs ++ rest in
    subst (λ (l : List ℕ). joined (number_at size l) (numbers_at (sizes_of fs) (drop (bytes_of size)
    l)) ≡ Some (number ∷ numbers_of fs)) (sym shift)
    (ap (λ x. joined x (numbers_at (sizes_of fs) (drop (bytes_of size) (spelled size number
    ++ tail)))) (number_again size number tail h.0)
    ∙ ap (λ l. joined (Some number) (numbers_at (sizes_of fs) l)) (drop_again size number tail)
    ∙ ap (λ x. joined (Some number) x) (numbers_again fs rest h.1))

span_again : (fs : List Field) → span (sizes_of fs) ≡ length (fields_spelled fs)
span_again [] = refl
span_again (f ∷ fs) = omega (
  arith,
  span_again fs,
  length_again (size_of f) (number_of f),
  length-append (spelled (size_of f) (number_of f)) (fields_spelled fs),
)

-- the format of the tag
abbrev format_by : List Format → ℕ → Format
format_by [] tag = record { tag = tag; sizes = []; make = λ n. op.Return }
format_by (r ∷ rs) tag = if tag == r.tag then r else format_by rs tag

-- the instruction is one of the list that the formats come from
record Listed (o : Op) : Type 0 where
  found : (rest : List ℕ) → by_formats formats (tag_of o) rest ≡ made (format_by formats (tag_of o))
      (numbers_at (format_by formats (tag_of o)).sizes rest)
  sizes : (format_by formats (tag_of o)).sizes ≡ sizes_of (fields_of o)
  makes : (format_by formats (tag_of o)).make (numbers_of (fields_of o)) ≡ o

-- each is: the same proof at each instruction
listed : (o : Op) → Listed o
listed op.Unit = record { found = λ rest. refl; sizes = refl; makes = refl }
listed _ = record { found = λ rest. refl; sizes = refl; makes = refl }

op_in_again : (o : Op) (rest : List ℕ) → OpFits o
    → op_in (spelling o ++ rest) ≡ Some (o, length (spelling o))
unfolding op_in by_tag
op_in_again o rest h =
    let l = listed o in
    let r : Format = format_by formats (tag_of o) in
    let bytes : List ℕ = fields_spelled (fields_of o) ++ rest in
    let read : numbers_at r.sizes bytes ≡ Some (numbers_of (fields_of o)) =
    subst (λ os. numbers_at os bytes ≡ Some (numbers_of (fields_of o))) (sym l.sizes)
    (numbers_again (fields_of o) rest h) in
    let wide : 1 + span r.sizes ≡ length (spelling o) =
    omega (arith, ap span l.sizes, span_again (fields_of o)) in
    l.found bytes ∙ ap (λ x. made r x) read ∙ ap (λ (p : Op). Some (p, 1 + span r.sizes)) l.makes
    ∙ ap (λ (w : ℕ). Some (o, w)) wide

pub op_at_again : (before after : List Op) (o : Op) → OpFits o
    → op_at (flat_map spelling (before ++ o ∷ after)) (length (flat_map spelling before)) ≡ Some
    (o, length (spelling o))
unfolding op_at
op_at_again before after o h =
    rw (
      flat_map-append,
      drop_at (flat_map spelling before) (flat_map spelling (o ∷ after))
          (length (flat_map spelling before)) refl,
      flat_map-cons,
    )
    (op_in_again o (flat_map spelling after) h)
