-- The walk through literals, the sizes that are checked for them, and pointers that are made of names.
use Rattle.std.proofs.Common.{◌≡◌, ℕ, ◌+◌, ◌++◌, List, [], ◌∷◌, Option, Some, None, true, refl, inl, inr, arith}
use Rattle.std.specs.Prelude.{codes}
use Rattle.grain_value.specs.Cells.{flat}
use Rattle.grain_value.specs.Looking.{map_of, text_of}
use Rattle.grain_value.specs.Maps.{Entries}
use Rattle.grain_value.specs.Operands.{arguments, below, read_write, top, under}
use Rattle.grain_value.specs.Pointers.{is_pointer_name}
use Rattle.grain_value.specs.Sizes.{Sizes, limits_sizes, one_element, one_value, plain_sizes, plus, too_large}
use Rattle.grain_value.specs.Writing.{type_name_of}
use Rattle.grain_value.specs.declared.values.Dynamic.{Dynamic}
use Rattle.grain_value.specs.declared.values.Dynamic.TheVariants as dynamic
use Rattle.grain_value.specs.declared.values.Held.{Held}
use Rattle.grain_fault.specs.Problems.{FaultKind, Plain}
use Rattle.grain_fault.specs.Problems as problem
use Rattle.grain_fault.specs.declared.faults.MalformedKind.TheVariants as kind
use Rattle.grain_program.specs.Decoding.{op_at}
use Rattle.grain_program.specs.declared.code.instruction_set.Op.{Op}
use Rattle.grain_program.specs.declared.code.instruction_set.Op.TheVariants as op
use Rattle.grain_means.specs.Causes.{ChecksSize, HasTemplate, MeasuresLent, Raises, ReadsLent}
use Rattle.grain_means.specs.Rules.{KeyIs, Pairs, PairsAre, PairsLent, counted_in, flat_all, grown, innermost_total, instr, limited, literal_made, map_made, onward, operand_under, outer_totals, pairs_of, pointer_named, position, pushed, raised, sizes_so_far, stepped, template_read, totals_ended, totals_opened, trees_in, with_totals, check_size}
use Rattle.grain_means.specs.Worlds.{Setup, Total}
use Rattle.grain_means.proofs.Footing.{Sits, by_test}
use Rattle.grain_means.proofs.Lengths.{length_pushed, length_under}
use Rattle.grain_means.proofs.Tally.Frames.{Walk, Even, start, steady, all_there, point}
use Rattle.grain_means.proofs.Tally.Faults.{why, even_flat, even_flat_all, even_on, even_race, even_raised, sits_at}

module _ {S : Type 0} {m : Setup S} (walk : Walk m) where
  open walk use {root, footing as k, frame as f, now}

  -- the rules of an instruction that stands where the frame does
  module _ (o : Op) (width : ℕ) (stands : op_at m.program.code f.address ≡ Some (o, width)) where
    abbrev next : ℕ
    next = f.address + width

    -- a fault that the instruction raises
    even_refused : (x : FaultKind) → Raises m x (point walk o) →
        Even walk (now.ran + 1) (raised m f (Plain x (position m f)) (start walk))
    even_refused x reason =
        even_raised walk o width stands (now.ran + 1) (Plain x (position m f)) (start walk)
        (steady walk) (why walk o width stands (Plain x (position m f)) refl reason)

    -- a literal is made
    even_made : (count : ℕ) (v : Dynamic) (operands : List Held) →
        Sits m root k (stepped f next (operands ++ read_write v ∷ [])) →
        Even walk (now.ran + 1) (literal_made m count v operands next f (start walk))
    even_made count v operands u =
        even_on walk o width stands
        (with_totals (totals_ended count f.totals) (stepped f next (operands ++ read_write v ∷ [])))
        refl u

    -- a size is checked
    module _ (one : Sizes) (index : ℕ) (checks : ChecksSize one index o)
        (races : MeasuresLent m o f now → ReadsLent m [] o f now)
        (u : Sits m root k (stepped f next f.operands)) where
      even_totals : (ts : List Total) → Even walk (now.ran + 1)
          (onward m f (with_totals ts (stepped f next f.operands)) (start walk))
      even_totals ts =
          even_on walk o width stands (with_totals ts (stepped f next f.operands)) refl u

      abbrev opened : List Total
      opened = totals_opened index f.totals

      pub even_checked : Even walk (now.ran + 1) (check_size m one index next f (start walk))
      even_checked =
          by_test (Even walk (now.ran + 1)) (limits_sizes m.engine.limits)
          (counted_in m one (innermost_total opened) (outer_totals opened) index next f (start walk))
          (onward m f (with_totals opened (stepped f next f.operands)) (start walk))
          (λ some. by_total some (innermost_total opened) refl) (λ none. even_totals opened) where
            by_total : limits_sizes m.engine.limits ≡ true → (t : Option Total) →
                innermost_total opened ≡ t → Even walk (now.ran + 1)
                (counted_in m one t (outer_totals opened) index next f (start walk))
            by_total some None e =
                even_refused (problem.Malformed (kind.MissingTotal index)) (one, (checks, some), e)
            by_total some (Some t) e =
                even_flat walk o width stands (top f.operands) []
                (λ lent. races (one, index, t, (checks, some), e, lent)) _
                (λ v read. by_limit v read (too_large m.engine.limits (sizes_so_far (with_it v))) refl)
                (flat now.cells (top f.operands).value) refl where
                  with_it : Dynamic → Total
                  with_it v = grown (plus one (plain_sizes v)) t

                  by_limit : (v : Dynamic) → flat now.cells (top f.operands).value ≡ Some v →
                      (what : Option (List ℕ)) →
                      too_large m.engine.limits (sizes_so_far (with_it v)) ≡ what →
                      Even walk (now.ran + 1)
                      (limited m what (with_it v) (outer_totals opened) next f (start walk))
                  by_limit v read None is = even_totals (with_it v ∷ outer_totals opened)
                  by_limit v read (Some what) is =
                      even_refused (problem.DataTooLarge what)
                      (inr (inl (one, index, t, v, (checks, some), e, read, is)))

  pub even_make_array : (n width : ℕ) →
      op_at m.program.code f.address ≡ Some (op.MakeArray n, width) →
      Even walk (now.ran + 1) (instr m (op.MakeArray n) (f.address + width) f (start walk))
  even_make_array n width at =
      even_flat_all walk (op.MakeArray n) width at f.operands (all_there walk (op.MakeArray n))
      (arguments n f.operands) (λ lent. (refl, lent)) _
      (λ hs read. let v = dynamic.Array (trees_in hs) in
      even_made (op.MakeArray n) width at n v (under n f.operands)
      (sits_at walk (op.MakeArray n) width at (refl, refl) _ _ (inl refl)
      (λ enough. omega (
        arith,
        length_pushed (under n f.operands) v,
        length_under n f.operands,
        enough,
      ))))
      (flat_all now.cells (arguments n f.operands)) refl

  -- a map is made
  module _ (n width : ℕ) (at : op_at m.program.code f.address ≡ Some (op.MakeMap n, width)) where
    abbrev after : ℕ
    after = f.address + width

    even_pairs : (v : Dynamic) (es : Entries) → HasTemplate v n f now → map_of v ≡ Some es →
        (ps : Pairs) → pairs_of now.cells (arguments (n + n) f.operands) es ≡ ps →
        Even walk (now.ran + 1) (map_made m ps n after f (start walk))
    even_pairs v es read e (PairsAre ds) is =
        let made = dynamic.Map ds in
        even_made (op.MakeMap n) width at n made (under (n + n + 1) f.operands)
        (sits_at walk (op.MakeMap n) width at (refl, refl) _ _ (inl refl)
        (λ enough. omega (
          arith,
          length_pushed (under (n + n + 1) f.operands) made,
          length_under (n + n + 1) f.operands,
          enough,
        )))
    even_pairs v es read e (KeyIs key) is =
        even_refused (op.MakeMap n) width at
        (problem.Malformed (kind.KeyNotText (type_name_of key)))
        (key, (v, es, read, e, is), refl)
    even_pairs v es read e PairsLent is =
        even_race walk (op.MakeMap n) width at [] (inl (refl, inr (v, es, read, e, is)))
        (now.ran + 1) (start walk) (steady walk)

    even_template : (v : Dynamic) → HasTemplate v n f now → (es : Option Entries) →
        map_of v ≡ es → Even walk (now.ran + 1) (template_read m es v n after f (start walk))
    even_template v read None e =
        even_refused (op.MakeMap n) width at
        (problem.Malformed (kind.TemplateNotMap (type_name_of v))) (v, read, e, refl)
    even_template v read (Some es) e =
        even_pairs v es read e (pairs_of now.cells (arguments (n + n) f.operands) es) refl

    pub even_make_map : Even walk (now.ran + 1) (instr m (op.MakeMap n) after f (start walk))
    even_make_map =
        even_flat walk (op.MakeMap n) width at (operand_under (n + n) f.operands) []
        (λ lent. (refl, inl lent)) _ (λ v read. even_template v read (map_of v) refl)
        (flat now.cells (operand_under (n + n) f.operands).value) refl

  pub even_check_array_size : (index width : ℕ) →
      op_at m.program.code f.address ≡ Some (op.CheckArraySize index, width) →
      Even walk (now.ran + 1) (instr m (op.CheckArraySize index) (f.address + width) f (start walk))
  even_check_array_size index width at =
      even_checked (op.CheckArraySize index) width at one_element index (refl, refl)
      (λ lent. (refl, lent))
      (sits_at walk (op.CheckArraySize index) width at (refl, refl) _ f.operands (inl refl)
      (λ enough. omega (arith, enough)))

  pub even_check_map_size : (index width : ℕ) →
      op_at m.program.code f.address ≡ Some (op.CheckMapSize index, width) →
      Even walk (now.ran + 1) (instr m (op.CheckMapSize index) (f.address + width) f (start walk))
  even_check_map_size index width at =
      even_checked (op.CheckMapSize index) width at one_value index (refl, refl)
      (λ lent. (refl, lent))
      (sits_at walk (op.CheckMapSize index) width at (refl, refl) _ f.operands (inl refl)
      (λ enough. omega (arith, enough)))

  -- a pointer is made
  pub even_make_fn_ptr : (width : ℕ) →
      op_at m.program.code f.address ≡ Some (op.MakeFnPtr, width) →
      Even walk (now.ran + 1) (instr m op.MakeFnPtr (f.address + width) f (start walk))
  even_make_fn_ptr width at =
      even_flat walk op.MakeFnPtr width at (top f.operands) [] (λ lent. (refl, lent)) _
      (λ v read. by_name v read (text_of v) refl) (flat now.cells (top f.operands).value) refl where
        by_name : (v : Dynamic) → flat now.cells (top f.operands).value ≡ Some v →
            (s : Option (List ℕ)) → text_of v ≡ s →
            Even walk (now.ran + 1) (pointer_named m s v (f.address + width) f (start walk))
        by_name v read None e =
            even_refused op.MakeFnPtr width at
            (problem.MismatchDataType (codes "string") (type_name_of v))
            (inr (inr (v, read, refl, refl, e, tt)))
        by_name v read (Some s) e =
            let p = dynamic.Pointer (record { name = s; curry = [] }) in
            by_test (Even walk (now.ran + 1)) (is_pointer_name s)
            (pushed m f (f.address + width) (below f.operands) p (start walk))
            (raised m f (Plain (problem.FunctionNotFound s) (position m f)) (start walk))
            (λ good. even_on walk op.MakeFnPtr width at _ refl
            (sits_at walk op.MakeFnPtr width at (refl, refl) _ _ (inl refl)
            (λ enough. omega (
              arith,
              length_pushed (below f.operands) p,
              length_under 1 f.operands,
              enough,
            ))))
            (λ bad. even_refused op.MakeFnPtr width at (problem.FunctionNotFound s)
            (inr (v, read, e, bad, tt)))
