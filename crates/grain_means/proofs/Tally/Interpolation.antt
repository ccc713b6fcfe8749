-- The walk through texts that are made of segments.
use Rattle.std.proofs.Common.{◌≡◌, ℕ, ◌+◌, ◌++◌, List, [], ◌∷◌, Option, Some, None, refl, sym, ◌∙◌, inl, inr, arith, length}
use Rattle.std.specs.Prelude.{codes}
use Rattle.grain_value.specs.Cells.{flat}
use Rattle.grain_value.specs.Looking.{text_of}
use Rattle.grain_value.specs.Operands.{below, read_write, top, under}
use Rattle.grain_value.specs.Sizes.{is_over}
use Rattle.grain_value.specs.Writing.{plain, type_name_of}
use Rattle.grain_value.specs.declared.natives.Native.{Native}
use Rattle.grain_value.specs.declared.values.Dynamic.{Dynamic}
use Rattle.grain_value.specs.declared.values.Dynamic.TheVariants as dynamic
use Rattle.grain_value.specs.declared.values.Held.{Held}
use Rattle.grain_fault.specs.Classes.{catchable}
use Rattle.grain_fault.specs.Problems.{Plain}
use Rattle.grain_fault.specs.Problems as problem
use Rattle.grain_fault.specs.declared.faults.MalformedKind.TheVariants as kind
use Rattle.grain_program.specs.Decoding.{op_at}
use Rattle.grain_program.specs.declared.code.instruction_set.Op.TheVariants as op
use Rattle.grain_means.specs.Causes.{AsksNative, IsCalled, IsPassedOver, Question, Renders, ShowsSegment, as_given, as_plain, as_text, as_type, asks_for_text, native_asked}
use Rattle.grain_means.specs.Rules.{answer_appended, appended, buffer_ended, flat_or_race, instr, operand_under, position, pushed, put_behind, raised, segment_read, showing, showing_failed, shown, stepped, to_string, type_appended}
use Rattle.grain_means.specs.Worlds.{Setup, World}
use Rattle.grain_means.proofs.Footing.{by_test}
use Rattle.grain_means.proofs.Lengths.{length_pushed, length_under}
use Rattle.grain_means.proofs.Tally.Frames.{Walk, Even, Steady, start, steady, even_marked, even_onward, one_more, point}
use Rattle.grain_means.proofs.Tally.Faults.{why, even_flat, even_on, even_race, even_raised, sits_at}
use Rattle.grain_means.proofs.Tally.NativeCalls.{even_found}
use Rattle.grain_means.proofs.Tally.Natives.{Gave}
use Rattle.grain_means.proofs.Unlent.{Unlent, lent_before, unlent_same}

none_some : {A : Type 0} {x : A} → None ≡ Some x → ⊥
none_some e = absurd cc

module _ {S : Type 0} {m : Setup S} (walk : Walk m) where
  open walk use {root, footing as k, frame as f, now, trace}

  pub even_interpolate_start : (width : ℕ) →
      op_at m.program.code f.address ≡ Some (op.InterpolateStart, width) →
      Even walk (now.ran + 1) (instr m op.InterpolateStart (f.address + width) f (start walk))
  even_interpolate_start width at =
      even_on walk op.InterpolateStart width at _ refl
      (sits_at walk op.InterpolateStart width at (refl, refl) _ _ (inl refl)
      (λ _. one_more walk (dynamic.Text [])))

  module _ (width : ℕ) (at : op_at m.program.code f.address ≡ Some (op.InterpolateEnd, width)) where
    abbrev end : ℕ
    end = f.address + width

    by_buffer : (v : Dynamic) → flat now.cells (top f.operands).value ≡ Some v →
        (s : Option (List ℕ)) → text_of v ≡ s →
        Even walk (now.ran + 1) (buffer_ended m s v end f (start walk))
    by_buffer v read None e =
        let x = Plain (problem.Malformed (kind.BufferNotText (type_name_of v))) (position m f) in
        even_raised walk op.InterpolateEnd width at (now.ran + 1) x (start walk) (steady walk)
        (why walk op.InterpolateEnd width at x refl (v, e, refl, inl read))
    by_buffer v read (Some s) e =
        even_on walk op.InterpolateEnd width at _ refl
        (sits_at walk op.InterpolateEnd width at (refl, refl) _ _ (inl refl)
        (λ enough. omega (
          arith,
          length_pushed (below f.operands) (dynamic.Text s),
          length_under 1 f.operands,
          enough,
        )))

    pub even_interpolate_end : Even walk (now.ran + 1) (instr m op.InterpolateEnd end f (start walk))
    even_interpolate_end =
        even_flat walk op.InterpolateEnd width at (top f.operands) [] (λ lent. (refl, lent)) _
        (λ v read. by_buffer v read (text_of v) refl) (flat now.cells (top f.operands).value) refl

  module _ (width : ℕ) (at : op_at m.program.code f.address ≡ Some (op.InterpolateAppend, width))
    where
      abbrev next : ℕ
      next = f.address + width

      -- the text of the segment is known, in a world after this number of instructions
      module _ (u : World S) (ran : ℕ) (s : Steady walk ran u) (t : u.trace ≡ [])
          (same : Unlent now.cells u.cells) (more : List ℕ)
          (renders : Renders m (point walk op.InterpolateAppend) more u) where
        abbrev buffer : Held
        buffer = operand_under 1 f.operands

        even_put : (v : Dynamic) → flat u.cells buffer.value ≡ Some v → (b : Option (List ℕ)) →
            text_of v ≡ b → Even walk ran (put_behind m b v more next f u)
        even_put v read None e =
            let x = Plain (problem.Malformed (kind.BufferNotText (type_name_of v))) (position m f) in
            even_raised walk op.InterpolateAppend width at ran x u s
            (why walk op.InterpolateAppend width at x refl
            (v, e, refl, inr (more, (u, renders, read))))
        even_put v read (Some b) e =
            let x = Plain (problem.DataTooLarge (codes "Length of string")) (position m f) in
            let joined = dynamic.Text (b ++ more) in
            by_test (Even walk ran) (is_over m.engine.limits.text (length b + length more))
            (raised m f x u) (pushed m f next (under 2 f.operands) joined u)
            (λ over. even_raised walk op.InterpolateAppend width at ran x u s
            (why walk op.InterpolateAppend width at x refl
            (inr (inr (refl, (more, v, b, (u, renders, read), e, over))))))
            (λ fits. even_onward walk ran
            (stepped f next (under 2 f.operands ++ read_write joined ∷ [])) u s t (inl refl)
            (sits_at walk op.InterpolateAppend width at (refl, refl) _ _ (inl refl)
            (λ enough. omega (
              arith,
              length_pushed (under 2 f.operands) joined,
              length_under 2 f.operands,
              enough,
            ))))

        even_read : (x : Option Dynamic) → flat u.cells buffer.value ≡ x →
            Even walk ran
            (flat_or_race m x [] f u (λ v. put_behind m (text_of v) v more next f u))
        even_read None none =
            even_race walk op.InterpolateAppend width at []
            (inl (refl, inr (lent_before now.cells u.cells same buffer.value none))) ran u s
        even_read (Some v) read = even_put v read (text_of v) refl

        even_appended : Even walk ran (appended m more next f u)
        even_appended = even_read (flat u.cells buffer.value) refl

      -- the segment is no text
      module _ (v : Dynamic) (shows : ShowsSegment v op.InterpolateAppend f now) where
        abbrev held : Held
        held = record (top f.operands) { value = v }

        abbrev question : Question S
        question = asks_for_text v f now

        -- there is a native for it
        module _ (n : Native) (there : native_asked m question ≡ Some n) where
          -- its fault is passed over, in a world after this number of instructions
          even_typed : (u : World S) (ran : ℕ) → Steady walk ran u → Unlent now.cells u.cells →
              IsPassedOver m question n (point walk op.InterpolateAppend) u →
              Even walk ran (type_appended m (type_name_of v) next f u)
          even_typed u ran s same over =
              even_marked walk ran u s
              (λ w1. appended m (type_name_of v) next f (record w1 { trace = [] }))
              (even_appended (record u { passed = u.passed + 1; trace = [] }) ran s refl same
              (type_name_of v) (as_type v shows n there over))

          even_given : (r : Dynamic) (u : World S) (ran : ℕ) → Steady walk ran u → u.trace ≡ [] →
              Unlent now.cells u.cells → IsCalled question n →
              Gave walk (start walk) to_string None (held ∷ []) n r u →
              (z : Option Dynamic) → flat u.cells r ≡ z →
              Even walk ran (answer_appended m z (type_name_of v) next f u)
          even_given r u ran s t same called gave None lent =
              even_typed u ran s same (inl (called, inl (r, gave, lent)))
          even_given r u ran s t same called gave (Some z) read =
              even_appended u ran s t same (shown z)
              (as_given v shows n there called r z gave read)

        asks : AsksNative m question (point walk op.InterpolateAppend)
        asks = inr (inr (v, shows, refl))

        even_shown : (n : Option Native) → native_asked m question ≡ n →
            Even walk (now.ran + 1) (showing m n v held next f (start walk))
        even_shown None none =
            even_appended (start walk) (now.ran + 1) (steady walk) trace (unlent_same now.cells)
            (plain v) (as_plain v shows none)
        even_shown (Some n) there =
            even_found walk op.InterpolateAppend width at (start walk) (now.ran + 1) (steady walk) trace
            to_string None (held ∷ []) asks f.operands
            (λ r w1. answer_appended m (flat w1.cells r) (type_name_of v) next f w1)
            (showing_failed m (type_name_of v) next f)
            (λ i e called r l u how after empty. even_given i e r u l after.0 empty after.2 called how
            (flat u.cells r) refl)
            (λ none. absurd (none_some (sym none ∙ there)))
            (λ i e writes only. even_typed i e (start walk) (now.ran + 1) (steady walk)
            (unlent_same now.cells) (inr (writes, only, refl)))
            (λ i e called x l u how reason after. by_test (Even walk l) (catchable x)
            (type_appended m (type_name_of v) next f u) (raised m f x u)
            (λ may. even_typed i e u l after.0 after.2 (inl (called, inr (x, how, may))))
            (λ passes. even_raised walk op.InterpolateAppend width at l x u after.0
            (reason (inr (inr ((v, shows, refl), passes))))))
            (native_asked m question) refl

      by_segment : (v : Dynamic) → flat now.cells (top f.operands).value ≡ Some v →
          (s : Option (List ℕ)) → text_of v ≡ s → Even walk (now.ran + 1)
          (segment_read m s v (record (top f.operands) { value = v }) next f (start walk))
      by_segment v read (Some s) e =
          even_appended (start walk) (now.ran + 1) (steady walk) trace (unlent_same now.cells) s
          (as_text v read e)
      by_segment v read None e =
          even_shown v (read, e) (native_asked m (asks_for_text v f now)) refl

      pub even_interpolate_append :
          Even walk (now.ran + 1) (instr m op.InterpolateAppend next f (start walk))
      even_interpolate_append =
          even_flat walk op.InterpolateAppend width at (top f.operands) [] (λ lent. (refl, inl lent)) _
          (λ v read. by_segment v read (text_of v) refl) (flat now.cells (top f.operands).value) refl
