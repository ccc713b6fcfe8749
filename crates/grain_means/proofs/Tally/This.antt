-- The walk over the rules through instructions on the `this` of a frame.
use Rattle.std.proofs.Common.{◌≡◌, ◌+◌, ℕ, [], ◌∷◌, Option, Some, None, true, false, refl, inl, inr, arith}
use Rattle.grain_value.specs.Cells.{flat}
use Rattle.grain_value.specs.Looking.{cell_of}
use Rattle.grain_value.specs.Operands.{below, top}
use Rattle.grain_value.specs.declared.values.Dynamic.{Dynamic}
use Rattle.grain_value.specs.declared.values.Held.{Held}
use Rattle.grain_fault.specs.Problems.{Plain, AssignmentToConstant, UnboundThis}
use Rattle.grain_ops.specs.Outcomes.{NotBuiltIn}
use Rattle.grain_program.specs.Decoding.{op_at}
use Rattle.grain_program.specs.View.{name_of}
use Rattle.grain_program.specs.declared.code.instruction_set.Op.{Op}
use Rattle.grain_program.specs.declared.code.instruction_set.Op.TheVariants as op
use Rattle.grain_program.specs.declared.code.parts.AssignOp.{AssignOp}
use Rattle.grain_means.specs.Places.{look}
use Rattle.grain_means.specs.Rules.{Home, assign_this, assign_this_op, assigned_at, at_place, at_place_of, instr, is_read_only, op_assigned, outcome_at, position, stepped, unless_read_only}
use Rattle.grain_means.specs.Worlds.{Act, Place, Setup}
use Rattle.grain_means.specs.Causes.{AsksThis, AssignsByHost, AssignsConstant, AssignsLentThis, HoldsThis, Operates, ReadsLent, ReadsTop}
use Rattle.grain_means.proofs.Footing.{Sits, by_test}
use Rattle.grain_means.proofs.Readable.{home_at_place}
use Rattle.grain_means.proofs.Tally.Entries.{even_home}
use Rattle.grain_means.proofs.Tally.Faults.{even_flat, even_on, even_raised, sits_at, why}
use Rattle.grain_means.proofs.Tally.Frames.{Even, Walk, one_more, point, start, steady}
use Rattle.grain_means.proofs.Tally.Operators.{AnswersLentTo, even_stored}

module _ {S : Type 0} {m : Setup S} (walk : Walk m) where
  open walk use {root, footing as k, frame as f, now}

  -- the rules of an instruction that stands where the frame does
  module _ (o : Op) (width : ℕ) (stands : op_at m.program.code f.address ≡ Some (o, width)) where
    -- the place of the frame's `this`, if it has one
    pub even_at_this : AsksThis o f now → (go : Place → Act S) →
        ((p : Place) → f.this ≡ Some p → Even walk (now.ran + 1) (go p)) →
        (this : Option Place) → f.this ≡ this →
        Even walk (now.ran + 1) (at_place m this (position m f) f (start walk) go)
    even_at_this asks go rest None e =
        let x = Plain UnboundThis (position m f) in
        even_raised walk o width stands (now.ran + 1) x (start walk) (steady walk)
        (why walk o width stands x refl (e, asks))
    even_at_this asks go rest (Some p) e = rest p e

    -- an operand that can be read is assigned to `this`, which may be lent or read-only
    module _ (on : Sits m root k (stepped f (f.address + width) (below f.operands)))
        (asks : ReadsTop f now → AsksThis o f now)
        (lent : AssignsLentThis f now → ReadsLent m [] o f now)
        (constant : ReadsTop f now → (h : Held) → HoldsThis f now h → is_read_only now h ≡ true →
        AssignsConstant m.program [] o f now) where
      even_writable : (p : Place) → f.this ≡ Some p → ReadsTop f now → (go : Act S) →
          (is_read_only now (look now.roots p) ≡ false → Even walk (now.ran + 1) go) →
          Even walk (now.ran + 1) (unless_read_only m (look now.roots p) f (start walk) go)
      even_writable p is reads go rest =
          let x = Plain (AssignmentToConstant []) (position m f) in
          by_test (Even walk (now.ran + 1)) (is_read_only now (look now.roots p)) _ go
          (λ yes. even_raised walk o width stands (now.ran + 1) x (start walk) (steady walk)
          (why walk o width stands x refl (constant reads (look now.roots p) (p, is, refl) yes))) rest

      pub even_assigned_this : Even walk (now.ran + 1)
          (assign_this m (f.address + width) f (start walk))
      even_assigned_this =
          even_flat walk o width stands (top f.operands) [] (λ none. lent (inl none)) _
          (λ v read. even_at_this (asks (v, read)) _
          (λ p is.
          let h = look now.roots p in
          let home : Home = at_place_of p (cell_of h.value) in
          even_writable p is (v, read)
          (assigned_at m home (record h { value = v }) [] (f.address + width) f (start walk))
          (λ no. even_home walk o width stands h [] home (home_at_place p (cell_of h.value))
          (record h { value = v }) on (λ none. lent (inr (h, (p, is, refl), no, none)))))
          f.this refl) (flat now.cells (top f.operands).value) refl

      pub even_assigned_op_this : (a : AssignOp) → AnswersLentTo m (point walk o) [] →
          ((h : Held) (u v : Dynamic) → HoldsThis f now h → is_read_only now h ≡ false →
          flat now.cells h.value ≡ Some u → flat now.cells (top f.operands).value ≡ Some v →
          Operates m (op_assigned m.engine a u v) (name_of m.program a.op_name)
          (record h { value = u } ∷ record (top f.operands) { value = v } ∷ []) o f now) →
          ((p : Place) (u v : Dynamic) → f.this ≡ Some p →
          is_read_only now (look now.roots p) ≡ false →
          flat now.cells (look now.roots p).value ≡ Some u →
          flat now.cells (top f.operands).value ≡ Some v → op_assigned m.engine a u v ≡ NotBuiltIn →
          AssignsByHost m a (at_place_of p (cell_of (look now.roots p).value)) (look now.roots p) u
          (record (top f.operands) { value = v }) o f now) →
          Even walk (now.ran + 1) (assign_this_op m a (f.address + width) f (start walk))
      even_assigned_op_this a answers says by_host =
          even_flat walk o width stands (top f.operands) [] (λ none. lent (inl none)) _
          (λ v read. even_at_this (asks (v, read)) _
          (λ p is.
          let h = look now.roots p in
          let home : Home = at_place_of p (cell_of h.value) in
          let w : Held = record (top f.operands) { value = v } in
          even_writable p is (v, read) _
          (λ no. even_flat walk o width stands h [] (λ none. lent (inr (h, (p, is, refl), no, none)))
          (λ u. outcome_at m home [] (op_assigned m.engine a u v) a h u w (f.address + width) f
          (start walk))
          (λ u content. even_stored walk o width stands a (name_of m.program a.op_name) []
          (record h { value = u } ∷ w ∷ []) h u w home (home_at_place p (cell_of h.value)) on
          (λ none. lent (inr (h, (p, is, refl), no, none))) answers (op_assigned m.engine a u v)
          (says h u v (p, is, refl) no content read) (by_host p u v is no content read))
          (flat now.cells h.value) refl))
          f.this refl) (flat now.cells (top f.operands).value) refl

  -- `this` is read, or has to be there
  pub even_load_this : (width : ℕ) → op_at m.program.code f.address ≡ Some (op.LoadThis, width) →
      Even walk (now.ran + 1) (instr m op.LoadThis (f.address + width) f (start walk))
  even_load_this width at =
      even_at_this op.LoadThis width at tt _
      (λ p is. even_flat walk op.LoadThis width at (look now.roots p) []
      (λ none. (refl, (look now.roots p, (p, is, refl), none))) _
      (λ v _. even_on walk op.LoadThis width at _ refl
      (sits_at walk op.LoadThis width at (refl, refl) _ _ (inl refl) (λ _. one_more walk v)))
      (flat now.cells (look now.roots p).value) refl) f.this refl

  pub even_load_this_shared : (width : ℕ) →
      op_at m.program.code f.address ≡ Some (op.LoadThisShared, width) →
      Even walk (now.ran + 1) (instr m op.LoadThisShared (f.address + width) f (start walk))
  even_load_this_shared width at =
      even_at_this op.LoadThisShared width at tt _
      (λ p is. even_on walk op.LoadThisShared width at _ refl
      (sits_at walk op.LoadThisShared width at (refl, refl) _ _ (inl refl)
      (λ _. one_more walk (look now.roots p).value))) f.this refl

  pub even_require_this : (width : ℕ) →
      op_at m.program.code f.address ≡ Some (op.RequireThis, width) →
      Even walk (now.ran + 1) (instr m op.RequireThis (f.address + width) f (start walk))
  even_require_this width at =
      even_at_this op.RequireThis width at tt _
      (λ p is. even_on walk op.RequireThis width at _ refl
      (sits_at walk op.RequireThis width at (refl, refl) _ f.operands (inl refl) (λ _. omega arith)))
      f.this refl
