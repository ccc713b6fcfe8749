-- Each instruction of a loop, and the switch: where the frame then stands, its typing has it.
use Rattle.std.proofs.Common.{◌≡◌, ◌≤◌, ℕ, suc, ◌+◌, ◌-◌, List, [], ◌∷◌, ◌++◌, Some, None, refl, sym, subst, ap, inl, inr, arith, length}
use Rattle.std.specs.Prelude.{ℤ}
use Rattle.grain_value.specs.declared.values.Dynamic.{Dynamic}
use Rattle.grain_value.specs.declared.values.Held.{Held}
use Rattle.grain_value.specs.Tree.{Tree}
use Rattle.grain_value.specs.Operands.{below, read_write}
use Rattle.grain_program.specs.declared.code.instruction_set.Op.{Op}
use Rattle.grain_program.specs.declared.code.instruction_set.Op.TheVariants as op
use Rattle.grain_program.specs.Decoding.{op_at}
use Rattle.grain_program.specs.Switches.{switch_target}
use Rattle.grain_program.specs.Typing.{IsProgram}
use Rattle.grain_program.specs.TypedAt.{IsTypedAt}
use Rattle.grain_program.specs.View.{switch_of}
use Rattle.grain_program.specs.laws.SwitchTargets.{switch_lands}
use Rattle.grain_program.specs.laws.TypedAt.{goes_with_item, goes_with_item_indexed, goes_without_cursor, goes_without_cursor_indexed}
use Rattle.grain_means.specs.Causes.{GivesLent, HasNext, IsOver}
use Rattle.grain_means.specs.Comes.{tries}
use Rattle.grain_means.specs.Rules.{advanced, held_at, instr, outer_cursors, stepped, with_cursor, without_cursor}
use Rattle.grain_means.specs.Worlds.{Cursor, Setup}
use Rattle.grain_means.proofs.Lengths.{length_pushed}
use Rattle.grain_means.proofs.Standing.{Fitting, seen}
use Rattle.grain_means.proofs.Footing.{Sits}
use Rattle.grain_means.proofs.Tally.Frames.{Walk, Even, start, one_less}
use Rattle.grain_means.proofs.Tally.Faults.{even_on, fits_on}
use Rattle.grain_means.proofs.Tally.Loops.{even_loop_begun, even_loop_next, even_switched}

module _ {S : Type 0} {m : Setup S} (walk : Walk m) where
  open walk use {root, footing as k, frame as f, now, sits}

  one_cursor_less : 1 ≤ length f.cursors → length (outer_cursors f.cursors) ≡ length f.cursors - 1 + 0
  one_cursor_less there = by_cursors f.cursors where
    by_cursors : (cs : List Cursor) → length (outer_cursors cs) ≡ length cs - 1 + 0
    by_cursors [] = refl
    by_cursors (c ∷ cs) = omega arith

  -- there is a cursor where not none of its items is left
  cursor_there : (IsOver f → ⊥) → (cs : List Cursor) → f.cursors ≡ cs →
      suc (length (outer_cursors cs)) ≡ length cs
  cursor_there some [] is = absurd (some (rw is refl))
  cursor_there some (c ∷ cs) is = refl

  -- a loop is left, or has given an item
  sits_out : (o : Op) (width : ℕ) → op_at m.program.code f.address ≡ Some (o, width) →
      (target : ℕ) → ((valid : IsProgram m.program) (fit : Fitting m.program f) →
      IsTypedAt m.program fit.0 target (length f.operands) (length f.cursors - 1) (tries f.handlers)) →
      Sits m root k (without_cursor (stepped f target f.operands))
  sits_out o width at target typed = (
    sits.0,
    sits.1,
    λ valid.
        let fit = sits.2 valid in (
          fit.0,
          subst (λ (n : ℕ). IsTypedAt m.program fit.0 target (length f.operands) n (tries f.handlers))
              (fewer f.cursors) (typed valid fit),
        ),
    sits.3,
    sits.4,
  ) where
    fewer : (cs : List Cursor) → length cs - 1 ≡ length (outer_cursors cs)
    fewer [] = refl
    fewer (c ∷ cs) = omega arith

  sits_in : (o : Op) (width : ℕ) → op_at m.program.code f.address ≡ Some (o, width) →
      (ts : List Tree) (n : ℤ) (v : Dynamic) → (IsOver f → ⊥) →
      ((valid : IsProgram m.program) (fit : Fitting m.program f) →
      IsTypedAt m.program fit.0 (f.address + width) (length f.operands + 1) (length f.cursors)
      (tries f.handlers)) →
      Sits m root k
      (advanced ts n (stepped f (f.address + width) (f.operands ++ read_write v ∷ [])))
  sits_in o width at ts n v some typed = (
    sits.0,
    sits.1,
    λ valid.
        let fit = sits.2 valid in (
          fit.0,
          subst (λ (i : ℕ). IsTypedAt m.program fit.0 (f.address + width)
              (length (f.operands ++ read_write v ∷ [])) i (tries f.handlers))
              (sym (cursor_there some f.cursors refl))
              (subst (λ (i : ℕ). IsTypedAt m.program fit.0 (f.address + width) i (length f.cursors)
              (tries f.handlers)) (sym (length_pushed f.operands v)) (typed valid fit)),
        ),
    sits.3,
    sits.4,
  )

  -- a switch was followed
  sits_switched : (index width : ℕ) → op_at m.program.code f.address ≡ Some (op.Switch index, width) →
      (v : Dynamic) →
      Sits m root k (stepped f (switch_target (switch_of m.program index) v) f.operands)
  sits_switched index width at v = (
    sits.0,
    sits.1,
    λ valid.
        let s = seen m.program valid f (op.Switch index) width at (sits.2 valid) in
        fits_on walk (op.Switch index) width at refl
        (stepped f (switch_target (switch_of m.program index) v) f.operands)
        (switch_lands m.program index v s.provides.pools.0)
        (λ enough. omega (arith, enough)) (λ _. omega arith) refl valid,
    sits.3,
    sits.4,
  )

  same_slot : (slot s : ℕ) → Some slot ≡ Some s → s ≡ slot
  same_slot slot s is = cc

  held_in : {h : Held} (slot s : ℕ) → Some slot ≡ Some s → held_at now.scope (f.base + s) ≡ Some h →
      held_at now.scope (f.base + slot) ≡ Some h
  held_in {h} slot s is held =
      subst (λ (i : ℕ). held_at now.scope (f.base + i) ≡ Some h) (same_slot slot s is) held

  -- what is given is an item
  gives_item : GivesLent f now → (t : Tree) × HasNext t f
  gives_item lent = (lent.0, lent.1)

  pub even_switch : (index width : ℕ) →
      op_at m.program.code f.address ≡ Some (op.Switch index, width) →
      Even walk (now.ran + 1) (instr m (op.Switch index) (f.address + width) f (start walk))
  even_switch index width at =
      even_switched walk (op.Switch index) width at index (λ lent. (refl, lent))
      (λ v read le. (v, read, le))
      (λ v. sits_switched index width at v)

  pub even_iter_init : (width : ℕ) →
      op_at m.program.code f.address ≡ Some (op.IterInit, width) →
      Even walk (now.ran + 1) (instr m op.IterInit (f.address + width) f (start walk))
  even_iter_init width at =
      even_loop_begun walk op.IterInit width at (λ lent. (refl, lent))
      (λ v read none. (v, read, none))
      (λ ts. (
        sits.0,
        sits.1,
        fits_on walk op.IterInit width at refl
            (with_cursor ts (stepped f (f.address + width) (below f.operands))) (inl refl)
            (λ _. one_less walk) (λ _. omega arith) refl,
        sits.3,
        sits.4,
      ))

  pub even_iter_drop : (width : ℕ) →
      op_at m.program.code f.address ≡ Some (op.IterDrop, width) →
      Even walk (now.ran + 1) (instr m op.IterDrop (f.address + width) f (start walk))
  even_iter_drop width at =
      let after = without_cursor (stepped f (f.address + width) f.operands) in
      even_on walk op.IterDrop width at after refl (
        sits.0,
        sits.1,
        fits_on walk op.IterDrop width at refl after (inl refl) (λ _. omega arith)
            (λ there. one_cursor_less there) refl,
        sits.3,
        sits.4,
      )

  pub even_iter_next : (target width : ℕ) →
      op_at m.program.code f.address ≡ Some (op.IterNext target, width) →
      Even walk (now.ran + 1) (instr m (op.IterNext target) (f.address + width) f (start walk))
  even_iter_next target width at =
      even_loop_next walk (op.IterNext target) width at target None (λ le over. (le, over))
      (λ t has s is. absurd cc) (λ t has s h is. absurd cc) (λ there lent. (refl, lent))
      (λ n past. (n, past, refl))
      (sits_out (op.IterNext target) width at target
      (λ valid fit. goes_without_cursor (seen m.program valid f (op.IterNext target) width at fit)))
      (λ ts n v some. sits_in (op.IterNext target) width at ts n v some
      (λ valid fit. goes_with_item (seen m.program valid f (op.IterNext target) width at fit)))

  pub even_iter_next_indexed : (target slot width : ℕ) →
      op_at m.program.code f.address ≡ Some (op.IterNextIndexed target slot, width) →
      Even walk (now.ran + 1) (instr m (op.IterNextIndexed target slot) (f.address + width) f (start walk))
  even_iter_next_indexed target slot width at =
      even_loop_next walk (op.IterNextIndexed target slot) width at target (Some slot)
      (λ le over. (le, over)) (λ t has s is. (ap (λ n. f.base + n) (same_slot slot s is), (t, has)))
      (λ t has s h is held lent. (refl, (h, held_in slot s is held, (t, has), inl lent)))
      (λ there lent.
      let e = there slot refl in (refl, (e.0, e.1, gives_item lent, inr lent)))
      (λ n past. (n, past, refl))
      (sits_out (op.IterNextIndexed target slot) width at target (λ valid fit.
      goes_without_cursor_indexed (seen m.program valid f (op.IterNextIndexed target slot) width at fit)))
      (λ ts n v some. sits_in (op.IterNextIndexed target slot) width at ts n v some (λ valid fit.
      goes_with_item_indexed (seen m.program valid f (op.IterNextIndexed target slot) width at fit)))
