-- The walk through entries of a scope: they are read, declared, written, and become cells.
use Rattle.std.proofs.Common.{◌≡◌, ◌≤◌, ℕ, ◌+◌, List, [], ◌∷◌, ◌++◌, Option, Some, None, Bool, true, refl, inl, inr, length, if◌then◌else◌}
use Rattle.std.specs.Prelude.{slice_get, slice_set}
use Rattle.std.proofs.lemmas.Bool.{leb-true}
use Rattle.grain_value.specs.declared.values.Dynamic.{Dynamic}
use Rattle.grain_value.specs.declared.values.Dynamic.TheVariants as dynamic
use Rattle.grain_value.specs.declared.values.Held.{Held}
use Rattle.grain_value.specs.declared.scopes.Entry.{Entry}
use Rattle.grain_value.specs.Scopes.{set_held, new_entry}
use Rattle.grain_value.specs.Looking.{cell_of}
use Rattle.grain_value.specs.Operands.{top, below, read_write}
use Rattle.grain_fault.specs.declared.faults.MalformedKind.TheVariants as kind
use Rattle.grain_fault.specs.Problems.{Plain, AssignmentToConstant, TooManyVariables}
use Rattle.grain_fault.specs.Problems as problem
use Rattle.grain_program.specs.declared.code.instruction_set.Op.{Op}
use Rattle.grain_program.specs.Decoding.{op_at}
use Rattle.grain_program.specs.View.{name_of}
use Rattle.grain_value.specs.Cells.{flat, content, idle}
use Rattle.grain_value.specs.declared.stores.Cell.{Cell}
use Rattle.grain_means.specs.Worlds.{Act, World, Setup, Frame}
use Rattle.grain_means.specs.Places.{put}
use Rattle.grain_means.specs.Rules.{Home, InScope, InCell, AtPlace, in_entry, assigned_at, held_at, stepped, is_full, marked, onward, at_entry, declare, assignment_to_constant, write_entry, position, flattened, data_race, cell_written, operand_for, shared, is_read_only}
use Rattle.grain_means.specs.Causes.{ReadsTop, Overfills, UsesEntry, Holds, AssignsConstant, ReadsLent, IsLent, AssignsLent, StoresLent}
use Rattle.grain_means.proofs.Ground.{Stays, stays_idle, stays_on, stays_push, stays_set}
use Rattle.grain_means.proofs.Unlent.{unlent_more}
use Rattle.grain_means.proofs.Lengths.{past_scope}
use Rattle.grain_means.proofs.Readable.{IsHomeOf, home_in_entry}
use Rattle.grain_means.proofs.Footing.{Sits, by_test}
use Rattle.grain_means.proofs.Tally.Frames.{Walk, Even, Steady, start, steady, even_marked, even_onward, even_written}
use Rattle.grain_means.proofs.Tally.Faults.{why, even_raised, even_race, even_flat, even_on}

-- a cell is lent where what it holds is not there
pub lent_cell : (cells : List Cell) (v : Dynamic) (n : ℕ) (c : Option Cell) → cell_of v ≡ Some n →
    slice_get cells n ≡ c → content c ≡ None → flat cells v ≡ None
lent_cell cells v n c is at none = rw (is, at) none

pub busy_content : (c : Cell) → c.busy ≡ true → content (Some c) ≡ None
busy_content c busy = rw busy refl

module _ {S : Type 0} {m : Setup S} (walk : Walk m) where
  open walk use {root, footing as k, frame as f, now, tokens, level, trace, keeps}

  -- the rules of an instruction that stands where the frame does
  module _ (o : Op) (width : ℕ) (stands : op_at m.program.code f.address ≡ Some (o, width)) where
    -- what the entry of a slot holds, if any
    pub even_at : (slot : ℕ) → UsesEntry (f.base + slot) o f now → (go : Held → Act S) →
        (h : Option Held) → held_at now.scope (f.base + slot) ≡ h →
        ((g : Held) → held_at now.scope (f.base + slot) ≡ Some g → Even walk (now.ran + 1) (go g)) →
        Even walk (now.ran + 1) (at_entry m h f (f.base + slot) (start walk) go)
    even_at slot uses go None e rest =
        let x = Plain (problem.Malformed (kind.SlotPastScope (f.base + slot) (length now.scope)))
        (position m f) in
        even_raised walk o width stands (now.ran + 1) x (start walk) (steady walk)
        (why walk o width stands x refl (refl, past_scope now.scope (f.base + slot) e, uses))
    even_at slot uses go (Some h) e rest = rest h e

    pub even_declared : (read_only : Bool) (name : List ℕ) →
        (IsLent now (top f.operands) → ReadsLent m [] o f now) →
        Sits m root k (stepped f (f.address + width) (below f.operands)) →
        (ReadsTop f now → m.engine.limits.variables ≤ length now.scope → Overfills m o f now) →
        Even walk (now.ran + 1) (declare m read_only name (f.address + width) f (start walk))
    even_declared read_only name lent u fills =
        even_flat walk o width stands (top f.operands) [] lent _ (λ v read.
        let entry : Entry = new_entry name (record { value = v; read_only = read_only }) in
        by_test (Even walk (now.ran + 1)) (is_full m.engine.limits.variables now.scope) _ _
        (λ full. even_raised walk o width stands (now.ran + 1) (Plain TooManyVariables
        (position m f)) (start walk) (steady walk)
        (why walk o width stands (Plain TooManyVariables (position m f)) refl
        (fills (v, read) (leb-true m.engine.limits.variables (length now.scope) full))))
        (λ _. even_written walk (stepped f (f.address + width) (below f.operands))
        (λ scope. scope ++ entry ∷ [])
        (stays_push now.scope now.cells entry keeps) refl u))
        (flat now.cells (top f.operands).value) refl

    pub even_constant : (n : ℕ) → AssignsConstant m.program (name_of m.program n) o f now →
        Even walk (now.ran + 1) (assignment_to_constant m n f (start walk))
    even_constant n constant =
        even_raised walk o width stands (now.ran + 1) _ (start walk) (steady walk)
        (why walk o width stands (Plain (AssignmentToConstant (name_of m.program n)) (position m f))
        refl constant)

    -- this is written in a world, where something else is held so far
    module _ (w : World S) (r : ℕ) (s : Steady walk r w) (t : w.trace ≡ []) (before : Held)
        (name : List ℕ) (h : Held)
        (u : Sits m root k (stepped f (f.address + width) (below f.operands)))
        (race : flat w.cells before.value ≡ None → Even walk r (data_race m name f w))
      where
        abbrev after_it : Frame
        after_it = stepped f (f.address + width) (below f.operands)

        even_in_cell : (n : ℕ) → cell_of before.value ≡ Some n → (c : Option Cell) →
            slice_get w.cells n ≡ c →
            Even walk r (cell_written m c n h name f w (onward m f after_it))
        even_in_cell n is None e = race (lent_cell w.cells before.value n None is e refl)
        even_in_cell n is (Some c) e =
            by_test (Even walk r) c.busy (data_race m name f w) _
            (λ yes. race (lent_cell w.cells before.value n (Some c) is e (busy_content c yes)))
            (λ _. even_marked walk r w s
            (λ w1. onward m f after_it (record w1 { cells = slice_set w1.cells n (idle h) }))
            (even_onward walk r after_it
            (record w { passed = w.passed + 1; cells = slice_set w.cells n (idle h) })
            (s.0, s.1, s.2, stays_idle w.scope w.cells n h s.3) t (inl refl) u))

        pub even_written_at : (a : Home) → IsHomeOf (cell_of before.value) a →
            Even walk r (assigned_at m a h name (f.address + width) f w)
        even_written_at (InScope i) is =
            even_marked walk r w s
            (λ w1. onward m f after_it (record w1 { scope = set_held w1.scope i h }))
            (even_onward walk r after_it
            (record w { passed = w.passed + 1; scope = set_held w.scope i h })
            (s.0, s.1, s.2, stays_set w.scope w.cells i h s.3) t (inl refl) u)
        even_written_at (InCell n) is = even_in_cell n is (slice_get w.cells n) refl
        even_written_at (AtPlace p) is =
            even_marked walk r w s
            (λ w1. onward m f after_it (record w1 { roots = put w1.roots p h.value }))
            (even_onward walk r after_it
            (record w { passed = w.passed + 1; roots = put w.roots p h.value }) s t (inl refl) u)

    -- this where something else is held so far, which may be a lent cell
    pub even_home : (before : Held) (name : List ℕ) (a : Home) → IsHomeOf (cell_of before.value) a →
        (h : Held) → Sits m root k (stepped f (f.address + width) (below f.operands)) →
        (IsLent now before → ReadsLent m name o f now) →
        Even walk (now.ran + 1) (assigned_at m a h name (f.address + width) f (start walk))
    even_home before name a home h u lent =
        even_written_at (start walk) (now.ran + 1) (steady walk) trace before name h u
        (λ none. even_race walk o width stands name (inl (lent none)) (now.ran + 1) (start walk)
        (steady walk))
        a home

    pub even_entry : (before : Held) (name : List ℕ) (slot : ℕ) (h : Held) →
        Sits m root k (stepped f (f.address + width) (below f.operands)) →
        (IsLent now before → ReadsLent m name o f now) →
        Even walk (now.ran + 1) (write_entry m before slot h name (f.address + width) f
        (start walk))
    even_entry before name slot h u lent =
        even_home before name (in_entry (f.base + slot) (cell_of before.value))
        (home_in_entry (f.base + slot) (cell_of before.value)) h u lent

    -- the last operand into an entry, or its cell
    pub even_stored_in : (read_only : Bool) (slot : ℕ) (before : Held) →
        Sits m root k (stepped f (f.address + width) (below f.operands)) →
        (StoresLent (f.base + slot) f now → ReadsLent m [] o f now) →
        held_at now.scope (f.base + slot) ≡ Some before →
        (cell : Option ℕ) → cell_of before.value ≡ cell →
        Even walk (now.ran + 1) (operand_for m cell f (start walk)
        (λ v. write_entry m before slot (record { value = v; read_only = read_only }) []
        (f.address + width) f (start walk)))
    even_stored_in read_only slot before u lent held None is =
        even_entry before [] slot
        (record { value = (top f.operands).value; read_only = read_only }) u
        (λ none. let read : Some before.value ≡ None = rw is at none in absurd cc)
    even_stored_in read_only slot before u lent held (Some n) is =
        even_flat walk o width stands (top f.operands) [] (λ none. lent (
          before,
          n,
          held,
          is,
          inl none,
        )) _ (λ v _. even_entry before [] slot (record { value = v; read_only = read_only })
        u
        (λ none. lent (before, n, held, is, inr none))) (flat now.cells (top f.operands).value)
        refl

    pub even_assigned : (n slot : ℕ) → Sits m root k (stepped f (f.address + width)
        (below f.operands)) → (ReadsTop f now → (h : Held) → Holds now (f.base + slot) true h →
        AssignsConstant m.program (name_of m.program n) o f now) →
        (AssignsLent (f.base + slot) f now →
        ReadsLent m (name_of m.program n) o f now) →
        (h : Held) → held_at now.scope (f.base + slot) ≡ Some h →
        Even walk (now.ran + 1)
        (flattened m (top f.operands) (name_of m.program n) f (start walk) (λ v.
        if is_read_only (start walk) h then assignment_to_constant m n f (start walk)
        else write_entry m h slot (record h { value = v }) (name_of m.program n) (f.address + width)
        f (start walk)))
    even_assigned n slot u constant lent h e =
        even_flat walk o width stands (top f.operands) (name_of m.program n)
        (λ none. lent (h, e, inl none)) _ (λ v read.
        by_test (Even walk (now.ran + 1)) (is_read_only (start walk) h) (assignment_to_constant m n
        f (start walk)) (write_entry m h slot (record h { value = v }) (name_of m.program n)
        (f.address + width) f (start walk))
        (λ yes. even_constant n (constant (v, read) h (e, yes)))
        (λ no. even_entry h (name_of m.program n) slot (record h { value = v }) u
        (λ none. lent (h, e, inr (no, none)))))
        (flat now.cells (top f.operands).value) refl

    -- an entry becomes a cell, unless it is one
    pub even_shared : (slot : ℕ) (h : Held) → Sits m root k (stepped f (f.address + width)
        f.operands) → (cell : Option ℕ) → Even walk (now.ran + 1) (shared m cell h slot
        (f.address + width) f (start walk))
    even_shared slot h u (Some n) = even_on walk o width stands (stepped f (f.address + width)
        f.operands) refl u
    even_shared slot h u None =
        let cells = now.cells ++ idle h ∷ [] in
        let more : Stays k None now.scope cells =
        stays_on now.scope now.cells cells keeps (unlent_more now.cells (idle h ∷ [])) in
        let held : Held = read_write (dynamic.Cell (length now.cells)) in
        let after : Frame = stepped f (f.address + width) f.operands in
        let write : World S → World S =
        λ w2. record w2 { scope = set_held w2.scope (f.base + slot) held } in
        let r : ℕ = now.ran + 1 in
        let added : World S = record (start walk) {
          passed = (start walk).passed + 1;
          cells =
              cells;
        } in
        even_marked walk r (start walk) (steady walk)
        (λ w1. marked m f (record w1 { cells = w1.cells ++ idle h ∷ [] }) (λ w2.
        onward m f after (record w2 {
          scope = set_held w2.scope (f.base + slot) (read_write (dynamic.Cell (length w1.cells)));
        })))
        (even_marked walk r added (refl, tokens, level, more) (λ w2. onward m f after (write w2))
        (even_onward walk r after (write (record added { passed = added.passed + 1 }))
        (refl, tokens, level, stays_set now.scope cells (f.base + slot) held more) trace
        (inl refl) u))
