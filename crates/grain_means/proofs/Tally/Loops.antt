-- The walk through loops and switches.
use Rattle.std.proofs.Common.{◌≡◌, ◌≤◌, ℕ, ◌+◌, List, [], ◌∷◌, ◌++◌, Option, Some, None, inl, inr, refl, subst, nat_le}
use Rattle.std.specs.Prelude.{ℤ, pos, ◌+ℤ◌, slice_get, slice_set}
use Rattle.std.proofs.lemmas.Bool.{leb-true}
use Rattle.grain_value.specs.declared.values.Dynamic.{Dynamic}
use Rattle.grain_value.specs.declared.values.Dynamic.TheVariants as dynamic
use Rattle.grain_value.specs.declared.values.Held.{Held}
use Rattle.grain_value.specs.declared.stores.Cell.{Cell}
use Rattle.grain_value.specs.Cells.{flat, idle}
use Rattle.grain_value.specs.Items.{items_of}
use Rattle.grain_value.specs.Looking.{cell_of}
use Rattle.grain_value.specs.Operands.{top, below, read_write}
use Rattle.grain_value.specs.Scopes.{set_held}
use Rattle.grain_value.specs.Tree.{Tree}
use Rattle.grain_value.specs.View.{value_of}
use Rattle.grain_fault.specs.Problems.{Plain}
use Rattle.grain_fault.specs.Problems as problem
use Rattle.grain_ops.specs.Calculations.{fits64}
use Rattle.grain_program.specs.Decoding.{op_at}
use Rattle.grain_program.specs.Switches.{switch_target}
use Rattle.grain_program.specs.View.{switch_of}
use Rattle.grain_program.specs.declared.code.instruction_set.Op.{Op}
use Rattle.grain_means.specs.Places.{put}
use Rattle.grain_means.specs.Rules.{Home, InScope, InCell, AtPlace, advanced, cell_written, charged, count_stored, counter_text, data_race, held_at, in_entry, innermost_cursor, item_given, iter_init, iter_next, loop_advanced, loop_begun, loop_left, onward, position, stepped, switch, with_cursor, without_cursor, written_at}
use Rattle.grain_means.specs.Worlds.{Act, Setup, World}
use Rattle.grain_means.specs.Causes.{Charges, CountsPast, CountsTooFar, GivesLent, GoesOverNone, HasNext, IsLent, IsOver, ReadsLent, UsesEntry}
use Rattle.grain_means.proofs.Footing.{Sits, by_test}
use Rattle.grain_means.proofs.Ground.{stays_idle, stays_set}
use Rattle.grain_means.proofs.Readable.{IsHomeOf, home_in_entry}
use Rattle.grain_means.proofs.Tally.Entries.{busy_content, even_at, lent_cell}
use Rattle.grain_means.proofs.Tally.Faults.{why, even_raised, even_race, even_flat, even_flat_in, even_charged, even_jumped, even_on, heard}
use Rattle.grain_means.proofs.Tally.Frames.{Walk, Even, Steady, start, steady, all_there, even_marked, even_onward}
use Rattle.grain_means.proofs.Unlent.{Unlent, lent_before, unlent_idle, unlent_same}

module _ {S : Type 0} {m : Setup S} (walk : Walk m) where
  open walk use {root, footing as k, frame as f, now, tokens, level, trace, keeps, sits}

  -- the rules of an instruction that stands where the frame does
  module _ (o : Op) (width : ℕ) (stands : op_at m.program.code f.address ≡ Some (o, width)) where
    pub even_loop_begun : (IsLent now (top f.operands) → ReadsLent m [] o f now) →
        ((v : Dynamic) → flat now.cells (top f.operands).value ≡ Some v → items_of v ≡ None →
        GoesOverNone o f now) →
        ((ts : List Tree) →
        Sits m root k (with_cursor ts (stepped f (f.address + width) (below f.operands)))) →
        Even walk (now.ran + 1) (iter_init m (f.address + width) f (start walk))
    even_loop_begun lent none u =
        even_flat walk o width stands (top f.operands) [] lent _ (λ v read. over v read (items_of v) refl)
        (flat now.cells (top f.operands).value) refl where
          over : (v : Dynamic) → flat now.cells (top f.operands).value ≡ Some v →
              (x : Option (List Tree)) → items_of v ≡ x →
              Even walk (now.ran + 1) (loop_begun m x (f.address + width) f (start walk))
          over v read None is =
              even_raised walk o width stands (now.ran + 1) (Plain problem.For (position m f))
              (start walk) (steady walk)
              (why walk o width stands (Plain problem.For (position m f)) refl (none v read is))
          over v read (Some ts) is = even_on walk o width stands
              (with_cursor ts (stepped f (f.address + width) (below f.operands))) refl (u ts)

    -- this is written where something else is held so far, which may be a lent cell, and then what follows
    -- in a world where nothing is lent that was not
    even_stored : (before : Held) (a : Home) → IsHomeOf (cell_of before.value) a → (h : Held) →
        (IsLent now before → ReadsLent m [] o f now) → (go : World S → Act S) →
        ((w : World S) → Steady walk (now.ran + 1) w → w.trace ≡ [] → Unlent now.cells w.cells →
        Even walk (now.ran + 1) (go w)) →
        Even walk (now.ran + 1) (written_at m a h [] f (start walk) go)
    even_stored before (InScope i) is h lent go rest =
        even_marked walk (now.ran + 1) (start walk) (steady walk)
        (λ w1. go (record w1 { scope = set_held w1.scope i h }))
        (rest (record (start walk) {
          passed = (start walk).passed + 1;
          scope = set_held now.scope i h;
        }) (refl, tokens, level, stays_set now.scope now.cells i h keeps) trace
        (unlent_same now.cells))
    even_stored before (InCell n) is h lent go rest = in_cell (slice_get now.cells n) refl where
      race : flat now.cells before.value ≡ None →
          Even walk (now.ran + 1) (data_race m [] f (start walk))
      race none =
          even_race walk o width stands [] (inl (lent none)) (now.ran + 1) (start walk) (steady walk)

      in_cell : (c : Option Cell) → slice_get now.cells n ≡ c →
          Even walk (now.ran + 1) (cell_written m c n h [] f (start walk) go)
      in_cell None e = race (lent_cell now.cells before.value n None is e refl)
      in_cell (Some c) e =
          by_test (Even walk (now.ran + 1)) c.busy (data_race m [] f (start walk)) _
          (λ yes. race (lent_cell now.cells before.value n (Some c) is e (busy_content c yes)))
          (λ _. even_marked walk (now.ran + 1) (start walk) (steady walk)
          (λ w1. go (record w1 { cells = slice_set w1.cells n (idle h) }))
          (rest (record (start walk) {
            passed = (start walk).passed + 1;
            cells = slice_set now.cells n (idle h);
          }) (refl, tokens, level, stays_idle now.scope now.cells n h keeps) trace
          (unlent_idle now.cells n h)))
    even_stored before (AtPlace p) is h lent go rest =
        even_marked walk (now.ran + 1) (start walk) (steady walk)
        (λ w1. go (record w1 { roots = put w1.roots p h.value }))
        (rest (record (start walk) {
          passed = (start walk).passed + 1;
          roots = put now.roots p h.value;
        }) (steady walk) trace (unlent_same now.cells))

    -- the entry of the slot is there, if there is a slot
    abbrev pub HasEntry : Option ℕ → Type 0
    HasEntry slot = (s : ℕ) → slot ≡ Some s →
        (h : Held) × (held_at now.scope (f.base + s) ≡ Some h)

    has_entry : (s : ℕ) (h : Held) → held_at now.scope (f.base + s) ≡ Some h → HasEntry (Some s)
    has_entry s h e r is = (
      h,
      subst (λ (i : ℕ). held_at now.scope (f.base + i) ≡ Some h) (same_slot s r is) e,
    ) where
      same_slot : (s r : ℕ) → Some s ≡ Some r → s ≡ r
      same_slot s r is = cc

    -- the count is stored, if there is a slot for it
    even_counted : (slot : Option ℕ) (n : ℤ) →
        ((s : ℕ) → slot ≡ Some s → UsesEntry (f.base + s) o f now) →
        ((s : ℕ) (h : Held) → slot ≡ Some s → held_at now.scope (f.base + s) ≡ Some h →
        IsLent now h → ReadsLent m [] o f now) → (go : World S → Act S) →
        (HasEntry slot → (w : World S) → Steady walk (now.ran + 1) w → w.trace ≡ [] →
        Unlent now.cells w.cells → Even walk (now.ran + 1) (go w)) →
        Even walk (now.ran + 1) (count_stored m slot n f (start walk) go)
    even_counted None n uses lent go rest =
        rest (λ s is. no_slot is) (start walk) (steady walk) trace (unlent_same now.cells) where
          no_slot : {A : Type 0} {s : ℕ} → None ≡ Some s → A
          no_slot is = absurd cc
    even_counted (Some s) n uses lent go rest =
        even_at walk o width stands s (uses s refl) _ (held_at now.scope (f.base + s)) refl
        (λ h e. even_stored h (in_entry (f.base + s) (cell_of h.value))
        (home_in_entry (f.base + s) (cell_of h.value)) (read_write (dynamic.Int n))
        (lent s h refl e) go (rest (has_entry s h e)))

    even_left : (target : ℕ) → (target ≤ f.address → Charges m.program o f now) →
        Sits m root k (without_cursor (stepped f target f.operands)) →
        Even walk (now.ran + 1) (loop_left m target f (start walk))
    even_left target back out =
        let g = without_cursor (stepped f target f.operands) in
        by_test (Even walk (now.ran + 1)) (nat_le target f.address)
        (charged m f (start walk) (onward m f g)) (onward m f g (start walk))
        (λ le. even_charged walk o width stands f.operands (all_there walk o) (onward m f g)
        (back (leb-true target f.address le))
        (λ _. even_onward walk (now.ran + 1) g (heard walk o width stands) (steady walk) trace (inl refl)
        out))
        (λ _. even_on walk o width stands g refl out)

    -- where some are left, not none is
    some_left : {t : Tree} {ts xs : List Tree} → xs ≡ t ∷ ts → xs ≡ [] → ⊥
    some_left is over = cc

    -- the next of these items, of which none is left or one can be counted
    pub even_loop_next : (target : ℕ) (slot : Option ℕ) →
        (target ≤ f.address → IsOver f → Charges m.program o f now) →
        ((t : Tree) → HasNext t f → (s : ℕ) → slot ≡ Some s → UsesEntry (f.base + s) o f now) →
        ((t : Tree) → HasNext t f → (s : ℕ) (h : Held) → slot ≡ Some s →
        held_at now.scope (f.base + s) ≡ Some h → IsLent now h → ReadsLent m [] o f now) →
        (HasEntry slot → GivesLent f now → ReadsLent m [] o f now) →
        ((n : ℤ) → CountsPast n f → CountsTooFar (counter_text n) o f) →
        Sits m root k (without_cursor (stepped f target f.operands)) →
        ((ts : List Tree) (n : ℤ) (v : Dynamic) → (IsOver f → ⊥) → Sits m root k
        (advanced ts n (stepped f (f.address + width) (f.operands ++ read_write v ∷ [])))) →
        Even walk (now.ran + 1) (iter_next m target slot (f.address + width) f (start walk))
    even_loop_next target slot back uses lent gives far out on =
        by_items (innermost_cursor f.cursors).left refl where
          n : ℤ
          n = (innermost_cursor f.cursors).counter

          by_items : (ts : List Tree) → (innermost_cursor f.cursors).left ≡ ts →
              Even walk (now.ran + 1)
              (loop_advanced m ts n target slot (f.address + width) f (start walk))
          by_items [] over =
              even_left target (λ le. back le over) out
          by_items (t ∷ ts) is =
              by_test (Even walk (now.ran + 1)) (fits64 (n +ℤ pos 1)) _ _
              (λ fits. even_counted slot (n +ℤ pos 1) (uses t (ts, is, fits))
              (λ s h at held none. lent t (ts, is, fits) s h at held none)
              (item_given m t ts (n +ℤ pos 1) (f.address + width) f)
              (λ there w s fresh same. even_flat_in walk o width stands (now.ran + 1) w s (value_of t) []
              (λ none. inl (gives there
              (t, (ts, is, fits), lent_before now.cells w.cells same (value_of t) none)))
              _
              (λ v. even_onward walk (now.ran + 1)
              (advanced ts (n +ℤ pos 1) (stepped f (f.address + width) (f.operands ++ read_write v ∷ [])))
              w s fresh (inl refl) (on ts (n +ℤ pos 1) v (λ over. some_left is over)))
              (flat w.cells (value_of t)) refl))
              (λ past. even_raised walk o width stands (now.ran + 1)
              (Plain (problem.Arithmetic (counter_text n)) (position m f)) (start walk) (steady walk)
              (why walk o width stands (Plain (problem.Arithmetic (counter_text n)) (position m f)) refl
              (inr (far n (refl, (λ over. some_left is over), past)))))

    -- a transfer to the target that a switch has for the last operand
    pub even_switched : (index : ℕ) → (IsLent now (top f.operands) → ReadsLent m [] o f now) →
        ((v : Dynamic) → flat now.cells (top f.operands).value ≡ Some v →
        switch_target (switch_of m.program index) v ≤ f.address → Charges m.program o f now) →
        ((v : Dynamic) →
        Sits m root k (stepped f (switch_target (switch_of m.program index) v) f.operands)) →
        Even walk (now.ran + 1) (switch m index f (start walk))
    even_switched index lent back there =
        even_flat walk o width stands (top f.operands) [] lent _
        (λ v read. even_jumped walk o width stands (switch_target (switch_of m.program index) v)
        f.operands (all_there walk o) (there v) (back v read))
        (flat now.cells (top f.operands).value) refl
