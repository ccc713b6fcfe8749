-- The walk over the rules through the end of a call with a receiver: what follows from it, and where the
-- receiver goes.
use Rattle.std.proofs.Common.{◌≡◌, ℕ, ◌+◌, List, [], ◌∷◌, ◌++◌, Option, Some, None, true, ◌||◌, refl, ap, ◌∙◌, inl, inr, length, take}
use Rattle.std.specs.Prelude.{is_some, slice_set}
use Rattle.grain_value.specs.declared.values.Dynamic.{Dynamic}
use Rattle.grain_value.specs.declared.values.Held.{Held}
use Rattle.grain_value.specs.Cells.{idle}
use Rattle.grain_value.specs.Looking.{cell_of}
use Rattle.grain_value.specs.Operands.{read_write}
use Rattle.grain_value.specs.Scopes.{set_held}
use Rattle.grain_fault.specs.declared.faults.MalformedKind.TheVariants as kind
use Rattle.grain_fault.specs.Problems.{Problem, Plain, Malformed, NoMemory}
use Rattle.grain_program.specs.Decoding.{op_at}
use Rattle.grain_program.specs.declared.code.instruction_set.Op.{Op}
use Rattle.grain_means.specs.Places.{look, put}
use Rattle.grain_means.specs.Rules.{Destination, Nowhere, ToSlot, ToThis, call_over, cell_given_back, failed_so, held_at, is_stop, no_memory, over_at, over_in_entry, over_in_this, over_without_entry, position, root_at, root_over, slot_past_scope, stepped}
use Rattle.grain_means.specs.Worlds.{Act, Answer, Came, Failed, Place, Setup, World}
use Rattle.grain_means.specs.Causes.{Caused, UsesEntry}
use Rattle.grain_means.proofs.Footing.{Sits, UnitThrown, by_test, is_false}
use Rattle.grain_means.proofs.Ground.{stays_set}
use Rattle.grain_means.proofs.Lengths.{past_scope}
use Rattle.grain_means.proofs.Unlent.{lent_back}
use Rattle.grain_means.proofs.Tally.Faults.{even_offered_in, even_raised_in, why}
use Rattle.grain_means.proofs.Tally.Frames.{Blame, Enough, Even, Reason, Steady, SteadyBut, Walk, even_onward, holding}

module _ {S : Type 0} {m : Setup S} (walk : Walk m) where
  open walk use {root, footing as k, frame as f, now, tokens, level, trace, keeps}

  -- how a call ended: with a value, and the trace is empty, or with a fault that has its cause
  abbrev pub Ended : Answer → World S → Type 0
  Ended (Came v) u = u.trace ≡ []
  Ended (Failed x) u =
      Caused m root k.level (Failed x) u × UnitThrown m root k.level f.handlers x × Blame walk f.slot x

  -- this follows from the end of a call, where the scope is as long as that of the call, while the cell of
  -- this number is lent, if any
  abbrev pub HearsBut : Option ℕ → (Answer → World S → Act S) → Type 0
  HearsBut away heard = (n : ℕ) (a : Answer) (u : World S) → SteadyBut walk away n u →
      length u.scope ≡ length now.scope → Ended a u → Even walk n (heard a u)

  abbrev pub Hears : (Answer → World S → Act S) → Type 0
  Hears heard = HearsBut None heard

  -- a call has ended so whatever is written then
  pub ended_on : (a : Answer) (u v : World S) → v.trace ≡ u.trace → v.passed ≡ u.passed → Ended a u →
      Ended a v
  ended_on (Came d) u v traces marks e = traces ∙ e
  ended_on (Failed x) u v traces marks e = (caused e.0, e.1, e.2) where
    caused : Caused m root k.level (Failed x) u → Caused m root k.level (Failed x) v
    caused (inl out) = inl (out.0, ap (is_stop m.stop) marks ∙ out.1)
    caused (inr c) = inr c

  -- the receiver goes to an entry that the instruction uses
  abbrev pub UsesSlot : Op → Destination → Type 0
  UsesSlot o (ToSlot slot) = UsesEntry (f.base + slot) o f now
  UsesSlot o d = Unit {0}

  -- memory is out
  pub caused_out : (u : World S) → Caused m root k.level (Failed NoMemory) u → Ended (Failed NoMemory) u
  caused_out u cause = (cause, λ unit. is_false unit, inl refl)

  pub out_ended : (u : World S) → is_stop m.stop u.passed ≡ true → Ended (Failed NoMemory) u
  out_ended u stop = caused_out u (inl (refl, stop))

  -- a call ends with this fault
  pub fails_so : (away : Option ℕ) (heard : Answer → World S → Act S) → HearsBut away heard →
      (x : Problem) (n : ℕ) (u : World S) → Reason walk x → SteadyBut walk away n u →
      length u.scope ≡ length now.scope → Even walk n (failed_so m heard x u)
  fails_so away heard hears x n u because s same =
      let v : World S = record u { passed = u.passed + 1 } in
      by_test (Even walk n) (is_stop m.stop u.passed) (heard (Failed NoMemory) u)
      (heard (Failed x) v)
      (λ stop. hears n (Failed NoMemory) u s same (out_ended u stop))
      (λ _. hears n (Failed x) v s same (inr because.0, because.1, because.2))

  -- what a native was lent of a cell goes back
  pub hears_cell : (i size : ℕ) (held : Held) (heard : Answer → World S → Act S) → Hears heard →
      HearsBut (Some i) (cell_given_back m i held size heard)
  hears_cell i size held heard hears n a u s same e =
      let v : World S = record u {
        cells = slice_set u.cells i
            (idle (record held { value = (look u.roots (root_at size)).value }));
        roots = take size u.roots;
      } in
      hears n a v (
        s.0,
        s.1,
        s.2,
        record {
          keeps = s.3.keeps;
          unlent = lent_back k.cells u.cells i
              (record held { value = (look u.roots (root_at size)).value }) s.3.unlent;
        },
      ) same (ended_on a u v refl refl e)

  -- The rules of an instruction that stands where the frame does, which then has these operands, and goes
  -- on with one more.
  module _ (o : Op) (width : ℕ) (stands : op_at m.program.code f.address ≡ Some (o, width))
      (operands : List Held) (enough : Enough walk o operands)
      (on : (v : Dynamic) → Sits m root k (stepped f (f.address + width) (operands ++ read_write v ∷ [])))
    where
      abbrev next : ℕ
      next = f.address + width

      over : (n : ℕ) (a : Answer) (u : World S) → Steady walk n u → Ended a u →
          Even walk n (call_over m next (holding walk operands) a u)
      over n (Came v) u s e =
          even_onward walk n (stepped f next (operands ++ read_write v ∷ [])) u s e (inl refl) (on v)
      over n (Failed x) u s e =
          even_offered_in walk o width stands operands enough n x u e.2 s (e.0, e.1)

      -- there is no entry to which the receiver goes
      module _ (i : ℕ) (uses : UsesEntry i o f now) where
        passed : (n : ℕ) (u : World S) → Steady walk n u → length u.scope ≡ length now.scope →
            held_at u.scope i ≡ None → Even walk n (slot_past_scope m (holding walk operands) i u)
        passed n u s same none =
            let x = Plain (Malformed (kind.SlotPastScope i (length u.scope))) (position m f) in
            even_raised_in walk o width stands operands enough n x u s
            (why walk o width stands x refl (same, past_scope u.scope i none, uses))

        no_entry : (n : ℕ) (a : Answer) (u : World S) → Steady walk n u →
            length u.scope ≡ length now.scope → Ended a u → held_at u.scope i ≡ None →
            Even walk n (over_without_entry m i next (holding walk operands) a u)
        no_entry n (Came v) u s same e none = passed n u s same none
        no_entry n (Failed x) u s same e none =
            by_test (Even walk n) (no_memory x) (call_over m next (holding walk operands) (Failed x) u)
            (slot_past_scope m (holding walk operands) i (record u { trace = [] }))
            (λ _. over n (Failed x) u s e) (λ _. passed n (record u { trace = [] }) s same none)

        in_entry : (h : Held) (n : ℕ) (a : Answer) (u : World S) → Steady walk n u →
            length u.scope ≡ length now.scope → Ended a u → (before : Option Held) →
            held_at u.scope i ≡ before →
            Even walk n (over_in_entry m before i h next (holding walk operands) a u)
        in_entry h n a u s same e None none = no_entry n a u s same e none
        in_entry h n a u s same e (Some before) is =
            let v : World S = record u { scope = set_held u.scope i h } in
            over n a v (s.0, s.1, s.2, stays_set u.scope u.cells i h s.3)
            (ended_on a u v refl refl e)

      goes : (d : Destination) → UsesSlot o d → (h : Held) (n : ℕ) (a : Answer) (u : World S) →
          Steady walk n u → length u.scope ≡ length now.scope → Ended a u →
          Even walk n (over_at m d h next (holding walk operands) a u)
      goes Nowhere uses h n a u s same e = over n a u s e
      goes (ToSlot slot) uses h n a u s same e =
          in_entry (f.base + slot) uses h n a u s same e (held_at u.scope (f.base + slot)) refl
      goes ToThis uses h n a u s same e = by_place f.this where
        by_place : (p : Option Place) →
            Even walk n (over_in_this m p h next (holding walk operands) a u)
        by_place None = over n a u s e
        by_place (Some p) =
            let v : World S = record u { roots = put u.roots p h.value } in
            over n a v s (ended_on a u v refl refl e)

      pub hears_root : (d : Destination) → UsesSlot o d → (size : ℕ) →
          Hears (root_over m d next (holding walk operands) size)
      hears_root d uses size n a u s same e =
          let h = look u.roots (root_at size) in
          let v : World S = record u { roots = take size u.roots } in
          let late : Ended a v = ended_on a u v refl refl e in
          by_test (Even walk n) (is_some (cell_of h.value) || h.read_only)
          (call_over m next (holding walk operands) a v)
          (over_at m d h next (holding walk operands) a v)
          (λ _. over n a v s late) (λ _. goes d uses h n a v s same late)
