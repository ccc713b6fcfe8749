-- Operators and op-assignments keep to the store.
use Rattle.std.proofs.Common.{◌≡◌, ◌≤◌, ◌+◌, ℕ, List, [], ◌∷◌, Option, Some, None, if◌then◌else◌, refl, subst, arith}
use Rattle.grain_value.specs.Looking.{cell_of}
use Rattle.grain_value.specs.Operands.{below, read_write, top}
use Rattle.grain_value.specs.declared.values.Dynamic.{Dynamic}
use Rattle.grain_value.specs.declared.values.Held.{Held}
use Rattle.grain_fault.specs.Problems.{Problem, Plain, Arithmetic, DataTooLarge}
use Rattle.grain_program.specs.View.{name_of}
use Rattle.grain_program.specs.declared.code.parts.AssignOp.{AssignOp}
use Rattle.grain_ops.specs.Outcomes.{Outcome, NotBuiltIn, Gave, ArithmeticFault, TooLarge}
use Rattle.grain_means.specs.Contained.{HeldNames, Names, ProblemNames}
use Rattle.grain_means.specs.Rules as rules
use Rattle.grain_means.specs.Rules.{Home, InScope, InCell, AtPlace, at_place_of, in_entry, content_now, given, held_at, held_or, is_read_only, op_assigned, stepped}
use Rattle.grain_host.specs.Signatures.{says_missing}
use Rattle.grain_means.specs.Places.{look}
use Rattle.grain_means.specs.Worlds.{Act, Frame, Place, Setup, World}
use Rattle.grain_means.proofs.CellFree.{none_names}
use Rattle.grain_means.proofs.Footing.{by_test}
use Rattle.grain_means.proofs.Naming.{Stands, all_wider, held_at_names, held_wider}
use Rattle.grain_means.proofs.Containing.Roots.{firm_look, look_stands}
use Rattle.grain_means.proofs.Plain.{NamesNone, no_cell, op_assigned_plain}
use Rattle.grain_means.proofs.Containing.Parts.{Operands, Arguments, FrameNames, HoldsPlain, home_plain, standing_names, may_stand}
use Rattle.grain_means.proofs.Containing.Steps.{Stays, Here, frame_wider, marking, raising, pushing, going_on, reading, looking, last, less, moves, asking, giving}
use Rattle.grain_means.proofs.Containing.Entries.{assigns_at, refuses}
use Rattle.grain_means.proofs.Containing.Frames.{Grounds}

module _ {S : Type 0} {m : Setup S} (on : Grounds m) where
  open on use {clean, least}

  module _ (n : ℕ) (low : least ≤ n) (f : Frame) (names : FrameNames clean n f) where
    -- the host's operator, and its op-assignment
    by_operator : (b : Home) (name op : List ℕ) (h u v : Held) (next : ℕ) (w : World S) →
        Here on n low f names w → Stands clean n u → Stands clean n v →
        Stays on n low f names (rules.operator_at m b name op h u v next f w)
    by_operator b name op h u v next w at left right =
        giving on n low f names
        (λ r w1. rules.flattened m (read_write r) name f w1 (λ q.
        rules.assigned_at m b (record h { value = q }) name next f w1))
        (λ k le r w1 there named.
        let more : least ≤ k = omega (arith, low, le) in
        let wide : FrameNames clean k f = frame_wider on n k f le names in
        reading on k more f wide (read_write r) name w1 there named
        (λ q. rules.assigned_at m b (record h { value = q }) name next f w1)
        (λ q read plain. assigns_at on k more f wide b (record h { value = q }) name next w1 there
        read (may_stand b q plain)))
        op (u ∷ v ∷ []) w at (left, (right, tt))

    -- what an entry held that is no cell
    abbrev Owns : Home → Held → Type 0
    Owns (InScope i) h = Stands clean n h
    Owns (InCell i) h = Unit {0}
    Owns (AtPlace p) h = Unit {0}

    content_names : (b : Home) (h : Held) (w : World S) → Here on n low f names w → Owns b h →
        HoldsPlain b w.scope w.roots →
        Stands clean n (record h { value = content_now b h w })
    content_names (InScope i) h w at own plain = by_entry (held_at w.scope i) refl where
      by_entry : (o : Option Held) → held_at w.scope i ≡ o →
          Stands clean n (record h { value = (held_or h o).value })
      by_entry None is = own
      by_entry (Some g) is = (held_at_names clean n w.scope i g at.entries is, λ s. plain g is)
    content_names (InCell i) h w at own plain =
        let there = standing_names clean n w.cells i at.contents in (there.0, λ s. there.1)
    content_names (AtPlace p) h w at own plain =
        look_stands clean n w.roots on.since.roots p at.stand plain

    by_host_failed : (b : Home) (name : List ℕ) (a : AssignOp) (h v : Held) (next : ℕ) (x : Problem)
        (w : World S) → Here on n low f names w → Owns b h →
        HoldsPlain b w.scope w.roots → Stands clean n v → ProblemNames clean n x →
        Stays on n low f names (rules.op_assign_failed_at m b name a h v next f x w)
    by_host_failed b name a h v next x w at own plain right bound =
        let go : World S → Act S = λ w1. rules.operator_at m b name (name_of m.program a.op_name) h
        (record h { value = content_now b h w1 }) v next f (record w1 { trace = [] }) in
        by_test (Stays on n low f names) (says_missing (name_of m.program a.op_assign_name) x)
        (rules.marked m f w go) (rules.raised m f x w)
        (λ missing. marking on n low f names w go at
        (by_operator b name (name_of m.program a.op_name) h (record h { value = content_now b h w })
        v next (record w { passed = w.passed + 1; trace = [] }) at (content_names b h w at own plain)
        right))
        (λ other. raising on n low f names x w at bound)

  -- once the store has grown
  stands_wider : (n k : ℕ) → n ≤ k → (h : Held) → Stands clean n h → Stands clean k h
  stands_wider n k le h p = (held_wider clean n k le h p.0, p.1)

  module _ (n : ℕ) (low : least ≤ n) (f : Frame) (names : FrameNames clean n f) where
    owns_wider : (k : ℕ) (le : n ≤ k) (more : least ≤ k) (wide : FrameNames clean k f) (b : Home)
        (h : Held) → Owns n low f names b h → Owns k more f wide b h
    owns_wider k le more wide (InScope i) h own = stands_wider n k le h own
    owns_wider k le more wide (InCell i) h own = tt
    owns_wider k le more wide (AtPlace p) h own = tt

    by_host : (b : Home) (name : List ℕ) (a : AssignOp) (h : Held) (u : Dynamic) (v : Held)
        (next : ℕ) (w : World S) → Here on n low f names w → Owns n low f names b h →
        HoldsPlain b w.scope w.roots → Names clean n u → cell_of u ≡ None →
        Stands clean n v →
        Stays on n low f names (rules.native_assigned_at m b name a h u v next f w)
    by_host b name a h u v next w at own stands left plain right =
        asking on n low f names (Some (record { home = b; held = record h { value = u } }))
        (λ r w1. rules.onward m f (stepped f next (below f.operands)) w1)
        (rules.op_assign_failed_at m b name a h v next f)
        (λ k le r w1 there result.
        let more : least ≤ k = omega (arith, low, le) in
        let wide : FrameNames clean k f = frame_wider on n k f le names in
        going_on on k more f wide (stepped f next (below f.operands)) w1 there
        (moves on k more f wide next (below f.operands) (less on k more f wide)))
        (λ k le x w1 there lends bound.
        let more : least ≤ k = omega (arith, low, le) in
        let wide : FrameNames clean k f = frame_wider on n k f le names in
        by_host_failed k more f wide b name a h v next x w1 there (owns_wider k le more wide b h own)
        lends (stands_wider n k le v right) bound)
        (name_of m.program a.op_assign_name) (v ∷ []) w at
        (home_plain clean n b (record h { value = u }) (left, plain)) stands (right, tt)

    pub stores_outcome : (b : Home) (name : List ℕ) (o : Outcome) → NamesNone o → (a : AssignOp)
        (h : Held) (u : Dynamic) (v : Held) (next : ℕ) (w : World S) → Here on n low f names w →
        Owns n low f names b h → HoldsPlain b w.scope w.roots → Names clean n u →
        cell_of u ≡ None → Stands clean n v →
        Stays on n low f names (rules.outcome_at m b name o a h u v next f w)
    stores_outcome b name NotBuiltIn none a h u v next w at own stands left plain right =
        by_host b name a h u v next w at own stands left plain right
    stores_outcome b name (Gave r) none a h u v next w at own stands left plain right =
        assigns_at on n low f names b (record h { value = r }) name next w at
        (none_names clean n r none) (may_stand b r (no_cell r none))
    stores_outcome b name (ArithmeticFault s) none a h u v next w at own stands left plain right =
        raising on n low f names (Plain (Arithmetic s) (rules.position m f)) w at (
          omega arith,
          λ s. refl,
        )
    stores_outcome b name (TooLarge s) none a h u v next w at own stands left plain right =
        raising on n low f names (Plain (DataTooLarge s) (rules.position m f)) w at (
          omega arith,
          λ s. refl,
        )

    -- an entry that is no cell holds none
    entry_owns : (h : Held) (i : ℕ) → HeldNames clean n h → (c : Option ℕ) → cell_of h.value ≡ c →
        Owns n low f names (in_entry i c) h
    entry_owns h i named None is = (named, λ s. is)
    entry_owns h i named (Some j) is = tt

    entry_plain : (h : Held) (i : ℕ) (w : World S) → held_at w.scope i ≡ Some h → (c : Option ℕ) →
        cell_of h.value ≡ c → HoldsPlain (in_entry i c) w.scope w.roots
    entry_plain h i w is None none =
        λ g also. subst (λ (x : Held). cell_of x.value ≡ None) (one_held h g is also) none where
          one_held : (h g : Held) → held_at w.scope i ≡ Some h → held_at w.scope i ≡ Some g → h ≡ g
          one_held h g is also = cc
    entry_plain h i w is (Some j) cell = tt

    pub op_assigns : (a : AssignOp) (slot k next : ℕ) (w : World S) → Here on n low f names w →
        Stays on n low f names (rules.assign_op m a slot k next f w)
    op_assigns a slot k next w at =
        let name = name_of m.program k in
        let tail : Held → Dynamic → Act S = λ h v. rules.flattened m h name f w (λ u.
        rules.store_outcome m (op_assigned m.engine a u v) a h u
        (record (top f.operands) { value = v }) slot k next f w) in
        looking on n low f names slot w at
        (λ h. rules.flattened m (top f.operands) name f w (λ v.
        if is_read_only w h then rules.assignment_to_constant m k f w else tail h v))
        (λ h is named. reading on n low f names (top f.operands) name w at (last on n low f names)
        (λ v. if is_read_only w h then rules.assignment_to_constant m k f w else tail h v)
        (λ v right plain. by_test (Stays on n low f names) (is_read_only w h)
        (rules.assignment_to_constant m k f w) (tail h v)
        (λ constant. refuses on n low f names k w at)
        (λ may. reading on n low f names h name w at named
        (λ u. rules.store_outcome m (op_assigned m.engine a u v) a h u
        (record (top f.operands) { value = v }) slot k next f w)
        (λ u left flat. stores_outcome (in_entry (f.base + slot) (cell_of h.value)) name
        (op_assigned m.engine a u v) (op_assigned_plain m.engine a u v) a h u
        (record (top f.operands) { value = v }) next w at
        (entry_owns h (f.base + slot) named (cell_of h.value) refl)
        (entry_plain h (f.base + slot) w is (cell_of h.value) refl) left flat
        (right, λ s. plain)))))

    -- a place at which no cell stands is firm, and a cell is none of the roots
    pub place_owns : (h : Held) (p : Place) (c : Option ℕ) → Owns n low f names (at_place_of p c) h
    place_owns h p None = tt
    place_owns h p (Some j) = tt

    pub place_plain : (p : Place) (w : World S) (c : Option ℕ) → cell_of (look w.roots p).value ≡ c →
        HoldsPlain (at_place_of p c) w.scope w.roots
    place_plain p w None none = firm_look w.roots p none
    place_plain p w (Some j) cell = tt

    pub pushes_outcome : (o : Outcome) → NamesNone o → (name : List ℕ) (args : List Held) (next : ℕ)
        (ops : List Held) (w : World S) → Here on n low f names w → Arguments clean n args →
        Operands clean n ops → Stays on n low f names (rules.push_outcome m o name args next ops f
        w)
    pushes_outcome NotBuiltIn none name args next ops w at given left =
        giving on n low f names (λ v w1. rules.pushed m f next ops v w1)
        (λ k le v w1 there named. pushing on k (omega (arith, low, le)) f (frame_wider on n k f le names)
        next ops v w1 there
        (all_wider (HeldNames clean n) (HeldNames clean k) (held_wider clean n k le) ops left) named)
        name args w at given
    pushes_outcome (Gave v) none name args next ops w at given left =
        pushing on n low f names next ops v w at left (none_names clean n v none)
    pushes_outcome (ArithmeticFault s) none name args next ops w at given left =
        raising on n low f names (Plain (Arithmetic s) (rules.position m f)) w at (
          omega arith,
          λ s. refl,
        )
    pushes_outcome (TooLarge s) none name args next ops w at given left =
        raising on n low f names (Plain (DataTooLarge s) (rules.position m f)) w at (
          omega arith,
          λ s. refl,
        )
