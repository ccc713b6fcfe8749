-- Entries of a scope are read, declared, written, and become cells.
use Rattle.std.proofs.Common.{◌≡◌, ◌≤◌, ◌+◌, ℕ, List, [], ◌∷◌, ◌++◌, Option, Some, None, Bool, if◌then◌else◌, length, refl, arith, length-append}
use Rattle.grain_value.specs.Cells.{idle}
use Rattle.grain_value.specs.Looking.{cell_of}
use Rattle.grain_value.specs.Operands.{below, read_write, top}
use Rattle.grain_value.specs.Scopes.{new_entry, set_held}
use Rattle.grain_value.specs.declared.values.Dynamic.TheVariants as dynamic
use Rattle.grain_value.specs.declared.values.Held.{Held}
use Rattle.grain_fault.specs.Problems.{Plain, AssignmentToConstant, TooManyVariables}
use Rattle.grain_program.specs.View.{name_of}
use Rattle.grain_means.specs.Contained.{EntryNames, HeldNames}
use Rattle.grain_means.specs.Rules as rules
use Rattle.grain_means.specs.Rules.{Home, InScope, InCell, in_entry, is_full, is_read_only, name_at, stepped}
use Rattle.grain_means.specs.Worlds.{Frame, Setup, World}
use Rattle.grain_means.proofs.Footing.{by_test}
use Rattle.grain_means.proofs.Naming.{CellHolds, all_joined, all_wider, cell_wider, entry_wider, set_names}
use Rattle.grain_means.proofs.Containing.Parts.{FrameNames, MayStand, may_stand}
use Rattle.grain_means.proofs.Containing.Frames.{Grounds, lower, marks, none_plain, onward}
use Rattle.grain_means.proofs.Containing.Roots.{roots_wider}
use Rattle.grain_means.proofs.Containing.Keeping.{Kept, lends_added}
use Rattle.grain_means.proofs.Containing.Steps.{frame_wider, Stays, Here, raising, pushing, going_on, reading, looking, writing, marking, last, less, moves}

module _ {S : Type 0} {m : Setup S} (on : Grounds m) where
  open on use {clean, least, since}

  module _ (n : ℕ) (low : least ≤ n) (f : Frame) (names : FrameNames clean n f) where
    -- the operand is written
    pub assigns_at : (b : Home) (g : Held) (name : List ℕ) (next : ℕ) (w : World S) →
        Here on n low f names w → HeldNames clean n g → MayStand b g.value →
        Stays on n low f names (rules.assigned_at m b g name next f w)
    assigns_at b g name next w at named may =
        writing on n low f names b g name w at named may
        (rules.onward m f (stepped f next (below f.operands)))
        (λ v there. going_on on n low f names (stepped f next (below f.operands)) v there
        (moves on n low f names next (below f.operands) (less on n low f names)))

    -- into an entry, or its cell
    enters_entry : (h : Held) (slot : ℕ) (g : Held) (name : List ℕ) (next : ℕ) (w : World S) →
        Here on n low f names w → HeldNames clean n g → cell_of g.value ≡ None →
        Stays on n low f names (rules.write_entry m h slot g name next f w)
    enters_entry h slot g name next w at named plain =
        assigns_at (in_entry (f.base + slot) (cell_of h.value)) g name next w at named
        (may_stand (in_entry (f.base + slot) (cell_of h.value)) g.value plain)

    pub stores : (flag : Bool) (slot next : ℕ) (w : World S) → Here on n low f names w →
        Stays on n low f names (rules.store_local m flag slot next f w)
    stores flag slot next w at =
        looking on n low f names slot w at
        (λ h. rules.operand_for m (cell_of h.value) f w (λ v. rules.write_entry m h slot
        (record { value = v; read_only = flag }) [] next f w))
        (λ h is named. by_cell (cell_of h.value)) where
          by_cell : (c : Option ℕ) → Stays on n low f names (rules.operand_for m c f w
              (λ v. rules.assigned_at m (in_entry (f.base + slot) c)
              (record { value = v; read_only = flag }) [] next f w))
          by_cell None =
              assigns_at (InScope (f.base + slot))
              (record { value = (top f.operands).value; read_only = flag }) [] next w at
              (last on n low f names) tt
          by_cell (Some i) =
              reading on n low f names (top f.operands) [] w at (last on n low f names)
              (λ v. rules.assigned_at m (InCell i) (record { value = v; read_only = flag }) [] next
              f w)
              (λ v read plain. assigns_at (InCell i) (record { value = v; read_only = flag }) []
              next w at read plain)

    pub declares : (flag : Bool) (name : List ℕ) (next : ℕ) (w : World S) → Here on n low f names w
        → Stays on n low f names (rules.declare m flag name next f w)
    declares flag name next w at =
        reading on n low f names (top f.operands) [] w at (last on n low f names)
        (λ v. if is_full m.engine.limits.variables w.scope
        then rules.raised m f (Plain TooManyVariables (rules.position m f)) w
        else rules.marked m f w (λ w1. rules.onward m f (stepped f next (below f.operands))
        (record w1 {
          scope = w1.scope
              ++ new_entry name (record { value = v; read_only = flag }) ∷ [];
        })))
        (λ v read plain. by_test (Stays on n low f names) (is_full m.engine.limits.variables
        w.scope) (rules.raised m f (Plain TooManyVariables (rules.position m f)) w)
        (rules.marked m f w (λ w1. rules.onward m f (stepped f next (below f.operands))
        (record w1 {
          scope = w1.scope
              ++ new_entry name (record { value = v; read_only = flag }) ∷ [];
        })))
        (λ full. raising on n low f names (Plain TooManyVariables (rules.position m f)) w at
        (omega arith, λ s. refl)) (λ room. marking on n low f names w (λ w1. rules.onward m f
        (stepped f next (below f.operands))
        (record w1 {
          scope = w1.scope
              ++ new_entry name (record { value = v; read_only = flag }) ∷ [];
        })) at
        (going_on on n low f names (stepped f next (below f.operands)) (record w {
          passed = w.passed + 1;
          scope = w.scope ++ new_entry name (record { value = v; read_only = flag }) ∷ [];
        }) (record {
          size = at.size;
          entries = all_joined (EntryNames clean n) w.scope
              (new_entry name (record { value = v; read_only = flag }) ∷ []) at.entries
              (read, tt);
          contents = at.contents;
          reaches = at.reaches;
          hands = at.hands;
          waits = at.waits;
          lends = at.lends;
          stand = at.stand;
          plain = none_plain on
              (w.scope ++ new_entry name (record { value = v; read_only = flag }) ∷ []);
        }) (moves on n low f names next (below f.operands) (less on n low f names)))))

    pub refuses : (name : ℕ) (w : World S) → Here on n low f names w →
        Stays on n low f names (rules.assignment_to_constant m name f w)
    refuses name w at =
        raising on n low f names (Plain (AssignmentToConstant (name_of m.program name))
        (rules.position m f)) w at (omega arith, λ s. refl)

    pub assigns : (slot name next : ℕ) (w : World S) → Here on n low f names w →
        Stays on n low f names (rules.assign m slot name next f w)
    assigns slot name next w at =
        looking on n low f names slot w at
        (λ h. rules.flattened m (top f.operands) (name_of m.program name) f w (λ v.
        if is_read_only w h then rules.assignment_to_constant m name f w
        else rules.write_entry m h slot (record h { value = v }) (name_of m.program name) next f w))
        (λ h is named. reading on n low f names (top f.operands) (name_of m.program name) w at
        (last on n low f names) (λ v. if is_read_only w h then rules.assignment_to_constant m name f
        w else rules.write_entry m h slot (record h { value = v }) (name_of m.program name) next f
        w)
        (λ v read plain. by_test (Stays on n low f names) (is_read_only w h)
        (rules.assignment_to_constant m name f w)
        (rules.write_entry m h slot (record h { value = v }) (name_of m.program name) next f w)
        (λ constant. refuses name w at)
        (λ may. enters_entry h slot (record h { value = v }) (name_of m.program name) next w at read
        plain)))

    pub loads : (slot next : ℕ) (w : World S) → Here on n low f names w → Stays on n low f names
        (rules.load_local m slot next f w)
    loads slot next w at =
        looking on n low f names slot w at
        (λ h. rules.flattened m h (name_at w.scope (f.base + slot)) f w
        (λ v. rules.pushed m f next f.operands v w))
        (λ h is named. reading on n low f names h (name_at w.scope (f.base + slot)) w at named
        (λ v. rules.pushed m f next f.operands v w)
        (λ v read plain. pushing on n low f names next f.operands v w at names.0 read))

    pub loads_shared : (slot next : ℕ) (w : World S) → Here on n low f names w →
        Stays on n low f names (rules.load_shared m slot next f w)
    loads_shared slot next w at =
        looking on n low f names slot w at (λ h. rules.pushed m f next f.operands h.value w)
        (λ h is named. pushing on n low f names next f.operands h.value w at names.0 named)

    -- a cell more
    pub shares : (slot next : ℕ) (w : World S) → Here on n low f names w → Stays on n low f names
        (rules.share m slot next f w)
    shares slot next w at =
        looking on n low f names slot w at (λ h. rules.shared m (cell_of h.value) h slot next f w)
        (λ h is named. by_cell h named (cell_of h.value) refl) where
          by_cell : (h : Held) → HeldNames clean n h → (c : Option ℕ) → cell_of h.value ≡ c →
              Stays on n low f names (rules.shared m c h slot next f w)
          by_cell h named (Some i) is =
              going_on on n low f names (stepped f next f.operands) w at (moves on n low f names
              next f.operands names.0)
          by_cell h named None is =
              let k : ℕ = n + 1 in
              let more : n ≤ k = omega arith in
              let grown : World S = record w {
                passed = w.passed + 1;
                cells = w.cells ++ idle h ∷ [];
              } in
              let cell : Held = read_write (dynamic.Cell (length w.cells)) in
              let wide : Kept m.law clean k since w.scope (w.cells ++ idle h ∷ []) w.host w.roots =
              record {
                size = omega (arith, length-append w.cells (idle h ∷ []), at.size);
                entries = all_wider (EntryNames clean n) (EntryNames clean k) (entry_wider clean n k
                    more) w.scope at.entries;
                contents = all_joined (CellHolds clean k) w.cells (idle h ∷ [])
                    (all_wider (CellHolds clean n) (CellHolds clean k) (cell_wider clean n k more)
                    w.cells at.contents) (
                      record { flat = is; names = (omega (arith, named.0), named.1) },
                      tt,
                    );
                reaches = omega (arith, at.reaches);
                hands = at.hands;
                waits = at.waits;
                lends = lends_added w.cells since.cells h at.lends;
                stand = roots_wider clean n k more w.roots since.roots at.stand;
                plain = at.plain;
              } in
              let set : Kept m.law clean k since (set_held w.scope (f.base + slot) cell)
              (w.cells ++ idle h ∷ []) w.host w.roots = record {
                size = wide.size;
                entries = set_names clean k w.scope (f.base + slot) cell wide.entries
                    (omega (arith, at.size), λ s. refl);
                contents = wide.contents;
                reaches = wide.reaches;
                hands = wide.hands;
                waits = wide.waits;
                lends = wide.lends;
                stand = wide.stand;
                plain = none_plain on (set_held w.scope (f.base + slot) cell);
              } in
              let wider = frame_wider on n k f more names in
              marking on n low f names w (λ w1. rules.marked m f
              (record w1 { cells = w1.cells ++ idle h ∷ [] })
              (λ w2. rules.onward m f (stepped f next f.operands) (record w2 {
                scope = set_held w2.scope (f.base + slot)
                    (read_write (dynamic.Cell (length w1.cells)));
              }))) at
              (lower on n k (rules.marked m f grown (λ w2. rules.onward m f
              (stepped f next f.operands)
              (record w2 { scope = set_held w2.scope (f.base + slot) cell }))) more
              (marks on k (omega (arith, low)) f grown
              (λ w2. rules.onward m f (stepped f next f.operands)
              (record w2 { scope = set_held w2.scope (f.base + slot) cell })) wide
              (onward on k (omega (arith, low)) f wider
              (stepped f next f.operands) (record grown {
                passed = grown.passed + 1;
                scope = set_held w.scope (f.base + slot) cell;
              }) set wider)))
