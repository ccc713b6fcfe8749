-- Roots through each instruction but a chain, and through a handler that catches.
use Rattle.std.proofs.Common.{◌≡◌, ◌+◌, ◌∙◌, ℕ, List, [], ◌∷◌, ◌++◌, Option, Some, None, Bool, true, false, if◌then◌else◌, nat_lt, length, take, refl, sym}
use Rattle.std.specs.Prelude.{codes}
use Rattle.grain_value.specs.Cells.{idle}
use Rattle.grain_value.specs.Looking.{cell_of, truth_of}
use Rattle.grain_value.specs.Operands.{below, read_write, top}
use Rattle.grain_value.specs.Scopes.{new_entry, set_held}
use Rattle.grain_value.specs.Writing.{type_name_of}
use Rattle.grain_value.specs.declared.values.Dynamic.{Dynamic}
use Rattle.grain_value.specs.declared.values.Dynamic.TheVariants as dynamic
use Rattle.grain_value.specs.declared.values.Held.{Held}
use Rattle.grain_fault.specs.Problems.{Problem, Plain, Arithmetic, AssignmentToConstant, DataTooLarge, Malformed, MismatchDataType, TooManyVariables, UnboundThis}
use Rattle.grain_fault.specs.declared.faults.MalformedKind.TheVariants as kind
use Rattle.grain_fault.specs.declared.places.Position.{Position}
use Rattle.grain_host.specs.Signatures.{says_missing}
use Rattle.grain_ops.specs.Outcomes.{Outcome, NotBuiltIn, Gave, ArithmeticFault, TooLarge}
use Rattle.grain_program.specs.View.{name_of}
use Rattle.grain_program.specs.declared.code.parts.AssignOp.{AssignOp}
use Rattle.grain_means.specs.Places.{look}
use Rattle.grain_means.specs.Rules as rules
use Rattle.grain_means.specs.Rules.{Home, InScope, InCell, agrees, at_place_of, content_now, in_entry, is_full, is_read_only, name_at, op_assigned, stepped}
use Rattle.grain_means.specs.Worlds.{Act, Frame, Place, Setup, World}
use Rattle.grain_means.proofs.Footing.{by_test}
use Rattle.grain_means.proofs.Touching.Frames.{At, MayAt, Stays, asks, assigns_at, backs, jumps, looks, marks, onward, pushes, raises, reads}
use Rattle.grain_means.proofs.Touching.Writes.{may_own}

module _ {S : Type 0} (m : Setup S) (t : Option Place) (old : List Held) (f : Frame)
    (is : f.this ≡ t) where
  abbrev Here : World S → Type 0
  Here w = At m t old w

  abbrev Keeps : Act S → Type 0
  Keeps act = Stays m t old act

  goes_on : (g : Frame) → g.this ≡ t → (w : World S) → Here w → Keeps (rules.onward m f g w)
  goes_on = onward m t old f is

  gives : (next : ℕ) (ops : List Held) (v : Dynamic) (w : World S) → Here w →
      Keeps (rules.pushed m f next ops v w)
  gives = pushes m t old f is

  refuses : (x : Problem) (w : World S) → Here w → Keeps (rules.raised m f x w)
  refuses = raises m t old f is

  -- entries of the scope
  pub may_entry : (i : ℕ) (c : Option ℕ) → MayAt m t old (in_entry i c)
  may_entry i None = tt
  may_entry i (Some j) = tt

  pub stores : (flag : Bool) (slot next : ℕ) (w : World S) → Here w →
      Keeps (rules.store_local m flag slot next f w)
  stores flag slot next w at =
      looks m t old f is slot w at
      (λ h. rules.operand_for m (cell_of h.value) f w (λ v. rules.write_entry m h slot
      (record { value = v; read_only = flag }) [] next f w))
      (λ h. by_cell (cell_of h.value)) where
        by_cell : (c : Option ℕ) → Keeps (rules.operand_for m c f w
            (λ v. rules.assigned_at m (in_entry (f.base + slot) c)
            (record { value = v; read_only = flag }) [] next f w))
        by_cell None =
            assigns_at m t old f is (InScope (f.base + slot)) tt
            (record { value = (top f.operands).value; read_only = flag }) [] next w at
        by_cell (Some i) =
            reads m t old f is (top f.operands) [] w at
            (λ v. rules.assigned_at m (InCell i) (record { value = v; read_only = flag }) [] next f w)
            (λ v. assigns_at m t old f is (InCell i) tt (record { value = v; read_only = flag }) [] next
            w at)

  pub declares : (flag : Bool) (name : List ℕ) (next : ℕ) (w : World S) → Here w →
      Keeps (rules.declare m flag name next f w)
  declares flag name next w at =
      reads m t old f is (top f.operands) [] w at
      (λ v. if is_full m.engine.limits.variables w.scope
      then rules.raised m f (Plain TooManyVariables (rules.position m f)) w
      else rules.marked m f w (more v))
      (λ v. by_test Keeps (is_full m.engine.limits.variables w.scope)
      (rules.raised m f (Plain TooManyVariables (rules.position m f)) w)
      (rules.marked m f w (more v))
      (λ full. refuses (Plain TooManyVariables (rules.position m f)) w at)
      (λ room. marks m t old f w (more v) at
      (goes_on (stepped f next (below f.operands)) is (record w {
        passed = w.passed + 1;
        scope = w.scope ++ new_entry name (record { value = v; read_only = flag }) ∷ [];
      }) at))) where
        more : Dynamic → World S → Act S
        more v w1 = rules.onward m f (stepped f next (below f.operands)) (record w1 {
          scope = w1.scope ++ new_entry name (record { value = v; read_only = flag }) ∷ [];
        })

  pub assigns : (slot name next : ℕ) (w : World S) → Here w →
      Keeps (rules.assign m slot name next f w)
  assigns slot name next w at =
      looks m t old f is slot w at
      (λ h. rules.flattened m (top f.operands) (name_of m.program name) f w (tail h))
      (λ h. reads m t old f is (top f.operands) (name_of m.program name) w at (tail h)
      (λ v. by_test Keeps (is_read_only w h) (rules.assignment_to_constant m name f w)
      (rules.write_entry m h slot (record h { value = v }) (name_of m.program name) next f w)
      (λ constant. refuses (Plain (AssignmentToConstant (name_of m.program name))
      (rules.position m f)) w at)
      (λ may. assigns_at m t old f is (in_entry (f.base + slot) (cell_of h.value))
      (may_entry (f.base + slot) (cell_of h.value)) (record h { value = v })
      (name_of m.program name) next w at))) where
        tail : Held → Dynamic → Act S
        tail h v = if is_read_only w h then rules.assignment_to_constant m name f w
            else rules.write_entry m h slot (record h { value = v }) (name_of m.program name) next f w

  pub loads : (slot next : ℕ) (w : World S) → Here w → Keeps (rules.load_local m slot next f w)
  loads slot next w at =
      looks m t old f is slot w at
      (λ h. rules.flattened m h (name_at w.scope (f.base + slot)) f w
      (λ v. rules.pushed m f next f.operands v w))
      (λ h. reads m t old f is h (name_at w.scope (f.base + slot)) w at
      (λ v. rules.pushed m f next f.operands v w) (λ v. gives next f.operands v w at))

  pub loads_shared : (slot next : ℕ) (w : World S) → Here w →
      Keeps (rules.load_shared m slot next f w)
  loads_shared slot next w at =
      looks m t old f is slot w at (λ h. rules.pushed m f next f.operands h.value w)
      (λ h. gives next f.operands h.value w at)

  pub shares : (slot next : ℕ) (w : World S) → Here w → Keeps (rules.share m slot next f w)
  shares slot next w at =
      looks m t old f is slot w at (λ h. rules.shared m (cell_of h.value) h slot next f w)
      (λ h. by_cell h (cell_of h.value)) where
        by_cell : (h : Held) (c : Option ℕ) → Keeps (rules.shared m c h slot next f w)
        by_cell h (Some i) = goes_on (stepped f next f.operands) is w at
        by_cell h None =
            marks m t old f w (λ w1. rules.marked m f (record w1 { cells = w1.cells ++ idle h ∷ [] })
            (λ w2. rules.onward m f (stepped f next f.operands) (record w2 {
              scope = set_held w2.scope (f.base + slot) (read_write (dynamic.Cell (length w1.cells)));
            }))) at
            (marks m t old f (record w { passed = w.passed + 1; cells = w.cells ++ idle h ∷ [] })
            (λ w2. rules.onward m f (stepped f next f.operands) (record w2 {
              scope = set_held w2.scope (f.base + slot) (read_write (dynamic.Cell (length w.cells)));
            })) at
            (goes_on (stepped f next f.operands) is (record w {
              passed = w.passed + 1 + 1;
              cells = w.cells ++ idle h ∷ [];
              scope = set_held w.scope (f.base + slot) (read_write (dynamic.Cell (length w.cells)));
            }) at))

  -- operators and op-assignments
  by_operator : (a : Home) → MayAt m t old a → (name op : List ℕ) (h u v : Held) (next : ℕ)
      (w : World S) → Here w → Keeps (rules.operator_at m a name op h u v next f w)
  by_operator a may name op h u v next w at =
      asks m t old f is None tt
      (λ r w1. rules.flattened m (read_write r) name f w1 (λ q.
      rules.assigned_at m a (record h { value = q }) name next f w1)) (rules.raised m f)
      (λ r w1 there. reads m t old f is (read_write r) name w1 there
      (λ q. rules.assigned_at m a (record h { value = q }) name next f w1)
      (λ q. assigns_at m t old f is a may (record h { value = q }) name next w1 there))
      refuses op (u ∷ v ∷ []) w at

  -- the operator of an op-assignment that the host does not have
  abbrev again : Home → List ℕ → AssignOp → Held → Held → ℕ → World S → Act S
  again a name o h v next w =
      rules.operator_at m a name (name_of m.program o.op_name) h
      (record h { value = content_now a h w }) v next f (record w { trace = [] })

  by_host : (a : Home) → MayAt m t old a → (name : List ℕ) (o : AssignOp) (h : Held) (u : Dynamic)
      (v : Held) (next : ℕ) (w : World S) → Here w →
      Keeps (rules.native_assigned_at m a name o h u v next f w)
  by_host a may name o h u v next w at =
      asks m t old f is (Some (record { home = a; held = record h { value = u } }))
      (backs m t old a may)
      (λ r w1. rules.onward m f (stepped f next (below f.operands)) w1)
      (rules.op_assign_failed_at m a name o h v next f)
      (λ r w1 there. goes_on (stepped f next (below f.operands)) is w1 there)
      (λ x w1 there. by_test Keeps (says_missing (name_of m.program o.op_assign_name) x)
      (rules.marked m f w1 (again a name o h v next))
      (rules.raised m f x w1)
      (λ missing. marks m t old f w1 (again a name o h v next) there
      (by_operator a may name (name_of m.program o.op_name) h (record h { value = content_now a h w1 })
      v next (record w1 { passed = w1.passed + 1; trace = [] }) there))
      (λ other. refuses x w1 there))
      (name_of m.program o.op_assign_name) (v ∷ []) w at

  stores_outcome : (a : Home) → MayAt m t old a → (name : List ℕ) (r : Outcome) (o : AssignOp)
      (h : Held) (u : Dynamic) (v : Held) (next : ℕ) (w : World S) → Here w →
      Keeps (rules.outcome_at m a name r o h u v next f w)
  stores_outcome a may name NotBuiltIn o h u v next w at = by_host a may name o h u v next w at
  stores_outcome a may name (Gave r) o h u v next w at =
      assigns_at m t old f is a may (record h { value = r }) name next w at
  stores_outcome a may name (ArithmeticFault s) o h u v next w at =
      refuses (Plain (Arithmetic s) (rules.position m f)) w at
  stores_outcome a may name (TooLarge s) o h u v next w at =
      refuses (Plain (DataTooLarge s) (rules.position m f)) w at

  pub op_assigns : (a : AssignOp) (slot k next : ℕ) (w : World S) → Here w →
      Keeps (rules.assign_op m a slot k next f w)
  op_assigns a slot k next w at =
      looks m t old f is slot w at
      (λ h. rules.flattened m (top f.operands) name f w (tail h))
      (λ h. reads m t old f is (top f.operands) name w at (tail h)
      (λ v. by_test Keeps (is_read_only w h) (rules.assignment_to_constant m k f w) (last h v)
      (λ constant. refuses (Plain (AssignmentToConstant name) (rules.position m f)) w at)
      (λ may. reads m t old f is h name w at (store h v)
      (λ u. stores_outcome (in_entry (f.base + slot) (cell_of h.value))
      (may_entry (f.base + slot) (cell_of h.value)) name (op_assigned m.engine a u v) a h u
      (record (top f.operands) { value = v }) next w at)))) where
        name : List ℕ
        name = name_of m.program k

        store : Held → Dynamic → Dynamic → Act S
        store h v u = rules.store_outcome m (op_assigned m.engine a u v) a h u
            (record (top f.operands) { value = v }) slot k next f w

        last : Held → Dynamic → Act S
        last h v = rules.flattened m h name f w (store h v)

        tail : Held → Dynamic → Act S
        tail h v = if is_read_only w h then rules.assignment_to_constant m k f w else last h v

  pub pushes_outcome : (o : Outcome) (name : List ℕ) (args : List Held) (next : ℕ) (ops : List Held)
      (w : World S) → Here w → Keeps (rules.push_outcome m o name args next ops f w)
  pushes_outcome NotBuiltIn name args next ops w at =
      asks m t old f is None tt (λ v w1. rules.pushed m f next ops v w1) (rules.raised m f)
      (λ v w1 there. gives next ops v w1 there) refuses name args w at
  pushes_outcome (Gave v) name args next ops w at = gives next ops v w at
  pushes_outcome (ArithmeticFault s) name args next ops w at =
      refuses (Plain (Arithmetic s) (rules.position m f)) w at
  pushes_outcome (TooLarge s) name args next ops w at =
      refuses (Plain (DataTooLarge s) (rules.position m f)) w at

  -- the frame's `this`
  at_place : (o : Option Place) → f.this ≡ o → (q : Position) (w : World S) → Here w →
      (go : Place → Act S) → ((p : Place) → f.this ≡ Some p → Keeps (go p)) →
      Keeps (rules.at_place m o q f w go)
  at_place None e q w at go going = refuses (Plain UnboundThis q) w at
  at_place (Some p) e q w at go going = going p e

  pub finds_this : (q : Position) (w : World S) → Here w → (go : Place → Act S) →
      ((p : Place) → f.this ≡ Some p → Keeps (go p)) → Keeps (rules.at_place m f.this q f w go)
  finds_this q w at go going = at_place f.this refl q w at go going

  may_this : (p : Place) → f.this ≡ Some p → (c : Option ℕ) → MayAt m t old (at_place_of p c)
  may_this p e None = may_own t (length old) p (sym is ∙ e)
  may_this p e (Some i) = tt

  pub loads_this : (next : ℕ) (w : World S) → Here w → Keeps (rules.load_this m next f w)
  loads_this next w at =
      finds_this (rules.position m f) w at
      (λ p. rules.flattened m (look w.roots p) [] f w (λ v. rules.pushed m f next f.operands v w))
      (λ p e. reads m t old f is (look w.roots p) [] w at
      (λ v. rules.pushed m f next f.operands v w) (λ v. gives next f.operands v w at))

  pub loads_this_shared : (next : ℕ) (w : World S) → Here w →
      Keeps (rules.load_this_shared m next f w)
  loads_this_shared next w at =
      finds_this (rules.position m f) w at
      (λ p. rules.pushed m f next f.operands (look w.roots p).value w)
      (λ p e. gives next f.operands (look w.roots p).value w at)

  pub requires_this : (next : ℕ) (w : World S) → Here w → Keeps (rules.require_this m next f w)
  requires_this next w at =
      finds_this (rules.position m f) w at (λ p. rules.onward m f (stepped f next f.operands) w)
      (λ p e. goes_on (stepped f next f.operands) is w at)

  pub assigns_this : (next : ℕ) (w : World S) → Here w → Keeps (rules.assign_this m next f w)
  assigns_this next w at =
      reads m t old f is (top f.operands) [] w at
      (λ v. rules.at_this m f w (writing v))
      (λ v. finds_this (rules.position m f) w at (writing v)
      (λ p e. by_test Keeps (is_read_only w (look w.roots p))
      (rules.raised m f (Plain (AssignmentToConstant []) (rules.position m f)) w)
      (rules.assigned_at m (at_place_of p (cell_of (look w.roots p).value))
      (record (look w.roots p) { value = v }) [] next f w)
      (λ constant. refuses (Plain (AssignmentToConstant []) (rules.position m f)) w at)
      (λ may. assigns_at m t old f is (at_place_of p (cell_of (look w.roots p).value))
      (may_this p e (cell_of (look w.roots p).value)) (record (look w.roots p) { value = v }) [] next w
      at))) where
        writing : Dynamic → Place → Act S
        writing v p = rules.unless_read_only m (look w.roots p) f w
            (rules.assigned_at m (at_place_of p (cell_of (look w.roots p).value))
            (record (look w.roots p) { value = v }) [] next f w)

  pub op_assigns_this : (o : AssignOp) (next : ℕ) (w : World S) → Here w →
      Keeps (rules.assign_this_op m o next f w)
  op_assigns_this o next w at =
      reads m t old f is (top f.operands) [] w at
      (λ v. rules.at_this m f w (changing v))
      (λ v. finds_this (rules.position m f) w at (changing v)
      (λ p e. by_test Keeps (is_read_only w (look w.roots p))
      (rules.raised m f (Plain (AssignmentToConstant []) (rules.position m f)) w)
      (rules.flattened m (look w.roots p) [] f w (storing v p))
      (λ constant. refuses (Plain (AssignmentToConstant []) (rules.position m f)) w at)
      (λ may. reads m t old f is (look w.roots p) [] w at (storing v p)
      (λ u. stores_outcome (at_place_of p (cell_of (look w.roots p).value))
      (may_this p e (cell_of (look w.roots p).value)) [] (op_assigned m.engine o u v) o
      (look w.roots p) u (record (top f.operands) { value = v }) next w at)))) where
        storing : Dynamic → Place → Dynamic → Act S
        storing v p u = rules.outcome_at m (at_place_of p (cell_of (look w.roots p).value)) []
            (op_assigned m.engine o u v) o (look w.roots p) u
            (record (top f.operands) { value = v }) next f w

        changing : Dynamic → Place → Act S
        changing v p = rules.unless_read_only m (look w.roots p) f w
            (rules.flattened m (look w.roots p) [] f w (storing v p))

  -- transfers
  pub jumping : (g : Frame) → g.this ≡ t → (w : World S) → Here w → Keeps (rules.jumped m f g w)
  jumping g too w at = jumps m t old f is g too w at

  pub tests_top : (wanted : Bool) (target next : ℕ) (w : World S) → Here w →
      Keeps (rules.jump_if m wanted target next f w)
  tests_top wanted target next w at =
      reads m t old f is (top f.operands) [] w at
      (λ v. rules.tested m wanted (truth_of v) v target next f w) (λ v. tests v (truth_of v)) where
        branches : (taken : Bool) → Keeps (rules.branched m taken target next f w)
        branches true = jumping (stepped f target (below f.operands)) is w at
        branches false = goes_on (stepped f next (below f.operands)) is w at

        tests : (v : Dynamic) (o : Option Bool) → Keeps (rules.tested m wanted o v target next f w)
        tests v (Some b) = branches (agrees wanted b)
        tests v None =
            refuses (Plain (MismatchDataType (codes "bool") (type_name_of v)) (rules.position m f)) w at

  pub skips : (unit : Bool) (target next : ℕ) (w : World S) → Here w →
      Keeps (rules.skip m unit target next f w)
  skips true target next w at = goes_on (stepped f next f.operands) is w at
  skips false target next w at = jumping (stepped f target f.operands) is w at

  pub unwinds : (k next : ℕ) (w : World S) → Here w → Keeps (rules.unwind m k next f w)
  unwinds k next w at =
      let past = Plain (Malformed (kind.UnwindPastScope k (length w.scope))) (rules.position m f) in
      by_test Keeps (nat_lt (length w.scope) k) (rules.raised m f past w)
      (rules.onward m f (stepped f next f.operands) (record w { scope = take k w.scope }))
      (λ short. refuses past w at)
      (λ there. goes_on (stepped f next f.operands) is (record w { scope = take k w.scope }) at)
