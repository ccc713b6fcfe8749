-- A chain: its root is found, a walk is taken from it, and the root goes back.
use Rattle.std.specs.Prelude.{ℕ, ◌+◌, ◌&&◌, slice_get, slice_set, List, [], ◌∷◌, ◌++◌, Option, Some, None, Bool, false, if◌then◌else◌, length, take}
use Rattle.grain_value.specs.declared.values.Dynamic.{Dynamic}
use Rattle.grain_value.specs.declared.values.Held.{Held}
use Rattle.grain_value.specs.declared.stores.Cell.{Cell}
use Rattle.grain_value.specs.Cells.{idle, lent}
use Rattle.grain_value.specs.Looking.{cell_of}
use Rattle.grain_value.specs.Operands.{top, under, arguments}
use Rattle.grain_value.specs.Scopes.{set_held}
use Rattle.grain_fault.specs.declared.places.Position.{Position}
use Rattle.grain_fault.specs.Problems.{Plain, AssignmentToConstant}
use Rattle.grain_program.specs.declared.code.chains.Chain.{Chain}
use Rattle.grain_program.specs.declared.code.chains.Root.{Root}
use Rattle.grain_program.specs.declared.code.chains.Root.TheVariants as root
use Rattle.grain_program.specs.declared.code.chains.Step.{Step}
use Rattle.grain_program.specs.declared.code.chains.Step.TheVariants as step
use Rattle.grain_program.specs.declared.code.chains.Tail.{Tail}
use Rattle.grain_program.specs.declared.code.chains.Tail.TheVariants as tail
use Rattle.grain_program.specs.declared.code.parts.AssignOp.{AssignOp}
use Rattle.grain_program.specs.Chains.{assigns, chain_takes, slot_of}
use Rattle.grain_program.specs.View.{View, name_of, chain_of, assign_op_of}
use Rattle.grain_means.specs.Worlds.{Place, Frame, World, Act, Setup}
use Rattle.grain_means.specs.Places.{look}
use Rattle.grain_means.specs.Tasks.{Walked, WalkEnded, WalkFailed, Task}
use Rattle.grain_means.specs.Walks.{Course, asks_shared, whole_walk}
use Rattle.grain_means.specs.Rules.Frames.{without, is_read_only}
use Rattle.grain_means.specs.Rules.Faults.{position, marked, raised, data_race}
use Rattle.grain_means.specs.Rules.Going.{pushed}
use Rattle.grain_means.specs.Rules.Reads.{flattened}
use Rattle.grain_means.specs.Rules.Entries.{at_slot}
use Rattle.grain_means.specs.Rules.Natives.{trees_in}
use Rattle.grain_means.specs.Rules.This.{at_place}
use Rattle.grain_means.specs.Rules.InWorld.{walks}

-- the name by which faults call a chain's root
abbrev pub root_name : View → Root → List ℕ
root_name p (root.Local name slot) = name_of p name
root_name p (root.This q) = []
root_name p root.Temporary = []

-- how many operands a root is
abbrev pub root_operands : Root → ℕ
root_operands (root.Local name slot) = 0
root_operands (root.This q) = 0
root_operands root.Temporary = 1

-- what its steps use
abbrev pub steps_operands : Chain → List Held → List Held
steps_operands c hs = arguments c.operands (under (root_operands c.root) hs)

-- what it assigns
abbrev pub assigned_operand : Chain → List Held → Held
assigned_operand c hs = top (under (c.operands + root_operands c.root) hs)

-- the op-assignment by which it assigns, if any
abbrev pub operator_of : View → Tail → Option AssignOp
operator_of p tail.Read = None
operator_of p (tail.Assign None) = None
operator_of p (tail.Assign (Some a)) = Some (assign_op_of p a)

-- whether a chain begins by asking whether its root is a shared variable
abbrev pub asks_root : View → List Step → Bool
asks_root p (step.Method name argc i flags q ∷ steps) =
    asks_shared (name_of p name) argc
asks_root p steps = false

-- the cell that is lent for a walk from what a root holds, if it is one
abbrev pub lent_cell : View → List Step → Held → Option ℕ
lent_cell p steps h = if asks_root p steps then None else cell_of h.value

-- the place of a root that is added to others
abbrev pub new_root : List Held → Place
new_root roots = record { root = length roots; path = [] }

-- after the walk a root that is no cell goes back to the entry that held it; if no entry did, it goes
abbrev pub back_from : {S : Type 0} → Root → Frame → Held → World S → World S
back_from (root.Local name slot) f h w = record w { scope = set_held w.scope (f.base + slot) h }
back_from (root.This q) f h w = w
back_from root.Temporary f h w = w

module _ {S : Type 0} (m : Setup S) where
  -- where a fault of a chain's root is
  abbrev pub root_position : Root → Frame → Position
  root_position (root.Local name slot) f = position m f
  root_position (root.This q) f = q
  root_position root.Temporary f = position m f

  -- what a chain's root holds
  abbrev pub at_root : Root → Frame → World S → (Held → Act S) → Act S
  at_root (root.Local name slot) f w go = at_slot m f slot w go
  at_root (root.This q) f w go = at_place m f.this q f w (λ p. go (look w.roots p))
  at_root root.Temporary f w go = go (top f.operands)

  -- what a chain assigns, as it is read, if it assigns something
  abbrev pub assigned_value : Tail → Held → Frame → World S → (Option Dynamic → Act S) → Act S
  assigned_value tail.Read h f w go = go None
  assigned_value (tail.Assign op) h f w go = flattened m h [] f w (λ v. go (Some v))

  -- what a chain took from the operands
  abbrev pub course_of : Chain → Frame → Option Dynamic → Course
  course_of c f v = record {
    setting = record { engine = m.engine; program = m.program; position = position m f };
    operands = trees_in (steps_operands c f.operands);
    assigns = v;
    operator = operator_of m.program c.tail;
  }

  -- The walk of the chain of index k is over, in a frame without the chain's operands: its value is
  -- pushed, and nothing is left of faults that the walk passed over; or its fault is raised, for which the
  -- step is blamed.
  abbrev pub chain_over : ℕ → ℕ → Frame → Walked → World S → Act S
  chain_over k next f (WalkEnded v changed) w =
      pushed m f next f.operands v (record w { trace = [] })
  chain_over k next f (WalkFailed n x) w =
      raised m (record f { slot = Some (slot_of m.program k n) }) x w

  -- The walk of the chain of index k, from a root that is added to those of the world. However the walk
  -- ends, `back` takes the root to where it was held.
  abbrev pub walk_from : ℕ → Task → ℕ → Frame → Held → (Held → World S → World S) → World S → Act S
  walk_from k task next f h back w =
      walks m k f (new_root w.roots) (length w.roots + 1) None task
      (λ o w1. chain_over k next f o
      (back (look w1.roots (new_root w.roots)) (record w1 { roots = take (length w.roots) w1.roots })))
      (record w { roots = w.roots ++ h ∷ [] })

  -- The walk of the chain of index k from where a `this` stands, which stays there.
  abbrev pub walk_at : ℕ → Task → ℕ → Frame → Place → World S → Act S
  walk_at k task next f p w =
      walks m k f p (length w.roots) None task (λ o w1. chain_over k next f o w1) w

  -- The walk from what the cell of number n holds. That is lent: it is added as a root, which can only be
  -- read if the flag says so, and after the walk it goes back to the cell. If it is lent already, or the
  -- cell is not there, that is a fault in the frame f.
  abbrev pub walk_cell : Option Cell → ℕ → Bool → ℕ → Task → ℕ → List ℕ → Frame → Frame →
      World S → Act S
  walk_cell None n read_only k task next name f g w = data_race m name f w
  walk_cell (Some c) n read_only k task next name f g w =
      if c.busy then data_race m name f w
      else
      walk_from k task next g (record { value = c.held.value; read_only = read_only })
      (λ h w1. record w1 { cells = slice_set w1.cells n (idle (record c.held { value = h.value })) })
      (record w { cells = slice_set w.cells n (lent c.held) })

  -- the walk from a root that is no cell which is lent, and that is at this place if it is a `this`
  abbrev pub walk_held : Root → Option Place → Held → ℕ → Task → ℕ → Frame → World S → Act S
  walk_held (root.This q) (Some p) h k task next g w = walk_at k task next g p w
  walk_held r p h k task next g w = walk_from k task next g h (back_from r g) w

  -- the walk from what the chain's root holds, or, if that is a cell, from what the cell holds
  abbrev pub walk_root : Option ℕ → Held → ℕ → Chain → Task → ℕ → Frame → Frame → World S → Act S
  walk_root None h k c task next f g w = walk_held c.root g.this h k task next g w
  walk_root (Some n) h k c task next f g w =
      walk_cell (slice_get w.cells n) n (is_read_only w h) k task next
      (root_name m.program c.root) f g w

  -- a chain that assigns ends with a fault if its root can only be read
  abbrev pub unless_constant : Chain → Held → Frame → World S → Act S → Act S
  unless_constant c h f w go =
      if assigns c.tail && is_read_only w h
      then raised m f
      (Plain (AssignmentToConstant (root_name m.program c.root)) (root_position c.root f)) w
      else go

  -- The chain c, which has index k. In the frame f, in which the chain's first step is blamed, its root
  -- is found; if the chain assigns, the root may not be read-only, and the value that it assigns is read;
  -- and a mark is passed. Then comes the walk, on copies of the operands of the chain's steps, in the
  -- frame g, from which the chain's operands are gone. If the root is a cell, its content is lent for the
  -- walk, unless the chain begins by asking whether it is one.
  abbrev pub chain_in : ℕ → Chain → ℕ → Frame → Frame → World S → Act S
  chain_in k c next f g w =
      at_root c.root f w (λ h. unless_constant c h f w
      (assigned_value c.tail (assigned_operand c f.operands) f w (λ v.
      marked m f w
      (walk_root (lent_cell m.program c.steps h) h k c (whole_walk (course_of c f v) c.steps) next f g))))

  -- the chain of index k
  abbrev pub chain : ℕ → ℕ → Frame → World S → Act S
  chain k next f w =
      let c = chain_of m.program k in
      chain_in k c next (record f { slot = Some (slot_of m.program k 0) })
      (without (chain_takes c) f) w
