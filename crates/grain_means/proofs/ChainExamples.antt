-- Chains in a world: what they leave of the scope, the cells and the roots, and where a fault blames a
-- step.
use Rattle.std.specs.Prelude.{◌≡◌, ℕ, pos, true, false, List, [], ◌∷◌, Option, Some, None, refl, codes}
use Rattle.grain_value.specs.Cells.{idle}
use Rattle.grain_value.specs.Operands.{read_write}
use Rattle.grain_value.specs.Scopes.{new_entry}
use Rattle.grain_value.specs.Tree.{Tree, integer}
use Rattle.grain_value.specs.View.{tree}
use Rattle.grain_value.specs.declared.stores.Cell.{Cell}
use Rattle.grain_value.specs.declared.values.Dynamic.{Dynamic}
use Rattle.grain_value.specs.declared.values.Dynamic.TheVariants as dynamic
use Rattle.grain_value.specs.declared.values.Held.{Held}
use Rattle.grain_fault.specs.Places.{nowhere}
use Rattle.grain_fault.specs.Problems.{Plain, ArrayBounds, AssignmentToConstant, DataRace, MismatchDataType}
use Rattle.grain_fault.specs.declared.places.Position.{Position}
use Rattle.grain_global.specs.declared.engines.Engine.{Engine}
use Rattle.grain_host.specs.Law.{Law}
use Rattle.grain_program.specs.View.{View}
use Rattle.grain_program.specs.declared.code.chains.Chain.{Chain}
use Rattle.grain_program.specs.declared.code.chains.Root.{Root}
use Rattle.grain_program.specs.declared.code.chains.Root.TheVariants as root
use Rattle.grain_program.specs.declared.code.chains.Step.{Step}
use Rattle.grain_program.specs.declared.code.chains.Step.TheVariants as step
use Rattle.grain_program.specs.declared.code.chains.StepFlags.{StepFlags}
use Rattle.grain_program.specs.declared.code.chains.Tail.{Tail}
use Rattle.grain_program.specs.declared.code.chains.Tail.TheVariants as tail
use Rattle.grain_means.specs.Rules.{chain}
use Rattle.grain_means.specs.Worlds.{Act, Answer, End, Failed, Frame, Go, InFrame, Setup, Then, World}

abbrev no_flags : StepFlags
no_flags = record { 0 = 0 }

abbrev index_at : Position
index_at = record { line = 2; column = 5 }

abbrev index : ℕ → Step
index operand = step.Index operand no_flags index_at nowhere

abbrev chain_over : Root → List Step → Tail → ℕ → Chain
chain_over r steps t operands = record { root = r; steps = steps; tail = t; operands = operands }

abbrev local : Root
local = root.Local 0 0

-- the first chain writes an element of an element of a variable, the second one reads it from a value
-- that nothing holds
abbrev writing : Chain
writing = chain_over local (index 0 ∷ index 1 ∷ []) (tail.Assign None) 2

abbrev reading : Chain
reading = chain_over root.Temporary (index 0 ∷ index 1 ∷ []) tail.Read 2

-- the third one asks whether a variable is shared
abbrev sharing : Chain
sharing = chain_over local (step.Method 1 0 0 no_flags index_at ∷ []) tail.Read 0

-- the fourth one puts an operand after the values of a pointer that nothing holds
abbrev currying : Chain
currying = chain_over root.Temporary (step.Method 2 1 0 no_flags index_at ∷ []) tail.Read 1

abbrev pair : ℕ → ℕ → Dynamic
pair a b = dynamic.Array (integer (pos a) ∷ integer (pos b) ∷ [])

abbrev nested : ℕ → Tree
nested a = tree (pair a 2)

module _ {S : Type 0} (law : Law S) (engine : Engine) (program : View) (host : S) where
  abbrev m : Setup S
  m = record {
    law = law;
    program = record program {
      chains = writing ∷ reading ∷ sharing ∷ currying ∷ [];
      names = codes "x" ∷ codes "is_shared" ∷ codes "curry" ∷ [];
      positions = [];
    };
    engine = engine;
    stop = None;
  }

  abbrev frame : List Held → Frame
  frame operands = record {
    address = 0;
    operands = operands;
    cursors = [];
    totals = [];
    handlers = [];
    base = 0;
    floor = 1;
    this = None;
    slot = None;
    position = None;
  }

  abbrev world : Held → List Cell → World S
  world h cells = record {
    roots = [];
    scope = new_entry (codes "x") h ∷ [];
    cells = cells;
    host = host;
    count = 0;
    level = 0;
    trace = [];
    ran = 1;
    passed = 1;
    tokens = Some [];
  }

  -- the value that a frame's last operand then has, the trace, the slots in it, and the world
  abbrev world_in : Act S → World S
  world_in (Go t w) = w
  world_in (End a w) = w
  world_in (Then first rest) = world_in first

  abbrev operands_in : Act S → List Held
  operands_in (Go (InFrame f) w) = f.operands
  operands_in act = []

  abbrev ends_so : Act S → Option Answer
  ends_so (Go t w) = None
  ends_so (End a w) = Some a
  ends_so (Then first rest) = None

  abbrev held : Dynamic → Held
  held = read_write

  abbrev grid : ℕ → Dynamic
  grid a = dynamic.Array (nested 7 ∷ nested a ∷ [])

  abbrev int : ℕ → Held
  int n = read_write (dynamic.Int (pos n))

  -- x[1][0] = 9
  abbrev written : Act S
  written = chain m 0 3 (frame (int 9 ∷ int 1 ∷ int 0 ∷ [])) (world (held (grid 1)) [])

  pub written_scope : (world_in written).scope ≡ new_entry (codes "x") (held (grid 9)) ∷ []
  written_scope = refl

  pub written_gives : operands_in written ≡ held dynamic.Unit ∷ []
  written_gives = refl

  pub written_roots : (world_in written).roots ≡ []
  written_roots = refl

  -- x[1][5] = 9: the second step is blamed, whose slots are after the two of the first
  abbrev past_end : Act S
  past_end = chain m 0 3 (frame (int 9 ∷ int 1 ∷ int 5 ∷ [])) (world (held (grid 1)) [])

  pub past_end_fault : ends_so past_end ≡ Some (Failed (Plain (ArrayBounds 2 (pos 5)) index_at))
  past_end_fault = refl

  pub past_end_trace : (world_in past_end).trace ≡ record { address = 0; slot = Some 2 } ∷ []
  past_end_trace = refl

  pub past_end_scope : (world_in past_end).scope ≡ new_entry (codes "x") (held (grid 1)) ∷ []
  past_end_scope = refl

  -- a constant is not assigned to
  abbrev refused : Act S
  refused = chain m 0 3 (frame (int 9 ∷ int 1 ∷ int 0 ∷ []))
      (world (record { value = grid 1; read_only = true }) [])

  pub refused_fault : ends_so refused
      ≡ Some (Failed (Plain (AssignmentToConstant (codes "x")) nowhere))
  refused_fault = refl

  pub refused_trace : (world_in refused).trace ≡ record { address = 0; slot = Some 0 } ∷ []
  refused_trace = refl

  -- a variable that is a cell: what the cell holds is written, and is not lent any more
  abbrev in_cell : Act S
  in_cell = chain m 0 3 (frame (int 9 ∷ int 1 ∷ int 0 ∷ []))
      (world (held (dynamic.Cell 0)) (idle (held (grid 1)) ∷ []))

  pub in_cell_cells : (world_in in_cell).cells ≡ idle (held (grid 9)) ∷ []
  in_cell_cells = refl

  pub in_cell_scope : (world_in in_cell).scope ≡ new_entry (codes "x") (held (dynamic.Cell 0)) ∷ []
  in_cell_scope = refl

  -- while it is lent, an index that is the same cell is not read
  abbrev own_index : Act S
  own_index = chain m 0 3 (frame (int 9 ∷ held (dynamic.Cell 0) ∷ int 0 ∷ []))
      (world (held (dynamic.Cell 0)) (idle (held (grid 1)) ∷ []))

  pub own_index_fault : ends_so own_index
      ≡ Some (Failed (Plain (DataRace (codes "variable ''")) index_at))
  own_index_fault = refl

  pub own_index_cells : (world_in own_index).cells ≡ idle (held (grid 1)) ∷ []
  own_index_cells = refl

  -- a value that nothing holds, above the operands of the steps
  abbrev read_off : Act S
  read_off = chain m 1 3 (frame (int 4 ∷ int 1 ∷ int 0 ∷ held (grid 8) ∷ []))
      (world (held (grid 1)) [])

  pub read_off_gives : operands_in read_off ≡ int 4 ∷ int 8 ∷ []
  read_off_gives = refl

  pub read_off_roots : (world_in read_off).roots ≡ []
  read_off_roots = refl

  -- its second step has the slots after those of the first chain
  abbrev read_past : Act S
  read_past = chain m 1 3 (frame (int 1 ∷ int 3 ∷ held (grid 8) ∷ [])) (world (held (grid 1)) [])

  pub read_past_trace : (world_in read_past).trace ≡ record { address = 0; slot = Some 6 } ∷ []
  read_past_trace = refl

  -- a cell is asked for itself, and is not lent for it
  abbrev shared : Act S
  shared = chain m 2 3 (frame []) (world (held (dynamic.Cell 0)) (idle (int 1) ∷ []))

  pub shared_gives : operands_in shared ≡ held (dynamic.Bool true) ∷ []
  shared_gives = refl

  pub shared_cells : (world_in shared).cells ≡ idle (int 1) ∷ []
  shared_cells = refl

  pub shared_scope : (world_in shared).scope ≡ new_entry (codes "x") (held (dynamic.Cell 0)) ∷ []
  shared_scope = refl

  abbrev not_shared : Act S
  not_shared = chain m 2 3 (frame []) (world (int 1) [])

  pub not_shared_gives : operands_in not_shared ≡ held (dynamic.Bool false) ∷ []
  not_shared_gives = refl

  -- `curry` of a pointer, and of a value that is none
  abbrev pointer : List Tree → Dynamic
  pointer values = dynamic.Pointer (record { name = codes "f"; curry = values })

  abbrev curried : Act S
  curried = chain m 3 3 (frame (int 4 ∷ held (pointer []) ∷ [])) (world (int 1) [])

  pub curried_gives : operands_in curried ≡ held (pointer (integer (pos 4) ∷ [])) ∷ []
  curried_gives = refl

  abbrev no_pointer : Act S
  no_pointer = chain m 3 3 (frame (int 4 ∷ int 5 ∷ [])) (world (int 1) [])

  pub no_pointer_fault : ends_so no_pointer
      ≡ Some (Failed (Plain (MismatchDataType (codes "Fn") (codes "i64")) index_at))
  no_pointer_fault = refl

  -- how many these are
  abbrev pub chain_examples : ℕ
  chain_examples = 21
