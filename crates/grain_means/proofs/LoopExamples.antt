-- Loops and switches that compute: what is gone over, what an instruction gives and writes, and where it
-- leads.
use Rattle.std.specs.Prelude.{◌≡◌, ℕ, ℤ, pos, negsuc, true, false, List, [], ◌∷◌, Option, Some, None, refl, codes}
use Rattle.std.specs.Fmt.{digits}
use Rattle.std.specs.Str.{chars}
use Rattle.grain_value.specs.Cells.{idle, lent}
use Rattle.grain_value.specs.Items.{items_of}
use Rattle.grain_value.specs.Operands.{read_write}
use Rattle.grain_value.specs.Scopes.{new_entry}
use Rattle.grain_value.specs.Tree.{Tree, cell, character, integer}
use Rattle.grain_value.specs.declared.stores.Cell.{Cell}
use Rattle.grain_value.specs.declared.values.Dynamic.{Dynamic}
use Rattle.grain_value.specs.declared.values.Dynamic.TheVariants as dynamic
use Rattle.grain_value.specs.declared.values.Held.{Held}
use Rattle.grain_fault.specs.Places.{nowhere}
use Rattle.grain_fault.specs.Problems.{Plain, Arithmetic, DataRace, For}
use Rattle.grain_global.specs.declared.engines.Engine.{Engine}
use Rattle.grain_host.specs.Law.{Law}
use Rattle.grain_program.specs.View.{View}
use Rattle.grain_program.specs.declared.code.switches.CaseValue.TheVariants as case
use Rattle.grain_program.specs.declared.code.switches.Switch.{Switch}
use Rattle.grain_means.specs.Rules.{iter_drop, iter_init, iter_next, switch}
use Rattle.grain_means.specs.Worlds.{Act, Answer, Cursor, End, Failed, Frame, Go, InFrame, Setup, Then, World}

abbrev items : List ℕ → List Tree
items [] = []
items (n ∷ ns) = integer (pos n) ∷ items ns

-- what is gone over
pub half_open : items_of (dynamic.Range (pos 1) (pos 4) false) ≡ Some (items (1 ∷ 2 ∷ 3 ∷ []))
half_open = refl

pub closed : items_of (dynamic.Range (pos 1) (pos 4) true) ≡ Some (items (1 ∷ 2 ∷ 3 ∷ 4 ∷ []))
closed = refl

pub one_long : items_of (dynamic.Range (pos 4) (pos 4) true) ≡ Some (items (4 ∷ []))
one_long = refl

pub below_zero : items_of (dynamic.Range (negsuc 1) (pos 1) false)
    ≡ Some (integer (negsuc 1) ∷ integer (negsuc 0) ∷ integer (pos 0) ∷ [])
below_zero = refl

pub backwards : items_of (dynamic.Range (pos 4) (pos 1) true) ≡ Some []
backwards = refl

pub elements : items_of (dynamic.Array (items (7 ∷ 8 ∷ []))) ≡ Some (items (7 ∷ 8 ∷ []))
elements = refl

pub bytes : items_of (dynamic.Blob (0 ∷ 255 ∷ [])) ≡ Some (items (0 ∷ 255 ∷ []))
bytes = refl

-- two letters, of which the second takes two bytes
pub characters : items_of (dynamic.Text (97 ∷ 195 ∷ 164 ∷ []))
    ≡ Some (character 97 ∷ character 228 ∷ [])
unfolding chars
characters = refl

-- 2, a number from 1 to 3, and a text lead elsewhere than all other values
abbrev by_value : Switch
by_value = record {
  cases = record { value = case.Int (pos 2); target = 20 }
      ∷ record { value = case.Text (codes "a"); target = 40 } ∷ [];
  ranges = record { from = pos 1; to = pos 3; inclusive = true; target = 30 }
      ∷ record { from = pos 2; to = pos 9; inclusive = false; target = 35 } ∷ [];
  default = 50;
}

module _ {S : Type 0} (law : Law S) (engine : Engine) (program : View) (host : S) where
  abbrev m : Setup S
  m = record {
    law = law;
    program = record program { switches = by_value ∷ []; positions = [] };
    engine = engine;
    stop = None;
  }

  abbrev loop : List Tree → ℤ → Cursor
  loop left counter = record { left = left; counter = counter }

  -- a loop around
  abbrev outer : Cursor
  outer = loop (items (5 ∷ [])) (pos 3)

  abbrev frame : List Held → List Cursor → Frame
  frame operands cursors = record {
    address = 6;
    operands = operands;
    cursors = cursors;
    totals = [];
    handlers = [];
    base = 0;
    floor = 1;
    this = None;
    slot = None;
    position = None;
  }

  abbrev world : Held → List Cell → World S
  world h cells = record {
    roots = [];
    scope = new_entry (codes "i") h ∷ [];
    cells = cells;
    host = host;
    count = 0;
    level = 0;
    trace = [];
    ran = 1;
    passed = 1;
    tokens = Some [];
  }

  -- the world, the frame that goes on, and the end
  abbrev world_in : Act S → World S
  world_in (Go t w) = w
  world_in (End a w) = w
  world_in (Then first rest) = world_in first

  abbrev frame_in : Act S → Option Frame
  frame_in (Go (InFrame f) w) = Some f
  frame_in act = None

  abbrev ends_so : Act S → Option Answer
  ends_so (Go t w) = None
  ends_so (End a w) = Some a
  ends_so (Then first rest) = None

  abbrev held : Dynamic → Held
  held = read_write

  abbrev int : ℕ → Held
  int n = read_write (dynamic.Int (pos n))

  -- a frame that goes on at an address
  abbrev on : ℕ → List Held → List Cursor → Option Frame
  on address operands cursors =
      let f = frame operands cursors in Some (record f { address = address })

  -- a loop begins over what a cell holds, before its first item
  abbrev begun : Act S
  begun = iter_init m 7 (frame (int 1 ∷ held (dynamic.Cell 0) ∷ []) (outer ∷ []))
      (world (int 0) (idle (held (dynamic.Array (items (7 ∷ [])))) ∷ []))

  pub begun_frame : frame_in begun
      ≡ on 7 (int 1 ∷ []) (loop (items (7 ∷ [])) (negsuc 0) ∷ outer ∷ [])
  begun_frame = refl

  -- a number has no items
  abbrev none : Act S
  none = iter_init m 7 (frame (int 1 ∷ []) []) (world (int 0) [])

  pub none_fault : ends_so none ≡ Some (Failed (Plain For nowhere))
  none_fault = refl

  -- the third item
  abbrev third : Act S
  third = iter_next m 20 (Some 0) 9
      (frame (int 1 ∷ []) (loop (items (7 ∷ 8 ∷ [])) (pos 1) ∷ outer ∷ [])) (world (int 1) [])

  pub third_frame : frame_in third
      ≡ on 9 (int 1 ∷ int 7 ∷ []) (loop (items (8 ∷ [])) (pos 2) ∷ outer ∷ [])
  third_frame = refl

  pub third_count : (world_in third).scope ≡ new_entry (codes "i") (int 2) ∷ []
  third_count = refl

  -- where no slot is told, no entry is written; an item that is a cell is given as it is read
  abbrev in_cell : Act S
  in_cell = iter_next m 20 None 9 (frame [] (loop (cell 0 ∷ []) (negsuc 0) ∷ []))
      (world (int 1) (idle (int 4) ∷ []))

  pub in_cell_frame : frame_in in_cell ≡ on 9 (int 4 ∷ []) (loop [] (pos 0) ∷ [])
  in_cell_frame = refl

  pub in_cell_scope : (world_in in_cell).scope ≡ new_entry (codes "i") (int 1) ∷ []
  in_cell_scope = refl

  -- an item is counted before it is read: its cell is lent
  abbrev lent_item : Act S
  lent_item = iter_next m 20 (Some 0) 9 (frame [] (loop (cell 0 ∷ []) (pos 1) ∷ []))
      (world (int 1) (lent (int 4) ∷ []))

  pub lent_item_fault : ends_so lent_item
      ≡ Some (Failed (Plain (DataRace (codes "variable ''")) nowhere))
  lent_item_fault = refl

  pub lent_item_count : (world_in lent_item).scope ≡ new_entry (codes "i") (int 2) ∷ []
  lent_item_count = refl

  -- a count that passes 64 bits
  abbrev last_count : ℤ
  last_count = pos 9223372036854775807

  abbrev uncounted : Act S
  uncounted = iter_next m 20 (Some 0) 9 (frame [] (loop (items (7 ∷ [])) last_count ∷ []))
      (world (int 1) [])

  pub uncounted_fault : ends_so uncounted ≡ Some (Failed (Plain (Arithmetic
      (codes "for-loop counter overflow: 9223372036854775807")) nowhere))
  unfolding digits
  uncounted_fault = refl

  pub uncounted_scope : (world_in uncounted).scope ≡ new_entry (codes "i") (int 1) ∷ []
  uncounted_scope = refl

  -- no item is left, whatever the count
  abbrev over : Act S
  over = iter_next m 20 (Some 0) 9 (frame (int 1 ∷ []) (loop [] last_count ∷ outer ∷ []))
      (world (int 1) [])

  pub over_frame : frame_in over ≡ on 20 (int 1 ∷ []) (outer ∷ [])
  over_frame = refl

  pub over_scope : (world_in over).scope ≡ new_entry (codes "i") (int 1) ∷ []
  over_scope = refl

  -- a loop is left before its items are over
  abbrev left : Act S
  left = iter_drop m 7 (frame (int 1 ∷ []) (loop (items (7 ∷ [])) (pos 0) ∷ outer ∷ []))
      (world (int 1) [])

  pub left_frame : frame_in left ≡ on 7 (int 1 ∷ []) (outer ∷ [])
  left_frame = refl

  -- where a value leads, which stays
  abbrev leads : Held → Option Frame
  leads h = frame_in (switch m 0 (frame (h ∷ []) []) (world (int 1) (idle (int 9) ∷ [])))

  pub case_leads : leads (int 2) ≡ on 20 (int 2 ∷ []) []
  case_leads = refl

  pub text_leads : leads (held (dynamic.Text (codes "a")))
      ≡ on 40 (held (dynamic.Text (codes "a")) ∷ []) []
  text_leads = refl

  pub first_range_leads : leads (int 3) ≡ on 30 (int 3 ∷ []) []
  first_range_leads = refl

  pub second_range_leads : leads (int 8) ≡ on 35 (int 8 ∷ []) []
  second_range_leads = refl

  pub default_leads : leads (int 9) ≡ on 50 (int 9 ∷ []) []
  default_leads = refl

  pub cell_leads : leads (held (dynamic.Cell 0)) ≡ on 50 (held (dynamic.Cell 0) ∷ []) []
  cell_leads = refl

  pub truth_leads : leads (held (dynamic.Bool true)) ≡ on 50 (held (dynamic.Bool true) ∷ []) []
  truth_leads = refl
