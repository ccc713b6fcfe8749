-- Literals and texts of segments that compute: what an instruction gives, which total is left, and which
-- fault is raised.
use Rattle.std.specs.Prelude.{◌≡◌, ℕ, pos, List, [], ◌∷◌, Option, Some, None, refl, codes}
use Rattle.grain_value.specs.Cells.{idle, lent}
use Rattle.grain_value.specs.Operands.{read_write}
use Rattle.grain_value.specs.Sizes.{one_element, one_value}
use Rattle.grain_value.specs.Tree.{integer}
use Rattle.grain_value.specs.declared.stores.Cell.{Cell}
use Rattle.grain_value.specs.declared.values.Dynamic.{Dynamic}
use Rattle.grain_value.specs.declared.values.Dynamic.TheVariants as dynamic
use Rattle.grain_value.specs.declared.values.Held.{Held}
use Rattle.grain_value.specs.declared.values.Limits.{Limits}
use Rattle.grain_fault.specs.Places.{nowhere}
use Rattle.grain_fault.specs.Problems.{FaultKind, Plain, DataRace, DataTooLarge, FunctionNotFound, Malformed, MismatchDataType}
use Rattle.grain_fault.specs.declared.faults.MalformedKind.TheVariants as kind
use Rattle.grain_global.specs.declared.engines.Engine.{Engine}
use Rattle.grain_host.specs.Law.{Law}
use Rattle.grain_program.specs.View.{View}
use Rattle.grain_means.specs.Rules.{appended, check_size, interpolate_append, interpolate_end, interpolate_start, make_array, make_fn_ptr, make_map, type_appended}
use Rattle.grain_means.specs.Worlds.{Act, Answer, End, Failed, Frame, Go, InFrame, Setup, Then, Total, World}

-- at most five elements of arrays, three pairs of maps, and four bytes of texts
abbrev few : Limits
few = record {
  operations = 9;
  levels = 9;
  variables = 9;
  modules = 9;
  text = 4;
  array = 5;
  map = 3;
}

abbrev unlimited : Limits
unlimited = record few { text = 0; array = 0; map = 0 }

module _ {S : Type 0} (law : Law S) (e : Engine) (program : View) (host : S) where
  abbrev under : Limits → Setup S
  under limits = record {
    law = law;
    program = record program { positions = [] };
    engine = record e { limits = limits };
    stop = None;
  }

  abbrev total : ℕ → ℕ → ℕ → Total
  total arrays maps text = record { arrays = arrays; maps = maps; text = text }

  abbrev frame : List Held → List Total → Frame
  frame operands totals = record {
    address = 6;
    operands = operands;
    cursors = [];
    totals = totals;
    handlers = [];
    base = 0;
    floor = 0;
    this = None;
    slot = None;
    position = None;
  }

  abbrev world : List Cell → World S
  world cells = record {
    roots = [];
    scope = [];
    cells = cells;
    host = host;
    count = 0;
    level = 0;
    trace = [];
    ran = 1;
    passed = 1;
    tokens = Some [];
  }

  -- the frame that goes on, and the end
  abbrev frame_in : Act S → Option Frame
  frame_in (Go (InFrame f) w) = Some f
  frame_in act = None

  abbrev ends_so : Act S → Option Answer
  ends_so (Go t w) = None
  ends_so (End a w) = Some a
  ends_so (Then first rest) = None

  abbrev fails_so : FaultKind → Option Answer
  fails_so x = Some (Failed (Plain x nowhere))

  abbrev held : Dynamic → Held
  held = read_write

  abbrev int : ℕ → Held
  int n = read_write (dynamic.Int (pos n))

  abbrev text : List ℕ → Held
  text s = read_write (dynamic.Text s)

  -- a frame that goes on at an address
  abbrev on : ℕ → List Held → List Total → Option Frame
  on address operands totals =
      let f = frame operands totals in Some (record f { address = address })

  -- an array of two, of which the second is a variable that is shared; its total ends
  abbrev pair : Act S
  pair = make_array (under few) 2 9
      (frame (int 1 ∷ int 7 ∷ held (dynamic.Cell 0) ∷ []) (total 2 0 0 ∷ total 1 0 0 ∷ []))
      (world (idle (int 8) ∷ []))

  pub pair_frame : frame_in pair
      ≡ on 9 (int 1 ∷ held (dynamic.Array (integer (pos 7) ∷ integer (pos 8) ∷ [])) ∷ [])
      (total 1 0 0 ∷ [])
  pair_frame = refl

  -- an array of none ends no total
  abbrev empty : Act S
  empty = make_array (under few) 0 9 (frame (int 1 ∷ []) (total 1 0 0 ∷ [])) (world [])

  pub empty_frame : frame_in empty
      ≡ on 9 (int 1 ∷ held (dynamic.Array []) ∷ []) (total 1 0 0 ∷ [])
  empty_frame = refl

  -- a variable that is lent is no element
  abbrev away : Act S
  away = make_array (under few) 1 9 (frame (held (dynamic.Cell 0) ∷ []) [])
      (world (lent (int 8) ∷ []))

  pub away_fault : ends_so away ≡ fails_so (DataRace (codes "variable ''"))
  away_fault = refl

  -- a map with a pair more, and of a key that stands twice the last value
  abbrev map_of_two : Act S
  map_of_two = make_map (under few) 2 9
      (frame (held (dynamic.Map ((codes "a", integer (pos 1)) ∷ [])) ∷ text (codes "b") ∷ int 2 ∷
      text (codes "b") ∷ int 3 ∷ []) (total 0 2 0 ∷ []))
      (world [])

  pub map_frame : frame_in map_of_two
      ≡ on 9 (held (dynamic.Map
      ((codes "a", integer (pos 1)) ∷ (codes "b", integer (pos 3)) ∷ [])) ∷ []) []
  map_frame = refl

  -- the template is looked at before the key, and the key before its value
  abbrev no_template : Act S
  no_template = make_map (under few) 1 9 (frame (int 1 ∷ int 1 ∷ int 1 ∷ []) []) (world [])

  pub template_fault : ends_so no_template
      ≡ fails_so (Malformed (kind.TemplateNotMap (codes "i64")))
  template_fault = refl

  abbrev no_key : Act S
  no_key = make_map (under few) 1 9
      (frame (held (dynamic.Map []) ∷ held dynamic.Unit ∷ held (dynamic.Cell 0) ∷ []) [])
      (world (lent (int 8) ∷ []))

  pub key_fault : ends_so no_key ≡ fails_so (Malformed (kind.KeyNotText (codes "()")))
  key_fault = refl

  abbrev no_value : Act S
  no_value = make_map (under few) 2 9
      (frame (held (dynamic.Map []) ∷ text (codes "a") ∷ held (dynamic.Cell 0) ∷ int 1 ∷ int 1 ∷ []) [])
      (world (lent (int 8) ∷ []))

  pub value_fault : ends_so no_value ≡ fails_so (DataRace (codes "variable ''"))
  value_fault = refl

  -- the first element begins a total; an array of two in it counts three
  abbrev first : Act S
  first = check_size (under few) one_element 0 9
      (frame (held (dynamic.Array (integer (pos 7) ∷ integer (pos 8) ∷ [])) ∷ []) (total 5 0 0 ∷ []))
      (world [])

  pub first_frame : frame_in first
      ≡ on 9 (held (dynamic.Array (integer (pos 7) ∷ integer (pos 8) ∷ [])) ∷ [])
      (total 3 0 0 ∷ total 5 0 0 ∷ [])
  first_frame = refl

  -- a further one adds to it
  abbrev second : Act S
  second = check_size (under few) one_value 1 9 (frame (text (codes "ab") ∷ []) (total 3 1 1 ∷ []))
      (world [])

  pub second_frame : frame_in second ≡ on 9 (text (codes "ab") ∷ []) (total 3 2 3 ∷ [])
  second_frame = refl

  -- the limit of texts is looked at before that of arrays
  abbrev too_much : Act S
  too_much = check_size (under few) one_element 1 9
      (frame (text (codes "ab") ∷ []) (total 5 0 3 ∷ [])) (world [])

  pub too_much_fault : ends_so too_much ≡ fails_so (DataTooLarge (codes "Length of string"))
  too_much_fault = refl

  abbrev too_many : Act S
  too_many = check_size (under few) one_element 1 9 (frame (int 1 ∷ []) (total 5 3 4 ∷ [])) (world [])

  pub too_many_fault : ends_so too_many ≡ fails_so (DataTooLarge (codes "Size of array/BLOB"))
  too_many_fault = refl

  abbrev outside : Act S
  outside = check_size (under few) one_element 300 9 (frame (held (dynamic.Cell 0) ∷ []) [])
      (world (lent (int 8) ∷ []))

  pub outside_fault : ends_so outside ≡ fails_so (Malformed (kind.MissingTotal 300))
  outside_fault = refl

  -- without limits a total begins, and nothing is counted
  abbrev uncounted : Act S
  uncounted = check_size (under unlimited) one_element 0 9 (frame (held (dynamic.Cell 0) ∷ []) [])
      (world (lent (int 8) ∷ []))

  pub uncounted_frame : frame_in uncounted ≡ on 9 (held (dynamic.Cell 0) ∷ []) (total 0 0 0 ∷ [])
  uncounted_frame = refl

  -- a segment goes after the buffer, which may be a shared variable
  abbrev begun : Act S
  begun = interpolate_start (under few) 9 (frame (int 1 ∷ []) []) (world [])

  pub begun_frame : frame_in begun ≡ on 9 (int 1 ∷ text [] ∷ []) []
  begun_frame = refl

  abbrev joined : Act S
  joined = interpolate_append (under few) 9
      (frame (held (dynamic.Cell 0) ∷ text (codes "cd") ∷ []) []) (world (idle (text (codes "ab")) ∷ []))

  pub joined_frame : frame_in joined ≡ on 9 (text (codes "abcd") ∷ []) []
  joined_frame = refl

  abbrev too_long : Act S
  too_long = interpolate_append (under few) 9 (frame (text (codes "abc") ∷ text (codes "de") ∷ []) [])
      (world [])

  pub too_long_fault : ends_so too_long ≡ fails_so (DataTooLarge (codes "Length of string"))
  too_long_fault = refl

  abbrev behind_none : Act S
  behind_none = appended (under few) (codes "a") 9 (frame (int 1 ∷ text (codes "a") ∷ []) []) (world [])

  pub behind_none_fault : ends_so behind_none
      ≡ fails_so (Malformed (kind.BufferNotText (codes "i64")))
  behind_none_fault = refl

  -- a fault is passed over
  abbrev passed : Act S
  passed = type_appended (under few) (codes "i64") 9 (frame (text [] ∷ int 5 ∷ []) []) (world [])

  pub passed_frame : frame_in passed ≡ on 9 (text (codes "i64") ∷ []) []
  passed_frame = refl

  abbrev over : Act S
  over = interpolate_end (under few) 9 (frame (int 1 ∷ text (codes "abcdef") ∷ []) []) (world [])

  pub over_frame : frame_in over ≡ on 9 (int 1 ∷ text (codes "abcdef") ∷ []) []
  over_frame = refl

  -- a pointer of a name, of a text that is none, and of what is no text
  abbrev named : Act S
  named = make_fn_ptr (under few) 9 (frame (text (codes "_a1") ∷ []) []) (world [])

  pub named_frame : frame_in named
      ≡ on 9 (held (dynamic.Pointer (record { name = codes "_a1"; curry = [] })) ∷ []) []
  named_frame = refl

  abbrev unnamed : Act S
  unnamed = make_fn_ptr (under few) 9 (frame (text (codes "_1") ∷ []) []) (world [])

  pub unnamed_fault : ends_so unnamed ≡ fails_so (FunctionNotFound (codes "_1"))
  unnamed_fault = refl

  abbrev untyped : Act S
  untyped = make_fn_ptr (under few) 9 (frame (int 1 ∷ []) []) (world [])

  pub untyped_fault : ends_so untyped
      ≡ fails_so (MismatchDataType (codes "string") (codes "i64"))
  untyped_fault = refl
