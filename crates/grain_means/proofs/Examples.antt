-- Walks by themselves, as they end.
use Rattle.std.specs.Prelude.{◌≡◌, ℕ, pos, negsuc, true, false, List, [], ◌∷◌, length, Option, Some, None, refl, codes, slice_index_or}
use Rattle.grain_value.specs.Tree.{Tree, unit, integer, text, cell}
use Rattle.grain_value.specs.declared.values.Dynamic.{Dynamic}
use Rattle.grain_value.specs.declared.values.Dynamic.TheVariants as dynamic
use Rattle.grain_value.specs.View.{tree}
use Rattle.grain_value.specs.declared.values.FnPtr.{FnPtr}
use Rattle.grain_value.specs.declared.tokens.Token.TheVariants as token
use Rattle.grain_value.specs.Operands.{read_write}
use Rattle.grain_fault.specs.declared.places.Position.{Position}
use Rattle.grain_fault.specs.Places.{nowhere}
use Rattle.grain_global.specs.declared.engines.Engine.{Engine}
use Rattle.grain_program.specs.View.{View}
use Rattle.grain_program.specs.declared.code.parts.AssignOp.{AssignOp}
use Rattle.grain_fault.specs.Problems.{Plain, ArrayBounds, DataRace, MismatchDataType, DotExpr, IndexingType, NoMemory, FunctionNotFound}
use Rattle.grain_program.specs.declared.code.chains.Step.{Step}
use Rattle.grain_program.specs.declared.code.chains.Step.TheVariants as step
use Rattle.grain_program.specs.declared.code.chains.StepFlags.{StepFlags}
use Rattle.grain_means.specs.Worlds.{Answer, Came, Failed, Place}
use Rattle.grain_means.specs.Places.{put}
use Rattle.grain_means.specs.Tasks.{Walked, WalkEnded, WalkFailed, Method, Pointed, Play, Over, Asks, Calls, play}
use Rattle.grain_means.specs.Walks.{Course, whole_walk}

abbrev here : Position
here = nowhere

abbrev no_flags : StepFlags
no_flags = record { 0 = 0 }

abbrev skip_unit : StepFlags
skip_unit = record { 0 = 1 }

module _ (engine : Engine) (program : View) where
  abbrev course : List Tree → Option Dynamic → Option AssignOp → Course
  course operands v a = record {
    setting = record {
      engine = record engine { fast_operators = true; strict_properties = false };
      program =
          record program { names = codes "k" ∷ codes "get$k" ∷ codes "set$k" ∷ codes "+=" ∷ codes "+" ∷ [] };
      position = here;
    };
    operands = operands;
    assigns = v;
    operator = a;
  }

  abbrev plus : AssignOp
  plus = record { op_assign = token.Other; op_assign_name = 3; op = token.Other; op_name = 4 }

  abbrev end_of : Play → Walked
  end_of (Over o s) = o
  end_of (Asks c f s) = WalkFailed 99 NoMemory
  end_of (Calls i f s) = WalkFailed 99 NoMemory

  abbrev root_of : Play → Dynamic
  root_of (Over o s) = (slice_index_or s.roots 0 (read_write dynamic.Unit)).value
  root_of (Asks c f s) = (slice_index_or s.roots 0 (read_write dynamic.Unit)).value
  root_of (Calls i f s) = (slice_index_or s.roots 0 (read_write dynamic.Unit)).value

  -- a walk goes on with an outcome
  abbrev resumed : Answer → Play → Play
  resumed a (Over o s) = Over o s
  resumed a (Asks c f s) = play None [] (f a) s
  resumed a (Calls i f s) = play None [] (f a) s

  abbrev asked_name : Play → List ℕ
  asked_name (Over o s) = []
  asked_name (Asks c f s) = c.name
  asked_name (Calls i f s) = []

  abbrev asked_values : Play → List Dynamic
  asked_values (Over o s) = []
  asked_values (Asks c f s) = c.values
  asked_values (Calls i f s) = i.values

  abbrev begin : Course → List Step → Dynamic → Play
  begin c steps root =
      play None [] (whole_walk c steps) (record { roots = read_write root ∷ []; passed = 0 })

  abbrev index : Step
  index = step.Index 0 no_flags here here

  abbrev property : Step
  property = step.Property 0 1 2 no_flags here

  abbrev one : Dynamic
  one = dynamic.Array (integer (pos 1) ∷ [])

  abbrev no_property : Answer
  no_property = Failed (Plain (DotExpr []) here)

  abbrev no_index : Answer
  no_index = Failed (Plain (IndexingType []) here)

  -- an index past the end, and one that counts from the end
  pub past_the_end : end_of (begin (course (integer (pos 5) ∷ []) None None) (index ∷ []) one)
      ≡ WalkFailed 0 (Plain (ArrayBounds 1 (pos 5)) here)
  past_the_end = refl

  pub from_the_end : end_of (begin (course (integer (negsuc 0) ∷ []) None None) (index ∷ []) one)
      ≡ WalkEnded (dynamic.Int (pos 1)) false
  from_the_end = refl

  -- a key that is missing, read as a property
  pub missing_property : end_of (begin (course [] None None) (property ∷ []) (dynamic.Map []))
      ≡ WalkEnded dynamic.Unit false
  missing_property = refl

  -- a key that is missing is added, and stays where the op-assignment then fails
  abbrev adding : Play
  adding = begin (course (text (codes "a") ∷ []) (Some (dynamic.Int (pos 1))) (Some plus)) (index ∷ [])
      (dynamic.Map [])

  pub key_added : root_of adding ≡ dynamic.Map ((codes "a", unit) ∷ [])
  key_added = refl

  pub op_assign_asked : asked_name adding ≡ codes "+="
  op_assign_asked = refl

  pub operator_asked :
      asked_name (resumed (Failed (Plain (FunctionNotFound (codes "+= (x)")) here)) adding) ≡ codes "+"
  operator_asked = refl

  pub operator_answered :
      root_of (resumed (Came (dynamic.Int (pos 7)))
      (resumed (Failed (Plain (FunctionNotFound (codes "+= (x)")) here)) adding))
      ≡ dynamic.Map ((codes "a", integer (pos 7)) ∷ [])
  operator_answered = refl

  -- a bit and a byte are put back
  pub bit_put : root_of (begin (course (integer (negsuc 0) ∷ []) (Some (dynamic.Bool true)) None)
      (index ∷ []) (dynamic.Int (pos 0))) ≡ dynamic.Int (negsuc 9223372036854775807)
  bit_put = refl

  pub byte_put : root_of (begin (course (integer (pos 0) ∷ []) (Some (dynamic.Int (negsuc 0))) None)
      (index ∷ []) (dynamic.Blob (1 ∷ 2 ∷ []))) ≡ dynamic.Blob (255 ∷ 2 ∷ [])
  byte_put = refl

  -- a getter, and the indexer in its place
  abbrev getting : Play
  getting = begin (course [] None None) (property ∷ []) (dynamic.Foreign 16 1)

  pub getter_asked : asked_name getting ≡ codes "get$k"
  getter_asked = refl

  pub getter_answered : end_of (resumed (Came (dynamic.Int (pos 3))) getting)
      ≡ WalkEnded (dynamic.Int (pos 3)) false
  getter_answered = refl

  pub indexer_asked : asked_name (resumed no_property getting) ≡ codes "index$get$"
  indexer_asked = refl

  pub getter_missing : end_of (resumed no_index (resumed no_property getting))
      ≡ WalkFailed 0 (Plain (DotExpr []) here)
  getter_missing = refl

  -- a property of a host's value is changed below: it is set back
  abbrev changing : Play
  changing =
      begin (course (integer (pos 0) ∷ []) (Some (dynamic.Int (pos 9))) None) (property ∷ index ∷ [])
      (dynamic.Foreign 16 1)

  pub set_back_asked : asked_name (resumed (Came one) changing) ≡ codes "set$k"
  set_back_asked = refl

  pub set_back_value : asked_values (resumed (Came one) changing)
      ≡ dynamic.Array (integer (pos 9) ∷ []) ∷ []
  set_back_value = refl

  pub set_back_ignored :
      end_of (resumed no_index (resumed no_property (resumed (Came one) changing)))
      ≡ WalkEnded dynamic.Unit true
  set_back_ignored = refl

  -- a property that the chain assigns, and that has no setter
  abbrev setting : Play
  setting = begin (course [] (Some (dynamic.Int (pos 9))) None) (property ∷ []) (dynamic.Foreign 16 1)

  pub setter_missing : end_of (resumed no_index (resumed no_property setting))
      ≡ WalkFailed 0 (Plain (DotExpr []) here)
  setter_missing = refl

  -- a step that skips at unit
  pub skipped : end_of (begin (course [] None None)
      (step.Property 0 1 2 skip_unit here ∷ []) dynamic.Unit) ≡ WalkEnded dynamic.Unit false
  skipped = refl

  -- an index of a value that has none is for the host's indexers; where the read fails, the value is set as
  -- it is
  abbrev indexing : Play
  indexing =
      begin (course (integer (pos 0) ∷ []) (Some (dynamic.Int (pos 9))) (Some plus)) (index ∷ [])
      (dynamic.Foreign 17 1)

  pub index_read : asked_name indexing ≡ codes "index$get$"
  index_read = refl

  pub index_written : asked_values (resumed no_index indexing)
      ≡ dynamic.Int (pos 0) ∷ dynamic.Int (pos 9) ∷ []
  index_written = refl

  pub index_ignored : end_of (resumed no_index (resumed no_index indexing)) ≡ WalkEnded dynamic.Unit true
  index_ignored = refl

  -- an index that is a lent cell: a map reads it, at the index's position, and the host's indexers are
  -- given it as it is
  abbrev there : Position
  there = record { line = 1; column = 1 }

  abbrev lent_index : Step
  lent_index = step.Index 0 no_flags there here

  pub index_lent : end_of (begin (course (cell 7 ∷ []) None None) (lent_index ∷ []) (dynamic.Map []))
      ≡ WalkFailed 0 (Plain (DataRace (codes "variable ''")) there)
  index_lent = refl

  pub index_handed_on : asked_values (begin (course (cell 7 ∷ []) None None) (lent_index ∷ [])
      (dynamic.Foreign 17 1)) ≡ dynamic.Cell 7 ∷ []
  index_handed_on = refl

  -- a getter may write the bit that it is lent: the bit is put back, although nothing changed
  abbrev lending : Play
  lending = begin (course (integer (pos 0) ∷ []) None None) (index ∷ property ∷ [])
      (dynamic.Int (pos 0))

  abbrev written : Dynamic → Play → Play
  written v (Over o s) = Over o s
  written v (Asks c f s) =
      Asks c f (record s { roots = put s.roots (record { root = 1; path = [] }) v })
  written v (Calls i f s) =
      Calls i f (record s { roots = put s.roots (record { root = 1; path = [] }) v })

  pub bit_put_back : root_of (resumed (Came dynamic.Unit) (written (dynamic.Bool true) lending))
      ≡ dynamic.Int (pos 1)
  bit_put_back = refl

  -- it is not of the type of a bit
  pub bit_mistyped : end_of (resumed (Came dynamic.Unit) (written dynamic.Unit lending))
      ≡ WalkFailed 0 (Plain (MismatchDataType (codes "bool") (codes "()")) here)
  bit_mistyped = refl

  -- a missing key of an index, in which something changes further down, is set by the host's indexer
  abbrev missing : Play
  missing =
      begin (course (text (codes "a") ∷ integer (pos 0) ∷ []) (Some (dynamic.Bool true)) None)
      (step.Index 0 no_flags here there ∷ property ∷ []) (dynamic.Map [])

  pub missing_set : asked_name missing ≡ codes "set$k"
  missing_set = refl

  pub missing_set_back : asked_values (resumed (Came dynamic.Unit) missing)
      ≡ dynamic.Text (codes "a") ∷ dynamic.Unit ∷ []
  missing_set_back = refl

  pub missing_ends : end_of (resumed no_index (resumed (Came dynamic.Unit) missing))
      ≡ WalkEnded dynamic.Unit true
  missing_ends = refl

  -- A method step, of the name `word`. `curry` puts its arguments after the values of a pointer.
  abbrev named : List ℕ → Course → Course
  named word c = record c {
    setting = record c.setting {
      program = record c.setting.program { names = word ∷ [] };
    };
  }

  abbrev method : ℕ → Step
  method argc = step.Method 0 argc 0 no_flags there

  abbrev pointer : List Tree → FnPtr
  pointer values = record { name = codes "f"; curry = values }

  abbrev calling : List ℕ → List Tree → Dynamic → Play
  calling word values root =
      begin (named word (course values None None)) (method (length values) ∷ []) root

  pub curried : end_of (calling (codes "curry") (integer (pos 2) ∷ [])
      (dynamic.Pointer (pointer (integer (pos 1) ∷ []))))
      ≡ WalkEnded (dynamic.Pointer (pointer (integer (pos 1) ∷ integer (pos 2) ∷ []))) true
  curried = refl

  -- `is_shared` asks the root itself, which may be a cell
  pub shared : end_of (calling (codes "is_shared") [] (dynamic.Cell 0))
      ≡ WalkEnded (dynamic.Bool true) true
  shared = refl

  pub not_shared : end_of (calling (codes "is_shared") [] (dynamic.Int (pos 1)))
      ≡ WalkEnded (dynamic.Bool false) true
  not_shared = refl

  -- `call` of a value that is no pointer, without an argument
  pub no_pointer : end_of (calling (codes "call") [] (dynamic.Int (pos 1)))
      ≡ WalkFailed 0 (Plain (MismatchDataType (codes "Fn") (codes "i64")) there)
  no_pointer = refl

  -- the function that is called, and what it has as its `this`
  abbrev method_of : Play → Option Method
  method_of (Over o s) = None
  method_of (Asks c f s) = None
  method_of (Calls i f s) = Some i.method

  abbrev this_of : Play → Option Place
  this_of (Over o s) = None
  this_of (Asks c f s) = None
  this_of (Calls i f s) = i.this

  -- `call` of a pointer calls its function, without a `this`
  abbrev of_pointer : Play
  of_pointer = calling (codes "call") (integer (pos 2) ∷ []) (dynamic.Pointer (pointer []))

  pub pointer_called : method_of of_pointer ≡ Some (Pointed (pointer []))
  pointer_called = refl

  pub called_without_this : this_of of_pointer ≡ None
  called_without_this = refl

  pub called_with : asked_values of_pointer ≡ dynamic.Int (pos 2) ∷ []
  called_with = refl

  -- `call` of a value that is no pointer calls its first argument, whose `this` is the value
  abbrev of_argument : Play
  of_argument = calling (codes "call") (tree (dynamic.Pointer (pointer [])) ∷ integer (pos 2) ∷ [])
      (dynamic.Int (pos 1))

  pub argument_called : method_of of_argument ≡ Some (Pointed (pointer []))
  argument_called = refl

  pub called_with_this : this_of of_argument ≡ Some (record { root = 0; path = [] })
  called_with_this = refl

  pub called_with_the_others : asked_values of_argument ≡ dynamic.Int (pos 2) ∷ []
  called_with_the_others = refl

  -- what is called gives the chain's value, and its fault blames the step
  pub method_answered : end_of (resumed (Came (dynamic.Int (pos 7))) of_argument)
      ≡ WalkEnded (dynamic.Int (pos 7)) true
  method_answered = refl

  pub method_failed : end_of (resumed no_index of_argument) ≡ WalkFailed 0 (Plain (IndexingType []) here)
  method_failed = refl

  -- how many these are
  abbrev pub examples : ℕ
  examples = 42
