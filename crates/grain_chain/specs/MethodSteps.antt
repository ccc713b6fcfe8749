-- Method steps of the code: what they do by their names, and the rules of a method step where a walk of the
-- code stands.
use Rattle.std.specs.Prelude.{ℕ, ◌+◌, ◌≤◌, List, Option, Some, None, bytes_eq, codes, drop, is_some, length, map, take, if◌then◌else◌}
use Rattle.grain_value.specs.Tree.{Tree}
use Rattle.grain_value.specs.View.{value_of}
use Rattle.grain_value.specs.Looking.{cell_of, pointer_of}
use Rattle.grain_value.specs.Writing.{type_name_of}
use Rattle.grain_value.specs.declared.values.Dynamic.{Dynamic}
use Rattle.grain_value.specs.declared.values.Dynamic.TheVariants as dynamic
use Rattle.grain_value.specs.declared.values.FnPtr.{FnPtr}
use Rattle.grain_program.specs.Lookups.{method_of}
use Rattle.grain_program.specs.View.{View, name_of}
use Rattle.grain_means.specs.Worlds.{Answer, Place}
use Rattle.grain_means.specs.Tasks.{Task}
use Rattle.grain_means.specs.Walks as walks
use Rattle.grain_means.specs.Walks.{asks_shared, asking, invoking, own_pointer}
use Rattle.grain_means.specs.Tasks.{Numbered, Pointed}
use Rattle.grain_chain.specs.Walking.{place_of}
use Rattle.grain_chain.specs.Going.{setting, rest, next_step}
use Rattle.grain_chain.specs.declared.contexts.Context.{Context}
use Rattle.grain_chain.specs.declared.methods.MethodKind.{MethodKind}
use Rattle.grain_chain.specs.declared.methods.MethodKind.TheVariants as kind
use Rattle.grain_chain.specs.declared.methods.MethodStep.{MethodStep}
use Rattle.grain_chain.specs.declared.requests.What.{What}
use Rattle.grain_chain.specs.declared.requests.What.TheVariants as what
use Rattle.grain_chain.specs.declared.walks.Walk.{Walk}

-- what a method step does that has this name and number of arguments
abbrev pub kind_named : List ℕ → ℕ → MethodKind
kind_named text argc =
    if asks_shared text argc then kind.IsShared
    else (if bytes_eq text (codes "call") then kind.Call
    else (if bytes_eq text (codes "curry") then kind.Curry else kind.Method))

-- the operands of a walk from this one on, at most `count` of them
abbrev pub operands_of : Walk → ℕ → ℕ → List Tree
operands_of w first count = take count (drop first w.operands)

-- the operands that are a method step's arguments are there
abbrev pub HasArguments : Walk → MethodStep → Type 0
HasArguments w s = s.operand + s.argc ≤ length w.operands

-- what is called for a value of this kind: the program's method, if there is one, or else the native
abbrev pub typed_method : View → ℕ → Option ℕ → What
typed_method p name None = what.Native (name_of p name)
typed_method p name (Some number) = what.Compiled number

-- what a method step calls at a value: the map's own pointer, if there is one, or else that
abbrev pub called_method : View → ℕ → ℕ → Dynamic → Option FnPtr → What
called_method p name argc d None = typed_method p name (method_of p name argc (type_name_of d))
called_method p name argc d (Some f) = what.Pointer f

module _ (x : Context) (w : Walk) (s : MethodStep) where
  -- the step's name
  abbrev pub step_name : List ℕ
  step_name = name_of x.program.now s.name

  -- the step's arguments
  abbrev pub step_arguments : List Dynamic
  step_arguments = map value_of (operands_of w s.operand s.argc)

  -- the whole step
  abbrev pub method_task : Task
  method_task =
      walks.method_step (setting x w) w.step s.pos step_arguments s.last (next_step x w) (place_of w)
      (rest x w) s.name s.argc

  -- the step gives a value
  abbrev pub gave_task : Dynamic → Task
  gave_task v =
      walks.gave (setting x w) w.step s.pos step_arguments s.last (next_step x w) (place_of w) (rest x w) v

  -- the step goes on with what came of a call
  abbrev pub heard_task : Answer → Task
  heard_task a =
      walks.method_answered (setting x w) w.step s.pos step_arguments s.last (next_step x w)
      (place_of w) (rest x w) a

  -- the value is no pointer
  abbrev pub no_pointer_task : Dynamic → Task
  no_pointer_task v =
      walks.no_pointer (setting x w) w.step s.pos step_arguments s.last (next_step x w) (place_of w)
      (rest x w) v

  -- the first argument is called with the others, if it is a pointer
  abbrev pub first_task : Option FnPtr → Dynamic → List Dynamic → Task
  first_task o v vs =
      walks.first_called (setting x w) w.step s.pos step_arguments s.last (next_step x w) (place_of w)
      (rest x w) o v vs

  -- `call` of a value that is no pointer, with these arguments
  abbrev pub called_task : Dynamic → List Dynamic → Task
  called_task d vs =
      walks.called_on (setting x w) w.step s.pos step_arguments s.last (next_step x w) (place_of w)
      (rest x w) d vs

  -- `call` of a value, which may be a pointer
  abbrev pub call_task : Option FnPtr → Dynamic → Task
  call_task o d =
      walks.call_step (setting x w) w.step s.pos step_arguments s.last (next_step x w) (place_of w)
      (rest x w) o d

  -- `curry` of a value, which may be a pointer
  abbrev pub curry_task : Option FnPtr → Dynamic → Task
  curry_task o d =
      walks.curry_step (setting x w) w.step s.pos step_arguments s.last (next_step x w) (place_of w)
      (rest x w) o d

  -- a method of a value, which may have a pointer of that name
  abbrev pub own_task : Option FnPtr → Dynamic → Task
  own_task o d =
      walks.by_own (setting x w) w.step s.pos step_arguments s.last (next_step x w) (place_of w)
      (rest x w) o s.name s.argc d

  -- a call is asked for
  abbrev pub asking_task : What → Option Place → List Dynamic → Task
  asking_task (what.Native name) p vs = asking w.step s.pos name p vs (rest x w) heard_task
  asking_task (what.Compiled number) p vs =
      invoking w.step s.pos (Numbered number) p vs (rest x w) heard_task
  asking_task (what.Pointer f) p vs =
      invoking w.step s.pos (Pointed f) p vs (rest x w) heard_task

  -- what a step of this kind does at a value
  abbrev pub kind_task : MethodKind → Dynamic → Task
  kind_task kind.IsShared d = gave_task (dynamic.Bool (is_some (cell_of d)))
  kind_task kind.Call d = call_task (pointer_of d) d
  kind_task kind.Curry d = curry_task (pointer_of d) d
  kind_task kind.Method d = own_task (own_pointer step_name d) d
