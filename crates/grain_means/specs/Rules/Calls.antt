-- Calls of functions.
use Rattle.std.specs.Prelude.{ℕ, ◌+◌, List, Option, Some, None, if◌then◌else◌, nat_lt, nat_le, length, slice_get}
use Rattle.grain_value.specs.declared.values.Held.{Held}
use Rattle.grain_value.specs.declared.scopes.Entry.{Entry}
use Rattle.grain_value.specs.Operands.{under, arguments, bound_entries}
use Rattle.grain_fault.specs.Classes.{catchable}
use Rattle.grain_fault.specs.Positions.{at_position}
use Rattle.grain_fault.specs.declared.places.Position.{Position}
use Rattle.grain_fault.specs.Problems.{Problem, Plain, InFunctionCall, TooManyVariables, StackOverflow, NoMemory}
use Rattle.grain_program.specs.declared.code.functions.Function.{Function}
use Rattle.grain_program.specs.Lookups.{function_of, function_by_text}
use Rattle.grain_program.specs.View.{View, name_of, source_text}
use Rattle.grain_means.specs.Worlds.{Answer, Came, Failed, Frame, Place, World, InFrame, Act, Go, Then, Setup}
use Rattle.grain_means.specs.Rules.Frames.{without, frame_at}
use Rattle.grain_means.specs.Rules.Faults.{position, leave_by_fault, marked_or, offered, operation_taken, raised, charged}
use Rattle.grain_means.specs.Rules.Going.{pushed}
use Rattle.grain_means.specs.Rules.Reads.{flattened_all}
use Rattle.grain_means.specs.Rules.Natives.{native}

-- arguments under the parameters' names, each of which can be written
abbrev pub bound : View → List ℕ → List Held → List Entry
bound p ns hs = bound_entries p.names ns hs

-- the function of this number, if any
abbrev pub function_numbered : View → Option ℕ → Option Function
function_numbered p None = None
function_numbered p (Some i) = slice_get p.functions i

-- the first function of this name, by its index, with n parameters
abbrev pub function_found : View → ℕ → ℕ → Option Function
function_found p name n = function_numbered p (function_of p name n)

-- the first function that has a name of this text, with n parameters
abbrev pub function_by_name : View → List ℕ → ℕ → Option Function
function_by_name p name n = function_numbered p (function_by_text p name n)

module _ {S : Type 0} (m : Setup S) where
  -- A call at this position: what follows where memory is out, and what follows from a fault.
  module _ (out : World S → Act S) (fails : Problem → World S → Act S) (q : Position) where
    -- A fault that left the body of a function: one that a script may catch says which function it
    -- left, and any other goes on at the call's position.
    abbrev pub body_failed : Function → Problem → World S → Act S
    body_failed g x w =
        if catchable x then
        marked_or m out w
        (fails (InFunctionCall (name_of m.program g.name) (source_text m.program) x q))
        else fails (at_position q x) w

    -- A function on arguments, once its operation is taken: the level, the variables, and then its body
    -- on a scope of its own, under a `this` or none, one level up; afterwards the caller's scope and
    -- level are back.
    abbrev pub body_entered : Function → List Held → Option Place → (Answer → World S → Act S) →
        World S → Act S
    body_entered g args this over w =
        if nat_le m.engine.limits.levels w.level
        then marked_or m out w (fails (Plain StackOverflow q)) else
        if nat_lt m.engine.limits.variables (length g.params)
        then marked_or m out w (fails (Plain TooManyVariables q)) else
        marked_or m out w (λ w1. Then (Go (InFrame (frame_at g.chunk 0 this)) (record w1 {
          scope = bound m.program g.params args;
          level = w1.level + 1;
        })) (λ a w2. over a (record w2 { scope = w.scope; level = w.level })))

    -- a function on arguments costs an operation
    abbrev pub body_called : Function → List Held → Option Place → (Answer → World S → Act S) →
        World S → Act S
    body_called g args this over w =
        operation_taken m out q fails w (body_entered g args this over)

  -- a fault that left the body of a function that an instruction calls
  abbrev pub propagate : Function → Frame → Problem → World S → Act S
  propagate g f x w = body_failed (leave_by_fault m f NoMemory) (offered m f) (position m f) g x w

  -- a called function is over, and the caller, whose frame is without the arguments, goes on with
  -- its answer
  abbrev pub resume_caller : Function → Frame → ℕ → Answer → World S → Act S
  resume_caller g f next (Came v) w = pushed m f next f.operands v w
  resume_caller g f next (Failed x) w = propagate g f x w

  -- a function on the last operands, once its operation is taken; afterwards the caller's frame is
  -- without the arguments
  abbrev pub function_entered : Function → ℕ → Frame → ℕ → World S → Act S
  function_entered g count f next w =
      body_entered (leave_by_fault m f NoMemory) (offered m f) (position m f) g
      (arguments count f.operands) None (resume_caller g (without count f) next) w

  -- a function on the last operands costs an operation
  abbrev pub enter_function : Function → ℕ → Frame → ℕ → World S → Act S
  enter_function g count f next w = charged m f w (function_entered g count f next)

  -- the function on the last operands, if there is one, and else a native
  abbrev pub call_function : Option Function → List ℕ → ℕ → Frame → ℕ → World S → Act S
  call_function None name count f next w =
      flattened_all m (arguments count f.operands) f w (λ args. native m name None args f w
      (λ v w1. pushed m f next (under count f.operands) v w1) (raised m f))
  call_function (Some g) name count f next w = enter_function g count f next w
