-- A method step, which calls a method of the value at a place. Its name decides what it does, and then
-- the value there.
use Rattle.std.specs.Prelude.{ℕ, Bool, ◌&&◌, List, [], ◌∷◌, ◌++◌, Option, Some, None, bytes_eq, codes, is_some, nat_eq, map, if◌then◌else◌}
use Rattle.grain_value.specs.Tree.{Tree}
use Rattle.grain_value.specs.View.{tree, value_of}
use Rattle.grain_value.specs.Looking.{cell_of, pointer_of}
use Rattle.grain_value.specs.Maps.{entry_at}
use Rattle.grain_value.specs.Writing.{type_name_of}
use Rattle.grain_value.specs.declared.values.Dynamic.{Dynamic}
use Rattle.grain_value.specs.declared.values.Dynamic.TheVariants as dynamic
use Rattle.grain_value.specs.declared.values.FnPtr.{FnPtr}
use Rattle.grain_value.specs.declared.values.Held.{Held}
use Rattle.grain_fault.specs.Problems.{Plain, MismatchDataType}
use Rattle.grain_fault.specs.declared.places.Position.{Position}
use Rattle.grain_program.specs.Lookups.{method_of}
use Rattle.grain_program.specs.View.{name_of}
use Rattle.grain_means.specs.Worlds.{Place, Answer}
use Rattle.grain_means.specs.Tasks.{Task, Look, Method, Numbered, Pointed, Invoke}
use Rattle.grain_means.specs.Walks.Asking.{Setting, Rest, Next, at_mark, failing, flattening, asking, was_given}
use Rattle.grain_means.specs.Walks.Returning.{OfMethod, into_answer}

-- a function is called; its `this` is the place, if one is given
abbrev pub invoking : ℕ → Position → Method → Option Place → List Dynamic → Rest → (Answer → Task) →
    Task
invoking n q method this args done heard =
    at_mark n done (Invoke (record {
      step = n;
      position = q;
      method = method;
      this = this;
      values = args;
    }) heard)

-- a pointer with these values after its own
abbrev pub with_values : FnPtr → List Dynamic → FnPtr
with_values p vs = record p { curry = p.curry ++ map (λ v. tree v) vs }

-- the pointer that a value is, if it is one
abbrev pub pointer_in : Option Tree → Option FnPtr
pointer_in None = None
pointer_in (Some t) = pointer_of (value_of t)

-- the pointer that a map has at the key of this name, if there is one
abbrev pub own_pointer : List ℕ → Dynamic → Option FnPtr
own_pointer name (dynamic.Map es) = pointer_in (entry_at name es)
own_pointer name d = None

-- whether a step of this name, with this number of arguments, asks whether a value is a shared variable
abbrev pub asks_shared : List ℕ → ℕ → Bool
asks_shared name argc = bytes_eq name (codes "is_shared") && nat_eq argc 0

-- Step n, with these arguments and this position. `last` says whether it is the chain's last step.
module _ (g : Setting) (n : ℕ) (q : Position) (args : List Dynamic) (last : Bool) (next : Next)
    (p : Place) (done : Rest) where
  -- the walk goes on with what the step gave
  abbrev pub gave : Dynamic → Task
  gave v = into_answer g n q last OfMethod next p done v

  abbrev pub method_answered : Answer → Task
  method_answered a = was_given n done gave a

  -- the fault that this value is no pointer
  abbrev pub no_pointer : Dynamic → Task
  no_pointer v =
      failing n (Plain (MismatchDataType (codes "Fn") (type_name_of v)) q) done

  -- the function of a pointer is called
  abbrev pub pointer_called : FnPtr → Option Place → List Dynamic → Task
  pointer_called f this vs = invoking n q (Pointed f) this vs done method_answered

  -- the first argument, which must be a pointer, is called with the other arguments; its
  -- `this` is the place
  abbrev pub first_called : Option FnPtr → Dynamic → List Dynamic → Task
  first_called None v vs = no_pointer v
  first_called (Some f) v vs = pointer_called f (Some p) vs

  abbrev pub called_on : Dynamic → List Dynamic → Task
  called_on d [] = no_pointer d
  called_on d (v ∷ vs) = flattening n q v done (λ u. first_called (pointer_of u) u vs)

  -- `call`: the pointer at the place is called, or, if the value there is no pointer, the first argument
  -- is called, with the place as its `this`
  abbrev pub call_step : Option FnPtr → Dynamic → Task
  call_step None d = called_on d args
  call_step (Some f) d = pointer_called f None args

  -- `curry`: the pointer at the place, with the arguments after its values
  abbrev pub curry_step : Option FnPtr → Dynamic → Task
  curry_step None d = no_pointer d
  curry_step (Some f) d = gave (dynamic.Pointer (with_values f args))

  -- the function of this number is called, or, if no number is given, the native of this name
  abbrev pub by_method : Option ℕ → List ℕ → Task
  by_method None name = asking n q name (Some p) args done method_answered
  by_method (Some i) name = invoking n q (Numbered i) (Some p) args done method_answered

  -- the map's own pointer of this name is called, or, if there is none, the program's method for the
  -- value's type, or else the native
  abbrev pub by_own : Option FnPtr → ℕ → ℕ → Dynamic → Task
  by_own None name argc d =
      by_method (method_of g.program name argc (type_name_of d)) (name_of g.program name)
  by_own (Some f) name argc d = pointer_called f (Some p) args

  abbrev pub method_at : ℕ → ℕ → List ℕ → Held → Task
  method_at name argc text h =
      if asks_shared text argc then gave (dynamic.Bool (is_some (cell_of h.value)))
      else (if bytes_eq text (codes "call") then call_step (pointer_of h.value) h.value
      else (if bytes_eq text (codes "curry") then curry_step (pointer_of h.value) h.value
      else by_own (own_pointer text h.value) name argc h.value))

  -- a method step, by the index of its name and the number of its arguments
  abbrev pub method_step : ℕ → ℕ → Task
  method_step name argc = Look p (method_at name argc (name_of g.program name))
