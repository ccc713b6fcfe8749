-- A handler is pushed, and catches a fault.
use Rattle.std.specs.Prelude.{ℕ, ◌-◌, List, [], ◌∷◌, ◌++◌, Option, Some, None, if◌then◌else◌, nat_lt, length, take, drop}
use Rattle.grain_value.specs.Scopes.{new_entry}
use Rattle.grain_value.specs.Operands.{read_write}
use Rattle.grain_fault.specs.declared.places.Position.{Position}
use Rattle.grain_fault.specs.declared.faults.MalformedKind.TheVariants as kind
use Rattle.grain_fault.specs.Problems.{Problem, Plain, TooManyVariables, Malformed}
use Rattle.grain_program.specs.View.{name_of, position_of}
use Rattle.grain_means.specs.Worlds.{Handler, Frame, World, InFrame, Act, Go, Setup}
use Rattle.grain_fault.specs.CatchValues.{caught_value}
use Rattle.grain_means.specs.Rules.Frames.{is_full}
use Rattle.grain_means.specs.Rules.Faults.{leave_by_fault, marked, charged_or, escaped}
use Rattle.grain_means.specs.Rules.Going.{onward}

-- the outermost n of a list whose innermost one is the first
abbrev pub outermost : {A : Type 0} → ℕ → List A → List A
outermost n xs = drop (length xs - n) xs

-- a frame in which a handler has caught a fault, with the operands, cursors and totals that there were
-- at its push
abbrev pub catching : Frame → Handler → Problem → Frame
catching f h x = record f {
  operands = take h.operands f.operands;
  cursors = outermost h.cursors f.cursors;
  totals = outermost h.totals f.totals;
  handlers = record h { caught = Some x } ∷ f.handlers;
}

-- a frame that goes on at an address after a catch: no step is blamed
abbrev pub resumed : Frame → ℕ → Frame
resumed f address = record f { address = address; slot = None; position = None }

module _ {S : Type 0} (m : Setup S) where
  -- an armed handler more, with as many operands, cursors, totals and entries of the scope as there are
  abbrev pub push_handler : ℕ → Option ℕ → ℕ → Frame → World S → Act S
  push_handler target variable next f w =
      onward m f (record f {
        address = next;
        handlers = record {
          target = target;
          variable = variable;
          operands = length f.operands;
          cursors = length f.cursors;
          totals = length f.totals;
          scope = length w.scope;
          caught = None;
        } ∷ f.handlers;
      }) w

  -- the variable of a catch, if the handler has one; a full scope is a fault at the target's
  -- position
  abbrev pub bind_caught : Option ℕ → Position → Frame → Problem → World S →
      (World S → Act S) → Act S
  bind_caught None p g x w go = go w
  bind_caught (Some n) p g x w go =
      if is_full m.engine.limits.variables w.scope then escaped m g (Plain TooManyVariables p) w
      else marked m g w (λ w1. go (record w1 {
        scope = w1.scope ++ new_entry (name_of m.program n)
            (read_write (caught_value m.program.source x)) ∷ [];
      }))

  -- A handler of a frame catches, which has the handlers around it. What the trace had of the frames
  -- that the fault left before is gone. A scope that is shorter than at the handler's push is a fault
  -- of this frame, at its instruction's position. Else the operands, the cursors, the totals and the
  -- scope are cut, the variable is bound, an operation is charged at the target's position, and the
  -- frame goes on there, and no step is blamed any more. Until then the step that the caught fault
  -- blamed is.
  abbrev pub caught : Frame → Handler → Problem → World S → Act S
  caught f h x w =
      let p = position_of m.program h.target in
      let g = catching f h x in
      if nat_lt (length w.scope) h.scope
      then escaped m f
      (Plain (Malformed (kind.TryFloorBroken h.scope (length w.scope))) (position_of m.program f.address))
      (record w { trace = [] })
      else
      bind_caught h.variable p g x (record w { scope = take h.scope w.scope; trace = [] }) (λ w1.
      charged_or m p g (leave_by_fault m g) w1
      (Go (InFrame (resumed g h.target))))
