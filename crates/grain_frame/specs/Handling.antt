-- Handlers that instructions push and pop.
use Rattle.std.specs.Prelude.{ℕ, List, [], ◌∷◌, Option, None, length}
use Rattle.grain_stack.specs.declared.handlers.Handler.{Handler}
use Rattle.grain_frame.specs.declared.runs.Run.{Run}

-- an armed handler with the operands, cursors, totals and entries of the scope that there are
abbrev pub armed : {H : Type 0} → ℕ → Option ℕ → Run H → Handler
armed target variable s = record {
  target = target;
  variable = variable;
  operands = length s.stacks.operands;
  cursors = length s.stacks.cursors;
  totals = length s.stacks.totals;
  scope = length s.scope;
  caught = None;
}

-- the handlers around the innermost one
abbrev pub around : List Handler → List Handler
around [] = []
around (h ∷ hs) = hs
