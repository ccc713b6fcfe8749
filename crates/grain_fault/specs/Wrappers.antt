-- What wrappers add to the text of the fault inside them.
use Rattle.std.specs.Prelude.{ℕ, List, flat_map, reverse}
use Rattle.std.specs.Borrow.{Bor}
use Rattle.grain_fault.specs.Problems.{problem_of}
use Rattle.grain_fault.specs.Texts.{wrapper_text}
use Rattle.grain_fault.specs.declared.faults.EvalAltResult.{EvalAltResult}

-- what a wrapper adds
abbrev pub added_by : Bor EvalAltResult → List ℕ
added_by w = wrapper_text (problem_of w.now)

-- what these wrappers add, of which the first is the outermost
abbrev pub added : List (Bor EvalAltResult) → List ℕ
added ws = flat_map added_by (reverse ws)
