-- A walk over lines, each of which gives something by its words and by whether a block is open.
use Rattle.std.specs.Prelude.{ℕ, ◌+◌, ◌*◌, ◌≤◌, true, false, List, [], ◌∷◌, ◌++◌}
use Rattle.grain_addresses.specs.Places.{Place}
use Rattle.grain_addresses.specs.StepLines.{StepLine}
use Rattle.grain_addresses.specs.Kinds.{line_kind}
use Rattle.grain_addresses.specs.declared.blocks.Block.{Block}
use Rattle.grain_addresses.specs.declared.blocks.Block.TheVariants as block
use Rattle.grain_addresses.specs.declared.kinds.LineKind.{LineKind}
use Rattle.grain_addresses.specs.declared.kinds.LineKind.TheVariants as kinds
use Rattle.grain_addresses.specs.declared.walks.Walk.{Walk}

abbrev pub start : Walk
start = record {
  lines = 0;
  address = 0;
  block = block.Main;
  in_block = false;
  functions = 0;
  chains = 0;
  slots = 0;
}

-- a function's end is one more
abbrev pub functions_after : Block → ℕ → ℕ
functions_after block.Main n = n
functions_after (block.Function number) n = n + 1

-- after one more line
abbrev pub stepped : LineKind → Walk → Walk
stepped (kinds.Code width position) w =
    record w { lines = w.lines + 1; address = w.address + width }
stepped kinds.Main w = record w { lines = w.lines + 1; block = block.Main; in_block = true }
stepped kinds.Function w =
    record w { lines = w.lines + 1; block = block.Function w.functions; in_block = true }
stepped kinds.End w =
    record w {
      lines = w.lines + 1;
      block = block.Main;
      in_block = false;
      functions = functions_after w.block w.functions;
    }
stepped (kinds.Chain slots) w =
    record w { lines = w.lines + 1; chains = w.chains + 1; slots = w.slots + slots }
stepped (kinds.Step slots) w = record w { lines = w.lines + 1; slots = w.slots + slots }
stepped kinds.Other w = record w { lines = w.lines + 1 }

-- the line with these characters, if it gives code
abbrev pub place_in : List ℕ → Walk → LineKind → List Place
place_in l w (kinds.Code width position) =
    record {
      line = w.lines + 1;
      address = w.address;
      width = width;
      block = w.block;
      position = position;
      text = l;
    } ∷ []
place_in l w kind = []

-- the line with these characters, if it is a step's
abbrev pub step_in : List ℕ → Walk → LineKind → List StepLine
step_in l w (kinds.Step slots) =
    record { line = w.lines + 1; chains = w.chains; slot = w.slots; text = l } ∷ []
step_in l w kind = []

-- the lines that are steps among these
abbrev pub walked_steps : Walk → List (List ℕ) → List StepLine
walked_steps w [] = []
walked_steps w (l ∷ ls) =
    step_in l w (line_kind w.in_block l) ++ walked_steps (stepped (line_kind w.in_block l) w) ls

-- the lines that give code among these
abbrev pub walked : Walk → List (List ℕ) → List Place
walked w [] = []
walked w (l ∷ ls) =
    place_in l w (line_kind w.in_block l) ++ walked (stepped (line_kind w.in_block l) w) ls

-- addresses, functions, chains and slots stay small
pub record IsBounded (w : Walk) : Type 0 where
  pub addresses : w.address ≤ 13 * w.lines
  pub functions : w.functions ≤ w.lines
  pub chains : w.chains ≤ w.lines
  pub slots : w.slots ≤ 2 * w.lines
