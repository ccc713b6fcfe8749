-- The lines of a listing that give code, with where their code stands. What a line says, the width
-- of its code and the address of what comes next are as they are where a listing is read.
use Rattle.std.specs.Prelude.{ℕ, ◌+◌, List, [], ◌∷◌, ◌++◌, length, Option, Some, None, Result, Ok, Err}
use Rattle.grain_fault.specs.declared.places.Position.{Position}
use Rattle.grain_literals.specs.declared.reasons.Reason.{Reason}
use Rattle.grain_listing.specs.declared.blocks.OpenBlock.{OpenBlock}
use Rattle.grain_listing.specs.declared.blocks.OpenBlock.TheVariants as blocks
use Rattle.grain_listing.specs.Statements.{Statement, code_line, width, address, open_block, functions}
use Rattle.grain_listing.specs.LineMeanings.{says}
use Rattle.grain_addresses.specs.declared.blocks.Block.{Block}
use Rattle.grain_addresses.specs.declared.blocks.Block.TheVariants as block

-- a line that gives code: its number, from 1 on, the address of its first byte, how many bytes it
-- gives, its block, its position if it has one, and its characters
pub record Place : Type 0 where
  pub line : ℕ
  pub address : ℕ
  pub width : ℕ
  pub block : Block
  pub position : Option Position
  pub text : List ℕ

-- the block that is open, after n functions; code stands only in one that is open
abbrev pub block_of : Option OpenBlock → ℕ → Block
block_of None n = block.Main
block_of (Some (blocks.Main entry stack)) n = block.Main
block_of (Some (blocks.Function entry header)) n = block.Function n

abbrev pub block_after : List Statement → Block
block_after before = block_of (open_block before) (length (functions before))

-- the line with these characters, if it says code after what the lines before it said
abbrev pub place_said : List ℕ → List Statement → Statement → List Place
place_said l before (code_line p ps position) =
    record {
      line = length before + 1;
      address = address before;
      width = width (p ∷ ps);
      block = block_after before;
      position = position;
      text = l;
    } ∷ []
place_said l before s = []

abbrev pub on_said : {A : Type 0} → Result Statement Reason → (Statement → List A) → List A
on_said (Ok s) go = go s
on_said (Err e) go = []

-- the lines that give code among these, which come after lines that said this
abbrev pub places_after : List Statement → List (List ℕ) → List Place
places_after before [] = []
places_after before (l ∷ ls) =
    on_said (says (length before + 1) l before)
    (λ s. place_said l before s ++ places_after (s ∷ before) ls)

-- all lines of a listing that give code
abbrev pub places_of : List (List ℕ) → List Place
places_of lines = places_after [] lines
