-- The layout of the chunks: each begins where the one before ends, and the last one ends where the
-- code does.
use Rattle.std.specs.Prelude.{ℕ, ◌≡◌, ◌<◌, ◌≤◌, ◌==◌, ◌&&◌, nat_lt, nat_le, List, [], ◌∷◌, map, slice_get, Option, Some, None, if◌then◌else◌}
use Rattle.grain_program.specs.declared.code.parts.Chunk.{Chunk}
use Rattle.grain_program.specs.View.{View}

-- the chunks of a program, in the order of their layout: the main one, and then the functions' in
-- their order
abbrev pub chunks_in : View → List Chunk
chunks_in p = p.main ∷ map (λ f. f.chunk) p.functions

-- where the chunks fail to tile a code of this length from the address on
abbrev pub gap_from : ℕ → ℕ → List Chunk → Option ℕ
gap_from len at [] = if at == len then None else Some at
gap_from len at (c ∷ cs) =
    if (c.entry == at) && nat_le at c.end && nat_le c.end len then gap_from len c.end cs
    else Some c.entry

-- the longest code, in bytes
abbrev pub most_code : ℕ
most_code = 16777216

-- where the layout fails: a longer code fails at that address
unfoldable pub layout_fault : ℕ → List Chunk → Option ℕ
layout_fault len chunks = if nat_lt most_code len then Some most_code else gap_from len 0 chunks

-- what a layout without a fault is
pub record Tiled (len : ℕ) (chunks : List Chunk) : Type 0 where
  pub small : len ≤ most_code
  pub inside : (i : ℕ) (c : Chunk) → slice_get chunks i ≡ Some c → (c.entry ≤ c.end) ×
      (c.end ≤ len)
  pub apart : (i j : ℕ) (c d : Chunk) → i < j → slice_get chunks i ≡ Some c
      → slice_get chunks j ≡ Some d → c.end ≤ d.entry
