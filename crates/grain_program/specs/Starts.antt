-- Where instructions begin: splitting a chunk from its entry on reaches them before its end.
use Rattle.std.specs.Prelude.{ℕ, suc, zero, ◌≡◌, ◌<◌, ◌+◌, List, Some}
use Rattle.grain_program.specs.declared.code.instruction_set.Op.{Op}
use Rattle.grain_program.specs.declared.code.parts.Chunk.{Chunk}
use Rattle.grain_program.specs.Decoding.{op_at}

-- n instructions lead from the first address to the second, which is before the end
abbrev pub Reaches : List ℕ → ℕ → ℕ → ℕ → ℕ → Type 0
Reaches code end zero a b = (a ≡ b) × (b < end)
Reaches code end (suc n) a b =
    (r : Op × ℕ) × (op_at code a ≡ Some r) × Reaches code end n (a + r.1) b

-- an instruction of the chunk begins at the address
unfoldable pub Start : List ℕ → Chunk → ℕ → Type 0
Start code c a = (n : ℕ) × Reaches code c.end n c.entry a
