-- The chunk of a function is a chunk of the program.
use Rattle.std.specs.Prelude.{ℕ, zero, suc, ◌≡◌, List, [], ◌∷◌, map, slice_get, Some}
use Rattle.std.proofs.Common.{ap}
use Rattle.grain_program.specs.declared.code.functions.Function.{Function}
use Rattle.grain_program.specs.View.{View}
use Rattle.grain_program.specs.Layout.{chunks_in}

chunk_at : (fs : List Function) (i : ℕ) (f : Function) → slice_get fs i ≡ Some f
    → slice_get (map (λ f. f.chunk) fs) i ≡ Some f.chunk
chunk_at [] i f e = absurd cc
chunk_at (g ∷ fs) zero f e = let same : g ≡ f = cc in ap (λ (x : Function). Some x.chunk) same
chunk_at (g ∷ fs) (suc i) f e = chunk_at fs i f e

-- the chunk of a function is one of them
pub function_chunk : (p : View) (i : ℕ) (f : Function) → slice_get p.functions i ≡ Some f
    → slice_get (chunks_in p) (suc i) ≡ Some f.chunk
function_chunk p i f e = chunk_at p.functions i f e
