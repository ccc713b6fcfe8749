-- What is true of the addresses where instructions begin.
use Rattle.std.specs.Prelude.{ℕ, zero, suc, ◌≡◌, ◌+◌, ◌<◌, ◌≤◌, List, Some, refl}
use Rattle.std.proofs.Common.{sym, subst, ap, ◌∙◌, arith}
use Rattle.grain_program.specs.declared.code.instruction_set.Op.{Op}
use Rattle.grain_program.specs.declared.code.parts.Chunk.{Chunk}
use Rattle.grain_program.specs.Decoding.{op_at}
use Rattle.grain_program.specs.Starts.{Reaches, Start}

reaches_within : (code : List ℕ) (end n a b : ℕ) → Reaches code end n a b → (a ≤ b) × (b < end)
reaches_within code end zero a b h = (omega (arith, h.0), h.1)
reaches_within code end (suc n) a b h =
    let w = reaches_within code end n (a + h.0.1) b h.2 in
    (omega (arith, w.0), w.1)

reaches_next : (code : List ℕ) (end n a b : ℕ) (r : Op × ℕ) → Reaches code end n a b
    → op_at code b ≡ Some r → b + r.1 < end → Reaches code end (suc n) a (b + r.1)
reaches_next code end zero a b r h is lt =
    (r, subst (λ x. op_at code x ≡ Some r) (sym h.0) is, (ap (λ x. x + r.1) h.0, lt))
reaches_next code end (suc n) a b r h is lt =
    (h.0, h.1, reaches_next code end n (a + h.0.1) b r h.2 is lt)

-- the instruction at the first address is over by the second
abbrev pub IsOverBy : List ℕ → ℕ → ℕ → Type 0
IsOverBy code a b = (r : Op × ℕ) × (op_at code a ≡ Some r) × (a + r.1 ≤ b)

reaches_apart : (code : List ℕ) (end n m a b d : ℕ) → Reaches code end n a b
    → Reaches code end m a d → b < d → IsOverBy code b d
reaches_apart code end zero zero a b d h g lt = absurd (omega (arith, h.0, g.0))
reaches_apart code end zero (suc m) a b d h g lt =
    let w = reaches_within code end m (a + g.0.1) d g.2 in
    subst (λ x. IsOverBy code x d) h.0 (g.0, g.1, w.0)
reaches_apart code end (suc n) zero a b d h g lt =
    let w = reaches_within code end n (a + h.0.1) b h.2 in
    absurd (omega (arith, w.0, g.0))
reaches_apart code end (suc n) (suc m) a b d h g lt =
    let both : Some h.0 ≡ Some g.0 = sym h.1 ∙ g.1 in
    let same : h.0 ≡ g.0 = cc in
    reaches_apart code end n m (a + g.0.1) b d (subst (λ (r : Op × ℕ). Reaches code end n (a + r.1)
    b) same h.2) g.2 lt

-- the entry of a chunk that is not empty is a start
pub start_first : (code : List ℕ) (c : Chunk) → c.entry < c.end → Start code c c.entry
unfolding Start
start_first code c lt = (0, (refl, lt))

-- what comes after a start's instruction is a start, before the chunk's end
pub start_next : (code : List ℕ) (c : Chunk) (a : ℕ) (r : Op × ℕ) → Start code c a
    → op_at code a ≡ Some r → a + r.1 < c.end → Start code c (a + r.1)
unfolding Start
start_next code c a r s is lt = (suc s.0, reaches_next code c.end s.0 c.entry a r s.1 is lt)

-- a start is in its chunk
pub start_within : (code : List ℕ) (c : Chunk) (a : ℕ) → Start code c a
    → (c.entry ≤ a) × (a < c.end)
unfolding Start
start_within code c a s = reaches_within code c.end s.0 c.entry a s.1

-- the instruction at a start is over by the next start
pub start_apart : (code : List ℕ) (c : Chunk) (a b : ℕ) → Start code c a → Start code c b → a < b
    → IsOverBy code a b
unfolding Start
start_apart code c a b s t lt = reaches_apart code c.end s.0 t.0 c.entry a b s.1 t.1 lt
