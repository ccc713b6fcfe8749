-- Numbers that fall: the operations that are left, and then the code that is left.
use Rattle.std.proofs.Common.{ℕ, ◌+◌, ◌-◌, ◌*◌, ◌<◌, ◌≤◌, ◌⊎◌, arith, inl, inr}
use Rattle.grain_global.specs.declared.engines.Engine.{Engine}

-- each operation is worth more than all of the code
abbrev pub left : Engine → (count address : ℕ) → ℕ
left engine count address = (engine.limits.operations - count) * 16777217 + (16777216 - address)

less : (a b x y : ℕ) → a < b → x ≤ 16777216 → a * 16777217 + x < b * 16777217 + y
less a b x y h k = grind arith

even : (a b x y : ℕ) → a ≤ b → x < y → a * 16777217 + x < b * 16777217 + y
even a b x y h k = grind arith

no_less : (a b y : ℕ) → a ≤ b → a * 16777217 + (16777216 - 16777216) ≤ b * 16777217 + y
no_less a b y h = grind arith

-- an operation was taken
pub taken : (engine : Engine) (c d a b : ℕ) → c < d → c < engine.limits.operations →
    left engine d b < left engine c a
taken engine c d a b h k = less (engine.limits.operations - d) (engine.limits.operations - c)
    (16777216 - b) (16777216 - a) (omega arith) (omega arith)

-- an operation was taken, or the address lies further on
pub falls : (engine : Engine) (c d a b : ℕ) → ((c < d) × (c < engine.limits.operations)) ⊎
    ((c ≤ d) × (a < b)) → a < 16777216 → left engine d b < left engine c a
falls engine c d a b (inl h) lt = taken engine c d a b h.0 h.1
falls engine c d a b (inr h) lt = even (engine.limits.operations - d) (engine.limits.operations - c)
    (16777216 - b) (16777216 - a) (omega (arith, h.0)) (omega (arith, h.1, lt))

-- past all of the code nothing of it is left
pub past_code : (engine : Engine) (c d a : ℕ) → c ≤ d → left engine d 16777216 ≤ left engine c a
past_code engine c d a h = no_less (engine.limits.operations - d) (engine.limits.operations - c)
    (16777216 - a) (omega (arith, h))
