-- Which step of a chain a fault blames, and the slot by which a trace names that step.
use Rattle.std.specs.Prelude.{◌≡◌, ◌⊎◌, ℕ, Option, Some, None, true, false}
use Rattle.grain_fault.specs.Classes.{catchable}
use Rattle.grain_fault.specs.Problems.{Problem}
use Rattle.grain_program.specs.Chains.{slot_of}
use Rattle.grain_program.specs.Decoding.{op_at}
use Rattle.grain_program.specs.View.{chain_of}
use Rattle.grain_program.specs.declared.code.instruction_set.Op.{Op}
use Rattle.grain_program.specs.declared.code.instruction_set.Op.TheVariants as op
use Rattle.grain_means.specs.Worlds.{Frame, Setup, World}
use Rattle.grain_means.specs.Rules.{throws_unit}
use Rattle.grain_means.specs.Comes.{ProgramPoint}
use Rattle.grain_means.specs.Causes.Chains.{ChainRow, LeavesNative}
use Rattle.grain_means.specs.Causes.Positions.{BodyFails, IsNoChain}

-- The chain of index k, which is the instruction at the point, ends in this fault, and its step of this
-- number is blamed: by a row of the chain, or because the body of a function that the step called ended
-- with a fault, or that of one that a native called back which the step called.
abbrev pub FailsAtStep : {S : Type 0} → Setup S → ℕ → ProgramPoint S → ℕ → Problem → Type 0
FailsAtStep m k at n x = ChainRow m (chain_of m.program k) at n x
    ⊎ (BodyFails m at n x ⊎ LeavesNative m (chain_of m.program k) at n x)

-- The slot by which a trace names what this fault, which was raised at the point, blames: none if the
-- instruction is no chain, and else that of the chain's step that is blamed.
pub data Blames {S : Type 0} (m : Setup S) (at : ProgramPoint S) (x : Problem) : Option ℕ → Type 0
  where
    no_step : IsNoChain at.instruction → Blames m at x None
    at_step : (k n : ℕ) → at.instruction ≡ op.Chain k → FailsAtStep m k at n x →
        Blames m at x (Some (slot_of m.program k n))

-- A fault was raised at the instruction where the frame stands, in this world, and this is the slot of
-- what it blames. It left the frame as the fault x: as it was; or it threw unit in a catch block, and x is
-- what was caught, thrown anew; or a handler was to catch it, and failed with x.
pub record Blamed {S : Type 0} (m : Setup S) (frame : Frame) (world : World S) (slot : Option ℕ)
    (x : Problem) : Type 0 where
  pub instruction : Op
  pub width : ℕ
  pub stands : op_at m.program.code frame.address ≡ Some (instruction, width)
  pub raised : Problem
  pub blames : Blames m (record { instruction = instruction; frame = frame; world = world }) raised
      slot
  pub left : (x ≡ raised) ⊎ ((throws_unit raised ≡ true)
      ⊎ ((catchable raised ≡ true) × (catchable x ≡ false)))
