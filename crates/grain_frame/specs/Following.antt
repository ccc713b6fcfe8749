-- An instruction and the one after it, done in one turn of the loop. The state between the two
-- exists only in the definition: the code is never in it.
use Rattle.std.specs.Prelude.{◌⊎◌, ℕ, ℤ, [], ◌∷◌, ◌++◌, Bool, Ok}
use Rattle.grain_value.specs.declared.values.Dynamic.TheVariants as dynamic
use Rattle.grain_value.specs.Operands.{under, read_write}
use Rattle.grain_program.specs.declared.code.instruction_set.Op.{Op}
use Rattle.grain_global.specs.StepsView.{StepsView}
use Rattle.grain_means.specs.Worlds.{Setup}
use Rattle.grain_frame.specs.Abstraction.{Moment, Performs, Stepped, moment}
use Rattle.grain_frame.specs.declared.activations.Activation.{Activation}
use Rattle.grain_frame.specs.declared.runs.Progress.TheVariants as progress
use Rattle.grain_frame.specs.declared.runs.Run.{Run}
use Rattle.grain_frame.specs.Abstraction.{marked_once, begun_one}

-- the run after an operator has given a truth value for the last two operands
abbrev pub judged : {H : Type 0} → Run H → Bool → Run H
judged s truth = record s {
  stacks = record s.stacks {
    operands = under 2 s.stacks.operands ++ read_write (dynamic.Bool truth) ∷ [];
  };
}

-- the run after an integer is loaded
abbrev pub loaded : {H : Type 0} → Run H → ℤ → Run H
loaded s z = record s {
  stacks = record s.stacks {
    operands = s.stacks.operands ++ read_write (dynamic.Int z) ∷ [];
  };
}

-- the run without the last two operands
abbrev pub without_two : {H : Type 0} → Run H → Run H
without_two s = record s {
  stacks = record s.stacks { operands = under 2 s.stacks.operands };
}

-- the counts after a load is done and the instruction after it has begun
abbrev pub begun_behind : StepsView → StepsView
begun_behind n = begun_one (marked_once n)

-- the code did the instruction, and went on to do the one after it
pub record Followed {H : Type 0} (m : Setup H) (a : Moment H) (o : Op) (next : ℕ)
    (b : Moment H) : Type 0 where
  pub frame : Activation
  pub run : Run H
  pub counts : StepsView
  pub first : Performs m a o next (Ok progress.Continues) (moment frame run counts a.host)
  pub second : Stepped m (moment frame run (begun_one counts) a.host) (Ok progress.Continues) b

-- the code did the instruction, and perhaps the one after it
abbrev pub PerformsOn : {H : Type 0} → Setup H → Moment H → Op → ℕ → Moment H → Type 0
PerformsOn m a o next b =
    Performs m a o next (Ok progress.Continues) b ⊎ Followed m a o next b
