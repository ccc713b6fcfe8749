-- The lines of a listing that are steps of chains, with the slots by which a trace names the steps. The
-- slots of a chain begin after those of all chains before it.
use Rattle.std.specs.Prelude.{ℕ, suc, ◌+◌, ◌≡◌, ◌<◌, Bool, ◌&&◌, ◌==◌, List, [], ◌∷◌, ◌++◌, length, take, slice_get, Option, Some, None, Ok, if◌then◌else◌}
use Rattle.grain_program.specs.Chains.{all_slots, slot_of}
use Rattle.grain_program.specs.Decoding.{op_at}
use Rattle.grain_program.specs.View.{View}
use Rattle.grain_program.specs.declared.code.chains.Chain.{Chain}
use Rattle.grain_program.specs.declared.code.chains.Step.{Step}
use Rattle.grain_program.specs.declared.code.instruction_set.Op.{Op}
use Rattle.grain_program.specs.declared.code.instruction_set.Op.TheVariants as op
use Rattle.grain_listing.specs.Statements
use Rattle.grain_listing.specs.Statements.{Statement, step_line, last_steps}
use Rattle.grain_listing.specs.LineMeanings.{says, statements}
use Rattle.grain_addresses.specs.Places.{on_said}

-- a line that is a step: its number, from 1 on, how many chains there are up to it, of which the last one
-- is the step's, the step's first slot, and the line's characters
pub record StepLine : Type 0 where
  pub line : ℕ
  pub chains : ℕ
  pub slot : ℕ
  pub text : List ℕ

-- The line with these characters, as that of a step after what the lines before it said. These have said
-- its chain, and its slots come after all slots that there are so far.
abbrev pub line_of_step : List ℕ → List Statement → StepLine
line_of_step l before = record {
  line = length before + 1;
  chains = length (Statements.chains before);
  slot = all_slots (Statements.chains before);
  text = l;
}

-- the line with these characters, if it says a step after what the lines before it said
abbrev pub step_said : List ℕ → List Statement → Statement → List StepLine
step_said l before (step_line s) = line_of_step l before ∷ []
step_said l before s = []

-- the lines that are steps among these, which come after lines that said this
abbrev pub steps_after : List Statement → List (List ℕ) → List StepLine
steps_after before [] = []
steps_after before (l ∷ ls) =
    on_said (says (length before + 1) l before)
    (λ s. step_said l before s ++ steps_after (s ∷ before) ls)

-- all lines of a listing that are steps
abbrev pub steps_of : List (List ℕ) → List StepLine
steps_of lines = steps_after [] lines

-- the index of the chain that the instruction at an address does, if it does one
abbrev pub chain_done : Option (Op × ℕ) → Option ℕ
chain_done (Some (op.Chain k, width)) = Some k
chain_done o = None

abbrev pub chain_at : List ℕ → ℕ → Option ℕ
chain_at code a = chain_done (op_at code a)

-- the line is that of the step of the chain of index k which has this slot first
abbrev pub is_step : ℕ → ℕ → StepLine → Bool
is_step k slot s = (s.chains == suc k) && (s.slot == slot)

abbrev pub found_step : ℕ → ℕ → List StepLine → Option StepLine
found_step k slot [] = None
found_step k slot (s ∷ ss) = if is_step k slot s then Some s else found_step k slot ss

-- the line of the step that begins at the slot, in the chain that is done, if one is. As each step has a
-- slot, at most one step begins at a slot.
abbrev pub step_named : Option ℕ → ℕ → List StepLine → Option StepLine
step_named None slot ss = None
step_named (Some k) slot ss = found_step k slot ss

-- The line is the one among these that says the step x of number n of the chain of index k: the lines
-- before it have said k + 1 chains, with n steps of the last, and it says the step x after them.
pub record SaysStep (lines : List (List ℕ)) (k n : ℕ) (x : Step) (t : StepLine) : Type 0 where
  pub index : ℕ
  pub before : List Statement
  pub line : t.line ≡ index + 1
  pub text : slice_get lines index ≡ Some t.text
  pub earlier : statements 0 [] (take index lines) ≡ Ok before
  pub chain : length (Statements.chains before) ≡ k + 1
  pub number : length (last_steps (Statements.chains before)) ≡ n
  pub step : says t.line t.text before ≡ Ok (step_line x)

-- no step of the chain of this index has this slot first, or there is no such chain
abbrev pub BeginsNoStep : View → ℕ → ℕ → Type 0
BeginsNoStep p k slot =
    (c : Chain) (n : ℕ) → slice_get p.chains k ≡ Some c → n < length c.steps →
    slot_of p k n ≡ slot → ⊥
