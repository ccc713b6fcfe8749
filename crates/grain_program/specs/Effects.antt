-- What each instruction takes and gives, where it leads, and what it does to the cursors and the
-- handlers of its frame. The instruction's row says it; what `chain` takes rests also on the chain of
-- its index, and where `switch` leads on the switch of its index.
use Rattle.std.specs.Prelude.{ℕ, ◌+◌, Bool, true, false, List, [], ◌∷◌, slice_get, Option, Some, None, nat_lt, if◌then◌else◌}
use Rattle.grain_program.specs.declared.code.instruction_set.Op.{Op}
use Rattle.grain_program.specs.declared.code.effects.Effect.{Effect}
use Rattle.grain_program.specs.declared.code.effects.Flow.{Flow}
use Rattle.grain_program.specs.declared.code.effects.Flow.TheVariants as flow
use Rattle.grain_program.specs.declared.code.effects.Looping.{Looping}
use Rattle.grain_program.specs.declared.code.effects.Looping.TheVariants as looping
use Rattle.grain_program.specs.declared.code.effects.Handling.{Handling}
use Rattle.grain_program.specs.declared.code.effects.Handling.TheVariants as handling
use Rattle.grain_program.specs.View.{View, chain_of}
use Rattle.grain_program.specs.Fields.{targets_of, name_in, chain_in, switch_in}
use Rattle.grain_program.specs.InstructionSet.{Transfer, falls_through, jumps, branches, switches, ends, HandlerUse, keeps_handlers, pushes_handler, pops_handler, row}
use Rattle.grain_program.specs.Chains.{chain_takes}
use Rattle.grain_program.specs.Switches.{targets_if, in_order}

-- where the machine goes, given the targets and the switch among the instruction's operands
abbrev pub flow_to : Transfer → List ℕ → Option ℕ → Flow
flow_to falls_through targets switch = flow.Next
flow_to jumps (t ∷ targets) switch = flow.Jump t
flow_to branches (t ∷ targets) switch = flow.Branch t
flow_to switches targets (Some k) = flow.Switch k
-- no instruction transfers without a target or a switch
flow_to jumps [] switch = flow.End
flow_to branches [] switch = flow.End
flow_to switches targets None = flow.End
flow_to ends targets switch = flow.End

-- how many cursors there have to be for the instruction, and how many there are again afterwards, or
-- anew
abbrev pub cursors_taken : Looping → ℕ
cursors_taken looping.Keep = 0
cursors_taken looping.Begin = 0
cursors_taken looping.Leave = 1
cursors_taken looping.Advance = 1

abbrev pub cursors_given : Looping → ℕ
cursors_given looping.Keep = 0
cursors_given looping.Begin = 1
cursors_given looping.Leave = 0
cursors_given looping.Advance = 1

-- what becomes of the handlers, given the targets and the name among the instruction's operands
abbrev pub handling_to : HandlerUse → List ℕ → Option ℕ → Handling
handling_to keeps_handlers targets name = handling.Keep
handling_to pushes_handler (t ∷ targets) name = handling.Push t name
-- no instruction pushes a handler without a target
handling_to pushes_handler [] name = handling.Keep
handling_to pops_handler targets name = handling.Pop

-- how many operands the instruction takes, but for those of its chain
abbrev pub own_takes : Op → ℕ
own_takes o = (row o).takes

-- how many operands the instruction gives once it has taken its own
abbrev pub gives_of : Op → ℕ
gives_of o = (row o).gives

-- a cursor goes on
abbrev pub advances : Looping → Bool
advances looping.Keep = false
advances looping.Begin = false
advances looping.Leave = false
advances looping.Advance = true

-- where the machine goes after the instruction
abbrev pub flow_of : Op → Flow
flow_of o =
    flow_to (row o).transfer (targets_of (row o).fields) (switch_in (row o).fields)

-- what the instruction does to the cursors
abbrev pub looping_of : Op → Looping
looping_of o = (row o).looping

-- what the instruction does to the handlers
abbrev pub handling_of : Op → Handling
handling_of o = handling_to (row o).handlers (targets_of (row o).fields) (name_in (row o).fields)

-- how many operands are taken: this number, and those of the chain of this index, if there is one
abbrev pub taken : View → ℕ → Option ℕ → ℕ
taken p own None = own
taken p own (Some k) = own + chain_takes (chain_of p k)

-- how many operands the instruction takes in the program
abbrev pub takes_of : View → Op → ℕ
takes_of p o = taken p (own_takes o) (chain_in (row o).fields)

-- what the instruction does in the program: how many operands it takes and how many it then gives,
-- where the machine goes, and what becomes of the cursors and of the handlers
abbrev pub effect_of : View → Op → Effect
effect_of p o = record {
  takes = takes_of p o;
  gives = gives_of o;
  flow = flow_of o;
  looping = looping_of o;
  handling = handling_of o;
}

-- the targets of the switch of this index, in ascending order
abbrev pub switch_leads : View → ℕ → List ℕ
switch_leads p k = in_order (targets_if (slice_get p.switches k))

-- the addresses that a flow leads to, given the address after the instruction, the lower one first
abbrev pub leads : View → Flow → ℕ → List ℕ
leads p flow.Next next = next ∷ []
leads p (flow.Jump t) next = t ∷ []
leads p (flow.Branch t) next = if nat_lt t next then t ∷ next ∷ [] else next ∷ t ∷ []
leads p (flow.Switch k) next = switch_leads p k
leads p flow.End next = []

-- the addresses that the instruction leads to, given the address after it
abbrev pub leads_of : View → Op → ℕ → List ℕ
leads_of p o next = leads p (flow_of o) next
