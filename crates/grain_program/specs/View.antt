-- A program, without where it lies in memory.
use Rattle.std.specs.Prelude.{ℕ, List, [], ◌∷◌, Option, Some, None, slice_index_or, ◌==◌, if◌then◌else◌}
use Rattle.grain_value.specs.declared.values.Dynamic.{Dynamic}
use Rattle.grain_value.specs.Tree.{Tree, unit}
use Rattle.grain_value.specs.View.{value_of}
use Rattle.grain_value.specs.declared.tokens.Token.{Token}
use Rattle.grain_value.specs.declared.tokens.Token.TheVariants as token
use Rattle.grain_fault.specs.declared.places.Position.{Position}
use Rattle.grain_fault.specs.Places.{nowhere}
use Rattle.grain_program.specs.Bits.{bits_of}
use Rattle.grain_program.specs.declared.code.parts.Chunk.{Chunk}
use Rattle.grain_program.specs.declared.code.functions.Function.{Function}
use Rattle.grain_program.specs.declared.code.parts.AssignOp.{AssignOp}
use Rattle.grain_program.specs.declared.code.chains.Chain.{Chain}
use Rattle.grain_program.specs.declared.code.chains.Root.TheVariants as root
use Rattle.grain_program.specs.declared.code.chains.Tail.TheVariants as tail
use Rattle.grain_program.specs.declared.code.switches.Switch.{Switch}
use Rattle.grain_program.specs.declared.code.parts.PositionEntry.{PositionEntry}
use Rattle.grain_program.specs.declared.code.parts.Parts.{Parts}

-- the capabilities are the bits of a number
pub record View : Type 0 where
  pub caps : ℕ
  pub code : List ℕ
  pub main : Chunk
  pub functions : List Function
  pub consts : List Tree
  pub names : List (List ℕ)
  pub tokens : List Token
  pub assign_ops : List AssignOp
  pub chains : List Chain
  pub switches : List Switch
  pub positions : List PositionEntry
  pub source : Option (List ℕ)

abbrev pub view_of : Parts → View
view_of p = record {
  caps = bits_of p.caps;
  code = p.code;
  main = p.main;
  functions = p.functions;
  consts = p.consts;
  names = p.names;
  tokens = p.tokens;
  assign_ops = p.assign_ops;
  chains = p.chains;
  switches = p.switches;
  positions = p.positions;
  source = p.source;
}

-- the entries of the pools; past a pool's end, where no valid program looks, there is a neutral one
abbrev pub const_of : View → ℕ → Dynamic
const_of v i = value_of (slice_index_or v.consts i unit)

abbrev pub name_of : View → ℕ → List ℕ
name_of v i = slice_index_or v.names i []

abbrev pub token_of : View → ℕ → Token
token_of v i = slice_index_or v.tokens i token.Other

abbrev pub no_op : AssignOp
no_op = record { op_assign = token.Other; op_assign_name = 0; op = token.Other; op_name = 0 }

abbrev pub assign_op_of : View → ℕ → AssignOp
assign_op_of v i = slice_index_or v.assign_ops i no_op

abbrev pub no_chain : Chain
no_chain = record { root = root.Local 0 0; steps = []; tail = tail.Read; operands = 0 }

abbrev pub chain_of : View → ℕ → Chain
chain_of v i = slice_index_or v.chains i no_chain

abbrev pub no_switch : Switch
no_switch = record { cases = []; ranges = []; default = 0 }

abbrev pub switch_of : View → ℕ → Switch
switch_of v i = slice_index_or v.switches i no_switch

-- the position that is recorded for the address, or none
abbrev pub position_in : List PositionEntry → ℕ → Position
position_in [] a = nowhere
position_in (e ∷ es) a = if e.address == a then e.position else position_in es a

abbrev pub position_of : View → ℕ → Position
position_of v a = position_in v.positions a

-- the program's source, empty if it has none
abbrev pub or_empty : Option (List ℕ) → List ℕ
or_empty None = []
or_empty (Some s) = s

abbrev pub source_text : View → List ℕ
source_text v = or_empty v.source
