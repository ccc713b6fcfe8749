-- The lines that a walk finds give bytes that follow one another, and few.
use Rattle.std.specs.Prelude.{bytes_eq, codes, if◌then◌else◌}
use Rattle.std.proofs.Common.{ℕ, ◌+◌, ◌≤◌, Bool, true, false, List, [], ◌∷◌, ◌++◌, Option, Some, None, refl, arith}
use Rattle.grain_program.specs.declared.code.instruction_set.Op.{Op}
use Rattle.grain_program.specs.declared.code.instruction_set.Op.TheVariants as op
use Rattle.grain_program.specs.InstructionSet.{fields_of}
use Rattle.grain_words.specs.Words.{next_word, after_word}
use Rattle.grain_listing.specs.Table.{line_of}
use Rattle.grain_listing.specs.declared.table.Line.{Line}
use Rattle.grain_listing.specs.declared.table.Line.TheVariants as lines
use Rattle.grain_addresses.specs.Places.{Place}
use Rattle.grain_addresses.specs.Finding.{IsTiled}
use Rattle.grain_addresses.specs.Kinds.{fields_width, kind_of, kind_if, kind_begun, line_kind, slots_begun, root_slots_begun, IsNarrow}
use Rattle.grain_addresses.specs.Walks.{functions_after, stepped, place_in, walked, IsBounded}
use Rattle.grain_addresses.specs.declared.blocks.Block.{Block}
use Rattle.grain_addresses.specs.declared.blocks.Block.TheVariants as block
use Rattle.grain_addresses.specs.declared.kinds.LineKind.{LineKind}
use Rattle.grain_addresses.specs.declared.kinds.LineKind.TheVariants as kinds
use Rattle.grain_addresses.specs.declared.walks.Walk.{Walk}

-- an instruction's operands have at most 12 bytes
pub few : (o : Op) → fields_width (fields_of o) ≤ 12
few op.Unit = omega arith
few _ = omega arith

few_slots : (o : Option (List ℕ × List ℕ)) → slots_begun o ≤ 2
few_slots None = omega arith
few_slots (Some a) = at (bytes_eq a.0 (codes "index")) where
  at : (b : Bool) → (if b then 2 else 1) ≤ 2
  at true = omega arith
  at false = omega arith

few_root_slots : (o : Option (List ℕ × List ℕ)) → root_slots_begun o ≤ 1
few_root_slots None = omega arith
few_root_slots (Some a) = at (bytes_eq a.0 (codes "this")) where
  at : (b : Bool) → (if b then 1 else 0) ≤ 1
  at true = omega arith
  at false = omega arith

line_narrow : (l : Line) (cs : List ℕ) → IsNarrow (kind_of l cs)
line_narrow lines.Byte cs = (omega arith, omega arith)
line_narrow lines.Chain cs = few_root_slots (next_word (after_word cs))
line_narrow lines.Step cs = few_slots (next_word cs)
line_narrow (lines.Instruction o) cs = let h = few o in (omega arith, omega (arith, h))
line_narrow _ cs = tt

if_narrow : (o : Option Line) (cs : List ℕ) → IsNarrow (kind_if o cs)
if_narrow None cs = tt
if_narrow (Some l) cs = line_narrow l cs

begun_narrow : (b : Bool) (o : Option (List ℕ × List ℕ)) → IsNarrow (kind_begun b o)
begun_narrow b None = tt
begun_narrow b (Some a) = if_narrow (line_of b a.0) a.1

pub narrow : (b : Bool) (cs : List ℕ) → IsNarrow (line_kind b cs)
narrow b cs = begun_narrow b (next_word cs)

one_tile : (k : LineKind) (w : Walk) (l : List ℕ) (rest : List Place) → IsNarrow k →
    IsTiled (stepped k w).address rest → IsTiled w.address (place_in l w k ++ rest)
one_tile (kinds.Code width position) w l rest n t = (refl, n.0, t)
one_tile kinds.Main w l rest n t = t
one_tile kinds.Function w l rest n t = t
one_tile kinds.End w l rest n t = t
one_tile (kinds.Chain slots) w l rest n t = t
one_tile (kinds.Step slots) w l rest n t = t
one_tile kinds.Other w l rest n t = t

pub tiled : (w : Walk) (ls : List (List ℕ)) → IsTiled w.address (walked w ls)
tiled w [] = tt
tiled w (l ∷ ls) =
    one_tile (line_kind w.in_block l) w l (walked (stepped (line_kind w.in_block l) w) ls)
    (narrow w.in_block l)
    (tiled (stepped (line_kind w.in_block l) w) ls)

fewer : (b : Block) (n : ℕ) → functions_after b n ≤ n + 1
fewer block.Main n = omega arith
fewer (block.Function number) n = omega arith

-- addresses, functions, chains and slots stay small
pub bounded : (k : LineKind) (w : Walk) → IsNarrow k → IsBounded w → IsBounded (stepped k w)
bounded (kinds.Code width position) w n h = record {
  addresses = omega (arith, n.1, h.addresses);
  functions = omega (arith, h.functions);
  chains = omega (arith, h.chains);
  slots = omega (arith, h.slots);
}
bounded kinds.Main w n h = record {
  addresses = omega (arith, h.addresses);
  functions = omega (arith, h.functions);
  chains = omega (arith, h.chains);
  slots = omega (arith, h.slots);
}
bounded kinds.Function w n h = record {
  addresses = omega (arith, h.addresses);
  functions = omega (arith, h.functions);
  chains = omega (arith, h.chains);
  slots = omega (arith, h.slots);
}
bounded kinds.End w n h =
    let more = fewer w.block w.functions in record {
      addresses = omega (arith, h.addresses);
      functions = omega (arith, h.functions, more);
      chains = omega (arith, h.chains);
      slots = omega (arith, h.slots);
    }
bounded (kinds.Chain slots) w n h = record {
  addresses = omega (arith, h.addresses);
  functions = omega (arith, h.functions);
  chains = omega (arith, h.chains);
  slots = omega (arith, n, h.slots);
}
bounded (kinds.Step slots) w n h = record {
  addresses = omega (arith, h.addresses);
  functions = omega (arith, h.functions);
  chains = omega (arith, h.chains);
  slots = omega (arith, n, h.slots);
}
bounded kinds.Other w n h = record {
  addresses = omega (arith, h.addresses);
  functions = omega (arith, h.functions);
  chains = omega (arith, h.chains);
  slots = omega (arith, h.slots);
}
