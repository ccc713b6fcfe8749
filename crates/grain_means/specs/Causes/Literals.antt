-- Why a literal, or a size that is checked for it, raises a fault.
use Rattle.std.specs.Prelude.{◌≡◌, ◌⊎◌, ◌+◌, ℕ, List, Some, None, true}
use Rattle.grain_value.specs.Cells.{flat}
use Rattle.grain_value.specs.Looking.{map_of}
use Rattle.grain_value.specs.Maps.{Entries}
use Rattle.grain_value.specs.Operands.{top, arguments}
use Rattle.grain_value.specs.Sizes.{Sizes, limits_sizes, one_element, one_value, plain_sizes, plus, too_large}
use Rattle.grain_value.specs.Writing.{type_name_of}
use Rattle.grain_value.specs.declared.values.Dynamic.{Dynamic}
use Rattle.grain_program.specs.declared.code.instruction_set.Op.{Op}
use Rattle.grain_program.specs.declared.code.instruction_set.Op.TheVariants as op
use Rattle.grain_means.specs.Worlds.{Frame, Setup, Total, World}
use Rattle.grain_means.specs.Rules.{KeyIs, Pairs, PairsLent, grown, innermost_total, operand_under, pairs_of, sizes_so_far, totals_opened}
use Rattle.grain_means.specs.Causes.Pointers.{IsLent}

-- the template under n pairs can be read, and is this
abbrev pub HasTemplate : {S : Type 0} → Dynamic → ℕ → Frame → World S → Type 0
HasTemplate v n f w = flat w.cells (operand_under (n + n) f.operands).value ≡ Some v

-- the template under n pairs is a map, and with it the pairs are this
abbrev pub HasPairs : {S : Type 0} → Pairs → ℕ → Frame → World S → Type 0
HasPairs ps n f w = (v : Dynamic) × (es : Entries) × HasTemplate v n f w × (map_of v ≡ Some es)
    × (pairs_of w.cells (arguments (n + n) f.operands) es ≡ ps)

-- it asks for a map as a template, and reads a value of this type
abbrev pub LacksTemplate : {S : Type 0} → List ℕ → Op → Frame → World S → Type 0
LacksTemplate s (op.MakeMap n) f w =
    (v : Dynamic) × HasTemplate v n f w × (map_of v ≡ None) × (s ≡ type_name_of v)
LacksTemplate s o f w = ⊥

-- it asks for a text as a key, and reads a value of this type
abbrev pub LacksKey : {S : Type 0} → List ℕ → Op → Frame → World S → Type 0
LacksKey s (op.MakeMap n) f w =
    (k : Dynamic) × HasPairs (KeyIs k) n f w × (s ≡ type_name_of k)
LacksKey s o f w = ⊥

-- of what a map is made of, a lent cell comes first
abbrev pub MakesOfLent : {S : Type 0} → ℕ → Frame → World S → Type 0
MakesOfLent n f w =
    IsLent w (operand_under (n + n) f.operands) ⊎ HasPairs PairsLent n f w

-- it checks the element of this number, which itself counts as `one`
abbrev pub ChecksSize : Sizes → ℕ → Op → Type 0
ChecksSize one index (op.CheckArraySize i) = (one ≡ one_element) × (index ≡ i)
ChecksSize one index (op.CheckMapSize i) = (one ≡ one_value) × (index ≡ i)
ChecksSize one index o = ⊥

-- it does so where a size is limited
abbrev pub Measures : {S : Type 0} → Setup S → Sizes → ℕ → Op → Type 0
Measures m one index o = ChecksSize one index o × (limits_sizes m.engine.limits ≡ true)

-- it checks a size where one is limited, the frame has a total, and the last operand is a lent cell
abbrev pub MeasuresLent : {S : Type 0} → Setup S → Op → Frame → World S → Type 0
MeasuresLent m o f w = (one : Sizes) × (index : ℕ) × (t : Total) × Measures m one index o
    × (innermost_total (totals_opened index f.totals) ≡ Some t) × IsLent w (top f.operands)

-- it checks the element of this number, and the frame has no total
abbrev pub LacksTotal : {S : Type 0} → Setup S → ℕ → Op → Frame → Type 0
LacksTotal m index o f = (one : Sizes) × Measures m one index o
    × (innermost_total (totals_opened index f.totals) ≡ None)

-- with the last operand a literal becomes too large in this
abbrev pub GrowsTooLarge : {S : Type 0} → Setup S → List ℕ → Op → Frame → World S → Type 0
GrowsTooLarge m what o f w = (one : Sizes) × (index : ℕ) × (t : Total) × (v : Dynamic)
    × Measures m one index o × (innermost_total (totals_opened index f.totals) ≡ Some t)
    × (flat w.cells (top f.operands).value ≡ Some v)
    × (too_large m.engine.limits (sizes_so_far (grown (plus one (plain_sizes v)) t)) ≡ Some what)
