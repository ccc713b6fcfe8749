-- The walk of a chain along a place: one rule for each kind of step, and for what is done where the
-- steps lead. In clean values what stands inside an array or a map is no cell; one that stood there would
-- be taken as it is. No root of a walk is a cell, but where the chain begins by the question whether its
-- root is one.
--
-- A step has a mark where it begins, and one where it leads on: to a place further down, to a new root,
-- or to what is done where the steps end; but none where its answer is the chain's own value. There is
-- one more before each thing that is written, asked for, called or set back, and before each fault. Two
-- marks with nothing between them allow no other ends of a run than one.
pub mod Asking
pub mod Returning
pub mod Methods
pub use Rattle.grain_means.specs.Walks.Asking.{Setting, Rest, Next, index_get, index_set, at_mark, failing, flat_or_busy, flattening, asking, index_was_set, set_by_index, set_instead, property_was_set, got_instead, property_was_got, was_given, index_was_read, operator_answered, named, set_property, get_property, operator_asked, was_op_assigned, native_stored, stored, operating}
pub use Rattle.grain_means.specs.Walks.Returning.{Origin, OfPart, OfIndex, OfProperty, OfMethod, OfNothing, is_change, put_part, set_back, back, rooted, own_value, into_answer}
pub use Rattle.grain_means.specs.Walks.Methods.{invoking, with_values, pointer_in, own_pointer, asks_shared, gave, method_answered, no_pointer, pointer_called, first_called, called_on, call_step, curry_step, by_method, by_own, method_at, method_step}
use Rattle.std.specs.Prelude.{ℕ, ◌+◌, ◌-◌, ◌==◌, ℤ, Bool, true, false, List, [], ◌∷◌, Option, Some, None, Result, Ok, Err, slice_index_or, codes, drop, map, take, if◌then◌else◌}
use Rattle.std.specs.Int.{bit_at}
use Rattle.grain_value.specs.Tree.{Tree, unit}
use Rattle.grain_value.specs.View.{value_of}
use Rattle.grain_value.specs.Maps.{entry_at, put_entry}
use Rattle.grain_value.specs.Looking.{is_unit}
use Rattle.grain_value.specs.Locating.{locate}
use Rattle.grain_value.specs.Parts.{part}
use Rattle.grain_value.specs.Writing.{type_name_of}
use Rattle.grain_value.specs.declared.values.Dynamic.{Dynamic}
use Rattle.grain_value.specs.declared.values.Dynamic.TheVariants as dynamic
use Rattle.grain_value.specs.declared.values.Held.{Held}
use Rattle.grain_value.specs.declared.values.paths.PathStep.TheVariants as path_step
use Rattle.grain_value.specs.declared.values.locating.Spot.{Spot}
use Rattle.grain_value.specs.declared.values.locating.Spot.TheVariants as spot
use Rattle.grain_value.specs.declared.values.value_faults.ValueFault.{ValueFault}
use Rattle.grain_value.specs.declared.values.value_faults.ValueFault.TheVariants as fault
use Rattle.grain_fault.specs.Problems.{FaultKind, Plain, PropertyNotFound, MismatchDataType, ArrayBounds, StringBounds, BitFieldBounds}
use Rattle.grain_fault.specs.declared.places.Position.{Position}
use Rattle.grain_program.specs.Bits.{step_bits}
use Rattle.grain_program.specs.View.{name_of}
use Rattle.grain_program.specs.declared.code.parts.AssignOp.{AssignOp}
use Rattle.grain_program.specs.declared.code.chains.Step.{Step}
use Rattle.grain_program.specs.declared.code.chains.Step.TheVariants as step
use Rattle.grain_means.specs.Worlds.{Place}
use Rattle.grain_means.specs.Places.{deeper}
use Rattle.grain_means.specs.Tasks.{WalkEnded, Task, Done, Look, Write}

-- what a chain took from the operands: its own, and the value that it assigns, if it assigns one; and the
-- op-assignment by which it does, if any
pub record Course : Type 0 where
  pub setting : Setting
  pub operands : List Tree
  pub assigns : Option Dynamic
  pub operator : Option AssignOp

-- What a step does besides leading on: it passes on, or it is the last one, and the chain reads there,
-- writes a value there, or assigns one by an op-assignment.
pub data Role : Type 0 where
  Passes : Role
  Reads : Role
  Writes : Dynamic → Role
  Operates : Dynamic → AssignOp → Role

abbrev pub reads : Role → Bool
reads Reads = true
reads r = false

abbrev pub assigning : Role → Bool
assigning Passes = false
assigning Reads = false
assigning (Writes v) = true
assigning (Operates v a) = true

-- a byte, a character or a bit as a new root: what is only read is not put back
abbrev pub origin_of_part : Role → Spot → Origin
origin_of_part Reads s = OfNothing
origin_of_part role s = OfPart s

-- whether an index is looked up in the value itself; in any other value the host's indexers do so
abbrev pub is_indexed : Dynamic → Bool
is_indexed (dynamic.Array ts) = true
is_indexed (dynamic.Blob s) = true
is_indexed (dynamic.Text s) = true
is_indexed (dynamic.Int n) = true
is_indexed (dynamic.Map es) = true
is_indexed d = false

abbrev pub key_of : Dynamic → List ℕ
key_of (dynamic.Text k) = k
key_of v = []

-- a map with one key more, at which unit stands
abbrev pub with_key : List ℕ → Dynamic → Dynamic
with_key k (dynamic.Map es) = dynamic.Map (put_entry k unit es)
with_key k d = d

-- the fault that nothing stands at an index
abbrev pub out_of_bounds : Dynamic → ℕ → ℤ → FaultKind
out_of_bounds (dynamic.Array ts) n i = ArrayBounds n i
out_of_bounds (dynamic.Blob s) n i = ArrayBounds n i
out_of_bounds (dynamic.Text s) n i = StringBounds n i
out_of_bounds d n i = BitFieldBounds n i

-- the type that an index has to be of
abbrev pub index_type : Dynamic → List ℕ
index_type (dynamic.Map es) = codes "string"
index_type d = codes "i64"

module _ (g : Setting) where
  -- An index step or a property step asks a map for the key k, which the map does not have. The last
  -- step of a chain that assigns adds the key. Any other step fails if the engine is strict on
  -- properties, and else goes on at unit.
  abbrev pub missing_key : ℕ → Position → Origin → Role → List ℕ → Held → Next → Place → Rest →
      Task
  missing_key n q o role k h next p done =
      if assigning role
      then at_mark n done (Write p (with_key k h.value) (next (deeper p (path_step.Key k)) done))
      else (if g.engine.strict_properties then failing n (Plain (PropertyNotFound k) q) done
      else rooted g n o (record h { value = dynamic.Unit }) next p done)

  -- An index step at a value in which no index can be looked up asks the host's indexers, with the index
  -- i as the operand is. A last step that writes asks an indexer to set; any other asks one to get, also
  -- a last step that assigns by an op-assignment.
  abbrev pub by_indexer : ℕ → Position → Position → Role → Dynamic → Next → Place → Rest → Task
  by_indexer n q bracket (Writes v) i next p done =
      set_by_index n bracket p i v dynamic.Unit done
  by_indexer n q bracket (Operates v a) i next p done =
      asking n bracket index_get (Some p) (i ∷ []) done (index_was_read n bracket p i v done
      (into_answer g n bracket false (OfIndex i bracket) (operating g n bracket a v) p done))
  by_indexer n q bracket role i next p done =
      asking n bracket index_get (Some p) (i ∷ []) done
      (was_given n done (into_answer g n q (reads role) (OfIndex i bracket) next p done))

  -- An index step goes on, by what the look-up of the index found in h, which stands at the place. The
  -- index is i as the operand is, and v as it is read.
  abbrev pub indexed : ℕ → Position → Position → Role → Dynamic → Dynamic → Held → Next → Place →
      Rest → Result Spot ValueFault → Task
  indexed n q bracket role i v h next p done (Ok (spot.Item k)) =
      at_mark n done (next (deeper p (path_step.Index k)) done)
  indexed n q bracket role i v h next p done (Ok spot.Key) =
      at_mark n done (next (deeper p (path_step.Key (key_of v))) done)
  indexed n q bracket role i v h next p done (Ok s) =
      rooted g n (origin_of_part role s) (record h { value = part h.value s }) next p done
  indexed n q bracket role i v h next p done (Err (fault.Bounds size k)) =
      failing n (Plain (out_of_bounds h.value size k) q) done
  indexed n q bracket role i v h next p done (Err fault.NoKey) =
      missing_key n q (OfIndex i bracket) role (key_of v) h next p done
  indexed n q bracket role i v h next p done (Err fault.WrongType) =
      failing n (Plain (MismatchDataType (index_type h.value) (type_name_of v)) q) done
  indexed n q bracket role i v h next p done (Err e) = by_indexer n q bracket role i next p done

  -- An index, which is an operand of the chain. A value that is indexed itself looks at it as it is read
  -- here; the host's indexers are given the operand, and read it themselves, each time anew.
  abbrev pub index_step : ℕ → Dynamic → Position → Position → Role → Next → Place → Rest → Task
  index_step n i q bracket role next p done =
      Look p (λ h. if is_indexed h.value
      then flattening n q i done (λ v.
      indexed n q bracket role i v h next p done (locate h.value v))
      else by_indexer n q bracket role i next p done)

  -- a property of a value that is no map is for the host's getters and setters
  abbrev pub by_accessor : ℕ → ℕ → ℕ → ℕ → Position → Role → Next → Place → Rest → Task
  by_accessor n name getter setter q (Writes v) next p done =
      set_property g n name setter q true p v dynamic.Unit done
  by_accessor n name getter setter q (Operates v a) next p done =
      get_property g n name getter q p done
      (into_answer g n q false (OfProperty name setter q true) (operating g n q a v) p done)
  by_accessor n name getter setter q role next p done =
      get_property g n name getter q p done
      (into_answer g n q (reads role) (OfProperty name setter q false) next p done)

  abbrev pub at_key : ℕ → Position → Role → List ℕ → Held → Next → Place → Rest → Option Tree → Task
  at_key n q role k h next p done (Some t) =
      at_mark n done (next (deeper p (path_step.Key k)) done)
  at_key n q role k h next p done None = missing_key n q OfNothing role k h next p done

  abbrev pub property_of : ℕ → ℕ → ℕ → ℕ → Position → Role → Held → Next → Place → Rest →
      Dynamic → Task
  property_of n name getter setter q role h next p done (dynamic.Map es) =
      at_key n q role (name_of g.program name) h next p done
      (entry_at (name_of g.program name) es)
  property_of n name getter setter q role h next p done d =
      by_accessor n name getter setter q role next p done

  abbrev pub property_step : ℕ → ℕ → ℕ → ℕ → Position → Role → Next → Place → Rest → Task
  property_step n name getter setter q role next p done =
      Look p (λ h. property_of n name getter setter q role h next p done h.value)

-- whether a chain ends at unit before this step
abbrev pub skips : Step → Bool
skips (step.Index i flags q bracket) = bit_at (step_bits flags) 0 == 1
skips (step.Property name getter setter flags q) = bit_at (step_bits flags) 0 == 1
skips (step.Method name argc i flags q) = bit_at (step_bits flags) 0 == 1

-- the position of a step's own faults
abbrev pub step_position : Step → Position
step_position (step.Index i flags q bracket) = q
step_position (step.Property name getter setter flags q) = q
step_position (step.Method name argc i flags q) = q

-- A chain whose value, as it is read, is unit ends before a step that asks for it. Of all that stands
-- where a walk is, only a root that the first step asks whether it is a shared variable is a cell.
abbrev pub if_not_unit : Rest → Task → Dynamic → Task
if_not_unit done go v = if is_unit v then done (WalkEnded dynamic.Unit false) else go

abbrev pub unless_unit : ℕ → Position → Bool → Place → Rest → Task → Task
unless_unit n q false p done go = go
unless_unit n q true p done go =
    Look p (λ h. flattening n q h.value done (if_not_unit done go))

-- the role of a chain's last step
abbrev pub role_at_end : Option Dynamic → Option AssignOp → Role
role_at_end None op = Reads
role_at_end (Some v) None = Writes v
role_at_end (Some v) (Some a) = Operates v a

-- where the steps end
abbrev pub ended : Setting → Role → ℕ → Place → Rest → Task
ended g Passes n p done = at_mark n done (Look p (λ h. done (WalkEnded h.value false)))
ended g Reads n p done = at_mark n done (Look p (λ h. done (WalkEnded h.value false)))
ended g (Writes v) n p done = at_mark n done (Write p v (done (WalkEnded dynamic.Unit true)))
ended g (Operates v a) n p done = operating g n g.position a v p done

module _ (c : Course) where
  -- an operand of the chain
  abbrev pub operand : ℕ → Dynamic
  operand i = value_of (slice_index_or c.operands i unit)

  -- n operands of the chain, from the one of number i on
  abbrev pub operands_from : ℕ → ℕ → List Dynamic
  operands_from i n = map value_of (take n (drop i c.operands))

  -- the role of the chain's last step
  abbrev pub last_role : Role
  last_role = role_at_end c.assigns c.operator

  -- the role of a step before these
  abbrev pub role_before : List Step → Role
  role_before [] = last_role
  role_before (s ∷ steps) = Passes

  -- a step
  abbrev pub taken : Step → ℕ → Role → Next → Place → Rest → Task
  taken (step.Index i flags q bracket) n role next p done =
      index_step c.setting n (operand i) q bracket role next p done
  taken (step.Property name getter setter flags q) n role next p done =
      property_step c.setting n name getter setter q role next p done
  taken (step.Method name argc i flags q) n role next p done =
      method_step c.setting n q (operands_from i argc) (reads role) next p done name argc

  -- the walk from a place over the steps from number n on
  abbrev pub walked : List Step → ℕ → Place → Rest → Task
  walked [] n p done = ended c.setting last_role (n - 1) p done
  walked (s ∷ steps) n p done =
      at_mark n done (unless_unit n (step_position s) (skips s) p done
      (taken s n (role_before steps) (walked steps (n + 1)) p done))

  -- the whole walk
  abbrev pub whole_walk : List Step → Task
  whole_walk steps = walked steps 0 (record { root = 0; path = [] }) Done
