-- Texts that are made of segments.
use Rattle.std.specs.Prelude.{ℕ, ◌+◌, List, [], ◌∷◌, ◌++◌, Option, Some, None, length, codes, if◌then◌else◌}
use Rattle.grain_value.specs.Cells.{flat}
use Rattle.grain_value.specs.Looking.{text_of}
use Rattle.grain_value.specs.Operands.{top, below, under}
use Rattle.grain_value.specs.Sizes.{is_over}
use Rattle.grain_value.specs.Writing.{kind_of, plain, type_name_of}
use Rattle.grain_value.specs.declared.natives.Native.{Native}
use Rattle.grain_value.specs.declared.values.Dynamic.{Dynamic}
use Rattle.grain_value.specs.declared.values.Dynamic.TheVariants as dynamic
use Rattle.grain_value.specs.declared.values.Held.{Held}
use Rattle.grain_fault.specs.Classes.{catchable}
use Rattle.grain_fault.specs.Problems.{Problem, Plain, DataTooLarge, Malformed}
use Rattle.grain_fault.specs.declared.faults.MalformedKind.TheVariants as kind
use Rattle.grain_host.specs.Law.{native_of}
use Rattle.grain_means.specs.Worlds.{Frame, World, Act, Setup}
use Rattle.grain_means.specs.Rules.Faults.{marked, position, raised}
use Rattle.grain_means.specs.Rules.Going.{pushed}
use Rattle.grain_means.specs.Rules.Reads.{flattened}
use Rattle.grain_means.specs.Rules.Natives.{native}
use Rattle.grain_means.specs.Rules.Pointers.{operand_under}

-- the name of the native that is asked for the text of a segment
abbrev pub to_string : List ℕ
to_string = codes "to_string"

-- the text that a value is, or else the name of its type
abbrev pub text_or_type : Option (List ℕ) → Dynamic → List ℕ
text_or_type None v = type_name_of v
text_or_type (Some s) v = s

-- what is appended where a native gives this
abbrev pub shown : Dynamic → List ℕ
shown v = text_or_type (text_of v) v

module _ {S : Type 0} (m : Setup S) where
  -- what is no buffer
  abbrev pub not_a_buffer : Dynamic → Frame → World S → Act S
  not_a_buffer v f w =
      raised m f (Plain (Malformed (kind.BufferNotText (type_name_of v))) (position m f)) w

  -- a text goes after that of the buffer, which was this value
  abbrev pub put_behind : Option (List ℕ) → Dynamic → List ℕ → ℕ → Frame → World S → Act S
  put_behind None v s next f w = not_a_buffer v f w
  put_behind (Some b) v s next f w =
      if is_over m.engine.limits.text (length b + length s)
      then raised m f (Plain (DataTooLarge (codes "Length of string")) (position m f)) w
      else pushed m f next (under 2 f.operands) (dynamic.Text (b ++ s)) w

  -- a text goes after the buffer, which is the operand under the segment
  abbrev pub appended : List ℕ → ℕ → Frame → World S → Act S
  appended s next f w =
      flattened m (operand_under 1 f.operands) [] f w (λ v. put_behind (text_of v) v s next f w)

  -- A fault is raised, at a mark, and passed over: its trace is gone, and this, the name of the segment's
  -- type, is appended.
  abbrev pub type_appended : List ℕ → ℕ → Frame → World S → Act S
  type_appended t next f w = marked m f w (λ w1. appended t next f (record w1 { trace = [] }))

  -- the fault of the native for a segment of this type: one that a script may catch is passed over
  abbrev pub showing_failed : List ℕ → ℕ → Frame → Problem → World S → Act S
  showing_failed t next f x w = if catchable x then type_appended t next f w else raised m f x w

  -- what the native gave, as it is read; that it is a lent cell is such a fault
  abbrev pub answer_appended : Option Dynamic → List ℕ → ℕ → Frame → World S → Act S
  answer_appended None t next f w = type_appended t next f w
  answer_appended (Some r) t next f w = appended (shown r) next f w

  -- a segment that is no text: what the native gives for it, or its plain text if there is none
  abbrev pub showing : Option Native → Dynamic → Held → ℕ → Frame → World S → Act S
  showing None v h next f w = appended (plain v) next f w
  showing (Some n) v h next f w =
      native m to_string None (h ∷ []) f w
      (λ r w1. answer_appended (flat w1.cells r) (type_name_of v) next f w1)
      (showing_failed (type_name_of v) next f)

  abbrev pub segment_read : Option (List ℕ) → Dynamic → Held → ℕ → Frame → World S → Act S
  segment_read (Some s) v h next f w = appended s next f w
  segment_read None v h next f w =
      showing (native_of m.law w.host to_string (kind_of h.value ∷ [])) v h next f w

  -- an empty text
  abbrev pub interpolate_start : ℕ → Frame → World S → Act S
  interpolate_start next f w = pushed m f next f.operands (dynamic.Text []) w

  -- the last operand, as it is read, is appended to the buffer under it
  abbrev pub interpolate_append : ℕ → Frame → World S → Act S
  interpolate_append next f w =
      flattened m (top f.operands) [] f w
      (λ v. segment_read (text_of v) v (record (top f.operands) { value = v }) next f w)

  -- the text that the last operand is, as it is read
  abbrev pub buffer_ended : Option (List ℕ) → Dynamic → ℕ → Frame → World S → Act S
  buffer_ended None v next f w = not_a_buffer v f w
  buffer_ended (Some s) v next f w = pushed m f next (below f.operands) (dynamic.Text s) w

  abbrev pub interpolate_end : ℕ → Frame → World S → Act S
  interpolate_end next f w =
      flattened m (top f.operands) [] f w (λ v. buffer_ended (text_of v) v next f w)
