-- An instruction that raises a fault of its own by a row of instructions is no chain.
use Rattle.std.proofs.Common.{◌⊎◌, ℕ, List, inl, inr}
use Rattle.grain_fault.specs.Problems.{FaultKind, FunctionNotFound, MismatchDataType, AssignmentToConstant, DataRace, IndexingType, NonPureCall, DotExpr, Arithmetic, Runtime, TooManyOperations, TooManyVariables, StackOverflow, UnboundThis, DataTooLarge, Terminated, Malformed, Problem, Plain, InFunctionCall, InModule, SystemError, NoMemory}
use Rattle.grain_fault.specs.declared.faults.MalformedKind.TheVariants as kind
use Rattle.grain_fault.specs.Positions.{at_position_if_none}
use Rattle.grain_fault.specs.declared.places.Position.{Position}
use Rattle.grain_program.specs.declared.code.instruction_set.Op.{Op}
use Rattle.grain_program.specs.declared.code.instruction_set.Op.TheVariants as op
use Rattle.grain_program.specs.declared.code.functions.Function.{Function}
use Rattle.grain_value.specs.declared.values.Held.{Held}
use Rattle.grain_means.specs.Worlds.{Frame, Setup, World}
use Rattle.grain_means.specs.Rules.{position}
use Rattle.grain_means.specs.Comes.{ProgramPoint}
use Rattle.grain_means.specs.Causes.{CallsFunction, AnswersLent, AsksLast, AsksNative, AsksOnce, HasPosition, HostAnswers, IsNoChain, Mistypes, Question, Raises, ReadsLent, Row}

-- at a chain
module _ {S : Type 0} (m : Setup S) (k : ℕ) (f : Frame) (w : World S) where
  abbrev at : ProgramPoint S
  at = record { instruction = op.Chain k; frame = f; world = w }

  neither : ⊥ ⊎ ⊥ → ⊥
  neither (inl a) = a
  neither (inr b) = b

  asks_once : (q : Question S) → AsksOnce m q at → ⊥
  asks_once q (inl a) = neither a.2
  asks_once q (inr b) = b.is

  asks_last : (x : Problem) (q : Question S) → AsksLast m x q at → ⊥
  asks_last x q (inl a) = asks_once q a
  asks_last x q (inr (inl b)) = b.5.to
  asks_last x q (inr (inr c)) = c.0.1

  asks_native : (q : Question S) → AsksNative m q at → ⊥
  asks_native q (inl a) = asks_once q a
  asks_native q (inr (inl b)) = b.5.to
  asks_native q (inr (inr c)) = c.1

  races : (name : List ℕ) → ReadsLent m name (op.Chain k) f w ⊎ AnswersLent m name at → ⊥
  races name (inl a) = a
  races name (inr b) = b.named

  mistypes : (r a : List ℕ) → Mistypes r a (op.Chain k) f w → ⊥
  mistypes r a (inl h) = h.5
  mistypes r a (inr (inl h)) = h.6
  mistypes r a (inr (inr h)) = h.5

  calls : (g : Function) (args : List Held) → CallsFunction m.program g args (op.Chain k) f w → ⊥
  calls g args (inl a) = a
  calls g args (inr b) = b.1.1

  overflows : (s : List ℕ) → Raises m (Arithmetic s) at → ⊥
  overflows s (inl operates) = operates.2
  overflows s (inr counts) = counts

  not_found : (s : List ℕ) → Raises m (FunctionNotFound s) at → ⊥
  not_found s (inl finds) = asks_last (Plain (FunctionNotFound s) (position m f)) finds.0 finds.2
  not_found s (inr names) = names.4

  too_large : (t : List ℕ) → Raises m (DataTooLarge t) at → ⊥
  too_large t (inl operates) = operates.2
  too_large t (inr (inl grows)) = grows.4.0
  too_large t (inr (inr appends)) = appends.1.3

  no_buffer : (t : List ℕ) → Raises m (Malformed (kind.BufferNotText t)) at → ⊥
  no_buffer t (b, none, is, inl ends) = ends
  no_buffer t (b, none, is, inr appends) = appends.1

  no_kind : (x : FaultKind) → Raises m x at → ⊥
  no_kind (FunctionNotFound s) row = not_found s row
  no_kind (IndexingType s) row =
      asks_last (Plain (IndexingType s) (position m f)) row.0 row.2
  no_kind (DotExpr s) row = asks_last (Plain (DotExpr s) (position m f)) row.0 row.2
  no_kind (NonPureCall s) row = asks_native row.1.question row.1.asks
  no_kind (Terminated v) row = row.2
  no_kind (MismatchDataType r a) row = mistypes r a row
  no_kind (DataRace s) row = races row.0 row.2
  no_kind (AssignmentToConstant s) row = row
  no_kind (Arithmetic s) row = overflows s row
  no_kind (Runtime v) row = row.1
  no_kind TooManyOperations row = row.1
  no_kind TooManyVariables row = row
  no_kind StackOverflow row = calls row.2.0 row.2.1 row.2.2
  no_kind UnboundThis row = row.1
  no_kind (DataTooLarge t) row = too_large t row
  no_kind (Malformed (kind.SlotPastScope i n)) row = row.2
  no_kind (Malformed (kind.UnwindPastScope t n)) row = row.2
  no_kind (Malformed (kind.BufferNotText t)) row = no_buffer t row
  no_kind (Malformed (kind.MissingTotal i)) row = row.1.0
  no_kind x row = row

-- the fault has this position, which is the instruction's, and if it left a function, the instruction that
-- called that is no chain
abbrev pub IsOwn : Position → Op → Problem → Type 0
IsOwn p o (InFunctionCall s source x q) =
    HasPosition p (InFunctionCall s source x q) × IsNoChain o
IsOwn p o x = HasPosition p x

pub own_position : (p : Position) (o : Op) (x : Problem) → IsOwn p o x → HasPosition p x
own_position p o (InFunctionCall s source x q) own = own.0
own_position p o x own = own

pub no_chain : {S : Type 0} (m : Setup S) (x : Problem) (o : Op) (f : Frame) (w : World S) →
    IsOwn (position m f) o x → Row m x (record { instruction = o; frame = f; world = w }) →
    IsNoChain o
no_chain m (Plain x p) (op.Chain k) f w own row = no_kind m k f w x row
no_chain m (Plain x p) o f w own row = tt
no_chain m (InFunctionCall s source x p) o f w own row = own.1
no_chain m (InModule s x p) o f w own row = absurd row
no_chain m (SystemError s e) o f w own row = absurd row
no_chain m NoMemory o f w own row = absurd row

-- where the host answers a fault to an instruction, that is no chain
pub not_answered : {S : Type 0} (m : Setup S) (y : Problem) (o : Op) (f : Frame) (w : World S) →
    HostAnswers m y (record { instruction = o; frame = f; world = w }) → IsNoChain o
not_answered m y (op.Chain k) f w a =
    asks_last m k f w (at_position_if_none (position m f) y) a.2.question a.5
not_answered m y o f w a = tt

-- where an instruction asks for a native, it is no chain
pub asks_no_chain : {S : Type 0} (m : Setup S) (q : Question S) (o : Op) (f : Frame) (w : World S) →
    AsksNative m q (record { instruction = o; frame = f; world = w }) → IsNoChain o
asks_no_chain m q (op.Chain k) f w a = asks_native m k f w q a
asks_no_chain m q o f w a = tt
