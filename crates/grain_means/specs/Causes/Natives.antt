-- What an instruction asks the host for, and what it is answered.
pub use Rattle.grain_means.specs.Causes.Questions.{Question, all_args, native_asked, reply_to, IsCalled}
use Rattle.std.specs.Prelude.{◌≡◌, ◌⊎◌, ◌+◌, ℕ, suc, List, [], ◌∷◌, ◌++◌, Option, Some, None, true, false, slice_get, slice_set}
use Rattle.grain_value.specs.declared.values.Dynamic.{Dynamic}
use Rattle.grain_value.specs.declared.values.Held.{Held}
use Rattle.grain_value.specs.declared.stores.Cell.{Cell}
use Rattle.grain_value.specs.Cells.{flat, lent}
use Rattle.grain_value.specs.declared.values.FnPtr.{FnPtr}
use Rattle.grain_value.specs.Looking.{cell_of}
use Rattle.grain_value.specs.Operands.{top, values_in}
use Rattle.grain_fault.specs.Classes.{catchable}
use Rattle.grain_fault.specs.Positions.{at_position_if_none}
use Rattle.grain_fault.specs.Problems.{FaultKind, Problem, Plain}
use Rattle.grain_program.specs.declared.code.instruction_set.Op.{Op}
use Rattle.grain_program.specs.declared.code.instruction_set.Op.TheVariants as op
use Rattle.grain_program.specs.declared.code.parts.AssignOp.{AssignOp}
use Rattle.grain_program.specs.View.{View, name_of, assign_op_of}
use Rattle.grain_ops.specs.Outcomes.{NotBuiltIn}
use Rattle.grain_means.specs.Worlds.{Go, Failed, InHost, World, Setup, Frame, Place}
use Rattle.grain_means.specs.Places.{look}
use Rattle.grain_host.specs.Signatures.{missing_kind, not_found, says_missing}
use Rattle.grain_host.specs.Law as reply
use Rattle.grain_value.specs.declared.natives.Native.{Native}
use Rattle.grain_means.specs.Rules.{Home, Receiver, flat_all, lent_at, new_root, at_place_of, content_now, in_entry, is_read_only, first_is_read_only, position, op_assigned}
use Rattle.grain_means.specs.Comes.{ProgramPoint}
use Rattle.grain_means.specs.Ends.{Ends}
use Rattle.grain_means.specs.Causes.Questions.{answered_world, begun}
use Rattle.grain_means.specs.Causes.Callbacks.{AsksFirst, HostFails, asked_by, asked_in}
use Rattle.grain_means.specs.Causes.Instructions.{Holds, Misses, HasNoBuiltIn}
use Rattle.grain_means.specs.Causes.Interpolation.{AsksToShow}
use Rattle.grain_means.specs.Causes.Pointers.{IsMethodCall, PointsFirst, receiver, args_beside, function_beside}

-- an op-assignment writes here, where this is held and can be written: in the entry of a slot, or in
-- `this`, or in the cell that one of them is
abbrev pub AssignsTo : {S : Type 0} → View → AssignOp → Home → Held → Op → Frame → World S → Type 0
AssignsTo program a i h (op.AssignLocalOp slot n k) f w = (a ≡ assign_op_of program k) ×
    (i ≡ in_entry (f.base + slot) (cell_of h.value)) × Holds w (f.base + slot) false h
AssignsTo program a i h (op.AssignThisOp k) f w = (a ≡ assign_op_of program k) ×
    ((p : Place) × (f.this ≡ Some p) × (i ≡ at_place_of p (cell_of h.value)) ×
    (h ≡ look w.roots p) × (is_read_only w h ≡ false))
AssignsTo program a i h o f w = ⊥

-- an op-assignment of this value, which writes where this is held, asks the built-in on what they are as
-- they are read, and it says that it is none
pub record AssignsByHost {S : Type 0} (m : Setup S) (a : AssignOp) (i : Home) (h : Held)
    (u : Dynamic) (v : Held) (o : Op) (f : Frame) (w : World S) : Type 0 where
  pub to : AssignsTo m.program a i h o f w
  pub content : flat w.cells h.value ≡ Some u
  pub value : flat w.cells (top f.operands).value ≡ Some v.value
  pub flag : v.read_only ≡ (top f.operands).read_only
  pub none : op_assigned m.engine a u v.value ≡ NotBuiltIn

-- An instruction of the frame f, which began in the world w, asked the question, which ended with this fault
-- and left the world v: there is no native, or the host answered the fault to the call, or the calls that it
-- asked for first ended with it.
abbrev pub EndsWith : {S : Type 0} → Setup S → Frame → World S → Question S → Problem → World S →
    Type 0
EndsWith m f w q x v =
    ((native_asked m q ≡ None) ×
    (x ≡ not_found q.name (values_in (all_args q)) (position m f)) × (v ≡ q.world))
    ⊎ ((n : Native) × (native_asked m q ≡ Some n) × IsCalled q n ×
    (((y : Problem) × (reply_to m q n.key ≡ reply.Failed y) ×
    (x ≡ at_position_if_none (position m f) y) ×
    (v ≡ answered_world m n.key q.lent q.args q.world))
    ⊎ ((a : AsksFirst m q n f w) ×
    Ends m (Go (InHost (asked_by m a)) (asked_in m a)) (Failed x) v)))

-- an op-assignment that begins in this world asks for the host's op-assignment, to which what it writes is
-- lent
abbrev pub asks_first : {S : Type 0} → Setup S → AssignOp → Home → Held → Dynamic → Held → World S →
    Question S
asks_first m a i h u v w = record {
  world = begun w;
  name = name_of m.program a.op_assign_name;
  lent = Some (record { home = i; held = record h { value = u } });
  args = v ∷ [];
}

-- The question is the second of an op-assignment that no built-in does: it asks for the operator, on
-- what stands there then, where the first ended with the fault that no function of its name is
-- found. That fault was raised at a mark, and its trace is gone.
abbrev pub AsksAgain : {S : Type 0} → Setup S → AssignOp → Home → Held → Dynamic → Held →
    Question S → ProgramPoint S → Type 0
AsksAgain {S = S} m a i h u v q at =
    (x : Problem) × (w : World S) ×
    EndsWith m at.frame at.world (asks_first m a i h u v at.world) x w ×
    (says_missing (name_of m.program a.op_assign_name) x ≡ true) ×
    (q ≡ record {
      world = record w { passed = w.passed + 1; trace = [] };
      name = name_of m.program a.op_name;
      lent = None;
      args = record h { value = content_now i h w } ∷ v ∷ [];
    })

-- the question is the second of an op-assignment that no built-in does
abbrev pub AsksSecond : {S : Type 0} → Setup S → Question S → ProgramPoint S → Type 0
AsksSecond {S = S} m q at =
    (a : AssignOp) × (i : Home) × (h : Held) × (u : Dynamic) × (v : Held) ×
    AssignsByHost m a i h u v at.instruction at.frame at.world × AsksAgain m a i h u v q at

-- the question is one of an op-assignment that no built-in does, the first or the second
abbrev pub AsksToAssign : {S : Type 0} → Setup S → Question S → ProgramPoint S → Type 0
AsksToAssign {S = S} m q at =
    (a : AssignOp) × (i : Home) × (h : Held) × (u : Dynamic) × (v : Held) ×
    AssignsByHost m a i h u v at.instruction at.frame at.world ×
    ((q ≡ asks_first m a i h u v at.world) ⊎ AsksAgain m a i h u v q at)

-- it asks the host for a native on copies of its operands: no function is found for a call without a
-- receiver, or no built-in for an operator
abbrev pub AsksOnCopies : {S : Type 0} → Setup S → Question S → ProgramPoint S → Type 0
AsksOnCopies m q at =
    (q.world ≡ begun at.world) × (q.lent ≡ None) ×
    (Misses m.program q.name q.args at.instruction at.frame at.world
    ⊎ HasNoBuiltIn m q.name q.args at.instruction at.frame at.world)

-- what a native is lent where it is lent this, which is a root after these
abbrev pub lent_last : List Held → Held → Option Receiver
lent_last roots h = lent_at (roots ++ h ∷ []) (Some (new_root roots))

-- the world once an instruction that began in this one has put a receiver after all roots, at a second
-- mark
abbrev pub receiver_begun : {S : Type 0} → Held → World S → World S
receiver_begun h w = record (begun w) { passed = w.passed + 1 + 1; roots = w.roots ++ h ∷ [] }

-- the content of a cell that a receiver is, which can only be read if the receiver can
abbrev pub content_for : Held → Cell → Held
content_for h a = record { value = a.held.value; read_only = h.read_only }

-- What a native is lent of a receiver, which is a root then, by an instruction that began in the world w,
-- and the world v then: the receiver; or, if it is the cell of number i, its content, which is one more
-- root.
abbrev pub LendsReceiver : {S : Type 0} → Option ℕ → Held → World S → Option Receiver → World S →
    Type 0
LendsReceiver None h w r v = (r ≡ lent_last w.roots h) × (v ≡ receiver_begun h w)
LendsReceiver (Some i) h w r v =
    (a : Cell) × (slice_get w.cells i ≡ Some a) × (a.busy ≡ false) ×
    (r ≡ lent_last (w.roots ++ h ∷ []) (content_for h a)) ×
    (v ≡ record (receiver_begun h w) {
      roots = (w.roots ++ h ∷ []) ++ content_for h a ∷ [];
      cells = slice_set w.cells i (lent a.held);
    })

-- it asks the host for a native to which a receiver is lent: the pointer that is called on the receiver,
-- and on n arguments more, names no function
pub record AsksOnReceiver {S : Type 0} (m : Setup S) (q : Question S) (at : ProgramPoint S) : Type 0
  where
    pub n : ℕ
    pub is : IsMethodCall (suc n) at.instruction
    pub pointer : FnPtr
    pub points : PointsFirst pointer n at.frame at.world
    pub none : function_beside m.program pointer n at.frame ≡ None
    pub named : q.name ≡ pointer.name
    pub reads : flat_all at.world.cells (args_beside pointer n at.frame) ≡ Some q.args
    pub lends : let h = receiver n at.frame at.world in
        LendsReceiver (cell_of h.value) h at.world q.lent q.world

-- it asks the host for a native, and for no other
abbrev pub AsksOnce : {S : Type 0} → Setup S → Question S → ProgramPoint S → Type 0
AsksOnce m q at = AsksOnCopies m q at ⊎ AsksOnReceiver m q at

-- it asks the host for a native: on copies of its operands, or on a receiver, or for an op-assignment, or
-- for the text of a segment
abbrev pub AsksNative : {S : Type 0} → Setup S → Question S → ProgramPoint S → Type 0
AsksNative m q at = AsksOnce m q at ⊎ (AsksToAssign m q at ⊎ AsksToShow m q at)

-- It asks this question, and asks no other after this fault, which it raises: the first of an
-- op-assignment is the last unless the fault says that no function of its name is found; and where the
-- text of a segment is asked for, a fault that a script may catch is passed over.
abbrev pub AsksLast : {S : Type 0} → Setup S → Problem → Question S → ProgramPoint S → Type 0
AsksLast {S = S} m x q at = AsksOnce m q at ⊎
    (((a : AssignOp) × (i : Home) × (h : Held) × (u : Dynamic) × (v : Held) ×
    AssignsByHost m a i h u v at.instruction at.frame at.world ×
    (((q ≡ asks_first m a i h u v at.world)
    × (says_missing (name_of m.program a.op_assign_name) x ≡ false))
    ⊎ AsksAgain m a i h u v q at)) ⊎ (AsksToShow m q at × (catchable x ≡ false)))

-- it asks for a native that is not there, a fault of this kind says so, and after that fault it asks
-- for no other
abbrev pub FindsNone : {S : Type 0} → Setup S → FaultKind → ProgramPoint S → Type 0
FindsNone {S = S} m k at = (q : Question S)
    × (missing_kind q.name (values_in (all_args q)) ≡ k)
    × AsksLast m (Plain k (position m at.frame)) q at × (native_asked m q ≡ None)

-- it asks for this native, which is there
pub record FindsNative {S : Type 0} (m : Setup S) (name : List ℕ) (n : Native)
    (at : ProgramPoint S) : Type 0 where
  pub question : Question S
  pub named : name ≡ question.name
  pub asks : AsksNative m question at
  pub found : native_asked m question ≡ Some n

-- the native of this name writes its first argument, which can only be read
abbrev pub WritesConstant : {S : Type 0} → Setup S → List ℕ → ProgramPoint S → Type 0
WritesConstant m name at = (n : Native) × (c : FindsNative m name n at)
    × (n.writes ≡ true) × (first_is_read_only (all_args c.question) ≡ true)

-- the host answers this fault to the call of a native, or asks for calls first, from which the fault comes;
-- and after the fault, which has the frame's position if it has none, no other native is asked for
abbrev pub HostAnswers : {S : Type 0} → Setup S → Problem → ProgramPoint S → Type 0
HostAnswers m y at = (name : List ℕ) × (n : Native) × (c : FindsNative m name n at)
    × IsCalled c.question n
    × ((reply_to m c.question n.key ≡ reply.Failed y)
    ⊎ ((a : AsksFirst m c.question n at.frame at.world)
    × HostFails m (asked_by m a) (asked_in m a) y))
    × AsksLast m (at_position_if_none (position m at.frame) y) c.question at
