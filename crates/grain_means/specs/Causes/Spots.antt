-- The spots to which the walk of a chain comes, and what it finds there where it ends in a fault.
pub use Rattle.grain_means.specs.Causes.Answers.{past, Passes, question_of, answered_world, CallAsks, call_asked, call_start, CallEnds, lent, missing, refused, gave, failed, asked_gave, asked_failed, asked_out, IsReason, IsLeft, asking_world, on_values, resolved, InvocationEnds, by_function, by_native, by_nothing}
use Rattle.std.specs.Prelude.{◌≡◌, ◌⊎◌, ◌+◌, codes, length, ℕ, ℤ, List, [], ◌∷◌, ◌++◌, Option, Some, None, Bool, true, false, Err, drop, option_map, take}
use Rattle.grain_value.specs.Cells.{flat}
use Rattle.grain_value.specs.Locating.{locate}
use Rattle.grain_value.specs.Looking.{pointer_of}
use Rattle.grain_value.specs.declared.stores.Cell.{Cell}
use Rattle.grain_value.specs.declared.values.FnPtr.{FnPtr}
use Rattle.grain_value.specs.Maps.{Entries, entry_at}
use Rattle.grain_value.specs.Parts.{part_type, with_part}
use Rattle.grain_value.specs.Writing.{type_name_of}
use Rattle.grain_value.specs.declared.values.Dynamic.{Dynamic}
use Rattle.grain_value.specs.declared.values.Dynamic.TheVariants as dynamic
use Rattle.grain_value.specs.declared.values.Held.{Held}
use Rattle.grain_value.specs.declared.values.locating.Spot.{Spot}
use Rattle.grain_value.specs.declared.values.value_faults.ValueFault.TheVariants as fault
use Rattle.grain_fault.specs.Absences.{is_dot_expr, is_indexing_type}
use Rattle.grain_fault.specs.Problems.{FaultKind, Problem, Plain, InFunctionCall, InModule, SystemError, NoMemory, Arithmetic, ArrayBounds, BitFieldBounds, DataRace, DataTooLarge, MismatchDataType, PropertyNotFound, StackOverflow, StringBounds, Terminated, TooManyOperations, TooManyVariables}
use Rattle.grain_fault.specs.declared.places.Position.{Position}
use Rattle.grain_fault.specs.declared.traces.Fault.{Fault}
use Rattle.grain_ops.specs.Outcomes.{ArithmeticFault, TooLarge}
use Rattle.grain_program.specs.declared.code.functions.Function.{Function}
use Rattle.grain_program.specs.View.{name_of}
use Rattle.grain_program.specs.declared.code.parts.AssignOp.{AssignOp}
use Rattle.grain_program.specs.declared.code.chains.Step.{Step}
use Rattle.grain_program.specs.declared.code.chains.Step.TheVariants as step
use Rattle.grain_program.specs.declared.code.chains.StepFlags.{StepFlags}
use Rattle.grain_means.specs.Worlds.{Answer, Callback, Failed, Place, Setup, World}
use Rattle.grain_means.specs.Places.{look, put}
use Rattle.grain_means.specs.Rules.{Receiver, pointed_native, lent_at, op_assigned, placed, race_text}
use Rattle.grain_means.specs.Tasks.{Call, Invocation, Pointed, Task, Done, Mark, Look, Flatten, Write, Root, Drop, Need, Invoke, WalkFailed}
use Rattle.grain_means.specs.Walks.{Course, OfPart, Rest, assigning, flattening, index_type, key_of, operand, operands_from, operating, out_of_bounds, role_before, set_back, taken, walked, whole_walk}
use Rattle.grain_means.specs.Causes.Callbacks.{IsKeptOut}

-- A walk of a chain in the world. `course` is what the chain took from the operands, and `steps` are
-- its steps. `start` is the world in which the walk begins, and `place` is where the walk's first root
-- stands in it. `others` is the number of all roots of that world: the walk's later roots come after
-- these.
pub record ChainWalk (S : Type 0) : Type 0 where
  pub course : Course
  pub steps : List Step
  pub place : Place
  pub others : ℕ
  pub start : World S

-- a world without a trace
abbrev pub untraced : {S : Type 0} → World S → World S
untraced w = record w { trace = [] }

-- what is left of the walk does nothing but drop roots, and then ends with the fault x of step n
abbrev pub Falls : ℕ → Problem → Task → Type 0
Falls n x (Done o) = o ≡ WalkFailed n x
Falls n x (Mark out go) = ⊥
Falls n x (Look q go) = ⊥
Falls n x (Flatten v go) = ⊥
Falls n x (Write q v t) = ⊥
Falls n x (Root h t) = ⊥
Falls n x (Drop i go) = (h : Held) → Falls n x (go h)
Falls n x (Need c go) = ⊥
Falls n x (Invoke i go) = ⊥

-- The method `call` of a value, or `curry`, asks for a pointer: that value is to be one; or `call` of a
-- value that is none, whose first argument is to be one, as it is read. With these arguments:
abbrev pub AsksPointerOf : List ℕ → List Dynamic → List Cell → Dynamic → Dynamic → Type 0
AsksPointerOf text args cells d v =
    ((v ≡ d) × ((text ≡ codes "curry") ⊎ ((text ≡ codes "call") × (args ≡ []))))
    ⊎ ((text ≡ codes "call") × (pointer_of d ≡ None) ×
    ((u : Dynamic) × (us : List Dynamic) × (args ≡ u ∷ us) × (flat cells u ≡ Some v)))

module _ {S : Type 0} (m : Setup S) (c : ChainWalk S) where
  -- where a place of the walk lies in the world
  abbrev pub world_of : Place → Place
  world_of q = placed c.place c.others q

  -- what is lent for a call
  abbrev pub lent_for : Call → World S → Option Receiver
  lent_for call w = lent_at w.roots (option_map world_of call.receiver)

  -- the place of what a function has as its `this`
  abbrev pub under_for : Invocation → Option Place
  under_for i = option_map world_of i.this

  -- a task in a world comes to this in that world
  pub data WalksTo (t : Task) (v : World S) : Task → World S → Type 0 where
    here : WalksTo t v t v
    marked : {out go : Task} {w : World S} → Passes m w →
        WalksTo t v go (past w) → WalksTo t v (Mark out go) w
    looked : {q : Place} {go : Held → Task} {w : World S} →
        WalksTo t v (go (look w.roots (world_of q))) w → WalksTo t v (Look q go) w
    read : {u : Dynamic} {go : Option Dynamic → Task} {w : World S} →
        WalksTo t v (go (flat w.cells u)) w → WalksTo t v (Flatten u go) w
    wrote : {q : Place} {u : Dynamic} {next : Task} {w : World S} →
        WalksTo t v next (record w { roots = put w.roots (world_of q) u }) →
        WalksTo t v (Write q u next) w
    added : {h : Held} {next : Task} {w : World S} →
        WalksTo t v next (record w { roots = w.roots ++ h ∷ [] }) → WalksTo t v (Root h next) w
    dropped : {i : ℕ} {go : Held → Task} {w : World S} →
        WalksTo t v (go (look w.roots (record { root = c.others + i; path = [] })))
        (record w { roots = take (c.others + i) w.roots }) → WalksTo t v (Drop i go) w
    -- a call begins without a trace, and of the one that it leaves nothing is said here
    heard : {call : Call} {go : Answer → Task} {w u : World S} {a : Answer} (trace : List Fault) →
        CallEnds m call (lent_for call w) (untraced w) a u →
        WalksTo t v (go a) (record u { trace = trace }) → WalksTo t v (Need call go) w
    returned : {i : Invocation} {go : Answer → Task} {w u : World S} {a : Answer} →
        InvocationEnds m i (under_for i) (untraced w) a u → WalksTo t v (go a) u →
        WalksTo t v (Invoke i go) w

  -- the walk comes to this in this world
  abbrev pub ComesTo : Task → World S → Type 0
  ComesTo t v = WalksTo t v (whole_walk c.course c.steps) c.start

  -- The walk comes to a native that asks for this call first, in this world: one that the walk calls, or one
  -- that is called where a pointer names no function.
  pub data WalkAsks : Callback → World S → Type 0 where
    by_call : (call : Call) (go : Answer → Task) (w : World S) → ComesTo (Need call go) w →
        (a : CallAsks m call (lent_for call w) (untraced w)) → WalkAsks (call_asked a) (call_start a)
    by_pointer : (i : Invocation) (go : Answer → Task) (w : World S) → ComesTo (Invoke i go) w →
        (p : FnPtr) → i.method ≡ Pointed p → resolved m.program i i.method ≡ None →
        (a : CallAsks m (pointed_native i p) (lent_at w.roots (under_for i)) (untraced w)) →
        WalkAsks (call_asked a) (call_start a)

  -- the walk comes to a step, which has this number, and is now at a place
  pub record AtStep (n : ℕ) (s : Step) : Type 0 where
    pub left : List Step
    pub stands : drop n c.steps ≡ s ∷ left
    pub place : Place
    pub rest : Rest
    pub world : World S
    pub comes : ComesTo (taken c.course s n (role_before c.course left)
        (walked c.course left (n + 1)) place rest) world

  -- what stands at the place where a step begins
  abbrev pub value_at : {n : ℕ} {s : Step} → AtStep n s → Dynamic
  value_at at = (look at.world.roots (world_of at.place)).value

  -- the walk comes to an index step of this operand, positions of the index and of its bracket; and the
  -- operand, as it is read, is this index
  pub record Indexes (n : ℕ) (index : Dynamic) (q : Position) : Type 0 where
    pub number : ℕ
    pub flags : StepFlags
    pub bracket : Position
    pub at : AtStep n (step.Index number flags q bracket)
    pub reads : flat at.world.cells (operand c.course number) ≡ Some index

  -- nothing stands at the index, and with that fault the walk ends
  pub record OutOfBounds (n : ℕ) (x : Problem) : Type 0 where
    pub index : Dynamic
    pub position : Position
    pub step : Indexes n index position
    pub size : ℕ
    pub number : ℤ
    pub none : locate (value_at step.at) index ≡ Err (fault.Bounds size number)
    pub is : x ≡ Plain (out_of_bounds (value_at step.at) size number) position
    pub last : Falls n x (step.at.rest (WalkFailed n x))

  -- the index is of a type by which the value is not indexed, and with that fault the walk ends
  pub record MistypesIndex (n : ℕ) (x : Problem) : Type 0 where
    pub index : Dynamic
    pub position : Position
    pub step : Indexes n index position
    pub none : locate (value_at step.at) index ≡ Err fault.WrongType
    pub is : x ≡ Plain (MismatchDataType (index_type (value_at step.at)) (type_name_of index)) position
    pub last : Falls n x (step.at.rest (WalkFailed n x))

  -- a map lacks the key of an index, or of a property, which the chain does not assign, and with that
  -- fault the walk ends
  pub record LacksIndex (n : ℕ) (x : Problem) : Type 0 where
    pub index : Dynamic
    pub position : Position
    pub step : Indexes n index position
    pub none : locate (value_at step.at) index ≡ Err fault.NoKey
    pub reads : assigning (role_before c.course step.at.left) ≡ false
    pub strict : c.course.setting.engine.strict_properties ≡ true
    pub is : x ≡ Plain (PropertyNotFound (key_of index)) position
    pub last : Falls n x (step.at.rest (WalkFailed n x))

  pub record LacksProperty (n : ℕ) (x : Problem) : Type 0 where
    pub name : ℕ
    pub getter : ℕ
    pub setter : ℕ
    pub flags : StepFlags
    pub position : Position
    pub at : AtStep n (step.Property name getter setter flags position)
    pub entries : Entries
    pub map : value_at at ≡ dynamic.Map entries
    pub none : entry_at (name_of c.course.setting.program name) entries ≡ None
    pub reads : assigning (role_before c.course at.left) ≡ false
    pub strict : c.course.setting.engine.strict_properties ≡ true
    pub is : x ≡ Plain (PropertyNotFound (name_of c.course.setting.program name)) position
    pub last : Falls n x (at.rest (WalkFailed n x))

  -- An index, an answer in which the walk goes on, what an operator answers, the first argument of the
  -- method `call`, or the root of a chain whose first step asks whether it is unit, is a cell whose content
  -- is lent. With that fault the walk ends.
  pub record ReadsLentCell (n : ℕ) (x : Problem) : Type 0 where
    pub value : Dynamic
    pub position : Position
    pub rest : Rest
    pub go : Dynamic → Task
    pub world : World S
    pub comes : ComesTo (flattening n position value rest go) world
    pub lent : flat world.cells value ≡ None
    pub is : x ≡ Plain (DataRace (race_text [])) position
    pub last : Falls n x (rest (WalkFailed n x))

  -- what is put back of a byte, a character or a bit is of another type, and with that fault the walk
  -- ends
  pub record MistypesPart (n : ℕ) (x : Problem) : Type 0 where
    pub spot : Spot
    pub place : Place
    pub part : Dynamic
    pub value : Dynamic
    pub changed : Bool
    pub rest : Rest
    pub world : World S
    pub comes : ComesTo (set_back c.course.setting n (OfPart spot) place part value changed rest) world
    pub none : with_part (look world.roots (world_of place)).value spot part ≡ None
    pub is : x ≡ Plain (MismatchDataType (part_type spot) (type_name_of part))
        c.course.setting.position
    pub last : Falls n x (rest (WalkFailed n x))

  -- a built-in op-assignment has no result, or it is too large, and with that fault the walk ends
  pub record Calculates (n : ℕ) (x : Problem) : Type 0 where
    pub operator : AssignOp
    pub value : Dynamic
    pub position : Position
    pub place : Place
    pub rest : Rest
    pub world : World S
    pub comes : ComesTo (operating c.course.setting n position operator value place rest) world
    pub text : List ℕ
    pub none : let outcome = op_assigned c.course.setting.engine operator
        (look world.roots (world_of place)).value value in
        ((outcome ≡ ArithmeticFault text) × (x ≡ Plain (Arithmetic text) position))
        ⊎ ((outcome ≡ TooLarge text) × (x ≡ Plain (DataTooLarge text) position))
    pub last : Falls n x (rest (WalkFailed n x))

  -- the walk calls a native, and the call ends with a fault
  pub record CallFails (n : ℕ) (x : Problem) : Type 0 where
    pub call : Call
    pub go : Answer → Task
    pub world : World S
    pub comes : ComesTo (Need call go) world
    pub step : call.step ≡ n
    pub after : World S
    pub ends : CallEnds m call (lent_for call world) (untraced world) (Failed x) after
    pub reason : IsReason ends

  -- The body of a function that a native called back, which the walk called, ended with a fault that no
  -- script may catch, and with that fault the walk ends.
  pub record BackFails (n : ℕ) (x : Problem) : Type 0 where
    pub call : Call
    pub go : Answer → Task
    pub world : World S
    pub comes : ComesTo (Need call go) world
    pub step : call.step ≡ n
    pub after : World S
    pub ends : CallEnds m call (lent_for call world) (untraced world) (Failed x) after
    pub left : IsLeft ends
    pub last : Falls n x (go (Failed x))

  -- the same of a native that is called where a pointer names no function
  pub record PointedLeft (n : ℕ) (x : Problem) : Type 0 where
    pub call : Invocation
    pub go : Answer → Task
    pub world : World S
    pub comes : ComesTo (Invoke call go) world
    pub step : call.step ≡ n
    pub pointer : FnPtr
    pub is : call.method ≡ Pointed pointer
    pub none : resolved m.program call call.method ≡ None
    pub after : World S
    pub ends : CallEnds m (pointed_native call pointer) (lent_at world.roots (under_for call))
        (untraced world) (Failed x) after
    pub left : IsLeft ends
    pub last : Falls n x (go (Failed x))

  -- a call of the walk ends with that fault, and with it the walk ends
  pub record NativeFails (n : ℕ) (x : Problem) : Type 0 where
    pub fails : CallFails n x
    pub last : Falls n x (fails.go (Failed x))

  -- A call ends with that fault, which is `ErrorDotExpr` (there is no such property), and so the walk
  -- calls the host's indexer in its place. That ends with `ErrorIndexingType` (there is no indexer), and
  -- so the walk ends with the first fault.
  pub record InsteadFails (n : ℕ) (x : Problem) : Type 0 where
    pub first : CallFails n x
    pub no_property : is_dot_expr x ≡ true
    pub other : Problem
    pub second : CallFails n other
    pub out : Task
    pub instead : first.go (Failed x) ≡ Mark out (Need second.call second.go)
    pub absent : is_indexing_type other ≡ true
    pub last : Falls n x (second.go (Failed other))

  -- the walk comes to the call of a function, which the program has
  pub record Invokes (n : ℕ) : Type 0 where
    pub call : Invocation
    pub go : Answer → Task
    pub world : World S
    pub comes : ComesTo (Invoke call go) world
    pub step : call.step ≡ n
    pub function : Function
    pub arguments : List Held
    pub is : resolved m.program call call.method ≡ Some (function, arguments)

  -- The function is not entered: no operation is left, or the host ends the run; or no level is left; or
  -- the function has too many parameters. With that fault the walk ends.
  pub record IsNotEntered (n : ℕ) (x : Problem) : Type 0 where
    pub invokes : Invokes n
    pub why : IsKeptOut m invokes.call.position (length invokes.function.params) invokes.world x
    pub last : Falls n x (invokes.go (Failed x))

  -- where a pointer names no function, the walk calls a native, and with its fault the walk ends
  pub record PointedFails (n : ℕ) (x : Problem) : Type 0 where
    pub call : Invocation
    pub go : Answer → Task
    pub world : World S
    pub comes : ComesTo (Invoke call go) world
    pub step : call.step ≡ n
    pub pointer : FnPtr
    pub is : call.method ≡ Pointed pointer
    pub none : resolved m.program call call.method ≡ None
    pub after : World S
    pub ends : CallEnds m (pointed_native call pointer) (lent_at world.roots (under_for call))
        (untraced world) (Failed x) after
    pub reason : IsReason ends
    pub last : Falls n x (go (Failed x))

  -- A value that is to be a pointer is none: what stands at the place, or the first argument of `call`
  -- as it is read. With that fault the walk ends.
  pub record IsNoPointer (n : ℕ) (x : Problem) : Type 0 where
    pub name : ℕ
    pub argc : ℕ
    pub first : ℕ
    pub flags : StepFlags
    pub position : Position
    pub at : AtStep n (step.Method name argc first flags position)
    pub value : Dynamic
    pub asked : AsksPointerOf (name_of c.course.setting.program name)
        (operands_from c.course first argc) at.world.cells (value_at at) value
    pub none : pointer_of value ≡ None
    pub is : x ≡ Plain (MismatchDataType (codes "Fn") (type_name_of value)) position
    pub last : Falls n x (at.rest (WalkFailed n x))

  -- why the walk ends in this fault, and blames the step of this number
  abbrev pub WalkRow : ℕ → Problem → Type 0
  WalkRow n x = OutOfBounds n x ⊎ (MistypesIndex n x ⊎ (LacksIndex n x ⊎ (LacksProperty n x ⊎
      (ReadsLentCell n x ⊎ (MistypesPart n x ⊎ (Calculates n x ⊎
      (NativeFails n x ⊎ (InsteadFails n x ⊎ (IsNoPointer n x ⊎ (IsNotEntered n x ⊎
      PointedFails n x))))))))))

  -- Why the walk ends in a fault of this kind at this position that is not the fault of a native. Such a
  -- fault is of one of these kinds.
  abbrev pub KindRow : ℕ → FaultKind → Position → Type 0
  KindRow n (ArrayBounds size i) q = OutOfBounds n (Plain (ArrayBounds size i) q)
  KindRow n (StringBounds size i) q = OutOfBounds n (Plain (StringBounds size i) q)
  KindRow n (BitFieldBounds size i) q = OutOfBounds n (Plain (BitFieldBounds size i) q)
  KindRow n (MismatchDataType r a) q = MistypesIndex n (Plain (MismatchDataType r a) q)
      ⊎ (MistypesPart n (Plain (MismatchDataType r a) q)
      ⊎ IsNoPointer n (Plain (MismatchDataType r a) q))
  KindRow n (PropertyNotFound k) q =
      LacksIndex n (Plain (PropertyNotFound k) q) ⊎ LacksProperty n (Plain (PropertyNotFound k) q)
  KindRow n (DataRace s) q = ReadsLentCell n (Plain (DataRace s) q)
  KindRow n (Arithmetic s) q = Calculates n (Plain (Arithmetic s) q)
  KindRow n (DataTooLarge s) q = Calculates n (Plain (DataTooLarge s) q)
  KindRow n TooManyOperations q = IsNotEntered n (Plain TooManyOperations q)
  KindRow n (Terminated v) q = IsNotEntered n (Plain (Terminated v) q)
  KindRow n StackOverflow q = IsNotEntered n (Plain StackOverflow q)
  KindRow n TooManyVariables q = IsNotEntered n (Plain TooManyVariables q)
  KindRow n k q = ⊥

  abbrev pub OwnRow : ℕ → Problem → Type 0
  OwnRow n (Plain k q) = KindRow n k q
  OwnRow n (InFunctionCall f s x q) = ⊥
  OwnRow n (InModule f x q) = ⊥
  OwnRow n (SystemError s e) = ⊥
  OwnRow n NoMemory = ⊥
