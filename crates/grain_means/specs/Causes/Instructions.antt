-- What an instruction does and finds where it raises a fault: which instructions call, charge an
-- operation, use an entry, read, operate and throw.
pub use Rattle.grain_means.specs.Causes.Pointers.{IsMethodCall, IsLent, Points, PointsNowhere, PointsFirst, HasReceiver, receiver, args_beside, function_beside, CallsPointed, CallsUnder, MissesPointed, AsksEither, PointedReadsLent, FirstReadsLent, MethodReadsLent}
use Rattle.std.specs.Prelude.{◌≡◌, ◌⊎◌, ◌<◌, ◌≤◌, ◌+◌, ◌+ℤ◌, ℕ, ℤ, pos, List, [], ◌∷◌, Option, Some, None, Bool, true, false, length, codes}
use Rattle.grain_value.specs.declared.values.Dynamic.{Dynamic}
use Rattle.grain_value.specs.declared.values.Held.{Held}
use Rattle.grain_value.specs.Cells.{flat}
use Rattle.grain_value.specs.Looking.{truth_of, is_unit, cell_of, pointer_of, text_of}
use Rattle.grain_value.specs.Items.{items_of}
use Rattle.grain_value.specs.Operands.{top, arguments, read_write}
use Rattle.grain_value.specs.Pointers.{is_pointer_name}
use Rattle.grain_value.specs.Tree.{Tree}
use Rattle.grain_value.specs.View.{value_of}
use Rattle.grain_value.specs.Writing.{type_name_of}
use Rattle.grain_program.specs.declared.code.instruction_set.Op.{Op}
use Rattle.grain_program.specs.declared.code.instruction_set.Op.TheVariants as op
use Rattle.grain_program.specs.declared.code.functions.Function.{Function}
use Rattle.grain_program.specs.View.{View, name_of, assign_op_of, switch_of}
use Rattle.grain_program.specs.Switches.{switch_target}
use Rattle.grain_ops.specs.Calculations.{fits64}
use Rattle.grain_ops.specs.Outcomes.{Outcome, NotBuiltIn}
use Rattle.grain_means.specs.Worlds.{World, Setup, Frame, Place}
use Rattle.grain_means.specs.Places.{look}
use Rattle.grain_host.specs.Law.{GoOn}
use Rattle.grain_means.specs.Causes.Literals.{MakesOfLent, MeasuresLent}
use Rattle.grain_means.specs.Rules.{name_at, counter_text, flat_all, innermost_cursor, operand_under, is_read_only, held_at, function_found, operated, op_assigned}

-- the truth value that is read, if it is one
abbrev pub truth_read : Option Dynamic → Option Bool
truth_read None = None
truth_read (Some v) = truth_of v

-- the truth value that the last operand is, as it is read
abbrev pub truth_on_top : {S : Type 0} → Frame → World S → Option Bool
truth_on_top f w = truth_read (flat w.cells (top f.operands).value)

-- a call of this function on these arguments, without a receiver
abbrev pub CallsOn : {S : Type 0} → View → Function → List Held → Op → Frame → World S → Type 0
CallsOn program g args (op.Call n k) f w =
    (function_found program n k ≡ Some g) × (args ≡ arguments k f.operands)
CallsOn program g args (op.CallFnPtr n) f w = CallsPointed program g args n f w
CallsOn program g args (op.CallFnPtrMethod n) f w = CallsPointed program g args n f w
CallsOn program g args (op.CallFnPtrOnLocal n slot) f w = CallsPointed program g args n f w
CallsOn program g args (op.CallFnPtrOnThis n) f w = CallsPointed program g args n f w
CallsOn program g args o f w = ⊥

-- a call of this function on these arguments, with a receiver or without one
abbrev pub CallsFunction : {S : Type 0} → View → Function → List Held → Op → Frame → World S → Type 0
CallsFunction program g args o f w =
    CallsOn program g args o f w ⊎ ((n : ℕ) × CallsUnder program g args n o f w)

-- a call of a function that exists
abbrev pub Calls : {S : Type 0} → View → Op → Frame → World S → Type 0
Calls program o f w = (g : Function) × (args : List Held) × CallsFunction program g args o f w

-- the innermost loop has no item left
abbrev pub IsOver : Frame → Type 0
IsOver f = (innermost_cursor f.cursors).left ≡ []

-- the innermost loop has this item, before others, which can be counted
abbrev pub HasNext : Tree → Frame → Type 0
HasNext t f = (ts : List Tree) × ((innermost_cursor f.cursors).left ≡ t ∷ ts)
    × (fits64 ((innermost_cursor f.cursors).counter +ℤ pos 1) ≡ true)

-- the innermost loop has an item, of which the count passes 64 bits, and had this count
abbrev pub CountsPast : ℤ → Frame → Type 0
CountsPast n f = (n ≡ (innermost_cursor f.cursors).counter) × (IsOver f → ⊥)
    × (fits64 (n +ℤ pos 1) ≡ false)

-- a switch leads to a target that does not lie ahead
abbrev pub SwitchesBack : {S : Type 0} → View → ℕ → Frame → World S → Type 0
SwitchesBack program k f w = (v : Dynamic) × (flat w.cells (top f.operands).value ≡ Some v)
    × (switch_target (switch_of program k) v ≤ f.address)

-- it costs an operation: a transfer that is taken to a target that does not lie ahead, also where a loop
-- is left, a call of a function that exists, or a tick
abbrev pub Charges : {S : Type 0} → View → Op → Frame → World S → Type 0
Charges program (op.Jump t) f w = t ≤ f.address
Charges program (op.JumpIfFalse t) f w = (t ≤ f.address) × (truth_on_top f w ≡ Some false)
Charges program (op.JumpIfTrue t) f w = (t ≤ f.address) × (truth_on_top f w ≡ Some true)
Charges program (op.SkipIfNotUnit t) f w =
    (t ≤ f.address) × (is_unit (top f.operands).value ≡ false)
Charges program (op.Switch k) f w = SwitchesBack program k f w
Charges program (op.IterNext t) f w = (t ≤ f.address) × IsOver f
Charges program (op.IterNextIndexed t s) f w = (t ≤ f.address) × IsOver f
Charges program (op.Call n k) f w = Calls program (op.Call n k) f w
Charges program (op.CallFnPtr n) f w = Calls program (op.CallFnPtr n) f w
Charges program (op.CallFnPtrMethod n) f w = Calls program (op.CallFnPtrMethod n) f w
Charges program (op.CallFnPtrOnLocal n slot) f w = Calls program (op.CallFnPtrOnLocal n slot) f w
Charges program (op.CallFnPtrOnThis n) f w = Calls program (op.CallFnPtrOnThis n) f w
Charges program op.Tick f w = Unit {0}
Charges program o f w = ⊥

-- an operation is taken: one is left, and the host, which hears of it, lets the run go on
abbrev pub IsCharged : {S : Type 0} → Setup S → World S → Type 0
IsCharged m w = (w.count < m.engine.limits.operations)
    × (m.law.progress_reply w.host (w.count + 1) ≡ GoOn)

-- this function is called, its operation is taken, a level is left for it, and its parameters pass
-- the limit of variables
abbrev pub HasTooMany : {S : Type 0} → Setup S → Op → Frame → World S → Type 0
HasTooMany m o f w = (g : Function) × (args : List Held) × CallsFunction m.program g args o f w
    × IsCharged m w × (w.level < m.engine.limits.levels)
    × (m.engine.limits.variables < length g.params)

-- the last operand can be read: it is no cell whose content is lent, or that is not there
abbrev pub ReadsTop : {S : Type 0} → Frame → World S → Type 0
ReadsTop f w = (v : Dynamic) × (flat w.cells (top f.operands).value ≡ Some v)

-- a declaration of an operand that can be read finds the scope full, or a function that is called has
-- too many parameters
abbrev pub Overfills : {S : Type 0} → Setup S → Op → Frame → World S → Type 0
Overfills m (op.DeclareLocal n) f w =
    ReadsTop f w × (m.engine.limits.variables ≤ length w.scope)
Overfills m (op.DeclareConst n) f w =
    ReadsTop f w × (m.engine.limits.variables ≤ length w.scope)
Overfills m (op.Call n k) f w = HasTooMany m (op.Call n k) f w
Overfills m (op.CallFnPtr n) f w = HasTooMany m (op.CallFnPtr n) f w
Overfills m (op.CallFnPtrMethod n) f w = HasTooMany m (op.CallFnPtrMethod n) f w
Overfills m (op.CallFnPtrOnLocal n slot) f w = HasTooMany m (op.CallFnPtrOnLocal n slot) f w
Overfills m (op.CallFnPtrOnThis n) f w = HasTooMany m (op.CallFnPtrOnThis n) f w
Overfills m o f w = ⊥

-- it reads or writes the entry at this index, by its slot; a loop writes it once an item is counted, and a
-- call with a receiver once the call is over
abbrev pub UsesEntry : {S : Type 0} → ℕ → Op → Frame → World S → Type 0
UsesEntry i (op.LoadLocal s) f w = i ≡ f.base + s
UsesEntry i (op.StoreLocal s) f w = i ≡ f.base + s
UsesEntry i (op.StoreConst s) f w = i ≡ f.base + s
UsesEntry i (op.StoreShared s) f w = i ≡ f.base + s
UsesEntry i (op.LoadShared s) f w = i ≡ f.base + s
UsesEntry i (op.Share s) f w = i ≡ f.base + s
UsesEntry i (op.AssignLocal s n) f w = i ≡ f.base + s
UsesEntry i (op.AssignLocalOp s n a) f w = i ≡ f.base + s
UsesEntry i (op.IterNextIndexed t s) f w = (i ≡ f.base + s) × ((u : Tree) × HasNext u f)
UsesEntry i (op.CallFnPtrOnLocal n s) f w = (i ≡ f.base + s) × HasReceiver n f w
UsesEntry i o f w = ⊥

-- the frame's `this` is at a place at which this is held
abbrev pub HoldsThis : {S : Type 0} → Frame → World S → Held → Type 0
HoldsThis f w h = (p : Place) × (f.this ≡ Some p) × (h ≡ look w.roots p)

-- it asks for `this`: before it assigns to it, an operand that can be read
abbrev pub AsksThis : {S : Type 0} → Op → Frame → World S → Type 0
AsksThis op.LoadThis f w = Unit {0}
AsksThis op.LoadThisShared f w = Unit {0}
AsksThis op.RequireThis f w = Unit {0}
AsksThis op.AssignThis f w = ReadsTop f w
AsksThis (op.AssignThisOp a) f w = ReadsTop f w
AsksThis o f w = ⊥

-- it cuts the scope to n entries
abbrev pub Unwinds : ℕ → Op → Frame → Type 0
Unwinds t (op.UnwindTo d) f = t ≡ f.base + d
Unwinds t o f = ⊥

-- it asks for a truth value
abbrev pub Tests : Op → Type 0
Tests (op.JumpIfFalse t) = Unit {0}
Tests (op.JumpIfTrue t) = Unit {0}
Tests o = ⊥

-- it asks for a pointer, under the last n operands
abbrev pub AsksPointer : {S : Type 0} → ℕ → Op → Frame → World S → Type 0
AsksPointer n (op.Curry k) f w = n ≡ k
AsksPointer n (op.CallFnPtr k) f w = n ≡ k
AsksPointer n (op.CallFnPtrMethod k) f w = AsksEither n k f w
AsksPointer n (op.CallFnPtrOnLocal k slot) f w = AsksEither n k f w
AsksPointer n (op.CallFnPtrOnThis k) f w = AsksEither n k f w
AsksPointer n o f w = ⊥

-- it asks for the name of a function
abbrev pub AsksName : Op → Type 0
AsksName op.MakeFnPtr = Unit {0}
AsksName o = ⊥

-- it asks for the name of a function, and reads this text, which can be none
abbrev pub NamesNone : {S : Type 0} → List ℕ → Op → Frame → World S → Type 0
NamesNone s o f w = (v : Dynamic) × (flat w.cells (top f.operands).value ≡ Some v)
    × (text_of v ≡ Some s) × (is_pointer_name s ≡ false) × AsksName o

-- it throws the last operand
abbrev pub Throws : Op → Type 0
Throws op.Throw = Unit {0}
Throws o = ⊥

-- the entry at this index holds this, which can only be read if the flag says so
abbrev pub Holds : {S : Type 0} → World S → ℕ → Bool → Held → Type 0
Holds w i read_only h = (held_at w.scope i ≡ Some h) × (is_read_only w h ≡ read_only)

-- it assigns an operand that can be read to an entry, or to `this`, which can only be read, and tells
-- this name, of which `this` has none
abbrev pub AssignsConstant : {S : Type 0} → View → List ℕ → Op → Frame → World S → Type 0
AssignsConstant program s (op.AssignLocal slot n) f w =
    (s ≡ name_of program n) × ReadsTop f w × ((h : Held) × Holds w (f.base + slot) true h)
AssignsConstant program s (op.AssignLocalOp slot n a) f w =
    (s ≡ name_of program n) × ReadsTop f w × ((h : Held) × Holds w (f.base + slot) true h)
AssignsConstant program s op.AssignThis f w =
    (s ≡ []) × ReadsTop f w × ((h : Held) × HoldsThis f w h × (is_read_only w h ≡ true))
AssignsConstant program s (op.AssignThisOp a) f w =
    (s ≡ []) × ReadsTop f w × ((h : Held) × HoldsThis f w h × (is_read_only w h ≡ true))
AssignsConstant program s o f w = ⊥

-- a call without a receiver looks for a function of this name with these arguments, and there is none
abbrev pub Misses : {S : Type 0} → View → List ℕ → List Held → Op → Frame → World S → Type 0
Misses program name args (op.Call n k) f w = (name ≡ name_of program n) ×
    (flat_all w.cells (arguments k f.operands) ≡ Some args) × (function_found program n k ≡ None)
Misses program name args (op.CallFnPtr n) f w = MissesPointed program name args n f w
Misses program name args (op.CallFnPtrMethod n) f w = MissesPointed program name args n f w
Misses program name args (op.CallFnPtrOnLocal n slot) f w = MissesPointed program name args n f w
Misses program name args (op.CallFnPtrOnThis n) f w = MissesPointed program name args n f w
Misses program name args o f w = ⊥

-- an operator or an op-assignment of this name asks the built-in of these operands, which says this
abbrev pub Operates : {S : Type 0} → Setup S → Outcome → List ℕ → List Held → Op → Frame →
    World S → Type 0
Operates m said name args (op.CallOp n k t) f w = (name ≡ name_of m.program n) ×
    (flat_all w.cells (arguments k f.operands) ≡ Some args) ×
    (operated m.program m.engine t args ≡ said)
Operates m said name args (op.AssignLocalOp slot n a) f w =
    (name ≡ name_of m.program (assign_op_of m.program a).op_name) ×
    ((h : Held) × (u : Dynamic) × (v : Dynamic) × Holds w (f.base + slot) false h ×
    (flat w.cells h.value ≡ Some u) × (flat w.cells (top f.operands).value ≡ Some v) ×
    (args ≡ record h { value = u } ∷ record (top f.operands) { value = v } ∷ []) ×
    (op_assigned m.engine (assign_op_of m.program a) u v ≡ said))
Operates m said name args (op.AssignThisOp a) f w =
    (name ≡ name_of m.program (assign_op_of m.program a).op_name) ×
    ((h : Held) × (u : Dynamic) × (v : Dynamic) × HoldsThis f w h × (is_read_only w h ≡ false) ×
    (flat w.cells h.value ≡ Some u) × (flat w.cells (top f.operands).value ≡ Some v) ×
    (args ≡ record h { value = u } ∷ record (top f.operands) { value = v } ∷ []) ×
    (op_assigned m.engine (assign_op_of m.program a) u v ≡ said))
Operates m said name args o f w = ⊥

-- an operator asks the built-in of these operands, which says that it is none
abbrev pub HasNoBuiltIn : {S : Type 0} → Setup S → List ℕ → List Held → Op → Frame → World S →
    Type 0
HasNoBuiltIn m name args (op.CallOp n k t) f w = (name ≡ name_of m.program n) ×
    (flat_all w.cells (arguments k f.operands) ≡ Some args) ×
    (operated m.program m.engine t args ≡ NotBuiltIn)
HasNoBuiltIn m name args o f w = ⊥

-- it asks for a value of the type of the first name, and reads one of the type of the second
abbrev pub Mistypes : {S : Type 0} → List ℕ → List ℕ → Op → Frame → World S → Type 0
Mistypes r a o f w =
    ((v : Dynamic) × (flat w.cells (top f.operands).value ≡ Some v) × (r ≡ codes "bool") ×
    (a ≡ type_name_of v) × (truth_of v ≡ None) × Tests o)
    ⊎ (((n : ℕ) × (v : Dynamic) × (flat w.cells (operand_under n f.operands).value ≡ Some v) ×
    (r ≡ codes "Fn") × (a ≡ type_name_of v) × (pointer_of v ≡ None) × AsksPointer n o f w)
    ⊎ ((v : Dynamic) × (flat w.cells (top f.operands).value ≡ Some v) × (r ≡ codes "string") ×
    (a ≡ type_name_of v) × (text_of v ≡ None) × AsksName o))

-- of an assignment to an entry that is there: the value that it assigns is a lent cell, or the entry,
-- which can be written, is one
abbrev pub AssignsLent : {S : Type 0} → ℕ → Frame → World S → Type 0
AssignsLent i f w = (h : Held) × (held_at w.scope i ≡ Some h) ×
    (IsLent w (top f.operands) ⊎ ((is_read_only w h ≡ false) × IsLent w h))

-- of a store into an entry that is a cell: the value that it stores, or the entry, is a lent one; into
-- any other entry the value goes as it is
abbrev pub StoresLent : {S : Type 0} → ℕ → Frame → World S → Type 0
StoresLent i f w = (h : Held) × (n : ℕ) × (held_at w.scope i ≡ Some h) ×
    (cell_of h.value ≡ Some n) × (IsLent w (top f.operands) ⊎ IsLent w h)

-- of an assignment to `this`: the value that it assigns is a lent cell, or `this`, which can be written,
-- is one
abbrev pub AssignsLentThis : {S : Type 0} → Frame → World S → Type 0
AssignsLentThis f w = IsLent w (top f.operands)
    ⊎ ((h : Held) × HoldsThis f w h × (is_read_only w h ≡ false) × IsLent w h)

-- the item that the innermost loop gives next is a lent cell
abbrev pub GivesLent : {S : Type 0} → Frame → World S → Type 0
GivesLent f w = (t : Tree) × HasNext t f × IsLent w (read_write (value_of t))

-- it asks for something to go over, and reads a value that has no items
abbrev pub GoesOverNone : {S : Type 0} → Op → Frame → World S → Type 0
GoesOverNone op.IterInit f w = (v : Dynamic) × (flat w.cells (top f.operands).value ≡ Some v)
    × (items_of v ≡ None)
GoesOverNone o f w = ⊥

-- it counts an item past 64 bits, and says so
abbrev pub CountsTooFar : List ℕ → Op → Frame → Type 0
CountsTooFar s (op.IterNext t) f = (n : ℤ) × CountsPast n f × (s ≡ counter_text n)
CountsTooFar s (op.IterNextIndexed t slot) f = (n : ℤ) × CountsPast n f × (s ≡ counter_text n)
CountsTooFar s o f = ⊥

-- it reads or writes a cell whose content is lent, at the variable of this name
abbrev pub ReadsLent : {S : Type 0} → Setup S → List ℕ → Op → Frame → World S → Type 0
ReadsLent m name (op.LoadLocal s) f w = (name ≡ name_at w.scope (f.base + s)) ×
    ((h : Held) × (held_at w.scope (f.base + s) ≡ Some h) × IsLent w h)
ReadsLent m name (op.StoreLocal s) f w = (name ≡ []) × StoresLent (f.base + s) f w
ReadsLent m name (op.StoreConst s) f w = (name ≡ []) × StoresLent (f.base + s) f w
ReadsLent m name (op.StoreShared s) f w = (name ≡ []) × StoresLent (f.base + s) f w
ReadsLent m name (op.DeclareLocal n) f w = (name ≡ []) × IsLent w (top f.operands)
ReadsLent m name (op.DeclareConst n) f w = (name ≡ []) × IsLent w (top f.operands)
ReadsLent m name (op.AssignLocal s n) f w =
    (name ≡ name_of m.program n) × AssignsLent (f.base + s) f w
ReadsLent m name (op.AssignLocalOp s n a) f w =
    (name ≡ name_of m.program n) × AssignsLent (f.base + s) f w
ReadsLent m name op.LoadThis f w =
    (name ≡ []) × ((h : Held) × HoldsThis f w h × IsLent w h)
ReadsLent m name op.AssignThis f w = (name ≡ []) × AssignsLentThis f w
ReadsLent m name (op.AssignThisOp a) f w = (name ≡ []) × AssignsLentThis f w
ReadsLent m name (op.JumpIfFalse t) f w = (name ≡ []) × IsLent w (top f.operands)
ReadsLent m name (op.JumpIfTrue t) f w = (name ≡ []) × IsLent w (top f.operands)
ReadsLent m name (op.Switch k) f w = (name ≡ []) × IsLent w (top f.operands)
ReadsLent m name op.IterInit f w = (name ≡ []) × IsLent w (top f.operands)
ReadsLent m name (op.IterNext t) f w = (name ≡ []) × GivesLent f w
ReadsLent m name (op.IterNextIndexed t s) f w = (name ≡ []) ×
    ((h : Held) × (held_at w.scope (f.base + s) ≡ Some h) × ((u : Tree) × HasNext u f) ×
    (IsLent w h ⊎ GivesLent f w))
ReadsLent m name (op.Call n k) f w = (name ≡ []) × (function_found m.program n k ≡ None) ×
    (flat_all w.cells (arguments k f.operands) ≡ None)
ReadsLent m name (op.CallOp n k t) f w =
    (name ≡ []) × (flat_all w.cells (arguments k f.operands) ≡ None)
ReadsLent m name op.MakeFnPtr f w = (name ≡ []) × IsLent w (top f.operands)
ReadsLent m name (op.MakeArray n) f w =
    (name ≡ []) × (flat_all w.cells (arguments n f.operands) ≡ None)
ReadsLent m name (op.MakeMap n) f w = (name ≡ []) × MakesOfLent n f w
ReadsLent m name (op.CheckArraySize i) f w = (name ≡ []) × MeasuresLent m (op.CheckArraySize i) f w
ReadsLent m name (op.CheckMapSize i) f w = (name ≡ []) × MeasuresLent m (op.CheckMapSize i) f w
ReadsLent m name op.InterpolateAppend f w =
    (name ≡ []) × (IsLent w (top f.operands) ⊎ IsLent w (operand_under 1 f.operands))
ReadsLent m name op.InterpolateEnd f w = (name ≡ []) × IsLent w (top f.operands)
ReadsLent m name (op.Curry n) f w = (name ≡ []) × IsLent w (operand_under n f.operands)
ReadsLent m name (op.CallFnPtr n) f w = (name ≡ []) × PointedReadsLent m.program n f w
ReadsLent m name (op.CallFnPtrMethod n) f w = (name ≡ []) × MethodReadsLent m.program n f w
ReadsLent m name (op.CallFnPtrOnLocal n slot) f w = (name ≡ []) × MethodReadsLent m.program n f w
ReadsLent m name (op.CallFnPtrOnThis n) f w = (name ≡ []) × MethodReadsLent m.program n f w
ReadsLent m name op.Throw f w = (name ≡ []) × IsLent w (top f.operands)
ReadsLent m name o f w = ⊥
