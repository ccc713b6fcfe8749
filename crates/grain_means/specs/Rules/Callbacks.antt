-- Calls that natives ask for. A function of the program is called back, or a native. Then the host hears what
-- came of it, and answers the native's call at last, or asks again; or it forgets the token, where it does
-- not hear of the fault.
use Rattle.std.specs.Prelude.{ℕ, ◌+◌, List, [], ◌∷◌, ◌++◌, Option, Some, None, Bool, not, ◌&&◌, if◌then◌else◌, nat_eq, nat_le, length, map}
use Rattle.grain_value.specs.Cells.{flat}
use Rattle.grain_value.specs.Operands.{read_write}
use Rattle.grain_value.specs.View.{value_of}
use Rattle.grain_value.specs.declared.scopes.Entry.{Entry}
use Rattle.grain_value.specs.declared.stores.Cell.{Cell}
use Rattle.grain_value.specs.declared.values.Dynamic.{Dynamic}
use Rattle.grain_value.specs.declared.values.Held.{Held}
use Rattle.grain_fault.specs.Classes.{catchable}
use Rattle.grain_fault.specs.Positions.{at_position_if_none}
use Rattle.grain_fault.specs.Problems.{Problem, Plain, DataRace, StackOverflow, NoMemory}
use Rattle.grain_fault.specs.declared.traces.Fault.{Fault as TraceEntry}
use Rattle.grain_host.specs.Faults.{handed_back}
use Rattle.grain_host.specs.Law.{Law, Reply, Outcome, Value, Fault}
use Rattle.grain_host.specs.Law as reply
use Rattle.grain_program.specs.View.{View}
use Rattle.grain_program.specs.declared.code.functions.Function.{Function}
use Rattle.grain_means.specs.Worlds.{Answer, Came, Failed, Receiver, Callback, InHost, World, Act, Go, End, Setup}
use Rattle.grain_means.specs.Rules.Homes.{back_in_scope, back_in_cells, back_in_roots}
use Rattle.grain_means.specs.Rules.Faults.{race_text, position, marked_or, operation_taken}
use Rattle.grain_means.specs.Rules.Reads.{flat_all}
use Rattle.grain_means.specs.Rules.Natives.{lent_held, with_token, unheard, native_or}
use Rattle.grain_means.specs.Rules.Calls.{function_by_name}
use Rattle.grain_means.specs.Rules.Pointers.{curried_in}
use Rattle.grain_means.specs.Rules.InWorld.{failed_so, function_under}

-- Whether the host hears of a fault of a call that it asked for: of one that a script may catch, unless
-- only the machine itself may raise it.
abbrev pub is_told : Problem → Bool
is_told x = catchable x && not (handed_back x)

abbrev taken_first : ℕ → List ℕ → Option (List ℕ)
taken_first token [] = None
taken_first token (t ∷ ts) = if nat_eq t token then Some ts else None

abbrev taken_from : ℕ → Option (List ℕ) → Option (List ℕ)
taken_from token None = None
taken_from token (Some ts) = taken_first token ts

-- the tokens that are out once this one was taken back
abbrev pub without_token : ℕ → Option (List ℕ) → Option (List ℕ)
without_token token tokens = taken_from token tokens

-- what was lent, as the host left it where it heard of an outcome
abbrev pub receiver_rewritten : {S : Type 0} → Law S → S → ℕ → Outcome → Option Receiver →
    Option Receiver
receiver_rewritten law s token o None = None
receiver_rewritten law s token o (Some r) =
    Some (record r { held = reply.rewritten law s token o r.held })

-- the scope with this where it was lent from
abbrev pub scope_with : Option Receiver → List Entry → List Entry
scope_with None scope = scope
scope_with (Some r) scope = back_in_scope r.home r.held scope

-- and the cells, of which one is lent no more
abbrev pub cells_with : Option Receiver → List Cell → List Cell
cells_with None cells = cells
cells_with (Some r) cells = back_in_cells r.home r.held cells

-- and the roots
abbrev pub roots_with : Option Receiver → List Held → List Held
roots_with None roots = roots
roots_with (Some r) roots = back_in_roots r.home r.held roots

-- the trace that a call left, where the host then answers so: a fault keeps it, and with a value, or where
-- the host asks again, there is none
abbrev pub trace_kept : Reply → List TraceEntry → List TraceEntry
trace_kept (reply.Done v) trace = []
trace_kept (reply.Failed x) trace = trace
trace_kept (reply.Ask token p values) trace = []

-- what a call that was asked for is given: the pointer's own values, and then the host's
abbrev pub arguments_back : Callback → List Held
arguments_back c = curried_in c.pointer ++ map (λ t. read_write (value_of t)) c.values

-- the function that is called back, if the program has one and natives may call it
abbrev pub function_back : View → Bool → Callback → Option Function
function_back p callbacks c =
    if callbacks
    then function_by_name p c.pointer.name (length c.pointer.curry + length c.values)
    else None

module _ {S : Type 0} (m : Setup S) where
  -- the native is over, and what it was lent goes back
  abbrev pub ended_so : Callback → Answer → World S → Act S
  ended_so c a w = End a (record w { cells = cells_with c.receiver w.cells })

  -- the native is over, and the host hears nothing more of what it asked for
  abbrev pub given_up : Callback → Answer → World S → Act S
  given_up c a w = ended_so c a (record w {
    host = m.law.forget_after w.host c.token;
    tokens = without_token c.token w.tokens;
  })

  -- the host answered where it heard what came of the call: the native is over, or another call is asked for
  abbrev pub went_on : Callback → Reply → World S → Act S
  went_on c (reply.Done v) w = ended_so c (Came v) w
  went_on c (reply.Failed x) w =
      ended_so c (Failed (at_position_if_none (position m c.frame) x)) w
  went_on c (reply.Ask token p values) w =
      Go (InHost (record c { token = token; pointer = p; values = values }))
      (record w { tokens = with_token token w.tokens })

  -- The host answered where it heard what came of the call, and left the receiver so. After a mark it is
  -- heard; if memory is out there, it is not. What the answer leaves of the trace is settled before the
  -- mark.
  abbrev pub answered_again : Callback → Reply → World S → Act S
  answered_again c r w =
      marked_or m (λ w1. ended_so c (Failed NoMemory) (unheard m.law r w1))
      (record w { trace = trace_kept r w.trace }) (went_on c r)

  -- the host hears what came of the call, after a mark, and writes what it was lent
  abbrev pub told : Callback → Outcome → World S → Act S
  told c o w =
      marked_or m (given_up c (Failed NoMemory)) w (λ w1.
      let r = receiver_rewritten m.law w1.host c.token o c.receiver in
      answered_again (record c { receiver = r })
      (m.law.resume_reply w1.host c.token o (lent_held c.receiver)) (record w1 {
        host = m.law.resume_after w1.host c.token o (lent_held c.receiver);
        scope = scope_with r w1.scope;
        roots = roots_with r w1.roots;
        tokens = without_token c.token w1.tokens;
      }))

  -- the host hears of a value as it is read, or of the fault that it is a cell that is lent
  abbrev pub value_told : Callback → Option Dynamic → World S → Act S
  value_told c None w =
      marked_or m (given_up c (Failed NoMemory)) w
      (told c (Fault (Plain (DataRace (race_text [])) (position m c.frame))))
  value_told c (Some v) w = told c (Value v) w

  -- the call that was asked for is over: the host hears of it, or the fault goes on past the native
  abbrev pub called_back_over : Callback → Answer → World S → Act S
  called_back_over c (Came v) w = value_told c (flat w.cells v) w
  called_back_over c (Failed x) w =
      if is_told x then told c (Fault x) w else given_up c (Failed x) w

  -- a native that was called back is over, and the level is again this
  abbrev pub native_back_over : (Answer → World S → Act S) → ℕ → Answer → World S → Act S
  native_back_over heard level a w = heard a (record w { level = level })

  -- the native of the pointer's name is called on its arguments as they are read, if none of them is a
  -- lent cell
  abbrev pub native_back : (Answer → World S → Act S) → Callback → Option (List Held) → World S → Act S
  native_back heard c None w =
      failed_so m heard (Plain (DataRace (race_text [])) (position m c.frame)) w
  native_back heard c (Some args) w =
      native_or m (heard (Failed NoMemory)) c.pointer.name None args c.frame w
      (λ v w1. heard (Came v) w1) (failed_so m heard)

  -- a native that is called back costs an operation, as a function does, and runs one level up
  abbrev pub native_called_back : (Answer → World S → Act S) → Callback → World S → Act S
  native_called_back heard c w =
      operation_taken m (heard (Failed NoMemory)) (position m c.frame) (λ x. heard (Failed x)) w
      (λ w1.
      if nat_le m.engine.limits.levels w1.level
      then failed_so m heard (Plain StackOverflow (position m c.frame)) w1
      else native_back (native_back_over heard w1.level) c (flat_all w1.cells (arguments_back c))
      (record w1 { level = w1.level + 1 }))

  -- a function that is called back runs as any that is called, and without a `this`
  abbrev pub callee_called_back : (Answer → World S → Act S) → Callback → Option Function → World S →
      Act S
  callee_called_back heard c None w = native_called_back heard c w
  callee_called_back heard c (Some g) w =
      function_under m (position m c.frame) g (arguments_back c) heard None w

  -- the call that was asked for, and then what follows from its answer
  abbrev pub called_back : (Answer → World S → Act S) → Callback → World S → Act S
  called_back heard c w =
      callee_called_back heard c (function_back m.program m.engine.callbacks c) w

  -- what a native asked for is done, and the host hears what came of it, or forgets the token
  abbrev pub calling_back : Callback → World S → Act S
  calling_back c w = called_back (called_back_over c) c w
