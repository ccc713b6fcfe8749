-- Natives that the host is asked for. One that asks for a call of a function goes on by the rules of
-- `Callbacks`.
pub use Rattle.grain_means.specs.Worlds.{Receiver}
use Rattle.std.specs.Prelude.{ℕ, List, [], ◌∷◌, Option, Some, None, Bool, false, if◌then◌else◌, ◌&&◌, map, option_map}
use Rattle.grain_value.specs.declared.values.Dynamic.{Dynamic}
use Rattle.grain_value.specs.declared.values.Held.{Held}
use Rattle.grain_value.specs.declared.scopes.Entry.{Entry}
use Rattle.grain_value.specs.declared.stores.Cell.{Cell}
use Rattle.grain_value.specs.Operands.{values_in}
use Rattle.grain_value.specs.Tree.{Tree}
use Rattle.grain_value.specs.View.{tree}
use Rattle.grain_value.specs.declared.natives.Native.{Native}
use Rattle.grain_value.specs.Writing.{kind_of}
use Rattle.grain_fault.specs.Positions.{at_position_if_none}
use Rattle.grain_fault.specs.Problems.{Problem, Plain, NonPureCall, NoMemory}
use Rattle.grain_means.specs.Worlds.{Answer, Came, Failed, Receiver, InHost, Frame, World, Act, Go, Then, Setup}
use Rattle.grain_means.specs.Rules.Homes.{back_in_scope, back_in_cells, back_in_roots, lent_in_cells}
use Rattle.grain_host.specs.Signatures.{not_found}
use Rattle.grain_host.specs.Law.{Law, Reply, native_of}
use Rattle.grain_host.specs.Law as reply
use Rattle.grain_means.specs.Rules.Faults.{no_memory, position, leave_by_fault, marked_or}

-- the kinds and the trees of what is held
abbrev pub kinds_in : List Held → List ℕ
kinds_in hs = map (λ h. kind_of h.value) hs

abbrev pub trees_in : List Held → List Tree
trees_in hs = map (λ h. tree h.value) hs

-- whether there is a first one, which can only be read
abbrev pub first_is_read_only : List Held → Bool
first_is_read_only [] = false
first_is_read_only (h ∷ hs) = h.read_only

abbrev pub lent_held : Option Receiver → Option Held
lent_held r = option_map (λ q. q.held) r

-- all arguments of a native: what is lent stands first
abbrev pub given : Option Receiver → List Held → List Held
given None args = args
given (Some r) args = r.held ∷ args

-- the scope once what was lent is back, as the native left it
abbrev pub given_back : {S : Type 0} → Law S → S → ℕ → List Tree → Option Receiver →
    List Entry → List Entry
given_back law s key values None scope = scope
given_back law s key values (Some r) scope =
    back_in_scope r.home (reply.written law s key values r.held) scope

-- and the cells
abbrev pub cells_given_back : {S : Type 0} → Law S → S → ℕ → List Tree → Option Receiver →
    List Cell → List Cell
cells_given_back law s key values None cells = cells
cells_given_back law s key values (Some r) cells =
    back_in_cells r.home (reply.written law s key values r.held) cells

-- and the roots
abbrev pub roots_given_back : {S : Type 0} → Law S → S → ℕ → List Tree → Option Receiver →
    List Held → List Held
roots_given_back law s key values None roots = roots
roots_given_back law s key values (Some r) roots =
    back_in_roots r.home (reply.written law s key values r.held) roots

-- what was lent, as the native left it
abbrev pub receiver_left : {S : Type 0} → Law S → S → ℕ → List Tree → Option Receiver →
    Option Receiver
receiver_left law s key values None = None
receiver_left law s key values (Some r) =
    Some (record r { held = reply.written law s key values r.held })

-- the cells while a native has what it was lent
abbrev pub cells_lent : Option Receiver → List Cell → List Cell
cells_lent None cells = cells
cells_lent (Some r) cells = lent_in_cells r.home r.held cells

-- the tokens that are out once the host gave this one
abbrev pub with_token : ℕ → Option (List ℕ) → Option (List ℕ)
with_token token tokens = option_map (λ ts. token ∷ ts) tokens

-- An answer of which the machine does not hear, because memory is out: if it asks for a call, the host is
-- told that it will not hear of the token.
abbrev pub unheard : {S : Type 0} → Law S → Reply → World S → World S
unheard law (reply.Done v) w = w
unheard law (reply.Failed x) w = w
unheard law (reply.Ask token p values) w = record w { host = law.forget_after w.host token }

-- a native that asked for calls is over: what follows from its value, from its fault, or from want of
-- memory
abbrev pub native_over : {S : Type 0} → (World S → Act S) → (Dynamic → World S → Act S) →
    (Problem → World S → Act S) → Answer → World S → Act S
native_over out go fails (Came v) w = go v w
native_over out go fails (Failed x) w = if no_memory x then out w else fails x w

module _ {S : Type 0} (m : Setup S) where
  -- What the host answered, and then what follows from its value, or from its fault; one without a
  -- position has the frame's. A call that it asks for goes first, and meanwhile what was lent, which is
  -- now this, is out.
  abbrev pub answered : (World S → Act S) → Option Receiver → Reply → Frame → World S →
      (Dynamic → World S → Act S) → (Problem → World S → Act S) → Act S
  answered out r (reply.Done v) f w go fails = go v w
  answered out r (reply.Failed x) f w go fails = fails (at_position_if_none (position m f) x) w
  answered out r (reply.Ask token p values) f w go fails =
      Then (Go (InHost (record {
        receiver = r;
        frame = f;
        token = token;
        pointer = p;
        values = values;
      })) (record w { cells = cells_lent r w.cells; tokens = with_token token w.tokens }))
      (native_over out go fails)

  -- The host is called, with a mark before and one after. Where memory is out at one, that follows; at the
  -- second one the answer is not heard.
  abbrev pub host_called_or : (World S → Act S) → ℕ → Option Receiver → List Held → Frame →
      World S → (Dynamic → World S → Act S) → (Problem → World S → Act S) → Act S
  host_called_or out key r args f w go fails =
      marked_or m out w (λ w1.
      marked_or m (λ w2.
      out (unheard m.law (m.law.call_reply w1.host key (lent_held r) (trees_in args)) w2)) (record w1 {
        host = m.law.call_after w1.host key (lent_held r) (trees_in args);
        scope = given_back m.law w1.host key (trees_in args) r w1.scope;
        cells = cells_given_back m.law w1.host key (trees_in args) r w1.cells;
        roots = roots_given_back m.law w1.host key (trees_in args) r w1.roots;
      }) (λ w2.
      answered out (receiver_left m.law w1.host key (trees_in args) r)
      (m.law.call_reply w1.host key (lent_held r) (trees_in args)) f w2 go fails))

  -- a native that writes its first argument is not called where that can only be read
  abbrev pub native_called_or : (World S → Act S) → Native → List ℕ → Option Receiver →
      List Held → Frame → World S → (Dynamic → World S → Act S) → (Problem → World S → Act S) →
      Act S
  native_called_or out n name r args f w go fails =
      if n.writes && first_is_read_only (given r args)
      then fails (Plain (NonPureCall name) (position m f)) w
      else host_called_or out n.key r args f w go fails

  abbrev pub native_found_or : (World S → Act S) → Option Native → List ℕ → Option Receiver →
      List Held → Frame → World S → (Dynamic → World S → Act S) → (Problem → World S → Act S) →
      Act S
  native_found_or out None name r args f w go fails =
      fails (not_found name (values_in (given r args)) (position m f)) w
  native_found_or out (Some n) name r args f w go fails =
      native_called_or out n name r args f w go fails

  -- the host's native of this name on what is lent and these arguments, and then what follows from
  -- its value, from the fault, or from want of memory
  abbrev pub native_or : (World S → Act S) → List ℕ → Option Receiver → List Held → Frame →
      World S → (Dynamic → World S → Act S) → (Problem → World S → Act S) → Act S
  native_or out name r args f w go fails =
      native_found_or out (native_of m.law w.host name (kinds_in (given r args))) name r args f w
      go fails

  -- the same where want of memory leaves the frame
  abbrev pub host_called : ℕ → Option Receiver → List Held → Frame → World S →
      (Dynamic → World S → Act S) → (Problem → World S → Act S) → Act S
  host_called key r args f w go fails =
      host_called_or (leave_by_fault m f NoMemory) key r args f w go fails

  abbrev pub native_called : Native → List ℕ → Option Receiver → List Held → Frame → World S →
      (Dynamic → World S → Act S) → (Problem → World S → Act S) → Act S
  native_called n name r args f w go fails =
      native_called_or (leave_by_fault m f NoMemory) n name r args f w go fails

  abbrev pub native_found : Option Native → List ℕ → Option Receiver → List Held → Frame →
      World S → (Dynamic → World S → Act S) → (Problem → World S → Act S) → Act S
  native_found found name r args f w go fails =
      native_found_or (leave_by_fault m f NoMemory) found name r args f w go fails

  abbrev pub native : List ℕ → Option Receiver → List Held → Frame → World S →
      (Dynamic → World S → Act S) → (Problem → World S → Act S) → Act S
  native name r args f w go fails =
      native_or (leave_by_fault m f NoMemory) name r args f w go fails
