-- The host in memory: what its calls answer, print and write, by its tables.
use Rattle.std.specs.Prelude.{ℕ, ℤ, ◌+◌, ◌-◌, ◌^◌, max, pos, Bool, false, ◌&&◌, ◌||◌, is_some, List, [], ◌∷◌, ◌++◌, Option, Some, None, codes, bytes_eq, ◌==◌, length, map, option_map, if◌then◌else◌}
use Rattle.std.specs.Str.{chars}
use Rattle.std.specs.List.{list_any}
use Rattle.grain_value.specs.Tree.{Tree}
use Rattle.grain_value.specs.View.{tree, value_of}
use Rattle.grain_value.specs.Writing.{plain}
use Rattle.grain_value.specs.declared.values.Dynamic.{Dynamic}
use Rattle.grain_value.specs.declared.values.Dynamic.TheVariants as dynamic
use Rattle.grain_value.specs.declared.values.Held.{Held}
use Rattle.grain_fault.specs.Places.{nowhere}
use Rattle.grain_fault.specs.Problems.{Plain, Exit}
use Rattle.grain_host.specs.Law.{Law, Reply, Done, Failed, Outcome, Verdict, GoOn, Stop}
use Rattle.grain_host.specs.Refusals.{failure, refused, unknown}
use Rattle.grain_host.specs.Pending.{place_of, waiting_bound, waiting_clean}
use Rattle.grain_host.specs.Mapping.{call_at, first_asked, goes_on, gone, mapped, next_asked, outcome_reply, start_reply, started}
use Rattle.grain_host.specs.declared.callbacks.Tokens.{Tokens}
use Rattle.grain_host.specs.declared.pending_calls.PendingCall.{PendingCall}
use Rattle.grain_host.specs.Registers.{cleared, access_reply, asked, left_by, register_key_of}
use Rattle.grain_host.specs.Stops.{stop_at, stops_bound, stops_clean}
use Rattle.grain_host.specs.declared.register_natives.Access.{Access}
use Rattle.grain_host.specs.declared.tables.TableHost.{TableHost}
use Rattle.grain_host.specs.declared.tables.Turn.{Turn}
use Rattle.grain_host.specs.declared.tables.Turn.TheVariants as turns

-- a host with empty tables and registers of 0, that has printed nothing
abbrev pub blank : TableHost
blank = record {
  printed = [];
  steps = 0;
  failing = [];
  stops = [];
  registers = cleared;
  tokens = record { given = 0; pending = [] };
}

-- a further call that is to fail, by its number
abbrev pub failing_at : ℕ → TableHost → TableHost
failing_at n s = record s { failing = s.failing ++ n ∷ [] }

-- a further number of operations at which a run is to end, with its token
abbrev pub stopping_at : ℕ → Dynamic → TableHost → TableHost
stopping_at n v s = record s { stops = s.stops ++ record { count = n; value = v } ∷ [] }

-- the arguments in order: the receiver, if there is one, and then the values
abbrev pub arguments : Option Held → List Tree → List Dynamic
arguments None values = map value_of values
arguments (Some h) values = h.value ∷ map value_of values

-- the argument, if there is exactly one
abbrev pub sole : List Dynamic → Option Dynamic
sole [] = None
sole (v ∷ []) = Some v
sole (v ∷ u ∷ vs) = None

-- the first argument, if there are exactly two
abbrev pub first_of_two : List Dynamic → Option Dynamic
first_of_two [] = None
first_of_two (v ∷ []) = None
first_of_two (v ∷ u ∷ []) = Some v
first_of_two (v ∷ u ∷ w ∷ vs) = None

-- `print` of one value
abbrev pub print_reply : Option Dynamic → Reply
print_reply None = unknown
print_reply (Some v) = Done dynamic.Unit

-- the line that `print` appends: the value's plain text and LF
abbrev pub line_of : Option Dynamic → List ℕ
line_of None = []
line_of (Some v) = plain v ++ codes "\n"

-- `push` onto the first of two values, which is an array
abbrev pub push_reply : Option Dynamic → Reply
push_reply (Some (dynamic.Array ts)) = Done dynamic.Unit
push_reply v = unknown

-- an array with one more value at its end; everything else as it is
abbrev pub pushed : Dynamic → Option Dynamic → Dynamic
pushed (dynamic.Array ts) (Some v) = dynamic.Array (ts ++ tree v ∷ [])
pushed d v = d

-- what `push` leaves of a receiver
abbrev pub pushed_onto : List Tree → Held → Held
pushed_onto values h = record h { value = pushed h.value (sole (map value_of values)) }

abbrev pub pushed_receiver : Option Held → List Tree → Option Held
pushed_receiver receiver values = option_map (pushed_onto values) receiver

-- how many characters, values, bytes or keys there are
abbrev pub entries_in : Dynamic → Option ℕ
entries_in (dynamic.Text s) = Some (length (chars s))
entries_in (dynamic.Array ts) = Some (length ts)
entries_in (dynamic.Blob s) = Some (length s)
entries_in (dynamic.Map es) = Some (length es)
entries_in v = None

abbrev pub counted : Option ℕ → Reply
counted None = unknown
counted (Some n) = Done (dynamic.Int (pos n))

-- `len` of one value that has entries
abbrev pub len_reply : Option Dynamic → Reply
len_reply None = unknown
len_reply (Some v) = counted (entries_in v)

-- `exit` with one value
abbrev pub exit_reply : Option Dynamic → Reply
exit_reply None = unknown
exit_reply (Some v) = Failed (Plain (Exit v) nowhere)

-- what the registers answer, if anything may be asked of them
abbrev pub register_reply : List ℤ → Option Access → Reply
register_reply rs None = unknown
register_reply rs (Some a) = access_reply rs a

-- the natives by their keys: 1 `print`, 2 `push`, 3 `len`, 5 `exit`, and those of the registers
abbrev pub native_reply : List ℤ → ℕ → List Dynamic → Reply
native_reply rs key vs =
    if key == 1 then print_reply (sole vs)
    else (if key == 2 then push_reply (first_of_two vs)
    else (if key == 3 then len_reply (sole vs)
    else (if key == 5 then exit_reply (sole vs)
    else register_reply rs (asked key vs))))

-- what the native of a key prints
abbrev pub printed_by : ℕ → List Dynamic → List ℕ
printed_by key vs = if key == 1 then line_of (sole vs) else []

-- what the native of a key leaves of the registers
abbrev pub registers_after : ℕ → List Dynamic → List ℤ → List ℤ
registers_after key vs rs = left_by rs (asked key vs)

-- `push` alone writes its first argument
abbrev pub writing : ℕ → Bool
writing key = key == 2

-- what the native of a key leaves of a receiver
abbrev pub received : ℕ → Option Held → List Tree → Option Held
received key receiver values = if writing key then pushed_receiver receiver values else receiver

-- the natives by their names and kinds: `print` and `exit` take one argument of any kind, `push` an
-- array and one of any kind, `map` an array and a pointer, `len` a text, an array, a blob or a map; and
-- those of the registers
abbrev pub for_one : ℕ → List ℕ → Option ℕ
for_one key (k ∷ []) = Some key
for_one key ks = None

abbrev pub for_array : ℕ → List ℕ → Option ℕ
for_array key (k ∷ l ∷ []) = if k == 5 then Some key else None
for_array key ks = None

abbrev pub for_map : ℕ → List ℕ → Option ℕ
for_map key (k ∷ l ∷ []) = if (k == 5) && (l == 8) then Some key else None
for_map key ks = None

abbrev pub has_entries : ℕ → Bool
has_entries k = (k == 4) || (k == 5) || (k == 6) || (k == 7)

abbrev pub for_entries : ℕ → List ℕ → Option ℕ
for_entries key (k ∷ []) = if has_entries k then Some key else None
for_entries key ks = None

abbrev pub key_of : List ℕ → List ℕ → Option ℕ
key_of name kinds =
    if bytes_eq name (codes "print") then for_one 1 kinds
    else (if bytes_eq name (codes "push") then for_array 2 kinds
    else (if bytes_eq name (codes "len") then for_entries 3 kinds
    else (if bytes_eq name (codes "map") then for_map 4 kinds
    else (if bytes_eq name (codes "exit") then for_one 5 kinds
    else register_key_of name kinds))))

-- what comes of a step: the host can count no further step, or no further token if the step asks; or
-- the step of this number is one that is to fail; or it is done. Steps are counted from 1, and each
-- call is one, and each time that the host is resumed
abbrev pub turn : Bool → TableHost → Turn
turn asks s =
    if (s.steps == 2 ^ 64 - 1) || (asks && (s.tokens.given == 2 ^ 64 - 1)) then turns.Full
    else (if list_any (λ n. n == s.steps + 1) s.failing then turns.Failing (s.steps + 1)
    else turns.Ready (s.steps + 1))

-- so it is if the step is done
abbrev pub IfReady : Turn → Type 0 → Type 0
IfReady turns.Full P = Unit
IfReady (turns.Failing n) P = Unit
IfReady (turns.Ready n) P = P

abbrev pub reply_at : Turn → List ℤ → ℕ → List Dynamic → Reply
reply_at turns.Full rs key vs = refused (codes "table host is full")
reply_at (turns.Failing n) rs key vs = failure n
reply_at (turns.Ready n) rs key vs = native_reply rs key vs

abbrev pub after_at : Turn → TableHost → ℕ → List Dynamic → TableHost
after_at turns.Full s key vs = s
after_at (turns.Failing n) s key vs = record s { steps = n }
after_at (turns.Ready n) s key vs =
    record s {
      steps = n;
      printed = s.printed ++ printed_by key vs;
      registers = registers_after key vs s.registers;
    }

abbrev pub written_at : Turn → Held → List Tree → Dynamic
written_at turns.Full h values = h.value
written_at (turns.Failing n) h values = h.value
written_at (turns.Ready n) h values = pushed h.value (sole (map value_of values))

-- the same for a step that is about tokens: what is answered where it is done, and what is then kept
abbrev pub reply_in : Turn → Reply → Reply
reply_in turns.Full r = refused (codes "table host is full")
reply_in (turns.Failing n) r = failure n
reply_in (turns.Ready n) r = r

abbrev pub after_in : Turn → Tokens → TableHost → TableHost
after_in turns.Full tokens s = s
after_in (turns.Failing n) tokens s = record s { steps = n }
after_in (turns.Ready n) tokens s = record s { steps = n; tokens = tokens }

-- a call of `map`, if it is one
abbrev pub map_reply : TableHost → Option PendingCall → Reply
map_reply s call = reply_in (turn (is_some (first_asked call)) s) (start_reply call)

abbrev pub map_after : TableHost → Option PendingCall → TableHost
map_after s call = after_in (turn (is_some (first_asked call)) s) (started call s.tokens) s

-- a call of a key: 4 is that of `map`
abbrev pub call_reply : TableHost → ℕ → List Dynamic → Reply
call_reply s key vs =
    if key == 4 then map_reply s (mapped s.tokens.given vs)
    else reply_at (turn false s) s.registers key vs

abbrev pub call_after : TableHost → ℕ → List Dynamic → TableHost
call_after s key vs =
    if key == 4 then map_after s (mapped s.tokens.given vs)
    else after_at (turn false s) s key vs

-- the outcome of what was asked with the token of the call at this place
abbrev pub resume_turn : TableHost → Option ℕ → Outcome → Turn
resume_turn s place outcome = turn (is_some (next_asked (call_at s.tokens place) outcome)) s

abbrev pub resume_reply : TableHost → Option ℕ → Outcome → Reply
resume_reply s place outcome =
    reply_in (resume_turn s place outcome)
    (outcome_reply s.tokens.given (call_at s.tokens place) outcome)

abbrev pub resume_after : TableHost → Option ℕ → Outcome → TableHost
resume_after s place outcome =
    after_in (resume_turn s place outcome) (goes_on place outcome s.tokens) s

abbrev pub verdict : Option Dynamic → Verdict
verdict None = GoOn
verdict (Some v) = Stop v

abbrev pub table_law : Law TableHost
table_law = record {
  resolves = λ s name kinds. key_of name kinds;
  writes = λ s key. writing key;
  call_reply = λ s key receiver values. call_reply s key (arguments receiver values);
  call_after = λ s key receiver values. call_after s key (arguments receiver values);
  call_written = λ s key h values. written_at (turn false s) h values;
  resume_reply = λ s token outcome receiver.
      resume_reply s (place_of token s.tokens.pending) outcome;
  resume_after = λ s token outcome receiver.
      resume_after s (place_of token s.tokens.pending) outcome;
  resume_written = λ s token outcome h. h.value;
  token_writes = λ s token. false;
  forget_after = λ s token.
      record s { tokens = gone (place_of token s.tokens.pending) s.tokens };
  progress_reply = λ s count. verdict (stop_at count s.stops);
  progress_after = λ s count. s;
  reach = λ s. max (stops_bound s.stops) (waiting_bound s.tokens.pending);
  holds_clean = λ s. stops_clean s.stops;
  waits_clean = λ s. waiting_clean s.tokens.pending;
}
