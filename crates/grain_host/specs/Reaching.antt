-- The host in memory hands over no cells but those that it was given, or that its own lines hold.
use Rattle.std.specs.Prelude.{ℕ, ℤ, ◌≡◌, ◌==◌, ◌≤◌, max, Bool, true, false, is_some, List, [], ◌∷◌, Option, Some, None, map, refl, slice_get, option_and_then, if◌then◌else◌}
use Rattle.std.proofs.Common.{arith}
use Rattle.std.proofs.Math.Nat.{le-max_left, le-max_right, max-le}
use Rattle.grain_value.specs.Tree.{Tree, array, pack}
use Rattle.grain_value.specs.View.{tree, value_of}
use Rattle.grain_value.specs.Cells.{cell_bound}
use Rattle.grain_value.specs.Looking.{cell_of}
use Rattle.grain_value.specs.declared.values.Dynamic.{Dynamic}
use Rattle.grain_value.specs.declared.values.Dynamic.TheVariants as dynamic
use Rattle.grain_value.specs.declared.values.Held.{Held}
use Rattle.grain_host.specs.Law.{Reply, Outcome, call_bound, receiver_bound, reply_bound, resume_bound, verdict_bound}
use Rattle.grain_host.specs.declared.tables.TableHost.{TableHost}
use Rattle.grain_host.specs.declared.stop_lines.StopLine.{StopLine}
use Rattle.grain_host.specs.declared.register_natives.Access.{Access}
use Rattle.grain_host.specs.declared.register_natives.Access.TheVariants as access
use Rattle.grain_host.specs.declared.register_natives.Place.{Place}
use Rattle.grain_host.specs.declared.register_natives.Place.TheVariants as place
use Rattle.grain_host.specs.declared.tables.Turn.{Turn}
use Rattle.grain_host.specs.declared.tables.Turn.TheVariants as turns
use Rattle.grain_host.specs.Calling.{arguments_bound, given_within, values_within}
use Rattle.grain_host.specs.Resuming.{reach_within, outcome_within as came_within}
use Rattle.grain_host.specs.Stops.{stop_at, stops_bound}
use Rattle.grain_host.specs.Pending.{place_of, waiting_bound}
use Rattle.grain_host.specs.Mapping.{call_at, first_asked, goes_on, gone, mapped, outcome_reply, start_reply, started}
use Rattle.grain_host.specs.MapReaching.{at_within, first_below, goes_within, gone_within, longer_within, mapped_within, outcome_within, second_below, start_within, started_within}
use Rattle.grain_host.specs.declared.callbacks.Tokens.{Tokens}
use Rattle.grain_host.specs.Registers.{register_of, number_of, register_at, named_by, own_reply, read_reply, write_reply, asked}
use Rattle.grain_host.specs.Tables.{print_reply, push_reply, counted, entries_in, len_reply, exit_reply, register_reply, native_reply, sole, first_of_two, reply_at, after_at, reply_in, after_in, map_reply, map_after, call_reply, call_after, resume_turn, written_at, pushed, verdict, turn, arguments, table_law}

-- one more than the greatest cell of an argument, if there is one
abbrev pub argument_bound : Option Dynamic → ℕ
argument_bound None = 0
argument_bound (Some v) = cell_bound (tree v)

sole_within : (vs : List Dynamic) → argument_bound (sole vs) ≤ arguments_bound vs
sole_within [] = omega arith
sole_within (v ∷ []) = le-max_left (cell_bound (tree v)) 0
sole_within (v ∷ u ∷ vs) = omega arith

either : (b : Bool) (x y : Reply) (n : ℕ) → reply_bound x ≤ n → reply_bound y ≤ n →
    reply_bound (if b then x else y) ≤ n
either true x y n p q = p
either false x y n p q = q

print_within : (v : Option Dynamic) (n : ℕ) → reply_bound (print_reply v) ≤ n
print_within None n = omega arith
print_within (Some v) n = omega arith

push_within : (v : Option Dynamic) (n : ℕ) → reply_bound (push_reply v) ≤ n
push_within (Some (dynamic.Array ts)) n = omega arith
push_within _ n = omega arith

count_within : (o : Option ℕ) (n : ℕ) → reply_bound (counted o) ≤ n
count_within None n = omega arith
count_within (Some k) n = omega arith

len_within : (v : Option Dynamic) (n : ℕ) → reply_bound (len_reply v) ≤ n
len_within None n = omega arith
len_within (Some v) n = count_within (entries_in v) n

exit_within : (v : Option Dynamic) (n : ℕ) → argument_bound v ≤ n → reply_bound (exit_reply v) ≤ n
exit_within None n le = omega arith
exit_within (Some v) n le = max-le {a = cell_bound (tree v)} {b = 0} le (omega arith)

-- registers hold integers, and a place is named by an integer or by a value of the host's own
own_within : (kind : ℕ) (k : Option ℕ) (i : ℤ) (n : ℕ) →
    reply_bound (own_reply kind k (dynamic.Int i)) ≤ n
own_within kind None i n = omega arith
own_within kind (Some k) i n = omega arith

read_within : (x : Option ℤ) (p : Place) (n : ℕ) → reply_bound (read_reply x (named_by p)) ≤ n
read_within None (place.Number k) n = omega arith
read_within None (place.Index i) n = omega arith
read_within (Some x) p n = omega arith

write_within : (k : Option ℕ) (p : Place) (n : ℕ) → reply_bound (write_reply k (named_by p)) ≤ n
write_within None (place.Number k) n = omega arith
write_within None (place.Index i) n = omega arith
write_within (Some k) p n = omega arith

access_within : (rs : List ℤ) (a : Option Access) (n : ℕ) → reply_bound (register_reply rs a) ≤ n
access_within rs None n = omega arith
access_within rs (Some (access.Register i)) n = own_within 16 (register_of i) i n
access_within rs (Some (access.Bank i)) n = own_within 17 (number_of i) i n
access_within rs (Some (access.WriteBank i)) n = own_within 18 (number_of i) i n
access_within rs (Some (access.Read p)) n =
    read_within (option_and_then (slice_get rs) (register_at p)) p n
access_within rs (Some (access.Write p x)) n = write_within (register_at p) p n

native_within : (rs : List ℤ) (key : ℕ) (vs : List Dynamic) (n : ℕ) → arguments_bound vs ≤ n →
    reply_bound (native_reply rs key vs) ≤ n
native_within rs key vs n le =
    either (key == 1) _ _ n (print_within (sole vs) n)
    (either (key == 2) _ _ n (push_within (first_of_two vs) n)
    (either (key == 3) _ _ n (len_within (sole vs) n)
    (either (key == 5) _ _ n
    (exit_within (sole vs) n (omega (arith, sole_within vs, le)))
    (access_within rs (asked key vs) n))))

reply_within : (t : Turn) (rs : List ℤ) (key : ℕ) (vs : List Dynamic) (n : ℕ) →
    arguments_bound vs ≤ n → reply_bound (reply_at t rs key vs) ≤ n
reply_within turns.Full rs key vs n le = omega arith
reply_within (turns.Failing k) rs key vs n le = omega arith
reply_within (turns.Ready k) rs key vs n le = native_within rs key vs n le

in_within : (t : Turn) (r : Reply) (n : ℕ) → reply_bound r ≤ n → reply_bound (reply_in t r) ≤ n
in_within turns.Full r n h = omega arith
in_within (turns.Failing k) r n h = omega arith
in_within (turns.Ready k) r n h = h

call_within : (s : TableHost) (key : ℕ) (vs : List Dynamic) (n : ℕ) → arguments_bound vs ≤ n →
    reply_bound (call_reply s key vs) ≤ n
call_within s key vs n h =
    let call = mapped s.tokens.given vs in
    either (key == 4) (map_reply s call) (reply_at (turn false s) s.registers key vs) n
    (in_within (turn (is_some (first_asked call)) s) (start_reply call) n
    (start_within n call (mapped_within n s.tokens.given vs h)))
    (reply_within (turn false s) s.registers key vs n h)

pub table_replies : (s : TableHost) (key : ℕ) (receiver : Option Held) (values : List Tree) →
    reply_bound (table_law.call_reply s key receiver values)
    ≤ call_bound table_law s receiver values
table_replies s key receiver values =
    call_within s key (arguments receiver values) (call_bound table_law s receiver values)
    (given_within table_law s receiver values)

pushed_within : (d : Dynamic) (v : Option Dynamic) (n : ℕ) → cell_bound (tree d) ≤ n →
    argument_bound v ≤ n → cell_bound (tree (pushed d v)) ≤ n
pushed_within (dynamic.Array ts) (Some v) n p q = longer_within ts (tree v) n p q
pushed_within d v n p q = p

written_within : (t : Turn) (h : Held) (values : List Tree) (n : ℕ) →
    cell_bound (tree h.value) ≤ n → arguments_bound (map value_of values) ≤ n →
    cell_bound (tree (written_at t h values)) ≤ n
written_within turns.Full h values n p q = p
written_within (turns.Failing k) h values n p q = p
written_within (turns.Ready k) h values n p q =
    pushed_within h.value (sole (map value_of values)) n p
    (omega (arith, sole_within (map value_of values), q))

pub table_writes : (s : TableHost) (key : ℕ) (h : Held) (values : List Tree) →
    cell_bound (tree (table_law.call_written s key h values))
    ≤ call_bound table_law s (Some h) values
table_writes s key h values =
    let reach : ℕ = table_law.reach s in
    let own : ℕ = cell_bound (tree h.value) in
    let given : ℕ = cell_bound (array (pack values)) in
    written_within (turn false s) h values (call_bound table_law s (Some h) values)
    (omega (arith, le-max_left own given, le-max_right reach (max own given)))
    (omega (
      arith,
      values_within values,
      le-max_right own given,
      le-max_right reach (max own given),
    ))

-- what is written is no cell where the receiver is none
pushed_content : (u : Dynamic) (v : Option Dynamic) → cell_of u ≡ None →
    cell_of (pushed u v) ≡ None
pushed_content (dynamic.Array ts) (Some v) plain = refl
pushed_content u _ plain = plain

content_at : (t : Turn) (h : Held) (values : List Tree) → cell_of h.value ≡ None →
    cell_of (written_at t h values) ≡ None
content_at turns.Full h values plain = plain
content_at (turns.Failing n) h values plain = plain
content_at (turns.Ready n) h values plain =
    pushed_content h.value (sole (map value_of values)) plain

pub table_contents : (s : TableHost) (key : ℕ) (h : Held) (values : List Tree) →
    cell_of h.value ≡ None → cell_of (table_law.call_written s key h values) ≡ None
table_contents s key h values plain = content_at (turn false s) h values plain

-- what is kept for calls that wait, and the lines, which no step changes
abbrev Within : ℕ → TableHost → Type 0
Within n s = table_law.reach s ≤ n

lines_within : (s : TableHost) (n : ℕ) → Within n s → stops_bound s.stops ≤ n
lines_within s n h = first_below (stops_bound s.stops) (waiting_bound s.tokens.pending) n h

waiting_within : (s : TableHost) (n : ℕ) → Within n s → waiting_bound s.tokens.pending ≤ n
waiting_within s n h = second_below (stops_bound s.stops) (waiting_bound s.tokens.pending) n h

after_within : (t : Turn) (s : TableHost) (key : ℕ) (vs : List Dynamic) (n : ℕ) → Within n s →
    Within n (after_at t s key vs)
after_within turns.Full s key vs n h = h
after_within (turns.Failing k) s key vs n h = h
after_within (turns.Ready k) s key vs n h = h

kept_within : (t : Turn) (tokens : Tokens) (s : TableHost) (n : ℕ) → Within n s →
    waiting_bound tokens.pending ≤ n → Within n (after_in t tokens s)
kept_within turns.Full tokens s n h k = h
kept_within (turns.Failing j) tokens s n h k = h
kept_within (turns.Ready j) tokens s n h k =
    max-le {a = stops_bound s.stops} {b = waiting_bound tokens.pending} (lines_within s n h) k

either_state : (b : Bool) (x y : TableHost) (n : ℕ) → Within n x → Within n y →
    Within n (if b then x else y)
either_state true x y n p q = p
either_state false x y n p q = q

left_within : (s : TableHost) (key : ℕ) (vs : List Dynamic) (n : ℕ) → Within n s →
    arguments_bound vs ≤ n → Within n (call_after s key vs)
left_within s key vs n h k =
    let call = mapped s.tokens.given vs in
    either_state (key == 4) (map_after s call) (after_at (turn false s) s key vs) n
    (kept_within (turn (is_some (first_asked call)) s) (started call s.tokens) s n h
    (started_within n call s.tokens (waiting_within s n h) (mapped_within n s.tokens.given vs k)))
    (after_within (turn false s) s key vs n h)

pub table_stays : (s : TableHost) (key : ℕ) (receiver : Option Held) (values : List Tree) →
    table_law.reach (table_law.call_after s key receiver values)
    ≤ call_bound table_law s receiver values
table_stays s key receiver values =
    left_within s key (arguments receiver values) (call_bound table_law s receiver values)
    (le-max_left (table_law.reach s)
    (max (receiver_bound receiver) (cell_bound (array (pack values)))))
    (given_within table_law s receiver values)

-- where the host hears of an outcome
pub table_resumes : (s : TableHost) (token : ℕ) (outcome : Outcome) (receiver : Option Held) →
    reply_bound (table_law.resume_reply s token outcome receiver)
    ≤ resume_bound table_law s outcome receiver
table_resumes s token outcome receiver =
    let place = place_of token s.tokens.pending in
    let n = resume_bound table_law s outcome receiver in
    let call = call_at s.tokens place in
    in_within (resume_turn s place outcome) (outcome_reply s.tokens.given call outcome) n
    (outcome_within n s.tokens.given call outcome
    (at_within n s.tokens place (waiting_within s n (reach_within table_law s outcome receiver)))
    (came_within table_law s outcome receiver))

pub table_stays_resumed : (s : TableHost) (token : ℕ) (outcome : Outcome)
    (receiver : Option Held) →
    table_law.reach (table_law.resume_after s token outcome receiver)
    ≤ resume_bound table_law s outcome receiver
table_stays_resumed s token outcome receiver =
    let place = place_of token s.tokens.pending in
    let n = resume_bound table_law s outcome receiver in
    kept_within (resume_turn s place outcome) (goes_on place outcome s.tokens) s n
    (reach_within table_law s outcome receiver)
    (goes_within n place outcome s.tokens (waiting_within s n (reach_within table_law s outcome receiver))
    (came_within table_law s outcome receiver))

pub table_forgets : (s : TableHost) (token : ℕ) →
    table_law.reach (table_law.forget_after s token) ≤ table_law.reach s
table_forgets s token =
    let n = table_law.reach s in
    let place = place_of token s.tokens.pending in
    max-le {a = stops_bound s.stops} {b = waiting_bound (gone place s.tokens).pending}
    (lines_within s n (omega arith))
    (gone_within n place s.tokens (waiting_within s n (omega arith)))

stop_within : (b : Bool) (x : Dynamic) (o : Option Dynamic) (n : ℕ) → cell_bound (tree x) ≤ n →
    verdict_bound (verdict o) ≤ n → verdict_bound (verdict (if b then Some x else o)) ≤ n
stop_within true x o n p q = p
stop_within false x o n p q = q

stops_within : (count : ℕ) (ls : List StopLine) →
    verdict_bound (verdict (stop_at count ls)) ≤ stops_bound ls
stops_within count [] = omega arith
stops_within count (l ∷ ls) =
    let own : ℕ = cell_bound (tree l.value) in
    stop_within (l.count == count) l.value (stop_at count ls) (max own (stops_bound ls))
    (le-max_left own (stops_bound ls))
    (omega (arith, stops_within count ls, le-max_right own (stops_bound ls)))

pub table_stops : (s : TableHost) (count : ℕ) →
    verdict_bound (table_law.progress_reply s count) ≤ table_law.reach s
table_stops s count =
    omega (
      arith,
      stops_within count s.stops,
      le-max_left (stops_bound s.stops) (waiting_bound s.tokens.pending),
    )
