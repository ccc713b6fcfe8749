-- The host in memory is lawful.
use Rattle.std.specs.Prelude.{ℕ, ℤ, ◌≡◌, ◌==◌, Bool, true, false, is_some, List, Option, Some, None, refl, slice_get, option_and_then, if◌then◌else◌}
use Rattle.std.proofs.Common.{ap, arith, sym}
use Rattle.std.proofs.lemmas.Bool.{eqb-true}
use Rattle.grain_value.specs.Tree.{Tree}
use Rattle.grain_value.specs.declared.values.Dynamic.{Dynamic}
use Rattle.grain_value.specs.declared.values.Dynamic.TheVariants as dynamic
use Rattle.grain_host.specs.Law.{Reply, Done, Failed, Ask, Outcome, Value, Fault, AsksAs, MayBeAnswered, MayBeHeard, IsLawful}
use Rattle.grain_host.specs.Pending.{answered, next_of, place_of}
use Rattle.grain_host.specs.Mapping.{call_at, first_asked, mapped, next_reply, outcome_reply, start_reply}
use Rattle.grain_host.specs.declared.pending_calls.PendingCall.{PendingCall}
use Rattle.grain_host.specs.declared.tables.TableHost.{TableHost}
use Rattle.grain_host.specs.declared.register_natives.Access.{Access}
use Rattle.grain_host.specs.declared.register_natives.Access.TheVariants as access
use Rattle.grain_host.specs.declared.tables.Turn.{Turn}
use Rattle.grain_host.specs.declared.tables.Turn.TheVariants as turns
use Rattle.grain_host.specs.Clean.{table_writes_clean, table_stops_clean}
use Rattle.grain_host.specs.MapClean.{table_replies_clean, table_resumes_clean, table_stays_clean, table_stays_resumed_clean, table_waits_called, table_waits_forgotten, table_waits_resumed}
use Rattle.grain_host.specs.Reaching.{table_contents, table_forgets, table_replies, table_resumes, table_stays, table_stays_resumed, table_stops, table_writes}
use Rattle.grain_host.specs.Resuming.{AsksNothing, may_be_answered, nothing_asked, receiver_clean, receiver_within}
use Rattle.grain_host.specs.Registers.{register_of, number_of, register_at, named_by, own_reply, read_reply, write_reply, asked}
use Rattle.grain_host.specs.Tables.{print_reply, push_reply, counted, entries_in, len_reply, exit_reply, register_reply, native_reply, sole, first_of_two, reply_at, reply_in, call_reply, map_reply, resume_turn, turn, writing, arguments, table_law}

either : (b : Bool) (x y : Reply) → AsksNothing x → AsksNothing y →
    AsksNothing (if b then x else y)
either true x y p q = p
either false x y p q = q

may_print : (t : Option Dynamic) → AsksNothing (print_reply t)
may_print None = refl
may_print (Some t) = tt

may_push : (t : Option Dynamic) → AsksNothing (push_reply t)
may_push (Some (dynamic.Array ts)) = tt
may_push _ = refl

may_count : (n : Option ℕ) → AsksNothing (counted n)
may_count None = refl
may_count (Some n) = tt

may_len : (t : Option Dynamic) → AsksNothing (len_reply t)
may_len None = refl
may_len (Some t) = may_count (entries_in t)

may_exit : (t : Option Dynamic) → AsksNothing (exit_reply t)
may_exit None = refl
may_exit (Some t) = refl

may_own : (kind : ℕ) (n : Option ℕ) (v : Dynamic) → AsksNothing (own_reply kind n v)
may_own kind None v = refl
may_own kind (Some n) v = tt

may_read : (x : Option ℤ) (v : Dynamic) → AsksNothing (read_reply x v)
may_read None v = refl
may_read (Some x) v = tt

may_write : (n : Option ℕ) (v : Dynamic) → AsksNothing (write_reply n v)
may_write None v = refl
may_write (Some n) v = tt

may_access : (rs : List ℤ) (a : Option Access) → AsksNothing (register_reply rs a)
may_access rs None = refl
may_access rs (Some (access.Register n)) = may_own 16 (register_of n) (dynamic.Int n)
may_access rs (Some (access.Bank n)) = may_own 17 (number_of n) (dynamic.Int n)
may_access rs (Some (access.WriteBank n)) = may_own 18 (number_of n) (dynamic.Int n)
may_access rs (Some (access.Read p)) =
    may_read (option_and_then (slice_get rs) (register_at p)) (named_by p)
may_access rs (Some (access.Write p x)) = may_write (register_at p) (named_by p)

may_native : (rs : List ℤ) (key : ℕ) (vs : List Dynamic) → AsksNothing (native_reply rs key vs)
may_native rs key vs =
    either (key == 1) _ _ (may_print (sole vs))
    (either (key == 2) _ _ (may_push (first_of_two vs))
    (either (key == 3) _ _ (may_len (sole vs))
    (either (key == 5) _ _ (may_exit (sole vs)) (may_access rs (asked key vs)))))

pub may_reply : (t : Turn) (rs : List ℤ) (key : ℕ) (vs : List Dynamic) →
    AsksNothing (reply_at t rs key vs)
may_reply turns.Full rs key vs = refl
may_reply (turns.Failing n) rs key vs = refl
may_reply (turns.Ready n) rs key vs = may_native rs key vs

-- such a reply may be answered, also where another one asks
may_be : (b : Bool) (x y : Reply) → MayBeAnswered x → AsksNothing y →
    MayBeAnswered (if b then x else y)
may_be true x y p q = p
may_be false x y p q = may_be_answered y q

may_next : (token : ℕ) (p : PendingCall) (o : Option Tree) →
    MayBeAnswered (next_reply token p o)
may_next token p None = tt
may_next token p (Some t) = tt

may_start : (call : Option PendingCall) → MayBeAnswered (start_reply call)
may_start None = refl
may_start (Some p) = may_next p.token p (slice_get p.elements 0)

may_outcome : (token : ℕ) (call : Option PendingCall) (outcome : Outcome) → MayBeHeard outcome →
    MayBeAnswered (outcome_reply token call outcome)
may_outcome token None outcome h = refl
may_outcome token (Some p) (Value v) h = may_next token (answered token v p) (next_of p)
may_outcome token (Some p) (Fault x) h = h

may_in : (t : Turn) (r : Reply) → MayBeAnswered r → MayBeAnswered (reply_in t r)
may_in turns.Full r h = refl
may_in (turns.Failing n) r h = refl
may_in (turns.Ready n) r h = h

may_call : (s : TableHost) (key : ℕ) (vs : List Dynamic) → MayBeAnswered (call_reply s key vs)
may_call s key vs =
    let call = mapped s.tokens.given vs in
    may_be (key == 4) (map_reply s call) (reply_at (turn false s) s.registers key vs)
    (may_in (turn (is_some (first_asked call)) s) (start_reply call) (may_start call))
    (may_reply (turn false s) s.registers key vs)

-- `map` alone asks, and it does not write
asks_as : (b writes : Bool) (x y : Reply) (s : TableHost) → (b ≡ true → writes ≡ false) → AsksNothing y →
    AsksAs table_law s writes (if b then x else y)
asks_as true writes (Done v) y s h q = tt
asks_as true writes (Failed f) y s h q = tt
asks_as true writes (Ask token pointer arguments) y s h q = sym (h refl)
asks_as false writes x y s h q = nothing_asked table_law s writes y q

map_key : (key : ℕ) → (key == 4) ≡ true → writing key ≡ false
map_key key is = ap writing (eqb-true key 4 is)

no_token_writes : (r : Reply) (s : TableHost) → AsksAs table_law s false r
no_token_writes (Done v) s = tt
no_token_writes (Failed f) s = tt
no_token_writes (Ask token pointer arguments) s = refl

pub table_lawful : IsLawful table_law
table_lawful = record {
  call_keeps = λ s key receiver values. (λ name kinds. refl, λ key. refl);
  progress_keeps = λ s count. (λ name kinds. refl, λ key. refl);
  resume_keeps = λ s token outcome receiver. (λ name kinds. refl, λ key. refl);
  forget_keeps = λ s token. (λ name kinds. refl, λ key. refl);
  call_keeps_tokens = λ s key receiver values token other writes. writes;
  progress_keeps_tokens = λ s count token other writes. writes;
  resume_keeps_tokens = λ s given outcome receiver token other writes. writes;
  forget_keeps_tokens = λ s given token other writes. writes;
  asks = λ s key receiver values.
      asks_as (key == 4) (writing key) (map_reply s (mapped s.tokens.given (arguments receiver values)))
      (reply_at (turn false s) s.registers key (arguments receiver values))
      (table_law.call_after s key receiver values) (map_key key)
      (may_reply (turn false s) s.registers key (arguments receiver values));
  asks_again = λ s token outcome receiver.
      no_token_writes (table_law.resume_reply s token outcome receiver)
      (table_law.resume_after s token outcome receiver);
  faults = λ s key receiver values. may_call s key (arguments receiver values);
  resume_faults = λ s token outcome receiver heard.
      let place = place_of token s.tokens.pending in
      may_in (resume_turn s place outcome)
      (outcome_reply s.tokens.given (call_at s.tokens place) outcome)
      (may_outcome s.tokens.given (call_at s.tokens place) outcome heard);
  replies_within = table_replies;
  writes_within = table_writes;
  writes_content = table_contents;
  stays_within = table_stays;
  resume_replies_within = table_resumes;
  resume_writes_within = λ s token outcome h. receiver_within table_law s outcome h;
  resume_writes_content = λ s token outcome h plain. plain;
  resume_stays_within = table_stays_resumed;
  forgets_within = table_forgets;
  stops_within = table_stops;
  hears_within = λ s count. omega arith;
  replies_clean = table_replies_clean;
  writes_clean = table_writes_clean;
  stays_clean = table_stays_clean;
  waits_after_call = table_waits_called;
  resume_replies_clean = table_resumes_clean;
  resume_writes_clean = λ s token outcome h clean. receiver_clean table_law s outcome h clean;
  resume_stays_clean = table_stays_resumed_clean;
  waits_after_resume = table_waits_resumed;
  forgets_clean = λ s token clean. clean;
  waits_after_forget = table_waits_forgotten;
  stops_clean = table_stops_clean;
  hears_clean = λ s count clean. clean;
  waits_after_progress = λ s count waits. waits;
}
