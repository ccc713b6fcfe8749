-- A price list: what its natives answer, and what they leave.
use Rattle.std.specs.Prelude.{ℕ, max, ◌≤◌, ◌^◌, ℤ, pos, negsuc, ◌+ℤ◌, ◌-ℤ◌, ◌*ℤ◌, int_lt, int_div, Bool, false, true, not, ◌≡◌, ◌&&◌, ◌||◌, List, [], ◌∷◌, ◌++◌, Option, Some, None, Result, Ok, Err, refl, codes, bytes_eq, ◌==◌, slice_get, option_and_then, if◌then◌else◌}
use Rattle.std.specs.List.{list_all}
use Rattle.std.proofs.Common.{arith}
use Rattle.std.proofs.Math.Nat.{le-max_left, le-max_right, max-le}
use Rattle.grain_value.specs.Tree.{array, integer, pack}
use Rattle.grain_value.specs.View.{tree}
use Rattle.grain_value.specs.Cells.{cell_bound, is_cell, is_clean}
use Rattle.grain_value.specs.Looking.{integer_of, pointer_of, text_of}
use Rattle.grain_value.specs.declared.values.Dynamic.{Dynamic}
use Rattle.grain_value.specs.declared.values.Dynamic.TheVariants as dynamic
use Rattle.grain_value.specs.declared.values.FnPtr.{FnPtr}
use Rattle.grain_fault.specs.Places.{nowhere}
use Rattle.grain_fault.specs.Problems.{Problem, Plain, Runtime, SystemError}
use Rattle.grain_host.specs.Calling.{ValueClean, ValueWithin, argument_clean, argument_within, given_plain, given_within}
use Rattle.grain_host.specs.Clean.{both_true, first_true}
use Rattle.grain_host.specs.Law.{Law, Reply, Done, Failed, Ask, GoOn, AsksAs, MayBeAnswered, IsLawful, call_bound, is_plain, reply_bound, reply_is_clean}
use Rattle.grain_host.specs.Resuming.{passed_asks, passed_clean, passed_may, passed_on, passed_within, reach_within, receiver_clean, receiver_within}
use Rattle.grain_host.specs.Tables.{arguments}
use Rattle.run_examples.specs.declared.prices.Line.{Line}
use Rattle.run_examples.specs.declared.prices.PriceList.{PriceList}
use Rattle.run_examples.specs.declared.prices.Reason.{Reason}
use Rattle.run_examples.specs.declared.prices.Reason.TheVariants as reason

-- a list without articles, to which nothing is charged
abbrev pub empty : PriceList
empty = record { lines = []; total = pos 0 }

-- one more article with its price
abbrev pub listed : List ℕ → ℤ → PriceList → PriceList
listed article n s = record s { lines = s.lines ++ record { article = article; price = n } ∷ [] }

-- the price of an article: the first on the list
abbrev pub price : List ℕ → List Line → Result ℤ Reason
price article [] = Err reason.NoSuchArticle
price article (l ∷ ls) = if bytes_eq l.article article then Ok l.price else price article ls

-- an amount, if it fits 64 bits
abbrev pub fitting : ℤ → Result ℤ Reason
fitting n =
    if int_lt n (pos (2 ^ 63)) && int_lt (negsuc (2 ^ 63)) n then Ok n else Err reason.OutOfRange

-- a hundredth of an amount, rounded towards zero
abbrev pub hundredth : Result ℤ Reason → Result ℤ Reason
hundredth (Ok n) = Ok (int_div n (pos 100))
hundredth (Err r) = Err r

-- an amount less n percent of it
abbrev pub discount : ℤ → ℤ → Result ℤ Reason
discount amount percent =
    if int_lt percent (pos 0) || int_lt (pos 100) percent then Err reason.OutOfRange
    else hundredth (fitting (amount *ℤ (pos 100 -ℤ percent)))

-- what is given for an argument, if it is there and of the right kind
abbrev pub given : {X : Type 0} → Option X → (X → Result ℤ Reason) → Result ℤ Reason
given None f = Err reason.Unknown
given (Some x) f = f x

abbrev pub integer_at : List Dynamic → ℕ → Option ℤ
integer_at vs i = option_and_then integer_of (slice_get vs i)

abbrev pub text_at : List Dynamic → ℕ → Option (List ℕ)
text_at vs i = option_and_then text_of (slice_get vs i)

abbrev pub pointer_at : List Dynamic → ℕ → Option FnPtr
pointer_at vs i = option_and_then pointer_of (slice_get vs i)

-- what `discount` gives for its two arguments
abbrev pub discounted : List Dynamic → Result ℤ Reason
discounted vs = given (integer_at vs 0) (λ amount. given (integer_at vs 1) (discount amount))

-- the property of an article that is read
abbrev pub property : List ℕ → List ℕ → List Line → Result ℤ Reason
property article name lines =
    if bytes_eq name (codes "price") then price article lines else Err reason.Unknown

-- an amount is assigned to a property, which charges it: the new total
abbrev pub assigned : List ℕ → ℤ → PriceList → Result ℤ Reason
assigned name amount s =
    if bytes_eq name (codes "charged") then fitting (s.total +ℤ amount) else Err reason.Unknown

-- the natives by their keys: 1 `price`, 2 `discount`, 3 `charge`, and 4 and 5 read and assign properties
abbrev pub gives : PriceList → ℕ → List Dynamic → Result ℤ Reason
gives s key vs =
    if key == 1 then given (text_at vs 0) (λ article. price article s.lines)
    else (if key == 2 then discounted vs
    else (if key == 3 then given (integer_at vs 0) (λ amount. fitting (s.total +ℤ amount))
    else (if key == 4 then given (text_at vs 0) (λ article. given (text_at vs 1)
    (λ name. property article name s.lines))
    else (if key == 5 then given (text_at vs 1) (λ name. given (integer_at vs 2)
    (λ amount. assigned name amount s))
    else Err reason.Unknown))))

-- what `charge` leaves: the total that it gave, or all as it was
abbrev pub charged : PriceList → Result ℤ Reason → PriceList
charged s (Ok total) = record s { total = total }
charged s (Err r) = s

-- `charge` and the assignment to a property alone change the list
abbrev pub leaves : PriceList → ℕ → List Dynamic → PriceList
leaves s key vs = if key == 3 || key == 5 then charged s (gives s key vs) else s

-- the natives by their names and kinds: a text is of kind 4, an integer of kind 2
abbrev pub key_of : List ℕ → List ℕ → Option ℕ
key_of name kinds =
    if bytes_eq name (codes "price") && bytes_eq kinds (4 ∷ []) then Some 1
    else (if bytes_eq name (codes "discount") && bytes_eq kinds (2 ∷ 2 ∷ []) then Some 2
    else (if bytes_eq name (codes "charge") && bytes_eq kinds (2 ∷ []) then Some 3
    else (if bytes_eq name (codes "index$get$") && bytes_eq kinds (4 ∷ 4 ∷ []) then Some 4
    else (if bytes_eq name (codes "index$set$") && bytes_eq kinds (4 ∷ 4 ∷ 2 ∷ []) then Some 5
    else (if bytes_eq name (codes "adjust") && bytes_eq kinds (4 ∷ 8 ∷ []) then Some 6
    else None)))))

-- the fault of a call that has no value
abbrev pub reason_text : Reason → List ℕ
reason_text reason.Unknown = codes "unknown to the price list"
reason_text reason.NoSuchArticle = codes "no such article"
reason_text reason.OutOfRange = codes "out of range"

abbrev pub problem : Reason → Problem
problem reason.Unknown = SystemError [] (reason_text reason.Unknown)
problem r = Plain (Runtime (dynamic.Text (reason_text r))) nowhere

-- the answer to a call
abbrev pub reply : Result ℤ Reason → Reply
reply (Ok n) = Done (dynamic.Int n)
reply (Err r) = Failed (problem r)

-- `adjust` asks a function with the price of an article; what comes of it is the answer
abbrev pub asked_with : Result ℤ Reason → FnPtr → Reply
asked_with (Ok n) f = Ask 0 f (integer n ∷ [])
asked_with (Err r) f = Failed (problem r)

abbrev pub adjusts : List Line → Option (List ℕ) → Option FnPtr → Reply
adjusts lines None f = Failed (problem reason.Unknown)
adjusts lines (Some article) None = Failed (problem reason.Unknown)
adjusts lines (Some article) (Some f) = asked_with (price article lines) f

-- the answer to a call of a key: 6 is that of `adjust`
abbrev pub reply_to : PriceList → ℕ → List Dynamic → Reply
reply_to s key vs =
    if key == 6 then adjusts s.lines (text_at vs 0) (pointer_at vs 1) else reply (gives s key vs)

-- No native writes its first argument, and a run always goes on. The list has no cells, and no arrays
-- or maps.
abbrev pub price_law : Law PriceList
price_law = record {
  resolves = λ s name kinds. key_of name kinds;
  writes = λ s key. false;
  call_reply = λ s key receiver values. reply_to s key (arguments receiver values);
  call_after = λ s key receiver values. leaves s key (arguments receiver values);
  call_written = λ s key h values. h.value;
  resume_reply = λ s token outcome receiver. passed_on outcome;
  resume_after = λ s token outcome receiver. s;
  resume_written = λ s token outcome h. h.value;
  token_writes = λ s token. false;
  forget_after = λ s token. s;
  progress_reply = λ s count. GoOn;
  progress_after = λ s count. s;
  reach = λ s. 0;
  holds_clean = λ s. true;
  waits_clean = λ s. true;
}

-- the list is a lawful host
may_reply : (r : Result ℤ Reason) → MayBeAnswered (reply r)
may_reply (Ok n) = tt
may_reply (Err reason.Unknown) = refl
may_reply (Err reason.NoSuchArticle) = refl
may_reply (Err reason.OutOfRange) = refl

may_ask : (r : Result ℤ Reason) (f : FnPtr) → MayBeAnswered (asked_with r f)
may_ask (Ok n) f = tt
may_ask (Err reason.Unknown) f = refl
may_ask (Err reason.NoSuchArticle) f = refl
may_ask (Err reason.OutOfRange) f = refl

may_adjust : (lines : List Line) (article : Option (List ℕ)) (f : Option FnPtr) →
    MayBeAnswered (adjusts lines article f)
may_adjust lines None f = refl
may_adjust lines (Some article) None = refl
may_adjust lines (Some article) (Some f) = may_ask (price article lines) f

may_either : (b : Bool) (x y : Reply) → MayBeAnswered x → MayBeAnswered y →
    MayBeAnswered (if b then x else y)
may_either true x y p q = p
may_either false x y p q = q

asks_as : (s : PriceList) (r : Reply) → AsksAs price_law s false r
asks_as s (Done v) = tt
asks_as s (Failed x) = tt
asks_as s (Ask token f values) = refl

-- what is asked names the cells that the pointer names, and is clean if the pointer is
abbrev PointerWithin : ℕ → Option FnPtr → Type 0
PointerWithin n None = Unit
PointerWithin n (Some f) = cell_bound (tree (dynamic.Pointer f)) ≤ n

pointer_within : (n : ℕ) (v : Option Dynamic) → ValueWithin n v →
    PointerWithin n (option_and_then pointer_of v)
pointer_within n None h = tt
pointer_within n (Some (dynamic.Pointer f)) h = h
pointer_within n (Some v) h = tt

ask_within : (r : Result ℤ Reason) (f : FnPtr) (n : ℕ) →
    cell_bound (tree (dynamic.Pointer f)) ≤ n → reply_bound (asked_with r f) ≤ n
ask_within (Ok k) f n h = max-le {a = cell_bound (tree (dynamic.Pointer f))} {b = 0} h (omega arith)
ask_within (Err reason.Unknown) f n h = omega arith
ask_within (Err reason.NoSuchArticle) f n h = omega arith
ask_within (Err reason.OutOfRange) f n h = omega arith

adjust_within : (lines : List Line) (article : Option (List ℕ)) (f : Option FnPtr) (n : ℕ) →
    PointerWithin n f → reply_bound (adjusts lines article f) ≤ n
adjust_within lines None f n h = omega arith
adjust_within lines (Some article) None n h = omega arith
adjust_within lines (Some article) (Some f) n h = ask_within (price article lines) f n h

within_either : (b : Bool) (x y : Reply) (n : ℕ) → reply_bound x ≤ n → reply_bound y ≤ n →
    reply_bound (if b then x else y) ≤ n
within_either true x y n p q = p
within_either false x y n p q = q

abbrev PointerClean : Option FnPtr → Type 0
PointerClean None = Unit
PointerClean (Some f) = is_clean (tree (dynamic.Pointer f)) ≡ true

pointer_clean : (v : Option Dynamic) → ValueClean v → PointerClean (option_and_then pointer_of v)
pointer_clean None h = tt
pointer_clean (Some (dynamic.Pointer f)) h = h
pointer_clean (Some v) h = tt

ask_clean : (r : Result ℤ Reason) (f : FnPtr) → is_clean (tree (dynamic.Pointer f)) ≡ true →
    reply_is_clean (asked_with r f) ≡ true
ask_clean (Ok k) f h = both_true (is_clean (tree (dynamic.Pointer f))) true h refl
ask_clean (Err reason.Unknown) f h = refl
ask_clean (Err reason.NoSuchArticle) f h = refl
ask_clean (Err reason.OutOfRange) f h = refl

adjust_clean : (lines : List Line) (article : Option (List ℕ)) (f : Option FnPtr) →
    PointerClean f → reply_is_clean (adjusts lines article f) ≡ true
adjust_clean lines None f h = refl
adjust_clean lines (Some article) None h = refl
adjust_clean lines (Some article) (Some f) h = ask_clean (price article lines) f h

clean_either : (b : Bool) (x y : Reply) → reply_is_clean x ≡ true → reply_is_clean y ≡ true →
    reply_is_clean (if b then x else y) ≡ true
clean_either true x y p q = p
clean_either false x y p q = q

reply_within : (r : Result ℤ Reason) (n : ℕ) → reply_bound (reply r) ≤ n
reply_within (Ok k) n = omega arith
reply_within (Err reason.Unknown) n = omega arith
reply_within (Err reason.NoSuchArticle) n = omega arith
reply_within (Err reason.OutOfRange) n = omega arith

reply_clean : (r : Result ℤ Reason) → reply_is_clean (reply r) ≡ true
reply_clean (Ok k) = refl
reply_clean (Err reason.Unknown) = refl
reply_clean (Err reason.NoSuchArticle) = refl
reply_clean (Err reason.OutOfRange) = refl

pub price_lawful : IsLawful price_law
price_lawful = record {
  call_keeps = λ s key receiver values. (λ name kinds. refl, λ key. refl);
  progress_keeps = λ s count. (λ name kinds. refl, λ key. refl);
  resume_keeps = λ s token outcome receiver. (λ name kinds. refl, λ key. refl);
  forget_keeps = λ s token. (λ name kinds. refl, λ key. refl);
  call_keeps_tokens = λ s key receiver values token other writes. writes;
  progress_keeps_tokens = λ s count token other writes. writes;
  resume_keeps_tokens = λ s given outcome receiver token other writes. writes;
  forget_keeps_tokens = λ s given token other writes. writes;
  asks = λ s key receiver values.
      asks_as (price_law.call_after s key receiver values)
      (price_law.call_reply s key receiver values);
  asks_again = λ s token outcome receiver. passed_asks price_law s false outcome;
  faults = λ s key receiver values.
      let vs = arguments receiver values in
      may_either (key == 6) (adjusts s.lines (text_at vs 0) (pointer_at vs 1))
      (reply (gives s key vs)) (may_adjust s.lines (text_at vs 0) (pointer_at vs 1))
      (may_reply (gives s key vs));
  replies_within = λ s key receiver values.
      let vs = arguments receiver values in
      let n = call_bound price_law s receiver values in
      within_either (key == 6) (adjusts s.lines (text_at vs 0) (pointer_at vs 1))
      (reply (gives s key vs)) n
      (adjust_within s.lines (text_at vs 0) (pointer_at vs 1) n
      (pointer_within n (slice_get vs 1)
      (argument_within n vs 1 (given_within price_law s receiver values))))
      (reply_within (gives s key vs) n);
  writes_within = λ s key h values. omega (
    arith,
    le-max_left (cell_bound (tree h.value)) (cell_bound (array (pack values))),
    le-max_right 0 (max (cell_bound (tree h.value)) (cell_bound (array (pack values)))),
  );
  writes_content = λ s key h values plain. plain;
  stays_within = λ s key receiver values. omega arith;
  resume_faults = λ s token outcome receiver heard. passed_may outcome heard;
  resume_replies_within = λ s token outcome receiver. passed_within price_law s outcome receiver;
  resume_writes_within = λ s token outcome h. receiver_within price_law s outcome h;
  resume_writes_content = λ s token outcome h plain. plain;
  resume_stays_within = λ s token outcome receiver. reach_within price_law s outcome receiver;
  forgets_within = λ s token. omega arith;
  stops_within = λ s count. omega arith;
  hears_within = λ s count. omega arith;
  replies_clean = λ s key receiver values clean.
      let vs = arguments receiver values in
      clean_either (key == 6) (adjusts s.lines (text_at vs 0) (pointer_at vs 1))
      (reply (gives s key vs))
      (adjust_clean s.lines (text_at vs 0) (pointer_at vs 1)
      (pointer_clean (slice_get vs 1)
      (argument_clean vs 1 (given_plain price_law s receiver values clean))))
      (reply_clean (gives s key vs));
  writes_clean = λ s key h values clean.
      first_true (is_clean (tree h.value)) (not (is_cell (tree h.value)))
      (first_true (is_plain (tree h.value)) (list_all is_plain values) clean);
  stays_clean = λ s key receiver values clean. refl;
  waits_after_call = λ s key receiver values clean waits. refl;
  resume_replies_clean = λ s token outcome receiver clean.
      passed_clean price_law s outcome receiver clean;
  resume_writes_clean = λ s token outcome h clean. receiver_clean price_law s outcome h clean;
  resume_stays_clean = λ s token outcome receiver clean. refl;
  waits_after_resume = λ s token outcome receiver clean. refl;
  forgets_clean = λ s token clean. refl;
  waits_after_forget = λ s token waits. refl;
  stops_clean = λ s count clean. refl;
  hears_clean = λ s count clean. refl;
  waits_after_progress = λ s count waits. refl;
}
