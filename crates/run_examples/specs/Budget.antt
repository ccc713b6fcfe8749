-- A budget of operations: what its native answers, and when it ends a run.
use Rattle.std.specs.Prelude.{ℕ, max, ◌≤◌, ◌-◌, Bool, true, false, not, ◌≡◌, ◌&&◌, List, [], ◌++◌, Option, Some, None, refl, codes, bytes_eq, ◌==◌, if◌then◌else◌}
use Rattle.std.specs.Fmt.{decimal}
use Rattle.std.specs.List.{list_all}
use Rattle.std.proofs.Common.{arith}
use Rattle.std.proofs.Math.Nat.{le-max_left, le-max_right}
use Rattle.grain_value.specs.Tree.{array, pack}
use Rattle.grain_value.specs.View.{tree}
use Rattle.grain_value.specs.Cells.{cell_bound, is_cell, is_clean}
use Rattle.grain_value.specs.declared.values.Dynamic.TheVariants as dynamic
use Rattle.grain_fault.specs.Problems.{SystemError}
use Rattle.grain_host.specs.Clean.{first_true}
use Rattle.grain_host.specs.Law.{Law, Reply, Done, Failed, Verdict, GoOn, Stop, IsLawful, call_bound, is_plain, reply_bound, reply_is_clean, verdict_bound, verdict_is_clean}
use Rattle.grain_host.specs.Resuming.{AsksNothing, may_be_answered, nothing_asked, passed_asks, passed_clean, passed_may, passed_on, passed_within, reach_within, receiver_clean, receiver_within}
use Rattle.run_examples.specs.declared.budget.Budget.{Budget}

-- this many operations
abbrev pub budget_of : ℕ → Budget
budget_of n = record { left = n }

-- n operations fewer, or none
abbrev pub taken : ℕ → Budget → Budget
taken n s = record { left = s.left - n }

-- how many operations are left, as `work` says it
abbrev pub left_text : Budget → List ℕ
left_text s = decimal s.left ++ codes " left"

-- whether this is the key of `work`
abbrev pub is_work : ℕ → Bool
is_work key = key == 1

-- the answer to a call of a key that no native has
abbrev pub unknown : Reply
unknown = Failed (SystemError [] (codes "unknown to the budget"))

-- `work` says what is left after its ten operations
abbrev pub answered : Bool → Budget → Reply
answered true s = Done (dynamic.Text (left_text (taken 10 s)))
answered false s = unknown

abbrev pub reply : Budget → ℕ → Reply
reply s key = answered (is_work key) s

-- `work` alone takes operations
abbrev pub left_after : Budget → ℕ → Budget
left_after s key = if is_work key then taken 10 s else s

-- the native by its name, which takes no arguments
abbrev pub key_of : List ℕ → List ℕ → Option ℕ
key_of name kinds = if bytes_eq name (codes "work") && bytes_eq kinds [] then Some 1 else None

-- a further operation ends the run if none is left
abbrev pub verdict : ℕ → Verdict
verdict left = if left == 0 then Stop dynamic.Unit else GoOn

-- The native does not write its first argument. The budget has no cells, and no arrays or maps.
abbrev pub budget_law : Law Budget
budget_law = record {
  resolves = λ s name kinds. key_of name kinds;
  writes = λ s key. false;
  call_reply = λ s key receiver values. reply s key;
  call_after = λ s key receiver values. left_after s key;
  call_written = λ s key h values. h.value;
  resume_reply = λ s token outcome receiver. passed_on outcome;
  resume_after = λ s token outcome receiver. s;
  resume_written = λ s token outcome h. h.value;
  token_writes = λ s token. false;
  forget_after = λ s token. s;
  progress_reply = λ s count. verdict s.left;
  progress_after = λ s count. taken 1 s;
  reach = λ s. 0;
  holds_clean = λ s. true;
  waits_clean = λ s. true;
}

-- the budget is a lawful host
asks_nothing : (b : Bool) (s : Budget) → AsksNothing (answered b s)
asks_nothing true s = tt
asks_nothing false s = refl

reply_within : (b : Bool) (s : Budget) (n : ℕ) → reply_bound (answered b s) ≤ n
reply_within true s n = omega arith
reply_within false s n = omega arith

reply_clean : (b : Bool) (s : Budget) → reply_is_clean (answered b s) ≡ true
reply_clean true s = refl
reply_clean false s = refl

stop_within : (b : Bool) (n : ℕ) → verdict_bound (if b then Stop dynamic.Unit else GoOn) ≤ n
stop_within true n = omega arith
stop_within false n = omega arith

stop_clean : (b : Bool) → verdict_is_clean (if b then Stop dynamic.Unit else GoOn) ≡ true
stop_clean true = refl
stop_clean false = refl

pub budget_lawful : IsLawful budget_law
budget_lawful = record {
  call_keeps = λ s key receiver values. (λ name kinds. refl, λ key. refl);
  progress_keeps = λ s count. (λ name kinds. refl, λ key. refl);
  resume_keeps = λ s token outcome receiver. (λ name kinds. refl, λ key. refl);
  forget_keeps = λ s token. (λ name kinds. refl, λ key. refl);
  call_keeps_tokens = λ s key receiver values token other writes. writes;
  progress_keeps_tokens = λ s count token other writes. writes;
  resume_keeps_tokens = λ s given outcome receiver token other writes. writes;
  forget_keeps_tokens = λ s given token other writes. writes;
  asks = λ s key receiver values.
      nothing_asked budget_law (budget_law.call_after s key receiver values) false
      (answered (is_work key) s) (asks_nothing (is_work key) s);
  asks_again = λ s token outcome receiver. passed_asks budget_law s false outcome;
  faults = λ s key receiver values.
      may_be_answered (answered (is_work key) s) (asks_nothing (is_work key) s);
  replies_within = λ s key receiver values.
      reply_within (is_work key) s (call_bound budget_law s receiver values);
  writes_within = λ s key h values. omega (
    arith,
    le-max_left (cell_bound (tree h.value)) (cell_bound (array (pack values))),
    le-max_right 0 (max (cell_bound (tree h.value)) (cell_bound (array (pack values)))),
  );
  writes_content = λ s key h values plain. plain;
  stays_within = λ s key receiver values. omega arith;
  resume_faults = λ s token outcome receiver heard. passed_may outcome heard;
  resume_replies_within = λ s token outcome receiver. passed_within budget_law s outcome receiver;
  resume_writes_within = λ s token outcome h. receiver_within budget_law s outcome h;
  resume_writes_content = λ s token outcome h plain. plain;
  resume_stays_within = λ s token outcome receiver. reach_within budget_law s outcome receiver;
  forgets_within = λ s token. omega arith;
  stops_within = λ s count. stop_within (s.left == 0) 0;
  hears_within = λ s count. omega arith;
  replies_clean = λ s key receiver values clean. reply_clean (is_work key) s;
  writes_clean = λ s key h values clean.
      first_true (is_clean (tree h.value)) (not (is_cell (tree h.value)))
      (first_true (is_plain (tree h.value)) (list_all is_plain values) clean);
  stays_clean = λ s key receiver values clean. refl;
  waits_after_call = λ s key receiver values clean waits. refl;
  resume_replies_clean = λ s token outcome receiver clean.
      passed_clean budget_law s outcome receiver clean;
  resume_writes_clean = λ s token outcome h clean. receiver_clean budget_law s outcome h clean;
  resume_stays_clean = λ s token outcome receiver clean. refl;
  waits_after_resume = λ s token outcome receiver clean. refl;
  forgets_clean = λ s token clean. refl;
  waits_after_forget = λ s token waits. refl;
  stops_clean = λ s count clean. stop_clean (s.left == 0);
  hears_clean = λ s count clean. refl;
  waits_after_progress = λ s count waits. refl;
}
