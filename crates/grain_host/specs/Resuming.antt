-- What any host may count on where it hears of an outcome; and a host that asks for nothing, which
-- passes each outcome on.
use Rattle.std.specs.Prelude.{ℕ, ◌≡◌, ◌≤◌, max, Bool, true, false, ◌&&◌, not, Option, Some}
use Rattle.std.proofs.Common.{arith}
use Rattle.std.proofs.Math.Nat.{le-max_left, le-max_right}
use Rattle.grain_value.specs.Cells.{cell_bound, is_cell, is_clean}
use Rattle.grain_value.specs.View.{tree}
use Rattle.grain_value.specs.declared.values.Held.{Held}
use Rattle.grain_host.specs.Truths.{first_true, second_true}
use Rattle.grain_host.specs.Faults.{handed_back}
use Rattle.grain_host.specs.Law.{Law, Reply, Done, Failed, Ask, Outcome, Value, Fault, AsksAs, MayBeAnswered, MayBeHeard, outcome_bound, outcome_is_plain, receiver_bound, receiver_is_plain, reply_bound, reply_is_clean, resume_bound, resume_is_clean}

-- the answer of a host that passes an outcome on
abbrev pub passed_on : Outcome → Reply
passed_on (Value v) = Done v
passed_on (Fault x) = Failed x

module _ {S : Type 0} (law : Law S) (s : S) (outcome : Outcome) where
  module _ (receiver : Option Held) where
    -- its own reach, and the cells of the outcome
    pub reach_within : law.reach s ≤ resume_bound law s outcome receiver
    reach_within = le-max_left (law.reach s) (max (receiver_bound receiver) (outcome_bound outcome))

    pub outcome_within : outcome_bound outcome ≤ resume_bound law s outcome receiver
    outcome_within =
        let own : ℕ = receiver_bound receiver in
        let came : ℕ = outcome_bound outcome in
        omega (arith, le-max_right own came, le-max_right (law.reach s) (max own came))

    module _ (clean : resume_is_clean law s outcome receiver ≡ true) where
      all_held : law.holds_clean s && law.waits_clean s ≡ true
      all_held =
          first_true (law.holds_clean s && law.waits_clean s)
          (receiver_is_plain receiver && outcome_is_plain outcome) clean

      all_given : receiver_is_plain receiver && outcome_is_plain outcome ≡ true
      all_given =
          second_true (law.holds_clean s && law.waits_clean s)
          (receiver_is_plain receiver && outcome_is_plain outcome) clean

      pub holds_clean : law.holds_clean s ≡ true
      holds_clean = first_true (law.holds_clean s) (law.waits_clean s) all_held

      pub waits_clean : law.waits_clean s ≡ true
      waits_clean = second_true (law.holds_clean s) (law.waits_clean s) all_held

      pub receiver_plain : receiver_is_plain receiver ≡ true
      receiver_plain = first_true (receiver_is_plain receiver) (outcome_is_plain outcome) all_given

      pub outcome_plain : outcome_is_plain outcome ≡ true
      outcome_plain = second_true (receiver_is_plain receiver) (outcome_is_plain outcome) all_given

  -- a receiver that stays
  pub receiver_within : (h : Held) → cell_bound (tree h.value) ≤ resume_bound law s outcome (Some h)
  receiver_within h =
      let own : ℕ = cell_bound (tree h.value) in
      let came : ℕ = outcome_bound outcome in
      omega (arith, le-max_left own came, le-max_right (law.reach s) (max own came))

  pub receiver_clean : (h : Held) → resume_is_clean law s outcome (Some h) ≡ true →
      is_clean (tree h.value) ≡ true
  receiver_clean h clean =
      first_true (is_clean (tree h.value)) (not (is_cell (tree h.value)))
      (receiver_plain (Some h) clean)

-- the reply asks for nothing, and a fault in it is one that a host may answer
abbrev pub AsksNothing : Reply → Type 0
AsksNothing (Done v) = Unit
AsksNothing (Failed x) = handed_back x ≡ false
AsksNothing (Ask token pointer arguments) = ⊥

pub may_be_answered : (r : Reply) → AsksNothing r → MayBeAnswered r
may_be_answered (Done v) h = tt
may_be_answered (Failed x) h = h
may_be_answered (Ask token pointer arguments) h = tt

pub nothing_asked : {S : Type 0} (law : Law S) (s : S) (writes : Bool) (r : Reply) →
    AsksNothing r → AsksAs law s writes r
nothing_asked law s writes (Done v) h = tt
nothing_asked law s writes (Failed x) h = tt
nothing_asked law s writes (Ask token pointer arguments) h = absurd h

-- an outcome that is passed on
pub passed_may : (outcome : Outcome) → MayBeHeard outcome → MayBeAnswered (passed_on outcome)
passed_may (Value v) h = tt
passed_may (Fault x) h = h

pub passed_asks : {S : Type 0} (law : Law S) (s : S) (writes : Bool) (outcome : Outcome) →
    AsksAs law s writes (passed_on outcome)
passed_asks law s writes (Value v) = tt
passed_asks law s writes (Fault x) = tt

passed_bound : (outcome : Outcome) (n : ℕ) → outcome_bound outcome ≤ n →
    reply_bound (passed_on outcome) ≤ n
passed_bound (Value v) n h = h
passed_bound (Fault x) n h = h

pub passed_within : {S : Type 0} (law : Law S) (s : S) (outcome : Outcome)
    (receiver : Option Held) →
    reply_bound (passed_on outcome) ≤ resume_bound law s outcome receiver
passed_within law s outcome receiver =
    passed_bound outcome (resume_bound law s outcome receiver)
    (outcome_within law s outcome receiver)

passed_plain : (outcome : Outcome) → outcome_is_plain outcome ≡ true →
    reply_is_clean (passed_on outcome) ≡ true
passed_plain (Value v) h = first_true (is_clean (tree v)) (not (is_cell (tree v))) h
passed_plain (Fault x) h = h

pub passed_clean : {S : Type 0} (law : Law S) (s : S) (outcome : Outcome)
    (receiver : Option Held) → resume_is_clean law s outcome receiver ≡ true →
    reply_is_clean (passed_on outcome) ≡ true
passed_clean law s outcome receiver clean =
    passed_plain outcome (outcome_plain law s outcome receiver clean)
