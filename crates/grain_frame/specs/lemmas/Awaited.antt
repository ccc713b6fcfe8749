-- What waits for a native lies in the run, and nothing else of the run depends on it.
use Rattle.std.proofs.Common.{◌≡◌, ℕ, List, Option, refl}
use Rattle.grain_program.specs.View.{View}
use Rattle.grain_means.specs.Worlds.{Act, Answer, Frame, Home, Place, Setup, World}
use Rattle.grain_frame.specs.Waiting.{CanHold, GoesOn, IsKept, IsKeptAt, LeadsTo, asking}
use Rattle.grain_frame.specs.declared.activations.Activation.{Activation}
use Rattle.grain_frame.specs.declared.assignments.Assignment.{Assignment}
use Rattle.grain_frame.specs.declared.native_calls.Asked.{Asked}
use Rattle.grain_frame.specs.declared.runs.Run.{Run}
use Rattle.grain_frame.specs.declared.targets.Target.{Target}
use Rattle.grain_frame.specs.declared.targets.Target.TheVariants as to
use Rattle.grain_frame.specs.declared.waiting.Loan.{Loan}
use Rattle.grain_frame.specs.declared.waiting.Loan.TheVariants as have
use Rattle.grain_frame.specs.declared.waiting.Rest.{Rest}
use Rattle.grain_frame.specs.declared.waiting.Rest.TheVariants as rest
use Rattle.grain_frame.specs.declared.waiting.Waiting.{Waiting}

module _ {H : Type 0} (s : Run H) (x : Option Waiting) where
  can_hold : (t : Target) → CanHold s t → CanHold (record s { waiting = x }) t
  can_hold (to.Entry i) can = can
  can_hold (to.Cell n) can = can
  can_hold to.This can = can

  goes_on : (p : View) (f : Activation) (a : Assignment) → GoesOn p f s a →
      GoesOn p f (record s { waiting = x }) a
  goes_on p f a goes = record {
    inside = goes.inside;
    target = can_hold a.target goes.target;
    operand = goes.operand;
    ahead = goes.ahead;
    first = goes.first;
    second = goes.second;
    variable = goes.variable;
  }

  -- the instruction can still go on
  pub awaits : (p : View) (f : Activation) (r : Rest) (takes gives : ℕ) (ts : List ℕ) →
      LeadsTo p f s r takes gives ts → LeadsTo p f (record s { waiting = x }) r takes gives ts
  awaits p f (rest.Push count next) takes gives ts leads = leads
  awaits p f (rest.Assign a) takes gives ts leads =
      (goes_on p f a leads.0, leads.1, leads.2, leads.3)
  awaits p f (rest.Operate a) takes gives ts leads =
      (goes_on p f a leads.0, leads.1, leads.2, leads.3)
  awaits p f (rest.Show type_name next) takes gives ts leads = (
    record {
      inside = leads.0.inside;
      operands = leads.0.operands;
      room = leads.0.room;
      ahead = leads.0.ahead;
    },
    leads.1,
    leads.2,
    leads.3,
  )

  kept_at : (t : Target) → IsKeptAt s t → IsKeptAt (record s { waiting = x }) t
  kept_at (to.Entry i) kept = kept
  kept_at (to.Cell n) kept = kept
  kept_at to.This kept = kept

  -- what its native was lent is kept
  pub kept_awaited : (l : Loan) → IsKept s l → IsKept (record s { waiting = x }) l
  kept_awaited have.Nothing kept = tt
  kept_awaited (have.Target t) kept = kept_at t kept
  kept_awaited (have.Cell n h) kept = tt
  kept_awaited (have.Apart h) kept = tt

  -- and what the native asks for is the same
  pub asks_awaited : (apart : Option Place → Home) (a : Asked) (l : Loan)
      (f : Option Place → Frame) (heard : Setup H → Option Place → Answer → World H → Act H)
      (m : Setup H) (place : Option Place) (w : World H) →
      asking apart s a l f heard m place w
      ≡ asking apart (record s { waiting = x }) a l f heard m place w
  asks_awaited apart a have.Nothing f heard m place w = refl
  asks_awaited apart a (have.Target (to.Entry i)) f heard m place w = refl
  asks_awaited apart a (have.Target (to.Cell n)) f heard m place w = refl
  asks_awaited apart a (have.Target to.This) f heard m place w = refl
  asks_awaited apart a (have.Cell n h) f heard m place w = refl
  asks_awaited apart a (have.Apart h) f heard m place w = refl
