-- What an instruction that waits for a native rests on, where the native was told or forgotten.
use Rattle.std.proofs.Common.{◌≡◌, ℕ, zero, suc, List, [], ◌∷◌, Option, Some, true, Result, length, refl, sym, ap, subst, arith}
use Rattle.std.specs.Prelude.{option_map, slice_get, slice_set}
use Rattle.grain_value.specs.Cells.{idle, is_busy}
use Rattle.grain_value.specs.Operands.{read_write}
use Rattle.grain_value.specs.declared.stores.Cell.{Cell}
use Rattle.grain_value.specs.declared.values.Dynamic.{Dynamic}
use Rattle.grain_value.specs.declared.values.Held.{Held}
use Rattle.grain_fault.specs.declared.faults.EvalAltResult.{EvalAltResult}
use Rattle.grain_program.specs.View.{View}
use Rattle.grain_stack.specs.Views.{StacksView}
use Rattle.grain_frame.specs.Targets.{CanBeWritten, content_at}
use Rattle.grain_frame.specs.Waiting.{CanHold, GoesOn, IsBack, IsKept, IsKeptAt, IsNotLent, LeadsTo, Lends, ToldRun, Untouched, given_back_run}
use Rattle.grain_frame.specs.declared.activations.Activation.{Activation}
use Rattle.grain_frame.specs.declared.assignments.Assignment.{Assignment}
use Rattle.grain_frame.specs.declared.runs.Run.{Run}
use Rattle.grain_frame.specs.declared.targets.Target.{Target}
use Rattle.grain_frame.specs.declared.targets.Target.TheVariants as to
use Rattle.grain_frame.specs.declared.waiting.Loan.{Loan}
use Rattle.grain_frame.specs.declared.waiting.Loan.TheVariants as have
use Rattle.grain_frame.specs.declared.waiting.Rest.{Rest}
use Rattle.grain_frame.specs.declared.waiting.Rest.TheVariants as rest
use Rattle.grain_frame.specs.declared.waiting.Resumed.{Resumed}
use Rattle.grain_frame.specs.declared.waiting.Resumed.TheVariants as went
use Rattle.grain_frame.specs.lemmas.Entries.{is_within}

-- a cell that something was put into is not lent
pub put_idle : (cs : List Cell) (n : ℕ) (h : Held) →
    option_map is_busy (slice_get (slice_set cs n (idle h)) n) ≡ Some true → ⊥
put_idle [] n h is = absurd cc
put_idle (c ∷ cs) zero h is = absurd cc
put_idle (c ∷ cs) (suc n) h is = put_idle cs n h is

-- what is kept at a target is there, and not lent
pub kept_there : {H : Type 0} (s : Run H) (t : Target) → IsKeptAt s t → CanHold s t
kept_there s (to.Entry i) kept = is_within s.scope i (read_write (content_at s (to.Entry i))) kept
kept_there s (to.Cell n) kept = absurd kept
kept_there s to.This kept = subst (λ (o : Option Held). CanBeWritten o) (sym kept) refl

pub kept_free : {H : Type 0} (s : Run H) (t : Target) → IsKeptAt s t → IsNotLent s t
kept_free s (to.Entry i) kept = tt
kept_free s (to.Cell n) kept = absurd kept
kept_free s to.This kept = tt

-- what its native was lent is back
given_free : {H : Type 0} (s : Run H) (n : ℕ) (h : Held) (t : Target) → t ≡ to.Cell n →
    IsNotLent (given_back_run (have.Cell n h) s) t
given_free s n h t is = subst (λ (x : Target). IsNotLent (given_back_run (have.Cell n h) s) x)
    (sym is) (put_idle s.cells n h)

pub back_given : {H : Type 0} (s : Run H) (r : Rest) (l : Loan) → Lends r l → IsKept s l →
    IsBack (given_back_run l s) r
back_given s (rest.Push count next) l lends kept = tt
back_given s (rest.Assign a) have.Nothing lends kept = absurd lends
back_given s (rest.Assign a) (have.Target t) lends kept =
    subst (λ (x : Target). IsNotLent s x) lends (kept_free s t kept)
back_given s (rest.Assign a) (have.Cell n h) lends kept = given_free s n h a.target lends.0
back_given s (rest.Assign a) (have.Apart h) lends kept = absurd lends
back_given s (rest.Operate a) l lends kept = tt
back_given s (rest.Show name next) l lends kept = tt

pub back_told : {H : Type 0} (s s' : Run H) (r : Rest) (l : Loan)
    (o : Result Dynamic EvalAltResult) (given : Option Held) → Lends r l →
    ToldRun l s (went.Over o given) s' → IsBack s' r
back_told s s' (rest.Push count next) l o given lends told = tt
back_told s s' (rest.Assign a) have.Nothing o given lends told = absurd lends
back_told s s' (rest.Assign a) (have.Target t) o given lends told =
    subst (λ (x : Target). IsNotLent s' x) lends (kept_free s' t told.left.1)
back_told s s' (rest.Assign a) (have.Cell n h) o given lends told =
    subst (λ (x : Target). IsNotLent s' x) (sym lends.0) told.left.1
back_told s s' (rest.Assign a) (have.Apart h) o given lends told = absurd lends
back_told s s' (rest.Operate a) l o given lends told = tt
back_told s s' (rest.Show name next) l o given lends told = tt

-- what an op-assignment writes can be read as before
module _ {H : Type 0} (s s' : Run H) where
  holds_beside : (v : StacksView) (t : Target) → s' ≡ record s { stacks = v } → CanHold s t →
      CanHold s' t
  holds_beside v (to.Entry i) is can = rw is can
  holds_beside v (to.Cell n) is can = tt
  holds_beside v to.This is can = rw is can

  holds_cell : (n : ℕ) (t : Target) → t ≡ to.Cell n → CanHold s' t
  holds_cell n t is = subst (λ (x : Target). CanHold s' x) (sym is) tt

  pub holds_told : (r : Resumed) (a : Assignment) (l : Loan) → Lends (rest.Assign a) l →
      ToldRun l s r s' → CanHold s' a.target
  holds_told r a have.Nothing lends told = absurd lends
  holds_told (went.Over o given) a (have.Target t) lends told =
      subst (λ (x : Target). CanHold s' x) lends (kept_there s' t told.left.1)
  holds_told (went.Asks b l') a (have.Target t) lends told =
      subst (λ (x : Target). CanHold s' x) lends (kept_there s' t told.left.1)
  holds_told r a (have.Cell n h) lends told = holds_cell n a.target lends.0
  holds_told r a (have.Apart h) lends told = absurd lends

-- it goes on as before, once its native was told
module _ {H : Type 0} (p : View) (f : Activation) (s s' : Run H) (l : Loan) (r : Resumed)
    (told : ToldRun l s r s') where
  same_operands : length s'.stacks.operands ≡ length s.stacks.operands
  same_operands = ap (λ (q : Run H). length q.stacks.operands) told.others

  goes_told : (a : Assignment) → CanHold s' a.target → GoesOn p f s a → GoesOn p f s' a
  goes_told a holds goes = record {
    inside = omega (arith, goes.inside, told.long);
    target = holds;
    operand = omega (arith, goes.operand, same_operands);
    ahead = goes.ahead;
    first = goes.first;
    second = goes.second;
    variable = goes.variable;
  }

  pub leads_told : (x : Rest) (takes gives : ℕ) (ts : List ℕ) → Lends x l →
      LeadsTo p f s x takes gives ts → LeadsTo p f s' x takes gives ts
  leads_told (rest.Push count next) takes gives ts lends leads = (
    omega (arith, leads.0, told.long),
    omega (arith, leads.1, same_operands),
    omega (
      arith,
      leads.2,
      same_operands,
      ap (λ (q : Run H). q.stacks.room) told.others,
    ),
    leads.3,
    leads.4,
    leads.5,
    leads.6,
  )
  leads_told (rest.Assign a) takes gives ts lends leads =
      (goes_told a (holds_told s s' r a l lends told) leads.0, leads.1, leads.2, leads.3)
  leads_told (rest.Operate a) takes gives ts lends leads = (
    goes_told a (holds_beside s s' (record s.stacks { trace = s'.stacks.trace }) a.target
        (subst (λ (y : Loan). Untouched y s s') lends told.same) leads.0.target) leads.0,
    leads.1,
    leads.2,
    leads.3,
  )
  leads_told (rest.Show name next) takes gives ts lends leads = (
    record {
      inside = omega (arith, leads.0.inside, told.long);
      operands = omega (arith, leads.0.operands, same_operands);
      room =
          omega (
            arith,
            leads.0.room,
            same_operands,
            ap (λ (q : Run H). q.stacks.room) told.others,
          );
      ahead = leads.0.ahead;
    },
    leads.1,
    leads.2,
    leads.3,
  )
