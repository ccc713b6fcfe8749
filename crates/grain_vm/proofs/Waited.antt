-- What follows in an instruction once a native is over for which it waits.
use Rattle.std.proofs.Common.{◌≡◌, ◌∙◌, ◌≤◌, ℕ, List, Option, true, Result, Ok, Err, length, refl, sym, ap, subst, arith}
use Rattle.std.proofs.Math.Path.{fun_ext}
use Rattle.grain_value.specs.declared.scopes.Entry.{Entry}
use Rattle.grain_value.specs.declared.values.Dynamic.{Dynamic}
use Rattle.grain_value.specs.declared.values.Held.{Held}
use Rattle.grain_fault.specs.Problems.{NoMemory}
use Rattle.grain_fault.specs.declared.faults.EvalAltResult.{EvalAltResult}
use Rattle.grain_program.specs.View.{View}
use Rattle.grain_global.specs.StepsView.{StepsView}
use Rattle.grain_means.specs.Worlds.{Frame, Place, Setup, World}
use Rattle.grain_means.specs.Rules.{leave_by_fault}
use Rattle.grain_chain.specs.Walking.{is_want, outcome_of}
use Rattle.grain_frame.specs.Abstraction.{KeepsFrame, abstraction, frame_in, this_of}
use Rattle.grain_frame.specs.Receivers.{KeepsBound}
use Rattle.grain_frame.specs.Targets.{CanBeWritten}
use Rattle.grain_frame.specs.Waiting.{CanHold, GoesOn, LeadsTo, Lends, answer_of, beside, no_memory_came, rest_of, state_after, state_with}
use Rattle.grain_frame.specs.declared.activations.Activation.{Activation}
use Rattle.grain_frame.specs.declared.assignments.Assignment.{Assignment}
use Rattle.grain_frame.specs.declared.runs.Run.{Run}
use Rattle.grain_frame.specs.declared.targets.Target.{Target}
use Rattle.grain_frame.specs.declared.targets.Target.TheVariants as to
use Rattle.grain_frame.specs.declared.waiting.Loan.{Loan}
use Rattle.grain_frame.specs.declared.waiting.Loan.TheVariants as have
use Rattle.grain_frame.specs.declared.waiting.Rest.{Rest}
use Rattle.grain_frame.specs.declared.waiting.Rest.TheVariants as rest
use Rattle.grain_frame.specs.lemmas.Resting.{kept_there}
use Rattle.grain_vm.specs.Asks.{NativeOver, ScopeOver, ThisOver}
use Rattle.grain_frame.specs.lemmas.Turns.{kept_bound}

-- ---- what stays the same where a native was called until it was over

same_long : (l : Loan) (scope scope' : List Entry) → ScopeOver l scope scope' →
    length scope' ≡ length scope
same_long have.Nothing scope scope' over = ap length over
same_long (have.Target t) scope scope' over = over
same_long (have.Cell n h) scope scope' over = ap length over
same_long (have.Apart h) scope scope' over = ap length over

same_bound : {H : Type 0} (s s' : Run H) → s'.receivers ≡ s.receivers →
    KeepsBound s.level s.receivers s'.receivers
same_bound s s' is = rw is (refl, refl)

keeps_bound : {H : Type 0} (l : Loan) (s s' : Run H) → ThisOver l s s' →
    KeepsBound s.level s.receivers s'.receivers
keeps_bound have.Nothing s s' over = same_bound s s' over
keeps_bound (have.Target t) s s' over = over
keeps_bound (have.Cell n h) s s' over = same_bound s s' over
keeps_bound (have.Apart h) s s' over = same_bound s s' over

same_this : {H : Type 0} (s s' : Run H) → s'.level ≡ s.level → s'.receivers ≡ s.receivers →
    this_of s ≡ this_of s'
same_this s s' level receivers = rw (level, receivers) refl

beside_is : {H : Type 0} (scope : List Entry) (x : Option Held) (s : Run H) (n : StepsView)
    (host : H) → s.scope ≡ scope → x ≡ this_of s → beside scope x s n host ≡ abstraction s n host
beside_is scope x s n host scopes this =
    ap (λ (q : List Entry). beside q x s n host) (sym scopes)
    ∙ ap (λ (q : Option Held). beside s.scope q s n host) this

pub same_frame : {H : Type 0} (f : Activation) (s s' : Run H) →
    s'.stacks.operands ≡ s.stacks.operands → s'.stacks.cursors ≡ s.stacks.cursors →
    s'.stacks.totals ≡ s.stacks.totals → s'.stacks.handlers ≡ s.stacks.handlers →
    ◌≡◌ {A = Option Place → Frame} (frame_in f s) (frame_in f s')
same_frame f s s' operands cursors totals handlers =
    fun_ext (λ place. rw (operands, cursors, totals, handlers) refl)

-- the state of the code, where a native has what the instruction writes, or nothing
pub state_here : {H : Type 0} (s : Run H) (n : StepsView) (host : H) (r : Rest) (l : Loan) →
    Lends r l → state_with l s.scope (this_of s) s n host ≡ abstraction s n host
state_here s n host r have.Nothing lends = refl
state_here s n host r (have.Target t) lends = refl
state_here s n host r (have.Cell c h) lends = refl
state_here s n host (rest.Push count next) (have.Apart h) lends = absurd cc
state_here s n host (rest.Assign a) (have.Apart h) lends = absurd lends
state_here s n host (rest.Operate a) (have.Apart h) lends = absurd cc
state_here s n host (rest.Show name next) (have.Apart h) lends = absurd cc

pub state_back : {H : Type 0} (s s' : Run H) (n : StepsView) (host : H) (r : Rest) (l : Loan)
    (left : Option Held) → Lends r l → NativeOver l s s' →
    state_after l left s.scope (this_of s) s' n host ≡ abstraction s' n host
state_back s s' n host r have.Nothing left lends over =
    beside_is s.scope (this_of s) s' n host over.scope (same_this s s' over.level over.receivers)
state_back s s' n host r (have.Target t) left lends over = refl
state_back s s' n host r (have.Cell c h) left lends over =
    beside_is s.scope (this_of s) s' n host over.scope (same_this s s' over.level over.receivers)
state_back s s' n host (rest.Push count next) (have.Apart h) left lends over = absurd cc
state_back s s' n host (rest.Assign a) (have.Apart h) left lends over = absurd lends
state_back s s' n host (rest.Operate a) (have.Apart h) left lends over = absurd cc
state_back s s' n host (rest.Show name next) (have.Apart h) left lends over = absurd cc

-- ---- what the instruction rests on

can_beside : {H : Type 0} (s s' : Run H) (t : Target) → s'.scope ≡ s.scope →
    s'.level ≡ s.level → s'.receivers ≡ s.receivers → CanHold s t → CanHold s' t
can_beside s s' (to.Entry i) scope level receivers can = rw scope can
can_beside s s' (to.Cell n) scope level receivers can = tt
can_beside s s' to.This scope level receivers can =
    subst (λ (x : Option Held). CanBeWritten x) (same_this s s' level receivers) can

can_cell : {H : Type 0} (s : Run H) (n : ℕ) (t : Target) → t ≡ to.Cell n → CanHold s t
can_cell s n t is = subst (λ (x : Target). CanHold s x) (sym is) tt

can_over : {H : Type 0} (s s' : Run H) (a : Assignment) (l : Loan) → Lends (rest.Assign a) l →
    NativeOver l s s' → CanHold s' a.target
can_over s s' a have.Nothing lends over = absurd lends
can_over s s' a (have.Target t) lends over =
    subst (λ (x : Target). CanHold s' x) lends (kept_there s' t over.back)
can_over s s' a (have.Cell n h) lends over = can_cell s' n a.target lends.0
can_over s s' a (have.Apart h) lends over = absurd lends

module _ {H : Type 0} (p : View) (f : Activation) (s s' : Run H) (l : Loan)
    (over : NativeOver l s s') where
  long : length s'.scope ≡ length s.scope
  long = same_long l s.scope s'.scope over.scope

  operands : length s'.stacks.operands ≡ length s.stacks.operands
  operands = ap length over.operands

  goes_over : (a : Assignment) → CanHold s' a.target → GoesOn p f s a → GoesOn p f s' a
  goes_over a can goes = record {
    inside = omega (arith, goes.inside, long);
    target = can;
    operand = omega (arith, goes.operand, operands);
    ahead = goes.ahead;
    first = goes.first;
    second = goes.second;
    variable = goes.variable;
  }

  goes_operate : (a : Assignment) (x : Loan) → x ≡ have.Nothing → NativeOver x s s' →
      GoesOn p f s a → GoesOn p f s' a
  goes_operate a have.Nothing is over goes =
      goes_over a (can_beside s s' a.target over.scope over.level over.receivers goes.target) goes
  goes_operate a (have.Target t) is over goes = absurd cc
  goes_operate a (have.Cell n h) is over goes = absurd cc
  goes_operate a (have.Apart h) is over goes = absurd cc

  -- it goes on as before
  pub leads_over : (r : Rest) (takes gives : ℕ) (ts : List ℕ) → Lends r l →
      LeadsTo p f s r takes gives ts → LeadsTo p f s' r takes gives ts
  leads_over (rest.Push count next) takes gives ts lends leads = (
    omega (arith, leads.0, long),
    omega (arith, leads.1, operands),
    omega (arith, leads.2, operands, over.room),
    leads.3,
    leads.4,
    leads.5,
    leads.6,
  )
  leads_over (rest.Assign a) takes gives ts lends leads =
      (goes_over a (can_over s s' a l lends over) leads.0, leads.1, leads.2, leads.3)
  leads_over (rest.Operate a) takes gives ts lends leads =
      (goes_operate a l lends over leads.0, leads.1, leads.2, leads.3)
  leads_over (rest.Show name next) takes gives ts lends leads = (
    record {
      inside = omega (arith, leads.0.inside, long);
      operands = omega (arith, leads.0.operands, operands);
      room = omega (arith, leads.0.room, operands, over.room);
      ahead = leads.0.ahead;
    },
    leads.1,
    leads.2,
    leads.3,
  )

pub leads_inside : {H : Type 0} (p : View) (f : Activation) (s : Run H) (r : Rest)
    (takes gives : ℕ) (ts : List ℕ) → LeadsTo p f s r takes gives ts → f.base ≤ length s.scope
leads_inside p f s (rest.Push count next) takes gives ts leads = leads.0
leads_inside p f s (rest.Assign a) takes gives ts leads = leads.0.inside
leads_inside p f s (rest.Operate a) takes gives ts leads = leads.0.inside
leads_inside p f s (rest.Show name next) takes gives ts leads = leads.0.inside

-- ---- the frame

pub kept_on : {H : Type 0} (f g h : Activation) (s t u : Run H) → KeepsFrame f s g t →
    KeepsFrame g t h u → KeepsFrame f s h u
kept_on f g h s t u one two = record {
  chunk = two.chunk ∙ one.chunk;
  base = two.base ∙ one.base;
  scope = omega (arith, two.scope, one.base);
  room = two.room ∙ one.room;
  noted = two.noted ∙ one.noted;
  outer = two.outer ∙ one.outer;
  saved = two.saved ∙ one.saved;
  level = two.level ∙ one.level;
  this = kept_bound s.receivers t.receivers u.receivers one.level one.this two.this;
  later = omega (arith, one.later, two.later);
}

pub kept_over : {H : Type 0} (f : Activation) (s s' : Run H) (l : Loan) →
    f.base ≤ length s.scope → NativeOver l s s' → KeepsFrame f s f s'
kept_over f s s' l inside over = record {
  chunk = refl;
  base = refl;
  scope = omega (arith, inside, same_long l s.scope s'.scope over.scope);
  room = over.room;
  noted = over.noted;
  outer = over.outer;
  saved = over.saved;
  level = over.level;
  this = keeps_bound l s s' over.receivers;
  later = over.later;
}

-- ---- how the native ended

pub same_answer : (o : Result Dynamic EvalAltResult) → answer_of o ≡ outcome_of o
same_answer (Ok v) = refl
same_answer (Err x) = refl

pub same_want : (o : Result Dynamic EvalAltResult) → is_want o ≡ no_memory_came o
same_want (Ok v) = refl
same_want (Err x) = refl

-- memory was out
pub rests_out : {H : Type 0} (h : Held) (r : Rest) (f : Option Place → Frame)
    (o : Result Dynamic EvalAltResult) (m : Setup H) (place : Option Place) (w : World H) →
    is_want o ≡ true → rest_of h r f m place (outcome_of o) w ≡ leave_by_fault m (f place) NoMemory w
rests_out h r f (Ok v) m place w want = absurd cc
rests_out h r f (Err x) m place w want = rw want refl
