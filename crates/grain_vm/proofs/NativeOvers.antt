-- A native that asked for calls: what it was lent is kept meanwhile, and all else of the run is as it was.
use Rattle.std.proofs.Common.{◌≡◌, ◌∙◌, ◌≤◌, ℕ, List, Option, Result, refl, sym, ap, subst, arith}
use Rattle.std.specs.Prelude.{slice_set}
use Rattle.grain_value.specs.Cells.{idle}
use Rattle.grain_value.specs.declared.scopes.Entry.{Entry}
use Rattle.grain_value.specs.declared.values.Dynamic.{Dynamic}
use Rattle.grain_value.specs.declared.values.Held.{Held}
use Rattle.grain_fault.specs.declared.faults.EvalAltResult.{EvalAltResult}
use Rattle.grain_global.specs.StepsView.{StepsView}
use Rattle.grain_frame.specs.Receivers.{KeepsBound}
use Rattle.grain_frame.specs.Waiting.{IsKept, StaysLent, ToldRun, Untouched, apart_of, given_back_run, state_after}
use Rattle.grain_frame.specs.declared.native_calls.Asked.{Asked}
use Rattle.grain_frame.specs.declared.receivers.Bound.{Bound}
use Rattle.grain_frame.specs.declared.runs.Run.{Run}
use Rattle.grain_frame.specs.declared.targets.Target.{Target}
use Rattle.grain_frame.specs.declared.waiting.Loan.{Loan}
use Rattle.grain_frame.specs.declared.waiting.Loan.TheVariants as have
use Rattle.grain_frame.specs.declared.waiting.Resumed.{Resumed}
use Rattle.grain_frame.specs.declared.waiting.Resumed.TheVariants as went
use Rattle.grain_frame.specs.lemmas.Resting.{put_idle}
use Rattle.grain_vm.specs.Asks.{IsBackAt, NativeOver, ScopeOver, ThisOver}
use Rattle.grain_vm.specs.Driving.{SameFlag}
use Rattle.grain_vm.specs.Methods.{MethodOver, NoneAbove}
use Rattle.grain_vm.proofs.BoundFrames.{still_none}

-- what is lent is lent from there still, with its flag
abbrev pub SameLoan : Loan → Loan → Type 0
SameLoan have.Nothing l = l ≡ have.Nothing
SameLoan (have.Target t) l = l ≡ have.Target t
SameLoan (have.Cell n h) l = (g : Held) × (l ≡ have.Cell n g)
SameLoan (have.Apart h) l = (g : Held) × (l ≡ have.Apart g) × (g.read_only ≡ h.read_only)

pub loan_itself : (l : Loan) → SameLoan l l
loan_itself have.Nothing = refl
loan_itself (have.Target t) = refl
loan_itself (have.Cell n h) = (h, refl)
loan_itself (have.Apart h) = (h, refl, refl)

-- it goes back with its flag
pub loan_flag : (l l' : Loan) → SameLoan l l' → SameFlag (apart_of l) (apart_of l')
loan_flag have.Nothing l' is = rw is tt
loan_flag (have.Target t) l' is = rw is tt
loan_flag (have.Cell n h) l' is = rw is.1 tt
loan_flag (have.Apart h) l' is = rw is.1 is.2

module _ {H : Type 0} where
  -- what stands nowhere in the run stands where it stood
  pub loan_after : (l l' : Loan) (left : Option Held) (scope : List Entry) (x : Option Held) (s : Run H)
      (n : StepsView) (host : H) → SameLoan l l' →
      state_after l' left scope x s n host ≡ state_after l left scope x s n host
  loan_after have.Nothing l' left scope x s n host is = rw is refl
  loan_after (have.Target t) l' left scope x s n host is = rw is refl
  loan_after (have.Cell c h) l' left scope x s n host is = rw is.1 refl
  loan_after (have.Apart h) l' left scope x s n host is = rw is.1 refl

  -- the native is over
  pub stays_over : (l l' : Loan) (o : Result Dynamic EvalAltResult) (left : Option Held) (s : Run H) →
      SameLoan l l' → StaysLent l' (went.Over o left) s → SameFlag (apart_of l) left
  stays_over have.Nothing l' o left s is stays =
      rw (subst (λ (k : Loan). StaysLent k (went.Over o left) s) is stays) tt
  stays_over (have.Target t) l' o left s is stays =
      rw (subst (λ (k : Loan). StaysLent k (went.Over o left) s) is stays).0 tt
  stays_over (have.Cell n h) l' o left s is stays =
      rw (subst (λ (k : Loan). StaysLent k (went.Over o left) s) is.1 stays).0 tt
  stays_over (have.Apart h) l' o left s is stays =
      let there = subst (λ (k : Loan). StaysLent k (went.Over o left) s) is.1 stays in
      rw there.1 (there.2 ∙ is.2)

  -- it asks again
  pub stays_asked : (l l' l'' : Loan) (b : Asked) (s : Run H) → SameLoan l l' →
      StaysLent l' (went.Asks b l'') s → SameLoan l l''
  stays_asked have.Nothing l' l'' b s is stays =
      subst (λ (k : Loan). StaysLent k (went.Asks b l'') s) is stays
  stays_asked (have.Target t) l' l'' b s is stays =
      (subst (λ (k : Loan). StaysLent k (went.Asks b l'') s) is stays).0
  stays_asked (have.Cell n h) l' l'' b s is stays =
      let there = subst (λ (k : Loan). StaysLent k (went.Asks b l'') s) is.1 stays in
      (there.0, there.1)
  stays_asked (have.Apart h) l' l'' b s is stays =
      let there = subst (λ (k : Loan). StaysLent k (went.Asks b l'') s) is.1 stays in
      (there.0, there.1, there.2 ∙ is.2)

  pub stays_kept : (l l' : Loan) (b : Asked) (s : Run H) → StaysLent l (went.Asks b l') s → IsKept s l'
  stays_kept have.Nothing l' b s stays = rw stays tt
  stays_kept (have.Target t) l' b s stays = rw stays.0 stays.1
  stays_kept (have.Cell n h) l' b s stays = rw stays.1 tt
  stays_kept (have.Apart h) l' b s stays = rw stays.1 tt

-- ---- what is kept of the run

-- A native has asked for calls so far: the same as where it is over, but what it was lent may be away.
pub record OverSoFar {H : Type 0} (l : Loan) (s s' : Run H) : Type 0 where
  pub scope : ScopeOver l s.scope s'.scope
  pub saved : s'.saved ≡ s.saved
  pub level : s'.level ≡ s.level
  pub receivers : ThisOver l s s'
  pub room : s'.stacks.room ≡ s.stacks.room
  pub noted : s'.stacks.noted ≡ s.stacks.noted
  pub outer : s'.stacks.outer ≡ s.stacks.outer
  pub operands : s'.stacks.operands ≡ s.stacks.operands
  pub cursors : s'.stacks.cursors ≡ s.stacks.cursors
  pub totals : s'.stacks.totals ≡ s.stacks.totals
  pub handlers : s'.stacks.handlers ≡ s.stacks.handlers
  pub later : s.count ≤ s'.count

module _ {H : Type 0} (s : Run H) where
  scope_itself : (l : Loan) → ScopeOver l s.scope s.scope
  scope_itself have.Nothing = refl
  scope_itself (have.Target t) = refl
  scope_itself (have.Cell n h) = refl
  scope_itself (have.Apart h) = refl

  this_itself : (l : Loan) → ThisOver l s s
  this_itself have.Nothing = refl
  this_itself (have.Target t) = (refl, refl)
  this_itself (have.Cell n h) = refl
  this_itself (have.Apart h) = refl

  pub over_itself : (l : Loan) → OverSoFar l s s
  over_itself l = record {
    scope = scope_itself l;
    saved = refl;
    level = refl;
    receivers = this_itself l;
    room = refl;
    noted = refl;
    outer = refl;
    operands = refl;
    cursors = refl;
    totals = refl;
    handlers = refl;
    later = omega arith;
  }

-- a call in between leaves all as it is
module _ {H : Type 0} (s t t1 : Run H) (over : MethodOver t t1) where
  this_called : (l : Loan) → ThisOver l s t → ThisOver l s t1
  this_called have.Nothing was = over.receivers ∙ was
  this_called (have.Target g) was = subst (λ (bs : List Bound). KeepsBound s.level s.receivers bs)
      (sym over.receivers) was
  this_called (have.Cell n h) was = over.receivers ∙ was
  this_called (have.Apart h) was = over.receivers ∙ was

  pub over_called : (l : Loan) → OverSoFar l s t → OverSoFar l s t1
  over_called l was = record {
    scope = subst (λ (es : List Entry). ScopeOver l s.scope es) (sym over.scope) was.scope;
    saved = over.saved ∙ was.saved;
    level = over.level ∙ was.level;
    receivers = this_called l was.receivers;
    room = over.room ∙ was.room;
    noted = over.noted ∙ was.noted;
    outer = over.outer ∙ was.outer;
    operands = over.operands ∙ was.operands;
    cursors = over.cursors ∙ was.cursors;
    totals = over.totals ∙ was.totals;
    handlers = over.handlers ∙ was.handlers;
    later = omega (arith, was.later, over.later);
  }

-- it is over, and what it was lent is back
pub so_over : {H : Type 0} (s t : Run H) (l : Loan) → OverSoFar l s t → IsBackAt t l → NativeOver l s t
so_over s t l was back = record {
  scope = was.scope;
  saved = was.saved;
  level = was.level;
  receivers = was.receivers;
  room = was.room;
  noted = was.noted;
  outer = was.outer;
  operands = was.operands;
  cursors = was.cursors;
  totals = was.totals;
  handlers = was.handlers;
  back = back;
  later = was.later;
}

-- what was lent goes back
module _ {H : Type 0} (s t : Run H) where
  this_given : (n : ℕ) (h : Held) (l : Loan) → ThisOver l s t →
      ThisOver l s (record t { cells = slice_set t.cells n (idle h) })
  this_given n h have.Nothing was = was
  this_given n h (have.Target g) was = was
  this_given n h (have.Cell i g) was = was
  this_given n h (have.Apart g) was = was

  given_so : (l l' : Loan) → OverSoFar l s t → OverSoFar l s (given_back_run l' t)
  given_so l have.Nothing was = was
  given_so l (have.Target g) was = was
  given_so l (have.Cell n h) was = record {
    scope = was.scope;
    saved = was.saved;
    level = was.level;
    receivers = this_given n h l was.receivers;
    room = was.room;
    noted = was.noted;
    outer = was.outer;
    operands = was.operands;
    cursors = was.cursors;
    totals = was.totals;
    handlers = was.handlers;
    later = was.later;
  }
  given_so l (have.Apart h) was = was

  given_back_at : (l l' : Loan) → SameLoan l l' → IsKept t l' → IsBackAt (given_back_run l' t) l
  given_back_at have.Nothing l' is kept = tt
  given_back_at (have.Target g) l' is kept =
      rw is (subst (λ (k : Loan). IsKept t k) is kept)
  given_back_at (have.Cell n h) l' is kept = rw is.1 (put_idle t.cells n is.0)
  given_back_at (have.Apart h) l' is kept = tt

  pub over_given : (l l' : Loan) → SameLoan l l' → IsKept t l' → OverSoFar l s t →
      NativeOver l s (given_back_run l' t)
  over_given l l' is kept was =
      so_over s (given_back_run l' t) l (given_so l l' was) (given_back_at l l' is kept)

-- the host was told
module _ {H : Type 0} (s t t1 : Run H) (l l' : Loan) (is : SameLoan l l') (r : Resumed)
    (was : OverSoFar l s t) (told : ToldRun l' t r t1) where
  scope_told : (l : Loan) → SameLoan l l' → ScopeOver l s.scope t.scope → ScopeOver l s.scope t1.scope
  scope_told have.Nothing is so =
      ap (λ (q : Run H). q.scope) (subst (λ (k : Loan). Untouched k t t1) is told.same) ∙ so
  scope_told (have.Target g) is so = told.long ∙ so
  scope_told (have.Cell n h) is so =
      ap (λ (q : Run H). q.scope) (subst (λ (k : Loan). Untouched k t t1) is.1 told.same) ∙ so
  scope_told (have.Apart h) is so =
      ap (λ (q : Run H). q.scope) (subst (λ (k : Loan). Untouched k t t1) is.1 told.same) ∙ so

  this_told : (l : Loan) → SameLoan l l' → ThisOver l s t → ThisOver l s t1
  this_told have.Nothing is so =
      ap (λ (q : Run H). q.receivers) (subst (λ (k : Loan). Untouched k t t1) is told.same) ∙ so
  this_told (have.Target g) is so =
      let kept = subst (λ (level : ℕ). KeepsBound level t.receivers t1.receivers) was.level told.this in
      (kept.0 ∙ so.0, kept.1 ∙ so.1)
  this_told (have.Cell n h) is so =
      ap (λ (q : Run H). q.receivers) (subst (λ (k : Loan). Untouched k t t1) is.1 told.same) ∙ so
  this_told (have.Apart h) is so =
      ap (λ (q : Run H). q.receivers) (subst (λ (k : Loan). Untouched k t t1) is.1 told.same) ∙ so

  pub over_told : OverSoFar l s t1
  over_told = record {
    scope = scope_told l is was.scope;
    saved = ap (λ (q : Run H). q.saved) told.others ∙ was.saved;
    level = ap (λ (q : Run H). q.level) told.others ∙ was.level;
    receivers = this_told l is was.receivers;
    room = ap (λ (q : Run H). q.stacks.room) told.others ∙ was.room;
    noted = ap (λ (q : Run H). q.stacks.noted) told.others ∙ was.noted;
    outer = ap (λ (q : Run H). q.stacks.outer) told.others ∙ was.outer;
    operands = ap (λ (q : Run H). q.stacks.operands) told.others ∙ was.operands;
    cursors = ap (λ (q : Run H). q.stacks.cursors) told.others ∙ was.cursors;
    totals = ap (λ (q : Run H). q.stacks.totals) told.others ∙ was.totals;
    handlers = ap (λ (q : Run H). q.stacks.handlers) told.others ∙ was.handlers;
    later = omega (arith, was.later, ap (λ (q : Run H). q.count) told.others);
  }

-- it is over where the host answered at last
pub told_back : {H : Type 0} (t : Run H) (l l' : Loan) (o : Result Dynamic EvalAltResult)
    (left : Option Held) → SameLoan l l' → StaysLent l' (went.Over o left) t → IsBackAt t l
told_back t have.Nothing l' o left is stays = tt
told_back t (have.Target g) l' o left is stays =
    (subst (λ (k : Loan). StaysLent k (went.Over o left) t) is stays).1
told_back t (have.Cell n h) l' o left is stays =
    (subst (λ (k : Loan). StaysLent k (went.Over o left) t) is.1 stays).1
told_back t (have.Apart h) l' o left is stays = tt

-- no frame above has a `this`
pub none_called : {H : Type 0} (t t1 : Run H) → MethodOver t t1 → NoneAbove t.level t.receivers →
    NoneAbove t1.level t1.receivers
none_called t t1 over none = rw (over.level, over.receivers) none

pub none_told : {H : Type 0} (t t1 : Run H) (l : Loan) (r : Resumed) → ToldRun l t r t1 →
    NoneAbove t.level t.receivers → NoneAbove t1.level t1.receivers
none_told {H} t t1 l r told none =
    subst (λ (level : ℕ). NoneAbove level t1.receivers)
    (sym (ap (λ (q : Run H). q.level) told.others))
    (still_none t.level t.receivers t1.receivers told.this none)
