-- A native that was called on a receiver, and asked for calls first, is over: what it was lent is back.
use Rattle.std.proofs.Common.{◌≡◌, ◌∙◌, List, [], ◌∷◌, ◌++◌, Option, Some, None, false, Result, length, take, refl, sym, ap, subst, arith}
use Rattle.std.specs.Prelude.{is_some, slice_set, true}
use Rattle.grain_value.specs.Cells.{idle}
use Rattle.grain_value.specs.declared.scopes.Entry.{Entry}
use Rattle.grain_value.specs.declared.stores.Cell.{Cell}
use Rattle.grain_value.specs.declared.values.Dynamic.{Dynamic}
use Rattle.grain_value.specs.declared.values.Held.{Held}
use Rattle.grain_fault.specs.declared.faults.EvalAltResult.{EvalAltResult}
use Rattle.grain_global.specs.StepsView.{StepsView}
use Rattle.grain_means.specs.Worlds.{Act, Answer, End, Frame, Place, Setup, World}
use Rattle.grain_means.specs.Ends.{Ends}
use Rattle.grain_means.specs.Rules.Chains.{new_root}
use Rattle.grain_means.specs.Simulation.{Simulates, puts, stopped, world}
use Rattle.grain_means.specs.lemmas.LentPlaces.{found-new}
use Rattle.grain_means.specs.lemmas.Roots.{puts-bound}
use Rattle.grain_means.specs.lemmas.Stretches.{compose}
use Rattle.grain_chain.specs.Walking.{is_want, outcome_of}
use Rattle.grain_chain.specs.declared.requests.Request.{Request}
use Rattle.grain_frame.specs.Natives.{IsAt}
use Rattle.grain_frame.specs.Targets.{home_of}
use Rattle.grain_frame.specs.Waiting.{apart_of, asking, state_after, state_with}
use Rattle.grain_frame.specs.declared.runs.Run.{Run}
use Rattle.grain_frame.specs.declared.targets.Target.TheVariants as to
use Rattle.grain_frame.specs.declared.waiting.Loan.{Loan}
use Rattle.grain_frame.specs.declared.waiting.Loan.TheVariants as have
use Rattle.grain_vm.specs.Asks.{FinishesNative, raised_to}
use Rattle.grain_vm.specs.Driving.{IsApart, SameFlag, beside, name_in}
use Rattle.grain_vm.specs.Methods.{Hears, MethodOver, given_to}
use Rattle.grain_vm.specs.OnReceivers.{CallsNativeOn, heard_on, on_asking, receiver_after, roots_below}
use Rattle.grain_vm.specs.Receivers.{HearsRoot, NativeCalled, native_call}
use Rattle.grain_vm.specs.declared.driving.AskingNative.{AskingNative}
use Rattle.grain_vm.specs.declared.driving.Answered.TheVariants as answered
use Rattle.grain_vm.specs.declared.natives.LentCell.{LentCell}
use Rattle.grain_vm.specs.declared.natives.OnReceiver.{OnReceiver}
use Rattle.grain_vm.specs.declared.natives.OnReceiver.TheVariants as on
use Rattle.grain_vm.proofs.OnNatives.{take-new}
use Rattle.grain_vm.proofs.OnReceivers.{look-new, put-left, receiver_back}

-- ---- what a native was lent of a cell

-- the cells once it is back
abbrev pub cells_back : Option LentCell → Held → List Cell → List Cell
cells_back None l cells = cells
cells_back (Some c) l cells =
    slice_set cells c.cell (idle (record { value = l.value; read_only = c.read_only }))

abbrev pub run_back : {H : Type 0} → Option LentCell → Held → Run H → Run H
run_back back l s = record s { cells = cells_back back l s.cells }

-- it is taken from the roots, and the receiver is there again
heard_back : {S : Type 0} (back : Option LentCell) (heard : Answer → World S → Act S) (a : Answer)
    (w : World S) (roots : List Held) (l : Held) →
    heard_on back (length (roots_below back roots)) heard a
    (record w { roots = roots_below back roots ++ l ∷ [] })
    ≡ heard a (record w {
      cells = cells_back back l w.cells;
      roots = roots ++ receiver_after back l ∷ [];
    })
heard_back None heard a w roots l = refl
heard_back (Some c) heard a w roots l =
    let below : List Held = roots ++ c.receiver ∷ [] in
    ap (λ (x : Held). heard a (record w {
      cells = slice_set w.cells c.cell (idle (record { value = x.value; read_only = c.read_only }));
      roots = take (length below) (below ++ l ∷ []);
    })) (look-new below l)
    ∙ ap (λ (us : List Held). heard a (record w {
      cells = slice_set w.cells c.cell (idle (record { value = l.value; read_only = c.read_only }));
      roots = us;
    })) (take-new below l)

-- ---- the native is over

module _ {H : Type 0} (m : Setup H) (native : AskingNative) (g l : Held) (s1 s2 : Run H)
    (n1 n2 : StepsView) (host1 host2 : H) (o : Result Dynamic EvalAltResult) (left : Option Held)
    (lent : native.lent ≡ have.Apart g) (is_left : left ≡ Some l) (flag : l.read_only ≡ g.read_only)
  where
    -- what it was lent was at the code's `this`
    abbrev Finished : Loan → Type 0
    Finished loan =
        (f : Option Place → Frame) (heard : Hears H) (scope : List Entry) (x : Option Held) →
        IsAt m f native.pos →
        Simulates m (state_with loan scope x s1 n1 host1)
        (asking (home_of to.This) s1 native.asked loan f (raised_to heard)) (is_want o)
        (state_after loan left scope x s2 n2 host2) (λ m place w. heard m place (outcome_of o) w)

    -- so it is where that is a root of its own
    ended_at : Finished (have.Apart g) → (back : Option LentCell) (f : Option Place → Frame) →
        IsAt m f native.pos → (scope : List Entry) (this : Option Held) (heard : HearsRoot H) →
        Simulates m (beside scope this s1 n1 host1) (on_asking native.asked f g back heard) (is_want o)
        (beside scope this (run_back back l s2) n2 host2)
        (λ m place w. heard m place (length w.roots) (outcome_of o)
        (record w { roots = w.roots ++ receiver_after back l ∷ [] }))
    ended_at finished back f at scope this heard = record {
      order = (finished f (λ m place a w. End a w) scope this at).order;
      leads = λ stop clear halts u place bound.
          let below : List Held = roots_below back u.roots in
          let bs : List Held = below ++ g ∷ [] in
          let spot : Option Place = Some (new_root below) in
          let deaf : Hears H = λ r q a w.
          heard_on back (length below) (heard r place (length u.roots)) a w in
          let led = (finished (λ q. f place) deaf scope this (λ q. at place)).leads stop clear halts
          (record u { roots = bs }) spot (found-new below g) in
          let there : puts bs spot left ≡ below ++ l ∷ [] =
          ap (puts bs spot) is_left ∙ put-left below g l flag in
          let same = puts-bound u.roots place this bound in (
            rw same bound,
            λ a w run. led.1 a w
                (subst (λ (us : List Held). Ends (stopped m stop) (deaf (stopped m stop) spot (outcome_of o)
                (record (world (beside scope left s2 n2 host2) u) { roots = us })) a w) (sym there)
                (rw (heard_back back (heard (stopped m stop) place (length u.roots)) (outcome_of o)
                (world (beside scope left s2 n2 host2) u) u.roots l) (rw same at run))),
          );
    }

    pub ended_on : FinishesNative m (answered.Asks native) s1 n1 host1 o left s2 n2 host2 →
        (back : Option LentCell) (f : Option Place → Frame) → IsAt m f native.pos →
        (scope : List Entry) (this : Option Held) (heard : HearsRoot H) →
        Simulates m (beside scope this s1 n1 host1) (on_asking native.asked f g back heard) (is_want o)
        (beside scope this (run_back back l s2) n2 host2)
        (λ m place w. heard m place (length w.roots) (outcome_of o)
        (record w { roots = w.roots ++ receiver_after back l ∷ [] }))
    ended_on finished = ended_at (subst Finished lent finished)

-- ---- the call on the receiver

-- a run that differs in its cells is over at once
pub cells_over : {H : Type 0} (s s' : Run H) → s' ≡ record s { cells = s'.cells } → MethodOver s s'
cells_over s s' is = rw is (record {
  scope = refl;
  saved = refl;
  level = refl;
  receivers = refl;
  room = refl;
  noted = refl;
  outer = refl;
  operands = refl;
  cursors = refl;
  totals = refl;
  handlers = refl;
  later = omega arith;
})

-- between two changes of the cells it was over
over_between : {H : Type 0} (s s1 s2 t : Run H) → s1 ≡ record s { cells = s1.cells } →
    MethodOver s1 s2 → t ≡ record s2 { cells = t.cells } → MethodOver s t
over_between {H = H} s s1 s2 t first over last =
    let at : MethodOver s s2 = both (subst (λ (q : Run H). MethodOver q s2) first over) in
    rw last (record {
      scope = at.scope;
      saved = at.saved;
      level = at.level;
      receivers = at.receivers;
      room = at.room;
      noted = at.noted;
      outer = at.outer;
      operands = at.operands;
      cursors = at.cursors;
      totals = at.totals;
      handlers = at.handlers;
      later = at.later;
    }) where
      both : MethodOver (record s { cells = s1.cells }) s2 → MethodOver s s2
      both over = record {
        scope = over.scope;
        saved = over.saved;
        level = over.level;
        receivers = over.receivers;
        room = over.room;
        noted = over.noted;
        outer = over.outer;
        operands = over.operands;
        cursors = over.cursors;
        totals = over.totals;
        handlers = over.handlers;
        later = over.later;
      }

-- what the code says of the call of a native on a receiver
pub record CalledNative {H : Type 0} (m : Setup H) (r : Request) (s : Run H) (n : StepsView) (host : H)
    (o : Result Dynamic EvalAltResult) (left : Option Held) (t : Run H) (n' : StepsView) (host' : H) :
    Type 0 where
  pub called : NativeCalled m r s n host o left t n' host'
  pub over : MethodOver s t
  pub lent : SameFlag r.receiver left
  pub before : n'.before ≡ n.before

module _ {H : Type 0} (m : Setup H) (r : Request) (s s1 : Run H) (n n1 : StepsView) (host host1 : H)
    (native : AskingNative) (back : Option LentCell)
    (calls : CallsNativeOn m r s n host (on.Asks native back) s1 n1 host1) where
  -- the native can go on
  pub apart_so : IsApart native.lent
  apart_so = subst (λ (y : Loan). IsApart y) (sym calls.1) tt

  -- what it was lent is there when it is over
  pub left_there : (left : Option Held) → SameFlag (apart_of native.lent) left → is_some left ≡ true
  left_there left flag =
      let l = receiver_back calls.0 left
      (subst (λ (y : Loan). SameFlag (apart_of y) left) calls.1 flag) in
      ap (λ (y : Option Held). is_some y) l.1

module _ {H : Type 0} (m : Setup H) (r : Request) (s s1 s2 : Run H) (n n1 n2 : StepsView)
    (host host1 host2 : H) (o : Result Dynamic EvalAltResult) (x : OnReceiver) (native : AskingNative)
    (back : Option LentCell) (left : Option Held) (is : x ≡ on.Asks native back)
    (calls : CallsNativeOn m r s n host x s1 n1 host1)
    (cells : s1 ≡ record s { cells = s1.cells }) (began : n1.before ≡ n.before) where
  asks : CallsNativeOn m r s n host (on.Asks native back) s1 n1 host1
  asks = subst (λ (y : OnReceiver). CallsNativeOn m r s n host y s1 n1 host1) is calls

  -- it went on until it was over
  module _ (finishes : FinishesNative m (answered.Asks native) s1 n1 host1 o left s2 n2 host2)
      (over : MethodOver s1 s2) (flag : SameFlag (apart_of native.lent) left)
      (before : n2.before ≡ n1.before) where
    held_back : (l : Held) × (left ≡ Some l) × (l.read_only ≡ asks.0.read_only)
    held_back =
        receiver_back asks.0 left (subst (λ (y : Loan). SameFlag (apart_of y) left) asks.1 flag)

    flag_after : (b : Option LentCell) (l : Held) → l.read_only ≡ asks.0.read_only →
        SameFlag r.receiver (Some (receiver_after b asks.0)) →
        SameFlag r.receiver (Some (receiver_after b l))
    flag_after b l same lent = by b r.receiver lent where
      by : (b : Option LentCell) (h : Option Held) → SameFlag h (Some (receiver_after b asks.0)) →
          SameFlag h (Some (receiver_after b l))
      by b None lent = absurd lent
      by None (Some h) lent = same ∙ lent
      by (Some c) (Some h) lent = lent

    ended : (got : Option Held) (t : Run H) → got ≡ Some (receiver_after back held_back.0) →
        t ≡ run_back back held_back.0 s2 → CalledNative m r s n host o got t n2 host2
    ended got t is_got is_run = record {
      called = λ h y f is_h is_y at scope this heard.
          subst (λ (z : Held). Simulates m (beside scope this s n host)
          (λ m place w. native_call f (name_in r.what) (given_to r.arguments) m place
          (heard m place (length w.roots)) (new_root w.roots) (record w { roots = w.roots ++ h ∷ [] }))
          (is_want o) (beside scope this t n2 host2)
          (λ m place w. heard m place (length w.roots) (outcome_of o)
          (record w { roots = w.roots ++ z ∷ [] }))) (some_same (sym is_got ∙ is_y))
          (subst (λ (q : Run H). Simulates m (beside scope this s n host)
          (λ m place w. native_call f (name_in r.what) (given_to r.arguments) m place
          (heard m place (length w.roots)) (new_root w.roots) (record w { roots = w.roots ++ h ∷ [] }))
          (is_want o) (beside scope this q n2 host2)
          (λ m place w. heard m place (length w.roots) (outcome_of o)
          (record w { roots = w.roots ++ receiver_after back held_back.0 ∷ [] }))) (sym is_run)
          (compose {one = false} (asks.4 h f is_h at scope this heard)
          (ended_on m native asks.0 held_back.0 s1 s2 n1 n2 host1 host2 o left asks.1 held_back.1
          held_back.2 finishes back f (λ place. at place ∙ sym asks.2) scope this heard) tt));
      over = over_between s s1 s2 t cells over
          (subst (λ (q : Run H). q ≡ record s2 { cells = q.cells }) (sym is_run) refl);
      lent = subst (λ (y : Option Held). SameFlag r.receiver y) (sym is_got)
          (flag_after back held_back.0 held_back.2 asks.3);
      before = before ∙ began;
    } where
      some_same : {a b : Held} → Some a ≡ Some b → a ≡ b
      some_same e = cc

    -- the receiver was no cell
    pub ended_plain : back ≡ None → CalledNative m r s n host o left s2 n2 host2
    ended_plain none =
        ended left s2
        (held_back.1 ∙ ap (λ (b : Option LentCell). Some (receiver_after b held_back.0)) (sym none))
        (ap (λ (b : Option LentCell). run_back b held_back.0 s2) (sym none))

    -- it was a cell, and what it holds is back
    pub ended_cell : (c : LentCell) (got : Option Held) (t : Run H) → back ≡ Some c →
        got ≡ Some c.receiver → ((k : Held) → left ≡ Some k → t ≡ record s2 {
          cells =
              slice_set s2.cells c.cell (idle (record { value = k.value; read_only = c.read_only }));
        }) → CalledNative m r s n host o got t n2 host2
    ended_cell c got t some receiver put =
        ended got t
        (receiver ∙ ap (λ (b : Option LentCell). Some (receiver_after b held_back.0)) (sym some))
        (put held_back.0 held_back.1
        ∙ ap (λ (b : Option LentCell). run_back b held_back.0 s2) (sym some))
