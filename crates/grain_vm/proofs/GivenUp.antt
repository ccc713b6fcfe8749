-- Memory is out before what a native asks for could begin: the host hears no more of it, and the walk that
-- called the native goes on from want of memory.
use Rattle.std.proofs.Common.{◌≡◌, ◌∙◌, ℕ, List, [], Option, Some, None, Bool, true, false, length, option_map, nat_eq, refl, sym, ap, subst, arith}
use Rattle.std.specs.Prelude.{nat_lt}
use Rattle.std.proofs.lemmas.Bool.{eqb-false}
use Rattle.grain_value.specs.declared.scopes.Entry.{Entry}
use Rattle.grain_value.specs.declared.stores.Cell.{Cell}
use Rattle.grain_value.specs.declared.values.Held.{Held}
use Rattle.grain_fault.specs.Problems.{NoMemory}
use Rattle.grain_fault.specs.declared.traces.Fault.{Fault}
use Rattle.grain_program.specs.declared.code.functions.Function.{Function}
use Rattle.grain_global.specs.StepsView.{StepsView}
use Rattle.grain_means.specs.Worlds.{is_stop, Act, Answer, Callback, End, Failed, Frame, Place, Setup, World}
use Rattle.grain_means.specs.Tasks.{Task}
use Rattle.grain_means.specs.Ends.{Ends, ended, joined, went}
use Rattle.grain_means.specs.Rules.{arguments_back, called_back_over, callee_called_back, calling_back, cells_with, function_back, native_called_back, position, with_token, without_token}
use Rattle.grain_means.specs.Rules.InWorld.{placed}
use Rattle.grain_means.specs.Simulation.{Binds, Simulates, puts, stopped, world}
use Rattle.grain_means.specs.lemmas.Roots.{puts-bound}
use Rattle.grain_means.specs.lemmas.Spreading.{spread}
use Rattle.grain_frame.specs.Waiting.{apart_of, given_back_run}
use Rattle.grain_frame.specs.declared.runs.Run.{Run}
use Rattle.grain_frame.specs.declared.waiting.Loan.{Loan}
use Rattle.grain_frame.specs.declared.waiting.Loan.TheVariants as have
use Rattle.grain_vm.specs.Driving.{IsApart, beside}
use Rattle.grain_vm.specs.Seats.{Rests, Seat, base_count, base_place, base_roots, kept_by, lent_place, walk_asking, walk_seated}
use Rattle.grain_vm.specs.declared.driving.AskingNative.{AskingNative}
use Rattle.grain_vm.proofs.Invoking.{under_out}
use Rattle.grain_vm.proofs.Lifted.{over_in, untraced}
use Rattle.grain_vm.proofs.Missing.{kept_none, trace_came}

-- ---- in the meaning

same_token : (token : ℕ) → nat_eq token token ≡ true
same_token token = at (nat_eq token token) refl where
  at : (b : Bool) → nat_eq token token ≡ b → nat_eq token token ≡ true
  at true e = e
  at false e = absurd (eqb-false token token e refl)

-- a token that was given last is taken back
taken_back : (token : ℕ) (tokens : Option (List ℕ)) →
    without_token token (with_token token tokens) ≡ tokens
taken_back token None = refl
taken_back token (Some ts) = rw (same_token token) refl

module _ {S : Type 0} (m : Setup S) (c : Callback) where
  native_out : (heard : Answer → World S → Act S) (w : World S) → is_stop m.stop w.passed ≡ true →
      native_called_back m heard c w ≡ heard (Failed NoMemory) w
  native_out heard w halts = by (nat_lt w.count m.engine.limits.operations) refl where
    by : (b : Bool) → nat_lt w.count m.engine.limits.operations ≡ b →
        native_called_back m heard c w ≡ heard (Failed NoMemory) w
    by true is = rw (is, halts) refl
    by false is = rw (is, halts) refl

  callee_out : (heard : Answer → World S → Act S) (o : Option Function) (w : World S) →
      is_stop m.stop w.passed ≡ true → callee_called_back m heard c o w ≡ heard (Failed NoMemory) w
  callee_out heard None w halts = native_out heard w halts
  callee_out heard (Some g) w halts =
      under_out m (position m c.frame) g (arguments_back c) heard None w halts

  -- the native is over, with that fault, and the host has forgotten the token
  back_out : (w : World S) → is_stop m.stop w.passed ≡ true →
      calling_back m c (record w { tokens = with_token c.token w.tokens })
      ≡ End (Failed NoMemory) (record w {
        host = m.law.forget_after w.host c.token;
        cells = cells_with c.receiver w.cells;
      })
  back_out w halts =
      callee_out (called_back_over m c) (function_back m.program m.engine.callbacks c)
      (record w { tokens = with_token c.token w.tokens }) halts
      ∙ ap (λ (ts : Option (List ℕ)). End (Failed NoMemory) (record w {
        host = m.law.forget_after w.host c.token;
        tokens = ts;
        cells = cells_with c.receiver w.cells;
      })) (taken_back c.token w.tokens)

-- what stands at a place is in no cell
none_back : (h : Option Held) (p : Option Place) (cells : List Cell) →
    cells_with (lent_place h p) cells ≡ cells
none_back None p cells = refl
none_back (Some h) None cells = refl
none_back (Some h) (Some p) cells = refl

-- ---- in the walk

pub gave_up : {H : Type 0} (m : Setup H) (k : ℕ) (f : Option Place → Frame) (seat : Seat)
    (done : Rests H) (named : Bool) (before : Option (List Fault)) (go : Answer → Task)
    (native : AskingNative) (s : Run H) (n : StepsView) (host : H) (g : Option Place → Frame)
    (q : Option Place) (rs : List Held) (scope : List Entry) (this : Option Held) →
    Binds rs q (apart_of native.lent) → Simulates m (beside scope this s n host)
    (walk_asking k f seat done native.asked g q (apart_of native.lent) named before go rs) true
    (beside scope this (untraced s) n (m.law.forget_after host native.asked.token))
    (walk_seated k f seat done None (go (Failed NoMemory)) (puts rs q (apart_of native.lent)))
gave_up {H = H} m k f seat done named before go native s n host g q rs scope this lent = record {
  order = omega arith;
  leads = λ stop clear halts u place bound.
      let r = stopped m stop in
      let p = base_place seat place u.roots in
      let us = spread (base_roots seat u.roots) p rs in
      let h = apart_of native.lent in
      let at = option_map (placed p (base_count seat (length u.roots))) q in
      let c : Callback = record {
        receiver = lent_place h at;
        frame = g place;
        token = native.asked.token;
        pointer = native.asked.pointer;
        values = native.asked.values;
      } in
      let w0 : World H = record (world (beside scope this s n host) u) { roots = us; trace = [] } in
      let w1 : World H = record w0 { host = m.law.forget_after host native.asked.token } in
      let over = back_out r c w0 halts ∙ ap (λ (cs : List Cell). End (Failed NoMemory) (record w1 {
        cells = cs;
      })) (none_back h at s.cells) in
      let stays = puts-bound u.roots place this bound in
      let goes : over_in k f seat done named before go u.roots r place (Failed NoMemory) w1
      ≡ walk_seated k f seat done None (go (Failed NoMemory)) (puts rs q h) r place
      (world (beside scope this (untraced s) n (m.law.forget_after host native.asked.token)) u) = rw (
        kept_none named,
        trace_came (kept_by named before) (Failed NoMemory) [] refl,
        puts-bound rs q h lent,
      ) refl in (
        rw stays bound,
        λ a w run. joined
            (went (subst (λ (x : Act H). Ends r x (Failed NoMemory) w1) (sym over) ended))
            (subst (λ (x : Act H). Ends r x a w) (sym goes) (rw stays at run)),
      );
}

-- nothing of the run was lent
apart_back : {H : Type 0} (l : Loan) (s : Run H) → IsApart l → given_back_run l s ≡ s
apart_back have.Nothing s apart = refl
apart_back (have.Target t) s apart = refl
apart_back (have.Cell c h) s apart = absurd apart
apart_back (have.Apart h) s apart = refl

-- and only the trace has gone
pub given_up_run : {H : Type 0} (l : Loan) (s s1 s' : Run H) → IsApart l →
    s' ≡ given_back_run l (untraced s1) → s1 ≡ s → s' ≡ untraced s
given_up_run l s s1 s' apart back same = back ∙ apart_back l (untraced s1) apart ∙ ap untraced same
