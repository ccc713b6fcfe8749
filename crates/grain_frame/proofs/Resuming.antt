-- The host hears of a call that it asked for, and goes on or is over.
use Rattle.std.proofs.Common.{◌≡◌, ◌∙◌, ◌+◌, ℕ, List, [], Option, Bool, true, false, Result, Err, if◌then◌else◌, refl, sym, ap, arith}
use Rattle.grain_value.specs.Operands.{read_write}
use Rattle.grain_value.specs.declared.scopes.Entry.{Entry}
use Rattle.grain_value.specs.declared.values.Dynamic.{Dynamic}
use Rattle.grain_value.specs.declared.values.Held.{Held}
use Rattle.std.specs.Prelude.{option_map}
use Rattle.grain_fault.specs.Positions.{at_position_if_none}
use Rattle.grain_fault.specs.Problems.{NoMemory, Problem, problem_of}
use Rattle.grain_fault.specs.declared.faults.EvalAltResult.{EvalAltResult}
use Rattle.grain_fault.specs.declared.faults.EvalAltResult.TheVariants as fault
use Rattle.grain_fault.specs.declared.places.Position.{Position}
use Rattle.grain_fault.specs.declared.traces.Fault.{Fault}
use Rattle.grain_host.specs.Law.{Law, Outcome, Reply, rewritten}
use Rattle.grain_host.specs.Law as reply
use Rattle.grain_global.specs.StepsView.{StepsView}
use Rattle.grain_means.specs.Worlds.{Act, Answer, Callback, End, Frame, Go, InHost, Place, Receiver, Setup, Then, World}
use Rattle.grain_means.specs.Worlds as worlds
use Rattle.grain_means.specs.Rules.{cells_with, is_stop, lent_held, position, receiver_rewritten, roots_with, scope_with, told, trace_kept, went_on, with_token}
use Rattle.grain_means.specs.Simulation.{Binds, Environment, after, puts, stopped, world}
use Rattle.grain_means.specs.lemmas.Stretches.{continued}
use Rattle.grain_frame.specs.Natives.{IsAt}
use Rattle.grain_frame.specs.Targets.{content_at, home_of, put_in}
use Rattle.grain_frame.specs.Waiting.{IsKept, LeavesLent, TellsHost, answer_of, apart_of, asking, callback_in, given_back_run, held_of_lent, receiver_in, state_after, state_with}
use Rattle.grain_frame.specs.declared.native_calls.Asked.{Asked}
use Rattle.grain_frame.specs.declared.runs.Run.{Run}
use Rattle.grain_frame.specs.declared.targets.Target.{Target}
use Rattle.grain_frame.specs.declared.targets.Target.TheVariants as to
use Rattle.grain_frame.specs.declared.waiting.Loan.{Loan}
use Rattle.grain_frame.specs.declared.waiting.Loan.TheVariants as have
use Rattle.grain_frame.specs.declared.waiting.Resumed.TheVariants as went
use Rattle.grain_frame.specs.lemmas.Bound.{while_bound}
use Rattle.grain_frame.proofs.Returning.{KeepsFlag, asks_world, out_world, over_world, with_left}
use Rattle.grain_frame.proofs.Telling.{told_out, told_so}
use Rattle.grain_frame.proofs.ToldRuns.{asks_run, over_run}

-- what the host writes keeps its flag
rewritten_flag : {H : Type 0} (law : Law H) (host : H) (token : ℕ) (o : Outcome) (h : Held) →
    (rewritten law host token o h).read_only ≡ h.read_only
rewritten_flag law host token o h = at (law.token_writes host token) where
  at : (b : Bool) →
      (if b then record h { value = law.resume_written host token o h } else h).read_only
      ≡ h.read_only
  at true = refl
  at false = refl

module _ {H : Type 0} (law : Law H) (token : ℕ) (o : Outcome) (s : Run H) (host : H) where
  flag_told : (l : Loan) (left : Option Held) →
      left ≡ option_map (rewritten law host token o) (held_of_lent s l) → KeepsFlag s l left
  flag_told have.Nothing left is = rw is tt
  flag_told (have.Target t) left is =
      rw is (rewritten_flag law host token o (read_write (content_at s t)))
  flag_told (have.Cell n g) left is = rw is (rewritten_flag law host token o g)
  flag_told (have.Apart g) left is = rw is (rewritten_flag law host token o g)

  -- what the meaning lends is what the code lends
  lent_is : (l : Loan) (place : Option Place) →
      lent_held (receiver_in (home_of to.This) s l place) ≡ held_of_lent s l
  lent_is have.Nothing place = refl
  lent_is (have.Target t) place = refl
  lent_is (have.Cell n g) place = refl
  lent_is (have.Apart g) place = refl

  left_is : (l : Loan) (left : Option Held) (place : Option Place) →
      left ≡ option_map (rewritten law host token o) (held_of_lent s l) →
      with_left (receiver_in (home_of to.This) s l place) left
      ≡ receiver_rewritten law host token o (receiver_in (home_of to.This) s l place)
  left_is have.Nothing left place is = refl
  left_is (have.Target t) left place is = rw is refl
  left_is (have.Cell n g) left place is = rw is refl
  left_is (have.Apart g) left place is = rw is refl

flag_still : {H : Type 0} (s : Run H) (l : Loan) (left : Option Held) → left ≡ held_of_lent s l →
    KeepsFlag s l left
flag_still s have.Nothing left is = rw is tt
flag_still s (have.Target t) left is = rw is refl
flag_still s (have.Cell n g) left is = rw is refl
flag_still s (have.Apart g) left is = rw is refl

put_trace : {H : Type 0} (s : Run H) (t : Target) (h : Held) → put_in s t h
    ≡ record (put_in s t h) { stacks = record (put_in s t h).stacks { trace = s.stacks.trace } }
put_trace s (to.Entry i) h = refl
put_trace s (to.Cell n) h = refl
put_trace s to.This h = refl

-- the trace is as it was
pub same_trace : {H : Type 0} (s : Run H) (l : Loan) (left : Option Held) (l' : Loan) (s1 : Run H) →
    LeavesLent s l left l' s1 →
    s1 ≡ record s1 { stacks = record s1.stacks { trace = s.stacks.trace } }
same_trace s have.Nothing left l' s1 leaves = rw leaves.2 refl
same_trace s (have.Target t) left l' s1 leaves = rw leaves.3 (put_trace s t leaves.0)
same_trace s (have.Cell n g) left l' s1 leaves = rw leaves.3 refl
same_trace s (have.Apart g) left l' s1 leaves = rw leaves.3 refl

module _ {H : Type 0} (law : Law H) (token : ℕ) (o : Outcome) (l : Loan) (q : Position) (s : Run H)
    (n : StepsView) (host : H) (kept : IsKept s l) (left : Option Held) (l' : Loan) (s1 : Run H)
    (mid : H) (leaves : LeavesLent s l left l' s1) where
  abbrev traced : List Fault → Run H
  traced trace = record s1 { stacks = record s1.stacks { trace = trace } }

  abbrev heard_counts : StepsView
  heard_counts = record n { passed = n.passed + 1 + 1 }

  -- the host answered
  module _ (said : Reply) (says : said ≡ law.resume_reply host token o (held_of_lent s l))
      (mid_is : mid ≡ law.resume_after host token o (held_of_lent s l))
      (left_told : left ≡ option_map (rewritten law host token o) (held_of_lent s l)) where
    -- up to what follows from the answer
    answered : (m : Setup H) (f : Option Place → Frame) (a : Asked) (scope : List Entry)
        (x : Option Held) → m.law ≡ law → a.token ≡ token → (u : Environment)
        (place : Option Place) → is_stop m.stop n.passed ≡ false →
        is_stop m.stop (n.passed + 1) ≡ false →
        told m (callback_in (home_of to.This) s a l f place) o
        (record (world (state_with l scope x s n host) u) { tokens = with_token token u.tokens })
        ≡ went_on m (record (callback_in (home_of to.This) s a l f place) {
          receiver = with_left (receiver_in (home_of to.This) s l place) left;
        }) said (record (world (state_with l scope x s n host) u) {
          host = mid;
          scope = scope_with (with_left (receiver_in (home_of to.This) s l place) left)
              (state_with l scope x s n host).scope;
          roots = roots_with (with_left (receiver_in (home_of to.This) s l place) left) u.roots;
          trace = trace_kept said s.stacks.trace;
          passed = n.passed + 1 + 1;
        })
    answered m f a scope x own is u place first second =
        let c = callback_in (home_of to.This) s a l f place in
        let w = world (state_with l scope x s n host) u in
        let r = receiver_in (home_of to.This) s l place in
        let says_so : said ≡ m.law.resume_reply host a.token o (lent_held r) =
        rw (own, is, lent_is law token o s host l place) says in
        let left_so : with_left r left ≡ receiver_rewritten m.law host a.token o r =
        rw (own, is) (left_is law token o s host l left place left_told) in
        let goes : m.law.resume_after host a.token o (lent_held r) ≡ mid =
        rw (own, is, lent_is law token o s host l place) (sym mid_is) in
        ap (λ (k : ℕ). told m c o (record w { tokens = with_token k u.tokens })) (sym is)
        ∙ (told_so m c o w said (with_left r left) first second says_so left_so
        ∙ ap (λ (h : H). went_on m (record c { receiver = with_left r left }) said (record w {
          host = h;
          scope = scope_with (with_left r left) (state_with l scope x s n host).scope;
          roots = roots_with (with_left r left) u.roots;
          trace = trace_kept said s.stacks.trace;
          passed = n.passed + 1 + 1;
        })) goes)

    -- it is over
    pub tells_over : (ans : Result Dynamic EvalAltResult) (trace : List Fault) (e : Run H)
        (given : Option Held) → e ≡ given_back_run l' (traced trace) → given ≡ apart_of l' →
        ((m : Setup H) (c : Callback) (w : World H) → position m c.frame ≡ q →
        w.trace ≡ s.stacks.trace → went_on m c said (record w { trace = trace_kept said w.trace })
        ≡ End (answer_of ans) (record w { trace = trace; cells = cells_with c.receiver w.cells })) →
        TellsHost law token o l q s n host (went.Over ans given) e heard_counts mid
    tells_over ans trace e given is gives ends = record {
      same = λ m f a heard scope x own at is_token. rw gives (continued heard
          (while_bound (omega arith) (λ stop clear halts u place bound.
          over m f a scope x own at is_token stop
          (clear n.passed (omega arith) (omega arith))
          (clear (n.passed + 1) (omega arith) (omega arith)) u place bound)));
      run = over_run s trace ans l left l' s1 e given kept leaves
          (flag_told law token o s host l left left_told) is gives;
    } where
      over : (m : Setup H) (f : Option Place → Frame) (a : Asked) (scope : List Entry)
          (x : Option Held) → m.law ≡ law → IsAt m f q → a.token ≡ token → (stop : Option ℕ) →
          is_stop stop n.passed ≡ false → is_stop stop (n.passed + 1) ≡ false →
          (u : Environment) (place : Option Place) →
          Binds u.roots place (state_with l scope x s n host).this →
          Binds (puts u.roots place (state_after l (apart_of l') scope x e heard_counts mid).this)
          place (state_after l (apart_of l') scope x e heard_counts mid).this
          × (told (stopped m stop) (callback_in (home_of to.This) s a l f place) o
          (record (world (state_with l scope x s n host) u) { tokens = with_token token u.tokens })
          ≡ End (answer_of ans) (world (state_after l (apart_of l') scope x e heard_counts mid)
          (after u place (state_after l (apart_of l') scope x e heard_counts mid).this)))
      over m f a scope x own at is_token stop first second u place bound =
          let r = with_left (receiver_in (home_of to.This) s l place) left in
          let w = world (state_with l scope x s n host) u in
          let back = over_world s u place scope x n host mid (n.passed + 1 + 1) trace l left l' s1 e
          kept leaves (flag_told law token o s host l left left_told) is bound in (
            back.0,
            answered (stopped m stop) f a scope x own is_token u place first second
                ∙ (ends (stopped m stop)
                (record (callback_in (home_of to.This) s a l f place) { receiver = r })
                (record w {
                  host = mid;
                  scope = scope_with r (state_with l scope x s n host).scope;
                  roots = roots_with r u.roots;
                  passed = n.passed + 1 + 1;
                }) (at place) refl
                ∙ ap (λ (v : World H). End (answer_of ans) v) back.1),
          )

  -- it asks again
  pub tells_asks : (b : Asked) (e : Run H) →
      reply.Ask b.token b.pointer b.values ≡ law.resume_reply host token o (held_of_lent s l) →
      mid ≡ law.resume_after host token o (held_of_lent s l) →
      left ≡ option_map (rewritten law host token o) (held_of_lent s l) → e ≡ traced [] →
      TellsHost law token o l q s n host (went.Asks b l') e heard_counts mid
  tells_asks b e says mid_is left_told is = record {
    same = λ m f a heard scope x own at is_token.
        while_bound (omega arith) (λ stop clear halts u place bound.
        again m f a heard scope x own is_token stop
        (clear n.passed (omega arith) (omega arith))
        (clear (n.passed + 1) (omega arith) (omega arith)) u place bound);
    run = asks_run s [] b l left l' s1 e kept leaves
        (flag_told law token o s host l left left_told) is;
  } where
    again : (m : Setup H) (f : Option Place → Frame) (a : Asked)
        (heard : Setup H → Option Place → Answer → World H → Act H) (scope : List Entry)
        (x : Option Held) → m.law ≡ law → a.token ≡ token → (stop : Option ℕ) →
        is_stop stop n.passed ≡ false → is_stop stop (n.passed + 1) ≡ false →
        (u : Environment) (place : Option Place) →
        Binds u.roots place (state_with l scope x s n host).this →
        Binds (puts u.roots place (state_with l' scope x e heard_counts mid).this)
        place (state_with l' scope x e heard_counts mid).this
        × (Then (told (stopped m stop) (callback_in (home_of to.This) s a l f place) o
        (record (world (state_with l scope x s n host) u) { tokens = with_token token u.tokens }))
        (heard (stopped m stop) place)
        ≡ asking (home_of to.This) e b l' f heard (stopped m stop) place
        (world (state_with l' scope x e heard_counts mid)
        (after u place (state_with l' scope x e heard_counts mid).this)))
    again m f a heard scope x own is_token stop first second u place bound =
        let r = with_left (receiver_in (home_of to.This) s l place) left in
        let w = world (state_with l scope x s n host) u in
        let back = asks_world s u place scope x n host mid (n.passed + 1 + 1) [] l left l' s1 e
        kept leaves (flag_told law token o s host l left left_told) is bound in (
          back.0,
          ap (λ (t : Act H). Then t (heard (stopped m stop) place))
              (answered (reply.Ask b.token b.pointer b.values) says mid_is left_told
              (stopped m stop) f a scope x own is_token u place first second)
              ∙ (ap (λ (g : Option Receiver). asks (stopped m stop) place g (record w {
                host = mid;
                scope = scope_with r (state_with l scope x s n host).scope;
                roots = roots_with r u.roots;
                trace = [];
                passed = n.passed + 1 + 1;
              })) back.2
              ∙ ap (λ (v : World H). asks (stopped m stop) place
              (receiver_in (home_of to.This) e l' place) v) back.1),
        ) where
          asks : Setup H → Option Place → Option Receiver → World H → Act H
          asks m1 place1 g v = Then (Go (InHost (record {
            receiver = g;
            frame = f place1;
            token = b.token;
            pointer = b.pointer;
            values = b.values;
          })) (record v { tokens = with_token b.token v.tokens })) (heard m1 place1)

  -- memory is out before the host hears of it, and the host forgets the token
  pub tells_out : (e : Run H) (given : Option Held) (host' : H) → left ≡ held_of_lent s l →
      host' ≡ law.forget_after host token → e ≡ given_back_run l' s1 → given ≡ apart_of l' →
      TellsHost law token o l q s n host (went.Over (Err fault.Memory) given) e n host'
  tells_out e given host' still forgot is gives = record {
    same = λ m f a heard scope x own at is_token. rw gives (continued heard
        (while_bound (omega arith) (λ stop clear halts u place bound.
        out m f a scope x own is_token stop halts u place bound)));
    run = over_run s s.stacks.trace (Err fault.Memory) l left l' s1 e given kept leaves
        (flag_still s l left still)
        (is ∙ ap (λ (r : Run H). given_back_run l' r) (same_trace s l left l' s1 leaves)) gives;
  } where
    out : (m : Setup H) (f : Option Place → Frame) (a : Asked) (scope : List Entry)
        (x : Option Held) → m.law ≡ law → a.token ≡ token → (stop : Option ℕ) →
        is_stop stop n.passed ≡ true → (u : Environment) (place : Option Place) →
        Binds u.roots place (state_with l scope x s n host).this →
        Binds (puts u.roots place (state_after l (apart_of l') scope x e n host').this)
        place (state_after l (apart_of l') scope x e n host').this
        × (told (stopped m stop) (callback_in (home_of to.This) s a l f place) o
        (record (world (state_with l scope x s n host) u) { tokens = with_token token u.tokens })
        ≡ End (worlds.Failed NoMemory) (world (state_after l (apart_of l') scope x e n host')
        (after u place (state_after l (apart_of l') scope x e n host').this)))
    out m f a scope x own is_token stop halts u place bound =
        let c = callback_in (home_of to.This) s a l f place in
        let w = world (state_with l scope x s n host) u in
        let back = out_world s u place scope x n host host' l left l' s1 e kept leaves still is
        bound in
        let gone : m.law.forget_after host a.token ≡ host' = rw (own, is_token) (sym forgot) in (
          back.0,
          ap (λ (k : ℕ). told (stopped m stop) c o (record w { tokens = with_token k u.tokens }))
              (sym is_token)
              ∙ (told_out (stopped m stop) c o w halts
              ∙ (ap (λ (h : H). End (worlds.Failed NoMemory) (record w {
                host = h;
                cells = cells_with c.receiver s.cells;
              })) gone
              ∙ ap (λ (v : World H). End (worlds.Failed NoMemory) v) back.1)),
        )

-- a fault of the host's keeps the trace
pub fails_so : {H : Type 0} (m : Setup H) (c : Callback) (w : World H) (y : Problem)
    (x : EvalAltResult) (q : Position) (trace : List Fault) → position m c.frame ≡ q →
    problem_of x ≡ at_position_if_none q y → w.trace ≡ trace →
    went_on m c (reply.Failed y) w ≡ End (answer_of (Err x))
    (record w { trace = trace; cells = cells_with c.receiver w.cells })
fails_so {H = H} m c w y x q trace at is untouched =
    ap (λ (z : Problem). End (worlds.Failed z)
    (record w { cells = cells_with c.receiver w.cells }))
    (ap (λ (p : Position). at_position_if_none p y) at ∙ sym is)
    ∙ ap (λ (t : List Fault). End (answer_of (Err x))
    (record w { trace = t; cells = cells_with c.receiver w.cells })) untouched
