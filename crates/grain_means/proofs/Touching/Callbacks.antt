-- Roots through the calls that a native asks for: what it was lent is written, and nothing else.
use Rattle.std.proofs.Common.{◌+◌, ◌∙◌, ℕ, List, [], true, Option, Some, None, if◌then◌else◌, nat_le, length}
use Rattle.grain_value.specs.Cells.{flat}
use Rattle.grain_value.specs.declared.values.Dynamic.{Dynamic}
use Rattle.grain_value.specs.declared.values.Held.{Held}
use Rattle.grain_fault.specs.Problems.{Problem, Plain, DataRace, StackOverflow, NoMemory}
use Rattle.grain_fault.specs.declared.places.Position.{Position}
use Rattle.grain_host.specs.Law.{Law, Outcome, Reply, Value, Fault}
use Rattle.grain_host.specs.Law as reply
use Rattle.grain_program.specs.declared.code.functions.Function.{Function}
use Rattle.grain_means.specs.Rules as rules
use Rattle.grain_means.specs.Rules.{AtPlace, Home, InCell, InScope, Receiver, arguments_back, back_in_roots, flat_all, function_back, is_told, lent_held, position, race_text, receiver_rewritten, roots_with, scope_with, without_token}
use Rattle.grain_means.specs.Worlds.{Act, Answer, Came, Callback, Failed, Place, Setup, World}
use Rattle.grain_means.specs.lemmas.PlaceLaws.{length-put}
use Rattle.grain_means.proofs.Footing.{by_test}
use Rattle.grain_means.proofs.Touching.Passing.{Leaves, body_calls, body_fails, fails_or, lent_place, marks_or, natives, place_of, takes_operation, unheard_stands}
use Rattle.grain_means.proofs.Touching.Writes.{MayThis, Stands, set, stands_on}

module _ {S : Type 0} (m : Setup S) (t : Option Place) (old : List Held) where
  abbrev At : World S → Type 0
  At w = Stands t old w.roots

  abbrev Stays : Act S → Type 0
  Stays act = Leaves true t old act

  -- what was lent to a native of this call is at a place that may be written
  abbrev May : Callback → Type 0
  May c = MayThis t (length old) (lent_place c.receiver)

  -- what follows from an answer
  abbrev Hears : (Answer → World S → Act S) → Type 0
  Hears heard = (a : Answer) (w : World S) → At w → Stays (heard a w)

  -- a call, and what follows from its answer
  module _ (heard : Answer → World S → Act S) (hears : Hears heard) where
    fails_so : (x : Problem) (w : World S) → At w → Stays (rules.failed_so m heard x w)
    fails_so x w at =
        fails_or m true t old (Stands t old) (heard (Failed NoMemory)) (hears (Failed NoMemory))
        (λ y. heard (Failed y)) (λ y. hears (Failed y)) x w at

    -- a function
    calls_function : (q : Position) (g : Function) (args : List Held) (w : World S) → At w →
        Stays (rules.function_under m q g args heard None w)
    calls_function q g args w at =
        body_calls m true t old (Stands t old) (heard (Failed NoMemory)) (hears (Failed NoMemory))
        (λ x. heard (Failed x)) (λ x. hears (Failed x)) q g args None (λ from was given. tt)
        (rules.body_over m q g heard)
        (λ from was a u there. over a u (stands_on t None old from u.roots tt was there)) w at where
          over : (a : Answer) (u : World S) → At u → Stays (rules.body_over m q g heard a u)
          over (Came v) u here = hears (Came v) u here
          over (Failed x) u here =
              body_fails m true t old (Stands t old) (heard (Failed NoMemory)) (hears (Failed NoMemory))
              (λ y. heard (Failed y)) (λ y. hears (Failed y)) q g x u here

  -- a native that is called back
  module _ (heard : Answer → World S → Act S) (hears : Hears heard) (c : Callback) where
    calls_read : (o : Option (List Held)) (w : World S) → At w → Stays (rules.native_back m heard c o w)
    calls_read None w at =
        fails_so heard hears (Plain (DataRace (race_text [])) (position m c.frame)) w at
    calls_read (Some args) w at =
        natives m true t old (Stands t old) (heard (Failed NoMemory)) (hears (Failed NoMemory)) c.frame
        (λ v w1. heard (Came v) w1) (rules.failed_so m heard) (λ v. hears (Came v)) (fails_so heard hears)
        None (λ from now was there. stands_on t None old from now tt was there) c.pointer.name args w at

  module _ (heard : Answer → World S → Act S) (hears : Hears heard) (c : Callback) where
    calls_native : (w : World S) → At w → Stays (rules.native_called_back m heard c w)
    calls_native w at =
        takes_operation m true t old (Stands t old) (heard (Failed NoMemory)) (hears (Failed NoMemory))
        (λ x. heard (Failed x)) (λ x. hears (Failed x)) (position m c.frame) begins begun w at where
          over : ℕ → Answer → World S → Act S
          over level = rules.native_back_over m heard level

          higher : World S → World S
          higher w1 = record w1 { level = w1.level + 1 }

          begins : World S → Act S
          begins w1 =
              if nat_le m.engine.limits.levels w1.level
              then rules.failed_so m heard (Plain StackOverflow (position m c.frame)) w1
              else rules.native_back m (over w1.level) c (flat_all w1.cells (arguments_back c)) (higher w1)

          begun : (w1 : World S) → At w1 → Stays (begins w1)
          begun w1 there =
              by_test Stays (nat_le m.engine.limits.levels w1.level)
              (rules.failed_so m heard (Plain StackOverflow (position m c.frame)) w1)
              (rules.native_back m (over w1.level) c (flat_all w1.cells (arguments_back c)) (higher w1))
              (λ deep. fails_so heard hears (Plain StackOverflow (position m c.frame)) w1 there)
              (λ room. calls_read (over w1.level)
              (λ a u here. hears a (record u { level = w1.level }) here) c
              (flat_all w1.cells (arguments_back c)) (higher w1) there)

    calls_callee : (o : Option Function) (w : World S) → At w →
        Stays (rules.callee_called_back m heard c o w)
    calls_callee None w at = calls_native w at
    calls_callee (Some g) w at =
        calls_function heard hears (position m c.frame) g (arguments_back c) w at

  -- what was lent, as the host left it, is at the same place
  may_rewritten : (law : Law S) (s : S) (token : ℕ) (o : Outcome) (r : Option Receiver) →
      MayThis t (length old) (lent_place r) →
      MayThis t (length old) (lent_place (receiver_rewritten law s token o r))
  may_rewritten law s token o None may = tt
  may_rewritten law s token o (Some r) may = may

  writes_home : (a : Home) → MayThis t (length old) (place_of a) → (h : Held) (roots : List Held) →
      Stands t old roots → Stands t old (back_in_roots a h roots)
  writes_home (InScope i) may h roots at = at
  writes_home (InCell i) may h roots at = at
  writes_home (AtPlace p) may h roots at =
      (set p h.value may at.0, length-put roots p h.value ∙ at.1)

  writes_lent : (r : Option Receiver) → MayThis t (length old) (lent_place r) → (roots : List Held) →
      Stands t old roots → Stands t old (roots_with r roots)
  writes_lent None may roots at = at
  writes_lent (Some r) may roots at = writes_home r.home may r.held roots at

  -- the host answers, where it heard of the call
  goes_on : (c : Callback) → May c → (r : Reply) (w : World S) → At w → Stays (rules.went_on m c r w)
  goes_on c may (reply.Done v) w at = at
  goes_on c may (reply.Failed x) w at = at
  goes_on c may (reply.Ask token p values) w at = (at, may)

  answers_again : (c : Callback) → May c → (r : Reply) (w : World S) → At w →
      Stays (rules.answered_again m c r w)
  answers_again c may r w at =
      marks_or m true t old (Stands t old)
      (λ w1. rules.ended_so m c (Failed NoMemory) (rules.unheard m.law r w1))
      (λ w1 there. unheard_stands (Stands t old) m.law r w1 there)
      (record w { trace = rules.trace_kept r w.trace }) (rules.went_on m c r) at
      (goes_on c may r (record w { passed = w.passed + 1; trace = rules.trace_kept r w.trace }) at)

  hears_of : (c : Callback) → May c → (o : Outcome) (w : World S) → At w → Stays (rules.told m c o w)
  hears_of c may o w at =
      marks_or m true t old (Stands t old) (rules.given_up m c (Failed NoMemory)) (λ w1 there. there) w
      (λ w1.
      let r = receiver_rewritten m.law w1.host c.token o c.receiver in
      rules.answered_again m (record c { receiver = r })
      (m.law.resume_reply w1.host c.token o (lent_held c.receiver)) (record w1 {
        host = m.law.resume_after w1.host c.token o (lent_held c.receiver);
        scope = scope_with r w1.scope;
        roots = roots_with r w1.roots;
        tokens = without_token c.token w1.tokens;
      })) at
      (let r = receiver_rewritten m.law w.host c.token o c.receiver in
      let lends = may_rewritten m.law w.host c.token o c.receiver may in
      answers_again (record c { receiver = r }) lends
      (m.law.resume_reply w.host c.token o (lent_held c.receiver)) (record w {
        passed = w.passed + 1;
        host = m.law.resume_after w.host c.token o (lent_held c.receiver);
        scope = scope_with r w.scope;
        roots = roots_with r w.roots;
        tokens = without_token c.token w.tokens;
      }) (writes_lent r lends w.roots at))

  hears_value : (c : Callback) → May c → (o : Option Dynamic) (w : World S) → At w →
      Stays (rules.value_told m c o w)
  hears_value c may None w at =
      let x : Problem = Plain (DataRace (race_text [])) (position m c.frame) in
      marks_or m true t old (Stands t old) (rules.given_up m c (Failed NoMemory)) (λ w1 there. there) w
      (rules.told m c (Fault x)) at (hears_of c may (Fault x) (record w { passed = w.passed + 1 }) at)
  hears_value c may (Some v) w at = hears_of c may (Value v) w at

  is_over : (c : Callback) → May c → Hears (rules.called_back_over m c)
  is_over c may (Came v) w at = hears_value c may (flat w.cells v) w at
  is_over c may (Failed x) w at =
      by_test Stays (is_told x) (rules.told m c (Fault x) w) (rules.given_up m c (Failed x) w)
      (λ hears. hears_of c may (Fault x) w at) (λ not. at)

  -- a call that a native asked for
  pub calls_back : (c : Callback) → May c → (w : World S) → At w → Stays (rules.calling_back m c w)
  calls_back c may w at =
      calls_callee (rules.called_back_over m c) (is_over c may) c
      (function_back m.program m.engine.callbacks c) w at
