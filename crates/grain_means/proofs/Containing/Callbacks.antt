-- Calls that natives ask for keep to the store. What a native has is lent as long as they last.
use Rattle.std.proofs.Common.{◌≡◌, ◌≤◌, ◌+◌, ℕ, List, [], ◌∷◌, Option, Some, None, Bool, true, false, if◌then◌else◌, ◌&&◌, nat_le, not, map, refl, sym, subst, arith}
use Rattle.std.proofs.Math.Nat.{max-le}
use Rattle.std.specs.Prelude.{max}
use Rattle.grain_value.specs.Cells.{flat, is_cell, is_clean}
use Rattle.grain_value.specs.Operands.{read_write}
use Rattle.grain_value.specs.View.{tree, value_of}
use Rattle.grain_value.specs.declared.values.Dynamic.{Dynamic}
use Rattle.grain_value.specs.declared.values.Held.{Held}
use Rattle.grain_value.specs.declared.values.paths.PathStep.{PathStep}
use Rattle.grain_fault.specs.Positions.{at_position_if_none}
use Rattle.grain_fault.specs.Problems.{Problem, Plain, DataRace, NoMemory, StackOverflow}
use Rattle.grain_host.specs.Clean.{both_true}
use Rattle.grain_host.specs.Law.{Law, Reply, Outcome, Value, Fault, outcome_bound, outcome_is_plain, receiver_bound, receiver_is_plain, resume_bound, resume_is_clean}
use Rattle.grain_host.specs.Law as reply
use Rattle.grain_program.specs.declared.code.functions.Function.{Function}
use Rattle.grain_means.specs.Contained.{AnswerNames, HeldNames}
use Rattle.grain_means.specs.Rules as rules
use Rattle.grain_means.specs.Rules.{Home, InScope, InCell, AtPlace, Receiver, arguments_back, back_in_roots, back_in_scope, curried_in, flat_all, function_back, is_told, lent_held, race_text, receiver_rewritten, roots_with, scope_with, unheard}
use Rattle.grain_means.specs.Worlds.{Act, Answer, Came, Failed, Callback, Setup, World}
use Rattle.grain_means.proofs.Caught.{filled_names}
use Rattle.grain_means.proofs.Footing.{by_test}
use Rattle.grain_means.proofs.Inside.{MayPut}
use Rattle.grain_means.proofs.Naming.{all_joined, curried_names, curry_names, flat_all_names, flat_names, held_wider, not_cell, plain_tree}
use Rattle.grain_means.proofs.Containing.Parts.{HomeNames, Operands, ReceiverNames, ReplyNames, home_clear, home_names, home_written}
use Rattle.grain_means.proofs.Containing.Keeping.{Kept, Since}
use Rattle.grain_means.proofs.Containing.Leaving.{Bases, At, Leaves, entry_kept, marks_or, root_put, takes_operation}
use Rattle.grain_means.proofs.Containing.Lending.{CallbackNames, asked_pointer, asked_values, lent_since, receiver_idle}
use Rattle.grain_means.proofs.Containing.Natives.{forgets, not_heard}
use Rattle.grain_means.proofs.Containing.Walks.{Hears, fails_so, lends_native, under}

-- over a longer store
module _ (clean : Bool) (n k : ℕ) (le : n ≤ k) where
  may_wider : (path : List PathStep) (v : Dynamic) → MayPut clean n path v → MayPut clean k path v
  may_wider [] v h = h
  may_wider (s ∷ p) v h = h

  home_wider : (a : Home) (h : Held) → HomeNames clean n a h → HomeNames clean k a h
  home_wider (InScope i) h p = (held_wider clean n k le h p.0, p.1)
  home_wider (InCell i) h p = (held_wider clean n k le h p.0, p.1)
  home_wider (AtPlace q) h p = (held_wider clean n k le h p.0, may_wider q.path h.value p.1)

  receiver_wider : (r : Option Receiver) → ReceiverNames clean n r → ReceiverNames clean k r
  receiver_wider None h = tt
  receiver_wider (Some q) h = home_wider q.home q.held h

  callback_wider : (c : Callback) → CallbackNames clean n c → CallbackNames clean k c
  callback_wider c h = (
    receiver_wider c.receiver h.0,
    (omega (arith, h.1.0, le), h.1.1),
    (omega (arith, h.2.0, le), h.2.1),
  )

-- what a host hears of names cells of the store only, and is plain
abbrev OutcomeNames : Bool → ℕ → Outcome → Type 0
OutcomeNames clean n o = (outcome_bound o ≤ n) × (clean ≡ true → outcome_is_plain o ≡ true)

-- what a native wrote is lent as it was
same_since : {S : Type 0} (law : Law S) (s : S) (token : ℕ) (o : Outcome) (r : Option Receiver)
    (since : Since) → lent_since (receiver_rewritten law s token o r) since ≡ lent_since r since
same_since law s token o None since = refl
same_since law s token o (Some q) since = refl

module _ {S : Type 0} {m : Setup S} (on : Bases m) where
  open on use {lawful, clean, least, since}

  -- on what calls are done for which this is lent
  abbrev lending : Option Receiver → Bases m
  lending r = record on { since = lent_since r since }

  module _ (n : ℕ) (low : least ≤ n) where
    -- the native is over
    ended : (c : Callback) (a : Answer) (w : World S) → At (lending c.receiver) n w →
        ReceiverNames clean n c.receiver → AnswerNames clean n a →
        Leaves m clean since n (rules.ended_so m c a w)
    ended c a w at names named = (n, omega arith, receiver_idle c.receiver names at, named)

    gives_up : (c : Callback) (a : Answer) (w : World S) → At (lending c.receiver) n w →
        ReceiverNames clean n c.receiver → AnswerNames clean n a →
        Leaves m clean since n (rules.given_up m c a w)
    gives_up c a w at names named =
        ended c a (record w {
          host = m.law.forget_after w.host c.token;
          tokens = rules.without_token c.token w.tokens;
        }) (forgets (lending c.receiver) n c.token w at) names named

    gives_up_out : (c : Callback) → ReceiverNames clean n c.receiver → (w : World S) →
        At (lending c.receiver) n w → Leaves m clean since n (rules.given_up m c (Failed NoMemory) w)
    gives_up_out c names w at = gives_up c (Failed NoMemory) w at names (omega arith, λ s. refl)

    -- the host answered
    goes_on : (c : Callback) (r : Reply) (w : World S) → At (lending c.receiver) n w →
        CallbackNames clean n c → ReplyNames clean n r →
        Leaves m clean since n (rules.went_on m c r w)
    goes_on c (reply.Done v) w at seated bound =
        ended c (Came v) w at seated.0 bound
    goes_on c (reply.Failed x) w at seated bound =
        ended c (Failed (at_position_if_none (rules.position m c.frame) x)) w at seated.0
        (filled_names clean n (rules.position m c.frame) x bound)
    goes_on c (reply.Ask token p values) w at seated bound = (
      n,
      omega arith,
      at,
      (
        seated.0,
        asked_pointer clean n token p values bound,
        asked_values clean n token p values bound,
      ),
      tt,
    )

    answers : (c : Callback) (r : Reply) (w : World S) → At (lending c.receiver) n w →
        CallbackNames clean n c → ReplyNames clean n r →
        Leaves m clean since n (rules.answered_again m c r w)
    answers c r w at seated bound =
        marks_or (lending c.receiver) since n
        (λ v. rules.ended_so m c (Failed NoMemory) (unheard m.law r v))
        (λ v there. ended c (Failed NoMemory) (unheard m.law r v)
        (not_heard (lending c.receiver) n r v there) seated.0 (omega arith, λ s. refl))
        (record w { trace = rules.trace_kept r w.trace }) (rules.went_on m c r) at
        (goes_on c r (record w { passed = w.passed + 1; trace = rules.trace_kept r w.trace }) at seated
        bound)

    -- what the host hears of, and what it has
    module _ (c : Callback) (seated : CallbackNames clean n c) (o : Outcome)
        (bound : OutcomeNames clean n o) (w : World S) (at : At (lending c.receiver) n w) where
      abbrev inner : Bases m
      inner = lending c.receiver

      resume_names : resume_bound m.law w.host o (lent_held c.receiver) ≤ n
      resume_names =
          max-le {a = m.law.reach w.host}
          {b = max (receiver_bound (lent_held c.receiver)) (outcome_bound o)} at.reaches
          (max-le {a = receiver_bound (lent_held c.receiver)} {b = outcome_bound o}
          (own c.receiver seated.0) bound.0) where
            own : (r : Option Receiver) → ReceiverNames clean n r → receiver_bound (lent_held r) ≤ n
            own None h = omega arith
            own (Some q) h = (home_names clean n q.home q.held h).0

      resume_clean : clean ≡ true → resume_is_clean m.law w.host o (lent_held c.receiver) ≡ true
      resume_clean s =
          both_true (m.law.holds_clean w.host && m.law.waits_clean w.host)
          (receiver_is_plain (lent_held c.receiver) && outcome_is_plain o)
          (both_true (m.law.holds_clean w.host) (m.law.waits_clean w.host) (at.hands s) (at.waits s))
          (both_true (receiver_is_plain (lent_held c.receiver)) (outcome_is_plain o)
          (own c.receiver seated.0) (bound.1 s)) where
            own : (r : Option Receiver) → ReceiverNames clean n r →
                receiver_is_plain (lent_held r) ≡ true
            own None h = refl
            own (Some q) h =
                plain_tree clean n q.held
                (home_names clean n q.home q.held h, home_clear clean n q.home q.held h) s

      -- what it leaves in a receiver
      rewrites : (r : Option Receiver) → c.receiver ≡ r → ReceiverNames clean n r →
          ReceiverNames clean n (receiver_rewritten m.law w.host c.token o r)
      rewrites None is names = tt
      rewrites (Some q) is names = by_flag (m.law.token_writes w.host c.token) where
        lends : lent_held c.receiver ≡ Some q.held
        lends = rw is refl

        by_flag : (b : Bool) →
            HomeNames clean n q.home (if b then record q.held {
              value = m.law.resume_written w.host c.token o q.held;
            } else q.held)
        by_flag true =
            home_written clean n q.home q.held (m.law.resume_written w.host c.token o q.held) names (
              omega (
                arith,
                lawful.resume_writes_within w.host c.token o q.held,
                subst (λ (l : Option Held). resume_bound m.law w.host o l ≤ n) lends resume_names,
              ),
              λ s. lawful.resume_writes_clean w.host c.token o q.held
                  (subst (λ (l : Option Held). resume_is_clean m.law w.host o l ≡ true) lends
                  (resume_clean s)),
            )
            (lawful.resume_writes_content w.host c.token o q.held)
        by_flag false = names

      -- that is written, but to no cell
      home_with : (a : Home) (h : Held) → HomeNames clean n a h →
          Kept m.law clean n (lent_since c.receiver since) (back_in_scope a h w.scope) w.cells w.host
          (back_in_roots a h w.roots)
      home_with (InScope i) h names = entry_kept inner n low w i h at names.0 names.1
      home_with (InCell i) h names = at
      home_with (AtPlace p) h names = root_put inner n low w p h.value at names.0 names.1

      receiver_with : (r : Option Receiver) → ReceiverNames clean n r →
          Kept m.law clean n (lent_since c.receiver since) (scope_with r w.scope) w.cells w.host
          (roots_with r w.roots)
      receiver_with None names = at
      receiver_with (Some q) names = home_with q.home q.held names

      -- and so the host holds what it may
      abbrev left : Option Receiver
      left = receiver_rewritten m.law w.host c.token o c.receiver

      left_names : ReceiverNames clean n left
      left_names = rewrites c.receiver refl seated.0

      resumed : Kept m.law clean n (lent_since left since) (scope_with left w.scope) w.cells
          (m.law.resume_after w.host c.token o (lent_held c.receiver)) (roots_with left w.roots)
      resumed =
          subst (λ (u : Since). Kept m.law clean n u (scope_with left w.scope) w.cells
          (m.law.resume_after w.host c.token o (lent_held c.receiver)) (roots_with left w.roots))
          (sym (same_since m.law w.host c.token o c.receiver since))
          (after (receiver_with left left_names)) where
            after : Kept m.law clean n (lent_since c.receiver since) (scope_with left w.scope) w.cells
                w.host (roots_with left w.roots) →
                Kept m.law clean n (lent_since c.receiver since) (scope_with left w.scope) w.cells
                (m.law.resume_after w.host c.token o (lent_held c.receiver)) (roots_with left w.roots)
            after there = record {
              size = there.size;
              entries = there.entries;
              contents = there.contents;
              reaches = omega (
                arith,
                lawful.resume_stays_within w.host c.token o (lent_held c.receiver),
                resume_names,
              );
              hands = λ s. lawful.resume_stays_clean w.host c.token o (lent_held c.receiver)
                  (resume_clean s);
              waits = λ s. lawful.waits_after_resume w.host c.token o (lent_held c.receiver)
                  (resume_clean s);
              lends = there.lends;
              stand = there.stand;
              plain = there.plain;
            }

      reply_names : ReplyNames clean n (m.law.resume_reply w.host c.token o (lent_held c.receiver))
      reply_names = (
        omega (
          arith,
          lawful.resume_replies_within w.host c.token o (lent_held c.receiver),
          resume_names,
        ),
        λ s. lawful.resume_replies_clean w.host c.token o (lent_held c.receiver) (resume_clean s),
      )

    tells : (c : Callback) (o : Outcome) (w : World S) → At (lending c.receiver) n w →
        CallbackNames clean n c → OutcomeNames clean n o →
        Leaves m clean since n (rules.told m c o w)
    tells c o w at seated bound =
        marks_or (lending c.receiver) since n (rules.given_up m c (Failed NoMemory))
        (gives_up_out c seated.0) w after at
        (answers (record c { receiver = left c seated o bound w at })
        (m.law.resume_reply w.host c.token o (lent_held c.receiver)) (record w {
          passed = w.passed + 1;
          host = m.law.resume_after w.host c.token o (lent_held c.receiver);
          scope = scope_with (left c seated o bound w at) w.scope;
          roots = roots_with (left c seated o bound w at) w.roots;
          tokens = rules.without_token c.token w.tokens;
        }) (resumed c seated o bound w at) (left_names c seated o bound w at, seated.1, seated.2)
        (reply_names c seated o bound w at)) where
          after : World S → Act S
          after w1 =
              let r = receiver_rewritten m.law w1.host c.token o c.receiver in
              rules.answered_again m (record c { receiver = r })
              (m.law.resume_reply w1.host c.token o (lent_held c.receiver)) (record w1 {
                host = m.law.resume_after w1.host c.token o (lent_held c.receiver);
                scope = scope_with r w1.scope;
                roots = roots_with r w1.roots;
                tokens = rules.without_token c.token w1.tokens;
              })

    -- the call that was asked for is over
    value_tells : (c : Callback) (v : Dynamic) (w : World S) → At (lending c.receiver) n w →
        CallbackNames clean n c → AnswerNames clean n (Came v) → (o : Option Dynamic) →
        flat w.cells v ≡ o → Leaves m clean since n (rules.value_told m c o w)
    value_tells c v w at seated named None is =
        let race : Problem = Plain (DataRace (race_text [])) (rules.position m c.frame) in
        marks_or (lending c.receiver) since n (rules.given_up m c (Failed NoMemory))
        (gives_up_out c seated.0) w (rules.told m c (Fault race)) at
        (tells c (Fault race) (record w { passed = w.passed + 1 }) at seated (omega arith, λ s. refl))
    value_tells c v w at seated named (Some u) is =
        let read = flat_names clean n w.cells v u at.contents named is in
        tells c (Value u) w at seated (
          read.0.0,
          λ s. both_true (is_clean (tree u)) (not (is_cell (tree u))) (read.0.1 s) (not_cell u read.1),
        )

    hears_of : (c : Callback) (a : Answer) (w : World S) → At (lending c.receiver) n w →
        CallbackNames clean n c → AnswerNames clean n a →
        Leaves m clean since n (rules.called_back_over m c a w)
    hears_of c (Came v) w at seated named = value_tells c v w at seated named (flat w.cells v) refl
    hears_of c (Failed x) w at seated named =
        by_test (Leaves m clean since n) (is_told x) (rules.told m c (Fault x) w)
        (rules.given_up m c (Failed x) w)
        (λ told. tells c (Fault x) w at seated named)
        (λ not. gives_up c (Failed x) w at seated.0 named)

  module _ (n : ℕ) (low : least ≤ n) (c : Callback) (seated : CallbackNames clean n c) where
    given : Operands clean n (arguments_back c)
    given =
        all_joined (HeldNames clean n) (curried_in c.pointer)
        (map (λ t. read_write (value_of t)) c.values) (curried_names clean n c.pointer seated.1)
        (curry_names clean n c.values seated.2)

    -- a native is called back
    module _ (heard : Answer → World S → Act S) (hears : Hears (lending c.receiver) since n heard) where
      native_back : (o : Option (List Held)) (w : World S) → At (lending c.receiver) n w →
          flat_all w.cells (arguments_back c) ≡ o →
          Leaves m clean since n (rules.native_back m heard c o w)
      native_back None w at is =
          fails_so (lending c.receiver) since n low heard hears
          (Plain (DataRace (race_text [])) (rules.position m c.frame)) w at (omega arith, λ s. refl)
      native_back (Some args) w at is =
          lends_native (lending c.receiver) since n low heard hears c.pointer.name args c.frame
          (flat_all_names clean n w.cells (arguments_back c) args at.contents given is) None tt w at

    -- the function of the pointer, or the native of its name
    module _ (heard : Answer → World S → Act S) (hears : Hears (lending c.receiver) since n heard) where
      native_called : (w : World S) → At (lending c.receiver) n w →
          Leaves m clean since n (rules.native_called_back m heard c w)
      native_called w at =
          takes_operation (lending c.receiver) since n (heard (Failed NoMemory))
          (λ v there. hears n (omega arith) (Failed NoMemory) v (omega arith, λ s. refl) there)
          (λ x. heard (Failed x)) (λ x v there bound. hears n (omega arith) (Failed x) v bound there)
          (rules.position m c.frame) deeper
          (λ w1 there. by_test (Leaves m clean since n) (nat_le m.engine.limits.levels w1.level)
          (rules.failed_so m heard (Plain StackOverflow (rules.position m c.frame)) w1)
          (rules.native_back m (rules.native_back_over m heard w1.level) c
          (flat_all w1.cells (arguments_back c)) (record w1 { level = w1.level + 1 }))
          (λ deep. fails_so (lending c.receiver) since n low heard hears
          (Plain StackOverflow (rules.position m c.frame)) w1 there (omega arith, λ s. refl))
          (λ room. native_back (rules.native_back_over m heard w1.level)
          (λ j le a v named here. hears j le a (record v { level = w1.level }) named here)
          (flat_all w1.cells (arguments_back c)) (record w1 { level = w1.level + 1 }) there refl)) w at
        where
          deeper : World S → Act S
          deeper w1 =
              if nat_le m.engine.limits.levels w1.level
              then rules.failed_so m heard (Plain StackOverflow (rules.position m c.frame)) w1
              else rules.native_back m (rules.native_back_over m heard w1.level) c
              (flat_all w1.cells (arguments_back c)) (record w1 { level = w1.level + 1 })

      callee_called : (o : Option Function) (w : World S) → At (lending c.receiver) n w →
          Leaves m clean since n (rules.callee_called_back m heard c o w)
      callee_called None w at = native_called w at
      callee_called (Some g) w at =
          under (lending c.receiver) since (rules.position m c.frame) g (arguments_back c) n low given
          heard hears None w at

    -- what a native asked for is done
    pub calls_back : (w : World S) → At (lending c.receiver) n w →
        Leaves m clean since n (rules.calling_back m c w)
    calls_back w at =
        callee_called (rules.called_back_over m c)
        (λ j le a v named there. hears_of j (omega (arith, low, le)) c a v there
        (callback_wider clean n j le c seated) named)
        (function_back m.program m.engine.callbacks c) w at
