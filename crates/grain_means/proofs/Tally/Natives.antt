-- The walk through a native that is asked for.
use Rattle.std.proofs.Common.{◌≡◌, ◌⊎◌, ℕ, ◌+◌, List, [], Option, Some, None, Bool, true, false, refl, sym, subst, ap, ◌∙◌, ◌&&◌, inl, inr, length}
use Rattle.grain_value.specs.declared.values.Dynamic.{Dynamic}
use Rattle.grain_value.specs.declared.values.Held.{Held}
use Rattle.grain_value.specs.declared.scopes.Entry.{Entry}
use Rattle.grain_value.specs.Operands.{values_in}
use Rattle.grain_fault.specs.Classes.{catchable}
use Rattle.grain_fault.specs.Positions.{at_position_if_none}
use Rattle.grain_fault.specs.declared.places.Position.{Position}
use Rattle.grain_fault.specs.Problems.{Problem, Plain, NoMemory}
use Rattle.grain_fault.specs.Problems as problem
use Rattle.grain_program.specs.declared.code.instruction_set.Op.{Op}
use Rattle.grain_program.specs.Decoding.{op_at}
use Rattle.grain_value.specs.declared.stores.Cell.{Cell}
use Rattle.grain_means.specs.Worlds.{Act, Answer, Came, Callback, Failed, Go, InFrame, InHost, World, Setup}
use Rattle.grain_means.specs.Ends.{Ends}
use Rattle.grain_host.specs.Signatures.{not_found}
use Rattle.grain_host.specs.Law.{Reply}
use Rattle.grain_host.specs.Law as reply
use Rattle.grain_value.specs.declared.natives.Native.{Native}
use Rattle.grain_means.proofs.Missing.{row_of_missing}
use Rattle.grain_means.specs.Rules.{Receiver, lent_held, given, given_back, trees_in, first_is_read_only, answered, host_called_or, is_stop, marked_or, native_found_or, native_over, no_memory, receiver_left, position, cells_given_back, roots_given_back, unheard}
use Rattle.grain_means.specs.Causes.{AsksFirst, AsksLast, AsksNative, Cause, Caused, FindsNative, HostFails, IsCalled, LeavesBack, Question, asked_by, asked_in, body_back, by_question, first_asked, from_native, native_asked, reply_to}
use Rattle.grain_means.proofs.Asked.{host_placed}
use Rattle.grain_means.proofs.Chainless.{asks_no_chain}
use Rattle.grain_means.proofs.Footing.{by_test, is_false, true-false}
use Rattle.grain_means.proofs.Ground.{stays_given}
use Rattle.grain_means.proofs.Unlent.{Unlent, beyond_on, unlent_given, unlent_on, unlent_same}
use Rattle.grain_means.proofs.Moving.{caught_anywhere, unit_caught}
use Rattle.grain_means.proofs.Roles.{Framed, NativeAnswers, NativeFails}
use Rattle.grain_means.proofs.Tally.Asking.{even_asked, length_given}
use Rattle.grain_means.proofs.Tally.Frames.{Walk, Even, Reason, SteadyBut, holding, point}
use Rattle.grain_means.proofs.Tally.Faults.{blames_none, met, why, why_answered}

both_true : (a b : Bool) → (a && b) ≡ true → (a ≡ true) × (b ≡ true)
both_true true true p = (refl, refl)
both_true true false p = is_false p
both_true false b p = is_false p

-- a fault that is want of memory is that one
pub memory_only : (x : Problem) → no_memory x ≡ true → x ≡ NoMemory
memory_only NoMemory e = refl
memory_only x e = is_false e

module _ {S : Type 0} {m : Setup S} (walk : Walk m) where
  open walk use {root, footing as k, frame as f, now, level, sits}

  -- the world once the host has answered the call of a native, with the host, the scope, the cells
  -- and the roots as it left them
  abbrev pub served : World S → S → List Entry → List Cell → List Held → World S
  served w host scope cells roots = record w {
    passed = w.passed + 1 + 1;
    host = host;
    scope = scope;
    cells = cells;
    roots = roots;
  }

  -- a native is asked for in a world
  module _ (w : World S) (name : List ℕ) (r : Option Receiver) (args : List Held) where
    abbrev pub asked : Question S
    asked = record { world = w; name = name; lent = r; args = args }

    abbrev pub answered_by : ℕ → World S
    answered_by key =
        served w (m.law.call_after w.host key (lent_held r) (trees_in args))
        (given_back m.law w.host key (trees_in args) r w.scope)
        (cells_given_back m.law w.host key (trees_in args) r w.cells)
        (roots_given_back m.law w.host key (trees_in args) r w.roots)

    -- a world in which the native is over, while the cell of this number is lent, if any
    abbrev pub After : Option ℕ → ℕ → World S → Type 0
    After away l u = SteadyBut walk away l u × (length u.scope ≡ length w.scope) × Unlent w.cells u.cells

    -- the host asks for calls first, and the host's fault
    abbrev pub AsksThen : Native → Type 0
    AsksThen n = AsksFirst m asked n f now

    abbrev pub Answers : Native → Problem → Type 0
    Answers n y = (reply_to m asked n.key ≡ reply.Failed y)
        ⊎ ((a : AsksThen n) × HostFails m (asked_by m a) (asked_in m a) y)

    -- The native gave this value and left this world, at once or after the calls that it asked for; or it
    -- ended so in this fault.
    abbrev pub Gave : Native → Dynamic → World S → Type 0
    Gave n v u = ((reply_to m asked n.key ≡ reply.Done v) × (u ≡ answered_by n.key))
        ⊎ ((a : AsksThen n) × Ends m (Go (InHost (asked_by m a)) (asked_in m a)) (Came v) u)

    abbrev pub FailedSo : Native → Problem → World S → Type 0
    FailedSo n x u = ((y : Problem) × (reply_to m asked n.key ≡ reply.Failed y)
        × (x ≡ at_position_if_none (position m f) y) × (u ≡ answered_by n.key))
        ⊎ ((a : AsksThen n) × Ends m (Go (InHost (asked_by m a)) (asked_in m a)) (Failed x) u)

  -- The rules of an instruction that stands where the frame does. A native is asked for in a world, after
  -- this number of instructions.
  module _ (o : Op) (width : ℕ) (stands : op_at m.program.code f.address ≡ Some (o, width))
      (away : Option ℕ) (w : World S) (ran : ℕ) (s : SteadyBut walk away ran w) (t : w.trace ≡ [])
      (name : List ℕ) (r : Option Receiver) (args : List Held)
      (asks : AsksNative m (record { world = w; name = name; lent = r; args = args })
      (point walk o)) where
    abbrev question : Question S
    question = asked w name r args

    abbrev left_by : ℕ → World S
    left_by key = answered_by w name r args key

    abbrev Over : ℕ → World S → Type 0
    Over l u = After w name r args away l u

    after_answer : (key : ℕ) → Over ran (left_by key)
    after_answer key = (
      (
        s.0,
        s.1,
        s.2,
        stays_given m.law w.host key (trees_in args) r w.scope w.cells s.3,
      ),
      length_given m.law w.host key (trees_in args) r w.scope,
      unlent_given m.law w.host key (trees_in args) r w.cells,
    )

    abbrev finds : (n : Native) → native_asked m question ≡ Some n → FindsNative m name n
        (point walk o)
    finds n e = record { question = question; named = refl; asks = asks; found = e }

    -- why there is no native, and why it is not called
    pub none_why :
        AsksLast m (not_found name (values_in (given r args)) (position m f)) question
        (point walk o) → native_asked m question ≡ None →
        Reason walk (not_found name (values_in (given r args)) (position m f))
    none_why last e =
        let all = values_in (given r args) in
        why walk o width stands (not_found name all (position m f)) refl
        (row_of_missing m (point walk o) name all (question, refl, last, e))

    pub refused_why : (n : Native) → native_asked m question ≡ Some n → n.writes ≡ true →
        first_is_read_only (given r args) ≡ true →
        Reason walk (Plain (problem.NonPureCall name) (position m f))
    refused_why n e writes only =
        why walk o width stands (Plain (problem.NonPureCall name) (position m f)) refl
        (n, finds n e, writes, only)

    failed_why : (n : Native) → native_asked m question ≡ Some n → IsCalled question n →
        (y : Problem) →
        AsksLast m (at_position_if_none (position m f) y) question (point walk o) →
        Answers w name r args n y →
        Reason walk (at_position_if_none (position m f) y)
    failed_why n e called y last is =
        why_answered walk o width stands y (name, n, finds n e, called, is, last)

    -- the body of a function that the native called back was left by the fault
    left_why : (n : Native) → native_asked m question ≡ Some n → IsCalled question n →
        (a : AsksThen w name r args n) (x : Problem) (l : LeavesBack m (asked_by m a) (asked_in m a) x) →
        Cause m (body_back m l.runs) (l.runs.world.level + 1) l.inner → Reason walk x
    left_why n e called a x l cause = (
      subst (Cause m root k.level) (sym l.is) (from_native (record {
        point = point walk o;
        met = met walk o width stands;
        first = asked_by m a;
        start = asked_in m a;
        asks = by_question question asks n e called a;
        comes = a.comes;
        address = a.address;
        runs = l.runs;
      }) l.passes cause (position m l.runs.callback.frame) (inl (level, refl))),
      λ unit. true-false (unit_caught x unit) (ap catchable l.is
          ∙ caught_anywhere (position m l.runs.callback.frame) l.inner ∙ l.passes),
      blames_none walk o width stands x (asks_no_chain m question o f now asks),
    )

    native_why : (n : Native) → native_asked m question ≡ Some n → IsCalled question n →
        (a : AsksThen w name r args n) (x : Problem) →
        NativeFails m (asked_by m a) (asked_in m a) x →
        AsksLast m x question (point walk o) → Reason walk x
    native_why n e called a x (inl h) last =
        let p = position m f in
        let is : at_position_if_none p x ≡ x =
        subst (λ (q : Position). at_position_if_none q x ≡ x) a.position (host_placed m h) in
        subst (Reason walk) is
        (failed_why n e called x
        (subst (λ (y : Problem). AsksLast m y question (point walk o)) (sym is) last) (inr (a, h)))
    native_why n e called a x (inr l) last = left_why n e called a x l.0 l.1

    -- after want of memory nothing else is asked for
    last_of : AsksLast m NoMemory question (point walk o)
    last_of = of_asks asks where
      of_asks : AsksNative m question (point walk o) → AsksLast m NoMemory question (point walk o)
      of_asks (inl once) = inl once
      of_asks (inr (inl (a, i, h, u, v, by, inl first))) =
          inr (inl (a, i, h, u, v, by, inl (first, refl)))
      of_asks (inr (inl (a, i, h, u, v, by, inr second))) = inr (inl (a, i, h, u, v, by, inr second))
      of_asks (inr (inr shows)) = inr (inr (shows, refl))

    -- What follows where memory is out, from a value, and from a fault.
    module _ (operands : List Held) (out : World S → Act S) (go : Dynamic → World S → Act S)
        (fails : Problem → World S → Act S)
        (out_so : (l : ℕ) (u : World S) → Caused m root k.level (Failed NoMemory) u → Over l u →
        Even walk l (out u))
        (goes : (n : Native) → native_asked m question ≡ Some n → IsCalled question n →
        (v : Dynamic) (l : ℕ) (u : World S) → Gave w name r args n v u → Over l u → u.trace ≡ [] →
        Even walk l (go v u))
        (none : native_asked m question ≡ None →
        Even walk ran (fails (not_found name (values_in (given r args)) (position m f)) w))
        (refused : (n : Native) → native_asked m question ≡ Some n → n.writes ≡ true →
        first_is_read_only (given r args) ≡ true →
        Even walk ran (fails (Plain (problem.NonPureCall name) (position m f)) w))
        (failed : (n : Native) → native_asked m question ≡ Some n → IsCalled question n →
        (x : Problem) (l : ℕ) (u : World S) → FailedSo w name r args n x u →
        (AsksLast m x question (point walk o) → Reason walk x) → Over l u →
        Even walk l (fails x u))
      where
        -- the calls that the native asked for are over
        even_over : (n : Native) → native_asked m question ≡ Some n → IsCalled question n →
            (a : AsksThen w name r args n) (x : Answer) (u : World S) →
            Ends m (Go (InHost (asked_by m a)) (asked_in m a)) x u → Over u.ran u →
            NativeAnswers m (asked_by m a) (asked_in m a) x u →
            Even walk u.ran (native_over out go fails x u)
        even_over n e called a (Came v) u ends after empty =
            goes n e called v u.ran u (inr (a, ends)) after empty
        even_over n e called a (Failed x) u ends after (inl stop) =
            subst (λ (y : Problem). Even walk u.ran (native_over out go fails (Failed y) u))
            (sym stop.0) (out_so u.ran u (inl (refl, stop.1)) after)
        even_over n e called a (Failed x) u ends after (inr how) =
            by_test (Even walk u.ran) (no_memory x) (out u) (fails x u)
            (λ yes. let is : x ≡ NoMemory = memory_only x yes in
            out_so u.ran u (inr (subst (Cause m root k.level) is
            (native_why n e called a x how
            (subst (λ (y : Problem). AsksLast m y question (point walk o)) (sym is) last_of)).0)) after)
            (λ no. failed n e called x u.ran u (inr (a, ends)) (native_why n e called a x how) after)

        even_answered : (n : Native) → native_asked m question ≡ Some n → IsCalled question n →
            (said : Reply) → reply_to m question n.key ≡ said →
            Even walk ran (answered m out (receiver_left m.law w.host n.key (trees_in args) r) said
            (holding walk operands) (left_by n.key) go fails)
        even_answered n e called (reply.Done v) is =
            goes n e called v ran (left_by n.key) (inl (is, refl)) (after_answer n.key) t
        even_answered n e called (reply.Failed y) is =
            failed n e called (at_position_if_none (position m f) y) ran (left_by n.key)
            (inl (y, is, refl, refl)) (λ last. failed_why n e called y last (inl is))
            (after_answer n.key)
        even_answered n e called (reply.Ask token p values) is =
            let c : Callback = first_asked m question n (holding walk operands) token p values in
            let v : World S = left_by n.key in
            let at = after_answer n.key in
            even_asked m Framed root (Go (InFrame f) now) k ran c v k.base k.names s.0 t at.0.3.keeps
            (native_over out go fails)
            (λ x u over. even_over n e called (record {
              token = token;
              pointer = p;
              values = values;
              asks = is;
              asked = holding walk operands;
              address = refl;
              position = refl;
              comes = over.comes;
            }) x u over.ends (
              (
                refl,
                over.tokens ∙ s.1,
                over.level ∙ s.2,
                record {
                  keeps = over.keeps;
                  unlent = beyond_on away k.cells v.cells u.cells at.0.3.unlent over.unlent;
                },
              ),
              over.size ∙ at.1,
              unlent_on w.cells v.cells u.cells at.2 over.unlent,
            ) over.answers)

        -- memory is out once the host has answered, and the answer is not heard
        even_unheard : (said : Reply) (u : World S) → is_stop m.stop u.passed ≡ true → Over ran u →
            Even walk ran (out (unheard m.law said u))
        even_unheard (reply.Done v) u stop after = out_so ran u (inl (refl, stop)) after
        even_unheard (reply.Failed y) u stop after = out_so ran u (inl (refl, stop)) after
        even_unheard (reply.Ask token p values) u stop after =
            out_so ran (record u { host = m.law.forget_after u.host token }) (inl (refl, stop)) after

        pub even_found_or : (found : Option Native) → native_asked m question ≡ found →
            Even walk ran (native_found_or m out found name r args
            (holding walk operands) w go fails)
        even_found_or None e = none e
        even_found_or (Some n) e =
            let x = Plain (problem.NonPureCall name) (position m f) in
            let g = holding walk operands in
            let told : World S → World S = λ w1. record w1 {
              host = m.law.call_after w1.host n.key (lent_held r) (trees_in args);
              scope = given_back m.law w1.host n.key (trees_in args) r w1.scope;
              cells = cells_given_back m.law w1.host n.key (trees_in args) r w1.cells;
              roots = roots_given_back m.law w1.host n.key (trees_in args) r w1.roots;
            } in
            let says : World S → Reply =
            λ w1. m.law.call_reply w1.host n.key (lent_held r) (trees_in args) in
            let answers : World S → World S → Act S =
            λ w1 w2. answered m out (receiver_left m.law w1.host n.key (trees_in args) r) (says w1) g
            w2 go fails in
            let first : World S = record w { passed = w.passed + 1 } in
            let second : World S = told first in
            by_test (Even walk ran) (n.writes && first_is_read_only (given r args)) (fails x w)
            (host_called_or m out n.key r args g w go fails)
            (λ no. let both = both_true n.writes (first_is_read_only (given r args)) no in
            refused n e both.0 both.1)
            (λ called. by_test (Even walk ran) (is_stop m.stop w.passed) (out w)
            (marked_or m (λ w2. out (unheard m.law (says first) w2)) second (answers first))
            (λ stop. out_so ran w (inl (refl, stop)) (s, refl, unlent_same w.cells))
            (λ _. by_test (Even walk ran) (is_stop m.stop (w.passed + 1))
            (out (unheard m.law (says first) second))
            (answers first (record second { passed = second.passed + 1 }))
            (λ stop. even_unheard (says first) second stop (after_answer n.key))
            (λ _. even_answered n e called (says w) refl)))
