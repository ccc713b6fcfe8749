-- The walk over the rules where a call is over that a native asked for: the host hears of it, and answers
-- the native's call at last or asks for another; or the native is given up.
use Rattle.std.proofs.Common.{◌≡◌, ◌+◌, ℕ, List, [], Option, Some, None, Bool, true, false, refl, sym, subst, ap, ◌∙◌, inl, inr, length}
use Rattle.std.proofs.lemmas.Bool.{eqb-false}
use Rattle.std.specs.Prelude.{nat_eq}
use Rattle.grain_value.specs.Cells.{flat}
use Rattle.grain_value.specs.declared.scopes.Entry.{Entry}
use Rattle.grain_value.specs.declared.values.Dynamic.{Dynamic}
use Rattle.grain_fault.specs.Positions.{at_position_if_none}
use Rattle.grain_fault.specs.declared.places.Position.{Position}
use Rattle.grain_fault.specs.Problems.{Problem, Plain, DataRace, NoMemory}
use Rattle.grain_host.specs.Law.{Law, Outcome, Reply, Value, Fault}
use Rattle.grain_host.specs.Law as reply
use Rattle.grain_means.specs.Leavings.{Keeps}
use Rattle.grain_means.specs.Rules.{Home, InScope, InCell, AtPlace, Receiver, answered_again, back_in_scope, called_back_over, cells_with, ended_so, function_back, given_up, is_stop, is_told, lent_held, position, race_text, receiver_rewritten, roots_with, scope_with, told, trace_kept, unheard, value_told, went_on, with_token, without_token}
use Rattle.grain_means.specs.Worlds.{Act, Answer, Came, Callback, Failed, Go, InHost, Setup, World}
use Rattle.grain_means.specs.Causes.{AsksNext, BackEnds, IsKeptOut, of_native, parameters, HearsOf, again, reply_again}
use Rattle.grain_means.specs.Causes.Callbacks.{of_fault, of_lent, of_value}
use Rattle.grain_means.specs.Causes.Spots.{past}
use Rattle.grain_means.proofs.Choices.{if_false}
use Rattle.grain_means.proofs.Footing.{Tally, by_test}
use Rattle.grain_means.proofs.Ground.{Footing, Stays}
use Rattle.grain_means.proofs.Kept.{keeps_set}
use Rattle.grain_means.proofs.Roles.{Hosting, NativeAnswers, NativeFails}
use Rattle.grain_means.proofs.Tally.Asking.{length_back}
use Rattle.grain_means.proofs.Tally.Functions.{Beside}
use Rattle.grain_means.proofs.Unlent.{Beyond, Unlent, beyond_on, cell_away, given_in}

same_token : (token : ℕ) → nat_eq token token ≡ true
same_token token = at (nat_eq token token) refl where
  at : (b : Bool) → nat_eq token token ≡ b → nat_eq token token ≡ true
  at true e = e
  at false e = absurd (eqb-false token token e refl)

-- a token that was given last is taken back
taken_back : (token : ℕ) (tokens : Option (List ℕ)) →
    without_token token (with_token token tokens) ≡ tokens
taken_back token None = refl
taken_back token (Some ts) = rw (same_token token) refl

-- what is lent stays where it is lent from
still_away : {S : Type 0} (law : Law S) (s : S) (token : ℕ) (o : Outcome) (r : Option Receiver) →
    cell_away (receiver_rewritten law s token o r) ≡ cell_away r
still_away law s token o None = refl
still_away law s token o (Some r) = refl

length_with : (r : Option Receiver) (scope : List Entry) →
    length (scope_with r scope) ≡ length scope
length_with None scope = refl
length_with (Some r) scope = length_back r.home r.held scope

keeps_with : (base : ℕ) (names : List (List ℕ)) (r : Option Receiver) (scope : List Entry) →
    Keeps base names scope → Keeps base names (scope_with r scope)
keeps_with base names None scope there = there
keeps_with base names (Some r) scope there = at r.home where
  at : (home : Home) → Keeps base names (back_in_scope home r.held scope)
  at (InScope i) = keeps_set base names scope i r.held there
  at (InCell n) = there
  at (AtPlace p) = there

-- it is not told of a call that fails before anything of it is done
untold : {S : Type 0} (m : Setup S) (q : Position) (n : ℕ) (w : World S) (x : Problem) →
    IsKeptOut m q n w x → is_told x ≡ false
untold m q n w x (inl a) = ap is_told a.2
untold m q n w x (inr (inl a)) = ap is_told a.5
untold m q n w x (inr (inr (inl a))) = ap is_told a.3
untold m q n w x (inr (inr (inr a))) = ap is_told a.4

-- where the walk is: at a call that a native asked for, which came of the first one
pub record Hosted {S : Type 0} (m : Setup S) : Type 0 where
  pub first : Callback
  pub start : World S
  pub footing : Footing
  pub callback : Callback
  pub now : World S
  pub on : AsksNext m first start callback now
  pub size : length now.scope ≡ length start.scope
  pub tokens : now.tokens ≡ with_token callback.token footing.tokens
  pub level : now.level ≡ footing.level
  pub stays : Stays footing (cell_away callback.receiver) now.scope now.cells
  pub trace : now.trace ≡ []

module _ {S : Type 0} {m : Setup S} (hosted : Hosted m) where
  open hosted use {first, start, footing as k, callback as c, now, on, size, tokens, level, stays}

  abbrev pub root : Act S
  root = Go (InHost first) start

  abbrev pub turn : Act S
  turn = Go (InHost c) now

  abbrev pub Back : ℕ → Act S → Type 0
  Back r act = Tally m Hosting root turn r k act

  -- a world after n instructions, where the call may be over
  pub record Aside (n : ℕ) (u : World S) : Type 0 where
    pub ran : u.ran ≡ n
    pub tokens : u.tokens ≡ now.tokens
    pub level : u.level ≡ now.level
    pub keeps : Keeps k.base k.names u.scope
    pub size : length u.scope ≡ length now.scope
    pub unlent : Unlent now.cells u.cells

  -- it is so whatever else is written
  answers_on : (a : Answer) (u v : World S) → v.trace ≡ u.trace → v.passed ≡ u.passed →
      NativeAnswers m first start a u → NativeAnswers m first start a v
  answers_on (Came d) u v traces marks e = traces ∙ e
  answers_on (Failed x) u v traces marks (inl out) = inl (out.0, ap (is_stop m.stop) marks ∙ out.1)
  answers_on (Failed x) u v traces marks (inr why) = inr why

  -- the native is over, and this is what it was lent
  ended : (d : Callback) → cell_away d.receiver ≡ cell_away c.receiver → (a : Answer) (n : ℕ)
      (u : World S) → u.ran ≡ n → u.tokens ≡ k.tokens → u.level ≡ now.level →
      Keeps k.base k.names u.scope → length u.scope ≡ length now.scope → Unlent now.cells u.cells →
      NativeAnswers m first start a u → Back n (ended_so m d a u)
  ended d same a n u ran taken high there long free answers = (
    ran,
    taken,
    high ∙ level,
    record {
      keeps = there;
      unlent = given_in k.cells d.receiver u.cells
          (subst (λ (away : Option ℕ). Beyond away k.cells u.cells) (sym same)
          (beyond_on (cell_away c.receiver) k.cells now.cells u.cells stays.unlent free));
    },
    (
      long ∙ size,
      answers_on a u (record u { cells = cells_with d.receiver u.cells }) refl refl answers,
    ),
  )

  taken_from : (u : World S) → u.tokens ≡ now.tokens → without_token c.token u.tokens ≡ k.tokens
  taken_from u same =
      ap (without_token c.token) (same ∙ tokens) ∙ taken_back c.token k.tokens

  -- the native is given up
  pub gives_up : (a : Answer) (n : ℕ) (u : World S) → Aside n u → NativeAnswers m first start a u →
      Back n (given_up m c a u)
  gives_up a n u at answers =
      let v : World S = record u {
        host = m.law.forget_after u.host c.token;
        tokens = without_token c.token u.tokens;
      } in
      ended c refl a n v at.ran (taken_from u at.tokens) at.level at.keeps at.size at.unlent
      (answers_on a u v refl refl answers)

  -- the host hears of the call
  module _ (o : Outcome) (u : World S) (n : ℕ) (hears : HearsOf m c now o u) (at : Aside n u) where
    abbrev r : Option Receiver
    r = receiver_rewritten m.law u.host c.token o c.receiver

    abbrev d : Callback
    d = record c { receiver = r }

    -- once it has heard
    abbrev v : World S
    v = record (past u) {
      host = m.law.resume_after u.host c.token o (lent_held c.receiver);
      scope = scope_with r u.scope;
      roots = roots_with r u.roots;
      tokens = without_token c.token u.tokens;
    }

    -- once it has answered
    abbrev answered : Reply → World S
    answered x = record v { trace = trace_kept x v.trace }

    same : cell_away r ≡ cell_away c.receiver
    same = still_away m.law u.host c.token o c.receiver

    there : Keeps k.base k.names v.scope
    there = keeps_with k.base k.names r u.scope at.keeps

    long : length v.scope ≡ length now.scope
    long = length_with r u.scope ∙ at.size

    -- its answer is not heard
    even_unheard : (x : Reply) → is_stop m.stop v.passed ≡ true →
        Back n (ended_so m d (Failed NoMemory) (unheard m.law x (answered x)))
    even_unheard (reply.Done z) stop =
        ended d same (Failed NoMemory) n (answered (reply.Done z)) at.ran (taken_from u at.tokens) at.level
        there long at.unlent (inl (refl, stop))
    even_unheard (reply.Failed y) stop =
        ended d same (Failed NoMemory) n (answered (reply.Failed y)) at.ran (taken_from u at.tokens)
        at.level there long at.unlent (inl (refl, stop))
    even_unheard (reply.Ask token p values) stop =
        ended d same (Failed NoMemory) n (record (answered (reply.Ask token p values)) {
          host = m.law.forget_after v.host token;
        }) at.ran (taken_from u at.tokens) at.level there long at.unlent (inl (refl, stop))

    even_went : is_stop m.stop u.passed ≡ false → is_stop m.stop (u.passed + 1) ≡ false →
        (x : Reply) → reply_again m c o u ≡ x → Back n (went_on m d x (past (answered x)))
    even_went clear later (reply.Done z) is =
        ended d same (Came z) n (past (answered (reply.Done z))) at.ran (taken_from u at.tokens) at.level
        there long at.unlent refl
    even_went clear later (reply.Failed y) is =
        ended d same (Failed (at_position_if_none (position m c.frame) y)) n
        (past (answered (reply.Failed y))) at.ran (taken_from u at.tokens) at.level there long at.unlent
        (inr (inl (record {
          callback = c;
          world = now;
          on = of_native on;
          why = inr (inl (o, u, y, hears, is, clear, later, refl));
          goes = tt;
        })))
    even_went clear later (reply.Ask token p values) is = (
      at.ran,
      ap (with_token token) (taken_from u at.tokens),
      at.level ∙ level,
      record {
        keeps = there;
        unlent = subst (λ (away : Option ℕ). Beyond away k.cells u.cells) (sym same)
            (beyond_on (cell_away c.receiver) k.cells now.cells u.cells stays.unlent at.unlent);
      },
      (refl, (long ∙ size, again on hears is clear later)),
    )

    pub even_told : Back n (told m c o u)
    even_told =
        let says : Reply = reply_again m c o u in
        by_test (Back n) (is_stop m.stop u.passed) (given_up m c (Failed NoMemory) u)
        (answered_again m d says v)
        (λ stop. gives_up (Failed NoMemory) n u at (inl (refl, stop)))
        (λ clear. by_test (Back n) (is_stop m.stop (u.passed + 1))
        (ended_so m d (Failed NoMemory) (unheard m.law says (answered says)))
        (went_on m d says (past (answered says)))
        (λ stop. even_unheard says stop) (λ later. even_went clear later says refl))

  -- the same a mark further
  aside_past : (n : ℕ) (u : World S) → Aside n u → Aside n (past u)
  aside_past n u at = record {
    ran = at.ran;
    tokens = at.tokens;
    level = at.level;
    keeps = at.keeps;
    size = at.size;
    unlent = at.unlent;
  }

  -- the call ended with a value
  pub even_value : (d : Dynamic) (u : World S) (n : ℕ) → BackEnds m c now (Came d) u → Aside n u →
      Back n (called_back_over m c (Came d) u)
  even_value d u n ends at = by_content (flat u.cells d) refl where
    by_content : (x : Option Dynamic) → flat u.cells d ≡ x → Back n (value_told m c x u)
    by_content (Some v) e = even_told (Value v) u n (of_value d v ends e) at
    by_content None e =
        let lent = Fault (Plain (DataRace (race_text [])) (position m c.frame)) in
        by_test (Back n) (is_stop m.stop u.passed) (given_up m c (Failed NoMemory) u)
        (told m c lent (past u))
        (λ stop. gives_up (Failed NoMemory) n u at (inl (refl, stop)))
        (λ clear. even_told lent (past u) n (of_lent d ends e clear) (aside_past n u at))

  -- the call ended with a fault; if the host is not told of it, the native ends with it
  pub even_fault : (x : Problem) (u : World S) (n : ℕ) → BackEnds m c now (Failed x) u →
      (is_told x ≡ false → NativeFails m first start x) → Aside n u →
      Back n (called_back_over m c (Failed x) u)
  even_fault x u n ends why at =
      by_test (Back n) (is_told x) (told m c (Fault x) u) (given_up m c (Failed x) u)
      (λ yes. even_told (Fault x) u n (of_fault x ends yes) at)
      (λ no. gives_up (Failed x) n u at (inr (why no)))

  pub even_untold : (x : Problem) (u : World S) (n : ℕ) → is_told x ≡ false →
      NativeFails m first start x → Aside n u → Back n (called_back_over m c (Failed x) u)
  even_untold x u n passes why at =
      if_false (Back n) (is_told x) (told m c (Fault x) u) (given_up m c (Failed x) u) passes
      (gives_up (Failed x) n u at (inr why))

  -- memory is out
  pub even_out : (u : World S) (n : ℕ) → is_stop m.stop u.passed ≡ true → Aside n u →
      Back n (called_back_over m c (Failed NoMemory) u)
  even_out u n stop at = gives_up (Failed NoMemory) n u at (inl (refl, stop))

  -- a world beside the first
  pub aside : (n : ℕ) (u : World S) → Beside now n u → Aside n u
  aside n u at = record {
    ran = at.0;
    tokens = at.1;
    level = at.2;
    keeps = subst (Keeps k.base k.names) (sym at.3) stays.keeps;
    size = ap length at.3;
    unlent = at.4;
  }

  pub out_so : (u : World S) (n : ℕ) → is_stop m.stop u.passed ≡ true → Beside now n u →
      Back n (called_back_over m c (Failed NoMemory) u)
  out_so u n stop at = even_out u n stop (aside n u at)

  -- the call fails before anything of it is done
  pub kept_out : (r : ℕ) (x : Problem) → IsKeptOut m (position m c.frame)
      (parameters (function_back m.program m.engine.callbacks c)) now x →
      (u : World S) → Beside now r u → Back r (called_back_over m c (Failed x) u)
  kept_out r x why u at =
      even_untold x u r
      (untold m (position m c.frame) (parameters (function_back m.program m.engine.callbacks c)) now x why)
      (inl (record { callback = c; world = now; on = of_native on; why = inl why; goes = tt }))
      (aside r u at)
