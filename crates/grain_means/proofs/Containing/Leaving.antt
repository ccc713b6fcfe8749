-- What is left of a run, and what it may stand at; marks, faults that follow a mark, charges, and what is
-- set.
use Rattle.std.proofs.Common.{◌≡◌, ◌≤◌, ◌+◌, ◌∙◌, ℕ, List, [], None, Bool, true, nat_lt, refl, arith}
use Rattle.std.proofs.lemmas.List.{length-set}
use Rattle.std.specs.Prelude.{slice_set}
use Rattle.grain_value.specs.Cells.{idle}
use Rattle.grain_value.specs.Looking.{cell_of}
use Rattle.grain_value.specs.Scopes.{set_held}
use Rattle.grain_value.specs.declared.values.Dynamic.{Dynamic}
use Rattle.grain_value.specs.declared.values.Held.{Held}
use Rattle.grain_fault.specs.Classes.{catchable}
use Rattle.grain_fault.specs.Problems.{Problem, Plain, Terminated, TooManyOperations}
use Rattle.grain_fault.specs.declared.places.Position.{Position}
use Rattle.grain_host.specs.Law.{GoOn, IsLawful, Stop, Verdict}
use Rattle.grain_means.specs.Contained.{AnswerNames, ConstantsName, HeldNames, Names, ProblemNames}
use Rattle.grain_means.specs.Places.{put}
use Rattle.grain_means.specs.Rules as rules
use Rattle.grain_means.specs.Rules.{bound, is_stop}
use Rattle.grain_means.specs.Worlds.{Act, Go, End, Then, Answer, InCatch, InFrame, InHost, Place, Setup, Todo, World}
use Rattle.grain_means.proofs.Caught.{sole_names}
use Rattle.grain_means.proofs.Footing.{by_test}
use Rattle.grain_means.proofs.Inside.{MayPut}
use Rattle.grain_means.proofs.Naming.{CellHolds, all_set, set_names}
use Rattle.grain_means.proofs.Containing.Parts.{FrameNames, VerdictNames}
use Rattle.grain_means.proofs.Containing.Roots.{put_roots}
use Rattle.grain_means.proofs.Containing.Keeping.{Kept, Since, all_none_still, lends_set}
use Rattle.grain_means.proofs.Containing.Lending.{CallbackNames, lent_since}

-- what the walk stands on: a lawful host, constants that name no cell from `least` on, and are
-- clean where `clean` says so, and where the stretch of the run began
pub record Bases {S : Type 0} (m : Setup S) : Type 0 where
  pub lawful : IsLawful m.law
  pub clean : Bool
  pub least : ℕ
  pub constants : ConstantsName clean least m.program
  pub since : Since

-- what is so of a world since its stretch began, and of what a run stands at
abbrev pub Holds : {S : Type 0} → Setup S → Bool → Since → ℕ → World S → Type 0
Holds m clean since n w = Kept m.law clean n since w.scope w.cells w.host w.roots

abbrev pub SeatedAt : Bool → ℕ → Todo → Type 0
SeatedAt clean n (InFrame f) = FrameNames clean n f
SeatedAt clean n (InCatch f h x) =
    FrameNames clean n f × ProblemNames clean n x × (catchable x ≡ true)
SeatedAt clean n (InHost c) = CallbackNames clean n c

-- in a frame no entry has to stay plain
abbrev pub MayWrite : Todo → List ℕ → Type 0
MayWrite (InFrame f) is = is ≡ []
MayWrite (InCatch f h x) is = is ≡ []
MayWrite (InHost c) is = Unit {0}

-- where a stretch began, as it is seen from what a run stands at: what a native has in a call that it asked
-- for is lent
abbrev pub seen_from : Todo → Since → Since
seen_from (InFrame f) since = since
seen_from (InCatch f h x) since = since
seen_from (InHost c) since = lent_since c.receiver since

-- What is left of a run, which has k cells at least. A run inside another is a stretch of its own.
abbrev pub Leaves : {S : Type 0} → Setup S → Bool → Since → ℕ → Act S → Type 0
Leaves m clean since k (Go t w) =
    (n : ℕ) × (k ≤ n) × Holds m clean (seen_from t since) n w × SeatedAt clean n t
    × MayWrite t since.plain
Leaves m clean since k (End a w) =
    (n : ℕ) × (k ≤ n) × Holds m clean since n w × AnswerNames clean n a
Leaves {S = S} m clean since k (Then first rest) =
    (j : ℕ) × (k ≤ j) × (inner : Since) × Leaves m clean inner j first × ((a : Answer) (w : World S)
    (n : ℕ) → j ≤ n → Holds m clean inner n w → AnswerNames clean n a →
    Leaves m clean since k (rest a w))

pub lowers : {S : Type 0} (m : Setup S) (clean : Bool) (since : Since) (k j : ℕ) (act : Act S) →
    k ≤ j → Leaves m clean since j act → Leaves m clean since k act
lowers m clean since k j (Go t w) le h = (h.0, omega (arith, le, h.1), h.2, h.3, h.4)
lowers m clean since k j (End a w) le h = (h.0, omega (arith, le, h.1), h.2, h.3)
lowers m clean since k j (Then first rest) le h = (
  h.0,
  omega (arith, le, h.1),
  h.2,
  h.3,
  λ a w n more at names. lowers m clean since k j (rest a w) le (h.4 a w n more at names),
)

module _ {S : Type 0} {m : Setup S} (on : Bases m) where
  open on use {lawful, clean, least, since}

  abbrev pub At : ℕ → World S → Type 0
  At n w = Holds m clean since n w

  -- What goes on to a stretch of its own, or comes back from one: what follows is said of where `to`
  -- began.
  module _ (to : Since) (n : ℕ) (out : World S → Act S)
      (outs : (w : World S) → At n w → Leaves m clean to n (out w)) where
    abbrev pub Reaches : Act S → Type 0
    Reaches act = Leaves m clean to n act

    pub marks_or : (w : World S) (go : World S → Act S) → At n w →
        Reaches (go (record w { passed = w.passed + 1 })) → Reaches (rules.marked_or m out w go)
    marks_or w go at h =
        by_test Reaches (is_stop m.stop w.passed) (out w) (go (record w { passed = w.passed + 1 }))
        (λ stop. outs w at) (λ clear. h)

    module _ (fails : Problem → World S → Act S)
        (failing : (x : Problem) (w : World S) → At n w → ProblemNames clean n x →
        Reaches (fails x w)) where
      -- a fault follows a mark
      pub fails_or : (x : Problem) (w : World S) → At n w → ProblemNames clean n x →
          Reaches (rules.marked_or m out w (fails x))
      fails_or x w at bound =
          marks_or w (fails x) at (failing x (record w { passed = w.passed + 1 }) at bound)

      -- an operation is taken, of which the host hears
      module _ (p : Position) (go : World S → Act S)
          (going : (w : World S) → At n w → Reaches (go w)) where
        judges : (v : Verdict) (w : World S) → At n w → VerdictNames clean n v →
            Reaches (rules.on_verdict_or m out v p fails w go)
        judges GoOn w at bound = going w at
        judges (Stop v) w at bound =
            fails_or (Plain (Terminated v) p) w at (sole_names clean n v bound)

        hears : (w : World S) → At n w → Reaches (rules.progressed_or m out p fails w go)
        hears w at =
            let later : World S = record w {
              passed = w.passed + 1 + 1;
              host = m.law.progress_after w.host w.count;
            } in
            let heard : At n later = record {
              size = at.size;
              entries = at.entries;
              contents = at.contents;
              reaches = omega (arith, lawful.hears_within w.host w.count, at.reaches);
              hands = λ s. lawful.hears_clean w.host w.count (at.hands s);
              waits = λ s. lawful.waits_after_progress w.host w.count (at.waits s);
              lends = at.lends;
              stand = at.stand;
              plain = at.plain;
            } in
            marks_or w (λ w1. rules.marked_or m out
            (record w1 { host = m.law.progress_after w1.host w1.count }) (λ w2.
            rules.on_verdict_or m out (m.law.progress_reply w1.host w1.count) p fails w2 go)) at
            (marks_or (record w {
              passed = w.passed + 1;
              host = m.law.progress_after w.host w.count;
            }) (λ w2. rules.on_verdict_or m out (m.law.progress_reply w.host w.count) p fails w2 go)
            heard
            (judges (m.law.progress_reply w.host w.count) later heard (
              omega (arith, lawful.stops_within w.host w.count, at.reaches),
              λ s. lawful.stops_clean w.host w.count (at.hands s),
            )))

        pub takes_operation : (w : World S) → At n w →
            Reaches (rules.operation_taken m out p fails w go)
        takes_operation w at =
            by_test Reaches (nat_lt w.count m.engine.limits.operations)
            (rules.marked_or m out w
            (λ w1. rules.progressed_or m out p fails (record w1 { count = w1.count + 1 }) go))
            (rules.marked_or m out w (fails (Plain TooManyOperations p)))
            (λ few. marks_or w
            (λ w1. rules.progressed_or m out p fails (record w1 { count = w1.count + 1 }) go) at
            (hears (record w { passed = w.passed + 1; count = w.count + 1 }) at))
            (λ many. fails_or (Plain TooManyOperations p) w at (omega arith, λ s. refl))

  -- an entry is set to what is no cell, and a cell or a root is set
  module _ (n : ℕ) (low : least ≤ n) where
    pub entry_kept : (w : World S) (i : ℕ) (h : Held) → At n w → HeldNames clean n h →
        cell_of h.value ≡ None →
        Kept m.law clean n since (set_held w.scope i h) w.cells w.host w.roots
    entry_kept w i h at held plain = record {
      size = at.size;
      entries = set_names clean n w.scope i h at.entries held;
      contents = at.contents;
      reaches = at.reaches;
      hands = at.hands;
      waits = at.waits;
      lends = at.lends;
      stand = at.stand;
      plain = all_none_still w.scope i h plain since.plain at.plain;
    }

    pub cell_set : (w : World S) (i : ℕ) (h : Held) → At n w → HeldNames clean n h →
        cell_of h.value ≡ None →
        Kept m.law clean n since w.scope (slice_set w.cells i (idle h)) w.host w.roots
    cell_set w i h at held plain = record {
      size = length-set w.cells i (idle h) ∙ at.size;
      entries = at.entries;
      contents = all_set (CellHolds clean n) w.cells i (idle h) at.contents
          (record { flat = plain; names = held });
      reaches = at.reaches;
      hands = at.hands;
      waits = at.waits;
      lends = lends_set w.cells since.cells i h at.lends;
      stand = at.stand;
      plain = at.plain;
    }

    pub root_put : (w : World S) (p : Place) (v : Dynamic) → At n w → Names clean n v →
        MayPut clean n p.path v →
        Kept m.law clean n since w.scope w.cells w.host (put w.roots p v)
    root_put w p v at named may = record {
      size = at.size;
      entries = at.entries;
      contents = at.contents;
      reaches = at.reaches;
      hands = at.hands;
      waits = at.waits;
      lends = at.lends;
      stand = put_roots clean n w.roots since.roots p v at.stand named may;
      plain = at.plain;
    }
