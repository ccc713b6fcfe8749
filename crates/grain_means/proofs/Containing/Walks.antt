-- A walk in the world keeps to the store.
use Rattle.std.proofs.Common.{◌≡◌, ◌≤◌, ◌+◌, ℕ, List, [], ◌∷◌, ◌++◌, Option, Some, None, Bool, length, map, take, refl, arith, option_map}
use Rattle.grain_value.specs.Cells.{flat}
use Rattle.grain_value.specs.Operands.{read_write}
use Rattle.grain_value.specs.View.{value_of}
use Rattle.grain_value.specs.declared.values.Dynamic.{Dynamic}
use Rattle.grain_value.specs.declared.values.Dynamic.TheVariants as dynamic
use Rattle.grain_value.specs.declared.values.FnPtr.{FnPtr}
use Rattle.grain_value.specs.declared.values.Held.{Held}
use Rattle.grain_fault.specs.Problems.{Problem, Plain, DataRace, NoMemory}
use Rattle.grain_fault.specs.declared.places.Position.{Position}
use Rattle.grain_fault.specs.declared.traces.Fault.{Fault}
use Rattle.grain_program.specs.declared.code.functions.Function.{Function}
use Rattle.grain_means.specs.Contained.{AnswerNames, HeldNames, Names, ProblemNames}
use Rattle.grain_means.specs.Places.{look, put}
use Rattle.grain_means.specs.Rules as rules
use Rattle.grain_means.specs.Rules.{at_step, curried_in, flat_all, function_by_name, function_numbered, is_stop, lent_at, missed_by, placed, pointed_native, race_text, trace_of}
use Rattle.grain_means.specs.Tasks.{Task, Done, Mark, Look, Flatten, Write, Root, Drop, Need, Invoke, Call, Invocation, Method, Numbered, Pointed, Walked}
use Rattle.grain_means.specs.Worlds.{Act, Answer, Came, Failed, Frame, Place, Setup, World}
use Rattle.grain_means.proofs.Footing.{by_test}
use Rattle.grain_means.proofs.Inside.{may_put}
use Rattle.grain_means.proofs.Naming.{all_joined, curried_names, curry_values, flat_all_names, flat_names}
use Rattle.grain_means.proofs.Containing.Parts.{Arguments, LendsPlain, Operands, ReceiverNames}
use Rattle.grain_means.proofs.Containing.Bodies.{body_calls, body_fails}
use Rattle.grain_means.proofs.Containing.Leaving.{Bases, At, Leaves, fails_or, root_put}
use Rattle.grain_means.proofs.Containing.Natives.{natives}
use Rattle.grain_means.proofs.Containing.Roots.{FirmAt, firm_still, look_back, look_names, roots_added, roots_taken}
use Rattle.grain_means.proofs.Containing.Keeping.{Since, joined_on, root_gone, with_root}
use Rattle.grain_means.proofs.Containing.Tasks.{LendsSolid, MethodNames, Solid, TaskNames, ValuesName, WalkedNames}

-- values as they are held
pub held_values : (clean : Bool) (n : ℕ) (vs : List Dynamic) → ValuesName clean n vs →
    Operands clean n (map read_write vs)
held_values clean n [] h = tt
held_values clean n (v ∷ vs) h = (h.0, held_values clean n vs h.1)

module _ {S : Type 0} {m : Setup S} (on : Bases m) (to : Since) where
  open on use {clean, least, since}

  -- what follows from an answer, also where the store has grown
  abbrev pub Hears : ℕ → (Answer → World S → Act S) → Type 0
  Hears n heard =
      (j : ℕ) → n ≤ j → (a : Answer) (w : World S) → AnswerNames clean j a → At on j w →
      Leaves m clean to j (heard a w)

  -- what a place has to be so that it may be lent
  abbrev pub LendsFirm : Option Place → Type 0
  LendsFirm None = Unit {0}
  LendsFirm (Some p) = FirmAt since.roots p

  module _ (n : ℕ) (low : least ≤ n) (heard : Answer → World S → Act S)
      (hears : Hears n heard) where
    outs : (j : ℕ) → n ≤ j → (w : World S) → At on j w →
        Leaves m clean to j (heard (Failed NoMemory) w)
    outs j le w at = hears j le (Failed NoMemory) w (omega arith, λ s. refl) at

    pub fails_later : (j : ℕ) → n ≤ j → (x : Problem) (w : World S) → At on j w →
        ProblemNames clean j x → Leaves m clean to j (rules.failed_so m heard x w)
    fails_later j le x w at bound =
        fails_or on to j (heard (Failed NoMemory)) (outs j le) (λ y. heard (Failed y))
        (λ y v there within. hears j le (Failed y) v within there) x w at bound

    pub fails_so : (x : Problem) (w : World S) → At on n w → ProblemNames clean n x →
        Leaves m clean to n (rules.failed_so m heard x w)
    fails_so x w at bound = fails_later n (omega arith) x w at bound

    -- what is lent at a place
    lent_names : (o : Option Place) → LendsFirm o → (w : World S) → At on n w →
        ReceiverNames clean n (lent_at w.roots o)
    lent_names None firm w at = tt
    lent_names (Some q) firm w at = (
      look_names clean n w.roots since.roots q at.stand,
      look_back clean n w.roots since.roots q at.stand
          (firm_still clean n w.roots since.roots q at.stand firm),
    )

    lent_plain : (o : Option Place) → LendsFirm o → (w : World S) → At on n w →
        LendsPlain (lent_at w.roots o) w.scope w.roots
    lent_plain None firm w at = tt
    lent_plain (Some q) firm w at = firm_still clean n w.roots since.roots q at.stand firm

    -- a native is called, to which the place is lent
    pub lends_native : (name : List ℕ) (args : List Held) (e : Frame) → Arguments clean n args →
        (o : Option Place) → LendsFirm o → (w : World S) → At on n w →
        Leaves m clean to n (rules.native_or m (heard (Failed NoMemory)) name (lent_at w.roots o) args e w
        (λ v w1. heard (Came v) w1) (rules.failed_so m heard))
    lends_native name args e given o firm w at =
        natives on to n low (heard (Failed NoMemory)) outs e (lent_at w.roots o)
        (λ v w1. heard (Came v) w1) (rules.failed_so m heard)
        (λ j le v w1 there named. hears j le (Came v) w1 named there)
        (λ j le x w1 there plain bound. fails_later j le x w1 there bound) name args w at
        (lent_names o firm w at) (lent_plain o firm w at) given

    -- a native that a walk calls
    pub performs : (k : ℕ) (f : Frame) (c : Call) (o : Option Place) → LendsFirm o →
        ValuesName clean n c.values → (w : World S) → At on n w →
        Leaves m clean to n (rules.performed m k f c o heard w)
    performs k f c o firm values w at =
        by_content (flat_all w.cells (map read_write c.values)) refl where
          by_content : (hs : Option (List Held)) → flat_all w.cells (map read_write c.values) ≡ hs →
              Leaves m clean to n (rules.needed m k f c (lent_at w.roots o) heard w hs)
          by_content None is =
              fails_so (Plain (DataRace (race_text [])) c.position) w at (omega arith, λ s. refl)
          by_content (Some args) is =
              lends_native c.name args (at_step m.program k c.step c.position f)
              (flat_all_names clean n w.cells (map read_write c.values) args at.contents
              (held_values clean n c.values values) is) o firm w at

  -- a function that a walk calls is over
  overs : (q : Position) (g : Function) (n : ℕ) → least ≤ n → (heard : Answer → World S → Act S) →
      Hears n heard → (j : ℕ) → n ≤ j → (a : Answer) (w : World S) → At on j w → AnswerNames clean j a →
      Leaves m clean to j (rules.body_over m q g heard a w)
  overs q g n low heard hears j le (Came v) w at named = hears j le (Came v) w named at
  overs q g n low heard hears j le (Failed x) w at named =
      body_fails on to j (heard (Failed NoMemory))
      (λ v there. hears j le (Failed NoMemory) v (omega arith, λ s. refl) there)
      (λ y. heard (Failed y)) (λ y v there bound. hears j le (Failed y) v bound there) q g x w at named

  pub under : (q : Position) (g : Function) (args : List Held) (n : ℕ) → least ≤ n →
      Operands clean n args → (heard : Answer → World S → Act S) → Hears n heard →
      (this : Option Place) (w : World S) → At on n w →
      Leaves m clean to n (rules.function_under m q g args heard this w)
  under q g args n low given heard hears this w at =
      body_calls on to n (heard (Failed NoMemory))
      (λ v there. hears n (omega arith) (Failed NoMemory) v (omega arith, λ s. refl) there)
      (λ x. heard (Failed x)) (λ x v there bound. hears n (omega arith) (Failed x) v bound there) q g
      args given this (rules.body_over m q g heard) (overs q g n low heard hears) w at

module _ {S : Type 0} {m : Setup S} (on : Bases m) (to : Since) where
  open on use {clean, least, since}

  module _ (n : ℕ) (low : least ≤ n) (heard : Answer → World S → Act S)
      (hears : Hears on to n heard) where
    -- a copy of what can only be read is a root of a stretch of its own
    copied : (q : Position) (g : Function) (args : List Held) → Operands clean n args →
        (h : Held) → HeldNames clean n h → (this : Option Place) (w : World S) → At on n w →
        Leaves m clean to n (rules.function_under m q g args
        (rules.copy_dropped m (length w.roots) heard) this (record w { roots = w.roots ++ h ∷ [] }))
    copied q g args given h held this w at =
        under (record on { since = record since { cells = w.cells; roots = w.roots ++ h ∷ [] } }) to q g args
        n low given (rules.copy_dropped m (length w.roots) heard)
        (λ j le a v named there. hears j le a (record v { roots = take (length w.roots) v.roots }) named
        (joined_on at (root_gone w.roots h there))) this (record w { roots = w.roots ++ h ∷ [] })
        (with_root h held at)

    pub calls : (q : Position) (g : Function) (args : List Held) → Operands clean n args →
        (o : Option Place) (w : World S) → At on n w →
        Leaves m clean to n (rules.function_called m q g args heard o w)
    calls q g args given None w at = under on to q g args n low given heard hears None w at
    calls q g args given (Some p) w at =
        by_test (Leaves m clean to n) (look w.roots p).read_only
        (rules.function_under m q g args (rules.copy_dropped m (length w.roots) heard)
        (Some (record { root = length w.roots; path = [] }))
        (record w { roots = w.roots ++ look w.roots p ∷ [] }))
        (rules.function_under m q g args heard (Some p) w)
        (λ copy. copied q g args given (look w.roots p)
        (look_names clean n w.roots since.roots p at.stand)
        (Some (record { root = length w.roots; path = [] })) w at)
        (λ there. under on to q g args n low given heard hears (Some p) w at)

    module _ (k : ℕ) (f : Frame) (i : Invocation) (values : ValuesName clean n i.values)
        (o : Option Place) (firm : LendsFirm on to o) where
      calls_pointed : (r : FnPtr) → Names clean n (dynamic.Pointer r) → (g : Option Function)
          (w : World S) → At on n w → Leaves m clean to n (rules.pointed_called m k f i o heard r g w)
      calls_pointed r named None w at =
          performs on to n low heard hears k f (pointed_native i r) o firm
          (all_joined (Names clean n) (map value_of r.curry) i.values
          (curry_values clean n r.curry named) values) w at
      calls_pointed r named (Some g) w at =
          calls i.position g (curried_in r ++ map read_write i.values)
          (all_joined (HeldNames clean n) (curried_in r) (map read_write i.values)
          (curried_names clean n r named) (held_values clean n i.values values)) o w at

      calls_numbered : (g : Option Function) (w : World S) → At on n w →
          Leaves m clean to n (rules.numbered_called m k f i o heard g w)
      calls_numbered None w at =
          hears n (omega arith) (Came dynamic.Unit) w (omega arith, λ s. refl) at
      calls_numbered (Some g) w at =
          calls i.position g (map read_write i.values) (held_values clean n i.values values) o w at

      pub invokes : (method : Method) → MethodNames clean n method → (w : World S) → At on n w →
          Leaves m clean to n (rules.invoked m k f i o heard method w)
      invokes (Numbered j) named w at =
          calls_numbered (function_numbered m.program (Some j)) w at
      invokes (Pointed r) named w at =
          calls_pointed r named
          (function_by_name m.program r.name (length r.curry + length i.values)) w at

  -- the walk of a task, from a place of which what is solid is firm
  module _ (bare : Bool) (f : Frame) (k : ℕ) (p : Place) (i : ℕ)
      (firm : (q : Place) → Solid bare q → FirmAt since.roots (placed p i q))
      (done : Walked → World S → Act S) (first : ℕ)
      (over : (n : ℕ) → first ≤ n → (o : Walked) (w : World S) → WalkedNames clean n o → At on n w →
      Leaves m clean to n (done o w)) where
    abbrev Walks : ℕ → Option (List Fault) → Task → World S → Type 0
    Walks n missed t w = Leaves m clean to n (rules.walks m k f p i missed t done w)

    lends : (o : Option Place) → LendsSolid bare o →
        LendsFirm on to (option_map (placed p i) o)
    lends None solid = tt
    lends (Some q) solid = firm q solid

    pub walks_within : (t : Task) (n : ℕ) → least ≤ n → first ≤ n → TaskNames clean bare n t →
        (missed : Option (List Fault)) (w : World S) → At on n w → Walks n missed t w
    walks_within (Done o) n low le h missed w at = over n le o w h at
    walks_within (Mark out go) n low le h missed w at =
        by_test (Leaves m clean to n) (is_stop m.stop w.passed) (rules.walks m k f p i missed out done w)
        (rules.walks m k f p i missed go done (record w { passed = w.passed + 1 }))
        (λ stop. walks_within out n low le h.0 missed w at)
        (λ clear. walks_within go n low le h.1 missed (record w { passed = w.passed + 1 }) at)
    walks_within (Look q go) n low le h missed w at =
        let r : Held = look w.roots (placed p i q) in
        walks_within (go r) n low le
        (h r (look_names clean n w.roots since.roots (placed p i q) at.stand)) missed w at
    walks_within (Flatten v go) n low le h missed w at =
        by_content (flat w.cells v) refl (λ o names. walks_within (go o) n low le names missed w at) where
          by_content : (o : Option Dynamic) → flat w.cells v ≡ o →
              ((o : Option Dynamic) → TaskNames clean bare n (go o) → Walks n missed (go o) w) →
              Walks n missed (go o) w
          by_content None is later = later None h.1
          by_content (Some u) is later =
              later (Some u) (h.2 u (flat_names clean n w.cells v u at.contents h.0 is))
    walks_within (Write q v t) n low le h missed w at =
        walks_within t n low le h.1 missed (record w { roots = put w.roots (placed p i q) v })
        (root_put on n low w (placed p i q) v at h.0.0 (may_put clean n (placed p i q).path v h.0.1))
    walks_within (Root g t) n low le h missed w at =
        walks_within t n low le h.1 missed (record w { roots = w.roots ++ g ∷ [] }) (record {
          size = at.size;
          entries = at.entries;
          contents = at.contents;
          reaches = at.reaches;
          hands = at.hands;
          waits = at.waits;
          lends = at.lends;
          stand = roots_added clean n w.roots since.roots g at.stand h.0;
          plain = at.plain;
        })
    walks_within (Drop j go) n low le h missed w at =
        let r : Held = look w.roots (record { root = i + j; path = [] }) in
        walks_within (go r) n low le
        (h r (look_names clean n w.roots since.roots (record { root = i + j; path = [] }) at.stand))
        missed (record w { roots = take (i + j) w.roots }) (record {
          size = at.size;
          entries = at.entries;
          contents = at.contents;
          reaches = at.reaches;
          hands = at.hands;
          waits = at.waits;
          lends = at.lends;
          stand = roots_taken clean n (i + j) w.roots since.roots at.stand;
          plain = at.plain;
        })
    walks_within (Need c go) n low le h missed w at =
        performs on to n low (λ a w1. rules.walks m k f p i (missed_by a w1.trace) (go a) done
        (record w1 { trace = trace_of missed a w1.trace }))
        (λ j more a w1 bound in1. walks_within (go a) j (omega (arith, low, more))
        (omega (arith, le, more)) (h.2 j more a bound) (missed_by a w1.trace)
        (record w1 { trace = trace_of missed a w1.trace }) in1) k f c
        (option_map (placed p i) c.receiver) (lends c.receiver h.1) h.0 (record w { trace = [] }) at
    walks_within (Invoke c go) n low le h missed w at =
        invokes n low (λ a w1. rules.walks m k f p i None (go a) done w1)
        (λ j more a w1 bound in1. walks_within (go a) j (omega (arith, low, more))
        (omega (arith, le, more)) (h.3 j more a bound) None w1 in1) k f c h.1
        (option_map (placed p i) c.this) (lends c.this h.2) c.method h.0 (record w { trace = [] }) at
