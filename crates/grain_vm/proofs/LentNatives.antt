-- A native that is called on a receiver, which is a root that is added to the others.
use Rattle.std.proofs.Common.{◌≡◌, ◌∙◌, ◌&&◌, ◌+◌, ◌≤◌, ℕ, List, [], ◌∷◌, ◌++◌, Option, Some, None, Bool, true, false, Result, Ok, Err, inl, inr, refl, sym, ap, subst, arith}
use Rattle.std.specs.Prelude.{if◌then◌else◌}
use Rattle.grain_value.specs.Operands.{values_in}
use Rattle.grain_value.specs.Tree.{Tree}
use Rattle.grain_value.specs.declared.natives.Native.{Native}
use Rattle.grain_value.specs.declared.scopes.Entry.{Entry}
use Rattle.grain_value.specs.declared.values.Dynamic.{Dynamic}
use Rattle.grain_value.specs.declared.values.FnPtr.{FnPtr}
use Rattle.grain_value.specs.declared.values.Held.{Held}
use Rattle.grain_fault.specs.Positions.{at_position_if_none}
use Rattle.grain_fault.specs.Problems.{Problem, Plain, NonPureCall, NoMemory, problem_of}
use Rattle.grain_fault.specs.declared.faults.EvalAltResult.{EvalAltResult}
use Rattle.grain_fault.specs.declared.places.Position.{Position}
use Rattle.grain_host.specs.Law.{Law, native_of, written}
use Rattle.grain_host.specs.Law as reply
use Rattle.grain_host.specs.Signatures.{not_found}
use Rattle.grain_global.specs.StepsView.{StepsView}
use Rattle.grain_means.specs.Worlds.{is_stop, Act, Answer, Came, Failed, Frame, Go, InHost, Setup, Then, World}
use Rattle.grain_means.specs.Rules.Chains.{new_root}
use Rattle.grain_means.specs.Rules.Faults.{position}
use Rattle.grain_means.specs.Rules.Homes.{AtPlace, Home}
use Rattle.grain_means.specs.Rules.InWorld.{failed_so, lent_at}
use Rattle.grain_means.specs.Rules.Natives.{Receiver, cells_given_back, cells_lent, first_is_read_only, given, given_back, host_called_or, kinds_in, lent_held, native_found_or, native_or, native_over, receiver_left, roots_given_back, trees_in, with_token}
use Rattle.grain_means.specs.Rules.Receivers.{native_lent}
use Rattle.grain_means.specs.Simulation.{Environment, NoStopWithin, StopsHere, stopped, world}
use Rattle.grain_means.specs.lemmas.PlaceLaws.{some-inj}
use Rattle.grain_chain.specs.Walking.{is_want, no_memory, outcome_of}
use Rattle.grain_frame.specs.Natives.{Seeks}
use Rattle.grain_frame.specs.declared.native_calls.Sought.TheVariants as sought
use Rattle.grain_frame.specs.declared.runs.Run.{Run}
use Rattle.grain_frame.specs.declared.native_calls.Asked.{Asked}
use Rattle.grain_frame.specs.declared.waiting.Loan.TheVariants as have
use Rattle.grain_vm.specs.Driving.{AsksHost, HearsEnd, HearsHost, beside, lent_from}
use Rattle.grain_vm.specs.declared.driving.AskingNative.{AskingNative}
use Rattle.grain_vm.specs.declared.driving.Answered.TheVariants as answered
use Rattle.grain_vm.proofs.OnReceivers.{look-new, put-left}

-- what a native does on what it is lent, in a frame at this position
module _ {S : Type 0} (n : Setup S) (g : Frame) (q : Position) (at : position n g ≡ q) (name : List ℕ)
    (r : Option Receiver) (args : List Held) (heard : Answer → World S → Act S) (w : World S) where
  abbrev asked : Act S
  asked =
      native_or n (heard (Failed NoMemory)) name r args g w (λ v w1. heard (Came v) w1)
      (failed_so n heard)

  called_out : (key : ℕ) (b : Bool) → is_stop n.stop w.passed ≡ true →
      (if b then failed_so n heard (Plain (NonPureCall name) (position n g)) w
      else host_called_or n (heard (Failed NoMemory)) key r args g w (λ v w1. heard (Came v) w1)
      (failed_so n heard)) ≡ heard (Failed NoMemory) w
  called_out key true out = rw out refl
  called_out key false out = rw out refl

  found_out : (o : Option Native) → is_stop n.stop w.passed ≡ true →
      native_found_or n (heard (Failed NoMemory)) o name r args g w (λ v w1. heard (Came v) w1)
      (failed_so n heard) ≡ heard (Failed NoMemory) w
  found_out None out = rw out refl
  found_out (Some one) out = called_out one.key (one.writes && first_is_read_only (given r args)) out

  -- memory is out
  pub asks_out : is_stop n.stop w.passed ≡ true → asked ≡ heard (Failed NoMemory) w
  asks_out out = found_out (native_of n.law w.host name (kinds_in (given r args))) out

  -- there is no such native
  pub asks_none : native_of n.law w.host name (kinds_in (given r args)) ≡ None →
      is_stop n.stop w.passed ≡ false →
      asked ≡ heard (Failed (not_found name (values_in (given r args)) q))
      (record w { passed = w.passed + 1 })
  asks_none none clear = rw (none, clear, at) refl

  module _ (one : Native)
      (is : native_of n.law w.host name (kinds_in (given r args)) ≡ Some one) where
    -- it may not be called
    pub asks_constant : (one.writes && first_is_read_only (given r args)) ≡ true →
        is_stop n.stop w.passed ≡ false →
        asked ≡ heard (Failed (Plain (NonPureCall name) q)) (record w { passed = w.passed + 1 })
    asks_constant writes clear = rw (is, writes, clear, at) refl

    module _ (writes : (one.writes && first_is_read_only (given r args)) ≡ false)
        (clear : is_stop n.stop w.passed ≡ false)
        (still : is_stop n.stop (w.passed + 1) ≡ false) where
      -- the world once the host has answered
      abbrev served : ℕ → World S
      served passed = record w {
        host = n.law.call_after w.host one.key (lent_held r) (trees_in args);
        scope = given_back n.law w.host one.key (trees_in args) r w.scope;
        cells = cells_given_back n.law w.host one.key (trees_in args) r w.cells;
        roots = roots_given_back n.law w.host one.key (trees_in args) r w.roots;
        passed = passed;
      }

      pub asks_value : (v : Dynamic) →
          reply.Done v ≡ n.law.call_reply w.host one.key (lent_held r) (trees_in args) →
          asked ≡ heard (Came v) (served (w.passed + 1 + 1))
      asks_value v said = rw (is, writes, clear, still, ← said) refl

      pub asks_fault : (y : Problem) →
          reply.Failed y ≡ n.law.call_reply w.host one.key (lent_held r) (trees_in args) →
          is_stop n.stop (w.passed + 1 + 1) ≡ false →
          asked ≡ heard (Failed (at_position_if_none q y)) (served (w.passed + 1 + 1 + 1))
      asks_fault y said last = rw (is, writes, clear, still, ← said, last, at) refl

      -- it asks for a call first
      pub asks_first : (token : ℕ) (p : FnPtr) (values : List Tree) →
          reply.Ask token p values ≡ n.law.call_reply w.host one.key (lent_held r) (trees_in args) →
          asked ≡ Then (Go (InHost (record {
            receiver = receiver_left n.law w.host one.key (trees_in args) r;
            frame = g;
            token = token;
            pointer = p;
            values = values;
          })) (record (served (w.passed + 1 + 1)) {
            cells = cells_lent (receiver_left n.law w.host one.key (trees_in args) r)
                (cells_given_back n.law w.host one.key (trees_in args) r w.cells);
            tokens = with_token token w.tokens;
          })) (native_over (heard (Failed NoMemory)) (λ v w1. heard (Came v) w1) (failed_so n heard))
      asks_first token p values said = rw (is, writes, clear, still, ← said) refl

-- what is lent keeps its flag
pub written_so : {H : Type 0} (law : Law H) (host : H) (key : ℕ) (values : List Tree) (h : Held) →
    (written law host key values h).read_only ≡ h.read_only
written_so law host key values h = at (law.writes host key) where
  at : (b : Bool) →
      (if b then record h { value = law.call_written host key h values } else h).read_only ≡ h.read_only
  at true = refl
  at false = refl

-- The host has a native of this name, for a receiver and these arguments, which was called and asks for a
-- call first.
pub record AsksFirst {H : Type 0} (law : Law H) (host : H) (name : List ℕ) (h : Held)
    (args : List Held) (q : Position) (n : StepsView) (a : AskingNative) (n' : StepsView) (host' : H) :
    Type 0 where
  pub one : Native
  pub is : native_of law host name (kinds_in (h ∷ args)) ≡ Some one
  pub writes : (one.writes && first_is_read_only (h ∷ args)) ≡ false
  pub said : reply.Ask a.asked.token a.asked.pointer a.asked.values
      ≡ law.call_reply host one.key (Some h) (trees_in args)
  pub after : host' ≡ law.call_after host one.key (Some h) (trees_in args)
  pub lent : a.lent ≡ have.Apart (written law host one.key (trees_in args) h)
  pub pos : a.pos ≡ q
  pub marks : n' ≡ record n { passed = n.passed + 1 + 1 }

pub first_of : {H : Type 0} (law : Law H) (host : H) (name : List ℕ) (home : Home) (h : Held)
    (args : List Held) (q : Position) (n : StepsView) (a : AskingNative) (n' : StepsView) (host' : H) →
    AsksHost law host name home (Some h) args q n (answered.Asks a) n' host' →
    AsksFirst law host name h args q n a n' host'
first_of law host name home h args q n a n' host' (inl none) = absurd none
first_of law host name home h args q n a n' host' (inr (inl none)) = absurd none
first_of law host name home h args q n a n' host' (inr (inr (key, values, seeks, heard))) =
    let did = subst (λ (ts : List Tree). HearsHost law host seeks.0.key (Some h) ts q n
    (answered.Asks a) n' host') seeks.4
    (subst (λ (j : ℕ). HearsHost law host j (Some h) values q n (answered.Asks a) n' host') seeks.3
    heard) in
    record {
      one = seeks.0;
      is = seeks.1;
      writes = seeks.2;
      said = did.0;
      after = did.1;
      lent = did.2;
      pos = did.3;
      marks = did.4;
    }

-- The host was asked for a native of this name, for a receiver and these arguments, as the code says.
module _ {H : Type 0} (law : Law H) (m : Setup H) (own : m.law ≡ law)
    (name : List ℕ) (home : Home) (h : Held) (args : List Held) (q : Position) (g : Frame)
    (at : position m g ≡ q) (heard : Answer → World H → Act H) (scope : List Entry)
    (this : Option Held) (s : Run H) (bs : List Held) (u : Environment) where
  -- the world with this receiver
  abbrev with_root : StepsView → H → Held → World H
  with_root n host x = record (world (beside scope this s n host) u) { roots = bs ++ x ∷ [] }

  abbrev receiver : Option Receiver
  receiver = Some (record { home = AtPlace (new_root bs); held = h })

  abbrev lent_to : Option ℕ → StepsView → H → Option Receiver → Act H
  lent_to stop n host r =
      native_or (stopped m stop) (heard (Failed NoMemory)) name r args g (with_root n host h)
      (λ v w1. heard (Came v) w1) (failed_so (stopped m stop) heard)

  is_lent : lent_at (bs ++ h ∷ []) (Some (new_root bs)) ≡ receiver
  is_lent =
      ap (λ (x : Held). Some (record { home = AtPlace (new_root bs); held = x })) (look-new bs h)

  module _ (n : StepsView) (host : H) where
    -- what follows from the outcome, with what is left of the receiver
    abbrev pub Follows : Result Dynamic EvalAltResult → StepsView → H → Held → Type 0
    Follows o n' host' left =
        (stop : Option ℕ) → NoStopWithin stop n.passed n'.passed →
        StopsHere (is_want o) stop n'.passed →
        native_lent (stopped m stop) name args g heard (new_root bs) (with_root n host h)
        ≡ heard (outcome_of o) (with_root n' host' left)

    follows_memory : (e : EvalAltResult) → problem_of e ≡ NoMemory → Follows (Err e) n host h
    follows_memory e wants stop clear halts =
        ap (lent_to stop n host) is_lent
        ∙ asks_out (stopped m stop) g q at name receiver args heard (with_root n host h)
        (subst (λ (y : Problem). StopsHere (no_memory y) stop n.passed) wants halts)
        ∙ ap (λ (y : Problem). heard (Failed y) (with_root n host h)) (sym wants)

    found : (o : Option Native) →
        native_of law host name (kinds_in (given (lent_from home (Some h)) args)) ≡ o →
        native_of m.law host name (kinds_in (given receiver args)) ≡ o
    found o is = ap (λ (l : Law H). native_of l host name (kinds_in (h ∷ args))) own ∙ is

    follows_refused : (e : EvalAltResult) →
        Seeks law host name (lent_from home (Some h)) args q (sought.Fault e) →
        Follows (Err e) (record n { passed = n.passed + 1 }) host h
    follows_refused e (inl none) stop clear halts =
        ap (lent_to stop n host) is_lent
        ∙ asks_none (stopped m stop) g q at name receiver args heard (with_root n host h)
        (found None none.0) (clear n.passed (omega arith) (omega arith))
        ∙ ap (λ (y : Problem). heard (Failed y) (with_root (record n { passed = n.passed + 1 }) host h))
        (sym none.1)
    follows_refused e (inr one) stop clear halts =
        ap (lent_to stop n host) is_lent
        ∙ asks_constant (stopped m stop) g q at name receiver args heard (with_root n host h) one.0
        (found (Some one.0) one.1) one.2 (clear n.passed (omega arith) (omega arith))
        ∙ ap (λ (y : Problem). heard (Failed y) (with_root (record n { passed = n.passed + 1 }) host h))
        (sym one.3)

    module _ (one : Native)
        (is : native_of m.law host name (kinds_in (given receiver args)) ≡ Some one)
        (writes : (one.writes && first_is_read_only (given receiver args)) ≡ false) where
      abbrev left_after : Held
      left_after = written m.law host one.key (trees_in args) h

      abbrev host_after : H
      host_after = m.law.call_after host one.key (Some h) (trees_in args)

      -- what was lent is back
      back : (a : Answer) (passed : ℕ) →
          heard a (record (with_root n host h) {
            host = host_after;
            roots = roots_given_back m.law host one.key (trees_in args) receiver (bs ++ h ∷ []);
            passed = passed;
          }) ≡ heard a (with_root (record n { passed = passed }) host_after left_after)
      back a passed =
          ap (λ (us : List Held). heard a (record (with_root n host h) {
            host = host_after;
            roots = us;
            passed = passed;
          })) (put-left bs h left_after (written_so m.law host one.key (trees_in args) h))

      follows_value : (v : Dynamic) →
          reply.Done v ≡ m.law.call_reply host one.key (Some h) (trees_in args) →
          Follows (Ok v) (record n { passed = n.passed + 1 + 1 }) host_after left_after
      follows_value v said stop clear halts =
          ap (lent_to stop n host) is_lent
          ∙ asks_value (stopped m stop) g q at name receiver args heard (with_root n host h) one is writes
          (clear n.passed (omega arith) (omega arith)) (clear (n.passed + 1) (omega arith) (omega arith))
          v said
          ∙ back (Came v) (n.passed + 1 + 1)

      follows_fault : (e : EvalAltResult) (y : Problem) →
          reply.Failed y ≡ m.law.call_reply host one.key (Some h) (trees_in args) →
          problem_of e ≡ at_position_if_none q y →
          Follows (Err e) (record n { passed = n.passed + 1 + 1 + 1 }) host_after left_after
      follows_fault e y said placed stop clear halts =
          ap (lent_to stop n host) is_lent
          ∙ asks_fault (stopped m stop) g q at name receiver args heard (with_root n host h) one is writes
          (clear n.passed (omega arith) (omega arith)) (clear (n.passed + 1) (omega arith) (omega arith))
          y said (clear (n.passed + 1 + 1) (omega arith) (omega arith))
          ∙ back (Failed (at_position_if_none q y)) (n.passed + 1 + 1 + 1)
          ∙ ap (λ (z : Problem). heard (Failed z)
          (with_root (record n { passed = n.passed + 1 + 1 + 1 }) host_after left_after)) (sym placed)

    follows_called : (o : Result Dynamic EvalAltResult) (n' : StepsView) (host' : H) (left : Held)
        (one : Native) →
        native_of m.law host name (kinds_in (given receiver args)) ≡ Some one →
        (one.writes && first_is_read_only (given receiver args)) ≡ false →
        HearsEnd m.law host one.key (Some h) (trees_in args) q n o n' host' (Some left) →
        Follows o n' host' left
    follows_called (Ok v) n' host' left one is writes did =
        rw (did.1, some-inj did.2, did.3) (follows_value one is writes v did.0)
    follows_called (Err e) n' host' left one is writes (inl wants) =
        rw (wants.1, some-inj wants.2, wants.3) (follows_memory e wants.0)
    follows_called (Err e) n' host' left one is writes (inr did) =
        rw (did.3, some-inj did.4, did.5) (follows_fault one is writes e did.0 did.1 did.2)

    -- the host was asked
    pub follows_asked : (o : Result Dynamic EvalAltResult) (n' : StepsView) (host' : H) (left : Held) →
        AsksHost law host name home (Some h) args q n (answered.Over (o, Some left)) n' host' →
        Follows o n' host' left
    follows_asked (Ok v) n' host' left (inl wants) = absurd wants
    follows_asked (Err e) n' host' left (inl wants) =
        rw (wants.1, some-inj wants.2, wants.3) (follows_memory e wants.0)
    follows_asked (Ok v) n' host' left (inr (inl refuses)) = absurd refuses
    follows_asked (Err e) n' host' left (inr (inl refuses)) =
        rw (refuses.1, some-inj refuses.2, refuses.3) (follows_refused e refuses.0)
    follows_asked o n' host' left (inr (inr (key, values, seeks, heard))) =
        follows_called o n' host' left seeks.0 (found (Some seeks.0) seeks.1) seeks.2
        (subst (λ (l : Law H). HearsEnd l host seeks.0.key (Some h) (trees_in args) q n o n' host'
        (Some left)) (sym own)
        (subst (λ (ts : List Tree). HearsEnd law host seeks.0.key (Some h) ts q n o n' host' (Some left))
        seeks.4
        (subst (λ (j : ℕ). HearsEnd law host j (Some h) values q n o n' host' (Some left)) seeks.3
        heard)))

    -- the call that the native asks for, and then what follows
    abbrev pub asking_so : Option ℕ → Asked → StepsView → H → Held → Act H
    asking_so stop a n' host' left =
        Then (Go (InHost (record {
          receiver = Some (record { home = AtPlace (new_root bs); held = left });
          frame = g;
          token = a.token;
          pointer = a.pointer;
          values = a.values;
        })) (record (with_root n' host' left) { tokens = with_token a.token u.tokens }))
        (native_over (heard (Failed NoMemory)) (λ v w1. heard (Came v) w1)
        (failed_so (stopped m stop) heard))

    -- the native asks for that first
    abbrev pub FollowsFirst : Asked → StepsView → H → Held → Type 0
    FollowsFirst a n' host' left =
        (stop : Option ℕ) → NoStopWithin stop n.passed n'.passed →
        native_lent (stopped m stop) name args g heard (new_root bs) (with_root n host h)
        ≡ asking_so stop a n' host' left

    follows_call : (one : Native) (a : Asked) →
        native_of m.law host name (kinds_in (given receiver args)) ≡ Some one →
        (one.writes && first_is_read_only (given receiver args)) ≡ false →
        reply.Ask a.token a.pointer a.values ≡ m.law.call_reply host one.key (Some h) (trees_in args) →
        FollowsFirst a (record n { passed = n.passed + 1 + 1 })
        (m.law.call_after host one.key (Some h) (trees_in args))
        (written m.law host one.key (trees_in args) h)
    follows_call one a is writes said stop clear =
        let host_after : H = m.law.call_after host one.key (Some h) (trees_in args) in
        let left : Held = written m.law host one.key (trees_in args) h in
        ap (lent_to stop n host) is_lent
        ∙ asks_first (stopped m stop) g q at name receiver args heard (with_root n host h) one is writes
        (clear n.passed (omega arith) (omega arith)) (clear (n.passed + 1) (omega arith) (omega arith))
        a.token a.pointer a.values said
        ∙ ap (λ (us : List Held). Then (Go (InHost (record {
          receiver = Some (record { home = AtPlace (new_root bs); held = left });
          frame = g;
          token = a.token;
          pointer = a.pointer;
          values = a.values;
        })) (record (with_root n host h) {
          host = host_after;
          roots = us;
          passed = n.passed + 1 + 1;
          tokens = with_token a.token u.tokens;
        })) (native_over (heard (Failed NoMemory)) (λ v w1. heard (Came v) w1)
        (failed_so (stopped m stop) heard)))
        (put-left bs h left (written_so m.law host one.key (trees_in args) h))

    pub follows_first : (a : AskingNative) (n' : StepsView) (host' : H)
        (did : AsksFirst m.law host name h args q n a n' host') →
        FollowsFirst a.asked n' host' (written m.law host did.one.key (trees_in args) h)
    follows_first a n' host' did =
        rw (did.marks, did.after) (follows_call did.one a.asked did.is did.writes did.said)

later : (n n' : StepsView) (k : ℕ) → n.passed ≤ k → n' ≡ record n { passed = k } →
    n.passed ≤ n'.passed
later n n' k more is = subst (λ (l : StepsView). n.passed ≤ l.passed) (sym is) more

hears_later : {H : Type 0} (law : Law H) (host : H) (key : ℕ) (x : Option Held) (values : List Tree)
    (q : Position) (n : StepsView) (o : Result Dynamic EvalAltResult) (n' : StepsView) (host' : H)
    (left : Option Held) → HearsEnd law host key x values q n o n' host' left → n.passed ≤ n'.passed
hears_later law host key x values q n (Ok v) n' host' left did =
    later n n' (n.passed + 1 + 1) (omega arith) did.3
hears_later law host key x values q n (Err e) n' host' left (inl wants) =
    later n n' n.passed (omega arith) wants.3
hears_later law host key x values q n (Err e) n' host' left (inr did) =
    later n n' (n.passed + 1 + 1 + 1) (omega arith) did.5

-- no mark is taken back
pub asks_later : {H : Type 0} (law : Law H) (host : H) (name : List ℕ) (home : Home) (x : Option Held)
    (args : List Held) (q : Position) (n : StepsView) (o : Result Dynamic EvalAltResult)
    (n' : StepsView) (host' : H) (left : Option Held) →
    AsksHost law host name home x args q n (answered.Over (o, left)) n' host' → n.passed ≤ n'.passed
asks_later law host name home x args q n (Ok v) n' host' left (inl wants) = absurd wants
asks_later law host name home x args q n (Err e) n' host' left (inl wants) =
    later n n' n.passed (omega arith) wants.3
asks_later law host name home x args q n (Ok v) n' host' left (inr (inl refuses)) = absurd refuses
asks_later law host name home x args q n (Err e) n' host' left (inr (inl refuses)) =
    later n n' (n.passed + 1) (omega arith) refuses.3
asks_later law host name home x args q n o n' host' left (inr (inr (key, values, seeks, heard))) =
    hears_later law host key x values q n o n' host' left heard

pub first_later : {H : Type 0} (law : Law H) (host : H) (name : List ℕ) (h : Held) (args : List Held)
    (q : Position) (n : StepsView) (a : AskingNative) (n' : StepsView) (host' : H) →
    AsksFirst law host name h args q n a n' host' → n.passed ≤ n'.passed
first_later law host name h args q n a n' host' did =
    later n n' (n.passed + 1 + 1) (omega arith) did.marks
