-- What a walk needs was asked of the host.
use Rattle.std.proofs.Common.{◌≡◌, ◌∙◌, ◌&&◌, ℕ, ◌+◌, List, [], Option, Some, None, Bool, true, false, Result, Ok, Err, map, inl, inr, refl, sym, ap, subst, if◌then◌else◌}
use Rattle.grain_value.specs.Tree.{Tree}
use Rattle.grain_value.specs.View.{value_of}
use Rattle.grain_value.specs.Operands.{read_write, values_in}
use Rattle.grain_value.specs.declared.values.Dynamic.{Dynamic}
use Rattle.grain_value.specs.declared.values.Held.{Held}
use Rattle.grain_value.specs.declared.scopes.Entry.{Entry}
use Rattle.grain_value.specs.declared.natives.Native.{Native}
use Rattle.grain_fault.specs.declared.places.Position.{Position}
use Rattle.grain_fault.specs.Positions.{at_position, at_position_if_none, position_of_problem}
use Rattle.grain_fault.specs.Places.{is_nowhere}
use Rattle.grain_fault.specs.declared.faults.EvalAltResult.{EvalAltResult}
use Rattle.grain_fault.specs.declared.traces.Fault.{Fault}
use Rattle.grain_fault.specs.Problems.{Problem, Plain, InFunctionCall, InModule, SystemError, DataRace, NonPureCall, NoMemory, problem_of}
use Rattle.grain_host.specs.Faults.{handed_back}
use Rattle.grain_host.specs.Law.{Law, IsLawful, MayBeAnswered, native_of, receiver_after, written}
use Rattle.grain_host.specs.Law as reply
use Rattle.grain_host.specs.Signatures.{not_found}
use Rattle.grain_means.specs.Worlds.{Answer, Failed, Frame, Place, Setup}
use Rattle.grain_means.specs.Tasks.{Call, Task}
use Rattle.grain_means.specs.Rules.{race_text, flat_all, kinds_in, trees_in, first_is_read_only}
use Rattle.grain_means.specs.Rules.Homes.{Home}
use Rattle.grain_means.specs.Rules.Natives.{given}
use Rattle.grain_means.specs.Rules.InWorld.{at_step, missed_by, trace_of}
use Rattle.grain_means.specs.Driving.{all_given}
use Rattle.grain_means.specs.Simulation.{Binds, LocalState, Computation, Simulates, puts}
use Rattle.grain_means.specs.lemmas.Roots.{puts-bound}
use Rattle.grain_means.specs.lemmas.Spreading.{Rooted}
use Rattle.grain_global.specs.StepsView.{StepsView}
use Rattle.grain_chain.specs.Walking.{call_for, no_memory, outcome_of, is_want}
use Rattle.grain_chain.specs.declared.requests.Request.{Request}
use Rattle.grain_vm.specs.Driving.{AnsweredTo, AsksHost, HearsEnd, HearsHost, IsApart, IsApartIn, RaisesOne, SameFlag, beside, left_by, lent_from, name_in}
use Rattle.grain_vm.specs.Seats.{Rests, Seat, Seated, first_held, kept_by, walk_needing, walk_seated}
use Rattle.grain_vm.specs.declared.driving.Answered.{Answered}
use Rattle.grain_vm.specs.declared.driving.Answered.TheVariants as answered
use Rattle.grain_vm.specs.declared.driving.AskingNative.{AskingNative}
use Rattle.grain_frame.specs.Natives.{Seeks}
use Rattle.grain_frame.specs.Waiting.{apart_of, lent_of}
use Rattle.grain_frame.specs.declared.native_calls.Sought.TheVariants as sought
use Rattle.grain_frame.specs.declared.runs.Run.{Run}
use Rattle.grain_vm.proofs.Lending.{hears_asked, hears_race, hears_memory, hears_none, hears_constant, hears_value, hears_fault}
use Rattle.grain_vm.proofs.Reading.{given_from}

-- a fault at another position is no want of memory, if it was none
moved_fault : (p : Position) (y : Problem) → no_memory y ≡ false → no_memory (at_position p y) ≡ false
moved_fault p (Plain k q) e = refl
moved_fault p (InFunctionCall f s x q) e = refl
moved_fault p (InModule n x q) e = refl
moved_fault p (SystemError s x) e = refl
moved_fault p NoMemory e = e

placed_fault : (p : Position) (y : Problem) → no_memory y ≡ false →
    no_memory (at_position_if_none p y) ≡ false
placed_fault p y e = at (is_nowhere (position_of_problem y)) where
  at : (b : Bool) → no_memory (if b then at_position p y else y) ≡ false
  at true = moved_fault p y e
  at false = e

may_answer : (y : Problem) → handed_back y ≡ false → no_memory y ≡ false
may_answer (Plain k q) e = refl
may_answer (InFunctionCall f s x q) e = refl
may_answer (InModule n x q) e = refl
may_answer (SystemError s x) e = refl
may_answer NoMemory e = absurd cc

pub apart_lent : (o : Option Held) → apart_of (lent_of o) ≡ o
apart_lent None = refl
apart_lent (Some h) = refl

module _ {H : Type 0} (law : Law H) (lawful : IsLawful law) (m : Setup H) (own : m.law ≡ law) (k : ℕ)
    (f : Option Place → Frame) (seat : Seat) (done : Rests H) (named : Bool)
    (missed : Option (List Fault)) (r : Request) (q : Option Place) (go : Answer → Task)
    (rs : List Held) (scope : List Entry) (this : Option Held) (s : Run H) (n : StepsView)
    (host : H) (seated : Seated seat this)
    (rooted : Rooted (first_held seat).read_only rs) (at : Binds rs q r.receiver) where
  abbrev ls : LocalState H
  ls = beside scope this s n host

  abbrev call : Call
  call = call_for (name_in r.what) r q

  abbrev before : Computation H
  before = walk_needing k f seat done named missed call go rs

  abbrev after : Answer → List Held → Computation H
  after a us = walk_seated k f seat done (kept_by named (missed_by a [])) (go a) us

  -- the state once it has answered so
  abbrev told : Answer → StepsView → H → LocalState H
  told a n' host' = record (beside scope this s n' host') {
    trace = trace_of (kept_by named missed) a [];
  }

  still : puts rs q r.receiver ≡ rs
  still = puts-bound rs q r.receiver at

  -- what the code says of what came of it
  abbrev pub Performed : Result Dynamic EvalAltResult → Option Held → StepsView → H → Type 0
  Performed o left n' host' =
      Simulates m ls before (is_want o) (told (outcome_of o) n' host')
      (after (outcome_of o) (puts rs q left))

  abbrev pub Gave : Answered → StepsView → H → Type 0
  Gave a n' host' =
      AnsweredTo m ls before k f seat done named missed q go rs a (beside scope this s n' host')

  wants : Simulates m ls before true (told (Failed NoMemory) n host)
      (after (Failed NoMemory) (puts rs q r.receiver))
  wants =
      subst (λ us. Simulates m ls before true (told (Failed NoMemory) n host) (after (Failed NoMemory) us))
      (sym still) (hears_memory m k f seat done named missed call go rs r.receiver rooted at ls seated)

  -- memory is out
  pub performs_memory : (e : EvalAltResult) → problem_of e ≡ NoMemory →
      Performed (Err e) r.receiver n host
  performs_memory e is =
      subst (λ (y : Problem). Simulates m ls before (no_memory y) (told (Failed y) n host)
      (after (Failed y) (puts rs q r.receiver))) (sym is) wants

  fails : (e : EvalAltResult) (y : Problem) (us : List Held) (n' : StepsView) (host' : H) →
      no_memory y ≡ false → problem_of e ≡ y →
      Simulates m ls before false (told (Failed y) n' host') (after (Failed y) us) →
      Simulates m ls before (no_memory (problem_of e)) (told (Failed (problem_of e)) n' host')
      (after (Failed (problem_of e)) us)
  fails e y us n' host' wants_none is does =
      subst (λ (z : Problem). Simulates m ls before (no_memory z) (told (Failed z) n' host')
      (after (Failed z) us)) (sym is)
      (subst (λ (b : Bool). Simulates m ls before b (told (Failed y) n' host') (after (Failed y) us))
      (sym wants_none) does)

  fails_here : (e : EvalAltResult) (y : Problem) → no_memory y ≡ false → problem_of e ≡ y →
      Simulates m ls before false
      (told (Failed y) (record n { passed = n.passed + 1 }) host) (after (Failed y) rs) →
      Performed (Err e) r.receiver (record n { passed = n.passed + 1 }) host
  fails_here e y wants_none is does =
      subst (λ us. Simulates m ls before (no_memory (problem_of e))
      (told (Failed (problem_of e)) (record n { passed = n.passed + 1 }) host)
      (after (Failed (problem_of e)) us))
      (sym still) (fails e y rs (record n { passed = n.passed + 1 }) host wants_none is does)

  -- one of the arguments is a cell whose content is lent
  pub performs_race : (e : EvalAltResult) (n' : StepsView) →
      flat_all s.cells (map read_write (map value_of r.arguments)) ≡ None →
      RaisesOne (Plain (DataRace (race_text [])) r.pos) e n n' → Performed (Err e) r.receiver n' host
  performs_race e n' none (inl memory) =
      subst (λ (l : StepsView). Performed (Err e) r.receiver l host) (sym memory.1)
      (performs_memory e memory.0)
  performs_race e n' none (inr raised) =
      subst (λ (l : StepsView). Performed (Err e) r.receiver l host) (sym raised.1)
      (fails_here e (Plain (DataRace (race_text [])) r.pos) refl raised.0
      (hears_race m k f seat done named missed call go rs r.receiver rooted at ls seated none))

  module _ (args : List Held)
      (flat : flat_all s.cells (map read_write (map value_of r.arguments)) ≡ Some args) (home : Home)
    where
      found : (o : Option Native) →
          native_of law host call.name (kinds_in (given (lent_from home r.receiver) args)) ≡ o →
          native_of m.law host call.name (kinds_in (all_given r.receiver args)) ≡ o
      found o is =
          ap (λ (l : Law H). native_of l host call.name (kinds_in (all_given r.receiver args))) own
          ∙ ap (λ (l : List Held). native_of law host call.name (kinds_in l))
          (sym (given_from home r.receiver args)) ∙ is

      flag : (one : Native) (b : Bool) →
          (one.writes && first_is_read_only (given (lent_from home r.receiver) args)) ≡ b →
          (one.writes && first_is_read_only (all_given r.receiver args)) ≡ b
      flag one b is =
          ap (λ (l : List Held). one.writes && first_is_read_only l)
          (sym (given_from home r.receiver args)) ∙ is

      -- there is no such native, or it may not be called
      performs_refused : (e : EvalAltResult) →
          Seeks law host call.name (lent_from home r.receiver) args r.pos (sought.Fault e) →
          Performed (Err e) r.receiver (record n { passed = n.passed + 1 }) host
      performs_refused e (inl none) =
          fails_here e (not_found call.name (values_in (all_given r.receiver args)) r.pos) refl
          (none.1 ∙ ap (λ (l : List Held). not_found call.name (values_in l) r.pos)
          (given_from home r.receiver args))
          (hears_none m k f seat done named missed call go rs r.receiver rooted at ls seated args flat
          (found None none.0))
      performs_refused e (inr one) =
          fails_here e (Plain (NonPureCall call.name) r.pos) refl one.3
          (hears_constant m k f seat done named missed call go rs r.receiver rooted at ls seated
          args flat one.0
          (found (Some one.0) one.1) (flag one.0 true one.2))

      -- it was called
      performs_called : (key : ℕ) (values : List Tree) (o : Result Dynamic EvalAltResult)
          (n' : StepsView) (host' : H) (left : Option Held) →
          Seeks law host call.name (lent_from home r.receiver) args r.pos
          (sought.Native key values) →
          HearsEnd law host key r.receiver values r.pos n o n' host' left →
          Performed o left n' host'
      performs_called key values o n' host' left seeks heard =
          by o (subst (λ (l : Law H). HearsEnd l host seeks.0.key r.receiver (trees_in args) r.pos n o n'
          host' left) (sym own)
          (subst (λ (ts : List Tree). HearsEnd law host seeks.0.key r.receiver ts r.pos n o n' host' left)
          seeks.4
          (subst (λ (j : ℕ). HearsEnd law host j r.receiver values r.pos n o n' host' left) seeks.3
          heard))) where
            is : native_of m.law host call.name (kinds_in (all_given r.receiver args))
                ≡ Some seeks.0
            is = found (Some seeks.0) seeks.1

            writes : (seeks.0.writes && first_is_read_only (all_given r.receiver args)) ≡ false
            writes = flag seeks.0 false seeks.2

            may : (y : Problem) →
                reply.Failed y ≡ m.law.call_reply host seeks.0.key r.receiver (trees_in args) →
                handed_back y ≡ false
            may y said =
                subst MayBeAnswered
                (ap (λ (l : Law H). l.call_reply host seeks.0.key r.receiver (trees_in args)) (sym own)
                ∙ sym said) (lawful.faults host seeks.0.key r.receiver (trees_in args))

            by : (o : Result Dynamic EvalAltResult) →
                HearsEnd m.law host seeks.0.key r.receiver (trees_in args) r.pos n o n' host' left →
                Performed o left n' host'
            by (Ok v) did =
                rw (did.1, did.2, did.3) (hears_value m k f seat done named missed call go rs r.receiver
                rooted
                at ls seated args flat seeks.0 is writes v did.0)
            by (Err e) (inl memory) =
                rw (memory.1, memory.2, memory.3) (performs_memory e memory.0)
            by (Err e) (inr did) =
                rw (did.3, did.4, did.5) (fails e (at_position_if_none r.pos did.0)
                (puts rs q (receiver_after m.law host seeks.0.key r.receiver (trees_in args)))
                (record n { passed = n.passed + 1 + 1 + 1 })
                (m.law.call_after host seeks.0.key r.receiver (trees_in args))
                (placed_fault r.pos did.0 (may_answer did.0 (may did.0 did.1))) did.2
                (hears_fault m k f seat done named missed call go rs r.receiver rooted at ls
                seated args flat seeks.0
                is writes did.0 did.1))

      -- it was called, and asks for a call first
      asks_first : (key : ℕ) (values : List Tree) (native : AskingNative) (n' : StepsView) (host' : H) →
          Seeks law host call.name (lent_from home r.receiver) args r.pos
          (sought.Native key values) →
          HearsHost law host key r.receiver values r.pos n (answered.Asks native) n' host' →
          Gave (answered.Asks native) n' host'
      asks_first key values native n' host' seeks heard =
          by (subst (λ (l : Law H). HearsHost l host seeks.0.key r.receiver (trees_in args) r.pos n
          (answered.Asks native) n' host') (sym own)
          (subst (λ (ts : List Tree). HearsHost law host seeks.0.key r.receiver ts r.pos n
          (answered.Asks native) n' host') seeks.4
          (subst (λ (j : ℕ). HearsHost law host j r.receiver values r.pos n (answered.Asks native) n'
          host') seeks.3 heard))) where
            is : native_of m.law host call.name (kinds_in (all_given r.receiver args))
                ≡ Some seeks.0
            is = found (Some seeks.0) seeks.1

            writes : (seeks.0.writes && first_is_read_only (all_given r.receiver args)) ≡ false
            writes = flag seeks.0 false seeks.2

            -- what it has is what the host left
            has : native.lent
                ≡ lent_of (receiver_after m.law host seeks.0.key r.receiver (trees_in args)) →
                apart_of native.lent ≡ receiver_after m.law host seeks.0.key r.receiver (trees_in args)
            has lent =
                ap apart_of lent
                ∙ apart_lent (receiver_after m.law host seeks.0.key r.receiver (trees_in args))

            by : HearsHost m.law host seeks.0.key r.receiver (trees_in args) r.pos n
                (answered.Asks native) n' host' → Gave (answered.Asks native) n' host'
            by did = (
              λ place. at_step m.program k r.step r.pos (f place),
              λ place. sym did.3,
              rw (did.1, did.4, has did.2)
                  (hears_asked m k f seat done named missed call go rs r.receiver rooted at ls seated args
                  flat
                  seeks.0 is writes native.asked did.0),
            )

      -- the host was asked
      pub performs_asked : (a : Answered) (n' : StepsView) (host' : H) →
          AsksHost law host call.name home r.receiver args r.pos n a n' host' → Gave a n' host'
      performs_asked (answered.Over (Ok v, left)) n' host' (inl wants) = absurd wants
      performs_asked (answered.Over (Err e, left)) n' host' (inl wants) =
          rw (wants.1, wants.2, wants.3) (performs_memory e wants.0)
      performs_asked (answered.Asks native) n' host' (inl wants) = absurd wants
      performs_asked (answered.Over (Ok v, left)) n' host' (inr (inl refuses)) = absurd refuses
      performs_asked (answered.Over (Err e, left)) n' host' (inr (inl refuses)) =
          rw (refuses.1, refuses.2, refuses.3) (performs_refused e refuses.0)
      performs_asked (answered.Asks native) n' host' (inr (inl refuses)) = absurd refuses
      performs_asked (answered.Over (o, left)) n' host' (inr (inr (key, values, seeks, heard))) =
          performs_called key values o n' host' left seeks heard
      performs_asked (answered.Asks native) n' host' (inr (inr (key, values, seeks, heard))) =
          asks_first key values native n' host' seeks heard

pub same_flag : (x : Option Held) → SameFlag x x
same_flag None = tt
same_flag (Some h) = refl

pub written_flag : {H : Type 0} (law : Law H) (host : H) (key : ℕ) (values : List Tree) (h : Held) →
    (written law host key values h).read_only ≡ h.read_only
written_flag law host key values h = at (law.writes host key) where
  at : (b : Bool) →
      (if b then record h { value = law.call_written host key h values } else h).read_only ≡ h.read_only
  at true = refl
  at false = refl

after_flag : {H : Type 0} (law : Law H) (host : H) (key : ℕ) (values : List Tree) (x : Option Held) →
    SameFlag x (receiver_after law host key x values)
after_flag law host key values None = tt
after_flag law host key values (Some h) = written_flag law host key values h

hears_flag : {H : Type 0} (law : Law H) (host : H) (key : ℕ) (x : Option Held) (values : List Tree)
    (p : Position) (n : StepsView) (o : Result Dynamic EvalAltResult) (n' : StepsView) (host' : H)
    (left : Option Held) → HearsEnd law host key x values p n o n' host' left → SameFlag x left
hears_flag law host key x values p n (Ok v) n' host' left did =
    subst (SameFlag x) (sym did.2) (after_flag law host key values x)
hears_flag law host key x values p n (Err e) n' host' left (inl memory) =
    subst (SameFlag x) (sym memory.2) (same_flag x)
hears_flag law host key x values p n (Err e) n' host' left (inr did) =
    subst (SameFlag x) (sym did.4) (after_flag law host key values x)

-- what was lent to the host has its flag
pub heard_flag : {H : Type 0} (law : Law H) (host : H) (key : ℕ) (x : Option Held) (values : List Tree)
    (p : Position) (n : StepsView) (a : Answered) (n' : StepsView) (host' : H) →
    HearsHost law host key x values p n a n' host' → SameFlag x (left_by a)
heard_flag law host key x values p n (answered.Over (o, left)) n' host' did =
    hears_flag law host key x values p n o n' host' left did
heard_flag law host key x values p n (answered.Asks native) n' host' did =
    subst (SameFlag x)
    (sym (ap apart_of did.2 ∙ apart_lent (receiver_after law host key x values)))
    (after_flag law host key values x)

lent_apart : (o : Option Held) → IsApart (lent_of o)
lent_apart None = tt
lent_apart (Some h) = tt

-- and stands nowhere in the run
pub heard_apart : {H : Type 0} (law : Law H) (host : H) (key : ℕ) (x : Option Held)
    (values : List Tree) (p : Position) (n : StepsView) (a : Answered) (n' : StepsView) (host' : H) →
    HearsHost law host key x values p n a n' host' → IsApartIn a
heard_apart law host key x values p n (answered.Over o) n' host' did = tt
heard_apart law host key x values p n (answered.Asks native) n' host' did =
    subst IsApart (sym did.2) (lent_apart (receiver_after law host key x values))
