-- What a walk calls, in the walk: the receiver of a function, and what a native has that asks for calls, is
-- what stands at a place of the walk's.
use Rattle.std.proofs.Common.{◌≡◌, ℕ, List, [], Option, Some, None, Bool, false, length, option_map, refl, sym, subst, arith}
use Rattle.std.specs.Prelude.{Result}
use Rattle.grain_value.specs.declared.scopes.Entry.{Entry}
use Rattle.grain_value.specs.declared.values.Dynamic.{Dynamic}
use Rattle.grain_value.specs.declared.values.Held.{Held}
use Rattle.grain_fault.specs.Problems.{NoMemory}
use Rattle.grain_fault.specs.declared.faults.EvalAltResult.{EvalAltResult}
use Rattle.grain_fault.specs.declared.traces.Fault.{Fault}
use Rattle.grain_program.specs.declared.code.functions.Function.{Function}
use Rattle.grain_global.specs.StepsView.{StepsView}
use Rattle.grain_means.specs.Worlds.{Answer, Came, End, Failed, Frame, Go, InHost, Place, Setup, Then}
use Rattle.grain_means.specs.Tasks.{Task}
use Rattle.grain_means.specs.Ends.{Ends}
use Rattle.grain_means.specs.Rules.{native_over, with_token}
use Rattle.grain_means.specs.Rules.InWorld.{failed_so, placed, walks}
use Rattle.grain_means.specs.Simulation.{Binds, Computation, Simulates, puts, stopped, world}
use Rattle.grain_means.specs.lemmas.Roots.{puts-bound}
use Rattle.grain_means.specs.lemmas.Spreading.{Rooted, spread}
use Rattle.grain_means.specs.lemmas.Stretches.{compose}
use Rattle.grain_chain.specs.Walking.{is_want, outcome_of}
use Rattle.grain_frame.specs.Natives.{IsAt}
use Rattle.grain_frame.specs.Targets.{home_of}
use Rattle.grain_frame.specs.Waiting.{apart_of, asking, state_after, state_with}
use Rattle.grain_frame.specs.lemmas.Bound.{reading}
use Rattle.grain_frame.specs.declared.native_calls.Asked.{Asked}
use Rattle.grain_frame.specs.declared.runs.Run.{Run}
use Rattle.grain_frame.specs.declared.targets.Target.TheVariants as to
use Rattle.grain_frame.specs.declared.waiting.Loan.{Loan}
use Rattle.grain_frame.specs.declared.waiting.Loan.TheVariants as have
use Rattle.grain_vm.specs.Asks.{EndsNative}
use Rattle.grain_vm.specs.Driving.{IsApart, SameFlag, beside}
use Rattle.grain_vm.specs.Methods.{CallsMethod, Hears, given_to}
use Rattle.grain_vm.specs.Seats.{Rests, Seat, Seated, base_count, base_place, base_roots, first_held, goes_on_from, lent_place, walk_asking, walk_calling, walk_seated}
use Rattle.grain_vm.specs.declared.driving.AskingNative.{AskingNative}
use Rattle.grain_vm.specs.declared.methods.MethodCall.{MethodCall}
use Rattle.grain_vm.proofs.Seated.{bound_there, count_base, found_base, puts_there}

-- the run without its trace
abbrev pub untraced : {H : Type 0} → Run H → Run H
untraced s = record s { stacks = record s.stacks { trace = [] } }

pub walk_called : {H : Type 0} (m : Setup H) (c : MethodCall) (g : Function) (s s' : Run H)
    (n n' : StepsView) (host host' : H) (o : Result Dynamic EvalAltResult) (left : Option Held) →
    CallsMethod m c g (untraced s) n host o left s' n' host' → (k : ℕ) (f : Option Place → Frame)
    (seat : Seat) (done : Rests H) (q : Option Place) (go : Answer → Task) (rs : List Held)
    (scope : List Entry) (this : Option Held) → Seated seat this →
    Rooted (first_held seat).read_only rs → Binds rs q c.receiver →
    Simulates m (beside scope this s n host)
    (walk_calling k f seat done g c.pos (given_to c.arguments) q go rs) (is_want o)
    (beside scope this s' n' host') (walk_seated k f seat done None (go (outcome_of o)) (puts rs q left))
walk_called {H = H} m c g s s' n n' host host' o left calls k f seat done q go rs scope this seated
    rooted lent = record {
      order = (calls scope (λ m place a w. End a w)).order;
      leads = λ stop clear halts u place bound.
          let bs = base_roots seat u.roots in
          let p = base_place seat place u.roots in
          let count = base_count seat (length u.roots) in
          let first = found_base seat place u.roots this seated bound in
          let heard : Hears H = λ r spot a w. walks r k (f place) p count None (go a)
          (done r place (length u.roots)) w in
          let led = (calls scope heard).leads stop clear halts (record u { roots = spread bs p rs })
          (option_map (placed p count) q)
          (bound_there bs p (first_held seat) first count (count_base seat u.roots) rs rooted q c.receiver
          lent) in
          let same = puts-bound u.roots place this bound in (
            rw same bound,
            λ a w run. led.1 a w
                (subst (λ (us : List Held). Ends (stopped m stop) (walks (stopped m stop) k (f place) p count
                None (go (outcome_of o)) (done (stopped m stop) place (length u.roots))
                (record (world (beside scope left s' n' host') u) { roots = us })) a w)
                (sym (puts_there bs p (first_held seat) first count (count_base seat u.roots) rs rooted q
                c.receiver left lent)) (rw same at run)),
          );
    }

-- ---- a native that asks for calls

-- what it asks for is to be done, and then what follows from how it ends, where what it has stands at the
-- place, if it has something
abbrev pub asking_apart : {H : Type 0} → Asked → Option Held → (Option Place → Frame) → Hears H →
    Computation H
asking_apart a held f heard m place w =
    Then (Go (InHost (record {
      receiver = lent_place held place;
      frame = f place;
      token = a.token;
      pointer = a.pointer;
      values = a.values;
    })) (record w { tokens = with_token a.token w.tokens })) (heard m place)

pub ends_apart : {H : Type 0} (m : Setup H) (a : Asked) (l : Loan) (f : Option Place → Frame)
    (heard : Hears H) (s s' : Run H) (n n' : StepsView) (host host' : H) (left : Option Held)
    (scope : List Entry) (out : Bool) (now : Computation H) → IsApart l → SameFlag (apart_of l) left →
    Simulates m (state_with l scope None s n host) (asking (home_of to.This) s a l f heard) out
    (state_after l left scope None s' n' host') now →
    Simulates m (beside scope (apart_of l) s n host) (asking_apart a (apart_of l) f heard) out
    (beside scope left s' n' host') now
ends_apart m a have.Nothing f heard s s' n n' host host' None scope out now apart flag ends =
    compose {one = false} (reading refl (omega arith) (λ stop clear halts u place bound. refl)) ends tt
ends_apart m a have.Nothing f heard s s' n n' host host' (Some h) scope out now apart flag ends =
    absurd flag
ends_apart m a (have.Target t) f heard s s' n n' host host' left scope out now apart flag ends =
    absurd apart
ends_apart m a (have.Cell c h) f heard s s' n n' host host' left scope out now apart flag ends =
    absurd apart
ends_apart {H = H} m a (have.Apart h) f heard s s' n n' host host' left scope out now apart flag ends =
    compose {one = false}
    (reading refl (omega arith) (λ stop clear halts u place bound. at stop u.roots u.tokens place bound))
    ends tt where
      at : (stop : Option ℕ) (roots : List Held) (tokens : Option (List ℕ)) (place : Option Place) →
          Binds roots place (Some h) →
          asking_apart a (Some h) f heard (stopped m stop) place
          (world (beside scope (Some h) s n host) (record { roots = roots; tokens = tokens }))
          ≡ asking (home_of to.This) s a (have.Apart h) f heard (stopped m stop) place
          (world (beside scope (Some h) s n host) (record { roots = roots; tokens = tokens }))
      at stop roots tokens None bound = absurd bound
      at stop roots tokens (Some p) bound = refl

module _ {H : Type 0} (k : ℕ) (f : Option Place → Frame) (seat : Seat) (done : Rests H)
    (named : Bool) (before : Option (List Fault)) (go : Answer → Task) where
  -- what follows in a walk once its native is over
  abbrev pub over_in : List Held → Hears H
  over_in roots m place =
      native_over (goes_on_from k f seat done named before go roots m place (Failed NoMemory))
      (λ v w. goes_on_from k f seat done named before go roots m place (Came v) w)
      (failed_so m (goes_on_from k f seat done named before go roots m place))

  -- the walk's native is over with this answer, and these are the walk's roots
  abbrev pub walk_answered : Answer → List Held → Computation H
  walk_answered a us m place w =
      over_in w.roots m place a
      (record w { roots = spread (base_roots seat w.roots) (base_place seat place w.roots) us })

  -- the native was called back and called until it was over
  pub walk_asked : (m : Setup H) (native : AskingNative) (s s' : Run H) (n n' : StepsView)
      (host host' : H) (o : Result Dynamic EvalAltResult) (left : Option Held) →
      EndsNative m native (untraced s) n host o left s' n' host' → IsApart native.lent →
      SameFlag (apart_of native.lent) left → (g : Option Place → Frame) → IsAt m g native.pos →
      (q : Option Place) (rs : List Held) (scope : List Entry) (this : Option Held) → Seated seat this →
      Rooted (first_held seat).read_only rs → Binds rs q (apart_of native.lent) →
      Simulates m (beside scope this s n host)
      (walk_asking k f seat done native.asked g q (apart_of native.lent) named before go rs) (is_want o)
      (beside scope this s' n' host') (walk_answered (outcome_of o) (puts rs q left))
  walk_asked m native s s' n n' host host' o left ends apart flag g at q rs scope this seated rooted
      lent = record {
        order = (ended (λ spot. g None) (λ spot. at None) (λ m place a w. End a w)).order;
        leads = λ stop clear halts u place bound.
            let bs = base_roots seat u.roots in
            let p = base_place seat place u.roots in
            let count = base_count seat (length u.roots) in
            let first = found_base seat place u.roots this seated bound in
            let heard : Hears H = λ r spot a w. over_in u.roots r place a w in
            let led = (ended (λ spot. g place) (λ spot. at place) heard).leads stop clear halts
            (record u { roots = spread bs p rs }) (option_map (placed p count) q)
            (bound_there bs p (first_held seat) first count (count_base seat u.roots) rs rooted q
            (apart_of native.lent) lent) in
            let same = puts-bound u.roots place this bound in (
              rw same bound,
              λ a w run. led.1 a w
                  (subst (λ (us : List Held). Ends (stopped m stop) (over_in u.roots (stopped m stop) place
                  (outcome_of o) (record (world (beside scope left s' n' host') u) { roots = us })) a w)
                  (sym (puts_there bs p (first_held seat) first count (count_base seat u.roots) rs rooted
                  q (apart_of native.lent) left lent)) (rw same at run)),
            );
      } where
        ended : (g1 : Option Place → Frame) → IsAt m g1 native.pos → (heard : Hears H) →
            Simulates m (beside scope (apart_of native.lent) (untraced s) n host)
            (asking_apart native.asked (apart_of native.lent) g1 heard) (is_want o)
            (beside scope left s' n' host') (λ m place w. heard m place (outcome_of o) w)
        ended g1 at1 heard =
            ends_apart m native.asked native.lent g1 heard (untraced s) s' n n' host host' left scope
            (is_want o) (λ m place w. heard m place (outcome_of o) w) apart flag
            (ends g1 heard scope None at1)
