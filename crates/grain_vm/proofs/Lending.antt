-- The natives that a walk needs, wherever the walk's first root stands.
use Rattle.std.proofs.Common.{◌≡◌, ℕ, ◌+◌, ◌&&◌, List, [], Option, Some, None, Bool, true, false, length, map, option_map, refl, ap, sym, ◌∙◌, arith}
use Rattle.std.specs.Prelude.{if◌then◌else◌}
use Rattle.grain_value.specs.Operands.{read_write, values_in}
use Rattle.grain_value.specs.Tree.{Tree}
use Rattle.grain_value.specs.declared.scopes.Entry.{Entry}
use Rattle.grain_value.specs.declared.stores.Cell.{Cell}
use Rattle.grain_value.specs.declared.values.Dynamic.{Dynamic}
use Rattle.grain_value.specs.declared.values.Held.{Held}
use Rattle.grain_value.specs.declared.natives.Native.{Native}
use Rattle.grain_fault.specs.Positions.{at_position_if_none}
use Rattle.grain_fault.specs.Problems.{Problem, Plain, DataRace, NonPureCall, NoMemory}
use Rattle.grain_fault.specs.declared.traces.Fault.{Fault}
use Rattle.grain_host.specs.Law.{Law, native_of, receiver_after, written}
use Rattle.grain_host.specs.Law as reply
use Rattle.grain_host.specs.Signatures.{not_found}
use Rattle.grain_means.specs.Worlds.{is_stop, Answer, Came, Failed, Act, Frame, Go, InHost, Place, Setup, Then, World}
use Rattle.grain_means.specs.Places.{find}
use Rattle.grain_means.specs.Tasks.{Task, Call}
use Rattle.grain_means.specs.Rules.{race_text, flat_all}
use Rattle.grain_means.specs.Rules.Natives.{Receiver, trees_in, kinds_in, first_is_read_only, given, lent_held, given_back, cells_given_back, roots_given_back, receiver_left, cells_lent, with_token, native_over, native_found_or, host_called_or}
use Rattle.grain_means.specs.Rules.InWorld.{at_step, missed_by, needed, failed_so, placed, trace_of}
use Rattle.grain_means.specs.Simulation.{Binds, LocalState, Environment, Computation, Simulates, puts, stopped, world}
use Rattle.grain_means.specs.Driving.{all_given}
use Rattle.grain_means.specs.lemmas.LentPlaces.{needs_none, needs_constant, needs_value, needs_fault}
use Rattle.grain_means.specs.lemmas.Spreading.{Rooted, spread}
use Rattle.grain_frame.specs.lemmas.Bound.{reading}
use Rattle.grain_frame.specs.declared.native_calls.Asked.{Asked}
use Rattle.grain_vm.specs.Seats.{Rests, Seat, Seated, base_count, base_place, base_roots, first_held, goes_on_from, kept_by, lent_place, walk_asking, walk_needing, walk_seated}
use Rattle.grain_vm.proofs.Seated.{count_base, found_base, given_there, held_there, lent_there, put_at, receiver_at}

-- what stands at a place is in no entry and in no cell
scope_is : {S : Type 0} (law : Law S) (s : S) (key : ℕ) (values : List Tree) (p : Place) (n : ℕ)
    (q : Option Place) (x : Option Held) (scope : List Entry) →
    given_back law s key values (receiver_at p n q x) scope ≡ scope
scope_is law s key values p n None x scope = refl
scope_is law s key values p n (Some q) None scope = refl
scope_is law s key values p n (Some q) (Some x) scope = refl

cells_are : {S : Type 0} (law : Law S) (s : S) (key : ℕ) (values : List Tree) (p : Place) (n : ℕ)
    (q : Option Place) (x : Option Held) (cells : List Cell) →
    cells_given_back law s key values (receiver_at p n q x) cells ≡ cells
cells_are law s key values p n None x cells = refl
cells_are law s key values p n (Some q) None cells = refl
cells_are law s key values p n (Some q) (Some x) cells = refl

-- what was lent goes back where it stood
back_is : {S : Type 0} (law : Law S) (s : S) (key : ℕ) (values : List Tree) (bs : List Held)
    (p : Place) (g : Held) (e : find bs p ≡ Some g) (n : ℕ) (count : n ≡ length bs) (rs : List Held)
    (rooted : Rooted g.read_only rs) (q : Option Place) (x : Option Held) → Binds rs q x →
    roots_given_back law s key values (receiver_at p n q x) (spread bs p rs)
    ≡ spread bs p (puts rs q (receiver_after law s key x values))
back_is law s key values bs p g e n count rs rooted None None at = refl
back_is law s key values bs p g e n count rs rooted None (Some x) at = absurd at
back_is law s key values bs p g e n count rs rooted (Some q) None at = absurd at
back_is law s key values bs p g e n count rs rooted (Some q) (Some x) at =
    put_at bs p g e n count rs rooted q (written law s key values x).value

-- what a native has that asks for a call stands where it was lent from
left_is : {S : Type 0} (law : Law S) (s : S) (key : ℕ) (values : List Tree) (p : Place) (n : ℕ)
    (rs : List Held) (q : Option Place) (x : Option Held) → Binds rs q x →
    receiver_left law s key values (receiver_at p n q x)
    ≡ lent_place (receiver_after law s key x values) (option_map (placed p n) q)
left_is law s key values p n rs None None at = refl
left_is law s key values p n rs None (Some x) at = absurd at
left_is law s key values p n rs (Some q) None at = absurd at
left_is law s key values p n rs (Some q) (Some x) at = refl

-- and is in no cell
none_lent : (h : Option Held) (p : Option Place) (cells : List Cell) →
    cells_lent (lent_place h p) cells ≡ cells
none_lent None p cells = refl
none_lent (Some h) None cells = refl
none_lent (Some h) (Some p) cells = refl

-- a native asks for a call first
module _ {S : Type 0} (n : Setup S) (k : ℕ) (g : Frame) (c : Call) (r : Option Receiver)
    (heard : Answer → World S → Act S) (w : World S) (args : List Held) (one : Native)
    (is : native_of n.law w.host c.name (kinds_in (given r args)) ≡ Some one)
    (writes : (one.writes && first_is_read_only (given r args)) ≡ false)
    (clear : is_stop n.stop w.passed ≡ false) (still : is_stop n.stop (w.passed + 1) ≡ false) where
  needs_asked : (a : Asked) → reply.Ask a.token a.pointer a.values
      ≡ n.law.call_reply w.host one.key (lent_held r) (trees_in args) →
      needed n k g c r heard w (Some args)
      ≡ Then (Go (InHost (record {
        receiver = receiver_left n.law w.host one.key (trees_in args) r;
        frame = at_step n.program k c.step c.position g;
        token = a.token;
        pointer = a.pointer;
        values = a.values;
      })) (record w {
        host = n.law.call_after w.host one.key (lent_held r) (trees_in args);
        scope = given_back n.law w.host one.key (trees_in args) r w.scope;
        cells = cells_lent (receiver_left n.law w.host one.key (trees_in args) r)
            (cells_given_back n.law w.host one.key (trees_in args) r w.cells);
        roots = roots_given_back n.law w.host one.key (trees_in args) r w.roots;
        passed = w.passed + 1 + 1;
        tokens = with_token a.token w.tokens;
      })) (native_over (heard (Failed NoMemory)) (λ v w1. heard (Came v) w1) (failed_so n heard))
  needs_asked a said = rw (is, writes, clear, still, ← said) refl

-- a native that a walk needs is not called where memory is out, whatever it is lent
module _ {S : Type 0} (n : Setup S) (k : ℕ) (g : Frame) (c : Call) (r : Option Receiver)
    (heard : Answer → World S → Act S) (w : World S) (halts : is_stop n.stop w.passed ≡ true) where
  writes_out : (key : ℕ) (args : List Held) (b : Bool) →
      (if b then failed_so n heard (Plain (NonPureCall c.name) c.position) w
      else host_called_or n (heard (Failed NoMemory)) key r args
      (at_step n.program k c.step c.position g) w (λ v w1. heard (Came v) w1) (failed_so n heard))
      ≡ heard (Failed NoMemory) w
  writes_out key args true = rw halts refl
  writes_out key args false = rw halts refl

  found_out : (args : List Held) (o : Option Native) →
      native_found_or n (heard (Failed NoMemory)) o c.name r args
      (at_step n.program k c.step c.position g) w (λ v w1. heard (Came v) w1) (failed_so n heard)
      ≡ heard (Failed NoMemory) w
  found_out args None = rw halts refl
  found_out args (Some one) =
      writes_out one.key args (one.writes && first_is_read_only (given r args))

  pub needed_out : (args : Option (List Held)) →
      needed n k g c r heard w args ≡ heard (Failed NoMemory) w
  needed_out None = rw halts refl
  needed_out (Some args) =
      found_out args (native_of n.law w.host c.name (kinds_in (given r args)))

module _ {S : Type 0} (m : Setup S) (k : ℕ) (f : Option Place → Frame) (seat : Seat)
    (done : Rests S) (named : Bool) (missed : Option (List Fault)) where
  -- a native that a walk needs, to which this is lent
  module _ (c : Call) (go : Answer → Task) (rs : List Held) (x : Option Held)
      (rooted : Rooted (first_held seat).read_only rs) (at : Binds rs c.receiver x)
      (ls : LocalState S) (seated : Seated seat ls.this) where
    abbrev before : Computation S
    before = walk_needing k f seat done named missed c go rs

    abbrev after : Answer → List Held → Computation S
    after a us = walk_seated k f seat done (kept_by named (missed_by a [])) (go a) us

    -- the state once it has answered so
    abbrev traced : Answer → LocalState S → LocalState S
    traced a l = record l { trace = trace_of (kept_by named missed) a [] }

    -- the place of the first root, how many roots there are, and what is lent
    abbrev base : Option Place → Environment → Place
    base place u = base_place seat place u.roots

    abbrev count : Environment → ℕ
    count u = base_count seat (length u.roots)

    abbrev receiver : Option Place → Environment → Option Receiver
    receiver place u = receiver_at (base place u) (count u) c.receiver x

    abbrev heard : Setup S → Option Place → Environment → Answer → World S → Act S
    heard n place u a w = goes_on_from k f seat done named missed go u.roots n place a w

    abbrev now : Option Place → Environment → World S
    now place u = record (world ls u) {
      roots = spread (base_roots seat u.roots) (base place u) rs;
      trace = [];
    }

    abbrev by_args : Setup S → Option Place → Environment → Option Receiver → Option (List Held) →
        Act S
    by_args n place u r args = needed n k (f place) c r (heard n place u) (now place u) args

    -- with what it is lent
    asks : (n : Setup S) (place : Option Place) (u : Environment) (o : Option (List Held)) →
        Binds u.roots place ls.this → flat_all ls.cells (map read_write c.values) ≡ o →
        before n place (world ls u) ≡ by_args n place u (receiver place u) o
    asks n place u o bound is =
        ap (λ r. by_args n place u r (flat_all ls.cells (map read_write c.values)))
        (lent_there (base_roots seat u.roots) (base place u) (first_held seat)
        (found_base seat place u.roots ls.this seated bound) (count u) (count_base seat u.roots) rs
        rooted c.receiver x at)
        ∙ ap (by_args n place u (receiver place u)) is

    -- an argument is a cell whose content is lent
    pub hears_race : flat_all ls.cells (map read_write c.values) ≡ None →
        Simulates m ls before false
        (traced (Failed (Plain (DataRace (race_text [])) c.position))
        (record ls { passed = ls.passed + 1 }))
        (after (Failed (Plain (DataRace (race_text [])) c.position)) rs)
    hears_race none =
        reading refl (omega arith) (λ stop clear halts u place bound.
        rw (none, clear ls.passed (omega arith) (omega arith)) refl)

    -- memory is out, before any mark
    pub hears_memory : Simulates m ls before true (traced (Failed NoMemory) ls) (after (Failed NoMemory) rs)
    hears_memory =
        reading refl (omega arith) (λ stop clear halts u place bound.
        asks (stopped m stop) place u (flat_all ls.cells (map read_write c.values)) bound refl
        ∙ needed_out (stopped m stop) k (f place) c (receiver place u)
        (heard (stopped m stop) place u) (now place u) halts
        (flat_all ls.cells (map read_write c.values)))

    module _ (args : List Held)
        (flat : flat_all ls.cells (map read_write c.values) ≡ Some args) where
      -- all that it is given, by what it is lent
      kinds_of : (place : Option Place) (u : Environment) (o : Option Native) →
          native_of m.law ls.host c.name (kinds_in (all_given x args)) ≡ o →
          native_of m.law ls.host c.name (kinds_in (given (receiver place u) args))
          ≡ o
      kinds_of place u o is =
          ap (λ (l : List Held). native_of m.law ls.host c.name (kinds_in l))
          (given_there rs (base place u) (count u) c.receiver x args at) ∙ is

      flag_of : (place : Option Place) (u : Environment) (one : Native) (b : Bool) →
          (one.writes && first_is_read_only (all_given x args)) ≡ b →
          (one.writes && first_is_read_only (given (receiver place u) args)) ≡ b
      flag_of place u one b is =
          ap (λ (l : List Held). one.writes && first_is_read_only l)
          (given_there rs (base place u) (count u) c.receiver x args at) ∙ is

      -- there is no such native
      pub hears_none : native_of m.law ls.host c.name (kinds_in (all_given x args)) ≡ None →
          Simulates m ls before false
          (traced (Failed (not_found c.name (values_in (all_given x args)) c.position))
          (record ls { passed = ls.passed + 1 }))
          (after (Failed (not_found c.name (values_in (all_given x args)) c.position)) rs)
      hears_none none =
          reading refl (omega arith) (λ stop clear halts u place bound.
          let n = stopped m stop in
          asks n place u (Some args) bound flat
          ∙ needs_none n k (f place) c (receiver place u) (heard n place u) (now place u)
          args (kinds_of place u None none) (clear ls.passed (omega arith) (omega arith))
          ∙ ap (λ (l : List Held). heard n place u (Failed (not_found c.name (values_in l) c.position))
          (record (now place u) { passed = ls.passed + 1 }))
          (given_there rs (base place u) (count u) c.receiver x args at))

      -- it may not be called
      pub hears_constant : (one : Native) →
          native_of m.law ls.host c.name (kinds_in (all_given x args)) ≡ Some one →
          (one.writes && first_is_read_only (all_given x args)) ≡ true →
          Simulates m ls before false
          (traced (Failed (Plain (NonPureCall c.name) c.position))
          (record ls { passed = ls.passed + 1 }))
          (after (Failed (Plain (NonPureCall c.name) c.position)) rs)
      hears_constant one is writes =
          reading refl (omega arith) (λ stop clear halts u place bound.
          let n = stopped m stop in
          asks n place u (Some args) bound flat
          ∙ needs_constant n k (f place) c (receiver place u) (heard n place u)
          (now place u) args one (kinds_of place u (Some one) is) (flag_of place u one true writes)
          (clear ls.passed (omega arith) (omega arith)))

      -- it is called
      module _ (one : Native)
          (is : native_of m.law ls.host c.name (kinds_in (all_given x args)) ≡ Some one)
          (writes : (one.writes && first_is_read_only (all_given x args)) ≡ false) where
        abbrev back : List Held
        back = puts rs c.receiver (receiver_after m.law ls.host one.key x (trees_in args))

        -- the state once the host has answered
        abbrev answered : ℕ → LocalState S
        answered passed = record ls {
          host = m.law.call_after ls.host one.key x (trees_in args);
          passed = passed;
        }

        served_is : (n : Setup S) (place : Option Place) (u : Environment) (a : Answer)
            (passed : ℕ) → Binds u.roots place ls.this → heard n place u a (record (now place u) {
              host = m.law.call_after ls.host one.key
                  (lent_held (receiver place u)) (trees_in args);
              scope = given_back m.law ls.host one.key (trees_in args)
                  (receiver place u) ls.scope;
              cells = cells_given_back m.law ls.host one.key (trees_in args)
                  (receiver place u) ls.cells;
              roots = roots_given_back m.law ls.host one.key (trees_in args)
                  (receiver place u)
                  (spread (base_roots seat u.roots) (base place u) rs);
              passed = passed;
            }) ≡ after a back n place (world (traced a (answered passed)) u)
        served_is n place u a passed bound = rw (
          scope_is m.law ls.host one.key (trees_in args) (base place u) (count u) c.receiver x ls.scope,
          cells_are m.law ls.host one.key (trees_in args) (base place u) (count u) c.receiver x ls.cells,
          back_is m.law ls.host one.key (trees_in args) (base_roots seat u.roots) (base place u)
              (first_held seat) (found_base seat place u.roots ls.this seated bound) (count u)
              (count_base seat u.roots) rs rooted c.receiver x at,
          held_there rs (base place u) (count u) c.receiver x at,
        ) refl

        said_is : (place : Option Place) (u : Environment) (y : reply.Reply) →
            y ≡ m.law.call_reply ls.host one.key x (trees_in args) →
            y ≡ m.law.call_reply ls.host one.key (lent_held (receiver place u))
            (trees_in args)
        said_is place u y said =
            said ∙ ap (λ (o : Option Held). m.law.call_reply ls.host one.key o (trees_in args))
            (sym (held_there rs (base place u) (count u) c.receiver x at))

        pub hears_value : (v : Dynamic) →
            reply.Done v ≡ m.law.call_reply ls.host one.key x (trees_in args) →
            Simulates m ls before false (traced (Came v) (answered (ls.passed + 1 + 1)))
            (after (Came v) back)
        hears_value v said =
            reading refl (omega arith) (λ stop clear halts u place bound.
            let n = stopped m stop in
            asks n place u (Some args) bound flat
            ∙ needs_value n k (f place) c (receiver place u) (heard n place u)
            (now place u) args one (kinds_of place u (Some one) is) (flag_of place u one false writes)
            (clear ls.passed (omega arith) (omega arith))
            (clear (ls.passed + 1) (omega arith) (omega arith)) v (said_is place u (reply.Done v) said)
            ∙ served_is n place u (Came v) (ls.passed + 1 + 1) bound)

        pub hears_fault : (y : Problem) →
            reply.Failed y ≡ m.law.call_reply ls.host one.key x (trees_in args) →
            Simulates m ls before false
            (traced (Failed (at_position_if_none c.position y)) (answered (ls.passed + 1 + 1 + 1)))
            (after (Failed (at_position_if_none c.position y)) back)
        hears_fault y said =
            reading refl (omega arith) (λ stop clear halts u place bound.
            let n = stopped m stop in
            asks n place u (Some args) bound flat
            ∙ needs_fault n k (f place) c (receiver place u) (heard n place u)
            (now place u) args one (kinds_of place u (Some one) is) (flag_of place u one false writes)
            (clear ls.passed (omega arith) (omega arith))
            (clear (ls.passed + 1) (omega arith) (omega arith)) y (said_is place u (reply.Failed y) said)
            (clear (ls.passed + 1 + 1) (omega arith) (omega arith))
            ∙ served_is n place u (Failed (at_position_if_none c.position y))
            (ls.passed + 1 + 1 + 1) bound)

        -- it asks for a call first, in a frame that blames its step
        abbrev pub asking_frame : Option Place → Frame
        asking_frame place = at_step m.program k c.step c.position (f place)

        pub hears_asked : (a : Asked) → reply.Ask a.token a.pointer a.values
            ≡ m.law.call_reply ls.host one.key x (trees_in args) →
            Simulates m ls before false (record (answered (ls.passed + 1 + 1)) { trace = [] })
            (walk_asking k f seat done a asking_frame c.receiver
            (receiver_after m.law ls.host one.key x (trees_in args)) named missed go back)
        hears_asked a said =
            reading refl (omega arith) (λ stop clear halts u place bound.
            let n = stopped m stop in
            asks n place u (Some args) bound flat
            ∙ needs_asked n k (f place) c (receiver place u) (heard n place u) (now place u) args one
            (kinds_of place u (Some one) is) (flag_of place u one false writes)
            (clear ls.passed (omega arith) (omega arith))
            (clear (ls.passed + 1) (omega arith) (omega arith)) a
            (said_is place u (reply.Ask a.token a.pointer a.values) said)
            ∙ asked_is n place u a bound) where
              asked_is : (n : Setup S) (place : Option Place) (u : Environment) (a : Asked) →
                  Binds u.roots place ls.this → Then (Go (InHost (record {
                    receiver = receiver_left m.law ls.host one.key (trees_in args) (receiver place u);
                    frame = at_step m.program k c.step c.position (f place);
                    token = a.token;
                    pointer = a.pointer;
                    values = a.values;
                  })) (record (now place u) {
                    host = m.law.call_after ls.host one.key
                        (lent_held (receiver place u)) (trees_in args);
                    scope = given_back m.law ls.host one.key (trees_in args)
                        (receiver place u) ls.scope;
                    cells = cells_lent
                        (receiver_left m.law ls.host one.key (trees_in args) (receiver place u))
                        (cells_given_back m.law ls.host one.key (trees_in args)
                        (receiver place u) ls.cells);
                    roots = roots_given_back m.law ls.host one.key (trees_in args)
                        (receiver place u)
                        (spread (base_roots seat u.roots) (base place u) rs);
                    passed = ls.passed + 1 + 1;
                    tokens = with_token a.token u.tokens;
                  })) (native_over (heard n place u (Failed NoMemory))
                  (λ v w1. heard n place u (Came v) w1) (failed_so n (heard n place u)))
                  ≡ walk_asking k f seat done a asking_frame c.receiver
                  (receiver_after m.law ls.host one.key x (trees_in args)) named missed go back n place
                  (world (record (answered (ls.passed + 1 + 1)) { trace = [] }) u)
              asked_is n place u a bound = rw (
                left_is m.law ls.host one.key (trees_in args) (base place u) (count u) rs c.receiver x at,
                scope_is m.law ls.host one.key (trees_in args) (base place u) (count u) c.receiver x
                    ls.scope,
                cells_are m.law ls.host one.key (trees_in args) (base place u) (count u) c.receiver x
                    ls.cells,
                none_lent (receiver_after m.law ls.host one.key x (trees_in args))
                    (option_map (placed (base place u) (count u)) c.receiver) ls.cells,
                back_is m.law ls.host one.key (trees_in args) (base_roots seat u.roots) (base place u)
                    (first_held seat) (found_base seat place u.roots ls.this seated bound) (count u)
                    (count_base seat u.roots) rs rooted c.receiver x at,
                held_there rs (base place u) (count u) c.receiver x at,
              ) refl
