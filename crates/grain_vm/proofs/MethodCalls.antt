-- A function that a walk calls: the way in, its body, and the way out, wherever its receiver stands.
use Rattle.std.proofs.Common.{◌≡◌, ◌∙◌, ◌≤◌, ℕ, List, [], ◌∷◌, ◌++◌, Option, Some, None, Bool, true, false, if◌then◌else◌, Result, length, take, refl, sym, ap, subst, arith}
use Rattle.std.specs.Prelude.{is_some}
use Rattle.std.proofs.lemmas.List.{append-nil}
use Rattle.grain_value.specs.declared.memory.OutOfMemory.{OutOfMemory}
use Rattle.grain_value.specs.declared.scopes.Entry.{Entry}
use Rattle.grain_value.specs.declared.values.Dynamic.{Dynamic}
use Rattle.grain_value.specs.declared.values.Held.{Held}
use Rattle.grain_fault.specs.declared.faults.EvalAltResult.{EvalAltResult}
use Rattle.grain_fault.specs.declared.places.Position.{Position}
use Rattle.grain_program.specs.declared.code.functions.Function.{Function}
use Rattle.grain_global.specs.StepsView.{StepsView}
use Rattle.grain_means.specs.Worlds.{is_stop, Act, Answer, End, Frame, Go, InFrame, Place, Setup, Then, World}
use Rattle.grain_means.specs.Places.{find, look, or_unit}
use Rattle.grain_means.specs.Ends.{Ends, ended, joined}
use Rattle.grain_means.specs.Rules.{frame_at}
use Rattle.grain_means.specs.Rules.Chains.{new_root}
use Rattle.grain_means.specs.Rules.InWorld.{body_over, copy_dropped, function_called, function_on, function_under}
use Rattle.grain_means.specs.Simulation.{Binds, Computation, Environment, LocalState, NoStopWithin, Simulates, SimulatesExactly, StopPersists, StopsHere, after, puts, stopped, world}
use Rattle.grain_means.specs.lemmas.LentPlaces.{found-new}
use Rattle.grain_means.specs.lemmas.PlaceLaws.{set-after, take-after}
use Rattle.grain_means.specs.lemmas.Roots.{puts-bound}
use Rattle.grain_chain.specs.Walking.{is_want, outcome_of}
use Rattle.grain_frame.specs.Abstraction.{abstraction, frame_in, is_out, this_of}
use Rattle.grain_frame.specs.declared.runs.Run.{Run}
use Rattle.grain_vm.specs.Calls.{caller_of, entry_of, frame_answer, frame_over}
use Rattle.grain_vm.specs.Driving.{beside}
use Rattle.grain_vm.specs.Methods.{CallsMethod, EndsBefore, EntersBody, Hears, LeavesBody, given_back, given_to, kept_back}
use Rattle.grain_vm.specs.declared.calls.FrameEnd.{FrameEnd}
use Rattle.grain_vm.specs.declared.methods.MethodCall.{MethodCall}

-- ---- stops

stops_before : (one two : Bool) (stop : Option ℕ) (p q : ℕ) → StopPersists one p two q →
    StopsHere two stop q → StopsHere one stop p
stops_before false two stop p q c h = tt
stops_before true two stop p q c h =
    subst (λ (n : ℕ). is_stop stop n ≡ true) c.1 (subst (λ (o : Bool). StopsHere o stop q) c.0 h)

-- where memory may be out, less has to hold
pub may_stop : {S : Type 0} {m : Setup S} {old new : LocalState S} {start now : Computation S}
    (out : Bool) → SimulatesExactly m old start false new now →
    SimulatesExactly m old start out new now
may_stop out h = record {
  this = h.this;
  order = h.order;
  equal = λ stop clear halts u place. h.equal stop clear tt u place;
}

-- ---- runs elsewhere

-- a run with no `this`, in a frame around which another frame has one
pub elsewhere : {S : Type 0} {m : Setup S} {old new : LocalState S} {first : Computation S}
    {out : Bool} {b : Answer} (x : Option Held) → old.this ≡ None →
    Simulates m old first out new (λ n place w. End b w) →
    Simulates m (record old { this = x }) (λ n place w. first n None w) out
    (record new { this = x }) (λ n place w. End b w)
elsewhere x none h = record {
  order = h.order;
  leads = λ stop clear halts u place bound.
      let k = h.leads stop clear halts u None (rw none tt) in
      let same = puts-bound u.roots place x bound in
      (rw same bound, λ a w run. k.1 a w (rw same at run));
}

-- ---- the copy of a read-only receiver

-- the root of the copy goes, whatever became of it
pub copy_gone : (rs : List Held) (h : Held) (y : Option Held) →
    take (length rs) (puts (rs ++ h ∷ []) (Some (new_root rs)) y) ≡ rs
copy_gone rs h None = take-after rs (h ∷ []) (length rs) 0 (omega arith) ∙ append-nil rs
copy_gone rs h (Some t) =
    ap (take (length rs)) (set-after rs (h ∷ []) (length rs) 0 _ (omega arith))
    ∙ take-after rs (_ ∷ []) (length rs) 0 (omega arith) ∙ append-nil rs

-- ---- a function under a place

-- a receiver that can only be read is copied to a new root
called_on_copy : {H : Type 0} (m : Setup H) (q : Position) (g : Function) (args : List Held)
    (heard : Answer → World H → Act H) (p : Place) (w : World H) (h : Held) →
    look w.roots p ≡ h → h.read_only ≡ true →
    function_on m q g args heard p w
    ≡ function_under m q g args (copy_dropped m (length w.roots) heard) (Some (new_root w.roots))
    (record w { roots = w.roots ++ h ∷ [] })
called_on_copy {H} m q g args heard p w h there flag =
    ap (λ (t : Held). if t.read_only
    then function_under m q g args (copy_dropped m (length w.roots) heard) (Some (new_root w.roots))
    (record w { roots = w.roots ++ t ∷ [] })
    else function_under m q g args heard (Some p) w) there
    ∙ ap (λ (b : Bool). if b
    then function_under m q g args (copy_dropped m (length w.roots) heard) (Some (new_root w.roots))
    (record w { roots = w.roots ++ h ∷ [] })
    else function_under m q g args heard (Some p) w) flag

module _ {H : Type 0} (m : Setup H) (c : MethodCall) (g : Function) (s s1 s2 s3 : Run H)
    (n n1 n2 n3 : StepsView) (host host1 host2 : H) (end : Result FrameEnd OutOfMemory)
    (o : Result Dynamic EvalAltResult) (scope : List Entry)
    (enters : EntersBody m c.pos g (given_to c.arguments) s n host s1 n1 host1)
    (at_entry : (place : Option Place) →
    frame_in (entry_of g.chunk 0) s1 place ≡ frame_at g.chunk 0 place)
    (ran : Simulates m (abstraction s1 n1 host1)
    (λ m place w. Go (InFrame (frame_in (entry_of g.chunk 0) s1 place)) w) (is_out end)
    (abstraction s2 n2 host2) (frame_over end s2))
    (there : (x : Option Held) → beside scope x (caller_of s2) n2 host2
    ≡ record (abstraction s2 n2 host2) { scope = scope; level = s.level; this = x })
    (leaves : LeavesBody m c.pos g (frame_answer end s2) (caller_of s2) n2 o s3 n3)
    (persists : StopPersists (is_out end) n2.passed (is_want o) n3.passed) where
  abbrev args : List Held
  args = given_to c.arguments

  -- the environment once the body has left its `this` at this place
  abbrev left_at : Environment → Option Place → Environment
  left_at u spot = after u spot (this_of s2)

  module _ (heard : Hears H) (x : Option Held) (spot : Option Place) (stop : Option ℕ)
      (clear : NoStopWithin stop n.passed n3.passed) (halts : StopsHere (is_want o) stop n3.passed)
      (u : Environment) (place : Option Place) (bound : Binds u.roots spot (this_of s1)) where
    first : SimulatesExactly m (beside scope x s n host)
        (λ m place w. function_under m c.pos g args (heard m place) spot w) false
        (beside s1.scope x s1 n1 host1)
        (λ m place w. Then (Go (InFrame (frame_at g.chunk 0 spot)) w)
        (λ a w2. body_over m c.pos g (heard m place) a
        (record w2 { scope = scope; level = s.level })))
    first = enters scope x spot heard

    last : SimulatesExactly m (beside scope x (caller_of s2) n2 host2)
        (λ m place w. body_over m c.pos g (heard m place) (frame_answer end s2) w) (is_want o)
        (beside scope x s3 n3 host2) (λ m place w. heard m place (outcome_of o) w)
    last = leaves scope x host2 heard

    body : Binds (puts u.roots spot (this_of s2)) spot (this_of s2)
        × ((a : Answer) (w : World H) →
        Ends (stopped m stop) (frame_over end s2 (stopped m stop) spot
        (world (abstraction s2 n2 host2) (left_at u spot))) a w →
        Ends (stopped m stop) (Go (InFrame (frame_in (entry_of g.chunk 0) s1 spot))
        (world (abstraction s1 n1 host1) u)) a w)
    body =
        ran.leads stop
        (λ k from to. clear k (omega (arith, from, first.order)) (omega (arith, to, last.order)))
        (stops_before (is_out end) (is_want o) stop n2.passed n3.passed persists halts) u spot bound

    pub still_bound : Binds (puts u.roots spot (this_of s2)) spot (this_of s2)
    still_bound = body.0

    pub under_ran : (a : Answer) (w : World H) →
        Ends (stopped m stop) (heard (stopped m stop) place (outcome_of o)
        (world (beside scope x s3 n3 host2) (left_at u spot))) a w →
        Ends (stopped m stop) (function_under (stopped m stop) c.pos g args
        (heard (stopped m stop) place) spot (world (beside scope x s n host) u)) a w
    under_ran a w run =
        let over = last.equal stop
        (λ k from to. clear k (omega (arith, from, first.order, ran.order)) to) halts (left_at u spot)
        place in
        let begins = first.equal stop
        (λ k from to. clear k from (omega (arith, to, ran.order, last.order))) tt u place in
        subst (λ (y : Act H). Ends (stopped m stop) y a w) (sym begins)
        (joined
        (subst (λ (f : Frame). Ends (stopped m stop) (Go (InFrame f)
        (world (abstraction s1 n1 host1) u)) (frame_answer end s2)
        (world (abstraction s2 n2 host2) (left_at u spot))) (at_entry spot)
        (body.1 (frame_answer end s2) (world (abstraction s2 n2 host2) (left_at u spot)) ended))
        (subst (λ (l : LocalState H). Ends (stopped m stop) (body_over (stopped m stop) c.pos g
        (heard (stopped m stop) place) (frame_answer end s2) (world l (left_at u spot))) a w)
        (there x) (subst (λ (y : Act H). Ends (stopped m stop) y a w) (sym over) run)))

  -- the call was done
  module _ (bound_first : this_of s1 ≡ c.receiver)
      (bound_last : is_some (this_of s2) ≡ is_some c.receiver) where
    orders : n.passed ≤ n3.passed
    orders =
        let heard : Hears H = λ m place a w. End a w in
        omega (
          arith,
          (enters scope None None heard).order,
          ran.order,
          (leaves scope None host2 heard).order,
        )

    abbrev left : Option Held
    left = given_back (kept_back c.receiver) (this_of s2)

    module _ (heard : Hears H) (stop : Option ℕ) (clear : NoStopWithin stop n.passed n3.passed)
        (halts : StopsHere (is_want o) stop n3.passed) (u : Environment) where
      -- what follows the call, with the receiver at this place and this left of it
      abbrev Led : Option Held → Option Place → Option Held → Type 0
      Led x place y =
          Binds (puts u.roots place y) place y × ((a : Answer) (w : World H) →
          Ends (stopped m stop) (heard (stopped m stop) place (outcome_of o)
          (world (beside scope y s3 n3 host2) (after u place y))) a w →
          Ends (stopped m stop) (function_called (stopped m stop) c.pos g args
          (heard (stopped m stop) place) place (world (beside scope x s n host) u)) a w)

      without : (y : Option Held) → this_of s2 ≡ y → is_some y ≡ false → this_of s1 ≡ None →
          Led None None (given_back None y)
      without None last is none = (
        tt,
        λ a w run.
            under_ran heard None None stop clear halts u None (rw none tt) a w run,
      )
      without (Some t) last is none = absurd cc

      by_flag : (h : Held) (p : Place) (b : Bool) → h.read_only ≡ b → find u.roots p ≡ Some h →
          this_of s1 ≡ Some h → (y : Option Held) → this_of s2 ≡ y → is_some y ≡ true →
          Led (Some h) (Some p) (given_back (if b then Some h else None) y)
      by_flag h p b flag there first None last is = absurd cc
      by_flag h p false flag there first (Some t) last is =
          let bound : Binds u.roots (Some p) (this_of s1) = rw first there in (
            subst (λ (y : Option Held). Binds (puts u.roots (Some p) y) (Some p) y) last
                (still_bound heard (Some h) (Some p) stop clear halts u (Some p) bound),
            λ a w run. rw (there, flag)
                (under_ran heard (Some h) (Some p) stop clear halts u (Some p) bound a w
                (rw last run)),
          )
      by_flag h p true flag there first (Some t) last is =
          let inner : Environment = record u { roots = u.roots ++ h ∷ [] } in
          let spot : Option Place = Some (new_root u.roots) in
          let bound : Binds inner.roots spot (this_of s1) = rw first (found-new u.roots h) in
          let same : puts u.roots (Some p) (Some h) ≡ u.roots =
          puts-bound u.roots (Some p) (Some h) there in (
            rw same there,
            λ a w run.
                subst (λ (y : Act H). Ends (stopped m stop) y a w)
                (sym (called_on_copy (stopped m stop) c.pos g args (heard (stopped m stop) (Some p)) p
                (world (beside scope (Some h) s n host) u) h (ap or_unit there) flag))
                (under_ran (λ k place b v. copy_dropped k (length u.roots) (heard k place) b v) (Some h)
                spot stop clear halts inner (Some p) bound a w
                (subst (λ (rs : List Held). Ends (stopped m stop) (heard (stopped m stop) (Some p)
                (outcome_of o) (world (beside scope (Some h) s3 n3 host2) (record u { roots = rs })))
                a w) (same ∙ sym (copy_gone u.roots h (this_of s2))) run)),
          )

      by_receiver : (x : Option Held) (place : Option Place) → c.receiver ≡ x →
          Binds u.roots place x → Led x place (given_back (kept_back x) (this_of s2))
      by_receiver None None is bound =
          without (this_of s2) refl (bound_last ∙ ap (λ (q : Option Held). is_some q) is)
          (bound_first ∙ is)
      by_receiver None (Some p) is bound = absurd bound
      by_receiver (Some h) None is bound = absurd bound
      by_receiver (Some h) (Some p) is bound =
          by_flag h p h.read_only refl bound (bound_first ∙ is) (this_of s2) refl
          (bound_last ∙ ap (λ (q : Option Held). is_some q) is)

    pub calls_on : (heard : Hears H) → Simulates m (beside scope c.receiver s n host)
        (λ m place w. function_called m c.pos g args (heard m place) place w) (is_want o)
        (beside scope left s3 n3 host2) (λ m place w. heard m place (outcome_of o) w)
    calls_on heard = record {
      order = orders;
      leads = λ stop clear halts u place bound.
          by_receiver heard stop clear halts u c.receiver place refl bound;
    }

-- ---- a call that is over before its frame is entered

module _ {H : Type 0} (m : Setup H) (c : MethodCall) (g : Function) (s s' : Run H)
    (n n' : StepsView) (host host' : H) (o : Result Dynamic EvalAltResult)
    (ends : EndsBefore m c.pos g (given_to c.arguments) s n host o s' n' host') where
  module _ (scope : List Entry) (heard : Hears H) (stop : Option ℕ)
      (clear : NoStopWithin stop n.passed n'.passed) (halts : StopsHere (is_want o) stop n'.passed)
      (u : Environment) where
    abbrev Same : Option Held → Option Place → Type 0
    Same x place =
        function_called (stopped m stop) c.pos g (given_to c.arguments) (heard (stopped m stop) place)
        place (world (beside scope x s n host) u)
        ≡ heard (stopped m stop) place (outcome_of o) (world (beside scope x s' n' host') u)

    under_ends : (h : Hears H) (x : Option Held) (spot place : Option Place) (v : Environment) →
        function_under (stopped m stop) c.pos g (given_to c.arguments) (h (stopped m stop) place) spot
        (world (beside scope x s n host) v)
        ≡ h (stopped m stop) place (outcome_of o) (world (beside scope x s' n' host') v)
    under_ends h x spot place v = (ends scope x spot h).equal stop clear halts v place

    same_by_flag : (h : Held) (p : Place) (b : Bool) → h.read_only ≡ b → find u.roots p ≡ Some h →
        Same (Some h) (Some p)
    same_by_flag h p false flag there =
        rw (there, flag) (under_ends heard (Some h) (Some p) (Some p) u)
    same_by_flag h p true flag there =
        called_on_copy (stopped m stop) c.pos g (given_to c.arguments) (heard (stopped m stop) (Some p))
        p (world (beside scope (Some h) s n host) u) h (ap or_unit there) flag
        ∙ under_ends (λ k place b v. copy_dropped k (length u.roots) (heard k place) b v) (Some h)
        (Some (new_root u.roots)) (Some p) (record u { roots = u.roots ++ h ∷ [] })
        ∙ ap (λ (rs : List Held). heard (stopped m stop) (Some p) (outcome_of o)
        (world (beside scope (Some h) s' n' host') (record u { roots = rs })))
        (copy_gone u.roots h None)

    by_place : (x : Option Held) (place : Option Place) → Binds u.roots place x → Same x place
    by_place None None bound = under_ends heard None None None u
    by_place None (Some p) bound = absurd bound
    by_place (Some h) None bound = absurd bound
    by_place (Some h) (Some p) bound = same_by_flag h p h.read_only refl bound

  pub calls_refused : CallsMethod m c g s n host o c.receiver s' n' host'
  calls_refused scope heard = record {
    order = (ends scope None None heard).order;
    leads = λ stop clear halts u place bound.
        let same = puts-bound u.roots place c.receiver bound in (
          rw same bound,
          λ a w run. subst (λ (y : Act H). Ends (stopped m stop) y a w)
              (sym (by_place scope heard stop clear halts u c.receiver place bound)) (rw same at run),
        );
  }
