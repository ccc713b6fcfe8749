-- One turn of the loop over what a walk needs.
use Rattle.std.proofs.Common.{◌≡◌, ◌∙◌, ℕ, zero, suc, ◌+◌, ◌<◌, ◌≤◌, List, [], ◌∷◌, Option, Some, None, Bool, true, false, Result, Ok, Err, length, map, refl, sym, ap, subst, arith}
use Rattle.std.specs.Prelude.{is_ok, slice_get, slice_set}
use Rattle.std.proofs.lemmas.List.{length-map}
use Rattle.grain_value.specs.Tree.{Tree}
use Rattle.grain_value.specs.View.{tree, value_of}
use Rattle.grain_value.specs.Paths.{at, Leads}
use Rattle.grain_value.specs.laws.Same.{tree-value_of}
use Rattle.grain_value.specs.declared.values.Dynamic.{Dynamic}
use Rattle.grain_value.specs.declared.values.Held.{Held}
use Rattle.grain_value.specs.declared.values.value_faults.ValueFault.{ValueFault}
use Rattle.grain_value.specs.declared.scopes.Entry.{Entry}
use Rattle.grain_fault.specs.Problems.{problem_of}
use Rattle.grain_fault.specs.declared.faults.EvalAltResult.{EvalAltResult}
use Rattle.grain_fault.specs.declared.traces.Fault.{Fault}
use Rattle.grain_program.specs.View.{View}
use Rattle.grain_global.specs.StepsView.{StepsView}
use Rattle.grain_means.specs.Worlds.{Frame, Place, Setup}
use Rattle.grain_means.specs.Places.{or_unit, along, find, put, put_held}
use Rattle.grain_means.specs.Tasks.{Task, WalkEnded, WalkFailed, Done}
use Rattle.grain_means.specs.Rules.InWorld.{missed_by, trace_of}
use Rattle.grain_means.specs.Simulation.{Binds, Computation, LocalState, Simulates, StopPersists, puts, stopped, world}
use Rattle.grain_means.specs.lemmas.Spreading.{Rooted, rooted-put, spread}
use Rattle.grain_means.specs.lemmas.PlaceLaws.{ok-along, get-after, find-put, put-twice}
use Rattle.grain_means.specs.lemmas.Stretches.{compose, same}
use Rattle.grain_chain.specs.OwnWalks as own_walks
use Rattle.grain_chain.specs.Walking.{Did, Waits, Falls, outer_root, roots_of, place_of, roots_at, with_receiver, left_to_do, resumed, lent, outcome_of, is_want, is_out, no_memory, still}
use Rattle.grain_chain.specs.declared.requests.Request.{Request}
use Rattle.grain_chain.specs.declared.requests.WalkAnswer.{WalkAnswer}
use Rattle.grain_chain.specs.declared.requests.WalkAnswer.TheVariants as answer
use Rattle.grain_chain.specs.declared.walks.Walk.{Walk}
use Rattle.grain_vm.specs.Asks.{IsMissed}
use Rattle.grain_vm.specs.Driving.{Answers, IgnoresChange, SameFlag, beside, having, left_of}
use Rattle.grain_vm.specs.Seats.{Rests, Seat, Seated, base_place, base_roots, first_held, kept_by, walk_seated}
use Rattle.grain_vm.specs.declared.driving.Answered.TheVariants as answered
use Rattle.grain_vm.proofs.Seated.{walks_on}
use Rattle.grain_frame.specs.declared.runs.Run.{Run}

-- a path that leads somewhere leads to a value
led : (r : Result Tree ValueFault) → is_ok r ≡ true → (t : Tree) × (r ≡ Ok t)
led (Ok t) e = (t, refl)
led (Err x) e = absurd cc

-- what stands where a walk stands
module _ (w : Walk) (leads : Leads w.trail.path (tree w.trail.here.value)) where
  stood : (t : Tree) × (at w.trail.path (tree w.trail.here.value) ≡ Ok t)
  stood = led (at w.trail.path (tree w.trail.here.value)) leads

  abbrev here : Held
  here = record w.trail.here { value = value_of stood.0 }

  found : find (roots_of w) (place_of w) ≡ Some here
  found =
      ap (along w.trail.path)
      (get-after (map outer_root w.trail.outer) (w.trail.here ∷ []) (length w.trail.outer) 0
      (omega (arith, length-map w.trail.outer outer_root)))
      ∙ ok-along w.trail.path w.trail.here (value_of stood.0)
      (stood.1 ∙ ap Ok (sym (tree-value_of stood.0)))

-- a value that is put where another with its flag stood
pub same_held : (g y : Held) → g.read_only ≡ y.read_only → record g { value = y.value } ≡ y
same_held g y e = rw e refl

module _ (p : View) (w : Walk) where
  -- what is lent stands where the walk stands
  pub lent_stands : (x : Option Held) → Waits p w x → Binds (with_receiver w x) (lent w x) x
  lent_stands None waits = tt
  lent_stands (Some y) waits =
      let leads = waits.leads (sym waits.lent) in
      find-put (roots_of w) (place_of w) (here w leads) y.value (found w leads)
      ∙ ap Some (same_held (here w leads) y (sym (waits.flag y refl)))

  -- it goes back as it was left
  pub lent_left : (x z : Option Held) → Waits p w x → SameFlag x z →
      puts (with_receiver w x) (lent w x) z ≡ with_receiver w z
  lent_left None None waits same = refl
  lent_left None (Some z) waits same = absurd same
  lent_left (Some y) None waits same = absurd same
  lent_left (Some y) (Some z) waits same =
      let leads = waits.leads (sym waits.lent) in
      put-twice (roots_of w) (place_of w) (here w leads) y.value z.value (found w leads)

  pub waits_still : (x z : Option Held) → Waits p w x → SameFlag x z → Waits p w z
  waits_still None None waits same = waits
  waits_still None (Some z) waits same = absurd same
  waits_still (Some y) None waits same = absurd same
  waits_still (Some y) (Some z) waits same = record {
    leads = waits.leads;
    step = waits.step;
    lent = waits.lent;
    flag = λ h is. ap (λ (o : Option Held). (or_unit o).read_only) (sym is) ∙ same ∙ waits.flag y refl;
  }

persists : (one : Bool) (a marks : ℕ) (two : Bool) → StopPersists one 0 two marks →
    StopPersists one a two (a + marks)
persists false a marks two h = tt
persists true a marks two h = (h.0, omega (arith, h.1))

module _ {H : Type 0} (m : Setup H) (k : ℕ) (f : Option Place → Frame) (seat : Seat) (done : Rests H)
    (scope : List Entry) (this : Option Held) (seated : Seated seat this) (s : Run H) where
  -- where a walk stands
  abbrev pub stands : Option (List Fault) → Walk → WalkAnswer → Computation H
  stands missed w a =
      walk_seated k f seat done missed (left_to_do m.engine m.program w a) (roots_at w a)

  -- a walk did by itself what a task says, and so it does in the world
  pub did_on : (missed : Option (List Fault)) (before : List Held) (task : Task) (w : Walk)
      (a : WalkAnswer) (n : StepsView) (host : H) →
      Did m.engine m.program s.cells before 0 task w a →
      Rooted (first_held seat).read_only before → Rooted (first_held seat).read_only (roots_at w a) →
      Simulates m (beside scope this s n host) (walk_seated k f seat done missed task before) (is_out a)
      (beside scope this s (record n { passed = n.passed + w.marks }) host) (stands missed w a)
  did_on missed before task w a n host did rooted rooted' =
      walks_on m k f seat done missed (beside scope this s n host) w.marks task
      (left_to_do m.engine m.program w a) before (roots_at w a) (is_out a) seated rooted rooted'
      (subst (λ (j : ℕ). own_walks.WalksOn s.cells (own_walks.own before j) task (is_out a)
      (own_walks.own (roots_at w a) (n.passed + w.marks)) (left_to_do m.engine m.program w a)) no_more
      (did n.passed)).equal where
        no_more : n.passed + 0 ≡ n.passed
        no_more = omega arith

  -- one turn: what is needed was done, and the walk goes on with it
  pub turned : (missed : Option (List Fault)) (w : Walk) (o : Result Dynamic EvalAltResult)
      (x left : Option Held)
      (n mid : StepsView) (host host' : H) (start : Computation H) (s0 : Run H) (v : Walk)
      (a : WalkAnswer) → Waits m.program w x → SameFlag x left →
      Simulates m (beside scope this s0 n host) start (is_want o) (beside scope this s mid host')
      (walk_seated k f seat done missed (resumed m.engine m.program w w.awaits (outcome_of o))
      (puts (with_receiver w x) (lent w x) left)) →
      Did m.engine m.program s.cells (with_receiver w left) 0
      (resumed m.engine m.program w w.awaits (outcome_of o)) v a →
      StopPersists (is_want o) 0 (is_out a) v.marks →
      Rooted (first_held seat).read_only (with_receiver w left) →
      Rooted (first_held seat).read_only (roots_at v a) →
      Simulates m (beside scope this s0 n host) start (is_out a)
      (beside scope this s (record mid { passed = mid.passed + v.marks }) host') (stands missed v a)
  turned missed w o x left n mid host host' start s0 v a waits same performs did carries rooted rooted' =
      compose
      (subst (λ (us : List Held). Simulates m (beside scope this s0 n host) start (is_want o)
      (beside scope this s mid host')
      (walk_seated k f seat done missed (resumed m.engine m.program w w.awaits (outcome_of o)) us))
      (lent_left m.program w x left waits same) performs)
      (did_on missed (with_receiver w left) (resumed m.engine m.program w w.awaits (outcome_of o)) v a mid
      host'
      did rooted rooted') (persists (is_want o) mid.passed v.marks (is_out a) carries)

-- a receiver leaves the flag of the first root
put_rooted : (b : Bool) (os rs : List Held) (q : Place) (v : Dynamic) → Rooted b (put rs q v) →
    Rooted b rs
put_rooted b os [] q v h = absurd (none q.root h) where
  none : (i : ℕ) → Rooted b (slice_set [] i (put_held q.path v (or_unit None))) → ⊥
  none i h = h
put_rooted b os (r ∷ rs) q v h = at q.root h where
  at : (i : ℕ) →
      Rooted b (slice_set (r ∷ rs) i (put_held q.path v (or_unit (slice_get (r ∷ rs) i)))) →
      Rooted b (r ∷ rs)
  at zero h = h
  at (suc i) h = h

pub own_root : (w : Walk) (x : Option Held) (b : Bool) → Rooted b (with_receiver w x) →
    Rooted b (roots_of w)
own_root w None b h = h
own_root w (Some y) b h = put_rooted b [] (roots_of w) (place_of w) y.value h

pub kept_root : (w : Walk) (x left : Option Held) (b : Bool) → Rooted b (with_receiver w x) →
    Rooted b (with_receiver w left)
kept_root w x None b h = own_root w x b h
kept_root w x (Some y) b h = rooted-put b (roots_of w) (place_of w) y.value (own_root w x b h)

-- where memory is out, nothing is done
still_out : (b : Bool) (p : ℕ) → StopPersists b p b p
still_out false p = tt
still_out true p = (refl, refl)

-- a walk that needs something has not ended for want of memory
pub not_out : (b : Bool) (p q r : ℕ) (two : Bool) → StopPersists b p false q → StopPersists b p two r
not_out false p q r two h = tt
not_out true p q r two h = let no : false ≡ true = h.0 in absurd cc

-- what holds of the walk at each turn of the loop, against where the loop began
pub record Driving {H : Type 0} (m : Setup H) (s s' : Run H) (n n' : StepsView) (host host' : H)
    (w w' : Walk) (flag flag' : Bool) (a a' : WalkAnswer) : Type 0 where
  pub bound : ℕ
  pub falls : Falls m.program w' a' bound
  pub fewer : left_of m.program w' a' ≤ left_of m.program w a
  pub same : (k : ℕ) (f : Option Place → Frame) (seat : Seat) (done : Rests H)
      (missed : Option (List Fault)) (scope : List Entry) (this : Option Held)
      (seated : Seated seat this) → Rooted (first_held seat).read_only (roots_at w a) →
      IsMissed flag s.stacks.trace missed →
      (now : Option (List Fault)) × IsMissed flag' s'.stacks.trace now
      × Simulates m (beside scope this s n host)
      (stands m k f seat done scope this seated s missed w a)
      (is_out a') (beside scope this s' n' host')
      (stands m k f seat done scope this seated s' now w' a')
  pub run : s' ≡ record s { stacks = record s.stacks { trace = s'.stacks.trace } }
  pub before : n'.before ≡ n.before
  pub carries : StopPersists (is_out a) n.passed (is_out a') n'.passed
  pub rooted : (b : Bool) → Rooted b (roots_at w a) → Rooted b (roots_at w' a')

pub fewer_left : (p : View) (w : Walk) (a : WalkAnswer) (n : ℕ) → Falls p w a n →
    left_of p w a < suc n
fewer_left p w (answer.Need r) n falls = omega (arith, falls.1)
fewer_left p w (answer.Ended v changed) n falls = omega arith
fewer_left p w (answer.Faulted x k) n falls = omega arith

-- nothing is done yet
still_there : {S : Type 0} {m : Setup S} {old : LocalState S} {start : Computation S} (out : Bool) →
    Simulates m old start out old start
still_there out =
    same (record {
      this = refl;
      order = omega arith;
      equal = λ stop clear halts u place. refl;
    })

-- only the trace has become this
retraced : {H : Type 0} (scope : List Entry) (this : Option Held) (s s' : Run H) (t l : List Fault)
    (n : StepsView) (host : H) → s' ≡ record s { stacks = record s.stacks { trace = t } } → t ≡ l →
    record (beside scope this s n host) { trace = l } ≡ beside scope this s' n host
retraced scope this s s' t l n host run is = rw (run, is) refl

only_trace : {H : Type 0} (s s1 s2 s3 : Run H) (t1 t3 : List Fault) →
    s1 ≡ record s { stacks = record s.stacks { trace = t1 } } → s2 ≡ s1 →
    s3 ≡ record s2 { stacks = record s2.stacks { trace = t3 } } →
    s3 ≡ record s { stacks = record s.stacks { trace = t3 } }
only_trace s s1 s2 s3 t1 t3 one two three = three ∙ rw (two, one) refl

module _ {H : Type 0} (m : Setup H) (s : Run H) (n : StepsView) (host : H) (w : Walk) (flag : Bool)
    (a : WalkAnswer) where
  -- the loop begins
  pub begins : (bound : ℕ) → Falls m.program w a bound → Driving m s s n n host host w w flag flag a a
  begins bound falls = record {
    bound = bound;
    falls = falls;
    fewer = omega arith;
    same = λ k f seat done missed scope this seated rooted is. (missed, is, still_there (is_out a));
    run = refl;
    before = refl;
    carries = still_out (is_out a) n.passed;
    rooted = λ b rooted. rooted;
  }

  -- One turn more. What is asked for was done so in every walk that asks for it, and what is kept of a
  -- property that was missed is noted.
  pub goes_on : (s' s2 s3 : Run H) (n1 mid n2 : StepsView) (host1 host2 : H) (v : Walk) (r : Request)
      (named : Bool) (o : Result Dynamic EvalAltResult) (left : Option Held) (v2 : Walk)
      (flag1 flag2 : Bool) (a2 : WalkAnswer) →
      Driving m s s' n n1 host host1 w v flag flag1 a (answer.Need r) → SameFlag r.receiver left →
      s2 ≡ s' → mid.before ≡ n1.before →
      Answers m named (having r.what r) r.receiver s' n1 host1 (answered.Over (o, left)) s2 mid host2 →
      ((before : Option (List Fault)) → IsMissed flag1 s2.stacks.trace before →
      (s3.stacks.trace ≡ trace_of (kept_by named before) (outcome_of o) [])
      × IsMissed flag2 s3.stacks.trace (kept_by named (missed_by (outcome_of o) []))) →
      s3 ≡ record s2 { stacks = record s2.stacks { trace = s3.stacks.trace } } →
      Did m.engine m.program s3.cells (with_receiver v left) 0
      (resumed m.engine m.program v v.awaits (outcome_of o)) v2 a2 →
      StopPersists (is_want o) 0 (is_out a2) v2.marks →
      Falls m.program v2 a2 (still m.program v v.awaits) →
      ((b : Bool) → Rooted b (roots_of v) → Rooted b (roots_at v2 a2)) →
      n2 ≡ record mid { passed = mid.passed + v2.marks } →
      Driving m s s3 n n2 host host2 w v2 flag flag2 a a2
  goes_on s' s2 s3 n1 mid n2 host1 host2 v r named o left v2 flag1 flag2 a2 was same_flag es before
      performs kept only did carries falls rooted en = record {
        bound = still m.program v v.awaits;
        falls = falls;
        fewer = omega (
          arith,
          was.fewer,
          fewer_left m.program v2 a2 (still m.program v v.awaits) falls,
        );
        same = λ k f seat done missed scope this seated root is.
            turn k f seat done missed scope this seated root is;
        run = only_trace s s' s2 s3 s'.stacks.trace s3.stacks.trace was.run es only;
        before = ap (λ (l : StepsView). l.before) en ∙ before ∙ was.before;
        carries = not_out (is_out a) n.passed n1.passed n2.passed (is_out a2) was.carries;
        rooted = λ b root. rooted b (own_root v r.receiver b (was.rooted b root));
      } where
        turn : (k : ℕ) (f : Option Place → Frame) (seat : Seat) (done : Rests H)
            (missed : Option (List Fault)) (scope : List Entry) (this : Option Held)
            (seated : Seated seat this) → Rooted (first_held seat).read_only (roots_at w a) →
            IsMissed flag s.stacks.trace missed →
            (now : Option (List Fault)) × IsMissed flag2 s3.stacks.trace now
            × Simulates m (beside scope this s n host)
            (stands m k f seat done scope this seated s missed w a) (is_out a2)
            (beside scope this s3 n2 host2) (stands m k f seat done scope this seated s3 now v2 a2)
        turn k f seat done missed scope this seated root is =
            let so = was.same k f seat done missed scope this seated root is in
            let now = kept_by named (missed_by (outcome_of o) []) in
            let keeps = kept so.0
            (subst (λ (x : Run H). IsMissed flag1 x.stacks.trace so.0) (sym es) so.1) in
            let b = (first_held seat).read_only in
            let rooted_now = was.rooted b root in
            let done_so = performs k f seat done so.0 (lent v r.receiver)
            (resumed m.engine m.program v v.awaits) (with_receiver v r.receiver) scope this seated
            rooted_now (lent_stands m.program v r.receiver was.falls.0) in (
              now,
              keeps.1,
              compose so.2
                  (subst (λ (l : StepsView). Simulates m (beside scope this s' n1 host1)
                  (stands m k f seat done scope this seated s' so.0 v (answer.Need r)) (is_out a2)
                  (beside scope this s3 l host2) (stands m k f seat done scope this seated s3 now v2 a2))
                  (sym en)
                  (turned m k f seat done scope this seated s3 now v o r.receiver left n1 mid host1 host2
                  (stands m k f seat done scope this seated s' so.0 v (answer.Need r)) s' v2 a2
                  was.falls.0 same_flag
                  (subst (λ (l : LocalState H). Simulates m (beside scope this s' n1 host1)
                  (stands m k f seat done scope this seated s' so.0 v (answer.Need r)) (is_want o) l
                  (walk_seated k f seat done now (resumed m.engine m.program v v.awaits (outcome_of o))
                  (puts (with_receiver v r.receiver) (lent v r.receiver) left)))
                  (retraced scope this s2 s3 s3.stacks.trace
                  (trace_of (kept_by named so.0) (outcome_of o) []) mid host2 only keeps.0) done_so) did
                  carries (kept_root v r.receiver left b rooted_now)
                  (rooted b (own_root v r.receiver b rooted_now)))) tt,
            )

-- the walk is over
module _ {H : Type 0} (m : Setup H) (s : Run H) (n : StepsView) (host : H) (w : Walk) (flag : Bool)
    (a : WalkAnswer) (s' : Run H) (n' : StepsView) (host' : H) (v : Walk) (flag' : Bool) (k : ℕ)
    (f : Option Place → Frame) (seat : Seat) (done : Rests H) (missed : Option (List Fault))
    (scope : List Entry) (this : Option Held) (seated : Seated seat this)
    (root : Rooted (first_held seat).read_only (roots_at w a))
    (is : IsMissed flag s.stacks.trace missed) where
  pub ends_well : (value : Dynamic) (changed : Bool) → IgnoresChange done →
      Driving m s s' n n' host host' w v flag flag' a (answer.Ended value changed) →
      (now : Option (List Fault)) × IsMissed flag' s'.stacks.trace now
      × Simulates m (beside scope this s n host)
      (stands m k f seat done scope this seated s missed w a) false (beside scope this s' n' host')
      (walk_seated k f seat done now (Done (WalkEnded value true)) (v.trail.here ∷ []))
  ends_well value changed blind was =
      let so = was.same k f seat done missed scope this seated root is in (
        so.0,
        so.1,
        compose so.2
            (same (record {
              this = refl;
              order = omega arith;
              equal = λ stop clear halts u place.
                  blind (stopped m stop) place (length u.roots) value changed
                  (record (world (beside scope this s' n' host') u) {
                    roots = spread (base_roots seat u.roots) (base_place seat place u.roots)
                        (v.trail.here ∷ []);
                  });
            })) tt,
      )

  pub ends_ill : (x : EvalAltResult) (step : ℕ) →
      Driving m s s' n n' host host' w v flag flag' a (answer.Faulted x step) →
      (now : Option (List Fault)) × IsMissed flag' s'.stacks.trace now
      × Simulates m (beside scope this s n host)
      (stands m k f seat done scope this seated s missed w a)
      (no_memory (problem_of x)) (beside scope this s' n' host')
      (walk_seated k f seat done now (Done (WalkFailed step (problem_of x))) (v.trail.here ∷ []))
  ends_ill x step was = was.same k f seat done missed scope this seated root is
