-- What holds of every walk that did what a task says: its first root keeps its flag, and if an answer
-- says that memory ran out, so does the walk.
use Rattle.std.proofs.Common.{◌≡◌, ◌<◌, ℕ, suc, ◌+◌, List, [], ◌∷◌, ◌++◌, Bool, true, false, Option, Some, None, Result, Ok, Err, take, refl, sym, ap, ◌∙◌, subst, arith}
use Rattle.std.specs.Prelude.{nat_eq, if◌then◌else◌}
use Rattle.std.proofs.lemmas.Bool.Decides.{nat_tests}
use Rattle.grain_value.specs.declared.stores.Cell.{Cell}
use Rattle.grain_value.specs.declared.values.Dynamic.{Dynamic}
use Rattle.grain_value.specs.declared.values.Held.{Held}
use Rattle.grain_fault.specs.Problems.{Problem, problem_of, NoMemory, Plain, InFunctionCall, InModule, SystemError}
use Rattle.grain_fault.specs.declared.faults.EvalAltResult.{EvalAltResult}
use Rattle.grain_program.specs.View.{View}
use Rattle.grain_global.specs.declared.engines.Engine.{Engine}
use Rattle.grain_means.specs.Worlds.{Failed, is_stop}
use Rattle.grain_means.specs.Simulation.{NoStopWithin, StopsHere, StopPersists}
use Rattle.grain_means.specs.lemmas.Spreading.{Rooted, rooted-put, rooted-add, rooted-take}
use Rattle.grain_means.specs.Places.{put, put_held}
use Rattle.grain_means.specs.Tasks.{Task, Done, Mark, Look, Flatten, Write, Root, Drop, Need, Invoke, Own, Play, Over, Asks, Calls, WalkEnded, WalkFailed, play}
use Rattle.grain_chain.specs.OwnWalks.{WalksOn, own}
use Rattle.grain_chain.specs.Walking.{Did, roots_of, place_of, roots_at, rest_of, setting_of, left_to_do, lent, task_for, resumed, with_receiver, is_out, no_memory, is_want, outcome_of}
use Rattle.grain_chain.specs.Standings.{oldest}
use Rattle.grain_chain.specs.laws.Ways.{put-here, fell}
use Rattle.grain_chain.specs.declared.origins.Awaited.{Awaited}
use Rattle.grain_chain.specs.declared.origins.Awaited.TheVariants as awaited
use Rattle.grain_chain.specs.declared.requests.What.{What}
use Rattle.grain_chain.specs.declared.requests.What.TheVariants as what
use Rattle.grain_chain.specs.declared.requests.WalkAnswer.{WalkAnswer}
use Rattle.grain_chain.specs.declared.requests.WalkAnswer.TheVariants as answer
use Rattle.grain_chain.specs.declared.walks.Walk.{Walk}

-- a stop at the end of a stretch where memory is out, and else none
abbrev stop_at : Bool → ℕ → Option ℕ
stop_at false m = None
stop_at true m = Some m

itself : (m : ℕ) → nat_eq m m ≡ true
itself m = grind (arith, nat_tests)

other : (m k : ℕ) → k < m → nat_eq m k ≡ false
other m k h = grind (arith, nat_tests)

none_within : (out : Bool) (a b : ℕ) → NoStopWithin (stop_at out b) a b
none_within false a b = λ k l m. refl
none_within true a b = λ k l m. other b k m

stops : (out : Bool) (b : ℕ) → StopsHere out (stop_at out b) b
stops false b = tt
stops true b = itself b

-- a stretch, as it is played
pub played : (cells : List Cell) (a b : Own) (t u : Task) (out : Bool) → WalksOn cells a t out b u →
    (stop : Option ℕ) × (play stop cells t a ≡ play stop cells u b)
played cells a b t u out h = (
  stop_at out b.passed,
  h.equal (stop_at out b.passed) (none_within out a.passed b.passed) (stops out b.passed),
)

-- the state in which a walk by itself stops
abbrev state_of : Play → Own
state_of (Over o s) = s
state_of (Asks c f s) = s
state_of (Calls i f s) = s

-- the fault by which it is over; `NoMemory` if there is none
abbrev problem_in : Play → Problem
problem_in (Over (WalkFailed n x) s) = x
problem_in (Over (WalkEnded v changed) s) = NoMemory
problem_in (Asks c f s) = NoMemory
problem_in (Calls i f s) = NoMemory

module _ (stop : Option ℕ) (cells : List Cell) (b : Bool) where
  abbrev Keeps : Play → Type 0
  Keeps q = Rooted b (state_of q).roots

  either : (c : Bool) (q r : Play) → Keeps q → Keeps r → Keeps (if c then q else r)
  either true q r h i = h
  either false q r h i = i

  keeps : (t : Task) (s : Own) → Rooted b s.roots → Keeps (play stop cells t s)
  keeps (Done o) s h = h
  keeps (Mark out go) s h =
      either (is_stop stop s.passed) _ _ (keeps out s h)
      (keeps go (record s { passed = s.passed + 1 }) h)
  keeps (Look p f) s h = keeps (f _) s h
  keeps (Flatten v f) s h = keeps (f _) s h
  keeps (Write p v t) s h =
      keeps t (record s { roots = put s.roots p v }) (rooted-put b s.roots p v h)
  keeps (Root r t) s h = keeps t (record s { roots = s.roots ++ r ∷ [] }) (rooted-add b s.roots r h)
  keeps (Drop n f) s h =
      keeps (f _) (record s { roots = take (suc n) s.roots }) (rooted-take b s.roots n h)
  keeps (Need c f) s h = h
  keeps (Invoke i f) s h = h

module _ (e : Engine) (p : View) (cells : List Cell) where
  ends : (stop : Option ℕ) (b : Bool) (w : Walk) (a : WalkAnswer) (rs : List Held) (k : ℕ) →
      Rooted b (state_of (play stop cells (left_to_do e p w a) (own rs k))).roots → Rooted b rs
  ends stop b w (answer.Need r) rs k h = needs r.what h where
    needs : (call : What) → Rooted b (state_of (play stop cells
        (task_for call r (lent w r.receiver) (resumed e p w w.awaits)) (own rs k))).roots →
        Rooted b rs
    needs (what.Native name) h = h
    needs (what.Compiled n) h = h
    needs (what.Pointer f) h = h
  ends stop b w (answer.Ended v changed) rs k h = h
  ends stop b w (answer.Faulted x n) rs k h = h

  -- the first root keeps its flag
  pub stays_rooted : (before : List Held) (passed : ℕ) (t : Task) (w : Walk) (a : WalkAnswer) (b : Bool) →
      Did e p cells before passed t w a → Rooted b before → Rooted b (roots_at w a)
  stays_rooted before passed t w a b did h =
      let run = played cells (own before (0 + passed)) (own (roots_at w a) (0 + w.marks)) t
      (left_to_do e p w a) (is_out a) (did 0) in
      ends run.0 b w a (roots_at w a) (0 + w.marks)
      (subst (λ (q : Play). Rooted b (state_of q).roots) run.1
      (keeps run.0 cells b t (own before (0 + passed)) h))

  -- `NoMemory` is handed on at once
  refused : (w : Walk) (s : Awaited) →
      resumed e p w s (Failed NoMemory) ≡ rest_of e p w (WalkFailed w.step NoMemory)
  refused w awaited.IndexSet = refl
  refused w (awaited.PropertySet name q assigned v) = refl
  refused w (awaited.SetInstead x assigned) = refl
  refused w (awaited.PropertyGot name q i) = refl
  refused w (awaited.GotInstead x i) = refl
  refused w (awaited.IndexGot i) = refl
  refused w (awaited.IndexRead q i n) = refl
  refused w (awaited.OpAssigned q a) = refl
  refused w (awaited.Operator q) = refl
  refused w (awaited.Called b i) = refl

  falls_with : (w : Walk) (receiver : Option Held) (n : ℕ) (k : ℕ) →
      (h : Held) × WalksOn cells (own (with_receiver w receiver) k)
      (rest_of e p w (WalkFailed n NoMemory)) false
      (own (h ∷ []) k) (Done (WalkFailed n NoMemory))
  falls_with w None n k = (
    oldest w.trail.outer w.trail.here,
    fell (setting_of e p w.pos) cells n NoMemory w.trail.outer w.trail.here
        (oldest w.trail.outer w.trail.here) k refl,
  )
  falls_with w (Some r) n k =
      let here : Held = put_held w.trail.path r.value w.trail.here in (
        oldest w.trail.outer here,
        subst (λ (rs : List Held). WalksOn cells (own rs k) (rest_of e p w (WalkFailed n NoMemory)) false
            (own (oldest w.trail.outer here ∷ []) k) (Done (WalkFailed n NoMemory)))
            (sym (put-here w.trail.outer w.trail.here r.value w.trail.path))
            (fell (setting_of e p w.pos) cells n NoMemory w.trail.outer here (oldest w.trail.outer here)
            k refl),
      )

  is_over : (stop : Option ℕ) (w : Walk) (a : WalkAnswer) (n : ℕ) (s : Own) (rs : List Held) (k : ℕ) →
      Over (WalkFailed n NoMemory) s ≡ play stop cells (left_to_do e p w a) (own rs k) →
      (is_out a ≡ true) × (k ≡ s.passed)
  is_over stop w (answer.Need r) n s rs k h = needs r.what h where
    needs : (call : What) → Over (WalkFailed n NoMemory) s ≡ play stop cells
        (task_for call r (lent w r.receiver) (resumed e p w w.awaits)) (own rs k) →
        (false ≡ true) × (k ≡ s.passed)
    needs (what.Native name) h = cc
    needs (what.Compiled i) h = cc
    needs (what.Pointer f) h = cc
  is_over stop w (answer.Ended v changed) n s rs k h = cc
  is_over stop w (answer.Faulted x m) n s rs k h =
      (ap no_memory (sym (ap problem_in h)), ap (λ (q : Play). (state_of q).passed) (sym h))

  wanted : (w v : Walk) (receiver : Option Held) (y : Problem) (a : WalkAnswer) →
      Did e p cells (with_receiver w receiver) 0 (resumed e p w w.awaits (Failed y)) v a →
      StopPersists (no_memory y) 0 (is_out a) v.marks
  wanted w v receiver (Plain k q) a did = tt
  wanted w v receiver (InFunctionCall f s x q) a did = tt
  wanted w v receiver (InModule m x q) a did = tt
  wanted w v receiver (SystemError s x) a did = tt
  wanted w v receiver NoMemory a did =
      let before = with_receiver w receiver in
      let run = played cells (own before (0 + 0)) (own (roots_at v a) (0 + v.marks))
      (resumed e p w w.awaits (Failed NoMemory)) (left_to_do e p v a) (is_out a) (did 0) in
      let f = falls_with w receiver w.step (0 + 0) in
      let over = is_over run.0 v a w.step (own (f.0 ∷ []) (0 + 0)) (roots_at v a) (0 + v.marks)
      (sym (f.1.equal run.0 (λ k l m. absurd (omega (arith, l, m))) tt)
      ∙ ap (λ (t : Task). play run.0 cells t (own before (0 + 0))) (sym (refused w w.awaits))
      ∙ run.1) in
      (over.0, omega (arith, over.1))

  -- `NoMemory` is handed on
  pub carries : (w v : Walk) (receiver : Option Held) (outcome : Result Dynamic EvalAltResult)
      (a : WalkAnswer) →
      Did e p cells (with_receiver w receiver) 0 (resumed e p w w.awaits (outcome_of outcome)) v a →
      StopPersists (is_want outcome) 0 (is_out a) v.marks
  carries w v receiver (Ok u) a did = tt
  carries w v receiver (Err x) a did = wanted w v receiver (problem_of x) a did

  pub start_rooted : (h : Held) (t : Task) (w : Walk) (a : WalkAnswer) →
      Did e p cells (h ∷ []) 0 t w a → Rooted h.read_only (roots_at w a)
  start_rooted h t w a did = stays_rooted (h ∷ []) 0 t w a h.read_only did refl

  received : (w : Walk) (receiver : Option Held) (b : Bool) → Rooted b (roots_of w) →
      Rooted b (with_receiver w receiver)
  received w None b h = h
  received w (Some r) b h = rooted-put b (roots_of w) (place_of w) r.value h

  pub resume_rooted : (w v : Walk) (receiver : Option Held) (t : Task) (a : WalkAnswer) →
      Did e p cells (with_receiver w receiver) 0 t v a →
      (b : Bool) → Rooted b (roots_of w) → Rooted b (roots_at v a)
  resume_rooted w v receiver t a did b h =
      stays_rooted (with_receiver w receiver) 0 t v a b did (received w receiver b h)
