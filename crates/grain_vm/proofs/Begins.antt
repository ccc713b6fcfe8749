-- What came of the beginning of a chain whose root was found.
use Rattle.std.proofs.Common.{◌≡◌, ◌∙◌, ◌≤◌, ℕ, List, [], ◌∷◌, Option, Bool, false, Result, length, refl, ap, subst, arith}
use Rattle.std.proofs.Math.Path.{fun_ext}
use Rattle.std.specs.Prelude.{Some, None, Ok, Err, is_err, true}
use Rattle.grain_value.specs.declared.memory.OutOfMemory.{OutOfMemory}
use Rattle.grain_value.specs.declared.values.Held.{Held}
use Rattle.grain_host.specs.Law.{Law}
use Rattle.grain_fault.specs.Problems.{DataRace, Plain, Problem}
use Rattle.grain_program.specs.Chains.{slot_of}
use Rattle.grain_program.specs.Effects.{takes_of}
use Rattle.grain_program.specs.View.{View, chain_of, position_of}
use Rattle.grain_program.specs.declared.code.instruction_set.Op.TheVariants as op
use Rattle.grain_global.specs.StepsView.{StepsView}
use Rattle.grain_global.specs.declared.engines.Engine.{Engine}
use Rattle.grain_stack.specs.declared.handlers.Handler.{Handler}
use Rattle.grain_means.specs.Worlds.{Frame, Place, Setup}
use Rattle.grain_means.specs.Means.{setup}
use Rattle.grain_means.specs.Rules.{instr, race_text, raised, trees_in}
use Rattle.grain_means.specs.Rules.Chains.{assigned_operand, lent_cell, root_name, steps_operands, walk_root}
use Rattle.grain_means.specs.Simulation.{Computation, Simulates, stopped}
use Rattle.grain_means.specs.Walks.{whole_walk}
use Rattle.grain_means.specs.lemmas.Stretches.{compose}
use Rattle.grain_chain.specs.Walking.{is_out, new_course, steps_of}
use Rattle.grain_chain.specs.declared.requests.WalkAnswer.{WalkAnswer}
use Rattle.grain_chain.specs.declared.walks.Walk.{Walk}
use Rattle.grain_frame.specs.Abstraction.{ImplementsBound, Moment, Raises, abstraction, frame_in, marked_once, moment}
use Rattle.grain_frame.specs.declared.activations.Activation.{Activation}
use Rattle.grain_frame.specs.declared.runs.Progress.{Progress}
use Rattle.grain_frame.specs.declared.runs.Progress.TheVariants as progress
use Rattle.grain_frame.specs.declared.runs.Run.{Run}
use Rattle.grain_frame.specs.lemmas.Bound.{as_bound, bound_as, reading}
use Rattle.grain_frame.specs.lemmas.Failing.{raises_here}
use Rattle.grain_vm.specs.Chains.{RootFound, TakesCopies, is_free, root_index, value_taken, walked_frame}
use Rattle.grain_vm.specs.Driving.{beside}
use Rattle.grain_vm.specs.Underway.{Begins, Starts, Walks, chain_left}
use Rattle.grain_vm.specs.declared.chain_operands.Taken.{Taken}
use Rattle.grain_vm.specs.declared.chains.Begun.{Begun}
use Rattle.grain_vm.specs.declared.chains.Begun.TheVariants as begun
use Rattle.grain_vm.specs.declared.roots.FoundRoot.{FoundRoot}
use Rattle.grain_vm.proofs.Chaining.{chain_begins, chain_races, continues_still, kept_unblamed, past_mark, then_implements}
use Rattle.grain_vm.proofs.Refused.{rule}

module _ {H : Type 0} (law : Law H) (p : View) (engine : Engine) (f : Activation) (s : Run H)
    (n : StepsView) (host : H) (k next : ℕ) (blamed : Option ℕ) (root_found : FoundRoot) (h : Held)
    (taken : Taken) (found : RootFound p s f.base (chain_of p k) root_found h)
    (copies : TakesCopies s (chain_of p k) taken) (inside : f.base ≤ length s.scope) where
  abbrev m : Setup H
  m = setup law p engine

  abbrev whole : Computation H
  whole = rule law p engine f s n host k next blamed

  -- the walk from the root
  abbrev go : Computation H
  go q place w =
      walk_root q (lent_cell q.program (chain_of q.program k).steps h) h k (chain_of q.program k)
      (whole_walk (new_course q.engine q.program (position_of q.program f.address) k
      (trees_in (steps_operands (chain_of q.program k) s.stacks.operands))
      (value_taken (chain_of q.program k).tail taken.kept
      (assigned_operand (chain_of q.program k) s.stacks.operands))) (steps_of q.program k)) next
      (frame_in f s place) (walked_frame f s (chain_of q.program k) blamed place) w

  -- it is left after the mark
  begins : Simulates m (abstraction s n host) whole false (abstraction s (marked_once n) host) go
  begins = past_mark m f s n host {rule = whole} {go = go} (λ stop u place bound.
      chain_begins (stopped m stop) k next (chain_of p k) f s n host u place bound
      (walked_frame f s (chain_of p k) blamed place) root_found h found taken copies refl)

  abbrev race : Problem
  race = Plain (DataRace (race_text (root_name p (chain_of p k).root))) (position_of p f.address)

  -- the root is a cell that is lent
  pub raced : {ts : List ℕ} {takes gives : ℕ} (s' : Run H) (n' : StepsView)
      (r : Result Progress OutOfMemory) → is_free s root_found.home ≡ false →
      Raises s (marked_once n) race r s' n' →
      ImplementsBound m (moment f s n host) whole ts takes gives s.stacks.handlers r
      (moment f s' n' host)
  raced {ts} {takes} {gives} s' n' r lent raises =
      then_implements m f s n host {rule = whole} {go = go} (λ stop u place bound.
      chain_begins (stopped m stop) k next (chain_of p k) f s n host u place bound
      (walked_frame f s (chain_of p k) blamed place) root_found h found taken copies refl) f s' n' host r
      (bound_as {first = λ q place w. raised q (frame_in f s place) race w}
      (as_bound (raises_here law p engine f s s' (marked_once n) n' host race r raises inside
      (λ stop u place. refl)))
      (λ stop u place bound. chain_races (stopped m stop) k next (chain_of p k) f s (marked_once n) host u
      place bound (walked_frame f s (chain_of p k) blamed place) _ (root_index f.base (chain_of p k).root)
      (lent_cell p (chain_of p k).steps h) h (rw found.home at lent)))

  -- the walk has begun
  pub walks : (w : Walk) (answer : WalkAnswer) (flag : Bool) (s' : Run H) (n' : StepsView) →
      Starts m f s (marked_once n) host root_found h taken k next blamed w answer flag s' n' →
      n'.before ≡ n.before → Walks m (moment f s n host) whole k next blamed (record {
        walk = w;
        home = root_found.home;
        was_read_only = flag;
        index = k;
        blamed = blamed;
        next = next;
      }) answer s' n'
  walks w answer flag s' n' starts before = record {
    under_way = record {
      seat = starts.seat;
      scope = starts.scope;
      this = starts.this;
      index = refl;
      goes_on = refl;
      blames = refl;
      away = starts.away;
      seated = starts.seated;
      back = starts.back;
      bound = starts.bound;
      long = starts.long;
      operands = ap (λ (q : Run H). q.stacks.operands) starts.others;
      cursors = ap (λ (q : Run H). q.stacks.cursors) starts.others;
      totals = ap (λ (q : Run H). q.stacks.totals) starts.others;
      handlers = ap (λ (q : Run H). q.stacks.handlers) starts.others;
      room = ap (λ (q : Run H). q.stacks.room) starts.others;
      noted = ap (λ (q : Run H). q.stacks.noted) starts.others;
      outer = ap (λ (q : Run H). q.stacks.outer) starts.others;
      saved = ap (λ (q : Run H). q.saved) starts.others;
      level = ap (λ (q : Run H). q.level) starts.others;
      later = omega (arith, ap (λ (q : Run H). q.count) starts.others);
    };
    same = compose begins starts.same tt;
    rooted = starts.rooted;
    before = before;
  }

-- ---- the frame blames the chain's first step meanwhile

module _ {H : Type 0} (law : Law H) (p : View) (engine : Engine) (f : Activation) (s s' : Run H)
    (n n' : StepsView) (host : H) (next : ℕ) where
  abbrev set : Setup H
  set = setup law p engine

  abbrev blaming : ℕ → Activation
  blaming x = record f { slot = Some x }

  abbrev instruction : ℕ → Computation H
  instruction k q place w = instr q (op.Chain k) next (frame_in f s place) w

  abbrev blamed_rule : ℕ → ℕ → Computation H
  blamed_rule k x = rule law p engine (blaming x) s n host k next f.slot

  abbrev first_slot : ℕ → ℕ
  first_slot k = slot_of p k 0

  unblamed_bound : (k : ℕ) {ts : List ℕ} {takes gives : ℕ} {hs : List Handler}
      (r : Result Progress OutOfMemory) → ImplementsBound set (moment (blaming (first_slot k)) s n host)
      (blamed_rule k (first_slot k)) ts takes gives hs r (moment (blaming (first_slot k)) s' n' host) →
      ImplementsBound set (moment f s n host) (instruction k) ts takes gives hs r
      (moment (blaming (first_slot k)) s' n' host)
  unblamed_bound k {ts} {takes} {gives} {hs} r does = record {
    same = compose {one = false}
        (reading refl (omega arith) (λ stop clear halts u place bound. refl)) does.same tt;
    kept = kept_unblamed f (blaming (first_slot k)) s s' (Some (first_slot k)) does.kept;
    lands = continues_still engine s s' f (blaming (first_slot k)) (Some (first_slot k)) ts takes gives hs
        r does.lands;
    before = does.before;
  }

  same_frame : (k : ℕ) (x : ℕ) → walked_frame (blaming x) s (chain_of p k) f.slot
      ≡ walked_frame f s (chain_of p k) f.slot
  same_frame k x = fun_ext (λ place. refl)

  unblamed_begins : (k : ℕ) (r : Result Begun OutOfMemory) →
      Begins set (moment (blaming (first_slot k)) s n host) (blamed_rule k (first_slot k)) k next f.slot r
      (blaming (first_slot k)) s' n' →
      Begins set (moment f s n host) (instruction k) k next f.slot r (blaming (first_slot k)) s' n'
  unblamed_begins k (Ok begun.Refused) did = unblamed_bound k (Ok progress.Failed) did
  unblamed_begins k (Ok (begun.Walks w answer)) did = record {
    under_way = did.under_way;
    same = subst (λ (g : Option Place → Frame). Simulates set (abstraction s n host) (instruction k)
        (is_out answer) (beside did.under_way.scope did.under_way.this s' n' host)
        (chain_left set g k next w.home w.was_read_only did.under_way.seat None w.walk answer))
        (same_frame k (first_slot k))
        (compose {one = false}
        (reading refl (omega arith) (λ stop clear halts u place bound. refl)) did.same tt);
    rooted = did.rooted;
    before = did.before;
  }
  unblamed_begins k (Err e) did = unblamed_bound k (Err e) did

  pub begins_whole : (k j x : ℕ) (r : Result Begun OutOfMemory) → j ≡ k → x ≡ first_slot j →
      Begins set (moment (blaming x) s n host) (blamed_rule j x) j next f.slot r (blaming x) s' n' →
      Begins set (moment f s n host) (instruction k) k next f.slot r (blaming x) s' n'
  begins_whole k j x r same slot did =
      rw (slot ∙ ap first_slot same) (unblamed_begins k r
      (subst (λ (i : ℕ). Begins set (moment (blaming (first_slot i)) s n host)
      (blamed_rule i (first_slot i)) i next f.slot r (blaming (first_slot i)) s' n') same
      (subst (λ (y : ℕ). Begins set (moment (blaming y) s n host) (blamed_rule j y) j next f.slot r
      (blaming y) s' n') slot did)))

-- ---- memory was out

pub begun_out : {H : Type 0} (m : Setup H) (a : Moment H) (chain_rule : Computation H) (k next : ℕ)
    (blamed : Option ℕ) (r : Result Begun OutOfMemory) (f' : Activation) (s' : Run H)
    (n' : StepsView) → is_err r ≡ true →
    ((e : OutOfMemory) → ImplementsBound m a chain_rule (next ∷ []) (takes_of m.program (op.Chain k)) 1
    a.run.stacks.handlers (Err e) (moment f' s' n' a.host)) →
    Begins m a chain_rule k next blamed r f' s' n'
begun_out m a chain_rule k next blamed (Ok x) f' s' n' out does = absurd cc
begun_out m a chain_rule k next blamed (Err e) f' s' n' out does = does e
