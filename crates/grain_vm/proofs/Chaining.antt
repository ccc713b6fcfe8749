-- A chain: what comes before its walk.
use Rattle.std.proofs.Common.{◌≡◌, ◌∙◌, ℕ, List, [], Option, Some, None, Bool, true, false, if◌then◌else◌, Result, Ok, Err, refl, ap, arith}
use Rattle.std.specs.Prelude.{is_some, slice_get}
use Rattle.grain_value.specs.Cells.{content}
use Rattle.grain_value.specs.Operands.{top}
use Rattle.grain_value.specs.declared.memory.OutOfMemory.{OutOfMemory}
use Rattle.grain_value.specs.declared.stores.Cell.{Cell}
use Rattle.grain_value.specs.declared.values.Dynamic.{Dynamic}
use Rattle.grain_value.specs.declared.values.Held.{Held}
use Rattle.grain_program.specs.View.{chain_of, position_of}
use Rattle.grain_program.specs.declared.code.chains.Chain.{Chain}
use Rattle.grain_program.specs.declared.code.chains.Root.{Root}
use Rattle.grain_program.specs.declared.code.chains.Root.TheVariants as root
use Rattle.grain_program.specs.declared.code.chains.Tail.{Tail}
use Rattle.grain_program.specs.declared.code.chains.Tail.TheVariants as tail
use Rattle.grain_program.specs.declared.code.parts.AssignOp.{AssignOp}
use Rattle.grain_global.specs.StepsView.{StepsView}
use Rattle.grain_global.specs.declared.engines.Engine.{Engine}
use Rattle.grain_stack.specs.declared.handlers.Handler.{Handler}
use Rattle.grain_means.specs.Worlds.{Act, Frame, Place, Setup, World}
use Rattle.grain_means.specs.Tasks.{Task}
use Rattle.grain_means.specs.Walks.{whole_walk}
use Rattle.grain_means.specs.Rules.{data_race, marked, only_read, trees_in}
use Rattle.grain_means.specs.Rules.Chains.{assigned_operand, assigned_value, at_root, chain_in, lent_cell, operator_of, root_name, steps_operands, walk_cell, walk_root}
use Rattle.grain_means.specs.Simulation.{Binds, Environment, Computation, Simulates, stopped, world}
use Rattle.grain_means.specs.lemmas.Stretches.{compose}
use Rattle.grain_chain.specs.Walking as walking
use Rattle.grain_chain.specs.Walking.{assigned_by, ending_in, new_course, steps_of}
use Rattle.grain_frame.specs.lemmas.Bound.{held_is, reading}
use Rattle.grain_frame.specs.Abstraction.{abstraction, frame_in, this_of, marked_once, moment, ContinuesAt, Implements, ImplementsBound, KeepsFrame}
use Rattle.grain_vm.specs.Chains.{KeepsValue, RootFound, TakesCopies, home_in, is_free, plain_home, root_held, root_index, value_taken}
use Rattle.grain_frame.specs.declared.activations.Activation.{Activation}
use Rattle.grain_vm.specs.declared.chain_operands.Taken.{Taken}
use Rattle.grain_vm.specs.declared.roots.FoundRoot.{FoundRoot}
use Rattle.grain_frame.specs.declared.runs.Progress.{Progress}
use Rattle.grain_frame.specs.declared.runs.Progress.TheVariants as progress
use Rattle.grain_frame.specs.declared.runs.Run.{Run}
use Rattle.grain_vm.proofs.Lifted.{untraced}
use Rattle.grain_vm.proofs.Starting.{some_same}

-- ---- the frame's slot

pub continues_still : {H : Type 0} (engine : Engine) (s s' : Run H) (f f' : Activation) (x : Option ℕ)
    (ts : List ℕ) (takes gives : ℕ) (hs : List Handler) (r : Result Progress OutOfMemory) →
    ContinuesAt engine s (record f { slot = x }) s' f' ts takes gives hs r →
    ContinuesAt engine s f s' f' ts takes gives hs r
continues_still engine s s' f f' x ts takes gives hs (Ok progress.Continues) l = l
continues_still engine s s' f f' x ts takes gives hs (Ok progress.Returned) l = l
continues_still engine s s' f f' x ts takes gives hs (Ok progress.Failed) l = l
continues_still engine s s' f f' x ts takes gives hs (Err e) l = l

pub kept_unblamed : {H : Type 0} (f f' : Activation) (s s' : Run H) (x : Option ℕ) →
    KeepsFrame (record f { slot = x }) s f' s' → KeepsFrame f s f' s'
kept_unblamed f f' s s' x kept = record {
  chunk = kept.chunk;
  base = kept.base;
  scope = kept.scope;
  room = kept.room;
  noted = kept.noted;
  outer = kept.outer;
  saved = kept.saved;
  level = kept.level;
  this = kept.this;
  later = kept.later;
}

-- what was done in a frame that blames another step
pub unblamed : {H : Type 0} (m : Setup H) (f f' : Activation) (s s' : Run H) (n n' : StepsView)
    (host host' : H) (x : Option ℕ) {rule : Computation H} {ts : List ℕ} {takes gives : ℕ}
    {hs : List Handler} (r : Result Progress OutOfMemory) →
    Implements m (moment (record f { slot = x }) s n host) rule ts takes gives hs r
    (moment f' s' n' host') →
    Implements m (moment f s n host) rule ts takes gives hs r (moment f' s' n' host')
unblamed m f f' s s' n n' host host' x {rule} {ts} {takes} {gives} {hs} r does = record {
  same = does.same;
  kept = kept_unblamed f f' s s' x does.kept;
  lands = continues_still m.engine s s' f f' x ts takes gives hs r does.lands;
  before = does.before;
}

-- ---- the trace

lands_untraced : {H : Type 0} (engine : Engine) (s s' : Run H) (f f' : Activation) (ts : List ℕ)
    (takes gives : ℕ) (hs : List Handler) (r : Result Progress OutOfMemory) →
    ContinuesAt engine (untraced s) f s' f' ts takes gives hs r →
    ContinuesAt engine s f s' f' ts takes gives hs r
lands_untraced engine s s' f f' ts takes gives hs (Ok progress.Continues) l = l
lands_untraced engine s s' f f' ts takes gives hs (Ok progress.Returned) l = l
lands_untraced engine s s' f f' ts takes gives hs (Ok progress.Failed) l = l
lands_untraced engine s s' f f' ts takes gives hs (Err e) l = l

-- what was done once the trace was gone
pub emptied : {H : Type 0} (m : Setup H) (f f' : Activation) (s s' : Run H) (n n' : StepsView)
    (host host' : H) {rule : Computation H} {ts : List ℕ} {takes gives : ℕ} {hs : List Handler}
    (r : Result Progress OutOfMemory) →
    Implements m (moment f (untraced s) n host) rule ts takes gives hs r (moment f' s' n' host') →
    Implements m (moment f s n host) (λ q place w. rule q place (record w { trace = [] })) ts takes gives
    hs r (moment f' s' n' host')
emptied m f f' s s' n n' host host' {rule} {ts} {takes} {gives} {hs} r does = record {
  same = record {
    this = does.same.this;
    order = does.same.order;
    equal = λ stop clear halts u place. does.same.equal stop clear halts u place;
  };
  kept = record {
    chunk = does.kept.chunk;
    base = does.kept.base;
    scope = does.kept.scope;
    room = does.kept.room;
    noted = does.kept.noted;
    outer = does.kept.outer;
    saved = does.kept.saved;
    level = does.kept.level;
    this = does.kept.this;
    later = does.kept.later;
  };
  lands = lands_untraced m.engine s s' f f' ts takes gives hs r does.lands;
  before = does.before;
}

-- ---- what comes before the walk

module _ {H : Type 0} (m : Setup H) (k next : ℕ) (c : Chain) (f : Activation) (s : Run H)
    (n : StepsView) (host : H) (u : Environment) (place : Option Place)
    (bound : Binds u.roots place (this_of s)) (g : Frame) where
  abbrev here : World H
  here = world (abstraction s n host) u

  abbrev now : Frame
  now = frame_in f s place

  pub there_is : (r : Root) (h : Held) (go : Held → Act H) →
      root_held s (root_index f.base r) r ≡ Some h → at_root m r now here go ≡ go h
  there_is (root.Local name slot) h go is = rw is refl
  there_is (root.This q) h go is =
      held_is m (this_of s) u.roots place q now here go bound ∙ rw is refl
  there_is root.Temporary h go is =
      ap go (some_same (top s.stacks.operands) h is)

  read_value : (a : Tail) (h : Held) (kept : Option Dynamic) (go : Option Dynamic → Act H) →
      KeepsValue s.cells a h kept → assigned_value m a h now here go
      ≡ go (assigned_by (ending_in m.program a) (value_taken a kept h))
  read_value tail.Read h kept go is = refl
  read_value (tail.Assign None) h kept go is = rw is refl
  read_value (tail.Assign (Some o)) h kept go is = rw is refl

  operator_same : (a : Tail) → operator_of m.program a ≡ walking.operator_of (ending_in m.program a)
  operator_same tail.Read = refl
  operator_same (tail.Assign None) = refl
  operator_same (tail.Assign (Some o)) = refl

  module _ (root_found : FoundRoot) (h : Held)
      (found : RootFound m.program s f.base c root_found h) where
    -- the walk from a root is left after the mark
    pub chain_begins : (taken : Taken) → TakesCopies s c taken → c ≡ chain_of m.program k →
        chain_in m k c next now g here
        ≡ marked m now here (walk_root m (lent_cell m.program c.steps h) h k c
        (whole_walk (new_course m.engine m.program (position_of m.program f.address) k
        (trees_in (steps_operands c s.stacks.operands))
        (value_taken c.tail taken.kept (assigned_operand c s.stacks.operands)))
        (steps_of m.program k)) next now g)
    chain_begins taken copies is =
        there_is c.root h _ found.there
        ∙ rw found.writable (read_value c.tail (assigned_operand c s.stacks.operands) taken.kept _
        copies.1)
        ∙ ap (λ (o : Option AssignOp). marked m now here (walk_root m (lent_cell m.program c.steps h) h k c
        (whole_walk (record {
          setting = record {
            engine = m.engine;
            program = m.program;
            position = position_of m.program f.address;
          };
          operands = trees_in (steps_operands c s.stacks.operands);
          assigns = assigned_by (ending_in m.program c.tail)
              (value_taken c.tail taken.kept (assigned_operand c s.stacks.operands));
          operator = o;
        }) c.steps) next now g)) (operator_same c.tail)
        ∙ ap (λ (d : Chain). marked m now here (walk_root m (lent_cell m.program c.steps h) h k c
        (whole_walk (record {
          setting = record {
            engine = m.engine;
            program = m.program;
            position = position_of m.program f.address;
          };
          operands = trees_in (steps_operands c s.stacks.operands);
          assigns = assigned_by (ending_in m.program d.tail)
              (value_taken c.tail taken.kept (assigned_operand c s.stacks.operands));
          operator = walking.operator_of (ending_in m.program d.tail);
        }) d.steps) next now g)) is

  by_flag : (b : Bool) (v : Dynamic) (x : Act H) → is_some (if b then None else Some v) ≡ false →
      (if b then data_race m (root_name m.program c.root) now here else x)
      ≡ data_race m (root_name m.program c.root) now here
  by_flag true v x e = refl
  by_flag false v x e = absurd cc

  by_content : (t : Task) (o : Option Cell) (j : ℕ) (h : Held) → is_some (content o) ≡ false →
      walk_cell m o j (only_read s.cells h) k t next (root_name m.program c.root) now g here
      ≡ data_race m (root_name m.program c.root) now here
  by_content t None j h e = refl
  by_content t (Some d) j h e = by_flag d.busy d.held.value _ e

  by_root : (i : ℕ) (r : Root) → is_free s (plain_home i r) ≡ false → ⊥
  by_root i (root.Local name slot) e = cc
  by_root i (root.This q) e = cc
  by_root i root.Temporary e = cc

  -- the root is a cell that is lent
  pub chain_races : (t : Task) (i : ℕ) (x : Option ℕ) (h : Held) →
      is_free s (home_in i c.root x) ≡ false →
      walk_root m x h k c t next now g here ≡ data_race m (root_name m.program c.root) now here
  chain_races t i None h e = absurd (by_root i c.root e)
  chain_races t i (Some j) h e = by_content t (slice_get s.cells j) j h e

-- ---- the whole

-- a mark, and then what follows it, wherever `this` is bound
module _ {H : Type 0} (m : Setup H) (f : Activation) (s : Run H) (n : StepsView) (host : H)
    {rule go : Computation H}
    (alike : (stop : Option ℕ) (u : Environment) (place : Option Place) →
    Binds u.roots place (this_of s) → rule (stopped m stop) place (world (abstraction s n host) u)
    ≡ marked (stopped m stop) (frame_in f s place) (world (abstraction s n host) u)
    (go (stopped m stop) place)) where
  pub past_mark : Simulates m (abstraction s n host) rule false (abstraction s (marked_once n) host) go
  past_mark = reading refl (omega arith) (λ stop clear halts u place bound.
      alike stop u place bound ∙ rw (clear n.passed (omega arith) (omega arith)) refl)

  pub then_implements : {ts : List ℕ} {takes gives : ℕ} {hs : List Handler} (f' : Activation)
      (s' : Run H) (n' : StepsView) (host' : H) (r : Result Progress OutOfMemory) →
      ImplementsBound m (moment f s (marked_once n) host) go ts takes gives hs r (moment f' s' n' host') →
      ImplementsBound m (moment f s n host) rule ts takes gives hs r (moment f' s' n' host')
  then_implements f' s' n' host' r does = record {
    same = compose past_mark does.same tt;
    kept = does.kept;
    lands = does.lands;
    before = does.before;
  }
