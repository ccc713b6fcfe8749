-- The next item of a loop: there is one or none, its count fits, and it is stored.
use Rattle.std.proofs.Common.{◌≡◌, ◌∙◌, ◌<◌, ◌≤◌, ◌+◌, ℕ, ℤ, pos, ◌+ℤ◌, List, [], ◌∷◌, Option, Some, None, Bool, true, false, Result, Ok, Err, length, refl, sym, subst, ap, arith}
use Rattle.grain_value.specs.Tree.{Tree}
use Rattle.grain_value.specs.declared.memory.OutOfMemory.{OutOfMemory}
use Rattle.grain_fault.specs.Problems.{Arithmetic, Plain}
use Rattle.grain_ops.specs.Calculations.{fits64}
use Rattle.grain_program.specs.declared.code.instruction_set.Op.TheVariants as op
use Rattle.grain_program.specs.Shapes.{Arrival}
use Rattle.grain_program.specs.Typing.{In}
use Rattle.grain_program.specs.View.{View, position_of}
use Rattle.grain_host.specs.Law.{Law}
use Rattle.grain_global.specs.declared.engines.Engine.{Engine}
use Rattle.grain_global.specs.StepsView.{StepsView}
use Rattle.grain_stack.specs.Cursors.{items_left}
use Rattle.grain_stack.specs.Entries.{first_of}
use Rattle.grain_stack.specs.Views.{StacksView}
use Rattle.grain_stack.specs.declared.cursors.Cursor.{Cursor}
use Rattle.grain_means.specs.Worlds.{Place, World, Act, Setup}
use Rattle.grain_means.specs.Rules.{count_stored, counter_text, innermost_cursor, item_given, iter_next, loop_advanced, loop_left, offered, raised}
use Rattle.grain_means.specs.Means.{setup}
use Rattle.grain_means.specs.Simulation.{Computation, SimulatesExactly, stopped, world}
use Rattle.grain_frame.specs.Abstraction.{abstraction, charge_continuation, cursors_in, frame_in, is_out, moment}
use Rattle.grain_frame.specs.Looping.{CountResult, ImplementsLoop, arrivals_of, first_items}
use Rattle.grain_frame.specs.declared.activations.Activation.{Activation}
use Rattle.grain_frame.specs.declared.runs.Progress.{Progress}
use Rattle.grain_frame.specs.declared.runs.Progress.TheVariants as progress
use Rattle.grain_frame.specs.declared.runs.Run.{Run}
use Rattle.grain_frame.proofs.Storing.{count_kept, loop_as, loop_then}

-- the innermost cursor is the first
pub first_is : (cs : List Cursor) (c : Cursor) → Some c ≡ first_of cs →
    (ds : List Cursor) × (cs ≡ c ∷ ds)
first_is [] c is = absurd cc
first_is (d ∷ ds) c is = let same : c ≡ d = cc in (ds, rw same refl)

-- and there is one
pub none_there : (cs : List Cursor) → 0 < length cs → ¬ (None ≡ first_of cs)
none_there [] more is = absurd (omega (arith, more))
none_there (c ∷ cs) more is = absurd cc

-- what is done with its items
module _ {H : Type 0} (m : Setup H) (f : Activation) (s : Run H) (c : Cursor) (ds : List Cursor)
    (is : s.stacks.cursors ≡ c ∷ ds) (target next : ℕ) (slot : Option ℕ) (place : Option Place)
    (w : World H) where
  on_items : (ts : List Tree) → items_left c.left ≡ ts →
      iter_next m target slot next (frame_in f s place) w
      ≡ loop_advanced m ts c.counter target slot next (frame_in f s place) w
  on_items ts items =
      ap (λ (cs : List Cursor). loop_advanced m (innermost_cursor (cursors_in cs)).left
      (innermost_cursor (cursors_in cs)).counter target slot next (frame_in f s place) w) is
      ∙ ap (λ (us : List Tree). loop_advanced m us c.counter target slot next (frame_in f s place) w)
      items

  pub over_leaves : items_left c.left ≡ [] →
      iter_next m target slot next (frame_in f s place) w
      ≡ loop_left m target (frame_in f s place) w
  over_leaves none = on_items [] none

  pub item_counts : (t : Tree) (ts : List Tree) (count : ℤ) → items_left c.left ≡ t ∷ ts →
      count ≡ c.counter +ℤ pos 1 → fits64 (c.counter +ℤ pos 1) ≡ true →
      iter_next m target slot next (frame_in f s place) w
      ≡ count_stored m slot count (frame_in f s place) w
      (item_given m t ts count next (frame_in f s place))
  item_counts t ts count items is fits = on_items (t ∷ ts) items ∙ rw (fits, is) refl

  pub count_overflows : (t : Tree) (ts : List Tree) → items_left c.left ≡ t ∷ ts →
      fits64 (c.counter +ℤ pos 1) ≡ false →
      iter_next m target slot next (frame_in f s place) w
      ≡ raised m (frame_in f s place)
      (Plain (Arithmetic (counter_text c.counter)) (position_of m.program f.address)) w
  count_overflows t ts items wide = on_items (t ∷ ts) items ∙ rw wide refl

-- where a count was stored, the stacks are as they were
pub stacks_kept : {H : Type 0} (s s' : Run H) → CountResult s s' → s'.stacks ≡ s.stacks
stacks_kept {H} s s' run = ap (λ (x : Run H). x.stacks) run.0

-- the count was stored, and what follows
module _ {H : Type 0} (law : Law H) (p : View) (engine : Engine) (f : Activation) (s s' : Run H)
    (n n' : StepsView) (slot : Option ℕ) (count : ℤ) where
  abbrev pub SimulatesStore : Result Bool OutOfMemory → Type 0
  SimulatesStore r =
      (host : H) (go : Setup H → Option Place → World H → Act H) →
      SimulatesExactly (setup law p engine) (abstraction s n host)
      (λ m place w. count_stored m slot count (frame_in f s place) w (go m place))
      (is_out r) (abstraction s' n' host)
      (charge_continuation r s'.fault (frame_in f s') go
      (λ m place x w. offered m (frame_in f s' place) x w))

  module _ (run : CountResult s s') (before : n'.before ≡ n.before)
      (inside : f.base ≤ length s.scope) (host : H)
      (go : Setup H → Option Place → World H → Act H) (goes : List Arrival) where
    abbrev rule : Computation H
    rule m place w = count_stored m slot count (frame_in f s place) w (go m place)

    stacks : s'.stacks ≡ s.stacks
    stacks = ap (λ (x : Run H). x.stacks) run.0

    pub stored_failed : (b : Bool) → b ≡ false → SimulatesStore (Ok b) →
        ImplementsLoop (setup law p engine) (moment f s n host) rule goes 0 (Ok progress.Failed)
        (moment f s' n' host)
    stored_failed true e does = absurd cc
    stored_failed false e does = record {
      same = does host go;
      kept = count_kept f s s' run inside;
      lands = (
        omega (arith, ap (λ (v : StacksView). length v.operands) stacks),
        ap (λ (v : StacksView). v.handlers) stacks,
        ap (λ (v : StacksView). v.cursors) stacks,
      );
      before = before;
    }

    pub stored_not : (e : OutOfMemory) (r : Result Progress OutOfMemory) → is_out r ≡ true →
        SimulatesStore (Err e) →
        ImplementsLoop (setup law p engine) (moment f s n host) rule goes 0 r
        (moment f s' n' host)
    stored_not e (Ok x) out does = absurd cc
    stored_not e (Err x) out does = record {
      same = does host go;
      kept = count_kept f s s' run inside;
      lands = tt;
      before = before;
    }

  -- the item is given then
  pub stored_then : CountResult s s' → n'.before ≡ n.before → f.base ≤ length s.scope →
      (host : H) (target next : ℕ) (t : Tree) (ts : List Tree) (b : Bool) → b ≡ true →
      SimulatesStore (Ok b) → (f' : Activation) (end : Run H) (k : StepsView)
      (r : Result Progress OutOfMemory) →
      ImplementsLoop (setup law p engine) (moment f s' n' host)
      (λ m place w. item_given m t ts count next (frame_in f s' place) w)
      (arrivals_of p (op.IterNext target) next s') 0 r (moment f' end k host) →
      ImplementsLoop (setup law p engine) (moment f s n host)
      (λ m place w. count_stored m slot count (frame_in f s place) w
      (item_given m t ts count next (frame_in f s place)))
      (arrivals_of p (op.IterNext target) next s) 0 r (moment f' end k host)
  stored_then run before inside host target next t ts false e does f' end k r given = absurd cc
  stored_then run before inside host target next t ts true e does f' end k r given =
      loop_then law p engine f s s' n n' host host f' end k host
      (does host (λ m place w. item_given m t ts count next (frame_in f s place) w))
      (count_kept f s s' run inside) stacks before among
      (loop_as (λ stop u place. sym (ap (λ (v : StacksView).
      item_given (stopped (setup law p engine) stop) t ts count next
      (frame_in f (record s { stacks = v }) place) (world (abstraction s' n' host) u)) stacks))
      (λ x i. i) given) where
        stacks : s'.stacks ≡ s.stacks
        stacks = ap (λ (x : Run H). x.stacks) run.0

        among : (x : Arrival) → In x (arrivals_of p (op.IterNext target) next s') →
            In x (arrivals_of p (op.IterNext target) next s)
        among x i = subst (λ (v : StacksView).
            In x (arrivals_of p (op.IterNext target) next (record s { stacks = v }))) stacks i

-- the items of a cursor are those that the innermost has
pub same_items : (cs : List Cursor) (c : Cursor) (ds : List Cursor) → cs ≡ c ∷ ds →
    first_items cs ≡ items_left c.left
same_items cs c ds is = rw is refl
