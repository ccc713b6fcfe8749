-- What the instructions on cursors do: a loop begins and is left.
use Rattle.std.proofs.Common.{◌≡◌, ◌∙◌, ◌<◌, ◌≤◌, ◌+◌, ◌-◌, ℕ, negsuc, List, [], ◌∷◌, Option, Some, None, true, false, is_some, Result, Ok, Err, length, inl, inr, refl, sym, subst, ap, arith}
use Rattle.std.proofs.lemmas.List.{length-take-le}
use Rattle.grain_value.specs.Cells.{flat}
use Rattle.grain_value.specs.Items.{items_of}
use Rattle.grain_value.specs.Operands.{top, below}
use Rattle.grain_value.specs.Tree.{Tree}
use Rattle.grain_value.specs.declared.memory.OutOfMemory.{OutOfMemory}
use Rattle.grain_value.specs.declared.values.Dynamic.{Dynamic}
use Rattle.grain_value.specs.declared.values.Held.{Held}
use Rattle.grain_fault.specs.Problems.{NoMemory}
use Rattle.grain_program.specs.declared.code.instruction_set.Op.TheVariants as op
use Rattle.grain_program.specs.Shapes.{TryHandler, arrival, shape}
use Rattle.grain_program.specs.View.{View}
use Rattle.grain_host.specs.Law.{Law}
use Rattle.grain_global.specs.declared.engines.Engine.{Engine}
use Rattle.grain_global.specs.StepsView.{StepsView}
use Rattle.grain_stack.specs.Cursors.{items_left}
use Rattle.grain_stack.specs.Views.{StacksView}
use Rattle.grain_stack.specs.declared.cursors.Cursor.{Cursor}
use Rattle.grain_means.specs.Worlds.{Place, is_stop}
use Rattle.grain_means.specs.Rules.{instr, leave_by_fault, onward, stepped, without_cursor}
use Rattle.grain_means.specs.Means.{setup}
use Rattle.grain_means.specs.Simulation.{Environment, SimulatesExactly, stopped, world}
use Rattle.grain_frame.specs.Abstraction.{CanBegin, KeepsFrame, abstraction, continuation, frame_in, is_out, marked_once, moment, moved, tries_in}
use Rattle.grain_frame.specs.Looping.{ImplementsLoop, PerformsLoop}
use Rattle.grain_frame.specs.declared.activations.Activation.{Activation}
use Rattle.grain_frame.specs.declared.runs.Progress.{Progress}
use Rattle.grain_frame.specs.declared.runs.Progress.TheVariants as progress
use Rattle.grain_frame.specs.declared.runs.Run.{Run}

-- two arrivals with the same numbers are one
pub same_arrival : (a : ℕ) {x y k l : ℕ} {hs gs : List TryHandler} → x ≡ y → k ≡ l → hs ≡ gs →
    arrival a (shape x k hs) ≡ arrival a (shape y l gs)
same_arrival a high many same = rw (high, many, same) refl

module _ {H : Type 0} (law : Law H) (p : View) (engine : Engine) (f : Activation) (s : Run H)
    (n : StepsView) (host : H) where
  -- only operands and cursors differ
  pub loop_kept : (to : ℕ) (v : StacksView) (ops : List Held) (cs : List Cursor) →
      v ≡ record s.stacks { operands = ops; cursors = cs } → f.base ≤ length s.scope →
      KeepsFrame f s (moved f to) (record s { stacks = v })
  loop_kept to v ops cs is inside = record {
    chunk = refl;
    base = refl;
    scope = inside;
    room = ap (λ (q : StacksView). q.room) is;
    noted = ap (λ (q : StacksView). q.noted) is;
    outer = ap (λ (q : StacksView). q.outer) is;
    saved = refl;
    level = refl;
    this = (refl, refl);
    later = omega arith;
  }

  -- the innermost cursor goes
  module _ (v : StacksView) (c : Cursor) (is : s.stacks ≡ record v { cursors = c ∷ v.cursors })
    where
      pub leaves : (to : ℕ) → SimulatesExactly (setup law p engine) (abstraction s n host)
          (λ m place w. onward m (frame_in f s place)
          (without_cursor (stepped (frame_in f s place) to s.stacks.operands)) w) false
          (abstraction (record s { stacks = v }) (marked_once n) host)
          (continuation (Ok progress.Continues) s.fault
          (frame_in (moved f to) (record s { stacks = v })))
      leaves to = subst (λ (q : StacksView). SimulatesExactly (setup law p engine)
          (abstraction (record s { stacks = q }) n host)
          (λ m place w. onward m (frame_in f (record s { stacks = q }) place)
          (without_cursor (stepped (frame_in f (record s { stacks = q }) place) to q.operands)) w)
          false (abstraction (record s { stacks = v }) (marked_once n) host)
          (continuation (Ok progress.Continues) s.fault
          (frame_in (moved f to) (record s { stacks = v })))) (sym is) (record {
            this = refl;
            order = omega arith;
            equal = λ stop clear halts u place. rw (clear n.passed (omega arith) (omega arith)) refl;
          })

      pub fewer : length v.cursors ≡ length s.stacks.cursors - 1
      fewer = omega (arith, ap (λ (q : StacksView). length q.cursors) is)

      pub same_operands : length v.operands ≡ length s.stacks.operands
      same_operands = sym (ap (λ (q : StacksView). length q.operands) is)

      pub same_handlers : v.handlers ≡ s.stacks.handlers
      same_handlers = sym (ap (λ (q : StacksView). q.handlers) is)

      pub left_kept : (to : ℕ) → f.base ≤ length s.scope →
          KeepsFrame f s (moved f to) (record s { stacks = v })
      left_kept to inside =
          loop_kept to v v.operands v.cursors
          (ap (λ (q : StacksView). record q { operands = v.operands; cursors = v.cursors }) (sym is))
          inside

      -- the loop is left by the instruction that says so
      pub drops : (next : ℕ) → CanBegin f s 0 0 next →
          PerformsLoop (setup law p engine) (moment f s n host) op.IterDrop next
          (Ok progress.Continues)
          (moment (moved f next) (record s { stacks = v }) (marked_once n) host)
      drops next ready = record {
        same = leaves next;
        kept = left_kept next ready.inside;
        lands = (
          inl (same_arrival next (omega (arith, same_operands)) (omega (arith, fewer))
              (ap tries_in same_handlers)),
          same_handlers,
          inr (omega arith, ready.ahead),
        );
        before = refl;
      }

      -- the loop is left for an address that lies ahead
      pub leaves_ahead : (to : ℕ) → f.base ≤ length s.scope → f.address < to →
          ImplementsLoop (setup law p engine) (moment f s n host)
          (λ m place w. onward m (frame_in f s place)
          (without_cursor (stepped (frame_in f s place) to s.stacks.operands)) w)
          (arrival to (shape (length s.stacks.operands) (length s.stacks.cursors - 1)
          (tries_in s.stacks.handlers)) ∷ []) 0 (Ok progress.Continues)
          (moment (moved f to) (record s { stacks = v }) (marked_once n) host)
      leaves_ahead to inside ahead = record {
        same = leaves to;
        kept = left_kept to inside;
        lands = (
          inl (same_arrival to same_operands fewer (ap tries_in same_handlers)),
          same_handlers,
          inr (omega arith, ahead),
        );
        before = refl;
      }

  -- a loop begins over the items of the last operand
  module _ (v : Dynamic) (next : ℕ) (read : flat s.cells (top s.stacks.operands).value ≡ Some v)
      (ready : CanBegin f s 1 0 next) where
    pub begins : (c : Cursor) (q : StacksView) →
        items_of v ≡ Some (items_left c.left) → c.counter ≡ negsuc 0 →
        q ≡ record s.stacks {
          operands = below s.stacks.operands;
          cursors = c ∷ s.stacks.cursors;
        } →
        PerformsLoop (setup law p engine) (moment f s n host) op.IterInit next
        (Ok progress.Continues)
        (moment (moved f next) (record s { stacks = q }) (marked_once n) host)
    begins c q items counter is = rw is (record {
      same = record {
        this = refl;
        order = omega arith;
        equal = λ stop clear halts u place.
            rw (read, items, counter, clear n.passed (omega arith) (omega arith)) refl;
      };
      kept = loop_kept next (record s.stacks {
        operands = below s.stacks.operands;
        cursors = c ∷ s.stacks.cursors;
      }) (below s.stacks.operands) (c ∷ s.stacks.cursors) refl ready.inside;
      lands = (
        inl (same_arrival next height (omega arith) refl),
        refl,
        inr (omega arith, ready.ahead),
      );
      before = refl;
    }) where
      height : length (below s.stacks.operands) ≡ length s.stacks.operands - 1 + 0
      height = omega
          (arith, length-take-le (length s.stacks.operands - 1) s.stacks.operands (omega arith))

    -- memory is out before it does
    pub begins_not : (q : StacksView) (ops : List Held) (r : Result Progress OutOfMemory) →
        is_out r ≡ true → is_some (items_of v) ≡ true → q ≡ record s.stacks { operands = ops } →
        PerformsLoop (setup law p engine) (moment f s n host) op.IterInit next r
        (moment f (record s { stacks = q }) n host)
    begins_not q ops (Ok x) out some is = absurd cc
    begins_not q ops (Err e) out some is = rw is (record {
      same = record {
        this = refl;
        order = omega arith;
        equal = λ stop clear halts u place. stops (items_of v) refl some stop u place halts;
      };
      kept = loop_kept f.address (record s.stacks { operands = ops }) ops s.stacks.cursors refl
          ready.inside;
      lands = tt;
      before = refl;
    }) where
      stops : (o : Option (List Tree)) → items_of v ≡ o → is_some o ≡ true →
          (stop : Option ℕ) (u : Environment) (place : Option Place) →
          is_stop stop n.passed ≡ true →
          instr (stopped (setup law p engine) stop) op.IterInit next (frame_in f s place)
          (world (abstraction s n host) u)
          ≡ leave_by_fault (stopped (setup law p engine) stop) (frame_in f s place) NoMemory
          (world (abstraction s n host) u)
      stops None items none stop u place halts = absurd cc
      stops (Some ts) items some stop u place halts = rw (read, items, halts) refl

-- a value that was read twice has items both times
pub some_items : (a b : Dynamic) (o : Option Dynamic) → o ≡ Some a → o ≡ Some b →
    is_some (items_of a) ≡ true → ¬ (items_of b ≡ None)
some_items a b o first second some none =
    let both : Some a ≡ Some b = sym first ∙ second in
    let same : a ≡ b = cc in
    let never : true ≡ false =
    sym some ∙ ap (λ (d : Dynamic). is_some (items_of d)) same ∙ ap is_some none in
    cc

-- there are none
pub no_items : (o : Option (List Tree)) → is_some o ≡ false → o ≡ None
no_items None e = refl
no_items (Some ts) e = absurd cc
