-- What the next item of a loop does: it is counted, the count is stored, and the item is given.
use Rattle.std.proofs.Common.{◌≡◌, ◌∙◌, ◌<◌, ◌≤◌, ◌+◌, ◌-◌, ◌++◌, ℕ, ℤ, List, [], ◌∷◌, Option, Some, None, true, false, is_some, is_none, Result, Ok, Err, length, slice_get, inl, inr, refl, sym, subst, ap, arith}
use Rattle.std.proofs.lemmas.List.{length-append}
use Rattle.grain_value.specs.Cells.{content, flat}
use Rattle.grain_value.specs.Looking.{cell_of}
use Rattle.grain_value.specs.Operands.{read_write}
use Rattle.grain_value.specs.Tree.{Tree}
use Rattle.grain_value.specs.View.{tree, value_of}
use Rattle.grain_value.specs.laws.Same.{tree-value_of, value_of-tree}
use Rattle.grain_value.specs.declared.memory.OutOfMemory.{OutOfMemory}
use Rattle.grain_value.specs.declared.stores.Cell.{Cell}
use Rattle.grain_value.specs.declared.values.Dynamic.{Dynamic}
use Rattle.grain_fault.specs.Problems.{NoMemory}
use Rattle.grain_program.specs.declared.code.instruction_set.Op.TheVariants as op
use Rattle.grain_program.specs.Effects.{effect_of}
use Rattle.grain_program.specs.Shapes.{Arrival, after, arrival, at_target, shape}
use Rattle.grain_program.specs.Typing.{In}
use Rattle.grain_program.specs.View.{View}
use Rattle.grain_program.specs.laws.Leads.{in_branch, past_branch}
use Rattle.grain_host.specs.Law.{Law}
use Rattle.grain_global.specs.declared.engines.Engine.{Engine}
use Rattle.grain_global.specs.StepsView.{StepsView}
use Rattle.grain_stack.specs.Cursors.{Gives, first_cell, items_left}
use Rattle.grain_stack.specs.Entries.{first_of, with_first}
use Rattle.grain_stack.specs.Views.{StacksView}
use Rattle.grain_stack.specs.declared.cursors.Cursor.{Cursor}
use Rattle.grain_means.specs.Worlds.{Go, InFrame, Place, is_stop}
use Rattle.grain_means.specs.Worlds as worlds
use Rattle.grain_means.specs.Rules.{item_given, leave_by_fault, outer_cursors}
use Rattle.grain_means.specs.Means.{setup}
use Rattle.grain_means.specs.Simulation.{Environment, stopped, world}
use Rattle.grain_frame.specs.Abstraction.{CanBegin, abstraction, cursors_in, frame_in, is_out, marked_once, moment, moved, shape_in, tries_in}
use Rattle.grain_frame.specs.Looping.{Gave, ImplementsLoop, TakesItem, arrivals_of, first_items, is_lent, next_is_lent, outer_of}
use Rattle.grain_frame.specs.declared.activations.Activation.{Activation}
use Rattle.grain_frame.specs.declared.runs.Progress.{Progress}
use Rattle.grain_frame.specs.declared.runs.Progress.TheVariants as progress
use Rattle.grain_frame.specs.declared.runs.Run.{Run}
use Rattle.grain_frame.proofs.Looping.{loop_kept, same_arrival}

-- an item that is no cell which is lent can be read
pub readable : (cells : List Cell) (before after : List Tree) (item : Dynamic) →
    before ≡ tree item ∷ after → is_lent cells (first_cell before) ≡ false →
    is_some (flat cells item) ≡ true
readable cells before after item is free =
    by_cell (cell_of item) refl (subst (λ (o : Option ℕ). is_lent cells o ≡ false) named free) where
      named : first_cell before ≡ cell_of item
      named = ap first_cell is ∙ ap cell_of (value_of-tree item)

      some : (o : Option Dynamic) → is_none o ≡ false → is_some o ≡ true
      some None e = absurd cc
      some (Some d) e = refl

      by_cell : (o : Option ℕ) → cell_of item ≡ o → is_lent cells o ≡ false →
          is_some (flat cells item) ≡ true
      by_cell None is free = rw is refl
      by_cell (Some k) is free = rw is (some (content (slice_get cells k)) free)

-- the item that was taken can be read
pub readable_taken : {H : Type 0} (s s1 : Run H) (item : Dynamic) (count : ℤ) →
    TakesItem s s1 item count → next_is_lent s ≡ false → is_some (flat s1.cells item) ≡ true
readable_taken {H} s s1 item count takes free = at s1.stacks.cursors takes.0 where
  at : (cs : List Cursor) → Gave s.stacks.cursors cs item count →
      is_some (flat s1.cells item) ≡ true
  at [] gave = absurd gave
  at (c ∷ cs) gave = ap (λ (x : Run H). is_some (flat x.cells item)) takes.1
      ∙ readable s.cells (first_items s.stacks.cursors) (items_left c.left) item gave.0 free

-- an item that is a cell which is lent cannot
pub lent_item : (cells : List Cell) (cs : List Cursor) (t : Tree) (ts : List Tree) →
    first_items cs ≡ t ∷ ts → is_lent cells (first_cell (first_items cs)) ≡ true →
    flat cells (value_of t) ≡ None
lent_item cells cs t ts first lent =
    by_cell (cell_of (value_of t)) refl
    (subst (λ (o : Option ℕ). is_lent cells o ≡ true) (ap first_cell first) lent) where
      gone : (o : Option Dynamic) → is_none o ≡ true → o ≡ None
      gone None e = refl
      gone (Some d) e = absurd cc

      by_cell : (o : Option ℕ) → cell_of (value_of t) ≡ o → is_lent cells o ≡ true →
          flat cells (value_of t) ≡ None
      by_cell None is lent = absurd cc
      by_cell (Some k) is lent = rw is (gone (content (slice_get cells k)) lent)

-- the cursors around the innermost one, as the meaning has them
outer_in : (cs : List Cursor) → outer_cursors (cursors_in cs) ≡ cursors_in (outer_of cs)
outer_in [] = refl
outer_in (c ∷ cs) = refl

-- there is a first of what is not over
pub there_is : (ts : List Tree) → is_none (first_of ts) ≡ false →
    (t : Tree) × (us : List Tree) × (ts ≡ t ∷ us)
there_is [] e = absurd cc
there_is (t ∷ us) e = (t, us, refl)

pub nothing_left : (ts : List Tree) → is_none (first_of ts) ≡ true → ts ≡ []
nothing_left [] e = refl
nothing_left (t ∷ us) e = absurd cc

-- the innermost cursor is not over, so it gives an item
pub gives_some : (cs : List Cursor) (c : Cursor) (after : List Tree) → Some c ≡ first_of cs →
    is_none (first_of (first_items cs)) ≡ false → ¬ (Gives (items_left c.left) None after)
gives_some [] c after is more gives = absurd cc
gives_some (d ∷ ds) c after is more gives =
    let same : c ≡ d = cc in
    let over : items_left d.left ≡ [] =
    ap (λ (x : Cursor). items_left x.left) (sym same) ∙ gives.0 in
    let never : true ≡ false = ap (λ (ts : List Tree). is_none (first_of ts)) (sym over) ∙ more in
    cc

-- it gave an item, and was counted
pub gave_first : (cs : List Cursor) (c d : Cursor) (item : Dynamic) (count : ℤ) →
    Some c ≡ first_of cs → Gives (items_left c.left) (Some item) (items_left d.left) →
    d.counter ≡ count → Gave cs (with_first d cs) item count
gave_first [] c d item count is gives counted = absurd cc
gave_first (e ∷ es) c d item count is gives counted =
    let same : c ≡ e = cc in
    (ap (λ (x : Cursor). items_left x.left) (sym same) ∙ gives, counted, refl)

module _ {H : Type 0} (law : Law H) (p : View) (engine : Engine) (f : Activation) (s : Run H)
    (n : StepsView) (host : H) where
  -- where the next item comes, and where it comes that there is none
  pub comes_with_item : (target next height many : ℕ) → 0 < length s.stacks.cursors →
      height ≡ length s.stacks.operands + 1 →
      many ≡ length s.stacks.cursors → In (arrival next (shape height many
      (tries_in s.stacks.handlers))) (arrivals_of p (op.IterNext target) next s)
  comes_with_item target next height many there high less =
      let t = after (effect_of p (op.IterNext target)) (shape_in s) in
      subst (λ (a : Arrival). In a (arrivals_of p (op.IterNext target) next s))
      (same_arrival next (omega (arith, high)) (omega (arith, less, there)) refl)
      (past_branch p target next t (at_target (effect_of p (op.IterNext target)) t))

  pub comes_without : (target next : ℕ) → 0 < length s.stacks.cursors → (x : Arrival) →
      In x (arrival target (shape (length s.stacks.operands) (length s.stacks.cursors - 1)
      (tries_in s.stacks.handlers)) ∷ []) → In x (arrivals_of p (op.IterNext target) next s)
  comes_without target next there x (inr nothing) = absurd nothing
  comes_without target next there x (inl e) =
      let t = after (effect_of p (op.IterNext target)) (shape_in s) in
      subst (λ (a : Arrival). In a (arrivals_of p (op.IterNext target) next s))
      (same_arrival target (omega arith) (omega (arith, there)) refl ∙ sym e)
      (in_branch p target next t (at_target (effect_of p (op.IterNext target)) t))

  module _ (t : Tree) (ts : List Tree) (count : ℤ) (next : ℕ) where
    -- the item is given
    given_so : (target : ℕ) (item value : Dynamic) (cs : List Cursor) (q : StacksView) →
        first_items s.stacks.cursors ≡ t ∷ ts → Gave s.stacks.cursors cs item count →
        flat s.cells item ≡ Some value → 0 < length s.stacks.cursors →
        q ≡ record s.stacks {
          operands = s.stacks.operands ++ read_write value ∷ [];
          cursors = cs;
        } → CanBegin f s 0 1 next →
        ImplementsLoop (setup law p engine) (moment f s n host)
        (λ m place w. item_given m t ts count next (frame_in f s place) w)
        (arrivals_of p (op.IterNext target) next s) 0 (Ok progress.Continues)
        (moment (moved f next) (record s { stacks = q }) (marked_once n) host)
    given_so target item value [] q first gave read there is ready = absurd gave
    given_so target item value (c ∷ cs) q first gave read there is ready = rw is (record {
      same = record {
        this = refl;
        order = omega arith;
        equal = λ stop clear halts u place.
            rw (reads, clear n.passed (omega arith) (omega arith))
            (ap (λ (ds : List worlds.Cursor). Go (InFrame (record (frame_in (moved f next)
            (record s {
              stacks = record s.stacks {
                operands = s.stacks.operands ++ read_write value ∷ [];
              };
            }) place) { cursors = ds }))
            (record (world (abstraction s n host) u) { passed = n.passed + 1 })) (sym cursors_are));
      };
      kept = loop_kept law p engine f s n host next (record s.stacks {
        operands = s.stacks.operands ++ read_write value ∷ [];
        cursors = c ∷ cs;
      }) (s.stacks.operands ++ read_write value ∷ []) (c ∷ cs) refl ready.inside;
      lands = (
        comes_with_item target next _ (length (c ∷ cs)) there
            (omega (arith, length-append s.stacks.operands (read_write value ∷ [])))
            (omega (arith, fewer)),
        refl,
        inr (omega arith, ready.ahead),
      );
      before = refl;
    }) where
      both : t ∷ ts ≡ tree item ∷ items_left c.left
      both = sym first ∙ gave.0

      is_item : t ≡ tree item
      is_item = let same : t ∷ ts ≡ tree item ∷ items_left c.left = both in cc

      others : ts ≡ items_left c.left
      others = let same : t ∷ ts ≡ tree item ∷ items_left c.left = both in cc

      reads : flat s.cells (value_of t) ≡ Some value
      reads = ap (λ (x : Tree). flat s.cells (value_of x)) is_item
          ∙ ap (flat s.cells) (value_of-tree item) ∙ read

      cursors_are : cursors_in (c ∷ cs)
          ≡ record { left = ts; counter = count } ∷ outer_cursors (cursors_in s.stacks.cursors)
      cursors_are = rw (others, gave.1, gave.2, outer_in s.stacks.cursors) refl

      outer_less : (ds : List Cursor) → 0 < length ds → length (outer_of ds) + 1 ≡ length ds
      outer_less [] more = absurd (omega (arith, more))
      outer_less (d ∷ ds) more = omega arith

      fewer : length cs + 1 ≡ length s.stacks.cursors
      fewer = ap (λ (ds : List Cursor). length ds + 1) gave.2 ∙ outer_less s.stacks.cursors there

    pub gives : (target : ℕ) (s1 : Run H) (item value : Dynamic) (q : StacksView) →
        first_items s.stacks.cursors ≡ t ∷ ts → TakesItem s s1 item count →
        flat s1.cells item ≡ Some value → 0 < length s.stacks.cursors →
        q ≡ record s1.stacks { operands = s1.stacks.operands ++ read_write value ∷ [] } →
        CanBegin f s 0 1 next →
        ImplementsLoop (setup law p engine) (moment f s n host)
        (λ m place w. item_given m t ts count next (frame_in f s place) w)
        (arrivals_of p (op.IterNext target) next s) 0 (Ok progress.Continues)
        (moment (moved f next) (record s1 { stacks = q }) (marked_once n) host)
    gives target s1 item value q first takes read there is ready =
        subst (λ (x : Run H). ImplementsLoop (setup law p engine) (moment f s n host)
        (λ m place w. item_given m t ts count next (frame_in f s place) w)
        (arrivals_of p (op.IterNext target) next s) 0 (Ok progress.Continues)
        (moment (moved f next) x (marked_once n) host))
        (sym (ap (λ (x : Run H). record x { stacks = q }) only))
        (given_so target item value s1.stacks.cursors q first takes.0
        (ap (λ (x : Run H). flat x.cells item) (sym only) ∙ read) there
        (is ∙ ap (λ (x : Run H). record x.stacks {
          operands = x.stacks.operands ++ read_write value ∷ [];
        }) only) ready) where
          only : s1 ≡ record s { stacks = record s.stacks { cursors = s1.stacks.cursors } }
          only = takes.1

    -- memory is out before it is, once the item was taken or not
    pub gives_not : (target : ℕ) (s1 : Run H) (cs : List Cursor) (r : Result Progress OutOfMemory) →
        is_out r ≡ true → first_items s.stacks.cursors ≡ t ∷ ts →
        is_lent s.cells (first_cell (first_items s.stacks.cursors)) ≡ false →
        s1 ≡ record s { stacks = record s.stacks { cursors = cs } } → f.base ≤ length s.scope →
        ImplementsLoop (setup law p engine) (moment f s n host)
        (λ m place w. item_given m t ts count next (frame_in f s place) w)
        (arrivals_of p (op.IterNext target) next s) 0 r (moment f s1 n host)
    gives_not target s1 cs (Ok x) out first free is inside = absurd cc
    gives_not target s1 cs (Err e) out first free is inside = rw is (record {
      same = record {
        this = refl;
        order = omega arith;
        equal = λ stop clear halts u place.
            stops (flat s.cells (value_of t)) refl (at (flat s.cells (value_of t)) refl) stop u place
            halts;
      };
      kept = loop_kept law p engine f s n host f.address (record s.stacks { cursors = cs })
          s.stacks.operands cs refl inside;
      lands = tt;
      before = refl;
    }) where
      at : (o : Option Dynamic) → flat s.cells (value_of t) ≡ o → is_some o ≡ true
      at o is = sym (ap is_some is) ∙ readable s.cells (first_items s.stacks.cursors) ts (value_of t)
          (first ∙ ap (λ (x : Tree). x ∷ ts) (sym (tree-value_of t))) free

      stops : (o : Option Dynamic) → flat s.cells (value_of t) ≡ o → is_some o ≡ true →
          (stop : Option ℕ) (u : Environment) (place : Option Place) →
          is_stop stop n.passed ≡ true →
          item_given (stopped (setup law p engine) stop) t ts count next (frame_in f s place)
          (world (abstraction s n host) u)
          ≡ leave_by_fault (stopped (setup law p engine) stop) (frame_in f s place) NoMemory
          (world (abstraction s n host) u)
      stops None is some stop u place halts = absurd cc
      stops (Some d) is some stop u place halts = rw (is, halts) refl
