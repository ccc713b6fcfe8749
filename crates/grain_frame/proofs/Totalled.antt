-- Literals that are made and measured: what stays of the totals, and what the rules then say.
use Rattle.std.proofs.Common.{◌≡◌, ◌∙◌, ◌≤◌, ◌+◌, ◌-◌, ◌∷◌, ◌==◌, ℕ, List, [], Option, Some, None, Bool, true, false, if◌then◌else◌, option_map, Result, Ok, Err, length, refl, sym, ap, arith}
use Rattle.grain_value.specs.Cells.{flat}
use Rattle.grain_value.specs.Operands.{top}
use Rattle.grain_value.specs.Sizes.{Sizes, counted, data_sizes, limits_sizes, plain_sizes, plus, too_large}
use Rattle.grain_value.specs.declared.stores.Cell.{Cell}
use Rattle.grain_value.specs.declared.values.Limits.{Limits}
use Rattle.grain_value.specs.declared.memory.OutOfMemory.{OutOfMemory}
use Rattle.grain_value.specs.declared.values.Dynamic.{Dynamic}
use Rattle.grain_value.specs.declared.values.Held.{Held}
use Rattle.grain_fault.specs.Problems.{NoMemory, Plain, DataTooLarge, Malformed}
use Rattle.grain_fault.specs.declared.faults.MalformedKind.TheVariants as kind
use Rattle.grain_program.specs.Typing.{In}
use Rattle.grain_program.specs.View.{View}
use Rattle.grain_host.specs.Law.{Law}
use Rattle.grain_global.specs.declared.engines.Engine.{Engine}
use Rattle.grain_global.specs.StepsView.{StepsView}
use Rattle.grain_stack.specs.Entries.{first_of}
use Rattle.grain_stack.specs.Totals.{empty_total, grown}
use Rattle.grain_stack.specs.Views.{StacksView}
use Rattle.grain_stack.specs.declared.handlers.Handler.{Handler}
use Rattle.grain_stack.specs.declared.totals.Total.{Total}
use Rattle.grain_means.specs.Worlds.{Place, Setup, World, is_stop}
use Rattle.grain_means.specs.Rules.{check_size, data_race, innermost_total, leave_by_fault, literal_made, onward, outer_totals, position, pushed, raised, stepped, totals_ended, totals_opened}
use Rattle.grain_means.specs.Means.{setup}
use Rattle.grain_means.specs.Simulation.{Computation, Environment, stopped, world}
use Rattle.grain_means.specs.lemmas.Stretches.{exactly}
use Rattle.grain_frame.specs.Abstraction.{Implements, abstraction, frame_in, is_out, moment, total_in, totals_in}
use Rattle.grain_frame.specs.Literals.{around, ended, opened}
use Rattle.grain_frame.specs.declared.activations.Activation.{Activation}
use Rattle.grain_frame.specs.declared.runs.Progress.{Progress}
use Rattle.grain_frame.specs.declared.runs.Run.{Run}
use Rattle.grain_frame.specs.lemmas.Arms.{lands_on}

-- what a method did from a state with other operands and totals, for the instruction of which it is a part
pub implements_totalled : {H : Type 0} (law : Law H) (p : View) (engine : Engine) (f f' : Activation)
    (s s' : Run H) (n n' : StepsView) (v : StacksView) (ops : List Held) (own : List Total)
    {first rule : Computation H} {ts us : List ℕ} {takes gives more adds : ℕ}
    {r : Result Progress OutOfMemory} (host host' : H) →
    v ≡ record s.stacks { operands = ops; totals = own } →
    Implements (setup law p engine) (moment f (record s { stacks = v }) n host) first ts takes gives
    v.handlers r (moment f' s' n' host') →
    ((stop : Option ℕ) (u : Environment) (place : Option Place) →
    rule (stopped (setup law p engine) stop) place (world (abstraction s n host) u) ≡
    first (stopped (setup law p engine) stop) place (world (abstraction s n host) u)) →
    ((b : ℕ) → In b ts → In b us) →
    length ops - takes + gives ≡ length s.stacks.operands - more + adds →
    length s.stacks.operands - more ≤ length ops - takes →
    Implements (setup law p engine) (moment f s n host) rule us more adds s.stacks.handlers r
    (moment f' s' n' host')
implements_totalled {H = H} law p engine f f' s s' n n' v ops own {first} {rule} {ts} {us} {takes}
    {gives} {more} {adds} {r} host host' rest does alike among height low = record {
      same = exactly (abstract_alike v rest) alike does.same;
      kept = record {
        chunk = does.kept.chunk;
        base = does.kept.base;
        scope = does.kept.scope;
        room = does.kept.room ∙ ap (λ (q : StacksView). q.room) rest;
        noted = does.kept.noted ∙ ap (λ (q : StacksView). q.noted) rest;
        outer = does.kept.outer ∙ ap (λ (q : StacksView). q.outer) rest;
        saved = does.kept.saved;
        level = does.kept.level;
        this = does.kept.this;
        later = does.kept.later;
      };
      lands = lands_on engine s s' v f f' ts us takes gives more adds v.handlers r
          (ap (λ (q : StacksView). q.cursors) rest)
          (omega (arith, height, ap (λ (q : StacksView). length q.operands) rest))
          (omega (arith, low, ap (λ (q : StacksView). length q.operands) rest))
          (ap (λ (q : StacksView). q.handlers) rest) among does.lands;
      before = does.before;
    } where
      abstract_alike : (v : StacksView) → v ≡ record s.stacks { operands = ops; totals = own } →
          abstraction (record s { stacks = v }) n host ≡ abstraction s n host
      abstract_alike v rest = rw (ap (λ (q : StacksView). q.trace) rest) refl

-- memory is out once operands are gone, before anything else is done
pub wants_with_less : {H : Type 0} (law : Law H) (p : View) (engine : Engine) (f : Activation)
    (s t : Run H) (n : StepsView) (host : H) (ops : List Held) {rule : Computation H} {ts : List ℕ}
    {takes gives : ℕ} {hs : List Handler} (r : Result Progress OutOfMemory) → is_out r ≡ true →
    f.base ≤ length s.scope → t ≡ record s { stacks = record s.stacks { operands = ops } } →
    ((stop : Option ℕ) (u : Environment) (place : Option Place) → is_stop stop n.passed ≡ true →
    rule (stopped (setup law p engine) stop) place (world (abstraction s n host) u)
    ≡ leave_by_fault (stopped (setup law p engine) stop) (frame_in f s place) NoMemory
    (world (abstraction s n host) u)) →
    Implements (setup law p engine) (moment f s n host) rule ts takes gives hs r (moment f t n host)
wants_with_less law p engine f s t n host ops (Ok y) out inside is stops = absurd cc
wants_with_less law p engine f s t n host ops (Err y) out inside is stops = rw is (record {
  same = record {
    this = refl;
    order = omega arith;
    equal = λ stop clear halts u place. stops stop u place halts;
  };
  kept = record {
    chunk = refl;
    base = refl;
    scope = inside;
    room = refl;
    noted = refl;
    outer = refl;
    saved = refl;
    level = refl;
    this = (refl, refl);
    later = omega arith;
  };
  lands = tt;
  before = refl;
})

-- the totals once a literal is made
pub ended_is : (count : ℕ) (ts : List Total) →
    totals_ended count (totals_in ts) ≡ totals_in (ended count ts)
ended_is count ts = at (count == 0) ts where
  at : (b : Bool) (ts : List Total) →
      (if b then totals_in ts else outer_totals (totals_in ts))
      ≡ totals_in (if b then ts else around ts)
  at true ts = refl
  at false [] = refl
  at false (t ∷ ts) = refl

-- those where an element is checked
pub opened_is : (index : ℕ) (ts : List Total) →
    totals_opened index (totals_in ts) ≡ totals_in (opened index ts)
opened_is index ts = at (index == 0) where
  at : (b : Bool) →
      (if b then total_in empty_total ∷ totals_in ts else totals_in ts)
      ≡ totals_in (if b then empty_total ∷ ts else ts)
  at true = refl
  at false = refl

innermost_is : (ts : List Total) → innermost_total (totals_in ts) ≡ option_map total_in (first_of ts)
innermost_is [] = refl
innermost_is (t ∷ ts) = refl

outer_is : (ts : List Total) → outer_totals (totals_in ts) ≡ totals_in (around ts)
outer_is [] = refl
outer_is (t ∷ ts) = refl

-- how much an operand is that can be read, as it was measured
pub measured_is : (cells : List Cell) (h x : Held) (v : Dynamic) (p : Sizes) → x ≡ h →
    flat cells h.value ≡ Some v → p ≡ counted (data_sizes cells x.value) →
    p ≡ counted (plain_sizes v)
measured_is cells h x v p same read is = is ∙ rw (same, read) refl

-- what of a total is too much, as it was looked for
pub too_much_is : (limits : Limits) (o : Option (List ℕ)) (p : Sizes) (t u : Total) →
    p ≡ (t.arrays, t.maps, t.text) → t ≡ u → o ≡ too_large limits p →
    too_large limits (u.arrays, u.maps, u.text) ≡ o
too_much_is limits o p t u sizes same is =
    ap (λ (x : Total). too_large limits (x.arrays, x.maps, x.text)) (sym same)
    ∙ ap (λ (x : Sizes). too_large limits x) (sym sizes) ∙ sym is

-- the run with other totals
abbrev pub totalled : {H : Type 0} → List Total → Run H → Run H
totalled ts s = record s { stacks = record s.stacks { totals = ts } }

module _ {H : Type 0} (m : Setup H) (f : Activation) (s : Run H) (place : Option Place)
    (w : World H) where
  -- a literal that is made is a value more, and its total is gone
  pub made_is : (count : ℕ) (v : Dynamic) (next : ℕ) →
      literal_made m count v s.stacks.operands next (frame_in f s place) w
      ≡ pushed m (frame_in f (totalled (ended count s.stacks.totals) s) place) next
      s.stacks.operands v w
  made_is count v next = rw (ended_is count s.stacks.totals) refl

  module _ (one : Sizes) (index next : ℕ) where
    -- no size is limited
    pub checks_none : limits_sizes m.engine.limits ≡ false →
        check_size m one index next (frame_in f s place) w
        ≡ onward m (frame_in f (totalled (opened index s.stacks.totals) s) place)
        (stepped (frame_in f (totalled (opened index s.stacks.totals) s) place) next
        s.stacks.operands) w
    checks_none unlimited = rw (unlimited, opened_is index s.stacks.totals) refl

    -- sizes are limited
    module _ (limited : limits_sizes m.engine.limits ≡ true) where
      -- there is no total
      pub checks_missing : first_of (opened index s.stacks.totals) ≡ None →
          check_size m one index next (frame_in f s place) w
          ≡ raised m (frame_in f s place)
          (Plain (Malformed (kind.MissingTotal index)) (position m (frame_in f s place))) w
      checks_missing none = rw (
        limited,
        opened_is index s.stacks.totals,
        innermost_is (opened index s.stacks.totals),
        none,
      ) refl

      module _ (t : Total) (there : first_of (opened index s.stacks.totals) ≡ Some t) where
        -- the element is a cell that is lent
        pub checks_lent : flat w.cells (top s.stacks.operands).value ≡ None →
            check_size m one index next (frame_in f s place) w
            ≡ data_race m [] (frame_in f s place) w
        checks_lent none = rw (
          limited,
          opened_is index s.stacks.totals,
          innermost_is (opened index s.stacks.totals),
          there,
          none,
        ) refl

        module _ (v : Dynamic) (read : flat w.cells (top s.stacks.operands).value ≡ Some v) where
          abbrev pub total_then : Total
          total_then = grown (plus one (plain_sizes v)) t

          -- that is too much
          pub checks_over : (what : List ℕ) →
              too_large m.engine.limits (total_then.arrays, total_then.maps, total_then.text)
              ≡ Some what →
              check_size m one index next (frame_in f s place) w
              ≡ raised m (frame_in f s place)
              (Plain (DataTooLarge what) (position m (frame_in f s place))) w
          checks_over what over = rw (
            limited,
            opened_is index s.stacks.totals,
            innermost_is (opened index s.stacks.totals),
            there,
            read,
            over,
          ) refl

          -- the total is larger
          pub checks_one :
              too_large m.engine.limits (total_then.arrays, total_then.maps, total_then.text)
              ≡ None →
              check_size m one index next (frame_in f s place) w
              ≡ onward m
              (frame_in f (totalled (total_then ∷ around (opened index s.stacks.totals)) s) place)
              (stepped
              (frame_in f (totalled (total_then ∷ around (opened index s.stacks.totals)) s) place)
              next s.stacks.operands) w
          checks_one within = rw (
            limited,
            opened_is index s.stacks.totals,
            innermost_is (opened index s.stacks.totals),
            outer_is (opened index s.stacks.totals),
            there,
            read,
            within,
          ) refl
