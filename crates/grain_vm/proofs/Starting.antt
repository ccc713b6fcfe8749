-- A chain's root is taken, and its walk begins there.
use Rattle.std.proofs.Common.{◌≡◌, ◌∙◌, ◌+◌, ◌||◌, ℕ, List, [], ◌∷◌, Option, Some, None, Bool, true, false, if◌then◌else◌, length, refl, sym, ap, subst, arith}
use Rattle.std.specs.Prelude.{slice_get, slice_set}
use Rattle.grain_value.specs.Cells.{idle, lent}
use Rattle.grain_value.specs.Looking.{cell_of}
use Rattle.grain_value.specs.Operands.{top, under}
use Rattle.grain_value.specs.Scopes.{set_held}
use Rattle.grain_value.specs.declared.scopes.Entry.{Entry}
use Rattle.grain_value.specs.declared.values.Held.{Held}
use Rattle.grain_fault.specs.declared.places.Position.{Position}
use Rattle.grain_program.specs.Chains.{chain_takes}
use Rattle.grain_program.specs.View.{View, chain_of, position_of}
use Rattle.grain_program.specs.declared.code.chains.Chain.{Chain}
use Rattle.grain_program.specs.declared.code.chains.Root.{Root}
use Rattle.grain_program.specs.declared.code.chains.Root.TheVariants as root
use Rattle.grain_program.specs.declared.code.chains.Step.{Step}
use Rattle.grain_global.specs.StepsView.{StepsView}
use Rattle.grain_means.specs.Worlds.{Frame, Place, Setup}
use Rattle.grain_means.specs.Tasks.{Task}
use Rattle.grain_means.specs.Rules.{flag_of_cell, only_read, trees_in}
use Rattle.grain_means.specs.Rules.Chains.{asks_root, assigned_operand, lent_cell, steps_operands, walk_root}
use Rattle.grain_means.specs.Simulation.{Binds, Computation, Environment, Simulates, stopped, world}
use Rattle.grain_means.specs.lemmas.Spreading.{Rooted}
use Rattle.grain_means.specs.lemmas.Stretches.{compose}
use Rattle.grain_means.specs.Walks.{whole_walk}
use Rattle.grain_chain.specs.Walking.{Did, is_out, new_course, roots_at, steps_of}
use Rattle.grain_chain.specs.declared.requests.WalkAnswer.{WalkAnswer}
use Rattle.grain_chain.specs.declared.walks.Walk.{Walk}
use Rattle.grain_frame.specs.Abstraction.{abstraction, frame_in, this_of}
use Rattle.grain_frame.specs.Receivers.{with_newest}
use Rattle.grain_frame.specs.declared.activations.Activation.{Activation}
use Rattle.grain_frame.specs.declared.receivers.Bound.{Bound}
use Rattle.grain_frame.specs.declared.runs.Run.{Run}
use Rattle.grain_frame.specs.lemmas.Bound.{bound_at_place, reading}
use Rattle.grain_frame.specs.lemmas.Entries.{entry_twice}
use Rattle.grain_vm.specs.Chains.{CanPutBack, RootTaken, home_in, lent_flag, root_held, root_index, root_operand, value_taken, walked_frame}
use Rattle.grain_vm.specs.Driving.{beside}
use Rattle.grain_vm.specs.Seats.{AtThis, Added, Seat, Seated, first_held, walk_seated}
use Rattle.grain_vm.specs.Underway.{BoundAway, IsAway, Starts, after_chain, chain_left}
use Rattle.grain_vm.specs.declared.chain_operands.Taken.{Taken}
use Rattle.grain_vm.specs.declared.roots.FoundRoot.{FoundRoot}
use Rattle.grain_vm.specs.declared.roots.Home.{Home}
use Rattle.grain_vm.specs.declared.roots.Home.TheVariants as home
use Rattle.grain_vm.proofs.Driven.{did_on}
use Rattle.grain_vm.proofs.Walked.{begun_added, begun_this}

-- the cell that is lent is what the root holds
pub lent_is_cell : (p : View) (steps : List Step) (h : Held) (j : ℕ) →
    lent_cell p steps h ≡ Some j → cell_of h.value ≡ Some j
lent_is_cell p steps h j is = by (asks_root p steps) is where
  by : (b : Bool) → (if b then None else cell_of h.value) ≡ Some j → cell_of h.value ≡ Some j
  by true e = absurd cc
  by false e = e

-- ---- any root

module _ {H : Type 0} (m : Setup H) (k next : ℕ) (t : Task) (g : Option Place → Frame) (s s1 : Run H)
    (n n1 : StepsView) (host : H) (seat : Seat) (scope : List Entry) (this : Option Held)
    (a : Home) (b : Bool) (rule : Computation H) where
  -- the rule is, where `this` is bound, a walk from this seat
  abbrev pub Alike : Type 0
  Alike =
      (stop : Option ℕ) (u : Environment) (place : Option Place) → Binds u.roots place (this_of s) →
      rule (stopped m stop) place (world (abstraction s n host) u)
      ≡ walk_seated k g seat (after_chain k next a b g) None t (first_held seat ∷ []) (stopped m stop) place
      (world (beside scope this s1 n host) u)

  pub started : (w : Walk) (answer : WalkAnswer) → Seated seat this → this ≡ this_of s → Alike →
      Did m.engine m.program s1.cells (first_held seat ∷ []) 0 t w answer →
      Rooted (first_held seat).read_only (roots_at w answer) →
      n1 ≡ record n { passed = n.passed + w.marks } →
      Simulates m (abstraction s n host) rule (is_out answer) (beside scope this s1 n1 host)
      (chain_left m g k next a b seat None w answer)
  started w answer seated same_this alike did rooted marks =
      compose {one = false}
      (reading same_this (omega arith) (λ stop clear halts u place bound. alike stop u place bound))
      (subst (λ (l : StepsView). Simulates m (beside scope this s1 n host)
      (walk_seated k g seat (after_chain k next a b g) None t (first_held seat ∷ [])) (is_out answer)
      (beside scope this s1 l host) (chain_left m g k next a b seat None w answer)) (sym marks)
      (did_on m k g seat (after_chain k next a b g) scope this seated s1 None (first_held seat ∷ []) t w
      answer n host did refl rooted)) tt

-- ---- each kind of root

module _ {H : Type 0} (m : Setup H) (k next : ℕ) (c : Chain) (t : Task) (f : Activation) (s : Run H)
    (n : StepsView) (host : H) (blamed : Option ℕ) (h operand : Held) (ops : List Held) where
  abbrev pub goes_from : Option Place → Frame
  goes_from = walked_frame f s c blamed

  -- the run without the chain's operands
  abbrev pub bare : Run H
  bare = record s { stacks = record s.stacks { operands = ops } }

  abbrev pub From : Option ℕ → Root → Computation H
  From x r q place w =
      walk_root q x h k (record c { root = r }) t next (frame_in f s place) (goes_from place) w

  -- from this home, in a run s1 whose root is away
  abbrev pub Begun : Option ℕ → Root → Seat → Option Held → Home → Bool → Run H → Type 0
  Begun x r seat this a b s1 =
      Alike m k next t goes_from s s1 n n host seat s.scope this a b (From x r)

  -- an entry of the scope
  pub from_entry : (name slot : ℕ) (b : Bool) → Begun None (root.Local name slot) (Added h) (this_of s)
      (home.Entry (f.base + slot)) b
      (record bare { scope = set_held s.scope (f.base + slot) operand })
  from_entry name slot b stop u place bound =
      begun_added m k next goes_from h (λ x w. record w { scope = set_held w.scope (f.base + slot) x })
      (stopped m stop) t place (world (abstraction s n host) u)

  -- an operand
  pub from_operand : (b : Bool) → Begun None root.Temporary (Added h) (this_of s) home.Operand b bare
  from_operand b stop u place bound =
      begun_added m k next goes_from h (λ x w. w) (stopped m stop) t place
      (world (abstraction s n host) u)

  -- the frame's `this`
  pub from_this : (q : Position) (b : Bool) (bs : List Bound) → this_of s ≡ Some h →
      Begun None (root.This q) (AtThis h) (Some h) home.This b (record bare { receivers = bs })
  from_this q b bs there stop u place bound =
      let at = bound_at_place u.roots place (this_of s) h there bound in
      rw at.1 (begun_this k next goes_from h b (stopped m stop) t at.0
      (world (abstraction s n host) u) at.2)

  -- a cell
  pub from_cell : (r : Root) (j : ℕ) (held : Held) (flag : Bool) →
      slice_get s.cells j ≡ Some (idle held) → flag ≡ only_read s.cells h →
      Begun (Some j) r (Added (record { value = held.value; read_only = flag })) (this_of s)
      (home.Cell j) held.read_only
      (record bare { cells = slice_set s.cells j (lent held) })
  from_cell r j held flag there is stop u place bound =
      rw (there, ← is) (begun_added m k next goes_from (record { value = held.value; read_only = flag })
      (λ x w. record w {
        cells = slice_set w.cells j (idle (record held { value = x.value }));
      }) (stopped m stop) t place (world (beside s.scope (this_of s) (record bare {
        cells = slice_set s.cells j (lent held);
      }) n host) u))

-- ---- what the code took

-- The root was taken from this home, where it had the flag b, and the rule is a walk from the root's seat,
-- which begins with x there.
pub record Placed {H : Type 0} (m : Setup H) (k next : ℕ) (t : Task) (g : Option Place → Frame)
    (s s1 : Run H) (n : StepsView) (host : H) (a : Home) (b : Bool) (x : Held) (rule : Computation H) :
    Type 0 where
  pub seat : Seat
  pub scope : List Entry
  pub this : Option Held
  pub away : IsAway a b seat scope this s1
  pub seated : Seated seat this
  pub same_this : this ≡ this_of s
  pub first : first_held seat ≡ x
  pub alike : Alike m k next t g s s1 n n host seat scope this a b rule

pub some_same : (x y : Held) → Some x ≡ Some y → x ≡ y
some_same x y e = cc

or_false : (b : Bool) → (b || false) ≡ b
or_false true = refl
or_false false = refl

-- what is lent is what the root held
lent_as : (h held : Held) (b : Bool) → held ≡ h → b ≡ (h.read_only || false) →
    h ≡ record { value = held.value; read_only = b }
lent_as h held b same flag = rw (same, flag ∙ or_false h.read_only) refl

lent_so : (h held : Held) → held ≡ h → h.read_only ≡ held.read_only
lent_so h held same = ap (λ (y : Held). y.read_only) (sym same)

module _ {H : Type 0} (m : Setup H) (k next : ℕ) (c : Chain) (t : Task) (f : Activation)
    (s s1 : Run H) (n : StepsView) (host : H) (blamed : Option ℕ) (h held operand : Held)
    (ops : List Held) (flag : Bool) where
  abbrev pub PlacedAt : Option ℕ → Root → Type 0
  PlacedAt x r =
      Placed m k next t (walked_frame f s c blamed) s s1 n host (home_in (root_index f.base r) r x)
      held.read_only (record { value = held.value; read_only = flag })
      (λ q place v. walk_root q x h k (record c { root = r }) t next (frame_in f s place)
      (walked_frame f s c blamed place) v)

  pub placed : (x : Option ℕ) (r : Root) → ((j : ℕ) → x ≡ Some j → cell_of h.value ≡ Some j) →
      root_held s (root_index f.base r) r ≡ Some h → flag ≡ lent_flag s.cells x h →
      operand ≡ root_operand r s.stacks.operands →
      RootTaken (record s { stacks = record s.stacks { operands = ops } })
      (home_in (root_index f.base r) r x) operand held s1 → PlacedAt x r
  placed None (root.Local name slot) cell there lent is took =
      let same = some_same held h (sym took.0 ∙ there) in
      rw took.1 (record {
        seat = Added h;
        scope = s.scope;
        this = this_of s;
        away = (
          h,
          refl,
          lent_so h held same,
          λ y. sym (entry_twice s.scope (f.base + slot) operand y),
          refl,
        );
        seated = tt;
        same_this = refl;
        first = lent_as h held flag same lent;
        alike = from_entry m k next c t f s n host blamed h operand ops name slot held.read_only;
      })
  placed None (root.This q) cell there lent is took =
      let same = some_same held h (sym took.0 ∙ there) in
      rw took.1 (record {
        seat = AtThis h;
        scope = s.scope;
        this = Some h;
        away = (h, refl, lent_so h held same, refl, refl);
        seated = refl;
        same_this = sym there;
        first = lent_as h held flag same lent;
        alike = from_this m k next c t f s n host blamed h operand ops q held.read_only
            (with_newest operand s.receivers) there;
      })
  placed None root.Temporary cell there lent is took =
      let same = took.0 ∙ is ∙ some_same (top s.stacks.operands) h there in
      rw took.1 (record {
        seat = Added h;
        scope = s.scope;
        this = this_of s;
        away = (h, refl, refl, refl);
        seated = tt;
        same_this = refl;
        first = lent_as h held flag same lent;
        alike = from_operand m k next c t f s n host blamed h operand ops held.read_only;
      })
  placed (Some j) r cell there lent is took =
      let x : Held = record { value = held.value; read_only = flag } in
      rw took.1 (record {
        seat = Added x;
        scope = s.scope;
        this = this_of s;
        away = (x, refl, refl, refl);
        seated = tt;
        same_this = refl;
        first = refl;
        alike = from_cell m k next c t f s n host blamed h operand ops r j held flag took.0
            (lent ∙ ap (λ (o : Option ℕ). h.read_only || flag_of_cell o s.cells) (sym (cell j refl)));
      })

-- what the code took and walked from is what the rule begins with
module _ {H : Type 0} (m : Setup H) (k next : ℕ) (f : Activation) (s s1 : Run H)
    (n n1 : StepsView) (host : H) (blamed : Option ℕ) (root_found : FoundRoot) (h held : Held)
    (taken : Taken) (w : Walk) (answer : WalkAnswer) where
  abbrev chain_here : Chain
  chain_here = chain_of m.program k

  abbrev pub walk_task : Task
  walk_task =
      whole_walk (new_course m.engine m.program (position_of m.program f.address) k
      (trees_in (steps_operands chain_here s.stacks.operands))
      (value_taken chain_here.tail taken.kept (assigned_operand chain_here s.stacks.operands)))
      (steps_of m.program k)

  abbrev lent_first : Held
  lent_first = record { value = held.value; read_only = root_found.read_only }

  abbrev PlacedHere : Home → Option ℕ → Root → Type 0
  PlacedHere a x r =
      Placed m k next walk_task (walked_frame f s chain_here blamed) s s1 n host a held.read_only
      lent_first
      (λ q place v. walk_root q x h k (record chain_here { root = r }) walk_task next
      (frame_in f s place) (walked_frame f s chain_here blamed place) v)

  pub starts : PlacedHere root_found.home (lent_cell m.program chain_here.steps h) chain_here.root →
      CanPutBack s1 root_found.home → BoundAway root_found.home s s1 →
      Did m.engine m.program s1.cells (lent_first ∷ []) 0 walk_task w answer →
      Rooted root_found.read_only (roots_at w answer) →
      n1 ≡ record n { passed = n.passed + w.marks } → length s1.scope ≡ length s.scope →
      s1 ≡ record s {
        stacks = record s.stacks { operands = under (chain_takes chain_here) s.stacks.operands };
        scope = s1.scope;
        cells = s1.cells;
        receivers = s1.receivers;
      } → Starts m f s n host root_found h taken k next blamed w answer held.read_only s1 n1
  starts at back bound did rooted marks long others =
      let rooted_first : Rooted (first_held at.seat).read_only (roots_at w answer) =
      rw at.first rooted in
      record {
        seat = at.seat;
        scope = at.scope;
        this = at.this;
        away = at.away;
        seated = at.seated;
        back = back;
        bound = bound;
        same = started m k next walk_task (walked_frame f s chain_here blamed) s s1 n n1 host at.seat
            at.scope at.this root_found.home held.read_only
            (λ q place v. walk_root q (lent_cell q.program (chain_of q.program k).steps h) h k
            (chain_of q.program k) (whole_walk (new_course q.engine q.program
            (position_of q.program f.address) k
            (trees_in (steps_operands (chain_of q.program k) s.stacks.operands))
            (value_taken (chain_of q.program k).tail taken.kept
            (assigned_operand (chain_of q.program k) s.stacks.operands))) (steps_of q.program k)) next
            (frame_in f s place) (walked_frame f s (chain_of q.program k) blamed place) v) w answer
            at.seated at.same_this at.alike (rw at.first did) rooted_first marks;
        rooted = rooted_first;
        long = long;
        others = others;
      }
