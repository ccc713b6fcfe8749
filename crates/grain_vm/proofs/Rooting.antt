-- What a chain takes from the operands, and what is found of its root.
use Rattle.std.proofs.Common.{◌≡◌, ◌∙◌, ◌<◌, ◌≤◌, ◌+◌, ◌-◌, ℕ, List, [], ◌∷◌, Option, Some, None, Bool, true, false, if◌then◌else◌, length, refl, sym, ap, arith}
use Rattle.std.specs.Prelude.{◌==◌, is_some, option_map, slice_get, take}
use Rattle.std.proofs.lemmas.List.{take_all, take-take, length-drop, length-map, length-take-le}
use Rattle.grain_value.specs.Cells.{content, is_busy}
use Rattle.grain_value.specs.Operands.{top, under}
use Rattle.grain_value.specs.Tree.{Tree}
use Rattle.grain_value.specs.View.{tree}
use Rattle.grain_value.specs.declared.stores.Cell.{Cell}
use Rattle.grain_value.specs.declared.values.Held.{Held}
use Rattle.grain_program.specs.Chains.{assigns, chain_takes, is_temporary}
use Rattle.grain_program.specs.Indices.{IsTailIndexed}
use Rattle.grain_program.specs.View.{View}
use Rattle.grain_program.specs.declared.code.chains.Chain.{Chain}
use Rattle.grain_program.specs.declared.code.chains.Root.{Root}
use Rattle.grain_program.specs.declared.code.chains.Root.TheVariants as root
use Rattle.grain_program.specs.declared.code.chains.Tail.{Tail}
use Rattle.grain_program.specs.declared.code.chains.Tail.TheVariants as tail
use Rattle.grain_chain.specs.Walking.{HasOperator}
use Rattle.grain_means.specs.Rules.{trees_in}
use Rattle.grain_means.specs.Rules.Chains.{assigned_operand, root_operands, steps_operands}
use Rattle.grain_means.specs.lemmas.Scopes.{length_set_held}
use Rattle.grain_frame.specs.Receivers.{bound_at, with_newest}
use Rattle.grain_frame.specs.declared.receivers.Bound.{Bound}
use Rattle.grain_vm.specs.Chains.{CanPutBack, CanTake, HasChainOperands, RootTaken, between, home_in, is_free, left_by, root_held, without_root, without_value}
use Rattle.grain_vm.specs.Underway.{BoundAway}
use Rattle.grain_vm.specs.declared.roots.Home.{Home}
use Rattle.grain_vm.specs.declared.roots.Home.TheVariants as home
use Rattle.grain_frame.specs.declared.runs.Run.{Run}
use Rattle.grain_frame.specs.lemmas.Entries.{is_within}

root_same : (r : Root) → (if is_temporary r then 1 else 0) ≡ root_operands r
root_same (root.Local name slot) = refl
root_same (root.This q) = refl
root_same root.Temporary = refl

value_one : (b : Bool) → b ≡ true → ◌≡◌ {A = ℕ} (if b then 1 else 0) 1
value_one b e = rw e refl

takes_same : (c : Chain) →
    chain_takes c ≡ c.operands + (if assigns c.tail then 1 else 0) + root_operands c.root
takes_same c = ap (λ (k : ℕ). c.operands + (if assigns c.tail then 1 else 0) + k) (root_same c.root)

-- a chain's operands are there
pub has_chain_operands : (c : Chain) (ops : List Held) → chain_takes c ≤ length ops → HasChainOperands c ops
has_chain_operands c ops le =
    let same = takes_same c in
    record {
      whole = le;
      root = omega (arith, le, same);
      steps = omega (arith, le, same);
      value = λ e. omega (arith, le, same, value_one (assigns c.tail) e);
    }

pub has_operator : (p : View) (t : Tail) → IsTailIndexed p t → HasOperator p t
has_operator p tail.Read h = tt
has_operator p (tail.Assign None) h = tt
has_operator p (tail.Assign (Some a)) h = h.0

-- ---- operands

under_none : (ops : List Held) → ops ≡ under 0 ops
under_none ops = sym (take_all (length ops - 0) ops (omega arith))

root_gone : (r : Root) (ops : List Held) → without_root r ops ≡ under (root_operands r) ops
root_gone (root.Local name slot) ops = under_none ops
root_gone (root.This q) ops = under_none ops
root_gone root.Temporary ops = refl

value_gone : (t : Tail) (ops : List Held) →
    without_value t ops ≡ under (if assigns t then 1 else 0) ops
value_gone tail.Read ops = under_none ops
value_gone (tail.Assign o) ops = refl

under_under : (a b : ℕ) (ops : List Held) → a + b ≤ length ops →
    under a (under b ops) ≡ under (a + b) ops
under_under a b ops le =
    ap (λ (j : ℕ). take (j - a) (take (length ops - b) ops))
    (length-take-le (length ops - b) ops (omega arith))
    ∙ take-take (length ops - b - a) (length ops - b) ops (omega arith)
    ∙ ap (λ (j : ℕ). take j ops) (omega (arith, le))

between_is : (c : Chain) (ops : List Held) → HasChainOperands c ops →
    between c ops ≡ under (c.operands + root_operands c.root) ops
between_is c ops has =
    ap (under c.operands) (root_gone c.root ops)
    ∙ under_under c.operands (root_operands c.root) ops has.steps

-- what is left of the operands
pub left_is : (c : Chain) (ops : List Held) → HasChainOperands c ops →
    left_by c ops ≡ under (chain_takes c) ops
left_is c ops has =
    value_gone c.tail (between c ops)
    ∙ ap (under (if assigns c.tail then 1 else 0)) (between_is c ops has)
    ∙ under_under (if assigns c.tail then 1 else 0) (c.operands + root_operands c.root) ops
    (omega (arith, has.whole, takes_same c))
    ∙ ap (λ (j : ℕ). under j ops) (omega (arith, takes_same c))

-- what the chain assigns
pub value_at : (c : Chain) (ops : List Held) → HasChainOperands c ops →
    top (between c ops) ≡ assigned_operand c ops
value_at c ops has = ap top (between_is c ops has)

-- there are operands enough for each
pub between_long : (c : Chain) (ops : List Held) → HasChainOperands c ops → assigns c.tail ≡ true →
    0 < length (between c ops)
between_long c ops has e =
    omega (
      arith,
      ap (λ (l : List Held). length l) (between_is c ops has),
      length-take-le (length ops - (c.operands + root_operands c.root)) ops (omega arith),
      has.value e,
    )

pub steps_there : (c : Chain) (ops : List Held) → HasChainOperands c ops →
    c.operands ≤ length (without_root c.root ops)
steps_there c ops has =
    omega (
      arith,
      ap (λ (l : List Held). length l) (root_gone c.root ops),
      length-take-le (length ops - root_operands c.root) ops (omega arith),
      has.steps,
    )

-- as many are copied as the chain's steps use
pub copied_enough : (c : Chain) (ops : List Held) (copies : List Tree) → HasChainOperands c ops →
    copies ≡ trees_in (steps_operands c ops) → c.operands ≤ length copies
copied_enough c ops copies has same =
    let others = under (root_operands c.root) ops in
    omega (
      arith,
      ap (λ (l : List Tree). length l) same,
      length-map (steps_operands c ops) (λ (h : Held). tree h.value),
      length-drop (length others - c.operands) others,
      length-take-le (length ops - root_operands c.root) ops (omega arith),
      has.steps,
    )

-- ---- roots

free_cell : (o : Option Cell) → is_some (content o) ≡ true → option_map is_busy o ≡ Some false
free_cell None free = absurd cc
free_cell (Some d) free = by d.held d.busy free where
  by : (h : Held) (b : Bool) → is_some (content (Some (record { held = h; busy = b }))) ≡ true →
      Some b ≡ Some false
  by h true free = absurd cc
  by h false free = refl

-- a root that is no lent cell can be taken
pub can_take : {H : Type 0} (s : Run H) (i : ℕ) (r : Root) (x : Option ℕ) (h : Held) →
    root_held s i r ≡ Some h → is_free s (home_in i r x) ≡ true → CanTake s (home_in i r x)
can_take s i (root.Local name slot) None h there free = is_within s.scope i h there
can_take s i (root.This q) None h there free = ap (λ (o : Option Held). is_some o) there
can_take s i root.Temporary None h there free = tt
can_take s i r (Some n) h there free = free_cell (slice_get s.cells n) free

-- the newest `this` is of the level still, and holds what was put there
pub newest_put : (level : ℕ) (bs : List Bound) (h : Held) → is_some (bound_at level bs) ≡ true →
    bound_at level (with_newest h bs) ≡ Some h
newest_put level [] h there = absurd cc
newest_put level (b ∷ bs) h there = by (b.level == level) there where
  by : (q : Bool) → is_some (if q then Some b.held else None) ≡ true →
      (if q then Some h else None) ≡ Some h
  by true there = refl
  by false there = absurd cc

-- the root can be put back there
pub can_put_back : {H : Type 0} (s s' : Run H) (a : Home) (operand held : Held) → CanTake s a →
    RootTaken s a operand held s' → CanPutBack s' a
can_put_back s s' (home.Entry i) operand held can taken =
    rw taken.1 (omega (arith, can, length_set_held s.scope i operand))
can_put_back s s' (home.Cell n) operand held can taken = tt
can_put_back s s' home.Operand operand held can taken = tt
can_put_back s s' home.This operand held can taken =
    rw taken.1 (ap (λ (o : Option Held). is_some o) (newest_put s.level s.receivers operand can))

-- nothing else changes
pub only_root : {H : Type 0} (s s' : Run H) (a : Home) (operand held : Held) →
    RootTaken s a operand held s' →
    s' ≡ record s { scope = s'.scope; cells = s'.cells; receivers = s'.receivers }
only_root s s' (home.Entry i) operand held taken = rw taken.1 refl
only_root s s' (home.Cell n) operand held taken = rw taken.1 refl
only_root s s' home.Operand operand held taken = rw taken.1 refl
only_root s s' home.This operand held taken = rw taken.1 refl

-- as many entries of the scope as before
pub long_still : {H : Type 0} (s s' : Run H) (a : Home) (operand held : Held) →
    RootTaken s a operand held s' → length s'.scope ≡ length s.scope
long_still s s' (home.Entry i) operand held taken =
    rw taken.1 (length_set_held s.scope i operand)
long_still s s' (home.Cell n) operand held taken = rw taken.1 refl
long_still s s' home.Operand operand held taken = rw taken.1 refl
long_still s s' home.This operand held taken = rw taken.1 refl

-- each `this` is as it was, but for the frame's own
pub bound_away : {H : Type 0} (s s' : Run H) (a : Home) (operand held : Held) →
    RootTaken s a operand held s' → BoundAway a s s'
bound_away s s' (home.Entry i) operand held taken = rw taken.1 refl
bound_away s s' (home.Cell n) operand held taken = rw taken.1 refl
bound_away s s' home.Operand operand held taken = rw taken.1 refl
bound_away {H = H} s s' home.This operand held taken =
    (operand, ap (λ (q : Run H). q.receivers) taken.1)

pub can_still : {H : Type 0} (s t : Run H) (ops : List Held) (a : Home) →
    t ≡ record s { stacks = record s.stacks { operands = ops } } → CanTake s a → CanTake t a
can_still s t ops (home.Entry i) is can = rw is can
can_still s t ops (home.Cell n) is can = rw is can
can_still s t ops home.Operand is can = tt
can_still s t ops home.This is can = rw is can

-- the chain's operands are gone, and the root is away
pub others_are : {H : Type 0} (s s0 s1 : Run H) (c : Chain) (a : Home) (operand held : Held) →
    HasChainOperands c s.stacks.operands →
    s0 ≡ record s { stacks = record s.stacks { operands = left_by c s.stacks.operands } } →
    RootTaken s0 a operand held s1 →
    s1 ≡ record s {
      stacks = record s.stacks { operands = under (chain_takes c) s.stacks.operands };
      scope = s1.scope;
      cells = s1.cells;
      receivers = s1.receivers;
    }
others_are {H = H} s s0 s1 c a operand held has gone taken =
    only_root s0 s1 a operand held taken
    ∙ ap (λ (q : Run H). record q {
      scope = s1.scope;
      cells = s1.cells;
      receivers = s1.receivers;
    }) gone
    ∙ ap (λ (l : List Held). record s {
      stacks = record s.stacks { operands = l };
      scope = s1.scope;
      cells = s1.cells;
      receivers = s1.receivers;
    }) (left_is c s.stacks.operands has)

-- the same from a run on that has the same
pub bound_from : {H : Type 0} (s t u : Run H) (a : Home) → t.receivers ≡ s.receivers →
    BoundAway a t u → BoundAway a s u
bound_from s t u (home.Entry i) is away = away ∙ is
bound_from s t u (home.Cell n) is away = away ∙ is
bound_from s t u home.Operand is away = away ∙ is
bound_from s t u home.This is away =
    (away.0, away.1 ∙ ap (λ (bs : List Bound). with_newest away.0 bs) is)
