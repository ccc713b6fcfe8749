-- A chain whose walk does not begin: its root is refused, or memory is out before the walk.
use Rattle.std.proofs.Common.{◌≡◌, ◌∙◌, ℕ, List, [], Option, Some, None, true, false, Result, Err, length, refl, arith}
use Rattle.std.specs.Prelude.{is_some, ◌≤◌}
use Rattle.grain_value.specs.Cells.{flat}
use Rattle.grain_value.specs.declared.memory.OutOfMemory.{OutOfMemory}
use Rattle.grain_value.specs.declared.values.Dynamic.{Dynamic}
use Rattle.grain_value.specs.declared.values.Held.{Held}
use Rattle.grain_host.specs.Law.{Law}
use Rattle.grain_fault.specs.Problems.{NoMemory}
use Rattle.grain_program.specs.View.{View, chain_of}
use Rattle.grain_program.specs.declared.code.chains.Chain.{Chain}
use Rattle.grain_program.specs.declared.code.chains.Root.{Root}
use Rattle.grain_program.specs.declared.code.chains.Root.TheVariants as root
use Rattle.grain_program.specs.declared.code.chains.Tail.{Tail}
use Rattle.grain_program.specs.declared.code.chains.Tail.TheVariants as tail
use Rattle.grain_global.specs.StepsView.{StepsView}
use Rattle.grain_global.specs.declared.engines.Engine.{Engine}
use Rattle.grain_stack.specs.declared.handlers.Handler.{Handler}
use Rattle.grain_means.specs.Worlds.{Act, Frame, Place, Setup, World}
use Rattle.grain_means.specs.Means.{setup}
use Rattle.grain_means.specs.Rules.{data_race, flat_or_race, is_stop, leave_by_fault, raised}
use Rattle.grain_means.specs.Rules.Chains.{assigned_operand, assigned_value, at_root, chain_in, root_position}
use Rattle.grain_means.specs.Simulation.{Binds, Computation, Environment, stopped, world}
use Rattle.grain_frame.specs.Abstraction.{ImplementsBound, Raises, abstraction, frame_in, moment, this_of}
use Rattle.grain_frame.specs.declared.activations.Activation.{Activation}
use Rattle.grain_frame.specs.declared.runs.Progress.{Progress}
use Rattle.grain_frame.specs.declared.runs.Run.{Run}
use Rattle.grain_frame.specs.lemmas.Bound.{as_bound, bound_as, bound_nowhere, reading}
use Rattle.grain_frame.specs.lemmas.Failing.{raises_here}
use Rattle.grain_vm.specs.Chains.{IsPastScope, IsThis, RefusesChain, RootFound, can_read, chain_fault, root_held, root_index, root_position_at, walked_frame}
use Rattle.grain_vm.specs.declared.roots.ChainRefusal.{ChainRefusal}
use Rattle.grain_vm.specs.declared.roots.ChainRefusal.TheVariants as refusal
use Rattle.grain_vm.specs.declared.roots.FoundRoot.{FoundRoot}
use Rattle.grain_vm.proofs.Chaining.{there_is}

module _ {H : Type 0} (m : Setup H) (k next : ℕ) (c : Chain) (f : Activation) (s : Run H)
    (n : StepsView) (host : H) (u : Environment) (place : Option Place)
    (bound : Binds u.roots place (this_of s)) (g : Frame) where
  abbrev here : World H
  here = world (abstraction s n host) u

  abbrev now : Frame
  now = frame_in f s place

  -- a root that is there
  root_is : (h : Held) (go : Held → Act H) →
      root_held s (root_index f.base c.root) c.root ≡ Some h → at_root m c.root now here go ≡ go h
  root_is h go is = there_is m k next c f s n host u place bound g c.root h go is

  -- ---- why the root is refused

  no_entry : (r : Root) (i : ℕ) (go : Held → Act H) → IsPastScope f.base r i →
      root_held s (root_index f.base r) r ≡ None →
      at_root m r now here go
      ≡ raised m now (chain_fault m.program (length s.scope) f.address r (refusal.NoEntry i)) here
  no_entry (root.Local name slot) i go is none = rw (none, is) refl
  no_entry (root.This q) i go is none = absurd is
  no_entry root.Temporary i go is none = absurd cc

  no_this : (r : Root) (go : Held → Act H) → IsThis r → root_held s (root_index f.base r) r ≡ None →
      at_root m r now here go
      ≡ raised m now (chain_fault m.program (length s.scope) f.address r refusal.Unbound) here
  no_this (root.Local name slot) go is none = absurd is
  no_this (root.This q) go is none = rw (bound_nowhere u.roots place (this_of s) none bound) refl
  no_this root.Temporary go is none = absurd is

  position_same : (r : Root) → root_position m r now ≡ root_position_at m.program f.address r
  position_same (root.Local name slot) = refl
  position_same (root.This q) = refl
  position_same root.Temporary = refl

  -- a value that cannot be read, or that can
  value_lent : (a : Tail) (h : Held) (go : Option Dynamic → Act H) → can_read s.cells a h ≡ false →
      assigned_value m a h now here go ≡ data_race m [] now here
  value_lent tail.Read h go cannot = absurd cc
  value_lent (tail.Assign o) h go cannot = by (flat s.cells h.value) cannot where
    by : (r : Option Dynamic) → is_some r ≡ false →
        flat_or_race m r [] now here (λ v. go (Some v)) ≡ data_race m [] now here
    by None e = refl
    by (Some v) e = absurd cc

  value_read : (a : Tail) (h : Held) (go : Option Dynamic → Act H) (x : Act H) →
      can_read s.cells a h ≡ true → ((v : Option Dynamic) → go v ≡ x) →
      assigned_value m a h now here go ≡ x
  value_read tail.Read h go x can all = all None
  value_read (tail.Assign o) h go x can all = by (flat s.cells h.value) can where
    by : (r : Option Dynamic) → is_some r ≡ true →
        flat_or_race m r [] now here (λ v. go (Some v)) ≡ x
    by None e = absurd cc
    by (Some v) e = all (Some v)

  pub chain_refuses : (r : ChainRefusal) → RefusesChain s f.base c r →
      chain_in m k c next now g here
      ≡ raised m now (chain_fault m.program (length s.scope) f.address c.root r) here
  chain_refuses (refusal.NoEntry i) is = no_entry c.root i _ is.0 is.1
  chain_refuses refusal.Unbound is = no_this c.root _ is.0 is.1
  chain_refuses refusal.Constant is =
      root_is is.0 _ is.1 ∙ rw (is.2, position_same c.root) refl
  chain_refuses refusal.Lent is =
      root_is is.0 _ is.1
      ∙ rw is.2 (value_lent c.tail (assigned_operand c s.stacks.operands) _ is.3)

  -- where the walk could begin, memory may be out at its mark
  pub chain_stops : (root_found : FoundRoot) (h : Held) → RootFound m.program s f.base c root_found h →
      is_stop m.stop n.passed ≡ true →
      chain_in m k c next now g here ≡ leave_by_fault m now NoMemory here
  chain_stops root_found h found halts =
      root_is h _ found.there
      ∙ rw found.writable (value_read c.tail (assigned_operand c s.stacks.operands) _
      (leave_by_fault m now NoMemory here) found.readable (λ v. rw halts refl))

-- memory is out where nothing is done yet
pub wants_bound : {H : Type 0} (m : Setup H) (f : Activation) (s : Run H) (n : StepsView) (host : H)
    {rule : Computation H} {ts : List ℕ} {takes gives : ℕ} {hs : List Handler} (e : OutOfMemory) →
    f.base ≤ length s.scope →
    ((stop : Option ℕ) (u : Environment) (place : Option Place) → is_stop stop n.passed ≡ true →
    Binds u.roots place (this_of s) →
    rule (stopped m stop) place (world (abstraction s n host) u)
    ≡ leave_by_fault (stopped m stop) (frame_in f s place) NoMemory (world (abstraction s n host) u)) →
    ImplementsBound m (moment f s n host) rule ts takes gives hs (Err e) (moment f s n host)
wants_bound m f s n host e inside stops = record {
  same = reading refl (omega arith) (λ stop clear halts u place bound. stops stop u place halts bound);
  kept = record {
    chunk = refl;
    base = refl;
    scope = inside;
    room = refl;
    noted = refl;
    outer = refl;
    saved = refl;
    level = refl;
    this = (refl, refl);
    later = omega arith;
  };
  lands = tt;
  before = refl;
}

-- ---- what came of it

module _ {H : Type 0} (law : Law H) (p : View) (engine : Engine) (f : Activation) (s : Run H)
    (n : StepsView) (host : H) (k next : ℕ) (blamed : Option ℕ) where
  abbrev chain_here : Chain
  chain_here = chain_of p k

  -- the rule of a chain in a frame that blames the chain's first step
  abbrev pub rule : Computation H
  rule q place w =
      chain_in q k (chain_of q.program k) next (frame_in f s place)
      (walked_frame f s chain_here blamed place) w

  -- the root was refused
  pub refused : {ts : List ℕ} {takes gives : ℕ} (s' : Run H) (n' : StepsView) (why : ChainRefusal)
      (r : Result Progress OutOfMemory) → RefusesChain s f.base chain_here why →
      Raises s n (chain_fault p (length s.scope) f.address chain_here.root why) r s' n' →
      f.base ≤ length s.scope →
      ImplementsBound (setup law p engine) (moment f s n host) rule ts takes gives s.stacks.handlers r
      (moment f s' n' host)
  refused {ts} {takes} {gives} s' n' why r is raises inside =
      let x = chain_fault p (length s.scope) f.address chain_here.root why in
      bound_as {first = λ q place w. raised q (frame_in f s place) x w}
      (as_bound (raises_here law p engine f s s' n n' host x r raises inside (λ stop u place. refl)))
      (λ stop u place bound. chain_refuses (stopped (setup law p engine) stop) k next chain_here
      f s n host u place bound (walked_frame f s chain_here blamed place) why is)

  -- memory was out before the mark
  pub wanted : {ts : List ℕ} {takes gives : ℕ} (e : OutOfMemory) (root_found : FoundRoot) (h : Held) →
      RootFound p s f.base chain_here root_found h → f.base ≤ length s.scope →
      ImplementsBound (setup law p engine) (moment f s n host) rule ts takes gives s.stacks.handlers
      (Err e) (moment f s n host)
  wanted e root_found h found inside =
      wants_bound (setup law p engine) f s n host e inside (λ stop u place halts bound.
      chain_stops (stopped (setup law p engine) stop) k next chain_here f s n host u place bound
      (walked_frame f s chain_here blamed place) root_found h found halts)
