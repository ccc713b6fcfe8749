-- How code is joined to the meaning: a stretch of code simulates a part of a run. An end that the
-- run has from after the part is then an end that it has from before it, and the same of a run
-- that is stopped at a later mark.
use Rattle.std.specs.Prelude.{◌≡◌, ◌<◌, ◌≤◌, ℕ, List, [], Option, Some, None, Bool, true, false}
use Rattle.grain_value.specs.declared.values.Held.{Held}
use Rattle.grain_value.specs.declared.scopes.Entry.{Entry}
use Rattle.grain_value.specs.declared.stores.Cell.{Cell}
use Rattle.grain_fault.specs.declared.traces.Fault.{Fault}
use Rattle.grain_means.specs.Worlds.{Act, Answer, World, Setup, Place}
use Rattle.grain_means.specs.Rules.{is_stop}
use Rattle.grain_means.specs.Ends.{Ends}
use Rattle.grain_means.specs.Places.{find, put}

-- the parts of a world that the code has: `this` by value
pub record LocalState (S : Type 0) : Type 0 where
  pub scope : List Entry
  pub cells : List Cell
  pub host : S
  pub this : Option Held
  pub count : ℕ
  pub level : ℕ
  pub trace : List Fault
  pub ran : ℕ
  pub passed : ℕ

-- the parts that it has not
pub record Environment : Type 0 where
  pub roots : List Held
  pub tokens : Option (List ℕ)

abbrev pub no_environment : Environment
no_environment = record { roots = []; tokens = Some [] }

abbrev pub world : {S : Type 0} → LocalState S → Environment → World S
world h u = record {
  roots = u.roots;
  scope = h.scope;
  cells = h.cells;
  host = h.host;
  count = h.count;
  level = h.level;
  trace = h.trace;
  ran = h.ran;
  passed = h.passed;
  tokens = u.tokens;
}

-- the place has the code's `this`
abbrev pub Binds : List Held → Option Place → Option Held → Type 0
Binds roots None None = Unit {0}
Binds roots None (Some t) = ⊥
Binds roots (Some p) None = ⊥
Binds roots (Some p) (Some t) = find roots p ≡ Some t

-- the code's `this`, put where it belongs
abbrev pub puts : List Held → Option Place → Option Held → List Held
puts roots None this = roots
puts roots (Some p) None = roots
puts roots (Some p) (Some t) = put roots p t.value

abbrev pub after : Environment → Option Place → Option Held → Environment
after u place this = record u { roots = puts u.roots place this }

-- what is still to be done, at the place of the code's `this` and in a world
abbrev pub Computation : (S : Type 0) → Type 0
Computation S = Setup S → Option Place → World S → Act S

abbrev pub stopped : {S : Type 0} → Setup S → Option ℕ → Setup S
stopped m stop = record m { stop = stop }

-- in any environment, with `this` somewhere among its roots: what the second ends as, the first
-- ends as
abbrev pub Refines : {S : Type 0} → Setup S → LocalState S → Computation S → LocalState S →
    Computation S → Type 0
Refines {S = S} m old start new now =
    (u : Environment) (place : Option Place) → Binds u.roots place old.this →
    Binds (puts u.roots place new.this) place new.this ×
    ((a : Answer) (w : World S) → Ends m (now m place (world new (after u place new.this))) a w →
    Ends m (start m place (world old u)) a w)

-- no stop among the marks from a to below b
abbrev pub NoStopWithin : Option ℕ → ℕ → ℕ → Type 0
NoStopWithin stop a b = (k : ℕ) → a ≤ k → k < b → is_stop stop k ≡ false

-- memory is out just where the stop is
abbrev pub StopsHere : Bool → Option ℕ → ℕ → Type 0
StopsHere false stop passed = Unit {0}
StopsHere true stop passed = is_stop stop passed ≡ true

-- From the first state to the second the code did what the first computation does, and the second
-- one is left. `out` says that memory is out there.
pub record Simulates {S : Type 0} (m : Setup S) (old : LocalState S) (start : Computation S)
    (out : Bool) (new : LocalState S) (now : Computation S) : Type 0 where
  pub order : old.passed ≤ new.passed
  pub leads : (stop : Option ℕ) → NoStopWithin stop old.passed new.passed →
      StopsHere out stop new.passed → Refines (stopped m stop) old start new now

-- a stretch that does not touch `this` and calls nothing: the two computations are one
pub record SimulatesExactly {S : Type 0} (m : Setup S) (old : LocalState S) (start : Computation S)
    (out : Bool) (new : LocalState S) (now : Computation S) : Type 0 where
  pub this : new.this ≡ old.this
  pub order : old.passed ≤ new.passed
  pub equal : (stop : Option ℕ) → NoStopWithin stop old.passed new.passed →
      StopsHere out stop new.passed →
      (u : Environment) (place : Option Place) → start (stopped m stop) place (world old u) ≡
      now (stopped m stop) place (world new u)

-- once memory is out, no mark is passed
abbrev pub StopPersists : Bool → ℕ → Bool → ℕ → Type 0
StopPersists false passed out later = Unit {0}
StopPersists true passed out later = (out ≡ true) × (later ≡ passed)
