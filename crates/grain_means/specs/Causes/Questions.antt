-- Questions to the host for a native, and the worlds in which it has answered one.
use Rattle.std.specs.Prelude.{◌≡◌, ◌+◌, ◌&&◌, ℕ, List, Option, false}
use Rattle.grain_value.specs.declared.natives.Native.{Native}
use Rattle.grain_value.specs.declared.values.Held.{Held}
use Rattle.grain_host.specs.Law.{Reply, native_of}
use Rattle.grain_means.specs.Worlds.{Receiver, Setup, World}
use Rattle.grain_means.specs.Rules.{cells_given_back, cells_lent, first_is_read_only, given, given_back, kinds_in, lent_held, receiver_left, roots_given_back, trees_in, with_token}

-- what the host is asked for: a native of this name, on what is lent and on these arguments, in this
-- world
pub record Question (S : Type 0) : Type 0 where
  pub world : World S
  pub name : List ℕ
  pub lent : Option Receiver
  pub args : List Held

abbrev pub all_args : {S : Type 0} → Question S → List Held
all_args q = given q.lent q.args

-- the native that is asked for, if it is there
abbrev pub native_asked : {S : Type 0} → Setup S → Question S → Option Native
native_asked m q = native_of m.law q.world.host q.name (kinds_in (all_args q))

-- the host's answer where the native of this key is asked for
abbrev pub reply_to : {S : Type 0} → Setup S → Question S → ℕ → Reply
reply_to m q key = m.law.call_reply q.world.host key (lent_held q.lent) (trees_in q.args)

-- the native of this key is called: it does not write its first argument, or that can be written
abbrev pub IsCalled : {S : Type 0} → Question S → Native → Type 0
IsCalled q n = n.writes && first_is_read_only (all_args q) ≡ false

-- the world once an instruction has begun in it: it is counted, and its mark is passed
abbrev pub begun : {S : Type 0} → World S → World S
begun w = record w { ran = w.ran + 1; passed = w.passed + 1 }

-- the world once the host has answered a native of this key
abbrev pub answered_world : {S : Type 0} → Setup S → ℕ → Option Receiver → List Held → World S →
    World S
answered_world m key r args w = record w {
  host = m.law.call_after w.host key (lent_held r) (trees_in args);
  scope = given_back m.law w.host key (trees_in args) r w.scope;
  cells = cells_given_back m.law w.host key (trees_in args) r w.cells;
  roots = roots_given_back m.law w.host key (trees_in args) r w.roots;
  passed = w.passed + 1 + 1;
}

-- the world once the host has answered a native of this key, and asked for a call with this token
abbrev pub asking_world : {S : Type 0} → Setup S → ℕ → Option Receiver → List Held → ℕ → World S →
    World S
asking_world m key r args token w =
    let v = answered_world m key r args w in
    record v {
      cells = cells_lent (receiver_left m.law w.host key (trees_in args) r) v.cells;
      tokens = with_token token v.tokens;
    }
