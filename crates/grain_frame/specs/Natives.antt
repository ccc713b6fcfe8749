-- What a native is given, and what was found for it.
use Rattle.std.specs.Prelude.{◌≡◌, ◌⊎◌, ◌+◌, ℕ, Bool, List, Option, None, Some, true, false, ◌&&◌, if◌then◌else◌, Result, Ok, Err}
use Rattle.grain_value.specs.Tree.{Tree}
use Rattle.grain_value.specs.Operands.{values_in}
use Rattle.grain_value.specs.declared.values.Held.{Held}
use Rattle.grain_value.specs.declared.memory.OutOfMemory.{OutOfMemory}
use Rattle.grain_value.specs.declared.natives.Native.{Native}
use Rattle.grain_fault.specs.declared.places.Position.{Position}
use Rattle.grain_fault.specs.Positions.{at_position_if_none}
use Rattle.grain_fault.specs.Problems.{Problem, Plain, NonPureCall, problem_of}
use Rattle.grain_host.specs.Law.{Law, Reply, native_of, written}
use Rattle.grain_host.specs.Law as reply
use Rattle.grain_host.specs.Signatures.{not_found}
use Rattle.grain_means.specs.Worlds.{Frame, Place, Setup}
use Rattle.grain_means.specs.Rules.{Receiver, lent_held, given, given_back, cells_given_back, kinds_in, trees_in, first_is_read_only, position}
use Rattle.grain_global.specs.StepsView.{StepsView}
use Rattle.grain_frame.specs.declared.native_calls.Arguments.{Arguments}
use Rattle.grain_frame.specs.declared.native_calls.Sought.{Sought}
use Rattle.grain_frame.specs.declared.native_calls.Sought.TheVariants as sought
use Rattle.grain_frame.specs.declared.native_calls.NativeEnd.{NativeEnd}
use Rattle.grain_frame.specs.declared.native_calls.NativeEnd.TheVariants as native_end
use Rattle.grain_frame.specs.Targets.{put_in}
use Rattle.grain_frame.specs.declared.runs.Run.{Run}
use Rattle.grain_frame.specs.declared.targets.Target.{Target}

-- what a host is given of these arguments
pub record Describes (a : Arguments) (args : List Held) : Type 0 where
  pub kinds : a.kinds ≡ kinds_in args
  pub values : a.values ≡ trees_in args
  pub read_only : a.read_only ≡ first_is_read_only args

-- what the host has for a name, for what is lent and for arguments: a native that may be called, or
-- the fault that there is none or that its first argument can only be read
abbrev pub Seeks : {S : Type 0} → Law S → S → List ℕ → Option Receiver → List Held → Position →
    Sought → Type 0
Seeks law s name r args p (sought.Native key values) = (n : Native)
    × (native_of law s name (kinds_in (given r args)) ≡ Some n)
    × ((n.writes && first_is_read_only (given r args)) ≡ false) × (key ≡ n.key)
    × (values ≡ trees_in args)
Seeks law s name r args p (sought.Fault x) =
    ((native_of law s name (kinds_in (given r args)) ≡ None)
    × (problem_of x ≡ not_found name (values_in (given r args)) p))
    ⊎ ((n : Native) × (native_of law s name (kinds_in (given r args)) ≡ Some n)
    × ((n.writes && first_is_read_only (given r args)) ≡ true)
    × (problem_of x ≡ Plain (NonPureCall name) p))

-- the key of the native that was found, unless it writes and its first argument can only be read
abbrev pub callable_key : Bool → Option Native → Option ℕ
callable_key read_only None = None
callable_key read_only (Some n) = if n.writes && read_only then None else Some n.key

-- the key of the native of a name that may be called with arguments of these kinds, if there is one; the
-- flag says whether the first of them can only be read
abbrev pub callable : {S : Type 0} → Law S → S → List ℕ → List ℕ → Bool → Option ℕ
callable law s name kinds read_only = callable_key read_only (native_of law s name kinds)

-- what comes of the host's answer: two marks are passed, or where memory is out, none
abbrev pub EndsBy : Option Reply → Position → Result NativeEnd OutOfMemory → StepsView → StepsView →
    Type 0
EndsBy said p (Ok (native_end.Value v)) n n' =
    (said ≡ Some (reply.Done v)) × (n' ≡ record n { passed = n.passed + 1 + 1 })
EndsBy said p (Ok (native_end.Fault x)) n n' = (y : Problem)
    × (said ≡ Some (reply.Failed y)) × (problem_of x ≡ at_position_if_none p y)
    × (n' ≡ record n { passed = n.passed + 1 + 1 })
EndsBy said p (Ok (native_end.Asks a)) n n' =
    (said ≡ Some (reply.Ask a.token a.pointer a.values))
    × (n' ≡ record n { passed = n.passed + 1 + 1 })
EndsBy said p (Err e) n n' = (said ≡ None) × (n' ≡ n)

-- whatever its `this` is, what the frame does has this position
abbrev pub IsAt : {H : Type 0} → Setup H → (Option Place → Frame) → Position → Type 0
IsAt m f p = (place : Option Place) → position m (f place) ≡ p

-- the run once the host has answered; what is lent stands in its scope
abbrev pub served_run : {H : Type 0} → Law H → Run H → H → ℕ → Option Receiver → List Tree → Run H
served_run law s host key r values =
    record s {
      scope = given_back law host key values r s.scope;
      cells = cells_given_back law host key values r s.cells;
    }

-- the host was called with a key, what is lent and values: two marks are passed, and the run is then
-- `t`; where memory is out, nothing changed
abbrev pub ServesTo : {H : Type 0} → Law H → Run H → StepsView → H → ℕ → Option Held → List Tree →
    Position → Run H → Result NativeEnd OutOfMemory → Run H → StepsView → H → Type 0
ServesTo law s n host key lent values p t (Ok (native_end.Value v)) s' n' host' =
    (reply.Done v ≡ law.call_reply host key lent values)
    × (host' ≡ law.call_after host key lent values) × (s' ≡ t)
    × (n' ≡ record n { passed = n.passed + 1 + 1 })
ServesTo law s n host key lent values p t (Ok (native_end.Fault x)) s' n' host' = (y : Problem)
    × (reply.Failed y ≡ law.call_reply host key lent values)
    × (host' ≡ law.call_after host key lent values)
    × (problem_of x ≡ at_position_if_none p y) × (s' ≡ t)
    × (n' ≡ record n { passed = n.passed + 1 + 1 })
ServesTo law s n host key lent values p t (Ok (native_end.Asks a)) s' n' host' =
    (reply.Ask a.token a.pointer a.values ≡ law.call_reply host key lent values)
    × (host' ≡ law.call_after host key lent values) × (s' ≡ t)
    × (n' ≡ record n { passed = n.passed + 1 + 1 })
ServesTo law s n host key lent values p t (Err e) s' n' host' =
    (host' ≡ host) × (s' ≡ s) × (n' ≡ n)

-- what is lent goes back where it stood
abbrev pub Serves : {H : Type 0} → Law H → Run H → StepsView → H → ℕ → Option Receiver → List Tree →
    Position → Result NativeEnd OutOfMemory → Run H → StepsView → H → Type 0
Serves law s n host key r values p =
    ServesTo law s n host key (lent_held r) values p (served_run law s host key r values)

-- what a target holds was lent
abbrev pub ServesAt : {H : Type 0} → Law H → Run H → StepsView → H → ℕ → Target → Held → List Tree →
    Position → Result NativeEnd OutOfMemory → Run H → StepsView → H → Type 0
ServesAt law s n host key t h values p =
    ServesTo law s n host key (Some h) values p (put_in s t (written law host key values h))
