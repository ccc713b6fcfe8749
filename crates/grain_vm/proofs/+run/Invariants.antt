use Rattle.std.proofs.Common.{◌+◌, ◌*◌, None}
use Rattle.grain_means.specs.Means.{setup}
use Rattle.grain_frame.specs.Abstraction.{moment}
use Rattle.grain_vm.specs.Driving.{left_of}
use Rattle.grain_vm.proofs.ChainLoops.{WalkedTo}
use Rattle.grain_vm.specs.Calls.{entry_of}
use Rattle.grain_vm.specs.Catching.{activation_at}
use Rattle.grain_vm.proofs.AskEnds.{AskedSoFar}
use Rattle.grain_vm.proofs.Measure.{left}
use Rattle.grain_vm.proofs.Running.{RunsTo}
use Rattle.grain_vm.proofs.WaitsOn.{AwaitsSo}
use Rattle.grain_frame.specs.Rests.{awaits_left}
use Rattle.grain_vm.proofs.+run.Given as goal

-- The operations that are left, then the code that is left, and then the function. What a walk or a native
-- calls stands after all of the code.
abbrev pub decreases-loops::call : goal.decreases-loops::call
decreases-loops::call g l = 32 * left l.context.engine.now l.run.now.count l.frame.now.address

abbrev pub decreases-method_runs::call_method : goal.decreases-method_runs::call_method
decreases-method_runs::call_method g l = 32 * left l.context.engine.now l.run.now.count 16777216 + 1

abbrev pub decreases-method_runs::run_method : goal.decreases-method_runs::run_method
decreases-method_runs::run_method g l = 32 * left l.context.engine.now l.run.now.count 16777216

abbrev pub decreases-calls_back::native_back : goal.decreases-calls_back::native_back
decreases-calls_back::native_back g l = 32 * left l.context.engine.now l.run.now.count 16777216 + 1

abbrev pub decreases-calls_back::call_back : goal.decreases-calls_back::call_back
decreases-calls_back::call_back g l = 32 * left l.context.engine.now l.run.now.count 16777216 + 2

abbrev pub decreases-asks::end_of_native : goal.decreases-asks::end_of_native
decreases-asks::end_of_native g l = 32 * left l.context.engine.now l.run.now.count 16777216 + 3

abbrev pub decreases-asks::finish_native : goal.decreases-asks::finish_native
decreases-asks::finish_native g l = 32 * left l.context.engine.now l.run.now.count 16777216 + 4

abbrev pub decreases-walk_natives::native_in_walk : goal.decreases-walk_natives::native_in_walk
decreases-walk_natives::native_in_walk g l = 32 * left l.context.engine.now l.run.now.count 16777216 + 5

abbrev pub decreases-asks::native_on : goal.decreases-asks::native_on
decreases-asks::native_on g l = 32 * left l.context.engine.now l.run.now.count 16777216 + 5

abbrev pub decreases-asks::wait_for_native : goal.decreases-asks::wait_for_native
decreases-asks::wait_for_native g l = 32 * left l.context.engine.now l.run.now.count 16777216 + 5

abbrev pub decreases-asks::native_by_name : goal.decreases-asks::native_by_name
decreases-asks::native_by_name g l =
    32 * left l.context.engine.now l.run.now.count l.frame.now.address + 6

abbrev pub decreases-finding::find_pointed : goal.decreases-finding::find_pointed
decreases-finding::find_pointed g l =
    32 * left l.context.engine.now l.run.now.count l.frame.now.address + 7

abbrev pub decreases-asks::call_native : goal.decreases-asks::call_native
decreases-asks::call_native g l =
    32 * left l.context.engine.now l.run.now.count l.frame.now.address + 7

abbrev pub decreases-method_runs::walk_chain : goal.decreases-method_runs::walk_chain
decreases-method_runs::walk_chain g l =
    32 * left l.context.engine.now l.run.now.count l.frame.now.address + 6

abbrev pub decreases-method_runs::call_on : goal.decreases-method_runs::call_on
decreases-method_runs::call_on g l =
    32 * left l.context.engine.now l.run.now.count l.frame.now.address + 6

abbrev pub decreases-method_runs::call_apart : goal.decreases-method_runs::call_apart
decreases-method_runs::call_apart g l =
    32 * left l.context.engine.now l.run.now.count l.frame.now.address + 6

abbrev pub decreases-method_runs::find_on : goal.decreases-method_runs::find_on
decreases-method_runs::find_on g l =
    32 * left l.context.engine.now l.run.now.count l.frame.now.address + 8

abbrev pub decreases-method_runs::call_with : goal.decreases-method_runs::call_with
decreases-method_runs::call_with g l =
    32 * left l.context.engine.now l.run.now.count l.frame.now.address + 9

abbrev pub decreases-apart::walk_or_wait : goal.decreases-apart::walk_or_wait
decreases-apart::walk_or_wait g l =
    32 * left l.context.engine.now l.run.now.count l.frame.now.address + 10

abbrev pub decreases-apart::step_or_walk : goal.decreases-apart::step_or_walk
decreases-apart::step_or_walk g l =
    32 * left l.context.engine.now l.run.now.count l.frame.now.address + 11

abbrev pub decreases-apart::call_pointer : goal.decreases-apart::call_pointer
decreases-apart::call_pointer g l =
    32 * left l.context.engine.now l.run.now.count l.frame.now.address + 8

abbrev pub decreases-apart::pointer_or_native : goal.decreases-apart::pointer_or_native
decreases-apart::pointer_or_native g l =
    32 * left l.context.engine.now l.run.now.count l.frame.now.address + 12

abbrev pub decreases-loops::call_on_copy : goal.decreases-loops::call_on_copy
decreases-loops::call_on_copy g l =
    32 * left l.context.engine.now l.run.now.count l.frame.now.address + 13

abbrev pub decreases-loops::step_on_copy : goal.decreases-loops::step_on_copy
decreases-loops::step_on_copy g l =
    32 * left l.context.engine.now l.run.now.count l.frame.now.address + 13

abbrev pub decreases-loops::proceed : goal.decreases-loops::proceed
decreases-loops::proceed g l =
    32 * left l.context.engine.now l.run.now.count l.frame.now.address + 14

abbrev pub decreases-loops::run_from : goal.decreases-loops::run_from
decreases-loops::run_from g l =
    32 * left l.context.engine.now l.run.now.count l.address + 15

abbrev pub decreases-loops::run_frame : goal.decreases-loops::run_frame
decreases-loops::run_frame g l =
    32 * left l.context.engine.now l.run.now.count l.chunk.now.entry + 16

-- the walk so far, against where the chain began
abbrev pub invariant-method_runs::walk_chain-calls : goal.invariant-method_runs::walk_chain-calls
invariant-method_runs::walk_chain-calls g l =
    WalkedTo (setup g.H.Host.law l.context.program.now l.context.engine.now)
    (moment l.fn.frame l.fn.run l.fn.steps l.fn.host) l.fn.index l.fn.next l.walking l.answer l.missed
    l.frame l.run l.steps l.host

abbrev pub decreases-method_runs::walk_chain-calls : goal.decreases-method_runs::walk_chain-calls
decreases-method_runs::walk_chain-calls g l = left_of l.context.program.now l.walking.walk l.answer

abbrev pub invariant-loops::run_from-turn : goal.invariant-loops::run_from-turn
invariant-loops::run_from-turn g l =
    RunsTo (setup g.H.Host.law l.context.program.now l.context.engine.now)
    (moment (activation_at l.fn.chunk l.fn.base l.fn.address l.fn.floor None) l.fn.run l.fn.steps
    l.fn.host) (moment l.frame l.run l.steps l.host)

-- the operations that are left, and then the code that is left
abbrev pub decreases-loops::run_from-turn : goal.decreases-loops::run_from-turn
decreases-loops::run_from-turn g l = left l.context.engine.now l.run.count l.frame.address

abbrev pub invariant-loops::run_frame-frame : goal.invariant-loops::run_frame-frame
invariant-loops::run_frame-frame g l =
    RunsTo (setup g.H.Host.law l.context.program.now l.context.engine.now)
    (moment (entry_of l.fn.chunk l.fn.base) l.fn.run l.fn.steps l.fn.host)
    (moment (activation_at l.fn.chunk l.fn.base l.address l.floor None) l.run l.steps l.host)

abbrev pub decreases-loops::run_frame-frame : goal.decreases-loops::run_frame-frame
decreases-loops::run_frame-frame g l = left l.context.engine.now l.run.count l.address

-- the natives for which an instruction waited, against where it began
abbrev pub invariant-asks::wait_for_native-natives : goal.invariant-asks::wait_for_native-natives
invariant-asks::wait_for_native-natives g l =
    AwaitsSo (setup g.H.Host.law l.context.program.now l.context.engine.now)
    (moment l.fn.frame l.fn.run l.fn.steps l.fn.host) (moment l.frame l.run l.steps l.host)

abbrev pub decreases-asks::wait_for_native-natives : goal.decreases-asks::wait_for_native-natives
decreases-asks::wait_for_native-natives g l = awaits_left l.run.waiting

-- what a native asks for now, after all that it asked for before
abbrev pub invariant-asks::end_of_native-asks : goal.invariant-asks::end_of_native-asks
invariant-asks::end_of_native-asks g l =
    AskedSoFar (setup g.H.Host.law l.context.program.now l.context.engine.now) l.fn.native l.fn.run
    l.fn.steps l.fn.host l.asked l.lent l.run l.steps l.host

-- each call that it hears of takes an operation
abbrev pub decreases-asks::end_of_native-asks : goal.decreases-asks::end_of_native-asks
decreases-asks::end_of_native-asks g l = left l.context.engine.now l.run.count 16777216
