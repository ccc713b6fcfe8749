-- Calls that are done on a copy of the frame.
use Rattle.std.specs.Prelude.{◌≡◌, None}
use Rattle.grain_program.specs.declared.code.instruction_set.Op.TheVariants as op
use Rattle.grain_program.specs.Lookups.{function_of}
use Rattle.grain_program.specs.View.{View}
use Rattle.grain_frame.specs.Abstraction.{StandsAt}
use Rattle.grain_frame.specs.declared.activations.Activation.{Activation}
use Rattle.grain_frame.specs.declared.runs.Run.{Run}
use Rattle.grain_vm.specs.declared.apart.CallOnCopy.{CallOnCopy}
use Rattle.grain_vm.specs.declared.apart.CallOnCopy.TheVariants as on_copy

-- what is known of a call that is done on a copy of the frame
abbrev pub StandsAtCall : {H : Type 0} → View → Activation → Run H → CallOnCopy → Type 0
StandsAtCall program f s (on_copy.Pointer count next) =
    StandsAt program f s (op.CallFnPtr count) next
StandsAtCall program f s (on_copy.Native name count next) =
    StandsAt program f s (op.Call name count) next × (function_of program name count ≡ None)
