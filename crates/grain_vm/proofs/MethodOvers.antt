-- A function that a walk called: once it is over, the run is as it was, but for what the function did to
-- the cells, the count and the trace.
use Rattle.std.proofs.Common.{◌≡◌, ◌∙◌, ◌≤◌, ◌+◌, ◌-◌, ℕ, List, [], ◌∷◌, ◌++◌, Option, Some, Result, Ok, Err, length, take, refl, subst, ap, arith}
use Rattle.std.specs.Prelude.{is_some, slice_get}
use Rattle.std.proofs.lemmas.List.{take-append-le}
use Rattle.std.proofs.Math.Seq.{take-length}
use Rattle.grain_value.specs.declared.memory.OutOfMemory.{OutOfMemory}
use Rattle.grain_value.specs.declared.scopes.Entry.{Entry}
use Rattle.grain_value.specs.declared.values.Dynamic.{Dynamic}
use Rattle.grain_value.specs.declared.values.Held.{Held}
use Rattle.grain_fault.specs.declared.faults.EvalAltResult.{EvalAltResult}
use Rattle.grain_program.specs.declared.code.functions.Function.{Function}
use Rattle.grain_global.specs.StepsView.{StepsView}
use Rattle.grain_global.specs.declared.engines.Engine.{Engine}
use Rattle.grain_stack.specs.Views.{StackFrame, StacksView, innermost, without_frame}
use Rattle.grain_means.specs.Worlds.{End, Go, InFrame, Setup}
use Rattle.grain_means.specs.Simulation.{Simulates, StopPersists}
use Rattle.grain_chain.specs.Walking.{is_want}
use Rattle.grain_frame.specs.Abstraction.{abstraction, frame_in, is_out, this_of}
use Rattle.grain_frame.specs.Receivers.{KeepsBound}
use Rattle.grain_frame.specs.declared.runs.Run.{Run}
use Rattle.grain_vm.specs.Calls.{LeavesAround, caller_of, entry_of, frame_answer, frame_over}
use Rattle.grain_vm.specs.Driving.{SameFlag, beside}
use Rattle.grain_vm.specs.Methods.{CallsMethod, Enters, LeavesBody, MethodEntered, MethodOver, NoneAbove, bound_with, given_back, given_to, kept_back, left_from}
use Rattle.grain_vm.specs.declared.calls.FrameEnd.{FrameEnd}
use Rattle.grain_vm.specs.declared.methods.MethodCall.{MethodCall}
use Rattle.grain_vm.proofs.BoundFrames.{bound_first, bound_last, others_last}
use Rattle.grain_vm.proofs.Calling.{level_back, one_less, scope_back}
use Rattle.grain_vm.proofs.Flags.{flag_kept}
use Rattle.grain_vm.proofs.Found.{one_there}
use Rattle.grain_vm.proofs.MethodCalls.{calls_on, calls_refused}
use Rattle.grain_vm.proofs.Performing.{same_flag}

module _ {H : Type 0} (engine : Engine) (g : Function) (x : Option Held) (s s1 s2 : Run H)
    (entered : MethodEntered engine g x s s1) (outer : s2.stacks.outer ≡ s1.stacks.outer)
    (saved : s2.saved ≡ s1.saved) (level : s2.level ≡ s1.level) where
  waiting : s2.saved ≡ s.saved ++ s.scope ∷ []
  waiting = saved ∙ entered.saved

  up : s2.level ≡ s.level + 1
  up = level ∙ entered.level

  stacks_back : (caller_of s2).stacks ≡ without_frame (innermost s.stacks ∷ s.stacks.outer) s2.stacks
  stacks_back =
      ap (λ (fs : List StackFrame). without_frame fs s2.stacks) (outer ∙ entered.caller)

  saved_back : (caller_of s2).saved ≡ s.saved
  saved_back =
      ap (λ (l : List (List Entry)). take (length s2.saved - 1) l) waiting
      ∙ ap (λ (n : ℕ). take n (s.saved ++ s.scope ∷ [])) (one_less s s2 waiting up)
      ∙ take-append-le (length s.saved) s.saved (s.scope ∷ []) (omega arith)
      ∙ take-length s.saved

  -- what the meaning's caller has again, with any scope and `this`
  pub there_again : (scope : List Entry) (n : StepsView) (host : H) (y : Option Held) →
      beside scope y (caller_of s2) n host
      ≡ record (abstraction s2 n host) { scope = scope; level = s.level; this = y }
  there_again scope n host y =
      rw (level_back s s2 waiting up, ap (λ (v : StacksView). v.trace) stacks_back) refl

  pub over_again : (s3 : Run H) → s3 ≡ record (left_from s2) { fault = s3.fault } →
      NoneAbove s.level s.receivers →
      KeepsBound (s.level + 1) (bound_with (s.level + 1) x s.receivers) s2.receivers →
      s1.count ≤ s2.count → MethodOver s s3
  over_again s3 is none bound later = rw is (record {
    scope = scope_back s s2 waiting up;
    saved = saved_back;
    level = level_back s s2 waiting up;
    receivers = rw (level, entered.level) (others_last s.level x s.receivers s2.receivers none bound);
    room = ap (λ (v : StacksView). v.room) stacks_back;
    noted = ap (λ (v : StacksView). v.noted) stacks_back;
    outer = ap (λ (v : StacksView). v.outer) stacks_back;
    operands = ap (λ (v : StacksView). v.operands) stacks_back;
    cursors = ap (λ (v : StacksView). v.cursors) stacks_back;
    totals = ap (λ (v : StacksView). v.totals) stacks_back;
    handlers = ap (λ (v : StacksView). v.handlers) stacks_back;
    later = omega (arith, later, entered.count);
  })

-- what a call came to: it was done, the run is as it was, and the receiver has its flag
module _ {H : Type 0} (m : Setup H) (c : MethodCall) (g : Function) (s : Run H) (n : StepsView)
    (host : H) where
  abbrev pub Called : Function → Result Dynamic EvalAltResult → Option Held → Run H → StepsView → H →
      Type 0
  Called h o left s' n' host' =
      CallsMethod m c h s n host o left s' n' host' × MethodOver s s' × SameFlag c.receiver left

  -- the function of a number is one
  pub called_one : (h : Function) (o : Result Dynamic EvalAltResult) (left : Option Held) (s' : Run H)
      (n' : StepsView) (host' : H) → slice_get m.program.functions c.number ≡ Some g →
      slice_get m.program.functions c.number ≡ Some h → Called g o left s' n' host' →
      Called h o left s' n' host'
  called_one h o left s' n' host' here there called =
      subst (λ (f : Function). Called f o left s' n' host')
      (one_there m.program.functions c.number g h here there) called

  -- it was over before its frame was entered
  pub method_refused : (o : Result Dynamic EvalAltResult × Option Held) (s' : Run H) (n' : StepsView)
      (host' : H) → Enters m c.pos g (given_to c.arguments) m.engine c.receiver s n host (Err o) s' n'
      host' → Called g o.0 o.1 s' n' host'
  method_refused o s' n' host' did = (
    rw did.0 (calls_refused m c g s s' n n' host host' o.0 did.2),
    did.1,
    rw did.0 (same_flag c.receiver),
  )

  -- its body was run
  module _ (s1 s2 s3 : Run H) (n1 n2 n3 : StepsView) (host1 host2 : H) (back left : Option Held)
      (end : Result FrameEnd OutOfMemory) (o : Result Dynamic EvalAltResult) where
    pub method_ran : Enters m c.pos g (given_to c.arguments) m.engine c.receiver s n host (Ok back) s1 n1
        host1 → NoneAbove s.level s.receivers →
        Simulates m (abstraction s1 n1 host1)
        (λ m place w. Go (InFrame (frame_in (entry_of g.chunk 0) s1 place)) w) (is_out end)
        (abstraction s2 n2 host2) (frame_over end s2) → LeavesAround s1 n1 s2 n2 →
        LeavesBody m c.pos g (frame_answer end s2) (caller_of s2) n2 o s3 n3 →
        StopPersists (is_out end) n2.passed (is_want o) n3.passed →
        s3 ≡ record (left_from s2) { fault = s3.fault } → left ≡ given_back back (this_of s2) →
        Called g o left s3 n3 host2
    method_ran did none goes around leaves persists is given =
        let entered = did.1 in
        let bound : KeepsBound (s.level + 1) (bound_with (s.level + 1) c.receiver s.receivers)
        s2.receivers = rw (entered.level, entered.receivers) at around.this in
        let first : this_of s1 ≡ c.receiver =
        rw (entered.level, entered.receivers) (bound_first s.level c.receiver s.receivers none) in
        let still : is_some (this_of s2) ≡ is_some c.receiver =
        rw (around.level, entered.level) (bound_last s.level c.receiver s.receivers s2.receivers none
        bound) in
        let result : left ≡ given_back (kept_back c.receiver) (this_of s2) = rw did.0 at given in
        let called : CallsMethod m c g s n host o (given_back (kept_back c.receiver) (this_of s2)) s3 n3
        host2 =
        λ scope heard. calls_on m c g s s1 s2 s3 n n1 n2 n3 host host1 host2 end o scope did.2
        (λ place. rw (entered.operands, entered.cursors, entered.totals, entered.handlers) refl) goes
        (there_again m.engine g c.receiver s s1 s2 entered around.outer around.saved around.level scope
        n2 host2) leaves persists first still heard in (
          rw result called,
          over_again m.engine g c.receiver s s1 s2 entered around.outer around.saved around.level s3 is
              none bound around.later,
          rw result (flag_kept (is_want o) (called s.scope (λ m place a w. End a w))),
        )
