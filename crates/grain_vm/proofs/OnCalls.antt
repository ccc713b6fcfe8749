-- A pointer is called with its receiver: the operands are taken, the call is done, and the receiver goes
-- where the instruction says.
use Rattle.std.proofs.Common.{◌≡◌, ◌∙◌, ◌+◌, ◌-◌, ◌<◌, ◌≤◌, ℕ, List, [], ◌∷◌, ◌++◌, Option, Some, None, false, Result, Ok, Err, length, map, take, refl, sym, ap, subst, arith}
use Rattle.std.specs.Prelude.{slice_get}
use Rattle.std.proofs.lemmas.List.{append-nil, length-append, length-map, length-take-le}
use Rattle.grain_value.specs.Tree.{Tree}
use Rattle.grain_value.specs.View.{tree, value_of}
use Rattle.grain_value.specs.laws.Same.{value_of-tree}
use Rattle.grain_value.specs.Operands.{arguments, read_write, under, values_in}
use Rattle.grain_value.specs.declared.memory.OutOfMemory.{OutOfMemory}
use Rattle.grain_value.specs.declared.values.Dynamic.{Dynamic}
use Rattle.grain_value.specs.declared.values.FnPtr.{FnPtr}
use Rattle.grain_value.specs.declared.values.Held.{Held}
use Rattle.grain_fault.specs.declared.faults.EvalAltResult.{EvalAltResult}
use Rattle.grain_host.specs.Law.{Law}
use Rattle.grain_program.specs.View.{View, position_of}
use Rattle.grain_program.specs.declared.code.functions.Function.{Function}
use Rattle.grain_global.specs.StepsView.{StepsView}
use Rattle.grain_global.specs.declared.engines.Engine.{Engine}
use Rattle.grain_means.specs.Worlds.{Act, Answer, Frame, Place, World}
use Rattle.grain_means.specs.Means.{setup}
use Rattle.grain_means.specs.Rules.{callee_on, curried_in, function_by_name, function_numbered, operand_under, receiver_called, receiver_over, root_over, trees_in, without}
use Rattle.grain_means.specs.Rules.Chains.{new_root}
use Rattle.grain_means.specs.Simulation.{Computation, LocalState, Simulates, SimulatesExactly, StopPersists, stopped, world}
use Rattle.grain_means.specs.lemmas.PlaceLaws.{take-after}
use Rattle.grain_means.specs.lemmas.Stretches.{compose, same}
use Rattle.grain_chain.specs.Walking.{is_want, outcome_of}
use Rattle.grain_chain.specs.declared.requests.Request.{Request}
use Rattle.grain_frame.specs.Abstraction.{ImplementsBound, KeepsFrame, abstraction, frame_in, is_out, marked_once, moment, this_of}
use Rattle.grain_frame.specs.declared.activations.Activation.{Activation}
use Rattle.grain_frame.specs.declared.runs.Progress.{Progress}
use Rattle.grain_frame.specs.declared.runs.Run.{Run}
use Rattle.grain_frame.specs.lemmas.Bound.{as_bound}
use Rattle.grain_frame.specs.lemmas.Failing.{wants_memory}
use Rattle.grain_vm.specs.Driving.{SameFlag, beside, name_in}
use Rattle.grain_vm.specs.Methods.{CallsMethod, MethodOver, given_to}
use Rattle.grain_vm.specs.Receivers.{CallOn, CalledOn, CallsOn, HearsRoot, NativeCalled, NeedsOn, TakesCall, destination_in, function_call, native_call, receiver_in}
use Rattle.grain_vm.specs.declared.methods.MethodCall.{MethodCall}
use Rattle.grain_vm.specs.declared.methods.Needed.{Needed}
use Rattle.grain_vm.specs.declared.methods.Needed.TheVariants as needed
use Rattle.grain_vm.specs.declared.receivers.Destination.{Destination}
use Rattle.grain_vm.proofs.ChainEnds.{lands_whole}
use Rattle.grain_vm.proofs.Invoking.{given_curried}
use Rattle.grain_vm.proofs.OnReceivers.{calls_on_new, look-new, receiver_back}

-- ---- the arguments

-- values that are copied are these values
copied_values : (hs : List Held) → map value_of (trees_in hs) ≡ values_in hs
copied_values [] = refl
copied_values (h ∷ hs) =
    ap (λ (v : Dynamic). v ∷ map value_of (trees_in hs)) (value_of-tree h.value)
    ∙ ap (λ (vs : List Dynamic). h.value ∷ vs) (copied_values hs)

-- the arguments of the call, with the pointer's values first
arguments_are : (r : FnPtr) (hs : List Held) →
    curried_in r ++ map read_write (values_in hs) ≡ given_to (r.curry ++ trees_in hs)
arguments_are r hs =
    ap (λ (vs : List Dynamic). curried_in r ++ map read_write vs) (sym (copied_values hs))
    ∙ given_curried r (trees_in hs)

-- and how many they are
arguments_count : (r : FnPtr) (hs : List Held) →
    length r.curry + length (values_in hs) ≡ length (r.curry ++ trees_in hs)
arguments_count r hs =
    ap (λ (k : ℕ). length r.curry + k)
    (length-map hs (λ (h : Held). h.value) ∙ sym (length-map hs (λ (h : Held). tree h.value)))
    ∙ sym (length-append r.curry (trees_in hs))

-- ---- the operands are taken

module _ {H : Type 0} (law : Law H) (p : View) (engine : Engine) (f : Activation) (s : Run H)
    (n : StepsView) (host : H) (d : Destination) (r : FnPtr) (k next : ℕ) where
  abbrev values : List Held
  values = arguments k s.stacks.operands

  abbrev ts : List Tree
  ts = r.curry ++ trees_in values

  -- the run without the call's operands
  abbrev taken : Run H
  taken = record s { stacks = record s.stacks { operands = under (k + 1 + 1) s.stacks.operands } }

  -- what the instruction does
  abbrev called : Computation H
  called m place w =
      receiver_called m (destination_in d) r (values_in values) (operand_under (k + 1) s.stacks.operands)
      next (without (k + 1 + 1) (frame_in f s place)) w

  -- what follows the call
  abbrev heard : HearsRoot H
  heard m place j a w = root_over m (destination_in d) next (frame_in f taken place) j a w

  -- the call, and then what follows
  abbrev calling : CallOn H → Computation H
  calling call m place w =
      call m place (heard m place (length w.roots)) (new_root w.roots)
      (record w { roots = w.roots ++ receiver_in s k ∷ [] })

  -- memory is out before the operands are taken
  pub call_out : (e : OutOfMemory) (s' : Run H) (n' : StepsView) → f.base ≤ length s.scope →
      TakesCall p s n f.address r k (Err e) s' n' →
      CalledOn (setup law p engine) (moment f s n host) d r k next (Err e) (moment f s' n' host)
  call_out e s' n' inside did =
      rw (did.0, did.1) (as_bound (wants_memory law p engine f s n host (Err e) refl inside
      (λ stop u place halts. rw halts refl)))

  -- how many arguments there are with the pointer's values
  abbrev count : ℕ
  count = length r.curry + length (values_in values)

  -- a mark is passed, the receiver is a root, and what the pointer names is called
  begins : (call : CallOn H) → ((stop : Option ℕ) (place : Option Place)
      (on : Answer → World H → Act H) (q : Place) (w : World H) →
      callee_on (stopped (setup law p engine) stop) (function_by_name p r.name count) r
      (curried_in r ++ map read_write (values_in values)) (frame_in f taken place) on q w
      ≡ call (stopped (setup law p engine) stop) place on q w) →
      SimulatesExactly (setup law p engine) (abstraction s n host) called false
      (abstraction taken (marked_once n) host) (calling call)
  begins call alike = record {
    this = refl;
    order = omega arith;
    equal = λ stop clear halts u place.
        rw (clear n.passed (omega arith) (omega arith)) (alike stop place
        (heard (stopped (setup law p engine) stop) place (length u.roots)) (new_root u.roots)
        (record (world (abstraction taken (marked_once n) host) u) {
          roots = u.roots ++ receiver_in s k ∷ [];
        }));
  }

  -- a function is called
  pub begins_function : (c : MethodCall) (g : Function) →
      NeedsOn p (position_of p f.address) r.name ts (receiver_in s k) (needed.Function c) →
      slice_get p.functions c.number ≡ Some g →
      SimulatesExactly (setup law p engine) (abstraction s n host) called false
      (abstraction taken (marked_once n) host)
      (calling (function_call g c.pos (given_to c.arguments)))
  begins_function c g needs there =
      begins (function_call g c.pos (given_to c.arguments))
      (λ stop place on q w. rw (found, needs.2, needs.4, ← arguments_are r values) refl) where
        found : function_by_name p r.name count ≡ Some g
        found = ap (function_by_name p r.name) (arguments_count r values)
            ∙ ap (function_numbered p) needs.1 ∙ there

  -- a native is called
  pub begins_native : (q : Request) →
      NeedsOn p (position_of p f.address) r.name ts (receiver_in s k) (needed.Native q) →
      SimulatesExactly (setup law p engine) (abstraction s n host) called false
      (abstraction taken (marked_once n) host)
      (calling (native_call (frame_in f taken) (name_in q.what) (given_to q.arguments)))
  begins_native q needs =
      begins (native_call (frame_in f taken) (name_in q.what) (given_to q.arguments))
      (λ stop place on at w. rw (found, needs.1, needs.4, ← arguments_are r values) refl) where
        found : function_by_name p r.name count ≡ None
        found = ap (function_by_name p r.name) (arguments_count r values)
            ∙ ap (function_numbered p) needs.0

  -- ---- the call is over

  -- the receiver is a root no more
  dropped : (j : Held) (roots : List Held) → take (length roots) (roots ++ j ∷ []) ≡ roots
  dropped j roots = take-after roots (j ∷ []) (length roots) 0 (omega arith) ∙ append-nil roots

  over : (l : Held) (o : Result Dynamic EvalAltResult) (s2 : Run H) (n2 : StepsView) (host2 : H) →
      frame_in f s2 ≡ frame_in f taken →
      SimulatesExactly (setup law p engine) (abstraction s2 n2 host2)
      (λ m place w. heard m place (length w.roots) (outcome_of o)
      (record w { roots = w.roots ++ l ∷ [] })) false (abstraction s2 n2 host2)
      (λ m place w. receiver_over m (destination_in d) next (frame_in f s2 place) l (outcome_of o) w)
  over l o s2 n2 host2 alike = record {
    this = refl;
    order = omega arith;
    equal = λ stop clear halts u place. rw (
      look-new u.roots l,
      dropped l u.roots,
      ap (λ (g : Option Place → Frame). g place) alike,
    ) refl;
  }

  -- a run that a call has left, which is over
  back : (s2 : Run H) (n2 : StepsView) (host2 : H) → MethodOver taken s2 →
      beside taken.scope (this_of taken) s2 n2 host2 ≡ abstraction s2 n2 host2
  back s2 n2 host2 left = rw (left.scope, left.level, left.receivers) refl

  alike : (s2 : Run H) → MethodOver taken s2 → frame_in f s2 ≡ frame_in f taken
  alike s2 left = rw (left.operands, left.cursors, left.totals, left.handlers) refl

  kept_over : (f' : Activation) (s2 s' : Run H) → MethodOver taken s2 → KeepsFrame f s2 f' s' →
      KeepsFrame f s f' s'
  kept_over f' s2 s' left kept = record {
    chunk = kept.chunk;
    base = kept.base;
    scope = kept.scope;
    room = kept.room ∙ left.room;
    noted = kept.noted ∙ left.noted;
    outer = kept.outer ∙ left.outer;
    saved = kept.saved ∙ left.saved;
    level = kept.level ∙ left.level;
    this = rw (left.level, left.receivers) at kept.this;
    later = omega (arith, kept.later, left.later);
  }

  -- The call was done: the operands were taken, the call gave this outcome and left this of the receiver,
  -- and then the call was ended.
  pub call_done : (call : CallOn H) (o : Result Dynamic EvalAltResult) (l : Held) (s2 : Run H)
      (n2 : StepsView) (host2 : H) (f' : Activation) (s' : Run H) (n' : StepsView)
      (res : Result Progress OutOfMemory) → k + 1 < length s.stacks.operands →
      SimulatesExactly (setup law p engine) (abstraction s n host) called false
      (abstraction taken (marked_once n) host) (calling call) →
      CallsOn (setup law p engine) call (receiver_in s k) taken (marked_once n) host o l s2 n2 host2 →
      MethodOver taken s2 → n2.before ≡ n.before →
      ImplementsBound (setup law p engine) (moment f s2 n2 host2)
      (λ m place w. receiver_over m (destination_in d) next (frame_in f s2 place) l (outcome_of o) w)
      (next ∷ []) 0 1 s2.stacks.handlers res (moment f' s' n' host2) →
      StopPersists (is_want o) n2.passed (is_out res) n'.passed →
      CalledOn (setup law p engine) (moment f s n host) d r k next res (moment f' s' n' host2)
  call_done call o l s2 n2 host2 f' s' n' res there begins calls left before ends carries = record {
    same = compose {one = false} (same begins)
        (compose
        (subst (λ (h : LocalState H). Simulates (setup law p engine)
        (abstraction taken (marked_once n) host) (calling call) (is_want o) h
        (λ m place w. heard m place (length w.roots) (outcome_of o)
        (record w { roots = w.roots ++ l ∷ [] }))) (back s2 n2 host2 left)
        (calls taken.scope (this_of taken) heard))
        (compose {one = false} (same (over l o s2 n2 host2 (alike s2 left))) ends.same tt) carries) tt;
    kept = kept_over f' s2 s' left ends.kept;
    lands = lands_whole engine s s2 s' f f f' (next ∷ []) (k + 1 + 1) res left.later refl
        (ap (λ (hs : List Held). length hs) left.operands
        ∙ length-take-le (length s.stacks.operands - (k + 1 + 1)) s.stacks.operands (omega arith))
        left.handlers left.cursors ends.lands;
    before = ends.before ∙ before;
  }

module _ {H : Type 0} (law : Law H) (p : View) (engine : Engine) (f : Activation) (s s1 s2 : Run H)
    (n n1 n2 : StepsView) (host host2 : H) (d : Destination) (r : FnPtr) (k next : ℕ)
    (o : Result Dynamic EvalAltResult) (left : Option Held) (f' : Activation) (s' : Run H)
    (n' : StepsView) (res : Result Progress OutOfMemory) where
  -- the call is ended with what is left of the receiver
  abbrev Ends : Type 0
  Ends =
      (h : Held) (host : H) → left ≡ Some h → ImplementsBound (setup law p engine)
      (moment f s2 n2 host)
      (λ m place w. receiver_over m (destination_in d) next (frame_in f s2 place) h (outcome_of o) w)
      (next ∷ []) 0 1 s2.stacks.handlers res (moment f' s' n' host)

  abbrev Done : Type 0
  Done = CalledOn (setup law p engine) (moment f s n host) d r k next res (moment f' s' n' host2)

  -- The run after the operands were taken.
  abbrev after_taking : Run H
  after_taking = taken law p engine f s n host d r k next

  -- a function was called
  pub function_done : (x : Needed) (c : MethodCall) → k + 1 < length s.stacks.operands →
      TakesCall p s n f.address r k (Ok x) s1 n1 → x ≡ needed.Function c →
      ((g : Function) → slice_get p.functions c.number ≡ Some g →
      CallsMethod (setup law p engine) c g s1 n1 host o left s2 n2 host2) → MethodOver s1 s2 →
      SameFlag c.receiver left → n2.before ≡ n1.before → Ends →
      StopPersists (is_want o) n2.passed (is_out res) n'.passed → Done
  function_done x c there takes is calls over flag before ends carries =
      call_done law p engine f s n host d r k next
      (function_call g c.pos (given_to c.arguments)) o back.0 s2 n2 host2 f' s' n' res there
      (begins_function law p engine f s n host d r k next c g needs.0 needs.0.0.is)
      (calls_on_new (setup law p engine) c g after_taking s2 (marked_once n) n2 host host2 o left
      (receiver_in s k) back.0
      (subst (λ (q : Run H). CallsMethod (setup law p engine) c g q (marked_once n) host o left s2 n2
      host2) needs.1
      (subst (λ (q : StepsView). CallsMethod (setup law p engine) c g s1 q host o left s2 n2 host2)
      needs.2 (calls g needs.0.0.is))) needs.0.3 back.1 back.2)
      (subst (λ (q : Run H). MethodOver q s2) needs.1 over)
      (before ∙ ap (λ (q : StepsView). q.before) needs.2) (ends back.0 host2 back.1) carries where
        needs : TakesCall p s n f.address r k (Ok (needed.Function c)) s1 n1
        needs = subst (λ (y : Needed). TakesCall p s n f.address r k (Ok y) s1 n1) is takes

        g : Function
        g = needs.0.0.function

        back : (l : Held) × (left ≡ Some l) × (l.read_only ≡ (receiver_in s k).read_only)
        back = receiver_back (receiver_in s k) left
            (subst (λ (y : Option Held). SameFlag y left) needs.0.3 flag)

  -- a native was called
  pub native_done : (x : Needed) (q : Request) → k + 1 < length s.stacks.operands →
      TakesCall p s n f.address r k (Ok x) s1 n1 → x ≡ needed.Native q →
      NativeCalled (setup law p engine) q s1 n1 host o left s2 n2 host2 →
      MethodOver s1 s2 → SameFlag q.receiver left → n2.before ≡ n1.before → Ends →
      StopPersists (is_want o) n2.passed (is_out res) n'.passed → Done
  native_done x q there takes is calls over flag before ends carries =
      call_done law p engine f s n host d r k next
      (native_call (frame_in f after_taking) (name_in q.what) (given_to q.arguments)) o back.0 s2 n2
      host2 f' s' n' res there (begins_native law p engine f s n host d r k next q needs.0)
      (subst (λ (y : Run H). CallsOn (setup law p engine)
      (native_call (frame_in f after_taking) (name_in q.what) (given_to q.arguments)) (receiver_in s k) y
      (marked_once n) host o back.0 s2 n2 host2) needs.1
      (subst (λ (y : StepsView). CallsOn (setup law p engine)
      (native_call (frame_in f after_taking) (name_in q.what) (given_to q.arguments)) (receiver_in s k)
      s1 y host o back.0 s2 n2 host2) needs.2
      (calls (receiver_in s k) back.0 (frame_in f after_taking) needs.0.3 back.1
      (λ place. sym needs.0.2))))
      (subst (λ (y : Run H). MethodOver y s2) needs.1 over)
      (before ∙ ap (λ (y : StepsView). y.before) needs.2) (ends back.0 host2 back.1) carries where
        needs : TakesCall p s n f.address r k (Ok (needed.Native q)) s1 n1
        needs = subst (λ (y : Needed). TakesCall p s n f.address r k (Ok y) s1 n1) is takes

        back : (l : Held) × (left ≡ Some l) × (l.read_only ≡ (receiver_in s k).read_only)
        back = receiver_back (receiver_in s k) left
            (subst (λ (y : Option Held). SameFlag y left) needs.0.3 flag)
