-- An instruction that may have a receiver: what it calls, and what it comes to if it calls nothing, or what
-- is its target.
use Rattle.std.proofs.Common.{◌≡◌, ◌∙◌, ◌<◌, ◌≤◌, ◌+◌, ◌-◌, ℕ, zero, suc, List, [], ◌∷◌, Option, Some, None, Result, Ok, Err, length, refl, sym, ap, subst, arith}
use Rattle.grain_value.specs.Cells.{flat}
use Rattle.grain_value.specs.Looking.{pointer_of}
use Rattle.grain_value.specs.Operands.{arguments, values_in}
use Rattle.grain_value.specs.declared.memory.OutOfMemory.{OutOfMemory}
use Rattle.grain_value.specs.declared.values.Dynamic.{Dynamic}
use Rattle.grain_value.specs.declared.values.Dynamic.TheVariants as dynamic
use Rattle.grain_value.specs.declared.values.FnPtr.{FnPtr}
use Rattle.grain_host.specs.Law.{Law}
use Rattle.grain_program.specs.View.{View}
use Rattle.grain_program.specs.declared.code.instruction_set.Op.{Op}
use Rattle.grain_program.specs.declared.code.instruction_set.Op.TheVariants as op
use Rattle.grain_global.specs.StepsView.{StepsView}
use Rattle.grain_global.specs.declared.engines.Engine.{Engine}
use Rattle.grain_means.specs.Worlds.{Act, Frame, Place, Setup, World}
use Rattle.grain_means.specs.Means.{setup}
use Rattle.grain_means.specs.Rules.{enter_function, first_called, flat_or_race, instr, method_call, operand_under, pointer_called, raised, receiver_called, target_called, without}
use Rattle.grain_means.specs.Rules as rules
use Rattle.grain_means.specs.Simulation.{Computation, Environment, Simulates, stopped, world}
use Rattle.grain_means.specs.lemmas.Stretches.{compose, exactly, same}
use Rattle.grain_program.specs.Effects.{gives_of, leads_of, takes_of}
use Rattle.grain_program.specs.declared.code.functions.Function.{Function}
use Rattle.grain_stack.specs.Views.{StacksView}
use Rattle.grain_stack.specs.declared.handlers.Handler.{Handler}
use Rattle.std.specs.Prelude.{slice_get}
use Rattle.grain_frame.specs.lemmas.Arms.{lands_on}
use Rattle.grain_vm.proofs.Found.{kept_before}
use Rattle.grain_frame.specs.Abstraction.{ContinuesAt, ImplementsBound, KeepsFrame, Moment, PerformsBound, abstraction, continuation, frame_in, is_out, moment}
use Rattle.grain_frame.specs.declared.activations.Activation.{Activation}
use Rattle.grain_frame.specs.declared.runs.Progress.{Progress}
use Rattle.grain_frame.specs.declared.runs.Progress.TheVariants as progress
use Rattle.grain_frame.specs.declared.runs.Run.{Run}
use Rattle.grain_frame.specs.lemmas.Bound.{as_bound, bound_as}
use Rattle.grain_frame.specs.lemmas.Failing.{raises_here, wants_memory}
use Rattle.grain_vm.specs.Finding.{Finds, FindsFunction, found_of, op_on}
use Rattle.grain_vm.specs.Receivers.{ByFirst, ByTarget, Called, CalledOn, FindsCallee, Refuses, called, destination_in, first_in, first_pointer, target_in, target_pointer}
use Rattle.grain_vm.specs.declared.finding.Found.{Found}
use Rattle.grain_vm.specs.declared.finding.Found.TheVariants as found
use Rattle.grain_vm.specs.declared.receivers.Callee.{Callee}
use Rattle.grain_vm.specs.declared.receivers.Callee.TheVariants as callee
use Rattle.grain_vm.specs.declared.receivers.Destination.{Destination}
use Rattle.grain_vm.specs.declared.receivers.Destination.TheVariants as destination

-- ---- what is called

-- what follows from what is called
abbrev pub comes_to : {S : Type 0} → rules.Destination → ℕ → ℕ → Setup S → Frame → World S → Called → Act S
comes_to d next n m f w (ByTarget r) = pointer_called m (Some r) dynamic.Unit n next f w
comes_to d next n m f w (ByFirst r k) =
    receiver_called m d r (values_in (arguments k f.operands)) (operand_under (k + 1) f.operands) next
    (without (k + 1 + 1) f) w
comes_to d next n m f w (Refuses x) = raised m f x w

module _ {S : Type 0} (m : Setup S) (d : rules.Destination) (next count : ℕ) (f : Frame)
    (w : World S) (none : f.position ≡ None) where
  by_first_pointer : (k : ℕ) (v : Dynamic) (q : Option FnPtr) →
      first_called m d q v k next f w
      ≡ comes_to d next count m f w (first_pointer m.program f.address k v q)
  by_first_pointer k v None = rw none refl
  by_first_pointer k v (Some r) = refl

  by_first : (k : ℕ) (o : Option Dynamic) →
      flat_or_race m o [] f w (λ v. first_called m d (pointer_of v) v k next f w)
      ≡ comes_to d next count m f w (first_in m.program f.address k o)
  by_first k None = rw none refl
  by_first k (Some v) = by_first_pointer k v (pointer_of v)

  by_pointer : (n : ℕ) (v : Dynamic) (q : Option FnPtr) → n ≡ count →
      target_called m d q v n next f w
      ≡ comes_to d next count m f w (target_pointer m.program w.cells f.operands f.address n v q)
  by_pointer n v (Some r) is = rw is refl
  by_pointer zero v None is = rw none refl
  by_pointer (suc k) v None is = by_first k (flat w.cells (operand_under k f.operands).value)

  by_target : (o : Option Dynamic) →
      flat_or_race m o [] f w (λ v. target_called m d (pointer_of v) v count next f w)
      ≡ comes_to d next count m f w (target_in m.program w.cells f.operands f.address count o)
  by_target None = rw none refl
  by_target (Some v) = by_pointer count v (pointer_of v) refl

  pub call_comes : method_call m d count next f w
      ≡ comes_to d next count m f w (called m.program w.cells f.operands f.address count)
  call_comes = by_target (flat w.cells (operand_under count f.operands).value)

-- the instruction is a call that may have a receiver
is_call : {S : Type 0} (m : Setup S) (d : Destination) (n next : ℕ) (f : Frame) (w : World S) →
    instr m (op_on d n) next f w ≡ method_call m (destination_in d) n next f w
is_call m destination.Nowhere n next f w = refl
is_call m (destination.Slot slot) n next f w = refl
is_call m destination.This n next f w = refl

-- ---- in a frame

module _ {H : Type 0} (law : Law H) (p : View) (engine : Engine) (f : Activation) (s : Run H)
    (n : StepsView) (host : H) (d : Destination) (count next : ℕ) where
  abbrev here : Called
  here = called p s.cells s.stacks.operands f.address count

  comes : (x : Called) → here ≡ x → (stop : Option ℕ) (u : Environment) (place : Option Place) →
      instr (stopped (setup law p engine) stop) (op_on d count) next (frame_in f s place)
      (world (abstraction s n host) u)
      ≡ comes_to (destination_in d) next count (stopped (setup law p engine) stop) (frame_in f s place)
      (world (abstraction s n host) u) x
  comes x is stop u place =
      is_call (stopped (setup law p engine) stop) d count next (frame_in f s place)
      (world (abstraction s n host) u)
      ∙ call_comes (stopped (setup law p engine) stop) (destination_in d) next count (frame_in f s place)
      (world (abstraction s n host) u) refl
      ∙ ap (comes_to (destination_in d) next count (stopped (setup law p engine) stop)
      (frame_in f s place) (world (abstraction s n host) u)) is

  -- ---- nothing is called

  -- a fault is raised
  pub callee_refused : (x : Called) → here ≡ x → (c : Callee) → c ≡ callee.Refused → (s' : Run H)
      (n' : StepsView) → f.base ≤ length s.scope → FindsCallee s n x (Ok c) s' n' →
      PerformsBound (setup law p engine) (moment f s n host) (op_on d count) next (Ok progress.Failed)
      (moment f s' n' host)
  callee_refused (ByTarget r) is c eq s' n' inside did =
      absurd (subst (λ (k : Callee). FindsCallee s n (ByTarget r) (Ok k) s' n') eq did)
  callee_refused (ByFirst r k) is c eq s' n' inside did =
      absurd (subst (λ (q : Callee). FindsCallee s n (ByFirst r k) (Ok q) s' n') eq did)
  callee_refused (Refuses x) is c eq s' n' inside did =
      as_bound (raises_here law p engine f s s' n n' host x (Ok progress.Failed)
      (subst (λ (k : Callee). FindsCallee s n (Refuses x) (Ok k) s' n') eq did) inside
      (λ stop u place. comes (Refuses x) is stop u place))

  -- memory is out
  pub callee_out : (x : Called) → here ≡ x → (e : OutOfMemory) (s' : Run H) (n' : StepsView) →
      f.base ≤ length s.scope → FindsCallee s n x (Err e) s' n' →
      PerformsBound (setup law p engine) (moment f s n host) (op_on d count) next (Err e)
      (moment f s' n' host)
  callee_out (ByTarget r) is e s' n' inside did = absurd did
  callee_out (ByFirst r k) is e s' n' inside did =
      rw (did.0, did.1) (as_bound (wants_memory law p engine f s n host (Err e) refl inside
      (λ stop u place halts. comes (ByFirst r k) is stop u place ∙ rw halts refl)))
  callee_out (Refuses x) is e s' n' inside did =
      as_bound (raises_here law p engine f s s' n n' host x (Err e) did inside
      (λ stop u place. comes (Refuses x) is stop u place))

  -- ---- the target is called

  -- it is read as a pointer
  abbrev Points : Type 0
  Points = (v : Dynamic) × (r : FnPtr)
      × (flat s.cells (operand_under count s.stacks.operands).value ≡ Some v) × (pointer_of v ≡ Some r)

  no_first : (k : ℕ) (o : Option Dynamic) (r : FnPtr) →
      first_in p f.address k o ≡ ByTarget r → (A : Type 0) → A
  no_first k None r e A = absurd cc
  no_first k (Some v) r e A = by (pointer_of v) e where
    by : (q : Option FnPtr) → first_pointer p f.address k v q ≡ ByTarget r → A
    by None e = absurd cc
    by (Some g) e = absurd cc

  points_by : (j : ℕ) (v : Dynamic) (q : Option FnPtr) (r : FnPtr) →
      target_pointer p s.cells s.stacks.operands f.address j v q ≡ ByTarget r →
      (g : FnPtr) × (q ≡ Some g)
  points_by j v (Some g) r e = (g, refl)
  points_by zero v None r e = absurd cc
  points_by (suc k) v None r e =
      no_first k (flat s.cells (operand_under k s.stacks.operands).value) r e
      ((g : FnPtr) × (None ≡ Some g))

  points_read : (o : Option Dynamic) (r : FnPtr) →
      target_in p s.cells s.stacks.operands f.address count o ≡ ByTarget r →
      (v : Dynamic) × (g : FnPtr) × (o ≡ Some v) × (pointer_of v ≡ Some g)
  points_read None r e = absurd cc
  points_read (Some v) r e =
      let by = points_by count v (pointer_of v) r e in (v, by.0, refl, by.1)

  pub target_found : (x : Called) → here ≡ x → (c : Callee) → c ≡ callee.Target → (s' : Run H)
      (n' : StepsView) → FindsCallee s n x (Ok c) s' n' → Points × (s' ≡ s) × (n' ≡ n)
  target_found (ByTarget r) is c eq s' n' did =
      let same = subst (λ (k : Callee). FindsCallee s n (ByTarget r) (Ok k) s' n') eq did in (
        points_read (flat s.cells (operand_under count s.stacks.operands).value) r is,
        same.0,
        same.1,
      )
  target_found (ByFirst r k) is c eq s' n' did =
      absurd (subst (λ (q : Callee). FindsCallee s n (ByFirst r k) (Ok q) s' n') eq did)
  target_found (Refuses x) is c eq s' n' did =
      absurd (subst (λ (q : Callee). FindsCallee s n (Refuses x) (Ok q) s' n') eq did)

  -- then the instruction is `call_fn_ptr`
  is_pointer_call : Points → (stop : Option ℕ) (u : Environment) (place : Option Place) →
      instr (stopped (setup law p engine) stop) (op_on d count) next (frame_in f s place)
      (world (abstraction s n host) u)
      ≡ instr (stopped (setup law p engine) stop) (op.CallFnPtr count) next (frame_in f s place)
      (world (abstraction s n host) u)
  is_pointer_call at stop u place =
      is_call (stopped (setup law p engine) stop) d count next (frame_in f s place)
      (world (abstraction s n host) u)
      ∙ rw (at.2, at.3) refl

-- what an instruction with a receiver takes and gives, and where it leads
as_op : {H : Type 0} {m : Setup H} {a b : Moment H} {rule : Computation H} {hs : List Handler}
    {r : Result Progress OutOfMemory} (d : Destination) (count next : ℕ) →
    ImplementsBound m a rule (next ∷ []) (count + 1) 1 hs r b →
    ImplementsBound m a rule (leads_of m.program (op_on d count) next) (takes_of m.program (op_on d count))
    (gives_of (op_on d count)) hs r b
as_op destination.Nowhere count next did = did
as_op (destination.Slot slot) count next did = did
as_op destination.This count next did = did

taken_as : (p : View) (d : Destination) (count : ℕ) → takes_of p (op_on d count) ≡ count + 1
taken_as p destination.Nowhere count = refl
taken_as p (destination.Slot slot) count = refl
taken_as p destination.This count = refl

module _ {H : Type 0} (law : Law H) (p : View) (engine : Engine) (f f' : Activation) (s s' : Run H)
    (n n' : StepsView) (host host' : H) (d : Destination) (count next : ℕ) where
  -- what is found of `call_fn_ptr` is found of an instruction whose target is a pointer
  pub pointed_on : Points law p engine f s n host d count next → (r : Result Found OutOfMemory) →
      Finds (setup law p engine) (moment f s n host) (op.CallFnPtr count) next r (moment f' s' n' host') →
      Finds (setup law p engine) (moment f s n host) (op_on d count) next r (moment f' s' n' host')
  pointed_on at (Ok (found.Done q)) did =
      as_op d count next (bound_as did
      (λ stop u place bound. is_pointer_call law p engine f s n host d count next at stop u place))
  pointed_on at (Ok (found.Function number to)) did = (
    did.0,
    record {
      exists = did.1.exists;
      goes = λ g is. exactly refl
          (λ stop u place. is_pointer_call law p engine f s n host d count next at stop u place)
          (did.1.goes g is);
      operands = λ g is. rw (taken_as p d count) (did.1.operands g is);
      frame = did.1.frame;
      others = did.1.others;
      before = did.1.before;
    },
  )
  pointed_on at (Err e) did =
      as_op d count next (bound_as did
      (λ stop u place bound. is_pointer_call law p engine f s n host d count next at stop u place))

-- ---- the first argument is called

module _ {H : Type 0} (law : Law H) (p : View) (engine : Engine) (f : Activation) (s : Run H)
    (n : StepsView) (host : H) (d : Destination) (count next : ℕ) where
  -- it has one argument less after it
  counted_first : (j k : ℕ) (o : Option Dynamic) (r : FnPtr) →
      first_in p f.address j o ≡ ByFirst r k → k ≡ j
  counted_first j k None r e = absurd cc
  counted_first j k (Some v) r e = by (pointer_of v) e where
    number_of : Called → ℕ
    number_of (ByTarget g) = j
    number_of (ByFirst g i) = i
    number_of (Refuses x) = j

    by : (q : Option FnPtr) → first_pointer p f.address j v q ≡ ByFirst r k → k ≡ j
    by None e = absurd cc
    by (Some g) e = sym (ap number_of e)

  counted_by : (i k : ℕ) (v : Dynamic) (q : Option FnPtr) (r : FnPtr) →
      target_pointer p s.cells s.stacks.operands f.address i v q ≡ ByFirst r k → i ≡ k + 1
  counted_by i k v (Some g) r e = absurd cc
  counted_by zero k v None r e = absurd cc
  counted_by (suc j) k v None r e =
      omega (arith, counted_first j k (flat s.cells (operand_under j s.stacks.operands).value) r e)

  counted_read : (k : ℕ) (o : Option Dynamic) (r : FnPtr) →
      target_in p s.cells s.stacks.operands f.address count o ≡ ByFirst r k → count ≡ k + 1
  counted_read k None r e = absurd cc
  counted_read k (Some v) r e = counted_by count k v (pointer_of v) r e

  -- what was found of the first argument
  pub first_found : (x : Called) → here law p engine f s n host d count next ≡ x → (c : Callee)
      (g : FnPtr) → c ≡ callee.First g → (s' : Run H) (n' : StepsView) →
      FindsCallee s n x (Ok c) s' n' →
      (k : ℕ) × (here law p engine f s n host d count next ≡ ByFirst g k) × (count ≡ k + 1)
      × (s' ≡ s) × (n' ≡ n)
  first_found (ByTarget r) is c g eq s' n' did =
      absurd (subst (λ (k : Callee). FindsCallee s n (ByTarget r) (Ok k) s' n') eq did)
  first_found (ByFirst r k) is c g eq s' n' did =
      let same = subst (λ (q : Callee). FindsCallee s n (ByFirst r k) (Ok q) s' n') eq did in (
        k,
        is ∙ ap (λ (h : FnPtr). ByFirst h k) (sym same.0),
        counted_read k (flat s.cells (operand_under count s.stacks.operands).value) r is,
        same.1,
        same.2,
      )
  first_found (Refuses x) is c g eq s' n' did =
      absurd (subst (λ (q : Callee). FindsCallee s n (Refuses x) (Ok q) s' n') eq did)

  -- the call was done, and with it the instruction
  pub first_on : (g : FnPtr) (k : ℕ) (f' : Activation) (s' : Run H) (n' : StepsView) (host' : H)
      (r : Result Progress OutOfMemory) → here law p engine f s n host d count next ≡ ByFirst g k →
      count ≡ k + 1 →
      CalledOn (setup law p engine) (moment f s n host) d g k next r (moment f' s' n' host') →
      PerformsBound (setup law p engine) (moment f s n host) (op_on d count) next r
      (moment f' s' n' host')
  first_on g k f' s' n' host' r is counts did =
      as_op d count next
      (subst (λ (t : ℕ). ImplementsBound (setup law p engine) (moment f s n host)
      (λ m place w. instr m (op_on d count) next (frame_in f s place) w) (next ∷ []) (t + 1) 1
      s.stacks.handlers r (moment f' s' n' host')) (sym counts)
      (bound_as did (λ stop u place bound.
      comes law p engine f s n host d count next (ByFirst g k) is stop u place)))

-- what was done without a function is what the instruction with a receiver comes to
pub finds_on_of : {H : Type 0} {m : Setup H} {a b : Moment H} (o : Op) (next : ℕ)
    (r : Result Progress OutOfMemory) → PerformsBound m a o next r b →
    Finds m a o next (found_of r) b
finds_on_of o next (Ok q) did = did
finds_on_of o next (Err e) did = did

-- what is left of the arguments after the first one
pub one_less : {count k : ℕ} → count ≡ k + 1 → count - 1 ≡ k
one_less {count} {k} is = omega (arith, is)

-- the receiver and the pointer are operands
pub two_there : (count length : ℕ) → 0 < count → count + 1 ≤ length → count - 1 + 1 < length
two_there count length some there = omega (arith, some, there)

-- ---- a function without a receiver is called

-- what was found is this function
pub on_function : {H : Type 0} (m : Setup H) (a b : Moment H) (o : Op) (next : ℕ) (x : Found)
    (number to : ℕ) → x ≡ found.Function number to → Finds m a o next (Ok x) b →
    (to ≡ next) × FindsFunction m a o next number b
on_function m a b o next x number to is did =
    subst (λ (y : Found). Finds m a o next (Ok y) b) is did

-- it was called, and the instruction is done
pub function_performed : {H : Type 0} (law : Law H) (p : View) (engine : Engine)
    (f f1 f2 : Activation) (s s1 s2 : Run H) (n n1 n2 : StepsView) (host host1 host2 : H)
    (d : Destination) (count next number : ℕ) (g : Function) {r : Result Progress OutOfMemory} →
    FindsFunction (setup law p engine) (moment f s n host) (op_on d count) next number
    (moment f1 s1 n1 host1) → slice_get p.functions number ≡ Some g →
    Simulates (setup law p engine) (abstraction s1 n1 host1)
    (λ m place w. enter_function m g (length g.params) (frame_in f1 s1 place) next w) (is_out r)
    (abstraction s2 n2 host2) (continuation r s2.fault (frame_in f2 s2)) → KeepsFrame f1 s1 f2 s2 →
    ContinuesAt engine s1 f1 s2 f2 (next ∷ []) (length g.params) 1 s1.stacks.handlers r →
    n2.before ≡ n1.before →
    PerformsBound (setup law p engine) (moment f s n host) (op_on d count) next r
    (moment f2 s2 n2 host2)
function_performed {H = H} law p engine f f1 f2 s s1 s2 n n1 n2 host host1 host2 d count next number g
    {r} finds is goes kept lands before = as_op d count next (record {
      same = compose (same (finds.goes g is)) goes tt;
      kept = kept_before f f2 s s1 s2 finds.others
          (subst (λ (a : Activation). KeepsFrame a s1 f2 s2) finds.frame kept);
      lands = lands_on engine s s2 stacks f f2 (next ∷ []) (next ∷ []) (length g.params) 1 (count + 1) 1
          stacks.handlers r refl (omega (arith, longer)) (omega (arith, longer)) refl (λ b inside. inside)
          from;
      before = before ∙ finds.before;
    }) where
      stacks : StacksView
      stacks = record s.stacks { operands = s1.stacks.operands }

      longer : length s1.stacks.operands ≡ length s.stacks.operands - (count + 1) + length g.params
      longer = rw (← taken_as p d count) (finds.operands g is)

      from : ContinuesAt engine (record s { stacks = stacks }) f s2 f2 (next ∷ [])
          (length g.params) 1 stacks.handlers r
      from =
          subst (λ (a : Activation). ContinuesAt engine (record s { stacks = stacks }) a s2 f2
          (next ∷ []) (length g.params) 1 stacks.handlers r) finds.frame
          (subst (λ (q : Run H). ContinuesAt engine q f1 s2 f2 (next ∷ []) (length g.params) 1
          q.stacks.handlers r) finds.others lands)
