-- A function that is found, and what follows its call.
use Rattle.std.proofs.Common.{◌≡◌, ◌<◌, ◌≤◌, ◌+◌, ◌-◌, ◌∙◌, ℕ, zero, suc, List, [], ◌∷◌, ◌++◌, Option, Some, None, Result, Ok, Err, false, length, map, refl, sym, subst, ap, arith, length-append}
use Rattle.std.proofs.lemmas.List.{length-drop, length-map, length-take}
use Rattle.std.specs.Prelude.{slice_get}
use Rattle.grain_value.specs.View.{trees, value_of}
use Rattle.grain_value.specs.laws.Same.{value_of-tree}
use Rattle.grain_value.specs.Cells.{flat}
use Rattle.grain_value.specs.Looking.{pointer_of}
use Rattle.grain_value.specs.Operands.{arguments, under, read_write}
use Rattle.grain_value.specs.declared.memory.OutOfMemory.{OutOfMemory}
use Rattle.grain_value.specs.declared.values.Dynamic.{Dynamic}
use Rattle.grain_value.specs.declared.values.FnPtr.{FnPtr}
use Rattle.grain_value.specs.declared.values.Held.{Held}
use Rattle.grain_program.specs.View.{View}
use Rattle.grain_program.specs.Effects.{takes_of, gives_of, leads_of}
use Rattle.grain_program.specs.Lookups.{Called, function_by_text, function_of, CalledByText}
use Rattle.grain_program.specs.Typing.{In}
use Rattle.grain_program.specs.declared.code.functions.Function.{Function}
use Rattle.grain_program.specs.declared.code.instruction_set.Op.{Op}
use Rattle.grain_program.specs.declared.code.instruction_set.Op.TheVariants as op
use Rattle.grain_stack.specs.Views.{StacksView}
use Rattle.grain_host.specs.Law.{Law}
use Rattle.grain_global.specs.declared.engines.Engine.{Engine}
use Rattle.grain_means.specs.Worlds.{Setup, Frame, World}
use Rattle.grain_means.specs.Rules.{function_found, function_numbered, function_by_name, curried_in, operand_under, instr, enter_function, call_function, call_pointer, not_a_pointer}
use Rattle.grain_means.specs.Simulation.{Simulates, SimulatesExactly}
use Rattle.grain_means.specs.Means.{setup}
use Rattle.grain_means.specs.lemmas.Stretches.{same, compose}
use Rattle.grain_global.specs.StepsView.{StepsView}
use Rattle.grain_frame.specs.Abstraction.{ContinuesAt, ImplementsBound, KeepsFrame, Moment, PerformsBound, Runs, StandsAt, Stepped, abstraction, continuation, frame_in, is_out, moment}
use Rattle.grain_vm.specs.Finding.{Finds, FindsFunction, FindsHere, IsCall, found_of}
use Rattle.grain_frame.specs.declared.activations.Activation.{Activation}
use Rattle.grain_vm.specs.declared.finding.Found.{Found}
use Rattle.grain_vm.specs.declared.finding.Found.TheVariants as found
use Rattle.grain_frame.specs.declared.runs.Progress.{Progress}
use Rattle.grain_frame.specs.declared.runs.Run.{Run}
use Rattle.grain_frame.specs.lemmas.Arms.{done, lands_on, taken_back}
use Rattle.grain_frame.specs.lemmas.Bound.{arm_bound}
use Rattle.grain_frame.specs.Receivers.{KeepsBound}

-- a function that is there has a number among them
within : (fs : List Function) (i : ℕ) (g : Function) → slice_get fs i ≡ Some g → i < length fs
within [] i g e = absurd cc
within (x ∷ fs) zero g e = omega arith
within (x ∷ fs) (suc i) g e = omega (arith, within fs i g e)

-- what is there at one place is one
pub one_there : (fs : List Function) (i : ℕ) (g h : Function) → slice_get fs i ≡ Some g →
    slice_get fs i ≡ Some h → g ≡ h
one_there fs i g h a b =
    let both : Some g ≡ Some h = sym a ∙ b in cc

-- the function that the code found is the meaning's
is_numbered : (p : View) (o : Option ℕ) (number : ℕ) (g : Function) → Some number ≡ o →
    slice_get p.functions number ≡ Some g → function_numbered p o ≡ Some g
is_numbered p o number g e is = ap (function_numbered p) (sym e) ∙ is

pub none_numbered : (p : View) (o : Option ℕ) → None ≡ o → function_numbered p o ≡ None
none_numbered p o e = ap (function_numbered p) (sym e)

-- values that are given as operands
curried_is : (ds : List Dynamic) → map read_write ds ≡ map (λ t. read_write (value_of t)) (trees ds)
curried_is [] = refl
curried_is (d ∷ ds) = rw (value_of-tree d, curried_is ds) refl

-- what is kept from a run on that differs in its operands alone
pub kept_before : {H : Type 0} (f f2 : Activation) (s s1 s2 : Run H) →
    s1 ≡ record s { stacks = record s.stacks { operands = s1.stacks.operands } } →
    KeepsFrame f s1 f2 s2 → KeepsFrame f s f2 s2
kept_before {H = H} f f2 s s1 s2 others kept = record {
  chunk = kept.chunk;
  base = kept.base;
  scope = kept.scope;
  room = kept.room ∙ ap (λ (q : Run H). q.stacks.room) others;
  noted = kept.noted ∙ ap (λ (q : Run H). q.stacks.noted) others;
  outer = kept.outer ∙ ap (λ (q : Run H). q.stacks.outer) others;
  saved = kept.saved ∙ ap (λ (q : Run H). q.saved) others;
  level = kept.level ∙ ap (λ (q : Run H). q.level) others;
  this = subst (λ (q : Run H). KeepsBound q.level q.receivers s2.receivers) others kept.this;
  later = omega (arith, kept.later, ap (λ (q : Run H). q.count) others);
}

-- the function of a name was found
pub named_found : {H : Type 0} (law : Law H) (p : View) (engine : Engine) (f : Activation) (s : Run H)
    (n : StepsView) (name count next number : ℕ) (host : H) → Some number ≡ function_of p name count →
    Called p name count number → count ≤ length s.stacks.operands →
    FindsFunction (setup law p engine) (moment f s n host) (op.Call name count) next number
    (moment f s n host)
named_found law p engine f s n name count next number host e called enough = record {
  exists = within p.functions number called.function called.is;
  goes = λ g is. record {
    this = refl;
    order = omega arith;
    equal = λ stop clear halts u place. rw (is_found g is, sym (all g is)) refl;
  };
  operands = λ g is. omega (arith, all g is, enough);
  frame = refl;
  others = refl;
  before = refl;
} where
  is_found : (g : Function) → slice_get p.functions number ≡ Some g →
      function_found p name count ≡ Some g
  is_found g is = is_numbered p (function_of p name count) number g e is

  all : (g : Function) → slice_get p.functions number ≡ Some g → length g.params ≡ count
  all g is =
      ap (λ (k : Function). length k.params)
      (one_there p.functions number g called.function is called.is)
      ∙ called.count_is

-- the run in which a pointer's values stand in its place
module _ {H : Type 0} (law : Law H) (p : View) (engine : Engine) (f : Activation) (s s1 : Run H)
    (n : StepsView) (count next : ℕ) (host : H) (v : Dynamic) (q : FnPtr) (values : List Dynamic)
    (read : flat s.cells (operand_under count s.stacks.operands).value ≡ Some v)
    (points : pointer_of v ≡ Some q) (given : trees values ≡ q.curry)
    (there : count < length s.stacks.operands)
    (spreads : s1.stacks.operands ≡ under (count + 1) s.stacks.operands
    ++ map read_write values ++ arguments count s.stacks.operands)
    (others : s1 ≡ record s { stacks = record s.stacks { operands = s1.stacks.operands } }) where
  abbrev total : ℕ
  total = length q.curry + count

  as_curried : s1.stacks.operands ≡ under (count + 1) s.stacks.operands
      ++ curried_in q ++ arguments count s.stacks.operands
  as_curried = rw (sym given, sym (curried_is values)) spreads

  -- as many operands more as the pointer has values, in its place
  height : length s1.stacks.operands ≡ length s.stacks.operands - (count + 1) + total
  height = omega (
    arith,
    ap (λ (hs : List Held). length hs) as_curried,
    length-append (under (count + 1) s.stacks.operands ++ curried_in q)
        (arguments count s.stacks.operands),
    length-append (under (count + 1) s.stacks.operands) (curried_in q),
    length-map q.curry (λ t. read_write (value_of t)),
    length-take (length s.stacks.operands - (count + 1)) s.stacks.operands,
    length-drop (length s.stacks.operands - count) s.stacks.operands,
    there,
  )

  -- the run, by its operands
  abbrev spread_run : Run H
  spread_run = record s {
    stacks = record s.stacks {
      operands = under (count + 1) s.stacks.operands ++ curried_in q
          ++ arguments count s.stacks.operands;
    };
  }

  is_spread : s1 ≡ spread_run
  is_spread = others
      ∙ ap (λ (hs : List Held). record s { stacks = record s.stacks { operands = hs } }) as_curried

  abbrev ComesTo : Run H → Type 0
  ComesTo r = SimulatesExactly (setup law p engine) (abstraction s n host)
      (λ m place w. instr m (op.CallFnPtr count) next (frame_in f s place) w) false
      (abstraction r n host)
      (λ m place w. call_function m (function_by_name m.program q.name total) q.name total
      (frame_in f r place) next w)

  comes_there : ComesTo spread_run
  comes_there = record {
    this = refl;
    order = omega arith;
    equal = λ stop clear halts u place. rw (read, points) refl;
  }

  -- the instruction comes to a call on the operands that there are now
  pub comes : ComesTo s1
  comes = subst ComesTo (sym is_spread) comes_there

  -- the function of the pointer's name was found
  pub pointed_found : (number : ℕ) → Some number ≡ function_by_text p q.name total →
      CalledByText p q.name total number →
      FindsFunction (setup law p engine) (moment f s n host) (op.CallFnPtr count) next number
      (moment f s1 n host)
  pointed_found number e called = record {
    exists = within p.functions number called.function called.is;
    goes = λ g is. record {
      this = comes.this;
      order = comes.order;
      equal = λ stop clear halts u place.
          comes.equal stop clear halts u place ∙ rw (is_found g is, sym (all g is)) refl;
    };
    operands = λ g is. omega (arith, all g is, height);
    frame = refl;
    others = others;
    before = refl;
  } where
    is_found : (g : Function) → slice_get p.functions number ≡ Some g →
        function_by_name p q.name total ≡ Some g
    is_found g is = is_numbered p (function_by_text p q.name total) number g e is

    all : (g : Function) → slice_get p.functions number ≡ Some g → length g.params ≡ total
    all g is =
        ap (λ (k : Function). length k.params)
        (one_there p.functions number g called.function is called.is)
        ∙ called.count_is

  -- the instruction was done by what was done from there on
  pub pointed_done : (f2 : Activation) (s2 : Run H) (n2 : StepsView) (host2 : H)
      {r : Result Progress OutOfMemory} → function_by_name p q.name total ≡ None →
      ImplementsBound (setup law p engine) (moment f s1 n host)
      (λ m place w. call_function m None q.name total (frame_in f s1 place) next w)
      (next ∷ []) total 1 s1.stacks.handlers r (moment f2 s2 n2 host2) →
      PerformsBound (setup law p engine) (moment f s n host) (op.CallFnPtr count) next r
      (moment f2 s2 n2 host2)
  pointed_done f2 s2 n2 host2 {r} none did = record {
    same = compose {one = false}
        (same (record {
          this = comes.this;
          order = comes.order;
          equal = λ stop clear halts u place. comes.equal stop clear halts u place ∙ rw none refl;
        })) did.same tt;
    kept = kept_before f f2 s s1 s2 others did.kept;
    lands = lands_on engine s s2 (record s.stacks { operands = s1.stacks.operands }) f f2
        (next ∷ []) (next ∷ []) total 1 (count + 1) 1 s.stacks.handlers r
        refl (omega (arith, height)) (omega (arith, height)) refl (λ b inside. inside)
        (subst (λ (k : Run H). ContinuesAt engine k f s2 f2 (next ∷ []) total 1 k.stacks.handlers r)
        others did.lands);
    before = did.before;
  }

-- what stands under the operands is no pointer
pub call_refused : {S : Type 0} (m : Setup S) (count next : ℕ) (f : Frame) (w : World S)
    (v : Dynamic) → flat w.cells (operand_under count f.operands).value ≡ Some v →
    pointer_of v ≡ None → call_pointer m count next f w ≡ not_a_pointer m v f w
call_refused m count next f w v read none = rw (read, none) refl

-- what was done without a function is what the instruction comes to
pub finds_of : {H : Type 0} (law : Law H) (p : View) (engine : Engine) (f f' : Activation)
    (s s' : Run H) (n n' : StepsView) (o : Op) (next : ℕ) (host host' : H)
    (r : Result Progress OutOfMemory) →
    PerformsBound (setup law p engine) (moment f s n host) o next r (moment f' s' n' host') →
    Finds (setup law p engine) (moment f s n host) o next (found_of r) (moment f' s' n' host')
finds_of law p engine f f' s s' n n' o next host host' (Ok q) did = did
finds_of law p engine f f' s s' n n' o next host host' (Err e) did = did

-- what the instruction at which a frame stands comes to
found_here : {H : Type 0} (law : Law H) (p : View) (engine : Engine) (f f' : Activation)
    (s s' : Run H) (n n' : StepsView) (o : Op) (next : ℕ) (host host' : H)
    (r : Result Found OutOfMemory) → Runs p f s → StandsAt p f s o next → IsCall p o next →
    Finds (setup law p engine) (moment f s n host) o next r (moment f' s' n' host') →
    FindsHere (setup law p engine) (moment f s n host) r (moment f' s' n' host')
found_here law p engine f f' s s' n n' o next host host' (Ok (found.Done q)) runs at call did =
    arm_bound refl call.keeps call.holds at runs did
found_here law p engine f f' s s' n n' o next host host' (Ok (found.Function number to)) runs at
    call did =
    subst (λ (k : ℕ). FindsHere (setup law p engine) (moment f s n host) (Ok
    (found.Function number k)) (moment f' s' n' host')) (sym did.0) (o, at, call, did.1)
found_here law p engine f f' s s' n n' o next host host' (Err e) runs at call did =
    arm_bound refl call.keeps call.holds at runs did

-- what a call of a function by its name comes to
pub function_found_so : {H : Type 0} (law : Law H) (p : View) (engine : Engine) (f : Activation)
    (s : Run H) (n : StepsView) (name count number next : ℕ) (host : H) →
    StandsAt p f s (op.Call name count) next → Some number ≡ function_of p name count →
    Called p name count number →
    FindsHere (setup law p engine) (moment f s n host) (Ok (found.Function number next))
    (moment f s n host)
function_found_so law p engine f s n name count number next host at is called = (
  op.Call name count,
  at,
  record { leads = refl; gives = refl; holds = refl; keeps = refl },
  named_found law p engine f s n name count next number host is called at.seen.provides.enough,
)

-- what `call_fn_ptr` comes to
pub pointer_found : {H : Type 0} (law : Law H) (p : View) (engine : Engine) (f f' : Activation)
    (s s' : Run H) (n n' : StepsView) (count next : ℕ) (host host' : H)
    (r : Result Found OutOfMemory) → Runs p f s → StandsAt p f s (op.CallFnPtr count) next →
    Finds (setup law p engine) (moment f s n host) (op.CallFnPtr count) next r
    (moment f' s' n' host') →
    FindsHere (setup law p engine) (moment f s n host) r (moment f' s' n' host')
pointer_found law p engine f f' s s' n n' count next host host' r runs at did =
    found_here law p engine f f' s s' n n' (op.CallFnPtr count) next host host' r runs at
    (record { leads = refl; gives = refl; holds = refl; keeps = refl }) did

-- it was done without a function
pub is_done : {H : Type 0} (m : Setup H) (a b : Moment H) (x : Found) (q : Progress) →
    x ≡ found.Done q → FindsHere m a (Ok x) b → Stepped m a (Ok q) b
is_done m a b x q is finds = subst (λ (y : Found). FindsHere m a (Ok y) b) is finds

-- what was done on a copy of the frame, from which the frame takes what may have changed
pub stepped_on_copy : {H : Type 0} (law : Law H) (p : View) (engine : Engine) (f f' : Activation)
    (s s' : Run H) (n n' : StepsView) (host host' : H) (r : Result Progress OutOfMemory) →
    Stepped (setup law p engine) (moment f s n host) r (moment f' s' n' host') →
    Stepped (setup law p engine) (moment f s n host) r
    (moment (record f { address = f'.address; floor = f'.floor; slot = f'.slot }) s' n' host')
stepped_on_copy law p engine f f' s s' n n' host host' r did =
    subst (λ (a : Activation). Stepped (setup law p engine) (moment f s n host) r
    (moment a s' n' host')) (taken_back f f' did.kept.chunk did.kept.base) did

-- the function that was found
pub is_function : {H : Type 0} (law : Law H) (p : View) (engine : Engine) (f f' : Activation)
    (s s' : Run H) (n n' : StepsView) (x : Found) (number next : ℕ) (host host' : H) →
    x ≡ found.Function number next → FindsHere (setup law p engine) (moment f s n host) (Ok x)
    (moment f' s' n' host') →
    FindsHere (setup law p engine) (moment f s n host) (Ok (found.Function number next))
    (moment f' s' n' host')
is_function law p engine f f' s s' n n' x number next host host' is finds =
    subst (λ (x : Found). FindsHere (setup law p engine) (moment f s n host) (Ok x)
    (moment f' s' n' host')) is finds

-- a function that was found was called, and the instruction is done
pub found_stepped : {H : Type 0} (law : Law H) (p : View) (engine : Engine) (f f1 f2 : Activation)
    (s s1 s2 : Run H) (n n1 n2 : StepsView) (number next : ℕ) (host host1 host2 : H) (g : Function)
    {r : Result Progress OutOfMemory} → Runs p f s →
    FindsHere (setup law p engine) (moment f s n host) (Ok (found.Function number next))
    (moment f1 s1 n1 host1) →
    slice_get p.functions number ≡ Some g →
    Simulates (setup law p engine) (abstraction s1 n1 host1)
    (λ m place w. enter_function m g (length g.params) (frame_in f1 s1 place) next w) (is_out r)
    (abstraction s2 n2 host2) (continuation r s2.fault (frame_in f2 s2)) →
    KeepsFrame f1 s1 f2 s2 →
    ContinuesAt engine s1 f1 s2 f2 (next ∷ []) (length g.params) 1 s1.stacks.handlers r →
    n2.before ≡ n1.before → Stepped (setup law p engine) (moment f s n host) r
    (moment f2 s2 n2 host2)
found_stepped {H = H} law p engine f f1 f2 s s1 s2 n n1 n2 number next host host1 host2 g {r} runs
    (o, at, call, finds) is goes kept lands before =
    let there : next ≡ f.address + at.width = at.next_is in
    let one : Simulates (setup law p engine) (abstraction s n host)
    (λ m place w. instr m o next (frame_in f s place) w) (is_out r) (abstraction s2 n2 host2)
    (continuation r s2.fault (frame_in f2 s2)) =
    compose (same (finds.goes g is)) goes tt in
    done law p engine f s o at.width runs at.seen call.holds call.keeps at.read n f2 s2 n2 host host2
    (subst (λ (k : ℕ). Simulates (setup law p engine) (abstraction s n host)
    (λ m place w. instr m o k (frame_in f s place) w) (is_out r) (abstraction s2 n2 host2)
    (continuation r s2.fault (frame_in f2 s2))) there one)
    kept_here
    (subst (λ (k : ℕ). ContinuesAt engine s f s2 f2 (leads_of p o k) (takes_of p o) (gives_of o)
    s.stacks.handlers r) there lands_here)
    (before ∙ finds.before) where
      kept_here : KeepsFrame f s f2 s2
      kept_here = kept_before f f2 s s1 s2 finds.others
          (subst (λ (a : Activation). KeepsFrame a s1 f2 s2) finds.frame kept)

      stacks : StacksView
      stacks = record s.stacks { operands = s1.stacks.operands }

      from : ContinuesAt engine (record s { stacks = stacks }) f s2 f2 (next ∷ [])
          (length g.params) 1 stacks.handlers r
      from =
          subst (λ (a : Activation). ContinuesAt engine (record s { stacks = stacks }) a s2 f2
          (next ∷ []) (length g.params) 1 stacks.handlers r) finds.frame
          (subst (λ (q : Run H). ContinuesAt engine q f1 s2 f2 (next ∷ []) (length g.params) 1
          q.stacks.handlers r) finds.others lands)

      here : (b : ℕ) → In b (next ∷ []) → In b (leads_of p o next)
      here b inside = subst (λ (ts : List ℕ). In b ts) (sym call.leads) inside

      lands_here : ContinuesAt engine s f s2 f2 (leads_of p o next) (takes_of p o) (gives_of o)
          s.stacks.handlers r
      lands_here =
          lands_on engine s s2 stacks f f2 (next ∷ []) (leads_of p o next) (length g.params) 1
          (takes_of p o) (gives_of o) stacks.handlers r
          refl (omega (arith, finds.operands g is, call.gives))
          (omega (arith, finds.operands g is)) refl here from
