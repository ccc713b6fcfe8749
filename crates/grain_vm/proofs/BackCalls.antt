-- What a native asks for is a function of the program, or else a native.
use Rattle.std.proofs.Common.{◌≡◌, ◌∙◌, ◌+◌, ◌++◌, ◌∷◌, ℕ, List, [], Option, Some, None, Bool, true, false, Result, Ok, Err, if◌then◌else◌, length, map, nat_lt, refl, sym, ap, subst, arith}
use Rattle.std.specs.Prelude.{slice_get}
use Rattle.grain_value.specs.Operands.{read_write}
use Rattle.grain_value.specs.Tree.{Tree}
use Rattle.grain_value.specs.View.{value_of}
use Rattle.grain_value.specs.declared.values.Dynamic.{Dynamic}
use Rattle.grain_value.specs.declared.values.FnPtr.{FnPtr}
use Rattle.grain_value.specs.declared.values.Held.{Held}
use Rattle.grain_fault.specs.Problems.{NoMemory}
use Rattle.grain_fault.specs.declared.faults.EvalAltResult.{EvalAltResult}
use Rattle.grain_fault.specs.declared.faults.EvalAltResult.TheVariants as fault
use Rattle.grain_fault.specs.declared.places.Position.{Position}
use Rattle.grain_program.specs.Lookups.{function_by_text}
use Rattle.grain_program.specs.declared.code.functions.Function.{Function}
use Rattle.grain_global.specs.StepsView.{StepsView}
use Rattle.grain_means.specs.Worlds.{is_stop, Act, Answer, Callback, End, Failed, Place, Setup, World}
use Rattle.grain_means.specs.Ends.{Ends}
use Rattle.grain_means.specs.Rules.{arguments_back, called_back, callee_called_back, function_back, function_by_name, function_called, function_numbered, function_under, native_called_back, position}
use Rattle.grain_means.specs.Rules.Pointers.{curried_in}
use Rattle.grain_means.specs.Simulation.{puts, stopped, world}
use Rattle.grain_means.specs.lemmas.Roots.{puts-bound}
use Rattle.grain_means.specs.lemmas.Stretches.{same}
use Rattle.grain_chain.specs.declared.requests.Request.{Request}
use Rattle.grain_frame.specs.Waiting.{beside}
use Rattle.grain_frame.specs.declared.runs.Run.{Run}
use Rattle.grain_vm.specs.Asks.{CallsBack, IsCallback}
use Rattle.grain_vm.specs.Backs.{FindsBack, IsRequestBack, NativeCallsBack}
use Rattle.grain_vm.specs.Driving.{name_in}
use Rattle.grain_vm.specs.Methods.{CallsMethod, given_to}
use Rattle.grain_vm.specs.declared.methods.MethodCall.{MethodCall}
use Rattle.grain_vm.specs.declared.methods.Needed.TheVariants as needed
use Rattle.grain_vm.proofs.Followed.{alike}

-- ---- the arguments

given_each : (ts : List Tree) → map (λ t. read_write (value_of t)) ts ≡ given_to ts
given_each [] = refl
given_each (t ∷ ts) = ap (λ (l : List Held). read_write (value_of t) ∷ l) (given_each ts)

given_all : (cs ts : List Tree) →
    map (λ t. read_write (value_of t)) cs ++ map (λ t. read_write (value_of t)) ts
    ≡ given_to (cs ++ ts)
given_all [] ts = given_each ts
given_all (c ∷ cs) ts = ap (λ (l : List Held). read_write (value_of c) ∷ l) (given_all cs ts)

module _ {H : Type 0} (m : Setup H) (q : Position) (f : FnPtr) (ts : List Tree)
    (c : Option Place → Callback) (is : IsCallback m q f ts c) where
  arguments_are : (all : List Tree) → all ≡ f.curry ++ ts → (place : Option Place) →
      arguments_back (c place) ≡ given_to all
  arguments_are all given place =
      ap (λ (g : FnPtr). curried_in g ++ map (λ t. read_write (value_of t)) (c place).values)
      (is.pointer place)
      ∙ ap (λ (us : List Tree). curried_in f ++ map (λ t. read_write (value_of t)) us)
      (is.values_are place)
      ∙ given_all f.curry ts
      ∙ ap (λ (l : List Tree). given_to l) (sym given)

  found_text : (o : Option ℕ) → function_by_text m.program f.name (length f.curry + length ts) ≡ o →
      (place : Option Place) → function_by_name m.program (c place).pointer.name
      (length (c place).pointer.curry + length (c place).values) ≡ function_numbered m.program o
  found_text o text place =
      ap (λ (g : FnPtr). function_by_name m.program g.name
      (length g.curry + length (c place).values)) (is.pointer place)
      ∙ ap (λ (us : List Tree). function_by_name m.program f.name (length f.curry + length us))
      (is.values_are place)
      ∙ ap (λ (k : Option ℕ). function_numbered m.program k) text

  -- a function
  back_function : (number : ℕ) (g : Function) → m.engine.callbacks ≡ true →
      function_by_text m.program f.name (length f.curry + length ts) ≡ Some number →
      slice_get m.program.functions number ≡ Some g → (place : Option Place) →
      function_back m.program m.engine.callbacks (c place) ≡ Some g
  back_function number g may text there place =
      ap (λ (b : Bool). if b then function_by_name m.program (c place).pointer.name
      (length (c place).pointer.curry + length (c place).values) else None) may
      ∙ found_text (Some number) text place ∙ there

  -- none
  back_native : (m.engine.callbacks ≡ true →
      function_by_text m.program f.name (length f.curry + length ts) ≡ None) →
      (place : Option Place) → function_back m.program m.engine.callbacks (c place) ≡ None
  back_native none place = by m.engine.callbacks refl where
    by : (b : Bool) → m.engine.callbacks ≡ b → (if b
        then function_by_name m.program (c place).pointer.name
        (length (c place).pointer.curry + length (c place).values) else None) ≡ None
    by true may = found_text None (none may) place
    by false may = refl

  -- the native is called on the request's arguments
  request_back : (r : Request) → name_in r.what ≡ f.name → r.pos ≡ q → r.arguments ≡ f.curry ++ ts →
      IsRequestBack m r c
  request_back r name pos given = record {
    at = λ place. is.at place ∙ sym pos;
    named = λ place. ap (λ (g : FnPtr). g.name) (is.pointer place) ∙ sym name;
    arguments = arguments_are r.arguments given;
  }

-- ---- what came of it

-- memory is out before anything is called
callee_out : {S : Type 0} (m : Setup S) (heard : Answer → World S → Act S) (c : Callback)
    (h : Option Function) (w : World S) → is_stop m.stop w.passed ≡ true →
    callee_called_back m heard c h w ≡ heard (Failed NoMemory) w
callee_out m heard c None w halts = by (nat_lt w.count m.engine.limits.operations) refl where
  by : (b : Bool) → nat_lt w.count m.engine.limits.operations ≡ b →
      native_called_back m heard c w ≡ heard (Failed NoMemory) w
  by true is = rw (is, halts) refl
  by false is = rw (is, halts) refl
callee_out m heard c (Some g) w halts = by (nat_lt w.count m.engine.limits.operations) refl where
  by : (b : Bool) → nat_lt w.count m.engine.limits.operations ≡ b →
      function_under m (position m c.frame) g (arguments_back c) heard None w
      ≡ heard (Failed NoMemory) w
  by true is = rw (is, halts) refl
  by false is = rw (is, halts) refl

pub back_out : {H : Type 0} (m : Setup H) (q : Position) (f : FnPtr) (ts : List Tree) (s : Run H)
    (n : StepsView) (host : H) → CallsBack m q f ts s n host (Err fault.Memory) s n host
back_out m q f ts s n host = λ c scope x heard is. same (record {
  this = refl;
  order = omega arith;
  equal = λ stop clear halts u place.
      callee_out (stopped m stop) (heard (stopped m stop) place) (c place)
      (function_back m.program m.engine.callbacks (c place)) (world (beside scope x s n host) u) halts;
})

module _ {H : Type 0} (m : Setup H) (q : Position) (f : FnPtr) (ts : List Tree) (s s' : Run H)
    (n n' : StepsView) (host host' : H) (o : Result Dynamic EvalAltResult) where
  -- a function was called
  pub back_called : (call : MethodCall) (g : Function) (left : Option Held) →
      FindsBack m.program m.engine q f ts (Ok (needed.Function call)) →
      slice_get m.program.functions call.number ≡ Some g →
      CallsMethod m call g s n host o left s' n' host' → CallsBack m q f ts s n host o s' n' host'
  back_called call g left found there calls = λ c scope x heard is. record {
    order = (calls scope (λ r spot a w. End a w)).order;
    leads = λ stop clear halts u place bound.
        let led = (calls scope (λ r spot a w. heard r place a w)).leads stop clear halts u None
        (rw found.4 tt) in
        let still : puts u.roots place x ≡ u.roots = puts-bound u.roots place x bound in (
          rw still bound,
          λ a w run. subst (λ (y : Act H). Ends (stopped m stop) y a w)
              (sym (is_call c is stop (heard (stopped m stop) place) place
              (world (beside scope x s n host) u))) (led.1 a w (rw still at run)),
        );
  } where
    is_call : (c : Option Place → Callback) → IsCallback m q f ts c → (stop : Option ℕ)
        (hears : Answer → World H → Act H) (place : Option Place) (w : World H) →
        called_back (stopped m stop) hears (c place) w
        ≡ function_called (stopped m stop) call.pos g (given_to call.arguments) hears None w
    is_call c is stop hears place w =
        ap (λ (h : Option Function). callee_called_back (stopped m stop) hears (c place) h w)
        (back_function m q f ts c is call.number g found.1 found.2 there place)
        ∙ ap (λ (k : Position).
        function_under (stopped m stop) k g (arguments_back (c place)) hears None w)
        (is.at place ∙ sym found.3)
        ∙ ap (λ (args : List Held). function_under (stopped m stop) call.pos g args hears None w)
        (arguments_are m q f ts c is call.arguments found.5 place)

  -- a native was called
  pub back_native_called : (r : Request) → FindsBack m.program m.engine q f ts (Ok (needed.Native r)) →
      NativeCallsBack m r s n host o s' n' host' → CallsBack m q f ts s n host o s' n' host'
  back_native_called r found calls = λ c scope x heard is.
      alike (λ m1 place w. called_back m1 (heard m1 place) (c place) w)
      (λ stop u place.
      ap (λ (h : Option Function). callee_called_back (stopped m stop) (heard (stopped m stop) place)
      (c place) h (world (beside scope x s n host) u)) (back_native m q f ts c is found.0 place))
      (calls c scope x heard (request_back m q f ts c is r found.2 found.3 found.5))
