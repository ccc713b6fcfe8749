-- What a request calls, as the code finds it.
use Rattle.std.proofs.Common.{◌≡◌, ◌∙◌, ℕ, ◌+◌, List, ◌++◌, Some, None, length, refl, sym, ap, subst}
use Rattle.std.proofs.lemmas.List.{length-append}
use Rattle.grain_value.specs.Tree.{Tree}
use Rattle.grain_value.specs.declared.values.FnPtr.{FnPtr}
use Rattle.grain_program.specs.Lookups.{function_by_text}
use Rattle.grain_program.specs.View.{View}
use Rattle.grain_program.specs.laws.Lookups.{called_by_text}
use Rattle.grain_chain.specs.Walking.{CanCall}
use Rattle.grain_chain.specs.declared.requests.Request.{Request}
use Rattle.grain_chain.specs.declared.requests.What.{What}
use Rattle.grain_chain.specs.declared.requests.What.TheVariants as what
use Rattle.grain_vm.specs.Driving.{IsNative}
use Rattle.grain_vm.specs.Methods.{AsksFunction, AsksNative, CallsFunction, IsPointer}

module _ (p : View) (r : Request) where
  -- a native is asked for as it is
  pub native_kept : (name : List ℕ) → r.what ≡ what.Native name →
      AsksNative p r r.what (record r { what = what.Native name })
  native_kept name is =
      subst (λ (x : What). AsksNative p r x (record r { what = what.Native name })) (sym is)
      (ap (λ (x : What). record r { what = x }) (sym is))

  -- a function by its number
  pub compiled_calls : (n : ℕ) → r.what ≡ what.Compiled n →
      CanCall p r.what (length r.arguments) →
      CallsFunction p r (record {
        number = n;
        pos = r.pos;
        receiver = r.receiver;
        arguments = r.arguments;
      })
  compiled_calls n is can =
      let there = subst (λ (x : What). CanCall p x (length r.arguments)) is can in
      record {
        there = record { function = there.0; is = there.1; count = there.2 };
        asks = subst (λ (x : What). AsksFunction p r x n r.arguments) (sym is) (refl, refl);
        position = refl;
        receiver = refl;
      }

  -- what is asked for so is a native, and it has the same receiver
  pub native_asked : (other : Request) (x : What) → r.what ≡ x → AsksNative p r x other →
      IsNative other.what
  native_asked other (what.Native name) is asks =
      subst (λ (o : Request). IsNative o.what) (sym asks) (subst IsNative (sym is) tt)
  native_asked other (what.Compiled n) is asks = absurd asks
  native_asked other (what.Pointer f) is asks =
      subst (λ (o : Request). IsNative o.what) (sym asks.1) tt

  pub receiver_asked : (other : Request) (x : What) → AsksNative p r x other →
      other.receiver ≡ r.receiver
  receiver_asked other (what.Native name) asks = ap (λ (o : Request). o.receiver) asks
  receiver_asked other (what.Compiled n) asks = absurd asks
  receiver_asked other (what.Pointer f) asks = ap (λ (o : Request). o.receiver) asks.1

  module _ (f : FnPtr) (is : r.what ≡ what.Pointer f) where
    -- the function that a pointer names
    pub pointer_calls : (number : ℕ) (all : List Tree) →
        function_by_text p f.name (length f.curry + length r.arguments) ≡ Some number →
        all ≡ f.curry ++ r.arguments → CallsFunction p r (record {
          number = number;
          pos = r.pos;
          receiver = r.receiver;
          arguments = all;
        })
    pointer_calls number all exact all_are =
        let called = called_by_text p f.name (length f.curry + length r.arguments) number exact in
        record {
          there = record {
            function = called.function;
            is = called.is;
            count =
                called.count_is
                ∙ sym (ap (λ (ts : List Tree). length ts) all_are ∙ length-append f.curry r.arguments);
          };
          asks = subst (λ (x : What). AsksFunction p r x number all) (sym is) (exact, all_are);
          position = refl;
          receiver = refl;
        }

    -- the native that it names
    pub pointer_native : (all : List Tree) →
        function_by_text p f.name (length f.curry + length r.arguments) ≡ None →
        all ≡ f.curry ++ r.arguments →
        AsksNative p r r.what (record r { what = what.Native f.name; arguments = all })
    pointer_native all none all_are =
        subst (λ (x : What). AsksNative p r x (record r { what = what.Native f.name; arguments = all }))
        (sym is)
        (none, ap (λ (ts : List Tree). record r { what = what.Native f.name; arguments = ts }) all_are)

    -- memory is out
    pub pointer_back : (record r { what = what.Pointer f } ≡ r) × IsPointer r.what
    pointer_back =
        (ap (λ (x : What). record r { what = x }) (sym is), subst IsPointer (sym is) tt)
