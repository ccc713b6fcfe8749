-- What the causes say of the three instructions that call a pointer, which may have a receiver.
use Rattle.std.proofs.Common.{ℕ, List, [], refl, subst}
use Rattle.grain_value.specs.declared.values.Held.{Held}
use Rattle.grain_program.specs.View.{View}
use Rattle.grain_program.specs.declared.code.functions.Function.{Function}
use Rattle.grain_program.specs.declared.code.instruction_set.Op.{Op}
use Rattle.grain_program.specs.declared.code.instruction_set.Op.TheVariants as op
use Rattle.grain_means.specs.Worlds.{Frame, Setup, World}
use Rattle.grain_means.specs.Causes.{AsksEither, AsksPointer, Calls, CallsOn, CallsPointed, Charges, HasTooMany, IsMethodCall, IsNoChain, MethodReadsLent, Misses, MissesPointed, Overfills, ReadsLent}

pub method_no_chain : (o : Op) (n : ℕ) → IsMethodCall n o → IsNoChain o
method_no_chain (op.Chain k) n is = absurd is
method_no_chain o n is = tt

module _ {S : Type 0} (program : View) (o : Op) (n : ℕ) (f : Frame) (w : World S) where
  pub method_calls : (g : Function) (args : List Held) → IsMethodCall n o →
      CallsPointed program g args n f w → CallsOn program g args o f w
  method_calls g args is = of_kind o is where
    of_kind : (o : Op) → IsMethodCall n o → CallsPointed program g args n f w →
        CallsOn program g args o f w
    of_kind (op.CallFnPtrMethod k) is = subst (λ (j : ℕ). CallsPointed program g args j f w) is
    of_kind (op.CallFnPtrOnLocal k slot) is =
        subst (λ (j : ℕ). CallsPointed program g args j f w) is
    of_kind (op.CallFnPtrOnThis k) is = subst (λ (j : ℕ). CallsPointed program g args j f w) is
    of_kind o is = absurd is

  pub method_charges : IsMethodCall n o → Calls program o f w → Charges program o f w
  method_charges is = of_kind o is where
    of_kind : (o : Op) → IsMethodCall n o → Calls program o f w → Charges program o f w
    of_kind (op.CallFnPtrMethod k) is calls = calls
    of_kind (op.CallFnPtrOnLocal k slot) is calls = calls
    of_kind (op.CallFnPtrOnThis k) is calls = calls
    of_kind o is calls = absurd is

  pub method_asks : (k : ℕ) → IsMethodCall n o → AsksEither k n f w → AsksPointer k o f w
  method_asks k is = of_kind o is where
    of_kind : (o : Op) → IsMethodCall n o → AsksEither k n f w → AsksPointer k o f w
    of_kind (op.CallFnPtrMethod j) is = subst (λ (j : ℕ). AsksEither k j f w) is
    of_kind (op.CallFnPtrOnLocal j slot) is = subst (λ (j : ℕ). AsksEither k j f w) is
    of_kind (op.CallFnPtrOnThis j) is = subst (λ (j : ℕ). AsksEither k j f w) is
    of_kind o is = absurd is

  pub method_misses : (name : List ℕ) (args : List Held) → IsMethodCall n o →
      MissesPointed program name args n f w → Misses program name args o f w
  method_misses name args is = of_kind o is where
    of_kind : (o : Op) → IsMethodCall n o → MissesPointed program name args n f w →
        Misses program name args o f w
    of_kind (op.CallFnPtrMethod k) is = subst (λ (j : ℕ). MissesPointed program name args j f w) is
    of_kind (op.CallFnPtrOnLocal k slot) is =
        subst (λ (j : ℕ). MissesPointed program name args j f w) is
    of_kind (op.CallFnPtrOnThis k) is = subst (λ (j : ℕ). MissesPointed program name args j f w) is
    of_kind o is = absurd is

module _ {S : Type 0} (m : Setup S) (o : Op) (n : ℕ) (f : Frame) (w : World S) where
  pub method_reads : IsMethodCall n o → MethodReadsLent m.program n f w → ReadsLent m [] o f w
  method_reads is = of_kind o is where
    of_kind : (o : Op) → IsMethodCall n o → MethodReadsLent m.program n f w →
        ReadsLent m [] o f w
    of_kind (op.CallFnPtrMethod k) is reads =
        (refl, subst (λ (j : ℕ). MethodReadsLent m.program j f w) is reads)
    of_kind (op.CallFnPtrOnLocal k slot) is reads =
        (refl, subst (λ (j : ℕ). MethodReadsLent m.program j f w) is reads)
    of_kind (op.CallFnPtrOnThis k) is reads =
        (refl, subst (λ (j : ℕ). MethodReadsLent m.program j f w) is reads)
    of_kind o is reads = absurd is

pub method_fills : {S : Type 0} (m : Setup S) (o : Op) (n : ℕ) (f : Frame) (w : World S) →
    IsMethodCall n o → HasTooMany m o f w → Overfills m o f w
method_fills m (op.CallFnPtrMethod k) n f w is many = many
method_fills m (op.CallFnPtrOnLocal k slot) n f w is many = many
method_fills m (op.CallFnPtrOnThis k) n f w is many = many
method_fills m o n f w is many = absurd is
