-- Calls on a receiver that is added to the roots.
use Rattle.std.proofs.Common.{◌≡◌, ◌∙◌, List, [], ◌∷◌, ◌++◌, Bool, Option, Some, None, Result, length, refl, sym, ap, subst, arith}
use Rattle.std.specs.Prelude.{slice_set}
use Rattle.grain_value.specs.declared.values.Dynamic.{Dynamic}
use Rattle.grain_value.specs.declared.values.Held.{Held}
use Rattle.grain_value.specs.laws.Same.{value_of-tree}
use Rattle.grain_fault.specs.declared.faults.EvalAltResult.{EvalAltResult}
use Rattle.grain_program.specs.declared.code.functions.Function.{Function}
use Rattle.grain_global.specs.StepsView.{StepsView}
use Rattle.grain_means.specs.Worlds.{End, Setup}
use Rattle.grain_means.specs.Ends.{Ends}
use Rattle.grain_means.specs.Places.{look, or_unit, put, put_held}
use Rattle.grain_means.specs.Rules.Chains.{new_root}
use Rattle.grain_means.specs.Simulation.{Binds, puts, stopped, world}
use Rattle.grain_means.specs.lemmas.LentPlaces.{found-new}
use Rattle.grain_means.specs.lemmas.PlaceLaws.{get-after, set-after}
use Rattle.grain_means.specs.lemmas.Roots.{puts-bound}
use Rattle.grain_chain.specs.Walking.{outcome_of}
use Rattle.grain_frame.specs.declared.runs.Run.{Run}
use Rattle.grain_vm.specs.Driving.{SameFlag, beside}
use Rattle.grain_vm.specs.Methods.{CallsMethod, Hears, given_to}
use Rattle.grain_vm.specs.Receivers.{CallsOn, function_call}
use Rattle.grain_vm.specs.declared.methods.MethodCall.{MethodCall}

-- what stands at a root that is added to others
pub look-new : (bs : List Held) (h : Held) → look (bs ++ h ∷ []) (new_root bs) ≡ h
look-new bs h = ap or_unit (found-new bs h)

-- what is put there
pub put-new : (bs : List Held) (h : Held) (v : Dynamic) →
    put (bs ++ h ∷ []) (new_root bs) v ≡ bs ++ record h { value = v } ∷ []
put-new bs h v =
    ap (λ (o : Option Held). slice_set (bs ++ h ∷ []) (length bs) (put_held [] v (or_unit o)))
    (get-after bs (h ∷ []) (length bs) 0 (omega arith))
    ∙ set-after bs (h ∷ []) (length bs) 0 (put_held [] v h) (omega arith)
    ∙ ap (λ (x : Dynamic). bs ++ record h { value = x } ∷ []) (value_of-tree v)

-- with the same flag only the value is another
pub of_same_flag : (h l : Held) → l.read_only ≡ h.read_only → record h { value = l.value } ≡ l
of_same_flag h l same =
    ap (λ (b : Bool). record l { read_only = b }) (sym same)

pub put-left : (bs : List Held) (h l : Held) → l.read_only ≡ h.read_only →
    put (bs ++ h ∷ []) (new_root bs) l.value ≡ bs ++ l ∷ []
put-left bs h l same =
    put-new bs h l.value ∙ ap (λ (x : Held). bs ++ x ∷ []) (of_same_flag h l same)

-- the receiver is there after a call, with the flag that it had
pub receiver_back : (h : Held) (left : Option Held) → SameFlag (Some h) left →
    (l : Held) × (left ≡ Some l) × (l.read_only ≡ h.read_only)
receiver_back h None flag = absurd flag
receiver_back h (Some l) flag = (l, refl, flag)

-- A function was called wherever its receiver stands. So it is where the receiver is a new root.
pub calls_on_new : {H : Type 0} (m : Setup H) (c : MethodCall) (g : Function) (s s' : Run H)
    (n n' : StepsView) (host host' : H) (o : Result Dynamic EvalAltResult) (left : Option Held)
    (h l : Held) → CallsMethod m c g s n host o left s' n' host' → c.receiver ≡ Some h →
    left ≡ Some l → l.read_only ≡ h.read_only →
    CallsOn m (function_call g c.pos (given_to c.arguments)) h s n host o l s' n' host'
calls_on_new {H = H} m c g s s' n n' host host' o left h l calls lent back same_flag = λ scope this heard.
    record {
      order = (calls scope (λ m place a w. End a w)).order;
      leads = λ stop clear halts u place bound.
          let bs = u.roots ++ h ∷ [] in
          let deaf : Hears H = λ r spot a w. heard r place (length u.roots) a w in
          let led = (calls scope deaf).leads stop clear halts (record u { roots = bs })
          (Some (new_root u.roots))
          (subst (λ (x : Option Held). Binds bs (Some (new_root u.roots)) x) (sym lent)
          (found-new u.roots h)) in
          let left_there : puts bs (Some (new_root u.roots)) left ≡ u.roots ++ l ∷ [] =
          ap (puts bs (Some (new_root u.roots))) back ∙ put-left u.roots h l same_flag in
          let same = puts-bound u.roots place this bound in (
            rw same bound,
            λ a w run. led.1 a w
                (subst (λ (us : List Held). Ends (stopped m stop) (heard (stopped m stop) place
                (length u.roots) (outcome_of o)
                (record (world (beside scope left s' n' host') u) { roots = us })) a w)
                (sym left_there) (rw same at run)),
          );
    }
