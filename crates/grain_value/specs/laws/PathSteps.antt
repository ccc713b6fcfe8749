-- What a path through a step has, from what the step finds.
use Rattle.std.specs.Prelude.{◌≡◌, ℕ, List, ◌∷◌, length, Option, Some, None, Result, Ok, Err, is_ok, true, slice_get, refl}
use Rattle.std.proofs.Common.{true≢false, sym, ap, ◌∙◌}
use Rattle.grain_value.specs.Tree.{Tree, array, dict, pack, pack_fields}
use Rattle.grain_value.specs.Maps.{Entries, entry_at}
use Rattle.grain_value.specs.Paths.{at, put, child, set_child, and_then, or_same, element, keyed, Leads}
use Rattle.grain_value.specs.laws.Same.{unpack-pack, unpack-pack_fields}
use Rattle.grain_value.specs.declared.values.paths.PathStep.{PathStep}
use Rattle.grain_value.specs.declared.values.paths.PathStep.TheVariants.{Index, Key}
use Rattle.grain_value.specs.declared.values.value_faults.ValueFault.{ValueFault}

pub child-array : (ts : List Tree) (i : ℕ) → child (Index i) (array (pack ts)) ≡ element (slice_get
    ts i) (length ts) i
child-array ts i = ap (λ l. element (slice_get l i) (length l) i) (unpack-pack ts)

pub child-dict : (es : Entries) (k : List ℕ) → child (Key k) (dict (pack_fields es)) ≡ keyed
    (entry_at k es)
child-dict es k = ap (λ l. keyed (entry_at k l)) (unpack-pack_fields es)

-- what a path through a step has, from what the step finds
pub at-step : (s : PathStep) (p : List PathStep) (t c : Tree) → child s t ≡ Ok c →
    at (s ∷ p) t ≡ at p c
at-step s p t c h = ap (and_then (λ d. at p d)) h

pub put-step : (s : PathStep) (p : List PathStep) (new t c : Tree) → child s t ≡ Ok c →
    put (s ∷ p) new t ≡ set_child s (put p new c) t
put-step s p new t c h = ap (or_same (λ d. set_child s (put p new d) t) t) h

pub leads-step : (s : PathStep) (p : List PathStep) (t c : Tree) → child s t ≡ Ok c →
    Leads (s ∷ p) t → Leads p c
leads-step s p t c h l = sym (ap is_ok (at-step s p t c h)) ∙ l

found : (f : Tree → Result Tree ValueFault) (r : Result Tree ValueFault) →
    is_ok (and_then f r) ≡ true → (c : Tree) × (r ≡ Ok c)
found f (Ok c) h = (c, refl)
found f (Err e) h = absurd (true≢false (sym h))

pub leads-found : (s : PathStep) (p : List PathStep) (t : Tree) → Leads (s ∷ p) t →
    (c : Tree) × (child s t ≡ Ok c)
leads-found s p t l = found (λ d. at p d) (child s t) l

pub element_found : (o : Option Tree) (n i : ℕ) (c : Tree) → element o n i ≡ Ok c → o ≡ Some c
element_found (Some t) n i c h = cc
element_found None n i c h = cc

pub keyed_found : (o : Option Tree) (c : Tree) → keyed o ≡ Ok c → o ≡ Some c
keyed_found (Some t) c h = cc
keyed_found None c h = cc
