-- What is read before a cell is lent: what the cell holds, and the arguments.
use Rattle.std.proofs.Common.{◌≡◌, ◌∙◌, ◌<◌, ℕ, zero, suc, List, [], ◌∷◌, Option, Some, None, Bool, true, false, Result, Ok, Err, IfOk, inr, length, refl, sym, ap, arith}
use Rattle.std.specs.Prelude.{if◌then◌else◌, option_map, slice_get, slice_set}
use Rattle.grain_value.specs.Cells.{content, idle, is_busy, lent}
use Rattle.grain_value.specs.Tree.{Tree}
use Rattle.grain_value.specs.Writing.{kind_of}
use Rattle.grain_value.specs.declared.memory.OutOfMemory.{OutOfMemory}
use Rattle.grain_value.specs.declared.stores.Cell.{Cell}
use Rattle.grain_value.specs.declared.values.Dynamic.{Dynamic}
use Rattle.grain_value.specs.declared.values.Held.{Held}
use Rattle.grain_means.specs.lemmas.PlaceLaws.{get-set, some-inj}
use Rattle.grain_frame.specs.declared.native_calls.Arguments.{Arguments}
use Rattle.grain_vm.specs.Driving.{DescribesAfter, ReadsAll}
use Rattle.grain_vm.specs.Receivers.{ReadsForCell}

-- what is there is not past the end
pub get_below : {A : Type 0} (xs : List A) (i : ℕ) (a : A) → slice_get xs i ≡ Some a → i < length xs
get_below [] i a e = absurd cc
get_below (x ∷ xs) zero a e = omega arith
get_below (x ∷ xs) (suc i) a e = omega (arith, get_below xs i a e)

-- a cell whose content can be read
idle_by : (c : Cell) (b : Bool) (v : Dynamic) → c.busy ≡ b →
    (if b then None else Some c.held.value) ≡ Some v → (h : Held) × (Some c ≡ Some (idle h))
    × (h.value ≡ v)
idle_by c true v busy e = absurd cc
idle_by c false v free e = (c.held, ap (λ (b : Bool). Some (record c { busy = b })) free, some-inj e)

idle_where : (o : Option Cell) (v : Dynamic) → content o ≡ Some v →
    (h : Held) × (o ≡ Some (idle h)) × (h.value ≡ v)
idle_where None v e = absurd cc
idle_where (Some c) v e = idle_by c c.busy v refl e

module _ (cells : List Cell) (k : ℕ) (flag : Bool) (ts : List Tree) where
  for_cell : (h : Held) → slice_get cells k ≡ Some (idle h) →
      (r : Result (Option Arguments) OutOfMemory) →
      IfOk r (λ o. ReadsAll cells (Some (record h { read_only = flag })) ts o) →
      IfOk r (λ o. ReadsForCell cells k flag ts o)
  for_cell h there (Ok None) none = inr none
  for_cell h there (Ok (Some a)) read = (h, there, read)
  for_cell h there (Err e) read = tt

  -- the cell's content was described, and then the arguments were read
  pub reads_for_cell : (v : Dynamic) (begun : Arguments) (r : Result (Option Arguments) OutOfMemory) →
      content (slice_get cells k) ≡ Some v → begun.kinds ≡ kind_of v ∷ [] → begun.values ≡ [] →
      begun.read_only ≡ flag →
      ((x : Option Held) → DescribesAfter x begun [] → IfOk r (λ o. ReadsAll cells x ts o)) →
      IfOk r (λ o. ReadsForCell cells k flag ts o)
  reads_for_cell v begun r is kinds values read_only reads =
      let found = idle_where (slice_get cells k) v is in
      for_cell found.0 found.1 r
      (reads (Some (record found.0 { read_only = flag }))
      (record {
        kinds = kinds ∙ ap (λ (d : Dynamic). kind_of d ∷ []) (sym found.2);
        values = values;
        read_only = read_only;
      }))

-- a cell that was lent is lent
pub lent_still : (cells taken now : List Cell) (k : ℕ) (c : Held) → slice_get cells k ≡ Some (idle c) →
    taken ≡ slice_set cells k (lent c) → now ≡ taken →
    option_map is_busy (slice_get now k) ≡ Some true
lent_still cells taken now k c there took same =
    ap (λ (cs : List Cell). option_map is_busy (slice_get cs k)) (same ∙ took)
    ∙ ap (option_map is_busy) (get-set cells k (idle c) (lent c) there)
