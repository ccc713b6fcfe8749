-- The values of a list of trees, and what a call leaves of a receiver.
use Rattle.std.proofs.Common.{◌≡◌, ℕ, suc, ◌-◌, ◌<◌, Bool, true, false, List, [], ◌∷◌, Option, Some, None, option_map, map, length, slice_get, Bor, refl, sym, ap, ◌∙◌, arith, if◌then◌else◌}
use Rattle.std.specs.Option.{option_copied}
use Rattle.std.proofs.lemmas.Option.{slice_get-map}
use Rattle.grain_value.specs.Tree.{Tree}
use Rattle.grain_value.specs.View.{tree, value_of}
use Rattle.grain_value.specs.laws.Same.{value_of-tree}
use Rattle.grain_value.specs.declared.values.Dynamic.{Dynamic}
use Rattle.grain_value.specs.declared.values.Held.{Held}
use Rattle.grain_host.specs.Tables.{sole, first_of_two, pushed, pushed_receiver}

value_of_ref : (r : Option (Bor Dynamic)) →
    option_copied r ≡ option_map value_of (option_map (λ d. tree d.now) r)
value_of_ref None = refl
value_of_ref (Some d) = ap Some (sym (value_of-tree d.now))

one : (ts : List Tree) → length ts ≡ 1 →
    option_map value_of (slice_get ts 0) ≡ sole (map value_of ts)
one [] n = absurd (omega (arith, n))
one (t ∷ []) n = refl
one (t ∷ u ∷ ts) n = absurd (omega (arith, n))

two : (ts : List Tree) → length ts ≡ 2 →
    option_map value_of (slice_get ts 0) ≡ first_of_two (map value_of ts)
two [] n = absurd (omega (arith, n))
two (t ∷ []) n = absurd (omega (arith, n))
two (t ∷ u ∷ []) n = refl
two (t ∷ u ∷ v ∷ ts) n = absurd (omega (arith, n))

behind : (v : Dynamic) (vs : List Dynamic) (i : ℕ) → 0 < i →
    slice_get (v ∷ vs) i ≡ slice_get vs (i - 1)
behind v vs i h =
    let next : i ≡ suc (i - 1) = omega arith in
    ap (slice_get (v ∷ vs)) next

-- the value at a place of the list, with a receiver before it and without
pub at_place : (ts : List Tree) (i : ℕ) (r : Option (Bor Dynamic)) →
    option_map (λ d. tree d.now) r ≡ slice_get ts i →
    option_copied r ≡ slice_get (map value_of ts) i
at_place ts i r e = value_of_ref r ∙ ap (option_map value_of) e ∙ sym (slice_get-map value_of ts i)

pub behind_receiver : (v : Dynamic) (ts : List Tree) (i : ℕ) (r : Option (Bor Dynamic)) → 0 < i →
    option_map (λ d. tree d.now) r ≡ slice_get ts (i - 1) →
    option_copied r ≡ slice_get (v ∷ map value_of ts) i
behind_receiver v ts i r h e = at_place ts (i - 1) r e ∙ sym (behind v (map value_of ts) i h)

pub the_one : (ts : List Tree) (r : Option (Bor Dynamic)) → length ts ≡ 1 →
    option_map (λ d. tree d.now) r ≡ slice_get ts 0 → option_copied r ≡ sole (map value_of ts)
the_one ts r n e = value_of_ref r ∙ ap (option_map value_of) e ∙ one ts n

pub the_first : (ts : List Tree) (r : Option (Bor Dynamic)) → length ts ≡ 2 →
    option_map (λ d. tree d.now) r ≡ slice_get ts 0 →
    option_copied r ≡ first_of_two (map value_of ts)
the_first ts r n e = value_of_ref r ∙ ap (option_map value_of) e ∙ two ts n

pub none_left : (done : Bool) (r : Option Held) (values : List Tree) → r ≡ None →
    r ≡ (if done then pushed_receiver r values else r)
none_left true r values e = rw e refl
none_left false r values e = refl

pub one_left : (done : Bool) (r : Option Held) (h : Held) (v : Dynamic) (values : List Tree) →
    r ≡ Some h → v ≡ (if done then pushed h.value (sole (map value_of values)) else h.value) →
    Some (record h { value = v }) ≡ (if done then pushed_receiver r values else r)
one_left true r h v values e is = rw (e, is) refl
one_left false r h v values e is = rw (e, is) refl
