-- The code reads a list of values, and clauses see their trees.
use Rattle.std.proofs.Common.{◌≡◌, ◌∙◌, ℕ, suc, ◌-◌, ◌<◌, List, ◌∷◌, Option, Some, None, option_map, map, slice_get, Bor, refl, sym, ap, arith}
use Rattle.std.specs.Option.{option_copied}
use Rattle.std.proofs.lemmas.Option.{slice_get-map}
use Rattle.grain_value.specs.Tree.{Tree}
use Rattle.grain_value.specs.View.{tree, value_of}
use Rattle.grain_value.specs.laws.Same.{value_of-tree}
use Rattle.grain_value.specs.declared.values.Dynamic.{Dynamic}
use Rattle.run_examples.proofs.prices.argument.Goals as goal

value_of_ref : (r : Option (Bor Dynamic)) →
    option_copied r ≡ option_map value_of (option_map (λ d. tree d.now) r)
value_of_ref None = refl
value_of_ref (Some d) = ap Some (sym (value_of-tree d.now))

read : (ts : List Tree) (i : ℕ) (r : Option (Bor Dynamic)) →
    option_map (λ d. tree d.now) r ≡ slice_get ts i →
    option_copied r ≡ slice_get (map value_of ts) i
read ts i r e = value_of_ref r ∙ ap (option_map value_of) e ∙ sym (slice_get-map value_of ts i)

behind : (v : Dynamic) (vs : List Dynamic) (i : ℕ) → 0 < i →
    slice_get (v ∷ vs) i ≡ slice_get vs (i - 1)
behind v vs i h =
    let next : i ≡ suc (i - 1) = omega arith in
    ap (slice_get (v ∷ vs)) next

pub returns-in-None : goal.returns-in-None
returns-in-None c =
    let args = c.args.args.now in
    rw c.in-None.is (read args.values c.args.index c.get.result c.get.ensures)

pub returns-in-Some-2 : goal.returns-in-Some-2
returns-in-Some-2 c =
    let args = c.args.args.now in
    let held = c.in-Some-2.field-0 in
    let vs = map value_of args.values in
    rw c.in-Some-2.is (read args.values (c.args.index - 1) c.get-in-Some-2.result
    c.get-in-Some-2.ensures ∙ sym (behind held.value vs c.args.index (omega arith)))
