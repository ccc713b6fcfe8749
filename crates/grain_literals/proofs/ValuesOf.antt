-- A value that was read, and its tree.
use Rattle.std.proofs.Common.{◌≡◌, ℕ, List, Ok, Err, Some, None, ap, sym, ◌∙◌}
use Rattle.grain_value.specs.View.{value_of, tree}
use Rattle.grain_value.specs.laws.Same.{value_of-tree}
use Rattle.grain_value.specs.declared.values.Dynamic.{Dynamic}
use Rattle.grain_literals.specs.Steps.{present}
use Rattle.grain_literals.specs.Values.{made, value}
use Rattle.grain_literals.specs.Literals.{Valued, literal}
use Rattle.grain_literals.specs.declared.reasons.Reason.TheVariants.{BadValue}

pub literal_found : (v : Dynamic) (rest cs : List ℕ) → Some (tree v, rest) ≡ value 64 cs →
    (let r : Valued = Ok (v, rest) in r) ≡ literal cs
literal_found v rest cs e =
    ap (λ (d : Dynamic). (let r : Valued = Ok (d, rest) in r)) (sym (value_of-tree v)) ∙
    ap (λ o. present BadValue (made value_of o)) e

pub no_literal : (cs : List ℕ) → None ≡ value 64 cs →
    (let r : Valued = Err BadValue in r) ≡ literal cs
no_literal cs e = ap (λ o. present BadValue (made value_of o)) e
