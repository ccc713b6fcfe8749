-- Where a value stands among numbered roots, and what is read and put there.
use Rattle.std.specs.Prelude.{◌≡◌, ◌⊎◌, suc, List, [], ◌∷◌, ◌++◌, Option, Some, None, Result, Ok, Err, option_map, slice_get, slice_set}
use Rattle.grain_value.specs.Tree.{Tree}
use Rattle.grain_value.specs.View.{tree, value_of}
use Rattle.grain_value.specs.Operands.{read_write}
use Rattle.grain_value.specs.declared.values.Dynamic.{Dynamic}
use Rattle.grain_value.specs.declared.values.Dynamic.TheVariants as dynamic
use Rattle.grain_value.specs.declared.values.Held.{Held}
use Rattle.grain_value.specs.Paths.{at, put_value}
use Rattle.grain_value.specs.declared.values.paths.PathStep.{PathStep}
use Rattle.grain_value.specs.declared.values.value_faults.ValueFault.{ValueFault}
use Rattle.grain_means.specs.Worlds.{Place}

abbrev pub or_unit : Option Held → Held
or_unit None = read_write dynamic.Unit
or_unit (Some h) = h

abbrev pub reached : Result Tree ValueFault → Option Dynamic
reached (Ok t) = Some (value_of t)
reached (Err e) = None

-- what is held at the end of a path, if the path leads somewhere: it has the flag of its root
abbrev pub along : List PathStep → Option Held → Option Held
along path None = None
along path (Some h) = option_map (λ v. record h { value = v }) (reached (at path (tree h.value)))

-- what stands at a place, if there is something
abbrev pub find : List Held → Place → Option Held
find roots p = along p.path (slice_get roots p.root)

-- what stands at a place; at a place that is not there, unit
abbrev pub look : List Held → Place → Held
look roots p = or_unit (find roots p)

abbrev pub put_held : List PathStep → Dynamic → Held → Held
put_held path v h = record h { value = put_value path v h.value }

-- the roots, with a value at a place
abbrev pub put : List Held → Place → Dynamic → List Held
put roots p v = slice_set roots p.root (put_held p.path v (or_unit (slice_get roots p.root)))

-- one step further down
abbrev pub deeper : Place → PathStep → Place
deeper p s = record p { path = p.path ++ s ∷ [] }

-- the whole of the root after that of a place
abbrev pub next_root : Place → Place
next_root p = record { root = suc p.root; path = [] }

-- two paths part: after a common beginning they have different steps
abbrev pub Part : List PathStep → List PathStep → Type 0
Part [] q = ⊥
Part (s ∷ p) [] = ⊥
Part (s ∷ p) (r ∷ q) = (s ≡ r → ⊥) ⊎ ((s ≡ r) × Part p q)
