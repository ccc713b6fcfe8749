-- Scopes as lists of entries.
use Rattle.std.specs.Prelude.{ℕ, zero, suc, ◌+◌, Bool, true, false, List, [], ◌∷◌, ◌++◌, Option, Some, None, bytes_eq, option_map, if◌then◌else◌}
use Rattle.std.specs.Option.{option_or}
use Rattle.grain_value.specs.declared.scopes.Entry.{Entry}
use Rattle.grain_value.specs.declared.values.Held.{Held}

abbrev pub held_of : Entry → Held
held_of e = e.held

-- an entry as it is declared: it has no alias
abbrev pub new_entry : List ℕ → Held → Entry
new_entry name h = record { name = name; held = h; aliases = [] }

-- the scope whose entry at the index holds this
abbrev pub set_held : List Entry → ℕ → Held → List Entry
set_held [] i held = []
set_held (e ∷ es) zero held = record e { held = held } ∷ es
set_held (e ∷ es) (suc i) held = e ∷ set_held es i held

-- the index of the last entry of the name
abbrev pub last_of : List ℕ → List Entry → Option ℕ
last_of name [] = None
last_of name (e ∷ es) =
    option_or (option_map (λ i. i + 1) (last_of name es))
    (if bytes_eq e.name name then Some 0 else None)

-- whether the alias is among these
abbrev pub has_alias : List ℕ → List (List ℕ) → Bool
has_alias alias [] = false
has_alias alias (a ∷ more) = if bytes_eq a alias then true else has_alias alias more

-- aliases and one more, unless it is among them
abbrev pub add_alias : List ℕ → List (List ℕ) → List (List ℕ)
add_alias alias known = if has_alias alias known then known else known ++ alias ∷ []

-- the scope whose entry at the index has this alias
abbrev pub set_alias : List Entry → ℕ → List ℕ → List Entry
set_alias [] i alias = []
set_alias (e ∷ es) zero alias = record e { aliases = add_alias alias e.aliases } ∷ es
set_alias (e ∷ es) (suc i) alias = e ∷ set_alias es i alias
