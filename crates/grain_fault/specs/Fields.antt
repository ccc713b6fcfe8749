-- The fields of faults, as a script sees them.
use Rattle.std.specs.Prelude.{◌≡◌, ℕ, List, [], ◌∷◌, take, codes, Result, Ok, Err, is_ok, if◌then◌else◌}
use Rattle.grain_value.specs.Maps.{Entries, put_entry}
use Rattle.grain_value.specs.View.{tree}
use Rattle.grain_value.specs.declared.memory.OutOfMemory.{OutOfMemory}
use Rattle.grain_value.specs.declared.values.Dynamic.TheVariants as dynamic
use Rattle.grain_fault.specs.Problems.{Problem, Plain, InFunctionCall, InModule, SystemError, NoMemory}
use Rattle.grain_fault.specs.Table.{Field, row, text_field}
use Rattle.grain_fault.specs.Texts.{fault_name}

-- the fields of the table; a fault that left a call or a module tells which
abbrev pub own_fields : Problem → List Field
own_fields (Plain k p) = (row k).fields
own_fields (InFunctionCall f s x p) =
    (codes "function", dynamic.Text f) ∷ (codes "source", dynamic.Text s) ∷ []
own_fields (InModule m x p) = text_field (codes "module") m
own_fields (SystemError s e) = []
own_fields NoMemory = []

-- the variant's name, as the field `error`, and then the fields of the table
abbrev pub fields_of : Problem → List Field
fields_of x = (codes "error", dynamic.Text (fault_name x)) ∷ own_fields x

-- the pairs of a map, once the fields are put in, in order
abbrev pub put_fields : List Field → Entries → Entries
put_fields [] es = es
put_fields (f ∷ fs) es = put_fields fs (put_entry f.0 (tree f.1) es)

-- the field is put into the map; where memory is out, the map is as it was
abbrev pub Puts : Field → Result Unit OutOfMemory → Entries → Entries → Type 0
Puts f r old new = new ≡ (if is_ok r then put_entry f.0 (tree f.1) old else old)

-- the fields are put into the map; where memory is out, the first n of them are
abbrev pub Dumps : Problem → Result Unit OutOfMemory → Entries → Entries → Type 0
Dumps x (Ok u) old new = new ≡ put_fields (fields_of x) old
Dumps x (Err e) old new = (n : ℕ) × (new ≡ put_fields (take n (fields_of x)) old)
