-- Two fields, after the name of the variant.
use Rattle.std.proofs.Common.{◌≡◌, ◌∙◌, [], ◌∷◌, codes, take, Result, Ok, Err, sym, ap}
use Rattle.grain_value.specs.Maps.{Entries, put_entry}
use Rattle.grain_value.specs.View.{tree}
use Rattle.grain_value.specs.declared.memory.OutOfMemory.{OutOfMemory}
use Rattle.grain_value.specs.declared.values.Dynamic.TheVariants as dynamic
use Rattle.grain_fault.specs.Problems.{Problem}
use Rattle.grain_fault.specs.Table.{Field}
use Rattle.grain_fault.specs.Texts.{fault_name}
use Rattle.grain_fault.specs.Fields.{Dumps, Puts, own_fields, put_fields}

abbrev with_field : Field → Entries → Entries
with_field f es = put_entry f.0 (tree f.1) es

abbrev name_field : Problem → Field
name_field x = (codes "error", dynamic.Text (fault_name x))

pub two_dumped : (x : Problem) (r : Result Unit OutOfMemory) (f g : Field)
    (old first second new : Entries) → own_fields x ≡ f ∷ g ∷ [] →
    first ≡ put_entry (codes "error") (tree (dynamic.Text (fault_name x))) old →
    second ≡ put_entry f.0 (tree f.1) first → Puts g r second new → Dumps x r old new
two_dumped x (Ok u) f g old first second new own named put_first put_second =
    put_second ∙ ap (with_field g) (put_first ∙ ap (with_field f) named)
    ∙ ap (λ fs. put_fields (name_field x ∷ fs) old) (sym own)
two_dumped x (Err e) f g old first second new own named put_first put_second = (
  2,
  put_second ∙ put_first ∙ ap (with_field f) named
      ∙ ap (λ fs. put_fields (take 2 (name_field x ∷ fs)) old) (sym own),
)
