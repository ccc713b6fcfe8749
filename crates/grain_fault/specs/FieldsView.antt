-- The fields of a fault, as the code has them.
use Rattle.std.specs.Prelude.{List, [], ◌∷◌}
use Rattle.grain_value.specs.declared.values.Dynamic.{Dynamic}
use Rattle.grain_value.specs.declared.values.Dynamic.TheVariants as dynamic
use Rattle.grain_fault.specs.Table as table
use Rattle.grain_fault.specs.declared.fields.Content.{Content}
use Rattle.grain_fault.specs.declared.fields.Content.TheVariants as content
use Rattle.grain_fault.specs.declared.fields.Field.{Field}
use Rattle.grain_fault.specs.declared.fields.Fields.{Fields}
use Rattle.grain_fault.specs.declared.fields.Fields.TheVariants as fields

abbrev pub value_of_content : Content → Dynamic
value_of_content (content.Text t) = dynamic.Text t.now
value_of_content (content.Integer n) = dynamic.Int n
value_of_content (content.Value v) = v.now
value_of_content (content.Values vs) = dynamic.Array vs.now

abbrev pub field_of : Field → table.Field
field_of f = (f.name.now, value_of_content f.content)

abbrev pub fields_in : Fields → List table.Field
fields_in fields.None = []
fields_in (fields.One f) = field_of f ∷ []
fields_in (fields.Two f g) = field_of f ∷ field_of g ∷ []
