-- Modules: what stands in one under a name, a name and kinds, or a kind.
use Rattle.std.specs.Prelude.{ℕ, ◌&&◌, ◌==◌, List, [], ◌∷◌, Option, Some, None, bytes_eq, if◌then◌else◌}
use Rattle.grain_value.specs.declared.values.Dynamic.{Dynamic}
use Rattle.grain_value.specs.declared.natives.Native.{Native}
use Rattle.grain_module.specs.declared.modules.ModuleVariable.{ModuleVariable}
use Rattle.grain_module.specs.declared.modules.ModuleFunction.{ModuleFunction}
use Rattle.grain_module.specs.declared.modules.ModuleIterator.{ModuleIterator}

-- a module, without where it lies in memory; each list in the order in which it was filled
pub record ModuleView : Type 0 where
  pub variables : List ModuleVariable
  pub functions : List ModuleFunction
  pub iterators : List ModuleIterator
  pub id : Option (List ℕ)

abbrev pub empty_module : ModuleView
empty_module = record { variables = []; functions = []; iterators = []; id = None }

-- the value of the first variable of the name
abbrev pub variable_named : List ℕ → List ModuleVariable → Option Dynamic
variable_named name [] = None
variable_named name (v ∷ vs) =
    if bytes_eq v.name name then Some v.value else variable_named name vs

-- the first function of the name and of these kinds
abbrev pub function_of : List ℕ → List ℕ → List ModuleFunction → Option Native
function_of name kinds [] = None
function_of name kinds (f ∷ fs) =
    if bytes_eq f.name name && bytes_eq f.kinds kinds then Some f.native
    else function_of name kinds fs

-- the same among those that are marked global
abbrev pub global_function_of : List ℕ → List ℕ → List ModuleFunction → Option Native
global_function_of name kinds [] = None
global_function_of name kinds (f ∷ fs) =
    if f.global && (bytes_eq f.name name && bytes_eq f.kinds kinds) then Some f.native
    else global_function_of name kinds fs

-- the number of the first iterator of the kind
abbrev pub iterator_of : ℕ → List ModuleIterator → Option ℕ
iterator_of kind [] = None
iterator_of kind (i ∷ is) = if i.kind == kind then Some i.number else iterator_of kind is
