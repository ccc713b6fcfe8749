-- Which rule a listing says, and how the run of one ends.
use Rattle.std.specs.Prelude.{◌≡◌, ℕ, min, Bool, true, List, [], Result, Ok, Err, ⊤}
use Rattle.grain_value.specs.declared.values.Dynamic.{Dynamic}
use Rattle.grain_value.specs.declared.values.Limits.{Limits}
use Rattle.grain_value.specs.declared.scopes.Entry.{Entry}
use Rattle.grain_fault.specs.declared.faults.EvalAltResult.{EvalAltResult}
use Rattle.grain_fault.specs.declared.traces.Fault.{Fault}
use Rattle.grain_host.specs.Law.{Law}
use Rattle.grain_program.specs.Typing.{IsProgram, IsRefusal}
use Rattle.grain_program.specs.View.{View}
use Rattle.grain_global.specs.declared.engines.Engine.{Engine}
use Rattle.grain_means.specs.Means.{Begin, Evaluates}
use Rattle.grain_vm.specs.Machines.{begin, finish}
use Rattle.grain_global.specs.declared.states.GlobalRuntimeState.{GlobalRuntimeState}
use Rattle.grain_value.specs.declared.stores.Cell.{Cell}
use Rattle.grain_listing.specs.Reading.{ListingView}
use Rattle.grain_listing.specs.declared.reasons.BadLine.{BadLine}
use Rattle.run_examples.specs.declared.rules.Rule.{Rule}
use Rattle.run_examples.specs.declared.rules.RuleError.{RuleError}
use Rattle.run_examples.specs.declared.rules.RuleError.TheVariants.{NoListing, Refused, OutOfMemory}

-- the limits of a listing, with no more operations than the host allows
abbrev pub capped : Limits → Limits
capped limits = record {
  operations = min limits.operations 1000000;
  levels = limits.levels;
  variables = limits.variables;
  modules = limits.modules;
  text = limits.text;
  array = limits.array;
  map = limits.map;
}

-- what the bytes read to is this rule: a valid program, with its limits, its flags, its host and
-- its scope
pub record IsRule (said : Result ListingView BadLine) (rule : Rule) : Type 0 where
  pub set_up : ListingView
  pub read : said ≡ Ok set_up
  pub parts : rule.program ≡ set_up.parts
  pub valid : IsProgram set_up.parts
  pub limited : rule.limits ≡ capped set_up.limits
  pub flagged : rule.fast_operators ≡ set_up.fast_operators
  pub strict : rule.strict_properties ≡ set_up.strict_properties
  pub hosted : rule.host ≡ set_up.host
  pub begun : rule.scope ≡ set_up.scope

-- why what the bytes read to is no rule; want of memory has no reason
abbrev pub IsReason : Result ListingView BadLine → RuleError → Type 0
IsReason said (NoListing bad) = said ≡ Err bad
IsReason said (Refused refusal) = (s : ListingView) × (said ≡ Ok s) × IsRefusal s.parts refusal
IsReason said OutOfMemory = ⊤

-- limits, and whether operators are fast and properties strict; natives may call functions back
abbrev pub engine_of : Limits → Bool → Bool → Engine
engine_of limits fast_operators strict_properties = record {
  limits = limits;
  fast_operators = fast_operators;
  strict_properties = strict_properties;
  callbacks = true;
}

-- The scope, without cells, with a host. Nothing was run before.
abbrev pub start : {S : Type 0} → List Entry → S → Begin S
start scope host = begin scope [] host (record { num_operations = 0; level = 0 })

-- The program's run under the engine, from the beginning on, ends with this result and this trace,
-- and leaves the scope, the cells and the host. Where memory was out, it is the run stopped at some point.
pub record Ran {S : Type 0} (law : Law S) (program : View) (engine : Engine) (first : Begin S)
    (scope : List Entry) (cells : List Cell) (host : S) (result : Result Dynamic EvalAltResult)
    (trace : List Fault) : Type 0 where
  pub instructions : ℕ
  pub global : GlobalRuntimeState
  pub evaluates : Evaluates law program engine first result (finish trace scope cells host global)
      instructions
