-- What is reported of an example.
use Rattle.std.specs.Prelude.{ℕ, List, pos, codes}
use Rattle.grain_host.specs.Tables.{table_law}
use Rattle.run_examples.specs.Budget.{budget_of, budget_law}
use Rattle.run_examples.specs.Prices.{empty, listed, price_law}
use Rattle.run_examples.specs.Rules.{engine_of, start}
use Rattle.run_examples.specs.Reports.{Reported, printed_by, charged_to, left_of}
use Rattle.run_examples.specs.declared.ExampleHost.{ExampleHost}
use Rattle.run_examples.specs.declared.ExampleHost.TheVariants as host
use Rattle.run_examples.specs.declared.prices.PriceList.{PriceList}
use Rattle.run_examples.specs.declared.rules.Rule.{Rule}

-- the price list over which three examples run
abbrev pub shipped_list : PriceList
shipped_list = listed (codes "plum") (pos 250) (listed (codes "pear") (pos 120) empty)

-- the text is the report of how the rule's run ends over its own host, over the price list, or over a
-- budget of 50 operations
abbrev pub ReportedOver : ExampleHost → Rule → List ℕ → Type 0
ReportedOver host.Table r text =
    Reported table_law printed_by r.program (engine_of r.limits r.fast_operators r.strict_properties)
    (start r.scope r.host) text
ReportedOver host.Prices r text =
    Reported price_law charged_to r.program (engine_of r.limits r.fast_operators r.strict_properties)
    (start r.scope shipped_list) text
ReportedOver host.Budget r text =
    Reported budget_law left_of r.program (engine_of r.limits r.fast_operators r.strict_properties)
    (start r.scope (budget_of 50)) text
