use Rattle.std.proofs.Common.{refl}
use Rattle.run_examples.specs.Prices.{price_law}
use Rattle.run_examples.specs.Rules.{engine_of, start}
use Rattle.run_examples.specs.Reports.{charged_to}
use Rattle.run_examples.proofs.Reporting.{reported}
use Rattle.run_examples.proofs.charges_of.Goals as goal

pub returns : goal.returns
returns g c =
    let rule = c.args.rule.now in
    let outcome = c.in_ok-outcome.outcome in
    reported price_law charged_to rule.program
    (engine_of rule.limits rule.fast_operators rule.strict_properties)
    (start rule.scope c.args.list.now) c.run.new.scope outcome.cells c.run.new.host
    (charged_to c.run.new.host) outcome.result outcome.trace.items c.in_ok-outcome.ensures
    refl c.charged_report-text.result c.charged_report-text.ensures
