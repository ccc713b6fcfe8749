use Rattle.std.proofs.Common.{refl}
use Rattle.run_examples.specs.Budget.{budget_law}
use Rattle.run_examples.specs.Rules.{engine_of, start}
use Rattle.run_examples.specs.Reports.{left_of}
use Rattle.run_examples.proofs.Reporting.{reported}
use Rattle.run_examples.proofs.budget_report.Goals as goal

pub returns : goal.returns
returns g c =
    let rule = c.args.rule.now in
    let outcome = c.in_ok-outcome.outcome in
    reported budget_law left_of rule.program
    (engine_of rule.limits rule.fast_operators rule.strict_properties)
    (start rule.scope c.args.budget.now) c.run.new.scope outcome.cells c.run.new.host
    (left_of c.run.new.host) outcome.result outcome.trace.items c.in_ok-outcome.ensures
    refl c.left_report-text.result c.left_report-text.ensures
