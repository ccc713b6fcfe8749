use Rattle.grain_host.specs.Tables.{table_law}
use Rattle.run_examples.specs.Rules.{engine_of, start}
use Rattle.run_examples.specs.Reports.{printed_by}
use Rattle.run_examples.proofs.Reporting.{reported}
use Rattle.run_examples.proofs.report_of.Goals as goal

pub returns : goal.returns
returns g c =
    let rule = c.args.rule.now in
    let outcome = c.in_ok-outcome.outcome in
    reported table_law printed_by rule.program
    (engine_of rule.limits rule.fast_operators rule.strict_properties)
    (start rule.scope c.args.rule.now.host) c.run.new.scope outcome.cells c.run.new.host
    c.printed.result.now outcome.result outcome.trace.items c.in_ok-outcome.ensures
    c.printed.ensures c.report-text.result c.report-text.ensures
