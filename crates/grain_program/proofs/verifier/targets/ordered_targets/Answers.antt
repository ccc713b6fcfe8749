-- Cases first, then ranges, then the target of all other values.
use Rattle.std.proofs.Common.{List, ap, ◌∙◌}
use Rattle.grain_program.specs.declared.code.switches.Case.{Case}
use Rattle.grain_program.specs.declared.code.switches.SwitchRange.{SwitchRange}
use Rattle.grain_program.specs.Switches.{case_targets, range_targets, put_in_order}
use Rattle.grain_program.proofs.OrderedTargets.{all_put}
use Rattle.grain_program.proofs.verifier.targets.ordered_targets.Goals as goal

pub returns : goal.returns
returns c =
    all_put c.args.switch.now c.new-targets.result.keys c.add_cases.new.targets.keys
    c.add_ranges.new.targets.keys c.insert.new.self.keys c.new-targets.ensures.empty
    (c.in_ok-add_cases.ensures
    ∙ ap (λ (cs : List Case). put_in_order c.new-targets.result.keys (case_targets cs))
    c.as_slice.ensures)
    (c.in_ok-add_ranges.ensures
    ∙ ap (λ (rs : List SwitchRange). put_in_order c.add_cases.new.targets.keys (range_targets rs))
    c.as_slice-2.ensures)
    c.in_ok-insert.ensures.keys
