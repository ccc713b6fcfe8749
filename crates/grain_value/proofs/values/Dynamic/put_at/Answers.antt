use Rattle.std.proofs.Common.{ap, ◌∙◌}
use Rattle.grain_value.specs.View.{tree}
use Rattle.grain_value.specs.laws.Same.{value_is}
use Rattle.grain_value.specs.Paths.{put}
use Rattle.grain_value.proofs.values.Dynamic.put_at.Goals as goal

pub returns-clause-left : goal.returns-clause-left
returns-clause-left c =
    value_is _ _ (c.put_steps.ensures.left ∙ ap (λ p. put p (tree c.args.value) (tree
    c.args.self.now)) c.as_slice.ensures)
