use Rattle.std.proofs.Common.{Some, ap, ◌∙◌}
use Rattle.grain_value.specs.Looking.{pointer_of}
use Rattle.grain_chain.proofs.Named.{same_target}
use Rattle.grain_chain.proofs.walks.Walk.pointer_there.Goals as goal

pub returns-in-None : goal.returns-in-None
returns-in-None c = λ v stands.
    c.in-None.ensures
    ∙ ap pointer_of (same_target c.args.self.now.trail c.target.result.now v c.target.ensures stands)

pub returns-in_ok-copy-in-Some : goal.returns-in_ok-copy-in-Some
returns-in_ok-copy-in-Some c = λ v stands.
    ap Some c.in_ok-copy-in-Some.ensures ∙ c.in-Some.ensures
    ∙ ap pointer_of (same_target c.args.self.now.trail c.target.result.now v c.target.ensures stands)
