use Rattle.std.proofs.Common.{ℕ, Option, subst, ap, sym, ◌∙◌}
use Rattle.grain_program.specs.declared.code.chains.Tail.{Tail}
use Rattle.grain_program.specs.declared.code.chains.Tail.TheVariants as tail
use Rattle.grain_chain.specs.Walking.{ending_in, HasOperator}
use Rattle.grain_chain.specs.declared.origins.Ending.TheVariants as ending
use Rattle.grain_chain.proofs.contexts.ending_of.Goals as goal

pub returns-in-Read : goal.returns-in-Read
returns-in-Read c = ap (ending_in c.args.program.now) (sym c.in-Read.is ∙ c.tail_of.ensures)

pub assign_op-requires : goal.assign_op-requires
assign_op-requires c =
    subst (λ (t : Tail). HasOperator c.args.program.now t)
    (sym c.tail_of.ensures ∙ c.in-Assign.is ∙ ap (λ (o : Option ℕ). tail.Assign o) c.in-Some.is)
    c.requires

pub returns-in-None : goal.returns-in-None
returns-in-None c =
    ap (ending_in c.args.program.now)
    (sym (sym c.tail_of.ensures ∙ c.in-Assign.is ∙ ap (λ (o : Option ℕ). tail.Assign o) c.in-None.is))

pub returns-in-Some : goal.returns-in-Some
returns-in-Some c =
    ap ending.Operate c.assign_op.ensures
    ∙ ap (ending_in c.args.program.now)
    (sym (sym c.tail_of.ensures ∙ c.in-Assign.is ∙ ap (λ (o : Option ℕ). tail.Assign o) c.in-Some.is))
