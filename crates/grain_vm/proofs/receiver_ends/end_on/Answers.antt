-- The call ends with the receiver that it gave back.
use Rattle.std.proofs.Common.{◌∙◌, ◌∷◌, [], Option, sym, ap, subst}
use Rattle.grain_value.specs.declared.values.Held.{Held}
use Rattle.grain_means.specs.Means.{setup}
use Rattle.grain_means.specs.Rules.{held_or, receiver_over}
use Rattle.grain_chain.specs.Walking.{outcome_of}
use Rattle.grain_frame.specs.Abstraction.{ImplementsBound, frame_in, moment}
use Rattle.grain_vm.specs.Receivers.{destination_in}
use Rattle.grain_vm.proofs.receiver_ends.end_on.Goals as goal

pub returns-clause-implements : goal.returns-clause-implements
returns-clause-implements g c h host is =
    let f = c.args.frame.now in
    let s = c.args.run.now in
    let done = c.finish_call in
    subst (λ (x : Held). ImplementsBound (setup g.H.Host.law c.args.context.program.now
    c.args.context.engine.now) (moment f s c.args.steps.now host)
    (λ m place w. receiver_over m (destination_in c.args.destination) c.args.next (frame_in f s place) x
    (outcome_of c.args.outcome) w) (c.args.next ∷ []) 0 1 s.stacks.handlers done.result
    (moment done.new.frame done.new.run done.new.steps host))
    (ap (λ (o : Option Held). held_or c.in-Some.receiver o) (sym c.in-Some.is ∙ is))
    (done.ensures.implements host)
