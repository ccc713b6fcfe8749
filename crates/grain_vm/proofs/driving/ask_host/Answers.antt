-- What was asked of the host, and what came of it.
use Rattle.std.proofs.Common.{inl, inr, refl}
use Rattle.grain_vm.proofs.Performing.{heard_apart, heard_flag, same_flag}
use Rattle.grain_vm.proofs.driving.ask_host.Goals as goal

pub returns-in-Err-clause-asked : goal.returns-in-Err-clause-asked
returns-in-Err-clause-asked g c = λ args home described. inl (refl, refl, refl, refl)

pub returns-in-Fault-clause-asked : goal.returns-in-Fault-clause-asked
returns-in-Fault-clause-asked g c = λ args home described.
    inr (inl (rw c.in-Fault.is at (c.in-Ok.ensures args home described), refl, refl, c.mark.ensures))

pub returns-in-Native-clause-asked : goal.returns-in-Native-clause-asked
returns-in-Native-clause-asked g c = λ args home described.
    inr (inr (
      c.in-Native.key,
      c.in-Native.values,
      rw c.in-Native.is at (c.in-Ok.ensures args home described),
      c.call_lending.ensures.heard,
    ))

pub returns-in-Err-clause-lent : goal.returns-in-Err-clause-lent
returns-in-Err-clause-lent g c = same_flag c.args.receiver

pub returns-in-Fault-clause-lent : goal.returns-in-Fault-clause-lent
returns-in-Fault-clause-lent g c = same_flag c.args.receiver

pub returns-in-Native-clause-lent : goal.returns-in-Native-clause-lent
returns-in-Native-clause-lent g c =
    heard_flag g.H.Host.law c.args.host.now c.in-Native.key c.args.receiver c.in-Native.values
    c.args.position c.args.steps.now c.call_lending.result c.call_lending.new.steps
    c.call_lending.new.host c.call_lending.ensures.heard

pub returns-in-Native-clause-apart : goal.returns-in-Native-clause-apart
returns-in-Native-clause-apart g c =
    heard_apart g.H.Host.law c.args.host.now c.in-Native.key c.args.receiver c.in-Native.values
    c.args.position c.args.steps.now c.call_lending.result c.call_lending.new.steps
    c.call_lending.new.host c.call_lending.ensures.heard
