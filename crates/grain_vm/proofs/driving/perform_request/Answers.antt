-- What a walk needs was asked of the host, and what came of it.
use Rattle.std.proofs.Common.{inl, inr, refl}
use Rattle.grain_fault.specs.declared.faults.EvalAltResult.TheVariants as fault
use Rattle.grain_means.specs.Rules.Homes.{Home, InScope}
use Rattle.grain_vm.proofs.Performing.{performs_asked, performs_memory, performs_race, same_flag}
use Rattle.grain_vm.proofs.driving.perform_request.Goals as goal

pub returns-in-Err-clause-same : goal.returns-in-Err-clause-same
returns-in-Err-clause-same g c = λ m named own k f seat done missed q go rs scope this seated rooted at.
    performs_memory g.H.Host.law g.met.H.Host.lawful m own k f seat done named missed c.args.request q go
    rs scope this c.args.run.now c.args.steps.now c.args.host.now seated rooted at fault.Memory refl

pub returns-in-None-clause-same : goal.returns-in-None-clause-same
returns-in-None-clause-same g c = λ m named own k f seat done missed q go rs scope this seated rooted at.
    performs_race g.H.Host.law g.met.H.Host.lawful m own k f seat done named missed c.args.request q go rs
    scope this c.args.run.now c.args.steps.now c.args.host.now seated rooted at c.raise_race.result
    c.raise_race.new.steps (rw c.in-None.is at c.in-Ok.ensures) c.raise_race.ensures.raised

pub returns-clause-same : goal.returns-clause-same
returns-clause-same g c = λ m named own k f seat done missed q go rs scope this seated rooted at.
    let read = rw c.in-Some.is at c.in-Ok.ensures in
    let home : Home = InScope 0 in
    rw c.ask_host.ensures.run (performs_asked g.H.Host.law g.met.H.Host.lawful m own k f seat done named
    missed c.args.request q go rs scope this c.args.run.now c.args.steps.now c.args.host.now seated rooted
    at read.0 read.1 home c.ask_host.result c.ask_host.new.steps c.ask_host.new.host
    (rw c.name_asked-name.ensures at (c.ask_host.ensures.asked read.0 home read.2)))

pub returns-in-Err-clause-does : goal.returns-in-Err-clause-does
returns-in-Err-clause-does g c = λ home. inl (refl, refl, refl, refl)

pub returns-in-None-clause-does : goal.returns-in-None-clause-does
returns-in-None-clause-does g c = λ home.
    inr (inl (rw c.in-None.is at c.in-Ok.ensures, (c.raise_race.ensures.raised, refl, refl)))

pub returns-clause-does : goal.returns-clause-does
returns-clause-does g c = λ home.
    let read = rw c.in-Some.is at c.in-Ok.ensures in
    inr (inr (
      read.0,
      read.1,
      rw c.name_asked-name.ensures at (c.ask_host.ensures.asked read.0 home read.2),
    ))

pub returns-in-Err-clause-lent : goal.returns-in-Err-clause-lent
returns-in-Err-clause-lent g c = same_flag c.args.request.receiver

pub returns-in-None-clause-lent : goal.returns-in-None-clause-lent
returns-in-None-clause-lent g c = same_flag c.args.request.receiver
