-- The walk so far, against where the loop began.
use Rattle.grain_means.specs.Means.{setup}
use Rattle.grain_vm.specs.Driving.{left_of}
use Rattle.grain_vm.proofs.Driven.{Driving}
use Rattle.grain_vm.proofs.driving.drive.Given as goal

abbrev pub invariant-answers : goal.invariant-answers
invariant-answers g l =
    Driving (setup g.H.Host.law l.context.program.now l.context.engine.now) l.initial.run l.run
    l.initial.steps l.steps l.initial.host l.host l.initial.walk l.walk l.initial.missed l.missed
    l.initial.answer l.answer

abbrev pub decreases-answers : goal.decreases-answers
decreases-answers g l = left_of l.context.program.now l.walk l.answer
