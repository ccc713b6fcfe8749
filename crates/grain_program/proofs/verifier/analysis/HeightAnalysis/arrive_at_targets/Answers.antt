-- A second shape comes to the lowest target alone.
use Rattle.std.proofs.Common.{◌≡◌, ℕ, List, Option, Some, Ok, sym, ap, subst, ◌∙◌}
use Rattle.std.specs.Prelude.{slice_get}
use Rattle.grain_program.specs.View.{view_of}
use Rattle.grain_program.specs.Effects.{switch_leads}
use Rattle.grain_program.specs.Switches.{targets_if, in_order}
use Rattle.grain_program.specs.declared.code.switches.Switch.{Switch}
use Rattle.grain_program.specs.Numbered.{shape_of, state_of}
use Rattle.grain_program.specs.Typing.{arrive_all}
use Rattle.grain_program.specs.Reached.{AreReached}
use Rattle.grain_program.proofs.ArrivingAt.{at_all}
use Rattle.grain_program.proofs.Searched.{places}
use Rattle.grain_program.proofs.Reaching.{again, again_kept, noted_all}
use Rattle.grain_program.proofs.verifier.analysis.HeightAnalysis.arrive_at_targets.Goals as goal

pub returns-in-Some-lowest-clause-exact : goal.returns-in-Some-lowest-clause-exact
returns-in-Some-lowest-clause-exact c =
    again (view_of c.args.parts.now) c.args.index c.in-Some-lowest.lowest
    (shape_of c.args.self.now.lists c.args.shape) (state_of c.args.self.now)
    (state_of c.arrive.new.self)
    (c.requires.reached c.args.index c.in-Some-lowest.lowest (sym c.in-Some-lowest.ensures))
    c.arrive.result c.arrive.ensures.exact

pub returns-in-Some-lowest-clause-reached : goal.returns-in-Some-lowest-clause-reached
returns-in-Some-lowest-clause-reached c =
    again_kept (view_of c.args.parts.now) c.args.index c.in-Some-lowest.lowest
    (shape_of c.args.self.now.lists c.args.shape) (state_of c.args.self.now)
    (state_of c.arrive.new.self)
    (c.requires.reached c.args.index c.in-Some-lowest.lowest (sym c.in-Some-lowest.ensures))
    c.args.reached.now c.arrive.result c.arrive.ensures.exact c.requires.reached

pub returns-clause-reached : goal.returns-clause-reached
returns-clause-reached c =
    let p = view_of c.args.parts.now in
    let s = shape_of c.args.self.now.lists c.args.shape in
    let here : slice_get c.args.parts.now.switches c.args.index ≡ Some c.in-Some.switch.now =
    sym c.in-Some.ensures in
    let keys : c.in-Ok.targets.keys ≡ switch_leads p c.args.index =
    c.in-Ok.ensures ∙ ap (λ (o : Option Switch). in_order (targets_if o)) (sym here) in
    let come : arrive_all (at_all s (switch_leads p c.args.index)) (state_of c.args.self.now)
    ≡ Ok (state_of c.arrive_at.new.self) =
    ap (λ (l : List ℕ). arrive_all (at_all s l) (state_of c.args.self.now)) (sym keys)
    ∙ c.in_ok-arrive_at.ensures.exact in
    subst (λ (l : List (Option ℕ)). AreReached p l (state_of c.arrive_at.new.self))
    (sym c.note.ensures)
    (noted_all p c.args.reached.now c.args.index c.lowest_of-lowest.result s
    (state_of c.args.self.now) (state_of c.arrive_at.new.self) c.in-Ok.targets.keys
    (sym (places c.args.self.now)) c.requires.within keys come c.lowest_of-lowest.ensures
    c.requires.reached)
