-- The operand is a cell that is lent, or its value has a target.
use Rattle.std.proofs.Common.{◌≡◌, ◌∙◌, ℕ, [], ◌∷◌, Some, None, ⊎_elim, refl, sym, subst, ap, rules, arith}
use Rattle.grain_value.specs.Cells.{flat}
use Rattle.grain_value.specs.Operands.{top}
use Rattle.grain_fault.specs.Problems.{Plain, DataRace}
use Rattle.grain_program.specs.Effects.{switch_leads}
use Rattle.grain_program.specs.Switches.{switch_target}
use Rattle.grain_program.specs.Typing.{In}
use Rattle.grain_program.specs.View.{position_of, switch_of}
use Rattle.grain_program.specs.laws.SwitchTargets.{switch_lands}
use Rattle.grain_program.specs.declared.code.switches.Switch.{Switch}
use Rattle.grain_means.specs.Rules.{race_text}
use Rattle.grain_frame.specs.lemmas.Arms.{implements_after}
use Rattle.grain_frame.specs.lemmas.Failing.{raises_here}
use Rattle.grain_frame.proofs.runs.Run.switch_on.Goals as goal

pub returns-in_default : goal.returns-in_default
returns-in_default g c =
    let p = c.args.context.program.now in
    let s = c.args.self.now in
    let f = c.args.frame.now in
    let none : flat s.cells (top s.stacks.operands).value ≡ None = search rules in
    record {
      performs = raises_here g.H.Host.law p c.args.context.engine.now f s
          c.data_race.new.self c.args.steps.now c.data_race.new.steps c.args.host.now
          (Plain (DataRace (race_text [])) (position_of p f.address)) c.data_race.result
          c.data_race.ensures c.requires.ready.inside (λ stop u place. rw none refl);
    }

pub returns : goal.returns
returns g c =
    let p = c.args.context.program.now in
    let s = c.args.self.now in
    let f = c.args.frame.now in
    let v = c.in-Some.value.now in
    let read : flat s.cells (top s.stacks.operands).value ≡ Some v = search rules in
    let to : c.target_of-target.result ≡ switch_target (switch_of p c.args.index) v =
    c.target_of-target.ensures
    ∙ ap (λ (x : Switch). switch_target x v) (c.switch-switch.ensures ∙ ap (switch_of p) c.from.ensures) in
    let among : (b : ℕ) → In b (c.target_of-target.result ∷ []) → In b (switch_leads p c.args.index) =
    λ b i. ⊎_elim (λ e. subst (λ (x : ℕ). In x (switch_leads p c.args.index)) (sym (e ∙ to))
    (switch_lands p c.args.index v c.requires.pools.0)) (λ no. absurd no) i in
    record {
      performs = implements_after g.H.Host.law p c.args.context.engine.now f c.jump_to.new.frame s
          c.jump_to.new.self c.args.steps.now c.jump_to.new.steps s.stacks s.stacks.operands
          c.args.host.now c.jump_to.new.host refl c.jump_to.ensures.implements
          (λ stop u place. rw (read, ← to) refl) among (omega arith) (omega arith);
    }
