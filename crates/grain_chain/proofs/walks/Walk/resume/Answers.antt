use Rattle.std.proofs.Common.{◌≡◌, ℕ, sym, ap, ◌∙◌, subst}
use Rattle.grain_chain.specs.Going.{Goes, Needs}
use Rattle.grain_chain.specs.declared.walks.Walk.{Walk}
use Rattle.grain_chain.specs.Walking.{resumed, still, IsAtStep}
use Rattle.grain_chain.specs.declared.origins.Awaited.{Awaited}
use Rattle.grain_chain.proofs.Ends.{settled_needs, resumes, taken_up, same_step, same_still}
use Rattle.grain_chain.specs.declared.contexts.Context.{Context}
use Rattle.grain_chain.specs.laws.Told.{resume_rooted, carries}
use Rattle.grain_chain.specs.Walking.{outcome_of}
use Rattle.grain_chain.proofs.Ends.{same_awaits}
use Rattle.grain_chain.proofs.walks.Walk.resume.Goals as goal

pub take_outcome-went-requires : goal.take_outcome-went-requires
take_outcome-went-requires c =
    let x : Context = record { engine = c.args.engine; program = c.args.program; cells = c.args.cells } in
    let p = c.args.program.now in
    let w = c.args.self.now in
    let q = c.replace-awaits.new.dest in
    let s = c.replace-awaits.result in
    let b = outcome_of c.args.outcome in
    let same : s ≡ w.awaits =
    c.replace-awaits.ensures.value ∙ ap (λ (u : Walk). u.awaits) c.take_back.ensures
    ∙ same_awaits w c.args.receiver in
    subst (λ (z : Walk). let u : Walk = record z { awaits = q } in IsAtStep p u s)
    (sym c.take_back.ensures)
    (subst (λ (a : Awaited). IsAtStep p (taken_up w c.args.receiver q) a) (sym same)
    (same_step c.args.engine.now p w q c.args.receiver w.awaits c.requires.step))

pub returns-clause-did : goal.returns-clause-did
returns-clause-did c =
    let x : Context = record { engine = c.args.engine; program = c.args.program; cells = c.args.cells } in
    let p = c.args.program.now in
    let w = c.args.self.now in
    let q = c.replace-awaits.new.dest in
    let s = c.replace-awaits.result in
    let b = outcome_of c.args.outcome in
    let same : s ≡ w.awaits =
    c.replace-awaits.ensures.value ∙ ap (λ (u : Walk). u.awaits) c.take_back.ensures
    ∙ same_awaits w c.args.receiver in
    let one = subst (λ (z : Walk). let u : Walk = record z { awaits = q } in
    Goes x u (resumed x.engine.now p u s b) c.take_outcome-went.result c.take_outcome-went.new.self)
    c.take_back.ensures c.take_outcome-went.ensures.goes in
    let two = subst (λ (a : Awaited). let u = taken_up w c.args.receiver q in
    Goes x u (resumed x.engine.now p u a b) c.take_outcome-went.result c.take_outcome-went.new.self)
    same one in
    resumes x w c.take_outcome-went.new.self c.settle.new.self c.args.receiver q w.awaits b
    c.take_outcome-went.result c.settle.result two c.settle.ensures

pub returns-clause-falls : goal.returns-clause-falls
returns-clause-falls c =
    let x : Context = record { engine = c.args.engine; program = c.args.program; cells = c.args.cells } in
    let p = c.args.program.now in
    let w = c.args.self.now in
    let q = c.replace-awaits.new.dest in
    let s = c.replace-awaits.result in
    let b = outcome_of c.args.outcome in
    let same : s ≡ w.awaits =
    c.replace-awaits.ensures.value ∙ ap (λ (u : Walk). u.awaits) c.take_back.ensures
    ∙ same_awaits w c.args.receiver in
    let one = subst (λ (z : Walk). let u : Walk = record z { awaits = q } in
    Needs p c.take_outcome-went.new.self c.take_outcome-went.result (still p u s)) c.take_back.ensures
    c.take_outcome-went.ensures.needs in
    let two = subst (λ (a : Awaited). Needs p c.take_outcome-went.new.self c.take_outcome-went.result
    (still p (taken_up w c.args.receiver q) a)) same one in
    settled_needs p c.take_outcome-went.new.self c.settle.new.self c.take_outcome-went.result
    c.settle.result _ (subst (λ (n : ℕ). Needs p c.take_outcome-went.new.self c.take_outcome-went.result n)
    (same_still c.args.engine.now p w q c.args.receiver w.awaits) two) c.settle.ensures

pub returns-clause-carries : goal.returns-clause-carries
returns-clause-carries c =
    carries c.args.engine.now c.args.program.now c.args.cells.now c.args.self.now c.settle.new.self
    c.args.receiver c.args.outcome c.settle.result (returns-clause-did c)

pub returns-clause-rooted : goal.returns-clause-rooted
returns-clause-rooted c =
    resume_rooted c.args.engine.now c.args.program.now c.args.cells.now c.args.self.now
    c.settle.new.self c.args.receiver _ c.settle.result (returns-clause-did c)
