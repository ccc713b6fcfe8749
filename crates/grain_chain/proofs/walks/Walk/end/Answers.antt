use Rattle.std.proofs.Common.{◌-◌, ℕ, true, false, refl, sym, subst, arith}
use Rattle.grain_value.specs.declared.values.Dynamic.{Dynamic}
use Rattle.grain_value.specs.declared.values.Dynamic.TheVariants as dynamic
use Rattle.grain_means.specs.Walks
use Rattle.grain_chain.specs.Walking.{place_of}
use Rattle.grain_chain.specs.Going.{Goes, rest, setting}
use Rattle.grain_chain.specs.declared.walks.Walk.{Walk}
use Rattle.grain_chain.proofs.Strides.{from_same}
use Rattle.grain_chain.proofs.Stepping.{needs_more}
use Rattle.grain_means.specs.Tasks.{WalkEnded, Write, Look}
use Rattle.grain_chain.specs.Walking.{assigned_by, operator_of}
use Rattle.grain_chain.specs.declared.origins.Ending.{Ending}
use Rattle.grain_chain.proofs.walks.Walk.end.Goals as goal

pub returns-in-Read-clause-goes : goal.returns-in-Read-clause-goes
returns-in-Read-clause-goes c =
    let w = c.args.self.now in
    let x = c.args.context in
    let w1 : Walk = record w { step = c.saturating_sub-self.result } in
    subst (λ (e : Ending). Goes x w (Walks.ended (setting x w) (Walks.role_at_end (assigned_by e w.value)
    (operator_of e)) (w.step - 1) (place_of w) (rest x w)) c.read.result c.read.new.self)
    (sym c.in-Read.is)
    (subst (λ (n : ℕ). Goes x w (Walks.at_mark n (rest x w) (Look (place_of w)
    (λ h. rest x w (WalkEnded h.value false)))) c.read.result c.read.new.self) c.saturating_sub-self.ensures
    (from_same x w w1 c.read.new.self _ c.read.result (λ k. refl) c.read.ensures.goes))

pub returns-in-Read-clause-needs : goal.returns-in-Read-clause-needs
returns-in-Read-clause-needs c =
    needs_more c.args.context.program.now c.read.new.self c.read.result _ _ c.read.ensures.needs
    (omega arith)

pub returns-in-Write-clause-goes : goal.returns-in-Write-clause-goes
returns-in-Write-clause-goes c =
    let w = c.args.self.now in
    let x = c.args.context in
    let w1 : Walk = record w { step = c.saturating_sub-self.result; value = c.replace-value.new.dest } in
    subst (λ (e : Ending). Goes x w (Walks.ended (setting x w) (Walks.role_at_end (assigned_by e w.value)
    (operator_of e)) (w.step - 1) (place_of w) (rest x w)) c.write.result c.write.new.self)
    (sym c.in-Write.is)
    (subst (λ (d : Dynamic). Goes x w (Walks.at_mark (w.step - 1) (rest x w) (Write (place_of w) d
    (rest x w (WalkEnded dynamic.Unit true)))) c.write.result c.write.new.self) c.replace-value.ensures.value
    (subst (λ (n : ℕ). Goes x w (Walks.at_mark n (rest x w) (Write (place_of w) c.replace-value.result
    (rest x w (WalkEnded dynamic.Unit true)))) c.write.result c.write.new.self) c.saturating_sub-self.ensures
    (from_same x w w1 c.write.new.self _ c.write.result (λ k. refl) c.write.ensures.goes)))

pub returns-in-Write-clause-needs : goal.returns-in-Write-clause-needs
returns-in-Write-clause-needs c =
    needs_more c.args.context.program.now c.write.new.self c.write.result _ _ c.write.ensures.needs
    (omega arith)

pub returns-in-Operate-clause-goes : goal.returns-in-Operate-clause-goes
returns-in-Operate-clause-goes c =
    let w = c.args.self.now in
    let x = c.args.context in
    let w1 : Walk = record w { step = c.saturating_sub-self.result } in
    subst (λ (e : Ending). Goes x w (Walks.ended (setting x w) (Walks.role_at_end (assigned_by e w.value)
    (operator_of e)) (w.step - 1) (place_of w) (rest x w)) c.operate.result c.operate.new.self)
    (sym c.in-Operate.is)
    (subst (λ (n : ℕ). Goes x w (Walks.operating (setting x w) n w.pos c.in-Operate.op w.value
    (place_of w) (rest x w)) c.operate.result c.operate.new.self) c.saturating_sub-self.ensures
    (from_same x w w1 c.operate.new.self _ c.operate.result (λ k. refl) c.operate.ensures.goes))

pub returns-in-Operate-clause-needs : goal.returns-in-Operate-clause-needs
returns-in-Operate-clause-needs c =
    needs_more c.args.context.program.now c.operate.new.self c.operate.result _ _ c.operate.ensures.needs
    (omega arith)
