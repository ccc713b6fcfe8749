use Rattle.std.proofs.Common.{Bool, Some, None, Err, refl, sym, ◌∙◌, subst, arith}
use Rattle.grain_means.specs.Walks.{is_change}
use Rattle.grain_chain.specs.Walking.{origin_of}
use Rattle.grain_chain.specs.Going.{Goes, rest}
use Rattle.grain_chain.specs.declared.walks.Walk.{Walk}
use Rattle.grain_chain.proofs.Strides.{from_same}
use Rattle.grain_chain.proofs.Stepping.{needs_more}
use Rattle.grain_means.specs.Tasks.{WalkEnded}
use Rattle.grain_chain.proofs.Strides.{halts}
use Rattle.grain_chain.proofs.Tails.{pick_true, pick_false, goes_flat}
use Rattle.grain_chain.proofs.Halting.{flattening_halts}
use Rattle.grain_chain.proofs.walks.Walk.go_in.Goals as goal

pub returns-then-own-clause-goes : goal.returns-then-own-clause-goes
returns-then-own-clause-goes c =
    let w = c.args.self.now in
    let x = c.args.context in
    let w1 : Walk = record w { gives = c.args.value } in
    let o = origin_of c.args.into.origin in
    pick_true x w c.walk_back.new.self c.args.into.own (rest x w (WalkEnded c.args.value (is_change o))) _
    c.walk_back.result c.if-own.true
    (subst (λ (b : Bool). Goes x w (rest x w (WalkEnded c.args.value b)) c.walk_back.result
    c.walk_back.new.self)
    c.is_change.ensures
    (from_same x w w1 c.walk_back.new.self (rest x w (WalkEnded c.args.value c.is_change.result))
    c.walk_back.result (λ k. refl) c.walk_back.ensures.goes))

pub returns-then-own-clause-needs : goal.returns-then-own-clause-needs
returns-then-own-clause-needs c =
    needs_more c.args.context.program.now c.walk_back.new.self c.walk_back.result _ _
    c.walk_back.ensures.needs (omega arith)

pub returns-in_default-clause-goes : goal.returns-in_default-clause-goes
returns-in_default-clause-goes c =
    pick_false c.args.context c.args.self.now c.args.self.now c.args.into.own _ _ (Err _) c.if-own.false
    (flattening_halts c.args.context c.args.self.now c.args.into.pos c.args.value _
    (λ u. halts c.args.context c.args.self.now _))

pub returns-in-Some-clause-goes : goal.returns-in-Some-clause-goes
returns-in-Some-clause-goes c =
    pick_false c.args.context c.args.self.now c.go_on.new.self c.args.into.own _ _
    c.go_on.result c.if-own.false
    (goes_flat c.args.context c.args.self.now c.go_on.new.self c.args.into.pos c.args.value _
    (Some c.in-Some.content) c.go_on.result (sym c.in-Some.is ∙ c.in-Ok.ensures)
    c.go_on.ensures.goes)

pub returns-in-None-clause-goes : goal.returns-in-None-clause-goes
returns-in-None-clause-goes c =
    pick_false c.args.context c.args.self.now c.raise_data_race.new.self c.args.into.own _ _
    c.raise_data_race.result c.if-own.false
    (goes_flat c.args.context c.args.self.now c.raise_data_race.new.self c.args.into.pos c.args.value _
    None c.raise_data_race.result (sym c.in-None.is ∙ c.in-Ok.ensures)
    (c.raise_data_race.ensures.goes c.args.context))
