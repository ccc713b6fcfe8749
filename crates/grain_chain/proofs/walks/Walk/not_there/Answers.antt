use Rattle.std.proofs.Common.{ℕ, List, Err, sym, ap, ◌∙◌, subst}
use Rattle.grain_value.specs.declared.values.Dynamic.{Dynamic}
use Rattle.grain_means.specs.Walks
use Rattle.grain_chain.specs.Walking.{place_of, role_in}
use Rattle.grain_chain.specs.Going.{Goes, Takes, rest, setting, next_step, with_value}
use Rattle.grain_chain.proofs.Strides.{stops_takes}
use Rattle.grain_chain.proofs.Roots.{stops_need}
use Rattle.grain_chain.specs.Standings.{Stands}
use Rattle.grain_chain.specs.Walking.{operand_of}
use Rattle.grain_chain.proofs.Named.{same_target}
use Rattle.grain_chain.proofs.Spots.{no_key_of}
use Rattle.std.proofs.Common.{rules, w64, FitsSigned}
use Rattle.std.proofs.lemmas.Int.{to_z-of_z}
use Rattle.grain_value.specs.Writing.{type_name_of}
use Rattle.grain_fault.specs.Problems.{Problem, Plain, MismatchDataType}
use Rattle.grain_value.specs.declared.values.value_faults.ValueFault.{ValueFault}
use Rattle.grain_chain.proofs.walks.Walk.not_there.Goals as goal

pub returns-in-Bounds-clause-takes : goal.returns-in-Bounds-clause-takes
returns-in-Bounds-clause-takes c = λ v stands.
    let fits : FitsSigned w64 c.in-Bounds.place = search rules in
    let w = c.args.self.now in
    let x = c.args.context in
    let same = same_target w.trail c.target.result.now v c.target.ensures stands in
    subst (λ (y : ValueFault). Takes x w (Walks.indexed (setting x w) w.step c.args.pos c.args.bracket
    (role_in c.args.role w.value) (operand_of w c.args.operand) c.args.index (with_value w v)
    (next_step x w) (place_of w) (rest x w) (Err y)) c.stopping.result c.raise.new.self) (sym c.in-Bounds.is)
    (stops_takes x w c.raise.new.self _ c.raise.result c.stopping.result c.stopping.ensures
    (subst (λ (y : Problem). Goes x w (Walks.failing w.step y (rest x w)) c.raise.result c.raise.new.self)
    (rw (to_z-of_z w64 c.in-Bounds.place fits) at c.out_of_bounds-fault.ensures
    ∙ ap (λ (d : Dynamic). Plain (Walks.out_of_bounds d c.in-Bounds.length c.in-Bounds.place)
    c.args.pos) same)
    (c.raise.ensures.goes x)))

pub returns-in-Bounds-clause-needs : goal.returns-in-Bounds-clause-needs
returns-in-Bounds-clause-needs c = λ n.
    stops_need c.args.context.program.now c.raise.new.self c.raise.result c.stopping.result n
    c.stopping.ensures (c.raise.ensures.needs c.args.context.program.now n)

pub returns-in_ok-fault-in-WrongType-clause-takes : goal.returns-in_ok-fault-in-WrongType-clause-takes
returns-in_ok-fault-in-WrongType-clause-takes c = λ v stands.
    let w = c.args.self.now in
    let x = c.args.context in
    let same = same_target w.trail c.target-in-WrongType.result.now v c.target-in-WrongType.ensures stands in
    subst (λ (y : ValueFault). Takes x w (Walks.indexed (setting x w) w.step c.args.pos c.args.bracket
    (role_in c.args.role w.value) (operand_of w c.args.operand) c.args.index (with_value w v)
    (next_step x w) (place_of w) (rest x w) (Err y)) c.stopping-in-WrongType.result
    c.raise-in-WrongType.new.self) (sym c.in-WrongType.is)
    (stops_takes x w c.raise-in-WrongType.new.self _ c.raise-in-WrongType.result
    c.stopping-in-WrongType.result c.stopping-in-WrongType.ensures
    (subst (λ (y : Problem). Goes x w (Walks.failing w.step y (rest x w)) c.raise-in-WrongType.result
    c.raise-in-WrongType.new.self)
    (c.in_ok-fault-in-WrongType.ensures
    ∙ ap (λ (d : Dynamic). Plain (MismatchDataType (Walks.index_type d) (type_name_of c.args.index))
    c.args.pos) same)
    (c.raise-in-WrongType.ensures.goes x)))

pub returns-in_ok-fault-in-WrongType-clause-needs : goal.returns-in_ok-fault-in-WrongType-clause-needs
returns-in_ok-fault-in-WrongType-clause-needs c = λ n.
    stops_need c.args.context.program.now c.raise-in-WrongType.new.self c.raise-in-WrongType.result
    c.stopping-in-WrongType.result n c.stopping-in-WrongType.ensures
    (c.raise-in-WrongType.ensures.needs c.args.context.program.now n)

pub missing_index-requires : goal.missing_index-requires
missing_index-requires c =
    let got = no_key_of c.requires.0 c.args.index (c.requires.1.2 ∙ ap Err c.in-NoKey.is) in
    (got.0.0, subst (λ (d : Dynamic). Stands c.args.self.now.trail d) got.0.1 c.requires.1.0)

pub returns-in-NoKey-clause-takes : goal.returns-in-NoKey-clause-takes
returns-in-NoKey-clause-takes c = λ v stands.
    let w = c.args.self.now in
    let x = c.args.context in
    subst (λ (y : ValueFault). Takes x w (Walks.indexed (setting x w) w.step c.args.pos c.args.bracket
    (role_in c.args.role w.value) (operand_of w c.args.operand) c.args.index (with_value w v)
    (next_step x w) (place_of w) (rest x w) (Err y)) c.missing_index.result c.missing_index.new.self)
    (sym c.in-NoKey.is)
    (subst (λ (k : List ℕ). Takes x w (Walks.missing_key (setting x w) w.step c.args.pos
    (Walks.OfIndex (operand_of w c.args.operand) c.args.bracket) (role_in c.args.role w.value) k
    (with_value w v) (next_step x w) (place_of w) (rest x w)) c.missing_index.result
    c.missing_index.new.self) c.key_of-key.ensures (c.missing_index.ensures.takes v stands))
