-- The entry that was lent is the one that is asked for.
use Rattle.std.proofs.Common.{◌≡◌, true, Some, refl, sym, subst, rules}
use Rattle.grain_value.specs.declared.values.Held.{Held}
use Rattle.grain_value.specs.Scopes.{set_held}
use Rattle.grain_ops.specs.Operators.{assignment}
use Rattle.grain_means.specs.Rules.{held_at}
use Rattle.grain_frame.specs.Operated.{AssignedEntry}
use Rattle.grain_frame.proofs.AssignedEntries.{entry_assigned}
use Rattle.grain_frame.proofs.operated.assign_entry.Goals as goal

pub returns : goal.returns
returns c = λ h is.
    let held = c.in-Some.held.now in
    let scope = c.args.scope.now in
    let limits = c.args.engine.now.limits in
    let there : held_at scope c.args.index ≡ Some held = sym c.in-Some.ensures.value in
    let same : held ≡ h = cc in
    let fast : c.args.engine.now.fast_operators ≡ true = search rules in
    rw fast
    (subst (λ (x : Held). AssignedEntry c.assign.result
    (assignment limits c.args.token x.value c.args.value.now) scope
    (set_held scope c.args.index
    (record { value = c.assign.new.target; read_only = held.read_only }))
    c.args.index x) same
    (entry_assigned c.assign.result
    (assignment limits c.args.token held.value c.args.value.now) scope _ c.args.index held
    c.assign.new.target there c.assign.ensures refl))
