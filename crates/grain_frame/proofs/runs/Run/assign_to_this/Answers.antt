-- `this` is back, as the op-assignment left it.
use Rattle.std.proofs.Common.{◌≡◌, ◌∙◌, Some, true, ap, sym, rules}
use Rattle.grain_value.specs.Operands.{read_write}
use Rattle.grain_value.specs.declared.values.Dynamic.TheVariants as dynamic
use Rattle.grain_value.specs.declared.values.Held.{Held}
use Rattle.grain_means.specs.lemmas.PlaceLaws.{some-inj}
use Rattle.grain_frame.specs.Receivers.{newest_held, with_newest}
use Rattle.grain_frame.specs.Abstraction.{this_of}
use Rattle.grain_frame.proofs.Newest.{newest_at}
use Rattle.grain_frame.proofs.Targeting.{this_assigned}
use Rattle.grain_frame.proofs.runs.Run.assign_to_this.Goals as goal

pub returns : goal.returns
returns g c = record {
  assigned = λ h is.
      let s = c.args.self.now in
      let was : newest_held s.receivers ≡ Some c.replace-held.result =
      c.replace-held.ensures.value in
      let same : c.replace-held.result ≡ h =
      some-inj (sym was ∙ newest_at s.level s.receivers h is) in
      let holds : this_of s ≡ Some c.replace-held.result =
      is ∙ ap (λ (x : Held). Some x) (sym same) in
      let taken : c.replace-held.new.self ≡ with_newest (read_write dynamic.Unit) s.receivers =
      search rules in
      let fast : c.args.context.engine.now.fast_operators ≡ true = search rules in
      rw (fast, ← same, ← c.operand-value.ensures)
      (this_assigned s c.replace-held.result c.assign-assigned.new.target
      c.replace-held.new.self c.replace-unit.new.self holds taken c.replace-unit.ensures.after
      c.assign-assigned.result _ c.assign-assigned.ensures);
}
