-- An entry that is a cell stays one.
use Rattle.std.proofs.Common.{◌≡◌, ◌+◌, Some, None, refl, sym, rules}
use Rattle.grain_value.specs.Looking.{cell_of}
use Rattle.grain_means.specs.Rules.{held_at}
use Rattle.grain_frame.specs.lemmas.Arms.{implements_as}
use Rattle.grain_frame.proofs.runs.Run.share.Goals as goal

pub returns-in-None : goal.returns-in-None
returns-in-None g c =
    let p = c.args.context.program.now in
    let engine = c.args.context.engine.now in
    let s = c.args.self.now in
    let f = c.args.frame.now in
    let held = c.in-Some.held.now in
    let there : held_at s.scope c.slot_index-index.result ≡ Some held = search rules in
    let at : held_at s.scope (f.base + c.args.slot) ≡ Some held = search rules in
    let none : cell_of held.value ≡ None = sym c.in-None.ensures in
    record {
      performs = λ host. implements_as g.H.Host.law p engine f c.share_value.new.frame s s
          c.share_value.new.self c.args.steps.now c.share_value.new.steps host host refl
          (c.share_value.ensures.implements p engine host held c.args.slot there
          (sym c.slot_index-index.ensures))
          (λ stop u place. rw (at, none) refl);
    }

pub returns-in-Some-as_cell : goal.returns-in-Some-as_cell
returns-in-Some-as_cell g c =
    let p = c.args.context.program.now in
    let engine = c.args.context.engine.now in
    let s = c.args.self.now in
    let f = c.args.frame.now in
    let held = c.in-Some.held.now in
    let at : held_at s.scope (f.base + c.args.slot) ≡ Some held = search rules in
    let some : cell_of held.value ≡ Some c.in-Some-as_cell.field-0 =
    sym c.in-Some-as_cell.ensures in
    record {
      performs = λ host. implements_as g.H.Host.law p engine f c.go_on.new.frame s s
          c.go_on.new.self c.args.steps.now c.go_on.new.steps host host refl
          (c.go_on.ensures.implements p engine host)
          (λ stop u place. rw (at, some) refl);
    }
