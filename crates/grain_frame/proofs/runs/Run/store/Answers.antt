use Rattle.std.proofs.Common.{◌≡◌, ◌+◌, Some, rules, refl}
use Rattle.grain_value.specs.Looking.{cell_of}
use Rattle.grain_means.specs.Rules.{held_at}
use Rattle.grain_frame.specs.lemmas.Arms.{kept_write, implements_as}
use Rattle.grain_frame.proofs.runs.Run.store.Goals as goal

pub returns-in-None : goal.returns-in-None
returns-in-None g c =
    record {
      implements =
          λ host. record {
            same = search rules;
            kept = kept_write c.args.frame.now _ c.args.self.now
                c.pop-value.new.self _ c.set.new.self _ _ refl refl c.pop-value.ensures.rest
                c.set.ensures
                c.requires.ready.inside;
            lands = search rules;
            before = search rules;
          };
    }

pub returns-in-Some-as_cell : goal.returns-in-Some-as_cell
returns-in-Some-as_cell g c =
    let s = c.args.self.now in
    let f = c.args.frame.now in
    let there : held_at s.scope (f.base + c.args.slot) ≡ Some c.in-Some.held.now = search rules in
    let is_cell : cell_of c.in-Some.held.now.value ≡ Some c.in-Some-as_cell.cell = search rules in
    record {
      implements = λ host. implements_as g.H.Host.law c.args.context.program.now
          c.args.context.engine.now f c.store_in_cell.new.frame s s c.store_in_cell.new.self
          c.args.steps.now c.store_in_cell.new.steps host host refl
          (c.store_in_cell.ensures.implements host)
          (λ stop u place. rw (there, is_cell) refl);
    }
