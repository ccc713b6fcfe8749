-- The operand is a cell that is lent, or has no items; or memory is out.
use Rattle.std.proofs.Common.{◌≡◌, [], Some, None, Ok, true, false, refl, rules}
use Rattle.std.specs.Prelude.{is_some}
use Rattle.grain_value.specs.Cells.{flat}
use Rattle.grain_value.specs.Items.{items_of}
use Rattle.grain_value.specs.Operands.{top, below}
use Rattle.grain_fault.specs.Problems.{Plain, DataRace, For}
use Rattle.grain_program.specs.View.{position_of}
use Rattle.grain_means.specs.Rules.{race_text}
use Rattle.grain_frame.specs.Abstraction.{is_out}
use Rattle.grain_frame.specs.lemmas.Looping.{raises_in_loop}
use Rattle.grain_frame.proofs.Looping.{begins, begins_not, no_items, some_items}
use Rattle.grain_frame.proofs.runs.Run.iter_init.Goals as goal

pub returns-in_default : goal.returns-in_default
returns-in_default g c =
    let p = c.args.context.program.now in
    let s = c.args.self.now in
    let f = c.args.frame.now in
    let none : flat s.cells (top s.stacks.operands).value ≡ None = search rules in
    record {
      performs = λ host. raises_in_loop g.H.Host.law p c.args.context.engine.now f s
          c.data_race.new.self c.args.steps.now c.data_race.new.steps host
          (Plain (DataRace (race_text [])) (position_of p f.address)) c.data_race.result
          c.data_race.ensures c.requires.ready.inside (λ stop u place. rw none refl);
    }

pub returns-then-not-has_items : goal.returns-then-not-has_items
returns-then-not-has_items g c =
    let p = c.args.context.program.now in
    let s = c.args.self.now in
    let f = c.args.frame.now in
    let read : flat s.cells (top s.stacks.operands).value ≡ Some c.in-Some.value.now =
    search rules in
    let none : is_some (items_of c.in-Some.value.now) ≡ false = search rules in
    record {
      performs = λ host. raises_in_loop g.H.Host.law p c.args.context.engine.now f s
          c.raise_at.new.self c.args.steps.now c.raise_at.new.steps host
          (Plain For (position_of p f.address)) (Ok c.raise_at.result)
          c.raise_at.ensures c.requires.ready.inside
          (λ stop u place. rw (read, no_items (items_of c.in-Some.value.now) none) refl);
    }

pub unreachable-requires : goal.unreachable-requires
unreachable-requires g c =
    let read : flat c.args.self.now.cells (top c.args.self.now.stacks.operands).value
    ≡ Some c.in-Some.value.now = search rules in
    let some : is_some (items_of c.in-Some.value.now) ≡ true = search rules in
    some_items c.in-Some.value.now c.in_ok-operand.operand _ read c.in_ok-operand.ensures.value some
    c.in_default-over.ensures.none

pub returns-in_err-operand : goal.returns-in_err-operand
returns-in_err-operand g c =
    let p = c.args.context.program.now in
    let s = c.args.self.now in
    let f = c.args.frame.now in
    let read : flat s.cells (top s.stacks.operands).value ≡ Some c.in-Some.value.now =
    search rules in
    let some : is_some (items_of c.in-Some.value.now) ≡ true = search rules in
    let out : is_out c.from_residual.result ≡ true = search rules in
    let same : c.take_flat.new.self ≡ s = search rules in
    record {
      performs = λ host. rw same (begins_not g.H.Host.law p c.args.context.engine.now f s
          c.args.steps.now host c.in-Some.value.now c.args.next read c.requires.ready s.stacks
          s.stacks.operands c.from_residual.result out some refl);
    }

pub returns-in_err-push_cursor : goal.returns-in_err-push_cursor
returns-in_err-push_cursor g c =
    let p = c.args.context.program.now in
    let s = c.args.self.now in
    let f = c.args.frame.now in
    let read : flat s.cells (top s.stacks.operands).value ≡ Some c.in-Some.value.now =
    search rules in
    let some : is_some (items_of c.in-Some.value.now) ≡ true = search rules in
    let out : is_out c.from_residual-in_err-push_cursor.result ≡ true = search rules in
    let taken = c.in_ok-operand.ensures.rest in
    record {
      performs = λ host. rw taken (begins_not g.H.Host.law p c.args.context.engine.now f s
          c.args.steps.now host c.in-Some.value.now c.args.next read c.requires.ready
          c.push_cursor.new.self (below s.stacks.operands) c.from_residual-in_err-push_cursor.result out some
          (search rules));
    }

pub returns : goal.returns
returns g c =
    let p = c.args.context.program.now in
    let s = c.args.self.now in
    let f = c.args.frame.now in
    let taken = c.in_ok-operand.ensures.rest in
    record {
      performs = λ host. rw (taken, c.mark.ensures) (begins g.H.Host.law p
          c.args.context.engine.now f s c.args.steps.now host c.in_ok-operand.operand c.args.next
          c.in_ok-operand.ensures.value c.requires.ready c.in-Ok.cursor c.push_cursor.new.self
          c.in-Ok.ensures.items c.in-Ok.ensures.counter (search rules));
    }
