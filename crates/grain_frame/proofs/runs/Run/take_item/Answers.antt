-- The innermost cursor has an item, which it gives.
use Rattle.std.proofs.Common.{rules, FitsSigned, w64, refl}
use Rattle.std.proofs.lemmas.Int.{to_z-of_z}
use Rattle.grain_stack.specs.Cursors.{items_left}
use Rattle.grain_frame.proofs.Counting.{gave_first, gives_some}
use Rattle.grain_frame.proofs.runs.Run.take_item.Goals as goal

pub unreachable-requires : goal.unreachable-requires
unreachable-requires g c =
    gives_some c.args.self.now.stacks.cursors c.cursor_mut-cursor.result.now
    (items_left c.next.new.self.left) c.cursor_mut-cursor.ensures.value c.requires.more
    c.in-None.ensures.given

pub returns : goal.returns
returns g c =
    let fits : FitsSigned w64 c.args.count = search rules in (
      gave_first c.args.self.now.stacks.cursors c.cursor_mut-cursor.result.now _ c.in-Some.item
          c.args.count c.cursor_mut-cursor.ensures.value c.in-Some.ensures.given
          (to_z-of_z w64 c.args.count fits),
      refl,
    )
