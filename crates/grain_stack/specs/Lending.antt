-- What the stacks become once the handler, cursor or total that they lent is given back.
use Rattle.std.specs.Borrow.{Lends, MutBor, Fml}
use Rattle.grain_stack.specs.Entries.{with_first}
use Rattle.grain_stack.specs.Views.{StacksView}
use Rattle.grain_stack.specs.declared.cursors.Cursor.{Cursor}
use Rattle.grain_stack.specs.declared.handlers.Handler.{Handler}
use Rattle.grain_stack.specs.declared.totals.Total.{Total}
use Rattle.grain_stack.specs.contracts.cursors.Cursor as cursor
use Rattle.grain_stack.specs.contracts.handlers.Handler as handler
use Rattle.grain_stack.specs.contracts.totals.Total as total
use Rattle.grain_stack.specs.contracts.stacks.Stacks as stacks

-- the stacks with this as the innermost of the frame's handlers, cursors or totals
abbrev pub with_handler : StacksView → Handler → StacksView
with_handler s h = record s { handlers = with_first h s.handlers }

abbrev pub with_cursor : StacksView → Cursor → StacksView
with_cursor s c = record s { cursors = with_first c s.cursors }

abbrev pub with_total : StacksView → Total → StacksView
with_total s t = record s { totals = with_first t s.totals }

-- when the loan ends, the frame's innermost one is the last value of the reference
abbrev pub LendsHandler : MutBor StacksView → MutBor Handler → Fml
LendsHandler s r = Lends stacks.the_row handler.the_row s r (with_handler s.now)

abbrev pub LendsCursor : MutBor StacksView → MutBor Cursor → Fml
LendsCursor s r = Lends stacks.the_row cursor.the_row s r (with_cursor s.now)

abbrev pub LendsTotal : MutBor StacksView → MutBor Total → Fml
LendsTotal s r = Lends stacks.the_row total.the_row s r (with_total s.now)
