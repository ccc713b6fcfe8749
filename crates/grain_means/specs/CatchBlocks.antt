-- What a handler that catches comes to: a fault that no script may catch, or its catch block.
use Rattle.std.specs.Prelude.{◌≡◌, ◌⊎◌, ◌≤◌, ◌+◌, ℕ, List, [], ◌∷◌, ◌++◌, Option, Some, None, false, length, take}
use Rattle.grain_value.specs.declared.scopes.Entry.{Entry}
use Rattle.grain_value.specs.Scopes.{new_entry}
use Rattle.grain_value.specs.Operands.{read_write}
use Rattle.grain_fault.specs.Classes.{catchable}
use Rattle.grain_fault.specs.Problems.{Problem}
use Rattle.grain_program.specs.View.{View, name_of}
use Rattle.grain_means.specs.Worlds.{Act, Go, End, Failed, World, Setup, Frame, InFrame}
use Rattle.grain_fault.specs.CatchValues.{caught_value}
use Rattle.grain_host.specs.Law.{Law}
use Rattle.grain_global.specs.declared.engines.Engine.{Engine}
use Rattle.grain_means.specs.Rules.{caught, main, outermost}
use Rattle.grain_means.specs.Comes.{CatchPoint, ComesToCatch}
use Rattle.grain_means.specs.Means.{Begin, setup, first_world}

-- the entry of the variable of a catch, if it has one, which can be written
abbrev pub variable_entry : View → Option ℕ → Problem → List Entry
variable_entry program None x = []
variable_entry program (Some n) x =
    new_entry (name_of program n) (read_write (caught_value program.source x)) ∷ []

-- The catch block begins in a frame and a world: at the handler's target, with exactly as many
-- operands, cursors and entries of the scope as at its push, no more totals, and with the variable above
-- the entries; the handler has caught the fault, and no step of a chain is blamed. It cost one operation.
pub record CatchBlock {S : Type 0} (m : Setup S) (at : CatchPoint S) (f : Frame) (w : World S) :
    Type 0 where
  pub target : f.address ≡ at.handler.target
  pub operands : f.operands ≡ take at.handler.operands at.frame.operands
  pub as_many : length f.operands ≡ at.handler.operands
  pub cursors : f.cursors ≡ outermost at.handler.cursors at.frame.cursors
  pub as_many_cursors : length f.cursors ≡ at.handler.cursors
  pub totals : f.totals ≡ outermost at.handler.totals at.frame.totals
  pub handlers : f.handlers ≡ record at.handler { caught = Some at.fault } ∷ at.frame.handlers
  pub base : f.base ≡ at.frame.base
  pub floor : f.floor ≡ at.frame.floor
  pub this : f.this ≡ at.frame.this
  pub slot : f.slot ≡ None
  pub position : f.position ≡ None
  pub there : at.handler.scope ≤ length at.world.scope
  pub scope : w.scope ≡
      take at.handler.scope at.world.scope ++
      variable_entry m.program at.handler.variable at.fault
  pub trace : w.trace ≡ []
  pub level : w.level ≡ at.world.level
  pub count : w.count ≡ at.world.count + 1

-- the rule of the catch comes to this
abbrev pub LeadsTo : {S : Type 0} → Setup S → CatchPoint S → Act S → Type 0
LeadsTo m at act = caught m at.frame at.handler at.fault at.world ≡ act

-- The handler was armed, and there are as many operands and cursors as at its push, or more; and either the
-- catch fails, with a fault that no script may catch, or the catch block begins.
pub record Catches {S : Type 0} (m : Setup S) (at : CatchPoint S) : Type 0 where
  pub armed : at.handler.caught ≡ None
  pub enough : at.handler.operands ≤ length at.frame.operands
  pub enough_cursors : at.handler.cursors ≤ length at.frame.cursors
  pub leads :
      ((x : Problem) × (w : World S) × LeadsTo m at (End (Failed x) w) × (catchable x ≡ false))
      ⊎ ((f : Frame) × (w : World S) × LeadsTo m at (Go (InFrame f) w) × CatchBlock m at f w)

-- wherever the program's run comes to a handler that catches, it catches so
abbrev pub CatchesRightly : {S : Type 0} → Law S → View → Engine → Begin S → Type 0
CatchesRightly {S = S} law program engine b =
    let m : Setup S = setup law program engine in
    (at : CatchPoint S) → ComesToCatch m at (main m (first_world b)) → Catches m at
