-- What follows a call of a native lets each fault pass that no script may catch: with it the walk ends.
use Rattle.std.proofs.Common.{◌≡◌, ℕ, Bool, true, false, List, [], ◌∷◌, Some, refl}
use Rattle.std.specs.Prelude.{if◌then◌else◌}
use Rattle.grain_value.specs.declared.values.Dynamic.{Dynamic}
use Rattle.grain_value.specs.declared.values.Dynamic.TheVariants as dynamic
use Rattle.grain_fault.specs.Absences.{is_dot_expr, is_indexing_type}
use Rattle.grain_fault.specs.Classes.{catchable}
use Rattle.grain_fault.specs.Problems.{FunctionNotFound, DotExpr, IndexingType, Problem, Plain, InFunctionCall, InModule, SystemError, NoMemory}
use Rattle.grain_fault.specs.declared.places.Position.{Position}
use Rattle.grain_host.specs.Signatures.{says_missing}
use Rattle.grain_program.specs.View.{name_of}
use Rattle.grain_program.specs.declared.code.parts.AssignOp.{AssignOp}
use Rattle.grain_means.specs.Worlds.{Place, Setup}
use Rattle.grain_means.specs.Tasks.{Task, WalkEnded, WalkFailed}
use Rattle.grain_means.specs.Walks as walks
use Rattle.grain_means.specs.Walks.{Rest}
use Rattle.grain_means.specs.Causes.Spots.{ChainWalk, Falls}
pub use Rattle.grain_means.proofs.Choices.{if_false, if_true}
use Rattle.grain_means.proofs.Explaining.Ways.{Follows, LetsPass}

-- that there is no such property, index or function, a script may catch
abbrev Caught : Bool → Problem → Type 0
Caught absent x = absent ≡ true → catchable x ≡ true

not_absent : (x : Problem) (absent : Bool) → Caught absent x → catchable x ≡ false → absent ≡ false
not_absent x false caught e = refl
not_absent x true caught e = let may : catchable x ≡ true = caught refl in cc

pub is_property : (x : Problem) → catchable x ≡ false → is_dot_expr x ≡ false
is_property x = not_absent x (is_dot_expr x) (caught x) where
  caught : (x : Problem) → Caught (is_dot_expr x) x
  caught (Plain (DotExpr s) p) e = refl
  caught (Plain k p) e = absurd cc
  caught (InFunctionCall f s y p) e = refl
  caught (InModule s y p) e = refl
  caught (SystemError s t) e = absurd cc
  caught NoMemory e = absurd cc

pub is_index : (x : Problem) → catchable x ≡ false → is_indexing_type x ≡ false
is_index x = not_absent x (is_indexing_type x) (caught x) where
  caught : (x : Problem) → Caught (is_indexing_type x) x
  caught (Plain (IndexingType s) p) e = refl
  caught (Plain k p) e = absurd cc
  caught (InFunctionCall f s y p) e = refl
  caught (InModule s y p) e = refl
  caught (SystemError s t) e = absurd cc
  caught NoMemory e = absurd cc

pub is_found : (name : List ℕ) (x : Problem) → catchable x ≡ false → says_missing name x ≡ false
is_found name x = not_absent x (says_missing name x) (caught x) where
  caught : (x : Problem) → Caught (says_missing name x) x
  caught (Plain (FunctionNotFound s) p) e = refl
  caught (Plain k p) e = absurd cc
  caught (InFunctionCall f s y p) e = refl
  caught (InModule s y p) e = refl
  caught (SystemError s t) e = absurd cc
  caught NoMemory e = absurd cc

module _ {S : Type 0} (m : Setup S) (sure : Bool) (c : ChainWalk S) (n : ℕ) (done : Rest)
    (f : Follows m sure c done) where
  -- the fault of a test that fails goes to the walk's end
  by_test : (x : Problem) (b : Bool) (other : Task) → b ≡ false →
      Falls n x (if b then other else done (WalkFailed n x))
  by_test x b other e = if_false (Falls n x) b other (done (WalkFailed n x)) e (f.falls n x)

  pub past_index_set : (u : Dynamic) → LetsPass m sure c n (walks.index_was_set n u done)
  past_index_set u x e = by_test x (is_indexing_type x) (done (WalkEnded u true)) (is_index x e)

  pub past_set_instead : (x : Problem) (assigned : Bool) (u : Dynamic) →
      LetsPass m sure c n (walks.set_instead n x assigned u done)
  past_set_instead x assigned u y e =
      by_test y (is_indexing_type y)
      (if assigned then done (WalkFailed n x) else done (WalkEnded u true)) (is_index y e)

  pub past_property_set : (name : Dynamic) (q : Position) (assigned : Bool) (p : Place) (v u : Dynamic) →
      LetsPass m sure c n (walks.property_was_set n name q assigned p v u done)
  past_property_set name q assigned p v u x e =
      by_test x (is_dot_expr x)
      (walks.asking n q walks.index_set (Some p) (name ∷ v ∷ []) done
      (walks.set_instead n x assigned u done)) (is_property x e)

  pub past_got_instead : (x : Problem) (go : Dynamic → Task) →
      LetsPass m sure c n (walks.got_instead n x done go)
  past_got_instead x go y e = by_test y (is_indexing_type y) (done (WalkFailed n x)) (is_index y e)

  pub past_property_got : (name : Dynamic) (q : Position) (p : Place) (go : Dynamic → Task) →
      LetsPass m sure c n (walks.property_was_got n name q p done go)
  past_property_got name q p go x e =
      by_test x (is_dot_expr x)
      (walks.asking n q walks.index_get (Some p) (name ∷ []) done (walks.got_instead n x done go))
      (is_property x e)

  pub past_index_read : (q : Position) (p : Place) (i v : Dynamic) (go : Dynamic → Task) →
      LetsPass m sure c n (walks.index_was_read n q p i v done go)
  past_index_read q p i v go x e =
      by_test x (catchable x) (walks.set_by_index n q p i v dynamic.Unit done) e

  pub past_operator : (q : Position) (p : Place) → LetsPass m sure c n (walks.operator_answered n q p done)
  past_operator q p x e = f.falls n x

  pub past_op_assigned : (q : Position) (a : AssignOp) (v : Dynamic) (p : Place) →
      LetsPass m sure c n (walks.was_op_assigned c.course.setting n q a v p done)
  past_op_assigned q a v p x e =
      let word = name_of c.course.setting.program a.op_assign_name in
      by_test x (says_missing word x) (walks.operator_asked c.course.setting n q a v p done)
      (is_found word x e)
