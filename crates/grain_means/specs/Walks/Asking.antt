-- What a step of a walk does where it stands: it passes a mark, fails, reads a value, asks the host's
-- getters, setters and indexers, and assigns by an op-assignment.
use Rattle.std.specs.Prelude.{ℕ, Bool, true, List, [], ◌∷◌, Option, Some, None, codes, if◌then◌else◌}
use Rattle.grain_value.specs.declared.values.Dynamic.{Dynamic}
use Rattle.grain_value.specs.declared.values.Dynamic.TheVariants as dynamic
use Rattle.grain_fault.specs.Classes.{catchable}
use Rattle.grain_fault.specs.Absences.{is_dot_expr, is_indexing_type}
use Rattle.grain_fault.specs.Problems.{Problem, Plain, NoMemory, DataRace, Arithmetic, DataTooLarge}
use Rattle.grain_fault.specs.declared.places.Position.{Position}
use Rattle.grain_program.specs.declared.code.parts.AssignOp.{AssignOp}
use Rattle.grain_program.specs.View.{View, name_of}
use Rattle.grain_global.specs.declared.engines.Engine.{Engine}
use Rattle.grain_host.specs.Signatures.{says_missing}
use Rattle.grain_ops.specs.Outcomes.{Outcome, NotBuiltIn, Gave, ArithmeticFault, TooLarge}
use Rattle.grain_ops.specs.Operators.{assignment}
use Rattle.grain_means.specs.Worlds.{Place, Answer, Came, Failed}
use Rattle.grain_means.specs.Tasks.{Walked, WalkEnded, WalkFailed, Task, Mark, Look, Flatten, Write, Need}

-- on what a walk runs: the engine, the program, and the position of the chain's instruction
pub record Setting : Type 0 where
  pub engine : Engine
  pub program : View
  pub position : Position

-- what is done when the walk further on ended, and the walk further on, from a place
abbrev pub Rest : Type 0
Rest = Walked → Task

abbrev pub Next : Type 0
Next = Place → Rest → Task

abbrev pub index_get : List ℕ
index_get = codes "index$get$"

abbrev pub index_set : List ℕ
index_set = codes "index$set$"

-- a mark of step n
abbrev pub at_mark : ℕ → Rest → Task → Task
at_mark n done go = Mark (done (WalkFailed n NoMemory)) go

-- step n fails
abbrev pub failing : ℕ → Problem → Rest → Task
failing n x done = at_mark n done (done (WalkFailed n x))

abbrev pub flat_or_busy : ℕ → Position → Rest → (Dynamic → Task) → Option Dynamic → Task
flat_or_busy n q done go None = failing n (Plain (DataRace (codes "variable ''")) q) done
flat_or_busy n q done go (Some v) = go v

-- a value as it is read, and then what follows from it
abbrev pub flattening : ℕ → Position → Dynamic → Rest → (Dynamic → Task) → Task
flattening n q v done go = Flatten v (flat_or_busy n q done go)

-- a native is asked, to which a place is lent, if any
abbrev pub asking : ℕ → Position → List ℕ → Option Place → List Dynamic → Rest → (Answer → Task) →
    Task
asking n q name p args done heard =
    at_mark n done (Need (record {
      step = n;
      position = q;
      name = name;
      receiver = p;
      values = args;
    }) heard)

-- An indexer has set a value. That there is none is no fault.
abbrev pub index_was_set : ℕ → Dynamic → Rest → Answer → Task
index_was_set n u done (Came r) = done (WalkEnded u true)
index_was_set n u done (Failed x) =
    if is_indexing_type x then done (WalkEnded u true) else done (WalkFailed n x)

abbrev pub set_by_index : ℕ → Position → Place → Dynamic → Dynamic → Dynamic → Rest → Task
set_by_index n q p i v u done =
    asking n q index_set (Some p) (i ∷ v ∷ []) done (index_was_set n u done)

-- An indexer has set a property, of which the setter failed. If there is none either, that is the
-- setter's fault, but for a value that was only changed.
abbrev pub set_instead : ℕ → Problem → Bool → Dynamic → Rest → Answer → Task
set_instead n x assigned u done (Came r) = done (WalkEnded u true)
set_instead n x assigned u done (Failed y) =
    if is_indexing_type y then (if assigned then done (WalkFailed n x) else done (WalkEnded u true))
    else done (WalkFailed n y)

-- a setter has set a property; if there is none, an indexer does
abbrev pub property_was_set : ℕ → Dynamic → Position → Bool → Place → Dynamic → Dynamic → Rest →
    Answer → Task
property_was_set n name q assigned p v u done (Came r) = done (WalkEnded u true)
property_was_set n name q assigned p v u done (Failed x) =
    if is_dot_expr x
    then asking n q index_set (Some p) (name ∷ v ∷ []) done (set_instead n x assigned u done)
    else done (WalkFailed n x)

-- an indexer gave a property, of which the getter failed; if there is none either, that is the
-- getter's fault
abbrev pub got_instead : ℕ → Problem → Rest → (Dynamic → Task) → Answer → Task
got_instead n x done go (Came v) = go v
got_instead n x done go (Failed y) = if is_indexing_type y then done (WalkFailed n x) else done
    (WalkFailed n y)

-- a getter gave a property; if there is none, an indexer does
abbrev pub property_was_got : ℕ → Dynamic → Position → Place → Rest → (Dynamic → Task) → Answer →
    Task
property_was_got n name q p done go (Came v) = go v
property_was_got n name q p done go (Failed x) =
    if is_dot_expr x
    then asking n q index_get (Some p) (name ∷ []) done (got_instead n x done go)
    else done (WalkFailed n x)

-- an indexer gave what an index names, or what a method step called gave its answer
abbrev pub was_given : ℕ → Rest → (Dynamic → Task) → Answer → Task
was_given n done go (Came v) = go v
was_given n done go (Failed x) = done (WalkFailed n x)

-- an indexer gave what an op-assignment changes; where it failed, the value is set as it is
abbrev pub index_was_read : ℕ → Position → Place → Dynamic → Dynamic → Rest → (Dynamic → Task) →
    Answer → Task
index_was_read n q p i v done go (Came r) = go r
index_was_read n q p i v done go (Failed x) =
    if catchable x then set_by_index n q p i v dynamic.Unit done else done (WalkFailed n x)

-- an operator's answer is put in place of its first operand
abbrev pub operator_answered : ℕ → Position → Place → Rest → Answer → Task
operator_answered n q p done (Came r) =
    flattening n q r done (λ u. at_mark n done (Write p u (done (WalkEnded dynamic.Unit true))))
operator_answered n q p done (Failed x) = done (WalkFailed n x)

module _ (g : Setting) where
  -- the text of a name
  abbrev pub named : ℕ → Dynamic
  named name = dynamic.Text (name_of g.program name)

  abbrev pub set_property : ℕ → ℕ → ℕ → Position → Bool → Place → Dynamic → Dynamic → Rest → Task
  set_property n name setter q assigned p v u done =
      asking n q (name_of g.program setter) (Some p) (v ∷ []) done
      (property_was_set n (named name) q assigned p v u done)

  abbrev pub get_property : ℕ → ℕ → ℕ → Position → Place → Rest → (Dynamic → Task) → Task
  get_property n name getter q p done go =
      asking n q (name_of g.program getter) (Some p) [] done
      (property_was_got n (named name) q p done go)

  -- the host's operator on copies of what stands at a place and of a value
  abbrev pub operator_asked : ℕ → Position → AssignOp → Dynamic → Place → Rest → Task
  operator_asked n q a v p done =
      Look p (λ h. asking n q (name_of g.program a.op_name) None (h.value ∷ v ∷ []) done
      (operator_answered n q p done))

  -- the host's op-assignment did; if there is none, the host's operator does
  abbrev pub was_op_assigned : ℕ → Position → AssignOp → Dynamic → Place → Rest → Answer → Task
  was_op_assigned n q a v p done (Came r) = done (WalkEnded dynamic.Unit true)
  was_op_assigned n q a v p done (Failed x) =
      if says_missing (name_of g.program a.op_assign_name) x
      then operator_asked n q a v p done else done (WalkFailed n x)

  -- the host's op-assignment, to which the place is lent
  abbrev pub native_stored : ℕ → Position → AssignOp → Dynamic → Place → Rest → Task
  native_stored n q a v p done =
      asking n q (name_of g.program a.op_assign_name) (Some p) (v ∷ []) done
      (was_op_assigned n q a v p done)

  abbrev pub stored : ℕ → Position → AssignOp → Dynamic → Place → Rest → Outcome → Task
  stored n q a v p done NotBuiltIn = native_stored n q a v p done
  stored n q a v p done (Gave r) =
      at_mark n done (Write p r (done (WalkEnded dynamic.Unit true)))
  stored n q a v p done (ArithmeticFault text) = failing n (Plain (Arithmetic text) q) done
  stored n q a v p done (TooLarge what) = failing n (Plain (DataTooLarge what) q) done

  -- a value is assigned at a place by an op-assignment
  abbrev pub operating : ℕ → Position → AssignOp → Dynamic → Next
  operating n q a v p done =
      Look p (λ h. stored n q a v p done
      (if g.engine.fast_operators then assignment g.engine.limits a.op_assign h.value v
      else NotBuiltIn))
