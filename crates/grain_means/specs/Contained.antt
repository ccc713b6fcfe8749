-- What is held over a store names cells of the store only, and is clean; no cell holds a cell, and none
-- is lent. What is said with `clean` holds with either truth value: with `false` it is said of values
-- that need not be clean.
use Rattle.std.specs.Prelude.{ℕ, ◌≡◌, ◌≤◌, Bool, List, None, Result, Ok, Err, true, false, length}
use Rattle.std.specs.List.{AllByRecursion}
use Rattle.grain_value.specs.Cells.{cell_bound, is_clean}
use Rattle.grain_value.specs.Looking.{cell_of}
use Rattle.grain_value.specs.View.{tree, value_of}
use Rattle.grain_value.specs.declared.scopes.Entry.{Entry}
use Rattle.grain_value.specs.declared.stores.Cell.{Cell}
use Rattle.grain_value.specs.declared.values.Dynamic.{Dynamic}
use Rattle.grain_value.specs.declared.values.Held.{Held}
use Rattle.grain_fault.specs.Cells.{problem_bound, problem_is_clean}
use Rattle.grain_fault.specs.declared.faults.EvalAltResult.{EvalAltResult}
use Rattle.grain_fault.specs.Problems.{Problem, problem_of}
use Rattle.grain_program.specs.View.{View, const_of}
use Rattle.grain_host.specs.Law.{Law}
use Rattle.grain_means.specs.Means.{Begin}
use Rattle.grain_means.specs.Worlds.{Answer, Came, Cursor, Failed}

-- a value names cells below this number only; where it is to be clean, it is
abbrev pub Names : Bool → ℕ → Dynamic → Type 0
Names clean n v = (cell_bound (tree v) ≤ n) × (clean ≡ true → is_clean (tree v) ≡ true)

abbrev pub HeldNames : Bool → ℕ → Held → Type 0
HeldNames clean n h = Names clean n h.value

abbrev pub EntryNames : Bool → ℕ → Entry → Type 0
EntryNames clean n e = HeldNames clean n e.held

-- so do the values of a fault, and no index that was not found is a cell
abbrev pub ProblemNames : Bool → ℕ → Problem → Type 0
ProblemNames clean n x = (problem_bound x ≤ n) × (clean ≡ true → problem_is_clean x ≡ true)

-- a cell is not lent, holds no cell, and what it holds names cells below this number only
pub record CellNames (clean : Bool) (n : ℕ) (c : Cell) : Type 0 where
  pub idle : c.busy ≡ false
  pub flat : cell_of c.held.value ≡ None
  pub names : HeldNames clean n c.held

-- a scope and a store of n cells, whose values are clean if the flag says so, as is what the host keeps for
-- tokens, and a host that reaches no further
pub record WithinStore {S : Type 0} (law : Law S) (clean : Bool) (n : ℕ) (scope : List Entry)
    (cells : List Cell) (host : S) : Type 0 where
  pub size : length cells ≡ n
  pub entries : AllByRecursion (EntryNames clean n) scope
  pub contents : AllByRecursion (CellNames clean n) cells
  pub reaches : law.reach host ≤ n
  pub waits : clean ≡ true → law.waits_clean host ≡ true

-- the same, and a host that hands over what is clean
pub record Contained {S : Type 0} (law : Law S) (clean : Bool) (n : ℕ) (scope : List Entry)
    (cells : List Cell) (host : S) : Type 0 where
  pub size : length cells ≡ n
  pub entries : AllByRecursion (EntryNames clean n) scope
  pub contents : AllByRecursion (CellNames clean n) cells
  pub reaches : law.reach host ≤ n
  pub waits : clean ≡ true → law.waits_clean host ≡ true
  pub hands : clean ≡ true → law.holds_clean host ≡ true

-- what a loop still goes over names cells below this number only
abbrev pub CursorNames : Bool → ℕ → Cursor → Type 0
CursorNames clean n c = AllByRecursion (λ t. Names clean n (value_of t)) c.left

-- what is held as a root names cells below this number only; a root may be a cell
abbrev pub RootsName : Bool → ℕ → List Held → Type 0
RootsName clean n roots = AllByRecursion (HeldNames clean n) roots

-- an answer names cells below this number only
abbrev pub AnswerNames : Bool → ℕ → Answer → Type 0
AnswerNames clean n (Came v) = Names clean n v
AnswerNames clean n (Failed x) = ProblemNames clean n x

-- so does a result
abbrev pub ResultNames : Bool → ℕ → Result Dynamic EvalAltResult → Type 0
ResultNames clean n (Ok v) = Names clean n v
ResultNames clean n (Err x) = ProblemNames clean n (problem_of x)

-- so do a program's constants
abbrev pub ConstantsName : Bool → ℕ → View → Type 0
ConstantsName clean n p = (c : ℕ) → Names clean n (const_of p c)

-- A call keeps to its store: where what it is given names cells of the store only, none of which is
-- lent and none of which holds a cell, so does what it leaves, its result too. No cell is gone. And
-- where the scope, the contents of the cells, the constants and what the host keeps for tokens are clean,
-- so is what it leaves: a host hands over what is clean, and nothing more has to be said of it but how far
-- it reaches.
abbrev pub KeepsToStore : {S : Type 0} → Law S → View → Begin S →
    Result Dynamic EvalAltResult → List Entry → List Cell → S → Type 0
KeepsToStore law p b result scope cells host =
    (clean : Bool) (n : ℕ) → ConstantsName clean n p →
    WithinStore law clean n b.scope b.cells b.host →
    (k : ℕ) × (n ≤ k) × Contained law clean k scope cells host × ResultNames clean k result
