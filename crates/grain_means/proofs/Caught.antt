-- What the variable of a catch holds names no cell that the fault does not name.
use Rattle.std.proofs.Common.{◌≡◌, ◌≤◌, ℕ, Bool, true, false, not, ◌&&◌, List, [], ◌∷◌, Option, Some, None, if◌then◌else◌, pos, refl, subst, arith}
use Rattle.std.proofs.Math.Nat.{le-max_left, le-max_right, max-le}
use Rattle.std.specs.List.{AllByRecursion, list_all}
use Rattle.std.specs.Prelude.{codes}
use Rattle.std.specs.Cmp.Lexicographic.{slice_cmp}
use Rattle.std.specs.Ordering.{match_ordering, nat_cmp}
use Rattle.std.specs.declared.cmp.Ordering.{Ordering}
use Rattle.std.specs.declared.cmp.Ordering.TheVariants as ordering
use Rattle.grain_value.specs.Cells.{cell_bound, fields_bound, is_cell, is_clean, items_bound}
use Rattle.grain_value.specs.Maps.{Entries, put_entry}
use Rattle.grain_value.specs.Tree.{Tree, dict, pack, pack_fields}
use Rattle.grain_value.specs.View.{tree}
use Rattle.grain_value.specs.declared.values.Dynamic.{Dynamic}
use Rattle.grain_value.specs.declared.values.Dynamic.TheVariants as dynamic
use Rattle.grain_fault.specs.Classes.{catchable}
use Rattle.grain_fault.specs.Fields.{fields_of, own_fields, put_fields}
use Rattle.grain_fault.specs.Places.{is_nowhere, nowhere}
use Rattle.grain_fault.specs.Positions.{at_position, at_position_if_none, position_of_problem}
use Rattle.grain_fault.specs.Problems.{FaultKind, Parsing, VariableExists, ForbiddenVariable, VariableNotFound, PropertyNotFound, IndexNotFound, FunctionNotFound, ModuleNotFound, UnboundThis, MismatchDataType, MismatchOutputType, IndexingType, ArrayBounds, StringBounds, BitFieldBounds, For, DataRace, NonPureCall, AssignmentToConstant, DotExpr, Arithmetic, TooManyOperations, TooManyVariables, TooManyModules, StackOverflow, DataTooLarge, Terminated, CustomSyntax, Runtime, LoopBreak, Return, Exit, Malformed, Problem, Plain, InFunctionCall, InModule, SystemError, NoMemory, inner_fault}
use Rattle.grain_fault.specs.Table.{Field, row}
use Rattle.grain_fault.specs.Texts.{fault_text}
use Rattle.grain_fault.specs.declared.places.Position.{Position}
use Rattle.grain_host.specs.Clean.{both_true, first_true, second_true}
use Rattle.grain_host.specs.Law.{is_plain}
use Rattle.grain_fault.specs.CatchValues.{caught_value, fault_map, thrown_in, value_or_map, with_place, with_source}
use Rattle.grain_means.specs.Contained.{Names, ProblemNames}

-- a fault at another position names the same cells, and is as clean
module _ (clean : Bool) (n : ℕ) where
  pub placed_names : (p : Position) (x : Problem) → ProblemNames clean n x →
      ProblemNames clean n (at_position p x)
  placed_names p (Plain k q) h = h
  placed_names p (InFunctionCall f s x q) h = h
  placed_names p (InModule m x q) h = h
  placed_names p (SystemError s e) h = h
  placed_names p NoMemory h = h

  pub filled_names : (p : Position) (x : Problem) → ProblemNames clean n x →
      ProblemNames clean n (at_position_if_none p x)
  filled_names p x h = at (is_nowhere (position_of_problem x)) where
    at : (b : Bool) → ProblemNames clean n (if b then at_position p x else x)
    at true = placed_names p x h
    at false = h

  -- a fault with one value
  pub sole_names : (v : Dynamic) → Names clean n v →
      (items_bound (pack (tree v ∷ [])) ≤ n)
      × (clean ≡ true → list_all is_clean (tree v ∷ []) && true ≡ true)
  sole_names v h = (
    max-le {a = cell_bound (tree v)} {b = items_bound (pack [])} h.0 (omega arith),
    λ s. both_true (is_clean (tree v) && true) true
        (both_true (is_clean (tree v)) true (h.1 s) refl) refl,
  )

  pub first_names : (v : Dynamic) (other : Bool) → (items_bound (pack (tree v ∷ [])) ≤ n) →
      (clean ≡ true → list_all is_clean (tree v ∷ []) && other ≡ true) → Names clean n v
  first_names v other bound kept = (
    omega (arith, bound, le-max_left (cell_bound (tree v)) (items_bound (pack []))),
    λ s. first_true (is_clean (tree v)) true
        (first_true (is_clean (tree v) && true) other (kept s)),
  )

  inner_names : (x : Problem) → ProblemNames clean n x → ProblemNames clean n (inner_fault x)
  inner_names (Plain k p) h = h
  inner_names (InFunctionCall f s x p) h = inner_names x h
  inner_names (InModule m x p) h = inner_names x h
  inner_names (SystemError s e) h = h
  inner_names NoMemory h = h

  abbrev PlainTree : Tree → Type 0
  PlainTree t = (cell_bound t ≤ n) × (clean ≡ true → is_plain t ≡ true)

  abbrev FieldNames : Field → Type 0
  FieldNames f = PlainTree (tree f.1)

  abbrev EntriesName : Entries → Type 0
  EntriesName es =
      (fields_bound (pack_fields es) ≤ n)
      × (clean ≡ true → is_clean (dict (pack_fields es)) ≡ true)

  -- an entry is first
  added_names : (k : List ℕ) (t : Tree) (es : Entries) → PlainTree t → EntriesName es →
      EntriesName ((k, t) ∷ es)
  added_names k t es one rest = (
    max-le {a = cell_bound t} {b = fields_bound (pack_fields es)} one.0 rest.0,
    λ s. both_true (not (is_cell t)) (is_clean t && is_clean (dict (pack_fields es)))
        (second_true (is_clean t) (not (is_cell t)) (one.1 s))
        (both_true (is_clean t) (is_clean (dict (pack_fields es)))
        (first_true (is_clean t) (not (is_cell t)) (one.1 s)) (rest.1 s)),
  )

  first_entry : (e : List ℕ × Tree) (es : Entries) → EntriesName (e ∷ es) → PlainTree e.1
  first_entry e es h = (
    omega (arith, h.0, le-max_left (cell_bound e.1) (fields_bound (pack_fields es))),
    λ s.
        let later : Bool = is_clean e.1 && is_clean (dict (pack_fields es)) in
        both_true (is_clean e.1) (not (is_cell e.1))
        (first_true (is_clean e.1) (is_clean (dict (pack_fields es)))
        (second_true (not (is_cell e.1)) later (h.1 s)))
        (first_true (not (is_cell e.1)) later (h.1 s)),
  )

  other_entries : (e : List ℕ × Tree) (es : Entries) → EntriesName (e ∷ es) → EntriesName es
  other_entries e es h = (
    omega (arith, h.0, le-max_right (cell_bound e.1) (fields_bound (pack_fields es))),
    λ s. second_true (is_clean e.1) (is_clean (dict (pack_fields es)))
        (second_true (not (is_cell e.1)) (is_clean e.1 && is_clean (dict (pack_fields es)))
        (h.1 s)),
  )

  -- an entry is put into a map
  inserted_names : (es : Entries) (k : List ℕ) (t : Tree) → EntriesName es → PlainTree t →
      EntriesName (put_entry k t es)
  inserted_names [] k t h one = added_names k t [] one h
  inserted_names (e ∷ es) k t h one =
      by_order (slice_cmp nat_cmp k e.0) (inserted_names es k t rest one) where
        rest : EntriesName es
        rest = other_entries e es h

        by_order : (o : Ordering) → EntriesName (put_entry k t es) →
            EntriesName (match_ordering o ((k, t) ∷ e ∷ es) ((e.0, t) ∷ es)
            (e ∷ put_entry k t es))
        by_order ordering.Less later = added_names k t (e ∷ es) one h
        by_order ordering.Equal later = added_names e.0 t es one rest
        by_order ordering.Greater later =
            added_names e.0 e.1 (put_entry k t es) (first_entry e es h) later

  put_names : (fs : List Field) (es : Entries) → AllByRecursion FieldNames fs → EntriesName es →
      EntriesName (put_fields fs es)
  put_names [] es h k = k
  put_names (f ∷ fs) es h k =
      put_names fs (put_entry f.0 (tree f.1) es) h.1 (inserted_names es f.0 (tree f.1) k h.0)

  -- an index that was not found
  index_names : (v : Dynamic) (p : Position) → ProblemNames clean n (Plain (IndexNotFound v) p) →
      PlainTree (tree v)
  index_names v p h =
      let own = first_names v (not (is_cell (tree v))) h.0 h.1 in (
        own.0,
        λ s. both_true (is_clean (tree v)) (not (is_cell (tree v))) (own.1 s)
            (second_true (is_clean (tree v) && true) (not (is_cell (tree v))) (h.1 s)),
      )

  -- the fields of a fault are among what it holds
  kind_fields : (k : FaultKind) (p : Position) → ProblemNames clean n (Plain k p) →
      catchable (Plain k p) ≡ true → AllByRecursion FieldNames (row k).fields
  kind_fields (Parsing t) p h may = tt
  kind_fields (VariableExists s) p h may = ((omega arith, λ s. refl), tt)
  kind_fields (ForbiddenVariable s) p h may = ((omega arith, λ s. refl), tt)
  kind_fields (VariableNotFound s) p h may = ((omega arith, λ s. refl), tt)
  kind_fields (PropertyNotFound s) p h may = ((omega arith, λ s. refl), tt)
  kind_fields (IndexNotFound v) p h may = (index_names v p h, tt)
  kind_fields (FunctionNotFound s) p h may = ((omega arith, λ s. refl), tt)
  kind_fields (ModuleNotFound s) p h may = ((omega arith, λ s. refl), tt)
  kind_fields UnboundThis p h may = tt
  kind_fields (MismatchDataType r a) p h may = ((omega arith, λ s. refl), ((omega arith, λ s. refl), tt))
  kind_fields (MismatchOutputType r a) p h may = ((omega arith, λ s. refl), ((omega arith, λ s. refl), tt))
  kind_fields (IndexingType t) p h may = ((omega arith, λ s. refl), tt)
  kind_fields (ArrayBounds l i) p h may = ((omega arith, λ s. refl), ((omega arith, λ s. refl), tt))
  kind_fields (StringBounds l i) p h may = ((omega arith, λ s. refl), ((omega arith, λ s. refl), tt))
  kind_fields (BitFieldBounds l i) p h may = ((omega arith, λ s. refl), ((omega arith, λ s. refl), tt))
  kind_fields For p h may = tt
  kind_fields (DataRace s) p h may = ((omega arith, λ s. refl), tt)
  kind_fields (NonPureCall f) p h may = ((omega arith, λ s. refl), tt)
  kind_fields (AssignmentToConstant s) p h may = ((omega arith, λ s. refl), tt)
  kind_fields (DotExpr s) p h may = ((omega arith, λ s. refl), tt)
  kind_fields (Arithmetic s) p h may = tt
  kind_fields TooManyOperations p h may = tt
  kind_fields TooManyVariables p h may = tt
  kind_fields TooManyModules p h may = tt
  kind_fields StackOverflow p h may = tt
  kind_fields (DataTooLarge t) p h may = ((omega arith, λ s. refl), tt)
  kind_fields (Terminated v) p h may = absurd cc
  kind_fields (CustomSyntax s tokens) p h may = absurd cc
  kind_fields (Runtime v) p h may = tt
  kind_fields (LoopBreak b v) p h may = tt
  kind_fields (Return v) p h may = tt
  kind_fields (Exit v) p h may = tt
  kind_fields (Malformed k) p h may = tt

  own_names : (x : Problem) → ProblemNames clean n x → catchable x ≡ true →
      AllByRecursion FieldNames (own_fields x)
  own_names (Plain k p) h may = kind_fields k p h may
  own_names (InFunctionCall f s x p) h may =
      ((omega arith, λ s. refl), ((omega arith, λ s. refl), tt))
  own_names (InModule m x p) h may = ((omega arith, λ s. refl), tt)
  own_names (SystemError s e) h may = tt
  own_names NoMemory h may = tt

  sourced_names : (source : Option (List ℕ)) (es : Entries) → EntriesName es →
      EntriesName (with_source source es)
  sourced_names None es h = h
  sourced_names (Some s) es h =
      inserted_names es (codes "source") (tree (dynamic.Text s)) h (omega arith, λ s. refl)

  located_names : (p : Position) (es : Entries) → EntriesName es → EntriesName (with_place p es)
  located_names p es h = at (is_nowhere p) where
    line : Entries
    line = put_entry (codes "line") (tree (dynamic.Int (pos p.line))) es

    at : (b : Bool) → EntriesName
        (if b then es else put_entry (codes "position") (tree (dynamic.Int (pos p.column))) line)
    at true = h
    at false =
        inserted_names line (codes "position") (tree (dynamic.Int (pos p.column)))
        (inserted_names es (codes "line") (tree (dynamic.Int (pos p.line))) h
        (omega arith, λ s. refl))
        (omega arith, λ s. refl)

  map_names : (source : Option (List ℕ)) (x : Problem) → ProblemNames clean n x →
      catchable x ≡ true → EntriesName (fault_map source x)
  map_names source x h may =
      let message = tree (dynamic.Text (fault_text (at_position nowhere x))) in
      let one : Entries = put_entry (codes "message") message [] in
      let two : Entries = with_source source one in
      put_names (fields_of x) (with_place (position_of_problem x) two)
      ((omega arith, λ s. refl), own_names x h may)
      (located_names (position_of_problem x) two (sourced_names source one
      (inserted_names [] (codes "message") message (omega arith, λ s. refl)
      (omega arith, λ s. refl))))

  thrown_names : (x : Problem) (v : Dynamic) → ProblemNames clean n x → thrown_in x ≡ Some v →
      Names clean n v
  thrown_names (Plain (Runtime u) p) v h is =
      let same : u ≡ v = cc in
      subst (λ (d : Dynamic). Names clean n d) same (first_names u true h.0 h.1)
  thrown_names (Plain k p) v h is = absurd cc
  thrown_names (InFunctionCall f s x p) v h is = absurd cc
  thrown_names (InModule m x p) v h is = absurd cc
  thrown_names (SystemError s e) v h is = absurd cc
  thrown_names NoMemory v h is = absurd cc

  -- the value of a catch
  pub caught_names : (source : Option (List ℕ)) (x : Problem) → ProblemNames clean n x →
      catchable x ≡ true → Names clean n (caught_value source x)
  caught_names source x h may = at (thrown_in (inner_fault x)) refl where
    at : (o : Option Dynamic) → thrown_in (inner_fault x) ≡ o →
        Names clean n (value_or_map o (fault_map source x))
    at None is = map_names source x h may
    at (Some v) is = thrown_names (inner_fault x) v (inner_names x h) is
