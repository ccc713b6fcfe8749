-- The same of the steps of a walk, and so of a chain's whole walk.
use Rattle.std.proofs.Common.{◌≡◌, ◌≤◌, ◌-◌, ◌+◌, ℕ, zero, suc, List, [], ◌∷◌, Bool, true, false, Option, Some, None, Result, Ok, Err, drop, map, take, refl, arith}
use Rattle.std.specs.List.{AllByRecursion}
use Rattle.std.specs.Prelude.{if◌then◌else◌, slice_index_or}
use Rattle.grain_value.specs.Locating.{locate}
use Rattle.grain_value.specs.Looking.{cell_of, is_unit}
use Rattle.grain_value.specs.Maps.{entry_at}
use Rattle.grain_value.specs.Parts.{part}
use Rattle.grain_value.specs.Tree.{Tree, unit}
use Rattle.grain_value.specs.View.{value_of}
use Rattle.grain_value.specs.laws.Same.{tree-value_of}
use Rattle.grain_value.specs.declared.values.Dynamic.{Dynamic}
use Rattle.grain_value.specs.declared.values.Dynamic.TheVariants as dynamic
use Rattle.grain_value.specs.declared.values.Held.{Held}
use Rattle.grain_value.specs.declared.values.locating.Spot.{Spot}
use Rattle.grain_value.specs.declared.values.locating.Spot.TheVariants as spot
use Rattle.grain_value.specs.declared.values.value_faults.ValueFault.{ValueFault}
use Rattle.grain_value.specs.declared.values.value_faults.ValueFault.TheVariants as fault
use Rattle.grain_fault.specs.Problems.{Plain}
use Rattle.grain_fault.specs.declared.places.Position.{Position}
use Rattle.grain_program.specs.View.{name_of}
use Rattle.grain_program.specs.declared.code.parts.AssignOp.{AssignOp}
use Rattle.grain_program.specs.declared.code.chains.Step.{Step}
use Rattle.grain_program.specs.declared.code.chains.Step.TheVariants as step
use Rattle.grain_means.specs.Contained.{AnswerNames, HeldNames, Names, ProblemNames}
use Rattle.grain_means.specs.Tasks.{WalkEnded, Task, Done}
use Rattle.grain_means.specs.Walks as walks
use Rattle.grain_means.specs.Walks.{Setting, Course, Rest, Next, Role, Passes, Reads, Writes, Operates, Origin, OfIndex, OfProperty, OfNothing, assigning, flattening, is_indexed, origin_of_part, out_of_bounds, role_at_end, skips, with_key}
use Rattle.grain_means.specs.Rules.{asks_root}
use Rattle.grain_means.specs.Worlds.{Answer, Place}
use Rattle.grain_means.proofs.Inside.{TreeNames, entry_put}
use Rattle.grain_means.proofs.Naming.{all_drop, all_take, all_wider}
use Rattle.grain_means.proofs.Containing.MethodTasks.{GoesOn, asks_shared_step, method_step}
use Rattle.grain_means.proofs.Containing.Asking.{gets_property, index_read, into_answer, operates, origin_wider, roots, sets_index, sets_property}
use Rattle.grain_means.proofs.Containing.Tasks.{part_none, PlainValue, Solid, TaskNames, ValuesName, Follows, Goes, OriginNames, Reading, ReadsOn, by, now, out, unit_names, names_wider, follows_wider, assigned, fails, reads, given}

-- an index that nothing stands at is a number
bounds_none : (d : Dynamic) (size : ℕ) (i : _) (q : Position) (clean : Bool) (n : ℕ) →
    ProblemNames clean n (Plain (out_of_bounds d size i) q)
bounds_none (dynamic.Array ts) size i q clean n = (omega arith, λ s. refl)
bounds_none (dynamic.Blob s) size i q clean n = (omega arith, λ s. refl)
bounds_none (dynamic.Text s) size i q clean n = (omega arith, λ s. refl)
bounds_none d size i q clean n = (omega arith, λ s. refl)

module _ (clean bare : Bool) (n : ℕ) where
  -- the value that a role assigns
  abbrev pub RoleNames : Role → Type 0
  RoleNames Passes = Unit {0}
  RoleNames Reads = Unit {0}
  RoleNames (Writes v) = Names clean n v
  RoleNames (Operates v a) = Names clean n v

  -- a map with a key more
  key_added : (name : List ℕ) (d : Dynamic) → Names clean n d → cell_of d ≡ None →
      PlainValue clean n (with_key name d)
  key_added name (dynamic.Map es) names plain =
      (entry_put clean n name unit es names ((omega arith, λ s. refl), λ s. refl), refl)
  key_added name d names plain = (names, plain)

  module _ (k : ℕ) (g : Setting) where
    -- a value is none where what stands there is none
    missing_key : (q : Position) (o : Origin) (role : Role) (name : List ℕ) (h : Held) →
        HeldNames clean n h → cell_of h.value ≡ None → (next : Next) → Goes clean bare n next →
        (p : Place) → Solid bare p → OriginNames clean bare n o p → (done : Rest) →
        Follows clean bare n done →
        TaskNames clean bare n (walks.missing_key g k q o role name h next p done)
    missing_key q o role name h held plain next on p solid from done f =
        by clean bare n (assigning role) _ _
        (out clean bare n done k f, (key_added name h.value held plain, on _ solid done f))
        (by clean bare n g.engine.strict_properties _ _
        (fails clean bare n k _ done f (omega arith, λ s. refl))
        (roots clean bare n k g o p from (record h { value = dynamic.Unit })
        ((omega arith, λ s. refl), refl) next on done f))

    -- what an index names, with the store as it is once a native was asked
    index_answer : (q : Position) (own : Bool) (i : Dynamic) → Names clean n i → (bracket : Position) →
        (next : Next) → GoesOn clean bare n next → (p : Place) → Solid bare p → (done : Rest) →
        Follows clean bare n done → (j : ℕ) → n ≤ j →
        Reading clean bare j (walks.into_answer g k q own (OfIndex i bracket) next p done)
    index_answer q own i index bracket next on p solid done f j le =
        into_answer clean bare j k g q own (OfIndex i bracket) p (names_wider clean n j le i index, solid)
        next (on j le) done (follows_wider clean bare n j le done f)

    index_given : (q : Position) (own : Bool) (i : Dynamic) → Names clean n i → (bracket : Position) →
        (next : Next) → GoesOn clean bare n next → (p : Place) → Solid bare p → (done : Rest) →
        Follows clean bare n done → (j : ℕ) → n ≤ j → (a : Answer) → AnswerNames clean j a →
        TaskNames clean bare j
        (walks.was_given k done (walks.into_answer g k q own (OfIndex i bracket) next p done) a)
    index_given q own i index bracket next on p solid done f j le =
        given clean bare j k done (walks.into_answer g k q own (OfIndex i bracket) next p done)
        (follows_wider clean bare n j le done f)
        (index_answer q own i index bracket next on p solid done f j le)

    operates_on : (q : Position) (a : AssignOp) (v : Dynamic) → Names clean n v →
        GoesOn clean bare n (walks.operating g k q a v)
    operates_on q a v value = λ j le.
        operates clean bare j k g q a v (names_wider clean n j le v value)

    by_indexer : (q bracket : Position) (role : Role) → RoleNames role → (i : Dynamic) →
        Names clean n i → (next : Next) → GoesOn clean bare n next →
        Goes clean bare n (walks.by_indexer g k q bracket role i next)
    by_indexer q bracket Passes value i index next on p solid done f = (
      out clean bare n done k f,
      ((index, tt), solid, index_given q false i index bracket next on p solid done f),
    )
    by_indexer q bracket Reads value i index next on p solid done f = (
      out clean bare n done k f,
      ((index, tt), solid, index_given q true i index bracket next on p solid done f),
    )
    by_indexer q bracket (Writes v) value i index next on p solid done f =
        sets_index clean bare n k bracket p i v dynamic.Unit done solid f index value
        (unit_names clean bare n)
    by_indexer q bracket (Operates v a) value i index next on p solid done f = (
      out clean bare n done k f,
      (
        (index, tt),
        solid,
        λ j le. index_read clean bare j k bracket p i v done
            (walks.into_answer g k bracket false (OfIndex i bracket) (walks.operating g k bracket a v) p
            done) solid (follows_wider clean bare n j le done f) (names_wider clean n j le i index)
            (names_wider clean n j le v value)
            (index_answer bracket false i index bracket (walks.operating g k bracket a v)
            (operates_on bracket a v value) p solid done f j le),
      ),
    )

    part_origin : (r : Role) (s : Spot) (p : Place) → OriginNames clean bare n (origin_of_part r s) p
    part_origin Passes s p = tt
    part_origin Reads s p = tt
    part_origin (Writes v) s p = tt
    part_origin (Operates v a) s p = tt

    indexed : (q bracket : Position) (role : Role) → RoleNames role → (i v : Dynamic) →
        Names clean n i → (h : Held) → HeldNames clean n h → cell_of h.value ≡ None →
        (next : Next) → GoesOn clean bare n next → (p : Place) → Solid bare p → (done : Rest) →
        Follows clean bare n done → (r : Result Spot ValueFault) →
        TaskNames clean bare n (walks.indexed g k q bracket role i v h next p done r)
    indexed q bracket role value i v index h held plain next on p solid done f (Ok (spot.Item j)) =
        (out clean bare n done k f, on n (omega arith) _ solid done f)
    indexed q bracket role value i v index h held plain next on p solid done f (Ok spot.Key) =
        (out clean bare n done k f, on n (omega arith) _ solid done f)
    indexed q bracket role value i v index h held plain next on p solid done f (Ok s) =
        roots clean bare n k g (origin_of_part role s) p (part_origin role s p)
        (record h { value = part h.value s }) (part_none h.value s clean n) next (on n (omega arith)) done f
    indexed q bracket role value i v index h held plain next on p solid done f
        (Err (fault.Bounds size j)) =
        fails clean bare n k _ done f (bounds_none h.value size j q clean n)
    indexed q bracket role value i v index h held plain next on p solid done f (Err fault.NoKey) =
        missing_key q (OfIndex i bracket) role _ h held plain next (on n (omega arith)) p solid
        (index, solid) done f
    indexed q bracket role value i v index h held plain next on p solid done f
        (Err fault.WrongType) = fails clean bare n k _ done f (omega arith, λ s. refl)
    indexed q bracket role value i v index h held plain next on p solid done f (Err e) =
        by_indexer q bracket role value i index next on p solid done f

    -- what is indexed itself is no cell
    indexed_plain : (d : Dynamic) → is_indexed d ≡ true → cell_of d ≡ None
    indexed_plain (dynamic.Array ts) e = refl
    indexed_plain (dynamic.Blob s) e = refl
    indexed_plain (dynamic.Text s) e = refl
    indexed_plain (dynamic.Int i) e = refl
    indexed_plain (dynamic.Map es) e = refl
    indexed_plain d e = absurd cc

    index_step : (i : Dynamic) → Names clean n i → (q bracket : Position) (role : Role) →
        RoleNames role → (next : Next) → GoesOn clean bare n next →
        Goes clean bare n (walks.index_step g k i q bracket role next)
    index_step i index q bracket role value next on p solid done f = λ h held.
        by_kind h held (is_indexed h.value) refl where
          by_kind : (h : Held) → HeldNames clean n h → (b : Bool) → is_indexed h.value ≡ b →
              TaskNames clean bare n (if b then flattening k q i done (λ v.
              walks.indexed g k q bracket role i v h next p done (locate h.value v))
              else walks.by_indexer g k q bracket role i next p done)
          by_kind h held true e =
              reads clean bare n k q i done
              (λ v. walks.indexed g k q bracket role i v h next p done (locate h.value v))
              f index (λ v plain. indexed q bracket role value i v index h held
              (indexed_plain h.value e) next on p solid done f (locate h.value v))
          by_kind h held false e = by_indexer q bracket role value i index next on p solid done f

    property_answer : (own : Bool) (o : Origin) (q : Position) (p : Place) →
        OriginNames clean bare n o p → (next : Next) → GoesOn clean bare n next → (done : Rest) →
        Follows clean bare n done → ReadsOn clean bare n (walks.into_answer g k q own o next p done)
    property_answer own o q p from next on done f = λ j le.
        into_answer clean bare j k g q own o p (origin_wider clean bare n j le o p from) next (on j le)
        done (follows_wider clean bare n j le done f)

    by_accessor : (name getter setter : ℕ) (q : Position) (role : Role) → RoleNames role →
        (next : Next) → GoesOn clean bare n next →
        Goes clean bare n (walks.by_accessor g k name getter setter q role next)
    by_accessor name getter setter q Passes value next on p solid done f =
        gets_property clean bare n k g name getter q p done
        (walks.into_answer g k q false (OfProperty name setter q false) next p done) solid f
        (property_answer false (OfProperty name setter q false) q p solid next on done f)
    by_accessor name getter setter q Reads value next on p solid done f =
        gets_property clean bare n k g name getter q p done
        (walks.into_answer g k q true (OfProperty name setter q false) next p done) solid f
        (property_answer true (OfProperty name setter q false) q p solid next on done f)
    by_accessor name getter setter q (Writes v) value next on p solid done f =
        sets_property clean bare n k g name setter q true p v dynamic.Unit done solid f value
        (unit_names clean bare n)
    by_accessor name getter setter q (Operates v a) value next on p solid done f =
        gets_property clean bare n k g name getter q p done
        (walks.into_answer g k q false (OfProperty name setter q true) (walks.operating g k q a v) p done)
        solid f
        (property_answer false (OfProperty name setter q true) q p solid (walks.operating g k q a v)
        (operates_on q a v value) done f)

    at_key : (q : Position) (role : Role) (name : List ℕ) (h : Held) → HeldNames clean n h →
        cell_of h.value ≡ None → (next : Next) → GoesOn clean bare n next → (p : Place) →
        Solid bare p → (done : Rest) → Follows clean bare n done → (t : Option Tree) →
        TaskNames clean bare n (walks.at_key g k q role name h next p done t)
    at_key q role name h held plain next on p solid done f (Some t) =
        (out clean bare n done k f, on n (omega arith) _ solid done f)
    at_key q role name h held plain next on p solid done f None =
        missing_key q OfNothing role name h held plain next (on n (omega arith)) p solid tt done f

    property_step : (name getter setter : ℕ) (q : Position) (role : Role) → RoleNames role →
        (next : Next) → GoesOn clean bare n next →
        Goes clean bare n (walks.property_step g k name getter setter q role next)
    property_step name getter setter q role value next on p solid done f = λ h held.
        at h held h.value refl where
          at : (h : Held) → HeldNames clean n h → (d : Dynamic) → h.value ≡ d →
              TaskNames clean bare n (walks.property_of g k name getter setter q role h next p done d)
          at h held (dynamic.Map es) e =
              at_key q role (name_of g.program name) h held (ap_none e) next on p solid done f
              (entry_at (name_of g.program name) es) where
                ap_none : h.value ≡ dynamic.Map es → cell_of h.value ≡ None
                ap_none same = rw same refl
          at h held d e = by_accessor name getter setter q role value next on p solid done f

  unless : (j : ℕ) (q : Position) (b : Bool) (p : Place) (done : Rest) (go : Task) →
      Follows clean bare n done → TaskNames clean bare n go →
      TaskNames clean bare n (walks.unless_unit j q b p done go)
  unless j q false p done go f h = h
  unless j q true p done go f h = λ x held.
      reads clean bare n j q x.value done (walks.if_not_unit done go) f held
      (λ u plain. by clean bare n (is_unit u) _ _
      (now clean bare n done f (WalkEnded dynamic.Unit false) (unit_names clean bare n)) h)

-- an operand of the chain
trees_got : (clean : Bool) (n : ℕ) (ts : List Tree) (i : ℕ) → AllByRecursion (TreeNames clean n) ts →
    Names clean n (value_of (slice_index_or ts i unit))
trees_got clean n ts i all = at ts i all where
  named : (t : Tree) → TreeNames clean n t → Names clean n (value_of t)
  named t h = rw (tree-value_of t) h

  at : (ts : List Tree) (i : ℕ) → AllByRecursion (TreeNames clean n) ts →
      Names clean n (value_of (slice_index_or ts i unit))
  at [] i h = (omega arith, λ s. refl)
  at (t ∷ ts) zero h = named t h.0
  at (t ∷ ts) (suc i) h = at ts i h.1

-- and operands of it
values_got : (clean : Bool) (n : ℕ) (ts : List Tree) → AllByRecursion (TreeNames clean n) ts →
    ValuesName clean n (map value_of ts)
values_got clean n [] h = tt
values_got clean n (t ∷ ts) h = (rw (tree-value_of t) h.0, values_got clean n ts h.1)

abbrev pub AssignsNames : Bool → ℕ → Option Dynamic → Type 0
AssignsNames clean n None = Unit {0}
AssignsNames clean n (Some v) = PlainValue clean n v

-- what a chain took from the operands
abbrev pub CourseNames : Bool → ℕ → Course → Type 0
CourseNames clean n c =
    AllByRecursion (TreeNames clean n) c.operands × AssignsNames clean n c.assigns

course_wider : (clean : Bool) (n j : ℕ) → n ≤ j → (c : Course) → CourseNames clean n c →
    CourseNames clean j c
course_wider clean n j le c h = (
  all_wider (TreeNames clean n) (TreeNames clean j) (λ t p. (omega (arith, p.0, le), p.1)) c.operands
      h.0,
  assigns c.assigns h.1,
) where
  assigns : (v : Option Dynamic) → AssignsNames clean n v → AssignsNames clean j v
  assigns None p = tt
  assigns (Some v) p = (names_wider clean n j le v p.0, p.1)

module _ (clean bare : Bool) (c : Course) where
  module _ (n : ℕ) (names : CourseNames clean n c) where
    method_operands : (i argc : ℕ) → ValuesName clean n (walks.operands_from c i argc)
    method_operands i argc =
        values_got clean n (take argc (drop i c.operands))
        (all_take (TreeNames clean n) argc (drop i c.operands)
        (all_drop (TreeNames clean n) i c.operands names.0))

    takes : (k : ℕ) (s : Step) (role : Role) → RoleNames clean bare n role → (next : Next) →
        GoesOn clean bare n next → Goes clean bare n (walks.taken c s k role next)
    takes k (step.Index i flags q bracket) role named next on =
        index_step clean bare n k c.setting (walks.operand c i)
        (trees_got clean n c.operands i names.0) q bracket role named next on
    takes k (step.Property name getter setter flags q) role named next on =
        property_step clean bare n k c.setting name getter setter q role named next on
    takes k (step.Method name argc i flags q) role named next on =
        method_step clean bare n k c.setting q (walks.operands_from c i argc)
        (method_operands i argc) (walks.reads role) next on name argc

    ends : (k : ℕ) (v : Option Dynamic) → AssignsNames clean n v → (op : Option AssignOp) →
        Goes clean bare n (walks.ended c.setting (role_at_end v op) k)
    ends k None named op p solid done f =
        (out clean bare n done k f, λ h held. now clean bare n done f (WalkEnded h.value false) held)
    ends k (Some v) named None p solid done f =
        (out clean bare n done k f, (named, assigned clean bare n done f))
    ends k (Some v) named (Some a) p solid done f =
        operates clean bare n k c.setting c.setting.position a v named.0 p solid done f

    last_names : (v : Option Dynamic) → AssignsNames clean n v → (op : Option AssignOp) →
        RoleNames clean bare n (role_at_end v op)
    last_names None named op = tt
    last_names (Some v) named None = named.0
    last_names (Some v) named (Some a) = named.0

    role_names : (steps : List Step) → RoleNames clean bare n (walks.role_before c steps)
    role_names [] = last_names c.assigns names.1 c.operator
    role_names (s ∷ steps) = tt

  walks_on : (steps : List Step) (k n : ℕ) → CourseNames clean n c →
      Goes clean bare n (walks.walked c steps k)
  walks_on [] k n names = ends n names (k - 1) c.assigns names.1 c.operator
  walks_on (s ∷ steps) k n names = λ p solid done f. (
    out clean bare n done k f,
    unless clean bare n k (walks.step_position s) (skips s) p done _ f
        (takes n names k s (walks.role_before c steps) (role_names n names steps)
        (walks.walked c steps (k + 1))
        (λ j le. walks_on steps (k + 1) j (course_wider clean n j le c names)) p solid done f),
  )

-- a walk is over
over : (clean bare : Bool) (n : ℕ) → Follows clean bare n Done
over clean bare n = λ j le o names. names

pub walk_names : (clean : Bool) (n : ℕ) (c : Course) → CourseNames clean n c → (steps : List Step) →
    TaskNames clean false n (walks.whole_walk c steps)
walk_names clean n c names steps =
    walks_on clean false c steps 0 n names (record { root = 0; path = [] }) (λ e. absurd cc) Done
    (over clean false n)

-- so it is if its first root may be a cell, and the first step asks whether it is one
pub bare_names : (clean : Bool) (n : ℕ) (c : Course) → CourseNames clean n c → (steps : List Step) →
    asks_root c.setting.program steps ≡ true → TaskNames clean true n (walks.whole_walk c steps)
bare_names clean n c names [] asks = absurd cc
bare_names clean n c names (step.Index i flags q bracket ∷ steps) asks = absurd cc
bare_names clean n c names (step.Property name getter setter flags q ∷ steps) asks = absurd cc
bare_names clean n c names (step.Method name argc i flags q ∷ steps) asks = (
  out clean true n Done 0 (over clean true n),
  unless clean true n 0 q (skips (step.Method name argc i flags q)) (record { root = 0; path = [] })
      Done _ (over clean true n)
      (asks_shared_step clean true n 0 c.setting q (walks.operands_from c i argc)
      (walks.reads (walks.role_before c steps)) (walks.walked c steps 1)
      (walks_on clean true c steps 1 n names) name argc asks (record { root = 0; path = [] }) Done
      (over clean true n)),
)
