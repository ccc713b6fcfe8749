-- Every end of a walk: one root is left, a chain that assigns ends with unit, and the step that is blamed
-- is one of the chain's.
use Rattle.std.proofs.Common.{◌≡◌, ◌<◌, ◌+◌, ◌-◌, ℕ, suc, Bool, true, false, List, [], ◌∷◌, ◌++◌, Option, Some, None, Result, Ok, Err, length, take, is_some, refl, sym, ap, subst, arith}
use Rattle.std.proofs.lemmas.List.{length-append, length-take}
use Rattle.std.specs.Prelude.{bytes_eq, codes, if◌then◌else◌}
use Rattle.grain_value.specs.Cells.{flat}
use Rattle.grain_value.specs.Operands.{read_write}
use Rattle.grain_value.specs.Looking.{is_unit, pointer_of}
use Rattle.grain_value.specs.Locating.{locate}
use Rattle.grain_value.specs.Parts.{part, with_part}
use Rattle.grain_value.specs.Writing.{type_name_of}
use Rattle.grain_value.specs.Maps.{entry_at}
use Rattle.grain_value.specs.Tree.{Tree}
use Rattle.grain_value.specs.declared.values.Dynamic.{Dynamic}
use Rattle.grain_value.specs.declared.values.Dynamic.TheVariants as dynamic
use Rattle.grain_value.specs.declared.values.FnPtr.{FnPtr}
use Rattle.grain_value.specs.declared.values.Held.{Held}
use Rattle.grain_value.specs.declared.values.locating.Spot.{Spot}
use Rattle.grain_value.specs.declared.values.locating.Spot.TheVariants as spot
use Rattle.grain_value.specs.declared.values.value_faults.ValueFault.{ValueFault}
use Rattle.grain_value.specs.declared.values.value_faults.ValueFault.TheVariants as fault
use Rattle.grain_value.specs.declared.stores.Cell.{Cell}
use Rattle.grain_fault.specs.Absences.{is_dot_expr, is_indexing_type}
use Rattle.grain_fault.specs.Classes.{catchable}
use Rattle.grain_fault.specs.Problems.{Problem, NoMemory}
use Rattle.grain_fault.specs.declared.places.Position.{Position}
use Rattle.grain_host.specs.Signatures.{says_missing}
use Rattle.grain_ops.specs.Outcomes.{Outcome, NotBuiltIn, Gave, ArithmeticFault, TooLarge}
use Rattle.grain_program.specs.Lookups.{method_of}
use Rattle.grain_program.specs.View.{name_of}
use Rattle.grain_program.specs.declared.code.parts.AssignOp.{AssignOp}
use Rattle.grain_program.specs.declared.code.chains.Step.{Step}
use Rattle.grain_program.specs.declared.code.chains.Step.TheVariants as step
use Rattle.grain_means.specs.Worlds.{is_stop, Place, Answer, Came, Failed}
use Rattle.grain_means.specs.Places.{look, put, next_root}
use Rattle.grain_means.specs.Tasks.{Walked, WalkEnded, WalkFailed, Task, Done, Mark, Look, Flatten, Write, Root, Drop, Need, Invoke, Own, Play, play, root_after}
use Rattle.grain_means.specs.Walks as walks
use Rattle.grain_means.specs.Walks.{Setting, Course, Rest, Next, Role, Passes, Reads, Writes, Operates, Origin, OfPart, OfIndex, OfProperty, OfMethod, OfNothing, at_mark, failing, flat_or_busy, flattening, is_indexed, assigning, origin_of_part, skips, role_at_end}
use Rattle.grain_means.specs.WalkEnds.{AllEnds, PlayEnds, EndsRight, WalkEnds}
use Rattle.grain_means.specs.lemmas.PlaceLaws.{length-put}

-- of a choice both ways are proved
abbrev By : Bool → Type 0 → Type 0 → Type 0
By true A B = A
By false A B = B

module _ (N : ℕ) (assigns : Bool) where
  abbrev P : ℕ → Walked → Type 0
  P n o = (n ≡ 1) × EndsRight N assigns o

  abbrev Right : Walked → Type 0
  Right o = EndsRight N assigns o

  -- what follows a walk ends so, where there are j roots
  abbrev Follows : ℕ → Rest → Type 0
  Follows j done = (o : Walked) → Right o → AllEnds P j (done o)

  -- so does a walk from any place of the newest root
  abbrev Goes : Next → Type 0
  Goes next = (j : ℕ) (q : Place) (done : Rest) → suc q.root ≡ j → Follows j done →
      AllEnds P j (next q done)

  -- only a chain that does not assign reads where its steps end
  abbrev Fits : Role → Type 0
  Fits Reads = assigns ≡ false
  Fits Passes = Unit {0}
  Fits (Writes v) = Unit {0}
  Fits (Operates v a) = Unit {0}

  by : (b : Bool) (j : ℕ) (x y : Task) → AllEnds P j x → AllEnds P j y →
      AllEnds P j (if b then x else y)
  by true j x y h i = h
  by false j x y h i = i

  -- a step of the chain
  module _ (n : ℕ) (low : n < N) where
    marks : (j : ℕ) (done : Rest) (go : Task) → Follows j done → AllEnds P j go →
        AllEnds P j (at_mark n done go)
    marks j done go f h = (f (WalkFailed n NoMemory) low, h)

    fails : (j : ℕ) (x : Problem) (done : Rest) → Follows j done → AllEnds P j (failing n x done)
    fails j x done f = marks j done (done (WalkFailed n x)) f (f (WalkFailed n x) low)

    reads : (j : ℕ) (q : Position) (v : Dynamic) (done : Rest) (go : Dynamic → Task) →
        Follows j done → ((u : Dynamic) → AllEnds P j (go u)) →
        AllEnds P j (flattening n q v done go)
    reads j q v done go f h = λ o. at o where
      at : (o : Option Dynamic) → AllEnds P j (flat_or_busy n q done go o)
      at None = fails j _ done f
      at (Some u) = h u

    sets_index : (j : ℕ) (q : Position) (p : Place) (i v u : Dynamic) (done : Rest) →
        Follows j done → Right (WalkEnded u true) →
        AllEnds P j (walks.set_by_index n q p i v u done)
    sets_index j q p i v u done f unit = (f (WalkFailed n NoMemory) low, at) where
      at : (a : Answer) → AllEnds P j (walks.index_was_set n u done a)
      at (Came r) = f (WalkEnded u true) unit
      at (Failed x) =
          by (is_indexing_type x) j _ _ (f (WalkEnded u true) unit) (f (WalkFailed n x) low)

    set_instead : (j : ℕ) (x : Problem) (assigned : Bool) (u : Dynamic) (done : Rest) →
        Follows j done → Right (WalkEnded u true) → (a : Answer) →
        AllEnds P j (walks.set_instead n x assigned u done a)
    set_instead j x assigned u done f unit (Came r) = f (WalkEnded u true) unit
    set_instead j x assigned u done f unit (Failed y) =
        by (is_indexing_type y) j _ _
        (by assigned j _ _ (f (WalkFailed n x) low) (f (WalkEnded u true) unit)) (f (WalkFailed n y) low)

    property_set : (j : ℕ) (name : Dynamic) (q : Position) (assigned : Bool) (p : Place)
        (v u : Dynamic) (done : Rest) → Follows j done → Right (WalkEnded u true) → (a : Answer) →
        AllEnds P j (walks.property_was_set n name q assigned p v u done a)
    property_set j name q assigned p v u done f unit (Came r) = f (WalkEnded u true) unit
    property_set j name q assigned p v u done f unit (Failed x) =
        by (is_dot_expr x) j _ _
        ((f (WalkFailed n NoMemory) low, set_instead j x assigned u done f unit)) (f (WalkFailed n x) low)

    got_instead : (j : ℕ) (x : Problem) (done : Rest) (go : Dynamic → Task) → Follows j done →
        ((u : Dynamic) → AllEnds P j (go u)) → (a : Answer) →
        AllEnds P j (walks.got_instead n x done go a)
    got_instead j x done go f h (Came v) = h v
    got_instead j x done go f h (Failed y) =
        by (is_indexing_type y) j _ _ (f (WalkFailed n x) low) (f (WalkFailed n y) low)

    property_got : (j : ℕ) (name : Dynamic) (q : Position) (p : Place) (done : Rest)
        (go : Dynamic → Task) → Follows j done → ((u : Dynamic) → AllEnds P j (go u)) →
        (a : Answer) → AllEnds P j (walks.property_was_got n name q p done go a)
    property_got j name q p done go f h (Came v) = h v
    property_got j name q p done go f h (Failed x) =
        by (is_dot_expr x) j _ _
        ((f (WalkFailed n NoMemory) low, got_instead j x done go f h))
        (f (WalkFailed n x) low)

    index_got : (j : ℕ) (done : Rest) (go : Dynamic → Task) → Follows j done →
        ((u : Dynamic) → AllEnds P j (go u)) → (a : Answer) →
        AllEnds P j (walks.was_given n done go a)
    index_got j done go f h (Came v) = h v
    index_got j done go f h (Failed x) = f (WalkFailed n x) low

    module _ (g : Setting) where
      sets_property : (j name setter : ℕ) (q : Position) (assigned : Bool) (p : Place)
          (v u : Dynamic) (done : Rest) → Follows j done → Right (WalkEnded u true) →
          AllEnds P j (walks.set_property g n name setter q assigned p v u done)
      sets_property j name setter q assigned p v u done f unit =
          (f (WalkFailed n NoMemory) low, property_set j (walks.named g name) q assigned p v u done f unit)

      gets_property : (j name getter : ℕ) (q : Position) (p : Place) (done : Rest)
          (go : Dynamic → Task) → Follows j done → ((u : Dynamic) → AllEnds P j (go u)) →
          AllEnds P j (walks.get_property g n name getter q p done go)
      gets_property j name getter q p done go f h =
          (f (WalkFailed n NoMemory) low, property_got j (walks.named g name) q p done go f h)

      -- an op-assignment
      operator : (j : ℕ) (q : Position) (p : Place) (done : Rest) → Follows j done →
          (a : Answer) → AllEnds P j (walks.operator_answered n q p done a)
      operator j q p done f (Came r) =
          reads j q r done _ f (λ u. (
            f (WalkFailed n NoMemory) low,
            f (WalkEnded dynamic.Unit true)
                (λ s. refl),
          ))
      operator j q p done f (Failed x) = f (WalkFailed n x) low

      op_assigned : (j : ℕ) (q : Position) (a : AssignOp) (v : Dynamic) (p : Place) (done : Rest) →
          Follows j done → (b : Answer) →
          AllEnds P j (walks.was_op_assigned g n q a v p done b)
      op_assigned j q a v p done f (Came r) = f (WalkEnded dynamic.Unit true) (λ s. refl)
      op_assigned j q a v p done f (Failed x) =
          by (says_missing (name_of g.program a.op_assign_name) x) j _ _
          (λ h. (f (WalkFailed n NoMemory) low, operator j q p done f))
          (f (WalkFailed n x) low)

      stored : (j : ℕ) (q : Position) (a : AssignOp) (v : Dynamic) (p : Place) (done : Rest) →
          Follows j done → (o : Outcome) → AllEnds P j (walks.stored g n q a v p done o)
      stored j q a v p done f NotBuiltIn =
          (f (WalkFailed n NoMemory) low, op_assigned j q a v p done f)
      stored j q a v p done f (Gave r) = (
        f (WalkFailed n NoMemory) low,
        f
            (WalkEnded dynamic.Unit true) (λ s. refl),
      )
      stored j q a v p done f (ArithmeticFault text) = fails j _ done f
      stored j q a v p done f (TooLarge what) = fails j _ done f

      operates : (q : Position) (a : AssignOp) (v : Dynamic) → Goes (walks.operating g n q a v)
      operates q a v j p done is f = λ h. stored j q a v p done f _

      index_read : (j : ℕ) (q : Position) (p : Place) (i v : Dynamic) (done : Rest)
          (go : Dynamic → Task) → Follows j done → ((u : Dynamic) → AllEnds P j (go u)) →
          (a : Answer) → AllEnds P j (walks.index_was_read n q p i v done go a)
      index_read j q p i v done go f h (Came r) = h r
      index_read j q p i v done go f h (Failed x) =
          by (catchable x) j _ _ (sets_index j q p i v dynamic.Unit done f (λ s. refl))
          (f (WalkFailed n x) low)

      -- the way back
      put_part : (j : ℕ) (s : Spot) (p : Place) (v u : Dynamic) (changed : Bool) (done : Rest) →
          Follows j done → Right (WalkEnded u changed) → (d : Option Dynamic) →
          AllEnds P j (walks.put_part g n s p v u changed done d)
      put_part j s p v u changed done f unit (Some d) =
          (f (WalkFailed n NoMemory) low, f (WalkEnded u changed) unit)
      put_part j s p v u changed done f unit None = fails j _ done f

      sets_back : (j : ℕ) (o : Origin) (p : Place) (v u : Dynamic) (changed : Bool) (done : Rest) →
          Follows j done → Right (WalkEnded u changed) →
          AllEnds P j (walks.set_back g n o p v u changed done)
      sets_back j (OfPart s) p v u changed done f unit =
          (f (WalkFailed n NoMemory) low, λ h. put_part j s p v u changed done f unit (with_part h.value s v))
      sets_back j (OfIndex i q) p v u changed done f unit =
          by changed j _ _ (sets_index j q p i v u done f unit) (f (WalkEnded u false) unit)
      sets_back j (OfProperty name setter q assigned) p v u changed done f unit =
          by changed j _ _ (sets_property j name setter q assigned p v u done f unit)
          (f (WalkEnded u false) unit)
      sets_back j OfMethod p v u changed done f unit = f (WalkEnded u true) unit
      sets_back j OfNothing p v u changed done f unit = f (WalkEnded u changed) unit

      goes_back : (j : ℕ) (o : Origin) (p : Place) (done : Rest) → suc p.root ≡ j →
          Follows j done → Follows (suc j) (walks.back g n o p done)
      goes_back j o p done is f (WalkFailed k x) right = (
        omega (arith, is),
        λ h. subst (λ i. AllEnds P i (done (WalkFailed k x))) (sym is)
            (f (WalkFailed k x) right),
      )
      goes_back j o p done is f (WalkEnded u changed) right = (
        omega (arith, is),
        λ h. subst (λ i. AllEnds P i (walks.set_back g n o p h.value u changed done))
            (sym is) (sets_back j o p h.value u changed done f right),
      )

      roots : (o : Origin) (h : Held) (next : Next) → Goes next → Goes (walks.rooted g n o h next)
      roots o h next on j p done is f = (
        f (WalkFailed n NoMemory) low,
        on (suc j) (next_root p) (walks.back g n o p done) (ap suc is)
            (goes_back j o p done is f),
      )

      own_value : (j : ℕ) (o : Origin) (done : Rest) → Follows j done → assigns ≡ false →
          (v : Dynamic) → AllEnds P j (walks.own_value o done v)
      own_value j o done f none v = f (WalkEnded v (walks.is_change o)) (λ s. absurd cc)

      into_answer : (q : Position) (o : Origin) (next : Next) → Goes next → (j : ℕ)
          (p : Place) (done : Rest) → suc p.root ≡ j → Follows j done → (v : Dynamic) →
          AllEnds P j (walks.into_answer g n q false o next p done v)
      into_answer q o next on j p done is f v =
          reads j q v done _ f (λ u. roots o (read_write u) next on j p done is f)

      -- the steps
      missing_key : (q : Position) (o : Origin) (role : Role) (k : List ℕ) (h : Held) (next : Next) →
          Goes next → Goes (walks.missing_key g n q o role k h next)
      missing_key q o role k h next on j p done is f =
          by (assigning role) j _ _ ((f (WalkFailed n NoMemory) low, on j _ done is f))
          (by g.engine.strict_properties j _ _ (fails j _ done f)
          (roots o (record h { value = dynamic.Unit }) next on j p done is f))

      by_indexer : (q bracket : Position) (role : Role) → Fits role → (i : Dynamic) (next : Next) →
          Goes next → Goes (walks.by_indexer g n q bracket role i next)
      by_indexer q bracket Passes fit i next on j p done is f = (
        f (WalkFailed n NoMemory) low,
        index_got j done _ f (into_answer q (OfIndex i bracket) next on j p done is f),
      )
      by_indexer q bracket Reads fit i next on j p done is f =
          (f (WalkFailed n NoMemory) low, index_got j done _ f (own_value j (OfIndex i bracket) done f fit))
      by_indexer q bracket (Writes v) fit i next on j p done is f =
          sets_index j bracket p i v dynamic.Unit done f (λ s. refl)
      by_indexer q bracket (Operates v a) fit i next on j p done is f = (
        f (WalkFailed n NoMemory) low,
        index_read j bracket p i v done _ f
            (into_answer bracket (OfIndex i bracket) (walks.operating g n bracket a v)
            (operates bracket a v) j p done is f),
      )

      indexed : (q bracket : Position) (role : Role) → Fits role → (i v : Dynamic) (h : Held) (next : Next) →
          Goes next → (j : ℕ) (p : Place) (done : Rest) → suc p.root ≡ j → Follows j done →
          (r : Result Spot ValueFault) →
          AllEnds P j (walks.indexed g n q bracket role i v h next p done r)
      indexed q bracket role fit i v h next on j p done is f (Ok (spot.Item k)) =
          (f (WalkFailed n NoMemory) low, on j _ done is f)
      indexed q bracket role fit i v h next on j p done is f (Ok spot.Key) =
          (f (WalkFailed n NoMemory) low, on j _ done is f)
      indexed q bracket role fit i v h next on j p done is f (Ok s) =
          roots (origin_of_part role s) (record h { value = part h.value s }) next on j p done is f
      indexed q bracket role fit i v h next on j p done is f (Err (fault.Bounds size k)) =
          fails j _ done f
      indexed q bracket role fit i v h next on j p done is f (Err fault.NoKey) =
          missing_key q (OfIndex i bracket) role _ h next on j p done is f
      indexed q bracket role fit i v h next on j p done is f (Err fault.WrongType) = fails j _ done f
      indexed q bracket role fit i v h next on j p done is f (Err e) =
          by_indexer q bracket role fit i next on j p done is f

      index_step : (i : Dynamic) (q bracket : Position) (role : Role) → Fits role → (next : Next) →
          Goes next → Goes (walks.index_step g n i q bracket role next)
      index_step i q bracket role fit next on j p done is f = λ h.
          by (is_indexed h.value) j _ _
          (reads j q i done _ f (λ v. indexed q bracket role fit i v h next on j p done is f
          (locate h.value v)))
          (by_indexer q bracket role fit i next on j p done is f)

      by_accessor : (name getter setter : ℕ) (q : Position) (role : Role) → Fits role →
          (next : Next) → Goes next → Goes (walks.by_accessor g n name getter setter q role next)
      by_accessor name getter setter q Passes fit next on j p done is f =
          gets_property j name getter q p done _ f
          (into_answer q (OfProperty name setter q false) next on j p done is f)
      by_accessor name getter setter q Reads fit next on j p done is f =
          gets_property j name getter q p done _ f
          (own_value j (OfProperty name setter q false) done f fit)
      by_accessor name getter setter q (Writes v) fit next on j p done is f =
          sets_property j name setter q true p v dynamic.Unit done f (λ s. refl)
      by_accessor name getter setter q (Operates v a) fit next on j p done is f =
          gets_property j name getter q p done _ f
          (into_answer q (OfProperty name setter q true) (walks.operating g n q a v)
          (operates q a v) j p done is f)

      at_key : (q : Position) (role : Role) (k : List ℕ) (h : Held) (next : Next) → Goes next →
          (j : ℕ) (p : Place) (done : Rest) → suc p.root ≡ j → Follows j done → (t : Option Tree) →
          AllEnds P j (walks.at_key g n q role k h next p done t)
      at_key q role k h next on j p done is f (Some t) = (f (WalkFailed n NoMemory) low, on j _ done is f)
      at_key q role k h next on j p done is f None =
          missing_key q OfNothing role k h next on j p done is f

      property_of : (name getter setter : ℕ) (q : Position) (role : Role) → Fits role →
          (h : Held) (next : Next) → Goes next → (j : ℕ) (p : Place) (done : Rest) →
          suc p.root ≡ j → Follows j done →
          (d : Dynamic) →
          AllEnds P j (walks.property_of g n name getter setter q role h next p done d)
      property_of name getter setter q role fit h next on j p done is f (dynamic.Map es) =
          at_key q role (name_of g.program name) h next on j p done is f
          (entry_at (name_of g.program name) es)
      property_of name getter setter q role fit h next on j p done is f d =
          by_accessor name getter setter q role fit next on j p done is f

      -- a method step
      gives : (q : Position) (role : Role) → Fits role → (next : Next) → Goes next → (j : ℕ)
          (p : Place) (done : Rest) → suc p.root ≡ j → Follows j done → (v : Dynamic) →
          AllEnds P j (walks.into_answer g n q (walks.reads role) OfMethod next p done v)
      gives q Passes fit next on j p done is f v = into_answer q OfMethod next on j p done is f v
      gives q Reads fit next on j p done is f v = own_value j OfMethod done f fit v
      gives q (Writes u) fit next on j p done is f v = into_answer q OfMethod next on j p done is f v
      gives q (Operates u a) fit next on j p done is f v =
          into_answer q OfMethod next on j p done is f v

      module _ (q : Position) (args : List Dynamic) (role : Role) (fit : Fits role) (next : Next)
          (on : Goes next) (j : ℕ) (p : Place) (done : Rest) (is : suc p.root ≡ j)
          (f : Follows j done) where
        abbrev last : Bool
        last = walks.reads role

        method_answered : (a : Answer) →
            AllEnds P j (walks.method_answered g n q args last next p done a)
        method_answered a = index_got j done _ f (gives q role fit next on j p done is f) a

        first_called : (o : Option FnPtr) (v : Dynamic) (vs : List Dynamic) →
            AllEnds P j (walks.first_called g n q args last next p done o v vs)
        first_called None v vs = fails j _ done f
        first_called (Some r) v vs = (f (WalkFailed n NoMemory) low, method_answered)

        called_on : (d : Dynamic) (vs : List Dynamic) →
            AllEnds P j (walks.called_on g n q args last next p done d vs)
        called_on d [] = fails j _ done f
        called_on d (v ∷ vs) = reads j q v done _ f (λ u. first_called (pointer_of u) u vs)

        call_step : (o : Option FnPtr) (d : Dynamic) →
            AllEnds P j (walks.call_step g n q args last next p done o d)
        call_step None d = called_on d args
        call_step (Some r) d = (f (WalkFailed n NoMemory) low, method_answered)

        curry_step : (o : Option FnPtr) (d : Dynamic) →
            AllEnds P j (walks.curry_step g n q args last next p done o d)
        curry_step None d = fails j _ done f
        curry_step (Some r) d = gives q role fit next on j p done is f _

        by_method : (o : Option ℕ) (text : List ℕ) →
            AllEnds P j (walks.by_method g n q args last next p done o text)
        by_method None text = (f (WalkFailed n NoMemory) low, method_answered)
        by_method (Some i) text = (f (WalkFailed n NoMemory) low, method_answered)

        by_own : (o : Option FnPtr) (name argc : ℕ) (d : Dynamic) →
            AllEnds P j (walks.by_own g n q args last next p done o name argc d)
        by_own None name argc d =
            by_method (method_of g.program name argc (type_name_of d)) (name_of g.program name)
        by_own (Some r) name argc d = (f (WalkFailed n NoMemory) low, method_answered)

        method_at : (name argc : ℕ) (text : List ℕ) (h : Held) →
            AllEnds P j (walks.method_at g n q args last next p done name argc text h)
        method_at name argc text h =
            by (walks.asks_shared text argc) j _ _ (gives q role fit next on j p done is f _)
            (by (bytes_eq text (codes "call")) j _ _ (call_step (pointer_of h.value) h.value)
            (by (bytes_eq text (codes "curry")) j _ _ (curry_step (pointer_of h.value) h.value)
            (by_own (walks.own_pointer text h.value) name argc h.value)))

      method_step : (q : Position) (args : List Dynamic) (role : Role) → Fits role → (next : Next) →
          Goes next → (name argc : ℕ) → Goes (λ (p : Place) (done : Rest).
          walks.method_step g n q args (walks.reads role) next p done name argc)
      method_step q args role fit next on name argc j p done is f = λ h.
          method_at q args role fit next on j p done is f name argc (name_of g.program name) h

    -- a chain may end before a step, at unit
    unless : (q : Position) (b : Bool) (j : ℕ) (p : Place) (done : Rest) (go : Task) →
        Follows j done → AllEnds P j go → AllEnds P j (walks.unless_unit n q b p done go)
    unless q false j p done go f h = h
    unless q true j p done go f h = λ x. reads j q x.value done (walks.if_not_unit done go) f
        (λ v. by (is_unit v) j _ _ (f (WalkEnded dynamic.Unit false) (λ s. refl)) h)

module _ (c : Course) where
  abbrev Even : ℕ → Next → Type 0
  Even N next = Goes N (is_some c.assigns) next

  takes : (N n : ℕ) → n < N → (s : Step) (role : Role) → Fits N (is_some c.assigns) role →
      (next : Next) → Even N next → Even N (walks.taken c s n role next)
  takes N n low (step.Index i flags q bracket) role fit next on =
      index_step N (is_some c.assigns) n low c.setting (walks.operand c i) q bracket role fit next on
  takes N n low (step.Property name getter setter flags q) role fit next on =
      λ j p done is f h. property_of N (is_some c.assigns) n low c.setting name getter setter q role fit h
      next on j p done is f h.value
  takes N n low (step.Method name argc i flags q) role fit next on =
      method_step N (is_some c.assigns) n low c.setting q (walks.operands_from c i argc) role fit next
      on name argc

  ends : (N n : ℕ) → n < N → (v : Option Dynamic) (op : Option AssignOp) →
      Goes N (is_some v) (walks.ended c.setting (role_at_end v op) n)
  ends N n low None op j p done is f =
      (f (WalkFailed n NoMemory) low, λ h. f (WalkEnded h.value false) (λ s. absurd cc))
  ends N n low (Some v) None j p done is f =
      (f (WalkFailed n NoMemory) low, f (WalkEnded dynamic.Unit true) (λ s. refl))
  ends N n low (Some v) (Some a) j p done is f =
      operates N true n low c.setting c.setting.position a v j p done is f

  last_fits : (N : ℕ) (v : Option Dynamic) (op : Option AssignOp) →
      Fits N (is_some v) (role_at_end v op)
  last_fits N None op = refl
  last_fits N (Some v) None = tt
  last_fits N (Some v) (Some a) = tt

  fits : (N : ℕ) (steps : List Step) → Fits N (is_some c.assigns) (walks.role_before c steps)
  fits N [] = last_fits N c.assigns c.operator
  fits N (s ∷ steps) = tt

  walks_on : (N : ℕ) (steps : List Step) (n : ℕ) → n + length steps ≡ N → 0 < N →
      Even N (walks.walked c steps n)
  walks_on N [] n all some =
      ends N (n - 1) (omega (arith, all, some)) c.assigns c.operator
  walks_on N (s ∷ steps) n all some = λ j p done is f.
      let low : n < N = omega (arith, all) in (
        f (WalkFailed n NoMemory) low,
        unless N (is_some c.assigns) n low (walks.step_position s) (skips s) j p done _ f
            (takes N n low s (walks.role_before c steps) (fits N steps) (walks.walked c steps (n + 1))
            (walks_on N steps (n + 1) (omega (arith, all)) some) j p done is f),
      )

  pub walk_ends : (steps : List Step) → 0 < length steps →
      AllEnds (WalkEnds c steps) 1 (walks.whole_walk c steps)
  walk_ends steps some =
      walks_on (length steps) steps 0 (omega arith) some 1 (record { root = 0; path = [] }) Done refl
      (λ o right. (refl, right))

  -- so does a walk of no step
  pub no_step_ends : AllEnds (λ n o. (n ≡ 1) × EndsRight 1 (is_some c.assigns) o) 1
      (walks.whole_walk c [])
  no_step_ends =
      walks_on 1 [] 1 (omega arith) (omega arith) 1 (record { root = 0; path = [] }) Done refl
      (λ o right. (refl, right))

-- a walk by itself ends so, or still will, where it stands still
module _ (P : ℕ → Walked → Type 0) (stop : Option ℕ) (cells : List Cell) where
  by_mark : (b : Bool) (x y : Play) → PlayEnds P x → PlayEnds P y →
      PlayEnds P (if b then x else y)
  by_mark true x y h i = h
  by_mark false x y h i = i

  pub play_ends : (t : Task) (s : Own) → AllEnds P (length s.roots) t →
      PlayEnds P (play stop cells t s)
  play_ends (Done o) s h = h
  play_ends (Mark out go) s h =
      by_mark (is_stop stop s.passed) _ _ (play_ends out s h.0)
      (play_ends go (record s { passed = s.passed + 1 }) h.1)
  play_ends (Look q go) s h = play_ends (go (look s.roots q)) s (h (look s.roots q))
  play_ends (Flatten v go) s h = play_ends (go (flat cells v)) s (h (flat cells v))
  play_ends (Write q v t) s h =
      play_ends t (record s { roots = put s.roots q v })
      (subst (λ n. AllEnds P n t) (sym (length-put s.roots q v)) h)
  play_ends (Root r t) s h =
      play_ends t (record s { roots = s.roots ++ r ∷ [] })
      (subst (λ n. AllEnds P n t) (omega (arith, length-append s.roots (r ∷ []))) h)
  play_ends (Drop i go) s h =
      play_ends (go (look s.roots (root_after i))) (record s { roots = take (suc i) s.roots })
      (subst (λ n. AllEnds P n (go (look s.roots (root_after i))))
      (omega (arith, length-take (suc i) s.roots, h.0)) (h.1 (look s.roots (root_after i))))
  play_ends (Need c go) s h = h
  play_ends (Invoke i go) s h = h
