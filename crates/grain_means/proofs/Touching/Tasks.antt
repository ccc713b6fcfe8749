-- Where a walk calls a function under a place, that place is there: what each rule of a walk does from
-- roots of which as much is known. What is known is how many roots there are, and that something stands
-- at the place of a step where it begins. A step that calls a function needs no more.
use Rattle.std.proofs.Common.{◌≡◌, ◌+◌, ◌∙◌, ℕ, Bool, true, false, List, [], ◌∷◌, ◌++◌, Option, Some, None, length, take, refl, subst, arith, length-append, option_map}
use Rattle.std.specs.Prelude.{if◌then◌else◌}
use Rattle.grain_value.specs.Parts.{with_part}
use Rattle.grain_value.specs.Operands.{read_write}
use Rattle.grain_value.specs.declared.values.Dynamic.{Dynamic}
use Rattle.grain_value.specs.declared.values.Dynamic.TheVariants as dynamic
use Rattle.grain_value.specs.declared.values.Held.{Held}
use Rattle.grain_value.specs.declared.values.locating.Spot.{Spot}
use Rattle.grain_fault.specs.Absences.{is_dot_expr, is_indexing_type}
use Rattle.grain_fault.specs.Classes.{catchable}
use Rattle.grain_fault.specs.Problems.{Problem, NoMemory}
use Rattle.grain_fault.specs.declared.places.Position.{Position}
use Rattle.grain_host.specs.Signatures.{says_missing}
use Rattle.grain_ops.specs.Outcomes.{Outcome, NotBuiltIn, Gave, ArithmeticFault, TooLarge}
use Rattle.grain_program.specs.View.{name_of}
use Rattle.grain_program.specs.declared.code.parts.AssignOp.{AssignOp}
use Rattle.grain_means.specs.Places.{find, look, put, next_root}
use Rattle.grain_means.specs.Rules.{placed}
use Rattle.grain_means.specs.Tasks.{Walked, WalkEnded, WalkFailed, Task, Done, Mark, Look, Flatten, Write, Root, Drop, Need, Invoke}
use Rattle.grain_means.specs.Walks as walks
use Rattle.grain_means.specs.Walks.{Setting, Rest, Next, Origin, OfPart, OfIndex, OfProperty, OfMethod, OfNothing, at_mark, failing, flat_or_busy, flattening}
use Rattle.grain_means.specs.Worlds.{Place, Answer, Came, Failed}
use Rattle.grain_means.specs.lemmas.LentPlaces.{found-new}
use Rattle.grain_means.proofs.Touching.Writes.{Bound, Found}

-- Of a task of a walk that began at the place p of a world with n roots: wherever it calls a function,
-- something stands at the place that is the `this`. Calls may change the roots, but leave as many.
abbrev pub Binds : Place → ℕ → List Held → Task → Type 0
Binds p n rs (Done o) = Unit {0}
Binds p n rs (Mark out go) = Binds p n rs out × Binds p n rs go
Binds p n rs (Look q go) = Binds p n rs (go (look rs (placed p n q)))
Binds p n rs (Flatten v go) = (o : Option Dynamic) → Binds p n rs (go o)
Binds p n rs (Write q v t) = Binds p n (put rs (placed p n q) v) t
Binds p n rs (Root h t) = Binds p n (rs ++ h ∷ []) t
Binds p n rs (Drop i go) =
    Binds p n (take (n + i) rs) (go (look rs (record { root = n + i; path = [] })))
Binds p n rs (Need c go) =
    (a : Answer) (now : List Held) → length now ≡ length rs → Binds p n now (go a)
Binds p n rs (Invoke i go) =
    Bound (option_map (placed p n) i.this) rs
    × ((a : Answer) (now : List Held) → length now ≡ length rs → Binds p n now (go a))

module _ (p0 : Place) (n0 : ℕ) where
  -- from any roots
  abbrev pub Free : Task → Type 0
  Free t = (rs : List Held) → Binds p0 n0 rs t

  abbrev pub Follows : Rest → Type 0
  Follows done = (o : Walked) → Free (done o)

  -- from any k roots
  abbrev pub Sized : ℕ → Task → Type 0
  Sized k t = (rs : List Held) → length rs ≡ k → Binds p0 n0 rs t

  -- a walk further on, from a place that is there in the newest root, or from any place
  abbrev pub Goes : Next → Type 0
  Goes next = (q : Place) (done : Rest) → Follows done → (rs : List Held) →
      length rs ≡ n0 + q.root → Found rs (placed p0 n0 q) → Binds p0 n0 rs (next q done)

  abbrev pub GoesAnywhere : Next → Type 0
  GoesAnywhere next = (q : Place) (done : Rest) → Follows done → Free (next q done)

  pub by : (b : Bool) (rs : List Held) (x y : Task) → Binds p0 n0 rs x → Binds p0 n0 rs y →
      Binds p0 n0 rs (if b then x else y)
  by true rs x y h i = h
  by false rs x y h i = i

  -- a step of the chain
  module _ (n : ℕ) (done : Rest) (f : Follows done) where
    pub fails : (x : Problem) → Free (failing n x done)
    fails x rs = (f (WalkFailed n NoMemory) rs, f (WalkFailed n x) rs)

    pub reads : (rs : List Held) (q : Position) (v : Dynamic) (go : Dynamic → Task) →
        ((u : Dynamic) → Binds p0 n0 rs (go u)) → Binds p0 n0 rs (flattening n q v done go)
    reads rs q v go h = λ o. at o where
      at : (o : Option Dynamic) → Binds p0 n0 rs (flat_or_busy n q done go o)
      at None = fails _ rs
      at (Some u) = h u

    -- what is asked for
    pub asks : (k : ℕ) (q : Position) (name : List ℕ) (r : Option Place) (args : List Dynamic)
        (heard : Answer → Task) → ((a : Answer) → Sized k (heard a)) →
        Sized k (walks.asking n q name r args done heard)
    asks k q name r args heard h rs size =
        (f (WalkFailed n NoMemory) rs, λ a now same. h a now (same ∙ size))

    pub sets_index : (k : ℕ) (q : Position) (p : Place) (i v u : Dynamic) →
        Sized k (walks.set_by_index n q p i v u done)
    sets_index k q p i v u =
        asks k q walks.index_set (Some p) (i ∷ v ∷ []) (walks.index_was_set n u done) at where
          at : (a : Answer) → Sized k (walks.index_was_set n u done a)
          at (Came r) rs size = f (WalkEnded u true) rs
          at (Failed x) rs size =
              by (is_indexing_type x) rs (done (WalkEnded u true)) (done (WalkFailed n x))
              (f (WalkEnded u true) rs)
              (f (WalkFailed n x) rs)

    set_instead : (k : ℕ) (x : Problem) (assigned : Bool) (u : Dynamic) (a : Answer) →
        Sized k (walks.set_instead n x assigned u done a)
    set_instead k x assigned u (Came r) rs size = f (WalkEnded u true) rs
    set_instead k x assigned u (Failed y) rs size =
        by (is_indexing_type y) rs (if assigned then done (WalkFailed n x) else done (WalkEnded u true))
        (done (WalkFailed n y))
        (by assigned rs (done (WalkFailed n x)) (done (WalkEnded u true)) (f (WalkFailed n x) rs)
        (f (WalkEnded u true) rs))
        (f (WalkFailed n y) rs)

    property_set : (k : ℕ) (name : Dynamic) (q : Position) (assigned : Bool) (p : Place)
        (v u : Dynamic) (a : Answer) →
        Sized k (walks.property_was_set n name q assigned p v u done a)
    property_set k name q assigned p v u (Came r) rs size = f (WalkEnded u true) rs
    property_set k name q assigned p v u (Failed x) rs size =
        by (is_dot_expr x) rs
        (walks.asking n q walks.index_set (Some p) (name ∷ v ∷ []) done
        (walks.set_instead n x assigned u done)) (done (WalkFailed n x))
        (asks k q walks.index_set (Some p) (name ∷ v ∷ []) (walks.set_instead n x assigned u done)
        (set_instead k x assigned u) rs size)
        (f (WalkFailed n x) rs)

    -- what a call gave
    module _ (k : ℕ) (go : Dynamic → Task) (h : (u : Dynamic) → Sized k (go u)) where
      pub given : (a : Answer) → Sized k (walks.was_given n done go a)
      given (Came v) rs size = h v rs size
      given (Failed x) rs size = f (WalkFailed n x) rs

      got_instead : (x : Problem) (a : Answer) → Sized k (walks.got_instead n x done go a)
      got_instead x (Came v) rs size = h v rs size
      got_instead x (Failed y) rs size =
          by (is_indexing_type y) rs (done (WalkFailed n x)) (done (WalkFailed n y))
          (f (WalkFailed n x) rs) (f (WalkFailed n y) rs)

      property_got : (name : Dynamic) (q : Position) (p : Place) (a : Answer) →
          Sized k (walks.property_was_got n name q p done go a)
      property_got name q p (Came v) rs size = h v rs size
      property_got name q p (Failed x) rs size =
          by (is_dot_expr x) rs
          (walks.asking n q walks.index_get (Some p) (name ∷ []) done (walks.got_instead n x done go))
          (done (WalkFailed n x))
          (asks k q walks.index_get (Some p) (name ∷ []) (walks.got_instead n x done go)
          (got_instead x) rs size)
          (f (WalkFailed n x) rs)

      pub gets_property : (g : Setting) (name getter : ℕ) (q : Position) (p : Place) →
          Sized k (walks.get_property g n name getter q p done go)
      gets_property g name getter q p =
          asks k q (name_of g.program getter) (Some p) []
          (walks.property_was_got n (walks.named g name) q p done go)
          (property_got (walks.named g name) q p)

      pub index_read : (q : Position) (p : Place) (i v : Dynamic) (a : Answer) →
          Sized k (walks.index_was_read n q p i v done go a)
      index_read q p i v (Came r) rs size = h r rs size
      index_read q p i v (Failed x) rs size =
          by (catchable x) rs (walks.set_by_index n q p i v dynamic.Unit done) (done (WalkFailed n x))
          (sets_index k q p i v dynamic.Unit rs size) (f (WalkFailed n x) rs)

    module _ (g : Setting) where
      pub sets_property : (k name setter : ℕ) (q : Position) (assigned : Bool) (p : Place)
          (v u : Dynamic) → Sized k (walks.set_property g n name setter q assigned p v u done)
      sets_property k name setter q assigned p v u =
          asks k q (name_of g.program setter) (Some p) (v ∷ [])
          (walks.property_was_set n (walks.named g name) q assigned p v u done)
          (property_set k (walks.named g name) q assigned p v u)

      -- an op-assignment
      operator : (k : ℕ) (q : Position) (p : Place) (a : Answer) →
          Sized k (walks.operator_answered n q p done a)
      operator k q p (Came r) rs size =
          reads rs q r (λ u. at_mark n done (Write p u (done (WalkEnded dynamic.Unit true))))
          (λ u. (f (WalkFailed n NoMemory) rs, f (WalkEnded dynamic.Unit true) (put rs (placed p0 n0 p) u)))
      operator k q p (Failed x) rs size = f (WalkFailed n x) rs

      operator_asked : (k : ℕ) (q : Position) (a : AssignOp) (v : Dynamic) (p : Place) →
          Sized k (walks.operator_asked g n q a v p done)
      operator_asked k q a v p rs size =
          asks k q (name_of g.program a.op_name) None
          ((look rs (placed p0 n0 p)).value ∷ v ∷ []) (walks.operator_answered n q p done)
          (operator k q p) rs size

      op_assigned : (k : ℕ) (q : Position) (a : AssignOp) (v : Dynamic) (p : Place) (b : Answer) →
          Sized k (walks.was_op_assigned g n q a v p done b)
      op_assigned k q a v p (Came r) rs size = f (WalkEnded dynamic.Unit true) rs
      op_assigned k q a v p (Failed x) rs size =
          by (says_missing (name_of g.program a.op_assign_name) x) rs
          (walks.operator_asked g n q a v p done) (done (WalkFailed n x)) (operator_asked k q a v p rs size)
          (f (WalkFailed n x) rs)

      stored : (q : Position) (a : AssignOp) (v : Dynamic) (p : Place) (o : Outcome) →
          Free (walks.stored g n q a v p done o)
      stored q a v p NotBuiltIn rs =
          asks (length rs) q (name_of g.program a.op_assign_name) (Some p) (v ∷ [])
          (walks.was_op_assigned g n q a v p done) (op_assigned (length rs) q a v p) rs refl
      stored q a v p (Gave r) rs =
          (f (WalkFailed n NoMemory) rs, f (WalkEnded dynamic.Unit true) (put rs (placed p0 n0 p) r))
      stored q a v p (ArithmeticFault text) rs = fails _ rs
      stored q a v p (TooLarge what) rs = fails _ rs

      pub operates : (q : Position) (a : AssignOp) (v : Dynamic) (p : Place) →
          Free (walks.operating g n q a v p done)
      operates q a v p rs = stored q a v p _ rs

      -- the way back
      put_part : (s : Spot) (p : Place) (v u : Dynamic) (changed : Bool) (d : Option Dynamic) →
          Free (walks.put_part g n s p v u changed done d)
      put_part s p v u changed (Some d) rs =
          (f (WalkFailed n NoMemory) rs, f (WalkEnded u changed) (put rs (placed p0 n0 p) d))
      put_part s p v u changed None rs = fails _ rs

      sets_back : (o : Origin) (p : Place) (v u : Dynamic) (changed : Bool) →
          Free (walks.set_back g n o p v u changed done)
      sets_back (OfPart s) p v u changed rs = (
        f (WalkFailed n NoMemory) rs,
        put_part s p v u changed (with_part (look rs (placed p0 n0 p)).value s v) rs,
      )
      sets_back (OfIndex i q) p v u changed rs =
          by changed rs (walks.set_by_index n q p i v u done) (done (WalkEnded u false))
          (sets_index (length rs) q p i v u rs refl) (f (WalkEnded u false) rs)
      sets_back (OfProperty name setter q assigned) p v u changed rs =
          by changed rs (walks.set_property g n name setter q assigned p v u done) (done (WalkEnded u false))
          (sets_property (length rs) name setter q assigned p v u rs refl) (f (WalkEnded u false) rs)
      sets_back OfMethod p v u changed rs = f (WalkEnded u true) rs
      sets_back OfNothing p v u changed rs = f (WalkEnded u changed) rs

      goes_back : (o : Origin) (p : Place) → Follows (walks.back g n o p done)
      goes_back o p (WalkFailed k x) rs = f (WalkFailed k x) (take (n0 + p.root) rs)
      goes_back o p (WalkEnded u changed) rs =
          sets_back o p (look rs (record { root = n0 + p.root; path = [] })).value u changed
          (take (n0 + p.root) rs)

      -- the walk goes on in a new root
      module _ (next : Next) (on : Goes next) (p : Place) (k : ℕ) (many : k ≡ n0 + p.root) where
        pub roots : (o : Origin) (h : Held) → Sized k (walks.rooted g n o h next p done)
        roots o h rs size = (
          f (WalkFailed n NoMemory) rs,
          on (next_root p) (walks.back g n o p done) (goes_back o p) (rs ++ h ∷ [])
              (omega (arith, size, many, length-append rs (h ∷ []))) (
                h,
                subst (λ (i : ℕ). find (rs ++ h ∷ []) (record { root = i; path = [] }) ≡ Some h)
                    (size ∙ many) (found-new rs h),
              ),
        )

        pub into_answer : (q : Position) (own : Bool) (o : Origin) (v : Dynamic) →
            Sized k (walks.into_answer g n q own o next p done v)
        into_answer q true o v rs size = f (WalkEnded v (walks.is_change o)) rs
        into_answer q false o v rs size =
            reads rs q v (λ u. walks.rooted g n o (read_write u) next p done)
            (λ u. roots o (read_write u) rs size)
