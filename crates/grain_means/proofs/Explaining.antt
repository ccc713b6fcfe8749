-- Why a chain's walk ends in a fault: each fault of each rule has its row. Here are the steps.
pub mod Ways
pub mod Passing
pub mod Calls
pub mod Methods
use Rattle.std.proofs.Common.{◌≡◌, ◌+◌, ◌-◌, ℕ, zero, suc, Bool, true, false, List, [], ◌∷◌, Option, Some, None, Result, Ok, Err, drop, refl, inl, inr, subst, arith}
use Rattle.std.specs.Prelude.{if◌then◌else◌}
use Rattle.grain_value.specs.Cells.{flat}
use Rattle.grain_value.specs.Locating.{locate}
use Rattle.grain_value.specs.Looking.{is_unit}
use Rattle.grain_value.specs.Maps.{entry_at}
use Rattle.grain_value.specs.Parts.{part}
use Rattle.grain_value.specs.Tree.{Tree}
use Rattle.grain_value.specs.Writing.{type_name_of}
use Rattle.grain_value.specs.declared.values.Dynamic.{Dynamic}
use Rattle.grain_value.specs.declared.values.Dynamic.TheVariants as dynamic
use Rattle.grain_value.specs.declared.values.Held.{Held}
use Rattle.grain_value.specs.declared.values.locating.Spot.{Spot}
use Rattle.grain_value.specs.declared.values.locating.Spot.TheVariants as spot
use Rattle.grain_value.specs.declared.values.value_faults.ValueFault.{ValueFault}
use Rattle.grain_value.specs.declared.values.value_faults.ValueFault.TheVariants as fault
use Rattle.grain_fault.specs.Problems.{Plain, MismatchDataType, PropertyNotFound}
use Rattle.grain_fault.specs.declared.places.Position.{Position}
use Rattle.grain_program.specs.View.{name_of}
use Rattle.grain_program.specs.declared.code.parts.AssignOp.{AssignOp}
use Rattle.grain_program.specs.declared.code.chains.Step.{Step}
use Rattle.grain_program.specs.declared.code.chains.Step.TheVariants as step
use Rattle.grain_program.specs.declared.code.chains.StepFlags.{StepFlags}
use Rattle.grain_means.specs.Worlds.{Place, Setup, World}
use Rattle.grain_value.specs.declared.values.paths.PathStep.TheVariants as path_step
use Rattle.grain_means.specs.Places.{deeper, look, put}
use Rattle.grain_means.specs.Tasks.{Task, Done, Look, Write, WalkEnded}
use Rattle.grain_means.specs.Walks as walks
use Rattle.grain_means.specs.Walks.{Rest, Next, Role, Passes, Reads, Writes, Operates, Origin, OfIndex, OfProperty, OfNothing, at_mark, assigning, failing, flattening, is_indexed, key_of, origin_of_part, role_at_end, role_before, skips, with_key}
use Rattle.grain_means.specs.Causes.Spots.{ChainWalk, here, looked, wrote, Indexes, WalkRow, world_of}
use Rattle.grain_means.proofs.Explaining.Ways.{join, On, Why, From, Goes, Follows, marks, fails, reads, call_of, asks, reads_at}
use Rattle.grain_means.proofs.Explaining.Passing.{past_index_read}
use Rattle.grain_means.proofs.Explaining.Methods.{method_step}
use Rattle.grain_means.proofs.Explaining.Calls.{sets_index, sets_property, gets_property, index_got, index_read, writes, operates, roots, into_answer, own_value}

module _ {S : Type 0} (m : Setup S) (sure : Bool) (c : ChainWalk S) where
  module _ (n : ℕ) where
    -- a step of the chain, which has this number
    module _ (left : List Step) (next : Next) (on : Goes m sure c next) (p : Place) (done : Rest)
        (f : Follows m sure c done) where
      abbrev role : Role
      role = role_before c.course left

      missing_key : (q : Position) (o : Origin) (k : List ℕ) (h : Held) →
          (assigning role ≡ false → c.course.setting.engine.strict_properties ≡ true →
          WalkRow m c n (Plain (PropertyNotFound k) q)) →
          From m sure c (walks.missing_key c.course.setting n q o role k h next p done)
      missing_key q o k h lacks v come =
          by_role (assigning role) refl come where
            adding : Task
            adding = at_mark n done (Write p (with_key k h.value) (next (deeper p (path_step.Key k)) done))

            reading : Task
            reading =
                if c.course.setting.engine.strict_properties
                then failing n (Plain (PropertyNotFound k) q) done
                else walks.rooted c.course.setting n o (record h { value = dynamic.Unit }) next p done

            by_flag : assigning role ≡ false → (b : Bool) →
                c.course.setting.engine.strict_properties ≡ b →
                On m sure c (if b then failing n (Plain (PropertyNotFound k) q) done
                else walks.rooted c.course.setting n o (record h { value = dynamic.Unit }) next p done)
                v →
                Why m sure c (if b then failing n (Plain (PropertyNotFound k) q) done
                else walks.rooted c.course.setting n o (record h { value = dynamic.Unit }) next p done)
                v
            by_flag none true e at =
                fails m sure c n (Plain (PropertyNotFound k) q) done f (λ known. lacks none e) v at
            by_flag none false e at =
                roots m sure c n o (record h { value = dynamic.Unit }) next on p done f v at

            by_role : (b : Bool) → assigning role ≡ b → On m sure c (if b then adding else reading) v →
                Why m sure c (if b then adding else reading) v
            by_role true e at =
                marks m sure c n done
                (Write p (with_key k h.value) (next (deeper p (path_step.Key k)) done)) f
                (λ v2 come2. on (deeper p (path_step.Key k)) done f
                (record v2 { roots = put v2.roots (world_of m c p) (with_key k h.value) })
                (join m sure c come2 (wrote here))) v at
            by_role false e at =
                by_flag e c.course.setting.engine.strict_properties refl at

      by_indexer : (q bracket : Position) (r : Role) (i : Dynamic) →
          From m sure c (walks.by_indexer c.course.setting n q bracket r i next p done)
      by_indexer q bracket Passes i =
          let go = walks.into_answer c.course.setting n q false (OfIndex i bracket) next p done in
          asks m sure c n bracket walks.index_get (Some p) (i ∷ []) done (walks.was_given n done go) f
          (λ x e. f.falls n x)
          (index_got m sure c n (call_of m sure c n bracket walks.index_get (Some p) (i ∷ [])) refl done go f
          (into_answer m sure c n q (OfIndex i bracket) next on p done f))
      by_indexer q bracket Reads i =
          asks m sure c n bracket walks.index_get (Some p) (i ∷ []) done
          (walks.was_given n done (walks.own_value (OfIndex i bracket) done)) f (λ x e. f.falls n x)
          (index_got m sure c n (call_of m sure c n bracket walks.index_get (Some p) (i ∷ [])) refl done
          (walks.own_value (OfIndex i bracket) done) f (own_value m sure c n (OfIndex i bracket) done f))
      by_indexer q bracket (Writes u) i = sets_index m sure c n bracket p i u dynamic.Unit done f
      by_indexer q bracket (Operates u a) i =
          let over = walks.operating c.course.setting n bracket a u in
          let go = walks.into_answer c.course.setting n bracket false (OfIndex i bracket) over p done in
          asks m sure c n bracket walks.index_get (Some p) (i ∷ []) done
          (walks.index_was_read n bracket p i u done go) f
          (past_index_read m sure c n done f bracket p i u go)
          (index_read m sure c n (call_of m sure c n bracket walks.index_get (Some p) (i ∷ [])) refl bracket
          p i u done go f (into_answer m sure c n bracket (OfIndex i bracket) over
          (operates m sure c n bracket a u) p done f))

      by_accessor : (name getter setter : ℕ) (q : Position) (r : Role) →
          From m sure c (walks.by_accessor c.course.setting n name getter setter q r next p done)
      by_accessor name getter setter q Passes =
          gets_property m sure c n name getter q p done
          (walks.into_answer c.course.setting n q false (OfProperty name setter q false) next p done) f
          (into_answer m sure c n q (OfProperty name setter q false) next on p done f)
      by_accessor name getter setter q Reads =
          let o : Origin = OfProperty name setter q false in
          gets_property m sure c n name getter q p done (walks.own_value o done) f
          (own_value m sure c n o done f)
      by_accessor name getter setter q (Writes u) =
          sets_property m sure c n name setter q true p u dynamic.Unit done f
      by_accessor name getter setter q (Operates u a) =
          let over = walks.operating c.course.setting n q a u in
          gets_property m sure c n name getter q p done
          (walks.into_answer c.course.setting n q false (OfProperty name setter q true) over p done) f
          (into_answer m sure c n q (OfProperty name setter q true) over (operates m sure c n q a u) p done f)

    -- the walk further on, after a step
    abbrev Later : List Step → Next
    Later left = walks.walked c.course left (n + 1)

    module _ (left : List Step) (on : Goes m sure c (Later left)) (p : Place) (done : Rest)
        (f : Follows m sure c done) (v : World S) where
      abbrev here_stands : Dynamic
      here_stands = (look v.roots (world_of m c p)).value

      -- an index step
      module _ (number : ℕ) (flags : StepFlags) (q bracket : Position)
          (stands : drop n c.steps ≡ step.Index number flags q bracket ∷ left)
          (come : On m sure c (walks.taken c.course (step.Index number flags q bracket) n
          (role_before c.course left) (Later left) p done) v) where
        abbrev i : Dynamic
        i = walks.operand c.course number

        abbrev step_at : (u : Dynamic) → flat v.cells i ≡ Some u → Indexes m c n u q
        step_at u e = record {
          number = number;
          flags = flags;
          bracket = bracket;
          at = record {
            left = left;
            stands = stands;
            place = p;
            rest = done;
            world = v;
            comes = come;
          };
          reads = e;
        }

        abbrev indexing : Dynamic → Result Spot ValueFault → Task
        indexing u r =
            walks.indexed c.course.setting n q bracket (role_before c.course left) i u
            (look v.roots (world_of m c p)) (Later left) p done r

        indexed : (u : Dynamic) → flat v.cells i ≡ Some u → (r : Result Spot ValueFault) →
            locate here_stands u ≡ r → On m sure c (indexing u r) v → Why m sure c (indexing u r) v
        indexed u e (Ok (spot.Item k)) is at =
            marks m sure c n done (Later left (deeper p (path_step.Index k)) done) f
            (on (deeper p (path_step.Index k)) done f) v at
        indexed u e (Ok spot.Key) is at =
            marks m sure c n done (Later left (deeper p (path_step.Key (key_of u))) done) f
            (on (deeper p (path_step.Key (key_of u))) done f) v at
        indexed u e (Ok s) is at =
            roots m sure c n (origin_of_part (role_before c.course left) s)
            (record (look v.roots (world_of m c p)) { value = part here_stands s }) (Later left) on p
            done f v at
        indexed u e (Err (fault.Bounds size k)) is at =
            let x = Plain (walks.out_of_bounds here_stands size k) q in
            fails m sure c n x done f (λ known. inl (record {
              index = u;
              position = q;
              step = step_at u e;
              size = size;
              number = k;
              none = is;
              is = refl;
              last = f.falls n x;
            })) v at
        indexed u e (Err fault.NoKey) is at =
            missing_key left (Later left) on p done f q (OfIndex i bracket) (key_of u)
            (look v.roots (world_of m c p)) (λ none strict. inr (inr (inl (record {
              index = u;
              position = q;
              step = step_at u e;
              none = is;
              reads = none;
              strict = strict;
              is = refl;
              last = f.falls n (Plain (PropertyNotFound (key_of u)) q);
            })))) v at
        indexed u e (Err fault.WrongType) is at =
            let x = Plain (MismatchDataType (walks.index_type here_stands) (type_name_of u)) q in
            fails m sure c n x done f (λ known. inr (inl (record {
              index = u;
              position = q;
              step = step_at u e;
              none = is;
              is = refl;
              last = f.falls n x;
            }))) v at
        indexed u e (Err x) is at =
            by_indexer left (Later left) on p done f q bracket (role_before c.course left) i v at

        index_step : Why m sure c (walks.taken c.course (step.Index number flags q bracket) n
            (role_before c.course left) (Later left) p done) v
        index_step = by_kind (is_indexed here_stands) (join m sure c come (looked here)) where
          finds : Dynamic → Task
          finds u = indexing u (locate here_stands u)

          asking_host : Task
          asking_host = walks.by_indexer c.course.setting n q bracket (role_before c.course left) i
              (Later left) p done

          by_kind : (b : Bool) → On m sure c (if b then flattening n q i done finds else asking_host) v →
              Why m sure c (if b then flattening n q i done finds else asking_host) v
          by_kind true at =
              reads_at m sure c n q i done finds f v
              (λ u e arrived. indexed u e (locate here_stands u) refl arrived) at
          by_kind false at =
              by_indexer left (Later left) on p done f q bracket (role_before c.course left) i v at

      -- a property step
      module _ (name getter setter : ℕ) (flags : StepFlags) (q : Position)
          (stands : drop n c.steps ≡ step.Property name getter setter flags q ∷ left)
          (come : On m sure c (walks.taken c.course (step.Property name getter setter flags q) n
          (role_before c.course left) (Later left) p done) v) where
        abbrev word : List ℕ
        word = name_of c.course.setting.program name

        property_of : (d : Dynamic) → here_stands ≡ d →
            On m sure c (walks.property_of c.course.setting n name getter setter q (role_before c.course left)
            (look v.roots (world_of m c p)) (Later left) p done d) v →
            Why m sure c (walks.property_of c.course.setting n name getter setter q
            (role_before c.course left) (look v.roots (world_of m c p)) (Later left) p done d) v
        property_of (dynamic.Map es) is at = by_entry (entry_at word es) refl at where
          by_entry : (t : Option Tree) → entry_at word es ≡ t →
              On m sure c (walks.at_key c.course.setting n q (role_before c.course left) word
              (look v.roots (world_of m c p)) (Later left) p done t) v →
              Why m sure c (walks.at_key c.course.setting n q (role_before c.course left) word
              (look v.roots (world_of m c p)) (Later left) p done t) v
          by_entry (Some t) e arrived =
              marks m sure c n done (Later left (deeper p (path_step.Key word)) done) f
              (on (deeper p (path_step.Key word)) done f) v arrived
          by_entry None e arrived =
              missing_key left (Later left) on p done f q OfNothing word
              (look v.roots (world_of m c p)) (λ none strict. inr (inr (inr (inl (record {
                name = name;
                getter = getter;
                setter = setter;
                flags = flags;
                position = q;
                at = record {
                  left = left;
                  stands = stands;
                  place = p;
                  rest = done;
                  world = v;
                  comes = come;
                };
                entries = es;
                map = is;
                none = e;
                reads = none;
                strict = strict;
                is = refl;
                last = f.falls n (Plain (PropertyNotFound word) q);
              }))))) v arrived
        property_of d is at =
            by_accessor left (Later left) on p done f name getter setter q
            (role_before c.course left) v at

        property_step : Why m sure c (walks.taken c.course (step.Property name getter setter flags q) n
            (role_before c.course left) (Later left) p done) v
        property_step = property_of here_stands refl (join m sure c come (looked here))

    takes : (s : Step) (left : List Step) → drop n c.steps ≡ s ∷ left → Goes m sure c (Later left) →
        Goes m sure c (walks.taken c.course s n (role_before c.course left) (Later left))
    takes (step.Index number flags q bracket) left stands on p done f v come =
        index_step left on p done f v number flags q bracket stands come
    takes (step.Property name getter setter flags q) left stands on p done f v come =
        property_step left on p done f v name getter setter flags q stands come
    takes (step.Method name argc first flags q) left stands on p done f v come =
        method_step m sure c n left on p done f v name argc first flags q stands come

    unless : (q : Position) (b : Bool) (p : Place) (done : Rest) (go : Task) → Follows m sure c done →
        From m sure c go → From m sure c (walks.unless_unit n q b p done go)
    unless q false p done go f from v come = from v come
    unless q true p done go f from v come =
        reads m sure c n q (look v.roots (world_of m c p)).value done (walks.if_not_unit done go) f by_unit v
        (join m sure c come (looked here)) where
          by_unit : (d : Dynamic) → From m sure c (walks.if_not_unit done go d)
          by_unit d u at = by_test (is_unit d) at where
            by_test : (b : Bool) → On m sure c (if b then done (WalkEnded dynamic.Unit false) else go) u →
                Why m sure c (if b then done (WalkEnded dynamic.Unit false) else go) u
            by_test true at = f.well dynamic.Unit false u at
            by_test false at = from u at

    ends : (u : Option Dynamic) (op : Option AssignOp) →
        Goes m sure c (walks.ended c.course.setting (role_at_end u op) n)
    ends None op p done f =
        marks m sure c n done (Look p (λ h. done (WalkEnded h.value false))) f (λ v come.
        f.well (look v.roots (world_of m c p)).value false v (join m sure c come (looked here)))
    ends (Some u) None p done f = writes m sure c n p u done f
    ends (Some u) (Some a) p done f = operates m sure c n c.course.setting.position a u p done f

  dropped_more : {A : Type 0} (n : ℕ) (xs : List A) (x : A) (ys : List A) → drop n xs ≡ x ∷ ys →
      drop (suc n) xs ≡ ys
  dropped_more zero [] x ys e = absurd cc
  dropped_more zero (y ∷ xs) x ys e = cc
  dropped_more (suc n) [] x ys e = absurd cc
  dropped_more (suc n) (y ∷ xs) x ys e = dropped_more n xs x ys e

  drop_next : (n : ℕ) (x : Step) (ys : List Step) → drop n c.steps ≡ x ∷ ys →
      drop (n + 1) c.steps ≡ ys
  drop_next n x ys e =
      let same : suc n ≡ n + 1 = omega arith in
      subst (λ (k : ℕ). drop k c.steps ≡ ys) same (dropped_more n c.steps x ys e)

  walks_on : (left : List Step) (n : ℕ) → drop n c.steps ≡ left →
      Goes m sure c (walks.walked c.course left n)
  walks_on [] n stands = ends (n - 1) c.course.assigns c.course.operator
  walks_on (s ∷ left) n stands = λ p done f.
      let step_task = walks.taken c.course s n (role_before c.course left)
      (walks.walked c.course left (n + 1)) p done in
      let q = walks.step_position s in
      marks m sure c n done (walks.unless_unit n q (skips s) p done step_task) f
      (unless n q (skips s) p done step_task f
      (takes n s left stands (walks_on left (n + 1) (drop_next n s left stands)) p done f))

  -- every fault with which the walk ends has its row, if it is sure that natives end with a reason
  pub explained : Why m sure c (walks.whole_walk c.course c.steps) c.start
  explained =
      walks_on c.steps 0 refl (record { root = 0; path = [] }) Done
      (record { falls = λ n x. refl; well = λ u changed v come. tt }) c.start here
