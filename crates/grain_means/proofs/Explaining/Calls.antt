-- Why a chain's walk ends in a fault: the calls that it needs, op-assignments, and the way back.
pub use Rattle.grain_means.proofs.Explaining.Passing.{if_false, if_true}
use Rattle.std.proofs.Common.{◌≡◌, ◌+◌, ℕ, Bool, true, false, [], ◌∷◌, ◌++◌, Option, Some, None, take, refl, inl, inr}
use Rattle.std.specs.Prelude.{if◌then◌else◌}
use Rattle.grain_value.specs.Operands.{read_write}
use Rattle.grain_value.specs.Parts.{part_type, with_part}
use Rattle.grain_value.specs.Writing.{type_name_of}
use Rattle.grain_value.specs.declared.values.Dynamic.{Dynamic}
use Rattle.grain_value.specs.declared.values.Dynamic.TheVariants as dynamic
use Rattle.grain_value.specs.declared.values.Held.{Held}
use Rattle.grain_fault.specs.Absences.{is_dot_expr, is_indexing_type}
use Rattle.grain_fault.specs.Classes.{catchable}
use Rattle.grain_fault.specs.Problems.{Problem, Plain, Arithmetic, DataTooLarge, MismatchDataType, NoMemory}
use Rattle.grain_fault.specs.declared.places.Position.{Position}
use Rattle.grain_host.specs.Signatures.{says_missing}
use Rattle.grain_ops.specs.Outcomes.{Outcome, NotBuiltIn, Gave, ArithmeticFault, TooLarge}
use Rattle.grain_program.specs.View.{name_of}
use Rattle.grain_program.specs.declared.code.parts.AssignOp.{AssignOp}
use Rattle.grain_means.specs.Worlds.{Came, Failed, Place, Setup}
use Rattle.grain_means.specs.Places.{look, put, next_root}
use Rattle.grain_means.specs.Rules.{op_assigned}
use Rattle.grain_means.specs.Tasks.{Call, Task, Write, Root, WalkEnded, WalkFailed}
use Rattle.grain_means.specs.Walks as walks
use Rattle.grain_means.specs.Walks.{Rest, Next, Origin, OfPart, OfIndex, OfProperty, OfMethod, OfNothing, at_mark}
use Rattle.grain_means.specs.Causes.Spots.{ChainWalk, here, marked, looked, wrote, added, dropped, past, Falls, world_of}
use Rattle.grain_means.proofs.Explaining.Passing.{past_index_set, past_set_instead, past_property_set, past_got_instead, past_property_got, past_operator, past_op_assigned}
use Rattle.grain_means.proofs.Explaining.Ways.{join, On, Why, From, Goes, Follows, ill, out, marks, fails, reads, call_of, Hears, asks, failing_call, Failing, native_row, Replaced, instead_row}

module _ {S : Type 0} (m : Setup S) (sure : Bool) (c : ChainWalk S) where
  module _ (n : ℕ) where
    -- an indexer has set a value
    pub index_set : (call : Call) → call.step ≡ n → (u : Dynamic) (done : Rest) → Follows m sure c done →
        Hears m sure c n call (walks.index_was_set n u done)
    index_set call step u done f v come (Came r) after ends reason w arrived = f.well u true w arrived
    index_set call step u done f v come (Failed x) after ends reason w arrived =
        by_absence (is_indexing_type x) refl arrived where
          by_absence : (b : Bool) → is_indexing_type x ≡ b →
              On m sure c (if b then done (WalkEnded u true) else done (WalkFailed n x)) w →
              Why m sure c (if b then done (WalkEnded u true) else done (WalkFailed n x)) w
          by_absence true e on = f.well u true w on
          by_absence false e on =
              ill m sure c n x done f (native_row m sure c n x
              (failing_call m sure c n call step (walks.index_was_set n u done) v come x after ends reason)
              (λ known. if_false (Falls n x) (is_indexing_type x) (done (WalkEnded u true))
              (done (WalkFailed n x)) e (f.falls n x))) w

    pub sets_index : (q : Position) (p : Place) (i v u : Dynamic) (done : Rest) → Follows m sure c done →
        From m sure c (walks.set_by_index n q p i v u done)
    sets_index q p i v u done f =
        asks m sure c n q walks.index_set (Some p) (i ∷ v ∷ []) done (walks.index_was_set n u done) f
        (past_index_set m sure c n done f u)
        (index_set (call_of m sure c n q walks.index_set (Some p) (i ∷ v ∷ [])) refl u done f)

    -- an indexer has set a property, of which the setter failed
    pub set_instead : (call : Call) → call.step ≡ n → (x : Problem) (first : Failing m sure c n x)
        (assigned : Bool) (u : Dynamic) (done : Rest) →
        Replaced m sure c n first call (walks.set_instead n x assigned u done) → Follows m sure c done →
        Hears m sure c n call (walks.set_instead n x assigned u done)
    set_instead call step x first assigned u done replaced f v come (Came r) after ends reason w arrived =
        f.well u true w arrived
    set_instead call step x first assigned u done replaced f v come (Failed y) after ends reason w arrived =
        by_absence (is_indexing_type y) refl arrived where
          kept : Task
          kept = if assigned then done (WalkFailed n x) else done (WalkEnded u true)

          second : Failing m sure c n y
          second = failing_call m sure c n call step (walks.set_instead n x assigned u done) v come y after
              ends reason

          by_assigned : is_indexing_type y ≡ true → (b : Bool) → assigned ≡ b →
              On m sure c (if b then done (WalkFailed n x) else done (WalkEnded u true)) w →
              Why m sure c (if b then done (WalkFailed n x) else done (WalkEnded u true)) w
          by_assigned absent true e on =
              ill m sure c n x done f (instead_row m sure c n x y first second replaced absent
              (λ known. if_true (Falls n x) (is_indexing_type y) kept (done (WalkFailed n y)) absent
              (if_true (Falls n x) assigned (done (WalkFailed n x)) (done (WalkEnded u true)) e
              (f.falls n x)))) w
          by_assigned absent false e on = f.well u true w on

          by_absence : (b : Bool) → is_indexing_type y ≡ b →
              On m sure c (if b then kept else done (WalkFailed n y)) w → Why m sure c
              (if b then kept else done (WalkFailed n y)) w
          by_absence true e on = by_assigned e assigned refl on
          by_absence false e on =
              ill m sure c n y done f (native_row m sure c n y second
              (λ known. if_false (Falls n y) (is_indexing_type y) kept (done (WalkFailed n y)) e
              (f.falls n y))) w

    pub property_set : (call : Call) → call.step ≡ n → (name : Dynamic) (q : Position)
        (assigned : Bool) (p : Place) (set u : Dynamic) (done : Rest) → Follows m sure c done →
        Hears m sure c n call (walks.property_was_set n name q assigned p set u done)
    property_set call step name q assigned p set u done f v come (Came r) after ends reason w arrived =
        f.well u true w arrived
    property_set call step name q assigned p set u done f v come (Failed x) after ends reason w arrived =
        by_absence (is_dot_expr x) refl arrived where
          again : Task
          again = walks.asking n q walks.index_set (Some p) (name ∷ set ∷ []) done
              (walks.set_instead n x assigned u done)

          first : Failing m sure c n x
          first = failing_call m sure c n call step (walks.property_was_set n name q assigned p set u done) v
              come x after ends reason

          by_absence : (b : Bool) → is_dot_expr x ≡ b → On m sure c
              (if b then again else done (WalkFailed n x)) w →
              Why m sure c (if b then again else done (WalkFailed n x)) w
          by_absence true e on =
              asks m sure c n q walks.index_set (Some p) (name ∷ set ∷ []) done
              (walks.set_instead n x assigned u done) f (past_set_instead m sure c n done f x assigned u)
              (set_instead (call_of m sure c n q walks.index_set (Some p) (name ∷ set ∷ [])) refl x first
              assigned u done (λ known. record {
                none = e;
                out = done (WalkFailed n NoMemory);
                instead =
                    if_true (λ (t : Task). t ≡ again) (is_dot_expr x) again (done (WalkFailed n x)) e refl;
              }) f) w on
          by_absence false e on =
              ill m sure c n x done f (native_row m sure c n x first
              (λ known. if_false (Falls n x) (is_dot_expr x) again (done (WalkFailed n x)) e (f.falls n x))) w

    pub sets_property : (name setter : ℕ) (q : Position) (assigned : Bool) (p : Place) (v u : Dynamic)
        (done : Rest) → Follows m sure c done →
        From m sure c (walks.set_property c.course.setting n name setter q assigned p v u done)
    sets_property name setter q assigned p v u done f =
        let text = walks.named c.course.setting name in
        let word = name_of c.course.setting.program setter in
        asks m sure c n q word (Some p) (v ∷ []) done (walks.property_was_set n text q assigned p v u done) f
        (past_property_set m sure c n done f text q assigned p v u)
        (property_set (call_of m sure c n q word (Some p) (v ∷ [])) refl text q assigned p v u done f)

    -- an answer is gone on from
    abbrev pub Answers : (Dynamic → Task) → Type 0
    Answers go = (d : Dynamic) → From m sure c (go d)

    pub got_instead : (call : Call) → call.step ≡ n → (x : Problem) (first : Failing m sure c n x)
        (done : Rest) (go : Dynamic → Task) →
        Replaced m sure c n first call (walks.got_instead n x done go) → Follows m sure c done →
        Answers go → Hears m sure c n call (walks.got_instead n x done go)
    got_instead call step x first done go replaced f on v come (Came d) after ends reason w arrived =
        on d w arrived
    got_instead call step x first done go replaced f on v come (Failed y) after ends reason w arrived =
        by_absence (is_indexing_type y) refl where
          second : Failing m sure c n y
          second =
              failing_call m sure c n call step (walks.got_instead n x done go) v come y after ends reason

          by_absence : (b : Bool) → is_indexing_type y ≡ b →
              Why m sure c (if b then done (WalkFailed n x) else done (WalkFailed n y)) w
          by_absence true e =
              ill m sure c n x done f (instead_row m sure c n x y first second replaced e
              (λ known. if_true (Falls n x) (is_indexing_type y) (done (WalkFailed n x))
              (done (WalkFailed n y)) e (f.falls n x))) w
          by_absence false e =
              ill m sure c n y done f (native_row m sure c n y second
              (λ known. if_false (Falls n y) (is_indexing_type y) (done (WalkFailed n x))
              (done (WalkFailed n y)) e (f.falls n y))) w

    pub property_got : (call : Call) → call.step ≡ n → (name : Dynamic) (q : Position) (p : Place)
        (done : Rest) (go : Dynamic → Task) → Follows m sure c done → Answers go →
        Hears m sure c n call (walks.property_was_got n name q p done go)
    property_got call step name q p done go f on v come (Came d) after ends reason w arrived = on d w arrived
    property_got call step name q p done go f on v come (Failed x) after ends reason w arrived =
        by_absence (is_dot_expr x) refl arrived where
          again : Task
          again =
              walks.asking n q walks.index_get (Some p) (name ∷ []) done (walks.got_instead n x done go)

          first : Failing m sure c n x
          first = failing_call m sure c n call step (walks.property_was_got n name q p done go) v come x
              after ends reason

          by_absence : (b : Bool) → is_dot_expr x ≡ b → On m sure c
              (if b then again else done (WalkFailed n x)) w →
              Why m sure c (if b then again else done (WalkFailed n x)) w
          by_absence true e at =
              asks m sure c n q walks.index_get (Some p) (name ∷ []) done (walks.got_instead n x done go) f
              (past_got_instead m sure c n done f x go)
              (got_instead (call_of m sure c n q walks.index_get (Some p) (name ∷ [])) refl x first done go
              (λ known. record {
                none = e;
                out = done (WalkFailed n NoMemory);
                instead =
                    if_true (λ (t : Task). t ≡ again) (is_dot_expr x) again (done (WalkFailed n x)) e refl;
              }) f on) w at
          by_absence false e at =
              ill m sure c n x done f (native_row m sure c n x first
              (λ known. if_false (Falls n x) (is_dot_expr x) again (done (WalkFailed n x)) e (f.falls n x))) w

    pub gets_property : (name getter : ℕ) (q : Position) (p : Place) (done : Rest)
        (go : Dynamic → Task) → Follows m sure c done → Answers go →
        From m sure c (walks.get_property c.course.setting n name getter q p done go)
    gets_property name getter q p done go f on =
        let text = walks.named c.course.setting name in
        let word = name_of c.course.setting.program getter in
        asks m sure c n q word (Some p) [] done (walks.property_was_got n text q p done go) f
        (past_property_got m sure c n done f text q p go)
        (property_got (call_of m sure c n q word (Some p) []) refl text q p done go f on)

    pub index_got : (call : Call) → call.step ≡ n → (done : Rest) (go : Dynamic → Task) →
        Follows m sure c done → Answers go → Hears m sure c n call (walks.was_given n done go)
    index_got call step done go f on v come (Came d) after ends reason w arrived = on d w arrived
    index_got call step done go f on v come (Failed x) after ends reason w arrived =
        ill m sure c n x done f (native_row m sure c n x
        (failing_call m sure c n call step (walks.was_given n done go) v come x after ends reason)
        (λ known. f.falls n x)) w

    pub index_read : (call : Call) → call.step ≡ n → (q : Position) (p : Place) (i set : Dynamic)
        (done : Rest) (go : Dynamic → Task) → Follows m sure c done → Answers go →
        Hears m sure c n call (walks.index_was_read n q p i set done go)
    index_read call step q p i set done go f on v come (Came d) after ends reason w arrived = on d w arrived
    index_read call step q p i set done go f on v come (Failed x) after ends reason w arrived =
        by_class (catchable x) refl arrived where
          plain : Task
          plain = walks.set_by_index n q p i set dynamic.Unit done

          by_class : (b : Bool) → catchable x ≡ b →
              On m sure c (if b then plain else done (WalkFailed n x)) w →
              Why m sure c (if b then plain else done (WalkFailed n x)) w
          by_class true e at = sets_index q p i set dynamic.Unit done f w at
          by_class false e at =
              ill m sure c n x done f (native_row m sure c n x
              (failing_call m sure c n call step (walks.index_was_read n q p i set done go) v come x after
              ends reason)
              (λ known. if_false (Falls n x) (catchable x) plain (done (WalkFailed n x)) e (f.falls n x))) w

    -- an op-assignment
    pub writes : (p : Place) (u : Dynamic) (done : Rest) → Follows m sure c done →
        From m sure c (at_mark n done (Write p u (done (WalkEnded dynamic.Unit true))))
    writes p u done f =
        marks m sure c n done (Write p u (done (WalkEnded dynamic.Unit true))) f (λ v come.
        f.well dynamic.Unit true (record v { roots = put v.roots (world_of m c p) u })
        (join m sure c come (wrote here)))

    pub operator : (call : Call) → call.step ≡ n → (q : Position) (p : Place) (done : Rest) →
        Follows m sure c done → Hears m sure c n call (walks.operator_answered n q p done)
    operator call step q p done f v come (Came r) after ends reason w arrived =
        reads m sure c n q r done (λ u. at_mark n done (Write p u (done (WalkEnded dynamic.Unit true)))) f
        (λ d. writes p d done f) w arrived
    operator call step q p done f v come (Failed x) after ends reason w arrived =
        ill m sure c n x done f (native_row m sure c n x
        (failing_call m sure c n call step (walks.operator_answered n q p done) v come x after ends reason)
        (λ known. f.falls n x)) w

    module _ (q : Position) (a : AssignOp) (value : Dynamic) where
      pub operator_asked : (p : Place) (done : Rest) → Follows m sure c done →
          From m sure c (walks.operator_asked c.course.setting n q a value p done)
      operator_asked p done f v come =
          let h : Held = look v.roots (world_of m c p) in
          let word = name_of c.course.setting.program a.op_name in
          asks m sure c n q word None (h.value ∷ value ∷ []) done (walks.operator_answered n q p done) f
          (past_operator m sure c n done f q p)
          (operator (call_of m sure c n q word None (h.value ∷ value ∷ [])) refl q p done f) v
          (join m sure c come (looked here))

      pub op_assigned_by : (call : Call) → call.step ≡ n → (p : Place) (done : Rest) → Follows m sure c done →
          Hears m sure c n call (walks.was_op_assigned c.course.setting n q a value p done)
      op_assigned_by call step p done f v come (Came r) after ends reason w arrived =
          f.well dynamic.Unit true w arrived
      op_assigned_by call step p done f v come (Failed x) after ends reason w arrived =
          by_absence (says_missing (name_of c.course.setting.program a.op_assign_name) x) refl arrived
        where
          again : Task
          again = walks.operator_asked c.course.setting n q a value p done

          by_absence : (b : Bool) →
              says_missing (name_of c.course.setting.program a.op_assign_name) x ≡ b →
              On m sure c (if b then again else done (WalkFailed n x)) w →
              Why m sure c (if b then again else done (WalkFailed n x)) w
          by_absence true e at = operator_asked p done f w at
          by_absence false e at =
              ill m sure c n x done f (native_row m sure c n x (failing_call m sure c n call step
              (walks.was_op_assigned c.course.setting n q a value p done) v come x after ends reason)
              (λ known. if_false (Falls n x)
              (says_missing (name_of c.course.setting.program a.op_assign_name) x) again
              (done (WalkFailed n x)) e (f.falls n x))) w

      pub operates : Goes m sure c (walks.operating c.course.setting n q a value)
      operates p done f v come =
          let h : Held = look v.roots (world_of m c p) in
          by_outcome (op_assigned c.course.setting.engine a h.value value) refl
          (join m sure c come (looked here)) where
            by_outcome : (o : Outcome) →
                op_assigned c.course.setting.engine a (look v.roots (world_of m c p)).value value ≡ o →
                On m sure c (walks.stored c.course.setting n q a value p done o) v →
                Why m sure c (walks.stored c.course.setting n q a value p done o) v
            by_outcome NotBuiltIn e at =
                let word = name_of c.course.setting.program a.op_assign_name in
                asks m sure c n q word (Some p) (value ∷ []) done
                (walks.was_op_assigned c.course.setting n q a value p done) f
                (past_op_assigned m sure c n done f q a value p)
                (op_assigned_by (call_of m sure c n q word (Some p) (value ∷ [])) refl p done f) v at
            by_outcome (Gave r) e at = writes p r done f v at
            by_outcome (ArithmeticFault text) e at =
                let x = Plain (Arithmetic text) q in
                fails m sure c n x done f (λ known. inr (inr (inr (inr (inr (inr (inl (record {
                  operator = a;
                  value = value;
                  position = q;
                  place = p;
                  rest = done;
                  world = v;
                  comes = come;
                  text = text;
                  none = inl (e, refl);
                  last = f.falls n x;
                })))))))) v at
            by_outcome (TooLarge text) e at =
                let x = Plain (DataTooLarge text) q in
                fails m sure c n x done f (λ known. inr (inr (inr (inr (inr (inr (inl (record {
                  operator = a;
                  value = value;
                  position = q;
                  place = p;
                  rest = done;
                  world = v;
                  comes = come;
                  text = text;
                  none = inr (e, refl);
                  last = f.falls n x;
                })))))))) v at

    -- the way back
    pub sets_back : (o : Origin) (p : Place) (held u : Dynamic) (changed : Bool) (done : Rest) →
        Follows m sure c done → From m sure c (walks.set_back c.course.setting n o p held u changed done)
    sets_back (OfPart s) p held u changed done f v come = (
      out m sure c n done f,
      λ clear. by_part (with_part (look v.roots (world_of m c p)).value s held) refl
          (join m sure c come (marked clear (looked here))),
    ) where
      by_part : (d : Option Dynamic) →
          with_part (look v.roots (world_of m c p)).value s held ≡ d →
          On m sure c (walks.put_part c.course.setting n s p held u changed done d) (past v) →
          Why m sure c (walks.put_part c.course.setting n s p held u changed done d) (past v)
      by_part (Some d) e at =
          marks m sure c n done (Write p d (done (WalkEnded u changed))) f (λ v2 come2.
          f.well u changed (record v2 { roots = put v2.roots (world_of m c p) d })
          (join m sure c come2 (wrote here))) (past v) at
      by_part None e at =
          let x = Plain (MismatchDataType (part_type s) (type_name_of held)) c.course.setting.position in
          fails m sure c n x done f (λ known. inr (inr (inr (inr (inr (inl (record {
            spot = s;
            place = p;
            part = held;
            value = u;
            changed = changed;
            rest = done;
            world = v;
            comes = come;
            none = e;
            is = refl;
            last = f.falls n x;
          }))))))) (past v) at
    sets_back (OfIndex i q) p held u changed done f v come = by_change changed come where
      by_change : (b : Bool) →
          On m sure c (if b then walks.set_by_index n q p i held u done else done (WalkEnded u false)) v →
          Why m sure c (if b then walks.set_by_index n q p i held u done else done (WalkEnded u false)) v
      by_change true at = sets_index q p i held u done f v at
      by_change false at = f.well u false v at
    sets_back (OfProperty name setter q assigned) p held u changed done f v come =
        by_change changed come where
          set : Task
          set = walks.set_property c.course.setting n name setter q assigned p held u done

          by_change : (b : Bool) → On m sure c (if b then set else done (WalkEnded u false)) v →
              Why m sure c (if b then set else done (WalkEnded u false)) v
          by_change true at = sets_property name setter q assigned p held u done f v at
          by_change false at = f.well u false v at
    sets_back OfMethod p held u changed done f v come = f.well u true v come
    sets_back OfNothing p held u changed done f v come = f.well u changed v come

    pub goes_back : (o : Origin) (p : Place) (done : Rest) → Follows m sure c done →
        Follows m sure c (walks.back c.course.setting n o p done)
    goes_back o p done f = record {
      falls = λ k x h. f.falls k x;
      well = λ u changed v come.
          let h : Held = look v.roots (record { root = c.others + p.root; path = [] }) in
          sets_back o p h.value u changed done f
          (record v { roots = take (c.others + p.root) v.roots }) (join m sure c come (dropped here));
    }

    pub roots : (o : Origin) (h : Held) (next : Next) → Goes m sure c next →
        Goes m sure c (walks.rooted c.course.setting n o h next)
    roots o h next on p done f =
        let back = walks.back c.course.setting n o p done in
        marks m sure c n done (Root h (next (next_root p) back)) f (λ v come.
        on (next_root p) back (goes_back o p done f) (record v { roots = v.roots ++ h ∷ [] })
        (join m sure c come (added here)))

    pub into_answer : (q : Position) (o : Origin) (next : Next) → Goes m sure c next → (p : Place)
        (done : Rest) → Follows m sure c done →
        Answers (walks.into_answer c.course.setting n q false o next p done)
    into_answer q o next on p done f d =
        reads m sure c n q d done (λ u. walks.rooted c.course.setting n o (read_write u) next p done) f
        (λ u. roots o (read_write u) next on p done f)

    -- what is the chain's own value
    pub own_value : (o : Origin) (done : Rest) → Follows m sure c done → Answers (walks.own_value o done)
    own_value o done f d = f.well d (walks.is_change o)
