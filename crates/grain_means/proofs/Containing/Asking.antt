-- The same where a native is asked, and on the way back from a new root.
use Rattle.std.proofs.Common.{◌≤◌, ℕ, Bool, true, false, Option, Some, None, refl, arith}
use Rattle.grain_value.specs.Operands.{read_write}
use Rattle.grain_value.specs.Parts.{with_part}
use Rattle.grain_value.specs.declared.values.Dynamic.{Dynamic}
use Rattle.grain_value.specs.declared.values.Dynamic.TheVariants as dynamic
use Rattle.grain_value.specs.declared.values.Held.{Held}
use Rattle.grain_value.specs.declared.values.locating.Spot.{Spot}
use Rattle.grain_fault.specs.Absences.{is_dot_expr}
use Rattle.grain_fault.specs.Classes.{catchable}
use Rattle.grain_fault.specs.declared.places.Position.{Position}
use Rattle.grain_host.specs.Signatures.{says_missing}
use Rattle.grain_ops.specs.Outcomes.{Outcome, NotBuiltIn, Gave, ArithmeticFault, TooLarge}
use Rattle.grain_program.specs.View.{name_of}
use Rattle.grain_program.specs.declared.code.parts.AssignOp.{AssignOp}
use Rattle.grain_means.specs.Contained.{AnswerNames, Names}
use Rattle.grain_means.specs.Places.{next_root}
use Rattle.grain_means.specs.Rules.{op_assigned}
use Rattle.grain_means.specs.Tasks.{Walked, WalkEnded, WalkFailed, Task}
use Rattle.grain_means.specs.Walks as walks
use Rattle.grain_means.specs.Walks.{Setting, Rest, Next, Origin, OfPart, OfIndex, OfProperty, OfMethod, OfNothing}
use Rattle.grain_means.specs.Worlds.{Place, Answer, Came, Failed}
use Rattle.grain_means.proofs.CellFree.{none_names}
use Rattle.grain_means.proofs.Naming.{PlainNames}
use Rattle.grain_means.proofs.Plain.{NamesNone, no_cell, op_assigned_plain}
use Rattle.grain_means.proofs.Containing.Tasks.{problem_wider, Follows, Goes, NoneInside, OriginNames, Reading, ReadsOn, Solid, TaskNames, WalkedNames, assigned, by, fails, follows_wider, got_instead, index_set, names_wider, now, operator, out, reads, set_instead, unit_names, with_part_none}

-- a native is asked
module _ (clean bare : Bool) (n k : ℕ) where
  pub sets_index : (q : Position) (p : Place) (i v u : Dynamic) (done : Rest) → Solid bare p →
      Follows clean bare n done → Names clean n i → Names clean n v → Names clean n u →
      TaskNames clean bare n (walks.set_by_index k q p i v u done)
  sets_index q p i v u done solid f index value names = (
    out clean bare n done k f,
    (
      (index, (value, tt)),
      solid,
      λ j le. index_set clean bare j k u done (follows_wider clean bare n j le done f)
          (names_wider clean n j le u names),
    ),
  )

  pub property_set : (name : Dynamic) (q : Position) (assigned : Bool) (p : Place) (v u : Dynamic)
      (done : Rest) → Solid bare p → Follows clean bare n done → Names clean n name →
      Names clean n v → Names clean n u → (a : Answer) → AnswerNames clean n a →
      TaskNames clean bare n (walks.property_was_set k name q assigned p v u done a)
  property_set name q assigned p v u done solid f text value names (Came r) bound =
      now clean bare n done f (WalkEnded u true) names
  property_set name q assigned p v u done solid f text value names (Failed x) bound =
      by clean bare n (is_dot_expr x) _ _ (
        out clean bare n done k f,
        (
          (text, (value, tt)),
          solid,
          λ j le. set_instead clean bare j k x assigned u done
              (follows_wider clean bare n j le done f) (problem_wider clean n j le x bound)
              (names_wider clean n j le u names),
        ),
      ) (now clean bare n done f (WalkFailed k x) bound)

  pub property_got : (name : Dynamic) (q : Position) (p : Place) (done : Rest)
      (go : Dynamic → Task) → Solid bare p → Follows clean bare n done → Names clean n name →
      ReadsOn clean bare n go → (a : Answer) → AnswerNames clean n a →
      TaskNames clean bare n (walks.property_was_got k name q p done go a)
  property_got name q p done go solid f text h (Came v) bound = h n (omega arith) v bound
  property_got name q p done go solid f text h (Failed x) bound =
      by clean bare n (is_dot_expr x) _ _ (
        out clean bare n done k f,
        (
          (text, tt),
          solid,
          λ j le. got_instead clean bare j k x done go (follows_wider clean bare n j le done f)
              (problem_wider clean n j le x bound) (h j le),
        ),
      ) (now clean bare n done f (WalkFailed k x) bound)

  pub index_read : (q : Position) (p : Place) (i v : Dynamic) (done : Rest)
      (go : Dynamic → Task) → Solid bare p → Follows clean bare n done → Names clean n i →
      Names clean n v → Reading clean bare n go → (a : Answer) → AnswerNames clean n a →
      TaskNames clean bare n (walks.index_was_read k q p i v done go a)
  index_read q p i v done go solid f index value h (Came r) bound = h r bound
  index_read q p i v done go solid f index value h (Failed x) bound =
      by clean bare n (catchable x) _ _
      (sets_index q p i v dynamic.Unit done solid f index value (unit_names clean bare n))
      (now clean bare n done f (WalkFailed k x) bound)

  module _ (g : Setting) where
    pub name_names : (name : ℕ) → Names clean n (walks.named g name)
    name_names name = (omega arith, λ s. refl)

    -- an op-assignment
    module _ (q : Position) (a : AssignOp) (v : Dynamic) (value : Names clean n v) where
      pub op_assigned_by : (p : Place) (done : Rest) → Follows clean bare n done → (b : Answer) →
          AnswerNames clean n b →
          TaskNames clean bare n (walks.was_op_assigned g k q a v p done b)
      op_assigned_by p done f (Came r) bound = assigned clean bare n done f
      op_assigned_by p done f (Failed x) bound =
          by clean bare n (says_missing (name_of g.program a.op_assign_name) x) _ _
          (λ h named. (
            out clean bare n done k f,
            (
              (named, (value, tt)),
              tt,
              λ j le. operator clean bare j k q p done (follows_wider clean bare n j le done f),
            ),
          ))
          (now clean bare n done f (WalkFailed k x) bound)

module _ (clean bare : Bool) (n k : ℕ) (g : Setting) where
  pub sets_property : (name setter : ℕ) (q : Position) (assigned : Bool) (p : Place)
      (v u : Dynamic) (done : Rest) → Solid bare p → Follows clean bare n done →
      Names clean n v → Names clean n u →
      TaskNames clean bare n (walks.set_property g k name setter q assigned p v u done)
  sets_property name setter q assigned p v u done solid f value names = (
    out clean bare n done k f,
    (
      (value, tt),
      solid,
      λ j le. property_set clean bare j k (walks.named g name) q assigned p v u done solid
          (follows_wider clean bare n j le done f) (name_names clean bare j k g name)
          (names_wider clean n j le v value) (names_wider clean n j le u names),
    ),
  )

  pub gets_property : (name getter : ℕ) (q : Position) (p : Place) (done : Rest)
      (go : Dynamic → Task) → Solid bare p → Follows clean bare n done →
      ReadsOn clean bare n go →
      TaskNames clean bare n (walks.get_property g k name getter q p done go)
  gets_property name getter q p done go solid f h = (
    out clean bare n done k f,
    (
      tt,
      solid,
      λ j le. property_got clean bare j k (walks.named g name) q p done go solid
          (follows_wider clean bare n j le done f) (name_names clean bare j k g name)
          (λ i more. h i (omega (arith, le, more))),
    ),
  )

  module _ (q : Position) (a : AssignOp) (v : Dynamic) (value : Names clean n v) where
    pub stored : (p : Place) (done : Rest) → Solid bare p → Follows clean bare n done →
        (o : Outcome) → NamesNone o → TaskNames clean bare n (walks.stored g k q a v p done o)
    stored p done solid f NotBuiltIn none = (
      out clean bare n done k f,
      (
        (value, tt),
        solid,
        λ j le. op_assigned_by clean bare j k g q a v (names_wider clean n j le v value) p done
            (follows_wider clean bare n j le done f),
      ),
    )
    stored p done solid f (Gave r) none = (
      out clean bare n done k f,
      ((none_names clean n r none, no_cell r none), assigned clean bare n done f),
    )
    stored p done solid f (ArithmeticFault text) none =
        fails clean bare n k _ done f (omega arith, λ s. refl)
    stored p done solid f (TooLarge what) none =
        fails clean bare n k _ done f (omega arith, λ s. refl)

    pub operates : Goes clean bare n (walks.operating g k q a v)
    operates p solid done f = λ h named.
        stored p done solid f (op_assigned g.engine a h.value v)
        (op_assigned_plain g.engine a h.value v)

  -- the way back
  put_part : (s : Spot) (p : Place) (v u : Dynamic) (changed : Bool) (done : Rest) →
      Follows clean bare n done → Names clean n u → (d : Option Dynamic) →
      NoneInside clean n d → TaskNames clean bare n (walks.put_part g k s p v u changed done d)
  put_part s p v u changed done f names (Some d) none =
      (out clean bare n done k f, (none, now clean bare n done f (WalkEnded u changed) names))
  put_part s p v u changed done f names None none =
      fails clean bare n k _ done f (omega arith, λ s. refl)

  sets_back : (o : Origin) (p : Place) → OriginNames clean bare n o p → (v u : Dynamic)
      (changed : Bool) (done : Rest) → Follows clean bare n done → Names clean n v →
      Names clean n u → TaskNames clean bare n (walks.set_back g k o p v u changed done)
  sets_back (OfPart s) p from v u changed done f value names = (
    out clean bare n done k f,
    λ h named. put_part s p v u changed done f names (with_part h.value s v)
        (with_part_none h.value s v clean n),
  )
  sets_back (OfIndex i q) p from v u changed done f value names =
      by clean bare n changed _ _
      (sets_index clean bare n k q p i v u done from.1 f from.0 value names)
      (now clean bare n done f (WalkEnded u false) names)
  sets_back (OfProperty name setter q assigned) p from v u changed done f value names =
      by clean bare n changed _ _ (sets_property name setter q assigned p v u done from f value names)
      (now clean bare n done f (WalkEnded u false) names)
  sets_back OfMethod p from v u changed done f value names =
      now clean bare n done f (WalkEnded u true) names
  sets_back OfNothing p from v u changed done f value names =
      now clean bare n done f (WalkEnded u changed) names

  pub comes_back : (o : Origin) (p : Place) → OriginNames clean bare n o p → (done : Rest) →
      Follows clean bare n done → (x : Walked) → WalkedNames clean n x →
      TaskNames clean bare n (walks.back g k o p done x)
  comes_back o p from done f (WalkFailed j x) bound = λ h held.
      now clean bare n done f (WalkFailed j x) bound
  comes_back o p from done f (WalkEnded u changed) names = λ h held.
      sets_back o p from h.value u changed done f held names

-- the same once the store has grown
pub origin_wider : (clean bare : Bool) (n j : ℕ) → n ≤ j → (o : Origin) (p : Place) →
    OriginNames clean bare n o p → OriginNames clean bare j o p
origin_wider clean bare n j le (OfPart s) p h = h
origin_wider clean bare n j le (OfIndex i q) p h = (names_wider clean n j le i h.0, h.1)
origin_wider clean bare n j le (OfProperty name setter q assigned) p h = h
origin_wider clean bare n j le OfMethod p h = h
origin_wider clean bare n j le OfNothing p h = h

module _ (clean bare : Bool) (n k : ℕ) (g : Setting) where
  goes_back : (o : Origin) (p : Place) → OriginNames clean bare n o p → (done : Rest) →
      Follows clean bare n done → Follows clean bare n (walks.back g k o p done)
  goes_back o p from done f = λ j le x h.
      comes_back clean bare j k g o p (origin_wider clean bare n j le o p from) done
      (follows_wider clean bare n j le done f) x h

  pub roots : (o : Origin) (p : Place) → OriginNames clean bare n o p → (h : Held) →
      PlainNames clean n h → (next : Next) → Goes clean bare n next → (done : Rest) →
      Follows clean bare n done → TaskNames clean bare n (walks.rooted g k o h next p done)
  roots o p from h plain next on done f = (
    out clean bare n done k f,
    (
      plain,
      on (next_root p) (λ s. omega arith) (walks.back g k o p done) (goes_back o p from done f),
    ),
  )

  -- an answer, which may be the chain's own value
  pub into_answer : (q : Position) (own : Bool) (o : Origin) (p : Place) →
      OriginNames clean bare n o p → (next : Next) → Goes clean bare n next → (done : Rest) →
      Follows clean bare n done →
      Reading clean bare n (walks.into_answer g k q own o next p done)
  into_answer q true o p from next on done f v names =
      now clean bare n done f (WalkEnded v (walks.is_change o)) names
  into_answer q false o p from next on done f v names =
      reads clean bare n k q v done (λ u. walks.rooted g k o (read_write u) next p done) f names
      (λ u plain. roots o p from (read_write u) plain next on done f)
