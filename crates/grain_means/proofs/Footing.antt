-- What a run stands on, what is known of what is left of it, and causes as they are carried through
-- handlers.
use Rattle.std.proofs.Common.{◌≡◌, ◌≤◌, ℕ, List, [], ◌∷◌, ◌++◌, Option, Some, None, Bool, true, false, refl, sym, subst, ap, ◌∙◌, inl, inr, if◌then◌else◌}
use Rattle.grain_fault.specs.Classes.{catchable}
use Rattle.grain_fault.specs.Positions.{at_position, position_of_problem}
use Rattle.grain_fault.specs.declared.places.Position.{Position}
use Rattle.grain_fault.specs.Problems.{FaultKind, Malformed, Runtime, Terminated, TooManyOperations, TooManyVariables, Problem, Plain, InFunctionCall, InModule, SystemError, NoMemory}
use Rattle.grain_program.specs.Typing.{IsProgram}
use Rattle.grain_means.specs.Worlds.{Act, Go, End, Then, Answer, Failed, World, Setup, Frame, Handler, Todo, InFrame, InCatch, InHost}
use Rattle.grain_means.specs.Rules.{if_armed, kind_throws_unit, outer_handlers, position, throws_unit, thrown_anew}
use Rattle.grain_means.specs.Comes.{ProgramPoint, CatchPoint, Comes, ComesToCatch, BlamesNone, Meets, try_of, tries}
use Rattle.grain_means.specs.Ends.{Ends}
use Rattle.grain_means.specs.Leavings.{Cuts}
use Rattle.grain_means.specs.Blame.{Blamed}
use Rattle.grain_means.specs.Causes.{HasPosition, Why, Throws, Raises, Tells, ThrowsUnit, HaveCaughtUnit, FirstIsArmed, Raised, Row, FailsToCatch, CatchRow, Cause, Caused, ThrowsUnitAt, raised, by_catch, from_native}
use Rattle.grain_means.proofs.Ground.{Footing, Stays}
use Rattle.grain_means.proofs.Roles.{Role, Framed, Hosting, tokens_at, away_at, AsksAt, NativeEnds}
use Rattle.grain_means.proofs.Moving.{caught_anywhere, placed_twice, unit_anywhere, unit_placed}
use Rattle.grain_means.proofs.Standing.{Fitting, Covered}

-- what the first act comes to, the second comes to
abbrev pub Onto : {S : Type 0} → Setup S → Act S → Act S → Type 0
Onto {S = S} m first act = (t : Todo) (w : World S) → Comes m t w first → Comes m t w act

-- This handler, which has caught this fault in a frame of this level: a script may catch the fault, it
-- has its cause, and the run of the act came to where it was caught.
pub record WasCaught {S : Type 0} (m : Setup S) (root : Act S) (level : ℕ) (h : Handler)
    (y : Problem) : Type 0 where
  pub may : catchable y ≡ true
  pub cause : Raised m root level y (Why m y)
  pub caught : CatchPoint S
  pub comes : ComesToCatch m caught root
  pub own : caught.world.level ≡ level
  pub is : caught.fault ≡ y
  pub handler : record caught.handler { caught = Some caught.fault } ≡ h

abbrev pub HasCaught : {S : Type 0} → Setup S → Act S → ℕ → Handler → Option Problem → Type 0
HasCaught m root level h None = Unit {0}
HasCaught m root level h (Some y) = WasCaught m root level h y

-- no handler cuts the scope below the base, and what each has caught was caught so
abbrev pub Guarded : {S : Type 0} → Setup S → Act S → Footing → List Handler → Type 0
Guarded m root k [] = Unit {0}
Guarded m root k (h ∷ hs) =
    (k.base ≤ h.scope) × HasCaught m root k.level h h.caught × Guarded m root k hs

-- a frame on this footing, which in a valid program fits, and blames no step
abbrev pub Sits : {S : Type 0} → Setup S → Act S → Footing → Frame → Type 0
Sits {S = S} m root k f = (f.base ≡ k.base) × (k.base ≤ f.floor) ×
    (IsProgram m.program → Fitting m.program f) × Guarded m root k f.handlers × BlamesNone f

-- A frame on this footing, in which the handler catches the fault: the frame stood at an instruction
-- that raised it, and has the slot of what is blamed.
pub record CanCatch {S : Type 0} (m : Setup S) (root : Act S) (k : Footing) (f : Frame)
    (h : Handler) (x : Problem) : Type 0 where
  pub from : Frame
  pub world : World S
  pub comes : Comes m (InFrame from) world root
  pub own : world.level ≡ k.level
  pub from_base : from.base ≡ k.base
  pub address : f.address ≡ from.address
  pub floor : f.floor ≡ from.floor
  pub base : f.base ≡ k.base
  pub low : k.base ≤ f.floor
  pub scope : k.base ≤ h.scope
  pub around : Guarded m root k f.handlers
  pub armed : h.caught ≡ None
  pub may : catchable x ≡ true
  pub cause : Raised m root k.level x (Why m x)
  pub blamed : Blamed m from world f.slot x
  pub covered : IsProgram m.program →
      Covered m.program f.operands f.cursors (try_of h ∷ tries f.handlers)

-- what is known where the run stands at this
abbrev pub Seats : {S : Type 0} → Setup S → Role → Act S → Footing → Todo → World S → Type 0
Seats m Framed root k (InFrame f) w = (w.trace ≡ []) × Sits m root k f
Seats m Framed root k (InCatch f h x) w = CanCatch m root k f h x
Seats m Framed root k (InHost c) w = ⊥
Seats m Hosting root k (InFrame f) w = ⊥
Seats m Hosting root k (InCatch f h x) w = ⊥
Seats m Hosting root k (InHost c) w = (w.trace ≡ []) × AsksAt m root c w

-- what is known where the run is over
abbrev pub Over : {S : Type 0} → Setup S → Role → Act S → Footing → Answer → World S → Type 0
Over m Framed root k a w = Cuts m root k.level k.base a w × Caused m root k.level a w
Over m Hosting root k a w = NativeEnds m root a w

-- what is left to do of a run, and of its instruction, begins after n instructions, keeps its
-- footing, and ends with a cause and the scope cut
abbrev pub Tally : {S : Type 0} → Setup S → Role → Act S → Act S → ℕ → Footing → Act S → Type 0
Tally {S = S} m role root turn r k (Go t w) = (w.ran ≡ r) × (w.tokens ≡ tokens_at t k.tokens) ×
    (w.level ≡ k.level) × Stays k (away_at t) w.scope w.cells × Seats m role root k t w
Tally {S = S} m role root turn r k (End a w) = (w.ran ≡ r) × (w.tokens ≡ k.tokens) ×
    (w.level ≡ k.level) × Stays k None w.scope w.cells × Over m role root k a w
Tally {S = S} m role root turn r k (Then first rest) =
    (j : Footing) × (inner : Role) × Tally m inner first first r j first ×
    (Onto m first root → Onto m first turn → (x : Answer) (w : World S) → Ends m first x w →
    w.tokens ≡ j.tokens → w.level ≡ j.level → Stays j None w.scope w.cells →
    Over m inner first j x w → Tally m role root turn w.ran k (rest x w))

pub by_test : {S : Type 0} (P : Act S → Type 0) (b : Bool) (x y : Act S) → (b ≡ true → P x) →
    (b ≡ false → P y) → P (if b then x else y)
by_test P true x y p q = p refl
by_test P false x y p q = q refl

pub true-false : {A : Type 0} {b : Bool} → b ≡ true → b ≡ false → A
true-false p q = cc

pub is_false : {A : Type 0} → false ≡ true → A
is_false p = cc

pub is_true : {A : Type 0} → true ≡ false → A
is_true p = cc

module _ {S : Type 0} (m : Setup S) where
  -- of a handler that is armed, and of one that has caught
  pub by_arming : (P : Act S → Type 0) (c : Option Problem) (armed : Act S)
      (left : Problem → Act S) → (c ≡ None → P armed) →
      ((y : Problem) → c ≡ Some y → P (left y)) → P (if_armed m c armed left)
  by_arming P None armed left p q = p refl
  by_arming P (Some y) armed left p q = q y refl

  -- the handlers around the innermost one
  pub guarded_outside : (root : Act S) (k : Footing) (hs : List Handler) → Guarded m root k hs →
      Guarded m root k (outer_handlers hs)
  guarded_outside root k [] g = tt
  guarded_outside root k (h ∷ hs) g = g.2

  -- a fault has the same cause wherever it is
  moved : (p : Position) (x : Problem) (s : ProgramPoint S) → Row m x s → Row m (at_position p x) s
  moved p (Plain k q) s row = row
  moved p (InFunctionCall t u x q) s row = row
  moved p (InModule t x q) s row = absurd row
  moved p (SystemError t u) s row = absurd row
  moved p NoMemory s row = absurd row

  pub moved_why : (p : Position) (x : Problem) (s : ProgramPoint S) → Why m x s →
      Why m (at_position p x) s
  moved_why p x s (inl row) = inl (moved p x s row)
  moved_why p x s (inr h) = inr (h.0, p, h.2, ap (at_position p) h.3 ∙ placed_twice p h.1 h.0)

  pub moved_catch : (p : Position) (x : Problem) (s : CatchPoint S) → CatchRow m x s →
      CatchRow m (at_position p x) s
  moved_catch p (Plain k q) s row = row
  moved_catch p (InFunctionCall t u x q) s row = absurd row
  moved_catch p (InModule t x q) s row = absurd row
  moved_catch p (SystemError t u) s row = absurd row
  moved_catch p NoMemory s row = absurd row

  -- what is raised while a handler catches may not be caught
  pub catch_passes : (x : Problem) (s : CatchPoint S) → CatchRow m x s → catchable x ≡ false
  catch_passes (Plain k p) s row = of_kind k row where
    of_kind : (k : FaultKind) → FailsToCatch m k s → catchable (Plain k p) ≡ false
    of_kind (Malformed k) row = refl
    of_kind TooManyVariables row = refl
    of_kind TooManyOperations row = refl
    of_kind (Terminated v) row = refl
    of_kind k row = absurd row
  catch_passes (InFunctionCall t u x p) s row = absurd row
  catch_passes (InModule t x p) s row = absurd row
  catch_passes (SystemError t u) s row = absurd row
  catch_passes NoMemory s row = absurd row

  -- the cause of a fault that a script may catch
  raised_in : {act : Act S} {level : ℕ} {x : Problem} → Cause m act level x → catchable x ≡ true →
      Raised m act level x (Why m x)
  raised_in (raised c) may = c
  raised_in {x = x} (by_catch c) may = true-false may (catch_passes x c.point c.why)
  raised_in (from_native {y = y} c passes inner p at) may =
      true-false (sym (caught_anywhere p y) ∙ may) passes

  pub cause_in : (act : Act S) (level : ℕ) (x : Problem) (w : World S) → catchable x ≡ true →
      Caused m act level (Failed x) w → Raised m act level x (Why m x)
  cause_in act level x w may (inl s) = true-false may (ap catchable s.0)
  cause_in act level x w may (inr c) = raised_in c may

  -- where it was raised
  tells_level : (act : Act S) (level : ℕ) (at : ProgramPoint S) (x : Problem) →
      catchable x ≡ true → Tells m act level at x → at.world.level ≡ level
  tells_level act level at x may (inl own) = own.0
  tells_level act level at x may (inr (inl l)) = true-false may l.0
  tells_level act level at x may (inr (inr anew)) = anew.0

  -- where an instruction throws unit
  unit_thrown : (x : Problem) (s : ProgramPoint S) → Row m x s → throws_unit x ≡ true →
      Throws s.instruction × ThrowsUnitAt s.frame s.world
  unit_thrown (Plain k p) s row e = of_kind k row e where
    of_kind : (k : FaultKind) → Raises m k s → kind_throws_unit k ≡ true →
        Throws s.instruction × ThrowsUnitAt s.frame s.world
    of_kind (Runtime v) row e = (row.1, (v, row.0, e))
    of_kind k row e = is_false e
  unit_thrown (InFunctionCall t u x p) s row e = is_false e
  unit_thrown (InModule t x p) s row e = is_false e
  unit_thrown (SystemError t u) s row e = is_false e
  unit_thrown NoMemory s row e = is_false e

  -- unit is thrown at this position, in a frame with these handlers
  abbrev pub ThrownUnder : Act S → ℕ → List Handler → Position → Type 0
  ThrownUnder root level hs p =
      (throw : ThrowsUnit m root level p) × (throw.point.frame.handlers ≡ hs)

  -- if the fault is a throw of unit, this is where it is thrown, in a frame with these handlers
  abbrev pub UnitThrown : Act S → ℕ → List Handler → Problem → Type 0
  UnitThrown root level hs x =
      throws_unit x ≡ true → ThrownUnder root level hs (position_of_problem x)

  -- an instruction that raises a throw of unit throws it
  pub unit_by_row : (root : Act S) (level : ℕ) (s : ProgramPoint S) → Meets m s root →
      s.world.level ≡ level → (x : Problem) → HasPosition (position m s.frame) x → Row m x s →
      UnitThrown root level s.frame.handlers x
  unit_by_row root level s met own x has row e =
      let p = position m s.frame in
      let throw = unit_thrown x s row e in (
        record {
          point = s;
          met = met;
          own = own;
          how = inl (
            throw.0,
            throw.1,
            sym (ap position_of_problem has) ∙ unit_placed p x e,
          );
        },
        refl,
      )

  -- a fault that is offered to a handler of a frame with these: why, and where it is thrown if it is a
  -- throw of unit
  abbrev pub Offers : Act S → ℕ → List Handler → Problem → World S → Type 0
  Offers root level hs x w = Caused m root level (Failed x) w × UnitThrown root level hs x

  -- the fault is not thrown anew by the innermost of these handlers
  abbrev pub StaysAt : List Handler → Problem → Type 0
  StaysAt hs x = throws_unit x ≡ true → FirstIsArmed hs

  -- a fault that is offered to these handlers of a frame with those: why, if it stays there, and where
  -- it is thrown if it is a throw of unit
  abbrev pub OffersTo : Act S → ℕ → (hs left : List Handler) → Problem → World S → Type 0
  OffersTo root level hs left x w =
      (StaysAt left x → Caused m root level (Failed x) w) × UnitThrown root level hs x

  -- one more handler has caught a throw of unit
  one_more_caught : (inside : List Handler) (h : Handler) (y : Problem) → HaveCaughtUnit inside →
      h.caught ≡ Some y → throws_unit y ≡ true → HaveCaughtUnit (inside ++ h ∷ [])
  one_more_caught [] h y left caught unit = ((y, caught, unit), tt)
  one_more_caught (g ∷ inside) h y left caught unit =
      (left.0, one_more_caught inside h y left.1 caught unit)

  -- where unit is still thrown after a handler that has caught, that had caught a throw of unit too
  pub left_so_far : (inside : List Handler) (h : Handler) (x y : Problem) →
      (throws_unit x ≡ true → HaveCaughtUnit inside) → h.caught ≡ Some y →
      throws_unit (thrown_anew y x) ≡ true → HaveCaughtUnit (inside ++ h ∷ [])
  left_so_far inside h x y left caught = by_unit (throws_unit x) refl where
    p : Position
    p = position_of_problem x

    by_unit : (b : Bool) → throws_unit x ≡ b →
        throws_unit (if b then at_position p y else x) ≡ true →
        HaveCaughtUnit (inside ++ h ∷ [])
    by_unit false e unit = true-false unit e
    by_unit true e unit =
        one_more_caught inside h y (left e) caught (sym (unit_anywhere p y) ∙ unit)

  -- what was caught is thrown anew where unit is thrown, in a frame that has the handler
  cause_anew : (root : Act S) (level : ℕ) (inside around : List Handler) (h : Handler)
      (y : Problem) → WasCaught m root level h y → HaveCaughtUnit inside → (p : Position) →
      (throws_unit y ≡ true → FirstIsArmed around) →
      ThrownUnder root level (inside ++ h ∷ around) p →
      Raised m root level (at_position p y) (Why m (at_position p y))
  cause_anew root level inside around h y c left p ended throw = record {
    point = c.cause.point;
    met = c.cause.met;
    why = moved_why p y c.cause.point c.cause.why;
    tells = inr (inr (
      tells_level root level c.cause.point y c.may c.cause.tells,
      record {
        caught = c.caught;
        comes = c.comes;
        own = c.own;
        position = p;
        throw = throw.0;
        inside = inside;
        around = around;
        block = throw.1
            ∙ ap (λ (g : Handler). inside ++ g ∷ around) (sym c.handler);
        left = left;
        ended = λ unit. ended (sym (ap throws_unit c.is) ∙ unit);
        is = ap (at_position p) (sym c.is);
      },
    ));
  }

  pub offers_anew : (root : Act S) (level : ℕ) (hs inside around : List Handler) (h : Handler)
      (y : Problem) → WasCaught m root level h y → hs ≡ inside ++ h ∷ around →
      (x : Problem) (w : World S) → (throws_unit x ≡ true → HaveCaughtUnit inside) →
      OffersTo root level hs (h ∷ around) x w →
      OffersTo root level hs around (thrown_anew y x) w
  offers_anew root level hs inside around h y c split x w left offers =
      by_unit (throws_unit x) refl where
        p : Position
        p = position_of_problem x

        by_unit : (b : Bool) → throws_unit x ≡ b →
            OffersTo root level hs around (if b then at_position p y else x) w
        by_unit false e = (λ stays. offers.0 (λ unit. true-false unit e), offers.1)
        by_unit true e =
            let throw = offers.1 e in (
              λ stays. inr (raised (cause_anew root level inside around h y c (left e) p
                  (λ unit. stays (unit_anywhere p y ∙ unit)) (throw.0, throw.1 ∙ split))),
              λ again. subst (ThrownUnder root level hs)
                  (sym (unit_placed p y (sym (unit_anywhere p y) ∙ again))) throw,
            )
