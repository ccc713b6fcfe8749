-- A fault at another position, and throws of unit.
use Rattle.std.proofs.Common.{◌≡◌, Bool, true, false, if◌then◌else◌, refl, sym}
use Rattle.grain_fault.specs.Classes.{catchable}
use Rattle.grain_fault.specs.Places.{is_nowhere}
use Rattle.grain_fault.specs.Positions.{at_position, at_position_if_none, position_of_problem}
use Rattle.grain_fault.specs.Problems.{FaultKind, Runtime, Problem, Plain, InFunctionCall, InModule, SystemError, NoMemory}
use Rattle.grain_fault.specs.declared.places.Position.{Position}
use Rattle.grain_means.specs.Rules.{kind_throws_unit, throws_unit}

-- the last position holds
pub placed_twice : (p q : Position) (x : Problem) →
    at_position p (at_position q x) ≡ at_position p x
placed_twice p q (Plain k o) = refl
placed_twice p q (InFunctionCall f s x o) = refl
placed_twice p q (InModule m x o) = refl
placed_twice p q (SystemError s e) = refl
placed_twice p q NoMemory = refl

-- a script may catch it or not, wherever it is
pub caught_anywhere : (p : Position) (x : Problem) → catchable (at_position p x) ≡ catchable x
caught_anywhere p (Plain k o) = refl
caught_anywhere p (InFunctionCall f s x o) = refl
caught_anywhere p (InModule m x o) = refl
caught_anywhere p (SystemError s e) = refl
caught_anywhere p NoMemory = refl

-- at its own position a fault is as it is
pub placed_here : (x : Problem) → at_position (position_of_problem x) x ≡ x
placed_here (Plain k o) = refl
placed_here (InFunctionCall f s x o) = refl
placed_here (InModule m x o) = refl
placed_here (SystemError s e) = refl
placed_here NoMemory = refl

-- a fault that is placed where it has no position is placed somewhere
pub placed_if_none : (p : Position) (x : Problem) →
    (q : Position) × (at_position_if_none p x ≡ at_position q x)
placed_if_none p x = by_position (is_nowhere (position_of_problem x)) where
  by_position : (b : Bool) →
      (q : Position) × ((if b then at_position p x else x) ≡ at_position q x)
  by_position true = (p, refl)
  by_position false = (position_of_problem x, sym (placed_here x))

is_false : {A : Type 0} → false ≡ true → A
is_false p = cc

-- it throws unit or not, wherever it is
pub unit_anywhere : (p : Position) (x : Problem) → throws_unit (at_position p x) ≡ throws_unit x
unit_anywhere p (Plain k o) = refl
unit_anywhere p (InFunctionCall f s x o) = refl
unit_anywhere p (InModule m x o) = refl
unit_anywhere p (SystemError s e) = refl
unit_anywhere p NoMemory = refl

-- a throw of unit has the position at which it is placed
pub unit_placed : (p : Position) (x : Problem) → throws_unit x ≡ true →
    position_of_problem (at_position p x) ≡ p
unit_placed p (Plain k o) e = refl
unit_placed p (InFunctionCall f s x o) e = refl
unit_placed p (InModule m x o) e = refl
unit_placed p (SystemError s t) e = is_false e
unit_placed p NoMemory e = is_false e

-- a script may catch a throw of unit
pub unit_caught : (x : Problem) → throws_unit x ≡ true → catchable x ≡ true
unit_caught (Plain k p) e = of_kind k e where
  of_kind : (k : FaultKind) → kind_throws_unit k ≡ true → catchable (Plain k p) ≡ true
  of_kind (Runtime v) e = refl
  of_kind k e = is_false e
unit_caught (InFunctionCall f s x p) e = refl
unit_caught (InModule m x p) e = refl
unit_caught (SystemError s t) e = is_false e
unit_caught NoMemory e = is_false e
