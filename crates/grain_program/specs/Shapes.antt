-- What the verifier knows of a frame at an address: how many operands and cursors it has, and its
-- handlers. What an instruction does to it, and when it may not.
use Rattle.std.specs.Prelude.{ℕ, ◌+◌, ◌-◌, ◌==◌, ◌&&◌, ◌||◌, nat_lt, Bool, true, false, List, [], ◌∷◌, map, slice_index_or, Option, Some, None, Result, Ok, Err, if◌then◌else◌}
use Rattle.grain_program.specs.declared.code.effects.Effect.{Effect}
use Rattle.grain_program.specs.declared.code.effects.Flow.{Flow}
use Rattle.grain_program.specs.declared.code.effects.Flow.TheVariants as flow
use Rattle.grain_program.specs.declared.code.effects.Looping.{Looping}
use Rattle.grain_program.specs.declared.code.effects.Looping.TheVariants as looping
use Rattle.grain_program.specs.declared.code.effects.Handling.{Handling}
use Rattle.grain_program.specs.declared.code.effects.Handling.TheVariants as handling
use Rattle.grain_program.specs.declared.verifier.refusals.Refusal.{Refusal}
use Rattle.grain_program.specs.declared.verifier.refusals.Refusal.TheVariants as refusal
use Rattle.grain_program.specs.View.{View}
use Rattle.grain_program.specs.Effects.{cursors_taken, cursors_given, switch_leads}

-- a handler: where the frame goes on once it has caught, the index of the name of its variable, if
-- it has one, and how many operands and cursors there were at its push
pub record TryHandler : Type 0 where
  pub target : ℕ
  pub variable : Option ℕ
  pub height : ℕ
  pub cursors : ℕ

-- the number of operands, that of cursors, and the handlers, the innermost first
pub record Shape : Type 0 where
  pub height : ℕ
  pub cursors : ℕ
  pub handlers : List TryHandler

abbrev pub shape : ℕ → ℕ → List TryHandler → Shape
shape height cursors handlers =
    record { height = height; cursors = cursors; handlers = handlers }

-- a frame without operands, cursors and handlers
abbrev pub bare : Shape
bare = shape 0 0 []

-- all but the first
abbrev pub outer : List TryHandler → List TryHandler
outer [] = []
outer (h ∷ hs) = hs

-- the handlers after an instruction that leaves this number of operands and of cursors
abbrev pub handled : Handling → ℕ → ℕ → List TryHandler → List TryHandler
handled handling.Keep height cursors hs = hs
handled (handling.Push target variable) height cursors hs =
    record { target = target; variable = variable; height = height; cursors = cursors } ∷ hs
handled handling.Pop height cursors hs = outer hs

-- how many operands there are after the instruction
abbrev pub height_after : Effect → Shape → ℕ
height_after e s = s.height - e.takes + e.gives

-- how many cursors there are after the instruction
abbrev pub cursors_after : Effect → Shape → ℕ
cursors_after e s = s.cursors - cursors_taken e.looping + cursors_given e.looping

-- the shape after the instruction, where it goes on
abbrev pub after : Effect → Shape → Shape
after e s =
    shape (height_after e s) (cursors_after e s)
    (handled e.handling (height_after e s) (cursors_after e s) s.handlers)

-- the shape with which an instruction comes to its target that gives this number of operands and
-- leaves this shape where it goes on: the same, but if a cursor went on, it is gone at the target, and
-- nothing is given there
abbrev pub targeted : Looping → ℕ → Shape → Shape
targeted looping.Keep gives s = s
targeted looping.Begin gives s = s
targeted looping.Leave gives s = s
targeted looping.Advance gives s = shape (s.height - gives) (s.cursors - 1) s.handlers

abbrev pub at_target : Effect → Shape → Shape
at_target e s = targeted e.looping e.gives s

-- an address that is reached, and the shape with which it is reached
pub record Arrival : Type 0 where
  pub address : ℕ
  pub shape : Shape

abbrev pub arrival : ℕ → Shape → Arrival
arrival address shape = record { address = address; shape = shape }

-- what is reached by a flow, given the address after the instruction, the shape with which it goes on
-- there, and the one with which it comes to a target, the lower address first
abbrev pub reached : View → Flow → ℕ → Shape → Shape → List Arrival
reached p flow.Next next s t = arrival next s ∷ []
reached p (flow.Jump a) next s t = arrival a t ∷ []
reached p (flow.Branch a) next s t =
    if nat_lt a next then arrival a t ∷ arrival next s ∷ [] else arrival next s ∷ arrival a t ∷ []
reached p (flow.Switch k) next s t = map (λ a. arrival a t) (switch_leads p k)
reached p flow.End next s t = []

-- what is reached by an instruction of this effect that leaves this shape, given the address after it
abbrev pub arrivals : View → Effect → ℕ → Shape → List Arrival
arrivals p e next s = reached p e.flow next s (at_target e s)

-- there is a handler
abbrev pub is_tried : List TryHandler → Bool
is_tried [] = false
is_tried (h ∷ hs) = true

-- the instruction takes a handler away where there is none
abbrev pub lacks_handler : Handling → List TryHandler → Bool
lacks_handler handling.Keep hs = false
lacks_handler (handling.Push target variable) hs = false
lacks_handler handling.Pop [] = true
lacks_handler handling.Pop (h ∷ hs) = false

-- with this number of operands and of cursors there are fewer of either than at the push of the
-- innermost handler
abbrev pub is_under : ℕ → ℕ → List TryHandler → Bool
is_under height cursors [] = false
is_under height cursors (h ∷ hs) = nat_lt height h.height || nat_lt cursors h.cursors

-- there are too few operands, cursors or handlers for the instruction
abbrev pub lacks : Effect → Shape → Bool
lacks e s =
    nat_lt s.height e.takes
    || (nat_lt s.cursors (cursors_taken e.looping) || lacks_handler e.handling s.handlers)

-- once the instruction has taken its operands and its cursor, there are fewer than at the push of the
-- innermost handler
abbrev pub goes_under : Effect → Shape → Bool
goes_under e s =
    is_under (s.height - e.takes) (s.cursors - cursors_taken e.looping) s.handlers

-- the shape after the instruction at the address, unless there are too few operands, cursors or
-- handlers for it, or else it takes operands or a cursor that were there at the push of the innermost
-- handler, or else there are too many operands after it
abbrev pub shape_after : ℕ → ℕ → Effect → Shape → Result Shape Refusal
shape_after max a e s =
    if lacks e s then Err (refusal.Underflow a)
    else if goes_under e s then Err (refusal.UnderTry a)
    else if nat_lt max (height_after e s) then Err (refusal.TooDeep a)
    else Ok (after e s)

-- the two are the same
abbrev pub same_variable : Option ℕ → Option ℕ → Bool
same_variable None None = true
same_variable None (Some n) = false
same_variable (Some m) None = false
same_variable (Some m) (Some n) = m == n

abbrev pub same_handler : TryHandler → TryHandler → Bool
same_handler g h =
    (g.target == h.target)
    && (same_variable g.variable h.variable
    && ((g.height == h.height) && (g.cursors == h.cursors)))

abbrev pub same_handlers : List TryHandler → List TryHandler → Bool
same_handlers [] [] = true
same_handlers [] (h ∷ hs) = false
same_handlers (g ∷ gs) [] = false
same_handlers (g ∷ gs) (h ∷ hs) = same_handler g h && same_handlers gs hs

-- what is wrong where a second shape comes to an address
abbrev pub clash : ℕ → Shape → Shape → Option Refusal
clash a s t =
    if (s.height == t.height) && (s.cursors == t.cursors) then
    (if same_handlers s.handlers t.handlers then None else Some (refusal.HandlerDisagrees a))
    else Some (refusal.HeightDisagrees a)

-- the shape that is known at the address
abbrev pub shape_at : List (Option Shape) → ℕ → Option Shape
shape_at shapes a = slice_index_or shapes a None
