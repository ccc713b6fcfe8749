-- Marks, faults that are raised and offered to handlers, and operations that are charged.
use Rattle.std.specs.Prelude.{ℕ, ◌+◌, List, [], ◌∷◌, ◌++◌, Option, Some, None, Bool, true, false, if◌then◌else◌, nat_lt, take, codes}
use Rattle.grain_value.specs.Looking.{is_unit}
use Rattle.grain_fault.specs.declared.places.Position.{Position}
use Rattle.grain_fault.specs.Classes.{catchable}
use Rattle.grain_fault.specs.Positions.{at_position, position_of_problem}
use Rattle.grain_fault.specs.Problems.{FaultKind, Problem, Plain, InModule, SystemError, InFunctionCall, DataRace, Terminated, Runtime, TooManyOperations, NoMemory}
use Rattle.grain_program.specs.View.{position_of}
use Rattle.grain_means.specs.Worlds.{is_stop, Failed, Handler, Frame, World, InCatch, Act, Go, End, Setup}
use Rattle.grain_host.specs.Law.{Verdict, GoOn, Stop}

-- the text of a fault that the cell of a variable is lent
abbrev pub race_text : List ℕ → List ℕ
race_text name = codes "variable '" ++ name ++ codes "'"

-- whether a fault of this kind is a throw of unit; no other kind is
abbrev pub kind_throws_unit : FaultKind → Bool
kind_throws_unit (Runtime v) = is_unit v
kind_throws_unit k = false

abbrev pub throws_unit : Problem → Bool
throws_unit (Plain k p) = kind_throws_unit k
throws_unit (InFunctionCall f s x p) = false
throws_unit (InModule n x p) = false
throws_unit (SystemError s e) = false
throws_unit NoMemory = false

-- what was caught, at the position of the throw, where unit is thrown; and else the fault
abbrev pub thrown_anew : Problem → Problem → Problem
thrown_anew y x = if throws_unit x then at_position (position_of_problem x) y else x

-- whether a fault is want of memory
abbrev pub no_memory : Problem → Bool
no_memory (Plain k p) = false
no_memory (InFunctionCall f s x p) = false
no_memory (InModule n x p) = false
no_memory (SystemError s x) = false
no_memory NoMemory = true

-- the handlers around the innermost one
abbrev pub outer_handlers : List Handler → List Handler
outer_handlers [] = []
outer_handlers (h ∷ hs) = hs

-- the position that a frame has of its own, or else the other
abbrev pub own_or : Option Position → Position → Position
own_or None p = p
own_or (Some q) p = q

module _ {S : Type 0} (m : Setup S) where
  -- the position of what a frame does: its own while a step is done, and else its instruction's
  abbrev pub position : Frame → Position
  position f = own_or f.position (position_of m.program f.address)

  -- a fault leaves a frame: the scope is cut, and the trace notes where the frame stopped, and the
  -- step that is blamed
  abbrev pub leave_by_fault : Frame → Problem → World S → Act S
  leave_by_fault f x w =
      End (Failed x) (record w {
        scope = take f.floor w.scope;
        trace = w.trace ++ record { address = f.address; slot = f.slot } ∷ [];
      })

  -- a mark: memory is out here, and then what follows from that, or the run goes on
  abbrev pub marked_or : (World S → Act S) → World S → (World S → Act S) → Act S
  marked_or out w go =
      if is_stop m.stop w.passed then out w else go (record w { passed = w.passed + 1 })

  -- a mark in a frame, which want of memory leaves
  abbrev pub marked : Frame → World S → (World S → Act S) → Act S
  marked f w go = marked_or (leave_by_fault f NoMemory) w go

  -- of a handler, what follows if it is armed, and what follows from the fault that it has caught
  abbrev pub if_armed : Option Problem → Act S → (Problem → Act S) → Act S
  if_armed None armed left = armed
  if_armed (Some y) armed left = left y

  -- A fault is offered to handlers, the innermost first. One that has caught is left, and where unit
  -- is thrown in its catch block, what it caught is thrown anew. An armed one catches what a script
  -- may catch.
  abbrev pub offered_to : List Handler → Frame → Problem → World S → Act S
  offered_to [] f x w = leave_by_fault f x w
  offered_to (h ∷ hs) f x w =
      if_armed h.caught
      (if catchable x then Go (InCatch (record f { handlers = hs }) h x) w
      else leave_by_fault f x w)
      (λ y. offered_to hs f (thrown_anew y x) w)

  -- a fault in a frame is offered to the frame's own handlers
  abbrev pub offered : Frame → Problem → World S → Act S
  offered f x w = offered_to f.handlers f x w

  -- a fault is raised
  abbrev pub raised : Frame → Problem → World S → Act S
  raised f x w = marked f w (offered f x)

  -- What the host says of the operations so far: the run goes on, or it is terminated, and then what
  -- follows from that fault. `out` says what follows where memory is out.
  abbrev pub on_verdict_or : (World S → Act S) → Verdict → Position →
      (Problem → World S → Act S) → World S → (World S → Act S) → Act S
  on_verdict_or out GoOn p fails w go = go w
  on_verdict_or out (Stop v) p fails w go = marked_or out w (fails (Plain (Terminated v) p))

  -- the host hears how many operations there were, with a mark before and one after
  abbrev pub progressed_or : (World S → Act S) → Position → (Problem → World S → Act S) →
      World S → (World S → Act S) → Act S
  progressed_or out p fails w go =
      marked_or out w (λ w1. marked_or out
      (record w1 { host = m.law.progress_after w1.host w1.count }) (λ w2.
      on_verdict_or out (m.law.progress_reply w1.host w1.count) p fails w2 go))

  -- one operation more, of which the host hears, or the fault at this position that there are too
  -- many, and then what follows from the fault
  abbrev pub operation_taken : (World S → Act S) → Position → (Problem → World S → Act S) →
      World S → (World S → Act S) → Act S
  operation_taken out p fails w go =
      if nat_lt w.count m.engine.limits.operations then
      marked_or out w
      (λ w1. progressed_or out p fails (record w1 { count = w1.count + 1 }) go) else
      marked_or out w (fails (Plain TooManyOperations p))

  -- the same where want of memory leaves the frame
  abbrev pub on_verdict : Verdict → Position → Frame → (Problem → World S → Act S) → World S →
      (World S → Act S) → Act S
  on_verdict v p f fails w go = on_verdict_or (leave_by_fault f NoMemory) v p fails w go

  abbrev pub progressed : Position → Frame → (Problem → World S → Act S) → World S →
      (World S → Act S) → Act S
  progressed p f fails w go = progressed_or (leave_by_fault f NoMemory) p fails w go

  abbrev pub charged_or : Position → Frame → (Problem → World S → Act S) → World S →
      (World S → Act S) → Act S
  charged_or p f fails w go = operation_taken (leave_by_fault f NoMemory) p fails w go

  -- an instruction costs an operation
  abbrev pub charged : Frame → World S → (World S → Act S) → Act S
  charged f w go = charged_or (position f) f (offered f) w go

  -- what is raised while a handler catches leaves the frame, and is offered to no handler
  abbrev pub escaped : Frame → Problem → World S → Act S
  escaped f x w = marked f w (leave_by_fault f x)

  -- the fault that the cell of a variable is lent
  abbrev pub data_race : List ℕ → Frame → World S → Act S
  data_race name f w = raised f (Plain (DataRace (race_text name)) (position f)) w
