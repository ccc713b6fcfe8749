-- A fault is offered to handlers: those that have caught are left.
use Rattle.std.proofs.Common.{◌≡◌, List, [], ◌∷◌, Option, Some, None, refl, sym, ap, ◌∙◌}
use Rattle.grain_fault.specs.Problems.{Problem, NoMemory, problem_of}
use Rattle.grain_fault.specs.declared.faults.EvalAltResult.{EvalAltResult}
use Rattle.grain_program.specs.laws.TypedAt.{uncovered}
use Rattle.grain_stack.specs.declared.handlers.Handler.{Handler}
use Rattle.grain_stack.specs.Views.{StacksView}
use Rattle.grain_means.specs.Worlds as worlds
use Rattle.grain_means.specs.Worlds.{Frame, Setup, World}
use Rattle.grain_means.specs.Rules.{if_armed, leave_by_fault, offered_to, thrown_anew}
use Rattle.grain_frame.specs.Abstraction.{handlers_in, try_in, tries_in}
use Rattle.grain_vm.specs.Catching.{StandsFor}
use Rattle.grain_frame.specs.declared.runs.Run.{Run}

-- want of memory is caught by none
pub memory_leaves : {S : Type 0} (m : Setup S) (hs : List worlds.Handler) (f : Frame) (w : World S)
    →
    offered_to m hs f NoMemory w ≡ leave_by_fault m f NoMemory w
memory_leaves m [] f w = refl
memory_leaves {S = S} m (h ∷ hs) f w = at h.caught (memory_leaves m hs f w) where
  at : (y : Option Problem) →
      offered_to m hs f NoMemory w ≡ leave_by_fault m f NoMemory w →
      if_armed m y (leave_by_fault m f NoMemory w)
      (λ z. offered_to m hs f (thrown_anew z NoMemory) w) ≡ leave_by_fault m f NoMemory w
  at None others = refl
  at (Some y) others = others

-- a handler that has caught is left
pub left_one : {S : Type 0} (m : Setup S) (h : Handler) (hs : List Handler) (f : Frame)
    (x : Problem) (y : EvalAltResult) (w : World S) → h.caught ≡ Some y →
    offered_to m (handlers_in (h ∷ hs)) f x w
    ≡ offered_to m (handlers_in hs) f (thrown_anew (problem_of y) x) w
left_one m h hs f x y w e = rw e refl

-- handlers stand for themselves, and for those around the innermost
pub stands_for_itself : (hs : List Handler) → StandsFor hs hs
stands_for_itself hs = record { covered = λ p c depth cursors h. h; above = λ base a. a }

pub stands_around : (gs : List Handler) (h : Handler) (hs : List Handler) → StandsFor gs (h ∷ hs) →
    StandsFor gs hs
stands_around gs h hs s = record {
  covered = λ p c depth cursors is.
      uncovered p c depth cursors (try_in h) (tries_in hs) (s.covered p c depth cursors is);
  above = λ base a. (s.above base a).1;
}

-- how far handlers are left: the fault comes to the same, the handlers that are there still stand as
-- those that there were, and all else is as it was
pub record LeftUntil {H : Type 0} (old now : Run H) : Type 0 where
  pub same : (m : Setup H) (f : Frame) (w : World H) →
      offered_to m (handlers_in old.stacks.handlers) f (problem_of old.fault) w
      ≡ offered_to m (handlers_in now.stacks.handlers) f (problem_of now.fault) w
  pub stands : StandsFor old.stacks.handlers now.stacks.handlers
  pub others : now ≡ record old {
    stacks = record old.stacks { handlers = now.stacks.handlers };
    fault = now.fault;
  }

pub none_left : {H : Type 0} (s : Run H) → LeftUntil s s
none_left s = record {
  same = λ m f w. refl;
  stands = stands_for_itself s.stacks.handlers;
  others =
      refl;
}

-- the stacks without a handler
stacks_back : (o s v : StacksView) (h : Handler) →
    record v { handlers = h ∷ v.handlers } ≡ record o { handlers = s.handlers } →
    v ≡ record o { handlers = v.handlers }
stacks_back o s v h e = ap (λ (q : StacksView). record q { handlers = v.handlers }) e

-- one more is left
pub one_more_left : {H : Type 0} (old s now : Run H) (v : StacksView) (h : Handler)
    (y : EvalAltResult) → LeftUntil old s → s.stacks ≡ record v { handlers = h ∷ v.handlers } →
    h.caught ≡ Some y → problem_of now.fault ≡ thrown_anew (problem_of y) (problem_of s.fault) →
    now ≡ record s { stacks = v; fault = now.fault } → LeftUntil old now
one_more_left {H = H} old s now v h y so popped e anew is =
    let here : s.stacks.handlers ≡ h ∷ v.handlers = ap (λ (q : StacksView). q.handlers) popped in
    let there : now.stacks.handlers ≡ v.handlers = ap (λ (q : Run H). q.stacks.handlers) is in
    let before : s.stacks ≡ record old.stacks { handlers = s.stacks.handlers } =
    ap (λ (q : Run H). q.stacks) so.others in
    let stacks_are : now.stacks.handlers ≡ v.handlers →
    v ≡ record old.stacks { handlers = now.stacks.handlers } =
    λ e. stacks_back old.stacks s.stacks v h (sym popped ∙ before) ∙ rw e refl in
    record {
      same = λ m f w. so.same m f w
          ∙ (ap (λ (hs : List Handler). offered_to m (handlers_in hs) f (problem_of s.fault) w) here
          ∙ (left_one m h v.handlers f (problem_of s.fault) y w e ∙ rw (there, anew) refl));
      stands = rw there (stands_around old.stacks.handlers h v.handlers
          (rw here at so.stands));
      others = is ∙ (ap (λ (q : Run H). record q { stacks = v; fault = now.fault }) so.others
          ∙ ap (λ (q : StacksView). record old { stacks = q; fault = now.fault })
          (stacks_are there));
    }
