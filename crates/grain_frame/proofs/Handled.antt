-- Handlers that are pushed and popped, as a typing has them.
use Rattle.std.proofs.Common.{◌≡◌, ◌<◌, ◌+◌, ◌-◌, ℕ, List, [], ◌∷◌, Option, None, Ok, false, cond, nat_lt, inl, inr, length, refl, ap, arith}
use Rattle.std.proofs.lemmas.List.{length-map}
use Rattle.grain_program.specs.Shapes.{handled, lacks_handler}
use Rattle.grain_program.specs.declared.code.effects.Handling.TheVariants as handling
use Rattle.grain_program.specs.View.{View}
use Rattle.grain_host.specs.Law.{Law}
use Rattle.grain_global.specs.declared.engines.Engine.{Engine}
use Rattle.grain_global.specs.StepsView.{StepsView}
use Rattle.grain_stack.specs.Views.{StacksView}
use Rattle.grain_stack.specs.declared.handlers.Handler.{Handler}
use Rattle.grain_means.specs.Worlds.{Go, InFrame}
use Rattle.grain_means.specs.Worlds as worlds
use Rattle.grain_means.specs.Rules.{push_handler}
use Rattle.grain_means.specs.Means.{setup}
use Rattle.grain_means.specs.Simulation.{world}
use Rattle.grain_frame.specs.Abstraction.{Above, CanBegin, Implements, abstraction, cursor_in, cursors_in, frame_in, handler_in, handlers_in, marked_once, moment, moved, total_in, totals_in, tries_in}
use Rattle.grain_frame.specs.Handling.{armed, around}
use Rattle.grain_frame.specs.declared.activations.Activation.{Activation}
use Rattle.grain_frame.specs.declared.runs.Progress.TheVariants as progress
use Rattle.grain_frame.specs.declared.runs.Run.{Run}
use Rattle.grain_frame.specs.lemmas.Arms.{to_next}

-- one handler more
pub one_tried : {H : Type 0} (target : ℕ) (variable : Option ℕ) (s : Run H) →
    tries_in (armed target variable s ∷ s.stacks.handlers)
    ≡ handled (handling.Push target variable) (length s.stacks.operands - 0 + 0)
    (length s.stacks.cursors) (tries_in s.stacks.handlers)
one_tried target variable s =
    ap (λ (n : ℕ). handled (handling.Push target variable) n (length s.stacks.cursors)
    (tries_in s.stacks.handlers)) (omega arith)

-- the innermost goes
pub outer_tried : (height cursors : ℕ) (hs : List Handler) → tries_in (around hs)
    ≡ handled handling.Pop height cursors (tries_in hs)
outer_tried height cursors [] = refl
outer_tried height cursors (h ∷ hs) = refl

pub outer_above : (base : ℕ) (hs : List Handler) → Above base hs → Above base (around hs)
outer_above base [] a = tt
outer_above base (h ∷ hs) a = a.1

-- where one is not lacking, there is one
pub some_tried : (hs : List Handler) → lacks_handler handling.Pop (tries_in hs) ≡ false →
    0 < length hs
some_tried [] e = absurd cc
some_tried (h ∷ hs) e = omega arith

-- the meaning counts the cursors and the totals that the code has
armed_is : {H : Type 0} (target : ℕ) (variable : Option ℕ) (s : Run H) →
    record {
      target = target;
      variable = variable;
      operands = length s.stacks.operands;
      cursors = length (cursors_in s.stacks.cursors);
      totals = length (totals_in s.stacks.totals);
      scope = length s.scope;
      caught = None;
    } ≡ handler_in (armed target variable s)
armed_is target variable s =
    rw (length-map s.stacks.cursors cursor_in, length-map s.stacks.totals total_in) refl

-- a handler is pushed
pub pushes : {H : Type 0} (law : Law H) (p : View) (engine : Engine) (f : Activation) (s : Run H)
    (n : StepsView) (host : H) (target : ℕ) (variable : Option ℕ) (next : ℕ) (q : StacksView) →
    q ≡ record s.stacks { handlers = armed target variable s ∷ s.stacks.handlers } →
    CanBegin f s 0 0 next →
    Implements (setup law p engine) (moment f s n host)
    (λ m place w. push_handler m target variable next (frame_in f s place) w)
    (cond (nat_lt target next) (target ∷ next ∷ []) (next ∷ target ∷ [])) 0 0
    (armed target variable s ∷ s.stacks.handlers) (Ok progress.Continues)
    (moment (moved f next) (record s { stacks = q }) (marked_once n) host)
pushes law p engine f s n host target variable next q is ready = rw is (record {
  same = record {
    this = refl;
    order = omega arith;
    equal = λ stop clear halts u place. rw (clear n.passed (omega arith) (omega arith))
        (ap (λ (h : worlds.Handler). Go (InFrame (record (frame_in (moved f next) s place) {
          handlers = h ∷ handlers_in s.stacks.handlers;
        })) (record (world (abstraction s n host) u) { passed = n.passed + 1 }))
        (armed_is target variable s));
  };
  kept = record {
    chunk = refl;
    base = refl;
    scope = ready.inside;
    room = refl;
    noted = refl;
    outer = refl;
    saved = refl;
    level = refl;
    this = (refl, refl);
    later = omega arith;
  };
  lands = (
    to_next target next next (inl refl),
    omega arith,
    refl,
    inr (omega arith, ready.ahead),
    refl,
  );
  before = refl;
})
