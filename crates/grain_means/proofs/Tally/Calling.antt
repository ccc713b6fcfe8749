-- The calls of functions by a chain: it calls each function to which its walk comes.
use Rattle.std.proofs.Common.{◌≡◌, ℕ, List, [], Option, Some, true, length, refl, inl, inr}
use Rattle.grain_value.specs.declared.values.Dynamic.{Dynamic}
use Rattle.grain_value.specs.declared.values.Held.{Held}
use Rattle.grain_fault.specs.Problems.{Problem, NoMemory}
use Rattle.grain_fault.specs.declared.places.Position.{Position}
use Rattle.grain_program.specs.Chains.{slot_of}
use Rattle.grain_program.specs.Decoding.{op_at}
use Rattle.grain_program.specs.Typing.{IsProgram}
use Rattle.grain_program.specs.declared.code.functions.Function.{Function}
use Rattle.grain_program.specs.declared.code.instruction_set.Op.{Op}
use Rattle.grain_means.specs.Worlds.{Act, Answer, Callback, Came, Failed, Place, Setup, World}
use Rattle.grain_means.specs.Ends.{Ends}
use Rattle.grain_means.specs.Rules.{frame_at, function_under, is_stop}
use Rattle.grain_means.specs.Causes.Positions.{BodyFails, CallsWith, ChainCallFails, ChainCalls, out_of_body, roots_for, this_for}
use Rattle.grain_means.specs.Causes.Spots.{ChainWalk, InvocationEnds, Invokes, WalkAsks, under_for, untraced}
use Rattle.grain_means.proofs.Standing.{Fitting}
use Rattle.grain_means.specs.Causes.{AsksFor, IsKeptOut}
use Rattle.grain_means.proofs.Tally.Bodies.{Begun, EndsIn, enters, even_under, run, wrapped}
use Rattle.grain_means.proofs.Tally.Faults.{blames_step}
use Rattle.grain_means.proofs.Tally.Frames.{Even, ReasonAt, SteadyBut, Walk, point}

module _ {S : Type 0} {m : Setup S} (walk : Walk m) where
  -- The chain of this index, which is the instruction, calls the function at this step, on these arguments,
  -- under this `this`, at this position, and in this world; and where a fault is the end of that, the call
  -- ends with it.
  abbrev pub CalledAt : Op → ℕ → ℕ → Function → List Held → Option Place → Position → World S →
      (Problem → World S → Type 0) → Type 0
  CalledAt o index step g args this q w IsEnd =
      (calls : ChainCalls m g args this q w (point walk o)) × (calls.index ≡ index)
      × (calls.step ≡ step) × ((x : Problem) (u : World S) → IsEnd x u → ChainCallFails calls x)

  -- a function to which the walk of a chain of this index comes is called by the chain, at the same step
  abbrev pub CallsOf : Op → ℕ → ChainWalk S → Type 0
  CallsOf o index s = (j : ℕ) (at : Invokes m s j) (this : Option Place) (w : World S) →
      this ≡ this_for at.world.roots (under_for m s at.call) →
      w ≡ record at.world { trace = []; roots = roots_for at.world.roots (under_for m s at.call) } →
      CalledAt o index j at.function at.arguments this at.call.position w
      (λ x u. InvocationEnds m at.call (under_for m s at.call) (untraced at.world) (Failed x) u)

  -- so it is, and the chain asks for each call that its walk asks for
  abbrev pub ByChain : Op → ℕ → ChainWalk S → Type 0
  ByChain o index s = CallsOf o index s
      × ((d : Callback) (v : World S) → WalkAsks m s d v → AsksFor m (point walk o) d v)

  -- A chain, by an instruction that stands where the frame does. Its walk calls the function g on these
  -- arguments, at this position and under this `this`, in a world, after r instructions.
  module _ (o : Op) (width : ℕ)
      (stands : op_at m.program.code walk.frame.address ≡ Some (o, width))
      (q : Position) (g : Function) (args : List Held) (this : Option Place)
      (w : World S) (calls : ChainCalls m g args this q w (point walk o))
      (fits : IsProgram m.program → Fitting m.program (frame_at g.chunk 0 this))
      (away : Option ℕ) (r : ℕ) (s : SteadyBut walk away r w) (t : w.trace ≡ [])
    where
      -- the slot of the step that calls
      abbrev slot : Option ℕ
      slot = Some (slot_of m.program calls.index calls.step)

      abbrev called : CallsWith m g args this q w (point walk o)
      called = inr (inl calls)

      -- the body ended with a fault, and so the call did
      abbrev body_fails : Begun walk o width stands q g args this w called fits away r s t → (x y : Problem) →
          EndsIn walk o width stands q g args this w called fits away r s t x
          (run walk o width stands q g args this w called fits away r s t) → ChainCallFails calls y →
          y ≡ out_of_body m.program q g x → BodyFails m (point walk o) calls.step y
      body_fails begun x y ends fails is = record {
        function = g;
        inner = x;
        enters = enters walk o width stands q g args this w called fits away r s t begun
            (EndsIn walk o width stands q g args this w called fits away r s t x) ends;
        calls = calls;
        step = refl;
        fails = fails;
        is = is;
      }

      -- What follows from the answer, beside what else may follow from it, as in `even_under`.
      pub even_by_chain : (heard said : Answer → World S → Act S) →
          ((u : World S) (n : ℕ) → is_stop m.stop u.passed ≡ true → SteadyBut walk away n u →
          Even walk n (heard (Failed NoMemory) u)) →
          ((x : Problem) (u : World S) (n : ℕ) → ReasonAt walk slot x → SteadyBut walk away n u →
          Even walk n (heard (Failed x) u)) →
          ((d : Dynamic) (u : World S) (n : ℕ) → ((a : Answer) (v : World S) →
          Ends m (said (Came d) u) a v → Ends m (function_under m q g args said this w) a v) →
          SteadyBut walk away n u → u.trace ≡ [] → Even walk n (heard (Came d) u)) →
          ((x : Problem) → IsKeptOut m q (length g.params) w x → ReasonAt walk slot x) →
          ((x : Problem) (u : World S) → ((a : Answer) (v : World S) →
          Ends m (said (Failed x) u) a v → Ends m (function_under m q g args said this w) a v) →
          ChainCallFails calls x) →
          Even walk r (function_under m q g args heard this w)
      even_by_chain heard said out fault value kept_out fails_so =
          even_under walk o width stands q g args this w called fits away r s t slot (ChainCallFails calls)
          (λ begun x y ends fails is. blames_step walk o width stands calls.index calls.step y calls.is
          (inr (inl (body_fails begun x y ends fails is))))
          (λ begun x ends fails is. (
            walk.level,
            inr (inl (
              calls.step,
              body_fails begun x (wrapped walk o width stands q g args this w called fits away r s t x)
                  ends fails is,
              refl,
            )),
          )) heard said (λ u n stop at. out u n stop at.0) (λ x u n because at. fault x u n because at.0)
          (λ d u n whole at empty. value d u n whole at.0 empty) kept_out fails_so
