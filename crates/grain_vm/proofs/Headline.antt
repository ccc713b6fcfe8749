-- A call that ends as the program means ends as the core program does.
use Rattle.std.proofs.Common.{◌≡◌, ℕ, Bool, true, Result, Ok, Err, subst}
use Rattle.grain_value.specs.declared.values.Dynamic.{Dynamic}
use Rattle.grain_fault.specs.Problems.{problem_of}
use Rattle.grain_fault.specs.declared.faults.EvalAltResult.{EvalAltResult}
use Rattle.grain_fault.specs.declared.faults.EvalAltResult.TheVariants as fault
use Rattle.grain_program.specs.Typing.{IsProgram}
use Rattle.grain_program.specs.View.{View}
use Rattle.grain_host.specs.Law.{Law}
use Rattle.grain_global.specs.declared.engines.Engine.{Engine}
use Rattle.grain_global.specs.Engines.{with_callbacks}
use Rattle.grain_means.specs.Worlds.{Answer, Came, Failed}
use Rattle.grain_means.specs.Means.{Begin, Evaluates, Finish, Means}
use Rattle.grain_means.specs.Core.{CoreMeans, EndsAsCore, IsCore}

-- there is at most one meaning
abbrev pub MeansOne : (S : Type 0) → Type 0
MeansOne S = (law : Law S) (program : View) (engine : Engine) (b : Begin S) (e f : Finish S)
    (n k : ℕ) → Means law program engine b e n → Means law program engine b f k → (e ≡ f) × (n ≡ k)

-- an end by the rules of the core is one by all rules
abbrev pub CoreIsMeant : (S : Type 0) → Type 0
CoreIsMeant S = (law : Law S) (program : View) (engine : Engine) (b : Begin S) (e : Finish S) →
    CoreMeans law program engine b e →
    (n : ℕ) × Means law program (with_callbacks true engine) b e n

-- and of a valid program of the core each end by all rules is one by those of the core
abbrev pub MeansCore : (S : Type 0) → Type 0
MeansCore S = (law : Law S) (program : View) (engine : Engine) (b : Begin S) (e : Finish S) →
    IsProgram program → IsCore program → (n : ℕ) →
    Means law program (with_callbacks true engine) b e n → CoreMeans law program engine b e

pub ends_as_core : {S : Type 0} → MeansOne S → CoreIsMeant S → MeansCore S → (law : Law S)
    (p : View) (engine : Engine) (b : Begin S) (r : Result Dynamic EvalAltResult)
    (finish : Answer → Finish S) (n : ℕ) (callbacks : Bool) → callbacks ≡ true → IsProgram p →
    IsCore p → Evaluates law p (with_callbacks callbacks engine) b r finish n →
    EndsAsCore law p engine b r finish
ends_as_core {S = S} one all of_core law p engine b r finish n callbacks called valid core h =
    by_answer r (subst (λ (x : Bool). Evaluates law p (with_callbacks x engine) b r finish n) called h) where
      same : (e : Finish S) (a : Answer) → Means law p (with_callbacks true engine) b (finish a) n →
          (k : ℕ) × Means law p (with_callbacks true engine) b e k → e ≡ finish a
      same e a h means =
          (one law p (with_callbacks true engine) b e (finish a) means.0 n means.1 h).0

      by_answer : (r : Result Dynamic EvalAltResult) →
          Evaluates law p (with_callbacks true engine) b r finish n →
          EndsAsCore law p engine b r finish
      by_answer (Ok v) h = record {
        ends = of_core law p engine b (finish (Came v)) valid core n h;
        complete = λ e means. same e (Came v) h (all law p engine b e means);
      }
      by_answer (Err fault.Memory) h = record { ends = tt; complete = λ e means. tt }
      by_answer (Err x) h = record {
        ends = of_core law p engine b (finish (Failed (problem_of x))) valid core n h;
        complete = λ e means. same e (Failed (problem_of x)) h (all law p engine b e means);
      }
