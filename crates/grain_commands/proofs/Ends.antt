-- A call of the machine, as the end that the program means.
use Rattle.std.proofs.Common.{◌≡◌, ◌≢◌, ◌++◌, ℕ, Bool, true, List, Result, Ok, Err, IfOk, refl, sym, ap, subst, ◌∙◌}
use Rattle.grain_value.specs.declared.memory.OutOfMemory.{OutOfMemory}
use Rattle.grain_value.specs.declared.values.Dynamic.{Dynamic}
use Rattle.grain_value.specs.declared.values.Limits.{Limits}
use Rattle.grain_fault.specs.Problems.{Problem, NoMemory, problem_of}
use Rattle.grain_fault.specs.declared.traces.Fault.{Fault}
use Rattle.grain_fault.specs.declared.faults.EvalAltResult.{EvalAltResult}
use Rattle.grain_fault.specs.declared.faults.EvalAltResult.TheVariants as faults
use Rattle.grain_host.specs.Tables.{table_law}
use Rattle.grain_host.specs.declared.tables.TableHost.{TableHost}
use Rattle.grain_program.specs.View.{View}
use Rattle.grain_global.specs.Engines.{with_callbacks}
use Rattle.grain_global.specs.declared.engines.Engine.{Engine}
use Rattle.grain_means.specs.Worlds.{Answer, Came, Failed}
use Rattle.grain_means.specs.Means.{Begin, Finish, Means, Evaluates}
use Rattle.grain_commands.specs.Reports.{report_fault}
use Rattle.grain_commands.specs.Runs.{Reported, answer_text, engine_of, status_of, value_text}
use Rattle.grain_commands.specs.declared.replies.Reply.{Reply}

-- a fault other than want of memory is the end that the program means
meant : (p : View) (e : Engine) (b : Begin TableHost) (x : EvalAltResult) (finish : Answer →
    Finish TableHost) (ran : ℕ) → x ≢ faults.Memory → Evaluates table_law p e b (Err x) finish ran →
    Means table_law p e b (finish (Failed (problem_of x))) ran
meant p e b faults.Memory finish ran other h = absurd (other refl)
meant p e b x finish ran other h = h

no_want : (x : EvalAltResult) → x ≢ faults.Memory → Failed (problem_of x) ≢ Failed NoMemory
no_want faults.Memory other e = absurd (other refl)
no_want x other e = cc

no_value : (v : Dynamic) → Came v ≢ Failed NoMemory
no_value v e = cc

-- an end, by its answer
abbrev pub EndsAs : (Answer → Finish TableHost) → List ℕ → List Fault → Type 0
EndsAs finish printed trace = (a : Answer) → ((finish a).answer ≡ a) ×
    ((finish a).trace ≡ trace) × ((finish a).host.printed ≡ printed)

-- an engine whose flags are written, where natives may call functions back
pub engine_is : (e : Engine) (l : Limits) (fast strict : Bool) → e.limits ≡ l →
    with_callbacks true (record e { fast_operators = fast; strict_properties = strict })
    ≡ engine_of l fast strict
engine_is e l fast strict limits = ap (λ (x : Limits). engine_of x fast strict) limits

-- an end under this engine and from this beginning is one under what is equal to them
pub reported_as : (told : Bool) (p : View) (e under : Engine) (b first : Begin TableHost)
    (r : Result Reply OutOfMemory) → e ≡ under → b ≡ first →
    IfOk r (λ x. Reported told p e b x.status x.text) →
    IfOk r (λ x. Reported told p under first x.status x.text)
reported_as told p e under b first r engine begun h =
    subst (λ (y : Begin TableHost). IfOk r (λ x. Reported told p under y x.status x.text)) begun
    (subst (λ (y : Engine). IfOk r (λ x. Reported told p y b x.status x.text)) engine h)

pub value_told : (told : Bool) (p : View) (under : Engine) (first : Begin TableHost) (v : Dynamic)
    (e : Engine) (b : Begin TableHost) (finish : Answer → Finish TableHost) (ran : ℕ)
    (r : Result Reply OutOfMemory) → e ≡ under → b ≡ first → (finish (Came v)).answer ≡ Came v →
    Evaluates table_law p e b (Ok v) finish ran →
    IfOk r (λ x. x.status ≡ 0) →
    IfOk r (λ x. x.text ≡ value_text told (finish (Came v)) v) →
    IfOk r (λ x. Reported told p under first x.status x.text)
value_told told p under first v e b finish ran (Err m) engine begun is h status text = tt
value_told told p under first v e b finish ran (Ok x) engine begun is h status text = record {
  end = finish (Came v);
  instructions = ran;
  means = rw (engine, begun) at h;
  number = status ∙ ap status_of (sym is);
  written = text ∙ ap (answer_text told (finish (Came v))) (sym is);
  memory = λ none. no_value v (sym is ∙ none);
}

-- the text of an end in a fault
fault_written : (told : Bool) (end : Finish TableHost) (printed : List ℕ) (p : Problem)
    (trace : List Fault) → end.answer ≡ Failed p → end.trace ≡ trace → end.host.printed ≡ printed →
    printed ++ report_fault p trace ≡ answer_text told end end.answer
fault_written told end printed p trace answer left text =
    ap (λ (x : List ℕ). x ++ report_fault p trace) (sym text) ∙
    ap (λ (x : List Fault). end.host.printed ++ report_fault p x) (sym left) ∙
    ap (answer_text told end) (sym answer)

pub fault_told : (told : Bool) (p : View) (under : Engine) (first : Begin TableHost) (f : EvalAltResult)
    (e : Engine)
    (b : Begin TableHost) (finish : Answer → Finish TableHost) (printed : List ℕ)
    (trace : List Fault) (ran : ℕ)
    (r : Result Reply OutOfMemory) → e ≡ under → b ≡ first →
    EndsAs finish printed trace → Evaluates table_law p e b (Err f) finish ran →
    IfOk r (λ x. x.status ≡ 1) →
    IfOk r (λ x. x.text ≡ printed ++ report_fault (problem_of f) trace) →
    IfOk r (λ x. f ≢ faults.Memory) →
    IfOk r (λ x. Reported told p under first x.status x.text)
fault_told told p under first f e b finish printed trace ran (Err m) engine begun ends h status text
    other = tt
fault_told told p under first f e b finish printed trace ran (Ok x) engine begun ends h status text
    other =
    let is = ends (Failed (problem_of f)) in
    let means = meant p e b f finish ran other h in
    record {
      end = finish (Failed (problem_of f));
      instructions = ran;
      means = rw (engine, begun) at means;
      number = status ∙ ap status_of (sym is.0);
      written = text ∙ fault_written told (finish (Failed (problem_of f))) printed (problem_of f) trace
          is.0 is.1 is.2;
      memory = λ none. no_want f other (sym is.0 ∙ none);
    }
