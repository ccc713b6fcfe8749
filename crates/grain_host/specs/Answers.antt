-- What a host's answer is by its law.
use Rattle.std.specs.Prelude.{ℕ, ◌≡◌, Option, Some, None, Result, Ok, Err}
use Rattle.grain_value.specs.declared.values.Dynamic.{Dynamic}
use Rattle.grain_fault.specs.Problems.{problem_of}
use Rattle.grain_fault.specs.declared.faults.EvalAltResult.{EvalAltResult}
use Rattle.grain_host.specs.Law.{Law, Reply, Done, Failed, Ask, Outcome, Value, Fault, GoOn, Stop, receiver_after, receiver_resumed}
use Rattle.grain_host.specs.declared.host_answers.Args.{Args}
use Rattle.grain_host.specs.declared.host_answers.HostAnswer.{HostAnswer}
use Rattle.grain_host.specs.declared.host_answers.HostAnswer.TheVariants as answer
use Rattle.grain_host.specs.declared.host_answers.ProgressAnswer.{ProgressAnswer}
use Rattle.grain_host.specs.declared.host_answers.ProgressAnswer.TheVariants as progress

-- the reply, the state afterwards and the receiver are the law's
abbrev pub Follows : {S : Type 0} → Law S → S → ℕ → Args → Reply → S → Args → Type 0
Follows law s key args reply t left =
    (reply ≡ law.call_reply s key args.receiver args.values)
    × (t ≡ law.call_after s key args.receiver args.values)
    × (left.receiver ≡ receiver_after law s key args.receiver args.values)

-- what a call answered, and what it left; where memory was out, nothing changed
abbrev pub Replies : {S : Type 0} → Law S → S → ℕ → Args → Option Reply → S → Args → Type 0
Replies law s key args (Some reply) t left = Follows law s key args reply t left
Replies law s key args None t left = (t ≡ s) × (left.receiver ≡ args.receiver)

-- the reply that an answer has; want of memory has none
abbrev pub reply_of : HostAnswer → Option Reply
reply_of (answer.Done v) = Some (Done v)
reply_of (answer.Failed f) = Some (Failed (problem_of f))
reply_of (answer.Ask token pointer arguments) = Some (Ask token pointer arguments)
reply_of answer.Memory = None

abbrev pub Answers : {S : Type 0} → Law S → S → ℕ → Args → HostAnswer → S → Args → Type 0
Answers law s key args answer t left = Replies law s key args (reply_of answer) t left

-- what came of what the host asked for
abbrev pub outcome_of : Result Dynamic EvalAltResult → Outcome
outcome_of (Ok v) = Value v
outcome_of (Err x) = Fault (problem_of x)

-- what the host answered where it heard of an outcome, and what it left; where memory was out, nothing
-- changed
abbrev pub Resumed : {S : Type 0} → Law S → S → ℕ → Outcome → Args → Option Reply → S → Args →
    Type 0
Resumed law s token outcome args (Some reply) t left =
    (reply ≡ law.resume_reply s token outcome args.receiver)
    × (t ≡ law.resume_after s token outcome args.receiver)
    × (left.receiver ≡ receiver_resumed law s token outcome args.receiver)
Resumed law s token outcome args None t left =
    (t ≡ s) × (left.receiver ≡ args.receiver)

abbrev pub Resumes : {S : Type 0} → Law S → S → ℕ → Result Dynamic EvalAltResult → Args →
    HostAnswer → S → Args → Type 0
Resumes law s token came args answer t left =
    Resumed law s token (outcome_of came) args (reply_of answer) t left

-- what the host said of a run's progress, and its state afterwards; where memory was out, nothing
-- changed
abbrev pub Hears : {S : Type 0} → Law S → S → ℕ → ProgressAnswer → S → Type 0
Hears law s count progress.GoOn t =
    (GoOn ≡ law.progress_reply s count) × (t ≡ law.progress_after s count)
Hears law s count (progress.Stop v) t =
    (Stop v ≡ law.progress_reply s count) × (t ≡ law.progress_after s count)
Hears law s count progress.Memory t = t ≡ s
