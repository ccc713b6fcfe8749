-- What an ended call says, and which status was due in it.
use Rattle.std.proofs.Common.{◌≡◌, ◌++◌, inl, inr, ℕ, Bool, true, false, List, Option, Some, Result, Ok, Err, IfSome, refl, sym, ap, ◌∙◌, subst}
use Rattle.grain_host.specs.Tables.{table_law}
use Rattle.grain_host.specs.declared.tables.TableHost.{TableHost}
use Rattle.grain_program.specs.View.{View}
use Rattle.grain_program.specs.Typing.{IsProgram, IsRefusal}
use Rattle.grain_program.specs.declared.verifier.refusals.Refusal.{Refusal}
use Rattle.grain_global.specs.declared.engines.Engine.{Engine}
use Rattle.grain_means.specs.Worlds.{Answer, Came, Failed}
use Rattle.grain_means.specs.Means.{Begin, Finish, Means}
use Rattle.grain_listing.specs.Reading.{ListingView, reads}
use Rattle.grain_commands.specs.Replies.{Counts, Replies, no_listing, refused, reported, Answers, no_command, replied, Ended, wrote, source_failed, sink_failed, no_memory, is_command, is_run, listing_for, tells_operations, usage_text, bad_line_text, refusal_text}
use Rattle.grain_commands.specs.Reports.{report_fault}
use Rattle.grain_commands.specs.Runs.{Reported, answer_text, engine_of, start, status_of, value_text}
use Rattle.grain_commands.specs.Statuses.{RunEnds, Gives, Completes}
use Rattle.grain_commands.proofs.Commanding.{no_run}
use Rattle.grain_streams.specs.Streams.{Rose, added}
use Rattle.grain_listing.specs.declared.reasons.BadLine.{BadLine}

-- a program means one end
abbrev pub MeansOne : Type 0
MeansOne =
    (program : View) (engine : Engine) (b : Begin TableHost) (e f : Finish TableHost) (n k : ℕ) →
    Means table_law program engine b e n → Means table_law program engine b f k → (e ≡ f) × (n ≡ k)

-- parts have one refusal
abbrev pub RefusedOnce : Type 0
RefusedOnce = (p : View) (r s : Refusal) → IsRefusal p r → IsRefusal p s → r ≡ s

-- a listing says one thing
pub same_set_up : (said : Result ListingView BadLine) (s t : ListingView) → said ≡ Ok s →
    said ≡ Ok t → t ≡ s
same_set_up said s t one other = cc

-- the end that is reported is the end that the program means
same_report : MeansOne → (told : Bool) (s : ListingView) (end : Finish TableHost) (n status : ℕ)
    (text : List ℕ) →
    Means table_law s.parts (engine_of s.limits s.fast_operators s.strict_properties)
    (start s.scope s.host) end n →
    Reported told s.parts (engine_of s.limits s.fast_operators s.strict_properties)
    (start s.scope s.host) status text →
    (status ≡ status_of end.answer) × (text ≡ answer_text told end end.answer)
same_report law told s end n status text means ends =
    let one = law s.parts (engine_of s.limits s.fast_operators s.strict_properties)
    (start s.scope s.host) end ends.end n ends.instructions means ends.means in (
      ends.number ∙ ap (λ (x : Finish TableHost). status_of x.answer) (sym one.0),
      ends.written ∙ ap (λ (x : Finish TableHost). answer_text told x x.answer) (sym one.0),
    )

same_end : MeansOne → (told : Bool) (said : Result ListingView BadLine) (s : ListingView)
    (end : Finish TableHost)
    (n status : ℕ)
    (text : List ℕ) → said ≡ Ok s → IsProgram s.parts →
    Means table_law s.parts (engine_of s.limits s.fast_operators s.strict_properties)
    (start s.scope s.host) end n →
    Replies told said status text →
    (status ≡ status_of end.answer) × (text ≡ answer_text told end end.answer)
same_end law told said s end n status text is valid means (no_listing e) = absurd cc
same_end law told said s end n status text is valid means (refused {s = t} e invalid first) =
    absurd (invalid (subst (λ (x : ListingView). IsProgram x.parts) (same_set_up said t s e is) valid))
same_end law told said s end n status text is valid means (reported {s = t} e v h) =
    same_report law told s end n status text means
    (subst (λ (x : ListingView). Reported told x.parts
    (engine_of x.limits x.fast_operators x.strict_properties)
    (start x.scope x.host) status text)
    (same_set_up said s t is e) h)

same_reason : (told : Bool) (said : Result ListingView BadLine) (bad : BadLine) (status : ℕ) (text : List ℕ) →
    said ≡ Err bad → Replies told said status text → (status ≡ 3) × (text ≡ bad_line_text bad)
same_reason told said bad status text is (no_listing {bad = r} e) =
    let one : r ≡ bad = cc in
    (refl, ap bad_line_text one)
same_reason told said bad status text is (refused e invalid first) = absurd cc
same_reason told said bad status text is (reported e v h) = absurd cc

same_refusal : RefusedOnce → (told : Bool) (said : Result ListingView BadLine) (s : ListingView)
    (r : Refusal) (status : ℕ)
    (text : List ℕ) → said ≡ Ok s → (IsProgram s.parts → ⊥) → IsRefusal s.parts r →
    Replies told said status text → (status ≡ 4) × (text ≡ refusal_text r)
same_refusal law told said s r status text is invalid first (no_listing e) = absurd cc
same_refusal law told said s r status text is invalid first (refused {s = t} {r = q} e other h) =
    let same : IsRefusal s.parts q = subst (λ (x : ListingView). IsRefusal x.parts q)
    (same_set_up said s t is e) h in
    (refl, ap refusal_text (law s.parts q r same first))
same_refusal law told said s r status text is invalid first (reported {s = t} e v h) =
    absurd (invalid (subst (λ (x : ListingView). IsProgram x.parts) (same_set_up said s t is e) v))

-- each answer has this status and this text
abbrev OnlyAnswer : List (List ℕ) → Option (List ℕ) → ℕ → List ℕ → Type 0
OnlyAnswer words input due wanted = (status : ℕ) (text : List ℕ) → Answers words input status text →
    (status ≡ due) × (text ≡ wanted)

-- where no stream failed, the only answer was given
given : (words : List (List ℕ)) (input before now : Option (List ℕ)) (counts : Counts)
    (status due : ℕ) (wanted : List ℕ) → OnlyAnswer words input due wanted →
    (is_run words ≡ true → Rose counts.source_before counts.source_now → ⊥) →
    (Rose counts.sink_before counts.sink_now → ⊥) →
    Ended words input before now counts status → Gives due wanted before now status
given words input before now counts status due wanted only source sink
    (wrote {status = number} {text} a w) =
    let one = only status text a in
    inl (one.0, w ∙ ap (λ x. added x before) one.1)
given words input before now counts status due wanted only source sink
    (source_failed command rose w) = absurd (source command rose)
given words input before now counts status due wanted only source sink (sink_failed a part rose) =
    absurd (sink rose)
given words input before now counts status due wanted only source sink (no_memory w) = inr (refl, w)

-- the told bytes say what was said
said_of : (input : Option (List ℕ)) (bytes : List ℕ) (said wanted : Result ListingView BadLine) →
    input ≡ Some bytes → reads bytes ≡ wanted → IfSome input (λ b. reads b ≡ said) →
    said ≡ wanted
said_of input bytes said wanted told is h = sym
    (subst (λ (o : Option (List ℕ)). IfSome o (λ b. reads b ≡ said)) told h) ∙ is

-- an answer to a command is a reply to what the bytes say
only_reply : (words : List (List ℕ)) (input : Option (List ℕ)) (bytes : List ℕ)
    (wanted : Result ListingView BadLine) (due : ℕ) (text : List ℕ) → is_command words ≡ true →
    listing_for words input ≡ Some bytes →
    reads bytes ≡ wanted → ((said : Result ListingView BadLine) (n : ℕ) (t : List ℕ) → said ≡ wanted →
    Replies (tells_operations words) said n t → (n ≡ due) × (t ≡ text)) → OnlyAnswer words input due text
only_reply words input bytes wanted due text command told is only status t (no_command none) =
    absurd cc
only_reply words input bytes wanted due text command told is only status t
    (replied {said} is_command h reply) =
    only said status t (said_of (listing_for words input) bytes said wanted told is h) reply

only_usage : (words : List (List ℕ)) (input : Option (List ℕ)) → is_command words ≡ false →
    OnlyAnswer words input 2 usage_text
only_usage words input none status text (no_command other) = (refl, refl)
only_usage words input none status text (replied is_command h reply) = absurd cc

only_end : MeansOne → (words : List (List ℕ)) (input : Option (List ℕ)) (bytes : List ℕ)
    (end : Finish TableHost) → is_command words ≡ true → listing_for words input ≡ Some bytes →
    RunEnds bytes end →
    OnlyAnswer words input (status_of end.answer) (answer_text (tells_operations words) end end.answer)
only_end law words input bytes end command told run =
    only_reply words input bytes (Ok run.set_up) (status_of end.answer)
    (answer_text (tells_operations words) end end.answer) command told run.said
    (λ said n t is reply. same_end law (tells_operations words) said run.set_up end run.instructions n t is
    run.valid run.means reply)

-- the answer alone is the end's, by its trace
end_at : (told : Bool) (end : Finish TableHost) (a : Answer) → end.answer ≡ a →
    (status_of end.answer ≡ status_of a) ×
    (answer_text told end end.answer ≡ answer_text told end a)
end_at told end a is = (ap status_of is, ap (answer_text told end) is)

only_at : (words : List (List ℕ)) (input : Option (List ℕ)) (end : Finish TableHost) (a : Answer) →
    end.answer ≡ a →
    OnlyAnswer words input (status_of end.answer) (answer_text (tells_operations words) end end.answer) →
    OnlyAnswer words input (status_of a) (answer_text (tells_operations words) end a)
only_at words input end a is only status text answers =
    let one = only status text answers in
    let at = end_at (tells_operations words) end a is in
    (one.0 ∙ at.0, one.1 ∙ at.1)

pub completed : MeansOne → RefusedOnce → (words : List (List ℕ))
    (input before now : Option (List ℕ)) (counts : Counts) (status : ℕ) →
    Ended words input before now counts status → Completes words input before now counts status
completed means refuses words input before now counts status ended = record {
  value = λ command none bytes told v end is run.
      given words input before now counts status 0 (value_text (tells_operations words) end v)
      (only_at words input end (Came v) is
      (only_end means words input bytes end command told run))
      (λ _. none.source) none.sink ended;
  fault = λ command none bytes told p end is run.
      given words input before now counts status 1 (end.host.printed ++ report_fault p end.trace)
      (only_at words input end (Failed p) is
      (only_end means words input bytes end command told run))
      (λ _. none.source) none.sink ended;
  usage = λ none sink. given words input before now counts status 2 usage_text
      (only_usage words input none) (λ command rose. absurd (no_run words none command)) sink ended;
  no_listing = λ command none bytes told bad is.
      given words input before now counts status 3 (bad_line_text bad)
      (only_reply words input bytes (Err bad) 3 (bad_line_text bad) command told is
      (λ said n t e reply. same_reason (tells_operations words) said bad n t e reply))
      (λ _. none.source) none.sink ended;
  refused = λ command none bytes told refusal h.
      given words input before now counts status 4 (refusal_text refusal)
      (only_reply words input bytes (Ok h.set_up) 4 (refusal_text refusal) command told h.said
      (λ said n t e reply. same_refusal refuses (tells_operations words) said h.set_up refusal n t e
      h.invalid h.first reply))
      (λ _. none.source) none.sink ended;
}
