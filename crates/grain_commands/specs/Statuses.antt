-- What each status says of the words and of the source's bytes, what is written with it, and which
-- status is due.
use Rattle.std.specs.Prelude.{◌≡◌, ◌≤◌, ◌⊎◌, ◌++◌, ℕ, true, false, List, Option, Some, Ok, Err, IfSome}
use Rattle.grain_value.specs.declared.values.Dynamic.{Dynamic}
use Rattle.grain_fault.specs.Problems.{Problem}
use Rattle.grain_host.specs.Tables.{table_law}
use Rattle.grain_host.specs.declared.tables.TableHost.{TableHost}
use Rattle.grain_program.specs.Typing.{IsProgram, IsRefusal}
use Rattle.grain_program.specs.declared.verifier.refusals.Refusal.{Refusal}
use Rattle.grain_means.specs.Worlds.{Came, Failed}
use Rattle.grain_means.specs.Means.{Finish, Means}
use Rattle.grain_listing.specs.Reading.{ListingView, reads}
use Rattle.grain_commands.specs.Replies.{Counts, is_command, is_run, listing_for, tells_operations, usage_text, bad_line_text, refusal_text}
use Rattle.grain_commands.specs.Reports.{report_fault}
use Rattle.grain_commands.specs.Runs.{engine_of, start, value_text}
use Rattle.grain_streams.specs.Streams.{Rose, IsSpent, added, PartAdded}
use Rattle.grain_listing.specs.declared.reasons.BadLine.{BadLine}

-- the bytes are a listing whose parts are a program, and with the listing's limits, flags, scope and
-- host the program means this end
pub record RunEnds (bytes : List ℕ) (end : Finish TableHost) : Type 0 where
  pub set_up : ListingView
  pub said : reads bytes ≡ Ok set_up
  pub valid : IsProgram set_up.parts
  pub instructions : ℕ
  pub means : Means table_law set_up.parts
      (engine_of set_up.limits set_up.fast_operators set_up.strict_properties)
      (start set_up.scope set_up.host) end instructions

-- the bytes are a listing whose parts are no program: this is the first rule that they break
pub record IsRefused (bytes : List ℕ) (refusal : Refusal) : Type 0 where
  pub set_up : ListingView
  pub said : reads bytes ≡ Ok set_up
  pub invalid : IsProgram set_up.parts → ⊥
  pub first : IsRefusal set_up.parts refusal

-- What an answer of a status says. What it says of the source's bytes it says only if the source
-- says which they are.
pub record Says (words : List (List ℕ)) (input : Option (List ℕ)) (status : ℕ)
    (text : List ℕ) : Type 0 where
  pub known : status ≤ 4
  -- 2 exactly where the words are no command: the usage
  pub no_command : is_command words ≡ false → status ≡ 2
  pub usage : status ≡ 2 → (is_command words ≡ false) × (text ≡ usage_text)
  -- 0: the run ends in a value, and the text is what was printed and its report, or tells the operations
  pub value : status ≡ 0 → (v : Dynamic) × (end : Finish TableHost) × (end.answer ≡ Came v) ×
      IfSome (listing_for words input) (λ bytes. RunEnds bytes end) ×
      (text ≡ value_text (tells_operations words) end v)
  -- 1: the run ends in a fault, and the text is what was printed and its report
  pub fault : status ≡ 1 → (p : Problem) × (end : Finish TableHost) × (end.answer ≡ Failed p) ×
      IfSome (listing_for words input) (λ bytes. RunEnds bytes end) ×
      (text ≡ end.host.printed ++ report_fault p end.trace)
  -- 3: the bytes are no listing, and the text has the line and the reason
  pub no_listing : status ≡ 3 → (bad : BadLine) ×
      IfSome (listing_for words input) (λ bytes. reads bytes ≡ Err bad) ×
      (text ≡ bad_line_text bad)
  -- 4: the parts are refused, and the text has the address and the rule
  pub refused : status ≡ 4 → (refusal : Refusal) ×
      IfSome (listing_for words input) (λ bytes. IsRefused bytes refusal) ×
      (text ≡ refusal_text refusal)

-- what is written, by the status, if the sink says it
pub record Beside (words : List (List ℕ)) (input before now : Option (List ℕ)) (counts : Counts)
    (status : ℕ) : Type 0 where
  pub known : status ≤ 7
  -- 0 to 4: the answer's text, and nothing else
  pub whole : status ≤ 4 → (text : List ℕ) × Says words input status text ×
      (now ≡ added text before)
  -- 5: the words are `run` and the source failed; nothing is written
  pub source_failed : status ≡ 5 → (is_run words ≡ true) ×
      Rose counts.source_before counts.source_now × (now ≡ before)
  -- 6: the sink failed; of the text that would have been written its first bytes are, not all of
  -- them
  pub sink_failed : status ≡ 6 → Rose counts.sink_before counts.sink_now ×
      ((wanted : ℕ) × (text : List ℕ) × Says words input wanted text × PartAdded text before now)
  -- 7: memory was out; nothing is written
  pub no_memory : status ≡ 7 → now ≡ before

-- this status with exactly this text, or 7 with nothing written
abbrev pub Gives : ℕ → List ℕ → Option (List ℕ) → Option (List ℕ) → ℕ → Type 0
Gives due text before now status = ((status ≡ due) × (now ≡ added text before)) ⊎
    ((status ≡ 7) × (now ≡ before))

-- neither the source's nor the sink's count of faults rose
pub record NoneRose (counts : Counts) : Type 0 where
  pub source : Rose counts.source_before counts.source_now → ⊥
  pub sink : Rose counts.sink_before counts.sink_now → ⊥

-- Which status and text are due if no stream failed. Want of memory alone may stand in their place.
pub record Completes (words : List (List ℕ)) (input before now : Option (List ℕ)) (counts : Counts)
    (status : ℕ) : Type 0 where
  -- a run that ends in a value: 0, what was printed and its report, or the value and its operations
  pub value : is_command words ≡ true → NoneRose counts → (bytes : List ℕ) →
      listing_for words input ≡ Some bytes →
      (v : Dynamic) (end : Finish TableHost) → end.answer ≡ Came v → RunEnds bytes end →
      Gives 0 (value_text (tells_operations words) end v) before now status
  -- a run that ends in a fault: 1, what was printed and its report
  pub fault : is_command words ≡ true → NoneRose counts → (bytes : List ℕ) →
      listing_for words input ≡ Some bytes →
      (p : Problem) (end : Finish TableHost) → end.answer ≡ Failed p → RunEnds bytes end →
      Gives 1 (end.host.printed ++ report_fault p end.trace) before now status
  -- no command: 2 and the usage, whatever the source does
  pub usage : is_command words ≡ false → (Rose counts.sink_before counts.sink_now → ⊥) →
      Gives 2 usage_text before now status
  -- no listing: 3, the line and the reason
  pub no_listing : is_command words ≡ true → NoneRose counts → (bytes : List ℕ) →
      listing_for words input ≡ Some bytes →
      (bad : BadLine) → reads bytes ≡ Err bad →
      Gives 3 (bad_line_text bad) before now status
  -- no program: 4 and the first rule that is broken
  pub refused : is_command words ≡ true → NoneRose counts → (bytes : List ℕ) →
      listing_for words input ≡ Some bytes →
      (refusal : Refusal) → IsRefused bytes refusal →
      Gives 4 (refusal_text refusal) before now status

-- a source whose run ended was read to its end
abbrev pub IsReadThrough : List (List ℕ) → ℕ → Option (List ℕ) → Type 0
IsReadThrough words status left = is_run words ≡ true → status ≤ 1 → IsSpent left
