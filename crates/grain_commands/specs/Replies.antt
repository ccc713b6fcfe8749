-- What the program answers: a status and a text.
use Rattle.std.specs.Prelude.{◌≡◌, ◌⊎◌, ◌||◌, ℕ, Bool, true, false, List, [], ◌∷◌, ◌++◌, Option, Some, None, is_some, Result, Ok, Err, IfSome, codes, bytes_eq}
use Rattle.std.specs.Fmt.{decimal}
use Rattle.grain_program.specs.Refusals.{refusal_name}
use Rattle.grain_program.specs.Rules.{address_of}
use Rattle.grain_program.specs.Typing.{IsProgram, IsRefusal}
use Rattle.grain_program.specs.declared.verifier.refusals.Refusal.{Refusal}
use Rattle.grain_literals.specs.Reasons.{reason_text}
use Rattle.grain_listing.specs.Reading.{ListingView, reads}
use Rattle.grain_streams.specs.Puts.{PutWhole, PutPart}
use Rattle.grain_commands.specs.Reports.{line_end}
use Rattle.grain_commands.specs.Runs.{Reported, engine_of, start}
use Rattle.grain_commands.specs.SelfListings.{self_listing, self_number}
use Rattle.grain_streams.specs.Streams.{Rose, added, PartAdded}
use Rattle.grain_streams.specs.declared.sinks.Put.{Put}
use Rattle.grain_listing.specs.declared.reasons.BadLine.{BadLine}

-- the command `run` is that one word
abbrev pub is_run : List (List ℕ) → Bool
is_run (w ∷ []) = bytes_eq w (codes "run")
is_run ws = false

-- the words are `self` and a number: then the operations are told
abbrev pub tells_operations : List (List ℕ) → Bool
tells_operations words = is_some (self_number words)

-- the commands so far are these two
abbrev pub is_command : List (List ℕ) → Bool
is_command words = is_run words || tells_operations words

abbrev made_or_held : Option ℕ → Option (List ℕ) → Option (List ℕ)
made_or_held None input = input
made_or_held (Some n) input = Some (self_listing n)

-- what a command runs: the listing that it makes, or else what the source holds, if the source says it
abbrev pub listing_for : List (List ℕ) → Option (List ℕ) → Option (List ℕ)
listing_for words input = made_or_held (self_number words) input

abbrev pub usage_text : List ℕ
usage_text = codes "usage: run, check, list or self N" ++ line_end

-- the first line that is wrong, and why
abbrev pub bad_line_text : BadLine → List ℕ
bad_line_text bad =
    codes "listing line " ++ decimal bad.line ++ codes ": " ++ reason_text bad.reason ++ line_end

abbrev pub refusal_text : Refusal → List ℕ
refusal_text r =
    codes "refused at " ++ decimal (address_of r) ++ codes ": " ++ refusal_name r ++ line_end

-- what is answered to what the bytes read to
pub data Replies (told : Bool) (said : Result ListingView BadLine) : ℕ → List ℕ → Type 0 where
  -- it is no listing
  no_listing : {bad : BadLine} → said ≡ Err bad → Replies told said 3 (bad_line_text bad)
  -- its parts are no program
  refused : {s : ListingView} {r : Refusal} → said ≡ Ok s → (IsProgram s.parts → ⊥) →
      IsRefusal s.parts r → Replies told said 4 (refusal_text r)
  -- its program is run
  reported : {s : ListingView} {status : ℕ} {text : List ℕ} → said ≡ Ok s → IsProgram s.parts →
      Reported told s.parts (engine_of s.limits s.fast_operators s.strict_properties)
      (start s.scope s.host) status text →
      Replies told said status text

-- what is answered to the words and to the bytes of the source, if it says them
pub data Answers (words : List (List ℕ)) (input : Option (List ℕ)) : ℕ → List ℕ → Type 0 where
  -- the words are no command
  no_command : is_command words ≡ false → Answers words input 2 usage_text
  -- the words are a command, and a source that is read was read to its end
  replied : {said : Result ListingView BadLine} {status : ℕ} {text : List ℕ} →
      is_command words ≡ true → IfSome (listing_for words input) (λ bytes. reads bytes ≡ said) →
      Replies (tells_operations words) said status text → Answers words input status text

-- the counts of faults of a source and of a sink, before a call and after it
pub record Counts : Type 0 where
  pub source_before : ℕ
  pub source_now : ℕ
  pub sink_before : ℕ
  pub sink_now : ℕ

abbrev pub counts_of : ℕ → ℕ → ℕ → ℕ → Counts
counts_of source_before source_now sink_before sink_now = record {
  source_before = source_before;
  source_now = source_now;
  sink_before = sink_before;
  sink_now = sink_now;
}

-- how a call of the program ends: with a status, and with what is written, before and after it
pub data Ended (words : List (List ℕ)) (input before now : Option (List ℕ)) (counts : Counts) :
    ℕ → Type 0 where
  -- the answer's text is written, and nothing else
  wrote : {status : ℕ} {text : List ℕ} → Answers words input status text →
      now ≡ added text before →
      Ended words input before now counts status
  -- the source failed: its count rose, and nothing is written
  source_failed : is_run words ≡ true → Rose counts.source_before counts.source_now → now ≡ before →
      Ended words input before now counts 5
  -- the sink failed: its count rose, and a part of the answer's text is written
  sink_failed : {status : ℕ} {text : List ℕ} → Answers words input status text →
      PartAdded text before now → Rose counts.sink_before counts.sink_now →
      Ended words input before now counts 6
  -- memory was out, and nothing is written
  no_memory : now ≡ before → Ended words input before now counts 7

-- What a call puts to the sink, by its status.
pub data Handed {S : Type 0} (puts : S → List ℕ → Put → S → Type 0) (words : List (List ℕ))
    (input : Option (List ℕ)) (first last : S) : ℕ → Type 0 where
  -- all of the answer's text, and nothing else
  whole : {status : ℕ} {text : List ℕ} → Answers words input status text →
      PutWhole puts text first last → Handed puts words input first last status
  -- a part of it: the sink failed
  part : {status : ℕ} {text : List ℕ} → Answers words input status text →
      PutPart puts text first last → Handed puts words input first last 6
  -- nothing: the source failed, or memory was out
  nothing : {status : ℕ} → (status ≡ 5) ⊎ (status ≡ 7) → last ≡ first →
      Handed puts words input first last status
