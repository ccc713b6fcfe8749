-- How a call of the program ends.
use Rattle.std.specs.Prelude.{◌≡◌, ◌⊎◌, ℕ, List, Option, Some, None}
use Rattle.grain_streams.specs.Streams.{Rose, added, PartAdded}
use Rattle.grain_streams.specs.Puts.{PutWhole, PutPart}
use Rattle.grain_streams.specs.declared.sinks.Put.{Put}
use Rattle.grain_addresses.specs.Queries.{queries_of}
use Rattle.grain_addresses.specs.Replies.{usage_text, status_due, text_due}
use Rattle.grain_addresses.specs.declared.queries.Query.{Query}

-- what a call does to a stream: which bytes were left or written before it and are now, if the
-- stream says it, and the counts of its faults
pub record Stream : Type 0 where
  pub before : Option (List ℕ)
  pub now : Option (List ℕ)
  pub faults_before : ℕ
  pub faults_now : ℕ

abbrev pub stream : Option (List ℕ) → Option (List ℕ) → ℕ → ℕ → Stream
stream before now faults_before faults_now = record {
  before = before;
  now = now;
  faults_before = faults_before;
  faults_now = faults_now;
}

-- the status and the text are those for the bytes of the source; if it does not say which they are,
-- for some bytes
abbrev pub IsDue : Option (List ℕ) → List Query → ℕ → List ℕ → Type 0
IsDue (Some bytes) qs status text = (status ≡ status_due bytes qs) × (text ≡ text_due bytes qs)
IsDue None qs status text =
    (bytes : List ℕ) × ((status ≡ status_due bytes qs) × (text ≡ text_due bytes qs))

-- how a call with addresses, or with none, ends
pub data Answered (qs : List Query) (source sink : Stream) : ℕ → Type 0 where
  -- the text that is due is written, and nothing else
  wrote : {status : ℕ} (text : List ℕ) → IsDue source.before qs status text →
      sink.now ≡ added text sink.before → Answered qs source sink status
  -- the source failed: its count rose, and nothing is written
  source_failed : Rose source.faults_before source.faults_now → sink.now ≡ sink.before →
      Answered qs source sink 5
  -- the sink failed: its count rose, and a part of the text that is due is written
  sink_failed : (status : ℕ) (text : List ℕ) → IsDue source.before qs status text →
      PartAdded text sink.before sink.now → Rose sink.faults_before sink.faults_now →
      Answered qs source sink 6
  -- memory was out, and nothing is written
  no_memory : sink.now ≡ sink.before → Answered qs source sink 7

-- how a call whose words are no addresses ends: the usage goes to the sink of errors
pub data Unanswered (errors : Stream) : ℕ → Type 0 where
  -- all of it is written
  usage_written : errors.now ≡ added usage_text errors.before → Unanswered errors 2
  -- the sink failed: its count rose, and a part of it is written
  usage_cut : PartAdded usage_text errors.before errors.now →
      Rose errors.faults_before errors.faults_now → Unanswered errors 6
  -- memory was out, and nothing is written
  usage_unmade : errors.now ≡ errors.before → Unanswered errors 7

-- how a call ends, by its words
pub data Ended (words : List (List ℕ)) (source sink errors : Stream) : ℕ → Type 0 where
  asked : {qs : List Query} {status : ℕ} → queries_of words ≡ Some qs →
      Answered qs source sink status → errors.now ≡ errors.before →
      Ended words source sink errors status
  not_asked : {status : ℕ} → queries_of words ≡ None → Unanswered errors status →
      sink.now ≡ sink.before → Ended words source sink errors status
  -- memory was out while the words were read
  words_unread : sink.now ≡ sink.before → errors.now ≡ errors.before →
      Ended words source sink errors 7

-- What a call with addresses, or with none, puts to the sink, by its status. The source held these
-- bytes, if it says which they are.
pub data AnswerHanded {K : Type 0} (puts : K → List ℕ → Put → K → Type 0) (qs : List Query)
    (input : Option (List ℕ)) (first last : K) : ℕ → Type 0 where
  -- all of the text that is due, and nothing else
  whole : {status : ℕ} (text : List ℕ) → IsDue input qs status text →
      PutWhole puts text first last → AnswerHanded puts qs input first last status
  -- a part of it: the sink failed
  part : (status : ℕ) (text : List ℕ) → IsDue input qs status text →
      PutPart puts text first last → AnswerHanded puts qs input first last 6
  -- nothing: the source failed, or memory was out
  nothing : {status : ℕ} → (status ≡ 5) ⊎ (status ≡ 7) → last ≡ first →
      AnswerHanded puts qs input first last status

-- what a call whose words are no addresses puts to the sink of errors, by its status
pub data UsageHanded {E : Type 0} (puts : E → List ℕ → Put → E → Type 0) (first last : E) :
    ℕ → Type 0 where
  usage_whole : PutWhole puts usage_text first last → UsageHanded puts first last 2
  usage_part : PutPart puts usage_text first last → UsageHanded puts first last 6
  usage_unput : last ≡ first → UsageHanded puts first last 7

-- What a call puts to its two sinks, by its words and its status. The puts are told by those of the
-- sink and by those of the sink of errors.
pub data Handed {K E : Type 0} (sink_puts : K → List ℕ → Put → K → Type 0)
    (error_puts : E → List ℕ → Put → E → Type 0) (words : List (List ℕ)) (input : Option (List ℕ))
    (sink_first sink_last : K) (errors_first errors_last : E) : ℕ → Type 0 where
  answer_handed : {qs : List Query} {status : ℕ} → queries_of words ≡ Some qs →
      AnswerHanded sink_puts qs input sink_first sink_last status →
      errors_last ≡ errors_first →
      Handed sink_puts error_puts words input sink_first sink_last errors_first errors_last status
  usage_handed : {status : ℕ} → queries_of words ≡ None →
      UsageHanded error_puts errors_first errors_last status → sink_last ≡ sink_first →
      Handed sink_puts error_puts words input sink_first sink_last errors_first errors_last status
  -- nothing: memory was out while the words were read
  none_handed : sink_last ≡ sink_first → errors_last ≡ errors_first →
      Handed sink_puts error_puts words input sink_first sink_last errors_first errors_last 7

-- the program was not given its words, so it reads nothing and writes nothing
pub record NoCall {S K E : Type 0} (source_before source_now : S) (sink_before sink_now : K)
    (errors_before errors_now : E) (status : ℕ) : Type 0 where
  pub source : source_now ≡ source_before
  pub sink : sink_now ≡ sink_before
  pub errors : errors_now ≡ errors_before
  pub number : status ≡ 9
