-- Sources and sinks in memory: what clauses see of them, what their next call answers, and what it
-- leaves.
use Rattle.std.specs.Prelude.{ℕ, ◌-◌, min, Bool, List, ◌++◌, length, take, drop, ◌==◌, ◌&&◌, ◌||◌, nat_lt, if◌then◌else◌}
use Rattle.std.specs.List.{list_any}
use Rattle.grain_streams.specs.Streams.{one_more, faults_after, read_failed, put_failed}
use Rattle.grain_streams.specs.declared.sources.Read.{Read}
use Rattle.grain_streams.specs.declared.sources.Read.TheVariants.{Got, End, Failed}
use Rattle.grain_streams.specs.declared.sinks.Put.{Put}
use Rattle.grain_streams.specs.declared.sinks.Put.TheVariants as put

-- a source: the bytes that are left, the numbers of the calls that fail, and how many calls and
-- faults there were
pub record SourceView : Type 0 where
  pub left : List ℕ
  pub failing : List ℕ
  pub calls : ℕ
  pub faults : ℕ

-- a sink: the bytes that were written, how many still fit, the numbers of the calls that fail, and
-- how many calls and faults there were
pub record SinkView : Type 0 where
  pub written : List ℕ
  pub room : ℕ
  pub failing : List ℕ
  pub calls : ℕ
  pub faults : ℕ

-- the call after this many calls fails: its number is among these. The first call has the number 1.
abbrev pub is_failing : List ℕ → ℕ → Bool
is_failing failing calls = list_any (λ n. n == one_more calls) failing

-- what the next read of a slice of this length answers
abbrev pub next_read : SourceView → ℕ → Read
next_read s room =
    if is_failing s.failing s.calls then Failed
    else (if (length s.left == 0) && nat_lt 0 room then End
    else Got (min (length s.left) room))

-- how many bytes a read got
abbrev pub bytes_got : Read → ℕ
bytes_got (Got n) = n
bytes_got answer = 0

-- the source after a read with this answer
abbrev pub after_read : SourceView → Read → SourceView
after_read s answer = record {
  left = drop (bytes_got answer) s.left;
  failing = s.failing;
  calls = one_more s.calls;
  faults = faults_after (read_failed answer) s.faults;
}

-- what the next put of a piece of this length answers: it fails where its number says so, or where
-- the piece has bytes and no room is left
abbrev pub next_put : SinkView → ℕ → Put
next_put s bytes =
    if is_failing s.failing s.calls || (nat_lt 0 bytes && (s.room == 0)) then put.Failed
    else put.Took (min s.room bytes)

-- how many bytes a put took
abbrev pub bytes_taken : Put → ℕ
bytes_taken (put.Took n) = n
bytes_taken put.Failed = 0

-- the sink after a put of this piece with this answer
abbrev pub after_put : SinkView → List ℕ → Put → SinkView
after_put s piece answer = record {
  written = s.written ++ take (bytes_taken answer) piece;
  room = s.room - bytes_taken answer;
  failing = s.failing;
  calls = one_more s.calls;
  faults = faults_after (put_failed answer) s.faults;
}
