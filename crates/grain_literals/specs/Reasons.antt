-- The reasons for which a listing is refused, in words.
use Rattle.std.specs.Prelude.{ℕ, List, codes}
use Rattle.grain_literals.specs.declared.reasons.Reason.{Reason}
use Rattle.grain_literals.specs.declared.reasons.Reason.TheVariants as reasons

abbrev pub reason_text : Reason → List ℕ
reason_text reasons.TooLong = codes "too long"
reason_text reasons.NotUtf8 = codes "not UTF-8"
reason_text reasons.MissingHeader = codes "missing header"
reason_text reasons.UnknownWord = codes "unknown word"
reason_text reasons.OutOfPlace = codes "out of place"
reason_text reasons.TooMany = codes "too many"
reason_text reasons.BadValue = codes "bad value"
reason_text reasons.BadOperand = codes "bad operand"
reason_text reasons.LabelTwice = codes "label twice"
reason_text reasons.UnfinishedChunk = codes "unfinished chunk"
reason_text reasons.MissingMain = codes "missing main"
reason_text reasons.UnknownLabel = codes "unknown label"
reason_text reasons.NotBuilt = codes "not built"
