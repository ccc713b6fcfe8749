-- A source that is not read.
use Rattle.std.specs.Prelude.{ℕ}
use Rattle.grain_streams.specs.Reads.{none, ReadInTurn, unended}
use Rattle.grain_streams.specs.declared.sources.Read.{Read}

-- no read is none out of turn
pub no_read : {S : Type 0} (reads : S → ℕ → Read → S → Type 0) (most : ℕ) (s : S) →
    ReadInTurn reads most s s
no_read reads most s = unended none
