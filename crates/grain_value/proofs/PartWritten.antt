-- A text of which a part is written.
use Rattle.std.proofs.Common.{◌≡◌, ◌∙◌, ℕ, List, [], ◌++◌, refl, sym, append_assoc, append-nil}
use Rattle.std.specs.Fmt.{HasWritten, IsPlainFormatter}
use Rattle.std.specs.declared.fmt.Formatter.{Formatter}
use Rattle.std.proofs.Output.{has_written_append, has_written_of_eq}

-- a part of the text was written from f to g, and the rest is left of it
pub record PartWritten {W : Type 0} (took : W → List ℕ → W → Type 0) (f : Formatter W)
    (whole rest : List ℕ) (g : Formatter W) : Type 0 where
  pub part : List ℕ
  pub wrote : HasWritten took f part g
  pub all : part ++ rest ≡ whole

pub more_written : {W : Type 0} (took : W → List ℕ → W → Type 0) (f : Formatter W)
    (whole piece rest : List ℕ) (g h : Formatter W) → PartWritten took f whole (piece ++ rest) g →
    HasWritten took g piece h → PartWritten took f whole rest h
more_written took f whole piece rest g h p w = record {
  part = p.part ++ piece;
  wrote = has_written_append took f p.part g piece h p.wrote w;
  all = append_assoc p.part piece rest ∙ p.all;
}

pub all_written : {W : Type 0} (took : W → List ℕ → W → Type 0) (f : Formatter W)
    (whole : List ℕ) (g : Formatter W) → PartWritten took f whole [] g → HasWritten took f whole g
all_written took f whole g p =
    has_written_of_eq took f p.part whole g (sym (append-nil p.part) ∙ p.all) p.wrote

-- the empty text is written before anything is
pub nothing_written : {W : Type 0} (took : W → List ℕ → W → Type 0) (f : Formatter W) →
    IsPlainFormatter f → HasWritten took f [] f
nothing_written took f plain = record {
  wrote = record {
    parts = [];
    calls = refl;
    whole = refl;
  };
  plain = plain;
}

-- before anything is written, all of it is left
pub none_written : {W : Type 0} (took : W → List ℕ → W → Type 0) (f : Formatter W)
    (whole : List ℕ) → IsPlainFormatter f → PartWritten took f whole whole f
none_written took f whole plain = record {
  part = [];
  wrote = nothing_written took f plain;
  all = refl;
}
