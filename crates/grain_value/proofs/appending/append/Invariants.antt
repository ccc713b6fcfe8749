use Rattle.std.specs.Prelude.{string_bytes}
use Rattle.grain_value.proofs.appending.append.Given as goal

abbrev pub ghosts-print_after : goal.ghosts-print_after
ghosts-print_after g a = record { bytes = string_bytes a.text }
