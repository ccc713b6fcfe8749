-- Labels as lists of characters' bytes.
use Rattle.std.specs.Prelude.{ℕ, List, map, String, string_bytes}
use Rattle.std.specs.declared.alloc.Global.{Global}

abbrev pub label_view : String Global × ℕ → List ℕ × ℕ
label_view e = (string_bytes e.0, e.1)

abbrev pub labels_view : List (String Global × ℕ) → List (List ℕ × ℕ)
labels_view es = map label_view es
