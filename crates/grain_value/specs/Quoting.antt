-- Texts and characters between quotes.
use Rattle.std.specs.Prelude.{ℕ, List, ◌++◌, codes, ◌==◌, if◌then◌else◌}
use Rattle.std.specs.List.{flat_map}
use Rattle.std.specs.Str.{chars}
use Rattle.std.specs.Char.{encode_utf8}

-- a character as it stands between quotes: a quote, a backslash, LF, CR and a tab are escaped
abbrev pub escaped : ℕ → List ℕ
escaped c =
    if c == 34 then codes "\\\""
    else (if c == 92 then codes "\\\\"
    else (if c == 10 then codes "\\n"
    else (if c == 13 then codes "\\r"
    else (if c == 9 then codes "\\t"
    else encode_utf8 c))))

abbrev pub quoted_text : List ℕ → List ℕ
quoted_text s = codes "\"" ++ flat_map escaped (chars s) ++ codes "\""

-- a character between its own quotes, of which one is escaped too
abbrev pub quoted_character : ℕ → List ℕ
quoted_character c =
    codes "'" ++ (if c == 39 then codes "\\'" else escaped c) ++ codes "'"
