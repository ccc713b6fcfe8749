-- The listing that the command `self` runs: one function for each number below N, of which each adds its
-- number, and a main that calls them in turn, from 1 on.
use Rattle.std.specs.Prelude.{ℕ, zero, suc, ◌+◌, ◌==◌, List, [], ◌∷◌, ◌++◌, Option, Some, None, codes, bytes_eq, if◌then◌else◌}
use Rattle.std.specs.Fmt.{decimal}
use Rattle.std.specs.Str.{chars}
use Rattle.grain_words.specs.Numerals.{number}
use Rattle.grain_commands.specs.Reports.{line_end}

abbrev pub line : List ℕ → List ℕ
line words = words ++ line_end

-- this for each number below n, in their order
abbrev pub for_each : ℕ → (ℕ → List ℕ) → List ℕ
for_each zero text = []
for_each (suc n) text = for_each n text ++ text n

-- a line with a number in it, between a lead and what stands after
abbrev pub number_line : List ℕ → List ℕ → ℕ → List ℕ
number_line lead behind n = line (lead ++ decimal n ++ behind)

-- the lines with these numbers: from `first` on, n in all
abbrev pub number_lines : List ℕ → ℕ → List ℕ → ℕ → List ℕ
number_lines lead first behind n = for_each n (λ k. number_line lead behind (first + k))

-- the function of the number k: its name stands after those of its parameter and its operator, and its
-- constant after the first one
abbrev pub function_block : ℕ → List ℕ
function_block k = number_line (codes "fn ") (codes " 2 0") (2 + k) ++
    (line (codes "load_local 0") ++ (number_line (codes "load_const ") [] (1 + k) ++
    (line (codes "call_op 1 2 0") ++ (line (codes "return") ++ line (codes "end")))))

-- constants, names, and the operator
abbrev pub self_pools : ℕ → List ℕ
self_pools n = line (codes "const 1") ++ (number_lines (codes "const ") 0 [] n ++
    (line (codes "name \"x\"") ++ (line (codes "name \"+\"") ++
    (number_lines (codes "name \"f") 0 (codes "\"") n ++ line (codes "op \"+\"")))))

-- main calls each function
abbrev pub self_main : ℕ → List ℕ
self_main n = line (codes "main 1") ++ (line (codes "load_const 0") ++
    (number_lines (codes "call ") 2 (codes " 1") n ++ (line (codes "return") ++ line (codes "end"))))

abbrev pub self_listing : ℕ → List ℕ
self_listing n = line (codes "grain 1") ++ (self_pools n ++ (self_main n ++
    for_each n function_block))

-- a number from 1 on
abbrev pub positive : Option ℕ → Option ℕ
positive None = None
positive (Some n) = if n == 0 then None else Some n

-- the words are `self` and this number, which is from 1 to 10000 and has no leading zeros
abbrev pub self_number : List (List ℕ) → Option ℕ
self_number (w ∷ n ∷ []) =
    if bytes_eq w (codes "self") then positive (number 10000 (chars n)) else None
self_number ws = None
