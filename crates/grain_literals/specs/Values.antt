-- Values as a listing spells them. Each piece of a value is read from the characters that are left
-- of a line to the piece and the characters that are then left. One or more blanks stand exactly
-- after a comma and a colon.
use Rattle.std.specs.Prelude.{ℕ, zero, suc, ◌-◌, ◌^◌, ℤ, Bool, true, false, List, [], ◌∷◌, length, Option, Some, None, option_map, option_and_then, codes, nat_lt, if◌then◌else◌}
use Rattle.grain_value.specs.Tree.{Tree, unit, boolean, integer, character, text, array, blob, dict, pointer, range, foreign, pack, pack_fields}
use Rattle.grain_value.specs.Maps.{Entries, put_entry}
use Rattle.grain_words.specs.Words.{after_text, after_sign, integer_here, number_here, quoted}
use Rattle.grain_words.specs.Characters as characters
use Rattle.grain_words.specs.Bytes.{hex_bytes}

-- a piece, and what follows it
abbrev pub Found : Type 0 → Type 0
Found A = Option (A × List ℕ)

-- the piece that begins after a text, where that text stands here, or else another
abbrev pub behind : {A : Type 0} → Option (List ℕ) → (List ℕ → Found A) → Found A → Found A
behind None here other = other
behind (Some rest) here other = here rest

-- what is made of a piece, and what follows it
abbrev pub made : {A B : Type 0} → (A → B) → Found A → Found B
made f o = option_map (λ x. (f x.0, x.1)) o

-- a piece that a closing sign follows
abbrev pub closed : {A : Type 0} → List ℕ → Found A → Found A
closed end o =
    option_and_then (λ a. option_map (λ rest. (a.0, rest)) (after_text end a.1)) o

-- two integers, which a comma separates
abbrev pub bounds : List ℕ → Found (ℤ × ℤ)
bounds cs =
    option_and_then (λ a. option_and_then (λ cs. made (λ b. (a.0, b)) (integer_here cs))
    (after_sign (codes ",") a.1)) (integer_here cs)

-- after `range(` or `range=(`
abbrev pub range_here : Bool → List ℕ → Found Tree
range_here inclusive cs = made (λ b. range b.0 b.1 inclusive) (closed (codes ")") (bounds cs))

-- a host's kind, which is 16 or more, and a number, which a comma separates
abbrev pub kind_and_number : List ℕ → Found (ℕ × ℕ)
kind_and_number cs =
    option_and_then (λ k. if nat_lt k.0 16 then None
    else option_and_then (λ cs. made (λ n. (k.0, n)) (number_here (2 ^ 64 - 1) cs))
    (after_sign (codes ",") k.1)) (number_here (2 ^ 32 - 1) cs)

-- after `foreign(`
abbrev pub foreign_here : List ℕ → Found Tree
foreign_here cs = made (λ b. foreign b.0 b.1) (closed (codes ")") (kind_and_number cs))

-- unit, a truth value, a character, a range, a host's value or an integer
abbrev pub plain : List ℕ → Found Tree
plain cs =
    behind (after_text (codes "()") cs) (λ rest. Some (unit, rest))
    (behind (after_text (codes "true") cs) (λ rest. Some (boolean true, rest))
    (behind (after_text (codes "false") cs) (λ rest. Some (boolean false, rest))
    (behind (after_text (codes "'") cs) (λ rest. made character (characters.character rest))
    (behind (after_text (codes "range(") cs) (range_here false)
    (behind (after_text (codes "range=(") cs) (range_here true)
    (behind (after_text (codes "foreign(") cs) foreign_here
    (made integer (integer_here cs))))))))

-- a value that has no values inside: a text, bytes, or one of those
abbrev pub flat : List ℕ → Found Tree
flat cs =
    behind (after_text (codes "\"") cs) (λ rest. made text (quoted rest))
    (behind (after_text (codes "blob(") cs) (λ rest. made blob (hex_bytes rest))
    (plain cs))

-- a text between quotes, as the name of a function or a key
abbrev pub text_here : List ℕ → Found (List ℕ)
text_here cs = behind (after_text (codes "\"") cs) quoted None

abbrev pub onto : {A : Type 0} → A → Found (List A) → Found (List A)
onto x o = made (λ xs. x ∷ xs) o

-- what follows in a list, each thing after a comma, up to the sign that ends the list; at most n
-- things and the sign
unfoldable pub others : {A : Type 0} → List ℕ → (List ℕ → Found A) → ℕ → List ℕ → Found (List A)
others end read zero cs = None
others end read (suc n) cs =
    behind (after_text end cs) (λ rest. Some ([], rest))
    (option_and_then (λ cs. option_and_then (λ a. onto a.0 (others end read n a.1)) (read cs))
    (after_sign (codes ",") cs))

-- the same without a bound, since each thing and the sign have a character at least
abbrev pub all_others : {A : Type 0} → List ℕ → (List ℕ → Found A) → List ℕ → Found (List A)
all_others end read cs = others end read (length cs) cs

-- a list, which may be empty, up to the sign that ends it
abbrev pub listed : {A : Type 0} → List ℕ → (List ℕ → Found A) → List ℕ → Found (List A)
listed end read cs =
    behind (after_text end cs) (λ rest. Some ([], rest))
    (option_and_then (λ a. onto a.0 (all_others end read a.1)) (read cs))

-- after `[`: values
abbrev pub array_here : (List ℕ → Found Tree) → List ℕ → Found Tree
array_here read cs = made (λ ts. array (pack ts)) (listed (codes "]") read cs)

-- a key, a colon and a value
abbrev pub entry_here : (List ℕ → Found Tree) → List ℕ → Found (List ℕ × Tree)
entry_here read cs =
    option_and_then (λ k. option_and_then (λ cs. made (λ t. (k.0, t)) (read cs))
    (after_sign (codes ":") k.1)) (text_here cs)

-- the entries put one after the other, so that of a key that stands twice the last value is kept
abbrev pub put_all : Entries → Entries → Entries
put_all done [] = done
put_all done (e ∷ es) = put_all (put_entry e.0 e.1 done) es

-- after `#{`: keys with their values
abbrev pub dict_here : (List ℕ → Found Tree) → List ℕ → Found Tree
dict_here read cs =
    made (λ es. dict (pack_fields (put_all [] es))) (listed (codes "}") (entry_here read) cs)

-- after `fn(`: a name, and maybe values after it
abbrev pub pointer_here : (List ℕ → Found Tree) → List ℕ → Found Tree
pointer_here read cs =
    option_and_then (λ name. made (λ ts. pointer name.0 (pack ts))
    (all_others (codes ")") read name.1)) (text_here cs)

-- a value, where those inside it are read so
abbrev pub nesting : (List ℕ → Found Tree) → List ℕ → Found Tree
nesting read cs =
    behind (after_text (codes "[") cs) (array_here read)
    (behind (after_text (codes "#{") cs) (dict_here read)
    (behind (after_text (codes "fn(") cs) (pointer_here read)
    (flat cs)))

-- the value that begins here, in which at most n arrays, maps and pointers stand inside one
-- another
unfoldable pub value : ℕ → List ℕ → Found Tree
value zero cs = flat cs
value (suc levels) cs = nesting (value levels) cs
