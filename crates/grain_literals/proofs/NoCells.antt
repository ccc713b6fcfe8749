-- What is read names no cell, whatever the characters are; so it is clean.
use Rattle.std.proofs.Common.{◌≡◌, ℕ, zero, suc, Bool, true, false, cond, List, [], ◌∷◌, length, not, ◌&&◌, Option, Some, None, Result, Ok, Err, option_and_then, codes, refl, subst, sym, arith}
use Rattle.std.specs.List.{AllByRecursion}
use Rattle.grain_value.specs.Tree.{Tree, Trees, Fields, unit, boolean, integer, character, text, array, blob, dict, pointer, range, foreign, cell, no_trees, more_trees, no_fields, more_fields, pack, pack_fields}
use Rattle.grain_value.specs.View.{tree, value_of}
use Rattle.grain_value.specs.laws.Same.{tree-value_of}
use Rattle.grain_value.specs.declared.values.Dynamic.{Dynamic}
use Rattle.grain_value.specs.Cells.{cell_bound, fields_bound, is_cell, is_clean, items_bound}
use Rattle.grain_value.specs.Maps.{Entries}
use Rattle.grain_words.specs.Words.{after_text, after_sign, integer_here, is_over, is_word_end, quoted, trim_start}
use Rattle.grain_words.specs.Characters as characters
use Rattle.grain_words.specs.Bytes.{hex_bytes}
use Rattle.grain_literals.specs.Values.{Found, behind, made, onto, closed, bounds, range_here, kind_and_number, foreign_here, plain, flat, text_here, others, all_others, listed, array_here, entry_here, put_all, dict_here, pointer_here, nesting, value}
use Rattle.grain_literals.specs.Literals.{constant_of, literal, value_operand, whole_value}
use Rattle.grain_literals.specs.Operands.{alone}
use Rattle.grain_literals.specs.Steps.{and_then, present}
use Rattle.grain_literals.specs.declared.reasons.Reason.{Reason}
use Rattle.grain_literals.specs.declared.reasons.Reason.TheVariants.{BadValue, BadOperand}
use Rattle.grain_literals.proofs.MapsListed.{Each, each_put_all}

abbrev NamesNone : Tree → Type 0
NamesNone t = cell_bound t ≡ 0

-- what was found satisfies P
abbrev Yields : {A : Type 0} → (A → Type 0) → Found A → Type 0
Yields P None = Unit {0}
Yields P (Some x) = P x.0

abbrev Gives : {A : Type 0} → (A → Type 0) → (List ℕ → Found A) → Type 0
Gives P read = (cs : List ℕ) → Yields P (read cs)

in_made : {A B : Type 0} (P : A → Type 0) (Q : B → Type 0) (f : A → B) (o : Found A) → Yields P o →
    ((x : A) → P x → Q (f x)) → Yields Q (made f o)
in_made P Q f None y h = tt
in_made P Q f (Some x) y h = h x.0 y

-- the same, where all that is made so satisfies Q
in_any : {A B : Type 0} (Q : B → Type 0) (f : A → B) (o : Found A) → ((x : A) → Q (f x)) →
    Yields Q (made f o)
in_any Q f None h = tt
in_any Q f (Some x) h = h x.0

in_behind : {A : Type 0} (P : A → Type 0) (o : Option (List ℕ)) (here : List ℕ → Found A)
    (other : Found A) → Gives P here → Yields P other → Yields P (behind o here other)
in_behind P None here other h e = e
in_behind P (Some rest) here other h e = h rest

in_then : {A B : Type 0} (P : A → Type 0) (Q : B → Type 0) (go : A × List ℕ → Found B)
    (o : Found A) → Yields P o → ((x : A × List ℕ) → P x.0 → Yields Q (go x)) →
    Yields Q (option_and_then go o)
in_then P Q go None y h = tt
in_then P Q go (Some x) y h = h x y

-- the same, where nothing is asked of what comes first
after_any : {A B : Type 0} (Q : B → Type 0) (go : A → Found B) (o : Option A) →
    ((x : A) → Yields Q (go x)) → Yields Q (option_and_then go o)
after_any Q go None h = tt
after_any Q go (Some x) h = h x

range_gives : (inclusive : Bool) → Gives NamesNone (range_here inclusive)
range_gives inclusive cs =
    in_any NamesNone (λ b. range b.0 b.1 inclusive) (closed (codes ")") (bounds cs)) (λ b. refl)

foreign_gives : Gives NamesNone foreign_here
foreign_gives cs =
    in_any NamesNone (λ b. foreign b.0 b.1) (closed (codes ")") (kind_and_number cs)) (λ b. refl)

plain_gives : Gives NamesNone plain
plain_gives cs =
    let P = NamesNone in
    in_behind P (after_text (codes "()") cs) (λ rest. Some (unit, rest)) _ (λ r. refl)
    (in_behind P (after_text (codes "true") cs) (λ rest. Some (boolean true, rest)) _ (λ r. refl)
    (in_behind P (after_text (codes "false") cs) (λ rest. Some (boolean false, rest)) _
    (λ r. refl)
    (in_behind P (after_text (codes "'") cs)
    (λ rest. made character (characters.character rest)) _
    (λ r. in_any P character (characters.character r) (λ c. refl))
    (in_behind P (after_text (codes "range(") cs) (range_here false) _ (range_gives false)
    (in_behind P (after_text (codes "range=(") cs) (range_here true) _ (range_gives true)
    (in_behind P (after_text (codes "foreign(") cs) foreign_here _ foreign_gives
    (in_any P integer (integer_here cs) (λ z. refl))))))))

flat_gives : Gives NamesNone flat
flat_gives cs =
    let P = NamesNone in
    in_behind P (after_text (codes "\"") cs) (λ rest. made text (quoted rest)) _
    (λ r. in_any P text (quoted r) (λ s. refl))
    (in_behind P (after_text (codes "blob(") cs) (λ rest. made blob (hex_bytes rest)) _
    (λ r. in_any P blob (hex_bytes r) (λ s. refl))
    (plain_gives cs))

others_give : {A : Type 0} (P : A → Type 0) (end : List ℕ) (read : List ℕ → Found A) →
    Gives P read → (room : ℕ) → Gives (AllByRecursion P) (others end read room)
unfolding others
others_give P end read gives zero cs = tt
others_give P end read gives (suc room) cs =
    in_behind (AllByRecursion P) (after_text end cs) (λ rest. Some ([], rest)) _ (λ r. tt)
    (after_any (AllByRecursion P)
    (λ ds. option_and_then (λ a. onto a.0 (others end read room a.1)) (read ds))
    (after_sign (codes ",") cs)
    (λ ds. in_then P (AllByRecursion P) (λ a. onto a.0 (others end read room a.1)) (read ds)
    (gives ds) (λ a p. in_made (AllByRecursion P) (AllByRecursion P) (λ xs. a.0 ∷ xs)
    (others end read room a.1) (others_give P end read gives room a.1) (λ xs all. (p, all)))))

listed_gives : {A : Type 0} (P : A → Type 0) (end : List ℕ) (read : List ℕ → Found A) →
    Gives P read → Gives (AllByRecursion P) (listed end read)
listed_gives P end read gives cs =
    in_behind (AllByRecursion P) (after_text end cs) (λ rest. Some ([], rest)) _ (λ r. tt)
    (in_then P (AllByRecursion P) (λ a. onto a.0 (all_others end read a.1)) (read cs) (gives cs)
    (λ a p. in_made (AllByRecursion P) (AllByRecursion P) (λ xs. a.0 ∷ xs)
    (all_others end read a.1) (others_give P end read gives (length a.1) a.1)
    (λ xs all. (p, all))))

abbrev EntryNamesNone : List ℕ × Tree → Type 0
EntryNamesNone e = NamesNone e.1

entry_gives : (read : List ℕ → Found Tree) → Gives NamesNone read →
    Gives EntryNamesNone (entry_here read)
entry_gives read gives cs =
    after_any EntryNamesNone
    (λ k. option_and_then (λ ds. made (λ t. (k.0, t)) (read ds)) (after_sign (codes ":") k.1))
    (text_here cs)
    (λ k. after_any EntryNamesNone (λ ds. made (λ t. (k.0, t)) (read ds))
    (after_sign (codes ":") k.1)
    (λ ds. in_made NamesNone EntryNamesNone (λ t. (k.0, t)) (read ds) (gives ds) (λ t q. q)))

items_free : (ts : List Tree) → AllByRecursion NamesNone ts → items_bound (pack ts) ≡ 0
items_free [] h = refl
items_free (t ∷ ts) h = omega (arith, h.0, items_free ts h.1)

abbrev Any : List ℕ → Type 0
Any k = Unit {0}

each_free : (es : Entries) → AllByRecursion EntryNamesNone es → Each Any NamesNone es
each_free [] h = tt
each_free (e ∷ es) h = ((tt, h.0), each_free es h.1)

fields_free : (es : Entries) → Each Any NamesNone es → fields_bound (pack_fields es) ≡ 0
fields_free [] h = refl
fields_free (e ∷ es) h = omega (arith, h.0.1, fields_free es h.1)

nesting_gives : (read : List ℕ → Found Tree) → Gives NamesNone read →
    Gives NamesNone (nesting read)
nesting_gives read gives cs =
    let P = NamesNone in
    in_behind P (after_text (codes "[") cs) (array_here read) _
    (λ r. in_made (AllByRecursion P) P (λ ts. array (pack ts)) (listed (codes "]") read r)
    (listed_gives P (codes "]") read gives r) items_free)
    (in_behind P (after_text (codes "#{") cs) (dict_here read) _
    (λ r. in_made (AllByRecursion EntryNamesNone) P (λ es. dict (pack_fields (put_all [] es)))
    (listed (codes "}") (entry_here read) r)
    (listed_gives EntryNamesNone (codes "}") (entry_here read) (entry_gives read gives) r)
    (λ es all. fields_free (put_all [] es)
    (each_put_all Any NamesNone es [] tt (each_free es all))))
    (in_behind P (after_text (codes "fn(") cs) (pointer_here read) _
    (λ r. after_any P (λ name. made (λ ts. pointer name.0 (pack ts))
    (all_others (codes ")") read name.1)) (text_here r)
    (λ name. in_made (AllByRecursion P) P (λ ts. pointer name.0 (pack ts))
    (all_others (codes ")") read name.1)
    (others_give P (codes ")") read gives (length name.1) name.1) items_free))
    (flat_gives cs)))

pub value_gives : (levels : ℕ) → Gives NamesNone (value levels)
unfolding value
value_gives zero cs = flat_gives cs
value_gives (suc levels) cs = nesting_gives (value levels) (value_gives levels) cs

-- what names no cell is no cell, and is clean
no_cell : (t : Tree) → cell_bound t ≡ 0 → not (is_cell t) ≡ true
no_cell (cell n) h = absurd (omega (arith, h))
no_cell unit h = refl
no_cell (boolean b) h = refl
no_cell (integer n) h = refl
no_cell (character c) h = refl
no_cell (text s) h = refl
no_cell (array ts) h = refl
no_cell (blob s) h = refl
no_cell (dict es) h = refl
no_cell (pointer name ts) h = refl
no_cell (range a b i) h = refl
no_cell (foreign k n) h = refl

both : (a b : Bool) → a ≡ true → b ≡ true → a && b ≡ true
both true b h k = k
both false b h k = absurd cc

mutual
  clean : (t : Tree) → cell_bound t ≡ 0 → is_clean t ≡ true
  clean unit h = refl
  clean (boolean b) h = refl
  clean (integer n) h = refl
  clean (character c) h = refl
  clean (text s) h = refl
  clean (array ts) h = items_clean ts h
  clean (blob s) h = refl
  clean (dict es) h = fields_clean es h
  clean (pointer name ts) h = curry_clean name ts h
  clean (range a b i) h = refl
  clean (foreign k n) h = refl
  clean (cell n) h = refl

  items_clean : (ts : Trees) → items_bound ts ≡ 0 → is_clean (array ts) ≡ true
  items_clean no_trees h = refl
  items_clean (more_trees t ts) h =
      let own : cell_bound t ≡ 0 = omega (arith, h) in
      let rest : items_bound ts ≡ 0 = omega (arith, h) in
      both (not (is_cell t)) (is_clean t && is_clean (array ts)) (no_cell t own)
      (both (is_clean t) (is_clean (array ts)) (clean t own) (items_clean ts rest))

  fields_clean : (es : Fields) → fields_bound es ≡ 0 → is_clean (dict es) ≡ true
  fields_clean no_fields h = refl
  fields_clean (more_fields k t es) h =
      let own : cell_bound t ≡ 0 = omega (arith, h) in
      let rest : fields_bound es ≡ 0 = omega (arith, h) in
      both (not (is_cell t)) (is_clean t && is_clean (dict es)) (no_cell t own)
      (both (is_clean t) (is_clean (dict es)) (clean t own) (fields_clean es rest))

  curry_clean : (name : List ℕ) (ts : Trees) → items_bound ts ≡ 0 →
      is_clean (pointer name ts) ≡ true
  curry_clean name no_trees h = refl
  curry_clean name (more_trees t ts) h =
      let own : cell_bound t ≡ 0 = omega (arith, h) in
      let rest : items_bound ts ≡ 0 = omega (arith, h) in
      both (is_clean t) (is_clean (pointer name ts)) (clean t own) (curry_clean name ts rest)

-- so it is with the value of a line
abbrev IsPlain : Dynamic → Type 0
IsPlain v = (is_clean (tree v) ≡ true) × (cell_bound (tree v) ≡ 0)

abbrev Operand : Result (Dynamic × List ℕ) Reason → Type 0
Operand (Ok a) = IsPlain a.0
Operand (Err e) = Unit {0}

abbrev Constant : Result Dynamic Reason → Type 0
Constant (Ok v) = IsPlain v
Constant (Err e) = Unit {0}

found_plain : (o : Found Tree) → Yields NamesNone o → Operand (present BadValue (made value_of o))
found_plain None y = tt
found_plain (Some x) y =
    subst (λ t. (is_clean t ≡ true) × (cell_bound t ≡ 0)) (sym (tree-value_of x.0)) (clean x.0 y, y)

whole_plain : (r : Result (Dynamic × List ℕ) Reason) → Operand r → Operand (and_then r whole_value)
whole_plain (Ok a) h = at (is_word_end a.1) where
  at : (b : Bool) → Operand (cond b (Ok a) (Err BadValue))
  at true = h
  at false = tt
whole_plain (Err e) h = tt

alone_plain : (r : Result (Dynamic × List ℕ) Reason) → Operand r →
    Constant (and_then r (λ a. alone a.1 a.0))
alone_plain (Ok a) h = at (is_over a.1) where
  at : (b : Bool) → Constant (cond b (Ok a.0) (Err BadOperand))
  at true = h
  at false = tt
alone_plain (Err e) h = tt

pub constant_plain : (cs : List ℕ) (v : Dynamic) → constant_of cs ≡ Ok v →
    (is_clean (tree v) ≡ true) × (cell_bound (tree v) ≡ 0)
constant_plain cs v is =
    subst Constant is
    (alone_plain (value_operand cs)
    (whole_plain (literal (trim_start cs))
    (found_plain (value 64 (trim_start cs)) (value_gives 64 (trim_start cs)))))
