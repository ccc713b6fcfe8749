-- What is read is a value that a listing can hold.
use Rattle.std.proofs.Common.{◌≡◌, ◌≤◌, ◌<◌, ◌+◌, ◌*◌, ◌-◌, ◌^◌, ◌==◌, ℕ, zero, suc, ℤ, Bool, true, false, cond, List, [], ◌∷◌, length, Some, None, option_map, option_and_then, codes, nat_lt, sym, subst, arith}
use Rattle.std.proofs.lemmas.Bool.Decides.{nat_tests}
use Rattle.std.proofs.Math.Utf8.{scalars}
use Rattle.std.specs.Char.{digit_value, IsScalar}
use Rattle.std.specs.List.{AllByRecursion}
use Rattle.std.specs.Str.{IsUtf8}
use Rattle.grain_value.specs.Tree.{Tree, unit, boolean, integer, character, text, blob, range, foreign, array, dict, pointer, pack, pack_fields}
use Rattle.grain_value.specs.Maps.{Entries, IsAscending}
use Rattle.grain_value.specs.laws.Same.{unpack-pack_fields}
use Rattle.grain_words.specs.Spelled.{IsLong}
use Rattle.grain_words.specs.Words.{after_text, after_sign, integer_here, number_here, quoted, in_front, is_hexadecimal}
use Rattle.grain_words.specs.Characters as characters
use Rattle.grain_words.specs.Bytes.{hex_bytes, second_digit}
use Rattle.grain_literals.specs.Listed.{IsListed, AreListed, FieldsAreListed}
use Rattle.grain_literals.specs.Values.{Found, made, onto, closed, bounds, range_here, kind_and_number, foreign_here, plain, flat, text_here, others, all_others, listed, array_here, entry_here, put_all, dict_here, pointer_here, nesting, value}
use Rattle.grain_literals.specs.laws.Scalars.{rest_of}
use Rattle.grain_literals.proofs.MapsListed.{Each, each_put_all, ascending_put_all, none_ascend}
use Rattle.grain_literals.proofs.Yielded.{Yields, Gives, in_made, in_cond, in_test, in_behind, in_then, in_rest, in_pair, text_left, sign_left, integer_gives, number_gives}
use Rattle.grain_literals.proofs.TextsListed.{quoted_gives, character_gives}

abbrev AreBytes : List ℕ → Type 0
AreBytes bytes = AllByRecursion (λ b. b < 2 ^ 8) bytes

digit_below : (c : ℕ) → is_hexadecimal c ≡ true → digit_value c < 16
digit_below c h = grind (arith, nat_tests)

mutual
  bytes_give : (cs : List ℕ) → scalars cs ≡ true → Yields AreBytes (hex_bytes cs)
  bytes_give [] h = tt
  bytes_give (c ∷ cs) h =
      let more : scalars cs ≡ true = rest_of c cs h in
      in_cond AreBytes (c == 41) (Some ([], cs)) _ (tt, more)
      (in_test AreBytes (is_hexadecimal c) (second_digit (digit_value c) cs) None
      (λ e. second_gives (digit_value c) cs (digit_below c e) more) (λ e. tt))

  second_gives : (k : ℕ) (cs : List ℕ) → k < 16 → scalars cs ≡ true →
      Yields AreBytes (second_digit k cs)
  second_gives k [] low h = tt
  second_gives k (c ∷ cs) low h =
      in_test AreBytes (is_hexadecimal c)
      (in_front ((k * 16 + digit_value c) ∷ []) (hex_bytes cs)) None
      (λ e. in_made AreBytes AreBytes (λ t. (k * 16 + digit_value c) ∷ t) (hex_bytes cs)
      (bytes_give cs (rest_of c cs h))
      (λ t all. (let d : digit_value c < 16 = digit_below c e in omega (arith, d, low), all)))
      (λ e. tt)

closed_gives : {A : Type 0} (P : A → Type 0) (end : List ℕ) (o : Found A) → Yields P o →
    Yields P (closed end o)
closed_gives P end o y =
    in_then P P (λ a. option_map (λ rest. (a.0, rest)) (after_text end a.1)) o y
    (λ a p l. in_pair P a.0 (after_text end a.1) p (text_left end a.1 l))

abbrev AreLong : ℤ × ℤ → Type 0
AreLong b = IsLong b.0 × IsLong b.1

bounds_give : Gives AreLong bounds
bounds_give cs h =
    in_then IsLong AreLong (λ a. option_and_then (λ ds. made (λ b. (a.0, b)) (integer_here ds))
    (after_sign (codes ",") a.1)) (integer_here cs) (integer_gives cs h)
    (λ a p l. in_rest AreLong (λ ds. made (λ b. (a.0, b)) (integer_here ds))
    (after_sign (codes ",") a.1) (sign_left (codes ",") a.1 l)
    (λ ds m. in_made IsLong AreLong (λ b. (a.0, b)) (integer_here ds) (integer_gives ds m)
    (λ b q. (p, q))))

abbrev AreHost : ℕ × ℕ → Type 0
AreHost b = (16 ≤ b.0) × ((b.0 < 2 ^ 32) × (b.1 < 2 ^ 64))

least : (k : ℕ) → nat_lt k 16 ≡ false → 16 ≤ k
least k e = grind (arith, nat_tests)

kind_gives : Gives AreHost kind_and_number
kind_gives cs h =
    in_then (λ k. k ≤ 2 ^ 32 - 1) AreHost (λ k. cond (nat_lt k.0 16) None
    (option_and_then (λ ds. made (λ m. (k.0, m)) (number_here (2 ^ 64 - 1) ds))
    (after_sign (codes ",") k.1))) (number_here (2 ^ 32 - 1) cs) (number_gives (2 ^ 32 - 1) cs h)
    (λ k p l. in_test AreHost (nat_lt k.0 16) None
    (option_and_then (λ ds. made (λ m. (k.0, m)) (number_here (2 ^ 64 - 1) ds))
    (after_sign (codes ",") k.1)) (λ e. tt)
    (λ e. in_rest AreHost (λ ds. made (λ m. (k.0, m)) (number_here (2 ^ 64 - 1) ds))
    (after_sign (codes ",") k.1) (sign_left (codes ",") k.1 l)
    (λ ds m. in_made (λ n. n ≤ 2 ^ 64 - 1) AreHost (λ m. (k.0, m)) (number_here (2 ^ 64 - 1) ds)
    (number_gives (2 ^ 64 - 1) ds m) (λ n q. (least k.0 e, (omega (arith, p), omega (arith, q)))))))

range_gives : (levels : ℕ) (inclusive : Bool) → Gives (IsListed levels) (range_here inclusive)
range_gives levels inclusive cs h =
    in_made AreLong (IsListed levels) (λ b. range b.0 b.1 inclusive)
    (closed (codes ")") (bounds cs))
    (closed_gives AreLong (codes ")") (bounds cs) (bounds_give cs h)) (λ b p. p)

foreign_gives : (levels : ℕ) → Gives (IsListed levels) foreign_here
foreign_gives levels cs h =
    in_made AreHost (IsListed levels) (λ b. foreign b.0 b.1)
    (closed (codes ")") (kind_and_number cs))
    (closed_gives AreHost (codes ")") (kind_and_number cs) (kind_gives cs h)) (λ b p. p)

plain_gives : (levels : ℕ) → Gives (IsListed levels) plain
plain_gives levels cs h =
    let P = IsListed levels in
    in_behind P (after_text (codes "()") cs) (λ rest. Some (unit, rest)) _
    (text_left (codes "()") cs h) (λ r l. (tt, l))
    (in_behind P (after_text (codes "true") cs) (λ rest. Some (boolean true, rest)) _
    (text_left (codes "true") cs h) (λ r l. (tt, l))
    (in_behind P (after_text (codes "false") cs) (λ rest. Some (boolean false, rest)) _
    (text_left (codes "false") cs h) (λ r l. (tt, l))
    (in_behind P (after_text (codes "'") cs)
    (λ rest. made character (characters.character rest)) _ (text_left (codes "'") cs h)
    (λ r l. in_made IsScalar P character (characters.character r) (character_gives r l)
    (λ c p. p))
    (in_behind P (after_text (codes "range(") cs) (range_here false) _
    (text_left (codes "range(") cs h) (range_gives levels false)
    (in_behind P (after_text (codes "range=(") cs) (range_here true) _
    (text_left (codes "range=(") cs h) (range_gives levels true)
    (in_behind P (after_text (codes "foreign(") cs) foreign_here _
    (text_left (codes "foreign(") cs h) (foreign_gives levels)
    (in_made IsLong P integer (integer_here cs) (integer_gives cs h) (λ z p. p))))))))

flat_gives : (levels : ℕ) → Gives (IsListed levels) flat
flat_gives levels cs h =
    let P = IsListed levels in
    in_behind P (after_text (codes "\"") cs) (λ rest. made text (quoted rest)) _
    (text_left (codes "\"") cs h)
    (λ r l. in_made IsUtf8 P text (quoted r) (quoted_gives r l) (λ s p. p))
    (in_behind P (after_text (codes "blob(") cs) (λ rest. made blob (hex_bytes rest)) _
    (text_left (codes "blob(") cs h)
    (λ r l. in_made AreBytes P blob (hex_bytes r) (bytes_give r l) (λ s p. p))
    (plain_gives levels cs h))

text_gives : Gives IsUtf8 text_here
text_gives cs h =
    in_behind IsUtf8 (after_text (codes "\"") cs) quoted None (text_left (codes "\"") cs h)
    quoted_gives tt

others_give : {A : Type 0} (P : A → Type 0) (end : List ℕ) (read : List ℕ → Found A) →
    Gives P read → (room : ℕ) → Gives (AllByRecursion P) (others end read room)
unfolding others
others_give P end read gives zero cs h = tt
others_give P end read gives (suc room) cs h =
    in_behind (AllByRecursion P) (after_text end cs) (λ rest. Some ([], rest)) _
    (text_left end cs h) (λ r l. (tt, l))
    (in_rest (AllByRecursion P)
    (λ ds. option_and_then (λ a. onto a.0 (others end read room a.1)) (read ds))
    (after_sign (codes ",") cs) (sign_left (codes ",") cs h)
    (λ ds l. in_then P (AllByRecursion P) (λ a. onto a.0 (others end read room a.1)) (read ds)
    (gives ds l) (λ a p m. in_made (AllByRecursion P) (AllByRecursion P) (λ xs. a.0 ∷ xs)
    (others end read room a.1) (others_give P end read gives room a.1 m) (λ xs all. (p, all)))))

listed_gives : {A : Type 0} (P : A → Type 0) (end : List ℕ) (read : List ℕ → Found A) →
    Gives P read → Gives (AllByRecursion P) (listed end read)
listed_gives P end read gives cs h =
    in_behind (AllByRecursion P) (after_text end cs) (λ rest. Some ([], rest)) _
    (text_left end cs h) (λ r l. (tt, l))
    (in_then P (AllByRecursion P) (λ a. onto a.0 (all_others end read a.1)) (read cs) (gives cs h)
    (λ a p m. in_made (AllByRecursion P) (AllByRecursion P) (λ xs. a.0 ∷ xs)
    (all_others end read a.1) (others_give P end read gives (length a.1) a.1 m)
    (λ xs all. (p, all))))

abbrev IsEntry : ℕ → List ℕ × Tree → Type 0
IsEntry levels e = IsUtf8 e.0 × IsListed levels e.1

entry_gives : (levels : ℕ) (read : List ℕ → Found Tree) → Gives (IsListed levels) read →
    Gives (IsEntry levels) (entry_here read)
entry_gives levels read gives cs h =
    in_then IsUtf8 (IsEntry levels) (λ k. option_and_then (λ ds. made (λ t. (k.0, t)) (read ds))
    (after_sign (codes ":") k.1)) (text_here cs) (text_gives cs h)
    (λ k p l. in_rest (IsEntry levels) (λ ds. made (λ t. (k.0, t)) (read ds))
    (after_sign (codes ":") k.1) (sign_left (codes ":") k.1 l)
    (λ ds m. in_made (IsListed levels) (IsEntry levels) (λ t. (k.0, t)) (read ds) (gives ds m)
    (λ t q. (p, q))))

are_listed : (levels : ℕ) (ts : List Tree) → AllByRecursion (IsListed levels) ts →
    AreListed levels (pack ts)
are_listed levels [] h = tt
are_listed levels (t ∷ ts) h = (h.0, are_listed levels ts h.1)

are_entries : (levels : ℕ) (es : Entries) → AllByRecursion (IsEntry levels) es →
    Each IsUtf8 (IsListed levels) es
are_entries levels [] h = tt
are_entries levels (e ∷ es) h = (h.0, are_entries levels es h.1)

fields_listed : (levels : ℕ) (es : Entries) → Each IsUtf8 (IsListed levels) es →
    FieldsAreListed levels (pack_fields es)
fields_listed levels [] h = tt
fields_listed levels (e ∷ es) h = (h.0.0, (h.0.1, fields_listed levels es h.1))

map_listed : (levels : ℕ) (es : Entries) → AllByRecursion (IsEntry levels) es →
    IsListed (suc levels) (dict (pack_fields (put_all [] es)))
map_listed levels es h = (
  fields_listed levels (put_all [] es)
      (each_put_all IsUtf8 (IsListed levels) es [] tt (are_entries levels es h)),
  subst IsAscending (sym (unpack-pack_fields (put_all [] es)))
      (ascending_put_all es [] none_ascend),
)

nesting_gives : (levels : ℕ) (read : List ℕ → Found Tree) → Gives (IsListed levels) read →
    Gives (IsListed (suc levels)) (nesting read)
nesting_gives levels read gives cs h =
    let P = IsListed (suc levels) in
    in_behind P (after_text (codes "[") cs) (array_here read) _ (text_left (codes "[") cs h)
    (λ r l. in_made (AllByRecursion (IsListed levels)) P (λ ts. array (pack ts))
    (listed (codes "]") read r) (listed_gives (IsListed levels) (codes "]") read gives r l)
    (are_listed levels))
    (in_behind P (after_text (codes "#{") cs) (dict_here read) _ (text_left (codes "#{") cs h)
    (λ r l. in_made (AllByRecursion (IsEntry levels)) P (λ es. dict (pack_fields (put_all [] es)))
    (listed (codes "}") (entry_here read) r)
    (listed_gives (IsEntry levels) (codes "}") (entry_here read)
    (entry_gives levels read gives) r l) (map_listed levels))
    (in_behind P (after_text (codes "fn(") cs) (pointer_here read) _
    (text_left (codes "fn(") cs h)
    (λ r l. in_then IsUtf8 P (λ name. made (λ ts. pointer name.0 (pack ts))
    (all_others (codes ")") read name.1)) (text_here r) (text_gives r l)
    (λ name p m. in_made (AllByRecursion (IsListed levels)) P (λ ts. pointer name.0 (pack ts))
    (all_others (codes ")") read name.1)
    (others_give (IsListed levels) (codes ")") read gives (length name.1) name.1 m)
    (λ ts all. (p, are_listed levels ts all))))
    (flat_gives (suc levels) cs h)))

pub value_gives : (levels : ℕ) (cs : List ℕ) → scalars cs ≡ true →
    Yields (IsListed levels) (value levels cs)
unfolding value
value_gives zero cs h = flat_gives zero cs h
value_gives (suc levels) cs h = nesting_gives levels (value levels) (value_gives levels) cs h

pub read_listed : (levels : ℕ) (cs rest : List ℕ) (t : Tree) → scalars cs ≡ true →
    value levels cs ≡ Some (t, rest) → IsListed levels t
read_listed levels cs rest t h is =
    (subst (λ o. Yields (IsListed levels) o) is (value_gives levels cs h)).0
