-- The room of a list bounds nothing, where it is as long as the characters that are left.
use Rattle.std.proofs.Common.{◌≡◌, ◌≤◌, ◌-◌, ◌^◌, ℕ, zero, suc, Bool, true, false, cond, List, [], ◌∷◌, length, Option, Some, None, option_map, option_and_then, codes, nat_lt, refl, ap, subst, arith}
use Rattle.grain_value.specs.Tree.{Tree, unit, boolean, integer, character, text, blob, range, foreign, array, dict, pointer, pack, pack_fields}
use Rattle.grain_words.specs.Words.{after_text, after_sign, integer_here, number_here, quoted}
use Rattle.grain_words.specs.Characters as characters
use Rattle.grain_words.specs.Bytes.{hex_bytes}
use Rattle.grain_literals.specs.Values.{Found, behind, made, onto, closed, bounds, range_here, kind_and_number, foreign_here, plain, flat, text_here, others, all_others, listed, array_here, entry_here, put_all, dict_here, pointer_here, nesting, value}
use Rattle.grain_literals.proofs.Shorter.{Within, Left, Keeps, in_made, in_cond, in_behind, in_then, in_rest, in_pair, text_left, sign_left, sign_within, integer_keeps, number_keeps, quoted_keeps, character_keeps, bytes_keep}

closed_keeps : {A : Type 0} (n : ℕ) (end : List ℕ) (o : Found A) → Within n o →
    Within n (closed end o)
closed_keeps n end o w =
    in_then n (λ a. option_map (λ rest. (a.0, rest)) (after_text end a.1)) o w
    (λ a l. in_pair n a.0 (after_text end a.1) (text_left n end a.1 l))

bounds_keep : Keeps bounds
bounds_keep n cs h =
    in_then n (λ a. option_and_then (λ ds. made (λ b. (a.0, b)) (integer_here ds))
    (after_sign (codes ",") a.1)) (integer_here cs) (integer_keeps n cs h)
    (λ a l. in_rest n (λ ds. made (λ b. (a.0, b)) (integer_here ds)) (after_sign (codes ",") a.1)
    (sign_within n 44 a.1 l)
    (λ ds m. in_made n (λ b. (a.0, b)) (integer_here ds) (integer_keeps n ds m)))

range_keeps : (inclusive : Bool) → Keeps (range_here inclusive)
range_keeps inclusive n cs h =
    in_made n (λ b. range b.0 b.1 inclusive) (closed (codes ")") (bounds cs))
    (closed_keeps n (codes ")") (bounds cs) (bounds_keep n cs h))

kind_keeps : Keeps kind_and_number
kind_keeps n cs h =
    in_then n (λ k. cond (nat_lt k.0 16) None
    (option_and_then (λ ds. made (λ m. (k.0, m)) (number_here (2 ^ 64 - 1) ds))
    (after_sign (codes ",") k.1))) (number_here (2 ^ 32 - 1) cs) (number_keeps (2 ^ 32 - 1) n cs h)
    (λ k l. in_cond n (nat_lt k.0 16) None
    (option_and_then (λ ds. made (λ m. (k.0, m)) (number_here (2 ^ 64 - 1) ds))
    (after_sign (codes ",") k.1)) tt
    (in_rest n (λ ds. made (λ m. (k.0, m)) (number_here (2 ^ 64 - 1) ds))
    (after_sign (codes ",") k.1) (sign_within n 44 k.1 l)
    (λ ds m. in_made n (λ m. (k.0, m)) (number_here (2 ^ 64 - 1) ds)
    (number_keeps (2 ^ 64 - 1) n ds m))))

foreign_keeps : Keeps foreign_here
foreign_keeps n cs h =
    in_made n (λ b. foreign b.0 b.1) (closed (codes ")") (kind_and_number cs))
    (closed_keeps n (codes ")") (kind_and_number cs) (kind_keeps n cs h))

plain_keeps : Keeps plain
plain_keeps n cs h =
    let after = λ (t : List ℕ). text_left n t cs h in
    in_behind n (after_text (codes "()") cs) (λ rest. Some (unit, rest)) _
    (after (codes "()")) (λ r l. l)
    (in_behind n (after_text (codes "true") cs) (λ rest. Some (boolean true, rest)) _
    (after (codes "true")) (λ r l. l)
    (in_behind n (after_text (codes "false") cs) (λ rest. Some (boolean false, rest)) _
    (after (codes "false")) (λ r l. l)
    (in_behind n (after_text (codes "'") cs)
    (λ rest. made character (characters.character rest)) _ (after (codes "'"))
    (λ r l. in_made n character (characters.character r) (character_keeps n r l))
    (in_behind n (after_text (codes "range(") cs) (range_here false) _ (after (codes "range("))
    (range_keeps false n)
    (in_behind n (after_text (codes "range=(") cs) (range_here true) _ (after (codes "range=("))
    (range_keeps true n)
    (in_behind n (after_text (codes "foreign(") cs) foreign_here _ (after (codes "foreign("))
    (foreign_keeps n)
    (in_made n integer (integer_here cs) (integer_keeps n cs h))))))))

flat_keeps : Keeps flat
flat_keeps n cs h =
    in_behind n (after_text (codes "\"") cs) (λ rest. made text (quoted rest)) _
    (text_left n (codes "\"") cs h) (λ r l. in_made n text (quoted r) (quoted_keeps n r l))
    (in_behind n (after_text (codes "blob(") cs) (λ rest. made blob (hex_bytes rest)) _
    (text_left n (codes "blob(") cs h) (λ r l. in_made n blob (hex_bytes r) (bytes_keep n r l))
    (plain_keeps n cs h))

text_keeps : Keeps text_here
text_keeps n cs h =
    in_behind n (after_text (codes "\"") cs) quoted None (text_left n (codes "\"") cs h)
    (quoted_keeps n) tt

others_keep : {A : Type 0} (end : List ℕ) (read : List ℕ → Found A) → Keeps read → (room : ℕ) →
    Keeps (others end read room)
unfolding others
others_keep end read keeps zero n cs h = tt
others_keep end read keeps (suc room) n cs h =
    in_behind n (after_text end cs) (λ rest. Some ([], rest)) _ (text_left n end cs h) (λ r l. l)
    (in_rest n (λ ds. option_and_then (λ a. onto a.0 (others end read room a.1)) (read ds))
    (after_sign (codes ",") cs) (sign_within n 44 cs h)
    (λ ds l. in_then n (λ a. onto a.0 (others end read room a.1)) (read ds) (keeps n ds l)
    (λ a m. in_made n (λ xs. a.0 ∷ xs) (others end read room a.1)
    (others_keep end read keeps room n a.1 m))))

listed_keeps : {A : Type 0} (end : List ℕ) (read : List ℕ → Found A) → Keeps read →
    Keeps (listed end read)
listed_keeps end read keeps n cs h =
    in_behind n (after_text end cs) (λ rest. Some ([], rest)) _ (text_left n end cs h) (λ r l. l)
    (in_then n (λ a. onto a.0 (all_others end read a.1)) (read cs) (keeps n cs h)
    (λ a m. in_made n (λ xs. a.0 ∷ xs) (all_others end read a.1)
    (others_keep end read keeps (length a.1) n a.1 m)))

entry_keeps : (read : List ℕ → Found Tree) → Keeps read → Keeps (entry_here read)
entry_keeps read keeps n cs h =
    in_then n (λ k. option_and_then (λ ds. made (λ t. (k.0, t)) (read ds))
    (after_sign (codes ":") k.1)) (text_here cs) (text_keeps n cs h)
    (λ k l. in_rest n (λ ds. made (λ t. (k.0, t)) (read ds)) (after_sign (codes ":") k.1)
    (sign_within n 58 k.1 l) (λ ds m. in_made n (λ t. (k.0, t)) (read ds) (keeps n ds m)))

nesting_keeps : (read : List ℕ → Found Tree) → Keeps read → Keeps (nesting read)
nesting_keeps read keeps n cs h =
    in_behind n (after_text (codes "[") cs) (array_here read) _ (text_left n (codes "[") cs h)
    (λ r l. in_made n (λ ts. array (pack ts)) (listed (codes "]") read r)
    (listed_keeps (codes "]") read keeps n r l))
    (in_behind n (after_text (codes "#{") cs) (dict_here read) _ (text_left n (codes "#{") cs h)
    (λ r l. in_made n (λ es. dict (pack_fields (put_all [] es)))
    (listed (codes "}") (entry_here read) r)
    (listed_keeps (codes "}") (entry_here read) (entry_keeps read keeps) n r l))
    (in_behind n (after_text (codes "fn(") cs) (pointer_here read) _
    (text_left n (codes "fn(") cs h)
    (λ r l. in_then n (λ name. made (λ ts. pointer name.0 (pack ts))
    (all_others (codes ")") read name.1)) (text_here r) (text_keeps n r l)
    (λ name m. in_made n (λ ts. pointer name.0 (pack ts)) (all_others (codes ")") read name.1)
    (others_keep (codes ")") read keeps (length name.1) n name.1 m)))
    (flat_keeps n cs h)))

value_keeps : (levels : ℕ) → Keeps (value levels)
unfolding value
value_keeps zero n cs h = flat_keeps n cs h
value_keeps (suc levels) n cs h = nesting_keeps (value levels) (value_keeps levels) n cs h

then_same : {A B : Type 0} (f g : A → Option B) (o : Option A) →
    ((x : A) → o ≡ Some x → f x ≡ g x) → option_and_then f o ≡ option_and_then g o
then_same f g None same = refl
then_same f g (Some x) same = same x refl

same_room : {A : Type 0} (c : ℕ) (read : List ℕ → Found A) → Keeps read → (m n : ℕ)
    (cs : List ℕ) → length cs ≤ m → length cs ≤ n →
    others (c ∷ []) read m cs ≡ others (c ∷ []) read n cs
unfolding others
same_room c read keeps zero zero cs hm hn = refl
same_room c read keeps zero (suc n) [] hm hn = refl
same_room c read keeps zero (suc n) (d ∷ cs) hm hn = absurd (omega arith)
same_room c read keeps (suc m) zero [] hm hn = refl
same_room c read keeps (suc m) zero (d ∷ cs) hm hn = absurd (omega arith)
same_room c read keeps (suc m) (suc n) cs hm hn =
    ap (λ o. behind (after_text (c ∷ []) cs) (λ rest. Some ([], rest)) o)
    (then_same (λ ds. option_and_then (λ a. onto a.0 (others (c ∷ []) read m a.1)) (read ds))
    (λ ds. option_and_then (λ a. onto a.0 (others (c ∷ []) read n a.1)) (read ds))
    (after_sign (codes ",") cs)
    (λ ds sign. then_same (λ a. onto a.0 (others (c ∷ []) read m a.1))
    (λ a. onto a.0 (others (c ∷ []) read n a.1)) (read ds)
    (λ a is. ap (onto a.0) (same_room c read keeps m n a.1
    (subst (Within m) is (keeps m ds (subst (Left m) sign (sign_left m 44 cs hm))))
    (subst (Within n) is (keeps n ds (subst (Left n) sign (sign_left n 44 cs hn))))))))

pub values_room : (c levels room : ℕ) (cs : List ℕ) → length cs ≤ room →
    others (c ∷ []) (value levels) room cs ≡ all_others (c ∷ []) (value levels) cs
values_room c levels room cs h =
    same_room c (value levels) (value_keeps levels) room (length cs) cs h (omega arith)

pub entries_room : (levels room : ℕ) (cs : List ℕ) → length cs ≤ room →
    others (codes "}") (entry_here (value levels)) room cs ≡
    all_others (codes "}") (entry_here (value levels)) cs
entries_room levels room cs h =
    same_room 125 (entry_here (value levels)) (entry_keeps (value levels) (value_keeps levels)) room
    (length cs) cs h (omega arith)
