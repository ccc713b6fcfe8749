-- The slots of a scope: what a write, a push and a cut do to the entries and to the spare slots.
use Rattle.std.proofs.Common.{◌≡◌, ◌∙◌, ◌<◌, ◌≤◌, ◌+◌, ◌-◌, ℕ, zero, suc, Bool, true, false, if◌then◌else◌, List, [], ◌∷◌, ◌++◌, length, take, drop, min, refl, sym, ap, arith, get_or, length-append, length-drop}
use Rattle.std.specs.Prelude.{All, slice_set}
use Rattle.std.proofs.Math.Seq.{take-set-lt}
use Rattle.std.proofs.Math.Path.{fun_ext}
use Rattle.std.proofs.lemmas.List.{drop-set-lt, drop_all, take_min, drop_min, length-take-le, drop-take}
use Rattle.std.proofs.lemmas.List.Elements.{All-nil, All-tail}
use Rattle.grain_value.specs.Scopes.{set_held, add_alias, set_alias}
use Rattle.grain_value.specs.Spare.{IsSpare, IsSpareFrom}
use Rattle.grain_value.proofs.Entries.{keeps_name}
use Rattle.grain_value.specs.declared.scopes.Entry.{Entry}
use Rattle.grain_value.specs.declared.values.Held.{Held}

set_length : (xs : List Entry) (i : ℕ) (e : Entry) → length (slice_set xs i e) ≡ length xs
set_length [] i e = refl
set_length (x ∷ xs) zero e = refl
set_length (x ∷ xs) (suc i) e = ap (λ (n : ℕ). suc n) (set_length xs i e)

spare_after : (h : ℕ) (xs : List Entry) → All IsSpare (drop h xs) → All IsSpare (drop (h + 1) xs)
spare_after h [] a = rw (drop_all {X = Entry} (h + 1) [] (omega arith)) (All-nil IsSpare)
spare_after zero (x ∷ xs) a = All-tail IsSpare x xs a
spare_after (suc h) (x ∷ xs) a =
    let one : suc h + 1 ≡ suc (h + 1) = omega arith in
    rw one (spare_after h xs a)

-- the first spare slot is used
pub used : (h : ℕ) (xs : List Entry) (e : Entry) → h < length xs → IsSpareFrom h xs →
    IsSpareFrom (h + 1) (slice_set xs h e)
used h xs e lt s = record {
  within = omega (arith, lt, set_length xs h e);
  spare = rw (drop-set-lt (h + 1) xs h e (omega arith)) (spare_after h xs s.spare);
}

take_within : (n h : ℕ) (xs : List Entry) → n ≤ h → take n (take h xs) ≡ take n xs
take_within zero h xs le = refl
take_within (suc n) zero xs le = absurd (omega (arith, le))
take_within (suc n) (suc h) [] le = refl
take_within (suc n) (suc h) (x ∷ xs) le =
    ap (λ (l : List Entry). x ∷ l) (take_within n h xs (omega (arith, le)))

below : (i h : ℕ) (xs : List Entry) (d : Entry) → i < h → get_or (take h xs) i d ≡ get_or xs i d
below i zero xs d lt = absurd (omega (arith, lt))
below i (suc h) [] d lt = refl
below zero (suc h) (x ∷ xs) d lt = refl
below (suc i) (suc h) (x ∷ xs) d lt = below i h xs d (omega (arith, lt))

-- the slot of an entry has that entry
pub entry_at : (i h : ℕ) (xs : List Entry) (e : Entry) → i < h → e ≡ get_or xs i e →
    e ≡ get_or (take h xs) i e
entry_at i h xs e lt is = is ∙ sym (below i h xs e lt)

-- a write of an entry that keeps its name
pub held_written : (h i : ℕ) (xs : List Entry) (e : Entry) (held : Held) → i < h → h ≤ length xs →
    e ≡ get_or xs i e →
    take h (slice_set xs i (record e { held = held })) ≡ set_held (take h xs) i held
held_written h i xs e held lt le is =
    take-set-lt h xs i (record e { held = held }) lt
    ∙ keeps_name (take h xs) i e held (omega (arith, lt, length-take-le h xs le))
    (entry_at i h xs e lt is)

drop_more : (a b : ℕ) (ys : List Entry) → drop a (drop b ys) ≡ drop (b + a) ys
drop_more a zero ys = ap (λ (k : ℕ). drop k ys) (omega arith)
drop_more a (suc b) [] =
    rw (drop_all {X = Entry} a [] (omega arith), drop_all {X = Entry} (suc b + a) [] (omega arith))
    refl
drop_more a (suc b) (y ∷ ys) =
    let one : suc b + a ≡ suc (b + a) = omega arith in
    rw one (drop_more a b ys)

drop_past : (s k : ℕ) (xs ys : List Entry) → s ≤ length xs → drop (s + k) (take s xs ++ ys) ≡
    drop k ys
drop_past zero k xs ys le = ap (λ (n : ℕ). drop n ys) (omega arith)
drop_past (suc s) k [] ys le = absurd (omega (arith, le))
drop_past (suc s) k (x ∷ xs) ys le =
    let one : suc s + k ≡ suc (s + k) = omega arith in
    rw one (drop_past s k xs ys (omega (arith, le)))

take_past : (s k : ℕ) (xs ys : List Entry) → s ≤ length xs →
    take (s + k) (take s xs ++ ys) ≡ take s xs ++ take k ys
take_past zero k xs ys le = ap (λ (n : ℕ). take n ys) (omega arith)
take_past (suc s) k [] ys le = absurd (omega (arith, le))
take_past (suc s) k (x ∷ xs) ys le =
    let one : suc s + k ≡ suc (s + k) = omega arith in
    rw one (ap (λ (l : List Entry). x ∷ l) (take_past s k xs ys (omega (arith, le))))

front_least : (n m : ℕ) (ys : List Entry) → m ≡ min n (length ys) → take m ys ≡ take n ys
front_least n m ys e = rw e (take_min n ys)

back_least : (n m : ℕ) (ys : List Entry) → m ≡ min n (length ys) → drop m ys ≡ drop n ys
back_least n m ys e = rw e (drop_min n ys)

-- the slots without those of some entries in the middle
pub removed_spare : (h s n : ℕ) (xs : List Entry) → s + n ≤ h → IsSpareFrom h xs →
    IsSpareFrom (h - n) (take s xs ++ drop (s + n) xs)
removed_spare h s n xs le is =
    let split : h - n ≡ s + (h - n - s) = omega (arith, le) in
    let far : s + n + (h - n - s) ≡ h = omega (arith, le) in
    let behind : drop (h - n) (take s xs ++ drop (s + n) xs) ≡ drop h xs =
    rw split (drop_past s (h - n - s) xs (drop (s + n) xs) (omega (arith, le, is.within))
    ∙ (drop_more (h - n - s) (s + n) xs ∙ ap (λ (k : ℕ). drop k xs) far)) in
    record {
      within = omega (
        arith,
        le,
        is.within,
        length-append (take s xs) (drop (s + n) xs),
        length-take-le s xs (omega (arith, le, is.within)),
        length-drop (s + n) xs,
      );
      spare = rw behind is.spare;
    }

-- the entries that are left where some are taken away from an index on
pub removed : (h start count s n : ℕ) (xs : List Entry) → s ≡ min start h →
    n ≡ min count (h - s) →
    h ≤ length xs → take (h - n) (take s xs ++ drop (s + n) xs)
    ≡ take start (take h xs) ++ drop (start + count) (take h xs)
removed h start count s n xs es en le =
    let long : length (take h xs) ≡ h = length-take-le h xs le in
    let low : s ≤ h = omega (arith, es) in
    let left : h - n ≡ s + (h - n - s) = omega (arith, es, en) in
    let far : s + n + (h - n - s) ≡ h = omega (arith, es, en) in
    let front : take s xs ≡ take start (take h xs) =
    sym (take_within s h xs low) ∙ front_least start s (take h xs) (omega (arith, es, long)) in
    let behind : take (h - n - s) (drop (s + n) xs) ≡ drop (start + count) (take h xs) =
    sym (drop-take (s + n) (h - n - s) xs)
    ∙ (ap (λ (k : ℕ). drop (s + n) (take k xs)) far
    ∙ back_least (start + count) (s + n) (take h xs) (omega (arith, es, en, long))) in
    rw left (take_past s (h - n - s) xs (drop (s + n) xs) (omega (arith, low, le))
    ∙ (ap (λ (l : List Entry). l ++ take (h - n - s) (drop (s + n) xs)) front
    ∙ ap (λ (l : List Entry). take start (take h xs) ++ l) behind))

-- the scope that an entry was lent from, once it is given back
pub lent_back : (h i : ℕ) (xs now : List Entry) (e : Entry) → take h xs ≡ now → i < h →
    h ≤ length xs → e ≡ get_or xs i e →
    (λ (held : Held). take h (slice_set xs i (record e { held = held })))
    ≡ set_held now i
lent_back h i xs now e same lt le is =
    fun_ext (λ (held : Held). held_written h i xs e held lt le is ∙
    ap (λ (l : List Entry). set_held l i held) same)

-- the slots where an entry is written
pub kept_spare : (h i : ℕ) (xs : List Entry) (e : Entry) → i < h → IsSpareFrom h xs →
    IsSpareFrom h (slice_set xs i e)
kept_spare h i xs e lt s = record {
  within = omega (arith, s.within, set_length xs i e);
  spare = rw (drop-set-lt h xs i e lt) s.spare;
}

alias_added : (es : List Entry) (i : ℕ) (e : Entry) (alias : List ℕ) → i < length es →
    e ≡ get_or es i e → slice_set es i (record e { aliases = add_alias alias e.aliases }) ≡
    set_alias es i alias
alias_added [] i e alias lt is = absurd (omega arith)
alias_added (x ∷ es) zero e alias lt is =
    ap (λ (y : Entry). record y { aliases = add_alias alias y.aliases } ∷ es) is
alias_added (x ∷ es) (suc i) e alias lt is =
    ap (λ (l : List Entry). x ∷ l) (alias_added es i e alias (omega arith) is)

alias_kept : (es : List Entry) (i : ℕ) (e : Entry) → i < length es → e ≡ get_or es i e →
    slice_set es i e ≡ es
alias_kept [] i e lt is = refl
alias_kept (x ∷ es) zero e lt is = ap (λ (y : Entry). y ∷ es) is
alias_kept (x ∷ es) (suc i) e lt is =
    ap (λ (l : List Entry). x ∷ l) (alias_kept es i e (omega arith) is)

-- the scope where an alias was added, or where there was no memory for it
pub alias_written : (added : Bool) (h i : ℕ) (xs now : List Entry) (e : Entry) (alias : List ℕ)
    (aliases : List (List ℕ)) → take h xs ≡ now → i < h → h ≤ length xs → e ≡ get_or xs i e →
    aliases ≡ (if added then add_alias alias e.aliases else e.aliases) →
    take h (slice_set xs i (record e { aliases = aliases }))
    ≡ (if added then set_alias now i alias else now)
alias_written true h i xs now e alias aliases same lt le is new =
    rw (← same, new) (take-set-lt h xs i (record e { aliases = add_alias alias e.aliases }) lt
    ∙ alias_added (take h xs) i e alias (omega (arith, lt, length-take-le h xs le))
    (entry_at i h xs e lt is))
alias_written false h i xs now e alias aliases same lt le is new =
    rw (← same, new) (take-set-lt h xs i e lt
    ∙ alias_kept (take h xs) i e (omega (arith, lt, length-take-le h xs le))
    (entry_at i h xs e lt is))
