-- Values, and the things of a list one after the other.
use Rattle.std.proofs.Common.{◌≡◌, ◌≢◌, ℕ, zero, suc, ◌-◌, ◌<◌, ◌≤◌, List, [], ◌∷◌, ◌++◌, Some, None, codes, refl, sym, ap, ◌∙◌, arith, append_assoc}
use Rattle.grain_value.specs.Tree.{Tree}
use Rattle.grain_value.specs.Maps.{Entries, put_entry}
use Rattle.grain_words.specs.Words.{after_text, after_sign}
use Rattle.grain_literals.specs.Values.{Found, made, onto, others, nesting, flat, put_all, value}

pub value_flat : (levels : ℕ) (cs : List ℕ) → levels ≡ 0 → value levels cs ≡ flat cs
unfolding value
value_flat zero cs h = refl
value_flat (suc n) cs h = absurd (omega arith)

pub value_nesting : (levels : ℕ) (cs : List ℕ) → levels ≢ 0 →
    value levels cs ≡ nesting (value (levels - 1)) cs
unfolding value
value_nesting zero cs h = absurd (omega arith)
value_nesting (suc n) cs h =
    let is : suc n - 1 ≡ n = omega arith in
    ap (λ k. nesting (value k) cs) (sym is)

pub list_over : {A B : Type 0} (f : List A → B) (end : List ℕ) (read : List ℕ → Found A) (n : ℕ)
    (cs after : List ℕ) (all : Found B) → 0 < n → Some after ≡ after_text end cs →
    made f (others end read n cs) ≡ all → Some (f [], after) ≡ all
unfolding others
list_over f end read zero cs after all h over e = absurd (omega arith)
list_over f end read (suc n) cs after all h over e = rw (← over) at e

pub no_sign : {A B : Type 0} (f : List A → B) (end : List ℕ) (read : List ℕ → Found A) (n : ℕ)
    (cs : List ℕ) (all : Found B) → 0 < n → None ≡ after_text end cs →
    None ≡ after_sign (codes ",") cs → made f (others end read n cs) ≡ all → None ≡ all
unfolding others
no_sign f end read zero cs all h going none e = absurd (omega arith)
no_sign f end read (suc n) cs all h going none e = rw (← going, ← none) at e

pub no_thing : {A B : Type 0} (f : List A → B) (end : List ℕ) (read : List ℕ → Found A) (n : ℕ)
    (cs start : List ℕ) (all : Found B) → 0 < n → None ≡ after_text end cs →
    Some start ≡ after_sign (codes ",") cs → None ≡ read start →
    made f (others end read n cs) ≡ all → None ≡ all
unfolding others
no_thing f end read zero cs start all h going sign none e = absurd (omega arith)
no_thing f end read (suc n) cs start all h going sign none e = rw (← going, ← sign, ← none) at e

pub no_room : {A B : Type 0} (f : List A → B) (end : List ℕ) (read : List ℕ → Found A) (n : ℕ)
    (cs : List ℕ) (all : Found B) → n ≤ 0 → made f (others end read n cs) ≡ all → None ≡ all
unfolding others
no_room f end read zero cs all h e = e
no_room f end read (suc n) cs all h e = absurd (omega arith)

made_onto : {A B : Type 0} (f g : List A → B) (x : A) (o : Found (List A)) →
    ((xs : List A) → g xs ≡ f (x ∷ xs)) → made g o ≡ made f (onto x o)
made_onto f g x None same = refl
made_onto f g x (Some found) same = ap (λ b. Some (b, found.1)) (same found.0)

one_more : {A B : Type 0} (f g : List A → B) (x : A) (end : List ℕ) (read : List ℕ → Found A)
    (n : ℕ) (cs start after : List ℕ) (all : Found B) → ((xs : List A) → g xs ≡ f (x ∷ xs)) →
    0 < n → None ≡ after_text end cs → Some start ≡ after_sign (codes ",") cs →
    Some (x, after) ≡ read start → made f (others end read n cs) ≡ all →
    made g (others end read (n - 1) after) ≡ all
unfolding others
one_more f g x end read zero cs start after all same h going sign found e = absurd (omega arith)
one_more f g x end read (suc n) cs start after all same h going sign found e =
    let is : suc n - 1 ≡ n = omega arith in
    ap (λ k. made g (others end read k after)) is ∙
    made_onto f g x (others end read n after) same ∙ (rw (← going, ← sign, ← found) at e)

pub another_value : (before : List Tree) (t : Tree) (end : List ℕ) (read : List ℕ → Found Tree)
    (n : ℕ) (cs start after : List ℕ) (all : Found (List Tree)) →
    0 < n → None ≡ after_text end cs → Some start ≡ after_sign (codes ",") cs →
    Some (t, after) ≡ read start → made (λ ts. before ++ ts) (others end read n cs) ≡ all →
    made (λ ts. (before ++ t ∷ []) ++ ts) (others end read (n - 1) after) ≡ all
another_value before t end read n cs start after all h going sign found e =
    one_more (λ ts. before ++ ts) (λ ts. (before ++ t ∷ []) ++ ts) t end read n cs start after all
    (append_assoc before (t ∷ [])) h going sign found e

pub another_entry : (before : Entries) (entry : List ℕ × Tree) (end : List ℕ)
    (read : List ℕ → Found (List ℕ × Tree)) (n : ℕ) (cs start after : List ℕ)
    (all : Found Entries) → 0 < n → None ≡ after_text end cs →
    Some start ≡ after_sign (codes ",") cs → Some (entry, after) ≡ read start →
    made (put_all before) (others end read n cs) ≡ all →
    made (put_all (put_entry entry.0 entry.1 before)) (others end read (n - 1) after) ≡ all
another_entry before entry end read n cs start after all h going sign found e =
    one_more (put_all before) (put_all (put_entry entry.0 entry.1 before)) entry end read n cs start
    after all (λ es. refl) h going sign found e
