-- What each frame has among what all frames have.
use Rattle.std.proofs.Common.{◌≡◌, ◌∙◌, ◌<◌, ◌≤◌, ◌==◌, ℕ, zero, suc, List, [], ◌∷◌, Bool, true, false, ◌++◌, ◌+◌, ◌-◌, Some, None, length, reverse, drop, slice_get, get_or, refl, sym, ap, subst, arith, length-append, length-drop}
use Rattle.std.specs.Prelude.{nat_le, slice_set}
use Rattle.std.proofs.lemmas.Bool.{eq-eqb, leb-true, leb-false}
use Rattle.std.proofs.lemmas.List.{reverse-append, reverse-reverse, length-reverse, get_or-reverse}
use Rattle.std.proofs.lemmas.Option.{slice_get_read, slice_get_within, slice_get-get_or, get_or_from_slice_get}
use Rattle.std.proofs.Math.Seq.{drop-length, drop-cons, set-append_seam}
use borrow.Author.Tests.{ne_eqb}
use Rattle.grain_stack.specs.declared.frame_entries.FrameEntry.{FrameEntry}
use Rattle.grain_stack.specs.Entries.{entries_at, IsOrdered, Becomes, first_of, with_first, newest_of, with_newest}

module _ {T : Type 0} where
  -- a frame further in than those of all entries has nothing
  pub none_further_in : (d k : ℕ) (es : List (FrameEntry T)) → d < k → IsOrdered d es →
      entries_at k es ≡ []
  none_further_in d k [] lt o = refl
  none_further_in d k (e ∷ es) lt o =
      let other : (e.depth == k) ≡ false = ne_eqb e.depth k (λ q. omega (arith, q, o.0, lt)) in
      rw other (none_further_in e.depth k es (omega (arith, o.0, lt)) o.1)

  -- where the newest entry is of another frame, this one has nothing
  pub none_left : (d : ℕ) (e : FrameEntry T) (es : List (FrameEntry T)) → IsOrdered d (e ∷ es) →
      (e.depth == d) ≡ false → entries_at d (e ∷ es) ≡ []
  none_left d e es o other = by_test (nat_le d e.depth) refl where
    by_test : (b : Bool) → nat_le d e.depth ≡ b → entries_at d (e ∷ es) ≡ []
    by_test true le =
        let here : (e.depth == d) ≡ true =
        eq-eqb e.depth d (omega (arith, leb-true d e.depth le, o.0)) in absurd cc
    by_test false less =
        none_further_in e.depth d (e ∷ es) (leb-false d e.depth less) (omega arith, o.1)

  -- where the frame has something, the newest entry is the frame's
  pub newest_here : (d : ℕ) (e : FrameEntry T) (es : List (FrameEntry T)) → IsOrdered d (e ∷ es) →
      0 < length (entries_at d (e ∷ es)) → e.depth ≡ d
  newest_here d e es o some = by_test (nat_le d e.depth) refl where
    by_test : (b : Bool) → nat_le d e.depth ≡ b → e.depth ≡ d
    by_test true le = omega (arith, leb-true d e.depth le, o.0)
    by_test false less =
        let none : entries_at d (e ∷ es) ≡ [] =
        none_further_in e.depth d (e ∷ es) (leb-false d e.depth less) (omega arith, o.1) in
        absurd (omega (arith, some, ap length none))

  -- entries that are no further in than a frame are no further in than one inside it
  pub ordered_up : (d k : ℕ) (es : List (FrameEntry T)) → d ≤ k → IsOrdered d es → IsOrdered k es
  ordered_up d k [] le o = tt
  ordered_up d k (e ∷ es) le o = (omega (arith, o.0, le), o.1)

  -- where the frame has nothing, all is of the frames around it
  pub ordered_down : (d : ℕ) (es : List (FrameEntry T)) → IsOrdered (suc d) es →
      entries_at (suc d) es ≡ [] → IsOrdered d es
  ordered_down d [] o none = tt
  ordered_down d (e ∷ es) o none = by_test (nat_le e.depth d) refl where
    by_test : (b : Bool) → nat_le e.depth d ≡ b → IsOrdered d (e ∷ es)
    by_test true le = (leb-true e.depth d le, o.1)
    by_test false more =
        let here : e.depth ≡ suc d = omega (arith, leb-false e.depth d more, o.0) in
        let some : e.item ∷ entries_at (suc d) es ≡ [] =
        rw (eq-eqb e.depth (suc d) here) at none in absurd cc

  -- the newest entry stands first among the frame's
  pub first_here : (d : ℕ) (e : FrameEntry T) (es : List (FrameEntry T)) → e.depth ≡ d →
      entries_at d (e ∷ es) ≡ e.item ∷ entries_at d es
  first_here d e es here = rw (eq-eqb e.depth d here) refl

  -- an entry of a frame is of none around it
  beside : (k : ℕ) (e : FrameEntry T) (es : List (FrameEntry T)) → k < e.depth →
      entries_at k (e ∷ es) ≡ entries_at k es
  beside k e es lt =
      let other : (e.depth == k) ≡ false = ne_eqb e.depth k (λ q. omega (arith, q, lt)) in
      rw other refl

  pub ordered_by : (d : ℕ) (es fs : List (FrameEntry T)) → es ≡ fs → IsOrdered d fs → IsOrdered d es
  ordered_by d es fs is o = subst (λ (l : List (FrameEntry T)). IsOrdered d l) (sym is) o

  -- ---- the newest entry

  -- a frame has something only if there is something
  pub some_there : (d : ℕ) (es : List (FrameEntry T)) → 0 < length (entries_at d es) → 0 < length es
  some_there d [] some = some
  some_there d (e ∷ es) some = omega arith

  -- of a frame that has something, the newest of all is the innermost
  pub newest_first : (d : ℕ) (es : List (FrameEntry T)) → IsOrdered d es →
      0 < length (entries_at d es) → newest_of es ≡ first_of (entries_at d es)
  newest_first d [] o some = absurd (omega (arith, some))
  newest_first d (e ∷ es) o some = rw (first_here d e es (newest_here d e es o some)) refl

  -- what stands last stands first the other way round
  pub last_first : (es : List (FrameEntry T)) (e : FrameEntry T) →
      slice_get es (length es - 1) ≡ Some e →
      (rest : List (FrameEntry T)) × (reverse es ≡ e ∷ rest)
  last_first es e last = by_cases (reverse es) refl where
    by_cases : (l : List (FrameEntry T)) → reverse es ≡ l →
        (rest : List (FrameEntry T)) × (reverse es ≡ e ∷ rest)
    by_cases [] is =
        let within : length es - 1 < length es = slice_get_within es (length es - 1) e last in
        absurd (omega (arith, within, length-reverse es, ap length is))
    by_cases (g ∷ rest) is =
        let within : length es - 1 < length es = slice_get_within es (length es - 1) e last in
        let at : get_or (reverse es) 0 e ≡ get_or es (length es - 1 - 0) e =
        get_or-reverse es 0 e (omega (arith, within)) in
        let here : get_or es (length es - 1) e ≡ e =
        get_or_from_slice_get es (length es - 1) e e last in
        let same : g ≡ e =
        sym (ap (λ l. get_or l 0 e) is) ∙ at ∙ ap (λ n. get_or es n e) (omega arith) ∙ here in
        (rest, is ∙ ap (λ x. x ∷ rest) same)

  -- the innermost frame has nothing where the last of all is of another frame, or there is none
  pub innermost_of_another : (d : ℕ) (items es : List (FrameEntry T)) (e : FrameEntry T) →
      reverse items ≡ es → IsOrdered d es → slice_get items (length items - 1) ≡ Some e →
      ¬ (e.depth ≡ d) → None ≡ first_of (entries_at d es)
  innermost_of_another d items es e is o last apart =
      let at = last_first items e last in
      let ordered : IsOrdered d (e ∷ at.0) = rw (sym is ∙ at.1) at o in
      rw (sym is ∙ at.1, none_left d e at.0 ordered (ne_eqb e.depth d apart)) refl

  pub innermost_of_none : (d : ℕ) (items es : List (FrameEntry T)) → reverse items ≡ es →
      slice_get items (length items - 1) ≡ None → None ≡ first_of (entries_at d es)
  innermost_of_none d [] es is none = rw (← is) refl
  innermost_of_none d (e ∷ items) es is none =
      let there = slice_get-get_or (e ∷ items) (length (e ∷ items) - 1) e (omega arith) in
      absurd (cc)

  -- what stands last is written
  set_last : (ys : List (FrameEntry T)) (e g : FrameEntry T) →
      slice_set (ys ++ e ∷ []) (length (ys ++ e ∷ []) - 1) g ≡ ys ++ g ∷ []
  set_last ys e g =
      let at : length (ys ++ e ∷ []) - 1 ≡ length ys = omega (arith, length-append ys (e ∷ [])) in
      rw at (set-append_seam ys e [] g)

  set_first : (es rest : List (FrameEntry T)) (e g : FrameEntry T) → reverse es ≡ e ∷ rest →
      reverse (slice_set es (length es - 1) g) ≡ g ∷ rest
  set_first es rest e g is =
      let back : reverse (e ∷ rest) ≡ reverse rest ++ e ∷ [] = reverse-append (e ∷ []) rest in
      let whole : es ≡ reverse rest ++ e ∷ [] = sym (reverse-reverse es) ∙ ap reverse is ∙ back in
      ap (λ (l : List (FrameEntry T)). reverse (slice_set l (length l - 1) g)) whole
      ∙ ap reverse (set_last (reverse rest) e g)
      ∙ reverse-append (reverse rest) (g ∷ [])
      ∙ ap (λ (l : List (FrameEntry T)). g ∷ l) (reverse-reverse rest)

  -- the last of n entries, by its place
  last_is : (items es : List (FrameEntry T)) (n : ℕ) (e : FrameEntry T) → n ≡ length items →
      reverse items ≡ es → 0 < length es → e ≡ get_or items (n - 1) e →
      (rest : List (FrameEntry T)) × (reverse items ≡ e ∷ rest)
  last_is items es n e en is some at =
      let last : slice_get items (length items - 1) ≡ Some e =
      slice_get_read items (length items) (length items - 1) e refl
      (omega (arith, some, length-reverse items, ap length is))
      (at ∙ ap (λ (k : ℕ). get_or items (k - 1) e) en) in
      last_first items e last

  pub last_at : (items es : List (FrameEntry T)) (n : ℕ) (e : FrameEntry T) → n ≡ length items →
      reverse items ≡ es → 0 < length es → e ≡ get_or items (n - 1) e → newest_of es ≡ Some e.item
  last_at items es n e en is some at = rw (sym is ∙ (last_is items es n e en is some at).1) refl

  pub last_written : (items es : List (FrameEntry T)) (n : ℕ) (e : FrameEntry T) →
      n ≡ length items → reverse items ≡ es → 0 < length es → e ≡ get_or items (n - 1) e →
      (w : T) → reverse (slice_set items (n - 1) (record e { item = w })) ≡ with_newest es w
  last_written items es n e en is some at w =
      let whole = last_is items es n e en is some at in
      let g : FrameEntry T = record e { item = w } in
      ap (λ (k : ℕ). reverse (slice_set items (k - 1) g)) en
      ∙ set_first items whole.0 e g whole.1
      ∙ ap (λ (l : List (FrameEntry T)). with_newest l w) (sym whole.1 ∙ is)

  -- what is put last stands first the other way round, and what is taken there stood first
  pub put_last : (items new es : List (FrameEntry T)) (e : FrameEntry T) → new ≡ items ++ e ∷ [] →
      reverse items ≡ es → reverse new ≡ e ∷ es
  put_last items new es e put is =
      ap reverse put ∙ reverse-append items (e ∷ [])
      ∙ ap (λ (l : List (FrameEntry T)). e ∷ l) is

  pub taken_last : (items rest es : List (FrameEntry T)) (e : FrameEntry T) →
      items ≡ rest ++ e ∷ [] → reverse items ≡ es → es ≡ e ∷ reverse rest
  taken_last items rest es e taken is =
      sym is ∙ ap reverse taken ∙ reverse-append rest (e ∷ [])

  -- ---- how many a frame has

  -- n of a frame's, the newest, were seen, and those that were not are in order
  abbrev pub Seen : ℕ → List (FrameEntry T) → ℕ → Type 0
  Seen d es n =
      (length (entries_at d es) ≡ n + length (entries_at d (drop n es))) × IsOrdered d (drop n es)

  -- the entry after those that were seen, of n
  next_unseen : (items : List (FrameEntry T)) (i n : ℕ) (e : FrameEntry T) → n ≡ length items →
      i < n → e ≡ get_or items (n - 1 - i) e →
      drop i (reverse items) ≡ e ∷ drop (i + 1) (reverse items)
  next_unseen items i n e en lt is =
      let there : i < length items = omega (arith, en, lt) in
      let within : i < length (reverse items) = omega (arith, there, length-reverse items) in
      let next : i + 1 ≡ suc i = omega arith in
      let last : e ≡ get_or items (length items - 1 - i) e =
      is ∙ ap (λ (k : ℕ). get_or items (k - 1 - i) e) en in
      let at : get_or (reverse items) i e ≡ e = get_or-reverse items i e there ∙ sym last in
      drop-cons (reverse items) i e within ∙ rw (at, next) refl

  -- one more of the frame's is seen
  pub one_more_seen : (d : ℕ) (items : List (FrameEntry T)) (i n : ℕ) (e : FrameEntry T) →
      n ≡ length items → i < n → e ≡ get_or items (n - 1 - i) e → e.depth ≡ d →
      Seen d (reverse items) i → Seen d (reverse items) (i + 1)
  one_more_seen d items i n e en lt is here seen =
      let at = next_unseen items i n e en lt is in
      let rest = drop (i + 1) (reverse items) in
      let first : entries_at d (drop i (reverse items)) ≡ e.item ∷ entries_at d rest =
      rw at (first_here d e rest here) in
      let ordered : IsOrdered d (e ∷ rest) = rw at at seen.1 in
      (omega (arith, seen.0, ap length first), rw here at ordered.1)

  -- all of the frame's were seen, since the next is of another frame
  pub all_seen : (d : ℕ) (items es : List (FrameEntry T)) (i n : ℕ) (e : FrameEntry T) →
      reverse items ≡ es → n ≡ length items → i < n → e ≡ get_or items (n - 1 - i) e →
      ¬ (e.depth ≡ d) → Seen d (reverse items) i → i ≡ length (entries_at d es)
  all_seen d items es i n e whole en lt is apart seen =
      let at = next_unseen items i n e en lt is in
      let rest = drop (i + 1) (reverse items) in
      let ordered : IsOrdered d (e ∷ rest) = rw at at seen.1 in
      let none : entries_at d (drop i (reverse items)) ≡ [] =
      rw at (none_left d e rest ordered (ne_eqb e.depth d apart)) in
      let count : i ≡ length (entries_at d (reverse items)) = omega (arith, seen.0, ap length none) in
      count ∙ ap (λ (l : List (FrameEntry T)). length (entries_at d l)) whole

  -- all of the frame's were seen, since there are no more
  pub none_unseen : (d : ℕ) (items es : List (FrameEntry T)) (i n : ℕ) → reverse items ≡ es →
      n ≡ length items → i ≡ n → Seen d (reverse items) i → n ≡ length (entries_at d es)
  none_unseen d items es i n whole en all seen =
      let past : i ≡ length (reverse items) = omega (arith, all, en, length-reverse items) in
      let none : drop i (reverse items) ≡ [] = rw past (drop-length (reverse items)) in
      let left : length (entries_at d (drop i (reverse items))) ≡ 0 =
      ap (λ (l : List (FrameEntry T)). length (entries_at d l)) none in
      let count : n ≡ length (entries_at d (reverse items)) = omega (arith, seen.0, left, all) in
      count ∙ ap (λ (l : List (FrameEntry T)). length (entries_at d l)) whole

  -- ---- what the innermost frame has becomes something else

  pub unchanged : (d : ℕ) (es : List (FrameEntry T)) → IsOrdered d es →
      Becomes d es es (entries_at d es)
  unchanged d es o = record { own = refl; outer = λ k lt. refl; ordered = o }

  composed : (d : ℕ) (a b c : List (FrameEntry T)) (xs ys : List T) → Becomes d a b xs →
      Becomes d b c ys → Becomes d a c ys
  composed d a b c xs ys first second = record {
    own = second.own;
    outer = λ k lt. second.outer k lt ∙ first.outer k lt;
    ordered = second.ordered;
  }

  -- one entry more
  pub pushed : (d : ℕ) (es : List (FrameEntry T)) (x : T) → IsOrdered d es →
      Becomes d es (record { depth = d; item = x } ∷ es) (x ∷ entries_at d es)
  pushed d es x o =
      let e : FrameEntry T = record { depth = d; item = x } in
      record {
        own = first_here d e es refl;
        outer = λ k lt. beside k e es lt;
        ordered = (omega arith, o);
      }

  -- one entry less
  pub popped : (d : ℕ) (e : FrameEntry T) (es : List (FrameEntry T)) → IsOrdered d (e ∷ es) →
      0 < length (entries_at d (e ∷ es)) → Becomes d (e ∷ es) es (entries_at d es)
  popped d e es o some =
      let here : e.depth ≡ d = newest_here d e es o some in
      record {
        own = refl;
        outer = λ k lt. sym (beside k e es (omega (arith, here, lt)));
        ordered = ordered_up e.depth d es o.0 o.1;
      }

  pub popped_first : (d : ℕ) (e : FrameEntry T) (es : List (FrameEntry T)) → IsOrdered d (e ∷ es) →
      0 < length (entries_at d (e ∷ es)) → entries_at d (e ∷ es) ≡ e.item ∷ entries_at d es
  popped_first d e es o some = first_here d e es (newest_here d e es o some)

  -- the newest entry is written
  pub written : (d : ℕ) (es : List (FrameEntry T)) (w : T) → IsOrdered d es →
      0 < length (entries_at d es) →
      Becomes d es (with_newest es w) (with_first w (entries_at d es))
  written d [] w o some = absurd (omega (arith, some))
  written d (e ∷ es) w o some =
      let here : e.depth ≡ d = newest_here d e es o some in
      let g : FrameEntry T = record e { item = w } in
      record {
        own =
            first_here d g es here
            ∙ ap (λ (xs : List T). with_first w xs) (sym (first_here d e es here));
        outer = λ k lt.
            beside k g es (omega (arith, here, lt)) ∙ sym (beside k e es (omega (arith, here, lt)));
        ordered = o;
      }

  -- the same by what the calls say of the lists
  pub pushed_at : (d n : ℕ) (old new : List (FrameEntry T)) (x : T) → IsOrdered d old → n ≡ d →
      new ≡ record { depth = n; item = x } ∷ old → Becomes d old new (x ∷ entries_at d old)
  pushed_at d n old new x o here is =
      let e : record { depth = d; item = x } ∷ old ≡ new =
      ap (λ (k : ℕ). record { depth = k; item = x } ∷ old) (sym here) ∙ sym is in
      subst (λ (l : List (FrameEntry T)). Becomes d old l (x ∷ entries_at d old)) e (pushed d old x o)

  pub popped_at : (d : ℕ) (old new : List (FrameEntry T)) (x : T) → IsOrdered d old →
      0 < length (entries_at d old) → (n : ℕ) × (old ≡ record { depth = n; item = x } ∷ new) →
      Becomes d old new (entries_at d new)
  popped_at d old new x o some taken =
      let e : FrameEntry T = record { depth = taken.0; item = x } in
      subst (λ (l : List (FrameEntry T)). Becomes d l new (entries_at d new)) (sym taken.1)
      (popped d e new (rw taken.1 at o) (rw taken.1 at some))

  pub popped_is : (d : ℕ) (old new : List (FrameEntry T)) (x : T) → IsOrdered d old →
      0 < length (entries_at d old) → (n : ℕ) × (old ≡ record { depth = n; item = x } ∷ new) →
      entries_at d old ≡ x ∷ entries_at d new
  popped_is d old new x o some taken =
      let e : FrameEntry T = record { depth = taken.0; item = x } in
      ap (λ (l : List (FrameEntry T)). entries_at d l) taken.1
      ∙ popped_first d e new (rw taken.1 at o) (rw taken.1 at some)

  pub cut_at : (d n count : ℕ) (old new : List (FrameEntry T)) → n ≡ d →
      Becomes n old new (drop (length (entries_at n old) - count) (entries_at n old)) →
      Becomes d old new (drop (length (entries_at d old) - count) (entries_at d old))
  cut_at d n count old new here cut =
      subst (λ (k : ℕ).
      Becomes k old new (drop (length (entries_at k old) - count) (entries_at k old))) here cut

  -- ---- a frame's entries are cut

  drop_next : (xs : List T) (k : ℕ) (x : T) (rest : List T) → drop k xs ≡ x ∷ rest →
      drop (suc k) xs ≡ rest
  drop_next [] zero x rest e = absurd cc
  drop_next [] (suc k) x rest e = absurd cc
  drop_next (h ∷ hs) zero x rest e = cc
  drop_next (h ∷ hs) (suc k) x rest e = drop_next hs k x rest e

  -- there is one more to cut
  pub more_to_cut : (d k : ℕ) (a b : List (FrameEntry T)) → k < length (entries_at d a) →
      Becomes d a b (drop k (entries_at d a)) → 0 < length (entries_at d b)
  more_to_cut d k a b lt cut =
      omega (arith, lt, ap length cut.own, length-drop k (entries_at d a))

  -- and it is cut
  pub one_more_cut : (d k : ℕ) (a b c : List (FrameEntry T)) (e : FrameEntry T) →
      k < length (entries_at d a) → Becomes d a b (drop k (entries_at d a)) → b ≡ e ∷ c →
      Becomes d a c (drop (k + 1) (entries_at d a))
  one_more_cut d k a b c e lt cut is =
      let now : Becomes d a (e ∷ c) (drop k (entries_at d a)) =
      subst (λ (l : List (FrameEntry T)). Becomes d a l (drop k (entries_at d a))) is cut in
      let some : 0 < length (entries_at d (e ∷ c)) = more_to_cut d k a (e ∷ c) lt now in
      let first : drop k (entries_at d a) ≡ e.item ∷ entries_at d c =
      sym now.own ∙ popped_first d e c now.ordered some in
      let next : k + 1 ≡ suc k = omega arith in
      let left : drop (k + 1) (entries_at d a) ≡ entries_at d c =
      rw next (drop_next (entries_at d a) k e.item (entries_at d c) first) in
      subst (λ (xs : List T). Becomes d a c xs) (sym left)
      (composed d a (e ∷ c) c (drop k (entries_at d a)) (entries_at d c) now
      (popped d e c now.ordered some))

-- nothing is left of what is dropped whole
pub all_dropped : {T : Type 0} (xs : List T) → drop (length xs - 0) xs ≡ []
all_dropped xs =
    let all : length xs - 0 ≡ length xs = omega arith in rw all (drop-length xs)
