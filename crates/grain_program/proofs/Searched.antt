-- The state of the search, as the code has it, and what it stands for.
use Rattle.std.proofs.Common.{◌≡◌, ℕ, zero, suc, ◌+◌, ◌≤◌, List, [], ◌∷◌, length, map, replicate, Option, Some, None, Result, Ok, refl, sym, ap, subst, ◌∙◌, arith}
use Rattle.std.specs.Prelude.{MatchOption}
use Rattle.std.specs.Ordering.{nat_cmp}
use Rattle.std.specs.BTreeSet.{insert_key}
use Rattle.std.proofs.Math.ListN.{set, get_or-map}
use Rattle.std.proofs.lemmas.List.{map-set, length-map}
use Rattle.grain_program.specs.declared.code.instruction_set.Op.{Op}
use Rattle.grain_program.specs.declared.code.effects.Effect.{Effect}
use Rattle.grain_program.specs.declared.verifier.shapes.NumberedShape.{NumberedShape}
use Rattle.grain_program.specs.declared.verifier.refusals.Refusal.{Refusal}
use Rattle.grain_program.specs.Decoding.{op_at}
use Rattle.grain_program.specs.View.{View}
use Rattle.grain_program.specs.Effects.{effect_of}
use Rattle.grain_program.specs.Shapes.{TryHandler, Shape, shape, arrivals, shape_after, shape_at}
use Rattle.grain_program.specs.HandlerLists.{Grows}
use Rattle.grain_program.specs.Numbered.{numbered_at, shape_of, known_of, AreNumbered, Search, state_of}
use Rattle.grain_program.specs.Typing.{AnalysisState, ◌>>=◌, nothing_seen, with_lowest, meets, arrive, arrive_all, take_op, take_at, Gives}

-- ---- the numbers of known shapes

module _ (ls : List (List TryHandler)) where
  -- a shape that is known has the number of a list
  pub numbered : (shapes : List (Option NumberedShape)) (a : ℕ) (s : NumberedShape)
      → AreNumbered ls shapes → numbered_at shapes a ≡ Some s → s.list ≤ length ls
  numbered [] a s h e = absurd cc
  numbered (None ∷ shapes) zero s h e = absurd cc
  numbered (Some t ∷ shapes) zero s h e =
      let same : t ≡ s = cc in subst (λ (x : NumberedShape). x.list ≤ length ls) same h.0
  numbered (None ∷ shapes) (suc a) s h e = numbered shapes a s h e
  numbered (Some t ∷ shapes) (suc a) s h e = numbered shapes a s h.1 e

  pub numbered_put : (shapes : List (Option NumberedShape)) (a : ℕ) (s : NumberedShape)
      → AreNumbered ls shapes → s.list ≤ length ls → AreNumbered ls (set shapes a (Some s))
  numbered_put [] a s h le = tt
  numbered_put (None ∷ shapes) zero s h le = (le, h)
  numbered_put (Some t ∷ shapes) zero s h le = (le, h.1)
  numbered_put (None ∷ shapes) (suc a) s h le = numbered_put shapes a s h le
  numbered_put (Some t ∷ shapes) (suc a) s h le = (h.0, numbered_put shapes a s h.1 le)

  pub none_numbered : (n : ℕ) (shapes : List (Option NumberedShape))
      → shapes ≡ replicate n None → AreNumbered ls shapes
  none_numbered n shapes e = subst (AreNumbered ls) (sym e) (none n) where
    none : (n : ℕ) → AreNumbered ls (replicate n None)
    none zero = tt
    none (suc n) = none n

  -- ---- a longer table

  module _ (more : List (List TryHandler)) (g : Grows ls more) where
    pub numbered_still : (shapes : List (Option NumberedShape)) → AreNumbered ls shapes
        → AreNumbered more shapes
    numbered_still [] h = tt
    numbered_still (None ∷ shapes) h = numbered_still shapes h
    numbered_still (Some s ∷ shapes) h =
        (omega (arith, h.0, g.longer), numbered_still shapes h.1)

    shape_still : (s : NumberedShape) → s.list ≤ length ls → shape_of more s ≡ shape_of ls s
    shape_still s le = ap (shape s.height s.cursors) (g.keeps s.list le)

    known_still : (shapes : List (Option NumberedShape)) → AreNumbered ls shapes
        → map (known_of more) shapes ≡ map (known_of ls) shapes
    known_still [] h = refl
    known_still (None ∷ shapes) h =
        ap (λ (xs : List (Option Shape)). None ∷ xs) (known_still shapes h)
    known_still (Some s ∷ shapes) h =
        ap (λ (x : Shape). Some x ∷ map (known_of more) shapes) (shape_still s h.0)
        ∙ ap (λ (xs : List (Option Shape)). Some (shape_of ls s) ∷ xs) (known_still shapes h.1)

abbrev state : List ℕ → List (Option Shape) → AnalysisState
state waiting xs = record { shapes = xs; waiting = waiting }

abbrev search_of : List (List TryHandler) → List (Option NumberedShape) → List ℕ → Search
search_of ls shapes waiting = record { shapes = shapes; waiting = waiting; lists = ls }

-- with a longer table the state is the same
state_still : (shapes : List (Option NumberedShape)) (waiting : List ℕ)
    (ls more : List (List TryHandler)) → Grows ls more → AreNumbered ls shapes
    → state_of (record { shapes = shapes; waiting = waiting; lists = more })
    ≡ state_of (record { shapes = shapes; waiting = waiting; lists = ls })
state_still shapes waiting ls more g h =
    ap (state waiting) (known_still ls more g shapes h)

-- a fact of the state, with a longer table
pub still_so : (P : AnalysisState → Type 0) (f : Search) (shapes : List (Option NumberedShape))
    (waiting : List ℕ) (ls more : List (List TryHandler))
    → ◌≡◌ {A = Search} (record { shapes = shapes; waiting = waiting; lists = ls }) f
    → Grows ls more → AreNumbered ls shapes → P (state_of f)
    → P (state_of (record { shapes = shapes; waiting = waiting; lists = more }))
still_so P f shapes waiting ls more same g h fact =
    subst P (sym (state_still shapes waiting ls more g h))
    (subst (λ (x : Search). P (state_of x)) (sym same) fact)

-- ---- what is known at an address

known_at : (f : Search) (a : ℕ)
    → shape_at (state_of f).shapes a ≡ known_of f.lists (numbered_at f.shapes a)
known_at f a = get_or-map (known_of f.lists) f.shapes a None

pub places : (f : Search) → length (state_of f).shapes ≡ length f.shapes
places f = length-map f.shapes (known_of f.lists)

-- ---- an arrival

module _ (f : Search) (s : NumberedShape) (a : ℕ) where
  abbrev put : Search
  put = record {
    shapes = set f.shapes a (Some s);
    waiting = insert_key nat_cmp f.waiting a;
    lists = f.lists;
  }

  -- where none was known, it is noted
  put_is : numbered_at f.shapes a ≡ None
      → arrive (shape_of f.lists s) (state_of f) a ≡ Ok (state_of put)
  put_is e =
      ap (meets a (shape_of f.lists s) (state_of f)) (known_at f a ∙ ap (known_of f.lists) e)
      ∙ ap (λ (xs : List (Option Shape)). Ok (state (insert_key nat_cmp f.waiting a) xs))
      (sym (map-set (known_of f.lists) f.shapes a (Some s)))

-- the same, of what the code has afterwards
pub put_on : (f : Search) (s : NumberedShape) (a : ℕ) (shapes now : List (Option NumberedShape))
    (waiting later : List ℕ) (ls : List (List TryHandler))
    → ◌≡◌ {A = Search} (record { shapes = shapes; waiting = waiting; lists = ls }) f
    → numbered_at shapes a ≡ None → now ≡ set shapes a (Some s)
    → later ≡ insert_key nat_cmp waiting a
    → arrive (shape_of f.lists s) (state_of f) a
    ≡ Ok (state_of (record { shapes = now; waiting = later; lists = ls }))
put_on f s a shapes now waiting later ls same none e w =
    subst (λ (g : Search). arrive (shape_of g.lists s) (state_of g) a
    ≡ Ok (state_of (record { shapes = now; waiting = later; lists = ls }))) same
    (put_is (search_of ls shapes waiting) s a none
    ∙ ap (λ (xs : List (Option NumberedShape)). Ok (state_of (search_of ls xs (insert_key nat_cmp
    waiting a)))) (sym e)
    ∙ ap (λ (ws : List ℕ). Ok (state_of (search_of ls now ws))) (sym w))

-- a table without shapes is where the search begins
pub new_is : (n : ℕ) (shapes : List (Option NumberedShape)) (waiting : List ℕ)
    (ls : List (List TryHandler)) → shapes ≡ replicate n None → waiting ≡ []
    → state_of (record { shapes = shapes; waiting = waiting; lists = ls }) ≡ nothing_seen n
new_is n shapes waiting ls e w =
    ap (λ (xs : List (Option NumberedShape)). state_of (search_of ls xs waiting)) e
    ∙ ap (λ (ws : List ℕ). state_of (search_of ls (replicate n None) ws)) w
    ∙ ap (state []) (none n) where
      none : (n : ℕ) → map (known_of ls) (replicate n None) ≡ replicate n None
      none zero = refl
      none (suc n) = ap (λ (xs : List (Option Shape)). None ∷ xs) (none n)

-- the lowest address that waits is taken out
pub lowest_of : (o : Option ℕ) (f : Search) (shapes : List (Option NumberedShape))
    (waiting now : List ℕ) (ls : List (List TryHandler))
    → ◌≡◌ {A = Search} (record { shapes = shapes; waiting = waiting; lists = ls }) f
    → MatchOption o ((waiting ≡ []) × (now ≡ waiting)) (λ a. waiting ≡ a ∷ now)
    → MatchOption o ((f.waiting ≡ [])
    × ◌≡◌ {A = Search} (record { shapes = shapes; waiting = now; lists = ls }) f)
    (λ a. state_of f
    ≡ with_lowest a (state_of (record { shapes = shapes; waiting = now; lists = ls })))
lowest_of None f shapes waiting now ls same h =
    (ap (λ (g : Search). g.waiting) (sym same) ∙ h.0, ap (search_of ls shapes) h.1 ∙ same)
lowest_of (Some a) f shapes waiting now ls same h =
    ap state_of (sym same) ∙ ap (λ (ws : List ℕ). state_of (search_of ls shapes ws)) h

-- ---- one instruction

module _ (p : View) (max a : ℕ) (f : Search) (r : Op × ℕ) (s : NumberedShape)
    (is : op_at p.code a ≡ Some r) (known : numbered_at f.shapes a ≡ Some s) where
  taking : take_at p max a (state_of f)
      ≡ (shape_after max a (effect_of p r.0) (shape_of f.lists s) >>= λ t. arrive_all
      (arrivals p (effect_of p r.0) (a + r.1) t) (state_of f))
  taking = ap (λ (o : Option (Op × ℕ)). take_op p max a (state_of f) o (shape_at (state_of f).shapes
      a)) is
      ∙ ap (λ (o : Option Shape). take_op p max a (state_of f) (Some r) o) (known_at f a
      ∙ ap (known_of f.lists) known)

  -- the shape after it comes to where it leads
  stepped_on : (g : AnalysisState) (t : Shape) (o : Result (Unit {0}) Refusal)
      → shape_after max a (effect_of p r.0) (shape_of f.lists s) ≡ Ok t
      → Gives g o (arrive_all (arrivals p (effect_of p r.0) (a + r.1) t) (state_of f))
      → Gives g o (take_at p max a (state_of f))
  stepped_on g t o e h =
      subst (Gives g o) (sym (taking ∙ ap (λ (x : Result Shape Refusal). x >>= λ t. arrive_all
      (arrivals p (effect_of p r.0) (a + r.1) t) (state_of f)) e)) h

-- the same, of what the code has before and after
pub taken_on : (p : View) (max a : ℕ) (f : Search) (shapes : List (Option NumberedShape))
    (waiting : List ℕ) (ls more : List (List TryHandler))
    → ◌≡◌ {A = Search} (record { shapes = shapes; waiting = waiting; lists = ls }) f
    → AreNumbered ls shapes → Grows ls more → (r : Op × ℕ) → op_at p.code a ≡ Some r
    → (s : NumberedShape) → numbered_at shapes a ≡ Some s
    → (e : Effect) → e ≡ effect_of p r.0 → (g : AnalysisState) (t : Shape)
    (o : Result (Unit {0}) Refusal) → shape_after max a e (shape_of ls s) ≡ Ok t
    → Gives g o (arrive_all (arrivals p e (a + r.1) t) (state_of (record {
      shapes = shapes;
      waiting = waiting;
      lists = more;
    })))
    → Gives g o (take_at p max a (state_of f))
taken_on p max a f shapes waiting ls more same numbers grows r is s known e row g t o k h =
    subst (λ (x : Search). Gives g o (take_at p max a (state_of x))) same
    (stepped_on p max a (search_of ls shapes waiting) r s is known g t o
    (subst (λ (x : Effect). shape_after max a x (shape_of ls s) ≡ Ok t) row k)
    (subst (λ (x : Effect). Gives g o (arrive_all (arrivals p x (a + r.1) t) (state_of (search_of ls
    shapes waiting)))) row
    (subst (λ (x : AnalysisState). Gives g o (arrive_all (arrivals p e (a + r.1) t) x))
    (state_still shapes waiting ls more grows numbers) h)))
