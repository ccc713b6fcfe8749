-- The loop over the instructions of one chunk, as the code has it.
use Rattle.std.proofs.Common.{◌≡◌, ℕ, zero, suc, ◌+◌, ◌<◌, ◌≤◌, ◌⊎◌, List, [], ◌∷◌, length, Some, None, Result, Ok, Err, refl, sym, ap, subst, ◌∙◌, inl, inr, arith}
use Rattle.std.specs.Prelude.{slice_get}
use Rattle.std.specs.List.{AllByRecursion}
use Rattle.grain_program.specs.declared.code.instruction_set.Op.{Op}
use Rattle.grain_program.specs.declared.code.parts.Chunk.{Chunk}
use Rattle.grain_program.specs.declared.verifier.refusals.Refusal.{Refusal}
use Rattle.grain_program.specs.declared.verifier.refusals.Refusal.TheVariants.{Memory}
use Rattle.grain_program.specs.View.{View}
use Rattle.grain_program.specs.Decoding.{op_at}
use Rattle.grain_program.specs.Effects.{effect_of, leads_of}
use Rattle.grain_program.specs.Starts.{Start}
use Rattle.grain_program.specs.laws.Starts.{start_first, start_within}
use Rattle.grain_program.specs.Rules.{IsSplit}
use Rattle.grain_program.specs.Shapes.{Shape, bare, Arrival, arrival, arrivals, shape_at}
use Rattle.grain_program.specs.Typing.{In, HasTyping, AnalysisState, ◌>>=◌, arrive, take_at, take_lowest, with_lowest, take_all, analyse_chunk, analyse_from, analysis, Ready, IsAnalysable}
use Rattle.grain_program.proofs.Tiles.{is_tiled}
use Rattle.grain_program.proofs.Cells.{free}
use Rattle.grain_program.proofs.Grows.{addresses, known_there, where_it_reaches, Spread, arrive_spread, Moved, moved}
use Rattle.grain_program.proofs.Worklists.{free_within, take_none, inside, closed}
use Rattle.grain_program.proofs.AllChunks.{has_typing}

-- a fact of each number in a list
all_in : (P : ℕ → Type 0) (bs : List ℕ) → ((b : ℕ) → In b bs → P b) → AllByRecursion P bs
all_in P [] h = tt
all_in P (b ∷ bs) h = (h b (inl refl), all_in P bs (λ x i. h x (inr i)))

-- the loop has come so far: what is left of it gives what all of it gives, and is long enough
pub record Taking (p : View) (c : Chunk) (before f : AnalysisState) : Type 0 where
  pub left : ℕ
  pub is : take_all p c.max_stack left f ≡ analyse_chunk p c before
  pub enough : free f.shapes + length f.waiting ≤ left
  pub long : length f.shapes ≡ length p.code
  pub known : (a : ℕ) → In a f.waiting → (s : Shape) × (shape_at f.shapes a ≡ Some s)
  pub mine : (a : ℕ) → In a f.waiting → Start p.code c a

module _ (p : View) (c : Chunk) (before : AnalysisState) (w : IsAnalysable p c before) where
  within : (a : ℕ) → Start p.code c a → a < length p.code
  within a s = let x = start_within p.code c a s in omega (arith, x.1, w.inside)

  pub entry_within : c.entry < length before.shapes
  entry_within = omega (arith, w.full, w.inside, w.room)

  pub entered : (f : AnalysisState) → arrive bare before c.entry ≡ Ok f → Taking p c before f
  unfolding analyse_chunk
  entered f ok = record {
    left = length p.code;
    is = sym (ap (λ (x : Result AnalysisState Refusal). x >>= λ g. take_all p c.max_stack
        (length p.code) g) ok);
    enough = omega (arith, spread.less, ap length w.none, free_within before.shapes, w.room);
    long = spread.long ∙ w.room;
    known = λ a i. known a (spread.fresh a i);
    mine = λ a i. mine a (spread.fresh a i);
  } where
    spread : Spread before f (arrival c.entry bare ∷ [])
    spread = arrive_spread bare before f c.entry entry_within ok

    known : (a : ℕ) → In a before.waiting ⊎ In a (c.entry ∷ [])
        → (s : Shape) × (shape_at f.shapes a ≡ Some s)
    known a (inl i) = absurd (subst (In a) w.none i)
    known a (inr i) = known_there before f (arrival c.entry bare ∷ []) spread a i

    at : (a : ℕ) → In a (c.entry ∷ []) → Start p.code c a
    at a (inl same) = subst (Start p.code c) (sym same) (start_first p.code c w.full)
    at a (inr i) = absurd i

    mine : (a : ℕ) → In a before.waiting ⊎ In a (c.entry ∷ []) → Start p.code c a
    mine a (inl i) = absurd (subst (In a) w.none i)
    mine a (inr i) = at a i

  pub not_entered : (r : Refusal) → (r ≡ Memory) ⊎ (arrive bare before c.entry ≡ Err r)
      → (r ≡ Memory) ⊎ (analyse_chunk p c before ≡ Err r)
  unfolding analyse_chunk
  not_entered r (inl m) = inl m
  not_entered r (inr e) = inr (ap (λ (x : Result AnalysisState Refusal). x >>= λ g. take_all p
      c.max_stack (length p.code) g) e)

  -- the address is the lowest that waits, and the others wait still
  module _ (f g : AnalysisState) (a : ℕ) (so : Taking p c before f) (e : f ≡ with_lowest a g)
    where
      waits : f.waiting ≡ a ∷ g.waiting
      waits = ap (λ (x : AnalysisState). x.waiting) e

      shapes : f.shapes ≡ g.shapes
      shapes = ap (λ (x : AnalysisState). x.shapes) e

      here : In a f.waiting
      here = subst (In a) (sym waits) (inl refl)

      start : Start p.code c a
      start = so.mine a here

      known : (t : Shape) × (shape_at g.shapes a ≡ Some t)
      known = let k = so.known a here in (k.0, ap (λ l. shape_at l a) (sym shapes) ∙ k.1)

      long : length g.shapes ≡ length p.code
      long = ap length (sym shapes) ∙ so.long

      read : (r : Op × ℕ) × (op_at p.code a ≡ Some r) × ((b : ℕ)
          → In b (leads_of p r.0 (a + r.1)) → Start p.code c b)
      read = w.closed a start

      pub is_ready : Ready p g.shapes a
      is_ready = record {
        small = w.small;
        room = long;
        within = within a start;
        read = λ k. let bad : None ≡ Some read.0 = sym k ∙ read.1 in cc;
        known = λ k. let bad : None ≡ Some known.0 = sym k ∙ known.1 in cc;
        targets = λ r k. targets r k;
      } where
        targets : (r : Op × ℕ) → op_at p.code a ≡ Some r
            → AllByRecursion (λ b. b < length p.code) (leads_of p r.0 (a + r.1))
        targets r k =
            let both : Some read.0 ≡ Some r = sym read.1 ∙ k in
            let same : read.0 ≡ r = cc in
            subst (λ (x : Op × ℕ). AllByRecursion (λ b. b < length p.code) (leads_of p x.0 (a + x.1))) same
            (all_in (λ b. b < length p.code) (leads_of p read.0.0 (a + read.0.1))
            (λ b i. within b (read.2 b i)))

      -- one step less is left
      step : (n : ℕ) → so.left ≡ suc n → (x : Result AnalysisState Refusal)
          → take_at p c.max_stack a g ≡ x
          → analyse_chunk p c before ≡ (x >>= λ h. take_all p
          c.max_stack n h)
      unfolding take_all
      step n l x k =
          sym so.is
          ∙ ap (λ m. take_all p c.max_stack m f) l
          ∙ ap (λ (y : AnalysisState). take_lowest p c.max_stack y y.waiting >>= λ h. take_all
          p
          c.max_stack n h) e
          ∙ ap (λ (y : Result AnalysisState Refusal). y >>= λ h. take_all p c.max_stack n h) k

      some_left : (m : ℕ) → so.left ≡ m → (n : ℕ) × (so.left ≡ suc n)
      some_left zero l = absurd (omega (arith, so.enough, ap length waits, l))
      some_left (suc n) l = (n, l)

      left : (n : ℕ) × (so.left ≡ suc n)
      left = some_left so.left refl

      pub taken_on : (h : AnalysisState) → take_at p c.max_stack a g ≡ Ok h
          → Taking p c before h × (free h.shapes + length h.waiting < free f.shapes + length
          f.waiting)
      taken_on h k = (
        record {
          left = left.0;
          is = sym (step left.0 left.1 (Ok h) k);
          enough = omega (arith, less, so.enough, left.1);
          long = m.spread.long ∙ long;
          known = λ x i. known' x (m.spread.fresh x i);
          mine = λ x i. mine' x (m.spread.fresh x i);
        },
        less,
      ) where
        m : Moved p c.max_stack a read.0 known.0 g h
        m = moved p c.max_stack a read.0 known.0 g read.1 known.1 h (λ b i. let lt =
            within b (read.2 b i) in omega (arith, long)) k

        less : free h.shapes + length h.waiting < free f.shapes + length f.waiting
        less = omega (arith, m.spread.less, ap length waits, ap free shapes)

        old : (x : ℕ) → In x g.waiting → In x f.waiting
        old x i = subst (In x) (sym waits) (inr i)

        -- what the instruction reaches
        reached : List Arrival
        reached = arrivals p (effect_of p read.0.0) (a + read.0.1) m.shape

        known' : (x : ℕ) → In x g.waiting ⊎ In x (addresses reached)
            → (s : Shape) × (shape_at h.shapes x ≡ Some s)
        known' x (inl i) = let k = so.known x (old x i) in (
          k.0,
          m.spread.stays x k.0
              (ap (λ l. shape_at l x) (sym shapes) ∙ k.1),
        )
        known' x (inr i) = known_there g h reached m.spread x i

        mine' : (x : ℕ) → In x g.waiting ⊎ In x (addresses reached) → Start p.code c x
        mine' x (inl i) = so.mine x (old x i)
        mine' x (inr i) =
            where_it_reaches (Start p.code c) p (effect_of p read.0.0) (a + read.0.1) m.shape read.2 x i

      pub refused_on : (r : Refusal) → (r ≡ Memory) ⊎ (take_at p c.max_stack a g ≡ Err r)
          → (r ≡ Memory) ⊎ (analyse_chunk p c before ≡ Err r)
      refused_on r (inl m) = inl m
      refused_on r (inr k) = inr (step left.0 left.1 (Err r) k)

  pub ended : (f : AnalysisState) → Taking p c before f → f.waiting ≡ []
      → analyse_chunk p c before ≡ Ok f
  ended f so e = sym so.is ∙ take_none p c.max_stack so.left f e

-- ---- the loop over the chunks

module _ (p : View) (chunks : List Chunk) (split : IsSplit p chunks) (i : ℕ) (c : Chunk)
    (g : slice_get chunks i ≡ Some c) (f : AnalysisState) where
  pub analysable : length f.shapes ≡ length p.code → f.waiting ≡ [] → IsAnalysable p c f
  analysable long none = record {
    small = (is_tiled (length p.code) chunks split.laid).small;
    room = long;
    none = none;
    full = split.splits.full i c g;
    inside = inside p chunks split.laid split.splits i c g;
    closed = closed p chunks split.laid split.splits i c g;
  }

-- where no chunk is left, a typing is found
pub found : (p : View) (chunks : List Chunk) → IsSplit p chunks
    → (cs : List Chunk) (f : AnalysisState) → analyse_from p cs f ≡ analysis p chunks
    → cs ≡ [] → HasTyping p chunks
found p chunks split cs f so e =
    has_typing p chunks split.laid split.splits f (sym so ∙ ap (λ l. analyse_from p l f) e)
