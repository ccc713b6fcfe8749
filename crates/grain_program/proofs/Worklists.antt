-- The search for a typing in one chunk: an address that waits is taken, until none waits.
use Rattle.std.proofs.Common.{◌≡◌, ℕ, zero, suc, ◌+◌, ◌<◌, ◌≤◌, ◌⊎◌, List, [], ◌∷◌, length, Option, Some, None, Result, Ok, refl, sym, ap, subst, ◌∙◌, inl, inr, arith}
use Rattle.std.specs.Prelude.{slice_get}
use Rattle.grain_program.specs.declared.code.instruction_set.Op.{Op}
use Rattle.grain_program.specs.declared.code.parts.Chunk.{Chunk}
use Rattle.grain_program.specs.declared.verifier.refusals.Refusal.{Refusal}
use Rattle.grain_program.specs.View.{View}
use Rattle.grain_program.specs.Decoding.{op_at}
use Rattle.grain_program.specs.Effects.{effect_of, leads_of}
use Rattle.grain_program.specs.Layout.{layout_fault, Tiled}
use Rattle.grain_program.specs.Starts.{Start}
use Rattle.grain_program.specs.laws.Starts.{start_first, start_next, start_within}
use Rattle.grain_program.specs.Rules.{Splits, InstructionStart}
use Rattle.grain_program.specs.Shapes.{Shape, bare, Arrival, arrival, arrivals, shape_at}
use Rattle.grain_program.specs.Typing.{In, Agrees, Typing, AnalysisState, ◌>>=◌, arrive, take_at, take_lowest, take_all, analyse_chunk}
use Rattle.grain_program.specs.laws.Leads.{leads_to_start}
use Rattle.grain_program.proofs.Tiles.{is_tiled}
use Rattle.grain_program.proofs.Meaning.{same_chunk}
use Rattle.grain_program.proofs.Cells.{free}
use Rattle.grain_program.proofs.Grows.{Stays, addresses, where_it_reaches, Spread, arrive_spread, Moved, moved, SoundBut, Done, spread_sound, Below, arrive_fits, take_fits}
use Rattle.grain_program.proofs.ShapeSteps.{then_ok}

-- an address without a shape is free, so there are no more of them than addresses
pub free_within : (xs : List (Option Shape)) → free xs ≤ length xs
free_within [] = omega arith
free_within (None ∷ xs) = omega (arith, free_within xs)
free_within (Some s ∷ xs) = omega (arith, free_within xs)

-- where none waits, no more is taken
pub take_none : (p : View) (max n : ℕ) (f : AnalysisState) → f.waiting ≡ []
    → take_all p max n f ≡ Ok f
unfolding take_all
take_none p max zero f e = refl
take_none p max (suc n) f e =
    ap (λ xs. take_lowest p max f xs >>= λ g. take_all p max n g) e ∙ take_none p max n f e

pub empty : (xs : List ℕ) → length xs ≤ 0 → xs ≡ []
empty [] le = refl
empty (x ∷ xs) le = absurd (omega arith)

-- the chunks of a sound layout
module _ (p : View) (chunks : List Chunk) (laid : layout_fault (length p.code) chunks ≡ None)
    (w : Splits p chunks) where
  tiles : Tiled (length p.code) chunks
  tiles = is_tiled (length p.code) chunks laid

  -- an instruction of the chunk is read, and leads to instructions of the chunk
  pub closed : (i : ℕ) (c : Chunk) → slice_get chunks i ≡ Some c → (a : ℕ) → Start p.code c a
      → (r : Op × ℕ) × (op_at p.code a ≡ Some r) × ((b : ℕ)
      → In b (leads_of p r.0 (a + r.1)) → Start p.code c b)
  closed i c g a s =
      let o = w.obeys i c a g s in (
        o.read,
        o.whole.is,
        leads_to_start p c (a + o.read.1) o.read.0 o.target o.end
            (λ lt. start_next p.code c a o.read s o.whole.is lt),
      )

  pub inside : (i : ℕ) (c : Chunk) → slice_get chunks i ≡ Some c → c.end ≤ length p.code
  inside i c g = (tiles.inside i c g).1

  abbrev pub None_out : ℕ → Type 0
  None_out a = ⊥

  -- each known address waits or is done
  abbrev pub Sound : AnalysisState → Type 0
  Sound f = SoundBut p chunks None_out f

  -- ---- one chunk

  module _ (i : ℕ) (c : Chunk) (g : slice_get chunks i ≡ Some c) where
    start_here : (a : ℕ) → Start p.code c a → InstructionStart p.code chunks a
    start_here a s = record { number = i; chunk = c; is = g; start = s }

    within : (f : AnalysisState) → Sound f → (a : ℕ) → Start p.code c a → a < length f.shapes
    within f sound a s =
        let x = start_within p.code c a s in let n = inside i c g in omega (arith, x.1, sound.long)

    -- the search is in the chunk: what waits are instructions of it
    record Here (f : AnalysisState) : Type 0 where
      sound : Sound f
      mine : (a : ℕ) → In a f.waiting → Start p.code c a

    -- the lowest of those that wait is taken
    module _ (f : AnalysisState) (a : ℕ) (rest : List ℕ) (h : Here f) (e : f.waiting ≡ a ∷ rest)
      where
        abbrev without : AnalysisState
        without = record { shapes = f.shapes; waiting = rest }

        waits : In a f.waiting
        waits = subst (In a) (sym e) (inl refl)

        start : Start p.code c a
        start = h.mine a waits

        read : (r : Op × ℕ) × (op_at p.code a ≡ Some r) × ((b : ℕ)
            → In b (leads_of p r.0 (a + r.1)) → Start p.code c b)
        read = closed i c g a start

        known : (t : Shape) × (shape_at f.shapes a ≡ Some t)
        known = h.sound.known a waits

        -- without the address that is taken, all others are sound
        rest_sound : SoundBut p chunks (λ x. x ≡ a) (record {
          shapes = f.shapes;
          waiting =
              rest;
        })
        rest_sound = record {
          long = h.sound.long;
          starts = h.sound.starts;
          known = λ x j. h.sound.known x (subst (In x) (sym e) (inr j));
          done = λ x s k. at x s (h.sound.done x s k);
        } where
          one : (x : ℕ) (s : Shape) → In x (a ∷ rest)
              → In x rest ⊎ ((x ≡ a) ⊎ Done p chunks (record {
                shapes = f.shapes;
                waiting =
                    rest;
              }) x s)
          one x s (inl same) = inr (inl same)
          one x s (inr j) = inl j

          at : (x : ℕ) (s : Shape) → In x f.waiting ⊎ (None_out x ⊎ Done p chunks f x s)
              → In x rest ⊎ ((x ≡ a) ⊎ Done p chunks (record {
                shapes = f.shapes;
                waiting =
                    rest;
              }) x s)
          at x s (inl j) = one x s (subst (In x) e j)
          at x s (inr (inl o)) = absurd o
          at x s (inr (inr d)) = inr (inr d)

        module _ (h' : AnalysisState) (ok : take_at p c.max_stack a (record {
          shapes =
              f.shapes;
          waiting = rest;
        }) ≡ Ok h') where
          m : Moved p c.max_stack a read.0 known.0 (record {
            shapes = f.shapes;
            waiting =
                rest;
          })
              h'
          m = moved p c.max_stack a read.0 known.0 (record {
            shapes = f.shapes;
            waiting =
                rest;
          })
              read.1 known.1 h' (λ b j. within f h.sound b (read.2 b j)) ok

          -- what the instruction reaches are instructions of the chunk
          goes_to : (b : ℕ) → In b (addresses (arrivals p (effect_of p read.0.0) (a + read.0.1) m.shape))
              → Start p.code c b
          goes_to = where_it_reaches (Start p.code c) p (effect_of p read.0.0) (a + read.0.1) m.shape read.2

          all : SoundBut p chunks (λ x. x ≡ a) h'
          all = spread_sound p chunks (λ x. x ≡ a) (record {
            shapes = f.shapes;
            waiting =
                rest;
          }) h' (arrivals p (effect_of p read.0.0) (a + read.0.1) m.shape)
              (λ b j. start_here b (goes_to b j)) rest_sound m.spread

          -- the address that was taken is done
          done : Done p chunks h' a known.0
          done j d r k s is =
              let both : Some read.0 ≡ Some r = sym read.1 ∙ is in
              let same : read.0 ≡ r = cc in
              let chunk : c ≡ d = same_chunk p chunks tiles i j c d a g k start s in
              let after = m.shape_after.is in
              subst (λ (x : Chunk). Agrees p (shape_at h'.shapes) x.max_stack a r.1 (effect_of p r.0)
              known.0) chunk
              (subst (λ (x : Op × ℕ). Agrees p (shape_at h'.shapes) c.max_stack a x.1 (effect_of p x.0)
              known.0) same
              (record {
                enough = m.shape_after.enough;
                cursor = m.shape_after.cursor;
                handler = m.shape_after.handler;
                above = m.shape_after.above;
                room = m.shape_after.room;
                arrives = subst (λ (t : Shape). (y : Arrival)
                    → In y (arrivals p (effect_of p read.0.0) (a + read.0.1) t)
                    → shape_at h'.shapes y.address ≡ Some y.shape) (sym after) m.spread.there;
              }))

          here : Here h'
          here = record {
            sound = record {
              long = all.long;
              starts = all.starts;
              known = all.known;
              done =
                  λ x s k. at x s k (all.done x s k);
            };
            mine = λ x j. mine x (m.spread.fresh x j);
          } where
            at : (x : ℕ) (s : Shape) → shape_at h'.shapes x ≡ Some s → In x h'.waiting
                ⊎ ((x ≡ a) ⊎ Done p chunks h' x s) → In x h'.waiting
                ⊎ (None_out x ⊎ Done p chunks h' x s)
            at x s k (inl j) = inl j
            at x s k (inr (inr d)) = inr (inr d)
            at x s k (inr (inl same)) =
                let is : shape_at h'.shapes a ≡ Some known.0 = m.spread.stays a known.0 known.1 in
                let both : Some known.0 ≡ Some s =
                sym is ∙ ap (shape_at h'.shapes) (sym same) ∙ k in
                let shape : known.0 ≡ s = cc in
                inr (inr (subst (λ y. Done p chunks h' y s) (sym same)
                (subst (λ (y : Shape). Done p chunks h' a y) shape done)))

            mine : (x : ℕ) → In x rest
                ⊎ In x (addresses (arrivals p (effect_of p read.0.0) (a + read.0.1) m.shape))
                → Start p.code c x
            mine x (inl j) = h.mine x (subst (In x) (sym e) (inr j))
            mine x (inr j) = goes_to x j

          step_ok : Here h' × Stays f h' × (free h'.shapes + length h'.waiting < free
              f.shapes + length f.waiting)
          step_ok = (here, m.spread.stays, omega (arith, m.spread.less, ap length e))

        step_fits : (typing : ℕ → Option Shape) → Typing p chunks typing → Below typing f
            → (h' : AnalysisState) × (take_at p c.max_stack a (record {
              shapes =
                  f.shapes;
              waiting = rest;
            }) ≡ Ok h') × Below typing h'
        step_fits typing y below =
            take_fits p typing c.max_stack a read.0 known.0 (record {
              shapes =
                  f.shapes;
              waiting = rest;
            }) read.1 known.1 (y.steps i c a read.0 known.0 g start
            read.1 (below a known.0 known.1)) below

    -- a loop that is long enough, and is not refused, ends where none waits
    pub record AllTaken (f f' : AnalysisState) : Type 0 where
      pub sound : Sound f'
      pub over : f'.waiting ≡ []
      pub stays : Stays f f'

    take_all_ok : (n : ℕ) (f f' : AnalysisState) → Here f → free f.shapes + length f.waiting ≤ n
        → take_all p c.max_stack n f ≡ Ok f' → AllTaken f f'
    unfolding take_all
    take_all_ok zero f f' h enough ok =
        let same : f ≡ f' = cc in
        subst (AllTaken f) same (record {
          sound = h.sound;
          over = empty f.waiting (omega arith);
          stays = λ a s k. k;
        })
    take_all_ok (suc n) f f' h enough ok =
        at f.waiting refl ok (λ k h' less ok'. take_all_ok n k f' h' less ok') where
          at : (xs : List ℕ) → f.waiting ≡ xs
              → (take_lowest p c.max_stack f xs >>= λ g. take_all
              p c.max_stack n g) ≡ Ok f'
              → ((k : AnalysisState) → Here k → free k.shapes + length k.waiting ≤ n
              → take_all p c.max_stack n k ≡ Ok f' → AllTaken k f') → AllTaken f f'
          at [] e k more =
              let both : Ok f ≡ Ok f' = sym (take_none p c.max_stack n f e) ∙ k in
              let same : f ≡ f' = cc in
              subst (AllTaken f) same (record { sound = h.sound; over = e; stays = λ a s q. q })
          at (a ∷ rest) e k more =
              let t =
              then_ok (take_at p c.max_stack a (record { shapes = f.shapes; waiting = rest }))
              (λ g. take_all p c.max_stack n g) f' k in
              let s = step_ok f a rest h e t.0 t.1 in
              let w = more t.0 s.0 (omega (arith, s.2, enough)) t.2 in
              record { sound = w.sound; over = w.over; stays = λ x q z. w.stays x q (s.1 x q z) }

    take_all_fits : (typing : ℕ → Option Shape) → Typing p chunks typing
        → (n : ℕ) (f : AnalysisState) → Here f → Below typing f
        → (f' : AnalysisState) × (take_all p c.max_stack n f ≡ Ok f') × Below typing f'
    unfolding take_all
    take_all_fits typing y zero f h below = (f, refl, below)
    take_all_fits typing y (suc n) f h below =
        at f.waiting refl (λ k h' b. take_all_fits typing y n k h' b) where
          at : (xs : List ℕ) → f.waiting ≡ xs → ((k : AnalysisState) → Here k → Below typing k
              → (f' : AnalysisState) × (take_all p c.max_stack n k ≡ Ok f') × Below typing f')
              → (f' : AnalysisState) × ((take_lowest p c.max_stack f xs >>= λ g. take_all
              p
              c.max_stack n g) ≡ Ok f') × Below typing f'
          at [] e more = (f, take_none p c.max_stack n f e, below)
          at (a ∷ rest) e more =
              let t = step_fits f a rest h e typing y below in
              let w = more t.0 (step_ok f a rest h e t.0 t.1).0 t.2 in (
                w.0,
                ap (λ (x : Result AnalysisState Refusal). x >>= λ g. take_all p c.max_stack n
                    g) t.1 ∙ w.1,
                w.2,
              )

    -- a bare frame at the entry begins the loop
    enter : (f k : AnalysisState) → Sound f → f.waiting ≡ [] → arrive bare f c.entry ≡ Ok k
        → Here k × Spread f k (arrival c.entry bare ∷ [])
    enter f k sound e ok =
        (record { sound = all; mine = λ a j. mine a (spread.fresh a j) }, spread) where
          first : Start p.code c c.entry
          first = start_first p.code c (w.full i c g)

          at : (b : ℕ) → In b (c.entry ∷ []) → Start p.code c b
          at b (inl same) = subst (Start p.code c) (sym same) first
          at b (inr j) = absurd j

          spread : Spread f k (arrival c.entry bare ∷ [])
          spread = arrive_spread bare f k c.entry (within f sound c.entry first) ok

          all : Sound k
          all = spread_sound p chunks None_out f k (arrival c.entry bare ∷ []) (λ b j. start_here b
              (at b j)) sound spread

          mine : (a : ℕ) → In a f.waiting ⊎ In a (c.entry ∷ []) → Start p.code c a
          mine a (inl j) = absurd (subst (In a) e j)
          mine a (inr j) = at a j

    -- the chunk is done, and its entry is known
    pub record Analysed (f f' : AnalysisState) : Type 0 where
      pub taken : AllTaken f f'
      pub entry : shape_at f'.shapes c.entry ≡ Some bare

    pub chunk_ok : (f f' : AnalysisState) → Sound f → f.waiting ≡ [] → analyse_chunk p c f ≡ Ok
        f' → Analysed f f'
    unfolding analyse_chunk
    chunk_ok f f' sound e ok =
        let t =
        then_ok (arrive bare f c.entry) (λ g. take_all p c.max_stack (length p.code) g) f'
        ok in
        let h = enter f t.0 sound e t.1 in
        let v =
        take_all_ok (length p.code) t.0 f' h.0 (omega (
          arith,
          h.1.less,
          ap length e,
          free_within
              f.shapes,
          sound.long,
        )) t.2 in
        record {
          taken = record {
            sound = v.sound;
            over = v.over;
            stays =
                λ a s k. v.stays a s (h.1.stays a s k);
          };
          entry = v.stays c.entry bare (h.1.there (arrival c.entry bare) (inl refl));
        }

    pub chunk_fits : (typing : ℕ → Option Shape) → Typing p chunks typing → (f : AnalysisState)
        → Sound f → f.waiting ≡ [] → Below typing f
        → (f' : AnalysisState) × (analyse_chunk p c f ≡ Ok f') × Below typing f'
    unfolding analyse_chunk
    chunk_fits typing y f sound e below =
        let b = arrive_fits typing bare f c.entry (y.entries i c g) below in
        let h = enter f b.0 sound e b.1 in
        let v = take_all_fits typing y (length p.code) b.0 h.0 b.2 in (
          v.0,
          ap (λ (x : Result AnalysisState Refusal). x >>= λ g. take_all p c.max_stack
              (length p.code) g) b.1 ∙ v.1,
          v.2,
        )
    -- ---- all chunks
