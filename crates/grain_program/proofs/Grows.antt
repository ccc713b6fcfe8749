-- What an arrival does to what is seen.
use Rattle.std.proofs.Common.{◌≡◌, ℕ, ◌+◌, ◌<◌, ◌≤◌, ◌⊎◌, Bool, true, false, cond, List, [], ◌∷◌, length, map, Option, Some, None, Result, Ok, refl, sym, ap, subst, ◌∙◌, inl, inr, arith}
use Rattle.std.specs.Prelude.{slice_get, nat_lt}
use Rattle.std.specs.Ordering.{nat_cmp}
use Rattle.std.specs.BTreeSet.{insert_key}
use Rattle.std.proofs.Math.ListN.{set}
use Rattle.std.proofs.lemmas.Bool.{cases_eq, cases_lt}
use Rattle.std.proofs.lemmas.List.{get_or-set_same, get_or-set_other, length-set, get_or_past}
use Rattle.grain_program.specs.declared.code.instruction_set.Op.{Op}
use Rattle.grain_program.specs.declared.code.parts.Chunk.{Chunk}
use Rattle.grain_program.specs.declared.verifier.refusals.Refusal.{Refusal}
use Rattle.grain_program.specs.Decoding.{op_at}
use Rattle.grain_program.specs.declared.code.effects.Effect.{Effect}
use Rattle.grain_program.specs.declared.code.effects.Flow.{Flow}
use Rattle.grain_program.specs.declared.code.effects.Flow.TheVariants as flow
use Rattle.grain_program.specs.View.{View}
use Rattle.grain_program.specs.Effects.{effect_of, switch_leads, leads, leads_of}
use Rattle.grain_program.specs.Starts.{Start}
use Rattle.grain_program.specs.Rules.{InstructionStart}
use Rattle.grain_program.specs.Shapes.{Shape, bare, after, at_target, Arrival, arrival, reached, arrivals, shape_after, clash, shape_at}
use Rattle.grain_program.specs.Typing.{In, Agrees, AnalysisState, ◌>>=◌, unless, noted, meets, arrive, arrive_all, take_op, take_at}
use Rattle.grain_program.specs.laws.Ascending.{new_in, old_in, new_or_old, one_longer}
use Rattle.grain_program.proofs.Cells.{free, free_put}
use Rattle.grain_program.proofs.ShapeSteps.{then_ok, Stepped, stepped_is, stepped_ok, clash_none, clash_self}

-- what an arrival that is not refused does: nothing where the shape was known, or it is noted
pub record Arrived (s : Shape) (f g : AnalysisState) (b : ℕ) : Type 0 where
  pub cases : ((shape_at f.shapes b ≡ Some s) × (f ≡ g)) ⊎ ((shape_at f.shapes b ≡ None)
      × (noted b s f ≡ g))

pub arrived : (s : Shape) (f g : AnalysisState) (b : ℕ) → arrive s f b ≡ Ok g → Arrived s f g b
arrived s f g b e = at (shape_at f.shapes b) refl e where
  agreed : (t : Shape) → shape_at f.shapes b ≡ Some t → (o : Option Refusal) → clash b t s ≡ o
      → unless o (Ok f) ≡ Ok g → Arrived s f g b
  agreed t k None c h =
      record { cases = inl (k ∙ ap (λ (x : Shape). Some x) (clash_none b t s c), cc) }
  agreed t k (Some r) c h = absurd cc

  at : (o : Option Shape) → shape_at f.shapes b ≡ o → meets b s f o ≡ Ok g → Arrived s f g b
  at None k h = record { cases = inr (k, cc) }
  at (Some t) k h = agreed t k (clash b t s) refl h

-- ---- what arrivals do

-- what is known stays known
abbrev pub Stays : AnalysisState → AnalysisState → Type 0
Stays f g = (a : ℕ) (s : Shape) → shape_at f.shapes a ≡ Some s → shape_at g.shapes a ≡ Some s

-- the addresses that are reached
abbrev pub addresses : List Arrival → List ℕ
addresses [] = []
addresses (x ∷ xs) = x.address ∷ addresses xs

-- the shapes have come to their addresses; what was not known before is at one of them and waits
pub record Spread (f g : AnalysisState) (xs : List Arrival) : Type 0 where
  pub long : length g.shapes ≡ length f.shapes
  pub stays : Stays f g
  pub there : (x : Arrival) → In x xs → shape_at g.shapes x.address ≡ Some x.shape
  pub new : (a : ℕ) (t : Shape) → shape_at g.shapes a ≡ Some t → (shape_at f.shapes a ≡ Some t)
      ⊎ (In a (addresses xs) × In a g.waiting)
  pub waits : (a : ℕ) → In a f.waiting → In a g.waiting
  pub fresh : (a : ℕ) → In a g.waiting → In a f.waiting ⊎ In a (addresses xs)
  pub less : free g.shapes + length g.waiting ≤ free f.shapes + length f.waiting

-- an address that is reached is reached with some shape
reached_with : (xs : List Arrival) (a : ℕ) → In a (addresses xs)
    → (x : Arrival) × In x xs × (a ≡ x.address)
reached_with [] a i = absurd i
reached_with (x ∷ xs) a (inl e) = (x, inl refl, e)
reached_with (x ∷ xs) a (inr i) = let r = reached_with xs a i in (r.0, inr r.1, r.2)

-- a shape is known wherever shapes have come
pub known_there : (f g : AnalysisState) (xs : List Arrival) → Spread f g xs → (a : ℕ)
    → In a (addresses xs) → (s : Shape) × (shape_at g.shapes a ≡ Some s)
known_there f g xs spread a i =
    let r = reached_with xs a i in
    (r.0.shape, ap (shape_at g.shapes) r.2 ∙ spread.there r.0 r.1)

pub addresses_each : (bs : List ℕ) (t : Shape) → addresses (map (λ b. arrival b t) bs) ≡ bs
addresses_each [] t = refl
addresses_each (b ∷ bs) t = ap (λ (l : List ℕ). b ∷ l) (addresses_each bs t)

-- a flow reaches the addresses to which it leads
reaches_flow : (p : View) (w : Flow) (next : ℕ) (s t : Shape)
    → addresses (reached p w next s t) ≡ leads p w next
reaches_flow p flow.Next next s t = refl
reaches_flow p (flow.Jump a) next s t = refl
reaches_flow p (flow.Branch a) next s t = at (nat_lt a next) where
  at : (q : Bool) → addresses (cond q (arrival a t ∷ arrival next s ∷ []) (arrival next s ∷ arrival
      a t ∷ [])) ≡ cond q (a ∷ next ∷ []) (next ∷ a ∷ [])
  at true = refl
  at false = refl
reaches_flow p (flow.Switch k) next s t = addresses_each (switch_leads p k) t
reaches_flow p flow.End next s t = refl

-- what holds wherever an effect leads holds wherever it reaches
pub where_it_reaches : (P : ℕ → Type 0) (p : View) (e : Effect) (next : ℕ) (s : Shape)
    → ((b : ℕ) → In b (leads p e.flow next) → P b) → (b : ℕ)
    → In b (addresses (arrivals p e next s)) → P b
where_it_reaches P p e next s h b i =
    h b (subst (In b) (reaches_flow p e.flow next s (at_target e s)) i)

module _ (s : Shape) where
  module _ (f : AnalysisState) (b : ℕ) (lt : b < length f.shapes) (none : shape_at f.shapes
      b ≡ None) where
    here : shape_at (set f.shapes b (Some s)) b ≡ Some s
    here = get_or-set_same f.shapes b (Some s) None lt

    other : (a : ℕ) → (a ≡ b → ⊥) → shape_at (set f.shapes b (Some s)) a ≡ shape_at f.shapes a
    other a ne = get_or-set_other f.shapes b a (Some s) None ne

    noted_spread : Spread f (noted b s f) (arrival b s ∷ [])
    noted_spread = record {
      long = length-set f.shapes b (Some s);
      stays = λ a t k. stays a t k (cases_eq a b);
      there = λ x i. there x i;
      new = λ a t k. new a t k (cases_eq a b);
      waits = λ a i. old_in f.waiting b a i;
      fresh = λ a i. fresh a (new_or_old f.waiting b a i);
      less = omega (arith, one_longer f.waiting b, free_put f.shapes b s lt none);
    } where
      stays : (a : ℕ) (t : Shape) → shape_at f.shapes a ≡ Some t → (a ≡ b) ⊎ (a ≡ b → ⊥)
          → shape_at (set f.shapes b (Some s)) a ≡ Some t
      stays a t k (inl same) =
          let bad : None ≡ Some t = sym none ∙ sym (ap (shape_at f.shapes) same) ∙ k in absurd cc
      stays a t k (inr ne) = other a ne ∙ k

      there : (x : Arrival) → In x (arrival b s ∷ [])
          → shape_at (set f.shapes b (Some s)) x.address ≡ Some x.shape
      there x (inl same) =
          subst (λ (y : Arrival). shape_at (set f.shapes b (Some s)) y.address ≡ Some y.shape)
          (sym same) here
      there x (inr i) = absurd i

      new : (a : ℕ) (t : Shape) → shape_at (set f.shapes b (Some s)) a ≡ Some t → (a ≡ b) ⊎
          (a ≡ b
          → ⊥) → (shape_at f.shapes a ≡ Some t)
          ⊎ (In a (b ∷ []) × In a (insert_key nat_cmp f.waiting b))
      new a t k (inl same) = inr (
        inl same,
        subst (λ x. In x (insert_key nat_cmp f.waiting b))
            (sym same) (new_in f.waiting b),
      )
      new a t k (inr ne) = inl (sym (other a ne) ∙ k)

      fresh : (a : ℕ) → (a ≡ b) ⊎ In a f.waiting → In a f.waiting ⊎ In a (b ∷ [])
      fresh a (inl same) = inr (inl same)
      fresh a (inr i) = inl i

  nothing_spread : (f : AnalysisState) (xs : List Arrival) → ((x : Arrival) → In x xs
      → shape_at f.shapes x.address ≡ Some x.shape) → Spread f f xs
  nothing_spread f xs there = record {
    long = refl;
    stays = λ a t k. k;
    there = there;
    new =
        λ a t k. inl k;
    waits = λ a i. i;
    fresh = λ a i. inl i;
    less = omega arith;
  }

  pub arrive_spread : (f g : AnalysisState) (b : ℕ) → b < length f.shapes → arrive s f b ≡ Ok g
      → Spread f g (arrival b s ∷ [])
  arrive_spread f g b lt e = at (arrived s f g b e).cases where
    one : (x : Arrival) → shape_at f.shapes b ≡ Some s → In x (arrival b s ∷ [])
        → shape_at f.shapes x.address ≡ Some x.shape
    one x k (inl same) =
        subst (λ (y : Arrival). shape_at f.shapes y.address ≡ Some y.shape) (sym same) k
    one x k (inr i) = absurd i

    at : ((shape_at f.shapes b ≡ Some s) × (f ≡ g)) ⊎ ((shape_at f.shapes b ≡ None)
        × (noted b s f ≡ g)) → Spread f g (arrival b s ∷ [])
    at (inl k) = subst (λ (x : AnalysisState). Spread f x (arrival b s ∷ [])) k.1
        (nothing_spread f (arrival b s ∷ []) (λ x i. one x k.0 i))
    at (inr k) = subst (λ (x : AnalysisState). Spread f x (arrival b s ∷ [])) k.1
        (noted_spread f b lt k.0)

both_spread : (y : Arrival) (xs : List Arrival) (f k g : AnalysisState) → Spread f k (y ∷ [])
    → Spread k g xs → Spread f g (y ∷ xs)
both_spread y xs f k g one more = record {
  long = more.long ∙ one.long;
  stays = λ a t h. more.stays a t (one.stays a t h);
  there = λ x i. there x i;
  new = λ a t h. new a t (more.new a t h);
  waits = λ a i. more.waits a (one.waits a i);
  fresh = λ a i. fresh a (more.fresh a i);
  less = omega (arith, one.less, more.less);
} where
  there : (x : Arrival) → In x (y ∷ xs) → shape_at g.shapes x.address ≡ Some x.shape
  there x (inl same) = more.stays x.address x.shape (one.there x (inl same))
  there x (inr i) = more.there x i

  in_one : (a : ℕ) → In a (addresses (y ∷ [])) → In a (addresses (y ∷ xs))
  in_one a (inl same) = inl same
  in_one a (inr i) = absurd i

  old : (a : ℕ) (t : Shape) → (shape_at f.shapes a ≡ Some t)
      ⊎ (In a (addresses (y ∷ [])) × In a k.waiting)
      → (shape_at f.shapes a ≡ Some t) ⊎ (In a (addresses (y ∷ xs)) × In a g.waiting)
  old a t (inl h) = inl h
  old a t (inr i) = inr (in_one a i.0, more.waits a i.1)

  new : (a : ℕ) (t : Shape) → (shape_at k.shapes a ≡ Some t)
      ⊎ (In a (addresses xs) × In a g.waiting)
      → (shape_at f.shapes a ≡ Some t) ⊎ (In a (addresses (y ∷ xs)) × In a g.waiting)
  new a t (inl h) = old a t (one.new a t h)
  new a t (inr i) = inr (inr i.0, i.1)

  before : (a : ℕ) → In a f.waiting ⊎ In a (addresses (y ∷ []))
      → In a f.waiting ⊎ In a (addresses (y ∷ xs))
  before a (inl i) = inl i
  before a (inr i) = inr (in_one a i)

  fresh : (a : ℕ) → In a k.waiting ⊎ In a (addresses xs)
      → In a f.waiting ⊎ In a (addresses (y ∷ xs))
  fresh a (inl i) = before a (one.fresh a i)
  fresh a (inr i) = inr (inr i)

pub arrive_all_spread : (xs : List Arrival) (f g : AnalysisState) → ((b : ℕ)
    → In b (addresses xs) → b < length f.shapes) → arrive_all xs f ≡ Ok g → Spread f g xs
arrive_all_spread [] f g within e =
    let is : f ≡ g = cc in
    subst (λ (y : AnalysisState). Spread f y []) is (nothing_spread bare f [] (λ x i. absurd i))
arrive_all_spread (x ∷ xs) f g within e =
    let k = then_ok (arrive x.shape f x.address) (λ h. arrive_all xs h) g e in
    let one = arrive_spread x.shape f k.0 x.address (within x.address (inl refl)) k.1 in
    both_spread x xs f k.0 g one (arrive_all_spread xs k.0 g (λ b i. subst (λ n. b < n)
    (sym one.long) (within b (inr i))) k.2)

-- ---- one instruction

-- what was done where an address was taken and not refused
pub record Moved (p : View) (max a : ℕ) (r : Op × ℕ) (t : Shape) (f g : AnalysisState) : Type 0
  where
    pub shape : Shape
    pub shape_after : Stepped max (effect_of p r.0) t shape
    pub spread : Spread f g (arrivals p (effect_of p r.0) (a + r.1) shape)

module _ (p : View) (max a : ℕ) (r : Op × ℕ) (t : Shape) (f : AnalysisState) (is : op_at p.code
    a ≡ Some r) (known : shape_at f.shapes a ≡ Some t) where
  taking : take_at p max a f ≡ (shape_after max a (effect_of p r.0) t >>= λ s. arrive_all
      (arrivals p (effect_of p r.0) (a + r.1) s) f)
  taking = ap (λ o. take_op p max a f o (shape_at f.shapes a)) is
      ∙ ap (λ o. take_op p max a f (Some r) o) known

  pub moved : (g : AnalysisState) → ((b : ℕ) → In b (leads_of p r.0 (a + r.1))
      → b < length f.shapes) → take_at p max a f ≡ Ok g → Moved p max a r t f g
  moved g within e =
      let m =
      then_ok (shape_after max a (effect_of p r.0) t) (λ s. arrive_all (arrivals p (effect_of p r.0)
      (a + r.1) s) f) g (sym taking ∙ e) in
      record {
        shape = m.0;
        shape_after = stepped_is max a (effect_of p r.0) t m.0 m.1;
        spread =
            arrive_all_spread (arrivals p (effect_of p r.0) (a + r.1) m.0) f g
            (where_it_reaches (λ b. b < length f.shapes) p (effect_of p r.0) (a + r.1) m.0 within)
            m.2;
      }

-- ---- what stays true

module _ (p : View) (chunks : List Chunk) where
  -- the instruction at the address agrees with what is known
  abbrev pub Done : AnalysisState → ℕ → Shape → Type 0
  Done f a s =
      (i : ℕ) (c : Chunk) (r : Op × ℕ) → slice_get chunks i ≡ Some c → Start p.code c a
      → op_at p.code a ≡ Some r → Agrees p (shape_at f.shapes) c.max_stack a r.1 (effect_of p r.0) s

  -- each known address is a start that waits or is done, unless it is left out; each waiting one is
  -- known
  pub record SoundBut (left_out : ℕ → Type 0) (f : AnalysisState) : Type 0 where
    pub long : length f.shapes ≡ length p.code
    pub starts : (a : ℕ) (s : Shape) → shape_at f.shapes a ≡ Some s
        → InstructionStart p.code chunks a
    pub known : (a : ℕ) → In a f.waiting → (s : Shape) × (shape_at f.shapes a ≡ Some s)
    pub done : (a : ℕ) (s : Shape) → shape_at f.shapes a ≡ Some s → In a f.waiting
        ⊎ (left_out a ⊎ Done f a s)

  done_stays : (f g : AnalysisState) → Stays f g → (a : ℕ) (s : Shape) → Done f a s → Done g a s
  done_stays f g stays a s d i c r h k e =
      let x = d i c r h k e in
      record {
        enough = x.enough;
        cursor = x.cursor;
        handler = x.handler;
        above = x.above;
        room = x.room;
        arrives = λ y j. stays y.address y.shape (x.arrives y j);
      }

  -- arrivals at starts keep what is true
  pub spread_sound : (left_out : ℕ → Type 0) (f g : AnalysisState) (xs : List Arrival)
      → ((b : ℕ) → In b (addresses xs) → InstructionStart p.code chunks b) → SoundBut left_out f
      → Spread f g xs → SoundBut left_out g
  spread_sound left_out f g xs starts sound spread = record {
    long = spread.long ∙ sound.long;
    starts = λ a t k. start_here a t (spread.new a t k);
    known = λ a i. known a (spread.fresh a i);
    done = λ a t k. done a t (spread.new a t k);
  } where
    start_here : (a : ℕ) (t : Shape) → (shape_at f.shapes a ≡ Some t)
        ⊎ (In a (addresses xs) × In a g.waiting) → InstructionStart p.code chunks a
    start_here a t (inl k) = sound.starts a t k
    start_here a t (inr i) = starts a i.0

    known : (a : ℕ) → In a f.waiting ⊎ In a (addresses xs)
        → (t : Shape) × (shape_at g.shapes a ≡ Some t)
    known a (inl i) = let k = sound.known a i in (k.0, spread.stays a k.0 k.1)
    known a (inr i) = known_there f g xs spread a i

    later : (a : ℕ) (t : Shape) → In a f.waiting ⊎ (left_out a ⊎ Done f a t) → In a g.waiting
        ⊎ (left_out a ⊎ Done g a t)
    later a t (inl i) = inl (spread.waits a i)
    later a t (inr (inl o)) = inr (inl o)
    later a t (inr (inr d)) = inr (inr (done_stays f g spread.stays a t d))

    done : (a : ℕ) (t : Shape) → (shape_at f.shapes a ≡ Some t)
        ⊎ (In a (addresses xs) × In a g.waiting) → In a g.waiting ⊎ (left_out a ⊎ Done g a t)
    done a t (inl k) = later a t (sound.done a t k)
    done a t (inr i) = inl i.1

-- ---- a typing that exists lets each arrival pass

abbrev pub Below : (ℕ → Option Shape) → AnalysisState → Type 0
Below typing f = (a : ℕ) (s : Shape) → shape_at f.shapes a ≡ Some s → typing a ≡ Some s

pub arrive_fits : (typing : ℕ → Option Shape) (s : Shape) (f : AnalysisState) (b : ℕ)
    → typing b ≡ Some s → Below typing f → (g : AnalysisState) × (arrive s f b ≡ Ok g)
    × Below typing g
arrive_fits typing s f b y below = at (shape_at f.shapes b) refl where
  new : (a : ℕ) (t : Shape) → shape_at (set f.shapes b (Some s)) a ≡ Some t → (a ≡ b) ⊎
      (a ≡ b → ⊥)
      → (b < length f.shapes) ⊎ (length f.shapes ≤ b) → typing a ≡ Some t
  new a t k (inl same) (inl lt) = ap typing same ∙ y ∙ sym (get_or-set_same f.shapes b (Some s) None
      lt) ∙ ap (shape_at (set f.shapes b (Some s))) (sym same) ∙ k
  new a t k (inl same) (inr le) =
      let past =
      get_or_past (set f.shapes b (Some s)) a None (omega (
        arith,
        length-set f.shapes b
            (Some s),
      )) in
      let bad : None ≡ Some t = sym past ∙ k in
      absurd cc
  new a t k (inr ne) z = below a t (sym (get_or-set_other f.shapes b a (Some s) None ne) ∙ k)

  at : (o : Option Shape) → shape_at f.shapes b ≡ o → (g : AnalysisState) × (meets b s f o ≡ Ok g)
      × Below typing g
  at None e = (noted b s f, refl, λ a t k. new a t k (cases_eq a b) (cases_lt b (length f.shapes)))
  at (Some t) e =
      let both : Some t ≡ Some s = sym (below b t e) ∙ y in
      let same : t ≡ s = cc in (
        f,
        subst (λ (x : Shape). unless (clash b x s) (Ok f) ≡ Ok f) (sym same)
            (ap (λ (o : Option Refusal). unless o (Ok f)) (clash_self b s)),
        below,
      )

pub arrive_all_fits : (typing : ℕ → Option Shape) (xs : List Arrival) (f : AnalysisState)
    → ((x : Arrival) → In x xs → typing x.address ≡ Some x.shape) → Below typing f
    → (g : AnalysisState) × (arrive_all xs f ≡ Ok g) × Below typing g
arrive_all_fits typing [] f ys below = (f, refl, below)
arrive_all_fits typing (x ∷ xs) f ys below =
    let one = arrive_fits typing x.shape f x.address (ys x (inl refl)) below in
    let more = arrive_all_fits typing xs one.0 (λ y i. ys y (inr i)) one.2 in (
      more.0,
      ap (λ (r : Result AnalysisState Refusal). r >>= λ h. arrive_all xs h) one.1
          ∙ more.1,
      more.2,
    )

-- a typing that agrees with the instruction lets it be taken
pub take_fits : (p : View) (typing : ℕ → Option Shape) (max a : ℕ) (r : Op × ℕ) (t : Shape)
    (f : AnalysisState) → op_at p.code a ≡ Some r → shape_at f.shapes a ≡ Some t
    → Agrees p typing max a r.1 (effect_of p r.0) t → Below typing f
    → (g : AnalysisState) × (take_at p max a f ≡ Ok g) × Below typing g
take_fits p typing max a r t f is known agrees below =
    let all =
    arrive_all_fits typing (arrivals p (effect_of p r.0) (a + r.1) (after (effect_of p r.0) t)) f
    agrees.arrives below in
    let fine = stepped_ok max a (effect_of p r.0) t agrees.enough agrees.cursor agrees.handler
    agrees.above agrees.room in (
      all.0,
      taking p max a r t f is known ∙ ap (λ (o : Result Shape Refusal). o
          >>= λ s. arrive_all (arrivals p (effect_of p r.0) (a + r.1) s) f) fine ∙ all.1,
      all.2,
    )
