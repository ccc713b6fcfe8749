-- What arrivals do to the switches to whose targets one shape has come.
use Rattle.std.proofs.Common.{◌≡◌, ℕ, ◌<◌, ◌≤◌, ◌⊎◌, List, [], ◌∷◌, length, replicate, get_or, Option, Some, None, Result, Ok, Err, refl, sym, ap, subst, ◌∙◌, inl, inr, arith}
use Rattle.std.specs.Prelude.{slice_get, IfOk, IfSome}
use Rattle.std.specs.List.{AllByRecursion}
use Rattle.std.proofs.Math.ListN.{set}
use Rattle.std.proofs.lemmas.Bool.{cases_eq, cases_lt}
use Rattle.std.proofs.lemmas.List.{get_or-set_same, get_or-set_other, get_or_past, length-set, get_or-replicate, length-replicate}
use Rattle.grain_program.specs.declared.verifier.refusals.Refusal.{Refusal}
use Rattle.grain_program.specs.View.{View}
use Rattle.grain_program.specs.Effects.{switch_leads}
use Rattle.grain_program.specs.Shapes.{Shape, arrival, shape_at}
use Rattle.grain_program.specs.Typing.{In, AnalysisState, ◌>>=◌, unless, noted, with_lowest, meets, arrive, arrive_all, Gives}
use Rattle.grain_program.specs.Reached.{HasCome, AreReached}
use Rattle.grain_program.proofs.ShapeSteps.{clash_self}
use Rattle.grain_program.proofs.ArrivingAt.{at_all}
use Rattle.grain_program.proofs.Grows.{Stays, addresses, addresses_each, Spread, arrived, arrive_spread, arrive_all_spread}

-- where the shape is known at all addresses, it may come to them again
known_again : (xs : List ℕ) (s : Shape) (f : AnalysisState)
    → ((a : ℕ) → In a xs → shape_at f.shapes a ≡ Some s) → arrive_all (at_all s xs) f ≡ Ok f
known_again [] s f k = refl
known_again (x ∷ xs) s f k =
    let one : arrive s f x ≡ Ok f =
    ap (meets x s f) (k x (inl refl))
    ∙ ap (λ (o : Option Refusal). unless o (Ok f)) (clash_self x s) in
    ap (λ (r : Result AnalysisState Refusal). r >>= λ g. arrive_all (at_all s xs) g) one
    ∙ known_again xs s f (λ a i. k a (inr i))

nothing : (b : ℕ) → None ≡ Some b → ⊥
nothing b e = cc

in_first : (xs : List ℕ) (b : ℕ) → slice_get xs 0 ≡ Some b → In b xs
in_first [] b e = absurd cc
in_first (x ∷ xs) b e = inl cc

-- a shape that does not come to the first of some addresses does not come to all
first_refuses : (xs : List ℕ) (b : ℕ) (s : Shape) (f : AnalysisState) (r : Refusal)
    → slice_get xs 0 ≡ Some b → arrive s f b ≡ Err r → arrive_all (at_all s xs) f ≡ Err r
first_refuses [] b s f r e bad = absurd cc
first_refuses (x ∷ xs) b s f r e bad =
    let same : x ≡ b = cc in
    ap (λ (q : Result AnalysisState Refusal). q >>= λ g. arrive_all (at_all s xs) g)
    (ap (arrive s f) same ∙ bad)

among : {n : ℕ} (xs : List ℕ) → AllByRecursion (λ b. b < n) xs → (b : ℕ) → In b xs → b < n
among {n} [] h b i = absurd i
among {n} (x ∷ xs) h b (inl e) = subst (λ (a : ℕ). a < n) (sym e) h.0
among {n} (x ∷ xs) h b (inr i) = among {n = n} xs h.1 b i

module _ (p : View) where
  -- what one shape has come to stays so
  pub all_still : (reached : List (Option ℕ)) (f g : AnalysisState) → Stays f g
      → AreReached p reached f → AreReached p reached g
  all_still reached f g stays r k lowest e =
      let h = r k lowest e in
      record { first = h.first; shape = h.shape; known = λ a i. stays a h.shape (h.known a i) }

  pub one_keeps : (reached : List (Option ℕ)) (s : Shape) (f g : AnalysisState) (b : ℕ)
      → b < length f.shapes → arrive s f b ≡ Ok g → AreReached p reached f
      → AreReached p reached g
  one_keeps reached s f g b lt e r =
      all_still reached f g (arrive_spread s f g b lt e).stays r

  -- and where an address does not wait any more
  pub waits_still : (reached : List (Option ℕ)) (f g : AnalysisState) (a : ℕ)
      → f ≡ with_lowest a g → AreReached p reached f → AreReached p reached g
  waits_still reached f g a e r =
      all_still reached f g
      (λ b s k. sym (ap (λ (x : AnalysisState). shape_at x.shapes b) e) ∙ k) r

  -- the same, of what the code returned
  pub one_kept : (reached : List (Option ℕ)) (s : Shape) (f g : AnalysisState) (b : ℕ) {n : ℕ}
      → n ≡ length f.shapes → b < n → (o : Result (Unit {0}) Refusal)
      → Gives g o (arrive s f b) → AreReached p reached f
      → IfOk o (λ _. AreReached p reached g)
  one_kept reached s f g b {n} long lt (Ok x) e r =
      one_keeps reached s f g b (subst (λ (m : ℕ). b < m) long lt) e r
  one_kept reached s f g b {n} long lt (Err q) e r = tt

  -- a shape that comes where one has come to all targets comes to all of them, or to none
  module _ (k lowest : ℕ) (s : Shape) (f g : AnalysisState) (h : HasCome p k lowest f) where
    there : shape_at f.shapes lowest ≡ Some h.shape
    there = h.known lowest (in_first (switch_leads p k) lowest h.first)

    same_shape : arrive s f lowest ≡ Ok g → (s ≡ h.shape) × (f ≡ g)
    same_shape e = at (arrived s f g lowest e).cases where
      at : ((shape_at f.shapes lowest ≡ Some s) × (f ≡ g)) ⊎ ((shape_at f.shapes lowest ≡ None)
          × (noted lowest s f ≡ g)) → (s ≡ h.shape) × (f ≡ g)
      at (inl x) = let both : Some s ≡ Some h.shape = sym x.0 ∙ there in (cc, x.1)
      at (inr x) = let bad : None ≡ Some h.shape = sym x.0 ∙ there in absurd cc

    pub again : (o : Result (Unit {0}) Refusal) → Gives g o (arrive s f lowest)
        → Gives g o (arrive_all (at_all s (switch_leads p k)) f)
    again (Ok x) e =
        let same = same_shape e in
        known_again (switch_leads p k) s f (λ a i. h.known a i
        ∙ ap (λ (t : Shape). Some t) (sym same.0))
        ∙ ap (λ (m : AnalysisState). Ok m) same.1
    again (Err r) (inl m) = inl m
    again (Err r) (inr bad) =
        inr (first_refuses (switch_leads p k) lowest s f r h.first bad)

    pub again_kept : (reached : List (Option ℕ)) (o : Result (Unit {0}) Refusal)
        → Gives g o (arrive s f lowest) → AreReached p reached f
        → IfOk o (λ _. AreReached p reached g)
    again_kept reached (Ok x) e r =
        subst (λ (m : AnalysisState). AreReached p reached m) (same_shape e).1 r
    again_kept reached (Err q) e r = tt

  -- a shape that has come to all targets is noted
  pub noted_all : (reached : List (Option ℕ)) (k : ℕ) (o : Option ℕ) (s : Shape)
      (f g : AnalysisState) (targets : List ℕ) {n : ℕ} → n ≡ length f.shapes
      → AllByRecursion (λ b. b < n) (switch_leads p k) → targets ≡ switch_leads p k
      → arrive_all (at_all s (switch_leads p k)) f ≡ Ok g
      → IfSome o (λ b. slice_get targets 0 ≡ Some b)
      → AreReached p reached f → AreReached p (set reached k o) g
  noted_all reached k o s f g targets {n} long within same_targets e first r j lowest is =
      at (cases_eq j k) (cases_lt k (length reached)) where
        inside : (b : ℕ) → In b (addresses (at_all s (switch_leads p k))) → b < length f.shapes
        inside b i =
            subst (λ (m : ℕ). b < m) long (among (switch_leads p k) within b
            (subst (In b) (addresses_each (switch_leads p k) s) i))

        spread : Spread f g (at_all s (switch_leads p k))
        spread = arrive_all_spread (at_all s (switch_leads p k)) f g inside e

        first_of : (q : Option ℕ) → q ≡ Some lowest → IfSome q (λ b. slice_get targets 0 ≡ Some b)
            → slice_get (switch_leads p k) 0 ≡ Some lowest
        first_of None h t = absurd cc
        first_of (Some b) h t =
            let same : b ≡ lowest = cc in
            ap (λ (l : List ℕ). slice_get l 0) (sym same_targets) ∙ t
            ∙ ap (λ (x : ℕ). Some x) same

        in_all : (xs : List ℕ) (a : ℕ) → In a xs → In (arrival a s) (at_all s xs)
        in_all [] a i = absurd i
        in_all (x ∷ xs) a (inl same) = inl (ap (λ (n : ℕ). arrival n s) same)
        in_all (x ∷ xs) a (inr i) = inr (in_all xs a i)

        at : (j ≡ k) ⊎ (j ≡ k → ⊥) → (k < length reached) ⊎ (length reached ≤ k)
            → HasCome p j lowest g
        at (inl same) (inl lt) =
            let here : o ≡ Some lowest =
            sym (get_or-set_same reached k o None lt)
            ∙ ap (λ (n : ℕ). get_or (set reached k o) n None) (sym same) ∙ is in
            subst (λ (n : ℕ). HasCome p n lowest g) (sym same) (record {
              first = first_of o here first;
              shape = s;
              known = λ a i. spread.there (arrival a s) (in_all (switch_leads p k) a i);
            })
        at (inl same) (inr le) =
            let past = get_or_past (set reached k o) j None (omega (
              arith,
              length-set reached k o,
              le,
              same,
            )) in
            absurd (nothing lowest (sym past ∙ is))
        at (inr ne) z =
            all_still reached f g spread.stays r j lowest
            (sym (get_or-set_other reached k j o None ne) ∙ is)

  -- at the beginning none is noted
  pub none_noted : (n : ℕ) (reached : List (Option ℕ)) (f : AnalysisState)
      → reached ≡ replicate n None → AreReached p reached f
  none_noted n reached f e k lowest is = at (cases_lt k n) where
    here : get_or (replicate n None) k None ≡ Some lowest
    here = ap (λ (l : List (Option ℕ)). get_or l k None) (sym e) ∙ is

    at : (k < n) ⊎ (n ≤ k) → HasCome p k lowest f
    at (inl lt) = absurd (nothing lowest (sym (get_or-replicate n k None None lt) ∙ here))
    at (inr le) =
        absurd (nothing lowest (sym (get_or_past (replicate n None) k None (omega (
          arith,
          length-replicate {A = Option ℕ} n None,
        ))) ∙ here))
