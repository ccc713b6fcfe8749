-- The row of each kind of fault with which a walk ends.
use Rattle.std.proofs.Common.{◌≡◌, ◌⊎◌, ℕ, ℤ, inl, inr, sym, subst}
use Rattle.grain_value.specs.declared.values.Dynamic.{Dynamic}
use Rattle.grain_value.specs.declared.values.Dynamic.TheVariants as dynamic
use Rattle.grain_fault.specs.Problems.{Problem, Plain, Arithmetic, DataTooLarge, StackOverflow, Terminated, TooManyOperations, TooManyVariables}
use Rattle.grain_fault.specs.declared.places.Position.{Position}
use Rattle.grain_means.specs.Walks.{out_of_bounds}
use Rattle.grain_means.specs.Worlds.{Setup}
use Rattle.grain_means.specs.Causes.Spots.{Calculates, ChainWalk, InsteadFails, IsNoPointer, IsNotEntered, LacksIndex, LacksProperty, MistypesIndex, MistypesPart, NativeFails, OutOfBounds, OwnRow, PointedFails, ReadsLentCell, WalkRow}

module _ {S : Type 0} (m : Setup S) (c : ChainWalk S) (n : ℕ) where
  abbrev Row : Problem → Type 0
  Row x = OwnRow m c n x ⊎ (NativeFails m c n x ⊎ (InsteadFails m c n x ⊎ PointedFails m c n x))

  bounds : (d : Dynamic) (size : ℕ) (i : ℤ) (q : Position) →
      OutOfBounds m c n (Plain (out_of_bounds d size i) q) →
      OwnRow m c n (Plain (out_of_bounds d size i) q)
  bounds (dynamic.Array ts) size i q o = o
  bounds (dynamic.Blob s) size i q o = o
  bounds (dynamic.Text s) size i q o = o
  bounds d size i q o = o

  -- a row that says which fault it is of
  at_fault : (P : Problem → Type 0) (x y : Problem) → x ≡ y → P x → (P y → OwnRow m c n y) → Row x
  at_fault P x y is row own = inl (subst (OwnRow m c n) (sym is) (own (subst P is row)))

  calculates : (x : Problem) → Calculates m c n x → Row x
  calculates x o = by_outcome o.none where
    by_outcome : {A B : Type 0} → (A × (x ≡ Plain (Arithmetic o.text) o.position))
        ⊎ (B × (x ≡ Plain (DataTooLarge o.text) o.position)) → Row x
    by_outcome (inl a) =
        at_fault (Calculates m c n) x (Plain (Arithmetic o.text) o.position) a.1 o (λ p. p)
    by_outcome (inr b) =
        at_fault (Calculates m c n) x (Plain (DataTooLarge o.text) o.position) b.1 o (λ p. p)

  not_entered : (x : Problem) → IsNotEntered m c n x → Row x
  not_entered x o = by_why o.why where
    q : Position
    q = o.invokes.call.position

    own : (y : Problem) → x ≡ y → (IsNotEntered m c n y → OwnRow m c n y) → Row x
    own y is row = at_fault (IsNotEntered m c n) x y is o row

    by_why : {A B C D E F G H I J K L : Type 0} {T : Dynamic → Type 0} →
        (A × B × (x ≡ Plain TooManyOperations q))
        ⊎ (((v : Dynamic) × C × D × T v × E × (x ≡ Plain (Terminated v) q))
        ⊎ ((F × G × H × (x ≡ Plain StackOverflow q))
        ⊎ (I × J × K × L × (x ≡ Plain TooManyVariables q)))) → Row x
    by_why (inl a) = own (Plain TooManyOperations q) a.2 (λ p. p)
    by_why (inr (inl a)) = own (Plain (Terminated a.0) q) a.5 (λ p. p)
    by_why (inr (inr (inl a))) = own (Plain StackOverflow q) a.3 (λ p. p)
    by_why (inr (inr (inr a))) = own (Plain TooManyVariables q) a.4 (λ p. p)

  pub row_of_kind : (x : Problem) → WalkRow m c n x → Row x
  row_of_kind x (inl o) = at_fault (OutOfBounds m c n) x _ o.is o (λ p. bounds _ o.size o.number o.position p)
  row_of_kind x (inr (inl o)) = at_fault (MistypesIndex m c n) x _ o.is o (λ p. inl p)
  row_of_kind x (inr (inr (inl o))) = at_fault (LacksIndex m c n) x _ o.is o (λ p. inl p)
  row_of_kind x (inr (inr (inr (inl o)))) =
      at_fault (LacksProperty m c n) x _ o.is o (λ p. inr p)
  row_of_kind x (inr (inr (inr (inr (inl o))))) =
      at_fault (ReadsLentCell m c n) x _ o.is o (λ p. p)
  row_of_kind x (inr (inr (inr (inr (inr (inl o)))))) =
      at_fault (MistypesPart m c n) x _ o.is o (λ p. inr (inl p))
  row_of_kind x (inr (inr (inr (inr (inr (inr (inl o))))))) = calculates x o
  row_of_kind x (inr (inr (inr (inr (inr (inr (inr (inl o)))))))) = inr (inl o)
  row_of_kind x (inr (inr (inr (inr (inr (inr (inr (inr (inl o))))))))) = inr (inr (inl o))
  row_of_kind x (inr (inr (inr (inr (inr (inr (inr (inr (inr (inl o)))))))))) =
      at_fault (IsNoPointer m c n) x _ o.is o (λ p. inr (inr p))
  row_of_kind x (inr (inr (inr (inr (inr (inr (inr (inr (inr (inr (inl o))))))))))) = not_entered x o
  row_of_kind x (inr (inr (inr (inr (inr (inr (inr (inr (inr (inr (inr o))))))))))) =
      inr (inr (inr o))
