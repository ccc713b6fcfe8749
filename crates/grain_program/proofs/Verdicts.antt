-- All phases together: what is valid is not refused, and what is refused is refused for one reason.
use Rattle.std.proofs.Common.{◌≡◌, ℕ, zero, suc, ◌⊎◌, List, length, Some, None, Result, Ok, Err, refl, sym, ap, ◌∙◌, inl, inr, arith}
use Rattle.std.specs.Prelude.{IfOk, IfErr}
use Rattle.grain_program.specs.declared.code.parts.Chunk.{Chunk}
use Rattle.grain_program.specs.declared.verifier.refusals.Refusal.{Refusal}
use Rattle.grain_program.specs.declared.verifier.refusals.Refusal.TheVariants as refusal
use Rattle.grain_program.specs.View.{View}
use Rattle.grain_program.specs.Layout.{layout_fault}
use Rattle.grain_program.specs.Rules.{Splits, IsSplit, Breach, address_of, rule_of, Precedes, IsFirst, RefusedBeforeChains, RefusedForChain}
use Rattle.grain_program.specs.Typing.{HasTyping, Valid, analysis, StopsWith, Refused}
use Rattle.grain_program.proofs.Tiles.{is_tiled}
use Rattle.grain_program.proofs.Breaches.{ByOp, ByName, ByEmptyChunk, kind_of}
use Rattle.grain_program.proofs.Meaning.{none_by_op}
use Rattle.grain_program.proofs.AllChunks.{never_stops}
use Rattle.grain_program.specs.Chains.{AreGoodChains, first_bad_chain}
use Rattle.grain_program.proofs.GoodChains.{all_are_good, refused_for_chain, one_chain}

-- the refusal of the rule at the address
refusal_of : ℕ → ℕ → Refusal
refusal_of zero a = refusal.Memory
refusal_of (suc zero) a = refusal.Undecodable a
refusal_of (suc (suc zero)) a = refusal.PoolIndex a
refusal_of (suc (suc (suc zero))) a = refusal.JumpTarget a
refusal_of (suc (suc (suc (suc zero)))) a = refusal.FallsOff a
refusal_of (suc (suc (suc (suc (suc n))))) a = refusal.Capability a

module _ (p : View) (chunks : List Chunk) where
  -- where each rule is obeyed there is no breach
  no_breach : layout_fault (length p.code) chunks ≡ None → Splits p chunks → (q : Refusal)
      → Breach p chunks q → ⊥
  no_breach laid w q h = at q (kind_of p chunks q h) where
    name : (q : Refusal) → ByName p q → ⊥
    name (refusal.PoolIndex a) h = h.1.3 (w.named h.0 h.1.0 h.1.1)
    name _ h = h

    empty_one : (q : Refusal) → ByEmptyChunk chunks q → ⊥
    empty_one (refusal.FallsOff a) h =
        let full = w.full h.0 h.1.0 h.1.1 in omega (arith, full, h.1.2, h.1.3)
    empty_one _ h = h

    at : (q : Refusal) → ByOp p chunks q ⊎ (ByName p q ⊎ ByEmptyChunk chunks q) → ⊥
    at q (inl h) = none_by_op p chunks (is_tiled (length p.code) chunks laid) (address_of q)
        (λ i c g s. w.obeys i c (address_of q) g s) q h refl
    at q (inr (inl h)) = name q h
    at q (inr (inr h)) = empty_one q h

  not_early : layout_fault (length p.code) chunks ≡ None → Splits p chunks → (r : Refusal)
      → RefusedBeforeChains p chunks r → ⊥
  not_early laid w r (inl h) = let bad : None ≡ Some h.0 = sym laid ∙ h.1 in cc
  not_early laid w r (inr h) = no_breach laid w r h.1.breach

  pub not_refused : Valid p chunks → (r : Refusal) → Refused p chunks r → ⊥
  not_refused v r (inl h) = not_early v.layout v.splits r h
  not_refused v r (inr (inl h)) = h.1.1.bad (v.chains h.1.0 h.1.1.chain h.1.1.is)
  not_refused v r (inr (inr h)) = never_stops p chunks v.layout v.splits v.typing v.typed r h.2

  -- what is refused for want of memory or else for a broken rule is, of valid parts, for want of
  -- memory
  pub only_memory : Valid p chunks → (r : Refusal) → (r ≡ refusal.Memory) ⊎ Refused p chunks r
      → r ≡ refusal.Memory
  only_memory v r (inl m) = m
  only_memory v r (inr h) = absurd (not_refused v r h)

  pub refused_before_chains : (r : Refusal) → (r ≡ refusal.Memory) ⊎ RefusedBeforeChains p chunks
      r → (r ≡ refusal.Memory) ⊎ Refused p chunks r
  refused_before_chains r (inl m) = inl m
  refused_before_chains r (inr h) = inr (inl h)

  pub typed_well : IsSplit p chunks → first_bad_chain 0 0 p.chains ≡ None
      → (x : Result (Unit {0}) Refusal) → IfOk x (λ y. HasTyping p chunks)
      → IfOk x (λ y. Valid p chunks)
  typed_well split e (Ok y) h = record {
    layout = split.laid;
    splits = split.splits;
    chains = all_are_good p e;
    typing = h.0;
    typed = h.1;
  }
  typed_well split e (Err r) h = tt

  pub refused_by_chain : IsSplit p chunks → (r : Refusal) → first_bad_chain 0 0 p.chains ≡ Some r
      → (r ≡ refusal.Memory) ⊎ Refused p chunks r
  refused_by_chain split r e = inr (inr (inl (split, refused_for_chain p r e)))

  pub refused_by_heights : IsSplit p chunks → first_bad_chain 0 0 p.chains ≡ None
      → (x : Result (Unit {0}) Refusal) → IfErr x (λ r. (r ≡ refusal.Memory)
      ⊎ StopsWith p chunks r) → IfErr x (λ r. (r ≡ refusal.Memory) ⊎ Refused p chunks r)
  refused_by_heights split e (Ok y) h = tt
  refused_by_heights split e (Err r) (inl m) = inl m
  refused_by_heights split e (Err r) (inr s) =
      inr (inr (inr (split, all_are_good p e, s)))

  pub complete : (x : Result (Unit {0}) Refusal) → IfErr x (λ r. (r ≡ refusal.Memory)
      ⊎ Refused p chunks r) → Valid p chunks → IfErr x (λ r. r ≡ refusal.Memory)
  complete (Ok y) h v = tt
  complete (Err r) h v = only_memory v r h

  -- ---- one reason

  is_of : (r : Refusal) → Breach p chunks r → refusal_of (rule_of r) (address_of r) ≡ r
  unfolding refusal_of
  is_of (refusal.Undecodable a) h = refl
  is_of (refusal.PoolIndex a) h = refl
  is_of (refusal.JumpTarget a) h = refl
  is_of (refusal.FallsOff a) h = refl
  is_of (refusal.Capability a) h = refl
  is_of _ h = absurd h

  both_ways : (r s : Refusal) → Precedes r s → Precedes s r → (address_of r ≡ address_of s)
      × (rule_of r ≡ rule_of s)
  both_ways r s (inl x) (inl y) = absurd (omega arith)
  both_ways r s (inl x) (inr y) = absurd (omega (arith, x, y.0))
  both_ways r s (inr x) (inl y) = absurd (omega (arith, y, x.0))
  both_ways r s (inr x) (inr y) = (x.0, omega (arith, x.1, y.1))

  one_first : (r s : Refusal) → IsFirst p chunks r → IsFirst p chunks s → r ≡ s
  one_first r s x y =
      let e = both_ways r s (x.first s y.breach) (y.first r x.breach) in
      sym (is_of r x.breach) ∙ ap (λ n. refusal_of n (address_of r)) e.1
      ∙ ap (refusal_of (rule_of s)) e.0 ∙ is_of s y.breach

  one_early : (r s : Refusal) → RefusedBeforeChains p chunks r → RefusedBeforeChains p chunks s
      → r ≡ s
  one_early r s (inl x) (inl y) =
      let both : Some x.0 ≡ Some y.0 = sym x.1 ∙ y.1 in
      let same : x.0 ≡ y.0 = cc in
      x.2 ∙ ap (λ (a : ℕ). refusal.Undecodable a) same ∙ sym y.2
  one_early r s (inl x) (inr y) = let bad : Some x.0 ≡ None = sym x.1 ∙ y.0 in absurd cc
  one_early r s (inr x) (inl y) = let bad : Some y.0 ≡ None = sym y.1 ∙ x.0 in absurd cc
  one_early r s (inr x) (inr y) = one_first r s x.1 y.1

  one_stop : (r s : Refusal) → analysis p chunks ≡ Err r → analysis p chunks ≡ Err s
      → r ≡ s
  one_stop r s x y =
      let both : Err r ≡ Err s = sym x ∙ y in
      cc

  one_bad_chain : (r s : Refusal) → RefusedForChain p r → RefusedForChain p s → r ≡ s
  one_bad_chain r s x y =
      x.2 ∙ ap (λ (i : ℕ). refusal.BadChain i) (one_chain p x.0 y.0 x.1 y.1) ∙ sym y.2

  all_good : (r : Refusal) → RefusedForChain p r → AreGoodChains p → ⊥
  all_good r x good = x.1.bad (good x.0 x.1.chain x.1.is)

  pub one_refused : (r s : Refusal) → Refused p chunks r → Refused p chunks s → r ≡ s
  one_refused r s (inl x) (inl y) = one_early r s x y
  one_refused r s (inl x) (inr (inl y)) = absurd (not_early y.0.laid y.0.splits r x)
  one_refused r s (inl x) (inr (inr y)) = absurd (not_early y.0.laid y.0.splits r x)
  one_refused r s (inr (inl x)) (inl y) = absurd (not_early x.0.laid x.0.splits s y)
  one_refused r s (inr (inl x)) (inr (inl y)) = one_bad_chain r s x.1 y.1
  one_refused r s (inr (inl x)) (inr (inr y)) = absurd (all_good r x.1 y.1)
  one_refused r s (inr (inr x)) (inl y) = absurd (not_early x.0.laid x.0.splits s y)
  one_refused r s (inr (inr x)) (inr (inl y)) = absurd (all_good s y.1 x.1)
  one_refused r s (inr (inr x)) (inr (inr y)) = one_stop r s x.2 y.2
