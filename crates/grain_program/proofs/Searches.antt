-- What the searches for the first breach found, as the code has it.
use Rattle.std.proofs.Common.{◌≡◌, ◌⊎◌, List, length, Option, Some, None, sym, ap, subst, ◌∙◌, inr}
use Rattle.grain_program.specs.declared.code.parts.Chunk.{Chunk}
use Rattle.grain_program.specs.declared.verifier.owners.Owner.{Owner}
use Rattle.grain_program.specs.declared.verifier.refusals.Refusal.{Refusal}
use Rattle.grain_program.specs.View.{View}
use Rattle.grain_program.specs.Layout.{chunks_in, layout_fault}
use Rattle.grain_program.specs.Rules.{Splits, RefusedBeforeChains, earlier}
use Rattle.grain_program.specs.Owners.{Owned, rule_at, IsFirstFound, first_empty, first_misnamed}
use Rattle.grain_program.proofs.Breaches.{ByOp, ByName, ByEmptyChunk, FirstOf, earlier_first, is_first, neither}
use Rattle.grain_program.proofs.Tiles.{is_tiled, none_empty, first_of_empty, first_name, all_named}
use Rattle.grain_program.proofs.Meaning.{first_op, none_found}

module _ (p : View) (chunks : List Chunk) (whole : chunks ≡ chunks_in p) (laid : layout_fault
    (length p.code) chunks ≡ None) (owners : List Owner) (o : Owned p.code chunks (length chunks)
    owners)
    (ops : Option Refusal) (found : IsFirstFound (rule_at p owners) (length owners) ops) where
  searched : IsFirstFound (rule_at p owners) (length p.code) ops
  searched = subst (λ n. IsFirstFound (rule_at p owners) n ops) o.long found

  all : FirstOf (λ s. ByOp p chunks s ⊎ (ByName p s ⊎ ByEmptyChunk chunks s))
      (earlier ops (earlier (first_misnamed p p.functions) (first_empty chunks)))
  all =
      earlier_first (ByOp p chunks) (λ s. ByName p s ⊎ ByEmptyChunk chunks s) ops
      (earlier (first_misnamed p p.functions) (first_empty chunks))
      (first_op p chunks (is_tiled (length p.code) chunks laid) owners o ops searched)
      (earlier_first (ByName p) (ByEmptyChunk chunks) (first_misnamed p p.functions)
      (first_empty chunks) (first_name p chunks whole laid) (first_of_empty (length p.code)
      chunks laid))

  -- what the code puts together is the first of all
  module _ (misnamed empty_one others first : Option Refusal) (e : misnamed ≡ first_misnamed p
      p.functions) (h : empty_one ≡ first_empty chunks) (by : others ≡ earlier misnamed empty_one)
      (is : first ≡ earlier ops others) where
    together : first ≡ earlier ops (earlier (first_misnamed p p.functions) (first_empty chunks))
    together = is ∙ ap (λ x. earlier ops x) (by ∙ ap (λ x. earlier x empty_one) e
        ∙ ap (λ x. earlier (first_misnamed p p.functions) x) h)

    pub refused : (r : Refusal) → first ≡ Some r → RefusedBeforeChains p chunks r
    refused r k =
        inr (
          laid,
          is_first p chunks r (subst (FirstOf (λ s. ByOp p chunks s
              ⊎ (ByName p s ⊎ ByEmptyChunk chunks s))) (sym together ∙ k) all),
        )

    pub splits : first ≡ None → Splits p chunks
    splits k =
        let one =
        neither ops (earlier (first_misnamed p p.functions) (first_empty chunks)) (sym together
        ∙ k) in
        let two = neither (first_misnamed p p.functions) (first_empty chunks) one.1 in
        let none = subst (IsFirstFound (rule_at p owners) (length p.code)) one.0 searched in
        none_found p chunks (is_tiled (length p.code) chunks laid) owners o (none_empty chunks
        two.1) none (all_named p p.functions two.0)
