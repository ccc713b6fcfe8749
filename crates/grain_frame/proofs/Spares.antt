-- Scopes whose memory the next frames take over: they are empty.
use Rattle.std.proofs.Common.{◌≡◌, ◌<◌, ◌+◌, ℕ, List, [], ◌∷◌, All, drop, length, slice_index_or, slice_set, suc, sym, subst, arith}
use Rattle.std.proofs.lemmas.List.{drop-set-lt, drop_more}
use Rattle.grain_value.specs.declared.scopes.Entry.{Entry}

abbrev AllEmpty : List (List Entry) → Type 0
AllEmpty scopes = All (λ (scope : List Entry). scope ≡ []) scopes

module _ (scopes : List (List Entry)) (n : ℕ) (there : n < length scopes)
    (spare : AllEmpty (drop n scopes)) where
  parts : (d : List Entry) → AllEmpty (slice_index_or scopes n d ∷ drop (n + 1) scopes)
  parts d = subst AllEmpty (drop_more scopes n d there) spare

  pub first_spare : (d : List Entry) → slice_index_or scopes n d ≡ []
  first_spare d = parts d 0 d (omega arith)

  pub spare_after : (scope : List Entry) → AllEmpty (drop (n + 1) (slice_set scopes n scope))
  spare_after scope = subst AllEmpty (sym (drop-set-lt (n + 1) scopes n scope (omega arith)))
      (λ k d less. parts d (suc k) d (omega (arith, less)))
