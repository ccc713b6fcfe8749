-- One token more.
use Rattle.std.proofs.Common.{◌≡◌, ◌∙◌, ◌++◌, ◌+◌, ℕ, zero, suc, List, [], ◌∷◌, Some, codes, take, slice_get, refl, sym, ap, arith, append_assoc, append-nil}
use Rattle.std.specs.Fmt.{HasWritten}
use Rattle.std.specs.declared.fmt.Formatter.{Formatter}
use Rattle.std.proofs.Output.{has_written_append, has_written_of_eq}
use Rattle.grain_value.specs.Tree.{Tree}
use Rattle.grain_value.specs.View.{tree, value_of}
use Rattle.grain_value.specs.laws.Same.{value_of-tree}
use Rattle.grain_value.specs.Writing.{plain}
use Rattle.grain_value.specs.declared.values.Dynamic.{Dynamic}
use Rattle.grain_fault.specs.Table.{spaced}

-- what stands before the token at an index, if this stands before the first one
abbrev pub lead_from : List ℕ → ℕ → List ℕ
lead_from lead zero = lead
lead_from lead (suc i) = codes " "

later : (i : ℕ) → lead_from (codes " ") i ≡ codes " "
later zero = refl
later (suc i) = refl

one_more : (lead : List ℕ) (ts : List Tree) (i : ℕ) (t : Tree) → slice_get ts i ≡ Some t →
    spaced lead (take (suc i) ts)
    ≡ spaced lead (take i ts) ++ (lead_from lead i ++ plain (value_of t))
one_more lead [] i t there = absurd cc
one_more lead (u ∷ ts) zero t there =
    let same : u ≡ t = cc in
    append-nil (lead ++ plain (value_of u)) ∙ ap (λ x. lead ++ plain (value_of x)) same
one_more lead (u ∷ ts) (suc i) t there =
    ap (λ rest. lead ++ plain (value_of u) ++ rest)
    (one_more (codes " ") ts i t there
    ∙ ap (λ l. spaced (codes " ") (take i ts) ++ (l ++ plain (value_of t))) (later i))
    ∙ sym (append_assoc (lead ++ plain (value_of u)) (spaced (codes " ") (take i ts))
    (codes " " ++ plain (value_of t)))

-- a blank stands before each token but the first
pub blank_before_next : (i : ℕ) → codes " " ≡ lead_from [] (i + 1)
blank_before_next i =
    let next : suc i ≡ i + 1 = omega arith in ap (λ n. lead_from [] n) next

-- a token is written after the ones before it
pub token_written : {W : Type 0} (took : W → List ℕ → W → Type 0) (f g h : Formatter W)
    (ts : List Tree) (i : ℕ) (lead : List ℕ) (v : Dynamic) → slice_get ts i ≡ Some (tree v) →
    lead ≡ lead_from [] i → HasWritten took f (spaced [] (take i ts)) g →
    HasWritten took g (lead ++ plain v) h → HasWritten took f (spaced [] (take (i + 1) ts)) h
token_written took f g h ts i lead v there leads before after_it =
    let next : i + 1 ≡ suc i = omega arith in
    let whole : spaced [] (take i ts) ++ (lead ++ plain v) ≡ spaced [] (take (i + 1) ts) =
    ap (λ l. spaced [] (take i ts) ++ (l ++ plain v)) leads
    ∙ ap (λ u. spaced [] (take i ts) ++ (lead_from [] i ++ plain u)) (sym (value_of-tree v))
    ∙ sym (one_more [] ts i (tree v) there)
    ∙ ap (λ n. spaced [] (take n ts)) (sym next) in
    has_written_of_eq took f _ _ h whole
    (has_written_append took f (spaced [] (take i ts)) g (lead ++ plain v) h before after_it)
