-- A text that is written piece by piece.
use Rattle.std.proofs.Common.{◌≡◌, ℕ, ◌+◌, List, ◌++◌, take, drop, Option, Some, None, refl, sym, ap, ◌∙◌, append_assoc}
use Rattle.std.proofs.Math.Seq.{take-add}
use Rattle.grain_streams.specs.Streams.{added}

pub added_twice : (a b : List ℕ) (o : Option (List ℕ)) → added b (added a o) ≡ added (a ++ b) o
added_twice a b None = refl
added_twice a b (Some w) = ap Some (append_assoc w a b)

-- one piece more
pub piece_more : (done count : ℕ) (text rest : List ℕ) (before middle now : Option (List ℕ)) →
    rest ≡ drop done text →
    middle ≡ added (take done text) before → now ≡ added (take count rest) middle →
    now ≡ added (take (done + count) text) before
piece_more done count text rest before middle now r m n =
    n ∙ ap (λ x. added (take count x) middle) r ∙ ap (added (take count (drop done text))) m ∙
    added_twice (take done text) (take count (drop done text)) before
    ∙ ap (λ x. added x before) (sym (take-add done count text))
