-- The targets of a switch are put in order part by part.
use Rattle.std.proofs.Common.{◌≡◌, ℕ, suc, ◌+◌, ◌<◌, List, [], ◌∷◌, ◌++◌, length, drop, get_or, refl, sym, ap, ◌∙◌, arith}
use Rattle.std.proofs.Math.Seq.{drop-cons}
use Rattle.std.specs.Ordering.{nat_cmp}
use Rattle.std.specs.BTreeSet.{insert_key}
use Rattle.grain_program.specs.declared.code.switches.SwitchRange.{SwitchRange}
use Rattle.grain_program.specs.declared.code.switches.Switch.{Switch}
use Rattle.grain_program.specs.Switches.{case_targets, range_targets, targets_in, put_in_order, in_order}

put_both : (xs ys zs : List ℕ)
    → put_in_order xs (ys ++ zs) ≡ put_in_order (put_in_order xs ys) zs
put_both xs [] zs = refl
put_both xs (y ∷ ys) zs = put_both (insert_key nat_cmp xs y) ys zs

-- one range more
pub one_range : (keys now all : List ℕ) (rs : List SwitchRange) (i : ℕ) (r : SwitchRange)
    → i < length rs → put_in_order keys (range_targets (drop i rs)) ≡ all
    → now ≡ insert_key nat_cmp keys (get_or rs i r).target
    → put_in_order now (range_targets (drop (i + 1) rs)) ≡ all
one_range keys now all rs i r lt e is =
    let next : suc i ≡ i + 1 = omega arith in
    ap (λ (l : List ℕ). put_in_order l (range_targets (drop (i + 1) rs))) is
    ∙ ap (λ (n : ℕ). put_in_order (insert_key nat_cmp keys (get_or rs i r).target)
    (range_targets (drop n rs))) (sym next)
    ∙ ap (λ (l : List SwitchRange). put_in_order keys (range_targets l))
    (sym (drop-cons rs i r lt))
    ∙ e

-- as the code does it
pub all_put : (s : Switch) (none cases ranges all : List ℕ) → none ≡ []
    → cases ≡ put_in_order none (case_targets s.cases)
    → ranges ≡ put_in_order cases (range_targets s.ranges)
    → all ≡ insert_key nat_cmp ranges s.default → all ≡ in_order (targets_in s)
all_put s none cases ranges all e f g h =
    let others : List ℕ = range_targets s.ranges ++ s.default ∷ [] in
    let last : List ℕ = s.default ∷ [] in
    h
    ∙ ap (λ (l : List ℕ). put_in_order l last) g
    ∙ ap (λ (l : List ℕ). put_in_order (put_in_order l (range_targets s.ranges)) last) f
    ∙ sym (put_both (put_in_order none (case_targets s.cases)) (range_targets s.ranges) last)
    ∙ ap (λ (l : List ℕ). put_in_order (put_in_order l (case_targets s.cases)) others) e
    ∙ sym (put_both [] (case_targets s.cases) others)
