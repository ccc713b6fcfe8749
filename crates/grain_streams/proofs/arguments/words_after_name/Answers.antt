use Rattle.std.proofs.Common.{◌≡◌, ◌<◌, length, drop, List, ◌++◌, [], ◌∷◌, Option, Some, None, rules, arith, sym, ap, ◌∙◌}
use Rattle.std.proofs.IntoIterSteps.{All-taken}
use Rattle.std.proofs.lemmas.Result.{IfOk-weaker}
use Rattle.std.specs.Option.{IsSome, option_to_list}
use Rattle.std.specs.Vec.Iter.{into_iter_items, into_iter_len}
use Rattle.grain_streams.proofs.arguments.words_after_name.Goals as goal

-- what is left after a first item that was taken
behind : {X : Type 0} (first : Option X) (all left : List X) → all ≡ option_to_list first ++ left →
    (0 < length all → IsSome first) → drop 1 all ≡ left
behind (Some x) all left e some = ap (drop 1) e
behind None [] left e some = e
behind {X = X} None (x ∷ xs) left e some = absurd (let is : IsSome {T = X} None =
    some (omega arith) in cc)

pub returns : goal.returns
returns c =
    let all : length (into_iter_items c.args.args) ≡ into_iter_len c.args.args = search rules in
    let left = behind c.next.result (into_iter_items c.args.args)
    (into_iter_items c.next.new.self) c.next.ensures.items
    (rw (← all) at c.next.ensures.variant.1) in
    IfOk-weaker c.from_iter.result _ _ (λ v h. h.4.0 ∙
    All-taken h.0 h.1 ((h.3.2 tt).0, (h.3.0, h.3.1, (h.3.2 tt).1)) ∙ ap into_iter_items h.2 ∙
    sym left) c.from_iter.ensures.ran
