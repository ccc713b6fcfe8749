use Rattle.std.proofs.Common.{◌∙◌, ◌∷◌, [], ◌++◌, refl, ap}
use Rattle.grain_host.proofs.Signing.{next_type}
use Rattle.grain_host.proofs.signatures.push_types.Goals as goal

pub loop-index-preserved : goal.loop-index-preserved
unfolding lib.Utf8.encode
loop-index-preserved c = (
  (44 ∷ 32 ∷ [], (refl, refl)),
  next_type c.args.values.now c.loop-index.index c.at.result.now c.loop-index.lead.now
      c.loop-index.out
      c.push_str.new.self c.push_str-in-loop-index.new.self c.at.ensures c.in_ok-push_str.ensures
      (c.in_ok-push_str-2.ensures ∙ ap (λ t. c.push_str.new.self ++ t)
      (c.as_str-in-loop-index.ensures ∙ c.in_ok-own_type_name.ensures)) ∙ c.loop-index.invariant.1,
)
