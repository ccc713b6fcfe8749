use Rattle.std.proofs.Common.{inr, subst, length}
use Rattle.grain_program.specs.View.{view_of}
use Rattle.grain_program.specs.Owners.{rule_at, IsFirstFound}
use Rattle.grain_program.proofs.Tiles.{is_tiled}
use Rattle.grain_program.proofs.Searches.{refused, splits}
use Rattle.grain_program.proofs.verifier.rules.check_rules.Goals as goal

pub owners_of-requires : goal.owners_of-requires
owners_of-requires c = is_tiled (length c.args.parts.now.code) c.args.chunks.now c.requires.laid

pub first_rule-requires-clause-small : goal.first_rule-requires-clause-small
first_rule-requires-clause-small c =
    (is_tiled (length c.args.parts.now.code) c.args.chunks.now c.requires.laid).small

pub returns-in-Some-clause-err : goal.returns-in-Some-clause-err
returns-in-Some-clause-err c =
    let found =
    subst (λ t. IsFirstFound (rule_at (view_of c.args.parts.now) t) (length t)
    c.first_rule.result) c.deref-2.ensures.value c.first_rule.ensures in
    inr
    (refused (view_of c.args.parts.now) c.args.chunks.now c.requires.whole c.requires.laid
    c.in-Ok.owners.items c.in-Ok.ensures c.first_rule.result found
    c.misnamed_function.result c.empty_chunk.result c.earlier-by_functions.result c.earlier.result
    c.misnamed_function.ensures c.empty_chunk.ensures c.earlier-by_functions.ensures
    c.earlier.ensures c.in-Some.refusal c.in-Some.is)

pub returns-clause-ok : goal.returns-clause-ok
returns-clause-ok c =
    let found =
    subst (λ t. IsFirstFound (rule_at (view_of c.args.parts.now) t) (length t)
    c.first_rule.result) c.deref-2.ensures.value c.first_rule.ensures in
    record {
      laid = c.requires.laid;
      splits =
          splits (view_of c.args.parts.now) c.args.chunks.now c.requires.whole c.requires.laid
          c.in-Ok.owners.items c.in-Ok.ensures c.first_rule.result found
          c.misnamed_function.result c.empty_chunk.result c.earlier-by_functions.result
          c.earlier.result
          c.misnamed_function.ensures c.empty_chunk.ensures c.earlier-by_functions.ensures
          c.earlier.ensures c.in-None.is;
    }
