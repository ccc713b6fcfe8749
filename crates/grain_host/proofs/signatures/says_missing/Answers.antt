use Rattle.std.proofs.lemmas.Str.Pattern.{starts_text}
use Rattle.grain_host.proofs.signatures.says_missing.Goals as goal

pub returns-in-ErrorFunctionNotFound : goal.returns-in-ErrorFunctionNotFound
returns-in-ErrorFunctionNotFound c =
    rw (
      c.in-ErrorFunctionNotFound.is,
      ← c.as_str.ensures,
      ← c.as_str-in-ErrorFunctionNotFound.ensures,
    )
    (starts_text c.starts_with.result _ _ c.starts_with.ensures.cases)
