use Rattle.grain_value.specs.laws.PathLaws.{at-put, put-put}
use Rattle.grain_means.specs.lemmas.PlaceLaws.{at-further, put-further}
use Rattle.grain_means.specs.lemmas.BesideLaws.{at-beside}
use Rattle.grain_means.proofs.laws.written_paths.Goals as goal

pub returns-clause-there : goal.returns-clause-there
returns-clause-there c = λ p t new leads. at-put p t new leads

pub returns-clause-twice : goal.returns-clause-twice
returns-clause-twice c = λ p t a b leads. put-put p t a b leads

pub returns-clause-beside : goal.returns-clause-beside
returns-clause-beside c = λ p q t new apart. at-beside p q t new apart

pub returns-clause-further : goal.returns-clause-further
returns-clause-further c = λ p q t u new is. (at-further p q t u is, put-further p q new t u is)
