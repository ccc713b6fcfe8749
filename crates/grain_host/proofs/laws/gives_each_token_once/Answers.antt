use Rattle.grain_host.proofs.Numbers.{gives_once}
use Rattle.grain_host.proofs.laws.gives_each_token_once.Goals as goal

pub returns-clause-goes_on : goal.returns-clause-goes_on
returns-clause-goes_on c = λ s numbered. gives_once s numbered
