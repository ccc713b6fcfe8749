use Rattle.grain_addresses.proofs.StepsFound.{named, none_named}
use Rattle.grain_addresses.proofs.laws.steps_have_lines.Goals as goal

pub returns-clause-found : goal.returns-clause-found
returns-clause-found c bytes s k n chain x e is there = named bytes s k n chain x e is there

pub returns-clause-none : goal.returns-clause-none
returns-clause-none c bytes s k slot e none = none_named bytes s k slot e none
