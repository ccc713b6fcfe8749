use Rattle.grain_addresses.proofs.Covered.{inside, outside}
use Rattle.grain_addresses.proofs.laws.addresses_have_lines.Goals as goal

pub returns-clause-inside : goal.returns-clause-inside
returns-clause-inside c bytes s a e h = inside bytes s a e h

pub returns-clause-past : goal.returns-clause-past
returns-clause-past c bytes s a e h = outside bytes s a e h
