use Rattle.grain_means.proofs.Staying.{falls_on, goes_back, under_constant, under_writable}
use Rattle.grain_means.proofs.laws.stays_written.Goals as goal

pub returns-clause-writable : goal.returns-clause-writable
returns-clause-writable g c = under_writable

pub returns-clause-constant : goal.returns-clause-constant
returns-clause-constant g c = under_constant

pub returns-clause-falls : goal.returns-clause-falls
returns-clause-falls g c = λ m walk i go w x comes. falls_on m walk i go w comes x

pub returns-clause-survives : goal.returns-clause-survives
returns-clause-survives g c = λ m k next n f back w u x missed t falls.
    goes_back m k next n f back w x missed t falls u
