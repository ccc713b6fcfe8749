use Rattle.grain_means.proofs.Staying.{goes_nowhere, goes_to_entry, goes_to_this, receiver_stays}
use Rattle.grain_means.proofs.laws.receiver_stays.Goals as goal

pub returns-clause-stays : goal.returns-clause-stays
returns-clause-stays g c = λ m d r values h next f k w v a found clear writable run. receiver_stays
    m d r values h next f k w v a found clear writable run

pub returns-clause-to_this : goal.returns-clause-to_this
returns-clause-to_this g c = λ m next f h a w p is plain writable. goes_to_this m next f h a w plain
    writable p is

pub returns-clause-to_entry : goal.returns-clause-to_entry
returns-clause-to_entry g c = λ m next f h a w slot before is plain writable. goes_to_entry m next f h
    a w plain writable slot before is

pub returns-clause-nowhere : goal.returns-clause-nowhere
returns-clause-nowhere g c = λ m d next f h a w kept. goes_nowhere m next f h a w d kept
