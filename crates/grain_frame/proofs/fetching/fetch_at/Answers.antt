-- What the frame with which the address is typed provides holds with any.
use Rattle.grain_frame.proofs.fetching.fetch_at.Goals as goal

pub returns-clause-wide : goal.returns-clause-wide
returns-clause-wide c =
    let t = c.requires in
    (c.fetch.ensures.provides t.0 t.1.0 t.1.1.0 t.1.1.1).wide

pub returns-clause-fits : goal.returns-clause-fits
returns-clause-fits c =
    let t = c.requires in
    (c.fetch.ensures.provides t.0 t.1.0 t.1.1.0 t.1.1.1).inside

pub returns-clause-pools : goal.returns-clause-pools
returns-clause-pools c =
    let t = c.requires in
    (c.fetch.ensures.provides t.0 t.1.0 t.1.1.0 t.1.1.1).pools
