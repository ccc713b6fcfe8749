-- The home of the switch tells.
use Rattle.std.proofs.Common.{length, refl}
use Rattle.std.proofs.lemmas.Option.{slice_get_read, slice_get_past}
use Rattle.grain_program.proofs.Homes.{told, none_told}
use Rattle.grain_program.proofs.verifier.rules.owns_targets.Goals as goal

pub returns-in-Some : goal.returns-in-Some
returns-in-Some c =
    told c.args.owners.now c.args.end c.requires.some c.args.homes.now c.args.parts.now.switches
    c.args.index c.in-Some.home.now c.requires.homes
    (slice_get_read c.args.homes.now (length c.args.homes.now) c.args.index c.in-Some.home.now refl
    c.in-Some.ensures.lookup.3.0 c.in-Some.ensures.lookup.1)

pub returns-in-None : goal.returns-in-None
returns-in-None c =
    none_told c.args.owners.now c.args.end c.requires.some c.args.homes.now
    c.args.parts.now.switches c.args.index c.requires.homes
    (slice_get_past c.args.homes.now c.args.index c.in-None.ensures.lookup.3)
