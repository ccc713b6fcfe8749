-- The labels of the aims are known, or the first line that names an unknown one is reported.
use Rattle.grain_listing.specs.views.AssemblerView.{assembler_view}
use Rattle.grain_listing.specs.ListingViews.{outcome}
use Rattle.grain_listing.proofs.AimsLinked.{unknown, known}
use Rattle.grain_listing.proofs.linking.link.Goals as goal

pub returns-in-Err-clause-setup : goal.returns-in-Err-clause-setup
returns-in-Err-clause-setup c =
    unknown (assembler_view c.args.assembler) c.args.assign_ops c.as_slice.result.now c.in-Err.bad
    c.as_slice.ensures c.in-Err.ensures

pub returns-clause-setup : goal.returns-clause-setup
returns-clause-setup c =
    known (assembler_view c.args.assembler) c.args.assign_ops c.as_slice.result.now
    c.in_default.field-0 c.as_slice-2.result.now c.in_ok-switches.switches
    (outcome c.set_up.result) c.as_slice.ensures c.in_default.ensures c.as_slice-2.ensures
    c.in_ok-switches.ensures c.set_up.ensures.setup
