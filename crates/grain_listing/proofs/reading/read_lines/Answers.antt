use Rattle.std.proofs.Common.{rules, ◌≡◌, ◌+◌, length, Result, IfOk, subst}
use Rattle.grain_listing.specs.Reading.{ListingView}
use Rattle.grain_listing.specs.ListingViews.{outcome}
use Rattle.grain_listing.specs.views.AssemblerView.{assembler_view}
use Rattle.grain_listing.specs.views.Assembling.{AssemblerView, take_line}
use Rattle.grain_listing.specs.declared.reasons.BadLine.{BadLine}
use Rattle.grain_listing.proofs.Simulates.{given}
use Rattle.grain_listing.proofs.LinesRead.{refused_for, line_read, line_refused, all_read, in_order, has_room}
use Rattle.grain_listing.proofs.reading.read_lines.Goals as goal

pub returns-in-Err-clause-setup : goal.returns-in-Err-clause-setup
returns-in-Err-clause-setup c =
    let before : AssemblerView = assembler_view c.lines.assembler in
    let result = rw c.in-Err.is at c.in_ok-reason.ensures in
    let took : refused_for c.in-Err.reason ≡
    take_line c.next_line.result.0.now (record before { line = c.lines.n + 1 }) =
    result in
    line_refused c.args.text.now c.lines.rest.now c.next_line.result.0.now c.next_line.result.1.now
    c.lines.n before c.in-Err.reason c.next_line.ensures.line took c.lines.invariant

pub lines-preserved : goal.lines-preserved
lines-preserved c =
    let before : AssemblerView = assembler_view c.lines.assembler in
    let after : AssemblerView = assembler_view c.take_line.new.self in
    let result = rw c.in-Ok.is at c.in_ok-reason.ensures in
    let took : given after ≡ take_line c.next_line.result.0.now
    (record before { line = c.lines.n + 1 }) = result in
    line_read c.args.text.now c.lines.rest.now c.next_line.result.0.now c.next_line.result.1.now
    c.lines.n before after c.next_line.ensures.line c.next_line.ensures.less took c.lines.invariant

pub ending-requires : goal.ending-requires
ending-requires c = in_order c.args.text.now c.lines.rest.now c.lines.n
    (assembler_view c.lines.assembler) c.lines.invariant

pub returns-clause-setup : goal.returns-clause-setup
returns-clause-setup c =
    let none : length c.lines.rest.now ≡ 0 = search rules in
    subst (λ (z : Result ListingView BadLine). IfOk c.ending.result (λ r. outcome r ≡ z))
    (all_read c.args.text.now c.lines.rest.now c.lines.n
    (assembler_view c.lines.assembler) none c.lines.invariant) c.ending.ensures.setup

pub take_line-requires : goal.take_line-requires
take_line-requires c = has_room c.args.text.now c.lines.rest.now c.lines.n
    (assembler_view c.lines.assembler) c.requires c.lines.invariant
