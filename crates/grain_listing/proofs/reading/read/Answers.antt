use Rattle.std.proofs.Common.{rules, arith, ◌≡◌, ◌≤◌, length, IfOk, subst, Result}
use Rattle.std.specs.Str.{chars}
use Rattle.std.proofs.lemmas.Str.{chars_from_encodes}
use Rattle.grain_listing.specs.Reading.{ListingView, broken_line}
use Rattle.grain_listing.specs.ListingViews.{outcome}
use Rattle.grain_listing.specs.declared.reasons.BadLine.{BadLine}
use Rattle.grain_listing.proofs.Texts.{no_text, is_text}
use Rattle.grain_listing.proofs.reading.read.Goals as goal

pub returns-in-Err-clause-setup : goal.returns-in-Err-clause-setup
returns-in-Err-clause-setup c =
    let l : length c.args.bytes.now ≤ 16777216 = omega arith in
    let n : c.broken_line.result ≡ broken_line c.args.bytes.now = search rules in
    no_text c.args.bytes.now c.broken_line.result l c.in-Err.ensures.cases.0 n

pub returns-in_ok-chars-in-Ok-clause-setup : goal.returns-in_ok-chars-in-Ok-clause-setup
returns-in_ok-chars-in-Ok-clause-setup c =
    let l : length c.args.bytes.now ≤ 16777216 = omega arith in
    let k : c.as_slice.result.now ≡ chars c.args.bytes.now = search (rules, chars_from_encodes) in
    subst (λ (z : Result ListingView BadLine). IfOk c.read_lines.result (λ r. outcome r ≡ z))
    (is_text c.args.bytes.now c.as_slice.result.now l c.in-Ok.ensures.cases.1 k)
    c.read_lines.ensures.setup
