use Rattle.std.proofs.Common.{◌≡◌, true, rules, Ok, Err}
use Rattle.grain_literals.specs.Operands.{index}
use Rattle.grain_listing.specs.Headers.{has_parameter, parameters_of}
use Rattle.grain_listing.proofs.Parameters.{one_refused, one_more}
use Rattle.grain_listing.proofs.headers.parameters_of.Goals as goal

pub returns-in-Err : goal.returns-in-Err
returns-in-Err c =
    let one : has_parameter c.words.rest.now ≡ true = search rules in
    let bad : index c.words.rest.now ≡ Err c.in-Err.reason = search rules in
    one_refused c.words.room c.words.rest.now c.words.found
    (parameters_of c.args.most c.args.line.now) c.in-Err.reason one bad c.words.invariant

pub words-preserved : goal.words-preserved
words-preserved c =
    let one : has_parameter c.words.rest.now ≡ true = search rules in
    let good : index c.words.rest.now ≡ Ok (c.in-Ok.number, c.in-Ok.after.now) = search rules in
    let more = one_more c.words.room c.in-Ok.number c.words.rest.now c.in-Ok.after.now c.words.found
    (parameters_of c.args.most c.args.line.now) c.words-test.true one good c.words.invariant in
    search (rules, more)

pub returns-in-Err-index : goal.returns-in-Err-index
returns-in-Err-index c =
    let one : has_parameter c.words.rest.now ≡ true = search rules in
    let bad : index c.words.rest.now ≡ Err c.in-Err-index.reason = search rules in
    one_refused c.words.room c.words.rest.now c.words.found
    (parameters_of c.args.most c.args.line.now) c.in-Err-index.reason one bad c.words.invariant
