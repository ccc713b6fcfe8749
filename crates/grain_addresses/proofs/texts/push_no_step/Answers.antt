use Rattle.std.proofs.Common.{◌≡◌, ◌++◌, codes, IfOk}
use Rattle.std.proofs.lemmas.Result.{IfOk-weaker}
use Rattle.grain_addresses.specs.Texts.{query_text, of_line_text}
use Rattle.grain_addresses.proofs.Joined.{three}
use Rattle.grain_addresses.proofs.texts.push_no_step.Goals as goal

pub returns : goal.returns
returns c =
    let lead : c.push_str.new.self
    ≡ c.push_query.new.out ++ codes "\tno step begins at this slot in the instruction" =
    c.in_ok-push_str.ensures in
    let line : IfOk c.push_of_line.result (λ _. c.push_of_line.new.out ≡
    c.push_str.new.self ++ of_line_text c.args.place.now.line) =
    rw c.line.ensures at c.push_of_line.ensures in
    IfOk-weaker c.push_of_line.result _ _ (λ x h.
    three c.args.out.now (query_text c.args.query) (codes "\tno step begins at this slot in the instruction")
    (of_line_text c.args.place.now.line) c.push_query.new.out c.push_str.new.self
    c.push_of_line.new.out c.in_ok-push_query.ensures lead h) line
