use Rattle.std.proofs.Common.{◌≡◌, ◌++◌, codes, decimal, IfOk}
use Rattle.std.proofs.lemmas.Result.{IfOk-weaker}
use Rattle.grain_addresses.specs.Texts.{query_text}
use Rattle.grain_addresses.proofs.Joined.{four, on_ok}
use Rattle.grain_addresses.proofs.texts.push_past.Goals as goal

pub returns : goal.returns
returns c =
    let lead : c.push_str.new.self ≡ c.push_query.new.out ++ codes "\tpast the code, which has " =
    c.in_ok-push_str.ensures in
    let number : c.push_number.new.self ≡ c.push_str.new.self ++ decimal c.args.bytes =
    c.in_ok-push_number.ensures in
    let end : IfOk c.push_str-2.result (λ _. c.push_str-2.new.self ≡
    c.push_number.new.self ++ codes " bytes\n") =
    on_ok c.push_str-2.result c.push_str-2.new.self (c.push_number.new.self ++ codes " bytes\n")
    c.push_number.new.self c.push_str-2.ensures in
    IfOk-weaker c.push_str-2.result _ _ (λ x h.
    four c.args.out.now (query_text c.args.query) (codes "\tpast the code, which has ")
    (decimal c.args.bytes) (codes " bytes\n") c.push_query.new.out c.push_str.new.self
    c.push_number.new.self c.push_str-2.new.self c.in_ok-push_query.ensures lead number h) end
