use Rattle.std.proofs.Common.{◌≡◌, ◌-◌, suc, true, false, cond, Some, None, Bool, rules, of_calls, arith, sym, ap, ◌∙◌}
use Rattle.std.proofs.lemmas.Fn.{always_returns_same}
use Rattle.grain_addresses.specs.Places.{Place}
use Rattle.grain_addresses.specs.Finding.{holds}
use Rattle.grain_addresses.proofs.Cuts.{begins_by, IsCut, partitioned, none_begun, last_begun}
use Rattle.grain_addresses.proofs.finding.find.Goals as goal

pub returns-then-after-eq0 : goal.returns-then-after-eq0
returns-then-after-eq0 c =
    let a = c.args.address in
    let places = c.args.places.now in
    let cut : IsCut a places c.partition_point-after.result =
    c.partition_point-after.ensures.partitioned (begins_by a)
    (always_returns_same _ _ _ (λ x r f k. search (rules, of_calls)))
    (partitioned a 0 places c.requires) in
    let first : IsCut a places 0 = rw c.if-after-eq0.true at cut in
    sym (none_begun a 0 places c.requires first)

pub returns-then-holds : goal.returns-then-holds
returns-then-holds c =
    let a = c.args.address in
    let places = c.args.places.now in
    let x : Place = c.index-places-after.result in
    let cut : IsCut a places c.partition_point-after.result =
    c.partition_point-after.ensures.partitioned (begins_by a)
    (always_returns_same _ _ _ (λ x r f k. search (rules, of_calls)))
    (partitioned a 0 places c.requires) in
    let some : c.partition_point-after.result ≡ suc (c.partition_point-after.result - 1) =
    omega arith in
    let more : IsCut a places (suc (c.partition_point-after.result - 1)) = rw some at cut in
    let yes : holds a x ≡ true = sym c.holds.ensures ∙ c.if-holds.true in
    let is = last_begun a 0 places (c.partition_point-after.result - 1) x c.requires more
    (omega (arith, c.partition_point-after.ensures.bound)) c.index-places-after.is in
    sym (is ∙ ap (λ (b : Bool). cond b (Some x) None) yes)

pub returns-else-holds : goal.returns-else-holds
returns-else-holds c =
    let a = c.args.address in
    let places = c.args.places.now in
    let x : Place = c.index-places-after.result in
    let cut : IsCut a places c.partition_point-after.result =
    c.partition_point-after.ensures.partitioned (begins_by a)
    (always_returns_same _ _ _ (λ x r f k. search (rules, of_calls)))
    (partitioned a 0 places c.requires) in
    let some : c.partition_point-after.result ≡ suc (c.partition_point-after.result - 1) =
    omega arith in
    let more : IsCut a places (suc (c.partition_point-after.result - 1)) = rw some at cut in
    let no : holds a x ≡ false = sym c.holds.ensures ∙ c.if-holds.false in
    let is = last_begun a 0 places (c.partition_point-after.result - 1) x c.requires more
    (omega (arith, c.partition_point-after.ensures.bound)) c.index-places-after.is in
    sym (is ∙ ap (λ (b : Bool). cond b (Some x) None) no)
