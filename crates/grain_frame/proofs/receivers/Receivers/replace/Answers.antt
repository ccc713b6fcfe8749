-- The last one of the vector is the newest.
use Rattle.std.proofs.Common.{◌≡◌, ◌∙◌, ◌<◌, ◌+◌, ◌-◌, List, get_or, length, ap, sym, rules, arith}
use Rattle.std.proofs.lemmas.List.{length-reverse}
use Rattle.grain_frame.specs.declared.receivers.Bound.{Bound}
use Rattle.grain_frame.proofs.Newest.{set_is}
use Rattle.grain_frame.proofs.receivers.Receivers.replace.Goals as goal

pub returns-clause-after : goal.returns-clause-after
returns-clause-after c =
    let items = c.self.inside.bound.items in
    let b = c.index_mut.result.now in
    let i = c.len-last.result - 1 in
    let held : c.replace.new.dest ≡ c.args.held = search rules in
    let many : c.len-last.result ≡ length items = search rules in
    let there : b ≡ get_or items i b = search rules in
    let some : 0 < length c.args.self.now = c.requires.there in
    let long : length c.args.self.now ≡ length items =
    sym (ap (λ (l : List Bound). length l) c.self.view_is) ∙ length-reverse items in
    let last : i + 1 ≡ length items = omega (arith, many, some, long) in
    rw held (set_is items c.args.self.now b c.args.held i c.self.view_is last some there)
