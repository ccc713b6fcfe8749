-- Eight bytes are enough for each instruction, and a tag of no width is the tag of none.
use Rattle.std.proofs.Common.{◌≡◌, None, option_map, replicate, sym, ap, ◌∙◌}
use Rattle.grain_program.specs.Decoding.{by_tag, op_of_tag}
use Rattle.grain_program.specs.laws.Widths.{width_of_short, by_tag_none}
use Rattle.grain_program.proofs.code.instruction_set.Op.of_tag.Goals as goal

pub tagged-width-requires : goal.tagged-width-requires
tagged-width-requires c = width_of_short c.args.tag

pub returns-then-width-eq0 : goal.returns-then-width-eq0
unfolding op_of_tag
returns-then-width-eq0 c =
    let none : by_tag c.args.tag (replicate 8 0) ≡ None =
    by_tag_none c.args.tag (replicate 8 0)
    (sym c.tagged-width.ensures.wide ∙ c.if-width-eq0.true) in
    sym (ap (λ o. option_map (λ x. x.0) o) none)
