-- The lines stand one after the other.
use Rattle.std.proofs.Common.{◌++◌, codes}
use Rattle.grain_commands.specs.SelfListings.{line, number_lines}
use Rattle.grain_commands.proofs.SelfLines.{three_put}
use Rattle.grain_commands.proofs.self_listings.push_main.Goals as goal

pub returns : goal.returns
returns c =
    three_put c.args.out.now c.push_str.new.self c.push_number_lines.new.out c.push_str-2.new.self
    (line (codes "main 1") ++ line (codes "load_const 0"))
    (number_lines (codes "call ") 2 (codes " 1") c.args.count)
    (line (codes "return") ++ line (codes "end"))
    c.in_ok-push_str.ensures c.in_ok-push_number_lines.ensures c.in_ok-push_str-2.ensures
