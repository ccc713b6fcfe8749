use Rattle.std.proofs.Common.{Some, sym, ap}
use Rattle.std.proofs.Common.{List}
use Rattle.grain_value.specs.Tree.{Tree}
use Rattle.std.specs.Str.{IsUtf8}
use Rattle.grain_stack.proofs.Items.{all_characters}
use Rattle.grain_stack.proofs.cursors.Left.characters.Goals as goal

pub returns : goal.returns
returns c =
    let utf8 : IsUtf8 c.args.items = rw (← c.as_str-text.ensures) c.as_str-text.utf8 in
    ap (λ (ts : List Tree). Some ts) (sym (all_characters c.args.items utf8))
