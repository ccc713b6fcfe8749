-- What is taken are pairs, a key before each value, and the map under them.
use Rattle.std.proofs.Common.{◌≡◌, ◌∙◌, ◌+◌, ◌-◌, ◌++◌, ◌∷◌, [], List, Some, length, reverse, ap, arith, rules, length-append}
use Rattle.std.proofs.lemmas.List.{length-drop, length-reverse, reverse-reverse}
use Rattle.grain_value.specs.Cells.{flat}
use Rattle.grain_value.specs.Maps.{put_entry}
use Rattle.grain_value.specs.Operands.{arguments}
use Rattle.grain_value.specs.View.{tree}
use Rattle.grain_value.specs.declared.values.Dynamic.TheVariants as dynamic
use Rattle.grain_value.specs.declared.values.Held.{Held}
use Rattle.grain_means.specs.Rules.{operand_under, pairs_of}
use Rattle.grain_frame.proofs.Gathering.{pair_more, same_entries}
use Rattle.grain_frame.proofs.runs.Run.take_map.Goals as goal

pub pairs-init : goal.pairs-init
pairs-init g c =
    let s = c.args.self.now in
    let n = c.args.count in
    let ops = s.stacks.operands in
    let given = arguments (n + n) ops in
    let gs = c.in-Map.map in
    let read : flat s.cells (operand_under (n + n) ops).value ≡ Some (dynamic.Map gs) = search rules in
    let are = c.requires.pairs gs in
    let taken : c.in_ok-taken.taken.items ≡ reverse given =
    rw c.from-count.ensures at c.in_ok-taken.ensures.taken in
    let back : reverse c.in_ok-taken.taken.items ≡ given =
    ap (λ (hs : List Held). reverse hs) taken ∙ reverse-reverse given in
    record {
      many = (
        n,
        omega (
          arith,
          ap (λ (hs : List Held). length hs) taken,
          length-reverse given,
          length-drop (length ops - (n + n)) ops,
          c.requires.there,
        ),
      );
      are = (
        are.0,
        ap (λ (hs : List Held). pairs_of s.cells hs gs) back ∙ are.1,
        λ es fs one first. same_entries (flat s.cells (operand_under (n + n) ops).value)
            (λ xs. pairs_of s.cells given xs) es gs fs are.0 one read first are.1,
      );
    }

pub pairs-preserved : goal.pairs-preserved
pairs-preserved g c =
    let was = c.pairs.invariant in
    let cells = c.args.self.now.cells in
    let k = c.in-Some.key in
    let h = c.in-Some-pop.held in
    let items = c.pairs.taken.items in
    let more = c.pop.new.self.items in
    let now = c.pop-in-Some.new.self.items in
    let first : items ≡ more ++ k ∷ [] = search rules in
    let second : more ≡ now ++ h ∷ [] = search rules in
    let key : flat cells k.value ≡ Some (dynamic.Text c.in-Text.key) = search rules in
    let value : flat cells h.value ≡ Some c.in_ok-value.value = search rules in
    let grown : c.put_pair.new.map ≡ put_entry c.in-Text.key (tree c.in_ok-value.value) c.pairs.map =
    c.in_ok-put_pair.ensures in
    record {
      many = (
        was.many.0 - 1,
        omega (
          arith,
          was.many.1,
          ap (λ (hs : List Held). length hs) first,
          length-append more (k ∷ []),
          ap (λ (hs : List Held). length hs) second,
          length-append now (h ∷ []),
        ),
      );
      are = (
        was.are.0,
        pair_more cells items more now k h first second c.pairs.map was.are.0 was.are.1 c.in-Text.key
            c.in_ok-value.value c.put_pair.new.map key value grown,
        was.are.2,
      );
    }
