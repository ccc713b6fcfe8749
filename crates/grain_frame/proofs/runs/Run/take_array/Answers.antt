-- One element more was taken.
use Rattle.std.proofs.Common.{◌≡◌, ◌∙◌, ◌++◌, ◌∷◌, [], List, reverse, ap, rules}
use Rattle.std.proofs.lemmas.List.{reverse-reverse}
use Rattle.grain_value.specs.Operands.{arguments}
use Rattle.grain_value.specs.Tree.{Tree}
use Rattle.grain_value.specs.View.{tree}
use Rattle.grain_value.specs.declared.values.Held.{Held}
use Rattle.grain_means.specs.Rules.{flat_all, trees_in}
use Rattle.grain_frame.proofs.Flattening.{all_there}
use Rattle.grain_frame.proofs.Gathering.{element_more, element_there, one_list}
use Rattle.grain_frame.proofs.runs.Run.take_array.Goals as goal

pub elements-init : goal.elements-init
elements-init g c =
    let s = c.args.self.now in
    let given = arguments c.args.count s.stacks.operands in
    let read = all_there (flat_all s.cells given) c.requires.readable in
    let back : reverse c.in_ok-taken.taken.items ≡ given =
    ap reverse c.in_ok-taken.ensures.taken ∙ reverse-reverse given in (
      read.0,
      ap (λ (hs : List Held). flat_all s.cells hs) back ∙ read.1,
      λ args is. ap (λ (ts : List Tree). ts ++ trees_in read.0) c.new-array.ensures
          ∙ ap (λ (hs : List Held). trees_in hs)
          (one_list (flat_all s.cells given) read.0 args read.1 is),
    )

pub flat_value-requires : goal.flat_value-requires
flat_value-requires g c =
    let was = c.elements.invariant in
    element_there c.args.self.now.cells c.elements.taken.items c.pop.new.self.items
    c.in-Some.held (search rules) was.0 was.1

pub elements-preserved : goal.elements-preserved
elements-preserved g c =
    let was = c.elements.invariant in
    let h = c.in-Some.held in
    let last : c.elements.taken.items ≡ c.pop.new.self.items ++ h ∷ [] = search rules in
    let v = c.in_ok-flat_value.field-0 in
    let grown : c.push.new.self ≡ c.elements.array ++ tree v ∷ [] = search rules in
    let more = element_more c.args.self.now.cells c.elements.taken.items c.pop.new.self.items h
    last was.0 was.1 v c.elements.array c.push.new.self c.in_ok-flat_value.ensures grown in
    (more.0, more.1, λ args is. more.2 ∙ was.2 args is)
