-- Two lists are the same where their numbers are.
use Rattle.std.proofs.Common.{true, false, sym, ◌∙◌}
use Rattle.std.proofs.lemmas.Bool.{eq-eqb, ne_eqb}
use Rattle.grain_program.specs.Numbered.{shape_of}
use Rattle.grain_program.proofs.SameHandlers.{clash_even}
use Rattle.grain_program.proofs.ListNumbers.{numbers_compare}
use Rattle.grain_program.proofs.verifier.handlers.HandlerLists.clash.Goals as goal

pub returns-then-known-other-3 : goal.returns-then-known-other-3
returns-then-known-other-3 c =
    sym (clash_even c.args.address (shape_of c.args.self.now c.args.known) (shape_of
    c.args.self.now c.args.other) true c.if-known-other.false c.if-known-other-2.false
    (numbers_compare
    c.self.inside.nodes.items c.self.inside.numbers c.self.invariant c.args.self.now c.self.view_is
    c.args.known.list c.args.other.list c.requires.known c.requires.other
    ∙ eq-eqb c.args.known.list c.args.other.list c.if-known-other-3.true))

pub returns-else-known-other-3 : goal.returns-else-known-other-3
returns-else-known-other-3 c =
    sym (clash_even c.args.address (shape_of c.args.self.now c.args.known) (shape_of
    c.args.self.now c.args.other) false c.if-known-other.false c.if-known-other-2.false
    (numbers_compare
    c.self.inside.nodes.items c.self.inside.numbers c.self.invariant c.args.self.now c.self.view_is
    c.args.known.list c.args.other.list c.requires.known c.requires.other
    ∙ ne_eqb c.args.known.list c.args.other.list c.if-known-other-3.false))
