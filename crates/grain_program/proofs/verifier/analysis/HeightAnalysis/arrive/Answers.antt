-- Known shapes have the numbers of lists, and a shape that is put is the one that is meant.
use Rattle.std.proofs.Common.{length, sym, ap, subst, ◌∙◌, arith}
use Rattle.grain_program.specs.Numbered.{AreNumbered, Search}
use Rattle.grain_program.proofs.Searched.{numbered, numbered_put, put_on}
use Rattle.grain_program.proofs.verifier.analysis.HeightAnalysis.arrive.Goals as goal

pub clash-requires-clause-known : goal.clash-requires-clause-known
clash-requires-clause-known c =
    numbered c.self.inside.handlers c.self.inside.shapes c.args.address c.in-Some.known
    c.self.invariant (sym c.get.ensures ∙ c.in-Some.is)

pub invariant_of-self-2 : goal.invariant_of-self-2
invariant_of-self-2 c =
    subst (AreNumbered c.self.inside.handlers) (sym c.put.ensures)
    (numbered_put c.self.inside.handlers c.self.inside.shapes c.args.address c.args.shape
    c.self.invariant (omega (
      arith,
      c.requires.numbered,
      ap (λ (f : Search). length f.lists) c.self.view_is,
    )))

pub returns-clause-exact : goal.returns-clause-exact
returns-clause-exact c =
    put_on c.args.self.now c.args.shape c.args.address c.self.inside.shapes c.put.new.self
    c.self.inside.waiting c.insert.new.self c.self.inside.handlers c.self.view_is
    (sym c.get.ensures ∙ c.in_default.is) c.put.ensures c.in_ok-insert.ensures
