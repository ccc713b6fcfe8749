-- The entry is the new cell.
use Rattle.std.proofs.Common.{◌≡◌, length, ap, arith, rules}
use Rattle.grain_value.specs.Operands.{read_write}
use Rattle.grain_value.specs.Scopes.{set_held}
use Rattle.grain_value.specs.declared.values.Dynamic.TheVariants as dynamic
use Rattle.grain_means.specs.lemmas.Scopes.{length_set_held}
use Rattle.grain_frame.specs.declared.runs.Run.{Run}
use Rattle.grain_frame.proofs.Sharing.{shares}
use Rattle.grain_frame.proofs.Targeting.{entry_at}
use Rattle.grain_frame.proofs.runs.Run.share_value.Goals as goal

pub set-requires : goal.set-requires
set-requires g c =
    let s = c.args.self.now in
    let here = entry_at s.scope c.args.index c.requires.entry in
    omega (
      arith,
      c.requires.entry,
      ap (λ (r : Run g.row.H.Denot). length r.scope) (c.in_ok-cell.ensures.made here.0 here.1),
      length_set_held s.scope c.args.index (read_write dynamic.Unit),
    )

pub returns : goal.returns
returns g c = rw (c.mark-3.ensures, c.mark-2.ensures, c.mark.ensures) (record {
  implements = λ program engine host h slot is at.
      let s = c.args.self.now in
      let written : c.set.new.self ≡ set_held c.make_cell.new.self.scope c.args.index
      (read_write (dynamic.Cell c.in_ok-cell.cell)) = search rules in
      shares g.H.Host.law program engine c.args.frame.now s c.args.steps.now host h slot
      c.args.index c.args.next c.in_ok-cell.cell c.make_cell.new.self c.set.new.self at
      c.in_ok-cell.ensures.number (c.in_ok-cell.ensures.made h is) written c.requires.inside
      c.requires.ahead;
})
