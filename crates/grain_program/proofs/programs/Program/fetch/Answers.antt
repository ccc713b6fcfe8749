-- A frame that fits stands at an instruction, of which validity says what is needed.
use Rattle.std.proofs.Common.{sym, ap, subst, ◌∙◌}
use Rattle.grain_program.specs.View.{View}
use Rattle.grain_program.specs.Decoding.{op_at}
use Rattle.grain_program.specs.laws.Widths.{op_at_there}
use Rattle.grain_program.specs.Typing.{IsProgram}
use Rattle.grain_program.specs.laws.TypedAt.{stands, verified}
use Rattle.grain_program.proofs.programs.Program.fetch.Goals as goal

pub read_there-width-requires-clause-there : goal.read_there-width-requires-clause-there
read_there-width-requires-clause-there c =
    let s =
    stands c.args.self.now (subst IsProgram c.self.view_is c.self.invariant.0) c.args.chunk
    c.args.address c.requires.0 c.requires.1.0 c.requires.1.1.0 c.requires.1.1.1 in
    (op_at_there _ c.args.address s.0 (ap (λ (v : View). op_at v.code c.args.address) c.self.view_is
    ∙ s.1)).0

pub read_there-width-requires-clause-known : goal.read_there-width-requires-clause-known
read_there-width-requires-clause-known c =
    let s =
    stands c.args.self.now (subst IsProgram c.self.view_is c.self.invariant.0) c.args.chunk
    c.args.address c.requires.0 c.requires.1.0 c.requires.1.1.0 c.requires.1.1.1 in
    (op_at_there _ c.args.address s.0 (ap (λ (v : View). op_at v.code c.args.address) c.self.view_is
    ∙ s.1)).1

pub read_there-width-requires-clause-long : goal.read_there-width-requires-clause-long
read_there-width-requires-clause-long c =
    let s =
    stands c.args.self.now (subst IsProgram c.self.view_is c.self.invariant.0) c.args.chunk
    c.args.address c.requires.0 c.requires.1.0 c.requires.1.1.0 c.requires.1.1.1 in
    (op_at_there _ c.args.address s.0 (ap (λ (v : View). op_at v.code c.args.address) c.self.view_is
    ∙ s.1)).2

pub returns-clause-verified : goal.returns-clause-verified
returns-clause-verified c = λ depth cursors handlers typed.
    let p = c.args.self.now in
    let valid = subst IsProgram c.self.view_is c.self.invariant.0 in
    verified p valid c.args.chunk c.args.address depth cursors handlers typed (
      c.read_there-width.new.op,
      c.read_there-width.result,
    )
    (ap (λ (v : View). op_at v.code c.args.address) (sym c.self.view_is)
    ∙ c.read_there-width.ensures)

pub returns-clause-provides : goal.returns-clause-provides
returns-clause-provides c = λ depth cursors handlers typed.
    let p = c.args.self.now in
    let valid = subst IsProgram c.self.view_is c.self.invariant.0 in
    let here =
    verified p valid c.args.chunk c.args.address depth cursors handlers typed
    (c.read_there-width.new.op, c.read_there-width.result)
    (ap (λ (v : View). op_at v.code c.args.address) (sym c.self.view_is)
    ∙ c.read_there-width.ensures) in
    here.provides
