-- What is read lies within the code, and what is not read is not there.
use Rattle.std.proofs.Common.{ℕ, List, ◌≡◌, ap, ◌∙◌, arith, length, slice_index_or}
use Rattle.grain_program.specs.Decoding.{width_of}
use Rattle.grain_program.specs.laws.Widths.{op_at_within, op_at_none}
use Rattle.grain_program.proofs.code.bytes.decode.Goals as goal

pub returns-then-address-bytes-clause-exact : goal.returns-then-address-bytes-clause-exact
returns-then-address-bytes-clause-exact c =
    op_at_none c.args.code.now c.args.address (λ there known long. absurd
    (omega (arith, there, c.if-address-bytes.true, ap length c.as_slice-bytes.ensures)))

pub returns-then-wide-eq0-clause-exact : goal.returns-then-wide-eq0-clause-exact
returns-then-wide-eq0-clause-exact c =
    let is : c.width_of-wide.result ≡ width_of (slice_index_or c.args.code.now c.args.address 0) =
    c.width_of-wide.ensures ∙ ap (λ (l : List ℕ). width_of (slice_index_or l c.args.address 0))
    c.as_slice-bytes.ensures in
    op_at_none c.args.code.now c.args.address (λ there known long. absurd
    (omega (arith, known, is, c.if-wide-eq0.true)))

pub returns-then-wide-bytes-clause-exact : goal.returns-then-wide-bytes-clause-exact
returns-then-wide-bytes-clause-exact c =
    let is : c.width_of-wide.result ≡ width_of (slice_index_or c.args.code.now c.args.address 0) =
    c.width_of-wide.ensures ∙ ap (λ (l : List ℕ). width_of (slice_index_or l c.args.address 0))
    c.as_slice-bytes.ensures in
    op_at_none c.args.code.now c.args.address (λ there known long. absurd
    (omega (arith, long, is, c.if-wide-bytes.true, ap length c.as_slice-bytes.ensures)))

pub returns-clause-within : goal.returns-clause-within
returns-clause-within c = op_at_within c.args.code.now c.args.address (
  c.read_there-width.new.op,
  c.read_there-width.result,
) c.read_there-width.ensures
