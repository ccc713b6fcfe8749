-- A token is written after the ones before it.
use Rattle.std.proofs.Common.{◌≡◌, [], ◌∷◌, List, refl, take, arith, subst}
use Rattle.std.specs.Fmt.{HasWritten}
use Rattle.std.proofs.lemmas.List.{take_all}
use Rattle.grain_value.specs.Tree.{Tree}
use Rattle.grain_fault.specs.Table.{spaced}
use Rattle.grain_fault.proofs.Spaced.{token_written, blank_before_next}
use Rattle.grain_fault.proofs.fault_parts.SpacedDisplay.fmt.Goals as goal

pub loop-index-init : goal.loop-index-init
loop-index-init g c = (
  ([], (refl, refl)),
  refl,
  λ plain. record {
    wrote = record {
      parts = [];
      calls = refl;
      whole = refl;
    };
    plain = plain;
  },
)

pub loop-index-preserved : goal.loop-index-preserved
unfolding lib.Utf8.encode
loop-index-preserved g c = (
  (32 ∷ [], (refl, refl)),
  blank_before_next c.loop-index.index,
  λ plain.
      let before = c.loop-index.invariant.2 plain in
      token_written _ _ _ _ c.args.self.now.0.now c.loop-index.index c.loop-index.lead.now
      c.at-value.result.now c.at-value.ensures c.loop-index.invariant.1 before
      (c.in_ok-write.ensures.writes before.plain refl),
)

pub returns-clause-writes : goal.returns-clause-writes
returns-clause-writes g c = λ plain ok.
    let ts : List Tree = c.args.self.now.0.now in
    let written = c.loop-index.invariant.2 plain in
    let all : take c.loop-index.index ts ≡ ts =
    take_all c.loop-index.index ts
    (omega (arith, c.loop-index-test.false, c.len-index-end.ensures.value)) in
    subst (λ us. HasWritten g.W.Write.write_str_gives c.args.f.now (spaced [] us) c.loop-index.f)
    all written
