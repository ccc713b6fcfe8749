-- One pair more is read.
use Rattle.std.proofs.Common.{◌≡◌, ◌∙◌, ◌<◌, ◌+◌, ℕ, None, Some, drop, get_or, length, true, refl, ap, arith, rules}
use Rattle.std.specs.Prelude.{is_some}
use Rattle.grain_value.specs.Cells.{flat}
use Rattle.grain_value.specs.Looking.{text_of}
use Rattle.grain_value.specs.Maps.{put_entry}
use Rattle.grain_value.specs.View.{tree}
use Rattle.grain_value.specs.declared.values.Dynamic.TheVariants as dynamic
use Rattle.grain_means.specs.Rules.{pairs_of}
use Rattle.grain_frame.proofs.Flattening.{value_there}
use Rattle.grain_frame.proofs.Gathering.{key_lent, key_refused, pair_fits, pairs_over, there_at, value_at, value_lent}
use Rattle.grain_frame.proofs.literals.first_misfit.Goals as goal

pub pairs-init : goal.pairs-init
pairs-init c = λ es. (es, refl)

pub pairs-preserved : goal.pairs-preserved
pairs-preserved c =
    let cells = c.args.cells.now in
    let hs = c.args.held.now in
    let i = c.pairs.pair + c.pairs.pair in
    let k = c.index-held-key.result in
    let h = c.index-held-key-in-pairs.result in
    let within : i + 1 < length hs = omega (arith, c.requires, c.pairs-test.true) in
    let key : flat cells k.value ≡ Some (dynamic.Text c.in-Some-Text.field-0-0) = search rules in
    let some : is_some (flat cells h.value) ≡ true = search rules in
    let value = value_there (flat cells h.value) some in
    let two : i + 2 ≡ (c.pairs.pair + 1) + (c.pairs.pair + 1) = omega arith in
    λ es.
    let was = c.pairs.invariant es in
    let now = put_entry c.in-Some-Text.field-0-0 (tree value.0) was.0 in (
      now,
      pair_fits cells hs i k h within c.index-held-key.is c.index-held-key-in-pairs.is es was.0
          was.1 c.in-Some-Text.field-0-0 value.0 key value.1
          ∙ ap (λ (n : ℕ). pairs_of cells (drop n hs) now) two,
    )

pub returns : goal.returns
returns c =
    let i = c.pairs.pair + c.pairs.pair in
    λ es.
    let was = c.pairs.invariant es in (
      was.0,
      pairs_over c.args.cells.now c.args.held.now i es was.0
          (omega (arith, c.requires, c.pairs-test.false)) was.1,
    )

pub returns-in-None : goal.returns-in-None
returns-in-None c =
    let cells = c.args.cells.now in
    let hs = c.args.held.now in
    let i = c.pairs.pair + c.pairs.pair in
    let k = c.index-held-key.result in
    let within : i + 1 < length hs = omega (arith, c.requires, c.pairs-test.true) in
    let none : flat cells k.value ≡ None = search rules in
    λ es.
    let was = c.pairs.invariant es in
    key_lent cells hs i k (get_or hs (i + 1) k) within c.index-held-key.is
    (value_at hs (i + 1) k within) es was.0 was.1 none

pub returns-in-Some : goal.returns-in-Some
returns-in-Some c =
    let cells = c.args.cells.now in
    let hs = c.args.held.now in
    let i = c.pairs.pair + c.pairs.pair in
    let k = c.index-held-key.result in
    let x = c.in-Some.field-0.now in
    let within : i + 1 < length hs = omega (arith, c.requires, c.pairs-test.true) in
    let read : flat cells k.value ≡ Some x = search rules in
    let none : text_of x ≡ None = search rules in
    λ es.
    let was = c.pairs.invariant es in (
      k,
      x,
      there_at hs i k (omega (arith, within)) c.index-held-key.is,
      read,
      key_refused cells hs i k (get_or hs (i + 1) k) within c.index-held-key.is
          (value_at hs (i + 1) k within) es was.0 was.1 x read none,
    )

pub returns-then-is_none : goal.returns-then-is_none
returns-then-is_none c =
    let cells = c.args.cells.now in
    let hs = c.args.held.now in
    let i = c.pairs.pair + c.pairs.pair in
    let k = c.index-held-key.result in
    let h = c.index-held-key-in-pairs.result in
    let within : i + 1 < length hs = omega (arith, c.requires, c.pairs-test.true) in
    let key : flat cells k.value ≡ Some (dynamic.Text c.in-Some-Text.field-0-0) = search rules in
    let none : flat cells h.value ≡ None = search rules in
    λ es.
    let was = c.pairs.invariant es in
    value_lent cells hs i k h within c.index-held-key.is c.index-held-key-in-pairs.is es was.0
    was.1 c.in-Some-Text.field-0-0 key none
