-- What stands under the pairs is no map, or is one; the pairs are such, or the first that is none is a
-- cell that is lent or has a key that is no text.
use Rattle.std.proofs.Common.{◌≡◌, ◌+◌, ◌-◌, [], Some, None, length, refl, arith, rules}
use Rattle.std.proofs.lemmas.List.{length-take}
use Rattle.grain_value.specs.Cells.{flat}
use Rattle.grain_value.specs.Looking.{map_of}
use Rattle.grain_value.specs.Operands.{arguments, under}
use Rattle.grain_value.specs.Writing.{type_name_of}
use Rattle.grain_value.specs.declared.values.Dynamic.TheVariants as dynamic
use Rattle.grain_fault.specs.Problems.{Plain, DataRace, Malformed}
use Rattle.grain_fault.specs.declared.faults.MalformedKind.TheVariants as kind
use Rattle.grain_program.specs.View.{position_of}
use Rattle.grain_means.specs.Rules.{KeyIs, PairsAre, PairsLent, operand_under, pairs_of, race_text}
use Rattle.grain_frame.specs.Literals.{PairsRead}
use Rattle.grain_frame.specs.declared.literals.Misfit.TheVariants as misfit
use Rattle.grain_frame.specs.lemmas.Arms.{implements_after}
use Rattle.grain_frame.specs.lemmas.Failing.{raises_here}
use Rattle.grain_frame.proofs.runs.Run.make_map.Goals as goal

pub returns-in-Some : goal.returns-in-Some
returns-in-Some g c =
    let p = c.args.context.program.now in
    let s = c.args.self.now in
    let f = c.args.frame.now in
    let n = c.args.count in
    let q = c.from-pairs.result in
    let v = c.in-Some.field-0.now in
    let found : flat s.cells (operand_under (q + q) s.stacks.operands).value ≡ Some v =
    search rules in
    let read : flat s.cells (operand_under (n + n) s.stacks.operands).value ≡ Some v =
    rw c.from-pairs.ensures at found in
    let none : map_of v ≡ None = search rules in
    record {
      performs = λ host. raises_here g.H.Host.law p c.args.context.engine.now f s
          c.template_not_map.new.self c.args.steps.now c.template_not_map.new.steps host
          (Plain (Malformed (kind.TemplateNotMap (type_name_of v))) (position_of p f.address))
          c.template_not_map.result (c.template_not_map.ensures v found) c.requires.ready.inside
          (λ stop u place. rw (read, none) refl);
    }

pub returns-in-Some-Lent : goal.returns-in-Some-Lent
returns-in-Some-Lent g c =
    let p = c.args.context.program.now in
    let s = c.args.self.now in
    let f = c.args.frame.now in
    let n = c.args.count in
    let q = c.from-pairs.result in
    let ops = s.stacks.operands in
    let gs = c.in-Some-Map.field-0-0 in
    let found : flat s.cells (operand_under (q + q) ops).value ≡ Some (dynamic.Map gs) =
    search rules in
    let read : flat s.cells (operand_under (n + n) ops).value ≡ Some (dynamic.Map gs) =
    rw c.from-pairs.ensures at found in
    let is : c.first_misfit.result ≡ Some misfit.Lent = search rules in
    let seen : PairsRead s.cells (arguments (q + q) ops) gs (Some misfit.Lent) =
    rw is at c.first_misfit.ensures gs in
    let lent : pairs_of s.cells (arguments (n + n) ops) gs ≡ PairsLent =
    rw c.from-pairs.ensures at seen in
    record {
      performs = λ host. raises_here g.H.Host.law p c.args.context.engine.now f s
          c.data_race-in-Some-Lent.new.self c.args.steps.now c.data_race-in-Some-Lent.new.steps host
          (Plain (DataRace (race_text [])) (position_of p f.address))
          c.data_race-in-Some-Lent.result c.data_race-in-Some-Lent.ensures c.requires.ready.inside
          (λ stop u place. rw (read, lent) refl);
    }

pub key_not_text-requires-clause-key : goal.key_not_text-requires-clause-key
key_not_text-requires-clause-key g c =
    let s = c.args.self.now in
    let q = c.from-pairs.result in
    let is : c.first_misfit.result ≡ Some (misfit.Key c.in-Some-Key.index) = search rules in
    let seen : PairsRead s.cells (arguments (q + q) s.stacks.operands) []
    (Some (misfit.Key c.in-Some-Key.index)) = rw is at c.first_misfit.ensures [] in
    (seen.0, seen.1, seen.2, seen.3)

pub returns-in-Some-Key : goal.returns-in-Some-Key
returns-in-Some-Key g c =
    let p = c.args.context.program.now in
    let s = c.args.self.now in
    let f = c.args.frame.now in
    let n = c.args.count in
    let q = c.from-pairs.result in
    let ops = s.stacks.operands in
    let gs = c.in-Some-Map.field-0-0 in
    let found : flat s.cells (operand_under (q + q) ops).value ≡ Some (dynamic.Map gs) =
    search rules in
    let read : flat s.cells (operand_under (n + n) ops).value ≡ Some (dynamic.Map gs) =
    rw c.from-pairs.ensures at found in
    let is : c.first_misfit.result ≡ Some (misfit.Key c.in-Some-Key.index) = search rules in
    let seen : PairsRead s.cells (arguments (q + q) ops) gs (Some (misfit.Key c.in-Some-Key.index)) =
    rw is at c.first_misfit.ensures gs in
    let key : pairs_of s.cells (arguments (n + n) ops) gs ≡ KeyIs seen.1 =
    rw c.from-pairs.ensures at seen.4 in
    record {
      performs = λ host. raises_here g.H.Host.law p c.args.context.engine.now f s
          c.key_not_text.new.self c.args.steps.now c.key_not_text.new.steps host
          (Plain (Malformed (kind.KeyNotText (type_name_of seen.1))) (position_of p f.address))
          c.key_not_text.result (c.key_not_text.ensures seen.0 seen.1 seen.2 seen.3)
          c.requires.ready.inside (λ stop u place. rw (read, key) refl);
    }

pub take_map-requires-clause-pairs : goal.take_map-requires-clause-pairs
take_map-requires-clause-pairs g c = λ es.
    let s = c.args.self.now in
    let q = c.from-pairs.result in
    let is : c.first_misfit.result ≡ None = search rules in
    let seen : PairsRead s.cells (arguments (q + q) s.stacks.operands) es None =
    rw is at c.first_misfit.ensures es in
    (seen.0, rw c.from-pairs.ensures at seen.1)

pub returns : goal.returns
returns g c =
    let p = c.args.context.program.now in
    let engine = c.args.context.engine.now in
    let s = c.args.self.now in
    let f = c.args.frame.now in
    let n = c.args.count in
    let q = c.from-pairs.result in
    let ops = s.stacks.operands in
    let gs = c.in-Some-Map.field-0-0 in
    let found : flat s.cells (operand_under (q + q) ops).value ≡ Some (dynamic.Map gs) =
    search rules in
    let read : flat s.cells (operand_under (n + n) ops).value ≡ Some (dynamic.Map gs) =
    rw c.from-pairs.ensures at found in
    let is : c.first_misfit.result ≡ None = search rules in
    let seen : PairsRead s.cells (arguments (q + q) ops) gs None =
    rw is at c.first_misfit.ensures gs in
    let are : pairs_of s.cells (arguments (n + n) ops) gs ≡ PairsAre seen.0 =
    rw c.from-pairs.ensures at seen.1 in
    let made : c.in_ok-map.map ≡ seen.0 = c.in_ok-map.ensures.taken gs seen.0 read are in
    let left : c.take_map.new.self ≡ record s {
      stacks = record s.stacks { operands = under (n + n + 1) ops };
    } = c.in_ok-map.ensures.left in
    let long = length-take (length ops - (n + n + 1)) ops in
    record {
      performs = λ host. implements_after g.H.Host.law p engine f c.literal_made.new.frame s
          c.literal_made.new.self c.args.steps.now c.literal_made.new.steps
          (record s.stacks { operands = under (n + n + 1) ops }) (under (n + n + 1) ops) host host
          refl (rw (left, c.from-pairs.ensures) at (c.literal_made.ensures.implements p engine host))
          (λ stop u place. rw (read, are, made) refl) (λ b i. i) (omega (arith, long))
          (omega (arith, long));
    }
