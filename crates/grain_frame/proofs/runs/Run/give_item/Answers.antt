use Rattle.std.proofs.Common.{rules, ◌≡◌, [], true, false, FitsSigned, w64, refl}
use Rattle.std.proofs.lemmas.Int.{to_z-of_z}
use Rattle.grain_value.specs.Operands.{read_write}
use Rattle.grain_fault.specs.Problems.{Plain, DataRace}
use Rattle.grain_program.specs.View.{position_of}
use Rattle.grain_means.specs.Rules.{race_text}
use Rattle.grain_frame.specs.Abstraction.{is_out}
use Rattle.grain_frame.specs.Looping.{next_is_lent}
use Rattle.grain_frame.specs.lemmas.Looping.{raises_in_loop}
use Rattle.grain_frame.proofs.Counting.{gives, gives_not, lent_item, readable_taken}
use Rattle.grain_frame.proofs.runs.Run.give_item.Goals as goal

pub returns-then-is_next_lent : goal.returns-then-is_next_lent
returns-then-is_next_lent g c =
    let p = c.args.context.program.now in
    let s = c.args.self.now in
    let f = c.args.frame.now in
    let lent : next_is_lent s ≡ true = search rules in
    record {
      implements = λ target t ts first host. raises_in_loop g.H.Host.law p
          c.args.context.engine.now f s c.data_race.new.self c.args.steps.now
          c.data_race.new.steps host
          (Plain (DataRace (race_text [])) (position_of p f.address)) c.data_race.result
          c.data_race.ensures c.requires.begins.inside
          (λ stop u place. rw (lent_item s.cells s.stacks.cursors t ts first lent) refl);
    }

pub flat_value-requires : goal.flat_value-requires
flat_value-requires g c =
    let free : next_is_lent c.args.self.now ≡ false = search rules in
    readable_taken c.args.self.now c.take_item-item.new.self c.take_item-item.result _
    c.take_item-item.ensures free

pub returns-in_err-value : goal.returns-in_err-value
returns-in_err-value g c =
    let s = c.args.self.now in
    let free : next_is_lent s ≡ false = search rules in
    let out : is_out c.from_residual.result ≡ true = search rules in
    record {
      implements = λ target t ts first host. gives_not g.H.Host.law c.args.context.program.now
          c.args.context.engine.now c.args.frame.now s c.args.steps.now host t ts c.args.count
          c.args.next target c.take_item-item.new.self c.take_item-item.new.self.stacks.cursors
          c.from_residual.result out first free c.take_item-item.ensures.1
          c.requires.begins.inside;
    }

pub returns : goal.returns
returns g c =
    let fits : FitsSigned w64 c.args.count = search rules in
    let taken = rw (to_z-of_z w64 c.args.count fits) at (c.take_item-item.ensures) in
    let held : c.read_write.result ≡ read_write c.in_ok-value.value =
    λ i. record { value = c.read_write.ensures.0 i; read_only = c.read_write.ensures.1 i } in
    record {
      implements = λ target t ts first host. rw c.mark.ensures (gives g.H.Host.law
          c.args.context.program.now c.args.context.engine.now c.args.frame.now c.args.self.now
          c.args.steps.now host t ts c.args.count c.args.next target c.take_item-item.new.self
          c.take_item-item.result c.in_ok-value.value c.push.new.self first taken
          c.in_ok-value.ensures c.requires.there
          (rw held at c.push.ensures) c.requires.begins);
    }
