-- What was lent is what the target holds, and what is back is what the host left of it.
use Rattle.std.proofs.Common.{◌≡◌, ◌∙◌, false, ap, sym, subst}
use Rattle.grain_value.specs.Operands.{read_write}
use Rattle.grain_value.specs.declared.values.Held.{Held}
use Rattle.grain_frame.specs.Targets.{HoldsWritable, IsLentAt, content_at, put_in}
use Rattle.grain_frame.specs.declared.runs.Run.{Run}
use Rattle.grain_frame.proofs.Holding.{holds_plainly, put_holds}
use Rattle.grain_frame.proofs.Lending.{back_flag, lends}
use Rattle.grain_frame.proofs.Targeting.{lent_again, lent_then, one_at, put_twice}
use Rattle.grain_frame.proofs.runs.Run.lend.Goals as goal

pub put_back-requires : goal.put_back-requires
put_back-requires g c =
    subst (λ (s : Run g.row.H.Denot). IsLentAt s c.args.target)
    (sym c.take_out-held.ensures.run)
    (lent_then c.args.self.now c.args.target c.take_out-held.result c.requires.target)

pub returns-clause-same : goal.returns-clause-same
returns-clause-same g c = λ h there.
    let s = c.args.self.now in
    let t = c.args.target in
    let same : c.take_out-held.result ≡ h =
    one_at s t c.take_out-held.result h c.take_out-held.ensures.held there in
    lends g.H.Host.law s c.args.steps.now c.args.host.now c.args.key t h c.args.values
    c.args.position there c.call-answer.new.args c.call-answer.new.self c.served.new.steps
    c.take_out-held.result c.in-Some.held c.take_out-held.new.self c.put_back.new.self
    c.take_out-held.ensures.run c.in-Some.is c.put_back.ensures c.call-answer.result
    c.served.result (rw same at c.call-answer.ensures) c.served.ensures.ends

pub returns-clause-again : goal.returns-clause-again
returns-clause-again g c =
    lent_again c.args.self.now c.put_back.new.self c.args.target c.take_out-held.result
    c.in-Some.held c.requires.target c.take_out-held.ensures.held
    (back_flag g.H.Host.law c.args.host.now c.call-answer.new.self c.args.key c.args.values
    c.take_out-held.result c.call-answer.new.args c.in-Some.held c.call-answer.result
    c.call-answer.ensures c.in-Some.is)
    (c.put_back.ensures ∙ ap (λ (r : Run g.row.H.Denot). put_in r c.args.target c.in-Some.held)
    c.take_out-held.ensures.run)

pub returns-clause-writable : goal.returns-clause-writable
returns-clause-writable g c = λ writable.
    let s = c.args.self.now in
    let t = c.args.target in
    let out = c.take_out-held.result in
    let back = c.in-Some.held in
    let plain : out.read_only ≡ false = ap (λ (h : Held). h.read_only)
    (one_at s t out (read_write (content_at s t)) c.take_out-held.ensures.held writable) in
    let flag = back_flag g.H.Host.law c.args.host.now c.call-answer.new.self c.args.key
    c.args.values out c.call-answer.new.args back c.call-answer.result c.call-answer.ensures
    c.in-Some.is in
    let after : c.put_back.new.self ≡ put_in s t back =
    c.put_back.ensures
    ∙ (ap (λ (r : Run g.row.H.Denot). put_in r t back) c.take_out-held.ensures.run
    ∙ put_twice s t out back) in
    subst (λ (r : Run g.row.H.Denot). HoldsWritable r t) (sym after)
    (holds_plainly (put_in s t back) t back (put_holds s t back c.requires.target) (flag ∙ plain))
