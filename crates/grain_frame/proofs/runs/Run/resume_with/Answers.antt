-- What a native was lent is taken out, and what it left is back.
use Rattle.std.proofs.Common.{◌≡◌, ◌∙◌, [], Option, Some, refl, sym, ap, subst}
use Rattle.grain_value.specs.Operands.{read_write}
use Rattle.grain_value.specs.declared.values.Held.{Held}
use Rattle.grain_host.specs.Answers.{Resumed as HostResumed}
use Rattle.grain_host.specs.Answers.{outcome_of as host_outcome_of}
use Rattle.grain_host.specs.Answers.{reply_of}
use Rattle.grain_frame.specs.Targets.{IsLentAt, content_at, put_in}
use Rattle.grain_frame.specs.declared.runs.Run.{Run}
use Rattle.grain_frame.proofs.Returning.{kept_again, kept_writable}
use Rattle.grain_frame.proofs.Targeting.{lent_then, one_at, put_twice}
use Rattle.grain_frame.proofs.runs.Run.resume_with.Goals as goal

pub take_out-held-requires : goal.take_out-held-requires
take_out-held-requires g c =
    kept_again c.args.self.now c.in-Target.target (rw c.in-Target.is at c.requires.kept)

pub put_back-requires : goal.put_back-requires
put_back-requires g c =
    subst (λ (s : Run g.row.H.Denot). IsLentAt s c.in-Target.target)
    (sym c.take_out-held.ensures.run)
    (lent_then c.args.self.now c.in-Target.target c.take_out-held.result
    (kept_again c.args.self.now c.in-Target.target (rw c.in-Target.is at c.requires.kept)))

pub returns-in-Target : goal.returns-in-Target
returns-in-Target g c =
    let s = c.args.self.now in
    let t = c.in-Target.target in
    let out = c.take_out-held.result in
    let back = c.held_in.result in
    let same : out ≡ read_write (content_at s t) =
    one_at s t out (read_write (content_at s t)) c.take_out-held.ensures.held
    (kept_writable s t (rw c.in-Target.is at c.requires.kept)) in
    let put : c.put_back.new.self ≡ put_in s t back =
    c.put_back.ensures
    ∙ (ap (λ (r : Run g.row.H.Denot). put_in r t back) c.take_out-held.ensures.run
    ∙ put_twice s t out back) in
    rw c.in-Target.is (record {
      resumes = (
        Some back,
        (back, refl, refl, put),
        subst (λ (y : Held). HostResumed g.H.Host.law c.args.host.now c.args.token
            (host_outcome_of c.args.told) (record { receiver = Some y; values = [] })
            (reply_of c.resume-answer-in-Target.result.0) c.resume-answer-in-Target.new.host
            (record { receiver = Some back; values = [] })) same
            (subst (λ (z : Option Held). HostResumed g.H.Host.law c.args.host.now c.args.token
            (host_outcome_of c.args.told) (record { receiver = Some out; values = [] })
            (reply_of c.resume-answer-in-Target.result.0) c.resume-answer-in-Target.new.host
            (record { receiver = z; values = [] })) (sym c.held_in.ensures)
            c.resume-answer-in-Target.ensures),
      );
    })

pub returns-in-Cell : goal.returns-in-Cell
returns-in-Cell g c = rw c.in-Cell.is (record {
  resumes = (
    Some c.held_in-in-Cell.result,
    (c.held_in-in-Cell.result, refl, refl, refl),
    subst (λ (z : Option Held). HostResumed g.H.Host.law c.args.host.now c.args.token
        (host_outcome_of c.args.told) (record { receiver = Some c.in-Cell.held; values = [] })
        (reply_of c.resume-answer-in-Cell.result.0) c.resume-answer-in-Cell.new.host
        (record { receiver = z; values = [] })) (sym c.held_in-in-Cell.ensures)
        c.resume-answer-in-Cell.ensures,
  );
})

pub returns-in-Apart : goal.returns-in-Apart
returns-in-Apart g c = rw c.in-Apart.is (record {
  resumes = (
    Some c.held_in-in-Apart.result,
    (c.held_in-in-Apart.result, refl, refl, refl),
    subst (λ (z : Option Held). HostResumed g.H.Host.law c.args.host.now c.args.token
        (host_outcome_of c.args.told) (record { receiver = Some c.in-Apart.held; values = [] })
        (reply_of c.resume-answer-in-Apart.result.0) c.resume-answer-in-Apart.new.host
        (record { receiver = z; values = [] })) (sym c.held_in-in-Apart.ensures)
        c.resume-answer-in-Apart.ensures,
  );
})
