use Rattle.std.proofs.Common.{Ok, ap, sym, subst, ◌∙◌, rules, length, arith}
use Rattle.grain_program.specs.View.{view_of}
use Rattle.grain_program.specs.Numbered.{Search, state_of}
use Rattle.grain_program.specs.Reached.{AreReached}
use Rattle.grain_program.proofs.Searched.{places}
use Rattle.grain_program.proofs.Reaching.{one_keeps, waits_still}
use Rattle.grain_program.proofs.Loops.{entry_within, entered, not_entered, is_ready, taken_on, refused_on, ended}
use Rattle.grain_program.proofs.verifier.analysis.HeightAnalysis.analyse_chunk.Goals as goal

pub arrive-requires-clause-within : goal.arrive-requires-clause-within
arrive-requires-clause-within c =
    omega (
      arith,
      entry_within (view_of c.args.parts.now) c.args.chunk (state_of c.args.self.now) c.requires.analysable,
      places c.args.self.now,
    )

pub returns-in_err-arrive-clause-exact : goal.returns-in_err-arrive-clause-exact
returns-in_err-arrive-clause-exact c =
    let stops =
    not_entered (view_of c.args.parts.now) c.args.chunk (state_of c.args.self.now) c.requires.analysable
    c.in_err-arrive.field-0.0 c.in_err-arrive.ensures.exact in
    search (rules, stops)

pub loop-address-init : goal.loop-address-init
loop-address-init c =
    let p = view_of c.args.parts.now in
    let before = state_of c.args.self.now in
    let after = state_of c.arrive.new.self in
    record {
      so = entered p c.args.chunk before c.requires.analysable after c.in_ok-arrive.ensures.exact;
      reached = one_keeps p c.args.reached.now _ before after c.args.chunk.entry
          (entry_within p c.args.chunk before c.requires.analysable) c.in_ok-arrive.ensures.exact
          c.requires.reached;
    }

pub take-requires-clause-reached : goal.take-requires-clause-reached
take-requires-clause-reached c =
    waits_still (view_of c.args.parts.now) c.loop-address.reached (state_of c.loop-address.self)
    (state_of c.lowest.new.self) c.in-Some.address c.in-Some.ensures
    c.loop-address.invariant.reached

pub take-requires-clause-ready : goal.take-requires-clause-ready
take-requires-clause-ready c =
    is_ready (view_of c.args.parts.now) c.args.chunk (state_of c.args.self.now) c.requires.analysable
    (state_of c.loop-address.self) (state_of c.lowest.new.self) c.in-Some.address
    c.loop-address.invariant.so c.in-Some.ensures

pub loop-address-smaller : goal.loop-address-smaller
loop-address-smaller c =
    (taken_on (view_of c.args.parts.now) c.args.chunk (state_of c.args.self.now) c.requires.analysable
    (state_of c.loop-address.self) (state_of c.lowest.new.self) c.in-Some.address
    c.loop-address.invariant.so c.in-Some.ensures (state_of c.take.new.self)
    c.in_ok-take.ensures.exact).1

pub loop-address-preserved : goal.loop-address-preserved
loop-address-preserved c = record {
  so = (taken_on (view_of c.args.parts.now) c.args.chunk (state_of c.args.self.now)
      c.requires.analysable (state_of c.loop-address.self) (state_of c.lowest.new.self)
      c.in-Some.address c.loop-address.invariant.so c.in-Some.ensures (state_of c.take.new.self)
      c.in_ok-take.ensures.exact).0;
  reached = c.in_ok-take.ensures.reached;
}

pub returns-in_err-take-clause-exact : goal.returns-in_err-take-clause-exact
returns-in_err-take-clause-exact c =
    let stops =
    refused_on (view_of c.args.parts.now) c.args.chunk (state_of c.args.self.now) c.requires.analysable
    (state_of c.loop-address.self) (state_of c.lowest.new.self) c.in-Some.address
    c.loop-address.invariant.so c.in-Some.ensures c.in_err-take.field-0.0
    c.in_err-take.ensures.exact
    in
    search (rules, stops)

pub returns-clause-exact : goal.returns-clause-exact
returns-clause-exact c =
    ended (view_of c.args.parts.now) c.args.chunk (state_of c.args.self.now) c.requires.analysable
    (state_of c.loop-address.self) c.loop-address.invariant.so c.in_default.ensures.0
    ∙ ap (λ (f : Search). Ok (state_of f)) (sym c.in_default.ensures.1)

pub returns-clause-rest : goal.returns-clause-rest
returns-clause-rest c =
    let same = c.in_default.ensures.1 in (
      ap (λ (f : Search). f.waiting) same ∙ c.in_default.ensures.0,
      ap (λ (f : Search). length f.shapes) same
          ∙ sym (places c.loop-address.self)
          ∙ c.loop-address.invariant.so.long,
    )

pub returns-clause-reached : goal.returns-clause-reached
returns-clause-reached c =
    subst (λ (f : Search). AreReached (view_of c.args.parts.now) c.loop-address.reached (state_of f))
    (sym c.in_default.ensures.1) c.loop-address.invariant.reached
