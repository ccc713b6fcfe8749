use Rattle.std.proofs.Common.{◌≡◌, Bool, true, None, Ok, sym, ap, subst}
use Rattle.grain_means.specs.Tasks.{WalkEnded}
use Rattle.grain_means.specs.Walks
use Rattle.grain_means.specs.Walks.{is_change}
use Rattle.grain_chain.specs.Walking.{place_of}
use Rattle.grain_chain.specs.Going.{GoesBack, rest, setting}
use Rattle.grain_chain.specs.declared.origins.Origin.{Origin as CodeOrigin}
use Rattle.grain_chain.specs.Walking.{origin_of}
use Rattle.grain_chain.proofs.Backs.{as_it_was}
use Rattle.grain_chain.proofs.walks.Walk.set_back.Goals as goal

pub returns-in-Part-clause-goes : goal.returns-in-Part-clause-goes
returns-in-Part-clause-goes c =
    subst (λ (o : CodeOrigin). GoesBack c.args.context c.args.self.now (Walks.set_back
    (setting c.args.context c.args.self.now) c.args.self.now.step (origin_of o)
    (place_of c.args.self.now) c.args.inner c.args.self.now.gives c.args.changed
    (rest c.args.context c.args.self.now)) c.args.changed c.put_part.result c.put_part.new.self)
    (sym c.in-Part.is)
    (c.put_part.ensures.goes c.args.context c.args.changed)

pub returns-in-Index-clause-goes : goal.returns-in-Index-clause-goes
returns-in-Index-clause-goes c =
    subst (λ (o : CodeOrigin). GoesBack c.args.context c.args.self.now (Walks.set_back
    (setting c.args.context c.args.self.now) c.args.self.now.step (origin_of o)
    (place_of c.args.self.now) c.args.inner c.args.self.now.gives c.args.changed
    (rest c.args.context c.args.self.now)) c.args.changed c.index_back.result c.index_back.new.self)
    (sym c.in-Index.is)
    (c.index_back.ensures.goes c.args.context)

pub returns-in-Property-clause-goes : goal.returns-in-Property-clause-goes
returns-in-Property-clause-goes c =
    subst (λ (o : CodeOrigin). GoesBack c.args.context c.args.self.now (Walks.set_back
    (setting c.args.context c.args.self.now) c.args.self.now.step (origin_of o)
    (place_of c.args.self.now) c.args.inner c.args.self.now.gives c.args.changed
    (rest c.args.context c.args.self.now)) c.args.changed c.property_back.result
    c.property_back.new.self) (sym c.in-Property.is)
    (c.property_back.ensures.goes)

pub returns-in-Nothing-clause-goes : goal.returns-in-Nothing-clause-goes
returns-in-Nothing-clause-goes c =
    subst (λ (o : CodeOrigin). GoesBack c.args.context c.args.self.now (Walks.set_back
    (setting c.args.context c.args.self.now) c.args.self.now.step (origin_of o)
    (place_of c.args.self.now) c.args.inner c.args.self.now.gives c.args.changed
    (rest c.args.context c.args.self.now)) c.args.changed (Ok None) c.args.self.now) (sym c.in-Nothing.is)
    (as_it_was c.args.context c.args.self.now c.args.changed)

pub returns-in-Method-clause-goes : goal.returns-in-Method-clause-goes
returns-in-Method-clause-goes c =
    let counts : true ≡ c.args.changed =
    sym (c.requires (ap (λ (o : CodeOrigin). is_change (origin_of o)) c.in-Method.is)) in
    subst (λ (o : CodeOrigin). GoesBack c.args.context c.args.self.now (Walks.set_back
    (setting c.args.context c.args.self.now) c.args.self.now.step (origin_of o)
    (place_of c.args.self.now) c.args.inner c.args.self.now.gives c.args.changed
    (rest c.args.context c.args.self.now)) c.args.changed (Ok None) c.args.self.now) (sym c.in-Method.is)
    (subst (λ (b : Bool). GoesBack c.args.context c.args.self.now
    (rest c.args.context c.args.self.now (WalkEnded c.args.self.now.gives true)) b (Ok None) c.args.self.now)
    counts (as_it_was c.args.context c.args.self.now true))
