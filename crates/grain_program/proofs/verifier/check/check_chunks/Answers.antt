use Rattle.std.proofs.Common.{◌≡◌, Some, None, sym, ap, ◌∙◌}
use Rattle.grain_program.specs.View.{view_of}
use Rattle.grain_program.specs.Chains.{first_bad_chain}
use Rattle.grain_program.proofs.Verdicts.{only_memory, refused_before_chains, refused_by_chain, refused_by_heights, typed_well, complete}
use Rattle.grain_program.proofs.verifier.check.check_chunks.Goals as goal

pub returns-in-Err-clause-complete : goal.returns-in-Err-clause-complete
returns-in-Err-clause-complete c = λ v. only_memory (view_of c.args.parts.now) c.args.chunks.now v
    c.in-Err.refusal (refused_before_chains (view_of c.args.parts.now) c.args.chunks.now
    c.in-Err.refusal c.in-Err.ensures.err)

pub returns-in-Some-clause-complete : goal.returns-in-Some-clause-complete
returns-in-Some-clause-complete c =
    let bad : first_bad_chain 0 0 c.args.parts.now.chains ≡ Some c.in-Some.refusal =
    sym (c.bad_chain.ensures ∙ ap (first_bad_chain 0 0) c.as_slice.ensures) ∙ c.in-Some.is in
    λ v. only_memory (view_of c.args.parts.now) c.args.chunks.now v c.in-Some.refusal
    (refused_by_chain (view_of c.args.parts.now) c.args.chunks.now c.in-Ok.ensures.ok
    c.in-Some.refusal bad)

pub returns-in-Some-clause-first : goal.returns-in-Some-clause-first
returns-in-Some-clause-first c =
    let bad : first_bad_chain 0 0 c.args.parts.now.chains ≡ Some c.in-Some.refusal =
    sym (c.bad_chain.ensures ∙ ap (first_bad_chain 0 0) c.as_slice.ensures) ∙ c.in-Some.is in
    refused_by_chain (view_of c.args.parts.now) c.args.chunks.now c.in-Ok.ensures.ok
    c.in-Some.refusal bad

pub returns-in-None-clause-sound : goal.returns-in-None-clause-sound
returns-in-None-clause-sound c =
    let none : first_bad_chain 0 0 c.args.parts.now.chains ≡ None =
    sym (c.bad_chain.ensures ∙ ap (first_bad_chain 0 0) c.as_slice.ensures) ∙ c.in-None.is in
    typed_well (view_of c.args.parts.now) c.args.chunks.now c.in-Ok.ensures.ok none
    c.check_heights.result c.check_heights.ensures.ok

pub returns-in-None-clause-complete : goal.returns-in-None-clause-complete
returns-in-None-clause-complete c =
    let none : first_bad_chain 0 0 c.args.parts.now.chains ≡ None =
    sym (c.bad_chain.ensures ∙ ap (first_bad_chain 0 0) c.as_slice.ensures) ∙ c.in-None.is in
    complete (view_of c.args.parts.now) c.args.chunks.now c.check_heights.result
    (refused_by_heights (view_of c.args.parts.now) c.args.chunks.now c.in-Ok.ensures.ok none
    c.check_heights.result c.check_heights.ensures.err)

pub returns-in-None-clause-first : goal.returns-in-None-clause-first
returns-in-None-clause-first c =
    let none : first_bad_chain 0 0 c.args.parts.now.chains ≡ None =
    sym (c.bad_chain.ensures ∙ ap (first_bad_chain 0 0) c.as_slice.ensures) ∙ c.in-None.is in
    refused_by_heights (view_of c.args.parts.now) c.args.chunks.now c.in-Ok.ensures.ok none
    c.check_heights.result c.check_heights.ensures.err
