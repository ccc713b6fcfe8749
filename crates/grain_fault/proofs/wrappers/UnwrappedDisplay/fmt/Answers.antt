-- The innermost fault's message, what all wrappers add, and where the outermost one is.
use Rattle.std.proofs.Common.{◌≡◌, ◌∙◌, ◌++◌, ◌∷◌, flat_map, map, sym, ap, refl, []}
use Rattle.std.proofs.Output.{has_written_append, has_written_of_eq}
use Rattle.std.proofs.lemmas.Iterator.Adapters.{YieldsList-from_rev_slice}
use Rattle.std.proofs.lemmas.Iterator.Consumers.{YieldsList-end}
use Rattle.std.proofs.lemmas.List.{flat_map_more, map-append}
use Rattle.grain_fault.specs.Wrappers.{added_by}
use Rattle.grain_fault.specs.Problems.{problem_of}
use Rattle.grain_fault.specs.Texts.{message, location_text}
use Rattle.grain_fault.proofs.wrappers.UnwrappedDisplay.fmt.Goals as goal

pub returns-clause-writes : goal.returns-clause-writes
returns-clause-writes g c = λ plain ok.
    let all =
    YieldsList-end (YieldsList-from_rev_slice c.args.self.now.wrappers.now cc)
    c.loop-wrapper.yielded _ c.loop-wrapper.yielded_by _ _ c.in-None.is c.next.ensures.steps in
    let first = c.in_ok-write_message.ensures plain refl in
    let middle = c.loop-wrapper.invariant first.plain in
    let end = c.write.ensures.writes middle.plain ok in
    has_written_of_eq _ _ _ _ _
    (ap (λ ws. message (problem_of c.args.self.now.innermost.now) ++ flat_map added_by ws
    ++ location_text [] c.args.self.now.position) all.0)
    (has_written_append _ _ _ _ _ _ (has_written_append _ _ _ _ _ _ first middle) end)

pub loop-wrapper-init : goal.loop-wrapper-init
loop-wrapper-init g c = λ plain. record {
  wrote = record {
    parts = [];
    calls = refl;
    whole = refl;
  };
  plain = plain;
}

pub loop-wrapper-preserved : goal.loop-wrapper-preserved
loop-wrapper-preserved g c = λ plain.
    let l = c.loop-wrapper in
    let before = l.invariant plain in
    let written = c.in_ok-write_wrapper.ensures before.plain refl in
    let one_more : flat_map added_by (map (λ w. w.now) l.yielded) ++ added_by c.in-Some.wrapper.now
    ≡ flat_map added_by (map (λ w. w.now) (l.yielded ++ c.in-Some.wrapper ∷ [])) =
    flat_map_more added_by [] (map (λ w. w.now) l.yielded) c.in-Some.wrapper.now
    ∙ ap (flat_map added_by) (sym (map-append (λ w. w.now) l.yielded (c.in-Some.wrapper ∷ []))) in
    has_written_of_eq _ _ _ _ _ one_more (has_written_append _ _ _ _ _ _ before written)
