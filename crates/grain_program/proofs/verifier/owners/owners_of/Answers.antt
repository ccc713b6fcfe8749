-- One more chunk has its owners: the vector's items are the slice that was marked.
use Rattle.std.proofs.Common.{◌≡◌, ◌+◌, ◌++◌, List, length, take, drop, sym, subst, arith}
use Rattle.std.proofs.lemmas.List.{take_at}
use Rattle.std.proofs.lemmas.Option.{slice_get-get_or}
use Rattle.grain_program.specs.declared.verifier.owners.Owner.{Owner}
use Rattle.grain_program.specs.Owners.{Owned}
use Rattle.grain_program.proofs.Marks.{owned_more}
use Rattle.grain_program.proofs.verifier.owners.owners_of.Goals as goal

pub loop-chunk-preserved : goal.loop-chunk-preserved
loop-chunk-preserved c =
    let lent = c.deref_mut.ensures in
    let n = c.loop-chunk.chunk-index in
    let before =
    subst (λ (x : List Owner). Owned c.args.code.now c.args.chunks.now n x) (sym lent.value)
    c.loop-chunk.invariant in
    let long : length c.mark.new.owners ≡ c.loop-chunk.owners.len =
    omega (arith, c.mark.ensures.length_same, lent.len) in
    let whole : take c.loop-chunk.owners.len (c.mark.new.owners ++ drop (length c.mark.new.owners)
    c.loop-chunk.owners.items) ≡ c.mark.new.owners = take_at c.mark.new.owners _ _ long in
    subst (λ (x : List Owner). Owned c.args.code.now c.args.chunks.now (n + 1) x) (sym whole)
    (owned_more c.args.code.now c.args.chunks.now n _ c.deref_mut.result.now c.mark.new.owners
    c.requires (slice_get-get_or c.args.chunks.now n _ c.loop-chunk-test.true) before
    c.mark.ensures.length_same c.mark.ensures.marked)
