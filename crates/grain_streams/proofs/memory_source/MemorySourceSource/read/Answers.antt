use Rattle.std.proofs.Common.{rules, arith, ap, Some, ◌≡◌, ◌≤◌, ◌∙◌, length, min, take, drop}
use Rattle.std.proofs.lemmas.Grind.{common_steps}
use Rattle.grain_streams.proofs.Moves.{moved, spent}
use Rattle.grain_streams.proofs.memory_source.MemorySourceSource.read.Goals as goal

pub returns-clause-bytes : goal.returns-clause-bytes
returns-clause-bytes c =
    let n = c.copy_front-count.result in
    let slice = c.copy_front-count.new.into in
    let place = c.self.inside.place in
    let bytes = c.self.inside.bytes in
    let copied : take n slice ≡ take n (drop place bytes) = search rules in
    let count : n ≡ min (length (drop place bytes)) (length slice) = search rules in
    let within : n ≤ length slice = grind (arith, common_steps) in
    let left : drop place bytes ≡ c.args.self.now.left = ap (λ v. v.left) c.self.view_is in (
      within,
      ap Some (moved place n bytes slice copied ∙ left),
      spent place n (length slice) bytes count,
    )
