-- The native is sought for the last operand alone, as it is read.
use Rattle.std.proofs.Common.{◌≡◌, ◌∙◌, ◌∷◌, [], List, None, Option, Some, ℕ, false, ap, rules, sym}
use Rattle.std.specs.Prelude.{is_none, is_some}
use Rattle.grain_value.specs.Cells.{flat}
use Rattle.grain_value.specs.Operands.{top}
use Rattle.grain_value.specs.Writing.{kind_of}
use Rattle.grain_value.specs.declared.values.Held.{Held}
use Rattle.grain_host.specs.Law.{native_of}
use Rattle.grain_means.specs.Rules.{to_string}
use Rattle.grain_frame.specs.Natives.{Describes, Seeks}
use Rattle.grain_frame.proofs.Appending.{alone_read, native_there}
use Rattle.grain_frame.proofs.Flattening.{last_read, value_there}
use Rattle.grain_frame.proofs.runs.Run.seek_shown.Goals as goal

pub of-requires : goal.of-requires
of-requires g c =
    let s = c.args.self.now in
    let ops = s.stacks.operands in
    let v = value_there (flat s.cells (top ops).value) c.requires.readable in
    let are = alone_read s.cells ops v.0 c.requires.there v.1 in
    record {
      empty = c.new-no_room.ensures;
      readable = ap (λ (o : Option (List Held)). is_some o) (last_read s.cells 1 ops
          c.frame_operands-operands.result.now (record (top ops) { value = v.0 } ∷ [])
          c.frame_operands-operands.ensures are);
    }

pub returns-then-is_none : goal.returns-then-is_none
returns-then-is_none g c = λ v read.
    let s = c.args.self.now in
    let ops = s.stacks.operands in
    let h = record (top ops) { value = v } in
    let are = alone_read s.cells ops v c.requires.there read in
    let given : Describes c.in_ok-arguments.arguments (h ∷ []) =
    c.in_ok-arguments.ensures (h ∷ []) (last_read s.cells 1 ops
    c.frame_operands-operands.result.now (h ∷ []) c.frame_operands-operands.ensures are) in
    let none : native_of g.H.Host.law c.args.host.now to_string c.in_ok-arguments.arguments.kinds
    ≡ None = search rules in
    ap (λ (ks : List ℕ). native_of g.H.Host.law c.args.host.now to_string ks) (sym given.kinds)
    ∙ none

pub returns : goal.returns
returns g c = λ v read.
    let s = c.args.self.now in
    let ops = s.stacks.operands in
    let h = record (top ops) { value = v } in
    let are = alone_read s.cells ops v c.requires.there read in
    let given : Describes c.in_ok-arguments.arguments (h ∷ []) =
    c.in_ok-arguments.ensures (h ∷ []) (last_read s.cells 1 ops
    c.frame_operands-operands.result.now (h ∷ []) c.frame_operands-operands.ensures are) in
    let some : is_none (native_of g.H.Host.law c.args.host.now to_string
    c.in_ok-arguments.arguments.kinds) ≡ false = search rules in
    let there = native_there (native_of g.H.Host.law c.args.host.now to_string
    c.in_ok-arguments.arguments.kinds) some in
    let found : native_of g.H.Host.law c.args.host.now to_string (kind_of v ∷ []) ≡ Some there.0 =
    ap (λ (ks : List ℕ). native_of g.H.Host.law c.args.host.now to_string ks) (sym given.kinds)
    ∙ there.1 in
    let sought : Seeks g.H.Host.law c.args.host.now to_string None (h ∷ []) c.args.position
    c.in_ok-sought.sought =
    rw c.in_ok-name.ensures at (c.in_ok-sought.ensures (h ∷ []) given) in
    (there.0, found, sought)
