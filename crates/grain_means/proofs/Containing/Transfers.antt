-- Transfers and the cut of a scope keep to the store.
use Rattle.std.proofs.Common.{◌≤◌, ℕ, [], Option, Some, None, Bool, true, false, nat_lt, length, take, refl, arith}
use Rattle.std.specs.Prelude.{codes}
use Rattle.grain_value.specs.Looking.{truth_of}
use Rattle.grain_value.specs.Operands.{below, top}
use Rattle.grain_value.specs.Writing.{type_name_of}
use Rattle.grain_value.specs.declared.values.Dynamic.{Dynamic}
use Rattle.grain_fault.specs.Problems.{Plain, Malformed, MismatchDataType}
use Rattle.grain_fault.specs.declared.faults.MalformedKind.TheVariants as kind
use Rattle.grain_means.specs.Rules as rules
use Rattle.grain_means.specs.Rules.{agrees, stepped}
use Rattle.grain_means.specs.Worlds.{Frame, Setup, World}
use Rattle.grain_means.proofs.Footing.{by_test}
use Rattle.grain_means.proofs.Containing.Parts.{FrameNames}
use Rattle.grain_means.proofs.Containing.Frames.{Grounds, cut, jumps}
use Rattle.grain_means.proofs.Containing.Steps.{Stays, Here, raising, going_on, reading, last, less, moves}

module _ {S : Type 0} {m : Setup S} (on : Grounds m) where
  open on use {clean, least}

  module _ (n : ℕ) (low : least ≤ n) (f : Frame) (names : FrameNames clean n f) where
    -- branches
    pub jumping : (g : Frame) (w : World S) → Here on n low f names w → FrameNames clean n g →
        Stays on n low f names (rules.jumped m f g w)
    jumping g w at new = jumps on n low f g names new w at

    branches : (taken : Bool) (target next : ℕ) (w : World S) → Here on n low f names w →
        Stays on n low f names (rules.branched m taken target next f w)
    branches true target next w at =
        jumping (stepped f target (below f.operands)) w at (moves on n low f names target
        (below f.operands) (less on n low f names))
    branches false target next w at =
        going_on on n low f names (stepped f next (below f.operands)) w at (moves on n low f names
        next (below f.operands) (less on n low f names))

    tests : (wanted : Bool) (o : Option Bool) (v : Dynamic) (target next : ℕ) (w : World S) →
        Here on n low f names w → Stays on n low f names (rules.tested m wanted o v target next f w)
    tests wanted (Some b) v target next w at = branches (agrees wanted b) target next w at
    tests wanted None v target next w at =
        raising on n low f names (Plain (MismatchDataType (codes "bool") (type_name_of v))
        (rules.position m f)) w at (omega arith, λ s. refl)

    pub tests_top : (wanted : Bool) (target next : ℕ) (w : World S) → Here on n low f names w →
        Stays on n low f names (rules.jump_if m wanted target next f w)
    tests_top wanted target next w at =
        reading on n low f names (top f.operands) [] w at (last on n low f names)
        (λ v. rules.tested m wanted (truth_of v) v target next f w)
        (λ v read plain. tests wanted (truth_of v) v target next w at)

    pub skips : (unit : Bool) (target next : ℕ) (w : World S) → Here on n low f names w →
        Stays on n low f names (rules.skip m unit target next f w)
    skips true target next w at =
        going_on on n low f names (stepped f next f.operands) w at (moves on n low f names next
        f.operands names.0)
    skips false target next w at =
        jumping (stepped f target f.operands) w at (moves on n low f names target f.operands
        names.0)

    pub unwinds : (k next : ℕ) (w : World S) → Here on n low f names w → Stays on n low f names
        (rules.unwind m k next f w)
    unwinds k next w at =
        by_test (Stays on n low f names) (nat_lt (length w.scope) k)
        (rules.raised m f
        (Plain (Malformed (kind.UnwindPastScope k (length w.scope))) (rules.position m f)) w)
        (rules.onward m f (stepped f next f.operands) (record w { scope = take k w.scope }))
        (λ past. raising on n low f names
        (Plain (Malformed (kind.UnwindPastScope k (length w.scope))) (rules.position m f)) w at
        (omega arith, λ s. refl))
        (λ there. going_on on n low f names (stepped f next f.operands)
        (record w { scope = take k w.scope })
        (cut on n low k w at (take k w.scope) refl)
        (moves on n low f names next f.operands names.0))
