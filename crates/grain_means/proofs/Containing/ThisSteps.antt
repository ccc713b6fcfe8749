-- Instructions on the `this` of a frame keep to the store.
use Rattle.std.proofs.Common.{◌≡◌, ◌≤◌, ℕ, [], Option, Some, None, refl, arith}
use Rattle.grain_value.specs.Looking.{cell_of}
use Rattle.grain_value.specs.Operands.{top}
use Rattle.grain_value.specs.declared.values.Dynamic.{Dynamic}
use Rattle.grain_value.specs.declared.values.Held.{Held}
use Rattle.grain_fault.specs.Problems.{Plain, AssignmentToConstant, UnboundThis}
use Rattle.grain_fault.specs.declared.places.Position.{Position}
use Rattle.grain_program.specs.declared.code.parts.AssignOp.{AssignOp}
use Rattle.grain_means.specs.Contained.{HeldNames}
use Rattle.grain_means.specs.Places.{look}
use Rattle.grain_means.specs.Rules as rules
use Rattle.grain_means.specs.Rules.{at_place_of, is_read_only, op_assigned, stepped}
use Rattle.grain_means.specs.Worlds.{Act, Frame, Place, Setup, World}
use Rattle.grain_means.proofs.Footing.{by_test}
use Rattle.grain_means.proofs.Plain.{op_assigned_plain}
use Rattle.grain_means.proofs.Containing.Parts.{FrameNames, may_stand}
use Rattle.grain_means.proofs.Containing.Entries.{assigns_at}
use Rattle.grain_means.proofs.Containing.Frames.{Grounds}
use Rattle.grain_means.proofs.Containing.Operators.{place_owns, place_plain, stores_outcome}
use Rattle.grain_means.proofs.Containing.Roots.{look_names}
use Rattle.grain_means.proofs.Containing.Steps.{Stays, Here, raising, pushing, going_on, reading, last, moves}

module _ {S : Type 0} {m : Setup S} (on : Grounds m) where
  open on use {clean, least, since}

  module _ (n : ℕ) (low : least ≤ n) (f : Frame) (names : FrameNames clean n f) where
    -- what stands at a place names cells of the store only
    pub stands_at : (p : Place) (w : World S) → Here on n low f names w →
        HeldNames clean n (look w.roots p)
    stands_at p w at = look_names clean n w.roots since.roots p at.stand

    -- at the place of a `this`, if there is one
    pub at_place : (o : Option Place) (q : Position) (w : World S) → Here on n low f names w →
        (go : Place → Act S) → ((p : Place) → o ≡ Some p → Stays on n low f names (go p)) →
        Stays on n low f names (rules.at_place m o q f w go)
    at_place None q w at go going =
        raising on n low f names (Plain UnboundThis q) w at (omega arith, λ s. refl)
    at_place (Some p) q w at go going = going p refl

    at_this : (w : World S) → Here on n low f names w → (go : Place → Act S) →
        ((p : Place) → Stays on n low f names (go p)) → Stays on n low f names (rules.at_this m f w go)
    at_this w at go going = at_place f.this (rules.position m f) w at go (λ p is. going p)

    pub loads_this : (next : ℕ) (w : World S) → Here on n low f names w →
        Stays on n low f names (rules.load_this m next f w)
    loads_this next w at =
        at_this w at (λ p. rules.flattened m (look w.roots p) [] f w
        (λ v. rules.pushed m f next f.operands v w))
        (λ p. reading on n low f names (look w.roots p) [] w at (stands_at p w at)
        (λ v. rules.pushed m f next f.operands v w)
        (λ v read plain. pushing on n low f names next f.operands v w at names.0 read))

    pub loads_this_shared : (next : ℕ) (w : World S) → Here on n low f names w →
        Stays on n low f names (rules.load_this_shared m next f w)
    loads_this_shared next w at =
        at_this w at (λ p. rules.pushed m f next f.operands (look w.roots p).value w)
        (λ p. pushing on n low f names next f.operands (look w.roots p).value w at names.0
        (stands_at p w at))

    pub requires_this : (next : ℕ) (w : World S) → Here on n low f names w →
        Stays on n low f names (rules.require_this m next f w)
    requires_this next w at =
        at_this w at (λ p. rules.onward m f (stepped f next f.operands) w)
        (λ p. going_on on n low f names (stepped f next f.operands) w at
        (moves on n low f names next f.operands names.0))

    unless_read_only : (h : Held) (w : World S) → Here on n low f names w → (go : Act S) →
        Stays on n low f names go → Stays on n low f names (rules.unless_read_only m h f w go)
    unless_read_only h w at go going =
        by_test (Stays on n low f names) (is_read_only w h)
        (rules.raised m f (Plain (AssignmentToConstant []) (rules.position m f)) w) go
        (λ constant. raising on n low f names
        (Plain (AssignmentToConstant []) (rules.position m f)) w at (omega arith, λ s. refl))
        (λ may. going)

    pub assigns_this : (next : ℕ) (w : World S) → Here on n low f names w →
        Stays on n low f names (rules.assign_this m next f w)
    assigns_this next w at =
        let to : Dynamic → Place → Act S = λ v p. rules.assigned_at m
        (at_place_of p (cell_of (look w.roots p).value)) (record (look w.roots p) { value = v }) []
        next f w in
        reading on n low f names (top f.operands) [] w at (last on n low f names)
        (λ v. rules.at_this m f w (λ p. rules.unless_read_only m (look w.roots p) f w (to v p)))
        (λ v read plain. at_this w at
        (λ p. rules.unless_read_only m (look w.roots p) f w (to v p))
        (λ p. unless_read_only (look w.roots p) w at (to v p)
        (assigns_at on n low f names (at_place_of p (cell_of (look w.roots p).value))
        (record (look w.roots p) { value = v }) [] next w at read
        (may_stand (at_place_of p (cell_of (look w.roots p).value)) v plain))))

    pub op_assigns_this : (a : AssignOp) (next : ℕ) (w : World S) → Here on n low f names w →
        Stays on n low f names (rules.assign_this_op m a next f w)
    op_assigns_this a next w at =
        let outcome : Dynamic → Place → Dynamic → Act S = λ v p u. rules.outcome_at m
        (at_place_of p (cell_of (look w.roots p).value)) [] (op_assigned m.engine a u v) a
        (look w.roots p) u (record (top f.operands) { value = v }) next f w in
        let to : Dynamic → Place → Act S = λ v p. rules.flattened m (look w.roots p) [] f w
        (outcome v p) in
        reading on n low f names (top f.operands) [] w at (last on n low f names)
        (λ v. rules.at_this m f w (λ p. rules.unless_read_only m (look w.roots p) f w (to v p)))
        (λ v right plain. at_this w at
        (λ p. rules.unless_read_only m (look w.roots p) f w (to v p))
        (λ p. unless_read_only (look w.roots p) w at (to v p)
        (reading on n low f names (look w.roots p) [] w at (stands_at p w at) (outcome v p)
        (λ u left flat. stores_outcome on n low f names
        (at_place_of p (cell_of (look w.roots p).value)) [] (op_assigned m.engine a u v)
        (op_assigned_plain m.engine a u v) a (look w.roots p) u
        (record (top f.operands) { value = v }) next w at
        (place_owns on n low f names (look w.roots p) p (cell_of (look w.roots p).value))
        (place_plain on n low f names p w (cell_of (look w.roots p).value) refl) left flat
        (right, λ s. plain)))))
