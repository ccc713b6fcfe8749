-- A transfer does not look at the operands of the frame in which it begins.
use Rattle.std.proofs.Common.{◌≡◌, ℕ, List, Option, Some, Bool, true, false, if◌then◌else◌, nat_le, refl, ap}
use Rattle.std.proofs.Math.Path.{fun_ext}
use Rattle.grain_value.specs.Cells.{flat}
use Rattle.grain_value.specs.declared.values.Dynamic.{Dynamic}
use Rattle.grain_value.specs.declared.values.Held.{Held}
use Rattle.grain_value.specs.Operands.{top, below}
use Rattle.grain_value.specs.Looking.{truth_of}
use Rattle.grain_stack.specs.Views.{StacksView}
use Rattle.grain_means.specs.Worlds.{Act, Frame, Place, Setup, World}
use Rattle.grain_means.specs.Rules.{agrees, charged, jump_if, jumped, onward, stepped}
use Rattle.grain_frame.specs.Abstraction.{frame_in}
use Rattle.grain_frame.specs.declared.activations.Activation.{Activation}
use Rattle.grain_frame.specs.declared.runs.Run.{Run}

jump_alike : {S : Type 0} (m : Setup S) (f g : Frame) (ops : List Held) (w : World S) →
    jumped m f g w ≡ jumped m (record f { operands = ops }) g w
jump_alike {S = S} m f g ops w = at (nat_le g.address f.address) where
  goes_on : onward m f g ≡ onward m (record f { operands = ops }) g
  goes_on = fun_ext (λ w. refl)

  at : (b : Bool) →
      (if b then charged m (record g { address = f.address }) w (onward m f g)
      else onward m f g w)
      ≡ (if b then charged m (record g { address = f.address }) w
      (onward m (record f { operands = ops }) g) else onward m (record f { operands = ops }) g w)
  at true =
      ap (λ (go : World S → Act S). charged m (record g { address = f.address }) w go) goes_on
  at false = refl

-- a branch whose truth value is the wanted one is a transfer without it
pub if_jumps : {H : Type 0} (m : Setup H) (f : Activation) (s : Run H) (v : StacksView)
    (wanted : Bool) (target next : ℕ) (value : Dynamic) (b : Bool) (place : Option Place)
    (w : World H) → flat w.cells (top s.stacks.operands).value ≡ Some value →
    truth_of value ≡ Some b → agrees wanted b ≡ true →
    v ≡ record s.stacks { operands = below s.stacks.operands } →
    jump_if m wanted target next (frame_in f s place) w
    ≡ jumped m (frame_in f (record s { stacks = v }) place)
    (stepped (frame_in f (record s { stacks = v }) place) target v.operands) w
if_jumps m f s v wanted target next value b place w read truth agreed rest =
    rw (read, truth, agreed, rest) (jump_alike m (frame_in f s place)
    (stepped (frame_in f s place) target (below s.stacks.operands)) (below s.stacks.operands) w)
