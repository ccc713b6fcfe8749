-- What a walk's natives are lent, and what they answer.
use Rattle.std.proofs.Common.{◌≡◌, ℕ, ◌+◌, ◌&&◌, List, [], ◌∷◌, ◌++◌, Option, Some, None, true, false, length, refl, ap, ◌∙◌, arith}
use Rattle.std.proofs.lemmas.List.{length-append}
use Rattle.grain_value.specs.Operands.{values_in}
use Rattle.grain_value.specs.declared.values.Dynamic.{Dynamic}
use Rattle.grain_value.specs.declared.values.Held.{Held}
use Rattle.grain_value.specs.declared.natives.Native.{Native}
use Rattle.grain_fault.specs.Positions.{at_position_if_none}
use Rattle.grain_fault.specs.Problems.{Problem, Plain, NonPureCall}
use Rattle.grain_host.specs.Law.{native_of}
use Rattle.grain_host.specs.Law as reply
use Rattle.grain_host.specs.Signatures.{not_found}
use Rattle.grain_means.specs.Worlds.{is_stop, Answer, Came, Failed, Act, Frame, Setup, World}
use Rattle.grain_means.specs.Places.{find, along}
use Rattle.grain_means.specs.Tasks.{Call}
use Rattle.grain_means.specs.Rules.Natives.{Receiver, trees_in, kinds_in, first_is_read_only, given, lent_held, given_back, cells_given_back, roots_given_back}
use Rattle.grain_means.specs.Rules.Chains.{new_root}
use Rattle.grain_means.specs.Rules.InWorld.{needed}
use Rattle.grain_means.specs.lemmas.PlaceLaws.{ok-along, get-after}

-- a root that is added to others is there
pub found-new : (bs : List Held) (h : Held) → find (bs ++ h ∷ []) (new_root bs) ≡ Some h
found-new bs h =
    ap (along []) (get-after bs (h ∷ []) (length bs) 0 (omega arith)) ∙ ok-along [] h h.value refl

pub length-new : (bs : List Held) (h : Held) → length bs + 1 ≡ length (bs ++ h ∷ [])
length-new bs h = omega (arith, length-append bs (h ∷ []))

-- what a walk needs, whatever it is lent
module _ {S : Type 0} (n : Setup S) (k : ℕ) (g : Frame) (c : Call) (r : Option Receiver)
    (heard : Answer → World S → Act S) (w : World S) (args : List Held) where
  pub needs_none : native_of n.law w.host c.name (kinds_in (given r args)) ≡ None →
      is_stop n.stop w.passed ≡ false → needed n k g c r heard w (Some args)
      ≡ heard (Failed (not_found c.name (values_in (given r args)) c.position))
      (record w { passed = w.passed + 1 })
  needs_none none clear = rw (none, clear) refl

  module _ (one : Native)
      (is : native_of n.law w.host c.name (kinds_in (given r args)) ≡ Some one) where
    pub needs_constant : (one.writes && first_is_read_only (given r args)) ≡ true →
        is_stop n.stop w.passed ≡ false → needed n k g c r heard w (Some args)
        ≡ heard (Failed (Plain (NonPureCall c.name) c.position)) (record w { passed = w.passed + 1 })
    needs_constant writes clear = rw (is, writes, clear) refl

    module _ (writes : (one.writes && first_is_read_only (given r args)) ≡ false)
        (clear : is_stop n.stop w.passed ≡ false)
        (still : is_stop n.stop (w.passed + 1) ≡ false) where
      -- the world once the host has answered
      abbrev pub served : ℕ → World S
      served passed = record w {
        host = n.law.call_after w.host one.key (lent_held r) (trees_in args);
        scope = given_back n.law w.host one.key (trees_in args) r w.scope;
        cells = cells_given_back n.law w.host one.key (trees_in args) r w.cells;
        roots = roots_given_back n.law w.host one.key (trees_in args) r w.roots;
        passed = passed;
      }

      pub needs_value : (v : Dynamic) →
          reply.Done v ≡ n.law.call_reply w.host one.key (lent_held r) (trees_in args) →
          needed n k g c r heard w (Some args) ≡ heard (Came v) (served (w.passed + 1 + 1))
      needs_value v said = rw (is, writes, clear, still, ← said) refl

      pub needs_fault : (y : Problem) →
          reply.Failed y ≡ n.law.call_reply w.host one.key (lent_held r) (trees_in args) →
          is_stop n.stop (w.passed + 1 + 1) ≡ false → needed n k g c r heard w (Some args)
          ≡ heard (Failed (at_position_if_none c.position y)) (served (w.passed + 1 + 1 + 1))
      needs_fault y said last = rw (is, writes, clear, still, ← said, last) refl
