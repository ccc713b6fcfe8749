-- The calls that a native asks for: the frame of each is that of the first, the fault of a native that is
-- called back goes on, and the position of a fault with which they end.
use Rattle.std.proofs.Common.{◌≡◌, ◌⊎◌, ◌+◌, ◌∙◌, ℕ, Bool, true, false, if◌then◌else◌, refl, sym, subst, inl, inr}
use Rattle.grain_fault.specs.Places.{is_nowhere}
use Rattle.grain_fault.specs.Positions.{at_position, at_position_if_none, position_of_problem}
use Rattle.grain_fault.specs.declared.places.Position.{Position}
use Rattle.grain_fault.specs.Problems.{FaultKind, Problem, Plain}
use Rattle.grain_host.specs.Law.{Outcome}
use Rattle.grain_host.specs.Law as reply
use Rattle.grain_means.specs.Ends.{Ends}
use Rattle.grain_means.specs.Rules.{function_back, is_stop, is_told, no_memory, position}
use Rattle.grain_means.specs.Worlds.{Callback, Failed, Frame, Go, InHost, Setup, World}
use Rattle.grain_means.specs.Causes.{AsksNext, AsksOn, BackAsks, HearsOf, HostFails, IsCalledBack, IsKeptOut, NativeBack, again, at_first, back_asked, back_start, inside, native_begins, of_native, parameters, question_back, reply_again, reply_to}
use Rattle.grain_means.proofs.Choices.{if_false}
use Rattle.grain_means.proofs.Moving.{placed_twice}
use Rattle.grain_means.proofs.Roles.{NativeFails}

-- a fault that has a position, or is given this one, is not moved by this one
placed_again : (p : Position) (x : Problem) →
    at_position_if_none p (at_position p x) ≡ at_position p x
placed_again p x = at (is_nowhere (position_of_problem (at_position p x))) where
  at : (b : Bool) → (if b then at_position p (at_position p x) else at_position p x) ≡ at_position p x
  at true = placed_twice p p x
  at false = refl

pub filled_twice : (p : Position) (x : Problem) →
    at_position_if_none p (at_position_if_none p x) ≡ at_position_if_none p x
filled_twice p x = by_position (is_nowhere (position_of_problem x)) refl where
  by_position : (b : Bool) → is_nowhere (position_of_problem x) ≡ b →
      at_position_if_none p (if b then at_position p x else x) ≡ (if b then at_position p x else x)
  by_position true e = placed_again p x
  by_position false e =
      if_false (λ (y : Problem). y ≡ x) (is_nowhere (position_of_problem x)) (at_position p x) x e refl

filled_here : (p : Position) (k : FaultKind) → at_position_if_none p (Plain k p) ≡ Plain k p
filled_here p k = placed_again p (Plain k p)

next_frame : {S : Type 0} (m : Setup S) {first : Callback} {start : World S} {c : Callback}
    {w : World S} → AsksNext m first start c w → c.frame ≡ first.frame
next_frame m at_first = refl
next_frame m (again next hears says clear later) = next_frame m next

same_frame : {S : Type 0} (m : Setup S) {first : Callback} {start : World S} {c : Callback}
    {w : World S} → AsksOn m first start c w → c.frame ≡ first.frame
same_frame m (of_native next) = next_frame m next
same_frame m (inside next b on) = same_frame m on ∙ next_frame m next

module _ {S : Type 0} (m : Setup S) {first : Callback} {start : World S} where
  -- the calls of a native that is called back ended in a fault, and it goes past that native
  pub fails_past : {c : Callback} {w : World S} {x : Problem} → AsksNext m first start c w →
      (b : BackAsks m c w) → NativeFails m (back_asked m b) (back_start m b) x → is_told x ≡ false →
      (u : World S) → Ends m (Go (InHost (back_asked m b)) (back_start m b)) (Failed x) u →
      (no_memory x ≡ true) ⊎ (is_stop m.stop u.passed ≡ false) → NativeFails m first start x
  fails_past next b (inl h) untold u ends passes = inl (record {
    callback = h.callback;
    world = h.world;
    on = inside next b h.on;
    why = h.why;
    goes = (h.goes, untold, u, ends, passes);
  })
  fails_past next b (inr l) untold u ends passes = inr (
    record {
      runs = record {
        callback = l.0.runs.callback;
        world = l.0.runs.world;
        on = inside next b l.0.runs.on;
        function = l.0.runs.function;
        is = l.0.runs.is;
        entered = l.0.runs.entered;
      };
      inner = l.0.inner;
      after = l.0.after;
      ends = l.0.ends;
      passes = l.0.passes;
      is = l.0.is;
      goes = (l.0.goes, untold, u, ends, passes);
    },
    l.1,
  )

  -- a fault that the host answered, or for which a call failed, has its position
  pub host_placed : {x : Problem} → HostFails m first start x →
      at_position_if_none (position m first.frame) x ≡ x
  host_placed {x = x} h =
      subst (λ (f : Frame). at_position_if_none (position m f) x ≡ x) (same_frame m h.on) (of_why h.why)
    where
      p : Position
      p = position m h.callback.frame

      of_kind : (k : FaultKind) → x ≡ Plain k p → at_position_if_none p x ≡ x
      of_kind k is = subst (λ (y : Problem). at_position_if_none p y ≡ y) (sym is) (filled_here p k)

      of_answer : (y : Problem) → x ≡ at_position_if_none p y → at_position_if_none p x ≡ x
      of_answer y is =
          subst (λ (z : Problem). at_position_if_none p z ≡ z) (sym is) (filled_twice p y)

      kept_out : (n : ℕ) (w : World S) → IsKeptOut m p n w x → at_position_if_none p x ≡ x
      kept_out n w (inl a) = of_kind _ a.2
      kept_out n w (inr (inl a)) = of_kind _ a.5
      kept_out n w (inr (inr (inl a))) = of_kind _ a.3
      kept_out n w (inr (inr (inr a))) = of_kind _ a.4

      of_why : IsKeptOut m p (parameters (function_back m.program m.engine.callbacks h.callback))
          h.world x
          ⊎ (((o : Outcome) × (u : World S) × (y : Problem) × HearsOf m h.callback h.world o u
          × (reply_again m h.callback o u ≡ reply.Failed y) × (is_stop m.stop u.passed ≡ false)
          × (is_stop m.stop (u.passed + 1) ≡ false) × (x ≡ at_position_if_none p y))
          ⊎ ((b : NativeBack m h.callback h.world) × (y : Problem) × IsCalledBack m b
          × (reply_to m (question_back m b) b.native.key ≡ reply.Failed y)
          × (is_stop m.stop ((native_begins m h.world).passed + 1 + 1) ≡ false)
          × (is_told x ≡ false) × (x ≡ at_position_if_none p y))) → at_position_if_none p x ≡ x
      of_why (inl a) =
          kept_out (parameters (function_back m.program m.engine.callbacks h.callback)) h.world a
      of_why (inr (inl a)) = of_answer a.2 a.7
      of_why (inr (inr a)) = of_answer a.1 a.6
