-- A call with a receiver that is over: the receiver is where it goes, and the end of the call is left.
use Rattle.std.proofs.Common.{◌≡◌, ◌+◌, ◌<◌, ◌≤◌, ℕ, zero, suc, List, [], ◌∷◌, Option, Some, None, true, false, Result, Err, length, refl, subst, arith}
use Rattle.std.specs.Prelude.{is_some}
use Rattle.grain_value.specs.Scopes.{set_held}
use Rattle.grain_value.specs.declared.memory.OutOfMemory.{OutOfMemory}
use Rattle.grain_value.specs.declared.scopes.Entry.{Entry}
use Rattle.grain_value.specs.declared.values.Held.{Held}
use Rattle.grain_fault.specs.Problems.{NoMemory, Problem}
use Rattle.grain_global.specs.StepsView.{StepsView}
use Rattle.grain_means.specs.Worlds.{Answer, Failed, Place, Setup}
use Rattle.grain_means.specs.Rules.{Destination, Nowhere, ToSlot, ToThis, call_over, held_at, leave_by_fault, no_memory, over_without_entry, receiver_over}
use Rattle.grain_means.specs.Simulation.{Binds, Computation, Environment, puts, stopped, world}
use Rattle.grain_means.specs.lemmas.PlaceLaws.{find-put}
use Rattle.grain_means.specs.lemmas.Stretches.{compose, same}
use Rattle.grain_frame.specs.Abstraction.{Implements, ImplementsBound, abstraction, frame_in, handlers_in, moment, this_of}
use Rattle.grain_frame.specs.Receivers.{with_newest}
use Rattle.grain_frame.specs.declared.activations.Activation.{Activation}
use Rattle.grain_frame.specs.declared.runs.Progress.{Progress}
use Rattle.grain_frame.specs.declared.runs.Run.{Run}
use Rattle.grain_frame.specs.lemmas.Bound.{as_bound, bound_as, bound_nowhere, while_bound}
use Rattle.grain_vm.specs.Receivers.{PutInThis, goes_nowhere, puts_so}
use Rattle.grain_vm.proofs.ChainEnds.{kept_over, lands_whole, newest_kept}
use Rattle.grain_vm.proofs.MethodEntries.{is_no_memory}
use Rattle.grain_vm.proofs.Offering.{memory_leaves}
use Rattle.grain_vm.proofs.Rooting.{newest_put}

-- past a scope there is no entry, and within it there is one
none_past : (es : List Entry) (i : ℕ) → length es ≤ i → held_at es i ≡ None
none_past [] i past = refl
none_past (e ∷ es) zero past = absurd (omega (arith, past))
none_past (e ∷ es) (suc i) past = none_past es i (omega (arith, past))

some_within : (es : List Entry) (i : ℕ) → i < length es → (h : Held) × (held_at es i ≡ Some h)
some_within [] i within = absurd (omega (arith, within))
some_within (e ∷ es) zero within = (e.held, refl)
some_within (e ∷ es) (suc i) within = some_within es i (omega (arith, within))

module _ {H : Type 0} (m : Setup H) (f f' : Activation) (s s' : Run H) (n n' : StepsView) (host : H)
    (next : ℕ) (h : Held) (a : Answer) (r : Result Progress OutOfMemory) where
  -- what ends the call did, from this run on
  abbrev pub Ended : Run H → Type 0
  Ended t =
      Implements m (moment f t n host) (λ q place w. call_over q next (frame_in f t place) a w)
      (next ∷ []) 0 1 t.stacks.handlers r (moment f' s' n' host)

  -- the call is over
  abbrev pub Over : Destination → Type 0
  Over d =
      ImplementsBound m (moment f s n host)
      (λ q place w. receiver_over q d next (frame_in f s place) h a w)
      (next ∷ []) 0 1 s.stacks.handlers r (moment f' s' n' host)

  -- the receiver goes nowhere, whatever its destination
  pub over_dropped : (d : Destination) → goes_nowhere h ≡ true → Ended s → Over d
  over_dropped d nowhere does = bound_as (as_bound does) (λ stop u place bound. rw nowhere refl)

  module _ (goes : goes_nowhere h ≡ false) where
    -- it has no destination
    pub over_nowhere : Ended s → Over Nowhere
    over_nowhere does = bound_as (as_bound does) (λ stop u place bound. rw goes refl)

    -- its entry is not there
    pub over_past : (slot : ℕ) → length s.scope ≤ f.base + slot →
        Implements m (moment f s n host)
        (λ q place w. over_without_entry q (f.base + slot) next (frame_in f s place) a w) (next ∷ []) 0 1
        s.stacks.handlers r (moment f' s' n' host) → Over (ToSlot slot)
    over_past slot past does =
        bound_as (as_bound does)
        (λ stop u place bound. rw (goes, none_past s.scope (f.base + slot) past) refl)

    -- it is in its entry
    pub over_entry : (slot : ℕ) (s1 : Run H) → f.base + slot < length s.scope →
        s1 ≡ record s { scope = set_held s.scope (f.base + slot) h } → Ended s1 → Over (ToSlot slot)
    over_entry slot s1 there is does =
        let t : Run H = record s { scope = set_held s.scope (f.base + slot) h } in
        let here = subst Ended is does in
        let before = some_within s.scope (f.base + slot) there in
        record {
          same = compose {one = false}
              (same (record {
                this = refl;
                order = omega arith;
                equal = λ stop clear halts u place. rw (goes, before.1) refl;
              }))
              (same here.same) tt;
          kept = kept_over f f' s t s' refl refl refl refl (refl, refl) here.kept;
          lands = lands_whole m.engine s t s' f f f' (next ∷ []) 0 r (omega arith) refl (omega arith)
              refl refl here.lands;
          before = here.before;
        }

    -- it is what the frame's `this` holds, if there is one
    pub over_this : (s1 : Run H) → PutInThis h.value s s1 → Ended s1 → Over ToThis
    over_this s1 put does = by (this_of s) refl put where
      in_place : (g : Held) (o now : Option Held) (u : Environment) (place : Option Place) (stop : Option ℕ) →
          o ≡ Some g → now ≡ Some (record g { value = h.value }) → Binds u.roots place o →
          Binds (puts u.roots place now) place now
          × (receiver_over (stopped m stop) ToThis next (frame_in f s place) h a
          (world (abstraction s n host) u)
          ≡ call_over (stopped m stop) next (frame_in f s place) a
          (world (abstraction s n host) (record u { roots = puts u.roots place now })))
      in_place g o now u None stop is new bound =
          absurd (subst (λ (x : Option Held). Binds u.roots None x) is bound)
      in_place g o now u (Some p) stop is new bound =
          let found = subst (λ (x : Option Held). Binds u.roots (Some p) x) is bound in
          rw new (find-put u.roots p g h.value found, rw goes refl)

      by : (o : Option Held) → this_of s ≡ o → puts_so h.value s s1 o → Over ToThis
      by None is put =
          let here = subst Ended put does in
          bound_as (as_bound here)
          (λ stop u place bound. rw (goes, bound_nowhere u.roots place (this_of s) is bound) refl)
      by (Some g) is put =
          let k : Held = record g { value = h.value } in
          let t : Run H = record s { receivers = with_newest k s.receivers } in
          let here = subst Ended put does in
          let there : is_some (this_of s) ≡ true = rw is refl in
          record {
            same = compose {one = false}
                (while_bound {old = abstraction s n host} {new = abstraction t n host} (omega arith)
                (λ stop clear halts u place bound.
                in_place g (this_of s) (this_of t) u place stop is
                (newest_put s.level s.receivers k there) bound))
                (same here.same) tt;
            kept = kept_over f f' s t s' refl refl refl refl (newest_kept s.level s.receivers k there)
                here.kept;
            lands = lands_whole m.engine s t s' f f f' (next ∷ []) 0 r (omega arith) refl (omega arith)
                refl refl here.lands;
            before = here.before;
          }

-- ---- memory ran out

module _ {H : Type 0} (m : Setup H) (f : Activation) (s : Run H) (n : StepsView) (host : H) (next : ℕ)
    (inside : f.base ≤ length s.scope) (x : Problem) (want : no_memory x ≡ true) (e : OutOfMemory) where
  -- a rule that is then a way out
  pub leaves : {rule : Computation H} → ((stop : Option ℕ) (u : Environment) (place : Option Place) →
      rule (stopped m stop) place (world (abstraction s n host) u)
      ≡ leave_by_fault (stopped m stop) (frame_in f s place) NoMemory (world (abstraction s n host) u)) →
      Implements m (moment f s n host) rule (next ∷ []) 0 1 s.stacks.handlers (Err e)
      (moment f s n host)
  leaves out = record {
    same = record {
      this = refl;
      order = omega arith;
      equal = λ stop clear halts u place. out stop u place;
    };
    kept = record {
      chunk = refl;
      base = refl;
      scope = inside;
      room = refl;
      noted = refl;
      outer = refl;
      saved = refl;
      level = refl;
      this = (refl, refl);
      later = omega arith;
    };
    lands = tt;
    before = refl;
  }

  -- a call that wants memory is over
  pub over_wanted : Implements m (moment f s n host)
      (λ q place w. call_over q next (frame_in f s place) (Failed x) w) (next ∷ []) 0 1
      s.stacks.handlers (Err e) (moment f s n host)
  over_wanted = leaves (λ stop u place. rw (is_no_memory x want) (memory_leaves (stopped m stop)
      (handlers_in s.stacks.handlers) (frame_in f s place) (world (abstraction s n host) u)))

  -- the same where there is no entry for its receiver
  pub past_wanted : (index : ℕ) → Implements m (moment f s n host)
      (λ q place w. over_without_entry q index next (frame_in f s place) (Failed x) w) (next ∷ []) 0 1
      s.stacks.handlers (Err e) (moment f s n host)
  past_wanted index = leaves (λ stop u place. rw (is_no_memory x want) (memory_leaves (stopped m stop)
      (handlers_in s.stacks.handlers) (frame_in f s place) (world (abstraction s n host) u)))
