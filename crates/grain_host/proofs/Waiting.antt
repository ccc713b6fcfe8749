-- The calls that wait, of which one is changed or gone.
use Rattle.std.proofs.Common.{◌≡◌, ◌<◌, ℕ, zero, suc, Bool, true, false, List, [], ◌∷◌, Option, Some, None, option_map, length, refl, sym, ap, ◌∙◌, arith, subst, if◌then◌else◌}
use Rattle.std.specs.Prelude.{remove, slice_get, slice_index_or, slice_set}
use Rattle.grain_value.specs.declared.values.Dynamic.{Dynamic}
use Rattle.grain_host.specs.Pending.{answered, renewed}
use Rattle.grain_host.specs.declared.pending_calls.PendingCall.{PendingCall}

changed : (f : PendingCall → PendingCall) (ps : List PendingCall) (i : ℕ) (p : PendingCall) →
    i < length ps → p ≡ slice_index_or ps i p → slice_set ps i (f p) ≡ renewed i f ps
changed f [] i p h e = absurd (omega (arith, h))
changed f (q ∷ ps) zero p h e = ap (λ r. f r ∷ ps) e
changed f (q ∷ ps) (suc i) p h e =
    ap (λ rs. q ∷ rs) (changed f ps i p (omega (arith, h)) e)

same : (ps : List PendingCall) (i : ℕ) (p : PendingCall) → i < length ps →
    p ≡ slice_index_or ps i p → slice_set ps i p ≡ ps
same [] i p h e = absurd (omega (arith, h))
same (q ∷ ps) zero p h e = ap (λ r. r ∷ ps) e
same (q ∷ ps) (suc i) p h e = ap (λ rs. q ∷ rs) (same ps i p (omega (arith, h)) e)

-- the one at the place is as it was, or changed
written : (done : Bool) (f : PendingCall → PendingCall) (ps : List PendingCall) (i : ℕ)
    (p q : PendingCall) → i < length ps → p ≡ slice_index_or ps i p →
    q ≡ (if done then f p else p) →
    slice_set ps i q ≡ (if done then renewed i f ps else ps)
written true f ps i p q h e is = ap (slice_set ps i) is ∙ changed f ps i p h e
written false f ps i p q h e is = ap (slice_set ps i) is ∙ same ps i p h e

pub written_there : (done : Bool) (f : PendingCall → PendingCall) (xs ps : List PendingCall) (i : ℕ)
    (p q : PendingCall) → xs ≡ ps → i < length ps → p ≡ slice_index_or xs i p →
    q ≡ (if done then f p else p) →
    slice_set xs i q ≡ (if done then renewed i f ps else ps)
written_there done f xs ps i p q same h e is =
    ap (λ (ks : List PendingCall). slice_set ks i q) same ∙ written done f ps i p q h
    (subst (λ (ks : List PendingCall). p ≡ slice_index_or ks i p) same e) is

as_long : (f : PendingCall → PendingCall) (ps : List PendingCall) (i : ℕ) →
    length (renewed i f ps) ≡ length ps
as_long f [] i = refl
as_long f (p ∷ ps) zero = refl
as_long f (p ∷ ps) (suc i) = ap suc (as_long f ps i)

-- what was changed is there, and its place is as it was once it is gone
pub still_there : (f : PendingCall → PendingCall) (ps qs : List PendingCall) (i : ℕ) →
    i < length ps → qs ≡ renewed i f ps → i < length qs
still_there f ps qs i h is = omega (arith, h, as_long f ps i, ap length is)

get_changed : (f : PendingCall → PendingCall) (ps : List PendingCall) (i : ℕ) →
    slice_get (renewed i f ps) i ≡ option_map f (slice_get ps i)
get_changed f [] i = refl
get_changed f (p ∷ ps) zero = refl
get_changed f (p ∷ ps) (suc i) = get_changed f ps i

remove_changed : (f : PendingCall → PendingCall) (ps : List PendingCall) (i : ℕ) →
    remove (renewed i f ps) i ≡ remove ps i
remove_changed f [] i = refl
remove_changed f (p ∷ ps) zero = refl
remove_changed f (p ∷ ps) (suc i) = ap (λ rs. p ∷ rs) (remove_changed f ps i)

pub gone_there : (f : PendingCall → PendingCall) (ps qs rs : List PendingCall) (i : ℕ) →
    qs ≡ renewed i f ps → rs ≡ remove qs i → rs ≡ remove ps i
gone_there f ps qs rs i is gone =
    gone ∙ ap (λ (ks : List PendingCall). remove ks i) is ∙ remove_changed f ps i

by_answers : (v : Dynamic) (o : Option PendingCall) (r : PendingCall) →
    option_map (answered 0 v) o ≡ Some r →
    option_map (λ call. (answered 0 v call).answers) o ≡ Some r.answers
by_answers v None r e = absurd cc
by_answers v (Some p) r e = ap (option_map (λ (q : PendingCall). q.answers)) e

pub last_there : (v : Dynamic) (ps qs : List PendingCall) (i : ℕ) (r : PendingCall) →
    qs ≡ renewed i (answered 0 v) ps → slice_get qs i ≡ Some r →
    option_map (λ call. (answered 0 v call).answers) (slice_get ps i) ≡ Some r.answers
last_there v ps qs i r is got =
    by_answers v (slice_get ps i) r
    (sym (get_changed (answered 0 v) ps i)
    ∙ sym (ap (λ (ks : List PendingCall). slice_get ks i) is) ∙ got)
