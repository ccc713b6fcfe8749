-- The laws of paths: what was put is there, a second put hides the first, and to put back what is
-- there changes nothing.
use Rattle.std.proofs.Common.{◌≡◌, ℕ, List, [], ◌∷◌, length, set, Some, Ok, is_ok, zero, suc, Bool, true, false, cond, refl, sym, ap, ◌∙◌}
use Rattle.std.specs.List.{slice_get}
use Rattle.std.specs.Map.{set_value, lookup}
use Rattle.std.proofs.lemmas.Map.Steps.{set_value_same}
use Rattle.grain_value.specs.Tree.{Tree, array, dict, pack, pack_fields, unpack, unpack_fields}
use Rattle.grain_value.specs.laws.Same.{unpack-pack, pack-unpack, unpack-pack_fields, pack-unpack_fields}
use Rattle.grain_value.specs.Paths.{at, put, child, set_child, set_entry, element, keyed, Leads}
use Rattle.grain_value.specs.laws.PathSteps.{child-array, child-dict, at-step, put-step, leads-step, leads-found, element_found, keyed_found}
use Rattle.grain_value.specs.declared.values.paths.PathStep.{PathStep}
use Rattle.grain_value.specs.declared.values.paths.PathStep.TheVariants.{Index, Key}

-- at a list's index
get-set : (ts : List Tree) (i : ℕ) (c d : Tree) → slice_get ts i ≡ Some c →
    slice_get (set ts i d) i ≡ Some d
get-set [] i c d h = cc
get-set (t ∷ ts) zero c d h = refl
get-set (t ∷ ts) (suc i) c d h = get-set ts i c d h

set-set : (ts : List Tree) (i : ℕ) (c d : Tree) → set (set ts i c) i d ≡ set ts i d
set-set [] i c d = refl
set-set (t ∷ ts) zero c d = refl
set-set (t ∷ ts) (suc i) c d = ap (λ l. t ∷ l) (set-set ts i c d)

set-get : (ts : List Tree) (i : ℕ) (c : Tree) → slice_get ts i ≡ Some c → set ts i c ≡ ts
set-get [] i c h = refl
set-get (t ∷ ts) zero c h = cc
set-get (t ∷ ts) (suc i) c h = ap (λ l. t ∷ l) (set-get ts i c h)

-- at a key
module _ {K X : Type 0} (test : K → Bool) where
  lookup-turn : (e : K × X) (es : List (K × X)) (c d : X) (b : Bool) → test e.0 ≡ b →
      (lookup test es ≡ Some c → lookup test (set_value test es d) ≡ Some d)
      → cond b (Some e.1) (lookup test es) ≡ Some c → lookup test (cond b ((e.0, d) ∷ es) (e ∷
      set_value test es d)) ≡ Some d
  lookup-turn e es c d true q below h = ap (λ b. cond b (Some d) (lookup test es)) q
  lookup-turn e es c d false q below h = ap (λ b. cond b (Some e.1) (lookup test (set_value test es
      d))) q ∙ below h

  lookup-set : (es : List (K × X)) (c d : X) → lookup test es ≡ Some c →
      lookup test (set_value test es d) ≡ Some d
  lookup-set [] c d h = cc
  lookup-set (e ∷ es) c d h = lookup-turn e es c d (test e.0) refl (lookup-set es c d) h

  twice-turn : (e : K × X) (es : List (K × X)) (c d : X) (b : Bool) → test e.0 ≡ b →
      set_value test (set_value test es c) d ≡ set_value test es d
      → set_value test (cond b ((e.0, c) ∷ es) (e ∷ set_value test es c)) d ≡ cond b ((e.0, d) ∷ es)
      (e ∷ set_value test es d)
  twice-turn e es c d true q below = ap (λ b. cond b ((e.0, d) ∷ es) ((e.0, c) ∷ set_value test es
      d)) q
  twice-turn e es c d false q below = ap (λ b. cond b ((e.0, d) ∷ set_value test es c) (e ∷
      set_value test (set_value test es c) d)) q ∙ ap (λ l. e ∷ l) below

  set_value-twice : (es : List (K × X)) (c d : X) → set_value test (set_value test es c) d ≡
      set_value test es d
  set_value-twice [] c d = refl
  set_value-twice (e ∷ es) c d = twice-turn e es c d (test e.0) refl (set_value-twice es c d)

-- one step down
child-set : (s : PathStep) (t c d : Tree) → child s t ≡ Ok c → child s (set_child s d t) ≡ Ok d
child-set (Index i) (array ts) c d h =
    child-array (set (unpack ts) i d) i ∙ ap (λ o. element o (length (set (unpack ts) i d)) i)
    (get-set (unpack ts) i c d (element_found _ _ _ _ h))
child-set (Key k) (dict es) c d h = child-dict (set_entry k d (unpack_fields es)) k
    ∙ ap keyed (lookup-set _ (unpack_fields es) c d (keyed_found _ _ h))
child-set s t c d h = cc

set_child-twice : (s : PathStep) (t c d : Tree) → set_child s d (set_child s c t) ≡ set_child s d t
set_child-twice (Index i) (array ts) c d = ap (λ l. array (pack (set l i d))) (unpack-pack (set
    (unpack ts) i c)) ∙ ap (λ l. array (pack l)) (set-set (unpack ts) i c d)
set_child-twice (Key k) (dict es) c d =
    ap (λ l. dict (pack_fields (set_entry k d l))) (unpack-pack_fields (set_entry k c (unpack_fields
    es))) ∙ ap (λ l. dict (pack_fields l)) (set_value-twice _ (unpack_fields es) c d)
set_child-twice s t c d = refl

set_child-same : (s : PathStep) (t c : Tree) → child s t ≡ Ok c → set_child s c t ≡ t
set_child-same (Index i) (array ts) c h = ap (λ l. array (pack l)) (set-get (unpack ts) i c
    (element_found _ _ _ _ h)) ∙ ap array (pack-unpack ts)
set_child-same (Key k) (dict es) c h = ap (λ l. dict (pack_fields l)) (set_value_same _
    (unpack_fields es) c (keyed_found _ _ h)) ∙ ap dict (pack-unpack_fields es)
set_child-same s t c h = refl

pub at-put : (p : List PathStep) (t new : Tree) → Leads p t → at p (put p new t) ≡ Ok new
at-put [] t new l = refl
at-put (s ∷ p) t new l =
    let f = leads-found s p t l in
    ap (at (s ∷ p)) (put-step s p new t f.0 f.1) ∙ at-step s p (set_child s (put p new f.0) t) (put
    p new f.0) (child-set s t f.0 (put p new f.0) f.1)
    ∙ at-put p f.0 new (leads-step s p t f.0 f.1 l)

pub put-put : (p : List PathStep) (t a b : Tree) → Leads p t → put p b (put p a t) ≡ put p b t
put-put [] t a b l = refl
put-put (s ∷ p) t a b l =
    let f = leads-found s p t l in
    let below : Tree = put p a f.0 in
    ap (put (s ∷ p) b) (put-step s p a t f.0 f.1) ∙ put-step s p b (set_child s below t) below
    (child-set s t f.0 below f.1)
    ∙ set_child-twice s t below (put p b below) ∙ ap (λ c. set_child s c t) (put-put p f.0 a b
    (leads-step s p t f.0 f.1 l)) ∙ sym (put-step s p b t f.0 f.1)

pub put-at : (p : List PathStep) (t c : Tree) → at p t ≡ Ok c → put p c t ≡ t
put-at [] t c h = cc
put-at (s ∷ p) t c h =
    let f = leads-found s p t (ap is_ok h) in
    put-step s p c t f.0 f.1 ∙ ap (λ d. set_child s d t) (put-at p f.0 c (sym (at-step s p t f.0
    f.1) ∙ h)) ∙ set_child-same s t f.0 f.1
