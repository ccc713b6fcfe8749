-- What an instruction does to a shape, and where two shapes meet.
use Rattle.std.proofs.Common.{◌≡◌, ℕ, ◌-◌, ◌≤◌, Bool, true, false, cond, List, Option, Some, None, Result, Ok, Err, refl, ap, ◌∙◌}
use Rattle.std.specs.Prelude.{◌==◌, ◌&&◌, ◌||◌, nat_lt}
use Rattle.std.proofs.lemmas.Bool.{eqb-true, eq-eqb, ltb-false, le-ltb}
use Rattle.grain_program.specs.declared.code.effects.Effect.{Effect}
use Rattle.grain_program.specs.declared.verifier.refusals.Refusal.{Refusal}
use Rattle.grain_program.specs.declared.verifier.refusals.Refusal.TheVariants as refusal
use Rattle.grain_program.specs.Effects.{cursors_taken}
use Rattle.grain_program.specs.Shapes.{TryHandler, Shape, shape, height_after, after, lacks_handler, goes_under, shape_after, same_handlers, clash}
use Rattle.grain_program.specs.Typing.{◌>>=◌}
use Rattle.grain_program.proofs.SameHandlers.{both_true, and_true, handlers_same, handlers_self}

pub then_ok : {A B : Type 0} (r : Result A Refusal) (f : A → Result B Refusal) (y : B)
    → (r >>= f) ≡ Ok y → (x : A) × (r ≡ Ok x) × (f x ≡ Ok y)
then_ok (Ok x) f y e = (x, refl, e)
then_ok (Err d) f y e = absurd cc

-- what an instruction leaves that has enough operands, cursors and handlers and does not leave too
-- many operands
pub record Stepped (max : ℕ) (e : Effect) (s t : Shape) : Type 0 where
  pub enough : e.takes ≤ s.height
  pub cursor : cursors_taken e.looping ≤ s.cursors
  pub handler : lacks_handler e.handling s.handlers ≡ false
  pub above : goes_under e s ≡ false
  pub room : height_after e s ≤ max
  pub is : after e s ≡ t

-- the tests of an instruction, by what they say
abbrev tested : ℕ → Effect → Shape → Bool → Bool → Bool → Bool → Bool → Result Shape Refusal
tested a e s few none lacks under deep =
    cond (few || (none || lacks)) (Err (refusal.Underflow a)) (cond under (Err (refusal.UnderTry a))
    (cond deep (Err (refusal.TooDeep a)) (Ok (after e s))))

pub stepped_is : (max a : ℕ) (e : Effect) (s t : Shape) → shape_after max a e s ≡ Ok t
    → Stepped max e s t
stepped_is max a e s t k =
    at (nat_lt s.height e.takes) (nat_lt s.cursors (cursors_taken e.looping))
    (lacks_handler e.handling s.handlers) (goes_under e s) (nat_lt max (height_after e s)) refl refl
    refl refl refl k
  where
    at : (few none lacks under deep : Bool) → nat_lt s.height e.takes ≡ few
        → nat_lt s.cursors (cursors_taken e.looping) ≡ none
        → lacks_handler e.handling s.handlers ≡ lacks
        → goes_under e s ≡ under → nat_lt max (height_after e s) ≡ deep
        → tested a e s few none lacks under deep ≡ Ok t → Stepped max e s t
    at true none lacks under deep f n l u d x = absurd cc
    at false true lacks under deep f n l u d x = absurd cc
    at false false true under deep f n l u d x = absurd cc
    at false false false true deep f n l u d x = absurd cc
    at false false false false true f n l u d x = absurd cc
    at false false false false false f n l u d x = record {
      enough = ltb-false s.height e.takes f;
      cursor = ltb-false s.cursors (cursors_taken e.looping) n;
      handler = l;
      above = u;
      room = ltb-false max (height_after e s) d;
      is = cc;
    }

pub stepped_ok : (max a : ℕ) (e : Effect) (s : Shape) → e.takes ≤ s.height
    → cursors_taken e.looping ≤ s.cursors
    → lacks_handler e.handling s.handlers ≡ false
    → goes_under e s ≡ false → height_after e s ≤ max
    → shape_after max a e s ≡ Ok (after e s)
stepped_ok max a e s le some handler above room =
    ap (λ (b : Bool). tested a e s b (nat_lt s.cursors (cursors_taken e.looping))
    (lacks_handler e.handling s.handlers) (goes_under e s) (nat_lt max (height_after e s)))
    (le-ltb s.height e.takes le)
    ∙ ap (λ (b : Bool). tested a e s false b (lacks_handler e.handling s.handlers) (goes_under e s)
    (nat_lt max (height_after e s))) (le-ltb s.cursors (cursors_taken e.looping) some)
    ∙ ap (λ (b : Bool). tested a e s false false b (goes_under e s) (nat_lt max (height_after e s)))
    handler
    ∙ ap (λ (b : Bool). tested a e s false false false b (nat_lt max (height_after e s))) above
    ∙ ap (λ (b : Bool). tested a e s false false false false b)
    (le-ltb max (height_after e s) room)

one_shape : (s t : Shape) → s.height ≡ t.height → s.cursors ≡ t.cursors
    → s.handlers ≡ t.handlers → s ≡ t
one_shape s t e f g =
    ap (λ (h : ℕ). shape h s.cursors s.handlers) e
    ∙ ap (λ (n : ℕ). shape t.height n s.handlers) f
    ∙ ap (λ (hs : List TryHandler). shape t.height t.cursors hs) g

-- what is wrong, by what the tests say
abbrev clashing : ℕ → Bool → Bool → Option Refusal
clashing b even same =
    cond even (cond same None (Some (refusal.HandlerDisagrees b)))
    (Some (refusal.HeightDisagrees b))

pub clash_none : (b : ℕ) (t s : Shape) → clash b t s ≡ None → t ≡ s
clash_none b t s e =
    at ((t.height == s.height) && (t.cursors == s.cursors)) (same_handlers t.handlers s.handlers)
    refl refl e where
      at : (x y : Bool) → ((t.height == s.height) && (t.cursors == s.cursors)) ≡ x
          → same_handlers t.handlers s.handlers ≡ y
          → clashing b x y ≡ None → t ≡ s
      at true true h k q =
          let both = both_true (t.height == s.height) (t.cursors == s.cursors) h in
          one_shape t s (eqb-true t.height s.height both.0) (eqb-true t.cursors s.cursors both.1)
          (handlers_same t.handlers s.handlers k)
      at true false h k q = absurd cc
      at false y h k q = absurd cc

pub clash_self : (b : ℕ) (s : Shape) → clash b s s ≡ None
clash_self b s =
    ap (λ (x : Bool). clashing b x (same_handlers s.handlers s.handlers))
    (and_true (s.height == s.height) (s.cursors == s.cursors) (eq-eqb s.height s.height refl)
    (eq-eqb s.cursors s.cursors refl))
    ∙ ap (clashing b true) (handlers_self s.handlers)
