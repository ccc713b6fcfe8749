-- What the tests say that compare handlers.
use Rattle.std.proofs.Common.{◌≡◌, ℕ, Bool, true, false, cond, List, [], ◌∷◌, Option, Some, None, refl, ap, ◌∙◌}
use Rattle.std.specs.Prelude.{◌==◌, ◌&&◌}
use Rattle.std.proofs.lemmas.Bool.{eqb-true, eq-eqb}
use Rattle.grain_program.specs.declared.verifier.refusals.Refusal.TheVariants as refusal
use Rattle.grain_program.specs.Shapes.{TryHandler, Shape, same_variable, same_handler, same_handlers, clash}

-- both tests passed
pub both_true : (a b : Bool) → (a && b) ≡ true → (a ≡ true) × (b ≡ true)
both_true true b e = (refl, e)
both_true false b e = absurd cc

pub and_true : (a b : Bool) → a ≡ true → b ≡ true → (a && b) ≡ true
and_true a b e f = ap (λ (x : Bool). x && b) e ∙ f

variables_same : (x y : Option ℕ) → same_variable x y ≡ true → x ≡ y
variables_same None None e = refl
variables_same None (Some n) e = absurd cc
variables_same (Some m) None e = absurd cc
variables_same (Some m) (Some n) e = ap (λ (k : ℕ). Some k) (eqb-true m n e)

variable_self : (x : Option ℕ) → same_variable x x ≡ true
variable_self None = refl
variable_self (Some n) = eq-eqb n n refl

abbrev handler : ℕ → Option ℕ → ℕ → ℕ → TryHandler
handler target variable height cursors =
    record { target = target; variable = variable; height = height; cursors = cursors }

handler_same : (g h : TryHandler) → same_handler g h ≡ true → g ≡ h
handler_same g h e =
    let first =
    both_true (g.target == h.target) (same_variable g.variable h.variable
    && ((g.height == h.height) && (g.cursors == h.cursors))) e in
    let rest =
    both_true (same_variable g.variable h.variable) ((g.height == h.height)
    && (g.cursors == h.cursors)) first.1 in
    let last = both_true (g.height == h.height) (g.cursors == h.cursors) rest.1 in
    ap (λ (x : ℕ). handler x g.variable g.height g.cursors) (eqb-true g.target h.target first.0)
    ∙ ap (λ (x : Option ℕ). handler h.target x g.height g.cursors)
    (variables_same g.variable h.variable rest.0)
    ∙ ap (λ (x : ℕ). handler h.target h.variable x g.cursors)
    (eqb-true g.height h.height last.0)
    ∙ ap (λ (x : ℕ). handler h.target h.variable h.height x)
    (eqb-true g.cursors h.cursors last.1)

handler_self : (h : TryHandler) → same_handler h h ≡ true
handler_self h =
    and_true (h.target == h.target) (same_variable h.variable h.variable
    && ((h.height == h.height) && (h.cursors == h.cursors)))
    (eq-eqb h.target h.target refl)
    (and_true (same_variable h.variable h.variable) ((h.height == h.height)
    && (h.cursors == h.cursors)) (variable_self h.variable)
    (and_true (h.height == h.height) (h.cursors == h.cursors) (eq-eqb h.height h.height refl)
    (eq-eqb h.cursors h.cursors refl)))

-- lists that pass the test are one
pub handlers_same : (gs hs : List TryHandler) → same_handlers gs hs ≡ true → gs ≡ hs
handlers_same [] [] e = refl
handlers_same [] (h ∷ hs) e = absurd cc
handlers_same (g ∷ gs) [] e = absurd cc
handlers_same (g ∷ gs) (h ∷ hs) e =
    let both = both_true (same_handler g h) (same_handlers gs hs) e in
    ap (λ (x : TryHandler). x ∷ gs) (handler_same g h both.0)
    ∙ ap (λ (xs : List TryHandler). h ∷ xs) (handlers_same gs hs both.1)

-- a list passes the test against itself
pub handlers_self : (hs : List TryHandler) → same_handlers hs hs ≡ true
handlers_self [] = refl
handlers_self (h ∷ hs) =
    and_true (same_handler h h) (same_handlers hs hs) (handler_self h) (handlers_self hs)

-- where the numbers of operands and of cursors agree, the handlers decide
pub clash_even : (a : ℕ) (s t : Shape) (b : Bool) → s.height ≡ t.height → s.cursors ≡ t.cursors
    → same_handlers s.handlers t.handlers ≡ b
    → clash a s t ≡ cond b None (Some (refusal.HandlerDisagrees a))
clash_even a s t b e g f =
    ap (λ (x : Bool). cond x (cond (same_handlers s.handlers t.handlers) None
    (Some (refusal.HandlerDisagrees a))) (Some (refusal.HeightDisagrees a)))
    (and_true (s.height == t.height) (s.cursors == t.cursors) (eq-eqb s.height t.height e)
    (eq-eqb s.cursors t.cursors g))
    ∙ ap (λ (x : Bool). cond x None (Some (refusal.HandlerDisagrees a))) f
