-- Nodes as the keys of a map: those at one place in the order are one.
use Rattle.std.proofs.Common.{◌≡◌, ℕ, ◌<◌, Bool, true, Option, Some, None, refl, sym, ap, ◌∙◌, arith}
use Rattle.std.specs.Prelude.{◌&&◌}
use Rattle.std.specs.Ordering.{nat_cmp, is_eq, ordering_then, MatchOrdering}
use Rattle.std.specs.Option.{option_cmp}
use Rattle.std.specs.declared.cmp.Ordering.{Ordering}
use Rattle.std.specs.declared.cmp.Ordering.TheVariants.{Less, Equal, Greater}
use Rattle.std.specs.Cmp.{tied_then}
use Rattle.std.proofs.lemmas.Cmp.{ranked}
use Rattle.grain_program.specs.declared.verifier.handlers.Node.{Node}
use Rattle.grain_program.specs.HandlerLists.{node_cmp}
use Rattle.grain_program.proofs.SameHandlers.{both_true}

numbers_tied : (a b : ℕ) → is_eq (nat_cmp a b) ≡ true → a ≡ b
numbers_tied a b e = at (nat_cmp a b) (ranked a b (nat_cmp a b) refl) e where
  at : (o : Ordering) → MatchOrdering o (a < b) (a ≡ b) (b < a) → is_eq o ≡ true → a ≡ b
  at Less h e = absurd cc
  at Equal h e = h
  at Greater h e = absurd cc

number_tied : (a : ℕ) → is_eq (nat_cmp a a) ≡ true
number_tied a = at (nat_cmp a a) (ranked a a (nat_cmp a a) refl) where
  at : (o : Ordering) → MatchOrdering o (a < a) (a ≡ a) (a < a) → is_eq o ≡ true
  at Less h = absurd (omega (arith, h))
  at Equal h = refl
  at Greater h = absurd (omega (arith, h))

variables_tied : (x y : Option ℕ) → is_eq (option_cmp nat_cmp x y) ≡ true → x ≡ y
variables_tied None None e = refl
variables_tied None (Some n) e = absurd cc
variables_tied (Some m) None e = absurd cc
variables_tied (Some m) (Some n) e = ap (λ (k : ℕ). Some k) (numbers_tied m n e)

variable_tied : (x : Option ℕ) → is_eq (option_cmp nat_cmp x x) ≡ true
variable_tied None = refl
variable_tied (Some n) = number_tied n

then_tied : (a b : Ordering) → is_eq (ordering_then a b) ≡ true
    → (is_eq a ≡ true) × (is_eq b ≡ true)
then_tied a b e = both_true (is_eq a) (is_eq b) (tied_then a b ∙ e)

tied_both : (a b : Ordering) → is_eq a ≡ true → is_eq b ≡ true
    → is_eq (ordering_then a b) ≡ true
tied_both a b e f = sym (tied_then a b) ∙ ap (λ (x : Bool). x && is_eq b) e ∙ f

abbrev pub node : ℕ → ℕ → Option ℕ → ℕ → ℕ → Node
node outer target variable height cursors = record {
  outer = outer;
  target = target;
  variable = variable;
  height = height;
  cursors = cursors;
}

-- the order of the parts of nodes that come after the others
abbrev last_cmp : Node → Node → Ordering
last_cmp m n = ordering_then (nat_cmp m.height n.height) (nat_cmp m.cursors n.cursors)

-- nodes at one place in the order are one
pub nodes_tied : (m n : Node) → is_eq (node_cmp m n) ≡ true → m ≡ n
nodes_tied m n e =
    let a =
    then_tied (nat_cmp m.outer n.outer) (ordering_then (nat_cmp m.target n.target)
    (ordering_then (option_cmp nat_cmp m.variable n.variable) (last_cmp m n))) e in
    let b =
    then_tied (nat_cmp m.target n.target) (ordering_then (option_cmp nat_cmp m.variable n.variable)
    (last_cmp m n)) a.1 in
    let c = then_tied (option_cmp nat_cmp m.variable n.variable) (last_cmp m n) b.1 in
    let d = then_tied (nat_cmp m.height n.height) (nat_cmp m.cursors n.cursors) c.1 in
    ap (λ (x : ℕ). node x m.target m.variable m.height m.cursors)
    (numbers_tied m.outer n.outer a.0)
    ∙ ap (λ (x : ℕ). node n.outer x m.variable m.height m.cursors)
    (numbers_tied m.target n.target b.0)
    ∙ ap (λ (x : Option ℕ). node n.outer n.target x m.height m.cursors)
    (variables_tied m.variable n.variable c.0)
    ∙ ap (λ (x : ℕ). node n.outer n.target n.variable x m.cursors)
    (numbers_tied m.height n.height d.0)
    ∙ ap (λ (x : ℕ). node n.outer n.target n.variable n.height x)
    (numbers_tied m.cursors n.cursors d.1)

pub node_tied : (n : Node) → is_eq (node_cmp n n) ≡ true
node_tied n =
    tied_both (nat_cmp n.outer n.outer) (ordering_then (nat_cmp n.target n.target)
    (ordering_then (option_cmp nat_cmp n.variable n.variable) (last_cmp n n)))
    (number_tied n.outer)
    (tied_both (nat_cmp n.target n.target) (ordering_then (option_cmp nat_cmp n.variable n.variable)
    (last_cmp n n)) (number_tied n.target)
    (tied_both (option_cmp nat_cmp n.variable n.variable) (last_cmp n n)
    (variable_tied n.variable)
    (tied_both (nat_cmp n.height n.height) (nat_cmp n.cursors n.cursors) (number_tied n.height)
    (number_tied n.cursors))))
