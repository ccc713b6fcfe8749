-- What is kept of a scope: the names below a base, whatever is written, pushed or cut above it.
use Rattle.std.proofs.Common.{◌≡◌, ◌≤◌, ◌∙◌, ℕ, zero, suc, Option, Some, None, List, [], ◌∷◌, ◌++◌, length, take, refl, ap, arith}
use Rattle.std.proofs.lemmas.List.{take-append-le, length-take, length-append}
use Rattle.std.proofs.Math.Seq.{take-length}
use Rattle.grain_value.specs.declared.values.Held.{Held}
use Rattle.grain_value.specs.declared.scopes.Entry.{Entry}
use Rattle.grain_value.specs.Scopes.{set_held}
use Rattle.grain_value.specs.Tree.{Tree}
use Rattle.grain_host.specs.Law.{Law}
use Rattle.grain_host.specs.Law as reply
use Rattle.grain_means.specs.Rules.{Home, InScope, InCell, AtPlace, Receiver, given_back, back_in_scope}
use Rattle.grain_means.specs.Leavings.{names, Keeps}
use Rattle.grain_means.specs.lemmas.Scopes.{length_set_held}

pub keeps_all : (scope : List Entry) → Keeps (length scope) (names scope) scope
keeps_all scope = record { there = omega arith; named = ap names (take-length scope) }

pub keeps_nothing : (scope : List Entry) → Keeps 0 [] scope
keeps_nothing scope = record { there = omega arith; named = refl }

take_take : (b n : ℕ) (xs : List Entry) → b ≤ n → take b (take n xs) ≡ take b xs
take_take zero n xs le = refl
take_take (suc b) zero xs le = absurd (omega (arith, le))
take_take (suc b) (suc n) [] le = refl
take_take (suc b) (suc n) (x ∷ xs) le =
    ap (λ (l : List Entry). x ∷ l) (take_take b n xs (omega (arith, le)))

pub keeps_cut : (b n : ℕ) (ns : List (List ℕ)) (scope : List Entry) → b ≤ n → Keeps b ns scope →
    Keeps b ns (take n scope)
keeps_cut b n ns scope le k =
    record {
      there = omega (arith, le, k.there, length-take n scope);
      named =
          ap names (take_take b n scope le) ∙ k.named;
    }

pub keeps_push : (b : ℕ) (ns : List (List ℕ)) (scope : List Entry) (e : Entry) → Keeps b ns scope →
    Keeps b ns (scope ++ e ∷ [])
keeps_push b ns scope e k =
    record {
      there = omega (arith, k.there, length-append scope (e ∷ []));
      named =
          ap names (take-append-le b scope (e ∷ []) k.there) ∙ k.named;
    }

names_set : (b : ℕ) (scope : List Entry) (i : ℕ) (h : Held) → names (take b (set_held scope i h)) ≡
    names (take b scope)
names_set zero scope i h = refl
names_set (suc b) [] i h = refl
names_set (suc b) (e ∷ es) zero h = refl
names_set (suc b) (e ∷ es) (suc i) h = ap (λ (l : List (List ℕ)). e.name ∷ l) (names_set b es i h)

pub keeps_set : (b : ℕ) (ns : List (List ℕ)) (scope : List Entry) (i : ℕ) (h : Held) →
    Keeps b ns scope → Keeps b ns (set_held scope i h)
keeps_set b ns scope i h k =
    record {
      there = omega (arith, k.there, length_set_held scope i h);
      named =
          names_set b scope i h ∙ k.named;
    }

pub keeps_given : {S : Type 0} {b : ℕ} {ns : List (List ℕ)} (law : Law S) (host : S) (key : ℕ)
    (values : List Tree) (r : Option Receiver) (scope : List Entry) → Keeps b ns scope →
    Keeps b ns (given_back law host key values r scope)
keeps_given law host key values None scope k = k
keeps_given {b = b} {ns = ns} law host key values (Some q) scope k = at q.home where
  h : Held
  h = reply.written law host key values q.held

  at : (home : Home) → Keeps b ns (back_in_scope home h scope)
  at (InScope i) = keeps_set b ns scope i h k
  at (InCell n) = k
  at (AtPlace p) = k
