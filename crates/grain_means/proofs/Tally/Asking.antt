-- The walk over the rules where a native asks for calls: these go first, and what follows from their end.
use Rattle.std.proofs.Common.{◌≡◌, ℕ, List, [], Option, Some, None, refl, length}
use Rattle.grain_host.specs.Law.{Law}
use Rattle.grain_value.specs.Tree.{Tree}
use Rattle.grain_value.specs.declared.scopes.Entry.{Entry}
use Rattle.grain_value.specs.declared.values.Held.{Held}
use Rattle.grain_host.specs.Law as reply
use Rattle.grain_means.specs.Comes.{Comes, here}
use Rattle.grain_means.specs.Ends.{Ends}
use Rattle.grain_means.specs.Leavings.{Keeps}
use Rattle.grain_means.specs.Rules.{Home, InScope, InCell, AtPlace, Receiver, back_in_scope, cells_lent, given_back, with_token}
use Rattle.grain_means.specs.Worlds.{Act, Answer, Callback, Go, InHost, Setup, Then, World}
use Rattle.grain_means.specs.Causes.{at_first}
use Rattle.grain_means.specs.lemmas.Scopes.{length_set_held}
use Rattle.grain_means.proofs.Footing.{Tally}
use Rattle.grain_means.proofs.Ground.{Footing}
use Rattle.grain_means.proofs.Roles.{Role, Hosting, NativeAnswers}
use Rattle.grain_means.proofs.Unlent.{Unlent, given_out, unlent_same}

-- the world in which the first of the calls is asked for
abbrev pub asking : {S : Type 0} → Callback → World S → World S
asking c w =
    record w { cells = cells_lent c.receiver w.cells; tokens = with_token c.token w.tokens }

-- what is so where the calls are over, against the world in which they were asked for
pub record IsOver {S : Type 0} (m : Setup S) (turn : Act S) (c : Callback) (w : World S) (base : ℕ)
    (names : List (List ℕ)) (a : Answer) (u : World S) : Type 0 where
  pub comes : Comes m (InHost c) (asking c w) turn
  pub ends : Ends m (Go (InHost c) (asking c w)) a u
  pub tokens : u.tokens ≡ w.tokens
  pub level : u.level ≡ w.level
  pub keeps : Keeps base names u.scope
  pub unlent : Unlent w.cells u.cells
  pub size : length u.scope ≡ length w.scope
  pub answers : NativeAnswers m c (asking c w) a u

pub even_asked : {S : Type 0} (m : Setup S) (role : Role) (root turn : Act S) (k : Footing) (r : ℕ)
    (c : Callback) (w : World S) (base : ℕ) (names : List (List ℕ)) → w.ran ≡ r → w.trace ≡ [] →
    Keeps base names w.scope → (rest : Answer → World S → Act S) →
    ((a : Answer) (u : World S) → IsOver m turn c w base names a u →
    Tally m role root turn u.ran k (rest a u)) →
    Tally m role root turn r k (Then (Go (InHost c) (asking c w)) rest)
even_asked m role root turn k r c w base names ran empty there rest follows = (
  record { tokens = w.tokens; level = w.level; base = base; names = names; cells = w.cells },
  Hosting,
  (
    ran,
    refl,
    refl,
    record {
      keeps = there;
      unlent = given_out w.cells c.receiver w.cells (unlent_same w.cells);
    },
    (empty, (refl, at_first)),
  ),
  λ onto mine a u ends tokens level stays over. follows a u (record {
    comes = mine (InHost c) (asking c w) here;
    ends = ends;
    tokens = tokens;
    level = level;
    keeps = stays.keeps;
    unlent = stays.unlent;
    size = over.0;
    answers = over.1;
  }),
)

-- what is given back leaves a scope as long as it was
pub length_back : (home : Home) (h : Held) (scope : List Entry) →
    length (back_in_scope home h scope) ≡ length scope
length_back (InScope i) h scope = length_set_held scope i h
length_back (InCell n) h scope = refl
length_back (AtPlace p) h scope = refl

pub length_given : {S : Type 0} (law : Law S) (host : S) (key : ℕ) (values : List Tree)
    (r : Option Receiver) (scope : List Entry) →
    length (given_back law host key values r scope) ≡ length scope
length_given law host key values None scope = refl
length_given law host key values (Some r) scope =
    length_back r.home (reply.written law host key values r.held) scope
