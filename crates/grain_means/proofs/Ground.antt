-- What a run keeps of the world on which it stands: its tokens and its level, the names of the entries below
-- a base, and that no cell is lent which was not.
use Rattle.std.proofs.Common.{◌≤◌, ℕ, List, [], ◌∷◌, ◌++◌, Option, take}
use Rattle.std.specs.Prelude.{slice_set}
use Rattle.grain_value.specs.Cells.{idle}
use Rattle.grain_value.specs.Scopes.{set_held}
use Rattle.grain_value.specs.Tree.{Tree}
use Rattle.grain_value.specs.declared.scopes.Entry.{Entry}
use Rattle.grain_value.specs.declared.stores.Cell.{Cell}
use Rattle.grain_value.specs.declared.values.Held.{Held}
use Rattle.grain_host.specs.Law.{Law}
use Rattle.grain_means.specs.Leavings.{Keeps}
use Rattle.grain_means.specs.Rules.{Receiver, cells_given_back, given_back}
use Rattle.grain_means.proofs.Kept.{keeps_cut, keeps_given, keeps_push, keeps_set}
use Rattle.grain_means.proofs.Unlent.{Beyond, Unlent, beyond_on, unlent_given, unlent_idle}

pub record Footing : Type 0 where
  pub tokens : Option (List ℕ)
  pub level : ℕ
  pub base : ℕ
  pub names : List (List ℕ)
  pub cells : List Cell

-- a scope and cells on this footing, while the cell of this number is lent, if any
pub record Stays (k : Footing) (away : Option ℕ) (scope : List Entry) (cells : List Cell) : Type 0
  where
    pub keeps : Keeps k.base k.names scope
    pub unlent : Beyond away k.cells cells

module _ {k : Footing} {away : Option ℕ} where
  pub stays_cut : (n : ℕ) (scope : List Entry) (cells : List Cell) → k.base ≤ n →
      Stays k away scope cells → Stays k away (take n scope) cells
  stays_cut n scope cells le s =
      record { keeps = keeps_cut k.base n k.names scope le s.keeps; unlent = s.unlent }

  pub stays_push : (scope : List Entry) (cells : List Cell) (e : Entry) →
      Stays k away scope cells → Stays k away (scope ++ e ∷ []) cells
  stays_push scope cells e s =
      record { keeps = keeps_push k.base k.names scope e s.keeps; unlent = s.unlent }

  pub stays_set : (scope : List Entry) (cells : List Cell) (i : ℕ) (h : Held) →
      Stays k away scope cells → Stays k away (set_held scope i h) cells
  stays_set scope cells i h s =
      record { keeps = keeps_set k.base k.names scope i h s.keeps; unlent = s.unlent }

  -- other cells
  pub stays_on : (scope : List Entry) (a b : List Cell) → Stays k away scope a → Unlent a b →
      Stays k away scope b
  stays_on scope a b s on =
      record { keeps = s.keeps; unlent = beyond_on away k.cells a b s.unlent on }

  pub stays_idle : (scope : List Entry) (cells : List Cell) (n : ℕ) (h : Held) →
      Stays k away scope cells → Stays k away scope (slice_set cells n (idle h))
  stays_idle scope cells n h s =
      stays_on scope cells (slice_set cells n (idle h)) s (unlent_idle cells n h)

  -- the host answered a native at once
  pub stays_given : {S : Type 0} (law : Law S) (host : S) (key : ℕ) (values : List Tree)
      (r : Option Receiver) (scope : List Entry) (cells : List Cell) → Stays k away scope cells →
      Stays k away (given_back law host key values r scope)
      (cells_given_back law host key values r cells)
  stays_given law host key values r scope cells s = record {
    keeps = keeps_given law host key values r scope s.keeps;
    unlent = beyond_on away k.cells cells (cells_given_back law host key values r cells) s.unlent
        (unlent_given law host key values r cells);
  }
