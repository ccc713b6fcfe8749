-- What a native is lent while the calls that it asked for are done.
use Rattle.std.proofs.Common.{◌≡◌, ◌∙◌, ℕ, List, [], ◌∷◌, Option, Some, None, Bool, true, false, refl, arith}
use Rattle.std.proofs.Math.Nat.{le-max_left, le-max_right}
use Rattle.std.proofs.lemmas.List.{length-set}
use Rattle.std.specs.List.{list_all}
use Rattle.std.specs.Prelude.{slice_set}
use Rattle.grain_value.specs.Cells.{cell_bound, idle, is_clean, lent}
use Rattle.grain_value.specs.Tree.{Tree, array, pack, pointer}
use Rattle.grain_value.specs.View.{tree}
use Rattle.grain_value.specs.declared.scopes.Entry.{Entry}
use Rattle.grain_value.specs.declared.stores.Cell.{Cell}
use Rattle.grain_value.specs.declared.values.Dynamic.TheVariants as dynamic
use Rattle.grain_value.specs.declared.values.FnPtr.{FnPtr}
use Rattle.grain_value.specs.declared.values.Held.{Held}
use Rattle.grain_host.specs.Clean.{both_true, first_true, second_true}
use Rattle.grain_host.specs.Law.{Law}
use Rattle.grain_host.specs.Law as reply
use Rattle.grain_means.specs.Contained.{Names}
use Rattle.grain_means.specs.Rules.{Home, InScope, InCell, AtPlace, Receiver, back_in_cells, cells_lent, cells_with, lent_in_cells}
use Rattle.grain_means.specs.Worlds.{Callback}
use Rattle.grain_means.proofs.Naming.{CellHolds, CurryNames, all_set}
use Rattle.grain_means.proofs.Containing.Keeping.{Kept, Since, all_named, joined_on, lends_back, lends_lent, lends_same}
use Rattle.grain_means.proofs.Containing.Parts.{HoldsPlain, HomeNames, LendsPlain, ReceiverNames, ReplyNames}
use Rattle.grain_means.proofs.Containing.Roots.{firm_still, roots_same}

-- what a native has, and what it asks for, names cells of the store only
abbrev pub CallbackNames : Bool → ℕ → Callback → Type 0
CallbackNames clean n c =
    ReceiverNames clean n c.receiver × Names clean n (dynamic.Pointer c.pointer)
    × CurryNames clean n c.values

-- what a host asks for
pub asked_pointer : (clean : Bool) (n token : ℕ) (p : FnPtr) (ts : List Tree) →
    ReplyNames clean n (reply.Ask token p ts) → Names clean n (dynamic.Pointer p)
asked_pointer clean n token p ts h = (
  omega (
    arith,
    h.0,
    le-max_left (cell_bound (tree (dynamic.Pointer p))) (cell_bound (array (pack ts))),
  ),
  λ s. first_true (is_clean (tree (dynamic.Pointer p))) (list_all is_clean ts) (h.1 s),
)

asked_clean : (ts : List Tree) → list_all is_clean ts ≡ true → is_clean (pointer [] (pack ts)) ≡ true
asked_clean [] e = refl
asked_clean (t ∷ ts) e =
    both_true (is_clean t) (is_clean (pointer [] (pack ts)))
    (first_true (is_clean t) (list_all is_clean ts) e)
    (asked_clean ts (second_true (is_clean t) (list_all is_clean ts) e))

pub asked_values : (clean : Bool) (n token : ℕ) (p : FnPtr) (ts : List Tree) →
    ReplyNames clean n (reply.Ask token p ts) → CurryNames clean n ts
asked_values clean n token p ts h = (
  omega (
    arith,
    h.0,
    le-max_right (cell_bound (tree (dynamic.Pointer p))) (cell_bound (array (pack ts))),
  ),
  λ s. asked_clean ts (second_true (is_clean (tree (dynamic.Pointer p))) (list_all is_clean ts) (h.1 s)),
)

-- what stands in for what a native has
abbrev pub stand_in : Held
stand_in = record { value = dynamic.Unit; read_only = false }

-- where a stretch began, if what is held there is lent since
abbrev pub lent_home : Home → Since → Since
lent_home (InScope i) since = since
lent_home (InCell i) since = record since { cells = slice_set since.cells i (lent stand_in) }
lent_home (AtPlace p) since = since

abbrev pub lent_since : Option Receiver → Since → Since
lent_since None since = since
lent_since (Some q) since = lent_home q.home since

-- the entry from which a native is lent its receiver is to hold no cell, with others
abbrev pub home_entry : Home → List ℕ → List ℕ
home_entry (InScope i) is = i ∷ is
home_entry (InCell i) is = is
home_entry (AtPlace p) is = is

abbrev pub entry_too : Option Receiver → List ℕ → List ℕ
entry_too None is = is
entry_too (Some q) is = home_entry q.home is

module _ {S : Type 0} {law : Law S} {clean : Bool} where
  module _ {n : ℕ} {since : Since} {scope : List Entry} {cells : List Cell} {host : S}
      {roots : List Held} (at : Kept law clean n since scope cells host roots) where
    -- a native asks for a call, and a stretch begins in which it has what it is lent
    home_lent : (a : Home) (h : Held) → HoldsPlain a scope roots →
        Kept law clean n
        (lent_home a (record { cells = cells; roots = roots; plain = home_entry a since.plain })) scope
        (lent_in_cells a h cells) host roots
    home_lent (InScope i) h none = record {
      size = at.size;
      entries = at.entries;
      contents = at.contents;
      reaches = at.reaches;
      hands = at.hands;
      waits = at.waits;
      lends = lends_same cells;
      stand = roots_same clean n roots (all_named at);
      plain = (none, at.plain);
    }
    home_lent (InCell i) h none = record {
      size = length-set cells i (lent h) ∙ at.size;
      entries = at.entries;
      contents = all_set (CellHolds clean n) cells i (lent h) at.contents
          (record { flat = refl; names = (omega arith, λ s. refl) });
      reaches = at.reaches;
      hands = at.hands;
      waits = at.waits;
      lends = lends_lent cells i stand_in h;
      stand = roots_same clean n roots (all_named at);
      plain = at.plain;
    }
    home_lent (AtPlace p) h none = record {
      size = at.size;
      entries = at.entries;
      contents = at.contents;
      reaches = at.reaches;
      hands = at.hands;
      waits = at.waits;
      lends = lends_same cells;
      stand = roots_same clean n roots (all_named at);
      plain = at.plain;
    }

    pub receiver_lent : (r : Option Receiver) → LendsPlain r scope roots →
        Kept law clean n
        (lent_since r (record { cells = cells; roots = roots; plain = entry_too r since.plain })) scope
        (cells_lent r cells) host roots
    receiver_lent None none = record {
      size = at.size;
      entries = at.entries;
      contents = at.contents;
      reaches = at.reaches;
      hands = at.hands;
      waits = at.waits;
      lends = lends_same cells;
      stand = roots_same clean n roots (all_named at);
      plain = at.plain;
    }
    receiver_lent (Some q) none = home_lent q.home q.held none

  -- the native is over, and what it has goes back to its cell
  module _ {n : ℕ} {since : Since} {scope : List Entry} {cells : List Cell} {host : S}
      {roots : List Held} where
    home_idle : (a : Home) (h : Held) → HomeNames clean n a h →
        Kept law clean n (lent_home a since) scope cells host roots →
        Kept law clean n since scope (back_in_cells a h cells) host roots
    home_idle (InScope i) h names at = at
    home_idle (InCell i) h names at = record {
      size = length-set cells i (idle h) ∙ at.size;
      entries = at.entries;
      contents = all_set (CellHolds clean n) cells i (idle h) at.contents
          (record { flat = names.1; names = names.0 });
      reaches = at.reaches;
      hands = at.hands;
      waits = at.waits;
      lends = lends_back cells since.cells i stand_in h at.lends;
      stand = at.stand;
      plain = at.plain;
    }
    home_idle (AtPlace p) h names at = at

    pub receiver_idle : (r : Option Receiver) → ReceiverNames clean n r →
        Kept law clean n (lent_since r since) scope cells host roots →
        Kept law clean n since scope (cells_with r cells) host roots
    receiver_idle None names at = at
    receiver_idle (Some q) names at = home_idle q.home q.held names at

  -- the stretch in which it asked is over
  module _ {n k : ℕ} {since : Since} {scope before : List Entry} {cells amid : List Cell}
      {host first : S} {roots stood : List Held} (was : Kept law clean n since before amid first stood)
    where
      home_heard : (a : Home) → HoldsPlain a before stood →
          Kept law clean k
          (record { cells = amid; roots = stood; plain = home_entry a since.plain }) scope cells host
          roots → Kept law clean k since scope cells host roots × HoldsPlain a scope roots
      home_heard (InScope i) none at = (
        joined_on was (record {
          size = at.size;
          entries = at.entries;
          contents = at.contents;
          reaches = at.reaches;
          hands = at.hands;
          waits = at.waits;
          lends = at.lends;
          stand = at.stand;
          plain = at.plain.1;
        }),
        at.plain.0,
      )
      home_heard (InCell i) none at = (joined_on was at, tt)
      home_heard (AtPlace p) none at =
          (joined_on was at, firm_still clean k roots stood p at.stand none)

      pub receiver_heard : (r : Option Receiver) → LendsPlain r before stood →
          Kept law clean k
          (record { cells = amid; roots = stood; plain = entry_too r since.plain }) scope cells host roots →
          Kept law clean k since scope cells host roots × LendsPlain r scope roots
      receiver_heard None none at = (joined_on was at, tt)
      receiver_heard (Some q) none at = home_heard q.home none at
