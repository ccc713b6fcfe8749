-- What a stretch of a run keeps, as seen from where it began: what there is names cells of the store
-- only, no cell is lent but those that were, no root is a cell where none was, and some entries hold no
-- cell.
use Rattle.std.proofs.Common.{◌≡◌, ◌≤◌, ◌∙◌, ℕ, zero, suc, List, [], ◌∷◌, ◌++◌, Some, None, Bool, true, false, length, take, refl, subst, arith}
use Rattle.std.proofs.lemmas.List.{length-set}
use Rattle.std.specs.List.{AllByRecursion}
use Rattle.std.specs.Prelude.{slice_set}
use Rattle.grain_value.specs.Cells.{idle, lent}
use Rattle.grain_value.specs.Looking.{cell_of}
use Rattle.grain_value.specs.Scopes.{set_held}
use Rattle.grain_value.specs.declared.scopes.Entry.{Entry}
use Rattle.grain_value.specs.declared.stores.Cell.{Cell}
use Rattle.grain_value.specs.declared.values.Held.{Held}
use Rattle.grain_host.specs.Law.{Law}
use Rattle.grain_means.specs.Contained.{CellNames, Contained, EntryNames, HeldNames}
use Rattle.grain_means.specs.Rules.{held_at}
use Rattle.grain_means.proofs.Naming.{CellHolds, all_joined, all_set, all_wider}
use Rattle.grain_means.proofs.Containing.Roots.{Roots, roots_back, roots_named, roots_on, roots_same}

-- the cells and the roots where a stretch began, and the entries that hold no cell while it lasts, by their
-- indices
pub record Since : Type 0 where
  pub cells : List Cell
  pub roots : List Held
  pub plain : List ℕ

-- the entry at an index holds no cell
abbrev pub HoldsNone : List Entry → ℕ → Type 0
HoldsNone scope i = (h : Held) → held_at scope i ≡ Some h → cell_of h.value ≡ None

-- it holds none where what is none is set
none_still : (scope : List Entry) (i j : ℕ) (g : Held) → cell_of g.value ≡ None → HoldsNone scope i →
    HoldsNone (set_held scope j g) i
none_still [] i j g plain was = was
none_still (e ∷ es) zero zero g plain was = λ h is.
    let same : g ≡ h = cc in subst (λ (x : Held). cell_of x.value ≡ None) same plain
none_still (e ∷ es) (suc i) zero g plain was = was
none_still (e ∷ es) zero (suc j) g plain was = was
none_still (e ∷ es) (suc i) (suc j) g plain was = none_still es i j g plain was

pub all_none_still : (scope : List Entry) (j : ℕ) (g : Held) → cell_of g.value ≡ None →
    (is : List ℕ) → AllByRecursion (HoldsNone scope) is →
    AllByRecursion (HoldsNone (set_held scope j g)) is
all_none_still scope j g plain is h =
    all_wider (HoldsNone scope) (HoldsNone (set_held scope j g))
    (λ i was. none_still scope i j g plain was) is h

-- no cell is lent that was not
abbrev pub Lends : List Cell → List Cell → Type 0
Lends [] before = Unit {0}
Lends (c ∷ cs) [] = (c.busy ≡ false) × Lends cs []
Lends (c ∷ cs) (b ∷ bs) = (b.busy ≡ false → c.busy ≡ false) × Lends cs bs

pub lends_same : (cells : List Cell) → Lends cells cells
lends_same [] = tt
lends_same (c ∷ cs) = (λ e. e, lends_same cs)

pub lends_set : (now before : List Cell) (i : ℕ) (h : Held) → Lends now before →
    Lends (slice_set now i (idle h)) before
lends_set [] before i h k = tt
lends_set (c ∷ cs) [] zero h k = (refl, k.1)
lends_set (c ∷ cs) [] (suc i) h k = (k.0, lends_set cs [] i h k.1)
lends_set (c ∷ cs) (b ∷ bs) zero h k = (λ e. refl, k.1)
lends_set (c ∷ cs) (b ∷ bs) (suc i) h k = (k.0, lends_set cs bs i h k.1)

pub lends_added : (now before : List Cell) (h : Held) → Lends now before →
    Lends (now ++ idle h ∷ []) before
lends_added [] [] h k = (refl, tt)
lends_added [] (b ∷ bs) h k = (λ e. refl, tt)
lends_added (c ∷ cs) [] h k = (k.0, lends_added cs [] h k.1)
lends_added (c ∷ cs) (b ∷ bs) h k = (k.0, lends_added cs bs h k.1)

-- over two stretches
pub lends_on : (now amid before : List Cell) → Lends now amid → Lends amid before → Lends now before
lends_on [] amid before k l = tt
lends_on (c ∷ cs) [] [] k l = (k.0, lends_on cs [] [] k.1 tt)
lends_on (c ∷ cs) [] (b ∷ bs) k l = (λ e. k.0, lends_on cs [] bs k.1 tt)
lends_on (c ∷ cs) (d ∷ ds) [] k l = (k.0 l.0, lends_on cs ds [] k.1 l.1)
lends_on (c ∷ cs) (d ∷ ds) (b ∷ bs) k l = (λ e. k.0 (l.0 e), lends_on cs ds bs k.1 l.1)

-- a cell that was lent has its content back
pub lends_back : (now before : List Cell) (i : ℕ) (g h : Held) →
    Lends now (slice_set before i (lent g)) → Lends (slice_set now i (idle h)) before
lends_back [] before i g h k = tt
lends_back (c ∷ cs) [] zero g h k = (refl, k.1)
lends_back (c ∷ cs) [] (suc i) g h k = (k.0, lends_set cs [] i h k.1)
lends_back (c ∷ cs) (b ∷ bs) zero g h k = (λ e. refl, k.1)
lends_back (c ∷ cs) (b ∷ bs) (suc i) g h k = (k.0, lends_back cs bs i g h k.1)

-- what stands in for a content that is lent does not matter
pub lends_lent : (cells : List Cell) (i : ℕ) (g h : Held) →
    Lends (slice_set cells i (lent h)) (slice_set cells i (lent g))
lends_lent [] i g h = tt
lends_lent (c ∷ cs) zero g h = (λ e. e, lends_same cs)
lends_lent (c ∷ cs) (suc i) g h = (λ e. e, lends_lent cs i g h)

-- where no cell was lent, none is
none_lent : (clean : Bool) (n k : ℕ) (now before : List Cell) → Lends now before →
    AllByRecursion (CellNames clean n) before → AllByRecursion (CellHolds clean k) now →
    AllByRecursion (CellNames clean k) now
none_lent clean n k [] before l b h = tt
none_lent clean n k (c ∷ cs) [] l b h = (
  record { idle = l.0; flat = h.0.flat; names = h.0.names },
  none_lent clean n k cs [] l.1 tt h.1,
)
none_lent clean n k (c ∷ cs) (d ∷ ds) l b h = (
  record { idle = l.0 b.0.idle; flat = h.0.flat; names = h.0.names },
  none_lent clean n k cs ds l.1 b.1 h.1,
)

-- a scope, a store of n cells, a host and roots
pub record Kept {S : Type 0} (law : Law S) (clean : Bool) (n : ℕ) (since : Since) (scope : List Entry)
    (cells : List Cell) (host : S) (roots : List Held) : Type 0 where
  pub size : length cells ≡ n
  pub entries : AllByRecursion (EntryNames clean n) scope
  pub contents : AllByRecursion (CellHolds clean n) cells
  pub reaches : law.reach host ≤ n
  pub hands : clean ≡ true → law.holds_clean host ≡ true
  pub waits : clean ≡ true → law.waits_clean host ≡ true
  pub lends : Lends cells since.cells
  pub stand : Roots clean n roots since.roots
  pub plain : AllByRecursion (HoldsNone scope) since.plain

module _ {S : Type 0} {law : Law S} {clean : Bool} where
  -- what there is names cells of the store only
  pub all_named : {n : ℕ} {since : Since} {scope : List Entry} {cells : List Cell} {host : S}
      {roots : List Held} → Kept law clean n since scope cells host roots →
      AllByRecursion (HeldNames clean n) roots
  all_named {n} {since} {scope} {cells} {host} {roots} at =
      roots_named clean n roots since.roots at.stand

  -- where a run begins with no cell lent, and where it ends
  pub begun : {n : ℕ} {scope : List Entry} {cells : List Cell} {host : S} (roots : List Held) →
      Contained law clean n scope cells host → AllByRecursion (HeldNames clean n) roots →
      Kept law clean n (record { cells = cells; roots = roots; plain = [] }) scope cells host roots
  begun {n} {scope} {cells} {host} roots at named = record {
    size = at.size;
    entries = at.entries;
    contents = all_wider (CellNames clean n) (CellHolds clean n)
        (λ c p. record { flat = p.flat; names = p.names }) cells at.contents;
    reaches = at.reaches;
    hands = at.hands;
    waits = at.waits;
    lends = lends_same cells;
    stand = roots_same clean n roots named;
    plain = tt;
  }

  pub at_last : (n : ℕ) {k : ℕ} {since : Since} {scope : List Entry} {cells : List Cell} {host : S}
      {roots : List Held} → AllByRecursion (CellNames clean n) since.cells →
      Kept law clean k since scope cells host roots → Contained law clean k scope cells host
  at_last n {k} {since} {scope} {cells} none at = record {
    size = at.size;
    entries = at.entries;
    contents = none_lent clean n k cells since.cells at.lends none at.contents;
    reaches = at.reaches;
    hands = at.hands;
    waits = at.waits;
  }

  -- a stretch begins here, with a root more
  pub with_root : {n : ℕ} {since : Since} {scope : List Entry} {cells : List Cell} {host : S}
      {roots : List Held} (h : Held) → HeldNames clean n h →
      Kept law clean n since scope cells host roots →
      Kept law clean n (record since { cells = cells; roots = roots ++ h ∷ [] }) scope cells host
      (roots ++ h ∷ [])
  with_root {n} {since} {scope} {cells} {host} {roots} h named at = record {
    size = at.size;
    entries = at.entries;
    contents = at.contents;
    reaches = at.reaches;
    hands = at.hands;
    waits = at.waits;
    lends = lends_same cells;
    stand = roots_same clean n (roots ++ h ∷ [])
        (all_joined (HeldNames clean n) roots (h ∷ []) (all_named at) (named, tt));
    plain = at.plain;
  }

  -- or with the roots that there are
  pub from_here : {n : ℕ} {since : Since} {scope : List Entry} {cells : List Cell} {host : S}
      {roots : List Held} → Kept law clean n since scope cells host roots →
      Kept law clean n (record since { cells = cells; roots = roots }) scope cells host roots
  from_here {n} {since} {scope} {cells} {host} {roots} at = record {
    size = at.size;
    entries = at.entries;
    contents = at.contents;
    reaches = at.reaches;
    hands = at.hands;
    waits = at.waits;
    lends = lends_same cells;
    stand = roots_same clean n roots (all_named at);
    plain = at.plain;
  }

  -- a root that was added is gone
  pub root_gone : {k : ℕ} {before : List Cell} {is : List ℕ} (amid : List Held) (h : Held)
      {scope : List Entry} {cells : List Cell} {host : S} {roots : List Held} →
      Kept law clean k (record { cells = before; roots = amid ++ h ∷ []; plain = is }) scope cells host
      roots →
      Kept law clean k (record { cells = before; roots = amid; plain = is }) scope cells host
      (take (length amid) roots)
  root_gone {k} {before} {is} amid h {scope} {cells} {host} {roots} at = record {
    size = at.size;
    entries = at.entries;
    contents = at.contents;
    reaches = at.reaches;
    hands = at.hands;
    waits = at.waits;
    lends = at.lends;
    stand = roots_back clean k amid h roots at.stand;
    plain = at.plain;
  }

  -- a stretch inside another
  pub joined_on : {n k : ℕ} {since : Since} {scope before : List Entry} {cells amid : List Cell}
      {host first : S} {roots stood : List Held} → Kept law clean n since before amid first stood →
      Kept law clean k (record since { cells = amid; roots = stood }) scope cells host roots →
      Kept law clean k since scope cells host roots
  joined_on {n} {k} {since} {scope} {before} {cells} {amid} {host} {first} {roots} {stood} was at =
      record {
        size = at.size;
        entries = at.entries;
        contents = at.contents;
        reaches = at.reaches;
        hands = at.hands;
        waits = at.waits;
        lends = lends_on cells amid since.cells at.lends was.lends;
        stand = roots_on clean n k roots stood since.roots at.stand was.stand;
        plain = at.plain;
      }

  -- a stretch begins here, with the cell of number i lent
  pub cell_lent : {n : ℕ} {since : Since} {scope : List Entry} {cells : List Cell} {host : S}
      {roots : List Held} (i : ℕ) (h : Held) → Kept law clean n since scope cells host roots →
      Kept law clean n (record since { cells = slice_set cells i (lent h); roots = roots }) scope
      (slice_set cells i (lent h)) host roots
  cell_lent {n} {since} {scope} {cells} {host} {roots} i h at = record {
    size = length-set cells i (lent h) ∙ at.size;
    entries = at.entries;
    contents = all_set (CellHolds clean n) cells i (lent h) at.contents
        (record { flat = refl; names = (omega arith, λ s. refl) });
    reaches = at.reaches;
    hands = at.hands;
    waits = at.waits;
    lends = lends_same (slice_set cells i (lent h));
    stand = roots_same clean n roots (all_named at);
    plain = at.plain;
  }

  -- the cell has a content back
  pub cell_back : {n k : ℕ} {since : Since} {scope before : List Entry} {cells amid : List Cell}
      {host first : S} {roots stood : List Held} (i : ℕ) (g h : Held) → HeldNames clean k h →
      cell_of h.value ≡ None → Kept law clean n since before amid first stood →
      Kept law clean k (record since { cells = slice_set amid i (lent g); roots = stood }) scope cells
      host roots → Kept law clean k since scope (slice_set cells i (idle h)) host roots
  cell_back {n} {k} {since} {scope} {before} {cells} {amid} {host} {first} {roots} {stood} i g h named
      plain was at = record {
        size = length-set cells i (idle h) ∙ at.size;
        entries = at.entries;
        contents = all_set (CellHolds clean k) cells i (idle h) at.contents
            (record { flat = plain; names = named });
        reaches = at.reaches;
        hands = at.hands;
        waits = at.waits;
        lends = lends_on (slice_set cells i (idle h)) amid since.cells
            (lends_back cells amid i g h at.lends) was.lends;
        stand = roots_on clean n k roots stood since.roots at.stand was.stand;
        plain = at.plain;
      }
