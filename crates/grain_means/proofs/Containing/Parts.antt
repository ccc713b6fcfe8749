-- That what a frame, a host and a fault hold names cells of the store only.
use Rattle.std.proofs.Common.{◌≡◌, ◌≤◌, ℕ, zero, suc, List, [], ◌∷◌, ◌++◌, Option, Some, None, Bool, true, false, if◌then◌else◌, drop, refl, subst, arith}
use Rattle.std.specs.List.{AllByRecursion, starts_with}
use Rattle.std.specs.Prelude.{bytes_eq, codes, eqb, slice_get}
use Rattle.grain_value.specs.Cells.{standing}
use Rattle.grain_value.specs.Looking.{cell_of, pointer_of}
use Rattle.grain_value.specs.Scopes.{set_held}
use Rattle.grain_value.specs.declared.scopes.Entry.{Entry}
use Rattle.grain_value.specs.declared.stores.Cell.{Cell}
use Rattle.grain_value.specs.declared.values.Dynamic.{Dynamic}
use Rattle.grain_value.specs.declared.values.Dynamic.TheVariants as dynamic
use Rattle.grain_value.specs.declared.values.FnPtr.{FnPtr}
use Rattle.grain_value.specs.declared.values.Held.{Held}
use Rattle.grain_fault.specs.Exits.{exit_value}
use Rattle.grain_fault.specs.Problems.{Problem, Plain, InFunctionCall, InModule, SystemError, NoMemory, Exit, DotExpr, FunctionNotFound, IndexingType}
use Rattle.grain_fault.specs.declared.places.Position.{Position}
use Rattle.grain_host.specs.Law.{Reply, Verdict, reply_bound, reply_is_clean, verdict_bound, verdict_is_clean}
use Rattle.grain_means.specs.Contained.{CursorNames, HeldNames, Names, ProblemNames}
use Rattle.grain_means.specs.Rules.{Home, InScope, InCell, AtPlace, Receiver, bound, held_at}
use Rattle.grain_host.specs.Signatures.{index_text, not_found, signature_text, type_at, unknown_property, unwritable_property}
use Rattle.grain_means.specs.Worlds.{Cursor, Frame, Handler}
use Rattle.grain_means.proofs.Caught.{first_names}
use Rattle.grain_means.proofs.Inside.{MayPut, may_put, put_clear, put_written}
use Rattle.grain_means.proofs.Naming.{CellHolds, all_got, PlainNames, Stands}
use Rattle.grain_means.proofs.Containing.Roots.{FirmAt}

abbrev pub CaughtNames : Bool → ℕ → Option Problem → Type 0
CaughtNames clean n None = Unit {0}
CaughtNames clean n (Some y) = ProblemNames clean n y

abbrev pub HandlerNames : Bool → ℕ → Handler → Type 0
HandlerNames clean n h = CaughtNames clean n h.caught

abbrev pub Operands : Bool → ℕ → List Held → Type 0
Operands clean n hs = AllByRecursion (HeldNames clean n) hs

-- what a native is given
abbrev pub Arguments : Bool → ℕ → List Held → Type 0
Arguments clean n hs = AllByRecursion (Stands clean n) hs

-- the handlers and the cursors of a frame
pub record RestNames (clean : Bool) (n : ℕ) (hs : List Handler) (cs : List Cursor) : Type 0 where
  pub handlers : AllByRecursion (HandlerNames clean n) hs
  pub cursors : AllByRecursion (CursorNames clean n) cs

-- of a frame that was just entered
pub no_rest : {clean : Bool} {n : ℕ} → RestNames clean n [] []
no_rest = record { handlers = tt; cursors = tt }

abbrev pub FrameNames : Bool → ℕ → Frame → Type 0
FrameNames clean n f =
    Operands clean n f.operands × RestNames clean n f.handlers f.cursors

-- what may be written so: a cell, and a place, hold none
abbrev pub MayStand : Home → Dynamic → Type 0
MayStand (InScope i) v = Unit {0}
MayStand (InCell i) v = cell_of v ≡ None
MayStand (AtPlace p) v = cell_of v ≡ None

-- that there is no native names no cell
pub none_missing : (clean : Bool) (n : ℕ) (name : List ℕ) (args : List Dynamic) (p : Position) →
    ProblemNames clean n (not_found name args p)
none_missing clean n name args p =
    by_name (starts_with eqb name (codes "get$")) (starts_with eqb name (codes "set$"))
    (bytes_eq name (codes "index$get$")) (bytes_eq name (codes "index$set$")) where
      by_name : (a b c d : Bool) →
          ProblemNames clean n (Plain (if a then DotExpr (unknown_property (drop 4 name) args) else
          (if b then DotExpr (unwritable_property (drop 4 name) args) else
          (if c then IndexingType (index_text args) else
          (if d then IndexingType (index_text args ++ codes " = " ++ type_at 2 args)
          else FunctionNotFound (signature_text name args))))) p)
      by_name true b c d = (omega arith, λ s. refl)
      by_name false true c d = (omega arith, λ s. refl)
      by_name false false true d = (omega arith, λ s. refl)
      by_name false false false true = (omega arith, λ s. refl)
      by_name false false false false = (omega arith, λ s. refl)

-- what the host answers, where it hears of an operation or is called
abbrev pub VerdictNames : Bool → ℕ → Verdict → Type 0
VerdictNames clean n v =
    (verdict_bound v ≤ n) × (clean ≡ true → verdict_is_clean v ≡ true)

abbrev pub ReplyNames : Bool → ℕ → Reply → Type 0
ReplyNames clean n r = (reply_bound r ≤ n) × (clean ≡ true → reply_is_clean r ≡ true)

-- what a native is lent is no cell; what stands inside a value is none where values are clean
abbrev pub HomeNames : Bool → ℕ → Home → Held → Type 0
HomeNames clean n (InScope i) h = PlainNames clean n h
HomeNames clean n (InCell i) h = PlainNames clean n h
HomeNames clean n (AtPlace p) h = HeldNames clean n h × MayPut clean n p.path h.value

abbrev pub ReceiverNames : Bool → ℕ → Option Receiver → Type 0
ReceiverNames clean n None = Unit {0}
ReceiverNames clean n (Some q) = HomeNames clean n q.home q.held

pub home_names : (clean : Bool) (n : ℕ) (a : Home) (h : Held) → HomeNames clean n a h →
    HeldNames clean n h
home_names clean n (InScope i) h p = p.0
home_names clean n (InCell i) h p = p.0
home_names clean n (AtPlace q) h p = p.0

pub home_clear : (clean : Bool) (n : ℕ) (a : Home) (h : Held) → HomeNames clean n a h →
    clean ≡ true → cell_of h.value ≡ None
home_clear clean n (InScope i) h p s = p.1
home_clear clean n (InCell i) h p s = p.1
home_clear clean n (AtPlace q) h p s = put_clear clean n q.path h.value p.1 s

-- so it is once a native has written it
pub home_written : (clean : Bool) (n : ℕ) (a : Home) (h : Held) (v : Dynamic) →
    HomeNames clean n a h → Names clean n v → (cell_of h.value ≡ None → cell_of v ≡ None) →
    HomeNames clean n a (record h { value = v })
home_written clean n (InScope i) h v p names keeps = (names, keeps p.1)
home_written clean n (InCell i) h v p names keeps = (names, keeps p.1)
home_written clean n (AtPlace q) h v p names keeps =
    (names, put_written clean n q.path h.value v p.1 keeps)

-- so is what is no cell
pub home_plain : (clean : Bool) (n : ℕ) (a : Home) (h : Held) → PlainNames clean n h →
    HomeNames clean n a h
home_plain clean n (InScope i) h p = p
home_plain clean n (InCell i) h p = p
home_plain clean n (AtPlace q) h p = (p.0, may_put clean n q.path h.value p.1)

-- the entry that it is lent holds no cell, and the place is firm
abbrev pub HoldsPlain : Home → List Entry → List Held → Type 0
HoldsPlain (InScope i) scope roots =
    (h : Held) → held_at scope i ≡ Some h → cell_of h.value ≡ None
HoldsPlain (InCell i) scope roots = Unit {0}
HoldsPlain (AtPlace p) scope roots = FirmAt roots p

abbrev pub LendsPlain : Option Receiver → List Entry → List Held → Type 0
LendsPlain None scope roots = Unit {0}
LendsPlain (Some q) scope roots = HoldsPlain q.home scope roots

pub set_plain : (scope : List Entry) (i : ℕ) (g h : Held) → cell_of g.value ≡ None →
    held_at (set_held scope i g) i ≡ Some h → cell_of h.value ≡ None
set_plain [] i g h plain is = absurd cc
set_plain (e ∷ es) zero g h plain is =
    let same : g ≡ h = cc in subst (λ (x : Held). cell_of x.value ≡ None) same plain
set_plain (e ∷ es) (suc i) g h plain is = set_plain es i g h plain is

-- what a target holds
pub standing_names : (clean : Bool) (n : ℕ) (cells : List Cell) (i : ℕ) →
    AllByRecursion (CellHolds clean n) cells →
    Names clean n (standing (slice_get cells i))
    × (cell_of (standing (slice_get cells i)) ≡ None)
standing_names clean n cells i all = at (slice_get cells i) refl where
  at : (o : Option Cell) → slice_get cells i ≡ o →
      Names clean n (standing o) × (cell_of (standing o) ≡ None)
  at None is = ((omega arith, λ s. refl), refl)
  at (Some c) is =
      let there = all_got (CellHolds clean n) cells i c all is in (there.names, there.flat)

-- a pointer names what its value names
pub pointer_names : (clean : Bool) (n : ℕ) (v : Dynamic) (q : FnPtr) → Names clean n v →
    pointer_of v ≡ Some q → Names clean n (dynamic.Pointer q)
pointer_names clean n (dynamic.Pointer r) q named is =
    let same : r ≡ q = cc in
    subst (λ (x : FnPtr). Names clean n (dynamic.Pointer x)) same named
pointer_names clean n dynamic.Unit q named is = absurd cc
pointer_names clean n (dynamic.Bool b) q named is = absurd cc
pointer_names clean n (dynamic.Int i) q named is = absurd cc
pointer_names clean n (dynamic.Char c) q named is = absurd cc
pointer_names clean n (dynamic.Text t) q named is = absurd cc
pointer_names clean n (dynamic.Array ts) q named is = absurd cc
pointer_names clean n (dynamic.Blob b) q named is = absurd cc
pointer_names clean n (dynamic.Map es) q named is = absurd cc
pointer_names clean n (dynamic.Range from to inclusive) q named is = absurd cc
pointer_names clean n (dynamic.Foreign kind number) q named is = absurd cc
pointer_names clean n (dynamic.Cell number) q named is = absurd cc

pub may_stand : (a : Home) (v : Dynamic) → cell_of v ≡ None → MayStand a v
may_stand (InScope i) v plain = tt
may_stand (InCell i) v plain = plain
may_stand (AtPlace p) v plain = plain

-- an exit's value is what the fault names
pub exit_names : (clean : Bool) (n : ℕ) (x : Problem) (v : Dynamic) → ProblemNames clean n x →
    exit_value x ≡ Some v → Names clean n v
exit_names clean n (Plain (Exit u) p) v bound is =
    let same : u ≡ v = cc in
    subst (λ (d : Dynamic). Names clean n d) same
    (first_names clean n u true bound.0 bound.1)
exit_names clean n (Plain k p) v bound is = absurd cc
exit_names clean n (InFunctionCall f s x p) v bound is = absurd cc
exit_names clean n (InModule q x p) v bound is = absurd cc
exit_names clean n (SystemError s e) v bound is = absurd cc
exit_names clean n NoMemory v bound is = absurd cc
