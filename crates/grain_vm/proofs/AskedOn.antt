-- A native that is called on a receiver and asks for a call first: what the code did, and what the rule says.
use Rattle.std.proofs.Common.{◌≡◌, ◌∙◌, ◌≤◌, ℕ, List, [], ◌∷◌, ◌++◌, Option, Some, None, inl, inr, length, refl, sym, ap, subst}
use Rattle.std.specs.Prelude.{slice_get, slice_set}
use Rattle.grain_value.specs.Cells.{idle, lent}
use Rattle.grain_value.specs.Looking.{cell_of}
use Rattle.grain_value.specs.Tree.{Tree}
use Rattle.grain_value.specs.declared.scopes.Entry.{Entry}
use Rattle.grain_value.specs.declared.stores.Cell.{Cell}
use Rattle.grain_value.specs.declared.values.Held.{Held}
use Rattle.grain_fault.specs.declared.places.Position.{Position}
use Rattle.grain_host.specs.Law.{Law, written}
use Rattle.grain_global.specs.StepsView.{StepsView}
use Rattle.grain_means.specs.Worlds.{Frame, Place, Setup}
use Rattle.grain_means.specs.Rules.Faults.{position}
use Rattle.grain_means.specs.Rules.Homes.{Home, InScope}
use Rattle.grain_means.specs.Rules.Natives.{trees_in}
use Rattle.grain_means.specs.Rules.Reads.{flat_all}
use Rattle.grain_means.specs.Rules.Receivers.{cell_given_back, native_lent_cell}
use Rattle.grain_means.specs.Simulation.{Environment, NoStopWithin, stopped, world}
use Rattle.grain_chain.specs.declared.requests.Request.{Request}
use Rattle.grain_frame.specs.declared.native_calls.Asked.{Asked}
use Rattle.grain_frame.specs.declared.runs.Run.{Run}
use Rattle.grain_frame.specs.lemmas.Bound.{reading}
use Rattle.grain_vm.specs.Driving.{DoesRequest, beside, name_in}
use Rattle.grain_vm.specs.Methods.{given_to}
use Rattle.grain_vm.specs.OnReceivers.{AsksOn, on_asking}
use Rattle.grain_vm.specs.Receivers.{HearsRoot, native_call}
use Rattle.grain_vm.specs.declared.driving.AskingNative.{AskingNative}
use Rattle.grain_vm.specs.declared.driving.Answered.TheVariants as answered
use Rattle.grain_vm.specs.declared.natives.LentCell.{LentCell}
use Rattle.grain_vm.proofs.LentNatives.{AsksFirst, first_later, first_of, follows_first}
use Rattle.grain_vm.proofs.OnNatives.{read, reads}

-- The call of a native of this name, on this receiver and these arguments.
module _ {H : Type 0} (m : Setup H) (name : List ℕ) (q : Position) (ts : List Tree) (h : Held)
    (f : Option Place → Frame) (at : (place : Option Place) → position m (f place) ≡ q) (s : Run H)
    (n : StepsView) (host : H) where
  abbrev pub Asks : Asked → Held → Option LentCell → Run H → StepsView → H → Type 0
  Asks a left back t n' host' =
      AsksOn m (native_call f name (given_to ts)) h f s n host a left back t n' host'

  abbrev Acts : Asked → Held → Option LentCell → Run H → StepsView → H → Type 0
  Acts a left back t n' host' =
      (scope : List Entry) (this : Option Held) (u : Environment) (place : Option Place)
      (heard : HearsRoot H) (stop : Option ℕ) → NoStopWithin stop n.passed n'.passed →
      read m name q ts h f at s n host scope this u stop (f place)
      (heard (stopped m stop) place (length u.roots)) (flat_all s.cells (given_to ts))
      ≡ on_asking a f left back heard (stopped m stop) place (world (beside scope this t n' host') u)

  by_acts : (a : Asked) (left : Held) (back : Option LentCell) (t : Run H) (n' : StepsView)
      (host' : H) → n.passed ≤ n'.passed → Acts a left back t n' host' → Asks a left back t n' host'
  by_acts a left back t n' host' order acts = λ scope this heard.
      reading refl order (λ stop clear halts u place bound.
      acts scope this u place heard stop clear)

  module _ (args : List Held) (flat : flat_all s.cells (given_to ts) ≡ Some args) (a : AskingNative)
      (n' : StepsView) (host' : H) where
    -- the receiver is no cell
    pub asks_plain : cell_of h.value ≡ None →
        (did : AsksFirst m.law host name h args q n a n' host') →
        Asks a.asked (written m.law host did.one.key (trees_in args) h) None s n' host'
    asks_plain none did =
        by_acts a.asked (written m.law host did.one.key (trees_in args) h) None s n' host'
        (first_later m.law host name h args q n a n' host' did)
        (λ scope this u place heard stop clear.
        reads m name q ts h f at s n host m.law refl (InScope 0) args flat scope this u stop (f place)
        (heard (stopped m stop) place (length u.roots)) None none
        ∙ follows_first m.law m refl name (InScope 0) h args q (f place) (at place)
        (heard (stopped m stop) place (length u.roots)) scope this s u.roots u n host a n' host' did
        stop clear)

    -- it is a cell, whose content the native is lent
    pub asks_cell : (k : ℕ) (c : Held) → cell_of h.value ≡ Some k → slice_get s.cells k ≡ Some (idle c) →
        (did : AsksFirst m.law host name (record c { read_only = h.read_only }) args q n a n' host') →
        Asks a.asked
        (written m.law host did.one.key (trees_in args) (record c { read_only = h.read_only }))
        (Some (record { receiver = h; cell = k; read_only = c.read_only }))
        (record s { cells = slice_set s.cells k (lent c) }) n' host'
    asks_cell k c is there did =
        let x : Held = record c { read_only = h.read_only } in
        let away : Run H = record s { cells = slice_set s.cells k (lent c) } in
        by_acts a.asked (written m.law host did.one.key (trees_in args) x)
        (Some (record { receiver = h; cell = k; read_only = c.read_only })) away n' host'
        (first_later m.law host name x args q n a n' host' did)
        (λ scope this u place heard stop clear.
        reads m name q ts h f at s n host m.law refl (InScope 0) args flat scope this u stop (f place)
        (heard (stopped m stop) place (length u.roots)) (Some k) is
        ∙ ap (λ (y : Option Cell). native_lent_cell (stopped m stop) y k h.read_only name args (f place)
        (heard (stopped m stop) place (length u.roots))
        (record (world (beside scope this s n host) u) { roots = u.roots ++ h ∷ [] })) there
        ∙ follows_first m.law m refl name (InScope 0) x args q (f place) (at place)
        (cell_given_back (stopped m stop) k c (length (u.roots ++ h ∷ []))
        (heard (stopped m stop) place (length u.roots))) scope this away
        (u.roots ++ h ∷ []) u n host a n' host' did stop clear)

-- what a host did that was asked by a request, whose native asks for a call first
pub request_first : {H : Type 0} (law : Law H) (m : Setup H) → m.law ≡ law → (home : Home)
    (r : Request) (h : Held) (s : Run H) (n : StepsView) (host : H) (a : AskingNative)
    (n' : StepsView) (host' : H) →
    DoesRequest law (record r { receiver = Some h }) home s.cells n host (answered.Asks a) n' host' →
    (args : List Held) × (flat_all s.cells (given_to r.arguments) ≡ Some args)
    × AsksFirst m.law host (name_in r.what) h args r.pos n a n' host'
request_first law m own home r h s n host a n' host' (inl none) = absurd none
request_first law m own home r h s n host a n' host' (inr (inl none)) = absurd none.1
request_first {H} law m own home r h s n host a n' host' (inr (inr (args, flat, asked))) = (
  args,
  flat,
  subst (λ (l : Law H). AsksFirst l host (name_in r.what) h args r.pos n a n' host') (sym own)
      (first_of law host (name_in r.what) home h args r.pos n a n' host' asked),
)
