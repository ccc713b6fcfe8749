-- Natives that are called on a receiver: what the code did, and what their rule says.
use Rattle.std.proofs.Common.{◌≡◌, ◌∙◌, ◌⊎◌, ◌+◌, ◌≤◌, ℕ, List, [], ◌∷◌, ◌++◌, Option, Some, None, Bool, true, false, Result, Ok, Err, inl, inr, length, take, append-nil, refl, sym, ap, subst, arith}
use Rattle.std.specs.Prelude.{if◌then◌else◌, slice_get, slice_set}
use Rattle.grain_value.specs.Cells.{content, idle, lent}
use Rattle.grain_value.specs.Looking.{cell_of}
use Rattle.grain_value.specs.Tree.{Tree}
use Rattle.grain_value.specs.declared.scopes.Entry.{Entry}
use Rattle.grain_value.specs.declared.stores.Cell.{Cell}
use Rattle.grain_value.specs.declared.values.Dynamic.{Dynamic}
use Rattle.grain_value.specs.declared.values.Held.{Held}
use Rattle.grain_fault.specs.Problems.{DataRace, NoMemory, Plain, Problem, problem_of}
use Rattle.grain_fault.specs.declared.faults.EvalAltResult.{EvalAltResult}
use Rattle.grain_fault.specs.declared.places.Position.{Position}
use Rattle.grain_host.specs.Law.{Law}
use Rattle.grain_global.specs.StepsView.{StepsView}
use Rattle.grain_means.specs.Worlds.{is_stop, Act, Answer, Failed, Frame, Place, Setup, World}
use Rattle.grain_means.specs.Places.{look}
use Rattle.grain_means.specs.Rules.Chains.{new_root}
use Rattle.grain_means.specs.Rules.Faults.{position, race_text}
use Rattle.grain_means.specs.Rules.Homes.{Home}
use Rattle.grain_means.specs.Rules.InWorld.{failed_so, lent_at}
use Rattle.grain_means.specs.Rules.Reads.{flat_all}
use Rattle.grain_means.specs.Rules.Receivers.{cell_given_back, native_lent, native_lent_cell, native_on, native_on_read}
use Rattle.grain_means.specs.Simulation.{Environment, NoStopWithin, StopsHere, stopped, world}
use Rattle.grain_means.specs.lemmas.PlaceLaws.{set-again, set-get, some-inj, take-after}
use Rattle.grain_chain.specs.Walking.{is_want, no_memory, outcome_of}
use Rattle.grain_chain.specs.declared.requests.Request.{Request}
use Rattle.grain_frame.specs.declared.runs.Run.{Run}
use Rattle.grain_frame.specs.lemmas.Bound.{reading}
use Rattle.grain_vm.specs.Driving.{AsksHost, DoesRequest, RaisesOne, WantsMemory, beside, name_in}
use Rattle.grain_vm.specs.Methods.{given_to}
use Rattle.grain_vm.specs.Receivers.{CallsOn, native_call}
use Rattle.grain_vm.specs.declared.driving.Answered.TheVariants as answered
use Rattle.grain_vm.proofs.LentNatives.{asks_later, asks_out, follows_asked}
use Rattle.grain_vm.proofs.OnReceivers.{look-new}

-- ---- what is lent of a cell goes back

pub take-new : (bs : List Held) (h : Held) → take (length bs) (bs ++ h ∷ []) ≡ bs
take-new bs h = take-after bs (h ∷ []) (length bs) 0 (omega arith) ∙ append-nil bs

-- a cell that is not lent
not_lent : (c : Cell) → c.busy ≡ false → idle c.held ≡ c
not_lent c free = ap (λ (b : Bool). record c { busy = b }) (sym free)

unchanged : (cells : List Cell) (k : ℕ) (c : Cell) → slice_get cells k ≡ Some c → c.busy ≡ false →
    slice_set (slice_set cells k (lent c.held)) k (idle c.held) ≡ cells
unchanged cells k c is free =
    set-again cells k (lent c.held) (idle c.held)
    ∙ ap (slice_set cells k) (not_lent c free) ∙ set-get cells k c is

module _ {S : Type 0} (heard : Answer → World S → Act S) (w : World S) (k : ℕ) (c : Held) where
  -- the cell's content is a root of its own
  abbrev cell_lent : Held → World S
  cell_lent x = record w {
    roots = w.roots ++ x ∷ [];
    cells = slice_set w.cells k (lent c);
  }

  abbrev cell_back : Dynamic → World S
  cell_back v = record w {
    cells = slice_set (slice_set w.cells k (lent c)) k (idle (record c { value = v }));
  }

  pub goes_back : (m : Setup S) (a : Answer) (x : Held) →
      cell_given_back m k c (length w.roots) heard a (cell_lent x) ≡ heard a (cell_back x.value)
  goes_back m a x =
      ap (λ (y : Held). heard a (record (cell_back y.value) {
        roots = take (length w.roots) (w.roots ++ x ∷ []);
      })) (look-new w.roots x)
      ∙ ap (λ (us : List Held). heard a (record (cell_back x.value) { roots = us }))
      (take-new w.roots x)

-- ---- memory is out before any mark

module _ {S : Type 0} (n : Setup S) (g : Frame) (name : List ℕ) (heard : Answer → World S → Act S)
    (w : World S) (out : is_stop n.stop w.passed ≡ true) where
  busy_out : (b : Bool) (c : Cell) (k : ℕ) (flag : Bool) (args : List Held) → c.busy ≡ b →
      slice_get w.cells k ≡ Some c →
      (if b then failed_so n heard (Plain (DataRace (race_text [])) (position n g)) w
      else
      native_lent n name args g (cell_given_back n k c.held (length w.roots) heard) (new_root w.roots)
      (cell_lent heard w k c.held (record { value = c.held.value; read_only = flag })))
      ≡ heard (Failed NoMemory) w
  busy_out true c k flag args busy is = rw out refl
  busy_out false c k flag args free is =
      let x : Held = record { value = c.held.value; read_only = flag } in
      let there : World S = cell_lent heard w k c.held x in
      asks_out n g (position n g) refl name (lent_at there.roots (Some (new_root w.roots))) args
      (cell_given_back n k c.held (length w.roots) heard) there out
      ∙ goes_back heard w k c.held n (Failed NoMemory) x
      ∙ ap (λ (cells : List Cell). heard (Failed NoMemory) (record w { cells = cells }))
      (unchanged w.cells k c is free)

  cell_out : (o : Option Cell) (k : ℕ) (flag : Bool) (args : List Held) → slice_get w.cells k ≡ o →
      native_lent_cell n o k flag name args g heard w ≡ heard (Failed NoMemory) w
  cell_out None k flag args is = rw out refl
  cell_out (Some c) k flag args is = busy_out c.busy c k flag args refl is

  on_out : (o : Option ℕ) (h : Held) (args : List Held) (p : Place) →
      native_on n o h name args g heard p w ≡ heard (Failed NoMemory) w
  on_out None h args p =
      asks_out n g (position n g) refl name (lent_at w.roots (Some p)) args heard w out
  on_out (Some k) h args p = cell_out (slice_get w.cells k) k h.read_only args refl

  pub read_out : (o : Option (List Held)) (p : Place) →
      native_on_read n o name g heard p w ≡ heard (Failed NoMemory) w
  read_out None p = rw out refl
  read_out (Some args) p = on_out (cell_of (look w.roots p).value) (look w.roots p) args p

-- ---- an argument or the cell is lent already

module _ {S : Type 0} (n : Setup S) (g : Frame) (name : List ℕ) (heard : Answer → World S → Act S)
    (w : World S) where
  abbrev race : Act S
  race = failed_so n heard (Plain (DataRace (race_text [])) (position n g)) w

  cell_race : (o : Option Cell) (k : ℕ) (flag : Bool) (args : List Held) → content o ≡ None →
      native_lent_cell n o k flag name args g heard w ≡ race
  cell_race None k flag args none = refl
  cell_race (Some c) k flag args none = by c.busy none where
    by : (b : Bool) → (if b then None else Some c.held.value) ≡ None →
        (if b then race else
        native_lent n name args g (cell_given_back n k c.held (length w.roots) heard)
        (new_root w.roots)
        (cell_lent heard w k c.held (record { value = c.held.value; read_only = flag })))
        ≡ race
    by true e = refl
    by false e = absurd cc

  on_race : (o : Option (List Held)) (p : Place) (h : Held) (k : ℕ) → look w.roots p ≡ h →
      cell_of h.value ≡ Some k → content (slice_get w.cells k) ≡ None →
      native_on_read n o name g heard p w ≡ race
  on_race None p h k at is none = refl
  on_race (Some args) p h k at is none =
      ap (λ (x : Held). native_on n (cell_of x.value) x name args g heard p w) at
      ∙ ap (λ (x : Option ℕ). native_on n x h name args g heard p w) is
      ∙ cell_race (slice_get w.cells k) k h.read_only args none

  -- the mark at which it is raised
  race_marked : (q : Position) → position n g ≡ q → is_stop n.stop w.passed ≡ false →
      race ≡ heard (Failed (Plain (DataRace (race_text [])) q)) (record w { passed = w.passed + 1 })
  race_marked q at clear = rw (clear, at) refl

-- ---- the call of a native of this name, on this receiver and these arguments

module _ {H : Type 0} (m : Setup H) (name : List ℕ) (q : Position) (ts : List Tree) (h : Held)
    (f : Option Place → Frame) (at : (place : Option Place) → position m (f place) ≡ q) (s : Run H)
    (n : StepsView) (host : H) where
  abbrev pub Calls : Result Dynamic EvalAltResult → Held → Run H → StepsView → H → Type 0
  Calls o left t n' host' =
      CallsOn m (native_call f name (given_to ts)) h s n host o left t n' host'

  -- the world with this receiver
  abbrev pub with_root : List Entry → Option Held → Environment → Run H → StepsView → H → Held → World H
  with_root scope this u t l k x =
      record (world (beside scope this t l k) u) { roots = u.roots ++ x ∷ [] }

  abbrev pub read : List Entry → Option Held → Environment → Option ℕ → Frame →
      (Answer → World H → Act H) → Option (List Held) → Act H
  read scope this u stop g heard o =
      native_on_read (stopped m stop) o name g heard (new_root u.roots)
      (with_root scope this u s n host h)

  abbrev Acts : Result Dynamic EvalAltResult → Held → Run H → StepsView → H → Type 0
  Acts o left t n' host' =
      (scope : List Entry) (this : Option Held) (u : Environment) (g : Frame) → position m g ≡ q →
      (heard : Answer → World H → Act H) (stop : Option ℕ) → NoStopWithin stop n.passed n'.passed →
      StopsHere (is_want o) stop n'.passed →
      read scope this u stop g heard (flat_all s.cells (given_to ts))
      ≡ heard (outcome_of o) (with_root scope this u t n' host' left)

  by_acts : (o : Result Dynamic EvalAltResult) (left : Held) (t : Run H) (n' : StepsView) (host' : H) →
      n.passed ≤ n'.passed → Acts o left t n' host' → Calls o left t n' host'
  by_acts o left t n' host' order acts = λ scope this heard.
      reading refl order (λ stop clear halts u place bound.
      acts scope this u (f place) (at place) (heard (stopped m stop) place (length u.roots)) stop clear
      halts)

  out_here : (e : EvalAltResult) → problem_of e ≡ NoMemory → Calls (Err e) h s n host
  out_here e wants =
      by_acts (Err e) h s n host (omega arith) (λ scope this u g at_q heard stop clear halts.
      read_out (stopped m stop) g name heard (with_root scope this u s n host h)
      (subst (λ (y : Problem). StopsHere (no_memory y) stop n.passed) wants halts)
      (flat_all s.cells (given_to ts)) (new_root u.roots)
      ∙ ap (λ (y : Problem). heard (Failed y) (with_root scope this u s n host h)) (sym wants))

  -- memory is out
  pub calls_out : (o : Result Dynamic EvalAltResult) (left : Held) (n' : StepsView) (host' : H) →
      WantsMemory host (Some h) n o n' host' (Some left) → Calls o left s n' host'
  calls_out (Ok v) left n' host' wants = absurd wants
  calls_out (Err e) left n' host' wants =
      rw (wants.1, some-inj wants.2, wants.3) (out_here e wants.0)

  calls_race : (e : EvalAltResult) (n' : StepsView) →
      RaisesOne (Plain (DataRace (race_text [])) q) e n n' →
      ((scope : List Entry) (this : Option Held) (u : Environment) (stop : Option ℕ) (g : Frame)
      (heard : Answer → World H → Act H) →
      read scope this u stop g heard (flat_all s.cells (given_to ts))
      ≡ race (stopped m stop) g name heard (with_root scope this u s n host h)) →
      Calls (Err e) h s n' host
  calls_race e n' (inl wants) races = rw wants.1 (out_here e wants.0)
  calls_race e n' (inr raised) races =
      rw raised.1 (by_acts (Err e) h s (record n { passed = n.passed + 1 }) host (omega arith)
      (λ scope this u g at_q heard stop clear halts.
      races scope this u stop g heard
      ∙ race_marked (stopped m stop) g name heard (with_root scope this u s n host h) q at_q
      (clear n.passed (omega arith) (omega arith))
      ∙ ap (λ (y : Problem). heard (Failed y)
      (with_root scope this u s (record n { passed = n.passed + 1 }) host h)) (sym raised.0)))

  -- an argument is a cell whose content is lent
  pub calls_unread : (e : EvalAltResult) (n' : StepsView) →
      RaisesOne (Plain (DataRace (race_text [])) q) e n n' →
      flat_all s.cells (given_to ts) ≡ None → Calls (Err e) h s n' host
  calls_unread e n' raises none =
      calls_race e n' raises (λ scope this u stop g heard. ap (read scope this u stop g heard) none)

  -- the receiver is a cell that is lent or is not there
  pub calls_lent : (e : EvalAltResult) (n' : StepsView) (k : ℕ) →
      RaisesOne (Plain (DataRace (race_text [])) q) e n n' → cell_of h.value ≡ Some k →
      content (slice_get s.cells k) ≡ None → Calls (Err e) h s n' host
  calls_lent e n' k raises is none =
      calls_race e n' raises (λ scope this u stop g heard.
      on_race (stopped m stop) g name heard (with_root scope this u s n host h)
      (flat_all s.cells (given_to ts)) (new_root u.roots) h k (look-new u.roots h) is none)

  -- one of the two
  pub calls_refused : (e : EvalAltResult) (n' : StepsView) (k : ℕ) →
      RaisesOne (Plain (DataRace (race_text [])) q) e n n' → cell_of h.value ≡ Some k →
      (content (slice_get s.cells k) ≡ None) ⊎ (flat_all s.cells (given_to ts) ≡ None) →
      Calls (Err e) h s n' host
  calls_refused e n' k raises is (inl none) = calls_lent e n' k raises is none
  calls_refused e n' k raises is (inr none) = calls_unread e n' raises none

  module _ (law : Law H) (own : m.law ≡ law) (home : Home) (args : List Held)
      (flat : flat_all s.cells (given_to ts) ≡ Some args) where
    pub reads : (scope : List Entry) (this : Option Held) (u : Environment) (stop : Option ℕ) (g : Frame)
        (heard : Answer → World H → Act H) (cell : Option ℕ) → cell_of h.value ≡ cell →
        read scope this u stop g heard (flat_all s.cells (given_to ts))
        ≡ native_on (stopped m stop) cell h name args g heard (new_root u.roots)
        (with_root scope this u s n host h)
    reads scope this u stop g heard cell is =
        ap (read scope this u stop g heard) flat
        ∙ ap (λ (x : Held). native_on (stopped m stop) (cell_of x.value) x name args g heard
        (new_root u.roots) (with_root scope this u s n host h)) (look-new u.roots h)
        ∙ ap (λ (x : Option ℕ). native_on (stopped m stop) x h name args g heard
        (new_root u.roots) (with_root scope this u s n host h)) is

    -- the host was asked, for a receiver that is no cell
    pub calls_asked : (o : Result Dynamic EvalAltResult) (left : Held) (n' : StepsView) (host' : H) →
        cell_of h.value ≡ None →
        AsksHost law host name home (Some h) args q n (answered.Over (o, Some left)) n' host' →
        Calls o left s n' host'
    calls_asked o left n' host' none asked =
        by_acts o left s n' host'
        (asks_later law host name home (Some h) args q n o n' host' (Some left) asked)
        (λ scope this u g at_q heard stop clear halts.
        reads scope this u stop g heard None none
        ∙ follows_asked law m own name home h args q g at_q heard scope this s u.roots u n host o
        n' host' left asked stop clear halts)

    -- for what a cell holds
    pub calls_on_cell : (o : Result Dynamic EvalAltResult) (left : Held) (n' : StepsView) (host' : H)
        (k : ℕ) (c : Held) → cell_of h.value ≡ Some k → slice_get s.cells k ≡ Some (idle c) →
        AsksHost law host name home (Some (record c { read_only = h.read_only })) args q n
        (answered.Over (o, Some left)) n' host' →
        Calls o h (record s {
          cells =
              slice_set (slice_set s.cells k (lent c)) k (idle (record c { value = left.value }));
        }) n' host'
    calls_on_cell o left n' host' k c is there asked =
        let x : Held = record c { read_only = h.read_only } in
        let away : Run H = record s { cells = slice_set s.cells k (lent c) } in
        by_acts o h (record s {
          cells =
              slice_set (slice_set s.cells k (lent c)) k (idle (record c { value = left.value }));
        }) n' host' (asks_later law host name home (Some x) args q n o n' host' (Some left) asked)
        (λ scope this u g at_q heard stop clear halts.
        reads scope this u stop g heard (Some k) is
        ∙ ap (λ (y : Option Cell). native_lent_cell (stopped m stop) y k h.read_only name args g heard
        (with_root scope this u s n host h)) there
        ∙ follows_asked law m own name home x args q g at_q
        (cell_given_back (stopped m stop) k c (length (u.roots ++ h ∷ [])) heard) scope this away
        (u.roots ++ h ∷ []) u n host o n' host' left asked stop clear halts
        ∙ goes_back heard (with_root scope this u s n' host' h) k c (stopped m stop) (outcome_of o) left)

-- a request for a native was done, whose receiver is no cell
pub calls_request : {H : Type 0} (law : Law H) (m : Setup H)
    (own : m.law ≡ law) (home : Home) (r : Request) (h left : Held) (f : Option Place → Frame)
    (at : (place : Option Place) → position m (f place) ≡ r.pos) (s : Run H) (n : StepsView)
    (host : H) (o : Result Dynamic EvalAltResult) (n' : StepsView) (host' : H) →
    cell_of h.value ≡ None →
    DoesRequest law (record r { receiver = Some h }) home s.cells n host
    (answered.Over (o, Some left)) n' host' →
    CallsOn m (native_call f (name_in r.what) (given_to r.arguments)) h s n host o left s n' host'
calls_request law m own home r h left f at s n host o n' host' plain (inl wants) =
    calls_out m (name_in r.what) r.pos r.arguments h f at s n host o left n' host' wants
calls_request law m own home r h left f at s n host (Ok v) n' host' plain (inr (inl meets)) =
    absurd meets.1
calls_request law m own home r h left f at s n host (Err e) n' host' plain (inr (inl meets)) =
    let race_met = meets.1 in
    rw (race_met.1, some-inj race_met.2) (calls_unread m (name_in r.what) r.pos r.arguments h f at s n
    host e n' race_met.0 meets.0)
calls_request law m own home r h left f at s n host o n' host' plain
    (inr (inr (args, flat, asked))) =
    calls_asked m (name_in r.what) r.pos r.arguments h f at s n host law own home args flat o left
    n' host' plain asked
