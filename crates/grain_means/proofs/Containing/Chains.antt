-- A chain keeps to the store.
use Rattle.std.proofs.Common.{◌≡◌, ◌≤◌, ◌+◌, ℕ, zero, suc, List, [], ◌∷◌, ◌++◌, Option, Some, None, Bool, true, false, if◌then◌else◌, ◌&&◌, length, take, refl, sym, subst, arith, length-append}
use Rattle.std.specs.List.{AllByRecursion}
use Rattle.std.specs.Prelude.{slice_get, slice_set}
use Rattle.grain_value.specs.Cells.{idle, lent}
use Rattle.grain_value.specs.Looking.{cell_of}
use Rattle.grain_value.specs.Operands.{top, under}
use Rattle.grain_value.specs.declared.stores.Cell.{Cell}
use Rattle.grain_value.specs.declared.values.Dynamic.{Dynamic}
use Rattle.grain_value.specs.declared.values.Held.{Held}
use Rattle.grain_value.specs.declared.values.paths.PathStep.{PathStep}
use Rattle.grain_fault.specs.Problems.{Plain, AssignmentToConstant, DataRace}
use Rattle.grain_fault.specs.declared.places.Position.{Position}
use Rattle.grain_program.specs.Chains.{assigns, chain_takes, slot_of}
use Rattle.grain_program.specs.View.{chain_of}
use Rattle.grain_program.specs.declared.code.chains.Chain.{Chain}
use Rattle.grain_program.specs.declared.code.chains.Root.{Root}
use Rattle.grain_program.specs.declared.code.chains.Root.TheVariants as root
use Rattle.grain_program.specs.declared.code.chains.Tail.{Tail}
use Rattle.grain_program.specs.declared.code.chains.Tail.TheVariants as tail
use Rattle.grain_means.specs.Contained.{HeldNames}
use Rattle.grain_means.specs.Places.{look, or_unit}
use Rattle.grain_means.specs.Rules as rules
use Rattle.grain_means.specs.Rules.{asks_root, assigned_operand, back_from, course_of, is_read_only, lent_cell, new_root, placed, race_text, root_name, root_operands, steps_operands, trees_in, without, world_place}
use Rattle.grain_means.specs.Tasks.{Task, Walked, WalkEnded, WalkFailed}
use Rattle.grain_means.specs.Walks.{whole_walk}
use Rattle.grain_means.specs.Worlds.{Act, Frame, Place, Setup, World}
use Rattle.grain_means.proofs.Footing.{by_test}
use Rattle.grain_means.proofs.Inside.{Firm, TreeNames, firm}
use Rattle.grain_means.proofs.Naming.{CellHolds, all_got, arguments_name, top_names, under_names}
use Rattle.grain_means.proofs.Containing.Parts.{FrameNames, Operands}
use Rattle.grain_means.proofs.Containing.Frames.{Grounds, At, Keeps, bases, entry_set, raises}
use Rattle.grain_means.proofs.Containing.Leaving.{Holds, Leaves}
use Rattle.grain_means.proofs.Containing.Roots.{FirmAt, firm_look, look_names, look_whole, new_root_plain, past_roots}
use Rattle.grain_means.proofs.Containing.Keeping.{Kept, cell_back, cell_lent, from_here, joined_on, root_gone, with_root}
use Rattle.grain_means.proofs.Containing.Steps.{Stays, Here, frame_wider, looking, marking, pushing, raising, reading}
use Rattle.grain_means.proofs.Containing.StepTasks.{AssignsNames, CourseNames, bare_names, walk_names}
use Rattle.grain_means.proofs.Containing.Tasks.{Solid, TaskNames, WalkedNames}
use Rattle.grain_means.proofs.Containing.ThisSteps.{at_place, stands_at}
use Rattle.grain_means.proofs.Containing.Walks.{walks_within}

-- what a `this` that is a chain's root holds is what stands at its place
abbrev RootIs : Root → Option Place → Held → List Held → Type 0
RootIs (root.This q) (Some p) h roots = h ≡ look roots p
RootIs r o h roots = Unit {0}

root_is : (q : Position) (o : Option Place) (p : Place) (roots : List Held) → o ≡ Some p →
    RootIs (root.This q) o (look roots p) roots
root_is q None p roots e = tt
root_is q (Some r) p roots e =
    let same : r ≡ p = cc in subst (λ (x : Place). look roots p ≡ look roots x) (sym same) refl

module _ {S : Type 0} {m : Setup S} (on : Grounds m) where
  open on use {clean, least, since}

  module _ (n : ℕ) (low : least ≤ n) where
    -- a walk is over
    chain_ends : (k next : ℕ) (g : Frame) → FrameNames clean n g → (o : Walked) (w : World S) →
        WalkedNames clean n o → At on n w → Keeps on n low (rules.chain_over m k next g o w)
    chain_ends k next g names (WalkEnded v changed) w bound at =
        pushing on n low g names next g.operands v (record w { trace = [] }) at names.0 bound
    chain_ends k next g names (WalkFailed j x) w bound at =
        raises on n low (record g { slot = Some (slot_of m.program k j) }) names x w at bound

  -- what stands further inside than at a firm place
  firm_place : (path more : List PathStep) (r : Held) → Firm path r → Firm (path ++ more) r
  firm_place [] more r sure = firm more r sure
  firm_place (s ∷ path) more r sure = tt

  -- Where a walk began at a firm place of these roots, if it is not bare, and adds its own after them,
  -- all solid places are firm.
  firm_walk : (bare : Bool) (roots : List Held) (p : Place) (i : ℕ) → length roots ≤ i →
      (bare ≡ false → FirmAt roots p) → (q : Place) → Solid bare q → FirmAt roots (placed p i q)
  firm_walk bare roots p i beyond sure q solid = at bare q.root solid sure where
    at : (bare : Bool) (j : ℕ) → (bare ≡ true → 1 ≤ j) → (bare ≡ false → FirmAt roots p) →
        FirmAt roots (world_place p i j q.path)
    at false zero solid sure =
        firm_place p.path q.path (or_unit (slice_get roots p.root)) (sure refl)
    at true zero solid sure = absurd (omega (arith, solid refl))
    at bare (suc j) solid sure =
        firm q.path (or_unit (slice_get roots (i + j)))
        (past_roots roots (i + j) (omega (arith, beyond)))

  -- the root that a walk added to those of a world, and the world without it
  abbrev own_root : World S → World S → Held
  own_root w v = look v.roots (new_root w.roots)

  abbrev without_root : World S → World S → World S
  without_root w v = record v { roots = take (length w.roots) v.roots }

  module _ (n : ℕ) (low : least ≤ n) (k : ℕ) (bare : Bool) (task : Task)
      (written : TaskNames clean bare n task) (next : ℕ) (g : Frame) (names : FrameNames clean n g)
    where
      wide : (j : ℕ) → n ≤ j → FrameNames clean j g
      wide j le = frame_wider on n j g le names

      -- a walk from a root that is added
      walks_from : (h : Held) → HeldNames clean n h → (bare ≡ false → cell_of h.value ≡ None) →
          (back : Held → World S → World S) (w : World S) →
          Kept m.law clean n (record since { cells = w.cells; roots = w.roots ++ h ∷ [] }) w.scope w.cells
          w.host (w.roots ++ h ∷ []) →
          ((j : ℕ) → n ≤ j → (r : Held) (v : World S) → HeldNames clean j r →
          (cell_of h.value ≡ None → cell_of r.value ≡ None) →
          Holds m clean (record since { cells = w.cells; roots = w.roots }) j v → At on j (back r v)) →
          Keeps on n low (rules.walk_from m k task next g h back w)
      walks_from h held plain back w begun backs =
          walks_within (bases inner) since bare g k (new_root w.roots) (length w.roots + 1)
          (firm_walk bare (w.roots ++ h ∷ []) (new_root w.roots) (length w.roots + 1)
          (omega (arith, length-append w.roots (h ∷ []))) (λ e. new_root_plain w.roots h (plain e)))
          (λ o v. rules.chain_over m k next g o (back (own_root w v) (without_root w v))) n over task n
          low (omega arith) written None (record w { roots = w.roots ++ h ∷ [] }) begun where
            inner : Grounds m
            inner = record on {
              since = record since { cells = w.cells; roots = w.roots ++ h ∷ [] };
            }

            over : (j : ℕ) → n ≤ j → (o : Walked) (v : World S) → WalkedNames clean j o →
                At inner j v →
                Leaves m clean since j
                (rules.chain_over m k next g o (back (own_root w v) (without_root w v)))
            over j le o v bound at =
                chain_ends j (omega (arith, low, le)) k next g (wide j le) o
                (back (own_root w v) (without_root w v)) bound
                (backs j le (own_root w v) (without_root w v)
                (look_names clean j v.roots (w.roots ++ h ∷ []) (new_root w.roots) at.stand)
                (λ e. look_whole clean j v.roots (w.roots ++ h ∷ []) (length w.roots) at.stand
                (new_root_plain w.roots h e))
                (root_gone w.roots h at))

      -- a walk from where a `this` stands
      walks_at : (p : Place) (w : World S) → (bare ≡ false → cell_of (look w.roots p).value ≡ None) →
          At on n w → Keeps on n low (rules.walk_at m k task next g p w)
      walks_at p w plain at =
          walks_within (bases inner) since bare g k p (length w.roots)
          (firm_walk bare w.roots p (length w.roots) (omega arith)
          (λ e. firm_look w.roots p (plain e)))
          (λ o v. rules.chain_over m k next g o v) n over task n low (omega arith) written None
          w (from_here at) where
            inner : Grounds m
            inner = record on { since = record since { cells = w.cells; roots = w.roots } }

            over : (j : ℕ) → n ≤ j → (o : Walked) (v : World S) → WalkedNames clean j o →
                At inner j v → Leaves m clean since j (rules.chain_over m k next g o v)
            over j le o v bound there =
                chain_ends j (omega (arith, low, le)) k next g (wide j le) o v bound (joined_on at there)

      -- a root goes back to its entry
      entry_back : (r : Root) (j : ℕ) → least ≤ j → (h : Held) (v : World S) → HeldNames clean j h →
          At on j v → At on j (back_from r g h v)
      entry_back (root.Local name slot) j more h v held at =
          entry_set on j more v (g.base + slot) h at held
      entry_back (root.This q) j more h v held at = at
      entry_back root.Temporary j more h v held at = at

      from_entry : (r : Root) (h : Held) → HeldNames clean n h →
          (bare ≡ false → cell_of h.value ≡ None) → (w : World S) → At on n w →
          Keeps on n low (rules.walk_from m k task next g h (back_from r g) w)
      from_entry r h held plain w at =
          walks_from h held plain (back_from r g) w (with_root h held at)
          (λ j le x v named keeps there. entry_back r j (omega (arith, low, le)) x v named
          (joined_on at there))

      -- a walk from a root that is no cell which is lent
      walks_held : (r : Root) (o : Option Place) (h : Held) → HeldNames clean n h →
          (bare ≡ false → cell_of h.value ≡ None) → (w : World S) → At on n w →
          RootIs r o h w.roots → Keeps on n low (rules.walk_held m r o h k task next g w)
      walks_held (root.This q) (Some p) h held plain w at is =
          walks_at p w (λ e. subst (λ (x : Held). cell_of x.value ≡ None) is (plain e)) at
      walks_held (root.This q) None h held plain w at is = from_entry (root.This q) h held plain w at
      walks_held (root.Local name slot) o h held plain w at is =
          from_entry (root.Local name slot) h held plain w at
      walks_held root.Temporary o h held plain w at is = from_entry root.Temporary h held plain w at

  module _ (n : ℕ) (low : least ≤ n) (f : Frame) (names : FrameNames clean n f) (g : Frame)
      (kept : FrameNames clean n g) (k : ℕ) (task : Task) (written : TaskNames clean false n task)
      (next : ℕ) where
    -- a walk from what a cell holds, which is lent
    walks_cell : (o : Option Cell) (i : ℕ) (read_only : Bool) (name : List ℕ) (w : World S) →
        slice_get w.cells i ≡ o → At on n w →
        Keeps on n low (rules.walk_cell m o i read_only k task next name f g w)
    walks_cell None i read_only name w is at =
        raising on n low f names (Plain (DataRace (race_text name)) (rules.position m f)) w at
        (omega arith, λ s. refl)
    walks_cell (Some c) i read_only name w is at =
        by_test (Keeps on n low) c.busy (rules.data_race m name f w)
        (rules.walk_from m k task next g content back_in (record w { cells = lents }))
        (λ busy. raising on n low f names (Plain (DataRace (race_text name)) (rules.position m f)) w
        at (omega arith, λ s. refl))
        (λ free. walks_from n low k false task written next g kept content here.names
        (λ e. here.flat) back_in (record w { cells = lents })
        (with_root content here.names (cell_lent i c.held at))
        backs) where
          content : Held
          content = record { value = c.held.value; read_only = read_only }

          lents : List Cell
          lents = slice_set w.cells i (lent c.held)

          back_in : Held → World S → World S
          back_in = λ h v. record v {
            cells = slice_set v.cells i (idle (record c.held { value = h.value }));
          }

          here : CellHolds clean n c
          here = all_got (CellHolds clean n) w.cells i c at.contents is

          backs : (j : ℕ) → n ≤ j → (r : Held) (v : World S) → HeldNames clean j r →
              (cell_of c.held.value ≡ None → cell_of r.value ≡ None) →
              Holds m clean (record since { cells = lents; roots = w.roots }) j v → At on j (back_in r v)
          backs j le r v named keeps there =
              cell_back i c.held (record c.held { value = r.value }) named (keeps here.flat) at there

    module _ (c : Chain) (bare : asks_root m.program c.steps ≡ true → TaskNames clean true n task)
      where
        walks_root : (h : Held) → HeldNames clean n h → (w : World S) → At on n w →
            RootIs c.root g.this h w.roots →
            Keeps on n low (rules.walk_root m (lent_cell m.program c.steps h) h k c task next f g w)
        walks_root h held w at is = by_question (asks_root m.program c.steps) refl where
          by_cell : (o : Option ℕ) → cell_of h.value ≡ o →
              Keeps on n low (rules.walk_root m o h k c task next f g w)
          by_cell None plain =
              walks_held n low k false task written next g kept c.root g.this h held (λ e. plain) w at is
          by_cell (Some i) cell =
              walks_cell (slice_get w.cells i) i (is_read_only w h) (root_name m.program c.root) w refl
              at

          by_question : (b : Bool) → asks_root m.program c.steps ≡ b →
              Keeps on n low (rules.walk_root m (if b then None else cell_of h.value) h k c task next f
              g w)
          by_question true asks =
              walks_held n low k true task (bare asks) next g kept c.root g.this h held
              (λ e. absurd cc) w at is
          by_question false not = by_cell (cell_of h.value) refl

  module _ (n : ℕ) (low : least ≤ n) where
    -- the trees of operands
    trees_name : (hs : List Held) → Operands clean n hs →
        AllByRecursion (TreeNames clean n) (trees_in hs)
    trees_name [] h = tt
    trees_name (x ∷ hs) h = (h.0, trees_name hs h.1)

    steps_name : (c : Chain) (hs : List Held) → Operands clean n hs →
        Operands clean n (steps_operands c hs)
    steps_name c hs h =
        arguments_name clean n c.operands (under (root_operands c.root) hs)
        (under_names clean n (root_operands c.root) hs h)

    assigned_name : (c : Chain) (hs : List Held) → Operands clean n hs →
        HeldNames clean n (assigned_operand c hs)
    assigned_name c hs h =
        top_names clean n (under (c.operands + root_operands c.root) hs)
        (under_names clean n (c.operands + root_operands c.root) hs h)

    module _ (f : Frame) (names : FrameNames clean n f) (g : Frame) (kept : FrameNames clean n g)
        (same : f.this ≡ g.this) (k : ℕ) (c : Chain) (next : ℕ) where
      -- the chain's walk, once its value is read
      takes_walk : (h : Held) → HeldNames clean n h → (v : Option Dynamic) →
          AssignsNames clean n v → (w : World S) → At on n w → RootIs c.root g.this h w.roots →
          Keeps on n low (rules.marked m f w (rules.walk_root m (lent_cell m.program c.steps h) h k c
          (whole_walk (course_of m c f v) c.steps) next f g))
      takes_walk h held v value w at is =
          let names_of : CourseNames clean n (course_of m c f v) = (
            trees_name (steps_operands c f.operands) (steps_name c f.operands names.0),
            value,
          ) in
          marking on n low f names w (rules.walk_root m (lent_cell m.program c.steps h) h k c
          (whole_walk (course_of m c f v) c.steps) next f g) at
          (walks_root n low f names g kept k (whole_walk (course_of m c f v) c.steps)
          (walk_names clean n (course_of m c f v) names_of c.steps) next c
          (bare_names clean n (course_of m c f v) names_of c.steps) h held
          (record w { passed = w.passed + 1 }) at is)

      reads_value : (t : Tail) (h : Held) → HeldNames clean n h → (w : World S) → At on n w →
          RootIs c.root g.this h w.roots →
          Keeps on n low (rules.assigned_value m t (assigned_operand c f.operands) f w (λ v.
          rules.marked m f w (rules.walk_root m (lent_cell m.program c.steps h) h k c
          (whole_walk (course_of m c f v) c.steps) next f g)))
      reads_value tail.Read h held w at is = takes_walk h held None tt w at is
      reads_value (tail.Assign o) h held w at is =
          reading on n low f names (assigned_operand c f.operands) [] w at
          (assigned_name c f.operands names.0)
          (λ v. rules.marked m f w (rules.walk_root m (lent_cell m.program c.steps h) h k c
          (whole_walk (course_of m c f (Some v)) c.steps) next f g))
          (λ v read plain. takes_walk h held (Some v) (read, plain) w at is)

      from_root : (h : Held) → HeldNames clean n h → (w : World S) → At on n w →
          RootIs c.root g.this h w.roots →
          Keeps on n low (rules.unless_constant m c h f w
          (rules.assigned_value m c.tail (assigned_operand c f.operands) f w (λ v.
          rules.marked m f w (rules.walk_root m (lent_cell m.program c.steps h) h k c
          (whole_walk (course_of m c f v) c.steps) next f g))))
      from_root h held w at is =
          by_test (Keeps on n low) (assigns c.tail && is_read_only w h)
          (rules.raised m f (Plain (AssignmentToConstant (root_name m.program c.root))
          (rules.root_position m c.root f)) w)
          (rules.assigned_value m c.tail (assigned_operand c f.operands) f w (λ v.
          rules.marked m f w (rules.walk_root m (lent_cell m.program c.steps h) h k c
          (whole_walk (course_of m c f v) c.steps) next f g)))
          (λ constant. raising on n low f names (Plain (AssignmentToConstant (root_name m.program
          c.root)) (rules.root_position m c.root f)) w at (omega arith, λ s. refl))
          (λ may. reads_value c.tail h held w at is)

      found : (r : Root) (go : Held → Act S) (w : World S) → At on n w →
          ((h : Held) → HeldNames clean n h → RootIs r f.this h w.roots → Keeps on n low (go h)) →
          Keeps on n low (rules.at_root m r f w go)
      found (root.Local name slot) go w at going =
          looking on n low f names slot w at go (λ h is held. going h held tt)
      found (root.This q) go w at going =
          at_place on n low f names f.this q w at (λ p. go (look w.roots p))
          (λ p is. going (look w.roots p) (stands_at on n low f names p w at)
          (root_is q f.this p w.roots is))
      found root.Temporary go w at going =
          going (top f.operands) (top_names clean n f.operands names.0) tt

      chain_in : (w : World S) → At on n w → Keeps on n low (rules.chain_in m k c next f g w)
      chain_in w at =
          found c.root _ w at (λ h held is. from_root h held w at
          (subst (λ (o : Option Place). RootIs c.root o h w.roots) same is))

    pub chains : (f : Frame) (names : FrameNames clean n f) (k next : ℕ) (w : World S) →
        Here on n low f names w → Stays on n low f names (rules.chain m k next f w)
    chains f names k next w at =
        let c = chain_of m.program k in
        chain_in (record f { slot = Some (slot_of m.program k 0) }) names
        (without (chain_takes c) f)
        (under_names clean n (chain_takes c) f.operands names.0, names.1) refl k c next w at
