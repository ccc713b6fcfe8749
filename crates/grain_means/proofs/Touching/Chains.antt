-- Roots through a chain.
use Rattle.std.proofs.Common.{◌≡◌, ◌≤◌, ◌+◌, ◌∙◌, ℕ, zero, suc, List, [], ◌∷◌, ◌++◌, Option, Some, None, Bool, ◌&&◌, length, take, refl, sym, subst, arith, length-append}
use Rattle.std.proofs.lemmas.List.{length-take}
use Rattle.std.specs.Prelude.{slice_get, slice_set}
use Rattle.grain_value.specs.Cells.{idle, lent}
use Rattle.grain_value.specs.Operands.{top}
use Rattle.grain_value.specs.declared.stores.Cell.{Cell}
use Rattle.grain_value.specs.declared.values.Dynamic.{Dynamic}
use Rattle.grain_value.specs.declared.values.Held.{Held}
use Rattle.grain_fault.specs.Problems.{Plain, AssignmentToConstant, DataRace}
use Rattle.grain_program.specs.Chains.{assigns, chain_takes, slot_of}
use Rattle.grain_program.specs.View.{chain_of}
use Rattle.grain_program.specs.declared.code.chains.Chain.{Chain}
use Rattle.grain_program.specs.declared.code.chains.Root.{Root}
use Rattle.grain_program.specs.declared.code.chains.Root.TheVariants as root
use Rattle.grain_program.specs.declared.code.chains.Step.{Step}
use Rattle.grain_program.specs.declared.code.chains.Tail.{Tail}
use Rattle.grain_program.specs.declared.code.chains.Tail.TheVariants as tail
use Rattle.grain_means.specs.Places.{look}
use Rattle.grain_means.specs.Rules as rules
use Rattle.grain_means.specs.Rules.{assigned_operand, back_from, course_of, is_read_only, lent_cell, new_root, placed, race_text, root_name, without, world_place}
use Rattle.grain_means.specs.Tasks.{Task, Walked, WalkEnded, WalkFailed}
use Rattle.grain_means.specs.WalkEnds.{AllEnds, WalkEnds}
use Rattle.grain_means.specs.Walks.{Course, whole_walk}
use Rattle.grain_means.specs.Worlds.{Act, Frame, Place, Setup, World}
use Rattle.grain_means.specs.lemmas.LentPlaces.{found-new}
use Rattle.grain_means.proofs.Footing.{by_test}
use Rattle.grain_means.proofs.Walking.{no_step_ends, walk_ends}
use Rattle.grain_means.proofs.Touching.Frames.{At, Stays, looks, marks, pushes, raises, reads}
use Rattle.grain_means.proofs.Touching.Instructions.{finds_this}
use Rattle.grain_means.proofs.Touching.Walks.{One, ends_one, walks_on}
use Rattle.grain_means.proofs.Touching.Steps.{binds}
use Rattle.grain_means.proofs.Touching.Tasks.{Binds}
use Rattle.grain_means.proofs.Touching.Within.{bound_on}
use Rattle.grain_means.proofs.Touching.Writes.{Bound, Found, May, added, cut, may_deeper, may_own, may_past}

-- a walk leaves one root, also one of no step
one_left : (c : Course) (steps : List Step) → AllEnds One 1 (whole_walk c steps)
one_left c [] = ends_one _ (λ n o h. h.0) (whole_walk c []) 1 (no_step_ends c)
one_left c (s ∷ steps) =
    ends_one (WalkEnds c (s ∷ steps)) (λ n o h. h.0) (whole_walk c (s ∷ steps)) 1
    (walk_ends c (s ∷ steps) (omega arith))

-- where a walk from a new root may write, and one from the frame's `this`
may_new : (t : Option Place) (size : ℕ) (p : Place) (n : ℕ) → size ≤ p.root → size ≤ n →
    (q : Place) → May t size (placed p n q)
may_new t size p n low beyond q = at q.root where
  at : (i : ℕ) → May t size (world_place p n i q.path)
  at zero = may_past t size (world_place p n zero q.path) low
  at (suc i) = may_past t size (world_place p n (suc i) q.path) (omega (arith, beyond))

may_inside : (t : Option Place) (size : ℕ) (p : Place) (n : ℕ) → t ≡ Some p → size ≤ n →
    (q : Place) → May t size (placed p n q)
may_inside t size p n e beyond q = at q.root where
  at : (i : ℕ) → May t size (world_place p n i q.path)
  at zero = may_deeper t size p (world_place p n zero q.path) refl q.path refl (may_own t size p e)
  at (suc i) = may_past t size (world_place p n (suc i) q.path) (omega (arith, beyond))

-- wherever a walk begins, it calls functions only under places that are there
abbrev BindsAll : Task → Type 0
BindsAll task = (p : Place) (n : ℕ) (rs : List Held) → length rs ≡ n → Found rs p → Binds p n rs task

module _ {S : Type 0} (m : Setup S) (t : Option Place) (old : List Held) where
  abbrev Here : World S → Type 0
  Here w = At m t old w

  abbrev Keeps : Act S → Type 0
  Keeps act = Stays m t old act

  module _ (g : Frame) (is : g.this ≡ t) (k : ℕ) (task : Task) (one : AllEnds One 1 task)
      (calls : BindsAll task) (next : ℕ) where
    -- a walk is over
    chain_ends : (o : Walked) (w : World S) → Here w → Keeps (rules.chain_over m k next g o w)
    chain_ends (WalkEnded v changed) w at =
        pushes m t old g is next g.operands v (record w { trace = [] }) at
    chain_ends (WalkFailed j x) w at =
        raises m t old (record g { slot = Some (slot_of m.program k j) }) is x w at

    -- a walk from a root that is added
    walks_from : (h : Held) (back : Held → World S → World S) →
        ((r : Held) (v : World S) → Here v → Here (back r v)) → (w : World S) → Here w →
        Keeps (rules.walk_from m k task next g h back w)
    walks_from h back backs w at =
        let size : length w.roots ≡ length old = at.1 in
        walks_on m t old k g (new_root w.roots) (length w.roots + 1) (omega (arith, size))
        (may_new t (length old) (new_root w.roots) (length w.roots + 1) (omega (arith, size))
        (omega (arith, size)))
        (λ o v. rules.chain_over m k next g o (back (look v.roots (new_root w.roots))
        (record v { roots = take (length w.roots) v.roots })))
        (λ o v there. chain_ends o (back (look v.roots (new_root w.roots))
        (record v { roots = take (length w.roots) v.roots }))
        (backs (look v.roots (new_root w.roots))
        (record v { roots = take (length w.roots) v.roots }) (
          cut (length w.roots) (omega (arith, size)) there.0,
          omega (arith, size, there.1, length-take (length w.roots) v.roots),
        )))
        None task 1 one (record w { roots = w.roots ++ h ∷ [] })
        (λ given. calls (new_root w.roots) (length w.roots + 1) (w.roots ++ h ∷ [])
        (omega (arith, length-append w.roots (h ∷ []))) (h, found-new w.roots h)) (
          added h at.0,
          omega (arith, length-append w.roots (h ∷ [])),
          omega (arith, size, length-append w.roots (h ∷ [])),
        )

    -- a walk from where a `this` stands
    walks_at : (p : Place) → t ≡ Some p → (w : World S) → Here w →
        Keeps (rules.walk_at m k task next g p w)
    walks_at p e w at =
        let size : length w.roots ≡ length old = at.1 in
        walks_on m t old k g p (length w.roots) (omega (arith, size))
        (may_inside t (length old) p (length w.roots) e (omega (arith, size)))
        (λ o v. rules.chain_over m k next g o v)
        (λ o v there. chain_ends o v (there.0, omega (arith, size, there.1)))
        None task 1 one w
        (λ given. calls p (length w.roots) w.roots refl
        (subst (λ (o : Option Place). Bound o w.roots) e (bound_on t old w.roots at given)))
        (at.0, refl, omega (arith, size))

    entry_back : (r : Root) (h : Held) (v : World S) → Here v → Here (back_from r g h v)
    entry_back (root.Local name slot) h v at = at
    entry_back (root.This q) h v at = at
    entry_back root.Temporary h v at = at

    walks_held : (r : Root) (o : Option Place) → g.this ≡ o → (h : Held) (w : World S) → Here w →
        Keeps (rules.walk_held m r o h k task next g w)
    walks_held (root.This q) (Some p) e h w at = walks_at p (sym is ∙ e) w at
    walks_held (root.This q) None e h w at =
        walks_from h (back_from (root.This q) g) (entry_back (root.This q)) w at
    walks_held (root.Local name slot) o e h w at =
        walks_from h (back_from (root.Local name slot) g) (entry_back (root.Local name slot)) w at
    walks_held root.Temporary o e h w at =
        walks_from h (back_from root.Temporary g) (entry_back root.Temporary) w at

    module _ (f : Frame) (too : f.this ≡ t) where
      -- a walk from what a cell holds, which is lent
      walks_cell : (o : Option Cell) (i : ℕ) (read_only : Bool) (name : List ℕ) (w : World S) →
          Here w → Keeps (rules.walk_cell m o i read_only k task next name f g w)
      walks_cell None i read_only name w at =
          raises m t old f too (Plain (DataRace (race_text name)) (rules.position m f)) w at
      walks_cell (Some c) i read_only name w at =
          by_test Keeps c.busy (rules.data_race m name f w)
          (rules.walk_from m k task next g content back_in
          (record w { cells = slice_set w.cells i (lent c.held) }))
          (λ busy. raises m t old f too (Plain (DataRace (race_text name)) (rules.position m f)) w at)
          (λ free. walks_from content back_in (λ r v there. there)
          (record w { cells = slice_set w.cells i (lent c.held) }) at) where
            content : Held
            content = record { value = c.held.value; read_only = read_only }

            back_in : Held → World S → World S
            back_in h v = record v {
              cells = slice_set v.cells i (idle (record c.held { value = h.value }));
            }

      walks_root : (o : Option ℕ) (h : Held) (c : Chain) (w : World S) → Here w →
          Keeps (rules.walk_root m o h k c task next f g w)
      walks_root None h c w at = walks_held c.root g.this refl h w at
      walks_root (Some i) h c w at =
          walks_cell (slice_get w.cells i) i (is_read_only w h) (root_name m.program c.root) w at

  module _ (f : Frame) (is : f.this ≡ t) where
    finds_root : (r : Root) (w : World S) → Here w → (go : Held → Act S) →
        ((h : Held) → Keeps (go h)) → Keeps (rules.at_root m r f w go)
    finds_root (root.Local name slot) w at go going = looks m t old f is slot w at go going
    finds_root (root.This q) w at go going =
        finds_this m t old f is q w at (λ p. go (look w.roots p)) (λ p e. going (look w.roots p))
    finds_root root.Temporary w at go going = going (top f.operands)

    reads_assigned : (l : Tail) (h : Held) (w : World S) → Here w → (go : Option Dynamic → Act S) →
        ((o : Option Dynamic) → Keeps (go o)) → Keeps (rules.assigned_value m l h f w go)
    reads_assigned tail.Read h w at go going = going None
    reads_assigned (tail.Assign op) h w at go going =
        reads m t old f is h [] w at (λ v. go (Some v)) (λ v. going (Some v))

  pub chains : (k next : ℕ) (f : Frame) → f.this ≡ t → (w : World S) → Here w →
      Keeps (rules.chain m k next f w)
  chains k next f is w at =
      finds_root first is c.root w at
      (λ h. rules.unless_constant m c h first w (tails h))
      (λ h. by_test Keeps (assigns c.tail && is_read_only w h)
      (rules.raised m first
      (Plain (AssignmentToConstant (root_name m.program c.root)) (rules.root_position m c.root first)) w)
      (tails h)
      (λ constant. raises m t old first is (Plain (AssignmentToConstant (root_name m.program c.root))
      (rules.root_position m c.root first)) w at)
      (λ may. reads_assigned first is c.tail (assigned_operand c f.operands) w at (begins h)
      (λ v. marks m t old first w (walking h v) at
      (walks_root (without (chain_takes c) f) is k (whole_walk (course_of m c first v) c.steps)
      (one_left (course_of m c first v) c.steps)
      (λ p n. binds p n (course_of m c first v) c.steps) next first is
      (lent_cell m.program c.steps h) h c
      (record w { passed = w.passed + 1 }) at)))) where
        c : Chain
        c = chain_of m.program k

        first : Frame
        first = record f { slot = Some (slot_of m.program k 0) }

        walking : Held → Option Dynamic → World S → Act S
        walking h v = rules.walk_root m (lent_cell m.program c.steps h) h k c
            (whole_walk (course_of m c first v) c.steps) next first (without (chain_takes c) f)

        begins : Held → Option Dynamic → Act S
        begins h v = rules.marked m first w (walking h v)

        tails : Held → Act S
        tails h = rules.assigned_value m c.tail (assigned_operand c f.operands) first w (begins h)
