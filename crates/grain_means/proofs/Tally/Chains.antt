-- The walk over the rules through a chain.
use Rattle.std.proofs.Common.{◌≡◌, ◌+◌, ℕ, List, [], ◌∷◌, ◌++◌, Option, Some, None, false, ◌&&◌, length, refl, sym, subst, inl, ◌⊎◌}
use Rattle.std.specs.Prelude.{slice_get, slice_set}
use Rattle.grain_value.specs.Cells.{flat, idle, lent}
use Rattle.grain_value.specs.Operands.{read_write, top, under}
use Rattle.grain_value.specs.declared.stores.Cell.{Cell}
use Rattle.grain_value.specs.declared.values.Dynamic.{Dynamic}
use Rattle.grain_value.specs.declared.values.Held.{Held}
use Rattle.grain_fault.specs.Classes.{catchable}
use Rattle.grain_fault.specs.Problems.{Problem, Plain, AssignmentToConstant, DataRace, Malformed, NoMemory, UnboundThis}
use Rattle.grain_fault.specs.declared.places.Position.{Position}
use Rattle.grain_fault.specs.declared.faults.MalformedKind.TheVariants as kind
use Rattle.grain_program.specs.Chains.{assigns, chain_takes, slot_of}
use Rattle.grain_program.specs.Decoding.{op_at}
use Rattle.grain_program.specs.View.{chain_of}
use Rattle.grain_program.specs.declared.code.chains.Chain.{Chain}
use Rattle.grain_program.specs.declared.code.chains.Root.{Root}
use Rattle.grain_program.specs.declared.code.chains.Root.TheVariants as root
use Rattle.grain_program.specs.declared.code.chains.Tail.{Tail}
use Rattle.grain_program.specs.declared.code.chains.Tail.TheVariants as tail
use Rattle.grain_program.specs.declared.code.instruction_set.Op.{Op}
use Rattle.grain_program.specs.declared.code.instruction_set.Op.TheVariants as op
use Rattle.grain_means.specs.Places.{look}
use Rattle.grain_means.specs.Rules as rules
use Rattle.grain_means.specs.Rules.{assigned_operand, back_from, course_of, held_at, is_read_only, position, race_text, root_name, root_position, stepped, without}
use Rattle.grain_means.specs.Tasks.{Task}
use Rattle.grain_means.specs.Walks.{whole_walk}
use Rattle.grain_means.specs.Worlds.{Act, Frame, Place, Setup, World}
use Rattle.grain_means.specs.Causes.{Cause}
use Rattle.grain_means.specs.Causes.Chains.{AssignsValue, ChainReads, ChainRow, LeavesNative, RootHolds, RootLends, by_chain, constant, past_scope, root_lent, unbound, value_lent, walk_of, walk_place, walk_roots}
use Rattle.grain_means.proofs.Footing.{Sits, by_test}
use Rattle.grain_means.proofs.Ground.{stays_set}
use Rattle.grain_means.proofs.Unlent.{lent_back, lent_out}
use Rattle.grain_means.proofs.Lengths.{past_scope as scope_passed}
use Rattle.grain_means.proofs.Tally.Calling.{ByChain}
use Rattle.grain_means.proofs.Tally.Entries.{busy_content}
use Rattle.grain_means.proofs.Tally.Faults.{even_raised_at}
use Rattle.grain_means.proofs.Tally.Frames.{Enough, Even, ReasonAt, Steady, Walk, all_there, even_marked_at, point, start, steady}
use Rattle.grain_means.proofs.Tally.Roots.{IsAdded, added_cell}
use Rattle.grain_means.proofs.Tally.ChainWalks.{Returns, even_added, even_walked, moved, steps_at}

module _ {S : Type 0} {m : Setup S} (walk : Walk m) where
  open walk use {root as whole_run, footing as k, frame as f, now, tokens, level, trace, keeps, sits}

  -- The chain of this index, by an instruction that stands where the frame does: the frame goes on
  -- without the chain's operands and with one value more, each fault has a reason by its row, and what
  -- the chain's walk calls and asks for, the chain does.
  module _ (o : Op) (width : ℕ) (stands : op_at m.program.code f.address ≡ Some (o, width))
      (index : ℕ) (c : Chain) (after : Enough walk o (under (chain_takes c) f.operands))
      (on : (v : Dynamic) → Sits m whole_run k (stepped f (f.address + width)
      (under (chain_takes c) f.operands ++ read_write v ∷ [])))
      (reason : (n : ℕ) (x : Problem) → ChainRow m c (point walk o) n x →
      ReasonAt walk (Some (slot_of m.program index n)) x)
      (reason_left : (n : ℕ) (x : Problem) → (x ≡ NoMemory) ⊎ LeavesNative m c (point walk o) n x →
      Cause m whole_run k.level x → catchable x ≡ false →
      ReasonAt walk (Some (slot_of m.program index n)) x)
      (calls : (so_far : ChainReads m c (point walk o)) (r : Held) (cells : List Cell) →
      RootLends (rules.lent_cell m.program c.steps so_far.held) so_far.held now r cells →
      ByChain walk o index (walk_of m c (point walk o) so_far.value
      (rules.lent_cell m.program c.steps so_far.held) r cells)) where
    abbrev ran : ℕ
    ran = now.ran + 1

    abbrev next : ℕ
    next = f.address + width

    -- the frame while its root is found, and while it walks
    abbrev rooting : Frame
    rooting = record f { slot = Some (slot_of m.program index 0) }

    abbrev walking : Frame
    walking = without (chain_takes c) f

    -- a root goes back to its entry
    entry_back : (a : Root) (h : Held) → Returns walk None (back_from a walking h)
    entry_back (root.Local name slot) h = record {
      stays = λ n w s.
          (s.0, s.1, s.2, stays_set w.scope w.cells (f.base + slot) h s.3);
      marks = λ w. refl;
    }
    entry_back (root.This q) h =
        record { stays = λ n w s. s; marks = λ w. refl }
    entry_back root.Temporary h =
        record { stays = λ n w s. s; marks = λ w. refl }

    -- a fault of the root
    even_rooting : (x : Problem) → ChainRow m c (point walk o) 0 x → (w : World S) → Steady walk ran w →
        Even walk ran (rules.raised m rooting x w)
    even_rooting x row w s =
        even_raised_at walk o width stands (Some (slot_of m.program index 0)) f.position f.operands
        (all_there walk o) ran x w s (reason 0 x row)

    -- the chain's mark is passed
    abbrev begun : World S
    begun = record now { ran = ran; passed = now.passed + 1 + 1 }

    module _ (so_far : ChainReads m c (point walk o)) where
      abbrev task : Task
      task = whole_walk (course_of m c f so_far.value) c.steps

      abbrev cell : Option ℕ
      cell = rules.lent_cell m.program c.steps so_far.held

      even_cell : (i : ℕ) → cell ≡ Some i → (a : Option Cell) → slice_get now.cells i ≡ a →
          Even walk ran (rules.walk_cell m a i (is_read_only now so_far.held) index task next
          (root_name m.program c.root) rooting walking begun)
      even_cell i is None e =
          even_rooting _ (root_lent so_far i is (rw e refl)) begun (refl, tokens, level, keeps)
      even_cell i is (Some a) e =
          by_test (Even walk ran) a.busy
          (rules.data_race m (root_name m.program c.root) rooting begun)
          (rules.walk_from m index task next walking
          (record { value = a.held.value; read_only = is_read_only now so_far.held }) in_cell
          (record begun { cells = slice_set now.cells i (lent a.held) }))
          (λ busy. even_rooting _ (root_lent so_far i is (rw e (busy_content a busy))) begun
          (refl, tokens, level, keeps))
          (λ free. even_added walk o width stands index c after on reason reason_left calls
          so_far
          (record { value = a.held.value; read_only = is_read_only now so_far.held })
          (slice_set now.cells i (lent a.held))
          (subst (λ (x : Option ℕ). RootLends x so_far.held now
          (record { value = a.held.value; read_only = is_read_only now so_far.held })
          (slice_set now.cells i (lent a.held))) (sym is) (a, e, free, refl, refl))
          (subst (λ (x : Option ℕ). IsAdded c.root x f.this) (sym is) (added_cell c.root i f.this))
          (Some i) (record {
            keeps = keeps.keeps;
            unlent = lent_out k.cells now.cells i (lent a.held) keeps.unlent;
          }) in_cell
          (λ h. record {
            stays = λ n w s. (
              s.0,
              s.1,
              s.2,
              record {
                keeps = s.3.keeps;
                unlent = lent_back k.cells w.cells i (record a.held { value = h.value }) s.3.unlent;
              },
            );
            marks = λ w. refl;
          })) where
            in_cell : Held → World S → World S
            in_cell = λ h w. record w {
              cells = slice_set w.cells i (idle (record a.held { value = h.value }));
            }

      module _ (is : cell ≡ None) where
        lends_nothing : RootLends cell so_far.held now so_far.held now.cells
        lends_nothing =
            subst (λ (x : Option ℕ). RootLends x so_far.held now so_far.held now.cells) (sym is)
            (refl, refl)

        -- a root that is added
        even_as_added : IsAdded c.root None f.this →
            Even walk ran (rules.walk_from m index task next walking so_far.held
            (back_from c.root walking) begun)
        even_as_added added =
            even_added walk o width stands index c after on reason reason_left calls
            so_far so_far.held now.cells lends_nothing
            (subst (λ (x : Option ℕ). IsAdded c.root x f.this) (sym is) added) None keeps
            (back_from c.root walking) (entry_back c.root)

        -- the place of a `this`
        even_at_place : (q : Position) → c.root ≡ root.This q → (p : Place) → f.this ≡ Some p →
            Even walk ran (rules.walk_at m index task next walking p begun)
        even_at_place q at p e =
            even_walked walk o width stands index c after on reason reason_left calls
            so_far so_far.held now.cells lends_nothing None
            (steps_at walk o width stands index c after on reason reason_left calls so_far so_far.held
            now.cells lends_nothing p (length now.roots) now.roots)
            (moved walk o width stands index c after on reason reason_left calls so_far so_far.held
            now.cells lends_nothing
            (walk_place c.root cell f.this now.roots) p (length now.roots)
            (walk_roots c.root cell f.this so_far.held now.roots) now.roots
            (rw (at, is, e) refl) (rw (at, is, e) refl) refl) (λ w. w)
            (record { stays = λ n w s. s; marks = λ w. refl })
            (refl, tokens, level, keeps)

        even_root_held : (a : Root) → c.root ≡ a → (this : Option Place) → f.this ≡ this →
            Even walk ran (rules.walk_held m a this so_far.held index task next walking begun)
        even_root_held (root.This q) at (Some p) e = even_at_place q at p e
        even_root_held (root.This q) at None e =
            subst (λ (a : Root). Even walk ran (rules.walk_from m index task next walking so_far.held
            (back_from a walking) begun)) at (even_as_added (rw (at, e) tt))
        even_root_held (root.Local name slot) at this e =
            subst (λ (a : Root). Even walk ran (rules.walk_from m index task next walking so_far.held
            (back_from a walking) begun)) at (even_as_added (rw at tt))
        even_root_held root.Temporary at this e =
            subst (λ (a : Root). Even walk ran (rules.walk_from m index task next walking so_far.held
            (back_from a walking) begun)) at (even_as_added (rw at tt))

      even_root : (b : Option ℕ) → cell ≡ b →
          Even walk ran (rules.walk_root m b so_far.held index c task next rooting walking begun)
      even_root None is = even_root_held is c.root refl f.this refl
      even_root (Some i) is = even_cell i is (slice_get now.cells i) refl

      even_so_far : Even walk ran (rules.marked m rooting (start walk)
          (rules.walk_root m cell so_far.held index c task next rooting walking))
      even_so_far =
          even_marked_at walk rooting ran (start walk) refl (inl refl) sits.1 (steady walk)
          (rules.walk_root m cell so_far.held index c task next rooting walking)
          (even_root cell refl)

    -- the value is read
    module _ (h : Held) (holds : RootHolds c.root f now h)
        (writable : assigns c.tail && is_read_only now h ≡ false) where
      abbrev goes : Option Dynamic → Act S
      goes v = rules.marked m rooting (start walk)
          (rules.walk_root m (rules.lent_cell m.program c.steps h) h index c
          (whole_walk (course_of m c f v) c.steps) next rooting walking)

      even_read : (v : Option Dynamic) →
          AssignsValue c.tail (assigned_operand c f.operands) now v → Even walk ran (goes v)
      even_read v reads = even_so_far (record {
        held = h;
        holds = holds;
        writable = writable;
        value = v;
        reads = reads;
      })

      even_value : (t : Tail) → c.tail ≡ t →
          Even walk ran (rules.assigned_value m t (assigned_operand c f.operands) rooting (start walk)
          goes)
      even_value tail.Read is =
          even_read None (subst (λ (x : Tail). AssignsValue x (assigned_operand c f.operands) now None)
          (sym is) refl)
      even_value (tail.Assign a) is =
          by_content (flat now.cells (assigned_operand c f.operands).value) refl where
            by_content : (x : Option Dynamic) →
                flat now.cells (assigned_operand c f.operands).value ≡ x →
                Even walk ran (rules.flat_or_race m x [] rooting (start walk) (λ v. goes (Some v)))
            by_content None e =
                even_rooting (Plain (DataRace (race_text [])) (position m f))
                (value_lent h holds writable (rw is refl) e) (start walk) (steady walk)
            by_content (Some v) e =
                even_read (Some v) (subst (λ (x : Tail). AssignsValue x
                (assigned_operand c f.operands) now (Some v)) (sym is) (v, refl, e))

    -- the position of a root's faults is the same while its root is found
    at_root_still : (a : Root) → root_position m a f ≡ root_position m a rooting
    at_root_still (root.Local name slot) = refl
    at_root_still (root.This q) = refl
    at_root_still root.Temporary = refl

    even_held : (h : Held) → RootHolds c.root f now h →
        Even walk ran (rules.unless_constant m c h rooting (start walk)
        (rules.assigned_value m c.tail (assigned_operand c f.operands) rooting (start walk) (λ v.
        rules.marked m rooting (start walk) (rules.walk_root m (rules.lent_cell m.program c.steps h)
        h index c (whole_walk (course_of m c f v) c.steps) next rooting walking))))
    even_held h holds =
        let x = Plain (AssignmentToConstant (root_name m.program c.root))
        (root_position m c.root rooting) in
        by_test (Even walk ran) (assigns c.tail && is_read_only now h)
        (rules.raised m rooting x (start walk))
        (rules.assigned_value m c.tail (assigned_operand c f.operands) rooting (start walk) (λ v.
        rules.marked m rooting (start walk) (rules.walk_root m (rules.lent_cell m.program c.steps h)
        h index c (whole_walk (course_of m c f v) c.steps) next rooting walking)))
        (λ yes. even_rooting x (subst (λ (q : Position). ChainRow m c (point walk o) 0
        (Plain (AssignmentToConstant (root_name m.program c.root)) q)) (at_root_still c.root)
        (constant h holds yes)) (start walk) (steady walk))
        (λ no. even_value h holds no c.tail refl)

    even_at : (a : Root) → c.root ≡ a → (go : Held → Act S) →
        ((h : Held) → RootHolds a f now h → Even walk ran (go h)) →
        Even walk ran (rules.at_root m a rooting (start walk) go)
    even_at (root.Local name slot) is go rest =
        by_entry (held_at now.scope (f.base + slot)) refl where
          by_entry : (x : Option Held) → held_at now.scope (f.base + slot) ≡ x →
              Even walk ran (rules.at_entry m x rooting (f.base + slot) (start walk) go)
          by_entry None e =
              even_rooting (Plain (Malformed (kind.SlotPastScope (f.base + slot) (length now.scope)))
              (position m f)) (past_scope name slot is (scope_passed now.scope (f.base + slot) e))
              (start walk) (steady walk)
          by_entry (Some h) e = rest h e
    even_at (root.This q) is go rest = by_place f.this refl where
      by_place : (this : Option Place) → f.this ≡ this →
          Even walk ran (rules.at_place m this q rooting (start walk) (λ p. go (look now.roots p)))
      by_place None e =
          even_rooting (Plain UnboundThis q) (unbound q is e) (start walk) (steady walk)
      by_place (Some p) e = rest (look now.roots p) (p, e, refl)
    even_at root.Temporary is go rest = rest (top f.operands) refl

    even_chain_in : Even walk ran (rules.chain_in m index c next rooting walking (start walk))
    even_chain_in =
        even_at c.root refl _ (λ h holds. even_held h holds)

  pub even_chain : (o : Op) (width : ℕ) → op_at m.program.code f.address ≡ Some (o, width) →
      (index : ℕ) → o ≡ op.Chain index → (let c = chain_of m.program index in
      Enough walk o (under (chain_takes c) f.operands) →
      ((v : Dynamic) → Sits m whole_run k (stepped f (f.address + width)
      (under (chain_takes c) f.operands ++ read_write v ∷ []))) →
      ((n : ℕ) (x : Problem) → ChainRow m c (point walk o) n x →
      ReasonAt walk (Some (slot_of m.program index n)) x) →
      ((n : ℕ) (x : Problem) → (x ≡ NoMemory) ⊎ LeavesNative m c (point walk o) n x →
      Cause m whole_run k.level x → catchable x ≡ false →
      ReasonAt walk (Some (slot_of m.program index n)) x) →
      Even walk (now.ran + 1) (rules.chain m index (f.address + width) f (start walk)))
  even_chain o width stands index is after on reason reason_left =
      even_chain_in o width stands index (chain_of m.program index) after on reason reason_left
      (λ so_far r cells lends. (
        λ j at this v under starts. (
          record {
            index = index;
            is = is;
            so_far = so_far;
            root = r;
            cells = cells;
            lends = lends;
            step = j;
            invokes = at;
            function = refl;
            arguments = refl;
            under = under;
            position = refl;
            starts = starts;
          },
          refl,
          refl,
          λ x u ends. (u, ends),
        ),
        λ d v asks. by_chain index is
            (record { so_far = so_far; root = r; cells = cells; lends = lends; asks = asks }),
      ))
