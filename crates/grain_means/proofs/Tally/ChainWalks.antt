-- The walk over the rules through the walk of a chain, from its root to where the root goes back.
use Rattle.std.proofs.Common.{◌≡◌, ◌+◌, ℕ, List, [], ◌∷◌, ◌++◌, Option, Some, None, Bool, true, false, length, take, refl, sym, subst, ap, ◌∙◌, arith, inl, inr, ◌⊎◌}
use Rattle.std.proofs.lemmas.List.{length-append}
use Rattle.grain_value.specs.Operands.{read_write, under}
use Rattle.grain_value.specs.declared.stores.Cell.{Cell}
use Rattle.grain_value.specs.declared.values.Dynamic.{Dynamic}
use Rattle.grain_value.specs.declared.values.Held.{Held}
use Rattle.grain_fault.specs.Classes.{catchable}
use Rattle.grain_fault.specs.Problems.{Problem, NoMemory}
use Rattle.grain_program.specs.Chains.{chain_takes, slot_of}
use Rattle.grain_program.specs.Decoding.{op_at}
use Rattle.grain_program.specs.declared.code.chains.Chain.{Chain}
use Rattle.grain_program.specs.declared.code.instruction_set.Op.{Op}
use Rattle.grain_means.specs.Places.{look}
use Rattle.grain_means.specs.Rules as rules
use Rattle.grain_means.specs.Rules.{course_of, is_stop, leave_by_fault, new_root, offered, position, stepped, without}
use Rattle.grain_means.specs.Tasks.{WalkEnded, WalkFailed}
use Rattle.grain_means.specs.Walks.{whole_walk}
use Rattle.grain_means.specs.Worlds.{Frame, Place, Setup, World}
use Rattle.grain_means.specs.Causes.{Cause}
use Rattle.grain_means.specs.Causes.Chains.{ChainReads, ChainRow, LeavesNative, RootLends, by_walk, walk_of, walk_place, walk_roots}
use Rattle.grain_means.specs.Causes.Spots.{BackFails, ChainWalk, PointedLeft, WalkRow, here}
use Rattle.grain_means.proofs.Explaining.{explained}
use Rattle.grain_means.proofs.Footing.{Sits, by_test}
use Rattle.grain_means.proofs.Ground.{Stays}
use Rattle.grain_means.proofs.Tally.Calling.{ByChain}
use Rattle.grain_means.proofs.Tally.Faults.{even_raised_at}
use Rattle.grain_means.proofs.Tally.Frames.{Enough, Even, ReasonAt, Steady, SteadyBut, Walk, stepping, even_left_at, even_onward, point}
use Rattle.grain_means.proofs.Tally.Roots.{IsAdded, added_place, added_root}
use Rattle.grain_means.proofs.Tally.Walks.{even_walks}

module _ {S : Type 0} {m : Setup S} (walk : Walk m) where
  open walk use {root as whole_run, footing as k, frame as f, now, tokens, level, trace, keeps, sits}

  -- what is done with the roots once the walk is over, which may have the content of a cell
  pub record Returns (away : Option ℕ) (back : World S → World S) : Type 0 where
    pub stays : (n : ℕ) (w : World S) → SteadyBut walk away n w → Steady walk n (back w)
    pub marks : (w : World S) → (back w).passed ≡ w.passed

  -- The chain of this index, by an instruction that stands where the frame does: the frame goes on
  -- without the chain's operands and with one value more, each fault has a reason by its row, and what
  -- the chain's walk calls and asks for, the chain does.
  module _ (o : Op) (width : ℕ) (stands : op_at m.program.code f.address ≡ Some (o, width))
      (index : ℕ) (c : Chain) (after : Enough walk o (under (chain_takes c) f.operands))
      (on : (v : Dynamic) → Sits m whole_run k (stepped f (f.address + width)
      (under (chain_takes c) f.operands ++ read_write v ∷ [])))
      (reason : (n : ℕ) (x : Problem) → ChainRow m c (point walk o) n x →
      ReasonAt walk (Some (slot_of m.program index n)) x)
      (reason_left : (n : ℕ) (x : Problem) → (x ≡ NoMemory) ⊎ LeavesNative m c (point walk o) n x →
      Cause m whole_run k.level x → catchable x ≡ false →
      ReasonAt walk (Some (slot_of m.program index n)) x)
      (calls : (so_far : ChainReads m c (point walk o)) (r : Held) (cells : List Cell) →
      RootLends (rules.lent_cell m.program c.steps so_far.held) so_far.held now r cells →
      ByChain walk o index (walk_of m c (point walk o) so_far.value
      (rules.lent_cell m.program c.steps so_far.held) r cells)) where
    abbrev ran : ℕ
    ran = now.ran + 1

    abbrev next : ℕ
    next = f.address + width

    -- the frame while it walks
    abbrev walking : Frame
    walking = without (chain_takes c) f

    -- the walk is over
    over_well : (u : Dynamic) (changed : Bool) (n : ℕ) (w : World S) → Steady walk n w →
        Even walk n (rules.chain_over m index next walking (WalkEnded u changed) w)
    over_well u changed n w s =
        even_onward walk n (stepped walking next (walking.operands ++ read_write u ∷ []))
        (record w { trace = [] }) s refl (inl refl) (on u)

    over_ill : (j : ℕ) (x : Problem) (n : ℕ) (w : World S) →
        ReasonAt walk (Some (slot_of m.program index j)) x → Steady walk n w →
        Even walk n (rules.chain_over m index next walking (WalkFailed j x) w)
    over_ill j x n w because s =
        even_raised_at walk o width stands (Some (slot_of m.program index j)) f.position
        walking.operands after n x w s because

    over_out : (j n : ℕ) (w : World S) → is_stop m.stop w.passed ≡ true → Steady walk n w →
        Even walk n (rules.chain_over m index next walking (WalkFailed j NoMemory) w)
    over_out j n w stop s =
        let g : Frame = stepping walk (Some (slot_of m.program index j)) f.position walking.operands in
        by_test (Even walk n) (is_stop m.stop w.passed) (leave_by_fault m g NoMemory w)
        (offered m g NoMemory (record w { passed = w.passed + 1 }))
        (λ yes. even_left_at walk g n NoMemory w refl (inl refl) sits.1 (inl refl) s
        (inl (refl, stop)))
        (λ no. absurd cc)

    -- the walk of the chain, from its first root and beside these cells
    module _ (so_far : ChainReads m c (point walk o)) (r : Held) (cells : List Cell)
        (lends : RootLends (rules.lent_cell m.program c.steps so_far.held) so_far.held now r cells)
      where
        abbrev pub steps : ChainWalk S
        steps = walk_of m c (point walk o) so_far.value
            (rules.lent_cell m.program c.steps so_far.held) r cells

        -- the same at a place, with this number of other roots
        abbrev pub steps_at : Place → ℕ → List Held → ChainWalk S
        steps_at place others roots = record {
          course = course_of m c f so_far.value;
          steps = c.steps;
          place = place;
          others = others;
          start = record now {
            ran = ran;
            passed = now.passed + 1 + 1;
            cells = cells;
            roots = roots;
          };
        }

        pub moved : (p q : Place) (n : ℕ) (xs ys : List Held) → p ≡ q → xs ≡ ys → length ys ≡ n →
            steps_at p (length xs) xs ≡ steps_at q n ys
        moved p q n xs ys place roots size =
            ap (λ (x : Place). steps_at x (length xs) xs) place
            ∙ ap (λ (x : List Held). steps_at q (length x) x) roots
            ∙ ap (λ (x : ℕ). steps_at q x ys) size

        -- a function that a native called back was left by the fault
        left_so : (s : ChainWalk S) → steps ≡ s → (j : ℕ) (x : Problem) →
            (x ≡ NoMemory) ⊎ (BackFails m s j x ⊎ PointedLeft m s j x) →
            Cause m whole_run k.level x → catchable x ≡ false →
            ReasonAt walk (Some (slot_of m.program index j)) x
        left_so s same j x (inl out) cause passes = reason_left j x (inl out) cause passes
        left_so s same j x (inr how) cause passes =
            reason_left j x (inr (record {
              so_far = so_far;
              root = r;
              cells = cells;
              lends = lends;
              fails = subst (λ (t : ChainWalk S). BackFails m t j x ⊎ PointedLeft m t j x) (sym same) how;
            })) cause passes

        pub even_walked : (away : Option ℕ) (s : ChainWalk S) → steps ≡ s →
            (back : World S → World S) → Returns away back → SteadyBut walk away ran s.start →
            Even walk ran (rules.walks m index walking s.place s.others None
            (whole_walk s.course s.steps)
            (λ u w. rules.chain_over m index next walking u (back w)) s.start)
        even_walked away s same back home kept =
            even_walks walk o width stands away index walking refl s
            (λ u w. rules.chain_over m index next walking u (back w))
            (λ u changed n w at. over_well u changed n (back w) (home.stays n w at))
            (λ j x n w because at. over_ill j x n (back w) because (home.stays n w at))
            (λ j n w stop at. over_out j n (back w) (rw (home.marks w) stop) (home.stays n w at))
            (λ j x row. reason j x (by_walk so_far r cells lends
            (subst (λ (t : ChainWalk S). WalkRow m t j x) (sym same) row)))
            (left_so s same) (subst (ByChain walk o index) same (calls so_far r cells lends))
            (whole_walk s.course s.steps) s.start (explained m true s) here ran None kept

        -- from a root that is added, and then goes back
        pub even_added : IsAdded c.root (rules.lent_cell m.program c.steps so_far.held) f.this →
            (away : Option ℕ) → Stays k away now.scope cells → (back : Held → World S → World S) →
            ((h : Held) → Returns away (back h)) →
            Even walk ran (rules.walk_from m index (whole_walk (course_of m c f so_far.value) c.steps)
            next walking r back (record now { ran = ran; passed = now.passed + 1 + 1; cells = cells }))
        even_added is away there back home =
            let cell = rules.lent_cell m.program c.steps so_far.held in
            let out : World S → World S = λ w. record w { roots = take (length now.roots) w.roots } in
            let held : World S → Held = λ w. look w.roots (new_root now.roots) in
            even_walked away (steps_at (new_root now.roots) (length now.roots + 1) (now.roots ++ r ∷ []))
            (moved (walk_place c.root cell f.this now.roots) (new_root now.roots)
            (length now.roots + 1) (walk_roots c.root cell f.this r now.roots) (now.roots ++ r ∷ [])
            (added_place c.root cell f.this now.roots is)
            (added_root c.root cell f.this r now.roots is)
            (omega (arith, length-append now.roots (r ∷ []))))
            (λ w. back (held w) (out w)) (record {
              stays = λ n w s. (home (held w)).stays n (out w) s;
              marks = λ w. (home (held w)).marks (out w);
            }) (refl, tokens, level, there)
