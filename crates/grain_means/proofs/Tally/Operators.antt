-- The walk through operators and op-assignments: the built-in, and else the host.
use Rattle.std.proofs.Common.{◌≡◌, ◌⊎◌, ℕ, ◌+◌, List, [], ◌∷◌, ◌++◌, Some, None, Option, Bool, true, false, refl, sym, subst, ◌∙◌, inl, inr, if◌then◌else◌}
use Rattle.grain_value.specs.declared.values.Dynamic.{Dynamic}
use Rattle.grain_value.specs.declared.values.Held.{Held}
use Rattle.grain_value.specs.Looking.{cell_of}
use Rattle.grain_value.specs.Operands.{top, below, read_write, values_in}
use Rattle.grain_fault.specs.Problems.{Problem, Plain}
use Rattle.grain_fault.specs.Problems as problem
use Rattle.grain_program.specs.declared.code.parts.AssignOp.{AssignOp}
use Rattle.grain_program.specs.declared.code.instruction_set.Op.{Op}
use Rattle.grain_program.specs.Decoding.{op_at}
use Rattle.grain_program.specs.View.{name_of}
use Rattle.grain_ops.specs.Outcomes.{Outcome, NotBuiltIn, Gave, ArithmeticFault, TooLarge}
use Rattle.grain_value.specs.Cells.{flat}
use Rattle.grain_means.proofs.Readable.{IsHomeOf, home_in_entry}
use Rattle.grain_means.proofs.Unlent.{flat_stays}
use Rattle.grain_means.specs.Worlds.{Act, World, Setup, Go, InHost, Came}
use Rattle.grain_means.specs.Ends.{Ends}
use Rattle.grain_host.specs.Signatures.{not_found, says_missing}
use Rattle.grain_host.specs.Law as reply
use Rattle.grain_value.specs.declared.natives.Native.{Native}
use Rattle.grain_means.specs.Rules.{Home, Receiver, assigned_at, assignment_to_constant, content_now, entry_of_slot, flattened, given as given_to, held_at, is_read_only, marked, native_assigned_at, onward, op_assign_failed_at, op_assigned, operator_at, outcome_at, position, push_outcome, pushed, stepped, store_outcome}
use Rattle.grain_means.specs.Comes.{ProgramPoint}
use Rattle.grain_means.specs.Causes.{Question, native_asked, reply_to, asks_first, EndsWith, HasNoBuiltIn, AssignsByHost, AsksAgain, AsksSecond, AsksNative, IsCalled, ReadsTop, Holds, AssignsConstant, Operates, ReadsLent, AnswersLent, IsLent, AssignsLent, AsksFirst, asked_by, asked_in}
use Rattle.grain_means.proofs.Footing.{Sits, by_test}
use Rattle.grain_means.proofs.Tally.Frames.{Walk, Even, Steady, start, steady, even_marked, even_onward, point, all_there}
use Rattle.grain_means.proofs.Tally.Faults.{why, even_raised, even_flat, even_flat_in, even_on}
use Rattle.grain_means.proofs.Tally.Natives.{FailedSo}
use Rattle.grain_means.proofs.Tally.Natives.{Gave as HasGiven}
use Rattle.grain_means.proofs.Tally.NativeCalls.{none_raised, refused_raised, even_found, even_native}
use Rattle.grain_means.proofs.Tally.Entries.{even_constant, even_home, even_written_at}

none_some : {A : Type 0} {x : A} → None ≡ Some x → ⊥
none_some e = absurd cc

-- what the host answers to an operator of an op-assignment, if it is a lent cell
abbrev pub AnswersLentTo : {S : Type 0} → Setup S → ProgramPoint S → List ℕ → Type 0
AnswersLentTo {S = S} m at name = (q : Question S) → AsksSecond m q at → (n : Native) →
    native_asked m q ≡ Some n → IsCalled q n → (v : Dynamic) →
    ((reply_to m q n.key ≡ reply.Done v) × (flat q.world.cells v ≡ None))
    ⊎ ((a : AsksFirst m q n at.frame at.world) × (w : World S)
    × Ends m (Go (InHost (asked_by m a)) (asked_in m a)) (Came v) w × (flat w.cells v ≡ None)) →
    AnswersLent m name at

module _ {S : Type 0} {m : Setup S} (walk : Walk m) where
  open walk use {root, footing as k, frame as f, now, trace}

  -- the rules of an instruction that stands where the frame does
  module _ (o : Op) (width : ℕ) (stands : op_at m.program.code f.address ≡ Some (o, width)) where
    pub even_pushed : (name : List ℕ) (args operands : List Held) →
        ((v : Dynamic) → Sits m root k (stepped f (f.address + width) (operands ++ read_write v ∷
        []))) → (outcome : Outcome) → Operates m outcome name args o f now →
        (outcome ≡ NotBuiltIn → HasNoBuiltIn m name args o f now) →
        Even walk (now.ran + 1) (push_outcome m outcome name args (f.address + width) operands f
        (start walk))
    even_pushed name args operands u NotBuiltIn says asks =
        let q : AsksNative m
        (record { world = start walk; name = name; lent = None; args = args }) (point walk o) =
        inl (inl (refl, refl, inr (asks refl))) in
        even_native walk o width stands (start walk) (now.ran + 1) (steady walk) trace name None args q
        (λ x. inl (inl (refl, refl, inr (asks refl))))
        (λ v w1. pushed m f (f.address + width) operands v w1)
        (λ n e called v l w1 how after empty. even_onward walk l
        (stepped f (f.address + width) (operands ++ read_write v ∷ [])) w1 after.0 empty (inl refl)
        (u v))
    even_pushed name args operands u (Gave v) says asks = even_on walk o width stands _ refl (u v)
    even_pushed name args operands u (ArithmeticFault t) says asks =
        even_raised walk o width stands (now.ran + 1) _ (start walk) (steady walk)
        (why walk o width stands (Plain (problem.Arithmetic t) (position m f)) refl (inl (
          name,
          args,
          says,
        )))
    even_pushed name args operands u (TooLarge t) says asks =
        even_raised walk o width stands (now.ran + 1) _ (start walk) (steady walk)
        (why walk o width stands (Plain (problem.DataTooLarge t) (position m f)) refl (inl (
          name,
          args,
          says,
        )))

    -- an op-assignment that no built-in does, which writes where h is held
    module _ (a : AssignOp) (home : Home) (name : List ℕ) (h : Held) (u : Dynamic) (v : Held)
        (sits_on : Sits m root k (stepped f (f.address + width) (below f.operands)))
        (is_home : IsHomeOf (cell_of h.value) home)
        (by_host : AssignsByHost m a home h u v o f now)
        (answers_lent : AnswersLentTo m (point walk o) name) where
      abbrev first_question : Question S
      first_question = asks_first m a home h u v now

      abbrev says : Problem → Bool
      says x = says_missing (name_of m.program a.op_assign_name) x

      -- what is held can be read
      abbrev Readable : World S → Type 0
      Readable w = (c : Dynamic) × (flat w.cells h.value ≡ Some c)

      -- the first question left a world, after r instructions, and after a mark and without its trace the
      -- operator is asked for
      module _ (left : World S) (r : ℕ) (s : Steady walk r left) (readable : Readable left)
          (x : Problem) (ends : EndsWith m f now first_question x left) (missing : says x ≡ true) where
        abbrev w : World S
        w = record left { passed = left.passed + 1; trace = [] }

        abbrev now_held : Held
        now_held = record h { value = content_now home h w }

        abbrev copies : List Held
        copies = now_held ∷ v ∷ []

        abbrev question : Question S
        question =
            record { world = w; name = name_of m.program a.op_name; lent = None; args = copies }

        asks_again : AsksAgain m a home h u v question (point walk o)
        asks_again = (x, left, ends, missing, refl)

        asked_so : AsksSecond m question (point walk o)
        asked_so = (a, home, h, u, v, by_host, asks_again)

        asks : AsksNative m question (point walk o)
        asks = inr (inl (a, home, h, u, v, by_host, inr asks_again))

        -- the operator gave a value, which is written
        given : (n : Native) → native_asked m question ≡ Some n → IsCalled question n →
            (z : Dynamic) (l : ℕ) (w1 : World S) →
            HasGiven walk w (name_of m.program a.op_name) None copies n z w1 →
            Steady walk l w1 → w1.trace ≡ [] → Readable w1 →
            Even walk l (flattened m (read_write z) name f w1 (λ y.
            assigned_at m home (record h { value = y }) name (f.address + width) f w1))
        given n e called z l w1 how s1 t1 reads =
            even_flat_in walk o width stands l w1 s1 z name (λ none. inr (lends how none))
            (λ y. assigned_at m home (record h { value = y }) name (f.address + width) f w1)
            (λ y. even_written_at walk o width stands w1 l s1 t1 h name (record h { value = y }) sits_on
            (λ none. absurd (none_some (sym none ∙ reads.1))) home is_home)
            (flat w1.cells z) refl where
              lends : HasGiven walk w (name_of m.program a.op_name) None copies n z w1 →
                  flat w1.cells z ≡ None → AnswersLent m name (point walk o)
              lends (inl (is, same)) none =
                  answers_lent question asked_so n e called z
                  (inl (is, subst (λ (c : World S). flat c.cells z ≡ None) same none))
              lends (inr (first, over)) none =
                  answers_lent question asked_so n e called z (inr (first, w1, over, none))

        abbrev again : World S → Act S
        again w1 =
            operator_at m home name (name_of m.program a.op_name) h
            (record h { value = content_now home h w1 }) v (f.address + width) f
            (record w1 { trace = [] })

        even_operator : Even walk r (marked m f left again)
        even_operator =
            even_marked walk r left s again
            (even_native walk o width stands w r s refl (name_of m.program a.op_name) None copies asks
            (λ y. inr (inl (a, home, h, u, v, by_host, inr asks_again)))
            (λ z w1. flattened m (read_write z) name f w1 (λ y.
            assigned_at m home (record h { value = y }) name (f.address + width) f w1))
            (λ n e called z l w1 how after empty. given n e called z l w1 how after.0 empty
            (flat_stays w.cells w1.cells h.value readable.0 readable.1 after.2)))

      -- how the first native failed
      ends_so : (n : Native) → native_asked m first_question ≡ Some n → IsCalled first_question n →
          (x : Problem) (w : World S) →
          FailedSo walk (start walk) (name_of m.program a.op_assign_name)
          (Some (record { home = home; held = record h { value = u } })) (v ∷ []) n x w →
          EndsWith m f now first_question x w
      ends_so n e called x w (inl how) = inr (n, e, called, inl how)
      ends_so n e called x w (inr how) = inr (n, e, called, inr how)

      even_natively : Even walk (now.ran + 1)
          (native_assigned_at m home name a h u v (f.address + width) f (start walk))
      even_natively =
          let word = name_of m.program a.op_assign_name in
          let r : Option Receiver =
          Some (record { home = home; held = record h { value = u } }) in
          let args : List Held = v ∷ [] in
          let q : AsksNative m first_question (point walk o) =
          inr (inl (a, home, h, u, v, by_host, inl refl)) in
          even_found walk o width stands (start walk) (now.ran + 1) (steady walk) trace word r args q
          f.operands
          (λ z w1. onward m f (stepped f (f.address + width) (below f.operands)) w1)
          (op_assign_failed_at m home name a h v (f.address + width) f)
          (λ n e called z l w1 how after empty. even_onward walk l (stepped f (f.address + width)
          (below f.operands)) w1 after.0 empty (inl refl) sits_on)
          (λ e. let x = not_found word (values_in (given_to r args)) (position m f) in
          by_test (Even walk (now.ran + 1)) (says x) _ _
          (λ missing. even_operator (start walk) (now.ran + 1) (steady walk) (u, by_host.content) x
          (inl (e, refl, refl)) missing)
          (λ other. none_raised walk o width stands (start walk) (now.ran + 1) (steady walk) trace word r
          args q f.operands (all_there walk o) (inr (inl (
            a,
            home,
            h,
            u,
            v,
            by_host,
            inl (refl, other),
          ))) e)) (refused_raised walk o width stands (start walk) (now.ran + 1) (steady walk) trace
          word r args q f.operands (all_there walk o))
          (λ n e called x l w1 how reason after.
          by_test (Even walk l) (says x) _ _
          (λ missing. even_operator w1 l after.0
          (flat_stays now.cells w1.cells h.value u by_host.content after.2) x
          (ends_so n e called x w1 how) missing)
          (λ other. even_raised walk o width stands l x w1 after.0
          (reason (inr (inl (a, home, h, u, v, by_host, inl (refl, other)))))))
          (native_asked m first_question) refl

    -- what an op-assignment gives is written where h is held
    pub even_stored : (a : AssignOp) (op_name name : List ℕ) (args : List Held) (h : Held)
        (u : Dynamic) (v : Held) (home : Home) → IsHomeOf (cell_of h.value) home →
        Sits m root k (stepped f (f.address + width) (below f.operands)) →
        (IsLent now h → ReadsLent m name o f now) →
        AnswersLentTo m (point walk o) name → (outcome : Outcome) →
        Operates m outcome op_name args o f now →
        (outcome ≡ NotBuiltIn → AssignsByHost m a home h u v o f now) →
        Even walk (now.ran + 1) (outcome_at m home name outcome a h u v (f.address + width) f
        (start walk))
    even_stored a op_name name args h u v home is on lent answers NotBuiltIn says by_host =
        even_natively a home name h u v on is (by_host refl) answers
    even_stored a op_name name args h u v home is on lent answers (Gave r) says by_host =
        even_home walk o width stands h name home is (record h { value = r }) on lent
    even_stored a op_name name args h u v home is on lent answers (ArithmeticFault t) says by_host =
        even_raised walk o width stands (now.ran + 1) _ (start walk) (steady walk)
        (why walk o width stands (Plain (problem.Arithmetic t) (position m f)) refl (inl (
          op_name,
          args,
          says,
        )))
    even_stored a op_name name args h u v home is on lent answers (TooLarge t) says by_host =
        even_raised walk o width stands (now.ran + 1) _ (start walk) (steady walk)
        (why walk o width stands (Plain (problem.DataTooLarge t) (position m f)) refl (inl (
          op_name,
          args,
          says,
        )))

    pub even_assigned_op : (n : ℕ) (a : AssignOp) (slot : ℕ) →
        Sits m root k (stepped f (f.address + width) (below f.operands)) →
        (ReadsTop f now → (h : Held) → Holds now (f.base + slot) true h →
        AssignsConstant m.program (name_of m.program n) o f now) →
        (AssignsLent (f.base + slot) f now →
        ReadsLent m (name_of m.program n) o f now) →
        AnswersLentTo m (point walk o) (name_of m.program n) →
        ((h : Held) (u v : Dynamic) → Holds now (f.base + slot) false h →
        flat now.cells h.value ≡ Some u → flat now.cells (top f.operands).value ≡ Some v →
        Operates m (op_assigned m.engine a u v) (name_of m.program a.op_name)
        (record h { value = u } ∷ record (top f.operands) { value = v } ∷ []) o f now) →
        ((h : Held) (u v : Dynamic) → Holds now (f.base + slot) false h →
        flat now.cells h.value ≡ Some u → flat now.cells (top f.operands).value ≡ Some v →
        op_assigned m.engine a u v ≡ NotBuiltIn →
        AssignsByHost m a (entry_of_slot m h slot f) h u (record (top f.operands) { value = v }) o f
        now) →
        (h : Held) → held_at now.scope (f.base + slot) ≡ Some h →
        Even walk (now.ran + 1)
        (flattened m (top f.operands) (name_of m.program n) f (start walk) (λ v.
        if is_read_only (start walk) h then assignment_to_constant m n f (start walk) else
        flattened m h (name_of m.program n) f (start walk) (λ u.
        store_outcome m (op_assigned m.engine a u v) a h u (record (top f.operands) { value = v })
        slot n (f.address + width) f (start walk))))
    even_assigned_op n a slot on constant lent answers says by_host h e =
        even_flat walk o width stands (top f.operands) (name_of m.program n)
        (λ none. lent (h, e, inl none)) _ (λ v read.
        by_test (Even walk (now.ran + 1)) (is_read_only (start walk) h) (assignment_to_constant m n
        f (start walk)) (flattened m h (name_of m.program n) f (start walk) (λ u.
        store_outcome m (op_assigned m.engine a u v) a h u (record (top f.operands) { value = v })
        slot n (f.address + width) f (start walk)))
        (λ yes. even_constant walk o width stands n (constant (v, read) h (e, yes)))
        (λ no. even_flat walk o width stands h (name_of m.program n)
        (λ none. lent (h, e, inr (no, none))) _
        (λ u content.
        even_stored a (name_of m.program a.op_name) (name_of m.program n)
        (record h { value = u } ∷ record (top f.operands) { value = v } ∷ []) h u
        (record (top f.operands) { value = v }) (entry_of_slot m h slot f)
        (home_in_entry (f.base + slot) (cell_of h.value)) on (λ none. lent (h, e, inr (no, none)))
        answers (op_assigned m.engine a u v) (says h u v (e, no) content read)
        (by_host h u v (e, no) content read))
        (flat now.cells h.value) refl))
        (flat now.cells (top f.operands).value) refl
