-- The walk at an instruction: the faults that it raises, the cells that it finds lent, the
-- operations that it is charged, and how its frame goes on.
use Rattle.std.proofs.Common.{◌≡◌, ◌≤◌, ◌<◌, ◌⊎◌, ℕ, ◌+◌, ◌-◌, List, [], Option, Some, None, false, refl, sym, subst, ap, inl, inr, length, nat_lt, nat_le, arith}
use Rattle.std.proofs.lemmas.Bool.{ltb-true, ltb-false, leb-true}
use Rattle.grain_value.specs.declared.values.Dynamic.{Dynamic}
use Rattle.grain_value.specs.declared.values.Held.{Held}
use Rattle.grain_fault.specs.Classes.{catchable}
use Rattle.grain_fault.specs.Positions.{at_position_if_none, position_of_problem}
use Rattle.grain_fault.specs.declared.places.Position.{Position}
use Rattle.grain_fault.specs.Problems.{Problem, Plain, TooManyOperations}
use Rattle.grain_fault.specs.Problems as problem
use Rattle.grain_program.specs.Chains.{slot_of}
use Rattle.grain_program.specs.View.{chain_of}
use Rattle.grain_program.specs.declared.code.instruction_set.Op.{Op}
use Rattle.grain_program.specs.declared.code.instruction_set.Op.TheVariants as op
use Rattle.grain_program.specs.declared.code.effects.Handling.{Handling}
use Rattle.grain_program.specs.declared.code.effects.Handling.TheVariants as handling
use Rattle.grain_program.specs.declared.code.effects.Looping.{Looping}
use Rattle.grain_program.specs.declared.code.effects.Looping.TheVariants as looping
use Rattle.grain_program.specs.Effects.{advances, cursors_given, cursors_taken, takes_of, gives_of, leads_of, handling_of, looping_of}
use Rattle.grain_program.specs.Shapes.{handled}
use Rattle.grain_program.specs.Typing.{In, IsProgram}
use Rattle.grain_program.specs.Decoding.{op_at}
use Rattle.grain_value.specs.Cells.{flat}
use Rattle.grain_means.specs.Worlds.{Act, World, Setup, Frame}
use Rattle.grain_host.specs.Law.{Verdict, GoOn, Stop}
use Rattle.grain_means.proofs.Moving.{placed_here, placed_if_none, unit_caught}
use Rattle.grain_means.specs.Rules.{offered, on_verdict, progressed, stepped, marked, raised, charged, onward, jumped, position, flat_or_race, flat_all, all_or_race, data_race, race_text}
use Rattle.grain_means.specs.Comes.{Meets, tries}
use Rattle.grain_means.specs.Causes as causes
use Rattle.grain_means.specs.Causes.{Cause, ChainRow, HostAnswers, LeavesNative, RaisedByChain, Charges, IsCharged, IsNoChain, Row, ReadsLent, AnswersLent, IsLent}
use Rattle.grain_means.specs.Blame.{Blames, FailsAtStep, at_step, no_step}
use Rattle.grain_means.proofs.Chainless.{IsOwn, no_chain, not_answered, own_position}
use Rattle.grain_means.proofs.Standing.{Fitting, fits_next, fits_covered}
use Rattle.grain_means.proofs.Footing.{Sits, by_test, true-false, unit_by_row, Offers}
use Rattle.grain_means.proofs.Tally.Frames.{Walk, Even, Steady, start, steady, even_marked, even_marked_at, holding, stepping, even_offered, even_onward, point, Blame, Reason, ReasonAt, Enough, all_there}

module _ {S : Type 0} {m : Setup S} (walk : Walk m) where
  open walk use {root, footing as k, frame as f, now, comes, level, trace, sits}

  -- the rules of an instruction that stands where the frame does
  module _ (o : Op) (width : ℕ) (stands : op_at m.program.code f.address ≡ Some (o, width)) where
    pub met : Meets m (point walk o) root
    met = record { comes = comes; blames = sits.4; width = width; stands = stands }

    -- what this fault blames, which was raised here
    blames : (slot : Option ℕ) (x : Problem) → Blames m (point walk o) x slot → Blame walk slot x
    blames slot x named = inr (record {
      instruction = o;
      width = width;
      stands = stands;
      raised = x;
      blames = named;
      left = inl refl;
    })

    -- an instruction that is no chain blames no step
    pub blames_none : (x : Problem) → IsNoChain o → Blame walk f.slot x
    blames_none x plain =
        blames f.slot x (subst (Blames m (point walk o) x) (sym sits.4.0) (no_step plain))

    -- a chain of this index blames the step of whose fault it ends
    pub blames_step : (k n : ℕ) (x : Problem) → o ≡ op.Chain k →
        FailsAtStep m k (point walk o) n x → Blame walk (Some (slot_of m.program k n)) x
    blames_step k n x is how = blames (Some (slot_of m.program k n)) x (at_step k n is how)

    -- why the instruction raises this fault
    pub why : (x : Problem) → IsOwn (position m f) o x → Row m x (point walk o) → Reason walk x
    why x own row =
        let has = own_position (position m f) o x own in (
          causes.raised (record {
            point = point walk o;
            met = met;
            why = inl row;
            tells = inl (level, inl (no_chain m x o f now own row, has));
          }),
          unit_by_row m root k.level (point walk o) met level x has row,
          blames_none x (no_chain m x o f now own row),
        )

    -- why the run ends in what the host answered
    pub why_answered : (y : Problem) → HostAnswers m y (point walk o) →
        Reason walk (at_position_if_none (position m f) y)
    why_answered y answers =
        let placed = placed_if_none (position m f) y in
        let x = at_position_if_none (position m f) y in (
          causes.raised (record {
            point = point walk o;
            met = met;
            why = inr (y, placed.0, inl answers, placed.1);
            tells = inl (level, inr (inr (inl (y, answers, refl))));
          }),
          λ unit. (
            record {
              point = point walk o;
              met = met;
              own = level;
              how = inr (x, unit, inl (y, answers, refl), refl);
            },
            refl,
          ),
          blames_none x (not_answered m y o f now answers),
        )

    -- why the run ends in the fault of a chain
    pub why_chain : (k n : ℕ) (x : Problem) → o ≡ op.Chain k →
        ChainRow m (chain_of m.program k) (point walk o) n x →
        ReasonAt walk (Some (slot_of m.program k n)) x
    why_chain k n x is row =
        let how : RaisedByChain m x (point walk o) = (k, n, is, row) in (
          causes.raised (record {
            point = point walk o;
            met = met;
            why = inr (x, position_of_problem x, inr how, sym (placed_here x));
            tells = inl (level, inr (inr (inr how)));
          }),
          λ unit. (
            record {
              point = point walk o;
              met = met;
              own = level;
              how = inr (x, unit, inr how, refl);
            },
            refl,
          ),
          blames_step k n x is (inl row),
        )

    -- why the run ends in a fault that left a native which a chain calls
    pub why_left : (k n : ℕ) (x : Problem) → o ≡ op.Chain k →
        (x ≡ problem.NoMemory) ⊎ LeavesNative m (chain_of m.program k) (point walk o) n x →
        Cause m root walk.footing.level x → catchable x ≡ false →
        ReasonAt walk (Some (slot_of m.program k n)) x
    why_left k n x is how cause passes =
        (cause, λ unit. true-false (unit_caught x unit) passes, blame how) where
          blame : (x ≡ problem.NoMemory) ⊎ LeavesNative m (chain_of m.program k) (point walk o) n x →
              Blame walk (Some (slot_of m.program k n)) x
          blame (inl out) = inl out
          blame (inr left) = blames_step k n x is (inr (inr left))

    -- a fault is offered to the frame's handlers, where no more operands are gone than the
    -- instruction takes
    pub even_offered_at : (slot : Option ℕ) (position : Option Position) (operands : List Held) →
        Enough walk o operands → (r : ℕ) (x : Problem) (w : World S) → Blame walk slot x →
        Steady walk r w → Offers m root k.level f.handlers x w →
        Even walk r (offered m (stepping walk slot position operands) x w)
    even_offered_at slot position operands enough r x w blame s offers =
        even_offered walk [] f.handlers refl sits.3 slot position operands
        (λ valid. fits_covered m.program valid f o width stands operands enough f.cursors (omega arith)
        (sits.2 valid)) r
        x w (λ unit. tt) blame s (λ stays. offers.0, offers.1)

    pub even_offered_in : (operands : List Held) → Enough walk o operands → (r : ℕ) (x : Problem)
        (w : World S) → Blame walk f.slot x → Steady walk r w →
        Offers m root k.level f.handlers x w →
        Even walk r (offered m (holding walk operands) x w)
    even_offered_in operands = even_offered_at f.slot f.position operands

    pub even_raised_at : (slot : Option ℕ) (position : Option Position) (operands : List Held) →
        Enough walk o operands → (r : ℕ) (x : Problem) (w : World S) → Steady walk r w →
        ReasonAt walk slot x → Even walk r (raised m (stepping walk slot position operands) x w)
    even_raised_at slot position operands enough r x w s reason =
        let on : Frame = stepping walk slot position operands in
        even_marked_at walk on r w refl (inl refl) sits.1 s (offered m on x)
        (even_offered_at slot position operands enough r x (record w { passed = w.passed + 1 })
        reason.2 s (inr reason.0, reason.1))

    pub even_raised_in : (operands : List Held) → Enough walk o operands → (r : ℕ) (x : Problem)
        (w : World S) → Steady walk r w → Reason walk x → Even walk r
        (raised m (holding walk operands) x w)
    even_raised_in operands = even_raised_at f.slot f.position operands

    pub even_raised : (r : ℕ) (x : Problem) (w : World S) → Steady walk r w → Reason walk x →
        Even walk r (raised m f x w)
    even_raised r x w s reason = even_raised_in f.operands (all_there walk o) r x w s reason

    -- a cell is lent
    even_race_in : (operands : List Held) → Enough walk o operands → (name : List ℕ) →
        ReadsLent m name o f now ⊎ AnswersLent m name (point walk o) →
        (r : ℕ) (w : World S) → Steady walk r w →
        Even walk r (data_race m name (holding walk operands) w)
    even_race_in operands enough name reads r w s =
        let x = Plain (problem.DataRace (race_text name)) (position m f) in
        even_raised_in operands enough r x w s (why x refl (name, refl, reads))

    pub even_race : (name : List ℕ) → ReadsLent m name o f now ⊎ AnswersLent m name
        (point walk o) → (r : ℕ) (w : World S) → Steady walk r w →
        Even walk r (data_race m name f w)
    even_race name reads r w s = even_race_in f.operands (all_there walk o) name reads r w s

    -- what is held is read, or it is a lent cell
    pub even_flat : (h : Held) (name : List ℕ) → (IsLent now h → ReadsLent m name o f now) →
        (go : Dynamic → Act S) →
        ((v : Dynamic) → flat now.cells h.value ≡ Some v → Even walk (now.ran + 1) (go v)) →
        (x : Option Dynamic) → flat now.cells h.value ≡ x →
        Even walk (now.ran + 1) (flat_or_race m x name f (start walk) go)
    even_flat h name lent go rest None e = even_race name (inl (lent e)) (now.ran + 1) (start walk)
        (steady walk)
    even_flat h name lent go rest (Some v) e = rest v e

    -- a value is read in another world
    pub even_flat_in : (r : ℕ) (w : World S) → Steady walk r w → (z : Dynamic) (name : List ℕ) →
        (flat w.cells z ≡ None → ReadsLent m name o f now ⊎ AnswersLent m name
        (point walk o)) → (go : Dynamic → Act S) → ((v : Dynamic) → Even walk r (go v))
        → (x : Option Dynamic) → flat w.cells z ≡ x →
        Even walk r (flat_or_race m x name f w go)
    even_flat_in r w s z name lent go rest None e = even_race name (lent e) r w s
    even_flat_in r w s z name lent go rest (Some v) e = rest v

    -- the same of several
    pub even_flat_all : (operands : List Held) → Enough walk o operands → (hs : List Held) →
        (flat_all now.cells hs ≡ None → ReadsLent m [] o f now) →
        (go : List Held → Act S) →
        ((vs : List Held) → flat_all now.cells hs ≡ Some vs → Even walk (now.ran + 1) (go vs)) →
        (x : Option (List Held)) → flat_all now.cells hs ≡ x →
        Even walk (now.ran + 1) (all_or_race m x (holding walk operands) (start walk) go)
    even_flat_all operands enough hs lent go rest None e =
        even_race_in operands enough [] (inl (lent e)) (now.ran + 1) (start walk) (steady walk)
    even_flat_all operands enough hs lent go rest (Some vs) e = rest vs e

    -- how many operands and how many cursors the instruction leaves
    abbrev pub left : ℕ
    left = length f.operands - takes_of m.program o + gives_of o

    abbrev pub loops_left : ℕ
    loops_left = length f.cursors - cursors_taken (looping_of o) + cursors_given (looping_of o)

    -- the frame goes on at an address to which the instruction leads, with as many operands and cursors
    -- and with such handlers as it leaves
    pub fits_on : advances (looping_of o) ≡ false → (g : Frame) →
        In g.address (leads_of m.program o (f.address + width)) →
        (takes_of m.program o ≤ length f.operands → length g.operands ≡ left) →
        (cursors_taken (looping_of o) ≤ length f.cursors → length g.cursors ≡ loops_left) →
        tries g.handlers ≡ handled (handling_of o) left loops_left (tries f.handlers) →
        IsProgram m.program → Fitting m.program g
    fits_on even g to many loops handlers valid =
        fits_next m.program valid f o width stands even g to many loops handlers (sits.2 valid)

    -- the instruction leaves the handlers and the cursors
    abbrev pub KeepsBoth : Type 0
    KeepsBoth = (handling_of o ≡ handling.Keep) × (looping_of o ≡ looping.Keep)

    -- the same with the handlers and the cursors that it has
    pub sits_at : KeepsBoth → (a : ℕ) (operands : List Held) →
        In a (leads_of m.program o (f.address + width)) →
        (takes_of m.program o ≤ length f.operands → length operands ≡ left) →
        Sits m root k (stepped f a operands)
    sits_at kept a operands to many = (
      sits.0,
      sits.1,
      fits_on (ap advances kept.1) (stepped f a operands) to many
          (λ there. subst (λ (l : Looping).
          length f.cursors ≡ length f.cursors - cursors_taken l + cursors_given l)
          (sym kept.1) (omega arith))
          (ap (λ (how : Handling). handled how left loops_left (tries f.handlers))
          (sym kept.0)),
      sits.3,
      sits.4,
    )

    pub even_on : (g : Frame) → g.floor ≡ f.floor → Sits m root k g →
        Even walk (now.ran + 1) (onward m f g (start walk))
    even_on g floor u = even_onward walk (now.ran + 1) g (start walk) (steady walk) trace
        (inl floor) u

    -- what the host says of the operations
    even_told : (operands : List Held) → Enough walk o operands → (w : World S) →
        Steady walk (now.ran + 1) w → (go : World S → Act S) →
        Charges m.program o f now → now.count < m.engine.limits.operations →
        (IsCharged m now → Even walk (now.ran + 1) (go w)) →
        (said : Verdict) → m.law.progress_reply now.host (now.count + 1) ≡ said →
        Even walk (now.ran + 1)
        (on_verdict m said (position m f) (holding walk operands)
        (offered m (holding walk operands)) w go)
    even_told operands enough w s go charges fits h GoOn e = h (fits, e)
    even_told operands enough w s go charges fits h (Stop v) e =
        let x = Plain (problem.Terminated v) (position m f) in
        even_raised_in operands enough (now.ran + 1) x w s (why x refl (fits, e, charges))

    -- the world once an operation is counted, and once the host has heard of it
    abbrev pub counted : World S
    counted = record (start walk) {
      passed = (start walk).passed + 1;
      count = (start walk).count + 1;
    }

    abbrev pub heard : World S
    heard = record counted {
      passed = counted.passed + 1 + 1;
      host = m.law.progress_after now.host (now.count + 1);
    }

    -- an operation, and then what the first rule says
    pub even_charged : (operands : List Held) → Enough walk o operands → (go : World S → Act S) →
        Charges m.program o f now →
        (IsCharged m now → Even walk (now.ran + 1) (go heard)) →
        Even walk (now.ran + 1) (charged m (holding walk operands) (start walk) go)
    even_charged operands enough go charges h =
        let r : ℕ = now.ran + 1 in
        let p = position m f in
        let g = holding walk operands in
        let fails : Problem → World S → Act S = offered m g in
        let said = m.law.progress_reply now.host (now.count + 1) in
        let after : World S → World S =
        λ w1. record w1 { host = m.law.progress_after w1.host w1.count } in
        let tells : World S → World S → Act S =
        λ w1 w2. on_verdict m (m.law.progress_reply w1.host w1.count) p g fails w2 go in
        by_test (Even walk r) (nat_lt now.count m.engine.limits.operations)
        (marked m g (start walk) (λ w1. progressed m p g fails (record w1 { count = w1.count + 1 })
        go)) (raised m g (Plain TooManyOperations p) (start walk))
        (λ fits.
        let allowed = ltb-true now.count m.engine.limits.operations fits in
        even_marked walk r (start walk) (steady walk)
        (λ w1. progressed m p g fails (record w1 { count = w1.count + 1 }) go)
        (even_marked walk r counted (steady walk) (λ w1. marked m g (after w1) (tells w1))
        (even_marked walk r (after (record counted { passed = counted.passed + 1 })) (steady walk)
        (tells (record counted { passed = counted.passed + 1 }))
        (even_told operands enough heard (steady walk) go charges allowed h said refl))))
        (λ full. even_raised_in operands enough r (Plain TooManyOperations p) (start walk)
        (steady walk) (why (Plain TooManyOperations p) refl
        (ltb-false now.count m.engine.limits.operations full, charges)))

    -- a charge in a frame that then goes on elsewhere, with these operands
    pub even_charged_on : (a : ℕ) (operands : List Held) → Enough walk o operands →
        Sits m root k (stepped f a operands) → Charges m.program o f now →
        Even walk (now.ran + 1)
        (charged m (holding walk operands) (start walk) (onward m f (stepped f a operands)))
    even_charged_on a operands enough u charges =
        even_charged operands enough (onward m f (stepped f a operands)) charges
        (λ _. even_onward walk (now.ran + 1) (stepped f a operands) heard (steady walk) trace
        (inl refl) u)

    pub even_jumped : (a : ℕ) (operands : List Held) → Enough walk o operands →
        Sits m root k (stepped f a operands) → (a ≤ f.address → Charges m.program o f now) →
        Even walk (now.ran + 1) (jumped m f (stepped f a operands) (start walk))
    even_jumped a operands enough u back =
        by_test (Even walk (now.ran + 1)) (nat_le a f.address)
        (charged m (holding walk operands) (start walk) (onward m f (stepped f a operands)))
        (onward m f (stepped f a operands) (start walk))
        (λ le. even_charged_on a operands enough u (back (leb-true a f.address le)))
        (λ _. even_on (stepped f a operands) refl u)
