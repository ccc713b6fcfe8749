-- The walk at a frame: marks, faults that leave it or are offered to its handlers, and writes.
use Rattle.std.proofs.Common.{◌≡◌, ◌≤◌, ◌⊎◌, ℕ, ◌+◌, ◌-◌, List, [], ◌∷◌, ◌++◌, Option, None, Bool, true, false, refl, sym, subst, ap, ◌∙◌, inl, inr, arith, length, take, if◌then◌else◌, append_assoc}
use Rattle.grain_value.specs.declared.values.Dynamic.{Dynamic}
use Rattle.grain_value.specs.declared.values.Held.{Held}
use Rattle.grain_value.specs.declared.scopes.Entry.{Entry}
use Rattle.grain_value.specs.Operands.{below, read_write}
use Rattle.grain_fault.specs.Classes.{catchable}
use Rattle.grain_fault.specs.Positions.{at_position, position_of_problem}
use Rattle.grain_fault.specs.declared.places.Position.{Position}
use Rattle.grain_fault.specs.Problems.{Problem, NoMemory}
use Rattle.grain_program.specs.declared.code.instruction_set.Op.{Op}
use Rattle.grain_program.specs.Effects.{takes_of}
use Rattle.grain_program.specs.Typing.{IsProgram}
use Rattle.grain_means.specs.Worlds.{Act, Go, Failed, World, Setup, Frame, Handler, InFrame, InCatch}
use Rattle.grain_means.specs.Rules.{throws_unit, offered_to, thrown_anew, outer_handlers, is_stop, leave_by_fault, marked, onward, next}
use Rattle.grain_means.specs.Comes.{ProgramPoint, Comes, try_of, tries}
use Rattle.grain_means.specs.Leavings.{AtCheckpoint, Cut}
use Rattle.grain_means.specs.Blame.{Blamed}
use Rattle.grain_means.specs.Causes.{HaveCaughtUnit, Cause, Caused}
use Rattle.grain_means.proofs.Ground.{Footing, Stays, stays_cut}
use Rattle.grain_means.proofs.Lengths.{cut_short, length_under, length_pushed}
use Rattle.grain_means.proofs.Moving.{unit_caught}
use Rattle.grain_means.proofs.Roles.{Framed}
use Rattle.grain_means.proofs.Standing.{Covered, covered_outside}
use Rattle.grain_means.proofs.Footing.{HasCaught, Guarded, Sits, Tally, by_test, by_arming, cause_in, true-false, UnitThrown, OffersTo, left_so_far, offers_anew}

-- where the walk is: the run of a root, on a footing, at an instruction of a frame
pub record Walk {S : Type 0} (m : Setup S) : Type 0 where
  pub root : Act S
  pub footing : Footing
  pub frame : Frame
  pub now : World S
  pub comes : Comes m (InFrame frame) now root
  pub tokens : now.tokens ≡ footing.tokens
  pub level : now.level ≡ footing.level
  pub trace : now.trace ≡ []
  pub keeps : Stays footing None now.scope now.cells
  pub sits : Sits m root footing frame

module _ {S : Type 0} {m : Setup S} (walk : Walk m) where
  open walk use {root, footing as k, frame as f, now, comes, tokens, level, trace, keeps, sits}

  abbrev pub Even : ℕ → Act S → Type 0
  Even r act = Tally m Framed root (Go (InFrame f) now) r k act

  -- the world stands on the footing, while the cell of this number is lent, if any
  abbrev pub SteadyBut : Option ℕ → ℕ → World S → Type 0
  SteadyBut away r w =
      (w.ran ≡ r) × (w.tokens ≡ k.tokens) × (w.level ≡ k.level) × Stays k away w.scope w.cells

  abbrev pub Steady : ℕ → World S → Type 0
  Steady r w = SteadyBut None r w

  -- the world in which the instruction begins
  abbrev pub start : World S
  start = record now { ran = now.ran + 1; passed = now.passed + 1 }

  pub steady : Steady (now.ran + 1) start
  steady = (refl, tokens, level, keeps)

  -- the floor to which a fault cuts the scope: the frame's, or the scope's length at a checkpoint
  -- that is done
  abbrev pub Floor : ℕ → Type 0
  Floor n = (n ≡ f.floor) ⊎ (AtCheckpoint m.program f × (n ≡ length now.scope))

  -- the floor to which this fault cuts it: that of a checkpoint only where memory is out
  abbrev pub FloorFor : Problem → ℕ → Type 0
  FloorFor x n =
      (n ≡ f.floor) ⊎ ((x ≡ NoMemory) × AtCheckpoint m.program f × (n ≡ length now.scope))

  out_of_memory : (n : ℕ) → Floor n → FloorFor NoMemory n
  out_of_memory n (inl e) = inl e
  out_of_memory n (inr c) = inr (refl, c.0, c.1)

  short : (x : Problem) (n : ℕ) (scope : List Entry) → FloorFor x n → length scope ≤ n →
      (length scope ≤ f.floor)
      ⊎ ((x ≡ NoMemory) × AtCheckpoint m.program f × (length scope ≤ length now.scope))
  short x n scope (inl e) le = inl (omega (arith, e, le))
  short x n scope (inr (out, c, e)) le = inr (out, c, omega (arith, e, le))

  -- memory is out, or the frame is left by this fault with the slot of what it blames
  abbrev pub Blame : Option ℕ → Problem → Type 0
  Blame slot x = (x ≡ NoMemory) ⊎ Blamed m f now slot x

  -- a fault leaves the frame, at its own floor or at that of a checkpoint that is done
  pub even_left_at : (g : Frame) (r : ℕ) (x : Problem) (w : World S) → g.address ≡ f.address →
      FloorFor x g.floor → k.base ≤ g.floor → Blame g.slot x → Steady r w →
      Caused m root k.level (Failed x) w → Even r (leave_by_fault m g x w)
  even_left_at g r x w same floor low blame s cause =
      let cut : Cut m root k.level k.base x (take g.floor w.scope)
      (w.trace ++ record { address = g.address; slot = g.slot } ∷ []) = record {
        frame = f;
        world = now;
        comes = comes;
        own = level;
        based = sits.0;
        inner = w.trace;
        slot = g.slot;
        last = rw same refl;
        blames = blame;
        short = short x g.floor (take g.floor w.scope) floor (cut_short g.floor w.scope);
      } in
      (s.0, s.1, s.2, stays_cut g.floor w.scope w.cells low s.3, (inl cut, cause))

  -- a mark, in the frame as it then stands
  pub even_marked_at : (g : Frame) (r : ℕ) (w : World S) → g.address ≡ f.address → Floor g.floor →
      k.base ≤ g.floor → Steady r w → (go : World S → Act S) →
      Even r (go (record w { passed = w.passed + 1 })) → Even r (marked m g w go)
  even_marked_at g r w same floor low s go h =
      by_test (Even r) (is_stop m.stop w.passed) (leave_by_fault m g NoMemory w)
      (go (record w { passed = w.passed + 1 }))
      (λ stop. even_left_at g r NoMemory w same (out_of_memory g.floor floor) low (inl refl) s
      (inl (refl, stop))) (λ _. h)

  pub even_marked : (r : ℕ) (w : World S) → Steady r w → (go : World S → Act S) →
      Even r (go (record w { passed = w.passed + 1 })) → Even r (marked m f w go)
  even_marked r w s go h = even_marked_at f r w refl (inl refl) sits.1 s go h

  -- the frame with other operands
  abbrev pub holding : List Held → Frame
  holding operands = record f { operands = operands }

  -- the same at a step of a chain, which is blamed, and whose position stands in place of the
  -- instruction's
  abbrev pub stepping : Option ℕ → Option Position → List Held → Frame
  stepping slot position operands =
      record f { operands = operands; slot = slot; position = position }

  -- memory is out in the frame with these operands, and leaves it
  pub even_out_of_memory : (operands : List Held) (r : ℕ) (w : World S) → Steady r w →
      is_stop m.stop w.passed ≡ true → Even r (leave_by_fault m (holding operands) NoMemory w)
  even_out_of_memory operands r w s stop =
      even_left_at (holding operands) r NoMemory w refl (inl refl) sits.1 (inl refl) s
      (inl (refl, stop))

  -- the frame at another address with one more handler, and without its innermost one
  abbrev pub guarding : ℕ → Option ℕ → ℕ → Frame
  guarding target variable next = record f {
    address = next;
    handlers = record {
      target = target;
      variable = variable;
      operands = length f.operands;
      cursors = length f.cursors;
      totals = length f.totals;
      scope = length now.scope;
      caught = None;
    } ∷ f.handlers;
  }

  abbrev pub unguarded : ℕ → Frame
  unguarded next = record f { address = next; handlers = outer_handlers f.handlers }

  -- what was caught and is thrown anew leaves the frame with the slot of the throw
  blame_anew : (slot : Option ℕ) (x y : Problem) → Blame slot x → Blame slot (thrown_anew y x)
  blame_anew slot x y (inl out) = inl (rw out refl)
  blame_anew slot x y (inr b) = by_unit (throws_unit x) refl where
    thrown : throws_unit x ≡ true →
        (x ≡ b.raised) ⊎ ((throws_unit b.raised ≡ true)
        ⊎ ((catchable b.raised ≡ true) × (catchable x ≡ false))) → throws_unit b.raised ≡ true
    thrown unit (inl same) = sym (ap throws_unit same) ∙ unit
    thrown unit (inr (inl raised)) = raised
    thrown unit (inr (inr passes)) = true-false (unit_caught x unit) passes.1

    by_unit : (a : Bool) → throws_unit x ≡ a →
        Blame slot (if a then at_position (position_of_problem x) y else x)
    by_unit false e = inr b
    by_unit true e = inr (record {
      instruction = b.instruction;
      width = b.width;
      stands = b.stands;
      raised = b.raised;
      blames = b.blames;
      left = inr (inl (thrown e b.left));
    })

  -- what a script may catch was not raised by want of memory
  blamed_in : (slot : Option ℕ) (x : Problem) → catchable x ≡ true → Blame slot x →
      Blamed m f now slot x
  blamed_in slot x may (inl out) = true-false may (ap catchable out)
  blamed_in slot x may (inr b) = b

  -- a fault is offered to handlers of the frame, and what they need of its operands is there; where
  -- it throws unit, those inside of them have caught throws of unit
  pub even_offered : (inside hs : List Handler) → f.handlers ≡ inside ++ hs →
      Guarded m root k hs → (slot : Option ℕ) (position : Option Position)
      (operands : List Held) →
      (IsProgram m.program → Covered m.program operands f.cursors (tries hs)) → (r : ℕ) (x : Problem)
      (w : World S) → (throws_unit x ≡ true → HaveCaughtUnit inside) → Blame slot x → Steady r w →
      OffersTo m root k.level f.handlers hs x w →
      Even r (offered_to m hs (stepping slot position operands) x w)
  even_offered inside [] split g slot position operands covered r x w left blame s offers =
      even_left_at (stepping slot position operands) r x w refl (inl refl) sits.1 blame s
      (offers.0 (λ unit. tt))
  even_offered inside (h ∷ hs) split g slot position operands covered r x w left blame s offers =
      let on : Frame = stepping slot position operands in
      let around : Frame = record on { handlers = hs } in
      by_arming m (Even r) h.caught
      (if catchable x then Go (InCatch around h x) w else leave_by_fault m on x w)
      (λ y. offered_to m hs on (thrown_anew y x) w)
      (λ none. by_test (Even r) (catchable x) (Go (InCatch around h x) w)
      (leave_by_fault m on x w)
      (λ may. (
        s.0,
        s.1,
        s.2,
        s.3,
        record {
          from = f;
          world = now;
          comes = comes;
          own = level;
          from_base = sits.0;
          address = refl;
          floor = refl;
          base = sits.0;
          low = sits.1;
          scope = g.0;
          around = g.2;
          armed = none;
          may = may;
          cause = cause_in m root k.level x w may (offers.0 (λ unit. none));
          blamed = blamed_in slot x may blame;
          covered = covered;
        },
      ))
      (λ _. even_left_at on r x w refl (inl refl) sits.1 blame s (offers.0 (λ unit. none))))
      (λ y e. even_offered (inside ++ h ∷ []) hs (split ∙ sym (append_assoc inside (h ∷ []) hs))
      g.2 slot position operands
      (λ valid. covered_outside m.program operands f.cursors (try_of h) (tries hs) (covered valid)) r
      (thrown_anew y x) w (left_so_far m inside h x y left e) (blame_anew slot x y blame) s
      (offers_anew m root k.level f.handlers inside hs h y
      (subst (HasCaught m root k.level h) e g.1) split x w left offers))

  pub even_onward : (r : ℕ) (g : Frame) (w : World S) → Steady r w → w.trace ≡ [] →
      Floor g.floor → Sits m root k g → Even r (onward m f g w)
  even_onward r g w s t floor u =
      even_marked_at (record g { address = f.address }) r w refl floor u.1 s (Go (InFrame g))
      (s.0, s.1, s.2, s.3, (t, u))

  -- a write of the scope, and on
  pub even_written : (g : Frame) (write : List Entry → List Entry) →
      Stays k None (write now.scope) now.cells → g.floor ≡ f.floor → Sits m root k g →
      Even (now.ran + 1)
      (marked m f start (λ w1. onward m f g (record w1 { scope = write w1.scope })))
  even_written g write there floor u =
      even_marked (now.ran + 1) start steady
      (λ w1. onward m f g (record w1 { scope = write w1.scope }))
      (even_onward (now.ran + 1) g
      (record start { passed = start.passed + 1; scope = write start.scope })
      (refl, tokens, level, there) trace (inl floor) u)

  -- one operand less, and one more
  pub one_less : length (below f.operands) ≡ length f.operands - 1 + 0
  one_less = omega (arith, length_under 1 f.operands)

  pub one_more : (v : Dynamic) → length (f.operands ++ read_write v ∷ []) ≡ length f.operands - 0 +
      1
  one_more v = omega (arith, length_pushed f.operands v)

  -- where the run stands, at an instruction
  abbrev pub point : Op → ProgramPoint S
  point o = record { instruction = o; frame = f; world = now }

  -- why a fault is raised here, that it is thrown here if it is a throw of unit, and that this is the slot
  -- of what it blames
  abbrev pub ReasonAt : Option ℕ → Problem → Type 0
  ReasonAt slot x =
      Cause m root k.level x × UnitThrown m root k.level f.handlers x × Blame slot x

  -- the same of what blames no step
  abbrev pub Reason : Problem → Type 0
  Reason x = ReasonAt f.slot x

  -- there are no fewer operands than an instruction leaves of those that were there
  abbrev pub Enough : Op → List Held → Type 0
  Enough o operands = length f.operands - takes_of m.program o ≤ length operands

  pub all_there : (o : Op) → Enough o f.operands
  all_there o = omega arith
