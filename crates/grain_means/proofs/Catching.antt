-- What a handler does that catches: one walk over its rule, from which the walk over all rules and
-- the law of catch blocks take what they need.
use Rattle.std.proofs.Common.{◌≡◌, ◌≤◌, ◌<◌, ◌⊎◌, ℕ, ◌+◌, List, [], ◌∷◌, ◌++◌, Option, Some, None, true, false, refl, sym, subst, ap, ◌∙◌, inl, inr, arith, length, take, nat_lt, append-nil}
use Rattle.std.proofs.lemmas.Bool.{ltb-true, ltb-false, leb-true, leb-false}
use Rattle.std.proofs.lemmas.List.{length-take}
use Rattle.grain_value.specs.declared.scopes.Entry.{Entry}
use Rattle.grain_value.specs.Scopes.{new_entry}
use Rattle.grain_value.specs.Operands.{read_write}
use Rattle.grain_fault.specs.Classes.{catchable}
use Rattle.grain_fault.specs.declared.faults.MalformedKind.TheVariants as kind
use Rattle.grain_fault.specs.Problems.{Problem, Plain, NoMemory, Malformed, Terminated, TooManyOperations, TooManyVariables}
use Rattle.grain_program.specs.View.{name_of, position_of}
use Rattle.grain_host.specs.Law.{Verdict, GoOn, Stop}
use Rattle.grain_means.specs.Worlds.{Act, Go, Failed, World, Setup, Frame, Handler, InFrame, InCatch}
use Rattle.grain_fault.specs.CatchValues.{caught_value}
use Rattle.grain_means.specs.Rules.{is_full, is_stop, leave_by_fault, marked, on_verdict, progressed, charged_or, escaped, bind_caught, catching, resumed, throws_unit, caught}
use Rattle.grain_means.specs.Comes.{CatchPoint, Comes, try_of, tries}
use Rattle.grain_means.specs.Leavings.{Keeps, Cut}
use Rattle.grain_means.specs.Blame.{Blamed}
use Rattle.grain_means.specs.Causes.{HasPosition, ComesToCharge, CatchRow, raised_at, Caused, by_catch}
use Rattle.grain_means.specs.CatchBlocks.{variable_entry, Catches}
use Rattle.grain_means.proofs.Footing.{CanCatch, Tally, by_test, catch_passes, true-false}
use Rattle.grain_means.proofs.Ground.{Footing, Stays, stays_cut}
use Rattle.grain_means.proofs.Kept.{keeps_cut, keeps_push}
use Rattle.grain_means.proofs.Unlent.{Unlent}
use Rattle.grain_means.proofs.Lengths.{cut_short}
use Rattle.grain_means.proofs.Roles.{Framed}
use Rattle.grain_means.proofs.Standing.{Covered, as_many, as_many_cursors, fits_caught, length_outermost}

-- a handler without a variable has none
no_variable : {A : Type 0} {v : Option ℕ} {n : ℕ} → v ≡ None → v ≡ Some n → A
no_variable p q = cc

module _ {S : Type 0} (m : Setup S) (f : Frame) (h : Handler) (x : Problem) (w : World S) where
  -- where the handler catches
  abbrev pub point : CatchPoint S
  point = record { frame = f; handler = h; fault = x; world = w }

  -- the frame that has caught, and the same where its catch block begins
  abbrev g : Frame
  g = catching f h x

  abbrev pub block : Frame
  block = resumed g h.target

  -- this scope keeps what the handler keeps of the scope
  abbrev Kept : List Entry → Type 0
  Kept scope = (base : ℕ) (ns : List (List ℕ)) → base ≤ h.scope → Keeps base ns w.scope →
      Keeps base ns scope

  -- a world to which catching comes
  abbrev Along : World S → Type 0
  Along u = (u.ran ≡ w.ran) × (u.tokens ≡ w.tokens) × (u.level ≡ w.level) × Kept u.scope ×
      (u.cells ≡ w.cells)

  -- memory is out, or the handler raises the fault
  abbrev FailsWith : Problem → World S → Type 0
  FailsWith y u = ((y ≡ NoMemory) × (is_stop m.stop u.passed ≡ true))
      ⊎ (CatchRow m y point × HasPosition (position_of m.program (raised_at y point)) y)

  pub record Fails (act : Act S) : Type 0 where
    pub fault : Problem
    pub world : World S
    pub is : act ≡ leave_by_fault m f fault world
    pub why : FailsWith fault world
    pub along : Along world

  pub record Begins (act : Act S) : Type 0 where
    pub world : World S
    pub is : act ≡ Go (InFrame block) world
    pub along : Along world
    pub there : h.scope ≤ length w.scope
    pub scope : world.scope ≡
        take h.scope w.scope ++ variable_entry m.program h.variable x
    pub trace : world.trace ≡ []
    pub count : world.count ≡ w.count + 1

  abbrev Outcome : Act S → Type 0
  Outcome act = Fails act ⊎ Begins act

  fails : (y : Problem) (u : World S) → FailsWith y u → Along u →
      Outcome (leave_by_fault m f y u)
  fails y u why along =
      inl (record { fault = y; world = u; is = refl; why = why; along = along })

  at_mark : (u : World S) → Along u → (go : World S → Act S) →
      Outcome (go (record u { passed = u.passed + 1 })) → Outcome (marked m f u go)
  at_mark u along go rest =
      by_test Outcome (is_stop m.stop u.passed) (leave_by_fault m f NoMemory u)
      (go (record u { passed = u.passed + 1 }))
      (λ stop. fails NoMemory u (inl (refl, stop)) along) (λ _. rest)

  escapes : (y : Problem) (u : World S) → CatchRow m y point →
      HasPosition (position_of m.program (raised_at y point)) y → Along u →
      Outcome (escaped m f y u)
  escapes y u row has along =
      at_mark u along (leave_by_fault m f y)
      (fails y (record u { passed = u.passed + 1 }) (inr (row, has)) along)

  -- the charge at the target, on a scope that is cut and has the variable
  module _ (scope : List Entry) (passed : ℕ) (kept : Kept scope) (came : ComesToCharge m point)
      (is : scope ≡ take h.scope w.scope ++ variable_entry m.program h.variable x) where
    abbrev now : World S
    now = record w { scope = scope; trace = []; passed = passed }

    abbrev counted : World S
    counted = record now { passed = passed + 1; count = w.count + 1 }

    abbrev heard : World S
    heard = record counted {
      passed = passed + 1 + 1 + 1;
      host = m.law.progress_after w.host (w.count + 1);
    }

    verdict : w.count < m.engine.limits.operations → (said : Verdict) →
        m.law.progress_reply w.host (w.count + 1) ≡ said →
        Outcome (on_verdict m said (position_of m.program h.target) g (leave_by_fault m g)
        heard (Go (InFrame block)))
    verdict fits GoOn e = inr (record {
      world = heard;
      is = refl;
      along = (refl, refl, refl, kept, refl);
      there = came.0;
      scope = is;
      trace = refl;
      count = refl;
    })
    verdict fits (Stop v) e =
        escapes (Plain (Terminated v) (position_of m.program h.target)) heard (came, fits, e) refl
        (refl, refl, refl, kept, refl)

    charges : Outcome (charged_or m (position_of m.program h.target) g (leave_by_fault m g)
        now (Go (InFrame block)))
    charges =
        let p = position_of m.program h.target in
        let leaves : Problem → World S → Act S = leave_by_fault m g in
        let go : World S → Act S = Go (InFrame block) in
        let after : World S → World S =
        λ w1. record w1 { host = m.law.progress_after w1.host w1.count } in
        let tells : World S → World S → Act S =
        λ w1 w2. on_verdict m (m.law.progress_reply w1.host w1.count) p g leaves w2 go in
        by_test Outcome (nat_lt w.count m.engine.limits.operations)
        (marked m g now (λ w1. progressed m p g leaves (record w1 { count = w1.count + 1 }) go))
        (marked m g now (leaves (Plain TooManyOperations p)))
        (λ fits. at_mark now (refl, refl, refl, kept, refl)
        (λ w1. progressed m p g leaves (record w1 { count = w1.count + 1 }) go)
        (at_mark counted (refl, refl, refl, kept, refl) (λ w1. marked m g (after w1) (tells w1))
        (at_mark (after (record counted { passed = counted.passed + 1 })) (refl, refl, refl, kept, refl)
        (tells (record counted { passed = counted.passed + 1 }))
        (verdict (ltb-true w.count m.engine.limits.operations fits)
        (m.law.progress_reply w.host (w.count + 1)) refl))))
        (λ full. escapes (Plain TooManyOperations p) now
        (came, ltb-false w.count m.engine.limits.operations full) refl (refl, refl, refl, kept, refl))

  -- the world whose scope and trace are cut
  abbrev cut : World S
  cut = record w { scope = take h.scope w.scope; trace = [] }

  kept_cut : Kept (take h.scope w.scope)
  kept_cut base ns low k = keeps_cut base h.scope ns w.scope low k

  binds : (v : Option ℕ) → h.variable ≡ v → h.scope ≤ length w.scope →
      Outcome (bind_caught m v (position_of m.program h.target) g x cut
      (λ w1. charged_or m (position_of m.program h.target) g (leave_by_fault m g) w1
      (Go (InFrame block))))
  binds None e there =
      let scope = take h.scope w.scope in
      charges scope w.passed kept_cut (there, λ n some. no_variable e some)
      (subst (λ (v : Option ℕ). scope ≡ scope ++ variable_entry m.program v x) (sym e)
      (sym (append-nil scope)))
  binds (Some n) e there =
      let p = position_of m.program h.target in
      let scope = take h.scope w.scope in
      let entry : Entry =
      new_entry (name_of m.program n) (read_write (caught_value m.program.source x)) in
      let charge : World S → Act S =
      λ w1. charged_or m p g (leave_by_fault m g) w1 (Go (InFrame block)) in
      by_test Outcome (is_full m.engine.limits.variables scope)
      (escaped m g (Plain TooManyVariables p) cut)
      (marked m g cut (λ w1. charge (record w1 { scope = w1.scope ++ entry ∷ [] })))
      (λ full. escapes (Plain TooManyVariables p) cut (
        n,
        e,
        omega (
          arith,
          leb-true m.engine.limits.variables (length scope) full,
          cut_short h.scope w.scope,
        ),
        there,
      ) refl (refl, refl, refl, kept_cut, refl))
      (λ room. at_mark cut (refl, refl, refl, kept_cut, refl)
      (λ w1. charge (record w1 { scope = w1.scope ++ entry ∷ [] }))
      (charges (scope ++ entry ∷ []) (w.passed + 1)
      (λ base ns low k. keeps_push base ns scope entry (kept_cut base ns low k)) (
        there,
        λ k some. omega (
          arith,
          leb-false m.engine.limits.variables (length scope) room,
          length-take h.scope w.scope,
          there,
        ),
      )
      (subst (λ (v : Option ℕ). scope ++ entry ∷ [] ≡ scope ++ variable_entry m.program v x)
      (sym e) refl)))

  pub outcome : Fails (caught m f h x w) ⊎ Begins (caught m f h x w)
  outcome =
      let p = position_of m.program h.target in
      let y = Plain (Malformed (kind.TryFloorBroken h.scope (length w.scope)))
      (position_of m.program f.address) in
      by_test Outcome (nat_lt (length w.scope) h.scope) (escaped m f y (record w { trace = [] }))
      (bind_caught m h.variable p g x cut
      (λ w1. charged_or m p g (leave_by_fault m g) w1 (Go (InFrame block))))
      (λ short. escapes y (record w { trace = [] }) (refl, refl, ltb-true (length w.scope) h.scope short) refl
      (refl, refl, refl, λ base ns low k. k, refl))
      (λ clear. binds h.variable refl (ltb-false (length w.scope) h.scope clear))

  -- what is left of a catch, on its footing
  module _ (root turn : Act S) (k : Footing) (comes : Comes m (InCatch f h x) w root) (r : ℕ)
      (ran : w.ran ≡ r) (tokens : w.tokens ≡ k.tokens) (level : w.level ≡ k.level)
      (keeps : Stays k None w.scope w.cells) (can : CanCatch m root k f h x) where
    stays : (u : World S) → Along u → Stays k None u.scope u.cells
    stays u along = record {
      keeps = along.3 k.base k.names can.scope keeps.keeps;
      unlent = subst (Unlent k.cells) (sym along.4) keeps.unlent;
    }

    even_fails : (act : Act S) → Fails act → Tally m Framed root turn r k act
    even_fails act l =
        let u = l.world in
        let left : Cut m root k.level k.base l.fault (take f.floor u.scope)
        (u.trace ++ record { address = f.address; slot = f.slot } ∷ []) = record {
          frame = can.from;
          world = can.world;
          comes = can.comes;
          own = can.own;
          based = can.from_base;
          inner = u.trace;
          slot = f.slot;
          last = ap (λ (a : ℕ). u.trace ++ record { address = a; slot = f.slot } ∷ []) can.address;
          blames = blames l.fault u l.why;
          short = inl (omega (arith, cut_short f.floor u.scope, can.floor));
        } in
        subst (Tally m Framed root turn r k) (sym l.is) (
          l.along.0 ∙ ran,
          l.along.1 ∙ tokens,
          l.along.2 ∙ level,
          stays_cut f.floor u.scope u.cells can.low (stays u l.along),
          (inl left, cause l.fault u l.why),
        ) where
          may : (x ≡ can.blamed.raised) ⊎ ((throws_unit can.blamed.raised ≡ true)
              ⊎ ((catchable can.blamed.raised ≡ true) × (catchable x ≡ false))) →
              (throws_unit can.blamed.raised ≡ true) ⊎ (catchable can.blamed.raised ≡ true)
          may (inl same) = inr (sym (ap catchable same) ∙ can.may)
          may (inr (inl unit)) = inl unit
          may (inr (inr passes)) = true-false can.may passes.1

          failed : (y : Problem) → catchable y ≡ false →
              (throws_unit can.blamed.raised ≡ true) ⊎ (catchable can.blamed.raised ≡ true) →
              Blamed m can.from can.world f.slot y
          failed y passes how = record {
            instruction = can.blamed.instruction;
            width = can.blamed.width;
            stands = can.blamed.stands;
            raised = can.blamed.raised;
            blames = can.blamed.blames;
            left = inr (either how);
          } where
            either : (throws_unit can.blamed.raised ≡ true) ⊎ (catchable can.blamed.raised ≡ true) →
                (throws_unit can.blamed.raised ≡ true)
                ⊎ ((catchable can.blamed.raised ≡ true) × (catchable y ≡ false))
            either (inl unit) = inl unit
            either (inr caught) = inr (caught, passes)

          blames : (y : Problem) (u : World S) → FailsWith y u →
              (y ≡ NoMemory) ⊎ Blamed m can.from can.world f.slot y
          blames y u (inl out) = inl out.0
          blames y u (inr why) =
              inr (failed y (catch_passes m y point why.0) (may can.blamed.left))

          cause : (y : Problem) (u : World S) → FailsWith y u → Caused m root k.level (Failed y) u
          cause y u (inl out) = inl out
          cause y u (inr why) = inr (by_catch (record {
            point = point;
            comes = comes;
            why = why.0;
            tells = inl (level, why.1);
          }))

    even_begins : (act : Act S) → Begins act → Tally m Framed root turn r k act
    even_begins act b =
        subst (Tally m Framed root turn r k) (sym b.is) (
          b.along.0 ∙ ran,
          b.along.1 ∙ tokens,
          b.along.2 ∙ level,
          stays b.world b.along,
          (
            b.trace,
            (
              can.base,
              can.low,
              λ valid. fits_caught m.program f h x (can.covered valid),
              (
                can.scope,
                record {
                  may = can.may;
                  cause = can.cause;
                  caught = point;
                  comes = comes;
                  own = level;
                  is = refl;
                  handler = refl;
                },
                can.around,
              ),
              (refl, refl),
            ),
          ),
        )

    pub even_caught : Tally m Framed root turn r k (caught m f h x w)
    even_caught = by_outcome outcome where
      by_outcome : Outcome (caught m f h x w) → Tally m Framed root turn r k (caught m f h x w)
      by_outcome (inl l) = even_fails (caught m f h x w) l
      by_outcome (inr b) = even_begins (caught m f h x w) b

  -- where the handler's target has a typing, the handler catches rightly
  pub catches_rightly : h.caught ≡ None →
      Covered m.program f.operands f.cursors (try_of h ∷ tries f.handlers) → Catches m point
  catches_rightly armed covered = by_outcome outcome where
    enough : h.operands ≤ length f.operands
    enough = as_many m.program f.operands f.cursors (try_of h) (tries f.handlers) covered

    enough_cursors : h.cursors ≤ length f.cursors
    enough_cursors =
        as_many_cursors m.program f.operands f.cursors (try_of h) (tries f.handlers) covered

    passes : (y : Problem) (u : World S) → FailsWith y u → catchable y ≡ false
    passes y u (inl out) = ap catchable out.0
    passes y u (inr why) = catch_passes m y point why.0

    by_outcome : Outcome (caught m f h x w) → Catches m point
    by_outcome (inl l) = record {
      armed = armed;
      enough = enough;
      enough_cursors = enough_cursors;
      leads = inl (
        l.fault,
        record l.world {
          scope = take f.floor l.world.scope;
          trace = l.world.trace ++ record { address = f.address; slot = f.slot } ∷ [];
        },
        l.is,
        passes l.fault l.world l.why,
      );
    }
    by_outcome (inr b) = record {
      armed = armed;
      enough = enough;
      enough_cursors = enough_cursors;
      leads = inr (
        block,
        b.world,
        b.is,
        record {
          target = refl;
          operands = refl;
          as_many = omega (arith, length-take h.operands f.operands, enough);
          cursors = refl;
          as_many_cursors = length_outermost h.cursors f.cursors enough_cursors;
          totals = refl;
          handlers = refl;
          base = refl;
          floor = refl;
          this = refl;
          slot = refl;
          position = refl;
          there = b.there;
          scope = b.scope;
          trace = b.trace;
          level = b.along.2;
          count = b.count;
        },
      );
    }
