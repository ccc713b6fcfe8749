-- Whole runs: what the walk over the rules says of all that a run does and comes to, and so of a
-- call.
use Rattle.std.proofs.Common.{◌≡◌, ℕ, ◌+◌, List, [], ◌∷◌, Option, Some, None, refl, inl, inr, arith, length}
use Rattle.grain_value.specs.declared.values.Dynamic.{Dynamic}
use Rattle.grain_fault.specs.declared.traces.Fault.{Fault}
use Rattle.grain_fault.specs.Problems.{NoMemory}
use Rattle.grain_program.specs.Typing.{IsProgram}
use Rattle.grain_means.specs.Worlds.{Act, Go, End, Then, Answer, Came, Failed, World, Setup, Frame, Todo, InFrame, InCatch, InHost, Place}
use Rattle.grain_means.specs.Rules.{exit_of, exited, is_stop, next, passing, closed, called, main_frame}
use Rattle.grain_means.specs.Ends.{Ends, ended, went, joined}
use Rattle.grain_means.specs.Comes.{CatchPoint, Comes, ComesToCatch, here, further, within, behind, Stands, try_of, tries}
use Rattle.grain_means.specs.Leavings.{names, Keeps, Cuts}
use Rattle.grain_means.specs.Length.{cost, run_length}
use Rattle.grain_means.specs.Causes.{Caused}
use Rattle.grain_means.specs.CatchBlocks.{Catches}
use Rattle.grain_means.proofs.Kept.{keeps_all}
use Rattle.grain_means.proofs.Standing.{Fitting, Covered, fits_main, fits_stand}
use Rattle.grain_means.proofs.Ground.{Footing, Stays}
use Rattle.grain_means.proofs.Footing.{Onto, Over, Tally, by_test, true-false}
use Rattle.grain_means.proofs.Roles.{Role, Framed, Hosting}
use Rattle.grain_means.proofs.Unlent.{unlent_same}
use Rattle.grain_means.proofs.Tally.Callbacks.{even_back}
use Rattle.grain_means.proofs.Carrying.{caused, cut_of}
use Rattle.grain_means.proofs.Catching.{even_caught, catches_rightly}
use Rattle.grain_means.proofs.Tally.{even_next}

module _ {S : Type 0} (m : Setup S) where
  -- one more thing is done
  even_step : (role : Role) (root turn : Act S) (r : ℕ) (k : Footing) (t : Todo) (w : World S) →
      Comes m t w root → Tally m role root turn r k (Go t w) →
      Tally m role root (Go t w) (w.ran + cost t) k (next m t w)
  even_step Framed root turn r k (InFrame f) w comes h =
      even_next {m = m} (record {
        root = root;
        footing = k;
        frame = f;
        now = w;
        comes = comes;
        tokens = h.1;
        level = h.2;
        trace = h.4.0;
        keeps = h.3;
        sits = h.4.1;
      })
  even_step Hosting root turn r k (InFrame f) w comes h = absurd h.4
  even_step Framed root turn r k (InCatch f h x) w comes s =
      even_caught m f h x w root (Go (InCatch f h x) w) k comes (w.ran + 0) (omega arith) s.1 s.2
      s.3 s.4
  even_step Hosting root turn r k (InCatch f h x) w comes s = absurd s.4
  even_step Framed root turn r k (InHost c) w comes h = absurd h.4
  even_step Hosting root turn r k (InHost c) w comes h = even_back m root r k turn c w h

  -- what is counted, the tokens, the level, the scope and the cells, and how it ended
  tallied : {act : Act S} {a : Answer} {v : World S} (d : Ends m act a v) (role : Role)
      (root turn : Act S) (r : ℕ) (k : Footing) → Onto m act root → Onto m act turn →
      Tally m role root turn r k act →
      (v.ran ≡ r + run_length d) × (v.tokens ≡ k.tokens) × (v.level ≡ k.level) ×
      Stays k None v.scope v.cells × Over m role root k a v
  tallied ended role root turn r k onto mine h = (omega (arith, h.0), h.1, h.2, h.3, h.4)
  tallied (went {t = t} {w = w} d) role root turn r k onto mine h =
      let i = tallied d role root (Go t w) (w.ran + cost t) k (λ g u c. onto g u (further c))
      (λ g u c. further c) (even_step role root turn r k t w (onto t w here) h)
      in
      (omega (arith, h.0, i.0), i.1, i.2, i.3, i.4)
  tallied (joined {first = first} {rest = rest} {b = x} {w = w} d e) role root turn r k onto mine h =
      let j = h.0 in
      let i = tallied d h.1 first first r j (λ g u c. c) (λ g u c. c) h.2 in
      let l = tallied e role root turn w.ran k (λ g u c. onto g u (behind d c))
      (λ g u c. mine g u (behind d c))
      (h.3 (λ g u c. onto g u (within c)) (λ g u c. mine g u (within c)) x w d i.1 i.2 i.3 i.4) in
      (omega (arith, i.0, l.0), l.1, l.2, l.3, l.4)

  -- what a valid program has where a run stands
  abbrev Suits : Todo → Type 0
  Suits (InFrame f) = Fitting m.program f
  Suits (InCatch f h x) =
      (h.caught ≡ None) × Covered m.program f.operands f.cursors (try_of h ∷ tries f.handlers)
  Suits (InHost c) = Unit {0}

  suits : (role : Role) (root turn : Act S) (r : ℕ) (k : Footing) (t : Todo) (w : World S) →
      Tally m role root turn r k (Go t w) → IsProgram m.program → Suits t
  suits Framed root turn r k (InFrame f) w h valid = h.4.1.2 valid
  suits Framed root turn r k (InCatch f h x) w s valid = (s.4.armed, s.4.covered valid)
  suits Hosting root turn r k (InFrame f) w h valid = absurd h.4
  suits Hosting root turn r k (InCatch f h x) w s valid = absurd s.4
  suits role root turn r k (InHost c) w h valid = tt

  -- and this wherever it comes to
  sitting : {t : Todo} {w : World S} {act : Act S} → Comes m t w act → (role : Role)
      (root turn : Act S) (r : ℕ) (k : Footing) → Onto m act root → Onto m act turn →
      Tally m role root turn r k act → IsProgram m.program → Suits t
  sitting {t} {w} here role root turn r k onto mine h = suits role root turn r k t w h
  sitting (further {u = u} {v = v} c) role root turn r k onto mine h =
      sitting c role root (Go u v) (v.ran + cost u) k (λ g w c. onto g w (further c))
      (λ g w c. further c) (even_step role root turn r k u v (onto u v here) h)
  sitting (within {first = first} c) role root turn r k onto mine h =
      sitting c h.1 first first r h.0 (λ g u c. c) (λ g u c. c) h.2
  sitting (behind {first = first} {rest = rest} {a = x} {v = v} d c) role root turn r k onto mine h =
      let i = tallied d h.1 first first r h.0 (λ g u c. c) (λ g u c. c) h.2 in
      sitting c role root turn v.ran k (λ g u c. onto g u (behind d c))
      (λ g u c. mine g u (behind d c))
      (h.3 (λ g u c. onto g u (within c)) (λ g u c. mine g u (within c)) x v d i.1 i.2 i.3 i.4)

  even_passing : (root : Act S) (k : Footing) (w v : World S) (go : World S → Act S) →
      v.ran ≡ w.ran → v.tokens ≡ k.tokens → v.level ≡ k.level → v.trace ≡ [] →
      Stays k None v.scope v.cells →
      Tally m Framed root root w.ran k (go (record v { passed = v.passed + 1 })) →
      Tally m Framed root root w.ran k (passing m v go)
  even_passing root k w v go r t l e there h =
      by_test (Tally m Framed root root w.ran k) (is_stop m.stop v.passed) (End (Failed NoMemory) v)
      (go (record v { passed = v.passed + 1 }))
      (λ stop. (r, t, l, there, (inr (refl, e), inl (refl, stop)))) (λ _. h)

  -- a call that began with this trace, which is empty, is over
  module _ (first root : Act S) (onto : Onto m first root) (k : Footing) (before : List Fault)
      (fresh : before ≡ []) where
    cuts_of : (x : Answer) (u : World S) → Cuts m first k.level k.base x u →
        Cuts m root k.level k.base x (record u { passed = u.passed + 1 })
    cuts_of (Came v) u cut = cut
    cuts_of (Failed x) u (inl c) =
        inl (cut_of m first root onto k.level k.base x x (inl refl) u.scope u.trace c)
    cuts_of (Failed x) u (inr e) = inr e

    -- memory is out when a call is over
    cuts_late : (x : Answer) (u : World S) → Cuts m first k.level k.base x u →
        Cuts m root k.level k.base (Failed NoMemory) u
    cuts_late (Came v) u cut = inr (refl, cut)
    cuts_late (Failed x) u (inl c) =
        inl (cut_of m first root onto k.level k.base x NoMemory (inr refl) u.scope u.trace c)
    cuts_late (Failed x) u (inr e) = inr (refl, e.1)

    -- an exit is a value that leaves the trace as it was at the beginning
    even_exited : (x : Answer) (u : World S) → u.tokens ≡ k.tokens → u.level ≡ k.level →
        Stays k None u.scope u.cells → Cuts m root k.level k.base x u →
        Caused m root k.level x u →
        (v : Option Dynamic) → Tally m Framed root root u.ran k (exited m v before x u)
    even_exited x u t l there cut cause None = (refl, t, l, there, (cut, cause))
    even_exited x u t l there cut cause (Some v) = (refl, t, l, there, (fresh, tt))

    even_closed : (x : Answer) (u : World S) → u.tokens ≡ k.tokens → u.level ≡ k.level →
        Stays k None u.scope u.cells → Cuts m first k.level k.base x u →
        Caused m first k.level x u → Tally m Framed root root u.ran k (closed m before x u)
    even_closed x u t l there cut cause =
        by_test (Tally m Framed root root u.ran k) (is_stop m.stop u.passed) (End (Failed NoMemory) u)
        (exited m (exit_of x) before x (record u { passed = u.passed + 1 }))
        (λ stop. (refl, t, l, there, (cuts_late x u cut, inl (refl, stop))))
        (λ clear. even_exited x (record u { passed = u.passed + 1 }) t l there (cuts_of x u cut)
        (caused m first root onto k.level x u (record u { passed = u.passed + 1 })
        (λ stop. true-false stop clear) cause) (exit_of x))

  -- the footing on which a call stands
  abbrev footing : World S → Footing
  footing w = record {
    tokens = w.tokens;
    level = w.level;
    base = length w.scope;
    names = names w.scope;
    cells = w.cells;
  }

  even_called : (this : Option Place) (w : World S) → w.trace ≡ [] →
      Tally m Framed (called m this w) (called m this w) w.ran (footing w) (called m this w)
  even_called this w fresh =
      let k = footing w in
      let root = called m this w in
      let there : Stays k None w.scope w.cells =
      record { keeps = keeps_all w.scope; unlent = unlent_same w.cells } in
      let inside : World S = record w { passed = w.passed + 1 + 1 } in
      let main : Act S = Go (InFrame (main_frame m w.scope this)) inside in
      let enters : World S → Act S =
      λ v. Then (Go (InFrame (main_frame m v.scope this)) v) (closed m v.trace) in
      even_passing root k w w (λ v. passing m v enters) refl refl refl fresh there
      (even_passing root k w (record w { passed = w.passed + 1 }) enters refl refl refl fresh there (
        k,
        Framed,
        (
          refl,
          refl,
          refl,
          there,
          (
            fresh,
            (
              refl,
              omega arith,
              λ valid. fits_main m.program valid (length w.scope) this,
              tt,
              (refl, refl),
            ),
          ),
        ),
        λ onto mine x u ends t l stays end. even_closed main root onto k w.trace fresh x u t l stays end.0
            end.1,
      ))

  -- a whole call's count, tokens, level, scope and cause
  pub called_counts : (this : Option Place) (w v : World S) (a : Answer)
      (d : Ends m (called m this w) a v) → w.trace ≡ [] →
      (v.ran ≡ w.ran + run_length d) × (v.tokens ≡ w.tokens) × (v.level ≡ w.level) ×
      Keeps (length w.scope) (names w.scope) v.scope ×
      Cuts m (called m this w) w.level (length w.scope) a v ×
      Caused m (called m this w) w.level a v
  called_counts this w v a d fresh =
      let i = tallied d Framed (called m this w) (called m this w) w.ran (footing w) (λ g u c. c)
      (λ g u c. c) (even_called this w fresh) in
      (i.0, i.1, i.2, i.3.keeps, i.4.0, i.4.1)

  -- what a valid program has wherever a call comes to
  called_suits : IsProgram m.program → (this : Option Place) (w v : World S) (t : Todo) →
      w.trace ≡ [] → Comes m t v (called m this w) → Suits t
  called_suits valid this w v t fresh c =
      sitting c Framed (called m this w) (called m this w) w.ran (footing w) (λ g u c. c) (λ g u c. c)
      (even_called this w fresh) valid

  -- where a call of a valid program comes to a frame, an instruction stands with its operands
  pub called_stands : IsProgram m.program → (this : Option Place) (w v : World S) (f : Frame) →
      w.trace ≡ [] → Comes m (InFrame f) v (called m this w) → Stands m.program f
  called_stands valid this w v f fresh c =
      fits_stand m.program valid f (called_suits valid this w v (InFrame f) fresh c)

  -- where it comes to a handler that catches, that catches rightly
  pub called_catches : IsProgram m.program → (this : Option Place) (w : World S) →
      w.trace ≡ [] → (at : CatchPoint S) → ComesToCatch m at (called m this w) → Catches m at
  called_catches valid this w fresh at c =
      let s = called_suits valid this w at.world (InCatch at.frame at.handler at.fault) fresh c in
      catches_rightly m at.frame at.handler at.fault at.world s.0 s.1
