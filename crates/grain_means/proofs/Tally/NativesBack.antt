-- The walk over the rules through a native that a native calls back.
use Rattle.std.proofs.Common.{◌≡◌, ◌+◌, ◌<◌, ℕ, List, [], Option, Some, None, true, false, ◌&&◌, if◌then◌else◌, refl, sym, subst, ap, ◌∙◌, inl, inr, length, nat_le}
use Rattle.std.proofs.lemmas.Bool.{leb-true, leb-false}
use Rattle.grain_value.specs.declared.natives.Native.{Native}
use Rattle.grain_value.specs.declared.values.Dynamic.{Dynamic}
use Rattle.grain_value.specs.declared.values.FnPtr.{FnPtr}
use Rattle.grain_value.specs.declared.values.Held.{Held}
use Rattle.grain_value.specs.Tree.{Tree}
use Rattle.grain_value.specs.Operands.{values_in}
use Rattle.grain_fault.specs.Positions.{at_position_if_none}
use Rattle.grain_fault.specs.declared.places.Position.{Position}
use Rattle.grain_fault.specs.Problems.{FaultKind, Problem, Plain, DataRace, NonPureCall, NoMemory, StackOverflow}
use Rattle.grain_host.specs.Law.{Reply, native_of}
use Rattle.grain_host.specs.Law as reply
use Rattle.grain_host.specs.Signatures.{not_found}
use Rattle.grain_program.specs.declared.code.functions.Function.{Function}
use Rattle.grain_means.specs.Ends.{Ends, ended, joined}
use Rattle.grain_means.specs.Leavings.{Keeps}
use Rattle.grain_means.specs.Rules.{answered, arguments_back, called_back, called_back_over, callee_called_back, failed_so, first_is_read_only, flat_all, function_back, host_called_or, is_stop, is_told, kinds_in, marked_or, native_back, native_back_over, native_called_back, native_found_or, native_over, no_memory, position, race_text, trees_in, unheard}
use Rattle.grain_means.specs.Worlds.{Act, Answer, Came, Callback, End, Failed, Go, InHost, Setup, Then, World}
use Rattle.grain_means.specs.Causes.{BackAsks, IsCalled, IsCalledBack, IsKeptOut, IsTaken, NativeBack, first_asked, native_asked, native_begins, of_native, parameters, question_back, reply_to}
use Rattle.grain_means.specs.Causes.Spots.{past}
use Rattle.grain_means.proofs.Asked.{fails_past}
use Rattle.grain_means.proofs.Choices.{if_false, if_true}
use Rattle.grain_means.proofs.Footing.{by_test, true-false}
use Rattle.grain_means.proofs.Missing.{of_each}
use Rattle.grain_means.proofs.Roles.{Hosting, NativeAnswers, NativeFails}
use Rattle.grain_means.proofs.Tally.Natives.{memory_only}
use Rattle.grain_means.proofs.Tally.Asking.{IsOver, asking, even_asked}
use Rattle.grain_means.proofs.Tally.Functions.{Beside, EndsAs, even_taken, raises, told as counted_world}
use Rattle.grain_means.proofs.Tally.Telling.{Aside, Back, Hosted, even_fault, even_out, even_untold, even_value, kept_out, out_so, root, turn}
use Rattle.grain_means.proofs.Unlent.{Unlent, unlent_same}

-- the host hears that there is no native of a name
told_missing : (name : List ℕ) (args : List Dynamic) (q : Position) →
    is_told (not_found name args q) ≡ true
told_missing name args q =
    of_each (λ (k : FaultKind). is_told (Plain k q) ≡ true) name args (λ s. refl) (λ s. refl)
    (λ s. refl)

module _ {S : Type 0} {m : Setup S} (hosted : Hosted m) (r : ℕ) (ran : hosted.now.ran ≡ r) where
  open hosted use {first, start, footing as k, callback as c, now, on, stays, trace}

  abbrev q : Position
  q = position m c.frame

  abbrev heard : Answer → World S → Act S
  heard = called_back_over m c

  -- the call ends so, whatever follows
  abbrev whole_run : Act S
  whole_run = called_back m End c now

  abbrev Whole : Act S → Type 0
  Whole act = EndsAs m whole_run act

  -- a native is called back
  module _ (none : function_back m.program m.engine.callbacks c ≡ None) where
    -- the world in which it is asked for, one level up, and a later one a level down again
    abbrev up : World S
    up = native_begins m now

    abbrev down : World S → World S
    down u = record u { level = now.level }

    abbrev over : Answer → World S → Act S
    over = native_back_over m heard now.level

    abbrev said : Answer → World S → Act S
    said = native_back_over m End now.level

    -- a world after n instructions, one level up
    abbrev Up : ℕ → World S → Type 0
    Up n u = Aside hosted n (down u)

    -- the native ended with this fault
    fails_so : (x : Problem) (u : World S) (n : ℕ) → Whole (failed_so m said x u) →
        (is_stop m.stop u.passed ≡ false → is_told x ≡ false → NativeFails m first start x) → Up n u →
        Back hosted n (failed_so m over x u)
    fails_so x u n so_ends why at =
        by_test (Back hosted n) (is_stop m.stop u.passed) (over (Failed NoMemory) u)
        (over (Failed x) (past u))
        (λ stop. even_out hosted (down u) n stop at)
        (λ clear. even_fault hosted x (down (past u)) n
        (so_ends (Failed x) (down (past u))
        (if_false (λ (act : Act S). Ends m act (Failed x) (down (past u))) (is_stop m.stop u.passed)
        (said (Failed NoMemory) u) (said (Failed x) (past u)) clear ended)) (why clear)
        (record {
          ran = at.ran;
          tokens = at.tokens;
          level = at.level;
          keeps = at.keeps;
          size = at.size;
          unlent = at.unlent;
        }))

    told_of : (x : Problem) → is_told x ≡ true → is_told x ≡ false → NativeFails m first start x
    told_of x told untold = true-false told untold

    begins_up : (u : World S) → u.ran ≡ now.ran → u.tokens ≡ now.tokens → u.scope ≡ now.scope →
        u.cells ≡ now.cells → Up r u
    begins_up u same tokens scope cells = record {
      ran = same ∙ ran;
      tokens = tokens;
      level = refl;
      keeps = subst (Keeps k.base k.names) (sym scope) stays.keeps;
      size = ap length scope;
      unlent = subst (Unlent now.cells) (sym cells) (unlent_same now.cells);
    }

    -- on these arguments, as they are read
    module _ (taken : IsTaken m now) (low : now.level < m.engine.limits.levels) (args : List Held)
        (reads : flat_all now.cells (arguments_back c) ≡ Some args) where
      abbrev name : List ℕ
      name = c.pointer.name

      abbrev back_with : Native → NativeBack m c now
      back_with n = record {
        none = none;
        taken = taken;
        level = low;
        args = args;
        reads = reads;
        native = n;
      }

      -- once the host has answered
      abbrev served : Native → World S
      served n = record up {
        passed = up.passed + 1 + 1;
        host = m.law.call_after up.host n.key None (trees_in args);
      }

      module _ (n : Native) (found : native_asked m (question_back m (back_with n)) ≡ Some n)
          (called : IsCalled (question_back m (back_with n)) n)
          (clear : is_stop m.stop up.passed ≡ false) (later : is_stop m.stop (up.passed + 1) ≡ false) where
        abbrev asked : ℕ → FnPtr → List Tree → Callback
        asked token p values = first_asked m (question_back m (back_with n)) n c.frame token p values

        is_called : IsCalledBack m (back_with n)
        is_called = (found, called, clear, later)

        -- the calls that the native asked for are over
        even_over : (token : ℕ) (p : FnPtr) (values : List Tree) →
            reply_to m (question_back m (back_with n)) n.key ≡ reply.Ask token p values →
            (a : Answer) (u : World S) →
            IsOver m (turn hosted) (asked token p values) (served n) k.base k.names a u →
            Whole (Then (Go (InHost (asked token p values)) (asking (asked token p values) (served n)))
            (native_over (said (Failed NoMemory)) (λ v w. said (Came v) w) (failed_so m said))) →
            NativeAnswers m (asked token p values) (asking (asked token p values) (served n)) a u →
            Back hosted u.ran
            (native_over (over (Failed NoMemory)) (λ v w. over (Came v) w) (failed_so m over) a u)
        even_over token p values is a u o so_ends = by_answer a o.ends where
          at : Up u.ran u
          at = record {
            ran = refl;
            tokens = o.tokens;
            level = refl;
            keeps = o.keeps;
            size = o.size;
            unlent = o.unlent;
          }

          asks : BackAsks m c now
          asks = record {
            back = back_with n;
            called = is_called;
            token = token;
            pointer = p;
            values = values;
            asks = is;
          }

          by_answer : (a : Answer) →
              Ends m (Go (InHost (asked token p values)) (asking (asked token p values) (served n))) a u →
              NativeAnswers m (asked token p values) (asking (asked token p values) (served n)) a u →
              Back hosted u.ran
              (native_over (over (Failed NoMemory)) (λ v w. over (Came v) w) (failed_so m over) a u)
          by_answer (Came v) ends answers =
              even_value hosted v (down u) u.ran (so_ends (Came v) (down u) (joined ends ended)) at
          by_answer (Failed x) ends (inl out) =
              subst (λ (y : Problem). Back hosted u.ran (native_over (over (Failed NoMemory))
              (λ v w. over (Came v) w) (failed_so m over) (Failed y) u)) (sym out.0)
              (even_out hosted (down u) u.ran out.1 at)
          by_answer (Failed x) ends (inr how) =
              by_test (Back hosted u.ran) (no_memory x) (over (Failed NoMemory) u) (failed_so m over x u)
              (λ yes. let is_out : x ≡ NoMemory = memory_only x yes in
              even_untold hosted NoMemory (down u) u.ran refl (subst (NativeFails m first start) is_out
              (fails_past m on asks how (ap is_told is_out) u ends (inl yes))) at)
              (λ no. fails_so x u u.ran (λ b v rest. so_ends b v (joined ends
              (if_false (λ (act : Act S). Ends m act b v) (no_memory x) (said (Failed NoMemory) u)
              (failed_so m said x u) no rest)))
              (λ passes untold. fails_past m on asks how untold u ends (inr passes)) at)

        even_answered : (x : Reply) → reply_to m (question_back m (back_with n)) n.key ≡ x →
            Whole (answered m (said (Failed NoMemory)) None x c.frame (served n)
            (λ v w. said (Came v) w) (failed_so m said)) →
            Back hosted r (answered m (over (Failed NoMemory)) None x c.frame (served n)
            (λ v w. over (Came v) w) (failed_so m over))
        even_answered (reply.Done v) is so_ends =
            even_value hosted v (down (served n)) r (so_ends (Came v) (down (served n)) ended)
            (begins_up (served n) refl refl refl refl)
        even_answered (reply.Failed y) is so_ends =
            fails_so (at_position_if_none q y) (served n) r so_ends
            (λ passes no. inl (record {
              callback = c;
              world = now;
              on = of_native on;
              why = inr (inr (back_with n, y, is_called, is, passes, no, refl));
              goes = tt;
            })) (begins_up (served n) refl refl refl refl)
        even_answered (reply.Ask token p values) is so_ends =
            even_asked m Hosting (root hosted) (turn hosted) k r (asked token p values) (served n) k.base
            k.names ran trace stays.keeps
            (native_over (over (Failed NoMemory)) (λ v w. over (Came v) w) (failed_so m over))
            (λ a u o. even_over token p values is a u o so_ends o.answers)

      -- the host has answered, and is not heard
      even_unheard : (x : Reply) (u : World S) → is_stop m.stop u.passed ≡ true → Up r u →
          Back hosted r (over (Failed NoMemory) (unheard m.law x u))
      even_unheard (reply.Done v) u stop at = even_out hosted (down u) r stop at
      even_unheard (reply.Failed y) u stop at = even_out hosted (down u) r stop at
      even_unheard (reply.Ask token p values) u stop at =
          even_out hosted (down (record u { host = m.law.forget_after u.host token })) r stop (record {
            ran = at.ran;
            tokens = at.tokens;
            level = at.level;
            keeps = at.keeps;
            size = at.size;
            unlent = at.unlent;
          })

      even_host : (n : Native) → native_asked m (question_back m (back_with n)) ≡ Some n →
          IsCalled (question_back m (back_with n)) n →
          Whole (host_called_or m (said (Failed NoMemory)) n.key None args c.frame up
          (λ v w. said (Came v) w) (failed_so m said)) →
          Back hosted r (host_called_or m (over (Failed NoMemory)) n.key None args c.frame up
          (λ v w. over (Came v) w) (failed_so m over))
      even_host n found called so_ends =
          let told : World S → World S =
          λ w. record w { host = m.law.call_after w.host n.key None (trees_in args) } in
          let says : World S → Reply = λ w. m.law.call_reply w.host n.key None (trees_in args) in
          let answers : World S → World S → Act S = λ w1 w2. answered m (over (Failed NoMemory)) None
          (says w1) c.frame w2 (λ v w. over (Came v) w) (failed_so m over) in
          let answers_said : World S → World S → Act S = λ w1 w2. answered m (said (Failed NoMemory))
          None (says w1) c.frame w2 (λ v w. said (Came v) w) (failed_so m said) in
          let lost : World S → Act S = λ w. over (Failed NoMemory) (unheard m.law (says (past up)) w) in
          let lost_said : World S → Act S =
          λ w. said (Failed NoMemory) (unheard m.law (says (past up)) w) in
          by_test (Back hosted r) (is_stop m.stop up.passed) (over (Failed NoMemory) up)
          (marked_or m lost (told (past up)) (answers (past up)))
          (λ stop. even_out hosted (down up) r stop (begins_up up refl refl refl refl))
          (λ clear. by_test (Back hosted r) (is_stop m.stop (up.passed + 1)) (lost (told (past up)))
          (answers (past up) (past (told (past up))))
          (λ stop. even_unheard (says (past up)) (told (past up)) stop
          (begins_up (told (past up)) refl refl refl refl))
          (λ later. even_answered n found called clear later (says (past up)) refl (λ a v ends. so_ends a v
          (if_false (λ (act : Act S). Ends m act a v) (is_stop m.stop up.passed)
          (said (Failed NoMemory) up) (marked_or m lost_said (told (past up)) (answers_said (past up)))
          clear (if_false (λ (act : Act S). Ends m act a v) (is_stop m.stop (up.passed + 1))
          (lost_said (told (past up))) (answers_said (past up) (past (told (past up)))) later ends)))))

      even_found : (found : Option Native) →
          native_of m.law up.host name (kinds_in args) ≡ found →
          Whole (native_found_or m (said (Failed NoMemory)) found name None args c.frame up
          (λ v w. said (Came v) w) (failed_so m said)) →
          Back hosted r (native_found_or m (over (Failed NoMemory)) found name None args c.frame up
          (λ v w. over (Came v) w) (failed_so m over))
      even_found None is so_ends =
          let x = not_found name (values_in args) q in
          fails_so x up r so_ends (λ clear. told_of x (told_missing name (values_in args) q))
          (begins_up up refl refl refl refl)
      even_found (Some n) is so_ends =
          let x = Plain (NonPureCall name) q in
          let test = n.writes && first_is_read_only args in
          by_test (Back hosted r) test (failed_so m over x up)
          (host_called_or m (over (Failed NoMemory)) n.key None args c.frame up
          (λ v w. over (Came v) w) (failed_so m over))
          (λ yes. fails_so x up r (λ a v ends. so_ends a v (if_true (λ (act : Act S). Ends m act a v) test
          (failed_so m said x up) (host_called_or m (said (Failed NoMemory)) n.key None args c.frame up
          (λ d w. said (Came d) w) (failed_so m said)) yes ends)) (λ clear. told_of x refl)
          (begins_up up refl refl refl refl))
          (λ no. even_host n is no (λ a v ends. so_ends a v (if_false (λ (act : Act S). Ends m act a v)
          test (failed_so m said x up) (host_called_or m (said (Failed NoMemory)) n.key None args c.frame
          up (λ d w. said (Came d) w) (failed_so m said)) no ends)))

    even_read : (taken : IsTaken m now) → now.level < m.engine.limits.levels →
        (args : Option (List Held)) → flat_all now.cells (arguments_back c) ≡ args →
        Whole (native_back m said c args up) → Back hosted r (native_back m over c args up)
    even_read taken low None is so_ends =
        let x = Plain (DataRace (race_text [])) q in
        fails_so x up r so_ends (λ clear. told_of x refl) (begins_up up refl refl refl refl)
    even_read taken low (Some args) is so_ends =
        even_found taken low args is
        (native_of m.law up.host c.pointer.name (kinds_in args)) refl so_ends

    -- once the operation is taken
    abbrev entering : (Answer → World S → Act S) → World S → Act S
    entering go w =
        if nat_le m.engine.limits.levels w.level
        then failed_so m go (Plain StackOverflow q) w
        else native_back m (native_back_over m go w.level) c (flat_all w.cells (arguments_back c))
        (record w { level = w.level + 1 })

    kept_back_out : (x : Problem) → IsKeptOut m q 0 now x → (u : World S) → Beside now r u →
        Back hosted r (heard (Failed x) u)
    kept_back_out x why u at =
        kept_out hosted r x
        (subst (λ (f : Option Function). IsKeptOut m q (parameters f) now x) (sym none) why) u at

    abbrev told : World S
    told = counted_world m Hosting (root hosted) (turn hosted) k q now whole_run heard End (out_so hosted)

    pub even_native : Back hosted r (native_called_back m heard c now)
    even_native =
        even_taken m Hosting (root hosted) (turn hosted) k q now whole_run heard End (out_so hosted) r ran 0
        kept_back_out (entering heard) (entering End) entered
        (λ a v ends. subst (λ (f : Option Function). Ends m (callee_called_back m End c f now) a v)
        (sym none) ends) where
          entered : IsTaken m now → Whole (entering End told) → Back hosted r (entering heard told)
          entered taken so_ends =
              let high = nat_le m.engine.limits.levels now.level in
              let x = Plain StackOverflow q in
              by_test (Back hosted r) high (failed_so m heard x told)
              (native_back m over c (flat_all now.cells (arguments_back c)) up)
              (λ yes. raises m Hosting (root hosted) (turn hosted) k q now whole_run heard End
              (out_so hosted) r ran 0 kept_back_out x told
              (λ clear. inr (inr (inl (taken, leb-true m.engine.limits.levels now.level yes, clear, refl))))
              (ran, refl, refl, refl, unlent_same now.cells))
              (λ low. even_read taken (leb-false m.engine.limits.levels now.level low)
              (flat_all now.cells (arguments_back c)) refl
              (λ a v ends. so_ends a v (if_false (λ (act : Act S). Ends m act a v) high
              (failed_so m End x told) (native_back m said c (flat_all now.cells (arguments_back c)) up)
              low ends)))
