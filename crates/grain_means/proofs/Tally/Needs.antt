-- The walk over the rules through a native that the walk of a chain calls.
use Rattle.std.proofs.Common.{◌≡◌, ◌⊎◌, ◌+◌, ℕ, List, [], Option, Some, None, ◌&&◌, true, false, inl, inr, map, refl, sym, subst, ap, ◌∙◌}
use Rattle.grain_value.specs.Operands.{read_write, values_in}
use Rattle.grain_value.specs.declared.natives.Native.{Native}
use Rattle.grain_value.specs.declared.values.Dynamic.{Dynamic}
use Rattle.grain_value.specs.declared.values.Held.{Held}
use Rattle.grain_fault.specs.Classes.{catchable}
use Rattle.grain_fault.specs.Positions.{at_position_if_none}
use Rattle.grain_fault.specs.Problems.{Problem, Plain, DataRace, NonPureCall, NoMemory}
use Rattle.grain_host.specs.Law.{Reply}
use Rattle.grain_host.specs.Law as reply
use Rattle.grain_host.specs.Signatures.{not_found}
use Rattle.grain_program.specs.Decoding.{op_at}
use Rattle.grain_program.specs.declared.code.instruction_set.Op.{Op}
use Rattle.grain_means.specs.Comes.{Comes}
use Rattle.grain_means.specs.Ends.{Ends}
use Rattle.grain_means.specs.Rules.{Receiver, answered, at_step, cells_given_back, failed_so, first_is_read_only, flat_all, given, given_back, host_called_or, is_stop, lent_held, marked_or, native_found_or, native_over, needed, no_memory, position, race_text, receiver_left, roots_given_back, trees_in, unheard}
use Rattle.grain_means.specs.Tasks.{Call}
use Rattle.grain_means.specs.Worlds.{Act, Answer, Came, Failed, Frame, Go, InFrame, InHost, Setup, World}
use Rattle.grain_means.specs.Causes.{AsksFor, Cause, HostFails, IsCalled, LeavesBack, Question, body_back, from_native, native_asked, reply_to}
use Rattle.grain_means.specs.Causes.Spots.{CallAsks, CallEnds, IsLeft, IsReason, Passes, answered_world, asked_failed, asked_gave, asked_out, call_asked, call_start, failed, gave, lent, missing, past, question_of, refused}
use Rattle.grain_means.proofs.Footing.{by_test}
use Rattle.grain_means.proofs.Ground.{stays_given}
use Rattle.grain_means.proofs.Moving.{caught_anywhere}
use Rattle.grain_means.proofs.Roles.{Framed, NativeAnswers}
use Rattle.grain_means.proofs.Tally.Asking.{even_asked}
use Rattle.grain_means.proofs.Tally.Faults.{met}
use Rattle.grain_means.proofs.Tally.Frames.{Even, SteadyBut, Walk, point}
use Rattle.grain_means.proofs.Tally.Natives.{memory_only}
use Rattle.grain_means.proofs.Unlent.{beyond_on}

module _ {S : Type 0} {m : Setup S} (walk : Walk m) where
  open walk use {root, footing, frame as f, now, level}

  -- The walk of a chain of this index, in a frame, by an instruction that stands where the walk over the
  -- rules is, calls a native in a world. Where the native asks for calls first, the instruction does. What
  -- follows from the native's end: memory is out; or it has ended, and a fault has a reason; or a function
  -- that it called back was left by the fault.
  module _ (o : Op) (width : ℕ) (stands : op_at m.program.code f.address ≡ Some (o, width))
      (away : Option ℕ) (k : ℕ) (g : Frame) (address : g.address ≡ f.address) (call : Call)
      (r : Option Receiver) (w : World S) (ran : ℕ) (s : SteadyBut walk away ran w) (t : w.trace ≡ [])
      (asks_so : (a : CallAsks m call r w) → AsksFor m (point walk o) (call_asked a) (call_start a))
      (heard : Answer → World S → Act S)
      (out_so : (u : World S) (l : ℕ) → is_stop m.stop u.passed ≡ true → SteadyBut walk away l u →
      Even walk l (heard (Failed NoMemory) u))
      (over_so : (a : Answer) (u : World S) (l : ℕ) (ends : CallEnds m call r w a u) → IsReason ends →
      SteadyBut walk away l u → Even walk l (heard a u))
      (left_so : (x : Problem) (u : World S) (l : ℕ) →
      (x ≡ NoMemory) ⊎ ((ends : CallEnds m call r w (Failed x) u) × IsLeft ends) →
      Cause m root footing.level x → catchable x ≡ false → SteadyBut walk away l u →
      Even walk l (heard (Failed x) u)) where
    abbrev frame : Frame
    frame = at_step m.program k call.step call.position g

    abbrev out : World S → Act S
    out = heard (Failed NoMemory)

    abbrev came : Dynamic → World S → Act S
    came v = heard (Came v)

    fails_so : (x : Problem) (u : World S) (l : ℕ) → SteadyBut walk away l u →
        (Passes m u → (ends : CallEnds m call r w (Failed x) (past u)) × IsReason ends) →
        Even walk l (failed_so m heard x u)
    fails_so x u l at ends =
        by_test (Even walk l) (is_stop m.stop u.passed) (out u) (heard (Failed x) (past u))
        (λ stop. out_so u l stop at)
        (λ clear. let e = ends clear in over_so (Failed x) (past u) l e.0 e.1 at)

    module _ (args : List Held)
        (read : flat_all w.cells (map read_write call.values) ≡ Some args) where
      abbrev asked : Question S
      asked = question_of call r w args

      abbrev served : ℕ → World S
      served key = answered_world m key r args w

      steady_after : (key : ℕ) → SteadyBut walk away ran (served key)
      steady_after key =
          (s.0, s.1, s.2, stays_given m.law w.host key (trees_in args) r w.scope w.cells s.3)

      module _ (n : Native) (found : native_asked m asked ≡ Some n)
          (called : IsCalled asked n) (first : Passes m w) (second : Passes m (past w)) where
        -- the calls that the native asked for are over
        module _ (a : CallAsks m call r w) (same : (call_asked a).frame.address ≡ f.address)
            (u : World S) (at : SteadyBut walk away u.ran u) where
          even_failed : (x : Problem) → Ends m (Go (InHost (call_asked a)) (call_start a)) (Failed x) u →
              HostFails m (call_asked a) (call_start a) x →
              Even walk u.ran (native_over out came (failed_so m heard) (Failed x) u)
          even_failed x ends why =
              by_test (Even walk u.ran) (no_memory x) (out u) (failed_so m heard x u)
              (λ yes. let is : x ≡ NoMemory = memory_only x yes in
              over_so (Failed NoMemory) u u.ran
              (asked_out a (subst (λ (y : Problem). Ends m (Go (InHost (call_asked a)) (call_start a))
              (Failed y) u) is ends)) (subst (HostFails m (call_asked a) (call_start a)) is why) at)
              (λ no. fails_so x u u.ran at (λ clear. (asked_failed a x ends no clear, why)))

          even_left : Comes m (InHost (call_asked a)) (call_start a) (Go (InFrame f) now) →
              (x : Problem) → Ends m (Go (InHost (call_asked a)) (call_start a)) (Failed x) u →
              (l : LeavesBack m (call_asked a) (call_start a) x) →
              Cause m (body_back m l.runs) (l.runs.world.level + 1) l.inner →
              Even walk u.ran (native_over out came (failed_so m heard) (Failed x) u)
          even_left comes x ends l inner =
              let cause : Cause m root footing.level x =
              subst (Cause m root footing.level) (sym l.is) (from_native (record {
                point = point walk o;
                met = met walk o width stands;
                first = call_asked a;
                start = call_start a;
                asks = asks_so a;
                comes = comes;
                address = same;
                runs = l.runs;
              }) l.passes inner (position m l.runs.callback.frame) (inl (level, refl))) in
              let passes : catchable x ≡ false = ap catchable l.is
              ∙ caught_anywhere (position m l.runs.callback.frame) l.inner ∙ l.passes in
              by_test (Even walk u.ran) (no_memory x) (out u) (failed_so m heard x u)
              (λ yes. let is : x ≡ NoMemory = memory_only x yes in
              left_so NoMemory u u.ran (inl refl) (subst (Cause m root footing.level) is cause) refl at)
              (λ no. by_test (Even walk u.ran) (is_stop m.stop u.passed) (out u)
              (heard (Failed x) (past u)) (λ stop. out_so u u.ran stop at)
              (λ clear. left_so x (past u) u.ran (inr (asked_failed a x ends no clear, l)) cause passes at))

          even_over : Comes m (InHost (call_asked a)) (call_start a) (Go (InFrame f) now) →
              (x : Answer) → Ends m (Go (InHost (call_asked a)) (call_start a)) x u →
              NativeAnswers m (call_asked a) (call_start a) x u →
              Even walk u.ran (native_over out came (failed_so m heard) x u)
          even_over comes (Came v) ends empty = over_so (Came v) u u.ran (asked_gave a v ends) tt at
          even_over comes (Failed x) ends (inl stop) =
              subst (λ (y : Problem). Even walk u.ran
              (native_over out came (failed_so m heard) (Failed y) u)) (sym stop.0)
              (out_so u u.ran stop.1 at)
          even_over comes (Failed x) ends (inr (inl why)) = even_failed x ends why
          even_over comes (Failed x) ends (inr (inr l)) = even_left comes x ends l.0 l.1

        replies : (a : Reply) → reply_to m asked n.key ≡ a →
            Even walk ran
            (answered m out (receiver_left m.law w.host n.key (trees_in args) r) a frame
            (served n.key) came (failed_so m heard))
        replies (reply.Done v) is =
            over_so (Came v) (served n.key) ran (gave args read n found called first second v is) tt
            (steady_after n.key)
        replies (reply.Failed x) is =
            fails_so (at_position_if_none call.position x) (served n.key) ran (steady_after n.key)
            (λ clear. (failed args read n found called first second x is clear, tt))
        replies (reply.Ask token p values) is =
            let a : CallAsks m call r w = record {
              args = args;
              reads = read;
              native = n;
              found = found;
              called = called;
              clear = first;
              clear_again = second;
              token = token;
              pointer = p;
              values = values;
              asks = is;
              frame = frame;
              position = refl;
            } in
            let v : World S = served n.key in
            let there = (steady_after n.key).3 in
            even_asked m Framed root (Go (InFrame f) now) footing ran (call_asked a) v footing.base
            footing.names s.0 t there.keeps (native_over out came (failed_so m heard))
            (λ x u o. even_over a address u (
              refl,
              o.tokens ∙ s.1,
              o.level ∙ s.2,
              record {
                keeps = o.keeps;
                unlent = beyond_on away footing.cells v.cells u.cells there.unlent o.unlent;
              },
            ) o.comes x o.ends o.answers)

      -- the host has answered, and is not heard
      even_unheard : (a : Reply) (u : World S) → is_stop m.stop u.passed ≡ true →
          SteadyBut walk away ran u → Even walk ran (out (unheard m.law a u))
      even_unheard (reply.Done v) u stop at = out_so u ran stop at
      even_unheard (reply.Failed x) u stop at = out_so u ran stop at
      even_unheard (reply.Ask token p values) u stop at =
          out_so (record u { host = m.law.forget_after u.host token }) ran stop at

      calls : (n : Native) → native_asked m asked ≡ Some n → IsCalled asked n →
          Even walk ran (host_called_or m out n.key r args frame w came (failed_so m heard))
      calls n found called =
          let back : World S → World S = λ v. record v {
            host = m.law.call_after v.host n.key (lent_held r) (trees_in args);
            scope = given_back m.law v.host n.key (trees_in args) r v.scope;
            cells = cells_given_back m.law v.host n.key (trees_in args) r v.cells;
            roots = roots_given_back m.law v.host n.key (trees_in args) r v.roots;
          } in
          let says : World S → Reply =
          λ v. m.law.call_reply v.host n.key (lent_held r) (trees_in args) in
          let answers : World S → World S → Act S = λ v1 v2. answered m out
          (receiver_left m.law v1.host n.key (trees_in args) r) (says v1) frame v2 came
          (failed_so m heard) in
          let lost : World S → Act S = λ v. out (unheard m.law (says (past w)) v) in
          by_test (Even walk ran) (is_stop m.stop w.passed) (out w)
          (marked_or m lost (back (past w)) (answers (past w)))
          (λ stop. out_so w ran stop s)
          (λ first. by_test (Even walk ran) (is_stop m.stop (w.passed + 1)) (lost (back (past w)))
          (answers (past w) (past (back (past w))))
          (λ stop. even_unheard (says (past w)) (back (past w)) stop (steady_after n.key))
          (λ second. replies n found called first second (says w) refl))

      finds : (found : Option Native) → native_asked m asked ≡ found →
          Even walk ran
          (native_found_or m out found call.name r args frame w came (failed_so m heard))
      finds None e =
          fails_so (not_found call.name (values_in (given r args)) call.position) w ran s
          (λ clear. (missing args read e clear, tt))
      finds (Some n) e =
          by_test (Even walk ran) (n.writes && first_is_read_only (given r args))
          (failed_so m heard (Plain (NonPureCall call.name) call.position) w)
          (host_called_or m out n.key r args frame w came (failed_so m heard))
          (λ yes. fails_so (Plain (NonPureCall call.name) call.position) w ran s
          (λ clear. (refused args read n e yes clear, tt)))
          (λ no. calls n e no)

    pub needs : (hs : Option (List Held)) → flat_all w.cells (map read_write call.values) ≡ hs →
        Even walk ran (needed m k g call r heard w hs)
    needs None e =
        fails_so (Plain (DataRace (race_text [])) call.position) w ran s (λ clear. (lent e clear, tt))
    needs (Some args) e = finds args e (native_asked m (question_of call r w args)) refl
