-- The walk over the rules through a walk along a place.
use Rattle.std.proofs.Common.{◌≡◌, ◌⊎◌, ◌+◌, ℕ, List, [], ◌∷◌, ◌++◌, Option, Some, None, Bool, true, false, inl, inr, length, map, option_map, take, refl, subst, sym}
use Rattle.grain_value.specs.Cells.{flat}
use Rattle.grain_value.specs.Operands.{read_write}
use Rattle.grain_value.specs.declared.values.Dynamic.{Dynamic}
use Rattle.grain_value.specs.declared.values.Dynamic.TheVariants as dynamic
use Rattle.grain_value.specs.declared.values.FnPtr.{FnPtr}
use Rattle.grain_value.specs.declared.values.Held.{Held}
use Rattle.grain_fault.specs.Classes.{catchable}
use Rattle.grain_fault.specs.Problems.{Problem, NoMemory}
use Rattle.grain_fault.specs.declared.traces.Fault.{Fault}
use Rattle.grain_program.specs.Chains.{slot_of}
use Rattle.grain_program.specs.Decoding.{op_at}
use Rattle.grain_program.specs.Lookups.{function_by_text}
use Rattle.grain_program.specs.Typing.{IsProgram}
use Rattle.grain_program.specs.declared.code.functions.Function.{Function}
use Rattle.grain_program.specs.declared.code.instruction_set.Op.{Op}
use Rattle.grain_means.specs.Places.{look, put}
use Rattle.grain_means.specs.Ends.{Ends, ended}
use Rattle.grain_means.specs.Rules.{copy_dropped, curried_in, flat_all, frame_at, function_by_name, function_called, function_numbered, function_under, invoked, is_stop, lent_at, missed_by, numbered_called, pointed_called, pointed_native, trace_of, walks}
use Rattle.grain_means.specs.Tasks.{Call, Invocation, Invoke, Method, Numbered, Pointed, Task, Done, Mark, Look, Flatten, Write, Root, Drop, Need, Walked, WalkEnded, WalkFailed}
use Rattle.grain_means.specs.Worlds.{Act, Answer, Came, End, Failed, Frame, Place, Setup, World}
use Rattle.grain_means.specs.Causes.{Cause, IsKeptOut}
use Rattle.grain_means.specs.Causes.Spots.{BackFails, CallEnds, ChainWalk, ComesTo, Falls, InvocationEnds, Invokes, IsLeft, IsReason, PointedLeft, WalkRow, added, by_call, by_function, by_native, by_nothing, by_pointer as of_pointer, call_asked, call_start, dropped, heard as hearing, here, looked, marked, past, read, resolved, returned, under_for, untraced, world_of, wrote}
use Rattle.grain_means.proofs.Choices.{if_false, if_true}
use Rattle.grain_means.proofs.Explaining.Ways.{Why, join}
use Rattle.grain_means.proofs.Footing.{by_test}
use Rattle.grain_means.proofs.Standing.{Fitting, fits_found}
use Rattle.grain_means.proofs.Tally.Calling.{ByChain, CalledAt, even_by_chain}
use Rattle.grain_means.proofs.Tally.Frames.{Even, ReasonAt, SteadyBut, Walk}
use Rattle.grain_means.proofs.Tally.Needs.{needs}

module _ {S : Type 0} {m : Setup S} (walk : Walk m) where
  open walk use {root, footing, frame as whole_frame, now}

  -- The walk of a chain of this index, in a frame, by an instruction that stands where the walk over the
  -- rules is, and what follows from each of its ends. The walk may have the content of a cell, which is lent.
  module _ (o : Op) (width : ℕ) (stands : op_at m.program.code walk.frame.address ≡ Some (o, width))
      (away : Option ℕ) (k : ℕ) (g : Frame) (address : g.address ≡ whole_frame.address) (c : ChainWalk S)
      (done : Walked → World S → Act S) where
    abbrev On : ℕ → World S → Type 0
    On n w = SteadyBut walk away n w

    abbrev Walks : ℕ → Option (List Fault) → Task → World S → Type 0
    Walks n missed t w = Even walk n (walks m k g c.place c.others missed t done w)

    -- the walk ends with a fault, if this holds of how many marks are passed
    falls_to : (ok : ℕ → Type 0) (n : ℕ) (j : ℕ) (x : Problem) →
        ((w : World S) → ok w.passed → On n w → Even walk n (done (WalkFailed j x) w)) →
        (missed : Option (List Fault)) (t : Task) → Falls j x t → (w : World S) → ok w.passed → On n w →
        Walks n missed t w
    falls_to ok n j x over missed (Done u) falls w is s = rw falls (over w is s)
    falls_to ok n j x over missed (Mark out go) falls w is s = absurd falls
    falls_to ok n j x over missed (Look q go) falls w is s = absurd falls
    falls_to ok n j x over missed (Flatten u go) falls w is s = absurd falls
    falls_to ok n j x over missed (Write q u t) falls w is s = absurd falls
    falls_to ok n j x over missed (Root h t) falls w is s = absurd falls
    falls_to ok n j x over missed (Drop i go) falls w is s =
        let h : Held = look w.roots (record { root = c.others + i; path = [] }) in
        falls_to ok n j x over missed (go h) (falls h)
        (record w { roots = take (c.others + i) w.roots }) is s
    falls_to ok n j x over missed (Need call go) falls w is s = absurd falls
    falls_to ok n j x over missed (Invoke i go) falls w is s = absurd falls

    -- why a fault is raised, for which the step of this number is blamed
    abbrev ReasonOf : ℕ → Problem → Type 0
    ReasonOf j x = ReasonAt walk (Some (slot_of m.program k j)) x

    -- how each end of the walk goes on, the reason of a fault that has its row, and of one that left a
    -- function which a native called back, and that the chain calls a function to whose call the walk comes,
    -- and asks for each call that the walk asks for
    module _ (over_well : (u : Dynamic) (changed : Bool) (n : ℕ) (w : World S) → On n w →
        Even walk n (done (WalkEnded u changed) w))
        (over_ill : (j : ℕ) (x : Problem) (n : ℕ) (w : World S) → ReasonOf j x → On n w →
        Even walk n (done (WalkFailed j x) w))
        (over_out : (j : ℕ) (n : ℕ) (w : World S) → is_stop m.stop w.passed ≡ true →
        On n w → Even walk n (done (WalkFailed j NoMemory) w))
        (reason : (j : ℕ) (x : Problem) → WalkRow m c j x → ReasonOf j x)
        (reason_left : (j : ℕ) (x : Problem) →
        (x ≡ NoMemory) ⊎ (BackFails m c j x ⊎ PointedLeft m c j x) →
        Cause m root footing.level x → catchable x ≡ false → ReasonOf j x)
        (by_chain : ByChain walk o k c) where
      falls_out : (n j : ℕ) (missed : Option (List Fault)) (t : Task) → Falls j NoMemory t →
          (w : World S) → is_stop m.stop w.passed ≡ true → On n w → Walks n missed t w
      falls_out n j missed t falls w stop s =
          falls_to (λ p. is_stop m.stop p ≡ true) n j NoMemory (over_out j n) missed t falls w stop s

      falls_ill : (n j : ℕ) (x : Problem) (missed : Option (List Fault)) (t : Task) → Falls j x t →
          ReasonOf j x → (w : World S) → On n w → Walks n missed t w
      falls_ill n j x missed t falls because w s =
          falls_to (λ p. Unit {0}) n j x (λ u _ at. over_ill j x n u because at) missed t falls w tt s

      -- a function that the walk calls in a world, after n instructions
      module _ (i : Invocation) (go : Answer → Task) (w : World S) (n : ℕ) (s : On n w)
          (come : ComesTo m c (Invoke i go) w)
          (falls : (x : Problem) → Falls i.step x (go (Failed x)))
          (hears : (d : Dynamic) (u : World S) (l : ℕ) →
          InvocationEnds m i (under_for m c i) (untraced w) (Came d) u → On l u →
          Walks l None (go (Came d)) u) where
        -- the world in which the call begins
        abbrev v0 : World S
        v0 = untraced w

        abbrev heard : Answer → World S → Act S
        heard = λ a u. walks m k g c.place c.others None (go a) done u

        abbrev under : Option Place
        under = under_for m c i

        heard_out : (u : World S) (l : ℕ) → is_stop m.stop u.passed ≡ true → On l u →
            Even walk l (heard (Failed NoMemory) u)
        heard_out u l stop at = falls_out l i.step None (go (Failed NoMemory)) (falls NoMemory) u stop at

        heard_fault : (x : Problem) (u : World S) (l : ℕ) → ReasonOf i.step x → On l u →
            Even walk l (heard (Failed x) u)
        heard_fault x u l because at = falls_ill l i.step x None (go (Failed x)) (falls x) because u at

        -- a function of the program
        module _ (f : Function) (args : List Held)
            (is : resolved m.program i i.method ≡ Some (f, args))
            (fits : (this : Option Place) → IsProgram m.program →
            Fitting m.program (frame_at f.chunk 0 this)) where
          abbrev invokes : Invokes m c i.step
          invokes = record {
            call = i;
            go = go;
            world = w;
            comes = come;
            step = refl;
            function = f;
            arguments = args;
            is = is;
          }

          -- the call by the chain, under this `this` and in this world, and a reason at its step
          abbrev Calls : Option Place → World S → Type 0
          Calls this v = CalledAt walk o k i.step f args this i.position v
              (λ x u. InvocationEnds m i under v0 (Failed x) u)

          of_step : {this : Option Place} {v : World S} (by : Calls this v) (x : Problem) →
              ReasonAt walk (Some (slot_of m.program by.0.index by.0.step)) x → ReasonOf i.step x
          of_step by x because =
              subst (λ (y : ℕ). ReasonAt walk (Some (slot_of m.program k y)) x) by.2
              (subst (λ (y : ℕ). ReasonAt walk (Some (slot_of m.program y by.0.step)) x) by.1 because)

          at_slot : {this : Option Place} {v : World S} (by : Calls this v) (x : Problem) →
              ReasonOf i.step x →
              ReasonAt walk (Some (slot_of m.program by.0.index by.0.step)) x
          at_slot by x because =
              subst (λ (y : ℕ). ReasonAt walk (Some (slot_of m.program y by.0.step)) x) (sym by.1)
              (subst (λ (y : ℕ). ReasonAt walk (Some (slot_of m.program k y)) x) (sym by.2) because)

          kept_out : (x : Problem) → IsKeptOut m i.position (length f.params) w x → ReasonOf i.step x
          kept_out x why =
              reason i.step x (inr (inr (inr (inr (inr (inr (inr (inr (inr (inr (inl (record {
                invokes = invokes;
                why = why;
                last = falls x;
              }))))))))))))

          -- what the function is called on, and what is so where it ends with a value
          even_body : (place : Option Place) → under ≡ place →
              Even walk n (function_called m i.position f args heard place v0)
          even_body None e =
              let by : Calls None v0 = by_chain.0 i.step invokes None v0 (rw e refl) (rw e refl) in
              let ends_so : (a : Answer) (u : World S) →
              Ends m (function_under m i.position f args End None v0) a u →
              InvocationEnds m i under v0 a u = λ a u ends. by_function f args is
              (subst (λ (p : Option Place). Ends m (function_called m i.position f args End p v0) a u)
              (sym e) ends) in
              even_by_chain walk o width stands i.position f args None v0 by.0 (fits None) away n s refl heard
              End heard_out (λ x u l because at. heard_fault x u l (of_step by x because) at)
              (λ d u l whole at empty. hears d u l (ends_so (Came d) u (whole (Came d) u ended))
              at) (λ x why. at_slot by x (kept_out x why))
              (λ x u whole. by.3 x u (ends_so (Failed x) u (whole (Failed x) u ended)))
          even_body (Some p) e =
              let only = (look w.roots p).read_only in
              let copy : Place = record { root = length w.roots; path = [] } in
              let v : World S = record v0 { roots = w.roots ++ look w.roots p ∷ [] } in
              let size = length w.roots in
              let dropped : World S → World S = λ u. record u { roots = take size u.roots } in
              let on : Option Place → Act S = λ x. function_called m i.position f args End x v0 in
              by_test (Even walk n) only
              (function_under m i.position f args (copy_dropped m size heard) (Some copy) v)
              (function_under m i.position f args heard (Some p) v0)
              (λ yes.
              let by : Calls (Some copy) v = by_chain.0 i.step invokes (Some copy) v (rw e (if_true
              (λ (x : Option Place). Some copy ≡ x) only (Some copy) (Some p) yes refl)) (rw e (if_true
              (λ (x : List Held). v ≡ record v0 { roots = x }) only v.roots w.roots yes refl)) in
              let ends_so : (a : Answer) (u : World S) →
              Ends m (function_under m i.position f args (copy_dropped m size End) (Some copy) v) a u →
              InvocationEnds m i under v0 a u = λ a u ends. by_function f args is
              (subst (λ (x : Option Place). Ends m (on x) a u) (sym e)
              (if_true (λ (act : Act S). Ends m act a u) only
              (function_under m i.position f args (copy_dropped m size End) (Some copy) v)
              (function_under m i.position f args End (Some p) v0) yes ends)) in
              even_by_chain walk o width stands i.position f args (Some copy) v by.0 (fits (Some copy))
              away n s refl (copy_dropped m size heard) (copy_dropped m size End)
              (λ u l stop at. heard_out (dropped u) l stop at)
              (λ x u l because at. heard_fault x (dropped u) l (of_step by x because) at)
              (λ d u l whole at empty. hears d (dropped u) l
              (ends_so (Came d) (dropped u) (whole (Came d) (dropped u) ended)) at)
              (λ x why. at_slot by x (kept_out x why))
              (λ x u whole. by.3 x (dropped u)
              (ends_so (Failed x) (dropped u) (whole (Failed x) (dropped u) ended))))
              (λ no.
              let by : Calls (Some p) v0 = by_chain.0 i.step invokes (Some p) v0 (rw e (if_false
              (λ (x : Option Place). Some p ≡ x) only (Some copy) (Some p) no refl)) (rw e (if_false
              (λ (x : List Held). v0 ≡ record v0 { roots = x }) only v.roots w.roots no refl)) in
              let ends_so : (a : Answer) (u : World S) →
              Ends m (function_under m i.position f args End (Some p) v0) a u →
              InvocationEnds m i under v0 a u = λ a u ends. by_function f args is
              (subst (λ (x : Option Place). Ends m (on x) a u) (sym e)
              (if_false (λ (act : Act S). Ends m act a u) only
              (function_under m i.position f args (copy_dropped m size End) (Some copy) v)
              (function_under m i.position f args End (Some p) v0) no ends)) in
              even_by_chain walk o width stands i.position f args (Some p) v0 by.0 (fits (Some p)) away n s
              refl heard End heard_out (λ x u l because at. heard_fault x u l (of_step by x because) at)
              (λ d u l whole at empty. hears d u l (ends_so (Came d) u (whole (Came d) u ended))
              at) (λ x why. at_slot by x (kept_out x why))
              (λ x u whole. by.3 x u (ends_so (Failed x) u (whole (Failed x) u ended))))

        by_number : (number : ℕ) → i.method ≡ Numbered number → (found : Option Function) →
            function_numbered m.program (Some number) ≡ found →
            Even walk n (numbered_called m k g i under heard found v0)
        by_number number is None e =
            hears dynamic.Unit v0 n (by_nothing number is (rw (is, e) refl)) s
        by_number number is (Some f) e =
            even_body f (map read_write i.values) (rw (is, e) refl)
            (λ this valid. fits_found m.program valid (Some number) f 0 this e) under refl

        by_pointer : (p : FnPtr) → i.method ≡ Pointed p → (found : Option Function) →
            function_by_name m.program p.name (length p.curry + length i.values) ≡ found →
            Even walk n (pointed_called m k g i under heard p found v0)
        by_pointer p is None e =
            needs walk o width stands away k g address (pointed_native i p) (lent_at w.roots under) v0 n s
            refl (λ a. by_chain.1 (call_asked a) (call_start a) (of_pointer i go w come p is none a))
            heard heard_out over_so left_so
            (flat_all w.cells (map read_write (pointed_native i p).values)) refl where
              none : resolved m.program i i.method ≡ None
              none = rw (is, e) refl

              over_so : (a : Answer) (u : World S) (l : ℕ)
                  (ends : CallEnds m (pointed_native i p) (lent_at w.roots under) v0 a u) →
                  IsReason ends → On l u → Even walk l (heard a u)
              over_so (Came d) u l ends why at = hears d u l (by_native p is none ends) at
              over_so (Failed x) u l ends why at =
                  heard_fault x u l (reason i.step x
                  (inr (inr (inr (inr (inr (inr (inr (inr (inr (inr (inr (record {
                    call = i;
                    go = go;
                    world = w;
                    comes = come;
                    step = refl;
                    pointer = p;
                    is = is;
                    none = none;
                    after = u;
                    ends = ends;
                    reason = why;
                    last = falls x;
                  }))))))))))))) at

              left_so : (x : Problem) (u : World S) (l : ℕ) →
                  (x ≡ NoMemory)
                  ⊎ ((ends : CallEnds m (pointed_native i p) (lent_at w.roots under) v0 (Failed x) u)
                  × IsLeft ends) → Cause m root footing.level x → catchable x ≡ false → On l u →
                  Even walk l (heard (Failed x) u)
              left_so x u l (inl out) cause passes at =
                  heard_fault x u l (reason_left i.step x (inl out) cause passes) at
              left_so x u l (inr left) cause passes at =
                  heard_fault x u l (reason_left i.step x (inr (inr (record {
                    call = i;
                    go = go;
                    world = w;
                    comes = come;
                    step = refl;
                    pointer = p;
                    is = is;
                    none = none;
                    after = u;
                    ends = left.0;
                    left = left.1;
                    last = falls x;
                  }))) cause passes) at
        by_pointer p is (Some f) e =
            even_body f (curried_in p ++ map read_write i.values) (rw (is, e) refl)
            (λ this valid. fits_found m.program valid (function_by_text m.program p.name
            (length p.curry + length i.values)) f 0 this e) under refl

        even_invoked : (method : Method) → i.method ≡ method →
            Even walk n (invoked m k g i under heard method v0)
        even_invoked (Numbered number) is =
            by_number number is (function_numbered m.program (Some number)) refl
        even_invoked (Pointed p) is =
            by_pointer p is
            (function_by_name m.program p.name (length p.curry + length i.values)) refl

      -- a native that the walk needs, after n instructions
      module _ (call : Call) (go : Answer → Task) (w : World S) (n : ℕ) (s : On n w)
          (missed : Option (List Fault)) (why : Why m true c (Need call go) w)
          (come : ComesTo m c (Need call go) w) where
        -- the trace once the call is over
        abbrev after : Answer → World S → World S
        after a u = record u { trace = trace_of missed a u.trace }

        abbrev hears : Answer → World S → Act S
        hears a u = walks m k g c.place c.others (missed_by a u.trace) (go a) done (after a u)

        even_needed : ((a : Answer) (u : World S) (l : ℕ) (left : Option (List Fault)) →
            Why m true c (go a) u → ComesTo m c (go a) u → On l u → Walks l left (go a) u) →
            Walks n missed (Need call go) w
        even_needed rest =
            needs walk o width stands away k g address call
            (lent_at w.roots (option_map (world_of m c) call.receiver)) (untraced w) n s refl
            (λ a. by_chain.1 (call_asked a) (call_start a) (by_call call go w come a)) hears
            (λ u l stop at. falls_out l why.0.0 (missed_by (Failed NoMemory) u.trace)
            (go (Failed NoMemory)) why.0.1 (after (Failed NoMemory) u) stop at)
            (λ a u l ends because at. rest a (after a u) l (missed_by a u.trace)
            (why.2 a u (trace_of missed a u.trace) ends (λ sure. because))
            (join m true c come (hearing (trace_of missed a u.trace) ends here)) at)
            left_so (flat_all w.cells (map read_write call.values)) refl where
              left_so : (x : Problem) (u : World S) (l : ℕ) →
                  (x ≡ NoMemory) ⊎ ((ends : CallEnds m call
                  (lent_at w.roots (option_map (world_of m c) call.receiver)) (untraced w) (Failed x) u)
                  × IsLeft ends) → Cause m root footing.level x → catchable x ≡ false → On l u →
                  Even walk l (hears (Failed x) u)
              left_so x u l (inl out) cause passes at =
                  falls_ill l call.step x (missed_by (Failed x) u.trace) (go (Failed x)) (why.1 x passes)
                  (reason_left call.step x (inl out) cause passes) (after (Failed x) u) at
              left_so x u l (inr left) cause passes at =
                  falls_ill l call.step x (missed_by (Failed x) u.trace) (go (Failed x)) (why.1 x passes)
                  (reason_left call.step x (inr (inl (record {
                    call = call;
                    go = go;
                    world = w;
                    comes = come;
                    step = refl;
                    after = u;
                    ends = left.0;
                    left = left.1;
                    last = why.1 x passes;
                  }))) cause passes) (after (Failed x) u) at

      -- every walk of which each fault has its row
      pub even_walks : (t : Task) (w : World S) → Why m true c t w → ComesTo m c t w → (n : ℕ)
          (missed : Option (List Fault)) → On n w → Walks n missed t w
      even_walks (Done (WalkEnded u changed)) w why come n missed s = over_well u changed n w s
      even_walks (Done (WalkFailed j x)) w why come n missed s =
          over_ill j x n w (reason j x (why refl)) s
      even_walks (Mark out go) w why come n missed s =
          by_test (Even walk n) (is_stop m.stop w.passed)
          (walks m k g c.place c.others missed out done w)
          (walks m k g c.place c.others missed go done (past w))
          (λ stop. falls_out n why.0.0 missed out why.0.1 w stop s)
          (λ clear. even_walks go (past w) (why.1 clear) (join m true c come (marked clear here)) n missed s)
      even_walks (Look q go) w why come n missed s =
          even_walks (go (look w.roots (world_of m c q))) w why (join m true c come (looked here)) n missed
          s
      even_walks (Flatten u go) w why come n missed s =
          even_walks (go (flat w.cells u)) w why (join m true c come (read here)) n missed s
      even_walks (Write q u t) w why come n missed s =
          even_walks t (record w { roots = put w.roots (world_of m c q) u }) why
          (join m true c come (wrote here)) n missed s
      even_walks (Root h t) w why come n missed s =
          even_walks t (record w { roots = w.roots ++ h ∷ [] }) why (join m true c come (added here)) n
          missed s
      even_walks (Drop i go) w why come n missed s =
          even_walks (go (look w.roots (record { root = c.others + i; path = [] })))
          (record w { roots = take (c.others + i) w.roots }) why (join m true c come (dropped here)) n
          missed s
      even_walks (Need call go) w why come n missed s =
          even_needed call go w n s missed why come
          (λ a u l left reasons way at. even_walks (go a) u reasons way l left at)
      even_walks (Invoke i go) w why come n missed s =
          even_invoked i go w n s why.0 why.1
          (λ d u l ends at. even_walks (go (Came d)) u (why.2 d u ends)
          (join m true c come (returned ends here)) l None at) i.method refl
