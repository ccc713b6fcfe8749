-- Roots through a call of a pointer with a receiver: the receiver is a root that is added, and that is
-- gone afterwards. Then what is written is the frame's own `this`, or nothing.
use Rattle.std.proofs.Common.{◌≡◌, ◌+◌, ◌∙◌, ℕ, zero, suc, List, [], ◌∷◌, ◌++◌, Option, Some, None, Bool, false, ◌||◌, is_some, length, map, take, refl, sym, arith, length-append}
use Rattle.std.proofs.lemmas.List.{length-take}
use Rattle.std.specs.Prelude.{slice_get, slice_set}
use Rattle.grain_value.specs.Cells.{idle, lent}
use Rattle.grain_value.specs.Looking.{cell_of, pointer_of}
use Rattle.grain_value.specs.Operands.{arguments, read_write, values_in}
use Rattle.grain_value.specs.Scopes.{set_held}
use Rattle.grain_value.specs.declared.stores.Cell.{Cell}
use Rattle.grain_value.specs.declared.values.Dynamic.{Dynamic}
use Rattle.grain_value.specs.declared.values.FnPtr.{FnPtr}
use Rattle.grain_value.specs.declared.values.Held.{Held}
use Rattle.grain_fault.specs.Problems.{Plain, DataRace, Malformed}
use Rattle.grain_fault.specs.declared.faults.MalformedKind.TheVariants as kind
use Rattle.grain_program.specs.declared.code.functions.Function.{Function}
use Rattle.grain_means.specs.Places.{look, put}
use Rattle.grain_means.specs.Rules as rules
use Rattle.grain_means.specs.Rules.{Destination, Nowhere, ToSlot, ToThis, curried_in, flat_all, function_by_name, held_at, is_read_only, new_root, no_memory, operand_under, race_text, root_at, without}
use Rattle.grain_means.specs.Worlds.{Act, Answer, Came, Failed, Frame, Place, Setup, World}
use Rattle.grain_means.specs.lemmas.LentPlaces.{found-new}
use Rattle.grain_means.specs.lemmas.PlaceLaws.{length-put}
use Rattle.grain_means.proofs.Footing.{by_test}
use Rattle.grain_means.proofs.Touching.Calls.{calls_pointed, no_pointer}
use Rattle.grain_means.proofs.Touching.Frames.{At, Stays, marks, offered, pushes, raises, reads}
use Rattle.grain_means.proofs.Touching.Passing.{Leaves}
use Rattle.grain_means.proofs.Touching.Walks.{Amid, calls, fails_so, lends_native}
use Rattle.grain_means.proofs.Touching.Writes.{Bound, May, added, cut, may_own, may_past, set}

-- what is called on a receiver, where there are as many roots as n and j say
module _ {S : Type 0} (m : Setup S) (t : Option Place) (old : List Held) (n j : ℕ)
    (heard : Answer → World S → Act S)
    (hears : (a : Answer) (w : World S) → Amid t old n j w.roots → Leaves false t old (heard a w))
    (f : Frame) where
  -- a native, which is lent what a cell holds
  lends_cell : (o : Option Cell) (i : ℕ) (read_only : Bool) (name : List ℕ) (args : List Held)
      (w : World S) → Amid t old n j w.roots →
      Leaves false t old (rules.native_lent_cell m o i read_only name args f heard w)
  lends_cell None i read_only name args w at =
      fails_so m t old n j heard hears (Plain (DataRace (race_text [])) (rules.position m f)) w at
  lends_cell (Some c) i read_only name args w at =
      by_test (Leaves false t old) c.busy
      (rules.failed_so m heard (Plain (DataRace (race_text [])) (rules.position m f)) w)
      (rules.native_lent m name args f back (new_root w.roots)
      (record w { roots = w.roots ++ content ∷ []; cells = slice_set w.cells i (lent c.held) }))
      (λ busy. fails_so m t old n j heard hears
      (Plain (DataRace (race_text [])) (rules.position m f)) w at)
      (λ free. lends_native m t old n (suc j) back backs name args f (Some (new_root w.roots))
      (may_past t (length old) (new_root w.roots) at.2)
      (record w { roots = w.roots ++ content ∷ []; cells = slice_set w.cells i (lent c.held) }) (
        added content at.0,
        omega (arith, at.1, length-append w.roots (content ∷ [])),
        omega (arith, at.2, length-append w.roots (content ∷ [])),
      )) where
        content : Held
        content = record { value = c.held.value; read_only = read_only }

        back : Answer → World S → Act S
        back = rules.cell_given_back m i c.held (length w.roots) heard

        backs : (a : Answer) (v : World S) → Amid t old n (suc j) v.roots → Leaves false t old (back a v)
        backs a v there =
            let size : length (take (length w.roots) v.roots) ≡ length w.roots =
            omega (arith, length-take (length w.roots) v.roots, at.1, there.1) in
            hears a (record v {
              cells = slice_set v.cells i
                  (idle (record c.held { value = (look v.roots (root_at (length w.roots))).value }));
              roots = take (length w.roots) v.roots;
            }) (
              cut (length w.roots) at.2 there.0,
              omega (arith, size, at.1),
              omega (arith, size, at.2),
            )

  module _ (p : Place) (may : May t (length old) p) (w : World S) (at : Amid t old n j w.roots) where
    calls_native : (o : Option ℕ) (name : List ℕ) (args : List Held) →
        Leaves false t old (rules.native_on m o (look w.roots p) name args f heard p w)
    calls_native None name args = lends_native m t old n j heard hears name args f (Some p) may w at
    calls_native (Some i) name args =
        lends_cell (slice_get w.cells i) i (look w.roots p).read_only name args w at

    reads_native : (o : Option (List Held)) (name : List ℕ) →
        Leaves false t old (rules.native_on_read m o name f heard p w)
    reads_native None name =
        fails_so m t old n j heard hears (Plain (DataRace (race_text [])) (rules.position m f)) w at
    reads_native (Some args) name = calls_native (cell_of (look w.roots p).value) name args

    -- the function of a pointer, or the native of its name
    pub calls_callee : (Bound t old → Bound (Some p) w.roots) → (o : Option Function) (r : FnPtr)
        (args : List Held) → Leaves false t old (rules.callee_on m o r args f heard p w)
    calls_callee given None r args = reads_native (flat_all w.cells args) r.name
    calls_callee given (Some g) r args =
        calls m t old n j heard hears (rules.position m f) g args (Some p) may w at given

module _ {S : Type 0} (m : Setup S) (t : Option Place) (old : List Held) (f : Frame)
    (is : f.this ≡ t) where
  abbrev Here : World S → Type 0
  Here w = At m t old w

  abbrev Keeps : Act S → Type 0
  Keeps act = Stays m t old act

  -- the receiver goes where it goes
  module _ (next : ℕ) where
    call_over : (a : Answer) (w : World S) → Here w → Keeps (rules.call_over m next f a w)
    call_over (Came v) w at = pushes m t old f is next f.operands v w at
    call_over (Failed x) w at = offered m t old f is x w at

    past_scope : (i : ℕ) (w : World S) → Here w → Keeps (rules.slot_past_scope m f i w)
    past_scope i w at =
        raises m t old f is (Plain (Malformed (kind.SlotPastScope i (length w.scope)))
        (rules.position m f)) w at

    in_entry : (o : Option Held) (i : ℕ) (h : Held) (a : Answer) (w : World S) → Here w →
        Keeps (rules.over_in_entry m o i h next f a w)
    in_entry None i h (Came v) w at = past_scope i w at
    in_entry None i h (Failed x) w at =
        by_test Keeps (no_memory x) (rules.call_over m next f (Failed x) w)
        (rules.slot_past_scope m f i (record w { trace = [] }))
        (λ out. call_over (Failed x) w at) (λ other. past_scope i (record w { trace = [] }) at)
    in_entry (Some before) i h a w at =
        call_over a (record w { scope = set_held w.scope i h }) at

    in_this : (o : Option Place) → f.this ≡ o → (h : Held) (a : Answer) (w : World S) → Here w →
        Keeps (rules.over_in_this m o h next f a w)
    in_this None e h a w at = call_over a w at
    in_this (Some p) e h a w at =
        call_over a (record w { roots = put w.roots p h.value }) (
          set p h.value (may_own t (length old) p (sym is ∙ e)) at.0,
          length-put w.roots p h.value ∙ at.1,
        )

    goes_to : (d : Destination) (h : Held) (a : Answer) (w : World S) → Here w →
        Keeps (rules.over_at m d h next f a w)
    goes_to Nowhere h a w at = call_over a w at
    goes_to (ToSlot slot) h a w at =
        in_entry (held_at w.scope (f.base + slot)) (f.base + slot) h a w at
    goes_to ToThis h a w at = in_this f.this refl h a w at

    receiver_over : (d : Destination) (h : Held) (a : Answer) (w : World S) → Here w →
        Keeps (rules.receiver_over m d next f h a w)
    receiver_over d h a w at =
        by_test Keeps (is_some (cell_of h.value) || h.read_only) (rules.call_over m next f a w)
        (rules.over_at m d h next f a w) (λ stays. call_over a w at) (λ goes. goes_to d h a w at)

  -- a pointer is called on a receiver
  calls_receiver : (d : Destination) (r : FnPtr) (values : List Dynamic) (h : Held) (next : ℕ)
      (w : World S) → Here w → Keeps (rules.receiver_called m d r values h next f w)
  calls_receiver d r values h next w at =
      marks m t old f w begins at
      (calls_callee m t old (length old + 1) 1 over overs f (new_root w.roots)
      (may_past t (length old) (new_root w.roots) (omega (arith, at.1)))
      (record w { passed = w.passed + 1; roots = w.roots ++ receiver ∷ [] }) (
        added receiver at.0,
        omega (arith, at.1, length-append w.roots (receiver ∷ [])),
        omega (arith, at.1, length-append w.roots (receiver ∷ [])),
      ) (λ given. (receiver, found-new w.roots receiver))
      (function_by_name m.program r.name (length r.curry + length values)) r
      (curried_in r ++ map read_write values)) where
        receiver : Held
        receiver = record h { read_only = is_read_only w h }

        over : Answer → World S → Act S
        over = rules.root_over m d next f (length w.roots)

        begins : World S → Act S
        begins w1 =
            rules.callee_on m (function_by_name m.program r.name (length r.curry + length values)) r
            (curried_in r ++ map read_write values) f (rules.root_over m d next f (length w1.roots))
            (new_root w1.roots)
            (record w1 { roots = w1.roots ++ record h { read_only = is_read_only w1 h } ∷ [] })

        overs : (a : Answer) (v : World S) → Amid t old (length old + 1) 1 v.roots → Keeps (over a v)
        overs a v there =
            receiver_over next d (look v.roots (root_at (length w.roots))) a
            (record v { roots = take (length w.roots) v.roots }) (
              cut (length w.roots) (omega (arith, at.1)) there.0,
              omega (arith, length-take (length w.roots) v.roots, there.1, at.1),
            )

module _ {S : Type 0} (m : Setup S) (t : Option Place) (old : List Held) (f : Frame)
    (is : f.this ≡ t) where
  calls_first : (d : Destination) (o : Option FnPtr) (v : Dynamic) (count next : ℕ) (w : World S) →
      At m t old w → Stays m t old (rules.first_called m d o v count next f w)
  calls_first d None v count next w at = no_pointer m t old f is v w at
  calls_first d (Some r) v count next w at =
      calls_receiver m t old (without (count + 1 + 1) f) is d r
      (values_in (arguments count f.operands)) (operand_under (count + 1) f.operands) next w at

  calls_target : (d : Destination) (o : Option FnPtr) (v : Dynamic) (count next : ℕ) (w : World S) →
      At m t old w → Stays m t old (rules.target_called m d o v count next f w)
  calls_target d (Some r) v count next w at =
      calls_pointed m t old f is (Some r) v count next w at
  calls_target d None v zero next w at = no_pointer m t old f is v w at
  calls_target d None v (suc k) next w at =
      reads m t old f is (operand_under k f.operands) [] w at
      (λ u. rules.first_called m d (pointer_of u) u k next f w)
      (λ u. calls_first d (pointer_of u) u k next w at)

  pub calls_method : (d : Destination) (count next : ℕ) (w : World S) → At m t old w →
      Stays m t old (rules.method_call m d count next f w)
  calls_method d count next w at =
      reads m t old f is (operand_under count f.operands) [] w at
      (λ v. rules.target_called m d (pointer_of v) v count next f w)
      (λ v. calls_target d (pointer_of v) v count next w at)
