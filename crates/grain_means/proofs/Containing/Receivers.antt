-- A call of a pointer with a receiver keeps to the store. While the call lasts the receiver is a root
-- of a stretch of its own, so that it may be a cell.
use Rattle.std.proofs.Common.{◌≡◌, ◌≤◌, ◌+◌, ℕ, zero, suc, List, [], ◌∷◌, ◌++◌, Option, Some, None, Bool, false, ◌||◌, length, map, take, refl, arith}
use Rattle.std.specs.Prelude.{is_some, slice_get, slice_set}
use Rattle.grain_value.specs.Cells.{idle, lent}
use Rattle.grain_value.specs.Looking.{cell_of, pointer_of}
use Rattle.grain_value.specs.Operands.{arguments, read_write, values_in}
use Rattle.grain_value.specs.Scopes.{set_held}
use Rattle.grain_value.specs.declared.stores.Cell.{Cell}
use Rattle.grain_value.specs.declared.values.Dynamic.{Dynamic}
use Rattle.grain_value.specs.declared.values.Dynamic.TheVariants as dynamic
use Rattle.grain_value.specs.declared.values.FnPtr.{FnPtr}
use Rattle.grain_value.specs.declared.values.Held.{Held}
use Rattle.grain_fault.specs.Problems.{Plain, DataRace, Malformed}
use Rattle.grain_fault.specs.declared.faults.MalformedKind.TheVariants as kind
use Rattle.grain_program.specs.declared.code.functions.Function.{Function}
use Rattle.grain_means.specs.Contained.{AnswerNames, HeldNames, Names}
use Rattle.grain_means.specs.Places.{look, put}
use Rattle.grain_means.specs.Rules as rules
use Rattle.grain_means.specs.Rules.{Destination, Nowhere, ToSlot, ToThis, curried_in, flat_all, function_by_name, held_at, is_read_only, new_root, no_memory, operand_under, race_text, root_at, without}
use Rattle.grain_means.specs.Worlds.{Act, Answer, Came, Failed, Frame, Place, Setup, World}
use Rattle.grain_means.proofs.Footing.{by_test}
use Rattle.grain_means.proofs.Inside.{may_put}
use Rattle.grain_means.proofs.Naming.{CellHolds, all_got, all_joined, arguments_name, curried_names, flat_all_names, under_names}
use Rattle.grain_means.proofs.Containing.Calls.{calls_pointed, no_pointer, under_it}
use Rattle.grain_means.proofs.Containing.Frames.{Grounds, bases, entry_set, offered}
use Rattle.grain_means.proofs.Containing.Leaving.{Bases, At, Leaves, root_put}
use Rattle.grain_means.proofs.Containing.Keeping.{Since, cell_back, cell_lent, joined_on, root_gone, with_root}
use Rattle.grain_means.proofs.Containing.Parts.{Arguments, FrameNames, Operands, pointer_names}
use Rattle.grain_means.proofs.Containing.Roots.{FirmAt, firm_look, look_names, look_whole, new_root_plain}
use Rattle.grain_means.proofs.Containing.Steps.{Stays, Here, frame_wider, marking, pushing, raising, reading}
use Rattle.grain_means.proofs.Containing.Tasks.{ValuesName}
use Rattle.grain_means.proofs.Containing.Walks.{Hears, calls, fails_so, held_values, lends_native}

-- the values of operands
values_name : (clean : Bool) (n : ℕ) (hs : List Held) → Operands clean n hs →
    ValuesName clean n (values_in hs)
values_name clean n [] h = tt
values_name clean n (x ∷ hs) h = (h.0, values_name clean n hs h.1)

-- what goes somewhere is no cell
no_cell : (o : Option ℕ) (b : Bool) → (is_some o || b) ≡ false → o ≡ None
no_cell None b e = refl
no_cell (Some i) b e = absurd cc

-- what is called on a receiver
module _ {S : Type 0} {m : Setup S} (on : Bases m) (to : Since) (n : ℕ)
    (low : on.least ≤ n) (f : Frame) (heard : Answer → World S → Act S)
    (hears : Hears on to n heard) where
  open on use {clean, least, since}

  -- a native, which is lent what a cell holds
  lends_cell : (o : Option Cell) (i : ℕ) (read_only : Bool) (name : List ℕ) (args : List Held) →
      Arguments clean n args → (w : World S) → slice_get w.cells i ≡ o → At on n w →
      Leaves m clean to n (rules.native_lent_cell m o i read_only name args f heard w)
  lends_cell None i read_only name args given w is at =
      fails_so on to n low heard hears
      (Plain (DataRace (race_text [])) (rules.position m f)) w at (omega arith, λ s. refl)
  lends_cell (Some c) i read_only name args given w is at =
      by_test (Leaves m clean to n) c.busy
      (rules.failed_so m heard (Plain (DataRace (race_text [])) (rules.position m f)) w)
      (rules.native_lent m name args f back (new_root w.roots)
      (record w { roots = w.roots ++ content ∷ []; cells = lents }))
      (λ busy. fails_so on to n low heard hears
      (Plain (DataRace (race_text [])) (rules.position m f)) w at (omega arith, λ s. refl))
      (λ free. lends_native inner to n low back backs name args f given (Some (new_root w.roots))
      (new_root_plain w.roots content here.flat)
      (record w { roots = w.roots ++ content ∷ []; cells = lents })
      (with_root content here.names (cell_lent i c.held at))) where
        content : Held
        content = record { value = c.held.value; read_only = read_only }

        lents : List Cell
        lents = slice_set w.cells i (lent c.held)

        here : CellHolds clean n c
        here = all_got (CellHolds clean n) w.cells i c at.contents is

        inner : Bases m
        inner = record on { since = record since { cells = lents; roots = w.roots ++ content ∷ [] } }

        back : Answer → World S → Act S
        back = rules.cell_given_back m i c.held (length w.roots) heard

        backs : Hears inner to n back
        backs j le a v named there =
            let r : Held = look v.roots (root_at (length w.roots)) in
            hears j le a (record v {
              cells = slice_set v.cells i (idle (record c.held { value = r.value }));
              roots = take (length w.roots) v.roots;
            }) named
            (cell_back i c.held (record c.held { value = r.value })
            (look_names clean j v.roots (w.roots ++ content ∷ []) (root_at (length w.roots)) there.stand)
            (look_whole clean j v.roots (w.roots ++ content ∷ []) (length w.roots) there.stand
            (new_root_plain w.roots content here.flat)) at (root_gone w.roots content there))

  module _ (p : Place) (w : World S) (at : At on n w)
      (firm : cell_of (look w.roots p).value ≡ None → FirmAt since.roots p) where
    calls_native : (o : Option ℕ) → cell_of (look w.roots p).value ≡ o → (name : List ℕ)
        (args : List Held) → Arguments clean n args →
        Leaves m clean to n (rules.native_on m o (look w.roots p) name args f heard p w)
    calls_native None is name args given =
        lends_native on to n low heard hears name args f given (Some p) (firm is) w at
    calls_native (Some i) is name args given =
        lends_cell (slice_get w.cells i) i (look w.roots p).read_only name args given w refl at

    reads_native : (o : Option (List Held)) (args : List Held) → Operands clean n args →
        flat_all w.cells args ≡ o → (name : List ℕ) →
        Leaves m clean to n (rules.native_on_read m o name f heard p w)
    reads_native None args given is name =
        fails_so on to n low heard hears
        (Plain (DataRace (race_text [])) (rules.position m f)) w at (omega arith, λ s. refl)
    reads_native (Some read) args given is name =
        calls_native (cell_of (look w.roots p).value) refl name read
        (flat_all_names clean n w.cells args read at.contents given is)

    -- the function of a pointer, or the native of its name
    pub calls_callee : (o : Option Function) (r : FnPtr) (args : List Held) → Operands clean n args →
        Leaves m clean to n (rules.callee_on m o r args f heard p w)
    calls_callee None r args given = reads_native (flat_all w.cells args) args given refl r.name
    calls_callee (Some g) r args given =
        calls on to n low heard hears (rules.position m f) g args given (Some p) w at

module _ {S : Type 0} {m : Setup S} (on : Grounds m) where
  open on use {clean, least, since}

  -- the receiver goes where it goes
  module _ (n : ℕ) (low : least ≤ n) (f : Frame) (names : FrameNames clean n f) (next : ℕ) (a : Answer)
      (named : AnswerNames clean n a) where
    call_over : (a : Answer) → AnswerNames clean n a → (w : World S) → Here on n low f names w →
        Stays on n low f names (rules.call_over m next f a w)
    call_over (Came v) value w at = pushing on n low f names next f.operands v w at names.0 value
    call_over (Failed x) bound w at = offered on n low f names x w at bound

    past_scope : (i : ℕ) (w : World S) → Here on n low f names w →
        Stays on n low f names (rules.slot_past_scope m f i w)
    past_scope i w at =
        raising on n low f names (Plain (Malformed (kind.SlotPastScope i (length w.scope)))
        (rules.position m f)) w at (omega arith, λ s. refl)

    without_entry : (i : ℕ) (a : Answer) → AnswerNames clean n a → (w : World S) →
        Here on n low f names w → Stays on n low f names (rules.over_without_entry m i next f a w)
    without_entry i (Came v) value w at = past_scope i w at
    without_entry i (Failed x) bound w at =
        by_test (Stays on n low f names) (no_memory x) (rules.call_over m next f (Failed x) w)
        (rules.slot_past_scope m f i (record w { trace = [] }))
        (λ out. call_over (Failed x) bound w at)
        (λ other. past_scope i (record w { trace = [] }) at)

    module _ (h : Held) (held : HeldNames clean n h) (plain : cell_of h.value ≡ None) (w : World S)
        (at : Here on n low f names w) where
      in_entry : (o : Option Held) (i : ℕ) →
          Stays on n low f names (rules.over_in_entry m o i h next f a w)
      in_entry None i = without_entry i a named w at
      in_entry (Some before) i =
          call_over a named (record w { scope = set_held w.scope i h })
          (entry_set on n low w i h at held)

      in_this : (o : Option Place) → Stays on n low f names (rules.over_in_this m o h next f a w)
      in_this None = call_over a named w at
      in_this (Some p) =
          call_over a named (record w { roots = put w.roots p h.value })
          (root_put (bases on) n low w p h.value at held (may_put clean n p.path h.value plain))

      goes_to : (d : Destination) → Stays on n low f names (rules.over_at m d h next f a w)
      goes_to Nowhere = call_over a named w at
      goes_to (ToSlot slot) = in_entry (held_at w.scope (f.base + slot)) (f.base + slot)
      goes_to ToThis = in_this f.this

    receiver_over : (d : Destination) (h : Held) → HeldNames clean n h → (w : World S) →
        Here on n low f names w → Stays on n low f names (rules.receiver_over m d next f h a w)
    receiver_over d h held w at =
        by_test (Stays on n low f names) (is_some (cell_of h.value) || h.read_only)
        (rules.call_over m next f a w) (rules.over_at m d h next f a w)
        (λ stays. call_over a named w at)
        (λ goes. goes_to h held (no_cell (cell_of h.value) h.read_only goes) w at d)

  -- a pointer is called on a receiver
  module _ (n : ℕ) (low : least ≤ n) (f : Frame) (names : FrameNames clean n f) where
    calls_receiver : (d : Destination) (r : FnPtr) → Names clean n (dynamic.Pointer r) →
        (values : List Dynamic) → ValuesName clean n values → (h : Held) → HeldNames clean n h →
        (next : ℕ) (w : World S) → Here on n low f names w →
        Stays on n low f names (rules.receiver_called m d r values h next f w)
    calls_receiver d r pointer values given h held next w at =
        marking on n low f names w begins at
        (calls_callee (bases inner) since n low f over overs (new_root w.roots) grown
        (with_root receiver held at) (firm_look grown.roots (new_root w.roots))
        (function_by_name m.program r.name (length r.curry + length values)) r
        (curried_in r ++ map read_write values)
        (all_joined (HeldNames clean n) (curried_in r) (map read_write values)
        (curried_names clean n r pointer) (held_values clean n values given))) where
          receiver : Held
          receiver = record h { read_only = is_read_only w h }

          grown : World S
          grown = record w { passed = w.passed + 1; roots = w.roots ++ receiver ∷ [] }

          inner : Grounds m
          inner = record on { since = record since { cells = w.cells; roots = w.roots ++ receiver ∷ [] } }

          over : Answer → World S → Act S
          over = rules.root_over m d next f (length w.roots)

          begins : World S → Act S
          begins w1 =
              rules.callee_on m (function_by_name m.program r.name (length r.curry + length values)) r
              (curried_in r ++ map read_write values) f (rules.root_over m d next f (length w1.roots))
              (new_root w1.roots)
              (record w1 { roots = w1.roots ++ record h { read_only = is_read_only w1 h } ∷ [] })

          overs : Hears (bases inner) since n over
          overs j le a v named there =
              receiver_over j (omega (arith, low, le)) f (frame_wider on n j f le names) next a named d
              (look v.roots (root_at (length w.roots)))
              (look_names clean j v.roots (w.roots ++ receiver ∷ []) (root_at (length w.roots))
              there.stand) (record v { roots = take (length w.roots) v.roots })
              (joined_on at (root_gone w.roots receiver there))

  module _ (n : ℕ) (low : least ≤ n) (f : Frame) (names : FrameNames clean n f) where
    calls_first : (d : Destination) (v : Dynamic) → Names clean n v → (o : Option FnPtr) →
        pointer_of v ≡ o → (count next : ℕ) (w : World S) → Here on n low f names w →
        Stays on n low f names (rules.first_called m d o v count next f w)
    calls_first d v read None is count next w at = no_pointer on n low f names v w at
    calls_first d v read (Some r) is count next w at =
        calls_receiver n low (without (count + 1 + 1) f)
        (under_names clean n (count + 1 + 1) f.operands names.0, names.1) d r
        (pointer_names clean n v r read is) (values_in (arguments count f.operands))
        (values_name clean n (arguments count f.operands)
        (arguments_name clean n count f.operands names.0)) (operand_under (count + 1) f.operands)
        (under_it on n low f names (count + 1)) next w at

    calls_target : (d : Destination) (v : Dynamic) → Names clean n v → (o : Option FnPtr) →
        pointer_of v ≡ o → (count next : ℕ) (w : World S) → Here on n low f names w →
        Stays on n low f names (rules.target_called m d o v count next f w)
    calls_target d v read (Some r) is count next w at =
        calls_pointed on n low f names v read (Some r) is count next w at
    calls_target d v read None is zero next w at = no_pointer on n low f names v w at
    calls_target d v read None is (suc k) next w at =
        reading on n low f names (operand_under k f.operands) [] w at (under_it on n low f names k)
        (λ u. rules.first_called m d (pointer_of u) u k next f w)
        (λ u first plain. calls_first d u first (pointer_of u) refl k next w at)

    pub calls_method : (d : Destination) (count next : ℕ) (w : World S) → Here on n low f names w →
        Stays on n low f names (rules.method_call m d count next f w)
    calls_method d count next w at =
        reading on n low f names (operand_under count f.operands) [] w at
        (under_it on n low f names count)
        (λ v. rules.target_called m d (pointer_of v) v count next f w)
        (λ v read plain. calls_target d v read (pointer_of v) refl count next w at)
