-- The walk over the rules through calls of a pointer with a receiver.
use Rattle.std.proofs.Common.{◌≡◌, ◌≤◌, ◌⊎◌, ℕ, zero, suc, ◌+◌, ◌-◌, List, [], ◌∷◌, ◌++◌, Option, Some, None, refl, sym, subst, ap, ◌∙◌, inl, inr, arith, length, take}
use Rattle.std.specs.Prelude.{codes, slice_get, slice_set}
use Rattle.grain_value.specs.declared.stores.Cell.{Cell}
use Rattle.grain_value.specs.declared.values.Dynamic.{Dynamic}
use Rattle.grain_value.specs.declared.values.FnPtr.{FnPtr}
use Rattle.grain_value.specs.declared.values.Held.{Held}
use Rattle.grain_value.specs.Cells.{flat, lent}
use Rattle.grain_value.specs.Looking.{cell_of, pointer_of}
use Rattle.grain_value.specs.Operands.{arguments, read_write, under, values_in}
use Rattle.grain_value.specs.Writing.{type_name_of}
use Rattle.grain_fault.specs.Problems.{Problem, Plain, DataRace, MismatchDataType, NoMemory, StackOverflow, Terminated, TooManyOperations, TooManyVariables}
use Rattle.grain_host.specs.Signatures.{not_found}
use Rattle.grain_program.specs.Decoding.{op_at}
use Rattle.grain_program.specs.Lookups.{function_by_text}
use Rattle.grain_program.specs.declared.code.functions.Function.{Function}
use Rattle.grain_program.specs.declared.code.instruction_set.Op.{Op}
use Rattle.grain_means.specs.Places.{look, or_unit}
use Rattle.grain_means.specs.Rules.{Destination, callee_on, cell_given_back, copy_dropped, failed_so, flat_all, function_called, function_under, given, lent_at, native_lent, native_lent_cell, native_on, native_on_read, is_read_only, method_call, new_root, not_a_pointer, operand_under, pointer_called, spread, function_by_name, first_called, target_called, position, race_text, receiver_called, root_over, stepped}
use Rattle.grain_means.specs.Worlds.{Act, Answer, Came, End, Failed, Place, Setup, World}
use Rattle.grain_means.specs.Causes.{AsksEither, AsksNative, AsksOnReceiver, Calls, CallsUnder, CallsWith, Charges, HasReceiver, IsKeptOut, IsMethodCall, Points, PointsFirst, args_beside, function_beside, native_asked, receiver, roots_for, this_for}
use Rattle.grain_means.specs.lemmas.LentPlaces.{found-new}
use Rattle.grain_means.proofs.Choices.{if_false, if_true}
use Rattle.grain_means.proofs.Footing.{Sits, by_test}
use Rattle.grain_means.proofs.Lengths.{length_under, spread_length, spread_under}
use Rattle.grain_means.proofs.Standing.{fits_found}
use Rattle.grain_means.proofs.Unlent.{lent_out}
use Rattle.grain_means.proofs.Tally.Bodies.{even_under}
use Rattle.grain_means.proofs.Tally.Entries.{busy_content, lent_cell}
use Rattle.grain_means.proofs.Tally.Calls.{even_called}
use Rattle.grain_means.proofs.Tally.Faults.{blames_none, even_flat, even_raised, why}
use Rattle.grain_means.proofs.Tally.Frames.{Enough, Even, Reason, SteadyBut, Walk, even_marked, holding, point, start, steady}
use Rattle.grain_means.proofs.Tally.Methods.{method_asks, method_calls, method_charges, method_fills, method_misses, method_no_chain, method_reads}
use Rattle.grain_means.proofs.Tally.Natives.{even_found_or, none_why, refused_why}
use Rattle.grain_means.proofs.Tally.Returns.{Hears, HearsBut, UsesSlot, caused_out, ended_on, fails_so, hears_cell, hears_root, out_ended}

module _ {S : Type 0} {m : Setup S} (walk : Walk m) where
  open walk use {root, footing as k, frame as f, now, tokens, level, trace, keeps}

  -- the rules of an instruction that stands where the frame does, which then has these operands
  module _ (o : Op) (width : ℕ) (stands : op_at m.program.code f.address ≡ Some (o, width))
      (operands : List Held)
    where
      abbrev ran : ℕ
      ran = now.ran + 1

      -- a native is lent what stands at a place
      native_asks : (away : Option ℕ) (heard : Answer → World S → Act S) → HearsBut walk away heard →
          (w : World S) → SteadyBut walk away ran w → w.trace ≡ [] →
          length w.scope ≡ length now.scope → (name : List ℕ) (p : Place) (args : List Held) →
          AsksOnReceiver m
          (record { world = w; name = name; lent = lent_at w.roots (Some p); args = args })
          (point walk o) →
          Even walk ran (native_lent m name args (holding walk operands) heard p w)
      native_asks away heard hears w s t same name p args asks =
          let r = lent_at w.roots (Some p) in
          let q : AsksNative m (record { world = w; name = name; lent = r; args = args })
          (point walk o) = inl (inr asks) in
          even_found_or walk o width stands away w ran s t name r args q operands (heard (Failed NoMemory))
          (λ v w1. heard (Came v) w1) (failed_so m heard)
          (λ l u cause after. hears l (Failed NoMemory) u after.0 (after.1 ∙ same)
          (caused_out walk u cause))
          (λ n e called v l u how after empty. hears l (Came v) u after.0 (after.1 ∙ same) empty)
          (λ e. fails_so walk away heard hears (not_found name (values_in (given r args)) (position m f))
          ran w (none_why walk o width stands away w ran s t name r args q (inl (inr asks)) e) s same)
          (λ n e writes only. fails_so walk away heard hears _ ran w
          (refused_why walk o width stands away w ran s t name r args q n e writes only) s same)
          (λ n e called x l u how reason after. fails_so walk away heard hears x l u
          (reason (inl (inr asks))) after.0 (after.1 ∙ same))
          (native_asked m (record { world = w; name = name; lent = r; args = args })) refl

      -- The pointer p, which is the first of n + 1 arguments, is called on the receiver, which is a root
      -- then.
      module _ (n : ℕ) (is : IsMethodCall (suc n) o) (p : FnPtr) (points : PointsFirst p n f now)
          (heard : Answer → World S → Act S) (hears : Hears walk heard) where
        abbrev h : Held
        h = receiver n f now

        abbrev place : Place
        place = new_root now.roots

        abbrev args : List Held
        args = args_beside p n f

        abbrev begun : World S
        begun = record (start walk) {
          passed = (start walk).passed + 1;
          roots = now.roots ++ h ∷ [];
        }

        looks : look begun.roots place ≡ h
        looks = ap or_unit (found-new now.roots h)

        -- the native of the pointer's name
        module _ (none : function_beside m.program p n f ≡ None) where
          races : (flat_all now.cells args ≡ None) ⊎ (flat now.cells h.value ≡ None) →
              Even walk ran (failed_so m heard (Plain (DataRace (race_text [])) (position m f)) begun)
          races lent =
              let x = Plain (DataRace (race_text [])) (position m f) in
              fails_so walk None heard hears x ran begun
              (why walk o width stands x refl (
                [],
                refl,
                inl (method_reads m o (suc n) f now is
                    (inr (points.0, inr (p, points.1, none, lent)))),
              )) (steady walk) refl

          module _ (values : List Held) (reads : flat_all now.cells args ≡ Some values) where
            in_cell : (i : ℕ) → cell_of h.value ≡ Some i → (c : Option Cell) →
                slice_get now.cells i ≡ c →
                Even walk ran (native_lent_cell m c i h.read_only p.name values (holding walk operands)
                heard begun)
            in_cell i at None e =
                races (inr (lent_cell now.cells h.value i None at e refl))
            in_cell i at (Some c) e =
                let size : ℕ = length begun.roots in
                let v : World S = record begun {
                  roots = begun.roots ++ record { value = c.held.value; read_only = h.read_only } ∷ [];
                  cells = slice_set begun.cells i (lent c.held);
                } in
                by_test (Even walk ran) c.busy
                (failed_so m heard (Plain (DataRace (race_text [])) (position m f)) begun)
                (native_lent m p.name values (holding walk operands)
                (cell_given_back m i c.held size heard) (new_root begun.roots) v)
                (λ busy. races (inr (lent_cell now.cells h.value i (Some c) at e (busy_content c busy))))
                (λ free. native_asks (Some i) (cell_given_back m i c.held size heard)
                (hears_cell walk i size c.held heard hears) v (
                  refl,
                  tokens,
                  level,
                  record {
                    keeps = keeps.keeps;
                    unlent = lent_out k.cells now.cells i (lent c.held) keeps.unlent;
                  },
                ) trace refl p.name
                (new_root begun.roots) values (record {
                  n = n;
                  is = is;
                  pointer = p;
                  points = points;
                  none = none;
                  named = refl;
                  reads = reads;
                  lends = rw at (c, e, free, refl, refl);
                }))

            by_cell : (cell : Option ℕ) → cell_of h.value ≡ cell →
                Even walk ran (native_on m cell h p.name values (holding walk operands) heard place begun)
            by_cell None at =
                native_asks None heard hears begun (steady walk) trace refl p.name place values (record {
                  n = n;
                  is = is;
                  pointer = p;
                  points = points;
                  none = none;
                  named = refl;
                  reads = reads;
                  lends = rw at (refl, refl);
                })
            by_cell (Some i) at = in_cell i at (slice_get now.cells i) refl

          by_values : (values : Option (List Held)) → flat_all now.cells args ≡ values →
              Even walk ran (native_on_read m values p.name (holding walk operands) heard place begun)
          by_values None e = races (inl e)
          by_values (Some values) e =
              subst (λ (r : Held). Even walk ran (native_on m (cell_of r.value) r p.name values
              (holding walk operands) heard place begun)) (sym looks)
              (by_cell values e (cell_of h.value) refl)

        -- the function of the pointer's name
        module _ (g : Function) (found : function_beside m.program p n f ≡ Some g) where
          calls : CallsUnder m.program g args n o f now
          calls = (p, is, points, found, refl)

          counts : Calls m.program o f now
          counts = (g, args, inr (n, calls))

          charges : Charges m.program o f now
          charges = method_charges m.program o (suc n) f now is counts

          kept_out : (x : Problem) → IsKeptOut m (position m f) (length g.params) begun x → Reason walk x
          kept_out x (inl (full, clear, at)) = rw at
              (why walk o width stands (Plain TooManyOperations (position m f)) refl (full, charges))
          kept_out x (inr (inl (v, fits, clears, says, clear, at))) = rw at
              (why walk o width stands (Plain (Terminated v) (position m f)) refl (fits, says, charges))
          kept_out x (inr (inr (inl (taken, high, clear, at)))) = rw at
              (why walk o width stands (Plain StackOverflow (position m f)) refl (taken.0, high, counts))
          kept_out x (inr (inr (inr (taken, low, many, clear, at)))) = rw at
              (why walk o width stands (Plain TooManyVariables (position m f)) refl
              (method_fills m o (suc n) f now is (g, args, inr (n, calls), taken.0, low, many)))

          -- its body, under this `this`, in this world
          in_body : (this : Option Place) (roots : List Held) →
              this ≡ this_for begun.roots (Some place) → roots ≡ roots_for begun.roots (Some place) →
              (said : Answer → World S → Act S) → Hears walk said →
              Even walk ran (function_under m (position m f) g args said this
              (record begun { roots = roots }))
          in_body this roots bound starts said hearing =
              let w : World S = record begun { roots = roots } in
              let by : CallsWith m g args this (position m f) w (point walk o) =
              inr (inr ((n, calls, (bound, ap (λ (l : List Held). record begun { roots = l }) starts)), refl))
              in
              even_under walk o width stands (position m f) g args this w by
              (λ valid. fits_found m.program valid
              (function_by_text m.program p.name
              (length p.curry + length (values_in (arguments n f.operands)))) g 0 this found)
              None ran (steady walk) trace f.slot (λ x. Unit {0})
              (λ begins x y ends end is_so. blames_none walk o width stands y
              (method_no_chain o (suc n) is))
              (λ begins x ends end is_so. (level, inl (method_no_chain o (suc n) is, refl)))
              said End
              (λ u l stop at. hearing l (Failed NoMemory) u at.0 (ap length at.1) (out_ended walk u stop))
              (λ x u l because at. hearing l (Failed x) u at.0 (ap length at.1)
              (inr because.0, because.1, because.2))
              (λ d u l whole at empty. hearing l (Came d) u at.0 (ap length at.1) empty)
              (λ x why. kept_out x why) (λ x u whole. tt)

          hears_copy : (size : ℕ) → Hears walk (copy_dropped m size heard)
          hears_copy size l a u s same e =
              let v : World S = record u { roots = take size u.roots } in
              hears l a v s same (ended_on walk a u v refl refl e)

          by_function : Even walk ran (function_called m (position m f) g args heard (Some place) begun)
          by_function =
              let only = (look begun.roots place).read_only in
              let size = length begun.roots in
              let copy : Place = record { root = size; path = [] } in
              let more : List Held = begun.roots ++ look begun.roots place ∷ [] in
              by_test (Even walk ran) only
              (function_under m (position m f) g args (copy_dropped m size heard) (Some copy)
              (record begun { roots = more }))
              (function_under m (position m f) g args heard (Some place) begun)
              (λ yes. in_body (Some copy) more
              (if_true (λ (x : Option Place). Some copy ≡ x) only (Some copy) (Some place) yes refl)
              (if_true (λ (x : List Held). more ≡ x) only more begun.roots yes refl)
              (copy_dropped m size heard) (hears_copy size))
              (λ no. in_body (Some place) begun.roots
              (if_false (λ (x : Option Place). Some place ≡ x) only (Some copy) (Some place) no refl)
              (if_false (λ (x : List Held). begun.roots ≡ x) only more begun.roots no refl)
              heard hears)

        callee : (found : Option Function) → function_beside m.program p n f ≡ found →
            Even walk ran (callee_on m found p args (holding walk operands) heard place begun)
        callee None e = by_values e (flat_all now.cells args) refl
        callee (Some g) e = by_function g e

      -- the same after a mark, and then the receiver goes where it is to go
      even_receiver : Enough walk o operands → ((v : Dynamic) →
          Sits m root k (stepped f (f.address + width) (operands ++ read_write v ∷ []))) →
          (n : ℕ) (is : IsMethodCall (suc n) o) (p : FnPtr) → PointsFirst p n f now →
          (d : Destination) → UsesSlot walk o d →
          Even walk ran (receiver_called m d p (values_in (arguments n f.operands))
          (operand_under (n + 1) f.operands) (f.address + width) (holding walk operands) (start walk))
      even_receiver enough on n is p points d uses =
          let next = f.address + width in
          even_marked walk ran (start walk) (steady walk)
          (λ w1. callee_on m (function_beside m.program p n f) p (args_beside p n f)
          (holding walk operands) (root_over m d next (holding walk operands) (length w1.roots))
          (new_root w1.roots) (record w1 {
            roots = w1.roots ++ record (operand_under (n + 1) f.operands) {
              read_only = is_read_only w1 (operand_under (n + 1) f.operands);
            } ∷ [];
          }))
          (callee n is p points (root_over m d next (holding walk operands) (length now.roots))
          (hears_root walk o width stands operands enough on d uses (length now.roots))
          (function_beside m.program p n f) refl)

  -- The rules of an instruction that stands where the frame does, and that calls a pointer on n arguments,
  -- with a receiver or without one.
  module _ (o : Op) (width : ℕ) (stands : op_at m.program.code f.address ≡ Some (o, width))
      (d : Destination) where
    -- no more operands are gone than it takes, and the frame goes on with one more
    abbrev Leaves : ℕ → Type 0
    Leaves n = (operands : List Held) → length operands ≡ length f.operands - (n + 1) →
        ((v : Dynamic) → Sits m root k (stepped f (f.address + width) (operands ++ read_write v ∷ [])))

    -- the target is a pointer
    even_target : (n : ℕ) → IsMethodCall n o → Leaves n →
        ((operands : List Held) → length f.operands - (n + 1) ≤ length operands →
        Enough walk o operands) → (p : FnPtr) (v : Dynamic) → Points p n f now →
        Even walk (now.ran + 1) (pointer_called m (Some p) v n (f.address + width) f (start walk))
    even_target n is on enough p v points =
        let count = length p.curry + n in
        let ops = (spread p n f).operands in
        even_called walk o width stands p.name count ops
        (enough ops (omega (arith, spread_length p n f.operands)))
        (enough (under count ops) (omega (arith, spread_under p n f.operands)))
        (on (under count ops) (omega (arith, spread_under p n f.operands)))
        (method_charges m.program o n f now is)
        (λ g args calls charged low many. method_fills m o n f now is
        (g, args, inl calls, charged, low, many))
        (function_by_name m.program p.name count)
        (λ none lent. method_reads m o n f now is (inl (inr (p, points, none, lent))))
        (λ none args read. method_misses m.program o n f now p.name args is
        (p, points, refl, read, none))
        (λ g e. method_calls m.program o n f now g (arguments count ops) is (p, points, e, refl))
        (λ g e valid. fits_found m.program valid (function_by_text m.program p.name count) g 0 None e)

    -- a value that is to be a pointer is none
    even_no_pointer : (n k : ℕ) → IsMethodCall k o → AsksEither n k f now → (v : Dynamic) →
        flat now.cells (operand_under n f.operands).value ≡ Some v → pointer_of v ≡ None →
        Even walk (now.ran + 1) (not_a_pointer m v f (start walk))
    even_no_pointer n k is asks v read none =
        let x = Plain (MismatchDataType (codes "Fn") (type_name_of v)) (position m f) in
        even_raised walk o width stands (now.ran + 1) x (start walk) (steady walk)
        (why walk o width stands x refl
        (inr (inl (n, v, read, refl, refl, none, method_asks m.program o k f now n is asks))))

    -- the target is none
    even_first : (n : ℕ) → IsMethodCall n o → Leaves n →
        ((operands : List Held) → length f.operands - (n + 1) ≤ length operands →
        Enough walk o operands) →
        (HasReceiver n f now → UsesSlot walk o d) →
        (v : Dynamic) → flat now.cells (operand_under n f.operands).value ≡ Some v →
        pointer_of v ≡ None →
        Even walk (now.ran + 1) (target_called m d None v n (f.address + width) f (start walk))
    even_first zero is on enough uses v read none = even_no_pointer 0 0 is refl v read none
    even_first (suc n) is on enough uses v read none =
        even_flat walk o width stands (operand_under n f.operands) []
        (λ lent. method_reads m o (suc n) f now is (inr ((v, read, none), inl lent)))
        (λ u. first_called m d (pointer_of u) u n (f.address + width) f (start walk))
        (λ u read_it. by_pointer u read_it (pointer_of u) refl)
        (flat now.cells (operand_under n f.operands).value) refl where
          by_pointer : (u : Dynamic) → flat now.cells (operand_under n f.operands).value ≡ Some u →
              (p : Option FnPtr) → pointer_of u ≡ p →
              Even walk (now.ran + 1) (first_called m d p u n (f.address + width) f (start walk))
          by_pointer u read_it None e =
              even_no_pointer n (suc n) is (refl, (v, read, none)) u read_it e
          by_pointer u read_it (Some p) e =
              let operands = under (n + 1 + 1) f.operands in
              let points : PointsFirst p n f now = ((v, read, none), (u, read_it, e)) in
              even_receiver o width stands operands
              (enough operands (omega (arith, length_under (n + 1 + 1) f.operands)))
              (on operands (omega (arith, length_under (n + 1 + 1) f.operands))) n is p points d
              (uses (p, points))

    pub even_method : (n : ℕ) → IsMethodCall n o → Leaves n →
        ((operands : List Held) → length f.operands - (n + 1) ≤ length operands →
        Enough walk o operands) →
        (HasReceiver n f now → UsesSlot walk o d) →
        Even walk (now.ran + 1) (method_call m d n (f.address + width) f (start walk))
    even_method n is on enough uses =
        even_flat walk o width stands (operand_under n f.operands) []
        (λ lent. method_reads m o n f now is (inl (inl lent)))
        (λ v. target_called m d (pointer_of v) v n (f.address + width) f (start walk))
        (λ v read. by_pointer v read (pointer_of v) refl)
        (flat now.cells (operand_under n f.operands).value) refl where
          by_pointer : (v : Dynamic) → flat now.cells (operand_under n f.operands).value ≡ Some v →
              (p : Option FnPtr) → pointer_of v ≡ p →
              Even walk (now.ran + 1) (target_called m d p v n (f.address + width) f (start walk))
          by_pointer v read None e = even_first n is on enough uses v read e
          by_pointer v read (Some p) e = even_target n is on enough p v (v, read, e)
