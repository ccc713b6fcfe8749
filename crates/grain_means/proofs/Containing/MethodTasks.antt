-- The same of a method step of a walk.
use Rattle.std.proofs.Common.{◌≡◌, ◌≤◌, ℕ, List, [], ◌∷◌, Bool, true, false, Option, Some, None, map, refl, arith}
use Rattle.std.specs.BTreeMap.{is_at}
use Rattle.std.specs.Cmp.Lexicographic.{slice_cmp}
use Rattle.std.specs.Ordering.{nat_cmp}
use Rattle.std.specs.Prelude.{bytes_eq, codes, if◌then◌else◌, is_some}
use Rattle.grain_value.specs.Looking.{cell_of, pointer_of}
use Rattle.grain_value.specs.Maps.{entry_at}
use Rattle.grain_value.specs.Tree.{Tree}
use Rattle.grain_value.specs.View.{tree, value_of}
use Rattle.grain_value.specs.Writing.{type_name_of}
use Rattle.grain_value.specs.laws.Same.{tree-value_of}
use Rattle.grain_value.specs.declared.values.Dynamic.{Dynamic}
use Rattle.grain_value.specs.declared.values.Dynamic.TheVariants as dynamic
use Rattle.grain_value.specs.declared.values.FnPtr.{FnPtr}
use Rattle.grain_value.specs.declared.values.Held.{Held}
use Rattle.grain_fault.specs.declared.places.Position.{Position}
use Rattle.grain_program.specs.Lookups.{method_of}
use Rattle.grain_program.specs.View.{name_of}
use Rattle.grain_means.specs.Contained.{AnswerNames, HeldNames, Names}
use Rattle.grain_means.specs.Tasks.{Task, Method, Numbered, Pointed}
use Rattle.grain_means.specs.Walks as walks
use Rattle.grain_means.specs.Walks.{Setting, Rest, Next, OfMethod, asks_shared}
use Rattle.grain_means.specs.Worlds.{Place, Answer}
use Rattle.grain_means.proofs.Inside.{entry_names}
use Rattle.grain_means.proofs.Naming.{more_names, values_curry}
use Rattle.grain_means.proofs.Containing.Parts.{pointer_names}
use Rattle.grain_means.proofs.Containing.Asking.{into_answer}
use Rattle.grain_means.proofs.Containing.Tasks.{Follows, Goes, LendsSolid, MethodNames, Reading, Solid, TaskNames, ValuesName, by, fails, follows_wider, given, out, reads}

-- the walk further on, also where the store has grown
abbrev pub GoesOn : Bool → Bool → ℕ → Next → Type 0
GoesOn clean bare n next = (j : ℕ) → n ≤ j → Goes clean bare j next

-- the pointer that a map has of its own names what the map names
own_names : (clean : Bool) (n : ℕ) (name : List ℕ) (d : Dynamic) → Names clean n d → (f : FnPtr) →
    walks.own_pointer name d ≡ Some f → Names clean n (dynamic.Pointer f)
own_names clean n name (dynamic.Map es) named f is = by_entry (entry_at name es) refl is where
  by_entry : (o : Option Tree) → entry_at name es ≡ o → walks.pointer_in o ≡ Some f →
      Names clean n (dynamic.Pointer f)
  by_entry None e is = absurd cc
  by_entry (Some t) e is = pointer_names clean n (value_of t) f (there t e) is where
    there : (t : Tree) → entry_at name es ≡ Some t → Names clean n (value_of t)
    there t e =
        rw (tree-value_of t) (entry_names clean n (is_at (slice_cmp nat_cmp name)) es t named e)
own_names clean n name d named f is = absurd cc

-- a pointer with more values
curried_more : (clean : Bool) (n : ℕ) (f : FnPtr) (vs : List Dynamic) →
    Names clean n (dynamic.Pointer f) → ValuesName clean n vs →
    Names clean n (dynamic.Pointer (walks.with_values f vs))
curried_more clean n f vs named values =
    more_names clean n f.curry (map (λ v. tree v) vs) named (values_curry clean n vs values)

module _ (clean bare : Bool) (n : ℕ) (k : ℕ) (g : Setting) (q : Position) (args : List Dynamic)
    (values : ValuesName clean n args) (last : Bool) (next : Next) (on : GoesOn clean bare n next)
  where
    module _ (p : Place) (solid : Solid bare p) (done : Rest) (f : Follows clean bare n done) where
      gave_at : (j : ℕ) → n ≤ j → Reading clean bare j (walks.gave g k q args last next p done)
      gave_at j le =
          into_answer clean bare j k g q last OfMethod p tt next (on j le) done
          (follows_wider clean bare n j le done f)

      answered : (j : ℕ) → n ≤ j → (a : Answer) → AnswerNames clean j a →
          TaskNames clean bare j (walks.method_answered g k q args last next p done a)
      answered j le a bound =
          given clean bare j k done (walks.gave g k q args last next p done)
          (follows_wider clean bare n j le done f) (gave_at j le) a bound

      -- a function is called
      invokes : (method : Method) → MethodNames clean n method → (this : Option Place) →
          LendsSolid bare this → (vs : List Dynamic) → ValuesName clean n vs →
          TaskNames clean bare n (walks.invoking k q method this vs done
          (walks.method_answered g k q args last next p done))
      invokes method named this lends vs given_values =
          (out clean bare n done k f, (named, given_values, lends, answered))

      no_pointer : (v : Dynamic) →
          TaskNames clean bare n (walks.no_pointer g k q args last next p done v)
      no_pointer v = fails clean bare n k _ done f (omega arith, λ s. refl)

      first_calls : (u : Dynamic) → Names clean n u → (vs : List Dynamic) → ValuesName clean n vs →
          (o : Option FnPtr) → pointer_of u ≡ o →
          TaskNames clean bare n (walks.first_called g k q args last next p done o u vs)
      first_calls u named vs more None is = no_pointer u
      first_calls u named vs more (Some r) is =
          invokes (Pointed r) (pointer_names clean n u r named is) (Some p) solid vs more

      calls_on : (d : Dynamic) (vs : List Dynamic) → ValuesName clean n vs →
          TaskNames clean bare n (walks.called_on g k q args last next p done d vs)
      calls_on d [] more = no_pointer d
      calls_on d (v ∷ vs) more =
          reads clean bare n k q v done
          (λ u. walks.first_called g k q args last next p done (pointer_of u) u vs) f more.0
          (λ u plain. first_calls u plain.0 vs more.1 (pointer_of u) refl)

      calls : (d : Dynamic) → Names clean n d → (o : Option FnPtr) → pointer_of d ≡ o →
          TaskNames clean bare n (walks.call_step g k q args last next p done o d)
      calls d named None is = calls_on d args values
      calls d named (Some r) is =
          invokes (Pointed r) (pointer_names clean n d r named is) None tt args values

      curries : (d : Dynamic) → Names clean n d → (o : Option FnPtr) → pointer_of d ≡ o →
          TaskNames clean bare n (walks.curry_step g k q args last next p done o d)
      curries d named None is = no_pointer d
      curries d named (Some r) is =
          gave_at n (omega arith) (dynamic.Pointer (walks.with_values r args))
          (curried_more clean n r args (pointer_names clean n d r named is) values)

      by_method : (o : Option ℕ) (name : List ℕ) →
          TaskNames clean bare n (walks.by_method g k q args last next p done o name)
      by_method None name =
          (out clean bare n done k f, (values, solid, answered))
      by_method (Some i) name = invokes (Numbered i) tt (Some p) solid args values

      by_own : (text : List ℕ) (name argc : ℕ) (d : Dynamic) → Names clean n d → (o : Option FnPtr) →
          walks.own_pointer text d ≡ o →
          TaskNames clean bare n (walks.by_own g k q args last next p done o name argc d)
      by_own text name argc d named None is =
          by_method (method_of g.program name argc (type_name_of d)) (name_of g.program name)
      by_own text name argc d named (Some r) is =
          invokes (Pointed r) (own_names clean n text d named r is) (Some p) solid args values

      at : (name argc : ℕ) (text : List ℕ) (h : Held) → HeldNames clean n h →
          TaskNames clean bare n (walks.method_at g k q args last next p done name argc text h)
      at name argc text h held =
          by clean bare n (asks_shared text argc) _ _
          (gave_at n (omega arith) (dynamic.Bool (is_some (cell_of h.value))) (omega arith, λ s. refl))
          (by clean bare n (bytes_eq text (codes "call")) _ _
          (calls h.value held (pointer_of h.value) refl)
          (by clean bare n (bytes_eq text (codes "curry")) _ _
          (curries h.value held (pointer_of h.value) refl)
          (by_own text name argc h.value held (walks.own_pointer text h.value) refl)))

    pub method_step : (name argc : ℕ) →
        Goes clean bare n (λ p done. walks.method_step g k q args last next p done name argc)
    method_step name argc =
        λ p solid done f h held. at p solid done f name argc (name_of g.program name) h held

-- a step that asks whether what stands there is a shared variable: that may be a cell
pub asks_shared_step : (clean bare : Bool) (n k : ℕ) (g : Setting) (q : Position)
    (args : List Dynamic) (last : Bool) (next : Next) → Goes clean bare n next → (name argc : ℕ) →
    asks_shared (name_of g.program name) argc ≡ true → (p : Place) (done : Rest) →
    Follows clean bare n done →
    TaskNames clean bare n (walks.method_step g k q args last next p done name argc)
asks_shared_step clean bare n k g q args last next on name argc asks p done f = λ h held.
    shared (asks_shared (name_of g.program name) argc) asks _ _
    (into_answer clean bare n k g q last OfMethod p tt next on done f
    (dynamic.Bool (is_some (cell_of h.value))) (omega arith, λ s. refl)) where
      shared : (b : Bool) → b ≡ true → (x y : Task) → TaskNames clean bare n x →
          TaskNames clean bare n (if b then x else y)
      shared true e x y h = h
      shared false e x y h = absurd cc
