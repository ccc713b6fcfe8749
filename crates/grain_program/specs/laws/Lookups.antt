-- The function that is found is there.
use Rattle.std.specs.Prelude.{ℕ, suc, ◌≡◌, ◌+◌, ◌==◌, ◌&&◌, Bool, true, false, cond, List, [], ◌∷◌, length, slice_get, Option, Some, IfSome, None, is_none, refl}
use Rattle.std.specs.List.{position_from}
use Rattle.std.proofs.Common.{sym, ap, ◌∙◌, arith}
use Rattle.std.proofs.lemmas.Bool.{eqb-true}
use Rattle.std.proofs.lemmas.Slice.Eq.{bytes_eq-Decides}
use Rattle.grain_program.specs.declared.code.functions.Function.{Function}
use Rattle.grain_program.specs.View.{View}
use Rattle.grain_program.specs.Lookups.{is_untyped, is_named_so, is_called, function_of, is_text, has_text, function_by_text, is_type, is_method, or_else, method_of, Called, CalledByText, MethodCalled}

-- the entry of this number, counted from the first one, passes the test
record Passes (test : Function → Bool) (from : ℕ) (fs : List Function) (number : ℕ) : Type 0 where
  behind : ℕ
  entry : Function
  at : number ≡ from + behind
  is : slice_get fs behind ≡ Some entry
  passes : test entry ≡ true

passing : (test : Function → Bool) (from : ℕ) (fs : List Function) (number : ℕ)
    → position_from test from fs ≡ Some number → Passes test from fs number
passing test from [] number e = absurd cc
passing test from (f ∷ fs) number e =
    at (test f) refl e (λ k. passing test (from + 1) fs number k) where
      at : (b : Bool) → test f ≡ b → cond b (Some from) (position_from test (from + 1) fs) ≡ Some
          number
          → (position_from test (from + 1) fs ≡ Some number → Passes test (from + 1) fs number)
          → Passes test from (f ∷ fs) number
      at true h k more = let same : from ≡ number = cc in record {
        behind = 0;
        entry = f;
        at =
            omega arith;
        is = refl;
        passes = h;
      }
      at false h k more = let r = more k in record {
        behind = suc r.behind;
        entry = r.entry;
        at =
            omega (arith, r.at);
        is = r.is;
        passes = r.passes;
      }

both : (a b : Bool) → (a && b) ≡ true → (a ≡ true) × (b ≡ true)
both true b e = (refl, e)
both false b e = absurd cc

no_type : (f : Function) → is_untyped f ≡ true → f.this_type ≡ None
no_type f e = at f.this_type refl e where
  at : (o : Option ℕ) → f.this_type ≡ o → is_none o ≡ true → f.this_type ≡ None
  at None k h = k
  at (Some n) k h = absurd cc

same_text : (text : List ℕ) (o : Option (List ℕ)) → is_text text o ≡ true → o ≡ Some text
same_text text None e = absurd cc
same_text text (Some name) e =
    ap (λ (bytes : List ℕ). Some bytes) ((bytes_eq-Decides name text).0 e)

pub called : (p : View) (name count number : ℕ) → function_of p name count ≡ Some number
    → Called p name count number
called p name count number e =
    let r = passing (is_called name count) 0 p.functions number e in
    let t = both (is_named_so name r.entry) (length r.entry.params == count) r.passes in
    let n = both (r.entry.name == name) (is_untyped r.entry) t.0 in
    let at : number ≡ r.behind = omega (arith, r.at) in
    record {
      function = r.entry;
      is = ap (slice_get p.functions) at ∙ r.is;
      name_is = eqb-true r.entry.name name n.0;
      untyped = no_type r.entry n.1;
      count_is = eqb-true (length r.entry.params) count t.1;
    }

pub found_called : (p : View) (name count : ℕ) (o : Option ℕ) → o ≡ function_of p name count
    → IfSome o (Called p name count)
found_called p name count None e = tt
found_called p name count (Some n) e = called p name count n (sym e)

pub called_by_text : (p : View) (text : List ℕ) (count number : ℕ)
    → function_by_text p text count ≡ Some number → CalledByText p text count number
called_by_text p text count number e =
    let r = passing (has_text p.names text count) 0 p.functions number e in
    let t =
    both (is_text text (slice_get p.names r.entry.name))
    (is_untyped r.entry && (length r.entry.params == count)) r.passes in
    let u = both (is_untyped r.entry) (length r.entry.params == count) t.1 in
    let at : number ≡ r.behind = omega (arith, r.at) in
    record {
      function = r.entry;
      is = ap (slice_get p.functions) at ∙ r.is;
      text_is = same_text text (slice_get p.names r.entry.name) t.0;
      untyped = no_type r.entry u.0;
      count_is = eqb-true (length r.entry.params) count u.1;
    }

pub found_by_text : (p : View) (text : List ℕ) (count : ℕ) (o : Option ℕ)
    → o ≡ function_by_text p text count → IfSome o (CalledByText p text count)
found_by_text p text count None e = tt
found_by_text p text count (Some n) e = called_by_text p text count n (sym e)

method_called : (p : View) (name count number : ℕ) (type : List ℕ)
    → position_from (is_method p.names name count type) 0 p.functions ≡ Some number
    → MethodCalled p name count number
method_called p name count number type e =
    let r = passing (is_method p.names name count type) 0 p.functions number e in
    let t =
    both (r.entry.name == name)
    (is_type p.names type r.entry.this_type && (length r.entry.params == count)) r.passes in
    let u = both (is_type p.names type r.entry.this_type) (length r.entry.params == count) t.1 in
    let at : number ≡ r.behind = omega (arith, r.at) in
    record {
      function = r.entry;
      is = ap (slice_get p.functions) at ∙ r.is;
      name_is = eqb-true r.entry.name name t.0;
      count_is = eqb-true (length r.entry.params) count u.1;
    }

pub found_method : (p : View) (name count : ℕ) (type : List ℕ) (o : Option ℕ)
    → o ≡ method_of p name count type → IfSome o (MethodCalled p name count)
found_method p name count type None e = tt
found_method p name count type (Some n) e =
    at (position_from (is_method p.names name count type) 0 p.functions) refl (sym e) where
      at : (x : Option ℕ) → position_from (is_method p.names name count type) 0 p.functions ≡ x
          → or_else x (function_of p name count) ≡ Some n → MethodCalled p name count n
      at None k h =
          let c = called p name count n h in
          record {
            function = c.function;
            is = c.is;
            name_is = c.name_is;
            count_is = c.count_is;
          }
      at (Some m) k h = method_called p name count n type (k ∙ h)
