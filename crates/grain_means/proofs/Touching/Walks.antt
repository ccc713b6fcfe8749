-- Roots through a walk: it writes inside the place where it began, and leaves as many roots as there
-- were.
use Rattle.std.proofs.Common.{◌≡◌, ◌≤◌, ◌+◌, ℕ, suc, List, [], ◌∷◌, ◌++◌, Option, Some, None, false, length, map, take, refl, subst, arith, option_map, length-append}
use Rattle.std.proofs.lemmas.List.{length-take}
use Rattle.grain_value.specs.Cells.{flat}
use Rattle.grain_value.specs.Operands.{read_write}
use Rattle.grain_value.specs.declared.values.Dynamic.{Dynamic}
use Rattle.grain_value.specs.declared.values.Dynamic.TheVariants as dynamic
use Rattle.grain_value.specs.declared.values.Held.{Held}
use Rattle.grain_fault.specs.Problems.{Problem, Plain, DataRace, NoMemory}
use Rattle.grain_fault.specs.declared.places.Position.{Position}
use Rattle.grain_fault.specs.declared.traces.Fault.{Fault}
use Rattle.grain_program.specs.declared.code.functions.Function.{Function}
use Rattle.grain_means.specs.Places.{look, put}
use Rattle.grain_means.specs.Rules as rules
use Rattle.grain_means.specs.Rules.{at_step, curried_in, flat_all, function_by_name, function_numbered, is_stop, lent_at, missed_by, placed, pointed_native, race_text, trace_of}
use Rattle.grain_means.specs.Tasks.{Task, Done, Mark, Look, Flatten, Write, Root, Drop, Need, Invoke, Call, Invocation, Method, Numbered, Pointed, Walked}
use Rattle.grain_means.specs.WalkEnds.{AllEnds}
use Rattle.grain_means.specs.Worlds.{Act, Answer, Came, Failed, Frame, Place, Setup, World}
use Rattle.grain_means.specs.lemmas.PlaceLaws.{length-put}
use Rattle.grain_means.specs.lemmas.LentPlaces.{found-new}
use Rattle.grain_means.proofs.Footing.{by_test}
use Rattle.grain_means.proofs.Touching.Passing.{Leaves, LendsBack, body_calls, body_fails, fails_or, natives}
use Rattle.grain_means.proofs.Touching.Tasks.{Binds}
use Rattle.grain_means.proofs.Touching.Within.{bound_on}
use Rattle.grain_means.proofs.Touching.Writes.{Bound, May, MayThis, Stands, Wrote, added, cut, may_own, may_past, set, stands_on, stands_same, wrote_on}

-- In a walk that began with n other roots, where it has j roots of its own: the roots, and what they
-- were where its frame began.
abbrev pub Amid : Option Place → List Held → ℕ → ℕ → List Held → Type 0
Amid t old n j now =
    Wrote t (length old) old now × (length now + 1 ≡ n + j) × (length old ≤ length now)

-- one root is left
abbrev pub One : ℕ → Walked → Type 0
One n o = n ≡ 1

pub ends_one : (P : ℕ → Walked → Type 0) → ((n : ℕ) (o : Walked) → P n o → One n o) → (t : Task)
    (n : ℕ) → AllEnds P n t → AllEnds One n t
ends_one P one (Done o) n h = one n o h
ends_one P one (Mark out go) n h = (ends_one P one out n h.0, ends_one P one go n h.1)
ends_one P one (Look q go) n h = λ x. ends_one P one (go x) n (h x)
ends_one P one (Flatten v go) n h = λ x. ends_one P one (go x) n (h x)
ends_one P one (Write q v t) n h = ends_one P one t n h
ends_one P one (Root g t) n h = ends_one P one t (suc n) h
ends_one P one (Drop i go) n h = (h.0, λ x. ends_one P one (go x) (suc i) (h.1 x))
ends_one P one (Need c go) n h = λ x. ends_one P one (go x) n (h x)
ends_one P one (Invoke i go) n h = λ x. ends_one P one (go x) n (h x)

module _ {S : Type 0} (m : Setup S) (t : Option Place) (old : List Held) (n j : ℕ)
    (heard : Answer → World S → Act S)
    (hears : (a : Answer) (w : World S) → Amid t old n j w.roots → Leaves false t old (heard a w)) where
  abbrev Meanwhile : List Held → Type 0
  Meanwhile now = Amid t old n j now

  abbrev Follows : Act S → Type 0
  Follows act = Leaves false t old act

  -- a native that a walk calls
  pub fails_so : (x : Problem) (w : World S) → Meanwhile w.roots → Follows (rules.failed_so m heard x w)
  fails_so x w at =
      fails_or m false t old Meanwhile (heard (Failed NoMemory)) (hears (Failed NoMemory))
      (λ y. heard (Failed y)) (λ y. hears (Failed y)) x w at

  -- what a native wrote that was lent a place, or a function that was called there
  under_place : (u : Option Place) → MayThis t (length old) u → (from now : List Held) →
      Meanwhile from → Stands u from now → Meanwhile now
  under_place u may from now was there = (
    wrote_on t u (length old) old from was.2 may was.0 there.0,
    omega (arith, was.1, there.1),
    omega (arith, was.2, there.1),
  )

  lends_back : (roots : List Held) (o : Option Place) → MayThis t (length old) o →
      LendsBack Meanwhile (lent_at roots o)
  lends_back roots None may = under_place None tt
  lends_back roots (Some q) may = under_place (Some q) may

  pub lends_native : (name : List ℕ) (args : List Held) (e : Frame) (o : Option Place) →
      MayThis t (length old) o → (w : World S) → Meanwhile w.roots →
      Follows (rules.native_or m (heard (Failed NoMemory)) name (lent_at w.roots o) args e w
      (λ v w1. heard (Came v) w1) (rules.failed_so m heard))
  lends_native name args e o may w at =
      natives m false t old Meanwhile (heard (Failed NoMemory)) (hears (Failed NoMemory)) e
      (λ v w1. heard (Came v) w1) (rules.failed_so m heard) (λ v. hears (Came v)) fails_so
      (lent_at w.roots o) (lends_back w.roots o may) name args w at

  pub performs : (k : ℕ) (f : Frame) (c : Call) (o : Option Place) → MayThis t (length old) o →
      (w : World S) → Meanwhile w.roots → Follows (rules.performed m k f c o heard w)
  performs k f c o may w at = by_content (flat_all w.cells (map read_write c.values)) where
    by_content : (hs : Option (List Held)) →
        Follows (rules.needed m k f c (lent_at w.roots o) heard w hs)
    by_content None = fails_so (Plain (DataRace (race_text [])) c.position) w at
    by_content (Some args) =
        lends_native c.name args (at_step m.program k c.step c.position f) o may w at

  -- a function that it calls
  module _ (q : Position) (g : Function) (args : List Held) where
    abbrev Calling : Option Place → List Held → Type 0
    Calling this now = Meanwhile now × (Bound t old → Bound this now)

    under : (this : Option Place) → MayThis t (length old) this → (w : World S) → Meanwhile w.roots →
        (Bound t old → Bound this w.roots) → Follows (rules.function_under m q g args heard this w)
    under this may w at given =
        body_calls m false t old (Calling this) (heard (Failed NoMemory))
        (λ u here. hears (Failed NoMemory) u here.0) (λ x. heard (Failed x))
        (λ x u here. hears (Failed x) u here.0) q g args this (λ from was. was.1)
        (rules.body_over m q g heard)
        (λ from was a u there. over a u (under_place this may from u.roots was.0 there)) w (at, given)
      where
        over : (a : Answer) (u : World S) → Meanwhile u.roots →
            Follows (rules.body_over m q g heard a u)
        over (Came v) u here = hears (Came v) u here
        over (Failed x) u here =
            body_fails m false t old Meanwhile (heard (Failed NoMemory)) (hears (Failed NoMemory))
            (λ y. heard (Failed y)) (λ y. hears (Failed y)) q g x u here

    -- on a copy of what can only be read, which goes afterwards
    abbrev copy_place : World S → Place
    copy_place w = record { root = length w.roots; path = [] }

    abbrev Lent : Held → World S → List Held → Type 0
    Lent h w now = Stands (Some (copy_place w)) (w.roots ++ h ∷ []) now

    copied : (h : Held) (w : World S) → Meanwhile w.roots →
        Follows (rules.function_under m q g args (rules.copy_dropped m (length w.roots) heard)
        (Some (record { root = length w.roots; path = [] })) (record w { roots = w.roots ++ h ∷ [] }))
    copied h w at =
        body_calls m false t old (Lent h w) (quiet (Failed NoMemory)) (dropped (Failed NoMemory))
        (λ x. quiet (Failed x)) (λ x. dropped (Failed x)) q g args (Some place)
        (λ from was given. bound_on (Some place) grown from was (h, found-new w.roots h))
        (rules.body_over m q g quiet)
        (λ from was a u there. over a u (stands_on (Some place) (Some place) grown from u.roots
        (may_own (Some place) (length grown) place refl) was there))
        (record w { roots = grown }) (stands_same (Some place) grown) where
          place : Place
          place = copy_place w

          grown : List Held
          grown = w.roots ++ h ∷ []

          quiet : Answer → World S → Act S
          quiet a u = heard a (record u { roots = take (length w.roots) u.roots })

          dropped : (a : Answer) (u : World S) → Lent h w u.roots → Follows (quiet a u)
          dropped a u there =
              let more : length grown ≡ length w.roots + 1 =
              omega (arith, length-append w.roots (h ∷ [])) in
              let size : length (take (length w.roots) u.roots) ≡ length w.roots =
              omega (arith, length-take (length w.roots) u.roots, there.1, more) in
              hears a (record u { roots = take (length w.roots) u.roots }) (
                cut (length w.roots) at.2
                    (wrote_on t (Some place) (length old) old grown (omega (arith, at.2, more))
                    (may_past t (length old) place at.2) (added h at.0) there.0),
                omega (arith, at.1, size),
                omega (arith, at.2, size),
              )

          over : (a : Answer) (u : World S) → Lent h w u.roots →
              Follows (rules.body_over m q g quiet a u)
          over (Came v) u here = dropped (Came v) u here
          over (Failed x) u here =
              body_fails m false t old (Lent h w) (quiet (Failed NoMemory)) (dropped (Failed NoMemory))
              (λ y. quiet (Failed y)) (λ y. dropped (Failed y)) q g x u here

    pub calls : (o : Option Place) → MayThis t (length old) o → (w : World S) → Meanwhile w.roots →
        (Bound t old → Bound o w.roots) → Follows (rules.function_called m q g args heard o w)
    calls None may w at given = under None tt w at given
    calls (Some p) may w at given =
        by_test Follows (look w.roots p).read_only
        (rules.function_under m q g args (rules.copy_dropped m (length w.roots) heard)
        (Some (record { root = length w.roots; path = [] }))
        (record w { roots = w.roots ++ look w.roots p ∷ [] }))
        (rules.function_under m q g args heard (Some p) w)
        (λ copy. copied (look w.roots p) w at) (λ there. under (Some p) may w at given)

  pub invokes : (k : ℕ) (f : Frame) (i : Invocation) (o : Option Place) → MayThis t (length old) o →
      (method : Method) (w : World S) → Meanwhile w.roots → (Bound t old → Bound o w.roots) →
      Follows (rules.invoked m k f i o heard method w)
  invokes k f i o may (Numbered d) w at given = by_number (function_numbered m.program (Some d)) where
    by_number : (g : Option Function) → Follows (rules.numbered_called m k f i o heard g w)
    by_number None = hears (Came dynamic.Unit) w at
    by_number (Some g) = calls i.position g (map read_write i.values) o may w at given
  invokes k f i o may (Pointed r) w at given =
      by_name (function_by_name m.program r.name (length r.curry + length i.values)) where
        by_name : (g : Option Function) → Follows (rules.pointed_called m k f i o heard r g w)
        by_name None = performs k f (pointed_native i r) o may w at
        by_name (Some g) =
            calls i.position g (curried_in r ++ map read_write i.values) o may w at given

module _ {S : Type 0} (m : Setup S) (t : Option Place) (old : List Held) (k : ℕ) (f : Frame)
    (p : Place) (n : ℕ) (low : length old ≤ n)
    (may : (q : Place) → May t (length old) (placed p n q)) (done : Walked → World S → Act S)
    (over : (o : Walked) (w : World S) → Amid t old n 1 w.roots → Leaves false t old (done o w)) where
  may_lend : (o : Option Place) → MayThis t (length old) (option_map (placed p n) o)
  may_lend None = tt
  may_lend (Some q) = may q

  pub walks_on : (missed : Option (List Fault)) (task : Task) (j : ℕ) → AllEnds One j task →
      (w : World S) → (Bound t old → Binds p n w.roots task) → Amid t old n j w.roots →
      Leaves false t old (rules.walks m k f p n missed task done w)
  walks_on missed (Done o) j h w b at =
      over o w (subst (λ (i : ℕ). Amid t old n i w.roots) h at)
  walks_on missed (Mark out go) j h w b at =
      by_test (Leaves false t old) (is_stop m.stop w.passed) (rules.walks m k f p n missed out done w)
      (rules.walks m k f p n missed go done (record w { passed = w.passed + 1 }))
      (λ stop. walks_on missed out j h.0 w (λ x. (b x).0) at)
      (λ clear. walks_on missed go j h.1 (record w { passed = w.passed + 1 }) (λ x. (b x).1) at)
  walks_on missed (Look q go) j h w b at =
      let r : Held = look w.roots (placed p n q) in walks_on missed (go r) j (h r) w b at
  walks_on missed (Flatten v go) j h w b at =
      let o : Option Dynamic = flat w.cells v in walks_on missed (go o) j (h o) w (λ x. b x o) at
  walks_on missed (Write q v task) j h w b at =
      let r : Place = placed p n q in
      walks_on missed task j h (record w { roots = put w.roots r v }) b (
        set r v (may q) at.0,
        omega (arith, at.1, length-put w.roots r v),
        omega (arith, at.2, length-put w.roots r v),
      )
  walks_on missed (Root g task) j h w b at =
      walks_on missed task (suc j) h (record w { roots = w.roots ++ g ∷ [] }) b (
        added g at.0,
        omega (arith, at.1, length-append w.roots (g ∷ [])),
        omega (arith, at.2, length-append w.roots (g ∷ [])),
      )
  walks_on missed (Drop i go) j h w b at =
      let r : Held = look w.roots (record { root = n + i; path = [] }) in
      let size : length (take (n + i) w.roots) ≡ n + i =
      omega (arith, length-take (n + i) w.roots, at.1, h.0) in
      walks_on missed (go r) (suc i) (h.1 r) (record w { roots = take (n + i) w.roots }) b (
        cut (n + i) (omega (arith, low)) at.0,
        omega (arith, size),
        omega (arith, size, low),
      )
  walks_on missed (Need c go) j h w b at =
      performs m t old n j (λ a w1. rules.walks m k f p n (missed_by a w1.trace) (go a) done
      (record w1 { trace = trace_of missed a w1.trace }))
      (λ a w1 there. walks_on (missed_by a w1.trace) (go a) j (h a)
      (record w1 { trace = trace_of missed a w1.trace })
      (λ x. b x a w1.roots (omega (arith, there.1, at.1))) there) k f c
      (option_map (placed p n) c.receiver) (may_lend c.receiver) (record w { trace = [] }) at
  walks_on missed (Invoke i go) j h w b at =
      invokes m t old n j (λ a w1. rules.walks m k f p n None (go a) done w1)
      (λ a w1 there. walks_on None (go a) j (h a) w1
      (λ x. (b x).1 a w1.roots (omega (arith, there.1, at.1))) there) k f i
      (option_map (placed p n) i.this) (may_lend i.this) i.method (record w { trace = [] }) at
      (λ x. (b x).0)
