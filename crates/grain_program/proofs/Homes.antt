-- The home of a switch tells whether a chunk has all its targets.
use Rattle.std.proofs.Common.{◌≡◌, ℕ, zero, suc, ◌<◌, ◌==◌, ◌&&◌, Bool, true, false, cond, List, [], ◌∷◌, ◌++◌, map, Option, Some, None, refl, sym, ap, ◌∙◌, arith}
use Rattle.std.specs.Prelude.{slice_get}
use Rattle.std.proofs.lemmas.Bool.{eqb-true, ne_eqb}
use Rattle.grain_program.specs.declared.verifier.owners.Owner.{Owner}
use Rattle.grain_program.specs.declared.code.switches.Switch.{Switch}
use Rattle.grain_program.specs.Switches.{case_targets, range_targets, targets_in, targets_if}
use Rattle.grain_program.specs.Owners.{owner_at, owns_all, home_of}

and_assoc : (a b c : Bool) → (a && (b && c)) ≡ ((a && b) && c)
and_assoc true b c = refl
and_assoc false b c = refl

-- addresses are owned where both parts of them are
both_parts : (owners : List Owner) (end : ℕ) (xs ys : List ℕ)
    → owns_all owners end (xs ++ ys) ≡ (owns_all owners end xs && owns_all owners end ys)
both_parts owners end [] ys = refl
both_parts owners end (x ∷ xs) ys =
    ap (λ (b : Bool). ((owner_at owners x).end == end) && b) (both_parts owners end xs ys)
    ∙ and_assoc ((owner_at owners x).end == end) (owns_all owners end xs)
    (owns_all owners end ys)

module _ (owners : List Owner) (end : ℕ) (some : 0 < end) where
  -- the targets of a switch, part by part
  parts_owned : (s : Switch) → owns_all owners end (targets_in s)
      ≡ (owns_all owners end (case_targets s.cases)
      && (owns_all owners end (range_targets s.ranges)
      && (((owner_at owners s.default).end == end) && true)))
  parts_owned s =
      both_parts owners end (case_targets s.cases) (range_targets s.ranges ++ s.default ∷ [])
      ∙ ap (λ (b : Bool). owns_all owners end (case_targets s.cases) && b)
      (both_parts owners end (range_targets s.ranges) (s.default ∷ []))

  home_tells : (s : Switch) → (home_of owners s == end) ≡ owns_all owners end (targets_in s)
  home_tells s = at (d == end) refl ∙ sym (parts_owned s) where
    d : ℕ
    d = (owner_at owners s.default).end

    cases_at : ℕ → Bool
    cases_at n = owns_all owners n (case_targets s.cases)

    ranges_at : ℕ → Bool
    ranges_at n = owns_all owners n (range_targets s.ranges)

    no_home : (0 == end) ≡ false
    no_home = ne_eqb 0 end (λ z. omega (arith, some, z))

    mine : (x y : Bool) → (d == end) ≡ true
        → (cond (x && y) d 0 == end) ≡ (x && (y && (true && true)))
    mine true true e = e
    mine true false e = no_home
    mine false y e = no_home

    other : (x y : Bool) → (d == end) ≡ false → (cond (x && y) d 0 == end) ≡ false
    other true true e = e
    other true false e = no_home
    other false y e = no_home

    never : (x y : Bool) → false ≡ (x && (y && (false && true)))
    never true true = refl
    never true false = refl
    never false y = refl

    at : (q : Bool) → (d == end) ≡ q → (home_of owners s == end)
        ≡ (cases_at end && (ranges_at end && ((d == end) && true)))
    at true e =
        mine (cases_at d) (ranges_at d) e
        ∙ ap (λ (n : ℕ). cases_at n && (ranges_at n && (true && true))) (eqb-true d end e)
        ∙ ap (λ (b : Bool). cases_at end && (ranges_at end && (b && true))) (sym e)
    at false e =
        other (cases_at d) (ranges_at d) e ∙ never (cases_at end) (ranges_at end)
        ∙ ap (λ (b : Bool). cases_at end && (ranges_at end && (b && true))) (sym e)

  -- what is told by the home of a switch, if there is one
  abbrev by_home : Option ℕ → Bool
  by_home None = true
  by_home (Some home) = home == end

  homes_tell : (switches : List Switch) (index : ℕ)
      → by_home (slice_get (map (home_of owners) switches) index)
      ≡ owns_all owners end (targets_if (slice_get switches index))
  homes_tell [] index = refl
  homes_tell (s ∷ ss) zero = home_tells s
  homes_tell (s ∷ ss) (suc index) = homes_tell ss index

  -- the same, of the homes as the code has them
  pub told : (homes : List ℕ) (switches : List Switch) (index home : ℕ)
      → homes ≡ map (home_of owners) switches → slice_get homes index ≡ Some home
      → (home == end) ≡ owns_all owners end (targets_if (slice_get switches index))
  told homes switches index home e k =
      ap by_home (sym k ∙ ap (λ (l : List ℕ). slice_get l index) e) ∙ homes_tell switches index

  pub none_told : (homes : List ℕ) (switches : List Switch) (index : ℕ)
      → homes ≡ map (home_of owners) switches → slice_get homes index ≡ None
      → true ≡ owns_all owners end (targets_if (slice_get switches index))
  none_told homes switches index e k =
      ap by_home (sym k ∙ ap (λ (l : List ℕ). slice_get l index) e) ∙ homes_tell switches index
