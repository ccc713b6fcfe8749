-- The roots of a walk, and the way back over all of them but the first.
use Rattle.std.proofs.Common.{◌≡◌, ◌+◌, ℕ, suc, List, [], ◌∷◌, ◌++◌, Option, Some, Ok, Bool, false, length, map, take, refl, sym, ap, ◌∙◌, subst, arith}
use Rattle.std.specs.Prelude.{slice_get, slice_set}
use Rattle.grain_value.specs.declared.values.Dynamic.{Dynamic}
use Rattle.grain_value.specs.declared.values.Held.{Held}
use Rattle.grain_value.specs.declared.stores.Cell.{Cell}
use Rattle.grain_fault.specs.Problems.{Problem}
use Rattle.grain_value.specs.View.{tree}
use Rattle.grain_value.specs.Paths.{at}
use Rattle.grain_value.specs.declared.values.paths.PathStep.{PathStep}
use Rattle.grain_means.specs.Places.{or_unit, along, look, put, put_held, next_root}
use Rattle.grain_means.specs.Tasks.{Task, Done, WalkEnded, WalkFailed, Root, play, root_after}
use Rattle.grain_means.specs.Walks.{Setting, Rest, Next, Origin, back, set_back, rooted}
use Rattle.grain_chain.specs.declared.origins.OuterRoot.{OuterRoot}
use Rattle.grain_chain.specs.declared.origins.Origin.{Origin as CodeOrigin}
use Rattle.grain_chain.specs.Standings.{oldest}
use Rattle.grain_chain.specs.Walking.{origin_of, outer_root, roots, place_in, way_back, back_over}
use Rattle.grain_chain.specs.OwnWalks.{WalksOn, own}
use Rattle.grain_means.specs.lemmas.PlaceLaws.{ok-along, get-after, set-after, take-after}
use Rattle.grain_value.specs.laws.Same.{value_of-tree}
use Rattle.grain_chain.specs.laws.Joining.{go_on, by_play, passed_by}

length-roots : (os : List OuterRoot) → length (map outer_root os) ≡ length os
length-roots [] = refl
length-roots (o ∷ os) = ap suc (length-roots os)

-- at the walk's place
pub get-here : (os : List OuterRoot) (h : Held) → slice_get (roots os h) (length os) ≡ Some h
get-here os h =
    get-after (map outer_root os) (h ∷ []) (length os) 0 (omega (arith, length-roots os))

pub look-here : (os : List OuterRoot) (h : Held) (v : Dynamic) (path : List PathStep) →
    at path (tree h.value) ≡ Ok (tree v) →
    look (roots os h) (place_in os path) ≡ record h { value = v }
look-here os h v path e =
    ap (λ (o : Option Held). or_unit (along path o)) (get-here os h)
    ∙ ap or_unit (ok-along path h v e)

pub put-here : (os : List OuterRoot) (h : Held) (v : Dynamic) (path : List PathStep) →
    put (roots os h) (place_in os path) v ≡ roots os (put_held path v h)
put-here os h v path =
    ap (λ (o : Option Held). slice_set (roots os h) (length os) (put_held path v (or_unit o)))
    (get-here os h)
    ∙ set-after (map outer_root os) (h ∷ []) (length os) 0 (put_held path v h)
    (omega (arith, length-roots os))

map-snoc : (os : List OuterRoot) (o : OuterRoot) →
    map outer_root (os ++ o ∷ []) ≡ map outer_root os ++ o.root ∷ []
map-snoc [] o = refl
map-snoc (p ∷ os) o = ap (λ (l : List Held). p.root ∷ l) (map-snoc os o)

length-snoc : (os : List OuterRoot) (o : OuterRoot) → length (os ++ o ∷ []) ≡ suc (length os)
length-snoc [] o = refl
length-snoc (p ∷ os) o = ap suc (length-snoc os o)

append-assoc : (xs ys zs : List Held) → (xs ++ ys) ++ zs ≡ xs ++ (ys ++ zs)
append-assoc [] ys zs = refl
append-assoc (x ∷ xs) ys zs = ap (λ (l : List Held). x ∷ l) (append-assoc xs ys zs)

pub roots-snoc : (os : List OuterRoot) (o : OuterRoot) (h : Held) →
    roots (os ++ o ∷ []) h ≡ roots os o.root ++ h ∷ []
roots-snoc os o h = ap (λ (l : List Held). l ++ h ∷ []) (map-snoc os o)

-- the newest root, and what is left without it
length-more : (os : List OuterRoot) (r : Held) → length (roots os r) ≡ suc (length os)
length-more [] r = refl
length-more (o ∷ os) r = ap suc (length-more os r)

look-newest : (os : List OuterRoot) (r h : Held) →
    look (roots os r ++ h ∷ []) (root_after (length os)) ≡ h
look-newest os r h =
    ap (λ (o : Option Held). or_unit (along [] o))
    (get-after (roots os r) (h ∷ []) (suc (length os)) 0 (omega (arith, length-more os r)))
    ∙ ap (λ (v : Dynamic). let k : Held = record h { value = v } in k) (value_of-tree h.value)

take-newest : (os : List OuterRoot) (r h : Held) →
    take (suc (length os)) (roots os r ++ h ∷ []) ≡ roots os r
take-newest [] r h = refl
take-newest (o ∷ os) r h = ap (λ (l : List Held). o.root ∷ l) (take-newest os r h)

module _ (g : Setting) where
  pub way-snoc : (i : ℕ) (os : List OuterRoot) (o : OuterRoot) (done : Rest) →
      way_back g i (os ++ o ∷ []) done ≡ back_over g (i + length os) o (way_back g i os done)
  way-snoc i [] o done = ap (λ (j : ℕ). back_over g j o done) (omega arith)
  way-snoc i (p ∷ os) o done =
      way-snoc (suc i) os o (back_over g i p done)
      ∙ ap (λ (j : ℕ). back_over g j o (way_back g (suc i) os (back_over g i p done))) (omega arith)

  pub way-newest : (os : List OuterRoot) (o : OuterRoot) (done : Rest) →
      way_back g 0 (os ++ o ∷ []) done ≡ back_over g (length os) o (way_back g 0 os done)
  way-newest os o done =
      way-snoc 0 os o done
      ∙ ap (λ (j : ℕ). back_over g j o (way_back g 0 os done)) (omega arith)

  module _ (cells : List Cell) where
    comes : (stop : Option ℕ) (n : ℕ) (o : Origin) (os : List OuterRoot) (path : List PathStep)
        (done : Rest) (u : Dynamic) (changed : Bool) (r h : Held) (k : ℕ) →
        play stop cells (back g n o (place_in os path) done (WalkEnded u changed))
        (own (roots os r ++ h ∷ []) k)
        ≡ play stop cells (set_back g n o (place_in os path) h.value u changed done)
        (own (roots os r) k)
    comes stop n o os path done u changed r h k =
        ap (λ (v : Held). play stop cells (set_back g n o (place_in os path) v.value u changed done)
        (own (take (suc (length os)) (roots os r ++ h ∷ [])) k)) (look-newest os r h)
        ∙ ap (λ (rs : List Held). play stop cells
        (set_back g n o (place_in os path) h.value u changed done) (own rs k)) (take-newest os r h)

    pub popped : (all os : List OuterRoot) (o : OuterRoot) (h : Held) (u : Dynamic) (changed : Bool)
        (k : ℕ) → all ≡ os ++ o ∷ [] →
        WalksOn cells (own (roots all h) k) (way_back g 0 all Done (WalkEnded u changed)) false
        (own (roots os o.root) k)
        (set_back g o.step (origin_of o.origin) (place_in os o.path) h.value u changed (way_back g 0 os Done))
    popped all os o h u changed k e = by_play (λ stop.
        ap (λ (l : List OuterRoot).
        play stop cells (way_back g 0 l Done (WalkEnded u changed)) (own (roots l h) k)) e
        ∙ ap (λ (d : Rest). play stop cells (d (WalkEnded u changed)) (own (roots (os ++ o ∷ []) h) k))
        (way-newest os o Done)
        ∙ ap (λ (rs : List Held). play stop cells
        (back_over g (length os) o (way_back g 0 os Done) (WalkEnded u changed)) (own rs k))
        (roots-snoc os o h)
        ∙ comes stop o.step (origin_of o.origin) os o.path (way_back g 0 os Done) u changed o.root h k) refl

    -- where it did not
    take-all : (xs : List Held) (r : Held) (ys : List Held) (n : ℕ) → n ≡ length xs →
        take (suc n) ((xs ++ r ∷ []) ++ ys) ≡ xs ++ r ∷ []
    take-all xs r ys n e =
        ap (λ (l : List Held). take (suc n) l) (append-assoc xs (r ∷ []) ys)
        ∙ take-after xs (r ∷ ys) (suc n) 1 (omega arith)

    length-last : (xs : List Held) (r : Held) → length (xs ++ r ∷ []) ≡ suc (length xs)
    length-last [] r = refl
    length-last (y ∷ xs) r = ap suc (length-last xs r)

    falls : (stop : Option ℕ) (n : ℕ) (x : Problem) (os : List OuterRoot) (front : List Held) (i : ℕ)
        (done : Rest) (h : Held) (k : ℕ) → i ≡ length front →
        play stop cells (way_back g i os done (WalkFailed n x)) (own (front ++ roots os h) k)
        ≡ play stop cells (done (WalkFailed n x)) (own (front ++ oldest os h ∷ []) k)
    falls stop n x [] front i done h k e = refl
    falls stop n x (o ∷ os) front i done h k e =
        ap (λ (rs : List Held).
        play stop cells (way_back g (suc i) os (back_over g i o done) (WalkFailed n x)) (own rs k))
        (sym (append-assoc front (o.root ∷ []) (roots os h)))
        ∙ falls stop n x os (front ++ o.root ∷ []) (suc i) (back_over g i o done) h k
        (omega (arith, length-last front o.root, e))
        ∙ ap (λ (rs : List Held). play stop cells (done (WalkFailed n x)) (own rs k))
        (take-all front o.root (oldest os h ∷ []) i e)

    pub fell : (n : ℕ) (x : Problem) (os : List OuterRoot) (h r : Held) (k : ℕ) → r ≡ oldest os h →
        WalksOn cells (own (roots os h) k) (way_back g 0 os Done (WalkFailed n x)) false
        (own (r ∷ []) k) (Done (WalkFailed n x))
    fell n x os h r k e = by_play (λ stop.
        falls stop n x os [] 0 Done h k refl
        ∙ ap (λ (d : Held). play stop cells (Done (WalkFailed n x)) (own (d ∷ []) k)) (sym e)) refl

    -- a new root root_after the others
    pub goes_in : (os : List OuterRoot) (h v : Held) (path : List PathStep) (n : ℕ) (o : CodeOrigin)
        (next : Next) (k k2 : ℕ) (items : List OuterRoot) →
        items ≡ os ++ record { root = h; path = path; step = n; origin = o } ∷ [] → k2 ≡ k + 1 →
        WalksOn cells (own (roots os h) k)
        (rooted g n (origin_of o) v next (place_in os path) (way_back g 0 os Done)) false
        (own (roots items v) k2) (next (place_in items []) (way_back g 0 items Done))
    goes_in os h v path n o next k k2 items e m =
        let q : OuterRoot = record { root = h; path = path; step = n; origin = o } in
        let done = way_back g 0 os Done in
        let last : Rest = back g n (origin_of o) (place_in os path) done in
        let all = os ++ q ∷ [] in
        let go : Task = Root v (next (next_root (place_in os path)) last) in
        let begun : WalksOn cells (own (roots os h) k)
        (rooted g n (origin_of o) v next (place_in os path) done) false (own (roots os h) k2) go =
        passed_by n (roots os h) k k2 done go m in
        let made : WalksOn cells (own (roots os h) k2) go false (own (roots all v) k2)
        (next (place_in all []) (way_back g 0 all Done)) = by_play (λ stop.
        ap (λ (rs : List Held). play stop cells (next (next_root (place_in os path)) last) (own rs k2))
        (sym (roots-snoc os q v))
        ∙ ap (λ (i : ℕ). play stop cells (next (record { root = i; path = [] }) last)
        (own (roots all v) k2)) (sym (length-snoc os q))
        ∙ ap (λ (d : Rest). play stop cells (next (place_in all []) d) (own (roots all v) k2))
        (sym (way-newest os q Done))) refl in
        subst (λ (is : List OuterRoot). WalksOn cells (own (roots os h) k)
        (rooted g n (origin_of o) v next (place_in os path) done) false (own (roots is v) k2)
        (next (place_in is []) (way_back g 0 is Done))) (sym e) (go_on begun made tt)
