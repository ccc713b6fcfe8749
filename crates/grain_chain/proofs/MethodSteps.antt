-- Method steps: what they do by their names, and what they give.
use Rattle.std.proofs.Common.{◌≡◌, ℕ, zero, suc, ◌+◌, ◌-◌, ◌<◌, List, [], ◌∷◌, ◌++◌, Bool, true, false, Option, Some, None, Result, Ok, Err, drop, map, take, refl, sym, ap, ◌∙◌, subst, arith, add-one}
use Rattle.std.specs.Prelude.{IfOk, bytes_eq, codes, is_none, is_some, slice_get, slice_index_or, if◌then◌else◌}
use Rattle.grain_value.specs.Cells.{flat}
use Rattle.grain_value.specs.Looking.{cell_of, pointer_of}
use Rattle.grain_value.specs.Operands.{read_write}
use Rattle.grain_value.specs.Tree.{Tree, unit}
use Rattle.grain_value.specs.View.{tree, value_of}
use Rattle.grain_value.specs.Writing.{type_name_of}
use Rattle.grain_value.specs.laws.Same.{tree-value_of}
use Rattle.grain_value.specs.declared.memory.OutOfMemory.{OutOfMemory}
use Rattle.grain_value.specs.declared.values.Dynamic.{Dynamic}
use Rattle.grain_value.specs.declared.values.Dynamic.TheVariants as dynamic
use Rattle.grain_value.specs.declared.values.FnPtr.{FnPtr}
use Rattle.grain_value.specs.declared.values.Held.{Held}
use Rattle.grain_program.specs.Lookups.{method_of}
use Rattle.grain_means.specs.Tasks.{Task, WalkEnded, play}
use Rattle.grain_means.specs.Walks as walks
use Rattle.grain_means.specs.Walks.{OfMethod, asks_shared, at_mark, flat_or_busy, flattening, into_answer, own_pointer, rooted}
use Rattle.grain_chain.specs.OwnWalks.{own}
use Rattle.grain_chain.specs.Standings.{Stands}
use Rattle.grain_chain.specs.Walking.{operand_of, place_of, roots_of}
use Rattle.grain_chain.specs.Going.{Goes, Reaches, Takes, WentIn, lent_place, next_step, rest, setting, stopped}
use Rattle.grain_chain.specs.MethodSteps.{called_method, called_task, call_task, curry_task, asking_task, first_task, gave_task, heard_task, kind_named, kind_task, method_task, operands_of, own_task, step_arguments, step_name, typed_method}
use Rattle.grain_chain.specs.laws.Ways.{look-here}
use Rattle.grain_chain.specs.declared.contexts.Context.{Context}
use Rattle.grain_chain.specs.declared.methods.MethodKind.{MethodKind}
use Rattle.grain_chain.specs.declared.methods.MethodKind.TheVariants as kind
use Rattle.grain_chain.specs.declared.methods.MethodStep.{MethodStep}
use Rattle.grain_chain.specs.declared.origins.Origin.TheVariants as origin
use Rattle.grain_chain.specs.declared.requests.What.{What}
use Rattle.grain_chain.specs.declared.requests.What.TheVariants as what
use Rattle.grain_chain.specs.declared.requests.WalkAnswer.{WalkAnswer}
use Rattle.grain_chain.specs.declared.walks.Walk.{Walk}
use Rattle.grain_chain.proofs.Asks.{calling}
use Rattle.grain_chain.proofs.Halting.{Halts, then_halts}
use Rattle.grain_chain.proofs.Roots.{roots_in}
use Rattle.grain_chain.proofs.Stepping.{under}
use Rattle.grain_chain.proofs.Strides.{flattens, halts, marked, passes, stops_takes, then_goes, then_takes}
use Rattle.grain_chain.proofs.Tails.{goes_flat}

-- one operand more
one_more_operand : (ts : List Tree) (first i j : ℕ) (t : Tree) → j ≡ first + i →
    slice_get ts j ≡ Some t → take (suc i) (drop first ts) ≡ take i (drop first ts) ++ t ∷ []
one_more_operand [] first i j t at h = cc
one_more_operand (x ∷ ts) zero zero zero t at h = let e : x ≡ t = cc in ap (λ (y : Tree). y ∷ []) e
one_more_operand (x ∷ ts) zero zero (suc j) t at h = absurd (omega (arith, at))
one_more_operand (x ∷ ts) zero (suc i) zero t at h = absurd (omega (arith, at))
one_more_operand (x ∷ ts) zero (suc i) (suc j) t at h =
    ap (λ (l : List Tree). x ∷ l) (one_more_operand ts zero i j t (omega (arith, at)) h)
one_more_operand (x ∷ ts) (suc first) i zero t at h = absurd (omega (arith, at))
one_more_operand (x ∷ ts) (suc first) i (suc j) t at h =
    one_more_operand ts first i j t (omega (arith, at)) h

-- the first of these operands, and that there is none
first_from : (ts : List Tree) (first n less after : ℕ) → less ≡ n - 1 → after ≡ first + 1 →
    is_none (slice_get (take n (drop first ts)) 0) ≡ false →
    take n (drop first ts) ≡ slice_index_or ts first unit ∷ take less (drop after ts)
first_from [] zero zero less after l a has = cc
first_from [] zero (suc n) less after l a has = cc
first_from [] (suc first) zero less after l a has = cc
first_from [] (suc first) (suc n) less after l a has = cc
first_from (t ∷ ts) zero zero less after l a has = cc
first_from (t ∷ ts) zero (suc n) less zero l a has = absurd (omega (arith, a))
first_from (t ∷ ts) zero (suc n) less (suc zero) l a has =
    ap (λ (m : ℕ). t ∷ take m ts) (omega (arith, l))
first_from (t ∷ ts) zero (suc n) less (suc (suc after)) l a has = absurd (omega (arith, a))
first_from (t ∷ ts) (suc first) n less zero l a has = absurd (omega (arith, a))
first_from (t ∷ ts) (suc first) n less (suc after) l a has =
    first_from ts first n less after l (omega (arith, a)) has

pub first_of : (ts : List Tree) (first n : ℕ) →
    is_none (slice_get (take n (drop first ts)) 0) ≡ false →
    take n (drop first ts) ≡ slice_index_or ts first unit ∷ take (n - 1) (drop (first + 1) ts)
first_of ts first n has = first_from ts first n (n - 1) (first + 1) refl refl has

pub none_first : (ts : List Tree) → is_none (slice_get ts 0) ≡ true → ts ≡ []
none_first [] has = refl
none_first (t ∷ ts) has = cc

pub has_some : (ts : List Tree) (first n : ℕ) →
    is_none (slice_get (take n (drop first ts)) 0) ≡ false → 0 < n
has_some [] zero zero has = cc
has_some [] zero (suc n) has = cc
has_some [] (suc first) zero has = cc
has_some [] (suc first) (suc n) has = cc
has_some (t ∷ ts) zero zero has = cc
has_some (t ∷ ts) zero (suc n) has = omega arith
has_some (t ∷ ts) (suc first) n has = has_some ts first n has

pub some_first : (ts : List Tree) (first n : ℕ) → 0 < n →
    is_none (slice_get (take n (drop first ts)) 0) ≡ is_none (slice_get ts first)
some_first [] zero zero h = absurd (omega (arith, h))
some_first [] zero (suc n) h = refl
some_first [] (suc first) zero h = absurd (omega (arith, h))
some_first [] (suc first) (suc n) h = refl
some_first (t ∷ ts) zero zero h = absurd (omega (arith, h))
some_first (t ∷ ts) zero (suc n) h = refl
some_first (t ∷ ts) (suc first) n h = some_first ts first n h

-- operands after others
pub none_after : (before : List Tree) → before ≡ before ++ []
none_after [] = refl
none_after (t ∷ ts) = ap (λ (l : List Tree). t ∷ l) (none_after ts)

after_others : (xs ys zs : List Tree) → (xs ++ ys) ++ zs ≡ xs ++ (ys ++ zs)
after_others [] ys zs = refl
after_others (t ∷ xs) ys zs = ap (λ (l : List Tree). t ∷ l) (after_others xs ys zs)

pub one_more_copied : (before now ts : List Tree) (first i : ℕ) (t : Tree) →
    now ≡ before ++ take i (drop first ts) → slice_get ts (first + i) ≡ Some t →
    now ++ t ∷ [] ≡ before ++ take (i + 1) (drop first ts)
one_more_copied before now ts first i t so_far found =
    ap (λ (l : List Tree). l ++ t ∷ []) so_far ∙ after_others before (take i (drop first ts)) (t ∷ [])
    ∙ ap (λ (l : List Tree). before ++ l)
    (sym (one_more_operand ts first i (first + i) t refl found))
    ∙ ap (λ (n : ℕ). before ++ take n (drop first ts)) (sym (add-one i))

-- what follows from what a call gave
pub if_ok_then : (r : Result What OutOfMemory) (P Q : What → Type 0) →
    ((a : What) → P a → Q a) → IfOk r P → IfOk r Q
if_ok_then (Ok a) P Q f h = f a h
if_ok_then (Err o) P Q f h = tt

-- as trees again
pub same_trees : (ts : List Tree) → map (λ v. tree v) (map value_of ts) ≡ ts
same_trees [] = refl
same_trees (t ∷ ts) =
    ap (λ (u : Tree). u ∷ map (λ v. tree v) (map value_of ts)) (tree-value_of t)
    ∙ ap (λ (l : List Tree). t ∷ l) (same_trees ts)

module _ (x : Context) (w : Walk) (s : MethodStep) where
  by_kind : (a b c : Bool) (d : Dynamic) →
      (if a then gave_task x w s (dynamic.Bool (is_some (cell_of d)))
      else (if b then call_task x w s (pointer_of d) d
      else (if c then curry_task x w s (pointer_of d) d
      else own_task x w s (own_pointer (step_name x w s) d) d)))
      ≡ kind_task x w s (if a then kind.IsShared
      else (if b then kind.Call else (if c then kind.Curry else kind.Method))) d
  by_kind true b c d = refl
  by_kind false true c d = refl
  by_kind false false true d = refl
  by_kind false false false d = refl

  -- a method step begins, by what it does
  pub method_begins : (v : Walk) (d : Dynamic) (k : MethodKind)
      (r : Result (Option WalkAnswer) OutOfMemory) → Stands w.trail d →
      k ≡ kind_named (step_name x w s) s.argc →
      Takes x w (at_mark w.step (rest x w) (kind_task x w s k d)) r v →
      Takes x w (at_mark w.step (rest x w) (method_task x w s)) r v
  method_begins v d k r stands is g =
      then_takes x w v _ (at_mark w.step (rest x w) (kind_task x w s k d)) r
      (under x w (method_task x w s) (kind_task x w s k d) (λ stop n.
      ap (λ (h : Held). play stop x.cells.now
      (walks.method_at (setting x w) w.step s.pos (step_arguments x w s) s.last (next_step x w)
      (place_of w) (rest x w) s.name s.argc (step_name x w s) h) (own (roots_of w) n))
      (look-here w.trail.outer w.trail.here d w.trail.path stands)
      ∙ ap (λ (t : Task). play stop x.cells.now t (own (roots_of w) n))
      (by_kind (asks_shared (step_name x w s) s.argc) (bytes_eq (step_name x w s) (codes "call"))
      (bytes_eq (step_name x w s) (codes "curry")) d
      ∙ ap (λ (q : MethodKind). kind_task x w s q d) (sym is)))) g

  -- a value that the step gives, as the chain's own value or not
  abbrev giving_so : Dynamic → Bool → Task
  giving_so value own =
      into_answer (setting x w) w.step s.pos own OfMethod (next_step x w) (place_of w) (rest x w) value

  pub gives_own : (v : Walk) (value : Dynamic) (r : Result WalkAnswer OutOfMemory)
      (q : Result (Option WalkAnswer) OutOfMemory) → s.last ≡ true → q ≡ stopped r →
      Goes x w (rest x w (WalkEnded value true)) r v → Takes x w (gave_task x w s value) q v
  gives_own v value r q last is g =
      subst (λ (b : Bool). Takes x w (giving_so value b) q v) (sym last)
      (stops_takes x w v (rest x w (WalkEnded value true)) r q is g)

  abbrev into_root : Dynamic → Task
  into_root u =
      rooted (setting x w) w.step OfMethod (read_write u) (next_step x w) (place_of w) (rest x w)

  reads_flat : (value : Dynamic) → flat x.cells.now value ≡ Some value →
      Reaches x w (giving_so value false) false (roots_of w) w.marks (into_root value)
  reads_flat value plain =
      subst (λ (o : Option Dynamic). Reaches x w (giving_so value false) false (roots_of w) w.marks
      (flat_or_busy w.step s.pos (rest x w) into_root o)) plain
      (flattens x w value (flat_or_busy w.step s.pos (rest x w) into_root))

  pub gives_root : (v : Walk) (value : Dynamic) → s.last ≡ false →
      flat x.cells.now value ≡ Some value → WentIn w origin.Method (read_write value) v →
      Takes x w (gave_task x w s value) (Ok None) v
  gives_root v value last plain went =
      subst (λ (b : Bool). Takes x w (giving_so value b) (Ok None) v) (sym last)
      (then_takes x w v (giving_so value false) (into_root value) (Ok None) (reads_flat value plain)
      (roots_in x w v origin.Method (read_write value) went))

  pub gives_halts : (value : Dynamic) → s.last ≡ false → flat x.cells.now value ≡ Some value →
      Halts x w (gave_task x w s value)
  gives_halts value last plain =
      subst (λ (b : Bool). Halts x w (giving_so value b)) (sym last)
      (then_halts x w (giving_so value false) (into_root value) (reads_flat value plain)
      (halts x w _))

  -- what a method step calls at a value
  pub own_asks : (d : Dynamic) (o : Option FnPtr) →
      own_task x w s o d
      ≡ asking_task x w s (called_method x.program.now s.name s.argc d o) (Some (place_of w))
      (step_arguments x w s)
  own_asks d (Some f) = refl
  own_asks d None = by_type (method_of x.program.now s.name s.argc (type_name_of d)) where
    by_type : (n : Option ℕ) →
        walks.by_method (setting x w) w.step s.pos (step_arguments x w s) s.last (next_step x w)
        (place_of w) (rest x w) n (step_name x w s)
        ≡ asking_task x w s (typed_method x.program.now s.name n) (Some (place_of w))
        (step_arguments x w s)
    by_type None = refl
    by_type (Some i) = refl

  -- a call is asked for
  pub calls : (call : What) (b : Bool) (args : List Tree) →
      at_mark w.step (rest x w) (calling w s.pos call b args (heard_task x w s))
      ≡ asking_task x w s call (lent_place w b) (map value_of args)
  calls (what.Native name) b args = refl
  calls (what.Compiled n) b args = refl
  calls (what.Pointer f) b args = refl

  -- the same a mark later
  pub marked_asks : (call : What) (b : Bool) →
      asking_task x (marked w) s call (lent_place (marked w) b) (step_arguments x (marked w) s)
      ≡ asking_task x w s call (lent_place w b) (step_arguments x w s)
  marked_asks (what.Native name) false = refl
  marked_asks (what.Native name) true = refl
  marked_asks (what.Compiled n) false = refl
  marked_asks (what.Compiled n) true = refl
  marked_asks (what.Pointer f) false = refl
  marked_asks (what.Pointer f) true = refl

  -- `call` asks whether its first argument is a pointer, as it is read
  abbrev first_read : Walk → Option Dynamic → Task
  first_read u o =
      flat_or_busy u.step s.pos (rest x u)
      (λ a. first_task x u s (pointer_of a) a
      (map value_of (operands_of u (s.operand + 1) (s.argc - 1)))) o

  pub first_goes : (d : Dynamic) (o : Option Dynamic) (w1 v : Walk)
      (r : Result WalkAnswer OutOfMemory) →
      is_none (slice_get (operands_of w s.operand s.argc) 0) ≡ false → w1 ≡ marked w →
      o ≡ flat x.cells.now (operand_of w s.operand) → Goes x w1 (first_read w1 o) r v →
      Goes x w (at_mark w.step (rest x w) (called_task x w s d (step_arguments x w s))) r v
  first_goes d o w1 v r has passed same g =
      let m = marked w in
      let go : Dynamic → Task = λ a. first_task x m s (pointer_of a) a
      (map value_of (operands_of m (s.operand + 1) (s.argc - 1))) in
      let here : Goes x m (first_read m o) r v =
      subst (λ (u : Walk). Goes x u (first_read u o) r v) passed g in
      let task : Task = flattening w.step s.pos (operand_of w s.operand) (rest x w) go in
      subst (λ (l : List Tree). Goes x w
      (at_mark w.step (rest x w) (called_task x w s d (map value_of l))) r v)
      (sym (first_of w.operands s.operand s.argc has))
      (then_goes x w m v (at_mark w.step (rest x w) task) task r (passes x w task)
      (goes_flat x m v s.pos (operand_of w s.operand) go o r same here))
