-- A walk that asks for a call.
use Rattle.std.proofs.Common.{◌≡◌, ℕ, ◌+◌, ◌<◌, List, [], ◌∷◌, Bool, true, false, Option, Some, None, Result, Ok, Err, length, map, is_ok, is_some, refl, sym, ap, ◌∙◌, subst}
use Rattle.grain_value.specs.Tree.{Tree}
use Rattle.grain_value.specs.View.{tree, value_of}
use Rattle.grain_value.specs.Paths.{at, Leads}
use Rattle.grain_value.specs.declared.memory.OutOfMemory.{OutOfMemory}
use Rattle.grain_value.specs.declared.values.Dynamic.{Dynamic}
use Rattle.grain_value.specs.declared.values.Held.{Held}
use Rattle.grain_fault.specs.declared.places.Position.{Position}
use Rattle.grain_program.specs.View.{View}
use Rattle.grain_means.specs.Places.{put}
use Rattle.grain_means.specs.Worlds.{Answer, Place}
use Rattle.grain_means.specs.Tasks.{Task, Call, Invocation, Method, Numbered, Pointed, Need, Invoke, play}
use Rattle.grain_means.specs.Walks.{asking, at_mark}
use Rattle.grain_means.specs.lemmas.PlaceLaws.{ok-along, put-along}
use Rattle.grain_value.specs.laws.Same.{value_of-tree}
use Rattle.grain_chain.specs.OwnWalks.{WalksOn, own}
use Rattle.grain_chain.specs.Standings.{Stands}
use Rattle.grain_chain.specs.Walking.{roots, roots_of, place_of, roots_at, with_receiver, left_to_do, lent, task_for, resumed, lends, CanCall, IsAtStep, still, Falls}
use Rattle.grain_chain.specs.Going.{Goes, Needs, Asked, AskedFor, IsRequest, Lends, lent_place, rest}
use Rattle.grain_chain.specs.laws.Joining.{go_on, by_play}
use Rattle.grain_chain.specs.laws.Ways.{put-here}
use Rattle.grain_chain.specs.declared.contexts.Context.{Context}
use Rattle.grain_chain.specs.declared.origins.Awaited.{Awaited}
use Rattle.grain_chain.specs.declared.requests.Request.{Request}
use Rattle.grain_chain.specs.declared.requests.What.{What}
use Rattle.grain_chain.specs.declared.requests.What.TheVariants as what
use Rattle.grain_chain.specs.declared.requests.WalkAnswer.{WalkAnswer}
use Rattle.grain_chain.specs.declared.requests.WalkAnswer.TheVariants as answer
use Rattle.grain_chain.specs.declared.walks.Walk.{Walk}
use Rattle.grain_chain.proofs.Strides.{halts, passes}

-- what stands there may be put there
same_here : (w : Walk) (v : Dynamic) → Stands w.trail v → put (roots_of w) (place_of w) v ≡ roots_of w
same_here w v e =
    put-here w.trail.outer w.trail.here v w.trail.path
    ∙ ap (roots w.trail.outer)
    (put-along w.trail.path w.trail.here (record w.trail.here { value = v })
    (ok-along w.trail.path w.trail.here v e))

-- a receiver is where it was lent
lent_roots : (w : Walk) (b : Bool) (o : Option Held) → Lends w b o → with_receiver w o ≡ roots_of w
lent_roots w false None h = refl
lent_roots w false (Some a) h = absurd h
lent_roots w true None h = absurd h
lent_roots w true (Some a) h = same_here w a.value h.0

-- a call of the present step, with these arguments
abbrev native_called : Walk → Position → List ℕ → Bool → List Tree → Call
native_called w q name b args = record {
  step = w.step;
  position = q;
  name = name;
  receiver = lent_place w b;
  values = map value_of args;
}

abbrev function_called : Walk → Position → Method → Bool → List Tree → Invocation
function_called w q f b args = record {
  step = w.step;
  position = q;
  method = f;
  this = lent_place w b;
  values = map value_of args;
}

-- that call is asked for
abbrev pub calling : Walk → Position → What → Bool → List Tree → (Answer → Task) → Task
calling w q (what.Native name) b args heard = Need (native_called w q name b args) heard
calling w q (what.Compiled n) b args heard = Invoke (function_called w q (Numbered n) b args) heard
calling w q (what.Pointer f) b args heard = Invoke (function_called w q (Pointed f) b args) heard

-- the walk that waits
abbrev waiting : Walk → Awaited → Walk
waiting w s = record w { awaits = s; marks = w.marks + 1 }

module _ (x : Context) where
  -- the place that is lent with a request
  same_place : (w : Walk) (b : Bool) (o : Option Held) → Lends w b o → lent w o ≡ lent_place w b
  same_place w false None h = refl
  same_place w false (Some a) h = absurd h
  same_place w true None h = absurd h
  same_place w true (Some a) h = refl

  -- what a request asks for
  made : (w : Walk) (q : Position) (call : What) (b : Bool) (o : Option Held) (args : List Tree)
      (heard : Answer → Task) → Lends w b o →
      task_for call (record {
        step = w.step;
        pos = q;
        what = call;
        receiver = o;
        arguments = args;
      }) (lent w o) heard ≡ calling w q call b args heard
  made w q (what.Native name) b o args heard h =
      ap (λ (p : Option Place). Need (record {
        step = w.step;
        position = q;
        name = name;
        receiver = p;
        values = map value_of args;
      }) heard) (same_place w b o h)
  made w q (what.Compiled n) b o args heard h =
      ap (λ (p : Option Place). Invoke (record {
        step = w.step;
        position = q;
        method = Numbered n;
        this = p;
        values = map value_of args;
      }) heard) (same_place w b o h)
  made w q (what.Pointer f) b o args heard h =
      ap (λ (p : Option Place). Invoke (record {
        step = w.step;
        position = q;
        method = Pointed f;
        this = p;
        values = map value_of args;
      }) heard) (same_place w b o h)

  request_made : (w : Walk) (q : Position) (call : What) (b : Bool) (args : List Tree)
      (heard : Answer → Task) (r : Request) → IsRequest w q call b args r →
      task_for r.what r (lent w r.receiver) heard ≡ calling w q call b args heard
  request_made w q call b args heard r is =
      let at : Request → Task = λ u. task_for u.what u (lent w u.receiver) heard in
      ap (λ (n : ℕ). at (record r { step = n })) is.step
      ∙ ap (λ (n : Position). at (record r { step = w.step; pos = n })) is.pos
      ∙ ap (λ (n : What). at (record r { step = w.step; pos = q; what = n })) is.what
      ∙ ap (λ (n : List Tree). at
      (record r { step = w.step; pos = q; what = call; arguments = n })) is.arguments
      ∙ made w q call b r.receiver args heard is.receiver

  waits_for : (w : Walk) (q : Position) (call : What) (args : List Tree) (s : Awaited)
      (r : Request) → IsRequest w q call (lends s) args r →
      Goes x w (at_mark w.step (rest x w) (calling w q call (lends s) args
      (resumed x.engine.now x.program.now w s))) (Ok (answer.Need r)) (waiting w s)
  waits_for w q call args s r is = λ k.
      let v : Walk = waiting w s in
      let heard : Answer → Task = resumed x.engine.now x.program.now w s in
      let go : Task = calling w q call (lends s) args heard in
      let last : Task = left_to_do x.engine.now x.program.now v (answer.Need r) in
      let two : WalksOn x.cells.now (own (roots_of w) (k + v.marks)) go false
      (own (roots_at v (answer.Need r)) (k + v.marks)) last =
      by_play (λ stop.
      ap (λ (t : Task). play stop x.cells.now t (own (roots_of w) (k + v.marks)))
      (sym (request_made w q call (lends s) args heard r is))
      ∙ ap (λ (rs : List Held). play stop x.cells.now last (own rs (k + v.marks)))
      (sym (lent_roots w (lends s) r.receiver is.receiver))) refl in
      go_on (passes x w go k) two tt

  -- what is asked for is what the rule asks for
  pub asks_for : (w v : Walk) (q : Position) (call : What) (args : List Tree) (s : Awaited)
      (r : Result WalkAnswer OutOfMemory) → AskedFor w q call args s r v →
      Goes x w (at_mark w.step (rest x w) (calling w q call (lends s) args
      (resumed x.engine.now x.program.now w s))) r v
  asks_for w v q call args s (Ok (answer.Need r)) h =
      subst (λ (u : Walk). Goes x w (at_mark w.step (rest x w) (calling w q call (lends s) args
      (resumed x.engine.now x.program.now w s))) (Ok (answer.Need r)) u) (sym h.1)
      (waits_for w q call args s r h.0)
  asks_for w v q call args s (Ok (answer.Ended u changed)) h = absurd h
  asks_for w v q call args s (Ok (answer.Faulted y n)) h = absurd h
  asks_for w v q call args s (Err o) h =
      subst (λ (u : Walk). Goes x w (at_mark w.step (rest x w) (calling w q call (lends s) args
      (resumed x.engine.now x.program.now w s))) (Err o) u) (sym h) (halts x w _)

  pub asks : (w v : Walk) (q : Position) (name : List ℕ) (args : List Tree) (s : Awaited)
      (r : Result WalkAnswer OutOfMemory) → Asked w q name args s r v →
      Goes x w (asking w.step q name (lent_place w (lends s)) (map value_of args) (rest x w)
      (resumed x.engine.now x.program.now w s)) r v
  asks w v q name args s r h = asks_for w v q (what.Native name) args s r h

lent_leads : (w : Walk) (b : Bool) (o : Option Held) → Lends w b o → b ≡ true →
    Leads w.trail.path (tree w.trail.here.value)
lent_leads w false o h e = cc
lent_leads w true None h e = absurd h
lent_leads w true (Some a) h e = ap is_ok h.0

lent_is : (w : Walk) (b : Bool) (o : Option Held) → Lends w b o → is_some o ≡ b
lent_is w false None h = refl
lent_is w false (Some a) h = absurd h
lent_is w true None h = absurd h
lent_is w true (Some a) h = refl

lent_flag : (w : Walk) (b : Bool) (o : Option Held) → Lends w b o → (h : Held) → o ≡ Some h →
    h.read_only ≡ w.trail.here.read_only
lent_flag w false None l h e = cc
lent_flag w false (Some a) l h e = absurd l
lent_flag w true None l h e = absurd l
lent_flag w true (Some a) l h e = let same : a ≡ h = cc in ap (λ (g : Held). g.read_only) (sym same) ∙ l.1

-- what a request asks for can be called, if what the walk was to ask for can
can_call : (p : View) (w : Walk) (q : Position) (call : What) (b : Bool) (args : List Tree)
    (r : Request) → IsRequest w q call b args r → CanCall p call (length args) →
    CanCall p r.what (length r.arguments)
can_call p w q call b args r is can =
    subst (λ (n : What). CanCall p n (length r.arguments)) (sym is.what)
    (subst (λ (l : List Tree). CanCall p call (length l)) (sym is.arguments) can)

-- the walk then waits, and needs less
pub asks_for_less : (p : View) (w v : Walk) (q : Position) (call : What) (args : List Tree)
    (s : Awaited) (r : Result WalkAnswer OutOfMemory) (n : ℕ) → AskedFor w q call args s r v →
    IsAtStep p (waiting w s) s → still p (waiting w s) s < n → CanCall p call (length args) →
    Needs p v r n
asks_for_less p w v q call args s (Ok (answer.Need r)) n h at less can =
    subst (λ (u : Walk). Falls p u (answer.Need r) n) (sym h.1) (
      record {
        leads = lent_leads w (lends s) r.receiver h.0.receiver;
        step = at;
        lent = lent_is w (lends s) r.receiver h.0.receiver;
        flag = lent_flag w (lends s) r.receiver h.0.receiver;
      },
      less,
      can_call p w q call (lends s) args r h.0 can,
    )
asks_for_less p w v q call args s (Ok (answer.Ended u changed)) n h at less can = absurd h
asks_for_less p w v q call args s (Ok (answer.Faulted y k)) n h at less can = absurd h
asks_for_less p w v q call args s (Err o) n h at less can = tt

pub asks_less : (p : View) (w v : Walk) (q : Position) (name : List ℕ) (args : List Tree)
    (s : Awaited) (r : Result WalkAnswer OutOfMemory) (n : ℕ) → Asked w q name args s r v →
    IsAtStep p (waiting w s) s → still p (waiting w s) s < n → Needs p v r n
asks_less p w v q name args s r n h at less =
    asks_for_less p w v q (what.Native name) args s r n h at less tt

-- the arguments of a request
pub one_of : (args : List Tree) (i : Dynamic) → args ≡ tree i ∷ [] → map value_of args ≡ i ∷ []
one_of args i e = ap (map value_of) e ∙ ap (λ (d : Dynamic). d ∷ []) (value_of-tree i)

pub two_of : (args : List Tree) (i d : Dynamic) → args ≡ tree i ∷ tree d ∷ [] →
    map value_of args ≡ i ∷ d ∷ []
two_of args i d e =
    ap (map value_of) e ∙ ap (λ (a : Dynamic). a ∷ value_of (tree d) ∷ []) (value_of-tree i)
    ∙ ap (λ (a : Dynamic). i ∷ a ∷ []) (value_of-tree d)

pub none_of : (args : List Tree) → args ≡ [] → map value_of args ≡ []
none_of args e = ap (map value_of) e

-- a request of this name and with these arguments
pub asks_with : (x : Context) (w v : Walk) (q : Position) (n name : List ℕ) (args : List Tree)
    (values : List Dynamic) (s : Awaited) (r : Result WalkAnswer OutOfMemory) → n ≡ name →
    map value_of args ≡ values → Asked w q n args s r v →
    Goes x w (asking w.step q name (lent_place w (lends s)) values (rest x w)
    (resumed x.engine.now x.program.now w s)) r v
asks_with x w v q n name args values s r e f h =
    subst (λ (l : List Dynamic). Goes x w (asking w.step q name (lent_place w (lends s)) l (rest x w)
    (resumed x.engine.now x.program.now w s)) r v) f
    (subst (λ (m : List ℕ). Goes x w (asking w.step q m (lent_place w (lends s)) (map value_of args)
    (rest x w) (resumed x.engine.now x.program.now w s)) r v) e (asks x w v q n args s r h))
