-- The ways of a walk from its beginning on: what follows from each of them, marks, values that are read,
-- and calls.
use Rattle.std.proofs.Common.{◌≡◌, ◌+◌, ℕ, Bool, true, false, List, [], ◌∷◌, ◌++◌, Option, Some, None, take, refl, inl, inr}
use Rattle.grain_value.specs.Cells.{flat}
use Rattle.grain_value.specs.declared.values.Dynamic.{Dynamic}
use Rattle.grain_value.specs.declared.values.Held.{Held}
use Rattle.grain_fault.specs.Absences.{is_dot_expr, is_indexing_type}
use Rattle.grain_fault.specs.Classes.{catchable}
use Rattle.grain_fault.specs.Problems.{Problem, Plain, DataRace, NoMemory}
use Rattle.grain_fault.specs.declared.places.Position.{Position}
use Rattle.grain_fault.specs.declared.traces.Fault.{Fault}
use Rattle.grain_means.specs.Worlds.{is_stop, Answer, Came, Failed, Place, Setup, World}
use Rattle.grain_means.specs.Places.{look, put}
use Rattle.grain_means.specs.Rules.{Receiver, race_text}
use Rattle.grain_means.specs.Tasks.{Call, Invocation, Method, Task, Done, Mark, Look, Flatten, Write, Root, Drop, Need, Invoke, WalkEnded, WalkFailed}
use Rattle.grain_means.specs.Walks as walks
use Rattle.grain_means.specs.Walks.{Rest, Next, at_mark, failing, flat_or_busy, flattening}
use Rattle.grain_means.specs.Causes.Spots.{ChainWalk, WalksTo, here, marked, looked, read, wrote, added, dropped, heard, returned, past, untraced, CallEnds, IsReason, InvocationEnds, Falls, ComesTo, WalkRow, CallFails, lent_for, under_for, world_of}

module _ {S : Type 0} (m : Setup S) (sure : Bool) (c : ChainWalk S) where
  -- one way after another
  pub join : {r u : Task} {x w : World S} {t : Task} {v : World S} → WalksTo m c u w t v →
      WalksTo m c r x u w → WalksTo m c r x t v
  join here b = b
  join (marked e a) b = marked e (join a b)
  join (looked a) b = looked (join a b)
  join (read a) b = read (join a b)
  join (wrote a) b = wrote (join a b)
  join (added a) b = added (join a b)
  join (dropped a) b = dropped (join a b)
  join (heard trace e a) b = heard trace e (join a b)
  join (returned e a) b = returned e (join a b)

  abbrev pub On : Task → World S → Type 0
  On t v = ComesTo m c t v

  -- a reason why the walk ends in a fault, and why a call ends, where it is sure that calls have one
  abbrev pub Row : ℕ → Problem → Type 0
  Row n x = sure ≡ true → WalkRow m c n x

  abbrev pub HasReason : {call : Call} {r : Option Receiver} {w u : World S} {a : Answer} →
      CallEnds m call r w a u → Type 0
  HasReason ends = sure ≡ true → IsReason ends

  -- memory is out, and the newer roots go
  abbrev pub Stops : Task → Type 0
  Stops t = (k : ℕ) × Falls k NoMemory t

  -- Every fault that a task comes to from this world has its row, if it is sure that natives that are called
  -- end with a reason. A call may leave any trace. Where a native ends with a fault that no script may
  -- catch, the walk ends with it. The walk comes to a call of a function, and with the fault of the call
  -- the walk ends.
  abbrev pub Why : Task → World S → Type 0
  Why (Done (WalkEnded u changed)) v = Unit {0}
  Why (Done (WalkFailed n x)) v = Row n x
  Why (Mark out go) v = Stops out × (is_stop m.stop v.passed ≡ false → Why go (past v))
  Why (Look q go) v = Why (go (look v.roots (world_of m c q))) v
  Why (Flatten u go) v = Why (go (flat v.cells u)) v
  Why (Write q u t) v = Why t (record v { roots = put v.roots (world_of m c q) u })
  Why (Root h t) v = Why t (record v { roots = v.roots ++ h ∷ [] })
  Why (Drop i go) v =
      Why (go (look v.roots (record { root = c.others + i; path = [] })))
      (record v { roots = take (c.others + i) v.roots })
  Why (Need call go) v =
      Stops (go (Failed NoMemory)) ×
      ((x : Problem) → catchable x ≡ false → Falls call.step x (go (Failed x))) ×
      ((a : Answer) (u : World S) (trace : List Fault)
      (ends : CallEnds m call (lent_for m c call v) (untraced v) a u) → HasReason ends →
      Why (go a) (record u { trace = trace }))
  Why (Invoke i go) v =
      On (Invoke i go) v × ((x : Problem) → Falls i.step x (go (Failed x))) ×
      ((d : Dynamic) (u : World S) →
      InvocationEnds m i (under_for m c i) (untraced v) (Came d) u → Why (go (Came d)) u)

  -- so from each world in which the walk comes to it
  abbrev pub From : Task → Type 0
  From t = (v : World S) → On t v → Why t v

  -- what follows: a fault goes to the walk's end, and a value is gone on from
  pub record Follows (done : Rest) : Type 0 where
    pub falls : (n : ℕ) (x : Problem) → Falls n x (done (WalkFailed n x))
    pub well : (u : Dynamic) (changed : Bool) → From (done (WalkEnded u changed))

  abbrev pub Goes : Next → Type 0
  Goes next = (p : Place) (done : Rest) → Follows done → From (next p done)

  -- a fault that goes to the walk's end has the row that it has
  pub fallen : (n : ℕ) (x : Problem) → Row n x → (t : Task) → Falls n x t → (v : World S) →
      Why t v
  fallen n x row (Done o) falls v = rw falls row
  fallen n x row (Mark out go) falls v = absurd falls
  fallen n x row (Look q go) falls v = absurd falls
  fallen n x row (Flatten u go) falls v = absurd falls
  fallen n x row (Write q u t) falls v = absurd falls
  fallen n x row (Root h t) falls v = absurd falls
  fallen n x row (Drop i go) falls v =
      let h : Held = look v.roots (record { root = c.others + i; path = [] }) in
      fallen n x row (go h) (falls h) (record v { roots = take (c.others + i) v.roots })
  fallen n x row (Need call go) falls v = absurd falls
  fallen n x row (Invoke i go) falls v = absurd falls

  module _ (n : ℕ) where
    pub ill : (x : Problem) (done : Rest) → Follows done → Row n x → (v : World S) →
        Why (done (WalkFailed n x)) v
    ill x done f row v = fallen n x row (done (WalkFailed n x)) (f.falls n x) v

    pub out : (done : Rest) → Follows done → Stops (done (WalkFailed n NoMemory))
    out done f = (n, f.falls n NoMemory)

    pub marks : (done : Rest) (go : Task) → Follows done → From go → From (at_mark n done go)
    marks done go f from v come =
        (out done f, λ clear. from (past v) (join come (marked clear here)))

    pub fails : (x : Problem) (done : Rest) → Follows done → Row n x → From (failing n x done)
    fails x done f row = marks done (done (WalkFailed n x)) f (λ v come. ill x done f row v)

    -- a value is read in a world, or it is a lent cell
    pub reads_at : (q : Position) (u : Dynamic) (done : Rest) (go : Dynamic → Task) → Follows done →
        (v : World S) → ((d : Dynamic) → flat v.cells u ≡ Some d → On (go d) v → Why (go d) v) →
        On (flattening n q u done go) v → Why (flattening n q u done go) v
    reads_at q u done go f v from come = by_content (flat v.cells u) refl (join come (read here)) where
      by_content : (o : Option Dynamic) → flat v.cells u ≡ o →
          On (flat_or_busy n q done go o) v → Why (flat_or_busy n q done go o) v
      by_content None e arrived =
          let x = Plain (DataRace (race_text [])) q in
          fails x done f (λ known. inr (inr (inr (inr (inl (record {
            value = u;
            position = q;
            rest = done;
            go = go;
            world = v;
            comes = come;
            lent = e;
            is = refl;
            last = f.falls n x;
          })))))) v arrived
      by_content (Some d) e arrived = from d e arrived

    -- and so in each world
    pub reads : (q : Position) (u : Dynamic) (done : Rest) (go : Dynamic → Task) → Follows done →
        ((d : Dynamic) → From (go d)) → From (flattening n q u done go)
    reads q u done go f from v come =
        reads_at q u done go f v (λ d e arrived. from d v arrived) come

    -- what is called
    abbrev pub call_of : Position → List ℕ → Option Place → List Dynamic → Call
    call_of q name p args =
        record { step = n; position = q; name = name; receiver = p; values = args }

    -- what follows from an answer, and from the way to it, in each world to which it leads
    abbrev pub Hears : Call → (Answer → Task) → Type 0
    Hears call go = (v : World S) → On (Need call go) v → (a : Answer) (u : World S) →
        (ends : CallEnds m call (lent_for m c call v) (untraced v) a u) → HasReason ends → (w : World S) →
        On (go a) w → Why (go a) w

    -- a fault that no script may catch goes to the walk's end
    abbrev pub LetsPass : (Answer → Task) → Type 0
    LetsPass go = (x : Problem) → catchable x ≡ false → Falls n x (go (Failed x))

    pub asks : (q : Position) (name : List ℕ) (p : Option Place) (args : List Dynamic) (done : Rest)
        (go : Answer → Task) → Follows done → LetsPass go → Hears (call_of q name p args) go →
        From (walks.asking n q name p args done go)
    asks q name p args done go f passes hears =
        marks done (Need (call_of q name p args) go) f (λ v come. (
          (n, passes NoMemory refl),
          passes,
          λ a u trace ends reason. hears v come a u ends reason (record u { trace = trace })
              (join come (heard trace ends here)),
        ))

    -- a function that is called
    abbrev pub invocation_of : Position → Method → Option Place → List Dynamic → Invocation
    invocation_of q method this args =
        record { step = n; position = q; method = method; this = this; values = args }

    pub invokes : (q : Position) (method : Method) (this : Option Place) (args : List Dynamic)
        (done : Rest) (go : Answer → Task) → Follows done →
        ((x : Problem) → Falls n x (go (Failed x))) → ((d : Dynamic) → From (go (Came d))) →
        From (walks.invoking n q method this args done go)
    invokes q method this args done go f falls hears =
        marks done (Invoke (invocation_of q method this args) go) f (λ v come.
        (come, falls, λ d u ends. hears d u (join come (returned ends here))))

    -- a call that failed, and the fault with which the walk then ends
    abbrev pub Failing : Problem → Type 0
    Failing x = sure ≡ true → CallFails m c n x

    abbrev pub failing_call : (call : Call) → call.step ≡ n → (go : Answer → Task) (v : World S) →
        On (Need call go) v → (x : Problem) (u : World S) →
        (ends : CallEnds m call (lent_for m c call v) (untraced v) (Failed x) u) → HasReason ends →
        Failing x
    failing_call call step go v come x u ends reason = λ known. record {
      call = call;
      go = go;
      world = v;
      comes = come;
      step = step;
      after = u;
      ends = ends;
      reason = reason known;
    }

    pub native_row : (x : Problem) (call : Failing x) →
        ((known : sure ≡ true) → Falls n x ((call known).go (Failed x))) → Row n x
    native_row x call last =
        λ known. inr (inr (inr (inr (inr (inr (inr (inl (record {
          fails = call known;
          last = last known;
        }))))))))

    -- after a call that failed because there is no such property, another call is made in its place
    pub record IsReplaced {x : Problem} (first : CallFails m c n x) (call : Call)
        (go : Answer → Task) : Type 0 where
      pub none : is_dot_expr x ≡ true
      pub out : Task
      pub instead : first.go (Failed x) ≡ Mark out (Need call go)

    abbrev pub Replaced : {x : Problem} → Failing x → Call → (Answer → Task) → Type 0
    Replaced first call go = (known : sure ≡ true) → IsReplaced (first known) call go

    pub instead_row : (x y : Problem) (first : Failing x) (second : Failing y) →
        ((known : sure ≡ true) → IsReplaced (first known) (second known).call (second known).go) →
        is_indexing_type y ≡ true → ((known : sure ≡ true) → Falls n x ((second known).go (Failed y))) →
        Row n x
    instead_row x y first second replaced absent last =
        λ known. inr (inr (inr (inr (inr (inr (inr (inr (inl (record {
          first = first known;
          no_property = (replaced known).none;
          other = y;
          second = second known;
          out = (replaced known).out;
          instead = (replaced known).instead;
          absent = absent;
          last = last known;
        })))))))))
