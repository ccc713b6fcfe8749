-- What a function that a walk called wrote at the walk's places stays, also where it failed; so does what
-- one wrote that was called on a receiver.
use Rattle.std.proofs.Common.{◌≡◌, ◌<◌, ◌+◌, ◌∙◌, ◌||◌, ℕ, zero, suc, List, [], ◌∷◌, ◌++◌, Option, Some, None, Bool, true, false, if◌then◌else◌, is_some, nat_lt, nat_le, length, map, take, refl, sym, ap, subst, inl, inr, arith}
use Rattle.grain_value.specs.Looking.{cell_of}
use Rattle.grain_value.specs.Operands.{read_write}
use Rattle.grain_value.specs.Scopes.{set_held}
use Rattle.grain_value.specs.declared.values.Dynamic.{Dynamic}
use Rattle.grain_value.specs.declared.values.FnPtr.{FnPtr}
use Rattle.grain_value.specs.declared.values.Held.{Held}
use Rattle.grain_fault.specs.Classes.{catchable}
use Rattle.grain_fault.specs.Positions.{at_position}
use Rattle.grain_fault.specs.Problems.{Problem, Plain, InFunctionCall, NoMemory, StackOverflow, Terminated, TooManyOperations, TooManyVariables}
use Rattle.grain_fault.specs.declared.places.Position.{Position}
use Rattle.grain_fault.specs.declared.traces.Fault.{Fault}
use Rattle.grain_host.specs.Law.{GoOn, Stop, Verdict}
use Rattle.grain_program.specs.View.{name_of, source_text}
use Rattle.grain_program.specs.declared.code.functions.Function.{Function}
use Rattle.grain_means.specs.Causes.Spots.{ChainWalk, ComesTo, Falls, WalksTo, here, marked, looked, read, wrote, added, dropped, heard, returned}
use Rattle.grain_means.specs.Ends.{Ends, joined}
use Rattle.grain_means.specs.Places.{along, look, or_unit, put}
use Rattle.grain_means.specs.Rules as rules
use Rattle.grain_means.specs.Rules.{Destination, ToSlot, ToThis, bound, chain_over, curried_in, frame_at, function_by_name, held_at, is_read_only, is_stop, new_root, position, walks}
use Rattle.grain_means.specs.Staying.{IsHeard, IsOver, ReceiverStays, left, not_entered, with_receiver}
use Rattle.grain_means.specs.Tasks.{Invocation, Task, Done, Mark, Look, Flatten, Write, Root, Drop, Need, Invoke, WalkFailed, Walked}
use Rattle.grain_means.specs.Worlds.{Act, Go, Then, Answer, Came, Failed, Frame, InFrame, Place, Setup, World}
use Rattle.grain_means.specs.lemmas.LentPlaces.{found-new}
use Rattle.grain_means.proofs.Explaining.{explained}
use Rattle.grain_means.proofs.Explaining.Ways.{Why}
use Rattle.grain_means.proofs.Footing.{by_test, is_false}
use Rattle.grain_means.proofs.Touching.{frame_touched}
use Rattle.grain_means.proofs.Touching.Beside.{before_this, get_below}
use Rattle.grain_means.proofs.Touching.Writes.{Stands, stands_same}

-- A function is called under a `this` or none, and then comes what follows from the answer. Of each act
-- on the way, if it ends so, the function is over, and from its answer it ended so.
module _ {S : Type 0} (m : Setup S) (q : Position) (g : Function) (args : List Held)
    (said : Answer → World S → Act S) (this : Option Place) (w v : World S) (a : Answer) where
  abbrev pub GoesOn : Type 0
  GoesOn = (b : Answer) × (u : World S) × IsOver m q g args this w b u × (u.scope ≡ w.scope)
      × (u.level ≡ w.level) × Ends m (said b u) a v

  abbrev Over : Act S → Type 0
  Over act = Ends m act a v → GoesOn

  -- all stands as it did
  abbrev Same : World S → Type 0
  Same u = (u.roots ≡ w.roots) × (u.cells ≡ w.cells) × (u.scope ≡ w.scope) × (u.level ≡ w.level)

  refused : (x : Problem) (u : World S) → Same u → Over (said (Failed x) u)
  refused x u s d = (Failed x, u, not_entered x refl s.0 s.1, s.2, s.3, d)

  marks : (u : World S) (go : World S → Act S) → Same u →
      Over (go (record u { passed = u.passed + 1 })) →
      Over (rules.marked_or m (said (Failed NoMemory)) u go)
  marks u go s h =
      by_test Over (is_stop m.stop u.passed) (said (Failed NoMemory) u)
      (go (record u { passed = u.passed + 1 })) (λ stop. refused NoMemory u s) (λ clear. h)

  refuses : (x : Problem) (u : World S) → Same u →
      Over (rules.marked_or m (said (Failed NoMemory)) u (said (Failed x)))
  refuses x u s = marks u (said (Failed x)) s (refused x (record u { passed = u.passed + 1 }) s)

  -- the body is over
  module _ (inside last : World S) (roots : inside.roots ≡ w.roots) (cells : inside.cells ≡ w.cells)
      (scope : inside.scope ≡ bound m.program g.params args) (level : inside.level ≡ w.level + 1)
      (u : World S) (same_roots : u.roots ≡ last.roots) (same_cells : u.cells ≡ last.cells)
      (same_scope : u.scope ≡ w.scope) (same_level : u.level ≡ w.level) where
    hears : (c b : Answer) → Ends m (Go (InFrame (frame_at g.chunk 0 this)) inside) c last →
        IsHeard m.program q g c b → (passed : ℕ) → Over (said b (record u { passed = passed }))
    hears c b body is passed d = (
      b,
      record u { passed = passed },
      left inside last c roots cells scope level body is same_roots same_cells,
      same_scope,
      same_level,
      d,
    )

    fell : (x : Problem) → Ends m (Go (InFrame (frame_at g.chunk 0 this)) inside) (Failed x) last →
        (c : Bool) → catchable x ≡ c →
        Over (if c
        then rules.marked_or m (said (Failed NoMemory)) u (said (Failed
        (InFunctionCall (name_of m.program g.name) (source_text m.program) x q)))
        else said (Failed (at_position q x)) u)
    fell x body true may =
        by_test Over (is_stop m.stop u.passed) (said (Failed NoMemory) u)
        (said (Failed (InFunctionCall (name_of m.program g.name) (source_text m.program) x q))
        (record u { passed = u.passed + 1 }))
        (λ stop. hears (Failed x) (Failed NoMemory) body (inr refl) u.passed)
        (λ clear. hears (Failed x)
        (Failed (InFunctionCall (name_of m.program g.name) (source_text m.program) x q)) body
        (inl (rw may refl)) (u.passed + 1))
    fell x body false not =
        hears (Failed x) (Failed (at_position q x)) body (inl (rw not refl)) u.passed

    over : (c : Answer) → Ends m (Go (InFrame (frame_at g.chunk 0 this)) inside) c last →
        Over (rules.body_over m q g said c u)
    over (Came z) body = hears (Came z) (Came z) body refl u.passed
    over (Failed x) body = fell x body (catchable x) refl

  enters : (u : World S) → Same u →
      Over (rules.body_entered m (said (Failed NoMemory)) (λ x. said (Failed x)) q g args this
      (rules.body_over m q g said) u)
  enters u s =
      by_test Over (nat_le m.engine.limits.levels u.level)
      (rules.marked_or m (said (Failed NoMemory)) u (said (Failed (Plain StackOverflow q))))
      (if nat_lt m.engine.limits.variables (length g.params)
      then rules.marked_or m (said (Failed NoMemory)) u (said (Failed (Plain TooManyVariables q)))
      else rules.marked_or m (said (Failed NoMemory)) u begins)
      (λ deep. refuses (Plain StackOverflow q) u s)
      (λ room. by_test Over (nat_lt m.engine.limits.variables (length g.params))
      (rules.marked_or m (said (Failed NoMemory)) u (said (Failed (Plain TooManyVariables q))))
      (rules.marked_or m (said (Failed NoMemory)) u begins)
      (λ many. refuses (Plain TooManyVariables q) u s)
      (λ few. marks u begins s (runs (u.passed + 1)))) where
        inside : World S → World S
        inside w1 = record w1 { scope = bound m.program g.params args; level = w1.level + 1 }

        begins : World S → Act S
        begins w1 = Then (Go (InFrame (frame_at g.chunk 0 this)) (inside w1))
            (λ c w2. rules.body_over m q g said c (record w2 { scope = u.scope; level = u.level }))

        runs : (passed : ℕ) → Over (begins (record u { passed = passed }))
        runs passed (joined {b = c} {w = last} body rest) =
            over (inside (record u { passed = passed })) last s.0 s.1 refl
            (ap (λ (n : ℕ). n + 1) s.3) (record last { scope = u.scope; level = u.level }) refl refl
            s.2 s.3 c body rest

  pub goes_on : Ends m (rules.function_under m q g args said this w) a v → GoesOn
  goes_on =
      by_test Over (nat_lt w.count m.engine.limits.operations)
      (rules.marked_or m (said (Failed NoMemory)) w (λ w1. rules.progressed_or m
      (said (Failed NoMemory)) q (λ x. said (Failed x)) (record w1 { count = w1.count + 1 }) go))
      (rules.marked_or m (said (Failed NoMemory)) w (said (Failed (Plain TooManyOperations q))))
      (λ few. marks w (λ w1. rules.progressed_or m
      (said (Failed NoMemory)) q (λ x. said (Failed x)) (record w1 { count = w1.count + 1 }) go)
      (refl, refl, refl, refl)
      (progresses (record w { passed = w.passed + 1; count = w.count + 1 }) (refl, refl, refl, refl)))
      (λ many. refuses (Plain TooManyOperations q) w (refl, refl, refl, refl)) where
        go : World S → Act S
        go = rules.body_entered m (said (Failed NoMemory)) (λ x. said (Failed x)) q g args this
            (rules.body_over m q g said)

        judges : (o : Verdict) (u : World S) → Same u →
            Over (rules.on_verdict_or m (said (Failed NoMemory)) o q (λ x. said (Failed x)) u go)
        judges GoOn u s = enters u s
        judges (Stop z) u s = refuses (Plain (Terminated z) q) u s

        progresses : (u : World S) → Same u →
            Over (rules.progressed_or m (said (Failed NoMemory)) q (λ x. said (Failed x)) u go)
        progresses u s =
            marks u (λ w1. rules.marked_or m (said (Failed NoMemory))
            (record w1 { host = m.law.progress_after w1.host w1.count }) (λ w2.
            rules.on_verdict_or m (said (Failed NoMemory)) (m.law.progress_reply w1.host w1.count) q
            (λ x. said (Failed x)) w2 go)) s
            (marks (record u {
              passed = u.passed + 1;
              host = m.law.progress_after u.host u.count;
            }) (λ w2. rules.on_verdict_or m (said (Failed NoMemory))
            (m.law.progress_reply u.host u.count) q (λ x. said (Failed x)) w2 go) s
            (judges (m.law.progress_reply u.host u.count) (record u {
              passed = u.passed + 1 + 1;
              host = m.law.progress_after u.host u.count;
            }) s))

-- under what can be written
pub under_writable : {S : Type 0} (m : Setup S) (q : Position) (g : Function) (args : List Held)
    (said : Answer → World S → Act S) (p : Place) (w v : World S) (a : Answer) →
    (look w.roots p).read_only ≡ false →
    Ends m (rules.function_called m q g args said (Some p) w) a v →
    GoesOn m q g args said (Some p) w v a
under_writable m q g args said p w v a writable = rw writable (goes_on m q g args said (Some p) w v a)

-- the roots before the last one, which is the `this` of a function, are as they were once it is over
before_again : {S : Type 0} (m : Setup S) (q : Position) (g : Function) (args : List Held)
    (rs : List Held) (h : Held) (w : World S) → w.roots ≡ rs ++ h ∷ [] → (b : Answer) (u : World S) →
    IsOver m q g args (Some (new_root rs)) w b u → take (length rs) u.roots ≡ rs
before_again m q g args rs h w is b u (not_entered x e roots cells) =
    before_this rs h u.roots
    (subst (Stands (Some (new_root rs)) (rs ++ h ∷ [])) (sym (roots ∙ is))
    (stands_same (Some (new_root rs)) (rs ++ h ∷ [])))
before_again m q g args rs h w is b u
    (left inside last c roots cells scope level body answers same_roots same_cells) =
    before_this rs h u.roots
    (subst (Stands (Some (new_root rs)) (rs ++ h ∷ [])) (sym same_roots)
    (subst (λ (xs : List Held). Stands (Some (new_root rs)) xs last.roots) (roots ∙ is)
    (frame_touched m (frame_at g.chunk 0 (Some (new_root rs))) inside last c body)))

-- under a copy of what can only be read, which goes afterwards
module _ {S : Type 0} (m : Setup S) (q : Position) (g : Function) (args : List Held)
    (said : Answer → World S → Act S) (p : Place) (w v : World S) (a : Answer) where
  abbrev copy : Place
  copy = record { root = length w.roots; path = [] }

  abbrev grown : World S
  grown = record w { roots = w.roots ++ look w.roots p ∷ [] }

  pub under_constant : (look w.roots p).read_only ≡ true →
      Ends m (rules.function_called m q g args said (Some p) w) a v →
      (b : Answer) × (u : World S) × (u.roots ≡ w.roots) × Ends m (said b u) a v
  under_constant constant = rw constant (λ d. dropped
      (goes_on m q g args (rules.copy_dropped m (length w.roots) said) (Some copy) grown v a d)) where
        dropped : GoesOn m q g args (rules.copy_dropped m (length w.roots) said) (Some copy) grown v a →
            (b : Answer) × (u : World S) × (u.roots ≡ w.roots) × Ends m (said b u) a v
        dropped (b, u, over, scope, level, d) = (
          b,
          record u { roots = take (length w.roots) u.roots },
          before_again m q g args w.roots (look w.roots p) grown refl b u over,
          d,
        )

-- what is found at a root that is added
look_new : (rs : List Held) (h : Held) → look (rs ++ h ∷ []) (new_root rs) ≡ h
look_new rs h = ap or_unit (found-new rs h)

-- a function is called on a receiver
module _ {S : Type 0} (m : Setup S) (d : Destination) (r : FnPtr) (values : List Dynamic) (h : Held)
    (next : ℕ) (f : Frame) (g : Function) (w v : World S) (a : Answer)
    (found : function_by_name m.program r.name (length r.curry + length values) ≡ Some g)
    (clear : is_stop m.stop w.passed ≡ false) (writable : is_read_only w h ≡ false) where
  abbrev args : List Held
  args = curried_in r ++ map read_write values

  abbrev receiver : Held
  receiver = record h { read_only = is_read_only w h }

  abbrev resumes : Answer → World S → Act S
  resumes = rules.root_over m d next f (length w.roots)

  abbrev Stays : Type 0
  Stays = ReceiverStays m d g args h next f w v a

  stays_so : GoesOn m (position m f) g args resumes (Some (new_root w.roots)) (with_receiver h w) v a →
      Stays
  stays_so (b, u, done, scope, level, run) = record {
    answer = b;
    world = u;
    over = done;
    roots = before_again m (position m f) g args w.roots receiver (with_receiver h w) refl b u done;
    scope = scope;
    level = level;
    goes_on = run;
  }

  called_so : Ends m (rules.function_called m (position m f) g args resumes (Some (new_root w.roots))
      (with_receiver h w)) a v → Stays
  called_so run =
      stays_so (under_writable m (position m f) g args resumes (new_root w.roots) (with_receiver h w) v a
      (ap (λ (x : Held). x.read_only) (look_new w.roots receiver) ∙ writable) run)

  pub receiver_stays : Ends m (rules.receiver_called m d r values h next f w) a v → Stays
  receiver_stays = rw (clear, found) called_so

-- where a receiver goes, whatever the answer of its call
module _ {S : Type 0} (m : Setup S) (next : ℕ) (f : Frame) (h : Held) (a : Answer) (w : World S) where
  module _ (plain : cell_of h.value ≡ None) (writable : h.read_only ≡ false) where
    pub goes_to_this : (p : Place) → f.this ≡ Some p →
        rules.receiver_over m ToThis next f h a w
        ≡ rules.call_over m next f a (record w { roots = put w.roots p h.value })
    goes_to_this p is = rw (plain, writable, is) refl

    pub goes_to_entry : (slot : ℕ) (before : Held) → held_at w.scope (f.base + slot) ≡ Some before →
        rules.receiver_over m (ToSlot slot) next f h a w
        ≡ rules.call_over m next f a (record w { scope = set_held w.scope (f.base + slot) h })
    goes_to_entry slot before is = rw (plain, writable, is) refl

  pub goes_nowhere : (d : Destination) → (is_some (cell_of h.value) || h.read_only) ≡ true →
      rules.receiver_over m d next f h a w ≡ rules.call_over m next f a w
  goes_nowhere d kept = rw kept refl

-- a walk that comes to a call of a function only drops roots after the call's fault
module _ {S : Type 0} (m : Setup S) (c : ChainWalk S) (i : Invocation) (go : Answer → Task)
    (w : World S) where
  comes_no_more : (n : ℕ) (x : Problem) (t : Task) (v : World S) → Falls n x t →
      WalksTo m c (Invoke i go) w t v → ⊥
  comes_no_more n x t v falls here = falls
  comes_no_more n x t v falls (marked e b) = falls
  comes_no_more n x t v falls (looked b) = falls
  comes_no_more n x t v falls (read b) = falls
  comes_no_more n x t v falls (wrote b) = falls
  comes_no_more n x t v falls (added b) = falls
  comes_no_more n x (Drop k f) v falls (dropped b) = comes_no_more n x _ _ (falls _) b
  comes_no_more n x t v falls (heard trace e b) = falls
  comes_no_more n x t v falls (returned e b) = falls

  falls_there : {t : Task} {v : World S} → WalksTo m c (Invoke i go) w t v → Why m false c t v →
      (x : Problem) → Falls i.step x (go (Failed x))
  falls_there here why = why.1
  falls_there (marked e b) why = falls_there b (why.1 e)
  falls_there (looked b) why = falls_there b why
  falls_there (read b) why = falls_there b why
  falls_there (wrote b) why = falls_there b why
  falls_there (added b) why = falls_there b why
  falls_there (dropped b) why = falls_there b why
  falls_there (heard {u = u} {a = z} trace e b) why =
      falls_there b (why.2 z u trace e (λ known. is_false known))
  falls_there (returned {u = u} {a = Came d} e b) why = falls_there b (why.2 d u e)
  falls_there (returned {i = k} {u = u} {a = Failed y} e b) why =
      elim (comes_no_more k.step y _ u (why.1 y) b) [ ]

  pub falls_on : ComesTo m c (Invoke i go) w → (x : Problem) → Falls i.step x (go (Failed x))
  falls_on comes = falls_there comes (explained m false c)

-- of roots that are taken, those below stay
take-below : (xs : List Held) (n k : ℕ) → n < k → take n (take k xs) ≡ take n xs
take-below xs zero k low = refl
take-below xs (suc n) zero low = absurd (omega (arith, low))
take-below [] (suc n) (suc k) low = refl
take-below (x ∷ xs) (suc n) (suc k) low = ap (λ l. x ∷ l) (take-below xs n k (omega (arith, low)))

-- what the first root held goes back
module _ {S : Type 0} (m : Setup S) (k next n : ℕ) (f : Frame) (back : Held → World S → World S)
    (w : World S) (x : Problem) (missed : Option (List Fault)) where
  abbrev after : Walked → World S → Act S
  after o v = chain_over m k next f o (back (look v.roots (new_root w.roots))
      (record v { roots = take (length w.roots) v.roots }))

  pub goes_back : (t : Task) → Falls n x t → (u : World S) →
      walks m k f (new_root w.roots) (length w.roots + 1) missed t after u ≡ after (WalkFailed n x) u
  goes_back (Done o) falls u = ap (λ (z : Walked). after z u) falls
  goes_back (Drop i go) falls u =
      let j : ℕ = length w.roots + 1 + i in
      let low : length w.roots < j = omega arith in
      let h : Held = look u.roots (record { root = j; path = [] }) in
      goes_back (go h) (falls h) (record u { roots = take j u.roots })
      ∙ ap (λ (rs : List Held). chain_over m k next f (WalkFailed n x)
      (back (look (take j u.roots) (new_root w.roots)) (record u { roots = rs })))
      (take-below u.roots (length w.roots) j low)
      ∙ ap (λ (o : Option Held). chain_over m k next f (WalkFailed n x) (back (or_unit (along [] o))
      (record u { roots = take (length w.roots) u.roots })))
      (get_below u.roots (length w.roots) j low)
  goes_back (Mark o go) falls u = elim falls [ ]
  goes_back (Look q go) falls u = elim falls [ ]
  goes_back (Flatten v go) falls u = elim falls [ ]
  goes_back (Write q v t) falls u = elim falls [ ]
  goes_back (Root h t) falls u = elim falls [ ]
  goes_back (Need c go) falls u = elim falls [ ]
  goes_back (Invoke i go) falls u = elim falls [ ]
