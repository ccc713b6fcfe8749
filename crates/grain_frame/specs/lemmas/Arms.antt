-- From what a method of an instruction did to one turn of the frame.
use Rattle.std.proofs.Common.{◌≡◌, ◌≤◌, ◌+◌, ◌-◌, ℕ, List, [], ◌∷◌, Option, Some, Bool, false, cond, nat_lt, inl, inr, Result, Ok, Err, length, refl, sym, subst, ap, ◌∙◌, arith}
use Rattle.grain_value.specs.declared.values.Held.{Held}
use Rattle.grain_value.specs.declared.scopes.Entry.{Entry}
use Rattle.grain_value.specs.Scopes.{set_held}
use Rattle.grain_fault.specs.Problems.{Problem, problem_of}
use Rattle.grain_fault.specs.declared.faults.EvalAltResult.{EvalAltResult}
use Rattle.grain_program.specs.Typing.{In}
use Rattle.grain_stack.specs.Views.{StacksView}
use Rattle.grain_value.specs.declared.memory.OutOfMemory.{OutOfMemory}
use Rattle.grain_program.specs.declared.code.parts.Chunk.{Chunk}
use Rattle.grain_program.specs.declared.code.instruction_set.Op.{Op}
use Rattle.grain_program.specs.declared.code.effects.Handling.{Handling}
use Rattle.grain_program.specs.declared.code.effects.Handling.TheVariants as handling
use Rattle.grain_program.specs.declared.code.effects.Looping.TheVariants as looping
use Rattle.grain_program.specs.Effects.{takes_of, gives_of, leads_of, looping_of, handling_of, cursors_taken}
use Rattle.grain_program.specs.Shapes.{TryHandler, handled}
use Rattle.grain_program.specs.laws.TypedAt.{IsTypedAt, Verified}
use Rattle.grain_program.specs.Decoding.{op_at}
use Rattle.grain_program.specs.View.{View}
use Rattle.grain_stack.specs.declared.cursors.Cursor.{Cursor}
use Rattle.grain_stack.specs.declared.handlers.Handler.{Handler}
use Rattle.grain_host.specs.Law.{Law}
use Rattle.grain_global.specs.declared.engines.Engine.{Engine}
use Rattle.grain_means.specs.Worlds.{Frame, Setup, Place}
use Rattle.grain_means.specs.Rules.{instr, raised}
use Rattle.grain_means.specs.Simulation.{LocalState, Computation, Environment, Simulates, SimulatesExactly, stopped, world}
use Rattle.grain_means.specs.Means.{setup}
use Rattle.grain_means.specs.lemmas.Stretches.{same, exactly, compose}
use Rattle.grain_means.specs.lemmas.Branches.{of_two}
use Rattle.grain_means.specs.lemmas.Scopes.{length_set_held}
use Rattle.grain_global.specs.StepsView.{StepsView}
use Rattle.grain_frame.specs.Abstraction.{abstraction, frame_in, tries_in, Above, is_out, continuation, KeepsFrame, ContinuesAt, ReadyIn, Runs, Implements, Performs, Raises, StaysTyped, Stepped, StandsAt, instruction_here, moment}
use Rattle.grain_frame.specs.declared.activations.Activation.{Activation}
use Rattle.grain_frame.specs.declared.runs.Progress.{Progress}
use Rattle.grain_frame.specs.declared.runs.Progress.TheVariants as progress
use Rattle.grain_frame.specs.declared.runs.Run.{Run}
use Rattle.grain_frame.specs.lemmas.Standing.{goes_with_cursors}
pub use Rattle.grain_frame.specs.lemmas.Standing.{is_typed, verified}

-- the instruction that stands there
pub performs : {H : Type 0} {m : Setup H} {now : LocalState H} (f : Option Place → Frame) (o : Op)
    (at width : ℕ)
    {out : Bool} {new : LocalState H} {last : Computation H} →
    ((place : Option Place) → (f place).address ≡ at) → op_at m.program.code at ≡
    Some (o, width) →
    Simulates m now (λ n place w. instr n o (at + width) (f place) w) out new last →
    Simulates m now (instruction_here f) out new last
performs {now = now} f o at width here e h =
    compose {one = false}
    (same (record {
      this = refl;
      order = omega arith;
      equal = λ stop clear halts u place.
          rw (here place, e) refl;
    })) h tt

-- a frame that differs in its address, its floor and the step that it blames alone
pub taken_back : (f g : Activation) → g.chunk ≡ f.chunk → g.base ≡ f.base →
    g ≡ record f { address = g.address; floor = g.floor; slot = g.slot }
taken_back f g chunk base = rw (← chunk, ← base) refl

-- an instruction at which a frame stands, by what was verified of it
module _ {H : Type 0} (law : Law H) (p : View) (engine : Engine) (f : Activation) (s : Run H)
    (o : Op) (width : ℕ) (runs : Runs p f s)
    (here : Verified p f.chunk f.address (length s.stacks.operands) (length s.stacks.cursors)
    (tries_in s.stacks.handlers) o width) where
  -- the operands that it leaves
  abbrev left : ℕ
  left = length s.stacks.operands - takes_of p o + gives_of o

  -- the frame goes on with its cursors and other handlers
  module _ (holds : looping_of o ≡ looping.Keep) (handlers : List Handler)
      (become : tries_in handlers
      ≡ handled (handling_of o) left (length s.stacks.cursors) (tries_in s.stacks.handlers))
      (above : Above f.base handlers) (f' : Activation) (s' : Run H) where
    stays : (r : Result Progress OutOfMemory) → KeepsFrame f s f' s' →
        ContinuesAt engine s f s' f' (leads_of p o (f.address + width)) (takes_of p o) (gives_of o)
        handlers r → StaysTyped p engine s f s' f' r
    stays (Ok progress.Continues) kept lands =
        let hs = tries_in s.stacks.handlers in
        let many = length s.stacks.cursors in
        let same : handled (handling_of o) left many hs ≡ tries_in s'.stacks.handlers =
        sym become ∙ ap tries_in (sym lands.2) in
        let few : many ≡ length s'.stacks.cursors =
        sym (ap (λ (cs : List Cursor). length cs) lands.4) in
        let inside = here.provides.inside in
        let wide = here.provides.wide in (
          subst (λ (c : Chunk). IsTypedAt p c f'.address (length s'.stacks.operands)
              (length s'.stacks.cursors) (tries_in s'.stacks.handlers)) (sym kept.chunk)
              (subst (λ (k : ℕ). IsTypedAt p f.chunk f'.address (length s'.stacks.operands) k
              (tries_in s'.stacks.handlers)) few
              (subst (λ (ts : List TryHandler).
              IsTypedAt p f.chunk f'.address (length s'.stacks.operands) many ts) same
              (subst (λ (k : ℕ). IsTypedAt p f.chunk f'.address k many
              (handled (handling_of o) left many hs)) (sym lands.1)
              (goes_with_cursors holds here f'.address lands.0)))),
          lands.3,
          omega (arith, inside, wide),
          rw (kept.base, lands.2) above,
        )
    stays (Ok progress.Returned) kept lands = tt
    stays (Ok progress.Failed) kept lands = (
      length s.stacks.operands - takes_of p o,
      length s.stacks.cursors - cursors_taken (looping_of o),
      lands.0,
      omega (arith, ap (λ (cs : List Cursor). length cs) lands.2),
      rw (kept.chunk, lands.1) here.covered,
      rw (kept.base, lands.1) runs.above,
    )
    stays (Err e) kept lands = tt

    -- the instruction was done
    pub done_with : op_at p.code f.address ≡ Some (o, width) → (n n' : StepsView) (host host' : H)
        {r : Result Progress OutOfMemory} →
        Simulates (setup law p engine) (abstraction s n host)
        (λ m place w. instr m o (f.address + width) (frame_in f s place) w) (is_out r)
        (abstraction s' n' host') (continuation r s'.fault (frame_in f' s')) →
        KeepsFrame f s f' s' →
        ContinuesAt engine s f s' f' (leads_of p o (f.address + width)) (takes_of p o) (gives_of o)
        handlers r → n'.before ≡ n.before → Stepped (setup law p engine) (moment f s n host) r
        (moment f' s' n' host')
    done_with read n n' host host' {r} goes kept lands before = record {
      goes = performs (frame_in f s) o f.address width (λ place. refl) read goes;
      kept = kept;
      stays = stays r kept lands;
      before = before;
    }

  -- the instruction was done, which keeps the cursors and the handlers
  pub done : looping_of o ≡ looping.Keep → handling_of o ≡ handling.Keep →
      op_at p.code f.address ≡ Some (o, width) →
      (n : StepsView) (f' : Activation) (s' : Run H) (n' : StepsView) (host host' : H)
      {r : Result Progress OutOfMemory} →
      Simulates (setup law p engine) (abstraction s n host)
      (λ m place w. instr m o (f.address + width) (frame_in f s place) w) (is_out r)
      (abstraction s' n' host') (continuation r s'.fault (frame_in f' s')) →
      KeepsFrame f s f' s' →
      ContinuesAt engine s f s' f' (leads_of p o (f.address + width)) (takes_of p o) (gives_of o)
      s.stacks.handlers r → n'.before ≡ n.before → Stepped (setup law p engine) (moment f s n host)
      r (moment f' s' n' host')
  done holds keeps read n f' s' n' host host' goes kept lands before =
      done_with holds s.stacks.handlers
      (ap (λ (h : Handling). handled h left (length s.stacks.cursors) (tries_in s.stacks.handlers))
      (sym keeps)) runs.above
      f' s' read n n' host host' goes kept lands before

-- an instruction that was read in the code
module _ {H : Type 0} (law : Law H) (p : View) (engine : Engine) (f : Activation) (s : Run H)
    (said o : Op) (width : ℕ) (is : said ≡ o) (runs : Runs p f s)
    (seen : (depth cursors : ℕ) (hs : List TryHandler) →
    IsTypedAt p f.chunk f.address depth cursors hs →
    Verified p f.chunk f.address depth cursors hs said width) where
  -- what was verified of it
  pub here : Verified p f.chunk f.address (length s.stacks.operands) (length s.stacks.cursors)
      (tries_in s.stacks.handlers) o width
  here =
      let hs = tries_in s.stacks.handlers in
      let many = length s.stacks.cursors in
      let depth = length s.stacks.operands in
      subst (λ (q : Op). Verified p f.chunk f.address depth many hs q width) is
      (seen depth many hs runs.typed)

  there : op_at p.code f.address ≡ Some (said, width) → op_at p.code f.address ≡ Some (o, width)
  there read = read ∙ ap (λ (q : Op). Some (q, width)) is

  -- the instruction can begin
  pub ready : ReadyIn p f s o (f.address + width)
  ready = record {
    inside = runs.inside;
    operands = here.provides.enough;
    room = omega (arith, here.provides.room, runs.room);
    ahead = omega (arith, here.provides.wide);
  }

  -- the frame stands at the instruction
  pub stands : op_at p.code f.address ≡ Some (said, width) →
      StandsAt p f s o (f.address + width)
  stands read = record { width = width; read = there read; next_is = refl; seen = here }

  -- where the instruction leads, the typing knows the frame
  pub leads_typed : looping_of o ≡ looping.Keep → handling_of o ≡ handling.Keep → (b : ℕ) →
      In b (leads_of p o (f.address + width)) →
      IsTypedAt p f.chunk b (length s.stacks.operands - takes_of p o + gives_of o)
      (length s.stacks.cursors) (tries_in s.stacks.handlers)
  leads_typed holds keeps b leads =
      let left : ℕ = length s.stacks.operands - takes_of p o + gives_of o in
      let many = length s.stacks.cursors in
      subst (λ (h : Handling). IsTypedAt p f.chunk b left many
      (handled h left many (tries_in s.stacks.handlers))) keeps
      (goes_with_cursors holds here b leads)

  module _ (read : op_at p.code f.address ≡ Some (said, width))
      (holds : looping_of o ≡ looping.Keep) (keeps : handling_of o ≡ handling.Keep)
      (n : StepsView) (f' : Activation) (s' : Run H) (n' : StepsView) where
    -- the instruction was done, which keeps the cursors and the handlers
    pub stepped : (host host' : H) {r : Result Progress OutOfMemory} →
        Performs (setup law p engine) (moment f s n host) o (f.address + width) r
        (moment f' s' n' host') →
        Stepped (setup law p engine) (moment f s n host) r (moment f' s' n' host')
    stepped host host' does =
        done law p engine f s o width runs here holds keeps (there read) n f' s' n' host host'
        (same does.same) does.kept does.lands does.before

-- an instruction at which the frame stood was done, and the frame goes on with other handlers
pub arm_with : {H : Type 0} {law : Law H} {p : View} {engine : Engine} {f f' : Activation}
    {s s' : Run H} {n n' : StepsView} {host host' : H} {said o : Op} {next : ℕ}
    {r : Result Progress OutOfMemory} (is : said ≡ o) → looping_of o ≡ looping.Keep →
    (handlers : List Handler) →
    tries_in handlers ≡ handled (handling_of o)
    (length s.stacks.operands - takes_of p o + gives_of o) (length s.stacks.cursors)
    (tries_in s.stacks.handlers) →
    Above f.base handlers → StandsAt p f s said next → Runs p f s →
    Implements (setup law p engine) (moment f s n host)
    (λ m place w. instr m o next (frame_in f s place) w) (leads_of p o next) (takes_of p o)
    (gives_of o) handlers r (moment f' s' n' host') →
    Stepped (setup law p engine) (moment f s n host) r (moment f' s' n' host')
arm_with {H = H} {law} {p} {engine} {f} {f'} {s} {s'} {n} {n'} {host} {host'} {said} {o} {next} {r}
    is holds handlers become above at runs does =
    let read : op_at p.code f.address ≡ Some (o, at.width) =
    at.read ∙ ap (λ (q : Op). Some (q, at.width)) is in
    let here = subst (λ (k : ℕ). Implements (setup law p engine) (moment f s n host)
    (λ m place w. instr m o k (frame_in f s place) w) (leads_of p o k) (takes_of p o)
    (gives_of o) handlers r (moment f' s' n' host')) at.next_is does in
    done_with law p engine f s o at.width runs (verified is at) holds handlers become above f' s' read n
    n' host host' (same here.same) here.kept here.lands here.before

-- the same of one that keeps the handlers
pub arm : {H : Type 0} {law : Law H} {p : View} {engine : Engine} {f f' : Activation}
    {s s' : Run H} {n n' : StepsView} {host host' : H} {said o : Op} {next : ℕ}
    {r : Result Progress OutOfMemory} → said ≡ o → handling_of o ≡ handling.Keep →
    looping_of o ≡ looping.Keep → StandsAt p f s said next → Runs p f s →
    Performs (setup law p engine) (moment f s n host) o next r (moment f' s' n' host') →
    Stepped (setup law p engine) (moment f s n host) r (moment f' s' n' host')
arm {H = H} {law} {p} {engine} {f} {f'} {s} {s'} {n} {n'} {host} {host'} {said} {o} {next} {r} is
    keeps holds at runs does =
    arm_with {law = law} {p = p} {engine = engine} {f = f} {f' = f'} {s = s} {s' = s'} {n = n}
    {n' = n'} {host = host} {host' = host'} {o = o} {next = next} is holds s.stacks.handlers
    (ap (λ (h : Handling). handled h (length s.stacks.operands - takes_of p o + gives_of o)
    (length s.stacks.cursors) (tries_in s.stacks.handlers)) (sym keeps)) runs.above at runs does

-- where a branch leads
pub to_target : (t next b : ℕ) → In b (t ∷ []) →
    In b (cond (nat_lt t next) (t ∷ next ∷ []) (next ∷ t ∷ []))
to_target t next b (inl e) = of_two t next b (inl e)
to_target t next b (inr i) = absurd i

pub to_next : (t next b : ℕ) → In b (next ∷ []) →
    In b (cond (nat_lt t next) (t ∷ next ∷ []) (next ∷ t ∷ []))
to_next t next b (inl e) = of_two t next b (inr e)
to_next t next b (inr i) = absurd i

-- the same from a state with other operands
pub lands_on : {H : Type 0} (engine : Engine) (s s' : Run H) (v : StacksView) (f f' : Activation)
    (ts us : List ℕ) (takes gives more adds : ℕ) (hs : List Handler)
    (r : Result Progress OutOfMemory) →
    v.cursors ≡ s.stacks.cursors →
    length v.operands - takes + gives ≡ length s.stacks.operands - more + adds →
    length s.stacks.operands - more ≤ length v.operands - takes → v.handlers ≡ s.stacks.handlers →
    ((b : ℕ) → In b ts → In b us) →
    ContinuesAt engine (record s { stacks = v }) f s' f' ts takes gives v.handlers r →
    ContinuesAt engine s f s' f' us more adds s.stacks.handlers r
lands_on engine s s' v f f' ts us takes gives more adds hs (Ok progress.Continues) ec e g eh among l =
    (among f'.address l.0, l.1 ∙ e, l.2 ∙ eh, l.3, l.4 ∙ ec)
lands_on engine s s' v f f' ts us takes gives more adds hs (Ok progress.Returned) ec e g eh among l =
    tt
lands_on engine s s' v f f' ts us takes gives more adds hs (Ok progress.Failed) ec e g eh among l =
    (omega (arith, l.0, g), l.1 ∙ eh, l.2 ∙ ec)
lands_on engine s s' v f f' ts us takes gives more adds hs (Err x) ec e g eh among l = tt

-- what a method did from a state with other operands, for the instruction of which it is a part
pub implements_after : {H : Type 0} (law : Law H) (p : View) (engine : Engine) (f f' : Activation)
    (s s' : Run H) (n n' : StepsView) (v : StacksView) (ops : List Held) {first rule : Computation
    H}
    {ts us : List ℕ} {takes gives more adds : ℕ} {r : Result Progress OutOfMemory}
    (host host' : H) →
    v ≡ record s.stacks { operands = ops } → Implements (setup law p engine) (moment f (record s
    { stacks = v }) n host) first ts takes gives v.handlers r (moment f' s' n' host') →
    ((stop : Option ℕ) (u : Environment) (place : Option Place) →
    rule (stopped (setup law p engine) stop) place (world (abstraction s n host) u) ≡
    first (stopped (setup law p engine) stop) place (world (abstraction s n host) u)) →
    ((b : ℕ) → In b ts → In b us) →
    length ops - takes + gives ≡ length s.stacks.operands - more + adds →
    length s.stacks.operands - more ≤ length ops - takes →
    Implements (setup law p engine) (moment f s n host) rule us more adds s.stacks.handlers r
    (moment f' s' n' host')
implements_after {H = H} law p engine f f' s s' n n' v ops {first} {rule} {ts} {us} {takes} {gives}
    {more} {adds} {r} host host' rest does alike among height low = record {
      same = exactly (abstract_alike v ops rest) alike does.same;
      kept = record {
        chunk = does.kept.chunk;
        base = does.kept.base;
        scope = does.kept.scope;
        room = does.kept.room ∙ ap (λ (q : StacksView). q.room) rest;
        noted = does.kept.noted ∙ ap (λ (q : StacksView). q.noted) rest;
        outer = does.kept.outer ∙ ap (λ (q : StacksView). q.outer) rest;
        saved = does.kept.saved;
        level = does.kept.level;
        this = does.kept.this;
        later = does.kept.later;
      };
      lands = lands_on engine s s' v f f' ts us takes gives more adds v.handlers r
          (ap (λ (q : StacksView). q.cursors) rest)
          (omega (arith, height, ap (λ (q : StacksView). length q.operands) rest))
          (omega (arith, low, ap (λ (q : StacksView). length q.operands) rest))
          (ap (λ (q : StacksView). q.handlers) rest) among does.lands;
      before = does.before;
    } where
      abstract_alike : (v : StacksView) (ops : List Held) → v ≡ record s.stacks { operands = ops } →
          abstraction (record s { stacks = v }) n host ≡ abstraction s n host
      abstract_alike v ops rest = rw (ap (λ (q : StacksView). q.trace) rest) refl

-- what a method did from a state that is equal to this one, for the instruction of which it is a
-- part
pub implements_as : {H : Type 0} (law : Law H) (p : View) (engine : Engine) (f f' : Activation)
    (s t s' : Run H) (n n' : StepsView) {first rule : Computation H} {ts : List ℕ} {takes gives : ℕ}
    {hs : List Handler} {r : Result Progress OutOfMemory} (host host' : H) → t ≡ s →
    Implements (setup law p engine) (moment f t n host) first ts takes gives hs r
    (moment f' s' n' host') →
    ((stop : Option ℕ) (u : Environment) (place : Option Place) →
    rule (stopped (setup law p engine) stop) place (world (abstraction s n host) u)
    ≡ first (stopped (setup law p engine) stop) place (world (abstraction s n host) u)) →
    Implements (setup law p engine) (moment f s n host) rule ts takes gives hs r
    (moment f' s' n' host')
implements_as {H = H} law p engine f f' s t s' n n' {first} {rule} {ts} {takes} {gives} {hs} {r}
    host host' same does alike =
    let here : Implements (setup law p engine) (moment f s n host) first ts takes gives hs r
    (moment f' s' n' host') =
    subst (λ (q : Run H). Implements (setup law p engine) (moment f q n host) first ts takes gives
    hs r (moment f' s' n' host')) same does in
    record {
      same = exactly refl alike here.same;
      kept = here.kept;
      lands = here.lands;
      before = here.before;
    }

-- a fault is raised
pub raises_exactly : {H : Type 0} {m : Setup H} (f : Activation) (s s' : Run H) (n n' : StepsView)
    (host : H) (x : Problem) {rule : Computation H} (r : Result Progress OutOfMemory) →
    Raises s n x r s' n' →
    ((stop : Option ℕ) (u : Environment) (place : Option Place) →
    rule (stopped m stop) place (world (abstraction s n host) u) ≡
    raised (stopped m stop) (frame_in f s place) x (world (abstraction s n host) u)) →
    SimulatesExactly m (abstraction s n host) rule (is_out r) (abstraction s' n' host)
    (continuation r s'.fault (frame_in f s'))
raises_exactly {H = H} {m = m} f s s' n n' host x {rule} (Ok p) h alike =
    at p h.0 s'.fault s' h.1 h.2 n' h.3 where
      at : (p : Progress) → p ≡ progress.Failed → (y : EvalAltResult) (s' : Run H) →
          s' ≡ record s { fault = y } → problem_of s'.fault ≡ x → (n' : StepsView) →
          n' ≡ record n { passed = n.passed + 1 } →
          SimulatesExactly m (abstraction s n host) rule false (abstraction s' n' host)
          (continuation (Ok p) s'.fault (frame_in f s'))
      at p ep y s' es ex n' en =
          let is : problem_of y ≡ x = sym (ap (λ (q : Run H). problem_of q.fault) es) ∙ ex in
          rw (ep, es, en) (record {
            this = refl;
            order = omega arith;
            equal = λ stop clear halts u place. alike stop u place ∙
                rw (clear n.passed (omega arith) (omega arith), is) refl;
          })
raises_exactly {m = m} f s s' n n' host x {rule} (Err e) h alike = rw (h.0, h.1) (record {
  this = refl;
  order = omega arith;
  equal = λ stop clear halts u place. alike stop u place ∙ rw halts refl;
})

-- a write of an entry
pub kept_write : {H : Type 0} (f f' : Activation) (s : Run H) (v : StacksView) (ops : List Held)
    (scope : List Entry) (i : ℕ) (h : Held) → f'.chunk ≡ f.chunk → f'.base ≡ f.base →
    v ≡ record s.stacks { operands = ops } → scope ≡ set_held s.scope i h →
    f.base ≤ length s.scope → KeepsFrame f s f' (record s { stacks = v; scope = scope })
kept_write f f' s v ops scope i h ec eb rest written inside = record {
  chunk = ec;
  base = eb;
  scope = omega (
    arith,
    inside,
    ap (λ (es : List Entry). length es) written,
    length_set_held s.scope i h,
  );
  room = ap (λ (q : StacksView). q.room) rest;
  noted = ap (λ (q : StacksView). q.noted) rest;
  outer = ap (λ (q : StacksView). q.outer) rest;
  saved = refl;
  level = refl;
  this = (refl, refl);
  later = omega arith;
}
