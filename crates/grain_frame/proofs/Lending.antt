-- What was lent to a native is back, and a target is written.
use Rattle.std.proofs.Common.{◌≡◌, ◌∙◌, ◌<◌, ◌≤◌, ◌+◌, ◌-◌, ℕ, List, [], ◌∷◌, Option, Some, None, Bool, true, false, inl, inr, Result, Ok, Err, length, refl, sym, ap, subst, arith}
use Rattle.std.specs.Prelude.{if◌then◌else◌}
use Rattle.std.proofs.lemmas.List.{length-take-le}
use Rattle.grain_value.specs.Tree.{Tree}
use Rattle.grain_value.specs.declared.values.Dynamic.{Dynamic}
use Rattle.grain_value.specs.declared.values.Held.{Held}
use Rattle.grain_value.specs.declared.scopes.Entry.{Entry}
use Rattle.grain_value.specs.declared.stores.Cell.{Cell}
use Rattle.grain_value.specs.declared.memory.OutOfMemory.{OutOfMemory}
use Rattle.grain_value.specs.Operands.{below, read_write}
use Rattle.grain_fault.specs.declared.places.Position.{Position}
use Rattle.grain_program.specs.declared.code.parts.AssignOp.{AssignOp}
use Rattle.grain_program.specs.View.{View, name_of}
use Rattle.grain_stack.specs.Views.{StacksView}
use Rattle.grain_host.specs.Law.{Law, Reply, written}
use Rattle.grain_host.specs.Law as reply
use Rattle.grain_host.specs.Answers.{Answers, Replies, reply_of}
use Rattle.grain_host.specs.declared.host_answers.Args.{Args}
use Rattle.grain_host.specs.declared.host_answers.HostAnswer.{HostAnswer}
use Rattle.grain_global.specs.declared.engines.Engine.{Engine}
use Rattle.grain_ops.specs.Outcomes.{Outcome, Gave, NotBuiltIn}
use Rattle.grain_means.specs.Worlds.{Frame, Go, InFrame, Place, Setup, World}
use Rattle.grain_means.specs.Rules.{Home, assigned_at, back_in_cells, back_in_roots, back_in_scope, flattened, native, native_assigned_at, onward, op_assign_failed_at, operator_at, outcome_at, raised, stepped}
use Rattle.grain_means.specs.Simulation.{Binds, Computation, Environment, after, stopped, world}
use Rattle.grain_means.specs.Means.{setup}
use Rattle.grain_means.specs.lemmas.PlaceLaws.{some-inj}
use Rattle.grain_global.specs.StepsView.{StepsView}
use Rattle.grain_frame.specs.Abstraction.{ContinuesAt, ImplementsBound, KeepsFrame, abstraction, frame_in, marked_once, moment, moved, this_of}
use Rattle.grain_frame.specs.Natives.{EndsBy, ServesAt}
use Rattle.grain_frame.specs.Receivers.{KeepsBound}
use Rattle.grain_frame.specs.Targets.{CanBeLent, HoldsAt, home_of, put_in, receiver_at, taken_out}
use Rattle.grain_frame.specs.declared.activations.Activation.{Activation}
use Rattle.grain_frame.specs.declared.native_calls.NativeEnd.{NativeEnd}
use Rattle.grain_frame.specs.declared.native_calls.NativeEnd.TheVariants as native_end
use Rattle.grain_frame.specs.declared.receivers.Bound.{Bound}
use Rattle.grain_frame.specs.declared.runs.Progress.TheVariants as progress
use Rattle.grain_frame.specs.declared.runs.Run.{Run}
use Rattle.grain_frame.specs.declared.targets.Target.{Target}
use Rattle.grain_frame.specs.lemmas.Bound.{while_bound}
use Rattle.grain_frame.proofs.Homes.{put_binds, put_world, target_written}
use Rattle.grain_frame.proofs.Targeting.{lends_beside, long_as, put_differs, put_keeps, put_keeps_this, put_same, put_stacks, put_twice}

-- an op-assignment that the host does asks for a native to which the target is lent
pub lent_at : {S : Type 0} (m : Setup S) (t : Target) (place : Option Place) (name : List ℕ)
    (a : AssignOp) (h : Held) (u : Dynamic) (v : Held) (next : ℕ) (f : Frame) (w : World S) →
    h.read_only ≡ false → native_assigned_at m (home_of t place) name a h u v next f w
    ≡ native m (name_of m.program a.op_assign_name) (Some (receiver_at t place (read_write u)))
    (v ∷ []) f w (λ r w1. onward m f (stepped f next (below f.operands)) w1)
    (op_assign_failed_at m (home_of t place) name a h v next f)
lent_at m t place name a h u v next f w plain =
    subst (λ (b : Bool). native_assigned_at m (home_of t place) name a h u v next f w
    ≡ native m (name_of m.program a.op_assign_name)
    (Some (receiver_at t place (record { value = u; read_only = b }))) (v ∷ [])
    f w (λ r w1. onward m f (stepped f next (below f.operands)) w1)
    (op_assign_failed_at m (home_of t place) name a h v next f)) plain refl

-- what an op-assignment gives, in the target, and what follows where no built-in does it
pub gave_is : {S : Type 0} (m : Setup S) (home : Home) (name : List ℕ) (o : Outcome) (a : AssignOp)
    (h : Held) (u : Dynamic) (v : Held) (next : ℕ) (f : Frame) (w : World S) (r : Dynamic) →
    o ≡ Gave r → h.read_only ≡ false → outcome_at m home name o a h u v next f w
    ≡ assigned_at m home (read_write r) name next f w
gave_is m home name o a h u v next f w r is plain = rw (is, plain) refl

pub none_is : {S : Type 0} (m : Setup S) (home : Home) (name : List ℕ) (o : Outcome) (a : AssignOp)
    (h : Held) (u : Dynamic) (v : Held) (next : ℕ) (f : Frame) (w : World S) → o ≡ NotBuiltIn →
    outcome_at m home name o a h u v next f w
    ≡ native_assigned_at m home name a h u v next f w
none_is m home name o a h u v next f w is = rw is refl

-- the host's operator is a native whose value is written into the target, which can be
pub operator_is_native : {S : Type 0} (m : Setup S) (home : Home) (name op : List ℕ) (h u v : Held)
    (next : ℕ) (f : Frame) (w : World S) → h.read_only ≡ false →
    operator_at m home name op h u v next f w
    ≡ native m op None (u ∷ v ∷ []) f w
    (λ r w1. flattened m (read_write r) name f w1
    (λ q. assigned_at m home (read_write q) name next f w1)) (raised m f)
operator_is_native m home name op h u v next f w plain =
    subst (λ (b : Bool). operator_at m home name op h u v next f w
    ≡ native m op None (u ∷ v ∷ []) f w
    (λ r w1. flattened m (read_write r) name f w1
    (λ q. assigned_at m home (record { value = q; read_only = b }) name next f w1)) (raised m f))
    plain refl

-- a native leaves the flag of what it is lent
pub written_flag : {H : Type 0} (law : Law H) (host : H) (key : ℕ) (values : List Tree) (h : Held) →
    (written law host key values h).read_only ≡ h.read_only
written_flag law host key values h = at (law.writes host key) where
  at : (b : Bool) →
      (if b then record h { value = law.call_written host key h values } else h).read_only
      ≡ h.read_only
  at true = refl
  at false = refl

pub back_flag : {H : Type 0} (law : Law H) (host host' : H) (key : ℕ) (values : List Tree) (u : Held)
    (left : Args) (back : Held) (answer : HostAnswer) →
    Answers law host key (record { receiver = Some u; values = values }) answer host' left →
    left.receiver ≡ Some back → back.read_only ≡ u.read_only
back_flag law host host' key values u left back answer answers given =
    by_reply (reply_of answer) answers where
      by_reply : (said : Option Reply) →
          Replies law host key (record { receiver = Some u; values = values }) said host' left →
          back.read_only ≡ u.read_only
      by_reply (Some x) follows =
          ap (λ (h : Held). h.read_only) (some-inj (sym given ∙ follows.2))
          ∙ written_flag law host key values u
      by_reply None same = ap (λ (h : Held). h.read_only) (some-inj (sym given ∙ same.1))

module _ {H : Type 0} (law : Law H) (s : Run H) (n : StepsView) (host : H) (key : ℕ) (t : Target)
    (h : Held) (values : List Tree) (p : Position) (there : HoldsAt s t h) (left : Args)
    (host' : H) (n' : StepsView) (u back : Held) (mid after : Run H)
    (taken : mid ≡ taken_out s t u) (given : left.receiver ≡ Some back)
    (put : after ≡ put_in mid t back) where
  held_back : (g : Held) → left.receiver ≡ Some g → after ≡ put_in s t g
  held_back g is =
      let same : back ≡ g = cc in
      put ∙ (ap (λ (q : Run H). put_in q t back) taken ∙
      (put_twice s t u back ∙ ap (λ (x : Held). put_in s t x) same))

  abbrev Served : Result NativeEnd OutOfMemory → Type 0
  Served r = ServesAt law s n host key t h values p r after n' host'

  by_reply : (said : Option Reply) →
      Replies law host key (record { receiver = Some h; values = values }) said host' left →
      (r : Result NativeEnd OutOfMemory) → EndsBy said p r n n' → Served r
  by_reply (Some x) follows (Ok (native_end.Value v)) ends =
      let is : x ≡ reply.Done v = cc in (
        sym is ∙ follows.0,
        follows.1,
        held_back (written law host key values h) follows.2,
        ends.1,
      )
  by_reply (Some x) follows (Ok (native_end.Fault f)) ends =
      let said = ends.1 in
      let is : x ≡ reply.Failed ends.0 = cc in (
        ends.0,
        sym is ∙ follows.0,
        follows.1,
        ends.2,
        held_back (written law host key values h) follows.2,
        ends.3,
      )
  by_reply (Some x) follows (Ok (native_end.Asks a)) ends =
      let said = ends.0 in
      let is : x ≡ reply.Ask a.token a.pointer a.values = cc in (
        sym is ∙ follows.0,
        follows.1,
        held_back (written law host key values h) follows.2,
        ends.1,
      )
  by_reply (Some x) follows (Err e) ends =
      let said = ends.0 in absurd cc
  by_reply None same (Ok (native_end.Value v)) ends =
      let said = ends.0 in absurd cc
  by_reply None same (Ok (native_end.Fault f)) ends =
      let said = ends.1 in absurd cc
  by_reply None same (Ok (native_end.Asks a)) ends =
      let said = ends.0 in absurd cc
  by_reply None same (Err e) ends = (
    same.0,
    held_back h same.1 ∙ put_same s t h there,
    ends.1,
  )

  -- what was lent is back, as the host left it
  pub lends : (answer : HostAnswer) (r : Result NativeEnd OutOfMemory) →
      Answers law host key (record { receiver = Some h; values = values }) answer host' left →
      EndsBy (reply_of answer) p r n n' → Served r
  lends answer r answers ends = by_reply (reply_of answer) answers r ends

module _ {H : Type 0} (law : Law H) (p : View) (engine : Engine) (f : Activation) (s : Run H)
    (n : StepsView) (host : H) (t : Target) (next : ℕ) (can : CanBeLent s t)
    (inside : f.base ≤ length s.scope) (operand : 0 < length s.stacks.operands)
    (ahead : f.address < next) where
  -- the run without the operand
  abbrev used : Run H
  used = record s { stacks = record s.stacks { operands = below s.stacks.operands } }

  module _ (scope : List Entry) (cells : List Cell) (bs : List Bound) (end : Run H)
      (is : end ≡ record used { scope = scope; cells = cells; receivers = bs })
      (long : length scope ≡ length s.scope) (this : KeepsBound s.level s.receivers bs) where
    used_kept : KeepsFrame f s (moved f next) end
    used_kept = rw is (record {
      chunk = refl;
      base = refl;
      scope = omega (arith, inside, long);
      room = refl;
      noted = refl;
      outer = refl;
      saved = refl;
      level = refl;
      this = this;
      later = omega arith;
    })

    used_lands : ContinuesAt engine s f end (moved f next) (next ∷ []) 1 0 s.stacks.handlers
        (Ok progress.Continues)
    used_lands = rw is (inl refl, height, refl, inr (omega arith, ahead), refl) where
      height : length (below s.stacks.operands) ≡ length s.stacks.operands - 1 + 0
      height = omega
          (arith, length-take-le (length s.stacks.operands - 1) s.stacks.operands (omega arith))

  -- the target is written, the operand is used up, and the frame goes on
  pub writes : (g : Held) (name : Setup H → List ℕ) (stacks : StacksView) (end : Run H)
      {rule : Computation H} → g.read_only ≡ false →
      stacks ≡ record s.stacks { operands = below s.stacks.operands } →
      end ≡ put_in (record s { stacks = stacks }) t g →
      ((stop : Option ℕ) (u : Environment) (place : Option Place) →
      Binds u.roots place (this_of s) →
      rule (stopped (setup law p engine) stop) place (world (abstraction s n host) u)
      ≡ assigned_at (stopped (setup law p engine) stop) (home_of t place) g
      (name (stopped (setup law p engine) stop)) next (frame_in f s place)
      (world (abstraction s n host) u)) →
      ImplementsBound (setup law p engine) (moment f s n host) rule (next ∷ []) 1 0
      s.stacks.handlers (Ok progress.Continues)
      (moment (moved f next) end (marked_once (marked_once n)) host)
  writes g name stacks end {rule} plain popped is alike = rw end_is (record {
    same = while_bound (omega arith) (λ stop clear halts u place bound. (
      put_binds used u place bound t g free plain,
      alike stop u place bound
          ∙ (target_written (stopped (setup law p engine) stop) s t place g
          (name (stopped (setup law p engine) stop)) (frame_in f s place)
          (world (abstraction s n host) u)
          (onward (stopped (setup law p engine) stop) (frame_in f s place)
          (stepped (frame_in f s place) next (below s.stacks.operands))) can refl
          ∙ rw (
            clear n.passed (omega arith) (omega arith),
            clear (n.passed + 1) (omega arith) (omega arith),
          ) (arrives u place bound)),
    ));
    kept = used_kept (put_in used t g).scope (put_in used t g).cells (put_in used t g).receivers
        (put_in used t g) (put_differs used t g) (long_as used t g)
        (put_keeps_this used t g free);
    lands = used_lands (put_in used t g).scope (put_in used t g).cells
        (put_in used t g).receivers (put_in used t g) (put_differs used t g) (long_as used t g)
        (put_keeps_this used t g free);
    before = refl;
  }) where
    end_is : end ≡ put_in used t g
    end_is = is ∙ ap (λ (v : StacksView). put_in (record s { stacks = v }) t g) popped

    free : CanBeLent used t
    free = lends_beside s (record s.stacks { operands = below s.stacks.operands }) t can

    arrives : (u : Environment) (place : Option Place) → Binds u.roots place (this_of s) →
        Go (InFrame (frame_in (moved f next) used place))
        (record (world (abstraction s (marked_once (marked_once n)) host) u) {
          scope = back_in_scope (home_of t place) g s.scope;
          cells = back_in_cells (home_of t place) g s.cells;
          roots = back_in_roots (home_of t place) g u.roots;
        })
        ≡ Go (InFrame (frame_in (moved f next) (put_in used t g) place))
        (world (abstraction (put_in used t g) (marked_once (marked_once n)) host)
        (after u place (this_of (put_in used t g))))
    arrives u place bound =
        ap (λ (w : World H). Go (InFrame (frame_in (moved f next) used place)) w)
        (sym (put_world used u place bound (marked_once (marked_once n)) host t g free plain))
        ∙ ap (λ (v : StacksView). Go (InFrame (frame_in (moved f next)
        (record s { stacks = v }) place))
        (world (abstraction (put_in used t g) (marked_once (marked_once n)) host)
        (after u place (this_of (put_in used t g))))) (sym (put_keeps used t g))

  -- the same where the target was written first
  pub writes_first : (g : Held) (name : Setup H → List ℕ) (mid : Run H) (stacks : StacksView)
      {rule : Computation H} → g.read_only ≡ false → mid ≡ put_in s t g →
      stacks ≡ record mid.stacks { operands = below mid.stacks.operands } →
      ((stop : Option ℕ) (u : Environment) (place : Option Place) →
      Binds u.roots place (this_of s) →
      rule (stopped (setup law p engine) stop) place (world (abstraction s n host) u)
      ≡ assigned_at (stopped (setup law p engine) stop) (home_of t place) g
      (name (stopped (setup law p engine) stop)) next (frame_in f s place)
      (world (abstraction s n host) u)) →
      ImplementsBound (setup law p engine) (moment f s n host) rule (next ∷ []) 1 0
      s.stacks.handlers (Ok progress.Continues) (moment (moved f next)
      (record mid { stacks = stacks }) (marked_once (marked_once n)) host)
  writes_first g name mid stacks plain written popped alike =
      writes g name stacks (record mid { stacks = stacks }) plain
      (popped ∙ ap (λ (v : StacksView). record v { operands = below v.operands }) kept)
      (ap (λ (q : Run H). record q { stacks = stacks }) written
      ∙ put_stacks s stacks t g) alike where
        kept : mid.stacks ≡ s.stacks
        kept = ap (λ (q : Run H). q.stacks) written ∙ put_keeps s t g
