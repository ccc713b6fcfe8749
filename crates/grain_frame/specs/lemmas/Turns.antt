-- One turn of a frame's loop after another.
use Rattle.std.proofs.Common.{◌≡◌, ◌≤◌, ◌+◌, ℕ, inl, inr, Option, List, Bool, false, Ok, ◌∙◌, refl, subst, arith}
use Rattle.grain_program.specs.Decoding.{op_at}
use Rattle.grain_program.specs.View.{View}
use Rattle.grain_means.specs.Worlds.{Go, Setup, Frame, InFrame, Place}
use Rattle.grain_means.specs.Rules.{or_return, start_instruction}
use Rattle.grain_means.specs.Ends.{went}
use Rattle.grain_means.specs.Simulation.{LocalState, Computation, Simulates}
use Rattle.grain_means.specs.lemmas.Stretches.{same, compose, before}
use Rattle.grain_means.specs.Means.{setup}
use Rattle.grain_host.specs.Law.{Law}
use Rattle.grain_global.specs.declared.engines.Engine.{Engine}
use Rattle.grain_global.specs.StepsView.{StepsView}
use Rattle.grain_frame.specs.Abstraction.{abstraction, begun_one, instruction_here, Progresses, Stepped, moment}
use Rattle.grain_frame.specs.Receivers.{KeepsBound}
use Rattle.grain_frame.specs.declared.activations.Activation.{Activation}
use Rattle.grain_frame.specs.declared.receivers.Bound.{Bound}
use Rattle.grain_frame.specs.declared.runs.Progress.TheVariants as progress
use Rattle.grain_frame.specs.declared.runs.Run.{Run}

module _ {H : Type 0} {m : Setup H} where
  -- an instruction begins: it is counted, and a mark is passed
  begins : (now : LocalState H) (f : Option Place → Frame) →
      Simulates m now (λ n place w. Go (InFrame (f place)) w) false
      (record now { ran = now.ran + 1; passed = now.passed + 1 }) (instruction_here f)
  begins now f =
      before {start = λ n place w.
      start_instruction n (or_return (op_at n.program.code (f place).address)) (f place)
      (record w { ran = w.ran + 1 })} {first = λ n place w. Go (InFrame (f place)) w}
      (λ n place w v a run. went run)
      (same (record {
        this = refl;
        order = omega arith;
        equal = λ stop clear halts u place.
            rw (clear now.passed (omega arith) (omega arith)) refl;
      }))

  -- an instruction begins, and the code does it
  pub turn : {old : LocalState H} {start : Computation H} (now : LocalState H) {here : LocalState H}
      {f : Option Place → Frame} {out : Bool} {new : LocalState H} {last : Computation H} →
      here ≡ record now { ran = now.ran + 1; passed = now.passed + 1 } →
      Simulates m old start false now (λ n place w. Go (InFrame (f place)) w) →
      Simulates m here (instruction_here f) out new last → Simulates m old start out new last
  turn now {f = f} {out} {new} {last} e h s =
      compose h
      (compose (begins now f)
      (subst (λ (q : LocalState H). Simulates m q (instruction_here f) out new last) e s) tt) tt

-- one turn after another
progresses_on : {H : Type 0} (engine : Engine) (s t u : Run H) (f g h : Activation) →
    Progresses engine s f t g → Progresses engine t g u h → t.count ≤ u.count →
    Progresses engine s f u h
progresses_on engine s t u f g h (inl a) b le = inl (omega (arith, a.0, le), a.1)
progresses_on engine s t u f g h (inr a) (inl b) le =
    inl (omega (arith, a.0, b.0), omega (arith, a.0, b.1))
progresses_on engine s t u f g h (inr a) (inr b) le =
    inr (omega (arith, a.0, b.0), omega (arith, a.1, b.1))

-- what each of two stretches keeps of the frames' `this` both keep
pub kept_bound : {level now : ℕ} (a b c : List Bound) → now ≡ level → KeepsBound level a b →
    KeepsBound now b c → KeepsBound level a c
kept_bound {level} {now} a b c same one two =
    let next : KeepsBound level b c = subst (λ (l : ℕ). KeepsBound l b c) same two in
    (next.0 ∙ one.0, next.1 ∙ one.1)

-- two turns are one
pub both : {H : Type 0} (law : Law H) (p : View) (engine : Engine) (f g h : Activation)
    (s t u : Run H) (n k l : StepsView) (host : H) → Stepped (setup law p engine)
    (moment f s n host)
    (Ok progress.Continues) (moment g t k host) → Stepped (setup law p engine)
    (moment g t (begun_one k) host)
    (Ok progress.Continues) (moment h u l host) → Stepped (setup law p engine)
    (moment f s n host) (Ok progress.Continues) (moment h u l host)
both law p engine f g h s t u n k l host one two = record {
  goes = turn (abstraction t k host) refl one.goes two.goes;
  kept = record {
    chunk = two.kept.chunk ∙ one.kept.chunk;
    base = two.kept.base ∙ one.kept.base;
    scope = omega (arith, two.kept.scope, one.kept.base);
    room = two.kept.room ∙ one.kept.room;
    noted = two.kept.noted ∙ one.kept.noted;
    outer = two.kept.outer ∙ one.kept.outer;
    saved = two.kept.saved ∙ one.kept.saved;
    level = two.kept.level ∙ one.kept.level;
    this = kept_bound s.receivers t.receivers u.receivers one.kept.level one.kept.this
        two.kept.this;
    later = omega (arith, one.kept.later, two.kept.later);
  };
  stays = (
    two.stays.0,
    progresses_on engine s t u f g h one.stays.1 two.stays.1 two.kept.later,
    one.stays.2,
    two.stays.3,
  );
  before = two.before ∙ one.before;
}
