-- A load of an integer with the instruction after it: the load is what its rule says, and the state
-- after it is one in which the frame runs.
use Rattle.std.proofs.Common.{◌≡◌, ◌≤◌, ◌+◌, ◌-◌, ℕ, ℤ, List, [], ◌∷◌, ◌++◌, false, inl, inr, Ok, Some, length, refl, arith, length-append}
use Rattle.std.proofs.lemmas.List.{length-take-le, take-append-le}
use Rattle.grain_value.specs.declared.values.Held.{Held}
use Rattle.grain_value.specs.declared.values.Dynamic.TheVariants as dynamic
use Rattle.grain_value.specs.Scopes.{set_held}
use Rattle.grain_value.specs.Operands.{below, under, arguments, read_write}
use Rattle.grain_program.specs.declared.code.instruction_set.Op.{Op}
use Rattle.grain_program.specs.declared.code.instruction_set.Op.TheVariants as op
use Rattle.grain_program.specs.declared.code.effects.Handling.TheVariants as handling
use Rattle.grain_program.specs.declared.code.effects.Looping.TheVariants as looping
use Rattle.grain_program.specs.Effects.{handling_of, looping_of}
use Rattle.grain_program.specs.Shapes.{TryHandler}
use Rattle.grain_program.specs.Decoding.{op_at}
use Rattle.grain_program.specs.TypedAt.{IsTypedAt, Verified}
use Rattle.grain_program.specs.View.{View, const_of, assign_op_of}
use Rattle.grain_host.specs.Law.{Law}
use Rattle.grain_global.specs.declared.engines.Engine.{Engine}
use Rattle.grain_ops.specs.Outcomes.{Gave}
use Rattle.grain_means.specs.Rules.{held_at, op_assigned, operated, flat_all}
use Rattle.grain_means.specs.lemmas.Scopes.{length_set_held}
use Rattle.grain_global.specs.StepsView.{StepsView}
use Rattle.grain_means.specs.Means.{setup}
use Rattle.grain_frame.specs.Abstraction.{KeepsFrame, Ready, Runs, Performs, Stepped, moment}
use Rattle.grain_frame.specs.Following.{PerformsOn, loaded}
use Rattle.grain_frame.specs.Abstraction.{moved, marked_once}
use Rattle.grain_frame.specs.declared.activations.Activation.{Activation}
use Rattle.grain_frame.specs.declared.runs.Progress.TheVariants as progress
use Rattle.grain_frame.specs.declared.runs.Run.{Run}
use Rattle.grain_frame.specs.lemmas.Turns.{both}
use Rattle.grain_frame.specs.lemmas.Arms.{stepped}
use Rattle.grain_frame.proofs.Branching.{top_pushed, below_pushed}

-- an operand is pushed, and then two go
pub under_pushed : (xs : List Held) (h : Held) → under 2 (xs ++ h ∷ []) ≡ below xs
under_pushed xs h =
    let long : length (xs ++ h ∷ []) ≡ length xs + 1 = length-append xs (h ∷ []) in
    let front : length (xs ++ h ∷ []) - 2 ≡ length xs - 1 = omega (arith, long) in
    rw front (take-append-le (length xs - 1) xs (h ∷ []) (omega arith))

-- an integer that can be written
pub held_is : (h : Held) (x : ℤ) → h.value ≡ dynamic.Int x → h.read_only ≡ false →
    h ≡ record { value = dynamic.Int x; read_only = false }
held_is h x ev er = rw (← ev, ← er) refl

module _ {H : Type 0} (law : Law H) (p : View) (engine : Engine) (f : Activation) (s : Run H)
    (z : ℤ) where
  -- how many operands there are once the integer is loaded
  pub length_loaded : length (loaded s z).stacks.operands ≡ length s.stacks.operands + 1
  length_loaded = length-append s.stacks.operands (read_write (dynamic.Int z) ∷ [])

  pub loaded_kept : (next : ℕ) → f.base ≤ length s.scope →
      KeepsFrame f s (moved f next) (loaded s z)
  loaded_kept next inside = record {
    chunk = refl;
    base = refl;
    scope = inside;
    room = refl;
    noted = refl;
    outer = refl;
    saved = refl;
    level = refl;
    this = (refl, refl);
    later = omega arith;
  }

  -- the load of a constant does what its rule says
  pub loads_const : (constant next : ℕ) (n : StepsView) (host : H) →
      Ready f s (op.LoadConst constant) next → const_of p constant ≡ dynamic.Int z →
      Performs (setup law p engine) (moment f s n host) (op.LoadConst constant) next
      (Ok progress.Continues) (moment (moved f next) (loaded s z) (marked_once n) host)
  loads_const constant next n host ready is = record {
    same = record {
      this = refl;
      order = omega arith;
      equal = λ stop clear halts u place. rw (is, clear n.passed (omega arith) (omega arith))
          refl;
    };
    kept = loaded_kept next ready.inside;
    lands = (
      inl refl,
      omega (arith, length_loaded),
      refl,
      inr (omega arith, ready.ahead),
      refl,
    );
    before = refl;
  }

  -- and that of an entry
  pub loads_local : (slot next : ℕ) (n : StepsView) (host : H) (h : Held) →
      Ready f s (op.LoadLocal slot) next → held_at s.scope (f.base + slot) ≡ Some h →
      h.value ≡ dynamic.Int z →
      Performs (setup law p engine) (moment f s n host) (op.LoadLocal slot) next (Ok
      progress.Continues) (moment (moved f next) (loaded s z) (marked_once n) host)
  loads_local slot next n host h ready there is = record {
    same = record {
      this = refl;
      order = omega arith;
      equal = λ stop clear halts u place.
          rw (there, is, clear n.passed (omega arith) (omega arith)) refl;
    };
    kept = loaded_kept next ready.inside;
    lands = (
      inl refl,
      omega (arith, length_loaded),
      refl,
      inr (omega arith, ready.ahead),
      refl,
    );
    before = refl;
  }

  -- an operator on two integers does what its rule says, and gives an integer
  pub gives_int : (name count token next : ℕ) (n : StepsView) (host : H) (r : ℤ) →
      Ready f s (op.CallOp name count token) next → count ≡ 2 → 2 ≤ length s.stacks.operands →
      flat_all s.cells (arguments count s.stacks.operands)
      ≡ Some (arguments count s.stacks.operands) →
      operated p engine token (arguments count s.stacks.operands) ≡ Gave (dynamic.Int r) →
      Performs (setup law p engine) (moment f s n host) (op.CallOp name count token) next
      (Ok progress.Continues) (moment (moved f next) (record s {
        stacks = record s.stacks {
          operands = under 2 s.stacks.operands ++ read_write (dynamic.Int r) ∷ [];
        };
      }) (marked_once n) host)
  gives_int name count token next n host r ready is two readable gives = record {
    same = record {
      this = refl;
      order = omega arith;
      equal = λ stop clear halts u place. rw (
        readable,
        gives,
        is,
        clear n.passed (omega arith)
            (omega arith),
      )
          refl;
    };
    kept = record {
      chunk = refl;
      base = refl;
      scope = ready.inside;
      room = refl;
      noted = refl;
      outer = refl;
      saved = refl;
      level = refl;
      this = (refl, refl);
      later = omega arith;
    };
    lands = (
      inl refl,
      omega (
        arith,
        is,
        two,
        length-append (under 2 s.stacks.operands) (read_write (dynamic.Int r) ∷ []),
        length-take-le (length s.stacks.operands - 2) s.stacks.operands (omega arith),
      ),
      refl,
      inr (omega arith, ready.ahead),
      refl,
    );
    before = refl;
  }

  -- an op-assignment of the integer that is loaded does what its rule says
  pub assigns : (slot name a next : ℕ) (n : StepsView) (host : H) (x r : ℤ) →
      Ready f (loaded s z) (op.AssignLocalOp slot name a) next →
      held_at s.scope (f.base + slot)
      ≡ Some (record { value = dynamic.Int x; read_only = false }) →
      op_assigned engine (assign_op_of p a) (dynamic.Int x) (dynamic.Int z)
      ≡ Gave (dynamic.Int r) →
      Performs (setup law p engine) (moment f (loaded s z) n host) (op.AssignLocalOp slot name a)
      next (Ok progress.Continues) (moment (moved f next) (record s {
        scope = set_held s.scope (f.base + slot)
            (record { value = dynamic.Int r; read_only = false });
      }) (marked_once (marked_once n)) host)
  assigns slot name a next n host x r ready there gives = record {
    same = record {
      this = refl;
      order = omega arith;
      equal = λ stop clear halts u place.
          rw (
            there,
            top_pushed s.stacks.operands (read_write (dynamic.Int z)),
            gives,
            below_pushed s.stacks.operands (read_write (dynamic.Int z)),
            clear n.passed (omega arith) (omega arith),
            clear (n.passed + 1) (omega arith) (omega arith),
          ) refl;
    };
    kept = record {
      chunk = refl;
      base = refl;
      scope = omega (
        arith,
        ready.inside,
        length_set_held s.scope (f.base + slot)
            (record { value = dynamic.Int r; read_only = false }),
      );
      room = refl;
      noted = refl;
      outer = refl;
      saved = refl;
      level = refl;
      this = (refl, refl);
      later = omega arith;
    };
    lands = (
      inl refl,
      omega (arith, length_loaded),
      refl,
      inr (omega arith, ready.ahead),
      refl,
    );
    before = refl;
  }

-- an instruction that was read in the code was done, perhaps with the one after it
pub stepped_on : {H : Type 0} (law : Law H) (p : View) (engine : Engine) (f : Activation) (s : Run
    H)
    (said o : Op) (width : ℕ) → said ≡ o → Runs p f s →
    ((depth cursors : ℕ) (hs : List TryHandler) →
    IsTypedAt p f.chunk f.address depth cursors hs →
    Verified p f.chunk f.address depth cursors hs said width) →
    op_at p.code f.address ≡ Some (said, width) → looping_of o ≡ looping.Keep →
    handling_of o ≡ handling.Keep → (n : StepsView)
    (f' : Activation) (s' : Run H) (n' : StepsView) (host : H) →
    PerformsOn (setup law p engine) (moment f s n host) o (f.address + width) (moment f' s' n' host)
    →
    Stepped (setup law p engine) (moment f s n host) (Ok progress.Continues) (moment f' s' n' host)
stepped_on law p engine f s said o width is runs seen read holds keeps n f' s' n' host (inl does) =
    stepped law p engine f s said o width is runs seen read holds keeps n f' s' n' host host does
stepped_on law p engine f s said o width is runs seen read holds keeps n f' s' n' host (inr two) =
    both law p engine f two.frame f' s two.run s' n two.counts n' host
    (stepped law p engine f s said o width is runs seen read holds keeps n two.frame two.run
    two.counts host host two.first) two.second
