-- A comparison and the branch after it: each is what its rule says, and the two turns are one.
use Rattle.std.proofs.Common.{◌≡◌, ◌<◌, ◌≤◌, ◌+◌, ◌-◌, ℕ, zero, suc, List, [], ◌∷◌, ◌++◌, Bool, true, false, cond, nat_lt, nat_le, inl, inr, Ok, Some, length, take, refl, ap, arith, length-append}
use Rattle.std.proofs.lemmas.Bool.Decides.{nat_tests}
use Rattle.std.proofs.lemmas.List.{length-take-le, take-append-le, take_all}
use Rattle.grain_value.specs.declared.values.Held.{Held}
use Rattle.grain_value.specs.declared.values.Dynamic.TheVariants as dynamic
use Rattle.grain_value.specs.Operands.{top, below, under, arguments, read_write}
use Rattle.grain_program.specs.declared.code.instruction_set.Op.TheVariants as op
use Rattle.grain_program.specs.View.{View}
use Rattle.grain_host.specs.Law.{Law}
use Rattle.grain_global.specs.declared.engines.Engine.{Engine}
use Rattle.grain_ops.specs.Outcomes.{Gave}
use Rattle.grain_means.specs.Rules.{operated, jump_if, agrees, flat_all}
use Rattle.grain_global.specs.StepsView.{StepsView}
use Rattle.grain_means.specs.Means.{setup}
use Rattle.grain_frame.specs.Abstraction.{frame_in, KeepsFrame, Ready, Implements, Performs, moment}
use Rattle.grain_frame.specs.Abstraction.{moved, marked_once, begun_one}
use Rattle.grain_frame.specs.Following.{judged, without_two}
use Rattle.grain_frame.specs.declared.activations.Activation.{Activation}
use Rattle.grain_frame.specs.declared.runs.Progress.TheVariants as progress
use Rattle.grain_frame.specs.declared.runs.Run.{Run}
use Rattle.grain_frame.specs.lemmas.Arms.{to_target, to_next}

-- the last operand, and the others
pub top_pushed : (xs : List Held) (h : Held) → top (xs ++ h ∷ []) ≡ h
top_pushed [] h = refl
top_pushed (x ∷ []) h = refl
top_pushed (x ∷ y ∷ xs) h = top_pushed (y ∷ xs) h

pub below_pushed : (xs : List Held) (h : Held) → below (xs ++ h ∷ []) ≡ xs
below_pushed xs h =
    let long : length (xs ++ h ∷ []) ≡ length xs + 1 = length-append xs (h ∷ []) in
    let front : length (xs ++ h ∷ []) - 1 ≡ length xs = omega (arith, long) in
    rw (front, take-append-le (length xs) xs (h ∷ []) (omega arith))
    (take_all (length xs) xs (omega arith))

take_within : (n m : ℕ) (xs : List Held) → n ≤ m → take n (take m xs) ≡ take n xs
take_within zero m xs le = refl
take_within (suc n) zero xs le = absurd (omega (arith, le))
take_within (suc n) (suc m) [] le = refl
take_within (suc n) (suc m) (x ∷ xs) le =
    ap (λ (l : List Held). x ∷ l) (take_within n m xs (omega (arith, le)))

module _ {H : Type 0} (law : Law H) (p : View) (engine : Engine) (f : Activation) (s : Run H)
    (truth : Bool) where
  -- how many operands there are once the truth value is there
  pub length_answered : 2 ≤ length s.stacks.operands → length (judged s truth).stacks.operands ≡
      length s.stacks.operands - 1
  length_answered two =
      omega (
        arith,
        two,
        length-append (under 2 s.stacks.operands)
            (read_write (dynamic.Bool truth) ∷ []),
        length-take-le (length s.stacks.operands - 2)
            s.stacks.operands (omega arith),
      )

  pub answered_kept : (next : ℕ) → f.base ≤ length s.scope →
      KeepsFrame f s (moved f next) (judged s truth)
  answered_kept next inside = record {
    chunk = refl;
    base = refl;
    scope = inside;
    room = refl;
    noted = refl;
    outer = refl;
    saved = refl;
    level = refl;
    this = (refl, refl);
    later = omega arith;
  }

  -- and without the operands of the comparison
  written_kept : (next : ℕ) → f.base ≤ length s.scope → (count : ℕ) → s.count ≤ count →
      KeepsFrame f (judged s truth) (moved f next) (record (without_two s) { count = count })
  written_kept next inside count le = record {
    chunk = refl;
    base = refl;
    scope = inside;
    room = refl;
    noted = refl;
    outer = refl;
    saved = refl;
    level = refl;
    this = (refl, refl);
    later = le;
  }

  -- the comparison does what its rule says
  pub answers : (name count token next : ℕ) (n : StepsView) (host : H) →
      Ready f s (op.CallOp name count token) next → count ≡ 2 → 2 ≤ length s.stacks.operands →
      flat_all s.cells (arguments count s.stacks.operands)
      ≡ Some (arguments count s.stacks.operands) →
      operated p engine token (arguments count s.stacks.operands) ≡ Gave (dynamic.Bool truth) →
      Performs (setup law p engine) (moment f s n host) (op.CallOp name count token) next
      (Ok progress.Continues) (moment (moved f next) (judged s truth) (marked_once n) host)
  answers name count token next n host ready is two readable gives = record {
    same = record {
      this = refl;
      order = omega arith;
      equal = λ stop clear halts u place. rw (
        readable,
        gives,
        is,
        clear n.passed (omega arith)
            (omega arith),
      )
          refl;
    };
    kept = answered_kept next ready.inside;
    lands = (
      inl refl,
      omega (arith, is, two, length_answered two),
      refl,
      inr (omega arith, ready.ahead),
      refl,
    );
    before = refl;
  }

  module _ (wanted : Bool) (target next : ℕ) (n : StepsView) (host : H)
      (two : 2 ≤ length s.stacks.operands) (inside : f.base ≤ length s.scope) where
    abbrev pub Branches : Activation → Run H → StepsView → Type 0
    Branches f' s' n' =
        Implements (setup law p engine) (moment f (judged s truth) (begun_one n) host)
        (λ m place w. jump_if m wanted target next (frame_in f (judged s truth) place) w)
        (cond (nat_lt target next) (target ∷ next ∷ []) (next ∷ target ∷ [])) 1 0
        s.stacks.handlers (Ok progress.Continues) (moment f' s' n' host)

    height : length (under 2 s.stacks.operands) ≡ length (judged s truth).stacks.operands - 1 + 0
    height = omega (
      arith,
      length_answered two,
      two,
      length-take-le (length s.stacks.operands - 2)
          s.stacks.operands (omega arith),
    )

    -- the value is not the wanted one
    pub falls : agrees wanted truth ≡ false → f.address < next →
        Branches (moved f next) (without_two s) (marked_once (begun_one n))
    falls other ahead = record {
      same = record {
        this = refl;
        order = omega arith;
        equal = λ stop clear halts u place.
            rw (
              top_pushed (under 2 s.stacks.operands) (read_write (dynamic.Bool truth)),
              below_pushed (under 2 s.stacks.operands) (read_write (dynamic.Bool truth)),
              other,
              clear (n.passed + 1) (omega arith) (omega arith),
            ) refl;
      };
      kept = written_kept next inside s.count (omega arith);
      lands = (to_next target next next (inl refl), height, refl, inr (omega arith, ahead), refl);
      before = refl;
    }

    -- it is, and the target lies ahead
    pub jumps : agrees wanted truth ≡ true → f.address < target →
        Branches (moved f target) (without_two s) (marked_once (begun_one n))
    jumps wanted_one ahead =
        let forth : nat_le target f.address ≡ false = grind (arith, nat_tests, ahead) in
        record {
          same = record {
            this = refl;
            order = omega arith;
            equal = λ stop clear halts u place.
                rw (
                  top_pushed (under 2 s.stacks.operands) (read_write (dynamic.Bool truth)),
                  below_pushed (under 2 s.stacks.operands) (read_write (dynamic.Bool truth)),
                  wanted_one,
                  forth,
                  clear (n.passed + 1) (omega arith) (omega arith),
                ) refl;
          };
          kept = written_kept target inside s.count (omega arith);
          lands = (to_target target next target (inl refl), height, refl, inr (omega arith, ahead), refl);
          before = refl;
        }
