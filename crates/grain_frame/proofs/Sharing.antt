-- What an entry holds becomes the content of a new cell, which the entry then is.
use Rattle.std.proofs.Common.{◌≡◌, ◌<◌, ◌≤◌, ◌+◌, ℕ, List, [], ◌∷◌, ◌++◌, None, Ok, length, refl, ap, inl, inr, arith}
use Rattle.grain_value.specs.Cells.{idle}
use Rattle.grain_value.specs.Operands.{read_write}
use Rattle.grain_value.specs.Scopes.{set_held}
use Rattle.grain_value.specs.declared.scopes.Entry.{Entry}
use Rattle.grain_value.specs.declared.values.Dynamic.TheVariants as dynamic
use Rattle.grain_value.specs.declared.values.Held.{Held}
use Rattle.grain_program.specs.View.{View}
use Rattle.grain_host.specs.Law.{Law}
use Rattle.grain_global.specs.declared.engines.Engine.{Engine}
use Rattle.grain_means.specs.Rules.{shared}
use Rattle.grain_means.specs.lemmas.Scopes.{length_set_held}
use Rattle.grain_global.specs.StepsView.{StepsView}
use Rattle.grain_means.specs.Means.{setup}
use Rattle.grain_frame.specs.Abstraction.{frame_in, Implements, moment}
use Rattle.grain_frame.specs.Abstraction.{moved, marked_once}
use Rattle.grain_frame.specs.declared.activations.Activation.{Activation}
use Rattle.grain_frame.specs.declared.runs.Progress.TheVariants as progress
use Rattle.grain_frame.specs.declared.runs.Run.{Run}
use Rattle.grain_frame.specs.lemmas.Entries.{entry_twice}

pub shares : {H : Type 0} (law : Law H) (p : View) (engine : Engine) (f : Activation) (s : Run H)
    (n : StepsView) (host : H) (h : Held) (slot index next cell : ℕ) (mid : Run H)
    (scope : List Entry) → f.base + slot ≡ index → cell ≡ length s.cells →
    mid ≡ record s {
      scope = set_held s.scope index (read_write dynamic.Unit);
      cells = s.cells ++ idle h ∷ [];
    } → scope ≡ set_held mid.scope index (read_write (dynamic.Cell cell)) →
    f.base ≤ length s.scope → f.address < next →
    Implements (setup law p engine) (moment f s n host) (λ m place w. shared m None h slot next
    (frame_in f s place) w) (next ∷ []) 0 0 s.stacks.handlers (Ok progress.Continues) (moment (moved
    f next) (record mid { scope = scope }) (marked_once (marked_once (marked_once n))) host)
shares {H = H} law p engine f s n host h slot index next cell mid scope at number made written
    inside ahead = rw after_is (record {
      same = record {
        this = refl;
        order = omega arith;
        equal = λ stop clear halts u place. rw (
          clear n.passed (omega arith) (omega arith),
          clear (n.passed + 1) (omega arith) (omega arith),
          clear (n.passed + 1 + 1) (omega arith) (omega arith),
          at,
        ) refl;
      };
      kept = record {
        chunk = refl;
        base = refl;
        scope = omega (
          arith,
          inside,
          length_set_held s.scope index (read_write (dynamic.Cell (length s.cells))),
        );
        room = refl;
        noted = refl;
        outer = refl;
        saved = refl;
        level = refl;
        this = (refl, refl);
        later = omega arith;
      };
      lands = (inl refl, omega arith, refl, inr (omega arith, ahead), refl);
      before = refl;
    }) where
      after_is : record mid { scope = scope } ≡ record s {
        scope = set_held s.scope index (read_write (dynamic.Cell (length s.cells)));
        cells = s.cells ++ idle h ∷ [];
      }
      after_is = rw (written, made, number)
          (ap (λ (es : List Entry). record s { scope = es; cells = s.cells ++ idle h ∷ [] })
          (entry_twice s.scope index (read_write dynamic.Unit)
          (read_write (dynamic.Cell (length s.cells)))))
