-- What a run keeps where a native hears what came of a call.
use Rattle.std.proofs.Common.{◌≡◌, List, Option, None, false, Result, refl}
use Rattle.grain_value.specs.Cells.{idle}
use Rattle.grain_value.specs.declared.values.Dynamic.{Dynamic}
use Rattle.grain_value.specs.declared.values.Held.{Held}
use Rattle.grain_fault.specs.declared.faults.EvalAltResult.{EvalAltResult}
use Rattle.grain_fault.specs.declared.traces.Fault.{Fault}
use Rattle.grain_means.specs.lemmas.PlaceLaws.{length-set}
use Rattle.grain_means.specs.lemmas.Scopes.{length_set_held}
use Rattle.grain_frame.specs.Waiting.{IsKept, IsKeptAt, LeavesLent, ToldRun, apart_of, given_back_run}
use Rattle.grain_frame.specs.Targets.{put_in}
use Rattle.grain_frame.specs.declared.native_calls.Asked.{Asked}
use Rattle.grain_frame.specs.declared.runs.Run.{Run}
use Rattle.grain_frame.specs.declared.targets.Target.{Target}
use Rattle.grain_frame.specs.declared.targets.Target.TheVariants as to
use Rattle.grain_frame.specs.declared.waiting.Loan.{Loan}
use Rattle.grain_frame.specs.declared.waiting.Loan.TheVariants as have
use Rattle.grain_frame.specs.declared.waiting.Resumed.TheVariants as went
use Rattle.grain_frame.specs.lemmas.Resting.{put_idle}
use Rattle.grain_frame.proofs.Holding.{holds_plainly, put_holds}
use Rattle.grain_frame.proofs.Returning.{KeepsFlag, kept_again}
use Rattle.grain_frame.proofs.Targeting.{put_keeps_this}

module _ {H : Type 0} (s : Run H) (trace : List Fault) where
  abbrev traced : Run H → Run H
  traced q = record q { stacks = record q.stacks { trace = trace } }

  pub over_run : (o : Result Dynamic EvalAltResult) (l : Loan) (left : Option Held) (l' : Loan)
      (s1 e : Run H) (given : Option Held) → IsKept s l → LeavesLent s l left l' s1 →
      KeepsFlag s l left → e ≡ given_back_run l' (traced s1) → given ≡ apart_of l' →
      ToldRun l s (went.Over o given) e
  over_run o have.Nothing left l' s1 e given kept leaves flag is gives =
      rw (is, gives, leaves.1, leaves.2) (record {
        others = refl;
        long = refl;
        this = (refl, refl);
        size = refl;
        left = refl;
        same = refl;
      })
  over_run o (have.Target t) left l' s1 e given kept leaves flag is gives =
      rw (is, gives, leaves.2, leaves.3) (at t leaves.0 kept (rw leaves.1 at flag)) where
        at : (t : Target) (h : Held) → IsKeptAt s t → h.read_only ≡ false →
            ToldRun (have.Target t) s (went.Over o None) (traced (put_in s t h))
        at (to.Entry i) h kept plain = record {
          others = refl;
          long = length_set_held s.scope i h;
          this = (refl, refl);
          size = refl;
          left = (
            refl,
            holds_plainly (put_in s (to.Entry i) h) (to.Entry i) h
                (put_holds s (to.Entry i) h (kept_again s (to.Entry i) kept)) plain,
          );
          same = tt;
        }
        at (to.Cell c) h kept plain = absurd kept
        at to.This h kept plain = record {
          others = refl;
          long = refl;
          this = put_keeps_this s to.This h (kept_again s to.This kept);
          size = refl;
          left = (
            refl,
            holds_plainly (put_in s to.This h) to.This h
                (put_holds s to.This h (kept_again s to.This kept)) plain,
          );
          same = tt;
        }
  over_run o (have.Cell c g) left l' s1 e given kept leaves flag is gives =
      rw (is, gives, leaves.2, leaves.3) (record {
        others = refl;
        long = refl;
        this = (refl, refl);
        size = length-set s.cells c (idle leaves.0);
        left = (refl, put_idle s.cells c leaves.0);
        same = refl;
      })
  over_run o (have.Apart g) left l' s1 e given kept leaves flag is gives =
      rw (is, gives, leaves.2, leaves.3) (record {
        others = refl;
        long = refl;
        this = (refl, refl);
        size = refl;
        left = (leaves.0, refl, rw leaves.1 at flag);
        same = refl;
      })

  pub asks_run : (a : Asked) (l : Loan) (left : Option Held) (l' : Loan) (s1 e : Run H) →
      IsKept s l → LeavesLent s l left l' s1 → KeepsFlag s l left → e ≡ traced s1 →
      ToldRun l s (went.Asks a l') e
  asks_run a have.Nothing left l' s1 e kept leaves flag is =
      rw (is, leaves.1, leaves.2) (record {
        others = refl;
        long = refl;
        this = (refl, refl);
        size = refl;
        left = refl;
        same = refl;
      })
  asks_run a (have.Target t) left l' s1 e kept leaves flag is =
      rw (is, leaves.2, leaves.3) (at t leaves.0 kept (rw leaves.1 at flag)) where
        at : (t : Target) (h : Held) → IsKeptAt s t → h.read_only ≡ false →
            ToldRun (have.Target t) s (went.Asks a (have.Target t)) (traced (put_in s t h))
        at (to.Entry i) h kept plain = record {
          others = refl;
          long = length_set_held s.scope i h;
          this = (refl, refl);
          size = refl;
          left = (
            refl,
            holds_plainly (put_in s (to.Entry i) h) (to.Entry i) h
                (put_holds s (to.Entry i) h (kept_again s (to.Entry i) kept)) plain,
          );
          same = tt;
        }
        at (to.Cell c) h kept plain = absurd kept
        at to.This h kept plain = record {
          others = refl;
          long = refl;
          this = put_keeps_this s to.This h (kept_again s to.This kept);
          size = refl;
          left = (
            refl,
            holds_plainly (put_in s to.This h) to.This h
                (put_holds s to.This h (kept_again s to.This kept)) plain,
          );
          same = tt;
        }
  asks_run a (have.Cell c g) left l' s1 e kept leaves flag is =
      rw (is, leaves.2, leaves.3) (record {
        others = refl;
        long = refl;
        this = (refl, refl);
        size = refl;
        left = (leaves.0, refl, rw leaves.1 at flag);
        same = refl;
      })
  asks_run a (have.Apart g) left l' s1 e kept leaves flag is =
      rw (is, leaves.2, leaves.3) (record {
        others = refl;
        long = refl;
        this = (refl, refl);
        size = refl;
        left = (leaves.0, refl, rw leaves.1 at flag);
        same = refl;
      })
