-- What is noted of a property that was missed, and the trace that is kept of it.
use Rattle.std.proofs.Common.{◌≡◌, ◌∙◌, ◌&&◌, List, Option, Some, None, Bool, true, false, if◌then◌else◌, refl, sym, ap}
use Rattle.grain_fault.specs.Absences.{is_dot_expr, is_indexing_type, kind_is_dot_expr, kind_is_indexing_type}
use Rattle.grain_fault.specs.Problems.{DotExpr, FaultKind, InFunctionCall, InModule, NoMemory, Plain, Problem, SystemError}
use Rattle.grain_fault.specs.declared.traces.Fault.{Fault}
use Rattle.grain_means.specs.Worlds.{Answer, Came, Failed}
use Rattle.grain_means.specs.Rules.InWorld.{missed_by, trace_of}
use Rattle.grain_vm.specs.Asks.{IsMissed, has_missed, has_no_indexer}
use Rattle.grain_vm.specs.Seats.{kept_by}

-- a property that is not there is no index
kind_either : (k : FaultKind) → kind_is_dot_expr k ≡ true → kind_is_indexing_type k ≡ false
kind_either (DotExpr s) is = refl
kind_either k is = absurd cc

either : (x : Problem) → is_dot_expr x ≡ true → is_indexing_type x ≡ false
either (Plain k p) is = kind_either k is
either (InFunctionCall f s x p) is = refl
either (InModule m x p) is = refl
either (SystemError s e) is = refl
either NoMemory is = refl

-- where a property is missed, its own trace stands
own_trace : (before : Option (List Fault)) (x : Problem) (t : List Fault) → is_dot_expr x ≡ true →
    trace_of before (Failed x) t ≡ t
own_trace None x t is = refl
own_trace (Some before) x t is =
    ap (λ (b : Bool). if b then before else t) (either x is)

-- and so where a call gave a value, or where memory is out
pub trace_came : (before : Option (List Fault)) (a : Answer) (t : List Fault) →
    has_no_indexer a ≡ false → trace_of before a t ≡ t
trace_came None a t is = refl
trace_came (Some before) (Came v) t is = refl
trace_came (Some before) (Failed x) t is = ap (λ (b : Bool). if b then before else t) is

pub kept_none : (named : Bool) → kept_by named None ≡ None
kept_none true = refl
kept_none false = refl

-- what is noted once a call that left this trace has ended so
pub missed_now : (named : Bool) (before : Option (List Fault)) (a : Answer) (t : List Fault) →
    IsMissed (named && has_missed a) (trace_of before a t) (kept_by named (missed_by a t))
missed_now false before a t = refl
missed_now true before (Came v) t = refl
missed_now true before (Failed x) t = by (is_dot_expr x) refl where
  by : (b : Bool) → is_dot_expr x ≡ b →
      IsMissed b (trace_of before (Failed x) t) (if b then Some t else None)
  by true is = ap (λ (l : List Fault). Some l) (sym (own_trace before x t is))
  by false is = refl

-- the code keeps the same
pub missed_same : (named flag : Bool) (t : List Fault) (before own : Option (List Fault)) →
    IsMissed flag t before → IsMissed (named && flag) t own → own ≡ kept_by named before
missed_same false flag t before own was is = is
missed_same true true t before own was is = is ∙ sym was
missed_same true false t before own was is = is ∙ sym was
