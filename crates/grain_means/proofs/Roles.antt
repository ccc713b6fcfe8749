-- What a run of two begins with: the frame of a function's body or of main, or the calls that a native
-- asks for; and what is so where that is over.
use Rattle.std.specs.Prelude.{◌≡◌, ◌⊎◌, ◌+◌, ℕ, List, [], Option, None, true, length}
use Rattle.grain_fault.specs.Problems.{Problem, NoMemory}
use Rattle.grain_means.specs.Worlds.{Act, Answer, Came, Callback, End, Failed, Go, InCatch, InFrame, InHost, Setup, Then, Todo, World}
use Rattle.grain_means.specs.Rules.{is_stop, with_token}
use Rattle.grain_means.proofs.Unlent.{cell_away}
use Rattle.grain_means.specs.Causes.{AsksNext, Cause, HostFails, LeavesBack, body_back}

pub data Role : Type 0 where
  Framed : Role
  Hosting : Role

-- the tokens that are out where the run stands at this, if these are out around it
abbrev pub tokens_at : Todo → Option (List ℕ) → Option (List ℕ)
tokens_at (InFrame f) tokens = tokens
tokens_at (InCatch f h x) tokens = tokens
tokens_at (InHost c) tokens = with_token c.token tokens

-- the cell that is lent where the run stands at this, if any
abbrev pub away_at : Todo → Option ℕ
away_at (InFrame f) = None
away_at (InCatch f h x) = None
away_at (InHost c) = cell_away c.receiver

-- A native that asked for calls ended in this fault: for a reason, or because it was left by the body of a
-- function that it called back, and then this is why that body ended so.
abbrev pub NativeFails : {S : Type 0} → Setup S → Callback → World S → Problem → Type 0
NativeFails m first start x = HostFails m first start x
    ⊎ ((l : LeavesBack m first start x) ×
    Cause m (body_back m l.runs) (l.runs.world.level + 1) l.inner)

-- how the calls that a native asks for end: with a value there is no trace
abbrev pub NativeAnswers : {S : Type 0} → Setup S → Callback → World S → Answer → World S → Type 0
NativeAnswers m first start (Came v) w = w.trace ≡ []
NativeAnswers m first start (Failed x) w =
    ((x ≡ NoMemory) × (is_stop m.stop w.passed ≡ true)) ⊎ NativeFails m first start x

-- so, and the scope is as long as it was
abbrev pub NativeEnds : {S : Type 0} → Setup S → Act S → Answer → World S → Type 0
NativeEnds m (Go (InHost first) start) a w =
    (length w.scope ≡ length start.scope) × NativeAnswers m first start a w
NativeEnds m (Go (InFrame f) start) a w = ⊥
NativeEnds m (Go (InCatch f h x) start) a w = ⊥
NativeEnds m (End b v) a w = ⊥
NativeEnds m (Then one rest) a w = ⊥

-- the run of the calls stands at this one
abbrev pub AsksAt : {S : Type 0} → Setup S → Act S → Callback → World S → Type 0
AsksAt m (Go (InHost first) start) c w =
    (length w.scope ≡ length start.scope) × AsksNext m first start c w
AsksAt m (Go (InFrame f) start) c w = ⊥
AsksAt m (Go (InCatch f h x) start) c w = ⊥
AsksAt m (End b v) c w = ⊥
AsksAt m (Then one rest) c w = ⊥
