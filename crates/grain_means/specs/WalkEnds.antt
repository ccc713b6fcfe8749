-- What holds of every end of a walk by itself, whatever it finds at its places and is answered.
use Rattle.std.specs.Prelude.{ℕ, suc, ◌≡◌, ◌≤◌, ◌<◌, Bool, true, List, Option, length, is_some}
use Rattle.grain_value.specs.declared.values.Dynamic.{Dynamic}
use Rattle.grain_value.specs.declared.values.Dynamic.TheVariants as dynamic
use Rattle.grain_value.specs.declared.values.Held.{Held}
use Rattle.grain_program.specs.declared.code.chains.Step.{Step}
use Rattle.grain_means.specs.Worlds.{Answer}
use Rattle.grain_means.specs.Tasks.{Walked, WalkEnded, WalkFailed, Task, Done, Mark, Look, Flatten, Write, Root, Drop, Need, Invoke, Play, Over, Asks, Calls}
use Rattle.grain_means.specs.Walks.{Course}

-- a task that begins with n roots ends with n roots, and so
abbrev pub AllEnds : (ℕ → Walked → Type 0) → ℕ → Task → Type 0
AllEnds P n (Done o) = P n o
AllEnds P n (Mark out go) = AllEnds P n out × AllEnds P n go
AllEnds P n (Look q go) = (h : Held) → AllEnds P n (go h)
AllEnds P n (Flatten v go) = (o : Option Dynamic) → AllEnds P n (go o)
AllEnds P n (Write q v t) = AllEnds P n t
AllEnds P n (Root h t) = AllEnds P (suc n) t
AllEnds P n (Drop i go) = (suc i ≤ n) × ((h : Held) → AllEnds P (suc i) (go h))
AllEnds P n (Need c go) = (a : Answer) → AllEnds P n (go a)
AllEnds P n (Invoke i go) = (a : Answer) → AllEnds P n (go a)

-- the same of a walk where it stands still
abbrev pub PlayEnds : (ℕ → Walked → Type 0) → Play → Type 0
PlayEnds P (Over o s) = P (length s.roots) o
PlayEnds P (Asks c go s) = (a : Answer) → AllEnds P (length s.roots) (go a)
PlayEnds P (Calls i go s) = (a : Answer) → AllEnds P (length s.roots) (go a)

-- how a walk over this many steps ends: a chain that assigns ends with unit, and the step that is blamed
-- is one of them
abbrev pub EndsRight : ℕ → Bool → Walked → Type 0
EndsRight steps assigns (WalkEnded v changed) = assigns ≡ true → v ≡ dynamic.Unit
EndsRight steps assigns (WalkFailed n x) = n < steps

-- one root is left, that at which the walk began
abbrev pub WalkEnds : Course → List Step → ℕ → Walked → Type 0
WalkEnds c steps roots o = (roots ≡ 1) × EndsRight (length steps) (is_some c.assigns) o
