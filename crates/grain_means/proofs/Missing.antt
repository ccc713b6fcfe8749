-- The kinds of faults that say that a native is not found.
use Rattle.std.proofs.Common.{ℕ, List, Bool, true, false, if◌then◌else◌, eqb, bytes_eq, inl}
use Rattle.std.specs.Prelude.{codes}
use Rattle.std.specs.List.{starts_with}
use Rattle.grain_value.specs.declared.values.Dynamic.{Dynamic}
use Rattle.grain_fault.specs.Problems.{FaultKind, FunctionNotFound, DotExpr, IndexingType}
use Rattle.grain_means.specs.Worlds.{Setup}
use Rattle.grain_means.specs.Comes.{ProgramPoint}
use Rattle.grain_means.specs.Causes.{Raises, FindsNone}
use Rattle.grain_host.specs.Signatures.{missing_kind}

-- what holds of both holds of the chosen one
of_either : (P : FaultKind → Type 0) (b : Bool) (x y : FaultKind) → P x → P y →
    P (if b then x else y)
of_either P true x y p q = p
of_either P false x y p q = q

-- what holds of the three holds of the kind
pub of_each : (P : FaultKind → Type 0) (name : List ℕ) (args : List Dynamic) →
    ((s : List ℕ) → P (FunctionNotFound s)) → ((s : List ℕ) → P (DotExpr s)) →
    ((s : List ℕ) → P (IndexingType s)) → P (missing_kind name args)
of_each P name args f d i =
    of_either P (starts_with eqb name (codes "get$")) _ _ (d _)
    (of_either P (starts_with eqb name (codes "set$")) _ _ (d _)
    (of_either P (bytes_eq name (codes "index$get$")) _ _ (i _)
    (of_either P (bytes_eq name (codes "index$set$")) _ _ (i _) (f _))))

-- why it is raised
pub row_of_missing : {S : Type 0} (m : Setup S) (at : ProgramPoint S) (name : List ℕ)
    (args : List Dynamic) → FindsNone m (missing_kind name args) at →
    Raises m (missing_kind name args) at
row_of_missing m at name args =
    of_each (λ k. FindsNone m k at → Raises m k at) name args (λ s why. inl why) (λ s why. why)
    (λ s why. why)
