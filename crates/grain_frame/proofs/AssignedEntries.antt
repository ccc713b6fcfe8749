-- An op-assignment to the value of an entry is one to the entry.
use Rattle.std.proofs.Common.{◌≡◌, ◌∙◌, ◌<◌, ℕ, zero, suc, List, [], ◌∷◌, Some, None, length, ap, arith}
use Rattle.grain_value.specs.declared.values.Dynamic.{Dynamic}
use Rattle.grain_value.specs.declared.values.Held.{Held}
use Rattle.grain_value.specs.declared.scopes.Entry.{Entry}
use Rattle.grain_value.specs.Scopes.{set_held}
use Rattle.grain_ops.specs.Outcomes.{Outcome}
use Rattle.grain_means.specs.Rules.{held_at}
use Rattle.grain_ops.specs.Answers.{Assigns}
use Rattle.grain_ops.specs.declared.answers.AssignAnswer.{AssignAnswer}
use Rattle.grain_ops.specs.declared.answers.AssignAnswer.TheVariants as assigned
use Rattle.grain_frame.specs.Operated.{AssignedEntry}
use Rattle.grain_frame.specs.lemmas.Entries.{same_entry}

-- a value into what is held
abbrev with : Held → Dynamic → Held
with h v = record { value = v; read_only = h.read_only }

unchanged : (before after : List Entry) (i : ℕ) (h : Held) (v : Dynamic) →
    held_at before i ≡ Some h → v ≡ h.value → after ≡ set_held before i (with h v) →
    after ≡ before
unchanged before after i h v is same written =
    written ∙ ap (λ (x : Dynamic). set_held before i (with h x)) same ∙ same_entry before i h is

pub entry_assigned : (r : AssignAnswer) (o : Outcome) (before after : List Entry) (i : ℕ) (h : Held)
    (v : Dynamic) → held_at before i ≡ Some h → Assigns r o h.value v →
    after ≡ set_held before i (with h v) → AssignedEntry r o before after i h
entry_assigned assigned.NotBuiltIn o before after i h v is a written =
    (a.0, unchanged before after i h v is a.1 written)
entry_assigned assigned.Done o before after i h v is a written = (v, a, written)
entry_assigned (assigned.Failed x) o before after i h v is a written =
    (a.0, unchanged before after i h v is a.1 written)

-- an entry within a scope is there
pub is_there : (es : List Entry) (i : ℕ) → i < length es → held_at es i ≡ None → ⊥
is_there [] i within none = omega (arith, within)
is_there (e ∷ es) zero within none = cc
is_there (e ∷ es) (suc i) within none = is_there es i (omega (arith, within)) none
