-- What was verified of the instruction at which a frame stands.
use Rattle.std.proofs.Common.{◌≡◌, ◌+◌, ◌-◌, ℕ, List, length, subst, ap, arith}
use Rattle.grain_program.specs.declared.code.instruction_set.Op.{Op}
use Rattle.grain_program.specs.declared.code.parts.Chunk.{Chunk}
use Rattle.grain_program.specs.declared.code.effects.Looping.TheVariants as looping
use Rattle.grain_program.specs.Effects.{takes_of, gives_of, leads_of, looping_of, handling_of, advances, cursors_taken, cursors_given}
use Rattle.grain_program.specs.Shapes.{TryHandler, handled}
use Rattle.grain_program.specs.Typing.{In}
use Rattle.grain_program.specs.View.{View}
use Rattle.grain_program.specs.laws.TypedAt.{IsTypedAt, Verified, goes_on}
use Rattle.grain_frame.specs.Abstraction.{Runs, StandsAt, tries_in}
use Rattle.grain_frame.specs.declared.activations.Activation.{Activation}
use Rattle.grain_frame.specs.declared.runs.Run.{Run}

-- where an instruction leads that keeps the cursors, the typing knows the frame
pub goes_with_cursors : {p : View} {c : Chunk} {at depth cursors : ℕ} {hs : List TryHandler}
    {o : Op} {width : ℕ} → looping_of o ≡ looping.Keep →
    Verified p c at depth cursors hs o width → (b : ℕ) → In b (leads_of p o (at + width)) →
    IsTypedAt p c b (depth - takes_of p o + gives_of o) cursors
    (handled (handling_of o) (depth - takes_of p o + gives_of o) cursors hs)
goes_with_cursors {p} {c} {at} {depth} {cursors} {hs} {o} {width} holds seen b leads =
    let left : ℕ = depth - takes_of p o + gives_of o in
    subst (λ (n : ℕ). IsTypedAt p c b left n (handled (handling_of o) left n hs)) same
    (goes_on seen (ap advances holds) b leads) where
      same : cursors - cursors_taken (looping_of o) + cursors_given (looping_of o) ≡ cursors
      same = rw holds (omega arith)

-- what was verified of an instruction at which the frame stands
pub verified : {H : Type 0} {p : View} {f : Activation} {s : Run H} {said o : Op} {next : ℕ}
    (is : said ≡ o) (at : StandsAt p f s said next) →
    Verified p f.chunk f.address (length s.stacks.operands) (length s.stacks.cursors)
    (tries_in s.stacks.handlers) o at.width
verified {p = p} {f} {s} is at =
    subst (λ (q : Op). Verified p f.chunk f.address (length s.stacks.operands)
    (length s.stacks.cursors) (tries_in s.stacks.handlers) q at.width) is at.seen

-- a frame that runs is typed with its operands, its cursors and its handlers
pub is_typed : {H : Type 0} (p : View) (f : Activation) (s : Run H) → Runs p f s →
    (depth : ℕ) × ((cursors : ℕ) × ((hs : List TryHandler)
    × IsTypedAt p f.chunk f.address depth cursors hs))
is_typed p f s runs = (
  length s.stacks.operands,
  (length s.stacks.cursors, (tries_in s.stacks.handlers, runs.typed)),
)
