-- Calls of functions keep to the store, by an instruction or by a walk: the body of a function, and what
-- follows when it is over.
use Rattle.std.proofs.Common.{◌≤◌, ◌+◌, ℕ, List, [], Option, if◌then◌else◌, nat_lt, nat_le, length, refl, arith}
use Rattle.grain_value.specs.declared.values.Held.{Held}
use Rattle.grain_fault.specs.Classes.{catchable}
use Rattle.grain_fault.specs.Positions.{at_position}
use Rattle.grain_fault.specs.Problems.{Problem, Plain, InFunctionCall, StackOverflow, TooManyVariables}
use Rattle.grain_fault.specs.declared.places.Position.{Position}
use Rattle.grain_program.specs.View.{name_of, source_text}
use Rattle.grain_program.specs.declared.code.functions.Function.{Function}
use Rattle.grain_means.specs.Contained.{AnswerNames, EntryNames, ProblemNames}
use Rattle.grain_means.specs.Rules as rules
use Rattle.grain_means.specs.Rules.{bound, frame_at}
use Rattle.grain_means.specs.Worlds.{Act, Go, Then, Answer, InFrame, Place, Setup, World}
use Rattle.grain_means.proofs.Caught.{placed_names}
use Rattle.grain_means.proofs.Footing.{by_test}
use Rattle.grain_means.proofs.Naming.{all_wider, bound_names, entry_wider}
use Rattle.grain_means.proofs.Containing.Parts.{Operands, no_rest}
use Rattle.grain_means.proofs.Containing.Leaving.{Bases, At, Holds, Leaves, fails_or, lowers, marks_or, takes_operation}
use Rattle.grain_means.proofs.Containing.Keeping.{Kept, Since}

module _ {S : Type 0} {m : Setup S} (on : Bases m) where
  open on use {clean, least, since}

  module _ (to : Since) (n : ℕ) (out : World S → Act S)
      (outs : (w : World S) → At on n w → Leaves m clean to n (out w))
      (fails : Problem → World S → Act S)
      (failing : (x : Problem) (w : World S) → At on n w → ProblemNames clean n x →
      Leaves m clean to n (fails x w)) (q : Position) where
    -- a fault that left the body of a function
    pub body_fails : (g : Function) (x : Problem) (w : World S) → At on n w →
        ProblemNames clean n x → Leaves m clean to n (rules.body_failed m out fails q g x w)
    body_fails g x w at named =
        let wrapped : Problem =
        InFunctionCall (name_of m.program g.name) (source_text m.program) x q in
        by_test (Leaves m clean to n) (catchable x) (rules.marked_or m out w (fails wrapped))
        (fails (at_position q x) w)
        (λ may. fails_or on to n out outs fails failing wrapped w at named)
        (λ not. failing (at_position q x) w at (placed_names clean n q x named))

    -- a function is called on these arguments
    module _ (g : Function) (args : List Held) (given : Operands clean n args) (this : Option Place)
        (over : Answer → World S → Act S)
        (overs : (k : ℕ) → n ≤ k → (a : Answer) (w : World S) → At on k w → AnswerNames clean k a →
        Leaves m clean to k (over a w)) where
      abbrev body : World S → World S → Act S
      body w w1 =
          Then (Go (InFrame (frame_at g.chunk 0 this)) (record w1 {
            scope = bound m.program g.params args;
            level = w1.level + 1;
          })) (λ a w2. over a (record w2 { scope = w.scope; level = w.level }))

      -- the body's scope is its own
      abbrev inner : Since
      inner = record since { plain = [] }

      inside : (w : World S) → At on n w →
          Kept m.law clean n inner (bound m.program g.params args) w.cells w.host w.roots
      inside w at = record {
        size = at.size;
        entries = bound_names clean n m.program.names g.params args given;
        contents = at.contents;
        reaches = at.reaches;
        hands = at.hands;
        waits = at.waits;
        lends = at.lends;
        stand = at.stand;
        plain = tt;
      }

      restored : (w : World S) → At on n w → (k : ℕ) → n ≤ k → (v : World S) →
          Holds m clean inner k v →
          Kept m.law clean k since w.scope v.cells v.host v.roots
      restored w at k le v there = record {
        size = there.size;
        entries = all_wider (EntryNames clean n) (EntryNames clean k) (entry_wider clean n k le)
            w.scope at.entries;
        contents = there.contents;
        reaches = there.reaches;
        hands = there.hands;
        waits = there.waits;
        lends = there.lends;
        stand = there.stand;
        plain = at.plain;
      }

      pub body_enters : (w : World S) → At on n w →
          Leaves m clean to n (rules.body_entered m out fails q g args this over w)
      body_enters w at =
          by_test (Leaves m clean to n) (nat_le m.engine.limits.levels w.level)
          (rules.marked_or m out w (fails (Plain StackOverflow q)))
          (if nat_lt m.engine.limits.variables (length g.params)
          then rules.marked_or m out w (fails (Plain TooManyVariables q))
          else rules.marked_or m out w (body w))
          (λ deep. fails_or on to n out outs fails failing (Plain StackOverflow q) w at
          (omega arith, λ s. refl)) (λ room. by_test (Leaves m clean to n)
          (nat_lt m.engine.limits.variables (length g.params))
          (rules.marked_or m out w (fails (Plain TooManyVariables q)))
          (rules.marked_or m out w (body w))
          (λ many. fails_or on to n out outs fails failing (Plain TooManyVariables q) w at
          (omega arith, λ s. refl)) (λ few. marks_or on to n out outs w (body w) at (
            n,
            omega arith,
            inner,
            (n, omega arith, inside w at, (tt, no_rest), refl),
            λ a v k le there named.
                lowers m clean to n k (over a (record v { scope = w.scope; level = w.level })) le
                (overs k le a (record v { scope = w.scope; level = w.level })
                (restored w at k le v there) named),
          )))

      pub body_calls : (w : World S) → At on n w →
          Leaves m clean to n (rules.body_called m out fails q g args this over w)
      body_calls w at =
          takes_operation on to n out outs fails failing q
          (rules.body_entered m out fails q g args this over) body_enters w at
