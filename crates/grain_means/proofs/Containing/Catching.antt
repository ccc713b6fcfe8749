-- A handler that catches keeps to the store.
use Rattle.std.proofs.Common.{◌≡◌, ◌≤◌, ◌+◌, ◌-◌, ℕ, [], ◌∷◌, ◌++◌, Option, Some, None, true, nat_lt, length, take, refl, arith}
use Rattle.grain_value.specs.Operands.{read_write}
use Rattle.grain_value.specs.Scopes.{new_entry}
use Rattle.grain_fault.specs.Classes.{catchable}
use Rattle.grain_fault.specs.Problems.{Problem, Plain, Malformed, TooManyVariables}
use Rattle.grain_fault.specs.declared.faults.MalformedKind.TheVariants as kind
use Rattle.grain_fault.specs.declared.places.Position.{Position}
use Rattle.grain_program.specs.View.{name_of, position_of}
use Rattle.grain_means.specs.Contained.{CursorNames, EntryNames, HeldNames, ProblemNames}
use Rattle.grain_fault.specs.CatchValues.{caught_value}
use Rattle.grain_means.specs.Rules as rules
use Rattle.grain_means.specs.Rules.{catching, resumed, bound, is_full}
use Rattle.grain_means.specs.Worlds.{Act, Go, Frame, Handler, InFrame, Setup, World}
use Rattle.grain_means.proofs.Caught.{caught_names}
use Rattle.grain_means.proofs.Footing.{by_test}
use Rattle.grain_means.proofs.Naming.{all_drop, all_joined, all_take}
use Rattle.grain_means.proofs.Containing.Parts.{FrameNames}
use Rattle.grain_means.proofs.Containing.Frames.{Grounds, cut, goes, leaves, marks, none_plain, charges}
use Rattle.grain_means.proofs.Containing.Steps.{Stays, Here}

module _ {S : Type 0} {m : Setup S} (on : Grounds m) where
  open on use {clean, least}

  module _ (n : ℕ) (low : least ≤ n) (f : Frame) (names : FrameNames clean n f) where
    -- a handler catches
    pub catches : (h : Handler) (x : Problem) → ProblemNames clean n x → catchable x ≡ true →
        (w : World S) →
        Here on n low f names w → Stays on n low f names (rules.caught m f h x w)
    catches h x bound may w at =
        by_test (Stays on n low f names) (nat_lt (length w.scope) h.scope)
        (rules.escaped m f broken cleared)
        (rules.bind_caught m h.variable p g x start after)
        (λ short. escapes f broken cleared untraced (omega arith, λ s. refl))
        (λ long. binds h.variable) where
          p : Position
          p = position_of m.program h.target

          g : Frame
          g = catching f h x

          broken : Problem
          broken = Plain (Malformed (kind.TryFloorBroken h.scope (length w.scope)))
              (position_of m.program f.address)

          cleared : World S
          cleared = record w { trace = [] }

          untraced : Here on n low f names cleared
          untraced = record {
            size = at.size;
            entries = at.entries;
            contents = at.contents;
            reaches = at.reaches;
            hands = at.hands;
            waits = at.waits;
            lends = at.lends;
            stand = at.stand;
            plain = at.plain;
          }

          start : World S
          start = record w { scope = take h.scope w.scope; trace = [] }

          started : Here on n low f names start
          started = cut on n low h.scope w at (take h.scope w.scope) refl

          caught_frame : FrameNames clean n g
          caught_frame = (
            all_take (HeldNames clean n) h.operands f.operands names.0,
            record {
              handlers = (bound, names.1.handlers);
              cursors = all_drop (CursorNames clean n) (length f.cursors - h.cursors) f.cursors
                  names.1.cursors;
            },
          )

          escapes : (f' : Frame) (y : Problem) (v : World S) → Here on n low f names v →
              ProblemNames clean n y → Stays on n low f names (rules.escaped m f' y v)
          escapes f' y v there within =
              marks on n low f' v (rules.leave_by_fault m f' y) there
              (leaves on n low f' y
              (record v { passed = v.passed + 1 }) there within)

          after : World S → Act S
          after w1 =
              rules.charged_or m p g (rules.leave_by_fault m g) w1
              (Go (InFrame (resumed g h.target)))

          goes_on : (v : World S) → Here on n low f names v → Stays on n low f names (after v)
          goes_on v there =
              charges on n low g caught_frame p
              (rules.leave_by_fault m g) (Go (InFrame (resumed g h.target)))
              (λ y u here within. leaves on n low g y u here within)
              (λ u here. goes on n low
              (resumed g h.target) u here caught_frame) v there

          binds : (variable : Option ℕ) →
              Stays on n low f names (rules.bind_caught m variable p g x start after)
          binds None = goes_on start started
          binds (Some k) =
              let entry = new_entry (name_of m.program k)
              (read_write (caught_value m.program.source x)) in
              by_test (Stays on n low f names)
              (is_full m.engine.limits.variables start.scope)
              (rules.escaped m g (Plain TooManyVariables p) start)
              (rules.marked m g start
              (λ w1. after (record w1 { scope = w1.scope ++ entry ∷ [] })))
              (λ full. escapes g (Plain TooManyVariables p) start started (omega arith, λ s. refl))
              (λ room. marks on n low g start
              (λ w1. after (record w1 { scope = w1.scope ++ entry ∷ [] })) started
              (goes_on (record start {
                passed = start.passed + 1;
                scope = start.scope ++ entry ∷ [];
              }) (record {
                size = started.size;
                entries = all_joined (EntryNames clean n) start.scope (entry ∷ []) started.entries
                    (caught_names clean n m.program.source x bound may, tt);
                contents = started.contents;
                reaches = started.reaches;
                hands = started.hands;
                waits = started.waits;
                lends = started.lends;
                stand = started.stand;
                plain = none_plain on (start.scope ++ entry ∷ []);
              })))
