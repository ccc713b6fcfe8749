-- Roots through calls of functions and of pointers by an instruction, and through a handler that
-- catches.
use Rattle.std.proofs.Common.{◌≡◌, ◌+◌, ℕ, List, [], ◌∷◌, ◌++◌, Option, Some, None, false, nat_lt, length, take}
use Rattle.std.specs.Prelude.{codes}
use Rattle.grain_value.specs.Looking.{pointer_of}
use Rattle.grain_value.specs.Operands.{arguments, read_write, under}
use Rattle.grain_value.specs.Scopes.{new_entry}
use Rattle.grain_value.specs.Writing.{type_name_of}
use Rattle.grain_value.specs.declared.scopes.Entry.{Entry}
use Rattle.grain_value.specs.declared.values.Dynamic.{Dynamic}
use Rattle.grain_value.specs.declared.values.Dynamic.TheVariants as dynamic
use Rattle.grain_value.specs.declared.values.FnPtr.{FnPtr}
use Rattle.grain_value.specs.declared.values.Held.{Held}
use Rattle.grain_fault.specs.CatchValues.{caught_value}
use Rattle.grain_fault.specs.Problems.{Problem, Plain, Malformed, MismatchDataType, NoMemory, TooManyVariables}
use Rattle.grain_fault.specs.declared.faults.MalformedKind.TheVariants as kind
use Rattle.grain_fault.specs.declared.places.Position.{Position}
use Rattle.grain_program.specs.View.{name_of, position_of}
use Rattle.grain_program.specs.declared.code.functions.Function.{Function}
use Rattle.grain_means.specs.Rules as rules
use Rattle.grain_means.specs.Rules.{catching, function_by_name, is_full, operand_under, resumed, spread, trees_in, without}
use Rattle.grain_means.specs.Worlds.{Act, Go, Answer, Came, Failed, Frame, Handler, InFrame, Place, Setup, World}
use Rattle.grain_means.proofs.Footing.{by_test}
use Rattle.grain_means.proofs.Touching.Frames.{At, Stays, asks, charged, marks, offered, pushes, raises, reads, reads_all}
use Rattle.grain_means.proofs.Touching.Passing.{body_enters, body_fails, takes_operation}
use Rattle.grain_means.proofs.Touching.Writes.{Stands, stands_on}

module _ {S : Type 0} (m : Setup S) (t : Option Place) (old : List Held) where
  -- a function that was called is over
  resumes : (f : Frame) → f.this ≡ t → (g : Function) (next : ℕ) (a : Answer) (w : World S) →
      At m t old w → Stays m t old (rules.resume_caller m g f next a w)
  resumes f is g next (Came v) w at = pushes m t old f is next f.operands v w at
  resumes f is g next (Failed x) w at =
      body_fails m false t old (Stands t old) (rules.leave_by_fault m f NoMemory) (λ v there. there)
      (rules.offered m f) (offered m t old f is) (rules.position m f) g x w at

  pub calls_function : (f : Frame) → f.this ≡ t → (o : Option Function) (name : List ℕ)
      (count next : ℕ) (w : World S) → At m t old w →
      Stays m t old (rules.call_function m o name count f next w)
  calls_function f is None name count next w at =
      reads_all m t old f is (arguments count f.operands) w at
      (λ args. rules.native m name None args f w
      (λ v w1. rules.pushed m f next (under count f.operands) v w1) (rules.raised m f))
      (λ args. asks m t old f is None tt
      (λ v w1. rules.pushed m f next (under count f.operands) v w1) (rules.raised m f)
      (λ v w1 there. pushes m t old f is next (under count f.operands) v w1 there)
      (raises m t old f is) name args w at)
  calls_function f is (Some g) name count next w at =
      charged m t old f is (rules.function_entered m g count f next)
      (λ v there. body_enters m false t old (Stands t old) (rules.leave_by_fault m f NoMemory)
      (λ u same. same) (rules.offered m f) (offered m t old f is) (rules.position m f) g
      (arguments count f.operands) None (λ from was given. tt)
      (rules.resume_caller m g (without count f) next)
      (λ from was a u under. resumes (without count f) is g next a u
      (stands_on t None old from u.roots tt was under)) v there) w at

  module _ (f : Frame) (is : f.this ≡ t) where
    pub no_pointer : (v : Dynamic) (w : World S) → At m t old w →
        Stays m t old (rules.not_a_pointer m v f w)
    no_pointer v w at =
        raises m t old f is (Plain (MismatchDataType (codes "Fn") (type_name_of v))
        (rules.position m f)) w at

    pub curries : (count next : ℕ) (w : World S) → At m t old w →
        Stays m t old (rules.curry m count next f w)
    curries count next w at =
        reads m t old f is (operand_under count f.operands) [] w at
        (λ v. rules.curried m (pointer_of v) v count next f w) (λ v. by_pointer v (pointer_of v)) where
          by_pointer : (v : Dynamic) (o : Option FnPtr) →
              Stays m t old (rules.curried m o v count next f w)
          by_pointer v None = no_pointer v w at
          by_pointer v (Some q) =
              pushes m t old f is next (under (count + 1) f.operands) (dynamic.Pointer (record q {
                curry = q.curry ++ trees_in (arguments count f.operands);
              })) w at

    -- the function of a pointer is called
    pub calls_pointed : (o : Option FnPtr) (v : Dynamic) (count next : ℕ) (w : World S) → At m t old w →
        Stays m t old (rules.pointer_called m o v count next f w)
    calls_pointed None v count next w at = no_pointer v w at
    calls_pointed (Some q) v count next w at =
        calls_function (spread q count f) is
        (function_by_name m.program q.name (length q.curry + count)) q.name
        (length q.curry + count) next w at

    pub calls_pointer : (count next : ℕ) (w : World S) → At m t old w →
        Stays m t old (rules.call_pointer m count next f w)
    calls_pointer count next w at =
        reads m t old f is (operand_under count f.operands) [] w at
        (λ v. rules.pointer_called m (pointer_of v) v count next f w)
        (λ v. calls_pointed (pointer_of v) v count next w at)

    -- a handler catches
    pub catches : (h : Handler) (x : Problem) (w : World S) → At m t old w →
        Stays m t old (rules.caught m f h x w)
    catches h x w at =
        by_test (Stays m t old) (nat_lt (length w.scope) h.scope)
        (rules.escaped m f broken (record w { trace = [] }))
        (rules.bind_caught m h.variable p g x start after)
        (λ short. escapes f broken (record w { trace = [] }) at)
        (λ long. binds h.variable) where
          p : Position
          p = position_of m.program h.target

          g : Frame
          g = catching f h x

          broken : Problem
          broken = Plain (Malformed (kind.TryFloorBroken h.scope (length w.scope)))
              (position_of m.program f.address)

          start : World S
          start = record w { scope = take h.scope w.scope; trace = [] }

          escapes : (e : Frame) (y : Problem) (v : World S) → At m t old v →
              Stays m t old (rules.escaped m e y v)
          escapes e y v there = marks m t old e v (rules.leave_by_fault m e y) there there

          after : World S → Act S
          after w1 =
              rules.charged_or m p g (rules.leave_by_fault m g) w1
              (Go (InFrame (resumed g h.target)))

          goes_on : (v : World S) → At m t old v → Stays m t old (after v)
          goes_on v there =
              takes_operation m false t old (Stands t old) (rules.leave_by_fault m g NoMemory)
              (λ u same. same) (rules.leave_by_fault m g) (λ y u same. same) p
              (Go (InFrame (resumed g h.target))) (λ u same. (same, is)) v there

          binds : (variable : Option ℕ) →
              Stays m t old (rules.bind_caught m variable p g x start after)
          binds None = goes_on start at
          binds (Some k) =
              let entry : Entry = new_entry (name_of m.program k)
              (read_write (caught_value m.program.source x)) in
              by_test (Stays m t old) (is_full m.engine.limits.variables start.scope)
              (rules.escaped m g (Plain TooManyVariables p) start)
              (rules.marked m g start
              (λ w1. after (record w1 { scope = w1.scope ++ entry ∷ [] })))
              (λ full. escapes g (Plain TooManyVariables p) start at)
              (λ room. marks m t old g start
              (λ w1. after (record w1 { scope = w1.scope ++ entry ∷ [] })) at
              (goes_on (record start {
                passed = start.passed + 1;
                scope = start.scope ++ entry ∷ [];
              }) at))
