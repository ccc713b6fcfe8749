-- Calls of functions and of pointers keep to the store.
use Rattle.std.proofs.Common.{◌≡◌, ◌≤◌, ◌+◌, ℕ, List, [], ◌++◌, Option, Some, None, length, refl, arith}
use Rattle.std.specs.Prelude.{codes}
use Rattle.grain_value.specs.Looking.{pointer_of}
use Rattle.grain_value.specs.Operands.{arguments, under}
use Rattle.grain_value.specs.Writing.{type_name_of}
use Rattle.grain_value.specs.declared.values.Dynamic.{Dynamic}
use Rattle.grain_value.specs.declared.values.Dynamic.TheVariants as dynamic
use Rattle.grain_value.specs.declared.values.FnPtr.{FnPtr}
use Rattle.grain_fault.specs.Problems.{Plain, MismatchDataType, NoMemory}
use Rattle.grain_program.specs.declared.code.functions.Function.{Function}
use Rattle.grain_means.specs.Contained.{AnswerNames, HeldNames, Names}
use Rattle.grain_means.specs.Rules as rules
use Rattle.grain_means.specs.Rules.{curried_in, function_by_name, given, operand_under, spread, trees_in, without}
use Rattle.grain_means.specs.Worlds.{Answer, Came, Failed, Frame, Setup, World}
use Rattle.grain_means.proofs.Naming.{all_joined, arguments_name, curried_names, more_names, top_names, trees_name, under_names}
use Rattle.grain_means.proofs.Containing.Parts.{Operands, FrameNames, pointer_names}
use Rattle.grain_means.proofs.Containing.Bodies.{body_enters, body_fails}
use Rattle.grain_means.proofs.Containing.Frames.{Grounds, bases, charged, leaves, offered, reads_all}
use Rattle.grain_means.proofs.Containing.Steps.{frame_wider, Stays, Here, raising, pushing, reading, giving}

module _ {S : Type 0} {m : Setup S} (on : Grounds m) where
  open on use {clean, least}

  module _ (n : ℕ) (low : least ≤ n) (f : Frame) (names : FrameNames clean n f) where
    -- a function that was called is over
    resumes : (g : Function) (next : ℕ) (a : Answer) (w : World S) → Here on n low f names w →
        AnswerNames clean n a → Stays on n low f names (rules.resume_caller m g f next a w)
    resumes g next (Came v) w at named = pushing on n low f names next f.operands v w at names.0 named
    resumes g next (Failed x) w at named =
        body_fails (bases on) on.since n (rules.leave_by_fault m f NoMemory)
        (λ v there. leaves on n low f NoMemory v there (omega arith, λ s. refl)) (rules.offered m f)
        (offered on n low f names) (rules.position m f) g x w at named

  module _ (n : ℕ) (low : least ≤ n) (f : Frame) (names : FrameNames clean n f) where
    -- a function is called
    enters : (g : Function) (count next : ℕ) (w : World S) → Here on n low f names w →
        Stays on n low f names (rules.function_entered m g count f next w)
    enters g count next w at =
        body_enters (bases on) on.since n (rules.leave_by_fault m f NoMemory)
        (λ v there. leaves on n low f NoMemory v there (omega arith, λ s. refl)) (rules.offered m f)
        (offered on n low f names) (rules.position m f) g (arguments count f.operands)
        (arguments_name clean n count f.operands names.0) None
        (rules.resume_caller m g (without count f) next)
        (λ k le a v there named. resumes k (omega (arith, low, le)) (without count f)
        (frame_wider on n k (without count f) le (
          under_names clean n count f.operands names.0,
          names.1,
        )) g next a v there named) w at

    pub calls_function : (o : Option Function) (name : List ℕ) (count next : ℕ) (w : World S) →
        Here on n low f names w → Stays on n low f names (rules.call_function m o name count f next
        w)
    calls_function None name count next w at =
        reads_all on n low f names (arguments count f.operands) w at
        (arguments_name clean n count f.operands names.0)
        (λ args. rules.native m name None args f w
        (λ v w1. rules.pushed m f next (under count f.operands) v w1) (rules.raised m f))
        (λ args given. giving on n low f names
        (λ v w1. rules.pushed m f next (under count f.operands) v w1)
        (λ k le v w1 there named.
        let wide : FrameNames clean k f = frame_wider on n k f le names in
        pushing on k (omega (arith, low, le)) f wide next (under count f.operands) v w1 there
        (under_names clean k count f.operands wide.0) named)
        name args w at given)
    calls_function (Some g) name count next w at =
        charged on n low f names (rules.function_entered m g count f next)
        (λ v there. enters g count next v there) w at

    -- pointers
    pub under_it : (count : ℕ) → HeldNames clean n (operand_under count f.operands)
    under_it count =
        top_names clean n (under count f.operands) (under_names clean n count f.operands names.0)

    pub no_pointer : (v : Dynamic) (w : World S) → Here on n low f names w → Stays on n low f names
        (rules.not_a_pointer m v f w)
    no_pointer v w at =
        raising on n low f names (Plain (MismatchDataType (codes "Fn") (type_name_of v))
        (rules.position m f)) w at (omega arith, λ s. refl)

    pub curries : (count next : ℕ) (w : World S) → Here on n low f names w → Stays on n low f names
        (rules.curry m count next f w)
    curries count next w at =
        reading on n low f names (operand_under count f.operands) [] w at (under_it count)
        (λ v. rules.curried m (pointer_of v) v count next f w)
        (λ v read plain. by_pointer v read (pointer_of v) refl) where
          by_pointer : (v : Dynamic) → Names clean n v → (o : Option FnPtr) → pointer_of v ≡ o →
              Stays on n low f names (rules.curried m o v count next f w)
          by_pointer v read None is = no_pointer v w at
          by_pointer v read (Some q) is =
              pushing on n low f names next (under (count + 1) f.operands)
              (dynamic.Pointer (record q {
                curry = q.curry ++ trees_in (arguments count f.operands);
              })) w at (under_names clean n (count + 1) f.operands names.0)
              (more_names clean n q.curry (trees_in (arguments count f.operands))
              (pointer_names clean n v q read is)
              (trees_name clean n (arguments count f.operands)
              (arguments_name clean n count f.operands names.0)))

  module _ (n : ℕ) (low : least ≤ n) (f : Frame) (names : FrameNames clean n f) where
    -- the function of a pointer is called
    pub calls_pointed : (v : Dynamic) → Names clean n v → (o : Option FnPtr) → pointer_of v ≡ o →
        (count next : ℕ) (w : World S) → Here on n low f names w →
        Stays on n low f names (rules.pointer_called m o v count next f w)
    calls_pointed v read None is count next w at = no_pointer n low f names v w at
    calls_pointed v read (Some q) is count next w at =
        calls_function n low (spread q count f) (given, names.1)
        (function_by_name m.program q.name (length q.curry + count)) q.name
        (length q.curry + count) next w at where
          given : Operands clean n (under (count + 1) f.operands ++ curried_in q
              ++ arguments count f.operands)
          given =
              all_joined (HeldNames clean n) (under (count + 1) f.operands ++ curried_in q)
              (arguments count f.operands)
              (all_joined (HeldNames clean n) (under (count + 1) f.operands) (curried_in q)
              (under_names clean n (count + 1) f.operands names.0)
              (curried_names clean n q (pointer_names clean n v q read is)))
              (arguments_name clean n count f.operands names.0)

    pub calls_pointer : (count next : ℕ) (w : World S) → Here on n low f names w →
        Stays on n low f names (rules.call_pointer m count next f w)
    calls_pointer count next w at =
        reading on n low f names (operand_under count f.operands) [] w at
        (under_it n low f names count)
        (λ v. rules.pointer_called m (pointer_of v) v count next f w)
        (λ v read plain. calls_pointed v read (pointer_of v) refl count next w at)
