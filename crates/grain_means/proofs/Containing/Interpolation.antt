-- Texts that are made of segments keep to the store.
use Rattle.std.proofs.Common.{◌≤◌, ◌+◌, ◌++◌, ℕ, List, [], ◌∷◌, Option, Some, None, length, refl, arith}
use Rattle.std.specs.Prelude.{codes}
use Rattle.grain_value.specs.Cells.{flat}
use Rattle.grain_value.specs.Looking.{text_of}
use Rattle.grain_value.specs.Operands.{below, top, under}
use Rattle.grain_value.specs.Sizes.{is_over}
use Rattle.grain_value.specs.Writing.{kind_of, plain, type_name_of}
use Rattle.grain_value.specs.declared.natives.Native.{Native}
use Rattle.grain_value.specs.declared.values.Dynamic.{Dynamic}
use Rattle.grain_value.specs.declared.values.Dynamic.TheVariants as dynamic
use Rattle.grain_value.specs.declared.values.Held.{Held}
use Rattle.grain_fault.specs.Classes.{catchable}
use Rattle.grain_fault.specs.Problems.{Problem, Plain}
use Rattle.grain_fault.specs.Problems as problem
use Rattle.grain_fault.specs.declared.faults.MalformedKind.TheVariants as kind
use Rattle.grain_host.specs.Law.{native_of}
use Rattle.grain_means.specs.Contained.{ProblemNames}
use Rattle.grain_means.specs.Rules as rules
use Rattle.grain_means.specs.Rules.{operand_under, shown, to_string}
use Rattle.grain_means.specs.Worlds.{Frame, Setup, World}
use Rattle.grain_means.proofs.Footing.{by_test}
use Rattle.grain_means.proofs.Naming.{Stands, under_names}
use Rattle.grain_means.proofs.Containing.Parts.{FrameNames}
use Rattle.grain_means.proofs.Containing.Frames.{Grounds}
use Rattle.grain_means.proofs.Containing.Literals.{beneath}
use Rattle.grain_means.proofs.Containing.Steps.{Stays, Here, asking, frame_wider, last, less, marking, pushing, raising, reading}

module _ {S : Type 0} {m : Setup S} (on : Grounds m) where
  open on use {clean, least}

  module _ (n : ℕ) (low : least ≤ n) (f : Frame) (names : FrameNames clean n f) where
    no_buffer : (v : Dynamic) (w : World S) → Here on n low f names w →
        Stays on n low f names (rules.not_a_buffer m v f w)
    no_buffer v w at =
        raising on n low f names
        (Plain (problem.Malformed (kind.BufferNotText (type_name_of v))) (rules.position m f)) w at
        (omega arith, λ s. refl)

    puts_behind : (o : Option (List ℕ)) (v : Dynamic) (s : List ℕ) (next : ℕ) (w : World S) →
        Here on n low f names w → Stays on n low f names (rules.put_behind m o v s next f w)
    puts_behind None v s next w at = no_buffer v w at
    puts_behind (Some b) v s next w at =
        let x = Plain (problem.DataTooLarge (codes "Length of string")) (rules.position m f) in
        by_test (Stays on n low f names) (is_over m.engine.limits.text (length b + length s))
        (rules.raised m f x w)
        (rules.pushed m f next (under 2 f.operands) (dynamic.Text (b ++ s)) w)
        (λ over. raising on n low f names x w at (omega arith, λ s. refl))
        (λ fits. pushing on n low f names next (under 2 f.operands) (dynamic.Text (b ++ s)) w at
        (under_names clean n 2 f.operands names.0) (omega arith, λ s. refl))

    appends : (s : List ℕ) (next : ℕ) (w : World S) → Here on n low f names w →
        Stays on n low f names (rules.appended m s next f w)
    appends s next w at =
        reading on n low f names (operand_under 1 f.operands) [] w at (beneath on n low f names 1)
        (λ v. rules.put_behind m (text_of v) v s next f w)
        (λ v read plain. puts_behind (text_of v) v s next w at)

    appends_type : (t : List ℕ) (next : ℕ) (w : World S) → Here on n low f names w →
        Stays on n low f names (rules.type_appended m t next f w)
    appends_type t next w at =
        marking on n low f names w
        (λ w1. rules.appended m t next f (record w1 { trace = [] })) at
        (appends t next (record w { passed = w.passed + 1; trace = [] }) at)

    appends_answer : (o : Option Dynamic) (t : List ℕ) (next : ℕ) (w : World S) →
        Here on n low f names w → Stays on n low f names (rules.answer_appended m o t next f w)
    appends_answer None t next w at = appends_type t next w at
    appends_answer (Some r) t next w at = appends (shown r) next w at

    showing_fails : (t : List ℕ) (next : ℕ) (x : Problem) (w : World S) → Here on n low f names w →
        ProblemNames clean n x → Stays on n low f names (rules.showing_failed m t next f x w)
    showing_fails t next x w at bound =
        by_test (Stays on n low f names) (catchable x) (rules.type_appended m t next f w)
        (rules.raised m f x w)
        (λ may. appends_type t next w at) (λ may. raising on n low f names x w at bound)

    -- the text that ends
    by_buffer : (o : Option (List ℕ)) (v : Dynamic) (next : ℕ) (w : World S) →
        Here on n low f names w → Stays on n low f names (rules.buffer_ended m o v next f w)
    by_buffer None v next w at = no_buffer v w at
    by_buffer (Some s) v next w at =
        pushing on n low f names next (below f.operands) (dynamic.Text s) w at (less on n low f names)
        (omega arith, λ s. refl)

    pub ends_buffer : (next : ℕ) (w : World S) → Here on n low f names w →
        Stays on n low f names (rules.interpolate_end m next f w)
    ends_buffer next w at =
        reading on n low f names (top f.operands) [] w at (last on n low f names)
        (λ v. rules.buffer_ended m (text_of v) v next f w)
        (λ v read plain. by_buffer (text_of v) v next w at)

  module _ (n : ℕ) (low : least ≤ n) (f : Frame) (names : FrameNames clean n f) where
    by_native : (o : Option Native) (v : Dynamic) (h : Held) → Stands clean n h → (next : ℕ)
        (w : World S) → Here on n low f names w →
        Stays on n low f names (rules.showing m o v h next f w)
    by_native None v h given next w at = appends n low f names (plain v) next w at
    by_native (Some q) v h given next w at =
        asking on n low f names None
        (λ r w1. rules.answer_appended m (flat w1.cells r) (type_name_of v) next f w1)
        (rules.showing_failed m (type_name_of v) next f)
        (λ k le r w1 there named. appends_answer k (omega (arith, low, le)) f
        (frame_wider on n k f le names) (flat w1.cells r) (type_name_of v) next w1 there)
        (λ k le x w1 there lends bound. showing_fails k (omega (arith, low, le)) f
        (frame_wider on n k f le names) (type_name_of v) next x w1 there bound)
        to_string (h ∷ []) w at tt tt (given, tt)

    by_segment : (o : Option (List ℕ)) (v : Dynamic) (h : Held) → Stands clean n h → (next : ℕ)
        (w : World S) → Here on n low f names w →
        Stays on n low f names (rules.segment_read m o v h next f w)
    by_segment (Some s) v h given next w at = appends n low f names s next w at
    by_segment None v h given next w at =
        by_native (native_of m.law w.host to_string (kind_of h.value ∷ [])) v h given next w at

    pub appends_segment : (next : ℕ) (w : World S) → Here on n low f names w →
        Stays on n low f names (rules.interpolate_append m next f w)
    appends_segment next w at =
        reading on n low f names (top f.operands) [] w at (last on n low f names)
        (λ v. rules.segment_read m (text_of v) v (record (top f.operands) { value = v }) next f w)
        (λ v read flat. by_segment (text_of v) v (record (top f.operands) { value = v })
        (read, λ s. flat) next w at)
