-- The walk through a native whose fault an instruction raises.
use Rattle.std.proofs.Common.{◌≡◌, ℕ, List, [], Option, Some, None, true, refl, inl}
use Rattle.grain_value.specs.declared.values.Dynamic.{Dynamic}
use Rattle.grain_value.specs.declared.values.Held.{Held}
use Rattle.grain_value.specs.Operands.{values_in}
use Rattle.grain_fault.specs.Problems.{Problem, Plain, NoMemory}
use Rattle.grain_fault.specs.Problems as problem
use Rattle.grain_program.specs.declared.code.instruction_set.Op.{Op}
use Rattle.grain_program.specs.Decoding.{op_at}
use Rattle.grain_means.specs.Worlds.{Act, World, Setup}
use Rattle.grain_host.specs.Signatures.{not_found}
use Rattle.grain_value.specs.declared.natives.Native.{Native}
use Rattle.grain_means.specs.Rules.{Receiver, given, first_is_read_only, leave_by_fault, native_found, native, raised, position}
use Rattle.grain_means.specs.Causes.{AsksLast, AsksNative, IsCalled, Question, native_asked}
use Rattle.grain_means.proofs.Tally.Frames.{Walk, Even, Reason, Steady, even_left_at, holding, point, Enough, all_there}
use Rattle.grain_means.proofs.Tally.Faults.{even_raised_in}
use Rattle.grain_means.proofs.Tally.Natives.{After, FailedSo, Gave, asked, even_found_or, none_why, refused_why}

module _ {S : Type 0} {m : Setup S} (walk : Walk m) where
  open walk use {frame as f, sits}

  -- The rules of an instruction that stands where the frame does. A native is asked for in a world, after
  -- this number of instructions.
  module _ (o : Op) (width : ℕ) (stands : op_at m.program.code f.address ≡ Some (o, width))
      (w : World S) (ran : ℕ) (s : Steady walk ran w) (t : w.trace ≡ [])
      (name : List ℕ) (r : Option Receiver) (args : List Held)
      (asks : AsksNative m (record { world = w; name = name; lent = r; args = args })
      (point walk o)) where
    abbrev question : Question S
    question = asked walk w name r args

    -- this follows from each value
    abbrev Goes : (Dynamic → World S → Act S) → Type 0
    Goes go = (n : Native) → native_asked m question ≡ Some n → IsCalled question n → (v : Dynamic) (l : ℕ)
        (u : World S) → Gave walk w name r args n v u → After walk w name r args None l u →
        u.trace ≡ [] → Even walk l (go v u)

    -- the fault is raised, in the frame with operands of which no more are gone than the
    -- instruction takes
    module _ (operands : List Held) (enough : Enough walk o operands) where
      pub none_raised :
          AsksLast m (not_found name (values_in (given r args)) (position m f)) question
          (point walk o) → native_asked m question ≡ None → Even walk ran
          (raised m (holding walk operands)
          (not_found name (values_in (given r args)) (position m f)) w)
      none_raised last e =
          even_raised_in walk o width stands operands enough ran
          (not_found name (values_in (given r args)) (position m f)) w s
          (none_why walk o width stands None w ran s t name r args asks last e)

      pub refused_raised : (n : Native) → native_asked m question ≡ Some n → n.writes ≡ true →
          first_is_read_only (given r args) ≡ true →
          Even walk ran
          (raised m (holding walk operands) (Plain (problem.NonPureCall name) (position m f)) w)
      refused_raised n e writes only =
          even_raised_in walk o width stands operands enough ran
          (Plain (problem.NonPureCall name) (position m f)) w s
          (refused_why walk o width stands None w ran s t name r args asks n e writes only)

    module _ (operands : List Held) (go : Dynamic → World S → Act S)
        (fails : Problem → World S → Act S)
        (goes : Goes go)
        (none : native_asked m question ≡ None →
        Even walk ran (fails (not_found name (values_in (given r args)) (position m f)) w))
        (refused : (n : Native) → native_asked m question ≡ Some n → n.writes ≡ true →
        first_is_read_only (given r args) ≡ true →
        Even walk ran (fails (Plain (problem.NonPureCall name) (position m f)) w))
        (failed : (n : Native) → native_asked m question ≡ Some n → IsCalled question n →
        (x : Problem) (l : ℕ) (u : World S) → FailedSo walk w name r args n x u →
        (AsksLast m x question (point walk o) → Reason walk x) → After walk w name r args None l u →
        Even walk l (fails x u))
      where
        -- the same where want of memory leaves the frame
        pub even_found : (found : Option Native) → native_asked m question ≡ found →
            Even walk ran (native_found m found name r args (holding walk operands) w go fails)
        even_found = even_found_or walk o width stands None w ran s t name r args asks operands
            (leave_by_fault m (holding walk operands) NoMemory) go fails
            (λ l u cause after. even_left_at walk (holding walk operands) l NoMemory u refl (inl refl)
            sits.1 (inl refl) after.0 cause) goes none refused failed

    pub even_native_in : ((x : Problem) → AsksLast m x question (point walk o)) →
        (operands : List Held) → Enough walk o operands → (go : Dynamic → World S → Act S) → Goes go →
        Even walk ran
        (native m name r args (holding walk operands) w go (raised m (holding walk operands)))
    even_native_in last operands enough go goes =
        even_found operands go (raised m (holding walk operands)) goes
        (none_raised operands enough
        (last (not_found name (values_in (given r args)) (position m f))))
        (refused_raised operands enough)
        (λ n e called x l u how reason after. even_raised_in walk o width stands operands enough l x u
        after.0 (reason (last x)))
        (native_asked m question) refl

    pub even_native : ((x : Problem) → AsksLast m x question (point walk o)) →
        (go : Dynamic → World S → Act S) → Goes go →
        Even walk ran (native m name r args f w go (raised m f))
    even_native last go goes = even_native_in last f.operands (all_there walk o) go goes
