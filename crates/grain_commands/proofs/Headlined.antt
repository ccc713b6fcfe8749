-- What is said of each status gives the headline.
use Rattle.std.proofs.Common.{◌≡◌, ◌≤◌, ◌++◌, ◌∙◌, ℕ, zero, suc, Bool, true, List, Option, Some, Err, IfSome, sym, ap, subst, refl, arith}
use Rattle.grain_host.specs.Tables.{table_law}
use Rattle.grain_host.specs.declared.tables.TableHost.{TableHost}
use Rattle.grain_program.specs.Typing.{IsProgram}
use Rattle.grain_program.specs.View.{View}
use Rattle.grain_program.specs.declared.verifier.refusals.Refusal.{Refusal}
use Rattle.grain_global.specs.Engines.{with_callbacks}
use Rattle.grain_global.specs.declared.engines.Engine.{Engine}
use Rattle.grain_means.specs.Core.{CoreMeans, IsCore}
use Rattle.grain_means.specs.Worlds.{Answer, Came, Failed}
use Rattle.grain_means.specs.Means.{Begin, Finish, Means}
use Rattle.grain_listing.specs.Reading.{ListingView, reads}
use Rattle.grain_listing.specs.declared.reasons.BadLine.{BadLine}
use Rattle.grain_streams.specs.Streams.{added}
use Rattle.grain_commands.proofs.Completed.{same_set_up}
use Rattle.grain_commands.specs.Headline.{CoreListing, CoreEnds, PrintsCoreEnd}
use Rattle.grain_commands.specs.Replies.{Counts, is_run, listing_for}
use Rattle.grain_commands.specs.Runs.{answer_report, engine_of, report, start, status_of, value_text}
use Rattle.grain_commands.proofs.Commanding.{held, not_told, run_commands, to_source}
use Rattle.grain_commands.specs.Statuses.{RunEnds, IsRefused, Says, Beside, Gives, NoneRose, Completes}

-- an end by the rules of the core is one by all rules
abbrev pub CoreIsMeant : Type 0
CoreIsMeant = (program : View) (engine : Engine) (b : Begin TableHost) (e : Finish TableHost) →
    CoreMeans table_law program engine b e →
    (n : ℕ) × Means table_law program (with_callbacks true engine) b e n

-- and of a valid program of the core each end by all rules is one by those of the core
abbrev pub MeansCore : Type 0
MeansCore = (program : View) (engine : Engine) (b : Begin TableHost) (e : Finish TableHost) →
    IsProgram program → IsCore program → (n : ℕ) →
    Means table_law program (with_callbacks true engine) b e n →
    CoreMeans table_law program engine b e

-- an end of a run on what a listing says, by all rules
abbrev MeansSo : Finish TableHost → ListingView → Type 0
MeansSo end s = (n : ℕ) × Means table_law s.parts
    (engine_of s.limits s.fast_operators s.strict_properties) (start s.scope s.host) end n

-- an end of the listing's run is one of the core program
core_end : MeansCore → (bytes : List ℕ) (listing : CoreListing bytes) (end : Finish TableHost) →
    RunEnds bytes end → CoreEnds listing.set_up end
core_end of_core bytes listing end run =
    let s = listing.set_up in
    let means : MeansSo end s =
    subst (MeansSo end) (same_set_up (reads bytes) listing.set_up run.set_up listing.said run.said)
    (run.instructions, run.means) in
    of_core s.parts (engine_of s.limits s.fast_operators s.strict_properties) (start s.scope s.host)
    end listing.valid listing.core means.0 means.1

-- and the other way round
run_end : CoreIsMeant → (bytes : List ℕ) (listing : CoreListing bytes) (end : Finish TableHost) →
    CoreEnds listing.set_up end → RunEnds bytes end
run_end all bytes listing end ends =
    let s = listing.set_up in
    let means = all s.parts (engine_of s.limits s.fast_operators s.strict_properties)
    (start s.scope s.host) end ends in
    record {
      set_up = s;
      said = listing.said;
      valid = listing.valid;
      instructions = means.0;
      means = means.1;
    }

-- what is said of the bytes, where they are known
of_bytes : (input : Option (List ℕ)) (bytes : List ℕ) (P : List ℕ → Type 0) → input ≡ Some bytes →
    IfSome input P → P bytes
of_bytes input bytes P told h = subst (λ (o : Option (List ℕ)). IfSome o P) told h

-- the report of an end, by its answer
report_at : (end : Finish TableHost) (a : Answer) → end.answer ≡ a →
    end.host.printed ++ answer_report end.cells a end.trace ≡ report end
report_at end a is =
    ap (λ x. end.host.printed ++ answer_report end.cells x end.trace) (sym is)

module _ (of_core : MeansCore) (words : List (List ℕ)) (input before now : Option (List ℕ))
    (bytes : List ℕ) (command : is_run words ≡ true) (told : input ≡ Some bytes)
    (listing : CoreListing bytes) where
  -- a status and a text tell an end of the core program
  abbrev Told : ℕ → List ℕ → Type 0
  Told status text = (end : Finish TableHost) × CoreEnds listing.set_up end ×
      (status ≡ status_of end.answer) × (text ≡ report end)

  -- what is run is what the source holds
  of_held : (P : List ℕ → Type 0) → IfSome (listing_for words input) P → IfSome input P
  of_held = to_source words input command

  told_at : (status : ℕ) (text : List ℕ) (a : Answer) (end : Finish TableHost) → end.answer ≡ a →
      status ≡ status_of a → IfSome input (λ b. RunEnds b end) →
      text ≡ end.host.printed ++ answer_report end.cells a end.trace → Told status text
  told_at status text a end is number run written = (
    end,
    core_end of_core bytes listing end (of_bytes input bytes (λ b. RunEnds b end) told run),
    number ∙ ap status_of (sym is),
    written ∙ report_at end a is,
  )

  no_bad_line : (bad : BadLine) → IfSome input (λ b. reads b ≡ Err bad) → ⊥
  no_bad_line bad h =
      let said : reads bytes ≡ Err bad = of_bytes input bytes (λ b. reads b ≡ Err bad) told h in
      let is = listing.said in absurd cc

  no_refusal : (r : Refusal) → IfSome input (λ b. IsRefused b r) → ⊥
  no_refusal r h =
      let refused = of_bytes input bytes (λ b. IsRefused b r) told h in
      refused.invalid (subst (λ (s : ListingView). IsProgram s.parts)
      (sym (same_set_up (reads bytes) listing.set_up refused.set_up listing.said refused.said))
      listing.valid)

  tells : (status : ℕ) (text : List ℕ) → status ≤ 4 → Says words input status text →
      Told status text
  tells zero text small says =
      let s = says.value refl in
      told_at 0 text (Came s.0) s.1 s.2 refl (of_held (λ b. RunEnds b s.1) s.3)
      (s.4 ∙ ap (λ b. value_text b s.1 s.0) (not_told words command))
  tells (suc zero) text small says =
      let s = says.fault refl in
      told_at 1 text (Failed s.0) s.1 s.2 refl (of_held (λ b. RunEnds b s.1) s.3) s.4
  tells (suc (suc zero)) text small says =
      let none = (says.usage refl).0 in
      let some = run_commands words command in absurd cc
  tells (suc (suc (suc zero))) text small says =
      let s = says.no_listing refl in
      absurd (no_bad_line s.0 (of_held (λ b. reads b ≡ Err s.0) s.1))
  tells (suc (suc (suc (suc zero)))) text small says =
      let s = says.refused refl in absurd (no_refusal s.0 (of_held (λ b. IsRefused b s.0) s.1))
  tells (suc (suc (suc (suc (suc n))))) text small says = absurd (omega arith)

  printed : (status : ℕ) (text : List ℕ) → Told status text → now ≡ added text before →
      (end : Finish TableHost) × CoreEnds listing.set_up end × (status ≡ status_of end.answer) ×
      (now ≡ added (report end) before)
  printed status text t written =
      (t.0, t.1, t.2, written ∙ ap (λ x. added x before) t.3)

-- of the statuses up to 7 those that are none of the last three
at_most_four : (status : ℕ) → status ≤ 7 → (status ≡ 5 → ⊥) → (status ≡ 6 → ⊥) → (status ≡ 7 → ⊥) →
    status ≤ 4
at_most_four zero known read write memory = omega arith
at_most_four (suc zero) known read write memory = omega arith
at_most_four (suc (suc zero)) known read write memory = omega arith
at_most_four (suc (suc (suc zero))) known read write memory = omega arith
at_most_four (suc (suc (suc (suc zero)))) known read write memory = omega arith
at_most_four (suc (suc (suc (suc (suc zero))))) known read write memory = absurd (read refl)
at_most_four (suc (suc (suc (suc (suc (suc zero)))))) known read write memory = absurd (write refl)
at_most_four (suc (suc (suc (suc (suc (suc (suc zero))))))) known read write memory = absurd (memory refl)
at_most_four (suc (suc (suc (suc (suc (suc (suc (suc n)))))))) known read write memory =
    absurd (omega arith)

-- the due status and text of an end, by its answer
given_at : (end : Finish TableHost) (a : Answer) (before now : Option (List ℕ)) (status : ℕ) →
    end.answer ≡ a →
    Gives (status_of a) (end.host.printed ++ answer_report end.cells a end.trace) before now status →
    Gives (status_of end.answer) (report end) before now status
given_at end a before now status is gives =
    subst (λ (x : Answer).
    Gives (status_of x) (end.host.printed ++ answer_report end.cells x end.trace) before now status)
    (sym is) gives

pub prints_core_end : CoreIsMeant → MeansCore → (words : List (List ℕ))
    (input before now : Option (List ℕ)) (counts : Counts) (status : ℕ) →
    Beside words input before now counts status →
    Completes words input before now counts status →
    PrintsCoreEnd words input before now counts status
prints_core_end all of_core words input before now counts status beside completes = record {
  prints = λ command bytes told listing read write memory.
      let small = at_most_four status beside.known read write memory in
      let whole = beside.whole small in
      printed of_core words input before now bytes command told listing status whole.0
      (tells of_core words input before now bytes command told listing status whole.0 small whole.1) whole.2;
  complete = λ command none bytes told listing end ends. by_answer command none bytes told end
      (run_end all bytes listing end ends) end.answer refl;
} where
  by_answer : is_run words ≡ true → NoneRose counts → (bytes : List ℕ) → input ≡ Some bytes →
      (end : Finish TableHost) → RunEnds bytes end → (a : Answer) → end.answer ≡ a →
      Gives (status_of end.answer) (report end) before now status
  by_answer command none bytes told end run (Came v) is =
      given_at end (Came v) before now status is
      (subst (λ (b : Bool). Gives 0 (value_text b end v) before now status) (not_told words command)
      (completes.value (run_commands words command) none bytes (held words input command ∙ told) v end is
      run))
  by_answer command none bytes told end run (Failed p) is =
      given_at end (Failed p) before now status is
      (completes.fault (run_commands words command) none bytes (held words input command ∙ told) p end is
      run)
