-- What the assembler says, by what the check of its aims answers.
use Rattle.std.proofs.Common.{◌≡◌, ℕ, List, map, Option, Result, Ok, Err, ap, ◌∙◌}
use Rattle.grain_program.specs.declared.code.parts.AssignOp.{AssignOp}
use Rattle.grain_program.specs.declared.code.switches.Switch.{Switch}
use Rattle.grain_words.specs.Labels.{address_of}
use Rattle.grain_literals.specs.Steps.{and_then}
use Rattle.grain_listing.specs.Reading.{ListingView}
use Rattle.grain_listing.specs.SwitchTargets.{all_known, linked_switch}
use Rattle.grain_listing.specs.views.Assembling.{AssemblerView}
use Rattle.grain_listing.specs.views.Linking.{filled, linked}
use Rattle.grain_listing.specs.declared.reasons.BadLine.{BadLine}
use Rattle.grain_listing.specs.declared.switch_words.Aim.{Aim}
use Rattle.grain_listing.specs.declared.switch_words.AimedSwitch.{AimedSwitch}

module _ (v : AssemblerView) (ops : List AssignOp) where
  abbrev look : List ℕ → Option ℕ
  look t = address_of t v.labels

  -- what follows the check
  abbrev onward : Result (Unit {0}) BadLine → Result ListingView BadLine
  onward r = and_then r (λ _. filled v ops (map (linked_switch look) v.switches))

  pub unknown : (aims : List Aim) (bad : BadLine) → aims ≡ v.aims →
      Err bad ≡ all_known look aims → Err bad ≡ linked v ops
  unknown aims bad same e = ap onward (e ∙ ap (all_known look) same)

  pub known : (aims : List Aim) (x : Unit {0}) (aimed : List AimedSwitch) (switches : List Switch)
      (r : Result ListingView BadLine) → aims ≡ v.aims → Ok x ≡ all_known look aims →
      aimed ≡ v.switches → switches ≡ map (linked_switch look) aimed →
      r ≡ filled v ops switches → r ≡ linked v ops
  known aims x aimed switches r same e here found is =
      is ∙ ap (filled v ops) (found ∙ ap (map (linked_switch look)) here) ∙
      ap onward (e ∙ ap (all_known look) same)
