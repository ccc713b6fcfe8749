use Rattle.std.proofs.Common.{◌∙◌, sym, ap, length, string_bytes}
use Rattle.grain_value.proofs.Prefixes.{can_be_cut}
use Rattle.grain_value.proofs.appending.append.Goals as goal

pub truncate-requires : goal.truncate-requires
truncate-requires g c =
    λ le. can_be_cut _ _ _ (ap length c.as_str-length.ensures.value
    ∙ ap (λ s. length (string_bytes s)) (sym c.replace.ensures.value))
    c.print_after-extended.ensures.extends
