use Rattle.std.proofs.Common.{◌≡◌, ◌∙◌, ◌∷◌, [], sym}
use Rattle.grain_means.specs.Rules.{kinds_in, trees_in}
use Rattle.grain_frame.specs.Targets.{home_of}
use Rattle.grain_frame.proofs.Serving.{lent_none}
use Rattle.grain_frame.proofs.native_assignments.seek_lent.Goals as goal

pub returns-in_default : goal.returns-in_default
returns-in_default g c = λ target place h v lent plain given.
    let kinds : c.in_ok-kinds.kinds ≡ kinds_in (h ∷ v ∷ []) =
    rw (lent, given) c.in_ok-kinds.ensures in
    let trees : c.in_ok-values.values ≡ trees_in (h ∷ v ∷ []) =
    rw (lent, given) c.in_ok-values.ensures in
    lent_none g.H.Host.law c.args.host.now c.args.name.now c.as_str.result.now
    (home_of target place) h v c.in_ok-kinds.kinds c.in_ok-values.values c.args.position
    c.in_ok-not_found.field-0 kinds trees
    (sym c.resolve.ensures ∙ c.in_default.is) c.as_str.ensures c.in_ok-not_found.ensures
