use Rattle.std.proofs.Common.{◌++◌, ◌∷◌, [], ℕ, List, None, Ok, sym, ap, ◌∙◌, subst}
use Rattle.grain_value.specs.View.{tree}
use Rattle.grain_means.specs.Walks
use Rattle.grain_chain.specs.Walking.{place_of, role_in}
use Rattle.grain_chain.specs.Going.{Takes, rest, setting, next_step, with_value}
use Rattle.grain_chain.proofs.Roots.{dives}
use Rattle.grain_chain.proofs.Spots.{item_leads, key_leads}
use Rattle.grain_value.specs.Parts.{part}
use Rattle.grain_value.specs.Paths.{Leads}
use Rattle.grain_value.specs.declared.values.locating.Spot.{Spot}
use Rattle.grain_value.specs.declared.values.paths.PathStep.TheVariants as path_step
use Rattle.grain_chain.specs.Going.{deep}
use Rattle.grain_chain.proofs.walks.Walk.at_spot.Goals as goal

pub deeper-requires : goal.deeper-requires
deeper-requires c =
    item_leads c.args.self.now.trail.path c.args.self.now.trail.here.value c.requires.0 c.args.index
    c.in-Item.item c.requires.1.0 (c.requires.1.1 ∙ ap Ok c.in-Item.is)

pub deeper-requires-in-Key : goal.deeper-requires-in-Key
deeper-requires-in-Key c =
    let got = key_leads c.args.self.now.trail.path c.args.self.now.trail.here.value c.requires.0
    c.args.index c.requires.1.0 (c.requires.1.1 ∙ ap Ok c.in-Key.is) in
    subst (λ (k : List ℕ). Leads (c.args.self.now.trail.path ++ path_step.Key k ∷ [])
    (tree c.args.self.now.trail.here.value))
    (sym (c.key_of-key.ensures ∙ ap Walks.key_of got.1.0)) got.1.1

pub returns-in_ok-deeper-in-Item-clause-takes : goal.returns-in_ok-deeper-in-Item-clause-takes
returns-in_ok-deeper-in-Item-clause-takes c = λ x v i q b stands.
    subst (λ (s : Spot). Takes x c.args.self.now (Walks.indexed (setting x c.args.self.now)
    c.args.self.now.step q b (role_in c.args.role c.args.self.now.value) i c.args.index
    (with_value c.args.self.now v) (next_step x c.args.self.now) (place_of c.args.self.now)
    (rest x c.args.self.now) (Ok s)) (Ok None) c.deeper.new.self) (sym c.in-Item.is)
    (dives x c.args.self.now c.deeper.new.self (path_step.Index c.in-Item.item)
    c.in_ok-deeper-in-Item.ensures.deeper)

pub returns-in_ok-deeper-in-Key-clause-takes : goal.returns-in_ok-deeper-in-Key-clause-takes
returns-in_ok-deeper-in-Key-clause-takes c = λ x v i q b stands.
    subst (λ (s : Spot). Takes x c.args.self.now (Walks.indexed (setting x c.args.self.now)
    c.args.self.now.step q b (role_in c.args.role c.args.self.now.value) i c.args.index
    (with_value c.args.self.now v) (next_step x c.args.self.now) (place_of c.args.self.now)
    (rest x c.args.self.now) (Ok s)) (Ok None) c.deeper-in-Key.new.self) (sym c.in-Key.is)
    (dives x c.args.self.now c.deeper-in-Key.new.self (path_step.Key (Walks.key_of c.args.index))
    (c.in_ok-deeper-in-Key.ensures.deeper
    ∙ ap (λ (k : List ℕ). deep c.args.self.now (path_step.Key k)) c.key_of-key.ensures))

pub returns-in-Byte-clause-takes : goal.returns-in-Byte-clause-takes
returns-in-Byte-clause-takes c = λ x v i q b stands.
    subst (λ (s : Spot). Takes x c.args.self.now (Walks.indexed (setting x c.args.self.now)
    c.args.self.now.step q b (role_in c.args.role c.args.self.now.value) i c.args.index
    (with_value c.args.self.now v) (next_step x c.args.self.now) (place_of c.args.self.now)
    (rest x c.args.self.now) (Ok s)) c.at_part.result c.at_part.new.self) (sym c.in-Byte.is)
    (subst (λ (s : Spot). Takes x c.args.self.now (Walks.rooted (setting x c.args.self.now)
    c.args.self.now.step (Walks.origin_of_part (role_in c.args.role c.args.self.now.value) s)
    (record (with_value c.args.self.now v) { value = part v s }) (next_step x c.args.self.now)
    (place_of c.args.self.now) (rest x c.args.self.now)) c.at_part.result c.at_part.new.self) c.in-Byte.is
    (c.at_part.ensures.takes x v stands))

pub returns-in-Character-clause-takes : goal.returns-in-Character-clause-takes
returns-in-Character-clause-takes c = λ x v i q b stands.
    subst (λ (s : Spot). Takes x c.args.self.now (Walks.indexed (setting x c.args.self.now)
    c.args.self.now.step q b (role_in c.args.role c.args.self.now.value) i c.args.index
    (with_value c.args.self.now v) (next_step x c.args.self.now) (place_of c.args.self.now)
    (rest x c.args.self.now) (Ok s)) c.at_part-in-Character.result c.at_part-in-Character.new.self)
    (sym c.in-Character.is)
    (subst (λ (s : Spot). Takes x c.args.self.now (Walks.rooted (setting x c.args.self.now)
    c.args.self.now.step (Walks.origin_of_part (role_in c.args.role c.args.self.now.value) s)
    (record (with_value c.args.self.now v) { value = part v s }) (next_step x c.args.self.now)
    (place_of c.args.self.now) (rest x c.args.self.now)) c.at_part-in-Character.result
    c.at_part-in-Character.new.self) c.in-Character.is
    (c.at_part-in-Character.ensures.takes x v stands))

pub returns-in-Bit-clause-takes : goal.returns-in-Bit-clause-takes
returns-in-Bit-clause-takes c = λ x v i q b stands.
    subst (λ (s : Spot). Takes x c.args.self.now (Walks.indexed (setting x c.args.self.now)
    c.args.self.now.step q b (role_in c.args.role c.args.self.now.value) i c.args.index
    (with_value c.args.self.now v) (next_step x c.args.self.now) (place_of c.args.self.now)
    (rest x c.args.self.now) (Ok s)) c.at_part-in-Bit.result c.at_part-in-Bit.new.self) (sym c.in-Bit.is)
    (subst (λ (s : Spot). Takes x c.args.self.now (Walks.rooted (setting x c.args.self.now)
    c.args.self.now.step (Walks.origin_of_part (role_in c.args.role c.args.self.now.value) s)
    (record (with_value c.args.self.now v) { value = part v s }) (next_step x c.args.self.now)
    (place_of c.args.self.now) (rest x c.args.self.now)) c.at_part-in-Bit.result
    c.at_part-in-Bit.new.self) c.in-Bit.is
    (c.at_part-in-Bit.ensures.takes x v stands))
