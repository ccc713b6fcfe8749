use Rattle.std.proofs.Common.{◌≡◌, List, IfOk, is_ok, reverse, subst}
use Rattle.grain_value.specs.declared.values.Held.{Held}
use Rattle.grain_stack.proofs.Taking.{off_left, off_sound, off_taken}
use Rattle.grain_stack.proofs.stacks.Stacks.take_off.Goals as goal

pub invariant_of-self : goal.invariant_of-self
invariant_of-self c =
    off_sound (is_ok c.take_off.result) c.self.inside c.args.self.now c.take_off.new.self
    c.args.count c.self.invariant c.self.view_is c.requires.there c.take_off.ensures.left

pub returns-clause-taken : goal.returns-clause-taken
returns-clause-taken c =
    subst (λ (hs : List Held). IfOk c.take_off.result (λ taken. taken.items ≡ reverse hs))
    (off_taken c.self.inside c.args.self.now c.args.count c.self.invariant c.self.view_is
    c.requires.there) c.take_off.ensures.taken

pub returns-clause-left : goal.returns-clause-left
returns-clause-left c =
    off_left (is_ok c.take_off.result) c.self.inside c.args.self.now c.take_off.new.self
    c.args.count c.self.invariant c.self.view_is c.requires.there c.take_off.ensures.left
