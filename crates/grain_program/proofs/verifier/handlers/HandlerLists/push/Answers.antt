-- A node that the table has, and one that it gets.
use Rattle.std.proofs.Common.{◌≡◌, ◌+◌, length, None, sym, ◌∙◌, arith}
use Rattle.std.specs.BTreeMap.{get}
use Rattle.grain_program.specs.HandlerLists.{node_cmp}
use Rattle.grain_program.proofs.ListNumbers.{number_found, grows_on, number_within, number_list, table_on}
use Rattle.grain_program.proofs.verifier.handlers.HandlerLists.push.Goals as goal

pub returns-in-Some-clause-within : goal.returns-in-Some-clause-within
returns-in-Some-clause-within c =
    (number_found c.self.inside.nodes.items c.self.inside.numbers c.self.invariant c.args.self.now
    c.self.view_is c.args.node c.in-Some.list
    (sym c.get.ensures.value ∙ sym c.copied.ensures ∙ c.in-Some.is)).0

pub returns-in-Some-clause-exact : goal.returns-in-Some-clause-exact
returns-in-Some-clause-exact c =
    (number_found c.self.inside.nodes.items c.self.inside.numbers c.self.invariant c.args.self.now
    c.self.view_is c.args.node c.in-Some.list
    (sym c.get.ensures.value ∙ sym c.copied.ensures ∙ c.in-Some.is)).1

pub invariant_of-self-in-Ok-insert : goal.invariant_of-self-in-Ok-insert
invariant_of-self-in-Ok-insert c =
    let none : get node_cmp c.self.inside.numbers c.args.node ≡ None =
    sym c.get.ensures.value ∙ sym c.copied.ensures ∙ c.in_default.is in
    let list : c.in-Ok.list ≡ length c.self.inside.nodes.items + 1 =
    omega (arith, c.in-Ok.ensures.1, c.len.ensures) in
    table_on c.self.inside.nodes.items c.push.new.self.items c.args.node c.args.self.now
    c.self.view_is c.in_ok-push.ensures.items c.self.inside.numbers c.insert.new.self c.in-Ok.list
    c.self.invariant c.requires none list c.in-Ok-insert.ensures.updates

pub returns-in-Ok-insert-clause-grown : goal.returns-in-Ok-insert-clause-grown
returns-in-Ok-insert-clause-grown c =
    grows_on c.self.inside.nodes.items c.push.new.self.items c.args.node c.args.self.now
    c.self.view_is c.in_ok-push.ensures.items

pub returns-in-Ok-insert-clause-within : goal.returns-in-Ok-insert-clause-within
returns-in-Ok-insert-clause-within c =
    number_within c.self.inside.nodes.items c.push.new.self.items c.args.node c.args.self.now
    c.self.view_is c.in_ok-push.ensures.items c.in-Ok.list
    (omega (arith, c.in-Ok.ensures.1, c.len.ensures))

pub returns-in-Ok-insert-clause-exact : goal.returns-in-Ok-insert-clause-exact
returns-in-Ok-insert-clause-exact c =
    number_list c.self.inside.nodes.items c.push.new.self.items c.args.node c.args.self.now
    c.self.view_is c.in_ok-push.ensures.items c.in-Ok.list
    (omega (arith, c.in-Ok.ensures.1, c.len.ensures))
