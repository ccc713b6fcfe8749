use Rattle.std.proofs.Common.{rules, ◌≡◌, ◌++◌, sym, ap, ◌∙◌, codes, List, Some, None, append-nil}
use Rattle.grain_words.specs.Words.{after_text, after_sign}
use Rattle.grain_value.specs.Tree.{Tree}
use Rattle.grain_value.specs.View.{tree}
use Rattle.grain_literals.specs.Values.{entry_here, put_all, value}
use Rattle.grain_literals.proofs.ListsRead.{list_over, no_sign, no_thing, another_value, another_entry}
use Rattle.grain_literals.proofs.values.+values.Goals as goal

pub other_entries-returns-in-Some : goal.other_entries-returns-in-Some
other_entries-returns-in-Some t c =
    let over : Some c.in-Some.after.now ≡ after_text (codes "}") c.entries.rest.now =
    search rules in
    list_over (put_all c.entries.map) (codes "}") (entry_here (value c.args.levels)) c.entries.room
    c.entries.rest.now c.in-Some.after.now _ c.entries-test.true over c.entries.invariant

pub other_entries-returns-in_default-after_sign : goal.other_entries-returns-in_default-after_sign
other_entries-returns-in_default-after_sign t c =
    let going : None ≡ after_text (codes "}") c.entries.rest.now = search rules in
    let none : None ≡ after_sign (codes ",") c.entries.rest.now = search rules in
    no_sign (put_all c.entries.map) (codes "}") (entry_here (value c.args.levels)) c.entries.room
    c.entries.rest.now _ c.entries-test.true going none c.entries.invariant

pub other_entries-returns-in_default-2 : goal.other_entries-returns-in_default-2
other_entries-returns-in_default-2 t c =
    let going : None ≡ after_text (codes "}") c.entries.rest.now = search rules in
    let sign : Some c.in-Some-after_sign.start.now ≡ after_sign (codes ",") c.entries.rest.now =
    search rules in
    let none : None ≡ entry_here (value c.args.levels) c.in-Some-after_sign.start.now =
    search rules in
    no_thing (put_all c.entries.map) (codes "}") (entry_here (value c.args.levels)) c.entries.room
    c.entries.rest.now c.in-Some-after_sign.start.now _ c.entries-test.true going sign none
    c.entries.invariant

pub other_values-returns-in-Some : goal.other_values-returns-in-Some
other_values-returns-in-Some t c =
    let over : Some c.in-Some.after.now ≡ after_text c.args.end.now c.values.rest.now =
    search rules in
    ap (λ (ts : List Tree). Some (ts, c.in-Some.after.now)) (sym (append-nil c.values.values)) ∙
    list_over (λ ts. c.values.values ++ ts) c.args.end.now (value c.args.levels) c.values.room
    c.values.rest.now c.in-Some.after.now _ c.values-test.true over c.values.invariant

pub other_values-returns-in_default-2 : goal.other_values-returns-in_default-2
other_values-returns-in_default-2 t c =
    let going : None ≡ after_text c.args.end.now c.values.rest.now = search rules in
    let sign : Some c.in-Some-after_sign.start.now ≡ after_sign (codes ",") c.values.rest.now =
    search rules in
    let none : None ≡ value c.args.levels c.in-Some-after_sign.start.now = search rules in
    no_thing (λ ts. c.values.values ++ ts) c.args.end.now (value c.args.levels) c.values.room
    c.values.rest.now c.in-Some-after_sign.start.now _ c.values-test.true going sign none
    c.values.invariant

pub other_values-values-preserved : goal.other_values-values-preserved
other_values-values-preserved t c =
    let going : None ≡ after_text c.args.end.now c.values.rest.now = search rules in
    let sign : Some c.in-Some-after_sign.start.now ≡ after_sign (codes ",") c.values.rest.now =
    search rules in
    let found : Some (tree c.in-Some-2.value, c.in-Some-2.after.now) ≡
    value c.args.levels c.in-Some-after_sign.start.now = search rules in
    let more = another_value c.values.values (tree c.in-Some-2.value) c.args.end.now
    (value c.args.levels) c.values.room c.values.rest.now c.in-Some-after_sign.start.now
    c.in-Some-2.after.now _ c.values-test.true going sign found c.values.invariant in
    search (rules, more)

pub other_entries-entries-preserved : goal.other_entries-entries-preserved
other_entries-entries-preserved t c =
    let going : None ≡ after_text (codes "}") c.entries.rest.now = search rules in
    let sign : Some c.in-Some-after_sign.start.now ≡ after_sign (codes ",") c.entries.rest.now =
    search rules in
    let found : Some ((c.in-Some-2.key, tree c.in-Some-2.value), c.in-Some-2.after.now) ≡
    entry_here (value c.args.levels) c.in-Some-after_sign.start.now = search rules in
    let more = another_entry c.entries.map (c.in-Some-2.key, tree c.in-Some-2.value) (codes "}")
    (entry_here (value c.args.levels)) c.entries.room c.entries.rest.now
    c.in-Some-after_sign.start.now c.in-Some-2.after.now _ c.entries-test.true going sign found
    c.entries.invariant in
    search (rules, more)
