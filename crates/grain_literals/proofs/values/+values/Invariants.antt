use Rattle.std.proofs.Common.{◌≡◌, ◌++◌, codes, ◌+◌, ◌*◌}
use Rattle.grain_literals.specs.Values.{made, others, all_others, entry_here, put_all, value}
use Rattle.grain_literals.proofs.values.+values.Given as goal

-- what stands inside a value has fewer levels, and the parts of a list are read with its levels
abbrev pub decreases-value : goal.decreases-value
decreases-value l = l.levels * 5

abbrev pub decreases-entry_here : goal.decreases-entry_here
decreases-entry_here l = l.levels * 5 + 1

abbrev pub decreases-other_values : goal.decreases-other_values
decreases-other_values l = l.levels * 5 + 2

abbrev pub decreases-other_entries : goal.decreases-other_entries
decreases-other_entries l = l.levels * 5 + 2

abbrev pub decreases-array_here : goal.decreases-array_here
decreases-array_here l = l.levels * 5 + 3

abbrev pub decreases-map_here : goal.decreases-map_here
decreases-map_here l = l.levels * 5 + 3

abbrev pub decreases-pointer_here : goal.decreases-pointer_here
decreases-pointer_here l = l.levels * 5 + 3

abbrev pub invariant-other_values-values : goal.invariant-other_values-values
invariant-other_values-values l =
    made (λ ts. l.values ++ ts) (others l.end (value l.levels) l.room l.rest) ≡
    made (λ ts. l.fn.before ++ ts) (all_others l.end (value l.levels) l.line)

abbrev pub decreases-other_values-values : goal.decreases-other_values-values
decreases-other_values-values l = l.room

abbrev pub invariant-other_entries-entries : goal.invariant-other_entries-entries
invariant-other_entries-entries l =
    made (put_all l.map) (others (codes "}") (entry_here (value l.levels)) l.room l.rest) ≡
    made (put_all l.fn.before)
    (all_others (codes "}") (entry_here (value l.levels)) l.line)

abbrev pub decreases-other_entries-entries : goal.decreases-other_entries-entries
decreases-other_entries-entries l = l.room
