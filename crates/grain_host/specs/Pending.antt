-- The calls of `map` that wait for what comes of an element.
use Rattle.std.specs.Prelude.{ℕ, zero, suc, ◌+◌, max, Bool, true, ◌&&◌, List, [], ◌∷◌, ◌++◌, Option, Some, None, ◌==◌, length, slice_get, if◌then◌else◌}
use Rattle.grain_value.specs.Tree.{Tree, array, pack}
use Rattle.grain_value.specs.View.{tree}
use Rattle.grain_value.specs.Cells.{cell_bound, is_clean}
use Rattle.grain_value.specs.declared.values.Dynamic.{Dynamic}
use Rattle.grain_value.specs.declared.values.Dynamic.TheVariants as dynamic
use Rattle.grain_value.specs.declared.values.FnPtr.{FnPtr}
use Rattle.grain_host.specs.declared.pending_calls.PendingCall.{PendingCall}

-- a call that is to ask for its first element with this token
abbrev pub begun : ℕ → List Tree → FnPtr → PendingCall
begun token elements pointer =
    record { token = token; pointer = pointer; elements = elements; answers = [] }

-- the same call with one answer more, which asks for its next element with this token
abbrev pub answered : ℕ → Dynamic → PendingCall → PendingCall
answered token v p = record p { token = token; answers = p.answers ++ tree v ∷ [] }

-- the element that comes after the one that is out, if there is one
abbrev pub next_of : PendingCall → Option Tree
next_of p = slice_get p.elements (length p.answers + 1)

-- the place of the first call with this token, if there is one; places are counted from the number
abbrev pub place_from : ℕ → ℕ → List PendingCall → Option ℕ
place_from i token [] = None
place_from i token (p ∷ ps) =
    if p.token == token then Some i else place_from (i + 1) token ps

abbrev pub place_of : ℕ → List PendingCall → Option ℕ
place_of token ps = place_from 0 token ps

-- the calls, of which the one at the place is changed so
abbrev pub renewed : ℕ → (PendingCall → PendingCall) → List PendingCall → List PendingCall
renewed i f [] = []
renewed zero f (p ∷ ps) = f p ∷ ps
renewed (suc i) f (p ∷ ps) = p ∷ renewed i f ps

-- one more than the greatest cell that the values of a call name, and 0 where they name none
abbrev pub pending_bound : PendingCall → ℕ
pending_bound p =
    max (cell_bound (tree (dynamic.Pointer p.pointer)))
    (max (cell_bound (array (pack p.elements))) (cell_bound (array (pack p.answers))))

abbrev pub waiting_bound : List PendingCall → ℕ
waiting_bound [] = 0
waiting_bound (p ∷ ps) = max (pending_bound p) (waiting_bound ps)

-- whether the values of a call are clean
abbrev pub pending_clean : PendingCall → Bool
pending_clean p =
    is_clean (tree (dynamic.Pointer p.pointer))
    && (is_clean (array (pack p.elements)) && is_clean (array (pack p.answers)))

abbrev pub waiting_clean : List PendingCall → Bool
waiting_clean [] = true
waiting_clean (p ∷ ps) = pending_clean p && waiting_clean ps
