-- The host in memory hands over what is clean, where its lines hold such values only and it is given
-- such values, none of which is a cell.
use Rattle.std.specs.Prelude.{ℕ, ℤ, ◌≡◌, ◌==◌, Bool, true, false, ◌&&◌, not, List, [], ◌∷◌, ◌++◌, Option, Some, None, map, refl, slice_get, option_and_then, if◌then◌else◌}
use Rattle.grain_value.specs.Tree.{Tree, array, pack}
use Rattle.grain_value.specs.View.{tree, value_of}
use Rattle.grain_value.specs.Cells.{is_cell, is_clean}
use Rattle.grain_value.specs.declared.values.Dynamic.{Dynamic}
use Rattle.grain_value.specs.declared.values.Dynamic.TheVariants as dynamic
use Rattle.grain_value.specs.declared.values.Held.{Held}
pub use Rattle.grain_host.specs.Truths.{both_true, first_true, second_true}
use Rattle.grain_host.specs.Calling.{receiver_clean, values_given, values_plain}
use Rattle.grain_host.specs.Law.{Reply, call_is_clean, is_plain, reply_is_clean, verdict_is_clean}
use Rattle.grain_host.specs.declared.register_natives.Access.{Access}
use Rattle.grain_host.specs.declared.register_natives.Access.TheVariants as access
use Rattle.grain_host.specs.declared.register_natives.Place.{Place}
use Rattle.grain_host.specs.declared.register_natives.Place.TheVariants as place
use Rattle.grain_host.specs.declared.tables.TableHost.{TableHost}
use Rattle.grain_host.specs.declared.stop_lines.StopLine.{StopLine}
use Rattle.grain_host.specs.declared.tables.Turn.{Turn}
use Rattle.grain_host.specs.declared.tables.Turn.TheVariants as turns
use Rattle.grain_host.specs.Stops.{stop_at, stops_clean}
use Rattle.grain_host.specs.Registers.{register_of, number_of, register_at, named_by, own_reply, read_reply, write_reply, asked}
use Rattle.grain_host.specs.Tables.{print_reply, push_reply, counted, entries_in, len_reply, exit_reply, register_reply, native_reply, sole, first_of_two, reply_at, written_at, pushed, verdict, turn, table_law}

abbrev argument_plain : Option Dynamic → Bool
argument_plain None = true
argument_plain (Some v) = is_plain (tree v)

sole_plain : (vs : List Dynamic) → values_plain vs ≡ true → argument_plain (sole vs) ≡ true
sole_plain [] h = refl
sole_plain (v ∷ []) h = first_true (is_plain (tree v)) true h
sole_plain (v ∷ u ∷ vs) h = refl

pub either : (b : Bool) (x y : Reply) → reply_is_clean x ≡ true → reply_is_clean y ≡ true →
    reply_is_clean (if b then x else y) ≡ true
either true x y p q = p
either false x y p q = q

print_clean : (v : Option Dynamic) → reply_is_clean (print_reply v) ≡ true
print_clean None = refl
print_clean (Some v) = refl

push_clean : (v : Option Dynamic) → reply_is_clean (push_reply v) ≡ true
push_clean (Some (dynamic.Array ts)) = refl
push_clean _ = refl

count_clean : (o : Option ℕ) → reply_is_clean (counted o) ≡ true
count_clean None = refl
count_clean (Some k) = refl

len_clean : (v : Option Dynamic) → reply_is_clean (len_reply v) ≡ true
len_clean None = refl
len_clean (Some v) = count_clean (entries_in v)

exit_clean : (v : Option Dynamic) → argument_plain v ≡ true → reply_is_clean (exit_reply v) ≡ true
exit_clean None h = refl
exit_clean (Some v) h =
    both_true (is_clean (tree v) && true) true
    (both_true (is_clean (tree v)) true
    (first_true (is_clean (tree v)) (not (is_cell (tree v))) h) refl) refl

own_clean : (kind : ℕ) (k : Option ℕ) (i : ℤ) →
    reply_is_clean (own_reply kind k (dynamic.Int i)) ≡ true
own_clean kind None i = refl
own_clean kind (Some k) i = refl

read_clean : (x : Option ℤ) (p : Place) → reply_is_clean (read_reply x (named_by p)) ≡ true
read_clean None (place.Number k) = refl
read_clean None (place.Index i) = refl
read_clean (Some x) p = refl

write_clean : (k : Option ℕ) (p : Place) → reply_is_clean (write_reply k (named_by p)) ≡ true
write_clean None (place.Number k) = refl
write_clean None (place.Index i) = refl
write_clean (Some k) p = refl

access_clean : (rs : List ℤ) (a : Option Access) → reply_is_clean (register_reply rs a) ≡ true
access_clean rs None = refl
access_clean rs (Some (access.Register i)) = own_clean 16 (register_of i) i
access_clean rs (Some (access.Bank i)) = own_clean 17 (number_of i) i
access_clean rs (Some (access.WriteBank i)) = own_clean 18 (number_of i) i
access_clean rs (Some (access.Read p)) =
    read_clean (option_and_then (slice_get rs) (register_at p)) p
access_clean rs (Some (access.Write p x)) = write_clean (register_at p) p

native_clean : (rs : List ℤ) (key : ℕ) (vs : List Dynamic) → values_plain vs ≡ true →
    reply_is_clean (native_reply rs key vs) ≡ true
native_clean rs key vs h =
    either (key == 1) _ _ (print_clean (sole vs))
    (either (key == 2) _ _ (push_clean (first_of_two vs))
    (either (key == 3) _ _ (len_clean (sole vs))
    (either (key == 5) _ _ (exit_clean (sole vs) (sole_plain vs h))
    (access_clean rs (asked key vs)))))

pub reply_clean : (t : Turn) (rs : List ℤ) (key : ℕ) (vs : List Dynamic) → values_plain vs ≡ true →
    reply_is_clean (reply_at t rs key vs) ≡ true
reply_clean turns.Full rs key vs h = refl
reply_clean (turns.Failing k) rs key vs h = refl
reply_clean (turns.Ready k) rs key vs h = native_clean rs key vs h

-- an array with one more value, which is no cell
pub longer_clean : (ts : List Tree) (t : Tree) → is_clean (array (pack ts)) ≡ true → is_plain t ≡ true →
    is_clean (array (pack (ts ++ t ∷ []))) ≡ true
longer_clean [] t p q =
    both_true (not (is_cell t)) (is_clean t && true)
    (second_true (is_clean t) (not (is_cell t)) q)
    (both_true (is_clean t) true (first_true (is_clean t) (not (is_cell t)) q) refl)
longer_clean (u ∷ us) t p q =
    let rest : Bool = is_clean u && is_clean (array (pack us)) in
    let inner = second_true (not (is_cell u)) rest p in
    both_true (not (is_cell u)) (is_clean u && is_clean (array (pack (us ++ t ∷ []))))
    (first_true (not (is_cell u)) rest p)
    (both_true (is_clean u) (is_clean (array (pack (us ++ t ∷ []))))
    (first_true (is_clean u) (is_clean (array (pack us))) inner)
    (longer_clean us t (second_true (is_clean u) (is_clean (array (pack us))) inner) q))

pushed_clean : (d : Dynamic) (v : Option Dynamic) → is_clean (tree d) ≡ true →
    argument_plain v ≡ true → is_clean (tree (pushed d v)) ≡ true
pushed_clean (dynamic.Array ts) (Some v) p q = longer_clean ts (tree v) p q
pushed_clean d v p q = p

written_clean : (t : Turn) (h : Held) (values : List Tree) → is_clean (tree h.value) ≡ true →
    values_plain (map value_of values) ≡ true → is_clean (tree (written_at t h values)) ≡ true
written_clean turns.Full h values p q = p
written_clean (turns.Failing k) h values p q = p
written_clean (turns.Ready k) h values p q =
    pushed_clean h.value (sole (map value_of values)) p (sole_plain (map value_of values) q)

pub table_writes_clean : (s : TableHost) (key : ℕ) (h : Held) (values : List Tree) →
    call_is_clean table_law s (Some h) values ≡ true →
    is_clean (tree (table_law.call_written s key h values)) ≡ true
table_writes_clean s key h values clean =
    written_clean (turn false s) h values (receiver_clean table_law s h values clean)
    (values_given table_law s (Some h) values clean)

stop_clean : (b : Bool) (x : Dynamic) (o : Option Dynamic) → is_clean (tree x) ≡ true →
    verdict_is_clean (verdict o) ≡ true →
    verdict_is_clean (verdict (if b then Some x else o)) ≡ true
stop_clean true x o p q = p
stop_clean false x o p q = q

stops_among : (count : ℕ) (ls : List StopLine) → stops_clean ls ≡ true →
    verdict_is_clean (verdict (stop_at count ls)) ≡ true
stops_among count [] h = refl
stops_among count (l ∷ ls) h =
    stop_clean (l.count == count) l.value (stop_at count ls)
    (first_true (is_clean (tree l.value)) (stops_clean ls) h)
    (stops_among count ls (second_true (is_clean (tree l.value)) (stops_clean ls) h))

pub table_stops_clean : (s : TableHost) (count : ℕ) → table_law.holds_clean s ≡ true →
    verdict_is_clean (table_law.progress_reply s count) ≡ true
table_stops_clean s count clean = stops_among count s.stops clean
