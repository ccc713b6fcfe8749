-- Index steps and property steps, by what stands there.
use Rattle.std.proofs.Common.{◌≡◌, ℕ, List, [], ◌∷◌, ◌++◌, Bool, true, false, Option, Some, None, Result, Ok, is_some, refl, sym, subst}
use Rattle.std.specs.Prelude.{if◌then◌else◌}
use Rattle.grain_value.specs.Tree.{Tree}
use Rattle.grain_value.specs.View.{tree}
use Rattle.grain_value.specs.Cells.{flat}
use Rattle.grain_value.specs.Locating.{locate}
use Rattle.grain_value.specs.Maps.{Entries, entry_at}
use Rattle.grain_value.specs.Paths.{at, Leads}
use Rattle.grain_value.specs.declared.memory.OutOfMemory.{OutOfMemory}
use Rattle.grain_value.specs.declared.values.Dynamic.{Dynamic}
use Rattle.grain_value.specs.declared.values.Dynamic.TheVariants as dynamic
use Rattle.grain_value.specs.declared.values.locating.Spot.{Spot}
use Rattle.grain_value.specs.declared.values.paths.PathStep.{PathStep}
use Rattle.grain_value.specs.declared.values.paths.PathStep.TheVariants.{Key}
use Rattle.grain_value.specs.declared.values.value_faults.ValueFault.{ValueFault}
use Rattle.grain_fault.specs.declared.places.Position.{Position}
use Rattle.grain_program.specs.View.{name_of}
use Rattle.grain_means.specs.Places.{deeper}
use Rattle.grain_means.specs.Tasks.{Task}
use Rattle.grain_means.specs.Walks.{Role, OfNothing, at_mark, flattening, flat_or_busy, indexed, is_indexed, index_step, by_indexer, by_accessor, at_key, missing_key, property_of, property_step}
use Rattle.grain_chain.specs.Standings.{Standing, Stands, has_key}
use Rattle.grain_chain.specs.Walking.{place_of, operand_of, role_in}
use Rattle.grain_chain.specs.Going.{Goes, Takes, stopped, setting, rest, next_step, with_value}
use Rattle.grain_chain.specs.declared.contexts.Context.{Context}
use Rattle.grain_chain.specs.declared.origins.Role.{Role as CodeRole}
use Rattle.grain_chain.specs.declared.requests.WalkAnswer.{WalkAnswer}
use Rattle.grain_chain.specs.declared.walks.Walk.{Walk}
use Rattle.grain_chain.proofs.Paths.{one_value}
use Rattle.grain_chain.proofs.Keys.{leads_key}
use Rattle.grain_chain.proofs.Strides.{marked, marked_takes, then_takes, looks, flattens, stops_takes}

pub same_target : (s : Standing) (a b : Dynamic) → Stands s a → Stands s b → a ≡ b
same_target s a b h i = one_value (at s.path (tree s.here.value)) a b h i

module _ (x : Context) where
  -- where an index leads, in what stands there
  pub indexed_at : (w v : Walk) (q b : Position) (role : Role) (i idx t d : Dynamic)
      (res : Result Spot ValueFault) (r : Result (Option WalkAnswer) OutOfMemory) →
      Stands w.trail t → Stands w.trail d → locate t idx ≡ res →
      Takes x w (indexed (setting x w) w.step q b role i idx (with_value w t) (next_step x w)
      (place_of w) (rest x w) res) r v →
      Takes x w (indexed (setting x w) w.step q b role i idx (with_value w d) (next_step x w)
      (place_of w) (rest x w) (locate d idx)) r v
  indexed_at w v q b role i idx t d res r ht hd e h =
      subst (λ (u : Dynamic). Takes x w (indexed (setting x w) w.step q b role i idx (with_value w u)
      (next_step x w) (place_of w) (rest x w) (locate u idx)) r v) (same_target w.trail t d ht hd)
      (subst (λ (y : Result Spot ValueFault). Takes x w (indexed (setting x w) w.step q b role i idx
      (with_value w t) (next_step x w) (place_of w) (rest x w) y) r v) (sym e) h)

  abbrev pub index_of : Walk → CodeRole → ℕ → Position → Position → Task
  index_of w role operand q b =
      index_step (setting x w) w.step (operand_of w operand) q b (role_in role w.value) (next_step x w)
      (place_of w) (rest x w)

  abbrev pub host_index : Walk → CodeRole → Dynamic → Position → Position → Task
  host_index w role i q b =
      by_indexer (setting x w) w.step q b (role_in role w.value) i (next_step x w) (place_of w) (rest x w)

  abbrev pub own_index : Walk → CodeRole → ℕ → Position → Position → Dynamic → Dynamic → Task
  own_index w role operand q b t i =
      indexed (setting x w) w.step q b (role_in role w.value) (operand_of w operand) i (with_value w t)
      (next_step x w) (place_of w) (rest x w) (locate t i)

  abbrev flat_index : Walk → CodeRole → ℕ → Position → Position → Dynamic → Task
  flat_index w role operand q b t =
      flattening w.step q (operand_of w operand) (rest x w) (own_index w role operand q b t)

  pub index_by_host : (w w1 v : Walk) (role : CodeRole) (operand : ℕ) (q b : Position) (t i : Dynamic)
      (r : Result WalkAnswer OutOfMemory) (s : Result (Option WalkAnswer) OutOfMemory) →
      w1 ≡ marked w → Stands w.trail t → is_indexed t ≡ false → i ≡ operand_of w operand →
      s ≡ stopped r → Goes x w1 (host_index w1 role i q b) r v →
      Takes x w (at_mark w.step (rest x w) (index_of w role operand q b)) s v
  index_by_host w w1 v role operand q b t i r s e ht own same is g =
      let m = marked w in
      let goes : Goes x m (host_index m role (operand_of m operand) q b) r v =
      subst (λ (j : Dynamic). Goes x m (host_index m role j q b) r v) same
      (subst (λ (u : Walk). Goes x u (host_index u role i q b) r v) e g) in
      marked_takes x w v (index_of w role operand q b) s
      (then_takes x m v (index_of m role operand q b)
      (if is_indexed t then flat_index m role operand q b t
      else host_index m role (operand_of m operand) q b) s
      (looks x m t (λ h. if is_indexed h.value
      then flattening m.step q (operand_of m operand) (rest x m)
      (λ i. indexed (setting x m) m.step q b (role_in role m.value) (operand_of m operand) i h
      (next_step x m) (place_of m) (rest x m) (locate h.value i))
      else host_index m role (operand_of m operand) q b) ht)
      (subst (λ (c : Bool). Takes x m (if c then flat_index m role operand q b t
      else host_index m role (operand_of m operand) q b) s v) (sym own)
      (stops_takes x m v (host_index m role (operand_of m operand) q b) r s is goes)))

  pub index_by_value : (w v : Walk) (role : CodeRole) (operand : ℕ) (q b : Position) (t : Dynamic)
      (o : Option Dynamic) (s : Result (Option WalkAnswer) OutOfMemory) → Stands w.trail t →
      is_indexed t ≡ true → o ≡ flat x.cells.now (operand_of w operand) →
      Takes x (marked w) (flat_or_busy w.step q (rest x w) (own_index (marked w) role operand q b t) o) s v →
      Takes x w (at_mark w.step (rest x w) (index_of w role operand q b)) s v
  index_by_value w v role operand q b t o s ht own same g =
      let m = marked w in
      marked_takes x w v (index_of w role operand q b) s
      (then_takes x m v (index_of m role operand q b)
      (if is_indexed t then flat_index m role operand q b t
      else host_index m role (operand_of m operand) q b) s
      (looks x m t (λ h. if is_indexed h.value
      then flattening m.step q (operand_of m operand) (rest x m)
      (λ i. indexed (setting x m) m.step q b (role_in role m.value) (operand_of m operand) i h
      (next_step x m) (place_of m) (rest x m) (locate h.value i))
      else host_index m role (operand_of m operand) q b) ht)
      (subst (λ (c : Bool). Takes x m (if c then flat_index m role operand q b t
      else host_index m role (operand_of m operand) q b) s v) (sym own)
      (then_takes x m v (flat_index m role operand q b t)
      (flat_or_busy m.step q (rest x m) (own_index m role operand q b t)
      (flat x.cells.now (operand_of m operand)))
      s (flattens x m (operand_of m operand)
      (flat_or_busy m.step q (rest x m) (own_index m role operand q b t)))
      (subst (λ (c : Option Dynamic). Takes x m
      (flat_or_busy m.step q (rest x m) (own_index m role operand q b t) c) s v) same g))))

  abbrev pub property_at : Walk → CodeRole → ℕ → ℕ → ℕ → Position → Task
  property_at w role name getter setter q =
      property_step (setting x w) w.step name getter setter q (role_in role w.value) (next_step x w)
      (place_of w) (rest x w)

  abbrev pub host_property : Walk → CodeRole → ℕ → ℕ → ℕ → Position → Task
  host_property w role name getter setter q =
      by_accessor (setting x w) w.step name getter setter q (role_in role w.value) (next_step x w)
      (place_of w) (rest x w)

  abbrev pub of_value : Walk → CodeRole → ℕ → ℕ → ℕ → Position → Dynamic → Task
  of_value w role name getter setter q t =
      property_of (setting x w) w.step name getter setter q (role_in role w.value) (with_value w t)
      (next_step x w) (place_of w) (rest x w) t

  no_map : (w : Walk) (role : CodeRole) (name getter setter : ℕ) (q : Position) (k : List ℕ)
      (t : Dynamic) → has_key t k ≡ None →
      host_property w role name getter setter q ≡ of_value w role name getter setter q t
  no_map w role name getter setter q k (dynamic.Map es) e = cc
  no_map w role name getter setter q k dynamic.Unit e = refl
  no_map w role name getter setter q k (dynamic.Bool b) e = refl
  no_map w role name getter setter q k (dynamic.Int z) e = refl
  no_map w role name getter setter q k (dynamic.Char c) e = refl
  no_map w role name getter setter q k (dynamic.Text s) e = refl
  no_map w role name getter setter q k (dynamic.Array ts) e = refl
  no_map w role name getter setter q k (dynamic.Blob s) e = refl
  no_map w role name getter setter q k (dynamic.Pointer p) e = refl
  no_map w role name getter setter q k (dynamic.Range a z i) e = refl
  no_map w role name getter setter q k (dynamic.Foreign a z) e = refl
  no_map w role name getter setter q k (dynamic.Cell a) e = refl

  -- a property of what stands there
  pub property_takes : (w v : Walk) (role : CodeRole) (name getter setter : ℕ) (q : Position)
      (t : Dynamic) (s : Result (Option WalkAnswer) OutOfMemory) → Stands w.trail t →
      Takes x (marked w) (of_value (marked w) role name getter setter q t) s v →
      Takes x w (at_mark w.step (rest x w) (property_at w role name getter setter q)) s v
  property_takes w v role name getter setter q t s ht g =
      let m = marked w in
      marked_takes x w v (property_at w role name getter setter q) s
      (then_takes x m v (property_at m role name getter setter q)
      (of_value m role name getter setter q t) s
      (looks x m t (λ h. property_of (setting x m) m.step name getter setter q (role_in role m.value) h
      (next_step x m) (place_of m) (rest x m) h.value) ht) g)

  pub property_by_host : (w w1 v : Walk) (role : CodeRole) (name getter setter : ℕ) (q : Position)
      (k : List ℕ) (t : Dynamic) (r : Result WalkAnswer OutOfMemory)
      (s : Result (Option WalkAnswer) OutOfMemory) → w1 ≡ marked w → Stands w.trail t →
      has_key t k ≡ None → s ≡ stopped r → Goes x w1 (host_property w1 role name getter setter q) r v →
      Takes x w (at_mark w.step (rest x w) (property_at w role name getter setter q)) s v
  property_by_host w w1 v role name getter setter q k t r s e ht none is g =
      let m = marked w in
      property_takes w v role name getter setter q t s ht
      (stops_takes x m v (of_value m role name getter setter q t) r s is
      (subst (λ (u : Task). Goes x m u r v) (no_map m role name getter setter q k t none)
      (subst (λ (u : Walk). Goes x u (host_property u role name getter setter q) r v) e g)))

  abbrev there_task : Walk → List ℕ → Task
  there_task w k = at_mark w.step (rest x w) (next_step x w (deeper (place_of w) (Key k)) (rest x w))

  key_is : (w v : Walk) (q : Position) (role : Role) (k : List ℕ) (t : Dynamic) (o : Option Tree)
      (s : Result (Option WalkAnswer) OutOfMemory) → is_some o ≡ true → Takes x w (there_task w k) s v →
      Takes x w (at_key (setting x w) w.step q role k (with_value w t) (next_step x w) (place_of w)
      (rest x w) o) s v
  key_is w v q role k t (Some u) s e h = h
  key_is w v q role k t None s e h = cc

  key_is_not : (w v : Walk) (q : Position) (role : Role) (k : List ℕ) (t : Dynamic) (o : Option Tree)
      (s : Result (Option WalkAnswer) OutOfMemory) → is_some o ≡ false →
      Takes x w (missing_key (setting x w) w.step q OfNothing role k (with_value w t) (next_step x w)
      (place_of w) (rest x w)) s v →
      Takes x w (at_key (setting x w) w.step q role k (with_value w t) (next_step x w) (place_of w)
      (rest x w) o) s v
  key_is_not w v q role k t (Some u) s e h = cc
  key_is_not w v q role k t None s e h = h

  -- a key that is there, and one that is not
  pub at_there : (w v : Walk) (role : CodeRole) (name getter setter : ℕ) (q : Position) (t : Dynamic)
      (s : Result (Option WalkAnswer) OutOfMemory) →
      has_key t (name_of x.program.now name) ≡ Some true →
      Takes x w (there_task w (name_of x.program.now name)) s v →
      Takes x w (of_value w role name getter setter q t) s v
  at_there w v role name getter setter q (dynamic.Map es) s e h =
      let k = name_of x.program.now name in
      let has : is_some (entry_at k es) ≡ true = cc in
      key_is w v q (role_in role w.value) k (dynamic.Map es) (entry_at k es) s has h
  at_there w v role name getter setter q dynamic.Unit s e h = cc
  at_there w v role name getter setter q (dynamic.Bool b) s e h = cc
  at_there w v role name getter setter q (dynamic.Int z) s e h = cc
  at_there w v role name getter setter q (dynamic.Char c) s e h = cc
  at_there w v role name getter setter q (dynamic.Text u) s e h = cc
  at_there w v role name getter setter q (dynamic.Array ts) s e h = cc
  at_there w v role name getter setter q (dynamic.Blob u) s e h = cc
  at_there w v role name getter setter q (dynamic.Pointer p) s e h = cc
  at_there w v role name getter setter q (dynamic.Range a z i) s e h = cc
  at_there w v role name getter setter q (dynamic.Foreign a z) s e h = cc
  at_there w v role name getter setter q (dynamic.Cell a) s e h = cc

  pub at_missing : (w v : Walk) (role : CodeRole) (name getter setter : ℕ) (q : Position) (t : Dynamic)
      (s : Result (Option WalkAnswer) OutOfMemory) →
      has_key t (name_of x.program.now name) ≡ Some false →
      Takes x w (missing_key (setting x w) w.step q OfNothing (role_in role w.value)
      (name_of x.program.now name) (with_value w t) (next_step x w) (place_of w) (rest x w)) s v →
      Takes x w (of_value w role name getter setter q t) s v
  at_missing w v role name getter setter q (dynamic.Map es) s e h =
      let k = name_of x.program.now name in
      let has : is_some (entry_at k es) ≡ false = cc in
      key_is_not w v q (role_in role w.value) k (dynamic.Map es) (entry_at k es) s has h
  at_missing w v role name getter setter q dynamic.Unit s e h = cc
  at_missing w v role name getter setter q (dynamic.Bool b) s e h = cc
  at_missing w v role name getter setter q (dynamic.Int z) s e h = cc
  at_missing w v role name getter setter q (dynamic.Char c) s e h = cc
  at_missing w v role name getter setter q (dynamic.Text u) s e h = cc
  at_missing w v role name getter setter q (dynamic.Array ts) s e h = cc
  at_missing w v role name getter setter q (dynamic.Blob u) s e h = cc
  at_missing w v role name getter setter q (dynamic.Pointer p) s e h = cc
  at_missing w v role name getter setter q (dynamic.Range a z i) s e h = cc
  at_missing w v role name getter setter q (dynamic.Foreign a z) s e h = cc
  at_missing w v role name getter setter q (dynamic.Cell a) s e h = cc

entry_there : (o : Option Tree) → is_some o ≡ true → (t : Tree) × (o ≡ Some t)
entry_there (Some t) e = (t, refl)
entry_there None e = cc

-- a step to a key that is there
pub leads_there : (path : List PathStep) (d t : Dynamic) (k : List ℕ) → at path (tree d) ≡ Ok (tree t) →
    has_key t k ≡ Some true → Leads (path ++ Key k ∷ []) (tree d)
leads_there path d (dynamic.Map es) k h e =
    let has : is_some (entry_at k es) ≡ true = cc in
    let got = entry_there (entry_at k es) has in
    leads_key path k d es got.0 h got.1
leads_there path d dynamic.Unit k h e = cc
leads_there path d (dynamic.Bool b) k h e = cc
leads_there path d (dynamic.Int z) k h e = cc
leads_there path d (dynamic.Char c) k h e = cc
leads_there path d (dynamic.Text s) k h e = cc
leads_there path d (dynamic.Array ts) k h e = cc
leads_there path d (dynamic.Blob s) k h e = cc
leads_there path d (dynamic.Pointer p) k h e = cc
leads_there path d (dynamic.Range a z i) k h e = cc
leads_there path d (dynamic.Foreign a z) k h e = cc
leads_there path d (dynamic.Cell a) k h e = cc

pub is_map : (t : Dynamic) (k : List ℕ) (b : Bool) → has_key t k ≡ Some b →
    (es : Entries) × (t ≡ dynamic.Map es)
is_map (dynamic.Map es) k b e = (es, refl)
is_map dynamic.Unit k b e = cc
is_map (dynamic.Bool c) k b e = cc
is_map (dynamic.Int z) k b e = cc
is_map (dynamic.Char c) k b e = cc
is_map (dynamic.Text s) k b e = cc
is_map (dynamic.Array ts) k b e = cc
is_map (dynamic.Blob s) k b e = cc
is_map (dynamic.Pointer p) k b e = cc
is_map (dynamic.Range a z i) k b e = cc
is_map (dynamic.Foreign a z) k b e = cc
is_map (dynamic.Cell a) k b e = cc
