-- A chain that reads along elements and keys gives what stands at the end of its path, and leaves its
-- root.
use Rattle.std.proofs.Common.{◌≡◌, ◌+◌, ◌-◌, ◌∙◌, ℕ, List, [], ◌∷◌, ◌++◌, Option, Some, None, Bool, true, false, Result, Ok, Err, refl, sym, ap, subst}
use Rattle.std.specs.Prelude.{if◌then◌else◌}
use Rattle.grain_value.specs.Cells.{flat}
use Rattle.grain_value.specs.Locating.{locate}
use Rattle.grain_value.specs.Looking.{is_unit}
use Rattle.grain_value.specs.Maps.{entry_at}
use Rattle.grain_value.specs.Paths.{at, child}
use Rattle.grain_value.specs.Tree.{Tree}
use Rattle.grain_value.specs.View.{tree, value_of}
use Rattle.grain_value.specs.laws.PathSteps.{at-step}
use Rattle.grain_value.specs.laws.Same.{tree-value_of}
use Rattle.grain_value.specs.declared.stores.Cell.{Cell}
use Rattle.grain_value.specs.declared.values.Dynamic.{Dynamic}
use Rattle.grain_value.specs.declared.values.Dynamic.TheVariants as dynamic
use Rattle.grain_value.specs.declared.values.Held.{Held}
use Rattle.grain_value.specs.declared.values.locating.Spot.{Spot}
use Rattle.grain_value.specs.declared.values.locating.Spot.TheVariants as spot
use Rattle.grain_value.specs.declared.values.paths.PathStep.{PathStep}
use Rattle.grain_value.specs.declared.values.paths.PathStep.TheVariants as path_step
use Rattle.grain_value.specs.declared.values.value_faults.ValueFault.{ValueFault}
use Rattle.grain_program.specs.View.{name_of}
use Rattle.grain_program.specs.declared.code.chains.Step.{Step}
use Rattle.grain_program.specs.declared.code.chains.Step.TheVariants as step
use Rattle.grain_means.specs.Worlds.{Place}
use Rattle.grain_means.specs.Places.{look}
use Rattle.grain_means.specs.Readings.{ReadsAlong, index_along, key_along, property_along, read_along, step_along}
use Rattle.grain_means.specs.Tasks.{Done, Own, Over, Play, Task, WalkEnded, play}
use Rattle.grain_means.specs.Walks as walks
use Rattle.grain_means.specs.Walks.{Course, Rest, Role, is_indexed, operand, role_before, skips}
use Rattle.grain_means.specs.lemmas.PlaceLaws.{at-further, ok-along}
use Rattle.grain_fault.specs.declared.places.Position.{Position}

-- what is indexed by an element or a key is indexed itself
indexed_along : (d v : Dynamic) (e : PathStep) → index_along v (locate d v) ≡ Some e →
    is_indexed d ≡ true
indexed_along (dynamic.Array ts) v e is = refl
indexed_along (dynamic.Blob s) v e is = refl
indexed_along (dynamic.Text s) v e is = refl
indexed_along (dynamic.Int i) v e is = refl
indexed_along (dynamic.Map es) v e is = refl
indexed_along d v e is = absurd cc

-- a value from which a step leads along a path is read as it is, since it is no cell
read_as_is : (cells : List Cell) (d : Dynamic) (o : Option Dynamic) (e : PathStep) →
    read_along d o ≡ Some e → flat cells d ≡ Some d
read_as_is cells (dynamic.Cell i) None e is = absurd cc
read_as_is cells (dynamic.Cell i) (Some v) e is = absurd cc
read_as_is cells d o e is = refl

named_as_is : (cells : List Cell) (name : List ℕ) (d : Dynamic) (e : PathStep) →
    property_along name d ≡ Some e → flat cells d ≡ Some d
named_as_is cells name (dynamic.Cell i) e is = absurd cc
named_as_is cells name d e is = refl

module _ (cells : List Cell) (c : Course) (h : Held) where
  as_is : (s : Step) (d : Dynamic) (e : PathStep) → step_along cells c s d ≡ Some e →
      flat cells d ≡ Some d
  as_is (step.Index i flags q bracket) d e leads =
      read_as_is cells d (flat cells (operand c i)) e leads
  as_is (step.Property name getter setter flags q) d e leads =
      named_as_is cells (name_of c.setting.program name) d e leads
  as_is (step.Method name argc i flags q) d e leads = absurd cc

  abbrev own : ℕ → Own
  own k = record { roots = h ∷ []; passed = k }

  abbrev here : List PathStep → Place
  here path = record { root = 0; path = path }

  -- what stands at a path
  abbrev At : List PathStep → Dynamic → Type 0
  At path d = look (h ∷ []) (here path) ≡ record h { value = d }

  at_path : (path : List PathStep) (d : Dynamic) → at path (tree h.value) ≡ Ok (tree d) → At path d
  at_path path d e = ap walks_or (ok-along path h d e) where
    walks_or : Option Held → Held
    walks_or None = record { value = dynamic.Unit; read_only = false }
    walks_or (Some g) = g

  abbrev Plays : Task → ℕ → Play
  Plays t k = play None cells t (own k)

  if_so : (b : Bool) (x y : Task) (k : ℕ) → b ≡ true →
      Plays (if b then x else y) k ≡ Plays x k
  if_so true x y k e = refl
  if_so false x y k e = absurd cc

  if_not : (b : Bool) (x y : Task) (k : ℕ) → b ≡ false →
      Plays (if b then x else y) k ≡ Plays y k
  if_not true x y k e = absurd cc
  if_not false x y k e = refl

  -- a step goes on further down
  module _ (n : ℕ) (role : Role) (next : walks.Next) (path : List PathStep) (d : Dynamic)
      (done : Rest) (k : ℕ) (stands : At path d) where
    abbrev held : Held
    held = record h { value = d }

    abbrev Down : Task → PathStep → Type 0
    Down t e = Plays t k ≡ Plays (next (here (path ++ e ∷ [])) done) (k + 1)

    indexes : (q bracket : Position) (i v : Dynamic) (e : PathStep) (r : Result Spot ValueFault) →
        index_along v r ≡ Some e →
        Down (walks.indexed c.setting n q bracket role i v held next (here path) done r) e
    indexes q bracket i v e (Ok (spot.Item j)) is =
        let same : path_step.Index j ≡ e = cc in
        subst (λ (x : PathStep). Plays (next (here (path ++ path_step.Index j ∷ [])) done) (k + 1)
        ≡ Plays (next (here (path ++ x ∷ [])) done) (k + 1)) same refl
    indexes q bracket i v e (Ok spot.Key) is =
        let same : path_step.Key (walks.key_of v) ≡ e = cc in
        subst (λ (x : PathStep).
        Plays (next (here (path ++ path_step.Key (walks.key_of v) ∷ [])) done) (k + 1)
        ≡ Plays (next (here (path ++ x ∷ [])) done) (k + 1)) same refl
    indexes q bracket i v e (Ok s) is = absurd cc
    indexes q bracket i v e (Err x) is = absurd cc

    by_index : (q bracket : Position) (i : Dynamic) (e : PathStep) → read_along d (flat cells i) ≡ Some e →
        Down (walks.index_step c.setting n i q bracket role next (here path) done) e
    by_index q bracket i e leads =
        ap (λ (g : Held). Plays (finds g) k) stands ∙ by_content (flat cells i) refl leads where
          finds : Held → Task
          finds g =
              if is_indexed g.value
              then walks.flattening n q i done (λ v.
              walks.indexed c.setting n q bracket role i v g next (here path) done (locate g.value v))
              else walks.by_indexer c.setting n q bracket role i next (here path) done

          reading : Option Dynamic → Task
          reading o = walks.flat_or_busy n q done (λ v.
              walks.indexed c.setting n q bracket role i v held next (here path) done (locate d v)) o

          by_content : (o : Option Dynamic) → flat cells i ≡ o → read_along d o ≡ Some e →
              Down (finds held) e
          by_content None is leads = absurd cc
          by_content (Some v) is leads =
              if_so (is_indexed d) _ _ k (indexed_along d v e leads)
              ∙ ap (λ (o : Option Dynamic). Plays (reading o) k) is
              ∙ indexes q bracket i v e (locate d v) leads

    by_property : (name getter setter : ℕ) (q : Position) (e : PathStep) →
        property_along (name_of c.setting.program name) d ≡ Some e →
        Down (walks.property_step c.setting n name getter setter q role next (here path) done) e
    by_property name getter setter q e leads =
        ap (λ (g : Held). Plays (finds g) k) stands ∙ by_kind d leads where
          finds : Held → Task
          finds g = walks.property_of c.setting n name getter setter q role g next (here path) done g.value

          by_kind : (x : Dynamic) → property_along (name_of c.setting.program name) x ≡ Some e →
              Down (walks.property_of c.setting n name getter setter q role held next (here path) done
              x) e
          by_kind (dynamic.Map es) is =
              by_entry (entry_at (name_of c.setting.program name) es) is where
                by_entry : (t : Option Tree) → key_along (name_of c.setting.program name) t ≡ Some e →
                    Down (walks.at_key c.setting n q role (name_of c.setting.program name) held next
                    (here path) done t) e
                by_entry None is = absurd cc
                by_entry (Some t) is =
                    let same : path_step.Key (name_of c.setting.program name) ≡ e = cc in
                    subst (λ (x : PathStep).
                    Plays (next (here (path ++ path_step.Key (name_of c.setting.program name) ∷ []))
                    done) (k + 1) ≡ Plays (next (here (path ++ x ∷ [])) done) (k + 1)) same refl
          by_kind x is = absurd cc

    goes : (s : Step) (e : PathStep) → step_along cells c s d ≡ Some e →
        Down (walks.taken c s n role next (here path) done) e
    goes (step.Index i flags q bracket) e leads = by_index q bracket (operand c i) e leads
    goes (step.Property name getter setter flags q) e leads =
        by_property name getter setter q e leads
    goes (step.Method name argc i flags q) e leads = absurd cc

  -- no unit stands where a step would end the chain, and no cell
  passes : (n : ℕ) (q : Position) (b : Bool) (path : List PathStep) (d : Dynamic) (done : Rest)
      (go : Task) (k : ℕ) → At path d → (b ≡ true → is_unit d ≡ false) → flat cells d ≡ Some d →
      Plays (walks.unless_unit n q b (here path) done go) k ≡ Plays go k
  passes n q false path d done go k stands none plain = refl
  passes n q true path d done go k stands none plain =
      ap (λ (g : Held). Plays (walks.flattening n q g.value done (walks.if_not_unit done go)) k)
      stands
      ∙ ap (λ (o : Option Dynamic). Plays (walks.flat_or_busy n q done (walks.if_not_unit done go)
      o) k) plain
      ∙ if_not (is_unit d) _ _ k (none refl)

  further : (path : List PathStep) (e : PathStep) (d : Dynamic) (t : Tree) →
      at path (tree h.value) ≡ Ok (tree d) → child e (tree d) ≡ Ok t →
      at (path ++ e ∷ []) (tree h.value) ≡ Ok (tree (value_of t))
  further path e d t stands leads =
      at-further path (e ∷ []) (tree h.value) (tree d) stands ∙ at-step e [] (tree d) t leads
      ∙ ap Ok (sym (tree-value_of t))

  longer : (path : List PathStep) (e : PathStep) (rest : List PathStep) →
      (path ++ e ∷ []) ++ rest ≡ path ++ e ∷ rest
  longer [] e rest = refl
  longer (x ∷ path) e rest = ap (λ l. x ∷ l) (longer path e rest)

  ends_there : (role : Role) → role ≡ walks.Reads → (n : ℕ) (path : List PathStep) (d : Dynamic)
      (done : Rest) (k : ℕ) → At path d →
      Plays (walks.ended c.setting role n (here path) done) k ≡ Plays (done (WalkEnded d false)) (k + 1)
  ends_there role is n path d done k stands =
      ap (λ (r : Role). Plays (walks.ended c.setting r n (here path) done) k) is
      ∙ ap (λ (g : Held). Plays (done (WalkEnded g.value false)) (k + 1)) stands

  reads_on : walks.last_role c ≡ walks.Reads → (steps : List Step) (n : ℕ) (path : List PathStep)
      (d : Dynamic) (rest : List PathStep) (u : Dynamic) (done : Rest) (k : ℕ) →
      at path (tree h.value) ≡ Ok (tree d) → ReadsAlong cells c steps d rest u →
      (j : ℕ) × (Plays (walks.walked c steps n (here path) done) k ≡ Plays (done (WalkEnded u false)) j)
      × (at (path ++ rest) (tree h.value) ≡ Ok (tree u))
  reads_on last [] n path d rest u done k stands along = (
    k + 1,
    ends_there (walks.last_role c) last (n - 1) path d done k (at_path path d stands)
        ∙ ap (λ (x : Dynamic). Plays (done (WalkEnded x false)) (k + 1)) (sym along.1),
    end_at rest along.0,
  ) where
    empty : (p : List PathStep) → p ++ [] ≡ p
    empty [] = refl
    empty (x ∷ p) = ap (λ l. x ∷ l) (empty p)

    end_at : (rest : List PathStep) → rest ≡ [] → at (path ++ rest) (tree h.value) ≡ Ok (tree u)
    end_at rest e =
        ap (λ (r : List PathStep). at (path ++ r) (tree h.value)) e
        ∙ ap (λ (p : List PathStep). at p (tree h.value)) (empty path) ∙ stands
        ∙ ap (λ (x : Dynamic). Ok (tree x)) (sym along.1)
  reads_on last (s ∷ steps) n path d rest u done k stands along =
      let e : PathStep = along.1.0 in
      let less : List PathStep = along.1.1 in
      let t : Tree = along.1.2 in
      let next : walks.Next = walks.walked c steps (n + 1) in
      let step_task : Task = walks.taken c s n (role_before c steps) next (here path) done in
      let there : At path d = at_path path d stands in
      let later = reads_on last steps (n + 1) (path ++ e ∷ []) (value_of t) less u done (k + 1 + 1)
      (further path e d t stands along.1.5) along.1.6 in (
        later.0,
        passes n (walks.step_position s) (skips s) path d done step_task (k + 1) there along.0
            (as_is s d e along.1.4)
            ∙ goes n (role_before c steps) next path d done (k + 1) there s e along.1.4 ∙ later.1,
        ap (λ (r : List PathStep). at (path ++ r) (tree h.value)) along.1.3
            ∙ ap (λ (p : List PathStep). at p (tree h.value)) (sym (longer path e less)) ∙ later.2,
      )

  last_reads : (v : Option Dynamic) → v ≡ None → walks.role_at_end v c.operator ≡ walks.Reads
  last_reads v is = ap (λ (o : Option Dynamic). walks.role_at_end o c.operator) is

  pub reads_along : c.assigns ≡ None → (steps : List Step) (path : List PathStep) (u : Dynamic) →
      ReadsAlong cells c steps h.value path u →
      (j : ℕ) × (play None cells (walks.whole_walk c steps) (own 0) ≡ Over (WalkEnded u false) (own j))
      × (at path (tree h.value) ≡ Ok (tree u))
  reads_along reads steps path u along =
      reads_on (last_reads c.assigns reads) steps 0 [] h.value path u Done 0 refl along
