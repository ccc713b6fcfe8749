-- What the tests of the rules of single instructions mean.
use Rattle.std.proofs.Common.{◌≡◌, ℕ, ◌+◌, ◌<◌, ◌≤◌, ◌⊎◌, ◌==◌, Bool, true, false, cond, List, [], ◌∷◌, length, Option, Some, None, refl, sym, ap, subst, ◌∙◌, inl, inr, arith}
use Rattle.std.specs.Prelude.{slice_get, nat_lt}
use Rattle.std.specs.List.{AllByRecursion}
use Rattle.std.proofs.lemmas.Bool.{cases_lt, eqb-true, eqb-false}
use Rattle.std.proofs.lemmas.Option.{slice_get_within}
use Rattle.grain_program.specs.declared.code.instruction_set.Op.{Op}
use Rattle.grain_program.specs.declared.code.parts.Chunk.{Chunk}
use Rattle.grain_program.specs.declared.code.functions.Function.{Function}
use Rattle.grain_program.specs.declared.verifier.owners.Owner.{Owner}
use Rattle.grain_program.specs.declared.verifier.refusals.Refusal.{Refusal}
use Rattle.grain_program.specs.declared.verifier.refusals.Refusal.TheVariants as refusal
use Rattle.grain_program.specs.declared.code.fields.Field.{Field}
use Rattle.grain_program.specs.declared.code.fields.Field.TheVariants as field
use Rattle.grain_program.specs.View.{View}
use Rattle.grain_program.specs.Fields.{every}
use Rattle.grain_program.specs.InstructionSet.{fields_of}
use Rattle.grain_program.specs.Decoding.{op_at}
use Rattle.grain_program.specs.Effects.{flow_of}
use Rattle.grain_program.specs.Indices.{in_pools, IsNamed}
use Rattle.grain_program.specs.Capabilities.{permits}
use Rattle.grain_program.specs.Layout.{Tiled}
use Rattle.grain_program.specs.Starts.{Start}
use Rattle.grain_program.specs.Switches.{targets_if}
use Rattle.grain_program.specs.laws.Starts.{start_within}
use Rattle.grain_program.specs.Rules.{Lands, Whole, IndexRule, TargetRule, EndRule, CapabilityRule, Obeys, Splits, InstructionStart, Unread, Disobeys, address_of, rule_of, Precedes}
use Rattle.grain_program.specs.Owners.{owner_at, Owned, owns_all, lands, stays_in, rule_in, rule_at, IsFirstFound}
use Rattle.grain_program.proofs.Decisions.{Decides, decides, lt_decides, both_decide, every_decides, pools_decide, stays_decide, permits_decide}
use Rattle.grain_program.proofs.Breaches.{ByOp, FirstOf}
use Rattle.grain_program.proofs.Tiles.{NoneEmpty}

module _ (p : View) (chunks : List Chunk) (t : Tiled (length p.code) chunks) where
  one_chunk : (i j : ℕ) (c d : Chunk) → slice_get chunks i ≡ Some c → slice_get chunks j ≡ Some d
      → (i < j → ⊥) → (j < i → ⊥) → c ≡ d
  one_chunk i j c d g h f k =
      elim (cases_lt i j) [
        | inl lt ↦ absurd (f lt)
        | inr ge ↦ elim (cases_lt j i) [
          | inl lt ↦ absurd
              (k lt)
          | inr le ↦ same (omega arith)
        ]
      ] where
        same : i ≡ j → c ≡ d
        same e = let both : Some c ≡ Some d = sym g ∙ ap (slice_get chunks) e ∙ h in cc

  -- an address is a start of one chunk only
  pub same_chunk : (i j : ℕ) (c d : Chunk) (a : ℕ) → slice_get chunks i ≡ Some c
      → slice_get chunks j ≡ Some d → Start p.code c a → Start p.code d a → c ≡ d
  same_chunk i j c d a g h s u =
      let x = start_within p.code c a s in
      let y = start_within p.code d a u in
      one_chunk i j c d g h (λ lt. let z = t.apart i j c d lt g h in omega (arith, x.1, y.0))
      (λ lt. let z = t.apart j i d c lt h g in omega (arith, x.0, y.1))

  -- chunks that end at one address, and are not empty, are one
  same_end : (i j : ℕ) (c d : Chunk) → slice_get chunks i ≡ Some c → slice_get chunks j ≡ Some d
      → c.entry < c.end → d.entry < d.end → c.end ≡ d.end → c ≡ d
  same_end i j c d g h m n e = one_chunk i j c d g h (λ lt. let z = t.apart i j c d lt g h in omega
      arith) (λ lt. let z = t.apart j i d c lt h g in omega arith)

  -- ---- what follows from an instruction that is there

  module _ (i : ℕ) (c : Chunk) (a : ℕ) (g : slice_get chunks i ≡ Some c) (s : Start p.code c a)
      (r : Op × ℕ) (w : Whole p.code c a r) where
    not_unread : Unread p.code chunks a → ⊥
    not_unread u = u.1 r (subst (λ (x : Chunk). Whole p.code x a r) (same_chunk i u.0.number c
        u.0.chunk a g u.0.is s u.0.start) w)

    not_disobeys : (rule : Chunk → ℕ → Op × ℕ → Type 0) → rule c a r →
        Disobeys p.code chunks rule a
        → ⊥
    not_disobeys rule ok d =
        let one = same_chunk i d.0.number c d.0.chunk a g d.0.is s d.0.start in
        let both : Some r ≡ Some d.1.0 = sym w.is ∙ d.1.1.is in
        let same : r ≡ d.1.0 = cc in
        d.1.2 (subst (λ (x : Op × ℕ). rule d.0.chunk a x) same (subst (λ (x : Chunk). rule x a r)
        one ok))

  -- where each instruction obeys, none breaks a rule
  abbrev pub ObeysAt : ℕ → Type 0
  ObeysAt a = (i : ℕ) (c : Chunk) → slice_get chunks i ≡ Some c → Start p.code c a → Obeys p c a

  unread_not : (a : ℕ) → ObeysAt a → Unread p.code chunks a → ⊥
  unread_not a o u = let x = o u.0.number u.0.chunk u.0.is u.0.start in not_unread u.0.number
      u.0.chunk a u.0.is u.0.start x.read x.whole u

  index_not : (a : ℕ) → ObeysAt a → Disobeys p.code chunks (IndexRule p) a → ⊥
  index_not a o u = let x = o u.0.number u.0.chunk u.0.is u.0.start in not_disobeys u.0.number
      u.0.chunk a u.0.is u.0.start x.read x.whole (IndexRule p) x.index u

  target_not : (a : ℕ) → ObeysAt a → Disobeys p.code chunks (TargetRule p) a → ⊥
  target_not a o u = let x = o u.0.number u.0.chunk u.0.is u.0.start in not_disobeys u.0.number
      u.0.chunk a u.0.is u.0.start x.read x.whole (TargetRule p) x.target u

  end_not : (a : ℕ) → ObeysAt a → Disobeys p.code chunks (EndRule p) a → ⊥
  end_not a o u = let x = o u.0.number u.0.chunk u.0.is u.0.start in not_disobeys u.0.number
      u.0.chunk a u.0.is u.0.start x.read x.whole (EndRule p) x.end u

  capability_not : (a : ℕ) → ObeysAt a → Disobeys p.code chunks (CapabilityRule p) a → ⊥
  capability_not a o u = let x = o u.0.number u.0.chunk u.0.is u.0.start in not_disobeys u.0.number
      u.0.chunk a u.0.is u.0.start x.read x.whole (CapabilityRule p) x.capability u

  pub none_by_op : (a : ℕ) → ObeysAt a → (q : Refusal) → ByOp p chunks q → address_of q ≡ a →
      ⊥
  none_by_op a o (refusal.Undecodable b) h e = unread_not a o (subst (Unread p.code chunks) e h)
  none_by_op a o (refusal.PoolIndex b) h e =
      index_not a o (subst (Disobeys p.code chunks (IndexRule p)) e h)
  none_by_op a o (refusal.JumpTarget b) h e =
      target_not a o (subst (Disobeys p.code chunks (TargetRule p)) e h)
  none_by_op a o (refusal.FallsOff b) h e =
      end_not a o (subst (Disobeys p.code chunks (EndRule p)) e h)
  none_by_op a o (refusal.Capability b) h e =
      capability_not a o (subst (Disobeys p.code chunks (CapabilityRule p)) e h)
  none_by_op a o _ h e = h

  -- a breach at the address is of no lower rule, where the lower ones are not broken there
  rank : (a k : ℕ) → k ≤ 12 → (1 < k → Unread p.code chunks a → ⊥)
      → (2 < k → Disobeys p.code chunks (IndexRule p) a → ⊥)
      → (3 < k → Disobeys p.code chunks (TargetRule p) a → ⊥)
      → (4 < k → Disobeys p.code chunks (EndRule p) a → ⊥) → (q : Refusal) → ByOp p chunks q
      → address_of q ≡ a → k ≤ rule_of q
  rank a k le one two three four (refusal.Undecodable b) h e =
      elim (cases_lt 1 k) [
        | inl lt ↦ absurd (one lt (subst (Unread p.code chunks) e h))
        | inr ge ↦ ge
      ]
  rank a k le one two three four (refusal.PoolIndex b) h e =
      elim (cases_lt 2 k) [
        | inl lt ↦ absurd (two lt (subst (Disobeys p.code chunks (IndexRule p)) e
            h))
        | inr ge ↦ ge
      ]
  rank a k le one two three four (refusal.JumpTarget b) h e =
      elim (cases_lt 3 k) [
        | inl lt ↦ absurd (three lt (subst (Disobeys p.code chunks (TargetRule p))
            e h))
        | inr ge ↦ ge
      ]
  rank a k le one two three four (refusal.FallsOff b) h e =
      elim (cases_lt 4 k) [
        | inl lt ↦ absurd (four lt (subst (Disobeys p.code chunks (EndRule p)) e
            h))
        | inr ge ↦ ge
      ]
  rank a k le one two three four (refusal.Capability b) h e = le
  rank a k le one two three four _ h e = absurd h

  -- the refusal is a breach at the address, and of the lowest rule there
  pub record Least (a : ℕ) (r : Refusal) : Type 0 where
    pub there : address_of r ≡ a
    pub breach : ByOp p chunks r
    pub least : (q : Refusal) → ByOp p chunks q → address_of q ≡ a → rule_of r ≤ rule_of q

  -- what the test says of an address
  abbrev pub MeansAt : ℕ → Option Refusal → Type 0
  MeansAt a None = ObeysAt a
  MeansAt a (Some r) = Least a r

  module _ (owners : List Owner) (o : Owned p.code chunks (length chunks) owners) where
    within : (i : ℕ) (c : Chunk) → slice_get chunks i ≡ Some c → i < length chunks
    within i c g = slice_get_within chunks i c g

    owns_decide : (i : ℕ) (c : Chunk) → slice_get chunks i ≡ Some c → c.entry < c.end → (x : ℕ)
        → Decides ((owner_at owners x).end == c.end) (Start p.code c x)
    owns_decide i c g full x =
        decides (Start p.code c x) ((owner_at owners x).end == c.end)
        (λ e. yes (eqb-true (owner_at owners x).end c.end e)) no where
          yes : (owner_at owners x).end ≡ c.end → Start p.code c x
          yes e = elim (o.only x) [
            | inl none ↦ let z : (owner_at owners x).end ≡ 0 =
                ap (λ (w : Owner). w.end) none in absurd (omega arith)
            | inr d ↦
                let w = start_within p.code d.1.0 x d.1.2 in
                let ends : c.end ≡ d.1.0.end = sym e ∙ ap (λ (w : Owner). w.end) d.1.3 in
                let same = same_end i d.0 c d.1.0 g d.1.1 full (omega (arith, w.0, w.1)) ends in
                subst (λ (y : Chunk). Start p.code y x) (sym same) d.1.2
          ]

          no : ((owner_at owners x).end == c.end) ≡ false → Start p.code c x → ⊥
          no e s =
              eqb-false (owner_at owners x).end c.end e (ap (λ (w : Owner). w.end) (o.owned i c x
              (within i c g) g s))

    all_owned : (i : ℕ) (c : Chunk) → slice_get chunks i ≡ Some c → c.entry < c.end
        → (xs : List ℕ) → Decides (owns_all owners c.end xs) (AllByRecursion (Start p.code c) xs)
    all_owned i c g full [] = tt
    all_owned i c g full (x ∷ xs) =
        both_decide (Start p.code c x) (AllByRecursion (Start p.code c) xs)
        ((owner_at owners x).end == c.end) (owns_all owners c.end xs) (owns_decide i c g full x)
        (all_owned i c g full xs)

    field_lands : (i : ℕ) (c : Chunk) → slice_get chunks i ≡ Some c → c.entry < c.end → (f : Field)
        → Decides (lands p owners c.end f) (Lands p c f)
    field_lands i c g full (field.Target x) = owns_decide i c g full x
    field_lands i c g full (field.Switch k) =
        all_owned i c g full (targets_if (slice_get p.switches k))
    field_lands i c g full _ = tt

    lands_decide : (i : ℕ) (c : Chunk) → slice_get chunks i ≡ Some c → c.entry < c.end → (o : Op)
        → Decides (every (lands p owners c.end) (fields_of o)) (AllByRecursion (Lands p c)
        (fields_of o))
    lands_decide i c g full o =
        every_decides (Lands p c) (lands p owners c.end) (field_lands i c g full) (fields_of o)

    module _ (i : ℕ) (c : Chunk) (a : ℕ) (g : slice_get chunks i ≡ Some c) (s : Start p.code c a)
      where
        abbrev start_here : InstructionStart p.code chunks a
        start_here = record { number = i; chunk = c; is = g; start = s }

        abbrev Says : Option Refusal → Type 0
        Says None = Obeys p c a
        Says (Some r) = Least a r

        full : c.entry < c.end
        full = let w = start_within p.code c a s in omega (arith, w.0, w.1)

        -- what is tested once the first rules are obeyed
        abbrev after_end : Op × ℕ → Option Refusal
        after_end r = cond (permits p.caps r.0) None (Some (refusal.Capability a))

        abbrev after_target : Op × ℕ → Option Refusal
        after_target r = cond (stays_in c.end (a + r.1) (flow_of r.0)) (after_end r)
            (Some (refusal.FallsOff a))

        abbrev after_index : Op × ℕ → Option Refusal
        after_index r = cond (every (lands p owners c.end) (fields_of r.0)) (after_target r)
            (Some (refusal.JumpTarget a))

        abbrev after_whole : Op × ℕ → Option Refusal
        after_whole r = cond (in_pools p r.0) (after_index r) (Some (refusal.PoolIndex a))

        module _ (r : Op × ℕ) (w : Whole p.code c a r) where
          fifth : IndexRule p c a r → TargetRule p c a r → EndRule p c a r → (b : Bool)
              → Decides b (CapabilityRule p c a r)
              → Says (cond b None (Some (refusal.Capability a)))
          fifth ix tg en true h =
              record { read = r; whole = w; index = ix; target = tg; end = en; capability = h }
          fifth ix tg en false h = record {
            there = refl;
            breach = (start_here, (r, w, h));
            least =
                rank a 12 (omega arith) (λ _. not_unread i c a g s r w) (λ _. not_disobeys i c a g s
                r
                w (IndexRule p) ix) (λ _. not_disobeys i c a g s r w (TargetRule p) tg)
                (λ _. not_disobeys i c a g s r w (EndRule p) en);
          }

          fourth : IndexRule p c a r → TargetRule p c a r → (b : Bool) → Decides b (EndRule p c a r)
              → Says (cond b (after_end r) (Some (refusal.FallsOff a)))
          fourth ix tg true h = fifth ix tg h (permits p.caps r.0) (permits_decide p.caps r.0)
          fourth ix tg false h = record {
            there = refl;
            breach = (start_here, (r, w, h));
            least =
                rank a 4 (omega arith) (λ _. not_unread i c a g s r w) (λ _. not_disobeys i c a g s
                r
                w (IndexRule p) ix) (λ _. not_disobeys i c a g s r w (TargetRule p) tg)
                (λ lt. absurd (omega arith));
          }

          third : IndexRule p c a r → (b : Bool) → Decides b (TargetRule p c a r)
              → Says (cond b (after_target r) (Some (refusal.JumpTarget a)))
          third ix true h = fourth ix h (stays_in c.end (a + r.1) (flow_of r.0))
              (stays_decide c (a + r.1) (flow_of r.0))
          third ix false h = record {
            there = refl;
            breach = (start_here, (r, w, h));
            least =
                rank a 3 (omega arith) (λ _. not_unread i c a g s r w) (λ _. not_disobeys i c a g
                s r w (IndexRule p) ix) (λ lt. absurd (omega arith)) (λ lt. absurd (omega arith));
          }

          second : (b : Bool) → Decides b (IndexRule p c a r)
              → Says (cond b (after_index r) (Some (refusal.PoolIndex a)))
          second true h =
              third h (every (lands p owners c.end) (fields_of r.0)) (lands_decide i c g full r.0)
          second false h = record {
            there = refl;
            breach = (start_here, (r, w, h));
            least = rank a 2 (omega arith) (λ _. not_unread i c a g s r w)
                (λ lt. absurd (omega arith)) (λ lt. absurd (omega arith))
                (λ lt. absurd (omega arith));
          }

        unread_least : Unread p.code chunks a → Least a (refusal.Undecodable a)
        unread_least u = record {
          there = refl;
          breach = u;
          least =
              rank a 1 (omega arith) (λ lt. absurd (omega arith)) (λ lt. absurd (omega arith))
              (λ lt. absurd (omega arith)) (λ lt. absurd (omega arith));
        }

        first : (r : Op × ℕ) → op_at p.code a ≡ Some r → (b : Bool) → Decides b (c.end < a + r.1)
            → Says (cond b (Some (refusal.Undecodable a)) (after_whole r))
        first r e true h = unread_least (start_here, no) where
          no : (q : Op × ℕ) → Whole p.code c a q → ⊥
          no q w =
              let both : Some q ≡ Some r = sym w.is ∙ e in
              let same : q ≡ r = cc in
              let le = subst (λ (x : Op × ℕ). a + x.1 ≤ c.end) same w.inside in
              omega arith
        first r e false h =
            second r (record { is = e; inside = at (cases_lt c.end (a + r.1)) }) (in_pools p r.0)
            (pools_decide p r.0) where
              at : (c.end < a + r.1) ⊎ (a + r.1 ≤ c.end) → a + r.1 ≤ c.end
              at (inl lt) = absurd (h lt)
              at (inr le) = le

        pub rule_says : (x : Option (Op × ℕ)) → op_at p.code a ≡ x
            → Says (rule_in p owners c.end a x)
        rule_says None e = unread_least (
          record {
            number = i;
            chunk = c;
            is = g;
            start =
                s;
          },
          λ r w. let bad : None ≡ Some r = sym e ∙ w.is in cc,
        )
        rule_says (Some r) e = first r e (nat_lt c.end (a + r.1)) (lt_decides c.end (a + r.1))

        -- what is said of the one instruction there is said of the address
        pub said : (x : Option Refusal) → Says x → MeansAt a x
        said None h = λ j d k u. subst (λ (y : Chunk). Obeys p y a) (same_chunk i j c d a g k s u) h
        said (Some r) h = h

    pub address_means : (a : ℕ) → MeansAt a (rule_at p owners a)
    address_means a = at ((owner_at owners a).end == 0) refl where
      ends : (i : ℕ) (c : Chunk) → slice_get chunks i ≡ Some c → Start p.code c a
          → (owner_at owners a).end ≡ c.end
      ends i c g s = ap (λ (w : Owner). w.end) (o.owned i c a (within i c g) g s)

      at : (b : Bool) → ((owner_at owners a).end == 0) ≡ b
          → MeansAt a (cond b None (rule_in p owners (owner_at owners a).end a (op_at p.code a)))
      at true h = λ i c g s.
          let z = eqb-true (owner_at owners a).end 0 h in
          let w = start_within p.code c a s in
          let e = ends i c g s in
          absurd (omega (arith, w.1))
      at false h = elim (o.only a) [
        | inl none ↦ absurd (eqb-false (owner_at owners a).end 0 h (ap (λ (w : Owner). w.end) none))
        | inr d ↦
            let e : (owner_at owners a).end ≡ d.1.0.end = ap (λ (w : Owner). w.end) d.1.3 in
            subst (λ x. MeansAt a (rule_in p owners x a (op_at p.code a))) (sym e)
            (said d.0 d.1.0 a d.1.1 d.1.2 (rule_in p owners d.1.0.end a (op_at p.code a))
            (rule_says d.0 d.1.0 a d.1.1 d.1.2 (op_at p.code a) refl))
      ]

    obeys_where : (a : ℕ) → rule_at p owners a ≡ None → ObeysAt a
    obeys_where a e = subst (MeansAt a) e (address_means a)

    -- ---- what the search over the addresses finds

    pub first_op : (q : Option Refusal) → IsFirstFound (rule_at p owners) (length p.code) q
        → FirstOf (ByOp p chunks) q
    first_op None none = λ s h. at s h (start_of s h) where
      start_of : (s : Refusal) → ByOp p chunks s → InstructionStart p.code chunks (address_of s)
      start_of (refusal.Undecodable b) h = h.0
      start_of (refusal.PoolIndex b) h = h.0
      start_of (refusal.JumpTarget b) h = h.0
      start_of (refusal.FallsOff b) h = h.0
      start_of (refusal.Capability b) h = h.0
      start_of _ h = absurd h

      at : (s : Refusal) → ByOp p chunks s → InstructionStart p.code chunks (address_of s) → ⊥
      at s h u =
          let w = start_within p.code u.chunk (address_of s) u.start in
          let n = t.inside u.number u.chunk u.is in
          none_by_op (address_of s) (obeys_where (address_of s) (none (address_of s)
          (omega (arith, w.1, n.1)))) s h refl
    first_op (Some r) f =
        (m.breach, λ s h. one s h (cases_lt (address_of s) f.0) (cases_lt f.0 (address_of s))) where
          m : Least f.0 r
          m = subst (MeansAt f.0) f.1.1 (address_means f.0)

          one : (s : Refusal) → ByOp p chunks s → (address_of s < f.0) ⊎ (f.0 ≤ address_of s)
              → (f.0 < address_of s) ⊎ (address_of s ≤ f.0) → Precedes r s
          one s h (inl lt) z = absurd (none_by_op (address_of s) (obeys_where (address_of s)
              (f.1.2 (address_of s) lt)) s h refl)
          one s h (inr ge) (inl lt) = inl (omega (arith, m.there))
          one s h (inr ge) (inr le) = inr (omega (arith, m.there), m.least s h (omega arith))

    pub none_found : NoneEmpty chunks → ((b : ℕ) → b < length p.code → rule_at p owners b ≡ None)
        → ((i : ℕ) (f : Function) → slice_get p.functions i ≡ Some f → IsNamed p f)
        → Splits p chunks
    none_found full none named = record {
      full = λ i c g. let n = t.inside i c g in at c n.0 (full i c g) (cases_lt c.entry c.end);
      obeys = λ i c a g s. let w = start_within p.code c a s in let n =
          t.inside i c g in obeys_where a (none a (omega (arith, w.1, n.1))) i c g s;
      named = named;
    } where
      at : (c : Chunk) → c.entry ≤ c.end → (c.entry ≡ c.end → ⊥) → (c.entry < c.end)
          ⊎ (c.end ≤ c.entry) → c.entry < c.end
      at c le ne (inl lt) = lt
      at c le ne (inr ge) = absurd (ne (omega arith))
