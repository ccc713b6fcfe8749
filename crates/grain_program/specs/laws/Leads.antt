-- Where instructions lead, and with which shapes they come there.
use Rattle.std.specs.Prelude.{ℕ, ◌≡◌, ◌<◌, ◌≤◌, ◌⊎◌, nat_lt, Bool, true, false, cond, List, [], ◌∷◌, map, slice_get, Option, Some, None, refl}
use Rattle.std.proofs.Common.{sym, ap, subst, inl, inr, arith}
use Rattle.std.specs.List.{AllByRecursion}
use Rattle.grain_program.specs.declared.code.instruction_set.Op.{Op}
use Rattle.grain_program.specs.declared.code.parts.Chunk.{Chunk}
use Rattle.grain_program.specs.View.{View}
use Rattle.grain_program.specs.declared.code.effects.Flow.{Flow}
use Rattle.grain_program.specs.declared.code.effects.Flow.TheVariants as flow
use Rattle.grain_program.specs.declared.code.effects.Looping.{Looping}
use Rattle.grain_program.specs.declared.code.effects.Looping.TheVariants as looping
use Rattle.grain_program.specs.declared.code.fields.Field.{Field}
use Rattle.grain_program.specs.declared.code.fields.Field.TheVariants as field
use Rattle.grain_program.specs.Fields.{targets_of, switch_in}
use Rattle.grain_program.specs.InstructionSet.{Transfer, falls_through, jumps, branches, switches, ends, row, fields_of}
use Rattle.grain_program.specs.Effects.{flow_to, advances, flow_of, switch_leads, leads, leads_of}
use Rattle.grain_program.specs.Switches.{targets_if}
use Rattle.grain_program.specs.laws.SwitchTargets.{unordered}
use Rattle.grain_program.specs.Starts.{Start}
use Rattle.grain_program.specs.Rules.{Lands, StaysIn}
use Rattle.grain_program.specs.Shapes.{Shape, shape, targeted, Arrival, arrival, reached}
use Rattle.grain_program.specs.Typing.{In}

-- a flow's targets are instructions of the chunk
abbrev FlowLands : View → Chunk → Flow → Type 0
FlowLands p c flow.Next = Unit {0}
FlowLands p c (flow.Jump t) = Start p.code c t
FlowLands p c (flow.Branch t) = Start p.code c t
FlowLands p c (flow.Switch k) =
    AllByRecursion (Start p.code c) (targets_if (slice_get p.switches k))
FlowLands p c flow.End = Unit {0}

-- the targets of the switch, if there is one, are instructions of the chunk
abbrev SwitchLands : View → Chunk → Option ℕ → Type 0
SwitchLands p c None = Unit {0}
SwitchLands p c (Some k) = AllByRecursion (Start p.code c) (targets_if (slice_get p.switches k))

targets_land : (p : View) (c : Chunk) (fs : List Field) → AllByRecursion (Lands p c) fs
    → AllByRecursion (Start p.code c) (targets_of fs)
targets_land p c [] h = tt
targets_land p c (field.Target n ∷ fs) h = (h.0, targets_land p c fs h.1)
targets_land p c (_ ∷ fs) h = targets_land p c fs h.1

switch_targets_land : (p : View) (c : Chunk) (fs : List Field) → AllByRecursion (Lands p c) fs
    → SwitchLands p c (switch_in fs)
switch_targets_land p c [] h = tt
switch_targets_land p c (field.Switch n ∷ fs) h = h.0
switch_targets_land p c (_ ∷ fs) h = switch_targets_land p c fs h.1

flow_lands : (p : View) (c : Chunk) (w : Transfer) (ts : List ℕ) (k : Option ℕ)
    → AllByRecursion (Start p.code c) ts → SwitchLands p c k → FlowLands p c (flow_to w ts k)
flow_lands p c falls_through ts k h g = tt
flow_lands p c jumps [] k h g = tt
flow_lands p c jumps (t ∷ ts) k h g = h.0
flow_lands p c branches [] k h g = tt
flow_lands p c branches (t ∷ ts) k h g = h.0
flow_lands p c switches ts None h g = tt
flow_lands p c switches ts (Some k) h g = g
flow_lands p c ends ts k h g = tt

-- what is so of each number is so of one of them
all_among : (P : ℕ → Type 0) (xs : List ℕ) (b : ℕ) → AllByRecursion P xs → In b xs → P b
all_among P [] b h i = absurd i
all_among P (x ∷ xs) b h (inl e) = subst P (sym e) h.0
all_among P (x ∷ xs) b h (inr i) = all_among P xs b h.1 i

flow_leads : (p : View) (c : Chunk) (next : ℕ) (w : Flow) → FlowLands p c w
    → StaysIn c next w → (next < c.end → Start p.code c next) → (b : ℕ) → In b (leads p w next)
    → Start p.code c b
flow_leads p c next flow.Next lands stays go b (inl e) =
    subst (Start p.code c) (sym e) (go stays)
flow_leads p c next flow.Next lands stays go b (inr i) = absurd i
flow_leads p c next (flow.Jump t) lands stays go b (inl e) =
    subst (Start p.code c) (sym e) lands
flow_leads p c next (flow.Jump t) lands stays go b (inr i) = absurd i
flow_leads p c next (flow.Branch t) lands stays go b i = at (nat_lt t next) i where
  two : (x y : ℕ) → Start p.code c x → Start p.code c y → In b (x ∷ y ∷ []) → Start p.code c b
  two x y s t (inl e) = subst (Start p.code c) (sym e) s
  two x y s t (inr (inl e)) = subst (Start p.code c) (sym e) t
  two x y s t (inr (inr i)) = absurd i

  at : (q : Bool) → In b (cond q (t ∷ next ∷ []) (next ∷ t ∷ [])) → Start p.code c b
  at true i = two t next lands (go stays) i
  at false i = two next t (go stays) lands i
flow_leads p c next (flow.Switch k) lands stays go b i =
    let targets : List ℕ = targets_if (slice_get p.switches k) in
    all_among (Start p.code c) targets b lands (unordered targets b i)
flow_leads p c next flow.End lands stays go b i = absurd i

-- where an instruction leads, an instruction of its chunk begins
pub leads_to_start : (p : View) (c : Chunk) (next : ℕ) (o : Op)
    → AllByRecursion (Lands p c) (fields_of o) → StaysIn c next (flow_of o) → (next < c.end
    → Start p.code c next) → (b : ℕ)
    → In b (leads_of p o next) → Start p.code c b
leads_to_start p c next o lands stays go b i =
    flow_leads p c next (flow_of o) (flow_lands p c (row o).transfer (targets_of (fields_of o))
    (switch_in (fields_of o)) (targets_land p c (fields_of o) lands)
    (switch_targets_land p c (fields_of o) lands)) stays go b i

-- ---- what is reached

-- the address is among the first ones, and the shape is one of the two
abbrev Comes : List ℕ → Shape → Shape → Arrival → Type 0
Comes bs s t x = In x.address bs × ((x.shape ≡ s) ⊎ (x.shape ≡ t))

-- an arrival with the first or the second shape
with_first : (bs : List ℕ) (b : ℕ) (s t : Shape) (x : Arrival) → In b bs → x ≡ arrival b s
    → Comes bs s t x
with_first bs b s t x i e = (
  subst (λ (a : ℕ). In a bs) (sym (ap (λ (y : Arrival). y.address) e)) i,
  inl (ap (λ (y : Arrival). y.shape) e),
)

with_second : (bs : List ℕ) (b : ℕ) (s t : Shape) (x : Arrival) → In b bs → x ≡ arrival b t
    → Comes bs s t x
with_second bs b s t x i e = (
  subst (λ (a : ℕ). In a bs) (sym (ap (λ (y : Arrival). y.address) e)) i,
  inr (ap (λ (y : Arrival). y.shape) e),
)

at_each : (bs : List ℕ) (t : Shape) (x : Arrival) → In x (map (λ a. arrival a t) bs)
    → In x.address bs × (x.shape ≡ t)
at_each [] t x i = absurd i
at_each (b ∷ bs) t x (inl e) =
    (inl (ap (λ (y : Arrival). y.address) e), ap (λ (y : Arrival). y.shape) e)
at_each (b ∷ bs) t x (inr i) = let r = at_each bs t x i in (inr r.0, r.1)

-- what a flow reaches is an address to which it leads, with one of the two shapes
pub reached_in : (p : View) (w : Flow) (next : ℕ) (s t : Shape) (x : Arrival)
    → In x (reached p w next s t) → Comes (leads p w next) s t x
reached_in p flow.Next next s t x (inl e) = with_first (next ∷ []) next s t x (inl refl) e
reached_in p flow.Next next s t x (inr i) = absurd i
reached_in p (flow.Jump a) next s t x (inl e) = with_second (a ∷ []) a s t x (inl refl) e
reached_in p (flow.Jump a) next s t x (inr i) = absurd i
reached_in p (flow.Branch a) next s t x i = at (nat_lt a next) i where
  at : (q : Bool) → In x (cond q (arrival a t ∷ arrival next s ∷ []) (arrival next s ∷ arrival a t
      ∷ [])) → Comes (cond q (a ∷ next ∷ []) (next ∷ a ∷ [])) s t x
  at true (inl e) = with_second (a ∷ next ∷ []) a s t x (inl refl) e
  at true (inr (inl e)) = with_first (a ∷ next ∷ []) next s t x (inr (inl refl)) e
  at true (inr (inr i)) = absurd i
  at false (inl e) = with_first (next ∷ a ∷ []) next s t x (inl refl) e
  at false (inr (inl e)) = with_second (next ∷ a ∷ []) a s t x (inr (inl refl)) e
  at false (inr (inr i)) = absurd i
reached_in p (flow.Switch k) next s t x i =
    let r = at_each (switch_leads p k) t x i in (r.0, inr r.1)
reached_in p flow.End next s t x i = absurd i

each_at : (bs : List ℕ) (t : Shape) (b : ℕ) → In b bs
    → In (arrival b t) (map (λ a. arrival a t) bs)
each_at [] t b i = absurd i
each_at (a ∷ bs) t b (inl e) = inl (ap (λ (n : ℕ). arrival n t) e)
each_at (a ∷ bs) t b (inr i) = inr (each_at bs t b i)

-- an address to which a flow leads is reached, if both shapes are one
pub reaches_with : (p : View) (w : Flow) (next : ℕ) (s : Shape) (b : ℕ) → In b (leads p w next)
    → In (arrival b s) (reached p w next s s)
reaches_with p flow.Next next s b (inl e) = inl (ap (λ (a : ℕ). arrival a s) e)
reaches_with p flow.Next next s b (inr i) = absurd i
reaches_with p (flow.Jump t) next s b (inl e) = inl (ap (λ (a : ℕ). arrival a s) e)
reaches_with p (flow.Jump t) next s b (inr i) = absurd i
reaches_with p (flow.Branch t) next s b i = at (nat_lt t next) i where
  two : (x y : ℕ) → In b (x ∷ y ∷ []) → In (arrival b s) (arrival x s ∷ arrival y s ∷ [])
  two x y (inl e) = inl (ap (λ (a : ℕ). arrival a s) e)
  two x y (inr (inl e)) = inr (inl (ap (λ (a : ℕ). arrival a s) e))
  two x y (inr (inr i)) = absurd i

  at : (q : Bool) → In b (cond q (t ∷ next ∷ []) (next ∷ t ∷ []))
      → In (arrival b s) (cond q (arrival t s ∷ arrival next s ∷ []) (arrival next s ∷ arrival t s
      ∷ []))
  at true i = two t next i
  at false i = two next t i
reaches_with p (flow.Switch k) next s b i = each_at (switch_leads p k) s b i
reaches_with p flow.End next s b i = absurd i

-- both ways of a branch are reached
pub in_branch : (p : View) (a next : ℕ) (s t : Shape)
    → In (arrival a t) (reached p (flow.Branch a) next s t)
in_branch p a next s t = at (nat_lt a next) where
  at : (b : Bool) → In (arrival a t) (cond b (arrival a t ∷ arrival next s ∷ [])
      (arrival next s ∷ arrival a t ∷ []))
  at true = inl refl
  at false = inr (inl refl)

pub past_branch : (p : View) (a next : ℕ) (s t : Shape)
    → In (arrival next s) (reached p (flow.Branch a) next s t)
past_branch p a next s t = at (nat_lt a next) where
  at : (b : Bool) → In (arrival next s) (cond b (arrival a t ∷ arrival next s ∷ [])
      (arrival next s ∷ arrival a t ∷ []))
  at true = inr (inl refl)
  at false = inl refl

-- where no cursor goes on, an instruction comes to its target as it goes on
pub same_at_target : (w : Looping) (gives : ℕ) (s : Shape) → advances w ≡ false
    → targeted w gives s ≡ s
same_at_target looping.Keep gives s e = refl
same_at_target looping.Begin gives s e = refl
same_at_target looping.Leave gives s e = refl
same_at_target looping.Advance gives s e = absurd cc

-- there are no more operands at a target
pub no_more_at_target : (w : Looping) (gives : ℕ) (s : Shape) → (targeted w gives s).height ≤ s.height
no_more_at_target looping.Keep gives s = omega arith
no_more_at_target looping.Begin gives s = omega arith
no_more_at_target looping.Leave gives s = omega arith
no_more_at_target looping.Advance gives s = omega arith
