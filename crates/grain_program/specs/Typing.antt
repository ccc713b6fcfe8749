-- Typings: at each address that is reached, the one shape with which it is reached. The search for
-- one takes the chunks in their order, and goes from the entry on, always at the lowest waiting
-- address.
use Rattle.std.specs.Prelude.{ℕ, zero, suc, ◌≡◌, ◌<◌, ◌≤◌, ◌+◌, List, [], ◌∷◌, false, length, replicate, slice_get, slice_set, Option, Some, None, Result, Ok, Err, ◌⊎◌}
use Rattle.std.specs.List.{AllByRecursion}
use Rattle.std.specs.Ordering.{nat_cmp}
use Rattle.std.specs.BTreeSet.{insert_key}
use Rattle.grain_program.specs.declared.code.instruction_set.Op.{Op}
use Rattle.grain_program.specs.declared.code.parts.Chunk.{Chunk}
use Rattle.grain_program.specs.declared.code.effects.Effect.{Effect}
use Rattle.grain_program.specs.declared.verifier.refusals.Refusal.{Refusal}
use Rattle.grain_program.specs.declared.verifier.refusals.Refusal.TheVariants as refusal
use Rattle.grain_program.specs.View.{View}
use Rattle.grain_program.specs.Decoding.{op_at}
use Rattle.grain_program.specs.Effects.{cursors_taken, effect_of, leads_of}
use Rattle.grain_program.specs.Layout.{chunks_in, layout_fault, most_code}
use Rattle.grain_program.specs.Starts.{Start}
use Rattle.grain_program.specs.Rules.{Splits, IsSplit, RefusedBeforeChains, RefusedForChain}
use Rattle.grain_program.specs.Chains.{AreGoodChains}
use Rattle.grain_program.specs.Shapes.{Shape, bare, height_after, after, Arrival, arrivals, lacks_handler, goes_under, shape_after, clash, shape_at}

-- the value is in the list
abbrev pub In : {A : Type 0} → A → List A → Type 0
In a [] = ⊥
In a (x ∷ xs) = (a ≡ x) ⊎ In a xs

-- An instruction of this effect and width has enough operands and cursors in this shape and leaves no
-- more operands than max. It takes away no handler where there is none, and no operand and no cursor
-- that was there at the push of the innermost handler. Wherever it leads in the program, the typing
-- has the shape with which it comes there.
pub record Agrees (p : View) (typing : ℕ → Option Shape) (max a width : ℕ) (e : Effect)
    (s : Shape) : Type 0 where
  pub enough : e.takes ≤ s.height
  pub cursor : cursors_taken e.looping ≤ s.cursors
  pub handler : lacks_handler e.handling s.handlers ≡ false
  pub above : goes_under e s ≡ false
  pub room : height_after e s ≤ max
  pub arrives : (x : Arrival) → In x (arrivals p e (a + width) (after e s))
      → typing x.address ≡ Some x.shape

-- each chunk is entered without operands and cursors, and each instruction that is reached agrees with the
-- typing
pub record Typing (p : View) (chunks : List Chunk) (typing : ℕ → Option Shape) : Type 0 where
  pub entries : (i : ℕ) (c : Chunk) → slice_get chunks i ≡ Some c → typing c.entry ≡ Some bare
  pub steps : (i : ℕ) (c : Chunk) (a : ℕ) (r : Op × ℕ) (s : Shape) → slice_get chunks i ≡ Some c
      → Start p.code c a → op_at p.code a ≡ Some r → typing a ≡ Some s
      → Agrees p typing c.max_stack a r.1 (effect_of p r.0) s

-- there is a typing
abbrev pub HasTyping : View → List Chunk → Type 0
HasTyping p chunks = (typing : ℕ → Option Shape) × Typing p chunks typing

-- no rule is broken
pub record Valid (p : View) (chunks : List Chunk) : Type 0 where
  pub layout : layout_fault (length p.code) chunks ≡ None
  pub splits : Splits p chunks
  pub chains : AreGoodChains p
  pub typing : ℕ → Option Shape
  pub typed : Typing p chunks typing

-- the program's chunks break no rule
abbrev pub IsProgram : View → Type 0
IsProgram p = Valid p (chunks_in p)

-- ---- the search for a typing

-- the shapes that are known, by address, and the addresses that wait, in ascending order
pub record AnalysisState : Type 0 where
  pub shapes : List (Option Shape)
  pub waiting : List ℕ

-- a result, and then what is done with it
infixl 10 ◌>>=◌
abbrev pub ◌>>=◌ : {A B : Type 0} → Result A Refusal → (A → Result B Refusal) → Result B Refusal
(Ok x) >>= f = f x
(Err e) >>= f = Err e

-- the refusal if there is one, and else the result
abbrev pub unless : {A : Type 0} → Option Refusal → Result A Refusal → Result A Refusal
unless None next = next
unless (Some r) next = Err r

-- the address has the shape, and waits
abbrev pub noted : ℕ → Shape → AnalysisState → AnalysisState
noted b s f =
    record { shapes = slice_set f.shapes b (Some s); waiting = insert_key nat_cmp f.waiting b }

-- the shape comes to an address of which this is known
abbrev pub meets : ℕ → Shape → AnalysisState → Option Shape → Result AnalysisState Refusal
meets b s f None = Ok (noted b s f)
meets b s f (Some t) = unless (clash b t s) (Ok f)

-- the shape comes to the address
abbrev pub arrive : Shape → AnalysisState → ℕ → Result AnalysisState Refusal
arrive s f b = meets b s f (shape_at f.shapes b)

-- the shapes come to their addresses
abbrev pub arrive_all : List Arrival → AnalysisState → Result AnalysisState Refusal
arrive_all [] f = Ok f
arrive_all (x ∷ xs) f = arrive x.shape f x.address >>= λ g. arrive_all xs g

-- the instruction at the address is taken, from the shape that is known there; without either,
-- which the analysis never comes to, nothing is done
abbrev pub take_op : View → ℕ → ℕ → AnalysisState → Option (Op × ℕ) → Option Shape
    → Result AnalysisState Refusal
take_op p max a f None s = Ok f
take_op p max a f (Some r) None = Ok f
take_op p max a f (Some r) (Some s) =
    shape_after max a (effect_of p r.0) s
    >>= λ t. arrive_all (arrivals p (effect_of p r.0) (a + r.1) t) f

abbrev pub take_at : View → ℕ → ℕ → AnalysisState → Result AnalysisState Refusal
take_at p max a f = take_op p max a f (op_at p.code a) (shape_at f.shapes a)

-- the lowest waiting address is taken
abbrev pub take_lowest : View → ℕ → AnalysisState → List ℕ → Result AnalysisState Refusal
take_lowest p max f [] = Ok f
take_lowest p max f (a ∷ rest) = take_at p max a (record { shapes = f.shapes; waiting = rest })

-- n addresses are taken, the lowest waiting one each time, or fewer where no more wait
unfoldable pub take_all : View → ℕ → ℕ → AnalysisState → Result AnalysisState Refusal
take_all p max zero f = Ok f
take_all p max (suc n) f = take_lowest p max f f.waiting >>= λ g. take_all p max n g

abbrev pub nothing_seen : ℕ → AnalysisState
nothing_seen len = record { shapes = replicate len None; waiting = [] }

-- the same, but the address waits too, as the lowest one
abbrev pub with_lowest : ℕ → AnalysisState → AnalysisState
with_lowest a f = record { shapes = f.shapes; waiting = a ∷ f.waiting }

-- a bare frame comes to the chunk's entry, and then addresses are taken until none waits: no more
-- than the code has, since each waits once at most
unfoldable pub analyse_chunk : View → Chunk → AnalysisState → Result AnalysisState Refusal
analyse_chunk p c f = arrive bare f c.entry >>= λ g. take_all p c.max_stack (length p.code) g

-- the chunks one after the other
abbrev pub analyse_from : View → List Chunk → AnalysisState → Result AnalysisState Refusal
analyse_from p [] f = Ok f
analyse_from p (c ∷ cs) f = analyse_chunk p c f >>= λ g. analyse_from p cs g

-- the whole search, which begins with nothing
abbrev pub analysis : View → List Chunk → Result AnalysisState Refusal
analysis p chunks = analyse_from p chunks (nothing_seen (length p.code))

-- the search stops with this refusal
abbrev pub StopsWith : View → List Chunk → Refusal → Type 0
StopsWith p chunks r = analysis p chunks ≡ Err r

-- what is refused, phase by phase: by the layout and the rules of single instructions; or else, where
-- none of these is broken, for a chain; or else where the search for a typing stops
abbrev pub Refused : View → List Chunk → Refusal → Type 0
Refused p chunks r =
    RefusedBeforeChains p chunks r
    ⊎ ((IsSplit p chunks × RefusedForChain p r)
    ⊎ (IsSplit p chunks × AreGoodChains p × StopsWith p chunks r))

-- the first rule that the program's chunks break
abbrev pub IsRefusal : View → Refusal → Type 0
IsRefusal p r = Refused p (chunks_in p) r

-- ---- what the code returns, against what the search gives

-- the code has this before it and returned this, where the search gives that
abbrev pub Gives : {A : Type 0} → AnalysisState → Result A Refusal → Result AnalysisState Refusal
    → Type 0
Gives f (Ok x) found = found ≡ Ok f
Gives f (Err e) found = (e ≡ refusal.Memory) ⊎ (found ≡ Err e)

-- what the code needs where it takes an address: an instruction and a known shape are there, and
-- the table has a place there and wherever the instruction leads
pub record Ready (p : View) (shapes : List (Option Shape)) (a : ℕ) : Type 0 where
  pub small : length p.code ≤ most_code
  pub room : length shapes ≡ length p.code
  pub within : a < length p.code
  pub read : op_at p.code a ≡ None → ⊥
  pub known : shape_at shapes a ≡ None → ⊥
  pub targets : (r : Op × ℕ) → op_at p.code a ≡ Some r
      → AllByRecursion (λ b. b < length p.code) (leads_of p r.0 (a + r.1))

-- what the code needs where it walks a chunk: none waits yet, the table has a place for each
-- address, and the chunk's instructions are read and lead to instructions of the chunk
pub record IsAnalysable (p : View) (c : Chunk) (f : AnalysisState) : Type 0 where
  pub small : length p.code ≤ most_code
  pub room : length f.shapes ≡ length p.code
  pub none : f.waiting ≡ []
  pub full : c.entry < c.end
  pub inside : c.end ≤ length p.code
  pub closed : (a : ℕ) → Start p.code c a
      → (r : Op × ℕ) × (op_at p.code a ≡ Some r)
      × ((b : ℕ) → In b (leads_of p r.0 (a + r.1)) → Start p.code c b)
