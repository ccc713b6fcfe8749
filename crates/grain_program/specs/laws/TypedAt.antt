-- A frame that is typed at an instruction stays typed, and what is verified holds of each
-- instruction.
use Rattle.std.specs.Prelude.{ℕ, suc, ◌≡◌, ◌≤◌, ◌+◌, ◌-◌, ◌⊎◌, ◌||◌, nat_lt, Bool, true, false, cond, List, [], ◌∷◌, length, slice_get, Option, Some, None, refl}
use Rattle.std.proofs.Common.{sym, subst, ◌∙◌, inl, inr, arith}
use Rattle.std.proofs.lemmas.Bool.{ltb-false}
use Rattle.std.specs.List.{AllByRecursion}
use Rattle.grain_program.specs.declared.code.instruction_set.Op.{Op}
use Rattle.grain_program.specs.declared.code.parts.Chunk.{Chunk}
use Rattle.grain_program.specs.declared.code.functions.Function.{Function}
use Rattle.grain_program.specs.View.{View}
use Rattle.grain_program.specs.Decoding.{op_at}
use Rattle.grain_program.specs.laws.Widths.{op_at_within}
use Rattle.grain_program.specs.declared.code.effects.Handling.{Handling}
use Rattle.grain_program.specs.declared.code.effects.Handling.TheVariants as handling
use Rattle.grain_program.specs.declared.code.instruction_set.Op.TheVariants as op
use Rattle.grain_program.specs.InstructionSet.{fields_of}
use Rattle.grain_program.specs.Effects.{effect_of, takes_of, gives_of, cursors_taken, cursors_given, advances, flow_of, leads_of, looping_of, handling_of}
use Rattle.grain_program.specs.laws.Leads.{leads_to_start, reached_in, reaches_with, in_branch, past_branch, same_at_target, no_more_at_target}
use Rattle.grain_program.specs.Indices.{InPools}
use Rattle.grain_program.specs.Layout.{chunks_in, gap_from, layout_fault}
use Rattle.grain_program.specs.laws.Layout.{function_chunk}
use Rattle.grain_program.specs.Starts.{Start}
use Rattle.grain_program.specs.laws.Starts.{start_first, start_next}
use Rattle.grain_program.specs.Rules.{Lands, StaysIn}
use Rattle.grain_program.specs.Shapes.{Shape, TryHandler, shape, height_after, cursors_after, after, at_target, arrival, reached, handled, is_under}
use Rattle.grain_program.specs.Typing.{Agrees}
use Rattle.grain_program.specs.TypedAt.{HasName, Covers}
pub use Rattle.grain_program.specs.Typing.{In, IsProgram}
pub use Rattle.grain_program.specs.TypedAt.{IsCovered, IsTypedAt, Verified}

-- the code is no longer than the layout allows
short : (len : ℕ) (chunks : List Chunk) → layout_fault len chunks ≡ None → len ≤ 16777216
unfolding layout_fault
short len chunks e = at (nat_lt 16777216 len) refl e where
  at : (q : Bool) → nat_lt 16777216 len ≡ q → cond q (Some 16777216) (gap_from len 0 chunks) ≡ None
      → len ≤ 16777216
  at true h e = absurd cc
  at false h e = ltb-false 16777216 len h

-- ---- handlers

neither : (a b : Bool) → (a || b) ≡ false → (a ≡ false) × (b ≡ false)
neither true b e = absurd cc
neither false b e = (refl, e)

module _ (p : View) (c : Chunk) (typing : ℕ → Option Shape) where
  -- handlers stand above any larger numbers of operands and of cursors
  covers_more : (low high few many : ℕ) (hs : List TryHandler) → low ≤ high → few ≤ many
      → Covers p c typing low few hs → Covers p c typing high many hs
  covers_more low high few many [] le more k = tt
  covers_more low high few many (h ∷ hs) le more k =
      (omega (arith, le, k.0), omega (arith, more, k.1), k.2, k.3, k.4, k.5)

  -- handlers stand above the operands and the cursors that are left, where those of the innermost one
  -- are left
  covers_less : (low high few many : ℕ) (hs : List TryHandler) → is_under low few hs ≡ false
      → Covers p c typing high many hs → Covers p c typing low few hs
  covers_less low high few many [] e k = tt
  covers_less low high few many (h ∷ hs) e k =
      let both = neither (nat_lt low h.height) (nat_lt few h.cursors) e in
      (ltb-false low h.height both.0, ltb-false few h.cursors both.1, k.2, k.3, k.4, k.5)

  -- a handler that is pushed above these numbers of operands and of cursors has what a handler needs
  abbrev Catches : Handling → ℕ → ℕ → List TryHandler → Type 0
  Catches handling.Keep height cursors hs = Unit {0}
  Catches (handling.Push target variable) height cursors hs =
      HasName p variable × Start p.code c target
      × (typing target ≡ Some (shape height cursors
      (handled (handling.Push target variable) height cursors hs)))
  Catches handling.Pop height cursors hs = Unit {0}

  -- the handlers after an instruction that leaves low operands and few cursors of those that were
  -- there, and then gives others
  handled_covers : (w : Handling) (low height few cursors : ℕ) (hs : List TryHandler)
      → low ≤ height → few ≤ cursors → Covers p c typing low few hs
      → Catches w height cursors hs
      → Covers p c typing height cursors (handled w height cursors hs)
  handled_covers handling.Keep low height few cursors hs le more k push =
      covers_more low height few cursors hs le more k
  handled_covers (handling.Push target variable) low height few cursors hs le more k push = (
    omega arith,
    omega arith,
    push.0,
    push.1,
    push.2,
    covers_more low height few cursors hs le more k,
  )
  handled_covers handling.Pop low height few cursors [] le more k push = tt
  handled_covers handling.Pop low height few cursors (h ∷ hs) le more k push =
      covers_more h.height height h.cursors cursors hs (omega (arith, le, k.0))
      (omega (arith, more, k.1)) k.5

  -- a push leads to its handler's target, and its variable has a name
  pushes : (o : Op) (max at width : ℕ) (s : Shape) → AllByRecursion (Lands p c) (fields_of o)
      → InPools p o → Agrees p typing max at width (effect_of p o) s
      → Catches (handling_of o) (height_after (effect_of p o) s) (cursors_after (effect_of p o) s)
      s.handlers
  pushes (op.PushHandler t) max at width s lands pools agrees =
      let t1 : Shape = after (effect_of p (op.PushHandler t)) s in
      (tt, lands.0, agrees.arrives (arrival t t1) (in_branch p t (at + width) t1 t1))
  pushes (op.PushHandlerVar t n) max at width s lands pools agrees =
      let t1 : Shape = after (effect_of p (op.PushHandlerVar t n)) s in
      (pools.1.0, lands.0, agrees.arrives (arrival t t1) (in_branch p t (at + width) t1 t1))
  pushes _ max at width s lands pools agrees = tt

  -- handlers that an instruction leaves above the operands and the cursors that are left, before it
  -- gives others, it leaves at its target too
  targets_cover : (o : Op) (s : Shape)
      → Covers p c typing (s.height - takes_of p o) (s.cursors - cursors_taken (looping_of o))
      s.handlers
      → Covers p c typing (height_after (effect_of p o) s) (cursors_after (effect_of p o) s)
      (after (effect_of p o) s).handlers
      → Covers p c typing (at_target (effect_of p o) (after (effect_of p o) s)).height
      (at_target (effect_of p o) (after (effect_of p o) s)).cursors
      (at_target (effect_of p o) (after (effect_of p o) s)).handlers
  targets_cover (op.IterNext t) s keeps k =
      covers_more (s.height - 0) (s.height - 0 + 1 - 1) (s.cursors - 1) (s.cursors - 1 + 1 - 1)
      s.handlers (omega arith) (omega arith) keeps
  targets_cover (op.IterNextIndexed t n) s keeps k =
      covers_more (s.height - 0) (s.height - 0 + 1 - 1) (s.cursors - 1) (s.cursors - 1 + 1 - 1)
      s.handlers (omega arith) (omega arith) keeps
  targets_cover _ s keeps k = k

-- an instruction is there
pub stands : (p : View) → IsProgram p → (c : Chunk) (at depth cursors : ℕ) (hs : List TryHandler)
    → IsTypedAt p c at depth cursors hs → (x : Op × ℕ) × (op_at p.code at ≡ Some x)
stands p v c at depth cursors hs f =
    let o = v.splits.obeys f.number c at f.is f.start in (o.read, o.whole.is)

-- a frame that is typed with one of two shapes, each of which has what it needs
one_of_two : (p : View) (c : Chunk) (at : ℕ) (typing : ℕ → Option Shape) (x s t : Shape)
    → (x ≡ s) ⊎ (x ≡ t) → s.height ≤ c.max_stack → t.height ≤ c.max_stack
    → Covers p c typing s.height s.cursors s.handlers
    → Covers p c typing t.height t.cursors t.handlers
    → (x.height ≤ c.max_stack) × Covers p c typing x.height x.cursors x.handlers
one_of_two p c at typing x s t (inl e) low lower k j =
    subst (λ (y : Shape). (y.height ≤ c.max_stack) × Covers p c typing y.height y.cursors
    y.handlers) (sym e) (low, k)
one_of_two p c at typing x s t (inr e) low lower k j =
    subst (λ (y : Shape). (y.height ≤ c.max_stack) × Covers p c typing y.height y.cursors
    y.handlers) (sym e) (lower, j)

-- what validity says of the instruction
pub verified : (p : View) → IsProgram p → (c : Chunk) (at depth cursors : ℕ)
    (hs : List TryHandler) → IsTypedAt p c at depth cursors hs → (r : Op × ℕ)
    → op_at p.code at ≡ Some r → Verified p c at depth cursors hs r.0 r.1
verified p v c at depth cursors hs f r e =
    let o = v.splits.obeys f.number c at f.is f.start in
    let both : Some o.read ≡ Some r = sym o.whole.is ∙ e in
    let same : o.read ≡ r = cc in
    let lands = subst (λ (x : Op × ℕ). AllByRecursion (Lands p c) (fields_of x.0)) same o.target in
    let stays = subst (λ (x : Op × ℕ). StaysIn c (at + x.1) (flow_of x.0)) same o.end in
    let pools = subst (λ (x : Op × ℕ). InPools p x.0) same o.index in
    let s : Shape = shape depth cursors hs in
    let agrees = f.typed.steps f.number c at r s f.is f.start e f.known in
    let wide = op_at_within p.code at r e in
    let left = depth - takes_of p r.0 in
    let few = cursors - cursors_taken (looping_of r.0) in
    let keeps : Covers p c f.typing left few hs =
    covers_less p c f.typing left depth few cursors hs agrees.above f.covers in
    let t : Shape = after (effect_of p r.0) s in
    let covers =
    handled_covers p c f.typing (handling_of r.0) left t.height few t.cursors hs (omega arith)
    (omega arith) keeps (pushes p c f.typing r.0 c.max_stack at r.1 s lands pools agrees) in
    record {
      provides = record {
        enough = agrees.enough;
        room = agrees.room;
        pools = pools;
        inside = let l = short (length p.code) (chunks_in p) v.layout in omega (arith, wide.1);
        wide = wide.0;
      };
      cursor = agrees.cursor;
      handler = agrees.handler;
      covered = record {
        number = f.number;
        is = f.is;
        typing = f.typing;
        typed = f.typed;
        low = omega (arith, f.low);
        covers = keeps;
      };
      goes = λ x i.
          let out : Shape = at_target (effect_of p r.0) t in
          let to = reached_in p (flow_of r.0) (at + r.1) t out x i in
          let fine = one_of_two p c x.address f.typing x.shape t out to.1 agrees.room (omega (
            arith,
            no_more_at_target (looping_of r.0) (gives_of r.0) t,
            agrees.room,
          )) covers (targets_cover p c f.typing r.0 s keeps covers) in
          record {
            number = f.number;
            is = f.is;
            start = leads_to_start p c (at + r.1) r.0 lands stays (λ lt. start_next p.code c at r
                f.start e lt) x.address to.0;
            typing = f.typing;
            typed = f.typed;
            known = agrees.arrives x i;
            low = fine.0;
            covers = fine.1;
          };
    }

-- wherever an instruction leads that goes on with no cursor, the typing knows the frame with the
-- operands, the cursors and the handlers that the instruction leaves
pub goes_on : {p : View} {c : Chunk} {at depth cursors : ℕ} {hs : List TryHandler} {o : Op}
    {width : ℕ} → Verified p c at depth cursors hs o width → advances (looping_of o) ≡ false
    → (b : ℕ) → In b (leads_of p o (at + width))
    → IsTypedAt p c b (depth - takes_of p o + gives_of o)
    (cursors - cursors_taken (looping_of o) + cursors_given (looping_of o))
    (handled (handling_of o) (depth - takes_of p o + gives_of o)
    (cursors - cursors_taken (looping_of o) + cursors_given (looping_of o)) hs)
goes_on {p} {c} {at} {depth} {cursors} {hs} {o} {width} v even b i =
    let t = after (effect_of p o) (shape depth cursors hs) in
    v.goes (arrival b t)
    (subst (λ (y : Shape). In (arrival b t) (reached p (flow_of o) (at + width) t y))
    (sym (same_at_target (looping_of o) (gives_of o) t even))
    (reaches_with p (flow_of o) (at + width) t b i))

-- a frame with other numbers that are the same
with_numbers : {p : View} {c : Chunk} {at depth height cursors many : ℕ} {hs : List TryHandler}
    → depth ≡ height → cursors ≡ many → IsTypedAt p c at depth cursors hs
    → IsTypedAt p c at height many hs
with_numbers {p} {c} {at} {depth} {height} {cursors} {many} {hs} e f h =
    subst (λ (n : ℕ). IsTypedAt p c at height n hs) f
    (subst (λ (n : ℕ). IsTypedAt p c at n cursors hs) e h)

-- where a cursor goes on, the frame has an operand more at the next instruction
pub goes_with_item : {p : View} {c : Chunk} {at depth cursors : ℕ} {hs : List TryHandler} {t : ℕ}
    {width : ℕ} → Verified p c at depth cursors hs (op.IterNext t) width
    → IsTypedAt p c (at + width) (depth + 1) cursors hs
goes_with_item {p} {c} {at} {depth} {cursors} {hs} {t} {width} v =
    let e = effect_of p (op.IterNext t) in
    let s = after e (shape depth cursors hs) in
    with_numbers (omega arith) (omega (arith, v.cursor))
    (v.goes (arrival (at + width) s) (past_branch p t (at + width) s (at_target e s)))

pub goes_with_item_indexed : {p : View} {c : Chunk} {at depth cursors : ℕ}
    {hs : List TryHandler} {t n : ℕ} {width : ℕ}
    → Verified p c at depth cursors hs (op.IterNextIndexed t n) width
    → IsTypedAt p c (at + width) (depth + 1) cursors hs
goes_with_item_indexed {p} {c} {at} {depth} {cursors} {hs} {t} {n} {width} v =
    let e = effect_of p (op.IterNextIndexed t n) in
    let s = after e (shape depth cursors hs) in
    with_numbers (omega arith) (omega (arith, v.cursor))
    (v.goes (arrival (at + width) s) (past_branch p t (at + width) s (at_target e s)))

-- and at the end it has a cursor less at the target
pub goes_without_cursor : {p : View} {c : Chunk} {at depth cursors : ℕ} {hs : List TryHandler}
    {t : ℕ} {width : ℕ} → Verified p c at depth cursors hs (op.IterNext t) width
    → IsTypedAt p c t depth (cursors - 1) hs
goes_without_cursor {p} {c} {at} {depth} {cursors} {hs} {t} {width} v =
    let e = effect_of p (op.IterNext t) in
    let s = after e (shape depth cursors hs) in
    with_numbers (omega arith) (omega arith)
    (v.goes (arrival t (at_target e s)) (in_branch p t (at + width) s (at_target e s)))

pub goes_without_cursor_indexed : {p : View} {c : Chunk} {at depth cursors : ℕ}
    {hs : List TryHandler} {t n : ℕ} {width : ℕ}
    → Verified p c at depth cursors hs (op.IterNextIndexed t n) width
    → IsTypedAt p c t depth (cursors - 1) hs
goes_without_cursor_indexed {p} {c} {at} {depth} {cursors} {hs} {t} {n} {width} v =
    let e = effect_of p (op.IterNextIndexed t n) in
    let s = after e (shape depth cursors hs) in
    with_numbers (omega arith) (omega arith)
    (v.goes (arrival t (at_target e s)) (in_branch p t (at + width) s (at_target e s)))

-- a frame of the main chunk begins at its entry, without operands, cursors and handlers
pub begins : (p : View) → IsProgram p → IsTypedAt p p.main p.main.entry 0 0 []
begins p v = record {
  number = 0;
  is = refl;
  start = start_first p.code p.main (v.splits.full 0 p.main refl);
  typing = v.typing;
  typed = v.typed;
  known = v.typed.entries 0 p.main refl;
  low = omega arith;
  covers = tt;
}

-- a frame of a function begins at its entry, without operands, cursors and handlers
pub enters : (p : View) → IsProgram p → (i : ℕ) (f : Function) → slice_get p.functions i ≡ Some f
    → IsTypedAt p f.chunk f.chunk.entry 0 0 []
enters p v i f e =
    let is = function_chunk p i f e in
    record {
      number = suc i;
      is = is;
      start = start_first p.code f.chunk (v.splits.full (suc i) f.chunk is);
      typing = v.typing;
      typed = v.typed;
      known = v.typed.entries (suc i) f.chunk is;
      low = omega arith;
      covers = tt;
    }

-- the handlers of a frame that stands at an instruction
pub covered : (p : View) (c : Chunk) (at depth cursors : ℕ) (hs : List TryHandler)
    → IsTypedAt p c at depth cursors hs → IsCovered p c depth cursors hs
covered p c at depth cursors hs f = record {
  number = f.number;
  is = f.is;
  typing = f.typing;
  typed = f.typed;
  low = f.low;
  covers = f.covers;
}

-- the innermost handler was pushed above no more operands than there are
pub covers_height : (p : View) (c : Chunk) (depth cursors : ℕ) (h : TryHandler)
    (hs : List TryHandler) → IsCovered p c depth cursors (h ∷ hs) → h.height ≤ depth
covers_height p c depth cursors h hs k = k.covers.0

-- and above no more cursors
pub covers_cursors : (p : View) (c : Chunk) (depth cursors : ℕ) (h : TryHandler)
    (hs : List TryHandler) → IsCovered p c depth cursors (h ∷ hs) → h.cursors ≤ cursors
covers_cursors p c depth cursors h hs k = k.covers.1

-- the handlers around the innermost one
pub uncovered : (p : View) (c : Chunk) (depth cursors : ℕ) (h : TryHandler) (hs : List TryHandler)
    → IsCovered p c depth cursors (h ∷ hs) → IsCovered p c depth cursors hs
uncovered p c depth cursors h hs k = record {
  number = k.number;
  is = k.is;
  typing = k.typing;
  typed = k.typed;
  low = k.low;
  covers = covers_more p c k.typing h.height depth h.cursors cursors hs k.covers.0 k.covers.1
      k.covers.5;
}

-- a frame that has caught stands at the handler's target, with the operands and the cursors that were
-- there at its push, and with this handler and those around it
pub catches : (p : View) (c : Chunk) (depth cursors : ℕ) (h : TryHandler) (hs : List TryHandler)
    → IsCovered p c depth cursors (h ∷ hs)
    → IsTypedAt p c h.target h.height h.cursors (h ∷ hs)
catches p c depth cursors h hs k = record {
  number = k.number;
  is = k.is;
  start = k.covers.3;
  typing = k.typing;
  typed = k.typed;
  known = k.covers.4;
  low = omega (arith, k.covers.0, k.low);
  covers = (omega arith, omega arith, k.covers.2, k.covers.3, k.covers.4, k.covers.5);
}
