-- The frames of a valid program: an instruction with its operands and its handler stands at each,
-- and where a handler catches there are as many operands as at its push, or more.
use Rattle.std.proofs.Common.{◌≡◌, ◌≤◌, ◌+◌, ◌-◌, ℕ, List, [], ◌∷◌, Option, Some, None, false, length, take, refl, sym, subst, arith}
use Rattle.std.proofs.lemmas.List.{length-drop, length-take}
use Rattle.grain_value.specs.declared.values.Held.{Held}
use Rattle.grain_fault.specs.Problems.{Problem}
use Rattle.grain_program.specs.declared.code.functions.Function.{Function}
use Rattle.grain_program.specs.declared.code.parts.Chunk.{Chunk}
use Rattle.grain_program.specs.declared.code.instruction_set.Op.{Op}
use Rattle.grain_program.specs.Effects.{advances, cursors_given, cursors_taken, takes_of, gives_of, leads_of, handling_of, looping_of}
use Rattle.grain_program.specs.Shapes.{TryHandler, handled, outer}
use Rattle.grain_program.specs.TypedAt.{IsTypedAt, IsCovered, Verified}
use Rattle.grain_program.specs.laws.TypedAt.{stands, verified, goes_on, begins, enters, covers_cursors, covers_height, uncovered, catches}
use Rattle.grain_program.specs.Decoding.{op_at}
use Rattle.grain_program.specs.Typing.{In, IsProgram}
use Rattle.grain_program.specs.View.{View}
use Rattle.grain_means.specs.Worlds.{Cursor, Frame, Handler, Place}
use Rattle.grain_means.specs.Rules.{frame_at, function_numbered, outer_handlers, outermost, catching, resumed}
use Rattle.grain_means.specs.Comes.{Stands, try_of, tries}

-- the typing of a chunk knows the frame
abbrev pub Fitting : View → Frame → Type 0
Fitting p f = (c : Chunk) ×
    IsTypedAt p c f.address (length f.operands) (length f.cursors) (tries f.handlers)

-- a typing knows the handlers, and what they need of the operands and of the cursors is there
pub record Covered (p : View) (operands : List Held) (cursors : List Cursor) (hs : List TryHandler) :
    Type 0 where
  pub chunk : Chunk
  pub depth : ℕ
  pub loops : ℕ
  pub deep : depth ≤ length operands
  pub many : loops ≤ length cursors
  pub by : IsCovered p chunk depth loops hs

-- the handlers around the innermost one, as a typing has them
pub tries_outer : (hs : List Handler) → tries (outer_handlers hs) ≡ outer (tries hs)
tries_outer [] = refl
tries_outer (h ∷ hs) = refl

-- the same of the handlers around the innermost one
pub covered_outside : (p : View) (operands : List Held) (cursors : List Cursor) (h : TryHandler)
    (hs : List TryHandler) → Covered p operands cursors (h ∷ hs) → Covered p operands cursors hs
covered_outside p operands cursors h hs covered = record {
  chunk = covered.chunk;
  depth = covered.depth;
  loops = covered.loops;
  deep = covered.deep;
  many = covered.many;
  by = uncovered p covered.chunk covered.depth covered.loops h hs covered.by;
}

-- there are as many operands as at the push of the innermost handler, or more
pub as_many : (p : View) (operands : List Held) (cursors : List Cursor) (h : TryHandler)
    (hs : List TryHandler) → Covered p operands cursors (h ∷ hs) → h.height ≤ length operands
as_many p operands cursors h hs covered = omega (
  arith,
  covers_height p covered.chunk covered.depth covered.loops h hs covered.by,
  covered.deep,
)

-- and as many cursors
pub as_many_cursors : (p : View) (operands : List Held) (cursors : List Cursor) (h : TryHandler)
    (hs : List TryHandler) → Covered p operands cursors (h ∷ hs) → h.cursors ≤ length cursors
as_many_cursors p operands cursors h hs covered = omega (
  arith,
  covers_cursors p covered.chunk covered.depth covered.loops h hs covered.by,
  covered.many,
)

-- of a list the outermost n are n, where there are n of them
pub length_outermost : {A : Type 0} (n : ℕ) (xs : List A) → n ≤ length xs →
    length (outermost n xs) ≡ n
length_outermost n xs enough = omega (arith, length-drop (length xs - n) xs, enough)

-- a frame that has caught fits at the handler's target
pub fits_caught : (p : View) (f : Frame) (h : Handler) (x : Problem) →
    Covered p f.operands f.cursors (try_of h ∷ tries f.handlers) →
    Fitting p (resumed (catching f h x) h.target)
fits_caught p f h x covered =
    let hs = tries f.handlers in
    let cut : length (take h.operands f.operands) ≡ h.operands =
    omega (
      arith,
      length-take h.operands f.operands,
      as_many p f.operands f.cursors (try_of h) hs covered,
    ) in
    let kept : length (outermost h.cursors f.cursors) ≡ h.cursors =
    length_outermost h.cursors f.cursors
    (as_many_cursors p f.operands f.cursors (try_of h) hs covered) in (
      covered.chunk,
      subst (λ (n : ℕ). IsTypedAt p covered.chunk h.target n
          (length (outermost h.cursors f.cursors)) (try_of h ∷ hs)) (sym cut)
          (subst (λ (n : ℕ). IsTypedAt p covered.chunk h.target h.operands n (try_of h ∷ hs))
          (sym kept)
          (catches p covered.chunk covered.depth covered.loops (try_of h) hs covered.by)),
    )

module _ (p : View) (valid : IsProgram p) where
  pub fits_main : (size : ℕ) (this : Option Place) → Fitting p (frame_at p.main size this)
  fits_main size this = (p.main, begins p valid)

  pub fits_found : (i : Option ℕ) (g : Function) (size : ℕ) (this : Option Place) →
      function_numbered p i ≡ Some g → Fitting p (frame_at g.chunk size this)
  fits_found None g size this e = absurd cc
  fits_found (Some i) g size this e = (g.chunk, enters p valid i g e)

  -- how many cursors an instruction leaves
  abbrev loops_after : Frame → Op → ℕ
  loops_after f o =
      length f.cursors - cursors_taken (looping_of o) + cursors_given (looping_of o)

  -- what was verified of the instruction at which a frame stands
  pub seen : (f : Frame) (o : Op) (width : ℕ) → op_at p.code f.address ≡ Some (o, width) →
      (fit : Fitting p f) →
      Verified p fit.0 f.address (length f.operands) (length f.cursors) (tries f.handlers) o width
  seen f o width stands fit =
      verified p valid fit.0 f.address (length f.operands) (length f.cursors) (tries f.handlers)
      fit.1 (o, width) stands

  -- a frame at an address to which the instruction leads, with as many operands and cursors as it leaves,
  -- and with its handlers
  pub fits_next : (f : Frame) (o : Op) (width : ℕ) → op_at p.code f.address ≡ Some (o, width) →
      advances (looping_of o) ≡ false →
      (g : Frame) → In g.address (leads_of p o (f.address + width)) →
      (takes_of p o ≤ length f.operands → length g.operands ≡ length f.operands - takes_of p o +
      gives_of o) →
      (cursors_taken (looping_of o) ≤ length f.cursors → length g.cursors ≡ loops_after f o) →
      tries g.handlers ≡
      handled (handling_of o) (length f.operands - takes_of p o + gives_of o) (loops_after f o)
      (tries f.handlers) →
      Fitting p f → Fitting p g
  fits_next f o width stands even g to many loops handlers fit =
      let s = seen f o width stands fit in
      let hs = handled (handling_of o) (length f.operands - takes_of p o + gives_of o)
      (loops_after f o) (tries f.handlers) in (
        fit.0,
        subst (λ (hs : List TryHandler).
            IsTypedAt p fit.0 g.address (length g.operands) (length g.cursors) hs) (sym handlers)
            (subst (λ (n : ℕ). IsTypedAt p fit.0 g.address (length g.operands) n hs)
            (sym (loops s.cursor))
            (subst (λ (n : ℕ). IsTypedAt p fit.0 g.address n (loops_after f o) hs)
            (sym (many s.provides.enough)) (goes_on s even g.address to))),
      )

  -- where an instruction raises a fault, what the handlers need of the operands is there, if no
  -- more of them are gone than it takes
  pub fits_covered : (f : Frame) (o : Op) (width : ℕ) → op_at p.code f.address ≡ Some (o, width) →
      (operands : List Held) → length f.operands - takes_of p o ≤ length operands →
      (cursors : List Cursor) →
      length f.cursors - cursors_taken (looping_of o) ≤ length cursors → Fitting p f →
      Covered p operands cursors (tries f.handlers)
  fits_covered f o width stands operands enough cursors loops fit = record {
    chunk = fit.0;
    depth = length f.operands - takes_of p o;
    loops = length f.cursors - cursors_taken (looping_of o);
    deep = enough;
    many = loops;
    by = (seen f o width stands fit).covered;
  }

  pub fits_stand : (f : Frame) → Fitting p f → Stands p f
  fits_stand f fit =
      let x = stands p valid fit.0 f.address (length f.operands) (length f.cursors)
      (tries f.handlers) fit.1 in
      let s = seen f x.0.0 x.0.1 x.1 fit in
      record {
        chunk = fit.0;
        number = fit.1.number;
        is = fit.1.is;
        start = fit.1.start;
        instruction = x.0.0;
        width = x.0.1;
        stands = x.1;
        operands = s.provides.enough;
        cursor = s.cursor;
        handler = s.handler;
        pools = s.provides.pools;
      }
