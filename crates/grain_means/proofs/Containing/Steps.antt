-- The walk at a frame over a store of n cells.
use Rattle.std.proofs.Common.{◌≡◌, ◌≤◌, ◌+◌, ℕ, List, Option, Some, None, refl, arith}
use Rattle.grain_value.specs.Looking.{cell_of}
use Rattle.grain_value.specs.Operands.{below, top}
use Rattle.grain_value.specs.Tree.{Tree}
use Rattle.grain_value.specs.View.{value_of}
use Rattle.grain_value.specs.declared.values.Dynamic.{Dynamic}
use Rattle.grain_value.specs.declared.values.Held.{Held}
use Rattle.grain_fault.specs.Problems.{Problem, NoMemory}
use Rattle.grain_means.specs.Contained.{CursorNames, HeldNames, Names, ProblemNames}
use Rattle.grain_means.specs.Rules as rules
use Rattle.grain_means.specs.Rules.{Home, Receiver, bound, given, held_at, stepped}
use Rattle.grain_means.specs.Worlds.{Act, Cursor, Frame, Handler, Setup, World}
use Rattle.grain_means.proofs.Naming.{all_wider, held_wider, top_names, under_names}
use Rattle.grain_means.proofs.Containing.Parts.{CaughtNames, HandlerNames, Operands, Arguments, FrameNames, MayStand, ReceiverNames, LendsPlain}
use Rattle.grain_means.proofs.Containing.Frames.{Grounds, At, Within, bases, leaves, marks, raises, onward, reads, looks, writes, pushes}
use Rattle.grain_means.proofs.Containing.Natives.{natives}

module _ {S : Type 0} {m : Setup S} (on : Grounds m) where
  open on use {clean, least}

  -- of a frame over a longer store
  pub frame_wider : (n k : ℕ) (f : Frame) → n ≤ k → FrameNames clean n f → FrameNames clean k f
  frame_wider n k f le names = (
    all_wider (HeldNames clean n) (HeldNames clean k) (held_wider clean n k le) f.operands names.0,
    record {
      handlers = all_wider (HandlerNames clean n) (HandlerNames clean k) handler_wider f.handlers
          names.1.handlers;
      cursors = all_wider (CursorNames clean n) (CursorNames clean k) cursor_wider f.cursors
          names.1.cursors;
    },
  ) where
    caught_wider : (c : Option Problem) → CaughtNames clean n c → CaughtNames clean k c
    caught_wider None h = tt
    caught_wider (Some y) h = (omega (arith, h.0, le), h.1)

    handler_wider : (h : Handler) → HandlerNames clean n h → HandlerNames clean k h
    handler_wider h p = caught_wider h.caught p

    item_wider : (t : Tree) → Names clean n (value_of t) → Names clean k (value_of t)
    item_wider t h = (omega (arith, h.0, le), h.1)

    cursor_wider : (c : Cursor) → CursorNames clean n c → CursorNames clean k c
    cursor_wider c p =
        all_wider (λ t. Names clean n (value_of t)) (λ t. Names clean k (value_of t)) item_wider
        c.left p

  module _ (n : ℕ) (low : least ≤ n) (f : Frame) (names : FrameNames clean n f) where
    abbrev pub Stays : Act S → Type 0
    Stays act = Within on n act

    abbrev pub Here : World S → Type 0
    Here w = At on n w

    pub raising : (x : Problem) (w : World S) → Here w → ProblemNames clean n x →
        Stays (rules.raised m f x w)
    raising = raises on n low f names

    pub pushing : (next : ℕ) (ops : List Held) (v : Dynamic) (w : World S) → Here w →
        Operands clean n ops → Names clean n v → Stays (rules.pushed m f next ops v w)
    pushing = pushes on n low f names

    pub going_on : (g : Frame) (w : World S) → Here w → FrameNames clean n g →
        Stays (rules.onward m f g w)
    going_on = onward on n low f names

    pub reading : (h : Held) (name : List ℕ) (w : World S) → Here w → HeldNames clean n h →
        (go : Dynamic → Act S) → ((v : Dynamic) → Names clean n v → cell_of v ≡ None → Stays (go v))
        → Stays (rules.flattened m h name f w go)
    reading = reads on n low f names

    pub looking : (slot : ℕ) (w : World S) → Here w → (go : Held → Act S) →
        ((h : Held) → held_at w.scope (f.base + slot) ≡ Some h → HeldNames clean n h →
        Stays (go h)) → Stays (rules.at_slot m f slot w go)
    looking = looks on n low f names

    pub writing : (a : Home) (h : Held) (name : List ℕ) (w : World S) → Here w →
        HeldNames clean n h → MayStand a h.value → (go : World S → Act S) →
        ((w : World S) → Here w → Stays (go w)) → Stays (rules.written_at m a h name f w go)
    writing = writes on n low f names

    pub marking : (w : World S) (go : World S → Act S) → Here w →
        Stays (go (record w { passed = w.passed + 1 })) → Stays (rules.marked m f w go)
    marking = marks on n low f

    -- the operands that there are
    pub last : HeldNames clean n (top f.operands)
    last = top_names clean n f.operands names.0

    pub less : Operands clean n (below f.operands)
    less = under_names clean n 1 f.operands names.0

    pub moves : (next : ℕ) (ops : List Held) → Operands clean n ops → FrameNames clean n
        (stepped f next ops)
    moves next ops held = (held, names.1)

  module _ (n : ℕ) (low : least ≤ n) (f : Frame) (names : FrameNames clean n f) where
    pub asking : (r : Option Receiver) (go : Dynamic → World S → Act S)
        (fails : Problem → World S → Act S) →
        ((k : ℕ) → n ≤ k → (v : Dynamic) (w : World S) → At on k w → Names clean k v →
        Within on k (go v w)) →
        ((k : ℕ) → n ≤ k → (x : Problem) (w : World S) → At on k w → LendsPlain r w.scope w.roots →
        ProblemNames clean k x → Within on k (fails x w)) →
        (name : List ℕ) (args : List Held) (w : World S) → At on n w → ReceiverNames clean n r →
        LendsPlain r w.scope w.roots → Arguments clean n args →
        Within on n (rules.native m name r args f w go fails)
    asking r go fails going failing name args w at receiver plain given =
        natives (bases on) on.since n low (rules.leave_by_fault m f NoMemory)
        (λ k le v there. leaves on k (omega (arith, low, le)) f NoMemory v there (omega arith, λ s. refl))
        f r go fails going failing name args w at receiver plain given

    -- a native that is lent nothing
    pub giving : (go : Dynamic → World S → Act S) →
        ((k : ℕ) → n ≤ k → (v : Dynamic) (w : World S) → At on k w → Names clean k v →
        Within on k (go v w)) →
        (name : List ℕ) (args : List Held) (w : World S) → At on n w → Arguments clean n args →
        Within on n (rules.native m name None args f w go (rules.raised m f))
    giving go going name args w at given =
        asking None go (rules.raised m f) going
        (λ k le x w1 there plain bound. raises on k (omega (arith, low, le)) f
        (frame_wider n k f le names) x w1 there bound)
        name args w at tt tt given
