-- The walk over the rules through a call that a native asked for: of a function, or of a native.
use Rattle.std.proofs.Common.{◌≡◌, ◌⊎◌, ◌+◌, ℕ, Option, Some, None, Bool, true, false, refl, sym, subst, ap, inl, inr, arith, length}
use Rattle.grain_fault.specs.Classes.{catchable}
use Rattle.grain_fault.specs.Positions.{at_position}
use Rattle.grain_fault.specs.declared.places.Position.{Position}
use Rattle.grain_fault.specs.Problems.{Problem}
use Rattle.grain_program.specs.Lookups.{function_by_text}
use Rattle.grain_program.specs.Typing.{IsProgram}
use Rattle.grain_program.specs.declared.code.functions.Function.{Function}
use Rattle.grain_means.specs.Ends.{Ends, ended}
use Rattle.grain_means.specs.Rules.{arguments_back, called_back, called_back_over, callee_called_back, calling_back, frame_at, function_back, function_by_name, function_under, is_told, position}
use Rattle.grain_means.specs.Worlds.{Act, Answer, Came, Callback, End, Failed, Go, InCatch, InFrame, InHost, Setup, Then, World}
use Rattle.grain_means.specs.Causes.{Cause, IsKeptOut, Raised, Why, body_begins, of_native, parameters}
use Rattle.grain_means.proofs.Footing.{Tally, true-false}
use Rattle.grain_means.proofs.Ground.{Footing}
use Rattle.grain_means.proofs.Roles.{Hosting, NativeFails}
use Rattle.grain_means.proofs.Standing.{Fitting, fits_found}
use Rattle.grain_means.proofs.Tally.NativesBack.{even_native}
use Rattle.grain_means.proofs.Tally.Functions.{Beside, EndsAs, FromBody, even_function, wrapped}
use Rattle.grain_means.proofs.Tally.Telling.{Back, Hosted, aside, even_fault, even_value, kept_out, out_so, root, turn}

module _ {S : Type 0} {m : Setup S} (hosted : Hosted m) (r : ℕ) (ran : hosted.now.ran ≡ r) where
  open hosted use {first, start, footing as k, callback as c, now, on, stays, trace}

  abbrev q : Position
  q = position m c.frame

  abbrev heard : Answer → World S → Act S
  heard = called_back_over m c

  -- the call ends so, whatever follows
  abbrev whole_run : Act S
  whole_run = called_back m End c now

  abbrev Whole : Act S → Type 0
  Whole act = EndsAs m whole_run act

  -- a function is called back
  module _ (g : Function) (found : function_back m.program m.engine.callbacks c ≡ Some g) where
    by_name : (callbacks : Bool) → function_back m.program callbacks c ≡ Some g →
        function_by_name m.program c.pointer.name (length c.pointer.curry + length c.values) ≡ Some g
    by_name true is = is
    by_name false is = absurd cc

    fits : IsProgram m.program → Fitting m.program (frame_at g.chunk 0 None)
    fits valid =
        fits_found m.program valid (function_by_text m.program c.pointer.name
        (length c.pointer.curry + length c.values)) g 0 None (by_name m.engine.callbacks found)

    whole : Whole (function_under m q g (arguments_back c) End None now)
    whole a v ends =
        subst (λ (f : Option Function). Ends m (callee_called_back m End c f now) a v) (sym found) ends

    abbrev body : Act S
    body = Go (InFrame (frame_at g.chunk 0 None)) (body_begins m g (arguments_back c) now)

    by_body : (x y : Problem) → FromBody m (root hosted) (turn hosted) q g (arguments_back c) None now x y →
        (u : World S) (n : ℕ) → Whole (End (Failed y) u) → Beside now n u →
        Back hosted n (heard (Failed y) u)
    by_body x y b u n so_ends at =
        even_fault hosted y u n (so_ends (Failed y) u ended) (λ no. left no b.how) (aside hosted n u at) where
          left : is_told y ≡ false →
              ((catchable x ≡ true) × Raised m body (now.level + 1) x (Why m x)
              × (y ≡ wrapped m (root hosted) (turn hosted) q g (arguments_back c) None now x))
              ⊎ ((catchable x ≡ false) × Cause m body (now.level + 1) x × (y ≡ at_position q x)) →
              NativeFails m first start y
          left untold (inl (may, raised, is)) = true-false (ap is_told is) untold
          left untold (inr (passes, cause, is)) = inr (
            record {
              runs = record {
                callback = c;
                world = now;
                on = of_native on;
                function = g;
                is = found;
                entered = b.entered;
              };
              inner = x;
              after = b.after;
              ends = b.ends;
              passes = passes;
              is = is;
              goes = tt;
            },
            cause,
          )

    even_body : Back hosted r (function_under m q g (arguments_back c) heard None now)
    even_body =
        even_function m Hosting (root hosted) (turn hosted) k q now whole_run heard End (out_so hosted) g
        (arguments_back c) None fits r ran trace
        (λ x why u at. kept_out hosted r x
        (subst (λ (f : Option Function). IsKeptOut m q (parameters f) now x) (sym found) why) u at) by_body
        (λ d u n so_ends at empty. even_value hosted d u n (so_ends (Came d) u ended) (aside hosted n u at))
        whole

  even_callee : (found : Option Function) → function_back m.program m.engine.callbacks c ≡ found →
      Back hosted r (callee_called_back m heard c found now)
  even_callee None is = even_native hosted r ran is
  even_callee (Some g) is = even_body g is

  pub even_called_back : Back hosted r (calling_back m c now)
  even_called_back = even_callee (function_back m.program m.engine.callbacks c) refl

-- a run that stands at such a call
pub even_back : {S : Type 0} (m : Setup S) (root : Act S) (r : ℕ) (k : Footing) (turn : Act S)
    (c : Callback) (w : World S) → Tally m Hosting root turn r k (Go (InHost c) w) →
    Tally m Hosting root (Go (InHost c) w) (w.ran + 0) k (calling_back m c w)
even_back m (Go (InHost first) start) r k turn c w h =
    even_called_back (record {
      first = first;
      start = start;
      footing = k;
      callback = c;
      now = w;
      on = h.4.1.1;
      size = h.4.1.0;
      tokens = h.1;
      level = h.2;
      stays = h.3;
      trace = h.4.0;
    }) (w.ran + 0) (omega arith)
even_back m (Go (InFrame f) start) r k turn c w h = absurd h.4.1
even_back m (Go (InCatch f g x) start) r k turn c w h = absurd h.4.1
even_back m (End a v) r k turn c w h = absurd h.4.1
even_back m (Then one rest) r k turn c w h = absurd h.4.1
