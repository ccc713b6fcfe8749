-- Causes as they are carried from one act to another, of which the first is a part.
use Rattle.std.proofs.Common.{◌≡◌, ◌≤◌, ◌⊎◌, ℕ, List, length, true, false, sym, subst, ◌∙◌, inl, inr}
use Rattle.grain_value.specs.declared.scopes.Entry.{Entry}
use Rattle.grain_fault.specs.Classes.{catchable}
use Rattle.grain_fault.specs.Positions.{at_position}
use Rattle.grain_fault.specs.declared.places.Position.{Position}
use Rattle.grain_fault.specs.declared.traces.Fault.{Fault}
use Rattle.grain_fault.specs.Problems.{Problem, NoMemory}
use Rattle.grain_means.specs.Worlds.{Act, Answer, Came, Failed, World, Setup, InFrame, InCatch}
use Rattle.grain_means.specs.Rules.{is_stop}
use Rattle.grain_means.specs.Comes.{ProgramPoint, CatchPoint, ComesToCatch, Meets}
use Rattle.grain_means.specs.Leavings.{AtCheckpoint, Cut}
use Rattle.grain_means.specs.Blame.{Blamed}
use Rattle.grain_means.specs.Causes.{HasPosition, LeftCall, Tells, ThrownAnew, RaisedByCatch, CallsBack, Cause, Caused, raised, by_catch, from_native}
use Rattle.grain_means.proofs.Moving.{placed_twice, caught_anywhere}
use Rattle.grain_means.proofs.Footing.{Onto, moved_why, moved_catch}

module _ {S : Type 0} (m : Setup S) where
  module _ (first root : Act S) (onto : Onto m first root) where
    -- what the first act meets, and why it ends so, as the second has it
    pub meets : (s : ProgramPoint S) → Meets m s first → Meets m s root
    meets s h = record {
      comes = onto (InFrame s.frame) s.world h.comes;
      blames = h.blames;
      width = h.width;
      stands = h.stands;
    }

    catches : (c : CatchPoint S) → ComesToCatch m c first → ComesToCatch m c root
    catches c comes = onto (InCatch c.frame c.handler c.fault) c.world comes

    left_call : {level : ℕ} {Runs : Act S → Type 0} {p : Position} →
        LeftCall m first level Runs p → LeftCall m root level Runs p
    left_call l = record {
      call = l.call;
      met = meets l.call l.met;
      own = l.own;
      function = l.function;
      enters = l.enters;
      position = l.position;
    }

    anew : {level : ℕ} {x : Problem} → ThrownAnew m first level x → ThrownAnew m root level x
    anew a = record {
      caught = a.caught;
      comes = catches a.caught a.comes;
      own = a.own;
      position = a.position;
      throw = record {
        point = a.throw.point;
        met = meets a.throw.point a.throw.met;
        own = a.throw.own;
        how = a.throw.how;
      };
      inside = a.inside;
      around = a.around;
      block = a.block;
      left = a.left;
      ended = a.ended;
      is = a.is;
    }

    told : (level : ℕ) (at : ProgramPoint S) (x : Problem) → Tells m first level at x →
        Tells m root level at x
    told level at x (inl own) = inl own
    told level at x (inr (inl l)) = inr (inl (l.0, (l.1.0, left_call l.1.1, l.1.2)))
    told level at x (inr (inr a)) = inr (inr (a.0, anew a.1))

    caught_told : (level : ℕ) (x : Problem) → RaisedByCatch m first level x →
        RaisedByCatch m root level x
    caught_told level x c = record {
      point = c.point;
      comes = catches c.point c.comes;
      why = c.why;
      tells = here_or_left c.tells;
    } where
      here_or_left : {A : Type 0} →
          A ⊎ ((p : Position) × LeftCall m first level (ComesToCatch m c.point) p
          × HasPosition p x) →
          A ⊎ ((p : Position) × LeftCall m root level (ComesToCatch m c.point) p
          × HasPosition p x)
      here_or_left (inl own) = inl own
      here_or_left (inr l) = inr (l.0, left_call l.1, l.2)

    -- the calls back of a native of the first act are those of the second
    abbrev calls_back : CallsBack m first → CallsBack m root
    calls_back c = record {
      point = c.point;
      met = meets c.point c.met;
      first = c.first;
      start = c.start;
      asks = c.asks;
      comes = c.comes;
      address = c.address;
      runs = c.runs;
    }

    pub cause_on : {level : ℕ} {x : Problem} → Cause m first level x → Cause m root level x
    cause_on {level = level} {x = x} (raised c) = raised (record {
      point = c.point;
      met = meets c.point c.met;
      why = c.why;
      tells = told level c.point x c.tells;
    })
    cause_on {level = level} {x = x} (by_catch c) = by_catch (caught_told level x c)
    cause_on (from_native c passes inner p (inl own)) =
        from_native (calls_back c) passes inner p (inl own)
    cause_on (from_native c passes inner p (inr l)) =
        from_native (calls_back c) passes inner p (inr (left_call l))

    pub caused : (level : ℕ) (a : Answer) (w v : World S) →
        (is_stop m.stop w.passed ≡ true → is_stop m.stop v.passed ≡ true) →
        Caused m first level a w → Caused m root level a v
    caused level (Came u) w v stops c = tt
    caused level (Failed x) w v stops (inl s) = inl (s.0, stops s.1)
    caused level (Failed x) w v stops (inr c) = inr (cause_on c)

    -- a fault that no script may catch goes on at a call
    pub cause_at : (p : Position) (inside level : ℕ) (x : Problem) → catchable x ≡ false →
        ((Runs : Act S → Type 0) → Runs first → LeftCall m root level Runs p) →
        Cause m first inside x → Cause m root level (at_position p x)
    cause_at p inside level x passes call (raised c) = raised (record {
      point = c.point;
      met = meets c.point c.met;
      why = moved_why m p x c.point c.why;
      tells = inr (inl (
        caught_anywhere p x ∙ passes,
        (p, call (Meets m c.point) c.met, placed_twice p p x),
      ));
    })
    cause_at p inside level x passes call (by_catch c) = by_catch (record {
      point = c.point;
      comes = catches c.point c.comes;
      why = moved_catch m p x c.point c.why;
      tells = inr (p, call (ComesToCatch m c.point) c.comes, placed_twice p p x);
    })
    cause_at p inside level x passes call (from_native {y = y} c passing inner q at) =
        subst (Cause m root level) (sym (placed_twice p q y))
        (from_native (calls_back c) passing inner p (inr (call (Meets m c.point) c.met)))

    -- and how a fault cut the scope, also where memory is out afterwards
    pub cut_of : (level base : ℕ) (x y : Problem) → (y ≡ x) ⊎ (y ≡ NoMemory) →
        (scope : List Entry) (trace : List Fault) →
        Cut m first level base x scope trace → Cut m root level base y scope trace
    cut_of level base x y same scope trace c = record {
      frame = c.frame;
      world = c.world;
      comes = onto (InFrame c.frame) c.world c.comes;
      own = c.own;
      based = c.based;
      inner = c.inner;
      slot = c.slot;
      last = c.last;
      blames = blamed same c.blames;
      short = shortened c.short;
    } where
      blamed : (y ≡ x) ⊎ (y ≡ NoMemory) →
          (x ≡ NoMemory) ⊎ Blamed m c.frame c.world c.slot x →
          (y ≡ NoMemory) ⊎ Blamed m c.frame c.world c.slot y
      blamed (inl e) b =
          subst (λ (z : Problem). (z ≡ NoMemory) ⊎ Blamed m c.frame c.world c.slot z) (sym e) b
      blamed (inr e) b = inl e

      still_out : (y ≡ x) ⊎ (y ≡ NoMemory) → x ≡ NoMemory → y ≡ NoMemory
      still_out (inl e) out = e ∙ out
      still_out (inr e) out = e

      shortened : (length scope ≤ c.frame.floor)
          ⊎ ((x ≡ NoMemory) × AtCheckpoint m.program c.frame
          × (length scope ≤ length c.world.scope)) →
          (length scope ≤ c.frame.floor)
          ⊎ ((y ≡ NoMemory) × AtCheckpoint m.program c.frame
          × (length scope ≤ length c.world.scope))
      shortened (inl own) = inl own
      shortened (inr at) = inr (still_out same at.0, at.1, at.2)
