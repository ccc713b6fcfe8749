-- The calls that a native asks for: how they end, what the host hears of them, and why a native that
-- asked for calls ends in a fault.
use Rattle.std.specs.Prelude.{◌≡◌, ◌⊎◌, ◌<◌, ◌≤◌, ◌+◌, ℕ, List, [], Option, Some, None, true, false, length}
use Rattle.grain_value.specs.Cells.{flat}
use Rattle.grain_value.specs.Tree.{Tree}
use Rattle.grain_value.specs.declared.natives.Native.{Native}
use Rattle.grain_value.specs.declared.values.Dynamic.{Dynamic}
use Rattle.grain_value.specs.declared.values.FnPtr.{FnPtr}
use Rattle.grain_value.specs.declared.values.Held.{Held}
use Rattle.grain_fault.specs.Classes.{catchable}
use Rattle.grain_fault.specs.Positions.{at_position, at_position_if_none}
use Rattle.grain_fault.specs.declared.places.Position.{Position}
use Rattle.grain_fault.specs.Problems.{Problem, Plain, DataRace, StackOverflow, Terminated, TooManyOperations, TooManyVariables}
use Rattle.grain_host.specs.Law.{Reply, Outcome, Value, Fault, Stop}
use Rattle.grain_host.specs.Law as reply
use Rattle.grain_program.specs.declared.code.functions.Function.{Function}
use Rattle.grain_means.specs.Worlds.{Act, Go, End, Answer, Came, Failed, Callback, Frame, InFrame, InHost, World, Setup}
use Rattle.grain_means.specs.Comes.{Comes}
use Rattle.grain_means.specs.Ends.{Ends}
use Rattle.grain_means.specs.Rules.{bound, flat_all, frame_at, is_stop, lent_held, position, race_text, receiver_left, receiver_rewritten, scope_with, roots_with, trees_in, with_token, without_token, is_told, no_memory, arguments_back, function_back, called_back}
use Rattle.grain_means.specs.Causes.Instructions.{IsCharged}
use Rattle.grain_means.specs.Causes.Questions.{IsCalled, Question, asking_world, native_asked, reply_to}

-- the number of parameters of a function, if there is one
abbrev pub parameters : Option Function → ℕ
parameters None = 0
parameters (Some g) = length g.params

-- memory is not out at the mark of this number, and at the two after it
abbrev pub ThreePassed : {S : Type 0} → Setup S → ℕ → Type 0
ThreePassed m k = (is_stop m.stop k ≡ false) × (is_stop m.stop (k + 1) ≡ false)
    × (is_stop m.stop (k + 1 + 1) ≡ false)

-- An operation is taken for a call in this world: one is left, the host lets the run go on, and memory is
-- not out at the operation's three marks.
abbrev pub IsTaken : {S : Type 0} → Setup S → World S → Type 0
IsTaken m w = IsCharged m w × ThreePassed m w.passed

-- A call in this world fails before its body or its native begins, with this fault at this position: no
-- operation is left, or the host ends the run; or no level is left; or there are too many parameters.
-- Memory is not out at the marks up to there, of which the last one is that of the fault.
abbrev pub IsKeptOut : {S : Type 0} → Setup S → Position → ℕ → World S → Problem → Type 0
IsKeptOut m q params w x =
    ((m.engine.limits.operations ≤ w.count) × (is_stop m.stop w.passed ≡ false)
    × (x ≡ Plain TooManyOperations q))
    ⊎ (((v : Dynamic) × (w.count < m.engine.limits.operations) × ThreePassed m w.passed
    × (m.law.progress_reply w.host (w.count + 1) ≡ Stop v)
    × (is_stop m.stop (w.passed + 1 + 1 + 1) ≡ false) × (x ≡ Plain (Terminated v) q))
    ⊎ ((IsTaken m w × (m.engine.limits.levels ≤ w.level)
    × (is_stop m.stop (w.passed + 1 + 1 + 1) ≡ false) × (x ≡ Plain StackOverflow q))
    ⊎ (IsTaken m w × (w.level < m.engine.limits.levels) × (m.engine.limits.variables < params)
    × (is_stop m.stop (w.passed + 1 + 1 + 1) ≡ false) × (x ≡ Plain TooManyVariables q))))

-- The body of this function begins, where the function is called in this world: an operation is taken, a
-- level is left, there are not too many parameters, and memory is not out at the mark before the frame.
abbrev pub IsEntered : {S : Type 0} → Setup S → Function → World S → Type 0
IsEntered m g w = IsTaken m w × (w.level < m.engine.limits.levels)
    × (length g.params ≤ m.engine.limits.variables)
    × (is_stop m.stop (w.passed + 1 + 1 + 1) ≡ false)

-- The world in which the body of a function on these arguments begins, where the function is called in
-- the world w: an operation is counted, of which the host has heard, and the scope is the function's own,
-- one level up.
abbrev pub body_begins : {S : Type 0} → Setup S → Function → List Held → World S → World S
body_begins m g args w = record w {
  passed = w.passed + 1 + 1 + 1 + 1;
  count = w.count + 1;
  host = m.law.progress_after w.host (w.count + 1);
  scope = bound m.program g.params args;
  level = w.level + 1;
}

-- the call that the host asked for where it answered a native's call
abbrev pub first_asked : {S : Type 0} → Setup S → Question S → Native → Frame → ℕ → FnPtr →
    List Tree → Callback
first_asked m q n f token p values = record {
  receiver = receiver_left m.law q.world.host n.key (trees_in q.args) q.lent;
  frame = f;
  token = token;
  pointer = p;
  values = values;
}

module _ {S : Type 0} (m : Setup S) where
  -- the call that was asked for ended so, and left this world
  abbrev pub BackEnds : Callback → World S → Answer → World S → Type 0
  BackEnds c w a u = Ends m (called_back m End c w) a u

  -- What the host hears of the call, and the world then: the value as it is read, or the fault that it is a
  -- lent cell, or the call's own fault.
  pub data HearsOf (c : Callback) (w : World S) : Outcome → World S → Type 0 where
    of_value : {u : World S} (r v : Dynamic) → BackEnds c w (Came r) u → flat u.cells r ≡ Some v →
        HearsOf c w (Value v) u
    of_lent : {u : World S} (r : Dynamic) → BackEnds c w (Came r) u → flat u.cells r ≡ None →
        is_stop m.stop u.passed ≡ false →
        HearsOf c w (Fault (Plain (DataRace (race_text [])) (position m c.frame)))
        (record u { passed = u.passed + 1 })
    of_fault : {u : World S} (x : Problem) → BackEnds c w (Failed x) u → is_told x ≡ true →
        HearsOf c w (Fault x) u

  -- what the host then answers
  abbrev pub reply_again : Callback → Outcome → World S → Reply
  reply_again c o u = m.law.resume_reply u.host c.token o (lent_held c.receiver)

  -- the world once it has answered, after two marks
  abbrev pub answered_again_world : Callback → Outcome → World S → World S
  answered_again_world c o u =
      let r = receiver_rewritten m.law u.host c.token o c.receiver in record u {
        host = m.law.resume_after u.host c.token o (lent_held c.receiver);
        scope = scope_with r u.scope;
        roots = roots_with r u.roots;
        tokens = without_token c.token u.tokens;
        passed = u.passed + 1 + 1;
      }

  -- the next call that the host asks for
  abbrev pub next_asked : Callback → Outcome → World S → ℕ → FnPtr → List Tree → Callback
  next_asked c o u token p values = record c {
    receiver = receiver_rewritten m.law u.host c.token o c.receiver;
    token = token;
    pointer = p;
    values = values;
  }

  abbrev pub next_asked_world : Callback → Outcome → World S → ℕ → World S
  next_asked_world c o u token =
      let v = answered_again_world c o u in
      record v { tokens = with_token token v.tokens; trace = [] }

  -- the world in which a native that is called back is asked for
  abbrev pub native_begins : World S → World S
  native_begins w = record w {
    passed = w.passed + 1 + 1 + 1;
    count = w.count + 1;
    host = m.law.progress_after w.host (w.count + 1);
    level = w.level + 1;
  }

  -- A native is called back: the program has no function of the pointer's name, or natives may not call
  -- it. An operation is taken for it, a level is left, and these are its arguments as they are read. That
  -- `native` is the one that is found is said by `IsCalledBack`.
  pub record NativeBack (c : Callback) (w : World S) : Type 0 where
    pub none : function_back m.program m.engine.callbacks c ≡ None
    pub taken : IsTaken m w
    pub level : w.level < m.engine.limits.levels
    pub args : List Held
    pub reads : flat_all w.cells (arguments_back c) ≡ Some args
    pub native : Native

  abbrev pub question_back : {c : Callback} {w : World S} → NativeBack c w → Question S
  question_back {c = c} {w = w} b =
      record { world = native_begins w; name = c.pointer.name; lent = None; args = b.args }

  -- it is called, and memory is not out at the marks before and after the host's answer
  abbrev pub IsCalledBack : {c : Callback} {w : World S} → NativeBack c w → Type 0
  IsCalledBack {w = w} b = (native_asked m (question_back b) ≡ Some b.native)
      × IsCalled (question_back b) b.native
      × (is_stop m.stop (native_begins w).passed ≡ false)
      × (is_stop m.stop ((native_begins w).passed + 1) ≡ false)

  -- the world once the host has answered it and asked for a call
  abbrev pub native_asked_world : {c : Callback} {w : World S} → NativeBack c w → ℕ → World S
  native_asked_world {c = c} {w = w} b token =
      let v = native_begins w in record v {
        passed = v.passed + 1 + 1;
        host = m.law.call_after v.host b.native.key None (trees_in b.args);
        tokens = with_token token v.tokens;
      }

  -- a native that is called back asks for calls first
  pub record BackAsks (c : Callback) (w : World S) : Type 0 where
    pub back : NativeBack c w
    pub called : IsCalledBack back
    pub token : ℕ
    pub pointer : FnPtr
    pub values : List Tree
    pub asks : reply_to m (question_back back) back.native.key ≡ reply.Ask token pointer values

  -- this is the first of them, in this world
  abbrev pub back_asked : {c : Callback} {w : World S} → BackAsks c w → Callback
  back_asked {c = c} b =
      first_asked m (question_back b.back) b.back.native c.frame b.token b.pointer b.values

  abbrev pub back_start : {c : Callback} {w : World S} → BackAsks c w → World S
  back_start b = native_asked_world b.back b.token

  -- From the first call that a native asked for, in a world, the native comes to this one in this world: it
  -- is the same; or the host asks for it where it hears of one before.
  pub data AsksNext (first : Callback) (start : World S) : Callback → World S → Type 0 where
    at_first : AsksNext first start first start
    again : {c : Callback} {w u : World S} {o : Outcome} {token : ℕ} {p : FnPtr}
        {values : List Tree} → AsksNext first start c w → HearsOf c w o u →
        reply_again c o u ≡ reply.Ask token p values → is_stop m.stop u.passed ≡ false →
        is_stop m.stop (u.passed + 1) ≡ false →
        AsksNext first start (next_asked c o u token p values) (next_asked_world c o u token)

  -- the same, or a call that a native asks for which was itself called back by such a call, at any depth
  pub data AsksOn : Callback → World S → Callback → World S → Type 0 where
    of_native : {first c : Callback} {start w : World S} → AsksNext first start c w →
        AsksOn first start c w
    inside : {first c d : Callback} {start w v : World S} → AsksNext first start c w →
        (b : BackAsks c w) → AsksOn (back_asked b) (back_start b) d v → AsksOn first start d v

  -- The fault with which the native of such a call ends goes past each native that was called back on the
  -- way to the call, and stays as it is: the calls that this native asked for ended in the fault; the host is
  -- not told of such a fault; and memory is not out at the mark that follows. After want of memory there is
  -- no mark.
  abbrev pub GoesPast : {first c : Callback} {start w : World S} → AsksOn first start c w → Problem →
      Type 0
  GoesPast (of_native next) x = Unit {0}
  GoesPast (inside next b on) x = GoesPast on x × (is_told x ≡ false) × (u : World S)
      × Ends m (Go (InHost (back_asked b)) (back_start b)) (Failed x) u
      × ((no_memory x ≡ true) ⊎ (is_stop m.stop u.passed ≡ false))

  -- Why a native that asked for calls ended in this fault. One of the calls failed before its body or
  -- its native began; or the host answered the fault where it heard of a call; or the host answered it to
  -- a native that was called back, and it does not hear of such a fault. Where the call stands inside
  -- others, the fault goes past their natives.
  pub record HostFails (first : Callback) (start : World S) (x : Problem) : Type 0 where
    pub callback : Callback
    pub world : World S
    pub on : AsksOn first start callback world
    pub why : IsKeptOut m (position m callback.frame)
        (parameters (function_back m.program m.engine.callbacks callback)) world x
        ⊎ (((o : Outcome) × (u : World S) × (y : Problem) × HearsOf callback world o u
        × (reply_again callback o u ≡ reply.Failed y) × (is_stop m.stop u.passed ≡ false)
        × (is_stop m.stop (u.passed + 1) ≡ false)
        × (x ≡ at_position_if_none (position m callback.frame) y))
        ⊎ ((b : NativeBack callback world) × (y : Problem) × IsCalledBack b
        × (reply_to m (question_back b) b.native.key ≡ reply.Failed y)
        × (is_stop m.stop ((native_begins world).passed + 1 + 1) ≡ false) × (is_told x ≡ false)
        × (x ≡ at_position_if_none (position m callback.frame) y)))
    pub goes : GoesPast on x

  -- A native that asked for calls called this function back, and the function's body ran so.
  pub record RunsBack (first : Callback) (start : World S) : Type 0 where
    pub callback : Callback
    pub world : World S
    pub on : AsksOn first start callback world
    pub function : Function
    pub is : function_back m.program m.engine.callbacks callback ≡ Some function
    pub entered : IsEntered m function world

  abbrev pub body_back : {first : Callback} {start : World S} → RunsBack first start → Act S
  body_back r = Go (InFrame (frame_at r.function.chunk 0 None))
      (body_begins m r.function (arguments_back r.callback) r.world)

  -- The body of a function that was called back ended with a fault that no script may catch, and with that
  -- fault, at the native's position, the native ended. Where the call stands inside others, the fault goes
  -- past their natives.
  pub record LeavesBack (first : Callback) (start : World S) (x : Problem) : Type 0 where
    pub runs : RunsBack first start
    pub inner : Problem
    pub after : World S
    pub ends : Ends m (body_back runs) (Failed inner) after
    pub passes : catchable inner ≡ false
    pub is : x ≡ at_position (position m runs.callback.frame) inner
    pub goes : GoesPast runs.on x

  -- An instruction of a frame, which began in this world, asks the question, and the host answers by asking
  -- for a call first. `asked` is the frame as it then stands, at the same instruction and position. The
  -- frame's run comes to the call in the world that follows from the question's own: each later turn of the
  -- frame has another, since more marks are passed then.
  pub record AsksFirst (q : Question S) (n : Native) (f : Frame) (w : World S) : Type 0 where
    pub token : ℕ
    pub pointer : FnPtr
    pub values : List Tree
    pub asks : reply_to m q n.key ≡ reply.Ask token pointer values
    pub asked : Frame
    pub address : asked.address ≡ f.address
    pub position : position m asked ≡ position m f
    pub comes : Comes m (InHost (first_asked m q n asked token pointer values))
        (asking_world m n.key q.lent q.args token q.world) (Go (InFrame f) w)

  abbrev pub asked_by : {q : Question S} {n : Native} {f : Frame} {w : World S} → AsksFirst q n f w →
      Callback
  asked_by {q = q} {n = n} a = first_asked m q n a.asked a.token a.pointer a.values

  -- the world in which the call is asked for
  abbrev pub asked_in : {q : Question S} {n : Native} {f : Frame} {w : World S} → AsksFirst q n f w →
      World S
  asked_in {q = q} {n = n} a = asking_world m n.key q.lent q.args a.token q.world
