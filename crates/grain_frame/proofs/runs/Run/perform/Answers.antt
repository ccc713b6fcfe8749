-- What each instruction's method did is a turn of the frame.
use Rattle.std.proofs.Common.{◌∷◌, [], ◌-◌, ◌+◌, refl, length, Some, None}
use Rattle.grain_means.specs.Rules.{flattened, onward, pushed, stepped}
use Rattle.grain_frame.specs.Handling.{armed, around}
use Rattle.grain_frame.specs.lemmas.Arms.{arm, arm_with, verified}
use Rattle.grain_frame.specs.lemmas.Looping.{arm_loop}
use Rattle.grain_frame.specs.lemmas.Bound.{arm_bound, reads_bound}
use Rattle.grain_frame.proofs.Handled.{one_tried, outer_tried, outer_above, some_tried}
use Rattle.grain_frame.proofs.runs.Run.perform.Goals as goal

pub unreachable-requires : goal.unreachable-requires
unreachable-requires g c =
    (rw c.in-AssignLocalOp.is at c.requires.asks_nothing).0 c.in-AssignLocalOp.field-0
    c.in-AssignLocalOp.field-1 c.in-AssignLocalOp.field-2 refl

pub unreachable-requires-in-AssignThisOp : goal.unreachable-requires-in-AssignThisOp
unreachable-requires-in-AssignThisOp g c =
    (rw c.in-AssignThisOp.is at c.requires.asks_nothing).1 c.in-AssignThisOp.field-0 refl

pub unreachable-requires-in-Call : goal.unreachable-requires-in-Call
unreachable-requires-in-Call g c =
    (rw c.in-Call.is at c.requires.calls_nothing).0 c.in-Call.field-0 c.in-Call.field-1 refl

pub unreachable-requires-in-CallOp : goal.unreachable-requires-in-CallOp
unreachable-requires-in-CallOp g c =
    (rw c.in-CallOp.is at c.requires.asks_nothing).2 c.in-CallOp.field-0 c.in-CallOp.field-1
    c.in-CallOp.field-2 refl

pub unreachable-requires-in-CallFnPtr : goal.unreachable-requires-in-CallFnPtr
unreachable-requires-in-CallFnPtr g c =
    (rw c.in-CallFnPtr.is at c.requires.calls_nothing).1 c.in-CallFnPtr.field-0 refl

pub unreachable-requires-in-CallFnPtrMethod : goal.unreachable-requires-in-CallFnPtrMethod
unreachable-requires-in-CallFnPtrMethod g c =
    (rw c.in-CallFnPtrMethod.is at c.requires.runs_no_method).1 c.in-CallFnPtrMethod.field-0 refl

pub unreachable-requires-in-CallFnPtrOnLocal : goal.unreachable-requires-in-CallFnPtrOnLocal
unreachable-requires-in-CallFnPtrOnLocal g c =
    (rw c.in-CallFnPtrOnLocal.is at c.requires.runs_no_method).2 c.in-CallFnPtrOnLocal.field-0
    c.in-CallFnPtrOnLocal.field-1 refl

pub unreachable-requires-in-CallFnPtrOnThis : goal.unreachable-requires-in-CallFnPtrOnThis
unreachable-requires-in-CallFnPtrOnThis g c =
    (rw c.in-CallFnPtrOnThis.is at c.requires.runs_no_method).3 c.in-CallFnPtrOnThis.field-0 refl

pub unreachable-requires-in-Chain : goal.unreachable-requires-in-Chain
unreachable-requires-in-Chain g c =
    (rw c.in-Chain.is at c.requires.runs_no_method).0 c.in-Chain.field-0 refl

pub unreachable-requires-in-InterpolateAppend : goal.unreachable-requires-in-InterpolateAppend
unreachable-requires-in-InterpolateAppend g c =
    (rw c.in-InterpolateAppend.is at c.requires.asks_nothing).3 refl

pub returns-in-LoadConst : goal.returns-in-LoadConst
returns-in-LoadConst g c = record {
  stepped = arm c.in-LoadConst.is refl refl c.requires.stands c.requires.runs
      (c.load_const.ensures.performs c.args.host.now);
}

pub returns-in-Unit : goal.returns-in-Unit
returns-in-Unit g c = record {
  stepped = arm c.in-Unit.is refl refl c.requires.stands c.requires.runs
      (c.push_on.ensures.implements c.args.context.program.now c.args.context.engine.now
      c.args.host.now);
}

pub returns-in-False : goal.returns-in-False
returns-in-False g c = record {
  stepped = arm c.in-False.is refl refl c.requires.stands c.requires.runs
      (c.push_on-in-False.ensures.implements c.args.context.program.now c.args.context.engine.now
      c.args.host.now);
}

pub returns-in-True : goal.returns-in-True
returns-in-True g c = record {
  stepped = arm c.in-True.is refl refl c.requires.stands c.requires.runs
      (c.push_on-in-True.ensures.implements c.args.context.program.now c.args.context.engine.now
      c.args.host.now);
}

pub returns-in-LoadLocal : goal.returns-in-LoadLocal
returns-in-LoadLocal g c = record {
  stepped = arm c.in-LoadLocal.is refl refl c.requires.stands c.requires.runs
      (c.load_local.ensures.performs c.args.host.now);
}

pub returns-in-StoreLocal : goal.returns-in-StoreLocal
returns-in-StoreLocal g c = record {
  stepped = arm c.in-StoreLocal.is refl refl c.requires.stands c.requires.runs
      (c.store.ensures.implements c.args.host.now);
}

pub returns-in-StoreConst : goal.returns-in-StoreConst
returns-in-StoreConst g c = record {
  stepped = arm c.in-StoreConst.is refl refl c.requires.stands c.requires.runs
      (c.store-in-StoreConst.ensures.implements c.args.host.now);
}

pub returns-in-DeclareLocal : goal.returns-in-DeclareLocal
returns-in-DeclareLocal g c = record {
  stepped = arm c.in-DeclareLocal.is refl refl c.requires.stands c.requires.runs
      (c.declare.ensures.implements c.args.host.now);
}

pub returns-in-DeclareConst : goal.returns-in-DeclareConst
returns-in-DeclareConst g c = record {
  stepped = arm c.in-DeclareConst.is refl refl c.requires.stands c.requires.runs
      (c.declare-in-DeclareConst.ensures.implements c.args.host.now);
}

pub returns-in-AssignLocal : goal.returns-in-AssignLocal
returns-in-AssignLocal g c = record {
  stepped = arm_bound c.in-AssignLocal.is refl refl c.requires.stands c.requires.runs
      (c.assign_local.ensures.performs c.args.host.now);
}

pub returns-in-LoadThis : goal.returns-in-LoadThis
returns-in-LoadThis g c = record {
  stepped = arm_bound c.in-LoadThis.is refl refl c.requires.stands c.requires.runs
      (reads_bound
      (λ m at w h. flattened m h [] at w (λ v. pushed m at c.args.next at.operands v w))
      (c.load_this.ensures.implements c.args.host.now));
}

pub returns-in-LoadThisShared : goal.returns-in-LoadThisShared
returns-in-LoadThisShared g c = record {
  stepped = arm_bound c.in-LoadThisShared.is refl refl c.requires.stands c.requires.runs
      (reads_bound
      (λ m at w h. pushed m at c.args.next at.operands h.value w)
      (c.load_this_shared.ensures.implements c.args.host.now));
}

pub returns-in-RequireThis : goal.returns-in-RequireThis
returns-in-RequireThis g c = record {
  stepped = arm_bound c.in-RequireThis.is refl refl c.requires.stands c.requires.runs
      (reads_bound
      (λ m at w h. onward m at (stepped at c.args.next at.operands) w)
      (c.require_this.ensures.implements c.args.host.now));
}

pub returns-in-AssignThis : goal.returns-in-AssignThis
returns-in-AssignThis g c = record {
  stepped = arm_bound c.in-AssignThis.is refl refl c.requires.stands c.requires.runs
      (c.assign_this.ensures.performs c.args.host.now);
}

pub returns-in-Pop : goal.returns-in-Pop
returns-in-Pop g c = record {
  stepped = arm c.in-Pop.is refl refl c.requires.stands c.requires.runs
      (c.pop_on.ensures.performs c.args.context.program.now c.args.context.engine.now
      c.args.host.now);
}

pub returns-in-Rotate : goal.returns-in-Rotate
returns-in-Rotate g c = record {
  stepped = arm c.in-Rotate.is refl refl c.requires.stands c.requires.runs
      (c.rotate.ensures.performs c.args.context.program.now c.args.context.engine.now
      c.args.host.now);
}

pub returns-in-Jump : goal.returns-in-Jump
returns-in-Jump g c = record {
  stepped = arm c.in-Jump.is refl refl c.requires.stands c.requires.runs
      c.jump_to.ensures.implements;
}

pub returns-in-JumpIfFalse : goal.returns-in-JumpIfFalse
returns-in-JumpIfFalse g c = record {
  stepped = arm c.in-JumpIfFalse.is refl refl c.requires.stands c.requires.runs
      c.jump_if.ensures.implements;
}

pub returns-in-JumpIfTrue : goal.returns-in-JumpIfTrue
returns-in-JumpIfTrue g c = record {
  stepped = arm c.in-JumpIfTrue.is refl refl c.requires.stands c.requires.runs
      c.jump_if-in-JumpIfTrue.ensures.implements;
}

pub returns-in-SkipIfNotUnit : goal.returns-in-SkipIfNotUnit
returns-in-SkipIfNotUnit g c = record {
  stepped = arm c.in-SkipIfNotUnit.is refl refl c.requires.stands c.requires.runs
      c.skip_if_not_unit.ensures.performs;
}

pub returns-in-UnwindTo : goal.returns-in-UnwindTo
returns-in-UnwindTo g c = record {
  stepped = arm c.in-UnwindTo.is refl refl c.requires.stands c.requires.runs
      (c.unwind_to.ensures.performs c.args.host.now);
}

pub returns-in-Tick : goal.returns-in-Tick
returns-in-Tick g c = record {
  stepped = arm c.in-Tick.is refl refl c.requires.stands c.requires.runs
      c.tick.ensures.performs;
}

pub returns-in-Checkpoint : goal.returns-in-Checkpoint
returns-in-Checkpoint g c = record {
  stepped = arm c.in-Checkpoint.is refl refl c.requires.stands c.requires.runs
      (c.checkpoint.ensures.performs c.args.context.program.now c.args.context.engine.now
      c.args.host.now);
}

pub returns-in-Statement : goal.returns-in-Statement
returns-in-Statement g c = record {
  stepped = arm c.in-Statement.is refl refl c.requires.stands c.requires.runs
      (c.go_on.ensures.implements c.args.context.program.now c.args.context.engine.now
      c.args.host.now);
}

pub returns-in-Throw : goal.returns-in-Throw
returns-in-Throw g c = record {
  stepped = arm c.in-Throw.is refl refl c.requires.stands c.requires.runs
      (c.throw.ensures.performs c.args.host.now);
}

pub returns-in-Return : goal.returns-in-Return
returns-in-Return g c = record {
  stepped = arm c.in-Return.is refl refl c.requires.stands c.requires.runs
      (c.return_value.ensures.performs c.args.context.program.now c.args.context.engine.now
      c.args.host.now);
}

pub returns-in-LoadShared : goal.returns-in-LoadShared
returns-in-LoadShared g c = record {
  stepped = arm c.in-LoadShared.is refl refl c.requires.stands c.requires.runs
      (c.load_shared.ensures.performs c.args.host.now);
}

pub returns-in-Share : goal.returns-in-Share
returns-in-Share g c = record {
  stepped = arm c.in-Share.is refl refl c.requires.stands c.requires.runs
      (c.share.ensures.performs c.args.host.now);
}

pub returns-in-IsShared : goal.returns-in-IsShared
returns-in-IsShared g c = record {
  stepped = arm c.in-IsShared.is refl refl c.requires.stands c.requires.runs
      (c.is_shared.ensures.performs c.args.context.program.now c.args.context.engine.now
      c.args.host.now);
}

pub returns-in-MakeClosure : goal.returns-in-MakeClosure
returns-in-MakeClosure g c = record {
  stepped = arm c.in-MakeClosure.is refl refl c.requires.stands c.requires.runs
      (c.make_closure.ensures.performs c.args.host.now);
}

pub returns-in-Curry : goal.returns-in-Curry
returns-in-Curry g c = record {
  stepped = arm c.in-Curry.is refl refl c.requires.stands c.requires.runs
      (c.curry.ensures.performs c.args.host.now);
}

pub returns-in-StoreShared : goal.returns-in-StoreShared
returns-in-StoreShared g c = record {
  stepped = arm c.in-StoreShared.is refl refl c.requires.stands c.requires.runs
      (rw c.top.ensures at (c.store-in-StoreShared.ensures.implements c.args.host.now));
}

pub returns-in-PushHandler : goal.returns-in-PushHandler
returns-in-PushHandler g c =
    let s = c.args.self.now in
    record {
      stepped = arm_with c.in-PushHandler.is refl
          (armed c.in-PushHandler.target None s ∷ s.stacks.handlers)
          (one_tried c.in-PushHandler.target None s)
          (c.requires.runs.inside, c.requires.runs.above) c.requires.stands c.requires.runs
          (c.push_handler.ensures.implements c.args.context.program.now c.args.context.engine.now
          c.args.host.now);
    }

pub returns-in-PushHandlerVar : goal.returns-in-PushHandlerVar
returns-in-PushHandlerVar g c =
    let s = c.args.self.now in
    let name = c.in-PushHandlerVar.name in
    record {
      stepped = arm_with c.in-PushHandlerVar.is refl
          (armed c.in-PushHandlerVar.target (Some name) s ∷ s.stacks.handlers)
          (one_tried c.in-PushHandlerVar.target (Some name) s)
          (c.requires.runs.inside, c.requires.runs.above) c.requires.stands c.requires.runs
          (rw c.from.ensures at (c.push_handler-in-PushHandlerVar.ensures.implements
          c.args.context.program.now c.args.context.engine.now c.args.host.now));
    }

pub pop_handler-requires-clause-there : goal.pop_handler-requires-clause-there
pop_handler-requires-clause-there g c =
    some_tried c.args.self.now.stacks.handlers
    (verified c.in-PopHandler.is c.requires.stands).handler

pub returns-in-PopHandler : goal.returns-in-PopHandler
returns-in-PopHandler g c =
    let s = c.args.self.now in
    record {
      stepped = arm_with c.in-PopHandler.is refl (around s.stacks.handlers)
          (outer_tried (length s.stacks.operands - 0 + 0) (length s.stacks.cursors)
          s.stacks.handlers)
          (outer_above c.args.frame.now.base s.stacks.handlers c.requires.runs.above)
          c.requires.stands c.requires.runs
          (c.pop_handler.ensures.implements c.args.context.program.now c.args.context.engine.now
          c.args.host.now);
    }

pub returns-in-Switch : goal.returns-in-Switch
returns-in-Switch g c = record {
  stepped = arm c.in-Switch.is refl refl c.requires.stands c.requires.runs
      c.switch_on.ensures.performs;
}

pub returns-in-IterInit : goal.returns-in-IterInit
returns-in-IterInit g c = record {
  stepped = arm_loop c.in-IterInit.is c.requires.stands c.requires.runs
      (c.iter_init.ensures.performs c.args.host.now);
}

pub iter_drop-requires-clause-there : goal.iter_drop-requires-clause-there
iter_drop-requires-clause-there g c = (verified c.in-IterDrop.is c.requires.stands).cursor

pub returns-in-IterDrop : goal.returns-in-IterDrop
returns-in-IterDrop g c = record {
  stepped = arm_loop c.in-IterDrop.is c.requires.stands c.requires.runs
      (c.iter_drop.ensures.performs c.args.context.program.now c.args.context.engine.now
      c.args.host.now);
}

pub iter_next-requires-clause-there : goal.iter_next-requires-clause-there
iter_next-requires-clause-there g c = (verified c.in-IterNext.is c.requires.stands).cursor

pub returns-in-IterNext : goal.returns-in-IterNext
returns-in-IterNext g c = record {
  stepped = arm_loop c.in-IterNext.is c.requires.stands c.requires.runs
      c.iter_next.ensures.implements;
}

pub iter_next-requires-in-IterNextIndexed-clause-there :
    goal.iter_next-requires-in-IterNextIndexed-clause-there
iter_next-requires-in-IterNextIndexed-clause-there g c =
    (verified c.in-IterNextIndexed.is c.requires.stands).cursor

pub returns-in-IterNextIndexed : goal.returns-in-IterNextIndexed
returns-in-IterNextIndexed g c = record {
  stepped = arm_loop c.in-IterNextIndexed.is c.requires.stands c.requires.runs
      c.iter_next-in-IterNextIndexed.ensures.implements;
}

pub returns-in-MakeFnPtr : goal.returns-in-MakeFnPtr
returns-in-MakeFnPtr g c = record {
  stepped = arm c.in-MakeFnPtr.is refl refl c.requires.stands c.requires.runs
      (c.make_fn_ptr.ensures.performs c.args.host.now);
}

pub returns-in-MakeArray : goal.returns-in-MakeArray
returns-in-MakeArray g c = record {
  stepped = arm c.in-MakeArray.is refl refl c.requires.stands c.requires.runs
      (c.make_array.ensures.performs c.args.host.now);
}

pub returns-in-MakeMap : goal.returns-in-MakeMap
returns-in-MakeMap g c = record {
  stepped = arm c.in-MakeMap.is refl refl c.requires.stands c.requires.runs
      (c.make_map.ensures.performs c.args.host.now);
}

pub returns-in-CheckArraySize : goal.returns-in-CheckArraySize
returns-in-CheckArraySize g c = record {
  stepped = arm c.in-CheckArraySize.is refl refl c.requires.stands c.requires.runs
      (c.check_array_size.ensures.performs c.args.host.now);
}

pub returns-in-CheckMapSize : goal.returns-in-CheckMapSize
returns-in-CheckMapSize g c = record {
  stepped = arm c.in-CheckMapSize.is refl refl c.requires.stands c.requires.runs
      (c.check_map_size.ensures.performs c.args.host.now);
}

pub returns-in-InterpolateStart : goal.returns-in-InterpolateStart
returns-in-InterpolateStart g c = record {
  stepped = arm c.in-InterpolateStart.is refl refl c.requires.stands c.requires.runs
      (c.interpolate_start.ensures.performs c.args.context.program.now c.args.context.engine.now
      c.args.host.now);
}

pub returns-in-InterpolateEnd : goal.returns-in-InterpolateEnd
returns-in-InterpolateEnd g c = record {
  stepped = arm c.in-InterpolateEnd.is refl refl c.requires.stands c.requires.runs
      (c.interpolate_end.ensures.performs c.args.host.now);
}
