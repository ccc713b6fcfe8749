use Rattle.std.proofs.Common.{◌+◌, [], ℕ, List, subst, arith}
use Rattle.grain_value.specs.Tree.{Tree}
use Rattle.grain_value.specs.declared.values.Dynamic.{Dynamic}
use Rattle.grain_value.specs.declared.values.Dynamic.TheVariants as dynamic
use Rattle.grain_chain.specs.Going.{Goes, Needs}
use Rattle.grain_chain.specs.declared.walks.Walk.{Walk}
use Rattle.grain_chain.specs.declared.origins.Awaited.TheVariants as awaited
use Rattle.grain_chain.proofs.Stepping.{needs_more}
use Rattle.grain_chain.specs.Standings.{Standing}
use Rattle.grain_chain.specs.Walking.{steps_left, ending_in}
use Rattle.grain_chain.specs.declared.origins.Ending.{Ending}
use Rattle.grain_chain.proofs.Stepping.{ahead}
use Rattle.grain_chain.proofs.Ends.{settled, settled_needs}
use Rattle.std.specs.declared.alloc.Global.{Global}
use Rattle.grain_fault.specs.declared.places.Position.{Position}
use Rattle.grain_chain.specs.declared.contexts.Context.{Context}
use Rattle.grain_chain.specs.laws.Told.{start_rooted}
use Rattle.grain_program.specs.View.{chain_of}
use Rattle.grain_chain.proofs.walks.Walk.start.Goals as goal

-- the walk as it begins
abbrev beginning : Global → ℕ → List Tree → Dynamic → Position → Standing → Ending → Walk
beginning alloc k operands d q t e = record {
  trail = t;
  step = 0;
  awaits = awaited.IndexSet;
  gives = dynamic.Unit;
  alloc = alloc;
  chain = k;
  operands = operands;
  ending = e;
  value = d;
  pos = q;
  marks = 0;
}

pub returns-clause-did : goal.returns-clause-did
returns-clause-did c =
    let x : Context = record { engine = c.args.engine; program = c.args.program; cells = c.args.cells } in
    let p = c.args.program.now in
    let s0 : Standing = record { outer = []; here = c.args.root; path = [] } in
    let e0 = ending_in p ((chain_of p c.args.chain).tail) in
    let one = subst (λ (t : Standing). let w : Walk = beginning c.args.alloc c.args.chain c.args.operands
    c.args.value c.args.pos t c.ending_of.result in
    Goes x w (ahead x w) c.advance-went.result c.advance-went.new.self) c.new.ensures
    c.advance-went.ensures.goes in
    let two = subst (λ (e : Ending). let w : Walk = beginning c.args.alloc c.args.chain c.args.operands
    c.args.value c.args.pos s0 e in
    Goes x w (ahead x w) c.advance-went.result c.advance-went.new.self) c.ending_of.ensures one in
    settled x (beginning c.args.alloc c.args.chain c.args.operands c.args.value c.args.pos s0 e0)
    c.advance-went.new.self c.settle-answer.new.self _ c.advance-went.result c.settle-answer.result two
    c.settle-answer.ensures

pub returns-clause-falls : goal.returns-clause-falls
returns-clause-falls c =
    let x : Context = record { engine = c.args.engine; program = c.args.program; cells = c.args.cells } in
    let p = c.args.program.now in
    let need = subst (λ (t : Standing). Needs p c.advance-went.new.self c.advance-went.result
    (steps_left p (beginning c.args.alloc c.args.chain c.args.operands c.args.value c.args.pos t
    c.ending_of.result) + 3)) c.new.ensures c.advance-went.ensures.needs in
    settled_needs p c.advance-went.new.self c.settle-answer.new.self c.advance-went.result
    c.settle-answer.result _
    (needs_more p c.advance-went.new.self c.advance-went.result _ _ need (omega arith))
    c.settle-answer.ensures

pub returns-clause-rooted : goal.returns-clause-rooted
returns-clause-rooted c =
    start_rooted c.args.engine.now c.args.program.now c.args.cells.now c.args.root _
    c.settle-answer.new.self c.settle-answer.result (returns-clause-did c)
