-- The second load is what its rule says, and what stands after it is done from where it would have left
-- the frame.
use Rattle.std.proofs.Common.{rules, ◌≡◌, inr, w64, FitsSigned}
use Rattle.std.proofs.lemmas.Int.{to_z-of_z}
use Rattle.grain_value.specs.declared.values.Dynamic.TheVariants as dynamic
use Rattle.grain_program.specs.View.{const_of}
use Rattle.grain_frame.specs.Abstraction.{moved, marked_once}
use Rattle.grain_frame.specs.Following.{loaded, begun_behind}
use Rattle.grain_frame.proofs.Loading.{loads_const}
use Rattle.grain_frame.proofs.Tried.{tried}
use Rattle.grain_frame.proofs.two_loads.const_loaded.Goals as goal

pub returns-in-Int-clause-performs : goal.returns-in-Int-clause-performs
returns-in-Int-clause-performs g c =
    let p = c.args.context.program.now in
    let e = c.args.context.engine.now in
    let f = moved c.args.frame.now c.args.at in
    let x = c.args.first in
    let y = c.in-Int.second in
    let is : const_of p c.args.constant ≡ dynamic.Int y = search rules in
    let x_fits : FitsSigned w64 x = search rules in
    let y_fits : FitsSigned w64 y = search rules in
    tried c.pair_loaded.result
    (rw (to_z-of_z w64 x x_fits, to_z-of_z w64 y y_fits) at c.pair_loaded.ensures.stepped)
    (λ steps host. inr (record {
      frame = moved f c.args.next;
      run = loaded (loaded c.args.run.now x) y;
      counts = marked_once (begun_behind c.args.steps.now);
      first = loads_const g.H.Host.law p e f (loaded c.args.run.now x) y c.args.constant c.args.next
          (begun_behind c.args.steps.now) host c.requires.ready is;
      second = steps host;
    }))
