-- An operator is done on the two integers that are loaded, and a comparison with the branch after it.
use Rattle.std.proofs.Common.{rules, ◌≡◌, ◌≤◌, ◌+◌, ◌++◌, ◌∷◌, [], true, inl, inr, length, arith, w64, FitsSigned}
use Rattle.std.proofs.lemmas.Int.{to_z-of_z}
use Rattle.grain_value.specs.declared.values.Dynamic.TheVariants as dynamic
use Rattle.grain_value.specs.Operands.{read_write}
use Rattle.grain_frame.specs.Abstraction.{moved, marked_once}
use Rattle.grain_frame.specs.Following.{loaded, judged, begun_behind}
use Rattle.grain_frame.proofs.Branching.{answers}
use Rattle.grain_frame.proofs.Loading.{gives_int}
use Rattle.grain_frame.proofs.Paired.{length_both, answered_int}
use Rattle.grain_frame.proofs.Tried.{tried}
use Rattle.grain_frame.proofs.two_loads.pair_operated.Goals as goal

pub returns-else-not-push_int-clause-performs : goal.returns-else-not-push_int-clause-performs
returns-else-not-push_int-clause-performs g c =
    let p = c.args.context.program.now in
    let e = c.args.context.engine.now in
    let f = moved c.args.frame.now c.args.at in
    let x = c.args.first in
    let y = c.args.second in
    let x_fits : FitsSigned w64 x = search rules in
    let y_fits : FitsSigned w64 y = search rules in
    let r = c.in-Int.z in
    let r_fits : FitsSigned w64 r = search rules in
    let s = loaded (loaded c.args.run.now x) y in
    let next = c.args.at + c.args.width in
    let is : c.args.count ≡ 2 = c.in-Int.ensures.two tt in
    let two : 2 ≤ length s.stacks.operands = omega (arith, length_both c.args.run.now x y) in
    let done : c.push_int.result ≡ true = search rules in
    let put : c.push_int.new.self ≡ record c.args.run.now.stacks {
      operands = c.args.run.now.stacks.operands ++ read_write (dynamic.Int r) ∷ [];
    } =
    rw (done, to_z-of_z w64 r r_fits) at c.push_int.ensures in
    λ host. inl (rw (c.mark.ensures, c.begin_behind-in-Int.ensures, c.begin_behind.ensures, put)
    (rw (answered_int c.args.run.now x y r) at
    (gives_int g.H.Host.law p e f s y c.args.name c.args.count c.args.token next
    (begun_behind (begun_behind c.args.steps.now)) host r c.requires.ready is two
    (rw (to_z-of_z w64 x x_fits, to_z-of_z w64 y y_fits) at (c.in-Int.ensures.readable tt))
    (rw (to_z-of_z w64 x x_fits, to_z-of_z w64 y y_fits) at c.in-Int.ensures.agrees))))

pub returns-in-Bool-clause-performs : goal.returns-in-Bool-clause-performs
returns-in-Bool-clause-performs g c =
    let p = c.args.context.program.now in
    let e = c.args.context.engine.now in
    let f = moved c.args.frame.now c.args.at in
    let x = c.args.first in
    let y = c.args.second in
    let x_fits : FitsSigned w64 x = search rules in
    let y_fits : FitsSigned w64 y = search rules in
    let s = loaded (loaded c.args.run.now x) y in
    let truth = c.in-Bool.truth in
    let next = c.args.at + c.args.width in
    let is : c.args.count ≡ 2 = c.in-Bool.ensures.two tt in
    let two : 2 ≤ length s.stacks.operands = omega (arith, length_both c.args.run.now x y) in
    tried c.pair_branch.result
    (rw (to_z-of_z w64 x x_fits, to_z-of_z w64 y y_fits) at c.pair_branch.ensures.stepped)
    (λ steps host. inr (record {
      frame = moved f next;
      run = judged s truth;
      counts = marked_once (begun_behind (begun_behind c.args.steps.now));
      first = answers g.H.Host.law p e f s truth c.args.name c.args.count c.args.token next
          (begun_behind (begun_behind c.args.steps.now)) host c.requires.ready is two
          (rw (to_z-of_z w64 x x_fits, to_z-of_z w64 y y_fits) at (c.in-Bool.ensures.readable tt))
          (rw (to_z-of_z w64 x x_fits, to_z-of_z w64 y y_fits) at c.in-Bool.ensures.agrees);
      second = steps host;
    }))
