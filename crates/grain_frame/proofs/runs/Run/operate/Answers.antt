-- The operands that are given are the last ones.
use Rattle.std.proofs.Common.{◌≡◌, ◌∙◌, true, ap, rules}
use Rattle.grain_program.specs.View.{token_of}
use Rattle.grain_frame.proofs.Flattening.{last_read}
use Rattle.grain_frame.proofs.runs.Run.operate.Goals as goal

pub returns : goal.returns
returns g c = λ args is.
    let p = c.args.context.program.now in
    let s = c.args.self.now in
    let fast : c.args.context.engine.now.fast_operators ≡ true = search rules in
    let token : c.token-token.result ≡ token_of p c.args.token =
    c.token-token.ensures ∙ ap (token_of p) c.from.ensures in
    rw (fast, ← token) (c.operate.ensures args (last_read s.cells c.args.count s.stacks.operands
    c.frame_operands-operands.result.now args c.frame_operands-operands.ensures is))
