use Rattle.std.proofs.Common.{is_ok}
use Rattle.grain_host.specs.Pending.{answered}
use Rattle.grain_host.proofs.Waiting.{written_there}
use Rattle.grain_host.proofs.pending_calls.PendingCalls.answer.Goals as goal

pub returns : goal.returns
returns c =
    written_there (is_ok c.answer.result) (answered c.args.token c.args.value) c.self.inside.calls.items
    c.args.self.now c.args.place c.index_mut.result.now c.answer.new.self c.self.view_is c.requires
    c.index_mut.ensures.value c.answer.ensures
