use Rattle.std.proofs.Common.{◌≡◌, ◌++◌, ◌&&◌, drop}
use Rattle.grain_program.specs.View.{view_of}
use Rattle.grain_addresses.specs.Replies.{stock_of, answers_text, are_begun}
use Rattle.grain_addresses.proofs.answers.push_answers.Given as goal

abbrev pub invariant-loop-query : goal.invariant-loop-query
invariant-loop-query l = record {
  text : l.out ++
      answers_text (stock_of (view_of l.parts) l.places l.steps) (drop l.query-index l.queries) ≡
      l.initial.out ++ answers_text (stock_of (view_of l.parts) l.places l.steps) l.queries;
  begun : (l.all &&
      are_begun (stock_of (view_of l.parts) l.places l.steps) (drop l.query-index l.queries)) ≡
      are_begun (stock_of (view_of l.parts) l.places l.steps) l.queries;
}
