use Rattle.std.proofs.Common.{rules, refl}
use Rattle.grain_frame.specs.lemmas.Arms.{kept_write}
use Rattle.grain_frame.proofs.quick_forms.quick_assign.Goals as goal

pub returns-in-Some-quick_assigned-clause-performs :
    goal.returns-in-Some-quick_assigned-clause-performs
returns-in-Some-quick_assigned-clause-performs g c =
    λ host. record {
      same = search rules;
      kept = kept_write c.args.frame.now _ c.args.run.now
          c.drop_top.new.self _ c.set_int.new.self _ _ refl refl c.drop_top.ensures
          c.set_int.ensures
          c.requires.ready.inside;
      lands = search rules;
      before = search rules;
    }
