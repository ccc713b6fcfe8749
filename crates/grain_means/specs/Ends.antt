-- How a run ends: the one relation, of three rules.
use Rattle.grain_means.specs.Worlds.{Act, Go, End, Then, Answer, World, Setup, Todo}
use Rattle.grain_means.specs.Rules.{next}

pub data Ends {S : Type 0} (m : Setup S) : Act S → Answer → World S → Type 0 where
  ended : {a : Answer} {w : World S} → Ends m (End a w) a w
  went : {t : Todo} {w v : World S} {a : Answer} → Ends m (next m t w) a v → Ends m (Go t w) a v
  joined : {first : Act S} {rest : Answer → World S → Act S} {b a : Answer} {w v : World S} →
      Ends m first b w → Ends m (rest b w) a v → Ends m (Then first rest) a v
