-- How large a literal is that is being made.
use Rattle.std.specs.Prelude.{◌+◌}
use Rattle.grain_value.specs.Sizes.{Sizes, stopped}
use Rattle.grain_stack.specs.declared.totals.Total.{Total}

-- a literal that has nothing so far
abbrev pub empty_total : Total
empty_total = record { arrays = 0; maps = 0; text = 0 }

-- a literal that has this much more: each number stops at the greatest that a `usize` counts
abbrev pub grown : Sizes → Total → Total
grown s t = record {
  arrays = stopped (t.arrays + s.0);
  maps = stopped (t.maps + s.1);
  text = stopped (t.text + s.2);
}
