-- An assembler as lists and numbers.
use Rattle.std.specs.Prelude.{ℕ, List, Result, Ok, Err}
use Rattle.std.specs.Borrow.{Bor}
use Rattle.grain_literals.specs.declared.reasons.Reason.{Reason}
use Rattle.grain_listing.specs.views.Limits.{limits_view}
use Rattle.grain_listing.specs.views.Flags.{names_view}
use Rattle.grain_listing.specs.views.Assembling.{AssemblerView}
use Rattle.grain_listing.specs.declared.assembler.Assembler.{Assembler}

abbrev pub assembler_view : Assembler → AssemblerView
assembler_view a =
    record {
      line = a.line;
      section = a.section;
      caps = a.caps;
      source = a.source;
      limits = limits_view a.limits.items;
      flags = names_view a.flags.items;
      host = a.host;
      scope = a.scope;
      consts = a.consts;
      names = a.names;
      tokens = a.tokens;
      assigns = a.assigns.items;
      chains = a.chains;
      switches = a.switches;
      aims = a.aims;
      follows = a.follows;
      block = a.block;
      main = a.main;
      functions = a.functions;
      code = a.code.items;
      positions = a.positions;
      labels = a.labels;
      fixups = a.fixups.items;
    }

-- what a step answered, with what it left where it was not refused
abbrev pub result_view : {A : Type 0} → Result A Reason → AssemblerView →
    Result AssemblerView Reason
result_view (Ok x) v = Ok v
result_view (Err e) v = Err e

-- what a step left of its line, beside what it left of the assembler
abbrev pub rest_view : Result (Bor (List ℕ)) Reason → AssemblerView →
    Result (AssemblerView × List ℕ) Reason
rest_view (Ok rest) v = Ok (v, rest.now)
rest_view (Err e) v = Err e
