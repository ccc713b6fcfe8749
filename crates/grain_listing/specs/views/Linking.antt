-- How the assembler's last state becomes what the listing says.
use Rattle.std.specs.Prelude.{ℕ, ◌+◌, List, [], ◌∷◌, map, Result, Ok, Err, codes, slice_set}
use Rattle.std.specs.Int.{w32, to_le_bytes}
use Rattle.grain_program.specs.declared.code.parts.AssignOp.{AssignOp}
use Rattle.grain_program.specs.declared.code.switches.Switch.{Switch}
use Rattle.grain_words.specs.Labels.{Addresses, address_of}
use Rattle.grain_literals.specs.Steps.{and_then, present}
use Rattle.grain_literals.specs.declared.reasons.Reason.TheVariants.{UnknownLabel}
use Rattle.grain_listing.specs.Flags.{is_on}
use Rattle.grain_listing.specs.Reading.{ListingView, bad_line, limits_of, caps_of, assign_ops_of, complete}
use Rattle.grain_listing.specs.SwitchTargets.{all_known, linked_switch}
use Rattle.grain_listing.specs.views.Assembling.{AssemblerView}
use Rattle.grain_listing.specs.declared.assembler.Fixup.{Fixup}
use Rattle.grain_listing.specs.declared.table.Section.{Section}
use Rattle.grain_listing.specs.declared.reasons.BadLine.{BadLine}

-- the bytes, written over those from `at + i` on
abbrev pub write_on : ℕ → ℕ → List ℕ → List ℕ → List ℕ
write_on at i [] code = code
write_on at i (b ∷ bs) code = write_on at (i + 1) bs (slice_set code (at + i) b)

abbrev pub write_at : ℕ → List ℕ → List ℕ → List ℕ
write_at at bytes code = write_on at 0 bytes code

-- the code, in which each label has its address, the lowest byte first
abbrev pub fill : Addresses → List Fixup → List ℕ → Result (List ℕ) BadLine
fill labels [] code = Ok code
fill labels (f ∷ fs) code = and_then
    (present (bad_line f.line UnknownLabel) (address_of f.label labels))
    (λ a. fill labels fs (write_at f.at (to_le_bytes w32 a) code))

-- what the assembler has, with these op-assignments, these switches and this code
abbrev pub set_up : AssemblerView → List AssignOp → List Switch → List ℕ → ListingView
set_up v assign_ops switches code =
    record {
      parts = record {
        caps = caps_of v.caps;
        code = code;
        main = v.main;
        functions = v.functions;
        consts = v.consts;
        names = v.names;
        tokens = v.tokens;
        assign_ops = assign_ops;
        chains = v.chains;
        switches = switches;
        positions = v.positions;
        source = v.source;
      };
      limits = limits_of v.limits;
      fast_operators = is_on (codes "operators") v.flags;
      strict_properties = is_on (codes "strict") v.flags;
      host = v.host;
      scope = v.scope;
    }

abbrev pub filled : AssemblerView → List AssignOp → List Switch → Result ListingView BadLine
filled v assign_ops switches =
    and_then (fill v.labels v.fixups v.code) (λ code. Ok (set_up v assign_ops switches code))

-- the same, with the assembler's own switches, once the labels of their aims are known
abbrev pub linked : AssemblerView → List AssignOp → Result ListingView BadLine
linked v assign_ops =
    and_then (all_known (λ t. address_of t v.labels) v.aims) (λ _.
    filled v assign_ops (map (linked_switch (λ t. address_of t v.labels)) v.switches))

-- after the last line, the nth
abbrev pub finish : ℕ → Section → AssemblerView → List AssignOp → Result ListingView BadLine
finish n section v assign_ops = complete n section (linked v assign_ops)

abbrev pub ending : ℕ → AssemblerView → Result ListingView BadLine
ending n v = and_then (assign_ops_of v.tokens v.assigns)
    (λ assign_ops. finish n v.section v assign_ops)

-- a step on the code, with what it left where it was not refused
abbrev pub left : {A E : Type 0} → Result A E → List ℕ → Result (List ℕ) E
left (Ok x) code = Ok code
left (Err e) code = Err e
