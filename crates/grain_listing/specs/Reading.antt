-- What a listing says. It is lines; each says something after those before it; and what they say
-- makes the parts of a program, the limits of its run, two flags and a host for it, and the scope
-- in which it begins.
use Rattle.std.specs.Prelude.{ℕ, ◌+◌, Bool, List, [], ◌∷◌, length, map, take, count_by, Option, Some, None, Result, Ok, Err, ◌==◌, nat_lt, if◌then◌else◌, slice_get, chars, codes}
use Rattle.std.specs.Str.{is_utf8}
use Rattle.std.specs.Str.Lossy.{utf8_valid_len}
use Rattle.grain_value.specs.declared.values.Limits.{Limits}
use Rattle.grain_value.specs.declared.tokens.Token.{Token}
use Rattle.grain_value.specs.declared.scopes.Entry.{Entry}
use Rattle.grain_host.specs.declared.tables.TableHost.{TableHost}
use Rattle.grain_program.specs.View.{View}
use Rattle.grain_program.specs.declared.code.parts.AssignOp.{AssignOp}
use Rattle.grain_words.specs.Lines.{lines_of}
use Rattle.grain_literals.specs.Steps.{and_then, present}
use Rattle.grain_literals.specs.declared.reasons.Reason.{Reason}
use Rattle.grain_literals.specs.declared.reasons.Reason.TheVariants.{TooLong, NotUtf8, MissingHeader, BadOperand, UnfinishedChunk, MissingMain}
use Rattle.grain_listing.specs.Settings.{number_of}
use Rattle.grain_listing.specs.Flags.{is_on}
use Rattle.grain_listing.specs.Statements
use Rattle.grain_listing.specs.Statements.{Statement, section, caps, limits, flags, host, assigns, pieces, labels, label_address, aims, main_chunk, functions, positions, code_of}
use Rattle.grain_listing.specs.SwitchTargets.{all_known, linked_switch}
use Rattle.grain_listing.specs.LineMeanings.{statements}
use Rattle.grain_listing.specs.declared.headers.AssignLine.{AssignLine}
use Rattle.grain_listing.specs.declared.table.Section.{Section}
use Rattle.grain_listing.specs.declared.table.Section.TheVariants as sections
use Rattle.grain_listing.specs.declared.reasons.BadLine.{BadLine}

-- what a listing says: what may become a program, the limits of its run, whether operators are fast
-- and properties strict in it, the host with which it begins, and the scope in which it begins
pub record ListingView : Type 0 where
  pub parts : View
  pub limits : Limits
  pub fast_operators : Bool
  pub strict_properties : Bool
  pub host : TableHost
  pub scope : List Entry

abbrev pub bad_line : ℕ → Reason → BadLine
bad_line line reason = Statements.bad_line line reason

abbrev pub refused : {A : Type 0} → ℕ → Reason → Result A BadLine
refused line reason = Err (bad_line line reason)

abbrev pub or_number : ℕ → Option ℕ → ℕ
or_number n None = n
or_number n (Some m) = m

-- the limits, by their names
abbrev pub limits_of : List (List ℕ × ℕ) → Limits
limits_of set =
    record {
      operations = number_of (codes "operations") set;
      levels = number_of (codes "levels") set;
      variables = number_of (codes "variables") set;
      modules = number_of (codes "modules") set;
      text = number_of (codes "text") set;
      array = number_of (codes "array") set;
      map = number_of (codes "map") set;
    }

-- the token of that `op` line, which has to be there
abbrev pub token_at : List Token → ℕ → ℕ → Result Token BadLine
token_at tokens line i = present (bad_line line BadOperand) (slice_get tokens i)

-- an op-assignment, both of whose operators have an `op` line
abbrev pub assign_op_of : List Token → AssignLine → Result AssignOp BadLine
assign_op_of tokens a =
    and_then (token_at tokens a.line a.op_assign) (λ t. and_then (token_at tokens a.line a.op) (λ u.
    Ok (record { op_assign = t; op_assign_name = a.op_assign_name; op = u; op_name = a.op_name })))

abbrev pub assign_ops_of : List Token → List AssignLine → Result (List AssignOp) BadLine
assign_ops_of tokens [] = Ok []
assign_ops_of tokens (a ∷ others) =
    and_then (assign_op_of tokens a)
    (λ o. and_then (assign_ops_of tokens others) (λ os. Ok (o ∷ os)))

-- without a line of its own every capability is there
abbrev pub caps_of : Option ℕ → ℕ
caps_of caps = or_number 31 caps

-- the address of a label
abbrev pub look_up : List Statement → List ℕ → Option ℕ
look_up said t = label_address t (labels said)

-- what the lines say, with these op-assignments and this code
abbrev pub set_up : List Statement → List AssignOp → List ℕ → ListingView
set_up said assign_ops code =
    record {
      parts = record {
        caps = caps_of (caps said);
        code = code;
        main = main_chunk said;
        functions = functions said;
        consts = Statements.consts said;
        names = Statements.names said;
        tokens = Statements.tokens said;
        assign_ops = assign_ops;
        chains = Statements.chains said;
        switches = map (linked_switch (look_up said)) (Statements.switches said);
        positions = positions said;
        source = Statements.source said;
      };
      limits = limits_of (limits said);
      fast_operators = is_on (codes "operators") (flags said);
      strict_properties = is_on (codes "strict") (flags said);
      host = host said;
      scope = Statements.scope said;
    }

-- of no lines, the first is missing
abbrev pub last_line : ℕ → ℕ
last_line n = if n == 0 then 1 else n

-- at the end, after n lines, the last block has to be over
abbrev pub complete : {A : Type 0} → ℕ → Section → Result A BadLine → Result A BadLine
complete n sections.Start more = refused (last_line n) MissingHeader
complete n sections.Pools more = refused n MissingMain
complete n sections.Block more = refused n UnfinishedChunk
complete n sections.After more = more

-- what n lines say together
abbrev pub set_up_of : ℕ → List Statement → Result ListingView BadLine
set_up_of n said =
    and_then (assign_ops_of (Statements.tokens said) (assigns said)) (λ assign_ops.
    complete n (section said)
    (and_then (all_known (look_up said) (aims said)) (λ _.
    and_then (code_of (labels said) (pieces said))
    (λ code. Ok (set_up said assign_ops code)))))

-- what the lines say
abbrev pub meaning : List (List ℕ) → Result ListingView BadLine
meaning lines = and_then (statements 0 [] lines) (λ said. set_up_of (length lines) said)

-- a listing has at most this many bytes
abbrev pub most_bytes : ℕ
most_bytes = 16777216

-- the line of the first byte that is not UTF-8
abbrev pub broken_line : List ℕ → ℕ
broken_line bytes = count_by (λ b. b == 10) (take (utf8_valid_len bytes) bytes) + 1

-- what the bytes say as a listing, or why they are none
abbrev pub reads : List ℕ → Result ListingView BadLine
reads bytes =
    if nat_lt most_bytes (length bytes) then refused 0 TooLong
    else (if is_utf8 bytes then meaning (lines_of (chars bytes))
    else refused (broken_line bytes) NotUtf8)
