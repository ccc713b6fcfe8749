-- The lines of a listing, by their first words.
use Rattle.std.specs.Prelude.{ℕ, Bool, true, false, List, Option, Some, None, if◌then◌else◌, codes, bytes_eq}
use Rattle.grain_listing.specs.Instructions.{op_named}
use Rattle.grain_listing.specs.Later.{is_later}
use Rattle.grain_listing.specs.declared.table.Follows.{Follows}
use Rattle.grain_listing.specs.declared.table.Follows.TheVariants as may
use Rattle.grain_listing.specs.declared.table.Section.{Section}
use Rattle.grain_listing.specs.declared.table.Section.TheVariants as sections
use Rattle.grain_program.specs.declared.code.instruction_set.Op.{Op}
use Rattle.grain_listing.specs.declared.table.Line.{Line}
use Rattle.grain_listing.specs.declared.table.Line.TheVariants as lines

-- a line that is no instruction's
unfoldable pub own_line : List ℕ → Option Line
own_line w =
    if bytes_eq w (codes "grain") then Some lines.Header
    else (if bytes_eq w (codes "caps") then Some lines.Capabilities
    else (if bytes_eq w (codes "source") then Some lines.Source
    else (if bytes_eq w (codes "limit") then Some lines.Limit
    else (if bytes_eq w (codes "const") then Some lines.Constant
    else (if bytes_eq w (codes "name") then Some lines.Name
    else (if bytes_eq w (codes "op") then Some lines.Operator
    else (if bytes_eq w (codes "assign") then Some lines.Assign
    else (if bytes_eq w (codes "step") then Some lines.Step
    else (if bytes_eq w (codes "case") then Some lines.Case
    else (if bytes_eq w (codes "range") then Some (lines.Range false)
    else (if bytes_eq w (codes "range=") then Some (lines.Range true)
    else (if bytes_eq w (codes "scope") then Some lines.Entry
    else (if bytes_eq w (codes "flag") then Some lines.Flag
    else (if bytes_eq w (codes "fail") then Some lines.Fail
    else (if bytes_eq w (codes "stop") then Some lines.Stop
    else (if bytes_eq w (codes "main") then Some lines.Main
    else (if bytes_eq w (codes "fn") then Some lines.Function
    else (if bytes_eq w (codes "byte") then Some lines.Byte
    else (if bytes_eq w (codes "end") then Some lines.End
    else None)))))))))))))))))))

-- an instruction's line
abbrev pub instruction_line_of : Option Op → Option Line
instruction_line_of None = None
instruction_line_of (Some o) = Some (lines.Instruction o)

-- a line that is not read yet
abbrev pub later_line : List ℕ → Option Line
later_line w = if is_later w then Some lines.Later else None

abbrev pub or_else : Option Line → Option Line → Option Line
or_else None o = o
or_else (Some l) o = Some l

-- `chain` and `switch` begin an entry of a pool, and in a block they are instructions
unfoldable pub pool_line : Bool → List ℕ → Option Line
pool_line in_block w =
    if in_block then None
    else (if bytes_eq w (codes "chain") then Some lines.Chain
    else (if bytes_eq w (codes "switch") then Some lines.Switch
    else None))

-- the line that begins with the word, in a block or outside of one
unfoldable pub line_of : Bool → List ℕ → Option Line
line_of in_block w =
    or_else (own_line w) (or_else (pool_line in_block w)
    (or_else (instruction_line_of (op_named w)) (later_line w)))

abbrev pub is_pools : Section → Bool
is_pools sections.Start = false
is_pools sections.Pools = true
is_pools sections.Block = false
is_pools sections.After = false

abbrev pub is_block : Section → Bool
is_block sections.Start = false
is_block sections.Pools = false
is_block sections.Block = true
is_block sections.After = false

abbrev pub is_after : Section → Bool
is_after sections.Start = false
is_after sections.Pools = false
is_after sections.Block = false
is_after sections.After = true

-- Instructions, bytes and a block's end stand in a block, a function after one, and the others
-- before the first. The header stands nowhere after itself. What is not read yet may stand
-- anywhere: it is reported as that.
abbrev pub stands : Line → Section → Bool
stands lines.Header s = false
stands lines.Capabilities s = is_pools s
stands lines.Source s = is_pools s
stands lines.Limit s = is_pools s
stands lines.Constant s = is_pools s
stands lines.Name s = is_pools s
stands lines.Operator s = is_pools s
stands lines.Assign s = is_pools s
stands lines.Chain s = is_pools s
stands lines.Step s = is_pools s
stands lines.Switch s = is_pools s
stands lines.Case s = is_pools s
stands (lines.Range inclusive) s = is_pools s
stands lines.Entry s = is_pools s
stands lines.Flag s = is_pools s
stands lines.Fail s = is_pools s
stands lines.Stop s = is_pools s
stands lines.Main s = is_pools s
stands lines.Function s = is_after s
stands lines.Byte s = is_block s
stands lines.End s = is_block s
stands (lines.Instruction o) s = is_block s
stands lines.Later s = true

-- steps, or cases and ranges, may follow
abbrev pub takes_steps : Follows → Bool
takes_steps may.Nothing = false
takes_steps may.Steps = true
takes_steps may.Cases = false

abbrev pub takes_cases : Follows → Bool
takes_cases may.Nothing = false
takes_cases may.Steps = false
takes_cases may.Cases = true

-- what may follow the line: steps after a chain and a step, cases and ranges after a switch, a case and
-- a range
abbrev pub opened_by : Option Line → Follows
opened_by (Some lines.Chain) = may.Steps
opened_by (Some lines.Step) = may.Steps
opened_by (Some lines.Switch) = may.Cases
opened_by (Some lines.Case) = may.Cases
opened_by (Some (lines.Range inclusive)) = may.Cases
opened_by l = may.Nothing
