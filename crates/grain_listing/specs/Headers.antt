-- What the lines say that begin a block, or join two operators.
use Rattle.std.specs.Prelude.{ℕ, zero, suc, Bool, ◌&&◌, not, List, [], ◌∷◌, Option, Some, None, is_some, Result, Ok, Err, codes, if◌then◌else◌}
use Rattle.grain_words.specs.Words.{is_over, after_word}
use Rattle.grain_literals.specs.Steps.{and_then}
use Rattle.grain_literals.specs.Operands.{alone, after_name, number_operand, index}
use Rattle.grain_literals.specs.declared.reasons.Reason.{Reason}
use Rattle.grain_literals.specs.declared.reasons.Reason.TheVariants.{TooMany}
use Rattle.grain_listing.specs.declared.headers.AssignLine.{AssignLine}
use Rattle.grain_listing.specs.declared.headers.FunctionHeader.{FunctionHeader}

-- after `main`: how many operands the block may have
abbrev pub stack_of : List ℕ → Result ℕ Reason
stack_of cs = and_then (number_operand 65535 cs) (λ a. alone a.1 a.0)

-- after `assign`, at this line: four numbers
abbrev pub assign_of : ℕ → List ℕ → Result AssignLine Reason
assign_of line cs =
    and_then (index cs) (λ a. and_then (index a.1)
    (λ b. and_then (index b.1) (λ c. and_then (index c.1) (λ d.
    alone d.1 (record {
      line = line;
      op_assign = a.0;
      op_assign_name = b.0;
      op = c.0;
      op_name = d.0;
    })))))

-- `on` ends the parameters
abbrev pub is_on : List ℕ → Bool
is_on cs = is_some (after_name (codes "on") cs)

-- a word stands next, and does not end the parameters
abbrev pub has_parameter : List ℕ → Bool
has_parameter cs = not (is_over cs) && not (is_on cs)

-- there are more than n parameters, whatever their words are
unfoldable pub has_more : ℕ → List ℕ → Bool
has_more zero cs = has_parameter cs
has_more (suc n) cs = has_parameter cs && has_more n (after_word cs)

-- at most n parameters, which end with the line or before `on`, and what is left after them
unfoldable pub parameters_of : ℕ → List ℕ → Result (List ℕ × List ℕ) Reason
parameters_of zero cs =
    if has_parameter cs then and_then (index cs) (λ a. Err TooMany) else Ok ([], cs)
parameters_of (suc n) cs =
    if has_parameter cs then and_then (index cs)
    (λ a. and_then (parameters_of n a.1) (λ ps. Ok (a.0 ∷ ps.0, ps.1)))
    else Ok ([], cs)

abbrev pub type_by : Option (List ℕ) → List ℕ → Result (Option ℕ) Reason
type_by None cs = alone cs None
type_by (Some rest) cs = and_then (index rest) (λ a. alone a.1 (Some a.0))

-- after the parameters: `on` and the name of a type, or nothing
abbrev pub type_of : List ℕ → Result (Option ℕ) Reason
type_of cs = type_by (after_name (codes "on") cs) cs

-- after `fn`: the name and how many operands the block may have
abbrev pub name_and_stack : List ℕ → Result (ℕ × ℕ × List ℕ) Reason
name_and_stack cs = and_then (index cs)
    (λ a. and_then (number_operand 65535 a.1) (λ b. Ok (a.0, b.0, b.1)))

-- after `fn`: the name, the operands, the parameters, and the type of whose values the function is a
-- method, if it is one of one type alone
abbrev pub header_of : List ℕ → Result FunctionHeader Reason
header_of cs =
    and_then (name_and_stack cs) (λ a.
    and_then (parameters_of 65536 a.2) (λ ps.
    and_then (type_of ps.1) (λ t.
    Ok (record { name = a.0; stack = a.1; params = ps.0; this_type = t }))))

-- after `fn`: there are more parameters than a function may have
abbrev pub is_crowded : List ℕ → Bool
is_crowded cs = has_more 65536 (after_word (after_word cs))
