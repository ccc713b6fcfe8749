-- What is answered to what is asked of a listing: a status, and the text that is written.
use Rattle.std.specs.Prelude.{ℕ, Bool, true, false, ◌&&◌, ◌==◌, List, [], ◌∷◌, ◌++◌, length, Option, Some, None, is_some, Result, Ok, Err, codes, chars, if◌then◌else◌}
use Rattle.std.specs.Fmt.{decimal}
use Rattle.grain_words.specs.Lines.{lines_of}
use Rattle.grain_program.specs.View.{View}
use Rattle.grain_literals.specs.Reasons.{reason_text}
use Rattle.grain_listing.specs.Reading.{ListingView, reads}
use Rattle.grain_listing.specs.declared.reasons.BadLine.{BadLine}
use Rattle.grain_addresses.specs.Places.{Place, places_of}
use Rattle.grain_addresses.specs.Finding.{found}
use Rattle.grain_addresses.specs.StepLines.{StepLine, chain_at, step_named, steps_of}
use Rattle.grain_addresses.specs.Texts.{Named, place_text, table_text, step_text, no_step_text, inside_text, past_text}
use Rattle.grain_addresses.specs.declared.queries.Query.{Query}

abbrev pub usage_text : List ℕ
usage_text = codes "usage: where LISTING [ADDRESS or ADDRESS:SLOT ..]\n"

-- the first line that is wrong, and why
abbrev pub bad_line_text : BadLine → List ℕ
bad_line_text bad =
    codes "listing line " ++ decimal bad.line ++ codes ": " ++ reason_text bad.reason ++
    codes "\n"

-- what stands in a listing: its code, its functions and names, its lines of code, and those of steps
pub record Stock : Type 0 where
  pub code : List ℕ
  pub named : Named
  pub places : List Place
  pub steps : List StepLine

abbrev pub named_in : View → Named
named_in parts = record { functions = parts.functions; names = parts.names }

abbrev pub stock_of : View → List Place → List StepLine → Stock
stock_of parts places steps = record {
  code = parts.code;
  named = named_in parts;
  places = places;
  steps = steps;
}

-- the line of the step that a slot names in the instruction at an address, if it names one
abbrev pub step_asked : Stock → ℕ → ℕ → Option StepLine
step_asked stock a slot = step_named (chain_at stock.code a) slot stock.steps

-- the lines of the instruction and of the step, or why there is no step
abbrev pub slot_answer : Stock → Query → Place → Option StepLine → List ℕ
slot_answer stock q p None = no_step_text q p
slot_answer stock q p (Some s) = place_text stock.named p ++ step_text q s

-- at the beginning of an instruction: its line, and that of the step, if a slot is asked for
abbrev pub begun_text : Stock → Query → Place → Option ℕ → List ℕ
begun_text stock q p None = place_text stock.named p
begun_text stock q p (Some slot) = slot_answer stock q p (step_asked stock p.address slot)

abbrev pub held_text : Stock → Query → Place → List ℕ
held_text stock q p =
    if p.address == q.address then begun_text stock q p q.slot else inside_text q p

-- what is answered for an address: the line whose code begins there, or why there is none
abbrev pub spot_text : Stock → Query → Option Place → List ℕ
spot_text stock q None = past_text q (length stock.code)
spot_text stock q (Some p) = held_text stock q p

abbrev pub answer_text : Stock → Query → List ℕ
answer_text stock q = spot_text stock q (found q.address stock.places)

abbrev pub answers_text : Stock → List Query → List ℕ
answers_text stock [] = []
answers_text stock (q ∷ qs) = answer_text stock q ++ answers_text stock qs

-- no slot is asked for, or a step begins at it
abbrev pub has_slot : Stock → ℕ → Option ℕ → Bool
has_slot stock a None = true
has_slot stock a (Some slot) = is_some (step_asked stock a slot)

-- the code of a line begins at the address, and a step of the chain there begins at the slot, if one is
-- asked for
abbrev pub is_begun : Stock → Query → Option Place → Bool
is_begun stock q None = false
is_begun stock q (Some p) = (p.address == q.address) && has_slot stock p.address q.slot

abbrev pub are_begun : Stock → List Query → Bool
are_begun stock [] = true
are_begun stock (q ∷ qs) = is_begun stock q (found q.address stock.places) && are_begun stock qs

abbrev pub status_of : Bool → ℕ
status_of true = 0
status_of false = 1

-- if nothing is asked, all lines that give code
abbrev pub listed_text : Stock → List Query → List ℕ
listed_text stock [] = table_text stock.named stock.places
listed_text stock (q ∷ qs) = answers_text stock (q ∷ qs)

-- what stands in the listing of a text, which reads to this
abbrev pub stock_in : ListingView → List ℕ → Stock
stock_in s text = stock_of s.parts (places_of (lines_of text)) (steps_of (lines_of text))

-- what is answered to what the bytes read to
abbrev pub explained_status : Result ListingView BadLine → List ℕ → List Query → ℕ
explained_status (Err bad) text qs = 3
explained_status (Ok s) text qs =
    status_of (are_begun (stock_in s text) qs)

abbrev pub explained_text : Result ListingView BadLine → List ℕ → List Query → List ℕ
explained_text (Err bad) text qs = bad_line_text bad
explained_text (Ok s) text qs = listed_text (stock_in s text) qs

-- the status and the text for the bytes of a listing
abbrev pub status_due : List ℕ → List Query → ℕ
status_due bytes qs = explained_status (reads bytes) (chars bytes) qs

abbrev pub text_due : List ℕ → List Query → List ℕ
text_due bytes qs = explained_text (reads bytes) (chars bytes) qs
