-- What an answer says, by its status.
use Rattle.std.proofs.Common.{◌≡◌, ◌++◌, ℕ, true, false, List, Option, Some, None, Result, Err, IfSome, refl, sym, ◌∙◌, subst, arith}
use Rattle.grain_value.specs.declared.values.Dynamic.{Dynamic}
use Rattle.grain_fault.specs.Problems.{Problem}
use Rattle.grain_host.specs.declared.tables.TableHost.{TableHost}
use Rattle.grain_program.specs.declared.verifier.refusals.Refusal.{Refusal}
use Rattle.grain_means.specs.Worlds.{Answer, Came, Failed}
use Rattle.grain_means.specs.Means.{Finish}
use Rattle.grain_listing.specs.Reading.{ListingView, reads}
use Rattle.grain_commands.specs.Replies.{Counts, Replies, no_listing, refused, reported, Answers, no_command, replied, Ended, wrote, source_failed, sink_failed, no_memory, is_command, listing_for, tells_operations, usage_text, bad_line_text, refusal_text}
use Rattle.grain_commands.specs.Reports.{report_fault}
use Rattle.grain_commands.specs.Runs.{answer_text, status_of, value_text}
use Rattle.grain_commands.specs.Statuses.{RunEnds, IsRefused, Says, Beside}
use Rattle.grain_streams.specs.Streams.{added}
use Rattle.grain_listing.specs.declared.reasons.BadLine.{BadLine}

-- what is said of the bytes, where they are reported
where_told : (input : Option (List ℕ)) (P Q : List ℕ → Type 0) →
    ((bytes : List ℕ) → P bytes → Q bytes) → IfSome input P → IfSome input Q
where_told None P Q f h = tt
where_told (Some bytes) P Q f h = f bytes h

usage_says : (words : List (List ℕ)) (input : Option (List ℕ)) → is_command words ≡ false →
    Says words input 2 usage_text
usage_says words input none = record {
  known = omega arith;
  no_command = λ e. refl;
  usage = λ e. (none, refl);
  value = λ e. absurd (omega arith);
  fault = λ e. absurd (omega arith);
  no_listing = λ e. absurd (omega arith);
  refused = λ e. absurd (omega arith);
}

value_says : (words : List (List ℕ)) (input : Option (List ℕ)) (v : Dynamic)
    (end : Finish TableHost) →
    is_command words ≡ true → end.answer ≡ Came v → IfSome (listing_for words input)
    (λ bytes. RunEnds bytes end) →
    Says words input 0 (value_text (tells_operations words) end v)
value_says words input v end command is run = record {
  known = omega arith;
  no_command = λ e. absurd cc;
  usage = λ e. absurd (omega arith);
  value = λ e. (v, end, is, run, refl);
  fault = λ e. absurd (omega arith);
  no_listing = λ e. absurd (omega arith);
  refused = λ e. absurd (omega arith);
}

fault_says : (words : List (List ℕ)) (input : Option (List ℕ)) (p : Problem)
    (end : Finish TableHost) →
    is_command words ≡ true → end.answer ≡ Failed p → IfSome (listing_for words input)
    (λ bytes. RunEnds bytes end) →
    Says words input 1 (end.host.printed ++ report_fault p end.trace)
fault_says words input p end command is run = record {
  known = omega arith;
  no_command = λ e. absurd cc;
  usage = λ e. absurd (omega arith);
  value = λ e. absurd (omega arith);
  fault = λ e. (p, end, is, run, refl);
  no_listing = λ e. absurd (omega arith);
  refused = λ e. absurd (omega arith);
}

reason_says : (words : List (List ℕ)) (input : Option (List ℕ)) (bad : BadLine) →
    is_command words ≡ true → IfSome (listing_for words input) (λ bytes. reads bytes ≡ Err bad) →
    Says words input 3 (bad_line_text bad)
reason_says words input bad command said = record {
  known = omega arith;
  no_command = λ e. absurd cc;
  usage = λ e. absurd (omega arith);
  value = λ e. absurd (omega arith);
  fault = λ e. absurd (omega arith);
  no_listing = λ e. (bad, said, refl);
  refused = λ e. absurd (omega arith);
}

refusal_says : (words : List (List ℕ)) (input : Option (List ℕ)) (r : Refusal) →
    is_command words ≡ true → IfSome (listing_for words input) (λ bytes. IsRefused bytes r) →
    Says words input 4 (refusal_text r)
refusal_says words input r command said = record {
  known = omega arith;
  no_command = λ e. absurd cc;
  usage = λ e. absurd (omega arith);
  value = λ e. absurd (omega arith);
  fault = λ e. absurd (omega arith);
  no_listing = λ e. absurd (omega arith);
  refused = λ e. (r, said, refl);
}

-- an end's status and report say the end
end_says : (words : List (List ℕ)) (input : Option (List ℕ)) (end : Finish TableHost) (a : Answer) →
    is_command words ≡ true → end.answer ≡ a → IfSome (listing_for words input) (λ bytes. RunEnds bytes end) →
    Says words input (status_of a) (answer_text (tells_operations words) end a)
end_says words input end (Came v) command is run = value_says words input v end command is run
end_says words input end (Failed p) command is run = fault_says words input p end command is run

-- another status and text, which are the same
says_as : (words : List (List ℕ)) (input : Option (List ℕ)) (status due : ℕ)
    (text wanted : List ℕ) →
    status ≡ due → text ≡ wanted → Says words input due wanted → Says words input status text
says_as words input status due text wanted number written says =
    subst (λ (n : ℕ). Says words input n text) (sym number)
    (subst (λ (t : List ℕ). Says words input due t) (sym written) says)

reply_says : (words : List (List ℕ)) (input : Option (List ℕ)) (said : Result ListingView BadLine)
    (status : ℕ) (text : List ℕ) → is_command words ≡ true →
    IfSome (listing_for words input) (λ bytes. reads bytes ≡ said) →
    Replies (tells_operations words) said status text → Says words input status text
reply_says words input said status text command told (no_listing {bad = bad} e) =
    reason_says words input bad command
    (where_told (listing_for words input) (λ bytes. reads bytes ≡ said) (λ bytes. reads bytes ≡ Err bad)
    (λ bytes h. h ∙ e) told)
reply_says words input said status text command told (refused {s} {r} e invalid first) =
    refusal_says words input r command
    (where_told (listing_for words input) (λ bytes. reads bytes ≡ said) (λ bytes. IsRefused bytes r)
    (λ bytes h. record { set_up = s; said = h ∙ e; invalid = invalid; first = first }) told)
reply_says words input said status text command told (reported {s} e valid h) =
    let run = where_told (listing_for words input) (λ bytes. reads bytes ≡ said)
    (λ bytes. RunEnds bytes h.end)
    (λ bytes is. record {
      set_up = s;
      said = is ∙ e;
      valid = valid;
      instructions = h.instructions;
      means = h.means;
    }) told in
    says_as words input status (status_of h.end.answer) text
    (answer_text (tells_operations words) h.end h.end.answer) h.number h.written
    (end_says words input h.end h.end.answer command refl run)

answer_says : (words : List (List ℕ)) (input : Option (List ℕ)) (status : ℕ) (text : List ℕ) →
    Answers words input status text → Says words input status text
answer_says words input status text (no_command none) = usage_says words input none
answer_says words input status text (replied {said} command told reply) =
    reply_says words input said status text command told reply

whole_beside : (words : List (List ℕ)) (input before now : Option (List ℕ)) (counts : Counts)
    (status : ℕ) (text : List ℕ) → Says words input status text → now ≡ added text before →
    Beside words input before now counts status
whole_beside words input before now counts status text says written = record {
  known = omega (arith, says.known);
  whole = λ e. (text, says, written);
  source_failed = λ e. absurd (omega (arith, says.known));
  sink_failed = λ e. absurd (omega (arith, says.known));
  no_memory = λ e. absurd (omega (arith, says.known));
}

-- what is written beside the status of an ended call
pub beside : (words : List (List ℕ)) (input before now : Option (List ℕ)) (counts : Counts)
    (status : ℕ) → Ended words input before now counts status →
    Beside words input before now counts status
beside words input before now counts status (wrote {text} a w) =
    whole_beside words input before now counts status text (answer_says words input status text a) w
beside words input before now counts status (source_failed command rose w) = record {
  known = omega arith;
  whole = λ e. absurd (omega arith);
  source_failed = λ e. (command, rose, w);
  sink_failed = λ e. absurd (omega arith);
  no_memory = λ e. absurd (omega arith);
}
beside words input before now counts status (sink_failed {status = number} {text} a part rose) =
    record {
      known = omega arith;
      whole = λ e. absurd (omega arith);
      source_failed = λ e. absurd (omega arith);
      sink_failed = λ e. (rose, (number, text, answer_says words input number text a, part));
      no_memory = λ e. absurd (omega arith);
    }
beside words input before now counts status (no_memory w) = record {
  known = omega arith;
  whole = λ e. absurd (omega arith);
  source_failed = λ e. absurd (omega arith);
  sink_failed = λ e. absurd (omega arith);
  no_memory = λ e. w;
}
