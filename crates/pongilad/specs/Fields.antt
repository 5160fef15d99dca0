-- THE REPLIES AS NUMBERS, for callers in C: each field holds the value of its name. Assumes nothing.
use Rattle.std.specs.Prelude.{◌≡◌, List, ℕ, length, Option, Result}
use Rattle.refusal.specs.declared.Refusal.{Refusal}
use Rattle.word.specs.declared.NodeNumber.{NodeNumber}
use Rattle.filler.specs.declared.Counts.{Counts}
use Rattle.finder.specs.Find.{FoundValues, found_values}
use Rattle.tester.specs.declared.NotTrue.{NotTrue}
use Rattle.tester.specs.Tested.{TestedValues, tested_values}
use Rattle.propagator.specs.declared.Propagated.{Propagated}
use Rattle.propagator.specs.Reply.{PropagatedValues, propagated_values, propagated_reply, propagated_left}
use Rattle.refusal.specs.Table.{Checked}
use Rattle.marker.specs.Reply.{MarkedValues, marked_values}
use Rattle.comparer.specs.Bytes.{ComparedValues, compared_values}
use Rattle.dimacs_text.specs.Reply.{ConvertedValues, converted_values}
use Rattle.encoder_levels.specs.Reply.{EncodedValues, encoded_values}
use Rattle.limits.specs.declared.Limits.{Limits}
use Rattle.encoder.specs.Encoded.{encoded}
use Rattle.encoder.specs.Promise.{Promise}
use Rattle.pongilad.specs.declared.EncodedReply.{EncodedReply}
use Rattle.pongilad.specs.declared.FoundReply.{FoundReply}
use Rattle.pongilad.specs.declared.TestedReply.{TestedReply}
use Rattle.pongilad.specs.declared.PropagatedReply.{PropagatedReply}
use Rattle.pongilad.specs.declared.MarkedReply.{MarkedReply}
use Rattle.pongilad.specs.declared.ComparedReply.{ComparedReply}
use Rattle.pongilad.specs.declared.TextReply.{TextReply}

abbrev pub encoded_fields : Result Counts Refusal → EncodedReply
encoded_fields x = let v : EncodedValues = encoded_values x in record { number = v.number; place = v.place; nodes = v.nodes; edges = v.edges; words = v.words }

abbrev pub found_fields : Result NodeNumber ℕ → FoundReply
found_fields x = let v : FoundValues = found_values x in record { found = v.found; number = v.number }

abbrev pub tested_fields : Result (Option NotTrue) Refusal → TestedReply
tested_fields x = let v : TestedValues = tested_values x in record { verdict = v.verdict; number = v.number; place = v.place }

abbrev pub propagated_fields : Result Propagated Refusal → PropagatedReply
propagated_fields x = let v : PropagatedValues = propagated_values x in record { verdict = v.verdict; number = v.number; place = v.place }

abbrev pub marked_fields : Checked → MarkedReply
marked_fields x = let v : MarkedValues = marked_values x in record { right = v.right; number = v.number; place = v.place }

abbrev pub compared_fields : Option ℕ → ComparedReply
compared_fields x = let v : ComparedValues = compared_values x in record { same = v.same; word = v.word }

abbrev pub text_fields : Result ℕ Refusal → TextReply
text_fields x = let v : ConvertedValues = converted_values x in record { number = v.number; place = v.place; length = v.length }

-- THE ENCODING CALLS, each under its limits: the fields are those of the encoder's reply, and with that reply the three lent lists keep the encoder's promise.
pub record Encodes (l : Limits) (ws t e w : List ℕ) (t' e' w' : List ℕ) (r : EncodedReply) : Type 0 where
  pub fields : r ≡ encoded_fields (encoded l ws (length t) (length e) (length w))
  pub lists : Promise l ws t e w t' e' w' (encoded l ws (length t) (length e) (length w))

-- THE PROPAGATING CALL: its fields are those of the propagator's reply, and the lent buffer holds what the definition leaves there.
pub record Settles (bs ws before after : List ℕ) (r : PropagatedReply) : Type 0 where
  pub fields : r ≡ propagated_fields (propagated_reply bs ws (length before))
  pub buffer : after ≡ propagated_left bs ws before

-- THE CALLS THAT WRITE AND READ TEXT: the fields are those of a reply that keeps the writer's or the reader's promise.
pub record Converts (Promised : Result ℕ Refusal → Type 0) (r : TextReply) : Type 0 where
  pub reply : Result ℕ Refusal
  pub promise : Promised reply
  pub fields : r ≡ text_fields reply
