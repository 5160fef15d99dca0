-- Laws of the replies as numbers: a refusal's fields from its number and place, and the encoder's promise carried from its reply to the definition of that reply.
-- Assumes nothing.
use Rattle.filler.specs.declared.Counts.{Counts}
use Rattle.std.proofs.Common.{Result}
use mathlib.Core.Path.{◌≡◌, sym, ap, subst, ◌∙◌}
use mathlib.Core.List.{List}
use Prim.Native.Nat.{ℕ}
use Rattle.refusal.specs.Table.{number_of, place_of}
use Rattle.refusal.specs.declared.Refusal.{Refusal}
use Rattle.propagator.specs.declared.Propagated.{Propagated}
use Rattle.propagator.specs.Reply.{Propagates}
use Rattle.limits.specs.declared.Limits.{Limits}
use Rattle.encoder.specs.Promise.{Promise}
use Rattle.pongilad.specs.declared.EncodedReply.{EncodedReply}
use Rattle.pongilad.specs.declared.PropagatedReply.{PropagatedReply}
use Rattle.pongilad.specs.Fields.{encoded_fields, propagated_fields, Encodes, Settles}

-- THE FIELDS OF A REFUSAL, from its number and place, whatever the call's own kind of reply and its struct are.
pub refusal_fields : {E S : Type 0} (fields : E → S) (refuse : Refusal → E) (given : ℕ → ℕ → S) → ((x : Refusal) → given (number_of x) (place_of x) ≡ fields (refuse x))
    → (v : E) (x : Refusal) (n p : ℕ) → v ≡ refuse x → n ≡ number_of x → p ≡ place_of x → given n p ≡ fields v
refusal_fields fields refuse given same v x n p is en ep = (λ i. given (en i) (ep i)) ∙ same x ∙ sym (ap fields is)

-- The propagating call's promise from the propagator's.
pub settles : (bs ws before after : List ℕ) (v : Result Propagated Refusal) (r : PropagatedReply) → r ≡ propagated_fields v → Propagates bs ws before after v
    → Settles bs ws before after r
settles bs ws before after v r e p = record { fields = e ∙ ap propagated_fields p.reply.same; buffer = p.buffer }

-- An encoding call's promise from the encoder's, which names its own reply.
pub encodes : (l : Limits) (ws t e w t' e' w' : List ℕ) (x : Result Counts Refusal) (r : EncodedReply) → r ≡ encoded_fields x → Promise l ws t e w t' e' w' x → Encodes l ws t e w t' e' w' r
encodes l ws t e w t' e' w' x r fields p =
    record { fields = fields ∙ ap encoded_fields p.reply.same; lists = subst (Promise l ws t e w t' e' w') p.reply.same p }
