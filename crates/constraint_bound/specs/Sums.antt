-- Whole numbers as the difference of two sums: what the functions that compute the base bound promise. Assumes nothing.
use Rattle.std.specs.Prelude.{◌≡◌, ℕ, ◌+◌, ◌≤◌, ℤ}
use Rattle.std.proofs.Math.IntN.{sub_ℕ}
use Rattle.word.specs.Word.{payloads}
use Rattle.constraint_bound.specs.declared.Difference.{Difference}

-- What keeps the sums within 64 bits: the most that the bound as written has in each, that a term's shift adds to each, and that there may be before one is added.
abbrev pub most_bound : ℕ
most_bound = payloads

abbrev pub most_shift : ℕ
most_shift = 0x400000000000

abbrev pub most_sum : ℕ
most_sum = 0x7FFFFFFFFFFFFFFF

-- Two sums, each at most n, whose difference is z.
pub record Differ (n : ℕ) (z : ℤ) (p : Difference) : Type 0 where
  pub is : sub_ℕ p.gain p.loss ≡ z
  pub gain_fits : p.gain ≤ n
  pub loss_fits : p.loss ≤ n

-- Sums added, each to its own.
abbrev pub added : Difference → Difference → Difference
added p q = record { gain = p.gain + q.gain; loss = p.loss + q.loss }
