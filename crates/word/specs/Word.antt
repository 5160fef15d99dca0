-- THE WORDS of document 01: numbers below 2^32, split into a KIND of two bits and a PAYLOAD of thirty, and what the payload of each kind says.
-- Assumes nothing.
use Rattle.std.specs.Prelude.{Bool, true, false, ℕ, ◌+◌, ◌*◌, ◌/◌, ◌%◌, leb, ℤ}
use Rattle.std.proofs.Math.IntN.{sub_ℕ}

-- How many payloads there are, and half of them.
abbrev pub payloads : ℕ
payloads = 0x40000000

abbrev pub half : ℕ
half = 0x20000000

abbrev pub kind : ℕ → ℕ
kind w = w / payloads

abbrev pub payload : ℕ → ℕ
payload w = w % payloads

-- A payload less half of them may be below 0: a LOWER END (kind 2) before a term, and the bound (kind 0) where a RELATION (kind 3) follows it.
abbrev pub less_half : ℕ → ℤ
less_half w = sub_ℕ (payload w) half

-- A term (kind 1): bit 29 says that its coefficient is negative, bits 28 to 16 are its domain end, and the low sixteen are the coefficient without its sign.
abbrev pub domain_end : ℕ → ℕ
domain_end w = w % half / 0x10000

abbrev pub coefficient : ℕ → ℕ
coefficient w = w % 0x10000

-- A literal (kind 2): bit 29 says that it is negated, bits 28 to 0 are its Boolean.
abbrev pub boolean : ℕ → ℕ
boolean w = w % half

abbrev pub negated : ℕ → Bool
negated w = leb half (payload w)

-- The greatest Boolean that a literal can hold.
abbrev pub last_boolean : ℕ
last_boolean = 536870911

-- The word of a literal that says of Boolean b that it is true, or that it is false.
abbrev pub literal_word : Bool → ℕ → ℕ
literal_word true b = 0x80000000 + b
literal_word false b = 0xA0000000 + b

-- The end word (kind 3) of a clause with k literals.
abbrev pub end_word : ℕ → ℕ
end_word k = 0xC0000000 + k

-- The greatest count that an end word can hold.
abbrev pub last_count : ℕ
last_count = 1073741823

-- The word that four bytes make, the first of them the highest.
abbrev pub of_bytes : ℕ → ℕ → ℕ → ℕ → ℕ
of_bytes a b c d = a * 0x1000000 + b * 0x10000 + c * 0x100 + d
