-- WHAT UNIT PROPAGATION SETTLES, by derivation, over any clauses and bytes. Assumes nothing.
use Rattle.std.specs.Prelude.{◌≡◌, ◌⊎◌, List, [], ◌∷◌, Bool, true, false, not, ℕ, zero, suc, ◌≤◌, get_or}
use Rattle.clause.specs.Meaning.{Literal, Clause}

-- THE BYTES: byte b − 1 for Boolean b, 0 false, 1 true and 2 open. A Boolean without a byte is open.
abbrev pub byte_of : List ℕ → ℕ → ℕ
byte_of bs zero = 2
byte_of bs (suc b) = get_or bs b 2

abbrev pub byte : Bool → ℕ
byte true = 1
byte false = 0

-- A literal is TRUE IN bytes when its Boolean has the value that it says, and false in them when its opposite is true.
abbrev pub TrueIn : List ℕ → Literal → Type 0
TrueIn bs l = byte_of bs l.of ≡ byte l.says

abbrev pub opposite : Literal → Literal
opposite l = record { of = l.of; says = not l.says }

-- A clause has a literal, a list has a clause.
abbrev pub HasLiteral : Clause → Literal → Type 0
HasLiteral [] l = ⊥
HasLiteral (k ∷ c) l = (l ≡ k) ⊎ HasLiteral c l

abbrev pub HasClause : List Clause → Clause → Type 0
HasClause [] c = ⊥
HasClause (d ∷ cs) c = (c ≡ d) ⊎ HasClause cs c

-- A literal is SETTLED where the bytes make it true, or where it stands in a clause and the opposite of every other literal there is settled.
pub data Derived (cs : List Clause) (bs : List ℕ) : Literal → Type 0 where
  given : (l : Literal) → TrueIn bs l → Derived cs bs l
  implied : (c : Clause) → HasClause cs c → (l : Literal) → HasLiteral c l → ((k : Literal) → HasLiteral c k → ¬ (k ≡ l) → Derived cs bs (opposite k)) → Derived cs bs l

-- A set of literals is CLOSED under the unit clauses of a list, and has a CONFLICT where all literals of some clause are false in it.
abbrev pub UnitClosed : List Clause → (Literal → Type 0) → Type 0
UnitClosed cs S = (c : Clause) → HasClause cs c → (l : Literal) → HasLiteral c l → ((k : Literal) → HasLiteral c k → ¬ (k ≡ l) → S (opposite k)) → S l

abbrev pub Conflicting : List Clause → (Literal → Type 0) → Type 0
Conflicting cs S = (c : Clause) × HasClause cs c × ((k : Literal) → HasLiteral c k → S (opposite k))

-- What a legal call has: bytes of 0 to 2, and clauses of the Booleans 1 to n.
abbrev pub Bytes : List ℕ → Type 0
Bytes [] = Unit {0}
Bytes (b ∷ bs) = (b ≤ 2) × Bytes bs

abbrev pub KnownIn : ℕ → List Clause → Type 0
KnownIn n cs = (c : Clause) → HasClause cs c → (l : Literal) → HasLiteral c l → (1 ≤ l.of) × (l.of ≤ n)
