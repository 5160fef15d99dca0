-- THE BYTES OF WORDS, and the file comparer's reply with its values. Assumes nothing.
use Rattle.std.specs.Prelude.{List, [], ◌∷◌, Bool, true, false, ◌&&◌, cond, ℕ, suc, ◌/◌, ◌%◌, eqb, take, drop, Option, Some, None}

-- THE VALUES OF A REPLY: yes is 1 with word 0; no is 0 with the number.
pub record ComparedValues : Type 0 where
  pub same : ℕ
  pub word : ℕ

abbrev pub compared_values : Option ℕ → ComparedValues
compared_values None = record { same = 1; word = 0 }
compared_values (Some k) = record { same = 0; word = k }

-- Four bytes a word, most significant first.
unfoldable pub bytes_of : List ℕ → List ℕ
bytes_of [] = []
bytes_of (w ∷ ws) = w / 0x1000000 % 256 ∷ w / 0x10000 % 256 ∷ w / 0x100 % 256 ∷ w % 256 ∷ bytes_of ws

-- Whether two lists of numbers are equal.
unfoldable pub eq_list : List ℕ → List ℕ → Bool
eq_list [] [] = true
eq_list [] (y ∷ ys) = false
eq_list (x ∷ xs) [] = false
eq_list (x ∷ xs) (y ∷ ys) = eqb x y && eq_list xs ys

-- Document 01's yes: the bytes are the words' bytes, with none left over.
abbrev pub same_bytes : List ℕ → List ℕ → Bool
same_bytes bs ws = eq_list bs (bytes_of ws)

-- Whether bytes begin with a word's four.
abbrev pub begin_with : List ℕ → ℕ → Bool
begin_with bs w = eq_list (take 4 bs) (bytes_of (w ∷ []))

-- The reply from word k on, by its cases: nothing is left; only bytes are; word k has its four bytes, so what comes behind them decides; it lacks some of them
-- or differs.
unfoldable pub compared_from : ℕ → List ℕ → List ℕ → Option ℕ
compared_from k [] [] = None
compared_from k (b ∷ bs) [] = Some k
compared_from k bs (w ∷ ws) = cond (begin_with bs w) (compared_from (suc k) (drop 4 bs) ws) (Some k)

-- THE REPLY to a file's bytes and words, by document 02's request Four.
abbrev pub compared : List ℕ → List ℕ → Option ℕ
compared bs ws = compared_from 0 bs ws
