-- What the functions inside this crate promise each other: what a clause asks for, what is done for it, and what a pass does. Assumes nothing.
use Rattle.std.specs.Prelude.{◌≡◌, List, [], ◌∷◌, ◌++◌, cond, Option, None, Some, Result, Ok, Err, ℕ, ◌+◌, ◌≤◌, ◌<◌, eqb, length, get_or, drop}
use Rattle.word.specs.Word.{kind, boolean}
use Rattle.refusal.specs.Table.{passed}
use Rattle.clause.specs.Meaning.{Clause, literal_of, clauses_of, words_of}
use Rattle.clause.specs.Check.{list_from}
use Rattle.tester.specs.Past.{past_end}
use Rattle.propagation.specs.Derived.{Derived, Conflicting, Bytes}
use Rattle.propagation.specs.Propagated.{Status, neither, unit, falsified, met, Outcome, conflict, reached}
use Rattle.propagation.specs.Extension.{SoundExtension, Stable, open_count}
use Rattle.propagator.specs.declared.Conflict.{Conflict}

-- The open literal of a clause so far, as a word: 0 for none, the least end word where nothing is left to ask for.
abbrev pub so_far : ℕ → Status
so_far w = cond (eqb w 0) falsified (cond (eqb w 0xC0000000) neither (unit (literal_of w)))

-- The word of a literal whose Boolean is one of the first n. Such a word is found, or one of the two that say that there is none.
abbrev pub LiteralWord : ℕ → ℕ → Type 0
LiteralWord n w = (kind w ≡ 2) × (1 ≤ boolean w) × (boolean w ≤ n)

abbrev pub Found : ℕ → ℕ → Type 0
Found n r = ¬ (r ≡ 0) → ¬ (r ≡ 0xC0000000) → LiteralWord n r

-- The k words from a place on are such words.
pub record LiteralWords (n : ℕ) (ws : List ℕ) (at k : ℕ) : Type 0 where
  pub within : at + k ≤ length ws
  pub each : (j : ℕ) → j < k → LiteralWord n (get_or ws (at + j) 0)

-- The status of a clause by its words, up to the next end word.
unfoldable pub looked : List ℕ → Status → List ℕ → Status
looked bs s [] = s
looked bs s (w ∷ ws) = let more : Status = looked bs (met bs (literal_of w) s) ws in cond (eqb (kind w) 3) s more

-- What the words of a clause come to from where it begins up to a place: with it, the words from there on give the clause's status.
pub record Met (bs ws : List ℕ) (from at found : ℕ) : Type 0 where
  pub same : looked bs falsified (drop from ws) ≡ looked bs (so_far found) (drop at ws)
  pub literal : Found (length bs) found

-- What the clause asks for that begins at a place.
pub record Asks (bs ws : List ℕ) (from found : ℕ) : Type 0 where
  pub asked : so_far found ≡ looked bs falsified (drop from ws)
  pub literal : Found (length bs) found

-- An end word stands at a place or behind it.
abbrev pub Ended : List ℕ → ℕ → Type 0
Ended ws at = (e : ℕ) × (at ≤ e) × (e < length ws) × (kind (get_or ws e 0) ≡ 3)

-- A LOOK at the clause that begins at `from`: it found what the clause asks for, and it ended in the clause, so that the next one begins past the next end word.
pub record Sees (bs ws : List ℕ) (from found at : ℕ) : Type 0 where
  pub asks : Asks bs ws from found
  pub ended : Ended ws at
  pub past : past_end at (drop at ws) ≡ past_end from (drop from ws)

-- A list that passes the check with n Booleans, and bytes that fit it.
abbrev pub ListPasses : ℕ → List ℕ → Type 0
ListPasses n ws = list_from n 0 0 ws ≡ passed

abbrev pub Propagable : List ℕ → List ℕ → Type 0
Propagable ws bs = ListPasses (length bs) ws × Bytes bs

-- A PLACE BETWEEN TWO CLAUSES, or at an end of the list: the clauses before it and those behind it make up the list.
pub record Split (ws : List ℕ) (at : ℕ) (pre post : List Clause) : Type 0 where
  pub clauses : clauses_of ws ≡ pre ++ post
  pub place : at ≡ length (words_of pre)

abbrev pub Between : List ℕ → ℕ → Type 0
Between ws at = (pre : List Clause) × (post : List Clause) × Split ws at pre post

-- Such a place before which, or behind which, no clause asks for anything.
pub record StableBefore (ws bs : List ℕ) (at : ℕ) : Type 0 where
  pub pre : List Clause
  pub post : List Clause
  pub split : Split ws at pre post
  pub stable : Stable bs pre

pub record StableBehind (ws bs : List ℕ) (at : ℕ) : Type 0 where
  pub pre : List Clause
  pub post : List Clause
  pub split : Split ws at pre post
  pub stable : Stable bs post

-- The place of a pass's last change, by where the pass began and the place that it had come to with it.
abbrev pub changed_at : ℕ → ℕ → Option ℕ
changed_at began last = cond (eqb last began) None (Some last)

-- What a pass does: nothing, as no clause asks for anything; or it settles at least one Boolean, and what is said of the place of its last change holds; or there
-- is a conflict in what is settled.
abbrev pub AfterPass : (ℕ → Type 0) → List Clause → List ℕ → List ℕ → Result (Option ℕ) Conflict → Type 0
AfterPass Rest cs before after (Ok None) = (after ≡ before) × Stable before cs
AfterPass Rest cs before after (Ok (Some at)) = SoundExtension cs before after × (open_count after < open_count before) × Rest at
AfterPass Rest cs before after (Err x) = Conflicting cs (Derived cs before)

-- What is reached, or a conflict.
abbrev pub outcome_of : Result Unit Conflict → List ℕ → Outcome
outcome_of (Ok u) b = reached b
outcome_of (Err x) b = conflict
