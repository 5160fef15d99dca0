-- RIGHT HAND-INS, document 01's section on right drawings, over the levels and the bound of a constraint's base form, the records that are handed in and their edge
-- list. Levels are counted from 1 in a record and from 0 in the list: the levels behind the first `x.level` ones lie below record x. Assumes nothing.
use Rattle.std.specs.Prelude.{◌≡◌, ◌⊎◌, List, [], ◌∷◌, map, ℕ, suc, ◌+◌, ◌-◌, ◌≤◌, ◌<◌, ℤ, pos, negsuc, length, get_or}
use Rattle.word.specs.Word.{kind, payload}
use Rattle.word.specs.Edge.{Edge, F, T, to, edge_word}
use Rattle.word.specs.Record.{Record, no_record, most_nodes}
use Rattle.diagram.specs.Level.{Level, less}
use Rattle.diagram.specs.Label.{Label, Holds}
use Rattle.diagram.specs.Table.{Node}
use Rattle.diagram.specs.Claim.{level_at, BelowZero, AtTop, Leads}
use Rattle.diagram.specs.Flat.{node_in}

-- A word STANDS FOR an edge: one word each for F and T, and a word of kind 0 for the record whose number is its payload. No other word stands for any.
abbrev pub StandsFor : ℕ → Edge → Type 0
StandsFor w F = w ≡ edge_word F
StandsFor w T = w ≡ edge_word T
StandsFor w (to n) = (kind w ≡ 0) × (payload w ≡ n)

-- A record's label, and its level among the constraint's.
abbrev pub own_label : Record → Label
own_label x = record { lower = x.lower; upper = x.upper }

abbrev pub own_level : List Level → Record → Level
own_level ls x = level_at ls (x.level - 1)

-- THE DRAWING that is handed in: each record with its label and its children.
abbrev pub drawing_of : List Level → List Record → List ℕ → List Node
drawing_of ls xs es = map (node_in ls es) xs

-- Child j of a record LEADS RIGHT: its word stands for F, T or a record one level down, whose label holds every number of the record's own label less what j takes. F
-- and T are labelled as at the level right below the record's. (A right record's label has a number, so `holds` asks for the level too.)
pub record LeadsRight (ls : List Level) (xs : List Record) (es : List ℕ) (x : Record) (j : ℕ) : Type 0 where
  pub edge : Edge
  pub stands : StandsFor (get_or es (x.first + j) 0) edge
  pub holds : (z : ℤ) → Holds (own_label x) z → Leads ls (drawing_of ls xs es) x.level edge (less z ((own_level ls x).off j))

-- A RIGHT RECORD, wherever it stands.
pub record RightRecord (ls : List Level) (xs : List Record) (es : List ℕ) (x : Record) : Type 0 where
  -- its level is one of the constraint's, and its lower end is not above its upper
  pub above : 1 ≤ x.level
  pub below : x.level ≤ length ls
  pub filled : x.lower ≤ x.upper
  -- its edges, one for each value, lie in the edge list, and each leads right
  pub inside : x.first + suc (own_level ls x).dom ≤ length es
  pub child : (j : ℕ) → j ≤ (own_level ls x).dom → LeadsRight ls xs es x j

-- Record 0 is THE ROOT: it is at level 1 and holds the bound.
pub record RightRoot (a : ℤ) (x : Record) : Type 0 where
  pub first_level : x.level ≡ 1
  pub bound : Holds (own_label x) a

-- RECORD n IS RIGHT: by its number, as the root where it is record 0, and by itself.
pub record RightAt (ls : List Level) (a : ℤ) (xs : List Record) (es : List ℕ) (n : ℕ) : Type 0 where
  pub few : n < most_nodes
  pub root : n ≡ 0 → RightRoot a (get_or xs n no_record)
  pub alone : RightRecord ls xs es (get_or xs n no_record)

-- The bound is DECIDED: below 0, or at least R_1.
abbrev pub Decided : List Level → ℤ → Type 0
Decided ls a = BelowZero a ⊎ AtTop ls a

-- A RIGHT HAND-IN: every record is right, and there is none only where the bound is decided.
pub record RightHandIn (ls : List Level) (a : ℤ) (xs : List Record) (es : List ℕ) : Type 0 where
  pub each : (n : ℕ) → n < length xs → RightAt ls a xs es n
  pub empty : length xs ≡ 0 → Decided ls a

-- THE FIRST BAD RECORD is record n: all before it are right, and it is not. Of no records it is 0, where the bound is not decided.
pub record FirstBad (ls : List Level) (a : ℤ) (xs : List Record) (es : List ℕ) (n : ℕ) : Type 0 where
  pub before : (m : ℕ) → m < n → (m < length xs) × RightAt ls a xs es m
  pub bad : n < length xs → RightAt ls a xs es n → ⊥
  pub empty : length xs ≤ n → (n ≡ 0) × (Decided ls a → ⊥)

-- THE ROOT of a hand-in: record 0, and without records T or F, as the bound is decided.
abbrev pub root_in : ℤ → List Record → Edge
root_in (pos z) [] = T
root_in (negsuc z) [] = F
root_in a (x ∷ xs) = to 0
