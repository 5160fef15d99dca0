-- THE LINES that the printing program writes, as bytes, after document 01's section on it and document 02. Assumes nothing.
use Rattle.std.specs.Prelude.{List, [], ◌∷◌, ◌++◌, ℕ, suc}
use Rattle.text.specs.Decimal.{decimal}
use Rattle.word.specs.Edge.{Edge, F, T, to}
use Rattle.refusal.specs.Table.{number_of, place_of}
use Rattle.refusal.specs.declared.Refusal.{Refusal}
use Rattle.diagram.specs.Table.{Node}
use Rattle.diagram.specs.Entering.{entering}
use Rattle.filler.specs.declared.Counts.{Counts}

abbrev pub newline : List ℕ
newline = 10 ∷ []

-- A further field of a line, behind a space.
abbrev pub field : ℕ → List ℕ
field n = 32 ∷ decimal n

-- A child: a node's number, `T` or `F`.
abbrev pub child : Edge → List ℕ
child F = 70 ∷ []
child T = 84 ∷ []
child (to k) = decimal k

unfoldable pub children : List Edge → List ℕ
children [] = []
children (e ∷ es) = 32 ∷ child e ++ children es

-- A node's line: number, level, lower end, upper end, the number of edges that enter it, and the children for the values from 0 on.
abbrev pub node_line : ℕ → ℕ → Node → List ℕ
node_line k count x = decimal k ++ field x.level ++ field x.lab.lower ++ field x.lab.upper ++ field count ++ children x.children ++ newline

-- The lines of a run of a table's nodes, the first of which has the number k.
unfoldable pub node_lines : List Node → ℕ → List Node → List ℕ
node_lines all k [] = []
node_lines all k (x ∷ xs) = node_line k (entering k all) x ++ node_lines all (suc k) xs

-- `nodes `, ` edges ` and ` words `, each with its count.
abbrev pub nodes_word : List ℕ
nodes_word = 110 ∷ 111 ∷ 100 ∷ 101 ∷ 115 ∷ 32 ∷ []

abbrev pub edges_word : List ℕ
edges_word = 32 ∷ 101 ∷ 100 ∷ 103 ∷ 101 ∷ 115 ∷ 32 ∷ []

abbrev pub words_word : List ℕ
words_word = 32 ∷ 119 ∷ 111 ∷ 114 ∷ 100 ∷ 115 ∷ 32 ∷ []

abbrev pub counts_line : Counts → List ℕ
counts_line n = nodes_word ++ decimal n.nodes ++ edges_word ++ decimal n.edges ++ words_word ++ decimal n.words ++ newline

-- `refused `, the number, ` at ` and the place.
abbrev pub refused_word : List ℕ
refused_word = 114 ∷ 101 ∷ 102 ∷ 117 ∷ 115 ∷ 101 ∷ 100 ∷ 32 ∷ []

abbrev pub at_word : List ℕ
at_word = 32 ∷ 97 ∷ 116 ∷ 32 ∷ []

abbrev pub refusal_line : Refusal → List ℕ
refusal_line x = refused_word ++ decimal (number_of x) ++ at_word ++ decimal (place_of x) ++ newline

-- `too long` and `bad length`.
abbrev pub too_long : List ℕ
too_long = 116 ∷ 111 ∷ 111 ∷ 32 ∷ 108 ∷ 111 ∷ 110 ∷ 103 ∷ 10 ∷ []

abbrev pub bad_length : List ℕ
bad_length = 98 ∷ 97 ∷ 100 ∷ 32 ∷ 108 ∷ 101 ∷ 110 ∷ 103 ∷ 116 ∷ 104 ∷ 10 ∷ []
