-- NODE RECORDS AS STRUCTS: the records that a slice of them holds, and the flat table of the same records. Assumes nothing.
use Rattle.std.specs.Prelude.{List, map, ℕ}
use Rattle.word.specs.Record.{Record, flat}
use Rattle.finder_records.specs.declared.Node.{Node}

-- The record with the same fields.
abbrev pub fields_of : Node → Record
fields_of n = record { level = n.level; lower = n.lower; upper = n.upper; first = n.first; entering = n.entering }

-- THE RECORDS of a slice, in order.
abbrev pub records_of : List Node → List Record
records_of ns = map fields_of ns

-- THE WORDS of the same records in the flat table.
abbrev pub words_of_nodes : List Node → List ℕ
words_of_nodes ns = flat (records_of ns)
