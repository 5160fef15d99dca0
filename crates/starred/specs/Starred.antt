-- THE STARRED EXERCISES of document 01, one table, and the one fact that the encoder's definitions give what it says: the reply's values, and what the three
-- lent lists hold after the call. What document 01 does not print of a row (the other children, edge lists and clause words) was worked out apart from these
-- definitions, from the meaning alone: by listing all choices and which of them each right-hand side allows. Assumes nothing.
use Rattle.refusal.specs.declared.Refusal.{Refusal}
use Rattle.filler.specs.declared.Counts.{Counts}
use Rattle.std.specs.Prelude.{◌≡◌, refl, List, [], ◌∷◌, ◌++◌, map, ℕ, suc, ◌*◌, replicate, Result}
use Rattle.word.specs.Record.{record_words, flat}
use Rattle.diagram.specs.Label.{overlap, label_of}
use Rattle.diagram.specs.Table.{insert, place, add_key, add_row, keys_below, root_keys, edge_to, row, node_of_key, nodes_from, table, root}
use Rattle.diagram.specs.Entering.{times, entering}
use Rattle.diagram.specs.Flat.{records_from, table_words, edge_words, edge_count}
use Rattle.diagram.specs.Constraint.{Constraint}
use Rattle.encoding.specs.Pattern.{order_words, node_words}
use Rattle.limits.specs.Limits.{main_limits}
use Rattle.constraint_words.specs.Reading.{each_from, placed_from, terms_from, checked, as_written, stated}
use Rattle.filler.specs.Filled.{nodes_for, clauses_for}
use Rattle.encoder_levels.specs.Reply.{EncodedValues, encoded_values, counts_within}
use Rattle.encoder.specs.Encoded.{encoded, encoded_left}

-- An exercise's words and its answer: the values of the reply, and the words of the three lent lists after the call, each of which has one word more than the
-- row's counts take.
pub record Exercise : Type 0 where
  pub words : List ℕ
  pub reply : EncodedValues
  pub table : List ℕ
  pub edges : List ℕ
  pub clauses : List ℕ

-- A lent list of n words and one more, before the call.
abbrev pub lent : ℕ → List ℕ
lent n = replicate (suc n) 7

-- An accepted exercise: the results, with a zero behind each. A refused one: the lists are as they were.
abbrev pub accepted_row : List ℕ → EncodedValues → List ℕ → List ℕ → List ℕ → Exercise
accepted_row ws r t e w = record { words = ws; reply = r; table = t ++ (0 ∷ []); edges = e ++ (0 ∷ []); clauses = w ++ (0 ∷ []) }

abbrev pub refused_row : List ℕ → EncodedValues → Exercise
refused_row ws r = record { words = ws; reply = r; table = lent 0; edges = lent 0; clauses = lent 0 }

-- Number and place of the refusal, and the counts of nodes, edges and clause words.
abbrev pub values : ℕ → ℕ → ℕ → ℕ → ℕ → EncodedValues
values number place nodes edges words = record { number = number; place = place; nodes = nodes; edges = edges; words = words }

-- What a call with such lists gives, under the main limits.
abbrev pub answered : Exercise → Result Counts Refusal → Constraint → Exercise
answered x r c =
    record {
      words = x.words;
      reply = encoded_values r;
      table = encoded_left r (lent (x.reply.nodes * record_words)) (table_words (nodes_for c));
      edges = encoded_left r (lent x.reply.edges) (edge_words (nodes_for c));
      clauses = encoded_left r (lent x.reply.words) (clauses_for c);
    }

abbrev pub given : Exercise → Exercise
given x = answered x (encoded main_limits x.words (suc (x.reply.nodes * record_words)) (suc x.reply.edges) (suc x.reply.words)) (stated x.words)

-- P's clause list, and R's three lists, which are S's too.
abbrev pub clauses_p : List ℕ
clauses_p = 0x80000002 ∷ 0xC0000001 ∷ 0xA0000003 ∷ 0xC0000001 ∷ 0x80000004 ∷ 0xC0000001 ∷ 0xA0000004 ∷ 0x80000002 ∷ 0xC0000002 ∷ 0xA0000004 ∷ 0x80000001 ∷ 0x80000003 ∷ 0xC0000003 ∷ []

abbrev pub table_r : List ℕ
table_r = 1 ∷ 12 ∷ 13 ∷ 0 ∷ 0 ∷ 2 ∷ 5 ∷ 9 ∷ 3 ∷ 1 ∷ 2 ∷ 10 ∷ 14 ∷ 7 ∷ 2 ∷ []

abbrev pub edges_r : List ℕ
edges_r = 2 ∷ 2 ∷ 1 ∷ 0xC0000001 ∷ 0xC0000001 ∷ 0xC0000000 ∷ 0xC0000000 ∷ 0xC0000001 ∷ 0xC0000001 ∷ 0xC0000001 ∷ 0xC0000000 ∷ []

abbrev pub clauses_r : List ℕ
clauses_r = 0xA0000001 ∷ 0x80000002 ∷ 0xC0000002 ∷ 0xA0000003 ∷ 0x80000004 ∷ 0xC0000002 ∷ 0xA0000004 ∷ 0x80000005 ∷ 0xC0000002 ∷ 0x80000006 ∷ 0xC0000001 ∷ 0xA0000007 ∷ 0xC0000001 ∷ 0x80000008 ∷ 0xC0000001 ∷ 0xA0000008 ∷ 0x8000000A ∷ 0xC0000002 ∷ 0xA0000008 ∷ 0x80000001 ∷ 0x8000000A ∷ 0xC0000003 ∷ 0xA0000008 ∷ 0x80000002 ∷ 0x80000009 ∷ 0xC0000003 ∷ 0xA0000009 ∷ 0x80000006 ∷ 0xC0000002 ∷ 0xA0000009 ∷ 0x80000003 ∷ 0x80000006 ∷ 0xC0000003 ∷ 0xA0000009 ∷ 0x80000004 ∷ 0x80000007 ∷ 0xC0000003 ∷ 0xA0000009 ∷ 0x80000005 ∷ 0x80000007 ∷ 0xC0000003 ∷ 0xA000000A ∷ 0x80000006 ∷ 0xC0000002 ∷ 0xA000000A ∷ 0x80000003 ∷ 0x80000006 ∷ 0xC0000003 ∷ 0xA000000A ∷ 0x80000004 ∷ 0x80000006 ∷ 0xC0000003 ∷ 0xA000000A ∷ 0x80000005 ∷ 0x80000007 ∷ 0xC0000003 ∷ []

-- Document 01 gives every row's refusal or count of nodes, and its count of clause words; what more of a row is document 01's is said above it.
pub exercises : List Exercise
exercises =
    -- P: the label, the children and the clause list.
    accepted_row (0x00000000 ∷ 0x40010001 ∷ []) (values 0 0 1 2 13)
    (1 ∷ 0 ∷ 0 ∷ 0 ∷ 0 ∷ [])
    (0xC0000001 ∷ 0xC0000000 ∷ [])
    clauses_p
    ∷
    -- Q: that the root is T, which the last clause says.
    accepted_row (0x00000001 ∷ 0x40010001 ∷ []) (values 0 0 0 0 6) [] []
    (0x80000002 ∷ 0xC0000001 ∷ 0xA0000003 ∷ 0xC0000001 ∷ 0x80000002 ∷ 0xC0000001 ∷ [])
    ∷
    -- R: all but the clause words, with request Six's numbers of entering edges.
    accepted_row (0x0000000C ∷ 0x40020002 ∷ 0x40030005 ∷ []) (values 0 0 3 11 56) table_r edges_r clauses_r
    ∷
    -- S: that all three lists are R's.
    accepted_row (0x0000000D ∷ 0x40020002 ∷ 0x40030005 ∷ []) (values 0 0 3 11 56) table_r edges_r clauses_r
    ∷
    -- U: the root's label and children.
    accepted_row (0x0000000B ∷ 0x40020002 ∷ 0x40030005 ∷ []) (values 0 0 3 11 56)
    (1 ∷ 10 ∷ 11 ∷ 0 ∷ 0 ∷ 2 ∷ 5 ∷ 9 ∷ 3 ∷ 2 ∷ 2 ∷ 10 ∷ 14 ∷ 7 ∷ 1 ∷ [])
    (2 ∷ 1 ∷ 1 ∷ 0xC0000001 ∷ 0xC0000001 ∷ 0xC0000000 ∷ 0xC0000000 ∷ 0xC0000001 ∷ 0xC0000001 ∷ 0xC0000001 ∷ 0xC0000000 ∷ [])
    (0xA0000001 ∷ 0x80000002 ∷ 0xC0000002 ∷ 0xA0000003 ∷ 0x80000004 ∷ 0xC0000002 ∷ 0xA0000004 ∷ 0x80000005 ∷ 0xC0000002 ∷ 0x80000006 ∷ 0xC0000001 ∷ 0xA0000007 ∷ 0xC0000001 ∷ 0x80000008 ∷ 0xC0000001 ∷ 0xA0000008 ∷ 0x8000000A ∷ 0xC0000002 ∷ 0xA0000008 ∷ 0x80000001 ∷ 0x80000009 ∷ 0xC0000003 ∷ 0xA0000008 ∷ 0x80000002 ∷ 0x80000009 ∷ 0xC0000003 ∷ 0xA0000009 ∷ 0x80000006 ∷ 0xC0000002 ∷ 0xA0000009 ∷ 0x80000003 ∷ 0x80000006 ∷ 0xC0000003 ∷ 0xA0000009 ∷ 0x80000004 ∷ 0x80000007 ∷ 0xC0000003 ∷ 0xA0000009 ∷ 0x80000005 ∷ 0x80000007 ∷ 0xC0000003 ∷ 0xA000000A ∷ 0x80000006 ∷ 0xC0000002 ∷ 0xA000000A ∷ 0x80000003 ∷ 0x80000006 ∷ 0xC0000003 ∷ 0xA000000A ∷ 0x80000004 ∷ 0x80000006 ∷ 0xC0000003 ∷ 0xA000000A ∷ 0x80000005 ∷ 0x80000007 ∷ 0xC0000003 ∷ [])
    ∷
    -- V: the labels, and by request Six the numbers of entering edges.
    accepted_row (0x00000009 ∷ 0x40010004 ∷ 0x40010002 ∷ 0x40010005 ∷ 0x40010004 ∷ []) (values 0 0 6 12 48)
    (1 ∷ 9 ∷ 9 ∷ 0 ∷ 0 ∷ 2 ∷ 5 ∷ 5 ∷ 2 ∷ 1 ∷ 2 ∷ 9 ∷ 10 ∷ 4 ∷ 1 ∷ 3 ∷ 0 ∷ 3 ∷ 6 ∷ 1 ∷ 3 ∷ 5 ∷ 8 ∷ 8 ∷ 2 ∷ 4 ∷ 0 ∷ 3 ∷ 10 ∷ 2 ∷ [])
    (2 ∷ 1 ∷ 4 ∷ 3 ∷ 0xC0000001 ∷ 4 ∷ 5 ∷ 0xC0000000 ∷ 0xC0000001 ∷ 5 ∷ 0xC0000001 ∷ 0xC0000000 ∷ [])
    (0x80000005 ∷ 0xC0000001 ∷ 0xA0000006 ∷ 0xC0000001 ∷ 0x80000007 ∷ 0xC0000001 ∷ 0xA0000007 ∷ 0x80000009 ∷ 0xC0000002 ∷ 0xA0000007 ∷ 0x80000001 ∷ 0x80000008 ∷ 0xC0000003 ∷ 0xA0000008 ∷ 0x8000000B ∷ 0xC0000002 ∷ 0xA0000008 ∷ 0x80000002 ∷ 0x8000000A ∷ 0xC0000003 ∷ 0xA0000009 ∷ 0x80000005 ∷ 0xC0000002 ∷ 0xA0000009 ∷ 0x80000002 ∷ 0x8000000B ∷ 0xC0000003 ∷ 0xA000000A ∷ 0x8000000C ∷ 0xC0000002 ∷ 0xA000000A ∷ 0x80000003 ∷ 0x80000006 ∷ 0xC0000003 ∷ 0xA000000B ∷ 0x80000005 ∷ 0xC0000002 ∷ 0xA000000B ∷ 0x80000003 ∷ 0x8000000C ∷ 0xC0000003 ∷ 0xA000000C ∷ 0x80000005 ∷ 0xC0000002 ∷ 0xA000000C ∷ 0x80000004 ∷ 0x80000006 ∷ 0xC0000003 ∷ [])
    ∷
    -- W: the root's label and children, both edges to node 1.
    accepted_row (0x00000003 ∷ 0x40010001 ∷ 0x40010005 ∷ []) (values 0 0 2 4 20)
    (1 ∷ 1 ∷ 4 ∷ 0 ∷ 0 ∷ 2 ∷ 0 ∷ 4 ∷ 2 ∷ 2 ∷ [])
    (1 ∷ 1 ∷ 0xC0000001 ∷ 0xC0000000 ∷ [])
    (0x80000003 ∷ 0xC0000001 ∷ 0xA0000004 ∷ 0xC0000001 ∷ 0x80000005 ∷ 0xC0000001 ∷ 0xA0000005 ∷ 0x80000006 ∷ 0xC0000002 ∷ 0xA0000005 ∷ 0x80000001 ∷ 0x80000006 ∷ 0xC0000003 ∷ 0xA0000006 ∷ 0x80000003 ∷ 0xC0000002 ∷ 0xA0000006 ∷ 0x80000002 ∷ 0x80000004 ∷ 0xC0000003 ∷ [])
    ∷
    -- X: all.
    refused_row (0x00000001 ∷ 0x40010001 ∷ 0x40000001 ∷ []) (values 4 2 0 0 0)
    ∷ []

-- THE ONE FACT: the definitions give every row.
pub marked : map given exercises ≡ exercises
unfolding overlap label_of insert place add_key add_row keys_below root_keys edge_to row node_of_key nodes_from table root times entering records_from flat edge_words edge_count order_words node_words each_from placed_from terms_from checked as_written stated counts_within encoded exercises
marked = refl
