-- EXERCISES OF REQUEST FIVE of document 02, one table like the starred one, and the one fact that the encoder's definitions give what it says. What the request
-- does not print of a row (edge lists and clause words) was worked out by a separately written encoder. Assumes nothing.
use Rattle.std.specs.Prelude.{◌≡◌, refl, List, [], ◌∷◌, map, replicate}
use Rattle.word.specs.Record.{flat}
use Rattle.diagram.specs.Label.{overlap, label_of}
use Rattle.diagram.specs.Table.{insert, place, add_key, add_row, keys_below, root_keys, edge_to, row, node_of_key, nodes_from, table, root}
use Rattle.diagram.specs.Entering.{times, entering}
use Rattle.diagram.specs.Flat.{records_from, edge_words, edge_count}
use Rattle.encoding.specs.Pattern.{order_words, node_words}
use Rattle.constraint_words.specs.Reading.{each_from, placed_from, terms_from, checked, as_written, stated}
use Rattle.encoder_levels.specs.Reply.{counts_within}
use Rattle.encoder.specs.Encoded.{encoded}
use Rattle.starred.specs.Starred.{Exercise, accepted_row, refused_row, values, given}

pub signs : List Exercise
signs =
    -- 3u − 2v ≥ −4, with u from 0 to 4 and v from −2 to 5.
    accepted_row (0x1FFFFFFC ∷ 0xC0000002 ∷ 0x40040003 ∷ 0x9FFFFFFE ∷ 0x60070002 ∷ []) (values 0 0 3 21 114)
    (1 ∷ 20 ∷ 20 ∷ 0 ∷ 0 ∷ 2 ∷ 8 ∷ 9 ∷ 5 ∷ 1 ∷ 2 ∷ 10 ∷ 11 ∷ 13 ∷ 1 ∷ [])
    (0xC0000001 ∷ 0xC0000001 ∷ 0xC0000001 ∷ 0x00000002 ∷ 0x00000001 ∷ 0xC0000001 ∷ 0xC0000001 ∷ 0xC0000001 ∷ 0xC0000001 ∷ 0xC0000001 ∷ 0xC0000000 ∷ 0xC0000000 ∷ 0xC0000000 ∷ 0xC0000001 ∷ 0xC0000001 ∷ 0xC0000001 ∷ 0xC0000001 ∷ 0xC0000001 ∷ 0xC0000001 ∷ 0xC0000000 ∷ 0xC0000000 ∷ [])
    (0xA0000001 ∷ 0x80000002 ∷ 0xC0000002 ∷ 0xA0000002 ∷ 0x80000003 ∷ 0xC0000002 ∷ 0xA0000003 ∷ 0x80000004 ∷ 0xC0000002 ∷ 0xA0000005 ∷ 0x80000006 ∷ 0xC0000002 ∷ 0xA0000006 ∷ 0x80000007 ∷ 0xC0000002 ∷ 0xA0000007 ∷ 0x80000008 ∷ 0xC0000002 ∷ 0xA0000008 ∷ 0x80000009 ∷ 0xC0000002 ∷ 0xA0000009 ∷ 0x8000000A ∷ 0xC0000002 ∷ 0xA000000A ∷ 0x8000000B ∷ 0xC0000002 ∷ 0x8000000C ∷ 0xC0000001 ∷ 0xA000000D ∷ 0xC0000001 ∷ 0x8000000E ∷ 0xC0000001 ∷ 0xA000000E ∷ 0x8000000C ∷ 0xC0000002 ∷ 0xA000000E ∷ 0x80000001 ∷ 0x8000000C ∷ 0xC0000003 ∷ 0xA000000E ∷ 0x80000002 ∷ 0x8000000C ∷ 0xC0000003 ∷ 0xA000000E ∷ 0x80000003 ∷ 0x80000010 ∷ 0xC0000003 ∷ 0xA000000E ∷ 0x80000004 ∷ 0x8000000F ∷ 0xC0000003 ∷ 0xA000000F ∷ 0x8000000C ∷ 0xC0000002 ∷ 0xA000000F ∷ 0x80000005 ∷ 0x8000000C ∷ 0xC0000003 ∷ 0xA000000F ∷ 0x80000006 ∷ 0x8000000C ∷ 0xC0000003 ∷ 0xA000000F ∷ 0x80000007 ∷ 0x8000000C ∷ 0xC0000003 ∷ 0xA000000F ∷ 0x80000008 ∷ 0x8000000C ∷ 0xC0000003 ∷ 0xA000000F ∷ 0x80000009 ∷ 0x8000000D ∷ 0xC0000003 ∷ 0xA000000F ∷ 0x8000000A ∷ 0x8000000D ∷ 0xC0000003 ∷ 0xA000000F ∷ 0x8000000B ∷ 0x8000000D ∷ 0xC0000003 ∷ 0xA0000010 ∷ 0x8000000C ∷ 0xC0000002 ∷ 0xA0000010 ∷ 0x80000005 ∷ 0x8000000C ∷ 0xC0000003 ∷ 0xA0000010 ∷ 0x80000006 ∷ 0x8000000C ∷ 0xC0000003 ∷ 0xA0000010 ∷ 0x80000007 ∷ 0x8000000C ∷ 0xC0000003 ∷ 0xA0000010 ∷ 0x80000008 ∷ 0x8000000C ∷ 0xC0000003 ∷ 0xA0000010 ∷ 0x80000009 ∷ 0x8000000C ∷ 0xC0000003 ∷ 0xA0000010 ∷ 0x8000000A ∷ 0x8000000D ∷ 0xC0000003 ∷ 0xA0000010 ∷ 0x8000000B ∷ 0x8000000D ∷ 0xC0000003 ∷ [])
    ∷
    -- y > 3, with y from 0 to 3: no choice is allowed, and the root is F.
    accepted_row (0x20000003 ∷ 0xC0000003 ∷ 0x40030001 ∷ []) (values 0 0 0 0 12)
    []
    []
    (0xA0000001 ∷ 0x80000002 ∷ 0xC0000002 ∷ 0xA0000002 ∷ 0x80000003 ∷ 0xC0000002 ∷ 0x80000004 ∷ 0xC0000001 ∷ 0xA0000005 ∷ 0xC0000001 ∷ 0x80000005 ∷ 0xC0000001 ∷ [])
    ∷
    -- y ≥ 3, with y from 0 to 3.
    accepted_row (0x20000003 ∷ 0xC0000002 ∷ 0x40030001 ∷ []) (values 0 0 1 4 27)
    (1 ∷ 0 ∷ 0 ∷ 0 ∷ 0 ∷ [])
    (0xC0000001 ∷ 0xC0000000 ∷ 0xC0000000 ∷ 0xC0000000 ∷ [])
    (0xA0000001 ∷ 0x80000002 ∷ 0xC0000002 ∷ 0xA0000002 ∷ 0x80000003 ∷ 0xC0000002 ∷ 0x80000004 ∷ 0xC0000001 ∷ 0xA0000005 ∷ 0xC0000001 ∷ 0x80000006 ∷ 0xC0000001 ∷ 0xA0000006 ∷ 0x80000004 ∷ 0xC0000002 ∷ 0xA0000006 ∷ 0x80000001 ∷ 0x80000005 ∷ 0xC0000003 ∷ 0xA0000006 ∷ 0x80000002 ∷ 0x80000005 ∷ 0xC0000003 ∷ 0xA0000006 ∷ 0x80000003 ∷ 0x80000005 ∷ 0xC0000003 ∷ [])
    ∷
    -- −y ≤ 5, with y from 0 to 1: every choice is allowed, and the root is T.
    accepted_row (0x00000005 ∷ 0x60010001 ∷ []) (values 0 0 0 0 6)
    []
    []
    (0x80000002 ∷ 0xC0000001 ∷ 0xA0000003 ∷ 0xC0000001 ∷ 0x80000002 ∷ 0xC0000001 ∷ [])
    ∷
    -- Refusals: 2 before 17 and 18, the earlier word of 17 and 18, both before 3, and the places of 2 and 3.
    refused_row (0x00000000 ∷ 0xC0000004 ∷ 0x00000000 ∷ []) (values 2 2 0 0 0)
    ∷
    refused_row (0x00000000 ∷ 0xC0000004 ∷ 0xA0000000 ∷ 0x40010001 ∷ []) (values 17 1 0 0 0)
    ∷
    refused_row (0x00000000 ∷ 0xC0000004 ∷ 0xA00F4241 ∷ 0x40010001 ∷ []) (values 17 1 0 0 0)
    ∷
    refused_row (0x00000000 ∷ 0xA00F4241 ∷ 0x40010001 ∷ []) (values 18 1 0 0 0)
    ∷
    refused_row (0x00000000 ∷ 0xA00F4241 ∷ 0xC0000004 ∷ []) (values 2 2 0 0 0)
    ∷
    refused_row (0x00000000 ∷ 0x9FFFFFFF ∷ 0x9FFFFFFF ∷ 0x40010001 ∷ []) (values 2 2 0 0 0)
    ∷
    refused_row (0x00000000 ∷ 0xA0000001 ∷ []) (values 2 2 0 0 0)
    ∷
    refused_row (0x00000000 ∷ 0xC0000004 ∷ []) (values 17 1 0 0 0)
    ∷
    refused_row (0x00000000 ∷ 0xA00F4241 ∷ replicate 65 0x40010001) (values 18 1 0 0 0)
    ∷
    refused_row (0x00000000 ∷ 0xC0000000 ∷ []) (values 3 2 0 0 0)
    ∷
    refused_row (0x20000000 ∷ 0xC0000000 ∷ replicate 65 0x40010001) (values 3 67 0 0 0)
    ∷
    refused_row (0x00000000 ∷ 0x60000001 ∷ []) (values 4 1 0 0 0)
    ∷
    refused_row (0xC0000000 ∷ []) (values 2 0 0 0 0)
    ∷ []

-- THE ONE FACT: the definitions give every row.
pub signs_marked : map given signs ≡ signs
unfolding overlap label_of insert place add_key add_row keys_below root_keys edge_to row node_of_key nodes_from table root times entering records_from flat edge_words edge_count order_words node_words each_from placed_from terms_from checked as_written stated counts_within encoded signs
signs_marked = refl
