-- EXERCISE W of document 01 handed in, y₁ + 5·y₂ ≤ 3 with both up to 1, and some other constraints: a row for each rule of right drawings and for what is not read.
-- Assumes nothing.
use mathlib.Core.Path.{◌≡◌, refl}
use mathlib.Core.List.{List, [], ◌∷◌, ◌++◌}
use Prim.Native.Nat.{ℕ}
use Rattle.word.specs.Record.{records}
use Rattle.refusal.specs.Table.{Checked, passed}
use Rattle.std.specs.Prelude.{Err}
use Rattle.refusal.specs.declared.Refusal.TheVariants.{NoWords, BadRecord}
use Rattle.constraint_words.specs.Reading.{each_from, placed_from, terms_from, checked, as_written, stated}
use Rattle.marking.specs.Judged.{edge_right, each_value, record_right, right_at, each_record, judged}
use Rattle.marker.specs.Reply.{marked_reply}

-- W's words, its two records and its edges; and refusal 20.
abbrev words_w : List ℕ
words_w = 0x00000003 ∷ 0x40010001 ∷ 0x40010005 ∷ []

abbrev root_w : List ℕ
root_w = 1 ∷ 1 ∷ 4 ∷ 0 ∷ 0 ∷ []

abbrev node_w : List ℕ
node_w = 2 ∷ 0 ∷ 4 ∷ 2 ∷ 2 ∷ []

abbrev edges_w : List ℕ
edges_w = 1 ∷ 1 ∷ 0xC0000001 ∷ 0xC0000000 ∷ []

abbrev bad : ℕ → Checked
bad n = Err (BadRecord n)

pub right_w : marked_reply words_w (root_w ++ node_w) edges_w ≡ passed
unfolding records each_from placed_from terms_from checked as_written stated edge_right each_value record_right right_at each_record judged marked_reply
right_w = refl

-- A record 1 that is bad by itself is the first bad one; a child with an empty label makes its parent bad.
pub child_bad : marked_reply words_w (root_w ++ (2 ∷ 0 ∷ 5 ∷ 2 ∷ 2 ∷ [])) edges_w ≡ bad 1
unfolding records each_from placed_from terms_from checked as_written stated edge_right each_value record_right right_at each_record judged marked_reply
child_bad = refl

pub child_empty : marked_reply words_w (root_w ++ (2 ∷ 4 ∷ 0 ∷ 2 ∷ 2 ∷ [])) edges_w ≡ bad 0
unfolding records each_from placed_from terms_from checked as_written stated edge_right each_value record_right right_at each_record judged marked_reply
child_empty = refl

-- Nodes may repeat, and an edge from the last level may lead to a record behind it, which is bad by itself.
pub repeated_node : marked_reply words_w (root_w ++ node_w ++ node_w) (1 ∷ 2 ∷ 0xC0000001 ∷ 0xC0000000 ∷ []) ≡ passed
unfolding records each_from placed_from terms_from checked as_written stated edge_right each_value record_right right_at each_record judged marked_reply
repeated_node = refl

pub past_last_level : marked_reply words_w (root_w ++ node_w ++ (3 ∷ 0 ∷ 10 ∷ 0 ∷ 0 ∷ [])) (1 ∷ 1 ∷ 2 ∷ 0xC0000000 ∷ []) ≡ bad 2
unfolding records each_from placed_from terms_from checked as_written stated edge_right each_value record_right right_at each_record judged marked_reply
past_last_level = refl

-- Words of other kinds are no edges, nor is a number past the last record or one of the same level.
pub kind_1 : marked_reply words_w (root_w ++ node_w) (0x40000001 ∷ 1 ∷ 0xC0000001 ∷ 0xC0000000 ∷ []) ≡ bad 0
unfolding records each_from placed_from terms_from checked as_written stated edge_right each_value record_right right_at each_record judged marked_reply
kind_1 = refl

pub kind_3 : marked_reply words_w (root_w ++ node_w) (1 ∷ 1 ∷ 0xC0000002 ∷ 0xC0000000 ∷ []) ≡ bad 1
unfolding records each_from placed_from terms_from checked as_written stated edge_right each_value record_right right_at each_record judged marked_reply
kind_3 = refl

pub number_past_last : marked_reply words_w (root_w ++ node_w) (2 ∷ 1 ∷ 0xC0000001 ∷ 0xC0000000 ∷ []) ≡ bad 0
unfolding records each_from placed_from terms_from checked as_written stated edge_right each_value record_right right_at each_record judged marked_reply
number_past_last = refl

pub own_level_edge : marked_reply words_w (root_w ++ node_w) (0 ∷ 1 ∷ 0xC0000001 ∷ 0xC0000000 ∷ []) ≡ bad 0
unfolding records each_from placed_from terms_from checked as_written stated edge_right each_value record_right right_at each_record judged marked_reply
own_level_edge = refl

-- The fifth word, half a record and edges that no record has are not read; edges that are missing are missed.
pub not_read : marked_reply words_w ((1 ∷ 1 ∷ 4 ∷ 0 ∷ 77 ∷ []) ++ node_w ++ (9 ∷ 9 ∷ 9 ∷ 9 ∷ [])) (edges_w ++ (0x77777777 ∷ [])) ≡ passed
unfolding records each_from placed_from terms_from checked as_written stated edge_right each_value record_right right_at each_record judged marked_reply
not_read = refl

pub edge_missing : marked_reply words_w (root_w ++ node_w) (1 ∷ 1 ∷ 0xC0000001 ∷ []) ≡ bad 1
unfolding records each_from placed_from terms_from checked as_written stated edge_right each_value record_right right_at each_record judged marked_reply
edge_missing = refl

-- Where T skips a level its label is still that of the level right below the record's: 5 and above at the root, for 6 less what y₁ takes.
pub skips : marked_reply (0x00000006 ∷ 0x40010001 ∷ 0x40010005 ∷ []) (1 ∷ 6 ∷ 6 ∷ 0 ∷ 0 ∷ []) (0xC0000001 ∷ 0xC0000001 ∷ []) ≡ passed
unfolding records each_from placed_from terms_from checked as_written stated edge_right each_value record_right right_at each_record judged marked_reply
skips = refl

pub skips_wide : marked_reply (0x00000006 ∷ 0x40010001 ∷ 0x40010005 ∷ []) (1 ∷ 5 ∷ 6 ∷ 0 ∷ 0 ∷ []) (0xC0000001 ∷ 0xC0000001 ∷ []) ≡ bad 0
unfolding records each_from placed_from terms_from checked as_written stated edge_right each_value record_right right_at each_record judged marked_reply
skips_wide = refl

-- y > 3 with y from 0 to 3: the base bound is below 0, and no label holds it.
pub below_none_right : marked_reply (0x20000003 ∷ 0xC0000003 ∷ 0x40030001 ∷ []) [] [] ≡ passed
unfolding records each_from placed_from terms_from checked as_written stated edge_right each_value record_right right_at each_record judged marked_reply
below_none_right = refl

pub below_some_bad : marked_reply (0x20000003 ∷ 0xC0000003 ∷ 0x40030001 ∷ []) (1 ∷ 0 ∷ 0 ∷ 0 ∷ 0 ∷ []) [] ≡ bad 0
unfolding records each_from placed_from terms_from checked as_written stated edge_right each_value record_right right_at each_record judged marked_reply
below_some_bad = refl

-- 65,535 y ≤ 0 with y from −1,000,000: the base bound is beyond 32 bits, and no label holds it either.
pub beyond_none : marked_reply (0x00000000 ∷ 0x9FF0BDC0 ∷ 0x4001FFFF ∷ []) [] [] ≡ passed
unfolding records each_from placed_from terms_from checked as_written stated edge_right each_value record_right right_at each_record judged marked_reply
beyond_none = refl

pub beyond_some : marked_reply (0x00000000 ∷ 0x9FF0BDC0 ∷ 0x4001FFFF ∷ []) (1 ∷ 65535 ∷ 0xFFFFFFFF ∷ 0 ∷ 0 ∷ []) (0xC0000001 ∷ 0xC0000001 ∷ []) ≡ bad 0
unfolding records each_from placed_from terms_from checked as_written stated edge_right each_value record_right right_at each_record judged marked_reply
beyond_some = refl

-- A refusal of the constraint comes first.
pub words_first : marked_reply [] (root_w ++ node_w) edges_w ≡ Err NoWords
unfolding records each_from placed_from terms_from checked as_written stated edge_right each_value record_right right_at each_record judged marked_reply
words_first = refl
