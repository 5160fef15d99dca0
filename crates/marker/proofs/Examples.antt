-- EXERCISES P, Q AND R of document 01, handed in: right as the encoder draws them, right in other ways, and the first bad record where they are not.
-- Assumes nothing.
use mathlib.Core.Path.{◌≡◌, refl}
use mathlib.Core.List.{List, [], ◌∷◌, ◌++◌}
use Prim.Native.Nat.{ℕ}
use Rattle.word.specs.Record.{records}
use Rattle.std.specs.Prelude.{Err}
use Rattle.refusal.specs.Table.{passed}
use Rattle.refusal.specs.declared.Refusal.TheVariants.{BadRecord}
use Rattle.constraint_words.specs.Reading.{each_from, placed_from, terms_from, checked, as_written, stated}
use Rattle.marking.specs.Judged.{edge_right, each_value, record_right, right_at, each_record, judged}
use Rattle.marker.specs.Reply.{marked_reply}

abbrev words_p : List ℕ
words_p = 0x00000000 ∷ 0x40010001 ∷ []

abbrev words_q : List ℕ
words_q = 0x00000001 ∷ 0x40010001 ∷ []

abbrev words_r : List ℕ
words_r = 0x0000000C ∷ 0x40020002 ∷ 0x40030005 ∷ []

-- R's records behind the root, and its edges.
abbrev lower_r : List ℕ
lower_r = 2 ∷ 5 ∷ 9 ∷ 3 ∷ 1 ∷ 2 ∷ 10 ∷ 14 ∷ 7 ∷ 2 ∷ []

abbrev edges_r : List ℕ
edges_r = 2 ∷ 2 ∷ 1 ∷ 0xC0000001 ∷ 0xC0000001 ∷ 0xC0000000 ∷ 0xC0000000 ∷ 0xC0000001 ∷ 0xC0000001 ∷ 0xC0000001 ∷ 0xC0000000 ∷ []

-- P and R as document 01 has them.
pub right_p : marked_reply words_p (1 ∷ 0 ∷ 0 ∷ 0 ∷ 0 ∷ []) (0xC0000001 ∷ 0xC0000000 ∷ []) ≡ passed
unfolding records each_from placed_from terms_from checked as_written stated edge_right each_value record_right right_at each_record judged marked_reply
right_p = refl

pub right_r : marked_reply words_r ((1 ∷ 12 ∷ 13 ∷ 0 ∷ 0 ∷ []) ++ lower_r) edges_r ≡ passed
unfolding records each_from placed_from terms_from checked as_written stated edge_right each_value record_right right_at each_record judged marked_reply
right_r = refl

-- A narrower label is right, and so is a record for a root that is T.
pub narrower_r : marked_reply words_r ((1 ∷ 12 ∷ 12 ∷ 0 ∷ 0 ∷ []) ++ lower_r) edges_r ≡ passed
unfolding records each_from placed_from terms_from checked as_written stated edge_right each_value record_right right_at each_record judged marked_reply
narrower_r = refl

pub right_q : marked_reply words_q (1 ∷ 1 ∷ 0xFFFFFFFF ∷ 0 ∷ 0 ∷ []) (0xC0000001 ∷ 0xC0000001 ∷ []) ≡ passed
unfolding records each_from placed_from terms_from checked as_written stated edge_right each_value record_right right_at each_record judged marked_reply
right_q = refl

-- Without records Q is right and P is not.
pub none_q : marked_reply words_q [] [] ≡ passed
unfolding records each_from placed_from terms_from checked as_written stated judged marked_reply
none_q = refl

pub none_p : marked_reply words_p [] [] ≡ Err (BadRecord 0)
unfolding records each_from placed_from terms_from checked as_written stated judged marked_reply
none_p = refl

-- A label from child 0 alone is too wide, and zeros behind the last node are a record that is bad.
pub wider_r : marked_reply words_r ((1 ∷ 10 ∷ 14 ∷ 0 ∷ 0 ∷ []) ++ lower_r) edges_r ≡ Err (BadRecord 0)
unfolding records each_from placed_from terms_from checked as_written stated edge_right each_value record_right right_at each_record judged marked_reply
wider_r = refl

pub zeros_r : marked_reply words_r ((1 ∷ 12 ∷ 13 ∷ 0 ∷ 0 ∷ []) ++ lower_r ++ (0 ∷ 0 ∷ 0 ∷ 0 ∷ 0 ∷ [])) edges_r ≡ Err (BadRecord 3)
unfolding records each_from placed_from terms_from checked as_written stated edge_right each_value record_right right_at each_record judged marked_reply
zeros_r = refl

-- A first place near 2^32 does not wrap.
pub wrapped_p : marked_reply words_p (1 ∷ 0 ∷ 0 ∷ 0xFFFFFFFF ∷ 0 ∷ []) (0xC0000001 ∷ 0xC0000000 ∷ []) ≡ Err (BadRecord 0)
unfolding records each_from placed_from terms_from checked as_written stated edge_right each_value record_right right_at each_record judged marked_reply
wrapped_p = refl
