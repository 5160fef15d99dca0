-- EXERCISE R of document 01 handed in as bytes, as the encoder draws it and with the last label one too wide, and the lines that are printed. Assumes nothing.
use Rattle.std.specs.Prelude.{◌≡◌, refl, List, [], ◌∷◌, ℕ}
use Rattle.word.specs.Record.{records}
use Rattle.text.specs.Decimal.{decimal_in, decimal}
use Rattle.constraint_words.specs.Reading.{each_from, placed_from, terms_from, checked, as_written, stated}
use Rattle.marking.specs.Judged.{edge_right, each_value, record_right, right_at, each_record, judged}
use Rattle.marker.specs.Reply.{marked_reply}
use Rattle.printout.specs.Shown.{words_in}
use Rattle.printout_marking.specs.Printed.{right_line, record_line, counted_answer, bytes_answer, mark_text}

-- The four bytes of a small number, and of an edge to F or T by its last byte, in front of others.
abbrev small : ℕ → List ℕ → List ℕ
small n bs = 0 ∷ 0 ∷ 0 ∷ n ∷ bs

abbrev leaf : ℕ → List ℕ → List ℕ
leaf n bs = 0xC0 ∷ 0 ∷ 0 ∷ n ∷ bs

-- A record of small numbers.
abbrev record_of : ℕ → ℕ → ℕ → ℕ → ℕ → List ℕ → List ℕ
record_of level lower upper first entering bs = small level (small lower (small upper (small first (small entering bs))))

-- The constraint with the count of its words.
abbrev constraint_r : List ℕ → List ℕ
constraint_r bs = small 3 (small 12 (0x40 ∷ 0x02 ∷ 0x00 ∷ 0x02 ∷ 0x40 ∷ 0x03 ∷ 0x00 ∷ 0x05 ∷ bs))

-- The table with the count of its words; the last record's upper end is the number given.
abbrev table_r : ℕ → List ℕ → List ℕ
table_r upper bs = small 15 (record_of 1 12 13 0 0 (record_of 2 5 9 3 1 (record_of 2 10 upper 7 2 bs)))

abbrev edges_r : List ℕ
edges_r = small 2 (small 2 (small 1 (leaf 1 (leaf 1 (leaf 0 (leaf 0 (leaf 1 (leaf 1 (leaf 1 (leaf 0 []))))))))))

pub marked_r : mark_text (constraint_r (table_r 14 edges_r)) ≡ right_line
unfolding records each_from placed_from terms_from checked as_written stated edge_right each_value record_right right_at each_record judged marked_reply words_in counted_answer bytes_answer
marked_r = refl

pub marked_wider : mark_text (constraint_r (table_r 15 edges_r)) ≡ record_line 2
unfolding records decimal_in decimal each_from placed_from terms_from checked as_written stated edge_right each_value record_right right_at each_record judged marked_reply words_in counted_answer bytes_answer
marked_wider = refl
