-- THE JUDGEMENT OF A HAND-IN, computed record by record. Assumes nothing.
use Rattle.std.specs.Prelude.{Bool, true, false, cond, ◌&&◌, List, [], ◌∷◌, ℕ, suc, ◌+◌, ltb, leb, eqb, ℤ, pos, negsuc, length, get_or, take, drop}
use Rattle.word.specs.Word.{kind}
use Rattle.word.specs.Edge.{Edge, F, T, to, edge_in}
use Rattle.word.specs.Record.{Record, no_record, most_nodes}
use Rattle.refusal.specs.Table.{and_then, unless}
use Rattle.refusal.specs.Table.{Checked}
use Rattle.refusal.specs.Table.{passed}
use Rattle.refusal.specs.declared.Refusal.TheVariants.{BadRecord}
use Rattle.diagram.specs.Level.{Level, R}
use Rattle.diagram.specs.Label.{Start, no_start, from, End, no_end, below, Interval, interval, label_t, label_f, up, Label}
use Rattle.marking.specs.HandIn.{own_label, own_level}

-- A label with both ends as an interval.
abbrev pub interval_of : Label → Interval
interval_of b = interval (from b.lower) (below (suc b.upper))

-- EVERY NUMBER OF A LABEL, from its lower to its upper end, lies in an interval: both ends do.
abbrev pub starts_by : Start → ℕ → Bool
starts_by no_start x = true
starts_by (from s) x = leb s x

abbrev pub ends_after : End → ℕ → Bool
ends_after no_end x = true
ends_after (below e) x = ltb x e

abbrev pub covers : Interval → Label → Bool
covers a b = starts_by a.start b.lower && ends_after a.end b.upper

-- A number is that of a record of a level, and a word of kind 0.
abbrev pub names_record : List Record → ℕ → ℕ → Bool
names_record xs level k = eqb (kind k) 0 && (ltb k (length xs) && eqb (get_or xs k no_record).level level)

-- AN EDGE IS RIGHT for the label b of its record, where its value takes o and T is labelled `top`: its end has a label that, moved up by o, covers b. By the end,
-- and by the edge's word.
abbrev pub end_right : Interval → List Record → ℕ → Label → ℕ → Edge → Bool
end_right top xs level b o F = covers (up o label_f) b
end_right top xs level b o T = covers (up o top) b
end_right top xs level b o (to k) = names_record xs level k && covers (up o (interval_of (own_label (get_or xs k no_record)))) b

unfoldable pub edge_right : Interval → List Record → ℕ → Label → ℕ → ℕ → Bool
edge_right top xs level b o w = end_right top xs level b o (edge_in w)

-- A test of each word with its value, from a value on.
unfoldable pub each_value : (ℕ → ℕ → Bool) → ℕ → List ℕ → Bool
each_value test j [] = true
each_value test j (w ∷ ws) = let more : Bool = each_value test (suc j) ws in test j w && more

-- A RECORD'S ROW: the words of its edges, one for each value; and it is right where each of its edges is.
abbrev pub own_row : List Level → List ℕ → Record → List ℕ
own_row ls es x = take (suc (own_level ls x).dom) (drop x.first es)

abbrev pub row_right : List Level → List Record → List ℕ → Record → Bool
row_right ls xs es x =
    each_value (λ j. edge_right (label_t (drop x.level ls)) xs (suc x.level) (own_label x) ((own_level ls x).off j)) 0 (own_row ls es x)

-- A RECORD IS RIGHT, wherever it stands.
unfoldable pub record_right : List Level → List Record → List ℕ → Record → Bool
record_right ls xs es x =
    (leb 1 x.level && leb x.level (length ls))
    && (leb x.lower x.upper && (leb (x.first + suc (own_level ls x).dom) (length es) && row_right ls xs es x))

-- A record is right as THE ROOT: it is at level 1 and holds the bound.
abbrev pub holds_bound : Label → ℤ → Bool
holds_bound b (pos z) = leb b.lower z && leb z b.upper
holds_bound b (negsuc z) = false

abbrev pub root_right : ℤ → Record → Bool
root_right a x = eqb x.level 1 && holds_bound (own_label x) a

-- A record is right BY ITS NUMBER: this is below the most, and number 0 is the root's.
abbrev pub place_right : ℤ → ℕ → Record → Bool
place_right a k x = ltb k most_nodes && cond (eqb k 0) (root_right a x) true

-- A RECORD OF A NUMBER is right: by the number, and by itself.
unfoldable pub right_at : List Level → ℤ → List Record → List ℕ → ℕ → Record → Bool
right_at ls a xs es k x = place_right a k x && record_right ls xs es x

-- The first record that fails a test, from a number on.
unfoldable pub each_record : (ℕ → Record → Bool) → ℕ → List Record → Checked
each_record test k [] = passed
each_record test k (x ∷ xs) =
    let more : Checked = each_record test (suc k) xs in
    and_then (unless (test k x) (BadRecord k)) more

-- Without records the bound must be decided: below 0, or at least R_1.
abbrev pub decided : List Level → ℤ → Bool
decided ls (pos z) = leb (R ls) z
decided ls (negsuc z) = true

-- THE JUDGEMENT: refusal 20 with the first bad record, if there is one.
unfoldable pub judged : List Level → ℤ → List Record → List ℕ → Checked
judged ls a [] es = unless (decided ls a) (BadRecord 0)
judged ls a (x ∷ xs) es = each_record (right_at ls a (x ∷ xs) es) 0 (x ∷ xs)
