-- `marker::records::mark_records` meets its contract. The loop's invariant: the judgement is what is left of it from record k on. Assumes nothing.
use borrow.Author.Rules.{rules}
use Rattle.marker.proofs.Judging.{judging_starts, judging_ends, bad_place, bad_record, good_record}
use Rattle.marker.proofs.records.mark_records.Goals as goal

pub records-init : goal.records-init
records-init c = judging_starts _ _ _ _ c.requires

pub returns-then-not-place_right : goal.returns-then-not-place_right
returns-then-not-place_right c = bad_place _ _ _ _ _ c.records.invariant (search rules) _ c.read-x.ensures _ c.place_right.ensures c.if-not-place_right.true

pub returns-then-not-record_right : goal.returns-then-not-record_right
returns-then-not-record_right c = bad_record _ _ _ _ _ c.records.invariant (search rules) _ c.read-x.ensures _ (rw c.new-numbered.ensures at c.record_right.ensures) c.if-not-record_right.true

pub records-preserved : goal.records-preserved
records-preserved c =
    good_record _ _ _ _ _ c.records.invariant (search rules) _ c.read-x.ensures _ _ c.place_right.ensures c.if-not-place_right.false (rw c.new-numbered.ensures at c.record_right.ensures) c.if-not-record_right.false

pub returns : goal.returns
returns c = judging_ends _ _ _ _ _ c.records.invariant (search rules)
