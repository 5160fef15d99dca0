-- BOTH FORMS AGREE: a slice of node records and the flat table of the same words hold the same records, so the finder's definition gives the same reply on both.
-- Assumes nothing.
use mathlib.Core.Path.{◌≡◌, sym, ap}
use mathlib.Core.List.{List}
use Prim.Native.Nat.{ℕ}
use Rattle.word.specs.Record.{Record, records}
use Rattle.word.proofs.Laid.{flat_records}
use Rattle.finder.specs.Find.{find_in}
use Rattle.finder_records.specs.declared.Node.{Node}
use Rattle.finder_records.specs.Nodes.{records_of, words_of_nodes}

pub same_records : (ns : List Node) → records (words_of_nodes ns) ≡ records_of ns
same_records ns = flat_records (records_of ns)

pub same_reply : (ns : List Node) (level r : ℕ) → find_in (records_of ns) level r ≡ find_in (records (words_of_nodes ns)) level r
same_reply ns level r = ap (λ (xs : List Record). find_in xs level r) (sym (same_records ns))
