-- NO TEXT IS LONGER than its buffer with the program's room: a diagram's has at most 131,072 bytes, as numbers, node numbers among them, have at most 8 digits,
-- and a line 45 bytes besides its children; the clauses' has at most 196,608, as a word takes at most 11.
-- Assumes nothing.
use Rattle.std.proofs.Common.{Result}
use mathlib.Core.Path.{◌≡◌, refl, ap, subst}
use mathlib.Core.List.{List, [], ◌∷◌, ◌++◌, map}
use mathlib.Core.Bool.{Bool, true, false, cond}
use Prim.Native.Nat.{ℕ, suc, ◌+◌, ◌*◌, ◌%◌, ◌≤◌, ◌<◌}
use native.Mathlib.Omega.{arith}
use lib.Dec.{ltb, eqb}
use lib.ListN.{length, get_or, take, length-append, length-map}
use borrow.Author.Tests.{ltb-false}
use Rattle.word.specs.Record.{most_nodes}
use Rattle.word.specs.Edge.{Edge, F, T, to, edge_word}
use Rattle.text.specs.Decimal.{decimal}
use Rattle.refusal.specs.Table.{number_of, place_of, unless_refused}
use Rattle.refusal.specs.declared.Refusal.{Refusal}
use Rattle.refusal.specs.declared.Refusal.TheVariants.{NoWords, WrongKind, TermCount, DomainEnd, ZeroCoefficient, TooManyNodes, TooManyEdges, TooManyWords, ValueByte, ClauseWord, UnknownBoolean, LiteralCount, OpenClause, NoRoom, NotDimacs, WrongRelation, LowerEnd, BufferLength, BadRecord}
use Rattle.refusal.specs.Table.{Checked}
use Rattle.std.specs.Prelude.{Ok, Err}
use Rattle.refusal.specs.Table.{passed}
use Rattle.diagram.specs.Table.{Node}
use Rattle.diagram.specs.Claim.{node_at}
use Rattle.diagram.specs.Entering.{entering}
use Rattle.diagram.specs.Flat.{edge_words}
use Rattle.diagram.specs.Constraint.{Constraint, Within}
use Rattle.diagram.proofs.Terms.{levels_ascend, levels_length}
use Rattle.diagram.proofs.Drawn.{table_right}
use Rattle.diagram.proofs.Entering.{Inside, entering_few, right_inside}
use Rattle.encoding.proofs.Fits.{own_level_lem}
use Rattle.builder.proofs.Diagram.{label_ends}
use Rattle.limits.specs.Limits.{main_limits}
use Rattle.constraint_words.specs.Reading.{checked, stated}
use Rattle.constraint_words.proofs.Laws.{checked_within}
use Rattle.constraint_words.proofs.Refusals.{Said, placed_within}
use Rattle.constraint.proofs.Laws.{rest_fits}
use Rattle.filler.specs.declared.Counts.{Counts}
use Rattle.encoder_levels.specs.Reply.{counts_within}
use Rattle.encoder.specs.Encoded.{encoded}
use Rattle.filler.specs.Filled.{levels_in, nodes_for, root_for, clauses_for}
use Rattle.encoder.proofs.Meant.{edges_length, clause_words-length}
use Rattle.encoder.proofs.Answers.{AllFit, Sized, sized_counted}
use Rattle.printout_lines.specs.Text.{child, children, node_line, node_lines, counts_line, refusal_line, nodes_word, edges_word, words_word, refused_word, at_word, newline, field, too_long, bad_length}
use Rattle.printout.specs.Shown.{most_bytes, most_words, room_nodes, room_table, room_edges, room_clauses, words_in, accepted_text, reply_text, words_text, shown_in, shown, Shows, ShowsAll}
use Rattle.text.specs.Cut.{Printed}
use Rattle.text.proofs.Cuts.{printed_inside, printed_count, printed_all}
use Rattle.text.proofs.Decimals.{digits_few}
use Rattle.printout.proofs.Input as Input
use Rattle.dimacs_writer.proofs.Restored.{written_few}
use Rattle.printout.specs.declared.Form.{Form}
use Rattle.printout.specs.declared.Form.TheVariants.{Diagram, Clauses}

-- ---- Decimals

pub eight : (n : ℕ) → n < 100000000 → length (decimal n) ≤ 8
eight n h = digits_few 7 n h

-- ---- Lines

-- a child that is one of at most 100,000,000 nodes
child_few : (n : ℕ) (e : Edge) → n ≤ 100000000 → Inside n e → length (child e) ≤ 8
child_few n F h i = omega arith
child_few n T h i = omega arith
child_few n (to k) h i = eight k (omega arith)

children_few : (n : ℕ) (es : List Edge) → n ≤ 100000000 → ((j : ℕ) → j < length es → Inside n (get_or es j F)) → length (children es) ≤ 9 * length es
unfolding children
children_few n [] h i = omega arith
children_few n (e ∷ es) h i =
    omega (arith, length-append (32 ∷ child e) (children es), child_few n e h (i 0 (omega arith)), children_few n es h (λ j l. i (suc j) (omega arith)))

-- what makes the line of one of n nodes short
record Short (n : ℕ) (x : Node) : Type 0 where
  level : x.level < 100000000
  lower : x.lab.lower < 100000000
  upper : x.lab.upper < 100000000
  inside : (j : ℕ) → j < length x.children → Inside n (get_or x.children j F)

length_six : (a b c d e f : List ℕ) → length (a ++ b ++ c ++ d ++ e ++ f) ≡ length a + length b + length c + length d + length e + length f
length_six a b c d e f =
    omega (
      arith,
      length-append (a ++ b ++ c ++ d ++ e) f,
      length-append (a ++ b ++ c ++ d) e,
      length-append (a ++ b ++ c) d,
      length-append (a ++ b) c,
      length-append a b,
    )

line_few : (n k count : ℕ) (x : Node) → n ≤ 100000000 → k < n → count < 100000000 → Short n x → length (node_line k count x) ≤ 45 + 9 * length x.children
line_few n k count x h l e s =
    omega (
      arith,
      length-append (decimal k ++ field x.level ++ field x.lab.lower ++ field x.lab.upper ++ field count ++ children x.children) newline,
      length_six (decimal k) (field x.level) (field x.lab.lower) (field x.lab.upper) (field count) (children x.children),
      eight k (omega arith),
      eight x.level s.level,
      eight x.lab.lower s.lower,
      eight x.lab.upper s.upper,
      eight count e,
      children_few n x.children h s.inside,
    )

lines_few : (all : List Node) → length all ≤ 100000000 → length (edge_words all) < 100000000 → (k : ℕ) (ns : List Node) → k + length ns ≤ length all
    → ((m : ℕ) → m < length ns → Short (length all) (node_at ns m)) → length (node_lines all k ns) ≤ 45 * length ns + 9 * length (edge_words ns)
unfolding node_lines edge_words
lines_few all few edges k [] h s = omega arith
lines_few all few edges k (x ∷ xs) h s =
    omega (
      arith,
      length-append (node_line k (entering k all) x) (node_lines all (suc k) xs),
      length-append (map edge_word x.children) (edge_words xs),
      length-map x.children edge_word,
      line_few (length all) k (entering k all) x few (omega arith) (omega (arith, entering_few k all)) (s 0 (omega arith)),
      lines_few all few edges (suc k) xs (omega arith) (λ m l. s (suc m) (omega arith)),
    )

counts_few : (n : Counts) → n.nodes < 100000000 → n.edges < 100000000 → n.words < 100000000 → length (counts_line n) ≤ 45
counts_few n h k l =
    omega (
      arith,
      length-append (nodes_word ++ decimal n.nodes ++ edges_word ++ decimal n.edges ++ words_word ++ decimal n.words) newline,
      length_six nodes_word (decimal n.nodes) edges_word (decimal n.edges) words_word (decimal n.words),
      eight n.nodes h,
      eight n.edges k,
      eight n.words l,
    )

-- no row of documents 01 and 02 has a number above 28
number_few : (x : Refusal) → number_of x ≤ 28
number_few NoWords = omega arith
number_few (WrongKind at) = omega arith
number_few (TermCount at) = omega arith
number_few (DomainEnd at) = omega arith
number_few (ZeroCoefficient at) = omega arith
number_few TooManyNodes = omega arith
number_few TooManyEdges = omega arith
number_few TooManyWords = omega arith
number_few (ValueByte at) = omega arith
number_few (ClauseWord at) = omega arith
number_few (UnknownBoolean at) = omega arith
number_few (LiteralCount at) = omega arith
number_few (OpenClause at) = omega arith
number_few NoRoom = omega arith
number_few (NotDimacs at) = omega arith
number_few (WrongRelation at) = omega arith
number_few (LowerEnd at) = omega arith
number_few BufferLength = omega arith
number_few (BadRecord at) = omega arith

pub refusal_few : (x : Refusal) → place_of x < 100000000 → length (refusal_line x) ≤ 29
refusal_few x h =
    omega (
      arith,
      length_six refused_word (decimal (number_of x)) at_word (decimal (place_of x)) newline [],
      length-append (refused_word ++ decimal (number_of x) ++ at_word ++ decimal (place_of x) ++ newline) [],
      eight (number_of x) (omega (arith, number_few x)),
      eight (place_of x) h,
    )

-- ---- The nodes

nodes_short : (c : Constraint) → Within c → (m : ℕ) → m < length (nodes_for c) → Short (length (nodes_for c)) (node_at (nodes_for c) m)
nodes_short c within m h =
    let right = table_right (levels_in c) c.bound (levels_ascend c.terms) in
    let l = own_level_lem (levels_in c) c.bound (nodes_for c) (root_for c) right m h in
    let b = label_ends (levels_in c) (levels_ascend c.terms) c.bound m l.0 l.2 in
    let r = rest_fits c within l.0 in
    record {
      level = omega (arith, l.2.1, l.1, levels_length c.terms, within.few);
      lower = omega (arith, b.0, b.1, r);
      upper = omega (arith, b.1, r);
      inside = right_inside (levels_in c) c.bound (nodes_for c) (root_for c) right m h;
    }

-- ---- The text

-- how long a text may be, in either form
abbrev pub most : Form → ℕ
most Diagram = 131072
most Clauses = 196608

text_fits : (f : Form) (c : Constraint) → Within c → (m : Counts) → AllFit main_limits c room_table room_edges room_clauses m
    → length (accepted_text f m (nodes_for c) (clauses_for c)) ≤ most f
text_fits Diagram c within m s =
    let few : length (nodes_for c) ≤ room_nodes = omega (arith, s.nodes) in
    let wide : length (nodes_for c) ≤ most_nodes = omega arith in
    let edges : length (edge_words (nodes_for c)) ≤ room_edges = omega (arith, edges_length c within wide, s.edges) in
    let n = s.counts in
    omega (
      arith,
      length-append (counts_line m) (node_lines (nodes_for c) 0 (nodes_for c)),
      counts_few m (omega (arith, ap (λ (k : Counts). k.nodes) n)) (omega (arith, ap (λ (k : Counts). k.edges) n, s.edges)) (omega (arith, ap (λ (k : Counts). k.words) n, s.words)),
      lines_few (nodes_for c) (omega arith) (omega arith) 0 (nodes_for c) (omega arith) (nodes_short c within),
    )
text_fits Clauses c within m s =
    let wide : length (nodes_for c) ≤ most_nodes = omega (arith, s.nodes) in
    omega (arith, written_few (clauses_for c), clause_words-length c within wide, s.words)

words_fit : (f : Form) (ws : List ℕ) → length ws ≤ most_words → length (words_text f ws room_table room_edges room_clauses) ≤ most f
unfolding encoded
words_fit f ws h = go (checked main_limits ws) refl (placed_within main_limits ws)
  where
    line : (g : Form) (x : Refusal) → place_of x ≤ most_words → length (refusal_line x) ≤ most g
    line Diagram x k = omega (arith, refusal_few x (omega arith))
    line Clauses x k = omega (arith, refusal_few x (omega arith))

    reply : (r : Result Counts Refusal) → checked main_limits ws ≡ passed → Sized main_limits (stated ws) room_table room_edges room_clauses r → length (reply_text f r (nodes_for (stated ws)) (clauses_for (stated ws))) ≤ most f
    reply (Err x) p s = line f x (omega (arith, s))
    reply (Ok m) p s = text_fits f (stated ws) (checked_within main_limits ws p) m s

    go : (k : Checked) → checked main_limits ws ≡ k → Said (λ x. place_of x ≤ length ws) k
        → length (reply_text f (unless_refused Err k (counts_within main_limits (stated ws) room_table room_edges room_clauses)) (nodes_for (stated ws)) (clauses_for (stated ws))) ≤ most f
    go (Ok tt) e a = reply (counts_within main_limits (stated ws) room_table room_edges room_clauses) e (sized_counted main_limits (stated ws) room_table room_edges room_clauses)
    go (Err x) e a = line f x (omega arith)

-- THE BOUND
pub shown_fits : (f : Form) (bs : List ℕ) → length (shown f bs) ≤ most f
unfolding shown_in
shown_fits f bs = go (ltb most_bytes (length bs)) refl (eqb (length bs % 4) 0)
  where
    short : (g : Form) → 11 ≤ most g
    short Diagram = omega arith
    short Clauses = omega arith

    go : (p : Bool) → ltb most_bytes (length bs) ≡ p → (q : Bool) → length (cond p too_long (cond q (words_text f (words_in bs) room_table room_edges room_clauses) bad_length)) ≤ most f
    go true e q = omega (arith, short f)
    go false e true = let l = ltb-false most_bytes (length bs) e in words_fit f (words_in bs) (omega (arith, Input.words_in-length bs))
    go false e false = omega (arith, short f)

-- what is printed into that many bytes with that room is the whole text
pub printed_whole : (f : Form) (bs t e w first t' e' w' out : List ℕ) (r : ℕ) → length t ≡ room_table → length e ≡ room_edges → length w ≡ room_clauses → length first ≡ most f
    → Shows f bs t e w first t' e' w' out r
    → ShowsAll f bs t e w first t' e' w' out r × ((r ≤ length out) × (r ≡ length (take r out)))
printed_whole f bs t e w first t' e' w' out r a b c n s =
    let p = subst (λ (x : List ℕ). Printed x first out r) (λ i. shown_in f bs (a i) (b i) (c i)) s.text in
    let q = printed_all p (omega (arith, shown_fits f bs)) in
    (record { shows = s; reply = q.0; text = q.1 }, (printed_inside p, printed_count p))

-- the two facts under the names of the contract's clauses
pub printed_clauses : {A B : Type 0} → A × B → record { shows_all : A; upper_bound : B }
printed_clauses p = record { shows_all = p.0; upper_bound = p.1 }
