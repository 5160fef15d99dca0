-- The turns of the loops: what is left to write from one node or child on is its clauses, and what is left from the next on.
-- Assumes nothing.
use mathlib.Core.Path.{◌≡◌, sym, ap, ◌∙◌, subst}
use mathlib.Core.List.{List, [], ◌∷◌, map}
use mathlib.Core.Bool.{true, false}
use Prim.Native.Nat.{ℕ, zero, suc, ◌+◌, ◌-◌, ◌≤◌, ◌<◌}
use native.Mathlib.Nat.{not-suc-le-zero, le_of_suc-le-suc}
use native.Mathlib.Numerals.{add-one}
use native.Mathlib.Omega.{arith}
use lib.ListN.{length, get_or, take, drop, length-take, length-drop, drop_of_length-le}
use lib.Seq.{drop-cons}
use Rattle.word.specs.Word.{last_boolean, boolean, literal_word, end_word}
use Rattle.word.specs.Edge.{to, edge_boolean, edge_in}
use Rattle.word.specs.Record.{Record, used, no_record, record_at}
use Rattle.word.proofs.Kept.{Parts}
use Rattle.clause.specs.Meaning.{words_of}
use Rattle.clause.proofs.Written.{words_append}
use Rattle.encoding.specs.Boolean.{orders, orders_before}
use Rattle.encoding.specs.Pattern.{children_of, node_of, nodes_of}
use Rattle.word.proofs.Flat.{used_length, used_at}
use Rattle.clause_buffer.specs.Ended.{ended}
use Rattle.diagram.specs.Flat.{end_at}
use Rattle.clause_writer.specs.Held.{child_words, node_from, Numbered, Held}

-- ---- The number of order Booleans before a level

before_turn : (ds : List ℕ) (i : ℕ) → i < length ds → orders_before (ended ds) (suc i) ≡ orders_before (ended ds) i + get_or ds i 0
before_turn [] i h = absurd (not-suc-le-zero h)
before_turn (d ∷ ds) zero h = omega arith
before_turn (d ∷ ds) (suc i) h = omega (arith, before_turn ds i (le_of_suc-le-suc h))

before_inside : (ds : List ℕ) (i : ℕ) → orders_before (ended ds) i ≤ orders (ended ds)
before_inside ds zero = omega arith
before_inside [] (suc i) = omega arith
before_inside (d ∷ ds) (suc i) = omega (arith, before_inside ds i)

pub before_next : (ds : List ℕ) (i : ℕ) → i < length ds → orders_before (ended ds) (i + 1) ≡ orders_before (ended ds) i + get_or ds i 0
before_next ds i h = rw add-one (before_turn ds i h)

pub before_fits : (ds : List ℕ) (i : ℕ) → i < length ds → orders_before (ended ds) i + get_or ds i 0 ≤ orders (ended ds)
before_fits ds i h = omega (arith, before_turn ds i h, before_inside ds (suc i))

-- ---- The clauses of a node

-- of the children from one on; n is the node's Boolean, and b order Booleans come before the level's
abbrev pub children_left : ℕ → ℕ → ℕ → List ℕ → ℕ → List ℕ
children_left D n b ws j = words_of (children_of D n (b + j) (map edge_in (drop j ws)))

-- the first child's clause comes first; w is the literal that says that the node is false
pub node_turn : (D k b : ℕ) (ws : List ℕ) {w c : ℕ} → edge_boolean D (to k) ≤ last_boolean → w ≡ literal_word false (edge_boolean D (to k)) → 1 ≤ length ws
    → c ≡ literal_word true (edge_boolean D (edge_in (get_or ws 0 0)))
    → Parts (words_of (node_of D (edge_boolean D (to k)) (suc b) (map edge_in ws))) (w ∷ c ∷ end_word 2 ∷ []) (children_left D (boolean w) b ws 1)
node_turn D k b [] fits p h q = absurd (not-suc-le-zero h)
node_turn D k b (u ∷ ws) {w} {c} fits p h q =
    let e : boolean w ≡ edge_boolean D (to k) = omega arith in
    record { joined = rw (e, p, q, add-one) }

pub children_turn : (D k b : ℕ) (ws : List ℕ) (j : ℕ) {w o c : ℕ} → edge_boolean D (to k) ≤ last_boolean → w ≡ literal_word false (edge_boolean D (to k)) → j < length ws
    → o ≡ literal_word true (b + j) → c ≡ literal_word true (edge_boolean D (edge_in (get_or ws j 0)))
    → Parts (children_left D (boolean w) b ws j) (w ∷ o ∷ c ∷ end_word 3 ∷ []) (children_left D (boolean w) b ws (j + 1))
children_turn D k b ws j {w} {o} {c} fits p h q r =
    let e : literal_word false (boolean w) ≡ w = ap (literal_word false) (omega arith) ∙ sym p in
    let f : suc (b + j) ≡ b + (j + 1) = omega arith in
    let g : suc j ≡ j + 1 = omega arith in
    record {
      joined = ap (λ (l : List ℕ). words_of (children_of D (boolean w) (b + j) (map edge_in l))) (drop-cons ws j 0 h)
          ∙ (λ i. e i ∷ sym q i ∷ sym r i ∷ end_word 3 ∷ words_of (children_of D (boolean w) (f i) (map edge_in (drop (g i) ws))));
    }

pub children_none : (D n b : ℕ) (ws : List ℕ) (j : ℕ) → length ws ≤ j → children_left D n b ws j ≡ []
children_none D n b ws j h = ap (λ (l : List ℕ). words_of (children_of D n (b + j) (map edge_in l))) (drop_of_length-le ws h)

-- ---- The clauses of the nodes

-- of the nodes from one on
abbrev pub nodes_left : List ℕ → ℕ → List ℕ → ℕ → List ℕ → ℕ → List ℕ
nodes_left ds D t count es k = words_of (nodes_of (ended ds) D k (map (node_from ds es) (drop k (used t count))))

-- the words of a node's children, as the code lends them
abbrev pub part : List ℕ → List ℕ → Record → List ℕ
part ds es x = take (x.first + end_at ds x.level + 1 - x.first) (drop x.first es)

part_is : (ds es : List ℕ) (x : Record) → part ds es x ≡ child_words ds es x
part_is ds es x =
    let e : x.first + end_at ds x.level + 1 - x.first ≡ suc (end_at ds x.level) = omega arith in
    ap (λ (n : ℕ). take n (drop x.first es)) e

-- what is asked of a node where its clauses are written
pub record Asked (D : ℕ) (ws : List ℕ) (k b : ℕ) : Type 0 where
  pub numbers : edge_boolean D (to k) ≤ last_boolean
  pub some : 1 ≤ length ws
  pub values : b + length ws ≤ last_boolean
  pub known : Numbered D ws

module _ {ds : List ℕ} {D : ℕ} {t : List ℕ} {count : ℕ} {es : List ℕ} (held : Held ds D t count es) where
  pub nodes_turn : (k : ℕ) {b : ℕ} → k < count → b ≡ orders_before (ended ds) ((record_at t k).level - 1)
      → Parts (nodes_left ds D t count es k) (words_of (node_of D (edge_boolean D (to k)) (suc b) (map edge_in (part ds es (record_at t k)))))
      (nodes_left ds D t count es (k + 1))
  nodes_turn k {b} h e =
      let x : Record = no_record in
      let n : k < length (used t count) = omega (arith, used_length t count held.long) in
      record {
        joined =
            rw (drop-cons (used t count) k x n, used_at t count held.long k h, add-one k, e, part_is ds es (record_at t k))
            (words_append (node_of D (edge_boolean D (to k)) (suc (orders_before (ended ds) ((record_at t k).level - 1))) (map edge_in (child_words ds es (record_at t k))))
            (nodes_of (ended ds) D (suc k) (map (node_from ds es) (drop (suc k) (used t count)))));
      }

  pub nodes_none : (k : ℕ) → count ≤ k → nodes_left ds D t count es k ≡ []
  nodes_none k h =
      let n : length (used t count) ≤ k = omega (arith, used_length t count held.long) in
      ap (λ (l : List Record). words_of (nodes_of (ended ds) D k (map (node_from ds es) l))) (drop_of_length-le (used t count) n)

  pub node_asked : (k : ℕ) {b : ℕ} → k < count → b ≡ orders_before (ended ds) ((record_at t k).level - 1) → Asked D (part ds es (record_at t k)) k b
  node_asked k {b} h e =
      let x = record_at t k in
      let s = held.each k h in
      let size : length (child_words ds es x) ≡ suc (end_at ds x.level) = simp (length-take, length-drop) (omega arith) in
      subst (λ (ws : List ℕ). Asked D ws k b) (sym (part_is ds es x))
      (record {
        numbers = omega (arith, held.numbers);
        some = omega arith;
        values = omega (arith, held.numbers, held.booleans, before_fits ds (x.level - 1) (omega arith));
        known = s.numbered;
      })
