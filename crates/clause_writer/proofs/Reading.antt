-- A drawing in lent memory is read back: lent memory holds its nodes, so what is written from it are the drawing's clauses. By induction over the nodes.
-- Assumes nothing.
use mathlib.Core.Path.{◌≡◌, refl, sym, ap, ap₂, subst, ◌∙◌}
use mathlib.Core.List.{List, [], ◌∷◌, ◌++◌, map}
use Prim.Native.Nat.{ℕ, zero, suc, ◌+◌, ◌-◌, ◌≤◌, ◌<◌}
use native.Mathlib.Omega.{arith}
use lib.ListN.{length, get_or, take, drop, length-append, length-map, length-take, get_or-map}
use lib.Seq.{take-nil, drop-drop, take_at, take-take, drop_at, slice}
use Rattle.word.specs.Word.{last_boolean}
use Rattle.word.specs.Edge.{Edge, F, T, to, edge_word, edge_boolean, edge_in}
use Rattle.word.specs.Record.{Record, records, no_record, used, RecordsFit, record_at}
use Rattle.word.proofs.Kept.{Parts}
use Rattle.clause.specs.Meaning.{words_of}
use Rattle.clause.proofs.Written.{words_append}
use Rattle.diagram.specs.Level.{Level}
use Rattle.diagram.specs.Table.{Node, no_node}
use Rattle.diagram.specs.Claim.{no_level, node_at, level_at}
use Rattle.diagram.specs.Entering.{entering}
use Rattle.diagram.specs.Flat.{record_of, records_from, edge_words, end_at, first_place, Small}
use Rattle.diagram.proofs.Places.{map_at}
use Rattle.diagram.proofs.Written.{records_from-length, record_drawn, place_inside, edges_in}
use Rattle.encoding.specs.Boolean.{orders, orders_before}
use Rattle.encoding.specs.Pattern.{orders_of, units_of, nodes_of, clause_words, word_count}
use Rattle.encoding.proofs.Fits.{words_count}
use Rattle.word.proofs.Flat.{records_length, used_at}
use Rattle.clause_buffer.specs.Written.{Room, WroteWords}
use Rattle.clause_writer.specs.Drawing.{Drawing, Listed}
use Rattle.clause_buffer.specs.Ended.{ended}
use Rattle.clause_writer.specs.Held.{child_words, node_from, nodes_held, Sound, Held}

-- ---- Levels by their domain ends

abbrev doms : List Level → List ℕ
doms ls = map (λ (l : Level). l.dom) ls

orders_ended : (ls : List Level) → orders (ended (doms ls)) ≡ orders ls
orders_ended [] = refl
orders_ended (l ∷ ls) = ap (λ (n : ℕ). l.dom + n) (orders_ended ls)

before_ended : (ls : List Level) (i : ℕ) → orders_before (ended (doms ls)) i ≡ orders_before ls i
before_ended ls zero = refl
before_ended [] (suc i) = refl
before_ended (l ∷ ls) (suc i) = ap (λ (n : ℕ). l.dom + n) (before_ended ls i)

order_clauses : (b : ℕ) (ls : List Level) → orders_of b (ended (doms ls)) ≡ orders_of b ls
order_clauses b [] = refl
order_clauses b (l ∷ ls) = rw (order_clauses (b + l.dom) ls)

node_clauses : (ls : List Level) (D k : ℕ) (ns : List Node) → nodes_of (ended (doms ls)) D k ns ≡ nodes_of ls D k ns
node_clauses ls D k [] = refl
node_clauses ls D k (x ∷ xs) = rw (before_ended ls (x.level - 1), node_clauses ls D (suc k) xs)

-- ---- Edges

-- a Boolean that a literal can hold belongs to a small node number
small : (D : ℕ) (e : Edge) → edge_boolean D e ≤ last_boolean → Small e
small D F h = tt
small D T h = tt
small D (to k) h = omega arith

-- a run of words, from a place on
slice_is : (l : List ℕ) (f n t : ℕ) → t ≡ f + n → slice f t l ≡ take n (drop f l)
slice_is l zero n t e = let d : t ≡ n = omega arith in ap (λ (m : ℕ). take m l) d
slice_is [] (suc f) n t e = rw (take-nil t, take-nil n)
slice_is (x ∷ l) (suc f) n zero e = absurd (omega arith)
slice_is (x ∷ l) (suc f) n (suc t) e = slice_is l f n t (omega arith)

-- a run that begins with one list and goes on with another
run_first : (xs ys l : List ℕ) (n : ℕ) → n ≡ length xs → take (length (xs ++ ys)) l ≡ xs ++ ys → take n l ≡ xs
run_first xs ys l n e h =
    sym (take-take n (length (xs ++ ys)) l (omega (arith, length-append xs ys))) ∙ ap (take n) h ∙ take_at xs ys n (sym e)

run_then : (xs ys l : List ℕ) (n : ℕ) → n ≡ length xs → take (length (xs ++ ys)) l ≡ xs ++ ys → take (length ys) (drop n l) ≡ ys
run_then xs ys l n e h =
    sym (slice_is l n (length ys) (length (xs ++ ys)) (omega (arith, length-append xs ys))) ∙ ap (drop n) h ∙ drop_at xs ys n (sym e)

-- ---- Nodes

-- the children that a record of a node holds, which begin with a place where they stand
nodes_back : (ds es : List ℕ) (D : ℕ) (all : List Node) (k first : ℕ) (ns : List Node)
    → ((n : ℕ) → n < length ns → length (node_at ns n).children ≡ suc (end_at ds (node_at ns n).level))
    → ((n j : ℕ) → n < length ns → j < length (node_at ns n).children → edge_boolean D (get_or (node_at ns n).children j F) ≤ last_boolean)
    → take (length (edge_words ns)) (drop first es) ≡ edge_words ns
    → map (node_from ds es) (records_from all k first ns) ≡ ns
unfolding edge_words records_from
nodes_back ds es D all k first [] filled fits e = refl
nodes_back ds es D all k first (x ∷ xs) filled fits e =
    ap₂ (λ (y : Node) (ys : List Node). y ∷ ys) node
    (nodes_back ds es D all (suc k) (first + length x.children) xs (λ n h. filled (suc n) (omega arith)) (λ n j h k. fits (suc n) j (omega arith) k) later)
  where
    many : length x.children ≡ suc (end_at ds x.level)
    many = filled 0 (omega arith)

    row : length x.children ≡ length (map edge_word x.children)
    row = sym (length-map x.children edge_word)

    words : child_words ds es (record_of first (entering k all) x) ≡ map edge_word x.children
    words =
        ap (λ (n : ℕ). take n (drop first es)) (sym many)
        ∙ run_first (map edge_word x.children) (edge_words xs) (drop first es) (length x.children) row e

    children : map edge_in (child_words ds es (record_of first (entering k all) x)) ≡ x.children
    children = ap (map edge_in) words ∙ edges_in x.children (λ j h. small D (get_or x.children j F) (fits 0 j (omega arith) h))

    node : node_from ds es (record_of first (entering k all) x) ≡ x
    node = λ i. record { level = x.level; lab = x.lab; children = children i }

    later : take (length (edge_words xs)) (drop (first + length x.children) es) ≡ edge_words xs
    later =
        ap (take (length (edge_words xs))) (sym (drop-drop (length x.children) first es))
        ∙ run_then (map edge_word x.children) (edge_words xs) (drop first es) (length x.children) row e

-- ---- A drawing

module _ {ls : List Level} {ns : List Node} {ds : List ℕ} {D : ℕ} {t : List ℕ} {count : ℕ} {es : List ℕ} {top : Edge} (d : Drawing ls ns ds D t count es top) where
  end_is : (i : ℕ) → get_or ds i 0 ≡ (level_at ls i).dom
  end_is i = ap (λ (l : List ℕ). get_or l i 0) (sym d.ends) ∙ get_or-map (λ (l : Level). l.dom) ls i no_level

  rows : (n : ℕ) → n < length ns → length (node_at ns n).children ≡ suc (end_at ds (node_at ns n).level)
  rows n h = d.filled n h ∙ ap suc (sym (end_is ((node_at ns n).level - 1)))

  fits : (n j : ℕ) → n < length ns → j < length (node_at ns n).children → edge_boolean D (get_or (node_at ns n).children j F) ≤ last_boolean
  fits n j h k = omega (arith, d.child n j h k, d.numbers, d.counted)

  pub nodes_held_lem : nodes_held ds t count es ≡ ns
  nodes_held_lem = ap (map (node_from ds es)) d.records ∙ nodes_back ds es D ns 0 0 ns rows fits d.edges

  pub booleans : D ≡ orders (ended ds)
  booleans = d.booleans ∙ sym (orders_ended ls) ∙ ap (λ (l : List ℕ). orders (ended l)) d.ends

  long : RecordsFit count t
  long = omega (arith, ap length d.records, length-take count (records t), records_length t, records_from-length ns 0 0 ns, d.counted)

  edges_long : length (edge_words ns) ≤ length es
  edges_long = omega (arith, ap length d.edges, length-take (length (edge_words ns)) es)

  record_is : (k : ℕ) → k < count → record_at t k ≡ record_of (first_place ns k) (entering k ns) (node_at ns k)
  record_is = record_drawn t count ns long d.records d.counted

  node_is : (k : ℕ) → k < count → node_from ds es (record_at t k) ≡ node_at ns k
  node_is k h =
      ap (node_from ds es) (sym (used_at t count long k h))
      ∙ sym (map_at (node_from ds es) (used t count) k no_node no_record (omega (arith, ap length d.records, records_from-length ns 0 0 ns, d.counted)))
      ∙ ap (λ (xs : List Node). get_or xs k no_node) nodes_held_lem

  sound : (k : ℕ) → k < count → Sound ds D es (record_at t k)
  sound k h =
      record {
        above = omega (arith, level, (d.levelled k within).0);
        below = omega (arith, level, (d.levelled k within).1, ap length d.ends, length-map ls (λ (l : Level). l.dom));
        inside = omega (arith, ap (λ (x : Record). x.first) (record_is k h), size, place_inside ns k within, edges_long);
        numbered = numbered;
      }
    where
      within : k < length ns
      within = omega (arith, d.counted)

      level : (record_at t k).level ≡ (node_at ns k).level
      level = ap (λ (x : Record). x.level) (record_is k h)

      size : length (node_at ns k).children ≡ suc (end_at ds (record_at t k).level)
      size = rows k within ∙ ap (λ (i : ℕ). suc (end_at ds i)) (sym level)

      numbered : (j : ℕ) → j < length (child_words ds es (record_at t k)) → edge_boolean D (edge_in (get_or (child_words ds es (record_at t k)) j 0)) ≤ last_boolean
      numbered j m =
          let e : map edge_in (child_words ds es (record_at t k)) ≡ (node_at ns k).children = ap (λ (x : Node). x.children) (node_is k h) in
          let n : length (child_words ds es (record_at t k)) ≡ length (node_at ns k).children = sym (length-map (child_words ds es (record_at t k)) edge_in) ∙ ap length e in
          let c : edge_in (get_or (child_words ds es (record_at t k)) j 0) ≡ get_or (node_at ns k).children j F =
          sym (map_at edge_in (child_words ds es (record_at t k)) j F 0 m) ∙ ap (λ (xs : List Edge). get_or xs j F) e in
          subst (λ (x : Edge). edge_boolean D x ≤ last_boolean) (sym c) (fits k j within (omega arith))

  -- LENT MEMORY HOLDS what the writing asks for
  pub drawn_held : Held ds D t count es
  drawn_held = record { booleans = booleans; numbers = d.numbers; long = long; each = sound }

  -- the second and the third group, of what lent memory holds
  abbrev second : List ℕ
  second = words_of (units_of D top)

  abbrev third : List ℕ
  third = words_of (nodes_of (ended ds) D 0 (nodes_held ds t count es))

  pub later_groups : Parts (second ++ third) second third
  later_groups = record { joined = refl }

  -- THE CLAUSE WORDS of the drawing are the three groups of what lent memory holds
  pub groups : Parts (clause_words ls top ns) (words_of (orders_of 0 (ended ds))) (second ++ third)
  groups =
      record {
        joined =
            words_append (orders_of 0 ls) (units_of (orders ls) top ++ nodes_of ls (orders ls) 0 ns)
            ∙ ap₂ (λ (x y : List ℕ). x ++ y) (ap words_of levels)
            (words_append (units_of (orders ls) top) (nodes_of ls (orders ls) 0 ns) ∙ ap₂ (λ (x y : List ℕ). x ++ y) (ap words_of units) (ap words_of nodes));
      }
    where
      levels : orders_of 0 ls ≡ orders_of 0 (ended ds)
      levels = sym (order_clauses 0 ls) ∙ ap (λ (l : List ℕ). orders_of 0 (ended l)) d.ends

      units : units_of (orders ls) top ≡ units_of D top
      units = ap (λ (n : ℕ). units_of n top) (sym d.booleans)

      nodes : nodes_of ls (orders ls) 0 ns ≡ nodes_of (ended ds) D 0 (nodes_held ds t count es)
      nodes =
          sym (node_clauses ls (orders ls) 0 ns)
          ∙ ap (λ (l : List ℕ). nodes_of (ended l) (orders ls) 0 ns) d.ends
          ∙ ap₂ (λ (n : ℕ) (xs : List Node). nodes_of (ended ds) n 0 xs) (sym d.booleans) (sym nodes_held_lem)

  -- their number is the formula's
  pub words_number : length (clause_words ls top ns) ≡ word_count ls ns
  words_number = words_count ls top ns d.filled

  pub room : (out : List ℕ) → word_count ls ns ≤ length out → Room (clause_words ls top ns) 0 out
  room out h = omega (arith, words_number)

  pub listed : {before after : List ℕ} {r : ℕ} → WroteWords (clause_words ls top ns) 0 before after r → Listed ls ns top before after r
  listed {before} {after} {r} w = record { words = omega (arith, w.place, words_number); front = w.front; rest = w.rest; kept = w.kept }
