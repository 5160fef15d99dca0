-- Every legal text is read, and to its words. Assumes nothing.
use mathlib.Core.Path.{◌≡◌, refl, ap, subst, ◌∙◌}
use mathlib.Core.Bool.{Bool, true, false, and-false}
use mathlib.Core.List.{List, [], ◌∷◌, ◌++◌, append_assoc, append-nil}
use Prim.Native.Nat.{ℕ, suc, ◌+◌, ◌-◌, ◌*◌, ◌≤◌, ◌<◌}
use native.Mathlib.Nat.{le_refl}
use native.Mathlib.Omega.{arith}
use lib.Dec.{eqb, eqb-suc-zero}
use lib.ListN.{length}
use borrow.Author.Tests.{le-leb, lt-leb, ne_eqb, eq-eqb}
use Rattle.word.specs.Word.{last_count, literal_word, end_word}
use Rattle.dimacs_text.specs.Text.{Blank, spaced, return, newline, Space, space, tab, Each, Comment, Gap, none, blank, Last, whole, cut, sign, Numbers, end, close, Then, Spaces, AfterFirst, AfterCnf, AfterP, Legal}
use Rattle.text.specs.Decimal.{decimal}
use Rattle.text.proofs.Decimals.{Decimal, digit, more, decimal_grows}
use Rattle.dimacs_text.specs.Text
use Rattle.dimacs_text.specs.Claim.{Verdict, words}
use Rattle.dimacs_text.specs.Machine.{Count, count, Spot, before, after, Slot, after_p, after_cnf, after_first, Role, first, second, literal, State, gap, comment, seen_p, seen_c, seen_cn, seen_cnf, spaces, num, minus, closed, Next, on, put, blank?, space?, digit?, limit, start, lead, begin, step, final, one_later, with_word, go_on, run}
use Rattle.dimacs_text.proofs.Machine.{no_wrong}

-- ---- One step
pub on_reads : (s s' : State) (b : ℕ) (t ws : List ℕ) → step s b ≡ on s' → run s' t ≡ words ws → run s (b ∷ t) ≡ words ws
unfolding run
on_reads s s' b t ws e h = ap (λ (n : Next). go_on n (λ s''. run s'' t)) e ∙ ap one_later h

pub put_reads : (s s' : State) (b w : ℕ) (t ws : List ℕ) → step s b ≡ put s' w → run s' t ≡ words ws → run s (b ∷ t) ≡ words (w ∷ ws)
unfolding run
put_reads s s' b w t ws e h = ap (λ (n : Next). go_on n (λ s''. run s'' t)) e ∙ ap (λ (v : Verdict). with_word w (one_later v)) h

-- ---- Tests
blank_yes : {b : ℕ} → Blank b → blank? b ≡ true
blank_yes (spaced space) = refl
blank_yes (spaced tab) = refl
blank_yes return = refl
blank_yes newline = refl

space_yes : {b : ℕ} → Space b → space? b ≡ true
space_yes space = refl
space_yes tab = refl

blank_no : (b : ℕ) → 33 ≤ b → blank? b ≡ false
blank_no b h = rw (ne_eqb b 32 (omega arith), ne_eqb b 9 (omega arith), ne_eqb b 13 (omega arith), ne_eqb b 10 (omega arith))

space_no : (b : ℕ) → 33 ≤ b → space? b ≡ false
space_no b h = rw (ne_eqb b 32 (omega arith), ne_eqb b 9 (omega arith))

digit_yes : (d : ℕ) → d < 10 → digit? (48 + d) ≡ true
digit_yes d h = rw (le-leb 48 (48 + d) (omega arith), le-leb (48 + d) 57 (omega arith))

-- ---- Gaps
pass_comment : (u : List ℕ) → Each Comment u → (p : Spot) (t ws : List ℕ) → run (gap p true) t ≡ words ws → run (comment p) (u ++ (10 ∷ t)) ≡ words ws
unfolding step
pass_comment [] c p t ws h = on_reads (comment p) (gap p true) 10 t ws refl h
pass_comment (b ∷ u) c p t ws h = on_reads (comment p) (comment p) b (u ++ (10 ∷ t)) ws (rw (ne_eqb b 10 c.0)) (pass_comment u c.1 p t ws h)

pass_gap : {f g : Bool} {x : List ℕ} → Gap f x g → (p : Spot) (t ws : List ℕ) → run (gap p g) t ≡ words ws → run (gap p f) (x ++ t) ≡ words ws
unfolding step
pass_gap none p t ws h = h
pass_gap (blank {f} {g} {b} {t = y} k r) p t ws h = on_reads (gap p f) (gap p (eqb b 10)) b (y ++ t) ws (rw (blank_yes k)) (pass_gap r p t ws h)
pass_gap (Text.comment {g} {t = y} u c r) p t ws h =
    on_reads (gap p true) (comment p) 99 ((u ++ (10 ∷ y)) ++ t) ws refl
    (rw (append_assoc u (10 ∷ y) t) (pass_comment u c p (y ++ t) ws (pass_gap r p t ws h)))

comment_end : (u : List ℕ) → Each Comment u → (w : Count) → w.left ≡ 0 → run (comment (after w)) u ≡ words []
unfolding step run final
comment_end [] c w e = rw (eq-eqb w.left 0 e)
comment_end (b ∷ u) c w e = on_reads (comment (after w)) (comment (after w)) b u [] (rw (ne_eqb b 10 c.0)) (comment_end u c.1 w e)

pass_tail : {f : Bool} {t : List ℕ} → Last f t → (n l : ℕ) → run (gap (after (count n 0 l)) f) t ≡ words []
unfolding step run final
pass_tail {f} (whole {t} k) n l = subst (λ (y : List ℕ). run (gap (after (count n 0 l)) f) y ≡ words []) (append-nil t) (pass_gap k (after (count n 0 l)) [] [] refl)
pass_tail (cut u k c) n l =
    pass_gap k (after (count n 0 l)) (99 ∷ u) [] (on_reads (gap (after (count n 0 l)) true) (comment (after (count n 0 l))) 99 u [] refl (comment_end u c (count n 0 l) refl))

-- ---- Numbers
step_digit : (r : Role) (v d : ℕ) → 0 < v → d < 10 → 10 * v + d ≤ limit r → step (num r v) (48 + d) ≡ on (num r (10 * v + d))
unfolding step
step_digit r v d p h k =
    let e : 48 + d - 48 ≡ d = omega arith in
    rw (digit_yes d h, ne_eqb v 0 (omega arith), e, le-leb (10 * v + d) (limit r) k)

record Digits (v : ℕ) (x : List ℕ) : Type 0 where
  lead : ℕ
  rest : List ℕ
  is : x ≡ (48 + lead) ∷ rest
  small : lead < 10
  below : lead ≤ v
  some : 0 < v → 0 < lead
  pass : (r : Role) (t ws : List ℕ) → v ≤ limit r → run (num r v) t ≡ words ws → run (num r lead) (rest ++ t) ≡ words ws

digits : {v : ℕ} {x : List ℕ} → Decimal v x → Digits v x
digits (digit {d} h) = record { lead = d; rest = []; is = refl; small = h; below = le_refl _; some = λ q. q; pass = λ r t ws k e. e }
digits (more {v} {d} {x} p h k) = go (digits k)
  where
    go : Digits v x → Digits (10 * v + d) (x ++ ((48 + d) ∷ []))
    go i = record {
      lead = i.lead;
      rest = i.rest ++ ((48 + d) ∷ []);
      is = ap (λ (y : List ℕ). y ++ ((48 + d) ∷ [])) i.is;
      small = i.small;
      below = omega (arith, i.below);
      some = λ q. i.some p;
      pass = λ r t ws b e. rw (append_assoc i.rest ((48 + d) ∷ []) t)
          (i.pass r ((48 + d) ∷ t) ws (omega arith) (on_reads (num r v) (num r (10 * v + d)) (48 + d) t ws (step_digit r v d p h b) e));
    }

-- what stands right behind a number: nothing, or a blank
data Front : List ℕ → Type 0 where
  nothing : Front []
  front : {b : ℕ} {t : List ℕ} → Blank b → Front (b ∷ t)

front_gap : {g : Bool} {x : List ℕ} → Gap false x g → 0 < length x → (t : List ℕ) → Front (x ++ t)
front_gap none h t = absurd (omega arith)
front_gap (blank k r) h t = front k

front_tail : {t : List ℕ} → Last false t → Front t
front_tail (whole none) = nothing
front_tail (whole (blank k r)) = front k
front_tail (cut u (blank k r) c) = front k

front_numbers : {n l k : ℕ} {t ws : List ℕ} → Numbers n false l k t ws → Front t
front_numbers (end r) = front_tail r
front_numbers (Text.literal {t} says v k p q b c r) = front_gap k p (sign says ++ (decimal v ++ t))
front_numbers (close {t} k p r) = front_gap k p (48 ∷ t)

pass_closed : (w : Count) (ws : List ℕ) {t : List ℕ} → Front t → run (gap (after w) false) t ≡ words ws → run (closed w) t ≡ words ws
unfolding step run final
pass_closed w ws nothing h = h
pass_closed w ws (front (spaced space)) h = h
pass_closed w ws (front (spaced tab)) h = h
pass_closed w ws (front return) h = h
pass_closed w ws (front newline) h = h

pass_second : (n m : ℕ) (ws : List ℕ) {t : List ℕ} → Front t → run (gap (after (count n m 0)) false) t ≡ words ws → run (num (second n) m) t ≡ words ws
unfolding step run final
pass_second n m ws nothing h = h
pass_second n m ws (front (spaced space)) h = h
pass_second n m ws (front (spaced tab)) h = h
pass_second n m ws (front return) h = h
pass_second n m ws (front newline) h = h

pass_literal : (n k l : ℕ) (says : Bool) (v : ℕ) (ws : List ℕ) {t : List ℕ} → Front t
    → run (gap (after (count n (suc k) (suc l))) false) t ≡ words ws → run (num (literal (count n (suc k) l) says) v) t ≡ words (literal_word says v ∷ ws)
unfolding step run final
pass_literal n k l says v ws nothing h = no_wrong 0 ws (rw (eqb-suc-zero k) at h)
pass_literal n k l says v ws (front (spaced space)) h = ap (with_word (literal_word says v)) h
pass_literal n k l says v ws (front (spaced tab)) h = ap (with_word (literal_word says v)) h
pass_literal n k l says v ws (front return) h = ap (with_word (literal_word says v)) h
pass_literal n k l says v ws (front newline) h = ap (with_word (literal_word says v)) h

-- the first byte of a number, in a gap
pub step_begin : (p : Spot) (f : Bool) (b : ℕ) → blank? b ≡ false → eqb b 99 ≡ false → step (gap p f) b ≡ begin p b
unfolding step
step_begin p f b e k = rw (e, k, and-false f)

pub step_close : (n k l : ℕ) (f : Bool) → step (gap (after (count n (suc k) l)) f) 48 ≡ put (closed (count n k 0)) (end_word l)
step_close n k l f =
    let e : suc k - 1 ≡ k = omega arith in
    step_begin (after (count n (suc k) l)) f 48 refl refl ∙ rw (eqb-suc-zero k, e)

lead_digit : (w : Count) (says : Bool) (d : ℕ) → 0 < d → d < 10 → d ≤ w.most → lead w says (48 + d) ≡ on (num (literal w says) d)
lead_digit w says d p h b =
    let e : 48 + d - 48 ≡ d = omega arith in
    rw (le-leb 49 (48 + d) (omega arith), le-leb (48 + d) 57 (omega arith), e, le-leb d w.most b)

step_minus : (n k l : ℕ) (f : Bool) → 0 < n → l < last_count → step (gap (after (count n (suc k) l)) f) 45 ≡ on (minus (count n (suc k) l))
step_minus n k l f p h =
    step_begin (after (count n (suc k) l)) f 45 refl refl ∙ rw (eqb-suc-zero k, lt-leb last_count l h, ne_eqb n 0 (omega arith))

step_lead : (n k l : ℕ) (f : Bool) (d : ℕ) → 0 < d → d < 10 → d ≤ n → l < last_count
    → step (gap (after (count n (suc k) l)) f) (48 + d) ≡ on (num (literal (count n (suc k) l) true) d)
step_lead n k l f d p q b h =
    step_begin (after (count n (suc k) l)) f (48 + d) (blank_no (48 + d) (omega arith)) (ne_eqb (48 + d) 99 (omega arith))
    ∙ rw (eqb-suc-zero k, ne_eqb (48 + d) 48 (omega arith), lt-leb last_count l h, ne_eqb (48 + d) 45 (omega arith)) (lead_digit (count n (suc k) l) true d p q b)

-- a literal, sign and digits
pass_signed : (n k l : ℕ) (says : Bool) (v : ℕ) (f : Bool) (t ws : List ℕ) → 0 < v → v ≤ n → l < last_count
    → run (num (literal (count n (suc k) l) says) v) t ≡ words ws → run (gap (after (count n (suc k) l)) f) (sign says ++ (decimal v ++ t)) ≡ words ws
unfolding step
pass_signed n k l true v f t ws p b h r =
    let i = digits (decimal_grows v) in
    rw i.is
    (on_reads _ _ (48 + i.lead) (i.rest ++ t) ws (step_lead n k l f i.lead (i.some p) i.small (omega (arith, i.below)) h)
    (i.pass (literal (count n (suc k) l) true) t ws b r))
pass_signed n k l false v f t ws p b h r =
    let i = digits (decimal_grows v) in
    let w : Count = count n (suc k) l in
    on_reads _ _ 45 (decimal v ++ t) ws (step_minus n k l f (omega arith) h)
    (rw i.is
    (on_reads (minus w) (num (literal w false) i.lead) (48 + i.lead) (i.rest ++ t) ws (lead_digit w false i.lead (i.some p) i.small (omega (arith, i.below)))
    (i.pass (literal w false) t ws b r)))

-- ---- The clauses
numbers : {n l k : ℕ} {f : Bool} {t ws : List ℕ} → Numbers n f l k t ws → run (gap (after (count n k l)) f) t ≡ words ws
numbers {n} {l} (end r) = pass_tail r n l
numbers {n} (Text.literal {g} {l} {k} {t} {ws} says v s p q b c r) =
    pass_gap s (after (count n (suc k) l)) (sign says ++ (decimal v ++ t)) (literal_word says v ∷ ws)
    (pass_signed n k l says v g t (literal_word says v ∷ ws) q b c (pass_literal n k l says v ws (front_numbers r) (numbers r)))
numbers {n} (close {g} {l} {k} {t} {ws} s p r) =
    pass_gap s (after (count n (suc k) l)) (48 ∷ t) (end_word l ∷ ws)
    (put_reads _ _ 48 (end_word l) t ws (step_close n k l g) (pass_closed (count n k 0) ws (front_numbers r) (numbers r)))

-- ---- The header
pass_spaces : (k : Slot) (x : List ℕ) → Each Space x → (t ws : List ℕ) → run (spaces k) t ≡ words ws → run (spaces k) (x ++ t) ≡ words ws
unfolding step
pass_spaces k [] c t ws h = h
pass_spaces k (b ∷ x) c t ws h = on_reads (spaces k) (spaces k) b (x ++ t) ws (rw (space_yes c.0)) (pass_spaces k x c.1 t ws h)

-- from a state that a space leads to spaces
parted : (s : State) (k : Slot) (B : List ℕ → Type 0) (ws : List ℕ) → ((b : ℕ) → Space b → step s b ≡ on (spaces k))
    → ((y : List ℕ) → B y → run (spaces k) y ≡ words ws) → (t : List ℕ) → Then Spaces B t → run s t ≡ words ws
parted s k B ws st h t r = go r.0 r.1 r.2 r.3 r.4
  where
    go : (x y : List ℕ) → t ≡ x ++ y → Spaces x → B y → run s t ≡ words ws
    go [] y e p q = absurd (omega (arith, p.0))
    go (b ∷ x) y e p q = rw e (on_reads s (spaces k) b (x ++ y) ws (st b p.1.0) (pass_spaces k x p.1.1 y ws (h y q)))

read_second : (n : ℕ) (ws t : List ℕ) → AfterFirst n ws t → run (spaces (after_first n)) t ≡ words ws
unfolding step
read_second n ws t r =
    let i = digits (decimal_grows r.0) in
    let j : 48 + i.lead - 48 ≡ i.lead = omega arith in
    rw (r.2, i.is)
    (on_reads (spaces (after_first n)) (num (second n) i.lead) (48 + i.lead) (i.rest ++ r.1) ws
    (rw (space_no (48 + i.lead) (omega arith), digit_yes i.lead i.small, j))
    (i.pass (second n) r.1 ws r.3 (pass_second n r.0 ws (front_numbers r.4) (numbers r.4))))

num_space : (v : ℕ) {b : ℕ} → Space b → step (num first v) b ≡ on (spaces (after_first v))
unfolding step
num_space v space = refl
num_space v tab = refl

read_first : (ws t : List ℕ) → AfterCnf ws t → run (spaces after_cnf) t ≡ words ws
unfolding step
read_first ws t r =
    let i = digits (decimal_grows r.0) in
    let j : 48 + i.lead - 48 ≡ i.lead = omega arith in
    rw (r.2, i.is)
    (on_reads (spaces after_cnf) (num first i.lead) (48 + i.lead) (i.rest ++ r.1) ws
    (rw (space_no (48 + i.lead) (omega arith), digit_yes i.lead i.small, j))
    (i.pass first r.1 ws r.3
    (parted (num first r.0) (after_first r.0) (AfterFirst r.0 ws) ws (λ b k. num_space r.0 k) (read_second r.0 ws) r.1 r.4)))

cnf_space : {b : ℕ} → Space b → step seen_cnf b ≡ on (spaces after_cnf)
unfolding step
cnf_space space = refl
cnf_space tab = refl

p_space : {b : ℕ} → Space b → step seen_p b ≡ on (spaces after_p)
unfolding step
p_space space = refl
p_space tab = refl

read_cnf : (ws t : List ℕ) → AfterP ws t → run (spaces after_p) t ≡ words ws
unfolding step
read_cnf ws t r =
    rw (r.2, r.3)
    (on_reads (spaces after_p) seen_c 99 (110 ∷ 102 ∷ r.1) ws refl
    (on_reads seen_c seen_cn 110 (102 ∷ r.1) ws refl
    (on_reads seen_cn seen_cnf 102 r.1 ws refl
    (parted seen_cnf after_cnf (AfterCnf ws) ws (λ b k. cnf_space k) (read_first ws) r.1 r.4))))

-- EVERY LEGAL TEXT IS READ, to its words
pub legal_read : (t ws : List ℕ) → Legal t ws → run start t ≡ words ws
unfolding step
legal_read t ws r =
    rw r.2
    (pass_gap r.3.1 before r.1 ws
    (rw (r.4.2, r.4.3)
    (on_reads (gap before r.3.0) seen_p 112 r.4.1 ws (step_begin before r.3.0 112 refl refl)
    (parted seen_p after_p (AfterP ws) ws (λ b k. p_space k) (read_cnf ws) r.4.1 r.4.4))))
