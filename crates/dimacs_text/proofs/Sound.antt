-- Every text that is read is legal, with the words that are read. Assumes nothing.
use mathlib.Core.Path.{◌≡◌, refl, sym, ap, subst, ◌∙◌}
use mathlib.Core.Logic.{◌⊎◌, inl, inr, ⊎_elim}
use mathlib.Core.Bool.{Bool, true, false, cond, ◌&&◌, ◌||◌}
use mathlib.Core.List.{List, [], ◌∷◌, ◌++◌, append_assoc, append-nil}
use Prim.Native.Nat.{ℕ, suc, ◌+◌, ◌-◌, ◌*◌, ◌≤◌, ◌<◌}
use native.Mathlib.Omega.{arith}
use lib.Dec.{eqb, leb}
use lib.ListN.{length, length-append}
use borrow.Author.Tests.{leb-true, leb-false, eqb-true, eqb-false}
use Rattle.word.specs.Word.{last_count, literal_word, end_word}
use Rattle.dimacs_text.specs.Text.{Blank, spaced, return, newline, Space, space, tab, Each, Comment, Gap, none, blank, Last, whole, cut, sign, Numbers, end, close, Then, Spaces, AfterFirst, AfterCnf, AfterP, Legal}
use Rattle.text.specs.Decimal.{decimal}
use Rattle.text.proofs.Decimals.{Decimal, digit, more, grown_decimal}
use Rattle.dimacs_text.specs.Text
use Rattle.word.proofs.Tests.{both_true, between_is}
use Rattle.dimacs_text.specs.Claim.{Verdict, words, wrong}
use Rattle.dimacs_text.specs.Machine.{Count, count, Spot, before, after, Slot, after_p, after_cnf, after_first, Role, first, second, literal, State, gap, comment, seen_p, seen_c, seen_cn, seen_cnf, spaces, num, minus, closed, Next, bad, on, put, blank?, space?, digit?, limit, start, lead, begin, opens, after_digits, step, final, one_later, with_word, go_on, run}
use Rattle.dimacs_text.proofs.Machine.{cond_elim, no_wrong}

-- ---- Tests, taken apart
or_true : (p q : Bool) → (p || q) ≡ true → (p ≡ true) ⊎ (q ≡ true)
or_true true q e = inl refl
or_true false q e = inr e

is_at : (P : ℕ → Type 0) (b k : ℕ) → P k → eqb b k ≡ true → P b
is_at P b k h e = subst P (sym (eqb-true b k e)) h

space_is : (b : ℕ) → space? b ≡ true → Space b
space_is b e = ⊎_elim (is_at Space b 32 space) (is_at Space b 9 tab) (or_true (eqb b 32) (eqb b 9) e)

blank_is : (b : ℕ) → blank? b ≡ true → Blank b
blank_is b e =
    ⊎_elim (λ f. spaced (space_is b f)) (λ f. ⊎_elim (is_at Blank b 13 return) (is_at Blank b 10 newline) (or_true (eqb b 13) (eqb b 10) f))
    (or_true (space? b) (eqb b 13 || eqb b 10) e)

-- ---- Pieces, with one byte more
gap_append : {f g h : Bool} {x y : List ℕ} → Gap f x g → Gap g y h → Gap f (x ++ y) h
gap_append none k = k
gap_append (blank b r) k = blank b (gap_append r k)
gap_append {h} {y} (Text.comment {t} u c r) k = subst (λ (z : List ℕ). Gap true (99 ∷ z) h) (sym (append_assoc u (10 ∷ t) y)) (Text.comment u c (gap_append r k))

each_snoc : (P : ℕ → Type 0) (u : List ℕ) (b : ℕ) → Each P u → P b → Each P (u ++ (b ∷ []))
each_snoc P [] b c h = (h, tt)
each_snoc P (a ∷ u) b c h = (c.0, each_snoc P u b c.1 h)

-- ---- What is still to be read

-- in a state: whatever was read of the piece at hand, with t behind it, is that piece and what follows it
abbrev Ok : Spot → Bool → List ℕ → Type 0
Ok before f x = f ≡ true
Ok (after w) f x = 0 < length x

abbrev Goal : Spot → Bool → List ℕ → List ℕ → Type 0
Goal before f t ws = Legal t ws
Goal (after w) f t ws = Numbers w.most f w.literals w.left t ws

abbrev Follow : Slot → List ℕ → List ℕ → Type 0
Follow after_p ws = AfterP ws
Follow after_cnf ws = AfterCnf ws
Follow (after_first n) ws = AfterFirst n ws

abbrev Made : Role → ℕ → Type 0
Made first v = Unit
Made (second n) v = Unit
Made (literal w says) v = (0 < v) × (w.literals < last_count) × (0 < w.left)

abbrev Result : Role → List ℕ → List ℕ → Type 0
Result first ws t = AfterCnf ws t
Result (second n) ws t = AfterFirst n ws t
Result (literal w says) ws t = (f g : Bool) (s : List ℕ) → Gap f s g → 0 < length s → Numbers w.most f w.literals w.left (s ++ (sign says ++ t)) ws

abbrev Rest : State → List ℕ → List ℕ → Type 0
Rest (gap p f) t ws = (f₀ : Bool) (x : List ℕ) → Gap f₀ x f → Ok p f₀ x → Goal p f₀ (x ++ t) ws
Rest (comment p) t ws = (f₀ : Bool) (x u : List ℕ) → Gap f₀ x true → Ok p f₀ x → Each Comment u → Goal p f₀ (x ++ (99 ∷ (u ++ t))) ws
Rest seen_p t ws = Then Spaces (AfterP ws) t
Rest seen_c t ws = Then (λ x. x ≡ 110 ∷ 102 ∷ []) (Then Spaces (AfterCnf ws)) t
Rest seen_cn t ws = Then (λ x. x ≡ 102 ∷ []) (Then Spaces (AfterCnf ws)) t
Rest seen_cnf t ws = Then Spaces (AfterCnf ws) t
Rest (spaces k) t ws = (x : List ℕ) → Spaces x → Then Spaces (Follow k ws) (x ++ t)
Rest (num r v) t ws = (x : List ℕ) → Decimal v x → v ≤ limit r → Made r v → Result r ws (x ++ t)
Rest (minus w) t ws = (f g : Bool) (s : List ℕ) → Gap f s g → 0 < length s → w.literals < last_count → 0 < w.left → Numbers w.most f w.literals w.left (s ++ (45 ∷ t)) ws
Rest (closed w) t ws = Numbers w.most false w.literals w.left t ws

abbrev Back : State → ℕ → List ℕ → List ℕ → Next → Type 0
Back s b t ws bad = Unit
Back s b t ws (on s') = Rest s' t ws → Rest s (b ∷ t) ws
Back s b t ws (put s' w) = Rest s' t ws → Rest s (b ∷ t) (w ∷ ws)

ok_more : (p : Spot) (f : Bool) (x y : List ℕ) → Ok p f x → Ok p f (x ++ y)
ok_more before f x y h = h
ok_more (after w) f x y h = omega (arith, length-append x y)

-- ---- The first byte of a number
-- a clause is still to be closed, and so are those behind it
left_is : (w : Count) → 0 < w.left → suc (w.left - 1) ≡ w.left
left_is w h = omega arith

left_suc : (w : Count) (f : Bool) (l : ℕ) (t ws : List ℕ) → 0 < w.left → Numbers w.most f l (suc (w.left - 1)) t ws → Numbers w.most f l w.left t ws
left_suc w f l t ws h r = subst (λ (k : ℕ). Numbers w.most f l k t ws) (left_is w h) r

suc_left : (w : Count) (f : Bool) (l : ℕ) (t ws : List ℕ) → 0 < w.left → Numbers w.most f l w.left t ws → Numbers w.most f l (suc (w.left - 1)) t ws
suc_left w f l t ws h r = subst (λ (k : ℕ). Numbers w.most f l k t ws) (sym (left_is w h)) r

digit_at : (b : ℕ) → 48 ≤ b → b ≤ 57 → Decimal (b - 48) (b ∷ [])
digit_at b h k = let e : 48 + (b - 48) ≡ b = omega arith in subst (λ (c : ℕ). Decimal (b - 48) (c ∷ [])) e (digit (omega arith))

more_at : (b v : ℕ) (x : List ℕ) → 48 ≤ b → b ≤ 57 → 0 < v → Decimal v x → Decimal (10 * v + (b - 48)) (x ++ (b ∷ []))
more_at b v x h k p r = let e : 48 + (b - 48) ≡ b = omega arith in subst (λ (c : ℕ). Decimal (10 * v + (b - 48)) (x ++ (c ∷ []))) e (more p (omega arith) r)

byte : (x t : List ℕ) (b k : ℕ) → b ≡ k → x ++ (k ∷ t) ≡ x ++ (b ∷ t)
byte x t b k e = ap (λ (c : ℕ). x ++ (c ∷ t)) (sym e)

back_begin : (p : Spot) (f : Bool) (b : ℕ) (t ws : List ℕ) → Back (gap p f) b t ws (begin p b)
back_begin before f b t ws =
    cond_elim (Back (gap before f) b t ws) (eqb b 112) (on seen_p) bad
    (λ e r f₀ x k o. (x, b ∷ t, refl, (f, subst (λ (q : Bool). Gap q x f) o k), (b ∷ [], t, refl, ap (λ (c : ℕ). c ∷ []) (eqb-true b 112 e), r)))
    (λ e. tt)
back_begin (after w) f b t ws =
    cond_elim P (eqb w.left 0) bad _ (λ e. tt) λ e₁.
    let h : 0 < w.left = pos e₁ in
    cond_elim P (eqb b 48) (put (closed (count w.most (w.left - 1) 0)) (end_word w.literals)) _
    (λ e r f₀ x k o.
    subst (λ (y : List ℕ). Numbers w.most f₀ w.literals w.left y (end_word w.literals ∷ ws)) (byte x t b 48 (eqb-true b 48 e))
    (left_suc w f₀ w.literals (x ++ (48 ∷ t)) (end_word w.literals ∷ ws) h (close k o r)))
    λ e₂. cond_elim P (leb last_count w.literals) bad _ (λ e. tt) λ e₃.
    cond_elim P (eqb b 45) (cond (eqb w.most 0) bad (on (minus w))) (lead w true b)
    (λ e. cond_elim P (eqb w.most 0) bad (on (minus w)) (λ e'. tt)
    (λ e' r f₀ x k o.
    subst (λ (y : List ℕ). Numbers w.most f₀ w.literals w.left y ws) (byte x t b 45 (eqb-true b 45 e))
    (r f₀ f x k o (leb-false last_count w.literals e₃) h)))
    (λ e. cond_elim P (leb 49 b && leb b 57) (cond (leb (b - 48) w.most) (on (num (literal w true) (b - 48))) bad) bad
    (λ e₄. cond_elim P (leb (b - 48) w.most) (on (num (literal w true) (b - 48))) bad
    (λ e₅ r f₀ x k o.
    let q = between_is 49 b 57 e₄ in
    r (b ∷ []) (digit_at b (omega (arith, q.0)) q.1) (leb-true _ _ e₅) (omega (arith, q.0), leb-false last_count w.literals e₃, h) f₀ f x k o)
    (λ e₅. tt))
    (λ e₄. tt))
  where
    P : Next → Type 0
    P = Back (gap (after w) f) b t ws

    pos : eqb w.left 0 ≡ false → 0 < w.left
    pos e = let z = eqb-false w.left 0 e in omega arith

back_lead : (w : Count) (b : ℕ) (t ws : List ℕ) → Back (minus w) b t ws (lead w false b)
back_lead w b t ws =
    cond_elim (Back (minus w) b t ws) (leb 49 b && leb b 57) (cond (leb (b - 48) w.most) (on (num (literal w false) (b - 48))) bad) bad
    (λ e₄. cond_elim (Back (minus w) b t ws) (leb (b - 48) w.most) (on (num (literal w false) (b - 48))) bad
    (λ e₅ r f g s k o h₁ h₂.
    let q = between_is 49 b 57 e₄ in
    r (b ∷ []) (digit_at b (omega (arith, q.0)) q.1) (leb-true _ _ e₅) (omega (arith, q.0), h₁, h₂) f g s k o)
    (λ e₅. tt))
    (λ e₄. tt)

back_gap : (p : Spot) (f : Bool) (b : ℕ) (t ws : List ℕ) → Back (gap p f) b t ws (step (gap p f) b)
unfolding step
back_gap p f b t ws =
    cond_elim (Back (gap p f) b t ws) (blank? b) (on (gap p (eqb b 10))) (cond (f && eqb b 99) (on (comment p)) (begin p b))
    (λ e r f₀ x k o.
    subst (λ (y : List ℕ). Goal p f₀ y ws) (append_assoc x (b ∷ []) t)
    (r f₀ (x ++ (b ∷ [])) (gap_append k (blank (blank_is b e) none)) (ok_more p f₀ x (b ∷ []) o)))
    (λ e. cond_elim (Back (gap p f) b t ws) (f && eqb b 99) (on (comment p)) (begin p b)
    (λ e' r f₀ x k o.
    let q = both_true f (eqb b 99) e' in
    subst (λ (y : List ℕ). Goal p f₀ y ws) (byte x t b 99 (eqb-true b 99 q.1))
    (r f₀ x [] (subst (λ (g : Bool). Gap f₀ x g) q.0 k) o tt))
    (λ e'. back_begin p f b t ws))

back_comment : (p : Spot) (b : ℕ) (t ws : List ℕ) → Back (comment p) b t ws (step (comment p) b)
unfolding step
back_comment p b t ws =
    cond_elim (Back (comment p) b t ws) (eqb b 10) (on (gap p true)) (on (comment p))
    (λ e r f₀ x u k o c.
    subst (λ (y : List ℕ). Goal p f₀ y ws) (ended x u (eqb-true b 10 e))
    (r f₀ (x ++ (99 ∷ (u ++ (10 ∷ [])))) (gap_append k (Text.comment u c none)) (ok_more p f₀ x _ o)))
    (λ e r f₀ x u k o c.
    subst (λ (y : List ℕ). Goal p f₀ (x ++ (99 ∷ y)) ws) (append_assoc u (b ∷ []) t)
    (r f₀ x (u ++ (b ∷ [])) k o (each_snoc Comment u b c (eqb-false b 10 e))))
  where
    ended : (x u : List ℕ) → b ≡ 10 → (x ++ (99 ∷ (u ++ (10 ∷ [])))) ++ t ≡ x ++ (99 ∷ (u ++ (b ∷ t)))
    ended x u e = append_assoc x (99 ∷ (u ++ (10 ∷ []))) t ∙ ap (λ (y : List ℕ). x ++ (99 ∷ y)) (append_assoc u (10 ∷ []) t ∙ byte u t b 10 e)

-- spaces: the first one, and further ones
back_space : (s : State) (k : Slot) (b : ℕ) (t ws : List ℕ) → (Then Spaces (Follow k ws) (b ∷ t) → Rest s (b ∷ t) ws) → Back s b t ws (cond (space? b) (on (spaces k)) bad)
back_space s k b t ws into =
    cond_elim (Back s b t ws) (space? b) (on (spaces k)) bad
    (λ e r. into (r (b ∷ []) (omega arith, (space_is b e, tt))))
    (λ e. tt)

back_word : (s s' : State) (b c : ℕ) (t ws : List ℕ) → (b ≡ c → Rest s' t ws → Rest s (b ∷ t) ws) → Back s b t ws (cond (eqb b c) (on s') bad)
back_word s s' b c t ws into = cond_elim (Back s b t ws) (eqb b c) (on s') bad (λ e. into (eqb-true b c e)) (λ e. tt)

-- a byte before a piece that is known
word_more : (b c : ℕ) (x : List ℕ) (B : List ℕ → Type 0) (t : List ℕ) → b ≡ c → Then (λ y. y ≡ x) B t → Then (λ y. y ≡ c ∷ x) B (b ∷ t)
word_more b c x B t e r = (b ∷ r.0, r.1, ap (λ (y : List ℕ). b ∷ y) r.2, cc, r.4)

back_opens : (k : Slot) (b : ℕ) (t ws : List ℕ) → Back (spaces k) b t ws (opens k b)
back_opens after_p b t ws =
    back_word (spaces after_p) seen_c b 99 t ws
    (λ e r x h. (x, b ∷ t, refl, h, word_more b 99 (110 ∷ 102 ∷ []) (Then Spaces (AfterCnf ws)) t e r))
back_opens after_cnf b t ws =
    cond_elim (Back (spaces after_cnf) b t ws) (digit? b) (on (num first (b - 48))) bad
    (λ e r x h.
    let q = between_is 48 b 57 e in
    (x, b ∷ t, refl, h, r (b ∷ []) (digit_at b q.0 q.1) (omega (arith, q.1)) tt))
    (λ e. tt)
back_opens (after_first n) b t ws =
    cond_elim (Back (spaces (after_first n)) b t ws) (digit? b) (on (num (second n) (b - 48))) bad
    (λ e r x h.
    let q = between_is 48 b 57 e in
    (x, b ∷ t, refl, h, r (b ∷ []) (digit_at b q.0 q.1) (omega (arith, q.1)) tt))
    (λ e. tt)

back_spaces : (k : Slot) (b : ℕ) (t ws : List ℕ) → Back (spaces k) b t ws (step (spaces k) b)
unfolding step
back_spaces k b t ws =
    cond_elim (Back (spaces k) b t ws) (space? b) (on (spaces k)) (opens k b)
    (λ e r x h.
    subst (Then Spaces (Follow k ws)) (append_assoc x (b ∷ []) t)
    (r (x ++ (b ∷ [])) (omega (arith, length-append x (b ∷ []), h.0), each_snoc Space x b h.1 (space_is b e))))
    (λ e. back_opens k b t ws)

-- digits that have grown to v, with t behind them, are the decimal of v with t behind it
grown_then : {v : ℕ} {x : List ℕ} → Decimal v x → (t : List ℕ) → x ++ t ≡ decimal v ++ t
grown_then d t = ap (λ (y : List ℕ). y ++ t) (grown_decimal d)

back_ends : (r : Role) (v b : ℕ) (t ws : List ℕ) → Back (num r v) b t ws (after_digits r v b)
back_ends first v b t ws =
    cond_elim (Back (num first v) b t ws) (space? b) (on (spaces (after_first v))) bad
    (λ e r x d h m. (v, b ∷ t, grown_then d (b ∷ t), h, r (b ∷ []) (omega arith, (space_is b e, tt))))
    (λ e. tt)
back_ends (second n) v b t ws =
    cond_elim (Back (num (second n) v) b t ws) (blank? b) (on (gap (after (count n v 0)) (eqb b 10))) bad
    (λ e r x d h m. (v, b ∷ t, grown_then d (b ∷ t), h, r false (b ∷ []) (blank (blank_is b e) none) (omega arith)))
    (λ e. tt)
back_ends (literal w says) v b t ws =
    cond_elim (Back (num (literal w says) v) b t ws) (blank? b) (put (gap (after (count w.most w.left (suc w.literals))) (eqb b 10)) (literal_word says v)) bad
    (λ e r x d h m f g s k o.
    subst (λ (y : List ℕ). Numbers w.most f w.literals w.left (s ++ (sign says ++ (y ++ (b ∷ t)))) (literal_word says v ∷ ws)) (sym (grown_decimal d))
    (left_suc w f w.literals (s ++ (sign says ++ (decimal v ++ (b ∷ t)))) (literal_word says v ∷ ws) m.2
    (Text.literal says v k o m.0 h m.1 (suc_left w false (suc w.literals) (b ∷ t) ws m.2 (r false (b ∷ []) (blank (blank_is b e) none) (omega arith))))))
    (λ e. tt)

made_more : (r : Role) (v b : ℕ) → 0 < v → Made r v → Made r (10 * v + (b - 48))
made_more first v b p m = tt
made_more (second n) v b p m = tt
made_more (literal w says) v b p m = (omega arith, m.1, m.2)

back_num : (r : Role) (v b : ℕ) (t ws : List ℕ) → Back (num r v) b t ws (step (num r v) b)
unfolding step
back_num r v b t ws =
    cond_elim P (digit? b) (cond (eqb v 0) bad (cond (leb (10 * v + (b - 48)) (limit r)) (on (num r (10 * v + (b - 48)))) bad)) (after_digits r v b)
    (λ e. cond_elim P (eqb v 0) bad (cond (leb (10 * v + (b - 48)) (limit r)) (on (num r (10 * v + (b - 48)))) bad) (λ e₂. tt)
    (λ e₂. cond_elim P (leb (10 * v + (b - 48)) (limit r)) (on (num r (10 * v + (b - 48)))) bad
    (λ e₃ k x d h m.
    let q = between_is 48 b 57 e in
    let p : 0 < v = pos e₂ in
    subst (Result r ws) (append_assoc x (b ∷ []) t)
    (k (x ++ (b ∷ [])) (more_at b v x q.0 q.1 p d) (leb-true _ _ e₃) (made_more r v b p m)))
    (λ e₃. tt)))
    (λ e. back_ends r v b t ws)
  where
    P : Next → Type 0
    P = Back (num r v) b t ws

    pos : eqb v 0 ≡ false → 0 < v
    pos e = let z = eqb-false v 0 e in omega arith

back_closed : (w : Count) (b : ℕ) (t ws : List ℕ) → Back (closed w) b t ws (step (closed w) b)
unfolding step
back_closed w b t ws =
    cond_elim (Back (closed w) b t ws) (blank? b) (on (gap (after w) (eqb b 10))) bad
    (λ e r. r false (b ∷ []) (blank (blank_is b e) none) (omega arith))
    (λ e. tt)

back : (s : State) (b : ℕ) (t ws : List ℕ) → Back s b t ws (step s b)
unfolding step
back (gap p f) b t ws = back_gap p f b t ws
back (comment p) b t ws = back_comment p b t ws
back seen_p b t ws = back_space seen_p after_p b t ws (λ r. r)
back seen_c b t ws = back_word seen_c seen_cn b 110 t ws (word_more b 110 (102 ∷ []) (Then Spaces (AfterCnf ws)) t)
back seen_cn b t ws = back_word seen_cn seen_cnf b 102 t ws (λ e r. (b ∷ [], t, refl, ap (λ (c : ℕ). c ∷ []) e, r))
back seen_cnf b t ws = back_space seen_cnf after_cnf b t ws (λ r. r)
back (spaces k) b t ws = back_spaces k b t ws
back (num r v) b t ws = back_num r v b t ws
back (minus w) b t ws = back_lead w b t ws
back (closed w) b t ws = back_closed w b t ws

-- ---- The end of the text
none_left : (n : ℕ) (f : Bool) (l k : ℕ) (t : List ℕ) → k ≡ 0 → Last f t → Numbers n f l k t []
none_left n f l k t e r = subst (λ (i : ℕ). Numbers n f l i t []) (sym e) (end r)

false_not : {A : Type 0} → false ≡ true → A
false_not e = let z : ◌≡◌ {A = ℕ} 0 1 = cc in absurd (omega arith)

stops : (s : State) → final s ≡ true → Rest s [] []
unfolding final
stops (gap before f) e = false_not e
stops (gap (after w) f) e = λ f₀ x k o. none_left w.most f₀ w.literals w.left (x ++ []) (eqb-true _ _ e) (subst (Last f₀) (sym (append-nil x)) (whole k))
stops (comment before) e = false_not e
stops (comment (after w)) e = λ f₀ x u k o c. none_left w.most f₀ w.literals w.left (x ++ (99 ∷ (u ++ []))) (eqb-true _ _ e) (subst (λ (y : List ℕ). Last f₀ (x ++ (99 ∷ y))) (sym (append-nil u)) (cut u k c))
stops seen_p e = false_not e
stops seen_c e = false_not e
stops seen_cn e = false_not e
stops seen_cnf e = false_not e
stops (spaces k) e = false_not e
stops (num first v) e = false_not e
stops (num (second n) v) e = λ x d h m. (v, [], grown_then d [], h, none_left n false 0 v [] (eqb-true _ _ e) (whole none))
stops (num (literal w says) v) e = false_not e
stops (minus w) e = false_not e
stops (closed w) e = none_left w.most false w.literals w.left [] (eqb-true _ _ e) (whole none)

pub later_words : (v : Verdict) (ws : List ℕ) → one_later v ≡ words ws → v ≡ words ws
later_words (words xs) ws e = e
later_words (wrong k) ws e = no_wrong (suc k) ws e

pub word_words : (w : ℕ) (v : Verdict) (ws : List ℕ) → with_word w v ≡ words ws → (xs : List ℕ) × (ws ≡ w ∷ xs) × (v ≡ words xs)
word_words w (words xs) ws e = (xs, cc, refl)
word_words w (wrong k) ws e = no_wrong k ws e

pub sound : (t : List ℕ) (s : State) (ws : List ℕ) → run s t ≡ words ws → Rest s t ws
unfolding run
sound [] s ws h = go (final s) refl h
  where
    go : (p : Bool) → final s ≡ p → cond p (words []) (wrong 0) ≡ words ws → Rest s [] ws
    go true e k = let z : [] ≡ ws = cc in subst (Rest s []) z (stops s e)
    go false e k = no_wrong 0 ws k
sound (b ∷ t) s ws h = go (λ s' xs. sound t s' xs) (step s b) (back s b t) h
  where
    go : ((s' : State) (xs : List ℕ) → run s' t ≡ words xs → Rest s' t xs) → (n : Next) → ((xs : List ℕ) → Back s b t xs n) → go_on n (λ s'. run s' t) ≡ words ws → Rest s (b ∷ t) ws
    go rec bad k e = no_wrong 0 ws e
    go rec (on s') k e = k ws (rec s' ws (later_words (run s' t) ws e))
    go rec (put s' w) k e =
        let q = word_words w (one_later (run s' t)) ws e in
        subst (Rest s (b ∷ t)) (sym q.1) (k q.0 (rec s' q.0 (later_words (run s' t) q.0 q.2)))

-- EVERY TEXT THAT IS READ IS LEGAL, with the words read
pub read_legal : (t ws : List ℕ) → run start t ≡ words ws → Legal t ws
read_legal t ws h = sound t start ws h true [] none refl
