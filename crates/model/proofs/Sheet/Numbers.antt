-- Numbers and figures as they are written: a reader finds in them that number or figure, and what follows.
-- Relies on decimals; that the reader finds every written form relies on it.
use Rattle.model.proofs.Kit.{◌≡◌, refl, sym, ap, ◌∙◌, true, false, ◌&&◌, ⊎_elim, List, [], ◌∷◌, ◌++◌}
use Rattle.model.proofs.Kit.{append_assoc, some, Option, ℕ, zero, suc, ◌+◌, ◌≤◌, ◌<◌, ◌/◌, ◌%◌, ◌*◌, ne_eqb, eqb}
use Rattle.model.proofs.Kit.{leb, ltb, lit<, pos, negsuc, w32, SFits, arith}
use Prim.Native.Nat.{◌^◌}
use native.Mathlib.Nat.{pow-suc, mod-eq_of_lt, mod-lt}
use Rattle.model.specs.Bytes.{byte}
use Rattle.model.specs.Figure.{Figure}
use Rattle.model.specs.Show.{text_from, text, decimal_in, decimal, signed}
use Rattle.model.specs.Forms.{Read, found, and_then, digit, digits_from, natural, number_in, figure_in}
use Rattle.model.proofs.Basics.Tests.{T_true, clash, cond_case}
use Rattle.model.proofs.Basics.Decimals.{last_digit, in_one, in_more, below_ten}
use Rattle.model.proofs.Calls.Refusals.{within-T}

-- No digit follows, so that a number ends there.
unfoldable pub Stops : List ℕ → Type 0
Stops rest = digit (byte rest 0) ≡ false

pub then_found : {A B : Type 0} {o : Option (Read A)} {a : A} {rest : List ℕ} (go : A → List ℕ → Option B)
    → o ≡ found a rest
    → and_then o go ≡ go a rest
unfolding and_then found
then_found go e = ap (λ (o : Option (Read _)). and_then o go) e

pub is_digit : (d : ℕ) → d < 10 → digit (48 + d) ≡ true
unfolding digit
is_digit d h = T_true _ (within-T 48 57 (48 + d) (omega arith) (omega arith))

-- a byte that is a digit is none of the others
pub digit_not : (b c : ℕ) → digit b ≡ true → digit c ≡ false → eqb b c ≡ false
digit_not b c e f = ne_eqb b c (λ q. clash (sym e ∙ ap digit q ∙ f))

-- ---- what is read of a written number

one_begins : (x : ℕ) (rest : List ℕ) → digit (byte (last_digit x ++ rest) 0) ≡ true
one_begins x rest = is_digit (x % 10) (mod-lt x (lit< tt))

-- a number begins with a digit
begins : (k x : ℕ) (rest : List ℕ) → digit (byte (decimal_in (suc k) x ++ rest) 0) ≡ true
unfolding decimal_in
begins zero x rest =
    cond_case (λ (d : List ℕ). digit (byte (d ++ last_digit x ++ rest) 0) ≡ true) (ltb x 10) [] []
    (λ e. one_begins x rest) (λ e. one_begins x rest)
begins (suc k) x rest =
    cond_case (λ (d : List ℕ). digit (byte (d ++ last_digit x ++ rest) 0) ≡ true) (ltb x 10) [] _
    (λ e. one_begins x rest)
    (λ e. rw append_assoc (begins k (x / 10) (last_digit x ++ rest)))

pub decimal_begins : (x : ℕ) (rest : List ℕ) → digit (byte (decimal x ++ rest) 0) ≡ true
unfolding decimal
decimal_begins x rest = begins 9 x rest

one_digit : (d : ℕ) (rest : List ℕ) → 1 ≤ d → d < 10 → natural ((48 + d) ∷ rest) ≡ some (digits_from d rest)
unfolding natural
one_digit d rest h l =
    rw (ne_eqb (48 + d) 48 (λ e. omega arith), is_digit d l)
    (ap (λ (v : ℕ). some (digits_from v rest)) (omega arith))

next_digit : (v d : ℕ) (rest : List ℕ) → d < 10 → digits_from v ((48 + d) ∷ rest) ≡ digits_from (10 * v + d) rest
unfolding digits_from
next_digit v d rest h = rw (is_digit d h) (ap (λ (w : ℕ). digits_from w rest) (omega arith))

-- the digits of x read, more may follow
digits_read : (k x : ℕ) → 1 ≤ x → x < 10 ^ suc k → (rest : List ℕ)
    → natural (decimal_in (suc k) x ++ rest) ≡ some (digits_from x rest)
digits_read zero x p h rest =
    ap (λ (d : List ℕ). natural (d ++ rest))
    (in_one 0 x (omega arith) ∙ ap (λ (d : ℕ). (48 + d) ∷ []) (mod-eq_of_lt (omega arith)))
    ∙ one_digit x rest p (omega arith)
digits_read (suc k) x p h rest =
    ⊎_elim
    (λ (l : x < 10).
    ap (λ (d : List ℕ). natural (d ++ rest)) (in_one (suc k) x l ∙ ap (λ (d : ℕ). (48 + d) ∷ []) (mod-eq_of_lt l))
    ∙ one_digit x rest p l)
    (λ (l : 10 ≤ x).
    ap (λ (d : List ℕ). natural (d ++ rest)) (in_more (suc k) x l)
    ∙ ap natural (append_assoc (decimal_in (suc k) (x / 10)) (last_digit x) rest)
    ∙ digits_read k (x / 10) (omega arith) (omega (arith, pow-suc 10 (suc k))) (last_digit x ++ rest)
    ∙ ap some (next_digit (x / 10) (x % 10) rest (mod-lt x (lit< tt)))
    ∙ ap (λ (v : ℕ). some (digits_from v rest)) (omega arith))
    (below_ten x)

stopped : (v : ℕ) (rest : List ℕ) → Stops rest → some (digits_from v rest) ≡ found v rest
unfolding digits_from found Stops
stopped v [] s = refl
stopped v (b ∷ l) s = rw s

pub natural_decimal : (x : ℕ) → x < 10000000000 → (rest : List ℕ) → Stops rest
    → natural (decimal x ++ rest) ≡ found x rest
unfolding decimal decimal_in natural
natural_decimal zero h rest s = refl
natural_decimal (suc x) h rest s = digits_read 9 (suc x) (omega arith) (omega arith) rest ∙ stopped (suc x) rest s

pub number_decimal : (low high x : ℕ) → low ≤ x → x ≤ high → high < 10000000000 → (rest : List ℕ) → Stops rest
    → number_in low high (decimal x ++ rest) ≡ found x rest
unfolding number_in
number_decimal low high x h l b rest s =
    then_found _ (natural_decimal x (omega arith) rest s)
    ∙ rw (T_true (leb low x && leb x high) (within-T low high x h l))

not_minus : digit 45 ≡ false
unfolding digit
not_minus = refl

pub figure_signed : (v : Figure) → SFits w32 v → (rest : List ℕ) → Stops rest
    → figure_in (signed v ++ rest) ≡ found v rest
unfolding figure_in signed text text_from
figure_signed (pos x) h rest s =
    rw (digit_not (byte (decimal x ++ rest) 0) 45 (decimal_begins x rest) not_minus)
    (then_found _ (number_decimal 0 2147483647 x (omega arith) (omega (arith, h.sfits)) (lit< tt) rest s))
figure_signed (negsuc x) h rest s =
    then_found _ (number_decimal 1 2147483648 (suc x) (omega arith) (omega (arith, h.sfits)) (lit< tt) rest s)
    ∙ ap (λ (y : ℕ). found (negsuc y) rest) (omega arith)
