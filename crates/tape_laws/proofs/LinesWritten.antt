-- What the reader takes for a step is the line that is written for it, in its ranges, and nothing else.
-- Relies on what readers of numbers and figures take; with LinesRead it says that to compare lines is to compare steps.
use Rattle.model.proofs.Kit.{◌≡◌, refl, sym, ap, subst, ◌∙◌, List, ◌∷◌, ◌++◌, none, some, Option, ℕ, ◌≤◌, eqb-true, eqb}
use Rattle.model.proofs.Kit.{lit<, lit≤, length, drop, w32, SFits, arith}
use Rattle.model.specs.Bytes.{byte, Each}
use Rattle.model.specs.Show.{text, text_from, decimal, signed}
use Rattle.model.specs.Figure.{Figure}
use Rattle.model.specs.Filled.{Report}
use Rattle.model.specs.Listing.{Answer, wrote, read, went, marked, adopted, decided, spent}
use Rattle.model.specs.Forms.{spaced, number_in, figure_in, closing, WordRow, row_in, up_to_stop}
use Rattle.model.specs.Tape.{Entry, end_text, kind_text, entry_text, end_in, read_in, kind_rows, kind_in, by_station, entry_in}
use Rattle.model.proofs.Sheet.Readers.{Always, always_then, always_if}
use Rattle.model.proofs.Sheet.NumbersBack.{Stood, in_front, spaced_stood, number_stood, figure_stood}
use Rattle.model.proofs.Sheet.Lists.{station_stood}
use Rattle.model.proofs.Sheet.WrittenBack.{row_stood, up_to_splits, closes}
use Rattle.tape_laws.specs.TapeLines.{EndInRange, AnswerInRange, InRange, WrittenReads, SameValues}

-- the bytes are the kind with its fields as they are written
KindStood : List ℕ → Report Figure → Type 0
KindStood l r = (l ≡ kind_text r.did r.met) × AnswerInRange r.did r.met

-- what a row's reader takes stands behind its word as the kind is written
RowStood : WordRow (Report Figure) → Type 0
RowStood r = (k : List ℕ) → Always (KindStood (r.word ++ k)) (r.reader k)

-- the three fields of an answer that ends a collect, and the closing bracket
module _ (low high : ℕ) (small : high ≤ 99) (word : List ℕ) (answer : ℕ → Figure → Answer Figure)
    (written : (c : ℕ) (x : Figure) (k : ℕ)
    → word ++ (32 ∷ (decimal c ++ (32 ∷ (signed x ++ (32 ∷ (decimal k ++ text ")")))))) ≡ kind_text (answer c x) k)
    (ranged : (c : ℕ) (x : Figure) (k : ℕ) → EndInRange low high c x k → AnswerInRange (answer c x) k) where
  Within : ℕ → Type 0
  Within v = (low ≤ v) × (v ≤ high)

  end_stood : (k : List ℕ) → Always (KindStood (word ++ k)) (end_in low high answer k)
  unfolding end_in KindStood Stood Within EndInRange
  end_stood k =
      let P : Report Figure → Type 0 = KindStood (word ++ k) in
      always_then (Stood (λ v. 32 ∷ decimal v) Within k) P (spaced (number_in low high) k) _
      (spaced_stood decimal Within (number_in low high) k (number_stood low high (omega arith)))
      (λ r g. always_then (Stood (λ x. 32 ∷ signed x) (SFits w32) r.rest) P (spaced figure_in r.rest) _
      (spaced_stood signed (SFits w32) figure_in r.rest figure_stood)
      (λ s f. always_then (Stood (λ v. 32 ∷ decimal v) (λ v. v ≤ 99) s.rest) P (spaced (number_in 0 99) s.rest) _
      (spaced_stood decimal (λ v. v ≤ 99) (number_in 0 99) s.rest station_stood)
      (λ t h. closes P (record { did = answer r.value s.value; met = t.value }) t.rest
      (λ e. (
        ap (λ (y : List ℕ). word ++ y)
            (g.0 ∙ ap (λ (y : List ℕ). 32 ∷ (decimal r.value ++ y))
            (f.0 ∙ ap (λ (y : List ℕ). 32 ∷ (signed s.value ++ y))
            (h.0 ∙ ap (λ (y : List ℕ). 32 ∷ (decimal t.value ++ y)) e)))
            ∙ written r.value s.value t.value,
        ranged r.value s.value t.value (g.1.0, g.1.1, f.1, h.1),
      )))))

read_stood : (k : List ℕ) → Always (KindStood (text "read" ++ k)) (read_in k)
unfolding read_in KindStood Stood AnswerInRange kind_text text text_from
read_stood k =
    always_then (Stood (λ v. 32 ∷ decimal v) (λ v. (0 ≤ v) × (v ≤ 1)) k) (KindStood (text "read" ++ k))
    (spaced (number_in 0 1) k) _
    (spaced_stood decimal (λ v. (0 ≤ v) × (v ≤ 1)) (number_in 0 1) k (number_stood 0 1 (lit< tt)))
    (λ r g. closes (KindStood (text "read" ++ k)) (record { did = read; met = r.value }) r.rest
    (λ e. (
      ap (λ (y : List ℕ). text "read" ++ y) (g.0 ∙ ap (λ (y : List ℕ). 32 ∷ (decimal r.value ++ y)) e),
      g.1.1,
    )))

wrote_stood : (k : List ℕ) → Always (KindStood (text "wrote" ++ k)) (closing (record { did = wrote; met = 0 }) k)
unfolding KindStood AnswerInRange kind_text text text_from
wrote_stood k =
    closes (KindStood (text "wrote" ++ k)) (record { did = wrote; met = 0 }) k
    (λ e. (ap (λ (y : List ℕ). text "wrote" ++ y) e, refl))

rows_stood : Each RowStood kind_rows
unfolding Each kind_rows RowStood AnswerInRange kind_text end_text text text_from
rows_stood = (
  wrote_stood,
  (
    read_stood,
    (
      end_stood 0 99 (lit≤ tt) (text "went") went (λ c x k. refl) (λ c x k h. h),
      (
        end_stood 1 2 (lit≤ tt) (text "marked") marked (λ c x k. refl) (λ c x k h. h),
        (
          end_stood 0 99 (lit≤ tt) (text "adopted") adopted (λ c x k. refl) (λ c x k h. h),
          (
            end_stood 0 99 (lit≤ tt) (text "decided") decided (λ c x k. refl) (λ c x k h. h),
            (end_stood 0 99 (lit≤ tt) (text "spent") spent (λ c x k. refl) (λ c x k h. h), tt),
          ),
        ),
      ),
    ),
  ),
)

kind_stood : (l : List ℕ) → Always (KindStood l) (kind_in l)
unfolding kind_in RowStood Always
kind_stood l = go (row_in kind_rows (up_to_stop l)) (row_stood RowStood kind_rows (up_to_stop l) rows_stood)
  where
    go : (o : Option (WordRow (Report Figure)))
        → Always (λ (r : WordRow (Report Figure)). (up_to_stop l ≡ r.word) × RowStood r) o
        → Always (KindStood l) (elim o [ none ↦ none | some r ↦ r.reader (drop (length (up_to_stop l)) l) ])
    go none h = tt
    go (some r) h =
        subst (λ (x : List ℕ). Always (KindStood x) (r.reader (drop (length (up_to_stop l)) l)))
        (sym (up_to_splits l ∙ ap (λ (w : List ℕ). w ++ drop (length (up_to_stop l)) l) h.0))
        (h.1 (drop (length (up_to_stop l)) l))

-- the line is the step as it is written
EntryStood : List ℕ → Entry → Type 0
EntryStood l e = (l ≡ entry_text e) × InRange e

entry_stood : (l : List ℕ) → Always (EntryStood l) (entry_in l)
unfolding entry_in by_station EntryStood KindStood InRange entry_text Stood Always text text_from
entry_stood l =
    always_if (EntryStood l) (eqb (byte l 0) 40) _ (λ b.
    always_then (Stood decimal (λ i. i ≤ 99) (drop 1 l)) (EntryStood l) (number_in 0 99 (drop 1 l)) _
    (station_stood (drop 1 l))
    (λ r g. always_if (EntryStood l) (eqb (byte r.rest 0) 32) _
    (λ s. go r.value r.rest
    (in_front l 40 (lit< tt) (eqb-true (byte l 0) 40 b) ∙ ap (λ (y : List ℕ). 40 ∷ y) g.0) g.1
    (in_front r.rest 32 (lit< tt) (eqb-true (byte r.rest 0) 32 s)) (kind_in (drop 1 r.rest))
    (kind_stood (drop 1 r.rest)))))
  where
    go : (i : ℕ) (rest : List ℕ) → l ≡ 40 ∷ (decimal i ++ rest) → i ≤ 99 → rest ≡ 32 ∷ drop 1 rest
        → (o : Option (Report Figure)) → Always (KindStood (drop 1 rest)) o → Always (EntryStood l) (by_station i o)
    go i rest e h s none k = tt
    go i rest e h s (some r) k = (
      e ∙ ap (λ (y : List ℕ). 40 ∷ (decimal i ++ y)) (s ∙ ap (λ (y : List ℕ). 32 ∷ y) k.0),
      (h, k.1),
    )

pub written_reads : WrittenReads
unfolding WrittenReads Always EntryStood
written_reads l e q = subst (Always (EntryStood l)) q (entry_stood l)

pub same_values : SameValues
unfolding SameValues WrittenReads
same_values k l d e p q = (
  λ same. some_one (sym p ∙ ap entry_in same ∙ q),
  λ same. (written_reads k d p).0 ∙ ap entry_text same ∙ sym (written_reads l e q).0,
)
  where
    some_one : some d ≡ some e → d ≡ e
    some_one h = cc
