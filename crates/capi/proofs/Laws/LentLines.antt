-- Lines that are handed back: what each return of a call that hands one back has to show.
-- Relies on the model's lines and forms; the proofs of `lent_lines` rely on it.
use Rattle.model.proofs.Kit.{◌≡◌, refl, sym, ap, subst, ◌∙◌, Bool, cond, ◌&&◌, inl, inr, List, [], ◌++◌, none, some}
use Rattle.model.proofs.Kit.{Option, ℕ, ◌+◌, ◌≤◌, ◌<◌, ◌*◌, le-leb, lt-leb, eqb, leb, leb→le, length, take, drop}
use Rattle.model.proofs.Kit.{◌-◌, replicate, length-replicate, length-append, w64, Fits, mul-le-mul, arith}
use lib.Seq.{length-take-le}
use Rattle.std.specs.Prelude.{Ok, Err}
use Rattle.std.specs.declared.result.Result.{Result}
use Rattle.model.specs.declared.refusal.Refusal as refusals
use Rattle.model.specs.Layout.{board_length}
use Rattle.model.specs.Calls as calls
use Rattle.model.specs.Calls.{After, Refusal, unless, board_refusal}
use Rattle.model.specs.Show.{text, text_from, shown_line, shown_as, Shown, show}
use Rattle.model.specs.Told.{number, shown_told}
use Rattle.model.specs.Forms.{Form, WordRow, board_row, propose_row, steps_row, show_row, rounds_row, word_rows, row_in}
use Rattle.model.specs.Forms.{first_word, form_word, Reading, reads, unread, read_line}
use Rattle.model.specs.Sheet as model
use Rattle.model.specs.Sheet.{turned_down, play_board, on_board, play_form, play_reading, play_line}
use Rattle.model.proofs.Basics.Tests.{cond_case}
use Rattle.model.proofs.Calls.Refusals.{laid_fresh, refusal_case, unless_none, board_of_lem}
use Rattle.model.proofs.Sheet.Readers.{Always}
use Rattle.model.specs.Bytes.{Each}
use Rattle.model.proofs.Sheet.WrittenBack.{row_stood}
use Rattle.model.proofs.Sheet.PlayedLines.{board_refused, board_lays}
use Rattle.model.proofs.Sheet.EachForm.{each_form}
use Rattle.player.specs.declared.line.Played.{Played}
use Rattle.player.specs.Played.{Plays}
use Rattle.packing.specs.Packing.{pack_verdict, pack_word}
use Rattle.capi.specs.LentLines.{handed, shown_in, filled, in_room, playable, pack_show, pack_played}

-- ---- words

Short : WordRow Form → Type 0
Short r = length r.word ≤ 7

-- "propose" is the longest
all_short : Each Short word_rows
unfolding Each Short word_rows board_row propose_row steps_row show_row rounds_row text text_from
all_short = (omega arith, (omega arith, (omega arith, (omega arith, (omega arith, tt)))))

short_word : (l : List ℕ) → length (form_word l) ≤ 7
unfolding form_word Always Short
short_word l = go (row_in word_rows (first_word l)) (row_stood Short word_rows (first_word l) all_short)
  where
    go : (o : Option (WordRow Form)) → Always (λ (r : WordRow Form). (first_word l ≡ r.word) × Short r) o
        → length {A = ℕ} (elim o [ none ↦ [] | some r ↦ first_word l ]) ≤ 7
    go none h = omega arith
    go (some r) h = omega (arith, ap length h.0, h.1)

module _ (l w : List ℕ) (e : w ≡ form_word l) where
  pub word_fits : length w ≤ 255
  word_fits = omega (arith, ap length e, short_word l)

  pub word_is : (r : ℕ) → r ≡ pack_word (length w) → r ≡ pack_word (length (form_word l))
  word_is r h = h ∙ ap (λ (x : List ℕ). pack_word (length x)) e

-- ---- a lent buffer

-- 512 bytes that are copied to the front of a buffer
copied : (l d q : List ℕ) → q ≡ l → q ++ drop 512 d ≡ handed l d
unfolding handed
copied l d q e = ap (λ (x : List ℕ). x ++ drop 512 d) e

-- the front that they are copied to is as long
pub front : (l d q : List ℕ) → 512 ≤ length d → length l ≤ 512 → q ≡ l ++ replicate (512 - length l) 0
    → length (take 512 d) ≡ length q
front l d q h small e =
    length-take-le 512 d h ∙ sym (ap length e ∙ simp (length-append, length-replicate) (omega (arith, small)))

module _ {A : Type 0} (d : List ℕ) (given other : A) where
  no_room : length d < 512 → other ≡ in_room d given other
  unfolding in_room
  no_room h = sym (ap (λ (t : Bool). cond t given other) (lt-leb 512 (length d) h))

  room : 512 ≤ length d → given ≡ in_room d given other
  unfolding in_room
  room h = sym (ap (λ (t : Bool). cond t given other) (le-leb 512 (length d) h))

  module _ (laid : ℕ) where
    too_short : length d < 512 → other ≡ playable laid d given other
    unfolding playable
    too_short h = sym (ap (λ (t : Bool). cond (t && leb laid 4294967295) given other) (lt-leb 512 (length d) h))

    module _ (h : 512 ≤ length d) where
      tested : playable laid d given other ≡ cond (leb laid 4294967295) given other
      unfolding playable
      tested = ap (λ (t : Bool). cond (t && leb laid 4294967295) given other) (le-leb 512 (length d) h)

      too_large : 4294967295 < laid → other ≡ playable laid d given other
      too_large l = sym (tested ∙ ap (λ (t : Bool). cond t given other) (lt-leb laid 4294967295 l))

      played : laid ≤ 4294967295 → given ≡ playable laid d given other
      played l = sym (tested ∙ ap (λ (t : Bool). cond t given other) (le-leb laid 4294967295 l))

-- ---- showing

pub shown_fits : (b : List ℕ) → (length (show b).line ≡ 512) × ((show b).len ≤ 512)
unfolding show shown_as
shown_fits b = go (board_refusal b (unless (leb (length (shown_line b)) 512) 17 none)) refl
  where
    go : (r : Refusal) → board_refusal b (unless (leb (length (shown_line b)) 512) 17 none) ≡ r
        → (length (shown_as r (shown_line b)).line ≡ 512) × ((shown_as r (shown_line b)).len ≤ 512)
    go none e =
        let h : length (shown_line b) ≤ 512 =
        leb→le (length (shown_line b)) 512
        (unless_none (leb (length (shown_line b)) 512) 17 none (board_of_lem b _ e).1).0 in
        (simp (length-append, length-replicate) (omega arith), h)
    go (some k) e = (length-replicate {A = ℕ} 512 0, omega arith)

-- the answer and the buffer that the contract gives
abbrev Shows : (board buffer : List ℕ) → ℕ → List ℕ → Type 0
Shows b d r e = (r ≡ in_room d (pack_show (show b)) 4294967295) × (e ≡ in_room d (shown_in (show b) d) d)

pub show_short : (b d : List ℕ) → length d < 512 → Shows b d 4294967295 d
show_short b d h = (no_room d _ _ h, no_room d _ _ h)

module _ (b d : List ℕ) (h : 512 ≤ length d) (r : Result (List ℕ) refusals.Refusal) (told : shown_told r ≡ show b) where
  -- beside a refusal the number alone, and the buffer as it was
  pub show_turned : (k : refusals.Refusal) → r ≡ Err k → (n : ℕ) → n ≡ number k → Shows b d n d
  unfolding shown_told shown_as pack_show pack_verdict shown_in
  show_turned k e n is =
      let q : show b ≡ shown_as (some (number k)) [] = sym told ∙ ap shown_told e in (
        is ∙ sym (ap pack_show q ∙ omega arith) ∙ room d _ _ h,
        sym (ap (λ (s : Shown). shown_in s d) q) ∙ room d _ _ h,
      )

  pub shown_small : (l : List ℕ) → r ≡ Ok l → length l ≤ 512
  unfolding shown_told shown_as
  shown_small l e =
      let s : show b ≡ shown_as none l = sym told ∙ ap shown_told e in
      subst (λ (x : Shown). x.len ≤ 512) s (shown_fits b).1

  -- the line with its zeros, and its length
  pub show_given : (l : List ℕ) → r ≡ Ok l → (n : ℕ) → n ≡ length l → (q : List ℕ) → q ≡ l ++ replicate (512 - length l) 0
      → Shows b d (n * 65536) (q ++ drop 512 d)
  unfolding shown_told shown_as pack_show pack_verdict shown_in
  show_given l e n is q c =
      let s : show b ≡ shown_as none l = sym told ∙ ap shown_told e in (
        omega (arith, is) ∙ sym (ap pack_show s) ∙ room d _ _ h,
        copied (l ++ replicate (512 - length l) 0) d q c ∙ sym (ap (λ (x : Shown). shown_in x d) s) ∙ room d _ _ h,
      )

-- ---- playing

board_small : (n K : ℕ) → n ≤ 16 → K ≤ 64 → board_length n K ≤ 16904
unfolding board_length
board_small n K h l = omega (arith, mul-le-mul h l)

abbrev pub Small : model.Played → Type 0
Small p = p.laid ≤ 4294967295

-- what is laid stays, but for a board of at most 16,904 bytes that is laid
module _ (laid : ℕ) (m : List ℕ) (h : laid ≤ 4294967295) where
  on_small : {A : Type 0} (printed : A → List ℕ) (call : List ℕ → After A) → Small (on_board laid m printed call)
  unfolding on_board turned_down
  on_small printed call = cond_case Small (eqb laid 0) (turned_down laid m 5) _ (λ e. h) (λ e. h)

  board_stays : (n K : ℕ) → Small (play_board laid m n K)
  unfolding turned_down
  board_stays n K = elim (refusal_case (calls.lay n K (take (board_length n K) m)).answer) [
    | inl ok ↦
        let s = (laid_fresh n K (take (board_length n K) m) ok).0 in
        subst Small (sym (board_lays laid m n K ok))
        (omega (arith, board_small n K s.stations_high s.islands_high))
    | inr t ↦ subst Small (sym (board_refused laid m n K t.0 t.1)) h
  ]

  form_laid : (f : Form) → Small (play_form laid m f)
  unfolding play_form
  form_laid =
      each_form (λ (f : Form). Small (play_form laid m f)) board_stays
      (λ f o. subst Small (sym (o.plays laid m)) (on_small o.say o.call))

  reading_laid : (r : Reading Form) → Small (play_reading laid m r)
  unfolding play_reading turned_down
  reading_laid (reads f) = form_laid f
  reading_laid (unread k) = h

  pub line_laid : (l : List ℕ) → Small (play_line laid m l)
  unfolding play_line
  line_laid l = reading_laid (read_line l)

module _ (l m : List ℕ) (laid : ℕ) (r : Played) (e : List ℕ) (plays : Plays (play_line laid m l) r e) where
  pub line_small : length r.line ≤ 512
  line_small = omega (arith, ap length plays.line, plays.short)

  laid_small : laid ≤ 4294967295 → r.laid ≤ 4294967295
  laid_small few = subst (λ (k : ℕ). k ≤ 4294967295) (sym plays.laid) (line_laid laid m few l)

  pub laid_packs : laid ≤ 4294967295 → Fits w64 (r.laid * 65536)
  laid_packs few = record { fits = omega (arith, laid_small few) }

  pub played_packs : laid ≤ 4294967295 → (n : ℕ) → n ≤ 512 → Fits w64 (n + r.laid * 65536)
  played_packs few n small = record { fits = omega (arith, laid_small few, small) }

module _ (l m d : List ℕ) (laid : ℕ) where
  abbrev Answers : ℕ → List ℕ → List ℕ → Type 0
  Answers r e p =
      (r ≡ playable laid d (pack_played (play_line laid m l)) 18446744073709551615)
      × (e ≡ playable laid d (play_line laid m l).memory m)
      × (p ≡ playable laid d (handed (filled (play_line laid m l).printed) d) d)

  pub play_short : length d < 512 → Answers 18446744073709551615 m d
  play_short h = (too_short d _ _ laid h, too_short d _ _ laid h, too_short d _ _ laid h)

  module _ (h : 512 ≤ length d) where
    pub play_large : 4294967295 < laid → Answers 18446744073709551615 m d
    play_large k = (too_large d _ _ laid h k, too_large d _ _ laid h k, too_large d _ _ laid h k)

    pub play_given : laid ≤ 4294967295 → (r : Played) (e : List ℕ) → Plays (play_line laid m l) r e
        → (n : ℕ) → n ≡ length r.line → (q : List ℕ) → q ≡ r.line ++ replicate (512 - length r.line) 0
        → Answers (n + r.laid * 65536) e (q ++ drop 512 d)
    unfolding pack_played filled
    play_given few r e plays n is q c = (
      (λ i. (is ∙ ap length plays.line) i + plays.laid i * 65536) ∙ played d _ _ laid h few,
      plays.memory ∙ played d _ _ laid h few,
      copied (filled r.line) d q c
          ∙ ap (λ (x : List ℕ). handed (filled x) d) plays.line
          ∙ played d _ _ laid h few,
    )
