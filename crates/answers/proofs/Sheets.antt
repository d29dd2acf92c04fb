-- A sheet line by line: where a line ends, the answer at each return, and that the answers from place 0 on are
-- `play_sheet`. Relies on the model's sheet; the proof of `next_answer` relies on it, and the program's on `behind`.
use Rattle.model.proofs.Kit.{◌≡◌, refl, sym, ap, subst, ◌∙◌, Bool, true, false, cond, List, [], ◌∷◌, ◌++◌, append_assoc}
use Rattle.model.proofs.Kit.{append-nil, ℕ, zero, suc, ◌+◌, ◌-◌, ◌≤◌, ◌<◌, le-leb, lt-leb, lt-ltb, le-ltb, leb-true}
use Rattle.model.proofs.Kit.{leb-false, eqb, leb, ltb, length, take, drop, replicate}
use Rattle.model.proofs.Kit.{arith}
use Rattle.scan.specs.Scan.{index_of}
use Rattle.model.specs.Layout.{board_length}
use Rattle.model.specs.Sheet as model
use Rattle.model.specs.Sheet.{refused_text, lines_of, printed, play_line, play_sheet}
use Rattle.model.proofs.Basics.Ended.{front, parts_at, no_parts, mark_found, part_taken}
use Rattle.answer_writer.proofs.Bounds.{refused_short}
use Rattle.player.specs.declared.line.Played.{Played}
use Rattle.player.specs.Played.{Plays}
use Rattle.answers.specs.Answered.{line_in, Answered, ended, refused_whole, line_answered, answer_at, Answers}
use Rattle.answers.specs.Answered.{play_all, SheetPrinted}

-- ---- the line in front

line_front : (t : List ℕ) → line_in t ≡ front 10 t
unfolding line_in front
line_front [] = refl
line_front (b ∷ u) = ap (λ (l : List ℕ). cond (eqb b 10) [] (b ∷ l)) (line_front u)

-- the line that starts at `at`, and the lines behind its LF
lines_at : (s : List ℕ) (at : ℕ) → at < length s
    → lines_of (drop at s) ≡ line_in (drop at s) ∷ lines_of (drop (at + length (line_in (drop at s)) + 1) s)
lines_at s at h = rw (line_front (drop at s)) (parts_at 10 s at h)

-- it ends where the first LF is found
lf_found : (t : List ℕ) → length (line_in t) ≡ index_of 10 t
unfolding index_of
lf_found t = ap length (line_front t) ∙ (mark_found 10 (index_of 10) refl (λ b s e. rw e) (λ b s e. rw e) t).0

line_taken_lem : (s : List ℕ) (at end : ℕ) → end ≡ at + index_of 10 (drop at s)
    → take (end - at) (drop at s) ≡ line_in (drop at s)
unfolding index_of
line_taken_lem s at end e =
    sym (line_front (drop at s) ∙ part_taken 10 (index_of 10) refl (λ b s e. rw e) (λ b s e. rw e) s at end e)

-- ---- the answer, case by case

module _ (s : List ℕ) (at laid : ℕ) (m : List ℕ) where
  at_ended : length s ≤ at → answer_at s at laid m ≡ ended s at laid m
  unfolding answer_at
  at_ended h = rw (le-leb (length s) at h)

  at_refused : at < length s → 32768 < length s → answer_at s at laid m ≡ refused_whole s at laid m
  unfolding answer_at
  at_refused l h = rw (lt-leb (length s) at l, lt-leb (length s) 32768 h)

  at_line : at < length s → length s ≤ 32768 → answer_at s at laid m ≡ line_answered s at laid m (line_in (drop at s))
  unfolding answer_at
  at_line l h = rw (lt-leb (length s) at l, le-leb (length s) 32768 h)

  by_answer_lem : (P : Answered → Type 0) → (length s ≤ at → P (ended s at laid m))
      → (at < length s → 32768 < length s → P (refused_whole s at laid m))
      → (at < length s → length s ≤ 32768 → P (line_answered s at laid m (line_in (drop at s))))
      → P (answer_at s at laid m)
  by_answer_lem P e r l = by (leb (length s) at) (leb (length s) 32768) refl refl
    where
      by : (t u : Bool) → leb (length s) at ≡ t → leb (length s) 32768 ≡ u → P (answer_at s at laid m)
      by true u p q = let h = leb-true (length s) at p in subst P (sym (at_ended h)) (e h)
      by false true p q =
          let h = leb-false (length s) at p in
          let w = leb-true (length s) 32768 q in
          subst P (sym (at_line h w)) (l h w)
      by false false p q =
          let h = leb-false (length s) at p in
          let w = leb-false (length s) 32768 q in
          subst P (sym (at_refused h w)) (r h w)

-- ---- the answer at each return of `next_answer`

module _ (s : List ℕ) (at laid : ℕ) (m : List ℕ) where
  pub at_end : (line : List ℕ) → length s ≤ at → line ≡ []
      → Answers (answer_at s at laid m) (record { line = line; laid = laid; next = at }) m
  unfolding ended
  at_end line l h =
      subst (λ (a : Answered). Answers a (record { line = line; laid = laid; next = at }) m)
      (sym (at_ended s at laid m l))
      (record { line = h; laid = refl; next = refl; memory = refl })

  pub too_long : (line next : List ℕ) → 32768 < length s → at < length s → line ≡ refused_text 1
      → next ≡ line ++ (10 ∷ [])
      → Answers (answer_at s at laid m) (record { line = next; laid = laid; next = length s }) m
  unfolding refused_whole
  too_long line next h l q p =
      subst (λ (a : Answered). Answers a (record { line = next; laid = laid; next = length s }) m)
      (sym (at_refused s at laid m l h))
      (record { line = p ∙ ap (λ (l : List ℕ). l ++ (10 ∷ [])) q; laid = refl; next = refl; memory = refl })

  -- the line was played, and the sheet goes on behind its LF
  pub goes_on : (end : ℕ) (r : Played) (d next : List ℕ) → length s ≤ 32768 → at < length s
      → end ≡ at + index_of 10 (drop at s)
      → Plays (play_line laid m (take (end - at) (drop at s))) r d → next ≡ r.line ++ (10 ∷ [])
      → Answers (answer_at s at laid m) (record { line = next; laid = r.laid; next = end + 1 }) d
  unfolding line_answered
  goes_on end r d next h l e p q =
      subst (λ (a : Answered). Answers a (record { line = next; laid = r.laid; next = end + 1 }) d)
      (sym (at_line s at laid m l h))
      (record {
        line = q ∙ ap (λ (l : List ℕ). l ++ (10 ∷ [])) plays.line;
        laid = plays.laid;
        next = omega (arith, e, lf_found (drop at s));
        memory = plays.memory;
      })
    where
      plays : Plays (play_line laid m (line_in (drop at s))) r d
      plays = subst (λ (t : List ℕ). Plays (play_line laid m t) r d) (line_taken_lem s at end e) p

-- room for the LF
pub refused_room : (line : List ℕ) → line ≡ refused_text 1 → length line < 512
refused_room line h = omega (arith, ap length h, refused_short 1)

pub played_room : (p : model.Played) (r : Played) (d : List ℕ) → Plays p r d → length r.line < 512
played_room p r d h = omega (arith, ap length h.line, h.short)

-- ---- what is still to be printed

-- what a sheet has still to print from `at` on; nothing behind its end
unfoldable pub left_of : (sheet : List ℕ) (at laid : ℕ) (m : List ℕ) → List ℕ
left_of s at laid m =
    cond (leb (length s) 32768) (printed laid m (lines_of (drop at s)))
    (cond (ltb at (length s)) (refused_text 1 ++ (10 ∷ [])) [])

module _ (s : List ℕ) (laid : ℕ) (m : List ℕ) where
  left_short : (at : ℕ) → length s ≤ 32768 → left_of s at laid m ≡ printed laid m (lines_of (drop at s))
  unfolding left_of
  left_short at h = rw (le-leb (length s) 32768 h)

  left_long : (at : ℕ) → 32768 < length s → at < length s → left_of s at laid m ≡ refused_text 1 ++ (10 ∷ [])
  unfolding left_of
  left_long at h l = rw (lt-leb (length s) 32768 h, lt-ltb at (length s) l)

  left_none : (at : ℕ) → length s ≤ at → left_of s at laid m ≡ []
  unfolding left_of printed
  left_none at h = by (leb (length s) 32768) refl
    where
      by : (t : Bool) → leb (length s) 32768 ≡ t → left_of s at laid m ≡ []
      by true e = rw e (ap (printed laid m) (no_parts 10 s at h))
      by false e = rw (e, le-ltb at (length s) h)

-- at the start it is all that the sheet prints
pub whole_sheet : (s : List ℕ) → left_of s 0 0 (replicate (board_length 16 64) 0) ≡ play_sheet s
unfolding left_of play_sheet
whole_sheet s = by (leb (length s) 32768) refl
  where
    by : (t : Bool) → leb (length s) 32768 ≡ t → left_of s 0 0 (replicate (board_length 16 64) 0) ≡ play_sheet s
    by true e = rw e
    by false e = rw (e, lt-ltb 0 (length s) (omega (arith, leb-false (length s) 32768 e)))

module _ (s : List ℕ) (at laid : ℕ) (m : List ℕ) where
  -- each answer prints the next part of it
  pub left_at : left_of s at laid m
      ≡ (answer_at s at laid m).printed
      ++ left_of s (answer_at s at laid m).next (answer_at s at laid m).laid (answer_at s at laid m).memory
  unfolding ended refused_whole line_answered printed
  left_at =
      by_answer_lem s at laid m (λ (a : Answered). left_of s at laid m ≡ a.printed ++ left_of s a.next a.laid
      a.memory) (λ h. refl)
      (λ l h. left_long s laid m at h l ∙ sym (append-nil (refused_text 1 ++ (10 ∷ [])))
      ∙ ap (λ (t : List ℕ). (refused_text 1 ++ (10 ∷ [])) ++ t) (sym (left_none s laid m (length s) (omega arith))))
      (λ l h. left_short s laid m at h ∙ ap (printed laid m) (lines_at s at l)
      ∙ ap (λ (t : List ℕ). (play_line laid m (line_in (drop at s))).printed ++ (10 ∷ t)) (sym (left_short s _ _ _ h))
      ∙ sym (append_assoc (play_line laid m (line_in (drop at s))).printed (10 ∷ []) _))

  -- inside the sheet each answer leads on
  pub behind : at < length s → at < (answer_at s at laid m).next
  unfolding ended refused_whole line_answered
  behind =
      by_answer_lem s at laid m (λ (a : Answered). at < length s → at < a.next) (λ h l. absurd (omega arith)) (λ l h b. b)
      (λ l h b. omega arith)

-- ---- the program's loop

all_left : (fuel : ℕ) (s : List ℕ) (at laid : ℕ) (m : List ℕ) → length s - at < fuel
    → play_all fuel s at laid m ≡ left_of s at laid m
unfolding play_all
all_left zero s at laid m f = absurd (omega arith)
all_left (suc k) s at laid m f = by (leb (length s) at) refl (all_left k s _ _ _)
  where
    a : Answered
    a = answer_at s at laid m

    by : (t : Bool) → leb (length s) at ≡ t
        → (length s - a.next < k → play_all k s a.next a.laid a.memory ≡ left_of s a.next a.laid
        a.memory)
        → play_all (suc k) s at laid m ≡ left_of s at laid m
    by true e rest = let h = leb-true (length s) at e in rw (le-ltb at (length s) h) (sym (left_none s laid m at h))
    by false e rest =
        let h = leb-false (length s) at e in
        rw (lt-ltb at (length s) h)
        (ap (λ (t : List ℕ). a.printed ++ t) (rest (omega (arith, behind s at laid m h))) ∙ sym (left_at s at laid m))

-- as many answers as the sheet has bytes and one more are enough
pub sheet_printed : SheetPrinted
unfolding SheetPrinted
sheet_printed s fuel f = all_left fuel s 0 0 _ (omega arith) ∙ whole_sheet s
