-- What byte 0 of a record says of its station, and the loops over the stations of a sound board that read it.
-- Relies on the layout and on loops over numbers; the proofs of the phases rely on it.
use Rattle.model.proofs.Kit.{◌≡◌, refl, sym, ap, ◌∙◌, Bool, true, false, cond, not, List, none, ℕ, zero, suc, ◌+◌, eqb, ne_eqb, subst, ◌⊎◌, ⊎_elim}
use Rattle.model.proofs.Kit.{◌≤◌, ◌<◌, length, get_or, add-zero, arith}
use Rattle.model.specs.Bytes.{byte, every, count}
use Rattle.model.specs.Figure.{Figure}
use Rattle.model.specs.Listing.{Station}
use Rattle.model.specs.Layout.{record_at, record_of, fields_of, read_record, of_phase, writing_of, reading_of, record_value}
use Rattle.model.specs.Layout.{station_of}
use Rattle.model.specs.Calls.{stations, islands, board_refusal}
use Rattle.model.specs.Rounds.{settled, is_decided, all_settled, decided_on}
use Rattle.model.proofs.Basics.Loops.{every_none, count_none, every_more, every_end, every_fails, count_more, count_most}
use Rattle.model.proofs.Basics.Loops.{count_end}
use Rattle.model.proofs.Basics.Splices.{byte_part}
use Rattle.model.proofs.Board.Places.{record_inside}
use Rattle.soundness.proofs.Laws.Placing.{head, head_long, n_high, k_high}
use Rattle.rounds.specs.Phases.{Settles, Decides}

-- ---- by the phase

-- in the middle of a collect, and in any other phase
pub reading : (h : ℕ) → (h ≡ 2) ⊎ ((h ≡ 4) ⊎ (h ≡ 6)) → Settles h false
unfolding Settles settled of_phase reading_of
reading h = ⊎_elim (λ e. rw e (λ f. refl)) (⊎_elim (λ e. rw e (λ f. refl)) (λ e. rw e (λ f. refl)))

pub not_reading : (h : ℕ) → (h ≡ 2 → ⊥) → (h ≡ 4 → ⊥) → (h ≡ 6 → ⊥) → Settles h true
unfolding Settles settled of_phase writing_of reading_of
not_reading zero m a b f = refl
not_reading (suc zero) m a b f = refl
not_reading (suc (suc zero)) m a b f = absurd (m refl)
not_reading (suc (suc (suc zero))) m a b f = refl
not_reading (suc (suc (suc (suc zero)))) m a b f = absurd (a refl)
not_reading (suc (suc (suc (suc (suc zero))))) m a b f = refl
not_reading (suc (suc (suc (suc (suc (suc zero)))))) m a b f = absurd (b refl)
not_reading (suc (suc (suc (suc (suc (suc (suc zero))))))) m a b f = refl
not_reading (suc (suc (suc (suc (suc (suc (suc (suc h)))))))) m a b f = refl

pub decides_in : (h r : ℕ) → r ≡ cond (eqb h 7) 1 0 → Decides h r
unfolding Decides is_decided of_phase writing_of reading_of
decides_in h r e = subst (Decides h) (sym e) (by h)
  where
    by : (h : ℕ) → Decides h (cond (eqb h 7) 1 0)
    by zero f = refl
    by (suc zero) f = refl
    by (suc (suc zero)) f = refl
    by (suc (suc (suc zero))) f = refl
    by (suc (suc (suc (suc zero)))) f = refl
    by (suc (suc (suc (suc (suc zero))))) f = refl
    by (suc (suc (suc (suc (suc (suc zero)))))) f = refl
    by (suc (suc (suc (suc (suc (suc (suc zero))))))) f = refl
    by (suc (suc (suc (suc (suc (suc (suc (suc h)))))))) f =
        let x : ℕ = suc (suc (suc (suc (suc (suc (suc (suc h))))))) in
        ap (λ (t : Bool). cond t 1 0) (ne_eqb x 7 (λ e. omega arith))

-- ---- at its place on a board

abbrev pub settled_at : List ℕ → ℕ → Bool
settled_at b j = settled (station_of (stations b) (islands b) j b)

abbrev pub decided_at : List ℕ → ℕ → Bool
decided_at b j = is_decided (station_of (stations b) (islands b) j b)

module _ (b : List ℕ) (j at : ℕ) (e : at ≡ record_at (get_or b 0 0) (get_or b 1 0) j) where
  pub phase_inside : board_refusal b none ≡ none → j < get_or b 0 0 → at < length b
  phase_inside s l = omega (arith, record_inside (get_or b 0 0) (get_or b 1 0) j l, (head b s).len)

  own_phase : (fields_of (stations b) (islands b) j b).phase ≡ get_or b at 0
  unfolding record_of read_record stations islands
  own_phase =
      byte_part (record_at (get_or b 0 0) (get_or b 1 0) j) 24 b 0 (omega arith)
      ∙ ap (byte b) (add-zero (record_at (get_or b 0 0) (get_or b 1 0) j) ∙ sym e)

  by_phase : station_of (stations b) (islands b) j b ≡ of_phase (get_or b at 0) (fields_of (stations b) (islands b) j b)
  unfolding station_of record_value
  by_phase = ap (λ (p : ℕ). of_phase p (fields_of (stations b) (islands b) j b)) own_phase

  -- the station whose phase was read, as the test on the phase answered
  settles : (r : Bool) → Settles (get_or b at 0) r → settled_at b j ≡ r
  unfolding Settles
  settles r h = ap settled by_phase ∙ h _

  decides : (r : ℕ) → Decides (get_or b at 0) r → r ≡ cond (decided_at b j) 1 0
  unfolding Decides
  decides r h = h _ ∙ ap (λ (z : Station Figure). cond (is_decided z) 1 0) (sym by_phase)

  pub stops : (r : Bool) → Settles (get_or b at 0) r → not r ≡ true → j < get_or b 0 0 → false ≡ all_settled b
  unfolding all_settled stations
  stops false h t l = every_fails (settled_at b) (get_or b 0 0) j l (settles false h)
  stops true h t l = absurd (cc)

  pub settled_more : (r : Bool) → Settles (get_or b at 0) r → not r ≡ false → every j (settled_at b) ≡ true
      → every (j + 1) (settled_at b) ≡ true
  settled_more true h t q = every_more (settled_at b) j q (settles true h)
  settled_more false h t q = absurd (cc)

  pub decided_more : (x r : ℕ) → x ≡ count j (decided_at b) → Decides (get_or b at 0) r
      → x + r ≡ count (j + 1) (decided_at b)
  decided_more x r q h = count_more (decided_at b) j x r q (decides r h)

  pub decided_few : (x r : ℕ) → board_refusal b none ≡ none → j < get_or b 0 0 → x ≡ count j (decided_at b)
      → Decides (get_or b at 0) r → x + r < 256
  decided_few x r s l q h =
      omega (arith, (head b s).n_high, decided_more x r q h, count_most (decided_at b) (j + 1))

module _ (b : List ℕ) (j : ℕ) (l : j ≤ get_or b 0 0) (m : get_or b 0 0 ≤ j) where
  pub all_passed : every j (settled_at b) ≡ true → true ≡ all_settled b
  unfolding all_settled stations
  all_passed q = every_end (settled_at b) (get_or b 0 0) j l m q

  pub all_counted : (x : ℕ) → x ≡ count j (decided_at b) → x ≡ decided_on b
  unfolding decided_on stations
  all_counted x q = count_end (decided_at b) (get_or b 0 0) j x l m q

pub ruleset settling = (head_long, n_high, k_high, every_none, phase_inside, stops, settled_more, all_passed)

pub ruleset deciding = (head_long, n_high, k_high, count_none, phase_inside, decided_more, decided_few, all_counted)
