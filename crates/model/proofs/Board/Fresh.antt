-- A fresh board is sound: every part of it past n and K is zero.
-- Relies on Splices, Places and the clauses of soundness; the laws of laying rely on it.
use Rattle.model.proofs.Kit.{◌≡◌, sym, ◌∙◌, List, ℕ, zero, suc, ◌+◌, ◌-◌, ◌≤◌, ◌<◌, ◌*◌, T, lit≤, length}
use Rattle.model.proofs.Kit.{true, lt-ltb, replicate, length-replicate, arith}
use mathlib.Core.Path.{subst⁻¹}
use lib.ListN.{get_or-replicate}
use lib.Seq.{ext_get_or}
use Rattle.model.specs.Bytes.{byte, number, part, zeros, implies}
use Rattle.model.specs.Listing.{Array}
use Rattle.model.specs.Layout.{board_length, register_at, record_at, fresh_board, read_record, record_value, of_phase}
use Rattle.model.specs.Layout.{record_of}
use Rattle.model.specs.Sound.{head_sound, register_sound, own_written, own_passed, collecting, phase_known}
use Rattle.model.specs.Sound.{position_inside, island_inside, best_inside, flag_known, rest_zero, idle_zero}
use Rattle.model.specs.Sound.{collect_zero, best_island_zero, best_zero, seen_known, fields_sound, record_sound}
use Rattle.model.specs.Sound.{steps_kept, most_steps, met_kept, most_met}
use Rattle.model.proofs.Basics.Tests.{zeros_replicate, true-T}
use Rattle.model.proofs.Basics.Splices.{length_part, byte_part}
use Rattle.model.proofs.Board.Places.{InBoard, register_fits, record_inside, head_first, head_before_records}
use Rattle.model.proofs.Board.Boards.{register_part}
use Rattle.model.proofs.Board.SoundFacts.{register_test, SoundBoard}

module _ (n K : ℕ) where
  pub length_fresh : length (fresh_board n K) ≡ board_length n K
  unfolding fresh_board board_length
  length_fresh = omega (arith, length-replicate {A = ℕ} (8 + 32 * n + 16 * (n * K) - 2) 0)

  byte_fresh : (k : ℕ) → 2 ≤ k → k < board_length n K → byte (fresh_board n K) k ≡ 0
  unfolding fresh_board
  byte_fresh zero h l = absurd (omega arith)
  byte_fresh (suc zero) h l = absurd (omega arith)
  byte_fresh (suc (suc k)) h l = get_or-replicate (board_length n K - 2) k 0 0 (omega arith)

  pub part_fresh : (at len : ℕ) → 2 ≤ at → at + len ≤ board_length n K → part at len (fresh_board n K) ≡ replicate len 0
  part_fresh at len h l =
      ext_get_or 0 (part at len (fresh_board n K)) (replicate len 0) (size ∙ sym (length-replicate len 0))
      (λ (i : ℕ) (k : i < length (part at len (fresh_board n K))).
      let j : i < len = omega (arith, size) in
      byte_part at len (fresh_board n K) i j ∙ byte_fresh (at + i) (omega arith) (omega arith)
      ∙ sym (get_or-replicate len i 0 0 j))
    where
      size : length (part at len (fresh_board n K)) ≡ len
      size = length_part at len (fresh_board n K) (omega (arith, length_fresh))

  empty_sound : (a : Array) → T (register_test K a (replicate 8 0))
  unfolding register_test register_sound zeros
  empty_sound a = tt

  pub fresh_zero : (i : ℕ) → i < n → record_of n K i (fresh_board n K) ≡ replicate 24 0
  unfolding record_of
  fresh_zero i h = part_fresh (record_at n K i) 24 (omega (arith, head_before_records n K i)) (record_inside n K i h)

  pub fresh_empty : (a : Array) → InBoard K a → (j : ℕ) → j < n → register_part n a j (fresh_board n K) ≡ replicate 8 0
  unfolding register_part
  fresh_empty a h j l = part_fresh (register_at n a j) 8 (omega (arith, head_first n K a j)) (register_fits n K a j h l)

  pub zero_sound : 0 < n → 0 < K → (i : ℕ) (b : List ℕ) → record_sound n K i b (replicate 24 0) ≡ true
  unfolding record_sound fields_sound phase_known position_inside island_inside best_inside flag_known rest_zero idle_zero
      collect_zero best_island_zero best_zero seen_known collecting implies zeros part read_record record_value of_phase
      own_written own_passed steps_kept most_steps met_kept most_met number
  zero_sound hn hK i b = simp (lt-ltb 0 n hn, lt-ltb 0 K hK)

  pub fresh_sound : 0 < n → 0 < K → SoundBoard n K (fresh_board n K)
  unfolding head_sound
  fresh_sound hn hK = record {
    len = length_fresh;
    head =
        subst⁻¹ (λ (l : List ℕ). T (zeros l))
        (part_fresh 2 6 (lit≤ tt) (omega (arith, record_inside n K 0 hn, head_before_records n K 0)))
        (zeros_replicate 6);
    registers = λ a h j l. subst⁻¹ (λ (r : List ℕ). T (register_test K a r)) (fresh_empty a h j l) (empty_sound a);
    records = λ j h.
        subst⁻¹ (λ (r : List ℕ). T (record_sound n K j (fresh_board n K) r)) (fresh_zero j h)
        (true-T _ (zero_sound hn hK j (fresh_board n K)));
  }
