-- What is packed can be read back: each part stands in its own bits, so no two answers are one number, and no line that
-- is handed back answers with the number for a buffer that is too short.
-- Relies on the packing's definitions; nothing relies on it but the reader of an answer.
use Rattle.model.proofs.Kit.{◌≡◌, List, ℕ, suc, ◌+◌, ◌≤◌, ◌<◌, ◌/◌, ◌%◌, ◌*◌, length, arith}
use Rattle.std.specs.Prelude.{Ok, Err}
use Rattle.std.specs.declared.result.Result.{Result}
use Rattle.model.specs.declared.refusal.Refusal.{Refusal}
use Rattle.model.specs.declared.RoundsPlayed.{RoundsPlayed}
use Rattle.model.specs.Calls.{ran}
use Rattle.model.specs.Rounds.{played}
use Rattle.model.specs.Show.{show}
use Rattle.model.specs.Sheet.{play_line}
use Rattle.player.specs.declared.line.Played.{Played}
use Rattle.player.specs.Played.{Plays}
use Rattle.packing.specs.Packing.{packed_at, packed, packed_standing, pack_verdict, pack_run, pack_rounds}
use Rattle.packing.specs.Packing.{pack_word, FewRounds}
use Rattle.model.specs.Told.{number, rounds_told}
use Rattle.capi.specs.LentLines.{pack_show, pack_played}
use Rattle.capi.proofs.Laws.Listed.{listed, listed_high}
use Rattle.capi.proofs.Laws.LentLines.{shown_fits, line_laid}

-- what the types of the code's answer say: the stations decided and a refusal's number are bytes
unfoldable pub Bytes : Result RoundsPlayed Refusal → Type 0
Bytes (Ok r) = r.decided < 256
Bytes (Err k) = number k < 256

-- a step's five parts; the code's kind, its island or flag, and what it met are bytes
pub step_parts : (number kind field figure met : ℕ) → number < 256 → kind < 256 → field < 256 → met < 256
    → let s : ℕ = packed number kind field figure + met * 16777216 in
    (s % 256 ≡ number) × (s / 256 % 256 ≡ kind) × (s / 65536 % 256 ≡ field) × (s / 16777216 % 256 ≡ met)
    × (s / 4294967296 ≡ figure)
unfolding packed_at
step_parts number kind field figure met n k f m = omega arith

-- how a station stands and its steps; the code's island is a byte
pub standing_parts : (number kind island figure steps : ℕ) → number < 256 → kind < 16 → island < 256 → steps ≤ 4095
    → let s : ℕ = packed_standing number kind island figure + steps * 1048576 in
    (s % 256 ≡ number) × (s / 256 % 16 ≡ kind) × (s / 4096 % 256 ≡ island) × (s / 1048576 % 4096 ≡ steps)
    × (s / 4294967296 ≡ figure)
unfolding packed_at
standing_parts number kind island figure steps n k i l = omega arith

-- a run's counts, beside no refusal's number
pub run_parts : (s t : ℕ) → s ≤ 65536
    → let r : ℕ = pack_run (ran s t) in (r % 256 ≡ 0) × (r / 256 % 16777216 ≡ s) × (r / 4294967296 ≡ t)
unfolding pack_run
run_parts s t h = omega arith

-- rounds that were played, beside no refusal's number; the code's number of decided stations is a byte
pub rounds_parts : (r d : ℕ) → d < 256
    → let s : ℕ = pack_rounds (played r d) in (s % 256 ≡ 0) × (s / 256 % 256 ≡ d) × (s / 65536 ≡ r)
unfolding pack_rounds
rounds_parts r d h = omega arith

-- and no answer of a call that was made is all ones
pub rounds_never_all_ones : (w : Result RoundsPlayed Refusal) → FewRounds w → Bytes w
    → pack_rounds (rounds_told w) < 18446744073709551615
unfolding pack_rounds FewRounds Bytes rounds_told
rounds_never_all_ones (Ok r) f b = omega arith
rounds_never_all_ones (Err k) f b = omega arith

-- ---- a shown line's answer

shown_listed : (b : List ℕ) → pack_verdict (show b).refusal ≤ 255
shown_listed b = listed_high (show b).refusal (listed b)

pub shown_never_all_ones : (b : List ℕ) → pack_show (show b) < 4294967295
unfolding pack_show
shown_never_all_ones b = omega (arith, shown_listed b, (shown_fits b).1)

pub shown_parts : (b : List ℕ)
    → (pack_show (show b) % 65536 ≡ pack_verdict (show b).refusal) × (pack_show (show b) / 65536 ≡ (show b).len)
unfolding pack_show
shown_parts b = omega (arith, shown_listed b)

-- ---- a word that was found

pub word_parts : (k : ℕ) → (pack_word (suc k) % 4294967296 ≡ 1) × (pack_word (suc k) / 4294967296 ≡ suc k)
unfolding pack_word
word_parts k = omega arith

-- ---- a line that was played: what the player promises of it bounds both parts

module _ (l m : List ℕ) (laid : ℕ) (few : laid ≤ 4294967295) (r : Played) (e : List ℕ)
    (plays : Plays (play_line laid m l) r e) where
  pub played_never_all_ones : pack_played (play_line laid m l) < 18446744073709551615
  unfolding pack_played
  played_never_all_ones = omega (arith, plays.short, line_laid laid m few l)

  pub played_parts : (pack_played (play_line laid m l) % 65536 ≡ length (play_line laid m l).printed)
      × (pack_played (play_line laid m l) / 65536 ≡ (play_line laid m l).laid)
  unfolding pack_played
  played_parts = omega (arith, plays.short)
