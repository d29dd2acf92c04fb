-- The claims of specs/Claims.antt and specs/Runs.antt, each by its law.
-- Relies on the laws of the calls; it is where a reader finds them proved.
use Rattle.model.proofs.Kit.{List, none, ℕ}
use Rattle.model.specs.Figure.{figures}
use Rattle.model.specs.Claims.{Unaltered, Passes, KeepSound, Local, OthersStay, AnswersTell}
use Rattle.model.proofs.Board.Codec.{Fits}
use Rattle.model.proofs.Listing.Tells.{Told, move_tells}
use Rattle.model.proofs.Calls.Refusals.{Board, board_of_lem, board_passes}
use Rattle.model.proofs.Calls.Refused.{lay_refused, propose_refused, step_refused, run_refused}
use Rattle.model.proofs.Calls.CallsKeep.{lay_sound, propose_keeps, step_keeps}
use Rattle.model.proofs.Calls.Runs.{run_keeps}
use Rattle.model.proofs.Calls.Rounds.{rounds_refused, rounds_keep}
use Rattle.model.proofs.Calls.Proposals.{together_refused, together_keeps}
use Rattle.model.proofs.Calls.Local as laws

passed : (b : List ℕ) → Board b → Passes b
unfolding Passes
passed b h = board_passes b h none

board : (b : List ℕ) → Passes b → Board b
unfolding Passes
board b e = (board_of_lem b none e).0

pub unaltered : Unaltered
unaltered = record {
  laying = lay_refused;
  proposing = propose_refused;
  stepping = step_refused;
  running = run_refused;
  playing = rounds_refused;
  together = together_refused;
}

pub keep_sound : KeepSound
unfolding Fits
keep_sound = record {
  laying = λ n K b e. passed _ (lay_sound n K b e);
  proposing = λ i v f b h. passed _ (propose_keeps i v f b (board b h));
  stepping = λ i b h. passed _ (step_keeps i b (board b h));
  running = λ is b h. passed _ (run_keeps is b (board b h));
  playing = λ k rs b h. passed _ (rounds_keep k rs b (board b h));
  together = λ ps f b h. passed _ (together_keeps ps f b (board b h));
}

pub local : Local
unfolding Local
local n K i b d h g = laws.local n K i b d (board b h) (board d g)

pub others_stay : OthersStay
unfolding OthersStay
others_stay i b h = laws.step_other i b (board b h)

pub answers_tell : AnswersTell
unfolding AnswersTell Told
answers_tell n K s r = move_tells K figures n s r
