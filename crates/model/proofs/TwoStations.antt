-- Saved boards of two stations, fresh but for the two proposals: all decisions of every list from them are one figure,
-- and a station left running decides.
-- Relies on their start, decisions in a list and stations left alone. The statement is specs/TwoStations.antt.
use Rattle.model.proofs.Kit.{List, ℕ, ◌≤◌, lit<}
use Rattle.model.specs.Figure.{Figure, figures}
use Rattle.model.specs.Claims.{Passes}
use Rattle.model.specs.AnyList.{Call, after, AllAllowed}
use Rattle.model.specs.TwoStations.{start, Settles, SavedBoard, SavedBoards}
use Rattle.model.proofs.Basics.Numbers.{same_law}
use Rattle.model.proofs.Board.Codec.{Fits}
use Rattle.model.proofs.Calls.Refusals.{board_passes}
use Rattle.model.proofs.Termination.Climbs.{climbs_inductive}
use Rattle.model.proofs.Bridge.Lists.{Held, ready, held_after, along_list}
use Rattle.model.proofs.Bridge.Decided.{agreement}
use Rattle.model.proofs.Bridge.LeftAlone.{decides_alone}
use Rattle.model.proofs.TwoStart.{Begun, begun, holds, first_stands, second_stands, validity}

module _ (K : ℕ) (low : 2 ≤ K) (high : K ≤ 64) (v w : Figure) (fits-v : Fits v) (fits-w : Fits w) where
  abbrev at_start : Begun 2 K (start K v w)
  at_start = begun K low high v w fits-v fits-w

  abbrev held : Held 2 K (start K v w)
  held = at_start.held

  module _ (cs : List Call) (a : AllAllowed cs (start K v w)) where
    settles : Settles (start K v w) cs
    settles = record {
      agreement = agreement 2 K (start K v w) held cs a;
      validity = validity K low high v w fits-v fits-w cs a;
      alone = decides_alone 2 K (after cs (start K v w)) (ready 2 K _ (held_after 2 K cs _ held a)) low
          (along_list 2 K (climbs_inductive figures same_law 2 K) cs _ (ready 2 K _ held) a (λ i v p. tt) at_start.safe);
    }

  saved_board : SavedBoard v w (start K v w)
  unfolding Passes
  saved_board = record {
    sound = board_passes _ held.board _;
    first = holds K low high v w fits-v fits-w 0 v (lit< tt) (first_stands K low high v w fits-v fits-w);
    second = holds K low high v w fits-v fits-w 1 w (lit< tt) (second_stands K low high v w fits-v fits-w);
    settles = settles;
  }

pub saved_boards : SavedBoards
unfolding SavedBoards Fits
saved_boards = saved_board
