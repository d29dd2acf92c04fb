-- How long the lines of a run sheet can be: each leaves room for its LF.
-- Relies on Decimals; the answers of a sheet and the player rely on it.
use Rattle.model.proofs.Kit.{ℕ, ◌<◌, length, length-append, arith}
use Rattle.model.specs.Figure.{Figure}
use Rattle.model.specs.Show.{text, text_from}
use Rattle.model.specs.Calls.{ran}
use Rattle.model.specs.Rounds.{played}
use Rattle.model.specs.Sheet.{refused_text, laid_text, proposed_text, together_text, ran_text, played_text}
use Rattle.line_writer.proofs.Decimals.{length_any, length_signed}

pub refused_short : (k : ℕ) → length (refused_text k) < 512
unfolding refused_text text text_from
refused_short k = simp length-append (omega (arith, length_any k))

pub together_short : (m : ℕ) → length (together_text m) < 512
unfolding together_text text text_from
together_short m = simp length-append (omega (arith, length_any m))

pub laid_short : (n K : ℕ) → length (laid_text n K) < 512
unfolding laid_text text text_from
laid_short n K = simp length-append (omega (arith, length_any n, length_any K))

pub proposed_short : (i : ℕ) (v : Figure) → length (proposed_text i v) < 512
unfolding proposed_text text text_from
proposed_short i v = simp length-append (omega (arith, length_any i, length_signed v))

pub ran_short : (s t : ℕ) → length (ran_text (ran s t)) < 512
unfolding ran_text text text_from
ran_short s t = simp length-append (omega (arith, length_any s, length_any t))

pub played_short : (r d : ℕ) → length (played_text (played r d)) < 512
unfolding played_text text text_from
played_short r d = simp length-append (omega (arith, length_any r, length_any d))
