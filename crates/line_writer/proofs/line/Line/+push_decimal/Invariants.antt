-- The measure is the number.
use Rattle.line_writer.proofs.line.Line.+push_decimal.Given as goal

abbrev pub decreases-push_decimal : goal.decreases-push_decimal
decreases-push_decimal l = l.x
