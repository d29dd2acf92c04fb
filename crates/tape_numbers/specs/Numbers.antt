-- The answer of a comparison as numbers in a lent list: the line number with the tape, and the place of a part.
-- Relies on the model's comparison; the contracts of the crate and of the calls for C rely on it.
use Rattle.std.specs.Prelude.{cond, MatchBool, List, ◌∷◌, ℕ, leb, length, drop}
use Rattle.model.specs.Tape.{Tap, first, second, Compared, not_compared, alike, differs}

-- "the first tape's .. else the second's"; 0 stands for none
unfoldable pub tap_number : Tap → ℕ
tap_number first = 1
tap_number second = 2

unfoldable pub refusal_number : Compared → ℕ
refusal_number (not_compared k) = k
refusal_number alike = 0
refusal_number (differs k t) = 0

unfoldable pub culprit_number : Compared → ℕ
culprit_number (not_compared k) = 0
culprit_number alike = 0
culprit_number (differs k t) = tap_number t

-- two numbers at the front of a list, the rest as it was
unfoldable pub two_in : (a b : ℕ) → List ℕ → List ℕ
two_in a b l = a ∷ b ∷ drop 2 l

-- the line number and the tape; "A refusal answers its number only and changes no byte"
unfoldable pub found_in : Compared → List ℕ → List ℕ
found_in (not_compared k) l = l
found_in alike l = two_in 0 0 l
found_in (differs k t) l = two_in k (tap_number t) l

-- what a call gives that has room for two numbers, and what one without it gives
unfoldable pub two_fit : {A : Type 0} → List ℕ → A → A → A
two_fit l given other = cond (leb 2 (length l)) given other

-- and what holds of one that has room for them, and of one that has not
unfoldable pub TwoFit : List ℕ → (room no_room : Type 0) → Type 0
TwoFit l room no_room = MatchBool (leb 2 (length l)) room no_room
