-- Lists of bytes: numbers of several bytes, tests that compute, and the one way in which bytes change.
-- Relies on the library alone; every other definition relies on it.
use Rattle.std.specs.Prelude.{Bool, true, false, not, ◌&&◌, ◌||◌, cond, List, [], ◌∷◌, ◌++◌, ℕ, zero, suc, ◌+◌, ◌*◌}
use Rattle.std.specs.Prelude.{◌/◌, ◌%◌, eqb, length, get_or, take, drop}

-- byte i of a list, and 0 past its end
abbrev pub byte : List ℕ → ℕ → ℕ
byte b i = get_or b i 0

-- "numbers of several bytes are least significant byte first"
unfoldable pub number : List ℕ → ℕ
number [] = 0
number (b ∷ bs) = b + 256 * number bs

-- the lowest k bytes of a number
unfoldable pub digits : ℕ → ℕ → List ℕ
digits zero x = []
digits (suc k) x = x % 256 ∷ digits k (x / 256)

-- len bytes from offset at
unfoldable pub part : ℕ → ℕ → List ℕ → List ℕ
part at len b = take len (drop at b)

-- the bytes v put in from offset at, every other byte as it was
unfoldable pub splice : ℕ → List ℕ → List ℕ → List ℕ
splice at v b = take at b ++ v ++ drop (at + length v) b

-- "all zero": every byte of a list is 0
unfoldable pub zeros : List ℕ → Bool
zeros [] = true
zeros (x ∷ xs) = eqb x 0 && zeros xs

-- the test f passes at each number below k
unfoldable pub every : ℕ → (ℕ → Bool) → Bool
every zero f = true
every (suc k) f = every k f && f k

-- how many of the numbers below k pass the test f
unfoldable pub count : ℕ → (ℕ → Bool) → ℕ
count zero f = 0
count (suc k) f = count k f + cond (f k) 1 0

-- the number i stands in a list
unfoldable pub names : (i : ℕ) → List ℕ → Bool
names i [] = false
names i (j ∷ js) = eqb i j || names i js

-- each thing of a list is as asked
unfoldable pub Each : {A : Type 0} → (A → Type 0) → List A → Type 0
Each P [] = Unit {0}
Each P (x ∷ xs) = P x × Each P xs

-- where the first test passes, so does the second
unfoldable pub implies : Bool → Bool → Bool
implies a b = not a || b

-- Bytes in parts: each part ends at the mark, the last may lack it, and nothing after a final mark is no part.
unfoldable pub on_first : ℕ → List (List ℕ) → List (List ℕ)
on_first b [] = (b ∷ []) ∷ []
on_first b (l ∷ ls) = (b ∷ l) ∷ ls

module _ (mark : ℕ) where
  unfoldable pub ended_by : List ℕ → List (List ℕ)
  ended_by [] = []
  ended_by (b ∷ s) = cond (eqb b mark) ([] ∷ ended_by s) (on_first b (ended_by s))
