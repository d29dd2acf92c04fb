-- The order that demand 3 asks for: first a given station, then every other station whose register of m is filled.
-- Relies on the state that a board stands for; demand 3 relies on it.
use Rattle.model.proofs.Kit.{◌≡◌, ap, inl, inr, ⊎_elim, List, [], ◌∷◌, ℕ, zero, suc, ◌≤◌, ◌<◌, pos, ℕ_discrete}
use Rattle.model.proofs.Kit.{eq-or-lt_of_le, arith}
use native.Mathlib.Nat.{le_of_suc-le-suc}
use Rattle.model.specs.Figure.{Figure}
use Rattle.model.specs.Listing.{Register, empty, filled, Station, idle, active}
use Rattle.model.specs.Layout.{station_of}
use Rattle.model.specs.AnyList.{Seat, Among, Once}
use Rattle.model.proofs.Listing.Collect.{Filled}
use Rattle.model.proofs.Bridge.Along.{m_of}

filled? : (r : Register Figure) → Dec (Filled r)
filled? empty = no (λ h. h)
filled? (filled f k y) = yes tt

unfoldable pub proposal_in : Station Figure → Figure
proposal_in idle = pos 0
proposal_in (active v s) = v

module _ (n K : ℕ) (d : List ℕ) where
  unfoldable pub seat : ℕ → Seat
  seat j = record { station = suc j; figure = proposal_in (station_of n K j d) }

  module _ (first : ℕ) where
    -- station index j took a step and is not the first
    pub record TakesPart (j : ℕ) : Type 0 where
      pub steps : Filled (m_of n K j d)
      pub other : j ≡ first → ⊥

    takes_part : (j : ℕ) → Dec (TakesPart j)
    takes_part j = elim (filled? (m_of n K j d)) [
      | no f ↦ no (λ t. f t.steps)
      | yes h ↦ elim (ℕ_discrete j first) [
        | no f ↦ yes (record { steps = h; other = f })
        | yes e ↦ no (λ t. t.other e)
      ]
    ]

    with_seat : (j : ℕ) → Dec (TakesPart j) → List Seat → List Seat
    with_seat j (yes t) l = seat j ∷ l
    with_seat j (no f) l = l

    -- those below k, the highest first
    pub seats : ℕ → List Seat
    seats zero = []
    seats (suc k) = with_seat k (takes_part k) (seats k)

    -- a property of the seats below each k: index k has a seat or none
    module _ (P : ℕ → List Seat → Type 0) (base : P 0 [])
        (more : (k : ℕ) → TakesPart k → P k (seats k) → P (suc k) (seat k ∷ seats k))
        (less : (k : ℕ) → (TakesPart k → ⊥) → P k (seats k) → P (suc k) (seats k)) where
      up_to : (k : ℕ) → P k (seats k)
      unfolding seats
      up_to zero = base
      up_to (suc k) = by (takes_part k) (up_to k)
        where
          by : (t : Dec (TakesPart k)) → P k (seats k) → P (suc k) (with_seat k t (seats k))
          by (yes t) p = unfold with_seat in more k t p
          by (no f) p = unfold with_seat in less k f p

    -- whoever is among them
    pub among_is : (k i : ℕ) → Among i (seats k) → (j : ℕ) × (j < k) × (i ≡ suc j) × TakesPart j
    unfolding Among seat
    among_is =
        up_to (λ k l. (i : ℕ) → Among i l → (j : ℕ) × (j < k) × (i ≡ suc j) × TakesPart j) (λ i a. absurd a)
        (λ k t up i. ⊎_elim (λ q. (k, omega arith, q, t)) (λ q. let (j, h, e, u) = up i q in (j, omega arith, e, u)))
        (λ k out up i a. let (j, h, e, u) = up i a in (j, omega arith, e, u))

    pub is_among : (k j : ℕ) → j < k → TakesPart j → Among (suc j) (seats k)
    unfolding Among seat
    is_among =
        up_to (λ k l. (j : ℕ) → j < k → TakesPart j → Among (suc j) l) (λ j h t. absurd (omega arith))
        (λ k t up j h u. ⊎_elim (λ e. inl (ap suc e)) (λ l. inr (up j l u)) (eq-or-lt_of_le (le_of_suc-le-suc h)))
        (λ k out up j h u. ⊎_elim (λ e. absurd (out (rw e at u))) (λ l. up j l u) (eq-or-lt_of_le (le_of_suc-le-suc h)))

    -- each once
    pub seats_once : (k : ℕ) → Once (seats k)
    unfolding Once seat
    seats_once =
        up_to (λ k. Once) tt (λ k t p. ((λ a. let (j, h, e, u) = among_is k (suc k) a in absurd (omega arith)), p))
        (λ k out p. p)

    -- what holds of the seat of each that takes part holds of all
    pub all_seats : (P : List Seat → Type 0) → P []
        → ((j : ℕ) (l : List Seat) → TakesPart j → j < n → P l → P (seat j ∷ l)) → (k : ℕ) → k ≤ n → P (seats k)
    all_seats P base more =
        up_to (λ k l. k ≤ n → P l) (λ h. base) (λ k t p h. more k (seats k) t h (p (omega arith)))
        (λ k out p h. p (omega arith))
