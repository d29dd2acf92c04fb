-- After a round nobody stands in the middle of a collect, and the claims of specs/WholeSteps.antt are proved here.
-- Relies on the whole steps of a going station and on the refused steps of the others.
use Rattle.model.proofs.Kit.{◌≡◌, refl, sym, ap, subst, subst₂, ◌∙◌, Bool, inl, inr, List, [], ◌∷◌}
use Rattle.model.proofs.Kit.{none, some, ℕ, zero, suc, ◌+◌, ◌-◌, ◌≤◌, ◌<◌, T, replicate, ℕ_discrete, arith}
use Rattle.model.specs.Figure.{Figure, figures}
use Rattle.model.specs.Listing.{Register, Turn, turn_m, turn_a, turn_b, Flag, adopt, commit, writing, reading}
use Rattle.model.specs.Listing.{has_decided, is_spent, Station, idle, active, Answer, refused, Move, stay}
use Rattle.model.specs.Filled.{Report, refusal}
use Rattle.model.specs.Collects.{Ends, returned}
use Rattle.model.specs.Layout.{read_record, record_value, station_of}
use Rattle.model.specs.Calls.{After, Refusal, stations, islands, station_at, unless_refused, not_going, stepped}
use Rattle.model.specs.Calls.{step_on, step}
use Rattle.model.specs.Runs.{after, answers}
use Rattle.model.specs.Claims.{Passes}
use Rattle.model.specs.Bytes.{names}
use Rattle.model.specs.Rounds.{in_turn, round_steps, rounds_steps, settled, all_settled}
use Rattle.model.specs.WholeSteps.{WholeStep, WholeSteps}
use Rattle.model.proofs.Basics.Tests.{true-T, T_true, every_at, every_all, cond_case}
use Rattle.model.proofs.Listing.Cases.{onward_case}
use Rattle.model.proofs.Calls.Refusals.{some_none, refusal_case, Board, board_of_lem, station_passes, step_on_lem}
use Rattle.model.proofs.Calls.Runs.{after_append}
use Rattle.model.proofs.Bridge.Single.{Ready, step_ready}
use Rattle.model.proofs.Bridge.WholeSteps.{whole_step}

-- ---- a station that is not going

module _ (i : ℕ) (b : List ℕ) (h : Board b) (low : 1 ≤ i) (high : i ≤ stations b) (k : ℕ)
    (e : not_going (station_at i b) ≡ some k) where
  refused_step : step i b ≡ (record { answer = refusal k; bytes = b })
  unfolding step_on unless_refused
  refused_step =
      step_on_lem i b h
      ∙ ap (λ (r : Refusal). unless_refused r refusal b (stepped (stations b) (islands b) (i - 1) (station_at i b) b))
      (station_passes i b (record { low = low; high = high }) (not_going (station_at i b)) ∙ e)

  pub refused_steps : (steps : ℕ)
      → (answers step b (replicate steps i) ≡ replicate steps (refused k)) × (after step b (replicate steps i) ≡ b)
  unfolding answers after
  refused_steps zero = (refl, refl)
  refused_steps (suc steps) =
      let rest = refused_steps steps in
      let stays : (step i b).bytes ≡ b = ap (λ (a : After (Report Figure)). a.bytes) refused_step in (
        (λ j. (refused_step j).answer.did ∷ answers step (stays j) (replicate steps i))
            ∙ ap (λ (l : List (Answer Figure)). refused k ∷ l) rest.0,
        ap (λ (d : List ℕ). after step d (replicate steps i)) stays ∙ rest.1,
      )

-- ---- a station that is going, on a board that passes 18

going_writes : (s : Station Figure) → T (settled s) → not_going s ≡ none
    → (v : Figure) × (t : Turn) × (c : ℕ) × (x : Figure) × (s ≡ active v (writing t c x))
unfolding settled not_going
going_writes idle q e = some_none 14 e
going_writes (active v (writing t c x)) q e = (v, t, c, x, refl)
going_writes (active v (reading t c x p a)) q e = absurd q
going_writes (active v (has_decided c x)) q e = some_none 15 e
going_writes (active v (is_spent c x)) q e = some_none 16 e

-- a collect's end leaves the station in the middle of none
end_settled : (v : Figure) (K : ℕ) (rs : List (Register Figure)) (c : ℕ) (t : Turn) (m : Move Figure)
    → Ends figures K rs c t m → T (settled (active v m.stage))
unfolding Ends settled stay
end_settled v K rs c turn_m m (k, y, h, e) = rw e tt
end_settled v K rs c turn_a m (f, y, h, e) = rw e tt
end_settled v K rs c (turn_b g) m (f, y, h, e) = rw e (by f)
  where
    by : (f : Flag) → T (settled (active v (returned figures K c f y).stage))
    by commit = unfold returned in tt
    by adopt = unfold returned in
        onward_case K (λ (m : Move Figure). T (settled (active v m.stage))) c y (λ l. tt) tt

module _ (b : List ℕ) (q : T (all_settled b)) where
  pub each_settled : (j : ℕ) → j < stations b → T (settled (station_of (stations b) (islands b) j b))
  unfolding all_settled
  each_settled = every_at (stations b) (λ j. settled (station_of (stations b) (islands b) j b)) q

  pub one_whole : (i : ℕ) → Board b → 1 ≤ i → i ≤ stations b → not_going (station_at i b) ≡ none
      → WholeStep i b (after step b (replicate (stations b + 1) i))
  unfolding station_at
  one_whole i h low high e =
      let w = going_writes (station_at i b) (each_settled (i - 1) (omega arith)) e in
      whole_step i b h low high w.0 w.1 w.2 w.3 w.4

-- ---- boards that pass 18

-- a sound board of n and K on which nobody is in the middle of a collect
record Rests (n K : ℕ) (b : List ℕ) : Type 0 where
  ready : Ready n K b
  each : (j : ℕ) → j < n → T (settled (station_of n K j b))

rests_of : (b : List ℕ) → Board b → T (all_settled b) → Rests (stations b) (islands b) b
rests_of b h q = record { ready = record { board = h; is_n = refl; is_k = refl }; each = each_settled b q }

rests_settled : (n K : ℕ) (b : List ℕ) → Rests n K b → T (all_settled b)
unfolding all_settled
rests_settled n K b r =
    every_all (stations b) (λ j. settled (station_of (stations b) (islands b) j b))
    (λ j l. rw (r.ready.is_n, r.ready.is_k) (r.each j (omega (arith, r.ready.is_n))))

steps_ready : (n K i k : ℕ) (b : List ℕ) → Ready n K b → Ready n K (after step b (replicate k i))
unfolding after
steps_ready n K i zero b r = r
steps_ready n K i (suc k) b r = steps_ready n K i k (step i b).bytes (step_ready n K i b r)

-- after a whole step
whole_rests : (i : ℕ) (b d : List ℕ) → Rests (stations b) (islands b) b → WholeStep i b d
    → Ready (stations b) (islands b) d → Rests (stations b) (islands b) d
unfolding station_at station_of
whole_rests i b d r w now = record {
  ready = now;
  each = λ j l. elim (ℕ_discrete (i - 1) j) [
    | yes e ↦ subst (λ (k : ℕ). T (settled (station_of (stations b) (islands b) k d))) e own
    | no f ↦ subst (λ (f : List ℕ). T (settled (record_value (read_record f)))) (sym (w.others j l f)) (r.each j l)
  ];
}
  where
    ended : T (settled (active w.v w.end.stage))
    ended = end_settled w.v (islands b) _ w.c w.turn w.end w.collects

    own : T (settled (station_of (stations b) (islands b) (i - 1) d))
    own =
        subst₂ (λ (m L : ℕ). T (settled (station_of m L (i - 1) d))) now.is_n now.is_k
        (subst (λ (s : Station Figure). T (settled s)) (sym w.stands) ended)

-- the n + 1 steps of one station, with n and K from the head
one_rests : (i : ℕ) (b : List ℕ) → 1 ≤ i → i ≤ stations b → Rests (stations b) (islands b) b
    → Rests (stations b) (islands b) (after step b (replicate (stations b + 1) i))
one_rests i b low high r = elim (refusal_case (not_going (station_at i b))) [
  | inl e ↦
      whole_rests i b _ r (one_whole b (rests_settled (stations b) (islands b) b r) i r.ready.board low high e)
      (steps_ready (stations b) (islands b) i (stations b + 1) b r.ready)
  | inr e ↦
      subst (Rests (stations b) (islands b))
      (sym (refused_steps i b r.ready.board low high e.0 e.1 (stations b + 1)).1) r
]

-- and with those of the board that began
station_rests : (n K i : ℕ) (b : List ℕ) → 1 ≤ i → i ≤ n → Rests n K b → Rests n K (after step b (replicate (n + 1) i))
station_rests n K i b low high r =
    subst₂ (λ (m L : ℕ). i ≤ m → Rests m L b → Rests m L (after step b (replicate (m + 1) i))) r.ready.is_n
    r.ready.is_k (one_rests i b low) high r

turns_rest : (n K m : ℕ) (suspended : ℕ → Bool) (b : List ℕ) → m ≤ n → Rests n K b
    → Rests n K (after step b (in_turn (n + 1) m suspended))
unfolding in_turn after
turns_rest n K zero suspended b l r = r
turns_rest n K (suc m) suspended b l r =
    let before = turns_rest n K m suspended b (omega arith) r in
    rw (after_append step b (in_turn (n + 1) m suspended))
    (cond_case (λ (is : List ℕ). Rests n K (after step (after step b (in_turn (n + 1) m suspended)) is))
    (suspended (suc m)) [] (replicate (n + 1) (suc m)) (λ e. before)
    (λ e. station_rests n K (suc m) _ (omega arith) l before))

rounds_rest : (n K : ℕ) (rs : List (List ℕ)) (b : List ℕ) → Rests n K b → Rests n K (after step b (rounds_steps n rs))
unfolding rounds_steps round_steps after
rounds_rest n K [] b r = r
rounds_rest n K (round ∷ rs) b r =
    rw (after_append step b (round_steps n round))
    (rounds_rest n K rs _ (turns_rest n K n (λ i. names i round) b (omega arith) r))

-- ---- the claims

pub whole_steps : WholeSteps
unfolding Passes
whole_steps = record {
  whole = λ i b h q low high e. one_whole b (true-T _ q) i (board_of_lem b none h).0 low high e;
  passed = λ i b h low high k e. refused_steps i b (board_of_lem b none h).0 low high k e;
  settled_again = λ rs b h q.
      T_true _ (rests_settled (stations b) (islands b) _
      (rounds_rest (stations b) (islands b) rs b (rests_of b (board_of_lem b none h).0 (true-T _ q))));
}
