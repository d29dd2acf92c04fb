-- What a line prints of a call: no refusal that only library callers meet, if the board is sound.
-- Relies on the refusals in checking order and on the reading of printed numbers; EachForm and Fits rely on it.
use Rattle.model.proofs.Kit.{◌≡◌, refl, sym, ap, subst, ◌∙◌, Bool, true, false, ◌&&◌, ◌||◌, not, inl, inr, ◌⊎◌}
use Rattle.model.proofs.Kit.{List, [], ◌∷◌, none, some, Option, ℕ, ◌-◌, ◌≤◌, eqb, leb, leb→le, T, length, drop}
use Rattle.model.proofs.Kit.{replicate, arith}
use lib.Seq.{take_at}
use Rattle.model.specs.Bytes.{byte}
use Rattle.model.specs.Figure.{Figure}
use Rattle.model.specs.Listing.{Station, idle, active}
use Rattle.model.specs.Calls.{After, Refusal, RunAnswer, ran, not_run, unless, board_refusal, station_refusal}
use Rattle.model.specs.Calls.{station_at, proposal_refusal, not_idle, unless_refused, step, ran_from, run}
use Rattle.model.specs.Calls as calls
use Rattle.model.specs.Show.{text, text_from, shown_line, shown_as}
use Rattle.model.specs.Show as shows
use Rattle.model.specs.Forms.{Read, found, digit, natural}
use Rattle.model.specs.Rounds.{rounds_refusal, played_to}
use Rattle.model.specs.Rounds as byRound
use Rattle.model.specs.Proposals.{Proposal, or_later, first_fault, pairs_refusal, proposals_refusal, propose_all}
use Rattle.model.specs.Sheet.{last_refusal, refused_text, or_refused, proposed_text, ran_text, played_text, shown_text}
use Rattle.model.specs.Sheet.{together_text}
use Rattle.model.specs.SheetList.{LibraryOnly, NotMet}
use Rattle.model.proofs.Basics.Tests.{and_l}
use Rattle.model.proofs.Calls.Refusals.{Board, board_passes, two_passes, call_case}
use Rattle.model.proofs.Calls.Runs.{ran_is}
use Rattle.model.proofs.Calls.Rounds.{rounds_case}
use Rattle.model.proofs.Sheet.Readers.{Always}
use Rattle.model.proofs.Sheet.Numbers.{Stops, natural_decimal}

-- ---- what is printed

-- a refusal's number can be read off its line
refused_number : (j k : ℕ) → j ≤ last_refusal → k ≤ last_refusal → refused_text j ≡ refused_text k → j ≡ k
unfolding last_refusal refused_text text text_from Stops found digit
refused_number j k h l e =
    let same : found j (text ")") ≡ found k (text ")")
    = sym (natural_decimal j (omega arith) (text ")") refl) ∙ ap (λ (t : List ℕ). natural (drop 9 t)) e
    ∙ natural_decimal k (omega arith) (text ")") refl in
    ap (λ (o : Option (Read ℕ)). elim o [ none ↦ 0 | some r ↦ r.value ]) same

-- the other numbers of 01's list
unfoldable pub Other : ℕ → Type 0
Other k = (k ≤ last_refusal) × (LibraryOnly k → ⊥)

low : (k : ℕ) → LibraryOnly k → k ≤ last_refusal
unfolding last_refusal LibraryOnly
low k (inl p) = omega arith
low k (inr (inl p)) = omega arith
low k (inr (inr (inl p))) = omega arith
low k (inr (inr (inr p))) = omega arith

pub refused_prints : (j : ℕ) → Other j → NotMet (refused_text j)
unfolding NotMet Other
refused_prints j o k m e = o.1 (subst LibraryOnly (sym (refused_number j k o.0 (low k m) e)) m)

-- an answer of another kind does not begin with "(re"
pub answer_prints : (t : List ℕ) → (byte t 2 ≡ 101 → ⊥) → NotMet t
unfolding NotMet refused_text text text_from
answer_prints t f k m e = f (ap (λ (u : List ℕ). byte u 2) e)

or_refused_prints : (r : Refusal) (t : List ℕ) → Always Other r → NotMet t → NotMet (or_refused r t)
unfolding or_refused Always
or_refused_prints none t o h = h
or_refused_prints (some k) t o h = refused_prints k o

-- ---- refusals of calls on a board that fits

unfoldable pub unmet : ℕ → Bool
unmet k = leb k last_refusal && not (eqb k 7 || (eqb k 10 || (eqb k 11 || eqb k 22)))

pub other : (k : ℕ) → T (unmet k) → Other k
unfolding unmet last_refusal Other LibraryOnly
other k t = (leb→le k last_refusal (and_l (leb k last_refusal) _ t), apart)
  where
    apart : (k ≡ 7) ⊎ ((k ≡ 10) ⊎ ((k ≡ 11) ⊎ (k ≡ 22))) → ⊥
    apart (inl p) = subst (λ (i : ℕ). T (unmet i)) p t
    apart (inr (inl p)) = subst (λ (i : ℕ). T (unmet i)) p t
    apart (inr (inr (inl p))) = subst (λ (i : ℕ). T (unmet i)) p t
    apart (inr (inr (inr p))) = subst (λ (i : ℕ). T (unmet i)) p t

pub always_unless : (t : Bool) (k : ℕ) (later : Refusal) → (t ≡ false → Other k) → (t ≡ true → Always Other later)
    → Always Other (unless t k later)
unfolding unless Always
always_unless true k later f g = g refl
always_unless false k later f g = f refl

-- an accepted call says nothing of a refusal
pub answered : (r : Refusal) (b d : List ℕ) → Always Other r
    → Always Other (unless_refused r some b (record { answer = none; bytes = d })).answer
unfolding unless_refused Always
answered none b d h = tt
answered (some k) b d h = h

idle_or_13 : (s : Station Figure) → Always Other (not_idle s)
unfolding not_idle Always unmet last_refusal
idle_or_13 idle = tt
idle_or_13 (active v s) = other 13 tt

or_later_lem : (r later : Refusal) → Always Other r → Always Other later → Always Other (or_later r later)
unfolding Always
or_later_lem none later o h = h
or_later_lem (some k) later o h = o

-- what is printed of a line that is shown is that line
pub shown_text_lem : (l : List ℕ) → shown_text (shown_as none l) ≡ l
unfolding shown_text shown_as or_refused
shown_text_lem l = take_at l (replicate (512 - length l) 0) (length l) refl

pub refusal_of : (r : Refusal) (l : List ℕ) → (shown_as r l).refusal ≡ r
unfolding shown_as
refusal_of none l = refl
refusal_of (some k) l = refl

module _ (b : List ℕ) (h : Board b) where
  board_first : (later : Refusal) → Always Other later → Always Other (board_refusal b later)
  board_first later = subst (Always Other) (sym (board_passes b h later))

  -- no sheet has laid a board of two stations
  module _ (not_two : calls.stations b ≡ 2 → ⊥) where
    -- 12 and 13 of a proposal on its own, and of the first pair that has a fault
    own_fault : (i : ℕ) → Always Other (proposal_refusal i b)
    unfolding station_refusal unmet last_refusal
    own_fault i =
        always_unless _ 12 _ (λ _. other 12 tt)
        (λ _. subst (Always Other) (sym (two_passes b not_two (not_idle (station_at i b)))) (idle_or_13 (station_at i b)))

    pub propose_says : (i : ℕ) (v : Figure) → NotMet (or_refused (calls.propose i v b).answer (proposed_text i v))
    unfolding calls.propose proposed_text text text_from
    propose_says i v =
        or_refused_prints (calls.propose i v b).answer (proposed_text i v)
        (answered _ b _ (board_first _ (own_fault i)))
        (answer_prints (proposed_text i v) (λ e. omega arith))

    first_fault_lem : (ps : List Proposal) → Always Other (first_fault ps b)
    unfolding first_fault Always
    first_fault_lem [] = tt
    first_fault_lem (p ∷ ps) =
        or_later_lem (proposal_refusal p.station b) (first_fault ps b) (own_fault p.station) (first_fault_lem ps)

    pub together_says : (ps : List Proposal)
        → NotMet (or_refused (propose_all ps b).answer (together_text (length ps)))
    unfolding propose_all proposals_refusal pairs_refusal together_text text text_from unmet last_refusal
    together_says ps =
        or_refused_prints (propose_all ps b).answer (together_text (length ps))
        (answered _ b _ (board_first _ (always_unless _ 20 _ (λ _. other 20 tt) (λ _. first_fault_lem ps))))
        (answer_prints (together_text (length ps)) (λ e. omega arith))

  pub ran_says : (is : List ℕ) → NotMet (ran_text (run is b).answer)
  unfolding run unmet last_refusal
  ran_says is =
      call_case (λ (a : After RunAnswer). NotMet (ran_text a.answer))
      (unless (leb (length is) 65536) 6 (board_refusal b none)) not_run b (ran_from step 0 0 is b)
      (λ _. subst (λ (a : After RunAnswer). NotMet (ran_text a.answer)) (sym (ran_is step 0 0 is b)) (counts _ _))
      (λ k e. turned k (subst (Always Other) e six))
    where
      six : Always Other (unless (leb (length is) 65536) 6 (board_refusal b none))
      six = always_unless _ 6 _ (λ _. other 6 tt) (λ _. unfold Always in board_first none tt)

      counts : (s t : ℕ) → NotMet (ran_text (ran s t))
      counts s t = unfold ran_text text text_from in answer_prints (ran_text (ran s t)) (λ e. omega arith)

      turned : (k : ℕ) → Always Other (some k) → NotMet (ran_text (not_run k))
      turned k o = unfold ran_text Always in refused_prints k o

  pub rounds_say : (k : ℕ) (rs : List (List ℕ)) → NotMet (played_text (byRound.rounds k rs b).answer)
  unfolding played_to
  rounds_say k rs =
      rounds_case k rs b (λ a. NotMet (played_text a.answer)) (λ _. counts _ _)
      (λ j e. turned j (subst (Always Other) e own))
    where
      own : Always Other (rounds_refusal k rs b)
      own = unfold rounds_refusal unmet last_refusal Always in
          board_first _
          (always_unless _ 18 _ (λ _. other 18 tt) (λ _. always_unless _ 19 none (λ _. other 19 tt) (λ _. tt)))

      counts : (r d : ℕ) → NotMet (played_text (byRound.played r d))
      counts r d = unfold played_text text text_from in answer_prints (played_text (byRound.played r d)) (λ e. omega arith)

      turned : (j : ℕ) → Always Other (some j) → NotMet (played_text (byRound.not_played j))
      turned j o = unfold played_text Always in refused_prints j o

  pub show_says : NotMet (shown_text (shows.show b))
  unfolding shows.show shown_text unmet last_refusal
  show_says = said _ (board_first _ (always_unless _ 17 none (λ _. other 17 tt) (λ _. unfold Always in tt)))
    where
      said : (r : Refusal) → Always Other r → NotMet (shown_text (shown_as r (shown_line b)))
      said none o = unfold shown_as or_refused in
          subst NotMet (sym (shown_text_lem (shown_line b)))
          (unfold shown_line text text_from in answer_prints (shown_line b) (λ e. omega arith))
      said (some k) o = unfold shown_as or_refused Always in refused_prints k o
