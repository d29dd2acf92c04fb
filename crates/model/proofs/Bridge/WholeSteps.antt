-- The n + 1 single steps of a going station on a board that passes 18 are one write and one whole collect.
-- Relies on the bridge of single steps and on the paper's lines of a collect; SettledAgain relies on it.
use Rattle.model.proofs.Kit.{◌≡◌, refl, sym, ap, subst, subst₂, ◌∙◌, ◌&&◌, List, [], ◌∷◌}
use Rattle.model.proofs.Kit.{◌++◌, ℕ, zero, suc, ◌+◌, ◌-◌, ◌*◌, ◌≤◌, ◌<◌, eqb, eqb-true, eq-eqb}
use Rattle.model.proofs.Kit.{replicate, arith}
use Rattle.model.specs.Figure.{Figure, figures}
use Rattle.model.specs.Listing.{Turn, Register, Seen, nothing, Stage, writing, reading, Station, active, Array}
use Rattle.model.specs.Listing.{in_m, in_a, in_b, array, entry, Answer, wrote, read, Move, stay, see, move}
use Rattle.model.specs.Listing.{place_array, place_column}
use Rattle.model.specs.Collects.{SomeFilled, Ends, through, Collects}
use Rattle.model.specs.Layout.{row_of, register_of, record_of, station_of}
use Rattle.model.specs.Calls.{stations, islands, station_at, step}
use Rattle.model.specs.Runs.{after, answers}
use Rattle.model.specs.WholeSteps.{registers_from, WholeStep}
use Rattle.model.proofs.Basics.Tests.{by_test, both_true}
use Rattle.model.proofs.Board.Places.{InBoard}
use Rattle.model.proofs.Board.Values.{array_inside, SoundStation, sound_station}
use Rattle.model.proofs.Board.Good.{GoodStation, GoodStage}
use Rattle.model.proofs.Board.SoundFacts.{SoundBoard}
use Rattle.model.proofs.Listing.Cases.{read_on}
use Rattle.model.proofs.Listing.Collect.{Filled, entry_fills}
use Rattle.model.proofs.Listing.Page.{figures_collect}
use Rattle.model.proofs.Listing.Rows.{row, row_length, row_last, row_filled, row_as}
use Rattle.model.proofs.Listing.Written.{read_writes}
use Rattle.model.proofs.Calls.Refusals.{Board}
use Rattle.model.proofs.Calls.Local.{step_other}
use Rattle.model.proofs.Calls.Runs.{after_append, answers_append}
use Rattle.model.proofs.Agreement.State.{State, put, put_same, same_array, array_is, array_self, put_written}
use Rattle.model.proofs.Agreement.State.{move_of, moving}
use Rattle.model.proofs.Agreement.Cells.{put_put}
use Rattle.model.proofs.Sequential.Registers.{Registers, write}
use Rattle.model.proofs.Sequential.Alone.{alone}
use Rattle.model.proofs.Bridge.View.{view, view_station, view_register}
use Rattle.model.proofs.Bridge.Single.{Ready, step_ready, step_at}

replicate_last : (k i : ℕ) → replicate (suc k) i ≡ replicate k i ++ (i ∷ [])
replicate_last zero i = refl
replicate_last (suc k) i = ap (λ (l : List ℕ). i ∷ l) (replicate_last k i)

-- a write, the reads but the last, and the last
steps_split : (n i : ℕ) → 1 ≤ n → replicate (n + 1) i ≡ i ∷ (replicate (n - 1) i ++ (i ∷ []))
steps_split n i h =
    let e : n + 1 ≡ suc (suc (n - 1)) = omega arith in
    ap (λ (k : ℕ). replicate k i) e ∙ ap (λ (l : List ℕ). i ∷ l) (replicate_last (n - 1) i)

-- steps of a station leave the other stations' records
pub steps_leave : (n K i j : ℕ) → j < n → (i - 1 ≡ j → ⊥) → (k : ℕ) (d : List ℕ) → Ready n K d
    → record_of n K j (after step d (replicate k i)) ≡ record_of n K j d
unfolding after
steps_leave n K i j l f zero d r = refl
steps_leave n K i j l f (suc k) d r =
    steps_leave n K i j l f k (step i d).bytes (step_ready n K i d r)
    ∙ subst₂ (λ (m L : ℕ). record_of m L j (step i d).bytes ≡ record_of m L j d) r.is_n r.is_k
    (step_other i d r.board j (omega (arith, r.is_n)) f)

registers_row : (n : ℕ) (a : Array) (p k : ℕ) (b : List ℕ)
    → registers_from n a p k b ≡ row (λ q. register_of n a q b) p k
unfolding registers_from row
registers_row n a p zero b = refl
registers_row n a p (suc k) b =
    ap (λ (l : List (Register Figure)). register_of n a p b ∷ l) (registers_row n a (p + 1) k b)

-- ---- one station's steps, the others as they stand

-- an array of the board by its row
row_in_board : (K : ℕ) (a : Array) → row_of a < 1 + 2 * K → InBoard K a
unfolding row_of InBoard
row_in_board K in_m h = tt
row_in_board K (in_a c) h = omega arith
row_in_board K (in_b c) h = omega arith

module _ (n K i : ℕ) (low : 1 ≤ i) (own : i - 1 < n) (v : Figure) (t : Turn) (c : ℕ) (x : Figure)
    (S : ℕ → Station Figure) (R : Registers Figure) where
  -- the board d, on which the station stands at stage s
  record At (s : Stage Figure) (d : List ℕ) : Type 0 where
    ready : Ready n K d
    seen_as : view n K d ≡ alone (i - 1) v S s R

  station_at_lem : (s : Stage Figure) (d : List ℕ) → At s d → station_of n K (i - 1) d ≡ active v s
  unfolding alone
  station_at_lem s d h =
      sym (view_station n K d (i - 1) own) ∙ ap (λ (st : State Figure). st.station (i - 1)) h.seen_as
      ∙ put_same (i - 1) (active v s) S

  -- a read: only the station's record changes
  module _ (p : ℕ) (a : Seen Figure) (d : List ℕ) (h : At (reading t c x p a) d) where
    abbrev moved : Move Figure
    moved = move figures n K (reading t c x p a) (R (array t c) p)

    one_read : At moved.stage (step i d).bytes × ((step i d).answer.did ≡ moved.answer)
    unfolding alone moving move_of place_array place_column put_written
    one_read =
        let s : Stage Figure = reading t c x p a in
        let both = step_at n K i d h.ready low own v s (station_at_lem s d h) tt in (
          record {
            ready = step_ready n K i d h.ready;
            seen_as =
                both.0 ∙ ap (moving figures n K (i - 1) v s) h.seen_as
                ∙ rw (read_writes K figures n t c x p a (R (array t c) p))
                (λ j. record { station = put_put (i - 1) (active v moved.stage) (active v s) S j; register = R });
          },
          both.1 ∙ ap (λ (st : State Figure). (move_of figures n K (i - 1) s st).answer) h.seen_as,
        )

  -- k reads from position p on, none of them the last
  record Reads (p : ℕ) (a : Seen Figure) (k : ℕ) (d e : List ℕ) : Type 0 where
    seen_so_far : Seen Figure
    now_at : At (reading t c x (p + k) seen_so_far) e
    stage : through figures n K (reading t c x p a) (row (R (array t c)) p k) ≡ reading t c x (p + k) seen_so_far
    answered : answers step d (replicate k i) ≡ replicate k read

  some_reads : (k p : ℕ) (a : Seen Figure) (d : List ℕ) → At (reading t c x p a) d → p + k < n
      → Reads p a k d (after step d (replicate k i))
  unfolding after answers through row stay
  some_reads zero p a d h l =
      let e : p ≡ p + 0 = omega arith in
      record {
        seen_so_far = a;
        now_at = subst (λ (q : ℕ). At (reading t c x q a) d) e h;
        stage = ap (λ (q : ℕ). reading t c x q a) e;
        answered = refl;
      }
  some_reads (suc k) p a d h l =
      let on = read_on figures n K t c x p a (R (array t c) p) (omega arith) in
      let next = see figures t a (R (array t c) p) in
      let one = one_read p a d h in
      let here : At (reading t c x (p + 1) next) (step i d).bytes =
      subst (λ (m : Move Figure). At m.stage (step i d).bytes) on one.0 in
      let rest = some_reads k (p + 1) next (step i d).bytes here (omega arith) in
      let q : p + 1 + k ≡ p + suc k = omega arith in
      record {
        seen_so_far = rest.seen_so_far;
        now_at = subst (λ (j : ℕ). At (reading t c x j rest.seen_so_far)
            (after step (step i d).bytes (replicate k i))) q rest.now_at;
        stage =
            ap (λ (m : Move Figure). through figures n K m.stage (row (R (array t c)) (p + 1) k)) on ∙ rest.stage
            ∙ ap (λ (j : ℕ). reading t c x j rest.seen_so_far) q;
        answered = λ j. (one.1 ∙ ap (λ (m : Move Figure). m.answer) on) j ∷ rest.answered j;
      }

  -- The station writes and collects: from the board b, on which it stands before the write, with these registers after.
  module _ (b : List ℕ) (r : Ready n K b) (stands : station_of n K (i - 1) b ≡ active v (writing t c x))
      (others : S ≡ (view n K b).station)
      (registers : R ≡ write (array t c) (i - 1) (entry t c x) (view n K b).register) where
    written_first : At (reading t c x 0 nothing) (step i b).bytes × ((step i b).answer.did ≡ wrote)
    unfolding alone moving move_of move place_array place_column
    written_first =
        let both = step_at n K i b r low own v (writing t c x) stands tt in (
          record {
            ready = step_ready n K i b r;
            seen_as = both.0 ∙ (λ j. record {
              station = put (i - 1) (active v (reading t c x 0 nothing)) (sym others j);
              register = sym registers j;
            });
          },
          both.1,
        )

    all_reads : Reads 0 nothing (n - 1) (step i b).bytes (after step (step i b).bytes (replicate (n - 1) i))
    all_reads = some_reads (n - 1) 0 nothing (step i b).bytes written_first.0 (omega arith)

    before_last : List ℕ
    before_last = after step (step i b).bytes (replicate (n - 1) i)

    last : Move Figure
    last = move figures n K (reading t c x (0 + (n - 1)) all_reads.seen_so_far) (R (array t c) (0 + (n - 1)))

    last_read : At last.stage (step i before_last).bytes × ((step i before_last).answer.did ≡ last.answer)
    unfolding last before_last
    last_read = one_read (0 + (n - 1)) all_reads.seen_so_far before_last all_reads.now_at

    inside : InBoard K (array t c)
    unfolding GoodStation GoodStage
    inside =
        let q : SoundBoard n K b = rw (r.is_n, r.is_k) at r.board.sound_board in
        let g : SoundStation n K (i - 1) b (active v (writing t c x)) =
        rw stands at (sound_station n K b q (i - 1) own) in
        array_inside K t c g.good

    own_entry : R (array t c) (i - 1) ≡ entry t c x
    unfolding put_written
    own_entry = rw (registers, array_self (array t c), eq-eqb (i - 1) (i - 1) refl)

    -- the registers of the board at the end
    at_end : (a : Array) (j : ℕ) → InBoard K a → j < n → register_of n a j (step i before_last).bytes ≡ R a j
    unfolding alone
    at_end a j h l =
        sym (view_register n K (step i before_last).bytes a j h l)
        ∙ ap (λ (st : State Figure). st.register a j) last_read.0.seen_as

    unwritten_elsewhere : (a : Array) (j : ℕ) → InBoard K a → j < n → ((a ≡ array t c) × (j ≡ i - 1) → ⊥)
        → R a j ≡ register_of n a j b
    unfolding put_written
    unwritten_elsewhere a j h l f =
        ap (λ (g : Registers Figure). g a j) registers
        ∙ by_test (same_array (array t c) a && eqb (i - 1) j)
        (λ e. let p = both_true (same_array (array t c) a) (eqb (i - 1) j) e in
        absurd (f (sym (array_is (array t c) a p.0), sym (eqb-true (i - 1) j p.1))))
        (λ e. rw e (view_register n K b a j h l))

    met : registers_from n (array t c) 0 n (step i before_last).bytes
        ≡ row (R (array t c)) 0 (n - 1) ++ (R (array t c) (0 + (n - 1)) ∷ [])
    met =
        let e : n ≡ suc (n - 1) = omega arith in
        registers_row n (array t c) 0 n (step i before_last).bytes
        ∙ row_as (λ q. register_of n (array t c) q (step i before_last).bytes) (R (array t c)) 0 n
        (λ q l. at_end (array t c) q inside (omega arith))
        ∙ ap (λ (k : ℕ). row (R (array t c)) 0 k) e ∙ row_last (R (array t c)) 0 (n - 1)

    some_filled : SomeFilled (row (R (array t c)) 0 (n - 1) ++ (R (array t c) (0 + (n - 1)) ∷ []))
    some_filled =
        let e : n ≡ suc (n - 1) = omega arith in
        subst SomeFilled (ap (λ (k : ℕ). row (R (array t c)) 0 k) e ∙ row_last (R (array t c)) 0 (n - 1))
        (row_filled (R (array t c)) 0 n (i - 1) (omega arith) (omega arith)
        (subst Filled (sym own_entry) (entry_fills t c x)))

    collect_ends : Ends figures K (registers_from n (array t c) 0 n (step i before_last).bytes) c t last
    unfolding last Collects
    collect_ends =
        subst (λ (rs : List (Register Figure)). Ends figures K rs c t last) (sym met)
        (subst (λ (s : Stage Figure). Ends figures K
        (row (R (array t c)) 0 (n - 1) ++ (R (array t c) (0 + (n - 1)) ∷ [])) c t
        (move figures n K s (R (array t c) (0 + (n - 1))))) all_reads.stage
        (figures_collect n K t c x (row (R (array t c)) 0 (n - 1)) (R (array t c) (0 + (n - 1)))
        (omega (arith, row_length (R (array t c)) 0 (n - 1))) some_filled).1)

    all_steps : after step b (replicate (n + 1) i) ≡ (step i before_last).bytes
    unfolding after before_last
    all_steps =
        ap (after step b) (steps_split n i (omega arith))
        ∙ after_append step (step i b).bytes (replicate (n - 1) i) (i ∷ [])

    all_answers : answers step b (replicate (n + 1) i) ≡ wrote ∷ (replicate (n - 1) read ++ (last.answer ∷ []))
    unfolding answers before_last
    all_answers =
        ap (answers step b) (steps_split n i (omega arith))
        ∙ ap (λ (l : List (Answer Figure)). (step i b).answer.did ∷ l)
        (answers_append step (step i b).bytes (replicate (n - 1) i) (i ∷ []))
        ∙ (λ j. written_first.1 j ∷ (all_reads.answered j ++ (last_read.1 j ∷ [])))

-- A going station's n + 1 steps on a board where it stands before a write.
pub whole_step : (i : ℕ) (b : List ℕ) → Board b → 1 ≤ i → i ≤ stations b → (v : Figure) (t : Turn) (c : ℕ) (x : Figure)
    → station_at i b ≡ active v (writing t c x) → WholeStep i b (after step b (replicate (stations b + 1) i))
unfolding station_at
whole_step i b h low high v t c x e =
    let n = stations b in
    let K = islands b in
    let own : i - 1 < n = omega arith in
    let S = (view n K b).station in
    let R = write (array t c) (i - 1) (entry t c x) (view n K b).register in
    let r : Ready n K b = record { board = h; is_n = refl; is_k = refl } in
    let end = last n K i low own v t c x S R b r e refl refl in
    let done = last_read n K i low own v t c x S R b r e refl refl in
    let registers = at_end n K i low own v t c x S R b r e refl refl in
    let d = (step i (before_last n K i low own v t c x S R b r e refl refl)).bytes in
    subst (WholeStep i b) (sym (all_steps n K i low own v t c x S R b r e refl refl)) (record {
      v = v;
      turn = t;
      c = c;
      x = x;
      end = end;
      stood = e;
      stands =
          subst₂ (λ (m L : ℕ). station_of m L (i - 1) d ≡ active v end.stage) (sym done.0.ready.is_n)
          (sym done.0.ready.is_k) (station_at_lem n K i low own v t c x S R end.stage d done.0);
      written =
          registers (array t c) (i - 1) (inside n K i low own v t c x S R b r e refl refl) own
          ∙ own_entry n K i low own v t c x S R b r e refl refl;
      unwritten = λ a j l k f.
          registers a j (row_in_board K a l) k
          ∙ unwritten_elsewhere n K i low own v t c x S R b r e refl refl a j (row_in_board K a l) k f;
      collects = collect_ends n K i low own v t c x S R b r e refl refl;
      answered = all_answers n K i low own v t c x S R b r e refl refl;
      others = λ j l f.
          ap (record_of n K j) (sym (all_steps n K i low own v t c x S R b r e refl refl))
          ∙ steps_leave n K i j l f (n + 1) b r;
    })
