-- Single proposals in any order: each is accepted, and the board is the same.
-- Relies on Proposals and on records that are put in in either order; it proves `AnyOrder`.
use Rattle.model.proofs.Kit.{◌≡◌, refl, sym, ap, subst, subst₂, ◌∙◌, List, ◌∷◌, none, ℕ, ◌-◌, arith}
use mathlib.Core.List.Permᴰ
use mathlib.Core.List.{Permᴰ}
use Rattle.model.specs.declared.Record.{Record}
use Rattle.model.specs.Bytes.{Each}
use Rattle.model.specs.Figure.{Figure}
use Rattle.model.specs.Listing.{proposed}
use Rattle.model.specs.Layout.{read_record, record_fields, with_counts, fields_of}
use Rattle.model.specs.Calls.{After, Refusal, stations, islands, put_record, propose}
use Rattle.model.specs.Claims.{Passes}
use Rattle.model.specs.Proposals.{Proposal, AllFit, one_by_one, propose_all}
use Rattle.model.specs.AnyOrder.{AllAccepted, AnyOrder}
use Rattle.model.proofs.Board.Codec.{Fits}
use Rattle.model.proofs.Board.Boards.{records_commute}
use Rattle.model.proofs.Calls.Refusals.{Board, board_of_lem, may_propose, index_inside}
use Rattle.model.proofs.Calls.CallsKeep.{propose_keeps}
use Rattle.model.proofs.Calls.Proposals.{Free, accepted_of, accepts, same_stations, same_islands}
use Rattle.model.proofs.Calls.Proposals.{other_record, free_stays, free_back, free_no_more, passed_of, of_passed}
use Rattle.model.proofs.Calls.Proposals.{all_accepted, accepted_passed, together_passes, together_is}

-- ---- two stations

-- the record of a station that begins with v
abbrev begun : (n K j : ℕ) → Figure → List ℕ → Record
begun n K j v b = record_fields (proposed v) (with_counts 0 0 (fields_of n K j b))

module _ (i j : ℕ) (v w : Figure) (b : List ℕ) (h : Board b) (ne : i ≡ j → ⊥) (fi : Free b i) (fj : Free b j)
    (fits : Fits v) where
  n : ℕ
  n = stations b

  K : ℕ
  K = islands b

  second : (propose j w (propose i v b).bytes).bytes
      ≡ put_record n K (j - 1) (begun n K (j - 1) w b) (put_record n K (i - 1) (begun n K (i - 1) v b) b)
  unfolding n K
  second =
      let e : j ≡ i → ⊥ = λ q. ne (sym q) in
      ap (λ (a : After Refusal). a.bytes)
      (accepts j w (propose i v b).bytes (propose_keeps i v fits b h) (free_stays i v b h fi j e fj))
      ∙ rw (same_stations i v b h fi, same_islands i v b h fi)
      ((λ k. put_record (stations b) (islands b) (j - 1)
      (record_fields (proposed w) (with_counts 0 0 (read_record (other_record i v b h fi j e (may_propose j b fj).on k))))
      (accepts i v b h fi k).bytes))

pub commute : (i j : ℕ) (v w : Figure) (b : List ℕ) → Board b → (i ≡ j → ⊥) → Free b i → Free b j → Fits v → Fits w
    → (propose j w (propose i v b).bytes).bytes ≡ (propose i v (propose j w b).bytes).bytes
unfolding n K
commute i j v w b h ne fi fj fv fw =
    let on-i = (may_propose i b fi).on in
    let on-j = (may_propose j b fj).on in
    second i j v w b h ne fi fj fv
    ∙ records_commute _ _ b h.sound_board.len (i - 1) (j - 1) (index_inside i b on-i) (index_inside j b on-j)
    (λ e. ne (omega (arith, on-i.low, on-j.low))) _ _
    ∙ sym (second j i w v b h (λ q. ne (sym q)) fj fi fw)

-- ---- any order

Fitting : Proposal → Type 0
Fitting p = Fits p.figure

fit_perm : {ps qs : List Proposal} → Permᴰ ps qs → AllFit ps → AllFit qs
unfolding AllFit Each Fitting Fits
fit_perm Permᴰ.nil h = tt
fit_perm (Permᴰ.cons e d) h = (subst Fitting e h.0, fit_perm d h.1)
fit_perm (Permᴰ.swap e f) h =
    (subst Fitting f h.1.0, (subst Fitting e h.0, h.1.1))
fit_perm (Permᴰ.trans d c) h = fit_perm c (fit_perm d h)

-- the pairs qs are accepted one by one, and leave what ps leave
Ends : (ps qs : List Proposal) → List ℕ → Type 0
Ends ps qs b = AllAccepted qs b × (one_by_one ps b ≡ one_by_one qs b)

swapped : (p q : Proposal) (l : List Proposal) (b : List ℕ) → Board b → Fits p.figure → Fits q.figure
    → AllAccepted (p ∷ q ∷ l) b → Ends (p ∷ q ∷ l) (q ∷ p ∷ l) b
unfolding Ends AllAccepted one_by_one
swapped p q l b h fp fq a =
    let i = p.station in
    let j = q.station in
    let v = p.figure in
    let w = q.figure in
    let first = (accepted_of i v b a.0).1 in
    let then = (accepted_of j w _ a.1.0).1 in
    let ne : i ≡ j → ⊥ = λ e. free_no_more i v b h first fp (subst (Free (propose i v b).bytes) (sym e) then) in
    let other = free_back i v b h first j (λ e. ne (sym e)) then in
    let same = commute i j v w b h ne first other fp fq in (
      (
        ap (λ (r : After Refusal). r.answer) (accepts j w b h other),
        (
          ap (λ (r : After Refusal). r.answer)
              (accepts i v _ (propose_keeps j w fq b h) (free_stays j w b h other i ne first)),
          subst (AllAccepted l) same a.1.1,
        ),
      ),
      ap (one_by_one l) same,
    )

in_order : {ps qs : List Proposal} → Permᴰ ps qs → AllFit ps → (b : List ℕ) → Board b → AllAccepted ps b
    → Ends ps qs b
unfolding Ends AllFit Each Fits AllAccepted one_by_one
in_order Permᴰ.nil fits b h a = (tt, refl)
in_order (Permᴰ.cons {a = p} {b = q} {l₁ = ps} {l₂ = qs} e d) fits b h a =
    subst (λ (x : Proposal). Ends (p ∷ ps) (x ∷ qs) b) e
    (let g = in_order d fits.1 _ (propose_keeps p.station p.figure fits.0 b h) a.1 in
    ((a.0, g.0), g.1))
in_order (Permᴰ.swap {a = p} {b = q} {l = l} e f) fits b h a =
    subst₂ (λ (x y : Proposal). Ends (p ∷ q ∷ l) (x ∷ y ∷ l) b) f e
    (swapped p q l b h fits.0 fits.1.0 a)
in_order (Permᴰ.trans d c) fits b h a =
    let first = in_order d fits b h a in
    let last = in_order c (fit_perm d fits) b h first.0 in
    (last.0, first.1 ∙ last.1)

pub any_order : AnyOrder
unfolding AllFit Ends
any_order = record { each = λ ps qs p f b e. (ends p f b e).0; same = same; together = together }
  where
    ends : {ps qs : List Proposal} → Permᴰ ps qs → AllFit ps → (b : List ℕ) → (propose_all ps b).answer ≡ none
        → Ends ps qs b
    ends {ps} {qs} p f b e =
        let passed = passed_of ps b (together_passes ps b e) in
        in_order p f b passed.board (all_accepted ps b f passed)

    same : (ps qs : List Proposal) → Permᴰ ps qs → AllFit ps → (b : List ℕ) → (propose_all ps b).answer ≡ none
        → (propose_all ps b).bytes ≡ one_by_one qs b
    same ps qs p f b e =
        ap (λ (a : After Refusal). a.bytes) (together_is ps b (together_passes ps b e)) ∙ (ends p f b e).1

    together : (ps qs : List Proposal) → Permᴰ ps qs → AllFit ps → (b : List ℕ) → Passes b → AllAccepted qs b
        → (propose_all ps b).answer ≡ none
    together ps qs p f b h a = unfold Passes in
        let board = (board_of_lem b none h).0 in
        ap (λ (r : After Refusal). r.answer)
        (together_is ps b
        (of_passed ps b (accepted_passed ps b f board (in_order (Permᴰ.symm p) (fit_perm p f) b board a).0)))
