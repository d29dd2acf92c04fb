-- Bytes written: a lent part that comes back is a splice, and parts in a row are a record.
-- Relies on the layout and the model's laws on splices; the proofs of cells, registers and records rely on it.
use Rattle.model.proofs.Kit.{◌≡◌, refl, sym, ap, ◌∙◌, List, [], ◌∷◌, ◌++◌, append_assoc, append-nil, ℕ, ◌+◌, ◌-◌, ◌≤◌}
use Rattle.model.proofs.Kit.{length, take, drop, drop-drop, drop_of_length-le, arith}
use borrow.Rule.Slice.PartMut.{put_mid}
use Rattle.model.specs.declared.Record.{Record}
use Rattle.model.specs.declared.Register.{Register}
use Rattle.model.specs.Bytes.{digits, splice}
use Rattle.model.specs.Figure.{figure_bytes}
use Rattle.model.specs.Layout.{lay_register, lay_record}
use Rattle.model.proofs.Basics.Splices.{splice_join}

-- a part that was lent and holds w when it is back
pub lent_back : (at len : ℕ) (b v w : List ℕ) → length w ≡ len → v ≡ w → put_mid at (at + len - at) b v ≡ splice at w b
unfolding splice
lent_back at len b v w k e =
    ap (put_mid at (at + len - at) b) e
    ∙ ap (λ (r : List ℕ). take at b ++ (w ++ r)) (drop-drop (at + len - at) at b ∙ ap (λ (n : ℕ). drop n b) ends)
    ∙ sym (append_assoc (take at b) w (drop (at + length w) b))
  where
    ends : at + (at + len - at) ≡ at + length w
    ends = omega arith

-- the bytes v put right behind the bytes l, of which there are k
behind : (at k : ℕ) (b c d l v : List ℕ) → c ≡ splice at l b → d ≡ splice (at + k) v c → k ≡ length l
    → d ≡ splice at (l ++ v) b
behind at k b c d l v e q h =
    q ∙ (λ i. splice (at + h i) v (e i)) ∙ splice_join at l v b

pub register_laid : (r : Register) (b c d f : List ℕ) → length b ≡ 8
    → c ≡ splice 0 (r.mark ∷ r.island ∷ 0 ∷ 0 ∷ []) b → f ≡ figure_bytes r.figure → d ≡ splice 4 f c → d ≡ lay_register r
unfolding lay_register figure_bytes digits splice
register_laid r b c d f h e ef q =
    behind 0 4 b c d (r.mark ∷ r.island ∷ 0 ∷ 0 ∷ []) (figure_bytes r.figure) e
    (q ∙ ap (λ (l : List ℕ). splice 4 l c) ef) refl
    ∙ ap (λ (l : List ℕ). lay_register r ++ l) (drop_of_length-le b (let all : length b ≤ 8 = omega arith in all))
    ∙ append-nil (lay_register r)

pub length_register : (r : Register) → length (lay_register r) ≡ 8
unfolding lay_register figure_bytes digits
length_register r = refl

pub record_laid : (r : Record) (at : ℕ) (b b1 b2 b3 b4 b5 b6 v x y k : List ℕ)
    → v ≡ figure_bytes r.proposal → x ≡ figure_bytes r.carried → y ≡ figure_bytes r.best → k ≡ digits 2 r.steps
    → b1 ≡ splice at (r.phase ∷ r.position ∷ r.island ∷ r.seen ∷ r.highest ∷ r.flag ∷ r.met ∷ 0 ∷ []) b
    → b2 ≡ splice (at + 8) v b1 → b3 ≡ splice (at + 12) x b2 → b4 ≡ splice (at + 16) y b3 → b5 ≡ splice (at + 20) k b4
    → b6 ≡ splice (at + 22) (0 ∷ 0 ∷ []) b5 → b6 ≡ splice at (lay_record r) b
unfolding lay_record figure_bytes digits
record_laid r at b b1 b2 b3 b4 b5 b6 v x y k ev ex ey ek e1 e2 e3 e4 e5 e6 =
    let first : b2 ≡ splice at (head ++ figure_bytes r.proposal) b =
    behind at 8 b b1 b2 _ _ e1 (e2 ∙ ap (λ (l : List ℕ). splice (at + 8) l b1) ev) refl in
    let second : b3 ≡ splice at (head ++ figure_bytes r.proposal ++ figure_bytes r.carried) b =
    behind at 12 b b2 b3 _ _ first (e3 ∙ ap (λ (l : List ℕ). splice (at + 12) l b2) ex) refl in
    let third : b4 ≡ splice at (head ++ figure_bytes r.proposal ++ figure_bytes r.carried ++ figure_bytes r.best) b =
    behind at 16 b b3 b4 _ _ second (e4 ∙ ap (λ (l : List ℕ). splice (at + 16) l b3) ey) refl in
    let fourth : b5 ≡ splice at
    (head ++ figure_bytes r.proposal ++ figure_bytes r.carried ++ figure_bytes r.best ++ digits 2 r.steps) b =
    behind at 20 b b4 b5 _ _ third (e5 ∙ ap (λ (l : List ℕ). splice (at + 20) l b4) ek) refl in
    behind at 22 b b5 b6 _ _ fourth e6 refl
  where
    head : List ℕ
    head = r.phase ∷ r.position ∷ r.island ∷ r.seen ∷ r.highest ∷ r.flag ∷ r.met ∷ 0 ∷ []
