-- The stores of the functions that put a part of a record: each store is a splice of its field.
-- Relies on the laws on splices of the crate model; the proofs of those functions rely on it.
use Rattle.model.proofs.Kit.{◌≡◌, refl, sym, ap, ◌∙◌, List, [], ◌∷◌, ℕ, ◌+◌, ◌≤◌, ◌<◌, lit<, lit≤, length, set}
use Rattle.model.proofs.Kit.{length-set, add-zero, arith}
use Rattle.model.specs.declared.Record.{Record}
use Rattle.model.specs.Bytes.{byte, number, part, splice, digits}
use Rattle.model.specs.Figure.{figure_bytes}
use Rattle.model.specs.Layout.{read_record, put_changes, steps_is, met_is}
use Rattle.model.proofs.Basics.Splices.{splice_set}
use Rattle.codec.specs.Parts.{steps_read, met_read, phase_part, collected_part, started_part}
use Rattle.codec.proofs.Laws.Reads.{part_part, byte_at}

-- the steps as they are read, and one more of them put
module _ (at : ℕ) (b : List ℕ) (h : at + 24 ≤ length b) (x : ℕ) (e : x ≡ number (part (at + 20) 2 b)) where
  steps_read_lem : x ≡ steps_read at b
  unfolding read_record
  steps_read_lem = e ∙ ap number (part_part at 24 20 2 b h (lit≤ tt))

  pub steps_fit : steps_read at b < 65535 → x + 1 < 65536
  steps_fit l = omega (arith, steps_read_lem)

  pub steps_put : (k d : List ℕ) → k ≡ digits 2 (x + 1) → d ≡ splice (at + 20) k b
      → d ≡ put_changes (steps_is (steps_read at b + 1) ∷ []) at b
  unfolding put_changes
  steps_put k d q e = e ∙ ap (λ (l : List ℕ). splice (at + 20) l b) (q ∙ ap (λ (y : ℕ). digits 2 (y + 1)) steps_read_lem)

-- what was met as it is read, and one more of it put
module _ (at : ℕ) (b : List ℕ) (h : at + 24 ≤ length b) where
  pub met_read_lem : byte b (at + 6) ≡ met_read at b
  unfolding read_record
  met_read_lem = byte_at at 24 b 6 (lit< tt)

  pub met_fits : met_read at b < 255 → byte b (at + 6) + 1 < 256
  met_fits l = omega (arith, met_read_lem)

  pub met_put : set b (at + 6) (byte b (at + 6) + 1) ≡ put_changes (met_is (met_read at b + 1) ∷ []) at b
  unfolding put_changes
  met_put =
      splice_set (at + 6) (byte b (at + 6) + 1) b (omega arith)
      ∙ ap (λ (k : ℕ). splice (at + 6) ((k + 1) ∷ []) b) met_read_lem

-- the bytes p are d after some stores, which leave their length n; and one store more
record After (n : ℕ) (p d : List ℕ) : Type 0 where
  long : length p ≡ n
  is : p ≡ d

module _ (r : Record) (at : ℕ) (b : List ℕ) (h : at + 24 ≤ length b) where
  first_put : set b at r.phase ≡ splice (at + 0) (r.phase ∷ []) b
  first_put = splice_set at r.phase b (omega arith) ∙ ap (λ (k : ℕ). splice k (r.phase ∷ []) b) (sym (add-zero at))

  pub phase_put : set b at r.phase ≡ put_changes (phase_part r) at b
  unfolding put_changes phase_part
  phase_put = first_put

  then : (i a : ℕ) → i < 24 → {p d : List ℕ} → After (length b) p d
      → After (length b) (set p (at + i) a) (splice (at + i) (a ∷ []) d)
  then i a l {p} s = record {
    long = simp length-set s.long;
    is = splice_set (at + i) a p (omega (arith, s.long)) ∙ ap (splice (at + i) (a ∷ [])) s.is;
  }

  pub collected_put : (f d : List ℕ) → f ≡ figure_bytes r.best
      → d ≡ splice (at + 16) f
      (set (set (set b (at + 1) r.position) (at + 3) r.seen) (at + 4) r.highest)
      → d ≡ put_changes (collected_part r) at b
  unfolding put_changes collected_part
  collected_put f d e q =
      let start : After (length b) b b = record { long = refl; is = refl } in
      let stores = then 4 r.highest (lit< tt) (then 3 r.seen (lit< tt) (then 1 r.position (lit< tt) start)) in
      q ∙ (λ k. splice (at + 16) (e k) (stores.is k))

  pub started_put : (f c d : List ℕ) → f ≡ figure_bytes r.carried
      → c ≡ splice (at + 12) f
      (set (set (set (set b at r.phase) (at + 2) r.island) (at + 5) r.flag) (at + 6) 0)
      → d ≡ put_changes (collected_part r) at c → d ≡ put_changes (started_part r) at b
  unfolding put_changes started_part
  started_put f c d e ec ed =
      let start : After (length b) (set b at r.phase) (splice (at + 0) (r.phase ∷ []) b) =
      record { long = simp length-set; is = first_put } in
      let stores = then 6 0 (lit< tt) (then 5 r.flag (lit< tt) (then 2 r.island (lit< tt) start)) in
      ed ∙ ap (put_changes (collected_part r) at) (ec ∙ (λ k. splice (at + 12) (e k) (stores.is k)))
