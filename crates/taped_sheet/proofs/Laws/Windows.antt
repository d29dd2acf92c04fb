-- What entries leave in the buffer: the lines behind those that are passed over, as many as are wanted.
-- Relies on entries taped; the laws of a part rely on it.
use Rattle.model.proofs.Kit.{◌≡◌, refl, sym, ap, subst, ◌∙◌, List, [], ◌∷◌, ◌++◌, append_assoc, ℕ, zero, suc, ◌+◌, ◌-◌}
use Rattle.model.proofs.Kit.{ne_eqb, length, take, drop, length-append, arith}
use lib.Seq.{drop-nil}
use Rattle.model.specs.Bytes.{splice}
use Rattle.model.specs.Tape.{Entry, entry_text, tape_text}
use Rattle.model.proofs.Basics.Splices.{splice_none, splice_join}
use Rattle.taping.specs.Taping.{Taping, tape_line, line_taken}
use Rattle.taped_line.specs.TapedLines.{entry_taped, entries_taped}
use Rattle.taped_line.proofs.Laws.Entries.{entries_full}
use Rattle.taped_sheet.specs.SheetParts.{text_of}

-- the lines that are put in
abbrev pub shown : List Entry → Taping → List ℕ
shown es s = text_of (take s.room (drop s.left es))

pub record Put (es : List Entry) (s t : Taping) : Type 0 where
  pub out : t.out ≡ splice s.len (shown es s) s.out
  pub len : t.len ≡ s.len + length (shown es s)
  pub room : t.room ≡ s.room - length (drop s.left es)

-- nothing is put in
put_none : (es : List Entry) (s : Taping) → shown es s ≡ [] → s.room ≡ s.room - length (drop s.left es)
    → Put es s s
put_none es s e r = record {
  out = sym (ap (λ (l : List ℕ). splice s.len l s.out) e ∙ splice_none s.len s.out);
  len = omega (arith, ap length e);
  room = r;
}

one_line : (e : Entry) (es : List Entry) → text_of (e ∷ es) ≡ tape_line e ++ text_of es
unfolding tape_text tape_line
one_line e es = sym (append_assoc (entry_text e) (10 ∷ []) (text_of es))

abbrev state : (b out : List ℕ) (left room len : ℕ) → Taping
state b out left room len = record { board = b; out = out; left = left; room = room; len = len }

none_taken : (k : ℕ) → text_of (take k []) ≡ []
unfolding tape_text
none_taken zero = refl
none_taken (suc k) = refl

-- an entry whose line is put in, and one whose line is passed over
first_line : (e : Entry) (b out : List ℕ) (r len : ℕ)
    → entry_taped e (state b out 0 (suc r) len)
    ≡ state b (splice len (tape_line e) out) 0 r (len + length (tape_line e))
unfolding entry_taped line_taken
first_line e b out r len =
    let less : suc r - 1 ≡ r = omega arith in
    rw (ne_eqb (suc r) 0 (λ z. omega arith))
    (ap (λ (k : ℕ). state b (splice len (tape_line e) out) 0 k (len + length (tape_line e))) less)

passed_line : (e : Entry) (b out : List ℕ) (k r len : ℕ)
    → entry_taped e (state b out (suc k) (suc r) len) ≡ state b out k (suc r) len
unfolding entry_taped line_taken
passed_line e b out k r len =
    let less : suc k - 1 ≡ k = omega arith in
    rw (ne_eqb (suc r) 0 (λ z. omega arith), ne_eqb (suc k) 0 (λ z. omega arith))
    (ap (λ (j : ℕ). state b out j (suc r) len) less)

put_in : (es : List Entry) (b out : List ℕ) (left room len : ℕ)
    → Put es (state b out left room len) (entries_taped es (state b out left room len))
unfolding entries_taped
put_in [] b out left room len =
    put_none [] (state b out left room len)
    (ap (λ (l : List Entry). text_of (take room l)) (drop-nil left) ∙ none_taken room)
    (omega (arith, ap length (drop-nil {A = Entry} left)))
put_in (e ∷ es) b out left zero len =
    let s = state b out left zero len in
    subst (Put (e ∷ es) s) (sym (entries_full (e ∷ es) s refl))
    (put_none (e ∷ es) s (unfold tape_text in refl) (omega arith))
put_in (e ∷ es) b out zero (suc r) len =
    let rest = put_in es b (splice len (tape_line e) out) 0 r (len + length (tape_line e)) in
    let t : entries_taped es (entry_taped e (state b out 0 (suc r) len))
    ≡ entries_taped es (state b (splice len (tape_line e) out) 0 r (len + length (tape_line e))) =
    ap (entries_taped es) (first_line e b out r len) in
    record {
      out =
          ap (λ (x : Taping). x.out) t ∙ rest.out ∙ splice_join len (tape_line e) (text_of (take r es)) out
          ∙ ap (λ (l : List ℕ). splice len l out) (sym (one_line e (take r es)));
      len =
          omega (
            arith,
            ap (λ (x : Taping). x.len) t,
            rest.len,
            ap length (one_line e (take r es)),
            length-append (tape_line e) (text_of (take r es)),
          );
      room = ap (λ (x : Taping). x.room) t ∙ rest.room ∙ omega arith;
    }
put_in (e ∷ es) b out (suc k) (suc r) len =
    let rest = put_in es b out k (suc r) len in
    let t : entries_taped es (entry_taped e (state b out (suc k) (suc r) len))
    ≡ entries_taped es (state b out k (suc r) len) =
    ap (entries_taped es) (passed_line e b out k r len) in
    record {
      out = ap (λ (x : Taping). x.out) t ∙ rest.out;
      len = ap (λ (x : Taping). x.len) t ∙ rest.len;
      room = ap (λ (x : Taping). x.room) t ∙ rest.room;
    }

pub put : (es : List Entry) (s : Taping) → Put es s (entries_taped es s)
put es s = put_in es s.board s.out s.left s.room s.len
