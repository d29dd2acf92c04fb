-- `advance` meets its contract: at each phase the record stands for one stage, and what was called is its move.
use Rattle.model.proofs.Kit.{◌≡◌, sym, ap, ◌∙◌, ℕ, ◌+◌}
use Rattle.model.specs.declared.Record.{Record}
use Rattle.collect.specs.Collected.{turn_of}
use Rattle.archipelago.specs.declared.Moved.{Moved}
use Rattle.archipelago.specs.Advanced.{writing}
use Rattle.archipelago.proofs.Moves.{phase_2, phase_4, phase_6, last_phase, ready_reads, read_moves, wrote_m}
use Rattle.archipelago.proofs.Moves.{wrote_a, wrote_b}
use Rattle.archipelago.proofs.advance.Goals as goal
use Rattle.archipelago.proofs.advance.Goals.{in-1, in-3, in-5}

-- a phase, a mark and an island that were chosen together
of_three : (f : Record) {r : Moved} {p q : ℕ × ℕ × ℕ} → r ≡ writing f p.1 p.2 → p ≡ q → r ≡ writing f q.1 q.2
of_three f e q = e ∙ ap (λ (p : ℕ × ℕ × ℕ). writing f p.1 p.2) q

pub read-requires-clause-reads : goal.read-requires-clause-reads
unfolding turn_of
read-requires-clause-reads c = search (phase_2, ready_reads)

pub returns-in-2 : goal.returns-in-2
unfolding turn_of
returns-in-2 c = search (phase_2, read_moves)

pub read-requires-in-4-clause-reads : goal.read-requires-in-4-clause-reads
unfolding turn_of
read-requires-in-4-clause-reads c = search (phase_4, ready_reads)

pub returns-in-4 : goal.returns-in-4
unfolding turn_of
returns-in-4 c = search (phase_4, read_moves)

pub read-requires-in_default-clause-reads : goal.read-requires-in_default-clause-reads
unfolding turn_of
read-requires-in_default-clause-reads c = search (phase_6, last_phase, ready_reads)

pub returns-in_default : goal.returns-in_default
unfolding turn_of
returns-in_default c = search (phase_6, last_phase, read_moves)

pub returns : goal.returns
returns c =
    elim c.match-station.branch [
      | in-1 w ↦ let laid = of_three c.args.station c.write.ensures w.next-is in search wrote_m
      | in-3 w ↦ let laid = of_three c.args.station c.write.ensures w.next-is in search wrote_a
      | in-5 w ↦ let laid = of_three c.args.station c.write.ensures w.next-is in search wrote_b
    ]

pub write-requires : goal.write-requires
write-requires c =
    elim c.match-station.branch [
      | in-1 w ↦ ap (λ (p : ℕ × ℕ × ℕ). p.0) w.next-is ∙ ap (λ (k : ℕ). k + 1) (sym w.in-1.is)
      | in-3 w ↦ ap (λ (p : ℕ × ℕ × ℕ). p.0) w.next-is ∙ ap (λ (k : ℕ). k + 1) (sym w.in-3.is)
      | in-5 w ↦ ap (λ (p : ℕ × ℕ × ℕ). p.0) w.next-is ∙ ap (λ (k : ℕ). k + 1) (sym w.in-5.is)
    ]
