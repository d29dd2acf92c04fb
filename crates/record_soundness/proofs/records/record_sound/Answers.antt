-- `record_sound`: once the bytes without a field are zero, the record is what its fields lay.
use Rattle.std.proofs.Common.{rules}
use Rattle.std.proofs.lemmas.Grind.{common_steps}
use Rattle.model.proofs.Kit.{sym, ◌∙◌, arith}
use Rattle.model.proofs.Basics.Tests.{clash}
use Rattle.record_soundness.proofs.Laws.Chains.{came}
use Rattle.record_soundness.proofs.Laws.Records.{phase_inside, idle_none, island_inside_lem, record_place, idle_form}
use Rattle.record_soundness.proofs.Laws.Records.{not_idle_lem, record_tests, Placed}
use Rattle.record_soundness.proofs.records.record_sound.Goals as goal
use Rattle.record_soundness.proofs.records.record_sound.Goals.{Start, then-met_sound, else-met_sound, then-fields_sound, else-fields_sound}

placed : (c : Start) → Placed c.args.n c.args.k c.args.i c.args.at c.args.s.now
placed c = search

pub bounds-s-at : goal.bounds-s-at
bounds-s-at c = omega (arith, record_place (placed (search)))

pub idle_sound-requires : goal.idle_sound-requires
idle_sound-requires c = record_place (placed (search))

pub returns-then-s-at-eq-IDLE : goal.returns-then-s-at-eq-IDLE
returns-then-s-at-eq-IDLE c = search (placed (search), idle_form)

pub record_at-f-requires : goal.record_at-f-requires
record_at-f-requires c = record_place (placed (search))

pub zero_pair-requires : goal.zero_pair-requires
zero_pair-requires c = omega (arith, record_place (placed (search)))

pub met_sound-requires : goal.met_sound-requires
met_sound-requires c = record_place (placed (search))

pub fields_sound-requires : goal.fields_sound-requires
fields_sound-requires c = search (placed (search), not_idle_lem)

pub steps_sound-requires : goal.steps_sound-requires
steps_sound-requires c = elim c.if-met_sound.branch [
  | then-met_sound w ↦
      let passes = came _ _ _ w.fields_sound.ensures w.value-is c.if-fields_sound.true in
      (search rules, phase_inside _ _ _ passes, idle_none _ _ _ passes (search rules))
  | else-met_sound w ↦ clash (sym c.if-fields_sound.true ∙ w.value-is ∙ w.if-met_sound.false)
]

pub own_sound-requires : goal.own_sound-requires
own_sound-requires c = elim c.if-fields_sound.branch [
  | then-fields_sound w ↦ elim c.if-met_sound.branch [
    | then-met_sound u ↦
        let inside = island_inside_lem _ _ _ (came _ _ _ u.fields_sound.ensures u.value-is w.if-fields_sound.true) in
        search
    | else-met_sound u ↦ clash (sym w.if-fields_sound.true ∙ u.value-is ∙ u.if-met_sound.false)
  ]
  | else-fields_sound w ↦ clash (sym c.if-steps_sound.true ∙ w.value-is ∙ w.if-fields_sound.false)
]

pub returns-then-steps_sound : goal.returns-then-steps_sound
returns-then-steps_sound c =
    rw (← record_tests (placed (search)) c.type_inv.s c.record_at-f.result c.record_at-f.ensures) (grind (arith, common_steps))

pub returns-else-steps_sound : goal.returns-else-steps_sound
returns-else-steps_sound c =
    rw (← record_tests (placed (search)) c.type_inv.s c.record_at-f.result c.record_at-f.ensures) (grind (arith, common_steps))
