use Rattle.std.proofs.Common.{rules, arith, ◌≡◌, ◌<◌, length}
use Rattle.words.specs.Store.{words, index_in}
use Rattle.words.proofs.Laws.Walking.{words_count, begins_next, part_tested, all_missed, found_here, missed_here}
use Rattle.words.proofs.word_of.Goals as goal

pub returns-then-eq : goal.returns-then-eq
returns-then-eq c =
    let inside : c.loop-place.place < length words = omega (arith, words_count) in
    let found : c.loop-place.place ≡ index_in words c.args.part.now =
    found_here _ _ c.loop-place.invariant.1 inside
    (part_tested c.packed-store.ensures inside c.loop-place.invariant.0 _ _ _ (search rules) c.if-eq.true) in
    record { index = search (found, words_count, arith, rules); inside = search (inside, words_count, arith, rules) }

pub loop-place-preserved : goal.loop-place-preserved
loop-place-preserved c =
    let inside : c.loop-place.place < length words = omega (arith, words_count) in (
      search (begins_next, rules),
      missed_here _ _ c.loop-place.invariant.1 inside
          (part_tested c.packed-store.ensures inside c.loop-place.invariant.0 _ _ _ (search rules) c.if-eq.false),
    )

pub returns : goal.returns
returns c = record { index = search (all_missed, words_count, arith, rules); inside = search rules }
