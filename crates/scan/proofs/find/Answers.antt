-- `find` meets its contract: what the library finds is the first mark.
use Rattle.std.proofs.Common.{rules, ◌≡◌, ℕ, ◌+◌, ◌-◌, List, length, take, drop, ap, sym, ◌∙◌, nat_eq, arith, length-drop}
use Rattle.std.proofs.Math.Seq.{take_all}
use Rattle.std.proofs.lemmas.Iterator.{YieldsList-from_slice}
use Rattle.std.proofs.lemmas.Iterator.Search.{position_from_yields_List}
use Rattle.std.specs.List.{position}
use Rattle.scan.proofs.Laws.{first_found, none_found}
use Rattle.scan.proofs.find.Goals as goal
use Rattle.scan.proofs.find.Goals.{After-position}

all : (at : ℕ) (s : List ℕ) → take (length s - at) (drop at s) ≡ drop at s
all at s = take_all _ _ (omega (arith, length-drop at s))

its_position : (c : After-position) → c.position.result ≡ position (λ b. nat_eq b c.args.mark) (drop c.args.at c.args.bytes.now)
its_position c =
    position_from_yields_List (λ b. nat_eq b c.args.mark) _ _ _ c.position.ensures.ran
    (YieldsList-from_slice (drop c.args.at c.args.bytes.now) (c.iter.ensures.rest ∙ all c.args.at c.args.bytes.now))
    (λ x b q k. search rules)

pub returns-in-Some-clause-first : goal.returns-in-Some-clause-first
returns-in-Some-clause-first c =
    let at = goal.at.returns-in-Some-clause-first c in
    ap (λ n. c.args.at + n) (first_found _ _ _ (sym c.in-Some.is ∙ its_position at.After-position))

pub returns-in-None-clause-first : goal.returns-in-None-clause-first
returns-in-None-clause-first c =
    let at = goal.at.returns-in-None-clause-first c in
    omega (
      arith,
      none_found c.args.mark (drop c.args.at c.args.bytes.now) (sym c.in-None.is ∙ its_position at.After-position),
      length-drop {A = ℕ},
    )
