-- `see` meets its contract: each return is a law of OneRead or ReadB.
use Rattle.model.proofs.Basics.Numbers.{landed}
use Rattle.collect.proofs.OneRead.{see_empty, read_m, read_a}
use Rattle.collect.proofs.ReadB.{read_adopt, read_commit}
use Rattle.collect.proofs.see.Goals as goal

pub returns-then-register-eq0 : goal.returns-then-register-eq0
returns-then-register-eq0 c = λ f. search see_empty

pub returns-in-M : goal.returns-in-M
returns-in-M c = search (landed, read_m)

pub returns-in-A : goal.returns-in-A
returns-in-A c = search (landed, read_a)

pub returns-in-B : goal.returns-in-B
returns-in-B c = search (landed, read_adopt)

pub returns-in-B-2 : goal.returns-in-B-2
returns-in-B-2 c = search (landed, read_commit)
