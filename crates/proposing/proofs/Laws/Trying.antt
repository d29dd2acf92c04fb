-- Pairs tried one after another: with one more, all are refused as they are together.
-- Relies on the set of named stations and on the model's refusals of pairs; the loops over pairs rely on it.
use Rattle.model.proofs.Kit.{◌≡◌, refl, sym, ap, subst, ◌∙◌, Bool, true, false, ◌&&◌, not, List, [], ◌∷◌, ◌++◌, none}
use Rattle.model.proofs.Kit.{some, ℕ, zero, suc, replicate}
use Rattle.std.specs.Prelude.{Ok, Err}
use Rattle.std.specs.declared.result.Result.{Result}
use Rattle.model.specs.declared.refusal.Refusal as refusals
use Rattle.model.specs.declared.refusal.Refusal.TheVariants as why
use Rattle.model.specs.declared.refusal.Refusal.TheVariants.{NamedTwice}
use Rattle.model.specs.Bytes.{names}
use Rattle.model.specs.Figure.{Figure}
use Rattle.model.specs.Calls.{Refusal, unless, proposal_refusal}
use Rattle.model.specs.Proposals.{Proposal, named, each_once, or_later, first_fault, pairs_refusal}
use Rattle.model.specs.Told.{verdict, number}
use Rattle.model.proofs.Basics.Names.{once_more}
use Rattle.model.proofs.Basics.Tests.{and_false}
use Rattle.model.proofs.Calls.Refusals.{unless_fails}
use Rattle.proposing.specs.Flags.{Flagged, Names}
use Rattle.proposing.specs.Tried.{Tried, TriesNext, numbered, TriesNextNumber}
use Rattle.proposing.specs.Lent.{pair_of}
use Rattle.proposing.proofs.Laws.Flags.{flags_none}

named_more : (ps : List Proposal) (p : Proposal) → named (ps ++ (p ∷ [])) ≡ named ps ++ (p.station ∷ [])
unfolding named
named_more [] p = refl
named_more (q ∷ ps) p = ap (λ (l : List ℕ). q.station ∷ l) (named_more ps p)

or_none : (r : Refusal) → or_later r none ≡ r
or_none none = refl
or_none (some k) = refl

or_assoc : (a b c : Refusal) → or_later a (or_later b c) ≡ or_later (or_later a b) c
or_assoc none b c = refl
or_assoc (some k) b c = refl

fault_more : (ps : List Proposal) (p : Proposal) (b : List ℕ)
    → first_fault (ps ++ (p ∷ [])) b ≡ or_later (first_fault ps b) (proposal_refusal p.station b)
unfolding first_fault
fault_more [] p b = or_none (proposal_refusal p.station b)
fault_more (q ∷ ps) p b =
    ap (or_later (proposal_refusal q.station b)) (fault_more ps p b)
    ∙ or_assoc (proposal_refusal q.station b) (first_fault ps b) (proposal_refusal p.station b)

-- one pair more behind others, by whether its station is named among them
refusal_more : (ps : List Proposal) (p : Proposal) (b : List ℕ)
    → pairs_refusal (ps ++ (p ∷ [])) b
    ≡ unless (each_once (named ps) && not (names p.station (named ps))) 20
    (or_later (first_fault ps b) (proposal_refusal p.station b))
unfolding pairs_refusal
refusal_more ps p b =
    λ t. unless ((ap each_once (named_more ps p) ∙ once_more (named ps) p.station) t) 20 (fault_more ps p b t)

unless_later : (t : Bool) (a later : Refusal) → unless t 20 (or_later a later) ≡ or_later (unless t 20 a) later
unfolding unless
unless_later true a later = refl
unless_later false a later = refl

pub tried_none : (b : List ℕ) → Tried b [] (replicate 256 false) (Ok tt)
unfolding named verdict pairs_refusal each_once first_fault unless
tried_none b = record { stations = flags_none; refused = refl }

-- One pair more, whatever tells the refusal of those before it.
module _ (b : List ℕ) (flags : List Bool) (i : ℕ) (after : List Bool) where
  -- it leads from pairs that are refused with `past` to pairs that are refused with r
  abbrev Leads : (past r : Refusal) → Type 0
  Leads past r =
      (ps : List Proposal) (v : Figure) → Flagged flags (named ps) → past ≡ pairs_refusal ps b
      → Flagged after (named (ps ++ (pair_of i v ∷ []))) × (r ≡ pairs_refusal (ps ++ (pair_of i v ∷ [])) b)

  module _ (twice : Bool) (names_it : Names flags i after twice) where
    next : (r : Refusal) (ps : List Proposal) (v : Figure) → Flagged flags (named ps)
        → (twice ≡ names i (named ps) → r ≡ pairs_refusal (ps ++ (pair_of i v ∷ [])) b)
        → Flagged after (named (ps ++ (pair_of i v ∷ []))) × (r ≡ pairs_refusal (ps ++ (pair_of i v ∷ [])) b)
    unfolding Names
    next r ps v s f =
        let n = names_it (named ps) s in
        (subst (Flagged after) (sym (named_more ps (pair_of i v))) n.0, f n.1)

    again : twice ≡ true → (past : Refusal) → Leads past (some 20)
    again e past ps v s q =
        next (some 20) ps v s (λ n. sym (refusal_more ps (pair_of i v) b
        ∙ unless_fails _ 20 _
        (ap (λ (x : Bool). each_once (named ps) && not x) (sym n ∙ e) ∙ and_false (each_once (named ps)))))

    module _ (new : twice ≡ false) where
      only_new : (ps : List Proposal) (v : Figure) → twice ≡ names i (named ps)
          → pairs_refusal (ps ++ (pair_of i v ∷ [])) b ≡ or_later (pairs_refusal ps b) (proposal_refusal i b)
      unfolding pairs_refusal
      only_new ps v n =
          refusal_more ps (pair_of i v) b
          ∙ ap (λ (x : Bool). unless x 20 (or_later (first_fault ps b) (proposal_refusal i b)))
          (ap (λ (x : Bool). each_once (named ps) && not x) (sym n ∙ new) ∙ and_true (each_once (named ps)))
          ∙ unless_later (each_once (named ps)) (first_fault ps b) (proposal_refusal i b)
        where
          and_true : (a : Bool) → a && true ≡ a
          and_true true = refl
          and_true false = refl

      stays : (past : Refusal) (k : ℕ) → past ≡ some k → Leads past (some k)
      stays past k e ps v s q =
          next (some k) ps v s (λ n. ap (λ (r : Refusal). or_later r (proposal_refusal i b)) (sym e ∙ q)
          ∙ sym (only_new ps v n))

      judged : (past : Refusal) → past ≡ none → (r : Refusal) → r ≡ proposal_refusal i b → Leads past r
      judged past z r e ps v s q =
          next r ps v s (λ n. e ∙ ap (λ (x : Refusal). or_later x (proposal_refusal i b)) (sym z ∙ q)
          ∙ sym (only_new ps v n))

module _ (b : List ℕ) (flags : List Bool) (i : ℕ) (so_far : Result (Unit {0}) refusals.Refusal) (after : List Bool)
    (twice : Bool) (names_it : Names flags i after twice) where
  led : (r : Result (Unit {0}) refusals.Refusal) → Leads b flags i after (verdict so_far) (verdict r)
      → TriesNext b flags i so_far after r
  unfolding TriesNext
  led r f ps v t =
      let n = f ps v t.stations t.refused in record { stations = n.0; refused = n.1 }

  pub twenty : twice ≡ true → TriesNext b flags i so_far after (Err NamedTwice)
  unfolding verdict
  twenty e = led (Err NamedTwice) (again b flags i after twice names_it e (verdict so_far))

  module _ (new : twice ≡ false) where
    pub fault_stays : (k : refusals.Refusal) → so_far ≡ Err k → TriesNext b flags i so_far after (Err k)
    unfolding verdict
    fault_stays k e =
        led (Err k) (stays b flags i after twice names_it new (verdict so_far) (number k) (ap verdict e))

    pub fault_tried : (x : Unit {0}) → so_far ≡ Ok x → (r : Result (Unit {0}) refusals.Refusal)
        → verdict r ≡ proposal_refusal i b → TriesNext b flags i so_far after r
    unfolding verdict
    fault_tried x z r e =
        led r (judged b flags i after twice names_it new (verdict so_far) (ap verdict z) (verdict r) e)

-- what each return has to show
pub ruleset steps = (twenty, fault_stays, fault_tried)

-- ---- by the refusal's number

some_numbered : (number : ℕ) → (number ≡ 0 → ⊥) → numbered number ≡ some number
unfolding numbered
some_numbered zero ne = absurd (ne refl)
some_numbered (suc k) ne = refl

-- no refusal has the number 0
numbered_as : (k : refusals.Refusal) → numbered (number k) ≡ some (number k)
unfolding numbered
numbered_as why.SheetTooLong = refl
numbered_as why.LineTooLong = refl
numbered_as why.BracketsTooDeep = refl
numbered_as why.NoForm = refl
numbered_as why.NoBoardLaid = refl
numbered_as why.TooManySteps = refl
numbered_as why.TooShort = refl
numbered_as why.StationsOutOfRange = refl
numbered_as why.IslandsOutOfRange = refl
numbered_as why.WrongLength = refl
numbered_as why.Unsound = refl
numbered_as why.NoStation = refl
numbered_as why.NotIdle = refl
numbered_as why.StillIdle = refl
numbered_as why.HasDecided = refl
numbered_as why.IsSpent = refl
numbered_as why.CollectUnderWay = refl
numbered_as why.UnknownRound = refl
numbered_as why.NamedTwice = refl
numbered_as why.NoTape = refl
numbered_as why.TwoStations = refl

pub fault_told : (k : refusals.Refusal) (n : ℕ) → n ≡ number k → numbered n ≡ verdict (Err k)
unfolding verdict
fault_told k n e = ap numbered e ∙ numbered_as k

pub none_told : (x : Unit {0}) → numbered 0 ≡ verdict (Ok x)
unfolding numbered verdict
none_told x = refl

pub ruleset told_by_number = (fault_told, none_told)

module _ (b : List ℕ) (flags : List Bool) (i so_far : ℕ) (after : List Bool) (twice : Bool)
    (names_it : Names flags i after twice) where
  led_number : (r : ℕ) → Leads b flags i after (numbered so_far) (numbered r) → TriesNextNumber b flags i so_far after r
  unfolding TriesNextNumber
  led_number r f ps v t =
      let n = f ps v t.stations t.refused in record { stations = n.0; refused = n.1 }

  pub twenty_number : twice ≡ true → TriesNextNumber b flags i so_far after 20
  unfolding numbered
  twenty_number e = led_number 20 (again b flags i after twice names_it e (numbered so_far))

  module _ (new : twice ≡ false) where
    pub number_stays : (so_far ≡ 0 → ⊥) → TriesNextNumber b flags i so_far after so_far
    number_stays ne =
        led_number so_far (subst (Leads b flags i after (numbered so_far)) (sym (some_numbered so_far ne))
        (stays b flags i after twice names_it new (numbered so_far) so_far (some_numbered so_far ne)))

    pub number_tried : so_far ≡ 0 → (r : ℕ) (answer : Result (Unit {0}) refusals.Refusal) → numbered r ≡ verdict answer
        → verdict answer ≡ proposal_refusal i b → TriesNextNumber b flags i so_far after r
    unfolding numbered
    number_tried z r answer e says =
        led_number r (judged b flags i after twice names_it new (numbered so_far) (ap numbered z) (numbered r) (e ∙ says))

-- what the returns before the last have to show there
pub ruleset number_steps = (twenty_number, number_stays)
