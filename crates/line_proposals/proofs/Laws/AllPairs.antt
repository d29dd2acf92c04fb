-- The pairs of a line one after another: what was tried, or put in, at each place where the next pair begins.
-- Relies on the walk along a list in a line and on pairs tried and put in; the proofs of the two loops rely on it.
use Rattle.model.proofs.Kit.{◌≡◌, refl, sym, ap, subst, ◌∙◌, Bool, false, List, [], ◌∷◌, ◌++◌, none, ℕ, ◌+◌}
use Rattle.model.proofs.Kit.{◌-◌, ◌<◌, length, replicate, get_or, w32, to_z, of_z, to_z-of_z, SFits, arith}
use Rattle.std.specs.Prelude.{Ok}
use Rattle.std.specs.declared.result.Result.{Result}
use Rattle.model.specs.declared.refusal.Refusal.{Refusal}
use Rattle.model.specs.Calls.{board_refusal, proposal_refusal, propose}
use Rattle.model.specs.Forms.{pair_in, pairs_in}
use Rattle.model.specs.Grammar.{written_pair, PairInRange}
use Rattle.model.specs.Proposals.{Proposal, pairs_refusal, one_by_one}
use Rattle.model.specs.AnyOrder.{AllAccepted}
use Rattle.model.proofs.Calls.Refusals.{board_passes}
use Rattle.model.proofs.Calls.Proposals.{accepted_of, accepted_later, one_by_one_more}
use Rattle.model.proofs.Sheet.Pairs.{pair_read, pair_stood}
use Rattle.lexer.specs.declared.At.{At}
use Rattle.pair_reader.specs.declared.Pair.{Pair}
use Rattle.lexer.proofs.Laws.Given.{found_one}
use Rattle.list_laws.proofs.Laws.Walks.{Kind, Walk, walk_begun, walk_inside, walk_ended, Next, next, Behind, walk_more}
use Rattle.proposing.specs.Tried.{Tried, TriesNext}
use Rattle.proposing.proofs.Laws.Trying.{tried_none}
use Rattle.line_proposals.specs.LinePairs.{PairStands, PairRead, PairIs, PairsStand, PairsTaken, OfPairs}
use Rattle.line_proposals.specs.LinePairs.{PairsPut, PairsRefuse}

pub pair_kind : Kind Proposal
pair_kind = record {
  write = written_pair;
  InRange = PairInRange;
  one = pair_in;
  reads = pair_read;
  stood = pair_stood;
}

-- ---- the next pair

module _ (line : List ℕ) (at : ℕ) (past : List Proposal) (place : ℕ) (w : Walk pair_kind line at past place)
    (more : get_or line place 0 ≡ 32) where
  its : Next pair_kind line at past place w more
  its = next pair_kind line at past place w more

  stands : PairStands line (place + 1)
  unfolding pair_kind
  stands = record { pair = its.thing; rest = _; read = its.read }

  module _ (r : At Pair) (is : PairIs line (place + 1) r) where
    there : PairRead line (place + 1) its.thing (Behind pair_kind line at past place w more) r
    unfolding PairIs pair_kind its
    there = is its.thing _ its.read

    less : length line - r.next < length line - place
    less = omega (arith, there.behind, there.inside)

    walked : Walk pair_kind line at (past ++ (its.thing ∷ [])) r.next
    unfolding its
    walked = walk_more pair_kind line at past place w more r.next there.follows

-- ---- pairs that are tried

pub record TriedAt (b line : List ℕ) (at place : ℕ) (flags : List Bool) (so_far : Result (Unit {0}) Refusal) : Type 0 where
  pub past : List Proposal
  pub walk : Walk pair_kind line at past place
  pub tried : Tried b past flags so_far

module _ (b line : List ℕ) (at : ℕ) where
  pub tried_begun : PairsStand line at → TriedAt b line at at (replicate 256 false) (Ok tt)
  unfolding pairs_in pair_kind
  tried_begun h = record {
    past = [];
    walk = walk_begun pair_kind line at h.pairs h.rest h.read;
    tried = tried_none b;
  }

  module _ (place : ℕ) (flags : List Bool) (so_far : Result (Unit {0}) Refusal) (t : TriedAt b line at place flags so_far) where
    pub tried_inside : place < length line
    tried_inside = walk_inside pair_kind line at t.past place t.walk

    pub tried_size : length flags ≡ 256
    tried_size = t.tried.stations.size

    pub tried_all : (get_or line place 0 ≡ 32 → ⊥) → PairsRefuse line at b so_far
    unfolding OfPairs pairs_in pair_kind
    tried_all closed ps rest e =
        t.tried.refused
        ∙ ap (λ (l : List Proposal). pairs_refusal l b)
        (walk_ended pair_kind line at t.past place t.walk closed ps rest e)

    module _ (more : get_or line place 0 ≡ 32) where
      pub tried_stands : PairStands line (place + 1)
      tried_stands = stands line at t.past place t.walk more

      module _ (r : At Pair) (is : PairIs line (place + 1) r) where
        pub tried_less : length line - r.next < length line - place
        tried_less = less line at t.past place t.walk more r is

        pub tried_more : (after : List Bool) (n : Result (Unit {0}) Refusal) → TriesNext b flags r.value.station so_far after n
            → TriedAt b line at r.next after n
        unfolding TriesNext
        tried_more after n tries = record {
          past = t.past ++ ((its line at t.past place t.walk more).thing ∷ []);
          walk = walked line at t.past place t.walk more r is;
          tried =
              subst (λ (i : ℕ). Tried b (t.past ++ (record {
                station = i;
                figure = (its line at t.past place t.walk more).thing.figure;
              } ∷ [])) after n)
              (there line at t.past place t.walk more r is).station (tries t.past _ t.tried);
        }

-- ---- pairs that are put in

-- the pairs that are passed lead from the board b, which takes all of them, to the board d
pub record PutAt (b line : List ℕ) (at : ℕ) (d : List ℕ) (place : ℕ) : Type 0 where
  pub all : PairsTaken line at b
  pub past : List Proposal
  pub walk : Walk pair_kind line at past place
  pub put : d ≡ one_by_one past b

module _ (b line : List ℕ) (at : ℕ) where
  pub put_begun : PairsTaken line at b → PutAt b line at b at
  unfolding pairs_in pair_kind one_by_one
  put_begun h = record {
    all = h;
    past = [];
    walk = walk_begun pair_kind line at h.stand.pairs h.stand.rest h.stand.read;
    put = refl;
  }

  module _ (d : List ℕ) (place : ℕ) (p : PutAt b line at d place) where
    pub put_inside : place < length line
    put_inside = walk_inside pair_kind line at p.past place p.walk

    pub put_all : (get_or line place 0 ≡ 32 → ⊥) → PairsPut line at b d
    unfolding OfPairs pairs_in pair_kind
    put_all closed ps rest e =
        p.put
        ∙ ap (λ (l : List Proposal). one_by_one l b)
        (walk_ended pair_kind line at p.past place p.walk closed ps rest e)

    module _ (more : get_or line place 0 ≡ 32) where
      q : Proposal
      q = (its line at p.past place p.walk more).thing

      pub put_stands : PairStands line (place + 1)
      put_stands = stands line at p.past place p.walk more

      accepted : (propose q.station q.figure d).answer ≡ none
      unfolding q its pairs_in pair_kind AllAccepted
      accepted =
          let same : p.all.stand.pairs ≡ p.past ++ (q ∷ (its line at p.past place p.walk more).later)
          = (found_one _ _ _ _ (sym p.all.stand.read ∙ p.walk.read)).0
          ∙ (its line at p.past place p.walk more).is in
          subst (λ (c : List ℕ). (propose q.station q.figure c).answer ≡ none) (sym p.put)
          (accepted_later p.past _ b (subst (λ (l : List Proposal). AllAccepted l b) same p.all.taken)).0

      module _ (r : At Pair) (is : PairIs line (place + 1) r) where
        pub put_less : length line - r.next < length line - place
        put_less = less line at p.past place p.walk more r is

        station : r.value.station ≡ q.station
        unfolding q
        station = (there line at p.past place p.walk more r is).station

        its_own : (propose r.value.station q.figure d).answer ≡ none
        its_own = rw station accepted

        pub put_sound : board_refusal d none ≡ none
        put_sound = board_passes d (accepted_of r.value.station q.figure d its_own).0 none

        pub put_free : proposal_refusal r.value.station d ≡ none
        put_free = (accepted_of r.value.station q.figure d its_own).1

        pub put_more : (c : List ℕ) → c ≡ (propose r.value.station (to_z w32 (of_z w32 r.value.figure)) d).bytes
            → SFits w32 r.value.figure → PutAt b line at c r.next
        unfolding q one_by_one
        put_more c e fits = record {
          all = p.all;
          past = p.past ++ (q ∷ []);
          walk = walked line at p.past place p.walk more r is;
          put =
              e
              ∙ (λ k. (propose (station k)
              ((to_z-of_z fits ∙ (there line at p.past place p.walk more r is).figure) k) (p.put k)).bytes)
              ∙ sym (one_by_one_more p.past (q ∷ []) b);
        }

-- what the code finds in the two loops by itself
pub ruleset trying = (tried_size, tried_more)

pub ruleset putting = (put_begun, put_more)
