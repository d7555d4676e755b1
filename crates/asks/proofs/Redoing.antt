-- What a search over the legs handed on tells: the best open lengths, and the redone count.
use Rattle.std.proofs.Common.{◌≡◌, ℕ, ◌<◌, ◌≤◌, Bool, List, length, is_some, subst, inl, arith}
use Rattle.maps.specs.Graph.{Graph}
use Rattle.lengths.specs.Kinds.{Kind}
use Rattle.walks.specs.Walks.{Leads, BestOpen}
use Rattle.walks.specs.Trees.{Tells, tree, Affected}
use Rattle.walks.specs.Legs.{junction_of}
use Rattle.walks.proofs.OneAnswer.{answer_leads}
use Rattle.asks.specs.Redone.{Redone}
use Rattle.asks.specs.Held.{is_affected}
use Rattle.asks.specs.Index.{node_at, tree_at}
use Rattle.asks.specs.Handed.{handed_legs}
use Rattle.asks.specs.Reached.{passing, is_redone}
use Rattle.asks.specs.Claims.{PartialHandedAnswer, PartialHandedReach, RedoneByLengths, RedoneBySearch}
use Rattle.asks.proofs.Counting.{tells_both, counted_at}
use Rattle.asks.proofs.Numbers.{affected_by_number}
use Rattle.asks.proofs.Handing.{node_on_map, position_junction, handed_answer, handed_reach}
use Rattle.asks.proofs.Partial.{partial_forth, reach_forth, reach_back}

pub partial_handed_answer : PartialHandedAnswer
partial_handed_answer K law G map ns on few F s t D agrees q hq a h =
    handed_answer K law G map ns on few F s t q hq a (partial_forth K D (handed_legs K G ns F s t) agrees q a h)

pub partial_handed_reach : PartialHandedReach
partial_handed_reach K law G map ns on few F s t D agrees q hq =
    let r = handed_reach K law G map ns on few F s t q hq in
    record {
      by_walk = λ h. r.by_walk (reach_forth D (handed_legs K G ns F s t) agrees q h);
      by_legs = λ h. reach_back D (handed_legs K G ns F s t) agrees q (r.by_legs h);
    }

-- ---- redone
module _ (K : Kind) (G : Graph) (ns : List ℕ) (F : ℕ → Bool) (s : ℕ) where
  -- position i is to be counted
  abbrev pub ToRedo : ℕ → Type 0
  ToRedo i = Leads G.street F s (node_at ns i) × Affected F (tree_at K G ns i)

  -- every test that tells which positions are to be counted gives the redone count
  pub redone_by_test : (q : ℕ → Bool) → ((i : ℕ) → 0 < i → i ≤ length ns → Tells (q i) (ToRedo i)) → Redone K G ns F s (passing q (length ns))
  redone_by_test q t = counted_at (λ v. Leads G.street F s v × Affected F (tree K G ns v)) q ns t

pub redone_by_lengths : RedoneByLengths
redone_by_lengths K law G map ns on F z s A best =
    redone_by_test K G ns F s (is_redone K G ns F A) (λ i lo hi.
    tells_both (is_some (A i)) (is_affected F (tree_at K G ns i) G.junctions) (Leads G.street F s (node_at ns i)) (Affected F (tree_at K G ns i))
    (answer_leads K G.street F s (node_at ns i) (A i) (best i lo hi))
    (affected_by_number K law G map ns (node_at ns i) (node_on_map G ns on i lo hi) F z).test)

pub redone_by_search : RedoneBySearch
redone_by_search K law G map ns on few F z s t D agrees A best =
    redone_by_lengths K law G map ns on F z s A (λ i lo hi.
    let n : junction_of ns s t i ≡ node_at ns i = position_junction ns s t i lo (omega arith) in
    let h = partial_handed_answer K law G map ns on few F s t D agrees i (inl (lo, hi)) (A i) (best i lo hi) in
    subst (λ (v : ℕ). BestOpen K G.street F s v (A i)) n h)
