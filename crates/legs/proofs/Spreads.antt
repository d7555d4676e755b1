-- Which nodes the legs of one node add to those that wait, and how many.
use Rattle.std.proofs.Common.{◌≡◌, ℕ, zero, suc, ◌+◌, ◌<◌, ◌≤◌, eqb, ◌⊎◌, List, length, Some, None, Option, sym, refl, ap, ◌∙◌, inl, inr, ⊎_elim, arith}
use Rattle.std.proofs.lemmas.Bool.{cases_eq, cases_lt}
use Rattle.std.proofs.lemmas.Map.{update_here, update_apart}
use Rattle.std.proofs.lemmas.List.Sorted.{IsPermutation-refl, IsPermutation-cons, IsPermutation-trans, length_permutation}
use Rattle.std.specs.Map.{update}
use Rattle.std.specs.List.{ContainsAt}
use Rattle.std.specs.List.Sorted.{IsPermutation}
use Rattle.lengths.specs.Kinds.{Kind}
use Rattle.queue.specs.Queues.{held, room, Ordered}
use Rattle.entries.specs.declared.Node.{Node}
use Rattle.entries.specs.Records.{node, NodeAhead}
use Rattle.walks.specs.Legs.{Target}
use Rattle.walks.proofs.Lists.{has_first, has_next, has_cases}
use Rattle.walks.proofs.Facts.{none≢some}
use Rattle.legs.specs.declared.searching.Search.{Search}
use Rattle.legs.specs.Turns.{legs_out, GoesOn, Puts}
use Rattle.legs.specs.Tables.{leg_of, length_at}
use Rattle.legs.specs.Searches.{Lengths, unless_reached, open_legs, adding, adding_positions, adding_all, blank, unreached, pairs}

-- ---- how many nodes are not reached, and how many pairs they have
blank_le : (o : Option ℕ) → blank o ≤ 1
blank_le None = omega arith
blank_le (Some x) = omega arith

pub unreached_le : (L : Lengths) (k : ℕ) → unreached L k ≤ suc k
unfolding unreached
unreached_le L zero = blank_le (L 31)
unreached_le L (suc k) = let i = unreached_le L k in let b = blank_le (L (suc k)) in omega arith

-- more nodes, more that are not reached
pub unreached_mono : (L : Lengths) (j k : ℕ) → j ≤ k → unreached L j ≤ unreached L k
unfolding unreached
unreached_mono L j zero h = let e : j ≡ 0 = omega arith in rw e (omega arith)
unreached_mono L j (suc k) h =
    ⊎_elim (λ l. let i = unreached_mono L j k (omega arith) in omega arith) (λ (l : suc k ≤ j). let e : j ≡ suc k = omega arith in rw e (omega arith)) (cases_lt j (suc k))

-- one that is not reached counts
pub unreached_next : (L : Lengths) (k : ℕ) → L (suc k) ≡ None → unreached L (suc k) ≡ suc (unreached L k)
unfolding unreached
unreached_next L k h = rw h (omega arith)

module _ (L : Lengths) (v l : ℕ) (un : L v ≡ None) where
  still : (u : ℕ) → (u ≡ v → ⊥) → blank (update eqb L v (Some l) u) ≡ blank (L u)
  still u n = ap blank (update_apart L v (Some l) u n)

  rest : (k : ℕ) → k < v → (v ≡ 31 → ⊥) → unreached (update eqb L v (Some l)) k ≡ unreached L k
  unfolding unreached
  rest zero h n = still 31 (λ e. n (sym e))
  rest (suc k) h n = let i = rest k (omega arith) n in let s = still (suc k) (omega arith) in omega arith

  -- and one that is reached counts no more
  pub unreached_set : (k : ℕ) → k ≤ 16 → Target k v → suc (unreached (update eqb L v (Some l)) k) ≡ unreached L k
  unfolding unreached
  unreached_set zero few (inl h) = absurd (omega arith)
  unreached_set zero few (inr h) =
      let x : blank (L 31) ≡ 1 = rw (← h, un) in
      let y : blank (update eqb L v (Some l) 31) ≡ 0 = rw (← h) (ap blank (update_here L v (Some l))) in
      omega arith
  unreached_set (suc k) few h =
      ⊎_elim
      (λ (e : v ≡ suc k).
      let x : blank (L (suc k)) ≡ 1 = rw (← e, un) in
      let y : blank (update eqb L v (Some l) (suc k)) ≡ 0 = rw (← e) (ap blank (update_here L v (Some l))) in
      let r = rest k (omega arith) (omega arith) in
      omega arith)
      (λ n.
      let s = still (suc k) (λ e. n (sym e)) in
      let i = unreached_set k (omega arith) (⊎_elim (λ p. inl (p.0, omega arith)) inr h) in
      omega arith)
      (cases_eq v (suc k))

pub pairs_le : (a b : ℕ) → a ≤ b → pairs a ≤ pairs b
unfolding pairs
pairs_le a zero h = let e : a ≡ 0 = omega arith in rw e (omega arith)
pairs_le a (suc b) h =
    ⊎_elim (λ l. let i = pairs_le a b (omega arith) in omega arith) (λ (l : suc b ≤ a). let e : a ≡ suc b = omega arith in rw e (omega arith)) (cases_lt a (suc b))

pub pairs_next : (n : ℕ) → pairs (suc n) ≡ n + pairs n
unfolding pairs
pairs_next n = refl

-- 153 places are enough
pub pairs_room : (k : ℕ) → k ≤ 16 → suc k + pairs (suc k) ≤ 153
unfolding pairs
pairs_room k few = let i = pairs_le (suc k) 17 (omega arith) in let t : pairs 17 ≡ 136 = refl in omega arith

-- ---- the nodes that legs lead to
pub open_is : (L : Lengths) (d : ℕ → Option ℕ) (j w : ℕ) → open_legs L d j ≡ Some w → d j ≡ Some w
open_is L d j w = go (L j)
  where
    go : (o : Option ℕ) → unless_reached o (d j) ≡ Some w → d j ≡ Some w
    go None h = h
    go (Some x) h = absurd (none≢some refl h)

module _ (K : Kind) (d : ℕ → Option ℕ) (l : ℕ) where
  adding_old : (j : ℕ) (o : Option ℕ) (hs : List Node) (x : Node) → ContainsAt hs x → ContainsAt (adding K l j o hs) x
  adding_old j None hs x p = p
  adding_old j (Some w) hs x p = has_next _ x _ p

  adding_only : (j : ℕ) (o : Option ℕ) (hs : List Node) (x : Node) → d j ≡ o → ContainsAt (adding K l j o hs) x
      → ContainsAt hs x ⊎ ((w : ℕ) × (d x.position ≡ Some w) × (x.length ≡ K.join l w))
  adding_only j None hs x q p = inl p
  adding_only j (Some w) hs x q p =
      ⊎_elim (λ (e : node (K.join l w) j ≡ x). inr (w, ap (λ (y : Node). d y.position) (sym e) ∙ q, ap (λ (y : Node). y.length) (sym e)))
      inl (has_cases _ x _ p)

  pub adding_shuffled : (j : ℕ) (o : Option ℕ) (hs ts : List Node) → IsPermutation hs ts → IsPermutation (adding K l j o hs) (adding K l j o ts)
  adding_shuffled j None hs ts s = s
  adding_shuffled j (Some w) hs ts s = IsPermutation-cons _ _ _ s

  module _ (hs : List Node) where
    positions_old : (k : ℕ) (x : Node) → ContainsAt hs x → ContainsAt (adding_positions K d l k hs) x
    unfolding adding_positions
    positions_old zero x p = p
    positions_old (suc k) x p = adding_old (suc k) (d (suc k)) _ x (positions_old k x p)

    positions_new : (k j w : ℕ) → 0 < j → j ≤ k → d j ≡ Some w → ContainsAt (adding_positions K d l k hs) (node (K.join l w) j)
    unfolding adding_positions
    positions_new zero j w a b q = absurd (omega arith)
    positions_new (suc k) j w a b q =
        ⊎_elim (λ (e : j ≡ suc k). let s : d (suc k) ≡ Some w = rw e at q in rw (s, e) (has_first _ _))
        (λ n. adding_old (suc k) (d (suc k)) _ _ (positions_new k j w a (omega arith) q)) (cases_eq j (suc k))

    positions_only : (k : ℕ) (x : Node) → ContainsAt (adding_positions K d l k hs) x → ContainsAt hs x ⊎ ((w : ℕ) × (d x.position ≡ Some w) × (x.length ≡ K.join l w))
    unfolding adding_positions
    positions_only zero x p = inl p
    positions_only (suc k) x p = ⊎_elim (positions_only k x) inr (adding_only (suc k) (d (suc k)) _ x refl p)

    -- what waited waits, each node to which a leg leads waits, and no other
    pub all_old : (k : ℕ) (x : Node) → ContainsAt hs x → ContainsAt (adding_all K d l k hs) x
    all_old k x p = adding_old 31 (d 31) _ x (positions_old k x p)

    pub all_new : (k j w : ℕ) → Target k j → d j ≡ Some w → ContainsAt (adding_all K d l k hs) (node (K.join l w) j)
    all_new k j w (inl t) q = adding_old 31 (d 31) _ _ (positions_new k j w t.0 t.1 q)
    all_new k j w (inr t) q = let s : d 31 ≡ Some w = rw t at q in rw (s, t) (has_first _ _)

    pub all_only : (k : ℕ) (x : Node) → ContainsAt (adding_all K d l k hs) x → ContainsAt hs x ⊎ ((w : ℕ) × (d x.position ≡ Some w) × (x.length ≡ K.join l w))
    all_only k x p = ⊎_elim (positions_only k x) inr (adding_only 31 (d 31) _ x refl p)

    -- the loop over the positions
    pub positions_none : adding_positions K d l 0 hs ≡ hs
    unfolding adding_positions
    positions_none = refl

    pub positions_more : (j : ℕ) (ts us : List Node) → IsPermutation (adding_positions K d l j hs) ts → IsPermutation (adding K l (suc j) (d (suc j)) ts) us → IsPermutation (adding_positions K d l (suc j) hs) us
    unfolding adding_positions
    positions_more j ts us s t = IsPermutation-trans _ _ _ (adding_shuffled (suc j) (d (suc j)) _ _ s) t

    pub goal_more : (k : ℕ) (ts us : List Node) → IsPermutation (adding_positions K d l k hs) ts → IsPermutation (adding K l 31 (d 31) ts) us → IsPermutation (adding_all K d l k hs) us
    goal_more k ts us s t = IsPermutation-trans _ _ _ (adding_shuffled 31 (d 31) _ _ s) t

-- ---- there are no more of them than nodes that are not reached
module _ (K : Kind) (L : Lengths) (d : ℕ → Option ℕ) (l : ℕ) (hs : List Node) where
  adding_few : (j : ℕ) (xs : List Node) → length (adding K l j (open_legs L d j) xs) ≤ length xs + blank (L j)
  adding_few j xs = go (L j) (d j)
    where
      go : (r o : Option ℕ) → length (adding K l j (unless_reached r o) xs) ≤ length xs + blank r
      go None None = omega arith
      go None (Some w) = omega arith
      go (Some x) o = omega arith

  positions_few : (k : ℕ) → length (adding_positions K (open_legs L d) l k hs) + blank (L 31) ≤ length hs + unreached L k
  unfolding adding_positions unreached
  positions_few zero = omega arith
  positions_few (suc k) = let i = positions_few k in let a = adding_few (suc k) (adding_positions K (open_legs L d) l k hs) in omega arith

  pub all_few : (k : ℕ) (ts : List Node) → IsPermutation (adding_all K (open_legs L d) l k hs) ts → length ts ≤ length hs + unreached L k
  all_few k ts s =
      let n = length_permutation _ _ s in
      let f = positions_few k in
      let a = adding_few 31 (adding_positions K (open_legs L d) l k hs) in
      omega arith

  -- so there is room for the next
  pub position_room : (k j room : ℕ) (ts : List Node) → j < k → length hs + unreached L k ≤ room → IsPermutation (adding_positions K (open_legs L d) l j hs) ts → L (suc j) ≡ None → length ts < room
  position_room k j room ts lt h s n =
      let e = length_permutation _ _ s in
      let f = positions_few j in
      let u = unreached_next L j n in
      let m = unreached_mono L (suc j) k lt in
      omega arith

  pub goal_room : (k room : ℕ) (ts : List Node) → length hs + unreached L k ≤ room → IsPermutation (adding_positions K (open_legs L d) l k hs) ts → L 31 ≡ None → length ts < room
  goal_room k room ts h s n =
      let e = length_permutation _ _ s in
      let f = positions_few k in
      let b : blank (L 31) ≡ 1 = rw n in
      omega arith

-- ---- a search puts the legs of one node
pub goes_on_same : (K : Kind) (s : Search) → Ordered (NodeAhead K) s.queue → GoesOn K s s
goes_on_same K s o = record { legs = refl; ordered = o; room = refl; lender = refl }

goes_on_trans : (K : Kind) (s t u : Search) → GoesOn K s t → GoesOn K t u → GoesOn K s u
goes_on_trans K s t u p q = record { legs = q.legs ∙ p.legs; ordered = q.ordered; room = q.room ∙ p.room; lender = q.lender ∙ p.lender }

-- t is s after the legs from i, whose length is l, to positions 1 to n are put
pub record PositionsPut (K : Kind) (s : Search) (i l n : ℕ) (t : Search) : Type 0 where
  pub puts : Puts K (adding_positions K (legs_out s i) l n (held s.queue)) s t

pub put_none : (K : Kind) (s : Search) (i l : ℕ) → Ordered (NodeAhead K) s.queue → PositionsPut K s i l 0 s
put_none K s i l o = record {
  puts = record {
    goes_on = goes_on_same K s o;
    reached = refl;
    held = rw (positions_none K (legs_out s i) l (held s.queue)) (IsPermutation-refl (held s.queue));
  };
}

module _ {K : Kind} {s t : Search} {i l n : ℕ} (p : PositionsPut K s i l n t) where
  pub put_end : (k : ℕ) (u : Search) → n ≡ k → u ≡ t → PositionsPut K s i l k u
  put_end k u e f = rw (f, ← e) p

  -- there is room for the next
  module _ (k : ℕ) (fits : length (held s.queue) + unreached (length_at s.reached) k ≤ room s.queue) where
    pub room_more : (m : ℕ) → m ≡ suc n → n < k → length_at t.reached m ≡ None → length (held t.queue) < room t.queue
    room_more m e lt f =
        position_room K (length_at s.reached) (leg_of s.legs.now i) l (held s.queue) k n (room t.queue) (held t.queue) lt (rw p.puts.goes_on.room fits) p.puts.held (rw (e, p.puts.reached) at f)

    pub room_goal : n ≡ k → length_at t.reached 31 ≡ None → length (held t.queue) < room t.queue
    room_goal e f =
        goal_room K (length_at s.reached) (leg_of s.legs.now i) l (held s.queue) n (room t.queue) (held t.queue) (rw (e, p.puts.goes_on.room) fits) p.puts.held (rw p.puts.reached at f)

  same : (j : ℕ) → legs_out t i j ≡ legs_out s i j
  same j = rw (p.puts.goes_on.legs, p.puts.reached)

  pub put_more : {u : Search} (m : ℕ) → m ≡ suc n → Puts K (adding K l m (legs_out t i m) (held t.queue)) t u → PositionsPut K s i l m u
  put_more {u} m e q = record {
    puts = record {
      goes_on = goes_on_trans K s t u p.puts.goes_on q.goes_on;
      reached = q.reached ∙ p.puts.reached;
      held = rw e (positions_more K (legs_out s i) l (held s.queue) n _ _ p.puts.held (rw (e, same (suc n)) at q.held));
    };
  }

  pub put_goal : {u : Search} → Puts K (adding K l 31 (legs_out t i 31) (held t.queue)) t u → Puts K (adding_all K (legs_out s i) l n (held s.queue)) s u
  put_goal {u} q = record {
    goes_on = goes_on_trans K s t u p.puts.goes_on q.goes_on;
    reached = q.reached ∙ p.puts.reached;
    held = goal_more K (legs_out s i) l (held s.queue) n _ _ p.puts.held (rw (same 31) at q.held);
  }
