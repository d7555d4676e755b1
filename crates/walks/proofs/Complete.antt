-- Where no candidate is left, every walk leads to a settled junction that is no worse.
use Rattle.std.proofs.Common.{◌≡◌, ℕ, true, List, [], ◌∷◌, Some, None, Option, refl}
use Rattle.maps.specs.Graph.{Street}
use Rattle.lengths.specs.Kinds.{Kind, LawfulKind, Code}
use Rattle.walks.specs.Streets.{Streets, empty_set}
use Rattle.walks.specs.Walks.{Walk, length_from, walk_length, BestOpen}
use Rattle.walks.specs.Runs.{Entry, Table, length_of, candidate_at}
use Rattle.walks.proofs.Facts.{none≢some, same_some}
use Rattle.walks.proofs.Bests.{no_worse_refl}
use Rattle.walks.proofs.Candidates.{candidate_made}
use Rattle.walks.proofs.Walks.{CodeLengths, all_open}
use Rattle.walks.proofs.Invariant.{Invariant}

-- no slot has a candidate
abbrev pub NoCandidate : Kind → Streets → Table → Type 0
NoCandidate K g T = (e : ℕ) → candidate_at K g T e ≡ None

module _ (K : Kind) (law : LawfulKind K) (g : Streets) (codes-g : CodeLengths g) (r : ℕ) (T : Table) (k : Invariant K g r T) (end : NoCandidate K g T) where
  -- over a street from a settled junction the head is settled, and no worse
  over : (u : ℕ) (x : Entry) (b e : ℕ) (a : Street) → T u ≡ Some x → Code b → K.no_worse x.1 b ≡ true → g e ≡ Some a → a.0 ≡ u
      → (y : Entry) × (T a.1 ≡ Some y) × (K.no_worse y.1 (K.join b a.2) ≡ true)
  over u x b e a s c n h l = go (T a.1) refl
    where
      at_tail : T a.0 ≡ Some x
      at_tail = rw l s

      cl : Code a.2
      cl = codes-g e a h

      cx : Code x.1
      cx = k.codes u x s

      go : (o : Option Entry) → T a.1 ≡ o → (y : Entry) × (T a.1 ≡ Some y) × (K.no_worse y.1 (K.join b a.2) ≡ true)
      go None q = absurd (none≢some (end e) (candidate_made K g T e a x h q at_tail))
      go (Some y) q = (
        y,
        q,
        law.trans y.1 (K.join x.1 a.2) (K.join b a.2) (k.codes a.1 y q) (law.join_code x.1 a.2 cx cl) (law.join_code b a.2 c cl)
            (k.relaxed e a x y h at_tail q) (law.mono x.1 b a.2 cx c cl n),
      )

  -- from a settled junction each walk leads to one that is settled, and no worse
  pub complete_from : (u : ℕ) (x : Entry) (b : ℕ) (w : List ℕ) (t : ℕ) → T u ≡ Some x → Code b → K.no_worse x.1 b ≡ true → Walk g u w t
      → (y : Entry) × (T t ≡ Some y) × (K.no_worse y.1 (length_from K g b w) ≡ true)
  complete_from u x b [] t s c n l = (x, rw (← l) s, n)
  complete_from u x b (e ∷ w) t s c n l =
      let a = l.0 in
      let d = over u x b e a s c n l.1 l.2 in
      rw l.1 (complete_from a.1 d.0 (K.join b a.2) w t d.1 (law.join_code b a.2 c (codes-g e a l.1)) d.2 l.3)

  pub complete : (w : List ℕ) (t : ℕ) → Walk g r w t → (y : Entry) × (T t ≡ Some y) × (K.no_worse y.1 (walk_length K g w) ≡ true)
  complete w t l = complete_from r (0, K.zero) K.zero w t k.root law.zero_code (no_worse_refl K law K.zero law.zero_code) l

  -- so the table has the best lengths over these streets
  pub ended_best : (t : ℕ) → BestOpen K g empty_set r t (length_of (T t))
  ended_best t = go (T t) refl
    where
      go : (o : Option Entry) → T t ≡ o → BestOpen K g empty_set r t (length_of o)
      go None q = λ w l o. none≢some q (complete w t l).1
      go (Some x) q =
          let z = k.sound t x q in (
            (z.way, z.leads, all_open z.way, z.long),
            λ w l o. let c = complete w t l in rw (same_some c.1 q) at c.2,
          )
