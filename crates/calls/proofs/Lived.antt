-- A life with one call more.
use Rattle.std.proofs.Common.{◌≡◌, List, [], ◌∷◌, ◌++◌, refl}
use Rattle.maps.specs.Graph.{Graph}
use Rattle.lengths.specs.Kinds.{Kind}
use Rattle.calls.specs.Moments.{Moment, after}
use Rattle.calls.specs.Gives.{Gives}
use Rattle.calls.specs.Lives.{Life, after_all}
use Rattle.calls.specs.declared.Call.{Call}
use Rattle.calls.specs.declared.Answer.{Answer}

pub after_push : (G : Graph) (m : Moment) (cs : List Call) (c : Call) → after_all G m (cs ++ c ∷ []) ≡ after G (after_all G m cs) c
after_push G m [] c = refl
after_push G m (x ∷ xs) c = after_push G (after G m x) xs c

pub life_push : (K : Kind) (G : Graph) (m : Moment) (cs : List Call) (rs : List Answer) (c : Call) (a : Answer)
    → Life K G m cs rs → Gives K G (after_all G m cs) c a → Life K G m (cs ++ c ∷ []) (rs ++ a ∷ [])
life_push K G m [] [] c a l h = (h, tt)
life_push K G m [] (y ∷ ys) c a l h = elim l [ ]
life_push K G m (x ∷ xs) [] c a l h = elim l [ ]
life_push K G m (x ∷ xs) (y ∷ ys) c a l h = (l.0, life_push K G (after G m x) xs ys c a l.1 h)
