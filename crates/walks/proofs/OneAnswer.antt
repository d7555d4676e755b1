-- At most one answer is right.
use Rattle.std.proofs.Common.{◌≡◌, ℕ, Bool, true, false, List, is_some, Some, None, Option, refl, ap}
use mathlib.Core.Path.{fun_ext}
use Rattle.std.proofs.lemmas.Bool.{both_ways}
use Rattle.lengths.specs.Kinds.{Kind, LawfulKind}
use Rattle.walks.specs.Streets.{Streets}
use Rattle.walks.specs.Walks.{Leads, BestOpen}
use Rattle.walks.specs.Trees.{Tells}
use Rattle.walks.specs.Claims.{OneAnswer}
use Rattle.walks.proofs.Walks.{CodeLengths, length_code}

pub best_open_one : (K : Kind) → LawfulKind K → (g : Streets) → CodeLengths g → (F : ℕ → Bool) (s t : ℕ) (a b : Option ℕ)
    → BestOpen K g F s t a → BestOpen K g F s t b → a ≡ b
best_open_one K law g codes F s t None None p q = refl
best_open_one K law g codes F s t None (Some l) p q = absurd (p q.0.0 q.0.1 q.0.2)
best_open_one K law g codes F s t (Some k) None p q = absurd (q p.0.0 p.0.1 p.0.2)
best_open_one K law g codes F s t (Some k) (Some l) p q =
    let x = p.0 in let y = q.0 in
    let code = λ (w : List ℕ). length_code K law g codes K.zero w law.zero_code in
    ap Some (law.anti k l (rw x.3 at (code x.0)) (rw y.3 at (code y.0))
    (rw y.3 at (p.1 y.0 y.1 y.2)) (rw x.3 at (q.1 x.0 x.1 x.2)))

-- a right answer is a length exactly if an open walk leads there
pub answer_leads : (K : Kind) (g : Streets) (F : ℕ → Bool) (s t : ℕ) (a : Option ℕ) → BestOpen K g F s t a → Tells (is_some a) (Leads g F s t)
answer_leads K g F s t None h = (λ b. absurd (both_ways false refl b), λ _ x. h x.0 x.1 x.2)
answer_leads K g F s t (Some l) h = (λ _. (h.0.0, h.0.1, h.0.2), λ b. absurd (both_ways true b refl))

pub one_answer : OneAnswer
one_answer K law G H map p F E q s t a b x y =
    best_open_one K law G.street map.codes F s t a b x (rw (← fun_ext p, ← fun_ext q) at y)
