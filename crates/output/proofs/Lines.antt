-- The line of a number above 65,535.
use Rattle.std.proofs.Common.{◌≡◌, ℕ, List, [], ◌∷◌, ◌++◌, codes, decimal, ap, ◌∙◌, lit≤, lit<}
use Rattle.std.proofs.lemmas.Fmt.{decimal_digit, decimal_step}

fifty_two : decimal 52 ≡ codes "52"
fifty_two = decimal_step 52 (lit≤ tt) (lit< tt) ∙ ap (λ l. l ++ (50 ∷ [])) (decimal_digit 5 (lit< tt))

pub large_text : (p r d : List ℕ) (line : ℕ) → p ≡ decimal line → r ≡ decimal 52
    → codes "refused " ++ (p ++ (codes " " ++ (r ++ (codes " " ++ (d ++ codes "\n"))))) ≡ codes "refused " ++ (decimal line ++ (codes " 52 " ++ (d ++ codes "\n")))
large_text p r d line e f =
    ap (λ l. codes "refused " ++ (l ++ (codes " " ++ (r ++ (codes " " ++ (d ++ codes "\n")))))) e
    ∙ ap (λ l. codes "refused " ++ (decimal line ++ (codes " " ++ (l ++ (codes " " ++ (d ++ codes "\n")))))) (f ∙ fifty_two)
