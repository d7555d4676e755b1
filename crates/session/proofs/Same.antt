-- A line has one call, if it has one, and one output line.
use Rattle.std.proofs.Common.{◌≡◌, ℕ, List, ◌++◌, Ok, Err, codes, decimal, sym, refl, ap}
use Rattle.std.specs.Result.{result_ok}
use Rattle.calls.specs.declared.Answer.{Answer}
use Rattle.commands.specs.Outcome.{Outcome, RefusedLarge}
use Rattle.commands.specs.declared.command.LineFault.TheVariants.{NoForm, TooLarge}
use Rattle.commands.proofs.Unique.{exact}
use Rattle.session.specs.Readings.{Reading}
use Rattle.session.specs.Steps.{line_for}

-- a call or none, and what is printed with any answer
abbrev pub SameLine : Reading → Reading → Type 0
SameLine r s = (result_ok r ≡ result_ok s) × ((n : ℕ) (a : Answer) → line_for n r a ≡ line_for n s a)

equal_readings : (r s : Reading) → s ≡ r → SameLine r s
equal_readings r s e = (ap result_ok (sym e), λ n a. ap (λ (x : Reading). line_for n x a) (sym e))

large_lines : (d : List ℕ) (r s : Reading) → RefusedLarge r d → RefusedLarge s d → SameLine r s
large_lines d (Ok b) s p q = absurd p
large_lines d (Err NoForm) s p q = absurd p
large_lines d (Err (TooLarge e)) (Ok b) p q = absurd q
large_lines d (Err (TooLarge e)) (Err NoForm) p q = absurd q
large_lines d (Err (TooLarge e)) (Err (TooLarge f)) p q =
    (refl, λ n a. ap (λ (x : List ℕ). codes "refused " ++ (decimal n ++ (codes " 52 " ++ (x ++ codes "\n")))) same)
  where
    same : e.now ≡ f.now
    same = let z = p in let y = q in cc

pub same_line : (l : List ℕ) (r s : Reading) → Outcome l r → Outcome l s → SameLine r s
same_line l (Ok c) s p q = equal_readings (Ok c) s ((exact l s q).accepted c p.0 p.1.0 p.1.1)
same_line l (Err NoForm) s p q = equal_readings (Err NoForm) s ((exact l s q).formless p)
same_line l (Err (TooLarge d)) s p q = large_lines d.now (Err (TooLarge d)) s refl ((exact l s q).large p.0 p.1 d.now p.2.0 p.2.1)
