-- What is printed where a map file or a text is refused.
use Rattle.std.proofs.Common.{◌≡◌, ℕ, ◌<◌, Bool, true, false, cond, List, [], ◌++◌, length, sym, ap, ◌∙◌, subst, arith}
use Rattle.maps.specs.Graph.{Graph}
use Rattle.formats.specs.Faults.{number_of}
use Rattle.formats.specs.declared.OpenFault.{OpenFault}
use Rattle.formats.specs.declared.OpenFault.TheVariants.{Short, FirstByte, Range, Size, NotEmpty, Ends, Link, Edge}
use Rattle.sheet.specs.Layout.{sheet_graph}
use Rattle.sheet.specs.Refusal.{refusal as sheet_refusal}
use Rattle.block.specs.Layout.{block_graph}
use Rattle.block.specs.Refusal.{refusal as block_refusal}
use Rattle.commands.specs.Words.{fault_number, Faulty}
use Rattle.commands.specs.declared.opening.TextFault.{TextFault}
use Rattle.output.specs.Written.{refusal_line, Put}
use Rattle.session.specs.Prints.{PrintsText, faulty, PrintsOver, unopened, counted, is_block, Prints}

-- a line that is put into an empty output is all of it
put_first : (old new line : List ℕ) → old ≡ [] → Put old new 0 line → new ≡ line
put_first old new line e p = let n = ap length e in p.added (omega arith) ∙ ap (λ (x : List ℕ). x ++ line) e

some_number : (f : OpenFault) → 0 < number_of f
some_number Short = omega arith
some_number FirstByte = omega arith
some_number Range = omega arith
some_number Size = omega arith
some_number NotEmpty = omega arith
some_number Ends = omega arith
some_number Link = omega arith
some_number Edge = omega arith

pub refused_over : (refusal : ℕ) (G : Graph) (text : List ℕ) (f : OpenFault) (k : ℕ) (old new : List ℕ) → number_of f ≡ refusal → k ≡ number_of f → old ≡ [] → Put old new 0 (refusal_line 0 k) → PrintsOver refusal G text new
refused_over refusal G text f k old new is e none put =
    subst (PrintsOver refusal G text) (sym (put_first old new (refusal_line 0 k) none put ∙ ap (refusal_line 0) (e ∙ is)))
    (unopened (subst (λ (n : ℕ). 0 < n) is (some_number f)))

pub faulty_text : (G : Graph) (text : List ℕ) (f : TextFault) (k : ℕ) (old new : List ℕ) → Faulty text f → k ≡ fault_number f → old ≡ [] → Put old new 0 (refusal_line 1 k) → PrintsText G text new
faulty_text G text f k old new is e none put =
    subst (PrintsText G text) (sym (put_first old new (refusal_line 1 k) none put ∙ ap (refusal_line 1) e)) (faulty f is)
