use Rattle.std.proofs.Common.{◌≡◌, ◌∷◌, sym, ◌∙◌, subst, rules}
use Rattle.commands.specs.Numbers.{IsNumeral}
use Rattle.commands.specs.Parts.{Front}
use Rattle.commands.proofs.Shapes.{tail, numeral_spaceless}
use Rattle.commands.proofs.Spaces.{apart}
use Rattle.commands.proofs.command.spaced_number.Goals as goal

pub returns-in-Word-default : goal.returns-in-Word-default
returns-in-Word-default c n rest num stops e =
    let after = c.in_ok-strip_prefix.field-0.now in
    let f = subst (λ t. Front after t c.next_token.result.1.now) c.in-Word-default.is-0 c.next_token.ensures in
    let opens : c.args.text.now ≡ 32 ∷ after = search rules in
    let same = sym f.parted.whole ∙ tail 32 32 _ _ (sym opens ∙ e) in
    f.classed (subst IsNumeral (sym (apart _ n _ rest f.parted.spaceless (numeral_spaceless n num) f.parted.stops stops same).0) num)
