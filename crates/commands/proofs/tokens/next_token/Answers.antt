use Rattle.std.proofs.Common.{ap, ◌∙◌}
use Rattle.commands.proofs.Spaces.{fronted}
use Rattle.commands.proofs.tokens.next_token.Goals as goal

pub returns-in-Some : goal.returns-in-Some
returns-in-Some c =
    let same = c.in-Some.ensures.0 in
    record {
      parted = fronted c.args.text.now _ _ c.length_before.result c.length_before.ensures.count (ap (λ b. b.now) same ∙ c.split_at.ensures.front) c.split_at.ensures.back;
      classed = c.in-Some.ensures.1;
    }

pub returns-in-None : goal.returns-in-None
returns-in-None c =
    record {
      parted = fronted c.args.text.now _ _ c.length_before.result c.length_before.ensures.count c.split_at.ensures.front c.split_at.ensures.back;
      classed = c.in-None.ensures;
    }
