use Rattle.std.proofs.Common.{refl}
use Rattle.commands.proofs.Unique.{one_reading}
use Rattle.commands.proofs.command.grammar_stands.Goals as goal

pub returns : goal.returns
returns c = record { value = refl; reading = one_reading }
