use Rattle.std.proofs.Common.{◌≡◌, true, min, take}
use Rattle.std.specs.List.{AllByRecursion}
use Rattle.commands.specs.Numbers.{is_digit, value_of}
use Rattle.commands.proofs.tokens.number_of.Given as goal

-- the bytes before are digits, and this is what they write
abbrev pub invariant-loop-b : goal.invariant-loop-b
invariant-loop-b l =
    record {
      digits : AllByRecursion (λ d. is_digit d ≡ true) (take l.b-index l.bytes);
      written : l.value ≡ min (value_of (take l.b-index l.bytes)) 65536;
    }
