-- What an output text holds.
use Rattle.std.specs.Prelude.{ℕ, List, vec_items}
use Rattle.output.specs.declared.buffer.Output.{Output}

-- the bytes of an output text
abbrev pub printed : Output → List ℕ
printed o = vec_items o.bytes
