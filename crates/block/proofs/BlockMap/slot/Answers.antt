use Rattle.std.proofs.Common.{rules}
use Rattle.block.proofs.Streets.{slot_beside}
use Rattle.block.proofs.BlockMap.slot.Goals as goal

pub beside-head-requires : goal.beside-head-requires
beside-head-requires c =
    rw c.cells-cells.ensures (slot_beside c.args.self.now.bytes.now c.args.self.now.sound _ _ _ c.place_of-tail.ensures.cell c.place_of-tail.ensures.side (search rules))
