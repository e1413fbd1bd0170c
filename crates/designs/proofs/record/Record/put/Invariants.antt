-- `put` writes every byte before the one at hand. Assumes nothing.
use Rattle.std.proofs.Common.{◌≡◌, take}
use Rattle.designs.specs.Written.{Gains}
use Rattle.designs.proofs.record.Record.put.Given as goal

abbrev pub invariant-loop-byte : goal.invariant-loop-byte
invariant-loop-byte l = Gains l.fn.self l.self (take l.byte-index l.more) × (l.self.nodes ≡ l.fn.self.nodes)
