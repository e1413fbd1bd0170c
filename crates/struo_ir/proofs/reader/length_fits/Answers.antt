-- `struo_ir::reader::length_fits` meets its contract. Assumes nothing.
use Rattle.std.proofs.Common.{ℕ, ap, ◌∙◌, length, eqb}
use Rattle.struo_ir.specs.ReadingLaws.{too_short, too_long, by_field}
use Rattle.struo_ir.proofs.reader.length_fits.Goals as goal

pub returns-then-n-lt5 : goal.returns-then-n-lt5
returns-then-n-lt5 c = too_short c.args.bytes.now c.if-n-lt5.true

pub returns-then-n-gt65535 : goal.returns-then-n-gt65535
returns-then-n-gt65535 c = too_long c.args.bytes.now c.if-n-lt5.false c.if-n-gt65535.true

pub returns : goal.returns
returns c = let s = c.args.bytes.now in ap (λ (n : ℕ). eqb n (length s)) c.length_field.ensures ∙ by_field s c.if-n-lt5.false c.if-n-gt65535.false
