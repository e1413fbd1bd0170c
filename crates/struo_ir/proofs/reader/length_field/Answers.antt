-- `struo_ir::reader::length_field` meets its contract. Assumes nothing.
use Rattle.std.proofs.Common.{◌≡◌, ◌∙◌, ◌+◌, ◌*◌, get_or, arith}
use Rattle.struo_ir.specs.ReadingLaws.{length-bytes}
use Rattle.struo_ir.proofs.reader.length_field.Goals as goal

pub returns : goal.returns
returns c =
    let s = c.args.bytes.now in
    let e : c.from_be_bytes.result ≡ ((get_or s 1 0 * 256 + get_or s 2 0) * 256 + get_or s 3 0) * 256 + get_or s 4 0 = omega (arith, c.from_be_bytes.ensures) in
    e ∙ length-bytes s c.requires
