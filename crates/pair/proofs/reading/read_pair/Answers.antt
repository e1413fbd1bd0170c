-- `read_pair` reads gold, then gate, and takes the first refusal. Assumes nothing.
use Rattle.std.proofs.lemmas.Result.{err_from_is_err_and}
use Rattle.struo_ir.specs.Reading.{outcome_of, PaddedWhere}
use Rattle.pair.specs.PairReading.{pair_of}
use Rattle.pair.specs.PairReadingLaws.{gold-refused, gate-refused, both-accepted, side_of, bytes-same}
use Rattle.pair.specs.ReadingRight.{read-valid}
use Rattle.pair.proofs.reading.read_pair.Goals as goal

pub returns-in_err-gold_netlist : goal.returns-in_err-gold_netlist
unfolding pair_of outcome_of
returns-in_err-gold_netlist c =
    let p = err_from_is_err_and c.from_residual.result c.from_residual.ensures.1 in
    rw (p.1, p.2) (record { is = gold-refused c.args.gold.now c.args.gate.now _ c.in_err-gold_netlist.ensures.reads; bytes_are = λ d e. absurd cc })

pub returns-in_err-gate_netlist : goal.returns-in_err-gate_netlist
unfolding pair_of outcome_of
returns-in_err-gate_netlist c =
    let p = err_from_is_err_and c.from_residual-in_err-gate_netlist.result c.from_residual-in_err-gate_netlist.ensures.1 in
    let g = c.read_gate.ensures.refused _ c.in_err-gate_netlist.was in
    rw (p.1, p.2) (record { is = gate-refused c.args.gold.now c.args.gate.now _ _ _ c.in_ok-gold_netlist.ensures.reads g.1 g.2; bytes_are = λ d e. absurd cc })

pub by_name-requires : goal.by_name-requires
unfolding outcome_of PaddedWhere
by_name-requires c = (read-valid c.args.gold.now _ c.in_ok-gold_netlist.ensures.padded c.in_ok-gold_netlist.ensures.reads).within

pub by_name-requires-2 : goal.by_name-requires-2
by_name-requires-2 c =
    let g = c.read_gate.ensures.accepted _ c.in_ok-gate_netlist.was in
    (read-valid c.args.gate.now _ g.1 g.0).within

pub invariant_of-result : goal.invariant_of-result
unfolding outcome_of PaddedWhere
invariant_of-result c =
    let r = c.in_ok-gold_netlist.ensures in
    record { sided = side_of _ _ c.by_name.result c.by_name.ensures.0 (read-valid _ _ r.padded r.reads) c.by_name.ensures.1 }

pub invariant_of-result-2 : goal.invariant_of-result-2
invariant_of-result-2 c =
    let g = c.read_gate.ensures.accepted _ c.in_ok-gate_netlist.was in
    record { sided = side_of _ _ c.by_name-2.result c.by_name-2.ensures.0 (read-valid _ _ g.1 g.0) c.by_name-2.ensures.1 }

pub returns : goal.returns
unfolding pair_of outcome_of PaddedWhere
returns c =
    let s = c.args.gold.now in
    let t = c.args.gate.now in
    let made = c.by_name.ensures in
    let made-too = c.by_name-2.ensures in
    let g = c.read_gate.ensures.accepted _ c.in_ok-gate_netlist.was in
    let r = c.in_ok-gold_netlist.ensures in
    record {
      is = rw (made.0, made-too.0) (both-accepted s t _ _ r.reads g.0);
      bytes_are = λ p e. bytes-same _ p e;
    }
