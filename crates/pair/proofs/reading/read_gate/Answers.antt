-- `read_gate` reads the record, and a refusal of it is on gate's side. Assumes nothing.
use Rattle.std.proofs.Common.{◌≡◌, refl}
use Rattle.model.specs.Pair.{on_gate}
use Rattle.calls.specs.Faults.{refusal}
use Rattle.calls.specs.declared.refusal.Refusal.{Refusal}
use Rattle.calls.specs.declared.refusal.Side.TheVariants.{Gate}
use Rattle.struo_ir.specs.Reading.{outcome_of, PaddedWhere}
use Rattle.pair.proofs.reading.read_gate.Goals as goal

pub returns-in-Ok : goal.returns-in-Ok
unfolding outcome_of PaddedWhere
returns-in-Ok c =
    record {
      accepted = λ n e. let f : c.in-Ok.netlist ≡ n = cc in rw (← f) (c.in-Ok.ensures.reads, c.in-Ok.ensures.padded);
      refused = λ x e. absurd cc;
    }

pub returns-in-Err : goal.returns-in-Err
unfolding outcome_of on_gate refusal
returns-in-Err c =
    record {
      accepted = λ n e. absurd cc;
      refused = λ x e.
          let f : ◌≡◌ {A = Refusal} (record { cause = c.in-Err.refusal.cause; side = Gate; place = c.in-Err.refusal.place }) x = cc in
          (c.in-Err.refusal, c.in-Err.ensures.reads, rw (← f) refl);
    }
