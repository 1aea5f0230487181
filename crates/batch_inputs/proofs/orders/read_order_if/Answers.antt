use Rattle.std.proofs.Common.{refl}
use Rattle.batch_inputs.proofs.FileFaults.{failed_of}
use Rattle.batch_inputs.proofs.orders.read_order_if.Goals as goal

pub returns-in-Err-clause-fault : goal.returns-in-Err-clause-fault
returns-in-Err-clause-fault g c =
    let reads = c.in-Err.ensures.reads in
    rw (c.in-Some.is, c.fault_in.ensures) (record {
      file = refl;
      first = λ t. reads.fault t.0 t.1;
      failed = failed_of _ _ _ reads.told reads.untold;
      memory = λ three. reads.before_memory three;
      asked = reads.asked;
    })
