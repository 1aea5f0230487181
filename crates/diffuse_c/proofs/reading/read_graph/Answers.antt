use Rattle.diffuse_c.proofs.FaultNumbers.{fault_told, ran_out}
use Rattle.diffuse_c.proofs.reading.read_graph.Goals as goal

pub returns-clause-fault : goal.returns-clause-fault
returns-clause-fault c = fault_told c.args.bytes.now c.read_gr_as.result c.requires c.read_gr_as.ensures.fault c.read_gr_as.ensures.told c.read_gr_as.ensures.long c.read_gr_as.ensures.numbered

pub returns-clause-memory : goal.returns-clause-memory
returns-clause-memory c = ran_out c.args.bytes.now c.read_gr_as.result _ c.read_gr_as.ensures.before_memory
