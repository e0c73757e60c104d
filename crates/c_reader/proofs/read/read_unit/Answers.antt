use Rattle.c_reader.proofs.Results.{unit_read, only_read, fault_read, place_read, none_read}
use Rattle.c_reader.proofs.read.read_unit.Goals as goal

pub returns-clause-back : goal.returns-clause-back
returns-clause-back c = unit_read c.args.target c.args.bytes.now c.read.result c.read.ensures

pub returns-clause-only : goal.returns-clause-only
returns-clause-only c = only_read c.args.target c.args.bytes.now c.read.result c.read.ensures

pub returns-clause-fault : goal.returns-clause-fault
returns-clause-fault c = fault_read c.args.target c.args.bytes.now c.read.result c.read.ensures

pub returns-clause-within : goal.returns-clause-within
returns-clause-within c = place_read c.args.target c.args.bytes.now c.read.result c.read.ensures

pub returns-clause-none : goal.returns-clause-none
returns-clause-none c = none_read c.args.target c.args.bytes.now c.read.result c.read.ensures
