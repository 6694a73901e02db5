use Rattle.port_terms.proofs.Laws.{found, only, first, told}
use Rattle.port_terms.proofs.reading.decode.Goals as goal

pub returns-clause-found : goal.returns-clause-found
returns-clause-found c = found c.args.bytes.now c.external.result c.type_inv.bytes c.external.ensures

pub returns-clause-only : goal.returns-clause-only
returns-clause-only c = λ t ext. only c.args.bytes.now c.external.result t c.external.ensures ext

pub returns-clause-first : goal.returns-clause-first
returns-clause-first c = first c.args.bytes.now c.external.result c.type_inv.bytes c.external.ensures

pub returns-clause-fault : goal.returns-clause-fault
returns-clause-fault c = λ e faulty. told c.args.bytes.now c.external.result e c.external.ensures faulty
