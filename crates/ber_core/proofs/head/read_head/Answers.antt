use Rattle.ber_core.specs.Views.{head_fields}
use Rattle.ber_core.proofs.HeadAgreement.{found, constructs, only, fault}
use Rattle.ber_core.proofs.head.read_head.Goals as goal

pub returns-clause-found : goal.returns-clause-found
returns-clause-found c = found head_fields c.args.bytes.now c.split_head.result c.split_head.ensures.value

pub returns-clause-constructed : goal.returns-clause-constructed
returns-clause-constructed c = constructs head_fields c.args.bytes.now c.split_head.result c.split_head.ensures.value

pub returns-clause-only : goal.returns-clause-only
returns-clause-only c = only head_fields c.args.bytes.now c.split_head.result c.split_head.ensures.value

pub returns-clause-fault : goal.returns-clause-fault
returns-clause-fault c = fault head_fields c.args.bytes.now c.split_head.result c.split_head.ensures.value
