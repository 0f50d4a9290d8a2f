use Rattle.tcap_laws.proofs.Table.BegunAlike.{begun-answered, begun-born}
use Rattle.tcap_laws.proofs.agreeing.begun_is_born.Goals as goal

pub returns-clause-answer : goal.returns-clause-answer
returns-clause-answer c h from bytes origin context info components legal =
    begun-answered h legal from bytes origin context info components

pub returns-clause-dialogue : goal.returns-clause-dialogue
returns-clause-dialogue c h from bytes origin portion context info components legal frame accepted =
    begun-born h legal from bytes origin context info components accepted portion frame
