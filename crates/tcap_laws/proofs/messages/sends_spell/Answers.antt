use Rattle.tcap_laws.proofs.Receptions.SentAddresses.{request-goes_to, bytes-go_back}
use Rattle.tcap_laws.proofs.Receptions.SentMessages.{sent_message, sent_for_request, sent_for_bytes}
use Rattle.tcap_laws.proofs.messages.sends_spell.Goals as goal

pub returns-clause-message : goal.returns-clause-message
returns-clause-message c = sent_message

pub returns-clause-for_request : goal.returns-clause-for_request
returns-clause-for_request c = sent_for_request

pub returns-clause-goes_to : goal.returns-clause-goes_to
returns-clause-goes_to c = request-goes_to

pub returns-clause-for_bytes : goal.returns-clause-for_bytes
returns-clause-for_bytes c = sent_for_bytes

pub returns-clause-goes_back : goal.returns-clause-goes_back
returns-clause-goes_back c = bytes-go_back
