-- What is sent and told, from what each answer of a list is.
use Rattle.std.proofs.Common.{◌≡◌, ℕ, List, [], ◌∷◌, Option, Some, None, Ok, Err, Result, refl, ap, subst, sym, ◌∙◌, ◌⊎◌}
use Rattle.std.specs.List.{AllByRecursion}
use Rattle.tcap_pdu.specs.declared.fault.FrameFault.{FrameFault}
use Rattle.tcap_pdu.specs.FrameReading.{frame_at}
use Rattle.tcap_pdu.specs.FrameSpelling.{Message, SpellsFrame}
use Rattle.tcap_pdu.proofs.CallerLemmas.{frame_again}
use Rattle.tcap_component.specs.Component.{ComponentParts}
use Rattle.tcap_component.specs.ComponentFault.{FaultParts}
use Rattle.tcap_component.specs.ComponentList.{FirstFault, items}
use Rattle.tcap_component.specs.ComponentReading.{components_of}
use Rattle.tcap_component.proofs.CallerLemmas.{first_fault_again, first_fault_is}
use Rattle.tcap_examples.proofs.PlaceLemmas.{Everywhere, at_place, outputs_of, told_there}
use Rattle.tcap_model.specs.Statements.ToldFrom.{ToldFromOne, ToldFrom, IsOfComponent}
use Rattle.tcap_model.specs.Statements.SentFrom.{SentFromOne, SentFrom}
use Rattle.tcap_model.specs.Statements.ComponentPortion.{portion_of}
use Rattle.tcap_model.specs.Words.Event.{Event}
use Rattle.tcap_model.specs.Words.Output.{Output, Closing, Rejector, ComponentIndication}
use Rattle.tcap_model.specs.Histories.Pair.{Pair, Past}

-- ---- components and the first fault

abbrev Items : Type 0
Items = List (Result ComponentParts FaultParts)

-- The components before the first fault.
read : Items → List ComponentParts
read [] = []
read (Ok c ∷ others) = c ∷ read others
read (Err f ∷ others) = []

-- The first fault.
unread : Items → Option FaultParts
unread [] = None
unread (Ok c ∷ others) = unread others
unread (Err f ∷ others) = Some f

read-items : (cs : List ComponentParts) (f : Option FaultParts) → read (items cs f) ≡ cs
unfolding read
read-items [] None = refl
read-items [] (Some f) = refl
read-items (c ∷ cs) f = ap (λ (others : List ComponentParts). c ∷ others) (read-items cs f)

unread-items : (cs : List ComponentParts) (f : Option FaultParts) → unread (items cs f) ≡ f
unfolding unread
unread-items [] None = refl
unread-items [] (Some f) = refl
unread-items (c ∷ cs) f = unread-items cs f

same_read : (cs ds : List ComponentParts) (f g : Option FaultParts) → items cs f ≡ items ds g → cs ≡ ds
same_read cs ds f g same = sym (read-items cs f) ∙ (ap read same ∙ read-items ds g)

same_unread : (cs ds : List ComponentParts) (f g : Option FaultParts) → items cs f ≡ items ds g → f ≡ g
same_unread cs ds f g same = sym (unread-items cs f) ∙ (ap unread same ∙ unread-items ds g)

-- The components and the fault that are read are those of the contents.
pub first_fault_at : (content : List ℕ) (cs : List ComponentParts) (f : Option FaultParts)
    → components_of content ≡ items cs f → FirstFault cs f content
first_fault_at content cs f is =
    let first = first_fault_is content in
    let same : items first.0 first.1 ≡ items cs f = sym first.3 ∙ is in
    subst (λ (g : Option FaultParts). FirstFault cs g content) (same_unread first.0 cs first.1 f same)
    (subst (λ (ds : List ComponentParts). FirstFault ds first.1 content) (same_read first.0 cs first.1 f same)
    first.2)

-- The message that was read, if one was.
abbrev message_read : Result Message FrameFault → Message
message_read (Ok m) = m
message_read (Err f) = Message.unidirectional None []

message_is : (bytes : List ℕ) (m n : Message) → frame_at bytes ≡ Ok m → frame_at bytes ≡ Ok n → m ≡ n
message_is bytes m n is also = ap message_read (sym is ∙ also)

-- Components that bytes spell are those that are read.
pub spelled_read : (bytes : List ℕ) (m n : Message) (cs ds : List ComponentParts) (f g : Option FaultParts)
    → frame_at bytes ≡ Ok n → components_of (portion_of n) ≡ items ds g → SpellsFrame m bytes
    → FirstFault cs f (portion_of m) → cs ≡ ds
spelled_read bytes m n cs ds f g is listed spells first =
    let same : m ≡ n = message_is bytes m n (frame_again m bytes spells) is in
    same_read cs ds f g (sym (first_fault_again cs f (portion_of m) first)
    ∙ (ap (λ (k : Message). components_of (portion_of k)) same ∙ listed))

-- ---- what is sent

-- A message that is sent comes from its dialogue, read by the reading functions.
abbrev pub SentSo : Event → Past → Output → Type 0
SentSo event before (Output.send to bytes) =
    (m : Message) × (cs : List ComponentParts) × (f : Option FaultParts) × (frame_at bytes ≡ Ok m)
    × (components_of (portion_of m) ≡ items cs f) × ((portion_of m ≡ []) ⊎ SentFromOne event before cs f)
SentSo event before (Output.dialogue indication) = Unit {0}
SentSo event before (Output.component indication) = Unit {0}
SentSo event before (Output.dropped why) = Unit {0}

pub sent_from : (past : Past) → Everywhere (λ (pair : Pair) before.
    AllByRecursion (SentSo pair.event before) (outputs_of pair.answer)) past → SentFrom past
sent_from past all from =
    let pair = from.pair in
    let before = from.before in
    let bytes = from.bytes in
    let m = from.message in
    let components = from.components in
    let fault = from.fault in
    let spells = from.spelled in
    let first = from.read in
    let here = at_place (λ (pair : Pair) before. AllByRecursion (SentSo pair.event before) (outputs_of pair.answer))
    past all pair before from.stands in
    let so = told_there (SentSo pair.event before) pair.answer (Output.send from.to bytes) from.tells here in
    let same : so.0 ≡ m = message_is bytes so.0 m so.3 (frame_again m bytes spells) in
    let listed : items so.1 so.2 ≡ items components fault =
    sym so.4 ∙ (ap (λ (n : Message). components_of (portion_of n)) same
    ∙ first_fault_again components fault (portion_of m) first) in
    let moved : (portion_of m ≡ []) ⊎ SentFromOne pair.event before so.1 so.2 =
    subst (λ (n : Message). (portion_of n ≡ []) ⊎ SentFromOne pair.event before so.1 so.2) same so.5 in
    subst (λ (f : Option FaultParts). (portion_of m ≡ []) ⊎ SentFromOne pair.event before components f)
    (same_unread so.1 components so.2 fault listed)
    (subst (λ (cs : List ComponentParts). (portion_of m ≡ []) ⊎ SentFromOne pair.event before cs so.2)
    (same_read so.1 components so.2 fault listed) moved)

-- ---- what is told

-- A closing indication that stands for a component comes from the bytes received.
abbrev pub ClosedSo : Event → Output → Closing → Type 0
ClosedSo event output (Closing.result_last body) = ToldFromOne event output
ClosedSo event output (Closing.error_back code parameter) = ToldFromOne event output
ClosedSo event output (Closing.rejected problem Rejector.local) = Unit {0}
ClosedSo event output (Closing.rejected problem Rejector.remote_provider) = Unit {0}
ClosedSo event output (Closing.rejected problem Rejector.remote_user) = ToldFromOne event output
ClosedSo event output Closing.lapsed = Unit {0}
ClosedSo event output Closing.ended = Unit {0}
ClosedSo event output Closing.given_up = Unit {0}

-- An indication that stands for a component comes from the bytes received.
abbrev pub ToldSo : Event → Output → Type 0
ToldSo event (Output.send to bytes) = Unit {0}
ToldSo event (Output.dialogue indication) = Unit {0}
ToldSo event (Output.component (ComponentIndication.invoked dialogue id linked code parameter)) =
    ToldFromOne event (Output.component (ComponentIndication.invoked dialogue id linked code parameter))
ToldSo event (Output.component (ComponentIndication.result_more dialogue number id body)) =
    ToldFromOne event (Output.component (ComponentIndication.result_more dialogue number id body))
ToldSo event (Output.component (ComponentIndication.local_reject dialogue id problem)) = Unit {0}
ToldSo event (Output.component (ComponentIndication.remote_reject dialogue id problem by)) = Unit {0}
ToldSo event (Output.component (ComponentIndication.closed dialogue number id closing)) =
    ClosedSo event (Output.component (ComponentIndication.closed dialogue number id closing)) closing
ToldSo event (Output.dropped why) = Unit {0}

told_so : (event : Event) (output : Output) → IsOfComponent output → ToldSo event output → ToldFromOne event output
told_so event output (IsOfComponent.invoke dialogue id linked code parameter) so = so
told_so event output (IsOfComponent.result_more dialogue number id body) so = so
told_so event output (IsOfComponent.result_last dialogue number id body) so = so
told_so event output (IsOfComponent.error_back dialogue number id code parameter) so = so
told_so event output (IsOfComponent.rejected dialogue number id problem) so = so

pub told_from : (past : Past) → Everywhere (λ (pair : Pair) before.
    AllByRecursion (ToldSo pair.event) (outputs_of pair.answer)) past → ToldFrom past
told_from past all told =
    let here = at_place (λ (pair : Pair) before. AllByRecursion (ToldSo pair.event) (outputs_of pair.answer)) past all
    told.pair told.before told.stands in
    told_so told.pair.event told.output told.is_of_component
    (told_there (ToldSo told.pair.event) told.pair.answer told.output told.tells here)
