-- What is told besides a new dialogue: no Send and no TC-BEGIN indication.
use Rattle.std.proofs.Common.{ℕ, List, Option, Some, None}
use Rattle.std.specs.List.{AllByRecursion}
use Rattle.tcap_pdu.specs.FrameSpelling.{Reason}
use Rattle.tcap_model.specs.Procedures.AbortRules.{abort_told}
use Rattle.tcap_model.specs.Procedures.ComponentHandling.{Item, SentInvocation, Handled, subject_of, handled, told_of, uni_told}
use Rattle.tcap_model.specs.Words.Output.{Output, DialogueIndication}
use Rattle.tcap_model.specs.Histories.Pair.{Past}
use Rattle.tcap_model.specs.Replies.Queue.{handled_in}
use Rattle.tcap_model.specs.Replies.Reply.{ended_in, moment_outputs}
use Rattle.tcap_laws.proofs.Receptions.EachComponent.{each-map, each-told}
use Rattle.tcap_laws.proofs.Receptions.EachMoment.{HoldsAtMoments, each-moment}
use Rattle.tcap_laws.proofs.Receptions.EachOutput.{each-ended, of-abort}
use Rattle.tcap_laws.proofs.Receptions.HandledComponents.{ComesOf, comes_of}
use Rattle.tcap_model.specs.Invocations.SentThere.{sent_there}

-- neither a Send nor a TC-BEGIN indication
abbrev pub IsTold : Output → Type 0
IsTold (Output.send to bytes) = ⊥
IsTold (Output.dialogue (DialogueIndication.uni context info)) = Unit {0}
IsTold (Output.dialogue (DialogueIndication.begin dialogue context info)) = ⊥
IsTold (Output.dialogue (DialogueIndication.go_on dialogue context info)) = Unit {0}
IsTold (Output.dialogue (DialogueIndication.end dialogue context info)) = Unit {0}
IsTold (Output.dialogue (DialogueIndication.u_abort dialogue pdu)) = Unit {0}
IsTold (Output.dialogue (DialogueIndication.p_abort dialogue why)) = Unit {0}
IsTold (Output.component indication) = Unit {0}
IsTold (Output.dropped why) = Unit {0}

abbrev pub AreTold : List Output → Type 0
AreTold outputs = AllByRecursion IsTold outputs

is-told : (dialogue : Option ℕ) (sent : Option SentInvocation) (item : Item) (h : Handled)
    → ComesOf dialogue sent item h → IsTold h.told
is-told _ _ _ _ (ComesOf.an_invoke sent id linked code parameter) = tt
is-told _ _ _ _ (ComesOf.not_sent item id problem carries here) = tt
is-told _ _ _ _ (ComesOf.a_result_last sent id body) = tt
is-told _ _ _ _ (ComesOf.a_result_more sent id body) = tt
is-told _ _ _ _ (ComesOf.an_error sent id code parameter) = tt
is-told _ _ _ _ (ComesOf.unexpected sent item id problem carries here) = tt
is-told _ _ _ _ (ComesOf.by_provider sent id problem of provided) = tt
is-told _ _ _ _ (ComesOf.by_user sent id problem of provided) = tt
is-told _ _ _ _ (ComesOf.of_none sent named id problem) = tt
is-told _ _ _ _ (ComesOf.of_fault sent f) = tt

handled-told : (dialogue : Option ℕ) (sent : Option SentInvocation) (item : Item)
    → IsTold (handled dialogue sent item).told
handled-told dialogue sent item = is-told dialogue sent item (handled dialogue sent item) (comes_of dialogue sent item)

pub components-told : (dialogue : ℕ) (past : Past) (components : List ℕ)
    → AreTold (told_of (handled_in dialogue past components))
components-told dialogue past components = each-told dialogue past components IsTold (λ earlier item read.
    handled-told (Some dialogue) (sent_there dialogue past earlier (subject_of item)) item)

pub uni-told : (items : List Item) → AreTold (uni_told items)
uni-told items = each-map IsTold (λ item. (handled None None item).told) (handled-told None None) items

pub ended-told : (dialogue : ℕ) (past : Past) (components : List Item) → AreTold (ended_in dialogue past components)
ended-told = each-ended IsTold (λ dialogue number id. tt)

pub moment-told : (idle_ms : ℕ) (past : Past) (now : ℕ) → AreTold (moment_outputs idle_ms past now)
moment-told idle_ms past now = each-moment IsTold holds past now idle_ms
  where
    holds : HoldsAtMoments IsTold
    holds = record { lapses = λ l. tt; aborts = λ dialogue. tt; ends = λ dialogue number id. tt }

pub abort-told : (dialogue : ℕ) (reason : Reason) → IsTold (abort_told dialogue reason)
abort-told = of-abort IsTold (λ dialogue pdu. tt) (λ dialogue why. tt)
