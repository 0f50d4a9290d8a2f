-- What the crates above cite: laws of this crate's definitions. Declares nothing.
pub use Rattle.tcap_laws.proofs.Peers.ApartPlaces.{TellsOf, apart-by}
pub use Rattle.tcap_laws.proofs.FarEnds.AfterInvokes.{after-invoke, two_ends}
pub use Rattle.tcap_laws.proofs.Table.BegunAlike.{begun-answered, begun-born}
pub use Rattle.tcap_laws.proofs.Births.DrawnDialogues.{dialogue-next, dialogues-drawn, dialogues-rise, dialogues-below, was_born-listed, listed-was_born, was_born-lives, beyond-unborn}
pub use Rattle.tcap_laws.proofs.Rows.NoRowsAtBirth.{fresh-born}
pub use Rattle.tcap_laws.proofs.Births.BoundedDialogues.{dialogues-bounded}
pub use Rattle.tcap_laws.proofs.Table.BoundedIdentifiers.{identifiers-bounded}
pub use Rattle.tcap_laws.proofs.Queues.BoundedQueues.{queues-bounded}
pub use Rattle.tcap_laws.proofs.Births.Clocks.{clock-step, clock-later}
pub use Rattle.tcap_laws.proofs.Rows.ClassTables.{class-tables}
pub use Rattle.tcap_laws.proofs.Decisions.CountedHistories.{counted, open_before}
pub use Rattle.tcap_laws.proofs.Decisions.DecidedHistories.{closings_are}
pub use Rattle.tcap_laws.proofs.Decisions.DecidedOutcomes.{outcome_told, plainly_decided}
pub use Rattle.tcap_laws.proofs.Spans.DecisionSteps.{closing_of_decision, decided_now, decision_place, invocation_stays, outcome_stays, decision_stays}
pub use Rattle.tcap_laws.proofs.Spans.EarlierMoments.{clock_still, invocations_still, outcome_still, decision_still, deadline_still, held_still}
pub use Rattle.tcap_laws.proofs.FarEnds.ClosedOnce.{once}
pub use Rattle.tcap_laws.proofs.Rows.InvocationsLeft.{ended-agrees}
pub use Rattle.tcap_laws.proofs.Table.LastAnswersAlike.{fault-agrees, abort-agrees, continue-agrees, end-agrees, components-rejected, request-agrees}
pub use Rattle.tcap_laws.proofs.Table.EndMessagesAlike.{end-answered}
pub use Rattle.tcap_laws.proofs.FarEnds.FarOrigins.{origin, far-other}
pub use Rattle.tcap_laws.proofs.Spans.LatestInvocations.{latest_is}
pub use Rattle.tcap_laws.proofs.Births.Lives.{born-stays, over-step, over-later}
pub use Rattle.tcap_laws.proofs.Births.DrawnNumbers.{reply-numbered, number-next, numbers-drawn, numbers-rise, numbers-invocations}
pub use Rattle.tcap_laws.proofs.Births.NumbersFound.{invocation_of-found, numbers-below}
pub use Rattle.tcap_laws.proofs.Isolation.SeenBytes.{alone-bytes}
pub use Rattle.tcap_laws.proofs.Isolation.SeenDecisions.{only_decision, only_held, only_pending}
pub use Rattle.tcap_laws.proofs.Isolation.SeenInvocations.{found_own, found_only, found_span, found_deadline, only_outcome}
pub use Rattle.tcap_laws.proofs.Isolation.SeenLives.{only_clock, only_born, only_kept, only_life, unseen, unseen_marks, seen_marks}
pub use Rattle.tcap_laws.proofs.Isolation.SeenMoments.{each-alone, only_lapses, alone-moment}
pub use Rattle.tcap_laws.proofs.Isolation.SeenQueues.{only_handled, only_queue}
pub use Rattle.tcap_laws.proofs.Isolation.SeenRequests.{only_ended, only_due, alone_request}
pub use Rattle.tcap_laws.proofs.Table.OtherDialogues.{unnamed-stays}
pub use Rattle.tcap_laws.proofs.Receptions.ReachedReplies.{some-reply, taken-reply, broken-reply}
pub use Rattle.tcap_laws.proofs.Receptions.NamedBytes.{grammar-by_name, named-by_grammar}
pub use Rattle.tcap_laws.proofs.Receptions.NormalPortions.{normal-verdict, abnormal-verdict, normal-or-not}
pub use Rattle.tcap_laws.proofs.Receptions.ReceivedMarks.{components-marks, spelled-names, means-marks, reached-means}
pub use Rattle.tcap_laws.proofs.Table.RequestsJudgedAlike.{answer-agrees, situation-agrees, due-agrees, refused-agrees}
pub use Rattle.tcap_laws.proofs.Table.RequestsMovedAlike.{request-moves}
pub use Rattle.tcap_laws.proofs.Rows.IdentifiersInRows.{in_use-rows, pending-rows}
pub use Rattle.tcap_laws.proofs.Rows.SentInRows.{sent-rows}
pub use Rattle.tcap_laws.proofs.Spans.SentClocks.{deadline_within}
pub use Rattle.tcap_laws.proofs.Queues.SentComponents.{sent-from}
pub use Rattle.tcap_laws.proofs.FarEnds.SentInvokes.{operations}
pub use Rattle.tcap_laws.proofs.Receptions.SentMessages.{sent_message, sent_for_request, sent_for_bytes}
pub use Rattle.tcap_laws.proofs.Spans.SpanSteps.{span_new, span_grows, span_stays, reused_new, reused_step}
pub use Rattle.tcap_laws.proofs.Births.StartCounters.{start_dialogue-within, start_number-within}
pub use Rattle.tcap_laws.proofs.Spans.SupersededInvocations.{reused_of_number, decided_if_superseded, decided_if_reused, latest_if_open}
pub use Rattle.tcap_laws.proofs.Submission.SentOnce.{sent-once}
pub use Rattle.tcap_laws.proofs.Receptions.ToldFromOctets.{told-from}
pub use Rattle.tcap_laws.proofs.Engine.EngineMoves.{moves-alike, move-is-said, clock-within}
pub use Rattle.tcap_laws.proofs.Engine.DialoguesFound.{looked-up, live-alike, births-alike}
pub use Rattle.tcap_laws.proofs.Engine.GroupedOrder.{grouped-in_order}
pub use Rattle.tcap_laws.proofs.Engine.LapsesAlike.{lapses-alike}
