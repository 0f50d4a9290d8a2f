-- What a call answers whose outputs went to a vector of its own.
use Rattle.std.proofs.Common.{◌≡◌, List, [], ap, refl, sym, ◌∙◌}
use Rattle.tcap_dialogue.specs.AskViews.{accepted_outcome, asked_view}
use Rattle.tcap_dialogue.specs.declared.dialogue.requests.Accepted.{Accepted}
use Rattle.tcap_dialogue.specs.declared.dialogue.requests.Accepted.TheVariants as accepted
use Rattle.tcap_dialogue.specs.declared.dialogue.requests.Asked.{Asked}
use Rattle.tcap_dialogue.specs.declared.dialogue.requests.Asked.TheVariants as asked
use Rattle.tcap_engine.specs.RequestInTable.{accepted_answer, asked_answer}
use Rattle.tcap_model.specs.Table.Dialogue.{Dialogue, fresh_dialogue}
use Rattle.tcap_model.specs.Words.Output.{Output}
use Rattle.tcap_primitives.specs.SinkViews.{told_since}

asked-first : {A : Type 0} (a : Asked A) (d : Dialogue) → asked_answer a ≡ (asked_view a d).0
asked-first (asked.Number number) d = refl
asked-first asked.Done d = refl
asked-first (asked.GivenUp number) d = refl
asked-first (asked.Step step) d = refl

accepted-first : (told : List Output) (a : Accepted) (d : Dialogue) → accepted_answer told a ≡ (accepted_outcome told a d).0
accepted-first told (accepted.Number number) d = refl
accepted-first told accepted.Done d = refl
accepted-first told (accepted.GivenUp number) d = refl
accepted-first told (accepted.Step over) d = refl

-- What a vector holds that was empty is what was told since.
pub vector-told : (shown before after : List Output) → shown ≡ after → before ≡ [] → shown ≡ told_since before after
vector-told shown before after are none = are ∙ sym (ap (λ (os : List Output). told_since os after) none)

-- The answer of a request with these outputs is what was accepted.
pub asked-told : {A : Type 0} (a : Asked A) (accepted : Accepted) (shown before after : List Output)
    → ((d : Dialogue) → asked_view a d ≡ accepted_outcome shown accepted d) → shown ≡ after → before ≡ []
    → asked_answer a ≡ accepted_answer (told_since before after) accepted
asked-told a accepted shown before after is are none =
    let d : Dialogue = fresh_dialogue 0 0 0 in
    asked-first a d ∙ ap (λ o. o.0) (is d) ∙ sym (accepted-first shown accepted d) ∙ ap (λ (os : List Output). accepted_answer os accepted) (vector-told shown before after are none)
