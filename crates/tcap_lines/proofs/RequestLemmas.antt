-- The words of a request are what is expected exactly where a script has the request.
use Rattle.std.proofs.Common.{◌≡◌, ◌&&◌, ℕ, pos, neg_ℤ, Bool, true, false, List, [], ◌∷◌, Option, is_some, refl, ◌∙◌}
use Rattle.ber_core.specs.Options.{◌>>=◌}
use Rattle.tcap_play.specs.ScriptLine.{abort_request_of, cancel_request_of, error_request_of, invoke_request_of, last_request_of, more_request_of, reject_request_of}
use Rattle.tcap_play.specs.ScriptWords.{body_of, class_of, code_of, dialogue_of, identifier_of, kind_of, milliseconds_of, octets_of, optional_identifier_of, optional_octets_of, problem_of, reason_of}
use Rattle.tcap_play.specs.Numbers.{number_up_to}
use Rattle.tcap_lines.specs.declared.expected.Expected.{Expected}
use Rattle.tcap_lines.specs.declared.expected.Expected.TheVariants as expected
use Rattle.tcap_lines.specs.Fits.{fits, is_number_within}
use Rattle.tcap_lines.proofs.FormLemmas.{all_fit}
use Rattle.tcap_lines.proofs.WordLemmas.{and_true, body_fits, class_fits, code_fits, identifier_fits, number_fits, octets_fit, then_read}

abbrev identifier : Expected
identifier = expected.Signed (neg_ℤ (pos 128)) (pos 127)

abbrev optional_identifier : Expected
optional_identifier = expected.OptionalSigned (neg_ℤ (pos 128)) (pos 127)

abbrev code : Expected
code = expected.Signed (neg_ℤ (pos 2147483648)) (pos 2147483647)

abbrev optional_code : Expected
optional_code = expected.OptionalSigned (neg_ℤ (pos 2147483648)) (pos 2147483647)

abbrev result : List Expected
result = identifier ∷ optional_code ∷ expected.OctetsBehindCode ∷ []

regroup : (a b c : Bool) → (a && (b && c)) ≡ (a && (b && (c && true)))
regroup true true true = refl
regroup true true false = refl
regroup true false c = refl
regroup false b c = refl

-- a result, the last or another
pub last_fits : (before id word parameter : List ℕ) → is_some (last_request_of id word parameter) ≡ all_fit result before (id ∷ word ∷ parameter ∷ [])
last_fits before id word parameter =
    then_read (identifier_of id) _ _ (λ i. then_read (body_of word parameter) _ true (λ b. refl) ∙ (and_true _ ∙ body_fits word parameter))
    ∙ regroup (fits identifier before id) (fits optional_code id word) (fits expected.OctetsBehindCode word parameter)

pub more_fits : (before id word parameter : List ℕ) → is_some (more_request_of id word parameter) ≡ all_fit result before (id ∷ word ∷ parameter ∷ [])
more_fits before id word parameter =
    then_read (identifier_of id) _ _ (λ i. then_read (body_of word parameter) _ true (λ b. refl) ∙ (and_true _ ∙ body_fits word parameter))
    ∙ regroup (fits identifier before id) (fits optional_code id word) (fits expected.OctetsBehindCode word parameter)

-- an error
pub error_fits : (before id word parameter : List ℕ) → is_some (error_request_of id word parameter) ≡ all_fit (identifier ∷ code ∷ expected.Octets ∷ []) before (id ∷ word ∷ parameter ∷ [])
error_fits before id word parameter =
    then_read (identifier_of id) _ _ (λ i. then_read (code_of word) _ _ (λ c. then_read (optional_octets_of parameter) _ true (λ p. refl)))
    ∙ rw (code_fits word, octets_fit parameter) refl

-- a Reject
pub reject_fits : (before id kind number : List ℕ) → is_some (reject_request_of id kind number) ≡ all_fit (optional_identifier ∷ expected.ProblemKind ∷ expected.Number 0 127 ∷ []) before (id ∷ kind ∷ number ∷ [])
reject_fits before id kind number =
    then_read (optional_identifier_of id) _ _ (λ i. then_read (problem_of kind number) _ true (λ p. refl) ∙ (and_true _ ∙ then_read (kind_of kind) _ _ (λ k. then_read (number_up_to 127 number) _ true (λ n. refl))))
    ∙ rw (identifier_fits id, number_fits 127 number) refl

-- an invocation that is given up
pub cancel_fits : (before id : List ℕ) → is_some (cancel_request_of id) ≡ all_fit (identifier ∷ []) before (id ∷ [])
cancel_fits before id = then_read (identifier_of id) _ true (λ i. refl)

-- an abort
pub abort_fits : (before reason information : List ℕ) → is_some (abort_request_of reason information) ≡ all_fit (expected.AbortReason ∷ expected.Octets ∷ []) before (reason ∷ information ∷ [])
abort_fits before reason information = then_read (reason_of reason) _ _ (λ r. then_read (octets_of information) _ true (λ i. refl))

-- an Invoke
pub invoke_fits : (before id class word timeout linked parameter : List ℕ) → is_some (invoke_request_of id class word timeout linked parameter)
    ≡ all_fit (identifier ∷ expected.Number 1 4 ∷ code ∷ expected.Number 0 18446744073709551615 ∷ optional_identifier ∷ expected.Octets ∷ []) before (id ∷ class ∷ word ∷ timeout ∷ linked ∷ parameter ∷ [])
invoke_fits before id class word timeout linked parameter =
    then_read (identifier_of id) _ _ (λ i. then_read (class_of class) _ _ (λ c. then_read (code_of word) _ _ (λ o.
    then_read (milliseconds_of timeout) _ _ (λ t. then_read (optional_identifier_of linked) _ _ (λ l. then_read (optional_octets_of parameter) _ true (λ p. refl))))))
    ∙ rw (class_fits class, code_fits word, number_fits 18446744073709551615 timeout, identifier_fits linked, octets_fit parameter) refl

swap : (a b : Bool) → (a && (b && true)) ≡ (b && a)
swap true true = refl
swap true false = refl
swap false true = refl
swap false false = refl

-- a request on a dialogue, where its word names one
pub asked_fits : {R L : Type 0} (dialogue : List ℕ) (request : Option R) (ask : R → Option L) (c : Bool)
    → ((r : R) → is_some (ask r) ≡ (is_some (dialogue_of dialogue) && true)) → is_some request ≡ c
    → is_some (request >>= ask) ≡ (is_number_within 0 4294967295 dialogue && c)
asked_fits dialogue request ask c each is =
    then_read request ask _ each ∙ (swap _ _ ∙ rw (number_fits 4294967295 dialogue, is) refl)
