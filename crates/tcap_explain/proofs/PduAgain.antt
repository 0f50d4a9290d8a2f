-- The contents of a dialogue PDU stand in the tables.
use Rattle.std.proofs.Common.{◌≡◌, ℕ, ◌≤◌, true, false, Bool, leb, List, [], ◌∷◌, Option, Some, None, refl, sym, subst, arith, inl, inr}
use Rattle.std.specs.List.{AllByRecursion}
use Rattle.std.proofs.lemmas.Bool.Decides.{nat_tests}
use Rattle.ber_core.specs.Element.{Parts, joined}
use Rattle.ber_core.specs.ObjectIdentifier.{IsObjectIdentifier}
use Rattle.ber_core.specs.Sequence.{Field, InOrder, SpellsSequence, IsOnly}
use Rattle.ber_core.specs.Sequence.Field.{must, may, filled}
use Rattle.ber_core.proofs.CallerLemmas.{object_identifier_again}
use Rattle.tcap_pdu.specs.DialogueSpelling.{Source, SaysVersion, result_number, abort_source, source_tag, source_number, IsExternal, IsInformation, SpellsRequest, SpellsDiagnostic, SpellsResponse, SpellsAbort}
use Rattle.tcap_pdu.specs.DialogueSpelling.Source.{user, provider}
use Rattle.tcap_explain.specs.declared.contents.Contents.{Contents}
use Rattle.tcap_explain.specs.declared.contents.Contents.TheVariants as contents
use Rattle.tcap_explain.specs.declared.line.Line.{Line}
use Rattle.tcap_explain.specs.declared.line.Line.TheVariants as line
use Rattle.tcap_explain.specs.declared.line.PduLine.TheVariants as pdu
use Rattle.tcap_explain.specs.declared.table.Inside.{Inside}
use Rattle.tcap_explain.specs.declared.table.Inside.TheVariants as inside
use Rattle.tcap_explain.specs.Choice.{leads}
use Rattle.tcap_explain.specs.Octets.{fits}
use Rattle.tcap_explain.specs.Table.{next, may_end}
use Rattle.tcap_explain.specs.Unmet.{Holds, Stands}
use Rattle.tcap_explain.specs.Unmet.Holds.{elements}
use Rattle.tcap_explain.specs.Unmet.Stands.{ends}
use Rattle.tcap_explain.proofs.MessageAgain.{All, nothing_more, taken, end-again, whatever, fitting}

small : (n most : ℕ) → n ≤ most → leb n most ≡ true
small n most h = grind (arith, nat_tests)

-- what a sequence spells stands at a line where its elements do
pub spelled : (l : Line) (fs : List Field) (bytes : List ℕ) → ((es : List Parts) → All es → InOrder fs es → Stands l (joined es)) → SpellsSequence fs bytes → Stands l bytes
spelled l fs bytes stands s = subst (Stands l) (sym s.is_list.is_joined) (stands s.elements s.is_list.each s.in_order)

pub inside-is : (l : Line) (content c : List ℕ) → content ≡ c → Stands l c → Holds (inside.Elements l) content
inside-is l content c is s = elements l content (subst (Stands l) (sym is) s)

-- ---- the parts

version-fits : (c : List ℕ) (v : Bool) → SaysVersion (Some c) v → fits contents.ProtocolVersion c ≡ true
version-fits [] v h = absurd h
version-fits (unused ∷ []) v h = rw h.0 refl
version-fits (unused ∷ bits ∷ rest) v h = small unused 7 h.0

named : (context : List ℕ) (es : List Parts) → All es → IsObjectIdentifier context → InOrder (must 0x06 context ∷ []) es → Stands (line.Pdu pdu.ContextName) (joined es)
unfolding InOrder next
named context [] a i h = absurd h.0
named context (e ∷ es) a i (inl h) = taken (line.Pdu pdu.ContextName) nothing_more (inside.Octets contents.ObjectIdentifier) e es a.0 (rw h.0.0 refl) (fitting contents.ObjectIdentifier e.content context h.0.1 (object_identifier_again context i)) (end-again es h.1)
named context (e ∷ es) a i (inr h) = absurd h.0

context-stands : (context name : List ℕ) → IsObjectIdentifier context → IsOnly 0x06 context name → Stands (line.Pdu pdu.ContextName) name
context-stands context name i o = spelled (line.Pdu pdu.ContextName) (must 0x06 context ∷ []) name (λ es a h. named context es a i h) o

externals : (es : List Parts) → All es → AllByRecursion IsExternal es → Stands (line.Pdu pdu.Externals) (joined es)
unfolding next may_end
externals [] a x = ends (line.Pdu pdu.Externals) refl
externals (e ∷ es) a x = taken (line.Pdu pdu.Externals) (line.Pdu pdu.Externals) (inside.Octets contents.Any) e es a.0 (rw x.0 refl) (whatever e.content) (externals es a.1 x.1)

information : (info : List ℕ) → IsInformation info → Stands (line.Pdu pdu.Externals) info
information info i = subst (Stands (line.Pdu pdu.Externals)) (sym i.is_list.is_joined) (externals i.externals i.is_list.each i.each)

informed : (info : List ℕ) (es : List Parts) → All es → IsInformation info → InOrder (filled 0xbe info ∷ []) es → Stands (line.Pdu pdu.UserInformation) (joined es)
unfolding InOrder next may_end
informed info [] a i h = ends (line.Pdu pdu.UserInformation) refl
informed info (e ∷ es) a i (inl h) = taken (line.Pdu pdu.UserInformation) nothing_more (inside.Elements (line.Pdu pdu.Externals)) e es a.0 (rw h.0.0 refl) (inside-is (line.Pdu pdu.Externals) e.content info h.0.1 (information info i)) (end-again es h.1)
informed info (e ∷ es) a i (inr h) = absurd h.1

-- one integer of one octet
numbered : (l : Line) (k : Contents) (n : ℕ) (es : List Parts) → All es → ((tag content : List ℕ) → tag ≡ 0x02 ∷ [] → next l tag content ≡ Some (leads (inside.Octets k) nothing_more)) → fits k (n ∷ []) ≡ true → InOrder (must 0x02 (n ∷ []) ∷ []) es → Stands l (joined es)
unfolding InOrder
numbered l k n [] a has f h = absurd h.0
numbered l k n (e ∷ es) a has f (inl h) = taken l nothing_more (inside.Octets k) e es a.0 (has e.tag e.content h.0.0) (fitting k e.content (n ∷ []) h.0.1 f) (end-again es h.1)
numbered l k n (e ∷ es) a has f (inr h) = absurd h.0

result-fits : (accepted : Bool) → fits contents.ResultNumber (result_number accepted ∷ []) ≡ true
result-fits true = refl
result-fits false = refl

source-fits : (by_provider : Bool) → fits contents.AbortSource (abort_source by_provider ∷ []) ≡ true
source-fits true = refl
source-fits false = refl

result-line : (tag content : List ℕ) → tag ≡ 0x02 ∷ [] → next (line.Pdu pdu.ResultNumber) tag content ≡ Some (leads (inside.Octets contents.ResultNumber) nothing_more)
unfolding next
result-line tag content t = rw t refl

diagnostic-line : (tag content : List ℕ) → tag ≡ 0x02 ∷ [] → next (line.Pdu pdu.DiagnosticNumber) tag content ≡ Some (leads (inside.Octets contents.DiagnosticNumber) nothing_more)
unfolding next
diagnostic-line tag content t = rw t refl

result-stands : (accepted : Bool) (result : List ℕ) → IsOnly 0x02 (result_number accepted ∷ []) result → Stands (line.Pdu pdu.ResultNumber) result
result-stands accepted result o = spelled (line.Pdu pdu.ResultNumber) (must 0x02 (result_number accepted ∷ []) ∷ []) result (λ es a h. numbered (line.Pdu pdu.ResultNumber) contents.ResultNumber (result_number accepted) es a result-line (result-fits accepted) h) o

number-stands : (n : ℕ) (held : List ℕ) → n ≤ 0x7f → IsOnly 0x02 (n ∷ []) held → Stands (line.Pdu pdu.DiagnosticNumber) held
number-stands n held le o = spelled (line.Pdu pdu.DiagnosticNumber) (must 0x02 (n ∷ []) ∷ []) held (λ es a h. numbered (line.Pdu pdu.DiagnosticNumber) contents.DiagnosticNumber n es a diagnostic-line (small n 0x7f le) h) o

source-known : (d : Source) (tag content : List ℕ) → tag ≡ source_tag d ∷ [] → next (line.Pdu pdu.DiagnosticSource) tag content ≡ Some (leads (inside.Elements (line.Pdu pdu.DiagnosticNumber)) nothing_more)
unfolding next
source-known (user n) tag content t = rw t refl
source-known (provider n) tag content t = rw t refl

sources : (d : Source) (held : List ℕ) (es : List Parts) → All es → source_number d ≤ 0x7f → IsOnly 0x02 (source_number d ∷ []) held → InOrder (must (source_tag d) held ∷ []) es → Stands (line.Pdu pdu.DiagnosticSource) (joined es)
unfolding InOrder
sources d held [] a le o h = absurd h.0
sources d held (e ∷ es) a le o (inl h) = taken (line.Pdu pdu.DiagnosticSource) nothing_more (inside.Elements (line.Pdu pdu.DiagnosticNumber)) e es a.0 (source-known d e.tag e.content h.0.0) (inside-is (line.Pdu pdu.DiagnosticNumber) e.content held h.0.1 (number-stands (source_number d) held le o)) (end-again es h.1)
sources d held (e ∷ es) a le o (inr h) = absurd h.0

source-stands : (d : Source) (bytes : List ℕ) → SpellsDiagnostic d bytes → Stands (line.Pdu pdu.DiagnosticSource) bytes
source-stands d bytes s = spelled (line.Pdu pdu.DiagnosticSource) (must (source_tag d) s.held ∷ []) bytes (λ es a h. sources d s.held es a s.in_range s.holds_number h) s.is_source

-- ---- AARQ and AUDT

abbrev context_inside : Inside
context_inside = inside.Elements (line.Pdu pdu.ContextName)

abbrev information_line : Line
information_line = line.Pdu pdu.UserInformation

contexts : (name info : List ℕ) (es : List Parts) → All es → Stands (line.Pdu pdu.ContextName) name → IsInformation info → InOrder (must 0xa1 name ∷ filled 0xbe info ∷ []) es → Stands (line.Pdu pdu.RequestContext) (joined es)
unfolding InOrder next
contexts name info [] a s i h = absurd h.0
contexts name info (e ∷ es) a s i (inl h) = taken (line.Pdu pdu.RequestContext) information_line context_inside e es a.0 (rw h.0.0 refl) (inside-is (line.Pdu pdu.ContextName) e.content name h.0.1 s) (informed info es a.1 i h.1)
contexts name info (e ∷ es) a s i (inr h) = absurd h.0

requests : (version : Option (List ℕ)) (v : Bool) (name info : List ℕ) (es : List Parts) → All es → SaysVersion version v → Stands (line.Pdu pdu.ContextName) name → IsInformation info → InOrder (may 0x80 version ∷ must 0xa1 name ∷ filled 0xbe info ∷ []) es → Stands (line.Pdu pdu.RequestVersion) (joined es)
unfolding InOrder next
requests version v name info [] a k s i h = absurd h.1.0
requests None v name info (e ∷ es) a k s i (inl h) = absurd h.0
requests (Some c) v name info (e ∷ es) a k s i (inl h) = taken (line.Pdu pdu.RequestVersion) (line.Pdu pdu.RequestContext) (inside.Octets contents.ProtocolVersion) e es a.0 (rw h.0.0 refl) (fitting contents.ProtocolVersion e.content c h.0.1 (version-fits c v k)) (contexts name info es a.1 s i h.1)
requests (Some c) v name info (e ∷ es) a k s i (inr h) = absurd cc
requests None v name info (e ∷ es) a k s i (inr (l, inl h)) = taken (line.Pdu pdu.RequestVersion) information_line context_inside e es a.0 (rw h.0.0 refl) (inside-is (line.Pdu pdu.ContextName) e.content name h.0.1 s) (informed info es a.1 i h.1)
requests None v name info (e ∷ es) a k s i (inr (l, inr h)) = absurd h.0

pub request-stands : (v : Bool) (context info bytes : List ℕ) → SpellsRequest v context info bytes → Stands (line.Pdu pdu.RequestVersion) bytes
request-stands v context info bytes r =
    spelled (line.Pdu pdu.RequestVersion) (may 0x80 r.version ∷ must 0xa1 r.name ∷ filled 0xbe info ∷ []) bytes
    (λ es a h. requests r.version v r.name info es a r.says_version (context-stands context r.name r.is_context r.holds_context) r.is_information h) r.in_sequence

-- ---- AARE

diagnostics : (source info : List ℕ) (es : List Parts) → All es → Stands (line.Pdu pdu.DiagnosticSource) source → IsInformation info → InOrder (must 0xa3 source ∷ filled 0xbe info ∷ []) es → Stands (line.Pdu pdu.Diagnostic) (joined es)
unfolding InOrder next
diagnostics source info [] a s i h = absurd h.0
diagnostics source info (e ∷ es) a s i (inl h) = taken (line.Pdu pdu.Diagnostic) information_line (inside.Elements (line.Pdu pdu.DiagnosticSource)) e es a.0 (rw h.0.0 refl) (inside-is (line.Pdu pdu.DiagnosticSource) e.content source h.0.1 s) (informed info es a.1 i h.1)
diagnostics source info (e ∷ es) a s i (inr h) = absurd h.0

outcomes : (result source info : List ℕ) (es : List Parts) → All es → Stands (line.Pdu pdu.ResultNumber) result → Stands (line.Pdu pdu.DiagnosticSource) source → IsInformation info → InOrder (must 0xa2 result ∷ must 0xa3 source ∷ filled 0xbe info ∷ []) es → Stands (line.Pdu pdu.AssociateResult) (joined es)
unfolding InOrder next
outcomes result source info [] a r s i h = absurd h.0
outcomes result source info (e ∷ es) a r s i (inl h) = taken (line.Pdu pdu.AssociateResult) (line.Pdu pdu.Diagnostic) (inside.Elements (line.Pdu pdu.ResultNumber)) e es a.0 (rw h.0.0 refl) (inside-is (line.Pdu pdu.ResultNumber) e.content result h.0.1 r) (diagnostics source info es a.1 s i h.1)
outcomes result source info (e ∷ es) a r s i (inr h) = absurd h.0

answers : (name result source info : List ℕ) (es : List Parts) → All es → Stands (line.Pdu pdu.ContextName) name → Stands (line.Pdu pdu.ResultNumber) result → Stands (line.Pdu pdu.DiagnosticSource) source → IsInformation info → InOrder (must 0xa1 name ∷ must 0xa2 result ∷ must 0xa3 source ∷ filled 0xbe info ∷ []) es → Stands (line.Pdu pdu.ResponseContext) (joined es)
unfolding InOrder next
answers name result source info [] a n r s i h = absurd h.0
answers name result source info (e ∷ es) a n r s i (inl h) = taken (line.Pdu pdu.ResponseContext) (line.Pdu pdu.AssociateResult) context_inside e es a.0 (rw h.0.0 refl) (inside-is (line.Pdu pdu.ContextName) e.content name h.0.1 n) (outcomes result source info es a.1 r s i h.1)
answers name result source info (e ∷ es) a n r s i (inr h) = absurd h.0

responses : (version : Option (List ℕ)) (v : Bool) (name result source info : List ℕ) (es : List Parts) → All es → SaysVersion version v → Stands (line.Pdu pdu.ContextName) name → Stands (line.Pdu pdu.ResultNumber) result → Stands (line.Pdu pdu.DiagnosticSource) source → IsInformation info → InOrder (may 0x80 version ∷ must 0xa1 name ∷ must 0xa2 result ∷ must 0xa3 source ∷ filled 0xbe info ∷ []) es → Stands (line.Pdu pdu.ResponseVersion) (joined es)
unfolding InOrder next
responses version v name result source info [] a k n r s i h = absurd h.1.0
responses None v name result source info (e ∷ es) a k n r s i (inl h) = absurd h.0
responses (Some c) v name result source info (e ∷ es) a k n r s i (inl h) = taken (line.Pdu pdu.ResponseVersion) (line.Pdu pdu.ResponseContext) (inside.Octets contents.ProtocolVersion) e es a.0 (rw h.0.0 refl) (fitting contents.ProtocolVersion e.content c h.0.1 (version-fits c v k)) (answers name result source info es a.1 n r s i h.1)
responses (Some c) v name result source info (e ∷ es) a k n r s i (inr h) = absurd cc
responses None v name result source info (e ∷ es) a k n r s i (inr (l, inl h)) = taken (line.Pdu pdu.ResponseVersion) (line.Pdu pdu.AssociateResult) context_inside e es a.0 (rw h.0.0 refl) (inside-is (line.Pdu pdu.ContextName) e.content name h.0.1 n) (outcomes result source info es a.1 r s i h.1)
responses None v name result source info (e ∷ es) a k n r s i (inr (l, inr h)) = absurd h.0

pub response-stands : (v : Bool) (context : List ℕ) (accepted : Bool) (d : Source) (info bytes : List ℕ) → SpellsResponse v context accepted d info bytes → Stands (line.Pdu pdu.ResponseVersion) bytes
response-stands v context accepted d info bytes r =
    spelled (line.Pdu pdu.ResponseVersion) (may 0x80 r.version ∷ must 0xa1 r.name ∷ must 0xa2 r.result ∷ must 0xa3 r.source ∷ filled 0xbe info ∷ []) bytes
    (λ es a h. responses r.version v r.name r.result r.source info es a r.says_version (context-stands context r.name r.is_context r.holds_context) (result-stands accepted r.result r.holds_result) (source-stands d r.source r.is_diagnostic) r.is_information h) r.in_sequence

-- ---- ABRT

aborts : (by_provider : Bool) (info : List ℕ) (es : List Parts) → All es → IsInformation info → InOrder (must 0x80 (abort_source by_provider ∷ []) ∷ filled 0xbe info ∷ []) es → Stands (line.Pdu pdu.AbortSource) (joined es)
unfolding InOrder next
aborts b info [] a i h = absurd h.0
aborts b info (e ∷ es) a i (inl h) = taken (line.Pdu pdu.AbortSource) information_line (inside.Octets contents.AbortSource) e es a.0 (rw h.0.0 refl) (fitting contents.AbortSource e.content (abort_source b ∷ []) h.0.1 (source-fits b)) (informed info es a.1 i h.1)
aborts b info (e ∷ es) a i (inr h) = absurd h.0

pub abort-stands : (by_provider : Bool) (info bytes : List ℕ) → SpellsAbort by_provider info bytes → Stands (line.Pdu pdu.AbortSource) bytes
abort-stands b info bytes r = spelled (line.Pdu pdu.AbortSource) (must 0x80 (abort_source b ∷ []) ∷ filled 0xbe info ∷ []) bytes (λ es a h. aborts b info es a r.is_information h) r.in_sequence
